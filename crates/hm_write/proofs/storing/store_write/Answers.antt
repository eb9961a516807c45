use Rattle.hm_write.proofs.Stored.{stores_named}
use Rattle.hm_write.proofs.storing.store_write.Goals as goal

pub returns-clause-ok : goal.returns-clause-ok
returns-clause-ok c =
    stores_named c.args.name c.args.cursor.0 c.args.value.now c.args.store.now c.put_named.new.self c.put_named.result c.put_named.ensures.ok
