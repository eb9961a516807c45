use Rattle.hm_write.proofs.Stored.{puts_free}
use Rattle.hm_write.proofs.storing.put_w.Goals as goal

pub returns-clause-ok : goal.returns-clause-ok
returns-clause-ok c =
    puts_free c.args.key.now c.args.cursor.0 c.args.k c.args.value.now c.args.store.now c.put_at.new.self c.put_at.result c.put_at.ensures.ok
