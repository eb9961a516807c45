use Rattle.std.proofs.Common.{rules}
use Rattle.obj_store.proofs.Entries.{widened}
use Rattle.obj_store.proofs.objects.add.Goals as goal

pub returns-clause-same : goal.returns-clause-same
returns-clause-same c =
    widened c.args.key.now c.args.objects.now.entries c.insert.new.self.entries c.requires (search rules) (search rules) (search rules)
