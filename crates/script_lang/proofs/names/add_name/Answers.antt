use Rattle.script_lang.proofs.KnownNames.{name_added}
use Rattle.script_lang.proofs.names.add_name.Goals as goal

pub returns : goal.returns
returns c = name_added c.args.known.now c.insert.new.self c.args.name c.in_ok-insert.ensures.updates
