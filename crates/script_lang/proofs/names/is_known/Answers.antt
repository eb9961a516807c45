use Rattle.std.proofs.Common.{◌∙◌}
use Rattle.script_lang.proofs.KnownNames.{among_in}
use Rattle.script_lang.proofs.names.is_known.Goals as goal

pub returns : goal.returns
returns c = c.contains.ensures ∙ among_in c.args.name.now c.args.known.now.keys
