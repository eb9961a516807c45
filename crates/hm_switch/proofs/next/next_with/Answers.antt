use Rattle.std.proofs.Common.{◌∙◌}
use Rattle.hm_switch.proofs.NextOnes.{read_is}
use Rattle.hm_switch.proofs.next.next_with.Goals as goal

pub returns : goal.returns
returns c = c.read_next.ensures ∙ read_is c.args.book.now c.args.engine c.args.tag.0 c.args.behind c.requires.tag
