use Rattle.std.proofs.Common.{◌≡◌, ◌-◌}
use Rattle.line_text.specs.Lists.{at_most, comma_list}
use Rattle.line_text.proofs.ListLemmas.{behind_several}
use Rattle.line_text.proofs.lists.read_comma_list.Given as goal

abbrev pub invariant-elements : goal.invariant-elements
invariant-elements g l =
    (behind_several l.count l.items (at_most g.T.Element.reads (l.end - l.counter) l.tokens) ≡ comma_list g.T.Element.reads l.fn.tokens)
    × (l.count ≡ l.counter)
