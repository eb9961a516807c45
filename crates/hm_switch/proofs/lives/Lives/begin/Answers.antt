use Rattle.std.proofs.Common.{sym, ◌∙◌}
use Rattle.hm_switch.proofs.GoesOn.{known_again, opens_new}
use Rattle.hm_switch.proofs.lives.Lives.begin.Goals as goal

pub returns-then-contains_key : goal.returns-then-contains_key
returns-then-contains_key c = λ x records comes are.
    known_again c.args.seq x records c.args.self.now.phases.entries c.args.self.now.opened.entries are c.args.path comes
    (sym c.contains_key.ensures ∙ c.if-contains_key.true)

pub returns : goal.returns
returns c = λ x records comes are.
    opens_new c.args.seq x records c.args.self.now.phases.entries c.args.self.now.opened.entries are c.args.path comes
    (sym c.contains_key.ensures ∙ c.if-contains_key.false) c.insert.new.self.entries c.insert-2.new.self.entries
    c.in_ok-insert.ensures.updates.0 c.in_ok-insert-2.ensures.entries
