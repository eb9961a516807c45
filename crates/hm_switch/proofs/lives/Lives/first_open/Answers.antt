use Rattle.std.proofs.Common.{ℕ, List, sym, ap, ◌∙◌, option_map}
use Rattle.hm_switch.proofs.Found.{first_is, no_entry}
use Rattle.hm_switch.proofs.lives.Lives.first_open.Goals as goal

pub returns-in-Some : goal.returns-in-Some
returns-in-Some c = λ records are.
    sym (ap (option_map (λ (e : ℕ × List ℕ). e.0)) c.in-Some.ensures.first)
    ∙ first_is records c.args.self.now.phases.entries c.args.self.now.opened.entries are

pub returns-in-None : goal.returns-in-None
returns-in-None c = λ records are.
    sym (no_entry c.args.self.now.opened.entries (λ lt. let some = c.in-None.ensures.variant.1 lt in cc))
    ∙ first_is records c.args.self.now.phases.entries c.args.self.now.opened.entries are
