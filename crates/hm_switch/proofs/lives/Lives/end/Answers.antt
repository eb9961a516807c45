use Rattle.std.proofs.Common.{sym, ap, ◌∙◌}
use Rattle.hm_switch.proofs.GoesOn.{closes, closes_none, says_open}
use Rattle.hm_switch.proofs.Found.{since_open, not_open}
use Rattle.hm_switch.proofs.lives.Lives.end.Goals as goal

pub returns-in-Some : goal.returns-in-Some
returns-in-Some c = λ seq x records comes are.
    closes seq x records c.args.self.now.phases.entries c.args.self.now.opened.entries are c.args.path comes c.insert.new.self.entries c.in_ok-phase.ensures.updates.0
    c.in-Some.begun (sym c.in_ok-phase.ensures.old ∙ since_open c.in_ok-phase.phase c.in-Some.begun (sym c.open_since.ensures ∙ c.in-Some.is)) c.remove.new.self.entries c.remove.ensures.entries

pub returns-in-None : goal.returns-in-None
returns-in-None c = λ seq x records comes are.
    closes_none seq x records c.args.self.now.phases.entries c.args.self.now.opened.entries are c.args.path comes c.insert.new.self.entries c.in_ok-phase.ensures.updates.0
    (ap says_open (sym c.in_ok-phase.ensures.old) ∙ not_open c.in_ok-phase.phase (sym c.open_since.ensures ∙ c.in-None.is))
