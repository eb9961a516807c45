use Rattle.std.proofs.Common.{sym, ap, ◌∙◌}
use Rattle.hm_switch.proofs.Firsts.{from_on}
use Rattle.hm_switch.proofs.Found.{from_seqnum, ended_is}
use Rattle.hm_switch.proofs.lives.Lives.all_ended.Goals as goal

pub returns-in-Some : goal.returns-in-Some
returns-in-Some c = λ records are.
    from_seqnum c.args.below c.in-Some.seq
    ∙ ap (from_on c.args.below) (sym c.in-Some.is ∙ c.first_open.ensures records are)
    ∙ sym (ended_is records c.args.self.now.phases.entries c.args.self.now.opened.entries are c.args.below)

pub returns-in-None : goal.returns-in-None
returns-in-None c = λ records are.
    ap (from_on c.args.below) (sym c.in-None.is ∙ c.first_open.ensures records are)
    ∙ sym (ended_is records c.args.self.now.phases.entries c.args.self.now.opened.entries are c.args.below)
