use Rattle.std.proofs.Common.{length, true, refl, sym, ap, ◌∙◌}
use Rattle.live_text.specs.declared.answers.LiveRan.{LiveRan}
use Rattle.live_text.specs.Outputs.{IsRunOf}
use Rattle.live_work.proofs.Teams.{length_engines, run_is_right, ok_is, some_ran}
use Rattle.live_work.proofs.run.run_on.Goals as goal

pub returns : goal.returns
returns g c =
    let vs = c.in-Ok-enlist.team.items in
    let ws = c.work_team.new.team.items in
    let n = g.J.Naming.engines in
    let same = c.in-Ok-enlist.ensures in
    some_ran c.ran_of.result _ (λ (x : LiveRan). IsRunOf c.args.text.now x) (λ x p.
    run_is_right g.D.Door.refusals n c.args.text.now vs ws x
    (sym c.requires.engines.0 ∙ c.requires.engines.1)
    (sym (length_engines vs) ∙ ap (λ l. length l) same ∙ c.in-Ok.ensures.0 ∙ c.requires.engines.1)
    (rw same c.in-Ok.ensures.1)
    c.work_team.ensures.worked
    (rw (← c.as_slice.ensures.value) (ok_is c.all_ran-ran.result true _ p.0 c.all_ran-ran.ensures refl))
    (rw (← c.disband-engines.ensures.engines) (ok_is c.list_of.result x.list _ p.1 c.list_of.ensures.list))
    (ok_is c.list_of.result x.list _ p.1 c.list_of.ensures.by)
    (p.2 ∙ c.disband-engines.ensures.answers))
    c.ran_of.ensures
