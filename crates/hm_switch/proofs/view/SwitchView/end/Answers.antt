use Rattle.std.proofs.Common.{◌∙◌, refl, sym, ap, subst}
use Rattle.step_log.specs.Sound.{view}
use Rattle.hm_switch.specs.Lives.{AreLives}
use Rattle.hm_switch.specs.SwitchStates.{SwitchState}
use Rattle.hm_switch.proofs.Marked.{pends}
use Rattle.hm_switch.proofs.view.SwitchView.end.Goals as goal

pub returns-in-Some-least_open-clause-ok : goal.returns-in-Some-least_open-clause-ok
returns-in-Some-least_open-clause-ok c =
    let seen = view c.args.book.now c.args.engine in
    let lives = subst (λ (s : SwitchState). AreLives seen s.phases s.opened) (sym c.self.view_is) c.requires.current.fold.lives in (
      pends c.args.book.now c.args.engine c.args.self.now c.in-Some.switch _ c.requires.current
          (sym (ap (λ (s : SwitchState). s.pending) c.self.view_is) ∙ c.in-Some.is)
          (sym c.in-Some-least_open.is ∙ c.least_open.ensures seen lives),
      refl,
    )

pub returns-in_ok-sent-in-None-clause-ok : goal.returns-in_ok-sent-in-None-clause-ok
returns-in_ok-sent-in-None-clause-ok c =
    let seen = view c.args.book.now c.args.engine in
    let lives = subst (λ (s : SwitchState). AreLives seen s.phases s.opened) (sym c.self.view_is) c.requires.current.fold.lives in (
      pends c.args.book.now c.args.engine c.args.self.now c.in-Some.switch _ c.requires.current
          (sym (ap (λ (s : SwitchState). s.pending) c.self.view_is) ∙ c.in-Some.is)
          (sym c.in-None.is ∙ c.least_open.ensures seen lives),
      c.in_ok-sent-in-None.ensures.ok,
    )
