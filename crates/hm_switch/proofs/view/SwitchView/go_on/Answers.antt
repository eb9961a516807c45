use Rattle.std.proofs.Common.{ℕ, suc, sym, ap, subst, ◌∙◌}
use Rattle.book_api.specs.Books.{position}
use Rattle.step_log.specs.Sound.{view}
use Rattle.hm_switch.specs.Next.{AreUnmarked, IsNext}
use Rattle.hm_switch.specs.SwitchStates.{GoesOn}
use Rattle.hm_switch.proofs.Going.{passes, goes_to}
use Rattle.hm_switch.proofs.Marked.{on_ok}
use Rattle.hm_switch.proofs.view.SwitchView.go_on.Goals as goal

pub returns-in-Some : goal.returns-in-Some
returns-in-Some c =
    let book = c.args.book.now in
    let next = subst (λ n. IsNext n c.in-Some.seq.0 (view book c.args.engine)) c.place.ensures c.in-Some.ensures in
    on_ok c.go_to.result (goes_to book c.args.engine c.requires.sound c.args.self.now c.go_to.new.self c.in-Some.seq.0 c.requires.follows next) c.go_to.ensures

pub returns-in-None : goal.returns-in-None
returns-in-None c =
    let book = c.args.book.now in
    let none = subst (λ n. AreUnmarked n (suc (position book c.args.engine)) (view book c.args.engine)) c.place.ensures c.in-None.ensures in
    subst (GoesOn book c.args.engine c.args.self.now)
    (sym (c.pass_to.ensures ∙ ap (λ (n : ℕ). record c.args.self.now { position = n }) c.position-end.ensures))
    (passes book c.args.engine c.requires.sound c.args.self.now c.requires.follows c.requires.lacks none)
