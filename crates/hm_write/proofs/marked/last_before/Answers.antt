use Rattle.std.proofs.Common.{◌≡◌, ◌-◌, ◌∙◌, suc, option_map, IfOk, sym, ap, subst, arith}
use Rattle.obj_store.specs.StandsFor.{last_logged}
use Rattle.step_log.specs.Sound.{view}
use Rattle.hm_read.specs.LastWrites.{write_parts}
use Rattle.hm_write.proofs.Marking.{none_below}
use Rattle.hm_write.proofs.marked.last_before.Goals as goal

pub returns-then-at-eq0 : goal.returns-then-at-eq0
returns-then-at-eq0 c = λ sound.
    let seen = view c.args.book.now c.args.engine in
    none_below c.args.key.now seen ∙ ap (λ n. last_logged c.args.key.now n seen) (sym c.if-at-eq0.true)

pub returns : goal.returns
returns c = λ sound.
    let seen = view c.args.book.now c.args.engine in
    subst (λ n. IfOk c.last_write.result (λ w. option_map write_parts w ≡ last_logged c.args.key.now n seen)) (let e : suc (c.args.at.0 - 1) ≡ c.args.at.0 = omega arith in e)
    (c.last_write.ensures sound)
