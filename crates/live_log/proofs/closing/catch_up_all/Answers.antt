use Rattle.std.proofs.Common.{rules, arith, ◌≡◌, ◌+◌, ℕ, suc, List, take, drop, set, get_or, refl, ◌∙◌, subst}
use Rattle.live_log.specs.Appended.{Appended}
use Rattle.live_log.specs.Engines.{Engine}
use Rattle.live_log.specs.Closing.{IsCaughtUp, IsLater, Pointwise}
use Rattle.live_log.proofs.ClosedList.{caught_more, later_mixed, later_caught, caught_all}
use Rattle.live_log.proofs.closing.catch_up_all.Goals as goal

pub returns-in_err-catch_up_one-clause-later : goal.returns-in_err-catch_up_one-clause-later
returns-in_err-catch_up_one-clause-later g c =
    let i = c.loop-at.invariant in
    let es : List Engine = c.args.engines.now.items in
    let fs : List Engine = c.loop-at.engines.items in
    let at : ℕ = c.loop-at.at in
    let e : Engine = c.index_mut.result.now in
    let f : Engine = c.catch_up_one.new.engine in
    let was : e ≡ get_or fs at e = search rules in
    later_mixed c.args.sequencer.now es fs at e f i.2 i.3 (search rules) (subst (λ (z : Engine). IsLater z f) was c.catch_up_one.ensures.later)

pub loop-at-preserved : goal.loop-at-preserved
loop-at-preserved g c =
    let i = c.loop-at.invariant in
    let list : List Appended = c.args.sequencer.now in
    let es : List Engine = c.args.engines.now.items in
    let fs : List Engine = c.loop-at.engines.items in
    let at : ℕ = c.loop-at.at in
    let e : Engine = c.index_mut.result.now in
    let f : Engine = c.catch_up_one.new.engine in
    let was : e ≡ get_or fs at e = search rules in
    let caught : IsCaughtUp list e f = subst (λ (l : List Appended). IsCaughtUp l e f) i.0 (c.in_ok-catch_up_one.ensures.caught refl) in
    let more = caught_more list es fs at e f i.2 i.3 (search rules) (subst (λ (z : Engine). IsCaughtUp list z f) was caught) in
    let one : suc at ≡ at + 1 = omega arith in (
      c.catch_up_one.ensures.sequencer ∙ i.0,
      search rules,
      subst (λ (n : ℕ). Pointwise (IsCaughtUp list) (take n es) (take n (set fs at f))) one more.0,
      subst (λ (n : ℕ). drop n (set fs at f) ≡ drop n es) one more.1,
      search rules,
    )

pub returns-clause-later : goal.returns-clause-later
returns-clause-later g c =
    let i = c.loop-at.invariant in
    let list : List Appended = c.args.sequencer.now in
    let es : List Engine = c.args.engines.now.items in
    let fs : List Engine = c.loop-at.engines.items in
    later_caught list es fs (caught_all list es fs c.loop-at.at (search rules) (search rules) i.2)
