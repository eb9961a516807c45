use Rattle.std.proofs.Common.{◌≡◌, ◌∙◌, ℕ, suc, ◌-◌, ◌<◌, length, refl, sym, ap, subst, arith}
use Rattle.lb_base.specs.declared.value.Mode.{Mode}
use Rattle.boki_model.specs.Modes.{mode_after}
use Rattle.boki_machine.specs.Step.{records_below}
use Rattle.step_log.specs.Sound.{view}
use Rattle.hm_switch.specs.SwitchStates.{SwitchState, Follows}
use Rattle.boki_flow.proofs.Standing.{weaker_ok}
use Rattle.boki_flow.proofs.CacheFolds.{switch_kept}
use Rattle.boki_flow.proofs.caches.mode_at.Goals as goal

pub mode_in-requires-clause-follows : goal.mode_in-requires-clause-follows
mode_in-requires-clause-follows c =
    let stands = c.requires.stands in
    let has = c.requires.there in
    let lt : c.args.engine - 1 < length c.args.parts.now.switches.items = (let count = stands.sizes.switches in let engines = stands.sizes.engines in omega (arith, has.0, has.1, count, engines)) in
    let same : suc (c.args.engine - 1) ≡ c.args.engine = omega (arith, has.0) in
    subst (λ (n : ℕ). Follows c.args.parts.now.book n c.index_mut-switches.result.now) same
    (subst (Follows c.args.parts.now.book (suc (c.args.engine - 1))) (sym c.index_mut-switches.ensures.value)
    (stands.folds.switches (c.args.engine - 1) c.index_mut-switches.result.now lt).follows)

pub returns-clause-mode : goal.returns-clause-mode
returns-clause-mode c = weaker_ok c.mode_in.result _ _ c.mode_in.ensures.mode (λ mode is setup store stands.
    let has = c.requires.there in
    let lt : c.args.engine - 1 < length c.args.parts.now.switches.items = (let count = stands.sizes.switches in let engines = stands.sizes.engines in omega (arith, has.0, has.1, count, engines)) in
    is ∙ ap (λ (first : Mode). mode_after first (records_below c.args.seq.0 (view c.args.parts.now.book c.args.engine)))
    (ap (λ (s : SwitchState). s.first) c.index_mut-switches.ensures.value ∙ (stands.folds.switches (c.args.engine - 1) c.index_mut-switches.result.now lt).first))

pub returns-clause-parts : goal.returns-clause-parts
returns-clause-parts c =
    let stands = c.requires.stands in
    let has = c.requires.there in
    let lt : c.args.engine - 1 < length c.args.parts.now.switches.items = (let count = stands.sizes.switches in let engines = stands.sizes.engines in omega (arith, has.0, has.1, count, engines)) in
    let same : suc (c.args.engine - 1) ≡ c.args.engine = omega (arith, has.0) in
    switch_kept c.args.parts.now _ refl refl refl refl (c.args.engine - 1) c.mode_in.new.switches c.index_mut-switches.result.now lt refl refl refl
    (c.mode_in.ensures.first ∙ ap (λ (s : SwitchState). s.first) c.index_mut-switches.ensures.value)
    (subst (λ (n : ℕ). Follows c.args.parts.now.book n c.mode_in.new.switches) (sym same) c.mode_in.ensures.follows)
