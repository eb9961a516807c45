use Rattle.std.proofs.Common.{◌≡◌, ◌+◌, ◌-◌, ℕ, true, is_some, sym, ap, subst, ◌∙◌, arith}
use Rattle.std.proofs.lemmas.Result.{err_from_is_err_and}
use Rattle.boki_model.specs.Maps.{get}
use Rattle.boki_machine.specs.Ideal.{perform_many}
use Rattle.ideal_run.specs.Kept.{Maps, maps_of}
use Rattle.ideal_run.specs.Standing.{MapsStandFor, with_running}
use Rattle.ideal_run.specs.Turned.{LeadsTo, RunsAs}
use Rattle.ideal_run.proofs.Turning.{idle, go_idle, frameless, runs_from, ran}
use Rattle.ideal_run.proofs.state.State.go.Goals as goal

pub returns-in_err-running-clause-illegal : goal.returns-in_err-running-clause-illegal
returns-in_err-running-clause-illegal c =
    let told = err_from_is_err_and c.from_residual.result c.from_residual.ensures.1 in
    rw (told.1, told.2) (λ is m stands.
    let fs = c.args.program.now.functions in
    go_idle fs c.args.path m c.args.n (idle fs m (maps_of c.args.self.now) c.args.path stands (c.in_err-running.ensures.illegal is)))

pub returns-else-n-eq0-clause-illegal : goal.returns-else-n-eq0-clause-illegal
returns-else-n-eq0-clause-illegal c = λ _ m stands.
    let fs = c.args.program.now.functions in
    let more = c.if-n-eq0.false in
    let none = subst (RunsAs (get c.args.path c.args.self.now.invocations.entries)) c.in_default.is c.in_ok-running.ensures.ok in
    ap (λ (k : ℕ). perform_many fs k c.args.path m) (let e : c.args.n ≡ 1 + (c.args.n - 1) = omega (arith, more) in e)
    ∙ frameless fs m (maps_of c.args.self.now) c.args.path stands none.0 none.1 none.2 (c.args.n - 1)

pub returns-in-Ok-clause-ok : goal.returns-in-Ok-clause-ok
returns-in-Ok-clause-ok c = λ m stands.
    let fs = c.args.program.now.functions in
    let p = c.args.path in
    let known = subst (RunsAs (get p c.args.self.now.invocations.entries)) c.in-Some.is c.in_ok-running.ensures.ok in
    let from = subst (λ (x : Maps). MapsStandFor fs m (with_running p c.in-Some.running x)) (sym c.keep.ensures.maps) (runs_from fs m (maps_of c.args.self.now) p c.in-Some.running known stands) in
    let there : is_some (get p c.keep.new.self.invocations.entries) ≡ true = ap (λ (x : Maps). is_some (get p x.invocations)) c.keep.ensures.maps ∙ ap is_some known in
    subst (LeadsTo fs (perform_many fs c.args.n p m)) (sym c.keep-in-Ok.ensures.maps)
    (ran fs (perform_many fs c.args.n p m) (maps_of c.steps.new.self) p c.steps.new.running c.restore.new.map.entries (c.in-Ok.ensures.known there) c.restore.ensures (c.in-Ok.ensures.ok m from))

pub returns-in-Err-clause-illegal : goal.returns-in-Err-clause-illegal
returns-in-Err-clause-illegal c = λ is m stands.
    let fs = c.args.program.now.functions in
    let p = c.args.path in
    let known = subst (RunsAs (get p c.args.self.now.invocations.entries)) c.in-Some.is c.in_ok-running.ensures.ok in
    let from = subst (λ (x : Maps). MapsStandFor fs m (with_running p c.in-Some.running x)) (sym c.keep.ensures.maps) (runs_from fs m (maps_of c.args.self.now) p c.in-Some.running known stands) in
    c.in-Err.ensures.illegal is m from
