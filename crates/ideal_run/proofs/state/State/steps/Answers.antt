use Rattle.std.proofs.Common.{◌≡◌, ◌+◌, ◌-◌, ℕ, suc, refl, ap, ◌∙◌, arith}
use Rattle.std.specs.Prelude.{option_map, option_and_then}
use Rattle.std.proofs.lemmas.Result.{err_from_is_err_and}
use Rattle.boki_machine.specs.Ideal.{Invocation, perform_next, perform_many}
use Rattle.ideal_run.specs.Kept.{maps_of}
use Rattle.ideal_run.proofs.Steps.{runs}
use Rattle.ideal_run.proofs.Turning.{go_none}
use Rattle.ideal_run.proofs.state.State.steps.Goals as goal

pub steps-init : goal.steps-init
steps-init c = record {
  leads = λ m stands. record {
    state = m;
    is = ap (option_map (λ (i : Invocation). m)) (runs c.args.program.now.functions c.args.path c.args.running.now (maps_of c.args.self.now) m stands);
    stands = stands;
  };
  known = λ k. k;
  undo = refl;
}

pub returns-in_err-step-clause-illegal : goal.returns-in_err-step-clause-illegal
returns-in_err-step-clause-illegal c =
    let told = err_from_is_err_and c.from_residual.result c.from_residual.ensures.1 in
    rw (told.1, told.2) (λ is m stands.
    let fs = c.args.program.now.functions in
    let p = c.args.path in
    let was = c.steps.invariant.leads m stands in
    let less = c.steps-test.true in
    ap (λ (k : ℕ). perform_many fs k p m) (let e : c.args.n ≡ suc c.steps._done + (c.args.n - suc c.steps._done) = omega (arith, less) in e)
    ∙ go_none fs p m (suc c.steps._done) (c.args.n - suc c.steps._done)
    (ap (option_and_then (perform_next fs p)) was.is ∙ c.in_err-step.ensures.illegal is was.state was.stands))

pub steps-preserved : goal.steps-preserved
steps-preserved c = record {
  leads = λ m stands.
      let fs = c.args.program.now.functions in
      let p = c.args.path in
      let was = c.steps.invariant.leads m stands in
      let next = c.in_ok-step.ensures.ok was.state was.stands in
      record {
        state = next.state;
        is =
            ap (λ (k : ℕ). perform_many fs k p m) (let e : c.steps._done + 1 ≡ suc c.steps._done = omega arith in e)
            ∙ ap (option_and_then (perform_next fs p)) was.is ∙ next.is;
        stands = next.stands;
      };
  known = λ h. c.in_ok-step.ensures.known (c.steps.invariant.known h);
  undo = c.step.ensures.undo ∙ c.steps.invariant.undo;
}
