-- The turns that a text spells can be handed to an execution.
use Rattle.std.proofs.Common.{◌≡◌, ◌<◌, ◌^◌, ℕ, true, List, [], ◌∷◌, length, Ok, ap, subst, arith}
use Rattle.std.specs.Prelude.{◌&&◌, IsTrue}
use Rattle.std.specs.List.{list_all}
use Rattle.lb_base.specs.Path.{is_request}
use Rattle.lb_base.specs.declared.value.Value.{Value}
use Rattle.boki_types.specs.declared.plan.Plan.{Plan}
use Rattle.boki_types.specs.declared.program.Function.{Function}
use Rattle.boki_types.specs.declared.turn.Turn.{Turn}
use Rattle.boki_types.specs.declared.turn.Turn.TheVariants as u
use Rattle.boki_types.specs.declared.turn.TurnText.{TurnText}
use Rattle.boki_types.specs.Finding.{function_at}
use Rattle.boki_model.specs.Bodies.{is_value}
use Rattle.boki_model.specs.Plans.{has_arity}
use Rattle.line_text.proofs.FieldsInRange.{split_true}
use Rattle.plan_lang.specs.Turns.{turns_of}
use Rattle.plan_lang.specs.TurnTexts.{is_turn}
use Rattle.plan_lang.proofs.CleanTurns.{is_clean_turn}
use Rattle.plan_lang.proofs.PlansInLimits.{few_functions}
use Rattle.plan_lang.proofs.TurnScans.{origin, turn_test}
use Rattle.ideal_run.specs.Turned.{HasRequest}
use Rattle.judge_call.specs.Turns.{CanBeDone, HaveRequests}

has_request : (fs : List Function) (t : Turn) → is_turn fs t ≡ true → HasRequest t
has_request fs (u.Submit request f args) h =
    let a = split_true (is_request request && list_all is_value args) (has_arity (length args) (function_at f fs)) h in
    (split_true (is_request request) (list_all is_value args) a.0).0
has_request fs (u.Go path n) h = tt
has_request fs (u.End path) h = tt

have_requests : (fs : List Function) (turns : List (ℕ × Turn)) → list_all (turn_test fs) turns ≡ true → HaveRequests turns
have_requests fs [] h = tt
have_requests fs (x ∷ xs) h =
    let s = split_true (turn_test fs x) (list_all (turn_test fs) xs) h in
    let t = split_true (is_turn fs x.1) (is_clean_turn x.1) s.0 in
    (has_request fs x.1 t.0, have_requests fs xs s.1)

pub can_be_done : (text : List ℕ) (t : TurnText) → turns_of text ≡ Ok t → CanBeDone t
can_be_done text t e =
    let o = origin text t e in
    let few = few_functions (length o.head.draft.functions) o.head.draft.stage o.read.good.draft.stage in
    record {
      few = subst (λ (p : Plan). length p.program.functions < 2 ^ 32) o.plan (omega (arith, few));
      requests = have_requests o.head.draft.functions t.turns o.turns;
    }
