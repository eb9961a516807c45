-- Frames: the function that a frame is of, its start, and what an answer makes of it.
use Rattle.std.proofs.Common.{◌≡◌, ◌<◌, ◌≤◌, ◌∙◌, ap, sym, refl, ℕ, zero, suc, ◌+◌, List, [], ◌∷◌, length, get_or, slice_get, drop, Bool, cond, Option, Some, None, option_map, option_and_then, arith}
use Rattle.std.proofs.lemmas.Bool.Decides.{Decides-eqb}
use Rattle.lb_base.specs.declared.value.Value.{Value}
use Rattle.lb_base.specs.declared.value.TrapKind.{TrapKind}
use Rattle.boki_types.specs.declared.program.Stmt.{Stmt}
use Rattle.boki_types.specs.declared.program.Function.{Function}
use Rattle.boki_types.specs.declared.operation.Op.{Op}
use Rattle.boki_types.specs.declared.operation.Ask.{Ask}
use Rattle.boki_types.specs.declared.operation.Ask.TheVariants as k
use Rattle.boki_types.specs.declared.operation.Answer.{Answer}
use Rattle.boki_types.specs.Finding.{function_at, arity}
use Rattle.boki_model.specs.Script as script
use Rattle.script_run.specs.Standing.{state_from, stop_point_at, target_of}
use Rattle.script_run.specs.Answering.{received, put_each}
use Rattle.script_run.specs.Frames.{FrameState, FrameStandsFor, stop_point_of, lines_of}
use Rattle.script_run.proofs.Sets.{set_each_is}

pub function_is : (n : ℕ) (fs : List Function) (f : Function) → n < length fs → f ≡ get_or fs n f → function_at n fs ≡ Some f
function_is n [] f within is = absurd (omega arith)
function_is zero (g ∷ fs) f within is = ap Some (sym is)
function_is (suc n) (g ∷ fs) f within is = function_is n fs f (omega arith) is

pub arity_is : (n : ℕ) (fs : List Function) (f : Function) → n < length fs → f ≡ get_or fs n f → arity n fs ≡ length f.params
arity_is n [] f within is = absurd (omega arith)
arity_is zero (g ∷ fs) f within is = ap (λ (h : Function). length h.params) (sym is)
arity_is (suc n) (g ∷ fs) f within is = arity_is n fs f (omega arith) is

-- a function with as many arguments as it has parameters begins
pub begins_at : (fs : List Function) (n : ℕ) (args : List Value) (depth : ℕ) (f : Function) → n < length fs → f ≡ get_or fs n f → arity n fs ≡ length args → script.stop_point fs n args depth [] ≡ Some (script.run_script fs depth f.lines (script.initial_state f.params args))
begins_at fs n args depth f within is fits =
    ap (script.start_function fs depth args) (function_is n fs f within is)
    ∙ ap (λ (b : Bool). cond b (Some (script.run_script fs depth f.lines (script.initial_state f.params args))) None) ((Decides-eqb (length f.params) (length args)).1 (sym (arity_is n fs f within is) ∙ fits))

pub opening_is : (params : List (List ℕ)) (args : List Value) → script.initial_state params args ≡ record { variables = put_each params args []; blocks = []; spawned = 0; transaction = None }
opening_is params args = set_each_is params args (record { variables = []; blocks = []; spawned = 0; transaction = None })

-- An answer: the frame that was, the one that is, and the operation between them.
pub answer_moves : (fs : List Function) (function : ℕ) (args : List Value) (depth : ℕ) (answers : List Answer) (answer : Answer) (old new : FrameState) (op : Op) (lines : List Stmt) (why : Option TrapKind) (t : script.State) → lines ≡ lines_of (function_at old.function fs) → old.ask ≡ k.Op op → script.apply_answer op (target_of (slice_get lines old.at)) answer (state_from lines old.made) ≡ Some (received why t) → script.continue_after fs old.depth (drop (old.at + 1) lines) (received why t) ≡ stop_point_of fs new → new.function ≡ old.function → new.depth ≡ old.depth → FrameStandsFor fs function args depth answers old → FrameStandsFor fs function args depth (answer ∷ answers) new
answer_moves fs function args depth answers answer old new op lines why t same asks taken goes_on same_function same_depth h = record {
  same_function = same_function ∙ h.same_function;
  same_depth = same_depth ∙ h.same_depth;
  stands = ap (option_and_then (script.resume fs depth answer)) h.stands
      ∙ ap (λ (ls : List Stmt). script.resume fs depth answer (stop_point_at ls old.ask old.at (state_from ls old.made))) (sym same)
      ∙ ap (λ (ask : Ask). script.resume fs depth answer (stop_point_at lines ask old.at (state_from lines old.made))) asks
      ∙ ap (option_map (script.continue_after fs depth (drop (old.at + 1) lines))) taken
      ∙ ap (λ (d : ℕ). Some (script.continue_after fs d (drop (old.at + 1) lines) (received why t))) (sym h.same_depth)
      ∙ ap Some goes_on;
}

pub function_none : (n : ℕ) (fs : List Function) → length fs ≤ n → function_at n fs ≡ None
function_none n [] past = refl
function_none zero (f ∷ fs) past = absurd (omega arith)
function_none (suc n) (f ∷ fs) past = function_none n fs (omega arith)
