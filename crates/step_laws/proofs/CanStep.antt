-- Each attempt of a machine that is kept can be stepped.
use Rattle.std.proofs.Common.{◌≡◌, ◌∙◌, inl, inr, ⊎_elim, ℕ, zero, suc, ◌≤◌, ◌<◌, ◌^◌, true, List, [], ◌∷◌, length, map, Some, sym, ap, subst, arith}
use Rattle.std.proofs.lemmas.Bool.{and_parts, ltb-true, lt-ltb}
use Rattle.std.specs.List.{AllByRecursion}
use Rattle.std.specs.Prelude.{unwrap_or}
use Rattle.boki_types.specs.declared.operation.Op.TheVariants as o
use Rattle.boki_types.specs.declared.operation.Ask.{Ask}
use Rattle.boki_types.specs.declared.operation.Ask.TheVariants as k
use Rattle.boki_types.specs.declared.plan.Setup.{Setup}
use Rattle.boki_types.specs.declared.program.Function.{Function}
use Rattle.boki_model.specs.Bodies.{is_u64, is_name, is_value}
use Rattle.boki_machine.specs.Attempt.{Attempt, next_index, call_of}
use Rattle.boki_machine.specs.Step.{attempt_ask}
use Rattle.boki_machine.specs.Machine.{NumberedAttempt, position}
use Rattle.exactly_once.specs.FurtherLaws.Words.{values_only, IsAmong}
use Rattle.boki_model.specs.Live.{upto}
use Rattle.exactly_once.specs.FurtherLaws.StepRecords.{step_seqnums}
use Rattle.exactly_once.specs.Induction.Invariant.{World, records, Follows, InvariantHolds}
use Rattle.exactly_once.specs.Induction.OpeningHolds.{world_of}
use Rattle.exactly_once.proofs.Attempts.ActingAttempt.{following, up_to, fit_here}
use Rattle.exactly_once.proofs.Attempts.FreeSteps.{not_fresh}
use Rattle.exactly_once.proofs.Invocations.NextRecord.{is_called}
use Rattle.exactly_once.proofs.Invocations.RecordAtPlace.{none_begun}
use Rattle.exactly_once.proofs.Invocations.SamePlace.{called_upto, place_is}
use Rattle.boki_model.proofs.Logs.{upto-upto}
use Rattle.script_ranges.specs.Asks.{AreFunctions, is_ask}
use Rattle.script_ranges.specs.Ranged.{AttemptInRange}
use Rattle.script_ranges.proofs.Scripts.{asks_are_ranged}
use Rattle.script_ranges.proofs.Bodies.{asks_make_records, calls_fit, engines_see_ranged}
use Rattle.machine_laws.proofs.Adopts.{adopts_its_ask}
use Rattle.machine_laws.proofs.Children.{children_have_paths}
use Rattle.machine_laws.proofs.Ends.{holding_ends_last}
use Rattle.machine_laws.proofs.Kept.{holding_keeps_writes}
use Rattle.machine_laws.proofs.Settled.{settled_is_below}
use Rattle.machine_laws.proofs.Views.{running_see_their_cursor}
use Rattle.step_laws.specs.CanStep.{CanAsk, SeesCall, AttemptsCanStep}
use Rattle.step_laws.specs.Kept.{IsEngine}

-- what each attempt has, one of them has
among_has : (P : Attempt → Type 0) (a : Attempt) (xs : List NumberedAttempt) → AllByRecursion (λ x. P x.attempt) xs → IsAmong a (map (λ x. x.attempt) xs) → P a
among_has P a [] all among = absurd among
among_has P a (x ∷ xs) all (inl same) = subst P (sym same) all.0
among_has P a (x ∷ xs) all (inr rest) = among_has P a xs all.1 rest

-- a place and a begin have 64 bits where the index of the next operation has
place_fits : (place index : ℕ) → place ≤ index → is_u64 index ≡ true → is_u64 place ≡ true
place_fits place index le fits = let lt = ltb-true index (2 ^ 64) fits in lt-ltb place (2 ^ 64) (omega (arith, le, lt))

module _ (fs : List Function) (are : AreFunctions fs) (a : Attempt) (range : AttemptInRange fs a) where
  asked : (ask : Ask) → attempt_ask fs a ≡ Some ask → is_ask fs (length a.path) ask ≡ true
  asked ask is = asks_are_ranged fs a.function a.args (length a.path) a.answers ask are range.args range.answers is

  can_ask : CanAsk fs a
  can_ask = record {
    sends = λ ask here is index fits.
        (asks_make_records fs a.path (next_index a.answers) a.place here (unwrap_or a.transaction 0) ask are range.path (omega arith) index
        (place_fits a.place (next_index a.answers) range.place index) fits range.begun (asked ask is)).range;
    writes = λ key v is. (and_parts (is_name key) (is_value v) (asked (k.Op (o.Write key v)) is)).1;
    children = λ op is. children_have_paths fs a.function a.args a.path a.answers op range.path is;
  }

-- an attempt that has adopted its Init sees the call that began it, below its cursor
module _ (setup : Setup) (fs : List Function) (w : World) (holds : InvariantHolds setup fs w) (a : Attempt) (among : IsAmong a w.attempts) where
  sees_call : (place p : ℕ) → a.place ≡ suc place → a.cursor ≤ p → SeesCall a.path (upto p (records w))
  sees_call place p begun le =
      let f = not_fresh setup fs (values_only w.store) w.store.fences (length w.log) (records w) w.positions a place begun (following setup fs w holds a among) in
      let is = is_called setup fs (values_only w.store) (up_to setup fs w holds a) a.path (fit_here setup fs w holds a) f.begun in
      record { call = is.call; called = called_upto setup fs (values_only w.store) a.path a.cursor is.call (upto p (records w)) (ap (call_of a.path) (upto-upto a.cursor p (records w) le) ∙ is.called) }

  -- one that has adopted nothing has no answers
  no_answers : a.place ≡ zero → a.answers ≡ []
  no_answers none_yet = ⊎_elim (λ fresh. fresh.answers) (λ f. absurd (never f)) (following setup fs w holds a among).follows
    where
      never : Follows setup fs (values_only w.store) w.store.fences (up_to setup fs w holds a) a → ⊥
      never f =
          let here = up_to setup fs w holds a in
          let fit = fit_here setup fs w holds a in
          let some : 0 < length (step_seqnums a.path here) = none_begun setup fs (values_only w.store) a.path here fit f.begun in
          let none : length (step_seqnums a.path here) ≡ 0 = sym (place_is setup fs (values_only w.store) a.path here fit) ∙ f.place ∙ none_yet in
          let no_way : ⊥ = omega (arith, some, none) in no_way

pub attempts_can_step : AttemptsCanStep
attempts_can_step setup fs m a is among =
    let range = among_has (AttemptInRange fs) a m.attempts is.ranged.attempts among in
    let sees = engines_see_ranged fs m a.engine is.ranged in
    record {
      program = is.program;
      engine = among_has (λ a. IsEngine setup a.engine) a m.attempts is.engines among;
      range = range;
      begins = no_answers setup fs (world_of m) is.holds.holds a among;
      asks = can_ask fs is.program a range;
      sees = record {
        calls = λ call called. calls_fit fs call.function call.args (sees.known a.path call called);
        args = λ call called. sees.args a.path call called;
        called = λ place running begun. sees_call setup fs (world_of m) is.holds.holds a among place (position m a.engine) begun (running_see_their_cursor setup fs m a is.holds among running);
        ends = λ path. (holding_ends_last setup fs m path is.holds).seen a.engine;
        adopts = λ place x op begun found index asks. adopts_its_ask setup fs m a place x op is.holds among begun found index asks;
      };
      may = record {
        kept = (holding_keeps_writes setup fs m is.holds).whole;
        cursor = running_see_their_cursor setup fs m a is.holds among;
        settled = λ e. let below = (settled_is_below setup fs m a is.holds among).below e in omega (arith, below);
      };
    }
