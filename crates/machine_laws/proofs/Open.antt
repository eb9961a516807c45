-- What still runs lies above the floor.
use Rattle.std.proofs.Common.{◌≡◌, ⊎_elim, ℕ, ◌<◌, ◌≤◌, true, false, List, ◌∷◌, length, Some, None, refl, sym, ap, ◌∙◌, arith}
use Rattle.std.specs.Prelude.{is_some}
use Rattle.std.proofs.lemmas.Bool.{cases_lt}
use Rattle.boki_types.specs.declared.body.Body.{Body}
use Rattle.boki_types.specs.declared.plan.Setup.{Setup}
use Rattle.boki_types.specs.declared.program.Function.{Function}
use Rattle.boki_model.specs.Live.{Live}
use Rattle.boki_model.specs.Bodies.{step_of}
use Rattle.boki_model.specs.Modes.{result_of}
use Rattle.boki_model.specs.Writes.{Store}
use Rattle.boki_machine.specs.Decided.{InvocationState}
use Rattle.exactly_once.specs.FurtherLaws.ModesAndFloors.{IsEnded}
use Rattle.exactly_once.specs.Induction.Invariant.{World, records, InvariantHolds}
use Rattle.exactly_once.specs.FurtherLaws.Words.{values_only, IsAmong}
use Rattle.exactly_once.specs.Induction.OpeningHolds.{world_of}
use Rattle.exactly_once.specs.Induction.SoundLogs.{AllMayFollow}
use Rattle.exactly_once.proofs.Log.HistoryTails.{longer}
use Rattle.exactly_once.proofs.Log.LiveRecords.{live_under, under_tail}
use Rattle.exactly_once.proofs.Log.MapChanges.{same_itself}
use Rattle.exactly_once.proofs.Log.ModesAndFloors.{below_floor}
use Rattle.exactly_once.proofs.Invocations.NextRecord.{stands, Does, does, apart, began, operates, ends}
use Rattle.exactly_once.proofs.Invocations.InitAndCursor.{HasInit, has_init, fit_tail}
use Rattle.machine_laws.specs.Open.{OpenAreAbove}
use Rattle.machine_laws.proofs.Writes.{Behind, behind}

-- behind a step record of its own an invocation has begun, and its cursor is there
record IsThere (setup : Setup) (fs : List Function) (store : Store) (p : List ℕ) (x : Live Body) (xs : List (Live Body)) : Type 0 where
  pub begun : (stands setup fs store p (x ∷ xs)).begun ≡ true
  pub cursor : (stands setup fs store p (x ∷ xs)).cursor ≡ x.seq

there_is : (setup : Setup) (fs : List Function) (store : Store) (p : List ℕ) (x : Live Body) (xs : List (Live Body)) (i : ℕ) → AllMayFollow setup fs store (x ∷ xs) → step_of x.holds ≡ Some (p, i) → IsThere setup fs store p x xs
there_is setup fs store p x xs i fit step = at (stands setup fs store p (x ∷ xs)) refl (does setup fs store x xs p fit.0)
  where
    at : (next : InvocationState) → stands setup fs store p (x ∷ xs) ≡ next → Does setup fs store x.seq x.holds xs p next → IsThere setup fs store p x xs
    at next e (apart other finish is) = let no_way : true ≡ false = sym (same_itself p) ∙ other (p, i) step in cc
    at next e (began body may is) = record { begun = ap (λ (st : InvocationState). st.begun) (e ∙ is); cursor = ap (λ (st : InvocationState). st.cursor) (e ∙ is) }
    at next e (operates j own finish reaches is) = record { begun = ap (λ (st : InvocationState). st.begun) (e ∙ is) ∙ reaches.begun; cursor = ap (λ (st : InvocationState). st.cursor) (e ∙ is) }
    at next e (ends j outcome body asks is) = record { begun = ap (λ (st : InvocationState). st.begun) (e ∙ is) ∙ asks.reaches.begun; cursor = ap (λ (st : InvocationState). st.cursor) (e ∙ is) }

module _ (setup : Setup) (fs : List Function) (w : World) (holds : InvariantHolds setup fs w) (p : List ℕ) (unended : result_of p (records w) ≡ None) (x : Live Body) (i : ℕ) (among : IsAmong x (records w)) (step : step_of x.holds ≡ Some (p, i)) where
  abbrev now : List (Live Body)
  now = records w

  abbrev store : Store
  store = values_only w.store

  bx : Behind x now
  bx = behind x now among

  fit : AllMayFollow setup fs store (x ∷ bx.rest)
  fit = fit_tail setup fs store (x ∷ bx.rest) now bx.tail holds.sound.fit

  its : IsThere setup fs store p x bx.rest
  its = there_is setup fs store p x bx.rest i fit step

  init : HasInit setup fs store p (x ∷ bx.rest) (stands setup fs store p (x ∷ bx.rest))
  init = has_init setup fs store p (length w.log) (x ∷ bx.rest) (under_tail (x ∷ bx.rest) (length w.log) now (live_under w.log) bx.tail) fit its.begun

  above : w.store.floor ≤ x.seq
  above = ⊎_elim (λ lt. absurd (never lt)) (λ le. at_init le) (cases_lt init.init.seq w.store.floor)
    where
      never : init.init.seq < w.store.floor → ⊥
      never lt =
          let floor = holds.floor_is in
          let ended : IsEnded p now = below_floor init.init init.behind (length w.log) now p (live_under w.log) (longer init.tail bx.tail) init.holds_is (omega (arith, lt, floor)) in
          let no_way : false ≡ true = sym (ap is_some unended) ∙ ended in cc

      at_init : w.store.floor ≤ init.init.seq → w.store.floor ≤ x.seq
      at_init le = let low = init.low in let e = its.cursor in omega (arith, le, low, e)

pub open_are_above : OpenAreAbove
open_are_above setup fs m path x index good unended among step = above setup fs (world_of m) good.holds path unended x index among step
