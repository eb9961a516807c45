-- A step leaves an attempt on its engine, and the initial objects as they are; and positions rise where an engine catches up.
use Rattle.std.proofs.Common.{◌≡◌, ◌⊎◌, inl, inr, ℕ, zero, suc, ◌≤◌, true, false, cond, List, [], ◌∷◌, map, refl, ap, ◌∙◌, arith}
use Rattle.std.specs.Prelude.{slice_index, slice_set}
use Rattle.std.specs.List.{AllByRecursion}
use Rattle.lb_base.specs.declared.value.Value.{Value}
use Rattle.boki_types.specs.declared.body.Body.{Body}
use Rattle.boki_types.specs.declared.line.StepLine.{StepLine}
use Rattle.boki_types.specs.declared.log.Sent.{Sent}
use Rattle.boki_types.specs.declared.plan.Setup.{Setup}
use Rattle.boki_types.specs.declared.program.Function.{Function}
use Rattle.boki_model.specs.Live.{Live}
use Rattle.boki_model.specs.Writes.{Store, puts_version, after_put}
use Rattle.boki_machine.specs.Attempt.{Attempt}
use Rattle.exactly_once.proofs.Machines.StepEffects.{Effect, leaves, stops, stops_there, fences_keys, puts, names_value, step_effect, miss_effect}
use Rattle.boki_machine.specs.Step.{step, miss}

-- The objects that a store began with stay.

put_initial : (key : List ℕ) (c j : ℕ) (v : Value) (store : Store) → (after_put key c j v store).initial ≡ store.initial
put_initial key c j v store =
    elim (puts_version key c j store) as (λ b. (cond b (record store { versions = record { key = key; cursor = c; number = j; value = v } ∷ store.versions }) store).initial ≡ store.initial)
    [ true ↦ refl | false ↦ refl ]

module _ (setup : Setup) (fs : List Function) (t : Attempt) (store : Store) (view : List (Live Body)) (at : Sent) where
  effect_stays : (new : Store) (line : StepLine) → Effect setup fs t store view at new line → new.initial ≡ store.initial
  effect_stays new line (leaves e said) = ap (λ (s : Store). s.initial) e
  effect_stays new line (stops place begun e low) = ap (λ (s : Store). s.initial) e
  effect_stays new line (stops_there place begun x found e low) = ap (λ (s : Store). s.initial) e
  effect_stays new line (fences_keys place begun x keys found is e said) = ap (λ (s : Store). s.initial) e
  effect_stays new line (puts place begun key value asked mode late e said) = ap (λ (s : Store). s.initial) e ∙ put_initial key t.cursor (suc t.free_writes) value store
  effect_stays new line (names_value place begun key value asked late e said) = ap (λ (s : Store). s.initial) e

  -- a step is of the same engine
  pub step_stays : ((step setup fs store view at t).attempt.engine ≡ t.engine) × ((step setup fs store view at t).store.initial ≡ store.initial)
  step_stays =
      let move = step setup fs store view at t in
      let effect = step_effect setup fs t store view at in
      (effect.0, effect_stays move.store move.line effect.1)

  -- so does a store call whose answer is lost
  pub miss_stays : (miss setup fs store view t).store.initial ≡ store.initial
  miss_stays = by_either (miss setup fs store view t).store (step setup fs store view at t).store (miss_effect setup fs t store view at) step_stays.1
    where
      by_either : (missed moved : Store) → (missed ≡ store) ⊎ (missed ≡ moved) → moved.initial ≡ store.initial → missed.initial ≡ store.initial
      by_either missed moved (inl e) stays = ap (λ (s : Store). s.initial) e
      by_either missed moved (inr e) stays = ap (λ (s : Store). s.initial) e ∙ stays

-- Positions.

pub seen_set : (c n k i : ℕ) (ps : List ℕ) → c ≤ n → c ≤ slice_index ps i → c ≤ slice_index (slice_set ps k n) i
seen_set c n k i [] le seen = seen
seen_set c n zero zero (p ∷ ps) le seen = le
seen_set c n zero (suc i) (p ∷ ps) le seen = seen
seen_set c n (suc k) zero (p ∷ ps) le seen = seen
seen_set c n (suc k) (suc i) (p ∷ ps) le seen = seen_set c n k i ps le seen

pub seen_all : (c n i : ℕ) (ps : List ℕ) → c ≤ n → c ≤ slice_index ps i → c ≤ slice_index (map (λ p. n) ps) i
seen_all c n i [] le seen = seen
seen_all c n zero (p ∷ ps) le seen = le
seen_all c n (suc i) (p ∷ ps) le seen = seen_all c n i ps le seen

-- a position is set, and another engine's stays
pub seen_other : (n k i : ℕ) (ps : List ℕ) → (k ≡ i → ⊥) → slice_index (slice_set ps k n) i ≡ slice_index ps i
seen_other n k i [] other = refl
seen_other n zero zero (p ∷ ps) other = absurd (other refl)
seen_other n zero (suc i) (p ∷ ps) other = refl
seen_other n (suc k) zero (p ∷ ps) other = refl
seen_other n (suc k) (suc i) (p ∷ ps) other = seen_other n k i ps (λ e. other (ap suc e))

pub within_set : (n k m : ℕ) (ps : List ℕ) → m ≤ n → AllByRecursion (λ p. p ≤ n) ps → AllByRecursion (λ p. p ≤ n) (slice_set ps k m)
within_set n k m [] le all = tt
within_set n zero m (p ∷ ps) le all = (le, all.1)
within_set n (suc k) m (p ∷ ps) le all = (all.0, within_set n k m ps le all.1)

pub within_all : (n : ℕ) (ps : List ℕ) → AllByRecursion (λ p. p ≤ n) (map (λ p. n) ps)
within_all n [] = tt
within_all n (p ∷ ps) = (omega arith, within_all n ps)
