-- Events that send and order nothing.
use Rattle.std.proofs.Common.{◌≡◌, inl, inr, ⊎_elim, ℕ, ◌≤◌, Bool, true, false, cond, eqb, leb, ◌&&◌, List, [], ◌∷◌, length, map, Option, Some, None, refl, subst, arith}
use Rattle.std.specs.Prelude.{max}
use Rattle.std.specs.List.{AllByRecursion}
use Rattle.boki_types.specs.declared.body.Body.{Body}
use Rattle.boki_types.specs.declared.event.Event.TheVariants as v
use Rattle.boki_types.specs.declared.line.Line.TheVariants as l
use Rattle.boki_types.specs.declared.line.Life.{Life}
use Rattle.boki_types.specs.declared.line.Life.TheVariants.{Killed}
use Rattle.boki_types.specs.declared.plan.Setup.{Setup}
use Rattle.boki_types.specs.declared.program.Function.{Function}
use Rattle.boki_model.specs.Live.{Live, upto}
use Rattle.boki_model.specs.Floor.{floor, counted_trim}
use Rattle.boki_model.specs.Writes.{Store, KeyFence}
use Rattle.boki_machine.specs.Attempt.{Attempt}
use Rattle.boki_machine.specs.Step.{is_running, can_lose, after_lose, after_kill}
use Rattle.boki_machine.specs.Machine.{Machine, NumberedAttempt, attempt_at, set_attempt, with_attempt, event_result, with_aux, log, start_attempt, kill_attempt, lose_record, set_aux, get_aux, view, live_records, position, aux_at, aux_of}
use Rattle.exactly_once.specs.FurtherLaws.Words.{values_only}
use Rattle.exactly_once.specs.Induction.Invariant.{IsFresh, Follows, SeesCursor, IsFollowing, position_of, InvariantHolds}
use Rattle.exactly_once.specs.Induction.OpeningHolds.{world_of}
use Rattle.exactly_once.specs.Induction.MicroSteps.{StepsKeep}
use Rattle.exactly_once.specs.Induction.QuietEvents.{QuietEventsKeepInvariant}
use Rattle.exactly_once.proofs.Invariant.MicroSteps.{steps_keep}

-- Lists of attempts.

pub set_each : (P : Attempt → Type 0) (n : ℕ) (a : Attempt) (xs : List NumberedAttempt) → P a → AllByRecursion P (map (λ x. x.attempt) xs) → AllByRecursion P (map (λ x. x.attempt) (set_attempt n a xs))
set_each P n a [] one all = tt
set_each P n a (x ∷ xs) one all = at (eqb n x.number) (set_each P n a xs one all.1)
  where
    at : (t : Bool) → AllByRecursion P (map (λ x. x.attempt) (set_attempt n a xs)) → AllByRecursion P (map (λ (x : NumberedAttempt). x.attempt) (cond t (record { number = n; attempt = a } ∷ xs) (x ∷ set_attempt n a xs)))
    at true rest = (one, all.1)
    at false rest = (all.0, rest)

found_each : (P : Attempt → Type 0) (n : ℕ) (a : Attempt) (xs : List NumberedAttempt) → attempt_at n xs ≡ Some a → AllByRecursion P (map (λ x. x.attempt) xs) → P a
found_each P n a [] found all = let no_way : None ≡ Some a = found in cc
found_each P n a (x ∷ xs) found all = at (λ found. found_each P n a xs found all.1) (eqb n x.number) found
  where
    at : (attempt_at n xs ≡ Some a → P a) → (t : Bool) → cond t (Some x.attempt) (attempt_at n xs) ≡ Some a → P a
    at later true found = subst P (let same : x.attempt ≡ a = cc in same) all.0
    at later false found = later found

-- What an attempt follows does not depend on its life, nor on whether it waits.
module _ (setup : Setup) (fs : List Function) (store : Store) (fences : List KeyFence) where
  fresh_as : (a : Attempt) (life : Life) (waiting : Bool) → IsFresh a → IsFresh (record a { life = life; waiting = waiting })
  fresh_as a life waiting f = record { place = f.place; cursor = f.cursor; answers = f.answers; free_writes = f.free_writes; stored = f.stored; late = f.late; transaction = f.transaction }

  follows_as : (behind : List (Live Body)) (a : Attempt) (life : Life) (waiting : Bool) → Follows setup fs store fences behind a → Follows setup fs store fences behind (record a { life = life; waiting = waiting })
  follows_as behind a life waiting f = record {
    begun = f.begun;
    unended = f.unended;
    cursor = f.cursor;
    place = f.place;
    mode = f.mode;
    function = f.function;
    args = f.args;
    transaction = f.transaction;
    fenced = f.fenced;
    free = f.free;
    answers = f.answers;
    decided = f.decided;
    counts = f.counts;
    stored = f.stored;
    late = f.late;
    stored_late = f.stored_late;
  }

  pub following_as : (n : ℕ) (now : List (Live Body)) (positions : List ℕ) (a : Attempt) (life : Life) (waiting : Bool) → SeesCursor a.cursor (position_of positions a.engine) life → IsFollowing setup fs store fences n now positions a → IsFollowing setup fs store fences n now positions (record a { life = life; waiting = waiting })
  following_as n now positions a life waiting seen is = record {
    within = is.within;
    seen = seen;
    follows = ⊎_elim (λ fresh. inl (fresh_as a life waiting fresh)) (λ f. inr (follows_as (upto a.cursor now) a life waiting f)) is.follows;
  }

  pub killed_follows : (n : ℕ) (now : List (Live Body)) (positions : List ℕ) (a : Attempt) → IsFollowing setup fs store fences n now positions a → IsFollowing setup fs store fences n now positions (after_kill a)
  killed_follows n now positions a is =
      elim (is_running a.life) as (λ t. IsFollowing setup fs store fences n now positions (cond t (record a { life = Killed }) a))
      [ true ↦ following_as n now positions a Killed a.waiting tt is | false ↦ is ]

  lost_follows : (n : ℕ) (now : List (Live Body)) (positions : List ℕ) (a : Attempt) → IsFollowing setup fs store fences n now positions a → IsFollowing setup fs store fences n now positions (after_lose a)
  lost_follows n now positions a is =
      elim (can_lose a) as (λ t. IsFollowing setup fs store fences n now positions (cond t (record a { waiting = false }) a))
      [ true ↦ following_as n now positions a a.life false is.seen is | false ↦ is ]

-- a view's floor is at most that of all records
floor_seen : (p : ℕ) (xs : List (Live Body)) → floor (upto p xs) ≤ floor xs
floor_seen p [] = omega arith
floor_seen p (x ∷ xs) = at (leb x.seq p) (floor_seen p xs)
  where
    at : (t : Bool) → floor (upto p xs) ≤ floor xs → floor (cond t (x ∷ xs) (upto p xs)) ≤ max (counted_trim x.holds x.seq xs) (floor xs)
    at true le = omega arith
    at false le = omega (arith, le)

module _ (setup : Setup) (fs : List Function) (m : Machine) (holds : InvariantHolds setup fs (world_of m)) where
  keep : StepsKeep setup fs (world_of m)
  keep = steps_keep setup fs (world_of m) holds

  start_keeps : (n : ℕ) (path : List ℕ) (engine : ℕ) (o : Option Attempt) → InvariantHolds setup fs (world_of (start_attempt m n path engine o).machine)
  start_keeps n path engine None = keep.start path engine
  start_keeps n path engine (Some a) = holds

  abbrev Follow : Attempt → Type 0
  Follow = IsFollowing setup fs (values_only m.store) m.store.fences (length (log m)) (live_records m) m.positions

  -- an attempt becomes one that still follows
  set_keeps : (n : ℕ) (a b : Attempt) → attempt_at n m.attempts ≡ Some a → (Follow a → Follow b) → InvariantHolds setup fs (world_of (with_attempt n b m))
  set_keeps n a b found step =
      keep.move (map (λ x. x.attempt) (set_attempt n b m.attempts))
      (set_each Follow n b m.attempts (step (found_each Follow n a m.attempts found holds.attempts)) holds.attempts)

  kill_keeps : (n : ℕ) (o : Option Attempt) → attempt_at n m.attempts ≡ o → InvariantHolds setup fs (world_of (kill_attempt m n o).machine)
  kill_keeps n None e = holds
  kill_keeps n (Some a) e = set_keeps n a (after_kill a) e (killed_follows setup fs (values_only m.store) m.store.fences (length (log m)) (live_records m) m.positions a)

  lose_keeps : (n : ℕ) (o : Option Attempt) → attempt_at n m.attempts ≡ o → InvariantHolds setup fs (world_of (lose_record m n o).machine)
  lose_keeps n None e = holds
  lose_keeps n (Some a) e = set_keeps n a (after_lose a) e (lost_follows setup fs (values_only m.store) m.store.fences (length (log m)) (live_records m) m.positions a)

  aux_keeps : (engine seq : ℕ) (text : List ℕ) → InvariantHolds setup fs (world_of (set_aux m engine seq text).machine)
  aux_keeps engine seq text = at (leb 1 seq && leb seq (position m engine))
    where
      at : (t : Bool) → InvariantHolds setup fs (world_of (cond t (event_result (with_aux m engine seq text) l.Set) (event_result m l.Absent)).machine)
      at true = holds
      at false = holds

  used_keeps : (engine seq : ℕ) (o : Option (List ℕ)) → InvariantHolds setup fs (world_of (get_aux m engine seq o).machine)
  used_keeps engine seq None = holds
  used_keeps engine seq (Some text) = holds

pub quiet_events_keep : QuietEventsKeepInvariant
quiet_events_keep setup fs m (v.Start n path engine) is holds = start_keeps setup fs m holds n path engine (attempt_at n m.attempts)
quiet_events_keep setup fs m (v.Kill n) is holds = kill_keeps setup fs m holds n (attempt_at n m.attempts) refl
quiet_events_keep setup fs m (v.Lose n) is holds = lose_keeps setup fs m holds n (attempt_at n m.attempts) refl
quiet_events_keep setup fs m (v.Sweep engine) is holds = (steps_keep setup fs (world_of m) holds).lift (floor (view m engine)) (floor_seen (position m engine) (live_records m))
quiet_events_keep setup fs m (v.Next engine tag from) is holds = holds
quiet_events_keep setup fs m (v.Prev engine tag upto) is holds = holds
quiet_events_keep setup fs m (v.Tail engine tag) is holds = holds
quiet_events_keep setup fs m (v.Settled engine shard local) is holds = holds
quiet_events_keep setup fs m (v.SetAux engine seq text) is holds = aux_keeps setup fs m holds engine seq.0 text
quiet_events_keep setup fs m (v.GetAux engine seq) is holds = used_keeps setup fs m holds engine seq.0 (aux_at seq.0 (aux_of m engine))
quiet_events_keep setup fs m (v.Seed n) is holds = holds
quiet_events_keep setup fs m _ is holds = let no_way : false ≡ true = is in cc
