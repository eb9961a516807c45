-- The store call of a step whose answer is lost keeps the invariant.
use Rattle.std.proofs.Common.{◌≡◌, ℕ, zero, suc, Bool, true, false, cond, ltb, ◌||◌, List, [], ◌∷◌, Option, Some, None, refl, sym, ◌∙◌, subst}
use Rattle.lb_base.specs.Path.{IsPath}
use Rattle.lb_base.specs.declared.value.Value.{Value}
use Rattle.lb_base.specs.declared.value.Mode.{Mode}
use Rattle.lb_base.specs.declared.value.Mode.TheVariants.{R, W, T}
use Rattle.lb_base.specs.declared.value.Outcome.{Outcome}
use Rattle.boki_types.specs.declared.body.Body.{Body}
use Rattle.boki_types.specs.declared.body.Body.TheVariants as b
use Rattle.boki_types.specs.declared.line.Life.{Life}
use Rattle.boki_types.specs.declared.line.Life.TheVariants.{Running, Over, Stopped, Killed}
use Rattle.boki_types.specs.declared.line.Miss.TheVariants as m
use Rattle.boki_types.specs.declared.log.Call.{Call}
use Rattle.boki_types.specs.declared.operation.Op.TheVariants as o
use Rattle.boki_types.specs.declared.operation.Ask.{Ask}
use Rattle.boki_types.specs.declared.operation.Ask.TheVariants as k
use Rattle.boki_types.specs.declared.plan.Setup.{Setup}
use Rattle.boki_types.specs.declared.program.Function.{Function}
use Rattle.boki_types.specs.declared.store.Put.{Put}
use Rattle.boki_types.specs.declared.store.Put.TheVariants as put
use Rattle.boki_model.specs.Live.{Live, upto}
use Rattle.boki_model.specs.Bodies.{step_tag}
use Rattle.boki_model.specs.Reads.{nth}
use Rattle.boki_model.specs.Modes.{result_of}
use Rattle.boki_model.specs.Writes.{fence, has_version, put_at, add_if_new, raise_fences}
use Rattle.boki_machine.specs.Attempt.{Attempt, call_of}
use Rattle.boki_machine.specs.Step.{Missed, answers_to, attempt_ask, is_inline, next_write_name, nothing_missed, misses_marker, misses_record, misses_put, misses_store, misses_write, misses_asked, misses_at, misses_placed, misses_with, misses_if}
use Rattle.exactly_once.specs.Induction.Invariant.{World, records, InvariantHolds}
use Rattle.exactly_once.specs.FurtherLaws.Words.{values_only, IsAmong}
use Rattle.exactly_once.specs.Induction.StepKeeps.{MissesKeepInvariant}
use Rattle.exactly_once.specs.Induction.VersionKeeps.{PuttingKeepsInvariant}
use Rattle.exactly_once.proofs.Invocations.SamePlace.{called_upto}
use Rattle.exactly_once.proofs.Invariant.MicroSteps.{steps_keep}
use Rattle.exactly_once.proofs.OldVersions.StepOrigins.{own_log}
use Rattle.exactly_once.proofs.Attempts.ActingAttempt.{called_path, engine_at}
use Rattle.exactly_once.proofs.Attempts.WithoutRecord.{named_right, put_holds}

module _ (setup : Setup) (fs : List Function) (w : World) (holds : InvariantHolds setup fs w) (t : Attempt) (among : IsAmong t w.attempts) where
  abbrev view : List (Live Body)
  view = upto (engine_at setup fs w holds t) (records w)

  abbrev Keeps : Missed → Type 0
  Keeps missed = InvariantHolds setup fs (record w { store = missed.store })

  -- a marker's fences
  marker_keeps : (seq : ℕ) (keys : List (List ℕ)) → Keeps (misses_marker w.store seq keys)
  marker_keeps seq keys = at (ltb seq w.store.floor)
    where
      at : (b : Bool) → InvariantHolds setup fs (record w { store = (cond b (nothing_missed w.store) (record { store = cond b w.store (record (w.store) { fences = raise_fences keys seq w.store.fences }); what = m.Fence })).store })
      at true = holds
      at false = (steps_keep setup fs w holds).raise keys seq

  record_keeps : (seq : ℕ) (body : Body) → Keeps (misses_record w.store seq body)
  record_keeps seq (b.Read p i key) = marker_keeps seq (key ∷ [])
  record_keeps seq (b.ReadGroup p i keys) = marker_keeps seq keys
  record_keeps seq _ = holds

  module _ (versions_keep : PuttingKeepsInvariant) (running : t.life ≡ Running) (path : IsPath t.path) (place : ℕ) (begun : t.place ≡ suc place) where
    module _ (key : List ℕ) (value : Value) (asked : attempt_ask fs t ≡ Some (k.Op (o.Write key value))) where
      store_keeps : (t.mode ≡ W → t.late ≡ true) → Keeps (cond (is_inline setup t value || t.stored) (nothing_missed w.store) (misses_store (ltb t.cursor w.store.floor) t w.store value))
      store_keeps late = at (is_inline setup t value || t.stored) (ltb t.cursor w.store.floor) refl
        where
          at : (b c : Bool) → ltb t.cursor w.store.floor ≡ c → Keeps (cond b (nothing_missed w.store) (misses_store c t w.store value))
          at true c e = holds
          at false true e = holds
          at false false e =
              subst (λ b. InvariantHolds setup fs (record w { store = cond b w.store (record (w.store) { named = add_if_new (next_write_name t) value w.store.named }) })) (sym e)
              (named_right setup fs w holds t among running path place begun key value asked late).holds_there

      put_keeps : t.mode ≡ W → t.late ≡ false → (p : Put) → Keeps (misses_put p t w.store key value)
      put_keeps in_W in_time put.Done =
          put_holds setup fs w holds t among running path place begun key value asked versions_keep in_W in_time
          (ltb t.cursor w.store.floor) (has_version key t.cursor (suc t.free_writes) w.store) (ltb t.cursor (fence key w.store.fences)) refl refl refl
      put_keeps in_W in_time put.Late = holds
      put_keeps in_W in_time put.Gone = holds

      write_keeps : (mode : Mode) → t.mode ≡ mode → (late : Bool) → t.late ≡ late → Keeps (misses_write setup t w.store key value mode late)
      write_keeps W mode false late = put_keeps mode late (put_at key t.cursor (suc t.free_writes) w.store)
      write_keeps W mode true late = store_keeps (λ e. late)
      write_keeps R mode late e = store_keeps (λ in_W. absurd (let no_way : R ≡ W = sym mode ∙ in_W in let h : ⊥ = cc in h))
      write_keeps T mode late e = store_keeps (λ in_W. absurd (let no_way : T ≡ W = sym mode ∙ in_W in let h : ⊥ = cc in h))

    asked_keeps : (ask : Option Ask) → attempt_ask fs t ≡ ask → Keeps (misses_asked setup t w.store ask)
    asked_keeps (Some (k.Op (o.Write key value))) asked = write_keeps key value asked t.mode refl t.late refl
    asked_keeps _ asked = holds

    at_keeps : (o : Option (Live Body)) → Keeps (misses_at setup t w.store (attempt_ask fs t) o)
    at_keeps (Some x) = record_keeps x.seq x.holds
    at_keeps None = at t.waiting
      where
        at : (b : Bool) → Keeps (cond b (nothing_missed w.store) (misses_asked setup t w.store (attempt_ask fs t)))
        at true = holds
        at false = asked_keeps (attempt_ask fs t) refl

  placed_keeps : PuttingKeepsInvariant → t.life ≡ Running → IsPath t.path → (place : ℕ) → t.place ≡ place → Keeps (misses_placed setup fs t w.store view place)
  placed_keeps versions_keep running path zero is = holds
  placed_keeps versions_keep running path (suc place) is = at_keeps versions_keep running path place is (answers_to t (attempt_ask fs t) (nth (step_tag t.path) t.place view))

  with_keeps : PuttingKeepsInvariant → t.life ≡ Running → (result : Option Outcome) (call : Option Call) → call_of t.path view ≡ call → Keeps (misses_with setup fs t w.store view result call)
  with_keeps versions_keep running (Some outcome) call e = holds
  with_keeps versions_keep running None None e = holds
  with_keeps versions_keep running None (Some call) e =
      placed_keeps versions_keep running
      (called_path t.path call w.log (own_log setup fs w holds) (called_upto setup fs (values_only w.store) t.path (engine_at setup fs w holds t) call (records w) e)) t.place refl

  miss_keeps : PuttingKeepsInvariant → (life : Life) → t.life ≡ life → Keeps (misses_if setup fs t w.store view life)
  miss_keeps versions_keep Running e = with_keeps versions_keep e (result_of t.path view) (call_of t.path view) refl
  miss_keeps versions_keep Over e = holds
  miss_keeps versions_keep Stopped e = holds
  miss_keeps versions_keep Killed e = holds

pub misses_keep : PuttingKeepsInvariant → MissesKeepInvariant
misses_keep versions_keep setup fs w t holds among = miss_keeps setup fs w holds t among versions_keep t.life refl
