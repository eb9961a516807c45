-- Writes that the store takes, by what it answers.
use Rattle.std.proofs.Common.{◌≡◌, inr, ℕ, suc, ◌<◌, Bool, true, false, cond, ltb, ◌&&◌, not, List, ◌∷◌, refl, sym, ap, subst}
use Rattle.lb_base.specs.declared.value.Value.{Value}
use Rattle.boki_types.specs.declared.body.Body.{Body}
use Rattle.boki_types.specs.declared.line.Life.TheVariants.{Stopped}
use Rattle.boki_types.specs.declared.line.StepLine.{StepLine}
use Rattle.boki_types.specs.declared.line.StepLine.TheVariants as line
use Rattle.boki_types.specs.declared.log.Sent.{Sent}
use Rattle.boki_types.specs.declared.operation.Answer.TheVariants as a
use Rattle.boki_types.specs.declared.program.Function.{Function}
use Rattle.boki_types.specs.declared.store.Name.{Name}
use Rattle.boki_types.specs.declared.store.Named.{Named}
use Rattle.boki_types.specs.declared.store.Named.TheVariants as named
use Rattle.boki_types.specs.declared.store.Put.{Put}
use Rattle.boki_types.specs.declared.store.Put.TheVariants as put
use Rattle.boki_model.specs.Live.{Live}
use Rattle.boki_model.specs.Writes.{Store, put_at, put_answer, puts_version, has_version, fence, after_put, put_named, after_put_named}
use Rattle.boki_machine.specs.Attempt.{Attempt, Move, moves, answered_with}
use Rattle.boki_machine.specs.Step.{seqnum, stop_gone, next_write_name, free_write_step, logged_write_step}
use Rattle.hm_read.specs.Kept.{IsKept}
use Rattle.obj_store.specs.Kept.{StoreState}
use Rattle.attempt_state.specs.declared.state.AttemptState.{AttemptState}
use Rattle.attempt_state.specs.Attempts.{AttemptStandsFor}
use Rattle.hm_write.specs.Stores.{StoresNamed, PutsFree}
use Rattle.attempt_store.specs.Moved.{EitherKept, IsMovedAlone, MovesStore}

-- What was stored and put in, as the attempt says it.

pub stores_at :
    (t : Attempt) (name : Name) (cursor : ℕ) (value : Value) (old new : StoreState) (a : Named)
    → name.path ≡ t.path → name.place ≡ t.place → cursor ≡ t.cursor → StoresNamed name cursor value old new a
    → StoresNamed (next_write_name t) t.cursor value old new a
stores_at t name cursor value old new a path place at is =
    let same : name ≡ next_write_name t = (λ i. record { path = path i; place = place i }) in
    subst (λ (n : ℕ). StoresNamed (next_write_name t) n value old new a) at
    (subst (λ (n : Name). StoresNamed n cursor value old new a) same is)

pub puts_at :
    (t : Attempt) (key named : List ℕ) (cursor k : ℕ) (value : Value) (old new : StoreState) (a : Put)
    → named ≡ key → cursor ≡ t.cursor → k ≡ suc t.free_writes → PutsFree named cursor k value old new a
    → PutsFree key t.cursor (suc t.free_writes) value old new a
puts_at t key named cursor k value old new a same at number is =
    subst (λ (l : List ℕ). PutsFree l t.cursor (suc t.free_writes) value old new a) same
    (subst (λ (n : ℕ). PutsFree named n (suc t.free_writes) value old new a) at
    (subst (λ (n : ℕ). PutsFree named cursor n value old new a) number is))

-- a version isn't put in where the store doesn't answer Done
late_puts_none : (gone there fenced : Bool) → put.Late ≡ put_answer gone there fenced → (not gone && not there && not fenced) ≡ false
late_puts_none true there fenced e = refl
late_puts_none false true fenced e = refl
late_puts_none false false true e = refl
late_puts_none false false false e = absurd (let no_way : put.Late ≡ put.Done = e in cc)

gone_puts_none : (gone there fenced : Bool) → put.Gone ≡ put_answer gone there fenced → (not gone && not there && not fenced) ≡ false
gone_puts_none true there fenced e = refl
gone_puts_none false true fenced e = refl
gone_puts_none false false true e = refl
gone_puts_none false false false e = absurd (let no_way : put.Gone ≡ put.Done = e in cc)

module _ (fs : List Function) (t : Attempt) (m : Store) (records : List (Live Body)) (key : List ℕ) (value : Value) (kept : StoreState) (state : AttemptState) (told : StepLine) where
  abbrev Puts : Put → Type 0
  Puts p = MovesStore fs records kept (free_write_step p t m key value) state told

  unput : puts_version key t.cursor (suc t.free_writes) m ≡ false → IsKept kept (after_put key t.cursor (suc t.free_writes) value m) records → IsKept kept m records
  unput e is = at (puts_version key t.cursor (suc t.free_writes) m) e is
    where
      at : (p : Bool) → p ≡ false → IsKept kept (cond p (record m { versions = record { key = key; cursor = t.cursor; number = suc t.free_writes; value = value } ∷ m.versions }) m) records → IsKept kept m records
      at true e is = absurd (let no_way : true ≡ false = e in cc)
      at false e is = is

  pub put_done : put.Done ≡ put_at key t.cursor (suc t.free_writes) m → IsKept kept (after_put key t.cursor (suc t.free_writes) value m) records
      → told ≡ line.Put key value (seqnum t.cursor) (suc t.free_writes) → AttemptStandsFor fs (answered_with (record t { free_writes = suc t.free_writes }) a.Done) state
      → Puts (put_at key t.cursor (suc t.free_writes) m)
  put_done e is said stands = subst Puts e (record { moved = record { line_is = said; attempt = stands }; store = is })

  pub put_late : put.Late ≡ put_at key t.cursor (suc t.free_writes) m → IsKept kept (after_put key t.cursor (suc t.free_writes) value m) records
      → told ≡ line.Late key → AttemptStandsFor fs (record t { late = true }) state → Puts (put_at key t.cursor (suc t.free_writes) m)
  put_late e is said stands =
      let none = late_puts_none (ltb t.cursor m.floor) (has_version key t.cursor (suc t.free_writes) m) (ltb t.cursor (fence key m.fences)) e in
      subst Puts e (record { moved = record { line_is = said; attempt = stands }; store = unput none is })

  pub put_gone : put.Gone ≡ put_at key t.cursor (suc t.free_writes) m → IsKept kept (after_put key t.cursor (suc t.free_writes) value m) records
      → told ≡ line.StoppedGone → AttemptStandsFor fs (record t { life = Stopped }) state → Puts (put_at key t.cursor (suc t.free_writes) m)
  put_gone e is said stands =
      let none = gone_puts_none (ltb t.cursor m.floor) (has_version key t.cursor (suc t.free_writes) m) (ltb t.cursor (fence key m.fences)) e in
      subst Puts e (record { moved = record { line_is = said; attempt = stands }; store = unput none is })

  pub put_after : put.Done ≡ put_at key t.cursor (suc t.free_writes) m → IsKept kept (after_put key t.cursor (suc t.free_writes) value m) records
      → EitherKept kept m (free_write_step (put_at key t.cursor (suc t.free_writes) m) t m key value).store records
  put_after e is = inr (subst (λ (p : Put). IsKept kept (free_write_step p t m key value).store records) e is)

  module _ (at : Sent) where
    -- a value is stored, or the attempt stops, by whether its cursor is below the floor
    abbrev stored : Bool → Store → Move
    stored low after = cond low (stop_gone t m) (moves (record t { stored = true }) after (line.Store key value))

    stops_by : (low : Bool) (full : Store) → named.Gone ≡ cond low named.Gone named.Done → IsKept kept (cond low m full) records → told ≡ line.StoppedGone
        → AttemptStandsFor fs (record t { life = Stopped }) state → MovesStore fs records kept (stored low (cond low m full)) state told
    stops_by true full e is said stands = record { moved = record { line_is = said; attempt = stands }; store = is }
    stops_by false full e is said stands = absurd (let no_way : named.Gone ≡ named.Done = e in cc)

    stores_by : (low : Bool) (full : Store) → named.Done ≡ cond low named.Gone named.Done → IsKept kept (cond low m full) records → told ≡ line.Store key value
        → AttemptStandsFor fs (record t { stored = true }) state → MovesStore fs records kept (stored low (cond low m full)) state told
    stores_by true full e is said stands = absurd (let no_way : named.Done ≡ named.Gone = e in cc)
    stores_by false full e is said stands = record { moved = record { line_is = said; attempt = stands }; store = is }

    pub name_gone : named.Gone ≡ put_named (next_write_name t) t.cursor value m → IsKept kept (after_put_named (next_write_name t) t.cursor value m) records
        → told ≡ line.StoppedGone → AttemptStandsFor fs (record t { life = Stopped }) state
        → MovesStore fs records kept (logged_write_step false false t m at key value) state told
    name_gone e is said stands = stops_by (ltb t.cursor m.floor) _ e is said stands

    pub name_done : named.Done ≡ put_named (next_write_name t) t.cursor value m → IsKept kept (after_put_named (next_write_name t) t.cursor value m) records
        → told ≡ line.Store key value → AttemptStandsFor fs (record t { stored = true }) state
        → MovesStore fs records kept (logged_write_step false false t m at key value) state told
    name_done e is said stands = stores_by (ltb t.cursor m.floor) _ e is said stands
