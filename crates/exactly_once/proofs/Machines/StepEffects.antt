-- What a step does to the store, by the cases of the step table; and the store call of a step whose answer is lost is its own.
use Rattle.std.proofs.Common.{◌≡◌, ◌⊎◌, inl, inr, ℕ, zero, suc, Bool, true, false, cond, ltb, ◌||◌, List, [], ◌∷◌, Option, Some, None, refl, sym, ap, ◌∙◌}
use Rattle.lb_base.specs.declared.value.Value.{Value}
use Rattle.lb_base.specs.declared.value.Mode.{Mode}
use Rattle.lb_base.specs.declared.value.Mode.TheVariants.{R, W, T}
use Rattle.lb_base.specs.declared.value.Outcome.{Outcome}
use Rattle.boki_types.specs.declared.body.Body.{Body}
use Rattle.boki_types.specs.declared.body.Body.TheVariants as b
use Rattle.boki_types.specs.declared.line.Life.{Life}
use Rattle.boki_types.specs.declared.line.Life.TheVariants.{Running, Over, Stopped, Killed}
use Rattle.boki_types.specs.declared.line.StepLine.{StepLine}
use Rattle.boki_types.specs.declared.line.StepLine.TheVariants as l
use Rattle.boki_types.specs.declared.line.Miss.TheVariants as m
use Rattle.boki_types.specs.declared.log.Call.{Call}
use Rattle.boki_types.specs.declared.log.Sent.{Sent}
use Rattle.boki_types.specs.declared.operation.Op.{Op}
use Rattle.boki_types.specs.declared.operation.Op.TheVariants as o
use Rattle.boki_types.specs.declared.operation.Ask.{Ask}
use Rattle.boki_types.specs.declared.operation.Ask.TheVariants as k
use Rattle.boki_types.specs.declared.operation.Answer.{Answer}
use Rattle.boki_types.specs.declared.operation.Answer.TheVariants as a
use Rattle.boki_types.specs.declared.plan.Setup.{Setup}
use Rattle.boki_types.specs.declared.program.Function.{Function}
use Rattle.boki_types.specs.declared.store.Put.{Put}
use Rattle.boki_types.specs.declared.store.Put.TheVariants as put
use Rattle.boki_model.specs.Live.{Live}
use Rattle.boki_model.specs.Reads.{nth}
use Rattle.boki_model.specs.Bodies.{step_tag, step_of, child}
use Rattle.boki_model.specs.Modes.{result_of}
use Rattle.boki_model.specs.Writes.{Store, KeyFence, fence, read_free, read_fenced, raise_fences, after_read_fenced, has_version, put_at, put_answer, after_put, add_if_new, after_put_named}
use Rattle.boki_machine.specs.Attempt.{Attempt, Move, next_index, moves, sends_record, answered_with, call_of}
use Rattle.std.specs.Prelude.{zip}
use Rattle.boki_machine.specs.Step.{has_index, seqnum, stop_gone, fenced_value, read_all, next_write_name, adopts_answer, adopts_marker, adopts_join, adopts_operation, reads, reads_group, logged_write_step, is_inline, free_write_step, writes, join_step, operation_step, unless_waiting, script_step, answers_to, adopt_or, init_step, attempt_ask, step_at_place, step_when_called, step_if_running, step, Missed, nothing_missed, misses_marker, misses_record, misses_put, misses_store, misses_write, misses_asked, misses_at, misses_placed, misses_with, misses_if, miss}

-- the keys that a marker reads
abbrev pub keys_of : Body → Option (List (List ℕ))
keys_of (b.Read p i key) = Some (key ∷ [])
keys_of (b.ReadGroup p i keys) = Some keys
keys_of _ = None

abbrev pub with_fences : List KeyFence → Store → Store
with_fences fences store = record store { fences = fences }

abbrev pub is_gone : StepLine → Bool
is_gone l.StoppedGone = true
is_gone _ = false

module _ (setup : Setup) (fs : List Function) (t : Attempt) (store : Store) (view : List (Live Body)) (at : Sent) where
  -- It leaves the store; stops, since its cursor or the marker at its place is below the floor; raises the fences of a marker's
  -- keys; puts in a version; or stores the value of a write under its name.
  pub data Effect (new : Store) (line : StepLine) : Type 0 where
    leaves : new ≡ store → is_gone line ≡ false → Effect new line
    stops : (place : ℕ) → t.place ≡ suc place → new ≡ store → ltb t.cursor store.floor ≡ true → Effect new line
    stops_there : (place : ℕ) → t.place ≡ suc place → (x : Live Body) → nth (step_tag t.path) t.place view ≡ Some x → new ≡ store → ltb x.seq store.floor ≡ true → Effect new line
    fences_keys : (place : ℕ) → t.place ≡ suc place → (x : Live Body) (keys : List (List ℕ)) → nth (step_tag t.path) t.place view ≡ Some x → keys_of x.holds ≡ Some keys → new ≡ with_fences (raise_fences keys x.seq store.fences) store → is_gone line ≡ false → Effect new line
    puts : (place : ℕ) → t.place ≡ suc place → (key : List ℕ) (value : Value) → attempt_ask fs t ≡ Some (k.Op (o.Write key value)) → t.mode ≡ W → t.late ≡ false → new ≡ after_put key t.cursor (suc t.free_writes) value store → is_gone line ≡ false → Effect new line
    names_value : (place : ℕ) → t.place ≡ suc place → (key : List ℕ) (value : Value) → attempt_ask fs t ≡ Some (k.Op (o.Write key value)) → (t.mode ≡ W → t.late ≡ true) → new ≡ record store { named = add_if_new (next_write_name t) value store.named } → is_gone line ≡ false → Effect new line

  abbrev pub EffectOf : Move → Type 0
  EffectOf move = (move.attempt.engine ≡ t.engine) × Effect move.store move.line

  module _ (place : ℕ) (begun : t.place ≡ suc place) where
    -- The record at its place.

    module _ (x : Live Body) (found : nth (step_tag t.path) t.place view ≡ Some x) where
      marker_effect : (keys : List (List ℕ)) → keys_of x.holds ≡ Some keys → (answer : Answer) (line : StepLine) → is_gone line ≡ false → EffectOf (adopts_marker t store x.seq keys answer line)
      marker_effect keys is answer line said = at_floor (ltb x.seq store.floor) refl
        where
          at_floor : (b : Bool) → ltb x.seq store.floor ≡ b → EffectOf (cond b (stop_gone t store) (adopts_answer t (cond b store (with_fences (raise_fences keys x.seq store.fences) store)) x.seq answer line))
          at_floor true e = (refl, stops_there place begun x found refl e)
          at_floor false e = (refl, fences_keys place begun x keys found is refl said)

      join_effect : (p : List ℕ) (r : Option Outcome) → EffectOf (adopts_join t store x.seq p r)
      join_effect p None = (refl, leaves refl refl)
      join_effect p (Some outcome) = (refl, leaves refl refl)

      record_effect : (body : Body) → x.holds ≡ body → (other : Move) → EffectOf other → EffectOf (adopts_operation t store view x.seq body other)
      record_effect (b.Read p i key) e other is = marker_effect (key ∷ []) (ap keys_of e) (a.Value (fenced_value (read_fenced key x.seq store view))) (l.AdoptRead (seqnum x.seq) key (fenced_value (read_fenced key x.seq store view))) refl
      record_effect (b.ReadGroup p i keys) e other is =
          let vs = read_all (λ key. read_fenced key x.seq store view) keys in marker_effect keys (ap keys_of e) (a.Values vs) (l.AdoptReadAll (seqnum x.seq) (zip keys vs)) refl
      record_effect (b.Write p i place key value) e other is = (refl, leaves refl refl)
      record_effect (b.Spawn p i ordinal f args) e other is = (refl, leaves refl refl)
      record_effect (b.Join p i ordinal) e other is = join_effect (child p ordinal) (result_of (child p ordinal) view)
      record_effect (b.Push p i queue value) e other is = (refl, leaves refl refl)
      record_effect (b.Pop p i queue) e other is = (refl, leaves refl refl)
      record_effect (b.TxnBegin p i names) e other is = (refl, leaves refl refl)
      record_effect (b.TxnCommit p i begin names writes) e other is = (refl, leaves refl refl)
      record_effect _ e other is = is

    -- What is asked, where no record answers it.

    below_cursor : (move : Move) → EffectOf move → EffectOf (cond (ltb t.cursor store.floor) (stop_gone t store) move)
    below_cursor move is = at_floor (ltb t.cursor store.floor) refl
      where
        at_floor : (b : Bool) → ltb t.cursor store.floor ≡ b → EffectOf (cond b (stop_gone t store) move)
        at_floor true e = (refl, stops place begun refl e)
        at_floor false e = is

    reads_effect : (key : List ℕ) (mode : Mode) → EffectOf (reads t store view at key mode)
    reads_effect key R = let v = fenced_value (read_free key t.cursor store view) in below_cursor (moves (answered_with t (a.Value v)) store (l.Read key v)) (refl, leaves refl refl)
    reads_effect key W = (refl, leaves refl refl)
    reads_effect key T = (refl, leaves refl refl)

    group_effect : (keys : List (List ℕ)) (mode : Mode) → EffectOf (reads_group t store view at keys mode)
    group_effect keys R = let vs = read_all (λ key. read_free key t.cursor store view) keys in below_cursor (moves (answered_with t (a.Values vs)) store (l.ReadAll (zip keys vs))) (refl, leaves refl refl)
    group_effect keys W = (refl, leaves refl refl)
    group_effect keys T = (refl, leaves refl refl)

    module _ (key : List ℕ) (v : Value) (asked : attempt_ask fs t ≡ Some (k.Op (o.Write key v))) where
      logs_effect : (t.mode ≡ W → t.late ≡ true) → (inlined stored : Bool) → EffectOf (logged_write_step inlined stored t store at key v)
      logs_effect late true stored = (refl, leaves refl refl)
      logs_effect late false true = (refl, leaves refl refl)
      logs_effect late false false = at_floor (ltb t.cursor store.floor) refl
        where
          at_floor : (b : Bool) → ltb t.cursor store.floor ≡ b → EffectOf (cond b (stop_gone t store) (moves (record t { stored = true }) (cond b store (record store { named = add_if_new (next_write_name t) v store.named })) (l.Store key v)))
          at_floor true e = (refl, stops place begun refl e)
          at_floor false e = (refl, names_value place begun key v asked late refl refl)

      puts_effect : t.mode ≡ W → t.late ≡ false → EffectOf (free_write_step (put_at key t.cursor (suc t.free_writes) store) t store key v)
      puts_effect mode late = at_put (ltb t.cursor store.floor) (has_version key t.cursor (suc t.free_writes) store) (ltb t.cursor (fence key store.fences)) refl
        where
          at_put : (below there fenced : Bool) → ltb t.cursor store.floor ≡ below → EffectOf (free_write_step (put_answer below there fenced) t store key v)
          at_put true there fenced e = (refl, stops place begun refl e)
          at_put false true fenced e = (refl, puts place begun key v asked mode late refl refl)
          at_put false false true e = (refl, leaves refl refl)
          at_put false false false e = (refl, puts place begun key v asked mode late refl refl)

      writes_effect : (mode : Mode) → t.mode ≡ mode → (late : Bool) → t.late ≡ late → EffectOf (writes setup t store at key v mode late)
      writes_effect W mode false late = puts_effect mode late
      writes_effect W mode true late = logs_effect (λ e. late) (is_inline setup t v) t.stored
      writes_effect R mode late e = logs_effect (λ in_W. absurd (let no_way : R ≡ W = sym mode ∙ in_W in let h : ⊥ = cc in h)) (is_inline setup t v) t.stored
      writes_effect T mode late e = logs_effect (λ in_W. absurd (let no_way : T ≡ W = sym mode ∙ in_W in let h : ⊥ = cc in h)) (is_inline setup t v) t.stored

    joins_effect : (ordinal : ℕ) (r : Option Outcome) → EffectOf (join_step t store at ordinal r)
    joins_effect ordinal None = (refl, leaves refl refl)
    joins_effect ordinal (Some outcome) = (refl, leaves refl refl)

    operates_effect : (op : Op) → attempt_ask fs t ≡ Some (k.Op op) → EffectOf (operation_step setup fs t store view at op)
    operates_effect (o.Read key) asked = reads_effect key t.mode
    operates_effect (o.ReadGroup keys) asked = group_effect keys t.mode
    operates_effect (o.Write key v) asked = writes_effect key v asked t.mode refl t.late refl
    operates_effect (o.Spawn ordinal f args) asked = (refl, leaves refl refl)
    operates_effect (o.Join ordinal) asked = joins_effect ordinal (result_of (child t.path ordinal) view)
    operates_effect (o.Push queue v) asked = (refl, leaves refl refl)
    operates_effect (o.Pop queue) asked = (refl, leaves refl refl)
    operates_effect (o.Begin names) asked = (refl, leaves refl refl)
    operates_effect (o.Commit names ws) asked = (refl, leaves refl refl)

    asks_effect : (ask : Option Ask) → attempt_ask fs t ≡ ask → EffectOf (script_step setup fs t store view at ask)
    asks_effect None asked = (refl, leaves refl refl)
    asks_effect (Some (k.Done outcome)) asked = (refl, leaves refl refl)
    asks_effect (Some (k.Op op)) asked = operates_effect op asked

  waits_effect : (waiting : Bool) (other : Move) → EffectOf other → EffectOf (unless_waiting waiting t store other)
  waits_effect true other is = (refl, leaves refl refl)
  waits_effect false other is = is

  takes_effect : (place : ℕ) → t.place ≡ suc place → (ask : Option Ask) (x : Option (Live Body)) → nth (step_tag t.path) t.place view ≡ x → (other : Move) → EffectOf other → EffectOf (adopt_or t store view (answers_to t ask x) other)
  takes_effect place begun (Some (k.Op op)) (Some x) found other is = by_index (has_index (next_index t.answers) (step_of x.holds))
    where
      by_index : (u : Bool) → EffectOf (adopt_or t store view (cond u (Some x) None) other)
      by_index true = record_effect place begun x found x.holds refl other is
      by_index false = is
  takes_effect place begun (Some (k.Op op)) None found other is = is
  takes_effect place begun (Some (k.Done outcome)) x found other is = is
  takes_effect place begun None x found other is = is

  begins_effect : (call : Call) (x : Option (Live Body)) → EffectOf (init_step setup fs t store view at call x)
  begins_effect call (Some x) = (refl, leaves refl refl)
  begins_effect call None = waits_effect t.waiting (sends_record t store (b.Init t.path) (l.SendInit at)) (refl, leaves refl refl)

  placed_effect : (call : Call) (place : ℕ) → t.place ≡ place → EffectOf (step_at_place setup fs t store view at call place)
  placed_effect call zero is = begins_effect call (nth (step_tag t.path) 0 view)
  placed_effect call (suc place) is =
      takes_effect place is (attempt_ask fs t) (nth (step_tag t.path) t.place view) refl _
      (waits_effect t.waiting (script_step setup fs t store view at (attempt_ask fs t)) (asks_effect place is (attempt_ask fs t) refl))

  call_effect : (r : Option Outcome) (call : Option Call) → EffectOf (step_when_called setup fs t store view at r call)
  call_effect (Some outcome) call = (refl, leaves refl refl)
  call_effect None None = (refl, leaves refl refl)
  call_effect None (Some call) = placed_effect call t.place refl

  running_effect : (life : Life) → EffectOf (step_if_running setup fs t store view at life)
  running_effect Running = call_effect (result_of t.path view) (call_of t.path view)
  running_effect Over = (refl, leaves refl refl)
  running_effect Stopped = (refl, leaves refl refl)
  running_effect Killed = (refl, leaves refl refl)

  pub step_effect : EffectOf (step setup fs store view at t)
  step_effect = running_effect t.life

  -- The store call of a step whose answer is lost: the store behind it is that behind the step, or as it was.

  abbrev pub IsMissed : Missed → Move → Type 0
  IsMissed x move = (x.store ≡ store) ⊎ (x.store ≡ move.store)

  marker_missed : (seq : ℕ) (keys : List (List ℕ)) (answer : Answer) (line : StepLine) → IsMissed (misses_marker store seq keys) (adopts_marker t store seq keys answer line)
  marker_missed seq keys answer line = at_floor (ltb seq store.floor)
    where
      at_floor : (b : Bool) → IsMissed (cond b (nothing_missed store) (record { store = after_read_fenced keys seq store; what = m.Fence })) (cond b (stop_gone t store) (adopts_answer t (after_read_fenced keys seq store) seq answer line))
      at_floor true = inl refl
      at_floor false = inr refl

  record_missed : (seq : ℕ) (body : Body) (other : Move) → IsMissed (misses_record store seq body) (adopts_operation t store view seq body other)
  record_missed seq (b.Read p i key) other = marker_missed seq (key ∷ []) (a.Value (fenced_value (read_fenced key seq store view))) (l.AdoptRead (seqnum seq) key (fenced_value (read_fenced key seq store view)))
  record_missed seq (b.ReadGroup p i keys) other = let vs = read_all (λ key. read_fenced key seq store view) keys in marker_missed seq keys (a.Values vs) (l.AdoptReadAll (seqnum seq) (zip keys vs))
  record_missed seq _ other = inl refl

  put_missed : (p : Put) (key : List ℕ) (v : Value) → IsMissed (misses_put p t store key v) (free_write_step p t store key v)
  put_missed put.Gone key v = inl refl
  put_missed put.Late key v = inl refl
  put_missed put.Done key v = inr refl

  store_missed : (key : List ℕ) (v : Value) (inlined stored : Bool) → IsMissed (cond (inlined || stored) (nothing_missed store) (misses_store (ltb t.cursor store.floor) t store v)) (logged_write_step inlined stored t store at key v)
  store_missed key v true stored = inl refl
  store_missed key v false true = inl refl
  store_missed key v false false = at_floor (ltb t.cursor store.floor)
    where
      at_floor : (b : Bool) → IsMissed (misses_store b t store v) (cond b (stop_gone t store) (moves (record t { stored = true }) (after_put_named (next_write_name t) t.cursor v store) (l.Store key v)))
      at_floor true = inl refl
      at_floor false = inr refl

  write_missed : (key : List ℕ) (v : Value) (mode : Mode) (late : Bool) → IsMissed (misses_write setup t store key v mode late) (writes setup t store at key v mode late)
  write_missed key v W false = put_missed (put_at key t.cursor (suc t.free_writes) store) key v
  write_missed key v W true = store_missed key v (is_inline setup t v) t.stored
  write_missed key v R late = store_missed key v (is_inline setup t v) t.stored
  write_missed key v T late = store_missed key v (is_inline setup t v) t.stored

  asked_missed : (ask : Option Ask) → IsMissed (misses_asked setup t store ask) (script_step setup fs t store view at ask)
  asked_missed (Some (k.Op (o.Write key v))) = write_missed key v t.mode t.late
  asked_missed _ = inl refl

  at_missed : (ask : Option Ask) (x : Option (Live Body)) → IsMissed (misses_at setup t store ask x) (adopt_or t store view x (unless_waiting t.waiting t store (script_step setup fs t store view at ask)))
  at_missed ask (Some x) = record_missed x.seq x.holds (unless_waiting t.waiting t store (script_step setup fs t store view at ask))
  at_missed ask None = waiting t.waiting
    where
      waiting : (b : Bool) → IsMissed (cond b (nothing_missed store) (misses_asked setup t store ask)) (unless_waiting b t store (script_step setup fs t store view at ask))
      waiting true = inl refl
      waiting false = asked_missed ask

  placed_missed : (call : Call) (place : ℕ) → IsMissed (misses_placed setup fs t store view place) (step_at_place setup fs t store view at call place)
  placed_missed call zero = inl refl
  placed_missed call (suc place) = at_missed (attempt_ask fs t) (answers_to t (attempt_ask fs t) (nth (step_tag t.path) t.place view))

  call_missed : (r : Option Outcome) (call : Option Call) → IsMissed (misses_with setup fs t store view r call) (step_when_called setup fs t store view at r call)
  call_missed None (Some call) = placed_missed call t.place
  call_missed None None = inl refl
  call_missed (Some outcome) call = inl refl

  running_missed : (life : Life) → IsMissed (misses_if setup fs t store view life) (step_if_running setup fs t store view at life)
  running_missed Running = call_missed (result_of t.path view) (call_of t.path view)
  running_missed Over = inl refl
  running_missed Stopped = inl refl
  running_missed Killed = inl refl

  pub miss_effect : IsMissed (miss setup fs store view t) (step setup fs store view at t)
  miss_effect = running_missed t.life
