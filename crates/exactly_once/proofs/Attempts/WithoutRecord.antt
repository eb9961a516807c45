-- What an attempt does where no record answers the operation that it asks.
use Rattle.std.proofs.Common.{◌≡◌, inl, inr, ℕ, suc, Bool, true, false, cond, ltb, eqb, ◌&&◌, not, List, ◌∷◌, length, Option, Some, None, refl, sym, ap, ◌∙◌, subst}
use Rattle.std.specs.Prelude.{bytes_eq, is_some}
use Rattle.std.proofs.lemmas.Bool.{and_from, eq-eqb, ltb-true, ltb-false}
use Rattle.lb_base.specs.Path.{IsPath}
use Rattle.lb_base.specs.declared.value.Value.{Value}
use Rattle.lb_base.specs.declared.value.Mode.{Mode}
use Rattle.lb_base.specs.declared.value.Mode.TheVariants.{R, W, T}
use Rattle.lb_base.specs.declared.value.Outcome.{Outcome}
use Rattle.boki_types.specs.declared.body.Body.{Body}
use Rattle.boki_types.specs.declared.line.Life.TheVariants.{Running}
use Rattle.boki_types.specs.declared.line.StepLine.TheVariants as l
use Rattle.boki_types.specs.declared.log.Sent.{Sent}
use Rattle.boki_types.specs.declared.operation.Op.{Op}
use Rattle.boki_types.specs.declared.operation.Op.TheVariants as o
use Rattle.boki_types.specs.declared.operation.Ask.{Ask}
use Rattle.boki_types.specs.declared.operation.Ask.TheVariants as k
use Rattle.boki_types.specs.declared.operation.Answer.TheVariants as a
use Rattle.boki_types.specs.declared.plan.Setup.{Setup}
use Rattle.boki_types.specs.declared.program.Function.{Function}
use Rattle.boki_types.specs.declared.store.Put.{Put}
use Rattle.boki_types.specs.declared.store.Put.TheVariants as put
use Rattle.boki_model.specs.Live.{Live, upto}
use Rattle.boki_model.specs.Bodies.{child}
use Rattle.boki_model.specs.Modes.{result_of}
use Rattle.boki_model.specs.Writes.{Store, NamedValue, fence, version_value, value_under_name, last_value_below, read_free, has_version, put_at, put_answer, after_put, add_if_new}
use Rattle.boki_model.proofs.Logs.{upto-upto}
use Rattle.boki_machine.specs.Attempt.{Attempt, Move, moves, answered_with, next_index}
use Rattle.boki_machine.specs.Decided.{values_below}
use Rattle.boki_machine.specs.Decided as decided
use Rattle.std.specs.Prelude.{zip}
use Rattle.boki_machine.specs.Step.{seqnum, stop_gone, fenced_value, read_all, is_inline, next_write_name, reads, reads_group, logged_write_step, free_write_step, writes, join_step, operation_step, script_step, attempt_ask}
use Rattle.exactly_once.specs.Induction.Invariant.{World, records, SeesCursor, Follows, IsFollowing, IsAskedWrite, InvariantHolds}
use Rattle.exactly_once.specs.FurtherLaws.Words.{values_only, IsAmong}
use Rattle.exactly_once.specs.Induction.StepKeeps.{MoveKeeps}
use Rattle.exactly_once.specs.Induction.NamedValue.{with_value_stored}
use Rattle.exactly_once.specs.Induction.VersionKeeps.{PuttingKeepsInvariant, with_version_put, next_version}
use Rattle.exactly_once.proofs.Log.LiveRecords.{live_under}
use Rattle.exactly_once.proofs.Log.MapChanges.{same_itself}
use Rattle.exactly_once.proofs.Invariant.NamedValueKeeps.{names_keep}
use Rattle.exactly_once.proofs.Attempts.EngineViews.{read_value, read_values}
use Rattle.exactly_once.proofs.Attempts.ActingAttempt.{engine_at, following, up_to}
use Rattle.exactly_once.proofs.Attempts.SentIsAsked as sends
use Rattle.exactly_once.proofs.Attempts.AdoptedRecord.{stay_right, gone_right}
use Rattle.exactly_once.proofs.Attempts.OneValueOfAName.{one_value}
use Rattle.exactly_once.proofs.Attempts.FreeSteps.{read_follows, read_all_follows, put_follows, late_follows, store_follows, not_fresh}

pub no_value : (o : Option Value) → is_some o ≡ false → o ≡ None
no_value None e = refl
no_value (Some v) e = let no_way : true ≡ false = e in cc

module _ (setup : Setup) (fs : List Function) (w : World) (holds : InvariantHolds setup fs w) (t : Attempt) (among : IsAmong t w.attempts) (running : t.life ≡ Running) (path : IsPath t.path) (place : ℕ) (begun : t.place ≡ suc place) where
  abbrev pub view : List (Live Body)
  view = upto (engine_at setup fs w holds t) (records w)

  abbrev here : List (Live Body)
  here = up_to setup fs w holds t

  pub f : Follows setup fs (values_only w.store) w.store.fences here t
  f = not_fresh setup fs (values_only w.store) w.store.fences (length w.log) (records w) w.positions t place begun (following setup fs w holds t among)

  is : IsFollowing setup fs (values_only w.store) w.store.fences (length w.log) (records w) w.positions t
  is = following setup fs w holds t among

  -- what it sees up to its cursor
  seen_here : upto t.cursor view ≡ here
  seen_here = upto-upto t.cursor (engine_at setup fs w holds t) (records w) (subst (SeesCursor t.cursor (engine_at setup fs w holds t)) running is.seen)

  -- Reads.

  reads_right : (at : Sent) (key : List ℕ) → attempt_ask fs t ≡ Some (k.Op (o.Read key)) → (mode : Mode) → t.mode ≡ mode → MoveKeeps setup fs w (reads t w.store view at key mode)
  reads_right at key asked T mode = sends.read_right setup fs w holds t among path f key (l.SendRead at key) asked (inl mode)
  reads_right at key asked W mode = sends.read_right setup fs w holds t among path f key (l.SendRead at key) asked (inr mode)
  reads_right at key asked R mode = by_floor (ltb t.cursor w.store.floor) refl
    where
      by_floor : (b : Bool) → ltb t.cursor w.store.floor ≡ b → MoveKeeps setup fs w (cond b (stop_gone t w.store) (moves (answered_with t (a.Value (fenced_value (read_free key t.cursor w.store view)))) w.store (l.Read key (fenced_value (read_free key t.cursor w.store view)))))
      by_floor true e = gone_right setup fs w holds t among
      by_floor false e =
          let same : fenced_value (read_free key t.cursor w.store view) ≡ decided.value_or_none (last_value_below key (suc t.cursor) 0 (values_only w.store) here) =
          read_value t.cursor key t.cursor w.store view e ∙ ap (λ xs. decided.value_or_none (last_value_below key (suc t.cursor) 0 (values_only w.store) xs)) seen_here in
          record {
            holds = holds;
            follows = record {
              within = is.within;
              seen = is.seen;
              follows = inr (subst (λ v. Follows setup fs (values_only w.store) w.store.fences here (answered_with t (a.Value v))) (sym same) (read_follows setup fs (values_only w.store) w.store.fences here t f key asked mode));
            };
          }

  reads_all_right : (at : Sent) (keys : List (List ℕ)) → attempt_ask fs t ≡ Some (k.Op (o.ReadGroup keys)) → (mode : Mode) → t.mode ≡ mode → MoveKeeps setup fs w (reads_group t w.store view at keys mode)
  reads_all_right at keys asked T mode = sends.read_all_right setup fs w holds t among path f keys (l.SendReadAll at keys) asked (inl mode)
  reads_all_right at keys asked W mode = sends.read_all_right setup fs w holds t among path f keys (l.SendReadAll at keys) asked (inr mode)
  reads_all_right at keys asked R mode = by_floor (ltb t.cursor w.store.floor) refl
    where
      by_floor : (b : Bool) → ltb t.cursor w.store.floor ≡ b
          → MoveKeeps setup fs w (cond b (stop_gone t w.store) (moves (answered_with t (a.Values (read_all (λ key. read_free key t.cursor w.store view) keys))) w.store (l.ReadAll (zip keys (read_all (λ key. read_free key t.cursor w.store view) keys)))))
      by_floor true e = gone_right setup fs w holds t among
      by_floor false e =
          let same : read_all (λ key. read_free key t.cursor w.store view) keys ≡ values_below (suc t.cursor) 0 (values_only w.store) here keys =
          read_values t.cursor t.cursor w.store view keys e ∙ ap (λ xs. values_below (suc t.cursor) 0 (values_only w.store) xs keys) seen_here in
          record {
            holds = holds;
            follows = record {
              within = is.within;
              seen = is.seen;
              follows = inr (subst (λ vs. Follows setup fs (values_only w.store) w.store.fences here (answered_with t (a.Values vs))) (sym same) (read_all_follows setup fs (values_only w.store) w.store.fences here t f keys asked mode));
            };
          }

  -- Writes.

  module _ (key : List ℕ) (value : Value) (asked : attempt_ask fs t ≡ Some (k.Op (o.Write key value))) where
    -- a logged one: its value is stored
    module _ (late : t.mode ≡ W → t.late ≡ true) where
      abbrev entry : NamedValue
      entry = record { name = next_write_name t; value = value }

      owed : IsAskedWrite setup fs (values_only w.store) w.store.fences (length w.log) (records w) entry
      owed = record {
        c = t.cursor;
        within = is.within;
        key = key;
        index = next_index t.answers;
        place = sym f.place;
        asks = sends.logs_write setup fs w holds t among path f key value asked late;
      }

      -- the store behind it, and the attempt that follows there
      pub record Named (named : List NamedValue) : Type 0 where
        pub holds_there : InvariantHolds setup fs (record w { store = record (w.store) { named = named } })
        pub follows_there : IsFollowing setup fs (values_only (record (w.store) { named = named })) w.store.fences (length w.log) (records w) w.positions (record t { stored = true })

      pub named_right : Named (add_if_new (next_write_name t) value w.store.named)
      named_right = by_value (value_under_name (next_write_name t) w.store.named) refl
        where
          then_stored : (named : List NamedValue) → InvariantHolds setup fs (record w { store = record (w.store) { named = named } }) → value_under_name (next_write_name t) named ≡ Some value → Named named
          then_stored named holds_then found =
              let then_ = following setup fs (record w { store = record (w.store) { named = named } }) holds_then t among in
              let follows_then = not_fresh setup fs (values_only (record (w.store) { named = named })) w.store.fences (length w.log) (records w) w.positions t place begun then_ in
              record {
                holds_there = holds_then;
                follows_there = record { within = then_.within; seen = then_.seen; follows = inr (store_follows setup fs (values_only (record (w.store) { named = named })) w.store.fences here t follows_then key value asked late found) };
              }

          by_value : (old : Option Value) → value_under_name (next_write_name t) w.store.named ≡ old → Named (cond (is_some old) w.store.named (entry ∷ w.store.named))
          by_value None new = then_stored (entry ∷ w.store.named) (names_keep setup fs w entry holds new owed) (own_name w.store.named)
            where
              own_name : (named : List NamedValue) → value_under_name (next_write_name t) (entry ∷ named) ≡ Some value
              own_name named = ap (λ b. cond b (Some value) (value_under_name (next_write_name t) named)) (and_from (bytes_eq t.path t.path) (eqb t.place t.place) (same_itself t.path) (eq-eqb t.place t.place refl))
          by_value (Some old) found =
              then_stored w.store.named holds
              (found ∙ ap Some (one_value setup fs (values_only w.store) w.store.fences (length w.log) (records w) (live_under w.log) holds.sound.fit t.path t.place key value old t.cursor (next_index t.answers) holds.owed f.place (sends.logs_write setup fs w holds t among path f key value asked late) found))

      logged_right : (at : Sent) (inlined stored : Bool) → t.stored ≡ stored → MoveKeeps setup fs w (logged_write_step inlined stored t w.store at key value)
      logged_right at true stored e = sends.write_right setup fs w holds t among path f key value asked late (Some value) (l.SendWrite at key (Some value)) refl
      logged_right at false true e = sends.stored_right setup fs w holds t among path f key value asked late (l.SendWrite at key None) e
      logged_right at false false e = by_floor (ltb t.cursor w.store.floor)
        where
          by_floor : (b : Bool) → MoveKeeps setup fs w (cond b (stop_gone t w.store) (moves (record t { stored = true }) (cond b w.store (record (w.store) { named = add_if_new (next_write_name t) value w.store.named })) (l.Store key value)))
          by_floor true = gone_right setup fs w holds t among
          by_floor false = record { holds = named_right.holds_there; follows = named_right.follows_there }

    -- a free one: its version is there, or is put in, unless it is late
    module _ (versions_keep : PuttingKeepsInvariant) (in_W : t.mode ≡ W) (in_time : t.late ≡ false) where
      abbrev pub put_store : Bool → Bool → Bool → Store
      put_store below there fenced = cond (not below && not there && not fenced) (record (w.store) { versions = next_version t key value ∷ w.store.versions }) w.store

      abbrev below : Bool
      below = ltb t.cursor w.store.floor

      abbrev there : Bool
      there = has_version key t.cursor (suc t.free_writes) w.store

      abbrev fenced : Bool
      fenced = ltb t.cursor (fence key w.store.fences)

      no_version : there ≡ false → version_value key t.cursor (suc t.free_writes) w.store.versions ≡ None
      no_version e = no_value (version_value key t.cursor (suc t.free_writes) w.store.versions) e

      new_holds : there ≡ false → fenced ≡ false → InvariantHolds setup fs (with_version_put (next_version t key value) w)
      new_holds absent before =
          versions_keep setup fs w t key value holds
          (record { among = among; place = place; begun = begun; mode = in_W; asked = asked; new = no_version absent; unfenced = ltb-false t.cursor (fence key w.store.fences) before })

      pub put_holds : (x y z : Bool) → below ≡ x → there ≡ y → fenced ≡ z → InvariantHolds setup fs (record w { store = put_store x y z })
      put_holds true y z is_below is_there is_fenced = holds
      put_holds false true z is_below is_there is_fenced = holds
      put_holds false false true is_below is_there is_fenced = holds
      put_holds false false false is_below is_there is_fenced = new_holds is_there is_fenced

      -- what it does
      abbrev does : Put → Store → Move
      does put.Gone s = stop_gone t w.store
      does put.Late s = moves (record t { late = true }) w.store (l.Late key)
      does put.Done s = moves (answered_with (record t { free_writes = suc t.free_writes }) a.Done) s (l.Put key value (seqnum t.cursor) (suc t.free_writes))

      does_it : (p : Put) → does p (after_put key t.cursor (suc t.free_writes) value w.store) ≡ free_write_step p t w.store key value
      does_it put.Gone = refl
      does_it put.Late = refl
      does_it put.Done = refl

      done_there : is_some (version_value key t.cursor (suc t.free_writes) w.store.versions) ≡ true → MoveKeeps setup fs w (does put.Done w.store)
      done_there found = record {
        holds = holds;
        follows = record { within = is.within; seen = is.seen; follows = inr (put_follows setup fs (values_only w.store) w.store.fences here t f key value asked in_W in_time found) };
      }

      done_new : there ≡ false → fenced ≡ false → MoveKeeps setup fs w (does put.Done (record (w.store) { versions = next_version t key value ∷ w.store.versions }))
      done_new absent before =
          let then_world : World = with_version_put (next_version t key value) w in
          let holds_then = new_holds absent before in
          let then_ = following setup fs then_world holds_then t among in
          let follows_then = not_fresh setup fs (values_only then_world.store) w.store.fences (length w.log) (records w) w.positions t place begun then_ in
          let found : is_some (version_value key t.cursor (suc t.free_writes) then_world.store.versions) ≡ true =
          ap (λ b. is_some (cond b (Some value) (version_value key t.cursor (suc t.free_writes) w.store.versions)))
          (and_from (bytes_eq key key && eqb t.cursor t.cursor) (eqb (suc t.free_writes) (suc t.free_writes)) (and_from (bytes_eq key key) (eqb t.cursor t.cursor) (same_itself key) (eq-eqb t.cursor t.cursor refl)) (eq-eqb (suc t.free_writes) (suc t.free_writes) refl)) in
          record {
            holds = holds_then;
            follows = record { within = then_.within; seen = then_.seen; follows = inr (put_follows setup fs (values_only then_world.store) w.store.fences here t follows_then key value asked in_W in_time found) };
          }

      put_cases : (x y z : Bool) → below ≡ x → there ≡ y → fenced ≡ z → MoveKeeps setup fs w (does (put_answer x y z) (put_store x y z))
      put_cases true y z is_below is_there is_fenced = gone_right setup fs w holds t among
      put_cases false true z is_below is_there is_fenced = done_there is_there
      put_cases false false true is_below is_there is_fenced = record {
        holds = holds;
        follows = record { within = is.within; seen = is.seen; follows = inr (late_follows setup fs (values_only w.store) w.store.fences here t f key value asked in_W (no_version is_there) (ltb-true t.cursor (fence key w.store.fences) is_fenced)) };
      }
      put_cases false false false is_below is_there is_fenced = done_new is_there is_fenced

      pub put_right : MoveKeeps setup fs w (free_write_step (put_at key t.cursor (suc t.free_writes) w.store) t w.store key value)
      put_right = subst (MoveKeeps setup fs w) (does_it (put_at key t.cursor (suc t.free_writes) w.store)) (put_cases below there fenced refl refl refl)

    writes_right : PuttingKeepsInvariant → (at : Sent) (mode : Mode) → t.mode ≡ mode → (late : Bool) → t.late ≡ late → MoveKeeps setup fs w (writes setup t w.store at key value mode late)
    writes_right versions_keep at W mode false late = put_right versions_keep mode late
    writes_right versions_keep at W mode true late = logged_right (λ e. late) at (is_inline setup t value) t.stored refl
    writes_right versions_keep at R mode late e = logged_right (λ in_W. absurd (let no_way : R ≡ W = sym mode ∙ in_W in let h : ⊥ = cc in h)) at (is_inline setup t value) t.stored refl
    writes_right versions_keep at T mode late e = logged_right (λ in_W. absurd (let no_way : T ≡ W = sym mode ∙ in_W in let h : ⊥ = cc in h)) at (is_inline setup t value) t.stored refl

  -- Any operation, or the end.

  joins_right : (at : Sent) (ordinal : ℕ) → attempt_ask fs t ≡ Some (k.Op (o.Join ordinal)) → (result : Option Outcome) → result_of (child t.path ordinal) view ≡ result → MoveKeeps setup fs w (join_step t w.store at ordinal result)
  joins_right at ordinal asked None e = stay_right setup fs w holds t among (l.WaitsJoin (child t.path ordinal))
  joins_right at ordinal asked (Some outcome) e = sends.join_right setup fs w holds t among path f ordinal outcome (engine_at setup fs w holds t) (l.SendJoin at (child t.path ordinal)) asked e

  operates_right : PuttingKeepsInvariant → (at : Sent) (op : Op) → attempt_ask fs t ≡ Some (k.Op op) → MoveKeeps setup fs w (operation_step setup fs t w.store view at op)
  operates_right versions_keep at (o.Read key) asked = reads_right at key asked t.mode refl
  operates_right versions_keep at (o.ReadGroup keys) asked = reads_all_right at keys asked t.mode refl
  operates_right versions_keep at (o.Write key value) asked = writes_right key value asked versions_keep at t.mode refl t.late refl
  operates_right versions_keep at (o.Spawn ordinal function args) asked = sends.spawn_right setup fs w holds t among path f ordinal function args (l.SendSpawn at (child t.path ordinal) function args) asked
  operates_right versions_keep at (o.Join ordinal) asked = joins_right at ordinal asked (result_of (child t.path ordinal) view) refl
  operates_right versions_keep at (o.Push queue value) asked = sends.push_right setup fs w holds t among path f queue value (l.SendPush at queue value) asked
  operates_right versions_keep at (o.Pop queue) asked = sends.pop_right setup fs w holds t among path f queue (l.SendPop at queue) asked
  operates_right versions_keep at (o.Begin with_value_stored) asked = sends.begin_right setup fs w holds t among path f with_value_stored (l.SendBegin at with_value_stored) asked
  operates_right versions_keep at (o.Commit with_value_stored writes) asked = sends.commit_right setup fs w holds t among path f with_value_stored writes (l.SendCommit at writes) asked

  pub asks_right : PuttingKeepsInvariant → (at : Sent) (ask : Option Ask) → attempt_ask fs t ≡ ask → MoveKeeps setup fs w (script_step setup fs t w.store view at ask)
  asks_right versions_keep at None asked = stay_right setup fs w holds t among l.Idle
  asks_right versions_keep at (Some (k.Done outcome)) asked = sends.finish_right setup fs w holds t among path f outcome (l.SendFinish at outcome) asked
  asks_right versions_keep at (Some (k.Op op)) asked = operates_right versions_keep at op asked
