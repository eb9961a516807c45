-- What the store holds: of an invocation that has ended, no named value whose write lies below the floor.
use Rattle.std.proofs.Common.{◌≡◌, ◌⊎◌, inl, inr, ⊎_elim, ℕ, ◌<◌, ◌≤◌, Bool, true, false, cond, leb, ltb, eqb, ◌&&◌, not, List, [], ◌∷◌, length, Option, Some, None, refl, sym, ap, ◌∙◌, subst, arith}
use Rattle.std.specs.Prelude.{bytes_eq, is_some}
use Rattle.std.specs.List.{filter, AllByRecursion}
use Rattle.std.proofs.lemmas.Bool.{and_from, eq-eqb, leb-true, lt-ltb, cases_order, cases_lt, or_left, or_right}
use Rattle.lb_base.specs.declared.value.Outcome.{Outcome}
use Rattle.boki_types.specs.declared.body.Body.{Body}
use Rattle.boki_types.specs.declared.body.Body.TheVariants as b
use Rattle.boki_types.specs.declared.plan.Setup.{Setup}
use Rattle.boki_types.specs.declared.program.Function.{Function}
use Rattle.boki_types.specs.declared.store.Name.{Name}
use Rattle.boki_model.specs.Live.{Live}
use Rattle.boki_model.specs.Modes.{result_of, finish_of}
use Rattle.std.specs.Option.{option_or}
use Rattle.boki_model.specs.Writes.{Store, NamedValue, logged_write, is_write_named, is_settled, unsettled_values}
use Rattle.boki_machine.specs.Machine.{Machine, live_records, initial_machine, apply_events}
use Rattle.exactly_once.specs.Induction.SoundLogs.{MayFollow}
use Rattle.exactly_once.specs.Induction.EventKeeps.{MachineHolds, EventsKeepInvariant}
use Rattle.exactly_once.specs.Induction.OpeningHolds.{world_of}
use Rattle.exactly_once.specs.FurtherLaws.ModesAndFloors.{IsEnded}
use Rattle.exactly_once.specs.Induction.Invariant.{World, records, IsAskedWrite, InvariantHolds}
use Rattle.exactly_once.specs.FurtherLaws.Words.{values_only, IsAmong}
use Rattle.exactly_once.specs.FurtherLaws.StoreBound.{is_same_version, is_same_stored, WritesName, Finishes, IsUnsettled, HeldOnce}
use Rattle.exactly_once.specs.FurtherLaws.AnyEvents.{AfterEvents}
use Rattle.exactly_once.proofs.Log.HistoryTails.{Tail, here, there}
use Rattle.exactly_once.proofs.Log.LiveRecords.{live_under, tails_by_seq}
use Rattle.exactly_once.proofs.Log.MapChanges.{same_itself}
use Rattle.exactly_once.proofs.Log.ModesAndFloors.{ended_later}
use Rattle.exactly_once.proofs.Invocations.InitAndCursor.{one_record, fit_tail}
use Rattle.exactly_once.proofs.AfterEvents.EndedInvocations.{tail_among, not_over, IsWrite, next_step, its_record}
use Rattle.exactly_once.proofs.AfterEvents.StoredOnce.{keys_once, kept_once, StandOnce, run_once}
use Rattle.exactly_once.proofs.Machines.ExactlyOnce.{run_holds, opens}

-- what lies behind an element
record Behind {A : Type 0} (x : A) (ys : List A) : Type 0 where
  pub rest : List A
  pub tail : Tail (x ∷ rest) ys

behind : {A : Type 0} (x : A) (ys : List A) → IsAmong x ys → Behind x ys
behind x [] among = absurd among
behind x (y ∷ ys) (inl e) = record { rest = ys; tail = subst (λ y. Tail (x ∷ ys) (y ∷ ys)) e here }
behind x (y ∷ ys) (inr among) = let it = behind x ys among in record { rest = it.rest; tail = there it.tail }

-- what a test keeps, passes it
each_passes : {A : Type 0} (P Q : A → Type 0) (test : A → Bool) → ((x : A) → test x ≡ true → P x → Q x) → (xs : List A) → AllByRecursion P xs → AllByRecursion Q (filter test xs)
each_passes P Q test passes [] all = tt
each_passes P Q test passes (x ∷ xs) all = at (test x) refl (each_passes P Q test passes xs all.1)
  where
    at : (t : Bool) → test x ≡ t → AllByRecursion Q (filter test xs) → AllByRecursion Q (cond t (x ∷ filter test xs) (filter test xs))
    at true e ih = (passes x e all.0, ih)
    at false e ih = ih

any_each : {A : Type 0} (xs : List A) → AllByRecursion (λ x. Unit {0}) xs
any_each [] = tt
any_each (x ∷ xs) = (tt, any_each xs)

settled_there : (name : Name) (floor : ℕ) (x : Live Body) (xs : List (Live Body)) → IsAmong x xs → x.seq < floor → is_write_named name (logged_write x.holds) ≡ true → is_settled name floor xs ≡ true
settled_there name floor x [] among lt names = absurd among
settled_there name floor x (y ∷ ys) (inl e) lt names =
    or_left (ltb y.seq floor && is_write_named name (logged_write y.holds)) (is_settled name floor ys)
    (and_from (ltb y.seq floor) (is_write_named name (logged_write y.holds)) (ap (λ (x : Live Body). ltb x.seq floor) (sym e) ∙ lt-ltb x.seq floor lt) (ap (λ (x : Live Body). is_write_named name (logged_write x.holds)) (sym e) ∙ names))
settled_there name floor x (y ∷ ys) (inr among) lt names =
    or_right (ltb y.seq floor && is_write_named name (logged_write y.holds)) (is_settled name floor ys) (settled_there name floor x ys among lt names)

module _ (setup : Setup) (fs : List Function) (w : World) (holds : InvariantHolds setup fs w) where
  abbrev now : List (Live Body)
  now = records w

  abbrev store : Store
  store = values_only w.store

  finish_ends : (p : List ℕ) (x : Live Body) (xs : List (Live Body)) → Tail (x ∷ xs) now → (f : Finishes p now x) → IsEnded p (x ∷ xs)
  finish_ends p x xs t f = ap (λ o. is_some (option_or (result_of p xs) o)) (ap (finish_of p) f.is_finish ∙ ap (λ t. cond t (Some f.outcome) None) (same_itself p)) ∙ at (result_of p xs)
    where
      at : (o : Option Outcome) → is_some (option_or o (Some f.outcome)) ≡ true
      at None = refl
      at (Some r) = refl

  -- a write comes before the Finish of its invocation
  write_before : (name : Name) (x y : Live Body) → WritesName name now x → Finishes name.path now y → x.seq < y.seq
  write_before name x y write finish =
      ⊎_elim (λ e. absurd (same_record e)) (λ h. ⊎_elim (λ lt. lt) (λ gt. absurd (finished_before gt)) h) (cases_order x.seq y.seq)
    where
      bx : Behind x now
      bx = behind x now write.among

      by : Behind y now
      by = behind y now finish.among

      same_record : x.seq ≡ y.seq → ⊥
      same_record e =
          let one = one_record x y bx.rest by.rest (length w.log) now (live_under w.log) bx.tail by.tail e in
          let same : x ≡ y = cc in
          let no_way : b.Write name.path write.index name.place write.key write.here ≡ b.Finish name.path finish.index finish.outcome = sym write.is_write ∙ ap (λ (x : Live Body). x.holds) same ∙ finish.is_finish in
          cc

      finished_before : y.seq < x.seq → ⊥
      finished_before lt =
          let t = tails_by_seq y x by.rest bx.rest (length w.log) now (live_under w.log) by.tail bx.tail lt in
          let ended = ended_later name.path (y ∷ by.rest) bx.rest t (finish_ends name.path y by.rest by.tail finish) in
          let fit = fit_tail setup fs store (x ∷ bx.rest) now bx.tail holds.sound.fit in
          let fits : MayFollow setup fs store bx.rest (b.Write name.path write.index name.place write.key write.here) = subst (MayFollow setup fs store bx.rest) write.is_write fit.0 in
          not_over setup fs store w.store.fences name.path bx.rest fit.2 ended fits.asks.reaches.unended

  open_name : (s : NamedValue) → is_settled s.name w.store.floor now ≡ false → IsAskedWrite setup fs store w.store.fences (length w.log) now s → IsUnsettled w.store.floor now s
  open_name s unsettled_is owed = record { above = above; written = written; unfinished = unfinished }
    where
      above : (x : Live Body) → WritesName s.name now x → w.store.floor ≤ x.seq
      above x write = at (cases_lt x.seq w.store.floor)
        where
          own : is_write_named s.name (logged_write x.holds) ≡ true
          own = ap (λ body. is_write_named s.name (logged_write body)) write.is_write ∙ and_from (bytes_eq s.name.path s.name.path) (eqb s.name.place s.name.place) (same_itself s.name.path) (eq-eqb s.name.place s.name.place refl)

          at : (x.seq < w.store.floor) ⊎ (w.store.floor ≤ x.seq) → w.store.floor ≤ x.seq
          at (inr le) = le
          at (inl lt) = absurd (let no_way : false ≡ true = sym unsettled_is ∙ settled_there s.name w.store.floor x now write.among lt own in let h : ⊥ = cc in h)

      written : IsEnded s.name.path now → (x : Live Body) × WritesName s.name now x
      written ended =
          let next = next_step setup fs w holds s.name.path ended owed.c owed.index owed.key s.value owed.asks in
          let it : IsWrite store next.step.holds s.name.path s.name.place s.value =
          subst (λ place. IsWrite store next.step.holds s.name.path place s.value) (sym owed.place) (its_record setup fs w holds s.name.path ended owed.c owed.index owed.key s.value owed.asks) in
          (next.step, record { among = tail_among next.step next.rest now next.tail; index = it.index; key = it.key; here = it.here_is; is_write = it.is_write })

      unfinished : (y : Live Body) → Finishes s.name.path now y → w.store.floor < y.seq
      unfinished y finish =
          let by = behind y now finish.among in
          let ended = ended_later s.name.path (y ∷ by.rest) now by.tail (finish_ends s.name.path y by.rest by.tail finish) in
          let write = written ended in
          let le = above write.0 write.1 in
          let lt = write_before s.name write.0 y write.1 finish in omega (arith, le, lt)

  pub open_names : AllByRecursion (IsUnsettled w.store.floor now) (unsettled_values w.store.floor now w.store.named)
  open_names = each_passes (IsAskedWrite setup fs store w.store.fences (length w.log) now) (IsUnsettled w.store.floor now) (λ s. not (is_settled s.name w.store.floor now)) (λ s kept owed. open_name s (unsettled_as (is_settled s.name w.store.floor now) kept) owed) w.store.named holds.owed
    where
      unsettled_as : (t : Bool) → not t ≡ true → t ≡ false
      unsettled_as false e = refl
      unsettled_as true e = let no_way : false ≡ true = e in cc

held_is : (setup : Setup) (fs : List Function) (m : Machine) → MachineHolds setup fs m → StandOnce m.store → HeldOnce setup fs m
held_is setup fs m good once = record {
  counted = refl;
  keys = keys_once m.store.floor m.store (live_records m);
  versions = kept_once is_same_version (λ v. leb m.store.floor v.cursor) m.store.versions once.versions;
  names = kept_once is_same_stored (λ s. not (is_settled s.name m.store.floor (live_records m))) m.store.named once.named;
  floor = each_passes (λ v. Unit {0}) (λ v. m.store.floor ≤ v.cursor) (λ v. leb m.store.floor v.cursor) (λ v e any. leb-true m.store.floor v.cursor e) m.store.versions (any_each m.store.versions);
  open_names = open_names setup fs (world_of m) good.holds;
}

pub held_once : EventsKeepInvariant → AfterEvents HeldOnce
held_once keep setup fs objects events all =
    let m = (apply_events setup fs events (initial_machine setup objects)).machine in
    held_is setup fs m (run_holds setup fs keep events (initial_machine setup objects) all (opens setup fs objects)) (run_once setup fs events (initial_machine setup objects) (record { versions = tt; named = tt }))
