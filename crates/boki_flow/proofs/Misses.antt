-- What lost store calls do.
use Rattle.std.proofs.Common.{◌≡◌, ◌∙◌, inl, ℕ, suc, ◌+◌, ◌<◌, ◌≤◌, ◌&&◌, ◌||◌, not, Bool, true, false, cond, ltb, List, [], ◌∷◌, Option, Some, None, option_map, is_some, refl, sym, ap, subst, arith}
use Rattle.lb_base.specs.declared.value.Mode.{Mode}
use Rattle.lb_base.specs.declared.value.Mode.TheVariants.{R, W, T}
use Rattle.lb_base.specs.declared.value.Outcome.{Outcome}
use Rattle.lb_base.specs.declared.value.Seqnum.{Seqnum}
use Rattle.lb_base.specs.declared.value.Value.{Value}
use Rattle.boki_types.specs.declared.body.Body.{Body}
use Rattle.boki_types.specs.declared.body.Body.TheVariants as b
use Rattle.boki_types.specs.declared.line.Life.{Life}
use Rattle.boki_types.specs.declared.line.Life.TheVariants as l
use Rattle.boki_types.specs.declared.line.Miss.{Miss}
use Rattle.boki_types.specs.declared.line.Miss.TheVariants as what
use Rattle.boki_types.specs.declared.log.Call.{Call}
use Rattle.boki_types.specs.declared.operation.Ask.{Ask}
use Rattle.boki_types.specs.declared.operation.Ask.TheVariants as k
use Rattle.boki_types.specs.declared.operation.Op.{Op}
use Rattle.boki_types.specs.declared.operation.Op.TheVariants as o
use Rattle.boki_types.specs.declared.plan.Setup.{Setup}
use Rattle.boki_types.specs.declared.program.Function.{Function}
use Rattle.boki_types.specs.declared.store.Answered.TheVariants as ans
use Rattle.boki_types.specs.declared.store.GroupAnswer.TheVariants as group
use Rattle.boki_types.specs.declared.store.Name.{Name}
use Rattle.boki_types.specs.declared.store.Named.{Named}
use Rattle.boki_types.specs.declared.store.Named.TheVariants as named
use Rattle.boki_types.specs.declared.store.Put.{Put}
use Rattle.boki_types.specs.declared.store.Put.TheVariants as put
use Rattle.boki_model.specs.Bodies.{step_tag}
use Rattle.boki_model.specs.Live.{Live}
use Rattle.boki_model.specs.Reads.{nth}
use Rattle.boki_model.specs.Writes.{Store, raise_fences, put_at, put_answer, has_version, fence, after_put, put_named, add_if_new, after_put_named}
use Rattle.boki_machine.specs.Attempt.{Attempt, call_of}
use Rattle.machine_laws.specs.Ends.{finish_in, last_tagged}
use Rattle.boki_machine.specs.Step.{Missed, nothing_missed, is_running, misses_if, misses_with, misses_placed, misses_at, misses_asked, misses_record, misses_marker, misses_write, misses_put, misses_store, is_inline, is_new_engine, is_short_value, next_write_name, attempt_ask, answers_to}
use Rattle.script_run.specs.Frames.{FrameState}
use Rattle.hm_read.specs.Kept.{IsKept}
use Rattle.hm_read.proofs.Kept.{unchanged_is_kept}
use Rattle.hm_write.specs.Marked.{ReadsMarked, ReadsGroupMarked}
use Rattle.hm_write.specs.Stores.{StoresNamed, PutsFree}
use Rattle.obj_store.specs.Kept.{StoreState}
use Rattle.obj_store.specs.StandsFor.{IsUnchanged}
use Rattle.step_log.specs.Sound.{live_bodies, view, seqnum_and_body}
use Rattle.book_api.specs.Books.{position}
use Rattle.attempt_state.specs.declared.progress.Progress.{Progress}
use Rattle.attempt_state.specs.declared.state.AttemptState.{AttemptState}
use Rattle.attempt_state.specs.Attempts.{AttemptStandsFor, HasScript}
use Rattle.attempt_state.specs.Deciding.{writes_freely}
use Rattle.flow_parts.specs.declared.parts.Parts.{Parts}
use Rattle.flow_parts.specs.Parts.{PartsStandFor}
use Rattle.boki_flow.specs.Flow.{FlowStandsFor, IsMissed}
use Rattle.boki_flow.specs.Arms.{Always, Runs, HasBegun, FindsAnswer, ScriptAsks, SeesSeqnum, MissesBy, MissCutShortBy, step_missed, running_missed, unended_missed, next_missed, asked_missed}
use Rattle.flow_parts.proofs.Appended.{stored_stands}
use Rattle.boki_flow.proofs.Leading.{Leads}
use Rattle.boki_flow.proofs.Standing.{asks_is, no_frame}
use Rattle.boki_flow.proofs.StepCases.{runs_by, none_by, life_is, result_is, place_is, begun, found_there}

-- Nothing is done.
pub misses_none : (setup : Setup) (fs : List Function) (store : Store) (a : Attempt) (parts : Parts) (kept : AttemptState)
    → FlowStandsFor setup fs store a parts kept → IsMissed setup (nothing_missed store) parts parts what.Nothing
misses_none setup fs store a parts kept stands = record { what_is = refl; parts = stands.parts; book = refl }

pub miss_cut_before : (P : List Function → Setup → Store → Attempt → Type 0) (missed : List Function → Setup → Store → Attempt → Missed) (parts : Parts) (kept : AttemptState)
    → MissCutShortBy P missed parts parts kept
miss_cut_before P missed parts kept fs setup store a stands p = record { book = refl; parts = inl stands.parts }

-- The store is unchanged where memory ran out.
pub miss_cut_stays : (P : List Function → Setup → Store → Attempt → Type 0) (missed : List Function → Setup → Store → Attempt → Missed) (parts : Parts) (kept : AttemptState) (after : StoreState)
    → IsUnchanged parts.store after → MissCutShortBy P missed parts (record parts { store = after }) kept
miss_cut_stays P missed parts kept after same fs setup store a stands p = record {
  book = refl;
  parts = inl (stored_stands setup store parts stands.parts after store (unchanged_is_kept parts.store after store (live_bodies parts.book) same stands.parts.kept.store));
}

idles_by : (setup : Setup) (fs : List Function) (a : Attempt) (store : Store) (seen : List (Live Body)) (life : Life) → is_running life ≡ false
    → record { store = store; what = what.Idle } ≡ misses_if setup fs a store seen life
idles_by setup fs a store seen l.Running e = absurd (let no_way : true ≡ false = e in cc)
idles_by setup fs a store seen l.Over e = refl
idles_by setup fs a store seen l.Stopped e = refl
idles_by setup fs a store seen l.Killed e = refl

uncalled_by : (setup : Setup) (fs : List Function) (a : Attempt) (store : Store) (seen : List (Live Body)) (call : Option Call) → a.place ≡ 0
    → nothing_missed store ≡ misses_with setup fs a store seen None call
uncalled_by setup fs a store seen None e = refl
uncalled_by setup fs a store seen (Some call) e = sym (ap (misses_placed setup fs a store seen) e)

module _ (parts : Parts) (kept : AttemptState) where
  -- It doesn't run.
  pub miss_idles : is_running kept.progress.life ≡ false → MissesBy (λ fs. Always) (λ fs. step_missed fs parts) parts parts kept what.Idle
  miss_idles e fs setup store a stands p =
      subst (λ (missed : Missed). IsMissed setup missed parts parts what.Idle)
      (idles_by setup fs a store (view parts.book a.engine) a.life (life_is fs parts kept a stands.attempt ∙ e))
      (record { what_is = refl; parts = stands.parts; book = refl })

  -- It runs.
  pub misses_run : is_running kept.progress.life ≡ true → (fs : List Function) → Leads Always Runs (step_missed fs parts) (running_missed fs parts) fs parts kept
  misses_run e fs = record {
    needs = λ setup store a stands p. runs_by a.life (life_is fs parts kept a stands.attempt ∙ e);
    same = λ setup store a stands p.
        sym (ap (misses_if setup fs a store (view parts.book a.engine)) (runs_by a.life (life_is fs parts kept a stands.attempt ∙ e)));
  }

  abbrev Ended : Option Outcome → Type 0
  Ended outcome = outcome ≡ finish_in kept.progress.path (last_tagged (step_tag kept.progress.path) (view parts.book kept.progress.engine))

  -- by the end of its invocation
  by_end : (fs : List Function) (setup : Setup) (store : Store) (a : Attempt) (outcome : Option Outcome) → FlowStandsFor setup fs store a parts kept → Ended outcome
      → misses_with setup fs a store (view parts.book a.engine) outcome (call_of a.path (view parts.book a.engine)) ≡ running_missed fs parts setup store a
  by_end fs setup store a outcome stands e =
      let seen = view parts.book a.engine in
      sym (ap (λ (found : Option Outcome). misses_with setup fs a store seen found (call_of a.path seen)) (result_is fs parts kept setup store a outcome stands e))

  -- It has ended.
  pub misses_ended : (outcome : Outcome) → Ended (Some outcome) → MissesBy (λ fs. Runs) (λ fs. running_missed fs parts) parts parts kept what.Nothing
  misses_ended outcome e fs setup store a stands p =
      subst (λ (missed : Missed). IsMissed setup missed parts parts what.Nothing) (by_end fs setup store a (Some outcome) stands e)
      (misses_none setup fs store a parts kept stands)

  -- It hasn't.
  pub misses_unended : Ended None → (fs : List Function) → Leads Runs Runs (running_missed fs parts) (unended_missed fs parts) fs parts kept
  misses_unended e fs = record { needs = λ setup store a stands p. p; same = λ setup store a stands p. by_end fs setup store a None stands e }

  -- It has adopted no Init.
  pub misses_uncalled : kept.progress.place ≡ 0 → MissesBy (λ fs. Runs) (λ fs. unended_missed fs parts) parts parts kept what.Nothing
  misses_uncalled none fs setup store a stands p =
      let seen = view parts.book a.engine in
      subst (λ (missed : Missed). IsMissed setup missed parts parts what.Nothing)
      (uncalled_by setup fs a store seen (call_of a.path seen) (place_is fs parts kept a stands.attempt ∙ none))
      (misses_none setup fs store a parts kept stands)

  -- It has adopted its Init.
  pub misses_begun : 0 < kept.progress.place → (fs : List Function) → Leads Runs HasBegun (unended_missed fs parts) (next_missed fs parts) fs parts kept
  misses_begun lt fs = record {
    needs = λ setup store a stands runs. begun fs parts kept setup store a stands lt runs;
    same = λ setup store a stands runs.
        let script = begun fs parts kept setup store a stands lt runs in
        let seen = view parts.book a.engine in
        let sees = stands.can.sees.called script.before runs script.begun in
        sym (ap (λ (call : Option Call). misses_with setup fs a store seen None call) sees.called
        ∙ ap (misses_placed setup fs a store seen) script.begun);
  }

  abbrev Answers : Bool → Type 0
  Answers good = (fs : List Function) (setup : Setup) (store : Store) (a : Attempt) → FlowStandsFor setup fs store a parts kept → HasScript a
      → good ≡ is_some (answers_to a (attempt_ask fs a) (nth (step_tag a.path) a.place (view parts.book a.engine)))

  pub misses_next : (good : Bool) → good ≡ true → Answers good
      → (fs : List Function) → Leads HasBegun (FindsAnswer fs parts) (next_missed fs parts) (next_missed fs parts) fs parts kept
  misses_next good is answers fs = record {
    needs = λ setup store a stands script. (script, sym (answers fs setup store a stands script) ∙ is);
    same = λ setup store a stands script. refl;
  }

  module _ (good : Bool) (is : good ≡ false) (answers : Answers good) where
    by_waiting : (fs : List Function) (setup : Setup) (store : Store) (a : Attempt) (w : Bool) → FlowStandsFor setup fs store a parts kept → HasScript a → kept.progress.waiting ≡ w
        → cond w (nothing_missed store) (asked_missed fs setup store a) ≡ next_missed fs parts setup store a
    by_waiting fs setup store a w stands script waits =
        sym (
        ap (misses_at setup a store (attempt_ask fs a)) (none_by _ (sym (answers fs setup store a stands script) ∙ is))
        ∙ ap (λ (v : Bool). cond v (nothing_missed store) (asked_missed fs setup store a)) (sym (ap (λ (p : Progress). p.waiting) stands.attempt.progress) ∙ waits)
        )

    pub misses_waiting : kept.progress.waiting ≡ true → MissesBy (λ fs. HasBegun) (λ fs. next_missed fs parts) parts parts kept what.Nothing
    misses_waiting waits fs setup store a stands script =
        subst (λ (missed : Missed). IsMissed setup missed parts parts what.Nothing) (by_waiting fs setup store a true stands script waits)
        (misses_none setup fs store a parts kept stands)

    pub misses_asks : kept.progress.waiting ≡ false
        → (fs : List Function) → Leads HasBegun HasBegun (next_missed fs parts) (asked_missed fs) fs parts kept
    misses_asks waits fs = record {
      needs = λ setup store a stands script. script;
      same = λ setup store a stands script. by_waiting fs setup store a false stands script waits;
    }

  -- The record at its place is found.
  pub misses_found : (seq : Seqnum) (body : Body)
      → Some (seq, body) ≡ option_map seqnum_and_body (nth (step_tag kept.progress.path) kept.progress.place (view parts.book kept.progress.engine))
      → (fs : List Function) → Leads (FindsAnswer fs parts) (SeesSeqnum parts seq.0) (next_missed fs parts) (λ setup store a. misses_record store seq.0 body) fs parts kept
  misses_found seq body e fs = record {
    needs = λ setup store a stands p.
        let found = found_there fs parts kept seq body e setup store a stands p in
        subst (λ (n : ℕ). n ≤ position parts.book a.engine) found.seq_is found.within;
    same = λ setup store a stands p.
        let found = found_there fs parts kept seq body e setup store a stands p in
        sym (ap (misses_at setup a store (attempt_ask fs a)) found.answers
        ∙ ap (λ (n : ℕ). misses_record store n found.x.holds) found.seq_is
        ∙ ap (misses_record store seq.0) found.says);
  }

-- Where the store call was made, the parts stand for what is behind it.
pub store_misses : (setup : Setup) (store : Store) (parts : Parts) (after : StoreState) (missed : Missed) (told : Miss) → PartsStandFor setup store parts → told ≡ missed.what
    → IsKept after missed.store (live_bodies parts.book) → IsMissed setup missed parts (record parts { store = after }) told
store_misses setup store parts after missed told stands is kept =
    record { what_is = is; parts = stored_stands setup store parts stands after missed.store kept; book = refl }

-- Markers, by what the store answers.
module _ (store fenced : Store) (after : StoreState) (records : List (Live Body)) where
  abbrev marker : Bool → Missed
  marker low = cond low (nothing_missed store) (record { store = cond low store fenced; what = what.Fence })

  abbrev Does : Miss → Bool → Type 0
  Does told low = (told ≡ (marker low).what) × IsKept after (marker low).store records

  gone_by : (low : Bool) (v : Value) → ans.Gone ≡ cond low ans.Gone (ans.Value v) → IsKept after (cond low store fenced) records → Does what.Nothing low
  gone_by true v e is = (refl, is)
  gone_by false v e is = absurd (let no_way : ans.Gone ≡ ans.Value v = e in cc)

  value_by : (low : Bool) (v w : Value) → ans.Value w ≡ cond low ans.Gone (ans.Value v) → IsKept after (cond low store fenced) records → Does what.Fence low
  value_by true v w e is = absurd (let no_way : ans.Value w ≡ ans.Gone = e in cc)
  value_by false v w e is = (refl, is)

  group_gone_by : (low : Bool) (vs : List Value) → group.Gone ≡ cond low group.Gone (group.Values vs) → IsKept after (cond low store fenced) records → Does what.Nothing low
  group_gone_by true vs e is = (refl, is)
  group_gone_by false vs e is = absurd (let no_way : group.Gone ≡ group.Values vs = e in cc)

  values_by : (low : Bool) (vs ws : List Value) → group.Values ws ≡ cond low group.Gone (group.Values vs) → IsKept after (cond low store fenced) records → Does what.Fence low
  values_by true vs ws e is = absurd (let no_way : group.Values ws ≡ group.Gone = e in cc)
  values_by false vs ws e is = (refl, is)

module _ (parts : Parts) (kept : AttemptState) (seq : ℕ) (after : StoreState) where
  abbrev Marks : List (List ℕ) → Miss → Type 0
  Marks keys told = MissesBy (λ fs. SeesSeqnum parts seq) (λ fs setup store a. misses_marker store seq keys) parts (record parts { store = after }) kept told

  -- its engine sees all records below the marker
  within : (fs : List Function) (a : Attempt) → AttemptStandsFor fs a kept → seq ≤ position parts.book a.engine → seq ≤ suc (position parts.book kept.progress.engine)
  within fs a stands le =
      let same = ap (λ (p : Progress). position parts.book p.engine) stands.progress in
      omega arith

  abbrev full : Store → List (List ℕ) → Store
  full store keys = record store { fences = raise_fences keys seq store.fences }

  pub marker_gone : (key : List ℕ) → ReadsMarked parts.book kept.progress.engine seq key parts.store after ans.Gone → Marks (key ∷ []) what.Nothing
  marker_gone key reads fs setup store a stands le =
      let ok = within fs a stands.attempt le in
      let did = gone_by store (full store (key ∷ [])) after (live_bodies parts.book) (ltb seq store.floor) _
      (reads.answer store stands.parts.kept ok) (reads.after store stands.parts.kept ok) in
      store_misses setup store parts after (misses_marker store seq (key ∷ [])) what.Nothing stands.parts did.0 did.1

  pub marker_read : (key : List ℕ) (v : Value) → ReadsMarked parts.book kept.progress.engine seq key parts.store after (ans.Value v) → Marks (key ∷ []) what.Fence
  marker_read key v reads fs setup store a stands le =
      let ok = within fs a stands.attempt le in
      let did = value_by store (full store (key ∷ [])) after (live_bodies parts.book) (ltb seq store.floor) _ v
      (reads.answer store stands.parts.kept ok) (reads.after store stands.parts.kept ok) in
      store_misses setup store parts after (misses_marker store seq (key ∷ [])) what.Fence stands.parts did.0 did.1

  pub group_gone : (keys : List (List ℕ)) → ReadsGroupMarked parts.book kept.progress.engine seq keys parts.store after group.Gone → Marks keys what.Nothing
  group_gone keys reads fs setup store a stands le =
      let ok = within fs a stands.attempt le in
      let did = group_gone_by store (full store keys) after (live_bodies parts.book) (ltb seq store.floor) _
      (reads.answer store stands.parts.kept ok) (reads.after store stands.parts.kept ok) in
      store_misses setup store parts after (misses_marker store seq keys) what.Nothing stands.parts did.0 did.1

  pub group_read : (keys : List (List ℕ)) (vs : List Value) → ReadsGroupMarked parts.book kept.progress.engine seq keys parts.store after (group.Values vs) → Marks keys what.Fence
  group_read keys vs reads fs setup store a stands le =
      let ok = within fs a stands.attempt le in
      let did = values_by store (full store keys) after (live_bodies parts.book) (ltb seq store.floor) _ vs
      (reads.answer store stands.parts.kept ok) (reads.after store stands.parts.kept ok) in
      store_misses setup store parts after (misses_marker store seq keys) what.Fence stands.parts did.0 did.1

-- A record that is no marker.
pub no_marker : (store : Store) (seq : ℕ) (body : Body) → ((p : List ℕ) (i : ℕ) (key : List ℕ) → body ≡ b.Read p i key → ⊥)
    → ((p : List ℕ) (i : ℕ) (keys : List (List ℕ)) → body ≡ b.ReadGroup p i keys → ⊥) → nothing_missed store ≡ misses_record store seq body
no_marker store seq (b.Read p i key) one several = absurd (one p i key refl)
no_marker store seq (b.ReadGroup p i keys) one several = absurd (several p i keys refl)
no_marker store seq _ one several = refl

-- Writes.

free_by : (setup : Setup) (a : Attempt) (store : Store) (key : List ℕ) (v : Value) (mode : Mode) (late : Bool) → writes_freely mode late ≡ true
    → misses_put (put_at key a.cursor (suc a.free_writes) store) a store key v ≡ misses_write setup a store key v mode late
free_by setup a store key v W false e = refl
free_by setup a store key v W true e = absurd (let no_way : false ≡ true = e in cc)
free_by setup a store key v R late e = absurd (let no_way : false ≡ true = e in cc)
free_by setup a store key v T late e = absurd (let no_way : false ≡ true = e in cc)

logged_by : (setup : Setup) (a : Attempt) (store : Store) (key : List ℕ) (v : Value) (mode : Mode) (late : Bool) → writes_freely mode late ≡ false
    → misses_write setup a store key v mode late
    ≡ cond (is_inline setup a v || a.stored) (nothing_missed store) (misses_store (ltb a.cursor store.floor) a store v)
logged_by setup a store key v W false e = absurd (let no_way : true ≡ false = e in cc)
logged_by setup a store key v W true e = refl
logged_by setup a store key v R late e = refl
logged_by setup a store key v T late e = refl

-- a version isn't put in where the store doesn't answer Done
undone : (gone there fenced : Bool) → (put_answer gone there fenced ≡ put.Done → ⊥) → (not gone && not there && not fenced) ≡ false
undone true there fenced e = refl
undone false true fenced e = refl
undone false false true e = refl
undone false false false e = absurd (e refl)

undone_misses : (told : Put) (a : Attempt) (store : Store) (key : List ℕ) (v : Value) → (told ≡ put.Done → ⊥) → nothing_missed store ≡ misses_put told a store key v
undone_misses put.Done a store key v e = absurd (e refl)
undone_misses put.Late a store key v e = refl
undone_misses put.Gone a store key v e = refl

module _ (parts : Parts) (kept : AttemptState) (key : List ℕ) (v : Value) where
  abbrev asked : Ask
  asked = k.Op (o.Write key v)

  mode_is : (fs : List Function) (a : Attempt) (free : Bool) → AttemptStandsFor fs a kept → writes_freely kept.progress.mode kept.progress.late ≡ free → writes_freely a.mode a.late ≡ free
  mode_is fs a free stands is = sym (ap (λ (p : Progress). writes_freely p.mode p.late) stands.progress) ∙ is

  abbrev pub write_missed : List Function → Setup → Store → Attempt → Missed
  write_missed fs setup store a = misses_write setup a store key v a.mode a.late

  abbrev pub put_missed : List Function → Setup → Store → Attempt → Missed
  put_missed fs setup store a = misses_put (put_at key a.cursor (suc a.free_writes) store) a store key v

  -- what is asked is this write, or it is none
  pub misses_frees : writes_freely kept.progress.mode kept.progress.late ≡ true
      → (fs : List Function) → Leads (ScriptAsks fs asked) (ScriptAsks fs asked) (write_missed fs) (put_missed fs) fs parts kept
  misses_frees free fs = record {
    needs = λ setup store a stands p. p;
    same = λ setup store a stands p. free_by setup a store key v a.mode a.late (mode_is fs a true stands.attempt free);
  }

  module _ (logged : writes_freely kept.progress.mode kept.progress.late ≡ false) where
    -- whether its value is stored already, or is to stand in its record
    abbrev pub is_there : Bool
    is_there = (is_new_engine parts.newer kept.progress.engine && is_short_value v) || kept.progress.stored

    there_is : (fs : List Function) (setup : Setup) (store : Store) (a : Attempt) → FlowStandsFor setup fs store a parts kept → (is_inline setup a v || a.stored) ≡ is_there
    there_is fs setup store a stands =
        sym (ap (λ (p : Progress). (is_new_engine parts.newer p.engine && is_short_value v) || p.stored) stands.attempt.progress
        ∙ ap (λ (newer : Option ℕ). (is_new_engine newer a.engine && is_short_value v) || a.stored) stands.parts.newer)

    by_there : (fs : List Function) (setup : Setup) (store : Store) (a : Attempt) (there : Bool) → FlowStandsFor setup fs store a parts kept → is_there ≡ there
        → cond there (nothing_missed store) (misses_store (ltb a.cursor store.floor) a store v) ≡ write_missed fs setup store a
    by_there fs setup store a there stands is =
        sym (
        logged_by setup a store key v a.mode a.late (mode_is fs a false stands.attempt logged)
        ∙ ap (λ (t : Bool). cond t (nothing_missed store) (misses_store (ltb a.cursor store.floor) a store v)) (there_is fs setup store a stands ∙ is)
        )

    pub misses_there : is_there ≡ true → MissesBy (λ fs. ScriptAsks fs asked) write_missed parts parts kept what.Nothing
    misses_there is fs setup store a stands p =
        subst (λ (missed : Missed). IsMissed setup missed parts parts what.Nothing) (by_there fs setup store a true stands is)
        (misses_none setup fs store a parts kept stands)

    name_by : (name : Name) (fs : List Function) (a : Attempt) → AttemptStandsFor fs a kept → name.path ≡ kept.progress.path → name.place ≡ kept.progress.place → name ≡ next_write_name a
    name_by name fs a stands path place =
        let path_is = path ∙ ap (λ (p : Progress). p.path) stands.progress in
        let place_is = place ∙ ap (λ (p : Progress). p.place) stands.progress in
        ap (λ (x : List ℕ). let n : Name = record { path = x; place = name.place } in n) path_is
        ∙ ap (λ (x : ℕ). let n : Name = record { path = a.path; place = x } in n) place_is

    module _ (absent : is_there ≡ false) (name : Name) (after : StoreState) where
      abbrev Stores : Named → Type 0
      Stores told = StoresNamed name kept.progress.cursor.0 v parts.store after told

      -- the name is that of its next write
      module _ (fs : List Function) (setup : Setup) (store : Store) (a : Attempt) (stands : FlowStandsFor setup fs store a parts kept) (name_is : name ≡ next_write_name a) where
        told_is : (told : Named) → Stores told → StoresNamed (next_write_name a) a.cursor v parts.store after told
        told_is told stores =
            subst (λ (n : Name). StoresNamed n a.cursor v parts.store after told) name_is
            (subst (λ (p : Progress). StoresNamed name p.cursor.0 v parts.store after told) stands.attempt.progress stores)

        says : (told : Named) → Stores told → told ≡ put_named (next_write_name a) a.cursor v store
        says told stores = (told_is told stores).answer store (live_bodies parts.book) stands.parts.kept.store stands.can.may.settled

        is_kept : (told : Named) → Stores told → IsKept after (after_put_named (next_write_name a) a.cursor v store) (live_bodies parts.book)
        is_kept told stores = (told_is told stores).after store (live_bodies parts.book) stands.parts.kept.store stands.can.may.settled

        abbrev with_name : Store
        with_name = record store { named = add_if_new (next_write_name a) v store.named }

        name_does : (low : Bool) (told : Miss) → ltb a.cursor store.floor ≡ low → told ≡ (misses_store low a store v).what
            → IsKept after (misses_store low a store v).store (live_bodies parts.book) → IsMissed setup (write_missed fs setup store a) parts (record parts { store = after }) told
        name_does low told is what_is kept_after =
            subst (λ (missed : Missed). IsMissed setup missed parts (record parts { store = after }) told)
            (ap (λ (l : Bool). misses_store l a store v) (sym is) ∙ by_there fs setup store a false stands absent)
            (store_misses setup store parts after (misses_store low a store v) told stands.parts what_is kept_after)

        name_gone_by : (low : Bool) → ltb a.cursor store.floor ≡ low → named.Gone ≡ cond low named.Gone named.Done → IsKept after (cond low store with_name) (live_bodies parts.book)
            → IsMissed setup (write_missed fs setup store a) parts (record parts { store = after }) what.Nothing
        name_gone_by true is e kept_after = name_does true what.Nothing is refl kept_after
        name_gone_by false is e kept_after = absurd (let no_way : named.Gone ≡ named.Done = e in cc)

        name_done_by : (low : Bool) → ltb a.cursor store.floor ≡ low → named.Done ≡ cond low named.Gone named.Done → IsKept after (after_put_named (next_write_name a) a.cursor v store) (live_bodies parts.book)
            → IsMissed setup (write_missed fs setup store a) parts (record parts { store = after }) what.Store
        name_done_by true is e kept_after = absurd (let no_way : named.Done ≡ named.Gone = e in cc)
        name_done_by false is e kept_after = name_does false what.Store is refl kept_after

      pub misses_gone : name.path ≡ kept.progress.path → name.place ≡ kept.progress.place → Stores named.Gone
          → MissesBy (λ fs. ScriptAsks fs asked) write_missed parts (record parts { store = after }) kept what.Nothing
      misses_gone path place stores fs setup store a stands p =
          let name_is = name_by name fs a stands.attempt path place in
          name_gone_by fs setup store a stands name_is (ltb a.cursor store.floor) refl (says fs setup store a stands name_is named.Gone stores) (is_kept fs setup store a stands name_is named.Gone stores)

      pub misses_stores : name.path ≡ kept.progress.path → name.place ≡ kept.progress.place → Stores named.Done
          → MissesBy (λ fs. ScriptAsks fs asked) write_missed parts (record parts { store = after }) kept what.Store
      misses_stores path place stores fs setup store a stands p =
          let name_is = name_by name fs a stands.attempt path place in
          name_done_by fs setup store a stands name_is (ltb a.cursor store.floor) refl (says fs setup store a stands name_is named.Done stores) (is_kept fs setup store a stands name_is named.Done stores)

  -- A version.
  module _ (number : ℕ) (after : StoreState) (told : Put) (number_is : number ≡ kept.progress.free_writes + 1)
      (puts : PutsFree key kept.progress.cursor.0 number v parts.store after told) where
    module _ (fs : List Function) (setup : Setup) (store : Store) (a : Attempt) (stands : FlowStandsFor setup fs store a parts kept) where
      puts_is : PutsFree key a.cursor (suc a.free_writes) v parts.store after told
      puts_is =
          subst (λ (n : ℕ). PutsFree key a.cursor n v parts.store after told)
          (let same = ap (λ (p : Progress). p.free_writes) stands.attempt.progress in let e : number ≡ suc a.free_writes = omega arith in e)
          (subst (λ (p : Progress). PutsFree key p.cursor.0 number v parts.store after told) stands.attempt.progress puts)

      answer_is : told ≡ put_at key a.cursor (suc a.free_writes) store
      answer_is = puts_is.answer store (live_bodies parts.book) stands.parts.kept.store

      kept_is : IsKept after (after_put key a.cursor (suc a.free_writes) v store) (live_bodies parts.book)
      kept_is = puts_is.after store (live_bodies parts.book) stands.parts.kept.store

      same_store : (put_at key a.cursor (suc a.free_writes) store ≡ put.Done → ⊥) → after_put key a.cursor (suc a.free_writes) v store ≡ store
      same_store isnt =
          ap (λ (puts : Bool). cond puts (record store { versions = record { key = key; cursor = a.cursor; number = suc a.free_writes; value = v } ∷ store.versions }) store)
          (undone (ltb a.cursor store.floor) (has_version key a.cursor (suc a.free_writes) store) (ltb a.cursor (fence key store.fences)) isnt)

    pub misses_puts : told ≡ put.Done → MissesBy (λ fs. ScriptAsks fs asked) put_missed parts (record parts { store = after }) kept what.Put
    misses_puts done fs setup store a stands p =
        subst (λ (missed : Missed). IsMissed setup missed parts (record parts { store = after }) what.Put)
        (ap (λ (answer : Put). misses_put answer a store key v) (sym done ∙ answer_is fs setup store a stands))
        (store_misses setup store parts after (misses_put put.Done a store key v) what.Put stands.parts refl (kept_is fs setup store a stands))

    pub misses_unput : (told ≡ put.Done → ⊥) → MissesBy (λ fs. ScriptAsks fs asked) put_missed parts (record parts { store = after }) kept what.Nothing
    misses_unput isnt fs setup store a stands p =
        let same = answer_is fs setup store a stands in
        subst (λ (missed : Missed). IsMissed setup missed parts (record parts { store = after }) what.Nothing)
        (undone_misses told a store key v isnt ∙ ap (λ (answer : Put). misses_put answer a store key v) same)
        (store_misses setup store parts after (nothing_missed store) what.Nothing stands.parts refl
        (subst (λ (m : Store). IsKept after m (live_bodies parts.book)) (same_store fs setup store a stands (λ done. isnt (same ∙ done))) (kept_is fs setup store a stands)))

-- What is asked.
other_by : (setup : Setup) (a : Attempt) (store : Store) (op : Op) → ((key : List ℕ) (v : Value) → op ≡ o.Write key v → ⊥)
    → nothing_missed store ≡ misses_asked setup a store (Some (k.Op op))
other_by setup a store (o.Write key v) isnt = absurd (isnt key v refl)
other_by setup a store _ isnt = refl

module _ (parts : Parts) (kept : AttemptState) where
  pub misses_unframed : kept.frame ≡ None → MissesBy (λ fs. HasBegun) asked_missed parts parts kept what.Nothing
  misses_unframed none fs setup store a stands script = absurd (no_frame setup fs store a parts kept stands script none)

  -- its script asks what its frame asks
  pub misses_framed : (w : FrameState) (ask : Ask) → kept.frame ≡ Some w → ask ≡ w.ask
      → (fs : List Function) → Leads HasBegun (ScriptAsks fs ask) (asked_missed fs) (asked_missed fs) fs parts kept
  misses_framed w ask frame is fs = record {
    needs = λ setup store a stands script. record { script = script; asks = asks_is setup fs store a parts kept stands script w frame ∙ ap Some (sym is) };
    same = λ setup store a stands script. refl;
  }

  -- it is an operation, or the script is done
  pub misses_operation : (ask : Ask) (op : Op) → ask ≡ k.Op op
      → (fs : List Function) → Leads (ScriptAsks fs ask) (ScriptAsks fs (k.Op op)) (asked_missed fs) (asked_missed fs) fs parts kept
  misses_operation ask op is fs = record {
    needs = λ setup store a stands p. record { script = p.script; asks = p.asks ∙ ap Some is };
    same = λ setup store a stands p. refl;
  }

  pub misses_done : (ask : Ask) (outcome : Outcome) → ask ≡ k.Done outcome → MissesBy (λ fs. ScriptAsks fs ask) asked_missed parts parts kept what.Nothing
  misses_done ask outcome is fs setup store a stands p =
      subst (λ (missed : Missed). IsMissed setup missed parts parts what.Nothing) (sym (ap (misses_asked setup a store) (p.asks ∙ ap Some is)))
      (misses_none setup fs store a parts kept stands)

  -- the operation is a write, or another
  pub misses_writes : (op : Op) (key : List ℕ) (v : Value) → op ≡ o.Write key v
      → (fs : List Function) → Leads (ScriptAsks fs (k.Op op)) (ScriptAsks fs (k.Op (o.Write key v))) (asked_missed fs) (λ setup store a. misses_write setup a store key v a.mode a.late) fs parts kept
  misses_writes op key v is fs = record {
    needs = λ setup store a stands p. record { script = p.script; asks = p.asks ∙ ap (λ (x : Op). Some (k.Op x)) is };
    same = λ setup store a stands p. sym (ap (misses_asked setup a store) (p.asks ∙ ap (λ (x : Op). Some (k.Op x)) is));
  }

  pub misses_others : (op : Op) → ((key : List ℕ) (v : Value) → op ≡ o.Write key v → ⊥) → MissesBy (λ fs. ScriptAsks fs (k.Op op)) asked_missed parts parts kept what.Nothing
  misses_others op isnt fs setup store a stands p =
      subst (λ (missed : Missed). IsMissed setup missed parts parts what.Nothing)
      (other_by setup a store op isnt ∙ sym (ap (misses_asked setup a store) p.asks))
      (misses_none setup fs store a parts kept stands)
