-- What a script asks, case by case: it is done where it is free, and sent else.
use Rattle.std.proofs.Common.{◌≡◌, ◌∙◌, ◌⊎◌, inl, inr, ℕ, suc, ◌≤◌, ◌<◌, Bool, true, false, cond, ltb, ◌&&◌, ◌||◌, List, Option, Some, None, refl, sym, ap, subst}
use Rattle.lb_base.specs.declared.value.Mode.{Mode}
use Rattle.lb_base.specs.declared.value.Mode.TheVariants.{R, W, T}
use Rattle.lb_base.specs.declared.value.Value.{Value}
use Rattle.boki_types.specs.declared.line.StepLine.{StepLine}
use Rattle.boki_types.specs.declared.line.StepLine.TheVariants as line
use Rattle.boki_types.specs.declared.operation.Ask.{Ask}
use Rattle.boki_types.specs.declared.operation.Ask.TheVariants as k
use Rattle.boki_types.specs.declared.operation.Op.TheVariants as o
use Rattle.boki_types.specs.declared.plan.Setup.{Setup}
use Rattle.boki_types.specs.declared.program.Function.{Function}
use Rattle.boki_types.specs.declared.log.Sent.{Sent}
use Rattle.boki_types.specs.declared.body.Body.{Body}
use Rattle.boki_types.specs.declared.store.Put.{Put}
use Rattle.boki_types.specs.declared.store.Put.TheVariants as put
use Rattle.boki_model.specs.Live.{Live}
use Rattle.boki_model.specs.Writes.{Store, put_at, is_settled}
use Rattle.boki_machine.specs.Attempt.{Attempt, Move}
use Rattle.boki_machine.specs.Step.{reads, reads_group, writes, free_write_step, logged_write_step, script_step, attempt_ask, is_inline, is_new_engine, is_short_value, next_write_name}
use Rattle.book_api.specs.Books.{position, next_sent}
use Rattle.step_log.specs.Sound.{view, live_bodies}
use Rattle.obj_store.specs.Kept.{StoreState}
use Rattle.obj_store.specs.StandsFor.{IsUnchanged}
use Rattle.hm_read.specs.Kept.{IsKept, AreKept}
use Rattle.hm_read.proofs.Kept.{unchanged_is_kept}
use Rattle.script_run.specs.Frames.{FrameState}
use Rattle.attempt_state.specs.declared.progress.Progress.{Progress}
use Rattle.attempt_state.specs.declared.state.AttemptState.{AttemptState}
use Rattle.attempt_state.specs.Attempts.{AttemptStandsFor, HasScript}
use Rattle.attempt_state.specs.Deciding.{reads_freely, writes_freely}
use Rattle.attempt_log.specs.Moves.{asked_move}
use Rattle.attempt_store.specs.Moved.{CanReadAt, EitherKept, IsMovedAlone, MovesStore}
use Rattle.flow_parts.specs.declared.parts.Parts.{Parts}
use Rattle.flow_parts.specs.Parts.{PartsStandFor}
use Rattle.flow_parts.proofs.Appended.{stored_stands}
use Rattle.boki_flow.specs.Flow.{FlowStandsFor, IsMoved}
use Rattle.boki_flow.specs.Arms.{HasBegun, ScriptAsks, MovesBy, CutShortBy, asked_in, here_in, script_move, read_move, read_group_move, write_move, logged_move, send_move}
use Rattle.boki_flow.proofs.Leading.{Leads}
use Rattle.boki_flow.proofs.Moves.{alone_moves, store_moves}
use Rattle.boki_flow.proofs.SentAsks.{asked_is_in}
use Rattle.boki_flow.proofs.Standing.{asks_is, no_frame}

reads_by : (mode : Mode) → reads_freely mode ≡ true → mode ≡ R
reads_by R e = refl
reads_by W e = let no_way : false ≡ true = e in cc
reads_by T e = let no_way : false ≡ true = e in cc

-- What isn't free is sent.

sent_read : (fs : List Function) (a : Attempt) (store : Store) (seen : List (Live Body)) (at : Sent) (key : List ℕ) (mode : Mode) → reads_freely mode ≡ false
    → asked_move fs a store at None (k.Op (o.Read key)) ≡ reads a store seen at key mode
sent_read fs a store seen at key R e = absurd (let no_way : true ≡ false = e in cc)
sent_read fs a store seen at key W e = refl
sent_read fs a store seen at key T e = refl

sent_group : (fs : List Function) (a : Attempt) (store : Store) (seen : List (Live Body)) (at : Sent) (keys : List (List ℕ)) (mode : Mode) → reads_freely mode ≡ false
    → asked_move fs a store at None (k.Op (o.ReadGroup keys)) ≡ reads_group a store seen at keys mode
sent_group fs a store seen at keys R e = absurd (let no_way : true ≡ false = e in cc)
sent_group fs a store seen at keys W e = refl
sent_group fs a store seen at keys T e = refl

sent_write : (fs : List Function) (a : Attempt) (store : Store) (at : Sent) (key : List ℕ) (v : Value) (inline stored : Bool) → (inline || stored) ≡ true
    → asked_move fs a store at (here_in inline (k.Op (o.Write key v))) (k.Op (o.Write key v)) ≡ logged_write_step inline stored a store at key v
sent_write fs a store at key v true stored e = refl
sent_write fs a store at key v false true e = refl
sent_write fs a store at key v false false e = absurd (let no_way : false ≡ true = e in cc)

stored_write : (a : Attempt) (store : Store) (at : Sent) (key : List ℕ) (v : Value) (inline stored : Bool) → (inline || stored) ≡ false
    → logged_write_step false false a store at key v ≡ logged_write_step inline stored a store at key v
stored_write a store at key v true stored e = absurd (let no_way : true ≡ false = e in cc)
stored_write a store at key v false true e = absurd (let no_way : true ≡ false = e in cc)
stored_write a store at key v false false e = refl

logged_write : (setup : Setup) (a : Attempt) (store : Store) (at : Sent) (key : List ℕ) (v : Value) (mode : Mode) (late : Bool) → writes_freely mode late ≡ false
    → logged_write_step (is_inline setup a v) a.stored a store at key v ≡ writes setup a store at key v mode late
logged_write setup a store at key v W false e = absurd (let no_way : true ≡ false = e in cc)
logged_write setup a store at key v W true e = refl
logged_write setup a store at key v R late e = refl
logged_write setup a store at key v T late e = refl

free_write : (setup : Setup) (a : Attempt) (store : Store) (at : Sent) (key : List ℕ) (v : Value) (mode : Mode) (late : Bool) → writes_freely mode late ≡ true
    → free_write_step (put_at key a.cursor (suc a.free_writes) store) a store key v ≡ writes setup a store at key v mode late
free_write setup a store at key v W false e = refl
free_write setup a store at key v W true e = absurd (let no_way : false ≡ true = e in cc)
free_write setup a store at key v R late e = absurd (let no_way : false ≡ true = e in cc)
free_write setup a store at key v T late e = absurd (let no_way : false ≡ true = e in cc)

-- all but reads, writes and joins are sent
abbrev pub is_sent : Ask → Bool
is_sent (k.Op (o.Read key)) = false
is_sent (k.Op (o.ReadGroup keys)) = false
is_sent (k.Op (o.Write key v)) = false
is_sent (k.Op (o.Join ordinal)) = false
is_sent _ = true

sent_other : (setup : Setup) (fs : List Function) (a : Attempt) (store : Store) (seen : List (Live Body)) (at : Sent) (ask : Ask) → is_sent ask ≡ true
    → asked_move fs a store at None ask ≡ script_step setup fs a store seen at (Some ask)
sent_other setup fs a store seen at (k.Done outcome) e = refl
sent_other setup fs a store seen at (k.Op (o.Read key)) e = absurd (let no_way : false ≡ true = e in cc)
sent_other setup fs a store seen at (k.Op (o.ReadGroup keys)) e = absurd (let no_way : false ≡ true = e in cc)
sent_other setup fs a store seen at (k.Op (o.Write key v)) e = absurd (let no_way : false ≡ true = e in cc)
sent_other setup fs a store seen at (k.Op (o.Join ordinal)) e = absurd (let no_way : false ≡ true = e in cc)
sent_other setup fs a store seen at (k.Op _) e = refl

-- what either of two is, where the second was asked after the first
pub by_first : (first second either : Bool) → first ≡ true → either ≡ first → (first || second) ≡ either
by_first true second either e is = sym is
by_first false second either e is = let no_way : false ≡ true = e in absurd (cc)

pub by_second : (first second either : Bool) → first ≡ false → either ≡ second → (first || second) ≡ either
by_second true second either e is = let no_way : true ≡ false = e in absurd (cc)
by_second false second either e is = sym is

-- of two moves, neither changes the store, nor sends
kept_either : (store : Store) (first : Bool) (m n : Move) → m.store ≡ store → n.store ≡ store → (cond first m n).store ≡ store
kept_either store true m n is same = is
kept_either store false m n is same = same

silent_either : (first : Bool) (m n : Move) → m.sends ≡ None → n.sends ≡ None → (cond first m n).sends ≡ None
silent_either true m n is same = is
silent_either false m n is same = same

silent_put : (told : Put) (a : Attempt) (store : Store) (key : List ℕ) (v : Value) → (free_write_step told a store key v).sends ≡ None
silent_put put.Gone a store key v = refl
silent_put put.Late a store key v = refl
silent_put put.Done a store key v = refl

-- What the script asks leads to the move of that.
module _ (fs : List Function) (parts : Parts) (kept : AttemptState) where
  pub script_idles : kept.frame ≡ None → MovesBy HasBegun (script_move fs parts) fs parts parts kept kept line.Idle
  script_idles none setup store a stands script = absurd (no_frame setup fs store a parts kept stands script none)

  module _ (w : FrameState) (frame : kept.frame ≡ Some w) (ask : Ask) (is : w.ask ≡ ask) where
    by_ask : (setup : Setup) (store : Store) (a : Attempt) → FlowStandsFor setup fs store a parts kept → HasScript a → attempt_ask fs a ≡ Some ask
    by_ask setup store a stands script = asks_is setup fs store a parts kept stands script w frame ∙ ap Some is

    pub asks_move : (move : Setup → Store → Attempt → Move)
        → ((setup : Setup) (store : Store) (a : Attempt) → move setup store a ≡ script_step setup fs a store (view parts.book a.engine) (next_sent parts.book a.engine) (Some ask))
        → Leads HasBegun (ScriptAsks fs ask) (script_move fs parts) move fs parts kept
    asks_move move alike = record {
      needs = λ setup store a stands script. record { script = script; asks = by_ask setup store a stands script };
      same = λ setup store a stands script.
          alike setup store a
          ∙ sym (ap (script_step setup fs a store (view parts.book a.engine) (next_sent parts.book a.engine)) (by_ask setup store a stands script));
    }

    pub sends_other : is_sent ask ≡ true → Leads HasBegun HasBegun (script_move fs parts) (send_move fs parts false kept.frame) fs parts kept
    sends_other sent = record {
      needs = λ setup store a stands script. script;
      same = λ setup store a stands script.
          ap (λ (q : Ask). asked_move fs a store (next_sent parts.book a.engine) None q) (ap asked_in frame ∙ is)
          ∙ sent_other setup fs a store (view parts.book a.engine) (next_sent parts.book a.engine) ask sent
          ∙ sym (ap (script_step setup fs a store (view parts.book a.engine) (next_sent parts.book a.engine)) (by_ask setup store a stands script));
    }

  -- what is asked is sent, where that is its move
  sends_as : (inline : Bool) (ask : Ask) (move : Setup → Store → Attempt → Move)
      → ((setup : Setup) (store : Store) (a : Attempt) → FlowStandsFor setup fs store a parts kept
      → asked_move fs a store (next_sent parts.book a.engine) (here_in inline ask) ask ≡ move setup store a)
      → Leads (ScriptAsks fs ask) HasBegun move (send_move fs parts inline kept.frame) fs parts kept
  sends_as inline ask move alike = record {
    needs = λ setup store a stands p. p.script;
    same = λ setup store a stands p.
        ap (λ (q : Ask). asked_move fs a store (next_sent parts.book a.engine) (here_in inline q) q)
        (asked_is_in setup fs store a parts kept stands ask p.asks p.script)
        ∙ alike setup store a stands;
  }

  mode_is : (a : Attempt) (free : Bool) → AttemptStandsFor fs a kept → reads_freely kept.progress.mode ≡ free → reads_freely a.mode ≡ free
  mode_is a free stands is = sym (ap (λ (p : Progress). reads_freely p.mode) stands.progress) ∙ is

  -- Reads.
  pub sends_read : (key : List ℕ) → reads_freely kept.progress.mode ≡ false
      → Leads (ScriptAsks fs (k.Op (o.Read key))) HasBegun (read_move parts key) (send_move fs parts false kept.frame) fs parts kept
  sends_read key e = sends_as false (k.Op (o.Read key)) (read_move parts key) (λ setup store a stands.
      sent_read fs a store (view parts.book a.engine) (next_sent parts.book a.engine) key a.mode (mode_is a false stands.attempt e))

  pub sends_group : (keys : List (List ℕ)) → reads_freely kept.progress.mode ≡ false
      → Leads (ScriptAsks fs (k.Op (o.ReadGroup keys))) HasBegun (read_group_move parts keys) (send_move fs parts false kept.frame) fs parts kept
  sends_group keys e = sends_as false (k.Op (o.ReadGroup keys)) (read_group_move parts keys) (λ setup store a stands.
      sent_group fs a store (view parts.book a.engine) (next_sent parts.book a.engine) keys a.mode (mode_is a false stands.attempt e))

  pub free_reads : (key : List ℕ) (after : AttemptState) (told : StepLine) → reads_freely kept.progress.mode ≡ true
      → ((m : Store) (a : Attempt) → AreKept parts.book parts.store m → AttemptStandsFor fs a kept → HasScript a → a.cursor ≤ position parts.book a.engine
      → IsMovedAlone fs (reads a m (view parts.book a.engine) (next_sent parts.book a.engine) key R) after told)
      → MovesBy (ScriptAsks fs (k.Op (o.Read key))) (read_move parts key) fs parts parts kept after told
  free_reads key after told free did setup store a stands p =
      let seen = view parts.book a.engine in
      let at = next_sent parts.book a.engine in
      subst (λ (mode : Mode). IsMoved setup fs a.engine (reads a store seen at key mode) parts parts after told) (sym (reads_by a.mode (mode_is a true stands.attempt free)))
      (alone_moves setup fs a.engine store parts stands.parts (reads a store seen at key R) after told
      (kept_either store (ltb a.cursor store.floor) _ _ refl refl) (silent_either (ltb a.cursor store.floor) _ _ refl refl)
      (did store a stands.parts.kept stands.attempt p.script (stands.can.may.cursor p.script.runs)))

  pub can_read : (setup : Setup) (store : Store) (a : Attempt) → FlowStandsFor setup fs store a parts kept → HasScript a
      → CanReadAt parts.book parts.store kept.progress.engine kept.progress.cursor.0
  can_read setup store a stands script = record {
    store = store;
    are = stands.parts.kept;
    covered = subst (λ (p : Progress). p.cursor.0 ≤ position parts.book p.engine) (sym stands.attempt.progress) (stands.can.may.cursor script.runs);
  }

  pub free_groups : (keys : List (List ℕ)) (after : AttemptState) (told : StepLine) → reads_freely kept.progress.mode ≡ true
      → ((m : Store) (a : Attempt) → AreKept parts.book parts.store m → AttemptStandsFor fs a kept → HasScript a → a.cursor ≤ position parts.book a.engine
      → IsMovedAlone fs (reads_group a m (view parts.book a.engine) (next_sent parts.book a.engine) keys R) after told)
      → MovesBy (ScriptAsks fs (k.Op (o.ReadGroup keys))) (read_group_move parts keys) fs parts parts kept after told
  free_groups keys after told free did setup store a stands p =
      let seen = view parts.book a.engine in
      let at = next_sent parts.book a.engine in
      subst (λ (mode : Mode). IsMoved setup fs a.engine (reads_group a store seen at keys mode) parts parts after told) (sym (reads_by a.mode (mode_is a true stands.attempt free)))
      (alone_moves setup fs a.engine store parts stands.parts (reads_group a store seen at keys R) after told
      (kept_either store (ltb a.cursor store.floor) _ _ refl refl) (silent_either (ltb a.cursor store.floor) _ _ refl refl)
      (did store a stands.parts.kept stands.attempt p.script (stands.can.may.cursor p.script.runs)))

  -- Writes.
  module _ (key : List ℕ) (v : Value) where
    abbrev asks : Setup → Store → Attempt → Type 0
    asks = ScriptAsks fs (k.Op (o.Write key v))

    freely_is : (a : Attempt) (free : Bool) → AttemptStandsFor fs a kept → writes_freely kept.progress.mode kept.progress.late ≡ free → writes_freely a.mode a.late ≡ free
    freely_is a free stands is = sym (ap (λ (p : Progress). writes_freely p.mode p.late) stands.progress) ∙ is

    -- a write that isn't free is logged
    pub logs : writes_freely kept.progress.mode kept.progress.late ≡ false → Leads asks asks (write_move parts key v) (logged_move parts key v) fs parts kept
    logs e = record {
      needs = λ setup store a stands p. p;
      same = λ setup store a stands p.
          logged_write setup a store (next_sent parts.book a.engine) key v a.mode a.late (freely_is a false stands.attempt e);
    }

    abbrev put_move : Store → Attempt → Move
    put_move m a = free_write_step (put_at key a.cursor (suc a.free_writes) m) a m key v

    module _ (free : writes_freely kept.progress.mode kept.progress.late ≡ true) (after : StoreState) where
      by_put : (setup : Setup) (store : Store) (a : Attempt) → AttemptStandsFor fs a kept → put_move store a ≡ write_move parts key v setup store a
      by_put setup store a stands = free_write setup a store (next_sent parts.book a.engine) key v a.mode a.late (freely_is a true stands free)

      pub free_writes : (state : AttemptState) (told : StepLine)
          → ((m : Store) (records : List (Live Body)) (a : Attempt) → IsKept parts.store m records → AttemptStandsFor fs a kept → HasScript a → MovesStore fs records after (put_move m a) state told)
          → MovesBy asks (write_move parts key v) fs parts (record parts { store = after }) kept state told
      free_writes state told did setup store a stands p =
          subst (λ (move : Move). IsMoved setup fs a.engine move parts (record parts { store = after }) state told) (by_put setup store a stands.attempt)
          (store_moves setup fs a.engine store parts stands.parts (put_move store a) state told after (silent_put (put_at key a.cursor (suc a.free_writes) store) a store key v)
          (did store (live_bodies parts.book) a stands.parts.kept.store stands.attempt p.script))

      pub free_cut : ((m : Store) (records : List (Live Body)) (a : Attempt) → IsKept parts.store m records → AttemptStandsFor fs a kept → EitherKept after m (put_move m a).store records)
          → CutShortBy asks (write_move parts key v) fs parts (record parts { store = after }) kept
      free_cut did setup store a stands p = record { book = refl; parts = by (did store (live_bodies parts.book) a stands.parts.kept.store stands.attempt) }
        where
          new : Parts
          new = record parts { store = after }

          by : EitherKept after store (put_move store a).store (live_bodies parts.book) → PartsStandFor setup store new ⊎ PartsStandFor setup (write_move parts key v setup store a).store new
          by (inl before) = inl (stored_stands setup store parts stands.parts after store before)
          by (inr behind) =
              inr (subst (λ (move : Move). PartsStandFor setup move.store new) (by_put setup store a stands.attempt)
              (stored_stands setup store parts stands.parts after (put_move store a).store behind))

    -- whether its value stands in its record
    module _ (inline : Bool) (inline_is : inline ≡ (is_new_engine parts.newer kept.progress.engine && is_short_value v)) where
      in_record : (setup : Setup) (store : Store) (a : Attempt) → FlowStandsFor setup fs store a parts kept → inline ≡ is_inline setup a v
      in_record setup store a stands =
          inline_is
          ∙ ap (λ (p : Progress). is_new_engine parts.newer p.engine && is_short_value v) stands.attempt.progress
          ∙ ap (λ (newer : Option ℕ). is_new_engine newer a.engine && is_short_value v) stands.parts.newer

      as_logged : (setup : Setup) (store : Store) (a : Attempt) → FlowStandsFor setup fs store a parts kept
          → logged_write_step inline kept.progress.stored a store (next_sent parts.book a.engine) key v ≡ logged_move parts key v setup store a
      as_logged setup store a stands =
          ap (λ (b : Bool). logged_write_step b kept.progress.stored a store (next_sent parts.book a.engine) key v) (in_record setup store a stands)
          ∙ ap (λ (p : Progress). logged_write_step (is_inline setup a v) p.stored a store (next_sent parts.book a.engine) key v) stands.attempt.progress

      pub sends_write : (inline || kept.progress.stored) ≡ true → Leads asks HasBegun (logged_move parts key v) (send_move fs parts inline kept.frame) fs parts kept
      sends_write there = sends_as inline (k.Op (o.Write key v)) (logged_move parts key v) (λ setup store a stands.
          sent_write fs a store (next_sent parts.book a.engine) key v inline kept.progress.stored there ∙ as_logged setup store a stands)

      pub stores : (after : StoreState) (state : AttemptState) (told : StepLine) → (inline || kept.progress.stored) ≡ false
          → ((functions : List Function) (m : Store) (records : List (Live Body)) (a : Attempt) (at : Sent) → IsKept parts.store m records → AttemptStandsFor functions a kept → HasScript a
          → (is_settled (next_write_name a) m.floor records ≡ true → a.cursor < m.floor) → MovesStore functions records after (logged_write_step false false a m at key v) state told)
          → MovesBy asks (logged_move parts key v) fs parts (record parts { store = after }) kept state told
      stores after state told absent did setup store a stands p =
          let at = next_sent parts.book a.engine in
          subst (λ (move : Move). IsMoved setup fs a.engine move parts (record parts { store = after }) state told)
          (stored_write a store at key v inline kept.progress.stored absent ∙ as_logged setup store a stands)
          (store_moves setup fs a.engine store parts stands.parts (logged_write_step false false a store at key v) state told after
          (silent_either (ltb a.cursor store.floor) _ _ refl refl)
          (did fs store (live_bodies parts.book) a at stands.parts.kept.store stands.attempt p.script stands.can.may.settled))

-- where memory ran out the store is unchanged
pub unchanged_cut : (P : Setup → Store → Attempt → Type 0) (move : Setup → Store → Attempt → Move) (fs : List Function) (parts : Parts) (kept : AttemptState) (after : StoreState)
    → IsUnchanged parts.store after → CutShortBy P move fs parts (record parts { store = after }) kept
unchanged_cut P move fs parts kept after same setup store a stands p = record {
  book = refl;
  parts = inl (stored_stands setup store parts stands.parts after store (unchanged_is_kept parts.store after store (live_bodies parts.book) same stands.parts.kept.store));
}
