-- An attempt adopts the record at its place.
use Rattle.std.proofs.Common.{◌≡◌, ◌∙◌, inl, ℕ, suc, ◌<◌, ◌≤◌, Bool, true, false, cond, ltb, List, [], ◌∷◌, ◌+◌, ◌^◌, ◌++◌, ◌&&◌, length, Option, Some, None, option_map, Result, Ok, Err, IfOk, refl, sym, ap, subst, arith}
use Rattle.std.proofs.lemmas.Bool.Decides.{nat_tests}
use Rattle.std.specs.Prelude.{zip}
use Rattle.std.specs.Option.{option_map_or, option_and_then}
use Rattle.lb_base.specs.declared.value.Outcome.{Outcome}
use Rattle.lb_base.specs.declared.value.Seqnum.{Seqnum}
use Rattle.lb_base.specs.declared.value.Value.{Value}
use Rattle.lb_base.specs.Path.{child_path}
use Rattle.boki_types.specs.declared.body.Body.{Body}
use Rattle.boki_types.specs.declared.body.Body.TheVariants as b
use Rattle.boki_types.specs.declared.line.StepLine.{StepLine}
use Rattle.boki_types.specs.declared.line.StepLine.TheVariants as line
use Rattle.boki_types.specs.declared.operation.Answer.{Answer}
use Rattle.boki_types.specs.declared.operation.Answer.TheVariants as ans
use Rattle.boki_types.specs.declared.operation.Ask.TheVariants as k
use Rattle.boki_types.specs.declared.operation.Op.{Op}
use Rattle.boki_types.specs.declared.operation.Op.TheVariants as o
use Rattle.boki_types.specs.declared.plan.Setup.{Setup}
use Rattle.boki_types.specs.declared.program.Function.{Function}
use Rattle.boki_model.specs.Bodies.{step_tag, step_of, child}
use Rattle.boki_model.specs.Folds.{queues, front, commits, store_values, values_of_names}
use Rattle.boki_model.specs.Live.{Live}
use Rattle.boki_model.specs.Modes.{result_of}
use Rattle.boki_model.specs.Reads.{nth}
use Rattle.boki_model.specs.Writes.{Store}
use Rattle.boki_machine.specs.Attempt.{Attempt, Move, moves, adopts, next_index}
use Rattle.boki_machine.specs.Step.{seqnum, records_below, is_committed, adopts_answer, adopts_join, adopts_operation, unless_waiting, script_step, attempt_ask, adopt_or}
use Rattle.machine_laws.specs.Adopts.{AdoptsAsked, RecordsOperation, adopted_answer}
use Rattle.machine_laws.specs.Children.{HasPath}
use Rattle.machine_laws.specs.Ends.{finish_in, last_tagged}
use Rattle.script_run.specs.Answering.{Takes, IsOfKind}
use Rattle.book_api.specs.Books.{HasEngine, position, next_sent}
use Rattle.step_log.specs.Sound.{view, seqnum_and_body}
use Rattle.fold_cache.proofs.Found.{found_recorded, below_among, view_falls}
use Rattle.log_folds.proofs.ByTag.{of_tag}
use Rattle.log_folds.specs.Bounds.{record_at}
use Rattle.boki_queue.specs.QueueStates.{popped_of}
use Rattle.boki_txn.specs.TxnStates.{is_commit}
use Rattle.attempt_state.specs.declared.progress.Progress.{Progress}
use Rattle.attempt_state.specs.declared.state.AttemptState.{AttemptState}
use Rattle.attempt_state.specs.Attempts.{AttemptStandsFor, FrameTakes, HasScript}
use Rattle.attempt_state.specs.Progresses.{progress_of, adopted_progress}
use Rattle.flow_parts.specs.declared.parts.Parts.{Parts}
use Rattle.flow_parts.specs.Parts.{HasEngineParts, KeepsParts}
use Rattle.boki_flow.specs.Flow.{FlowStandsFor, IsMoved}
use Rattle.boki_flow.specs.Arms.{FindsAnswer, IsAdopting, AdoptsBody, IsTaking, TakesAnswer, TakesPop, TakesCommit, AsksMarked, IsAnswerTaken, CanFlowIf, MovesBy, CutShortBy, marked_move, group_move, next_move, adopting_move, joined_move, popped_move, begun_move, committed_move}
use Rattle.boki_flow.proofs.Leading.{Leads}
use Rattle.boki_flow.proofs.Standing.{engine_is, has_engine, few, room, frame_takes}
use Rattle.boki_flow.proofs.StepCases.{Found, found_there, found_none, stays}

-- What follows where no record is of the operation isn't looked at.
other_is : (fs : List Function) (store : Store) (seen : List (Live Body)) (t : Attempt) (seq : ℕ) (body : Body) (op : Op) (first second : Move)
    → RecordsOperation fs store seen t body op → adopts_operation t store seen seq body first ≡ adopts_operation t store seen seq body second
other_is fs store seen t seq (b.Read p i key) op first second is = refl
other_is fs store seen t seq (b.ReadGroup p i keys) op first second is = refl
other_is fs store seen t seq (b.Write p i place key here) op first second is = refl
other_is fs store seen t seq (b.Spawn p i ordinal name args) op first second is = refl
other_is fs store seen t seq (b.Join p i ordinal) op first second is = refl
other_is fs store seen t seq (b.Push p i queue value) op first second is = refl
other_is fs store seen t seq (b.Pop p i queue) op first second is = refl
other_is fs store seen t seq (b.TxnBegin p i names) op first second is = refl
other_is fs store seen t seq (b.TxnCommit p i begin names writes) op first second is = refl
other_is fs store seen t seq _ op first second is = absurd is

-- The record at its place is adopted.
module _ (fs : List Function) (parts : Parts) (kept : AttemptState) where
  pub adopts_found : (seq : Seqnum) (body : Body)
      → Some (seq, body) ≡ option_map seqnum_and_body (nth (step_tag kept.progress.path) kept.progress.place (view parts.book kept.progress.engine))
      → Leads (FindsAnswer fs parts) (AdoptsBody fs parts seq.0 body) (next_move fs parts) (adopting_move parts seq.0 body) fs parts kept
  adopts_found seq body e = record {
    needs = λ setup store a stands finds.
        let found = found_there fs parts kept seq body e setup store a stands finds in
        record {
          script = finds.0;
          x = found.x;
          found = found.found;
          seq_is = found.seq_is;
          says = found.says;
          op = found.op;
          asks = found.asks;
          adopts = asked_is setup store a stands finds found;
        };
    same = λ setup store a stands finds.
        let found = found_there fs parts kept seq body e setup store a stands finds in
        let seen = view parts.book a.engine in
        let other = unless_waiting a.waiting a store (script_step setup fs a store seen (next_sent parts.book a.engine) (attempt_ask fs a)) in
        sym (
        ap (λ (there : Option (Live Body)). adopt_or a store seen there other) found.answers
        ∙ other_is fs store seen a found.x.seq found.x.holds found.op other (moves a store line.WaitsRecord) (asked_is setup store a stands finds found).is_of
        ∙ ap (λ (n : ℕ). adopts_operation a store seen n found.x.holds (moves a store line.WaitsRecord)) found.seq_is
        ∙ ap (λ (said : Body). adopts_operation a store seen seq.0 said (moves a store line.WaitsRecord)) found.says
        );
  }
    where
      asked_is : (setup : Setup) (store : Store) (a : Attempt) → FlowStandsFor setup fs store a parts kept → FindsAnswer fs parts setup store a → (found : Found fs store parts seq.0 body a)
          → AdoptsAsked fs store (view parts.book a.engine) a found.x found.op
      asked_is setup store a stands finds found = stands.can.sees.adopts finds.0.before found.x found.op finds.0.begun found.found found.has found.asks

  -- there is one
  pub adopts_none : (move : Setup → Store → Attempt → Move) (told : StepLine)
      → None ≡ option_map seqnum_and_body (nth (step_tag kept.progress.path) kept.progress.place (view parts.book kept.progress.engine))
      → MovesBy (FindsAnswer fs parts) move fs parts parts kept kept told
  adopts_none move told e setup store a stands finds = absurd (found_none fs parts kept e setup store a stands finds)

-- Parts that are kept, but for what engines keep.
pub keeps_parts : (parts : Parts) → KeepsParts parts parts
keeps_parts parts = record { book = refl; store = refl; stands = λ setup store stands. stands }

pub cut_keeps : (P : Setup → Store → Attempt → Type 0) (move : Setup → Store → Attempt → Move) (fs : List Function) (parts new : Parts) (kept : AttemptState)
    → KeepsParts parts new → CutShortBy P move fs parts new kept
cut_keeps P move fs parts new kept keeps setup store a stands p =
    record { book = keeps.book; parts = inl (keeps.stands setup store stands.parts) }

-- what it says that an answer was taken
abbrev pub AnswerTaken : List Function → Progress → Answer → AttemptState → AttemptState → Type 0
AnswerTaken fs changed answer before after = IsAnswerTaken fs changed answer before after

-- An answer is adopted, perhaps with another open transaction.
module _ (fs : List Function) (parts new : Parts) (kept after : AttemptState) (changed : Progress) (answer : Answer) (l told : StepLine)
    (keeps : KeepsParts parts new) (told_is : told ≡ l) (taken : AnswerTaken fs changed answer kept after)
    (setup : Setup) (store : Store) (a : Attempt) (stands : FlowStandsFor setup fs store a parts kept) (script : HasScript a) (seq : ℕ) where
  abbrev opened : Option ℕ → Attempt
  opened transaction = record a { transaction = transaction }

  pub answers_with : (transaction : Option ℕ) → changed ≡ progress_of (adopts (opened transaction) seq)
      → IsMoved setup fs a.engine (adopts_answer (opened transaction) store seq answer l) parts new after told
  answers_with transaction is = record {
    line_is = told_is;
    attempt = taken a (adopts (opened transaction) seq) stands.attempt script
        (record { path = refl; function = refl; args = refl; answers = refl })
        (record { runs = script.runs; before = a.place; begun = refl }) is;
    parts = keeps.stands setup store stands.parts;
    sent = keeps.book;
  }

  pub answers_so : changed ≡ progress_of (adopts a seq) → IsMoved setup fs a.engine (adopts_answer a store seq answer l) parts new after told
  answers_so is = answers_with a.transaction is

-- what stands in two that are the same
some_same : {X : Type 0} (x y : X) → Some x ≡ Some y → x ≡ y
some_same x y e = cc

step_path : (p q : List ℕ) (i j : ℕ) → ◌≡◌ {A = Option (List ℕ × ℕ)} (Some (p, i)) (Some (q, j)) → p ≡ q
step_path p q i j e = ap (λ (x : List ℕ × ℕ). x.0) (some_same {X = List ℕ × ℕ} (p, i) (q, j) e)

-- The record at its place says this, and the attempt's state behind it is known.
module _ (fs : List Function) (parts : Parts) (kept : AttemptState) (seq : Seqnum) (body : Body) where
  abbrev changed : Progress
  changed = adopted_progress seq.0 kept.progress

  changed_is : (a : Attempt) → AttemptStandsFor fs a kept → changed ≡ progress_of (adopts a seq.0)
  changed_is a stands = ap (adopted_progress seq.0) stands.progress

  module _ (setup : Setup) (store : Store) (a : Attempt) (stands : FlowStandsFor setup fs store a parts kept) (adopting : IsAdopting fs store parts seq.0 body a) where
    abbrev pub seen : List (Live Body)
    seen = view parts.book a.engine

    pub within : seq.0 ≤ position parts.book a.engine
    within =
        let x = adopting.x in
        let is = adopting.seq_is in
        let below = (below_among (suc (position parts.book a.engine)) x seen (view_falls parts.book a.engine) ((of_tag (step_tag a.path) seen).among a.place x adopting.found)).1 in
        omega arith

    pub records_is : (said : Body) → body ≡ said → RecordsOperation fs store seen a said adopting.op
    records_is said is = subst (λ (held : Body). RecordsOperation fs store seen a held adopting.op) (adopting.says ∙ is) adopting.adopts.is_of

    pub step_is : (said : Body) → body ≡ said → step_of said ≡ Some (a.path, next_index a.answers)
    step_is said is = sym (ap step_of (adopting.says ∙ is)) ∙ adopting.adopts.step

    -- what stands at the seqnum
    pub record_is : record_at seq.0 seen ≡ Some adopting.x
    record_is = ap (λ (n : ℕ). record_at n seen) (sym adopting.seq_is) ∙ found_recorded parts.book a.engine (step_tag a.path) a.place adopting.x adopting.found

    -- the frame takes the answer of its kind
    pub takes_is : (answer : Answer) → adopted_answer store seen seq.0 body ≡ Some answer → FrameTakes kept.frame answer
    takes_is answer is =
        frame_takes setup fs store a parts kept stands adopting.script (k.Op adopting.op) adopting.asks answer
        (subst (Takes (k.Op adopting.op)) same adopting.adopts.takes)
      where
        there : Some adopting.adopts.answer ≡ Some answer
        there =
            sym adopting.adopts.answers
            ∙ ap (λ (n : ℕ). adopted_answer store seen n adopting.x.holds) adopting.seq_is
            ∙ ap (adopted_answer store seen seq.0) adopting.says
            ∙ is

        same : adopting.adopts.answer ≡ answer
        same = some_same adopting.adopts.answer answer there

    taking : (op : Op) → adopting.op ≡ op → IsTaking fs (k.Op op) seq.0 changed a
    taking op is = record { script = adopting.script; asked = adopting.asks ∙ ap (λ (x : Op). Some (k.Op x)) is; changed_is = changed_is a stands.attempt }

    moves_same : (said : Body) → body ≡ said → adopts_operation a store seen seq.0 said (moves a store line.WaitsRecord) ≡ adopting_move parts seq.0 body setup store a
    moves_same said is = ap (λ (held : Body). adopts_operation a store seen seq.0 held (moves a store line.WaitsRecord)) (sym is)

  -- One of these is asked.
  abbrev Joins : Progress → ℕ → Type 0
  Joins p ordinal = Leads (AdoptsBody fs parts seq.0 body) (TakesAnswer fs (k.Op (o.Join ordinal)) p) (adopting_move parts seq.0 body) (joined_move parts p ordinal) fs parts kept

  pub joins : (p : List ℕ) (i ordinal : ℕ) (at : Progress) → body ≡ b.Join p i ordinal → at ≡ changed → Joins at ordinal
  joins p i ordinal at is e = subst (λ (q : Progress). Joins q ordinal) (sym e) (record {
    needs = λ setup store a stands adopting. taking setup store a stands adopting (o.Join ordinal) (records_is setup store a stands adopting (b.Join p i ordinal) is).asks;
    same = λ setup store a stands adopting.
        let step = step_is setup store a stands adopting (b.Join p i ordinal) is in
        let path_is = step_path a.path p (next_index a.answers) i (sym step) in
        ap (λ (path : List ℕ). adopts_join a store seq.0 (child path ordinal) (result_of (child path ordinal) (view parts.book a.engine))) path_is
        ∙ moves_same setup store a stands adopting (b.Join p i ordinal) is;
  })

  abbrev Pops : Progress → List ℕ → Type 0
  Pops p queue = Leads (AdoptsBody fs parts seq.0 body) (TakesPop fs parts queue p) (adopting_move parts seq.0 body) (popped_move parts p queue) fs parts kept

  pub pops : (p : List ℕ) (i : ℕ) (queue : List ℕ) (at : Progress) → body ≡ b.Pop p i queue → at ≡ changed → Pops at queue
  pops p i queue at is e = subst (λ (q : Progress). Pops q queue) (sym e) (record {
    needs = λ setup store a stands adopting. (
      ap (option_and_then (λ (x : Live Body). popped_of x.holds)) (record_is setup store a stands adopting) ∙ ap popped_of (adopting.says ∙ is),
      taking setup store a stands adopting (o.Pop queue) (records_is setup store a stands adopting (b.Pop p i queue) is),
    );
    same = λ setup store a stands adopting. moves_same setup store a stands adopting (b.Pop p i queue) is;
  })

  abbrev Begins : Progress → List (List ℕ) → Type 0
  Begins p names = Leads (AdoptsBody fs parts seq.0 body) (TakesAnswer fs (k.Op (o.Begin names)) p) (adopting_move parts seq.0 body) (begun_move parts p names) fs parts kept

  pub begins : (p : List ℕ) (i : ℕ) (names : List (List ℕ)) (at : Progress) → body ≡ b.TxnBegin p i names → at ≡ changed → Begins at names
  begins p i names at is e = subst (λ (q : Progress). Begins q names) (sym e) (record {
    needs = λ setup store a stands adopting. taking setup store a stands adopting (o.Begin names) (records_is setup store a stands adopting (b.TxnBegin p i names) is);
    same = λ setup store a stands adopting. moves_same setup store a stands adopting (b.TxnBegin p i names) is;
  })

  abbrev Commits : Progress → Type 0
  Commits p = Leads (AdoptsBody fs parts seq.0 body) (TakesCommit fs parts p) (adopting_move parts seq.0 body) (committed_move parts p) fs parts kept

  pub commits_so : (p : List ℕ) (i begin : ℕ) (names : List (List ℕ)) (writes : List (List ℕ × Value)) (at : Progress) → body ≡ b.TxnCommit p i begin names writes → at ≡ changed → Commits at
  commits_so p i begin names writes at is e = subst Commits (sym e) (record {
    needs = λ setup store a stands adopting. (
      ap (λ (x : Option (Live Body)). option_map_or (λ (x : Live Body). is_commit x.holds) x false) (record_is setup store a stands adopting) ∙ ap is_commit (adopting.says ∙ is),
      record {
        names = names;
        writes = writes;
        takes = taking setup store a stands adopting (o.Commit names writes) (records_is setup store a stands adopting (b.TxnCommit p i begin names writes) is).asks;
      },
    );
    same = λ setup store a stands adopting. moves_same setup store a stands adopting (b.TxnCommit p i begin names writes) is;
  })

  -- It is answered by the record alone.
  pub answers_alone : (answer : Answer) (l : Seqnum → StepLine) (after : AttemptState) (at : Progress) (said : Body) → body ≡ said → at ≡ changed
      → ((store : Store) (a : Attempt) → adopts_operation a store (view parts.book a.engine) seq.0 said (moves a store line.WaitsRecord) ≡ adopts_answer a store seq.0 answer (l (seqnum seq.0)))
      → {E : Type 0} (result : Result StepLine E) → IfOk result (λ told. told ≡ l at.cursor) → IfOk result (λ told. AnswerTaken fs at answer kept after)
      → IfOk result (MovesBy (AdoptsBody fs parts seq.0 body) (adopting_move parts seq.0 body) fs parts parts kept after)
  answers_alone answer l after at said is e so (Ok told) told_is taken = λ setup store a stands adopting.
      subst (λ (move : Move). IsMoved setup fs a.engine move parts parts after told)
      (sym (so store a) ∙ moves_same setup store a stands adopting said is)
      (answers_so fs parts parts kept after at answer (l (seqnum seq.0)) told (keeps_parts parts) (told_is ∙ ap (λ (p : Progress). l p.cursor) e) taken
      setup store a stands adopting.script seq.0 (e ∙ changed_is a stands.attempt))
  answers_alone answer l after at said is e so (Err w) told_is taken = tt

  -- It is of no operation.
  pub adopts_other : ((fs : List Function) (store : Store) (seen : List (Live Body)) (a : Attempt) (op : Op) → RecordsOperation fs store seen a body op → ⊥)
      → (move : Setup → Store → Attempt → Move) (told : StepLine) → MovesBy (AdoptsBody fs parts seq.0 body) move fs parts parts kept kept told
  adopts_other none move told setup store a stands adopting =
      absurd (none fs store (view parts.book a.engine) a adopting.op (records_is setup store a stands adopting body refl))

  -- One of these markers is asked.
  abbrev Marks : Op → (Parts → ℕ → Setup → Store → Attempt → Move) → Type 0
  Marks op move = Leads (AdoptsBody fs parts seq.0 body) (AsksMarked fs parts op seq.0) (adopting_move parts seq.0 body) (move parts seq.0) fs parts kept

  marks_by : (op : Op) (said : Body) (move : Parts → ℕ → Setup → Store → Attempt → Move) → body ≡ said
      → ((setup : Setup) (store : Store) (a : Attempt) → FlowStandsFor setup fs store a parts kept → (adopting : IsAdopting fs store parts seq.0 body a) → adopting.op ≡ op)
      → ((setup : Setup) (store : Store) (a : Attempt) → move parts seq.0 setup store a ≡ adopts_operation a store (view parts.book a.engine) seq.0 said (moves a store line.WaitsRecord))
      → Marks op move
  marks_by op said move is asks so = record {
    needs = λ setup store a stands adopting. (
      record { script = adopting.script; asks = adopting.asks ∙ ap (λ (x : Op). Some (k.Op x)) (asks setup store a stands adopting) },
      within setup store a stands adopting,
    );
    same = λ setup store a stands adopting. so setup store a ∙ moves_same setup store a stands adopting said is;
  }

  pub marks_read : (p : List ℕ) (i : ℕ) (key : List ℕ) → body ≡ b.Read p i key → Marks (o.Read key) (λ parts seq. marked_move parts seq key)
  marks_read p i key is = marks_by (o.Read key) (b.Read p i key) (λ parts seq. marked_move parts seq key) is
      (λ setup store a stands adopting. records_is setup store a stands adopting (b.Read p i key) is) (λ setup store a. refl)

  pub marks_group : (p : List ℕ) (i : ℕ) (keys : List (List ℕ)) → body ≡ b.ReadGroup p i keys → Marks (o.ReadGroup keys) (λ parts seq. group_move parts seq keys)
  marks_group p i keys is = marks_by (o.ReadGroup keys) (b.ReadGroup p i keys) (λ parts seq. group_move parts seq keys) is
      (λ setup store a stands adopting. records_is setup store a stands adopting (b.ReadGroup p i keys) is) (λ setup store a. refl)

  -- What the calls of its arms need, of an attempt that adopts it.
  module _ (can : CanFlowIf (AdoptsBody fs parts seq.0 body) fs parts kept) where
    pub adopting_few : length fs < 2 ^ 32
    adopting_few = few can.setup fs can.store can.attempt parts kept can.stands

    pub adopting_room : (at : Progress) → at ≡ changed → at.answered + 1 < 2 ^ 64
    adopting_room at e =
        let is : at.answered ≡ kept.progress.answered = ap (λ (p : Progress). p.answered) e in
        let bound = room can.setup fs can.store can.attempt parts kept can.stands in
        omega arith

    pub adopting_takes : (answer : Answer) (said : Body) → body ≡ said
        → ((store : Store) (seen : List (Live Body)) → adopted_answer store seen seq.0 said ≡ Some answer) → FrameTakes kept.frame answer
    adopting_takes answer said is so =
        takes_is can.setup can.store can.attempt can.stands can.holds answer
        (ap (adopted_answer can.store (view parts.book can.attempt.engine) seq.0) is ∙ so can.store (view parts.book can.attempt.engine))

    adopting_path : (said : Body) (p : List ℕ) (i : ℕ) → body ≡ said → step_of said ≡ Some (p, i) → can.attempt.path ≡ p
    adopting_path said p i is there =
        step_path can.attempt.path p (next_index can.attempt.answers) i (sym (step_is can.setup can.store can.attempt can.stands can.holds said is) ∙ there)

    adopting_child : (op : Op) (said : Body) (p : List ℕ) (i : ℕ) → body ≡ said → step_of said ≡ Some (p, i) → can.holds.op ≡ op → HasPath p op
    adopting_child op said p i is there asks =
        subst (λ (path : List ℕ). HasPath path op) (adopting_path said p i is there)
        (subst (HasPath can.attempt.path) asks (can.stands.can.asks.children can.holds.op can.holds.asks))

    pub spawn_child : (p : List ℕ) (i ordinal : ℕ) (name : List ℕ) (args : List Value) → body ≡ b.Spawn p i ordinal name args
        → child_path p ordinal ≡ Some (child p ordinal)
    spawn_child p i ordinal name args is =
        let asked = records_is can.setup can.store can.attempt can.stands can.holds (b.Spawn p i ordinal name args) is in
        adopting_child (o.Spawn ordinal asked.function args) (b.Spawn p i ordinal name args) p i is refl asked.asks

    pub join_child : (p : List ℕ) (i ordinal : ℕ) → body ≡ b.Join p i ordinal → child_path p ordinal ≡ Some (child p ordinal)
    join_child p i ordinal is =
        let asked = records_is can.setup can.store can.attempt can.stands can.holds (b.Join p i ordinal) is in
        adopting_child (o.Join ordinal) (b.Join p i ordinal) p i is refl asked.asks

-- a record of no operation
pub no_operation : (body : Body) → ((p : List ℕ) (i : ℕ) (key : List ℕ) → body ≡ b.Read p i key → ⊥) → ((p : List ℕ) (i : ℕ) (keys : List (List ℕ)) → body ≡ b.ReadGroup p i keys → ⊥)
    → ((p : List ℕ) (i place : ℕ) (key : List ℕ) (here : Option Value) → body ≡ b.Write p i place key here → ⊥)
    → ((p : List ℕ) (i ordinal : ℕ) (name : List ℕ) (args : List Value) → body ≡ b.Spawn p i ordinal name args → ⊥)
    → ((p : List ℕ) (i ordinal : ℕ) → body ≡ b.Join p i ordinal → ⊥) → ((p : List ℕ) (i : ℕ) (queue : List ℕ) (value : Value) → body ≡ b.Push p i queue value → ⊥)
    → ((p : List ℕ) (i : ℕ) (queue : List ℕ) → body ≡ b.Pop p i queue → ⊥) → ((p : List ℕ) (i : ℕ) (names : List (List ℕ)) → body ≡ b.TxnBegin p i names → ⊥)
    → ((p : List ℕ) (i begin : ℕ) (names : List (List ℕ)) (writes : List (List ℕ × Value)) → body ≡ b.TxnCommit p i begin names writes → ⊥)
    → (fs : List Function) (store : Store) (seen : List (Live Body)) (a : Attempt) (op : Op) → RecordsOperation fs store seen a body op → ⊥
no_operation (b.Read p i key) one group write spawn join push pop begin commit fs store view a op is = one p i key refl
no_operation (b.ReadGroup p i keys) one group write spawn join push pop begin commit fs store view a op is = group p i keys refl
no_operation (b.Write p i place key here) one group write spawn join push pop begin commit fs store view a op is = write p i place key here refl
no_operation (b.Spawn p i ordinal name args) one group write spawn join push pop begin commit fs store view a op is = spawn p i ordinal name args refl
no_operation (b.Join p i ordinal) one group write spawn join push pop begin commit fs store view a op is = join p i ordinal refl
no_operation (b.Push p i queue value) one group write spawn join push pop begin commit fs store view a op is = push p i queue value refl
no_operation (b.Pop p i queue) one group write spawn join push pop begin commit fs store view a op is = pop p i queue refl
no_operation (b.TxnBegin p i names) one group write spawn join push pop begin commit fs store view a op is = begin p i names refl
no_operation (b.TxnCommit p i start names writes) one group write spawn join push pop begin commit fs store view a op is = commit p i start names writes refl
no_operation _ one group write spawn join push pop begin commit fs store view a op is = is

-- the ordinal of a child's path is small
pub child_small : (path child : List ℕ) (ordinal : ℕ) → child_path path ordinal ≡ Some child → ordinal < 4096
child_small path child ordinal is = at (ltb 0 ordinal) (ltb ordinal 4096) (ltb (length path) 4) refl is
  where
    at : (first second third : Bool) → ltb ordinal 4096 ≡ second → cond ((first && second) && third) (Some (path ++ ordinal ∷ [])) None ≡ Some child → ordinal < 4096
    at first true third e is = grind (arith, nat_tests)
    at true false third e is = absurd (let z : ⊥ = cc in z)
    at false false third e is = absurd (let z : ⊥ = cc in z)

-- What a call needs of an attempt that takes an answer.
module _ (fs : List Function) (parts : Parts) (kept : AttemptState) (changed : Progress) where
  -- its premise says that it takes one
  abbrev Taking : (Setup → Store → Attempt → Type 0) → Op → Type 0
  Taking P op = (setup : Setup) (store : Store) (a : Attempt) → P setup store a → IsTaking fs (k.Op op) changed.cursor.0 changed a

  module _ (setup : Setup) (store : Store) (a : Attempt) (stands : FlowStandsFor setup fs store a parts kept) (op : Op) (taking : IsTaking fs (k.Op op) changed.cursor.0 changed a) where
    pub taking_engine : HasEngineParts changed.engine parts
    taking_engine = record {
      there = subst (λ (n : ℕ). HasEngine n parts.book) (engine_is setup fs store a parts kept stands ∙ sym (ap (λ (p : Progress). p.engine) taking.changed_is)) (has_engine setup fs store a parts kept stands);
      setup = setup;
      store = store;
      stands = stands.parts;
    }

    pub taking_room : changed.answered + 1 < 2 ^ 64
    taking_room =
        let is : changed.answered ≡ length a.answers = ap (λ (p : Progress). p.answered) taking.changed_is in
        let bound = stands.attempt.room in
        omega arith

    pub taking_few : length fs < 2 ^ 32
    taking_few = few setup fs store a parts kept stands

    pub taking_takes : (answer : Answer) → IsOfKind op answer → FrameTakes kept.frame answer
    taking_takes answer fits = frame_takes setup fs store a parts kept stands taking.script (k.Op op) taking.asked answer fits

    pub taking_child : HasPath a.path op → HasPath changed.path op
    taking_child has = subst (λ (path : List ℕ). HasPath path op) (sym (ap (λ (p : Progress). p.path) taking.changed_is)) has

-- a begin has as many values as names
pub values_count : (names : List (List ℕ)) (stored : List (List ℕ × Value)) → length (values_of_names names stored) ≡ length names
values_count [] stored = refl
values_count (name ∷ names) stored = ap suc (values_count names stored)

-- Joins, pops, begins and commits.
module _ (fs : List Function) (parts new : Parts) (kept after : AttemptState) (changed : Progress) (answer : Answer) (told : StepLine) (keeps : KeepsParts parts new) where
  view_is : (a : Attempt) → changed ≡ progress_of (adopts a changed.cursor.0) → view parts.book changed.engine ≡ view parts.book a.engine
  view_is a is = ap (λ (p : Progress). view parts.book p.engine) is

  module _ (ordinal : ℕ) (path : List ℕ) (path_is : path ≡ child changed.path ordinal) where
    abbrev Ends : Option Outcome → Type 0
    Ends outcome = outcome ≡ finish_in path (last_tagged (step_tag path) (view parts.book changed.engine))

    child_is : (a : Attempt) → changed ≡ progress_of (adopts a changed.cursor.0) → path ≡ child a.path ordinal
    child_is a is = path_is ∙ ap (λ (p : Progress). child p.path ordinal) is

    result_is : (setup : Setup) (store : Store) (a : Attempt) (outcome : Option Outcome) → FlowStandsFor setup fs store a parts kept → changed ≡ progress_of (adopts a changed.cursor.0) → Ends outcome
        → outcome ≡ result_of (child a.path ordinal) (view parts.book a.engine)
    result_is setup store a outcome stands is e =
        e
        ∙ ap (λ (records : List (Live Body)). finish_in path (last_tagged (step_tag path) records)) (view_is a is)
        ∙ ap (λ (p : List ℕ). finish_in p (last_tagged (step_tag p) (view parts.book a.engine))) (child_is a is)
        ∙ sym (stands.can.sees.ends (child a.path ordinal)).result

    pub join_waits : Ends None → MovesBy (TakesAnswer fs (k.Op (o.Join ordinal)) changed) (joined_move parts changed ordinal) fs parts parts kept kept (line.WaitsJoin path)
    join_waits e setup store a stands taking =
        let is = taking.changed_is in
        subst (λ (move : Move). IsMoved setup fs a.engine move parts parts kept (line.WaitsJoin path))
        (ap (λ (p : List ℕ). moves a store (line.WaitsJoin p)) (child_is a is)
        ∙ ap (adopts_join a store changed.cursor.0 (child a.path ordinal)) (result_is setup store a None stands is e))
        (stays setup fs store a parts kept (line.WaitsJoin path) stands)

    pub join_takes : (outcome : Outcome) → Ends (Some outcome) → answer ≡ ans.Joined outcome → told ≡ line.AdoptJoin changed.cursor path outcome → AnswerTaken fs changed answer kept after
        → MovesBy (TakesAnswer fs (k.Op (o.Join ordinal)) changed) (joined_move parts changed ordinal) fs parts new kept after told
    join_takes outcome e answer_is told_is taken setup store a stands taking =
        let is = taking.changed_is in
        subst (λ (move : Move). IsMoved setup fs a.engine move parts new after told)
        (ap (λ (x : Answer). adopts_answer a store changed.cursor.0 x (line.AdoptJoin changed.cursor path outcome)) answer_is
        ∙ ap (λ (p : List ℕ). adopts_answer a store changed.cursor.0 (ans.Joined outcome) (line.AdoptJoin changed.cursor p outcome)) (child_is a is)
        ∙ ap (adopts_join a store changed.cursor.0 (child a.path ordinal)) (result_is setup store a (Some outcome) stands is e))
        (answers_so fs parts new kept after changed answer (line.AdoptJoin changed.cursor path outcome) told keeps told_is taken setup store a stands taking.script changed.cursor.0 is)

  pub pop_takes : (queue : List ℕ) (v : Value) → v ≡ front queue (queues (records_below changed.cursor.0 (view parts.book changed.engine))) → answer ≡ ans.Value v
      → told ≡ line.AdoptPop changed.cursor queue v → AnswerTaken fs changed answer kept after
      → MovesBy (TakesPop fs parts queue changed) (popped_move parts changed queue) fs parts new kept after told
  pop_takes queue v e answer_is told_is taken setup store a stands p =
      let taking = p.1 in
      let is = taking.changed_is in
      subst (λ (move : Move). IsMoved setup fs a.engine move parts new after told)
      (ap (λ (x : Answer). adopts_answer a store changed.cursor.0 x (line.AdoptPop changed.cursor queue v)) answer_is
      ∙ ap (λ (w : Value). adopts_answer a store changed.cursor.0 (ans.Value w) (line.AdoptPop changed.cursor queue w))
      (e ∙ ap (λ (records : List (Live Body)). front queue (queues (records_below changed.cursor.0 records))) (view_is a is)))
      (answers_so fs parts new kept after changed answer (line.AdoptPop changed.cursor queue v) told keeps told_is taken setup store a stands taking.script changed.cursor.0 is)

  pub begin_takes : (names : List (List ℕ)) (vs : List Value) (at : Progress)
      → vs ≡ values_of_names names (store_values (commits (records_below changed.cursor.0 (view parts.book changed.engine)))) → answer ≡ ans.Values vs
      → told ≡ line.AdoptBegin changed.cursor (zip names vs) → at ≡ record changed { transaction = Some changed.cursor } → AnswerTaken fs at answer kept after
      → MovesBy (TakesAnswer fs (k.Op (o.Begin names)) changed) (begun_move parts changed names) fs parts new kept after told
  begin_takes names vs at e answer_is told_is at_is taken setup store a stands taking =
      let is = taking.changed_is in
      let t : Attempt = record a { transaction = Some changed.cursor.0 } in
      subst (λ (move : Move). IsMoved setup fs a.engine move parts new after told)
      (ap (λ (x : Answer). adopts_answer t store changed.cursor.0 x (line.AdoptBegin changed.cursor (zip names vs))) answer_is
      ∙ ap (λ (ws : List Value). adopts_answer t store changed.cursor.0 (ans.Values ws) (line.AdoptBegin changed.cursor (zip names ws)))
      (e ∙ ap (λ (records : List (Live Body)). values_of_names names (store_values (commits (records_below changed.cursor.0 records)))) (view_is a is)))
      (answers_with fs parts new kept after at answer (line.AdoptBegin changed.cursor (zip names vs)) told keeps told_is taken setup store a stands taking.script changed.cursor.0
      (Some changed.cursor.0) (at_is ∙ ap (λ (p : Progress). record p { transaction = Some changed.cursor }) is))

  pub commit_takes : (good : Bool) (at : Progress) → good ≡ is_committed changed.cursor.0 (view parts.book changed.engine) → answer ≡ ans.Committed good
      → told ≡ line.AdoptCommit changed.cursor good → at ≡ record changed { transaction = None } → AnswerTaken fs at answer kept after
      → MovesBy (TakesCommit fs parts changed) (committed_move parts changed) fs parts new kept after told
  commit_takes good at e answer_is told_is at_is taken setup store a stands p =
      let taking = p.1.takes in
      let is = taking.changed_is in
      let t : Attempt = record a { transaction = None } in
      subst (λ (move : Move). IsMoved setup fs a.engine move parts new after told)
      (ap (λ (x : Answer). adopts_answer t store changed.cursor.0 x (line.AdoptCommit changed.cursor good)) answer_is
      ∙ ap (λ (b : Bool). adopts_answer t store changed.cursor.0 (ans.Committed b) (line.AdoptCommit changed.cursor b))
      (e ∙ ap (is_committed changed.cursor.0) (view_is a is)))
      (answers_with fs parts new kept after at answer (line.AdoptCommit changed.cursor good) told keeps told_is taken setup store a stands taking.script changed.cursor.0
      None (at_is ∙ ap (λ (p : Progress). record p { transaction = None }) is))
