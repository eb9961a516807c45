-- A legal log's turns have a failure-free execution, which comes to the state that the audit comes to.
use Rattle.std.proofs.Common.{◌≡◌, ℕ, suc, Bool, true, false, cond, List, [], ◌∷◌, ◌++◌, Option, Some, None, Ok, Err, Result, option_map, refl, ap, ◌∙◌}
use Rattle.std.specs.Prelude.{option_and_then, unwrap_or, slice_index}
use Rattle.lb_base.specs.declared.value.Value.{Value}
use Rattle.lb_base.specs.declared.value.Outcome.{Outcome}
use Rattle.lb_base.specs.declared.value.Mode.{Mode}
use Rattle.boki_types.specs.declared.body.Body.{Body}
use Rattle.boki_types.specs.declared.body.Body.TheVariants as b
use Rattle.boki_types.specs.declared.program.Function.{Function}
use Rattle.boki_types.specs.declared.turn.Report.{Report}
use Rattle.boki_types.specs.declared.turn.Turn.{Turn}
use Rattle.boki_types.specs.declared.turn.Turn.TheVariants as t
use Rattle.boki_types.specs.Finding.{find}
use Rattle.boki_model.specs.Live.{Live}
use Rattle.boki_model.specs.Bodies.{step_of}
use Rattle.boki_model.specs.Maps.{get}
use Rattle.boki_model.specs.Modes.{mode_after}
use Rattle.boki_machine.specs.Turns.{operation_count, turn_of, turns_to, turns, add_next_index}
use Rattle.boki_machine.specs.Ideal.{Ideal, perform_many, apply_turn, run_turns, initial_ideal}
use Rattle.boki_machine.specs.Reports.{ideal_report}
use Rattle.legal_logs.specs.Legal.{BegunInvocation, Audited, with_state, with_begun, free_operations_ahead, turn_if, go_if, matches_end, calls_function, tests_of_init, tests_of, audit_submit, audit_init, audit_operation, audit_finish, audit_record, or_illegal, and_record, legal_to, state_behind, audited_report}
use Rattle.legal_logs.specs.Laws.{IsFailureFree, LegalLogsRun}
use Rattle.legal_logs.proofs.Tested.{mapped, bound, until_init, until_own, turn_runs, go_runs}

pub append_turns : (fs : List Function) (ts us : List Turn) (s : Ideal) → run_turns fs (ts ++ us) s ≡ option_and_then (run_turns fs us) (run_turns fs ts s)
append_turns fs [] us s = refl
append_turns fs (t ∷ ts) us s = at (λ s'. append_turns fs ts us s') (apply_turn fs t s)
  where
    at : ((s' : Ideal) → run_turns fs (ts ++ us) s' ≡ option_and_then (run_turns fs us) (run_turns fs ts s')) → (o : Option Ideal) → option_and_then (run_turns fs (ts ++ us)) o ≡ option_and_then (run_turns fs us) (option_and_then (run_turns fs ts) o)
    at each None = refl
    at each (Some s') = each s'

module _ (fs : List Function) (first : Mode) (ahead : List (List ℕ × ℕ)) (seq : ℕ) (past : List (Live Body)) (a next : Audited) where
  abbrev Runs : List Turn → Type 0
  Runs ts = run_turns fs ts a.state ≡ Some next.state

  one_turn : (t : Turn) → apply_turn fs t a.state ≡ Some next.state → Runs (t ∷ [])
  one_turn t e = ap (option_and_then (run_turns fs [])) e

  submit_runs : (p name : List ℕ) (args : List Value) → option_map (with_state a) (audit_submit fs p name args a.state) ≡ Some next → Runs (turn_of fs ahead 0 (b.Submit p name args))
  submit_runs p name args e = at (calls_function fs name args) e
    where
      at : (known : Bool) → option_map (with_state a) (cond known (apply_turn fs (t.Submit (slice_index p 0) (unwrap_or (find name fs) 0) args) a.state) None) ≡ Some next → Runs (t.Submit (slice_index p 0) (unwrap_or (find name fs) 0) args ∷ [])
      at false e = let no_way : None ≡ Some next = e in cc
      at true e =
          let m = mapped (with_state a) (apply_turn fs (t.Submit (slice_index p 0) (unwrap_or (find name fs) 0) args) a.state) next e in
          one_turn (t.Submit (slice_index p 0) (unwrap_or (find name fs) 0) args) (m.is ∙ ap Some (ap (λ (a : Audited). a.state) m.gives))

  init_runs : (p : List ℕ) (mode : Mode) → audit_init fs ahead p mode a ≡ Some next → Runs (turn_of fs ahead 0 (b.Init p))
  init_runs p mode e =
      let it : BegunInvocation = record { mode = mode; transaction = None } in
      let m = mapped (with_begun a p it) (option_and_then (λ n. go_if fs (tests_of_init mode) n p a.state) (free_operations_ahead 1 (get p ahead))) next e in
      let g = bound (λ n. go_if fs (tests_of_init mode) n p a.state) (free_operations_ahead 1 (get p ahead)) m.was m.is in
      one_turn (t.Go p (operation_count (get p ahead) 1 0 0))
      (ap (λ n. perform_many fs n p a.state) (until_init (get p ahead) g.was g.is) ∙ go_runs fs (tests_of_init mode) g.was p a.state m.was g.gives ∙ ap Some (ap (λ (a : Audited). a.state) m.gives))

  operation_runs : (body : Body) (p : List ℕ) (i : ℕ) → option_and_then (audit_operation fs ahead seq body (p, i) a) (get p a.begun) ≡ Some next → Runs (t.Go p (operation_count (get p ahead) i 1 0) ∷ [])
  operation_runs body p i e =
      let w = bound (audit_operation fs ahead seq body (p, i) a) (get p a.begun) next e in
      let m = mapped _ (option_and_then (λ n. go_if fs (tests_of fs w.was.transaction body w.was.mode) (suc n) p a.state) (free_operations_ahead (suc i) (get p ahead))) next w.gives in
      let g = bound (λ n. go_if fs (tests_of fs w.was.transaction body w.was.mode) (suc n) p a.state) (free_operations_ahead (suc i) (get p ahead)) m.was m.is in
      one_turn (t.Go p (operation_count (get p ahead) i 1 0))
      (ap (λ n. perform_many fs n p a.state) (until_own (get p ahead) i g.was g.is) ∙ go_runs fs (tests_of fs w.was.transaction body w.was.mode) (suc g.was) p a.state m.was g.gives
      ∙ ap Some (ap (λ (a : Audited). a.state) m.gives))

  end_runs_on : (p : List ℕ) (i : ℕ) (outcome : Outcome) → audit_finish fs (b.Finish p i outcome) p a ≡ Some next → Runs (t.End p ∷ [])
  end_runs_on p i outcome e =
      let m = mapped (with_state a) (turn_if fs (matches_end (b.Finish p i outcome)) p (t.End p) a.state) next e in
      one_turn (t.End p) (turn_runs fs (matches_end (b.Finish p i outcome)) p (t.End p) a.state m.was m.is ∙ ap Some (ap (λ (a : Audited). a.state) m.gives))

  quiet_runs : ◌≡◌ {A = Option Audited} (Some a) (Some next) → Runs []
  quiet_runs e = let same : a ≡ next = cc in ap (λ (a : Audited). Some a.state) same

  record_runs : (body : Body) → audit_record fs first ahead seq past a body ≡ Some next → Runs (turn_of fs ahead 0 body)
  record_runs (b.Submit p name args) e = submit_runs p name args e
  record_runs (b.Init p) e = init_runs p (mode_after first past) e
  record_runs (b.Finish p i outcome) e = end_runs_on p i outcome e
  record_runs (b.Read p i key) e = operation_runs (b.Read p i key) p i e
  record_runs (b.Write p i place key here) e = operation_runs (b.Write p i place key here) p i e
  record_runs (b.Spawn p i ordinal name args) e = operation_runs (b.Spawn p i ordinal name args) p i e
  record_runs (b.Join p i ordinal) e = operation_runs (b.Join p i ordinal) p i e
  record_runs (b.Push p i queue value) e = operation_runs (b.Push p i queue value) p i e
  record_runs (b.Pop p i queue) e = operation_runs (b.Pop p i queue) p i e
  record_runs (b.TxnBegin p i names) e = operation_runs (b.TxnBegin p i names) p i e
  record_runs (b.TxnCommit p i begin names writes) e = operation_runs (b.TxnCommit p i begin names writes) p i e
  record_runs (b.ReadGroup p i keys) e = operation_runs (b.ReadGroup p i keys) p i e
  record_runs (b.SwitchBegin target) e = quiet_runs e
  record_runs b.SwitchEnd e = quiet_runs e
  record_runs (b.Trim w) e = quiet_runs e
  record_runs (b.TrimTag number upto) e = quiet_runs e
  record_runs (b.User bytes) e = quiet_runs e

-- a record more is legal behind legal records
pub record OneLegal (fs : List Function) (first : Mode) (ahead : List (List ℕ × ℕ)) (x : Live Body) (past : List (Live Body)) (was : Result Audited ℕ) (next : Audited) : Type 0 where
  pub a : Audited
  pub before : was ≡ Ok a
  pub legal : audit_record fs first ahead x.seq past a x.holds ≡ Some next

pub one_legal : (fs : List Function) (first : Mode) (ahead : List (List ℕ × ℕ)) (x : Live Body) (past : List (Live Body)) (was : Result Audited ℕ) (next : Audited) → and_record fs first ahead x past was ≡ Ok next → OneLegal fs first ahead x past was next
one_legal fs first ahead x past (Err seq) next e = let no_way : ◌≡◌ {A = Result Audited ℕ} (Err seq) (Ok next) = e in cc
one_legal fs first ahead x past (Ok a) next e = record { a = a; before = refl; legal = at (audit_record fs first ahead x.seq past a x.holds) e }
  where
    at : (o : Option Audited) → or_illegal x.seq o ≡ Ok next → o ≡ Some next
    at None e = let no_way : ◌≡◌ {A = Result Audited ℕ} (Err x.seq) (Ok next) = e in cc
    at (Some b) e = let h : ◌≡◌ {A = Result Audited ℕ} (Ok b) (Ok next) = e in let same : b ≡ next = cc in ap Some same

pub legal_runs : (fs : List Function) (first : Mode) (objects : List (List ℕ × Value)) (ahead : List (List ℕ × ℕ)) (xs : List (Live Body)) (a : Audited) → legal_to fs first objects ahead xs ≡ Ok a → run_turns fs (turns_to fs ahead [] xs) (initial_ideal objects) ≡ Some a.state
legal_runs fs first objects ahead [] a e =
    let h : ◌≡◌ {A = Result Audited ℕ} (Ok (record { state = initial_ideal objects; begun = [] })) (Ok a) = e in
    let same : record { state = initial_ideal objects; begun = [] } ≡ a = cc in ap (λ (a : Audited). Some a.state) same
legal_runs fs first objects ahead (x ∷ xs) a e =
    let one = one_legal fs first ahead x xs (legal_to fs first objects (add_next_index (step_of x.holds) ahead) xs) a e in
    append_turns fs (turns_to fs (add_next_index (step_of x.holds) ahead) [] xs) (turn_of fs ahead 0 x.holds) (initial_ideal objects)
    ∙ ap (option_and_then (run_turns fs (turn_of fs ahead 0 x.holds))) (legal_runs fs first objects (add_next_index (step_of x.holds) ahead) xs one.a one.before)
    ∙ record_runs fs first ahead x.seq xs one.a a x.holds one.legal

pub legal_logs_run : LegalLogsRun
legal_logs_run fs first objects records reported e = at (legal_to fs first objects [] records) refl e
  where
    at : (o : Result Audited ℕ) → legal_to fs first objects [] records ≡ o → audited_report (turns fs [] records) (state_behind o) ≡ Ok reported → IsFailureFree fs objects records reported
    at (Err seq) is e = let no_way : ◌≡◌ {A = Result Report ℕ} (Err seq) (Ok reported) = e in cc
    at (Ok a) is e =
        let h : ◌≡◌ {A = Result Report ℕ} (Ok (ideal_report (turns fs [] records) a.state)) (Ok reported) = e in
        record { state = a.state; defined = legal_runs fs first objects [] records a is; has_report = (let same : ideal_report (turns fs [] records) a.state ≡ reported = cc in same) }
