-- A record that says another thing than a legal one, at its place, isn't legal.
use Rattle.std.proofs.Common.{◌≡◌, ℕ, zero, suc, Bool, true, false, cond, eqb, ◌&&◌, List, [], ◌∷◌, ◌++◌, Option, Some, None, Ok, Err, Result, option_map, refl, sym, ap, ◌∙◌, subst}
use Rattle.std.specs.Prelude.{bytes_eq, option_and_then}
use Rattle.std.proofs.lemmas.Bool.{eqb-true, and_parts, and_from}
use Rattle.lb_base.specs.declared.value.Value.{Value}
use Rattle.lb_base.specs.declared.value.Mode.{Mode}
use Rattle.lb_base.specs.declared.value.Outcome.{Outcome}
use Rattle.boki_types.specs.declared.body.Body.{Body}
use Rattle.boki_types.specs.declared.body.Body.TheVariants as b
use Rattle.boki_types.specs.declared.operation.Op.{Op}
use Rattle.boki_types.specs.declared.operation.Op.TheVariants as o
use Rattle.boki_types.specs.declared.operation.Ask.{Ask}
use Rattle.boki_types.specs.declared.operation.Ask.TheVariants as k
use Rattle.boki_types.specs.declared.program.Function.{Function}
use Rattle.boki_types.specs.declared.turn.Turn.TheVariants as t
use Rattle.boki_types.specs.Finding.{find}
use Rattle.boki_model.specs.Live.{Live}
use Rattle.boki_model.specs.Bodies.{step_of}
use Rattle.boki_model.specs.Maps.{get}
use Rattle.boki_model.specs.Values.{same_value}
use Rattle.boki_machine.specs.Step.{function_name}
use Rattle.boki_machine.specs.Turns.{add_next_index}
use Rattle.boki_machine.specs.Ideal.{Invocation, Ideal, running_invocation, apply_turn}
use Rattle.exactly_once.proofs.Log.MapChanges.{same_itself, same_key}
use Rattle.legal_logs.specs.Same.{same_names, same_values, same_writes, is_number}
use Rattle.legal_logs.specs.Legal.{value_agrees, matches_operation, matches_ask, matches_end, asked_in, passes, turn_if, go_if, free_operations_ahead, tests_of, BegunInvocation, Audited, with_state, audit_operation, audit_finish, audit_record, or_illegal, and_record, legal_to, state_behind}
use Rattle.legal_logs.specs.Changes.{is_decided, may_agree, says_the_same, holds_instead, ChangesAreRefused}
use Rattle.legal_logs.proofs.Same.{itself, value_itself, value_equal, outcome_itself, outcome_equal, names_itself, names_equal, values_itself, values_equal, writes_itself, writes_equal, is_equal}
use Rattle.legal_logs.proofs.Tested.{mapped, bound}
use Rattle.legal_logs.proofs.Runs.{one_legal}

-- the script of the invocation asks what the record says
record Says (fs : List Function) (open_begin : Option ℕ) (body : Body) (p : List ℕ) (s : Ideal) : Type 0 where
  pub ask : Ask
  pub asked : asked_in fs p s ≡ Some ask
  pub names : matches_ask fs open_begin body ask ≡ true

-- what was asked passed its test
record Passed (test : Ask → Bool) (from : Option Ask) : Type 0 where
  pub ask : Ask
  pub asked : from ≡ Some ask
  pub passed : test ask ≡ true

passed_by : (test : Ask → Bool) (from : Option Ask) (o : Option Ideal) (s : Ideal) → cond (passes test from) o None ≡ Some s → Passed test from
passed_by test None o s e = let no_way : None ≡ Some s = e in absurd (let h : ⊥ = cc in h)
passed_by test (Some ask) o s e = at (test ask) refl e
  where
    at : (b : Bool) → test ask ≡ b → cond b o None ≡ Some s → Passed test (Some ask)
    at true is e = record { ask = ask; asked = refl; passed = is }
    at false is e = let no_way : None ≡ Some s = e in absurd (let h : ⊥ = cc in h)

module _ (fs : List Function) where
  first_says : (open_begin : Option ℕ) (body : Body) (mode : Mode) (n : ℕ) (p : List ℕ) (s s' : Ideal) → go_if fs (tests_of fs open_begin body mode) (suc n) p s ≡ Some s' → Says fs open_begin body p s
  first_says open_begin body mode zero p s s' e =
      let w = bound (turn_if fs (matches_ask fs open_begin body) p (t.Go p 1)) (apply_turn fs (t.Go p 0) s) s' e in
      let g = mapped (λ (i : Invocation). s) (running_invocation p s) w.was w.is in
      let q = passed_by (matches_ask fs open_begin body) (asked_in fs p s) (apply_turn fs (t.Go p 1) s) s' (ap (turn_if fs (matches_ask fs open_begin body) p (t.Go p 1)) g.gives ∙ w.gives) in
      record { ask = q.ask; asked = q.asked; names = q.passed }
  first_says open_begin body mode (suc n) p s s' e =
      let w = bound (turn_if fs (tests_of fs open_begin body mode (suc n)) p (t.Go p 1)) (go_if fs (tests_of fs open_begin body mode) (suc n) p s) s' e in
      first_says open_begin body mode n p s w.was w.is

  end_names : (open_begin : Option ℕ) (p : List ℕ) (i : ℕ) (outcome : Outcome) (ask : Ask) → matches_end (b.Finish p i outcome) ask ≡ true → matches_ask fs open_begin (b.Finish p i outcome) ask ≡ true
  end_names open_begin p i outcome (k.Done other) e = e
  end_names open_begin p i outcome (k.Op op) e = let no_way : false ≡ true = e in cc

  -- the begin of the transaction that an invocation has open
  abbrev open_in : Option BegunInvocation → Option ℕ
  open_in None = None
  open_in (Some it) = it.transaction

  abbrev path_in : Option (List ℕ × ℕ) → List ℕ
  path_in None = []
  path_in (Some s) = s.0

  module _ (first : Mode) (ahead : List (List ℕ × ℕ)) (seq : ℕ) (past : List (Live Body)) (a next : Audited) where
    operation_says : (body : Body) (p : List ℕ) (i : ℕ) → option_and_then (audit_operation fs ahead seq body (p, i) a) (get p a.begun) ≡ Some next → Says fs (open_in (get p a.begun)) body p a.state
    operation_says body p i e =
        let w = bound (audit_operation fs ahead seq body (p, i) a) (get p a.begun) next e in
        let m = mapped _ (option_and_then (λ n. go_if fs (tests_of fs w.was.transaction body w.was.mode) (suc n) p a.state) (free_operations_ahead (suc i) (get p ahead))) next w.gives in
        let g = bound (λ n. go_if fs (tests_of fs w.was.transaction body w.was.mode) (suc n) p a.state) (free_operations_ahead (suc i) (get p ahead)) m.was m.is in
        subst (λ o. Says fs (open_in o) body p a.state) (sym w.is) (first_says w.was.transaction body w.was.mode g.was p a.state m.was g.gives)

    end_says : (p : List ℕ) (i : ℕ) (outcome : Outcome) → audit_finish fs (b.Finish p i outcome) p a ≡ Some next → Says fs (open_in (get p a.begun)) (b.Finish p i outcome) p a.state
    end_says p i outcome e =
        let m = mapped (with_state a) (turn_if fs (matches_end (b.Finish p i outcome)) p (t.End p) a.state) next e in
        let q = passed_by (matches_end (b.Finish p i outcome)) (asked_in fs p a.state) (apply_turn fs (t.End p) a.state) m.was m.is in
        record { ask = q.ask; asked = q.asked; names = end_names (open_in (get p a.begun)) p i outcome q.ask q.passed }

    abbrev SaysIt : Body → Type 0
    SaysIt body = let p = path_in (step_of body) in Says fs (open_in (get p a.begun)) body p a.state

    says_it : (body : Body) → is_decided body ≡ true → audit_record fs first ahead seq past a body ≡ Some next → SaysIt body
    says_it (b.Read p i key) is e = operation_says (b.Read p i key) p i e
    says_it (b.Write p i place key here) is e = operation_says (b.Write p i place key here) p i e
    says_it (b.Spawn p i ordinal name args) is e = operation_says (b.Spawn p i ordinal name args) p i e
    says_it (b.Join p i ordinal) is e = operation_says (b.Join p i ordinal) p i e
    says_it (b.Push p i queue value) is e = operation_says (b.Push p i queue value) p i e
    says_it (b.Pop p i queue) is e = operation_says (b.Pop p i queue) p i e
    says_it (b.TxnBegin p i names) is e = operation_says (b.TxnBegin p i names) p i e
    says_it (b.TxnCommit p i begin names writes) is e = operation_says (b.TxnCommit p i begin names writes) p i e
    says_it (b.ReadGroup p i keys) is e = operation_says (b.ReadGroup p i keys) p i e
    says_it (b.Finish p i outcome) is e = end_says p i outcome e
    says_it (b.Submit p name args) is e = let no_way : false ≡ true = is in absurd (let h : ⊥ = cc in h)
    says_it (b.Init p) is e = let no_way : false ≡ true = is in absurd (let h : ⊥ = cc in h)
    says_it (b.SwitchBegin target) is e = let no_way : false ≡ true = is in absurd (let h : ⊥ = cc in h)
    says_it b.SwitchEnd is e = let no_way : false ≡ true = is in absurd (let h : ⊥ = cc in h)
    says_it (b.Trim w) is e = let no_way : false ≡ true = is in absurd (let h : ⊥ = cc in h)
    says_it (b.TrimTag number upto) is e = let no_way : false ≡ true = is in absurd (let h : ⊥ = cc in h)
    says_it (b.User bytes) is e = let no_way : false ≡ true = is in absurd (let h : ⊥ = cc in h)

  -- What a record is that names what is asked.

  abbrev Names : Option ℕ → Ask → Body → Type 0
  Names open_begin (k.Op (o.Read name)) body = (p : List ℕ) × (i : ℕ) × (body ≡ b.Read p i name)
  Names open_begin (k.Op (o.ReadGroup names)) body = (p : List ℕ) × (i : ℕ) × (body ≡ b.ReadGroup p i names)
  Names open_begin (k.Op (o.Write name value)) body = (p : List ℕ) × (i : ℕ) × (place : ℕ) × (here : Option Value) × (body ≡ b.Write p i place name here) × (value_agrees here value ≡ true)
  Names open_begin (k.Op (o.Spawn n f values)) body = (p : List ℕ) × (i : ℕ) × (name : List ℕ) × (body ≡ b.Spawn p i n name values) × (find name fs ≡ Some f)
  Names open_begin (k.Op (o.Join n)) body = (p : List ℕ) × (i : ℕ) × (body ≡ b.Join p i n)
  Names open_begin (k.Op (o.Push name v)) body = (p : List ℕ) × (i : ℕ) × (body ≡ b.Push p i name v)
  Names open_begin (k.Op (o.Pop name)) body = (p : List ℕ) × (i : ℕ) × (body ≡ b.Pop p i name)
  Names open_begin (k.Op (o.Begin ns)) body = (p : List ℕ) × (i : ℕ) × (body ≡ b.TxnBegin p i ns)
  Names open_begin (k.Op (o.Commit ns ws)) body = (p : List ℕ) × (i : ℕ) × (begin : ℕ) × (body ≡ b.TxnCommit p i begin ns ws) × (open_begin ≡ Some begin)
  Names open_begin (k.Done outcome) body = (p : List ℕ) × (i : ℕ) × (body ≡ b.Finish p i outcome)

  named_operation : (open_begin : Option ℕ) (body : Body) (op : Op) → matches_operation fs open_begin body op ≡ true → Names open_begin (k.Op op) body
  named_operation open_begin (b.Read p i key) (o.Read name) e = (p, i, ap (b.Read p i) (same_key key name e))
  named_operation open_begin (b.ReadGroup p i keys) (o.ReadGroup names) e = (p, i, ap (b.ReadGroup p i) (names_equal keys names e))
  named_operation open_begin (b.Write p i place key here) (o.Write name value) e =
      let parts = and_parts (bytes_eq key name) (value_agrees here value) e in (p, i, place, here, ap (λ key. b.Write p i place key here) (same_key key name parts.0), parts.1)
  named_operation open_begin (b.Spawn p i ordinal name args) (o.Spawn n f values) e =
      let parts = and_parts (eqb ordinal n && is_number (find name fs) f) (same_values args values) e in
      let numbers = and_parts (eqb ordinal n) (is_number (find name fs) f) parts.0 in
      let same = eqb-true ordinal n numbers.0 in
      let all = values_equal args values parts.1 in
      (p, i, name, (λ j. b.Spawn p i (same j) name (all j)), is_equal (find name fs) f numbers.1)
  named_operation open_begin (b.Join p i ordinal) (o.Join n) e = (p, i, ap (b.Join p i) (eqb-true ordinal n e))
  named_operation open_begin (b.Push p i queue value) (o.Push name v) e =
      let parts = and_parts (bytes_eq queue name) (same_value value v) e in
      let same = same_key queue name parts.0 in
      let one = value_equal value v parts.1 in (p, i, λ j. b.Push p i (same j) (one j))
  named_operation open_begin (b.Pop p i queue) (o.Pop name) e = (p, i, ap (b.Pop p i) (same_key queue name e))
  named_operation open_begin (b.TxnBegin p i names) (o.Begin ns) e = (p, i, ap (b.TxnBegin p i) (names_equal names ns e))
  named_operation open_begin (b.TxnCommit p i begin names writes) (o.Commit ns ws) e =
      let parts = and_parts (is_number open_begin begin && same_names names ns) (same_writes writes ws) e in
      let firsts = and_parts (is_number open_begin begin) (same_names names ns) parts.0 in
      let same = names_equal names ns firsts.1 in
      let all = writes_equal writes ws parts.1 in
      (p, i, begin, (λ j. b.TxnCommit p i begin (same j) (all j)), is_equal open_begin begin firsts.0)
  named_operation open_begin _ _ e = let no_way : false ≡ true = e in absurd (let h : ⊥ = cc in h)

  named_end : (open_begin : Option ℕ) (body : Body) (other : Outcome) → matches_end body (k.Done other) ≡ true → Names open_begin (k.Done other) body
  named_end open_begin (b.Finish p i outcome) other e = (p, i, ap (b.Finish p i) (outcome_equal outcome other e))
  named_end open_begin _ other e = let no_way : false ≡ true = e in absurd (let h : ⊥ = cc in h)

  named : (open_begin : Option ℕ) (body : Body) (ask : Ask) → matches_ask fs open_begin body ask ≡ true → Names open_begin ask body
  named open_begin body (k.Op op) e = named_operation open_begin body op e
  named open_begin body (k.Done other) e = named_end open_begin body other e

  -- a function has one name
  found_name : (gs : List Function) (name : List ℕ) (f : ℕ) → find name gs ≡ Some f → function_name f gs ≡ name
  found_name [] name f e = let no_way : None ≡ Some f = e in cc
  found_name (g ∷ gs) name f e = at (found_name gs name) (bytes_eq name g.name) refl e
    where
      at : ((f : ℕ) → find name gs ≡ Some f → function_name f gs ≡ name) → (t : Bool) → bytes_eq name g.name ≡ t → cond t (Some 0) (option_map suc (find name gs)) ≡ Some f → function_name f (g ∷ gs) ≡ name
      at rest true is e = let zero_is : 0 ≡ f = cc in ap (λ f. function_name f (g ∷ gs)) (sym zero_is) ∙ sym (same_key name g.name is)
      at rest false is e = let m = mapped suc (find name gs) f e in ap (λ f. function_name f (g ∷ gs)) (sym m.gives) ∙ rest m.was m.is

  two_values : (here there : Option Value) (value : Value) → value_agrees here value ≡ true → value_agrees there value ≡ true → may_agree here there ≡ true
  two_values None there value one two = refl
  two_values (Some v) None value one two = refl
  two_values (Some v) (Some w) value one two =
      let same : v ≡ w = value_equal v value one ∙ sym (value_equal w value two) in ap (λ w. same_value v w) (sym same) ∙ value_itself v

  -- so two records that name the same thing say the same
  same_said : (open_begin : Option ℕ) (ask : Ask) (one two : Body) → Names open_begin ask one → Names open_begin ask two → says_the_same one two ≡ true
  same_said open_begin (k.Op (o.Read name)) one two e f = (λ j. says_the_same (e.2 j) (f.2 j)) ∙ same_itself name
  same_said open_begin (k.Op (o.ReadGroup names)) one two e f = (λ j. says_the_same (e.2 j) (f.2 j)) ∙ names_itself names
  same_said open_begin (k.Op (o.Write name value)) one two e f =
      (λ j. says_the_same (e.4 j) (f.4 j)) ∙ and_from (bytes_eq name name) (may_agree e.3 f.3) (same_itself name) (two_values e.3 f.3 value e.5 f.5)
  same_said open_begin (k.Op (o.Spawn n g values)) one two e f =
      let same : e.2 ≡ f.2 = sym (found_name fs e.2 g e.4) ∙ found_name fs f.2 g f.4 in
      (λ j. says_the_same (e.3 j) (f.3 j))
      ∙ and_from (eqb n n && bytes_eq e.2 f.2) (same_values values values)
      (and_from (eqb n n) (bytes_eq e.2 f.2) (itself n) (ap (bytes_eq e.2) (sym same) ∙ same_itself e.2)) (values_itself values)
  same_said open_begin (k.Op (o.Join n)) one two e f = (λ j. says_the_same (e.2 j) (f.2 j)) ∙ itself n
  same_said open_begin (k.Op (o.Push name v)) one two e f = (λ j. says_the_same (e.2 j) (f.2 j)) ∙ and_from (bytes_eq name name) (same_value v v) (same_itself name) (value_itself v)
  same_said open_begin (k.Op (o.Pop name)) one two e f = (λ j. says_the_same (e.2 j) (f.2 j)) ∙ same_itself name
  same_said open_begin (k.Op (o.Begin ns)) one two e f = (λ j. says_the_same (e.2 j) (f.2 j)) ∙ names_itself ns
  same_said open_begin (k.Op (o.Commit ns ws)) one two e f =
      let both : Some e.2 ≡ Some f.2 = sym e.4 ∙ f.4 in
      let same : e.2 ≡ f.2 = cc in
      (λ j. says_the_same (e.3 j) (f.3 j))
      ∙ and_from (eqb e.2 f.2 && same_names ns ns) (same_writes ws ws) (and_from (eqb e.2 f.2) (same_names ns ns) (ap (eqb e.2) (sym same) ∙ itself e.2) (names_itself ns)) (writes_itself ws)
  same_said open_begin (k.Done outcome) one two e f = (λ j. says_the_same (e.2 j) (f.2 j)) ∙ outcome_itself outcome

  both_say : (open_begin : Option ℕ) (one two : Body) (p : List ℕ) (s : Ideal) → Says fs open_begin one p s → Says fs open_begin two p s → says_the_same one two ≡ true
  both_say open_begin one two p s first second =
      let asks : Some first.ask ≡ Some second.ask = sym first.asked ∙ second.asked in
      let one_ask : second.ask ≡ first.ask = cc in
      same_said open_begin first.ask one two (named open_begin one first.ask first.names) (named open_begin two first.ask (ap (matches_ask fs open_begin two) (sym one_ask) ∙ second.names))

  -- the record that says another thing
  module _ (first : Mode) (objects : List (List ℕ × Value)) (older : List (Live Body)) (x : Live Body) (body : Body) (was : is_decided x.holds ≡ true) (becomes : is_decided body ≡ true) (step : step_of body ≡ step_of x.holds) (other : says_the_same x.holds body ≡ false) where
    refused : (ahead : List (List ℕ × ℕ)) (a next : Audited) → audit_record fs first ahead x.seq older a x.holds ≡ Some next → audit_record fs first ahead x.seq older a body ≡ None
    refused ahead a next legal = at (audit_record fs first ahead x.seq older a body) refl
      where
        at : (o : Option Audited) → audit_record fs first ahead x.seq older a body ≡ o → o ≡ None
        at None e = refl
        at (Some it) e =
            let one : SaysIt first ahead x.seq older a next x.holds = says_it first ahead x.seq older a next x.holds was legal in
            let two : SaysIt first ahead x.seq older a it body = says_it first ahead x.seq older a it body becomes e in
            let p : List ℕ = path_in (step_of x.holds) in
            let same = both_say (open_in (get p a.begun)) x.holds body p a.state one (subst (λ o. Says fs (open_in (get (path_in o) a.begun)) body (path_in o) a.state) step two) in
            let no_way : true ≡ false = sym same ∙ other in cc

    all_refused : (newer : List (Live Body)) (ahead : List (List ℕ × ℕ)) (next : Audited) → legal_to fs first objects ahead (newer ++ x ∷ older) ≡ Ok next → legal_to fs first objects ahead (newer ++ holds_instead x body ∷ older) ≡ Err x.seq
    all_refused [] ahead next e =
        let one = one_legal fs first ahead x older (legal_to fs first objects (add_next_index (step_of x.holds) ahead) older) next e in
        ap (and_record fs first ahead (holds_instead x body) older) (ap (λ s. legal_to fs first objects (add_next_index s ahead) older) step ∙ one.before)
        ∙ ap (or_illegal x.seq) (refused ahead one.a next one.legal)
    all_refused (y ∷ newer) ahead next e =
        let one = one_legal fs first ahead y (newer ++ x ∷ older) (legal_to fs first objects (add_next_index (step_of y.holds) ahead) (newer ++ x ∷ older)) next e in
        ap (and_record fs first ahead y (newer ++ holds_instead x body ∷ older)) (all_refused newer (add_next_index (step_of y.holds) ahead) one.a one.before)

pub changes_are_refused : ChangesAreRefused
changes_are_refused fs first objects newer older x body state e was becomes step other = at (legal_to fs first objects [] (newer ++ x ∷ older)) refl e
  where
    at : (o : Result Audited ℕ) → legal_to fs first objects [] (newer ++ x ∷ older) ≡ o → state_behind o ≡ Ok state → state_behind (legal_to fs first objects [] (newer ++ holds_instead x body ∷ older)) ≡ Err x.seq
    at (Err seq) is e = let no_way : ◌≡◌ {A = Result Ideal ℕ} (Err seq) (Ok state) = e in cc
    at (Ok next) is e = ap state_behind (all_refused fs first objects older x body was becomes step other newer [] next is)
