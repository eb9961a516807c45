-- Turns of what is kept are those of the definitions.
use Rattle.std.proofs.Common.{◌≡◌, ℕ, zero, suc, ◌+◌, Bool, true, false, cond, is_eq, List, [], ◌∷◌, length, Option, Some, None, option_map, is_some, Bor, refl, sym, ap, ◌∙◌, subst, arith}
use Rattle.std.specs.Prelude.{bytes_eq, option_and_then}
use Rattle.std.specs.Option.{option_copied}
use Rattle.std.specs.BTreeMap.{is_at}
use Rattle.std.proofs.lemmas.Map.Text.{is_eq-slice_cmp}
use Rattle.lb_base.specs.declared.value.Value.{Value}
use Rattle.lb_base.specs.declared.value.Outcome.{Outcome}
use Rattle.boki_types.specs.declared.program.Function.{Function}
use Rattle.boki_types.specs.declared.operation.Ask.{Ask}
use Rattle.boki_types.specs.declared.operation.Ask.TheVariants as k
use Rattle.boki_types.specs.declared.turn.Turn.TheVariants as t
use Rattle.boki_model.specs.Maps.{key_order, get, put}
use Rattle.boki_model.proofs.KeyMaps.{put_in_order}
use Rattle.boki_machine.specs.Ideal as ideal
use Rattle.boki_machine.specs.Ideal.{Ideal, Invocation, new_invocation, perform_next, perform_many, running_invocation, invocation_ask, perform, end_invocation, submit_request, unless_ended}
use Rattle.script_run.specs.Frames as frame
use Rattle.ideal_run.specs.declared.kept.KnownInvocation.{KnownInvocation}
use Rattle.ideal_run.specs.declared.running.Running.{Running}
use Rattle.ideal_run.specs.Kept.{Maps}
use Rattle.ideal_run.specs.Changes.{changed_at}
use Rattle.ideal_run.specs.Standing.{FrameStands, KeepsFrame, TransactionStands, KnownStands, BothStand, MapsStandFor, known_of, with_running}
use Rattle.ideal_run.specs.Acts.{IsNewInvocation}
use Rattle.ideal_run.specs.Turned.{LeadsTo, running_in, unless_done, outcome_of, ask_in, ending_in, with_result}
use Rattle.ideal_run.proofs.Mapped.{get-put, same_key}
use Rattle.ideal_run.proofs.Steps.{put_stands, frame_asks}

-- a borrowed value is there where the value is
pub copied_some : {T : Type 0} (o : Option (Bor T)) → is_some (option_copied o) ≡ is_some o
copied_some None = refl
copied_some (Some b) = refl

-- Look-ups after a change of one value.

get_changed : {V : Type 0} (q p : List ℕ) (f : V → V) (es : List (List ℕ × V)) → get q (changed_at (is_at (key_order p)) f es) ≡ cond (bytes_eq q p) (option_map f (get q es)) (get q es)
get_changed {V} q p f [] = at (bytes_eq q p)
  where
    at : (b : Bool) → None ≡ cond b (option_map f None) None
    at true = refl
    at false = refl
get_changed {V} q p f (e ∷ es) = at (bytes_eq p e.0) (is_eq-slice_cmp p e.0) refl (get_changed q p f es)
  where
    here : (b c : Bool) → bytes_eq p e.0 ≡ true → bytes_eq q p ≡ b → is_eq (key_order q e.0) ≡ c → cond c (Some (f e.1)) (get q es) ≡ cond b (option_map f (cond c (Some e.1) (get q es))) (cond c (Some e.1) (get q es))
    here true true s g h = refl
    here false false s g h = refl
    here true false s g h =
        let both : bytes_eq q e.0 ≡ true = ap (bytes_eq q) (sym (same_key p e.0 s)) ∙ g in
        let other : bytes_eq q e.0 ≡ false = sym (is_eq-slice_cmp q e.0) ∙ h in absurd (let z : ⊥ = cc in z)
    here false true s g h =
        let both : bytes_eq q p ≡ true = ap (bytes_eq q) (same_key p e.0 s) ∙ sym (is_eq-slice_cmp q e.0) ∙ h in absurd (let z : ⊥ = cc in z)

    there : (b c : Bool) → bytes_eq p e.0 ≡ false → bytes_eq q p ≡ b → is_eq (key_order q e.0) ≡ c → get q (changed_at (is_at (key_order p)) f es) ≡ cond b (option_map f (get q es)) (get q es)
        → cond c (Some e.1) (get q (changed_at (is_at (key_order p)) f es)) ≡ cond b (option_map f (cond c (Some e.1) (get q es))) (cond c (Some e.1) (get q es))
    there b false s g h ih = ih
    there false true s g h ih = refl
    there true true s g h ih =
        let at_e : bytes_eq q e.0 ≡ true = sym (is_eq-slice_cmp q e.0) ∙ h in
        let perform_next : bytes_eq p e.0 ≡ true = ap (λ (z : List ℕ). bytes_eq z e.0) (sym (same_key q p g)) ∙ at_e in absurd (let z : ⊥ = cc in z)

    at : (a : Bool) → is_eq (key_order p e.0) ≡ bytes_eq p e.0 → bytes_eq p e.0 ≡ a → get q (changed_at (is_at (key_order p)) f es) ≡ cond (bytes_eq q p) (option_map f (get q es)) (get q es)
        → get q (cond (is_eq (key_order p e.0)) ((e.0, f e.1) ∷ es) (e ∷ changed_at (is_at (key_order p)) f es)) ≡ cond (bytes_eq q p) (option_map f (get q (e ∷ es))) (get q (e ∷ es))
    at true is s ih = ap (λ b. get q (cond b ((e.0, f e.1) ∷ es) (e ∷ changed_at (is_at (key_order p)) f es))) (is ∙ s) ∙ here (bytes_eq q p) (is_eq (key_order q e.0)) s refl refl
    at false is s ih = ap (λ b. get q (cond b ((e.0, f e.1) ∷ es) (e ∷ changed_at (is_at (key_order p)) f es))) (is ∙ s) ∙ there (bytes_eq q p) (is_eq (key_order q e.0)) s refl refl ih

-- What is kept of invocations may be told by look-ups.
pub stands_by : (fs : List Function) (m : Ideal) (x : Maps) (es : List (List ℕ × KnownInvocation)) → ((q : List ℕ) → get q es ≡ get q x.invocations) → MapsStandFor fs m x → MapsStandFor fs m (record x { invocations = es })
stands_by fs m x es same stands = record {
  objects = stands.objects;
  queues = stands.queues;
  fronts = stands.fronts;
  names = stands.names;
  numbered = stands.numbered;
  invocations = λ q. subst (λ (o : Option KnownInvocation). BothStand fs x.names x.commits (length q) o (get q m.invocations)) (sym (same q)) (stands.invocations q);
  in_order = stands.in_order;
}

-- a turn begins on an invocation as it is kept
pub runs_from : (fs : List Function) (m : Ideal) (x : Maps) (p : List ℕ) (r : Running) → get p x.invocations ≡ Some (known_of r) → MapsStandFor fs m x → MapsStandFor fs m (with_running p r x)
runs_from fs m x p r is stands = stands_by fs m x (put p (known_of r) x.invocations) same stands
  where
    same : (q : List ℕ) → get q (put p (known_of r) x.invocations) ≡ get q x.invocations
    same q = get-put q p (known_of r) x.invocations ∙ at (bytes_eq q p) refl
      where
        at : (b : Bool) → bytes_eq q p ≡ b → cond b (Some (known_of r)) (get q x.invocations) ≡ get q x.invocations
        at true e = sym (ap (λ (z : List ℕ). get z x.invocations) (same_key q p e) ∙ is)
        at false e = refl

-- and ends with the invocation put back
pub runs_to : (fs : List Function) (m : Ideal) (x : Maps) (p : List ℕ) (r : Running) → is_some (get p x.invocations) ≡ true → MapsStandFor fs m (with_running p r x)
    → MapsStandFor fs m (record x { invocations = changed_at (is_at (key_order p)) (λ _. known_of r) x.invocations })
runs_to fs m x p r there stands = stands_by fs m (with_running p r x) (changed_at (is_at (key_order p)) (λ _. known_of r) x.invocations) same stands
  where
    at : (q : List ℕ) (b : Bool) → bytes_eq q p ≡ b → (o : Option KnownInvocation) → get q x.invocations ≡ o → cond b (option_map (λ _. known_of r) o) o ≡ cond b (Some (known_of r)) o
    at q true e (Some w) g = refl
    at q true e None g =
        let none : is_some (get p x.invocations) ≡ false = ap (λ (z : List ℕ). is_some (get z x.invocations)) (sym (same_key q p e)) ∙ ap is_some g in absurd (let z : ⊥ = cc in z)
    at q false e o g = refl

    same : (q : List ℕ) → get q (changed_at (is_at (key_order p)) (λ _. known_of r) x.invocations) ≡ get q (put p (known_of r) x.invocations)
    same q = get_changed q p (λ _. known_of r) x.invocations ∙ at q (bytes_eq q p) refl (get q x.invocations) refl ∙ sym (get-put q p (known_of r) x.invocations)

-- What runs.

module _ (fs : List Function) (m : Ideal) (x : Maps) (p : List ℕ) (stands : MapsStandFor fs m x) where
  abbrev Agree : Option KnownInvocation → Option Invocation → Type 0
  Agree None None = Unit {0}
  Agree (Some w) (Some i) = KnownStands fs x.names x.commits (length p) w i × (w.result ≡ None)
  Agree _ _ = ⊥

  unless_agree : (w : KnownInvocation) (i : Invocation) (a b : Option Outcome) → w.result ≡ a → a ≡ b → KnownStands fs x.names x.commits (length p) w i → Agree (unless_done w a) (unless_ended i b)
  unless_agree w i None None is e both = (both, is)
  unless_agree w i None (Some b) is e both = absurd (let z : ⊥ = cc in z)
  unless_agree w i (Some a) None is e both = absurd (let z : ⊥ = cc in z)
  unless_agree w i (Some a) (Some b) is e both = tt

  pub agree : Agree (running_in (get p x.invocations)) (running_invocation p m)
  agree = at (get p x.invocations) (get p m.invocations) (stands.invocations p)
    where
      at : (a : Option KnownInvocation) (b : Option Invocation) → BothStand fs x.names x.commits (length p) a b → Agree (running_in a) (option_and_then (λ i. unless_ended i i.result) b)
      at None None both = tt
      at None (Some i) both = absurd both
      at (Some w) None both = absurd both
      at (Some w) (Some i) both = unless_agree w i w.result i.result refl both.result both

  -- nothing runs
  pub idle : running_in (get p x.invocations) ≡ None → running_invocation p m ≡ None
  idle none = at (running_in (get p x.invocations)) (running_invocation p m) agree none
    where
      at : (a : Option KnownInvocation) (b : Option Invocation) → Agree a b → a ≡ None → b ≡ None
      at None None both e = refl
      at None (Some i) both e = absurd both
      at (Some w) b both e = absurd (let z : ⊥ = cc in z)

  frame_kept : (w : KnownInvocation) (i : Invocation) → w.result ≡ None → KnownStands fs x.names x.commits (length p) w i → FrameStands fs (length p) i w.frame
  frame_kept w i runs both = subst (λ (r : Option Outcome). KeepsFrame fs (length p) i r w.frame) runs both.frame

  asks_is : (i : Invocation) (f : Option frame.FrameState) → FrameStands fs (length p) i f → option_and_then (λ g. Some g.ask) f ≡ invocation_ask fs p i
  asks_is i None stand = sym stand
  asks_is i (Some f) stand = sym (frame_asks fs i.function i.args (length p) i.answers f stand)

  -- what is asked
  pub asks_same : ask_in (get p x.invocations) ≡ option_and_then (invocation_ask fs p) (running_invocation p m)
  asks_same = at (running_in (get p x.invocations)) (running_invocation p m) agree
    where
      at : (a : Option KnownInvocation) (b : Option Invocation) → Agree a b → option_and_then (λ w. option_and_then (λ g. Some g.ask) w.frame) a ≡ option_and_then (invocation_ask fs p) b
      at None None both = refl
      at None (Some i) both = absurd both
      at (Some w) None both = absurd both
      at (Some w) (Some i) both = asks_is i w.frame (frame_kept w i both.1 both.0)

  -- An end.

  end_none : (o : Option Invocation) → option_and_then outcome_of (option_and_then (invocation_ask fs p) o) ≡ None → option_and_then (λ i. end_invocation p i m (invocation_ask fs p i)) o ≡ None
  end_none None e = refl
  end_none (Some i) e = at (invocation_ask fs p i) e
    where
      at : (a : Option Ask) → option_and_then outcome_of a ≡ None → end_invocation p i m a ≡ None
      at None e = refl
      at (Some (k.Op op)) e = refl
      at (Some (k.Done outcome)) e = absurd (let z : ⊥ = cc in z)

  pub ends_not : ending_in (get p x.invocations) ≡ None → ideal.apply_turn fs (t.End p) m ≡ None
  ends_not none = end_none (running_invocation p m) (ap (option_and_then outcome_of) (sym asks_same) ∙ none)

  done_asked : (outcome : Outcome) (a : Option Ask) → option_and_then outcome_of a ≡ Some outcome → a ≡ Some (k.Done outcome)
  done_asked outcome None e = absurd (let z : ⊥ = cc in z)
  done_asked outcome (Some (k.Op op)) e = absurd (let z : ⊥ = cc in z)
  done_asked outcome (Some (k.Done o)) e = ap (λ (z : Outcome). Some (k.Done z)) (let same : o ≡ outcome = cc in same)

  -- the invocation that ends, and what is kept of it
  abbrev EndsAt : Outcome → Option KnownInvocation → Option Invocation → Type 0
  EndsAt outcome a b =
      (i : Invocation) × ((w : KnownInvocation) × (a ≡ Some w) × KnownStands fs x.names x.commits (length p) w i)
      × ((b ≡ b) × (b ≡ Some i) × (i.result ≡ None) × (invocation_ask fs p i ≡ Some (k.Done outcome)))

  ends_at : (outcome : Outcome) (a : Option KnownInvocation) (b : Option Invocation) → BothStand fs x.names x.commits (length p) a b → ending_in a ≡ Some outcome → EndsAt outcome a b
  ends_at outcome None b both e = absurd (let z : ⊥ = cc in z)
  ends_at outcome (Some w) None both e = absurd both
  ends_at outcome (Some w) (Some i) both e = at w.result refl
    where
      at : (r : Option Outcome) → w.result ≡ r → EndsAt outcome (Some w) (Some i)
      at (Some z) g =
          let none : ending_in (Some w) ≡ None = ap (λ (r : Option Outcome). option_and_then outcome_of (option_and_then (λ v. option_and_then (λ f. Some f.ask) v.frame) (unless_done w r))) g in
          absurd (let z : ⊥ = cc in z)
      at None g =
          let here : ending_in (Some w) ≡ option_and_then outcome_of (option_and_then (λ f. Some f.ask) w.frame) =
          ap (λ (r : Option Outcome). option_and_then outcome_of (option_and_then (λ v. option_and_then (λ f. Some f.ask) v.frame) (unless_done w r))) g in
          (i, (w, refl, both), (refl, refl, sym both.result ∙ g, done_asked outcome (invocation_ask fs p i) (ap (option_and_then outcome_of) (sym (asks_is i w.frame (frame_kept w i g both))) ∙ sym here ∙ e)))

  beside_end : (outcome : Outcome) (w : KnownInvocation) (i : Invocation) → get p x.invocations ≡ Some w → KnownStands fs x.names x.commits (length p) w i → (q : List ℕ) (b : Bool) → bytes_eq q p ≡ b
      → BothStand fs x.names x.commits (length q) (cond b (option_map (with_result outcome) (get q x.invocations)) (get q x.invocations)) (cond b (Some (record i { result = Some outcome })) (get q m.invocations))
  beside_end outcome w i is both q false e = stands.invocations q
  beside_end outcome w i is both q true e =
      let same = same_key q p e in
      subst (λ (o : Option KnownInvocation). BothStand fs x.names x.commits (length q) (option_map (with_result outcome) o) (Some (record i { result = Some outcome })))
      (sym (ap (λ (z : List ℕ). get z x.invocations) same ∙ is))
      (subst (λ n. KnownStands fs x.names x.commits n (with_result outcome w) (record i { result = Some outcome })) (ap length (sym same))
      (record { frame = refl; result = refl; transaction = both.transaction }))

  pub ends : (outcome : Outcome) → ending_in (get p x.invocations) ≡ Some outcome → (es : List (List ℕ × KnownInvocation)) → es ≡ changed_at (is_at (key_order p)) (with_result outcome) x.invocations
      → LeadsTo fs (ideal.apply_turn fs (t.End p) m) (record x { invocations = es })
  ends outcome is es e =
      let it = ends_at outcome (get p x.invocations) (get p m.invocations) (stands.invocations p) is in
      let i : Invocation = it.0 in
      let w : KnownInvocation = it.1.0 in
      let n : Invocation = record i { result = Some outcome } in
      record {
        state = ideal.with_invocation p n m;
        is =
            ap (option_and_then (λ j. end_invocation p j m (invocation_ask fs p j))) (ap (option_and_then (λ j. unless_ended j j.result)) it.2.1 ∙ ap (unless_ended i) it.2.2)
            ∙ ap (end_invocation p i m) it.2.3;
        stands = record {
          objects = stands.objects;
          queues = stands.queues;
          fronts = stands.fronts;
          names = stands.names;
          numbered = stands.numbered;
          invocations = λ q.
              subst (λ (o : Option KnownInvocation). BothStand fs x.names x.commits (length q) o (get q (put p n m.invocations)))
              (sym (ap (get q) e ∙ get_changed q p (with_result outcome) x.invocations))
              (subst (λ (o : Option Invocation). BothStand fs x.names x.commits (length q) (cond (bytes_eq q p) (option_map (with_result outcome) (get q x.invocations)) (get q x.invocations)) o)
              (sym (get-put q p n m.invocations)) (beside_end outcome w i it.1.1 it.1.2 q (bytes_eq q p) refl));
          in_order = put_in_order p n m.invocations stands.in_order;
        };
      }

-- Operations in turn.

pub go_none : (fs : List Function) (p : List ℕ) (m : Ideal) (n d : ℕ) → perform_many fs n p m ≡ None → perform_many fs (n + d) p m ≡ None
go_none fs p m n zero none = ap (λ k. perform_many fs k p m) (let e : n + 0 ≡ n = omega arith in e) ∙ none
go_none fs p m n (suc d) none = ap (λ k. perform_many fs k p m) (let e : n + suc d ≡ suc (n + d) = omega arith in e) ∙ ap (option_and_then (perform_next fs p)) (go_none fs p m n d none)

-- nothing is done where nothing runs
pub go_idle : (fs : List Function) (p : List ℕ) (m : Ideal) (n : ℕ) → running_invocation p m ≡ None → perform_many fs n p m ≡ None
go_idle fs p m zero none = ap (λ (o : Option Invocation). option_map (λ i. m) o) none
go_idle fs p m (suc n) none = ap (option_and_then (perform_next fs p)) (go_idle fs p m n none)

-- A request.

module _ (fs : List Function) (m : Ideal) (x : Maps) (request f : ℕ) (args : List Value) (stands : MapsStandFor fs m x) where
  abbrev at_request : List ℕ
  at_request = request ∷ []

  none_beside : (a : Option KnownInvocation) (b : Option Invocation) → BothStand fs x.names x.commits 1 a b → is_some a ≡ false → b ≡ None
  none_beside None None both e = refl
  none_beside None (Some i) both e = absurd both
  none_beside (Some w) b both e = absurd (let z : ⊥ = cc in z)

  some_beside : (a : Option KnownInvocation) (b : Option Invocation) → BothStand fs x.names x.commits 1 a b → is_some a ≡ true → submit_request request f args m b ≡ None
  some_beside None b both e = absurd (let z : ⊥ = cc in z)
  some_beside (Some w) None both e = absurd both
  some_beside (Some w) (Some i) both e = refl

  pub submits_not : is_some (get at_request x.invocations) ≡ true → ideal.apply_turn fs (t.Submit request f args) m ≡ None
  submits_not there = some_beside (get at_request x.invocations) (get at_request m.invocations) (stands.invocations at_request) there

  pub submits : is_some (get at_request x.invocations) ≡ false → (known : KnownInvocation) → IsNewInvocation fs f args 1 known → LeadsTo fs (ideal.apply_turn fs (t.Submit request f args) m) (record x { invocations = put at_request known x.invocations })
  submits new known starts = record {
    state = record m { invocations = put at_request (new_invocation f args) m.invocations };
    is = ap (submit_request request f args m) (none_beside (get at_request x.invocations) (get at_request m.invocations) (stands.invocations at_request) new);
    stands = record {
      objects = stands.objects;
      queues = stands.queues;
      fronts = stands.fronts;
      names = stands.names;
      numbered = stands.numbered;
      invocations = put_stands fs x.names x.commits at_request known (new_invocation f args) x.invocations m.invocations (λ q _. stands.invocations q) (record {
        frame = subst (λ (r : Option Outcome). KeepsFrame fs 1 (new_invocation f args) r known.frame) (sym starts.result) starts.frame;
        result = starts.result;
        transaction = subst (λ (o : Option ℕ). TransactionStands x.names x.commits o None) (sym starts.begun) tt;
      });
      in_order = put_in_order at_request (new_invocation f args) m.invocations stands.in_order;
    };
  }

-- the end of a turn of operations
pub ran : (fs : List Function) (to : Option Ideal) (y : Maps) (p : List ℕ) (r : Running) (es : List (List ℕ × KnownInvocation)) → is_some (get p y.invocations) ≡ true → es ≡ changed_at (is_at (key_order p)) (λ _. known_of r) y.invocations
    → LeadsTo fs to (with_running p r y) → LeadsTo fs to (record y { invocations = es })
ran fs to y p r es there is leads = record {
  state = leads.state;
  is = leads.is;
  stands = subst (λ (e : List (List ℕ × KnownInvocation)). MapsStandFor fs leads.state (record y { invocations = e })) (sym is) (runs_to fs leads.state y p r there leads.stands);
}

-- an invocation without a frame has no operation
module _ (fs : List Function) (m : Ideal) (x : Maps) (p : List ℕ) (stands : MapsStandFor fs m x) where
  pub frameless : (w : KnownInvocation) → running_in (get p x.invocations) ≡ Some w → w.frame ≡ None → (d : ℕ) → perform_many fs (1 + d) p m ≡ None
  frameless w is none d = go_none fs p m 1 d (first (running_invocation p m) refl (at (running_in (get p x.invocations)) (running_invocation p m) (agree fs m x p stands) is))
    where
      at : (a : Option KnownInvocation) (b : Option Invocation) → Agree fs m x p stands a b → a ≡ Some w → option_and_then (λ i. perform p i m (invocation_ask fs p i)) b ≡ None
      at None b both e = absurd (let z : ⊥ = cc in z)
      at (Some v) None both e = absurd both
      at (Some v) (Some i) both e =
          let same : v ≡ w = cc in
          let no_frame : v.frame ≡ None = ap (λ (z : KnownInvocation). z.frame) same ∙ none in
          ap (perform p i m) (sym (asks_is fs m x p stands i v.frame (frame_kept fs m x p stands v i both.1 both.0)) ∙ ap (option_and_then (λ (g : frame.FrameState). Some g.ask)) no_frame)

      first : (b : Option Invocation) → running_invocation p m ≡ b → option_and_then (λ i. perform p i m (invocation_ask fs p i)) (running_invocation p m) ≡ None → perform_many fs 1 p m ≡ None
      first None e gone = ap (λ (o : Option Invocation). option_and_then (perform_next fs p) (option_map (λ i. m) o)) e
      first (Some i) e gone = ap (λ (o : Option Invocation). option_and_then (perform_next fs p) (option_map (λ i. m) o)) e ∙ gone
