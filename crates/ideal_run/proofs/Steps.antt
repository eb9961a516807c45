-- An operation of what is kept is that of the definitions.
use Rattle.std.proofs.Common.{◌≡◌, ℕ, suc, Bool, true, false, cond, List, [], ◌∷◌, ◌++◌, length, map, Option, Some, None, option_map, unwrap_or, is_some, refl, sym, ap, ◌∙◌, subst, arith, length-append}
use Rattle.std.specs.Prelude.{bytes_eq, option_and_then}
use Rattle.lb_base.specs.Path.{child_path}
use Rattle.lb_base.specs.declared.value.Value.{Value}
use Rattle.lb_base.specs.declared.value.Value.TheVariants.{Nothing}
use Rattle.lb_base.specs.declared.value.Outcome.{Outcome}
use Rattle.boki_types.specs.declared.program.Stmt.{Stmt}
use Rattle.boki_types.specs.declared.program.Function.{Function}
use Rattle.boki_types.specs.declared.operation.Op.{Op}
use Rattle.boki_types.specs.declared.operation.Op.TheVariants as o
use Rattle.boki_types.specs.declared.operation.Ask.{Ask}
use Rattle.boki_types.specs.declared.operation.Ask.TheVariants as k
use Rattle.boki_types.specs.declared.operation.Answer.{Answer}
use Rattle.boki_types.specs.declared.operation.Answer.TheVariants as a
use Rattle.boki_model.specs.Bodies.{child}
use Rattle.boki_model.specs.Maps.{get, put}
use Rattle.boki_model.specs.MapLaws.{InOrder}
use Rattle.boki_model.specs.Folds.{written_names, values_of_names, put_all, push_queue, pop_queue}
use Rattle.boki_model.specs.Script.{State, next_ask, ask_of}
use Rattle.boki_model.proofs.KeyMaps.{put_in_order}
use Rattle.boki_machine.specs.Ideal as ideal
use Rattle.boki_machine.specs.Ideal.{Ideal, Invocation, Dirty, answers, after_commit, add_dirty, add_dirty_to_all, new_invocation, join_child, perform_next, perform, invocation_ask, object_in, objects_in, invocation_result, running_invocation, commit_succeeds, unless_ended}
use Rattle.script_run.specs.Frames as frame
use Rattle.script_run.specs.Standing.{stop_point_at}
use Rattle.ideal_run.specs.declared.kept.KnownInvocation.{KnownInvocation}
use Rattle.ideal_run.specs.declared.kept.Stored.{Stored}
use Rattle.ideal_run.specs.declared.running.Running.{Running}
use Rattle.ideal_run.specs.Kept.{Maps, unpopped_values, may_commit, committed, with_writes, commit_of, name_in}
use Rattle.ideal_run.specs.Kept as kept
use Rattle.ideal_run.specs.Standing.{KeepsFrame, TransactionStands, KnownStands, BothStand, MapsStandFor, known_of, with_running}
use Rattle.ideal_run.specs.Acts.{Performs, CannotPerform, joined_in}
use Rattle.ideal_run.proofs.Asking.{asked_right, child_is, child_of_is}
use Rattle.ideal_run.proofs.Mapped.{get-put, get_same, get_other, same_itself, same_key, each_get, each_in_order}
use Rattle.ideal_run.proofs.Lines.{push_is, push_fronts, pop_is, pop_fronts, pop_answer, names_are, writes_are, numbered_more, transaction_more, clean, succeeds_is}

-- what a frame stands at is asked
ask_is : (lines : List Stmt) (x : Ask) (at : ℕ) (t : State) → ask_of (stop_point_at lines x at t) ≡ x
ask_is lines (k.Op op) at t = refl
ask_is lines (k.Done outcome) at t = refl

pub frame_asks : (fs : List Function) (f : ℕ) (args : List Value) (depth : ℕ) (xs : List Answer) (w : frame.FrameState) → frame.FrameStandsFor fs f args depth xs w → next_ask fs f args depth xs ≡ Some w.ask
frame_asks fs f args depth xs w stands = ap (option_map ask_of) stands.stands ∙ ap Some (ask_is _ w.ask w.at _)

-- a child is another than its parent
pub other_child : (path : List ℕ) (ordinal : ℕ) → bytes_eq (child path ordinal) path ≡ false
other_child path ordinal = at (bytes_eq (child path ordinal) path) refl
  where
    at : (b : Bool) → bytes_eq (child path ordinal) path ≡ b → b ≡ false
    at false e = refl
    at true e =
        let same : length (path ++ ordinal ∷ []) ≡ length path = ap length (same_key (child path ordinal) path e) in
        let more = length-append path (ordinal ∷ []) in absurd (let z : ⊥ = omega (arith, same, more) in z)

module _ (fs : List Function) (names : List (List ℕ × Stored)) (commits : ℕ) where
  abbrev pub AllStand : List (List ℕ × KnownInvocation) → List (List ℕ × Invocation) → Type 0
  AllStand es is = (q : List ℕ) → BothStand fs names commits (length q) (get q es) (get q is)

  -- one more invocation, or one anew
  pub put_stands : (p : List ℕ) (w : KnownInvocation) (i : Invocation) (es : List (List ℕ × KnownInvocation)) (is : List (List ℕ × Invocation)) → ((q : List ℕ) → bytes_eq q p ≡ false → BothStand fs names commits (length q) (get q es) (get q is))
      → KnownStands fs names commits (length p) w i → AllStand (put p w es) (put p i is)
  put_stands p w i es is others own q =
      subst (λ (x : Option KnownInvocation). BothStand fs names commits (length q) x (get q (put p i is))) (sym (get-put q p w es))
      (subst (λ (x : Option Invocation). BothStand fs names commits (length q) (cond (bytes_eq q p) (Some w) (get q es)) x) (sym (get-put q p i is)) (at (bytes_eq q p) refl))
    where
      at : (b : Bool) → bytes_eq q p ≡ b → BothStand fs names commits (length q) (cond b (Some w) (get q es)) (cond b (Some i) (get q is))
      at true e = subst (λ n. KnownStands fs names commits n w i) (ap length (sym (same_key q p e))) own
      at false e = others q e

  -- those beside an invocation that is put anew
  pub others_stand : (p : List ℕ) (w : KnownInvocation) (es : List (List ℕ × KnownInvocation)) (is : List (List ℕ × Invocation)) → AllStand (put p w es) is → (q : List ℕ) → bytes_eq q p ≡ false → BothStand fs names commits (length q) (get q es) (get q is)
  others_stand p w es is all q e = subst (λ (x : Option KnownInvocation). BothStand fs names commits (length q) x (get q is)) (get_other q p w es e) (all q)

  -- the invocation beside what is known
  pub beside : (depth : ℕ) (w : KnownInvocation) (o : Option Invocation) → BothStand fs names commits depth (Some w) o → (i : Invocation) × (o ≡ Some i) × KnownStands fs names commits depth w i
  beside depth w None stands = absurd stands
  beside depth w (Some i) stands = (i, refl, stands)

  both_result : (depth : ℕ) (x : Option KnownInvocation) (y : Option Invocation) → BothStand fs names commits depth x y → option_and_then (λ w. w.result) x ≡ option_and_then (λ i. i.result) y
  both_result depth None None stands = refl
  both_result depth None (Some i) stands = absurd stands
  both_result depth (Some w) None stands = absurd stands
  both_result depth (Some w) (Some i) stands = stands.result

-- behind a commit that succeeds
committed_both : (fs : List Function) (commits : ℕ) (ws : List (List ℕ × Value)) (names : List (List ℕ × Stored)) (depth : ℕ) (x : Option KnownInvocation) (y : Option Invocation) → BothStand fs names commits depth x y
    → BothStand fs (with_writes (suc commits) ws names) (suc commits) depth x (option_map (λ i. let j : Invocation = record i { transaction = add_dirty (written_names ws) i.transaction } in j) y)
committed_both fs commits ws names depth None None stands = tt
committed_both fs commits ws names depth None (Some i) stands = absurd stands
committed_both fs commits ws names depth (Some w) None stands = absurd stands
committed_both fs commits ws names depth (Some w) (Some i) stands = record { frame = at w.result w.frame stands.frame; result = stands.result; transaction = transaction_more commits ws names w.begun i.transaction stands.transaction }
  where
    at : (r : Option Outcome) (f : Option frame.FrameState) → KeepsFrame fs depth i r f → KeepsFrame fs depth (record i { transaction = add_dirty (written_names ws) i.transaction }) r f
    at None None is = is
    at None (Some f) is = is
    at (Some outcome) f is = is

module _ (fs : List Function) (p : List ℕ) (r : Running) (x : Maps) (m : Ideal) (stands : MapsStandFor fs m (with_running p r x)) where
  -- the invocation that is run
  pub own : (i : Invocation) × (get p m.invocations ≡ Some i) × KnownStands fs x.names x.commits (length p) (known_of r) i
  own = beside fs x.names x.commits (length p) (known_of r) (get p m.invocations)
      (subst (λ (o : Option KnownInvocation). BothStand fs x.names x.commits (length p) o (get p m.invocations)) (get_same p (known_of r) x.invocations) (stands.invocations p))

  abbrev i : Invocation
  i = own.0

  pub runs : running_invocation p m ≡ Some i
  runs = ap (option_and_then (λ j. unless_ended j j.result)) own.1 ∙ ap (unless_ended i) (sym own.2.result)

  pub asks : invocation_ask fs p i ≡ Some r.frame.ask
  asks = frame_asks fs i.function i.args (length p) i.answers r.frame own.2.frame

  pub one_is : perform_next fs p m ≡ perform p i m (Some r.frame.ask)
  one_is = ap (option_and_then (λ j. perform p j m (invocation_ask fs p j))) runs ∙ ap (perform p i m) asks

  others : (q : List ℕ) → bytes_eq q p ≡ false → BothStand fs x.names x.commits (length q) (get q x.invocations) (get q m.invocations)
  others = others_stand fs x.names x.commits p (known_of r) x.invocations m.invocations stands.invocations

  module _ (f : frame.FrameState) (c : Option ℕ) where
    abbrev next : Running
    next = record { frame = f; begun = c }

    -- the run invocation behind an answer
    behind : (answer : Answer) (t : Option Dirty) (names : List (List ℕ × Stored)) (commits : ℕ) → frame.FrameStandsFor fs i.function i.args (length p) (answer ∷ i.answers) f → TransactionStands names commits c t
        → KnownStands fs names commits (length p) (known_of next) (record i { answers = answer ∷ i.answers; transaction = t })
    behind answer t names commits new opened = record { frame = new; result = own.2.result; transaction = opened }

    -- where only the invocation and other maps than the store names change
    abbrev After : Answer → Op → Maps → Type 0
    After answer op y = (n : Ideal) × (perform p i m (Some (k.Op op)) ≡ Some n) × MapsStandFor fs n (with_running p next y)

    kept_open : (b : Option ℕ) → c ≡ b → TransactionStands x.names x.commits b i.transaction → TransactionStands x.names x.commits c i.transaction
    kept_open b e opened = subst (λ (o : Option ℕ). TransactionStands x.names x.commits o i.transaction) (sym e) opened

    all_behind : (answer : Answer) (t : Option Dirty) → frame.FrameStandsFor fs i.function i.args (length p) (answer ∷ i.answers) f → TransactionStands x.names x.commits c t
        → AllStand fs x.names x.commits (put p (known_of next) x.invocations) (put p (record i { answers = answer ∷ i.answers; transaction = t }) m.invocations)
    all_behind answer t new opened = put_stands fs x.names x.commits p (known_of next) _ x.invocations m.invocations others (behind answer t x.names x.commits new opened)

    order_behind : (j : Invocation) → InOrder (put p j m.invocations)
    order_behind j = put_in_order p j m.invocations stands.in_order

    -- nothing else changes
    still : (answer : Answer) (t : Option Dirty) → frame.FrameStandsFor fs i.function i.args (length p) (answer ∷ i.answers) f → TransactionStands x.names x.commits c t
        → MapsStandFor fs (record m { invocations = put p (record i { answers = answer ∷ i.answers; transaction = t }) m.invocations }) (with_running p next x)
    still answer t new opened = record {
      objects = stands.objects;
      queues = stands.queues;
      fronts = stands.fronts;
      names = stands.names;
      numbered = stands.numbered;
      invocations = all_behind answer t new opened;
      in_order = order_behind _;
    }

    reading_acts : (key : List ℕ) → kept.object_in x.objects key ≡ object_in m key
    reading_acts key = ap (λ (os : List (List ℕ × Value)). unwrap_or (get key os) Nothing) stands.objects

    all_read : (keys : List (List ℕ)) → map (kept.object_in x.objects) keys ≡ objects_in m keys
    all_read [] = refl
    all_read (key ∷ keys) = λ j. reading_acts key j ∷ all_read keys j

    joined_is : (ordinal : ℕ) (outcome : Outcome) → joined_in p ordinal x.invocations ≡ Some outcome → invocation_result (child p ordinal) m ≡ Some outcome
    joined_is ordinal outcome is = at (child_path p ordinal) refl is
      where
        at : (o : Option (List ℕ)) → child_path p ordinal ≡ o → option_and_then (λ c. option_and_then (λ w. w.result) (get c x.invocations)) o ≡ Some outcome → invocation_result (child p ordinal) m ≡ Some outcome
        at None e is = absurd (let z : ⊥ = cc in z)
        at (Some q) e is =
            let same = child_of_is p q ordinal e in
            sym (both_result fs x.names x.commits (length (child p ordinal)) (get (child p ordinal) x.invocations) (get (child p ordinal) m.invocations) (others (child p ordinal) (other_child p ordinal)))
            ∙ ap (λ (c : List ℕ). option_and_then (λ w. w.result) (get c x.invocations)) (sym same) ∙ is

    commits_behind : (good : Bool) (read : List (List ℕ)) (ws : List (List ℕ × Value)) (answer : Answer) (y : Maps) → commit_succeeds read ws i.transaction ≡ good → answer ≡ a.Committed good → c ≡ None → y ≡ committed good ws x
        → frame.FrameStandsFor fs i.function i.args (length p) (answer ∷ i.answers) f → After answer (o.Commit read ws) y
    commits_behind false read ws answer y is e h g new = (
      answers p (record i { transaction = None }) answer m,
      ap (λ b. Some (after_commit b p i ws m)) is ∙ ap (λ (z : Answer). Some (answers p (record i { transaction = None }) z m)) (sym e),
      subst (λ (z : Maps). MapsStandFor fs (answers p (record i { transaction = None }) answer m) (with_running p next z)) (sym g)
          (still answer None new (subst (λ (o : Option ℕ). TransactionStands x.names x.commits o None) (sym h) tt)),
    )
    commits_behind true read ws answer y is e h g new =
        let after : Ideal = record m { names = put_all ws m.names; invocations = add_dirty_to_all (written_names ws) m.invocations } in
        let n : Ideal = answers p (record i { transaction = None }) answer after in
        let z : Maps = committed true ws x in (
          n,
          ap (λ b. Some (after_commit b p i ws m)) is ∙ ap (λ (v : Answer). Some (answers p (record i { transaction = None }) v after)) (sym e),
          subst (λ (z : Maps). MapsStandFor fs n (with_running p next z)) (sym g) (record {
            objects = stands.objects;
            queues = stands.queues;
            fronts = stands.fronts;
            names = writes_are (suc x.commits) ws x.names ∙ ap (put_all ws) stands.names;
            numbered = numbered_more x.commits ws x.names stands.numbered;
            invocations =
                put_stands fs z.names z.commits p (known_of next) _ x.invocations (add_dirty_to_all (written_names ws) m.invocations)
                (λ q apart. subst (λ (o : Option Invocation). BothStand fs z.names z.commits (length q) (get q x.invocations) o) (sym (each_get _ q m.invocations)) (committed_both fs x.commits ws x.names (length q) (get q x.invocations) (get q m.invocations) (others q apart)))
                (behind answer None z.names z.commits new (subst (λ (o : Option ℕ). TransactionStands z.names z.commits o None) (sym h) tt));
            in_order = put_in_order p _ (add_dirty_to_all (written_names ws) m.invocations) (each_in_order _ m.invocations stands.in_order);
          }),
        )

    -- an operation that is done
    pub acted : (op : Op) (answer : Answer) (y : Maps) → Performs fs p op r.begun x answer c y → frame.FrameStandsFor fs i.function i.args (length p) (answer ∷ i.answers) f → After answer op y
    acted (o.Read key) answer y acts new = (
      answers p i answer m,
      ap (λ (z : Answer). Some (answers p i z m)) (ap (λ (v : Value). a.Value v) (sym (reading_acts key)) ∙ sym acts.0),
      subst (λ (z : Maps). MapsStandFor fs (answers p i answer m) (with_running p next z)) (sym acts.2) (still answer i.transaction new (kept_open r.begun acts.1 own.2.transaction)),
    )
    acted (o.ReadGroup keys) answer y acts new = (
      answers p i answer m,
      ap (λ (z : Answer). Some (answers p i z m)) (ap (λ (vs : List Value). a.Values vs) (sym (all_read keys)) ∙ sym acts.0),
      subst (λ (z : Maps). MapsStandFor fs (answers p i answer m) (with_running p next z)) (sym acts.2) (still answer i.transaction new (kept_open r.begun acts.1 own.2.transaction)),
    )
    acted (o.Write key v) answer y acts new =
        let n : Ideal = answers p i answer (record m { objects = put key v m.objects }) in (
          n,
          ap (λ (z : Answer). Some (answers p i z (record m { objects = put key v m.objects }))) (sym acts.0),
          subst (λ (z : Maps). MapsStandFor fs n (with_running p next z)) (sym acts.2) (record {
            objects = ap (put key v) stands.objects;
            queues = stands.queues;
            fronts = stands.fronts;
            names = stands.names;
            numbered = stands.numbered;
            invocations = all_behind answer i.transaction new (kept_open r.begun acts.1 own.2.transaction);
            in_order = order_behind _;
          }),
        )
    acted (o.Push queue v) answer y acts new =
        let n : Ideal = answers p i answer (record m { queues = push_queue queue v m.queues }) in (
          n,
          ap (λ (z : Answer). Some (answers p i z (record m { queues = push_queue queue v m.queues }))) (sym acts.0),
          subst (λ (z : Maps). MapsStandFor fs n (with_running p next z)) (sym acts.2) (record {
            objects = stands.objects;
            queues = push_is queue x.queues m.queues stands.queues stands.fronts v;
            fronts = push_fronts queue x.queues m.queues stands.queues stands.fronts v;
            names = stands.names;
            numbered = stands.numbered;
            invocations = all_behind answer i.transaction new (kept_open r.begun acts.1 own.2.transaction);
            in_order = order_behind _;
          }),
        )
    acted (o.Pop queue) answer y acts new =
        let n : Ideal = answers p i answer (record m { queues = pop_queue queue m.queues }) in (
          n,
          ap (λ (z : Answer). Some (answers p i z (record m { queues = pop_queue queue m.queues })))
              (ap (λ (v : Value). a.Value v) (sym (pop_answer queue x.queues m.queues stands.queues stands.fronts)) ∙ sym acts.0),
          subst (λ (z : Maps). MapsStandFor fs n (with_running p next z)) (sym acts.2) (record {
            objects = stands.objects;
            queues = pop_is queue x.queues m.queues stands.queues stands.fronts;
            fronts = pop_fronts queue x.queues m.queues stands.queues stands.fronts;
            names = stands.names;
            numbered = stands.numbered;
            invocations = all_behind answer i.transaction new (kept_open r.begun acts.1 own.2.transaction);
            in_order = order_behind _;
          }),
        )
    acted (o.Begin names) answer y acts new =
        let begun : Invocation = record i { transaction = Some [] } in (
          answers p begun answer m,
          ap (λ (z : Answer). Some (answers p begun z m))
              (ap (λ (vs : List Value). a.Values vs) (sym (names_are x.names names ∙ ap (values_of_names names) stands.names)) ∙ sym acts.0),
          subst (λ (z : Maps). MapsStandFor fs (answers p begun answer m) (with_running p next z)) (sym acts.2)
              (still answer (Some []) new (subst (λ (o : Option ℕ). TransactionStands x.names x.commits o (Some [])) (sym acts.1) (clean x.commits x.names stands.numbered))),
        )
    acted (o.Commit read ws) answer y acts new =
        let same = succeeds_is read ws x.names x.commits r.begun i.transaction own.2.transaction in
        commits_behind (may_commit r.begun read ws x.names) read ws answer y (sym same) acts.0 acts.1 acts.2 new
    acted (o.Spawn ordinal g args) answer y acts new =
        let spawns = acts.2 in
        let q : List ℕ = child p ordinal in
        let n : Ideal = ideal.with_invocation q (new_invocation g args) (answers p i answer m) in
        let z : Maps = record x { invocations = put q spawns.known x.invocations } in
        let fresh : KnownStands fs x.names x.commits (length q) spawns.known (new_invocation g args) = record {
          frame = subst (λ (r : Option Outcome). KeepsFrame fs (length q) (new_invocation g args) r spawns.known.frame) (sym spawns.starts.result) spawns.starts.frame;
          result = spawns.starts.result;
          transaction = subst (λ (o : Option ℕ). TransactionStands x.names x.commits o None) (sym spawns.starts.begun) tt;
        } in (
          n,
          ap (λ (v : Answer). Some (ideal.with_invocation q (new_invocation g args) (answers p i v m))) (sym acts.0),
          subst (λ (z : Maps). MapsStandFor fs n (with_running p next z)) (sym spawns.now) (record {
            objects = stands.objects;
            queues = stands.queues;
            fronts = stands.fronts;
            names = stands.names;
            numbered = stands.numbered;
            invocations = λ s. spawned_stands q (λ e. let b : bytes_eq q p ≡ false = other_child p ordinal in let t : bytes_eq q p ≡ true = ap (λ (z : List ℕ). bytes_eq z p) e ∙ same_itself p in let z : ⊥ = cc in z) spawns.known (new_invocation g args) (known_of next) _ s fresh (behind answer i.transaction x.names x.commits new (kept_open r.begun acts.1 own.2.transaction));
            in_order = put_in_order q (new_invocation g args) _ (order_behind _);
          }),
        )
      where
        spawned_stands : (q : List ℕ) → (q ≡ p → ⊥) → (known : KnownInvocation) (j : Invocation) (w : KnownInvocation) (k : Invocation) (s : List ℕ) → KnownStands fs x.names x.commits (length q) known j → KnownStands fs x.names x.commits (length p) w k
            → BothStand fs x.names x.commits (length s) (get s (put p w (put q known x.invocations))) (get s (put q j (put p k m.invocations)))
        spawned_stands q apart known j w k s fresh own =
            subst (λ (o : Option KnownInvocation). BothStand fs x.names x.commits (length s) o (get s (put q j (put p k m.invocations)))) (sym (get-put s p w (put q known x.invocations) ∙ ap (cond (bytes_eq s p) (Some w)) (get-put s q known x.invocations)))
            (subst (λ (o : Option Invocation). BothStand fs x.names x.commits (length s) (cond (bytes_eq s p) (Some w) (cond (bytes_eq s q) (Some known) (get s x.invocations))) o)
            (sym (get-put s q j (put p k m.invocations) ∙ ap (cond (bytes_eq s q) (Some j)) (get-put s p k m.invocations))) (at (bytes_eq s p) refl (bytes_eq s q) refl))
          where
            at : (b : Bool) → bytes_eq s p ≡ b → (c : Bool) → bytes_eq s q ≡ c
                → BothStand fs x.names x.commits (length s) (cond b (Some w) (cond c (Some known) (get s x.invocations))) (cond c (Some j) (cond b (Some k) (get s m.invocations)))
            at true e true g = absurd (apart (sym (same_key s q g) ∙ same_key s p e))
            at true e false g = subst (λ n. KnownStands fs x.names x.commits n w k) (ap length (sym (same_key s p e))) own
            at false e true g = subst (λ n. KnownStands fs x.names x.commits n known j) (ap length (sym (same_key s q g))) fresh
            at false e false g = others s e
    acted (o.Join ordinal) answer y acts new =
        let outcome : Outcome = acts.0.0 in (
          answers p i answer m,
          ap (λ (z : Option Outcome). join_child p i z m) (joined_is ordinal outcome acts.0.2) ∙ ap (λ (z : Answer). Some (answers p i z m)) (sym acts.0.1),
          subst (λ (z : Maps). MapsStandFor fs (answers p i answer m) (with_running p next z)) (sym acts.2) (still answer i.transaction new (kept_open r.begun acts.1 own.2.transaction)),
        )

  -- an operation that can't be done
  pub refused : (op : Op) → r.frame.ask ≡ k.Op op → CannotPerform p op x → perform p i m (Some (k.Op op)) ≡ None
  refused (o.Spawn ordinal g args) is refuses =
      let right = asked_right fs (length p) i.function i.args i.answers (o.Spawn ordinal g args) (asks ∙ ap Some is) in
      let some = child_is p ordinal refuses.0 right in
      let none = refuses.1 in absurd (let z : ⊥ = cc in z)
  refused (o.Join ordinal) is refuses =
      let right = asked_right fs (length p) i.function i.args i.answers (o.Join ordinal) (asks ∙ ap Some is) in
      let some = child_is p ordinal refuses.0 right in
      ap (λ (z : Option Outcome). join_child p i z m)
      (sym (both_result fs x.names x.commits (length (child p ordinal)) (get (child p ordinal) x.invocations) (get (child p ordinal) m.invocations) (others (child p ordinal) (other_child p ordinal)))
      ∙ ap (option_and_then (λ (q : List ℕ). option_and_then (λ w. w.result) (get q x.invocations))) (sym some) ∙ refuses.1)
  refused (o.Read key) is refuses = absurd refuses
  refused (o.ReadGroup keys) is refuses = absurd refuses
  refused (o.Write key v) is refuses = absurd refuses
  refused (o.Push queue v) is refuses = absurd refuses
  refused (o.Pop queue) is refuses = absurd refuses
  refused (o.Begin names) is refuses = absurd refuses
  refused (o.Commit names ws) is refuses = absurd refuses

-- the invocation that runs stays known
pub still_known : (fs : List Function) (p : List ℕ) (op : Op) (b c : Option ℕ) (x y : Maps) (answer : Answer) → Performs fs p op b x answer c y → is_some (get p x.invocations) ≡ true → is_some (get p y.invocations) ≡ true
still_known fs p (o.Read key) b c x y answer acts is = ap (λ (z : Maps). is_some (get p z.invocations)) acts.2 ∙ is
still_known fs p (o.ReadGroup keys) b c x y answer acts is = ap (λ (z : Maps). is_some (get p z.invocations)) acts.2 ∙ is
still_known fs p (o.Write key v) b c x y answer acts is = ap (λ (z : Maps). is_some (get p z.invocations)) acts.2 ∙ is
still_known fs p (o.Push queue v) b c x y answer acts is = ap (λ (z : Maps). is_some (get p z.invocations)) acts.2 ∙ is
still_known fs p (o.Pop queue) b c x y answer acts is = ap (λ (z : Maps). is_some (get p z.invocations)) acts.2 ∙ is
still_known fs p (o.Begin names) b c x y answer acts is = ap (λ (z : Maps). is_some (get p z.invocations)) acts.2 ∙ is
still_known fs p (o.Commit names ws) b c x y answer acts is = ap (λ (z : Maps). is_some (get p z.invocations)) acts.2 ∙ at (may_commit b names ws x.names)
  where
    at : (good : Bool) → is_some (get p (committed good ws x).invocations) ≡ true
    at true = is
    at false = is
still_known fs p (o.Spawn ordinal f args) b c x y answer acts is =
    ap (λ (z : Maps). is_some (get p z.invocations)) acts.2.now ∙ ap is_some (get-put p (child p ordinal) acts.2.known x.invocations) ∙ at (bytes_eq p (child p ordinal))
  where
    at : (e : Bool) → is_some (cond e (Some acts.2.known) (get p x.invocations)) ≡ true
    at true = refl
    at false = is
still_known fs p (o.Join ordinal) b c x y answer acts is = ap (λ (z : Maps). is_some (get p z.invocations)) acts.2 ∙ is
