-- The failure-free execution of a sound log's turns.
use Rattle.std.proofs.Common.{◌≡◌, ⊎_elim, ℕ, suc, ◌<◌, ◌≤◌, true, false, eqb, List, [], ◌∷◌, ◌++◌, length, Option, Some, None, refl, sym, ap, ◌∙◌, subst, arith}
use Rattle.std.specs.Prelude.{bytes_eq, option_and_then, IsTrue}
use Rattle.std.specs.List.{AllByRecursion}
use Rattle.std.proofs.lemmas.Bool.{eqb-true, or_cases}
use Rattle.lb_base.specs.declared.value.Tag.{Tag}
use Rattle.boki_types.specs.declared.body.Body.{Body}
use Rattle.boki_types.specs.declared.body.Body.TheVariants as b
use Rattle.boki_types.specs.declared.turn.Turn.{Turn}
use Rattle.boki_types.specs.declared.plan.Setup.{Setup}
use Rattle.boki_types.specs.declared.program.Function.{Function}
use Rattle.boki_model.specs.Live.{Live, live, is_live}
use Rattle.boki_model.specs.Bodies.{step_of}
use Rattle.boki_model.specs.Maps.{get}
use Rattle.boki_model.specs.Writes.{Store, Version, versions_at}
use Rattle.boki_machine.specs.Decided.{InvocationState}
use Rattle.boki_machine.specs.Turns.{turn_of, turns_to, add_next_index}
use Rattle.boki_machine.specs.Ideal.{Invocation, Ideal, apply_turn, run_turns, initial_ideal}
use Rattle.boki_model.proofs.KeyMaps.{get-put_same}
use Rattle.exactly_once.specs.Induction.SoundLogs.{Reaches, free_operations_to, StandAt, AllMayFollow}
use Rattle.exactly_once.specs.FurtherLaws.Words.{versions_with_cursor, AreConsecutive}
use Rattle.exactly_once.specs.Induction.SoundLogsRun.{SoundRuns}
use Rattle.exactly_once.proofs.Log.LiveRecords.{Under, live_under}
use Rattle.exactly_once.proofs.Log.MapChanges.{get_other, get-put_objects}
use Rattle.exactly_once.proofs.Log.ListElements.{each_weaker}
use Rattle.exactly_once.proofs.LastWrites.WritePositions.{last_first}
use Rattle.exactly_once.proofs.LastWrites.ObjectStages.{stage_rise}
use Rattle.exactly_once.proofs.Invocations.NextRecord.{stands, Does, does, apart, began, operates, ends, cursor_within}
use Rattle.exactly_once.proofs.Invocations.FreeAnswers.{more_older}
use Rattle.exactly_once.proofs.Simulation.FreeOperations.{stand_numbered}
use Rattle.exactly_once.proofs.Simulation.ExpectedState.{Agrees, Next, Valid}
use Rattle.exactly_once.proofs.Simulation.TurnsByKind.{expected_result, read_turn, read_all_turn, write_turn, spawn_turn, join_turn, push_turn, pop_turn}
use Rattle.exactly_once.proofs.Simulation.TransactionTurns.{begin_turn, commit_turn}
use Rattle.exactly_once.proofs.Simulation.OtherTurns.{Turned, quiet, submit_turn, init_turn, end_turn}

module _ (setup : Setup) (fs : List Function) (store : Store) where
  -- Each turn.

  turn_body :
      (seq : ℕ) (tags : List Tag) (body : Body) (xs : List (Live Body)) (m : ℕ) (is_seq : seq ≡ suc m) (under : Under m xs) (ahead : List (List ℕ × ℕ)) (s : Ideal)
      → AllMayFollow setup fs store (record { seq = seq; tags = tags; holds = body } ∷ xs) → Valid setup fs store ahead (record { seq = seq; tags = tags; holds = body } ∷ xs)
      → Agrees setup fs store (add_next_index (step_of body) ahead) seq xs s → Turned setup fs store ahead (record { seq = seq; tags = tags; holds = body }) xs s
  turn_body seq tags (b.Submit p f args) xs m is_seq under ahead s fit valid agrees = submit_turn setup fs store seq tags xs m is_seq under ahead s p f args fit agrees
  turn_body seq tags (b.Init p) xs m is_seq under ahead s fit valid agrees = init_turn setup fs store seq tags xs m is_seq under ahead s p fit agrees valid
  turn_body seq tags (b.Finish p i outcome) xs m is_seq under ahead s fit valid agrees = end_turn setup fs store seq tags xs m is_seq under ahead s p i outcome fit agrees valid
  turn_body seq tags (b.Read p i key) xs m is_seq under ahead s fit valid agrees =
      let w = read_turn setup fs store seq tags xs m is_seq under ahead s p i agrees key fit valid in record { state = w.state; defined = ap (option_and_then (run_turns fs [])) w.defined; agrees = w.agrees }
  turn_body seq tags (b.ReadGroup p i keys) xs m is_seq under ahead s fit valid agrees =
      let w = read_all_turn setup fs store seq tags xs m is_seq under ahead s p i agrees keys fit valid in record { state = w.state; defined = ap (option_and_then (run_turns fs [])) w.defined; agrees = w.agrees }
  turn_body seq tags (b.Write p i place key here) xs m is_seq under ahead s fit valid agrees =
      let w = write_turn setup fs store seq tags xs m is_seq under ahead s p i agrees place key here fit valid in record { state = w.state; defined = ap (option_and_then (run_turns fs [])) w.defined; agrees = w.agrees }
  turn_body seq tags (b.Spawn p i ordinal f args) xs m is_seq under ahead s fit valid agrees =
      let w = spawn_turn setup fs store seq tags xs m is_seq under ahead s p i agrees ordinal f args fit valid in record { state = w.state; defined = ap (option_and_then (run_turns fs [])) w.defined; agrees = w.agrees }
  turn_body seq tags (b.Join p i ordinal) xs m is_seq under ahead s fit valid agrees =
      let w = join_turn setup fs store seq tags xs m is_seq under ahead s p i agrees ordinal fit valid in record { state = w.state; defined = ap (option_and_then (run_turns fs [])) w.defined; agrees = w.agrees }
  turn_body seq tags (b.Push p i queue value) xs m is_seq under ahead s fit valid agrees =
      let w = push_turn setup fs store seq tags xs m is_seq under ahead s p i agrees queue value fit valid in record { state = w.state; defined = ap (option_and_then (run_turns fs [])) w.defined; agrees = w.agrees }
  turn_body seq tags (b.Pop p i queue) xs m is_seq under ahead s fit valid agrees =
      let w = pop_turn setup fs store seq tags xs m is_seq under ahead s p i agrees queue fit valid in record { state = w.state; defined = ap (option_and_then (run_turns fs [])) w.defined; agrees = w.agrees }
  turn_body seq tags (b.TxnBegin p i names) xs m is_seq under ahead s fit valid agrees =
      let w = begin_turn setup fs store seq tags xs m is_seq under ahead s p i agrees names fit valid in record { state = w.state; defined = ap (option_and_then (run_turns fs [])) w.defined; agrees = w.agrees }
  turn_body seq tags (b.TxnCommit p i begin names writes) xs m is_seq under ahead s fit valid agrees =
      let w = commit_turn setup fs store seq tags xs m is_seq under ahead s p i agrees begin names writes fit valid in record { state = w.state; defined = ap (option_and_then (run_turns fs [])) w.defined; agrees = w.agrees }
  turn_body seq tags (b.SwitchBegin target) xs m is_seq under ahead s fit valid agrees =
      record { state = s; defined = refl; agrees = quiet setup fs store (record { seq = seq; tags = tags; holds = b.SwitchBegin target }) xs m is_seq under fit.1 ahead s fit.2 refl (λ key. refl) (λ q. refl) refl refl agrees }
  turn_body seq tags b.SwitchEnd xs m is_seq under ahead s fit valid agrees =
      record { state = s; defined = refl; agrees = quiet setup fs store (record { seq = seq; tags = tags; holds = b.SwitchEnd }) xs m is_seq under fit.1 ahead s fit.2 refl (λ key. refl) (λ q. refl) refl refl agrees }
  turn_body seq tags (b.Trim w) xs m is_seq under ahead s fit valid agrees =
      record { state = s; defined = refl; agrees = quiet setup fs store (record { seq = seq; tags = tags; holds = b.Trim w }) xs m is_seq under fit.1 ahead s fit.2 refl (λ key. refl) (λ q. refl) refl refl agrees }
  turn_body seq tags (b.TrimTag number upto) xs m is_seq under ahead s fit valid agrees =
      record { state = s; defined = refl; agrees = quiet setup fs store (record { seq = seq; tags = tags; holds = b.TrimTag number upto }) xs m is_seq under fit.1 ahead s fit.2 refl (λ key. refl) (λ q. refl) refl refl agrees }
  turn_body seq tags (b.User bytes) xs m is_seq under ahead s fit valid agrees =
      record { state = s; defined = refl; agrees = quiet setup fs store (record { seq = seq; tags = tags; holds = b.User bytes }) xs m is_seq under fit.1 ahead s fit.2 refl (λ key. refl) (λ q. refl) refl refl agrees }

  -- What lay ahead of the record before.

  reaches_before : (x : Live Body) (xs : List (Live Body)) (q : List ℕ) (st : InvocationState) (index : ℕ) → st.cursor < x.seq → Reaches fs store (x ∷ xs) q st index → Reaches fs store xs q st index
  reaches_before x xs q st index lt reaches = record {
    begun = reaches.begun;
    unended = reaches.unended;
    decided = ap (λ l. suc (length l)) (sym (more_older store x xs fs q st (free_operations_to index st) lt)) ∙ reaches.decided;
    all_versions = reaches.all_versions;
  }

  next_before : (x : Live Body) (xs : List (Live Body)) (q : List ℕ) (st : InvocationState) (a : Option ℕ) → st.cursor < x.seq → Next setup fs store a (x ∷ xs) q st → Next setup fs store a xs q st
  next_before x xs q st None lt next = tt
  next_before x xs q st (Some index) lt next = (λ begun. reaches_before x xs q st index lt (next.0 begun), next.1)

  -- in the map of what lies ahead
  ahead_apart : (q : List ℕ) (ahead : List (List ℕ × ℕ)) (o : Option (List ℕ × ℕ)) → ((s : List ℕ × ℕ) → o ≡ Some s → bytes_eq q s.0 ≡ false) → get q (add_next_index o ahead) ≡ get q ahead
  ahead_apart q ahead None other = refl
  ahead_apart q ahead (Some s) other = get_other q s.0 s.1 ahead (other s refl)

  ahead_own : (q : List ℕ) (i : ℕ) (ahead : List (List ℕ × ℕ)) (o : Option (List ℕ × ℕ)) → o ≡ Some (q, i) → get q (add_next_index o ahead) ≡ Some i
  ahead_own q i ahead o is = ap (λ o. get q (add_next_index o ahead)) is ∙ get-put_same q i ahead

  valid_before : (x : Live Body) (xs : List (Live Body)) (m : ℕ) → x.seq ≡ suc m → Under m xs → AllMayFollow setup fs store (x ∷ xs) → (ahead : List (List ℕ × ℕ)) → Valid setup fs store ahead (x ∷ xs) → Valid setup fs store (add_next_index (step_of x.holds) ahead) xs
  valid_before x xs m is_seq under fit ahead valid q = at (stands setup fs store q (x ∷ xs)) (valid q) (does setup fs store x xs q fit.0)
    where
      st : InvocationState
      st = stands setup fs store q xs

      older : (stands setup fs store q xs).cursor < x.seq
      older = let h = cursor_within setup fs store m xs q under fit.2 in omega (arith, h, is_seq)

      own : (i : ℕ) → step_of x.holds ≡ Some (q, i) → Next setup fs store (Some i) xs q (stands setup fs store q xs) → Next setup fs store (get q (add_next_index (step_of x.holds) ahead)) xs q (stands setup fs store q xs)
      own i step next = subst (λ a. Next setup fs store a xs q (stands setup fs store q xs)) (sym (ahead_own q i ahead (step_of x.holds) step)) next

      running : (i : ℕ) → Reaches fs store xs q (stands setup fs store q xs) i → Next setup fs store (Some i) xs q (stands setup fs store q xs)
      running i reaches = (λ begun. reaches, λ new. let begun = reaches.begun in let no_way : true ≡ false = sym begun ∙ new in cc)

      at : (next : InvocationState) → Next setup fs store (get q ahead) (x ∷ xs) q next → Does setup fs store x.seq x.holds xs q next → Next setup fs store (get q (add_next_index (step_of x.holds) ahead)) xs q (stands setup fs store q xs)
      at next will (apart other finish is) =
          subst (λ a. Next setup fs store a xs q (stands setup fs store q xs)) (sym (ahead_apart q ahead (step_of x.holds) other))
          (next_before x xs q (stands setup fs store q xs) (get q ahead) older (subst (Next setup fs store (get q ahead) (x ∷ xs) q) is will))
      at next will (began body may is) =
          own 1 (ap step_of body) (λ begun. absurd (let new = may.new in let no_way : true ≡ false = sym begun ∙ new in let h : ⊥ = cc in h), λ new. refl)
      at next will (operates i step finish reaches is) = own i step (running i reaches)
      at next will (ends i outcome body asks is) = own i (ap step_of body) (running i asks.reaches)

  -- All turns.

  pub ideal-append : (ts us : List Turn) (s : Ideal) → run_turns fs (ts ++ us) s ≡ option_and_then (run_turns fs us) (run_turns fs ts s)
  ideal-append [] us s = refl
  ideal-append (t ∷ ts) us s = at (λ s'. ideal-append ts us s') (apply_turn fs t s)
    where
      at : ((s' : Ideal) → run_turns fs (ts ++ us) s' ≡ option_and_then (run_turns fs us) (run_turns fs ts s')) → (o : Option Ideal) → option_and_then (run_turns fs (ts ++ us)) o ≡ option_and_then (run_turns fs us) (option_and_then (run_turns fs ts) o)
      at each None = refl
      at each (Some s') = each s'

  pub live_within : (n : ℕ) (xs : List (Live Body)) (c : ℕ) → Under n xs → is_live c xs ≡ true → c ≤ n
  live_within n [] c under is = cc
  live_within n (x ∷ xs) c under is = ⊎_elim (λ here. omega (arith, eqb-true c x.seq here, under.1, under.2)) (λ there. omega (arith, live_within under.0 xs c under.3 there, under.2)) (or_cases (eqb c x.seq) (is_live c xs) is)

  -- versions below the bound stand at live records
  abbrev Placed : ℕ → List (Live Body) → Type 0
  Placed n xs = AllByRecursion (λ v. v.cursor < suc n → is_live v.cursor xs ≡ true) store.versions

  placed_before : (n : ℕ) (x : Live Body) (xs : List (Live Body)) → (under : Under n (x ∷ xs)) → Placed n (x ∷ xs) → Placed under.0 xs
  placed_before n x xs under placed =
      each_weaker (λ (v : Version). v.cursor < suc n → is_live v.cursor (x ∷ xs) ≡ true) (λ (v : Version). v.cursor < suc under.0 → is_live v.cursor xs ≡ true)
      (λ v h lt. ⊎_elim (λ here. absurd (let e = eqb-true v.cursor x.seq here in let no_way : ⊥ = omega (arith, e, lt, under.1) in no_way)) (λ there. there) (or_cases (eqb v.cursor x.seq) (is_live v.cursor xs) (h (omega (arith, lt, under.2))))) store.versions placed

  placed_within : (n : ℕ) (x : Live Body) (xs : List (Live Body)) → (under : Under n (x ∷ xs)) → Placed n (x ∷ xs) → AllByRecursion (λ v. v.cursor < suc n → v.cursor ≤ x.seq) store.versions
  placed_within n x xs under placed =
      each_weaker (λ (v : Version). v.cursor < suc n → is_live v.cursor (x ∷ xs) ≡ true) (λ (v : Version). v.cursor < suc n → v.cursor ≤ x.seq)
      (λ v h lt. ⊎_elim (λ here. omega (arith, eqb-true v.cursor x.seq here)) (λ there. omega (arith, live_within under.0 xs v.cursor under.3 there, under.1)) (or_cases (eqb v.cursor x.seq) (is_live v.cursor xs) (h lt))) store.versions placed

  stand_all : (records : List (Live Body)) (o : Option (List ℕ × ℕ)) (vs : List Version) → StandAt setup fs store records o vs → AreConsecutive vs
  stand_all records None vs stand = subst AreConsecutive (sym stand) tt
  stand_all records (Some s) vs stand = stand_numbered fs store records s.0 (stands setup fs store s.0 records) (stands setup fs store s.0 records).result (stands setup fs store s.0 records).mode vs stand

  -- the execution of the turns comes to the state that belongs to the records
  pub record RunsTo (ahead : List (List ℕ × ℕ)) (n : ℕ) (xs : List (Live Body)) : Type 0 where
    pub state : Ideal
    pub defined : run_turns fs (turns_to fs ahead store.versions xs) (initial_ideal store.initial) ≡ Some state
    pub agrees : Agrees setup fs store ahead (suc n) xs state

  one_turn : (n : ℕ) (x : Live Body) (xs : List (Live Body)) (under : Under n (x ∷ xs)) (ahead : List (List ℕ × ℕ)) → AllMayFollow setup fs store (x ∷ xs) → Placed n (x ∷ xs) → Valid setup fs store ahead (x ∷ xs) → RunsTo (add_next_index (step_of x.holds) ahead) under.0 xs → RunsTo ahead n (x ∷ xs)
  one_turn n x xs under ahead fit placed valid before =
      let t = turn_body x.seq x.tags x.holds xs under.0 under.1 under.3 ahead before.state fit valid (subst (λ c. Agrees setup fs store (add_next_index (step_of x.holds) ahead) c xs before.state) (sym under.1) before.agrees) in
      record {
        state = t.state;
        defined =
            ideal-append (turns_to fs (add_next_index (step_of x.holds) ahead) store.versions xs) (turn_of fs ahead (versions_at x.seq store.versions) x.holds) (initial_ideal store.initial)
            ∙ ap (option_and_then (run_turns fs (turn_of fs ahead (versions_at x.seq store.versions) x.holds))) before.defined ∙ t.defined;
        agrees = record {
          objects = λ key. t.agrees.objects key ∙ stage_rise store x xs under.0 under.1 under.3 (stand_all (x ∷ xs) (step_of x.holds) (versions_with_cursor x.seq store.versions) fit.1) key (suc n) (omega (arith, under.1, under.2)) (placed_within n x xs under placed);
          queues_are = t.agrees.queues_are;
          names_are = t.agrees.names_are;
          invocations = t.agrees.invocations;
        };
      }

  pub runs_to : (n : ℕ) (xs : List (Live Body)) (ahead : List (List ℕ × ℕ)) → Under n xs → AllMayFollow setup fs store xs → Placed n xs → Valid setup fs store ahead xs → RunsTo ahead n xs
  runs_to n [] ahead under fit placed valid = record {
    state = initial_ideal store.initial;
    defined = refl;
    agrees = record {
      objects = λ key. get-put_objects key store.initial ∙ sym (last_first store key (suc n) (omega arith)
          (each_weaker (λ (v : Version). v.cursor < suc n → is_live {A = Body} v.cursor [] ≡ true) (λ (v : Version). v.cursor < suc n → ⊥) (λ v h lt. let no_way : false ≡ true = h lt in cc) store.versions placed));
      queues_are = refl;
      names_are = refl;
      invocations = λ q. refl;
    };
  }
  runs_to n (x ∷ xs) ahead under fit placed valid =
      one_turn n x xs under ahead fit placed valid
      (runs_to under.0 xs (add_next_index (step_of x.holds) ahead) under.3 fit.2 (placed_before n x xs under placed) (valid_before x xs under.0 under.1 under.3 fit ahead valid))

pub sound_runs : SoundRuns
sound_runs setup fs store log sound =
    let r = runs_to setup fs store (length log) (live log) [] (live_under log) sound.fit
    (each_weaker (λ (v : Version). IsTrue (is_live v.cursor (live log))) (λ (v : Version). v.cursor < suc (length log) → is_live v.cursor (live log) ≡ true) (λ v h lt. h) store.versions sound.placed) (λ q. tt) in
    record {
      state = r.state;
      defined = r.defined;
      objects = r.agrees.objects;
      results = λ q. ap (option_and_then (λ (i : Invocation). i.result)) (r.agrees.invocations q) ∙ expected_result setup fs store (get q []) (live log) q sound.fit;
      queues_are = r.agrees.queues_are;
      names = r.agrees.names_are;
    }
