-- The failure-free execution of an invocation's next operations.
use Rattle.std.proofs.Common.{◌≡◌, ◌⊎◌, inl, inr, ⊎_elim, ℕ, suc, false, List, [], ◌∷◌, map, Option, Some, None, option_map, refl, sym, ap, ◌∙◌, subst}
use Rattle.std.specs.Prelude.{option_and_then, unwrap_or, bytes_eq}
use Rattle.lb_base.specs.declared.value.Value.{Value}
use Rattle.lb_base.specs.declared.value.Value.TheVariants.{Nothing}
use Rattle.boki_types.specs.declared.body.Body.{Body}
use Rattle.boki_types.specs.declared.operation.Op.TheVariants as o
use Rattle.boki_types.specs.declared.operation.Ask.TheVariants as asks
use Rattle.boki_types.specs.declared.operation.Answer.{Answer}
use Rattle.boki_types.specs.declared.operation.Answer.TheVariants as a
use Rattle.boki_types.specs.declared.program.Function.{Function}
use Rattle.boki_model.specs.Live.{Live}
use Rattle.boki_model.specs.Maps.{get, put}
use Rattle.boki_model.specs.Writes.{Store, last_value_below}
use Rattle.boki_model.proofs.KeyMaps.{get-put_same}
use Rattle.boki_machine.specs.Decided.{value_or_none, values_below}
use Rattle.boki_machine.specs.Ideal.{Invocation, Ideal, running_invocation, unless_ended, perform_next, perform_many, invocation_ask}
use Rattle.boki_machine.specs.Ideal as ideal
use Rattle.exactly_once.proofs.Log.MapChanges.{get_other, keys_cases}

-- The objects are the last writes below a position.
abbrev pub AreLast : Store → List (Live Body) → ℕ → ℕ → List (List ℕ × Value) → Type 0
AreLast store records c k objects = (key : List ℕ) → get key objects ≡ last_value_below key c k store records

pub objects_below : (store : Store) (records : List (Live Body)) (c : ℕ) (objects : List (List ℕ × Value)) (keys : List (List ℕ)) → AreLast store records c 0 objects → map (λ key. unwrap_or (get key objects) Nothing) keys ≡ values_below c 0 store records keys
objects_below store records c objects [] are = refl
objects_below store records c objects (key ∷ keys) are = λ i. unwrap_or (are key i) Nothing ∷ objects_below store records c objects keys are i

abbrev pub OthersAre : List ℕ → (List ℕ → Option Invocation) → List (List ℕ × Invocation) → Type 0
OthersAre p others m = (q : List ℕ) → bytes_eq q p ≡ false → get q m ≡ others q

pub others_put : (p : List ℕ) (others : List ℕ → Option Invocation) (i : Invocation) (m : List (List ℕ × Invocation)) → OthersAre p others m → OthersAre p others (put p i m)
others_put p others i m are q e = get_other q p i m e ∙ are q e

pub by_key : (p : List ℕ) (all : List ℕ → Option Invocation) (m : List (List ℕ × Invocation)) → get p m ≡ all p → OthersAre p all m → (q : List ℕ) → get q m ≡ all q
by_key p all m own others q = at (keys_cases q p)
  where
    at : (q ≡ p) ⊎ (bytes_eq q p ≡ false) → get q m ≡ all q
    at (inl same) = subst (λ q. get q m ≡ all q) (sym same) own
    at (inr e) = others q e

module _ (fs : List Function) (store : Store) (records : List (Live Body)) (p : List ℕ) (others : List ℕ → Option Invocation) (queues : List (List ℕ × List Value)) (names : List (List ℕ × Value)) where
  -- a state where the invocation stands so, and the objects are the last writes below (c, k)
  pub record IsState (i : Invocation) (c k : ℕ) (s : Ideal) : Type 0 where
    pub here : get p s.invocations ≡ Some i
    pub others_are : OthersAre p others s.invocations
    pub objects : AreLast store records c k s.objects
    pub queues_are : s.queues ≡ queues
    pub names_are : s.names ≡ names

  -- the state after n operations
  pub record Gone (s0 : Ideal) (n : ℕ) (i : Invocation) (c k : ℕ) : Type 0 where
    pub state : Ideal
    pub defined : perform_many fs n p s0 ≡ Some state
    pub is : IsState i c k state

  runs : (i : Invocation) (s : Ideal) → i.result ≡ None → get p s.invocations ≡ Some i → running_invocation p s ≡ Some i
  runs i s unended here = ap (option_and_then (λ i. unless_ended i i.result)) here ∙ ap (unless_ended i) unended

  pub go_start : (s : Ideal) (i : Invocation) (c k : ℕ) → i.result ≡ None → IsState i c k s → Gone s 0 i c k
  go_start s i c k unended is = record { state = s; defined = ap (option_map (λ i. s)) (runs i s unended is.here); is = is }

  pub go_one : (s : Ideal) (i : Invocation) → i.result ≡ None → get p s.invocations ≡ Some i → perform_many fs 1 p s ≡ ideal.perform p i s (invocation_ask fs p i)
  go_one s i unended here =
      ap (λ o. option_and_then (perform_next fs p) (option_map (λ i. s) o)) (runs i s unended here)
      ∙ ap (option_and_then (λ i. ideal.perform p i s (invocation_ask fs p i))) (runs i s unended here)

  -- the next operation
  pub go_more : (s0 : Ideal) (n : ℕ) (i : Invocation) (c k : ℕ) (so_far : Gone s0 n i c k) → i.result ≡ None → perform_many fs (suc n) p s0 ≡ ideal.perform p i so_far.state (invocation_ask fs p i)
  go_more s0 n i c k so_far unended =
      ap (option_and_then (perform_next fs p)) so_far.defined
      ∙ ap (option_and_then (λ i. ideal.perform p i so_far.state (invocation_ask fs p i))) (runs i so_far.state unended so_far.is.here)

  -- at the same position in other words
  pub moved_to : (s0 : Ideal) (n : ℕ) (i : Invocation) (c k d l : ℕ) → ((key : List ℕ) → last_value_below key c k store records ≡ last_value_below key d l store records) → Gone s0 n i c k → Gone s0 n i d l
  moved_to s0 n i c k d l same so_far = record {
    state = so_far.state;
    defined = so_far.defined;
    is = record {
      here = so_far.is.here;
      others_are = so_far.is.others_are;
      objects = λ key. so_far.is.objects key ∙ same key;
      queues_are = so_far.is.queues_are;
      names_are = so_far.is.names_are;
    };
  }

  abbrev pub answering : Invocation → Answer → Invocation
  answering i answer = record i { answers = answer ∷ i.answers }

  -- an operation that changes no map
  pub go_answer : (s0 : Ideal) (n : ℕ) (i : Invocation) (c k : ℕ) (answer : Answer) (so_far : Gone s0 n i c k) → i.result ≡ None → ideal.perform p i so_far.state (invocation_ask fs p i) ≡ Some (ideal.answers p i answer so_far.state) → Gone s0 (suc n) (answering i answer) c k
  go_answer s0 n i c k answer so_far unended does = record {
    state = ideal.answers p i answer so_far.state;
    defined = go_more s0 n i c k so_far unended ∙ does;
    is = record {
      here = get-put_same p (answering i answer) so_far.state.invocations;
      others_are = others_put p others (answering i answer) so_far.state.invocations so_far.is.others_are;
      objects = so_far.is.objects;
      queues_are = so_far.is.queues_are;
      names_are = so_far.is.names_are;
    };
  }

  pub reads : (s : Ideal) (i : Invocation) (c k : ℕ) (key : List ℕ) → AreLast store records c k s.objects → invocation_ask fs p i ≡ Some (asks.Op (o.Read key)) → ideal.perform p i s (invocation_ask fs p i) ≡ Some (ideal.answers p i (a.Value (value_or_none (last_value_below key c k store records))) s)
  reads s i c k key are asked = ap (ideal.perform p i s) asked ∙ ap (λ v. Some (ideal.answers p i (a.Value (unwrap_or v Nothing)) s)) (are key)

  pub reads_all : (s : Ideal) (i : Invocation) (c : ℕ) (keys : List (List ℕ)) → AreLast store records c 0 s.objects → invocation_ask fs p i ≡ Some (asks.Op (o.ReadGroup keys)) → ideal.perform p i s (invocation_ask fs p i) ≡ Some (ideal.answers p i (a.Values (values_below c 0 store records keys)) s)
  reads_all s i c keys are asked = ap (ideal.perform p i s) asked ∙ ap (λ vs. Some (ideal.answers p i (a.Values vs) s)) (objects_below store records c s.objects keys are)

  -- a write at the position
  pub put_last : (c k : ℕ) (key : List ℕ) (value : Value) (objects : List (List ℕ × Value)) → AreLast store records c k objects → last_value_below key c (suc k) store records ≡ Some value → ((q : List ℕ) → bytes_eq q key ≡ false → last_value_below q c k store records ≡ last_value_below q c (suc k) store records) → AreLast store records c (suc k) (put key value objects)
  put_last c k key value objects are own other q =
      ⊎_elim (λ same. subst (λ q. get q (put key value objects) ≡ last_value_below q c (suc k) store records) (sym same) (get-put_same key value objects ∙ sym own))
      (λ e. get_other q key value objects e ∙ are q ∙ other q e) (keys_cases q key)

  pub go_write : (s0 : Ideal) (n : ℕ) (i : Invocation) (c k : ℕ) (key : List ℕ) (value : Value) → Gone s0 n i c k → i.result ≡ None → invocation_ask fs p i ≡ Some (asks.Op (o.Write key value)) → last_value_below key c (suc k) store records ≡ Some value → ((q : List ℕ) → bytes_eq q key ≡ false → last_value_below q c k store records ≡ last_value_below q c (suc k) store records) → Gone s0 (suc n) (answering i a.Done) c (suc k)
  go_write s0 n i c k key value so_far unended asked own other = record {
    state = ideal.answers p i a.Done (record (so_far.state) { objects = put key value so_far.state.objects });
    defined = go_more s0 n i c k so_far unended ∙ ap (ideal.perform p i so_far.state) asked;
    is = record {
      here = get-put_same p (answering i a.Done) so_far.state.invocations;
      others_are = others_put p others (answering i a.Done) so_far.state.invocations so_far.is.others_are;
      objects = put_last c k key value so_far.state.objects so_far.is.objects own other;
      queues_are = so_far.is.queues_are;
      names_are = so_far.is.names_are;
    };
  }
