-- The turn of one record.
use Rattle.std.proofs.Common.{◌≡◌, ℕ, ◌+◌, ◌≤◌, List, [], ◌∷◌, ◌++◌, Option, Some, None, Result, Ok, Err, OnOk, sym, ap, ◌∙◌}
use Rattle.boki_types.specs.declared.body.Body.{Body}
use Rattle.boki_types.specs.declared.body.Body.TheVariants as b
use Rattle.boki_types.specs.declared.program.Function.{Function}
use Rattle.boki_types.specs.declared.turn.Turn.{Turn}
use Rattle.boki_types.specs.declared.turn.Turn.TheVariants as a_turn
use Rattle.boki_model.specs.Bodies.{step_of}
use Rattle.boki_model.specs.Live.{Live}
use Rattle.boki_model.specs.Maps.{get, put}
use Rattle.boki_model.specs.Writes.{Store, versions_at}
use Rattle.boki_machine.specs.Turns.{operation_count, turn_of, add_next_index}
use Rattle.obj_store.specs.Kept.{StoreState}
use Rattle.obj_store.specs.StandsFor.{StandsFor}
use Rattle.cluster_report.specs.declared.turning.Walk.{Walk}
use Rattle.cluster_report.specs.declared.turning.TurnKind.TheVariants as kind
use Rattle.cluster_report.specs.Turned.{kind_of, AddsTurn}

module _ {T E : Type 0} where
  pub on_any : (r : Result T E) (A : Type 0) → A → OnOk r A
  on_any (Ok t) A is = is
  on_any (Err e) A is = tt

  pub on_ok : (r : Result T E) (A B : Type 0) → (A → B) → OnOk r A → OnOk r B
  on_ok (Ok t) A B step is = step is
  on_ok (Err e) A B step is = tt

  pub on_both : (r : Result T E) (A B C : Type 0) → (A → B → C) → OnOk r A → OnOk r B → OnOk r C
  on_both (Ok t) A B C step a b = step a b
  on_both (Err e) A B C step a b = tt

-- a go's record is a step record
pub go_step : (body : Body) (p : List ℕ) (i own : ℕ) → kind_of body ≡ kind.Go p i own → step_of body ≡ Some (p, i)
go_step (b.Init q) p i own is = cc
go_step (b.Read q j key) p i own is = cc
go_step (b.ReadGroup q j keys) p i own is = cc
go_step (b.Write q j place key value) p i own is = cc
go_step (b.Spawn q j ordinal f args) p i own is = cc
go_step (b.Join q j ordinal) p i own is = cc
go_step (b.Push q j queue value) p i own is = cc
go_step (b.Pop q j queue) p i own is = cc
go_step (b.TxnBegin q j names) p i own is = cc
go_step (b.TxnCommit q j begin names writes) p i own is = cc
go_step _ p i own is = absurd (let z : ⊥ = cc in z)

-- and its turn
module _ (fs : List Function) (ahead : List (List ℕ × ℕ)) (free : ℕ) where
  abbrev go : List ℕ → ℕ → ℕ → List Turn
  go p i own = a_turn.Go p (operation_count (get p ahead) i own free) ∷ []

  same_go : (q p : List ℕ) (j i k own : ℕ) → kind.Go q j k ≡ kind.Go p i own → go q j k ≡ go p i own
  same_go q p j i k own is =
      let path : q ≡ p = cc in
      let index : j ≡ i = cc in
      let owns : k ≡ own = cc in
      ap (λ (x : List ℕ). go x j k) path ∙ ap (λ (x : ℕ). go p x k) index ∙ ap (go p i) owns

  pub go_turn : (body : Body) (p : List ℕ) (i own : ℕ) → kind_of body ≡ kind.Go p i own → turn_of fs ahead free body ≡ go p i own
  go_turn (b.Init q) p i own is = same_go q p 1 i 0 own is
  go_turn (b.Read q j key) p i own is = same_go q p j i 1 own is
  go_turn (b.ReadGroup q j keys) p i own is = same_go q p j i 1 own is
  go_turn (b.Write q j place key value) p i own is = same_go q p j i 1 own is
  go_turn (b.Spawn q j ordinal f args) p i own is = same_go q p j i 1 own is
  go_turn (b.Join q j ordinal) p i own is = same_go q p j i 1 own is
  go_turn (b.Push q j queue value) p i own is = same_go q p j i 1 own is
  go_turn (b.Pop q j queue) p i own is = same_go q p j i 1 own is
  go_turn (b.TxnBegin q j names) p i own is = same_go q p j i 1 own is
  go_turn (b.TxnCommit q j begin names writes) p i own is = same_go q p j i 1 own is
  go_turn _ p i own is = absurd (let z : ⊥ = cc in z)

module _ (kept : StoreState) (seq : ℕ) where
  -- what is said of a store that the object store stands for
  abbrev pub Told : (floored : Store → Type 0) → (Store → Type 0) → Type 0
  Told floored told = (m : Store) (records : List (Live Body)) → StandsFor kept m records → floored m → told m

  pub operations_are :
      (next : Option ℕ) (index own free n : ℕ) → next ≡ None → n ≡ own + free
      → ((m : Store) (records : List (Live Body)) → StandsFor kept m records → m.floor ≤ seq → free ≡ versions_at seq m.versions)
      → Told (λ m. next ≡ None → m.floor ≤ seq) (λ m. n ≡ operation_count next index own (versions_at seq m.versions))
  operations_are next index own free n none is counts m records stands above =
      is ∙ ap (λ (k : ℕ). own + k) (counts m records stands (above none))
      ∙ ap (λ (o : Option ℕ). operation_count o index own (versions_at seq m.versions)) (sym none)

  pub go_added :
      (path : List ℕ) (index own n : ℕ) (next : Option ℕ) (ahead : List (List ℕ × ℕ)) (old new : List Turn)
      → next ≡ get path ahead → new ≡ old ++ a_turn.Go path n ∷ []
      → Told (λ m. next ≡ None → m.floor ≤ seq) (λ m. n ≡ operation_count next index own (versions_at seq m.versions))
      → Told (λ m. get path ahead ≡ None → m.floor ≤ seq) (λ m. new ≡ old ++ a_turn.Go path (operation_count (get path ahead) index own (versions_at seq m.versions)) ∷ [])
  go_added path index own n next ahead old new found pushed counts m records stands above =
      pushed
      ∙ ap (λ (k : ℕ). old ++ a_turn.Go path k ∷ []) (counts m records stands (λ none. above (sym found ∙ none))
      ∙ ap (λ (o : Option ℕ). operation_count o index own (versions_at seq m.versions)) found)

  pub adds_go :
      (fs : List Function) (body : Body) (path : List ℕ) (index own : ℕ) (old new : Walk) → kind_of body ≡ kind.Go path index own
      → new.ahead.entries ≡ put path index old.ahead.entries
      → Told (λ m. get path old.ahead.entries ≡ None → m.floor ≤ seq)
      (λ m. new.turns.items ≡ old.turns.items ++ a_turn.Go path (operation_count (get path old.ahead.entries) index own (versions_at seq m.versions)) ∷ [])
      → AddsTurn fs kept seq body old new
  adds_go fs body path index own old new is ahead turned = record {
    ahead = ahead ∙ ap (λ s. add_next_index s old.ahead.entries) (sym (go_step body path index own is));
    turns = λ m records stands has.
        turned m records stands (λ none. has path index own is none)
        ∙ ap (λ (ts : List Turn). old.turns.items ++ ts) (sym (go_turn fs old.ahead.entries (versions_at seq m.versions) body path index own is));
  }

  pub adds_go_on :
      {E : Type 0} (r : Result (Unit {0}) E) (fs : List Function) (body : Body) (path : List ℕ) (index own : ℕ) (old new : Walk)
      → kind_of body ≡ kind.Go path index own → OnOk r (new.ahead.entries ≡ put path index old.ahead.entries)
      → OnOk r (Told (λ m. get path old.ahead.entries ≡ None → m.floor ≤ seq)
      (λ m. new.turns.items ≡ old.turns.items ++ a_turn.Go path (operation_count (get path old.ahead.entries) index own (versions_at seq m.versions)) ∷ []))
      → OnOk r (AddsTurn fs kept seq body old new)
  adds_go_on (Ok t) fs body path index own old new is ahead turned = adds_go fs body path index own old new is ahead turned
  adds_go_on (Err e) fs body path index own old new is ahead turned = tt
