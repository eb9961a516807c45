-- What free reads answer, by what was read.
use Rattle.std.proofs.Common.{◌≡◌, ℕ, zero, suc, ◌+◌, ◌<◌, ◌≤◌, ltb, true, false, cond, List, [], ◌∷◌, ◌++◌, length, take, map, get_or, Result, Ok, Err, IfOk, refl, sym, ap, ◌∙◌, arith}
use Rattle.std.proofs.lemmas.Bool.Decides.{nat_tests}
use Rattle.lb_base.specs.declared.value.Value.{Value}
use Rattle.boki_types.specs.declared.store.Answered.TheVariants as one
use Rattle.boki_types.specs.declared.store.GroupAnswer.TheVariants as group
use Rattle.boki_model.specs.Writes.{Store}
use Rattle.book_api.specs.Books.{BookState, position}
use Rattle.obj_store.specs.Kept.{StoreState}
use Rattle.step_log.specs.Sound.{view}
use Rattle.hm_read.specs.Kept.{AreKept}
use Rattle.hm_read.specs.FreeReads.{free_value, free_values, IsFreeValue, AreFreeValues, ReadsFree, ReadsGroupFree}

-- one more element is mapped
pub mapped_more :
    (f : List ℕ → Value) (keys : List (List ℕ)) (i : ℕ) (d : List ℕ) → i < length keys
    → map f (take (i + 1) keys) ≡ map f (take i keys) ++ f (get_or keys i d) ∷ []
mapped_more f [] i d lt = absurd (let h : ⊥ = omega arith in h)
mapped_more f (k ∷ ks) zero d lt = refl
mapped_more f (k ∷ ks) (suc i) d lt =
    ap (λ (n : ℕ). map f (take n (k ∷ ks))) (let e : suc i + 1 ≡ suc (i + 1) = omega arith in e)
    ∙ ap (λ l. f k ∷ l) (mapped_more f ks i d (omega arith))

module _ (book : BookState) (kept : StoreState) (engine cursor : ℕ) where
  pub value_is :
      {E : Type 0} (key : List ℕ) (result : Result Value E)
      → ((m : Store) → AreKept book kept m → cursor ≤ position book engine → IfOk result (λ v. v ≡ free_value cursor key m (view book engine)))
      → IfOk result (IsFreeValue book kept engine cursor key)
  value_is key (Ok v) h = record { is_value = h }
  value_is key (Err e) h = tt

  pub no_values : AreFreeValues book kept engine cursor [] []
  no_values = record { are_values = λ m are le. refl }

  pub more_values :
      (keys : List (List ℕ)) (i : ℕ) (key d : List ℕ) (v : Value) (old new : List Value) → i < length keys
      → key ≡ get_or keys i d → new ≡ old ++ v ∷ []
      → AreFreeValues book kept engine cursor (take i keys) old → IsFreeValue book kept engine cursor key v
      → AreFreeValues book kept engine cursor (take (i + 1) keys) new
  more_values keys i key d v old new lt is push before one = record {
    are_values = λ m are le.
        push ∙ ap (λ l. l ++ v ∷ []) (before.are_values m are le)
        ∙ ap (λ (x : Value). free_values cursor (take i keys) m (view book engine) ++ x ∷ [])
        (one.is_value m are le ∙ ap (λ (k : List ℕ). free_value cursor k m (view book engine)) is)
        ∙ sym (mapped_more (λ k. free_value cursor k m (view book engine)) keys i d lt);
  }

  -- the floor is the store's
  low : (m : Store) → AreKept book kept m → cursor < kept.floor → ltb cursor m.floor ≡ true
  low m are lt = let e = are.store.stands.floor in grind (arith, nat_tests)

  high : (m : Store) → AreKept book kept m → kept.floor ≤ cursor → ltb cursor m.floor ≡ false
  high m are le = let e = are.store.stands.floor in grind (arith, nat_tests)

  pub read_gone : (key : List ℕ) → cursor < kept.floor → ReadsFree book kept engine cursor key one.Gone
  read_gone key lt = record {
    answer = λ m are le. sym (ap (λ b. cond b one.Gone (one.Value (free_value cursor key m (view book engine)))) (low m are lt));
  }

  pub read_value :
      (key : List ℕ) (v : Value) → kept.floor ≤ cursor → IsFreeValue book kept engine cursor key v
      → ReadsFree book kept engine cursor key (one.Value v)
  read_value key v above is = record {
    answer = λ m are le.
        ap one.Value (is.is_value m are le)
        ∙ sym (ap (λ b. cond b one.Gone (one.Value (free_value cursor key m (view book engine)))) (high m are above));
  }

  pub group_gone : (keys : List (List ℕ)) → cursor < kept.floor → ReadsGroupFree book kept engine cursor keys group.Gone
  group_gone keys lt = record {
    answer = λ m are le. sym (ap (λ b. cond b group.Gone (group.Values (free_values cursor keys m (view book engine)))) (low m are lt));
  }

  pub group_values :
      (keys : List (List ℕ)) (vs : List Value) → kept.floor ≤ cursor → AreFreeValues book kept engine cursor keys vs
      → ReadsGroupFree book kept engine cursor keys (group.Values vs)
  group_values keys vs above are_read = record {
    answer = λ m are le.
        ap group.Values (are_read.are_values m are le)
        ∙ sym (ap (λ b. cond b group.Gone (group.Values (free_values cursor keys m (view book engine)))) (high m are above));
  }
