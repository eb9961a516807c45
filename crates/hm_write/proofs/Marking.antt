-- What reads at a marker answer, by what was read.
use Rattle.std.proofs.Common.{◌≡◌, ℕ, suc, ◌+◌, ◌<◌, ◌≤◌, ltb, Bool, true, false, cond, List, [], ◌∷◌, ◌++◌, length, take, get_or, Option, None, Result, Ok, Err, IfOk, refl, sym, ap, ◌∙◌, subst, arith}
use Rattle.std.proofs.lemmas.Bool.{le-ltb}
use Rattle.std.proofs.lemmas.Bool.Decides.{nat_tests}
use Rattle.std.specs.Option.{option_or}
use Rattle.lb_base.specs.declared.value.Value.{Value}
use Rattle.boki_types.specs.declared.body.Body.{Body}
use Rattle.boki_types.specs.declared.store.Name.{Name}
use Rattle.boki_types.specs.declared.store.Answered.TheVariants as one
use Rattle.boki_types.specs.declared.store.GroupAnswer.TheVariants as group
use Rattle.boki_model.specs.Live.{Live}
use Rattle.boki_model.specs.Writes.{Store, logged_write, after_read_fenced, raise_fences}
use Rattle.book_api.specs.Books.{BookState, position}
use Rattle.obj_store.specs.Kept.{StoreState}
use Rattle.obj_store.specs.StandsFor.{StandsFor, logged_of, last_logged}
use Rattle.step_log.specs.Sound.{live_bodies, view}
use Rattle.hm_read.specs.Kept.{IsKept, AreKept}
use Rattle.hm_read.proofs.Answering.{mapped_more}
use Rattle.hm_write.specs.Marked.{marked_value, marked_values, IsMarkedValue, AreMarkedValues, ReadsMarked, ReadsGroupMarked}
use Rattle.hm_write.proofs.Stored.{fenced_values}

-- no record is below the first seqnum
pub none_below : (key : List ℕ) (xs : List (Live Body)) → None ≡ last_logged key 0 xs
none_below key [] = refl
none_below key (x ∷ xs) = none_below key xs ∙ sym (ap (λ o. option_or o (last_logged key 0 xs)) (at (ltb x.seq 0) (logged_write x.holds) (le-ltb x.seq 0 (let h : 0 ≤ x.seq = omega arith in h))))
  where
    at : (t : Bool) (w : Option (List ℕ × (Name × Option Value))) → t ≡ false → logged_of key x.seq t w ≡ None
    at false w e = refl
    at true w e = cc

module _ (book : BookState) (engine at : ℕ) where
  module _ (kept : StoreState) where
    pub value_is :
        {E : Type 0} (key : List ℕ) (result : Result Value E)
        → ((m : Store) → AreKept book kept m → at ≤ suc (position book engine) → IfOk result (λ v. v ≡ marked_value at key m (view book engine)))
        → IfOk result (IsMarkedValue book kept engine at key)
    value_is key (Ok v) h = record { is_value = h }
    value_is key (Err e) h = tt

    pub no_values : AreMarkedValues book kept engine at [] []
    no_values = record { are_values = λ m are le. refl }

    pub more_values :
        (keys : List (List ℕ)) (i : ℕ) (key d : List ℕ) (v : Value) (old new : List Value) → i < length keys
        → key ≡ get_or keys i d → new ≡ old ++ v ∷ []
        → AreMarkedValues book kept engine at (take i keys) old → IsMarkedValue book kept engine at key v
        → AreMarkedValues book kept engine at (take (i + 1) keys) new
    more_values keys i key d v old new lt is push before one = record {
      are_values = λ m are le.
          push ∙ ap (λ l. l ++ v ∷ []) (before.are_values m are le)
          ∙ ap (λ (x : Value). marked_values at (take i keys) m (view book engine) ++ x ∷ [])
          (one.is_value m are le ∙ ap (λ (k : List ℕ). marked_value at k m (view book engine)) is)
          ∙ sym (mapped_more (λ k. marked_value at k m (view book engine)) keys i d lt);
    }

    low : (m : Store) → AreKept book kept m → at < kept.floor → ltb at m.floor ≡ true
    low m are lt = let e = are.store.stands.floor in grind (arith, nat_tests)

    high : (m : Store) → AreKept book kept m → kept.floor ≤ at → ltb at m.floor ≡ false
    high m are le = let e = are.store.stands.floor in grind (arith, nat_tests)

    -- a marker below the floor raises no fence
    as_before : (m : Store) (keys : List (List ℕ)) → AreKept book kept m → at < kept.floor → m ≡ after_read_fenced keys at m
    as_before m keys are lt = sym (ap (λ b. cond b m (record m { fences = raise_fences keys at m.fences })) (low m are lt))

    pub read_gone : (key : List ℕ) → at < kept.floor → ReadsMarked book engine at key kept kept one.Gone
    read_gone key lt = record {
      answer = λ m are le. sym (ap (λ b. cond b one.Gone (one.Value (marked_value at key m (view book engine)))) (low m are lt));
      after = λ m are le. subst (λ (n : Store). IsKept kept n (live_bodies book)) (as_before m (key ∷ []) are lt) are.store;
    }

    pub group_gone : (keys : List (List ℕ)) → at < kept.floor → ReadsGroupMarked book engine at keys kept kept group.Gone
    group_gone keys lt = record {
      answer = λ m are le. sym (ap (λ b. cond b group.Gone (group.Values (marked_values at keys m (view book engine)))) (low m are lt));
      after = λ m are le. subst (λ (n : Store). IsKept kept n (live_bodies book)) (as_before m keys are lt) are.store;
    }

  module _ (old new : StoreState) where
    pub read_value :
        (key : List ℕ) (v : Value) → old.floor ≤ at
        → ((m : Store) → AreKept book old m → at ≤ suc (position book engine) → (v ≡ marked_value at key m (view book engine)) × IsKept new (after_read_fenced (key ∷ []) at m) (live_bodies book))
        → ReadsMarked book engine at key old new (one.Value v)
    read_value key v above h = record {
      answer = λ m are le.
          ap one.Value (h m are le).0
          ∙ sym (ap (λ b. cond b one.Gone (one.Value (marked_value at key m (view book engine)))) (high old m are above));
      after = λ m are le. (h m are le).1;
    }

    pub group_values :
        (keys : List (List ℕ)) (vs : List Value) → old.floor ≤ at → AreMarkedValues book old engine at keys vs
        → ((m : Store) (records : List (Live Body)) → StandsFor old m records → StandsFor new (after_read_fenced keys at m) records)
        → ReadsGroupMarked book engine at keys old new (group.Values vs)
    group_values keys vs above were raised = record {
      answer = λ m are le.
          ap group.Values (were.are_values m are le)
          ∙ sym (ap (λ b. cond b group.Gone (group.Values (marked_values at keys m (view book engine)))) (high old m are above));
      after = λ m are le. record {
        stands = raised m (live_bodies book) are.store.stands;
        values = fenced_values m (live_bodies book) are.store.values keys at;
      };
    }
