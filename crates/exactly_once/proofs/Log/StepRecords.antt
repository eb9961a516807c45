-- The step records of an invocation are those with its step tag.
use Rattle.std.proofs.Common.{◌≡◌, ◌⊎◌, inl, inr, ℕ, suc, ◌*◌, ◌^◌, ◌<◌, ◌≤◌, Bool, true, false, cond, eqb, ltb, ◌&&◌, ◌||◌, List, [], ◌∷◌, ◌++◌, length, reverse, refl, sym, ap, ◌∙◌, arith}
use Rattle.std.specs.Prelude.{bytes_eq, slice_get}
use Rattle.std.specs.List.{list_all, AllByRecursion}
use Rattle.std.proofs.lemmas.Bool.{and_parts, and_from, ltb-true, leb-true, lt-ltb, ne_eqb, eq-eqb}
use Rattle.lb_base.specs.Path.{is_request, is_ordinal, are_ordinals, IsPath}
use Rattle.lb_base.specs.declared.value.Tag.{Tag}
use Rattle.boki_types.specs.declared.body.Body.{Body}
use Rattle.boki_types.specs.declared.body.Body.TheVariants as b
use Rattle.boki_model.specs.Live.{LogRecord, Live, has_tag, meets_condition, append_if_live, live}
use Rattle.boki_model.specs.Reads.{tagged_seqnums}
use Rattle.boki_model.specs.Bodies.{tag_of, tag_number, path_number, name_hash, key_tag, call_tag, step_tag, step_of, child}
use Rattle.boki_model.proofs.Logs.{length-tagged, places_ascend}
use Rattle.boki_model.proofs.Tags.{same_numbers, number_below}
use Rattle.exactly_once.specs.FurtherLaws.StepRecords.{OwnTags, has_paths, IsWellFormed, is_step_of, step_seqnums, AreInOrder, StepsInOrder}
use Rattle.exactly_once.proofs.Log.MapChanges.{same_itself, keys_cases}

-- The path of a step record is in range, and that of a child.

ordinals_push : (ns : List ℕ) (n : ℕ) → are_ordinals ns ≡ true → is_ordinal n ≡ true → are_ordinals (ns ++ n ∷ []) ≡ true
ordinals_push [] n all one = and_from (is_ordinal n) true one refl
ordinals_push (m ∷ ns) n all one = let parts = and_parts (is_ordinal m) (are_ordinals ns) all in and_from (is_ordinal m) (are_ordinals (ns ++ n ∷ [])) parts.0 (ordinals_push ns n parts.1 one)

length_push : (ns : List ℕ) (n : ℕ) → length (ns ++ n ∷ []) ≡ suc (length ns)
length_push [] n = refl
length_push (m ∷ ns) n = ap suc (length_push ns n)

pub child_path : (p : List ℕ) (n : ℕ) → IsPath p → length p ≤ 3 → is_ordinal n ≡ true → IsPath (child p n)
child_path [] n path le one = cc
child_path (m ∷ ns) n path le one =
    let parts = and_parts (is_request m && are_ordinals ns) (ltb (length ns) 4) path in
    let fronts = and_parts (is_request m) (are_ordinals ns) parts.0 in
    and_from (is_request m && are_ordinals (ns ++ n ∷ [])) (ltb (length (ns ++ n ∷ [])) 4) (and_from (is_request m) (are_ordinals (ns ++ n ∷ [])) fronts.0 (ordinals_push ns n fronts.1 one))
    (lt-ltb (length (ns ++ n ∷ [])) 4 (omega (arith, length_push ns n, le)))

call_tag_below : (p : List ℕ) → IsPath p → call_tag p < 2 * 2 ^ 56
call_tag_below p path = let h = number_below p path in omega (arith, h)

module _ (path : List ℕ) (ok : IsPath path) where
  above : (t : ℕ) → 3 * 2 ^ 56 ≤ t → eqb (step_tag path) t ≡ false
  above t le = ne_eqb (step_tag path) t (λ e. omega (arith, e, le, number_below path ok))

  below : (t : ℕ) → t < 2 * 2 ^ 56 → eqb (step_tag path) t ≡ false
  below t lt = ne_eqb (step_tag path) t (λ e. omega (arith, e, lt))

  steps_same : (p : List ℕ) → IsPath p → eqb (step_tag path) (step_tag p) ≡ bytes_eq path p
  steps_same p there = at (keys_cases path p)
    where
      at : (path ≡ p) ⊎ (bytes_eq path p ≡ false) → eqb (step_tag path) (step_tag p) ≡ bytes_eq path p
      at (inl same) = eq-eqb (step_tag path) (step_tag p) (ap step_tag same) ∙ sym (ap (bytes_eq path) (sym same) ∙ same_itself path)
      at (inr e) = ne_eqb (step_tag path) (step_tag p) (λ same. let n : path_number path ≡ path_number p = omega (arith, same) in let q : path ≡ p = same_numbers path p ok there n in let h : bytes_eq path path ≡ false = ap (bytes_eq path) q ∙ e in let t = same_itself path in let no_way : ⊥ = cc in no_way) ∙ sym e

  -- a step record has its step tag, and further tags that are no step tags
  tagged_step : (p : List ℕ) (ts : List Tag) → IsPath p → has_tag (step_tag path) ts ≡ false → has_tag (step_tag path) (tag_of 2 (path_number p) ∷ ts) ≡ bytes_eq path p
  tagged_step p ts there none = (λ i. steps_same p there i || none i) ∙ or_false (bytes_eq path p)
    where
      or_false : (t : Bool) → (t || false) ≡ t
      or_false true = refl
      or_false false = refl

  one_above : (t : ℕ) → 3 * 2 ^ 56 ≤ t → has_tag (step_tag path) (record { 0 = t } ∷ []) ≡ false
  one_above t le = ap (λ b. b || false) (above t le)

  one_below : (t : ℕ) → t < 2 * 2 ^ 56 → has_tag (step_tag path) (record { 0 = t } ∷ []) ≡ false
  one_below t lt = ap (λ b. b || false) (below t lt)

  user_tags : (ts : List Tag) → list_all (λ t. ltb t.0 (2 ^ 56)) ts ≡ true → has_tag (step_tag path) ts ≡ false
  user_tags [] all = refl
  user_tags (t ∷ ts) all =
      let parts = and_parts (ltb t.0 (2 ^ 56)) (list_all (λ t. ltb t.0 (2 ^ 56)) ts) all in
      let lt = ltb-true t.0 (2 ^ 56) parts.0 in
      (λ i. below t.0 (omega (arith, lt)) i || user_tags ts parts.1 i)

  pub own_step : (body : Body) (tags : List Tag) → OwnTags body tags → has_paths body ≡ true → has_tag (step_tag path) tags ≡ is_step_of path (step_of body)
  own_step (b.User bytes) tags own paths = user_tags tags own
  own_step (b.Submit p f args) tags own paths = ap (has_tag (step_tag path)) own ∙ one_below (call_tag p) (call_tag_below p (and_parts _ _ paths).0)
  own_step (b.Init p) tags own paths = ap (has_tag (step_tag path)) own ∙ tagged_step p (tag_of 9 0 ∷ []) paths (one_above (tag_number 9 0) (omega arith))
  own_step (b.Read p i key) tags own paths = ap (has_tag (step_tag path)) own ∙ tagged_step p [] paths refl
  own_step (b.Write p i place key value) tags own paths = ap (has_tag (step_tag path)) own ∙ tagged_step p (tag_of 5 (name_hash key) ∷ []) paths (one_above (key_tag 5 key) (omega arith))
  own_step (b.Spawn p i ordinal f args) tags own paths =
      let there : IsPath p = (and_parts _ _ (and_parts _ _ paths).0).0 in
      let few : length p ≤ 3 = leb-true (length p) 3 (and_parts _ _ (and_parts _ _ paths).0).1 in
      let one : is_ordinal ordinal ≡ true = (and_parts _ _ paths).1 in
      ap (has_tag (step_tag path)) own ∙ tagged_step p (tag_of 1 (path_number (child p ordinal)) ∷ []) there (one_below (call_tag (child p ordinal)) (call_tag_below (child p ordinal) (child_path p ordinal there few one)))
  own_step (b.Join p i ordinal) tags own paths = ap (has_tag (step_tag path)) own ∙ tagged_step p [] paths refl
  own_step (b.Push p i queue value) tags own paths = ap (has_tag (step_tag path)) own ∙ tagged_step p (tag_of 6 (name_hash queue) ∷ []) paths (one_above (key_tag 6 queue) (omega arith))
  own_step (b.Pop p i queue) tags own paths = ap (has_tag (step_tag path)) own ∙ tagged_step p (tag_of 6 (name_hash queue) ∷ []) paths (one_above (key_tag 6 queue) (omega arith))
  own_step (b.TxnBegin p i names) tags own paths = ap (has_tag (step_tag path)) own ∙ tagged_step p [] paths refl
  own_step (b.TxnCommit p i begin names writes) tags own paths = ap (has_tag (step_tag path)) own ∙ tagged_step p (tag_of 7 0 ∷ []) paths (one_above (tag_number 7 0) (omega arith))
  own_step (b.Finish p i outcome) tags own paths = ap (has_tag (step_tag path)) own ∙ tagged_step p (tag_of 9 0 ∷ []) paths (one_above (tag_number 9 0) (omega arith))
  own_step (b.ReadGroup p i keys) tags own paths = ap (has_tag (step_tag path)) own ∙ tagged_step p [] paths refl
  own_step (b.SwitchBegin target) tags own paths = ap (has_tag (step_tag path)) own ∙ one_above (tag_number 3 0) (omega arith)
  own_step b.SwitchEnd tags own paths = ap (has_tag (step_tag path)) own ∙ one_above (tag_number 3 0) (omega arith)
  own_step (b.Trim w) tags own paths = ap (has_tag (step_tag path)) own ∙ one_above (tag_number 4 0) (omega arith)
  own_step (b.TrimTag number upto) tags own paths = ap (has_tag (step_tag path)) own ∙ one_above (tag_number 8 number) (omega arith)

  -- the live records with the step tag are the step records
  joined_steps : (seq : ℕ) (r : LogRecord Body) (xs : List (Live Body)) → IsWellFormed r → tagged_seqnums (step_tag path) xs ≡ step_seqnums path xs → tagged_seqnums (step_tag path) (append_if_live seq r xs) ≡ step_seqnums path (append_if_live seq r xs)
  joined_steps seq r xs own same = at (meets_condition r.condition xs)
    where
      at : (t : Bool) → tagged_seqnums (step_tag path) (cond t (record { seq = seq; tags = r.tags; holds = r.holds } ∷ xs) xs) ≡ step_seqnums path (cond t (record { seq = seq; tags = r.tags; holds = r.holds } ∷ xs) xs)
      at true = λ i. cond (own_step r.holds r.tags own.tags own.paths i) (seq ∷ same i) (same i)
      at false = same

  tagged_steps : (log : List (LogRecord Body)) → AllByRecursion IsWellFormed log → tagged_seqnums (step_tag path) (live log) ≡ step_seqnums path (live log)
  tagged_steps [] own = refl
  tagged_steps (r ∷ log) own = joined_steps (suc (length log)) r (live log) own.0 (tagged_steps log own.1)

  pub in_order : (log : List (LogRecord Body)) → AllByRecursion IsWellFormed log → AreInOrder log path
  in_order log own = record {
    at = λ place. places_ascend (step_tag path) place (live log) ∙ ap (λ l. slice_get (reverse l) place) (tagged_steps log own);
    next = λ place. ap (eqb place) (sym (length-tagged (step_tag path) (live log)) ∙ ap length (tagged_steps log own));
  }

pub steps_in_order : StepsInOrder
steps_in_order log path own ok = in_order path ok log own
