-- Open invocations, record by record.
use Rattle.std.proofs.Common.{◌≡◌, ◌⊎◌, inl, inr, ℕ, max, Bool, true, false, cond, ltb, leb, ◌&&◌, not, List, [], ◌∷◌, Option, Some, None, refl, sym, ap, ◌∙◌}
use Rattle.std.specs.Prelude.{bytes_eq, is_some}
use Rattle.std.specs.List.{filter}
use Rattle.lb_base.specs.declared.value.Outcome.{Outcome}
use Rattle.boki_types.specs.declared.body.Body.{Body}
use Rattle.boki_types.specs.declared.body.Body.TheVariants as b
use Rattle.boki_model.specs.Live.{Live}
use Rattle.std.specs.Option.{option_or}
use Rattle.boki_model.specs.Maps.{before}
use Rattle.boki_model.specs.Writes.{prepend_some}
use Rattle.boki_model.specs.Modes.{Switch, Modes, init_path, finish_of, result_of, open_path, lesser_path, least_open_in, all_ended, end_switch, apply_to_modes, modes}
use Rattle.boki_model.specs.Floor.{counted_trim, floor, open_init, first_open}
use Rattle.exactly_once.proofs.Log.MapChanges.{same_itself, keys_cases, other_way}
use Rattle.log_folds.specs.Opens.{OpenInvocation, if_open, open_in, open_invocations, open_after, none_open_below, least_open_below, first_open_seqnum, ends_switch_by, modes_by_open, counted_by_open, AreKept}
use Rattle.log_folds.proofs.Basics.{or_none}

-- What they say.

least_is :
    (n : ℕ) (records xs : List (Live Body))
    → least_open_in n records xs ≡ least_open_below n (open_in records xs)
least_is n records [] = refl
least_is n records (x ∷ xs) = at (init_path x.holds) (least_is n records xs)
  where
    at : (o : Option (List ℕ)) → least_open_in n records xs ≡ least_open_below n (open_in records xs)
        → lesser_path (open_path n records x.seq o) (least_open_in n records xs) ≡ least_open_below n (prepend_some (if_open records x.seq o) (open_in records xs))
    at None ih = ih
    at (Some p) ih = by (result_of p records)
      where
        by :
            (r : Option Outcome)
            → lesser_path (cond (ltb x.seq n && not (is_some r)) (Some p) None) (least_open_in n records xs)
            ≡ least_open_below n (prepend_some (cond (is_some r) None (Some (record { seq = x.seq; path = p }))) (open_in records xs))
        by (Some r) = ap (λ t. lesser_path (cond t (Some p) None) (least_open_in n records xs)) (and_false (ltb x.seq n)) ∙ ih
          where
            and_false : (t : Bool) → (t && false) ≡ false
            and_false true = refl
            and_false false = refl
        by None = ap (λ t. lesser_path (cond t (Some p) None) (least_open_in n records xs)) (and_true (ltb x.seq n)) ∙ ap (lesser_path (cond (ltb x.seq n) (Some p) None)) ih
          where
            and_true : (t : Bool) → (t && true) ≡ t
            and_true true = refl
            and_true false = refl

none_is : (n : ℕ) (os : List OpenInvocation) → not (is_some (least_open_below n os)) ≡ none_open_below n os
none_is n [] = refl
none_is n (o ∷ os) = at (none_is n os) (ltb o.seq n)
  where
    some : (p : List ℕ) (rest : Option (List ℕ)) → not (is_some (lesser_path (Some p) rest)) ≡ false
    some p None = refl
    some p (Some q) = by (before q p)
      where
        by : (t : Bool) → not (is_some (cond t (Some q) (Some p))) ≡ false
        by true = refl
        by false = refl

    at :
        not (is_some (least_open_below n os)) ≡ none_open_below n os → (t : Bool)
        → not (is_some (lesser_path (cond t (Some o.path) None) (least_open_below n os))) ≡ (not t && none_open_below n os)
    at ih true = some o.path (least_open_below n os)
    at ih false = ih

first_is : (records xs : List (Live Body)) → first_open records xs ≡ first_open_seqnum (open_in records xs)
first_is records [] = refl
first_is records (x ∷ xs) = at (init_path x.holds) (first_is records xs)
  where
    at : (o : Option (List ℕ)) → first_open records xs ≡ first_open_seqnum (open_in records xs)
        → option_or (first_open records xs) (open_init records x.seq o) ≡ first_open_seqnum (prepend_some (if_open records x.seq o) (open_in records xs))
    at None ih = or_none (first_open records xs) ∙ ih
    at (Some p) ih = by (result_of p records)
      where
        by :
            (r : Option Outcome)
            → option_or (first_open records xs) (cond (is_some r) None (Some x.seq))
            ≡ first_open_seqnum (prepend_some (cond (is_some r) None (Some (record { seq = x.seq; path = p }))) (open_in records xs))
        by (Some r) = or_none (first_open records xs) ∙ ih
        by None = ap (λ o. option_or o (Some x.seq)) ih

-- One record more.

open_alike :
    (records others : List (Live Body)) → ((p : List ℕ) → result_of p records ≡ result_of p others)
    → (xs : List (Live Body)) → open_in records xs ≡ open_in others xs
open_alike records others same [] = refl
open_alike records others same (x ∷ xs) = ap (prepend_some (if_open records x.seq (init_path x.holds))) (open_alike records others same xs) ∙ ap (λ o. prepend_some o (open_in others xs)) (at (init_path x.holds))
  where
    at : (o : Option (List ℕ)) → if_open records x.seq o ≡ if_open others x.seq o
    at None = refl
    at (Some p) = ap (λ r. cond (is_some r) None (Some (record { seq = x.seq; path = p }))) (same p)

-- a record that is no Finish changes no result
no_finish :
    (x : Live Body) (xs : List (Live Body)) → ((p : List ℕ) → finish_of p x.holds ≡ None) → (p : List ℕ)
    → result_of p (x ∷ xs) ≡ result_of p xs
no_finish x xs none p = ap (option_or (result_of p xs)) (none p) ∙ or_none (result_of p xs)

-- a Finish closes its own
closes :
    (x : Live Body) (past : List (Live Body)) (p : List ℕ) (outcome : Outcome)
    → ((q : List ℕ) → finish_of q x.holds ≡ cond (bytes_eq q p) (Some outcome) None)
    → (xs : List (Live Body)) → open_in (x ∷ past) xs ≡ filter (λ o. not (bytes_eq p o.path)) (open_in past xs)
closes x past p outcome is [] = refl
closes x past p outcome is (y ∷ ys) = at (init_path y.holds) (closes x past p outcome is ys)
  where
    at :
        (o : Option (List ℕ))
        → open_in (x ∷ past) ys ≡ filter (λ o. not (bytes_eq p o.path)) (open_in past ys)
        → prepend_some (if_open (x ∷ past) y.seq o) (open_in (x ∷ past) ys) ≡ filter (λ o. not (bytes_eq p o.path)) (prepend_some (if_open past y.seq o) (open_in past ys))
    at None ih = ih
    at (Some q) ih = by (result_of q past) (keys_cases q p)
      where
        by : (r : Option Outcome) → (q ≡ p) ⊎ (bytes_eq q p ≡ false)
            → prepend_some (cond (is_some (option_or r (finish_of q x.holds))) None (Some (record { seq = y.seq; path = q }))) (open_in (x ∷ past) ys)
            ≡ filter (λ o. not (bytes_eq p o.path)) (prepend_some (cond (is_some r) None (Some (record { seq = y.seq; path = q }))) (open_in past ys))
        by (Some r) either = ih
        by None (inl same) =
            ap (λ f. prepend_some (cond (is_some f) None (Some (record { seq = y.seq; path = q }))) (open_in (x ∷ past) ys)) (is q)
            ∙ ap (λ t. prepend_some (cond (is_some (cond t (Some outcome) None)) None (Some (record { seq = y.seq; path = q }))) (open_in (x ∷ past) ys)) (ap (bytes_eq q) (sym same) ∙ same_itself q)
            ∙ ih
            ∙ sym (ap (λ t. cond (not t) (record { seq = y.seq; path = q } ∷ filter (λ o. not (bytes_eq p o.path)) (open_in past ys)) (filter (λ o. not (bytes_eq p o.path)) (open_in past ys))) (ap (bytes_eq p) same ∙ same_itself p))
        by None (inr e) =
            ap (λ f. prepend_some (cond (is_some f) None (Some (record { seq = y.seq; path = q }))) (open_in (x ∷ past) ys)) (is q)
            ∙ ap (λ t. prepend_some (cond (is_some (cond t (Some outcome) None)) None (Some (record { seq = y.seq; path = q }))) (open_in (x ∷ past) ys)) e
            ∙ ap (λ l. record { seq = y.seq; path = q } ∷ l) ih
            ∙ sym (ap (λ t. cond (not t) (record { seq = y.seq; path = q } ∷ filter (λ o. not (bytes_eq p o.path)) (open_in past ys)) (filter (λ o. not (bytes_eq p o.path)) (open_in past ys))) (other_way q p e))

more_open :
    (x : Live Body) (xs : List (Live Body)) (body : Body) → x.holds ≡ body
    → open_invocations (x ∷ xs) ≡ open_after x.seq xs body (open_invocations xs)
more_open x xs body is = ap (λ held. open_invocations (record { seq = x.seq; tags = x.tags; holds = held } ∷ xs)) is ∙ at body
  where
    with_body : Body → Live Body
    with_body held = record { seq = x.seq; tags = x.tags; holds = held }

    same :
        (held : Body) → ((p : List ℕ) → finish_of p held ≡ None)
        → open_in (with_body held ∷ xs) xs ≡ open_invocations xs
    same held none = open_alike (with_body held ∷ xs) xs (no_finish (with_body held) xs none) xs

    at : (held : Body) → open_invocations (with_body held ∷ xs) ≡ open_after x.seq xs held (open_invocations xs)
    at (b.Init p) =
        ap (prepend_some (if_open (with_body (b.Init p) ∷ xs) x.seq (Some p))) (same (b.Init p) (λ q. refl))
        ∙ ap (λ r. prepend_some (cond (is_some r) None (Some (record { seq = x.seq; path = p }))) (open_invocations xs)) (or_none (result_of p xs))
        ∙ by (is_some (result_of p xs))
      where
        by :
            (t : Bool)
            → prepend_some (cond t None (Some (record { seq = x.seq; path = p }))) (open_invocations xs)
            ≡ cond t (open_invocations xs) (record { seq = x.seq; path = p } ∷ open_invocations xs)
        by true = refl
        by false = refl
    at (b.Finish p i outcome) = closes (with_body (b.Finish p i outcome)) xs p outcome (λ q. refl) xs
    at held = same held (λ q. refl)

-- Modes and the floor.

module _ (records : List (Live Body)) where
  ended : (n : ℕ) → all_ended n records ≡ none_open_below n (open_invocations records)
  ended n = ap (λ o. not (is_some o)) (least_is n records records) ∙ none_is n (open_invocations records)

  ends_alike : (m : Modes) (o : Option Switch) → end_switch records m o ≡ ends_switch_by (open_invocations records) m o
  ends_alike m None = refl
  ends_alike m (Some s) = ap (λ t. cond t (record { current = s.target; pending = None }) m) (ended s.begun)

  switched_alike :
      (body : Body) (seq : ℕ) (m : Modes)
      → apply_to_modes body seq records m ≡ modes_by_open body seq (open_invocations records) m
  switched_alike b.SwitchEnd seq m = ends_alike m m.pending
  switched_alike (b.SwitchBegin target) seq m = refl
  switched_alike _ seq m = refl

  counted_alike : (body : Body) (seq : ℕ) → counted_trim body seq records ≡ counted_by_open body seq (open_invocations records)
  counted_alike (b.Trim w) seq = ap (λ t. cond (leb w seq && t) w 0) (ended w)
  counted_alike _ seq = refl

  pub are_kept : AreKept records
  are_kept = record {
    ended = ended;
    least = λ n. least_is n records records;
    first = first_is records records;
    more_open = λ x. more_open x records x.holds refl;
    more_modes = λ first x. switched_alike x.holds x.seq (modes first records);
    more_floor = λ x. ap (λ n. max n (floor records)) (counted_alike x.holds x.seq);
  }
