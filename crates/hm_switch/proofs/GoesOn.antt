-- What is kept of invocations goes on by a record.
use Rattle.std.proofs.Common.{◌≡◌, ◌⊎◌, inl, inr, ℕ, suc, ◌<◌, Bool, true, false, cond, ◌||◌, List, [], ◌∷◌, Option, Some, None, refl, sym, ap, ap₂, subst, ◌∙◌, arith}
use Rattle.std.specs.Prelude.{bytes_eq, is_some}
use Rattle.std.specs.Option.{option_or}
use Rattle.std.specs.Map.{remove_entry}
use Rattle.std.specs.BTreeMap.{insert_entry, is_at}
use Rattle.std.specs.Ordering.{nat_cmp}
use Rattle.boki_types.specs.declared.body.Body.{Body}
use Rattle.boki_model.specs.Live.{Live}
use Rattle.boki_model.specs.LogLaws.{FallBelow}
use Rattle.boki_model.specs.Writes.{prepend_some}
use Rattle.boki_model.specs.Modes.{init_path, result_of}
use Rattle.exactly_once.proofs.Log.MapChanges.{same_itself, keys_cases, other_way}
use Rattle.log_folds.specs.Opens.{OpenInvocation, if_open, open_in, open_invocations}
use Rattle.hm_switch.specs.declared.marks.Mark.{Mark}
use Rattle.hm_switch.specs.declared.marks.Mark.TheVariants as m
use Rattle.hm_switch.specs.declared.phase.Phase.{Phase}
use Rattle.hm_switch.specs.declared.phase.Phase.TheVariants.{Open, Ended}
use Rattle.hm_switch.specs.Marks.{Comes}
use Rattle.hm_switch.specs.Lives.{phase_in, open_since, phase_of, phase_at, has_path, first_inits, by_seqnum, AreLives}
use Rattle.hm_switch.proofs.Firsts.{inits_fall}
use Rattle.hm_switch.proofs.Opened.{others, has_since, others_none, since_others, first_others, inserted, removed}
use Rattle.hm_switch.proofs.Says.{open_by, ended_by, opens_by, ends_by}

or_none : {A : Type 0} (s : Option A) → option_or s None ≡ s
or_none None = refl
or_none (Some n) = refl

or_some : (s : Option ℕ) → is_some s ≡ true → (t : Option ℕ) → option_or s t ≡ s
or_some None has t = cc
or_some (Some n) has t = refl

or_false : (t : Bool) → (t || false) ≡ t
or_false true = refl
or_false false = refl

or_true : (t : Bool) → (t || true) ≡ true
or_true true = refl
or_true false = refl

-- an invocation that has ended isn't open
pub ended_closed : (p : List ℕ) (records : List (Live Body)) → is_some (result_of p records) ≡ true → (xs : List (Live Body)) → has_path p (open_in records xs) ≡ false
ended_closed p records ended [] = refl
ended_closed p records ended (x ∷ xs) = at (init_path x.holds) (ended_closed p records ended xs)
  where
    at : (o : Option (List ℕ)) → has_path p (open_in records xs) ≡ false → has_path p (prepend_some (if_open records x.seq o) (open_in records xs)) ≡ false
    at None ih = ih
    at (Some q) ih = by (keys_cases p q)
      where
        apart : bytes_eq p q ≡ false → (t : Bool) → has_path p (prepend_some (cond t None (Some (record { seq = x.seq; path = q }))) (open_in records xs)) ≡ false
        apart d true = ih
        apart d false = ap (λ t. t || has_path p (open_in records xs)) d ∙ ih

        by : (p ≡ q) ⊎ (bytes_eq p q ≡ false) → has_path p (prepend_some (cond (is_some (result_of q records)) None (Some (record { seq = x.seq; path = q }))) (open_in records xs)) ≡ false
        by (inl same) =
            ap (λ t. has_path p (prepend_some (cond t None (Some (record { seq = x.seq; path = q }))) (open_in records xs))) (ap (λ r. is_some (result_of r records)) (sym same) ∙ ended)
            ∙ ih
        by (inr d) = apart d (is_some (result_of q records))

-- what a phase tells
record IsUnknown (ended : Bool) (since : Option ℕ) : Type 0 where
  ended_is : ended ≡ false
  since_is : since ≡ None

unknown : (ended : Bool) (since : Option ℕ) → is_some (phase_of ended since) ≡ false → IsUnknown ended since
unknown true since e = cc
unknown false None e = record { ended_is = refl; since_is = refl }
unknown false (Some n) e = cc

known_open : (ended : Bool) (since : Option ℕ) → is_some (phase_of ended since) ≡ true → ended ≡ false → is_some since ≡ true
known_open true since e f = cc
known_open false None e f = cc
known_open false (Some n) e f = refl

is_open : (ended : Bool) (since : Option ℕ) (k : ℕ) → phase_of ended since ≡ Some (Open k) → since ≡ Some k
is_open true since k e = cc
is_open false None k e = cc
is_open false (Some n) k e = let f : n ≡ k = cc in ap Some f

-- whether a phase is one of an open invocation
abbrev pub says_open : Option Phase → Bool
says_open (Some (Open k)) = true
says_open _ = false

module _ (seq : ℕ) (x : Live Body) (records : List (Live Body)) (phases : List (List ℕ × Phase)) (opened : List (ℕ × List ℕ)) (are : AreLives records phases opened) where
  abbrev now : List OpenInvocation
  now = open_invocations records

  module _ (mark : Mark) (comes : Comes seq mark x records) where
    fall : FallBelow x.seq records
    fall = subst (λ n. FallBelow n records) (sym comes.seqnum) comes.newest

    fall_more : FallBelow (suc x.seq) (x ∷ records)
    fall_more = (subst (λ n. 0 < n) (sym comes.seqnum) comes.positive, omega arith, fall)

    opens : open_invocations (x ∷ records) ≡ open_by mark x.seq records now
    opens = opens_by x records mark comes.says

    ends : (q : List ℕ) → is_some (result_of q (x ∷ records)) ≡ (is_some (result_of q records) || ended_by q mark)
    ends = ends_by x records mark comes.says

    made : (new_phases : List (List ℕ × Phase)) (new_opened : List (ℕ × List ℕ))
        → ((q : List ℕ) → phase_in q new_phases ≡ phase_of (is_some (result_of q records) || ended_by q mark) (open_since q (open_by mark x.seq records now)))
        → new_opened ≡ by_seqnum (first_inits (open_by mark x.seq records now)) → AreLives (x ∷ records) new_phases new_opened
    made new_phases new_opened phase_is opened_is = record {
      phase = λ q. phase_is q ∙ sym (ap₂ (λ e os. phase_of e (open_since q os)) (ends q) opens);
      opened_are = opened_is ∙ ap (λ os. by_seqnum (first_inits os)) (sym opens);
      end = suc x.seq;
      falls = fall_more;
    }

    pub still : ((q : List ℕ) → ended_by q mark ≡ false) → (open_by mark x.seq records now ≡ now) → AreLives (x ∷ records) phases opened
    still none same = made phases opened
        (λ q. are.phase q ∙ sym (ap₂ (λ e os. phase_of e (open_since q os)) (ap (λ t. is_some (result_of q records) || t) (none q) ∙ or_false (is_some (result_of q records))) same))
        (are.opened_are ∙ ap (λ os. by_seqnum (first_inits os)) (sym same))

  module _ (p : List ℕ) (comes : Comes seq (m.Init p) x records) where
    abbrev one : OpenInvocation
    one = record { seq = x.seq; path = p }

    -- an Init of a known invocation changes nothing
    pub known_again : is_some (phase_in p phases) ≡ true → AreLives (x ∷ records) phases opened
    known_again known = at (is_some (result_of p records)) refl
      where
        there : is_some (phase_at p records) ≡ true
        there = sym (ap is_some (are.phase p)) ∙ known

        at : (t : Bool) → is_some (result_of p records) ≡ t → AreLives (x ∷ records) phases opened
        at true e = still (m.Init p) comes (λ q. refl) (ap (λ t. cond t now (one ∷ now)) e)
        at false e = made (m.Init p) comes phases opened
            (λ q. are.phase q ∙ ap₂ (λ t s. phase_of t s) (sym (or_false (is_some (result_of q records)))) (since q (keys_cases q p)) ∙ ap (λ os. phase_of (is_some (result_of q records) || false) (open_since q os)) (sym now_is))
            (are.opened_are ∙ ap by_seqnum (sym (ap (λ t. cond t (first_inits now) (one ∷ first_inits now)) has)) ∙ ap (λ os. by_seqnum (first_inits os)) (sym now_is))
          where
            now_is : open_by (m.Init p) x.seq records now ≡ one ∷ now
            now_is = ap (λ t. cond t now (one ∷ now)) e

            open_here : is_some (open_since p now) ≡ true
            open_here = known_open (is_some (result_of p records)) (open_since p now) there e

            has : has_path p now ≡ true
            has = has_since p now ∙ open_here

            since : (q : List ℕ) → (q ≡ p) ⊎ (bytes_eq q p ≡ false) → open_since q now ≡ option_or (open_since q now) (cond (bytes_eq q p) (Some x.seq) None)
            since q (inl same) = sym (or_some (open_since q now) (ap (λ r. is_some (open_since r now)) same ∙ open_here) (cond (bytes_eq q p) (Some x.seq) None))
            since q (inr d) = sym (ap (λ t. option_or (open_since q now) (cond t (Some x.seq) None)) d ∙ or_none (open_since q now))

    -- an Init of another one opens it
    pub opens_new : is_some (phase_in p phases) ≡ false → (new_phases : List (List ℕ × Phase)) (new_opened : List (ℕ × List ℕ))
        → ((q : List ℕ) → phase_in q new_phases ≡ cond (bytes_eq p q) (Some (Open seq)) (phase_in q phases)) → new_opened ≡ insert_entry nat_cmp opened seq p
        → AreLives (x ∷ records) new_phases new_opened
    opens_new none new_phases new_opened phase_is opened_is = made (m.Init p) comes new_phases new_opened
        (λ q. phase_is q ∙ at q (keys_cases q p) ∙ ap (λ os. phase_of (is_some (result_of q records) || false) (open_since q os)) (sym now_is))
        (opened_is
        ∙ ap₂ (λ es n. insert_entry nat_cmp es n p) are.opened_are (sym comes.seqnum)
        ∙ inserted x.seq p now (inits_fall x.seq records records (fall (m.Init p) comes))
        ∙ ap by_seqnum (sym (ap (λ t. cond t (first_inits now) (one ∷ first_inits now)) has))
        ∙ ap (λ os. by_seqnum (first_inits os)) (sym now_is))
      where
        is : IsUnknown (is_some (result_of p records)) (open_since p now)
        is = unknown (is_some (result_of p records)) (open_since p now) (sym (ap is_some (are.phase p)) ∙ none)

        now_is : open_by (m.Init p) x.seq records now ≡ one ∷ now
        now_is = ap (λ t. cond t now (one ∷ now)) is.ended_is

        has : has_path p now ≡ false
        has = has_since p now ∙ ap is_some is.since_is

        at : (q : List ℕ) → (q ≡ p) ⊎ (bytes_eq q p ≡ false)
            → cond (bytes_eq p q) (Some (Open seq)) (phase_in q phases) ≡ phase_of (is_some (result_of q records) || false) (option_or (open_since q now) (cond (bytes_eq q p) (Some x.seq) None))
        at q (inl same) =
            ap (λ t. cond t (Some (Open seq)) (phase_in q phases)) (ap (bytes_eq p) same ∙ same_itself p)
            ∙ ap (λ n. Some (Open n)) (sym comes.seqnum)
            ∙ sym (ap₂ (λ t s. phase_of (t || false) s) (ap (λ r. is_some (result_of r records)) same ∙ is.ended_is)
            (ap₂ (λ s t. option_or s (cond t (Some x.seq) None)) (ap (λ r. open_since r now) same ∙ is.since_is) (ap (λ r. bytes_eq r p) same ∙ same_itself p)))
        at q (inr d) =
            ap (λ t. cond t (Some (Open seq)) (phase_in q phases)) (other_way q p d)
            ∙ are.phase q
            ∙ ap₂ (λ t s. phase_of t s) (sym (or_false (is_some (result_of q records)))) (sym (ap (λ t. option_or (open_since q now) (cond t (Some x.seq) None)) d ∙ or_none (open_since q now)))

  module _ (p : List ℕ) (comes : Comes seq (m.Finish p) x records) (new_phases : List (List ℕ × Phase))
      (phase_is : (q : List ℕ) → phase_in q new_phases ≡ cond (bytes_eq p q) (Some Ended) (phase_in q phases)) where
    phase_ended : (q : List ℕ) → phase_in q new_phases ≡ phase_of (is_some (result_of q records) || bytes_eq q p) (open_since q (others p now))
    phase_ended q = phase_is q ∙ at (keys_cases q p)
      where
        at : (q ≡ p) ⊎ (bytes_eq q p ≡ false) → cond (bytes_eq p q) (Some Ended) (phase_in q phases) ≡ phase_of (is_some (result_of q records) || bytes_eq q p) (open_since q (others p now))
        at (inl same) =
            ap (λ t. cond t (Some Ended) (phase_in q phases)) (ap (bytes_eq p) same ∙ same_itself p)
            ∙ sym (ap (λ t. phase_of t (open_since q (others p now))) (ap (λ t. is_some (result_of q records) || t) (ap (λ r. bytes_eq r p) same ∙ same_itself p) ∙ or_true (is_some (result_of q records))))
        at (inr d) =
            ap (λ t. cond t (Some Ended) (phase_in q phases)) (other_way q p d)
            ∙ are.phase q
            ∙ ap₂ (λ t s. phase_of t s) (sym (ap (λ t. is_some (result_of q records) || t) d ∙ or_false (is_some (result_of q records)))) (sym (since_others p q d now))

    -- a Finish of an open invocation closes it
    pub closes : (k : ℕ) → phase_in p phases ≡ Some (Open k) → (new_opened : List (ℕ × List ℕ)) → new_opened ≡ remove_entry (is_at (nat_cmp k)) opened → AreLives (x ∷ records) new_phases new_opened
    closes k open_is new_opened opened_is = made (m.Finish p) comes new_phases new_opened phase_ended
        (opened_is
        ∙ ap (remove_entry (is_at (nat_cmp k))) are.opened_are
        ∙ removed p k x.seq now (inits_fall x.seq records records (fall (m.Finish p) comes)) (is_open (is_some (result_of p records)) (open_since p now) k (sym (are.phase p) ∙ open_is))
        ∙ ap by_seqnum (sym (first_others p now)))

    -- and of another one it changes nothing else
    pub closes_none : says_open (phase_in p phases) ≡ false → AreLives (x ∷ records) new_phases opened
    closes_none not_open = made (m.Finish p) comes new_phases opened phase_ended
        (are.opened_are ∙ ap by_seqnum (sym (others_none p now lacks)) ∙ ap by_seqnum (sym (first_others p now)))
      where
        at : (t : Bool) → is_some (result_of p records) ≡ t → (s : Option ℕ) → open_since p now ≡ s → says_open (phase_of t s) ≡ false → has_path p now ≡ false
        at true e s f g = ended_closed p records e records
        at false e None f g = has_since p now ∙ ap is_some f
        at false e (Some n) f g = cc

        lacks : has_path p now ≡ false
        lacks = at (is_some (result_of p records)) refl (open_since p now) refl (sym (ap says_open (are.phase p)) ∙ not_open)
