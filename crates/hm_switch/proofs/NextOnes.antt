-- The next marked record, by the next ones of its tags.
use Rattle.std.proofs.Common.{◌≡◌, ◌⊎◌, inl, inr, ℕ, suc, ◌+◌, ◌^◌, ◌<◌, ◌≤◌, max, Bool, true, false, cond, leb, ◌&&◌, ◌||◌, List, [], ◌∷◌, Option, Some, None, refl, sym, ap, ap₂, subst, ◌∙◌, arith}
use Rattle.std.specs.List.{AllByRecursion}
use Rattle.std.specs.Option.{option_or}
use Rattle.std.proofs.lemmas.Bool.{leb-true, leb-false, le-leb, eq-eqb, ne_eqb, cases_lt, or_from}
use Rattle.lb_base.specs.declared.value.Tag.{Tag}
use Rattle.boki_types.specs.declared.body.Body.{Body}
use Rattle.boki_model.specs.Live.{Live, has_tag}
use Rattle.boki_model.specs.LogLaws.{FallBelow}
use Rattle.boki_model.specs.Reads.{next, read_next}
use Rattle.log_folds.specs.Bounds.{record_at}
use Rattle.log_folds.proofs.UpTo.{past_is_absent}
use Rattle.log_folds.proofs.Said.{is_seen_said}
use Rattle.book_api.specs.Books.{BookState, position, seen, trim_of_bytes}
use Rattle.book_api.proofs.Trimmed.{hidden_none}
use Rattle.step_log.specs.Sound.{body_of, view}
use Rattle.hm_switch.specs.Marks.{is_marked}
use Rattle.hm_switch.specs.Next.{earlier, AreUnmarked, IsNextMarked}

-- the first record from a seqnum on whose tags pass a test
pub record IsFirst (test : List Tag → Bool) (from seq : ℕ) (records : List (Live Body)) : Type 0 where
  pub within : from ≤ seq
  pub record_there : Live Body
  pub there : record_at seq records ≡ Some record_there
  pub before : AllByRecursion (λ (x : Live Body). from ≤ x.seq → x.seq < seq → test x.tags ≡ false) records

abbrev pub IsFirstOf : (List Tag → Bool) → ℕ → Option ℕ → List (Live Body) → Type 0
IsFirstOf test from None records = AllByRecursion (λ (x : Live Body). from ≤ x.seq → test x.tags ≡ false) records
IsFirstOf test from (Some seq) records = IsFirst test from seq records

-- a record that fails, or is too low, doesn't count
failing : (tag a : ℕ) (x : Live Body) → (has_tag tag x.tags && leb a x.seq) ≡ false → a ≤ x.seq → has_tag tag x.tags ≡ false
failing tag a x fails le = at (has_tag tag x.tags) (ap (λ b. has_tag tag x.tags && b) (sym (le-leb a x.seq le)) ∙ fails)
  where
    at : (t : Bool) → (t && true) ≡ false → t ≡ false
    at true e = e
    at false e = refl

module _ (tag a : ℕ) where
  pub first_is : (end : ℕ) (xs : List (Live Body)) → FallBelow end xs → (o : Option ℕ) → next tag a xs ≡ o → IsFirstOf (has_tag tag) a o xs
  first_is end [] fall None is = tt
  first_is end [] fall (Some n) is = cc
  first_is end (x ∷ xs) fall o is = at (next tag a xs) refl (first_is x.seq xs fall.2) (has_tag tag x.tags && leb a x.seq) refl o is
    where
      above : (n : ℕ) → IsFirst (has_tag tag) a n xs → n < x.seq
      above n f = by (cases_lt n x.seq)
        where
          by : (n < x.seq) ⊎ (x.seq ≤ n) → n < x.seq
          by (inl lt) = lt
          by (inr le) = absurd (let none = past_is_absent 0 x.seq n xs fall.2 le in let e = sym f.there ∙ none in let g : ⊥ = cc in g)

      keep : (n : ℕ) → IsFirst (has_tag tag) a n xs → IsFirst (has_tag tag) a n (x ∷ xs)
      keep n f =
          let lt = above n f in
          record {
            within = f.within;
            record_there = f.record_there;
            there = ap (λ t. cond t (Some x) (record_at n xs)) (ne_eqb n x.seq (λ e. omega (arith, e))) ∙ f.there;
            before = (λ low high. absurd (let g : ⊥ = omega arith in g), f.before);
          }

      at : (r : Option ℕ) → next tag a xs ≡ r → ((o : Option ℕ) → next tag a xs ≡ o → IsFirstOf (has_tag tag) a o xs) → (t : Bool) → (has_tag tag x.tags && leb a x.seq) ≡ t
          → (o : Option ℕ) → option_or (next tag a xs) (cond (has_tag tag x.tags && leb a x.seq) (Some x.seq) None) ≡ o → IsFirstOf (has_tag tag) a o (x ∷ xs)
      at (Some n) e ih t f o is =
          subst (λ o. IsFirstOf (has_tag tag) a o (x ∷ xs)) (sym (ap (λ r. option_or r (cond (has_tag tag x.tags && leb a x.seq) (Some x.seq) None)) e) ∙ is) (keep n (ih (Some n) e))
      at None e ih true f o is =
          subst (λ o. IsFirstOf (has_tag tag) a o (x ∷ xs))
          (sym (ap₂ (λ r t. option_or r (cond t (Some x.seq) None)) e f) ∙ is)
          record {
            within = here;
            record_there = x;
            there = ap (λ t. cond t (Some x) (record_at x.seq xs)) (eq-eqb x.seq x.seq refl);
            before = (λ low high. absurd (let g : ⊥ = omega arith in g), weaken xs (ih None e));
          }
        where
          both : (s u : Bool) → (s && u) ≡ true → u ≡ true
          both true u e = e
          both false u e = cc

          here : a ≤ x.seq
          here = leb-true a x.seq (both (has_tag tag x.tags) (leb a x.seq) f)

          weaken : (ys : List (Live Body)) → AllByRecursion (λ (y : Live Body). a ≤ y.seq → has_tag tag y.tags ≡ false) ys → AllByRecursion (λ (y : Live Body). a ≤ y.seq → y.seq < x.seq → has_tag tag y.tags ≡ false) ys
          weaken [] all = tt
          weaken (y ∷ ys) all = (λ low high. all.0 low, weaken ys all.1)
      at None e ih false f o is =
          subst (λ o. IsFirstOf (has_tag tag) a o (x ∷ xs))
          (sym (ap₂ (λ r t. option_or r (cond t (Some x.seq) None)) e f) ∙ is)
          (λ low. failing tag a x f low, ih None e)

-- two tests
module _ (P Q : List Tag → Bool) (a : ℕ) (xs : List (Live Body)) where
  abbrev either : List Tag → Bool
  either t = P t || Q t

  joined : (l : ℕ) (m : ℕ) (ys : List (Live Body)) (n : ℕ) → n ≤ l → n ≤ m
      → AllByRecursion (λ (x : Live Body). a ≤ x.seq → x.seq < l → P x.tags ≡ false) ys
      → AllByRecursion (λ (x : Live Body). a ≤ x.seq → x.seq < m → Q x.tags ≡ false) ys
      → AllByRecursion (λ (x : Live Body). a ≤ x.seq → x.seq < n → either x.tags ≡ false) ys
  joined l m [] n le lf ps qs = tt
  joined l m (y ∷ ys) n le lf ps qs = (λ low high. or_from (P y.tags) (Q y.tags) (ps.0 low (omega arith)) (qs.0 low (omega arith)), joined l m ys n le lf ps.1 qs.1)

  bounded : (R : List Tag → Bool) (m : ℕ) (ys : List (Live Body)) → AllByRecursion (λ (x : Live Body). a ≤ x.seq → R x.tags ≡ false) ys → AllByRecursion (λ (x : Live Body). a ≤ x.seq → x.seq < m → R x.tags ≡ false) ys
  bounded R m [] all = tt
  bounded R m (y ∷ ys) all = (λ low high. all.0 low, bounded R m ys all.1)

  neither : (ys : List (Live Body)) → AllByRecursion (λ (x : Live Body). a ≤ x.seq → P x.tags ≡ false) ys → AllByRecursion (λ (x : Live Body). a ≤ x.seq → Q x.tags ≡ false) ys
      → AllByRecursion (λ (x : Live Body). a ≤ x.seq → either x.tags ≡ false) ys
  neither [] ps qs = tt
  neither (y ∷ ys) ps qs = (λ low. or_from (P y.tags) (Q y.tags) (ps.0 low) (qs.0 low), neither ys ps.1 qs.1)

  pub first_of_two : (o p : Option ℕ) → IsFirstOf P a o xs → IsFirstOf Q a p xs → IsFirstOf either a (earlier o p) xs
  first_of_two None None f g = neither xs f g
  first_of_two None (Some n) f g = record { within = g.within; record_there = g.record_there; there = g.there; before = joined n n xs n (omega arith) (omega arith) (bounded P n xs f) g.before }
  first_of_two (Some m) None f g = record { within = f.within; record_there = f.record_there; there = f.there; before = joined m m xs m (omega arith) (omega arith) f.before (bounded Q m xs g) }
  first_of_two (Some m) (Some n) f g = at (leb m n) refl
    where
      at : (t : Bool) → leb m n ≡ t → IsFirstOf either a (cond t (Some m) (Some n)) xs
      at true e = (let le = leb-true m n e in record { within = f.within; record_there = f.record_there; there = f.there; before = joined m n xs m (omega arith) (omega arith) f.before g.before })
      at false e = (let lt = leb-false m n e in record { within = g.within; record_there = g.record_there; there = g.there; before = joined m n xs n (omega arith) (omega arith) f.before g.before })

-- the next marked one
pub next_is : (p behind : ℕ) (xs : List (Live Body)) (o : Option ℕ) → IsFirstOf is_marked (suc behind) o xs → IsNextMarked p behind o xs
next_is p behind xs None f = at xs f
  where
    at : (ys : List (Live Body)) → AllByRecursion (λ (x : Live Body). suc behind ≤ x.seq → is_marked x.tags ≡ false) ys → AreUnmarked behind (suc p) ys
    at [] all = tt
    at (y ∷ ys) all = (λ low high. all.0 low, at ys all.1)
next_is p behind xs (Some n) f = (let le = f.within in record { later = omega arith; record_there = f.record_there; there = f.there; before = f.before })

-- a read by a tag that isn't a user's
pub read_is : (kept : BookState) (engine tag behind : ℕ) → 2 ^ 56 ≤ tag → read_next trim_of_bytes tag (behind + 1) (seen kept engine) ≡ next tag (suc behind) (view kept engine)
read_is kept engine tag behind great =
    ap (λ h. next tag (max (behind + 1) (suc h)) (seen kept engine)) (hidden_none tag (seen kept engine) great)
    ∙ ap (λ n. next tag n (seen kept engine)) (let e : max (behind + 1) 1 ≡ suc behind = omega arith in e)
    ∙ sym ((is_seen_said body_of kept.shards kept.vectors (position kept engine)).first_from tag (suc behind))
