-- The tags of a record, one by one.
use Rattle.std.proofs.Common.{◌≡◌, ℕ, zero, suc, ◌+◌, ◌<◌, Bool, true, false, ◌||◌, eqb, List, [], ◌∷◌, length, take, get_or, refl, ap, ◌∙◌, arith}
use Rattle.std.proofs.lemmas.Bool.{eq-eqb}
use Rattle.lb_base.specs.declared.value.Tag.{Tag}
use Rattle.boki_model.specs.Live.{has_tag}

has_tag_take : (tag : ℕ) (ts : List Tag) (i : ℕ) (d : Tag) → i < length ts → has_tag tag (take (suc i) ts) ≡ (has_tag tag (take i ts) || eqb tag (get_or ts i d).0)
has_tag_take tag [] i d lt = absurd (let h : ⊥ = omega arith in h)
has_tag_take tag (t ∷ ts) zero d lt = or_false (eqb tag t.0)
  where
    or_false : (b : Bool) → (b || false) ≡ b
    or_false true = refl
    or_false false = refl
has_tag_take tag (t ∷ ts) (suc i) d lt = ap (λ b. eqb tag t.0 || b) (has_tag_take tag ts i d (omega arith)) ∙ or_assoc (eqb tag t.0) (has_tag tag (take i ts)) (eqb tag (get_or ts i d).0)
  where
    or_assoc : (a b c : Bool) → (a || (b || c)) ≡ ((a || b) || c)
    or_assoc true b c = refl
    or_assoc false b c = refl

-- the tags up to a place, and the one there
pub has_tag_more : (tag : ℕ) (ts : List Tag) (i : ℕ) (d : Tag) → i < length ts → has_tag tag (take (i + 1) ts) ≡ (has_tag tag (take i ts) || eqb tag (get_or ts i d).0)
has_tag_more tag ts i d lt = ap (λ n. has_tag tag (take n ts)) (let e : i + 1 ≡ suc i = omega arith in e) ∙ has_tag_take tag ts i d lt

-- a tag of the record is one of its tags
pub has_tag_at : (ts : List Tag) (i : ℕ) (d : Tag) → i < length ts → has_tag (get_or ts i d).0 ts ≡ true
has_tag_at [] i d lt = absurd (let h : ⊥ = omega arith in h)
has_tag_at (t ∷ ts) zero d lt = ap (λ b. b || has_tag t.0 ts) (eq-eqb t.0 t.0 refl)
has_tag_at (t ∷ ts) (suc i) d lt = ap (λ b. eqb (get_or ts i d).0 t.0 || b) (has_tag_at ts i d (omega arith)) ∙ or_true (eqb (get_or ts i d).0 t.0)
  where
    or_true : (b : Bool) → (b || true) ≡ true
    or_true true = refl
    or_true false = refl
