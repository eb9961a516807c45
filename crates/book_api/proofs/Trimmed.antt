-- What is hidden of a tag, by the records of its trims alone.
use Rattle.std.proofs.Common.{◌≡◌, ℕ, suc, ◌+◌, ◌-◌, ◌^◌, ◌<◌, ◌≤◌, min, max, Bool, true, false, ◌&&◌, cond, eqb, leb, List, [], ◌∷◌, ◌++◌, length, map, take, reverse, get_or, Option, Some, None, option_map, refl, sym, ap, ap₂, subst, ◌∙◌, arith}
use Rattle.std.specs.Option.{option_map_or}
use Rattle.std.proofs.lemmas.Bool.{eq-eqb, ne_eqb}
use Rattle.std.proofs.lemmas.List.{length-map, take_more}
use mathlib.Core.List.{reverse-cons}
use Rattle.lb_base.specs.declared.value.Record.{Record}
use Rattle.lb_base.specs.declared.value.Tag.{Tag}
use Rattle.boki_model.specs.Live.{LogRecord, Live, entry_of, has_tag, meets_condition, live, upto}
use Rattle.boki_model.specs.Reads.{tagged_seqnums, trim_bound, hidden_bound}
use Rattle.boki_model.specs.Bodies.{tag_number}
use Rattle.boki_model.specs.Order.{at_seq}
use Rattle.boki_model.specs.LogLaws.{FallBelow}
use Rattle.boki_model.proofs.Logs.{live_falls}
use Rattle.book_api.specs.Books.{trim_of_bytes}
use Rattle.book_api.specs.Trims.{bound_of, bound_at}
use Rattle.book_api.proofs.TrimsLow.{trim_low}

-- The most of a function over a list.
abbrev pub most_of : (ℕ → ℕ) → List ℕ → ℕ
most_of f [] = 0
most_of f (x ∷ xs) = max (f x) (most_of f xs)

most_push : (f : ℕ → ℕ) (xs : List ℕ) (y : ℕ) → most_of f (xs ++ y ∷ []) ≡ max (most_of f xs) (f y)
most_push f [] y = omega arith
most_push f (x ∷ xs) y = omega (arith, most_push f xs y)

most_reverse : (f : ℕ → ℕ) (xs : List ℕ) → most_of f (reverse xs) ≡ most_of f xs
most_reverse f [] = refl
most_reverse f (x ∷ xs) = ap (most_of f) (reverse-cons x xs) ∙ most_push f (reverse xs) x ∙ omega (arith, most_reverse f xs)

pub most_more : (f : ℕ → ℕ) (xs : List ℕ) (i bound y : ℕ) → i < length xs → y ≡ f (get_or xs i 0) → bound ≡ most_of f (take i xs) → max bound y ≡ most_of f (take (i + 1) xs)
most_more f xs i bound y lt is so_far =
    ap₂ max so_far is ∙ sym (most_push f (take i xs) (get_or xs i 0)) ∙ ap (most_of f) (sym (take_more xs i 0 lt))

-- Live records hold what the log has at their seqnums.
abbrev AreHeld : List Record → List (Live (List ℕ)) → Type 0
AreHeld records [] = Unit {0}
AreHeld records (x ∷ xs) = (option_map (λ r. r.bytes) (at_seq x.seq records) ≡ Some x.holds) × AreHeld records xs

held_more : (n : ℕ) (r : Record) (records : List Record) (xs : List (Live (List ℕ))) → FallBelow n xs → n ≤ suc (length records) → AreHeld records xs → AreHeld (r ∷ records) xs
held_more n r records [] fall le held = tt
held_more n r records (x ∷ xs) fall le held = (
  ap (λ b. option_map (λ (r : Record). r.bytes) (cond b (Some r) (at_seq x.seq records))) (ne_eqb x.seq (suc (length records)) (λ e. omega (arith, fall.1))) ∙ held.0,
  held_more x.seq r records xs fall.2 (omega (arith, fall.1)) held.1,
)

live_held : (records : List Record) → AreHeld records (live (map entry_of records))
live_held [] = tt
live_held (r ∷ records) = at (live_held records) (meets_condition r.cond (live (map entry_of records)))
  where
    log : List (LogRecord (List ℕ))
    log = map entry_of records

    count : length log ≡ length records
    count = length-map records entry_of

    more : AreHeld records (live log) → AreHeld (r ∷ records) (live log)
    more held = held_more (suc (length log)) r records (live log) (live_falls log) (omega (arith, count)) held

    newest : Live (List ℕ)
    newest = record { seq = suc (length log); tags = r.tags; holds = r.bytes }

    at : AreHeld records (live log) → (b : Bool) → AreHeld (r ∷ records) (cond b (newest ∷ live log) (live log))
    at held true = (
      ap (λ b. option_map (λ (r : Record). r.bytes) (cond b (Some r) (at_seq (suc (length log)) records))) (eq-eqb (suc (length log)) (suc (length records)) (ap suc count)),
      more held,
    )
    at held false = more held

upto_held : (p : ℕ) (records : List Record) (xs : List (Live (List ℕ))) → AreHeld records xs → AreHeld records (upto p xs)
upto_held p records [] held = tt
upto_held p records (x ∷ xs) held = at (upto_held p records xs held.1) (leb x.seq p)
  where
    at : AreHeld records (upto p xs) → (b : Bool) → AreHeld records (cond b (x ∷ xs) (upto p xs))
    at ih true = held
    at ih false = ih

-- What one hides.

bound_here : (tag seq : ℕ) (records : List Record) (bytes : List ℕ) → option_map (λ r. r.bytes) (at_seq seq records) ≡ Some bytes → bound_at tag records seq ≡ bound_of tag seq (trim_of_bytes bytes)
bound_here tag seq records bytes is = at (at_seq seq records) is
  where
    at : (o : Option Record) → option_map (λ r. r.bytes) o ≡ Some bytes → option_map_or (λ (r : Record). bound_of tag seq (trim_of_bytes r.bytes)) o 0 ≡ bound_of tag seq (trim_of_bytes bytes)
    at None e = cc
    at (Some r) e = ap (λ b. bound_of tag seq (trim_of_bytes b)) (let same : r.bytes ≡ bytes = cc in same)

hides_tagged : (tag seq : ℕ) (tags : List Tag) (t : Option (ℕ × ℕ)) → has_tag (tag_number 8 tag) tags ≡ true → trim_bound tag seq tags t ≡ bound_of tag seq t
hides_tagged tag seq tags None has = refl
hides_tagged tag seq tags (Some t) has = ap (λ b. cond (eqb tag t.0 && b) (min t.1 seq) 0) has ∙ at (eqb tag t.0)
  where
    at : (b : Bool) → cond (b && true) (min t.1 seq) 0 ≡ cond b (min t.1 seq) 0
    at true = refl
    at false = refl

hides_other : (tag seq : ℕ) (tags : List Tag) (t : Option (ℕ × ℕ)) → has_tag (tag_number 8 tag) tags ≡ false → trim_bound tag seq tags t ≡ 0
hides_other tag seq tags None has = refl
hides_other tag seq tags (Some t) has = ap (λ b. cond (eqb tag t.0 && b) (min t.1 seq) 0) has ∙ at (eqb tag t.0)
  where
    at : (b : Bool) → cond (b && false) (min t.1 seq) 0 ≡ 0
    at true = refl
    at false = refl

hidden_most : (tag : ℕ) (records : List Record) (xs : List (Live (List ℕ))) → AreHeld records xs → hidden_bound trim_of_bytes tag xs ≡ most_of (bound_at tag records) (tagged_seqnums (tag_number 8 tag) xs)
hidden_most tag records [] held = refl
hidden_most tag records (x ∷ xs) held = at (hidden_most tag records xs held.1) (has_tag (tag_number 8 tag) x.tags) refl
  where
    at : hidden_bound trim_of_bytes tag xs ≡ most_of (bound_at tag records) (tagged_seqnums (tag_number 8 tag) xs) → (b : Bool) → has_tag (tag_number 8 tag) x.tags ≡ b
        → max (trim_bound tag x.seq x.tags (trim_of_bytes x.holds)) (hidden_bound trim_of_bytes tag xs) ≡ most_of (bound_at tag records) (cond b (x.seq ∷ tagged_seqnums (tag_number 8 tag) xs) (tagged_seqnums (tag_number 8 tag) xs))
    at ih true has = ap₂ max (hides_tagged tag x.seq x.tags (trim_of_bytes x.holds) has ∙ sym (bound_here tag x.seq records x.holds held.0)) ih
    at ih false has =
        let none = hides_other tag x.seq x.tags (trim_of_bytes x.holds) has in
        let least : max 0 (hidden_bound trim_of_bytes tag xs) ≡ hidden_bound trim_of_bytes tag xs = omega arith in
        ap (λ n. max n (hidden_bound trim_of_bytes tag xs)) none ∙ least ∙ ih

-- what an engine at the position doesn't see is the most that the trims hide
pub hidden_is : (tag p : ℕ) (records : List Record) (trims : List ℕ) → trims ≡ reverse (tagged_seqnums (tag_number 8 tag) (upto p (live (map entry_of records))))
    → hidden_bound trim_of_bytes tag (upto p (live (map entry_of records))) ≡ most_of (bound_at tag records) trims
hidden_is tag p records trims is =
    hidden_most tag records (upto p (live (map entry_of records))) (upto_held p records (live (map entry_of records)) (live_held records))
    ∙ sym (most_reverse (bound_at tag records) (tagged_seqnums (tag_number 8 tag) (upto p (live (map entry_of records)))))
    ∙ ap (most_of (bound_at tag records)) (sym is)

-- no trim is of another's tag
hides_none : (tag seq : ℕ) (tags : List Tag) (bytes : List ℕ) → 2 ^ 56 ≤ tag → trim_bound tag seq tags (trim_of_bytes bytes) ≡ 0
hides_none tag seq tags bytes great = at (trim_of_bytes bytes) refl
  where
    at : (t : Option (ℕ × ℕ)) → trim_of_bytes bytes ≡ t → trim_bound tag seq tags t ≡ 0
    at None is = refl
    at (Some t) is =
        let low = trim_low bytes t is in
        ap (λ b. cond (b && has_tag (tag_number 8 tag) tags) (min t.1 seq) 0) (ne_eqb tag t.0 (λ e. omega arith))

pub hidden_none : (tag : ℕ) (xs : List (Live (List ℕ))) → 2 ^ 56 ≤ tag → hidden_bound trim_of_bytes tag xs ≡ 0
hidden_none tag [] great = refl
hidden_none tag (x ∷ xs) great = omega (arith, hides_none tag x.seq x.tags x.holds great, hidden_none tag xs great)

-- What is hidden has been seen.

hides_most : (tag seq : ℕ) (tags : List Tag) (t : Option (ℕ × ℕ)) → trim_bound tag seq tags t ≤ seq
hides_most tag seq tags None = omega arith
hides_most tag seq tags (Some t) = at (eqb tag t.0 && has_tag (tag_number 8 tag) tags)
  where
    at : (b : Bool) → cond b (min t.1 seq) 0 ≤ seq
    at true = omega arith
    at false = omega arith

pub hidden_below : (n tag : ℕ) (xs : List (Live (List ℕ))) → FallBelow (suc n) xs → hidden_bound trim_of_bytes tag xs ≤ n
hidden_below n tag [] fall = omega arith
hidden_below n tag (x ∷ xs) fall =
    let first = hides_most tag x.seq x.tags (trim_of_bytes x.holds) in
    let rest = below x.seq xs fall.0 fall.2 (hidden_below (x.seq - 1) tag xs) in
    omega (arith, fall.1)
  where
    below : (m : ℕ) (ys : List (Live (List ℕ))) → 0 < m → FallBelow m ys → (FallBelow (suc (m - 1)) ys → hidden_bound trim_of_bytes tag ys ≤ m - 1) → hidden_bound trim_of_bytes tag ys ≤ m - 1
    below m ys low f ih = ih (subst (λ k. FallBelow k ys) (let e : m ≡ suc (m - 1) = omega arith in e) f)

pub hidden_seen : (tag p : ℕ) (log : List (LogRecord (List ℕ))) (view : List (Live (List ℕ))) → live log ≡ view → length log ≡ p → hidden_bound trim_of_bytes tag view ≤ p
hidden_seen tag p log view is long = hidden_below p tag view (subst (λ n. FallBelow (suc n) view) long (subst (FallBelow (suc (length log))) is (live_falls log)))
