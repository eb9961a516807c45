-- Lists of nemeses, seen as their automata.
use Rattle.std.proofs.Common.{◌≡◌, ℕ, ◌+◌, ◌<◌, List, [], ◌∷◌, ◌++◌, length, take, drop, get_or, Option, Some, zero, suc, Bool, cond, refl, sym, ap, ◌∙◌, arith, append_assoc, length-append, length-take, length-drop}
use Rattle.std.specs.Prelude.{map, slice_get, slice_set, remove}
use Rattle.std.proofs.lemmas.List.{map-set, map-append, length-map, drop_more, take_more, set_at, get_or_at, take-map, drop-map}
use Rattle.boki_types.specs.declared.event.Event.{Event}
use Rattle.nemesis_types.specs.declared.seen.Seen.{Seen}
use Rattle.nemesis_types.specs.Automaton.{answer_of, is_spent}
use Rattle.nemesis_types.specs.Kept.{NumberedNemesis, after_asking, after_reseeding, spent_by, spent_at, next_asked_index, without_spent}

pub get-map : {B C : Type 0} (f : B → C) (xs : List B) (i : ℕ) (x : B) → i < length xs → x ≡ get_or xs i x → slice_get (map f xs) i ≡ Some (f x)
get-map f [] i x h e = absurd (omega arith)
get-map f (y ∷ ys) zero x h e = ap (λ z. Some (f z)) (sym e)
get-map f (y ∷ ys) (suc i) x h e = get-map f ys i x (omega arith) e

pub asked_at : {B : Type 0} (f : B → NumberedNemesis) (xs : List B) (i : ℕ) (x y : B) (seen : Seen) (p : ℕ × Option Event) → i < length xs → x ≡ get_or xs i x → f y ≡ after_asking seen (f x) → p ≡ ((f x).number, answer_of (f x).automaton seen) → (k : NumberedNemesis) × (slice_get (map f xs) i ≡ Some k) × (p ≡ (k.number, answer_of k.automaton seen)) × (map f (slice_set xs i y) ≡ slice_set (map f xs) i (after_asking seen k))
asked_at f xs i x y seen p within is after told =
    (f x, get-map f xs i x within is, told, map-set f xs i y ∙ ap (slice_set (map f xs) i) after)

get_or-map : {B C : Type 0} (f : B → C) (xs : List B) (i : ℕ) (d : B) → get_or (map f xs) i (f d) ≡ f (get_or xs i d)
get_or-map f [] i d = refl
get_or-map f (x ∷ xs) zero d = refl
get_or-map f (x ∷ xs) (suc i) d = get_or-map f xs i d

pub seeded_more : {B : Type 0} (f : B → NumberedNemesis) (xs : List B) (ks : List NumberedNemesis) (i : ℕ) (d y : B) (n : ℕ) → i < length xs → f y ≡ after_reseeding n (f (get_or xs i d)) → map f xs ≡ map (after_reseeding n) (take i ks) ++ drop i ks → map f (slice_set xs i y) ≡ map (after_reseeding n) (take (i + 1) ks) ++ drop (i + 1) ks
seeded_more f xs ks i d y n within after h =
    let k = get_or ks i (f d) in
    let done = map (after_reseeding n) (take i ks) in
    let long : i < length ks = omega (arith, ap length h, length-map xs f, length-append done (drop i ks), length-map (take i ks) (after_reseeding n), length-take i ks, length-drop i ks) in
    let len : length done ≡ i = omega (arith, length-map (take i ks) (after_reseeding n), length-take i ks) in
    let split : map f xs ≡ done ++ k ∷ drop (i + 1) ks = h ∙ ap (λ l. done ++ l) (drop_more ks i (f d) long) in
    let here : f (get_or xs i d) ≡ k = sym (get_or-map f xs i d) ∙ ap (λ l. get_or l i (f d)) split ∙ get_or_at done k (drop (i + 1) ks) (f d) i len in
    map-set f xs i y
    ∙ ap (slice_set (map f xs) i) (after ∙ ap (after_reseeding n) here)
    ∙ ap (λ l. slice_set l i (after_reseeding n k)) split
    ∙ set_at done k (drop (i + 1) ks) (after_reseeding n k) i len
    ∙ sym (append_assoc done (after_reseeding n k ∷ []) (drop (i + 1) ks))
    ∙ ap (λ l. l ++ drop (i + 1) ks) (sym (ap (map (after_reseeding n)) (take_more ks i (f d) long) ∙ map-append (after_reseeding n) (take i ks) (k ∷ [])))

spent_is : {B : Type 0} (f : B → NumberedNemesis) (xs : List B) (i : ℕ) (x : B) → i < length xs → x ≡ get_or xs i x → spent_at (map f xs) i ≡ is_spent (f x).automaton
spent_is f xs i x within is = ap spent_by (get-map f xs i x within is)

map-remove : {B C : Type 0} (f : B → C) (xs : List B) (i : ℕ) → map f (remove xs i) ≡ remove (map f xs) i
map-remove f xs i =
    map-append f (take i xs) (drop (suc i) xs)
    ∙ ap (λ l. l ++ map f (drop (suc i) xs)) (sym (take-map f i xs))
    ∙ ap (λ l. take i (map f xs) ++ l) (sym (drop-map f (suc i) xs))

-- what drop_spent leaves, by its test
spent_so : {B : Type 0} (f : B → NumberedNemesis) (xs : List B) (i : ℕ) (x : B) (t : Bool) → i < length xs → x ≡ get_or xs i x → t ≡ is_spent (f x).automaton → spent_at (map f xs) i ≡ t
spent_so f xs i x t within is e = spent_is f xs i x within is ∙ sym e

pub next_so : {B : Type 0} (f : B → NumberedNemesis) (xs : List B) (i : ℕ) (x : B) (t : Bool) → i < length xs → x ≡ get_or xs i x → t ≡ is_spent (f x).automaton → cond t i (i + 1) ≡ next_asked_index (map f xs) i
next_so f xs i x t within is e = ap (λ b. cond b i (i + 1)) (sym (spent_so f xs i x t within is e))

pub kept_so : {B : Type 0} (f : B → NumberedNemesis) (xs ys : List B) (i : ℕ) (x : B) (t : Bool) → i < length xs → x ≡ get_or xs i x → t ≡ is_spent (f x).automaton → map f ys ≡ cond t (remove (map f xs) i) (map f xs) → map f ys ≡ without_spent (map f xs) i
kept_so f xs ys i x t within is e h = h ∙ ap (λ b. cond b (remove (map f xs) i) (map f xs)) (sym (spent_so f xs i x t within is e))

pub removed : {B C : Type 0} (f : B → C) (xs ys : List B) (i : ℕ) → ys ≡ remove xs i → map f ys ≡ remove (map f xs) i
removed f xs ys i e = ap (map f) e ∙ map-remove f xs i
