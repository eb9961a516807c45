-- Loops over the entries of all objects, place by place.
use Rattle.std.proofs.Common.{◌≡◌, ℕ, zero, suc, ◌+◌, ◌<◌, ◌^◌, List, [], ◌∷◌, length, slice_get, sum_by, Some, refl, ap, ◌∙◌, arith}
use Rattle.std.specs.Map.{keys_of, values_of}
use Rattle.std.proofs.lemmas.List.Sums.{sum_by-cons}
use Rattle.indexmap.specs.IndexMap.{set_value_at}
use Rattle.obj_store.specs.Ascending.{Ascend}
use Rattle.obj_store.specs.Kept.{KeptObject}
use Rattle.obj_store.specs.Steps.{AllAscend, swept_object, swept_objects}

-- the first ones have settled
abbrev pub settled_front : ℕ → ℕ → List (List ℕ × KeptObject) → List (List ℕ × KeptObject)
settled_front floor zero es = es
settled_front floor (suc n) [] = []
settled_front floor (suc n) (e ∷ es) = (e.0, swept_object floor e.1) ∷ settled_front floor n es

pub front_here : (floor n : ℕ) (es : List (List ℕ × KeptObject)) → slice_get (settled_front floor n es) n ≡ slice_get es n
front_here floor zero es = refl
front_here floor (suc n) [] = refl
front_here floor (suc n) (e ∷ es) = front_here floor n es

pub front_more : (floor n : ℕ) (es : List (List ℕ × KeptObject)) (e : List ℕ × KeptObject) → slice_get es n ≡ Some e
    → set_value_at (settled_front floor n es) n (swept_object floor e.1) ≡ settled_front floor (suc n) es
front_more floor zero [] e is = refl
front_more floor zero (x ∷ xs) e is = ap (λ (y : List ℕ × KeptObject). let z : List (List ℕ × KeptObject) = (x.0, swept_object floor y.1) ∷ xs in z) (let s : e ≡ x = cc in s)
front_more floor (suc n) [] e is = refl
front_more floor (suc n) (x ∷ xs) e is = ap (λ (l : List (List ℕ × KeptObject)). let z : List (List ℕ × KeptObject) = (x.0, swept_object floor x.1) ∷ l in z) (front_more floor n xs e is)

pub front_end : (floor : ℕ) (es : List (List ℕ × KeptObject)) → settled_front floor (length es) es ≡ swept_objects floor es
front_end floor [] = refl
front_end floor (e ∷ es) = ap (λ (l : List (List ℕ × KeptObject)). let z : List (List ℕ × KeptObject) = (e.0, swept_object floor e.1) ∷ l in z) (front_end floor es)

pub some_entry : (es : List (List ℕ × KeptObject)) (i : ℕ) → i < length es → (e : List ℕ × KeptObject) × (slice_get es i ≡ Some e)
some_entry [] i lt = absurd (let h : ⊥ = omega arith in h)
some_entry (x ∷ xs) zero lt = (x, refl)
some_entry (x ∷ xs) (suc i) lt = some_entry xs i (omega arith)

-- the sum over the first ones
abbrev pub front_sum : (KeptObject → ℕ) → ℕ → List (List ℕ × KeptObject) → ℕ
front_sum f zero es = 0
front_sum f (suc n) [] = 0
front_sum f (suc n) (e ∷ es) = f e.1 + front_sum f n es

pub sum_more : (f : KeptObject → ℕ) (n : ℕ) (es : List (List ℕ × KeptObject)) (e : List ℕ × KeptObject) → slice_get es n ≡ Some e
    → front_sum f (suc n) es ≡ front_sum f n es + f e.1
sum_more f zero [] e is = absurd (let h : ⊥ = cc in h)
sum_more f zero (x ∷ xs) e is = ap (λ (y : List ℕ × KeptObject). f y.1 + 0) (let s : x ≡ e = cc in s) ∙ (let h : f e.1 + 0 ≡ 0 + f e.1 = omega arith in h)
sum_more f (suc n) [] e is = absurd (let h : ⊥ = cc in h)
sum_more f (suc n) (x ∷ xs) e is = omega (arith, sum_more f n xs e is)

pub sum_end : (f : KeptObject → ℕ) (es : List (List ℕ × KeptObject)) → front_sum f (length es) es ≡ sum_by f (values_of es)
sum_end f [] = refl
sum_end f (e ∷ es) = omega (arith, sum_end f es, sum_by-cons f e.1 (values_of es))

-- one turn of such a loop

pub settled_step : (floor i : ℕ) (es ls fs : List (List ℕ × KeptObject)) → AllAscend es → i < length es → ls ≡ settled_front floor i es
    → ((e : List ℕ × KeptObject) → slice_get ls i ≡ Some e → Ascend e.1.versions → fs ≡ set_value_at ls i (swept_object floor e.1))
    → fs ≡ settled_front floor (i + 1) es
settled_step floor i es ls fs up lt is set =
    let there = some_entry es i lt in
    set there.0 (ap (λ (l : List (List ℕ × KeptObject)). slice_get l i) is ∙ front_here floor i es ∙ there.1) (up i there.0 there.1)
    ∙ ap (λ (l : List (List ℕ × KeptObject)). set_value_at l i (swept_object floor there.0.1)) is
    ∙ front_more floor i es there.0 there.1
    ∙ ap (λ (n : ℕ). settled_front floor n es) (let e : suc i ≡ i + 1 = omega arith in e)

pub settled_to_end : (floor i : ℕ) (es ls : List (List ℕ × KeptObject)) → i ≡ length es → ls ≡ settled_front floor i es → ls ≡ swept_objects floor es
settled_to_end floor i es ls end is = is ∙ ap (λ (n : ℕ). settled_front floor n es) end ∙ front_end floor es

pub sum_step : (f : KeptObject → ℕ) (i : ℕ) (es : List (List ℕ × KeptObject)) (old more new : ℕ) → i < length es → front_sum f (i + 1) es < 2 ^ 64
    → (front_sum f i es < 2 ^ 64 → old ≡ front_sum f i es) → ((e : List ℕ × KeptObject) → slice_get es i ≡ Some e → more ≡ f e.1)
    → (old + more < 2 ^ 64 → new ≡ old + more) → new ≡ front_sum f (i + 1) es
sum_step f i es old more new lt fits was adds to =
    let there = some_entry es i lt in
    let e : i + 1 ≡ suc i = omega arith in
    let sum : front_sum f (i + 1) es ≡ front_sum f i es + f there.0.1 = ap (λ (n : ℕ). front_sum f n es) e ∙ sum_more f i es there.0 there.1 in
    let by : more ≡ f there.0.1 = adds there.0 there.1 in
    let before : old ≡ front_sum f i es = was (omega (arith, sum, fits)) in
    to (omega (arith, sum, by, before, fits)) ∙ (let h : old + more ≡ front_sum f (i + 1) es = omega (arith, sum, by, before) in h)

pub sum_to_end : (f : KeptObject → ℕ) (i : ℕ) (es : List (List ℕ × KeptObject)) (n : ℕ) → i ≡ length es → sum_by f (values_of es) < 2 ^ 64
    → (front_sum f i es < 2 ^ 64 → n ≡ front_sum f i es) → n ≡ sum_by f (values_of es)
sum_to_end f i es n end fits is =
    let e : front_sum f i es ≡ sum_by f (values_of es) = ap (λ (m : ℕ). front_sum f m es) end ∙ sum_end f es in
    is (omega (arith, e, fits)) ∙ e

-- one entry written at its place

pub keys_set_at : (es : List (List ℕ × KeptObject)) (i : ℕ) (w : KeptObject) → keys_of (set_value_at es i w) ≡ keys_of es
keys_set_at [] i w = refl
keys_set_at (e ∷ es) zero w = refl
keys_set_at (e ∷ es) (suc i) w = ap (λ (l : List (List ℕ)). let k : List (List ℕ) = e.0 ∷ l in k) (keys_set_at es i w)

pub value_at_place : (es : List (List ℕ × KeptObject)) (i : ℕ) (e : List ℕ × KeptObject) → slice_get es i ≡ Some e → slice_get (values_of es) i ≡ Some e.1
value_at_place [] i e is = absurd (let h : ⊥ = cc in h)
value_at_place (x ∷ xs) zero e is = ap (λ (y : List ℕ × KeptObject). Some y.1) (let s : x ≡ e = cc in s)
value_at_place (x ∷ xs) (suc i) e is = value_at_place xs i e is
