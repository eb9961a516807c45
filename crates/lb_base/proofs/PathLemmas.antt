-- A path is made of its numbers, one after another.
use Rattle.std.proofs.Common.{◌≡◌, ℕ, suc, ◌+◌, ◌<◌, ◌≤◌, Bool, true, false, List, [], ◌∷◌, ◌++◌, length, ltb, Option, Some, None, if◌then◌else◌, refl, sym, ap, ◌∙◌, append_assoc, length-append, lt-ltb, ltb-true, arith}
use Rattle.std.specs.Prelude.{◌&&◌}
use Rattle.std.proofs.lemmas.List.{append-nil}
use Rattle.std.proofs.lemmas.Bool.Decides.{nat_tests}
use Rattle.lb_base.specs.Path.{is_request, is_ordinal, are_ordinals, request_path, path_of}

-- the path with these ordinals behind it, one after another
abbrev pub grown : List ℕ → List ℕ → Option (List ℕ)
grown p [] = Some p
grown p (n ∷ ns) = if is_ordinal n && ltb (length p) 4 then grown (p ++ n ∷ []) ns else None

chosen : (b : Bool) (x : List ℕ) → b ≡ true → (if b then Some x else None) ≡ Some x
chosen true x e = refl
chosen false x e = absurd (cc)

left_out : (a b : Bool) (x : List ℕ) → b ≡ false → (if a && b then Some x else None) ≡ None
left_out true b x e = ap (λ t. if t then Some x else None) e
left_out false b x e = refl

same_choice : (a b c : Bool) (x y : List ℕ) → b ≡ c → x ≡ y → (if a && b then Some x else None) ≡ (if a && c then Some y else None)
same_choice a b c x y e f = ap (λ t. if a && t then Some x else None) e ∙ ap (λ l. if a && c then Some l else None) f

-- All of the ordinals are put behind the path, where they are ordinals and there is room for them.
abbrev AllOrNone : List ℕ → List ℕ → Type 0
AllOrNone p ns = grown p ns ≡ (if are_ordinals ns && ltb (length p + length ns) 5 then Some (p ++ ns) else None)

grown_by : (p ns : List ℕ) (n : ℕ) (o l : Bool) → ltb (length p) 4 ≡ l → (length (p ++ n ∷ []) ≤ 4 → AllOrNone (p ++ n ∷ []) ns) → (if o && l then grown (p ++ n ∷ []) ns else None) ≡ (if (o && are_ordinals ns) && ltb (length p + suc (length ns)) 5 then Some (p ++ n ∷ ns) else None)
grown_by p ns n true true e h =
    let len : length (p ++ n ∷ []) ≡ length p + 1 = length-append p (n ∷ []) in
    let few : length p < 4 = ltb-true _ _ e in
    let room : ltb (length (p ++ n ∷ []) + length ns) 5 ≡ ltb (length p + suc (length ns)) 5 = ap (λ m. ltb m 5) (omega (arith, len)) in
    h (omega arith) ∙ same_choice (are_ordinals ns) _ _ _ _ room (append_assoc p (n ∷ []) ns)
grown_by p ns n true false e h =
    let full : ltb (length p + suc (length ns)) 5 ≡ false = grind (arith, nat_tests, e) in
    sym (left_out (are_ordinals ns) _ (p ++ n ∷ ns) full)
grown_by p ns n false l e h = refl

grown_is : (p ns : List ℕ) → length p ≤ 4 → AllOrNone p ns
grown_is p [] few =
    let room : ltb (length p + 0) 5 ≡ true = lt-ltb _ _ (omega arith) in
    sym (chosen (ltb (length p + 0) 5) (p ++ []) room ∙ ap (λ (l : List ℕ). Some l) (append-nil p))
grown_is p (n ∷ ns) few = grown_by p ns n (is_ordinal n) (ltb (length p) 4) refl (λ h. grown_is (p ++ n ∷ []) ns h)

start_by : (path rest : List ℕ) (first : ℕ) (b : Bool) → Some path ≡ (if b then Some (first ∷ []) else None) → grown path rest ≡ (if (b && are_ordinals rest) && ltb (length rest) 4 then Some (first ∷ rest) else None)
start_by path rest first true e =
    let same : first ∷ [] ≡ path = cc in
    let room : ltb (1 + length rest) 5 ≡ ltb (length rest) 4 = grind (arith, nat_tests) in
    ap (λ l. grown l rest) (sym same) ∙ grown_is (first ∷ []) rest (omega arith) ∙ same_choice (are_ordinals rest) _ _ _ _ room refl
start_by path rest first false e = absurd (cc)

-- The numbers behind a request.
pub grown_start : (path rest numbers : List ℕ) (first : ℕ) → Some path ≡ request_path first → numbers ≡ first ∷ rest → grown path rest ≡ path_of numbers
grown_start path rest numbers first e split = start_by path rest first (is_request first) e ∙ sym (ap path_of split)
