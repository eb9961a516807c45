-- Fronts of a class.
use Rattle.std.proofs.Common.{◌≡◌, ℕ, zero, suc, ◌+◌, ◌<◌, ◌≤◌, Bool, true, false, List, [], ◌∷◌, ◌++◌, length, take, drop, get_or, refl, sym, ap, ◌∙◌, subst, arith, length-append}
use Rattle.std.proofs.lemmas.List.{take_at, drop_at, get_or_append_left}
use Rattle.std.proofs.lemmas.Bool.Decides.{nat_tests}
use Rattle.std.specs.Str.{IsUtf8, IsCharBoundary}
use Rattle.std.proofs.lemmas.Str.{IsCharBoundary-start, IsCharBoundary-after_ascii}
use Rattle.line_text.specs.declared.spans.CharClass.{CharClass}
use Rattle.line_text.specs.declared.spans.CharClass.TheVariants.{Numeric, Word, Space}
use Rattle.line_text.specs.Tokens.{in_class, span, span_step}

figure : (c : ℕ) → in_class Numeric c ≡ true → c < 128
figure c h = grind (arith, nat_tests, h)

word : (c : ℕ) → in_class Word c ≡ true → c < 128
word c h = grind (arith, nat_tests, h)

space : (c : ℕ) → in_class Space c ≡ true → c < 128
space c h = grind (arith, nat_tests, h)

in_class_ascii : (k : CharClass) (c : ℕ) → in_class k c ≡ true → c < 128
in_class_ascii Numeric c h = figure c h
in_class_ascii Word c h = word c h
in_class_ascii Space c h = space c h

joined_by : (t : Bool) (c : ℕ) (cs : List ℕ) (p : List ℕ × List ℕ) → p.0 ++ p.1 ≡ cs → (span_step t c cs p).0 ++ (span_step t c cs p).1 ≡ c ∷ cs
joined_by true c cs p h = ap (λ l. c ∷ l) h
joined_by false c cs p h = refl

pub span_joined : (k : CharClass) (text : List ℕ) → (span k text).0 ++ (span k text).1 ≡ text
span_joined k [] = refl
span_joined k (c ∷ cs) = joined_by (in_class k c) c cs (span k cs) (span_joined k cs)

ascii_by : (k : CharClass) (t : Bool) (c : ℕ) (cs : List ℕ) (p : List ℕ × List ℕ) → in_class k c ≡ t → ((i : ℕ) → i < length p.0 → get_or p.0 i 0 < 128) → (i : ℕ) → i < length (span_step t c cs p).0 → get_or (span_step t c cs p).0 i 0 < 128
ascii_by k true c cs p e h zero l = in_class_ascii k c e
ascii_by k true c cs p e h (suc i) l = h i (omega arith)
ascii_by k false c cs p e h i l = absurd (omega arith)

pub span_ascii : (k : CharClass) (text : List ℕ) (i : ℕ) → i < length (span k text).0 → get_or (span k text).0 i 0 < 128
span_ascii k [] i l = absurd (omega arith)
span_ascii k (c ∷ cs) i l = ascii_by k (in_class k c) c cs (span k cs) refl (span_ascii k cs) i l

boundary_by : (n : ℕ) (text : List ℕ) → n ≤ length text → ((i : ℕ) → i < n → get_or text i 0 < 128) → IsUtf8 text → IsCharBoundary text n
boundary_by zero text l h u = IsCharBoundary-start text u
boundary_by (suc n) text l h u =
    let e : n + 1 ≡ suc n = omega arith in
    subst (λ (i : ℕ). IsCharBoundary text i) e (IsCharBoundary-after_ascii text n u (omega arith) (h n (omega arith)))

front_reads : (k : CharClass) (text : List ℕ) (i : ℕ) → i < length (span k text).0 → get_or text i 0 < 128
front_reads k text i l =
    let e = ap (λ t. get_or t i 0) (span_joined k text) in
    let f = get_or_append_left (span k text).0 (span k text).1 0 i l in
    omega (arith, e, f, span_ascii k text i l)

pub boundary : (k : CharClass) (text : List ℕ) → IsUtf8 text → IsCharBoundary text (length (span k text).0)
boundary k text u =
    boundary_by (length (span k text).0) text (omega (arith, ap length (span_joined k text), length-append (span k text).0 (span k text).1)) (front_reads k text) u

pub front_is : (k : CharClass) (text : List ℕ) → take (length (span k text).0) text ≡ (span k text).0
front_is k text = ap (take (length (span k text).0)) (sym (span_joined k text)) ∙ take_at (span k text).0 (span k text).1 _ refl

pub rest_is : (k : CharClass) (text : List ℕ) → drop (length (span k text).0) text ≡ (span k text).1
rest_is k text = ap (drop (length (span k text).0)) (sym (span_joined k text)) ∙ drop_at (span k text).0 (span k text).1 _ refl

pub pairs : {A B : Type 0} (a : A) (b : B) (p : A × B) → a ≡ p.0 → b ≡ p.1 → (a, b) ≡ p
pairs {A} {B} a b p h k = ap (λ (x : A). (x, b)) h ∙ ap (λ (y : B). (p.0, y)) k
