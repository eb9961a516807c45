-- The one nemesis that is kept, of a list of them.
use Rattle.std.proofs.Common.{◌≡◌, ℕ, ◌+◌, ◌<◌, ◌≤◌, List, [], ◌∷◌, ◌⊎◌, inl, inr, length, get_or, zero, suc, false, refl, sym, ap, ◌∙◌, arith}
use Rattle.std.specs.Prelude.{map}
use Rattle.std.proofs.lemmas.Bool.{eq-eqb}
use Rattle.std.proofs.lemmas.List.{length-map}
use Rattle.std.proofs.lemmas.Bool.Decides.{eqb_tells}
use Rattle.nemesis_types.specs.Automaton.{Automaton}
use Rattle.nemesis_types.specs.Kept.{numbered_nemesis, one_kept, kept_from}
use Rattle.std.proofs.Math.Dec.{eqb}

other_number : (n i : ℕ) → (n < i) ⊎ (i < n) → eqb n i ≡ false
other_number n i apart = elim (eqb_tells n i) [ inl same ↦ absurd (omega (arith, same.1, apart)) | inr other ↦ other.0 ]

-- No nemesis has a number outside the list's.
none_before : (i n : ℕ) (ms : List Automaton) → i < n → kept_from (λ j. eqb j i) n ms ≡ []
none_before i n [] below = refl
none_before i n (m ∷ ms) below = rw (other_number n i (inr below)) (none_before i (n + 1) ms (omega arith))

none_after : (i n : ℕ) (ms : List Automaton) → n + length ms ≤ i → kept_from (λ j. eqb j i) n ms ≡ []
none_after i n [] above = refl
none_after i n (m ∷ ms) above = rw (other_number n i (inl (omega arith))) (none_after i (n + 1) ms (omega arith))

pub kept_at : {B : Type 0} (f : B → Automaton) (xs : List B) (i n k : ℕ) (d : B) → k < length xs → i ≡ n + k → numbered_nemesis i (f (get_or xs k d)) ∷ [] ≡ kept_from (λ j. eqb j i) n (map f xs)
kept_at f [] i n k d within is = absurd (omega arith)
kept_at f (x ∷ xs) i n zero d within is = rw (eq-eqb n i (omega (arith, is))) (ap (λ j. numbered_nemesis j (f x) ∷ []) (omega (arith, is)) ∙ ap (λ l. numbered_nemesis n (f x) ∷ l) (sym (none_before i (n + 1) (map f xs) (omega (arith, is)))))
kept_at f (x ∷ xs) i n (suc k) d within is = rw (other_number n i (inl (omega (arith, is)))) (kept_at f xs i (n + 1) k d (omega arith) (omega (arith, is)))

pub none_kept : {B : Type 0} (f : B → Automaton) (xs : List B) (i : ℕ) → (i ≡ 0) ⊎ (length xs < i) → [] ≡ one_kept i (map f xs)
none_kept f xs i (inl e) = sym (none_before i 1 (map f xs) (omega (arith, e)))
none_kept f xs i (inr above) = sym (none_after i 1 (map f xs) (omega (arith, length-map xs f)))
