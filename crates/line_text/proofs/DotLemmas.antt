-- Numbers with dots between them, one after another.
use Rattle.std.proofs.Common.{◌≡◌, ℕ, ◌+◌, ◌<◌, Bool, true, false, cond, eqb, List, [], ◌∷◌, ◌++◌, length, drop, get_or, Option, Some, None, refl, sym, ap, ◌∙◌, append_assoc}
use Rattle.std.specs.Prelude.{MatchOption}
use Rattle.lb_base.specs.Numeral.{is_numeral, num_of}
use Rattle.line_text.proofs.ListLemmas.{drop_at}
use Rattle.line_text.specs.Fields.{first_piece, pieces, prepend_to_first, with_number, numbers_of, numbers_in, path_number_of, with_path_number, path_numbers_of}
use Rattle.line_text.specs.Splits.{prepend}

onto_by : (c : ℕ) (cs : List ℕ) (o : Option (List ℕ × List ℕ)) (ps : List (List ℕ)) → MatchOption o (ps ≡ cs ∷ []) (λ p. ps ≡ p.0 ∷ pieces p.1) → MatchOption (prepend c o) (prepend_to_first c ps ≡ (c ∷ cs) ∷ []) (λ p. prepend_to_first c ps ≡ p.0 ∷ pieces p.1)
onto_by c cs None ps h = ap (prepend_to_first c) h
onto_by c cs (Some p) ps h = ap (prepend_to_first c) h

piece_by : (c : ℕ) (cs : List ℕ) (t : Bool) → MatchOption (first_piece cs) (pieces cs ≡ cs ∷ []) (λ p. pieces cs ≡ p.0 ∷ pieces p.1) → let all = cond t ([] ∷ pieces cs) (prepend_to_first c (pieces cs)) in MatchOption (cond t (Some ([], cs)) (prepend c (first_piece cs))) (all ≡ (c ∷ cs) ∷ []) (λ p. all ≡ p.0 ∷ pieces p.1)
piece_by c cs true h = refl
piece_by c cs false h = onto_by c cs (first_piece cs) (pieces cs) h

-- the first piece, and those of what follows it
pub piece_then : (text : List ℕ) → MatchOption (first_piece text) (pieces text ≡ text ∷ []) (λ p. pieces text ≡ p.0 ∷ pieces p.1)
piece_then [] = refl
piece_then (c ∷ cs) = piece_by c cs (eqb c 46) (piece_then cs)

-- the numbers of a rest behind those of a front
abbrev pub behind_numbers : List (Option ℕ) → Option (List (Option ℕ)) → Option (List (Option ℕ))
behind_numbers front None = None
behind_numbers front (Some ns) = Some (front ++ ns)

pub behind_nothing : (o : Option (List (Option ℕ))) → behind_numbers [] o ≡ o
behind_nothing None = refl
behind_nothing (Some ns) = refl

behind_one : (front : List (Option ℕ)) (n : Option ℕ) (o : Option (List (Option ℕ))) → behind_numbers front (with_number n o) ≡ behind_numbers (front ++ n ∷ []) o
behind_one front n None = refl
behind_one front n (Some ns) = ap (λ (l : List (Option ℕ)). Some l) (sym (append_assoc front (n ∷ []) ns))

numbered : (p : List ℕ) (ps : List (List ℕ)) → is_numeral p ≡ true → numbers_of (p ∷ ps) ≡ with_number (num_of p) (numbers_of ps)
numbered p ps h = rw h refl

not_numbered : (p : List ℕ) (ps : List (List ℕ)) → is_numeral p ≡ false → numbers_of (p ∷ ps) ≡ None
not_numbered p ps h = rw h refl

-- a number with a dot behind it
pub number_then : (front : List (Option ℕ)) (text piece after : List ℕ) → Some (piece, after) ≡ first_piece text → is_numeral piece ≡ true → behind_numbers front (numbers_in text) ≡ behind_numbers (front ++ num_of piece ∷ []) (numbers_in after)
number_then front text piece after e h =
    let t = rw (← e) at (piece_then text) in
    ap (λ ps. behind_numbers front (numbers_of ps)) t
    ∙ ap (behind_numbers front) (numbered piece (pieces after) h)
    ∙ behind_one front (num_of piece) (numbers_in after)

-- no number with a dot behind it
pub no_number_then : (front : List (Option ℕ)) (text piece after : List ℕ) → Some (piece, after) ≡ first_piece text → is_numeral piece ≡ false → behind_numbers front (numbers_in text) ≡ None
no_number_then front text piece after e h =
    let t = rw (← e) at (piece_then text) in
    ap (λ ps. behind_numbers front (numbers_of ps)) t ∙ ap (behind_numbers front) (not_numbered piece (pieces after) h)

-- the last number
pub number_last : (front : List (Option ℕ)) (text : List ℕ) → None ≡ first_piece text → is_numeral text ≡ true → behind_numbers front (numbers_in text) ≡ Some (front ++ num_of text ∷ [])
number_last front text e h =
    let t = rw (← e) at (piece_then text) in
    ap (λ ps. behind_numbers front (numbers_of ps)) t ∙ ap (behind_numbers front) (numbered text [] h)

pub no_number_last : (front : List (Option ℕ)) (text : List ℕ) → None ≡ first_piece text → is_numeral text ≡ false → behind_numbers front (numbers_in text) ≡ None
no_number_last front text e h =
    let t = rw (← e) at (piece_then text) in
    ap (λ ps. behind_numbers front (numbers_of ps)) t ∙ ap (behind_numbers front) (not_numbered text [] h)

-- the parts of a rest behind those of a front
abbrev pub behind_parts : List ℕ → Option (List ℕ) → Option (List ℕ)
behind_parts front None = None
behind_parts front (Some ns) = Some (front ++ ns)

behind_part : (front : List ℕ) (p : ℕ) (o : Option (List ℕ)) → behind_parts front (with_path_number (Some p) o) ≡ behind_parts (front ++ p ∷ []) o
behind_part front p None = refl
behind_part front p (Some ns) = ap (λ (l : List ℕ). Some l) (sym (append_assoc front (p ∷ []) ns))

pub parts_first : (o : Option (List ℕ)) → behind_parts [] o ≡ o
parts_first None = refl
parts_first (Some ns) = refl

pub part_then : (front : List ℕ) (numbers : List (Option ℕ)) (i : ℕ) (n : Option ℕ) (p : ℕ) → i < length numbers → n ≡ get_or numbers i n → Some p ≡ path_number_of n → behind_parts front (path_numbers_of (drop i numbers)) ≡ behind_parts (front ++ p ∷ []) (path_numbers_of (drop (i + 1) numbers))
part_then front numbers i n p h e f =
    ap (λ ns. behind_parts front (path_numbers_of ns)) (drop_at numbers i n h e)
    ∙ ap (λ o. behind_parts front (with_path_number o (path_numbers_of (drop (i + 1) numbers)))) (sym f)
    ∙ behind_part front p (path_numbers_of (drop (i + 1) numbers))

pub no_part_then : (front : List ℕ) (numbers : List (Option ℕ)) (i : ℕ) (n : Option ℕ) → i < length numbers → n ≡ get_or numbers i n → None ≡ path_number_of n → behind_parts front (path_numbers_of (drop i numbers)) ≡ None
no_part_then front numbers i n h e f =
    ap (λ ns. behind_parts front (path_numbers_of ns)) (drop_at numbers i n h e)
    ∙ ap (λ o. behind_parts front (with_path_number o (path_numbers_of (drop (i + 1) numbers)))) (sym f)
