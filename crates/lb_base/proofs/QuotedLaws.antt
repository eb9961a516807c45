-- A quoted text reads back, and what is read is spelled so.
use Rattle.std.proofs.Common.{◌≡◌, ◌≢◌, ℕ, Bool, true, false, List, [], ◌∷◌, ◌++◌, Option, Some, None, refl, sym, ap, ◌∙◌, append_assoc, arith, eqb, cond, eqb-true, subst}
use Rattle.std.specs.Prelude.{◌||◌, IfSome}
use Rattle.std.proofs.lemmas.Bool.Decides.{nat_tests}
use Rattle.lb_base.specs.Quoted.{with_prefix, unescaped, with_character, rest_of_quoted, quoted_at, escape, escaped, quoted}
use Rattle.lb_base.proofs.QuotedLemmas.{IsPlain, inside_byte, escape_plain}

not_eq : (b d : ℕ) → eqb b d ≡ false → b ≢ d
not_eq b d h e = grind (arith, nat_tests, h, e)

plain_by : (c : ℕ) → eqb c 34 ≡ false → eqb c 92 ≡ false → eqb c 10 ≡ false → IsPlain c
plain_by c q s l = record { no_quote = not_eq c 34 q; no_slash = not_eq c 92 s; no_line = not_eq c 10 l }

kept_quote : (c : ℕ) → eqb c 34 ≡ true → unescaped c ≡ Some c
kept_quote c q = rw q refl

kept_slash : (c : ℕ) → eqb c 34 ≡ false → eqb c 92 ≡ true → unescaped c ≡ Some c
kept_slash c q s = rw (q, s) refl

escape_quote : (c : ℕ) → eqb c 34 ≡ true → escape c ≡ 92 ∷ c ∷ []
escape_quote c q = rw q refl

escape_slash : (c : ℕ) → eqb c 34 ≡ false → eqb c 92 ≡ true → escape c ≡ 92 ∷ c ∷ []
escape_slash c q s = rw (q, s) refl

behind_slash : (c : ℕ) (xs : List ℕ) → unescaped c ≡ Some c → rest_of_quoted false (92 ∷ c ∷ xs) ≡ with_prefix (c ∷ []) (rest_of_quoted false xs)
unfolding rest_of_quoted
behind_slash c xs kept = ap (λ o. with_character o (rest_of_quoted false xs)) kept

line_by : (c : ℕ) (xs : List ℕ) → c ≡ 10 → rest_of_quoted false (escape c ++ xs) ≡ with_prefix (c ∷ []) (rest_of_quoted false xs)
unfolding rest_of_quoted
line_by c xs e = rw e refl

escape_by : (c : ℕ) (xs : List ℕ) (q s l : Bool) → eqb c 34 ≡ q → eqb c 92 ≡ s → eqb c 10 ≡ l → rest_of_quoted false (escape c ++ xs) ≡ with_prefix (c ∷ []) (rest_of_quoted false xs)
escape_by c xs true s l hq hs hl = ap (λ front. rest_of_quoted false (front ++ xs)) (escape_quote c hq) ∙ behind_slash c xs (kept_quote c hq)
escape_by c xs false true l hq hs hl = ap (λ front. rest_of_quoted false (front ++ xs)) (escape_slash c hq hs) ∙ behind_slash c xs (kept_slash c hq hs)
escape_by c xs false false true hq hs hl = line_by c xs (eqb-true c 10 hl)
escape_by c xs false false false hq hs hl =
    let plain = plain_by c hq hs hl in
    ap (λ front. rest_of_quoted false (front ++ xs)) (escape_plain c plain) ∙ inside_byte c xs plain

ends : (rest : List ℕ) → rest_of_quoted false (34 ∷ rest) ≡ Some ([], rest)
unfolding rest_of_quoted
ends rest = refl

reads_back : (text rest : List ℕ) → rest_of_quoted false (escaped text ++ 34 ∷ rest) ≡ Some (text, rest)
reads_back [] rest = ends rest
reads_back (c ∷ cs) rest =
    ap (rest_of_quoted false) (append_assoc (escape c) (escaped cs) (34 ∷ rest))
    ∙ escape_by c (escaped cs ++ 34 ∷ rest) (eqb c 34) (eqb c 92) (eqb c 10) refl refl refl
    ∙ ap (with_prefix (c ∷ [])) (reads_back cs rest)

pub quoted-reads_back : (text rest : List ℕ) → quoted_at (quoted text ++ rest) ≡ Some (text, rest)
quoted-reads_back text rest = ap (rest_of_quoted false) (append_assoc (escaped text) (34 ∷ []) rest) ∙ reads_back text rest

-- The text up to its closing quote, with this before it, is spelled as the value and the rest.
abbrev SpelledBehind : List ℕ → List ℕ → Option (List ℕ × List ℕ) → Type 0
SpelledBehind front cs o = IfSome o (λ p. front ++ cs ≡ escaped p.0 ++ 34 ∷ p.1)

one_more : (m : ℕ) (front cs : List ℕ) (o : Option (List ℕ × List ℕ)) → escape m ≡ front → SpelledBehind [] cs o → SpelledBehind front cs (with_prefix (m ∷ []) o)
one_more m front cs None e h = tt
one_more m front cs (Some p) e h =
    ap (λ l. front ++ l) h
    ∙ sym (append_assoc front (escaped p.0) (34 ∷ p.1))
    ∙ ap (λ l. (l ++ escaped p.0) ++ 34 ∷ p.1) (sym e)

spelled_escape : (c : ℕ) (cs : List ℕ) (o : Option (List ℕ × List ℕ)) (q s n : Bool) → eqb c 34 ≡ q → eqb c 92 ≡ s → eqb c 110 ≡ n → SpelledBehind [] cs o → SpelledBehind (92 ∷ []) (c ∷ cs) (with_character (cond (q || s) (Some c) (cond n (Some 10) None)) o)
spelled_escape c cs o true s n hq hs hn h = one_more c (92 ∷ c ∷ []) cs o (escape_quote c hq) h
spelled_escape c cs o false true n hq hs hn h = one_more c (92 ∷ c ∷ []) cs o (escape_slash c hq hs) h
spelled_escape c cs o false false true hq hs hn h = let P : ℕ → Type 0 = λ d. SpelledBehind (92 ∷ []) (d ∷ cs) (with_prefix (10 ∷ []) o) in subst P (sym (eqb-true c 110 hn)) (one_more 10 (92 ∷ 110 ∷ []) cs o refl h)
spelled_escape c cs o false false false hq hs hn h = tt

under_slash : (cs : List ℕ) (o : Option (List ℕ × List ℕ)) → SpelledBehind (92 ∷ []) cs o → SpelledBehind [] (92 ∷ cs) o
under_slash cs None h = tt
under_slash cs (Some p) h = h

spelled_byte : (c : ℕ) (cs : List ℕ) (x y : Option (List ℕ × List ℕ)) (q l s : Bool) → eqb c 34 ≡ q → eqb c 10 ≡ l → eqb c 92 ≡ s → SpelledBehind (92 ∷ []) cs x → SpelledBehind [] cs y → SpelledBehind [] (c ∷ cs) (cond q (Some ([], cs)) (cond l None (cond s x (with_prefix (c ∷ []) y))))
spelled_byte c cs x y true l s hq hl hs h k = ap (λ n. n ∷ cs) (eqb-true c 34 hq)
spelled_byte c cs x y false true s hq hl hs h k = tt
spelled_byte c cs x y false false true hq hl hs h k = let P : ℕ → Type 0 = λ d. SpelledBehind [] (d ∷ cs) x in subst P (sym (eqb-true c 92 hs)) (under_slash cs x h)
spelled_byte c cs x y false false false hq hl hs h k = one_more c (c ∷ []) cs y (escape_plain c (plain_by c hq hs hl)) k

inside_spelled : (cs : List ℕ) → SpelledBehind [] cs (rest_of_quoted false cs) × SpelledBehind (92 ∷ []) cs (rest_of_quoted true cs)
unfolding rest_of_quoted
inside_spelled [] = (tt, tt)
inside_spelled (c ∷ cs) =
    let more = inside_spelled cs in (
      spelled_byte c cs (rest_of_quoted true cs) (rest_of_quoted false cs) (eqb c 34) (eqb c 10) (eqb c 92) refl refl refl more.1 more.0,
      spelled_escape c cs (rest_of_quoted false cs) (eqb c 34) (eqb c 92) (eqb c 110) refl refl refl more.0,
    )

opened : (c : ℕ) (cs : List ℕ) (o : Option (List ℕ × List ℕ)) → SpelledBehind [] cs o → c ≡ 34 → IfSome o (λ p. c ∷ cs ≡ quoted p.0 ++ p.1)
opened c cs None h e = tt
opened c cs (Some p) h e = ap (λ n. n ∷ cs) e ∙ ap (λ l. 34 ∷ l) (h ∙ sym (append_assoc (escaped p.0) (34 ∷ []) p.1))

opened_by : (c : ℕ) (cs : List ℕ) (t : Bool) → eqb c 34 ≡ t → IfSome (cond t (rest_of_quoted false cs) None) (λ p. c ∷ cs ≡ quoted p.0 ++ p.1)
opened_by c cs true e = opened c cs (rest_of_quoted false cs) (inside_spelled cs).0 (eqb-true c 34 e)
opened_by c cs false e = tt

pub quoted-one_spelling : (text : List ℕ) → IfSome (quoted_at text) (λ p. text ≡ quoted p.0 ++ p.1)
quoted-one_spelling [] = tt
quoted-one_spelling (c ∷ cs) = opened_by c cs (eqb c 34) refl
