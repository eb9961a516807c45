-- A text is read in pieces, line by line.
use Rattle.std.proofs.Common.{◌≡◌, ℕ, suc, ◌+◌, ◌<◌, ◌≤◌, Bool, true, false, cond, eqb, ltb, List, [], ◌∷◌, ◌++◌, length, take, drop, get_or, Option, Some, None, Result, Ok, Err, refl, sym, ap, ◌∙◌, subst, append_assoc, length-append, arith}
use Rattle.std.specs.Prelude.{IfOk, option_and_then}
use Rattle.std.specs.Str.{IsUtf8}
use Rattle.std.proofs.lemmas.Bool.Decides.{nat_tests}
use Rattle.std.proofs.lemmas.List.{append-nil}
use Rattle.std.proofs.lemmas.Str.{IsUtf8-take, IsUtf8-drop, IsCharBoundary-before_ascii, IsCharBoundary-after_ascii}
use Rattle.boki_types.specs.declared.kind.Kind.{Kind}
use Rattle.boki_types.specs.declared.kind.Kind.TheVariants as kind
use Rattle.line_text.specs.declared.lines.LexedLine.{LexedLine}
use Rattle.line_text.specs.declared.lines.LexedLine.TheVariants as l
use Rattle.line_text.specs.declared.token.Token.{Token}
use Rattle.line_text.specs.declared.checked.Checked.{Checked}
use Rattle.line_text.specs.declared.checked.Checked.TheVariants as r
use Rattle.line_text.specs.Tokens.{tokens_in}
use Rattle.line_text.specs.Lines.{lines_in, prepend_to_first, lexed_line, utf8_text}
use Rattle.script_lang.proofs.StmtsInLimits.{AllOf}
use Rattle.line_text.proofs.LineLemmas.{text_is}
use Rattle.script_lang.proofs.ProgramsParseBack.{first_line_is}
use Rattle.script_lang.proofs.StmtTextLexes.{no_feed}
use Rattle.line_text.specs.declared.fault.TextFault.{TextFault}
use Rattle.line_text.specs.Texts.{ReadsLine, line_of_utf8, read_lexed_line, read_checked_line, read_text_line, lines_on, lines_from, scan_lines, line_count}
use Rattle.line_text.specs.Faults.{refused_at}

-- Lines one after another, of any number, and of any bytes.
abbrev pub plain_from : {D : Type 0} → ReadsLine D → ℕ → List (List ℕ) → List ℕ → D → Result (ℕ × D) TextFault
plain_from take n [] [] d = Ok (n, d)
plain_from take n [] (c ∷ cs) d = Err (refused_at n kind.Truncated)
plain_from take n (line ∷ lines) rest d = lines_on (plain_from take (n + 1) lines rest) n (read_lexed_line take n (lexed_line line) d)

abbrev pub plain_scan : {D : Type 0} → ReadsLine D → ℕ → List ℕ → D → Result (ℕ × D) TextFault
plain_scan take n text d = plain_from take n (lines_in text).0 (lines_in text).1 d

-- Pieces.
front_by : (c : ℕ) (p q : List (List ℕ) × List ℕ) (rest : List (List ℕ) × List ℕ) → p.1 ≡ [] → q ≡ (p.0 ++ rest.0, rest.1) → (prepend_to_first c p).1 ≡ [] → prepend_to_first c q ≡ ((prepend_to_first c p).0 ++ rest.0, rest.1)
front_by c ([], end) q rest e h f = absurd (cc)
front_by c (line ∷ lines, end) q rest e h f = ap (prepend_to_first c) h

onto_end : (c : ℕ) (p : List (List ℕ) × List ℕ) → (prepend_to_first c p).1 ≡ [] → p.1 ≡ []
onto_end c ([], end) e = absurd (cc)
onto_end c (line ∷ lines, end) e = e

line_by_line : (c : ℕ) (p q rest : List (List ℕ) × List ℕ) (t : Bool) → (p.1 ≡ [] → q ≡ (p.0 ++ rest.0, rest.1)) → (cond t ([] ∷ p.0, p.1) (prepend_to_first c p)).1 ≡ [] → cond t ([] ∷ q.0, q.1) (prepend_to_first c q) ≡ ((cond t ([] ∷ p.0, p.1) (prepend_to_first c p)).0 ++ rest.0, rest.1)
line_by_line c p q rest true h e = ap (λ (x : List (List ℕ) × List ℕ). ([] ∷ x.0, x.1)) (h e)
line_by_line c p q rest false h e = let f = onto_end c p e in front_by c p q rest f (h f) e

lines_append : (a b : List ℕ) → (lines_in a).1 ≡ [] → lines_in (a ++ b) ≡ ((lines_in a).0 ++ (lines_in b).0, (lines_in b).1)
lines_append [] b e = refl
lines_append (c ∷ cs) b e = line_by_line c (lines_in cs) (lines_in (cs ++ b)) (lines_in b) (eqb c 10) (lines_append cs b) e

abbrev Found : Type 0 → Type 0
Found D = Result (ℕ × D) TextFault

abbrev ok_in : {D : Type 0} → ℕ × D → Found D
ok_in p = Ok p

no_rest : {D : Type 0} (take : ReadsLine D) (n m : ℕ) (rest : List ℕ) (d e : D) → plain_from take n [] rest d ≡ Ok (m, e) → rest ≡ []
no_rest take n m [] d e h = refl
no_rest take n m (c ∷ cs) d e h = absurd (cc)

goes_end : {D : Type 0} (others : D → Found D) (n : ℕ) (o : Result D Kind) (found : ℕ × D) (rest : List ℕ) → ((d : D) → others d ≡ Ok found → rest ≡ []) → lines_on others n o ≡ Ok found → rest ≡ []
goes_end others n (Err k) found rest h e = absurd (cc)
goes_end others n (Ok d) found rest h e = h d e

-- a text that is read ends in a line feed
ends : {D : Type 0} (take : ReadsLine D) (n m : ℕ) (ls : List (List ℕ)) (rest : List ℕ) (d e : D) → plain_from take n ls rest d ≡ Ok (m, e) → rest ≡ []
ends take n m [] rest d e h = no_rest take n m rest d e h
ends take n m (line ∷ ls) rest d e h =
    goes_end (plain_from take (n + 1) ls rest) n (read_lexed_line take n (lexed_line line) d) (m, e) rest (λ x g. ends take (n + 1) m ls rest x e g) h

same_found : {D : Type 0} (p q : ℕ × D) → ok_in p ≡ ok_in q → p ≡ q
same_found p q h = cc

first_of : {D : Type 0} (n m : ℕ) (d e : D) → ok_in (n, d) ≡ ok_in (m, e) → (n ≡ m) × (d ≡ e)
first_of {D} n m d e h =
    let f = same_found (n, d) (m, e) h in (ap (λ (p : ℕ × D). p.0) f, ap (λ (p : ℕ × D). p.1) f)

goes_further : {D : Type 0} (others more : D → Found D) (n : ℕ) (o : Result D Kind) (found : ℕ × D) (r : Found D) → ((d : D) → others d ≡ Ok found → more d ≡ r) → lines_on others n o ≡ Ok found → lines_on more n o ≡ r
goes_further others more n (Err k) found r h e = absurd (cc)
goes_further others more n (Ok d) found r h e = h d e

further : {D : Type 0} (take : ReadsLine D) (n m : ℕ) (ls ks : List (List ℕ)) (rest : List ℕ) (d e : D) → plain_from take n ls [] d ≡ Ok (m, e) → plain_from take n (ls ++ ks) rest d ≡ plain_from take m ks rest e
further take n m [] ks rest d e h = let f = first_of n m d e h in ap (λ i. plain_from take i ks rest d) f.0 ∙ ap (plain_from take m ks rest) f.1
further take n m (line ∷ ls) ks rest d e h =
    goes_further (plain_from take (n + 1) ls []) (plain_from take (n + 1) (ls ++ ks) rest) n (read_lexed_line take n (lexed_line line) d) (m, e) (plain_from take m ks rest e) (λ x g. further take (n + 1) m ls ks rest x e g) h

-- a piece that is read, and what follows it
pub piece_then : {D : Type 0} (take : ReadsLine D) (n m : ℕ) (a b : List ℕ) (d e : D) → plain_scan take n a d ≡ Ok (m, e) → plain_scan take n (a ++ b) d ≡ plain_scan take m b e
piece_then take n m a b d e h =
    let end = ends take n m (lines_in a).0 (lines_in a).1 d e h in
    ap (λ (p : List (List ℕ) × List ℕ). plain_from take n p.0 p.1 d) (lines_append a b end)
    ∙ further take n m (lines_in a).0 (lines_in b).0 (lines_in b).1 d e (ap (λ r. plain_from take n (lines_in a).0 r d) (sym end) ∙ h)

-- a line
pub line_read : {D : Type 0} (take : ReadsLine D) (n : ℕ) (a : List ℕ) (d next : D) → no_feed a ≡ true → read_lexed_line take n (lexed_line a) d ≡ Ok next → plain_scan take n (a ++ 10 ∷ []) d ≡ Ok (n + 1, next)
line_read take n a d next f e =
    ap (λ (p : List (List ℕ) × List ℕ). plain_from take n p.0 p.1 d) (first_line_is a [] f)
    ∙ ap (lines_on (plain_from take (n + 1) [] []) n) e

-- a text whose tokens are read as this
pub record ReadsBack {A : Type 0} (read : List Token → Option (Checked A)) (text : List ℕ) (x : A) : Type 0 where
  pub tokens : List Token
  pub cut : tokens_in text ≡ Some tokens
  pub back : read tokens ≡ Some (r.Valid x)

reads_by : {A : Type 0} (read : List Token → Option (Checked A)) (text : List ℕ) (x : A) (o : Option (List Token)) → tokens_in text ≡ o → option_and_then read o ≡ Some (r.Valid x) → ReadsBack read text x
reads_by read text x None e h = absurd (cc)
reads_by read text x (Some ts) e h = record { tokens = ts; cut = e; back = h }

pub reads_back : {A : Type 0} (read : List Token → Option (Checked A)) (text : List ℕ) (x : A) → option_and_then read (tokens_in text) ≡ Some (r.Valid x) → ReadsBack read text x
reads_back read text x h = reads_by read text x (tokens_in text) refl h

-- a line of these tokens
pub tokens_read : {D : Type 0} (take : ReadsLine D) (n : ℕ) (a : List ℕ) (ts : List Token) (d next : D) → no_feed a ≡ true → lexed_line a ≡ l.Tokens ts → take n ts d ≡ Ok next → plain_scan take n (a ++ 10 ∷ []) d ≡ Ok (n + 1, next)
tokens_read take n a ts d next f e h =
    line_read take n a d next f (ap (λ line. read_lexed_line take n line d) e ∙ h)

-- Lines that one way of reading takes, another takes too.
abbrev pub Widens : {D E : Type 0} → ReadsLine D → ReadsLine E → (D → E) → Type 0
Widens {D} take wide put = (n : ℕ) (ts : List Token) (d next : D) → take n ts d ≡ Ok next → wide n ts (put d) ≡ Ok (put next)

inner_ok : {D : Type 0} (x y : Result D Kind) (d e : D) → x ≡ Ok d → x ≡ Ok e → d ≡ e
inner_ok x y d e h g = cc

wide_line : {D E : Type 0} (take : ReadsLine D) (wide : ReadsLine E) (put : D → E) → Widens take wide put → (n : ℕ) (line : LexedLine) (d next : D) → read_lexed_line take n line d ≡ Ok next → read_lexed_line wide n line (put d) ≡ Ok (put next)
wide_line take wide put w n l.Skipped d next h = let e = inner_ok (Ok d) (Ok d) d next refl h in ap (λ x. Ok (put x)) e
wide_line take wide put w n (l.Tokens ts) d next h = w n ts d next h
wide_line take wide put w n l.Invalid d next h = absurd (cc)

goes_wide : {D E : Type 0} (put : D → E) (others : D → Found D) (more : E → Found E) (n : ℕ) (o : Result D Kind) (p : Result E Kind) (m : ℕ) (e : D) → ((d : D) → o ≡ Ok d → p ≡ Ok (put d)) → ((d : D) → others d ≡ Ok (m, e) → more (put d) ≡ Ok (m, put e)) → lines_on others n o ≡ Ok (m, e) → lines_on more n p ≡ Ok (m, put e)
goes_wide put others more n (Err k) p m e w h g = absurd (cc)
goes_wide put others more n (Ok d) p m e w h g = ap (lines_on more n) (w d refl) ∙ h d g

wide_from : {D E : Type 0} (take : ReadsLine D) (wide : ReadsLine E) (put : D → E) → Widens take wide put → (n m : ℕ) (ls : List (List ℕ)) (rest : List ℕ) (d e : D) → plain_from take n ls rest d ≡ Ok (m, e) → plain_from wide n ls rest (put d) ≡ Ok (m, put e)
wide_from {D} {E} take wide put w n m [] [] d e h =
    let f = first_of n m d e h in ap (λ (i : ℕ). ok_in {D = E} (i, put d)) f.0 ∙ ap (λ (x : D). ok_in {D = E} (m, put x)) f.1
wide_from take wide put w n m [] (c ∷ cs) d e h = absurd (cc)
wide_from take wide put w n m (line ∷ ls) rest d e h =
    goes_wide put (plain_from take (n + 1) ls rest) (plain_from wide (n + 1) ls rest) n (read_lexed_line take n (lexed_line line) d) (read_lexed_line wide n (lexed_line line) (put d)) m e
    (λ x g. wide_line take wide put w n (lexed_line line) d x g) (λ x g. wide_from take wide put w (n + 1) m ls rest x e g) h

pub widened : {D E : Type 0} (take : ReadsLine D) (wide : ReadsLine E) (put : D → E) → Widens take wide put → (n m : ℕ) (text : List ℕ) (d e : D) → plain_scan take n text d ≡ Ok (m, e) → plain_scan wide n text (put d) ≡ Ok (m, put e)
widened take wide put w n m text d e h = wide_from take wide put w n m (lines_in text).0 (lines_in text).1 d e h

-- The lines of UTF-8 are UTF-8.
FrontUtf8 : List ℕ → List (List ℕ) → Type 0
FrontUtf8 w [] = Unit {0}
FrontUtf8 w (line ∷ lines) = IsUtf8 (w ++ line) × AllOf IsUtf8 lines

take_front : (a b : List ℕ) → take (length a) (a ++ b) ≡ a
take_front [] b = refl
take_front (c ∷ cs) b = ap (λ l. c ∷ l) (take_front cs b)

drop_front : (a b : List ℕ) → drop (length a) (a ++ b) ≡ b
drop_front [] b = refl
drop_front (c ∷ cs) b = drop_front cs b

drop_more : (a b : List ℕ) → drop (length a + 1) (a ++ 10 ∷ b) ≡ b
drop_more [] b = refl
drop_more (c ∷ cs) b =
    let e : length (c ∷ cs) + 1 ≡ suc (length cs + 1) = omega arith in
    ap (λ i. drop i (c ∷ (cs ++ 10 ∷ b))) e ∙ drop_more cs b

at_front : (a b : List ℕ) → get_or (a ++ 10 ∷ b) (length a) 0 ≡ 10
at_front [] b = refl
at_front (c ∷ cs) b = at_front cs b

utf8_before : (a b : List ℕ) → IsUtf8 (a ++ 10 ∷ b) → IsUtf8 a
utf8_before a b h =
    let within : length a < length (a ++ 10 ∷ b) = omega (arith, length-append a (10 ∷ b)) in
    subst IsUtf8 (take_front a (10 ∷ b)) (IsUtf8-take (a ++ 10 ∷ b) (length a) h (IsCharBoundary-before_ascii (a ++ 10 ∷ b) (length a) within (omega (arith, at_front a b))))

utf8_after : (a b : List ℕ) → IsUtf8 (a ++ 10 ∷ b) → IsUtf8 b
utf8_after a b h =
    let within : length a < length (a ++ 10 ∷ b) = omega (arith, length-append a (10 ∷ b)) in
    subst IsUtf8 (drop_more a b) (IsUtf8-drop (a ++ 10 ∷ b) (length a + 1) h (IsCharBoundary-after_ascii (a ++ 10 ∷ b) (length a) h within (omega (arith, at_front a b))))

onto_utf8 : (c : ℕ) (w : List ℕ) (p : List (List ℕ) × List ℕ) → FrontUtf8 (w ++ c ∷ []) p.0 → FrontUtf8 w (prepend_to_first c p).0
unfolding FrontUtf8
onto_utf8 c w ([], end) h = tt
onto_utf8 c w (line ∷ lines, end) h = (subst IsUtf8 (append_assoc w (c ∷ []) line) h.0, h.1)

all_utf8 : (lines : List (List ℕ)) → FrontUtf8 [] lines → AllOf IsUtf8 lines
unfolding FrontUtf8
all_utf8 [] h = tt
all_utf8 (line ∷ lines) h = h

front_by_char : (c : ℕ) (w : List ℕ) (p : List (List ℕ) × List ℕ) (t : Bool) → (t ≡ true → IsUtf8 w × FrontUtf8 [] p.0) → FrontUtf8 (w ++ c ∷ []) p.0 → FrontUtf8 w (cond t ([] ∷ p.0, p.1) (prepend_to_first c p)).0
unfolding FrontUtf8
front_by_char c w p true h k = let g = h refl in (subst IsUtf8 (sym (append-nil w)) g.0, all_utf8 p.0 g.1)
front_by_char c w p false h k = onto_utf8 c w p k

feed_is : (c : ℕ) → eqb c 10 ≡ true → c ≡ 10
feed_is c e = grind (arith, nat_tests, e)

front_utf8 : (w text : List ℕ) → IsUtf8 (w ++ text) → FrontUtf8 w (lines_in text).0
unfolding FrontUtf8
front_utf8 w [] h = tt
front_utf8 w (c ∷ cs) h =
    front_by_char c w (lines_in cs) (eqb c 10)
    (λ e. let k : IsUtf8 (w ++ 10 ∷ cs) = subst (λ (x : ℕ). IsUtf8 (w ++ x ∷ cs)) (feed_is c e) h in (utf8_before w cs k, front_utf8 [] cs (utf8_after w cs k)))
    (front_utf8 (w ++ c ∷ []) cs (subst IsUtf8 (sym (append_assoc w (c ∷ []) cs)) h))

-- A text within the limits is read as it is without them.
goes_within : {D : Type 0} (others more : D → Found D) (n : ℕ) (o p : Result D Kind) (found : ℕ × D) → p ≡ o → ((d : D) → others d ≡ Ok found → more d ≡ Ok found) → lines_on others n o ≡ Ok found → lines_on more n p ≡ Ok found
goes_within others more n (Err k) p found e h g = absurd (cc)
goes_within others more n (Ok d) p found e h g = ap (lines_on more n) e ∙ h d g

line_within : {D : Type 0} (take : ReadsLine D) (most n : ℕ) (line : List ℕ) (d : D) → n ≤ most → IsUtf8 line → read_text_line take most n line d ≡ read_lexed_line take n (lexed_line line) d
line_within take most n line d small h =
    let low : ltb most n ≡ false = grind (arith, nat_tests, small) in
    ap (λ b. read_checked_line take n (cond b (Err kind.Lines) (line_of_utf8 (utf8_text line))) d) low
    ∙ ap (λ o. read_checked_line take n (line_of_utf8 o) d) (text_is line h)

within_from : {D : Type 0} (take : ReadsLine D) (most n : ℕ) (ls : List (List ℕ)) (rest : List ℕ) (d : D) (found : ℕ × D) → AllOf IsUtf8 ls → n + length ls ≤ most + 1 → plain_from take n ls rest d ≡ Ok found → lines_from take most n ls rest d ≡ Ok found
within_from take most n [] [] d found u l h = h
within_from take most n [] (c ∷ cs) d found u l h = absurd (cc)
within_from take most n (line ∷ ls) rest d found u l h =
    goes_within (plain_from take (n + 1) ls rest) (lines_from take most (n + 1) ls rest) n (read_lexed_line take n (lexed_line line) d) (read_text_line take most n line d) found
    (line_within take most n line d (omega arith) u.0) (λ x g. within_from take most (n + 1) ls rest x found u.1 (omega arith) g) h

pub within_limits : {D : Type 0} (take : ReadsLine D) (most n : ℕ) (text : List ℕ) (d : D) (found : ℕ × D) → IsUtf8 text → n + line_count text ≤ most + 1 → plain_scan take n text d ≡ Ok found → scan_lines take most n text d ≡ Ok found
within_limits take most n text d found u l h =
    within_from take most n (lines_in text).0 (lines_in text).1 d found (all_utf8 (lines_in text).0 (front_utf8 [] text u)) l h

-- A scan that ends has gone over all lines.
abbrev Counted : {D : Type 0} → ℕ → Found D → Type 0
Counted n o = IfOk o (λ p. p.0 ≡ n)

count_on : {D : Type 0} (others : D → Found D) (n k : ℕ) (o : Result D Kind) → ((d : D) → Counted k (others d)) → Counted k (lines_on others n o)
count_on others n k (Err e) h = tt
count_on others n k (Ok d) h = h d

count_lines : {D : Type 0} (take : ReadsLine D) (n k : ℕ) (ls : List (List ℕ)) (rest : List ℕ) (d : D) → n + length ls ≡ k → Counted k (plain_from take n ls rest d)
count_lines take n k [] [] d e = omega arith
count_lines take n k [] (c ∷ cs) d e = tt
count_lines take n k (line ∷ ls) rest d e =
    count_on (plain_from take (n + 1) ls rest) n k (read_lexed_line take n (lexed_line line) d) (λ next. count_lines take (n + 1) k ls rest next (omega arith))

pub scan_count : {D : Type 0} (take : ReadsLine D) (n : ℕ) (text : List ℕ) (d : D) (found : ℕ × D) → plain_scan take n text d ≡ Ok found → found.0 ≡ n + line_count text
scan_count {D} take n text d found e =
    let P : Found D → Type 0 = λ o. Counted (n + line_count text) o in
    subst P e (count_lines take n (n + line_count text) (lines_in text).0 (lines_in text).1 d refl)
