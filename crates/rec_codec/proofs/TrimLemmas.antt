-- A trimmed tag's record: which bytes are one, and its two numbers.
use Rattle.std.proofs.Common.{◌≡◌, ℕ, zero, suc, ◌+◌, ◌-◌, ◌^◌, ◌<◌, ◌≤◌, Bool, true, false, ◌&&◌, cond, eqb, ltb, List, [], ◌∷◌, ◌++◌, length, get_or, take, drop, Option, Some, None, Result, Ok, Err, refl, sym, ap, subst, ◌∙◌, arith}
use Rattle.std.specs.Int.{w64, from_be_bytes}
use Rattle.std.proofs.lemmas.Bool.{le-ltb}
use Rattle.std.proofs.lemmas.List.{length-drop, nil_from_length}
use Rattle.lb_base.specs.declared.value.Seqnum.{Seqnum}
use Rattle.boki_types.specs.declared.body.Body.{Body}
use Rattle.boki_types.specs.declared.body.Body.TheVariants as b
use Rattle.rec_codec.specs.Spelling.{word, spelled}
use Rattle.rec_codec.specs.Reading.{◌>>=◌, validated, word_at, tag_at, trim_tag_at, format1_at, body_at, whole, read, trim_in}
use Rattle.rec_codec.proofs.Fields.{IsBytes}
use Rattle.rec_codec.proofs.Arities.{built}
use Rattle.rec_codec.proofs.Bodies.{read_takes_all}

-- a number, and the bytes behind it
abbrev known_number : ℕ → List ℕ → Result (ℕ × List ℕ) ℕ
known_number n rest = Ok (n, rest)

-- the bytes that a trimmed tag is spelled by
pub record IsTrim (bytes : List ℕ) : Type 0 where
  pub format : get_or bytes 0 0 ≡ 1
  pub kind : get_or bytes 1 0 ≡ 15
  pub len : length bytes ≡ 18

trim_from : (bytes : List ℕ) (number upto : ℕ) → bytes ≡ spelled (b.TrimTag number upto) → IsTrim bytes
trim_from bytes number upto e = record { format = ap (λ (x : List ℕ). get_or x 0 0) e; kind = ap (λ (x : List ℕ). get_or x 1 0) e; len = ap length e }

none_by : (bytes : List ℕ) → IsBytes bytes → (IsTrim bytes → ⊥) → (r : Result Body ℕ) → read bytes ≡ r → trim_in r ≡ None
none_by bytes fits other (Err place) e = refl
none_by bytes fits other (Ok (b.TrimTag number upto)) e = absurd (other (trim_from bytes number upto (read_takes_all bytes (b.TrimTag number upto) fits e).2))
none_by bytes fits other (Ok (b.Submit p f args)) e = refl
none_by bytes fits other (Ok (b.Init p)) e = refl
none_by bytes fits other (Ok (b.Read p i key)) e = refl
none_by bytes fits other (Ok (b.Write p i place key v)) e = refl
none_by bytes fits other (Ok (b.Spawn p i ordinal f args)) e = refl
none_by bytes fits other (Ok (b.Join p i ordinal)) e = refl
none_by bytes fits other (Ok (b.Push p i queue v)) e = refl
none_by bytes fits other (Ok (b.Pop p i queue)) e = refl
none_by bytes fits other (Ok (b.TxnBegin p i ns)) e = refl
none_by bytes fits other (Ok (b.TxnCommit p i began ns ws)) e = refl
none_by bytes fits other (Ok (b.Finish p i o)) e = refl
none_by bytes fits other (Ok (b.SwitchBegin target)) e = refl
none_by bytes fits other (Ok b.SwitchEnd) e = refl
none_by bytes fits other (Ok (b.Trim w)) e = refl
none_by bytes fits other (Ok (b.User piece)) e = refl
none_by bytes fits other (Ok (b.ReadGroup p i ns)) e = refl

-- other bytes are no trimmed tag's
pub trim_none : (bytes : List ℕ) → IsBytes bytes → (IsTrim bytes → ⊥) → None ≡ trim_in (read bytes)
trim_none bytes fits other = sym (none_by bytes fits other (read bytes) refl)

-- the numbers of one
abbrev pub number_in : List ℕ → ℕ
number_in bytes = from_be_bytes w64 (take 8 (drop 2 bytes))

abbrev pub upto_in : List ℕ → ℕ
upto_in bytes = from_be_bytes w64 (take 8 (drop 10 bytes))

abbrev pub trimmed : ℕ → ℕ → Option (ℕ × Seqnum)
trimmed number upto = Some (number, record { 0 = upto })

after_tag : (t : Bool) (n u left : ℕ) (mid : List ℕ) → word_at mid ≡ known_number u [] → ((cond t (known_number n mid) (Err left)) >>= λ number. word_at number.1 >>= λ upto. built (b.TrimTag number.0 upto.0) upto.1) ≡ cond t (built (b.TrimTag n u) []) (Err left)
after_tag true n u left mid e = ap (λ (r : Result (ℕ × List ℕ) ℕ). r >>= λ upto. built (b.TrimTag n upto.0) upto.1) e
after_tag false n u left mid e = refl

fields_at : (rest : List ℕ) → length rest ≡ 16 → trim_tag_at rest ≡ cond (ltb (from_be_bytes w64 (take 8 rest)) (2 ^ 56)) (built (b.TrimTag (from_be_bytes w64 (take 8 rest)) (from_be_bytes w64 (take 8 (drop 8 rest)))) []) (Err (length rest))
unfolding trim_tag_at tag_at
fields_at rest len =
    let long : ltb (length rest) 8 ≡ false = le-ltb (length rest) 8 (omega arith) in
    let half : length (drop 8 rest) ≡ 8 = omega (arith, length-drop 8 rest) in
    let long2 : ltb (length (drop 8 rest)) 8 ≡ false = le-ltb (length (drop 8 rest)) 8 (omega arith) in
    let nothing : drop 8 (drop 8 rest) ≡ [] = nil_from_length (drop 8 (drop 8 rest)) (omega (arith, length-drop 8 (drop 8 rest))) in
    let second : word_at (drop 8 rest) ≡ known_number (from_be_bytes w64 (take 8 (drop 8 rest))) [] = rw (long2, nothing) refl in
    rw long (after_tag (ltb (from_be_bytes w64 (take 8 rest)) (2 ^ 56)) (from_be_bytes w64 (take 8 rest)) (from_be_bytes w64 (take 8 (drop 8 rest))) (length rest) (drop 8 rest) second)

trim_whole : (t : Bool) (n u total left : ℕ) → trim_in (whole total (cond t (built (b.TrimTag n u) []) (Err left))) ≡ cond t (trimmed n u) None
trim_whole true n u total left = refl
trim_whole false n u total left = refl

behind_head : (rest : List ℕ) → length rest ≡ 16 → trim_in (read (1 ∷ 15 ∷ rest)) ≡ cond (ltb (from_be_bytes w64 (take 8 rest)) (2 ^ 56)) (trimmed (from_be_bytes w64 (take 8 rest)) (from_be_bytes w64 (take 8 (drop 8 rest)))) None
unfolding body_at format1_at
behind_head rest len =
    ap (λ (r : Result (Body × List ℕ) ℕ). trim_in (whole (length (1 ∷ 15 ∷ rest)) r)) (fields_at rest len)
    ∙ trim_whole (ltb (from_be_bytes w64 (take 8 rest)) (2 ^ 56)) (from_be_bytes w64 (take 8 rest)) (from_be_bytes w64 (take 8 (drop 8 rest))) (length (1 ∷ 15 ∷ rest)) (length rest)

-- what the bytes of one tell: nothing where the tag is no user's
pub trim_is : (bytes : List ℕ) → IsTrim bytes → trim_in (read bytes) ≡ cond (ltb (number_in bytes) (2 ^ 56)) (trimmed (number_in bytes) (upto_in bytes)) None
trim_is [] t = absurd (omega (arith, t.len))
trim_is (a ∷ []) t = absurd (omega (arith, t.len))
trim_is (a ∷ c ∷ rest) t =
    let len : length rest ≡ 16 = omega (arith, t.len) in
    let told : Option (ℕ × Seqnum) = cond (ltb (from_be_bytes w64 (take 8 rest)) (2 ^ 56)) (trimmed (from_be_bytes w64 (take 8 rest)) (from_be_bytes w64 (take 8 (drop 8 rest)))) None in
    subst (λ (x : ℕ). trim_in (read (x ∷ c ∷ rest)) ≡ told) (sym t.format) (subst (λ (y : ℕ). trim_in (read (1 ∷ y ∷ rest)) ≡ told) (sym t.kind) (behind_head rest len))
