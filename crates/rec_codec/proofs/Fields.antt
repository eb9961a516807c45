-- An element that is read is spelled so, and what is spelled is read again, whatever follows it.
use Rattle.std.proofs.Common.{◌≡◌, ℕ, zero, suc, ◌+◌, ◌-◌, ◌^◌, ◌<◌, ◌≤◌, Bool, true, false, ◌&&◌, cond, eqb, ltb, leb, List, [], ◌∷◌, ◌++◌, length, get_or, take, drop, Option, Some, None, Result, Ok, Err, refl, sym, ap, subst, ◌∙◌, append_assoc, arith, inl, inr}
use Rattle.std.specs.Prelude.{ℤ, pos, negsuc}
use Rattle.std.specs.Int.{Width, w16, w32, w64, byte_len, from_be_bytes, to_be_bytes, cast_signed, cast_unsigned}
use Rattle.std.specs.List.{flat_map, list_all}
use Rattle.std.specs.Str.{is_utf8}
use Rattle.std.proofs.lemmas.Bool.{cases_lt, ltb-true, ltb-false, lt-ltb, le-ltb, leb-true, le-leb, and_parts, and_from}
use Rattle.std.proofs.lemmas.List.{take_at, drop_at, take-append-drop, length-append, length-take, get_or-drop, get_or-take, get_or_past}
use Rattle.std.proofs.lemmas.List.Concat.{flat_map-cons}
use Rattle.std.proofs.lemmas.Nat.{be_bytes_2, be_bytes_4, be_bytes_8, from_be_bytes-to_be_bytes_2, from_be_bytes-to_be_bytes_4, from_be_bytes-to_be_bytes_8}
use Rattle.rec_codec.specs.Spelling.{text}
use Rattle.rec_codec.specs.Reading.{Reader, ◌>>=◌, validated, byte_at, number_at, take_counted, piece_at, text_at, count_at, many_at, list_at}

-- ---- steps

abbrev pub IsBytes : List ℕ → Type 0
IsBytes bytes = (i : ℕ) → get_or bytes i 0 < 256

pub IsBytes-drop : (n : ℕ) (bytes : List ℕ) → IsBytes bytes → IsBytes (drop n bytes)
IsBytes-drop n bytes h i = rw get_or-drop (h (n + i))

pub IsBytes-take : (n : ℕ) (bytes : List ℕ) → IsBytes bytes → IsBytes (take n bytes)
IsBytes-take n bytes h i =
    elim (cases_lt i n) [
      | inl lt ↦ rw (get_or-take n bytes i 0 lt) (h i)
      | inr le ↦ rw (get_or_past (take n bytes) i 0 (omega (arith, length-take n bytes))) (omega arith)
    ]

pub IsBytes-rest : (c : ℕ) (bytes : List ℕ) → IsBytes (c ∷ bytes) → IsBytes bytes
IsBytes-rest c bytes h i = h (suc i)

-- each byte, as a test
pub all_bytes : (bytes : List ℕ) → IsBytes bytes → list_all (λ c. ltb c 256) bytes ≡ true
all_bytes [] h = refl
all_bytes (c ∷ bytes) h = and_from _ _ (lt-ltb c 256 (h 0)) (all_bytes bytes (IsBytes-rest c bytes h))

-- the value of a step that did not fail
pub bind_ok : {A B : Type 0} (r : Result A ℕ) (f : A → Result B ℕ) (y : B) → (r >>= f) ≡ Ok y → (x : A) × (r ≡ Ok x) × (f x ≡ Ok y)
bind_ok (Ok x) f y e = (x, refl, e)
bind_ok (Err left) f y e = absurd cc

-- a test that did not fail
pub guard_ok : {A : Type 0} (b : Bool) (left : ℕ) (x y : A) → cond b (Err left) (Ok x) ≡ Ok y → (b ≡ false) × (x ≡ y)
guard_ok true left x y e = absurd cc
guard_ok false left x y e = (refl, cc)

pub passed_ok : {A : Type 0} (b : Bool) (left : ℕ) (x y : A) → cond b (Ok x) (Err left) ≡ Ok y → (b ≡ true) × (x ≡ y)
passed_ok true left x y e = (refl, cc)
passed_ok false left x y e = absurd cc

abbrev pub done : {A : Type 0} → A → Result A ℕ
done x = Ok x

pub ok_is : {A : Type 0} (x y : A) → done x ≡ done y → x ≡ y
ok_is x y e = cc

-- what a reader took from the front
pub record Takes (bytes text rest : List ℕ) : Type 0 where
  pub parts : bytes ≡ text ++ rest
  pub rest_fits : IsBytes rest

pub ReadsLine-then : (a x b y c : List ℕ) → Takes a x b → Takes b y c → Takes a (x ++ y) c
ReadsLine-then a x b y c p q = record { parts = p.parts ∙ ap (λ (t : List ℕ). x ++ t) q.parts ∙ sym (append_assoc x y c); rest_fits = q.rest_fits }

pub ReadsLine-behind : (c : ℕ) (bytes text rest : List ℕ) → Takes bytes text rest → Takes (c ∷ bytes) (c ∷ text) rest
ReadsLine-behind c bytes text rest t = record { parts = ap (λ (x : List ℕ). c ∷ x) t.parts; rest_fits = t.rest_fits }

-- ---- the law of a reader

-- What is read is spelled so and passes the test; what passes it is read again.
pub record Reads (A : Type 0) (spell : A → List ℕ) (ok : A → Bool) (read : Reader A) : Type 0 where
  pub takes : (bytes : List ℕ) (x : A) (rest : List ℕ) → IsBytes bytes → read bytes ≡ Ok (x, rest) → Takes bytes (spell x) rest × (ok x ≡ true)
  pub again : (x : A) (rest : List ℕ) → ok x ≡ true → read (spell x ++ rest) ≡ Ok (x, rest)

-- the same under another test
pub ReadsOn-by : {A : Type 0} {spell : A → List ℕ} {p : A → Bool} {read : Reader A} (q : A → Bool) → Reads A spell p read → ((x : A) → p x ≡ true → q x ≡ true) → ((x : A) → q x ≡ true → p x ≡ true) → Reads A spell q read
ReadsOn-by q r there back = record {
  takes = λ bytes x rest fits e. let t = r.takes bytes x rest fits e in (t.0, there x t.1);
  again = λ x rest h. r.again x rest (back x h);
}

kept_ok : {A : Type 0} (p : A → Bool) (bytes : List ℕ) (r : Result (A × List ℕ) ℕ) (x : A) (rest : List ℕ) → validated p bytes r ≡ Ok (x, rest) → (r ≡ Ok (x, rest)) × (p x ≡ true)
kept_ok {A} p bytes (Ok y) x rest e =
    let g = passed_ok (p y.0) (length bytes) y (x, rest) e in
    (ap (λ (z : A × List ℕ). Ok z) g.1, subst (λ (z : A × List ℕ). p z.0 ≡ true) g.1 g.0)
kept_ok p bytes (Err left) x rest e = absurd cc

-- a reader that keeps what passes a further test
pub ReadsOn-kept : {A : Type 0} {spell : A → List ℕ} {ok : A → Bool} {read : Reader A} (p : A → Bool) → Reads A spell ok read → Reads A spell (λ x. ok x && p x) (λ bytes. validated p bytes (read bytes))
ReadsOn-kept {A} {spell} {ok} {read} p r = record {
  takes = λ bytes x rest fits e.
      let k = kept_ok p bytes (read bytes) x rest e in
      let t = r.takes bytes x rest fits k.0 in
      (t.0, and_from (ok x) (p x) t.1 k.1);
  again = λ x rest h.
      let both = and_parts (ok x) (p x) h in
      let once : read (spell x ++ rest) ≡ Ok (x, rest) = r.again x rest both.0 in
      ap (validated p (spell x ++ rest)) once ∙ ap (λ (b : Bool). cond b (Ok (x, rest)) (Err (length (spell x ++ rest)))) both.1;
}

-- ---- numbers

pub record IsWide (w : Width) (limit : ℕ) : Type 0 where
  pub len : (n : ℕ) → length (to_be_bytes w n) ≡ byte_len w
  pub back : (bytes : List ℕ) → length bytes ≡ byte_len w → IsBytes bytes → to_be_bytes w (from_be_bytes w bytes) ≡ bytes
  pub again : (n : ℕ) → n < limit → from_be_bytes w (to_be_bytes w n) ≡ n
  pub below : (bytes : List ℕ) → IsBytes bytes → from_be_bytes w bytes < limit

pub wide16 : IsWide w16 (2 ^ 16)
wide16 = record {
  len = λ n. refl;
  back = λ bytes len fits. be_bytes_2 bytes _ len fits refl;
  again = λ n lt. from_be_bytes-to_be_bytes_2 n lt;
  below = λ bytes fits. omega (arith, fits 0, fits 1);
}

pub wide32 : IsWide w32 (2 ^ 32)
wide32 = record {
  len = λ n. refl;
  back = λ bytes len fits. be_bytes_4 bytes _ len fits refl;
  again = λ n lt. from_be_bytes-to_be_bytes_4 n lt;
  below = λ bytes fits. omega (arith, fits 0, fits 1, fits 2, fits 3);
}

pub wide64 : IsWide w64 (2 ^ 64)
wide64 = record {
  len = λ n. refl;
  back = λ bytes len fits. be_bytes_8 bytes _ len fits refl;
  again = λ n lt. from_be_bytes-to_be_bytes_8 n lt;
  below = λ bytes fits. omega (arith, fits 0, fits 1, fits 2, fits 3, fits 4, fits 5, fits 6, fits 7);
}

number_takes : (w : Width) (limit : ℕ) (wide : IsWide w limit) (bytes : List ℕ) (n : ℕ) (rest : List ℕ) → IsBytes bytes → number_at w bytes ≡ Ok (n, rest) → Takes bytes (to_be_bytes w n) rest × (n < limit)
number_takes w limit wide bytes n rest fits e =
    let g = guard_ok (ltb (length bytes) (byte_len w)) (length bytes) (from_be_bytes w (take (byte_len w) bytes), drop (byte_len w) bytes) (n, rest) e in
    let long : byte_len w ≤ length bytes = ltb-false _ _ g.0 in
    let n-is : from_be_bytes w (take (byte_len w) bytes) ≡ n = ap (λ (p : ℕ × List ℕ). p.0) g.1 in
    let rest-is : drop (byte_len w) bytes ≡ rest = ap (λ (p : ℕ × List ℕ). p.1) g.1 in
    let front : to_be_bytes w n ≡ take (byte_len w) bytes = rw (← n-is) (wide.back (take (byte_len w) bytes) (omega (arith, length-take (byte_len w) bytes)) (IsBytes-take (byte_len w) bytes fits)) in
    (record { parts = rw (front, ← rest-is) (sym (take-append-drop (byte_len w) bytes)); rest_fits = rw (← rest-is) (IsBytes-drop (byte_len w) bytes fits) }, rw (← n-is) (wide.below (take (byte_len w) bytes) (IsBytes-take (byte_len w) bytes fits)))

number_again : (w : Width) (limit : ℕ) (wide : IsWide w limit) (n : ℕ) (rest : List ℕ) → n < limit → number_at w (to_be_bytes w n ++ rest) ≡ Ok (n, rest)
number_again w limit wide n rest lt =
    let len = wide.len n in
    let long : ltb (length (to_be_bytes w n ++ rest)) (byte_len w) ≡ false = le-ltb _ _ (omega (arith, length-append (to_be_bytes w n) rest)) in
    rw (long, take_at (to_be_bytes w n) rest (byte_len w) len, drop_at (to_be_bytes w n) rest (byte_len w) len, wide.again n lt) refl

pub number_reads : (w : Width) (limit : ℕ) → IsWide w limit → Reads ℕ (to_be_bytes w) (λ n. ltb n limit) (number_at w)
number_reads w limit wide = record {
  takes = λ bytes n rest fits e. let t = number_takes w limit wide bytes n rest fits e in (t.0, lt-ltb n limit t.1);
  again = λ n rest h. number_again w limit wide n rest (ltb-true n limit h);
}

-- ---- a byte, and a count

byte_takes : (bytes : List ℕ) (n : ℕ) (rest : List ℕ) → IsBytes bytes → byte_at bytes ≡ Ok (n, rest) → Takes bytes (n ∷ []) rest × (true ≡ true)
byte_takes [] n rest fits e = absurd cc
byte_takes (c ∷ bytes) n rest fits e =
    let g = ok_is (c, bytes) (n, rest) e in
    (subst (λ (p : ℕ × List ℕ). Takes (c ∷ bytes) (p.0 ∷ []) p.1) g (record { parts = refl; rest_fits = IsBytes-rest c bytes fits }), refl)

pub byte_reads : Reads ℕ (λ n. n ∷ []) (λ n. true) byte_at
byte_reads = record { takes = byte_takes; again = λ n rest h. refl }

pub count_reads : (least most : ℕ) → Reads ℕ (λ n. n ∷ []) (λ n. leb least n && leb n most) (count_at least most)
unfolding count_at
count_reads least most = ReadsOn-by (λ n. leb least n && leb n most) (ReadsOn-kept (λ n. leb least n && leb n most) byte_reads) (λ n h. h) (λ n h. h)

-- ---- bytes behind their number

piece_takes : (bytes t rest : List ℕ) → IsBytes bytes → piece_at bytes ≡ Ok (t, rest) → Takes bytes (text t) rest × (ltb (length t) (2 ^ 16) ≡ true) × IsBytes t
unfolding piece_at
piece_takes bytes t rest fits e =
    let b = bind_ok (number_at w16 bytes) (take_counted bytes) (t, rest) e in
    let n = b.0 in
    let p = number_takes w16 (2 ^ 16) wide16 bytes n.0 n.1 fits b.1 in
    let g = guard_ok (ltb (length n.1) n.0) (length bytes) (take n.0 n.1, drop n.0 n.1) (t, rest) b.2 in
    let long : n.0 ≤ length n.1 = ltb-false _ _ g.0 in
    let len : length (take n.0 n.1) ≡ n.0 = omega (arith, length-take n.0 n.1) in
    let second : Takes n.1 (take n.0 n.1) (drop n.0 n.1) = record { parts = sym (take-append-drop n.0 n.1); rest_fits = IsBytes-drop n.0 n.1 p.0.rest_fits } in
    let both = ReadsLine-then bytes (to_be_bytes w16 n.0) n.1 (take n.0 n.1) (drop n.0 n.1) p.0 second in
    let whole : Takes bytes (text (take n.0 n.1)) (drop n.0 n.1) = subst (λ (k : ℕ). Takes bytes (to_be_bytes w16 k ++ take n.0 n.1) (drop n.0 n.1)) (sym len) both in
    let below : ltb (length (take n.0 n.1)) (2 ^ 16) ≡ true = lt-ltb _ _ (omega (arith, p.1)) in
    subst (λ (q : List ℕ × List ℕ). Takes bytes (text q.0) q.1 × (ltb (length q.0) (2 ^ 16) ≡ true) × IsBytes q.0) g.1 (whole, below, IsBytes-take n.0 n.1 p.0.rest_fits)

piece_again : (t rest : List ℕ) → ltb (length t) (2 ^ 16) ≡ true → piece_at (text t ++ rest) ≡ Ok (t, rest)
unfolding piece_at
piece_again t rest h =
    let lt : length t < 2 ^ 16 = ltb-true _ _ h in
    let long : ltb (length (t ++ rest)) (length t) ≡ false = le-ltb _ _ (omega (arith, length-append t rest)) in
    rw (number_again w16 (2 ^ 16) wide16 (length t) (t ++ rest) lt, long, take_at t rest (length t) refl, drop_at t rest (length t) refl) refl

pub piece_reads : Reads (List ℕ) text (λ t. ltb (length t) (2 ^ 16)) piece_at
piece_reads = record {
  takes = λ bytes t rest fits e. let p = piece_takes bytes t rest fits e in (p.0, p.1);
  again = piece_again;
}

-- a text that passes a test of its own, which no long text passes
pub text_reads : (passes : List ℕ → Bool) → ((t : List ℕ) → passes t ≡ true → length t < 2 ^ 16) → Reads (List ℕ) text passes (text_at passes)
unfolding text_at
text_reads passes short =
    ReadsOn-by passes (ReadsOn-kept passes piece_reads) (λ t h. (and_parts (ltb (length t) (2 ^ 16)) (passes t) h).1)
    (λ t h. and_from (ltb (length t) (2 ^ 16)) (passes t) (lt-ltb _ _ (short t h)) h)

-- ---- so many, and lists

pub many_takes : {A : Type 0} {spell : A → List ℕ} {ok : A → Bool} {read : Reader A} → Reads A spell ok read → (n : ℕ) (bytes : List ℕ) (xs : List A) (rest : List ℕ) → IsBytes bytes → many_at read n bytes ≡ Ok (xs, rest) → Takes bytes (flat_map spell xs) rest × (length xs ≡ n) × (list_all ok xs ≡ true)
unfolding many_at
many_takes {A} {spell} {ok} r zero bytes xs rest fits e =
    subst (λ (y : List A × List ℕ). Takes bytes (flat_map spell y.0) y.1 × (length y.0 ≡ 0) × (list_all ok y.0 ≡ true)) (ok_is ([], bytes) (xs, rest) e) (record { parts = refl; rest_fits = fits }, refl, refl)
many_takes {A} {spell} {ok} {read} r (suc n) bytes xs rest fits e =
    let a = bind_ok (read bytes) (λ first. many_at read n first.1 >>= λ others. Ok (first.0 ∷ others.0, others.1)) (xs, rest) e in
    let b = bind_ok (many_at read n a.0.1) (λ others. Ok (a.0.0 ∷ others.0, others.1)) (xs, rest) a.2 in
    let first = r.takes bytes a.0.0 a.0.1 fits a.1 in
    let second = many_takes r n a.0.1 b.0.0 b.0.1 first.0.rest_fits b.1 in
    let both = ReadsLine-then bytes (spell a.0.0) a.0.1 (flat_map spell b.0.0) b.0.1 first.0 second.0 in
    let made : List A × List ℕ = (a.0.0 ∷ b.0.0, b.0.1) in
    subst (λ (y : List A × List ℕ). Takes bytes (flat_map spell y.0) y.1 × (length y.0 ≡ suc n) × (list_all ok y.0 ≡ true)) (ok_is made (xs, rest) b.2)
    (rw flat_map-cons both, ap suc second.1, and_from (ok a.0.0) (list_all ok b.0.0) first.1 second.2)

pub many_again : {A : Type 0} {spell : A → List ℕ} {ok : A → Bool} {read : Reader A} → Reads A spell ok read → (xs : List A) (rest : List ℕ) → list_all ok xs ≡ true → many_at read (length xs) (flat_map spell xs ++ rest) ≡ Ok (xs, rest)
unfolding many_at
many_again r [] rest h = refl
many_again {A} {spell} {ok} {read} r (x ∷ xs) rest h =
    let both = and_parts (ok x) (list_all ok xs) h in
    let regrouped : flat_map spell (x ∷ xs) ++ rest ≡ spell x ++ (flat_map spell xs ++ rest) = ap (λ (t : List ℕ). t ++ rest) (flat_map-cons spell x xs) ∙ append_assoc (spell x) (flat_map spell xs) rest in
    ap (many_at read (suc (length xs))) regrouped ∙ rw (r.again x (flat_map spell xs ++ rest) both.0, many_again r xs rest both.1) refl

-- how many there are, and each of them
abbrev pub counted_list : {A : Type 0} → (A → List ℕ) → List A → List ℕ
counted_list spell xs = length xs ∷ flat_map spell xs

abbrev pub passes_list : {A : Type 0} → ℕ → (A → Bool) → List A → Bool
passes_list least ok xs = (leb least (length xs) && leb (length xs) 8) && list_all ok xs

list_takes : {A : Type 0} {spell : A → List ℕ} {ok : A → Bool} {read : Reader A} (least : ℕ) → Reads A spell ok read → (bytes : List ℕ) (xs : List A) (rest : List ℕ) → IsBytes bytes → list_at least read bytes ≡ Ok (xs, rest) → Takes bytes (counted_list spell xs) rest × (passes_list least ok xs ≡ true)
unfolding list_at
list_takes {A} {spell} {ok} {read} least r bytes xs rest fits e =
    let a = bind_ok (count_at least 8 bytes) (λ n. many_at read n.0 n.1) (xs, rest) e in
    let first = (count_reads least 8).takes bytes a.0.0 a.0.1 fits a.1 in
    let second = many_takes r a.0.0 a.0.1 xs rest first.0.rest_fits a.2 in
    let both = ReadsLine-then bytes (a.0.0 ∷ []) a.0.1 (flat_map spell xs) rest first.0 second.0 in (
      subst (λ (k : ℕ). Takes bytes (k ∷ flat_map spell xs) rest) (sym second.1) both,
      and_from (leb least (length xs) && leb (length xs) 8) (list_all ok xs) (subst (λ (k : ℕ). (leb least k && leb k 8) ≡ true) (sym second.1) first.1) second.2,
    )

list_again : {A : Type 0} {spell : A → List ℕ} {ok : A → Bool} {read : Reader A} (least : ℕ) → Reads A spell ok read → (xs : List A) (rest : List ℕ) → passes_list least ok xs ≡ true → list_at least read (counted_list spell xs ++ rest) ≡ Ok (xs, rest)
unfolding list_at
list_again {A} {spell} {ok} {read} least r xs rest h =
    let both = and_parts (leb least (length xs) && leb (length xs) 8) (list_all ok xs) h in
    rw ((count_reads least 8).again (length xs) (flat_map spell xs ++ rest) both.0, many_again r xs rest both.1) refl

pub list_reads : {A : Type 0} {spell : A → List ℕ} {ok : A → Bool} {read : Reader A} (least : ℕ) → Reads A spell ok read → Reads (List A) (counted_list spell) (passes_list least ok) (list_at least read)
list_reads least r = record { takes = list_takes least r; again = list_again least r }
