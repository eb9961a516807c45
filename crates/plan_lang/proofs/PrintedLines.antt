-- The printed lines of events and turns: UTF-8 without a line feed.
use Rattle.std.proofs.Common.{◌≡◌, ℕ, zero, suc, ◌+◌, ◌<◌, ◌/◌, ◌%◌, Bool, true, false, cond, eqb, leb, ltb, List, [], ◌∷◌, ◌++◌, length, Option, Some, None, refl, arith, pos, negsuc, ℤ}
use Rattle.std.specs.Prelude.{◌&&◌, ◌||◌, not, bytes_eq, codes, nat_lt, flat_map, slice_index}
use Rattle.std.specs.List.{list_all, list_any}
use Rattle.std.specs.Fmt.{decimal, signed_decimal, digits, digits_onto, digit_glyph}
use Rattle.std.proofs.lemmas.Bool.Decides.{nat_tests}
use Rattle.std.specs.Str.{IsUtf8}
use Rattle.std.proofs.lemmas.Str.{IsUtf8-nil, IsUtf8-append, IsUtf8-from_ascii, IsUtf8-from_is_utf8}
use Rattle.lb_base.specs.declared.value.Mode.{Mode}
use Rattle.lb_base.specs.declared.value.Mode.TheVariants as mode
use Rattle.lb_base.specs.declared.value.Tag.{Tag}
use Rattle.lb_base.specs.declared.value.Value.{Value}
use Rattle.lb_base.specs.declared.value.Value.TheVariants as v
use Rattle.lb_base.specs.Print.{value_text, mode_text, dotted, path_text}
use Rattle.lb_base.specs.Quoted.{quoted}
use Rattle.boki_types.specs.declared.event.Event.{Event}
use Rattle.boki_types.specs.declared.event.Event.TheVariants as e
use Rattle.boki_types.specs.declared.program.Function.{Function}
use Rattle.boki_types.specs.declared.turn.Turn.{Turn}
use Rattle.boki_types.specs.declared.turn.Turn.TheVariants as u
use Rattle.boki_model.specs.Bodies.{is_letter as letter, is_digit as digit, has_identifier_characters, is_identifier, reserved_words}
use Rattle.boki_model.specs.Plans.{function_names}
use Rattle.script_lang.specs.Printed.{each_behind_comma, comma_joined}
use Rattle.script_lang.proofs.StmtTextLexes.{no_feed, feed_append, feed_quoted}
use Rattle.plan_lang.specs.Printed.{function_name_at, call_text, behind_tag, tags_text, one_number_text, two_number_text, three_number_text, newer_text, event_text, turn_text}
use Rattle.plan_lang.proofs.CleanEvents.{is_clean_event}
use Rattle.plan_lang.proofs.CleanReads.{is_clean_value, are_clean_values}
use Rattle.plan_lang.proofs.CleanTurns.{is_clean_turn}
use Rattle.line_text.proofs.FieldsInRange.{both_true, split_true}
use Rattle.line_text.proofs.Utf8Tokens.{is_clean_text}

-- ASCII without line feeds
abbrev pub is_plain : ℕ → Bool
is_plain c = nat_lt c 128 && not (eqb c 10)

abbrev pub plain : List ℕ → Bool
plain text = list_all is_plain text

pub plain_append : (a b : List ℕ) → plain a ≡ true → plain b ≡ true → plain (a ++ b) ≡ true
plain_append [] b h k = k
plain_append (c ∷ cs) b h k =
    let s = split_true (is_plain c) (plain cs) h in both_true (is_plain c) (plain (cs ++ b)) s.0 (plain_append cs b s.1 k)

glyph_by : (d : ℕ) (b : Bool) → ltb d 10 ≡ b → d < 10 → is_plain (cond b (48 + d) (87 + d)) ≡ true
glyph_by d true e l = grind (arith, nat_tests, l)
glyph_by d false e l = absurd (grind (arith, nat_tests, e, l))

onto_by : (k n : ℕ) (c : ℕ) (acc : List ℕ) (b : Bool) → is_plain c ≡ true → plain acc ≡ true → (plain (c ∷ acc) ≡ true → plain (digits_onto k 10 false n (c ∷ acc)) ≡ true) → plain (cond b (c ∷ acc) (digits_onto k 10 false n (c ∷ acc))) ≡ true
onto_by k n c acc true h g f = both_true (is_plain c) (plain acc) h g
onto_by k n c acc false h g f = f (both_true (is_plain c) (plain acc) h g)

onto_plain : (k n : ℕ) (acc : List ℕ) → plain acc ≡ true → plain (digits_onto k 10 false n acc) ≡ true
onto_plain zero n acc h = h
onto_plain (suc k) n acc h =
    onto_by k (n / 10) (digit_glyph false (n % 10)) acc (eqb (n / 10) 0) (glyph_by (n % 10) (ltb (n % 10) 10) refl (omega arith)) h (onto_plain k (n / 10) (digit_glyph false (n % 10) ∷ acc))

pub plain_decimal : (n : ℕ) → plain (decimal n) ≡ true
unfolding digits
plain_decimal n = onto_plain 64 n [] refl

pub plain_signed : (z : ℤ) → plain (signed_decimal z) ≡ true
plain_signed (pos n) = plain_decimal n
plain_signed (negsuc n) = plain_decimal (suc n)

plain_letter : (c : ℕ) → (letter c || digit c) ≡ true → is_plain c ≡ true
plain_letter c h = grind (arith, nat_tests, h)

plain_word : (w : List ℕ) → list_all (λ d. letter d || digit d) w ≡ true → plain w ≡ true
plain_word [] h = refl
plain_word (c ∷ cs) h =
    let k = split_true (letter c || digit c) (list_all (λ d. letter d || digit d) cs) h in
    both_true (is_plain c) (plain cs) (plain_letter c k.0) (plain_word cs k.1)

or_left : (a b : Bool) → a ≡ true → (a || b) ≡ true
or_left a b h = rw h refl

pub plain_name : (w : List ℕ) → is_identifier w ≡ true → plain w ≡ true
plain_name [] h = refl
plain_name (c ∷ cs) h =
    let k = split_true (has_identifier_characters (c ∷ cs) && leb (length (c ∷ cs)) 32) (not (list_any (bytes_eq (c ∷ cs)) reserved_words)) h in
    let i = split_true (has_identifier_characters (c ∷ cs)) (leb (length (c ∷ cs)) 32) k.0 in
    let j = split_true (letter c) (list_all (λ d. letter d || digit d) cs) i.0 in
    both_true (is_plain c) (plain cs) (plain_letter c (or_left (letter c) (digit c) j.0)) (plain_word cs j.1)

-- UTF-8 without a line feed
pub record Inline (w : List ℕ) : Type 0 where
  pub utf8 : IsUtf8 w
  pub feed : no_feed w ≡ true

pub joined : (a b : List ℕ) → Inline a → Inline b → Inline (a ++ b)
joined a b g h = record { utf8 = IsUtf8-append a b g.utf8 h.utf8; feed = feed_append a b g.feed h.feed }

one_ascii : (c i : ℕ) → c < 128 → slice_index (c ∷ []) i < 128
one_ascii c zero h = h
one_ascii c (suc i) h = omega arith

one_utf8 : (c : ℕ) → c < 128 → IsUtf8 (c ∷ [])
one_utf8 c h = IsUtf8-from_ascii (c ∷ []) (λ i. one_ascii c i h)

pub feed_utf8 : IsUtf8 (codes "\n")
feed_utf8 = one_utf8 10 (omega arith)

low_code : (c : ℕ) → is_plain c ≡ true → c < 128
low_code c h = grind (arith, nat_tests, h)

pub plain_utf8 : (w : List ℕ) → plain w ≡ true → IsUtf8 w
plain_utf8 [] h = IsUtf8-nil
plain_utf8 (c ∷ cs) h =
    let s = split_true (is_plain c) (plain cs) h in IsUtf8-append (c ∷ []) cs (one_utf8 c (low_code c s.0)) (plain_utf8 cs s.1)

plain_feed : (text : List ℕ) → plain text ≡ true → no_feed text ≡ true
plain_feed [] h = refl
plain_feed (c ∷ cs) h =
    let s = split_true (is_plain c) (plain cs) h in
    both_true (not (eqb c 10)) (no_feed cs) ((split_true (nat_lt c 128) (not (eqb c 10)) s.0).1) (plain_feed cs s.1)

pub plain_inline : (w : List ℕ) → plain w ≡ true → Inline w
plain_inline w h = record { utf8 = plain_utf8 w h; feed = plain_feed w h }

pub quote_inline : (x : List ℕ) → is_clean_text x ≡ true → Inline (quoted x)
quote_inline x h = record { utf8 = IsUtf8-from_is_utf8 (quoted x) h; feed = feed_quoted x }

-- a plain front, and what follows it
pub front : (a b : List ℕ) → plain a ≡ true → Inline b → Inline (a ++ b)
front a b h k = joined a b (plain_inline a h) k

-- Lists with commas between.
abbrev pub AllInline : {A : Type 0} → (A → List ℕ) → List A → Type 0
AllInline print [] = Unit {0}
AllInline print (x ∷ xs) = Inline (print x) × AllInline print xs

more_inline : {A : Type 0} (print : A → List ℕ) (xs : List A) → AllInline print xs → Inline (each_behind_comma print xs)
more_inline print [] h = plain_inline [] refl
more_inline print (x ∷ xs) h =
    front (codes ", ") (print x ++ each_behind_comma print xs) refl (joined (print x) (each_behind_comma print xs) h.0 (more_inline print xs h.1))

pub listed_inline : {A : Type 0} (print : A → List ℕ) (xs : List A) → AllInline print xs → Inline (comma_joined print xs)
listed_inline print [] h = plain_inline [] refl
listed_inline print (x ∷ xs) h = joined (print x) (each_behind_comma print xs) h.0 (more_inline print xs h.1)

-- Values and calls.
pub value_inline : (x : Value) → is_clean_value x ≡ true → Inline (value_text x)
value_inline (v.Int n) h = plain_inline (signed_decimal n) (plain_signed n)
value_inline (v.Text x) h = quote_inline x h
value_inline v.Nothing h = plain_inline (codes "none") refl

values_inline : (xs : List Value) → are_clean_values xs ≡ true → AllInline value_text xs
values_inline [] h = tt
values_inline (x ∷ xs) h = let s = split_true (is_clean_value x) (are_clean_values xs) h in (value_inline x s.0, values_inline xs s.1)

named_plain : (fs : List Function) (f : ℕ) → list_all is_identifier (function_names fs) ≡ true → plain (function_name_at fs f) ≡ true
named_plain [] f h = refl
named_plain (g ∷ fs) zero h = plain_name g.name ((split_true (is_identifier g.name) (list_all is_identifier (function_names fs)) h).0)
named_plain (g ∷ fs) (suc f) h = named_plain fs f ((split_true (is_identifier g.name) (list_all is_identifier (function_names fs)) h).1)

call_inline : (fs : List Function) (f : ℕ) (args : List Value) → list_all is_identifier (function_names fs) ≡ true → are_clean_values args ≡ true → Inline (call_text fs f args)
call_inline fs f args h g =
    joined (function_name_at fs f) (codes "(" ++ (comma_joined value_text args ++ codes ")")) (plain_inline (function_name_at fs f) (named_plain fs f h))
    (joined (codes "(") (comma_joined value_text args ++ codes ")") (plain_inline (codes "(") refl)
    (joined (comma_joined value_text args) (codes ")") (listed_inline value_text args (values_inline args g)) (plain_inline (codes ")") refl)))

tags_more : (tags : List Tag) → plain (flat_map behind_tag tags) ≡ true
tags_more [] = refl
tags_more (tag ∷ tags) = plain_append (decimal tag.0) (flat_map behind_tag tags) (plain_decimal tag.0) (tags_more tags)

tags_plain : (tags : List Tag) → plain (tags_text tags) ≡ true
tags_plain [] = refl
tags_plain (tag ∷ tags) = plain_append (decimal tag.0) (flat_map behind_tag tags) (plain_decimal tag.0) (tags_more tags)

dotted_plain : (ns : List ℕ) → plain (dotted ns) ≡ true
dotted_plain [] = refl
dotted_plain (n ∷ ns) = plain_append (decimal n) (dotted ns) (plain_decimal n) (dotted_plain ns)

path_plain : (ns : List ℕ) → plain (path_text ns) ≡ true
path_plain [] = refl
path_plain (n ∷ ns) = plain_append (decimal n) (dotted ns) (plain_decimal n) (dotted_plain ns)

pub mode_plain : (m : Mode) → plain (mode_text m) ≡ true
mode_plain mode.R = refl
mode_plain mode.W = refl
mode_plain mode.T = refl

two_plain : (a b : List ℕ) → plain a ≡ true → plain b ≡ true → plain (a ++ (32 ∷ b)) ≡ true
two_plain a b h k = plain_append a (32 ∷ b) h k

one_plain : (word : List ℕ) (n : ℕ) → plain word ≡ true → Inline (one_number_text word n)
one_plain word n h = plain_inline (one_number_text word n) (plain_append word (decimal n) h (plain_decimal n))

pair_plain : (word : List ℕ) (n m : ℕ) → plain word ≡ true → Inline (two_number_text word n m)
pair_plain word n m h =
    plain_inline (two_number_text word n m) (plain_append word (decimal n ++ (32 ∷ decimal m)) h (two_plain (decimal n) (decimal m) (plain_decimal n) (plain_decimal m)))

triple_plain : (word : List ℕ) (n m o : ℕ) → plain word ≡ true → Inline (three_number_text word n m o)
triple_plain word n m o h =
    plain_inline (three_number_text word n m o) (plain_append word (decimal n ++ (32 ∷ (decimal m ++ (32 ∷ decimal o)))) h
    (two_plain (decimal n) (decimal m ++ (32 ∷ decimal o)) (plain_decimal n) (two_plain (decimal m) (decimal o) (plain_decimal m) (plain_decimal o))))

pub newer_plain : (n : Option ℕ) → plain (newer_text n) ≡ true
newer_plain None = refl
newer_plain (Some n) = plain_decimal n

-- a number with its space, and what follows it
pub numbered : (n : ℕ) (b : List ℕ) → Inline b → Inline (decimal n ++ (codes " " ++ b))
numbered n b h = front (decimal n) (codes " " ++ b) (plain_decimal n) (front (codes " ") b refl h)

tagged : (tags : List Tag) (text : List ℕ) → is_clean_text text ≡ true → Inline (tags_text tags ++ (codes " " ++ quoted text))
tagged tags text h = front (tags_text tags) (codes " " ++ quoted text) (tags_plain tags) (front (codes " ") (quoted text) refl (quote_inline text h))

-- Events and turns.
pub event_inline : (fs : List Function) (x : Event) → list_all is_identifier (function_names fs) ≡ true → is_clean_event x ≡ true → Inline (event_text fs x)
event_inline fs (e.Submit n q f args) i h =
    front (codes "submit ") _ refl (numbered n _ (numbered q (call_text fs f args) (call_inline fs f args i h)))
event_inline fs (e.Copy shard replica n) i h = triple_plain (codes "copy ") shard replica n refl
event_inline fs e.Cut i h = plain_inline (codes "cut") refl
event_inline fs (e.Catch n) i h = one_plain (codes "catch ") n refl
event_inline fs e.Sync i h = plain_inline (codes "sync") refl
event_inline fs (e.Restart n) i h = one_plain (codes "restart ") n refl
event_inline fs (e.Start attempt path n) i h =
    front (codes "start ") _ refl (numbered attempt _ (plain_inline (path_text path ++ (codes " " ++ decimal n)) (two_plain (path_text path) (decimal n) (path_plain path) (plain_decimal n))))
event_inline fs (e.Step n) i h = one_plain (codes "step ") n refl
event_inline fs (e.Kill n) i h = one_plain (codes "kill ") n refl
event_inline fs (e.Lose n) i h = one_plain (codes "lose ") n refl
event_inline fs (e.Miss n) i h = one_plain (codes "miss ") n refl
event_inline fs (e.Switch n target) i h =
    front (codes "switch ") _ refl (numbered n (mode_text target) (plain_inline (mode_text target) (mode_plain target)))
event_inline fs (e.EndSwitch n) i h = one_plain (codes "endswitch ") n refl
event_inline fs (e.Trim n) i h = one_plain (codes "trim ") n refl
event_inline fs (e.Sweep n) i h = one_plain (codes "sweep ") n refl
event_inline fs (e.Append n tags text) i h = front (codes "append ") _ refl (numbered n _ (tagged tags text h))
event_inline fs (e.Cond n o tags text) i h = front (codes "cond ") _ refl (numbered n _ (numbered o _ (tagged tags text h)))
event_inline fs (e.Next n tag o) i h = triple_plain (codes "next ") n tag.0 o.0 refl
event_inline fs (e.Prev n tag o) i h = triple_plain (codes "prev ") n tag.0 o.0 refl
event_inline fs (e.Tail n tag) i h = pair_plain (codes "tail ") n tag.0 refl
event_inline fs (e.TrimTag n tag o) i h = triple_plain (codes "trimtag ") n tag.0 o.0 refl
event_inline fs (e.Settled n shard local) i h =
    front (codes "settled ") _ refl (numbered n _ (plain_inline (decimal shard ++ (codes "." ++ decimal local)) (plain_append (decimal shard) (codes "." ++ decimal local) (plain_decimal shard) (plain_decimal local))))
event_inline fs (e.SetAux n o text) i h = front (codes "setaux ") _ refl (numbered n _ (numbered o.0 (quoted text) (quote_inline text h)))
event_inline fs (e.GetAux n o) i h = pair_plain (codes "getaux ") n o.0 refl
event_inline fs (e.Seed n) i h = one_plain (codes "seed ") n refl

pub turn_inline : (fs : List Function) (x : Turn) → list_all is_identifier (function_names fs) ≡ true → is_clean_turn x ≡ true → Inline (turn_text fs x)
turn_inline fs (u.Submit q f args) i h = front (codes "turn submit ") _ refl (numbered q (call_text fs f args) (call_inline fs f args i h))
turn_inline fs (u.Go path n) i h =
    front (codes "turn go ") _ refl (plain_inline (path_text path ++ (codes " " ++ decimal n)) (two_plain (path_text path) (decimal n) (path_plain path) (plain_decimal n)))
turn_inline fs (u.End path) i h = front (codes "turn end ") _ refl (plain_inline (path_text path) (path_plain path))
