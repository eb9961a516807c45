-- What is read of a line's fields is in range.
use Rattle.std.proofs.Common.{◌≡◌, ℕ, zero, suc, ◌+◌, ◌-◌, ◌^◌, ◌≤◌, Bool, true, false, cond, List, [], ◌∷◌, length, Option, Some, None, option_map, refl, arith}
use Rattle.std.specs.Prelude.{◌&&◌, option_and_then, bytes_eq, codes, nat_lt, nat_le}
use Rattle.std.specs.List.{list_all}
use Rattle.std.proofs.lemmas.Bool.Decides.{nat_tests}
use Rattle.lb_base.specs.declared.value.Mode.{Mode}
use Rattle.lb_base.specs.declared.value.Mode.TheVariants as mode
use Rattle.lb_base.specs.declared.value.Tag.{Tag}
use Rattle.lb_base.specs.Path.{is_path, is_request}
use Rattle.boki_model.specs.Bodies.{is_target}
use Rattle.boki_model.specs.Bodies.{is_u64}
use Rattle.boki_model.specs.Plans.{in_bounds, is_user_tag, are_user_tags, is_text}
use Rattle.line_text.specs.declared.token.Punctuation.TheVariants as m
use Rattle.line_text.specs.declared.token.Token.{Token}
use Rattle.line_text.specs.declared.token.Token.TheVariants as t
use Rattle.line_text.specs.declared.checked.Checked.{Checked}
use Rattle.line_text.specs.declared.checked.Checked.TheVariants as r
use Rattle.line_text.specs.declared.lists.CommaList.{CommaList}
use Rattle.line_text.specs.Stream.{found_before, take_punctuation}
use Rattle.line_text.specs.Readers.{Reader, if_at_end, numeral_at, text_at}
use Rattle.line_text.specs.Checks.{both_checked, map_checked, checked_if}
use Rattle.line_text.specs.Lists.{cons, with_one_more, more_if_comma, many_behind, at_most, comma_list, up_to_eight}
use Rattle.line_text.specs.Fields.{number_in_range, number_at, u64_at, mode_at, short_text_at, path_by, path_in, path_at, path_numbers_of, checked_option, numbers_in, sent_position_of, sent_position_at, user_tag_of, tag_at, tags_at}

-- what is in range passes a test
abbrev pub IfValid : {A : Type 0} → (A → Bool) → Checked A → Type 0
IfValid p (r.Valid a) = p a ≡ true
IfValid p r.OutOfRange = Unit {0}
IfValid p r.TooDeep = Unit {0}

pub any_if_valid : {A : Type 0} (x : Checked A) → IfValid (λ _. true) x
any_if_valid (r.Valid a) = refl
any_if_valid r.OutOfRange = tt
any_if_valid r.TooDeep = tt

abbrev pub IfReadValid : {A : Type 0} → (A → Bool) → Option (Checked A × List Token) → Type 0
IfReadValid p None = Unit {0}
IfReadValid p (Some x) = IfValid p x.0

abbrev pub IfLineValid : {A : Type 0} → (A → Bool) → Option (Checked A) → Type 0
IfLineValid p None = Unit {0}
IfLineValid p (Some x) = IfValid p x

pub checked_if_valid : {A : Type 0} (p : A → Bool) (b : Bool) (a : A) → (b ≡ true → p a ≡ true) → IfValid p (checked_if b a)
checked_if_valid p true a h = h refl
checked_if_valid p false a h = tt

pub if_valid_weaker : {A : Type 0} (p q : A → Bool) (x : Checked A) → ((a : A) → p a ≡ true → q a ≡ true) → IfValid p x → IfValid q x
if_valid_weaker p q (r.Valid a) h f = h a f
if_valid_weaker p q r.OutOfRange h f = tt
if_valid_weaker p q r.TooDeep h f = tt

pub if_read_valid_weaker : {A : Type 0} (p q : A → Bool) (o : Option (Checked A × List Token)) → ((a : A) → p a ≡ true → q a ≡ true) → IfReadValid p o → IfReadValid q o
if_read_valid_weaker p q None h f = tt
if_read_valid_weaker p q (Some x) h f = if_valid_weaker p q x.0 h f

pub map_if_valid : {A B : Type 0} (p : A → Bool) (q : B → Bool) (f : A → B) (x : Checked A) → ((a : A) → p a ≡ true → q (f a) ≡ true) → IfValid p x → IfValid q (map_checked f x)
map_if_valid p q f (r.Valid a) h k = h a k
map_if_valid p q f r.OutOfRange h k = tt
map_if_valid p q f r.TooDeep h k = tt

pub both_true : (a b : Bool) → a ≡ true → b ≡ true → (a && b) ≡ true
both_true a b h k = rw h k

pub split_true : (a b : Bool) → (a && b) ≡ true → (a ≡ true) × (b ≡ true)
split_true true b h = (refl, h)
split_true false b h = absurd (cc)

abbrev pub pair_test : {A B : Type 0} → (A → Bool) → (B → Bool) → A × B → Bool
pair_test p q z = p z.0 && q z.1

pub both_if_valid : {A B : Type 0} (p : A → Bool) (q : B → Bool) (x : Checked A) (y : Checked B) → IfValid p x → IfValid q y → IfValid (pair_test p q) (both_checked x y)
both_if_valid p q (r.Valid a) (r.Valid b) h k = both_true (p a) (q b) h k
both_if_valid p q (r.Valid a) r.OutOfRange h k = tt
both_if_valid p q (r.Valid a) r.TooDeep h k = tt
both_if_valid p q r.OutOfRange y h k = tt
both_if_valid p q r.TooDeep (r.Valid b) h k = tt
both_if_valid p q r.TooDeep r.OutOfRange h k = tt
both_if_valid p q r.TooDeep r.TooDeep h k = tt

pub at_end_if_valid : {A : Type 0} (p : A → Bool) (ts : List Token) (x : Checked A) → IfValid p x → IfLineValid p (if_at_end ts x)
at_end_if_valid p [] x h = h
at_end_if_valid p (t ∷ ts) x h = tt

pub bind_if_valid : {A C : Type 0} (p : A → Bool) (q : C → Bool) (o : Option (Checked A × List Token)) (f : Checked A × List Token → Option (Checked C)) → IfReadValid p o → ((x : Checked A × List Token) → IfValid p x.0 → IfLineValid q (f x)) → IfLineValid q (option_and_then f o)
bind_if_valid p q None f h k = tt
bind_if_valid p q (Some x) f h k = k x h

-- Numbers.
number_fine : (low high : ℕ) (o : Option ℕ) → IfValid (in_bounds low high) (number_in_range low high o)
number_fine low high None = tt
number_fine low high (Some n) = checked_if_valid (in_bounds low high) (nat_le low n && nat_le n high) n (λ e. e)

number_by_at : (low high : ℕ) (o : Option (Option ℕ × List Token)) → IfReadValid (in_bounds low high) (option_and_then (λ n. Some (number_in_range low high n.0, n.1)) o)
number_by_at low high None = tt
number_by_at low high (Some n) = number_fine low high n.0

pub number_at_in_range : (low high : ℕ) (ts : List Token) → IfReadValid (in_bounds low high) (number_at low high ts)
number_at_in_range low high ts = number_by_at low high (numeral_at ts)

pub range_is_word : (n : ℕ) → in_bounds 0 (2 ^ 64 - 1) n ≡ true → is_u64 n ≡ true
range_is_word n h = grind (arith, nat_tests, h)

pub word_in_range : (ts : List Token) → IfReadValid is_u64 (u64_at ts)
word_in_range ts = if_read_valid_weaker (in_bounds 0 (2 ^ 64 - 1)) is_u64 (u64_at ts) range_is_word (number_at_in_range 0 (2 ^ 64 - 1) ts)

pub range_is_request : (n : ℕ) → in_bounds 1 1048575 n ≡ true → is_request n ≡ true
range_is_request n h = grind (arith, nat_tests, h)

-- Modes.
abbrev pub ModeInRange : Option (Mode × List Token) → Type 0
ModeInRange None = Unit {0}
ModeInRange (Some m) = is_target m.0 ≡ true

mode_by : (b c : Bool) (ts : List Token) → ModeInRange (found_before ts (cond b (Some mode.R) (cond c (Some mode.W) None)))
mode_by true c ts = refl
mode_by false true ts = refl
mode_by false false ts = tt

pub mode_in_range : (ts : List Token) → ModeInRange (mode_at ts)
mode_in_range (t.Name x ∷ ts) = mode_by (bytes_eq x (codes "R")) (bytes_eq x (codes "W")) ts
mode_in_range [] = tt
mode_in_range (t.Numeral n ∷ ts) = tt
mode_in_range (t.Dotted x ∷ ts) = tt
mode_in_range (t.Text x ∷ ts) = tt
mode_in_range (t.Keyword k ∷ ts) = tt
mode_in_range (t.Op o ∷ ts) = tt
mode_in_range (t.Minus s ∷ ts) = tt
mode_in_range (t.Punctuation k ∷ ts) = tt

-- Texts.
short_by : (o : Option (List ℕ × List Token)) → IfReadValid is_text (option_and_then (λ x. Some (checked_if (nat_le (length x.0) 256) x.0, x.1)) o)
short_by None = tt
short_by (Some x) = checked_if_valid is_text (nat_le (length x.0) 256) x.0 (λ e. e)

pub short_text_in_range : (ts : List Token) → IfReadValid is_text (short_text_at ts)
short_text_in_range ts = short_by (text_at ts)

-- Paths.
path_of_by : (ns : List ℕ) (b : Bool) → is_path ns ≡ b → IfValid is_path (checked_option (cond b (Some ns) None))
path_of_by ns true e = e
path_of_by ns false e = tt

path_parts : (o : Option (List ℕ)) → IfValid is_path (path_by o)
path_parts None = tt
path_parts (Some ns) = path_of_by ns (is_path ns) refl

path_dotted : (o : Option (List (Option ℕ))) (ts : List Token) → IfReadValid is_path (found_before ts (option_map path_in o))
path_dotted None ts = tt
path_dotted (Some ns) ts = path_parts (path_numbers_of ns)

pub path_in_range : (ts : List Token) → IfReadValid is_path (path_at ts)
path_in_range (t.Numeral n ∷ ts) = path_parts (path_numbers_of (n ∷ []))
path_in_range (t.Dotted x ∷ ts) = path_dotted (numbers_in x) ts
path_in_range [] = tt
path_in_range (t.Text x ∷ ts) = tt
path_in_range (t.Name x ∷ ts) = tt
path_in_range (t.Keyword k ∷ ts) = tt
path_in_range (t.Op o ∷ ts) = tt
path_in_range (t.Minus s ∷ ts) = tt
path_in_range (t.Punctuation k ∷ ts) = tt

-- Places in a shard.
abbrev pub sent_test : ℕ → ℕ × ℕ → Bool
sent_test shards = pair_test (in_bounds 1 shards) (in_bounds 1 (2 ^ 64 - 1))

sent_by : (shards : ℕ) (ns : List (Option ℕ)) (ts : List Token) → IfReadValid (sent_test shards) (found_before ts (sent_position_of shards ns))
sent_by shards [] ts = tt
sent_by shards (s ∷ []) ts = tt
sent_by shards (s ∷ l ∷ []) ts =
    both_if_valid (in_bounds 1 shards) (in_bounds 1 (2 ^ 64 - 1)) (number_in_range 1 shards s) (number_in_range 1 (2 ^ 64 - 1) l) (number_fine 1 shards s) (number_fine 1 (2 ^ 64 - 1) l)
sent_by shards (s ∷ l ∷ n ∷ ns) ts = tt

sent_dotted : (shards : ℕ) (o : Option (List (Option ℕ))) (ts : List Token) → IfReadValid (sent_test shards) (found_before ts (option_and_then (sent_position_of shards) o))
sent_dotted shards None ts = tt
sent_dotted shards (Some ns) ts = sent_by shards ns ts

pub sent_position_in_range : (shards : ℕ) (ts : List Token) → IfReadValid (sent_test shards) (sent_position_at shards ts)
sent_position_in_range shards (t.Dotted x ∷ ts) = sent_dotted shards (numbers_in x) ts
sent_position_in_range shards [] = tt
sent_position_in_range shards (t.Numeral n ∷ ts) = tt
sent_position_in_range shards (t.Text x ∷ ts) = tt
sent_position_in_range shards (t.Name x ∷ ts) = tt
sent_position_in_range shards (t.Keyword k ∷ ts) = tt
sent_position_in_range shards (t.Op o ∷ ts) = tt
sent_position_in_range shards (t.Minus s ∷ ts) = tt
sent_position_in_range shards (t.Punctuation k ∷ ts) = tt

-- Tags.
tag_fine : (o : Option ℕ) → IfValid is_user_tag (user_tag_of o)
tag_fine None = tt
tag_fine (Some n) = checked_if_valid is_user_tag (nat_lt n (2 ^ 56)) (record { 0 = n }) (λ e. e)

tag_by_at : (o : Option (Option ℕ × List Token)) → IfReadValid is_user_tag (option_and_then (λ n. Some (user_tag_of n.0, n.1)) o)
tag_by_at None = tt
tag_by_at (Some n) = tag_fine n.0

pub tag_in_range : (ts : List Token) → IfReadValid is_user_tag (tag_at ts)
tag_in_range ts = tag_by_at (numeral_at ts)

-- Several: each passes the test, and they are as many as were counted, one at least.
abbrev pub ItemsIfValid : {A : Type 0} → (A → Bool) → ℕ → Checked (List A) → Type 0
ItemsIfValid p n (r.Valid xs) = (list_all p xs ≡ true) × (length xs ≡ n)
ItemsIfValid p n r.OutOfRange = Unit {0}
ItemsIfValid p n r.TooDeep = Unit {0}

abbrev pub ListIfValid : {A : Type 0} → (A → Bool) → Option (CommaList A × List Token) → Type 0
ListIfValid p None = Unit {0}
ListIfValid p (Some x) = ItemsIfValid p x.0.count x.0.items × (1 ≤ x.0.count)

cons_many : {A : Type 0} (p : A → Bool) (n : ℕ) (x : Checked A) (xs : Checked (List A)) → IfValid p x → ItemsIfValid p n xs → ItemsIfValid p (n + 1) (cons x xs)
cons_many p n (r.Valid a) (r.Valid l) h k = (both_true (p a) (list_all p l) h k.0, omega (arith, k.1))
cons_many p n (r.Valid a) r.OutOfRange h k = tt
cons_many p n (r.Valid a) r.TooDeep h k = tt
cons_many p n r.OutOfRange xs h k = tt
cons_many p n r.TooDeep (r.Valid l) h k = tt
cons_many p n r.TooDeep r.OutOfRange h k = tt
cons_many p n r.TooDeep r.TooDeep h k = tt

one_more_good : {A : Type 0} (p : A → Bool) (x : Checked A) (o : Option (CommaList A × List Token)) → IfValid p x → ListIfValid p o → ListIfValid p (with_one_more x o)
one_more_good p x None h k = tt
one_more_good p x (Some q) h k = (cons_many p q.0.count x q.0.items h k.0, omega arith)

more_good : {A : Type 0} (p : A → Bool) (others : List Token → Option (CommaList A × List Token)) (x : Checked A) (q : Bool × List Token) → IfValid p x → ((ts : List Token) → ListIfValid p (others ts)) → ListIfValid p (more_if_comma others x q)
more_good p others x (true, ts) h k = one_more_good p x (others ts) h (k ts)
more_good p others x (false, ts) h k = (cons_many p 0 x (r.Valid []) h (refl, refl), omega arith)

many_on_good : {A : Type 0} (p : A → Bool) (others : List Token → Option (CommaList A × List Token)) (o : Option (Checked A × List Token)) → IfReadValid p o → ((ts : List Token) → ListIfValid p (others ts)) → ListIfValid p (many_behind others o)
many_on_good p others None h k = tt
many_on_good p others (Some q) h k = more_good p others q.0 (take_punctuation m.Comma q.1) h k

pub list_in_range : {A : Type 0} (p : A → Bool) (read : Reader A) → ((ts : List Token) → IfReadValid p (read ts)) → (n : ℕ) (ts : List Token) → ListIfValid p (at_most read n ts)
list_in_range p read h zero ts = tt
list_in_range p read h (suc n) ts = many_on_good p (at_most read n) (read ts) (h ts) (list_in_range p read h n)

few_by : (n : ℕ) (items : Checked (List Tag)) (b : Bool) → nat_le n 8 ≡ b → 1 ≤ n → ItemsIfValid is_user_tag n items → IfValid are_user_tags (cond b items r.OutOfRange)
few_by n (r.Valid xs) true e some h =
    let count : in_bounds 1 8 (length xs) ≡ true = grind (arith, nat_tests, e, h.1) in
    both_true (in_bounds 1 8 (length xs)) (list_all is_user_tag xs) count h.0
few_by n r.OutOfRange true e some h = tt
few_by n r.TooDeep true e some h = tt
few_by n items false e some h = tt

tags_by : (o : Option (CommaList Tag × List Token)) → ListIfValid is_user_tag o → IfReadValid are_user_tags (option_and_then (λ tags. Some (up_to_eight tags.0, tags.1)) o)
tags_by None h = tt
tags_by (Some x) h = few_by x.0.count x.0.items (nat_le x.0.count 8) refl h.1 h.0

pub tags_in_range : (ts : List Token) → IfReadValid are_user_tags (tags_at ts)
tags_in_range ts = tags_by (comma_list tag_at ts) (list_in_range is_user_tag tag_at tag_in_range (length ts) ts)
