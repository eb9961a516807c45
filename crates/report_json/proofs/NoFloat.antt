-- The JSON form of a report has no float.
use Rattle.std.proofs.Common.{◌≡◌, ℕ, Bool, false, ◌||◌, List, [], ◌∷◌, Ordering, Less, Equal, Greater, refl, pos, negsuc}
use Rattle.std.proofs.lemmas.Bool.{or_parts}
use Rattle.std.specs.Prelude.{map}
use Rattle.std.specs.Cmp.Lexicographic.{slice_cmp}
use Rattle.std.specs.Ordering.{nat_cmp, match_ordering}
use Rattle.lb_base.specs.declared.value.Outcome.{Outcome}
use Rattle.lb_base.specs.declared.value.Outcome.TheVariants.{Good, Trap}
use Rattle.lb_base.specs.declared.value.Value.{Value}
use Rattle.lb_base.specs.declared.value.Value.TheVariants.{Int, Text, Nothing}
use Rattle.boki_types.specs.declared.program.Function.{Function}
use Rattle.boki_types.specs.declared.turn.Report.{Report}
use Rattle.serde_json.specs.Data.{Data, Members, no_members, member}
use Rattle.serde_json.specs.Data.{put as with_member}
use Rattle.serde_json.specs.View.{items_of}
use Rattle.serde_json.specs.Written.{has_float, items_have_float, members_have_float}
use Rattle.report_json.specs.Json.{value_data, values_data, outcome_data, turn_data, with_members, value_member, queue_member, result_member, report_data}

neither : (a b : Bool) → a ≡ false → b ≡ false → (a || b) ≡ false
neither a b first second = rw (first, second) refl

match_has_none : (o : Ordering) (a b c : Members) → members_have_float a ≡ false → members_have_float b ≡ false → members_have_float c ≡ false
    → members_have_float (match_ordering o a b c) ≡ false
match_has_none Less a b c less equal greater = less
match_has_none Equal a b c less equal greater = equal
match_has_none Greater a b c less equal greater = greater

put_has_none : (k : List ℕ) (d : Data) (ms : Members) → has_float d ≡ false → members_have_float ms ≡ false → members_have_float (with_member k d ms) ≡ false
put_has_none k d no_members here there = neither (has_float d) false here refl
put_has_none k d (member l e ms) here there =
    let parts = or_parts (has_float e) (members_have_float ms) there in
    match_has_none (slice_cmp nat_cmp k l) _ _ _
    (neither (has_float d) _ here there)
    (neither (has_float d) _ here parts.1)
    (neither (has_float e) _ parts.0 (put_has_none k d ms here parts.1))

filled_has_none : {A : Type 0} (f : A → List ℕ × Data) → ((x : A) → has_float (f x).1 ≡ false) → (xs : List A) (ms : Members) → members_have_float ms ≡ false
    → members_have_float (with_members ms (map f xs)) ≡ false
filled_has_none f each [] ms none = none
filled_has_none f each (x ∷ xs) ms none = filled_has_none f each xs (with_member (f x).0 (f x).1 ms) (put_has_none (f x).0 (f x).1 ms (each x) none)

items_have_none : {A : Type 0} (f : A → Data) → ((x : A) → has_float (f x) ≡ false) → (xs : List A) → items_have_float (items_of (map f xs)) ≡ false
items_have_none f each [] = refl
items_have_none f each (x ∷ xs) = neither (has_float (f x)) _ (each x) (items_have_none f each xs)

value_has_none : (v : Value) → has_float (value_data v) ≡ false
value_has_none (Int (pos n)) = refl
value_has_none (Int (negsuc n)) = refl
value_has_none (Text text) = refl
value_has_none Nothing = refl

values_have_none : (vs : List Value) → has_float (values_data vs) ≡ false
values_have_none vs = items_have_none value_data value_has_none vs

outcome_has_none : (o : Outcome) → has_float (outcome_data o) ≡ false
outcome_has_none (Good v) = neither (has_float (value_data v)) false (value_has_none v) refl
outcome_has_none (Trap k) = refl

pub report_has_none : (fs : List Function) (r : Report) → has_float (report_data fs r) ≡ false
report_has_none fs r =
    let valued = λ (ps : List (List ℕ × Value)). filled_has_none value_member (λ p. value_has_none p.1) ps no_members refl in
    let queues = filled_has_none queue_member (λ p. values_have_none p.1) r.queues no_members refl in
    let results = filled_has_none result_member (λ p. outcome_has_none p.1) r.results no_members refl in
    let turns = items_have_none (turn_data fs) (λ t. refl) r.turns in
    neither _ _ (valued r.objects) (neither _ _ queues (neither _ _ results (neither _ _ (valued r.stores) (neither _ _ turns refl))))
