-- The names of an object stand in the order of their bytes, and a turn begins with its first word.
use Rattle.std.proofs.Common.{◌≡◌, ℕ, List, [], ◌∷◌, ◌++◌, Ordering, Less, Equal, Greater, codes, refl, ap, ◌∙◌}
use Rattle.std.proofs.lemmas.Cmp.{nat_list_cmp_total}
use Rattle.std.specs.Cmp.Lexicographic.{slice_cmp}
use Rattle.std.specs.List.{AllByRecursion}
use Rattle.std.specs.List.Sorted.{IsStrictlySortedBy}
use Rattle.std.specs.Ordering.{nat_cmp, match_ordering, ordering_reverse}
use Rattle.boki_types.specs.declared.program.Function.{Function}
use Rattle.boki_types.specs.declared.turn.Turn.{Turn}
use Rattle.boki_types.specs.declared.turn.Turn.TheVariants as u
use Rattle.plan_lang.specs.Printed.{turn_text, bare_turn_text}
use Rattle.serde_json.specs.Data.{Data, Members, no_members, member}
use Rattle.serde_json.specs.Data.{put as with_member}
use Rattle.report_json.specs.Json.{with_members, member_names, IsInOrder}

pub first_word : (fs : List Function) (t : Turn) → turn_text fs t ≡ codes "turn " ++ bare_turn_text fs t
first_word fs (u.Submit request f args) = refl
first_word fs (u.Go path n) = refl
first_word fs (u.End path) = refl

by_order : (o : Ordering) (a b c : Members) (P : Members → Type 0) → (o ≡ Less → P a) → (o ≡ Equal → P b) → (o ≡ Greater → P c) → P (match_ordering o a b c)
by_order Less a b c P less equal greater = less refl
by_order Equal a b c P less equal greater = equal refl
by_order Greater a b c P less equal greater = greater refl

abbrev AreAbove : List ℕ → List (List ℕ) → Type 0
AreAbove k names = AllByRecursion (λ y. slice_cmp nat_cmp k y ≡ Less) names

further_below : (k l : List ℕ) (names : List (List ℕ)) → slice_cmp nat_cmp k l ≡ Less → AreAbove l names → AreAbove k names
further_below k l [] below above = tt
further_below k l (m ∷ names) below above = (nat_list_cmp_total.trans k l m below above.0, further_below k l names below above.1)

below_put : (l k : List ℕ) (d : Data) (ms : Members) → slice_cmp nat_cmp l k ≡ Less → AreAbove l (member_names ms) → AreAbove l (member_names (with_member k d ms))
below_put l k d no_members below above = (below, tt)
below_put l k d (member m e ms) below above =
    by_order (slice_cmp nat_cmp k m) _ _ _ (λ ns. AreAbove l (member_names ns))
    (λ less. (below, above))
    (λ equal. above)
    (λ greater. (above.0, below_put l k d ms below above.1))

put_in_order : (k : List ℕ) (d : Data) (ms : Members) → IsInOrder ms → IsInOrder (with_member k d ms)
unfolding IsStrictlySortedBy
put_in_order k d no_members order = (tt, tt)
put_in_order k d (member l e ms) order =
    by_order (slice_cmp nat_cmp k l) _ _ _ IsInOrder
    (λ less. ((less, further_below k l (member_names ms) less order.0), order))
    (λ equal. order)
    (λ greater. (below_put l k d ms (nat_list_cmp_total.antisymm l k ∙ ap ordering_reverse greater) order.0, put_in_order k d ms order.1))

pub filled_in_order : (ms : Members) (ps : List (List ℕ × Data)) → IsInOrder ms → IsInOrder (with_members ms ps)
filled_in_order ms [] order = order
filled_in_order ms (p ∷ ps) order = filled_in_order (with_member p.0 p.1 ms) ps (put_in_order p.0 p.1 ms order)

pub object_in_order : (ps : List (List ℕ × Data)) → IsInOrder (with_members no_members ps)
unfolding IsStrictlySortedBy
object_in_order ps = filled_in_order no_members ps tt
