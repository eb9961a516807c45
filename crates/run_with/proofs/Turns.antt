-- Each nemesis that is kept is asked once.
use Rattle.std.proofs.Common.{◌≡◌, ℕ, zero, suc, ◌+◌, ◌≤◌, Bool, true, false, cond, List, [], ◌∷◌, ◌++◌, length, drop, Option, Some, None, refl, sym, ap, ◌∙◌, arith, add-one}
use Rattle.std.specs.Prelude.{map, slice_get, slice_set, remove, unwrap_or}
use Rattle.std.proofs.lemmas.List.{length-map, drop_all}
use Rattle.boki_types.specs.declared.event.Event.{Event}
use Rattle.boki_types.specs.declared.event.Event.TheVariants as v
use Rattle.boki_types.specs.declared.plan.Setup.{Setup}
use Rattle.boki_types.specs.declared.program.Function.{Function}
use Rattle.boki_model.specs.Plans.{is_event}
use Rattle.nemesis_types.specs.declared.seen.Seen.{Seen}
use Rattle.nemesis_types.specs.Automaton.{answer_of}
use Rattle.nemesis_types.specs.Kept.{NumberedNemesis, after_asking, after_reseeding, spent_at, next_asked_index, without_spent}
use Rattle.run_with.specs.Runs.{Added, Ignored, RunState, state, nemesis_run, reseeded_by, run_event, run_answer, ask_found, ask_one}
use Rattle.run_with.specs.Laws.{number_asked, numbers_asked, AskedInTurn}

places : List NumberedNemesis → List ℕ
places ks = map (λ k. k.number) ks

places_set : (ks : List NumberedNemesis) (at : ℕ) (seen : Seen) (k : NumberedNemesis) → slice_get ks at ≡ Some k → places (slice_set ks at (after_asking seen k)) ≡ places ks
unfolding places
places_set [] at seen k e = refl
places_set (x ∷ ks) zero seen k e = ap (λ y. y.number ∷ places ks) (sym (ap (λ o. unwrap_or o x) e))
places_set (x ∷ ks) (suc at) seen k e = ap (λ l. x.number ∷ l) (places_set ks at seen k e)

places_seeded : (n : ℕ) (ks : List NumberedNemesis) → places (map (after_reseeding n) ks) ≡ places ks
unfolding places
places_seeded n [] = refl
places_seeded n (k ∷ ks) = ap (λ l. k.number ∷ l) (places_seeded n ks)

places_reseeded : (e : Event) (ks : List NumberedNemesis) → places (reseeded_by e ks) ≡ places ks
places_reseeded (v.Seed n) ks = places_seeded n ks
places_reseeded _ ks = refl

-- what stands from an index on
head_at : (ks : List NumberedNemesis) (at : ℕ) → number_asked (slice_get ks at) ++ drop (suc at) (places ks) ≡ drop at (places ks)
unfolding places
head_at [] zero = refl
head_at [] (suc at) = refl
head_at (k ∷ ks) zero = refl
head_at (k ∷ ks) (suc at) = head_at ks at

drop_removed : (ks : List NumberedNemesis) (at : ℕ) → drop at (places (remove ks at)) ≡ drop (suc at) (places ks)
unfolding places
drop_removed [] zero = refl
drop_removed [] (suc at) = refl
drop_removed (k ∷ ks) zero = refl
drop_removed (k ∷ ks) (suc at) = drop_removed ks at

length_removed : (ks : List NumberedNemesis) (at : ℕ) → suc at ≤ length ks → suc (length (remove ks at)) ≡ length ks
length_removed [] at h = absurd (omega arith)
length_removed (k ∷ ks) zero h = refl
length_removed (k ∷ ks) (suc at) h = ap suc (length_removed ks at (omega arith))

length_places : (ks : List NumberedNemesis) → length (places ks) ≡ length ks
unfolding places
length_places ks = length-map ks (λ k. k.number)

module _ (t : Setup) (fs : List Function) where
  places_if : (n i : ℕ) (e : Event) (s : RunState) (b : Bool) → places (cond b (run_event t fs (Added n i e) e s) (nemesis_run (Ignored n i ∷ []) [] s)).after.kept ≡ places s.kept
  places_if n i e s true = places_reseeded e s.kept
  places_if n i e s false = refl

  places_added : (n i : ℕ) (o : Option Event) (s : RunState) → places (run_answer t fs n i o s).after.kept ≡ places s.kept
  places_added n i None s = refl
  places_added n i (Some e) s = places_if n i e s (is_event t fs e)

  places_ask_by : (seen : Seen) (at : ℕ) (s : RunState) (o : Option NumberedNemesis) → slice_get s.kept at ≡ o → places (ask_found t fs seen at s o).after.kept ≡ places s.kept
  places_ask_by seen at s None is = refl
  places_ask_by seen at s (Some k) is =
      places_added seen.event k.number (answer_of k.automaton seen) (state s.machine (slice_set s.kept at (after_asking seen k))) ∙ places_set s.kept at seen k is

  places_ask : (seen : Seen) (at : ℕ) (s : RunState) → places (ask_one t fs seen at s).after.kept ≡ places s.kept
  places_ask seen at s = places_ask_by seen at s (slice_get s.kept at) refl

  -- Those that are left behind an ask, from the next index on, are those that stood behind the index.
  record Rest (ks : List NumberedNemesis) (count at next : ℕ) (left : List NumberedNemesis) : Type 0 where
    length_is : count + next ≡ length left
    same : drop next (places left) ≡ drop (suc at) (places ks)

  rest_by : (ks : List NumberedNemesis) (count at : ℕ) (b : Bool) → suc count + at ≡ length ks → Rest ks count at (cond b at (at + 1)) (cond b (remove ks at) ks)
  rest_by ks count at true h = let one = length_removed ks at (omega arith) in record { length_is = omega arith; same = drop_removed ks at }
  rest_by ks count at false h = record { length_is = omega arith; same = ap (λ n. drop n (places ks)) (add-one at) }

  in_turn : (seen : Seen) (count at : ℕ) (s : RunState) → count + at ≡ length s.kept → numbers_asked t fs seen count at s ≡ drop at (places s.kept)
  in_turn seen zero at s h = sym (drop_all at (places s.kept) (omega (arith, length_places s.kept)))
  in_turn seen (suc count) at s h =
      let a = ask_one t fs seen at s in
      let ks = a.after.kept in
      let same : places ks ≡ places s.kept = places_ask seen at s in
      let long : length ks ≡ length s.kept = sym (length_places ks) ∙ ap length same ∙ length_places s.kept in
      let rest : Rest ks count at (next_asked_index ks at) (without_spent ks at) = rest_by ks count at (spent_at ks at) (omega arith) in
      ap (λ l. number_asked (slice_get s.kept at) ++ l)
      (in_turn seen count (next_asked_index ks at) (state a.after.machine (without_spent ks at)) rest.length_is ∙ rest.same ∙ ap (drop (suc at)) same)
      ∙ head_at s.kept at

pub asked_in_turn : AskedInTurn
unfolding places
asked_in_turn setup fs seen s = in_turn setup fs seen (length s.kept) 0 s (omega arith)
