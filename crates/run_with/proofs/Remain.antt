-- Which nemeses are still there.
use Rattle.std.proofs.Common.{◌≡◌, ℕ, zero, suc, ◌+◌, ◌≤◌, Bool, true, false, cond, List, [], ◌∷◌, length, Option, Some, None, refl, sym, ap, ◌∙◌, arith}
use Rattle.std.specs.Prelude.{map, slice_get, slice_set, remove, unwrap_or}
use Rattle.boki_types.specs.declared.event.Event.{Event}
use Rattle.boki_types.specs.declared.event.Event.TheVariants as v
use Rattle.boki_types.specs.declared.plan.Setup.{Setup}
use Rattle.boki_types.specs.declared.program.Function.{Function}
use Rattle.boki_model.specs.Plans.{is_event}
use Rattle.boki_machine.specs.Machine.{apply_event}
use Rattle.nemesis_types.specs.declared.seen.Seen.{Seen}
use Rattle.nemesis_types.specs.Automaton.{Automaton, answer_of, SameLaw}
use Rattle.nemesis_types.specs.Kept.{NumberedNemesis, after_asking, after_reseeding, spent_at, next_asked_index, without_spent}
use Rattle.run_with.specs.Runs.{Planned, Added, Ignored, RunState, state, nemesis_run, seen_of, reseeded_by, run_event, run_answer, ask_found, ask_one, ask_from, round, run_from}
use Rattle.run_with.specs.Laws.{Remain, none, stays, dropped}

same_refl : (m : Automaton) → SameLaw m m
same_refl m = record { next = refl; seed = refl; ends = refl }

same_trans : (a b c : Automaton) → SameLaw c b → SameLaw b a → SameLaw c a
same_trans a b c x y = record { next = x.next ∙ y.next; seed = x.seed ∙ y.seed; ends = x.ends ∙ y.ends }

pub remain_refl : (ks : List NumberedNemesis) → Remain ks ks
remain_refl [] = none
remain_refl (k ∷ ks) = stays refl (same_refl k.automaton) (remain_refl ks)

pub remain_trans : {a b c : List NumberedNemesis} → Remain a b → Remain b c → Remain a c
remain_trans none r = r
remain_trans (stays p l r) (stays q k s) = stays (q ∙ p) (same_trans _ _ _ k l) (remain_trans r s)
remain_trans (stays p l r) (dropped s) = dropped (remain_trans r s)
remain_trans (dropped r) s = dropped (remain_trans r s)

pub remain_length : {a b : List NumberedNemesis} → Remain a b → length b ≤ length a
remain_length none = omega arith
remain_length (stays p l r) = let h = remain_length r in omega arith
remain_length (dropped r) = let h = remain_length r in omega arith

remain_seeded : (n : ℕ) (ks : List NumberedNemesis) → Remain ks (map (after_reseeding n) ks)
remain_seeded n [] = none
remain_seeded n (k ∷ ks) = stays {k = after_reseeding n k} refl (record { next = refl; seed = refl; ends = refl }) (remain_seeded n ks)

remain_set : (ks : List NumberedNemesis) (at : ℕ) (seen : Seen) (k : NumberedNemesis) → slice_get ks at ≡ Some k → Remain ks (slice_set ks at (after_asking seen k))
remain_set [] at seen k e = none
remain_set (x ∷ ks) zero seen k e =
    let same : k ≡ x = sym (ap (λ o. unwrap_or o x) e) in
    stays {k = after_asking seen k} (ap (λ y. y.number) same) (record { next = ap (λ y. y.automaton.next) same; seed = ap (λ y. y.automaton.seed) same; ends = ap (λ y. y.automaton.ends) same }) (remain_refl ks)
remain_set (x ∷ ks) (suc at) seen k e = stays refl (same_refl x.automaton) (remain_set ks at seen k e)

remain_remove : (ks : List NumberedNemesis) (at : ℕ) → Remain ks (remove ks at)
remain_remove [] zero = none
remain_remove [] (suc at) = none
remain_remove (k ∷ ks) zero = dropped (remain_refl ks)
remain_remove (k ∷ ks) (suc at) = stays refl (same_refl k.automaton) (remain_remove ks at)

remain_cond : (ks : List NumberedNemesis) (at : ℕ) (b : Bool) → Remain ks (cond b (remove ks at) ks)
remain_cond ks at true = remain_remove ks at
remain_cond ks at false = remain_refl ks

remain_without : (ks : List NumberedNemesis) (at : ℕ) → Remain ks (without_spent ks at)
remain_without ks at = remain_cond ks at (spent_at ks at)

pub remain_reseeded : (e : Event) (ks : List NumberedNemesis) → Remain ks (reseeded_by e ks)
remain_reseeded (v.Seed n) ks = remain_seeded n ks
remain_reseeded _ ks = remain_refl ks

-- What a run leaves of them, and how many events it does.
module _ (t : Setup) (fs : List Function) where
  remain_if : (n i : ℕ) (e : Event) (s : RunState) (b : Bool) → Remain s.kept (cond b (run_event t fs (Added n i e) e s) (nemesis_run (Ignored n i ∷ []) [] s)).after.kept
  remain_if n i e s true = remain_reseeded e s.kept
  remain_if n i e s false = remain_refl s.kept

  remain_added : (n i : ℕ) (o : Option Event) (s : RunState) → Remain s.kept (run_answer t fs n i o s).after.kept
  remain_added n i None s = remain_refl s.kept
  remain_added n i (Some e) s = remain_if n i e s (is_event t fs e)

  remain_ask_by : (seen : Seen) (at : ℕ) (s : RunState) (o : Option NumberedNemesis) → slice_get s.kept at ≡ o → Remain s.kept (ask_found t fs seen at s o).after.kept
  remain_ask_by seen at s None is = remain_refl s.kept
  remain_ask_by seen at s (Some k) is =
      remain_trans (remain_set s.kept at seen k is) (remain_added seen.event k.number (answer_of k.automaton seen) (state s.machine (slice_set s.kept at (after_asking seen k))))

  pub remain_ask : (seen : Seen) (at : ℕ) (s : RunState) → Remain s.kept (ask_one t fs seen at s).after.kept
  remain_ask seen at s = remain_ask_by seen at s (slice_get s.kept at) refl

  pub remain_asks : (seen : Seen) (count at : ℕ) (s : RunState) → Remain s.kept (ask_from t fs seen count at s).after.kept
  remain_asks seen zero at s = remain_refl s.kept
  remain_asks seen (suc count) at s =
      let a = ask_one t fs seen at s in
      remain_trans (remain_ask seen at s) (remain_trans (remain_without a.after.kept at)
      (remain_asks seen count (next_asked_index a.after.kept at) (state a.after.machine (without_spent a.after.kept at))))

  pub remain_round : (n : ℕ) (e : Event) (s : RunState) → Remain s.kept (round t fs n e s).after.kept
  remain_round n e s =
      let d = run_event t fs (Planned n) e s in
      remain_trans (remain_reseeded e s.kept) (remain_asks (seen_of n e (apply_event t fs s.machine e).line) (length d.after.kept) 0 d.after)

  pub remain_run : (n : ℕ) (es : List Event) (s : RunState) → Remain s.kept (run_from t fs n es s).after.kept
  remain_run n [] s = remain_refl s.kept
  remain_run n (e ∷ es) s = let r = round t fs n e s in remain_trans (remain_round n e s) (remain_run (n + 1) es r.after)
