-- To catch every engine up is to catch up the last one, the one before, and so on.
use Rattle.std.proofs.Common.{◌≡◌, ◌∙◌, ℕ, zero, suc, ◌-◌, ◌≤◌, ◌&&◌, List, [], ◌∷◌, length, map, refl, sym, ap, ap₂, subst, le-leb, arith}
use Rattle.std.specs.Prelude.{slice_set}
use Rattle.std.specs.List.{AllByRecursion}
use Rattle.std.proofs.Math.Nat.{le_refl}
use Rattle.boki_types.specs.declared.event.Event.{Event}
use Rattle.boki_types.specs.declared.event.Event.TheVariants as event
use Rattle.boki_types.specs.declared.plan.Setup.{Setup}
use Rattle.boki_types.specs.declared.program.Function.{Function}
use Rattle.boki_machine.specs.Machine.{Machine, log, catch_up, catch_up_all, apply_events}
use Rattle.step_laws.specs.Kept.{MachineIsKept, IsTextEvent}
use Rattle.step_laws.proofs.Kept.{events_keep_machine}
use Rattle.book_api.specs.Books.{BookState, all_caught_up, AreCaughtUp}
use Rattle.flow_parts.specs.declared.parts.Parts.{Parts}
use Rattle.cluster_events.specs.Machines.{PartsAreOf, CatchesAll}
use Rattle.cluster_events.proofs.Done.{moved_are, not_moved, store_stands}
use Rattle.cluster_events.proofs.Cuts.{log_length}
use Rattle.cluster_events.proofs.Catches.{caught_moved}

-- the events
abbrev pub catch_each : ℕ → List Event
catch_each zero = []
catch_each (suc n) = event.Catch (suc n) ∷ catch_each n

-- the positions behind them
abbrev set_each : ℕ → ℕ → List ℕ → List ℕ
set_each zero p ps = ps
set_each (suc n) p ps = set_each n p (slice_set ps n p)

set_first : (n p q : ℕ) (ps : List ℕ) → set_each (suc n) p (q ∷ ps) ≡ p ∷ set_each n p ps
set_first zero p q ps = refl
set_first (suc n) p q ps = set_first n p q (slice_set ps n p)

set_all : (p : ℕ) (ps : List ℕ) → set_each (length ps) p ps ≡ map (λ q. p) ps
set_all p [] = refl
set_all p (q ∷ ps) = set_first (length ps) p q ps ∙ ap (λ (l : List ℕ). p ∷ l) (set_all p ps)

module _ (setup : Setup) (fs : List Function) where
  each_behind : (n : ℕ) (m : Machine) → (apply_events setup fs (catch_each n) m).machine ≡ record m { positions = set_each n (length (log m)) m.positions }
  each_behind zero m = refl
  each_behind (suc n) m =
      let before : suc n - 1 ≡ n = omega arith in
      each_behind n (catch_up (suc n) m) ∙ ap (λ k. record m { positions = set_each n (length (log m)) (slice_set m.positions k (length (log m))) }) before

  -- all of them
  pub caught_by_events : (m : Machine) → (apply_events setup fs (catch_each (length m.positions)) m).machine ≡ catch_up_all m
  caught_by_events m = each_behind (length m.positions) m ∙ ap (λ (ps : List ℕ). record m { positions = ps }) (set_all (length (log m)) m.positions)

  catch_is : (n : ℕ) → suc n ≤ setup.engines → IsTextEvent setup fs (event.Catch (suc n))
  catch_is n le = record {
    valid = ap₂ (λ s t. s && t) (le-leb 1 (suc n) (omega arith)) (le-leb (suc n) setup.engines le);
    bytes = refl;
    text = tt;
  }

  pub catches_are : (n : ℕ) → n ≤ setup.engines → AllByRecursion (IsTextEvent setup fs) (catch_each n)
  catches_are zero le = tt
  catches_are (suc n) le = (catch_is n le, catches_are n (omega (arith, le)))

  kept_behind : (n : ℕ) (m : Machine) → n ≤ setup.engines → MachineIsKept setup fs m → MachineIsKept setup fs (apply_events setup fs (catch_each n) m).machine
  kept_behind zero m le kept = kept
  kept_behind (suc n) m le kept =
      kept_behind n (catch_up (suc n) m) (omega (arith, le)) (events_keep_machine setup fs m (event.Catch (suc n)) (catch_is n le) tt kept)

  module _ (m : Machine) (old : Parts) (are : PartsAreOf setup fs m old) where
    engines_are : length m.positions ≡ setup.engines
    engines_are = ap length are.book.positions ∙ are.stand.sizes.engines

    pub all_kept : MachineIsKept setup fs (catch_up_all m)
    all_kept =
        subst (MachineIsKept setup fs) (caught_by_events m)
        (kept_behind (length m.positions) m (subst (λ n. n ≤ setup.engines) (sym engines_are) (le_refl setup.engines)) are.kept)

    caught_are : PartsAreOf setup fs (catch_up_all m) (record old { book = all_caught_up old.book })
    caught_are =
        moved_are setup fs m old are (catch_up_all m) (all_caught_up old.book) all_kept
        (caught_moved setup m m old.book old.book (not_moved setup fs m old are)) (store_stands setup fs m old are)

pub catches_all : (old : Parts) (b : BookState) (n : ℕ) → AreCaughtUp old.book b n → CatchesAll old (record old { book = b }) n
catches_all old b n is = record {
  length_is = λ setup fs m are. is.answer ∙ sym (log_length m old.book are.book);
  are = λ setup fs m are.
      subst (λ (b : BookState). PartsAreOf setup fs (catch_up_all m) (record old { book = b })) (sym is.after) (caught_are setup fs m old are);
}
