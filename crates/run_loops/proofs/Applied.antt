-- Events that are done one after another, loop by loop.
use Rattle.std.proofs.Common.{◌≡◌, ℕ, ◌+◌, ◌<◌, List, [], ◌∷◌, ◌++◌, length, drop, get_or, refl, sym, ap, ◌∙◌, subst}
use Rattle.std.proofs.lemmas.List.{drop_more}
use Rattle.boki_types.specs.declared.event.Event.{Event}
use Rattle.boki_types.specs.declared.line.Line.{Line}
use Rattle.boki_types.specs.declared.plan.Setup.{Setup}
use Rattle.boki_types.specs.declared.program.Function.{Function}
use Rattle.boki_machine.specs.Machine.{Machine, apply_event, apply_events}

-- what is stood for, from which the rest leads to the last
pub record Along (stands : Machine → Type 0) (rest : Machine → Machine) (last : Machine) : Type 0 where
  pub at : Machine
  pub stood : stands at
  pub same : rest at ≡ last

module _ (t : Setup) (fs : List Function) where
  abbrev pub applied : List Event → Machine → Machine
  applied es m = (apply_events t fs es m).machine

  applied_append : (es more : List Event) (m : Machine) → applied (es ++ more) m ≡ applied more (applied es m)
  applied_append [] more m = refl
  applied_append (e ∷ es) more m = applied_append es more (apply_event t fs m e).machine

  pub apply_start : (stands : Machine → Type 0) (es all : List Event) (m : Machine) → stands m → es ≡ all → Along stands (applied es) (applied all m)
  apply_start stands es all m s e = record { at = m; stood = s; same = ap (λ l. applied l m) e }

  -- the next event
  pub apply_step : (stands after : Machine → Type 0) (es : List Event) (i : ℕ) (e : Event) (line : Line) (last : Machine) → i < length es → e ≡ get_or es i e
      → Along stands (applied (drop i es)) last → ((m : Machine) → stands m → (line ≡ (apply_event t fs m e).line) × after (apply_event t fs m e).machine)
      → Along after (applied (drop (i + 1) es)) last
  apply_step stands after es i e line last within is a h = record {
    at = (apply_event t fs a.at e).machine;
    stood = (h a.at a.stood).1;
    same = ap (λ l. applied l a.at) (sym (drop_more es i e within ∙ ap (λ x. x ∷ drop (i + 1) es) (sym is))) ∙ a.same;
  }

  -- events, and those behind them
  pub apply_behind : (stands after : Machine → Type 0) (all es more : List Event) (last : Machine) → all ≡ es ++ more → Along stands (applied all) last
      → ((m : Machine) → stands m → after (applied es m)) → Along after (applied more) last
  apply_behind stands after all es more last e a h = record {
    at = applied es a.at;
    stood = h a.at a.stood;
    same = sym (applied_append es more a.at) ∙ ap (λ l. applied l a.at) (sym e) ∙ a.same;
  }

  -- none is left
  pub apply_end : (stands : Machine → Type 0) (es : List Event) (last : Machine) → es ≡ [] → Along stands (applied es) last → stands last
  apply_end stands es last e a = subst stands (sym (ap (λ l. applied l a.at) e) ∙ a.same) a.stood
