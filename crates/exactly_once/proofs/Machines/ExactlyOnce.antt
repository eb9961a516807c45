-- For every list of events, and so for every plan.
use Rattle.std.proofs.Common.{◌≡◌, ℕ, zero, suc, true, List, [], ◌∷◌, sym, ap, ◌∙◌, arith}
use Rattle.std.specs.Prelude.{replicate, IsTrue}
use Rattle.std.specs.List.{list_all, AllByRecursion}
use Rattle.std.proofs.lemmas.Bool.{and_parts}
use Rattle.lb_base.specs.declared.value.Value.{Value}
use Rattle.boki_types.specs.declared.body.Body.{Body}
use Rattle.boki_types.specs.declared.event.Event.{Event}
use Rattle.boki_types.specs.declared.plan.Setup.{Setup}
use Rattle.boki_types.specs.declared.plan.Item.{Item}
use Rattle.boki_types.specs.declared.plan.Item.TheVariants.{One, Repeat}
use Rattle.boki_types.specs.declared.program.Function.{Function}
use Rattle.boki_model.specs.Live.{LogRecord}
use Rattle.boki_model.specs.OrderLaws.{ShardsHave}
use Rattle.boki_model.specs.Plans.{is_event, is_item, repeat_events, events_of, events}
use Rattle.boki_machine.specs.Machine.{Machine, live_records, initial_machine, apply_event, apply_events}
use Rattle.boki_machine.specs.Turns.{turns}
use Rattle.boki_machine.specs.Ideal.{run_turns}
use Rattle.boki_machine.specs.Ideal as run_turns
use Rattle.exactly_once.specs.Induction.ReportsAgree.{IsReported}
use Rattle.exactly_once.specs.Induction.EventKeeps.{MachineHolds, EventsKeepInvariant}
use Rattle.exactly_once.specs.Theorem.ExactlyOnce.{EventsAreExact, ExactlyOnce}
use Rattle.exactly_once.proofs.Log.ListElements.{each_append}
use Rattle.exactly_once.proofs.Invariant.OpeningHolds.{opening_holds, holding_is_reported}
use Rattle.exactly_once.proofs.Machines.EventEffects.{run_stays}

have_none : (n : ℕ) → ShardsHave {A = LogRecord Body} (replicate n []) []
have_none zero = tt
have_none (suc n) = (omega arith, have_none n)

module _ (setup : Setup) (fs : List Function) where
  pub opens : (objects : List (List ℕ × Value)) → MachineHolds setup fs (initial_machine setup objects)
  opens objects = record { holds = opening_holds setup fs objects; grow = tt; have = have_none setup.shards; replicas = tt; engines = tt }

  abbrev MayHappen : List Event → Type 0
  MayHappen es = AllByRecursion (λ e. IsTrue (is_event setup fs e)) es

  -- the events of a valid plan are valid
  each_valid : (es : List Event) → list_all (is_event setup fs) es ≡ true → MayHappen es
  each_valid [] ok = tt
  each_valid (e ∷ es) ok = let parts = and_parts (is_event setup fs e) (list_all (is_event setup fs) es) ok in (parts.0, each_valid es parts.1)

  repeats : (n : ℕ) (es : List Event) → MayHappen es → MayHappen (repeat_events n es)
  repeats zero es all = tt
  repeats (suc n) es all = each_append (λ e. IsTrue (is_event setup fs e)) es (repeat_events n es) all (repeats n es all)

  item_events : (i : Item) → is_item setup fs i ≡ true → MayHappen (events_of i)
  item_events (One e) ok = (ok, tt)
  item_events (Repeat n es) ok = repeats n es (each_valid es (and_parts _ (list_all (is_event setup fs) es) ok).1)

  pub valid_events : (items : List Item) → list_all (is_item setup fs) items ≡ true → MayHappen (events items)
  valid_events [] ok = tt
  valid_events (i ∷ is) ok =
      let parts = and_parts (is_item setup fs i) (list_all (is_item setup fs) is) ok in
      each_append (λ e. IsTrue (is_event setup fs e)) (events_of i) (events is) (item_events i parts.0) (valid_events is parts.1)

  module _ (events_keep : EventsKeepInvariant) where
    pub run_holds : (es : List Event) (m : Machine) → MayHappen es → MachineHolds setup fs m → MachineHolds setup fs (apply_events setup fs es m).machine
    run_holds [] m all good = good
    run_holds (e ∷ es) m all good = run_holds es (apply_event setup fs m e).machine all.1 (events_keep setup fs m e all.0 good)

pub events_are_exact : EventsKeepInvariant → EventsAreExact
events_are_exact keep setup fs objects es all =
    let m = (apply_events setup fs es (initial_machine setup objects)).machine in
    let is : IsReported fs m = holding_is_reported setup fs m (run_holds setup fs keep es (initial_machine setup objects) all (opens setup fs objects)).holds in
    record {
      state = is.state;
      defined = ap (λ first. run_turns fs (turns fs m.store.versions (live_records m)) (run_turns.initial_ideal first)) (sym (run_stays setup fs es (initial_machine setup objects))) ∙ is.defined;
      reported = is.reported;
    }

pub exactly_once : EventsKeepInvariant → ExactlyOnce
exactly_once keep plan ok =
    let items : list_all (is_item plan.setup plan.program.functions) plan.items ≡ true = (and_parts _ _ (and_parts _ _ ok).0).1 in
    events_are_exact keep plan.setup plan.program.functions plan.objects (events plan.items) (valid_events plan.setup plan.program.functions plan.items items)
