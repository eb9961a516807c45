-- What a cluster needs and does, by what is done to its parts and attempts.
use Rattle.std.proofs.Common.{◌≡◌, ◌∙◌, ℕ, false, List, [], length, Result, refl, sym, ap, subst}
use Rattle.std.specs.Prelude.{IsTrue, IfOk}
use Rattle.std.proofs.lemmas.Result.{IfOk-weaker}
use Rattle.lb_base.specs.declared.value.Value.{Value}
use Rattle.boki_types.specs.declared.event.Event.{Event}
use Rattle.boki_types.specs.declared.line.Line.{Line}
use Rattle.boki_types.specs.declared.plan.Plan.{Plan}
use Rattle.boki_types.specs.declared.plan.Setup.{Setup}
use Rattle.boki_types.specs.declared.program.Function.{Function}
use Rattle.boki_types.specs.declared.turn.Report.{Report}
use Rattle.boki_types.specs.declared.turn.Turn.{Turn}
use Rattle.boki_model.specs.Plans.{is_event}
use Rattle.boki_model.specs.Writes.{Store}
use Rattle.boki_machine.specs.Machine.{Machine, log, initial_machine, apply_event, catch_up_all}
use Rattle.boki_machine.specs.Reports.{report}
use Rattle.boki_machine.specs.Turns.{turns}
use Rattle.book_api.specs.Books.{ordered}
use Rattle.step_log.specs.Sound.{live_bodies}
use Rattle.cluster_events.specs.Machines.{PartsAreOf, CatchesAll}
use Rattle.cluster_events.proofs.Cuts.{log_length}
use Rattle.cluster_report.specs.Reported.{CanReport, HoldingIsReported, ReportsMachine, objects_in, report_in}
use Rattle.cluster_run.specs.Attempts.{DoesAll}
use Rattle.cluster_run.specs.Clusters.{ClusterState, StandsFor, StandsForOne, StandsForPlan, StandsForSome, IsSoundCluster, IsOfPlan, IsOpened, DoesEvent, CatchesAllUp}
use Rattle.cluster_run.proofs.Reached.{is_done, reached_caught}

-- A new cluster.

pub opened :
    (plan : Plan) (c : ClusterState) → c.marked ≡ false → c.attempts ≡ []
    → PartsAreOf plan.setup plan.program.functions (initial_machine plan.setup plan.objects) c.parts → IsOpened plan c
opened plan c unmarked none are = record {
  unmarked = unmarked;
  stands = record {
    are = are;
    attempts = rw none tt;
    reached = record { events = []; valid = tt; is = refl };
  };
}

pub opened_sound : (plan : Plan) (c : ClusterState) → IsOpened plan c → IsSoundCluster c
opened_sound plan c is e = record {
  setup = plan.setup;
  functions = plan.program.functions;
  objects = plan.objects;
  machine = initial_machine plan.setup plan.objects;
  stands = is.stands;
}

pub sound_by_plan : (plan : Plan) (c : ClusterState) → IsOfPlan plan c → IsSoundCluster c
sound_by_plan plan c of unmarked =
    let some : StandsForPlan plan c = of unmarked in
    record { setup = plan.setup; functions = plan.program.functions; objects = some.objects; machine = some.machine; stands = some.stands }

-- An event.

module _ (plan : Plan) (event : Event) (old : ClusterState) (valid : IsTrue (is_event plan.setup plan.program.functions event))
    (new : ClusterState) (line : Line) where
  pub does_event : DoesAll plan.program.functions event old.parts new.parts old.attempts new.attempts line → DoesEvent plan.setup plan.program.functions event old new line
  does_event does objects m stands =
      is_done plan.setup plan.program.functions objects event m old new line stands
      (does plan.setup m valid (record { are = stands.are; stand = stands.attempts }))

  pub still_of_plan : DoesAll plan.program.functions event old.parts new.parts old.attempts new.attempts line → IsOfPlan plan old → old.marked ≡ false → IsOfPlan plan new
  still_of_plan does of unmarked e =
      let some : StandsForPlan plan old = of unmarked in
      record {
        objects = some.objects;
        machine = (apply_event plan.setup plan.program.functions some.machine event).machine;
        stands = (does_event does some.objects some.machine some.stands).stands;
      }

-- whatever the plan's objects are
pub event_done :
    (setup : Setup) (fs : List Function) (event : Event) (old new : ClusterState) (line : Line) → DoesEvent setup fs event old new line → (m : Machine) → StandsForOne setup fs m old
    → (line ≡ (apply_event setup fs m event).line) × StandsForOne setup fs (apply_event setup fs m event).machine new
event_done setup fs event old new line does m one =
    let done = does one.objects m one.stands in
    (done.line_is, record { objects = one.objects; stands = done.stands })

pub if_event_done :
    {E : Type 0} (r : Result Line E) (setup : Setup) (fs : List Function) (event : Event) (old new : ClusterState) → IfOk r (DoesEvent setup fs event old new)
    → IfOk r (λ line. (m : Machine) → StandsForOne setup fs m old
    → (line ≡ (apply_event setup fs m event).line) × StandsForOne setup fs (apply_event setup fs m event).machine new)
if_event_done r setup fs event old new does = IfOk-weaker r _ _ (λ line d. event_done setup fs event old new line d) does

-- Every engine is caught up.

module _ (old new : ClusterState) (same : new.attempts ≡ old.attempts) (n : ℕ) (caught : CatchesAll old.parts new.parts n) where
  stands_caught :
      (setup : Setup) (fs : List Function) (objects : List (List ℕ × Value)) (m : Machine) → StandsFor setup fs objects m old
      → StandsFor setup fs objects (catch_up_all m) new
  stands_caught setup fs objects m stands = record {
    are = caught.are setup fs m stands.are;
    attempts = rw same stands.attempts;
    reached = reached_caught setup fs objects m stands.reached (ap length stands.are.book.positions ∙ stands.are.stand.sizes.engines);
  }

  pub all_caught : CatchesAllUp old new n
  all_caught setup fs objects m stands = (caught.length_is setup fs m stands.are, stands_caught setup fs objects m stands)

  pub caught_is_sound : StandsForSome old → IsSoundCluster new
  caught_is_sound some e = record {
    setup = some.setup;
    functions = some.functions;
    objects = some.objects;
    machine = catch_up_all some.machine;
    stands = stands_caught some.setup some.functions some.objects some.machine some.stands;
  }

-- The report.

module _ (setup : Setup) (fs : List Function) (m : Machine) (c : ClusterState) (one : StandsForOne setup fs m c) where
  pub log_is : length (ordered c.parts.book) ≡ length (log m)
  log_is = sym (log_length m c.parts.book one.stands.are.book)

  reported : HoldingIsReported → ReportsMachine fs c.parts.book c.parts.store m
  reported law =
      let are = one.stands.are in
      law setup fs m c.parts.book c.parts.store are.kept.holds are.book.shards are.book.vectors are.stand.kept

  pub report_is : HoldingIsReported → (r : Report) → ((s : Store) → CanReport c.parts.book c.parts.store s → r ≡ report_in fs s c.parts.book) → r ≡ report fs m
  report_is law r told = let is = reported law in told m.store is.can ∙ is.same

  pub turns_are : HoldingIsReported → (ts : List Turn) → ((s : Store) → CanReport c.parts.book c.parts.store s → ts ≡ turns fs s.versions (live_bodies c.parts.book)) → ts ≡ (report fs m).turns
  turns_are law ts told = let is = reported law in told m.store is.can ∙ ap (λ (r : Report). r.turns) is.same

  pub objects_are :
      HoldingIsReported → (xs : List (List ℕ × Value)) → ((s : Store) → CanReport c.parts.book c.parts.store s → xs ≡ objects_in s c.parts.book) → xs ≡ (report fs m).objects
  objects_are law xs told = let is = reported law in told m.store is.can ∙ ap (λ (r : Report). r.objects) is.same

-- What was told of a book and a store is told of each machine that the cluster stands for.
module _ (c now : ClusterState) (is : c ≡ now) (law : HoldingIsReported) where
  module _ (setup : Setup) (fs : List Function) where
    pub if_report_told :
        {E : Type 0} (r : Result Report E)
        → IfOk r (λ x. (s : Store) → CanReport c.parts.book c.parts.store s → x ≡ report_in fs s c.parts.book)
        → IfOk r (λ x. (m : Machine) → StandsForOne setup fs m now → x ≡ report fs m)
    if_report_told r told =
        IfOk-weaker r _ _ (λ x told m one. report_is setup fs m c (subst (StandsForOne setup fs m) (sym is) one) law x told) told

    pub if_turns_told :
        {E : Type 0} (r : Result (List Turn) E)
        → IfOk r (λ ts. (s : Store) → CanReport c.parts.book c.parts.store s → ts ≡ turns fs s.versions (live_bodies c.parts.book))
        → IfOk r (λ ts. (m : Machine) → StandsForOne setup fs m now → ts ≡ (report fs m).turns)
    if_turns_told r told =
        IfOk-weaker r _ _ (λ ts told m one. turns_are setup fs m c (subst (StandsForOne setup fs m) (sym is) one) law ts told) told

  pub if_objects_told :
      {E : Type 0} (r : Result (List (List ℕ × Value)) E)
      → IfOk r (λ xs. (s : Store) → CanReport c.parts.book c.parts.store s → xs ≡ objects_in s c.parts.book)
      → IfOk r (λ xs. (setup : Setup) (fs : List Function) (m : Machine) → StandsForOne setup fs m now → xs ≡ (report fs m).objects)
  if_objects_told r told =
      IfOk-weaker r _ _ (λ xs told setup fs m one. objects_are setup fs m c (subst (StandsForOne setup fs m) (sym is) one) law xs told) told
