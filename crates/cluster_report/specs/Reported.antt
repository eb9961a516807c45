-- What is reported of a book and a store, and what a report needs of them.
use Rattle.std.specs.Prelude.{◌≡◌, ◌≤◌, ℕ, suc, List, length, Some, None}
use Rattle.lb_base.specs.declared.value.Value.{Value}
use Rattle.boki_types.specs.declared.body.Body.{Body}
use Rattle.boki_types.specs.declared.plan.Setup.{Setup}
use Rattle.boki_types.specs.declared.program.Function.{Function}
use Rattle.boki_types.specs.declared.turn.Report.{Report}
use Rattle.boki_types.specs.declared.turn.Turn.{Turn}
use Rattle.boki_model.specs.Live.{Live}
use Rattle.boki_model.specs.Bodies.{step_of}
use Rattle.boki_model.specs.Modes.{result_of}
use Rattle.boki_model.specs.Writes.{Store}
use Rattle.boki_model.specs.Folds.{queues, commits, store_values}
use Rattle.boki_machine.specs.Machine.{Machine}
use Rattle.boki_machine.specs.Reports.{results, objects, report}
use Rattle.boki_machine.specs.Turns.{turns}
use Rattle.exactly_once.specs.Induction.EventKeeps.{MachineHolds}
use Rattle.exactly_once.specs.FurtherLaws.Words.{IsAmong}
use Rattle.machine_laws.specs.Ends.{EndsLast}
use Rattle.boki_txn.specs.Names.{with_values}
use Rattle.book_api.specs.Books.{BookState, ordered}
use Rattle.obj_store.specs.Kept.{StoreState}
use Rattle.step_log.specs.Sound.{bodies, live_bodies}
use Rattle.hm_read.specs.Kept.{AreKept}
use Rattle.cluster_report.specs.declared.folds.Folds.{Folds}
use Rattle.cluster_report.specs.Told.{AreLast, CanTell, values_upto}

-- what a report tells of a book and a store m
abbrev pub objects_in : Store → BookState → List (List ℕ × Value)
objects_in m book = objects (suc (length (ordered book))) m (live_bodies book)

abbrev pub report_in : List Function → Store → BookState → Report
report_in fs m book = record {
  turns = turns fs m.versions (live_bodies book);
  results = results (live_bodies book);
  objects = objects_in m book;
  queues = queues (live_bodies book);
  stores = store_values (commits (live_bodies book));
}

-- The report of these turns and of what was kept of some records, with the values of the objects up to a seqnum, whatever store
-- the object store stands for.
pub record HasParts (told : List Turn) (folds : Folds) (kept : StoreState) (last : ℕ) (whole : Report) : Type 0 where
  pub turns_are : whole.turns ≡ told
  pub results_are : whole.results ≡ folds.results.entries
  pub objects_are :
      (m : Store) (records : List (Live Body)) → CanTell last kept m records → AreLast last records folds.writes.entries
      → whole.objects ≡ values_upto last m records folds.writes.entries
  pub queues_are : whole.queues ≡ folds.queues.entries
  pub stores_are : whole.stores ≡ with_values folds.names

-- The object store stands for the store m beside the book, and it still has what the report asks for: its floor isn't above the
-- newest seqnum, and no step record of an invocation that hasn't ended is below it; and a Finish is its path's last step record.
pub record CanReport (book : BookState) (state : StoreState) (m : Store) : Type 0 where
  pub kept : AreKept book state m
  pub within : m.floor ≤ length (ordered book)
  pub running :
      (path : List ℕ) (x : Live Body) (index : ℕ) → result_of path (live_bodies book) ≡ None
      → IsAmong x (live_bodies book) → step_of x.holds ≡ Some (path, index) → m.floor ≤ x.seq
  pub ends : (path : List ℕ) → EndsLast path (live_bodies book)

-- The book and the store of a machine that holds the invariant can be reported, and what is reported is the machine's report.
pub record ReportsMachine (fs : List Function) (book : BookState) (kept : StoreState) (m : Machine) : Type 0 where
  pub can : CanReport book kept m.store
  pub same : report_in fs m.store book ≡ report fs m

abbrev pub HoldingIsReported : Type 0
HoldingIsReported =
    (setup : Setup) (fs : List Function) (m : Machine) (book : BookState) (kept : StoreState) → MachineHolds setup fs m
    → m.shards ≡ bodies book → m.vectors ≡ book.vectors → AreKept book kept m.store → ReportsMachine fs book kept m
