-- The book and the store of a machine that holds the invariant can be reported, and the report is the machine's.
use Rattle.std.proofs.Common.{◌≡◌, ℕ, suc, ◌≤◌, List, length, None, sym, ap, subst, ◌∙◌}
use Rattle.boki_types.specs.declared.body.Body.{Body}
use Rattle.boki_types.specs.declared.program.Function.{Function}
use Rattle.boki_types.specs.declared.turn.Report.{Report}
use Rattle.boki_model.specs.Live.{Live, LogRecord, live}
use Rattle.boki_model.specs.Order.{order}
use Rattle.boki_model.specs.Folds.{queues, commits, store_values}
use Rattle.boki_model.specs.Modes.{result_of}
use Rattle.boki_model.specs.Writes.{Store}
use Rattle.boki_machine.specs.Machine.{log, live_records}
use Rattle.boki_machine.specs.Reports.{results, objects}
use Rattle.boki_machine.specs.Turns.{turns}
use Rattle.exactly_once.specs.FurtherLaws.Words.{IsAmong}
use Rattle.machine_laws.specs.Ends.{EndsLast}
use Rattle.machine_laws.proofs.Attempts.{floor_is_within}
use Rattle.machine_laws.proofs.Ends.{holding_ends_last}
use Rattle.machine_laws.proofs.Open.{open_are_above}
use Rattle.book_api.specs.Books.{ordered}
use Rattle.step_log.specs.Sound.{bodies, live_bodies}
use Rattle.cluster_report.specs.Reported.{HoldingIsReported}
use Rattle.cluster_report.proofs.Walks.{length_is}

-- the report of some ordered records
abbrev report_of_log : List Function → Store → List (LogRecord Body) → ℕ → Report
report_of_log fs store entries n = record {
  turns = turns fs store.versions (live entries);
  results = results (live entries);
  objects = objects (suc n) store (live entries);
  queues = queues (live entries);
  stores = store_values (commits (live entries));
}

pub holding_is_reported : HoldingIsReported
holding_is_reported setup fs m book kept holds shards vectors are = record {
  can = record {
    kept = are;
    within = subst (λ n. m.store.floor ≤ n) long (floor_is_within setup fs m holds);
    running = λ path x index none among step.
        open_are_above setup fs m path x index holds
        (subst (λ (xs : List (Live Body)). result_of path xs ≡ None) (sym same_records) none)
        (subst (λ (xs : List (Live Body)). IsAmong x xs) (sym same_records) among) step;
    ends = λ path. subst (λ (xs : List (Live Body)). EndsLast path xs) same_records (holding_ends_last setup fs m path holds).whole;
  };
  same = sym (ap (λ (entries : List (LogRecord Body)). report_of_log fs m.store entries (length entries)) same_log
      ∙ ap (report_of_log fs m.store (order (bodies book) book.vectors)) (length_is book));
}
  where
    same_log : log m ≡ order (bodies book) book.vectors
    same_log = ap (λ (s : List (List (LogRecord Body))). order s m.vectors) shards ∙ ap (order (bodies book)) vectors

    same_records : live_records m ≡ live_bodies book
    same_records = ap live same_log

    long : length (log m) ≡ length (ordered book)
    long = ap length same_log ∙ length_is book
