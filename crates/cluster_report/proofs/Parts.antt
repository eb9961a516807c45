-- The parts of a report.
use Rattle.std.proofs.Common.{◌≡◌, ℕ, List, length, Result, Ok, Err, IfOk, sym, ap, subst, ◌∙◌}
use Rattle.lb_base.specs.declared.value.Value.{Value}
use Rattle.boki_types.specs.declared.body.Body.{Body}
use Rattle.boki_types.specs.declared.program.Function.{Function}
use Rattle.boki_types.specs.declared.turn.Report.{Report}
use Rattle.boki_types.specs.declared.turn.Turn.{Turn}
use Rattle.boki_model.specs.Live.{Live}
use Rattle.boki_model.specs.Folds.{queues, commits, store_values}
use Rattle.boki_model.specs.Writes.{Store}
use Rattle.boki_machine.specs.Reports.{results}
use Rattle.boki_machine.specs.Turns.{turns}
use Rattle.boki_txn.specs.Names.{with_values}
use Rattle.boki_txn.proofs.Commits.{values_are}
use Rattle.book_api.specs.Books.{BookState, ordered}
use Rattle.obj_store.specs.Kept.{StoreState}
use Rattle.obj_store.specs.Keys.{keys_in}
use Rattle.obj_store.specs.StandsFor.{StandsFor}
use Rattle.step_log.specs.Sound.{live_bodies}
use Rattle.cluster_report.specs.declared.folds.Folds.{Folds}
use Rattle.cluster_report.specs.Folded.{LastWrites, Maps, maps_of, folded, writes_in}
use Rattle.cluster_report.specs.Reported.{CanReport, HasParts, objects_in, report_in}
use Rattle.cluster_report.specs.Told.{AreLast, CanTell, values_upto}
use Rattle.cluster_report.proofs.LastValues.{objects_are, are_last}
use Rattle.cluster_report.proofs.Walks.{falls}

-- by the folds of the records
module _ (folds : Folds) (keys : List (List ℕ)) (records : List (Live Body)) (are : maps_of folds ≡ folded keys records) where
  pub results_are : folds.results.entries ≡ results records
  results_are = ap (λ (m : Maps). m.results) are

  pub writes_are : folds.writes.entries ≡ writes_in keys records
  writes_are = ap (λ (m : Maps). m.writes) are

  pub queues_are : folds.queues.entries ≡ queues records
  queues_are = ap (λ (m : Maps). m.queues) are

  pub stores_are : with_values folds.names ≡ store_values (commits records)
  stores_are = ap (λ (m : Maps). with_values m.names) are ∙ values_are (commits records)

pub objects_told :
    (book : BookState) (kept : StoreState) (keys : List (List ℕ)) (entries : LastWrites) (last : ℕ) (values : List (List ℕ × Value))
    → last ≡ length (ordered book)
    → ((m : Store) (records : List (Live Body)) → StandsFor kept m records → keys ≡ keys_in m records)
    → entries ≡ writes_in keys (live_bodies book)
    → ((m : Store) (records : List (Live Body)) → CanTell last kept m records → AreLast last records entries → values ≡ values_upto last m records entries)
    → (m : Store) → CanReport book kept m → values ≡ objects_in m book
objects_told book kept keys entries last values long known are told m can =
    told m records (subst (λ (n : ℕ). CanTell n kept m records) (sym long) (record { kept = can.kept.store; within = can.within }))
    (subst (λ (n : ℕ). AreLast n records entries) (sym long)
    (subst (λ (es : LastWrites). AreLast (length (ordered book)) records es) (sym are) (are_last (length (ordered book)) keys records (falls book))))
    ∙ ap (λ (n : ℕ). values_upto n m records entries) long
    ∙ ap (values_upto (length (ordered book)) m records) (are ∙ ap (λ (ks : List (List ℕ)). writes_in ks records) (known m records can.kept.store.stands))
    ∙ objects_are (length (ordered book)) m records
  where
    records : List (Live Body)
    records = live_bodies book

pub objects_told_on :
    {E : Type 0} (book : BookState) (kept : StoreState) (keys : List (List ℕ)) (entries : LastWrites) (last : ℕ) (r : Result (List (List ℕ × Value)) E)
    → last ≡ length (ordered book)
    → ((m : Store) (records : List (Live Body)) → StandsFor kept m records → keys ≡ keys_in m records)
    → entries ≡ writes_in keys (live_bodies book)
    → IfOk r (λ values. (m : Store) (records : List (Live Body)) → CanTell last kept m records → AreLast last records entries → values ≡ values_upto last m records entries)
    → IfOk r (λ values. (m : Store) → CanReport book kept m → values ≡ objects_in m book)
objects_told_on book kept keys entries last (Ok values) long known are told = objects_told book kept keys entries last values long known are told
objects_told_on book kept keys entries last (Err e) long known are told = tt

report_is :
    (fs : List Function) (m : Store) (book : BookState) (r : Report)
    → r.turns ≡ turns fs m.versions (live_bodies book) → r.results ≡ results (live_bodies book) → r.objects ≡ objects_in m book
    → r.queues ≡ queues (live_bodies book) → r.stores ≡ store_values (commits (live_bodies book))
    → r ≡ report_in fs m book
report_is fs m book r turned resulted told queued stored =
    ap (λ (ts : List Turn). record r { turns = ts }) turned
    ∙ ap (λ rs. record r { turns = turns fs m.versions (live_bodies book); results = rs }) resulted
    ∙ ap (λ os. record r { turns = turns fs m.versions (live_bodies book); results = results (live_bodies book); objects = os }) told
    ∙ ap (λ qs. record r { turns = turns fs m.versions (live_bodies book); results = results (live_bodies book); objects = objects_in m book; queues = qs }) queued
    ∙ ap (λ ss. report_with fs m book ss) stored
  where
    report_with : List Function → Store → BookState → List (List ℕ × Value) → Report
    report_with fs m book ss = record {
      turns = turns fs m.versions (live_bodies book);
      results = results (live_bodies book);
      objects = objects_in m book;
      queues = queues (live_bodies book);
      stores = ss;
    }

-- the report of the definition
pub report_told_on :
    {E : Type 0} (fs : List Function) (book : BookState) (kept : StoreState) (keys : List (List ℕ)) (folds : Folds) (told : List Turn) (last : ℕ)
    (r : Result Report E)
    → last ≡ length (ordered book)
    → ((m : Store) (records : List (Live Body)) → StandsFor kept m records → keys ≡ keys_in m records)
    → maps_of folds ≡ folded keys (live_bodies book)
    → ((m : Store) → CanReport book kept m → told ≡ turns fs m.versions (live_bodies book))
    → IfOk r (HasParts told folds kept last)
    → IfOk r (λ report. (m : Store) → CanReport book kept m → report ≡ report_in fs m book)
report_told_on fs book kept keys folds told last (Ok report) long known are turned has = λ m can.
    report_is fs m book report (has.turns_are ∙ turned m can)
    (has.results_are ∙ results_are folds keys (live_bodies book) are)
    (objects_told book kept keys folds.writes.entries last report.objects long known (writes_are folds keys (live_bodies book) are) has.objects_are m can)
    (has.queues_are ∙ queues_are folds keys (live_bodies book) are)
    (has.stores_are ∙ stores_are folds keys (live_bodies book) are)
report_told_on fs book kept keys folds told last (Err e) long known are turned has = tt
