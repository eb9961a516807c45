-- Records are as the runtime sends them.
use Rattle.std.proofs.Common.{suc, Bool, true, false, cond, List, [], ◌∷◌, length}
use Rattle.std.specs.List.{AllByRecursion}
use Rattle.boki_types.specs.declared.body.Body.{Body}
use Rattle.boki_model.specs.Live.{LogRecord, meets_condition, live}
use Rattle.boki_machine.specs.Machine.{log, live_records, position, view}
use Rattle.exactly_once.specs.FurtherLaws.Words.{values_only, all_records}
use Rattle.exactly_once.specs.Induction.Invariant.{IsSentRecord}
use Rattle.exactly_once.specs.Induction.OpeningHolds.{world_of}
use Rattle.exactly_once.specs.FurtherLaws.StepRecords.{IsWellFormed, IsWellFormedLive}
use Rattle.exactly_once.proofs.Log.ListElements.{each_weaker, each_tail}
use Rattle.exactly_once.proofs.Invocations.InitAndCursor.{upto_tail}
use Rattle.exactly_once.proofs.OldVersions.StepOrigins.{own_log}
use Rattle.machine_laws.specs.Own.{HoldingAreWellFormed}

own_live : (log : List (LogRecord Body)) → AllByRecursion IsWellFormed log → AllByRecursion IsWellFormedLive (live log)
own_live [] own = tt
own_live (r ∷ log) own = at (meets_condition r.condition (live log)) (own_live log own.1)
  where
    at : (t : Bool) → AllByRecursion IsWellFormedLive (live log) → AllByRecursion IsWellFormedLive (cond t (record { seq = suc (length log); tags = r.tags; holds = r.holds } ∷ live log) (live log))
    at true rest = (record { tags = own.0.tags; paths = own.0.paths }, rest)
    at false rest = rest

pub holding_are_own : HoldingAreWellFormed
holding_are_own setup fs m good =
    let own = own_log setup fs (world_of m) good.holds in
    let whole : AllByRecursion IsWellFormedLive (live_records m) = own_live (log m) own in
    record {
      sent = each_weaker (IsSentRecord setup fs (values_only m.store) m.store.fences (length (log m)) (live_records m)) IsWellFormed (λ r is. is.own) (all_records m.shards) good.holds.sent;
      ordered = own;
      whole = whole;
      seen = λ engine. each_tail IsWellFormedLive (view m engine) (live_records m) (upto_tail (position m engine) (live_records m)) whole;
    }
