-- The invariant at the opening, and what it gives of reports.
use Rattle.std.proofs.Common.{◌≡◌, ℕ, zero, suc, ◌≤◌, [], length, refl, sym, subst, arith}
use Rattle.std.specs.Prelude.{replicate}
use Rattle.std.specs.List.{AllByRecursion}
use Rattle.boki_machine.specs.Machine.{initial_machine, log, live_records}
use Rattle.exactly_once.specs.Induction.SoundLogsRun.{RunsFailureFree}
use Rattle.exactly_once.specs.FurtherLaws.Words.{values_only, all_records}
use Rattle.exactly_once.specs.Induction.Invariant.{IsSentRecord}
use Rattle.exactly_once.specs.Induction.OpeningHolds.{OpeningHolds, HoldingIsReported}
use Rattle.exactly_once.proofs.Simulation.SoundLogsRun.{sound_runs}
use Rattle.exactly_once.proofs.Simulation.ReportsAgree.{reported_from}

no_records : {A : Type 0} (n : ℕ) → all_records {A = A} (replicate n []) ≡ []
no_records zero = refl
no_records (suc n) = no_records n

all_zero : (n : ℕ) → AllByRecursion (λ p. p ≤ 0) (replicate n 0)
all_zero zero = tt
all_zero (suc n) = (omega arith, all_zero n)

pub opening_holds : OpeningHolds
opening_holds setup fs objects = record {
  sound = record { fit = tt; placed = tt };
  fenced = tt;
  sent = subst (AllByRecursion (IsSentRecord setup fs (values_only (initial_machine setup objects).store) [] 0 [])) (sym (no_records setup.shards)) tt;
  ordered = tt;
  owed = tt;
  attempts = tt;
  floor_is = omega arith;
  positions = all_zero setup.engines;
}

pub holding_is_reported : HoldingIsReported
holding_is_reported setup fs m holds =
    let runs : RunsFailureFree fs (values_only m.store) (suc (length (log m))) (live_records m) = sound_runs setup fs (values_only m.store) (log m) holds.sound in
    reported_from fs m runs.state runs.defined runs.objects runs.results runs.queues_are runs.names
