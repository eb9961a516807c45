-- What an engine may trim counts: the law of `switch_laws` where nothing was ordered since.
use Rattle.std.proofs.Common.{ℕ, suc, ◌≤◌, List, [], length, refl}
use Rattle.boki_types.specs.declared.body.Body.{Body}
use Rattle.boki_types.specs.declared.body.Body.TheVariants as b
use Rattle.boki_model.specs.Live.{LogRecord, live, upto}
use Rattle.boki_model.specs.Floor.{trim_limit}
use Rattle.boki_model.proofs.Logs.{live_falls}
use Rattle.boki_machine.specs.Machine.{unconditional_record}
use Rattle.switch_laws.proofs.Ended.{upto_falls}
use Rattle.switch_laws.proofs.Trims.{may_trim_is, trimmed_counts}
use Rattle.log_folds.specs.Trims.{ViewTrimCounts}

pub trim_counts : (p : ℕ) (log : List (LogRecord Body)) → p ≤ length log → ViewTrimCounts p log
trim_counts p log long =
    let seen = upto p (live log) in
    let law = trimmed_counts log [] p long in
    let may = may_trim_is p seen (upto_falls (suc (length log)) p (live log) (live_falls log)) in
    record {
      within = may.low;
      ended = law.ended;
      counts = law.counts;
      lifts = law.lifts (unconditional_record (b.Trim (trim_limit p seen))) [] (record { holds_is = refl; free = refl });
    }
