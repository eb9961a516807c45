-- Parts whose book has one more record of a step.
use Rattle.std.proofs.Common.{ℕ}
use Rattle.boki_types.specs.declared.body.Body.{Body}
use Rattle.boki_types.specs.declared.plan.Setup.{Setup}
use Rattle.boki_model.specs.Live.{LogRecord}
use Rattle.boki_model.specs.Writes.{Store}
use Rattle.book_api.specs.Books.{BookState}
use Rattle.step_log.specs.Sound.{record_of, Sound}
use Rattle.attempt_log.specs.Moves.{IsAppended}
use Rattle.flow_parts.specs.declared.parts.Parts.{Parts}
use Rattle.flow_parts.specs.Parts.{PartsStandFor}
use Rattle.flow_parts.proofs.Appended as parts

pub appended_stands : (setup : Setup) (store : Store) (old : Parts) → PartsStandFor setup store old → (engine : ℕ) (r : LogRecord Body) (book : BookState)
    → IsAppended engine r old.book book → Sound book → PartsStandFor setup store (record old { book = book })
appended_stands setup store old stands engine r book is sound =
    parts.appended_stands setup store old stands engine (record_of r.condition r.holds) book is.after sound
