-- What the ordered record with a seqnum says, and the live records that engines see.
use Rattle.std.specs.Prelude.{◌≡◌, ℕ, Some}
use Rattle.std.specs.Option.{option_map_or}
use Rattle.boki_types.specs.declared.body.Body.{Body}
use Rattle.boki_types.specs.declared.body.Body.TheVariants as b
use Rattle.boki_model.specs.Live.{Live}
use Rattle.boki_model.specs.Reads.{nth}
use Rattle.boki_model.specs.Order.{at_seq}
use Rattle.log_folds.specs.Bounds.{record_at}
use Rattle.book_api.specs.Books.{BookState, ordered}
use Rattle.step_log.specs.Sound.{body_of, view}

-- the body that its bytes spell, or the end of a switch where there is none
abbrev pub body_at : BookState → ℕ → Body
body_at kept seq = option_map_or (λ r. body_of r.bytes) (at_seq seq (ordered kept)) b.SwitchEnd

-- what stands at a place of a tag is the live record with its seqnum
abbrev pub FoundAreRecorded : Type 0
FoundAreRecorded =
    (kept : BookState) (engine tag place : ℕ) (x : Live Body)
    → nth tag place (view kept engine) ≡ Some x → record_at x.seq (view kept engine) ≡ Some x
