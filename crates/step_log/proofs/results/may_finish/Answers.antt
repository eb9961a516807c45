use Rattle.std.proofs.Common.{◌≡◌}
use Rattle.rec_codec.specs.declared.looking.BodyKind.TheVariants as k
use Rattle.rec_codec.specs.Reading.{read}
use Rattle.step_log.proofs.Looks.{no_finish_read}
use Rattle.step_log.proofs.results.may_finish.Goals as goal

pub returns-in-Some : goal.returns-in-Some
returns-in-Some c = λ e.
    no_finish_read c.kind_of_bytes.result (read c.args.bytes.now) c.kind_of_bytes.ensures
    (λ is. c.is_finish.ensures e (let same : c.in-Some.kind ≡ k.Finish = cc in same))

pub returns-in-None : goal.returns-in-None
returns-in-None c = λ e. no_finish_read c.kind_of_bytes.result (read c.args.bytes.now) c.kind_of_bytes.ensures (λ is. cc)
