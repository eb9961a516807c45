use Rattle.std.proofs.Common.{rules}
use Rattle.call_base.proofs.DueLemmas.{no_room, nothing_read, too_long}
use Rattle.call_base.proofs.reading.read_text.Goals as goal

pub returns-in-Err-TooLong-clause-ended : goal.returns-in-Err-TooLong-clause-ended
returns-in-Err-TooLong-clause-ended g c =
    too_long c.args.limit _ (g.S.Source.left c.args.source.now) (g.S.Source.left c.read_all.new.source) (g.K.Sink.held c.args.sink.now) (g.K.Sink.held c.refuse.new.sink) (c.in-Err-TooLong.ensures.too_long (search rules)) c.refuse.ensures.meets

pub returns-in-Err-Fault-clause-ended : goal.returns-in-Err-Fault-clause-ended
returns-in-Err-Fault-clause-ended g c = nothing_read c.args.limit (g.S.Source.left c.args.source.now) (g.K.Sink.held c.args.sink.now)

pub returns-in-Err-Memory-clause-ended : goal.returns-in-Err-Memory-clause-ended
returns-in-Err-Memory-clause-ended g c = no_room c.args.limit (g.S.Source.left c.args.source.now) (g.K.Sink.held c.args.sink.now)
