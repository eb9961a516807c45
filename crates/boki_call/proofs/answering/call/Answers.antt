use Rattle.std.specs.Prelude.{map, string_bytes, vec_len}
use Rattle.command_line.specs.Words.{request}
use Rattle.run_call.specs.Words.{kept_of}
use Rattle.run_call.proofs.Ended.{laws_asked}
use Rattle.boki_call.proofs.NoRoom.{no_answer}
use Rattle.boki_call.proofs.answering.call.Goals as goal

pub returns-in_default-clause-answers : goal.returns-in_default-clause-answers
returns-in_default-clause-answers g c =
    no_answer (vec_len c.args.nemeses) (map (λ b. (g.dyn-1.0.entry b.vtable).1.automaton b.value) c.args.nemeses.items)
    (request (map string_bytes c.args.words.now)) (g.S.Source.left c.args.source.now) (g.K.Sink.held c.args.sink.now)

pub returns-in_default-clause-laws : goal.returns-in_default-clause-laws
returns-in_default-clause-laws g c = laws_asked _ (λ named. kept_of named _) (g.S.Source.left c.args.source.now)

pub returns-in-Some-clause-laws : goal.returns-in-Some-clause-laws
returns-in-Some-clause-laws g c = laws_asked _ (λ named. kept_of named _) (g.S.Source.left c.args.source.now)
