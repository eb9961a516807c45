use Rattle.std.specs.Option.{option_copied}
use Rattle.attempt_log.proofs.Lines.{ask_sent}
use Rattle.attempt_log.proofs.sending.send_asked.Goals as goal

pub returns-clause-ok : goal.returns-clause-ok
returns-clause-ok c =
    ask_sent c.args.program.now.functions (option_copied c.args.here) c.args.ask.now c.args.at.now c.args.book.now c.send_step-sent.new.book c.in_ok-body.body
    c.in-Ok-sent.sent _ c.in-Ok.line c.located.result c.in_ok-body.ensures c.in-Ok.ensures c.located.ensures c.in-Ok-sent.ensures.ok
