use Rattle.step_log.proofs.Said.{record_with, user_record_is, is_user_sent, user_stays_sound}
use Rattle.step_log.proofs.sending.send_user.Goals as goal

pub returns-clause-ok : goal.returns-clause-ok
returns-clause-ok c =
    is_user_sent c.args.engine c.args.cond c.args.tags.now c.args.bytes.now c.args.book.now c.send.new.self
    (record_with c.in_ok-tags.tags c.args.cond c.in_ok-spelling.spelling)
    (user_record_is c.args.cond c.args.tags.now c.in_ok-tags.tags c.args.bytes.now c.in_ok-spelling.spelling c.in_ok-tags.ensures c.in_ok-spelling.ensures.ok) c.in_ok-spelling.ensures.again c.send.result c.send.ensures.ok

pub returns-clause-sound : goal.returns-clause-sound
returns-clause-sound c =
    user_stays_sound c.args.engine c.args.cond c.args.tags.now c.args.bytes.now c.args.book.now c.send.new.self
    (record_with c.in_ok-tags.tags c.args.cond c.in_ok-spelling.spelling)
    (user_record_is c.args.cond c.args.tags.now c.in_ok-tags.tags c.args.bytes.now c.in_ok-spelling.spelling c.in_ok-tags.ensures c.in_ok-spelling.ensures.ok) c.in_ok-spelling.ensures.again c.send.result c.in_ok-spelling.ensures.range c.requires.tags c.send.ensures.ok c.send.ensures.err
