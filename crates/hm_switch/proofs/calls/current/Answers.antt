use Rattle.hm_switch.proofs.Going.{new_follows}
use Rattle.hm_switch.proofs.calls.current.Goals as goal

pub advance-requires-clause-follows : goal.advance-requires-clause-follows
advance-requires-clause-follows c = new_follows c.args.book.now c.args.engine _ c.new-view.result c.new-view.ensures
