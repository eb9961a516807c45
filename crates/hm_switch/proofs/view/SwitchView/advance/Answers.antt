use Rattle.hm_switch.proofs.Going.{new_follows}
use Rattle.hm_switch.proofs.view.SwitchView.advance.Goals as goal

pub returns-in-Err-clause-err : goal.returns-in-Err-clause-err
returns-in-Err-clause-err c = new_follows c.args.book.now c.args.engine _ c.reset.new.self c.reset.ensures
