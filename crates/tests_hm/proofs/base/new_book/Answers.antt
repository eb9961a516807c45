use Rattle.tests_hm.proofs.Engines.{made}
use Rattle.tests_hm.proofs.base.new_book.Goals as goal

pub returns : goal.returns
returns c = made c.new.result c.new.ensures
