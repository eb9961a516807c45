use Rattle.tests_hm.proofs.Engines.{after_sending}
use Rattle.tests_hm.proofs.base.book_with_write.Goals as goal

pub order-requires : goal.order-requires
order-requires c = after_sending 1 _ _ _ _ _ c.in_ok-send_write.ensures.ok c.in_ok-book.ensures
