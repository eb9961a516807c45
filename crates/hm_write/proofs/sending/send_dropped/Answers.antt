use Rattle.hm_write.proofs.LiveStay.{live_stay}
use Rattle.hm_write.proofs.sending.send_dropped.Goals as goal

pub returns-clause-stays : goal.returns-clause-stays
returns-clause-stays c =
    live_stay c.args.engine _ c.args.body c.args.book.now c.send-sent.new.book c.send-sent.result c.send-sent.ensures.ok c.send-sent.ensures.err
