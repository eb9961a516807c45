-- A record that is sent changes nothing that is live.
use Rattle.std.proofs.Common.{◌≡◌, ℕ, ◌-◌, List, Option, Result, Ok, Err, IfOk, OnErr, ap, ◌∙◌}
use Rattle.lb_base.specs.declared.value.Cond.{Cond}
use Rattle.boki_types.specs.declared.body.Body.{Body}
use Rattle.boki_types.specs.declared.log.Sent.{Sent}
use Rattle.boki_model.specs.Live.{LogRecord, live}
use Rattle.boki_model.specs.Order.{order, last_vector}
use Rattle.boki_model.specs.OrderLaws.{ShardsHave}
use Rattle.boki_model.proofs.Orders.{stays}
use Rattle.log_folds.specs.Decoded.{decoded_record}
use Rattle.log_folds.proofs.MappedOrders.{ordered_alike}
use Rattle.book_api.specs.Books.{BookState, home_shard}
use Rattle.step_log.specs.Sound.{body_of, bodies, live_bodies, entry_with, IsBodySent}
use Rattle.hm_write.specs.Sends.{HasOrdered}

pub live_stay :
    {E : Type 0} (engine : ℕ) (condition : Option Cond) (body : Body) (old new : BookState) (result : Result Sent E)
    → IfOk result (IsBodySent engine condition body old new) → OnErr result (new ≡ old) → HasOrdered old
    → live_bodies new ≡ live_bodies old
live_stay engine condition body old new (Err e) sent same has = ap live_bodies same
live_stay engine condition body old new (Ok at) sent same has =
    ap (λ (vs : List (List ℕ)). live (order (bodies new) vs)) (ap (λ (b : BookState). b.vectors) sent.after)
    ∙ ap (λ (shards : List (List (LogRecord Body))). live (order shards old.vectors)) sent.says
    ∙ ap live (stays (home_shard old engine - 1) (entry_with condition body) (bodies old) old.vectors has.grow there).records
  where
    there : ShardsHave (bodies old) (last_vector old.vectors)
    there = (ordered_alike (decoded_record body_of) old.shards).have (last_vector old.vectors) has.have
