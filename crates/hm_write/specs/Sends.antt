-- Logged writes and markers, as the bodies that are sent.
use Rattle.std.specs.Prelude.{ℕ, List, Option}
use Rattle.lb_base.specs.declared.value.Value.{Value}
use Rattle.boki_types.specs.declared.body.Body.{Body}
use Rattle.boki_types.specs.declared.body.Body.TheVariants as body
use Rattle.boki_types.specs.declared.store.Name.{Name}
use Rattle.boki_model.specs.Order.{last_vector}
use Rattle.boki_model.specs.OrderLaws.{CountsGrow, ShardsHave}
use Rattle.book_api.specs.Books.{BookState}

-- a logged write of a name: its index, its object, and its value where the record is to hold it
abbrev pub write_body : Name → ℕ → List ℕ → Option Value → Body
write_body name index key value = body.Write name.path index name.place key value

-- The shards have the records that the vectors order, as those of every book do; no clause of `Book` says so.
pub record HasOrdered (book : BookState) : Type 0 where
  pub grow : CountsGrow book.vectors
  pub have : ShardsHave book.shards (last_vector book.vectors)
