-- What a record hides of a user's tag.
use Rattle.std.specs.Prelude.{ℕ, ◌==◌, min, cond, List, Option, Some, None}
use Rattle.std.specs.Option.{option_map_or}
use Rattle.lb_base.specs.declared.value.Record.{Record}
use Rattle.boki_model.specs.Order.{at_seq}
use Rattle.book_api.specs.Books.{trim_of_bytes}

-- up to which seqnum a record at a seqnum hides the tag's records, by what its bytes say
abbrev pub bound_of : ℕ → ℕ → Option (ℕ × ℕ) → ℕ
bound_of tag seq None = 0
bound_of tag seq (Some t) = cond (tag == t.0) (min t.1 seq) 0

abbrev pub bound_at : ℕ → List Record → ℕ → ℕ
bound_at tag records seq = option_map_or (λ r. bound_of tag seq (trim_of_bytes r.bytes)) (at_seq seq records) 0
