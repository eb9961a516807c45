-- The values of one queue, changed record by record.
use Rattle.std.specs.Prelude.{ℕ, if◌then◌else◌, List, [], ◌∷◌, ◌++◌, drop, bytes_eq}
use Rattle.lb_base.specs.declared.value.Value.{Value}
use Rattle.boki_types.specs.declared.body.Body.{Body}
use Rattle.boki_types.specs.declared.body.Body.TheVariants as body
use Rattle.book_api.specs.Books.{BookState}
use Rattle.fold_cache.specs.Bodies.{body_at}

abbrev pub changed_by : List ℕ → Body → List Value → List Value
changed_by queue (body.Push p i q v) values = if bytes_eq queue q then values ++ v ∷ [] else values
changed_by queue (body.Pop p i q) values = if bytes_eq queue q then drop 1 values else values
changed_by queue _ values = values

-- by the records with these seqnums, in this order
abbrev pub changed_by_all : BookState → List ℕ → List ℕ → List Value → List Value
changed_by_all book queue [] values = values
changed_by_all book queue (seq ∷ seqs) values = changed_by_all book queue seqs (changed_by queue (body_at book seq) values)
