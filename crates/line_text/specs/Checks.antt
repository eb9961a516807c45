-- What is checked of a piece of a line.
use Rattle.std.specs.Prelude.{Bool, true, false, Option, Some, None, Result, Ok, Err}
use Rattle.boki_types.specs.declared.kind.Kind.{Kind}
use Rattle.boki_types.specs.declared.kind.Kind.TheVariants as kind
use Rattle.line_text.specs.declared.checked.Checked.{Checked}
use Rattle.line_text.specs.declared.checked.Checked.TheVariants as r

abbrev pub map_checked : {A B : Type 0} → (A → B) → Checked A → Checked B
map_checked f (r.Valid a) = r.Valid (f a)
map_checked f r.OutOfRange = r.OutOfRange
map_checked f r.TooDeep = r.TooDeep

-- Out of range wins over past the limits.
abbrev pub both_checked : {A B : Type 0} → Checked A → Checked B → Checked (A × B)
both_checked (r.Valid a) (r.Valid b) = r.Valid (a, b)
both_checked (r.Valid a) r.OutOfRange = r.OutOfRange
both_checked (r.Valid a) r.TooDeep = r.TooDeep
both_checked r.OutOfRange b = r.OutOfRange
both_checked r.TooDeep (r.Valid b) = r.TooDeep
both_checked r.TooDeep r.OutOfRange = r.OutOfRange
both_checked r.TooDeep r.TooDeep = r.TooDeep

abbrev pub checked_if : {A : Type 0} → Bool → A → Checked A
checked_if true a = r.Valid a
checked_if false a = r.OutOfRange

-- the value, or the kind that refuses the line
abbrev pub result_of_checked : {A : Type 0} → Option (Checked A) → Result A Kind
result_of_checked None = Err kind.Syntax
result_of_checked (Some r.OutOfRange) = Err kind.Range
result_of_checked (Some r.TooDeep) = Err kind.Deep
result_of_checked (Some (r.Valid l)) = Ok l
