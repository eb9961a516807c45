-- What a record's bytes tell at a look: of which kind it is, and of which step.
use Rattle.std.specs.Prelude.{◌≡◌, ℕ, ◌==◌, ◌||◌, ◌&&◌, nat_le, Bool, if◌then◌else◌, List, Option, Some, None, Result, Ok, Err}
use Rattle.boki_types.specs.declared.body.Body.{Body}
use Rattle.boki_types.specs.declared.body.Body.TheVariants as b
use Rattle.rec_codec.specs.declared.looking.BodyKind.{BodyKind}
use Rattle.rec_codec.specs.declared.looking.BodyKind.TheVariants as k
use Rattle.rec_codec.specs.Reading.{path_at, word_at}

abbrev pub kind_of : Body → BodyKind
kind_of (b.Submit p f args) = k.Submit
kind_of (b.Init p) = k.Init
kind_of (b.Read p i key) = k.Read
kind_of (b.Write p i place key v) = k.Write
kind_of (b.Spawn p i ordinal f args) = k.Spawn
kind_of (b.Join p i ordinal) = k.Join
kind_of (b.Push p i queue v) = k.Push
kind_of (b.Pop p i queue) = k.Pop
kind_of (b.TxnBegin p i ns) = k.TxnBegin
kind_of (b.TxnCommit p i began ns ws) = k.TxnCommit
kind_of (b.Finish p i o) = k.Finish
kind_of (b.SwitchBegin target) = k.SwitchBegin
kind_of b.SwitchEnd = k.SwitchEnd
kind_of (b.Trim w) = k.Trim
kind_of (b.TrimTag number upto) = k.TrimTag
kind_of (b.User piece) = k.User
kind_of (b.ReadGroup p i ns) = k.ReadGroup

-- the kind of a number, where it is one
abbrev pub kind_by_number : ℕ → Option BodyKind
kind_by_number n =
    if n == 1 then Some k.Submit else if n == 2 then Some k.Init else if n == 3 then Some k.Read
    else if n == 4 then Some k.Write else if n == 5 then Some k.Spawn else if n == 6 then Some k.Join
    else if n == 7 then Some k.Push else if n == 8 then Some k.Pop else if n == 9 then Some k.TxnBegin
    else if n == 10 then Some k.TxnCommit else if n == 11 then Some k.Finish else if n == 12 then Some k.SwitchBegin
    else if n == 13 then Some k.SwitchEnd else if n == 14 then Some k.Trim else if n == 15 then Some k.TrimTag
    else if n == 16 then Some k.User else if n == 17 then Some k.ReadGroup else None

-- what was read and is followed by more, where it was read
abbrev pub if_read : {A B : Type 0} → (A → Option B) → Result A ℕ → Option B
if_read f (Ok x) = f x
if_read f (Err left) = None

-- the path and the step index that the fields of a step record begin with; those of an Init have the path alone
abbrev pub first_step : List ℕ → Option (List ℕ × ℕ)
first_step fields = if_read (λ p. Some (p.0, 1)) (path_at 4 fields)

abbrev pub indexed_step : List ℕ → Option (List ℕ × ℕ)
indexed_step fields = if_read (λ p. if_read (λ i. Some (p.0, i.0)) (word_at p.1)) (path_at 4 fields)

abbrev pub step_by_kind : Option BodyKind → List ℕ → Option (List ℕ × ℕ)
step_by_kind (Some k.Init) fields = first_step fields
step_by_kind (Some k.Read) fields = indexed_step fields
step_by_kind (Some k.Write) fields = indexed_step fields
step_by_kind (Some k.Spawn) fields = indexed_step fields
step_by_kind (Some k.Join) fields = indexed_step fields
step_by_kind (Some k.Push) fields = indexed_step fields
step_by_kind (Some k.Pop) fields = indexed_step fields
step_by_kind (Some k.TxnBegin) fields = indexed_step fields
step_by_kind (Some k.TxnCommit) fields = indexed_step fields
step_by_kind (Some k.Finish) fields = indexed_step fields
step_by_kind (Some k.ReadGroup) fields = indexed_step fields
step_by_kind _ fields = None
