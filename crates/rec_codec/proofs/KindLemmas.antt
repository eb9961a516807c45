-- The kind of a body stands in its second byte.
use Rattle.std.proofs.Common.{◌≡◌, ℕ, List, [], ◌∷◌, get_or, Option, Some, None, Result, Ok, refl, sym, ap, ◌∙◌}
use Rattle.boki_types.specs.declared.body.Body.{Body}
use Rattle.boki_types.specs.declared.body.Body.TheVariants as b
use Rattle.rec_codec.specs.Spelling.{spelled}
use Rattle.rec_codec.specs.Reading.{read}
use Rattle.rec_codec.specs.Looking.{kind_of, kind_by_number}
use Rattle.rec_codec.proofs.Fields.{IsBytes}
use Rattle.rec_codec.proofs.Bodies.{read_takes_all}

kind_spelled : (body : Body) → kind_by_number (get_or (spelled body) 1 0) ≡ Some (kind_of body)
kind_spelled (b.Submit p f args) = refl
kind_spelled (b.Init p) = refl
kind_spelled (b.Read p i key) = refl
kind_spelled (b.Write p i place key None) = refl
kind_spelled (b.Write p i place key (Some v)) = refl
kind_spelled (b.Spawn p i ordinal f args) = refl
kind_spelled (b.Join p i ordinal) = refl
kind_spelled (b.Push p i queue v) = refl
kind_spelled (b.Pop p i queue) = refl
kind_spelled (b.TxnBegin p i ns) = refl
kind_spelled (b.TxnCommit p i began ns ws) = refl
kind_spelled (b.Finish p i o) = refl
kind_spelled (b.SwitchBegin target) = refl
kind_spelled b.SwitchEnd = refl
kind_spelled (b.Trim w) = refl
kind_spelled (b.TrimTag number upto) = refl
kind_spelled (b.User piece) = refl
kind_spelled (b.ReadGroup p i ns) = refl

-- the kind by the second byte
pub kind_read : (bytes : List ℕ) (body : Body) → IsBytes bytes → read bytes ≡ Ok body → kind_by_number (get_or bytes 1 0) ≡ Some (kind_of body)
kind_read bytes body fits e = ap (λ (l : List ℕ). kind_by_number (get_or l 1 0)) (read_takes_all bytes body fits e).2 ∙ kind_spelled body
