-- What the fields of a path hold.
use Rattle.std.specs.Prelude.{◌≡◌, ℕ, List, length, take}
use Rattle.std.proofs.Common.{ap, ◌∙◌}
use Rattle.lb_base.specs.declared.path.Path.TheInside.{Inside}
use Rattle.lb_base.specs.Path.{IsPath, padded}

-- the numbers in use
abbrev pub numbers : Inside → List ℕ
numbers p = take p.len p.parts

-- The numbers in use are a path, and the others are 0.
pub record IsSound (p : Inside) : Type 0 where
  pub path : IsPath (numbers p)
  pub len : length (numbers p) ≡ p.len
  pub parts : padded (numbers p) ≡ p.parts

-- the fields of the path with these numbers
abbrev pub fields : List ℕ → Inside
fields path = record { parts = padded path; len = length path }

-- A path's numbers give its fields back.
pub fields-numbers : (p : Inside) → IsSound p → fields (numbers p) ≡ p
fields-numbers p h =
    let by_parts : List ℕ → Inside = λ x. record { parts = x; len = length (numbers p) } in
    let by_len : ℕ → Inside = λ n. record { parts = p.parts; len = n } in
    ap by_parts h.parts ∙ ap by_len h.len
