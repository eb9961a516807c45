-- Open blocks: the innermost one stands last.
use Rattle.std.proofs.Common.{◌≡◌, ◌∙◌, ap, sym, subst, refl, ℕ, ◌+◌, ◌-◌, List, [], ◌∷◌, ◌++◌, length, take, Bool, Option, Some, None, Ok, MatchOption, slice_get, arith}
use Rattle.std.specs.Option.{option_to_list}
use Rattle.lb_base.specs.declared.value.Value.{Value}
use Rattle.boki_types.specs.declared.expr.Expr.{Expr}
use Rattle.boki_types.specs.declared.program.Stmt.{Stmt}
use Rattle.boki_model.specs.Values.{and_then, eval, as_condition}
use Rattle.boki_model.specs.Script as script
use Rattle.script_run.specs.declared.state.Block.{Block}
use Rattle.script_run.specs.Standing.{LocalState, block_of, blocks_before, blocks_of, state_from}

before_push : (lines : List Stmt) (inner : List script.Block) (bs : List Block) (b : Block) → blocks_before lines inner (bs ++ b ∷ []) ≡ block_of lines b ∷ blocks_before lines inner bs
before_push lines inner [] b = refl
before_push lines inner (x ∷ xs) b = before_push lines (block_of lines x ∷ inner) xs b

pub blocks_push : (lines : List Stmt) (bs : List Block) (b : Block) → blocks_of lines (bs ++ b ∷ []) ≡ block_of lines b ∷ blocks_of lines bs
blocks_push lines bs b = before_push lines [] bs b

-- the state with other blocks
pub pushed_state : (lines : List Stmt) (m : LocalState) (bs : List Block) (b : Block) → bs ≡ m.blocks ++ b ∷ [] → state_from lines (record m { blocks = bs }) ≡ script.push_block (block_of lines b) (state_from lines m)
pushed_state lines m bs b is =
    let t = state_from lines m in
    ap (λ (inner : List script.Block). record t { blocks = inner }) (ap (blocks_of lines) is ∙ blocks_push lines m.blocks b)

others_push : (lines : List Stmt) (new : List Block) (r : Option Block) → MatchOption r (new ≡ []) (λ _. Unit {0}) → script.outer_blocks (blocks_of lines (new ++ option_to_list r)) ≡ blocks_of lines new
others_push lines new None none = rw none refl
others_push lines new (Some b) none = ap script.outer_blocks (blocks_push lines new b)

pub closed_state : (lines : List Stmt) (m : LocalState) (new : List Block) (r : Option Block) → m.blocks ≡ new ++ option_to_list r → MatchOption r (new ≡ []) (λ _. Unit {0}) → state_from lines (record m { blocks = new }) ≡ script.pop_block (state_from lines m)
closed_state lines m new r is none =
    let t = state_from lines m in
    ap (λ (inner : List script.Block). record t { blocks = inner }) (sym (ap (λ bs. script.outer_blocks (blocks_of lines bs)) is ∙ others_push lines new r none))

-- the last element, with those before it
abbrev EndsIn : {X : Type 0} → List X → Option X → Type 0
EndsIn xs r = MatchOption r ⊥ (λ z. (front : List _) × (xs ≡ front ++ z ∷ []))

longer : {X : Type 0} (x : X) (ys : List X) (r : Option X) → EndsIn ys r → EndsIn (x ∷ ys) r
longer x ys None h = h
longer x ys (Some z) h = (x ∷ h.0, ap (λ zs. x ∷ zs) h.1)

last_at : {X : Type 0} (x : X) (xs : List X) → EndsIn (x ∷ xs) (slice_get (x ∷ xs) (length xs))
last_at x [] = ([], refl)
last_at x (y ∷ ys) = longer x (y ∷ ys) (slice_get (y ∷ ys) (length ys)) (last_at y ys)

some_last : {X : Type 0} (xs : List X) (r : Option X) → EndsIn xs r → MatchOption r (xs ≡ []) (λ z. (front : List X) × (xs ≡ front ++ z ∷ []))
some_last xs None h = absurd h
some_last xs (Some z) h = h

nothing_last : {X : Type 0} (r : Option X) → r ≡ None → MatchOption r (◌≡◌ {A = List X} [] []) (λ z. (front : List X) × ◌≡◌ {A = List X} [] (front ++ z ∷ []))
nothing_last None e = refl
nothing_last (Some x) e = cc

pub last_split : {X : Type 0} (xs : List X) (r : Option X) → r ≡ slice_get xs (length xs - 1) → MatchOption r (xs ≡ []) (λ z. (front : List X) × (xs ≡ front ++ z ∷ []))
last_split [] r is = nothing_last r is
last_split (x ∷ xs) r is =
    let e : length (x ∷ xs) - 1 ≡ length xs = omega arith in
    some_last (x ∷ xs) r (subst (EndsIn (x ∷ xs)) (sym (is ∙ ap (slice_get (x ∷ xs)) e)) (last_at x xs))

-- after a pop that gave nothing, nothing is there
pub nothing_left : {X : Type 0} (old new : List X) (r : Option X) (n m : ℕ) → new ≡ take (n - 1) old → MatchOption r ((n ≡ 0) × (m ≡ 0)) (λ _. m + 1 ≡ n) → MatchOption r (new ≡ []) (λ _. Unit {0})
nothing_left old new None n m is h = let e : n - 1 ≡ 0 = omega (arith, h.0) in is ∙ ap (λ k. take k old) e
nothing_left old new (Some x) n m is h = tt

-- a test gives the flow of its condition
pub tested_is : (x : Expr) (t : script.State) (f : Bool → script.Flow) (b : Bool) (vs : List (List ℕ × Value)) → vs ≡ t.variables → and_then (eval x vs) as_condition ≡ Ok b → script.test_condition x t f ≡ f b
tested_is x t f b vs same is = ap (λ r. script.then_flow r f) (ap (λ zs. and_then (eval x zs) as_condition) (sym same) ∙ is)

-- the end of a block, by the innermost one
pub ends_none : (lines : List Stmt) (bs : List Block) (t : script.State) → bs ≡ [] → script.end_block (blocks_of lines bs) t ≡ script.Next t
ends_none lines bs t is = ap (λ (cs : List Block). script.end_block (blocks_of lines cs) t) is

pub ends_last : (lines : List Stmt) (bs front : List Block) (b : Block) (t : script.State) → bs ≡ front ++ b ∷ [] → script.end_block (blocks_of lines bs) t ≡ script.end_block (block_of lines b ∷ blocks_of lines front) t
ends_last lines bs front b t is = ap (λ inner. script.end_block inner t) (ap (blocks_of lines) is ∙ blocks_push lines front b)
