-- What answers set: the variables of the line that asked, and nothing else of the state but what the operation is about.
use Rattle.std.proofs.Common.{◌≡◌, ◌⊎◌, inl, inr, ◌∙◌, ap, sym, refl, ℕ, List, [], ◌∷◌, length, Bool, cond, Option, Some, None, option_and_then, Ok}
use Rattle.std.proofs.lemmas.Bool.Decides.{Decides-eqb}
use Rattle.lb_base.specs.declared.value.Value.{Value}
use Rattle.boki_types.specs.declared.expr.Expr.{Expr}
use Rattle.boki_types.specs.declared.program.Stmt.{Stmt}
use Rattle.boki_types.specs.declared.program.Stmt.TheVariants as s
use Rattle.boki_types.specs.declared.operation.Op.{Op}
use Rattle.boki_types.specs.declared.operation.Op.TheVariants as o
use Rattle.boki_types.specs.declared.operation.Answer.TheVariants as a
use Rattle.boki_model.specs.Script as script
use Rattle.script_run.specs.Standing.{target_of}
use Rattle.script_run.specs.Answering.{IsOfKind, put_each, pairs_of, put_pairs}

abbrev pub Entries : Type 0
Entries = List (List ℕ × Value)

put_none : (xs : List (List ℕ)) (es : Entries) → put_each xs [] es ≡ es
put_none [] es = refl
put_none (x ∷ xs) es = refl

-- where names or values have run out, nothing is set any more
pub run_out : (xs : List (List ℕ)) (vs : List Value) (es whole : Entries) → (xs ≡ []) ⊎ (vs ≡ []) → put_each xs vs es ≡ whole → es ≡ whole
run_out xs vs es whole (inl e) is = sym (ap (λ ys. put_each ys vs es) e) ∙ is
run_out xs vs es whole (inr e) is = sym (ap (λ ws. put_each xs ws es) e ∙ put_none xs es) ∙ is

pub first_names : (ps : List (List ℕ × Expr)) (vs : List Value) → (ps ≡ []) ⊎ (vs ≡ []) → (script.pair_names ps ≡ []) ⊎ (vs ≡ [])
first_names ps vs (inl e) = inl (ap script.pair_names e)
first_names ps vs (inr e) = inr e

pub set_each_is : (xs : List (List ℕ)) (vs : List Value) (t : script.State) → script.set_variables xs vs t ≡ record t { variables = put_each xs vs t.variables }
set_each_is [] vs t = refl
set_each_is (x ∷ xs) [] t = refl
set_each_is (x ∷ xs) (v ∷ vs) t = set_each_is xs vs (script.set_variable x v t)

pub set_targets_is : (line : Option Stmt) (vs : List Value) (t : script.State) → script.set_targets (target_of line) vs t ≡ record t { variables = put_pairs (option_and_then pairs_of line) vs t.variables }
set_targets_is None vs t = refl
set_targets_is (Some (s.Let x e)) vs t = refl
set_targets_is (Some (s.Read x e)) vs t = refl
set_targets_is (Some (s.Write e f)) vs t = refl
set_targets_is (Some (s.Spawn x f es)) vs t = refl
set_targets_is (Some (s.Join x e)) vs t = refl
set_targets_is (Some (s.Push e f)) vs t = refl
set_targets_is (Some (s.Pop x e)) vs t = refl
set_targets_is (Some (s.Begin pairs)) vs t = set_each_is (script.pair_names pairs) vs t
set_targets_is (Some (s.Commit x pairs)) vs t = refl
set_targets_is (Some (s.If e)) vs t = refl
set_targets_is (Some s.Else) vs t = refl
set_targets_is (Some (s.While e)) vs t = refl
set_targets_is (Some s.End) vs t = refl
set_targets_is (Some (s.Return e)) vs t = refl
set_targets_is (Some (s.ReadAll pairs)) vs t = set_each_is (script.pair_names pairs) vs t

pub answered_begin : (names : List (List ℕ)) (target : script.Target) (vs : List Value) (t : script.State) → length vs ≡ length names → script.apply_answer (o.Begin names) target (a.Values vs) t ≡ Some (Ok (record (script.set_targets target vs t) { transaction = Some names }))
answered_begin names target vs t long = ap (λ (b : Bool). cond b (Some (Ok (record (script.set_targets target vs t) { transaction = Some names }))) None) ((Decides-eqb (length vs) (length names)).1 long)

pub answered_group : (op : Op) (target : script.Target) (vs : List Value) (t : script.State) → IsOfKind op (a.Values vs) → ((names : List (List ℕ)) → op ≡ o.Begin names → ⊥) → script.apply_answer op target (a.Values vs) t ≡ Some (Ok (script.set_targets target vs t))
answered_group (o.Read key) target vs t kind no_begin = absurd kind
answered_group (o.Write key value) target vs t kind no_begin = absurd kind
answered_group (o.Spawn n f args) target vs t kind no_begin = absurd kind
answered_group (o.Join n) target vs t kind no_begin = absurd kind
answered_group (o.Push queue value) target vs t kind no_begin = absurd kind
answered_group (o.Pop queue) target vs t kind no_begin = absurd kind
answered_group (o.Begin names) target vs t kind no_begin = absurd (no_begin names refl)
answered_group (o.Commit names writes) target vs t kind no_begin = absurd kind
answered_group (o.ReadGroup keys) target vs t kind no_begin = ap (λ (b : Bool). cond b (Some (Ok (script.set_targets target vs t))) None) ((Decides-eqb (length vs) (length keys)).1 kind)
