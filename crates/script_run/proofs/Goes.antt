-- How a script goes on: over lines that are skipped, and from a line that is done.
use Rattle.std.proofs.Common.{◌≡◌, ◌<◌, ◌≤◌, ◌∙◌, ap, sym, refl, ℕ, zero, suc, ◌+◌, ◌-◌, List, [], ◌∷◌, length, get_or, slice_get, drop, Option, Some, None, arith}
use Rattle.std.proofs.Math.ListN.{drop_of_length-le}
use Rattle.std.proofs.lemmas.Option.{get_or_from_slice_get}
use Rattle.lb_base.specs.declared.value.Value.TheVariants.{Nothing}
use Rattle.lb_base.specs.declared.value.Outcome.TheVariants.{Good, Trap}
use Rattle.lb_base.specs.declared.value.TrapKind.TheVariants.{Loop}
use Rattle.boki_types.specs.declared.program.Stmt.{Stmt}
use Rattle.boki_types.specs.declared.program.Function.{Function}
use Rattle.boki_model.specs.Script as script
use Rattle.script_run.proofs.Lookups.{drop_at}

module _ (fs : List Function) (depth : ℕ) (enter : List Stmt → script.State → script.StopPoint) where
  over : (n : ℕ) (l : Stmt) (ls : List Stmt) (t : script.State) → script.skip_line n l ≡ script.BlockEnds → script.execute_from fs depth enter (Some n) (l ∷ ls) t ≡ script.execute_from fs depth enter None ls t
  over n l ls t is = rw (is, script.execute_from) refl

  other : (n : ℕ) (l : Stmt) (ls : List Stmt) (t : script.State) → script.skip_line n l ≡ script.ElseBegins → script.execute_from fs depth enter (Some n) (l ∷ ls) t ≡ script.execute_from fs depth enter None ls (script.push_block script.Branch t)
  other n l ls t is = rw (is, script.execute_from) refl

  pub passes_over : (lines : List Stmt) (at n : ℕ) (line : Stmt) (t : script.State) → at < length lines → line ≡ get_or lines at line → script.skip_line n line ≡ script.BlockEnds → script.execute_from fs depth enter (Some n) (drop at lines) t ≡ script.execute_from fs depth enter None (drop (at + 1) lines) t
  passes_over lines at n line t within is passed = ap (λ ls. script.execute_from fs depth enter (Some n) ls t) (drop_at lines at line within is) ∙ over n line (drop (at + 1) lines) t passed

  pub passes_other : (lines : List Stmt) (at n : ℕ) (line : Stmt) (t : script.State) → at < length lines → line ≡ get_or lines at line → script.skip_line n line ≡ script.ElseBegins → script.execute_from fs depth enter (Some n) (drop at lines) t ≡ script.execute_from fs depth enter None (drop (at + 1) lines) (script.push_block script.Branch t)
  passes_other lines at n line t within is passed = ap (λ ls. script.execute_from fs depth enter (Some n) ls t) (drop_at lines at line within is) ∙ other n line (drop (at + 1) lines) t passed

  -- behind the last line the script is over, whether lines are skipped or not
  pub at_end : (skipping : Option ℕ) (lines : List Stmt) (at : ℕ) (t : script.State) → length lines ≤ at → script.execute_from fs depth enter skipping (drop at lines) t ≡ script.AtEnd (Good Nothing)
  at_end skipping lines at t over_all = ap (λ ls. script.execute_from fs depth enter skipping ls t) (drop_of_length-le lines over_all)

  next : (l : Stmt) (ls : List Stmt) (t u : script.State) → script.execute fs depth l ls t ≡ script.Next u → script.execute_from fs depth enter None (l ∷ ls) t ≡ script.execute_from fs depth enter None ls u
  next l ls t u is = rw (is, script.execute_from) refl

  skip : (l : Stmt) (ls : List Stmt) (t u : script.State) → script.execute fs depth l ls t ≡ script.Skip u → script.execute_from fs depth enter None (l ∷ ls) t ≡ script.execute_from fs depth enter (Some 0) ls u
  skip l ls t u is = rw (is, script.execute_from) refl

  entry : (l : Stmt) (ls body : List Stmt) (t u : script.State) → script.execute fs depth l ls t ≡ script.Enter body u → script.execute_from fs depth enter None (l ∷ ls) t ≡ enter body u
  entry l ls body t u is = rw (is, script.execute_from) refl

  stop : (l : Stmt) (ls : List Stmt) (t : script.State) (standing : script.StopPoint) → script.execute fs depth l ls t ≡ script.Stop standing → script.execute_from fs depth enter None (l ∷ ls) t ≡ standing
  stop l ls t standing is = rw (is, script.execute_from) refl

-- the line at a place, with the lines from there on
pub line_at : (lines : List Stmt) (at : ℕ) → at < length lines → (line : Stmt) × (slice_get lines at ≡ Some line)
line_at [] at within = absurd (omega arith)
line_at (l ∷ ls) zero within = (l, refl)
line_at (l ∷ ls) (suc at) within = line_at ls at (omega arith)

pub from_line : (lines : List Stmt) (at : ℕ) (line : Stmt) → at < length lines → slice_get lines at ≡ Some line → drop at lines ≡ line ∷ drop (at + 1) lines
from_line lines at line within is = drop_at lines at line within (sym (get_or_from_slice_get lines at line line is))

module _ (fs : List Function) (depth : ℕ) (enter : List Stmt → script.State → script.StopPoint) (lines : List Stmt) (at : ℕ) (within : at < length lines) (t : script.State) where
  begins : (flow : script.Flow) → ((line : Stmt) → slice_get lines at ≡ Some line → script.execute fs depth line (drop (at + 1) lines) t ≡ flow) → (line : Stmt) × (script.execute_from fs depth enter None (drop at lines) t ≡ script.execute_from fs depth enter None (line ∷ drop (at + 1) lines) t) × (script.execute fs depth line (drop (at + 1) lines) t ≡ flow)
  begins flow does =
      let l = line_at lines at within in
      (l.0, ap (λ ls. script.execute_from fs depth enter None ls t) (from_line lines at l.0 within l.1), does l.0 l.1)

  pub goes_next : (u : script.State) → ((line : Stmt) → slice_get lines at ≡ Some line → script.execute fs depth line (drop (at + 1) lines) t ≡ script.Next u) → script.execute_from fs depth enter None (drop at lines) t ≡ script.execute_from fs depth enter None (drop (at + 1) lines) u
  goes_next u does = let b = begins (script.Next u) does in b.1 ∙ next fs depth enter b.0 (drop (at + 1) lines) t u b.2

  pub goes_skip : (u : script.State) → ((line : Stmt) → slice_get lines at ≡ Some line → script.execute fs depth line (drop (at + 1) lines) t ≡ script.Skip u) → script.execute_from fs depth enter None (drop at lines) t ≡ script.execute_from fs depth enter (Some 0) (drop (at + 1) lines) u
  goes_skip u does = let b = begins (script.Skip u) does in b.1 ∙ skip fs depth enter b.0 (drop (at + 1) lines) t u b.2

  pub goes_enter : (body : List Stmt) (u : script.State) → ((line : Stmt) → slice_get lines at ≡ Some line → script.execute fs depth line (drop (at + 1) lines) t ≡ script.Enter body u) → script.execute_from fs depth enter None (drop at lines) t ≡ enter body u
  goes_enter body u does = let b = begins (script.Enter body u) does in b.1 ∙ entry fs depth enter b.0 (drop (at + 1) lines) body t u b.2

  pub goes_stop : (standing : script.StopPoint) → ((line : Stmt) → slice_get lines at ≡ Some line → script.execute fs depth line (drop (at + 1) lines) t ≡ script.Stop standing) → script.execute_from fs depth enter None (drop at lines) t ≡ standing
  goes_stop standing does = let b = begins (script.Stop standing) does in b.1 ∙ stop fs depth enter b.0 (drop (at + 1) lines) t standing b.2

-- an entry that is left, and none that is
pub enters_body : (fs : List Function) (depth n : ℕ) (body : List Stmt) (t : script.State) → 0 < n → script.enter_body fs depth n body t ≡ script.execute_from fs depth (script.enter_body fs depth (n - 1)) None body t
enters_body fs depth zero body t left = absurd (omega arith)
enters_body fs depth (suc n) body t left = let e : n ≡ suc n - 1 = omega arith in ap (λ m. script.execute_from fs depth (script.enter_body fs depth m) None body t) e

pub enters_none : (fs : List Function) (depth n : ℕ) (body : List Stmt) (t : script.State) → n ≡ 0 → script.enter_body fs depth n body t ≡ script.AtEnd (Trap Loop)
enters_none fs depth n body t none = ap (λ m. script.enter_body fs depth m body t) none
