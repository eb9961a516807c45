-- A text, line by line.
use Rattle.std.proofs.Common.{◌≡◌, ℕ, ◌+◌, ◌<◌, ◌≤◌, List, [], ◌∷◌, length, Err, refl, ◌∙◌, arith}
use Rattle.std.proofs.lemmas.Bool.Decides.{nat_tests}
use Rattle.boki_types.specs.declared.kind.Kind.TheVariants as kind
use Rattle.line_text.specs.declared.fault.TextFault.{TextFault}
use Rattle.line_text.specs.Faults.{refused_at}
use Rattle.plan_lang.specs.Texts.{plan_of_scan, plan_of_lines, plan_of}
use Rattle.plan_lang.specs.Turns.{turns_of_scan, turns_of_lines, turns_of}

-- the limit of bytes
pub plan_short : (text : List ℕ) → length text ≤ 1048576 → plan_of text ≡ plan_of_lines text
plan_short text h = grind (arith, nat_tests)

pub plan_long : (text : List ℕ) → 1048576 < length text → plan_of text ≡ Err (refused_at 0 kind.Length)
plan_long text h = grind (arith, nat_tests)

pub turns_short : (text : List ℕ) → length text ≤ 16777216 → turns_of text ≡ turns_of_lines text
turns_short text h = grind (arith, nat_tests)

pub turns_long : (text : List ℕ) → 16777216 < length text → turns_of text ≡ Err (refused_at 0 kind.Length)
turns_long text h = grind (arith, nat_tests)

pub plan_fault : (f : TextFault) → plan_of_scan (Err f) ≡ Err f
plan_fault f = refl

pub turns_fault : (f : TextFault) → turns_of_scan (Err f) ≡ Err f
turns_fault f = refl
