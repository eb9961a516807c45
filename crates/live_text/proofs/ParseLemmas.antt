-- The limit of bytes.
use Rattle.std.proofs.Common.{◌≡◌, ℕ, ◌<◌, ◌≤◌, List, length, Err, refl, arith}
use Rattle.std.proofs.lemmas.Bool.Decides.{nat_tests}
use Rattle.boki_types.specs.declared.kind.Kind.TheVariants as kind
use Rattle.line_text.specs.declared.fault.TextFault.{TextFault}
use Rattle.line_text.specs.Faults.{refused_at}
use Rattle.live_text.specs.Reading.{text_of_scan, text_of_lines, live_text_of}

pub text_short : (text : List ℕ) → length text ≤ 1048576 → live_text_of text ≡ text_of_lines text
text_short text h = grind (arith, nat_tests)

pub text_long : (text : List ℕ) → 1048576 < length text → live_text_of text ≡ Err (refused_at 0 kind.Length)
text_long text h = grind (arith, nat_tests)

pub text_fault : (f : TextFault) → text_of_scan (Err f) ≡ Err f
text_fault f = refl
