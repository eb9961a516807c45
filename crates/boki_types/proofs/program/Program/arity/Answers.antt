use Rattle.std.proofs.Common.{◌≡◌, ◌∙◌, ◌<◌, ap, sym, length, arith}
use Rattle.boki_types.specs.declared.program.Function.{Function}
use Rattle.boki_types.specs.Finding.{arity as arity_of}
use Rattle.boki_types.proofs.FindingLemmas.{arity_at}
use Rattle.boki_types.proofs.program.Program.arity.Goals as goal

counted : (c : goal.After-len) → c.len.result ≡ arity_of c.args.function c.args.self.now.functions
counted c =
    let is = rw c.as_slice.ensures at c.index-as_slice-function.is in
    let here = ap (λ (f : Function). length f.params) (sym c.index-as_slice-function.is) in
    c.len.ensures ∙ here ∙ arity_at c.args.self.now.functions c.args.function c.index-as_slice-function.result c.requires.known is

pub overflow_cast-result : goal.overflow_cast-result
overflow_cast-result c = omega (arith, counted c, c.requires.few)

pub returns : goal.returns
returns c = counted c
