use Rattle.std.proofs.Common.{◌≡◌, drop}
use Rattle.lb_base.specs.Path.{path_of}
use Rattle.lb_base.proofs.PathLemmas.{grown}
use Rattle.lb_base.proofs.path.Path.from_parts.Given as goal

abbrev pub invariant-ordinals : goal.invariant-ordinals
invariant-ordinals l = grown l.path (drop l.n-index l.rest) ≡ path_of l.fn.numbers
