use Rattle.std.proofs.Common.{◌≡◌, drop}
use Rattle.boki_model.specs.Plans.{distinct}
use Rattle.script_lang.proofs.names.are_distinct.Given as goal

abbrev pub invariant-names : goal.invariant-names
invariant-names l = distinct (drop l.i l.names) ≡ distinct l.names
