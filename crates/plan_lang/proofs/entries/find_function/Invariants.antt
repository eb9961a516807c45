use Rattle.std.proofs.Common.{◌≡◌, drop}
use Rattle.boki_types.specs.Finding.{find as find_function}
use Rattle.boki_types.proofs.FindingLemmas.{behind}
use Rattle.plan_lang.proofs.entries.find_function.Given as goal

abbrev pub invariant-functions : goal.invariant-functions
invariant-functions l =
    (l.number ≡ l.function-index) × (find_function l.name l.functions ≡ behind l.number (find_function l.name (drop l.function-index l.functions)))
