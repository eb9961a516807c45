use Rattle.std.proofs.Common.{◌≡◌, ℕ, List, true, take}
use Rattle.boki_model.specs.Maps.{has}
use Rattle.obj_store.specs.Kept.{has_key}
use Rattle.obj_store.specs.Steps.{AddsEmptyObjects}
use Rattle.obj_store.proofs.objects.ensure_all.Given as goal

abbrev pub invariant-loop-key : goal.invariant-loop-key
invariant-loop-key l = record {
  same : AddsEmptyObjects l.initial.objects.entries l.objects.entries;
  there : (k : List ℕ) → has k (take l.key-index l.keys) ≡ true → has_key k l.objects.entries ≡ true;
}
