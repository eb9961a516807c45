use Rattle.std.proofs.Common.{◌≡◌, ℕ, List, true, take}
use Rattle.obj_store.specs.Kept.{has_key}
use Rattle.obj_store.specs.Steps.{AddsEmptyObjects, has_swept_write}
use Rattle.obj_store.proofs.objects.ensure_swept.Given as goal

abbrev pub invariant-loop-write : goal.invariant-loop-write
invariant-loop-write l = record {
  same : AddsEmptyObjects l.initial.objects.entries l.objects.entries;
  there : (k : List ℕ) → has_swept_write k (take l.write-index l.passed) ≡ true → has_key k l.objects.entries ≡ true;
}
