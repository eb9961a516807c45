use Rattle.std.proofs.Common.{◌≡◌, ◌++◌, drop}
use Rattle.std.specs.Prelude.{flat_map}
use Rattle.std.specs.String.{string_bytes}
use Rattle.plan_lang.specs.Printed.{behind_tag}
use Rattle.plan_lang.proofs.printing.behind_tags.Given as goal

abbrev pub invariant-tags : goal.invariant-tags
invariant-tags l = string_bytes l.out ++ flat_map (behind_tag) (drop l.tag-index l.tags) ≡ flat_map (behind_tag) l.tags
