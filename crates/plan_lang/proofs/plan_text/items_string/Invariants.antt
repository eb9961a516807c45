use Rattle.std.proofs.Common.{◌≡◌, ◌++◌, drop}
use Rattle.std.specs.Prelude.{flat_map}
use Rattle.std.specs.String.{string_bytes}
use Rattle.plan_lang.specs.Printed.{item_text}
use Rattle.plan_lang.proofs.plan_text.items_string.Given as goal

abbrev pub invariant-items : goal.invariant-items
invariant-items l = string_bytes l.out ++ flat_map (item_text l.functions) (drop l.item-index l.items) ≡ flat_map (item_text l.functions) l.items
