-- A value may be stored under its name, in any state that the invariant holds of.
use Rattle.std.specs.Prelude.{◌≡◌, ◌∷◌, length, None, List}
use Rattle.boki_types.specs.declared.plan.Setup.{Setup}
use Rattle.boki_types.specs.declared.program.Function.{Function}
use Rattle.boki_model.specs.Writes.{Store, NamedValue, value_under_name}
use Rattle.exactly_once.specs.Induction.Invariant.{World, records, IsAskedWrite, InvariantHolds}
use Rattle.exactly_once.specs.FurtherLaws.Words.{values_only}

abbrev pub with_named_value : NamedValue → Store → Store
with_named_value s store = record store { named = s ∷ store.named }

abbrev pub with_value_stored : NamedValue → World → World
with_value_stored s w = record w { store = with_named_value s w.store }

-- a new name, whose value its invocation asks to write
abbrev pub StoringKeepsInvariant : Type 0
StoringKeepsInvariant =
    (setup : Setup) (fs : List Function) (w : World) (s : NamedValue) → InvariantHolds setup fs w → value_under_name s.name w.store.named ≡ None
    → IsAskedWrite setup fs (values_only w.store) w.store.fences (length w.log) (records w) s → InvariantHolds setup fs (with_value_stored s w)
