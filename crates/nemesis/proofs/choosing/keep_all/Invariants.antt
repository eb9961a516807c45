use Rattle.std.proofs.Common.{◌≡◌, ◌++◌, ◌+◌, true, length}
use Rattle.std.specs.Prelude.{map}
use Rattle.nemesis_types.specs.Kept.{numbered_nemesis, kept_from, all_kept}
use Rattle.nemesis.proofs.choosing.keep_all.Given as goal

abbrev pub invariant-handed : goal.invariant-handed
invariant-handed g l =
    (l.number + length l.one-iterator.rest.items ≡ 1 + length l.fn.handed.items)
    × (map (λ b. numbered_nemesis b.0 ((goal.Nemesis-dyn g (b.1.vtable, b.1.value)).automaton b.1.value)) l.kept.items
    ++ kept_from (λ n. true) l.number (map (λ b. (goal.Nemesis-dyn g (b.vtable, b.value)).automaton b.value) l.one-iterator.rest.items)
    ≡ all_kept (map (λ b. (goal.Nemesis-dyn g (b.vtable, b.value)).automaton b.value) l.fn.handed.items))
