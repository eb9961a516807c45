use Rattle.std.proofs.Common.{◌≡◌, ◌++◌, take, drop}
use Rattle.std.specs.Prelude.{map}
use Rattle.nemesis_types.specs.Kept.{numbered_nemesis, after_reseeding}
use Rattle.nemesis.proofs.keeping.reseed_all.Given as goal

abbrev pub invariant-loop-one : goal.invariant-loop-one
invariant-loop-one g l =
    map (λ b. numbered_nemesis b.0 ((goal.Nemesis-dyn g (b.1.vtable, b.1.value)).automaton b.1.value)) l.one-items
    ≡ map (after_reseeding l.n) (take l.one-index (map (λ b. numbered_nemesis b.0 ((goal.Nemesis-dyn g (b.1.vtable, b.1.value)).automaton b.1.value)) l.fn.kept.items))
    ++ drop l.one-index (map (λ b. numbered_nemesis b.0 ((goal.Nemesis-dyn g (b.1.vtable, b.1.value)).automaton b.1.value)) l.fn.kept.items)
