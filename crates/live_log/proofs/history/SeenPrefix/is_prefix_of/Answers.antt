use Rattle.std.proofs.Common.{◌≤◌, ◌<◌, ap, subst, arith, length, List}
use Rattle.std.proofs.lemmas.Bool.Decides.{nat_tests}
use mathlib.Core.List.{IsPrefix}
use Rattle.live_log.specs.Appended.{Appended}
use Rattle.live_log.proofs.Lists.{prefix_shorter}
use Rattle.live_log.proofs.history.SeenPrefix.is_prefix_of.Goals as goal

pub returns-clause-begins : goal.returns-clause-begins
returns-clause-begins c is =
    let both = c.learn.new.self.log in
    let this : IsPrefix c.self.inside.seen.log both = subst (λ (l : List Appended). IsPrefix l both) (ap (λ s. s.log) c.again-both.ensures) c.learn.ensures.2 in
    let at_most : c.self.inside.count ≤ c.other.inside.count = grind (arith, nat_tests, is) in
    let less : length c.self.inside.seen.log ≤ length c.other.inside.seen.log = omega (arith, c.self.invariant, c.other.invariant) in
    rw (← c.self.view_is, ← c.other.view_is) (prefix_shorter c.self.inside.seen.log c.other.inside.seen.log both this c.learn.ensures.3 less)

pub returns-clause-begun : goal.returns-clause-begun
returns-clause-begun c is =
    let both = c.learn.new.self.log in
    let this : IsPrefix c.self.inside.seen.log both = subst (λ (l : List Appended). IsPrefix l both) (ap (λ s. s.log) c.again-both.ensures) c.learn.ensures.2 in
    let more : c.other.inside.count < c.self.inside.count = grind (arith, nat_tests, is) in
    let less : length c.other.inside.seen.log < length c.self.inside.seen.log = omega (arith, c.self.invariant, c.other.invariant) in
    rw (← c.self.view_is, ← c.other.view_is) (prefix_shorter c.other.inside.seen.log c.self.inside.seen.log both c.learn.ensures.3 this (omega (arith, less)), less)
