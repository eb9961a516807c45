use Rattle.std.proofs.Common.{rules, ◌≤◌, arith, length, List, ap}
use mathlib.Core.List.{IsPrefix}
use Rattle.live_log.specs.Appended.{Appended}
use Rattle.live_log.proofs.Lists.{prefix_length}
use Rattle.live_log.proofs.Adding.{adds_moves}
use Rattle.live_log.proofs.history.SeenPrefix.extended.Goals as goal

pub compare_exchange-found-requires : goal.compare_exchange-found-requires
compare_exchange-found-requires c =
    let h = c.requires.head in
    let offer = c.plain-offer.ensures in
    let pen = c.no_pen-pen.ensures in
    let appends : List Appended = c.self.inside.seen.log in
    let both : List Appended = c.learn.new.self.log in
    let begins : IsPrefix appends both = search rules in
    let le : c.self.inside.count ≤ length both = omega (arith, prefix_length appends both begins, c.self.invariant) in (
      search rules,
      search rules,
      search rules,
      offer.0,
      rw (ap (λ w. w.key) h, pen.1, offer.1, offer.3) (adds_moves both c.args.item.now c.self.inside.count le),
    )
