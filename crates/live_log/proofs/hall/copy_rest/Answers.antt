use Rattle.std.proofs.Common.{rules, ◌≡◌, List, take, sym, subst}
use mathlib.Core.List.{IsPrefix}
use Rattle.live_log.specs.Appended.{Appended}
use Rattle.live_log.proofs.Lists.{take_begins}
use Rattle.live_log.proofs.hall.copy_rest.Goals as goal

pub returns-in_err-copy_of-clause-within : goal.returns-in_err-copy_of-clause-within
returns-in_err-copy_of-clause-within c =
    let list = c.args.list.now in
    subst (λ (l : List Appended). IsPrefix l list) (sym c.loop-at.invariant.1) (take_begins c.loop-at.at list)

pub returns-in_err-push-clause-within : goal.returns-in_err-push-clause-within
returns-in_err-push-clause-within c =
    let list = c.args.list.now in
    let e : c.push.new.self ≡ take c.loop-at.at list = search rules in
    subst (λ (l : List Appended). IsPrefix l list) (sym e) (take_begins c.loop-at.at list)
