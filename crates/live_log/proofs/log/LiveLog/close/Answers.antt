use Rattle.std.proofs.Common.{rules, ◌≡◌, ◌≤◌, List, All, length, refl, subst}
use Rattle.live_log.specs.Appended.{Appended}
use Rattle.live_log.specs.Engines.{Engine}
use Rattle.live_log.specs.Closing.{IsCaughtUp, Pointwise, EachHasSeen, EachCounted}
use Rattle.live_log.proofs.ClosedList.{likes, wholes, settles}
use Rattle.live_log.proofs.log.LiveLog.close.Goals as goal

pub returns-in-None-clause-list : goal.returns-in-None-clause-list
returns-in-None-clause-list g c =
    let es : List Engine = c.args.engines.items in
    let fs : List Engine = c.catch_up_all.new.engines.items in
    let list : List Appended = c.take-list.result.0 in
    let sequencer : c.into_inner-sequencer.result ≡ list = search rules in
    let slice : c.as_slice.result.now ≡ list = search rules in
    let caught : Pointwise (IsCaughtUp list) es fs = subst (λ (l : List Appended). Pointwise (IsCaughtUp l) es fs) sequencer (c.in-Ok.ensures.caught refl) in
    let same : c.audit_all.new.engines.items ≡ fs = c.audit_all.ensures.same in
    let seen : All (λ (f : Engine). f.position ≤ length list) c.audit_all.new.engines.items = search rules in
    let few : All (λ (f : Engine). f.position ≤ length list) fs = subst (λ (l : List Engine). All (λ (f : Engine). f.position ≤ length list) l) same seen in
    let like : EachHasSeen list fs = likes list es fs caught few in
    let counted : EachCounted list fs = subst (λ (l : List Appended). EachCounted l fs) slice c.audit_all.ensures.counted in
    wholes list es fs c.in-Ok.ensures.later like (settles list fs c.audit_all.ensures.sound like counted)
