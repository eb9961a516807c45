use Rattle.std.proofs.Common.{sym, ap, ◌∙◌}
use Rattle.std.specs.Option.{option_copied_mut}
use Rattle.cluster_report.proofs.Entries.{popped_is, first_popped}
use Rattle.cluster_report.proofs.folds.pop.Goals as goal

pub returns-in-Some : goal.returns-in-Some
returns-in-Some c =
    let found = sym c.get_mut.ensures.value ∙ ap option_copied_mut c.in-Some.is in
    popped_is c.args.name c.args.queues.now.entries c.in-Some.queue.now found c.get_mut.ensures.ordered c.pop.new.self _ c.pop.ensures (c.get_mut.follows.holds _).0

pub returns : goal.returns
returns c =
    let none = sym c.get_mut.ensures.value ∙ ap option_copied_mut c.in_default.is in
    first_popped c.args.name c.args.queues.now.entries none c.new.result _ _ c.new.ensures (ap (λ m. m.entries) c.get_mut.follows.holds-at-none) c.in_ok-insert.ensures.entries
