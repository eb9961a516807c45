use Rattle.std.proofs.Common.{sym, ap, ◌∙◌, ◌++◌, ◌∷◌, [], List}
use Rattle.std.specs.Option.{option_copied_mut}
use Rattle.lb_base.specs.declared.value.Value.{Value}
use Rattle.cluster_report.proofs.Entries.{pushed_is, first_pushed}
use Rattle.cluster_report.proofs.folds.push.Goals as goal

pub returns-in-Some : goal.returns-in-Some
returns-in-Some c =
    let found = sym c.get_mut.ensures.value ∙ ap option_copied_mut c.in-Some.is in
    pushed_is c.args.name c.args.queues.now.entries c.in-Some.queue.now found c.get_mut.ensures.ordered c.args.value c.push.new.self _ c.in_ok-push.ensures (c.get_mut.follows.holds _).0

pub returns : goal.returns
returns c =
    let none = sym c.get_mut.ensures.value ∙ ap option_copied_mut c.in_default.is in
    let one = c.in_ok-push-2.ensures ∙ ap (λ (q : List Value). q ++ c.args.value ∷ []) c.new-queue.ensures in
    first_pushed c.args.name c.args.queues.now.entries none c.args.value c.push-2.new.self _ _ one (ap (λ m. m.entries) c.get_mut.follows.holds-at-none) c.in_ok-insert.ensures.entries
