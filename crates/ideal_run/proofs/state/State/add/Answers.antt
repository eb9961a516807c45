use Rattle.std.proofs.Common.{◌++◌, ◌∷◌, [], ℕ, List, ap, ◌∙◌}
use Rattle.ideal_run.specs.declared.kept.Change.{Change}
use Rattle.ideal_run.specs.declared.kept.Change.TheVariants as change
use Rattle.ideal_run.specs.declared.kept.KnownInvocation.{KnownInvocation}
use Rattle.ideal_run.specs.Kept.{Maps, maps_of}
use Rattle.ideal_run.proofs.Entries.{put_is, restored_back}
use Rattle.ideal_run.proofs.Undoing.{noted}
use Rattle.ideal_run.proofs.state.State.add.Goals as goal

pub returns-clause-ok : goal.returns-clause-ok
returns-clause-ok c =
    let m : Maps = maps_of c.args.self.now in
    ap (λ (es : List (List ℕ × KnownInvocation)). let n : Maps = record m { invocations = es } in n) (put_is c.args.path c.args.known c.args.self.now.invocations.entries _ c.in_ok-old.ensures.entries)

pub returns-clause-undo : goal.returns-clause-undo
returns-clause-undo c =
    let m : Maps = maps_of c.args.self.now in
    let x : Change = change.Child c.args.path c.in_ok-old.old in
    noted _ _ x m (record m { invocations = c.insert.new.self.entries })
    (c.push_reserved.ensures.items ∙ ap (λ (l : List Change). l ++ x ∷ []) c.reserve.ensures.items)
    (ap (λ (es : List (List ℕ × KnownInvocation)). let n : Maps = record m { invocations = es } in n)
    (restored_back c.args.path c.args.known c.args.self.now.invocations.entries c.insert.new.self.entries c.in_ok-old.old c.in_ok-old.ensures.old c.in_ok-old.ensures.entries c.in_ok-old.ensures.keys_stay))
