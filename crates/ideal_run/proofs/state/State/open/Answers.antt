use Rattle.std.proofs.Common.{◌≡◌, ◌++◌, ◌∷◌, [], ℕ, List, ap, ◌∙◌, rules}
use Rattle.std.specs.Map.{remove_entry}
use Rattle.std.specs.BTreeMap.{is_at}
use Rattle.boki_model.specs.Maps.{key_order}
use Rattle.ideal_run.specs.declared.kept.Change.{Change}
use Rattle.ideal_run.specs.declared.kept.Change.TheVariants as change
use Rattle.ideal_run.specs.declared.kept.Queue.{Queue}
use Rattle.ideal_run.specs.Kept.{Maps, maps_of}
use Rattle.ideal_run.proofs.Entries.{put_is, opened_back}
use Rattle.ideal_run.proofs.Undoing.{noted}
use Rattle.ideal_run.proofs.state.State.open.Goals as goal

pub returns-clause-ok : goal.returns-clause-ok
returns-clause-ok c =
    let m : Maps = maps_of c.args.self.now in
    let queue : Queue = record { values = c.args.values; front = 0 } in
    ap (λ (es : List (List ℕ × Queue)). let n : Maps = record m { queues = es } in n) (put_is c.args.name queue c.args.self.now.queues.entries _ c.in_ok-insert.ensures.entries)

pub returns-clause-undo : goal.returns-clause-undo
returns-clause-undo c =
    let m : Maps = maps_of c.args.self.now in
    let x : Change = change.Opened c.in_ok-noted.noted in
    let queue : Queue = record { values = c.args.values; front = 0 } in
    let same_noted : c.in_ok-noted.noted ≡ c.args.name = search rules in
    noted _ _ x m (record m { queues = c.insert.new.self.entries })
    (c.push_reserved.ensures.items ∙ ap (λ (l : List Change). l ++ x ∷ []) c.reserve.ensures.items)
    (ap (λ (es : List (List ℕ × Queue)). let n : Maps = record m { queues = es } in n)
    (ap (λ (k : List ℕ). remove_entry (is_at (key_order k)) c.insert.new.self.entries) same_noted
    ∙ opened_back c.args.name queue c.args.self.now.queues.entries c.insert.new.self.entries c.requires c.in_ok-insert.ensures.entries))
