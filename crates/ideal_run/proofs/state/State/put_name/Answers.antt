use Rattle.std.proofs.Common.{◌≡◌, ◌++◌, ◌∷◌, [], ℕ, List, sym, ap, ◌∙◌, rules}
use Rattle.std.specs.BTreeMap.{is_at, insert_entry}
use Rattle.lb_base.specs.declared.value.Value.{Value}
use Rattle.boki_model.specs.Maps.{key_order}
use Rattle.ideal_run.specs.declared.kept.Change.{Change}
use Rattle.ideal_run.specs.declared.kept.Change.TheVariants as change
use Rattle.ideal_run.specs.declared.kept.Stored.{Stored}
use Rattle.ideal_run.specs.Kept.{Maps, maps_of}
use Rattle.ideal_run.specs.Changes.{restored}
use Rattle.ideal_run.proofs.Entries.{put_is, restored_back}
use Rattle.ideal_run.proofs.Undoing.{noted}
use Rattle.ideal_run.proofs.state.State.put_name.Goals as goal

pub returns-clause-ok : goal.returns-clause-ok
returns-clause-ok c =
    let m : Maps = maps_of c.args.self.now in
    let same_key : c.in_ok-clone.field-0 ≡ c.args.name.now = search rules in
    let same : c.in_ok-value.value ≡ c.args.value.now = search rules in
    ap (λ (es : List (List ℕ × Stored)). let n : Maps = record m { names = es } in n)
    (put_is c.args.name.now (record { value = c.args.value.now; commit = c.args.commit }) c.args.self.now.names.entries _
    (c.in_ok-old.ensures.entries ∙ ap (λ (k : List ℕ). insert_entry key_order c.args.self.now.names.entries k (record { value = c.in_ok-value.value; commit = c.args.commit })) same_key
    ∙ ap (λ (v : Value). insert_entry key_order c.args.self.now.names.entries c.args.name.now (record { value = v; commit = c.args.commit })) same))

pub returns-clause-undo : goal.returns-clause-undo
returns-clause-undo c =
    let m : Maps = maps_of c.args.self.now in
    let x : Change = change.Name c.in_ok-noted.noted c.in_ok-old.old in
    let same_key : c.in_ok-clone.field-0 ≡ c.args.name.now = search rules in
    let same_noted : c.in_ok-noted.noted ≡ c.args.name.now = search rules in
    noted _ _ x m (record m { names = c.insert.new.self.entries })
    (c.push_reserved.ensures.items ∙ ap (λ (l : List Change). l ++ x ∷ []) c.reserve.ensures.items)
    (ap (λ (es : List (List ℕ × Stored)). let n : Maps = record m { names = es } in n)
    (ap (λ (k : List ℕ). restored (is_at (key_order k)) c.in_ok-old.old c.insert.new.self.entries) (same_noted ∙ sym same_key)
    ∙ restored_back c.in_ok-clone.field-0 _ c.args.self.now.names.entries c.insert.new.self.entries c.in_ok-old.old c.in_ok-old.ensures.old c.in_ok-old.ensures.entries c.in_ok-old.ensures.keys_stay))
