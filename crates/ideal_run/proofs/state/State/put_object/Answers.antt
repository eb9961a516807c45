use Rattle.std.proofs.Common.{◌≡◌, ◌++◌, ◌∷◌, [], ℕ, List, sym, ap, ◌∙◌, rules}
use Rattle.std.specs.BTreeMap.{is_at, insert_entry}
use Rattle.lb_base.specs.declared.value.Value.{Value}
use Rattle.boki_model.specs.Maps.{key_order}
use Rattle.ideal_run.specs.declared.kept.Change.{Change}
use Rattle.ideal_run.specs.declared.kept.Change.TheVariants as change
use Rattle.ideal_run.specs.Kept.{Maps, maps_of}
use Rattle.ideal_run.specs.Changes.{restored}
use Rattle.ideal_run.proofs.Entries.{put_is, restored_back}
use Rattle.ideal_run.proofs.Undoing.{noted}
use Rattle.ideal_run.proofs.state.State.put_object.Goals as goal

pub returns-clause-ok : goal.returns-clause-ok
returns-clause-ok c =
    let m : Maps = maps_of c.args.self.now in
    let same_key : c.in_ok-clone.field-0 ≡ c.args.key.now = search rules in
    let same : c.in_ok-value.value ≡ c.args.value.now = search rules in
    ap (λ (es : List (List ℕ × Value)). let n : Maps = record m { objects = es } in n)
    (put_is c.args.key.now c.args.value.now c.args.self.now.objects.entries _
    (c.in_ok-old.ensures.entries ∙ ap (λ (k : List ℕ). insert_entry key_order c.args.self.now.objects.entries k c.in_ok-value.value) same_key ∙ ap (insert_entry key_order c.args.self.now.objects.entries c.args.key.now) same))

pub returns-clause-undo : goal.returns-clause-undo
returns-clause-undo c =
    let m : Maps = maps_of c.args.self.now in
    let x : Change = change.Object c.in_ok-noted.noted c.in_ok-old.old in
    let same_key : c.in_ok-clone.field-0 ≡ c.args.key.now = search rules in
    let same_noted : c.in_ok-noted.noted ≡ c.args.key.now = search rules in
    noted _ _ x m (record m { objects = c.insert.new.self.entries })
    (c.push_reserved.ensures.items ∙ ap (λ (l : List Change). l ++ x ∷ []) c.reserve.ensures.items)
    (ap (λ (es : List (List ℕ × Value)). let n : Maps = record m { objects = es } in n)
    (ap (λ (k : List ℕ). restored (is_at (key_order k)) c.in_ok-old.old c.insert.new.self.entries) (same_noted ∙ sym same_key)
    ∙ restored_back c.in_ok-clone.field-0 c.in_ok-value.value c.args.self.now.objects.entries c.insert.new.self.entries c.in_ok-old.old c.in_ok-old.ensures.old c.in_ok-old.ensures.entries c.in_ok-old.ensures.keys_stay))
