use Rattle.std.proofs.Common.{sym, ap, ◌∙◌, refl}
use Rattle.std.specs.BTreeMap.{is_at}
use Rattle.std.specs.Option.{option_copied_mut}
use Rattle.ideal_run.specs.Changes.{restored}
use Rattle.ideal_run.proofs.Entries.{changed_is, changed_none}
use Rattle.ideal_run.proofs.changes.restore.Goals as goal

pub returns-in-Some-get_mut : goal.returns-in-Some-get_mut
returns-in-Some-get_mut g c =
    (c.get_mut.follows.holds _).0
    ∙ changed_is (is_at (g.K.Ord.cmp c.args.key.now)) (λ _. c.in-Some.value) c.args.map.now.entries c.in-Some-get_mut.slot.now c.in-Some.value
    (sym c.get_mut.ensures.value ∙ ap option_copied_mut c.in-Some-get_mut.is) refl
    ∙ ap (λ o. restored (is_at (g.K.Ord.cmp c.args.key.now)) o c.args.map.now.entries) (sym c.in-Some.is)

pub returns-in_default : goal.returns-in_default
returns-in_default g c =
    ap (λ m. m.entries) c.get_mut.follows.holds-at-none
    ∙ sym (changed_none (is_at (g.K.Ord.cmp c.args.key.now)) (λ _. c.in-Some.value) c.args.map.now.entries (sym c.get_mut.ensures.value ∙ ap option_copied_mut c.in_default.is))
    ∙ ap (λ o. restored (is_at (g.K.Ord.cmp c.args.key.now)) o c.args.map.now.entries) (sym c.in-Some.is)
