use Rattle.std.proofs.Common.{◌≡◌, ◌++◌, ◌∷◌, [], ℕ, List, sym, ap, ◌∙◌, rules}
use Rattle.std.specs.BTreeMap.{is_at}
use Rattle.std.specs.Option.{option_copied_mut}
use Rattle.lb_base.specs.declared.value.Value.{Value}
use Rattle.boki_model.specs.Maps.{key_order}
use Rattle.ideal_run.specs.declared.kept.Change.{Change}
use Rattle.ideal_run.specs.declared.kept.Change.TheVariants as change
use Rattle.ideal_run.specs.declared.kept.Queue.{Queue}
use Rattle.ideal_run.specs.Kept.{Maps, maps_of}
use Rattle.ideal_run.specs.Changes.{changed_at, undone, unpushed}
use Rattle.ideal_run.proofs.Queues.{unchanged, pushed_is, pushed_back, absent}
use Rattle.ideal_run.proofs.Undoing.{noted}
use Rattle.ideal_run.proofs.state.State.push.Goals as goal

pub open-requires : goal.open-requires
open-requires c =
    let same : c.in_ok-noted.noted ≡ c.args.name.now = search rules in
    absent c.args.name.now c.in_ok-noted.noted c.args.self.now.queues.entries _ same (ap (λ m. m.entries) c.get_mut.follows.holds-at-none)
    (sym c.get_mut.ensures.value ∙ ap option_copied_mut c.in-None.is)

pub returns-in_err-push-in-Some-clause-undo : goal.returns-in_err-push-in-Some-clause-undo
returns-in_err-push-in-Some-clause-undo c =
    let m : Maps = maps_of c.args.self.now in
    let found = sym c.get_mut.ensures.value ∙ ap option_copied_mut c.in-Some.is in
    let stay : c.push.new.self ≡ c.in-Some.queue.now.values = search rules in
    let same = ap (λ (vs : List Value). let q : Queue = record { values = vs; front = c.in-Some.queue.now.front } in (c.get_mut.follows.lender q).entries) stay
    ∙ unchanged c.args.name.now c.in-Some.queue.now c.args.self.now.queues.entries found _ (c.get_mut.follows.holds c.in-Some.queue.now).0 in
    ap (λ (l : List Change). undone l (record m { queues = (c.get_mut.follows.lender (record { values = c.push.new.self; front = c.in-Some.queue.now.front })).entries })) c.reserve.ensures.items
    ∙ ap (λ (es : List (List ℕ × Queue)). undone c.args.self.now.log.items (record m { queues = es })) same

pub returns-in_ok-push-in-Some-clause-ok : goal.returns-in_ok-push-in-Some-clause-ok
returns-in_ok-push-in-Some-clause-ok c =
    let m : Maps = maps_of c.args.self.now in
    let found = sym c.get_mut.ensures.value ∙ ap option_copied_mut c.in-Some.is in
    let same : c.in_ok-value.value ≡ c.args.value.now = search rules in
    ap (λ (es : List (List ℕ × Queue)). let n : Maps = record m { queues = es } in n)
    (pushed_is c.args.name.now c.in-Some.queue.now c.args.self.now.queues.entries found c.args.value.now c.push.new.self _ c.get_mut.ensures.ordered
    (c.in_ok-push-in-Some.ensures.ok ∙ ap (λ (v : Value). c.in-Some.queue.now.values ++ v ∷ []) same) (c.get_mut.follows.holds _).0)

pub returns-in_ok-push-in-Some-clause-undo : goal.returns-in_ok-push-in-Some-clause-undo
returns-in_ok-push-in-Some-clause-undo c =
    let m : Maps = maps_of c.args.self.now in
    let found = sym c.get_mut.ensures.value ∙ ap option_copied_mut c.in-Some.is in
    let x : Change = change.Pushed c.in_ok-noted.noted in
    let same_noted : c.in_ok-noted.noted ≡ c.args.name.now = search rules in
    let w : Queue = record { values = c.push.new.self; front = c.in-Some.queue.now.front } in
    noted _ _ x m (record m { queues = (c.get_mut.follows.lender w).entries })
    (c.push_reserved.ensures.items ∙ ap (λ (l : List Change). l ++ x ∷ []) c.reserve.ensures.items)
    (ap (λ (es : List (List ℕ × Queue)). let n : Maps = record m { queues = es } in n)
    (ap (λ (k : List ℕ). changed_at (is_at (key_order k)) unpushed (c.get_mut.follows.lender w).entries) same_noted
    ∙ pushed_back c.args.name.now c.in-Some.queue.now c.args.self.now.queues.entries found c.in_ok-value.value c.push.new.self _ c.in_ok-push-in-Some.ensures.ok (c.get_mut.follows.holds w).0))
