use Rattle.std.proofs.Common.{◌≡◌, ◌++◌, ◌∷◌, [], ◌+◌, ◌<◌, ℕ, List, length, Some, slice_get, get_or, refl, sym, ap, ◌∙◌, rules, arith}
use Rattle.std.specs.BTreeMap.{is_at}
use Rattle.std.specs.Option.{option_copied_mut}
use Rattle.std.proofs.lemmas.Option.{slice_get_read}
use Rattle.lb_base.specs.declared.value.Value.{Value}
use Rattle.boki_model.specs.Maps.{key_order}
use Rattle.ideal_run.specs.declared.kept.Change.{Change}
use Rattle.ideal_run.specs.declared.kept.Change.TheVariants as change
use Rattle.ideal_run.specs.declared.kept.Queue.{Queue}
use Rattle.ideal_run.specs.Kept.{Maps, maps_of}
use Rattle.ideal_run.specs.Changes.{changed_at, undone, unpopped}
use Rattle.ideal_run.proofs.Queues.{unchanged, none_taken, one_answered, popped_is, popped_back, absent, past}
use Rattle.ideal_run.proofs.Undoing.{noted}
use Rattle.ideal_run.proofs.state.State.pop.Goals as goal

pub open-requires : goal.open-requires
open-requires c =
    let same : c.in_ok-noted.noted ≡ c.args.name.now = search rules in
    absent c.args.name.now c.in_ok-noted.noted c.args.self.now.queues.entries _ same (ap (λ m. m.entries) c.get_mut.follows.holds-at-none)
    (sym c.get_mut.ensures.value ∙ ap option_copied_mut c.in-None.is)

pub overflow_add-queue : goal.overflow_add-queue
overflow_add-queue c = omega (arith, c.if-queue-len.false, c.len.type_inv)

pub returns-then-queue-len-clause-ok : goal.returns-then-queue-len-clause-ok
returns-then-queue-len-clause-ok c =
    let m : Maps = maps_of c.args.self.now in
    let found = sym c.get_mut.ensures.value ∙ ap option_copied_mut c.in-Some.is in
    ap (λ (es : List (List ℕ × Queue)). let n : Maps = record m { queues = es } in n)
    (none_taken c.args.name.now c.in-Some.queue.now c.args.self.now.queues.entries found (past c.in-Some.queue.now.values c.in-Some.queue.now.front (let h = c.if-queue-len.true in let e = c.len.ensures in omega (arith, h, e))) _ c.get_mut.ensures.ordered (c.get_mut.follows.holds c.in-Some.queue.now).0)

pub returns-then-queue-len-clause-undo : goal.returns-then-queue-len-clause-undo
returns-then-queue-len-clause-undo c =
    let m : Maps = maps_of c.args.self.now in
    let found = sym c.get_mut.ensures.value ∙ ap option_copied_mut c.in-Some.is in
    ap (λ (l : List Change). undone l (record m { queues = (c.get_mut.follows.lender c.in-Some.queue.now).entries })) c.reserve.ensures.items
    ∙ ap (λ (es : List (List ℕ × Queue)). undone c.args.self.now.log.items (record m { queues = es }))
    (unchanged c.args.name.now c.in-Some.queue.now c.args.self.now.queues.entries found _ (c.get_mut.follows.holds c.in-Some.queue.now).0)

pub returns-in_err-value-in-Some-clause-undo : goal.returns-in_err-value-in-Some-clause-undo
returns-in_err-value-in-Some-clause-undo c =
    let m : Maps = maps_of c.args.self.now in
    let found = sym c.get_mut.ensures.value ∙ ap option_copied_mut c.in-Some.is in
    ap (λ (l : List Change). undone l (record m { queues = (c.get_mut.follows.lender c.in-Some.queue.now).entries })) c.reserve.ensures.items
    ∙ ap (λ (es : List (List ℕ × Queue)). undone c.args.self.now.log.items (record m { queues = es }))
    (unchanged c.args.name.now c.in-Some.queue.now c.args.self.now.queues.entries found _ (c.get_mut.follows.holds c.in-Some.queue.now).0)

pub returns-in_ok-value-in-Some-clause-ok : goal.returns-in_ok-value-in-Some-clause-ok
returns-in_ok-value-in-Some-clause-ok c =
    let m : Maps = maps_of c.args.self.now in
    let found = sym c.get_mut.ensures.value ∙ ap option_copied_mut c.in-Some.is in
    let inside : c.in-Some.queue.now.front < length c.in-Some.queue.now.values = (let h = c.if-queue-len.false in let e = c.len.ensures in omega (arith, h, e)) in
    let there : slice_get c.in-Some.queue.now.values c.in-Some.queue.now.front ≡ Some c.index-as_slice-queue.result =
    slice_get_read c.in-Some.queue.now.values (length c.in-Some.queue.now.values) c.in-Some.queue.now.front c.index-as_slice-queue.result refl inside
    (c.index-as_slice-queue.is ∙ ap (λ (xs : List Value). get_or xs c.in-Some.queue.now.front c.index-as_slice-queue.result) c.as_slice.ensures) in
    ap (λ (es : List (List ℕ × Queue)). let n : Maps = record m { queues = es } in n)
    (popped_is c.args.name.now c.in-Some.queue.now c.args.self.now.queues.entries found c.index-as_slice-queue.result there _ c.get_mut.ensures.ordered (c.get_mut.follows.holds _).0)

pub returns-in_ok-value-in-Some-clause-undo : goal.returns-in_ok-value-in-Some-clause-undo
returns-in_ok-value-in-Some-clause-undo c =
    let m : Maps = maps_of c.args.self.now in
    let found = sym c.get_mut.ensures.value ∙ ap option_copied_mut c.in-Some.is in
    let x : Change = change.Popped c.in_ok-noted.noted in
    let same_noted : c.in_ok-noted.noted ≡ c.args.name.now = search rules in
    let w : Queue = record { values = c.in-Some.queue.now.values; front = c.in-Some.queue.now.front + 1 } in
    noted _ _ x m (record m { queues = (c.get_mut.follows.lender w).entries })
    (c.push_reserved.ensures.items ∙ ap (λ (l : List Change). l ++ x ∷ []) c.reserve.ensures.items)
    (ap (λ (es : List (List ℕ × Queue)). let n : Maps = record m { queues = es } in n)
    (ap (λ (k : List ℕ). changed_at (is_at (key_order k)) unpopped (c.get_mut.follows.lender w).entries) same_noted
    ∙ popped_back c.args.name.now c.in-Some.queue.now c.args.self.now.queues.entries found _ (c.get_mut.follows.holds w).0))

pub returns-in_ok-value-in-Some-clause-value : goal.returns-in_ok-value-in-Some-clause-value
returns-in_ok-value-in-Some-clause-value c =
    let found = sym c.get_mut.ensures.value ∙ ap option_copied_mut c.in-Some.is in
    let inside : c.in-Some.queue.now.front < length c.in-Some.queue.now.values = (let h = c.if-queue-len.false in let e = c.len.ensures in omega (arith, h, e)) in
    let there : slice_get c.in-Some.queue.now.values c.in-Some.queue.now.front ≡ Some c.index-as_slice-queue.result =
    slice_get_read c.in-Some.queue.now.values (length c.in-Some.queue.now.values) c.in-Some.queue.now.front c.index-as_slice-queue.result refl inside
    (c.index-as_slice-queue.is ∙ ap (λ (xs : List Value). get_or xs c.in-Some.queue.now.front c.index-as_slice-queue.result) c.as_slice.ensures) in
    let same : c.in_ok-value-in-Some.value ≡ c.index-as_slice-queue.result = search rules in
    same ∙ one_answered c.args.name.now c.in-Some.queue.now c.args.self.now.queues.entries found c.index-as_slice-queue.result there
