use Rattle.std.proofs.Common.{◌≡◌, ◌+◌, ◌-◌, Some, suc, sym, ap, ◌∙◌, arith}
use Rattle.line_text.specs.Lists.{at_most}
use Rattle.line_text.proofs.ListLemmas.{behind_several, comma_behind, last_behind}
use Rattle.line_text.proofs.lists.read_comma_list.Goals as goal

pub returns-then-not-takes : goal.returns-then-not-takes
returns-then-not-takes g c =
    let left = c.len-end.result - (c.elements.counter + 1) in
    let e : c.len-end.result - c.elements.counter ≡ suc left = omega arith in
    let read = rw c.in-Some.is at c.in_ok-read.ensures in
    let mark = rw c.if-not-takes.true at c.takes.ensures in
    ap (λ xs. Some (record { count = c.elements.count + 1; items = xs }, c.takes.new.self)) c.in_ok-items-in-Some.ensures
    ∙ sym (last_behind g.T.Element.reads c.elements.count left c.elements.items c.in-Some.item c.elements.tokens _ c.takes.new.self read mark)
    ∙ ap (λ k. behind_several c.elements.count c.elements.items (at_most g.T.Element.reads k c.elements.tokens)) (sym e)
    ∙ c.elements.invariant.0

pub elements-preserved : goal.elements-preserved
elements-preserved g c =
    let left = c.len-end.result - (c.elements.counter + 1) in
    let e : c.len-end.result - c.elements.counter ≡ suc left = omega arith in
    let read = rw c.in-Some.is at c.in_ok-read.ensures in
    let mark = rw c.if-not-takes.false at c.takes.ensures in (
      ap (λ xs. behind_several (c.elements.count + 1) xs (at_most g.T.Element.reads left c.takes.new.self)) c.in_ok-items-in-Some.ensures
          ∙ sym (comma_behind g.T.Element.reads c.elements.count left c.elements.items c.in-Some.item c.elements.tokens _ c.takes.new.self read mark)
          ∙ ap (λ k. behind_several c.elements.count c.elements.items (at_most g.T.Element.reads k c.elements.tokens)) (sym e)
          ∙ c.elements.invariant.0,
      omega arith,
    )
