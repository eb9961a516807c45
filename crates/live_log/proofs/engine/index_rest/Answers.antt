use Rattle.std.proofs.Common.{rules, arith}
use Rattle.eng_index.specs.IndexState.{IsUnchanged}
use Rattle.live_log.proofs.Indexed.{shown_indexed, shown_marks, shown_unchanged}
use Rattle.live_log.proofs.engine.index_rest.Goals as goal

pub returns-then-is_err-clause-indexed : goal.returns-then-is_err-clause-indexed
returns-then-is_err-clause-indexed c =
    let i = c.loop-at.invariant in
    let u : IsUnchanged c.loop-at.index c.add.new.self = search rules in
    shown_indexed c.args.copy.now c.loop-at.at c.add.new.self i.0 (shown_unchanged _ _ _ i.2 u)

pub returns-then-is_err-clause-grows : goal.returns-then-is_err-clause-grows
returns-then-is_err-clause-grows c =
    let i = c.loop-at.invariant in
    let u : IsUnchanged c.loop-at.index c.add.new.self = search rules in
    let n = shown_marks c.args.copy.now c.loop-at.at c.add.new.self i.0 (shown_unchanged _ _ _ i.2 u) in
    omega (arith, n, i.1)

pub returns-clause-indexed : goal.returns-clause-indexed
returns-clause-indexed c =
    let i = c.loop-at.invariant in
    shown_indexed c.args.copy.now c.loop-at.at c.loop-at.index i.0 i.2

pub returns-clause-grows : goal.returns-clause-grows
returns-clause-grows c =
    let i = c.loop-at.invariant in
    let n = shown_marks c.args.copy.now c.loop-at.at c.loop-at.index i.0 i.2 in
    omega (arith, n, i.1)

pub returns-clause-whole : goal.returns-clause-whole
returns-clause-whole c =
    let i = c.loop-at.invariant in
    let n = shown_marks c.args.copy.now c.loop-at.at c.loop-at.index i.0 i.2 in
    (search rules, search (rules, n))
