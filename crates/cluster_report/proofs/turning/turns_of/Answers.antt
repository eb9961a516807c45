use Rattle.std.proofs.Common.{◌≡◌, ◌∙◌, ◌-◌, ◌+◌, suc, [], arith, rules}
use Rattle.cluster_report.proofs.Passed.{none_passed, all_passed, pass_at}
use Rattle.cluster_report.proofs.turning.turns_of.Goals as goal

pub loop-passed-init : goal.loop-passed-init
loop-passed-init c =
    let all : c.length-length.result - 0 ≡ c.length-length.result = omega arith in
    let none : c.new.result.entries ≡ [] = search rules in
    none_passed c.args.program.now.functions c.args.book.now c.args.store.now (c.length-length.result - 0)
    (record { ahead = c.new.result; turns = c.new-2.result }) (all ∙ c.length-length.ensures) none c.new-2.ensures.items

pub loop-passed-preserved : goal.loop-passed-preserved
loop-passed-preserved c =
    let next : c.length-length.result - c.loop-passed.passed ≡ suc (c.length-length.result - (c.loop-passed.passed + 1)) = omega (arith, c.loop-passed-test.true) in
    pass_at c.args.program.now.functions c.args.book.now c.args.store.now _ _ c.loop-passed.walk c.add_at.new.walk next
    c.in_ok-add_at.ensures c.loop-passed.invariant

pub returns : goal.returns
returns c = λ m can.
    let done : c.length-length.result - c.loop-passed.passed ≡ 0 = omega (arith, c.loop-passed-test.false) in
    c.oldest_first.ensures
    ∙ all_passed c.args.program.now.functions c.args.book.now c.args.store.now _ c.loop-passed.walk done c.loop-passed.invariant m can
