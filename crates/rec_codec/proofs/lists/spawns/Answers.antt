use Rattle.std.proofs.Common.{◌≡◌, ◌++◌, ◌∷◌, [], ◌+◌, length, ap, ◌∙◌, arith}
use Rattle.std.proofs.lemmas.Result.{err_from_is_err_and}
use Rattle.std.proofs.lemmas.List.{length-append}
use Rattle.rec_codec.specs.Answers.{with_front}
use Rattle.rec_codec.specs.Reading.{many_at, spawn_at}
use Rattle.rec_codec.proofs.Loop.{goes_on, ends, is_done, one_ok, one_fails}
use Rattle.rec_codec.proofs.lists.spawns.Goals as goal

pub returns-in_err-whole-clause-read : goal.returns-in_err-whole-clause-read
returns-in_err-whole-clause-read c =
    let p = err_from_is_err_and c.from_residual.result c.from_residual.ensures.1 in
    let stopped = one_fails c.loop.whole c.in_err-whole.field-0.0 (spawn_at c.loop.bytes.now) c.in_err-whole.ensures.read in
    rw (p.1, p.2) (ends spawn_at c.in_err-whole.field-0.0 c.loop.whole c.args.count c.loop.counter c.loop.bytes.now (with_front c.args.path (many_at spawn_at c.args.count c.args.bytes.now.now)) c.loop-test.true stopped c.loop.invariant.1)

pub loop-preserved : goal.loop-preserved
loop-preserved c =
    let o = one_ok c.loop.whole c.in_ok-whole.whole c.spawn.new.bytes.now (spawn_at c.loop.bytes.now) c.in_ok-whole.ensures.read in
    let longer : length c.in_ok-whole.whole ≡ length c.loop.whole + 1 = ap length o.2 ∙ length-append c.loop.whole (o.0 ∷ []) in
    (omega arith, rw o.2 (goes_on spawn_at c.loop.whole c.args.count c.loop.counter c.loop.bytes.now o.0 c.spawn.new.bytes.now (with_front c.args.path (many_at spawn_at c.args.count c.args.bytes.now.now)) c.loop-test.true o.1 c.loop.invariant.1))

pub returns-clause-read : goal.returns-clause-read
returns-clause-read c = is_done spawn_at c.loop.whole c.args.count c.loop.counter c.loop.bytes.now (with_front c.args.path (many_at spawn_at c.args.count c.args.bytes.now.now)) c.loop-test.false c.loop.invariant.1
