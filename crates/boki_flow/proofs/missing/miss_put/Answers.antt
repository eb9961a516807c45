use Rattle.std.proofs.Common.{ℕ, List, subst}
use Rattle.hm_write.specs.Stores.{PutsFree}
use Rattle.boki_flow.specs.Arms.{ScriptAsks}
use Rattle.boki_types.specs.declared.operation.Ask.TheVariants as k
use Rattle.boki_types.specs.declared.operation.Op.TheVariants as o
use Rattle.boki_flow.proofs.Standing.{on_err}
use Rattle.boki_flow.proofs.Misses.{misses_puts, misses_unput, miss_cut_stays, put_missed}
use Rattle.boki_flow.proofs.missing.miss_put.Goals as goal

pub returns-in_err-put_w-clause-cut : goal.returns-in_err-put_w-clause-cut
returns-in_err-put_w-clause-cut c = on_err c.from_residual.result
    (miss_cut_stays (λ fs. ScriptAsks fs (k.Op (o.Write c.args.key.now c.args.value.now))) (put_missed c.args.parts.now c.args.state.now c.args.key.now c.args.value.now) c.args.parts.now c.args.state.now c.put_w.new.store c.in_err-put_w.ensures.err)

pub returns-in-Done-clause-ok : goal.returns-in-Done-clause-ok
returns-in-Done-clause-ok c =
    misses_puts c.args.parts.now c.args.state.now c.args.key.now c.args.value.now c.in-Some.number c.put_w.new.store c.in_ok-put_w.field-0 c.in-Some.ensures.1
    (subst (λ (key : List ℕ). PutsFree key c.args.state.now.progress.cursor.0 c.in-Some.number c.args.value.now c.args.parts.now.store c.put_w.new.store c.in_ok-put_w.field-0) c.as_str.ensures c.in_ok-put_w.ensures.ok) c.in-Done.is

pub returns-in_default-2 : goal.returns-in_default-2
returns-in_default-2 c = record {
  ok = misses_unput c.args.parts.now c.args.state.now c.args.key.now c.args.value.now c.in-Some.number c.put_w.new.store c.in_ok-put_w.field-0 c.in-Some.ensures.1
      (subst (λ (key : List ℕ). PutsFree key c.args.state.now.progress.cursor.0 c.in-Some.number c.args.value.now c.args.parts.now.store c.put_w.new.store c.in_ok-put_w.field-0) c.as_str.ensures c.in_ok-put_w.ensures.ok) c.in_default-2.not-Done;
  cut = tt;
}
