use Rattle.std.proofs.Common.{◌∙◌, sym, subst}
use Rattle.boki_types.specs.declared.operation.Ask.TheVariants as k
use Rattle.boki_types.specs.declared.operation.Op.TheVariants as o
use Rattle.boki_types.specs.declared.store.Named.{Named}
use Rattle.hm_write.specs.Stores.{StoresNamed}
use Rattle.boki_flow.specs.Arms.{ScriptAsks}
use Rattle.boki_flow.proofs.Standing.{on_err}
use Rattle.boki_flow.proofs.Leading.{leads_misses, leads_miss_cut}
use Rattle.boki_flow.proofs.Misses.{misses_frees, misses_there, misses_gone, misses_stores, put_missed, write_missed, miss_cut_stays}
use Rattle.boki_flow.proofs.missing.miss_write.Goals as goal

pub returns-in_err-store_write-clause-cut : goal.returns-in_err-store_write-clause-cut
returns-in_err-store_write-clause-cut c = on_err c.from_residual.result
    (miss_cut_stays (λ fs. ScriptAsks fs (k.Op (o.Write c.args.key.now c.args.value.now))) (write_missed c.args.parts.now c.args.state.now c.args.key.now c.args.value.now) c.args.parts.now c.args.state.now c.store_write.new.store c.in_err-store_write.ensures.err)

pub returns-then-writes_freely-clause-ok : goal.returns-then-writes_freely-clause-ok
returns-then-writes_freely-clause-ok c =
    let old = c.args.parts.now in
    let kept = c.args.state.now in
    let key = c.args.key.now in
    let v = c.args.value.now in
    leads_misses (λ fs. ScriptAsks fs (k.Op (o.Write key v))) (λ fs. ScriptAsks fs (k.Op (o.Write key v))) (write_missed old kept key v) (put_missed old kept key v) old c.miss_put.new.parts kept
    (misses_frees old kept key v (sym c.writes_freely.ensures ∙ c.if-writes_freely.true)) c.miss_put.result c.miss_put.ensures.ok

pub returns-then-writes_freely-clause-cut : goal.returns-then-writes_freely-clause-cut
returns-then-writes_freely-clause-cut c =
    let old = c.args.parts.now in
    let kept = c.args.state.now in
    let key = c.args.key.now in
    let v = c.args.value.now in
    leads_miss_cut (λ fs. ScriptAsks fs (k.Op (o.Write key v))) (λ fs. ScriptAsks fs (k.Op (o.Write key v))) (write_missed old kept key v) (put_missed old kept key v) old c.miss_put.new.parts kept
    (misses_frees old kept key v (sym c.writes_freely.ensures ∙ c.if-writes_freely.true)) c.miss_put.result c.miss_put.ensures.cut

pub returns-then-has_value-clause-ok : goal.returns-then-has_value-clause-ok
returns-then-has_value-clause-ok c =
    misses_there c.args.parts.now c.args.state.now c.args.key.now c.args.value.now (sym c.writes_freely.ensures ∙ c.if-writes_freely.false) (sym c.has_value.ensures ∙ c.if-has_value.true)

pub returns-in-Done-clause-ok : goal.returns-in-Done-clause-ok
returns-in-Done-clause-ok c =
    misses_stores c.args.parts.now c.args.state.now c.args.key.now c.args.value.now (sym c.writes_freely.ensures ∙ c.if-writes_freely.false) (sym c.has_value.ensures ∙ c.if-has_value.false) c.write_name.result c.store_write.new.store
    c.write_name.ensures.path c.write_name.ensures.place
    (subst (λ (told : Named). StoresNamed c.write_name.result c.args.state.now.progress.cursor.0 c.args.value.now c.args.parts.now.store c.store_write.new.store told) c.in-Done.is c.in_ok-store_write.ensures.ok)

pub returns-in-Gone-clause-ok : goal.returns-in-Gone-clause-ok
returns-in-Gone-clause-ok c =
    misses_gone c.args.parts.now c.args.state.now c.args.key.now c.args.value.now (sym c.writes_freely.ensures ∙ c.if-writes_freely.false) (sym c.has_value.ensures ∙ c.if-has_value.false) c.write_name.result c.store_write.new.store
    c.write_name.ensures.path c.write_name.ensures.place
    (subst (λ (told : Named). StoresNamed c.write_name.result c.args.state.now.progress.cursor.0 c.args.value.now c.args.parts.now.store c.store_write.new.store told) c.in-Gone.is c.in_ok-store_write.ensures.ok)
