use Rattle.std.proofs.Common.{◌≡◌, ◌∙◌, ◌+◌, ◌++◌, suc, inl, inr, List, sym, ap, arith}
use Rattle.std.proofs.Math.Nat.{le_refl}
use Rattle.boki_types.specs.declared.store.Settled.{Settled}
use Rattle.book_api.specs.Books.{position}
use Rattle.obj_store.specs.Sweeps.{logged_between}
use Rattle.step_log.specs.Sound.{view}
use Rattle.hm_switch.proofs.Going.{view_falls}
use Rattle.cluster_events.specs.Writes.{write_in}
use Rattle.cluster_events.proofs.Sweeps.{between_empty, between_more, between_all}
use Rattle.cluster_events.proofs.sweeping.settled_writes.Goals as goal

pub loop-seq-init : goal.loop-seq-init
loop-seq-init c =
    let low = c.args.low.0 in
    (c.new-settled.ensures ∙ sym (between_empty low low (view c.args.book.now c.args.engine) (le_refl low)), le_refl low, inl (le_refl low))

pub loop-seq-preserved : goal.loop-seq-preserved
loop-seq-preserved c =
    let book = c.args.book.now in
    let engine = c.args.engine in
    let i = c.loop-seq.invariant in
    let seq = c.loop-seq.seq in
    let next : suc seq ≡ seq + 1 = omega arith in (
      c.in_ok-add_write.ensures ∙ ap (λ (s : List Settled). s ++ write_in (view book engine) seq) i.0
          ∙ sym (between_more c.args.low.0 seq (suc (position book engine)) (view book engine) (view_falls book engine) i.1)
          ∙ ap (λ n. logged_between c.args.low.0 n (view book engine)) next,
      omega (arith, i.1),
      inr (omega arith),
    )

pub returns : goal.returns
returns c =
    let i = c.loop-seq.invariant in
    i.0 ∙ between_all c.args.low.0 c.loop-seq.seq c.args.high.0 (view c.args.book.now c.args.engine) i.2 (omega arith)
