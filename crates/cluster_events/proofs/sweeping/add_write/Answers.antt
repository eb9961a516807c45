use Rattle.std.proofs.Common.{◌∙◌, ◌++◌, true, ℕ, List, sym, ap, append-nil}
use Rattle.std.proofs.lemmas.Result.{on_ok_weaker}
use Rattle.std.specs.Option.{option_copied}
use Rattle.boki_types.specs.declared.store.Settled.{Settled}
use Rattle.boki_model.specs.Writes.{logged_write}
use Rattle.obj_store.specs.Sweeps.{settled_of}
use Rattle.step_log.specs.Sound.{body_of}
use Rattle.cluster_events.proofs.Sweeps.{write_dead, write_there, write_absent}
use Rattle.cluster_events.proofs.sweeping.add_write.Goals as goal

pub returns-then-not-is_live : goal.returns-then-not-is_live
returns-then-not-is_live c =
    let old = c.args.settled.now in
    sym (ap (λ (s : List Settled). old ++ s) (write_dead c.args.book.now c.args.engine c.args.seq.0 (sym c.is_live.ensures ∙ c.if-not-is_live.true)) ∙ append-nil old)

pub returns-in-Some : goal.returns-in-Some
returns-in-Some c =
    let old = c.args.settled.now in
    let there = write_there c.args.book.now c.args.engine c.args.seq.0 (sym c.is_live.ensures ∙ c.if-not-is_live.false) c.in-Some.rec.now (sym c.record.ensures ∙ ap option_copied c.in-Some.is) in
    on_ok_weaker c.push_write.result (λ pushed.
    pushed
    ∙ ap (λ (bytes : List ℕ). old ++ settled_of true c.args.seq.0 (logged_write (body_of bytes))) c.as_slice.ensures
    ∙ ap (λ (s : List Settled). old ++ s) (sym there))
    c.push_write.ensures

pub returns-in-None : goal.returns-in-None
returns-in-None c =
    let old = c.args.settled.now in
    sym (ap (λ (s : List Settled). old ++ s) (write_absent c.args.book.now c.args.engine c.args.seq.0 (sym c.is_live.ensures ∙ c.if-not-is_live.false) (sym c.record.ensures ∙ ap option_copied c.in-None.is)) ∙ append-nil old)
