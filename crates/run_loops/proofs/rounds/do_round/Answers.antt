use Rattle.std.proofs.Common.{◌≡◌, length, sym, ◌∙◌, arith}
use Rattle.std.specs.Prelude.{map, vec_len}
use Rattle.std.proofs.lemmas.List.{length-map}
use Rattle.std.proofs.lemmas.Result.{err_from_is_err_and, on_ok_weaker, on_err_weaker}
use Rattle.nemesis_types.specs.Kept.{numbered_nemesis}
use Rattle.run_with.proofs.Going.{round_tells, round_front, round_behind}
use Rattle.run_loops.proofs.rounds.do_round.Goals as goal

pub returns-in_err-seen-clause-err : goal.returns-in_err-seen-clause-err
returns-in_err-seen-clause-err g c =
    let p = err_from_is_err_and c.from_residual.result c.from_residual.ensures.1 in
    rw p.1 (λ m s. round_front (g.C.Cluster.line_text c.args.plan.now.program.functions) c.args.plan.now.setup c.args.plan.now.program.functions (g.K.Sink.held c.args.sink.now) (g.K.Sink.held c.do_planned.new.sink) c.args.n c.args.event.now m
    (map (λ b. numbered_nemesis b.0 ((goal.Nemesis-dyn g (b.1.vtable, b.1.value)).automaton b.1.value)) c.args.kept.now.items) (c.in_err-seen.ensures.err m s))

pub returns-clause-ok : goal.returns-clause-ok
returns-clause-ok g c =
    let long : vec_len c.do_planned.new.kept ≡ length c.do_planned.new.kept.items = omega (arith, c.do_planned.new.kept.ok) in
    on_ok_weaker c.ask_all.result
    (λ asked m s. round_tells (g.C.Cluster.line_text c.args.plan.now.program.functions) c.args.plan.now.setup c.args.plan.now.program.functions (g.C.Cluster.stands c.do_planned.new.cluster c.args.plan.now.setup c.args.plan.now.program.functions) (g.C.Cluster.stands c.ask_all.new.cluster c.args.plan.now.setup c.args.plan.now.program.functions) (g.K.Sink.held c.args.sink.now) (g.K.Sink.held c.do_planned.new.sink) (g.K.Sink.held c.ask_all.new.sink) c.args.n c.args.event.now m
    (map (λ b. numbered_nemesis b.0 ((goal.Nemesis-dyn g (b.1.vtable, b.1.value)).automaton b.1.value)) c.args.kept.now.items)
    (map (λ b. numbered_nemesis b.0 ((goal.Nemesis-dyn g (b.1.vtable, b.1.value)).automaton b.1.value)) c.do_planned.new.kept.items)
    (map (λ b. numbered_nemesis b.0 ((goal.Nemesis-dyn g (b.1.vtable, b.1.value)).automaton b.1.value)) c.ask_all.new.kept.items)
    c.in_ok-seen.seen (vec_len c.do_planned.new.kept) (c.in_ok-seen.ensures.seen m s) (long ∙ sym (length-map c.do_planned.new.kept.items _)) (c.in_ok-seen.ensures.ok m s) asked)
    c.ask_all.ensures.ok

pub returns-clause-err : goal.returns-clause-err
returns-clause-err g c =
    let long : vec_len c.do_planned.new.kept ≡ length c.do_planned.new.kept.items = omega (arith, c.do_planned.new.kept.ok) in
    on_err_weaker c.ask_all.result
    (λ asked m s. round_behind (g.C.Cluster.line_text c.args.plan.now.program.functions) c.args.plan.now.setup c.args.plan.now.program.functions (g.C.Cluster.stands c.do_planned.new.cluster c.args.plan.now.setup c.args.plan.now.program.functions) (g.K.Sink.held c.args.sink.now) (g.K.Sink.held c.do_planned.new.sink) (g.K.Sink.held c.ask_all.new.sink) c.args.n c.args.event.now m
    (map (λ b. numbered_nemesis b.0 ((goal.Nemesis-dyn g (b.1.vtable, b.1.value)).automaton b.1.value)) c.args.kept.now.items)
    (map (λ b. numbered_nemesis b.0 ((goal.Nemesis-dyn g (b.1.vtable, b.1.value)).automaton b.1.value)) c.do_planned.new.kept.items)
    c.in_ok-seen.seen (vec_len c.do_planned.new.kept) (c.in_ok-seen.ensures.seen m s) (long ∙ sym (length-map c.do_planned.new.kept.items _)) (c.in_ok-seen.ensures.ok m s) asked)
    c.ask_all.ensures.err
