use Rattle.make_call.proofs.make.summarize_transfers.Goals as goal

pub run_summary-requires-after_bounds : goal.run_summary-requires-after_bounds
run_summary-requires-after_bounds g c κs within = rw c.in-Ok.ensures (c.transfers_are_plans.ensures c.args.n c.requires.few)
