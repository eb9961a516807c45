use Rattle.std.proofs.Common.{sym, take, refl, arith}
use Rattle.std.proofs.lemmas.List.{drop-drop}
use Rattle.boki_queue.specs.Shared.{row_at}
use Rattle.boki_queue.proofs.shared.popped.Goals as goal

pub returns : goal.returns
returns c = record {
  within = record { row = c.requires.row; order = (let order = c.requires.order in let apart = c.if-w.false in omega arith); end = c.requires.end };
  queue = refl;
  values = sym (drop-drop 1 c.args.w.from (take c.args.w.to (row_at c.args.rows.now.items c.args.w.row).values));
}
