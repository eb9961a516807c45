use Rattle.std.proofs.Common.{◌∙◌, refl, ap, reverse}
use Rattle.boki_types.specs.declared.line.Line.TheVariants as line
use Rattle.cluster_run.proofs.Killing.{counts_reversed, killed_reversed}
use Rattle.cluster_run.proofs.attempts.restart.Goals as goal

pub returns-clause-done : goal.returns-clause-done
returns-clause-done c setup m valid all =
    let fs = c.args.program.now.functions in
    record {
      line_is = ap line.Restarted (c.in_ok-killed.ensures ∙ counts_reversed fs c.args.engine m.attempts c.args.attempts.now.entries all.stand);
      all = record {
        are = c.restart.ensures setup fs m valid all.are;
        stand = killed_reversed fs c.args.engine m.attempts c.kill_on.new.attempts.entries (c.kill_on.ensures fs (reverse m.attempts) all.stand);
      };
      text = record { valid = valid; bytes = refl; text = tt };
    }
