use Rattle.std.proofs.Common.{◌≡◌, ℕ, List, suc, ◌+◌, length, subst, arith}
use Rattle.boki_machine.specs.Machine.{NumberedAttempt}
use Rattle.cluster_run.specs.Clusters.{AttemptsStandFor}
use Rattle.cluster_run.proofs.Killing.{kill_first, one_more, each_killed, same_length}
use Rattle.cluster_run.proofs.attempts.kill_on.Goals as goal

pub loop-index-preserved : goal.loop-index-preserved
loop-index-preserved c =
    let more : suc c.loop-index.index ≡ c.loop-index.index + 1 = omega arith in
    record {
      kills = λ fs xs all.
          subst (λ (n : ℕ). AttemptsStandFor fs (kill_first c.args.engine n xs) c.kill_at.new.attempts.entries) more
          (subst (λ (l : List NumberedAttempt). AttemptsStandFor fs l c.kill_at.new.attempts.entries) (one_more c.args.engine c.loop-index.index xs)
          (c.kill_at.ensures fs (kill_first c.args.engine c.loop-index.index xs) (c.loop-index.invariant.kills fs xs all)));
      until = c.loop-index.invariant.until;
      within = omega arith;
    }

pub returns : goal.returns
returns c fs xs all =
    let size = same_length fs xs c.args.attempts.now.entries all in
    let last : c.loop-index.index ≡ length xs = omega arith in
    subst (λ (l : List NumberedAttempt). AttemptsStandFor fs l c.loop-index.attempts.entries) (each_killed c.args.engine xs)
    (subst (λ (n : ℕ). AttemptsStandFor fs (kill_first c.args.engine n xs) c.loop-index.attempts.entries) last (c.loop-index.invariant.kills fs xs all))
