use Rattle.std.proofs.Common.{◌∙◌, length, ap}
use Rattle.book_api.specs.Books.{BookState, ordered}
use Rattle.cluster_run.proofs.Whole.{log_is}
use Rattle.cluster_run.proofs.running.ClusterPlanCluster.log_length.Goals as goal

pub returns : goal.returns
returns c setup fs m one =
    c.length.ensures ∙ (ap (λ (b : BookState). length (ordered b)) c.book.ensures ∙ log_is setup fs m c.args.self.now one)
