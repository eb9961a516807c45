use Rattle.std.proofs.Common.{sym, ap, ◌∙◌}
use Rattle.eng_index.specs.IndexState.{mark_at}
use Rattle.eng_index.proofs.Marks.{live_at}
use Rattle.eng_index.proofs.Index.live.Goals as goal

pub returns : goal.returns
returns c = λ log shows.
    c.is_marked.ensures
    ∙ ap (mark_at c.args.seq.0) (c.as_slice.ensures.value ∙ ap (λ k. k.marks) c.self.view_is ∙ shows.marks)
    ∙ sym (live_at c.args.seq.0 log)
