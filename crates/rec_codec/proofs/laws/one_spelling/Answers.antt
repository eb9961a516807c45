use Rattle.rec_codec.proofs.LawsLemmas.{one_only}
use Rattle.rec_codec.proofs.laws.one_spelling.Goals as goal

pub returns : goal.returns
returns c = one_only
