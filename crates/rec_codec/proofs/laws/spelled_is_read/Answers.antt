use Rattle.rec_codec.proofs.LawsLemmas.{spelled_read}
use Rattle.rec_codec.proofs.laws.spelled_is_read.Goals as goal

pub returns : goal.returns
returns c = spelled_read
