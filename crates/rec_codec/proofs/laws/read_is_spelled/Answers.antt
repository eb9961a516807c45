use Rattle.rec_codec.proofs.LawsLemmas.{read_spelled}
use Rattle.rec_codec.proofs.laws.read_is_spelled.Goals as goal

pub returns : goal.returns
returns c = read_spelled
