use Rattle.boki_model.proofs.KeyMaps.{same_answers}
use Rattle.boki_model.proofs.map_laws.answers_tell_maps.Goals as goal

pub returns : goal.returns
returns g c = same_answers
