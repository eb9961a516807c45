use Rattle.boki_model.proofs.Tags.{begun_once}
use Rattle.boki_model.proofs.tag_laws.begun_once.Goals as goal

pub returns : goal.returns
returns c = begun_once
