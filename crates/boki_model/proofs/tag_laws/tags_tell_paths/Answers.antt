use Rattle.boki_model.proofs.Tags.{tags_tell}
use Rattle.boki_model.proofs.tag_laws.tags_tell_paths.Goals as goal

pub returns : goal.returns
returns c = tags_tell
