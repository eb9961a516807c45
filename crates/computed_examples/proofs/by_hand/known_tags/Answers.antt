-- They come out by computation.
use Rattle.std.proofs.Common.{refl}
use Rattle.computed_examples.proofs.by_hand.known_tags.Goals as goal

pub returns : goal.returns
returns c = record { object = refl; request = refl; grandchild = refl }
