use Rattle.std.proofs.Common.{refl, rules}
use Rattle.eng_index.proofs.Emptied.{emptied}
use Rattle.eng_index.proofs.lists.clear.Goals as goal

pub returns : goal.returns
returns c = λ t. emptied _ _ (λ k v b w f' called. search rules) t c.args.lists.now.entries c.retain.new.self.entries _ refl c.retain.ensures.filtered
