use Rattle.rec_codec.specs.Spelling.{path, word, text}
use Rattle.rec_codec.proofs.Adding.{add2}
use Rattle.rec_codec.proofs.spellings.named_write.Goals as goal

pub returns-clause-ok : goal.returns-clause-ok
returns-clause-ok c = add2 1 4 (path c.args.path.now) (word c.args.index) (word c.args.place) (text c.args.key.now) c.in_ok-out.out c.put_word.new.out c.put_key.new.out c.in_ok-out.ensures c.in_ok-put_word.ensures c.in_ok-put_key.ensures.ok
