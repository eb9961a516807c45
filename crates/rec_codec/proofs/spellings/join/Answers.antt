use Rattle.rec_codec.specs.Spelling.{path, word}
use Rattle.rec_codec.proofs.Adding.{add1}
use Rattle.rec_codec.proofs.spellings.join.Goals as goal

pub returns-clause-ok : goal.returns-clause-ok
returns-clause-ok c = add1 1 6 (path c.args.path.now) (word c.args.index) (word c.args.ordinal) c.in_ok-out.out c.put_word.new.out c.in_ok-out.ensures c.in_ok-put_word.ensures
