use Rattle.rec_codec.specs.Spelling.{path, word, text, values}
use Rattle.rec_codec.proofs.Adding.{add3}
use Rattle.rec_codec.proofs.spellings.spawn.Goals as goal

pub returns-clause-ok : goal.returns-clause-ok
returns-clause-ok c = add3 1 5 (path c.args.path.now) (word c.args.index) (word c.args.ordinal) (text c.args.function.now) (values c.args.args.now) c.in_ok-out.out c.put_word.new.out c.put_function.new.out c.put_values.new.out c.in_ok-out.ensures c.in_ok-put_word.ensures c.in_ok-put_function.ensures.ok c.in_ok-put_values.ensures.ok
