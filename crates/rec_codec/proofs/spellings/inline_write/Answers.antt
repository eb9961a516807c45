use Rattle.rec_codec.specs.Spelling.{path, word, text, value}
use Rattle.rec_codec.proofs.Adding.{add3}
use Rattle.rec_codec.proofs.spellings.inline_write.Goals as goal

pub returns-clause-ok : goal.returns-clause-ok
returns-clause-ok c = add3 2 4 (path c.args.path.now) (word c.args.index) (word c.args.place) (text c.args.key.now) (value c.args.value.now) c.in_ok-out.out c.put_word.new.out c.put_key.new.out c.put_value.new.out c.in_ok-out.ensures c.in_ok-put_word.ensures c.in_ok-put_key.ensures.ok c.in_ok-put_value.ensures.ok
