use Rattle.rec_codec.specs.Spelling.{path, word, names, writes}
use Rattle.rec_codec.proofs.Adding.{add3}
use Rattle.rec_codec.proofs.spellings.commit.Goals as goal

pub returns-clause-ok : goal.returns-clause-ok
returns-clause-ok c = add3 1 10 (path c.args.path.now) (word c.args.index) (word c.args.began) (names c.args.names.now) (writes c.args.writes.now) c.in_ok-out.out c.put_word.new.out c.put_names.new.out c.put_writes.new.out c.in_ok-out.ensures c.in_ok-put_word.ensures c.in_ok-put_names.ensures.ok c.in_ok-put_writes.ensures.ok
