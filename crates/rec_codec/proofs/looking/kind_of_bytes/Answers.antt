use Rattle.std.proofs.Common.{◌≡◌, ◌∙◌, sym, ap, get_or, arith}
use Rattle.std.proofs.lemmas.List.{get_or_past}
use Rattle.rec_codec.specs.Looking.{kind_by_number}
use Rattle.rec_codec.proofs.KindLemmas.{kind_read}
use Rattle.rec_codec.proofs.looking.kind_of_bytes.Goals as goal

pub returns-then-bytes-lt2 : goal.returns-then-bytes-lt2
returns-then-bytes-lt2 c = λ body e.
    ap kind_by_number (sym (get_or_past c.args.bytes.now 1 0 (omega arith))) ∙ kind_read c.args.bytes.now body (λ i. omega (arith, c.type_inv.bytes i)) e

pub returns : goal.returns
returns c = λ body e. c.kind_of_number.ensures ∙ kind_read c.args.bytes.now body (λ i. omega (arith, c.type_inv.bytes i)) e
