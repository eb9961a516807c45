use Rattle.std.proofs.Common.{◌≡◌, ◌≤◌, ◌-◌, ◌∙◌, sym, ap, get_or, take, drop, length, arith}
use Rattle.std.proofs.lemmas.List.{take_all, length-drop}
use Rattle.rec_codec.specs.Looking.{kind_by_number, step_by_kind}
use Rattle.rec_codec.proofs.StepLemmas.{step_read, read_two}
use Rattle.rec_codec.proofs.looking.step_of_bytes.Goals as goal

pub returns-then-bytes-lt2 : goal.returns-then-bytes-lt2
returns-then-bytes-lt2 c = λ body e.
    let two : 2 ≤ length c.args.bytes.now = read_two c.args.bytes.now body (λ i. omega (arith, c.type_inv.bytes i)) e in
    absurd (omega arith)

pub returns : goal.returns
returns c = λ body e.
    let whole = take_all (length c.args.bytes.now - 2) (drop 2 c.args.bytes.now) (omega (arith, length-drop 2 c.args.bytes.now)) in
    c.step_by_number.ensures ∙ ap (step_by_kind (kind_by_number (get_or c.args.bytes.now 1 0))) whole ∙ step_read c.args.bytes.now body (λ i. omega (arith, c.type_inv.bytes i)) e
