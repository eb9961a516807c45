use Rattle.std.proofs.Common.{◌≡◌, ◌∙◌, Some, None, sym, ap, rules}
use Rattle.std.specs.Option.{option_copied}
use Rattle.std.proofs.Common.{option_map}
use Rattle.lb_base.specs.declared.value.Seqnum.{Seqnum}
use Rattle.step_log.specs.Sound.{seqnum_and_body, body_of}
use Rattle.step_log.proofs.Placed.{none_there, no_record_there, record_there, is_ranged}
use Rattle.step_log.proofs.looking.placed.Goals as goal

pub returns-in_default-clause-found : goal.returns-in_default-clause-found
returns-in_default-clause-found c =
    let none : c.nth.result ≡ None = search rules in
    sym (ap (option_map seqnum_and_body) (none_there c.args.book.now c.args.engine c.args.tag.0 c.args.place (sym c.nth.ensures ∙ ap (option_map (λ (s : Seqnum). s.0)) none)))

pub returns-in_default-record-clause-found : goal.returns-in_default-record-clause-found
returns-in_default-record-clause-found c =
    let some : c.nth.result ≡ Some c.in-Some.seq = search rules in
    let none : c.record.result ≡ None = search rules in
    sym (ap (option_map seqnum_and_body) (no_record_there c.args.book.now c.args.engine c.args.tag.0 c.args.place c.in-Some.seq.0 (sym c.nth.ensures ∙ ap (option_map (λ (s : Seqnum). s.0)) some) (sym c.record.ensures ∙ ap option_copied none)))

pub returns-clause-found : goal.returns-clause-found
returns-clause-found c =
    let some : c.nth.result ≡ Some c.in-Some.seq = search rules in
    let there : c.record.result ≡ Some c.in-Some-record.rec = search rules in
    ap (λ x. Some (c.in-Some.seq, x)) (c.in_ok-body.ensures ∙ ap body_of c.as_slice.ensures)
    ∙ sym (ap (option_map seqnum_and_body) (record_there c.args.book.now c.args.engine c.args.tag.0 c.args.place c.in-Some.seq.0 c.in-Some-record.rec.now (sym c.nth.ensures ∙ ap (option_map (λ (s : Seqnum). s.0)) some) (sym c.record.ensures ∙ ap option_copied there)))

pub returns-clause-range : goal.returns-clause-range
returns-clause-range c sound =
    let there : c.record.result ≡ Some c.in-Some-record.rec = search rules in
    is_ranged c.args.book.now c.in-Some.seq.0 c.in-Some-record.rec.now c.in_ok-body.body sound (sym c.record.ensures ∙ ap option_copied there) (c.in_ok-body.ensures ∙ ap body_of c.as_slice.ensures)
