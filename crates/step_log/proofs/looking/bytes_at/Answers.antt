use Rattle.std.proofs.Common.{◌≡◌, ◌∙◌, Some, None, Option, Ok, sym, ap, option_map, rules}
use Rattle.std.specs.Option.{option_copied}
use Rattle.lb_base.specs.declared.value.Seqnum.{Seqnum}
use Rattle.boki_types.specs.declared.body.Body.{Body}
use Rattle.boki_model.specs.Live.{Live}
use Rattle.rec_codec.specs.Reading.{read}
use Rattle.step_log.specs.Sound.{body_of}
use Rattle.step_log.proofs.Placed.{none_there, no_record_there, record_there, is_spelled_there}
use Rattle.step_log.proofs.looking.bytes_at.Goals as goal

-- the answer where there is none, by what the place holds
none_said : {B : Type 0} (f : B → Body) (result : Option B) (there : Option (Live Body)) → result ≡ None → there ≡ None → option_map f result ≡ option_map (λ (x : Live Body). x.holds) there
none_said f result there none is = ap (option_map f) none ∙ sym (ap (option_map (λ (x : Live Body). x.holds)) is)

pub returns-in_err-seq-clause-says : goal.returns-in_err-seq-clause-says
returns-in_err-seq-clause-says c =
    let none : c.nth.result ≡ None = search rules in
    none_said _ c.from_residual.result _ (search rules) (none_there c.args.book.now c.args.engine c.args.tag.0 c.args.place (sym c.nth.ensures ∙ ap (option_map (λ (s : Seqnum). s.0)) none))

pub returns-in_err-rec-clause-says : goal.returns-in_err-rec-clause-says
returns-in_err-rec-clause-says c =
    let some : c.nth.result ≡ Some c.in_ok-seq.seq = search rules in
    let none : c.record.result ≡ None = search rules in
    none_said _ c.from_residual-in_err-rec.result _ (search rules) (no_record_there c.args.book.now c.args.engine c.args.tag.0 c.args.place c.in_ok-seq.seq.0 (sym c.nth.ensures ∙ ap (option_map (λ (s : Seqnum). s.0)) some) (sym c.record.ensures ∙ ap option_copied none))

pub returns-clause-says : goal.returns-clause-says
returns-clause-says c =
    let some : c.nth.result ≡ Some c.in_ok-seq.seq = search rules in
    let there : c.record.result ≡ Some c.in_ok-rec.rec = search rules in
    ap (λ l. Some (body_of l)) c.as_slice.ensures
    ∙ sym (ap (option_map (λ (x : Live Body). x.holds)) (record_there c.args.book.now c.args.engine c.args.tag.0 c.args.place c.in_ok-seq.seq.0 c.in_ok-rec.rec.now (sym c.nth.ensures ∙ ap (option_map (λ (s : Seqnum). s.0)) some) (sym c.record.ensures ∙ ap option_copied there)))

pub returns-clause-spells : goal.returns-clause-spells
returns-clause-spells c sound =
    let there : c.record.result ≡ Some c.in_ok-rec.rec = search rules in
    let spelled = is_spelled_there c.args.book.now c.in_ok-seq.seq.0 c.in_ok-rec.rec.now sound (sym c.record.ensures ∙ ap option_copied there) in
    ap read c.as_slice.ensures ∙ spelled.spells ∙ ap (λ l. Ok (body_of l)) (sym c.as_slice.ensures)
