use Rattle.std.proofs.Common.{◌∙◌, sym, ap, subst}
use Rattle.cluster_events.specs.Lines.{line_of_aux, HasUtf8}
use Rattle.cluster_events.proofs.AuxData.{aux_is_text}
use Rattle.cluster_events.proofs.Said.{get_said}
use Rattle.cluster_events.proofs.reading.aux.Goals as goal

pub returns : goal.returns
returns c fs setup m valid are =
    let text = subst HasUtf8 (sym c.aux.ensures) (aux_is_text setup fs m c.args.parts.now are c.args.engine c.args.seq valid) in
    get_said setup fs m c.args.parts.now are c.args.engine c.args.seq c.get_aux.new.self c.in_ok-line.line valid c.get_aux.ensures.after
    (c.in_ok-line.ensures text ∙ ap line_of_aux c.aux.ensures)
