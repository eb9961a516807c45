use Rattle.std.proofs.Common.{◌∙◌, refl, sym, ap}
use Rattle.attempt_state.specs.declared.progress.Progress.{Progress}
use Rattle.attempt_store.proofs.Results.{stored_stands}
use Rattle.attempt_store.proofs.WriteMoves.{stores_at, name_gone, name_done}
use Rattle.attempt_store.proofs.writing.store_value.Goals as goal

pub returns-in-Gone-clause-ok : goal.returns-in-Gone-clause-ok
returns-in-Gone-clause-ok c = λ functions m records a at kept stands script settled.
    let is = stores_at a c.write_name.result c.args.state.now.progress.cursor.0 c.args.value c.args.store.now c.store_write.new.store c.in_ok-store_write.field-0
    (c.write_name.ensures.path ∙ ap (λ (p : Progress). p.path) stands.progress) (c.write_name.ensures.place ∙ ap (λ (p : Progress). p.place) stands.progress)
    (ap (λ (p : Progress). p.cursor.0) stands.progress) c.in_ok-store_write.ensures.ok in
    name_gone functions a m records c.args.key c.args.value c.store_write.new.store c.end.new.self _ at (sym c.in-Gone.is ∙ is.answer m records kept settled) (is.after m records kept settled) refl
    (c.end.ensures functions a stands)

pub returns-in-Done-clause-ok : goal.returns-in-Done-clause-ok
returns-in-Done-clause-ok c = λ functions m records a at kept stands script settled.
    let is = stores_at a c.write_name.result c.args.state.now.progress.cursor.0 c.args.value c.args.store.now c.store_write.new.store c.in_ok-store_write.field-0
    (c.write_name.ensures.path ∙ ap (λ (p : Progress). p.path) stands.progress) (c.write_name.ensures.place ∙ ap (λ (p : Progress). p.place) stands.progress)
    (ap (λ (p : Progress). p.cursor.0) stands.progress) c.in_ok-store_write.ensures.ok in
    name_done functions a m records c.args.key c.args.value c.store_write.new.store _ _ at (sym c.in-Done.is ∙ is.answer m records kept settled) (is.after m records kept settled) refl
    (stored_stands functions a c.args.state.now stands)
