use Rattle.std.proofs.Common.{◌≡◌, ◌∙◌, option_map, IfOk, sym, ap, subst, rules}
use Rattle.std.specs.Option.{option_copied}
use Rattle.boki_types.specs.declared.store.Fenced.{Fenced}
use Rattle.boki_machine.specs.Step.{fenced_value}
use Rattle.book_api.specs.Books.{position}
use Rattle.step_log.specs.Sound.{live_bodies}
use Rattle.store_laws.proofs.Told.{views_tell_last}
use Rattle.hm_read.specs.LastWrites.{write_parts}
use Rattle.hm_read.proofs.Wholes.{fenced_whole}
use Rattle.hm_write.proofs.Marking.{value_is}
use Rattle.hm_write.proofs.marked.value_before.Goals as goal

pub returns : goal.returns
returns c = value_is c.args.book.now c.args.engine c.args.at.0 c.args.store.now c.args.key.now c.told_value.result (λ m are le.
    let book = c.args.book.now in
    let same : option_copied c.as_ref.result ≡ c.in_ok-last.last = search rules in
    let told =
    ap (option_map write_parts) same ∙ c.in_ok-last.ensures are.sound
    ∙ views_tell_last (live_bodies book) c.args.key.now (position book c.args.engine) c.args.at.0 le in
    subst (λ (x : Fenced). IfOk c.told_value.result (λ v. v ≡ fenced_value x)) (sym (fenced_whole book m c.args.engine c.args.key.now c.args.at.0 le))
    (c.told_value.ensures m (live_bodies book) are.store told))
