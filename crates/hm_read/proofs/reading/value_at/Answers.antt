use Rattle.std.proofs.Common.{◌≡◌, ◌∙◌, ◌≤◌, suc, option_map, IfOk, sym, ap, subst, arith, rules}
use Rattle.std.specs.Option.{option_copied}
use Rattle.boki_types.specs.declared.store.Fenced.{Fenced}
use Rattle.boki_machine.specs.Step.{fenced_value}
use Rattle.book_api.specs.Books.{position}
use Rattle.step_log.specs.Sound.{live_bodies}
use Rattle.store_laws.proofs.Told.{views_tell_last}
use Rattle.hm_read.specs.LastWrites.{write_parts}
use Rattle.hm_read.proofs.Answering.{value_is}
use Rattle.hm_read.proofs.Wholes.{free_whole}
use Rattle.hm_read.proofs.reading.value_at.Goals as goal

pub returns : goal.returns
returns c = value_is c.args.book.now c.args.store.now c.args.engine c.args.cursor.0 c.args.key.now c.told_value.result (λ m are le.
    let book = c.args.book.now in
    let same : option_copied c.as_ref.result ≡ c.in_ok-last.last = search rules in
    let told =
    ap (option_map write_parts) same ∙ c.in_ok-last.ensures are.sound
    ∙ views_tell_last (live_bodies book) c.args.key.now (position book c.args.engine) (suc c.args.cursor.0) (let h : suc c.args.cursor.0 ≤ suc (position book c.args.engine) = omega (arith, le) in h) in
    subst (λ (x : Fenced). IfOk c.told_value.result (λ v. v ≡ fenced_value x)) (sym (free_whole book m c.args.engine c.args.key.now c.args.cursor.0 le))
    (c.told_value.ensures m (live_bodies book) are.store told))
