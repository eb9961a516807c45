use Rattle.std.proofs.Common.{◌≡◌, ◌∙◌, ◌≤◌, option_map, sym, ap, arith, rules}
use Rattle.std.specs.Option.{option_copied}
use Rattle.boki_machine.specs.Step.{fenced_value}
use Rattle.book_api.specs.Books.{position}
use Rattle.step_log.specs.Sound.{live_bodies}
use Rattle.store_laws.proofs.Told.{views_tell_last}
use Rattle.hm_read.specs.LastWrites.{write_parts}
use Rattle.hm_read.proofs.Wholes.{fenced_whole}
use Rattle.hm_write.proofs.Marking.{read_value}
use Rattle.hm_write.proofs.marked.read_marked.Goals as goal

pub returns-clause-ok : goal.returns-clause-ok
returns-clause-ok c =
    let book = c.args.book.now in
    let above : c.args.store.now.floor ≤ c.args.at.0 = omega arith in
    read_value book c.args.engine c.args.at.0 c.args.store.now c.read_fenced.new.store c.args.key.now c.in_ok-value.value above (λ m are le.
    let last : option_copied c.as_ref.result ≡ c.in_ok-last.last = search rules in
    let told =
    ap (option_map write_parts) last ∙ c.in_ok-last.ensures are.sound
    ∙ views_tell_last (live_bodies book) c.args.key.now (position book c.args.engine) c.args.at.0 le in
    let done = c.in_ok-value.ensures.ok m (live_bodies book) are.store told in
    (done.0 ∙ sym (ap fenced_value (fenced_whole book m c.args.engine c.args.key.now c.args.at.0 le)), done.1))
