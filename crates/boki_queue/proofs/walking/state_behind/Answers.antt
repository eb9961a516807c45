use Rattle.std.proofs.Common.{◌≡◌, ◌∙◌, None, Some, sym, ap, rules}
use Rattle.std.specs.Option.{option_copied}
use Rattle.boki_queue.proofs.Kept.{kept_none, kept_some, kept_other, within_there}
use Rattle.boki_queue.proofs.walking.state_behind.Goals as goal

pub returns-in_default-clause-none : goal.returns-in_default-clause-none
returns-in_default-clause-none c =
    let none : c.peek.result ≡ None = search rules in
    λ e. kept_none c.args.rows.now.items c.args.entries.now c.args.seq.0 c.args.queue.now (sym c.peek.ensures ∙ ap option_copied none)

pub is_of-requires : goal.is_of-requires
is_of-requires c =
    let some : c.peek.result ≡ Some c.in-Some.window = search rules in
    within_there c.args.rows.now.items c.args.entries.now c.args.seq.0 c.in-Some.window.now c.requires (sym c.peek.ensures ∙ ap option_copied some)

pub returns-then-is_of-clause-some : goal.returns-then-is_of-clause-some
returns-then-is_of-clause-some c =
    let some : c.peek.result ≡ Some c.in-Some.window = search rules in
    let found = sym c.peek.ensures ∙ ap option_copied some in
    record {
      within = within_there c.args.rows.now.items c.args.entries.now c.args.seq.0 c.in-Some.window.now c.requires found;
      kept = kept_some c.args.rows.now.items c.args.entries.now c.args.seq.0 c.in-Some.window.now found;
      queue = search rules;
    }

pub returns-else-is_of-clause-none : goal.returns-else-is_of-clause-none
returns-else-is_of-clause-none c =
    let some : c.peek.result ≡ Some c.in-Some.window = search rules in
    let found = sym c.peek.ensures ∙ ap option_copied some in
    λ e. kept_other c.args.rows.now.items c.args.entries.now c.args.seq.0 c.args.queue.now c.in-Some.window.now found (search rules)
