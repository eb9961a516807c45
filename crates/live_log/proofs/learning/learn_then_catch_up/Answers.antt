use Rattle.std.proofs.Common.{◌≡◌, ℕ, length, map, sym, ◌∙◌, subst}
use Rattle.live_log.specs.Appended.{Appended}
use Rattle.live_log.specs.Engines.{AllBelow}
use Rattle.live_log.proofs.Engines.{stands_below}
use Rattle.live_log.proofs.learning.learn_then_catch_up.Goals as goal

pub returns-clause-own : goal.returns-clause-own
returns-clause-own g c =
    let engine = c.catch_up.new.self in
    let ok = c.in_ok-position.ensures.ok in
    let covered : length c.catch_up.new.self.seen ≡ c.in_ok-position.position = sym (ok.0 ∙ ok.1) in
    subst (λ n. AllBelow n (map (λ (own : ℕ × Appended). own.0) engine.appends)) covered (stands_below engine.seen engine.appends c.in_ok-position.ensures.own)
