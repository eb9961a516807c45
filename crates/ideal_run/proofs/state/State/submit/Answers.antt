use Rattle.std.proofs.Common.{◌≡◌, ◌∷◌, [], ℕ, List, false, length, is_some, sym, ap, subst, ◌∙◌, rules}
use Rattle.boki_model.specs.Maps.{get, put}
use Rattle.boki_types.specs.declared.turn.Turn.TheVariants as move
use Rattle.boki_machine.specs.Ideal as ideal
use Rattle.ideal_run.specs.declared.kept.KnownInvocation.{KnownInvocation}
use Rattle.ideal_run.specs.Kept.{Maps, maps_of}
use Rattle.ideal_run.specs.Acts.{IsNewInvocation}
use Rattle.ideal_run.specs.Turned.{LeadsTo}
use Rattle.ideal_run.proofs.Entries.{put_is}
use Rattle.ideal_run.proofs.Turning.{copied_some, submits}
use Rattle.ideal_run.proofs.state.State.submit.Goals as goal

pub returns-clause-ok : goal.returns-clause-ok
returns-clause-ok c = λ request is m stands.
    let fs = c.args.program.now.functions in
    let x : Maps = maps_of c.args.self.now in
    let none : is_some (get c.args.path c.args.self.now.invocations.entries) ≡ false = (let e : is_some c.known.result ≡ false = search rules in ap is_some (sym c.known.ensures) ∙ copied_some c.known.result ∙ e) in
    let new : is_some (get (request ∷ []) c.args.self.now.invocations.entries) ≡ false = ap (λ (z : List ℕ). is_some (get z c.args.self.now.invocations.entries)) (sym is) ∙ none in
    let starts = subst (λ (z : List ℕ). IsNewInvocation fs c.args.function c.args.args.now (length z) c.in_ok-known.known) is c.in_ok-known.ensures in
    subst (λ (es : List (List ℕ × KnownInvocation)). LeadsTo fs (ideal.apply_turn fs (move.Submit request c.args.function c.args.args.now) m) (record x { invocations = es }))
    (sym (put_is c.args.path c.in_ok-known.known c.args.self.now.invocations.entries c.insert.new.self.entries c.in_ok-insert.ensures.entries ∙ ap (λ (z : List ℕ). put z c.in_ok-known.known c.args.self.now.invocations.entries) is))
    (submits fs m x request c.args.function c.args.args.now stands new c.in_ok-known.known starts)
