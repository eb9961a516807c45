use Rattle.std.proofs.Common.{◌≡◌, ◌∙◌, true, false, IfOk, OnErr, refl, sym, ap, subst, rules}
use Rattle.boki_types.specs.declared.operation.Ask.TheVariants as k
use Rattle.boki_types.specs.declared.operation.Op.TheVariants as o
use Rattle.attempt_state.specs.declared.state.AttemptState.{AttemptState}
use Rattle.boki_flow.specs.Arms.{MovesBy, CutShortBy, HasBegun, ScriptAsks, script_move, read_move, read_group_move, write_move, join_move, send_move}
use Rattle.boki_flow.proofs.Leading.{can_if, leads_moves, leads_cut}
use Rattle.boki_flow.proofs.ScriptCases.{asks_move, sends_other, is_sent}
use Rattle.boki_flow.proofs.asking.step_script.Goals.{in_default-ask-via-in-Op+in_default, in_default-ask-via-in_default}
use Rattle.boki_flow.proofs.asking.step_script.Goals as goal

pub read_next-requires : goal.read_next-requires
read_next-requires c =
    let fs = c.args.program.now.functions in
    let old = c.args.parts.now in
    let kept = c.args.state.now in
    let asks = k.Op (o.Read c.in_ok-key-in-Op-Read.key) in
    let copied_0 : c.in-Op-Read.key ≡ c.in_ok-key-in-Op-Read.key = (let same : c.in_ok-key-in-Op-Read.key ≡ c.in-Op-Read.key = search rules in sym same) in
    let asked : c.in-Some.frame.ask ≡ asks = sym c.ask.ensures.same ∙ (let is : c.ask.result.now ≡ k.Op (o.Read c.in-Op-Read.key) = search rules in is) ∙ ap (λ key. k.Op (o.Read key)) copied_0 in
    let leads = asks_move fs old kept c.in-Some.frame c.in-Some.is asks asked (read_move old c.in_ok-key-in-Op-Read.key) (λ setup store a. refl) in
    can_if HasBegun (ScriptAsks fs asks) fs old kept leads.needs c.requires

pub returns-in_ok-key-in-Op-Read-clause-ok : goal.returns-in_ok-key-in-Op-Read-clause-ok
returns-in_ok-key-in-Op-Read-clause-ok c =
    let fs = c.args.program.now.functions in
    let old = c.args.parts.now in
    let kept = c.args.state.now in
    let asks = k.Op (o.Read c.in_ok-key-in-Op-Read.key) in
    let copied_0 : c.in-Op-Read.key ≡ c.in_ok-key-in-Op-Read.key = (let same : c.in_ok-key-in-Op-Read.key ≡ c.in-Op-Read.key = search rules in sym same) in
    let asked : c.in-Some.frame.ask ≡ asks = sym c.ask.ensures.same ∙ (let is : c.ask.result.now ≡ k.Op (o.Read c.in-Op-Read.key) = search rules in is) ∙ ap (λ key. k.Op (o.Read key)) copied_0 in
    let leads = asks_move fs old kept c.in-Some.frame c.in-Some.is asks asked (read_move old c.in_ok-key-in-Op-Read.key) (λ setup store a. refl) in
    leads_moves HasBegun (ScriptAsks fs asks) fs old c.read_next.new.parts (script_move fs old) (read_move old c.in_ok-key-in-Op-Read.key) kept c.read_next.new.state leads
    c.read_next.result c.read_next.ensures.ok

pub returns-in_ok-key-in-Op-Read-clause-cut : goal.returns-in_ok-key-in-Op-Read-clause-cut
returns-in_ok-key-in-Op-Read-clause-cut c =
    let fs = c.args.program.now.functions in
    let old = c.args.parts.now in
    let kept = c.args.state.now in
    let asks = k.Op (o.Read c.in_ok-key-in-Op-Read.key) in
    let copied_0 : c.in-Op-Read.key ≡ c.in_ok-key-in-Op-Read.key = (let same : c.in_ok-key-in-Op-Read.key ≡ c.in-Op-Read.key = search rules in sym same) in
    let asked : c.in-Some.frame.ask ≡ asks = sym c.ask.ensures.same ∙ (let is : c.ask.result.now ≡ k.Op (o.Read c.in-Op-Read.key) = search rules in is) ∙ ap (λ key. k.Op (o.Read key)) copied_0 in
    let leads = asks_move fs old kept c.in-Some.frame c.in-Some.is asks asked (read_move old c.in_ok-key-in-Op-Read.key) (λ setup store a. refl) in
    leads_cut HasBegun (ScriptAsks fs asks) fs old c.read_next.new.parts (script_move fs old) (read_move old c.in_ok-key-in-Op-Read.key) kept c.read_next.new.state leads
    c.read_next.result c.read_next.ensures.cut

pub read_group_next-requires : goal.read_group_next-requires
read_group_next-requires c =
    let fs = c.args.program.now.functions in
    let old = c.args.parts.now in
    let kept = c.args.state.now in
    let asks = k.Op (o.ReadGroup c.in_ok-keys-in-Op-ReadGroup.keys) in
    let copied_0 : c.in-Op-ReadGroup.keys ≡ c.in_ok-keys-in-Op-ReadGroup.keys = (let same : c.in_ok-keys-in-Op-ReadGroup.keys ≡ c.in-Op-ReadGroup.keys = search rules in sym same) in
    let asked : c.in-Some.frame.ask ≡ asks = sym c.ask.ensures.same ∙ (let is : c.ask.result.now ≡ k.Op (o.ReadGroup c.in-Op-ReadGroup.keys) = search rules in is) ∙ ap (λ key. k.Op (o.ReadGroup key)) copied_0 in
    let leads = asks_move fs old kept c.in-Some.frame c.in-Some.is asks asked (read_group_move old c.in_ok-keys-in-Op-ReadGroup.keys) (λ setup store a. refl) in
    can_if HasBegun (ScriptAsks fs asks) fs old kept leads.needs c.requires

pub returns-in_ok-keys-in-Op-ReadGroup-clause-ok : goal.returns-in_ok-keys-in-Op-ReadGroup-clause-ok
returns-in_ok-keys-in-Op-ReadGroup-clause-ok c =
    let fs = c.args.program.now.functions in
    let old = c.args.parts.now in
    let kept = c.args.state.now in
    let asks = k.Op (o.ReadGroup c.in_ok-keys-in-Op-ReadGroup.keys) in
    let copied_0 : c.in-Op-ReadGroup.keys ≡ c.in_ok-keys-in-Op-ReadGroup.keys = (let same : c.in_ok-keys-in-Op-ReadGroup.keys ≡ c.in-Op-ReadGroup.keys = search rules in sym same) in
    let asked : c.in-Some.frame.ask ≡ asks = sym c.ask.ensures.same ∙ (let is : c.ask.result.now ≡ k.Op (o.ReadGroup c.in-Op-ReadGroup.keys) = search rules in is) ∙ ap (λ key. k.Op (o.ReadGroup key)) copied_0 in
    let leads = asks_move fs old kept c.in-Some.frame c.in-Some.is asks asked (read_group_move old c.in_ok-keys-in-Op-ReadGroup.keys) (λ setup store a. refl) in
    leads_moves HasBegun (ScriptAsks fs asks) fs old c.read_group_next.new.parts (script_move fs old) (read_group_move old c.in_ok-keys-in-Op-ReadGroup.keys) kept c.read_group_next.new.state leads
    c.read_group_next.result c.read_group_next.ensures.ok

pub returns-in_ok-keys-in-Op-ReadGroup-clause-cut : goal.returns-in_ok-keys-in-Op-ReadGroup-clause-cut
returns-in_ok-keys-in-Op-ReadGroup-clause-cut c =
    let fs = c.args.program.now.functions in
    let old = c.args.parts.now in
    let kept = c.args.state.now in
    let asks = k.Op (o.ReadGroup c.in_ok-keys-in-Op-ReadGroup.keys) in
    let copied_0 : c.in-Op-ReadGroup.keys ≡ c.in_ok-keys-in-Op-ReadGroup.keys = (let same : c.in_ok-keys-in-Op-ReadGroup.keys ≡ c.in-Op-ReadGroup.keys = search rules in sym same) in
    let asked : c.in-Some.frame.ask ≡ asks = sym c.ask.ensures.same ∙ (let is : c.ask.result.now ≡ k.Op (o.ReadGroup c.in-Op-ReadGroup.keys) = search rules in is) ∙ ap (λ key. k.Op (o.ReadGroup key)) copied_0 in
    let leads = asks_move fs old kept c.in-Some.frame c.in-Some.is asks asked (read_group_move old c.in_ok-keys-in-Op-ReadGroup.keys) (λ setup store a. refl) in
    leads_cut HasBegun (ScriptAsks fs asks) fs old c.read_group_next.new.parts (script_move fs old) (read_group_move old c.in_ok-keys-in-Op-ReadGroup.keys) kept c.read_group_next.new.state leads
    c.read_group_next.result c.read_group_next.ensures.cut

pub write_next-requires : goal.write_next-requires
write_next-requires c =
    let fs = c.args.program.now.functions in
    let old = c.args.parts.now in
    let kept = c.args.state.now in
    let asks = k.Op (o.Write c.in_ok-key-in-Op-Write.key c.in_ok-value-in-Op-Write.value) in
    let copied_0 : c.in-Op-Write.key ≡ c.in_ok-key-in-Op-Write.key = (let same : c.in_ok-key-in-Op-Write.key ≡ c.in-Op-Write.key = search rules in sym same) in
    let copied_1 : c.in-Op-Write.value ≡ c.in_ok-value-in-Op-Write.value = (let same : c.in_ok-value-in-Op-Write.value ≡ c.in-Op-Write.value = search rules in sym same) in
    let asked : c.in-Some.frame.ask ≡ asks = sym c.ask.ensures.same ∙ (let is : c.ask.result.now ≡ k.Op (o.Write c.in-Op-Write.key c.in-Op-Write.value) = search rules in is) ∙ ap (λ key. k.Op (o.Write key c.in-Op-Write.value)) copied_0 ∙ ap (λ v. k.Op (o.Write c.in_ok-key-in-Op-Write.key v)) copied_1 in
    let leads = asks_move fs old kept c.in-Some.frame c.in-Some.is asks asked (write_move old c.in_ok-key-in-Op-Write.key c.in_ok-value-in-Op-Write.value) (λ setup store a. refl) in
    can_if HasBegun (ScriptAsks fs asks) fs old kept leads.needs c.requires

pub returns-in_ok-value-in-Op-Write-clause-ok : goal.returns-in_ok-value-in-Op-Write-clause-ok
returns-in_ok-value-in-Op-Write-clause-ok c =
    let fs = c.args.program.now.functions in
    let old = c.args.parts.now in
    let kept = c.args.state.now in
    let asks = k.Op (o.Write c.in_ok-key-in-Op-Write.key c.in_ok-value-in-Op-Write.value) in
    let copied_0 : c.in-Op-Write.key ≡ c.in_ok-key-in-Op-Write.key = (let same : c.in_ok-key-in-Op-Write.key ≡ c.in-Op-Write.key = search rules in sym same) in
    let copied_1 : c.in-Op-Write.value ≡ c.in_ok-value-in-Op-Write.value = (let same : c.in_ok-value-in-Op-Write.value ≡ c.in-Op-Write.value = search rules in sym same) in
    let asked : c.in-Some.frame.ask ≡ asks = sym c.ask.ensures.same ∙ (let is : c.ask.result.now ≡ k.Op (o.Write c.in-Op-Write.key c.in-Op-Write.value) = search rules in is) ∙ ap (λ key. k.Op (o.Write key c.in-Op-Write.value)) copied_0 ∙ ap (λ v. k.Op (o.Write c.in_ok-key-in-Op-Write.key v)) copied_1 in
    let leads = asks_move fs old kept c.in-Some.frame c.in-Some.is asks asked (write_move old c.in_ok-key-in-Op-Write.key c.in_ok-value-in-Op-Write.value) (λ setup store a. refl) in
    leads_moves HasBegun (ScriptAsks fs asks) fs old c.write_next.new.parts (script_move fs old) (write_move old c.in_ok-key-in-Op-Write.key c.in_ok-value-in-Op-Write.value) kept c.write_next.new.state leads
    c.write_next.result c.write_next.ensures.ok

pub returns-in_ok-value-in-Op-Write-clause-cut : goal.returns-in_ok-value-in-Op-Write-clause-cut
returns-in_ok-value-in-Op-Write-clause-cut c =
    let fs = c.args.program.now.functions in
    let old = c.args.parts.now in
    let kept = c.args.state.now in
    let asks = k.Op (o.Write c.in_ok-key-in-Op-Write.key c.in_ok-value-in-Op-Write.value) in
    let copied_0 : c.in-Op-Write.key ≡ c.in_ok-key-in-Op-Write.key = (let same : c.in_ok-key-in-Op-Write.key ≡ c.in-Op-Write.key = search rules in sym same) in
    let copied_1 : c.in-Op-Write.value ≡ c.in_ok-value-in-Op-Write.value = (let same : c.in_ok-value-in-Op-Write.value ≡ c.in-Op-Write.value = search rules in sym same) in
    let asked : c.in-Some.frame.ask ≡ asks = sym c.ask.ensures.same ∙ (let is : c.ask.result.now ≡ k.Op (o.Write c.in-Op-Write.key c.in-Op-Write.value) = search rules in is) ∙ ap (λ key. k.Op (o.Write key c.in-Op-Write.value)) copied_0 ∙ ap (λ v. k.Op (o.Write c.in_ok-key-in-Op-Write.key v)) copied_1 in
    let leads = asks_move fs old kept c.in-Some.frame c.in-Some.is asks asked (write_move old c.in_ok-key-in-Op-Write.key c.in_ok-value-in-Op-Write.value) (λ setup store a. refl) in
    leads_cut HasBegun (ScriptAsks fs asks) fs old c.write_next.new.parts (script_move fs old) (write_move old c.in_ok-key-in-Op-Write.key c.in_ok-value-in-Op-Write.value) kept c.write_next.new.state leads
    c.write_next.result c.write_next.ensures.cut

pub step_join-requires : goal.step_join-requires
step_join-requires c =
    let fs = c.args.program.now.functions in
    let old = c.args.parts.now in
    let kept = c.args.state.now in
    let asks = k.Op (o.Join c.in-Op-Join.ordinal) in
    let asked : c.in-Some.frame.ask ≡ asks = sym c.ask.ensures.same ∙ (let is : c.ask.result.now ≡ asks = search rules in is) in
    let leads = asks_move fs old kept c.in-Some.frame c.in-Some.is asks asked (join_move old c.in-Op-Join.ordinal) (λ setup store a. refl) in
    can_if HasBegun (ScriptAsks fs asks) fs old kept leads.needs c.requires

pub returns-in-Op-Join-clause-ok : goal.returns-in-Op-Join-clause-ok
returns-in-Op-Join-clause-ok c =
    let fs = c.args.program.now.functions in
    let old = c.args.parts.now in
    let kept = c.args.state.now in
    let asks = k.Op (o.Join c.in-Op-Join.ordinal) in
    let asked : c.in-Some.frame.ask ≡ asks = sym c.ask.ensures.same ∙ (let is : c.ask.result.now ≡ asks = search rules in is) in
    let leads = asks_move fs old kept c.in-Some.frame c.in-Some.is asks asked (join_move old c.in-Op-Join.ordinal) (λ setup store a. refl) in
    leads_moves HasBegun (ScriptAsks fs asks) fs old c.step_join.new.parts (script_move fs old) (join_move old c.in-Op-Join.ordinal) kept c.step_join.new.state leads
    c.step_join.result c.step_join.ensures.ok

pub returns-in-Op-Join-clause-cut : goal.returns-in-Op-Join-clause-cut
returns-in-Op-Join-clause-cut c =
    let fs = c.args.program.now.functions in
    let old = c.args.parts.now in
    let kept = c.args.state.now in
    let asks = k.Op (o.Join c.in-Op-Join.ordinal) in
    let asked : c.in-Some.frame.ask ≡ asks = sym c.ask.ensures.same ∙ (let is : c.ask.result.now ≡ asks = search rules in is) in
    let leads = asks_move fs old kept c.in-Some.frame c.in-Some.is asks asked (join_move old c.in-Op-Join.ordinal) (λ setup store a. refl) in
    leads_cut HasBegun (ScriptAsks fs asks) fs old c.step_join.new.parts (script_move fs old) (join_move old c.in-Op-Join.ordinal) kept c.step_join.new.state leads
    c.step_join.result c.step_join.ensures.cut

pub returns-in_default-ask-clause-ok : goal.returns-in_default-ask-clause-ok
returns-in_default-ask-clause-ok c =
    let fs = c.args.program.now.functions in
    let old = c.args.parts.now in
    let kept = c.args.state.now in
    let sent : is_sent c.ask.result.now ≡ true = (elim c.in_default-ask.branch [ in_default-ask-via-in-Op+in_default w ↦ search rules | in_default-ask-via-in_default w ↦ search rules ]) in
    let is : c.in_default-ask.state ≡ kept = (elim c.in_default-ask.branch [ in_default-ask-via-in-Op+in_default w ↦ w.state-is | in_default-ask-via-in_default w ↦ w.state-is ]) in
    leads_moves HasBegun HasBegun fs old c.send_next.new.parts (script_move fs old) (send_move fs old false kept.frame) kept c.send_next.new.state
    (sends_other fs old kept c.in-Some.frame c.in-Some.is c.ask.result.now (sym c.ask.ensures.same) sent) c.send_next.result
    (subst (λ (state : AttemptState). IfOk c.send_next.result (MovesBy HasBegun (send_move fs old false state.frame) fs old c.send_next.new.parts state c.send_next.new.state)) is c.send_next.ensures.ok)

pub returns-in_default-ask-clause-cut : goal.returns-in_default-ask-clause-cut
returns-in_default-ask-clause-cut c =
    let fs = c.args.program.now.functions in
    let old = c.args.parts.now in
    let kept = c.args.state.now in
    let sent : is_sent c.ask.result.now ≡ true = (elim c.in_default-ask.branch [ in_default-ask-via-in-Op+in_default w ↦ search rules | in_default-ask-via-in_default w ↦ search rules ]) in
    let is : c.in_default-ask.state ≡ kept = (elim c.in_default-ask.branch [ in_default-ask-via-in-Op+in_default w ↦ w.state-is | in_default-ask-via-in_default w ↦ w.state-is ]) in
    leads_cut HasBegun HasBegun fs old c.send_next.new.parts (script_move fs old) (send_move fs old false kept.frame) kept c.send_next.new.state
    (sends_other fs old kept c.in-Some.frame c.in-Some.is c.ask.result.now (sym c.ask.ensures.same) sent) c.send_next.result
    (subst (λ (state : AttemptState). OnErr c.send_next.result (CutShortBy HasBegun (send_move fs old false state.frame) fs old c.send_next.new.parts state)) is c.send_next.ensures.cut)
