use Rattle.std.proofs.Common.{List, ℕ, [], ◌∷◌, sym, ap, ◌∙◌}
use Rattle.boki_model.specs.Plans.{variables_set}
use Rattle.boki_model.specs.Script.{pair_names}
use Rattle.script_lang.specs.Names.{names_in}
use Rattle.script_lang.proofs.KnownNames.{names_added}
use Rattle.script_lang.proofs.names.add_sets.Goals as goal

pub returns-in-Let : goal.returns-in-Let
returns-in-Let c =
    names_added c.add_name.result (names_in c.args.known.now) (names_in c.add_name.new.known) _ _ (ap (λ (name : List ℕ). name ∷ []) c.as_str.ensures ∙ ap variables_set (sym c.in-Let.is)) c.add_name.ensures

pub returns-in-Read : goal.returns-in-Read
returns-in-Read c =
    names_added c.add_name-in-Read.result (names_in c.args.known.now) (names_in c.add_name-in-Read.new.known) _ _ (ap (λ (name : List ℕ). name ∷ []) c.as_str-in-Read.ensures ∙ ap variables_set (sym c.in-Read.is)) c.add_name-in-Read.ensures

pub returns-in-Spawn : goal.returns-in-Spawn
returns-in-Spawn c =
    names_added c.add_name-in-Spawn.result (names_in c.args.known.now) (names_in c.add_name-in-Spawn.new.known) _ _ (ap (λ (name : List ℕ). name ∷ []) c.as_str-in-Spawn.ensures ∙ ap variables_set (sym c.in-Spawn.is)) c.add_name-in-Spawn.ensures

pub returns-in-Join : goal.returns-in-Join
returns-in-Join c =
    names_added c.add_name-in-Join.result (names_in c.args.known.now) (names_in c.add_name-in-Join.new.known) _ _ (ap (λ (name : List ℕ). name ∷ []) c.as_str-in-Join.ensures ∙ ap variables_set (sym c.in-Join.is)) c.add_name-in-Join.ensures

pub returns-in-Pop : goal.returns-in-Pop
returns-in-Pop c =
    names_added c.add_name-in-Pop.result (names_in c.args.known.now) (names_in c.add_name-in-Pop.new.known) _ _ (ap (λ (name : List ℕ). name ∷ []) c.as_str-in-Pop.ensures ∙ ap variables_set (sym c.in-Pop.is)) c.add_name-in-Pop.ensures

pub returns-in-Commit : goal.returns-in-Commit
returns-in-Commit c =
    names_added c.add_name-in-Commit.result (names_in c.args.known.now) (names_in c.add_name-in-Commit.new.known) _ _ (ap (λ (name : List ℕ). name ∷ []) c.as_str-in-Commit.ensures ∙ ap variables_set (sym c.in-Commit.is)) c.add_name-in-Commit.ensures

pub returns-in-Begin : goal.returns-in-Begin
returns-in-Begin c =
    names_added c.add_firsts.result (names_in c.args.known.now) (names_in c.add_firsts.new.known) _ _ (ap pair_names c.as_slice.ensures ∙ ap variables_set (sym c.in-Begin.is)) c.add_firsts.ensures

pub returns-in-ReadAll : goal.returns-in-ReadAll
returns-in-ReadAll c =
    names_added c.add_firsts-in-ReadAll.result (names_in c.args.known.now) (names_in c.add_firsts-in-ReadAll.new.known) _ _ (ap pair_names c.as_slice-in-ReadAll.ensures ∙ ap variables_set (sym c.in-ReadAll.is)) c.add_firsts-in-ReadAll.ensures
