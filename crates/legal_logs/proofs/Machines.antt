-- What a machine orders is legal, and the report of its audit is the machine's.
use Rattle.std.proofs.Common.{◌≡◌, ℕ, suc, ◌<◌, true, false, List, [], ◌∷◌, length, Option, Some, Ok, refl, sym, ap, ◌∙◌, subst}
use Rattle.std.specs.Prelude.{option_and_then, IsTrue}
use Rattle.std.specs.List.{AllByRecursion}
use Rattle.boki_types.specs.declared.body.Body.{Body}
use Rattle.boki_types.specs.declared.plan.Setup.{Setup}
use Rattle.boki_types.specs.declared.program.Function.{Function}
use Rattle.boki_model.specs.Live.{Live, is_live}
use Rattle.boki_model.specs.Bodies.{step_of}
use Rattle.boki_model.specs.Writes.{Store, Version, versions_at}
use Rattle.boki_machine.specs.Machine.{log, live_records}
use Rattle.boki_machine.specs.Turns.{turn_of, turns_to, turns, add_next_index}
use Rattle.boki_machine.specs.Ideal.{Ideal, run_turns, initial_ideal}
use Rattle.boki_machine.specs.Reports.{ideal_report}
use Rattle.exactly_once.specs.Induction.SoundLogs.{AllMayFollow}
use Rattle.exactly_once.specs.FurtherLaws.Words.{values_only}
use Rattle.exactly_once.specs.Induction.ReportsAgree.{IsReported}
use Rattle.exactly_once.proofs.Log.LiveRecords.{Under, live_under}
use Rattle.exactly_once.proofs.Log.ListElements.{each_weaker}
use Rattle.exactly_once.proofs.Simulation.ExpectedState.{Agrees, Valid}
use Rattle.exactly_once.proofs.Simulation.SoundLogsRun.{RunsTo, runs_to}
use Rattle.exactly_once.proofs.Invariant.OpeningHolds.{holding_is_reported}
use Rattle.legal_logs.specs.Legal.{Audited, and_record, or_illegal, legal_to, state_behind, audited_report}
use Rattle.legal_logs.specs.Laws.{request_known, HoldingIsAudited}
use Rattle.legal_logs.proofs.Ahead.{Placed, placed_before, valid_before}
use Rattle.legal_logs.proofs.LastTurns.{AllQuiet, quiet_before, all_quiet, turns_need_no_store}
use Rattle.legal_logs.proofs.Runs.{append_turns}
use Rattle.legal_logs.proofs.Records.{AreKept, IsAudited, body_audited}

module _ (setup : Setup) (fs : List Function) (store : Store) where
  -- these records are legal, and their audit and their execution come to one state
  pub record LegalTo (ahead : List (List ℕ × ℕ)) (n : ℕ) (xs : List (Live Body)) : Type 0 where
    pub a : Audited
    pub legal : legal_to fs setup.mode store.initial ahead xs ≡ Ok a
    pub runs : RunsTo setup fs store ahead n xs
    pub same : a.state ≡ runs.state
    pub kept : AreKept setup fs store xs a.begun

  one_state : (s s' : Ideal) (o : Option Ideal) → o ≡ Some s → o ≡ Some s' → s ≡ s'
  one_state s s' o one two = let both : Some s ≡ Some s' = sym one ∙ two in cc

  one_more :
      (n : ℕ) (x : Live Body) (xs : List (Live Body)) (under : Under n (x ∷ xs)) (ahead : List (List ℕ × ℕ)) → AllMayFollow setup fs store (x ∷ xs) → Valid setup fs store ahead (x ∷ xs) → AllQuiet setup fs store ahead (x ∷ xs)
      → IsTrue (request_known fs x.holds) → RunsTo setup fs store ahead n (x ∷ xs) → LegalTo (add_next_index (step_of x.holds) ahead) under.0 xs → LegalTo ahead n (x ∷ xs)
  one_more n x xs under ahead fit valid quiet known now before =
      let ahead_before : List (List ℕ × ℕ) = add_next_index (step_of x.holds) ahead in
      let older = turns_to fs ahead_before store.versions xs in
      let own = turn_of fs ahead (versions_at x.seq store.versions) x.holds in
      let goes_on : run_turns fs own before.runs.state ≡ Some now.state =
      sym (append_turns fs older own (initial_ideal store.initial) ∙ ap (option_and_then (run_turns fs own)) before.runs.defined) ∙ now.defined in
      let agrees : Agrees setup fs store ahead_before x.seq xs before.a.state =
      subst (λ s. Agrees setup fs store ahead_before x.seq xs s) (sym before.same)
      (subst (λ c. Agrees setup fs store ahead_before c xs before.runs.state) (sym under.1) before.runs.agrees) in
      let one : IsAudited setup fs store ahead x xs before.a now.state =
      body_audited setup fs store x.seq x.tags xs under.0 under.1 under.3 ahead before.a now.state before.kept x.holds known
      (record {
        fit = fit;
        valid = valid;
        quiet = quiet;
        before = agrees;
        after = now.agrees.invocations;
        defined = ap (run_turns fs own) before.same ∙ goes_on;
      }) in
      record {
        a = one.next;
        legal = ap (and_record fs setup.mode ahead x xs) before.legal ∙ ap (or_illegal x.seq) one.legal;
        runs = now;
        same = one.state;
        kept = one.kept;
      }

  pub legal_from :
      (n : ℕ) (xs : List (Live Body)) (ahead : List (List ℕ × ℕ)) → Under n xs → AllMayFollow setup fs store xs → Placed store n xs → Valid setup fs store ahead xs → AllQuiet setup fs store ahead xs
      → AllByRecursion (λ x. IsTrue (request_known fs x.holds)) xs → LegalTo ahead n xs
  legal_from n [] ahead under fit placed valid quiet known =
      let now : RunsTo setup fs store ahead n [] = runs_to setup fs store n [] ahead under fit placed valid in
      record {
        a = record { state = initial_ideal store.initial; begun = [] };
        legal = refl;
        runs = now;
        same = one_state (initial_ideal store.initial) now.state (Some (initial_ideal store.initial)) refl now.defined;
        kept = λ q begun. let no_way : false ≡ true = begun in cc;
      }
  legal_from n (x ∷ xs) ahead under fit placed valid quiet known =
      one_more n x xs under ahead fit valid quiet known.0 (runs_to setup fs store n (x ∷ xs) ahead under fit placed valid)
      (legal_from under.0 xs (add_next_index (step_of x.holds) ahead) under.3 fit.2 (placed_before store n x xs under placed)
      (valid_before setup fs store x xs under.0 under.1 under.3 fit ahead valid) (quiet_before setup fs store x xs ahead fit.0 quiet) known.1)

pub holding_is_audited : HoldingIsAudited
holding_is_audited setup fs m holds known ended =
    let store : Store = values_only m.store in
    let quiet : AllQuiet setup fs store [] (live_records m) = all_quiet setup fs store (length (log m)) (live_records m) (live_under (log m)) holds.sound.fit ended in
    let l : LegalTo setup fs store [] (length (log m)) (live_records m) =
    legal_from setup fs store (length (log m)) (live_records m) [] (live_under (log m)) holds.sound.fit
    (each_weaker (λ (v : Version). IsTrue (is_live v.cursor (live_records m))) (λ (v : Version). v.cursor < suc (length (log m)) → is_live v.cursor (live_records m) ≡ true) (λ v h lt. h) store.versions holds.sound.placed)
    (λ q. tt) quiet known in
    let r : IsReported fs m = holding_is_reported setup fs m holds in
    let same : l.a.state ≡ r.state = l.same ∙ one_state setup fs store l.runs.state r.state (run_turns fs (turns fs m.store.versions (live_records m)) (initial_ideal m.store.initial)) l.runs.defined r.defined in
    ap (λ o. audited_report (turns fs [] (live_records m)) (state_behind o)) l.legal
    ∙ ap (λ s. Ok (ideal_report (turns fs [] (live_records m)) s)) same
    ∙ ap (λ ts. Ok (ideal_report ts r.state)) (sym (turns_need_no_store setup fs m holds ended))
    ∙ ap Ok r.reported
