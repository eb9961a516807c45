-- The workers of a log, and what their answers are to its list.
use Rattle.std.proofs.Common.{◌≡◌, ℕ, suc, ◌+◌, ◌<◌, ◌==◌, cond, Bool, true, false, List, [], ◌∷◌, ◌++◌, length, get_or, Option, Some, Result, Ok, Err, subst, All, refl, sym, ap, ◌∙◌, arith}
use Rattle.std.proofs.lemmas.List.{append-nil}
use Rattle.std.specs.Prelude.{IfOk}
use mathlib.Core.List.{IsPrefix}
use Rattle.lb_base.specs.declared.value.Record.{Record}
use Rattle.live_log.specs.declared.fault.Stop.{Stop}
use Rattle.live_log.specs.declared.fault.Stop.TheVariants.{Ran, Refused, Behind, Memory}
use Rattle.live_log.specs.Engines.{Engine}
use Rattle.live_log.specs.Closing.{appends_in, new_engine, NewEngines, HasAllAppends, EachByEngine}
use Rattle.live_log.proofs.Lists.{all_tail}
use Rattle.live_text.specs.declared.answers.LiveAnswer.{LiveAnswer}
use Rattle.live_text.specs.declared.answers.LiveRan.{LiveRan}
use Rattle.live_text.specs.declared.text.LiveOp.{LiveOp}
use Rattle.live_text.specs.declared.text.LiveText.{LiveText}
use Rattle.live_text.specs.Outputs.{Appended, ops_of, records_of, EachAnswered, records_answered, AreInOrder, WorkerFits, EachFits, EachByWorker, IsRunOf}
use Rattle.live_work.specs.declared.worker.LiveWorker.{LiveWorker}
use Rattle.live_work.specs.Teams.{engines_of, answers_of, HasWorked, EachWorked}
use Rattle.live_work.specs.Worked.{with_seqnums, HasAppends, Worked}
use Rattle.live_work.proofs.Fits.{answered_longer}

-- a worker's records in a list are an engine's appends there
same_records : (b : Bool) (k : ℕ) (x : Appended) (records : List (ℕ × Record)) (appends : List (ℕ × Appended)) → records ≡ with_seqnums appends
    → cond b ((k + 1, x.1) ∷ records) records ≡ with_seqnums (cond b ((k, x) ∷ appends) appends)
same_records true k x records appends e = ap (λ (l : List (ℕ × Record)). (k + 1, x.1) ∷ l) e
same_records false k x records appends e = e

pub records_are : (who k : ℕ) (list : List Appended) → records_of who (k + 1) list ≡ with_seqnums (appends_in who k list)
records_are who k [] = refl
records_are who k (x ∷ list) = same_records (x.0 == who) k x (records_of who (k + 1 + 1) list) (appends_in who (k + 1) list) (records_are who (k + 1) list)

-- a worker that ran has no append without an answer
appends_ran : (s : Stop) (answered appends : List (ℕ × Appended)) → s ≡ Ran → HasAppends s answered appends → appends ≡ answered
appends_ran Ran answered appends is h = h
appends_ran Refused answered appends is h = h
appends_ran Memory answered appends is h = h
appends_ran (Behind seq) answered appends is h = absurd (cc is)

pub by_workers : (n : ℕ) (list : List Appended) → EachByEngine n list → EachByWorker n list
by_workers n [] h = tt
by_workers n (x ∷ list) h = ((h.0, h.1), by_workers n list h.2)

-- the answers of a worker that ran fit the list of its log
worker_fits : (from : ℕ) (lines : List (ℕ × LiveOp)) (list : List Appended) (answers : List LiveAnswer) (e f : Engine) (s : Stop) → e ≡ new_engine from → Worked (ops_of e.number lines) answers e f s → s ≡ Ran
    → appends_in f.number 0 list ≡ f.appends → IsPrefix f.seen list → WorkerFits from lines list answers
worker_fits from lines list answers e f s new d ran mine seen =
    let number : f.number ≡ from = d.number ∙ ap (λ (z : Engine). z.number) new in
    let ops : ops_of e.number lines ≡ ops_of from lines = ap (λ (z : Engine). ops_of z.number lines) new in
    let front : d.front ≡ ops_of from lines = sym (append-nil d.front) ∙ ap (λ (r : List LiveOp). d.front ++ r) (sym (d.ran ran)) ∙ sym d.in_front ∙ ops in
    let own : f.appends ≡ d.own = appends_ran s (e.appends ++ d.own) f.appends ran d.appends ∙ ap (λ (z : Engine). z.appends ++ d.own) new in
    let there : appends_in from 0 list ≡ d.own = ap (λ (n : ℕ). appends_in n 0 list) (sym number) ∙ mine ∙ own in
    record {
      answered = subst (λ (o : List LiveOp). EachAnswered list o answers) front (answered_longer f.seen list d.front answers seen d.answered);
      appended = records_are from 0 list ∙ ap with_seqnums there ∙ d.appended ∙ ap (λ (o : List LiveOp). records_answered o answers) front;
      in_order = subst (λ (n : ℕ). AreInOrder n 0 answers) (ap (λ (z : Engine). z.position) new) d.in_order;
    }

module _ {J D : Type 0} where
  pub engines_more : (ws : List (LiveWorker J D)) (w : LiveWorker J D) → engines_of (ws ++ w ∷ []) ≡ engines_of ws ++ w.engine ∷ []
  engines_more [] w = refl
  engines_more (v ∷ ws) w = ap (λ (es : List Engine). v.engine ∷ es) (engines_more ws w)

  pub answers_more : (ws : List (LiveWorker J D)) (w : LiveWorker J D) → answers_of (ws ++ w ∷ []) ≡ answers_of ws ++ w.answers ∷ []
  answers_more [] w = refl
  answers_more (v ∷ ws) w = ap (λ (l : List (List LiveAnswer)). v.answers ∷ l) (answers_more ws w)

  pub length_engines : (ws : List (LiveWorker J D)) → length (engines_of ws) ≡ length ws
  length_engines [] = refl
  length_engines (w ∷ ws) = ap suc (length_engines ws)

  pub length_answers : (ws : List (LiveWorker J D)) → length (answers_of ws) ≡ length ws
  length_answers [] = refl
  length_answers (w ∷ ws) = ap suc (length_answers ws)

  pub each_worked : (refusals : D → ℕ) (lines : List (ℕ × LiveOp)) (vs ws : List (LiveWorker J D)) → length ws ≡ length vs
      → ((i : ℕ) (d : LiveWorker J D) → i < length vs → HasWorked refusals lines (get_or vs i d) (get_or ws i d)) → EachWorked refusals lines vs ws
  each_worked refusals lines [] [] l all = tt
  each_worked refusals lines [] (w ∷ ws) l all = absurd (omega (arith, l))
  each_worked refusals lines (v ∷ vs) [] l all = absurd (omega (arith, l))
  each_worked refusals lines (v ∷ vs) (w ∷ ws) l all = (
    all 0 v (omega arith),
    each_worked refusals lines vs ws (omega (arith, l)) (λ i d lt. all (suc i) d (omega (arith, lt))),
  )

  pub same_length : (refusals : D → ℕ) (lines : List (ℕ × LiveOp)) (vs ws : List (LiveWorker J D)) → EachWorked refusals lines vs ws → length ws ≡ length vs
  same_length refusals lines [] [] h = refl
  same_length refusals lines [] (w ∷ ws) h = absurd h
  same_length refusals lines (v ∷ vs) [] h = absurd h
  same_length refusals lines (v ∷ vs) (w ∷ ws) h = ap suc (same_length refusals lines vs ws h.1)

  pub each_fits : (refusals : D → ℕ) (from : ℕ) (lines : List (ℕ × LiveOp)) (list : List Appended) (vs ws : List (LiveWorker J D)) → NewEngines from (engines_of vs) → EachWorked refusals lines vs ws
      → All (λ (w : LiveWorker J D). w.stop ≡ Ran) ws → HasAllAppends list (engines_of ws) → EachFits from lines list (answers_of ws)
  each_fits refusals from lines list [] [] new h ran mine = tt
  each_fits refusals from lines list [] (w ∷ ws) new h ran mine = absurd h
  each_fits refusals from lines list (v ∷ vs) [] new h ran mine = tt
  each_fits refusals from lines list (v ∷ vs) (w ∷ ws) new h ran mine = (
    worker_fits from lines list w.answers v.engine w.engine w.stop new.0 h.0.worked (ran 0 w (omega arith)) mine.0 mine.1,
    each_fits refusals (from + 1) lines list vs ws new.1 h.1 (all_tail (λ (x : LiveWorker J D). x.stop ≡ Ran) (w ∷ ws) ws w refl ran) mine.2,
  )

  -- the list and the answers of workers that ran are right for their text
  pub run_is_right : (refusals : D → ℕ) (n : ℕ) (text : LiveText) (vs ws : List (LiveWorker J D)) (x : LiveRan) → n ≡ text.workers → length vs ≡ text.workers → NewEngines 1 (engines_of vs)
      → EachWorked refusals text.lines vs ws → All (λ (w : LiveWorker J D). w.stop ≡ Ran) ws → HasAllAppends x.list (engines_of ws) → EachByEngine n x.list → x.answers ≡ answers_of ws → IsRunOf text x
  run_is_right refusals n text vs ws x count size new worked ran mine by is = record {
    workers = ap (λ (a : List (List LiveAnswer)). length a) is ∙ length_answers ws ∙ same_length refusals text.lines vs ws worked ∙ size;
    by_workers = by_workers text.workers x.list (subst (λ (m : ℕ). EachByEngine m x.list) count by);
    fits = subst (λ (a : List (List LiveAnswer)). EachFits 1 text.lines x.list a) (sym is) (each_fits refusals 1 text.lines x.list vs ws new worked ran mine);
  }

pub ok_is : {X E : Type 0} (r : Result X E) (x : X) (P : X → Type 0) → r ≡ Ok x → IfOk r P → P x
ok_is r x P e h = subst (λ (z : Result _ _). IfOk z P) e h

pub some_ran : {E : Type 0} (r : Result (Option LiveRan) E) (P Q : LiveRan → Type 0) → ((x : LiveRan) → P x → Q x) → IfOk r (λ o. (x : LiveRan) → o ≡ Some x → P x) → IfOk r (λ o. (x : LiveRan) → o ≡ Some x → Q x)
some_ran (Ok o) P Q f h = λ x e. f x (h x e)
some_ran (Err e) P Q f h = tt
