-- The list of a live flow is one that its workers wrote: each record behind the submissions is found at the step that sends it,
-- and that step's attempt is followed from its start over what lies before the record.
use Rattle.std.proofs.Common.{◌≡◌, ◌⊎◌, inl, inr, ⊎_elim, ℕ, zero, suc, ◌+◌, ◌-◌, ◌<◌, ◌≤◌, Bool, true, false, cond, eqb, List, [], ◌∷◌, ◌++◌, length, map, take, drop, reverse, Option, Some, None, slice_get, refl, sym, ap, ◌∙◌, subst, arith}
use Rattle.std.specs.Prelude.{IsTrue}
use Rattle.std.specs.List.{AllByRecursion}
use Rattle.std.proofs.lemmas.Bool.{eq-eqb}
use Rattle.std.proofs.lemmas.List.{length-map, length-reverse, length-append, map-append, append_assoc, append-nil, reverse-append, take-append-drop}
use mathlib.Core.List.{reverse-cons}
use Rattle.lb_base.specs.Path.{is_request}
use Rattle.lb_base.specs.declared.value.Value.{Value}
use Rattle.boki_types.specs.declared.body.Body.{Body}
use Rattle.boki_types.specs.declared.program.Function.{Function}
use Rattle.boki_model.specs.Live.{LogRecord, Live, live, upto}
use Rattle.boki_model.proofs.Logs.{earlier_stays}
use Rattle.boki_machine.specs.Attempt.{Attempt, new_attempt}
use Rattle.boki_machine.specs.Step.{function_name}
use Rattle.exactly_once.specs.FurtherLaws.Words.{IsAmong}
use Rattle.exactly_once.proofs.Log.ListElements.{each_append}
use Rattle.flow_model.specs.declared.flow.FlowText.{FlowText}
use Rattle.flow_model.specs.declared.flow.FlowRun.{FlowRun}
use Rattle.flow_model.specs.declared.flow.FlowStep.{FlowStep}
use Rattle.flow_model.specs.Step.{flow_step}
use Rattle.flow_model.specs.Written.{IsReachable, starts, steps, IsSentByStep, IsSubmission, AllWritten}
use Rattle.flow_model.specs.Flow.{WorkerRecord, log_of, submission, sent_seqnum, flow_move, StandsInList, IsComputedStep, IsWorkerStep, IsClaim, seen_behind, AreSteps, seen_behind_all, AreRuns, runs_of, seqs_of, and_named, sent_seqnums_in, sent_seqnums, IsClaimed, AreCalls}
use Rattle.flow_once.specs.Laws.{ClaimsAreFlows, FlowsAreWritten}
use Rattle.flow_once.proofs.Lines.{Unnamed, told}

-- Lists.

slice_middle : {A : Type 0} (xs : List A) (y : A) (ys : List A) → slice_get (xs ++ y ∷ ys) (length xs) ≡ Some y
slice_middle [] y ys = refl
slice_middle (x ∷ xs) y ys = slice_middle xs y ys

take_front : {A : Type 0} (xs ys : List A) (n : ℕ) → n ≤ length xs → take n (xs ++ ys) ≡ take n xs
take_front [] ys zero le = refl
take_front [] ys (suc n) le = absurd (omega (arith, le))
take_front (x ∷ xs) ys zero le = refl
take_front (x ∷ xs) ys (suc n) le = ap (λ l. x ∷ l) (take_front xs ys n (omega (arith, le)))

log_append : (xs ys : List WorkerRecord) → log_of (xs ++ ys) ≡ log_of ys ++ log_of xs
log_append xs ys = ap reverse (map-append (λ (x : WorkerRecord). x.1) xs ys) ∙ reverse-append (map (λ (x : WorkerRecord). x.1) xs) (map (λ (x : WorkerRecord). x.1) ys)

log_length : (xs : List WorkerRecord) → length (log_of xs) ≡ length xs
log_length xs = length-reverse (map (λ (x : WorkerRecord). x.1) xs) ∙ length-map xs (λ (x : WorkerRecord). x.1)

-- what is seen of a part of the list is what is seen of all
seen_more : (zs log : List (LogRecord Body)) (c : ℕ) → c ≤ length log → upto c (live (zs ++ log)) ≡ upto c (live log)
seen_more [] log c le = refl
seen_more (z ∷ zs) log c le = earlier_stays z (zs ++ log) c (let long = length-append zs log in omega (arith, le, long)) ∙ seen_more zs log c le

seen_of : (xs ys : List WorkerRecord) (c : ℕ) → c ≤ length xs → upto c (live (log_of (xs ++ ys))) ≡ upto c (live (log_of xs))
seen_of xs ys c le = ap (λ log. upto c (live log)) (log_append xs ys) ∙ seen_more (log_of ys) (log_of xs) c (let long = log_length xs in omega (arith, le, long))

each_reverse : {A : Type 0} (P : A → Type 0) (xs : List A) → AllByRecursion P xs → AllByRecursion P (reverse xs)
each_reverse P [] all = tt
each_reverse P (x ∷ xs) all = subst (AllByRecursion P) (sym (reverse-cons x xs)) (each_append P (reverse xs) (x ∷ []) (each_reverse P xs all.1) (all.0, tt))

-- each first part of a list that was written was written
module _ (fs : List Function) (objects : List (List ℕ × Value)) where
  written_behind : (zs log : List (LogRecord Body)) → AllWritten fs objects (zs ++ log) → AllWritten fs objects log
  written_behind [] log all = all
  written_behind (z ∷ zs) log all = written_behind zs log all.1

  pub written_first : (n : ℕ) (xs : List WorkerRecord) → AllWritten fs objects (log_of xs) → AllWritten fs objects (log_of (take n xs))
  written_first n xs all =
      written_behind (log_of (drop n xs)) (log_of (take n xs))
      (subst (AllWritten fs objects) (log_append (take n xs) (drop n xs)) (subst (λ xs. AllWritten fs objects (log_of xs)) (sym (take-append-drop n xs)) all))

-- Names.

among_named : (seq n : ℕ) (seqs : List ℕ) → IsAmong seq (and_named n seqs) → (seq ≡ n) ⊎ IsAmong seq seqs
among_named seq zero seqs among = inr among
among_named seq (suc n) seqs among = among

-- Steps and runs.

module _ (fs : List Function) (objects : List (List ℕ × Value)) (list : List WorkerRecord) where
  abbrev records : List (Live Body)
  records = live (log_of list)

  -- the step that a seqnum is named by
  pub record IsNaming (worker seq : ℕ) : Type 0 where
    pub before : ℕ
    pub attempt : Attempt
    pub comes : IsReachable fs objects records before attempt
    pub step : FlowStep
    pub sees : before ≤ step.at
    pub names_it : seq ≡ sent_seqnum step.line
    pub behind : (sent_seqnum step.line ≡ 0) ⊎ (step.at < sent_seqnum step.line)
    pub answer : AllWritten fs objects (log_of (take step.at list)) → IsComputedStep fs objects list worker attempt step

  abbrev pub Claims : ℕ → ℕ → Attempt → FlowStep → Type 0
  Claims worker = IsClaim fs objects list worker

  in_steps :
      (worker seq least p : ℕ) (t : Attempt) (ss : List FlowStep) (others : List ℕ) → p ≤ least → IsReachable fs objects records p t
      → AreSteps fs objects list (Claims worker) least t ss → IsAmong seq (sent_seqnums_in ss others) → IsNaming worker seq ⊎ IsAmong seq others
  in_steps worker seq least p t [] others le comes are among = inr among
  in_steps worker seq least p t (s ∷ ss) others le comes are among =
      let sees : p ≤ s.at = (let h = are.0.sees in omega (arith, le, h)) in
      ⊎_elim (λ same. inl (record { before = p; attempt = t; comes = comes; step = s; sees = sees; names_it = same; behind = are.0.behind; answer = are.0.answer }))
      (λ rest. in_steps worker seq (seen_behind s) s.at (flow_move fs objects list t s).attempt ss others (omega arith) (steps s.at (sent_seqnum s.line) comes sees) are.1 rest)
      (among_named seq (sent_seqnum s.line) (sent_seqnums_in ss others) among)

  pub naming : (worker seq least : ℕ) (rs : List FlowRun) → AreRuns fs objects list (Claims worker) worker least rs → IsAmong seq (sent_seqnums rs) → IsNaming worker seq
  naming worker seq least [] are among = absurd among
  naming worker seq least (r ∷ rs) are among =
      ⊎_elim (λ n. n) (λ rest. naming worker seq (seen_behind_all least r.steps) rs are.1 rest)
      (in_steps worker seq least 0 (new_attempt r.path worker) r.steps (sent_seqnums rs) (omega arith) (starts r.path worker) are.0 among)

-- A walk over all records is one over those that its steps saw.
module _ (fs : List Function) (objects : List (List ℕ × Value)) (xs ys : List (Live Body)) (n : ℕ) (same : (c : ℕ) → c ≤ n → upto c xs ≡ upto c ys) where
  comes_of : (p : ℕ) (t : Attempt) → IsReachable fs objects xs p t → p ≤ n → IsReachable fs objects ys p t
  comes_of _ _ (starts path worker) le = starts path worker
  comes_of _ _ (steps {p} {t} q at c later) le =
      subst (λ view. IsReachable fs objects ys q (flow_step fs objects view at t).attempt) (sym (same q le))
      (steps q at (comes_of p t c (omega (arith, later, le))) later)

-- the records of a worker
seqs_there : (x : WorkerRecord) (before : ℕ) (xs ys : List WorkerRecord) → IsAmong (suc (before + length xs)) (seqs_of x.0 before (xs ++ x ∷ ys))
seqs_there x before [] ys =
    subst (λ u. IsAmong (suc (before + 0)) (cond u (suc before ∷ seqs_of x.0 (suc before) ys) (seqs_of x.0 (suc before) ys))) (sym (eq-eqb x.0 x.0 refl))
    (inl (omega arith))
seqs_there x before (y ∷ xs) ys = at (eqb x.0 y.0) (subst (λ n. IsAmong n (seqs_of x.0 (suc before) (xs ++ x ∷ ys))) (omega arith) (seqs_there x (suc before) xs ys))
  where
    at : (u : Bool) → IsAmong (suc (before + suc (length xs))) (seqs_of x.0 (suc before) (xs ++ x ∷ ys)) → IsAmong (suc (before + suc (length xs))) (cond u (suc before ∷ seqs_of x.0 (suc before) (xs ++ x ∷ ys)) (seqs_of x.0 (suc before) (xs ++ x ∷ ys)))
    at true is = inr is
    at false is = is

-- The list.

module _ (text : FlowText) (list : List WorkerRecord) (runs : List FlowRun) (calls : AreCalls text) (flow : IsClaimed text list runs) where
  abbrev fs : List Function
  fs = text.program.functions

  abbrev Written : List WorkerRecord → Type 0
  Written xs = AllWritten fs text.objects (log_of xs)

  abbrev opening : List WorkerRecord
  opening = map (submission fs) text.calls

  each_submitted : (cs : List (ℕ × ℕ × List Value)) → AllByRecursion (λ c. IsTrue (is_request c.0)) cs → AllByRecursion IsSubmission (map (λ (x : WorkerRecord). x.1) (map (submission fs) cs))
  each_submitted [] all = tt
  each_submitted (c ∷ cs) all = (record { request = c.0; function = function_name c.1 fs; args = c.2; in_range = all.0; entry = refl }, each_submitted cs all.1)

  submitted_written : (rs : List (LogRecord Body)) → AllByRecursion IsSubmission rs → AllWritten fs text.objects rs
  submitted_written [] all = tt
  submitted_written (r ∷ rs) all = (inl all.0, submitted_written rs all.1)

  opening_written : Written opening
  opening_written = submitted_written (log_of opening) (each_reverse IsSubmission (map (λ (x : WorkerRecord). x.1) opening) (each_submitted text.calls calls))

  -- a record behind them
  module _ (done : List WorkerRecord) (x : WorkerRecord) (rest : List WorkerRecord) (later_is : flow.later ≡ done ++ x ∷ rest) (written : Written (opening ++ done)) where
    abbrev before : List WorkerRecord
    before = opening ++ done

    list_is : list ≡ before ++ x ∷ rest
    list_is = flow.begins ∙ ap (λ later. opening ++ later) later_is ∙ sym (append_assoc opening done (x ∷ rest))

    long : length before ≡ length text.calls + length done
    long = length-append opening done ∙ ap (λ n. n + length done) (length-map text.calls (submission fs))

    named : IsNaming fs text.objects list x.0 (suc (length before))
    named =
        naming fs text.objects list x.0 (suc (length before)) (length text.calls) (runs_of x.0 runs) (flow.steps x.0)
        (subst (IsAmong (suc (length before))) (flow.named x.0)
        (subst (λ later. IsAmong (suc (length before)) (seqs_of x.0 (length text.calls) later)) (sym later_is)
        (subst (λ n. IsAmong (suc n) (seqs_of x.0 (length text.calls) (done ++ x ∷ rest))) (sym long) (seqs_there x (length text.calls) done rest))))

    saw : named.step.at ≤ length before
    saw = ⊎_elim (λ none. absurd (let e = named.names_it in omega (arith, e, none))) (λ lt. let e = named.names_it in omega (arith, e, lt)) named.behind

    answer : IsComputedStep fs text.objects list x.0 named.attempt named.step
    answer =
        named.answer (subst Written (sym (ap (take named.step.at) list_is ∙ take_front before (x ∷ rest) named.step.at saw)) (written_first fs text.objects named.step.at before written))

    seen : (c : ℕ) → c ≤ length before → upto c (live (log_of list)) ≡ upto c (live (log_of before))
    seen c le = ap (λ list. upto c (live (log_of list))) list_is ∙ seen_of before (x ∷ rest) c le

    sends_it : (o : Option (LogRecord Body)) → (flow_move fs text.objects list named.attempt named.step).sends ≡ o → Unnamed o (sent_seqnum named.step.line) → StandsInList x.0 list named.step.at (sent_seqnum named.step.line) o → (flow_move fs text.objects list named.attempt named.step).sends ≡ Some x.1
    sends_it None e unnamed stands = absurd (let n = named.names_it in omega (arith, unnamed, n))
    sends_it (Some r) e unnamed stands =
        let there_is : Some (x.0, r) ≡ Some x =
        sym stands.1
        ∙ ap (slice_get list) (let n = named.names_it in let m : sent_seqnum named.step.line - 1 ≡ length before = omega (arith, n) in m)
        ∙ ap (λ list. slice_get list (length before)) list_is
        ∙ slice_middle before x rest in
        e ∙ ap or_this there_is
      where
        or_this : Option WorkerRecord → Option (LogRecord Body)
        or_this None = None
        or_this (Some y) = Some y.1

    sent_there : IsSentByStep fs text.objects (live (log_of before)) (length (log_of before)) x.1
    sent_there =
        let view_is = seen named.step.at saw in
        record {
          before = named.before;
          attempt = named.attempt;
          comes = comes_of fs text.objects (live (log_of list)) (live (log_of before)) (length before) seen named.before named.attempt named.comes (let h = named.sees in let s = saw in omega (arith, h, s));
          position = named.step.at;
          at = sent_seqnum named.step.line;
          later = named.sees;
          within = let s = saw in let n = log_length before in omega (arith, s, n);
          sends = ap (λ view. (flow_step fs text.objects view (sent_seqnum named.step.line) named.attempt).sends) (sym view_is)
              ∙ sends_it (flow_move fs text.objects list named.attempt named.step).sends refl
              (subst (Unnamed (flow_move fs text.objects list named.attempt named.step).sends) (ap sent_seqnum (sym answer.line)) (told fs text.objects (upto named.step.at (live (log_of list))) (sent_seqnum named.step.line) named.attempt).unnamed)
              answer.stands;
        }

    written_more : Written (opening ++ (done ++ x ∷ []))
    written_more = subst Written (append_assoc opening done (x ∷ [])) (subst (AllWritten fs text.objects) (sym (log_append before (x ∷ []))) (inr sent_there, written))

  all_written : (done rest : List WorkerRecord) → flow.later ≡ done ++ rest → Written (opening ++ done) → Written (opening ++ (done ++ rest))
  all_written done [] is written = subst (λ later. Written (opening ++ later)) (sym (append-nil done)) written
  all_written done (x ∷ rest) is written =
      subst (λ later. Written (opening ++ later)) (append_assoc done (x ∷ []) rest)
      (all_written (done ++ x ∷ []) rest (is ∙ sym (append_assoc done (x ∷ []) rest)) (written_more done x rest is written))

  pub is_written : Written list
  is_written = subst Written (sym flow.begins) (all_written [] flow.later refl (subst Written (sym (append-nil opening)) opening_written))

-- What each step is may be said otherwise.

module _ (fs : List Function) (objects : List (List ℕ × Value)) (list : List WorkerRecord) (P Q : ℕ → Attempt → FlowStep → Type 0) (said : (least : ℕ) (t : Attempt) (s : FlowStep) → P least t s → Q least t s) where
  steps_as : (least : ℕ) (t : Attempt) (ss : List FlowStep) → AreSteps fs objects list P least t ss → AreSteps fs objects list Q least t ss
  steps_as least t [] are = tt
  steps_as least t (s ∷ ss) are = (said least t s are.0, steps_as (seen_behind s) (flow_move fs objects list t s).attempt ss are.1)

  pub runs_as : (worker least : ℕ) (rs : List FlowRun) → AreRuns fs objects list P worker least rs → AreRuns fs objects list Q worker least rs
  runs_as worker least [] are = tt
  runs_as worker least (r ∷ rs) are = (steps_as least (new_attempt r.path worker) r.steps are.0, runs_as worker (seen_behind_all least r.steps) rs are.1)

module _ (fs : List Function) (objects : List (List ℕ × Value)) (list : List WorkerRecord) (worker : ℕ) where
  step_of_claim : AllWritten fs objects (log_of list) → (least : ℕ) (t : Attempt) (s : FlowStep) → IsClaim fs objects list worker least t s → IsWorkerStep fs objects list worker least t s
  step_of_claim all least t s c = record { sees = c.sees; within = c.within; answer = c.answer (written_first fs objects s.at list all) }

  claim_of_step : (least : ℕ) (t : Attempt) (s : FlowStep) → IsWorkerStep fs objects list worker least t s → IsClaim fs objects list worker least t s
  claim_of_step least t s i = record { sees = i.sees; within = i.within; behind = at (flow_move fs objects list t s).sends told_unnamed i.answer.stands; answer = λ all. i.answer }
    where
      told_unnamed : Unnamed (flow_move fs objects list t s).sends (sent_seqnum s.line)
      told_unnamed = subst (Unnamed (flow_move fs objects list t s).sends) (ap sent_seqnum (sym i.answer.line)) (told fs objects (upto s.at (live (log_of list))) (sent_seqnum s.line) t).unnamed

      at : (o : Option (LogRecord Body)) → Unnamed o (sent_seqnum s.line) → StandsInList worker list s.at (sent_seqnum s.line) o → (sent_seqnum s.line ≡ 0) ⊎ (s.at < sent_seqnum s.line)
      at None unnamed stands = inl unnamed
      at (Some r) unnamed stands = inr stands.0

pub claims_are_flows : ClaimsAreFlows
claims_are_flows text list runs calls flow = record {
  later = flow.later;
  begins = flow.begins;
  did = flow.did;
  steps = λ worker.
      runs_as text.program.functions text.objects list (IsClaim text.program.functions text.objects list worker) (IsWorkerStep text.program.functions text.objects list worker)
      (step_of_claim text.program.functions text.objects list worker (is_written text list runs calls flow)) worker (length text.calls) (runs_of worker runs) (flow.steps worker);
  named = flow.named;
}

pub flows_are_written : FlowsAreWritten
flows_are_written text list runs calls flow = is_written text list runs calls (record {
  later = flow.later;
  begins = flow.begins;
  did = flow.did;
  steps = λ worker.
      runs_as text.program.functions text.objects list (IsWorkerStep text.program.functions text.objects list worker) (IsClaim text.program.functions text.objects list worker)
      (claim_of_step text.program.functions text.objects list worker) worker (length text.calls) (runs_of worker runs) (flow.steps worker);
  named = flow.named;
})

-- Where a run stands among those of its worker.

module _ (fs : List Function) (objects : List (List ℕ × Value)) (list : List WorkerRecord) (Is : ℕ → Attempt → FlowStep → Type 0) where
  pub record IsRun (worker : ℕ) (r : FlowRun) : Type 0 where
    pub least : ℕ
    pub are : AreSteps fs objects list Is least (new_attempt r.path worker) r.steps

  pub in_runs : (worker least : ℕ) (r : FlowRun) (rs : List FlowRun) → AreRuns fs objects list Is worker least rs → IsAmong r rs → IsRun worker r
  in_runs worker least r [] are among = absurd among
  in_runs worker least r (q ∷ rs) are among =
      ⊎_elim (λ same. subst (IsRun worker) (sym same) (record { least = least; are = are.0 })) (λ rest. in_runs worker (seen_behind_all least q.steps) r rs are.1 rest) among

pub own_run : (r : FlowRun) (rs : List FlowRun) → IsAmong r rs → IsAmong r (runs_of r.worker rs)
own_run r [] among = among
own_run r (q ∷ rs) among = at (own_run r rs) (eqb r.worker q.worker) refl among
  where
    at : (IsAmong r rs → IsAmong r (runs_of r.worker rs)) → (u : Bool) → eqb r.worker q.worker ≡ u → (r ≡ q) ⊎ IsAmong r rs → IsAmong r (cond u (q ∷ runs_of r.worker rs) (runs_of r.worker rs))
    at later true e (inl same) = inl same
    at later true e (inr rest) = inr (later rest)
    at later false e (inl same) = absurd (let own : eqb r.worker q.worker ≡ true = eq-eqb r.worker q.worker (ap (λ (r : FlowRun). r.worker) same) in let no_way : true ≡ false = sym own ∙ e in let h : ⊥ = cc in h)
    at later false e (inr rest) = later rest
