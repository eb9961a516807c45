-- There was no room for splitting the words, and nothing was written.
use Rattle.std.proofs.Common.{◌≢◌, ℕ, Bool, true, false, List, Option, Some, None}
use Rattle.std.specs.Prelude.{IfSome}
use Rattle.lb_base.proofs.DeviceLemmas.{AppendsPrefix-none}
use Rattle.command_line.specs.declared.request.Request.{Request}
use Rattle.command_line.specs.declared.request.Request.TheVariants.{Run, Judge, Check, Make, Live, Flow, Log, Audit, Mux}
use Rattle.nemesis_types.specs.Automaton.{Automaton}
use Rattle.nemesis_types.specs.Kept.{NumberedNemesis}
use Rattle.call_base.specs.declared.status.Status.TheVariants.{ReadFault, Memory}
use Rattle.call_base.specs.Due.{Due, Meets, usage}
use Rattle.check_call.specs.Plans.{check_due}
use Rattle.judge_agrees.specs.Judged.{judge_due}
use Rattle.live_call.proofs.DueLive.{none_read}
use Rattle.run_call.specs.Runs.{run_due}
use Rattle.run_call.specs.Words.{is_handed, kept_of}
use Rattle.boki_call.specs.Answers.{Answers, AnswersRun}

reads : (f : List ℕ → Due) (left old : Option (List ℕ)) → IfSome left (λ text. Meets Memory (f text) old old)
reads f None old = tt
reads f (Some text) old = AppendsPrefix-none old _

-- the usage line wasn't written
none : (old : Option (List ℕ)) → (Memory ≢ ReadFault) × Meets Memory usage old old
none old = (λ e. cc, AppendsPrefix-none old _)

runs : (b json : Bool) (kept : List NumberedNemesis) (left old : Option (List ℕ)) → AnswersRun b json kept Memory left old old
runs true json kept left old = (λ e. cc, reads (run_due json kept) left old)
runs false json kept left old = none old

pub no_answer : (count : ℕ) (handed : List Automaton) (r : Option Request) (left old : Option (List ℕ)) → Answers count handed r Memory left old old
no_answer count handed None left old = none old
no_answer count handed (Some (Run with json)) left old = runs (is_handed count with) json (kept_of with handed) left old
no_answer count handed (Some Judge) left old = (λ e. cc, reads judge_due left old)
no_answer count handed (Some Check) left old = (λ e. cc, reads check_due left old)
no_answer count handed (Some (Make n plan)) left old = (λ e. cc, AppendsPrefix-none old _)
no_answer count handed (Some Live) left old = (λ e. cc, none_read left old)
no_answer count handed (Some Flow) left old = none old
no_answer count handed (Some Log) left old = none old
no_answer count handed (Some Audit) left old = none old
no_answer count handed (Some Mux) left old = none old
