-- What a text comes to on one thread, over a plain list, with one worker after another.
use Rattle.std.specs.Prelude.{ℕ, zero, suc, ◌+◌, List, [], ◌∷◌, ◌++◌, length}
use Rattle.boki_model.specs.Live.{live, count}
use Rattle.boki_model.specs.Reads.{next, prev}
use Rattle.live_text.specs.declared.answers.LiveAnswer.{LiveAnswer}
use Rattle.live_text.specs.declared.answers.LiveAnswer.TheVariants as answer
use Rattle.live_text.specs.declared.answers.LiveRan.{LiveRan}
use Rattle.live_text.specs.declared.text.LiveOp.{LiveOp}
use Rattle.live_text.specs.declared.text.LiveOp.TheVariants as op
use Rattle.live_text.specs.declared.text.LiveText.{LiveText}
use Rattle.live_text.specs.Outputs.{Appended, user_record, log_of, seqnum_of, ops_of}

-- what a line adds to the list, and what it is answered
abbrev pub added_by : ℕ → LiveOp → List Appended
added_by worker (op.Append tags text) = (worker, user_record tags text) ∷ []
added_by worker _ = []

abbrev pub plain_answer : List Appended → LiveOp → LiveAnswer
plain_answer list (op.Append tags text) = answer.Append (record { 0 = length list + 1 })
plain_answer list (op.Next tag from) = answer.Next (seqnum_of (next tag.0 from.0 (live (log_of list)))) (length list)
plain_answer list (op.Prev tag upto) = answer.Prev (seqnum_of (prev tag.0 upto.0 (live (log_of list)))) (length list)
plain_answer list (op.Count tag) = answer.Count (count tag.0 (live (log_of list))) (length list)

-- of some lines of one worker
abbrev pub list_behind : ℕ → List LiveOp → List Appended → List Appended
list_behind worker [] list = list
list_behind worker (o ∷ ops) list = list_behind worker ops (list ++ added_by worker o)

abbrev pub plain_answers : ℕ → List LiveOp → List Appended → List LiveAnswer
plain_answers worker [] list = []
plain_answers worker (o ∷ ops) list = plain_answer list o ∷ plain_answers worker ops (list ++ added_by worker o)

-- of so many workers, from this number on, behind a list
abbrev pub list_of_workers : ℕ → ℕ → List (ℕ × LiveOp) → List Appended → List Appended
list_of_workers zero worker lines list = list
list_of_workers (suc n) worker lines list =
    list_of_workers n (worker + 1) lines (list_behind worker (ops_of worker lines) list)

abbrev pub answers_of_workers : ℕ → ℕ → List (ℕ × LiveOp) → List Appended → List (List LiveAnswer)
answers_of_workers zero worker lines list = []
answers_of_workers (suc n) worker lines list =
    plain_answers worker (ops_of worker lines) list
    ∷ answers_of_workers n (worker + 1) lines (list_behind worker (ops_of worker lines) list)

abbrev pub plain_ran : LiveText → LiveRan
plain_ran text = record { list = list_of_workers text.workers 1 text.lines []; answers = answers_of_workers text.workers 1 text.lines [] }
