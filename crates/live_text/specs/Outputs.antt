-- Which answers are right for which live text. The order of the appends of several workers is free, so this is a relation.
use Rattle.std.specs.Prelude.{◌≡◌, ℕ, ◌+◌, ◌<◌, ◌≤◌, ◌==◌, cond, List, [], ◌∷◌, ◌++◌, length, take, map, reverse, Option, Some, None, option_map}
use Rattle.std.specs.List.{AllByRecursion}
use Rattle.lb_base.specs.declared.value.Record.{Record}
use Rattle.lb_base.specs.declared.value.Seqnum.{Seqnum}
use Rattle.lb_base.specs.declared.value.Tag.{Tag}
use Rattle.boki_model.specs.Live.{Live, LogRecord, entry_of, live, count}
use Rattle.boki_model.specs.Reads.{next, prev}
use Rattle.live_text.specs.declared.answers.LiveAnswer.{LiveAnswer}
use Rattle.live_text.specs.declared.answers.LiveAnswer.TheVariants as answer
use Rattle.live_text.specs.declared.answers.LiveRan.{LiveRan}
use Rattle.live_text.specs.declared.text.LiveOp.{LiveOp}
use Rattle.live_text.specs.declared.text.LiveOp.TheVariants as op
use Rattle.live_text.specs.declared.text.LiveText.{LiveText}

-- a record of the list, with the number of the worker that appended it
abbrev pub Appended : Type 0
Appended = ℕ × Record

-- what an append leaves in the list
abbrev pub user_record : List Tag → List ℕ → Record
user_record tags text = record { tags = tags; cond = None; bytes = text }

-- the live records among the first ones of the list, as many as a position says; the newest stands first
abbrev pub log_of : List Appended → List (LogRecord (List ℕ))
log_of list = reverse (map (λ x. entry_of x.1) list)

abbrev pub seen_at : ℕ → List Appended → List (Live (List ℕ))
seen_at position list = live (log_of (take position list))

-- what one worker does
abbrev pub ops_of : ℕ → List (ℕ × LiveOp) → List LiveOp
ops_of worker [] = []
ops_of worker (x ∷ xs) = cond (x.0 == worker) (x.1 ∷ ops_of worker xs) (ops_of worker xs)

-- the records of one worker with their seqnums, in a list whose first record has this seqnum
abbrev pub records_of : ℕ → ℕ → List Appended → List (ℕ × Record)
records_of worker seq [] = []
records_of worker seq (x ∷ xs) =
    cond (x.0 == worker) ((seq, x.1) ∷ records_of worker (seq + 1) xs) (records_of worker (seq + 1) xs)

abbrev pub seqnum_of : Option ℕ → Option Seqnum
seqnum_of n = option_map (λ seq. record { 0 = seq }) n

-- the position of a worker, and the seqnum of its last append, behind an answer
abbrev pub position_after : ℕ → LiveAnswer → ℕ
position_after position (answer.Append seq) = position
position_after position (answer.Next seq p) = p
position_after position (answer.Prev seq p) = p
position_after position (answer.Count n p) = p

abbrev pub append_after : ℕ → LiveAnswer → ℕ
append_after last (answer.Append seq) = seq.0
append_after last _ = last

-- what a read is answered at a position; an append is none
abbrev pub read_at : ℕ → List Appended → LiveOp → Option LiveAnswer
read_at p list (op.Append tags text) = None
read_at p list (op.Next tag from) = Some (answer.Next (seqnum_of (next tag.0 from.0 (seen_at p list))) p)
read_at p list (op.Prev tag upto) = Some (answer.Prev (seqnum_of (prev tag.0 upto.0 (seen_at p list))) p)
read_at p list (op.Count tag) = Some (answer.Count (count tag.0 (seen_at p list)) p)

-- A read has the answer that the first records of the list give, as many as the position that it names.
abbrev pub IsReadOf : List Appended → LiveOp → LiveAnswer → Type 0
IsReadOf list o a = (position_after 0 a ≤ length list) × (read_at (position_after 0 a) list o ≡ Some a)

-- an append is answered with a seqnum
abbrev pub IsAnswerOf : List Appended → LiveOp → LiveAnswer → Type 0
IsAnswerOf list (op.Append tags text) (answer.Append seq) = Unit {0}
IsAnswerOf list o a = IsReadOf list o a

-- each line has its answer, and there are no more
abbrev pub EachAnswered : List Appended → List LiveOp → List LiveAnswer → Type 0
EachAnswered list [] [] = Unit {0}
EachAnswered list (o ∷ ops) (a ∷ answers) = IsAnswerOf list o a × EachAnswered list ops answers
EachAnswered list _ _ = ⊥

-- the records that the lines append, at the seqnums that are answered
abbrev pub record_answered : LiveOp → LiveAnswer → List (ℕ × Record)
record_answered (op.Append tags text) (answer.Append seq) = (seq.0, user_record tags text) ∷ []
record_answered o a = []

abbrev pub records_answered : List LiveOp → List LiveAnswer → List (ℕ × Record)
records_answered (o ∷ ops) (a ∷ answers) = record_answered o a ++ records_answered ops answers
records_answered _ _ = []

-- A position is no less than the one before it and than the last append; an append stands above the position before it.
abbrev pub IsInOrder : ℕ → ℕ → LiveAnswer → Type 0
IsInOrder position last (answer.Append seq) = position < seq.0
IsInOrder position last a = (position ≤ position_after position a) × (last ≤ position_after position a)

abbrev pub AreInOrder : ℕ → ℕ → List LiveAnswer → Type 0
AreInOrder position last [] = Unit {0}
AreInOrder position last (a ∷ answers) =
    IsInOrder position last a × AreInOrder (position_after position a) (append_after last a) answers

-- The answers of one worker fit the list: each of its lines has its answer, its records in the list are those of its appends, in
-- their order and at the seqnums answered, and the positions are in order.
pub record WorkerFits (worker : ℕ) (lines : List (ℕ × LiveOp)) (list : List Appended) (answers : List LiveAnswer) : Type 0 where
  pub answered : EachAnswered list (ops_of worker lines) answers
  pub appended : records_of worker 1 list ≡ records_answered (ops_of worker lines) answers
  pub in_order : AreInOrder 0 0 answers

-- So do those of each worker, from this number on.
abbrev pub EachFits : ℕ → List (ℕ × LiveOp) → List Appended → List (List LiveAnswer) → Type 0
EachFits worker lines list [] = Unit {0}
EachFits worker lines list (answers ∷ more) =
    WorkerFits worker lines list answers × EachFits (worker + 1) lines list more

-- each record is by one of so many workers
abbrev pub EachByWorker : ℕ → List Appended → Type 0
EachByWorker workers list = AllByRecursion (λ x. (1 ≤ x.0) × (x.0 ≤ workers)) list

-- These answers and this list are right for the text: the list has each append of the text once and no other record, and each
-- worker's answers fit it.
pub record IsRunOf (text : LiveText) (ran : LiveRan) : Type 0 where
  pub workers : length ran.answers ≡ text.workers
  pub by_workers : EachByWorker text.workers ran.list
  pub fits : EachFits 1 text.lines ran.list ran.answers
