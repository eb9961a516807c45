-- What a worker did on its engine.
use Rattle.std.specs.Prelude.{◌≡◌, ℕ, ◌+◌, ◌<◌, ◌≤◌, ◌==◌, List, [], ◌∷◌, ◌++◌, length, MatchBool}
use mathlib.Core.List.{IsPrefix}
use Rattle.lb_base.specs.declared.value.Record.{Record}
use Rattle.lb_base.specs.declared.value.Seqnum.{Seqnum}
use Rattle.live_log.specs.declared.fault.Stop.{Stop}
use Rattle.live_log.specs.declared.fault.Stop.TheVariants.{Ran, Behind}
use Rattle.live_log.specs.Engines.{Engine}
use Rattle.live_text.specs.declared.answers.LiveAnswer.{LiveAnswer}
use Rattle.live_text.specs.declared.answers.LiveAnswer.TheVariants as answer
use Rattle.live_text.specs.declared.text.LiveOp.{LiveOp}
use Rattle.live_text.specs.declared.text.LiveOp.TheVariants as op
use Rattle.live_text.specs.Outputs.{Appended, user_record, IsReadOf, EachAnswered, records_answered, AreInOrder, position_after, append_after}

-- an engine's appends by their seqnums
abbrev pub with_seqnums : List (ℕ × Appended) → List (ℕ × Record)
with_seqnums [] = []
with_seqnums (p ∷ ps) = (p.0 + 1, p.1.1) ∷ with_seqnums ps

-- An engine before and after one line.

-- it appended this record, which stands behind a list that begins with all that it knew
abbrev pub HasAppended : Engine → Engine → Record → Seqnum → Type 0
HasAppended e f r seq =
    (list : List Appended) × (seq.0 ≡ length list + 1) × IsPrefix e.known list
    × (f ≡ record e { known = list ++ (e.number, r) ∷ []; appends = e.appends ++ (length list, (e.number, r)) ∷ [] })

-- it looked, and has seen all that it knew
pub record HasLooked (e f : Engine) : Type 0 where
  pub number : f.number ≡ e.number
  pub appends : f.appends ≡ e.appends
  pub seen : IsPrefix e.seen f.seen
  pub known : IsPrefix e.known f.seen
  pub known_is : f.known ≡ f.seen
  pub rises : e.position ≤ f.position
  pub whole : f.position ≡ length f.seen

-- a read is of what it has then seen
abbrev pub HasRead : Engine → Engine → LiveOp → LiveAnswer → Type 0
HasRead e f o a = HasLooked e f × (position_after 0 a ≡ f.position) × IsReadOf f.seen o a

abbrev pub DoesLine : Engine → Engine → LiveOp → LiveAnswer → Type 0
DoesLine e f (op.Append tags text) (answer.Append seq) = (e.position < seq.0) × HasAppended e f (user_record tags text) seq
DoesLine e f o a = HasRead e f o a

-- a line without an answer: after Behind there is one append more, whose seqnum isn't above the position
abbrev pub HasOneMore : List (ℕ × Appended) → Seqnum → List (ℕ × Appended) → Type 0
HasOneMore before seq after = (p : ℕ × Appended) × (seq.0 ≡ p.0 + 1) × (after ≡ before ++ p ∷ [])

abbrev pub StopsAt : Engine → Engine → Stop → Type 0
StopsAt e f (Behind seq) =
    (f.number ≡ e.number) × (f.seen ≡ e.seen) × (f.position ≡ e.position) × (seq.0 ≤ e.position)
    × HasOneMore e.appends seq f.appends
StopsAt e f Ran = ⊥
StopsAt e f _ = (f.number ≡ e.number) × (f.appends ≡ e.appends) × IsPrefix e.seen f.seen × (e.position ≤ f.position)

-- an answer was added
abbrev pub AnswersLine : Engine → Engine → LiveOp → List LiveAnswer → List LiveAnswer → Type 0
AnswersLine e f o before after = (a : LiveAnswer) × DoesLine e f o a × (after ≡ before ++ a ∷ [])

-- a line of the text: it is answered where it is the worker's, and else nothing is done
abbrev pub GoesOn : ℕ → ℕ × LiveOp → Engine → Engine → List LiveAnswer → List LiveAnswer → Type 0
GoesOn number x e f before after = MatchBool (x.0 == number) (AnswersLine e f x.1 before after) ((f ≡ e) × (after ≡ before))

-- the position behind answers, and the seqnum of the last append among them
abbrev pub position_behind : ℕ → List LiveAnswer → ℕ
position_behind position [] = position
position_behind position (a ∷ answers) = position_behind (position_after position a) answers

abbrev pub append_behind : ℕ → List LiveAnswer → ℕ
append_behind last [] = last
append_behind last (a ∷ answers) = append_behind (append_after last a) answers

-- the engine's appends are those that it had and those that were answered; after Behind there is one more
abbrev pub HasAppends : Stop → List (ℕ × Appended) → List (ℕ × Appended) → Type 0
HasAppends (Behind seq) answered appends = HasOneMore answered seq appends
HasAppends _ answered appends = appends ≡ answered

-- after Behind the engine is at the position that the last read named, and the append isn't above it
abbrev pub IsBehind : Stop → ℕ → Engine → Type 0
IsBehind (Behind seq) position f = (seq.0 ≤ position) × (f.position ≡ position)
IsBehind _ position f = Unit {0}

-- What was done of some lines when an engine stopped: the lines in front were answered, each read as what the engine has seen in the
-- end says; all of them where it ran.
pub record Worked (ops : List LiveOp) (answers : List LiveAnswer) (e f : Engine) (stop : Stop) : Type 0 where
  pub number : f.number ≡ e.number
  pub seen : IsPrefix e.seen f.seen
  pub front : List LiveOp
  pub rest : List LiveOp
  pub in_front : ops ≡ front ++ rest
  pub answered : EachAnswered f.seen front answers
  pub own : List (ℕ × Appended)
  pub appended : with_seqnums own ≡ records_answered front answers
  pub appends : HasAppends stop (e.appends ++ own) f.appends
  pub in_order : AreInOrder e.position 0 answers
  pub within : position_behind e.position answers ≤ f.position
  pub ran : stop ≡ Ran → rest ≡ []
  pub behind : IsBehind stop (position_behind e.position answers) f
