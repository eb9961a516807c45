-- Answers that fit a list, and one more.
use Rattle.std.proofs.Common.{◌≡◌, ℕ, ◌≤◌, List, [], ◌∷◌, ◌++◌, length, Some, refl, sym, ap, ◌∙◌, arith, append_assoc}
use Rattle.std.proofs.lemmas.List.{append-nil}
use mathlib.Core.List.{IsPrefix}
use Rattle.boki_model.specs.Live.{Live, live, count}
use Rattle.boki_model.specs.Reads.{next, prev}
use Rattle.live_log.proofs.Indexed.{prefix_takes}
use Rattle.live_log.proofs.Lists.{prefix_length}
use Rattle.live_text.specs.declared.answers.LiveAnswer.{LiveAnswer}
use Rattle.live_text.specs.declared.answers.LiveAnswer.TheVariants as answer
use Rattle.live_text.specs.declared.text.LiveOp.{LiveOp}
use Rattle.live_text.specs.declared.text.LiveOp.TheVariants as op
use Rattle.live_text.specs.Outputs.{Appended, log_of, seen_at, seqnum_of, position_after, append_after, read_at, IsReadOf, IsAnswerOf, EachAnswered, record_answered, records_answered, IsInOrder, AreInOrder}
use Rattle.live_work.specs.Worked.{position_behind, append_behind}

-- the first records of a list stay, where it grows
pub seen_longer : (seen now : List Appended) (p : ℕ) → IsPrefix seen now → p ≤ length seen → seen_at p seen ≡ seen_at p now
seen_longer seen now p pre le = ap (λ (l : List Appended). live (log_of l)) (prefix_takes p seen now pre le)

read_at_longer : (seen now : List Appended) (p : ℕ) (o : LiveOp) → IsPrefix seen now → p ≤ length seen → read_at p seen o ≡ read_at p now o
read_at_longer seen now p (op.Append tags text) pre le = refl
read_at_longer seen now p (op.Next tag from) pre le =
    ap (λ (l : List (Live (List ℕ))). Some (answer.Next (seqnum_of (next tag.0 from.0 l)) p)) (seen_longer seen now p pre le)
read_at_longer seen now p (op.Prev tag upto) pre le =
    ap (λ (l : List (Live (List ℕ))). Some (answer.Prev (seqnum_of (prev tag.0 upto.0 l)) p)) (seen_longer seen now p pre le)
read_at_longer seen now p (op.Count tag) pre le =
    ap (λ (l : List (Live (List ℕ))). Some (answer.Count (count tag.0 l) p)) (seen_longer seen now p pre le)

pub read_longer : (seen now : List Appended) (o : LiveOp) (a : LiveAnswer) → IsPrefix seen now → IsReadOf seen o a → IsReadOf now o a
read_longer seen now o a pre r =
    let l : length seen ≤ length now = prefix_length seen now pre in
    (omega (arith, l, r.0), sym (read_at_longer seen now (position_after 0 a) o pre r.0) ∙ r.1)

answer_longer : (seen now : List Appended) (o : LiveOp) (a : LiveAnswer) → IsPrefix seen now → IsAnswerOf seen o a → IsAnswerOf now o a
answer_longer seen now (op.Append tags text) (answer.Append seq) pre r = tt
answer_longer seen now (op.Append tags text) (answer.Next s p) pre r = read_longer seen now (op.Append tags text) (answer.Next s p) pre r
answer_longer seen now (op.Append tags text) (answer.Prev s p) pre r = read_longer seen now (op.Append tags text) (answer.Prev s p) pre r
answer_longer seen now (op.Append tags text) (answer.Count n p) pre r = read_longer seen now (op.Append tags text) (answer.Count n p) pre r
answer_longer seen now (op.Next tag from) a pre r = read_longer seen now (op.Next tag from) a pre r
answer_longer seen now (op.Prev tag upto) a pre r = read_longer seen now (op.Prev tag upto) a pre r
answer_longer seen now (op.Count tag) a pre r = read_longer seen now (op.Count tag) a pre r

pub answered_longer : (seen now : List Appended) (ops : List LiveOp) (answers : List LiveAnswer) → IsPrefix seen now → EachAnswered seen ops answers → EachAnswered now ops answers
answered_longer seen now [] [] pre h = tt
answered_longer seen now (o ∷ ops) (a ∷ answers) pre h = (answer_longer seen now o a pre h.0, answered_longer seen now ops answers pre h.1)
answered_longer seen now [] (a ∷ answers) pre h = absurd h
answered_longer seen now (o ∷ ops) [] pre h = absurd h

pub answered_more : (list : List Appended) (ops : List LiveOp) (answers : List LiveAnswer) (o : LiveOp) (a : LiveAnswer) → EachAnswered list ops answers → IsAnswerOf list o a → EachAnswered list (ops ++ o ∷ []) (answers ++ a ∷ [])
answered_more list [] [] o a h is = (is, tt)
answered_more list (p ∷ ops) (b ∷ answers) o a h is = (h.0, answered_more list ops answers o a h.1 is)
answered_more list [] (b ∷ answers) o a h is = absurd h
answered_more list (p ∷ ops) [] o a h is = absurd h

pub records_more : (list : List Appended) (ops : List LiveOp) (answers : List LiveAnswer) (o : LiveOp) (a : LiveAnswer) → EachAnswered list ops answers
    → records_answered (ops ++ o ∷ []) (answers ++ a ∷ []) ≡ records_answered ops answers ++ record_answered o a
records_more list [] [] o a h = append-nil (record_answered o a)
records_more list (p ∷ ops) (b ∷ answers) o a h =
    ap (λ l. record_answered p b ++ l) (records_more list ops answers o a h.1)
    ∙ sym (append_assoc (record_answered p b) (records_answered ops answers) (record_answered o a))
records_more list [] (b ∷ answers) o a h = absurd h
records_more list (p ∷ ops) [] o a h = absurd h

-- positions and last appends, with one answer more
pub order_more : (position last : ℕ) (answers : List LiveAnswer) (a : LiveAnswer) → AreInOrder position last answers → IsInOrder (position_behind position answers) (append_behind last answers) a → AreInOrder position last (answers ++ a ∷ [])
order_more position last [] a o h = (h, tt)
order_more position last (b ∷ answers) a o h = (o.0, order_more (position_after position b) (append_after last b) answers a o.1 h)

pub position_more : (position : ℕ) (answers : List LiveAnswer) (a : LiveAnswer) → position_behind position (answers ++ a ∷ []) ≡ position_after (position_behind position answers) a
position_more position [] a = refl
position_more position (b ∷ answers) a = position_more (position_after position b) answers a

pub append_more : (last : ℕ) (answers : List LiveAnswer) (a : LiveAnswer) → append_behind last (answers ++ a ∷ []) ≡ append_after (append_behind last answers) a
append_more last [] a = refl
append_more last (b ∷ answers) a = append_more (append_after last b) answers a

-- what a read says of positions, whatever stood before it
pub record IsRead (a : LiveAnswer) : Type 0 where
  pub moves : (position : ℕ) → position_after position a ≡ position_after 0 a
  pub keeps : (last : ℕ) → append_after last a ≡ last
  pub stands : (position last : ℕ) → position ≤ position_after 0 a → last ≤ position_after 0 a → IsInOrder position last a

no_append : (p : ℕ) (list : List Appended) (o : LiveOp) (seq : _) → read_at p list o ≡ Some (answer.Append seq) → ⊥
no_append p list (op.Append tags text) seq e = cc e
no_append p list (op.Next tag from) seq e = cc e
no_append p list (op.Prev tag upto) seq e = cc e
no_append p list (op.Count tag) seq e = cc e

pub is_read : (list : List Appended) (o : LiveOp) (a : LiveAnswer) → IsReadOf list o a → IsRead a
is_read list o (answer.Append seq) r = absurd (no_append 0 list o seq r.1)
is_read list o (answer.Next s p) r = record { moves = λ position. refl; keeps = λ last. refl; stands = λ position last le cov. (le, cov) }
is_read list o (answer.Prev s p) r = record { moves = λ position. refl; keeps = λ last. refl; stands = λ position last le cov. (le, cov) }
is_read list o (answer.Count n p) r = record { moves = λ position. refl; keeps = λ last. refl; stands = λ position last le cov. (le, cov) }
