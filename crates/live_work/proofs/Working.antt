-- A worker goes from line to line.
use Rattle.std.proofs.Common.{◌≡◌, ℕ, ◌+◌, ◌<◌, ◌≤◌, ◌==◌, Bool, true, false, cond, List, [], ◌∷◌, ◌++◌, length, drop, refl, sym, ap, ◌∙◌, arith, length-append, append_assoc}
use Rattle.std.proofs.lemmas.Grind.{common_steps}
use Rattle.std.proofs.lemmas.List.{append-nil}
use mathlib.Core.List.{IsPrefix}
use Rattle.lb_base.specs.declared.value.Record.{Record}
use Rattle.lb_base.specs.declared.value.Seqnum.{Seqnum}
use Rattle.lb_base.specs.declared.value.Tag.{Tag}
use Rattle.live_log.specs.declared.fault.Stop.{Stop}
use Rattle.live_log.specs.declared.fault.Stop.TheVariants.{Ran, Refused, Behind, Memory}
use Rattle.live_log.specs.Engines.{Engine}
use Rattle.live_log.proofs.Lists.{prefix_self, prefix_trans, prefix_length}
use Rattle.live_text.specs.declared.answers.LiveAnswer.{LiveAnswer}
use Rattle.live_text.specs.declared.answers.LiveAnswer.TheVariants as answer
use Rattle.live_text.specs.declared.text.LiveOp.{LiveOp}
use Rattle.live_text.specs.declared.text.LiveOp.TheVariants as op
use Rattle.std.specs.Prelude.{MatchBool}
use Rattle.live_text.specs.Outputs.{Appended, user_record, ops_of, IsAnswerOf, EachAnswered, record_answered, records_answered, AreInOrder}
use Rattle.live_work.specs.Worked.{with_seqnums, HasAppended, HasRead, DoesLine, AnswersLine, GoesOn, StopsAt, position_behind, append_behind, Worked}
use Rattle.live_work.proofs.Fits.{answered_longer, answered_more, records_more, order_more, position_more, append_more, IsRead, is_read}

with_seqnums_more : (ps : List (ℕ × Appended)) (p : ℕ × Appended) → with_seqnums (ps ++ p ∷ []) ≡ with_seqnums ps ++ (p.0 + 1, p.1.1) ∷ []
with_seqnums_more [] p = refl
with_seqnums_more (q ∷ ps) p = ap (λ (l : List (ℕ × Record)). (q.0 + 1, q.1.1) ∷ l) (with_seqnums_more ps p)

-- behind the last place nothing is left in a list
pub nothing_left : {X : Type 0} (xs : List X) (i : ℕ) → length xs ≤ i → drop i xs ≡ []
nothing_left xs i h = grind (arith, common_steps, h)

-- a worker between two lines: those in front were answered, and these are left
pub record Going (ops rest : List LiveOp) (answers : List LiveAnswer) (e f : Engine) : Type 0 where
  pub number : f.number ≡ e.number
  pub seen : IsPrefix e.seen f.seen
  pub front : List LiveOp
  pub in_front : ops ≡ front ++ rest
  pub answered : EachAnswered f.seen front answers
  pub own : List (ℕ × Appended)
  pub appended : with_seqnums own ≡ records_answered front answers
  pub appends : f.appends ≡ e.appends ++ own
  pub in_order : AreInOrder e.position 0 answers
  pub here : position_behind e.position answers ≡ f.position
  pub covered : append_behind 0 answers ≤ length f.known

pub going_first : (ops : List LiveOp) (e : Engine) → Going ops ops [] e e
going_first ops e = record {
  number = refl;
  seen = prefix_self e.seen;
  front = [];
  in_front = refl;
  answered = tt;
  own = [];
  appended = refl;
  appends = sym (append-nil e.appends);
  in_order = tt;
  here = refl;
  covered = omega arith;
}

going_append : (ops rest : List LiveOp) (xs : List LiveAnswer) (e f h : Engine) (tags : List Tag) (text : List ℕ) (seq : Seqnum) → Going ops (op.Append tags text ∷ rest) xs e f
    → f.position < seq.0 → HasAppended f h (user_record tags text) seq → Going ops rest (xs ++ answer.Append seq ∷ []) e h
going_append ops rest xs e f h tags text seq g above d =
    let r : Record = user_record tags text in
    let o : LiveOp = op.Append tags text in
    let a : LiveAnswer = answer.Append seq in
    let list : List Appended = d.0 in
    let p : ℕ × Appended = (length list, (f.number, r)) in
    let now : List Appended = list ++ (f.number, r) ∷ [] in
    let same : h ≡ record f { known = now; appends = f.appends ++ p ∷ [] } = d.3 in
    rw same (record {
      number = g.number;
      seen = g.seen;
      front = g.front ++ o ∷ [];
      in_front = g.in_front ∙ sym (append_assoc g.front (o ∷ []) rest);
      answered = answered_more f.seen g.front xs o a g.answered tt;
      own = g.own ++ p ∷ [];
      appended =
          with_seqnums_more g.own p
          ∙ ap (λ (l : List (ℕ × Record)). l ++ (length list + 1, r) ∷ []) g.appended
          ∙ ap (λ (n : ℕ). records_answered g.front xs ++ (n, r) ∷ []) (sym d.1)
          ∙ sym (records_more f.seen g.front xs o a g.answered);
      appends = ap (λ (l : List (ℕ × Appended)). l ++ p ∷ []) g.appends ∙ append_assoc e.appends g.own (p ∷ []);
      in_order = order_more e.position 0 xs a g.in_order (omega (arith, g.here, above));
      here = position_more e.position xs a ∙ g.here;
      covered = omega (arith, append_more 0 xs a, d.1, length-append list ((f.number, r) ∷ []));
    })

going_read : (ops rest : List LiveOp) (xs : List LiveAnswer) (e f h : Engine) (o : LiveOp) (a : LiveAnswer) → Going ops (o ∷ rest) xs e f
    → HasRead f h o a → IsAnswerOf h.seen o a → record_answered o a ≡ [] → Going ops rest (xs ++ a ∷ []) e h
going_read ops rest xs e f h o a g r is none =
    let l = r.0 in
    let i : IsRead a = is_read h.seen o a r.2 in
    let covered : append_behind 0 xs ≤ length h.seen = let le = prefix_length f.known h.seen l.known in omega (arith, g.covered, le) in
    record {
      number = l.number ∙ g.number;
      seen = prefix_trans e.seen f.seen h.seen g.seen l.seen;
      front = g.front ++ o ∷ [];
      in_front = g.in_front ∙ sym (append_assoc g.front (o ∷ []) rest);
      answered = answered_more h.seen g.front xs o a (answered_longer f.seen h.seen g.front xs l.seen g.answered) is;
      own = g.own;
      appended =
          g.appended
          ∙ sym (records_more f.seen g.front xs o a g.answered
          ∙ ap (λ (m : List (ℕ × Record)). records_answered g.front xs ++ m) none
          ∙ append-nil (records_answered g.front xs));
      appends = l.appends ∙ g.appends;
      in_order =
          order_more e.position 0 xs a g.in_order
          (i.stands (position_behind e.position xs) (append_behind 0 xs)
          (omega (arith, g.here, l.rises, r.1))
          (omega (arith, covered, l.whole, r.1)));
      here = position_more e.position xs a ∙ i.moves (position_behind e.position xs) ∙ r.1;
      covered =
          let same : length h.known ≡ length h.seen = ap (λ (s : List Appended). length s) l.known_is in
          omega (arith, append_more 0 xs a, i.keeps (append_behind 0 xs), covered, same);
    }

pub going_more : (ops rest : List LiveOp) (xs : List LiveAnswer) (e f h : Engine) (o : LiveOp) (a : LiveAnswer) → Going ops (o ∷ rest) xs e f → DoesLine f h o a → Going ops rest (xs ++ a ∷ []) e h
going_more ops rest xs e f h (op.Append tags text) (answer.Append seq) g d = going_append ops rest xs e f h tags text seq g d.0 d.1
going_more ops rest xs e f h (op.Append tags text) (answer.Next s p) g d = going_read ops rest xs e f h (op.Append tags text) (answer.Next s p) g d d.2 refl
going_more ops rest xs e f h (op.Append tags text) (answer.Prev s p) g d = going_read ops rest xs e f h (op.Append tags text) (answer.Prev s p) g d d.2 refl
going_more ops rest xs e f h (op.Append tags text) (answer.Count n p) g d = going_read ops rest xs e f h (op.Append tags text) (answer.Count n p) g d d.2 refl
going_more ops rest xs e f h (op.Next tag from) a g d = going_read ops rest xs e f h (op.Next tag from) a g d d.2 refl
going_more ops rest xs e f h (op.Prev tag upto) a g d = going_read ops rest xs e f h (op.Prev tag upto) a g d d.2 refl
going_more ops rest xs e f h (op.Count tag) a g d = going_read ops rest xs e f h (op.Count tag) a g d d.2 refl

-- one line of the text more
pub going_on : (number : ℕ) (ops : List LiveOp) (x : ℕ × LiveOp) (rest : List (ℕ × LiveOp)) (before after : List LiveAnswer) (e f h : Engine) → Going ops (ops_of number (x ∷ rest)) before e f → GoesOn number x f h before after → Going ops (ops_of number rest) after e h
going_on number ops x rest before after e f h g d = go (x.0 == number) g d
  where
    go : (b : Bool) → Going ops (cond b (x.1 ∷ ops_of number rest) (ops_of number rest)) before e f → MatchBool b (AnswersLine f h x.1 before after) ((h ≡ f) × (after ≡ before)) → Going ops (ops_of number rest) after e h
    go true g d = rw d.2 (going_more ops (ops_of number rest) before e f h x.1 d.0 g d.1)
    go false g d = rw (d.0, d.1) g

pub worked_ran : (ops : List LiveOp) (xs : List LiveAnswer) (e f : Engine) → Going ops [] xs e f → Worked ops xs e f Ran
worked_ran ops xs e f g = record {
  number = g.number;
  seen = g.seen;
  front = g.front;
  rest = [];
  in_front = g.in_front;
  answered = g.answered;
  own = g.own;
  appended = g.appended;
  appends = g.appends;
  in_order = g.in_order;
  within = omega (arith, g.here);
  ran = λ r. refl;
  behind = tt;
}

pub worked_stopped : (ops rest : List LiveOp) (xs : List LiveAnswer) (e f h : Engine) (s : Stop) → Going ops rest xs e f → StopsAt f h s → Worked ops xs e h s
worked_stopped ops rest xs e f h (Behind seq) g s = record {
  number = s.0 ∙ g.number;
  seen = rw s.1 g.seen;
  front = g.front;
  rest = rest;
  in_front = g.in_front;
  answered = rw s.1 g.answered;
  own = g.own;
  appended = g.appended;
  appends = let m = s.4 in (m.0, m.1, m.2 ∙ ap (λ (z : List (ℕ × Appended)). z ++ m.0 ∷ []) g.appends);
  in_order = g.in_order;
  within = omega (arith, g.here, s.2);
  ran = λ r. absurd (cc r);
  behind = (omega (arith, s.3, g.here), s.2 ∙ sym g.here);
}
worked_stopped ops rest xs e f h Ran g s = absurd s
worked_stopped ops rest xs e f h Refused g s = record {
  number = s.0 ∙ g.number;
  seen = prefix_trans e.seen f.seen h.seen g.seen s.2;
  front = g.front;
  rest = rest;
  in_front = g.in_front;
  answered = answered_longer f.seen h.seen g.front xs s.2 g.answered;
  own = g.own;
  appended = g.appended;
  appends = s.1 ∙ g.appends;
  in_order = g.in_order;
  within = omega (arith, g.here, s.3);
  ran = λ r. absurd (cc r);
  behind = tt;
}
worked_stopped ops rest xs e f h Memory g s = record {
  number = s.0 ∙ g.number;
  seen = prefix_trans e.seen f.seen h.seen g.seen s.2;
  front = g.front;
  rest = rest;
  in_front = g.in_front;
  answered = answered_longer f.seen h.seen g.front xs s.2 g.answered;
  own = g.own;
  appended = g.appended;
  appends = s.1 ∙ g.appends;
  in_order = g.in_order;
  within = omega (arith, g.here, s.3);
  ran = λ r. absurd (cc r);
  behind = tt;
}
