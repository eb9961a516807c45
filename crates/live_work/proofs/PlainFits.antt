-- What a text comes to on one thread is right for it.
use Rattle.std.proofs.Common.{◌≡◌, ℕ, zero, suc, ◌+◌, ◌-◌, ◌<◌, ◌≤◌, ◌==◌, cond, Bool, true, false, List, [], ◌∷◌, ◌++◌, length, Some, refl, sym, ap, ◌∙◌, arith, length-append, append_assoc}
use Rattle.std.specs.List.{AllByRecursion}
use Rattle.std.proofs.lemmas.Bool.Decides.{nat_tests}
use Rattle.std.proofs.lemmas.List.{append-nil}
use mathlib.Core.List.{IsPrefix}
use Rattle.lb_base.specs.declared.value.Record.{Record}
use Rattle.boki_model.specs.Live.{live, count}
use Rattle.boki_model.specs.Reads.{next, prev}
use Rattle.live_log.proofs.Lists.{prefix_self, prefix_trans, prefix_length, prefix_take}
use Rattle.live_text.specs.declared.answers.LiveAnswer.{LiveAnswer}
use Rattle.live_text.specs.declared.answers.LiveAnswer.TheVariants as answer
use Rattle.live_text.specs.declared.text.LiveOp.{LiveOp}
use Rattle.live_text.specs.declared.text.LiveOp.TheVariants as op
use Rattle.live_text.specs.declared.text.LiveText.{LiveText}
use Rattle.live_text.specs.Outputs.{Appended, user_record, log_of, seqnum_of, ops_of, records_of, IsAnswerOf, EachAnswered, record_answered, records_answered, AreInOrder, EachFits, EachByWorker, IsRunOf}
use Rattle.live_work.specs.Plain.{added_by, plain_answer, list_behind, plain_answers, list_of_workers, answers_of_workers, plain_ran}

-- records of a worker in two lists, one behind the other
cons_if : (b : Bool) (p : ℕ × Record) (whole front back : List (ℕ × Record)) → whole ≡ front ++ back → cond b (p ∷ whole) whole ≡ cond b (p ∷ front) front ++ back
cons_if true p whole front back e = ap (λ (l : List (ℕ × Record)). p ∷ l) e
cons_if false p whole front back e = e

records_append : (w s : ℕ) (xs ys : List Appended) → records_of w s (xs ++ ys) ≡ records_of w s xs ++ records_of w (s + length xs) ys
records_append w s [] ys = let same : s ≡ s + 0 = omega arith in ap (λ (n : ℕ). records_of w n ys) same
records_append w s (x ∷ xs) ys =
    let same : s + 1 + length xs ≡ s + length (x ∷ xs) = omega arith in
    let rest : records_of w (s + 1) (xs ++ ys) ≡ records_of w (s + 1) xs ++ records_of w (s + length (x ∷ xs)) ys =
    records_append w (s + 1) xs ys ∙ ap (λ (n : ℕ). records_of w (s + 1) xs ++ records_of w n ys) same in
    cons_if (x.0 == w) (s, x.1) (records_of w (s + 1) (xs ++ ys)) (records_of w (s + 1) xs) (records_of w (s + length (x ∷ xs)) ys) rest

-- the record of a line, where it is the worker's own, and where it is another's
same_worker : (w : ℕ) → (w == w) ≡ true
same_worker w = grind (arith, nat_tests)

own_record : (w : ℕ) (list : List Appended) (o : LiveOp) → records_of w (1 + length list) (added_by w o) ≡ record_answered o (plain_answer list o)
own_record w list (op.Append tags text) =
    let same : 1 + length list ≡ length list + 1 = omega arith in
    let r : Record = user_record tags text in
    ap (λ (b : Bool). cond b ((1 + length list, r) ∷ []) []) (same_worker w) ∙ ap (λ (n : ℕ). (n, r) ∷ []) same
own_record w list (op.Next tag from) = refl
own_record w list (op.Prev tag upto) = refl
own_record w list (op.Count tag) = refl

other_record : (k w s : ℕ) (o : LiveOp) → (w == k) ≡ false → records_of k s (added_by w o) ≡ []
other_record k w s (op.Append tags text) e = ap (λ (b : Bool). cond b ((s, user_record tags text) ∷ []) []) e
other_record k w s (op.Next tag from) e = refl
other_record k w s (op.Prev tag upto) e = refl
other_record k w s (op.Count tag) e = refl

plain_records : (w : ℕ) (ops : List LiveOp) (list : List Appended) → records_of w 1 (list_behind w ops list) ≡ records_of w 1 list ++ records_answered ops (plain_answers w ops list)
plain_records w [] list = sym (append-nil (records_of w 1 list))
plain_records w (o ∷ ops) list =
    let now : List Appended = list ++ added_by w o in
    let rest : List (ℕ × Record) = records_answered ops (plain_answers w ops now) in
    plain_records w ops now
    ∙ ap (λ (l : List (ℕ × Record)). l ++ rest) (records_append w 1 list (added_by w o) ∙ ap (λ (l : List (ℕ × Record)). records_of w 1 list ++ l) (own_record w list o))
    ∙ append_assoc (records_of w 1 list) (record_answered o (plain_answer list o)) rest

other_records : (k w : ℕ) (ops : List LiveOp) (list : List Appended) → (w == k) ≡ false → records_of k 1 (list_behind w ops list) ≡ records_of k 1 list
other_records k w [] list e = refl
other_records k w (o ∷ ops) list e =
    other_records k w ops (list ++ added_by w o) e
    ∙ records_append k 1 list (added_by w o)
    ∙ ap (λ (l : List (ℕ × Record)). records_of k 1 list ++ l) (other_record k w (1 + length list) o e)
    ∙ append-nil (records_of k 1 list)

later_workers : (k n w : ℕ) (lines : List (ℕ × LiveOp)) (list : List Appended) → k < w → records_of k 1 (list_of_workers n w lines list) ≡ records_of k 1 list
later_workers k zero w lines list lt = refl
later_workers k (suc n) w lines list lt =
    let other : (w == k) ≡ false = grind (arith, nat_tests, lt) in
    later_workers k n (w + 1) lines (list_behind w (ops_of w lines) list) (omega (arith, lt)) ∙ other_records k w (ops_of w lines) list other

-- lists grow
list_grows : (w : ℕ) (ops : List LiveOp) (list : List Appended) → IsPrefix list (list_behind w ops list)
list_grows w [] list = prefix_self list
list_grows w (o ∷ ops) list = prefix_trans list (list ++ added_by w o) (list_behind w ops (list ++ added_by w o)) (added_by w o, refl) (list_grows w ops (list ++ added_by w o))

workers_grow : (n w : ℕ) (lines : List (ℕ × LiveOp)) (list : List Appended) → IsPrefix list (list_of_workers n w lines list)
workers_grow zero w lines list = prefix_self list
workers_grow (suc n) w lines list =
    let now : List Appended = list_behind w (ops_of w lines) list in
    prefix_trans list now (list_of_workers n (w + 1) lines now) (list_grows w (ops_of w lines) list) (workers_grow n (w + 1) lines now)

-- each line is answered by the list before it, which begins the whole
plain_answer_fits : (list now : List Appended) (o : LiveOp) → IsPrefix list now → IsAnswerOf now o (plain_answer list o)
plain_answer_fits list now (op.Append tags text) pre = tt
plain_answer_fits list now (op.Next tag from) pre =
    (prefix_length list now pre, ap (λ (l : List Appended). Some (answer.Next (seqnum_of (next tag.0 from.0 (live (log_of l)))) (length list))) (sym (prefix_take list now pre)))
plain_answer_fits list now (op.Prev tag upto) pre =
    (prefix_length list now pre, ap (λ (l : List Appended). Some (answer.Prev (seqnum_of (prev tag.0 upto.0 (live (log_of l)))) (length list))) (sym (prefix_take list now pre)))
plain_answer_fits list now (op.Count tag) pre =
    (prefix_length list now pre, ap (λ (l : List Appended). Some (answer.Count (count tag.0 (live (log_of l))) (length list))) (sym (prefix_take list now pre)))

plain_answered : (w : ℕ) (ops : List LiveOp) (list now : List Appended) → IsPrefix (list_behind w ops list) now → EachAnswered now ops (plain_answers w ops list)
plain_answered w [] list now pre = tt
plain_answered w (o ∷ ops) list now pre = (
  plain_answer_fits list now o (prefix_trans list (list_behind w (o ∷ ops) list) now (list_grows w (o ∷ ops) list) pre),
  plain_answered w ops (list ++ added_by w o) now pre,
)

plain_in_order : (w : ℕ) (ops : List LiveOp) (list : List Appended) (position last : ℕ) → position ≤ length list → last ≤ length list → AreInOrder position last (plain_answers w ops list)
plain_in_order w [] list position last p l = tt
plain_in_order w (op.Append tags text ∷ ops) list position last p l =
    let x : Appended = (w, user_record tags text) in
    let more : length (list ++ x ∷ []) ≡ length list + 1 = omega (arith, length-append list (x ∷ [])) in
    (omega (arith, p), plain_in_order w ops (list ++ x ∷ []) position (length list + 1) (omega (arith, p, more)) (omega (arith, more)))
plain_in_order w (op.Next tag from ∷ ops) list position last p l =
    let same : length (list ++ []) ≡ length list = ap (λ (m : List Appended). length m) (append-nil list) in
    ((p, l), plain_in_order w ops (list ++ []) (length list) last (omega (arith, same)) (omega (arith, l, same)))
plain_in_order w (op.Prev tag upto ∷ ops) list position last p l =
    let same : length (list ++ []) ≡ length list = ap (λ (m : List Appended). length m) (append-nil list) in
    ((p, l), plain_in_order w ops (list ++ []) (length list) last (omega (arith, same)) (omega (arith, l, same)))
plain_in_order w (op.Count tag ∷ ops) list position last p l =
    let same : length (list ++ []) ≡ length list = ap (λ (m : List Appended). length m) (append-nil list) in
    ((p, l), plain_in_order w ops (list ++ []) (length list) last (omega (arith, same)) (omega (arith, l, same)))

-- the workers from a number on have no record in the list yet
abbrev Fresh : ℕ → List Appended → Type 0
Fresh w list = (k : ℕ) → w ≤ k → records_of k 1 list ≡ []

each_plain : (n w : ℕ) (lines : List (ℕ × LiveOp)) (list : List Appended) → Fresh w list → EachFits w lines (list_of_workers n w lines list) (answers_of_workers n w lines list)
each_plain zero w lines list fresh = tt
each_plain (suc n) w lines list fresh =
    let ops : List LiveOp = ops_of w lines in
    let behind : List Appended = list_behind w ops list in
    let now : List Appended = list_of_workers n (w + 1) lines behind in
    let others : Fresh (w + 1) behind = λ k le.
    let other : (w == k) ≡ false = grind (arith, nat_tests, le) in
    other_records k w ops list other ∙ fresh k (omega (arith, le)) in (
      record {
        answered = plain_answered w ops list now (workers_grow n (w + 1) lines behind);
        appended =
            later_workers w n (w + 1) lines behind (omega arith)
            ∙ plain_records w ops list
            ∙ ap (λ (l : List (ℕ × Record)). l ++ records_answered ops (plain_answers w ops list)) (fresh w (omega arith));
        in_order = plain_in_order w ops list 0 0 (omega arith) (omega arith);
      },
      each_plain n (w + 1) lines behind others,
    )

-- each record is by a worker that there is
each_append : (P : Appended → Type 0) (xs ys : List Appended) → AllByRecursion P xs → AllByRecursion P ys → AllByRecursion P (xs ++ ys)
each_append P [] ys a b = b
each_append P (x ∷ xs) ys a b = (a.0, each_append P xs ys a.1 b)

added_by_worker : (m w : ℕ) (o : LiveOp) → 1 ≤ w → w ≤ m → EachByWorker m (added_by w o)
added_by_worker m w (op.Append tags text) low high = ((low, high), tt)
added_by_worker m w (op.Next tag from) low high = tt
added_by_worker m w (op.Prev tag upto) low high = tt
added_by_worker m w (op.Count tag) low high = tt

behind_by_worker : (m w : ℕ) (ops : List LiveOp) (list : List Appended) → 1 ≤ w → w ≤ m → EachByWorker m list → EachByWorker m (list_behind w ops list)
behind_by_worker m w [] list low high by = by
behind_by_worker m w (o ∷ ops) list low high by =
    behind_by_worker m w ops (list ++ added_by w o) low high (each_append (λ (x : Appended). (1 ≤ x.0) × (x.0 ≤ m)) list (added_by w o) by (added_by_worker m w o low high))

list_by_workers : (m n w : ℕ) (lines : List (ℕ × LiveOp)) (list : List Appended) → 1 ≤ w → w + n ≤ m + 1 → EachByWorker m list → EachByWorker m (list_of_workers n w lines list)
list_by_workers m zero w lines list low high by = by
list_by_workers m (suc n) w lines list low high by =
    list_by_workers m n (w + 1) lines (list_behind w (ops_of w lines) list) (omega (arith, low)) (omega (arith, high))
    (behind_by_worker m w (ops_of w lines) list low (omega (arith, high)) by)

count_answers : (n w : ℕ) (lines : List (ℕ × LiveOp)) (list : List Appended) → length (answers_of_workers n w lines list) ≡ n
count_answers zero w lines list = refl
count_answers (suc n) w lines list = ap suc (count_answers n (w + 1) lines (list_behind w (ops_of w lines) list))

pub plain_fits : (text : LiveText) → IsRunOf text (plain_ran text)
plain_fits text = record {
  workers = count_answers text.workers 1 text.lines [];
  by_workers = list_by_workers text.workers text.workers 1 text.lines [] (omega arith) (omega arith) tt;
  fits = each_plain text.workers 1 text.lines [] (λ k le. refl);
}

-- one worker more
left_more : (n k : ℕ) → k < n → n - k ≡ suc (n - (k + 1))
left_more n k lt = omega (arith, lt)

pub worker_more : (m done : ℕ) (lines : List (ℕ × LiveOp)) (list now : List Appended) → done < m → now ≡ list_behind (done + 1) (ops_of (done + 1) lines) list
    → list_of_workers (m - (done + 1)) (done + 1 + 1) lines now ≡ list_of_workers (m - done) (done + 1) lines list
worker_more m done lines list now lt is =
    ap (λ (l : List Appended). list_of_workers (m - (done + 1)) (done + 1 + 1) lines l) is
    ∙ sym (ap (λ (n : ℕ). list_of_workers n (done + 1) lines list) (left_more m done lt))

pub answers_more : (m done : ℕ) (lines : List (ℕ × LiveOp)) (list now : List Appended) (before after : List (List LiveAnswer)) (a : List LiveAnswer) → done < m → now ≡ list_behind (done + 1) (ops_of (done + 1) lines) list
    → a ≡ plain_answers (done + 1) (ops_of (done + 1) lines) list → after ≡ before ++ a ∷ []
    → after ++ answers_of_workers (m - (done + 1)) (done + 1 + 1) lines now ≡ before ++ answers_of_workers (m - done) (done + 1) lines list
answers_more m done lines list now before after a lt is told more =
    let rest : List (List LiveAnswer) = answers_of_workers (m - (done + 1)) (done + 1 + 1) lines now in
    let one : answers_of_workers (m - done) (done + 1) lines list ≡ plain_answers (done + 1) (ops_of (done + 1) lines) list ∷ answers_of_workers (m - (done + 1)) (done + 1 + 1) lines (list_behind (done + 1) (ops_of (done + 1) lines) list) =
    ap (λ (n : ℕ). answers_of_workers n (done + 1) lines list) (left_more m done lt) in
    ap (λ (l : List (List LiveAnswer)). l ++ rest) more
    ∙ append_assoc before (a ∷ []) rest
    ∙ ap (λ (x : List LiveAnswer). before ++ x ∷ rest) told
    ∙ ap (λ (l : List Appended). before ++ plain_answers (done + 1) (ops_of (done + 1) lines) list ∷ answers_of_workers (m - (done + 1)) (done + 1 + 1) lines l) is
    ∙ ap (λ (l : List (List LiveAnswer)). before ++ l) (sym one)
