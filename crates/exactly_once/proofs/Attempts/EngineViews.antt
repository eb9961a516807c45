-- What an engine's view answers: reads below a seqnum, and whether a commit there succeeded, don't depend on what comes behind.
use Rattle.std.proofs.Common.{◌≡◌, ℕ, suc, ◌<◌, ◌≤◌, Bool, true, false, cond, eqb, leb, ltb, ◌||◌, max, List, [], ◌∷◌, Option, Some, None, refl, ap, ◌∙◌, arith}
use Rattle.std.specs.Prelude.{bytes_eq}
use Rattle.std.specs.List.{list_any}
use Rattle.std.proofs.lemmas.Bool.{eq-eqb, ne_eqb, leb-false}
use Rattle.lb_base.specs.declared.value.Value.{Value}
use Rattle.boki_types.specs.declared.body.Body.{Body}
use Rattle.boki_types.specs.declared.body.Body.TheVariants as b
use Rattle.boki_types.specs.declared.store.Fenced.TheVariants as fenced
use Rattle.boki_model.specs.Live.{Live, upto}
use Rattle.boki_model.specs.Writes.{Store, KeyFence, fence, raise_fences, last_value_below, fenced_answer, read_below}
use Rattle.boki_model.specs.Folds.{Commit, commits, add_commit, succeeds}
use Rattle.boki_machine.specs.Decided.{value_or_none, values_below}
use Rattle.boki_machine.specs.Step as step
use Rattle.boki_machine.specs.Step.{is_committed, read_all}
use Rattle.exactly_once.specs.FurtherLaws.Words.{values_only}
use Rattle.exactly_once.specs.Induction.Invariant.{marked_reads_at, AreFenced}
use Rattle.exactly_once.proofs.Log.ListElements.{each_weaker}
use Rattle.exactly_once.proofs.Log.MapChanges.{same_itself}
use Rattle.exactly_once.proofs.Log.LiveRecords.{Under}
use Rattle.exactly_once.proofs.Invocations.FreeAnswers.{last_older}

-- The last writes.

pub last_upto : (store : Store) (key : List ℕ) (c : ℕ) (xs : List (Live Body)) → last_value_below key (suc c) 0 store xs ≡ last_value_below key (suc c) 0 store (upto c xs)
last_upto store key c [] = refl
last_upto store key c (x ∷ xs) = at (leb x.seq c) refl (last_upto store key c xs)
  where
    at : (t : Bool) → leb x.seq c ≡ t → last_value_below key (suc c) 0 store xs ≡ last_value_below key (suc c) 0 store (upto c xs) → last_value_below key (suc c) 0 store (x ∷ xs) ≡ last_value_below key (suc c) 0 store (cond t (x ∷ xs) (upto c xs))
    at true e ih = refl
    at false e ih = last_older store x xs key (suc c) (let lt = leb-false x.seq c e in omega (arith, lt)) ∙ ih

-- a read that finds the store's values is of the last write
found_value : (o : Option Value) → step.fenced_value (fenced_answer o) ≡ value_or_none o
found_value None = refl
found_value (Some v) = refl

pub read_value : (n : ℕ) (key : List ℕ) (c : ℕ) (store : Store) (view : List (Live Body)) → ltb n store.floor ≡ false → step.fenced_value (read_below n key (suc c) 0 store view) ≡ value_or_none (last_value_below key (suc c) 0 (values_only store) (upto c view))
read_value n key c store view e =
    ap (λ t. step.fenced_value (cond t fenced.Gone (fenced_answer (last_value_below key (suc c) 0 store view)))) e ∙ found_value (last_value_below key (suc c) 0 store view) ∙ ap value_or_none (last_upto (values_only store) key c view)

pub read_values : (n c : ℕ) (store : Store) (view : List (Live Body)) (keys : List (List ℕ)) → ltb n store.floor ≡ false → read_all (λ key. read_below n key (suc c) 0 store view) keys ≡ values_below (suc c) 0 (values_only store) (upto c view) keys
read_values n c store view [] e = refl
read_values n c store view (key ∷ keys) e = λ i. read_value n key c store view e i ∷ read_values n c store view keys e i

-- Commits.

none_committed : (seq n : ℕ) (xs : List (Live Body)) → Under n xs → n < seq → is_committed seq xs ≡ false
none_committed seq n [] under lt = refl
none_committed seq n (x ∷ xs) under lt = of_body x.holds (none_committed seq under.0 xs under.3 (omega (arith, lt, under.2)))
  where
    of_body : (body : Body) → list_any (λ c. eqb seq c.seq) (commits xs) ≡ false → list_any (λ c. eqb seq c.seq) (add_commit x.seq body (commits xs)) ≡ false
    of_body (b.TxnCommit p i begin names writes) ih = at (succeeds begin names writes (commits xs))
      where
        at : (t : Bool) → list_any (λ (c : Commit). eqb seq c.seq) (cond t (record { seq = x.seq; writes = writes } ∷ commits xs) (commits xs)) ≡ false
        at true = (λ i. ne_eqb seq x.seq (λ e. omega (arith, e, lt, under.1, under.2)) i || ih i)
        at false = ih
    of_body _ ih = ih

committed_later : (seq : ℕ) (x : Live Body) (xs : List (Live Body)) → seq < x.seq → is_committed seq (x ∷ xs) ≡ is_committed seq xs
committed_later seq x xs lt = of_body x.holds
  where
    of_body : (body : Body) → list_any (λ c. eqb seq c.seq) (add_commit x.seq body (commits xs)) ≡ list_any (λ c. eqb seq c.seq) (commits xs)
    of_body (b.TxnCommit p i begin names writes) = at (succeeds begin names writes (commits xs))
      where
        at : (t : Bool) → list_any (λ (c : Commit). eqb seq c.seq) (cond t (record { seq = x.seq; writes = writes } ∷ commits xs) (commits xs)) ≡ list_any (λ c. eqb seq c.seq) (commits xs)
        at true = ap (λ t. t || list_any (λ (c : Commit). eqb seq c.seq) (commits xs)) (ne_eqb seq x.seq (λ e. omega (arith, e, lt)))
        at false = refl
    of_body _ = refl

committed_upto : (seq : ℕ) (xs : List (Live Body)) → is_committed seq xs ≡ is_committed seq (upto seq xs)
committed_upto seq [] = refl
committed_upto seq (x ∷ xs) = at (leb x.seq seq) refl (committed_upto seq xs)
  where
    at : (t : Bool) → leb x.seq seq ≡ t → is_committed seq xs ≡ is_committed seq (upto seq xs) → is_committed seq (x ∷ xs) ≡ is_committed seq (cond t (x ∷ xs) (upto seq xs))
    at true e ih = refl
    at false e ih = committed_later seq x xs (leb-false x.seq seq e) ∙ ih

-- a commit that is seen succeeded just where it does behind the records before it
pub committed_is :
    (view : List (Live Body)) (x : Live Body) (behind : List (Live Body)) (m : ℕ) (p : List ℕ) (i begin : ℕ) (names : List (List ℕ)) (writes : List (List ℕ × Value))
    → x.seq ≡ suc m → Under m behind → upto x.seq view ≡ x ∷ behind → x.holds ≡ b.TxnCommit p i begin names writes → is_committed x.seq view ≡ succeeds begin names writes (commits behind)
committed_is view x behind m p i begin names writes is_seq under cut holds =
    committed_upto x.seq view ∙ ap (is_committed x.seq) cut
    ∙ ap (λ body. list_any (λ (c : Commit). eqb x.seq c.seq) (add_commit x.seq body (commits behind))) holds
    ∙ at (succeeds begin names writes (commits behind))
  where
    at : (t : Bool) → list_any (λ (c : Commit). eqb x.seq c.seq) (cond t (record { seq = x.seq; writes = writes } ∷ commits behind) (commits behind)) ≡ t
    at true = ap (λ t. t || list_any (λ (c : Commit). eqb x.seq c.seq) (commits behind)) (eq-eqb x.seq x.seq refl)
    at false = none_committed x.seq m behind under (omega (arith, is_seq))

-- Fences of a marker's keys.

fence_more : (r : KeyFence) (fences : List KeyFence) (key : List ℕ) → fence key fences ≤ fence key (r ∷ fences)
fence_more r fences key = at (bytes_eq key r.key)
  where
    at : (t : Bool) → fence key fences ≤ cond t (max r.at (fence key fences)) (fence key fences)
    at true = omega arith
    at false = omega arith

fence_own : (key : List ℕ) (at : ℕ) (fences : List KeyFence) → at ≤ fence key (record { key = key; at = at } ∷ fences)
fence_own key at fences = rw (same_itself key) (omega arith)

pub raised_marks : (keys : List (List ℕ)) (seq : ℕ) (fences others : List KeyFence) → AreFenced fences others → AreFenced (raise_fences keys seq fences) (marked_reads_at seq keys others)
raised_marks [] seq fences others all = all
raised_marks (key ∷ keys) seq fences others all =
    let rest = raise_fences keys seq fences in
    let r : KeyFence = record { key = key; at = seq } in (
      fence_own key seq rest,
      each_weaker (λ (m : KeyFence). m.at ≤ fence m.key rest) (λ (m : KeyFence). m.at ≤ fence m.key (r ∷ rest)) (λ m le. let grown = fence_more r rest m.key in omega (arith, le, grown)) (marked_reads_at seq keys others) (raised_marks keys seq fences others all),
    )
