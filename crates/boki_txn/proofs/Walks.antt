-- The names of a walk.
use Rattle.std.proofs.Common.{◌≡◌, ℕ, zero, suc, ◌+◌, ◌-◌, ◌<◌, ◌≤◌, List, [], length, drop, reverse, slice_index, Result, Ok, Err, IfOk, refl, sym, ap, subst, ◌∙◌, arith}
use Rattle.std.proofs.lemmas.List.{drop_more, drop_all}
use Rattle.boki_model.specs.Live.{upto}
use Rattle.boki_model.specs.Reads.{tagged_seqnums}
use Rattle.log_folds.specs.Own.{commit_tag}
use Rattle.book_api.specs.Books.{BookState}
use Rattle.step_log.specs.Sound.{live_bodies, view, Sound}
use Rattle.fold_cache.specs.Bodies.{body_at}
use Rattle.fold_cache.specs.Kept.{KeptState, state_at}
use Rattle.boki_txn.specs.declared.walking.Start.{Start}
use Rattle.boki_txn.specs.Names.{StoredNames, changed_by}
use Rattle.boki_txn.specs.TxnStates.{names_at, AreTxnFolds}
use Rattle.boki_txn.specs.Walks.{changed_by_all, IsStart}
use Rattle.boki_txn.proofs.Folding.{from_start, from_kept}

-- Names changed by the first records of some.
pub record HaveChanged (book : BookState) (seqs : List ℕ) (done : ℕ) (old new : StoredNames) : Type 0 where
  pub names : changed_by_all book (drop done seqs) new ≡ changed_by_all book seqs old

pub none_changed : (book : BookState) (seqs : List ℕ) (names : StoredNames) → HaveChanged book seqs 0 names names
none_changed book seqs names = record { names = refl }

pub one_changed : (book : BookState) (seqs : List ℕ) (done : ℕ) (old mid new : StoredNames) → HaveChanged book seqs done old mid → done < length seqs
    → new ≡ changed_by (slice_index seqs done) (body_at book (slice_index seqs done)) mid → HaveChanged book seqs (done + 1) old new
one_changed book seqs done old mid new is lt made = record {
  names =
      ap (changed_by_all book (drop (done + 1) seqs)) made
      ∙ sym (ap (λ l. changed_by_all book l mid) (drop_more seqs done 0 lt))
      ∙ is.names;
}

pub all_changed : (book : BookState) (seqs : List ℕ) (done : ℕ) (old new : StoredNames) → HaveChanged book seqs done old new → length seqs ≤ done → new ≡ changed_by_all book seqs old
all_changed book seqs done old new is le = sym (ap (λ l. changed_by_all book l new) (drop_all done seqs le)) ∙ is.names

-- The names at a seqnum.
module _ {E : Type 0} (result : Result StoredNames E) (kept : BookState) (engine p : ℕ) (sound : Sound kept) where
  pub names_are : (states : List (KeptState StoredNames)) (seqs above : List ℕ) (start : Start) → seqs ≡ reverse (tagged_seqnums commit_tag (upto p (view kept engine)))
      → above ≡ drop start.count seqs → AreTxnFolds states (live_bodies kept) → IsStart states seqs start → IfOk result (λ new. new ≡ changed_by_all kept above start.names)
      → IfOk result (λ names. names ≡ names_at p (view kept engine))
  names_are states seqs above start are from folds is told = by result told
    where
      at : (n : ℕ) → start.count ≡ n → changed_by_all kept (drop start.count seqs) start.names ≡ names_at p (view kept engine)
      at zero none =
          ap (λ m. changed_by_all kept (drop m seqs) start.names) none
          ∙ ap (changed_by_all kept seqs) (is.none none)
          ∙ ap (λ l. changed_by_all kept l []) are
          ∙ from_start kept engine p sound
      at (suc n) some =
          let few : 0 < start.count = omega arith in
          ap (λ l. changed_by_all kept (drop start.count l) start.names) are
          ∙ from_kept kept engine p sound states start.count start.names folds few
          (subst (λ (l : List ℕ). start.count ≤ length l) are is.all) (ap (λ (l : List ℕ). state_at (slice_index l (start.count - 1)) states) (sym are) ∙ is.some few)

      by : (r : Result StoredNames E) → IfOk r (λ new. new ≡ changed_by_all kept above start.names) → IfOk r (λ names. names ≡ names_at p (view kept engine))
      by (Ok names) told = told ∙ ap (λ l. changed_by_all kept l start.names) from ∙ at start.count refl
      by (Err e) told = tt
