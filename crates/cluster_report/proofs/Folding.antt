-- The folds of the records up to a seqnum, and one seqnum more.
use Rattle.std.proofs.Common.{◌≡◌, ℕ, suc, List, ◌∷◌, length, Option, Some, None, refl, sym, ap, ◌∙◌}
use Rattle.boki_types.specs.declared.body.Body.{Body}
use Rattle.boki_model.specs.Live.{Live, upto}
use Rattle.boki_model.specs.Folds.{queues, apply_to_queues, commits}
use Rattle.boki_machine.specs.Reports.{results, add_result}
use Rattle.log_folds.proofs.UpTo.{upto_falls}
use Rattle.book_api.specs.Books.{BookState, ordered}
use Rattle.step_log.specs.Sound.{live_bodies}
use Rattle.boki_txn.specs.Names.{StoredNames}
use Rattle.boki_txn.proofs.Commits.{commits_fall, changed_one}
use Rattle.cluster_report.specs.Folded.{Maps, with_write, writes_in, folded, added, added_some}
use Rattle.cluster_report.proofs.Walks.{holds_at, falls, none_more, one_more}

module _ (keys : List (List ℕ)) (book : BookState) (n : ℕ) where
  abbrev seen : List (Live Body)
  seen = upto n (live_bodies book)

  record_more : (x : Live Body) → folded keys (x ∷ seen) ≡ added x.seq x.holds (folded keys seen)
  record_more x =
      ap (λ (names : StoredNames).
      let m : Maps = record {
        results = add_result x.holds (results seen);
        writes = with_write x.seq x.holds (writes_in keys seen);
        queues = apply_to_queues x.holds (queues seen);
        names = names;
      } in m)
      (changed_one x.seq (suc n) x.holds (commits seen) (commits_fall (suc n) seen (upto_falls n (suc (length (ordered book))) (live_bodies book) (falls book))))

  pub seqnum_more : added_some (suc n) (holds_at book (suc n)) (folded keys seen) ≡ folded keys (upto (suc n) (live_bodies book))
  seqnum_more = at (holds_at book (suc n)) refl
    where
      at : (o : Option Body) → holds_at book (suc n) ≡ o → added_some (suc n) o (folded keys seen) ≡ folded keys (upto (suc n) (live_bodies book))
      at None is = sym (ap (folded keys) (none_more book n is))
      at (Some body) is =
          let one = one_more book n body is in
          sym (
          ap (folded keys) one.seen
          ∙ record_more one.newest
          ∙ ap (λ s. added s one.newest.holds (folded keys seen)) one.seqnum
          ∙ ap (λ b. added (suc n) b (folded keys seen)) one.holds
          )
