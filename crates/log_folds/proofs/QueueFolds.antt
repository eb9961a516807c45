-- Queues and commits, by their tags.
use Rattle.std.proofs.Common.{◌≡◌, ◌⊎◌, inl, inr, ℕ, Bool, true, false, cond, List, [], ◌∷◌, ◌++◌, drop, Some, unwrap_or, refl, sym, ap, ◌∙◌}
use Rattle.std.specs.Prelude.{bytes_eq}
use Rattle.lb_base.specs.declared.value.Value.{Value}
use Rattle.boki_types.specs.declared.body.Body.{Body}
use Rattle.boki_types.specs.declared.body.Body.TheVariants as b
use Rattle.boki_model.specs.Live.{Live, has_tag}
use Rattle.boki_model.specs.Maps.{get, put}
use Rattle.boki_model.specs.Bodies.{key_tag}
use Rattle.boki_model.specs.Folds.{queue_in, apply_to_queues, queues, front_of, add_commit, commits}
use Rattle.exactly_once.proofs.Log.MapChanges.{keys_cases, get-put}
use Rattle.log_folds.specs.ByTag.{with_tag}
use Rattle.log_folds.specs.Own.{commit_tag, HaveOwnTags}
use Rattle.log_folds.specs.Folds.{QueueByTag}
use Rattle.log_folds.proofs.Own.{says}

-- Queues.

module _ (q : List ℕ) where
  abbrev Queues : Type 0
  Queues = List (List ℕ × List Value)

  changed :
      (r : List ℕ) (edit : List Value → List Value) (ms ns : Queues) → get q ms ≡ get q ns
      → get q (put r (edit (queue_in r ms)) ms) ≡ get q (put r (edit (queue_in r ns)) ns)
  changed r edit ms ns same = get-put q r (edit (queue_in r ms)) ms ∙ at (keys_cases q r) ∙ sym (get-put q r (edit (queue_in r ns)) ns)
    where
      at :
          (q ≡ r) ⊎ (bytes_eq q r ≡ false)
          → cond (bytes_eq q r) (Some (edit (queue_in r ms))) (get q ms)
          ≡ cond (bytes_eq q r) (Some (edit (queue_in r ns))) (get q ns)
      at (inl is) =
          let here : get r ms ≡ get r ns = ap (λ k. get k ms) (sym is) ∙ same ∙ ap (λ k. get k ns) is in
          ap (λ o. cond (bytes_eq q r) (Some (edit (unwrap_or o []))) (get q ms)) here
          ∙ ap (cond (bytes_eq q r) (Some (edit (queue_in r ns)))) same
      at (inr e) = ap (λ b. cond b (Some (edit (queue_in r ms))) (get q ms)) e ∙ same ∙ sym (ap (λ b. cond b (Some (edit (queue_in r ns))) (get q ns)) e)

  queued_alike :
      (body : Body) (ms ns : Queues) → get q ms ≡ get q ns → get q (apply_to_queues body ms) ≡ get q (apply_to_queues body ns)
  queued_alike (b.Push p i r v) ms ns same = changed r (λ l. l ++ v ∷ []) ms ns same
  queued_alike (b.Pop p i r) ms ns same = changed r (drop 1) ms ns same
  queued_alike _ ms ns same = same

  known_by_tag :
      (records : List (Live Body)) → HaveOwnTags records
      → get q (queues records) ≡ get q (queues (with_tag (key_tag 6 q) records))
  known_by_tag [] own = refl
  known_by_tag (x ∷ xs) own = at (has_tag (key_tag 6 q) x.tags) refl (known_by_tag xs own.1)
    where
      at :
          (b : Bool) → has_tag (key_tag 6 q) x.tags ≡ b
          → get q (queues xs) ≡ get q (queues (with_tag (key_tag 6 q) xs))
          → get q (apply_to_queues x.holds (queues xs)) ≡ get q (queues (cond b (x ∷ with_tag (key_tag 6 q) xs) (with_tag (key_tag 6 q) xs)))
      at true e ih = queued_alike x.holds (queues xs) (queues (with_tag (key_tag 6 q) xs)) ih
      at false e ih = (says x own.0).queue q e (queues xs) ∙ ih

  pub queue_by_tag : (records : List (Live Body)) → HaveOwnTags records → QueueByTag q records
  queue_by_tag records own = record {
    known = known_by_tag records own;
    values = ap (λ o. unwrap_or o []) (known_by_tag records own);
    popped = ap (λ o. front_of (unwrap_or o [])) (known_by_tag records own);
  }

-- Commits.

pub commits_by_tag :
    (records : List (Live Body)) → HaveOwnTags records → commits records ≡ commits (with_tag commit_tag records)
commits_by_tag [] own = refl
commits_by_tag (x ∷ xs) own = at (has_tag commit_tag x.tags) refl (commits_by_tag xs own.1)
  where
    at :
        (b : Bool) → has_tag commit_tag x.tags ≡ b → commits xs ≡ commits (with_tag commit_tag xs)
        → add_commit x.seq x.holds (commits xs)
        ≡ commits (cond b (x ∷ with_tag commit_tag xs) (with_tag commit_tag xs))
    at true e ih = ap (add_commit x.seq x.holds) ih
    at false e ih = (says x own.0).commit e x.seq (commits xs) ∙ ih
