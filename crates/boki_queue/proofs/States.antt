-- The state of a queue at a seqnum, by the windows of a walk.
use Rattle.std.proofs.Common.{◌≡◌, ℕ, ◌-◌, ◌≤◌, List, [], length, drop, reverse, slice_index, Result, Ok, Err, IfOk, sym, ap, subst, ◌∙◌}
use Rattle.lru.specs.LruCache.{LruCache}
use Rattle.boki_model.specs.Live.{upto}
use Rattle.boki_model.specs.Reads.{tagged_seqnums}
use Rattle.boki_model.specs.Bodies.{key_tag}
use Rattle.lb_base.specs.declared.value.Value.{Value}
use Rattle.fold_cache.specs.Kept.{state_at}
use Rattle.book_api.specs.Books.{BookState}
use Rattle.step_log.specs.Sound.{live_bodies, view, Sound}
use Rattle.boki_queue.specs.declared.shared.Row.{Row}
use Rattle.boki_queue.specs.declared.shared.Window.{Window}
use Rattle.boki_queue.specs.declared.walking.Found.{Found}
use Rattle.boki_queue.specs.QueueStates.{values_at, AreQueueFolds}
use Rattle.boki_queue.specs.Shared.{row_at, window_values, state_of, IsState, IsFound, kept_states}
use Rattle.boki_queue.specs.Walks.{changed_by_all}
use Rattle.boki_queue.proofs.Folding.{from_start, from_kept}

module _ {E : Type 0} (result : Result Window E) (kept : BookState) (engine : ℕ) (q : List ℕ) (p : ℕ) (sound : Sound kept) where
  abbrev seqs_now : List ℕ
  seqs_now = reverse (tagged_seqnums (key_tag 6 q) (upto p (view kept engine)))

  state_is : (new : List Row) (named : List ℕ) (values : List Value) → named ≡ q → values ≡ values_at q p (view kept engine) → IfOk result (IsState new named values)
      → IfOk result (IsState new q (values_at q p (view kept engine)))
  state_is new named values is are = at result
    where
      at : (r : Result Window E) → IfOk r (IsState new named values) → IfOk r (IsState new q (values_at q p (view kept engine)))
      at (Err e) told = tt
      at (Ok w) told = record { within = told.within; queue = told.queue ∙ is; values = told.values ∙ are }

  pub state_from_kept : (rows new : List Row) (cache : LruCache ℕ Window) (seqs above : List ℕ) (found : Found) → seqs ≡ seqs_now → above ≡ drop found.count seqs
      → AreQueueFolds (kept_states rows cache) (live_bodies kept) → IsFound rows (kept_states rows cache) q seqs found
      → IfOk result (IsState new (row_at rows found.window.row).queue (changed_by_all kept q above (window_values rows found.window)))
      → IfOk result (IsState new q (values_at q p (view kept engine)))
  state_from_kept rows new cache seqs above found are from folds is told =
      state_is new (row_at rows found.window.row).queue (changed_by_all kept q above (window_values rows found.window)) is.state.queue
      (ap (λ l. changed_by_all kept q l (window_values rows found.window)) (from ∙ ap (drop found.count) are)
      ∙ from_kept kept engine q p sound (kept_states rows cache) found.count (state_of rows found.window) folds is.some
      (subst (λ l. found.count ≤ length l) are is.all) (ap (λ l. state_at (slice_index l (found.count - 1)) (kept_states rows cache)) (sym are) ∙ is.state.kept) is.state.queue)
      told

  pub state_from_start : (rows new : List Row) (seqs : List ℕ) (start : Window) → seqs ≡ seqs_now → IsState rows q [] start
      → IfOk result (IsState new (row_at rows start.row).queue (changed_by_all kept q seqs (window_values rows start)))
      → IfOk result (IsState new q (values_at q p (view kept engine)))
  state_from_start rows new seqs start are is told =
      state_is new (row_at rows start.row).queue (changed_by_all kept q seqs (window_values rows start)) is.queue
      (ap (changed_by_all kept q seqs) is.values ∙ ap (λ l. changed_by_all kept q l []) are ∙ from_start kept engine q p sound)
      told
