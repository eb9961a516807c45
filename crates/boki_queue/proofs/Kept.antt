-- The states that a cache of windows keeps.
use Rattle.std.proofs.Common.{◌≡◌, ◌⊎◌, inl, inr, ℕ, false, nat_eq, List, [], ◌∷◌, map, Some, None, option_map, bytes_eq, refl, sym, ap, ◌∙◌}
use Rattle.std.specs.List.{AllByRecursion}
use Rattle.std.specs.Map.{lookup}
use Rattle.lru.specs.LruCache.{LruCache}
use Rattle.exactly_once.proofs.Log.MapChanges.{keys_cases}
use Rattle.fold_cache.specs.Kept.{kept_state, state_at}
use Rattle.fold_cache.proofs.Kept.{looked_up, of_lookup}
use Rattle.boki_queue.specs.declared.shared.Row.{Row}
use Rattle.boki_queue.specs.declared.shared.Window.{Window}
use Rattle.boki_queue.specs.QueueStates.{has_state}
use Rattle.boki_queue.specs.Shared.{row_at, state_of, IsWithin, WindowsStay, kept_states, IsSound}

module _ (rows : List Row) (cache : LruCache ℕ Window) (seq : ℕ) where
  pub kept_none : (name : List ℕ) → lookup (nat_eq seq) cache.entries ≡ None → has_state name (state_at seq (kept_states rows cache)) ≡ false
  kept_none name none =
      let at : state_at seq (kept_states rows cache) ≡ None = sym (looked_up (state_of rows) seq cache.entries) ∙ ap (option_map (state_of rows)) none in
      ap (has_state name) at

  pub kept_some : (w : Window) → lookup (nat_eq seq) cache.entries ≡ Some w → state_at seq (kept_states rows cache) ≡ Some (state_of rows w)
  kept_some w some = sym (looked_up (state_of rows) seq cache.entries) ∙ ap (option_map (state_of rows)) some

  pub kept_other : (name : List ℕ) (w : Window) → lookup (nat_eq seq) cache.entries ≡ Some w → ((row_at rows w.row).queue ≡ name → ⊥)
      → has_state name (state_at seq (kept_states rows cache)) ≡ false
  kept_other name w some apart = ap (has_state name) (kept_some w some) ∙ at (keys_cases name (row_at rows w.row).queue)
    where
      at : (name ≡ (row_at rows w.row).queue) ⊎ (bytes_eq name (row_at rows w.row).queue ≡ false) → bytes_eq name (row_at rows w.row).queue ≡ false
      at (inl same) = absurd (apart (sym same))
      at (inr e) = e

  pub within_there : (w : Window) → IsSound rows cache → lookup (nat_eq seq) cache.entries ≡ Some w → IsWithin rows w
  within_there w whole some = of_lookup (IsWithin rows) seq w cache.entries whole.within some

-- Where each window stays, so does what is kept.
module _ (old new : List Row) (stay : WindowsStay old new) where
  all_stay : (es : List (ℕ × Window)) → AllByRecursion (λ e. IsWithin old e.1) es → AllByRecursion (λ e. IsWithin new e.1) es
  all_stay [] all = tt
  all_stay (e ∷ es) all = (stay.within e.1 all.0, all_stay es all.1)

  states_stay : (es : List (ℕ × Window)) → AllByRecursion (λ e. IsWithin old e.1) es
      → map (λ (e : ℕ × Window). kept_state e.0 (state_of new e.1)) es ≡ map (λ (e : ℕ × Window). kept_state e.0 (state_of old e.1)) es
  states_stay [] all = refl
  states_stay (e ∷ es) all =
      ap (λ s. kept_state e.0 s ∷ map (λ (e : ℕ × Window). kept_state e.0 (state_of new e.1)) es) (stay.state e.1 all.0)
      ∙ ap (λ l. kept_state e.0 (state_of old e.1) ∷ l) (states_stay es all.1)

  pub sound_stays : (cache : LruCache ℕ Window) → IsSound old cache → IsSound new cache
  sound_stays cache whole = record { size = whole.size; within = all_stay cache.entries whole.within }

  pub kept_stay : (cache : LruCache ℕ Window) → IsSound old cache → kept_states new cache ≡ kept_states old cache
  kept_stay cache whole = states_stay cache.entries whole.within
