-- Windows of rows.
use Rattle.std.proofs.Common.{◌≡◌, ℕ, ◌+◌, ◌-◌, ◌<◌, ◌≤◌, cond, nat_eq, List, length, drop, take, slice_index, Result, Ok, Err, OnOk, OnErr, refl, sym, ap, subst, ◌∙◌, arith}
use Rattle.std.proofs.lemmas.List.{drop-take, drop_more, drop_all, length-drop, length-take-le}
use Rattle.std.proofs.lemmas.Bool.{le-leb}
use Rattle.lru.specs.LruCache.{LruCache, IsValid}
use Rattle.aux_cache.specs.Entries.{with_entry}
use Rattle.book_api.specs.Books.{BookState}
use Rattle.fold_cache.specs.Bodies.{body_at}
use Rattle.fold_cache.specs.Kept.{with_state}
use Rattle.fold_cache.proofs.Kept.{set_is_kept, all_put}
use Rattle.boki_queue.specs.QueueStates.{with_queue}
use Rattle.boki_queue.specs.declared.shared.Row.{Row}
use Rattle.boki_queue.specs.declared.shared.Window.{Window}
use Rattle.boki_queue.specs.Shared.{row_at, window_values, state_of, IsWithin, IsState, WindowsStay, kept_states, IsSound}
use Rattle.boki_queue.specs.Walks.{changed_by, changed_by_all}

pub window_slice : {X : Type 0} (from to : ℕ) (xs : List X) → from ≤ to → take (to - from) (drop from xs) ≡ drop from (take to xs)
window_slice from to xs le =
    sym (drop-take from (to - from) xs) ∙ ap (λ n. drop from (take n xs)) (let e : from + (to - from) ≡ to = omega arith in e)

-- A state changed by the first records of some, one by one.
pub record HasChanged (book : BookState) (name : List ℕ) (seqs : List ℕ) (done : ℕ) (old new : List Row) (v w : Window) : Type 0 where
  pub within : IsWithin new w
  pub queue : (row_at new w.row).queue ≡ (row_at old v.row).queue
  pub values : changed_by_all book name (drop done seqs) (window_values new w) ≡ changed_by_all book name seqs (window_values old v)
  pub stay : WindowsStay old new

pub stay_same : (rows : List Row) → WindowsStay rows rows
stay_same rows = record { within = λ w is. is; state = λ w is. refl }

pub stay_on : (old mid new : List Row) → WindowsStay old mid → WindowsStay mid new → WindowsStay old new
stay_on old mid new one two = record {
  within = λ w is. two.within w (one.within w is);
  state = λ w is. two.state w (one.within w is) ∙ one.state w is;
}

pub none_changed : (book : BookState) (name seqs : List ℕ) (rows : List Row) (w : Window) → IsWithin rows w → HasChanged book name seqs 0 rows rows w w
none_changed book name seqs rows w is = record { within = is; queue = refl; values = refl; stay = stay_same rows }

pub one_changed : (book : BookState) (name seqs : List ℕ) (done : ℕ) (old mid new : List Row) (v w x : Window) → HasChanged book name seqs done old mid v w
    → done < length seqs → IsState new (row_at mid w.row).queue (changed_by name (body_at book (slice_index seqs done)) (window_values mid w)) x → WindowsStay mid new
    → HasChanged book name seqs (done + 1) old new v x
one_changed book name seqs done old mid new v w x is lt state stay = record {
  within = state.within;
  queue = state.queue ∙ is.queue;
  values =
      ap (changed_by_all book name (drop (done + 1) seqs)) state.values
      ∙ sym (ap (λ l. changed_by_all book name l (window_values mid w)) (drop_more seqs done 0 lt))
      ∙ is.values;
  stay = stay_on old mid new is.stay stay;
}

pub all_changed : (book : BookState) (name seqs : List ℕ) (done : ℕ) (old new : List Row) (v w : Window) → HasChanged book name seqs done old new v w → length seqs ≤ done
    → IsState new (row_at old v.row).queue (changed_by_all book name seqs (window_values old v)) w
all_changed book name seqs done old new v w is le = record {
  within = is.within;
  queue = is.queue;
  values = sym (ap (λ l. changed_by_all book name l (window_values new w)) (drop_all done seqs le)) ∙ is.values;
}

-- A state is kept.
window_long : (rows : List Row) (w : Window) → IsWithin rows w → length (window_values rows w) ≡ w.to - w.from
window_long rows w is = length-drop w.from (take w.to (row_at rows w.row).values) ∙ ap (λ n. n - w.from) (length-take-le w.to (row_at rows w.row).values is.end)

pub set_is_with : (rows : List Row) (old new : LruCache ℕ Window) (seq : ℕ) (w : Window) → IsSound rows old → IsWithin rows w → IsValid nat_eq old → w.to - w.from ≤ 4096
    → new ≡ with_entry seq w old → kept_states rows new ≡ with_queue seq (state_of rows w) (kept_states rows old)
set_is_with rows old new seq w whole within valid few made =
    set_is_kept (state_of rows) seq w old new valid whole.size made
    ∙ sym (ap (λ t. cond t (with_state seq (state_of rows w) (kept_states rows old)) (kept_states rows old)) (le-leb (length (window_values rows w)) 4096 (let long = window_long rows w within in omega arith)))

pub sound_set : {A E : Type 0} (result : Result A E) (rows : List Row) (old new : LruCache ℕ Window) (seq : ℕ) (w : Window) → IsSound rows old → IsWithin rows w
    → OnOk result (new ≡ with_entry seq w old) → OnErr result (new ≡ old) → IsSound rows new
sound_set (Ok a) rows old new seq w whole within made same =
    subst (IsSound rows) (sym made) (record { size = whole.size; within = all_put (IsWithin rows) seq w old whole.within within })
sound_set (Err e) rows old new seq w whole within made same = subst (IsSound rows) (sym same) whole
