-- The next record that says something to switches and trims.
use Rattle.std.specs.Prelude.{◌≡◌, ℕ, suc, ◌<◌, ◌≤◌, nat_le, cond, false, List, Option, Some, None}
use Rattle.std.specs.List.{AllByRecursion}
use Rattle.boki_types.specs.declared.body.Body.{Body}
use Rattle.boki_model.specs.Live.{Live}
use Rattle.log_folds.specs.Bounds.{record_at}
use Rattle.hm_switch.specs.Marks.{is_marked}

-- the earlier of two seqnums, where they are there
abbrev pub earlier : Option ℕ → Option ℕ → Option ℕ
earlier (Some a) (Some b) = cond (nat_le a b) (Some a) (Some b)
earlier (Some a) None = Some a
earlier None other = other

-- none of these records behind a seqnum and below an end says anything
abbrev pub AreUnmarked : ℕ → ℕ → List (Live Body) → Type 0
AreUnmarked behind end records = AllByRecursion (λ (x : Live Body). suc behind ≤ x.seq → x.seq < end → is_marked x.tags ≡ false) records

-- a live record stands at this seqnum, the first marked one behind another
pub record IsNext (behind seq : ℕ) (records : List (Live Body)) : Type 0 where
  pub later : behind < seq
  pub record_there : Live Body
  pub there : record_at seq records ≡ Some record_there
  pub before : AreUnmarked behind seq records

-- the first marked record behind a seqnum, or none where there is none up to the position
abbrev pub IsNextMarked : ℕ → ℕ → Option ℕ → List (Live Body) → Type 0
IsNextMarked position behind None records = AreUnmarked behind (suc position) records
IsNextMarked position behind (Some seq) records = IsNext behind seq records
