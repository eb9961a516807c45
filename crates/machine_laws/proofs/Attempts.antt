-- Attempts under their numbers, and the floor.
use Rattle.std.proofs.Common.{◌≡◌, refl, ℕ, ◌≤◌, Bool, true, false, cond, leb, ◌&&◌, max, List, [], ◌∷◌, length, arith}
use Rattle.std.proofs.lemmas.Bool.{leb-true}
use Rattle.boki_types.specs.declared.body.Body.{Body}
use Rattle.boki_types.specs.declared.body.Body.TheVariants as b
use Rattle.boki_model.specs.Live.{Live}
use Rattle.boki_model.specs.Modes.{all_ended}
use Rattle.boki_model.specs.Floor.{counted_trim, floor}
use Rattle.boki_machine.specs.Machine.{log, live_records}
use Rattle.exactly_once.proofs.Log.LiveRecords.{Under, live_under}
use Rattle.exactly_once.proofs.Machines.EventKeeps.{found_among}
use Rattle.machine_laws.specs.Attempts.{FoundAreAmong, FloorIsWithin}

pub found_are_among : FoundAreAmong
found_are_among m n a found = found_among n a m.attempts found

counted_within : (body : Body) (seq : ℕ) (xs : List (Live Body)) → counted_trim body seq xs ≤ seq
counted_within (b.Trim w) seq xs = at (leb w seq) (all_ended w xs) refl
  where
    at : (c d : Bool) → leb w seq ≡ c → cond (c && d) w 0 ≤ seq
    at true true e = leb-true w seq e
    at true false e = omega arith
    at false d e = omega arith
counted_within _ seq xs = omega arith

floor_within : (n : ℕ) (xs : List (Live Body)) → Under n xs → floor xs ≤ n
floor_within n [] under = omega arith
floor_within n (x ∷ xs) under =
    let one = counted_within x.holds x.seq xs in
    let rest = floor_within under.0 xs under.3 in
    let is = under.1 in
    let lt = under.2 in
    max_within (counted_trim x.holds x.seq xs) (floor xs) (omega (arith, one, is, lt)) (omega (arith, rest, lt))
  where
    max_within : (a b : ℕ) → a ≤ n → b ≤ n → max a b ≤ n
    max_within a b le lf = omega arith

pub floor_is_within : FloorIsWithin
floor_is_within setup fs m good =
    let low = good.holds.floor_is in
    let within = floor_within (length (log m)) (live_records m) (live_under (log m)) in omega (arith, low, within)
