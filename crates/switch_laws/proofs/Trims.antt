-- What was trimmed counts.
use Rattle.std.proofs.Common.{◌≡◌, ℕ, suc, ◌<◌, ◌≤◌, Bool, true, false, cond, ◌&&◌, List, [], ◌∷◌, ◌++◌, length, Option, Some, None, refl, sym, ap, ◌∙◌, subst, arith}
use Rattle.std.specs.Prelude.{is_some, max}
use Rattle.std.proofs.lemmas.Bool.{le-leb}
use Rattle.boki_types.specs.declared.body.Body.{Body}
use Rattle.boki_types.specs.declared.body.Body.TheVariants as b
use Rattle.boki_model.specs.Live.{LogRecord, Live, meets_condition, live, upto}
use Rattle.boki_model.specs.LogLaws.{FallBelow}
use Rattle.std.specs.Option.{option_or}
use Rattle.boki_model.specs.Modes.{init_path, result_of, open_path, all_ended}
use Rattle.std.specs.Prelude.{unwrap_or}
use Rattle.boki_model.specs.Floor.{counted_trim, floor, open_init, first_open, trim_limit}
use Rattle.boki_model.proofs.Logs.{live_falls}
use Rattle.switch_laws.specs.Trims.{IsTrim, TrimmedCounts}
use Rattle.switch_laws.proofs.Ended.{NoneOpen, ended_all, high_none, ended_none, none_upto, upto_falls, longer, upto_since, sees_on}

-- The least Init of an open invocation.

-- a record with an open invocation is its Init; without, it is open at no bound
closed_none : (records : List (Live Body)) (seq : ℕ) (o : Option (List ℕ)) → open_init records seq o ≡ None → (bound : ℕ) → open_path bound records seq o ≡ None
closed_none records seq None none bound = refl
closed_none records seq (Some p) none bound = at (is_some (result_of p records)) refl none
  where
    at : (t : Bool) → is_some (result_of p records) ≡ t → cond t None (Some seq) ≡ None → open_path bound records seq (Some p) ≡ None
    at true e none = ended_none bound records seq p e
    at false e none = cc

open_seq : (records : List (Live Body)) (seq w : ℕ) (o : Option (List ℕ)) → open_init records seq o ≡ Some w → w ≡ seq
open_seq records seq w None e = cc
open_seq records seq w (Some p) e = at (is_some (result_of p records)) e
  where
    at : (t : Bool) → cond t None (Some seq) ≡ Some w → w ≡ seq
    at true e = cc
    at false e = cc

or_none : (o q : Option ℕ) → option_or o q ≡ None → (o ≡ None) × (q ≡ None)
or_none None q e = (refl, e)
or_none (Some w) q e = cc

none_first : (records xs : List (Live Body)) → first_open records xs ≡ None → (bound : ℕ) → NoneOpen bound records xs
none_first records [] none bound = tt
none_first records (x ∷ xs) none bound =
    let parts = or_none (first_open records xs) (open_init records x.seq (init_path x.holds)) none in
    (closed_none records x.seq (init_path x.holds) parts.1 bound, none_first records xs parts.0 bound)

-- below the least one none is open
record IsFirst (n : ℕ) (records xs : List (Live Body)) (w : ℕ) : Type 0 where
  pub low : w < n
  pub none : NoneOpen w records xs

some_first : (n : ℕ) (records xs : List (Live Body)) (w : ℕ) → FallBelow n xs → first_open records xs ≡ Some w → IsFirst n records xs w
some_first n records [] w fall e = cc
some_first n records (x ∷ xs) w fall e = at (first_open records xs) refl (some_first x.seq records xs w fall.2) e
  where
    at : (o : Option ℕ) → first_open records xs ≡ o → (first_open records xs ≡ Some w → IsFirst x.seq records xs w) → option_or o (open_init records x.seq (init_path x.holds)) ≡ Some w → IsFirst n records (x ∷ xs) w
    at (Some v) is ih e =
        let older = ih (is ∙ e) in
        let lt = older.low in
        record { low = omega (arith, lt, fall.1); none = (high_none w records x.seq (init_path x.holds) (omega (arith, lt)), older.none) }
    at None is ih e =
        let same = open_seq records x.seq w (init_path x.holds) e in
        record { low = omega (arith, same, fall.1); none = (high_none w records x.seq (init_path x.holds) (omega (arith, same)), none_first records xs is w) }

-- what an engine may trim
pub record MayTrim (position : ℕ) (view : List (Live Body)) (w : ℕ) : Type 0 where
  pub low : w ≤ suc position
  pub none : NoneOpen w view view

pub may_trim_is : (position : ℕ) (view : List (Live Body)) → FallBelow (suc position) view → MayTrim position view (trim_limit position view)
may_trim_is position view fall = at (first_open view view) refl
  where
    at : (o : Option ℕ) → first_open view view ≡ o → MayTrim position view (unwrap_or o (suc position))
    at None e = record { low = omega arith; none = none_first view view e (suc position) }
    at (Some w) e = let first = some_first (suc position) view view w fall e in let lt = first.low in record { low = omega (arith, lt); none = first.none }

-- The floor.

counted_is : (w seq : ℕ) (past : List (Live Body)) → w ≤ seq → all_ended w past ≡ true → counted_trim (b.Trim w) seq past ≡ w
counted_is w seq past le ended = λ i. cond (le-leb w seq le i && ended i) w 0

floor_later : (w : ℕ) (r : LogRecord Body) (log : List (LogRecord Body)) → w ≤ floor (live log) → w ≤ floor (live (r ∷ log))
floor_later w r log le = at (meets_condition r.condition (live log))
  where
    at : (t : Bool) → w ≤ floor (cond t (record { seq = suc (length log); tags = r.tags; holds = r.holds } ∷ live log) (live log))
    at true = above (counted_trim r.holds (suc (length log)) (live log)) (floor (live log)) le
      where
        above : (a c : ℕ) → w ≤ c → w ≤ max a c
        above a c le = omega (arith, le)
    at false = le

floor_since : (w : ℕ) (newer log : List (LogRecord Body)) → w ≤ floor (live log) → w ≤ floor (live (newer ++ log))
floor_since w [] log le = le
floor_since w (r ∷ newer) log le = floor_later w r (newer ++ log) (floor_since w newer log le)

lifted : (w : ℕ) (r : LogRecord Body) (log : List (LogRecord Body)) → IsTrim w r → counted_trim (b.Trim w) (suc (length log)) (live log) ≡ w → w ≤ floor (live (r ∷ log))
lifted w r log trim counts =
    let met : meets_condition r.condition (live log) ≡ true = ap (λ c. meets_condition c (live log)) trim.free in
    let own : counted_trim r.holds (suc (length log)) (live log) ≡ w = ap (λ body. counted_trim body (suc (length log)) (live log)) trim.holds_is ∙ counts in
    let whole : floor (live (r ∷ log)) ≡ max (counted_trim r.holds (suc (length log)) (live log)) (floor (live log)) =
    ap (λ t. floor (cond t (record { seq = suc (length log); tags = r.tags; holds = r.holds } ∷ live log) (live log))) met in
    omega (arith, own, whole)

pub trimmed_counts : TrimmedCounts
trimmed_counts log since position le = record {
  reached = reached;
  ended = ended;
  counts = counts;
  lifts = λ r newer trim. lifts r newer trim;
  seen = λ r newer q trim covers.
      (let sees = sees_on newer (r ∷ (since ++ log)) q covers in
      subst (λ xs. w ≤ floor xs) (sym sees.is) (lifts r sees.since trim));
}
  where
    view : List (Live Body)
    view = upto position (live log)

    w : ℕ
    w = trim_limit position view

    may : MayTrim position view w
    may = may_trim_is position view (upto_falls (suc (length log)) position (live log) (live_falls log))

    reached : w ≤ suc (length (since ++ log))
    reached = let low = may.low in let more = longer since log in omega (arith, low, le, more)

    ended : all_ended w (live (since ++ log)) ≡ true
    ended =
        ended_all w (live (since ++ log))
        (none_upto w position (live (since ++ log)) may.low
        (subst (λ xs. NoneOpen w xs xs) (sym (upto_since since log position le)) may.none))

    counts : counted_trim (b.Trim w) (suc (length (since ++ log))) (live (since ++ log)) ≡ w
    counts = counted_is w (suc (length (since ++ log))) (live (since ++ log)) reached ended

    lifts : (r : LogRecord Body) (newer : List (LogRecord Body)) → IsTrim w r → w ≤ floor (live (newer ++ r ∷ (since ++ log)))
    lifts r newer trim = floor_since w newer (r ∷ (since ++ log)) (lifted w r (since ++ log) trim counts)
