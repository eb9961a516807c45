-- Invocations that have ended, and what an engine sees of a list that goes on.
use Rattle.std.proofs.Common.{◌≡◌, ⊎_elim, ℕ, suc, ◌<◌, ◌≤◌, Bool, true, false, cond, leb, ltb, ◌&&◌, not, List, [], ◌∷◌, ◌++◌, length, Option, Some, None, refl, ap, ◌∙◌, arith}
use Rattle.std.specs.Prelude.{is_some}
use Rattle.std.proofs.lemmas.Bool.{leb-true, leb-false, ltb-true, cases_lt}
use Rattle.lb_base.specs.declared.value.Outcome.{Outcome}
use Rattle.boki_types.specs.declared.body.Body.{Body}
use Rattle.boki_model.specs.Live.{LogRecord, Live, live, upto}
use Rattle.boki_model.specs.LogLaws.{FallBelow}
use Rattle.std.specs.Option.{option_or}
use Rattle.boki_model.specs.Maps.{before}
use Rattle.boki_model.specs.Modes.{init_path, finish_of, result_of, open_path, lesser_path, least_open_in, all_ended}
use Rattle.boki_model.proofs.Logs.{live_falls, upto_all, earlier_stays}

-- no invocation among `xs` with its Init below the bound lacks its Finish among the records
abbrev pub NoneOpen : ℕ → List (Live Body) → List (Live Body) → Type 0
NoneOpen bound records [] = Unit {0}
NoneOpen bound records (x ∷ xs) = (open_path bound records x.seq (init_path x.holds) ≡ None) × NoneOpen bound records xs

-- that is what it means that all ended
pub none_all : (bound : ℕ) (records xs : List (Live Body)) → NoneOpen bound records xs → least_open_in bound records xs ≡ None
none_all bound records [] none = refl
none_all bound records (x ∷ xs) none = λ i. lesser_path (none.0 i) (none_all bound records xs none.1 i)

pub ended_all : (bound : ℕ) (xs : List (Live Body)) → NoneOpen bound xs xs → all_ended bound xs ≡ true
ended_all bound xs none = ap (λ o. not (is_some o)) (none_all bound xs xs none)

lesser_none : (o q : Option (List ℕ)) → lesser_path o q ≡ None → (o ≡ None) × (q ≡ None)
lesser_none None q e = (refl, e)
lesser_none (Some p) None e = cc
lesser_none (Some p) (Some q) e = at (before q p) e
  where
    at : (t : Bool) → cond t (Some q) (Some p) ≡ None → (Some p ≡ None) × (Some q ≡ None)
    at true e = cc
    at false e = cc

pub all_none : (bound : ℕ) (records xs : List (Live Body)) → least_open_in bound records xs ≡ None → NoneOpen bound records xs
all_none bound records [] e = tt
all_none bound records (x ∷ xs) e =
    let parts = lesser_none (open_path bound records x.seq (init_path x.holds)) (least_open_in bound records xs) e in
    (parts.0, all_none bound records xs parts.1)

-- An invocation is open where it isn't ended.

pub high_none : (bound : ℕ) (records : List (Live Body)) (seq : ℕ) (o : Option (List ℕ)) → bound ≤ seq → open_path bound records seq o ≡ None
high_none bound records seq None le = refl
high_none bound records seq (Some p) le = at (ltb seq bound) refl
  where
    at : (t : Bool) → ltb seq bound ≡ t → cond (t && not (is_some (result_of p records))) (Some p) None ≡ None
    at false e = refl
    at true e = absurd (let lt = ltb-true seq bound e in let h : ⊥ = omega (arith, lt, le) in h)

pub ended_none : (bound : ℕ) (records : List (Live Body)) (seq : ℕ) (p : List ℕ) → is_some (result_of p records) ≡ true → open_path bound records seq (Some p) ≡ None
ended_none bound records seq p ended = ap (λ t. cond (ltb seq bound && not t) (Some p) None) ended ∙ at (ltb seq bound)
  where
    at : (t : Bool) → cond (t && not true) (Some p) None ≡ None
    at true = refl
    at false = refl

-- one record more opens none
later_none : (bound : ℕ) (x : Live Body) (records : List (Live Body)) (seq : ℕ) (o : Option (List ℕ)) → open_path bound records seq o ≡ None → open_path bound (x ∷ records) seq o ≡ None
later_none bound x records seq None none = refl
later_none bound x records seq (Some p) none = at (ltb seq bound) (result_of p records) (finish_of p x.holds) none
  where
    at : (t : Bool) (was more : Option Outcome) → cond (t && not (is_some was)) (Some p) None ≡ None → cond (t && not (is_some (option_or was more))) (Some p) None ≡ None
    at false was more none = refl
    at true None more none = cc
    at true (Some r) more none = refl

pub none_later : (bound : ℕ) (x : Live Body) (records xs : List (Live Body)) → NoneOpen bound records xs → NoneOpen bound (x ∷ records) xs
none_later bound x records [] none = tt
none_later bound x records (y ∷ xs) none = (later_none bound x records y.seq (init_path y.holds) none.0, none_later bound x records xs none.1)

-- What an engine at a position sees: of invocations below a bound up to there, it sees whether they have ended.
pub none_upto : (bound position : ℕ) (xs : List (Live Body)) → bound ≤ suc position → NoneOpen bound (upto position xs) (upto position xs) → NoneOpen bound xs xs
none_upto bound position [] le none = tt
none_upto bound position (x ∷ xs) le none = at (leb x.seq position) refl (none_upto bound position xs le) none
  where
    at : (t : Bool) → leb x.seq position ≡ t → (NoneOpen bound (upto position xs) (upto position xs) → NoneOpen bound xs xs) → NoneOpen bound (cond t (x ∷ xs) (upto position xs)) (cond t (x ∷ xs) (upto position xs)) → NoneOpen bound (x ∷ xs) (x ∷ xs)
    at true e ih none = none
    at false e ih none =
        let lt = leb-false x.seq position e in
        (high_none bound (x ∷ xs) x.seq (init_path x.holds) (omega (arith, lt, le)), none_later bound x xs xs (ih none))

-- A list that goes on.

module _ {A : Type 0} where
  pub upto_falls : (n position : ℕ) (xs : List (Live A)) → FallBelow n xs → FallBelow (suc position) (upto position xs)
  upto_falls n position [] fall = tt
  upto_falls n position (x ∷ xs) fall = at (leb x.seq position) refl (upto_falls x.seq position xs fall.2)
    where
      at : (t : Bool) → leb x.seq position ≡ t → FallBelow (suc position) (upto position xs) → FallBelow (suc position) (cond t (x ∷ xs) (upto position xs))
      at true e ih = let le = leb-true x.seq position e in (fall.0, omega (arith, le), fall.2)
      at false e ih = ih

  pub longer : (since log : List (LogRecord A)) → length log ≤ length (since ++ log)
  longer [] log = omega arith
  longer (r ∷ since) log = let le = longer since log in omega (arith, le)

  pub upto_since : (since log : List (LogRecord A)) (position : ℕ) → position ≤ length log → upto position (live (since ++ log)) ≡ upto position (live log)
  upto_since [] log position le = refl
  upto_since (r ∷ since) log position le =
      earlier_stays r (since ++ log) position (let more = longer since log in omega (arith, le, more)) ∙ upto_since since log position le

  -- what an engine sees whose position covers a list is that list going on
  pub record SeesOn (log : List (LogRecord A)) (seen : List (Live A)) : Type 0 where
    pub since : List (LogRecord A)
    pub is : seen ≡ live (since ++ log)

  all_seen : (log : List (LogRecord A)) (position : ℕ) → length log ≤ position → upto position (live log) ≡ live log
  all_seen log position le = upto_all (suc (length log)) position (live log) (live_falls log) (omega (arith, le))

  pub sees_on : (newer log : List (LogRecord A)) (position : ℕ) → length log ≤ position → SeesOn log (upto position (live (newer ++ log)))
  sees_on [] log position le = record { since = []; is = all_seen log position le }
  sees_on (r ∷ newer) log position le = ⊎_elim (below (sees_on newer log position le)) covers (cases_lt position (suc (length (newer ++ log))))
    where
      covers : suc (length (newer ++ log)) ≤ position → SeesOn log (upto position (live (r ∷ (newer ++ log))))
      covers le = record { since = r ∷ newer; is = all_seen (r ∷ (newer ++ log)) position le }

      below : SeesOn log (upto position (live (newer ++ log))) → position < suc (length (newer ++ log)) → SeesOn log (upto position (live (r ∷ (newer ++ log))))
      below rest lt =
          record { since = rest.since; is = earlier_stays r (newer ++ log) position (omega (arith, lt)) ∙ rest.is }
