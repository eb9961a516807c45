-- What an engine sees is enough for its reads.
use Rattle.std.proofs.Common.{◌≡◌, ℕ, suc, ◌<◌, ◌≤◌, Bool, true, false, cond, leb, ltb, List, [], ◌∷◌, length, Some, refl, sym, ap, ◌∙◌, subst, arith}
use Rattle.std.proofs.lemmas.Bool.{leb-true, leb-false}
use Rattle.boki_types.specs.declared.body.Body.{Body}
use Rattle.boki_types.specs.declared.store.Fenced.TheVariants as fenced
use Rattle.boki_model.specs.Live.{Live, upto}
use Rattle.boki_model.specs.Reads.{nth}
use Rattle.boki_model.specs.Writes.{Store, last_value_below, fenced_answer, read_below}
use Rattle.boki_machine.specs.Machine.{log, live_records, position}
use Rattle.exactly_once.specs.Induction.Invariant.{SeesCursor}
use Rattle.exactly_once.specs.Induction.OpeningHolds.{world_of}
use Rattle.exactly_once.proofs.Log.LiveRecords.{Under, live_under}
use Rattle.exactly_once.proofs.Invocations.FreeAnswers.{last_older}
use Rattle.exactly_once.proofs.Invocations.RecordAtPlace.{found as found_there}
use Rattle.exactly_once.proofs.Attempts.ActingAttempt.{following}
use Rattle.machine_laws.specs.Views.{ViewsReadTheWhole, RunningSeeTheirCursor}

last_seen : (store : Store) (key : List ℕ) (n p : ℕ) (xs : List (Live Body)) → n ≤ suc p → last_value_below key n 0 store (upto p xs) ≡ last_value_below key n 0 store xs
last_seen store key n p [] le = refl
last_seen store key n p (x ∷ xs) le = at (leb x.seq p) refl (last_seen store key n p xs le)
  where
    at : (t : Bool) → leb x.seq p ≡ t → last_value_below key n 0 store (upto p xs) ≡ last_value_below key n 0 store xs → last_value_below key n 0 store (cond t (x ∷ xs) (upto p xs)) ≡ last_value_below key n 0 store (x ∷ xs)
    at true e ih = refl
    at false e ih = ih ∙ sym (last_older store x xs key n (let lt = leb-false x.seq p e in omega (arith, lt, le)))

read_seen : (bound : ℕ) (store : Store) (key : List ℕ) (n p : ℕ) (xs : List (Live Body)) → n ≤ suc p → read_below bound key n 0 store (upto p xs) ≡ read_below bound key n 0 store xs
read_seen bound store key n p xs le = ap (λ v. cond (ltb bound store.floor) fenced.Gone (fenced_answer v)) (last_seen store key n p xs le)

under_seen : (n p : ℕ) (xs : List (Live Body)) → Under n xs → Under p (upto p xs)
under_seen n p [] under = tt
under_seen n p (x ∷ xs) under = at (leb x.seq p) refl (under_seen under.0 p xs under.3)
  where
    at : (t : Bool) → leb x.seq p ≡ t → Under p (upto p xs) → Under p (cond t (x ∷ xs) (upto p xs))
    at true e ih = let le = leb-true x.seq p e in (under.0, under.1, omega (arith, le, under.1), under.3)
    at false e ih = ih

within : (tag place n p : ℕ) (x : Live Body) (xs : List (Live Body)) → Under n xs → nth tag place (upto p xs) ≡ Some x → (0 < x.seq) × (x.seq ≤ p)
within tag place n p x xs under e =
    let is = found_there tag p (upto p xs) place x (under_seen n p xs under) e in
    let own = is.seq_is in (omega (arith, own), is.within)

pub views_read_the_whole : ViewsReadTheWhole
views_read_the_whole m engine = record {
  free = λ store key cursor le. read_seen cursor store key (suc cursor) (position m engine) (live_records m) (omega (arith, le));
  fenced = λ store key seq le. read_seen seq store key seq (position m engine) (live_records m) le;
  found = λ tag place x e. within tag place (length (log m)) (position m engine) x (live_records m) (live_under (log m)) e;
}

pub running_see_their_cursor : RunningSeeTheirCursor
running_see_their_cursor setup fs m t good among running =
    let seen = (following setup fs (world_of m) good.holds t among).seen in
    subst (SeesCursor t.cursor (position m t.engine)) running seen
