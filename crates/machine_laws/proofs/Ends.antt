-- A Finish is the last live step record of its path.
use Rattle.std.proofs.Common.{◌≡◌, ℕ, suc, ◌-◌, Bool, true, false, cond, eqb, ◌&&◌, List, [], ◌∷◌, length, Option, Some, None, option_map, refl, sym, ap, ◌∙◌, arith}
use Rattle.std.specs.Prelude.{bytes_eq, slice_get}
use Rattle.std.specs.List.{AllByRecursion}
use Rattle.std.proofs.lemmas.Bool.{eq-eqb}
use Rattle.lb_base.specs.Path.{is_path}
use Rattle.lb_base.specs.declared.value.Outcome.{Outcome}
use Rattle.boki_types.specs.declared.body.Body.{Body}
use Rattle.boki_types.specs.declared.body.Body.TheVariants as b
use Rattle.boki_types.specs.declared.plan.Setup.{Setup}
use Rattle.boki_types.specs.declared.program.Function.{Function}
use Rattle.boki_model.specs.Live.{LogRecord, Live, has_tag, count, meets_condition, live}
use Rattle.std.specs.Option.{option_or}
use Rattle.boki_model.specs.Reads.{tagged_seqnums, nth}
use Rattle.boki_model.specs.Bodies.{step_tag, step_of}
use Rattle.boki_model.specs.Modes.{finish_of, result_of}
use Rattle.boki_model.specs.Writes.{Store}
use Rattle.boki_machine.specs.Decided.{InvocationState}
use Rattle.boki_machine.specs.Machine.{log, live_records, position}
use Rattle.exactly_once.specs.Induction.Invariant.{World, records, InvariantHolds}
use Rattle.exactly_once.specs.FurtherLaws.Words.{values_only}
use Rattle.exactly_once.specs.Induction.OpeningHolds.{world_of}
use Rattle.exactly_once.specs.Induction.SoundLogs.{AllMayFollow}
use Rattle.exactly_once.specs.FurtherLaws.StepRecords.{has_paths, IsWellFormed, is_step_of}
use Rattle.exactly_once.proofs.Log.HistoryTails.{Tail, here}
use Rattle.exactly_once.proofs.Log.ListElements.{each_tail}
use Rattle.exactly_once.proofs.Log.MapChanges.{same_key, same_itself}
use Rattle.exactly_once.proofs.Invocations.NextRecord.{stands, Does, does, apart, began, operates, ends, unbegun, result_is}
use Rattle.exactly_once.proofs.Invocations.SamePlace.{no_own_step}
use Rattle.exactly_once.proofs.Invocations.InitAndCursor.{upto_tail, fit_tail}
use Rattle.exactly_once.proofs.OldVersions.StepOrigins.{own_log}
use Rattle.exactly_once.proofs.Invocations.RecordAtPlace.{IsTagged, all_tagged}
use Rattle.exactly_once.proofs.AfterEvents.EndIsLast.{finish_is_last, end_is_last}
pub use Rattle.exactly_once.proofs.AfterEvents.EndIsLast.{unended_before}
use Rattle.machine_laws.specs.Ends.{last_tagged, LastIsTagged, finish_in, EndsLast, HoldingEndsLast}

-- The last record of a tag.

module _ {A : Type 0} (tag : ℕ) where
  last_at : (xs : List (Live A)) → nth tag (count tag xs - 1) xs ≡ last_tagged tag xs
  last_at [] = refl
  last_at (x ∷ xs) = at (has_tag tag x.tags) (last_at xs)
    where
      at :
          (t : Bool) → nth tag (count tag xs - 1) xs ≡ last_tagged tag xs
          → cond (t && eqb (cond t (suc (count tag xs)) (count tag xs) - 1) (count tag xs)) (Some x) (nth tag (cond t (suc (count tag xs)) (count tag xs) - 1) xs) ≡ cond t (Some x) (last_tagged tag xs)
      at true ih = ap (λ b. cond b (Some x) (nth tag (suc (count tag xs) - 1) xs)) (eq-eqb (suc (count tag xs) - 1) (count tag xs) (omega arith))
      at false ih = ih

  first_seq : (xs : List (Live A)) → slice_get (tagged_seqnums tag xs) 0 ≡ option_map (λ x. x.seq) (last_tagged tag xs)
  first_seq [] = refl
  first_seq (x ∷ xs) = at (has_tag tag x.tags) (first_seq xs)
    where
      at : (t : Bool) → slice_get (tagged_seqnums tag xs) 0 ≡ option_map (λ (x : Live A). x.seq) (last_tagged tag xs) → slice_get (cond t (x.seq ∷ tagged_seqnums tag xs) (tagged_seqnums tag xs)) 0 ≡ option_map (λ (x : Live A). x.seq) (cond t (Some x) (last_tagged tag xs))
      at true ih = refl
      at false ih = ih

pub last_is_tagged : {A : Type 0} → LastIsTagged A
last_is_tagged tag xs = record { at_place = last_at tag xs; seqnum = first_seq tag xs }

-- Of a path in range: an invocation that has ended has no further step record.

module _ (setup : Setup) (fs : List Function) (store : Store) (p : List ℕ) where
  pub result_last : (xs : List (Live Body)) → AllMayFollow setup fs store xs → AllByRecursion (IsTagged p) xs → result_of p xs ≡ finish_in p (last_tagged (step_tag p) xs)
  result_last [] fit tags = refl
  result_last (x ∷ xs) fit tags = at (result_last xs fit.2 tags.1) (stands setup fs store p (x ∷ xs)) (does setup fs store x xs p fit.0)
    where
      none_else : (o : Option Outcome) → option_or o None ≡ o
      none_else None = refl
      none_else (Some r) = refl

      -- a step record of the path, before which it had no result
      own : is_step_of p (step_of x.holds) ≡ true → (stands setup fs store p xs).result ≡ None → result_of p (x ∷ xs) ≡ finish_in p (last_tagged (step_tag p) (x ∷ xs))
      own step none =
          ap (λ o. option_or o (finish_of p x.holds)) (sym (result_is setup fs store xs p fit.2) ∙ none)
          ∙ sym (ap (λ t. finish_in p (cond t (Some x) (last_tagged (step_tag p) xs))) (tags.0 ∙ step))

      at : result_of p xs ≡ finish_in p (last_tagged (step_tag p) xs) → (next : InvocationState) → Does setup fs store x.seq x.holds xs p next → result_of p (x ∷ xs) ≡ finish_in p (last_tagged (step_tag p) (x ∷ xs))
      at ih next (apart other finish is) =
          ap (option_or (result_of p xs)) finish ∙ none_else (result_of p xs) ∙ ih
          ∙ sym (ap (λ t. finish_in p (cond t (Some x) (last_tagged (step_tag p) xs))) (tags.0 ∙ no_own_step p (step_of x.holds) other))
      at ih next (began body may is) = own (ap (λ body. is_step_of p (step_of body)) body ∙ same_itself p) (ap (λ (st : InvocationState). st.result) (unbegun setup fs store xs p fit.2 may.new))
      at ih next (operates i step finish reaches is) = own (ap (is_step_of p) step ∙ same_itself p) reaches.unended
      at ih next (ends i outcome body asks is) = own (ap (λ body. is_step_of p (step_of body)) body ∙ same_itself p) asks.reaches.unended

-- Of a path out of range: no record is of it.

abbrev HasPaths : Live Body → Type 0
HasPaths x = has_paths x.holds ≡ true

all_paths : (log : List (LogRecord Body)) → AllByRecursion IsWellFormed log → AllByRecursion HasPaths (live log)
all_paths [] own = tt
all_paths (r ∷ log) own = at (meets_condition r.condition (live log)) (all_paths log own.1)
  where
    at : (t : Bool) → AllByRecursion HasPaths (live log) → AllByRecursion HasPaths (cond t (record { seq = suc (length log); tags = r.tags; holds = r.holds } ∷ live log) (live log))
    at true rest = (own.0.paths, rest)
    at false rest = rest

module _ (p : List ℕ) (out : is_path p ≡ false) where
  no_finish : (body : Body) → has_paths body ≡ true → finish_of p body ≡ None
  no_finish (b.Finish q i outcome) paths = at (bytes_eq p q) refl
    where
      at : (t : Bool) → bytes_eq p q ≡ t → cond t (Some outcome) None ≡ None
      at false e = refl
      at true e = let no_way : true ≡ false = sym paths ∙ ap is_path (sym (same_key p q e)) ∙ out in cc
  no_finish _ paths = refl

  no_result : (xs : List (Live Body)) → AllByRecursion HasPaths xs → result_of p xs ≡ None
  no_result [] paths = refl
  no_result (x ∷ xs) paths = ap (option_or (result_of p xs)) (no_finish x.holds paths.0) ∙ ap (λ o. option_or o None) (no_result xs paths.1)

  none_in : (tag : ℕ) (xs : List (Live Body)) → AllByRecursion HasPaths xs → finish_in p (last_tagged tag xs) ≡ None
  none_in tag [] paths = refl
  none_in tag (x ∷ xs) paths = at (has_tag tag x.tags) (none_in tag xs paths.1)
    where
      at : (t : Bool) → finish_in p (last_tagged tag xs) ≡ None → finish_in p (cond t (Some x) (last_tagged tag xs)) ≡ None
      at true ih = no_finish x.holds paths.0
      at false ih = ih

-- The live records, or a part of them that an engine sees.

module _ (setup : Setup) (fs : List Function) (w : World) (holds : InvariantHolds setup fs w) (p : List ℕ) where
  abbrev now : List (Live Body)
  now = records w

  abbrev store : Store
  store = values_only w.store

  module _ (xs : List (Live Body)) (part : Tail xs now) where
    fit : AllMayFollow setup fs store xs
    fit = fit_tail setup fs store xs now part holds.sound.fit

    result : result_of p xs ≡ finish_in p (last_tagged (step_tag p) xs)
    result = at (is_path p) refl
      where
        at : (t : Bool) → is_path p ≡ t → result_of p xs ≡ finish_in p (last_tagged (step_tag p) xs)
        at true e = result_last setup fs store p xs fit (each_tail (IsTagged p) xs now part (all_tagged p e w.log (own_log setup fs w holds)))
        at false e =
            let paths = each_tail HasPaths xs now part (all_paths w.log (own_log setup fs w holds)) in
            no_result p e xs paths ∙ sym (none_in p e (step_tag p) xs paths)

    ends_last : EndsLast p xs
    ends_last = record { last = finish_is_last setup fs w holds p xs part; result = result }

pub holding_ends_last : HoldingEndsLast
holding_ends_last setup fs m path good = record {
  whole = ends_last setup fs (world_of m) good.holds path (live_records m) here;
  seen = λ engine. ends_last setup fs (world_of m) good.holds path _ (upto_tail (position m engine) (live_records m));
  ordered = end_is_last setup fs m good path;
}
