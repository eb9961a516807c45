-- An invocation's Finish is its last live step record.
use Rattle.std.proofs.Common.{◌≡◌, ⊎_elim, ℕ, suc, ◌<◌, ◌≤◌, Bool, true, false, cond, List, [], ◌∷◌, ◌++◌, length, Option, Some, None, refl, sym, ap, ◌∙◌, subst}
use Rattle.std.specs.Prelude.{is_some}
use Rattle.std.specs.Option.{option_or}
use Rattle.std.proofs.lemmas.Bool.{cases_lt}
use Rattle.lb_base.specs.declared.value.Outcome.{Outcome}
use Rattle.boki_types.specs.declared.body.Body.{Body}
use Rattle.boki_types.specs.declared.body.Body.TheVariants as b
use Rattle.boki_types.specs.declared.plan.Setup.{Setup}
use Rattle.boki_types.specs.declared.program.Function.{Function}
use Rattle.boki_model.specs.Live.{LogRecord, Live, meets_condition, live}
use Rattle.boki_model.specs.Bodies.{step_of}
use Rattle.boki_model.specs.Modes.{finish_of, result_of}
use Rattle.boki_model.specs.Writes.{Store}
use Rattle.boki_machine.specs.Decided.{InvocationState}
use Rattle.boki_machine.specs.Machine.{Machine}
use Rattle.exactly_once.specs.FurtherLaws.EndedInvocations.{EndIsLast}
use Rattle.exactly_once.specs.FurtherLaws.ModesAndFloors.{IsEnded}
use Rattle.exactly_once.specs.FurtherLaws.StoreBound.{Finishes}
use Rattle.exactly_once.specs.FurtherLaws.Words.{values_only, IsAmong}
use Rattle.exactly_once.specs.Induction.EventKeeps.{MachineHolds}
use Rattle.exactly_once.specs.Induction.Invariant.{World, records, InvariantHolds}
use Rattle.exactly_once.specs.Induction.OpeningHolds.{world_of}
use Rattle.exactly_once.specs.Induction.SoundLogs.{AllMayFollow}
use Rattle.exactly_once.proofs.Log.HistoryTails.{Tail, here, there, longer}
use Rattle.exactly_once.proofs.Log.ListElements.{behind}
use Rattle.exactly_once.proofs.Log.LiveRecords.{live_under, under_tail, tails_by_seq}
use Rattle.exactly_once.proofs.Log.ModesAndFloors.{ended_later}
use Rattle.exactly_once.proofs.Log.MapChanges.{same_itself}
use Rattle.exactly_once.proofs.Invocations.NextRecord.{stands, Does, does, apart, began, operates, ends, unbegun}
use Rattle.exactly_once.proofs.Invocations.InitAndCursor.{fit_tail}
use Rattle.exactly_once.proofs.AfterEvents.EndedInvocations.{not_over}

-- the live records of an older list are a part of those of a list
pub live_on : {A : Type 0} (newer older : List (LogRecord A)) → Tail (live older) (live (newer ++ older))
live_on [] older = here
live_on {A} (r ∷ newer) older = at (live_on newer older) (meets_condition r.condition (live (newer ++ older)))
  where
    now : List (Live A)
    now = live (newer ++ older)

    at : Tail (live older) now → (t : Bool) → Tail (live older) (cond t (record { seq = suc (length (newer ++ older)); tags = r.tags; holds = r.holds } ∷ now) now)
    at tail true = there tail
    at tail false = tail

-- where a record is the path's Finish, the path has ended
pub finish_ends : (p : List ℕ) (i : ℕ) (outcome : Outcome) (x : Live Body) (rest : List (Live Body)) → x.holds ≡ b.Finish p i outcome → IsEnded p (x ∷ rest)
finish_ends p i outcome x rest body =
    ap (λ o. is_some (option_or (result_of p rest) o)) (ap (finish_of p) body ∙ ap (λ t. cond t (Some outcome) None) (same_itself p))
    ∙ at (result_of p rest)
  where
    at : (o : Option Outcome) → is_some (option_or o (Some outcome)) ≡ true
    at None = refl
    at (Some r) = refl

-- a step record comes only where there is no result yet
pub unended_before : (setup : Setup) (fs : List Function) (store : Store) (p : List ℕ) (x : Live Body) (xs : List (Live Body)) (i : ℕ) → AllMayFollow setup fs store (x ∷ xs) → step_of x.holds ≡ Some (p, i) → (stands setup fs store p xs).result ≡ None
unended_before setup fs store p x xs i fit step = at (stands setup fs store p (x ∷ xs)) (does setup fs store x xs p fit.0)
  where
    at : (next : InvocationState) → Does setup fs store x.seq x.holds xs p next → (stands setup fs store p xs).result ≡ None
    at next (apart other finish is) = let no_way : true ≡ false = sym (same_itself p) ∙ other (p, i) step in cc
    at next (began body may is) = ap (λ (st : InvocationState). st.result) (unbegun setup fs store xs p fit.2 may.new)
    at next (operates i step finish reaches is) = reaches.unended
    at next (ends i outcome body asks is) = asks.reaches.unended

module _ (setup : Setup) (fs : List Function) (w : World) (holds : InvariantHolds setup fs w) (p : List ℕ) where
  abbrev now : List (Live Body)
  now = records w

  abbrev store : Store
  store = values_only w.store

  -- where a part of the live records begins with a step record, the invocation hasn't ended behind it
  unended : (x : Live Body) (rest : List (Live Body)) (i : ℕ) → Tail (x ∷ rest) now → step_of x.holds ≡ Some (p, i) → IsEnded p rest → ⊥
  unended x rest i part step ended =
      let fit = fit_tail setup fs store (x ∷ rest) now part holds.sound.fit in
      not_over setup fs store w.store.fences p rest fit.2 ended (unended_before setup fs store p x rest i fit step)

  -- among the live records, or a part of them that an engine sees
  pub finish_is_last : (xs : List (Live Body)) → Tail xs now → (x y : Live Body) (i : ℕ) → Finishes p xs x → IsAmong y xs → step_of y.holds ≡ Some (p, i) → y.seq ≤ x.seq
  finish_is_last xs part x y i finish among step = ⊎_elim (λ lt. absurd (never lt)) (λ le. le) (cases_lt x.seq y.seq)
    where
      never : x.seq < y.seq → ⊥
      never lt =
          let bx = behind x xs finish.among in
          let by = behind y xs among in
          let t = tails_by_seq x y bx.rest by.rest (length w.log) xs (under_tail xs (length w.log) now (live_under w.log) part) bx.tail by.tail lt in
          unended y by.rest i (longer by.tail part) step (ended_later p (x ∷ bx.rest) by.rest t (finish_ends p finish.index finish.outcome x bx.rest finish.is_finish))

  dead_behind : (newer older : List (LogRecord Body)) (r : LogRecord Body) (i : ℕ) → w.log ≡ newer ++ r ∷ older → IsEnded p (live older) → step_of r.holds ≡ Some (p, i) → meets_condition r.condition (live older) ≡ false
  dead_behind newer older r i is ended step = at (meets_condition r.condition (live older)) refl
    where
      its : Live Body
      its = record { seq = suc (length older); tags = r.tags; holds = r.holds }

      at : (t : Bool) → meets_condition r.condition (live older) ≡ t → t ≡ false
      at false e = refl
      at true e =
          let t : Tail (live (r ∷ older)) now = subst (λ log. Tail (live (r ∷ older)) (live log)) (sym is) (live_on newer (r ∷ older)) in
          let its_tail : Tail (its ∷ live older) now = subst (λ t. Tail (cond t (its ∷ live older) (live older)) now) e t in
          absurd (unended its (live older) i its_tail step ended)

pub end_is_last : (setup : Setup) (fs : List Function) (m : Machine) → MachineHolds setup fs m → (p : List ℕ) → EndIsLast m p
end_is_last setup fs m good p = record {
  last = λ x end index among step finish. finish_is_last setup fs (world_of m) good.holds p _ here end x index finish among step;
  dead_behind = dead_behind setup fs (world_of m) good.holds p;
}
