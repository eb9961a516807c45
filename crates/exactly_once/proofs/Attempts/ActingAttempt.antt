-- An attempt that acts: its path, its engine's view, and the operation that it asks.
use Rattle.std.proofs.Common.{◌≡◌, ℕ, zero, suc, ◌-◌, ◌≤◌, Bool, true, false, cond, leb, List, [], ◌∷◌, length, Option, Some, None, refl, sym, ap, ◌∙◌, subst, arith}
use Rattle.std.specs.Prelude.{bytes_eq, slice_index}
use Rattle.std.specs.List.{AllByRecursion}
use Rattle.std.proofs.lemmas.Bool.{and_parts, leb-true}
use Rattle.lb_base.specs.Path.{IsPath}
use Rattle.lb_base.specs.declared.value.Value.{Value}
use Rattle.lb_base.specs.declared.value.Mode.{Mode}
use Rattle.lb_base.specs.declared.value.Mode.TheVariants.{R, W}
use Rattle.lb_base.specs.declared.value.Outcome.{Outcome}
use Rattle.boki_types.specs.declared.body.Body.{Body}
use Rattle.boki_types.specs.declared.body.Body.TheVariants as b
use Rattle.boki_types.specs.declared.log.Call.{Call}
use Rattle.boki_types.specs.declared.operation.Op.TheVariants as o
use Rattle.boki_types.specs.declared.operation.Ask.{Ask}
use Rattle.boki_types.specs.declared.operation.Ask.TheVariants as k
use Rattle.boki_types.specs.declared.operation.Answer.{Answer}
use Rattle.boki_types.specs.declared.plan.Setup.{Setup}
use Rattle.boki_types.specs.declared.program.Function.{Function}
use Rattle.boki_model.specs.Live.{LogRecord, Live, meets_condition, live, upto}
use Rattle.boki_model.specs.Bodies.{child}
use Rattle.std.specs.Option.{option_or}
use Rattle.boki_model.specs.Modes.{result_of, finish_of}
use Rattle.boki_model.specs.Writes.{KeyFence, version_value}
use Rattle.boki_machine.specs.Attempt.{Attempt, call_in, call_of, next_index}
use Rattle.boki_machine.specs.Decided.{InvocationState, asked_at, with_free_answers}
use Rattle.boki_machine.specs.Step.{attempt_ask}
use Rattle.exactly_once.specs.Induction.SoundLogs.{free_operations_to, AllMayFollow}
use Rattle.exactly_once.specs.FurtherLaws.StepRecords.{has_paths, IsWellFormed}
use Rattle.exactly_once.specs.Induction.Invariant.{World, records, position_of, MayLog, AsksLogged, Follows, IsFollowing, InvariantHolds}
use Rattle.exactly_once.specs.FurtherLaws.Words.{values_only, IsAmong}
use Rattle.exactly_once.proofs.Log.LiveRecords.{Under, live_under}
use Rattle.exactly_once.proofs.Log.MapChanges.{same_key}
use Rattle.exactly_once.proofs.Log.StepRecords.{child_path}
use Rattle.exactly_once.proofs.Invocations.SamePlace.{under_upto, fit_upto}
use Rattle.exactly_once.proofs.Invariant.OrderedRecord.{among_each}
use Rattle.exactly_once.proofs.Invocations.NextRecord.{stands}
use Rattle.exactly_once.proofs.Asking.FreeAtCursor.{all_free}

-- A path that is called is in range.

call_path : (p : List ℕ) (body : Body) (c : Call) → has_paths body ≡ true → call_in p body ≡ Some c → IsPath p
call_path p (b.Submit q f args) c paths is = at (bytes_eq p q) refl is
  where
    at : (t : Bool) → bytes_eq p q ≡ t → cond t (Some (record { function = f; args = args })) None ≡ Some c → IsPath p
    at true e is = subst IsPath (sym (same_key p q e)) (and_parts _ _ paths).0
    at false e is = cc
call_path p (b.Spawn q i ordinal f args) c paths is = at (bytes_eq p (child q ordinal)) refl is
  where
    at : (t : Bool) → bytes_eq p (child q ordinal) ≡ t → cond t (Some (record { function = f; args = args })) None ≡ Some c → IsPath p
    at true e is =
        let parts = and_parts _ _ paths in
        let fronts = and_parts _ _ parts.0 in
        subst IsPath (sym (same_key p (child q ordinal) e)) (child_path q ordinal fronts.0 (leb-true (length q) 3 fronts.1) parts.1)
    at false e is = cc
call_path p _ c paths is = cc

pub called_path : (p : List ℕ) (c : Call) (log : List (LogRecord Body)) → AllByRecursion IsWellFormed log → call_of p (live log) ≡ Some c → IsPath p
called_path p c [] own is = cc
called_path p c (r ∷ log) own is = at (called_path p c log own.1) (meets_condition r.condition (live log)) is
  where
    by_older : (o : Option Call) → (o ≡ Some c → IsPath p) → option_or o (call_in p r.holds) ≡ Some c → IsPath p
    by_older (Some d) ih is = ih is
    by_older None ih is = call_path p r.holds c own.0.paths is

    at : (call_of p (live log) ≡ Some c → IsPath p) → (t : Bool) → call_of p (cond t (record { seq = suc (length log); tags = r.tags; holds = r.holds } ∷ live log) (live log)) ≡ Some c → IsPath p
    at ih true is = by_older (call_of p (live log)) ih is
    at ih false is = ih is

-- A result that is seen is there.

pub result_upto : (q : List ℕ) (c : ℕ) (r : Outcome) (xs : List (Live Body)) → result_of q (upto c xs) ≡ Some r → result_of q xs ≡ Some r
result_upto q c r [] is = is
result_upto q c r (x ∷ xs) is = at (leb x.seq c) (result_upto q c r xs) is
  where
    at : (t : Bool) → (result_of q (upto c xs) ≡ Some r → result_of q xs ≡ Some r) → result_of q (cond t (x ∷ xs) (upto c xs)) ≡ Some r → result_of q (x ∷ xs) ≡ Some r
    at true ih is = is
    at false ih is = ap (λ o. option_or o (finish_of q x.holds)) (ih is)

-- An engine's position is one of those.

index_within : (n : ℕ) (ps : List ℕ) (i : ℕ) → AllByRecursion (λ p. p ≤ n) ps → slice_index ps i ≤ n
index_within n [] i all = omega arith
index_within n (p ∷ ps) zero all = all.0
index_within n (p ∷ ps) (suc i) all = index_within n ps i all.1

-- operations that are no reads and no writes may be logged in each mode
abbrev pub is_plain : Ask → Bool
is_plain (k.Op (o.Read key)) = false
is_plain (k.Op (o.ReadGroup keys)) = false
is_plain (k.Op (o.Write key value)) = false
is_plain _ = true

pub plain_logs : (fences : List KeyFence) (mode : Mode) (cursor : ℕ) (ask : Ask) → is_plain ask ≡ true → MayLog fences mode cursor ask
plain_logs fences W cursor (k.Op (o.Write key value)) is = let no_way : false ≡ true = is in cc
plain_logs fences R cursor (k.Op (o.Read key)) is = let no_way : false ≡ true = is in cc
plain_logs fences R cursor (k.Op (o.ReadGroup keys)) is = let no_way : false ≡ true = is in cc
plain_logs fences mode cursor ask is = tt

pub no_write : (ask : Ask) → is_plain ask ≡ true → (key : List ℕ) (value : Value) → ask ≡ k.Op (o.Write key value) → ⊥
no_write ask plain key value is = let no_way : true ≡ false = sym plain ∙ ap is_plain is in cc

module _ (setup : Setup) (fs : List Function) (w : World) (holds : InvariantHolds setup fs w) where
  module _ (a : Attempt) where
    abbrev pub engine_at : ℕ
    engine_at = position_of w.positions a.engine

    pub within_log : engine_at ≤ length w.log
    within_log = index_within (length w.log) w.positions (a.engine - 1) holds.positions

    pub following : IsAmong a w.attempts → IsFollowing setup fs (values_only w.store) w.store.fences (length w.log) (records w) w.positions a
    following among = among_each (IsFollowing setup fs (values_only w.store) w.store.fences (length w.log) (records w) w.positions) a w.attempts among holds.attempts

    -- the records up to its cursor
    abbrev pub up_to : List (Live Body)
    up_to = upto a.cursor (records w)

    abbrev pub at_point : InvocationState
    at_point = stands setup fs (values_only w.store) a.path up_to

    pub fit_here : AllMayFollow setup fs (values_only w.store) up_to
    fit_here = fit_upto setup fs (values_only w.store) a.path a.cursor (records w) holds.sound.fit

    pub under_here : Under a.cursor up_to
    under_here = under_upto setup fs (values_only w.store) a.path a.cursor (length w.log) (records w) (live_under w.log)

    module _ (f : Follows setup fs (values_only w.store) w.store.fences up_to a) where
      pub asked_is : (answers : List Answer) (ask : Option Ask) → attempt_ask fs (record a { answers = answers }) ≡ ask → asked_at fs a.path at_point answers ≡ ask
      asked_is answers ask is = (λ i. asked_at fs a.path (record at_point { function = f.function i; args = f.args i }) answers) ∙ is

      pub free_is : free_operations_to (next_index a.answers) at_point ≡ f.free
      free_is = let e = f.decided in omega (arith, e)

      -- an operation that it asks and that may be logged
      pub logs :
          (ask : Ask) → attempt_ask fs a ≡ Some ask → MayLog w.store.fences a.mode a.cursor ask
          → (a.mode ≡ W → (key : List ℕ) (value : Value) → ask ≡ k.Op (o.Write key value) → version_value key a.cursor (suc f.free) w.store.versions ≡ None)
          → AsksLogged fs (values_only w.store) w.store.fences up_to a.path at_point (next_index a.answers) ask
      logs ask is may absent =
          let store = values_only w.store in
          let so_far : with_free_answers fs store up_to a.path at_point (free_operations_to (next_index a.answers) at_point) ≡ a.answers = ap (with_free_answers fs store up_to a.path at_point) free_is ∙ sym f.answers in
          let asked : asked_at fs a.path at_point a.answers ≡ Some ask = asked_is a.answers (Some ask) is in
          record {
            asks = record {
              reaches = record {
                begun = f.begun;
                unended = f.unended;
                decided = ap (λ l. suc (length l)) so_far;
                all_versions = λ mode.
                    free_is
                    ∙ all_free setup fs store a.path a.cursor up_to under_here fit_here f.begun f.unended f.cursor mode f.free ask
                    (ap length (sym f.answers) ∙ f.decided) (ap (asked_at fs a.path at_point) (sym f.answers) ∙ asked)
                    (λ key value e. ap (λ c. version_value key c (suc f.free) w.store.versions) f.cursor ∙ absent (sym f.mode ∙ mode) key value e);
              };
              asked = ap (asked_at fs a.path at_point) so_far ∙ asked;
            };
            may_log = subst (λ m. MayLog w.store.fences m at_point.cursor ask) (sym f.mode) (subst (λ c. MayLog w.store.fences a.mode c ask) (sym f.cursor) may);
            fenced = f.fenced;
          }
