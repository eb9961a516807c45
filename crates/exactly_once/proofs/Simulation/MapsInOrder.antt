-- The maps of the failure-free execution stay in the order of their keys.
use Rattle.std.proofs.Common.{◌≡◌, ℕ, zero, suc, Bool, true, false, ◌&&◌, is_lt, List, [], ◌∷◌, Option, Some, None, option_map, refl, ap, ◌∙◌, subst}
use Rattle.std.specs.Prelude.{option_and_then}
use Rattle.std.specs.FinMap.Entries.{below_all, is_sorted}
use Rattle.lb_base.specs.declared.value.Value.{Value}
use Rattle.lb_base.specs.declared.value.Outcome.{Outcome}
use Rattle.boki_types.specs.declared.operation.Op.TheVariants as o
use Rattle.boki_types.specs.declared.operation.Ask.{Ask}
use Rattle.boki_types.specs.declared.operation.Ask.TheVariants as asks
use Rattle.boki_types.specs.declared.operation.Answer.{Answer}
use Rattle.boki_types.specs.declared.operation.Answer.TheVariants as a
use Rattle.boki_types.specs.declared.program.Function.{Function}
use Rattle.boki_types.specs.declared.turn.Turn.{Turn}
use Rattle.boki_types.specs.declared.turn.Turn.TheVariants as t
use Rattle.boki_model.specs.Maps.{key_order, get, put}
use Rattle.boki_model.specs.MapLaws.{InOrder}
use Rattle.boki_model.specs.Bodies.{child}
use Rattle.boki_model.specs.Folds.{written_names, put_all}
use Rattle.boki_model.proofs.KeyMaps.{put_in_order}
use Rattle.boki_machine.specs.Ideal.{Invocation, Ideal, new_invocation, running_invocation, perform, join_child, after_commit, answers, invocation_result, invocation_ask, perform_next, perform_many, end_invocation, submit_request, apply_turn, run_turns, add_dirty_to_all, commit_succeeds, put_objects, initial_ideal}

pub record IsOrdered (s : Ideal) : Type 0 where
  pub objects : InOrder s.objects
  pub invocations : InOrder s.invocations

-- where it is defined
abbrev Keeps : Option Ideal → Type 0
Keeps None = Unit {0}
Keeps (Some s) = IsOrdered s

below_dirty : (names : List (List ℕ)) (k : List ℕ) (m : List (List ℕ × Invocation)) → below_all key_order k (add_dirty_to_all names m) ≡ below_all key_order k m
below_dirty names k [] = refl
below_dirty names k (x ∷ m) = ap (λ b. is_lt (key_order k x.0) && b) (below_dirty names k m)

dirty_ordered : (names : List (List ℕ)) (m : List (List ℕ × Invocation)) → is_sorted key_order (add_dirty_to_all names m) ≡ is_sorted key_order m
dirty_ordered names [] = refl
dirty_ordered names (x ∷ m) = λ i. below_dirty names x.0 m i && dirty_ordered names m i

bind : {X : Type 0} (o : Option X) (f : X → Option Ideal) → ((x : X) → Keeps (f x)) → Keeps (option_and_then f o)
bind None f all = tt
bind (Some x) f all = all x

bind_state : (o : Option Ideal) (f : Ideal → Option Ideal) → Keeps o → ((s : Ideal) → IsOrdered s → Keeps (f s)) → Keeps (option_and_then f o)
bind_state None f keeps all = tt
bind_state (Some s) f keeps all = all s keeps

answered : (p : List ℕ) (i : Invocation) (answer : Answer) (s : Ideal) → IsOrdered s → IsOrdered (answers p i answer s)
answered p i answer s is = record { objects = is.objects; invocations = put_in_order p (record i { answers = answer ∷ i.answers }) s.invocations is.invocations }

joined : (p : List ℕ) (i : Invocation) (o : Option Outcome) (s : Ideal) → IsOrdered s → Keeps (join_child p i o s)
joined p i None s is = tt
joined p i (Some outcome) s is = answered p i (a.Joined outcome) s is

committed : (good : Bool) (p : List ℕ) (i : Invocation) (writes : List (List ℕ × Value)) (s : Ideal) → IsOrdered s → IsOrdered (after_commit good p i writes s)
committed false p i writes s is = answered p (record i { transaction = None }) (a.Committed false) s is
committed true p i writes s is =
    answered p (record i { transaction = None }) (a.Committed true) (record s { names = put_all writes s.names; invocations = add_dirty_to_all (written_names writes) s.invocations })
    (record { objects = is.objects; invocations = dirty_ordered (written_names writes) s.invocations ∙ is.invocations })

operates : (p : List ℕ) (i : Invocation) (s : Ideal) (ask : Option Ask) → IsOrdered s → Keeps (perform p i s ask)
operates p i s (Some (asks.Op (o.Write key v))) is =
    answered p i a.Done (record s { objects = put key v s.objects }) (record { objects = put_in_order key v s.objects is.objects; invocations = is.invocations })
operates p i s (Some (asks.Op (o.Read key))) is = answered p i _ s is
operates p i s (Some (asks.Op (o.ReadGroup keys))) is = answered p i _ s is
operates p i s (Some (asks.Op (o.Spawn ordinal f args))) is =
    let after = answered p i (a.Spawned ordinal) s is in
    record { objects = after.objects; invocations = put_in_order (child p ordinal) (new_invocation f args) _ after.invocations }
operates p i s (Some (asks.Op (o.Join ordinal))) is = joined p i (invocation_result (child p ordinal) s) s is
operates p i s (Some (asks.Op (o.Push queue v))) is = answered p i a.Done _ (record { objects = is.objects; invocations = is.invocations })
operates p i s (Some (asks.Op (o.Pop queue))) is = answered p i _ _ (record { objects = is.objects; invocations = is.invocations })
operates p i s (Some (asks.Op (o.Begin names))) is = answered p (record i { transaction = Some [] }) _ s is
operates p i s (Some (asks.Op (o.Commit names writes))) is = committed (commit_succeeds names writes i.transaction) p i writes s is
operates p i s (Some (asks.Done outcome)) is = tt
operates p i s None is = tt

module _ (fs : List Function) where
  goes : (n : ℕ) (p : List ℕ) (s : Ideal) → IsOrdered s → Keeps (perform_many fs n p s)
  goes zero p s is = at (running_invocation p s)
    where
      at : (o : Option Invocation) → Keeps (option_map (λ i. s) o)
      at None = tt
      at (Some i) = is
  goes (suc n) p s is = bind_state (perform_many fs n p s) (perform_next fs p) (goes n p s is) (λ s' is'. bind (running_invocation p s') (λ i. perform p i s' (invocation_ask fs p i)) (λ i. operates p i s' (invocation_ask fs p i) is'))

  ends : (p : List ℕ) (i : Invocation) (s : Ideal) (ask : Option Ask) → IsOrdered s → Keeps (end_invocation p i s ask)
  ends p i s (Some (asks.Done outcome)) is = record { objects = is.objects; invocations = put_in_order p (record i { result = Some outcome }) s.invocations is.invocations }
  ends p i s (Some (asks.Op op)) is = tt
  ends p i s None is = tt

  submits : (request f : ℕ) (args : List Value) (s : Ideal) (o : Option Invocation) → IsOrdered s → Keeps (submit_request request f args s o)
  submits request f args s None is = record { objects = is.objects; invocations = put_in_order (request ∷ []) (new_invocation f args) s.invocations is.invocations }
  submits request f args s (Some i) is = tt

  turns_keep : (x : Turn) (s : Ideal) → IsOrdered s → Keeps (apply_turn fs x s)
  turns_keep (t.Submit request f args) s is = submits request f args s (get (request ∷ []) s.invocations) is
  turns_keep (t.Go p n) s is = goes n p s is
  turns_keep (t.End p) s is = bind (running_invocation p s) (λ i. end_invocation p i s (invocation_ask fs p i)) (λ i. ends p i s (invocation_ask fs p i) is)

  ideal_keeps : (ts : List Turn) (s : Ideal) → IsOrdered s → Keeps (run_turns fs ts s)
  ideal_keeps [] s is = is
  ideal_keeps (x ∷ xs) s is = bind_state (apply_turn fs x s) (run_turns fs xs) (turns_keep x s is) (λ s' is'. ideal_keeps xs s' is')

  objects_ordered : (xs : List (List ℕ × Value)) → InOrder (put_objects xs)
  objects_ordered [] = refl
  objects_ordered (x ∷ xs) = put_in_order x.0 x.1 (put_objects xs) (objects_ordered xs)

  -- what an execution from the opening comes to
  pub is_ordered : (ts : List Turn) (first : List (List ℕ × Value)) (s : Ideal) → run_turns fs ts (initial_ideal first) ≡ Some s → IsOrdered s
  is_ordered ts first s defined = subst Keeps defined (ideal_keeps ts (initial_ideal first) (record { objects = objects_ordered first; invocations = refl }))
