-- An attempt that may put in a version: the versions at its cursor are those that it has counted, and no operation of its
-- invocation is logged there.
use Rattle.std.proofs.Common.{◌≡◌, ℕ, zero, suc, ◌+◌, ◌<◌, ◌≤◌, ◌-◌, true, List, ◌∷◌, length, Option, Some, None, refl, sym, ap, ◌∙◌, subst, arith}
use Rattle.lb_base.specs.declared.value.Value.{Value}
use Rattle.lb_base.specs.declared.value.Mode.TheVariants.{W}
use Rattle.boki_types.specs.declared.body.Body.{Body}
use Rattle.boki_types.specs.declared.operation.Op.TheVariants as o
use Rattle.boki_types.specs.declared.operation.Ask.{Ask}
use Rattle.boki_types.specs.declared.operation.Ask.TheVariants as k
use Rattle.boki_types.specs.declared.plan.Setup.{Setup}
use Rattle.boki_types.specs.declared.program.Function.{Function}
use Rattle.boki_model.specs.Live.{Live, upto}
use Rattle.boki_model.specs.Bodies.{step_of}
use Rattle.boki_model.specs.Script.{next_ask}
use Rattle.boki_model.specs.Writes.{Store, Version, KeyFence, version_value, versions_at, fence}
use Rattle.boki_machine.specs.Attempt.{Attempt}
use Rattle.boki_machine.specs.Step.{attempt_ask}
use Rattle.boki_machine.specs.Decided.{InvocationState, with_free_answers, asked_at, free_answer, add_answer}
use Rattle.exactly_once.specs.Induction.SoundLogs.{AllMayFollow, IsSound, AreNextWrites, free_operations_to}
use Rattle.exactly_once.specs.FurtherLaws.Words.{versions_with_cursor}
use Rattle.exactly_once.specs.Induction.Invariant.{MayLog, AsksLogged, Follows, CountsFreeWrites}
use Rattle.exactly_once.proofs.Log.HistoryTails.{Tail, longer}
use Rattle.exactly_once.proofs.Log.LiveRecords.{Under}
use Rattle.exactly_once.proofs.Invocations.NextRecord.{stands}
use Rattle.exactly_once.proofs.Asking.OpenTransactions.{same_step}
use Rattle.exactly_once.proofs.Invocations.SamePlace.{under_upto}
use Rattle.exactly_once.proofs.Asking.FreeAtCursor.{next_writes, frees_most, all_free}
use Rattle.exactly_once.proofs.Invocations.InitAndCursor.{upto_tail, one_record, upto_at, fit_tail, StandsOn, stands_on}

-- in the mode W free answers don't depend on the records
pub same_more_in_W : (fs : List Function) (store : Store) (xs ys : List (Live Body)) (p : List ℕ) (st : InvocationState) (n : ℕ) → st.mode ≡ W → with_free_answers fs store xs p st n ≡ with_free_answers fs store ys p st n
same_more_in_W fs store xs ys p st zero mode = refl
same_more_in_W fs store xs ys p st (suc n) mode =
    ap (λ l. add_answer (free_answer store xs st.cursor (length l - length st.answers) st.mode (asked_at fs p st l)) l) (same_more_in_W fs store xs ys p st n mode)
    ∙ ap (λ o. add_answer o (with_free_answers fs store ys p st n)) (in_W (length (with_free_answers fs store ys p st n) - length st.answers) (asked_at fs p st (with_free_answers fs store ys p st n)))
  where
    in_W : (since : ℕ) (ask : Option Ask) → free_answer store xs st.cursor since st.mode ask ≡ free_answer store ys st.cursor since st.mode ask
    in_W since ask = ap (λ m. free_answer store xs st.cursor since m ask) mode ∙ same since ask ∙ ap (λ m. free_answer store ys st.cursor since m ask) (sym mode)
      where
        same : (since : ℕ) (ask : Option Ask) → free_answer store xs st.cursor since W ask ≡ free_answer store ys st.cursor since W ask
        same since (Some (k.Op (o.Write key value))) = refl
        same since _ = refl

-- The attempt.

pub record IsWriter (setup : Setup) (fs : List Function) (store : Store) (fences : List KeyFence) (now : List (Live Body)) (a : Attempt) (key : List ℕ) (value : Value) : Type 0 where
  pub follows : Follows setup fs store fences (upto a.cursor now) a
  pub mode_is : a.mode ≡ W
  pub asks : attempt_ask fs a ≡ Some (k.Op (o.Write key value))
  pub new : version_value key a.cursor (suc a.free_writes) store.versions ≡ None
  pub unfenced : fence key fences ≤ a.cursor

module _ (setup : Setup) (fs : List Function) (store : Store) (fences : List KeyFence) (n : ℕ) (now : List (Live Body)) (under : Under n now) (sound : IsSound setup fs store now) (a : Attempt) (key : List ℕ) (value : Value) (writer : IsWriter setup fs store fences now a key value) where
  abbrev pub behind_it : List (Live Body)
  behind_it = upto a.cursor now

  abbrev pub its : InvocationState
  its = stands setup fs store a.path behind_it

  abbrev F : Follows setup fs store fences behind_it a
  F = writer.follows

  pub its_mode : its.mode ≡ W
  its_mode = F.mode ∙ writer.mode_is

  fit_behind : AllMayFollow setup fs store behind_it
  fit_behind = fit_tail setup fs store behind_it now (upto_tail a.cursor now) sound.fit

  pub stood : StandsOn setup fs store a.path behind_it
  stood = stands_on setup fs store a.path behind_it fit_behind F.begun

  pub on_tail : Tail (stood.on ∷ stood.behind) now
  on_tail = longer stood.tail (upto_tail a.cursor now)

  pub on_seq : stood.on.seq ≡ a.cursor
  on_seq = stood.seq_is ∙ F.cursor

  pub behind_is : behind_it ≡ stood.on ∷ stood.behind
  behind_is = ap (λ c. upto c now) (sym on_seq) ∙ upto_at stood.on stood.behind n now under on_tail

  abbrev pub standing : List Version
  standing = versions_with_cursor a.cursor store.versions

  under_it : Under a.cursor behind_it
  under_it = under_upto setup fs store a.path a.cursor n now under

  -- the versions at its cursor are its next writes
  pub its_writes : AreNextWrites fs store behind_it a.path its standing
  its_writes = next_writes setup fs store a.path a.cursor behind_it under_it fit_behind F.begun F.unended F.cursor its_mode

  counted : a.free_writes ≡ F.free
  counted = subst (λ m. CountsFreeWrites m a.free_writes F.free) writer.mode_is F.counts

  asks_at : asked_at fs a.path its (with_free_answers fs store behind_it a.path its F.free) ≡ Some (k.Op (o.Write key value))
  asks_at =
      ap (asked_at fs a.path its) (sym F.answers) ∙ ap (λ f. next_ask fs f its.args (length a.path) a.answers) F.function
      ∙ ap (λ args. next_ask fs a.function args (length a.path) a.answers) F.args ∙ writer.asks

  -- a number of decided free operations at the cursor is at most that of the versions there
  pub few_decided : (j : ℕ) → length (with_free_answers fs store behind_it a.path its j) ≡ j + length its.answers → j ≤ length standing
  few_decided j long = frees_most setup fs store a.path a.cursor behind_it under_it fit_behind F.begun F.unended F.cursor its_mode j long

  -- none stands there that it hasn't counted
  pub as_many : length standing ≡ a.free_writes
  as_many =
      let all = all_free setup fs store a.path a.cursor behind_it under_it fit_behind F.begun F.unended F.cursor its_mode F.free (k.Op (o.Write key value)) (ap length (sym F.answers) ∙ F.decided) asks_at absent in
      ap (λ c. versions_at c store.versions) (sym F.cursor) ∙ sym all ∙ sym counted
    where
      absent : (q : List ℕ) (v : Value) → ◌≡◌ {A = Ask} (k.Op (o.Write key value)) (k.Op (o.Write q v)) → version_value q its.cursor (suc F.free) store.versions ≡ None
      absent q v e = let same : key ≡ q = cc in subst (λ q. version_value q its.cursor (suc F.free) store.versions ≡ None) same ((λ i. version_value key (F.cursor i) (suc (sym counted i)) store.versions) ∙ writer.new)

  pub asks_more : asked_at fs a.path its (with_free_answers fs store behind_it a.path its (length standing)) ≡ Some (k.Op (o.Write key value))
  asks_more = ap (λ m. asked_at fs a.path its (with_free_answers fs store behind_it a.path its m)) (as_many ∙ counted) ∙ asks_at

  -- an invocation that stands at this cursor is its own
  pub record IsIts (q : List ℕ) (xs : List (Live Body)) : Type 0 where
    pub path_is : q ≡ a.path
    pub same : stands setup fs store q xs ≡ its

  pub is_its : (q : List ℕ) (xs : List (Live Body)) → Tail xs now → (stands setup fs store q xs).begun ≡ true → (stands setup fs store q xs).cursor ≡ a.cursor → IsIts q xs
  is_its q xs t begun cursor =
      let on = stands_on setup fs store q xs (fit_tail setup fs store xs now t sound.fit) begun in
      let one : on.on ∷ on.behind ≡ stood.on ∷ stood.behind = one_record on.on stood.on on.behind stood.behind n now under (longer on.tail t) on_tail (on.seq_is ∙ cursor ∙ sym on_seq) in
      let first : on.on ≡ stood.on = cc in
      let steps : Some (q, on.index) ≡ Some (a.path, stood.index) = sym on.step ∙ ap (λ (x : Live Body). step_of x.holds) first ∙ stood.step in
      let path : q ≡ a.path = ap (λ (s : List ℕ × ℕ). s.0) (same_step (q, on.index) (a.path, stood.index) steps) in
      record {
        path_is = path;
        same = on.same ∙ ap (stands setup fs store q) (one ∙ sym behind_is) ∙ ap (λ q. stands setup fs store q behind_it) path;
      }

  -- and there it logs nothing
  logs_at : (xs : List (Live Body)) (st : InvocationState) (i : ℕ) (ask : Ask) → st ≡ its → AsksLogged fs store fences xs a.path st i ask → ⊥
  logs_at xs st i ask same logs =
      let mode : st.mode ≡ W = ap (λ (st : InvocationState). st.mode) same ∙ its_mode in
      let cursor : st.cursor ≡ a.cursor = ap (λ (st : InvocationState). st.cursor) same ∙ F.cursor in
      let count : free_operations_to i st ≡ length standing = logs.asks.reaches.all_versions mode ∙ ap (λ c. versions_at c store.versions) cursor in
      let asked_there : Some ask ≡ Some (k.Op (o.Write key value)) =
      sym logs.asks.asked ∙ ap (λ m. asked_at fs a.path st (with_free_answers fs store xs a.path st m)) count ∙ ap (asked_at fs a.path st) (same_more_in_W fs store xs behind_it a.path st (length standing) mode)
      ∙ ap (λ st. asked_at fs a.path st (with_free_answers fs store behind_it a.path st (length standing))) same ∙ asks_more in
      let is : ask ≡ k.Op (o.Write key value) = cc in
      let may : a.cursor < fence key fences =
      subst (λ c. MayLog fences W c (k.Op (o.Write key value))) cursor (subst (λ m. MayLog fences m st.cursor (k.Op (o.Write key value))) mode (subst (MayLog fences st.mode st.cursor) is logs.may_log)) in
      let le = writer.unfenced in omega (arith, may, le)

  pub logs_apart : (q : List ℕ) (xs : List (Live Body)) (i : ℕ) (ask : Ask) → Tail xs now → AsksLogged fs store fences xs q (stands setup fs store q xs) i ask → (stands setup fs store q xs).cursor ≡ a.cursor → ⊥
  logs_apart q xs i ask t logs cursor =
      let it = is_its q xs t logs.asks.reaches.begun cursor in
      logs_at xs (stands setup fs store a.path xs) i ask (ap (λ q. stands setup fs store q xs) (sym it.path_is) ∙ it.same)
      (subst (λ q. AsksLogged fs store fences xs q (stands setup fs store q xs) i ask) it.path_is logs)
