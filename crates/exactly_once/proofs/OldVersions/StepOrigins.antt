-- Each live step record was sent, and its invocation asked it where it stood then.
use Rattle.std.proofs.Common.{◌≡◌, ◌⊎◌, inl, inr, ⊎_elim, ℕ, suc, ◌≤◌, Bool, true, false, cond, eqb, List, [], ◌∷◌, length, Option, Some, None, refl, sym, ap, ◌∙◌, subst, arith}
use Rattle.std.specs.List.{AllByRecursion}
use Rattle.std.proofs.lemmas.Bool.{and_parts, eqb-true}
use Rattle.lb_base.specs.Path.{IsPath}
use Rattle.boki_types.specs.declared.body.Body.{Body}
use Rattle.boki_types.specs.declared.body.Body.TheVariants as b
use Rattle.boki_types.specs.declared.operation.Op.TheVariants as o
use Rattle.boki_types.specs.declared.operation.Ask.{Ask}
use Rattle.boki_types.specs.declared.operation.Ask.TheVariants as k
use Rattle.boki_types.specs.declared.plan.Setup.{Setup}
use Rattle.boki_types.specs.declared.program.Function.{Function}
use Rattle.boki_model.specs.Live.{LogRecord, Live, meets_condition, live, upto}
use Rattle.boki_model.specs.Bodies.{step_of}
use Rattle.boki_model.specs.Writes.{Store, KeyFence}
use Rattle.boki_machine.specs.Decided.{InvocationState, invocation_state}
use Rattle.exactly_once.specs.Induction.SoundLogs.{MayBegin}
use Rattle.exactly_once.specs.FurtherLaws.StepRecords.{has_paths, is_path_of, IsWellFormed, is_step_of, step_seqnums}
use Rattle.exactly_once.specs.Induction.Invariant.{World, records, AsksLogged, IsNext, IsStepRecord, SentOfKind, IsSentRecord, InvariantHolds}
use Rattle.exactly_once.specs.FurtherLaws.Words.{values_only, IsAmong}
use Rattle.exactly_once.proofs.Log.HistoryTails.{Tail, here, there, tail_cases, shorter}
use Rattle.exactly_once.proofs.Log.ListElements.{each_weaker, each_tail}
use Rattle.exactly_once.proofs.Invocations.NextRecord.{stands}
use Rattle.exactly_once.proofs.Log.StepRecords.{in_order}
use Rattle.exactly_once.proofs.Invocations.SamePlace.{point_apart, place_is}
use Rattle.exactly_once.proofs.Invariant.OrderedRecord.{among_each}
use Rattle.exactly_once.proofs.Invocations.InitAndCursor.{compare_tails, upto_tail, fit_tail}

-- The entry of a live record.

pub record IsEntry (log : List (LogRecord Body)) (x : Live Body) (xs : List (Live Body)) : Type 0 where
  pub entry : LogRecord Body
  pub older : List (LogRecord Body)
  pub tail : Tail (entry ∷ older) log
  pub holds_is : entry.holds ≡ x.holds
  pub behind : xs ≡ live older
  pub met : meets_condition entry.condition (live older) ≡ true

pub entry_of : (x : Live Body) (xs : List (Live Body)) (log : List (LogRecord Body)) → Tail (x ∷ xs) (live log) → IsEntry log x xs
entry_of x xs [] t = elim t [ ]
entry_of x xs (r ∷ log) t = at (entry_of x xs log) (meets_condition r.condition (live log)) refl t
  where
    later : IsEntry log x xs → IsEntry (r ∷ log) x xs
    later is = record { entry = is.entry; older = is.older; tail = there is.tail; holds_is = is.holds_is; behind = is.behind; met = is.met }

    at : (Tail (x ∷ xs) (live log) → IsEntry log x xs) → (t : Bool) → meets_condition r.condition (live log) ≡ t → Tail (x ∷ xs) (cond t (record { seq = suc (length log); tags = r.tags; holds = r.holds } ∷ live log) (live log)) → IsEntry (r ∷ log) x xs
    at ih false e t = later (ih t)
    at ih true e t =
        ⊎_elim
        (λ same.
        let first : x ≡ record { seq = suc (length log); tags = r.tags; holds = r.holds } = cc in
        let rest : xs ≡ live log = cc in
        record { entry = r; older = log; tail = here; holds_is = sym (ap (λ (x : Live Body). x.holds) first); behind = rest; met = e })
        (λ t. later (ih t)) (tail_cases t)

path_of_step : (p : List ℕ) (i : ℕ) (s : Option (List ℕ × ℕ)) → s ≡ Some (p, i) → is_path_of s ≡ true → IsPath p
path_of_step p i s e is = subst (λ s. is_path_of s ≡ true) e is

pub step_is_path : (p : List ℕ) (i : ℕ) (body : Body) → step_of body ≡ Some (p, i) → has_paths body ≡ true → IsPath p
step_is_path p i (b.Spawn q j ordinal f args) e is = path_of_step p i (Some (q, j)) e (and_parts _ _ (and_parts _ _ is).0).0
step_is_path p i (b.Submit q f args) e is = cc
step_is_path p i (b.Init q) e is = path_of_step p i (Some (q, 1)) e is
step_is_path p i (b.Read q j key) e is = path_of_step p i (Some (q, j)) e is
step_is_path p i (b.Write q j place key kept) e is = path_of_step p i (Some (q, j)) e is
step_is_path p i (b.Join q j ordinal) e is = path_of_step p i (Some (q, j)) e is
step_is_path p i (b.Push q j queue value) e is = path_of_step p i (Some (q, j)) e is
step_is_path p i (b.Pop q j queue) e is = path_of_step p i (Some (q, j)) e is
step_is_path p i (b.TxnBegin q j names) e is = path_of_step p i (Some (q, j)) e is
step_is_path p i (b.TxnCommit q j begin names writes) e is = path_of_step p i (Some (q, j)) e is
step_is_path p i (b.Finish q j outcome) e is = path_of_step p i (Some (q, j)) e is
step_is_path p i (b.ReadGroup q j keys) e is = path_of_step p i (Some (q, j)) e is
step_is_path p i _ e is = cc

-- What a step record needs, whatever it is of.

pub record IsLogged (fs : List Function) (store : Store) (fences : List KeyFence) (behind : List (Live Body)) (p : List ℕ) (st : InvocationState) (i : ℕ) : Type 0 where
  pub ask : Ask
  pub logs : AsksLogged fs store fences behind p st i ask

module _ (setup : Setup) (fs : List Function) (store : Store) (fences : List KeyFence) (behind now : List (Live Body)) where
  abbrev pub StepLogs : Option (List ℕ × ℕ) → Type 0
  StepLogs None = Unit {0}
  StepLogs (Some s) = MayBegin s.0 (invocation_state setup fs store s.0 behind) behind ⊎ IsLogged fs store fences behind s.0 (invocation_state setup fs store s.0 behind) s.1

  logged : (p : List ℕ) (i : ℕ) (ask : Ask) → AsksLogged fs store fences behind p (invocation_state setup fs store p behind) i ask → StepLogs (Some (p, i))
  logged p i ask logs = inr (record { ask = ask; logs = logs })

  pub next_logs : (body : Body) → IsNext setup fs store fences behind now body → StepLogs (step_of body)
  next_logs (b.Init p) next = inl next
  next_logs (b.Read p i key) next = logged p i (k.Op (o.Read key)) next
  next_logs (b.ReadGroup p i keys) next = logged p i (k.Op (o.ReadGroup keys)) next
  next_logs (b.Write p i place key kept) next = logged p i (k.Op (o.Write key next.0.value)) next.2
  next_logs (b.Spawn p i ordinal name args) next = logged p i (k.Op (o.Spawn ordinal next.0 args)) next.2
  next_logs (b.Join p i ordinal) next = logged p i (k.Op (o.Join ordinal)) next.0
  next_logs (b.Push p i queue value) next = logged p i (k.Op (o.Push queue value)) next
  next_logs (b.Pop p i queue) next = logged p i (k.Op (o.Pop queue)) next
  next_logs (b.TxnBegin p i names) next = logged p i (k.Op (o.Begin names)) next
  next_logs (b.TxnCommit p i begin names writes) next = logged p i (k.Op (o.Commit names writes)) next.1
  next_logs (b.Finish p i outcome) next = logged p i (k.Done outcome) next
  next_logs _ next = tt

-- Parts of the history with as many step records of an invocation: it stands in the same state.

module _ (setup : Setup) (fs : List Function) (store : Store) (p : List ℕ) where
  steps_tail : (ys xs : List (Live Body)) → Tail ys xs → length (step_seqnums p ys) ≤ length (step_seqnums p xs)
  steps_tail ys xs here = omega arith
  steps_tail ys (x ∷ xs) (there t) =
      let le = steps_tail ys xs t in
      elim (is_step_of p (step_of x.holds)) as (λ b. length (step_seqnums p ys) ≤ length (cond b (x.seq ∷ step_seqnums p xs) (step_seqnums p xs)))
      [ true ↦ omega (arith, le) | false ↦ le ]

  same_tail : (ys xs : List (Live Body)) → Tail ys xs → length (step_seqnums p xs) ≡ length (step_seqnums p ys) → stands setup fs store p xs ≡ stands setup fs store p ys
  same_tail ys xs here e = refl
  same_tail ys (x ∷ xs) (there t) e = at (same_tail ys xs t) (is_step_of p (step_of x.holds)) refl e
    where
      at : (length (step_seqnums p xs) ≡ length (step_seqnums p ys) → stands setup fs store p xs ≡ stands setup fs store p ys) → (b : Bool) → is_step_of p (step_of x.holds) ≡ b → length (cond b (x.seq ∷ step_seqnums p xs) (step_seqnums p xs)) ≡ length (step_seqnums p ys) → stands setup fs store p (x ∷ xs) ≡ stands setup fs store p ys
      at ih true is e = absurd (let le = steps_tail ys xs t in let h : ⊥ = omega (arith, le, e) in h)
      at ih false is e = point_apart setup fs store p x xs (step_of x.holds) is ∙ ih e

  pub same_count : (xs ys zs : List (Live Body)) → Tail xs zs → Tail ys zs → length (step_seqnums p xs) ≡ length (step_seqnums p ys) → stands setup fs store p xs ≡ stands setup fs store p ys
  same_count xs ys zs s t e = at (compare_tails xs ys zs s t)
    where
      at : Tail xs ys ⊎ Tail ys xs → stands setup fs store p xs ≡ stands setup fs store p ys
      at (inl r) = sym (same_tail xs ys r (sym e))
      at (inr r) = same_tail ys xs r e

-- Where a step record of the log comes from.

pub record Origin (setup : Setup) (fs : List Function) (store : Store) (fences : List KeyFence) (n : ℕ) (now xs : List (Live Body)) (p : List ℕ) (i : ℕ) (body : Body) : Type 0 where
  pub c : ℕ
  pub within : c ≤ n
  pub same : invocation_state setup fs store p (upto c now) ≡ invocation_state setup fs store p xs
  pub next : IsNext setup fs store fences (upto c now) now body
  pub logs : MayBegin p (invocation_state setup fs store p (upto c now)) (upto c now) ⊎ IsLogged fs store fences (upto c now) p (invocation_state setup fs store p (upto c now)) i

module _ (setup : Setup) (fs : List Function) (w : World) (holds : InvariantHolds setup fs w) where
  pub asked_is : (x : LogRecord Body) → IsAmong x w.sent → IsSentRecord setup fs (values_only w.store) w.store.fences (length w.log) (records w) x
  asked_is x is = among_each (IsSentRecord setup fs (values_only w.store) w.store.fences (length w.log) (records w)) x w.sent is holds.sent

  pub own_log : AllByRecursion IsWellFormed w.log
  own_log = each_weaker (λ x. IsAmong x w.sent) IsWellFormed (λ x is. (asked_is x is).own) w.log holds.ordered

  pub origin : (x : Live Body) (xs : List (Live Body)) (p : List ℕ) (i : ℕ) → Tail (x ∷ xs) (records w) → step_of x.holds ≡ Some (p, i) → Origin setup fs (values_only w.store) w.store.fences (length w.log) (records w) xs p i x.holds
  origin x xs p i t step = made (entry_of x xs w.log t)
    where
      store : Store
      store = values_only w.store

      made : IsEntry w.log x xs → Origin setup fs (values_only w.store) w.store.fences (length w.log) (records w) xs p i x.holds
      made e =
          let asked = asked_is e.entry (each_tail (λ r. IsAmong r w.sent) (e.entry ∷ e.older) w.log e.tail holds.ordered).0 in
          let step_e : step_of e.entry.holds ≡ Some (p, i) = ap step_of e.holds_is ∙ step in
          let is : IsStepRecord setup fs (values_only w.store) w.store.fences (length w.log) (records w) p e.entry.condition e.entry.holds =
          subst (SentOfKind setup fs (values_only w.store) w.store.fences (length w.log) (records w) e.entry.condition e.entry.holds) step_e asked.kind in
          let own : AllByRecursion IsWellFormed e.older = (each_tail IsWellFormed (e.entry ∷ e.older) w.log e.tail own_log).1 in
          let path : IsPath p = step_is_path p i e.entry.holds step_e asked.own.paths in
          let place = (invocation_state setup fs (values_only w.store) p (upto is.c (records w))).place in
          let here_is : eqb place (length (step_seqnums p (live e.older))) ≡ true = sym ((in_order p path e.older own).next place) ∙ ap (λ c. meets_condition c (live e.older)) (sym is.place) ∙ e.met in
          let behind_tail : Tail xs (records w) = shorter t in
          let count : length (step_seqnums p (upto is.c (records w))) ≡ length (step_seqnums p xs) =
          sym (place_is setup fs (values_only w.store) p (upto is.c (records w)) (fit_tail setup fs (values_only w.store) (upto is.c (records w)) (records w) (upto_tail is.c (records w)) holds.sound.fit))
          ∙ eqb-true place (length (step_seqnums p (live e.older))) here_is ∙ ap (λ xs. length (step_seqnums p xs)) (sym e.behind) in
          record {
            c = is.c;
            within = is.within;
            same = same_count setup fs (values_only w.store) p (upto is.c (records w)) xs (records w) (upto_tail is.c (records w)) behind_tail count;
            next = subst (IsNext setup fs (values_only w.store) w.store.fences (upto is.c (records w)) (records w)) e.holds_is is.next;
            logs = subst (StepLogs setup fs (values_only w.store) w.store.fences (upto is.c (records w)) (records w)) step_e (next_logs setup fs (values_only w.store) w.store.fences (upto is.c (records w)) (records w) e.entry.holds is.next);
          }
