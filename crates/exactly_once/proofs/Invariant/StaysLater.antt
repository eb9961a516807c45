-- What was asked, and what attempts follow, stays so as records are ordered and fences rise.
use Rattle.std.proofs.Common.{◌≡◌, inl, inr, ⊎_elim, ℕ, ◌≤◌, Bool, true, false, List, [], ◌∷◌, Option, Some, None, sym, ap, ◌∙◌, subst, arith}
use Rattle.lb_base.specs.declared.value.Mode.{Mode}
use Rattle.lb_base.specs.declared.value.Mode.TheVariants.{R, W}
use Rattle.lb_base.specs.declared.value.Outcome.{Outcome}
use Rattle.lb_base.specs.declared.value.Cond.{Cond}
use Rattle.boki_types.specs.declared.body.Body.{Body}
use Rattle.boki_types.specs.declared.body.Body.TheVariants as b
use Rattle.boki_types.specs.declared.operation.Op.TheVariants as o
use Rattle.boki_types.specs.declared.operation.Ask.{Ask}
use Rattle.boki_types.specs.declared.operation.Ask.TheVariants as k
use Rattle.boki_types.specs.declared.operation.Answer.{Answer}
use Rattle.boki_types.specs.declared.plan.Setup.{Setup}
use Rattle.boki_types.specs.declared.program.Function.{Function}
use Rattle.boki_model.specs.Live.{LogRecord, Live, upto}
use Rattle.boki_model.specs.Bodies.{child, step_of}
use Rattle.boki_model.specs.Modes.{result_of}
use Rattle.boki_model.specs.Writes.{Store, NamedValue, KeyFence, fence}
use Rattle.boki_machine.specs.Attempt.{Attempt}
use Rattle.boki_machine.specs.Decided.{InvocationState, invocation_state}
use Rattle.exactly_once.specs.FurtherLaws.StepRecords.{place_condition}
use Rattle.exactly_once.specs.Induction.Invariant.{marked_reads, AreFenced, MayLog, AsksLogged, IsNext, IsStepRecord, SentOfKind, IsSentRecord, IsAskedWrite, FencedBehind, AllFenced, KnowsLate, Follows, IsFollowing}
use Rattle.exactly_once.proofs.Log.ListElements.{each_weaker}

module _ (fences fences' : List KeyFence) (grow : (key : List ℕ) → fence key fences ≤ fence key fences') where
  fenced_later : (ms : List KeyFence) → AreFenced fences ms → AreFenced fences' ms
  fenced_later ms each = each_weaker (λ (m : KeyFence). m.at ≤ fence m.key fences) (λ (m : KeyFence). m.at ≤ fence m.key fences') (λ m le. omega (arith, le, grow m.key)) ms each

  may_log_later : (mode : Mode) (cursor : ℕ) (ask : Ask) → MayLog fences mode cursor ask → MayLog fences' mode cursor ask
  may_log_later W cursor (k.Op (o.Write key value)) may = omega (arith, may, grow key)
  may_log_later R cursor (k.Op (o.Read key)) may = may
  may_log_later R cursor (k.Op (o.ReadGroup keys)) may = may
  may_log_later mode cursor ask may = tt

  behind_later : (s : Option (List ℕ × ℕ)) (past : List (Live Body)) → FencedBehind fences s past → FencedBehind fences' s past
  behind_later None past each = tt
  behind_later (Some s) past each = fenced_later (marked_reads s.0 past) each

  pub all_fenced_later : (store : Store) (xs : List (Live Body)) → AllFenced store fences xs → AllFenced store fences' xs
  all_fenced_later store [] all = tt
  all_fenced_later store (x ∷ xs) all =
      (behind_later (step_of x.holds) xs all.0, ⊎_elim (λ none. inl none) (λ each. inr (behind_later (step_of x.holds) (x ∷ xs) each)) all.1, all_fenced_later store xs all.2)

  module _ (setup : Setup) (fs : List Function) (store : Store) where
    logs_later : (behind : List (Live Body)) (path : List ℕ) (st : InvocationState) (index : ℕ) (ask : Ask) → AsksLogged fs store fences behind path st index ask → AsksLogged fs store fences' behind path st index ask
    logs_later behind path st index ask logs = record { asks = logs.asks; may_log = may_log_later st.mode st.cursor ask logs.may_log; fenced = fenced_later (marked_reads path behind) logs.fenced }

    late_later : (path : List ℕ) (st : InvocationState) (answers : List Answer) (free : ℕ) (late : Bool) → KnowsLate fs store fences path st answers free late → KnowsLate fs store fences' path st answers free late
    late_later path st answers free false knows = tt
    late_later path st answers free true knows = (knows.0, knows.1, knows.2, knows.3, knows.4, omega (arith, knows.5, grow knows.0))

    follows_later : (behind : List (Live Body)) (a : Attempt) → Follows setup fs store fences behind a → Follows setup fs store fences' behind a
    follows_later behind a f = record {
      begun = f.begun;
      unended = f.unended;
      cursor = f.cursor;
      place = f.place;
      mode = f.mode;
      function = f.function;
      args = f.args;
      transaction = f.transaction;
      fenced = fenced_later (marked_reads a.path behind) f.fenced;
      free = f.free;
      answers = f.answers;
      decided = f.decided;
      counts = f.counts;
      stored = f.stored;
      late = late_later a.path (invocation_state setup fs store a.path behind) a.answers f.free a.late f.late;
      stored_late = f.stored_late;
    }

    -- the ordered list grows
    module _ (n n' : ℕ) (le : n ≤ n') (now now' : List (Live Body)) (same : (c : ℕ) → c ≤ n → upto c now' ≡ upto c now) (results : (q : List ℕ) (r : Outcome) → result_of q now ≡ Some r → result_of q now' ≡ Some r) where
      next_later : (behind : List (Live Body)) (body : Body) → IsNext setup fs store fences behind now body → IsNext setup fs store fences' behind now' body
      next_later behind (b.Init p) next = next
      next_later behind (b.Read p i key) next = logs_later behind p (invocation_state setup fs store p behind) i (k.Op (o.Read key)) next
      next_later behind (b.Write p i place key here) next = (next.0, next.1, logs_later behind p (invocation_state setup fs store p behind) i (k.Op (o.Write key next.0.value)) next.2)
      next_later behind (b.Spawn p i ordinal name args) next = (next.0, next.1, logs_later behind p (invocation_state setup fs store p behind) i (k.Op (o.Spawn ordinal next.0 args)) next.2)
      next_later behind (b.Join p i ordinal) next = (logs_later behind p (invocation_state setup fs store p behind) i (k.Op (o.Join ordinal)) next.0, (next.1.0, results (child p ordinal) next.1.0 next.1.1))
      next_later behind (b.Push p i queue value) next = logs_later behind p (invocation_state setup fs store p behind) i (k.Op (o.Push queue value)) next
      next_later behind (b.Pop p i queue) next = logs_later behind p (invocation_state setup fs store p behind) i (k.Op (o.Pop queue)) next
      next_later behind (b.TxnBegin p i names) next = logs_later behind p (invocation_state setup fs store p behind) i (k.Op (o.Begin names)) next
      next_later behind (b.TxnCommit p i begin names writes) next = (next.0, logs_later behind p (invocation_state setup fs store p behind) i (k.Op (o.Commit names writes)) next.1)
      next_later behind (b.Finish p i outcome) next = logs_later behind p (invocation_state setup fs store p behind) i (k.Done outcome) next
      next_later behind (b.ReadGroup p i keys) next = logs_later behind p (invocation_state setup fs store p behind) i (k.Op (o.ReadGroup keys)) next
      next_later behind _ next = tt

      step_later : (path : List ℕ) (condition : Option Cond) (body : Body) → IsStepRecord setup fs store fences n now path condition body → IsStepRecord setup fs store fences' n' now' path condition body
      step_later path condition body step = record {
        c = step.c;
        within = omega (arith, step.within, le);
        place = step.place ∙ ap (λ xs. place_condition path (invocation_state setup fs store path xs).place) (sym (same step.c step.within));
        next = subst (λ behind. IsNext setup fs store fences' behind now' body) (sym (same step.c step.within)) (next_later (upto step.c now) body step.next);
      }

      kind_later : (condition : Option Cond) (body : Body) (s : Option (List ℕ × ℕ)) → SentOfKind setup fs store fences n now condition body s → SentOfKind setup fs store fences' n' now' condition body s
      kind_later condition body (Some s) kind = step_later s.0 condition body kind
      kind_later condition (b.Submit p f args) None kind = kind
      kind_later condition _ None kind = tt

      pub asked_later : (r : LogRecord Body) → IsSentRecord setup fs store fences n now r → IsSentRecord setup fs store fences' n' now' r
      asked_later r asked = record { own = asked.own; kind = kind_later r.condition r.holds (step_of r.holds) asked.kind }

      pub owed_later : (s : NamedValue) → IsAskedWrite setup fs store fences n now s → IsAskedWrite setup fs store fences' n' now' s
      owed_later s owed = record {
        c = owed.c;
        within = omega (arith, owed.within, le);
        key = owed.key;
        index = owed.index;
        place = owed.place ∙ ap (λ xs. (invocation_state setup fs store s.name.path xs).place) (sym (same owed.c owed.within));
        asks = subst (λ behind. AsksLogged fs store fences' behind s.name.path (invocation_state setup fs store s.name.path behind) owed.index (k.Op (o.Write owed.key s.value))) (sym (same owed.c owed.within))
            (logs_later (upto owed.c now) s.name.path (invocation_state setup fs store s.name.path (upto owed.c now)) owed.index (k.Op (o.Write owed.key s.value)) owed.asks);
      }

      pub following_later : (positions : List ℕ) (a : Attempt) → IsFollowing setup fs store fences n now positions a → IsFollowing setup fs store fences' n' now' positions a
      following_later positions a is = record {
        within = omega (arith, is.within, le);
        seen = is.seen;
        follows = ⊎_elim (λ fresh. inl fresh) (λ f. inr (subst (λ behind. Follows setup fs store fences' behind a) (sym (same a.cursor is.within)) (follows_later (upto a.cursor now) a f))) is.follows;
      }
