-- The invariant holds of a list that workers wrote.
use Rattle.std.proofs.Common.{◌≡◌, ◌⊎◌, inl, ⊎_elim, ℕ, zero, suc, ◌-◌, ◌<◌, ◌≤◌, true, List, [], ◌∷◌, length, Some, refl, sym, subst, arith}
use Rattle.std.specs.Prelude.{slice_index, replicate}
use Rattle.std.specs.List.{AllByRecursion}
use Rattle.lb_base.specs.declared.value.Value.{Value}
use Rattle.lb_base.specs.declared.value.Mode.TheVariants.{R}
use Rattle.boki_types.specs.declared.body.Body.{Body}
use Rattle.boki_types.specs.declared.line.Life.{Life}
use Rattle.boki_types.specs.declared.line.Life.TheVariants.{Running, Over, Stopped, Killed}
use Rattle.boki_types.specs.declared.program.Function.{Function}
use Rattle.boki_model.specs.Live.{LogRecord, live, upto}
use Rattle.boki_model.specs.Writes.{Store, initial_store}
use Rattle.boki_machine.specs.Attempt.{Attempt}
use Rattle.exactly_once.specs.Induction.Invariant.{IsSentRecord, SeesCursor, IsFollowing, position_of, InvariantHolds}
use Rattle.exactly_once.specs.Induction.StepKeeps.{with_sent}
use Rattle.exactly_once.proofs.Invariant.MicroSteps.{steps_keep}
use Rattle.exactly_once.proofs.Invariant.OrderedRecord.{orders_keep}
use Rattle.exactly_once.proofs.Simulation.SoundLogsRun.{sound_runs}
use Rattle.flow_model.specs.Step.{FlowMove, flow_step}
use Rattle.flow_model.specs.Written.{IsReachable, starts, steps, IsSentByStep, IsSubmission, AllWritten}
use Rattle.flow_once.specs.Laws.{flow_setup, list_world, WrittenHolds, WrittenRuns}
use Rattle.flow_once.proofs.Steps.{is_quiet, SendsQuiet, quiet_live, Right, step_right}

-- Every engine is at one position.

same_index : (n i p : ℕ) → i < n → slice_index (replicate n p) i ≡ p
same_index zero i p lt = absurd (omega (arith, lt))
same_index (suc n) zero p lt = refl
same_index (suc n) (suc i) p lt = same_index n i p (omega (arith, lt))

abbrev all_at : ℕ → ℕ → List ℕ
all_at engine p = replicate (suc engine) p

all_at_is : (engine p : ℕ) → position_of (all_at engine p) engine ≡ p
all_at_is engine p = same_index (suc engine) (engine - 1) p (omega arith)

all_within : (k p n : ℕ) → p ≤ n → AllByRecursion (λ q. q ≤ n) (replicate k p)
all_within zero p n le = tt
all_within (suc k) p n le = (le, all_within k p n le)

-- Over a list that it holds of.
module _ (fs : List Function) (objects : List (List ℕ × Value)) (log : List (LogRecord Body)) (holds : InvariantHolds flow_setup fs (list_world objects log)) (quiet : AllByRecursion (λ r. is_quiet r.holds ≡ true) log) where
  abbrev store : Store
  store = initial_store objects

  abbrev Follows : List ℕ → Attempt → Type 0
  Follows positions t = IsFollowing flow_setup fs store [] (length log) (live log) positions t

  -- where steps that see up to p bring an attempt
  record Stands (p : ℕ) (t : Attempt) : Type 0 where
    pub follows : Follows (all_at t.engine p) t
    pub mode : t.mode ≡ R

  alone : (t : Attempt) (positions : List ℕ) → AllByRecursion (λ p. p ≤ length log) positions → Follows positions t → InvariantHolds flow_setup fs (record (list_world objects log) { attempts = t ∷ []; positions = positions })
  alone t positions within follows = record {
    sound = holds.sound;
    fenced = holds.fenced;
    sent = holds.sent;
    ordered = holds.ordered;
    owed = holds.owed;
    attempts = (follows, tt);
    floor_is = holds.floor_is;
    positions = within;
  }

  seen_later : (c engine p q : ℕ) (life : Life) → p ≤ q → SeesCursor c (position_of (all_at engine p) engine) life → SeesCursor c (position_of (all_at engine q) engine) life
  seen_later c engine p q Running le seen = let was = all_at_is engine p in let now = all_at_is engine q in omega (arith, le, seen, was, now)
  seen_later c engine p q Over le seen = tt
  seen_later c engine p q Stopped le seen = tt
  seen_later c engine p q Killed le seen = tt

  pub record IsGood (r : LogRecord Body) : Type 0 where
    pub asked : IsSentRecord flow_setup fs store [] (length log) (live log) r
    pub no_switch : is_quiet r.holds ≡ true

  -- the next step, at a position that isn't lower
  module _ (p : ℕ) (t : Attempt) (stands : Stands p t) (q at : ℕ) (later : p ≤ q) (within : q ≤ length log) where
    abbrev positions : List ℕ
    positions = all_at t.engine q

    world_holds : InvariantHolds flow_setup fs (record (list_world objects log) { attempts = t ∷ []; positions = positions })
    world_holds =
        alone t positions (all_within (suc t.engine) q (length log) within)
        (record { within = stands.follows.within; seen = seen_later t.cursor t.engine p q t.life later stands.follows.seen; follows = stands.follows.follows })

    abbrev Does : FlowMove → Type 0
    Does move = Right fs objects log log (t ∷ []) positions world_holds (quiet_live log quiet) t (inl refl) stands.mode move

    does : Does (flow_step fs objects (upto q (live log)) at t)
    does =
        subst (λ q. Does (flow_step fs objects (upto q (live log)) at t)) (all_at_is t.engine q)
        (step_right fs objects log log (t ∷ []) positions world_holds (quiet_live log quiet) t (inl refl) stands.mode at)

    stands_then : Stands q (flow_step fs objects (upto q (live log)) at t).attempt
    stands_then = record { follows = subst (λ e. Follows (all_at e q) (flow_step fs objects (upto q (live log)) at t).attempt) (sym does.engine_then) does.follows_then; mode = does.mode_then }

    -- what it sends was asked
    sent_then : (r : LogRecord Body) → (flow_step fs objects (upto q (live log)) at t).sends ≡ Some r → IsGood r
    sent_then r is = record {
      asked = (subst (λ o. InvariantHolds flow_setup fs (record (list_world objects log) { attempts = t ∷ []; positions = positions; sent = with_sent o log })) is does.holds_then).sent.0;
      no_switch = subst SendsQuiet is does.quiet_then;
    }

  comes : (p : ℕ) (t : Attempt) → IsReachable fs objects (live log) p t → p ≤ length log → Stands p t
  comes _ _ (starts path worker) within = record {
    follows = record { within = omega arith; seen = omega arith; follows = inl (record { place = refl; cursor = refl; answers = refl; free_writes = refl; stored = refl; late = refl; transaction = refl }) };
    mode = refl;
  }
  comes _ _ (steps {p} {t} q at c later) within = stands_then p t (comes p t c (omega (arith, later, within))) q at later within

  submitted : (r : LogRecord Body) → IsSubmission r → IsGood r
  submitted r s = subst IsGood (sym s.entry) (record { asked = record { own = record { tags = refl; paths = rw s.in_range }; kind = refl }; no_switch = refl })

  sent : (r : LogRecord Body) → IsSentByStep fs objects (live log) (length log) r → IsGood r
  sent r s = sent_then s.before s.attempt (comes s.before s.attempt s.comes (let le = s.later in let h = s.within in omega (arith, le, h))) s.position s.at s.later s.within r s.sends

  pub good : (r : LogRecord Body) → IsSubmission r ⊎ IsSentByStep fs objects (live log) (length log) r → IsGood r
  good r is = ⊎_elim (submitted r) (sent r) is

-- Record by record.

pub record HoldsQuietly (fs : List Function) (objects : List (List ℕ × Value)) (log : List (LogRecord Body)) : Type 0 where
  pub holds : InvariantHolds flow_setup fs (list_world objects log)
  pub quiet : AllByRecursion (λ r. is_quiet r.holds ≡ true) log

opens : (fs : List Function) (objects : List (List ℕ × Value)) → InvariantHolds flow_setup fs (list_world objects [])
opens fs objects = record { sound = record { fit = tt; placed = tt }; fenced = tt; sent = tt; ordered = tt; owed = tt; attempts = tt; floor_is = omega arith; positions = tt }

pub all_good : (fs : List Function) (objects : List (List ℕ × Value)) (log : List (LogRecord Body)) → AllWritten fs objects log → HoldsQuietly fs objects log
all_good fs objects [] all = record { holds = opens fs objects; quiet = tt }
all_good fs objects (r ∷ log) all =
    let h = all_good fs objects log all.1 in
    let g = good fs objects log h.holds h.quiet r all.0 in
    record {
      holds = orders_keep flow_setup fs (record (list_world objects log) { sent = r ∷ log }) r ((steps_keep flow_setup fs (list_world objects log) h.holds).send r g.asked) (inl refl);
      quiet = (g.no_switch, h.quiet);
    }

pub written_holds : WrittenHolds
written_holds fs objects log all = (all_good fs objects log all).holds

pub written_runs : WrittenRuns
written_runs fs objects log all = sound_runs flow_setup fs (initial_store objects) log (all_good fs objects log all).holds.sound
