-- Small changes of a state keep the invariant.
use Rattle.std.proofs.Common.{◌≡◌, inl, inr, ℕ, suc, ◌≤◌, Bool, true, false, cond, List, [], ◌∷◌, length, Some, refl, sym, ap, subst, arith}
use Rattle.std.specs.Prelude.{bytes_eq, max}
use Rattle.std.specs.List.{AllByRecursion}
use Rattle.lb_base.specs.declared.value.Outcome.{Outcome}
use Rattle.boki_types.specs.declared.body.Body.{Body}
use Rattle.boki_types.specs.declared.plan.Setup.{Setup}
use Rattle.boki_types.specs.declared.program.Function.{Function}
use Rattle.boki_model.specs.Live.{LogRecord, Live, meets_condition, append_if_live, live, upto}
use Rattle.std.specs.Option.{option_or}
use Rattle.boki_model.specs.Modes.{result_of, finish_of}
use Rattle.boki_model.specs.Floor.{floor}
use Rattle.boki_model.specs.Writes.{KeyFence, fence, raise_fences}
use Rattle.boki_model.proofs.Logs.{earlier_stays}
use Rattle.boki_machine.specs.Attempt.{Attempt, new_attempt}
use Rattle.exactly_once.specs.Induction.SoundLogs.{IsSound}
use Rattle.exactly_once.specs.Induction.Invariant.{World, records, AllFenced, IsSentRecord, IsAskedWrite, IsFollowing, InvariantHolds}
use Rattle.exactly_once.specs.FurtherLaws.Words.{values_only, IsAmong}
use Rattle.exactly_once.specs.Induction.MicroSteps.{with_fences_raised, with_floor_lifted, with_record_sent, with_record_ordered, with_attempts, with_positions, StepsKeep, MicroStepsKeepInvariant}
use Rattle.exactly_once.proofs.Log.ListElements.{each_weaker}
use Rattle.exactly_once.proofs.Invariant.StaysLater.{all_fenced_later, asked_later, owed_later, following_later}

-- Fences rise.

fence_raised : (keys : List (List ℕ)) (at : ℕ) (fences : List KeyFence) (key : List ℕ) → fence key fences ≤ fence key (raise_fences keys at fences)
fence_raised [] at fences key = omega arith
fence_raised (k ∷ keys) at fences key = by_key (bytes_eq key k) (fence_raised keys at fences key)
  where
    by_key : (t : Bool) → fence key fences ≤ fence key (raise_fences keys at fences) → fence key fences ≤ cond t (max at (fence key (raise_fences keys at fences))) (fence key (raise_fences keys at fences))
    by_key true le = omega arith
    by_key false le = le

-- The ordered list grows.

results_joined : (n : ℕ) (r : LogRecord Body) (xs : List (Live Body)) (q : List ℕ) (o : Outcome) → result_of q xs ≡ Some o → result_of q (append_if_live n r xs) ≡ Some o
results_joined n r xs q o is =
    elim (meets_condition r.condition xs) as (λ b. result_of q (cond b (record { seq = n; tags = r.tags; holds = r.holds } ∷ xs) xs) ≡ Some o)
    [ true ↦ ap (λ before. option_or before (finish_of q r.holds)) is | false ↦ is ]

floor_joined : (n : ℕ) (r : LogRecord Body) (xs : List (Live Body)) → floor xs ≤ floor (append_if_live n r xs)
floor_joined n r xs =
    elim (meets_condition r.condition xs) as (λ b. floor xs ≤ floor (cond b (record { seq = n; tags = r.tags; holds = r.holds } ∷ xs) xs))
    [ true ↦ omega arith | false ↦ omega arith ]

among_more : {A : Type 0} (x y : A) (ys : List A) → IsAmong x ys → IsAmong x (y ∷ ys)
among_more x y ys is = inr is

module _ (setup : Setup) (fs : List Function) (w : World) (holds : InvariantHolds setup fs w) where
  same_upto : (c : ℕ) → c ≤ length w.log → upto c (records w) ≡ upto c (records w)
  same_upto c le = refl

  raise_keeps : (keys : List (List ℕ)) (at : ℕ) → InvariantHolds setup fs (with_fences_raised keys at w)
  raise_keeps keys at =
      let n = length w.log in
      let old = w.store.fences in
      let new = raise_fences keys at old in
      let grow = fence_raised keys at old in
      record {
        sound = holds.sound;
        fenced = all_fenced_later old new grow (values_only w.store) (records w) holds.fenced;
        sent = each_weaker (IsSentRecord setup fs (values_only w.store) old n (records w)) (IsSentRecord setup fs (values_only w.store) new n (records w))
            (asked_later old new grow setup fs (values_only w.store) n n (omega arith) (records w) (records w) same_upto (λ q r is. is)) w.sent holds.sent;
        ordered = holds.ordered;
        owed = each_weaker (IsAskedWrite setup fs (values_only w.store) old n (records w)) (IsAskedWrite setup fs (values_only w.store) new n (records w))
            (owed_later old new grow setup fs (values_only w.store) n n (omega arith) (records w) (records w) same_upto (λ q r is. is)) w.store.named holds.owed;
        attempts = each_weaker (IsFollowing setup fs (values_only w.store) old n (records w) w.positions) (IsFollowing setup fs (values_only w.store) new n (records w) w.positions)
            (following_later old new grow setup fs (values_only w.store) n n (omega arith) (records w) (records w) same_upto (λ q r is. is) w.positions) w.attempts holds.attempts;
        floor_is = holds.floor_is;
        positions = holds.positions;
      }

  lift_keeps : (n : ℕ) → n ≤ floor (records w) → InvariantHolds setup fs (with_floor_lifted n w)
  lift_keeps n le = record {
    sound = holds.sound;
    fenced = holds.fenced;
    sent = holds.sent;
    ordered = holds.ordered;
    owed = holds.owed;
    attempts = holds.attempts;
    floor_is = let h = holds.floor_is in omega (arith, le, h);
    positions = holds.positions;
  }

  send_keeps : (r : LogRecord Body) → IsSentRecord setup fs (values_only w.store) w.store.fences (length w.log) (records w) r → InvariantHolds setup fs (with_record_sent r w)
  send_keeps r asked = record {
    sound = holds.sound;
    fenced = holds.fenced;
    sent = (asked, holds.sent);
    ordered = each_weaker (λ x. IsAmong x w.sent) (λ x. IsAmong x (r ∷ w.sent)) (λ x is. inr is) w.log holds.ordered;
    owed = holds.owed;
    attempts = holds.attempts;
    floor_is = holds.floor_is;
    positions = holds.positions;
  }

  move_keeps : (attempts : List Attempt) → AllByRecursion (IsFollowing setup fs (values_only w.store) w.store.fences (length w.log) (records w) w.positions) attempts → InvariantHolds setup fs (with_attempts attempts w)
  move_keeps attempts follow = record {
    sound = holds.sound;
    fenced = holds.fenced;
    sent = holds.sent;
    ordered = holds.ordered;
    owed = holds.owed;
    attempts = follow;
    floor_is = holds.floor_is;
    positions = holds.positions;
  }

  start_keeps : (path : List ℕ) (engine : ℕ) → InvariantHolds setup fs (with_attempts (new_attempt path engine ∷ w.attempts) w)
  start_keeps path engine =
      move_keeps (new_attempt path engine ∷ w.attempts)
      (record { within = omega arith; seen = omega arith; follows = inl (record { place = refl; cursor = refl; answers = refl; free_writes = refl; stored = refl; late = refl; transaction = refl }) }, holds.attempts)

  catch_keeps : (positions : List ℕ) → AllByRecursion (λ p. p ≤ length w.log) positions → AllByRecursion (IsFollowing setup fs (values_only w.store) w.store.fences (length w.log) (records w) positions) w.attempts → InvariantHolds setup fs (with_positions positions w)
  catch_keeps positions within follow = record {
    sound = holds.sound;
    fenced = holds.fenced;
    sent = holds.sent;
    ordered = holds.ordered;
    owed = holds.owed;
    attempts = follow;
    floor_is = holds.floor_is;
    positions = within;
  }

  order_keeps : (r : LogRecord Body) → IsAmong r w.sent → IsSound setup fs (values_only w.store) (records (with_record_ordered r w)) → AllFenced (values_only w.store) w.store.fences (records (with_record_ordered r w)) → InvariantHolds setup fs (with_record_ordered r w)
  order_keeps r among sound fenced =
      let n = length w.log in
      let fences = w.store.fences in
      let now = live (r ∷ w.log) in
      let stays = earlier_stays r w.log in
      let results = results_joined (suc n) r (records w) in
      record {
        sound = sound;
        fenced = fenced;
        sent = each_weaker (IsSentRecord setup fs (values_only w.store) fences n (records w)) (IsSentRecord setup fs (values_only w.store) fences (suc n) now)
            (asked_later fences fences (λ key. omega arith) setup fs (values_only w.store) n (suc n) (omega arith) (records w) now stays results) w.sent holds.sent;
        ordered = (among, holds.ordered);
        owed = each_weaker (IsAskedWrite setup fs (values_only w.store) fences n (records w)) (IsAskedWrite setup fs (values_only w.store) fences (suc n) now)
            (owed_later fences fences (λ key. omega arith) setup fs (values_only w.store) n (suc n) (omega arith) (records w) now stays results) w.store.named holds.owed;
        attempts = each_weaker (IsFollowing setup fs (values_only w.store) fences n (records w) w.positions) (IsFollowing setup fs (values_only w.store) fences (suc n) now w.positions)
            (following_later fences fences (λ key. omega arith) setup fs (values_only w.store) n (suc n) (omega arith) (records w) now stays results w.positions) w.attempts holds.attempts;
        floor_is = let h = holds.floor_is in let f = floor_joined (suc n) r (records w) in omega (arith, h, f);
        positions = each_weaker (λ p. p ≤ n) (λ p. p ≤ suc n) (λ p le. omega (arith, le)) w.positions holds.positions;
      }

  dead_keeps : (r : LogRecord Body) → IsAmong r w.sent → meets_condition r.condition (records w) ≡ false → InvariantHolds setup fs (with_record_ordered r w)
  dead_keeps r among dead =
      let same : records w ≡ records (with_record_ordered r w) = sym (ap (λ b. cond b (record { seq = suc (length w.log); tags = r.tags; holds = r.holds } ∷ records w) (records w)) dead) in
      order_keeps r among (subst (IsSound setup fs (values_only w.store)) same holds.sound) (subst (AllFenced (values_only w.store) w.store.fences) same holds.fenced)

  pub steps_keep : StepsKeep setup fs w
  steps_keep = record {
    raise = raise_keeps;
    lift = lift_keeps;
    send = send_keeps;
    move = move_keeps;
    start = start_keeps;
    catch = catch_keeps;
    order_dead = dead_keeps;
    order = order_keeps;
  }

pub micro_steps_keep : MicroStepsKeepInvariant
micro_steps_keep setup fs w holds = steps_keep setup fs w holds
