-- An attempt is behind the live write of the name that it writes next.
use Rattle.std.proofs.Common.{◌≡◌, ⊎_elim, ◌<◌, ◌≤◌, true, List, ◌∷◌, length, sym, ap, ◌∙◌, arith}
use Rattle.std.proofs.lemmas.Bool.{cases_lt}
use Rattle.boki_types.specs.declared.body.Body.{Body}
use Rattle.boki_types.specs.declared.plan.Setup.{Setup}
use Rattle.boki_types.specs.declared.program.Function.{Function}
use Rattle.boki_model.specs.Live.{Live, upto}
use Rattle.boki_model.specs.Bodies.{step_of}
use Rattle.boki_model.specs.Writes.{Store, is_settled}
use Rattle.boki_model.proofs.Logs.{upto-upto}
use Rattle.boki_machine.specs.Attempt.{Attempt}
use Rattle.boki_machine.specs.Step.{next_write_name}
use Rattle.exactly_once.specs.FurtherLaws.StoreBound.{WritesName}
use Rattle.exactly_once.specs.Induction.Invariant.{World, records, IsFresh, Follows, InvariantHolds}
use Rattle.exactly_once.specs.FurtherLaws.Words.{values_only, IsAmong}
use Rattle.exactly_once.specs.Induction.OpeningHolds.{world_of}
use Rattle.exactly_once.specs.FurtherLaws.StepRecords.{step_seqnums}
use Rattle.exactly_once.proofs.Log.LiveRecords.{live_under, under_tail}
use Rattle.exactly_once.proofs.Invocations.SamePlace.{steps_fewer, fit_upto, place_is}
use Rattle.exactly_once.proofs.Invocations.InitAndCursor.{upto_at}
use Rattle.exactly_once.proofs.Attempts.ActingAttempt.{following}
use Rattle.machine_laws.specs.Settled.{SettledIsBelow}
use Rattle.machine_laws.proofs.Writes.{Behind, behind, settled_by, own_count, write_place}

module _ (setup : Setup) (fs : List Function) (w : World) (holds : InvariantHolds setup fs w) (t : Attempt) (among : IsAmong t w.attempts) where
  abbrev now : List (Live Body)
  now = records w

  abbrev store : Store
  store = values_only w.store

  above : (x : Live Body) → WritesName (next_write_name t) now x → t.cursor < x.seq
  above x write = ⊎_elim (λ fresh. at_first fresh) (λ f. at_place f) (following setup fs w holds t among).follows
    where
      bx : Behind x now
      bx = behind x now write.among

      at_first : IsFresh t → t.cursor < x.seq
      at_first fresh =
          let some = under_tail (x ∷ bx.rest) (length w.log) now (live_under w.log) bx.tail in
          let zero = fresh.cursor in omega (arith, some.1, zero)

      at_place : Follows setup fs store w.store.fences (upto t.cursor now) t → t.cursor < x.seq
      at_place f = ⊎_elim (λ lt. lt) (λ le. absurd (never le)) (cases_lt t.cursor x.seq)
        where
          never : x.seq ≤ t.cursor → ⊥
          never le =
              let cut = upto-upto x.seq t.cursor now le ∙ upto_at x bx.rest (length w.log) now (live_under w.log) bx.tail in
              let fewer = steps_fewer t.path x.seq (upto t.cursor now) in
              let same = ap (λ xs. length (step_seqnums t.path xs)) cut in
              let more = own_count t.path write.index x bx.rest (ap step_of write.is_write) in
              let there = write_place setup fs w holds (next_write_name t) x bx.rest bx.tail write in
              let here = sym (place_is setup fs store t.path (upto t.cursor now) (fit_upto setup fs store t.path t.cursor now holds.sound.fit)) ∙ f.place in
              let no_way : ⊥ = omega (arith, fewer, same, more, there, here) in no_way

  below : is_settled (next_write_name t) w.store.floor now ≡ true → t.cursor < w.store.floor
  below e =
      let by = settled_by (next_write_name t) w.store.floor now e in
      let lt = above by.x by.write in
      let low = by.low in omega (arith, lt, low)

pub settled_is_below : SettledIsBelow
settled_is_below setup fs m t good among =
    record { above = above setup fs (world_of m) good.holds t among; below = below setup fs (world_of m) good.holds t among }
