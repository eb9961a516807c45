-- Logged writes are kept.
use Rattle.std.proofs.Common.{◌≡◌, ℕ, ◌≤◌, Bool, true, false, List, ◌∷◌, refl, ap, subst, arith}
use Rattle.boki_types.specs.declared.body.Body.{Body}
use Rattle.boki_types.specs.declared.body.Body.TheVariants as b
use Rattle.boki_types.specs.declared.plan.Setup.{Setup}
use Rattle.boki_types.specs.declared.program.Function.{Function}
use Rattle.boki_types.specs.declared.store.Name.{Name}
use Rattle.boki_model.specs.Live.{Live}
use Rattle.boki_model.specs.Writes.{is_settled}
use Rattle.boki_machine.specs.Machine.{Machine, live_records, position, apply_event}
use Rattle.exactly_once.specs.Induction.EventKeeps.{MachineHolds, EventsKeepInvariant}
use Rattle.exactly_once.specs.FurtherLaws.StoreBound.{WritesName}
use Rattle.exactly_once.specs.Induction.Invariant.{World, records, InvariantHolds}
use Rattle.exactly_once.specs.FurtherLaws.Words.{values_only}
use Rattle.exactly_once.specs.Induction.OpeningHolds.{world_of}
use Rattle.exactly_once.specs.Induction.SoundLogs.{MayFollow}
use Rattle.exactly_once.proofs.Log.HistoryTails.{Tail, here}
use Rattle.exactly_once.proofs.Invocations.InitAndCursor.{upto_tail, fit_tail}
use Rattle.machine_laws.specs.Kept.{WriteHasValue, WritesHaveValues, WritesAreKept, HoldingKeepsWrites, EventsKeepWrites}
use Rattle.machine_laws.proofs.Writes.{behind, among_tail, SettledBy, settled_by, one_write}

-- where no two writes have one name, that of one at or above a floor isn't settled there
above_unsettled : (xs : List (Live Body)) → ((name : Name) (x y : Live Body) → WritesName name xs x → WritesName name xs y → x ≡ y) → (name : Name) (x : Live Body) (floor : ℕ) → WritesName name xs x → floor ≤ x.seq → is_settled name floor xs ≡ false
above_unsettled xs once name x floor write le = at (is_settled name floor xs) refl
  where
    at : (t : Bool) → is_settled name floor xs ≡ t → t ≡ false
    at false e = refl
    at true e =
        let by : SettledBy name floor xs = settled_by name floor xs e in
        let same = ap (λ (x : Live Body). x.seq) (once name x by.x write by.write) in
        let low = by.low in
        absurd (let no_way : ⊥ = omega (arith, same, low, le) in no_way)

module _ (setup : Setup) (fs : List Function) (w : World) (holds : InvariantHolds setup fs w) where
  -- of a part of the list
  kept_in : (xs : List (Live Body)) → Tail xs (records w) → WritesHaveValues w.store.named xs
  kept_in xs t = record { valued = valued; once = once; unsettled = above_unsettled xs once }
    where
      whole : (name : Name) (x : Live Body) → WritesName name xs x → WritesName name (records w) x
      whole name x write =
          record { among = among_tail x xs (records w) t write.among; index = write.index; key = write.key; here = write.here; is_write = write.is_write }

      once : (name : Name) (x y : Live Body) → WritesName name xs x → WritesName name xs y → x ≡ y
      once name x y first second = one_write setup fs w holds name x y (whole name x first) (whole name y second)

      valued : (name : Name) (x : Live Body) (write : WritesName name xs x) → WriteHasValue w.store.named name write.here
      valued name x write =
          let bx = behind x xs write.among in
          let fit = fit_tail setup fs (values_only w.store) (x ∷ bx.rest) xs bx.tail (fit_tail setup fs (values_only w.store) xs (records w) t holds.sound.fit) in
          let fits : MayFollow setup fs (values_only w.store) bx.rest (b.Write name.path write.index name.place write.key write.here) = subst (MayFollow setup fs (values_only w.store) bx.rest) write.is_write fit.0 in
          record { value = fits.value; kept = fits.kept }

kept_is : (setup : Setup) (fs : List Function) (m : Machine) → MachineHolds setup fs m → WritesAreKept m
kept_is setup fs m good = record {
  whole = kept_in setup fs (world_of m) good.holds (live_records m) here;
  seen = λ engine. kept_in setup fs (world_of m) good.holds _ (upto_tail (position m engine) (live_records m));
}

pub holding_keeps_writes : HoldingKeepsWrites
holding_keeps_writes = kept_is

pub events_keep_writes : EventsKeepInvariant → EventsKeepWrites
events_keep_writes keep setup fs m event ok good = kept_is setup fs (apply_event setup fs m event).machine (keep setup fs m event ok good)
