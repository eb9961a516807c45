-- What an event of an engine needs: that the engine has its view of switches.
use Rattle.std.proofs.Common.{◌≡◌, ℕ, ◌-◌, ◌≤◌, ◌<◌, true, leb, List, length, subst, arith}
use Rattle.std.proofs.lemmas.Bool.{and_parts, leb-true}
use Rattle.boki_model.specs.Plans.{is_from_one_to}
use Rattle.boki_types.specs.declared.plan.Setup.{Setup}
use Rattle.boki_types.specs.declared.program.Function.{Function}
use Rattle.boki_machine.specs.Machine.{Machine}
use Rattle.book_api.specs.Books.{HasEngine}
use Rattle.flow_parts.specs.declared.parts.Parts.{Parts}
use Rattle.cluster_events.specs.Machines.{PartsAreOf}
use Rattle.cluster_events.proofs.Machines.{has_engine}

pub has_slot : (setup : Setup) (fs : List Function) (m : Machine) (parts : Parts) → PartsAreOf setup fs m parts → (engine : ℕ) → HasEngine engine parts.book → engine - 1 < length parts.switches.items
has_slot setup fs m parts are engine has =
    let most : engine ≤ setup.engines = subst (λ n. engine ≤ n) are.stand.sizes.engines has.1 in
    let slots : length parts.switches.items ≡ setup.engines = are.stand.sizes.switches in
    omega (arith, has.0, most, slots)

module _ (setup : Setup) (fs : List Function) (m : Machine) (parts : Parts) (are : PartsAreOf setup fs m parts) (engine : ℕ) (ok : is_from_one_to setup.engines engine ≡ true) where
  pub from_one : 1 ≤ engine
  from_one = leb-true 1 engine (and_parts (leb 1 engine) (leb engine setup.engines) ok).0

  pub engine_there : HasEngine engine parts.book
  engine_there = has_engine setup fs m parts engine are from_one (leb-true engine setup.engines (and_parts (leb 1 engine) (leb engine setup.engines) ok).1)

  pub slot_there : engine - 1 < length parts.switches.items
  slot_there = has_slot setup fs m parts are engine engine_there
