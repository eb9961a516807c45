-- The numbers of the rights.
use Rattle.std.proofs.Common.{◌≤◌, arith}
use Rattle.live_log.specs.declared.append_counts.AppendRight.{AppendRight}
use Rattle.live_log.specs.declared.append_counts.AppendRight.TheVariants.{One, Two, Three, Four, Five, Six, Seven, Eight, Nine, Ten, Eleven, Twelve, Thirteen, Fourteen, Fifteen, Sixteen}
use Rattle.live_log.specs.AppendCounts.{number_of}

module _ {J : Type 0} where
  pub number_range : (r : AppendRight J) → (1 ≤ number_of r) × (number_of r ≤ 16)
  number_range (One s) = (omega arith, omega arith)
  number_range (Two s) = (omega arith, omega arith)
  number_range (Three s) = (omega arith, omega arith)
  number_range (Four s) = (omega arith, omega arith)
  number_range (Five s) = (omega arith, omega arith)
  number_range (Six s) = (omega arith, omega arith)
  number_range (Seven s) = (omega arith, omega arith)
  number_range (Eight s) = (omega arith, omega arith)
  number_range (Nine s) = (omega arith, omega arith)
  number_range (Ten s) = (omega arith, omega arith)
  number_range (Eleven s) = (omega arith, omega arith)
  number_range (Twelve s) = (omega arith, omega arith)
  number_range (Thirteen s) = (omega arith, omega arith)
  number_range (Fourteen s) = (omega arith, omega arith)
  number_range (Fifteen s) = (omega arith, omega arith)
  number_range (Sixteen s) = (omega arith, omega arith)
