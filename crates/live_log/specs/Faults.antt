-- What comes back where a log was not closed.
use Rattle.std.specs.Prelude.{List, length}
use Rattle.live_log.specs.declared.log.CloseFault.{CloseFault}
use Rattle.live_log.specs.declared.log.CloseFault.TheVariants.{Memory, Refused, Ahead}
use Rattle.live_log.specs.Engines.{Engine}
use Rattle.live_log.specs.Closing.{IsLater, Pointwise, IsLeastAhead, EachCounted}

module _ {J : Type 0} where
  -- the engines are as they were or later; where some are ahead, the one with the least number is named, and the list comes back
  abbrev pub ComesBack : List Engine → CloseFault J → Type 0
  ComesBack old (Memory log engines) = Pointwise IsLater old engines.items
  ComesBack old (Refused log engines) = Pointwise IsLater old engines.items
  ComesBack old (Ahead engine seen list engines) = Pointwise IsLater old engines.items × IsLeastAhead (length list) engines.items engine seen × EachCounted list engines.items

  abbrev pub IsRefused : CloseFault J → Type 0
  IsRefused (Refused log engines) = Unit {0}
  IsRefused _ = ⊥
