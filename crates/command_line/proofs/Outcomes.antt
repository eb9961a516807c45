-- What stands between the words and the request: the faults that `clap` finds, and the subcommand with its matches.
use Rattle.std.proofs.Common.{◌≡◌, true, true≢false, sym, List, [], ◌∷◌, Option, None}
use Rattle.clap.specs.Kinds.{IsAmong, Kinds}
use Rattle.clap.specs.Walk.{Row, Text}
use Rattle.clap.specs.declared.error.kind.ErrorKind.{ErrorKind}
use Rattle.command_line.specs.Parser.{HasFlagIn, answer}
use Rattle.command_line.specs.declared.request.Request.{Request}
use Rattle.command_line.proofs.Leaf.{fails}

-- where there is no fault the subcommand's matches ask for r, and where there is one r is none
abbrev pub Reads : Kinds → Option (Text × List Row) → Option Request → Type 0
Reads [] met r = HasFlagIn met × (answer met ≡ r)
Reads (k ∷ ks) met r = None ≡ r

pub failed : (ks : Kinds) (met : Option (Text × List Row)) (r : Option Request) → fails ks ≡ true → None ≡ r → Reads ks met r
failed [] met r e none = absurd (true≢false (sym e))
failed (k ∷ ks) met r e none = none

pub among_fails : (k : ErrorKind) (ks : Kinds) (met : Option (Text × List Row)) (r : Option Request) → IsAmong k ks → Reads ks met r → None ≡ r
among_fails k [] met r h reads = absurd h
among_fails k (x ∷ xs) met r h reads = reads
