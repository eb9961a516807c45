-- What a character of a quoted text means for the rest of it.
use Rattle.std.specs.Prelude.{ℕ, true, false, List, [], Option, Some, None, encode_utf8}
use Rattle.lb_base.specs.declared.quoted.Meaning.{Meaning}
use Rattle.lb_base.specs.declared.quoted.Meaning.TheVariants.{Push, Escape, Close, Bad}
use Rattle.lb_base.specs.Quoted.{with_prefix, rest_of_quoted}

-- the quoted text behind a character with this meaning
abbrev pub read_on : Meaning → List ℕ → Option (List ℕ × List ℕ)
read_on (Push c) rest = with_prefix (encode_utf8 c) (rest_of_quoted false rest)
read_on Escape rest = rest_of_quoted true rest
read_on Close rest = Some ([], rest)
read_on Bad rest = None
