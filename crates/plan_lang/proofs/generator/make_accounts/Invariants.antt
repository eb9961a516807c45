use Rattle.std.proofs.Common.{◌≡◌}
use Rattle.plan_lang.specs.Generated.{accounts}
use Rattle.plan_lang.proofs.generator.make_accounts.Given as goal

abbrev pub invariant-digits : goal.invariant-digits
invariant-digits l = l.objects ≡ accounts l.digit
