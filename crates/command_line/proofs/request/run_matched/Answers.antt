use Rattle.std.proofs.Common.{◌∙◌, Some, None}
use Rattle.clap.specs.Matches.{found_of}
use Rattle.command_line.proofs.Flags.{run_is}
use Rattle.command_line.proofs.request.run_matched.Goals as goal

pub returns-in-Some : goal.returns-in-Some
returns-in-Some c has =
    c.run_with.ensures
    ∙ run_is (found_of c.args.matches.now) c.get_flag-json.result (Some c.in-Some.value.now) has c.get_flag-json.ensures.value c.get_flag-json.ensures.other c.in-Some.ensures

pub returns-in-None : goal.returns-in-None
returns-in-None c has =
    run_is (found_of c.args.matches.now) c.get_flag-json.result None has c.get_flag-json.ensures.value c.get_flag-json.ensures.other c.in-None.ensures
