use Rattle.std.proofs.Common.{◌∙◌, Some, None}
use Rattle.clap.specs.Matches.{found_of}
use Rattle.command_line.proofs.Flags.{make_is}
use Rattle.command_line.proofs.request.make_matched.Goals as goal

pub returns-in_err-get_str : goal.returns-in_err-get_str
returns-in_err-get_str c has =
    c.from_residual.ensures
    ∙ make_is (found_of c.args.matches.now) c.get_flag-plan.result None has c.get_flag-plan.ensures.value c.get_flag-plan.ensures.other c.in_err-get_str.ensures

pub returns : goal.returns
returns c has =
    c.make_request.ensures
    ∙ make_is (found_of c.args.matches.now) c.get_flag-plan.result (Some c.in_ok-get_str.field-0.now) has c.get_flag-plan.ensures.value c.get_flag-plan.ensures.other c.in_ok-get_str.ensures
