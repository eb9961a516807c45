use Rattle.script_lang.proofs.ProgramsValid.{program_is_valid}
use Rattle.script_lang.proofs.laws.parsed_program_is_valid.Goals as goal

pub returns : goal.returns
returns c = program_is_valid
