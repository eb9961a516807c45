use Rattle.script_lang.proofs.ProgramsParseBack.{program_parses_back}
use Rattle.script_lang.proofs.laws.printed_program_parses_back.Goals as goal

pub returns : goal.returns
returns c = program_parses_back
