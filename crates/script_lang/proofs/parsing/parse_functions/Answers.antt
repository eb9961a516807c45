use Rattle.std.proofs.Common.{◌≡◌, ℕ, true, List, Ok, Err, Result, IfOk}
use Rattle.boki_types.specs.declared.program.Program.{Program}
use Rattle.boki_model.specs.Plans.{is_program}
use Rattle.line_text.specs.declared.fault.TextFault.{TextFault}
use Rattle.line_text.specs.Faults.{Gives}
use Rattle.script_lang.specs.Texts.{program_of}
use Rattle.script_lang.proofs.ProgramsValid.{program_is_valid}
use Rattle.script_lang.proofs.parsing.parse_functions.Goals as goal

is_one : (first : ℕ) (text : List ℕ) (r : Result Program TextFault) → Gives r (program_of first text) → IfOk r (λ p. is_program p ≡ true)
is_one first text (Ok p) h = program_is_valid first text p h
is_one first text (Err e) h = tt

pub returns-clause-program : goal.returns-clause-program
returns-clause-program c = is_one c.args.first c.args.text.now _ c.read_functions.ensures
