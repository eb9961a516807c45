-- What a part of a frame gives, beside what is defined: the value or the trap that is defined. Want of memory says nothing.
use Rattle.std.specs.Prelude.{◌≡◌, Result, Ok, Err}
use Rattle.lb_base.specs.declared.value.TrapKind.{TrapKind}
use Rattle.script_run.specs.declared.fault.EvalFault.{EvalFault}
use Rattle.script_run.specs.declared.fault.EvalFault.TheVariants as halt

abbrev pub Computes : {X : Type 0} → Result X TrapKind → Result X EvalFault → Type 0
Computes defined (Ok x) = defined ≡ Ok x
Computes defined (Err (halt.Trap why)) = defined ≡ Err why
Computes defined (Err halt.Memory) = Unit {0}
