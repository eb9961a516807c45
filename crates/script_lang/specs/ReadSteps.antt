-- What calls that read an expression leave behind them.
use Rattle.std.specs.Prelude.{◌≡◌, List, Option, Some, None}
use Rattle.boki_types.specs.declared.expr.Expr.{Expr}
use Rattle.line_text.specs.declared.token.Token.{Token}
use Rattle.line_text.specs.declared.checked.Checked.{Checked}
use Rattle.script_lang.specs.declared.parts.Part.{Part}
use Rattle.script_lang.specs.declared.stack.StackItem.{StackItem}
use Rattle.script_lang.specs.declared.stack.ExprState.{ExprState}
use Rattle.script_lang.specs.declared.expressions.ReadStep.{ReadStep}
use Rattle.script_lang.specs.declared.expressions.ReadStep.TheVariants.{Continue, Done, Invalid}
use Rattle.script_lang.specs.declared.expressions.Closing.{Closing}
use Rattle.script_lang.specs.declared.expressions.Closing.TheVariants as c
use Rattle.script_lang.specs.Expressions.{read_from}

-- a stack, and what may come next: nothing where the token didn't fit
abbrev pub with_stack : List StackItem → Option ExprState → Option (List StackItem × ExprState)
with_stack s None = None
with_stack s (Some p) = Some (s, p)

-- From these tokens and this stack on, a step gives what was to be found.
abbrev pub ReadsOn : List Token → List StackItem → ReadStep → Option (Checked Expr × List Token) → Type 0
ReadsOn ts s (Continue p) found = read_from ts s p ≡ found
ReadsOn ts s (Done x) found = Some (x, ts) ≡ found
ReadsOn ts s Invalid found = None ≡ found

abbrev pub Continues : ReadStep → Type 0
Continues (Continue p) = Unit {0}
Continues (Done x) = ⊥
Continues Invalid = ⊥

-- What a closing parenthesis closes: the innermost one, none while a part is read, or none.
abbrev pub Closes : List StackItem → Closing → Option (List StackItem × Part) → Option Part → Type 0
Closes s (c.Inner x) closed finish = Some (s, x) ≡ closed
Closes s (c.Outer x) closed finish = (None ≡ closed) × (Some x ≡ finish)
Closes s c.Invalid closed finish = (None ≡ closed) × (None ≡ finish)
