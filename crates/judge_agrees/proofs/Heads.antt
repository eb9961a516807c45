-- The head of a plan that a text spells is read again, with the word `turns` at its end.
use Rattle.std.proofs.Common.{◌≡◌, true, [], None, refl, ap, ◌∙◌}
use Rattle.std.specs.Prelude.{codes}
use Rattle.std.specs.List.{list_all}
use Rattle.std.specs.Str.{IsUtf8}
use Rattle.std.proofs.lemmas.Str.{IsUtf8-append}
use Rattle.boki_types.specs.declared.plan.Plan.{Plan}
use Rattle.boki_model.specs.Plans.{is_setup}
use Rattle.script_lang.specs.declared.draft.Draft.{Draft}
use Rattle.script_lang.specs.declared.draft.Stage.TheVariants.{Between}
use Rattle.script_lang.specs.Names.{name_fault, fault_or_else}
use Rattle.script_lang.proofs.ProgramsParseBack.{functions_free}
use Rattle.plan_lang.specs.declared.heads.Expected.TheVariants as expected
use Rattle.plan_lang.specs.Printed.{head_text}
use Rattle.plan_lang.proofs.PlansInLimits.{object_test}
use Rattle.plan_lang.proofs.HeadsParseBack.{headed, turns_close, head_parses_back}
use Rattle.plan_lang.proofs.PlansParseBack.{Origin, objects_free}
use Rattle.plan_lang.proofs.PrintedLines.{plain_inline}
use Rattle.plan_lang.proofs.PrintedUtf8.{line_utf8, head_utf8}
use Rattle.plan_lang.proofs.TurnTextsParseBack.{FrontRead}

-- The head of a plan, as the head of a text of turns.
pub front_read : (plan : Plan) → Origin plan → is_setup plan.setup ≡ true → list_all object_test plan.objects ≡ true → FrontRead (record plan { items = [] })
front_read plan o setup objects =
    let fs = plan.program.functions in
    let a = head_parses_back (codes "turns") 1 plan turns_close setup objects o.good o.few in
    let d : Draft = record { functions = fs; line_numbers = a.line_numbers; stage = Between } in
    let turns : IsUtf8 (codes "turns\n") = line_utf8 (codes "turns") (plain_inline (codes "turns") refl) in
    record {
      line = a.line;
      head = headed plan.setup plan.objects a.lines expected.Rest d;
      read = a.same;
      ended = refl;
      free =
          ap (λ z. fault_or_else z (fault_or_else (name_fault fs a.line_numbers) None)) (objects_free [] plan.objects o.lines a.lines 0 0 o.apart)
          ∙ ap (λ z. fault_or_else z None) (functions_free fs fs o.line_numbers a.line_numbers 0 o.free);
      plan_is = refl;
      utf8 = IsUtf8-append (head_text plan) (codes "turns\n") (head_utf8 plan o.clean_objects o.good o.clean_functions) turns;
    }
