use Rattle.std.proofs.Common.{ap, sym, ◌∙◌}
use Rattle.plan_lang.specs.Turns.{turns_of}
use Rattle.judge_call.proofs.Parsed.{can_be_done}
use Rattle.judge_call.proofs.turns.judged_text.Goals as goal

pub report_text_of-requires : goal.report_text_of-requires
report_text_of-requires c = can_be_done c.args.text.items c.in_ok-turns.field-0 (ap turns_of (sym c.as_slice.ensures.value) ∙ c.in_ok-turns.ensures)
