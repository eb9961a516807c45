use Rattle.plan_lang.proofs.ParsedBackEventsValid.{parsed_back_event_is_same}
use Rattle.plan_lang.proofs.laws.event_parsed_back_is_valid.Goals as goal

pub returns : goal.returns
returns c = parsed_back_event_is_same
