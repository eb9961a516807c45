use Rattle.plan_lang.proofs.EventsParseBack.{printed_event}
use Rattle.plan_lang.proofs.laws.printed_event_parses_back.Goals as goal

pub returns : goal.returns
returns c = printed_event
