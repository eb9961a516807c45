use Rattle.plan_lang.proofs.EventsInRange.{read_entry_is_event}
use Rattle.plan_lang.proofs.laws.parsed_event_is_valid.Goals as goal

pub returns : goal.returns
returns c = read_entry_is_event
