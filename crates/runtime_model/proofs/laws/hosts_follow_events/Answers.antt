use Rattle.runtime_model.proofs.HostEvents.{hosts_follow_events}
use Rattle.runtime_model.proofs.laws.hosts_follow_events.Goals as goal

pub returns : goal.returns
returns c = hosts_follow_events
