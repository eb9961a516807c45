use Rattle.exactly_once.proofs.Simulation.SoundLogsRun.{sound_runs}
use Rattle.exactly_once.proofs.sound_runs.Goals as goal

pub returns : goal.returns
returns c = sound_runs
