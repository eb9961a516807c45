-- Where an attempt stands, but for its script: what is kept of an attempt of the machine.
use Rattle.std.specs.Prelude.{ℕ, suc, ◌&&◌, Bool, false, cond, length, Option, Some, None, option_map}
use Rattle.lb_base.specs.declared.value.Seqnum.{Seqnum}
use Rattle.boki_types.specs.declared.line.Life.TheVariants.{Killed}
use Rattle.boki_machine.specs.Attempt.{Attempt}
use Rattle.boki_machine.specs.Step.{seqnum, is_running}
use Rattle.attempt_state.specs.declared.progress.Progress.{Progress}

-- of its answers how many there are; nothing of its function and arguments, which its script has
abbrev pub progress_of : Attempt → Progress
progress_of a = record {
  path = a.path;
  engine = a.engine;
  life = a.life;
  mode = a.mode;
  answered = length a.answers;
  cursor = seqnum a.cursor;
  place = a.place;
  free_writes = a.free_writes;
  waiting = a.waiting;
  stored = a.stored;
  late = a.late;
  transaction = option_map seqnum a.transaction;
}

-- it runs, and waits for a record that it has sent
abbrev pub awaits_record : Progress → Bool
awaits_record p = is_running p.life && p.waiting

abbrev pub adopted_progress : ℕ → Progress → Progress
adopted_progress seq p =
    record p { cursor = seqnum seq; place = suc p.place; free_writes = 0; waiting = false; stored = false; late = false }

abbrev pub answered_progress : Progress → Progress
answered_progress p = record p { answered = suc p.answered }

abbrev pub killed_progress : Progress → Progress
killed_progress p = cond (is_running p.life) (record p { life = Killed }) p

abbrev pub lost_progress : Progress → Progress
lost_progress p = cond (awaits_record p) (record p { waiting = false }) p

abbrev pub begin_of : Option Seqnum → ℕ
begin_of None = 0
begin_of (Some seq) = seq.0
