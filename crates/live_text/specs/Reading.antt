-- The live text that a text spells, line by line.
use Rattle.std.specs.Prelude.{ℕ, List, [], ◌∷◌, ◌++◌, length, Option, Some, None, option_map, Result, Ok, Err, nat_lt, if◌then◌else◌, bytes_eq, codes}
use Rattle.boki_types.specs.declared.kind.Kind.{Kind}
use Rattle.boki_types.specs.declared.kind.Kind.TheVariants as kind
use Rattle.line_text.specs.declared.checked.Checked.{Checked}
use Rattle.line_text.specs.declared.fault.TextFault.{TextFault}
use Rattle.line_text.specs.declared.token.Token.{Token}
use Rattle.line_text.specs.declared.token.Token.TheVariants as t
use Rattle.line_text.specs.Checks.{map_checked, both_checked, result_of_checked}
use Rattle.line_text.specs.Faults.{refused_at}
use Rattle.line_text.specs.Fields.{number_at, u64_at, short_text_at, tag_at, tags_at}
use Rattle.line_text.specs.Readers.{◌>>=◌, if_at_end}
use Rattle.line_text.specs.Texts.{ReadsLine, scan_lines}
use Rattle.live_text.specs.declared.draft.LiveDraft.{LiveDraft}
use Rattle.live_text.specs.declared.text.LiveOp.{LiveOp}
use Rattle.live_text.specs.declared.text.LiveOp.TheVariants as op
use Rattle.live_text.specs.declared.text.LiveText.{LiveText}

-- `live W`, with 1 to 16 workers
abbrev pub workers_behind : List Token → Option (Checked ℕ)
workers_behind ts = do
  workers ← number_at 1 16 ts
  if_at_end workers.1 workers.0

abbrev pub workers_of : List Token → Option (Checked ℕ)
workers_of (t.Name x ∷ ts) = if bytes_eq x (codes "live") then workers_behind ts else None
workers_of _ = None

-- what stands behind the word of a line
abbrev pub append_of : List Token → Option (Checked LiveOp)
append_of ts = do
  tags ← tags_at ts
  text ← short_text_at tags.1
  if_at_end text.1 (map_checked (λ p. op.Append p.0 p.1) (both_checked tags.0 text.0))

abbrev pub next_of : List Token → Option (Checked LiveOp)
next_of ts = do
  tag ← tag_at ts
  from ← u64_at tag.1
  if_at_end from.1 (map_checked (λ p. op.Next p.0 (record { 0 = p.1 })) (both_checked tag.0 from.0))

abbrev pub prev_of : List Token → Option (Checked LiveOp)
prev_of ts = do
  tag ← tag_at ts
  upto ← u64_at tag.1
  if_at_end upto.1 (map_checked (λ p. op.Prev p.0 (record { 0 = p.1 })) (both_checked tag.0 upto.0))

abbrev pub count_of : List Token → Option (Checked LiveOp)
count_of ts = do
  tag ← tag_at ts
  if_at_end tag.1 (map_checked op.Count tag.0)

unfoldable pub op_of_word : List ℕ → List Token → Option (Checked LiveOp)
op_of_word word ts =
    if bytes_eq word (codes "append") then append_of ts else if bytes_eq word (codes "next") then next_of ts
    else if bytes_eq word (codes "prev") then prev_of ts else if bytes_eq word (codes "count") then count_of ts
    else None

abbrev pub op_of : List Token → Option (Checked LiveOp)
op_of (t.Name x ∷ ts) = op_of_word x ts
op_of _ = None

-- `I OP`: one of so many workers, and what it does
abbrev pub op_line_of : ℕ → List Token → Option (Checked (ℕ × LiveOp))
op_line_of workers ts = do
  worker ← number_at 1 workers ts
  option_map (both_checked worker.0) (op_of worker.1)

-- The first line that isn't skipped says how many workers there are, and each other one what one of them does.
abbrev pub with_workers : LiveDraft → Result ℕ Kind → Result LiveDraft Kind
with_workers d (Err k) = Err k
with_workers d (Ok n) = Ok (record { workers = Some n; lines = d.lines })

abbrev pub with_line : LiveDraft → Result (ℕ × LiveOp) Kind → Result LiveDraft Kind
with_line d (Err k) = Err k
with_line d (Ok x) = Ok (record { workers = d.workers; lines = d.lines ++ x ∷ [] })

abbrev pub live_line_by : Option ℕ → List Token → LiveDraft → Result LiveDraft Kind
live_line_by None ts d = with_workers d (result_of_checked (workers_of ts))
live_line_by (Some workers) ts d = with_line d (result_of_checked (op_line_of workers ts))

abbrev pub live_line : ReadsLine LiveDraft
live_line n ts d = live_line_by d.workers ts d

abbrev pub empty_draft : LiveDraft
empty_draft = record { workers = None; lines = [] }

-- where all lines are accepted and the text stops before the line with this number
abbrev pub text_by : ℕ → List (ℕ × LiveOp) → Option ℕ → Result LiveText TextFault
text_by n lines None = Err (refused_at n kind.End)
text_by n lines (Some workers) = Ok (record { workers = workers; lines = lines })

abbrev pub text_at_end : ℕ → LiveDraft → Result LiveText TextFault
text_at_end n d = text_by n d.lines d.workers

abbrev pub text_of_scan : Result (ℕ × LiveDraft) TextFault → Result LiveText TextFault
text_of_scan (Err fault) = Err fault
text_of_scan (Ok p) = text_at_end p.0 p.1

abbrev pub text_of_lines : List ℕ → Result LiveText TextFault
text_of_lines text = text_of_scan (scan_lines live_line 65536 1 text empty_draft)

-- the live text that a text spells; or the first line that is refused, and why
abbrev pub live_text_of : List ℕ → Result LiveText TextFault
live_text_of text = if nat_lt 1048576 (length text) then Err (refused_at 0 kind.Length) else text_of_lines text
