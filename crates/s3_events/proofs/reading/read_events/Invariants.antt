use Rattle.std.proofs.Common.{◌≡◌, ◌+◌, ◌≤◌, ℕ, true, length, take, drop}
use Rattle.s3_text.specs.Lines.{lines_of}
use Rattle.s3_events.specs.Lines.{are_event_lines, all_said}
use Rattle.s3_events.specs.Script.{connections}
use Rattle.s3_events.specs.Reading.{Collects}
use Rattle.s3_events.proofs.reading.read_events.Given as goal

abbrev pub invariant-loop-line : goal.invariant-loop-line
invariant-loop-line l = record {
  room : l.count + length l.left ≤ length l.text;
  left : drop l.count (lines_of l.text) ≡ lines_of l.left;
  right : (k : ℕ) → k ≤ l.count → are_event_lines (take k (lines_of l.text)) ≡ true;
  collected : Collects (connections (all_said (take l.count (lines_of l.text)))) l.script (all_said (take l.count (lines_of l.text)));
}

abbrev pub decreases-loop-line : goal.decreases-loop-line
decreases-loop-line l = length l.left
