use Rattle.std.proofs.Common.{◌≡◌, ◌+◌, ◌++◌, ◌≤◌, length, map, vec_len}
use Rattle.s3_text.specs.Lines.{lines_of}
use Rattle.s3_settings.specs.Keys.{line_of_key, SayKeys}
use Rattle.s3_settings.proofs.keys.read_keys.Given as goal

abbrev pub invariant-loop-line : goal.invariant-loop-line
invariant-loop-line l = record {
  so_far : map line_of_key l.keys.items ++ lines_of l.left ≡ lines_of l.text;
  said : SayKeys (map line_of_key l.keys.items) l.keys.items;
  room : vec_len l.keys + length l.left ≤ length l.text;
}

abbrev pub decreases-loop-line : goal.decreases-loop-line
decreases-loop-line l = length l.left
