use Rattle.std.proofs.Common.{◌≡◌, ◌+◌, ◌≤◌, ◌++◌, length}
use Rattle.s3_xml.specs.Printed.{escaped}
use Rattle.s3_xml.proofs.escape.put_escaped.Given as goal

abbrev pub invariant-loop-rest : goal.invariant-loop-rest
invariant-loop-rest l =
    record {
      told : l.writer.bytes ++ escaped l.rest ≡ l.initial.writer.bytes ++ escaped l.text;
      room : l.initial.writer.spare + length (escaped l.rest) ≤ l.writer.spare + length (escaped l.text);
    }

abbrev pub decreases-loop-rest : goal.decreases-loop-rest
decreases-loop-rest l = length l.rest
