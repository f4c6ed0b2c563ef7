use Rattle.std.proofs.Common.{◌≡◌, ◌≤◌, length}
use Rattle.s3_xml_reader.specs.Place.{to_end}
use Rattle.s3_xml_reader.proofs.reader.Reader.next.Given as goal

-- what is still to end stays, and no byte is read twice
abbrev pub invariant-loop-self : goal.invariant-loop-self
invariant-loop-self l = (to_end l.self-inside.place l.self-inside.rest.now ≡ l.fn.self.elements) × (length l.self-inside.rest.now ≤ l.fn.self.unread)

abbrev pub decreases-loop-self : goal.decreases-loop-self
decreases-loop-self l = length l.self-inside.rest.now
