use Rattle.s3_xml.proofs.EscapeLemmas.{at_end}
use Rattle.s3_xml.proofs.escape.put_escaped.Goals as goal

pub returns-clause-told : goal.returns-clause-told
returns-clause-told c = at_end c.loop-rest.writer.bytes c.loop-rest.rest.now _ c.loop-rest-test.ensures c.loop-rest.invariant.told
