use Rattle.std.proofs.Common.{◌∙◌}
use Rattle.s3_xml.proofs.WriterLemmas.{finished}
use Rattle.s3_xml.proofs.writer.Writer.finish.Goals as goal

pub returns-clause-text : goal.returns-clause-text
returns-clause-text c = λ namespace inner told.
    finished c.args.self.bytes c.into_bytes.result.items c.args.root.now namespace inner (c.into_bytes.ensures ∙ c.in_ok-end.ensures.told) told
