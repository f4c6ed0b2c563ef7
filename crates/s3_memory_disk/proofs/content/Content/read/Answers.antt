use Rattle.std.proofs.Common.{◌∙◌, length}
use Rattle.s3_memory_disk.proofs.ChunkLemmas.{in_front}
use Rattle.s3_memory_disk.proofs.content.Content.read.Goals as goal

pub returns : goal.returns
returns c = c.read.ensures ∙ in_front _ _ c.self.inside.len c.args.at (length c.args.buf.now) c.self.view_is c.requires.inside
