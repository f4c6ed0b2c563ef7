use Rattle.s3_block_bodies.proofs.SparesLemmas.{spares_both}
use Rattle.s3_block_bodies.proofs.writing.write.Goals as goal

pub returns-clause-spares : goal.returns-clause-spares
returns-clause-spares g c = spares_both c.args.extent c.args.file.now c.put_header.new.file c.put_bytes.new.file c.put_header.ensures.spares c.put_bytes.ensures.spares
