use Rattle.std.proofs.Common.{subst}
use Rattle.s3_aws_chunked.specs.Write.{Adds}
use Rattle.s3_aws_chunked.proofs.WritingLemmas.{writes_all}
use Rattle.s3_aws_chunked.proofs.write.write_chunks.Goals as goal

pub returns : goal.returns
returns c =
    writes_all c.args.chain c.write_pieces.new.chain c.args.data.now c.args.size c.write_pieces.new.body.items c.write_chunk.new.body.items
    c.requires.some
    (subst (λ old. Adds c.args.chain c.args.data.now c.args.size old c.write_pieces.new.body.items c.write_pieces.new.chain) c.new-body.ensures.items c.in_ok-write_pieces.ensures)
    c.write_chunk.ensures.form
    c.in_ok-write_chunk.ensures.body
