use Rattle.std.proofs.Common.{◌≡◌, true, ◌++◌, take, drop, ap, subst, ◌∙◌}
use Rattle.std.proofs.lemmas.List.{take_min, drop_min}
use Rattle.s3_text.specs.Digest.{is_hex_digest}
use Rattle.s3_signing.specs.Chain.{chunk_signature, linked}
use Rattle.s3_aws_chunked.specs.Chunk.{chunk_text}
use Rattle.s3_aws_chunked.specs.Write.{Adds, chunk_of}
use Rattle.s3_aws_chunked.proofs.WritingLemmas.{adds_more, some_bytes}
use Rattle.s3_aws_chunked.proofs.write.write_pieces.Goals as goal

pub loop-rest-preserved : goal.loop-rest-preserved
loop-rest-preserved c = λ new link a.
    let rest = c.loop-rest.rest.now in
    let size = c.args.size in
    let piece : c.split_at.result.0.now ≡ take size rest =
    c.split_at.ensures.front ∙ ap (λ n. take n rest) c.lesser.ensures ∙ take_min size rest in
    let behind : c.split_at.result.1.now ≡ drop size rest =
    c.split_at.ensures.back ∙ ap (λ n. drop n rest) c.lesser.ensures ∙ drop_min size rest in
    c.loop-rest.invariant new link
    (adds_more c.loop-rest.chain c.write_chunk.new.chain rest size c.loop-rest.body.items c.write_chunk.new.body.items new link
    (some_bytes rest c.is_empty.result c.is_empty.ensures c.loop-rest-test.true) c.requires.some c.requires.most
    (subst (λ t. is_hex_digest (chunk_signature c.loop-rest.chain t) ≡ true) piece c.write_chunk.ensures.form)
    (c.in_ok-write_chunk.ensures.body ∙ ap (λ t. c.loop-rest.body.items ++ chunk_text (chunk_of c.loop-rest.chain t)) piece)
    (c.in_ok-write_chunk.ensures.chain ∙ ap (λ t. linked c.loop-rest.chain (chunk_signature c.loop-rest.chain t)) piece)
    (subst (λ t. Adds c.write_chunk.new.chain t size c.write_chunk.new.body.items new link) behind a))
