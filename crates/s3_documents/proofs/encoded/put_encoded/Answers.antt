use Rattle.std.proofs.Common.{ap, sym, ◌∙◌, ◌++◌, drop, append_assoc, append-nil, arith, ◌+◌}
use Rattle.std.proofs.lemmas.Result.{err_from_is_err_and}
use Rattle.s3_canonical.specs.Encoding.{encode_path}
use Rattle.s3_documents.proofs.EncodedLemmas.{encoded_from, encoded_from_length, encoded_whole}
use Rattle.s3_documents.proofs.encoded.put_encoded.Goals as goal

pub loop-b-preserved : goal.loop-b-preserved
loop-b-preserved c =
    let front = c.loop-b.writer.bytes in
    let rest = encode_path (drop (c.loop-b.b-index + 1) c.args.text.now) in
    let here = encoded_from c.args.text.now c.loop-b.b-index c.loop-b-test.true in
    let long = encoded_from_length c.args.text.now c.loop-b.b-index c.loop-b-test.true in (
      ap (λ w. w ++ rest) c.in_ok-put_byte.ensures.told ∙ append_assoc front _ rest ∙ ap (λ e. front ++ e) (sym here) ∙ c.loop-b.invariant.0,
      omega (arith, long, c.loop-b.invariant.1, c.in_ok-put_byte.ensures.room),
    )

pub returns-clause-told : goal.returns-clause-told
returns-clause-told c =
    let front = c.loop-b.writer.bytes in
    sym (append-nil front) ∙ ap (λ e. front ++ e) (sym (encoded_whole c.args.text.now c.loop-b.b-index c.loop-b-test.false)) ∙ c.loop-b.invariant.0

pub returns-in_err-put_byte-clause-room : goal.returns-in_err-put_byte-clause-room
returns-in_err-put_byte-clause-room c =
    let long = encoded_from_length c.args.text.now c.loop-b.b-index c.loop-b-test.true in
    let p = err_from_is_err_and c.from_residual.result c.from_residual.ensures.1 in
    rw (p.1) (omega (arith, long, c.loop-b.invariant.1, c.in_err-put_byte.ensures.room))
