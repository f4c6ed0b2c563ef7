use Rattle.std.proofs.Common.{◌≡◌, ap, ◌∙◌, arith}
use Rattle.s3_transfer_chunks.specs.Reading.{Reading, reading_of, started, taken_in}
use Rattle.s3_transfer_chunks.specs.Verdict.{verdict_in}
use Rattle.s3_transfer_chunks.specs.Decoder.{taken_of}
use Rattle.s3_transfer_chunks.proofs.RunLemmas.{count_bound}
use Rattle.s3_transfer_chunks.proofs.laws.decoders_judge.Goals as goal

pub returns-clause-verdict : goal.returns-clause-verdict
returns-clause-verdict c = λ decoder limit bytes ended held stands few.
    let same : taken_of decoder ≡ taken_in limit bytes = omega (arith, stands.counts, few) in
    ap (λ (r : Reading). verdict_in r (taken_of decoder)) stands.shows ∙ ap (verdict_in (reading_of limit bytes ended)) same

pub returns-clause-within : goal.returns-clause-within
returns-clause-within c = λ decoder limit bytes ended held stands.
    omega (arith, stands.counts, count_bound (started limit) bytes)
