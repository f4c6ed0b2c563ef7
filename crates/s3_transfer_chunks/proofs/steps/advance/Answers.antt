use Rattle.std.proofs.Common.{◌-◌, ap, take, drop, length, ◌++◌, ◌∙◌}
use Rattle.s3_transfer_chunks.specs.Reading.{Reading, run}
use Rattle.s3_transfer_chunks.specs.Decoder.{reading_in}
use Rattle.s3_transfer_chunks.specs.Sinks.{got}
use Rattle.s3_transfer_chunks.proofs.RunLemmas.{count_rest, run_rest, fits_rest}
use Rattle.s3_transfer_chunks.proofs.SinkLemmas.{grows_more, got_more}
use Rattle.s3_transfer_chunks.proofs.steps.advance.Goals as goal

pub loop-taken-preserved : goal.loop-taken-preserved
loop-taken-preserved g c =
    let bytes = c.args.bytes.now in
    let n = c.loop-taken.taken in
    let m = c.in_ok-taken.field-0 in
    let old = g.S.Sink.taken c.args.sink.now in
    let mid = g.S.Sink.taken c.loop-taken.sink in
    let new = g.S.Sink.taken c.step.new.sink in
    record {
      within = fits_rest bytes n m c.loop-taken.invariant.within c.in_ok-taken.ensures.count.1;
      value = λ held.
          ap (reading_in c.step.new.standing) (got_more held old mid new c.loop-taken.invariant.grows c.in_ok-taken.ensures.grows)
          ∙ c.in_ok-taken.ensures.value (held ++ got old mid)
          ∙ ap (λ (r : Reading). run r (take m (take (length bytes - n) (drop n bytes)))) (c.loop-taken.invariant.value held)
          ∙ run_rest (reading_in c.args.standing.now held) bytes n m;
      reads = λ held.
          count_rest (reading_in c.args.standing.now held) _ bytes n m (c.loop-taken.invariant.reads held) (c.loop-taken.invariant.value held)
          (c.in_ok-taken.ensures.reads (held ++ got old mid));
      grows = grows_more old mid new c.loop-taken.invariant.grows c.in_ok-taken.ensures.grows;
    }

pub returns-in_err-taken-clause-grows : goal.returns-in_err-taken-clause-grows
returns-in_err-taken-clause-grows g c =
    grows_more (g.S.Sink.taken c.args.sink.now) (g.S.Sink.taken c.loop-taken.sink) (g.S.Sink.taken c.step.new.sink) c.loop-taken.invariant.grows c.in_err-taken.ensures.grows
