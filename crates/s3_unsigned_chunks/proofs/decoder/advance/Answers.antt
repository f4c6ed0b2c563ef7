use Rattle.std.proofs.Common.{◌-◌, ap, take, drop, length, ◌++◌, ◌∙◌, arith}
use Rattle.s3_unsigned_chunks.specs.Reading.{Terms, Reading, run}
use Rattle.s3_unsigned_chunks.specs.Reader.{reading_in}
use Rattle.s3_unsigned_chunks.specs.Sinks.{got}
use Rattle.s3_unsigned_chunks.proofs.RunLemmas.{run_rest, fits_rest}
use Rattle.s3_unsigned_chunks.proofs.SinkLemmas.{grows_more, got_more}
use Rattle.s3_unsigned_chunks.proofs.decoder.advance.Goals as goal

pub loop-taken-preserved : goal.loop-taken-preserved
loop-taken-preserved g c =
    let bytes = c.args.bytes.now in
    let n = c.loop-taken.taken in
    let m = c.in_ok-taken.field-0 in
    let old = g.S.Sink.taken c.args.sink.now in
    let mid = g.S.Sink.taken c.loop-taken.sink in
    let new = g.S.Sink.taken c.step.new.sink in
    record {
      within = fits_rest bytes n m c.loop-taken.invariant.within c.in_ok-taken.ensures.count.1;
      taken = omega (arith, c.in_ok-taken.ensures.taken, c.loop-taken.invariant.taken);
      value = λ decoded held.
          let terms : Terms = record { name = c.args.name.now; encoded = c.args.encoded; decoded = decoded } in
          ap (reading_in c.step.new.standing) (got_more held old mid new c.loop-taken.invariant.grows c.in_ok-taken.ensures.grows)
          ∙ c.in_ok-taken.ensures.value decoded (held ++ got old mid)
          ∙ ap (λ (r : Reading). run terms r (take m (take (length bytes - n) (drop n bytes)))) (c.loop-taken.invariant.value decoded held)
          ∙ run_rest terms (reading_in c.args.standing.now held) bytes n m;
      grows = grows_more old mid new c.loop-taken.invariant.grows c.in_ok-taken.ensures.grows;
    }

pub returns-in_err-taken-clause-grows : goal.returns-in_err-taken-clause-grows
returns-in_err-taken-clause-grows g c =
    grows_more (g.S.Sink.taken c.args.sink.now) (g.S.Sink.taken c.loop-taken.sink) (g.S.Sink.taken c.step.new.sink) c.loop-taken.invariant.grows c.in_err-taken.ensures.grows
