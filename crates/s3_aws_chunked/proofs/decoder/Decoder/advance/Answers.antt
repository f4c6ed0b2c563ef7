use Rattle.std.proofs.Common.{ap, take, ◌++◌, ◌∙◌, rules}
use Rattle.s3_aws_chunked.specs.Count.{advanced}
use Rattle.s3_aws_chunked.specs.Decoder.{Progress, run}
use Rattle.s3_aws_chunked.proofs.RunLemmas.{advanced_twice, run_rest, fits_rest}
use Rattle.s3_aws_chunked.proofs.BeforeLemmas.{before_more, stops_between}
use Rattle.s3_aws_chunked.proofs.SinkLemmas.{grows_more}
use Rattle.s3_aws_chunked.proofs.decoder.Decoder.advance.Goals as goal

pub loop-taken-preserved : goal.loop-taken-preserved
loop-taken-preserved g c =
    let bytes = c.args.bytes.now in
    let n = c.loop-taken.taken in
    let m = c.in_ok-taken.field-0 in
    record {
      within = fits_rest bytes n m c.loop-taken.invariant.within c.in_ok-taken.ensures.count.1;
      span = c.in_ok-taken.ensures.span ∙ ap (λ s. advanced s m) c.loop-taken.invariant.span ∙ advanced_twice c.args.self.now.place.span n m;
      shows = λ p shown.
          rw (← run_rest p bytes n m)
          (c.in_ok-taken.ensures.shows (run p (take n bytes)) (c.loop-taken.invariant.shows p shown));
      sink = λ p shown front had.
          c.in_ok-taken.ensures.sink (run p (take n bytes)) (c.loop-taken.invariant.shows p shown) front (c.loop-taken.invariant.sink p shown front had)
          ∙ ap (λ (q : Progress). front ++ q.held) (run_rest p bytes n m);
      before = λ front p shown.
          before_more p bytes n m c.loop-taken.invariant.within (c.loop-taken.invariant.before front p shown)
          (c.in_ok-taken.ensures.before (stops_between c.args.front c.loop-taken.self.place front (search rules)) (run p (take n bytes)) (c.loop-taken.invariant.shows p shown));
      grows = grows_more (g.S.Sink.taken c.args.sink.now) (g.S.Sink.taken c.loop-taken.sink) (g.S.Sink.taken c.step.new.sink) c.loop-taken.invariant.grows c.in_ok-taken.ensures.grows;
    }

pub returns-in_err-taken-clause-grows : goal.returns-in_err-taken-clause-grows
returns-in_err-taken-clause-grows g c =
    grows_more (g.S.Sink.taken c.args.sink.now) (g.S.Sink.taken c.loop-taken.sink) (g.S.Sink.taken c.step.new.sink) c.loop-taken.invariant.grows c.in_err-taken.ensures.grows
