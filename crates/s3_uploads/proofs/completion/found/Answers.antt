use Rattle.std.proofs.Common.{arith, ap, ◌∙◌, length}
use Rattle.s3_uploads.proofs.CompletionLemmas.{one_found, none_found, one_more}
use Rattle.s3_uploads.proofs.completion.found.Goals as goal
use Rattle.s3_uploads.proofs.completion.found.Goals.{in-Some+in_ok-push-in-Some, in-None}

pub loop-part-preserved : goal.loop-part-preserved
loop-part-preserved g c =
    elim c.match-get.branch [
      | in-Some+in_ok-push-in-Some w ↦
          let pushed = ap (λ found. found.items) w.found-is ∙ w.in_ok-push-in-Some.ensures.items in
          record {
            found = one_found c.args.parts.now c.args.listed.now c.loop-part.part-index c.part-item.result c.loop-part.found.items c.match-get.found.items w.in-Some.part c.loop-part-test.true c.part-item.is c.loop-part.invariant.found w.in-Some.ensures pushed;
            few = one_more c.loop-part.found.items c.match-get.found.items w.in-Some.part c.loop-part.part-index pushed c.loop-part.invariant.few;
          }
      | in-None w ↦
          let same = ap (λ found. found.items) w.found-is in
          record {
            found = none_found c.args.parts.now c.args.listed.now c.loop-part.part-index c.part-item.result c.loop-part.found.items c.match-get.found.items c.loop-part-test.true c.part-item.is c.loop-part.invariant.found w.in-None.ensures same;
            few = omega (arith, c.loop-part.invariant.few, ap length same);
          }
    ]
