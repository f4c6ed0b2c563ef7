use Rattle.std.proofs.Common.{sym, ap, ◌∙◌, append-nil, Some, None}
use Rattle.s3_request_documents.proofs.CompletionLemmas.{one_more}
use Rattle.s3_request_documents.proofs.completion.listed.Goals as goal
use Rattle.s3_request_documents.proofs.completion.listed.Goals.{in-Some+in_ok-push-in-Some, in-None}

pub loop-part-preserved : goal.loop-part-preserved
loop-part-preserved c =
    elim c.match-branch-2.branch [
      | in-Some+in_ok-push-in-Some w ↦
          one_more c.args.parts.now c.loop-part.part-index c.part-item.result c.loop-part.listed.items c.match-branch-2.listed.items (Some w.in-Some.part)
          c.loop-part-test.true c.part-item.is c.loop-part.invariant (sym w.in-Some.is ∙ c.in_ok-part.ensures) (ap (λ listed. listed.items) w.listed-is ∙ w.in_ok-push-in-Some.ensures.items)
      | in-None w ↦
          one_more c.args.parts.now c.loop-part.part-index c.part-item.result c.loop-part.listed.items c.match-branch-2.listed.items None
          c.loop-part-test.true c.part-item.is c.loop-part.invariant (sym w.in-None.is ∙ c.in_ok-part.ensures) (ap (λ listed. listed.items) w.listed-is ∙ sym (append-nil c.loop-part.listed.items))
    ]
