use Rattle.std.proofs.Common.{ap, subst, ◌<◌, ◌∙◌, [], ◌∷◌, ◌++◌}
use Rattle.s3_uploads.specs.Parts.{part_row}
use Rattle.s3_uploads.proofs.PartLemmas.{rows_left, row_added, row_fits, on_err}
use Rattle.s3_uploads.proofs.parts.rows_above.Goals as goal

-- one more part is one more row
pub loop-number-preserved : goal.loop-number-preserved
loop-number-preserved g c =
    let rows = c.loop-number.rows.items in
    let adds = c.in_ok-push.ensures.items ∙ ap (λ row. rows ++ row ∷ []) c.row_of.ensures in
    record {
      rows = row_added rows c.push.new.self.items _ c.loop-number.number-iterator c.next.new.self (c.in-Some.number.now, c.in-Some.part.now) c.loop-number.invariant.rows c.in-Some.ensures.steps adds;
      few = row_fits c.args.most rows c.push.new.self.items (part_row (c.in-Some.number.now, c.in-Some.part.now)) (subst (λ k. k < c.args.most) (c.len.ensures ∙ c.loop-number.rows.ok.0) c.if-len-most.false) adds;
    }

pub returns-in_err-push-clause-memory : goal.returns-in_err-push-clause-memory
returns-in_err-push-clause-memory g c =
    on_err c.from_residual.result
    (rows_left c.args.most c.loop-number.rows.items _ c.loop-number.number-iterator c.next.new.self (c.in-Some.number.now, c.in-Some.part.now)
    (subst (λ k. k < c.args.most) (c.len.ensures ∙ c.loop-number.rows.ok.0) c.if-len-most.false) c.loop-number.invariant.rows c.in-Some.ensures.steps)
