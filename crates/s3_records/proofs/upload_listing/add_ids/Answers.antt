use Rattle.std.proofs.Common.{subst, ◌≡◌, ◌<◌, ◌∙◌, IfOk}
use Rattle.s3_records.specs.OpenUploads.{upload_row}
use Rattle.s3_records.proofs.ListLemmas.{row_left, row_added, one_fits}
use Rattle.s3_records.proofs.upload_listing.add_ids.Goals as goal

pub loop-id-preserved : goal.loop-id-preserved
loop-id-preserved c =
    let row = upload_row c.args.key.now in
    let made = subst (λ id. IfOk c.upload_row.result (λ is. is ≡ row (id, c.in-Some.upload.now))) c.of.ensures c.upload_row.ensures in
    let adds = c.in-Ok.ensures.ok (row (c.in-Some.id.now, c.in-Some.upload.now)) made in
    record {
      rows = row_added row c.loop-id.rows.items c.push.new.rows.items _ (c.in-Some.id.now, c.in-Some.upload.now) c.loop-id.id-iterator c.next.new.self c.loop-id.invariant.rows c.in-Some.ensures.steps adds;
      few = one_fits c.args.most c.loop-id.rows.items c.push.new.rows.items (row (c.in-Some.id.now, c.in-Some.upload.now))
          (subst (λ k. k < c.args.most) (c.len.ensures ∙ c.loop-id.rows.ok.0) c.if-len-most.false) adds;
    }

pub returns-in-Err-clause-memory : goal.returns-in-Err-clause-memory
returns-in-Err-clause-memory c =
    row_left (upload_row c.args.key.now) c.args.most c.loop-id.rows.items _ (c.in-Some.id.now, c.in-Some.upload.now) c.loop-id.id-iterator c.next.new.self c.loop-id.invariant.rows c.in-Some.ensures.steps
    (subst (λ k. k < c.args.most) (c.len.ensures ∙ c.loop-id.rows.ok.0) c.if-len-most.false)
