use Rattle.std.proofs.Common.{ap, subst, ◌<◌, ◌∙◌, [], ◌∷◌, ◌++◌}
use Rattle.s3_records.specs.Rows.{key_row}
use Rattle.s3_records.proofs.ListLemmas.{row_left, row_added, one_fits}
use Rattle.s3_records.proofs.listing.key_rows_from.Goals as goal

pub loop-key-preserved : goal.loop-key-preserved
loop-key-preserved c =
    let rows = c.loop-key.rows.items in
    let adds = c.in-Ok.ensures ∙ ap (λ versions. rows ++ key_row (c.in-Some.key.now, versions) ∷ []) c.as_slice.ensures.value in
    record {
      rows = row_added key_row rows c.add_row.new.rows.items _ (c.in-Some.key.now, c.in-Some.versions.now) c.loop-key.key-iterator c.next.new.self c.loop-key.invariant.rows c.in-Some.ensures.steps adds;
      few = one_fits c.args.most rows c.add_row.new.rows.items (key_row (c.in-Some.key.now, c.in-Some.versions.now))
          (subst (λ k. k < c.args.most) (c.len-in-loop-key.ensures ∙ c.loop-key.rows.ok.0) c.if-len-most.false) adds;
    }

pub returns-in-Err-clause-memory : goal.returns-in-Err-clause-memory
returns-in-Err-clause-memory c =
    row_left key_row c.args.most c.loop-key.rows.items _ (c.in-Some.key.now, c.in-Some.versions.now) c.loop-key.key-iterator c.next.new.self c.loop-key.invariant.rows c.in-Some.ensures.steps
    (subst (λ k. k < c.args.most) (c.len-in-loop-key.ensures ∙ c.loop-key.rows.ok.0) c.if-len-most.false)
