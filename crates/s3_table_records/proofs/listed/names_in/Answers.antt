use Rattle.std.proofs.Common.{◌∙◌}
use Rattle.s3_table_records.proofs.ListedLemmas.{more_listed}
use Rattle.s3_table_records.proofs.listed.names_in.Goals as goal

pub loop-part-preserved : goal.loop-part-preserved
loop-part-preserved g c = record {
  names = more_listed (g.R.StoredRows.tables c.args.rows.now) _ _ c.args.listed.now c.loop-part.part-index c.part-item.result _ _ _ c.loop-part-test.true c.part-item.is c.loop-part.invariant.same
      c.loop-part.invariant.names (c.deref.ensures.value ∙ c.in_ok-more.ensures.names) c.in_ok-extend_from_slice.ensures.items;
  same = c.names_of_part.ensures.same ∙ c.loop-part.invariant.same;
  stays = λ t left. c.loop-part.invariant.stays t (c.names_of_part.ensures.stays t left);
}
