use Rattle.std.proofs.Common.{ap, ◌∙◌}
use Rattle.s3_columns.specs.Numbers.{numbers_in}
use Rattle.s3_stored_rows.specs.Bodies.{part_numbers}
use Rattle.s3_stored_rows.specs.Changes.{part_columns}
use Rattle.s3_table_records.proofs.ListedLemmas.{more_named}
use Rattle.s3_table_records.proofs.named.parts_name.Goals as goal

pub loop-part-preserved : goal.loop-part-preserved
loop-part-preserved c =
    more_named part_numbers part_columns c.args.parts.now c.loop-part.part-index c.part-item.result _ _ _ c.loop-part-test.true c.part-item.is
    c.loop-part.invariant (c.deref-in-loop-part.ensures.value ∙ c.in_ok-more.ensures.value ∙ ap numbers_in c.deref.ensures.value) c.in_ok-extend_from_slice.ensures.items
