use Rattle.std.proofs.Common.{◌<◌, ◌∙◌, ap, refl, sym, subst, length, get_or, slice_index, ◌+◌, arith}
use Rattle.std.specs.Prelude.{count_by}
use Rattle.std.proofs.lemmas.List.{take_all}
use Rattle.s3_block_file.specs.declared.extent.Extent.{Extent}
use Rattle.s3_block_file.specs.Extent.{lies_in}
use Rattle.s3_block_file.specs.Uses.{AreTaken, OneMore}
use Rattle.s3_block_file.proofs.CountLemmas.{next_taken, counts_back}
use Rattle.s3_block_file.proofs.granules.lower_all.Goals as goal

abbrev nowhere : Extent
nowhere = record { first = 0; size = 0 }

pub lower-requires : goal.lower-requires
lower-requires c =
    let i = c.loop-extent.extent-index in
    let inside : i < length c.args.extents.now = omega arith in
    let extent = get_or c.args.extents.now i nowhere in
    subst (AreTaken c.loop-extent.granules extent.first) (sym c.granules.ensures)
    (next_taken c.args.granules.now c.loop-extent.granules c.args.extents.now i extent nowhere inside refl c.loop-extent.invariant.counts c.requires)

pub loop-extent-preserved : goal.loop-extent-preserved
loop-extent-preserved c =
    let i = c.loop-extent.extent-index in
    let inside : i < length c.args.extents.now = omega arith in
    let extent = get_or c.args.extents.now i nowhere in
    record {
      counts = counts_back c.args.granules.now c.loop-extent.granules c.lower.new.self c.args.extents.now i extent nowhere inside refl
          (subst (λ count. OneMore extent.first count c.lower.new.self c.loop-extent.granules) c.granules.ensures c.lower.ensures) c.loop-extent.invariant.counts;
    }

pub returns : goal.returns
returns c k =
    ap (λ l. slice_index c.loop-extent.granules k + count_by (lies_in k) l) (sym (take_all c.loop-extent.extent-index c.args.extents.now c.loop-extent-test.false))
    ∙ c.loop-extent.invariant.counts k
