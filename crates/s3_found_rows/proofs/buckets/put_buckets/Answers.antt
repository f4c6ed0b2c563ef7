use Rattle.std.proofs.Common.{◌≡◌, refl, [], ◌∷◌, map, reverse, SFits, w64, to_z-of_z, rules}
use Rattle.s3_rows.specs.Soundness.{bucket_row, is_bucket_row}
use Rattle.s3_stored_rows.specs.Changes.{bucket_columns}
use Rattle.s3_found_rows.proofs.AlongLemmas.{unreversed, popped, along_start}
use Rattle.s3_found_rows.proofs.GrowLemmas.{buckets_grow}
use Rattle.s3_found_rows.proofs.StepLemmas.{bucket_along}
use Rattle.s3_found_rows.proofs.buckets.put_buckets.Goals as goal

pub loop-bucket-init : goal.loop-bucket-init
loop-bucket-init g c =
    let first = g.R.StoredRows.tables c.args.rows.now in
    let left = unreversed bucket_columns c.args.found.items c.reversed-left.result.items c.reversed-left.ensures in
    record {
      rows = refl;
      along = along_start bucket_row is_bucket_row (map bucket_columns c.args.found.items) _ first.buckets _ c.requires left;
    }

pub loop-bucket-preserved : goal.loop-bucket-preserved
loop-bucket-preserved g c =
    let tables = g.R.StoredRows.tables in
    let first = tables c.args.rows.now in
    let now = tables c.loop-bucket.rows in
    let x = bucket_columns c.in-Some.bucket in
    let found = map bucket_columns c.args.found.items in
    let left = map bucket_columns (reverse c.loop-bucket.left.items) in
    let rest = map bucket_columns (reverse c.pop.new.self.items) in
    let step : left ≡ x ∷ rest = popped bucket_columns c.loop-bucket.left.items c.pop.new.self.items c.in-Some.bucket c.in-Some.ensures.items in
    let put = c.in_ok-put_bucket.ensures.rows in
    let row : SFits w64 c.in-Some.bucket.row = search rules in
    let filled = c.in_ok-put_bucket.ensures.filled in
    record {
      rows = buckets_grow first now _ (x ∷ []) c.loop-bucket.invariant.rows put;
      along = bucket_along first now c.loop-bucket.invariant.rows _ _ _ x found left rest (to_z-of_z row) c.loop-bucket.invariant.along step put filled;
    }
