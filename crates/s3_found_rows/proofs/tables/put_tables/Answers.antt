use Rattle.std.proofs.Common.{sym, ap, subst, ◌∙◌, ℤ, ◌++◌, map, SFits, w64, to_z-of_z, rules}
use Rattle.s3_rows.specs.Columns.{Tables}
use Rattle.s3_rows.specs.Soundness.{upload_row}
use Rattle.s3_stored_rows.specs.Changes.{bucket_columns, version_columns, upload_columns, part_columns}
use Rattle.s3_found_rows.specs.Fitting.{AreFilled}
use Rattle.s3_found_rows.proofs.TableLemmas.{le_then, are_whole, all_filled, all_named}
use Rattle.s3_found_rows.proofs.tables.put_tables.Goals as goal

pub put_buckets-requires : goal.put_buckets-requires
put_buckets-requires g c = ap (λ (t : Tables). t.buckets) c.requires

pub put_versions-requires : goal.put_versions-requires
put_versions-requires g c = ap (λ (t : Tables). t.versions) c.in_ok-buckets.ensures.rows ∙ ap (λ (t : Tables). t.versions) c.requires

pub put_uploads-requires : goal.put_uploads-requires
put_uploads-requires g c =
    ap (λ (t : Tables). t.uploads) c.in_ok-versions.ensures.rows ∙ ap (λ (t : Tables). t.uploads) c.in_ok-buckets.ensures.rows ∙ ap (λ (t : Tables). t.uploads) c.requires

pub put_parts-requires-clause-none : goal.put_parts-requires-clause-none
put_parts-requires-clause-none g c =
    ap (λ (t : Tables). t.parts) c.in_ok-uploads.ensures.rows ∙ ap (λ (t : Tables). t.parts) c.in_ok-versions.ensures.rows
    ∙ ap (λ (t : Tables). t.parts) c.in_ok-buckets.ensures.rows ∙ ap (λ (t : Tables). t.parts) c.requires

pub put_parts-requires-clause-uploads : goal.put_parts-requires-clause-uploads
put_parts-requires-clause-uploads g c =
    let us = map upload_columns c.replace-uploads.result.items in
    c.deref.ensures.value ∙ c.in_ok-uploads.ensures.rowids ∙ ap (λ l. l ++ map upload_row us) c.new-rowids.ensures.items ∙ ap (map upload_row) (sym (ap (λ (t : Tables). t.uploads) c.in_ok-uploads.ensures.rows))

pub returns-clause-filled : goal.returns-clause-filled
returns-clause-filled g c =
    let tables = g.R.StoredRows.tables in
    let b : SFits w64 c.in_ok-buckets.buckets = search rules in
    let v : SFits w64 c.in_ok-versions.versions = search rules in
    let u : SFits w64 c.in_ok-uploads.uploads = search rules in
    let p : SFits w64 c.in_ok-parts.parts = search rules in
    let low : SFits w64 c.higher-low.result = search rules in
    let high : SFits w64 c.higher-high.result = search rules in
    let under_low = rw (to_z-of_z low) at c.higher.ensures.first in
    let under_high = rw (to_z-of_z high) at c.higher.ensures.second in
    let under_b = rw (to_z-of_z b) at c.higher-low.ensures.first in
    let under_v = rw (to_z-of_z v) at c.higher-low.ensures.second in
    let under_u = rw (to_z-of_z u) at c.higher-high.ensures.first in
    let under_p = rw (to_z-of_z p) at c.higher-high.ensures.second in
    let versions = rw (to_z-of_z c.ranges.number) at c.in_ok-versions.ensures.filled in
    let uploads = rw (to_z-of_z c.ranges.number) at c.in_ok-uploads.ensures.filled in
    let last : SFits w64 c.higher.result = search rules in
    subst (λ (l : ℤ). AreFilled l c.args.number (tables c.put_parts.new.rows)) (sym (to_z-of_z last))
    (all_filled (tables c.args.rows.now) (tables c.put_buckets.new.rows) (tables c.put_versions.new.rows) (tables c.put_uploads.new.rows) (tables c.put_parts.new.rows) _ _ _ _
    c.in_ok-buckets.ensures.rows c.in_ok-versions.ensures.rows c.in_ok-uploads.ensures.rows c.in_ok-parts.ensures.rows
    c.higher.result c.args.number c.in_ok-buckets.buckets c.in_ok-versions.versions c.in_ok-uploads.uploads c.in_ok-parts.parts
    (le_then c.in_ok-buckets.buckets c.higher-low.result c.higher.result under_b under_low) (le_then c.in_ok-versions.versions c.higher-low.result c.higher.result under_v under_low)
    (le_then c.in_ok-uploads.uploads c.higher-high.result c.higher.result under_u under_high) (le_then c.in_ok-parts.parts c.higher-high.result c.higher.result under_p under_high)
    c.in_ok-buckets.ensures.filled versions uploads c.in_ok-parts.ensures.filled)

pub returns-clause-bodies : goal.returns-clause-bodies
returns-clause-bodies g c =
    let tables = g.R.StoredRows.tables in
    all_named (tables c.args.rows.now) (tables c.put_buckets.new.rows) (tables c.put_versions.new.rows) (tables c.put_uploads.new.rows) (tables c.put_parts.new.rows) _ _ _ _
    c.in_ok-buckets.ensures.rows c.in_ok-versions.ensures.rows c.in_ok-uploads.ensures.rows c.in_ok-parts.ensures.rows
    c.args.bodies.now.items c.put_versions.new.bodies.items c.put_parts.new.bodies.items c.in_ok-versions.ensures.bodies c.in_ok-parts.ensures.bodies

pub returns-clause-same : goal.returns-clause-same
returns-clause-same g c =
    let tables = g.R.StoredRows.tables in
    are_whole (tables c.args.rows.now) (tables c.put_buckets.new.rows) (tables c.put_versions.new.rows) (tables c.put_uploads.new.rows) (tables c.put_parts.new.rows) _ _ _ _
    c.in_ok-buckets.ensures.rows c.in_ok-versions.ensures.rows c.in_ok-uploads.ensures.rows c.in_ok-parts.ensures.rows
    ∙ (λ i. record {
      buckets = map bucket_columns (c.replace.ensures.value i).items;
      versions = map version_columns (c.replace-versions.ensures.value i).items;
      uploads = map upload_columns (c.replace-uploads.ensures.value i).items;
      parts = map part_columns (c.replace-parts.ensures.value i).items;
      store = (tables c.args.rows.now).store;
    })
