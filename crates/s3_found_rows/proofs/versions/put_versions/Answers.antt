use Rattle.std.proofs.Common.{◌≡◌, refl, ap, [], ◌∷◌, ◌++◌, map, flat_map, reverse, SFits, w64, to_z-of_z, rules}
use Rattle.s3_rows.specs.Soundness.{version_row}
use Rattle.s3_stored_rows.specs.Bodies.{version_numbers}
use Rattle.s3_stored_rows.specs.Changes.{version_columns}
use Rattle.s3_found_rows.specs.Fitting.{version_fits}
use Rattle.s3_found_rows.proofs.AlongLemmas.{unreversed, popped, along_start, named_step}
use Rattle.s3_found_rows.proofs.GrowLemmas.{versions_grow}
use Rattle.s3_found_rows.proofs.StepLemmas.{version_along, version_before}
use Rattle.s3_found_rows.proofs.versions.put_versions.Goals as goal

pub put_version-requires : goal.put_version-requires
put_version-requires g c =
    version_before (g.R.StoredRows.tables c.args.rows.now) (g.R.StoredRows.tables c.loop-version.rows) c.loop-version.invariant.rows _ _ c.loop-version.invariant.along.filled

pub loop-version-init : goal.loop-version-init
loop-version-init g c =
    let first = g.R.StoredRows.tables c.args.rows.now in
    let left = unreversed version_columns c.args.found.items c.reversed-left.result.items c.reversed-left.ensures in
    record {
      rows = refl;
      along = along_start version_row (version_fits _ first.buckets) (map version_columns c.args.found.items) _ first.versions _ c.requires left;
      bodies = ap (λ l. c.args.bodies.now.items ++ flat_map version_numbers l) left;
    }

pub loop-version-preserved : goal.loop-version-preserved
loop-version-preserved g c =
    let tables = g.R.StoredRows.tables in
    let first = tables c.args.rows.now in
    let now = tables c.loop-version.rows in
    let x = version_columns c.in-Some.version in
    let found = map version_columns c.args.found.items in
    let left = map version_columns (reverse c.loop-version.left.items) in
    let rest = map version_columns (reverse c.pop.new.self.items) in
    let step : left ≡ x ∷ rest = popped version_columns c.loop-version.left.items c.pop.new.self.items c.in-Some.version c.in-Some.ensures.items in
    let put = c.in_ok-put_version.ensures.rows in
    let row : SFits w64 c.in-Some.version.row = search rules in
    let filled = c.in_ok-put_version.ensures.filled in
    record {
      rows = versions_grow first now _ (x ∷ []) c.loop-version.invariant.rows put;
      along = version_along first now c.loop-version.invariant.rows _ _ _ _ x found left rest (to_z-of_z row) c.loop-version.invariant.along step put filled;
      bodies = named_step version_numbers c.args.bodies.now.items c.loop-version.bodies.items _ found left rest x c.loop-version.invariant.bodies step c.in_ok-put_version.ensures.bodies;
    }
