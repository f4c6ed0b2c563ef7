use Rattle.std.proofs.Common.{◌≡◌, refl, sym, ap, ◌∙◌, [], ◌∷◌, ◌++◌, map, flat_map, reverse, SFits, w64, to_z-of_z, rules}
use Rattle.s3_rows.specs.Columns.{Tables}
use Rattle.s3_rows.specs.Soundness.{part_row, upload_row}
use Rattle.s3_stored_rows.specs.Bodies.{part_numbers}
use Rattle.s3_stored_rows.specs.Changes.{part_columns}
use Rattle.s3_found_rows.specs.Fitting.{part_fits}
use Rattle.s3_found_rows.proofs.AlongLemmas.{unreversed, popped, along_start, named_step}
use Rattle.s3_found_rows.proofs.GrowLemmas.{parts_grow}
use Rattle.s3_found_rows.proofs.StepLemmas.{part_along, part_before}
use Rattle.s3_found_rows.proofs.parts.put_parts.Goals as goal

pub put_part-requires-clause-filled : goal.put_part-requires-clause-filled
put_part-requires-clause-filled g c =
    part_before (g.R.StoredRows.tables c.args.rows.now) (g.R.StoredRows.tables c.loop-part.rows) c.loop-part.invariant.rows _ c.loop-part.invariant.along.filled

pub put_part-requires-clause-uploads : goal.put_part-requires-clause-uploads
put_part-requires-clause-uploads g c = c.requires.uploads ∙ ap (map upload_row) (sym (ap (λ (t : Tables). t.uploads) c.loop-part.invariant.rows))

pub loop-part-init : goal.loop-part-init
loop-part-init g c =
    let first = g.R.StoredRows.tables c.args.rows.now in
    let left = unreversed part_columns c.args.found.items c.reversed-left.result.items c.reversed-left.ensures in
    record {
      rows = refl;
      along = along_start part_row (part_fits first.uploads) (map part_columns c.args.found.items) _ first.parts _ c.requires.none left;
      bodies = ap (λ l. c.args.bodies.now.items ++ flat_map part_numbers l) left;
    }

pub loop-part-preserved : goal.loop-part-preserved
loop-part-preserved g c =
    let tables = g.R.StoredRows.tables in
    let first = tables c.args.rows.now in
    let now = tables c.loop-part.rows in
    let x = part_columns c.in-Some.part in
    let found = map part_columns c.args.found.items in
    let left = map part_columns (reverse c.loop-part.left.items) in
    let rest = map part_columns (reverse c.pop.new.self.items) in
    let step : left ≡ x ∷ rest = popped part_columns c.loop-part.left.items c.pop.new.self.items c.in-Some.part c.in-Some.ensures.items in
    let put = c.in_ok-put_part.ensures.rows in
    let row : SFits w64 c.in-Some.part.row = search rules in
    let filled = c.in_ok-put_part.ensures.filled in
    record {
      rows = parts_grow first now _ (x ∷ []) c.loop-part.invariant.rows put;
      along = part_along first now c.loop-part.invariant.rows _ _ _ x found left rest (to_z-of_z row) c.loop-part.invariant.along step put filled;
      bodies = named_step part_numbers c.args.bodies.now.items c.loop-part.bodies.items _ found left rest x c.loop-part.invariant.bodies step c.in_ok-put_part.ensures.bodies;
    }
