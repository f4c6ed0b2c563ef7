use Rattle.std.proofs.Common.{refl, ◌∙◌, SFits, w64, to_z-of_z, rules}
use Rattle.s3_stored_rows.specs.Changes.{store_columns}
use Rattle.s3_found_rows.proofs.PutLemmas.{store_put}
use Rattle.s3_found_rows.proofs.store.replace_store.Goals as goal

pub returns : goal.returns
returns g c =
    let t = g.R.StoredRows.tables c.args.rows.now in
    let row : SFits w64 c.args.store.now.row = search rules in
    let form : SFits w64 c.args.store.now.form = search rules in
    let number : SFits w64 c.args.store.now.number = search rules in
    let made = rw (to_z-of_z row, to_z-of_z form, to_z-of_z number) at c.in_ok-apply.ensures.ok in
    made ∙ store_put t c.requires.0 (store_columns c.args.store.now) _ c.requires.1 refl c.requires.2
