use Rattle.std.proofs.Common.{◌∙◌, pos}
use Rattle.std.specs.Option.{option_copied}
use Rattle.s3_stored_rows.specs.Queries.{upload_of_id}
use Rattle.s3_table_records.proofs.UploadLemmas.{numbers_sent}
use Rattle.s3_table_records.proofs.found.read_upload.Goals as goal

pub returns : goal.returns
returns g c =
    let t = g.R.StoredRows.tables c.args.rows.now in
    record {
      upload = c.in_ok-upload.ensures.value;
      names = c.in_ok-names.ensures ∙ numbers_sent t (option_copied c.args.found) (upload_of_id c.args.bucket.now c.args.key.now (pos c.args.id) t) c.requires.found c.requires.rows;
      contents = c.told_upload.ensures.contents;
      uses = c.told_upload.ensures.uses;
      outlives = c.told_upload.ensures.outlives;
    }
