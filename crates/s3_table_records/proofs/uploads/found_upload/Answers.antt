use Rattle.s3_table_records.proofs.uploads.found_upload.Goals as goal

pub told_upload-requires : goal.told_upload-requires
told_upload-requires g c = record {
  sound = rw c.found_upload.ensures.same c.requires.kept.rows.sound;
  named = rw c.found_upload.ensures.same c.requires.kept.named;
  found = rw (c.as_ref.ensures.value, c.found_upload.ensures.same) c.in_ok-found.ensures.found;
  rows = rw (c.as_ref.ensures.value, c.found_upload.ensures.same) c.in_ok-found.ensures.rows;
}

pub returns : goal.returns
returns g c = record {
  value = rw c.found_upload.ensures.same at c.told_upload.ensures.value;
  tables = c.found_upload.ensures.same;
  contents = c.told_upload.ensures.contents;
  uses = c.told_upload.ensures.uses;
  stays = c.found_upload.ensures.stays;
  outlives = c.told_upload.ensures.outlives;
}
