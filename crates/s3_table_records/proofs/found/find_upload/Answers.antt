use Rattle.s3_table_records.proofs.found.find_upload.Goals as goal

pub read_upload-requires : goal.read_upload-requires
read_upload-requires g c = record {
  sound = rw c.found_upload.ensures.same c.requires.kept.rows.sound;
  named = rw c.found_upload.ensures.same c.requires.kept.named;
  found = rw (c.as_ref.ensures.value, c.found_upload.ensures.same) c.in_ok-found.ensures.found;
  rows = rw (c.as_ref.ensures.value, c.found_upload.ensures.same) c.in_ok-found.ensures.rows;
}

pub returns : goal.returns
returns g c = record {
  found = c.in_ok-found.ensures.found;
  rows = c.in_ok-found.ensures.rows;
  told = rw c.found_upload.ensures.same at c.in_ok-told.ensures.upload;
  names = rw c.found_upload.ensures.same at c.in_ok-told.ensures.names;
  tables = c.found_upload.ensures.same;
  contents = c.read_upload.ensures.contents;
  uses = c.read_upload.ensures.uses;
  stays = c.found_upload.ensures.stays;
  outlives = c.read_upload.ensures.outlives;
}
