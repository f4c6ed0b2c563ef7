use Rattle.s3_table_records.proofs.dropping.change_all.Goals as goal

pub returns-in-Ok : goal.returns-in-Ok
returns-in-Ok g c = record {
  tables = c.in-Ok.ensures.ok;
  uses = c.give_up_all.ensures.uses;
  contents = c.give_up_all.ensures.contents;
  same_tables = tt;
  same_uses = tt;
  same_contents = tt;
  stays = c.apply.ensures.stays;
  outlives = c.give_up_all.ensures.outlives;
}
