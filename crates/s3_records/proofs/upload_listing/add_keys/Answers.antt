use Rattle.s3_records.specs.OpenUploads.{upload_rows_of}
use Rattle.s3_records.proofs.ListLemmas.{next_added, next_told, cut_fits}
use Rattle.s3_records.proofs.upload_listing.add_keys.Goals as goal

pub loop-key-preserved : goal.loop-key-preserved
loop-key-preserved c =
    let adds = c.in-Ok.ensures.ok in
    record {
      rows = next_added upload_rows_of c.args.most c.loop-key.rows.items c.add_rows.new.rows.items _ (c.in-Some.key.now, c.in-Some.uploads.now) c.loop-key.key-iterator c.next.new.self c.loop-key.invariant.rows c.in-Some.ensures.steps adds;
      few = cut_fits c.args.most _ c.add_rows.new.rows.items adds;
    }

pub returns-in-Err-clause-memory : goal.returns-in-Err-clause-memory
returns-in-Err-clause-memory c =
    next_told upload_rows_of c.args.most c.loop-key.rows.items _ (c.in-Some.key.now, c.in-Some.uploads.now) c.loop-key.key-iterator c.next.new.self c.loop-key.invariant.rows c.in-Some.ensures.steps c.in-Err.ensures.memory
