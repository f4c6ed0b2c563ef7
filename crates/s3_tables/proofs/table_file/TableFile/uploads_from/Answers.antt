use Rattle.std.specs.Prelude.{Vec, map}
use Rattle.std.specs.declared.alloc.Global.{Global}
use Rattle.s3_stored_rows.specs.declared.rows.StoredUpload.{StoredUpload}
use Rattle.sqlite.specs.Held.{state}
use Rattle.s3_stored_rows.specs.Changes.{upload_columns}
use Rattle.s3_tables.proofs.ReadTexts.{uploads_on_is, is_plain}
use Rattle.s3_tables.proofs.ReadLemmas.{uploads_on_found}
use Rattle.s3_tables.proofs.AnswerLemmas.{as_asked, on_ok}
use Rattle.s3_tables.proofs.table_file.TableFile.uploads_from.Goals as goal

pub query-requires : goal.query-requires
query-requires g c = is_plain _ _ _ uploads_on_is

pub returns-clause-value : goal.returns-clause-value
returns-clause-value g c clean =
    as_asked (λ (all : Vec StoredUpload Global). map upload_columns all.items) c.all_uploads.result (rw c.as_slice.ensures.value at c.all_uploads.ensures)
    (uploads_on_found (state g.S.Store c.args.self.now) (state g.S.Store c.query.new.self) c.in_ok-rows.rows.items c.args.bucket.now c.args.key.now c.args.most (rw (c.params-to_sql.ensures, c.params-to_sql-2.ensures, c.params-to_sql-3.ensures) at (c.in_ok-rows.ensures.shown clean)))

pub returns-clause-stays : goal.returns-clause-stays
returns-clause-stays g c clean = on_ok c.all_uploads.result (c.in_ok-rows.ensures.stays clean)
