use Rattle.std.specs.Prelude.{Vec, map}
use Rattle.std.specs.declared.alloc.Global.{Global}
use Rattle.s3_stored_rows.specs.declared.rows.StoredVersion.{StoredVersion}
use Rattle.sqlite.specs.Held.{state}
use Rattle.s3_stored_rows.specs.Changes.{version_columns}
use Rattle.s3_tables.proofs.ReadTexts.{is_plain}
use Rattle.s3_tables.proofs.RowTexts.{version_rows_is}
use Rattle.s3_tables.proofs.RowReadLemmas.{version_rows_found}
use Rattle.s3_tables.proofs.AnswerLemmas.{as_asked, on_ok}
use Rattle.s3_tables.proofs.table_file.TableFile.version_rows.Goals as goal

pub query-requires : goal.query-requires
query-requires g c = is_plain _ _ _ version_rows_is

pub returns-clause-value : goal.returns-clause-value
returns-clause-value g c clean =
    as_asked (λ (all : Vec StoredVersion Global). map version_columns all.items) c.all_versions.result (rw c.as_slice.ensures.value at c.all_versions.ensures)
    (version_rows_found (state g.S.Store c.args.self.now) (state g.S.Store c.query.new.self) c.in_ok-rows.rows.items (c.in_ok-rows.ensures.shown clean))

pub returns-clause-stays : goal.returns-clause-stays
returns-clause-stays g c clean = on_ok c.all_versions.result (c.in_ok-rows.ensures.stays clean)
