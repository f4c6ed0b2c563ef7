use Rattle.std.proofs.Common.{to_z-of_z}
use Rattle.std.specs.Prelude.{Vec, map}
use Rattle.std.specs.declared.alloc.Global.{Global}
use Rattle.s3_stored_rows.specs.declared.rows.StoredVersion.{StoredVersion}
use Rattle.sqlite.specs.Held.{state}
use Rattle.s3_stored_rows.specs.Changes.{version_columns}
use Rattle.s3_tables.proofs.ReadTexts.{older_is, is_plain}
use Rattle.s3_tables.proofs.ReadLemmas.{older_found}
use Rattle.s3_tables.proofs.AnswerLemmas.{as_asked, on_ok}
use Rattle.s3_tables.proofs.table_file.TableFile.versions_below.Goals as goal

pub query-requires : goal.query-requires
query-requires g c = is_plain _ _ _ older_is

pub returns-clause-value : goal.returns-clause-value
returns-clause-value g c clean =
    as_asked (λ (all : Vec StoredVersion Global). map version_columns all.items) c.all_versions.result (rw c.as_slice.ensures.value at c.all_versions.ensures)
    (older_found (state g.S.Store c.args.self.now) (state g.S.Store c.query.new.self) c.in_ok-rows.rows.items c.args.bucket.now c.args.key.now c.args.number c.args.most (rw (c.params-to_sql.ensures, c.params-to_sql-2.ensures, c.params-to_sql-3.ensures, c.params-to_sql-4.ensures, to_z-of_z c.ranges.number) at (c.in_ok-rows.ensures.shown clean)))

pub returns-clause-stays : goal.returns-clause-stays
returns-clause-stays g c clean = on_ok c.all_versions.result (c.in_ok-rows.ensures.stays clean)
