use Rattle.std.proofs.Common.{◌∙◌}
use Rattle.sqlite.specs.Held.{state}
use Rattle.s3_tables.proofs.ReadTexts.{any_version_is, is_plain}
use Rattle.s3_tables.proofs.ReadLemmas.{any_version_found}
use Rattle.s3_tables.proofs.table_file.TableFile.has_versions.Goals as goal

pub query-requires : goal.query-requires
query-requires g c = is_plain _ _ _ any_version_is

pub returns-clause-value : goal.returns-clause-value
returns-clause-value g c clean =
    (rw c.as_slice.ensures.value at c.has_row.ensures) ∙ any_version_found (state g.S.Store c.args.self.now) (state g.S.Store c.query.new.self) c.in_ok-rows.rows.items c.args.bucket.now (rw c.params-to_sql.ensures at (c.in_ok-rows.ensures.shown clean))
