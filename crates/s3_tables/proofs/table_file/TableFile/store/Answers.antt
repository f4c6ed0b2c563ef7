use Rattle.std.specs.Prelude.{option_map}
use Rattle.sqlite.specs.Held.{state}
use Rattle.s3_stored_rows.specs.Changes.{store_columns}
use Rattle.s3_tables.proofs.ReadTexts.{the_store_is, is_plain}
use Rattle.s3_tables.proofs.ReadLemmas.{the_store_found}
use Rattle.s3_tables.proofs.AnswerLemmas.{as_asked, on_ok}
use Rattle.s3_tables.proofs.table_file.TableFile.store.Goals as goal

pub query-requires : goal.query-requires
query-requires g c = is_plain _ _ _ the_store_is

pub returns-clause-value : goal.returns-clause-value
returns-clause-value g c clean =
    as_asked (option_map store_columns) c.first_store.result (rw c.as_slice.ensures.value at c.first_store.ensures)
    (the_store_found (state g.S.Store c.args.self.now) (state g.S.Store c.query.new.self) c.in_ok-rows.rows.items (c.in_ok-rows.ensures.shown clean))

pub returns-clause-stays : goal.returns-clause-stays
returns-clause-stays g c clean = on_ok c.first_store.result (c.in_ok-rows.ensures.stays clean)
