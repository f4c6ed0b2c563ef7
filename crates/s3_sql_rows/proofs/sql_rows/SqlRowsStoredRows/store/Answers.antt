use Rattle.std.proofs.Common.{refl}
use Rattle.std.specs.Prelude.{option_map, slice_get}
use Rattle.sqlite.specs.Files.{file_state}
use Rattle.s3_stored_rows.specs.Changes.{store_columns}
use Rattle.s3_sql_rows.proofs.CleanLemmas.{stays_clean}
use Rattle.s3_sql_rows.proofs.KnownLemmas.{seen, known_still, known_found}
use Rattle.s3_sql_rows.proofs.sql_rows.SqlRowsStoredRows.store.Goals as goal

pub invariant_of-self : goal.invariant_of-self
invariant_of-self c =
    known_still (file_state c.self.inside.file) (file_state c.store.new.self) (file_state c.self.inside.known.value) (stays_clean (λ _. refl) c.store.new.self) c.store.ensures.reads c.self.invariant

pub returns-clause-value : goal.returns-clause-value
returns-clause-value c =
    let clean = stays_clean (λ _. refl) c.store.new.self in
    known_found (file_state c.self.inside.file) (file_state c.store.new.self) c.args.self.now clean c.store.ensures.reads (seen (file_state c.self.inside.file) (file_state c.self.inside.known.value) c.args.self.now c.self.invariant c.self.view_is)
    (option_map store_columns) (λ t. slice_get t.store 0) c.store.result c.told.result c.told.ensures (c.store.ensures.value clean) (c.store.ensures.stays clean)
