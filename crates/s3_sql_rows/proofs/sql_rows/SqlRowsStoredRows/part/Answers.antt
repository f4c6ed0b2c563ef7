use Rattle.std.proofs.Common.{refl, to_z-of_z}
use Rattle.std.specs.Prelude.{option_map}
use Rattle.sqlite.specs.Files.{file_state}
use Rattle.s3_stored_rows.specs.Changes.{part_columns}
use Rattle.s3_stored_rows.specs.Queries as spec
use Rattle.s3_sql_rows.proofs.CleanLemmas.{stays_clean}
use Rattle.s3_sql_rows.proofs.KnownLemmas.{seen, known_still, known_found}
use Rattle.s3_sql_rows.proofs.sql_rows.SqlRowsStoredRows.part.Goals as goal

pub invariant_of-self : goal.invariant_of-self
invariant_of-self c =
    known_still (file_state c.self.inside.file) (file_state c.part.new.self) (file_state c.self.inside.known.value) (stays_clean (λ _. refl) c.part.new.self) c.part.ensures.reads c.self.invariant

pub returns-clause-value : goal.returns-clause-value
returns-clause-value c =
    let clean = stays_clean (λ _. refl) c.part.new.self in
    known_found (file_state c.self.inside.file) (file_state c.part.new.self) c.args.self.now clean c.part.ensures.reads (seen (file_state c.self.inside.file) (file_state c.self.inside.known.value) c.args.self.now c.self.invariant c.self.view_is)
    (option_map part_columns) (spec.part_of_number c.args.upload c.args.part) c.part.result c.told.result c.told.ensures (rw (to_z-of_z c.ranges.upload, to_z-of_z c.ranges.part) at (c.part.ensures.value clean)) (c.part.ensures.stays clean)
