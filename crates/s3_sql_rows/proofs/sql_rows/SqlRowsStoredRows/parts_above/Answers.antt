use Rattle.std.proofs.Common.{refl, to_z-of_z}
use Rattle.std.specs.Prelude.{Vec, map, take}
use Rattle.std.specs.declared.alloc.Global.{Global}
use Rattle.s3_stored_rows.specs.declared.rows.StoredPart.{StoredPart}
use Rattle.sqlite.specs.Files.{file_state}
use Rattle.s3_stored_rows.specs.Changes.{part_columns}
use Rattle.s3_stored_rows.specs.Queries as spec
use Rattle.s3_sql_rows.proofs.CleanLemmas.{stays_clean}
use Rattle.s3_sql_rows.proofs.KnownLemmas.{seen, known_still, known_found}
use Rattle.s3_sql_rows.proofs.sql_rows.SqlRowsStoredRows.parts_above.Goals as goal

pub invariant_of-self : goal.invariant_of-self
invariant_of-self c =
    known_still (file_state c.self.inside.file) (file_state c.parts_above.new.self) (file_state c.self.inside.known.value) (stays_clean (λ _. refl) c.parts_above.new.self) c.parts_above.ensures.reads c.self.invariant

pub returns-clause-value : goal.returns-clause-value
returns-clause-value c =
    let clean = stays_clean (λ _. refl) c.parts_above.new.self in
    known_found (file_state c.self.inside.file) (file_state c.parts_above.new.self) c.args.self.now clean c.parts_above.ensures.reads (seen (file_state c.self.inside.file) (file_state c.self.inside.known.value) c.args.self.now c.self.invariant c.self.view_is)
    (λ (all : Vec StoredPart Global). map part_columns all.items) (λ t. take c.args.most (spec.parts_above c.args.upload c.args.part t)) c.parts_above.result c.told.result c.told.ensures (rw (to_z-of_z c.ranges.upload, to_z-of_z c.ranges.part) at (c.parts_above.ensures.value clean)) (c.parts_above.ensures.stays clean)
