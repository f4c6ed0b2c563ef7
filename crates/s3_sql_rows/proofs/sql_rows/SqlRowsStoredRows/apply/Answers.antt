use Rattle.std.proofs.Common.{refl}
use Rattle.sqlite.specs.Files.{file_state}
use Rattle.s3_stored_rows.specs.Changes.{after_all}
use Rattle.s3_sql_rows.proofs.CleanLemmas.{stays_clean}
use Rattle.s3_sql_rows.proofs.KnownLemmas.{seen, known_after, known_anew, seen_made}
use Rattle.s3_sql_rows.proofs.SnapshotLemmas.{shown_alike}
use Rattle.s3_sql_rows.proofs.sql_rows.SqlRowsStoredRows.apply.Goals as goal

pub invariant_of-self : goal.invariant_of-self
invariant_of-self c =
    let clean = stays_clean (λ _. refl) c.apply.new.self in
    let steps = c.in-Ok.ensures in
    known_anew c.stored_rows_are_unique.ensures (file_state c.apply.new.self) (file_state c.of.result.value) (shown_alike c.of.result.value c.apply.new.self c.of.ensures) (steps.keeps clean) (steps.made clean).is_open

pub invariant_of-self-in-Err : goal.invariant_of-self-in-Err
invariant_of-self-in-Err c =
    known_after (after_all c.args.changes.now) (file_state c.self.inside.file) (file_state c.apply.new.self) (file_state c.self.inside.known.value) (stays_clean (λ _. refl) c.apply.new.self) c.in-Err.field-0 c.in-Err.ensures
    c.self.invariant

pub returns-in-Ok-clause-ok : goal.returns-in-Ok-clause-ok
returns-in-Ok-clause-ok c =
    seen_made (after_all c.args.changes.now) (file_state c.self.inside.file) (file_state c.apply.new.self) c.args.self.now _ (stays_clean (λ _. refl) c.apply.new.self)
    (seen (file_state c.self.inside.file) (file_state c.self.inside.known.value) c.args.self.now c.self.invariant c.self.view_is) c.in-Ok.field-0 c.in-Ok.ensures (shown_alike c.of.result.value c.apply.new.self c.of.ensures)
