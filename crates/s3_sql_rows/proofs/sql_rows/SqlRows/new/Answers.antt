use Rattle.std.proofs.Common.{refl, ◌∙◌}
use Rattle.sqlite.specs.Files.{file_state}
use Rattle.s3_sql_rows.proofs.CleanLemmas.{stays_clean}
use Rattle.s3_sql_rows.proofs.KnownLemmas.{known_anew}
use Rattle.s3_sql_rows.proofs.SnapshotLemmas.{shown_alike}
use Rattle.s3_sql_rows.proofs.sql_rows.SqlRows.new.Goals as goal

pub invariant_of-result : goal.invariant_of-result
invariant_of-result c =
    let made = c.in-Ok-make.ensures.made (stays_clean (λ _. refl) c.in-Ok-make.file) in
    known_anew c.stored_rows_are_unique.ensures (file_state c.in-Ok-make.file) (file_state c.of.result.value) (shown_alike c.of.result.value c.in-Ok-make.file c.of.ensures) made.keeps made.is_open

pub returns-in-Ok-make : goal.returns-in-Ok-make
returns-in-Ok-make c = shown_alike c.of.result.value c.in-Ok-make.file c.of.ensures ∙ (c.in-Ok-make.ensures.made (stays_clean (λ _. refl) c.in-Ok-make.file)).made
