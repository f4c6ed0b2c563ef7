use Rattle.std.proofs.Common.{sym, ap, subst, ◌∙◌, None, SFits, w64, to_z-of_z, rules}
use Rattle.s3_stored_bodies.proofs.HeldLemmas.{if_ok}
use Rattle.s3_stored_rows.specs.Changes.{after_all}
use Rattle.s3_deletions.specs.declared.named.NamedObject.TheVariants.{Object}
use Rattle.s3_columns.specs.Columns.{id_column as column_of}
use Rattle.s3_row_deletions.specs.Steps.{AreReady, IsStep}
use Rattle.s3_row_deletions.proofs.StandingLemmas.{found_at_place}
use Rattle.s3_row_deletions.proofs.StepLemmas.{one_column}
use Rattle.s3_row_deletions.proofs.steps.key_step.Goals as goal

pub returns-clause-value : goal.returns-clause-value
returns-clause-value g c =
    let t = g.R.StoredRows.tables c.args.rows.now in
    let u = after_all c.args.changes.now t in
    let fits : SFits w64 c.in-Some.column = search rules in
    let column = to_z-of_z fits ∙ c.in-Some.ensures.1 ∙ ap column_of c.new_id.ensures ∙ one_column _ in
    let next = to_z-of_z c.ranges.next in
    if_ok c.step_of_key.result
    (λ step is may ready.
    subst (λ x. IsStep u c.args.bucket.now c.args.entry.now x (Object (record { key = c.args.key.now; version = None })) step) next
    (is u (subst (AreReady u c.args.bucket.now c.args.entry.now) (sym next) ready)
    (found_at_place t c.args.changes.now _ _ _ _ _ _ c.in_ok-found.found may c.as_bytes.ensures.value c.as_bytes-2.ensures.value column c.in_ok-found.ensures.value)))
    c.step_of_key.ensures
