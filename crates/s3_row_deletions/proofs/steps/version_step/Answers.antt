use Rattle.std.proofs.Common.{sym, ap, subst, ◌∙◌, Some, None, cond, option_map, SFits, w64, to_z-of_z, rules}
use Rattle.s3_deletions.specs.declared.named.NamedObject.TheVariants.{Object}
use Rattle.s3_stored_rows.specs.Changes.{after_all}
use Rattle.s3_row_deletions.specs.Standing.{shown}
use Rattle.s3_row_deletions.specs.Steps.{is_marker_shown, IsStep}
use Rattle.s3_row_deletions.proofs.StandingLemmas.{found_at_place}
use Rattle.s3_row_deletions.proofs.StepLemmas.{young_step, older_differs, dropped_step, one_column}
use Rattle.s3_row_deletions.proofs.steps.version_step.Goals as goal

-- the id is of the entry or a later one
pub returns-then-not-is_older-clause-value : goal.returns-then-not-is_older-clause-value
returns-then-not-is_older-clause-value g c = λ may ready.
    let u = after_all c.args.changes.now (g.R.StoredRows.tables c.args.rows.now) in
    subst (IsStep u c.args.bucket.now c.args.entry.now c.args.next (Object (record { key = c.args.key.now; version = Some c.args.id }))) (sym c.nothing.ensures)
    (young_step u c.args.bucket.now c.args.entry.now c.args.next ready c.args.key.now c.args.id (sym c.is_older.ensures ∙ c.if-not-is_older.true))

-- the row of the version goes
pub returns-clause-value : goal.returns-clause-value
returns-clause-value g c = λ may ready.
    let t = g.R.StoredRows.tables c.args.rows.now in
    let u = after_all c.args.changes.now t in
    let fits : SFits w64 c.in-Some.column = search rules in
    let column = to_z-of_z fits ∙ c.in-Some.ensures.1 ∙ one_column c.args.id in
    let same = found_at_place t c.args.changes.now _ _ _ _ _ _ c.in_ok-found.found may c.as_bytes.ensures.value c.as_bytes-2.ensures.value column c.in_ok-found.ensures.value in
    let marker = c.marker_of-marker.ensures ∙ ap (λ o. cond (is_marker_shown (option_map shown o)) (Some c.args.id) None) c.as_ref.ensures.value in
    subst (IsStep u c.args.bucket.now c.args.entry.now c.args.next (Object (record { key = c.args.key.now; version = Some c.args.id })))
    (ap (λ m. record { gone = c.in_ok-found.found; comes = None; marker = m }) (sym marker) ∙ sym c.without.ensures)
    (dropped_step u c.args.bucket.now c.args.entry.now c.args.next ready c.args.key.now c.args.id c.in_ok-found.found same (older_differs c.args.entry.now.number c.args.id (sym c.is_older.ensures ∙ c.if-not-is_older.false)))
