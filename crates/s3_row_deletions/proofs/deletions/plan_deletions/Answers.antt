use Rattle.std.proofs.Common.{sym, subst, to_z-of_z}
use Rattle.s3_stored_bodies.proofs.HeldLemmas.{if_ok}
use Rattle.s3_row_deletions.specs.declared.steps.Entry.{Entry}
use Rattle.s3_row_deletions.specs.Steps.{AreReady, AreSteps}
use Rattle.s3_row_deletions.proofs.StepsLemmas.{ready_first, steps_all}
use Rattle.s3_row_deletions.proofs.deletions.plan_deletions.Goals as goal

-- the tables as they are found
pub delete_each-requires : goal.delete_each-requires
delete_each-requires g c =
    let t = g.R.StoredRows.tables c.args.rows.now in
    let bucket = c.args.bucket.now in
    let e : Entry = record { versioning = c.in_ok-versioning.versioning; number = c.args.number; moment = c.args.moment } in
    subst (AreReady (g.R.StoredRows.tables c.versioning_of.new.rows) bucket e) (sym (to_z-of_z c.ranges.next))
    (subst (λ t. AreReady t bucket e c.args.next) (sym c.versioning_of.ensures.same)
    (ready_first t bucket e c.args.next c.requires.sound c.requires.rowids c.requires.there c.in_ok-versioning.ensures.value c.requires.below))

pub returns-clause-value : goal.returns-clause-value
returns-clause-value g c =
    let t = g.R.StoredRows.tables c.args.rows.now in
    let bucket = c.args.bucket.now in
    let e : Entry = record { versioning = c.in_ok-versioning.versioning; number = c.args.number; moment = c.args.moment } in
    let objects = c.args.objects.now in
    if_ok c.delete_each.result
    (λ d steps. steps_all t bucket e objects d (subst (λ t. AreSteps t bucket e objects d) c.versioning_of.ensures.same steps))
    c.delete_each.ensures.value
