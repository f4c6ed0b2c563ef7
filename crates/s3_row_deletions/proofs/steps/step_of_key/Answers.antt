use Rattle.std.proofs.Common.{sym, ap, subst, ◌∙◌, None, option_map, to_z-of_z, IfOk}
use Rattle.s3_stored_bodies.proofs.HeldLemmas.{if_ok}
use Rattle.s3_deletions.specs.declared.named.NamedObject.TheVariants.{Object}
use Rattle.s3_row_deletions.specs.Standing.{shown}
use Rattle.s3_row_deletions.specs.Steps.{is_made, IsStep, IsMark}
use Rattle.s3_row_deletions.proofs.StepLemmas.{enabled_or_suspended, made_step, null_step, mark_step}
use Rattle.s3_row_deletions.proofs.steps.step_of_key.Goals as goal

-- the entry made what stands there
pub returns-then-is_made : goal.returns-then-is_made
returns-then-is_made c = λ t ready same.
    let n = c.args.entry.now.number in
    let is = ap (λ o. is_made n (option_map shown o)) (sym c.as_ref.ensures.value) ∙ sym c.is_made.ensures ∙ c.if-is_made.true in
    subst (IsStep t c.args.bucket.now c.args.entry.now c.args.next (Object (record { key = c.args.key.now; version = None }))) (sym c.nothing.ensures)
    (made_step t c.args.bucket.now c.args.entry.now c.args.next ready c.args.key.now c.args.found same is)

-- the bucket is unversioned
pub returns-in-Unversioned : goal.returns-in-Unversioned
returns-in-Unversioned c = λ t ready same.
    let n = c.args.entry.now.number in
    let none = ap (λ o. is_made n (option_map shown o)) (sym c.as_ref.ensures.value) ∙ sym c.is_made.ensures ∙ c.if-is_made.false in
    subst (IsStep t c.args.bucket.now c.args.entry.now c.args.next (Object (record { key = c.args.key.now; version = None }))) (sym c.without.ensures)
    (null_step t c.args.bucket.now c.args.entry.now c.args.next ready c.args.key.now c.args.found same none c.in-Unversioned.is)

-- it is not
pub returns-in-Enabled : goal.returns-in-Enabled
returns-in-Enabled c =
    let n = c.args.entry.now.number in
    let none = ap (λ o. is_made n (option_map shown o)) (sym c.as_ref.ensures.value) ∙ sym c.is_made.ensures ∙ c.if-is_made.false in
    if_ok c.mark.result
    (λ step marks t ready same.
    mark_step t c.args.bucket.now c.args.entry.now c.args.next ready c.args.key.now c.args.found same none
    (enabled_or_suspended c.args.entry.now.versioning c.in-Enabled.is) step marks)
    (subst (λ next. IfOk c.mark.result (IsMark c.args.bucket.now c.args.entry.now next c.args.key.now c.args.found)) (to_z-of_z c.ranges.next) c.mark.ensures)
