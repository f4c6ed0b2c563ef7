use Rattle.std.proofs.Common.{refl, sym, ap, ◌∙◌, Some, None}
use Rattle.std.specs.FinMap as map
use Rattle.std.specs.Ordering.{nat_cmp}
use Rattle.s3_records.specs.Changes.{with_id, with_uploads}
use Rattle.s3_records.specs.OpenUploads.{found_uploads}
use Rattle.s3_records.proofs.KeyLemmas.{written}
use Rattle.s3_records.proofs.UploadLemmas.{with_rest, with_none, drop_none}
use Rattle.s3_text.proofs.MapLemmas.{get_by_tree}
use Rattle.s3_records.proofs.MapLemmas.{made_by_remove, remove-over}
use Rattle.s3_records.proofs.uploads.UploadMap.drop_upload.Goals as goal

-- where the key has no uploads
pub returns-in-None-clause-value : goal.returns-in-None-clause-value
returns-in-None-clause-value c =
    let s = c.args.self.now in
    let absent = get_by_tree c.self.inside.by_key.entries s c.args.key.now None c.self.view_is c.in-None.ensures.value in
    ap (λ tree. map.from_entries tree.entries) c.get_mut.follows.holds-at-none ∙ c.self.view_is
    ∙ drop_none s c.args.key.now c.args.id absent

pub returns-in-None-clause-gone : goal.returns-in-None-clause-gone
returns-in-None-clause-gone c =
    let absent = get_by_tree c.self.inside.by_key.entries c.args.self.now c.args.key.now None c.self.view_is c.in-None.ensures.value in
    sym (ap (λ found. map.get (found_uploads found) c.args.id) absent ∙ map.get-empty nat_cmp c.args.id)

-- where it has uploads after
pub returns-else-is_empty-clause-value : goal.returns-else-is_empty-clause-value
returns-else-is_empty-clause-value c =
    let s = c.args.self.now in
    let key = c.args.key.now in
    let old = c.in-Some.uploads.now in
    let after = c.drop_upload-gone.new.self in
    let there = get_by_tree c.self.inside.by_key.entries s key (Some old) c.self.view_is c.in-Some.ensures.value in
    let same = c.drop_upload-gone.ensures.value ∙ ap (λ found. with_id (found_uploads found) c.args.id None) (sym there) in
    written c.self.inside.by_key (c.get_mut.follows.lender after) s key old after after c.self.view_is c.in-Some.ensures.value (c.get_mut.follows.holds after) refl
    ∙ with_rest s key after (sym c.is_empty.ensures ∙ c.if-is_empty.false)
    ∙ ap (with_uploads s key) same

pub returns-else-is_empty-clause-gone : goal.returns-else-is_empty-clause-gone
returns-else-is_empty-clause-gone c =
    let there = get_by_tree c.self.inside.by_key.entries c.args.self.now c.args.key.now (Some c.in-Some.uploads.now) c.self.view_is c.in-Some.ensures.value in
    c.drop_upload-gone.ensures.gone ∙ ap (λ found. map.get (found_uploads found) c.args.id) (sym there)

-- where the last one goes, and the key with it
pub returns-then-is_empty-clause-value : goal.returns-then-is_empty-clause-value
returns-then-is_empty-clause-value c =
    let s = c.args.self.now in
    let key = c.args.key.now in
    let old = c.in-Some.uploads.now in
    let after = c.drop_upload-gone.new.self in
    let lent = c.get_mut.follows.lender after in
    let there = get_by_tree c.self.inside.by_key.entries s key (Some old) c.self.view_is c.in-Some.ensures.value in
    let same = c.drop_upload-gone.ensures.value ∙ ap (λ found. with_id (found_uploads found) c.args.id None) (sym there) in
    made_by_remove lent.entries c.remove.new.self.entries key c.remove.ensures.updates.0
    ∙ ap (λ m. map.remove m key) (written c.self.inside.by_key lent s key old after after c.self.view_is c.in-Some.ensures.value (c.get_mut.follows.holds after) refl)
    ∙ remove-over s key after
    ∙ with_none s key after (sym c.is_empty.ensures ∙ c.if-is_empty.true)
    ∙ ap (with_uploads s key) same

pub returns-then-is_empty-clause-gone : goal.returns-then-is_empty-clause-gone
returns-then-is_empty-clause-gone c =
    let there = get_by_tree c.self.inside.by_key.entries c.args.self.now c.args.key.now (Some c.in-Some.uploads.now) c.self.view_is c.in-Some.ensures.value in
    c.drop_upload-gone.ensures.gone ∙ ap (λ found. map.get (found_uploads found) c.args.id) (sym there)
