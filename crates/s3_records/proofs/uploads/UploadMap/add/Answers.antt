use Rattle.std.proofs.Common.{refl, ap, ◌∙◌, Some, None}
use Rattle.std.specs.FinMap as map
use Rattle.s3_records.specs.Changes.{with_id}
use Rattle.s3_records.proofs.KeyLemmas.{then_ok, then_err, written, left}
use Rattle.s3_records.proofs.UploadLemmas.{kept}
use Rattle.s3_text.proofs.MapLemmas.{get_by_tree, made_by_insert}
use Rattle.s3_records.proofs.uploads.UploadMap.add.Goals as goal

-- where the key has uploads
pub returns-in-Some-clause-ok : goal.returns-in-Some-clause-ok
returns-in-Some-clause-ok c =
    let s = c.args.self.now in
    let key = c.args.key in
    let old = c.in-Some.uploads.now in
    let new = c.put.new.self in
    let there = get_by_tree c.self.inside.by_key.entries s key (Some old) c.self.view_is c.in-Some.ensures.value in
    then_ok c.put.result
    (λ is. written c.self.inside.by_key (c.get_mut.follows.lender new) s key old new new c.self.view_is c.in-Some.ensures.value (c.get_mut.follows.holds new) refl
    ∙ kept s key c.args.id (λ found. Some c.args.upload) (Some old) new there is refl)
    c.put.ensures.ok

pub returns-in-Some-clause-err : goal.returns-in-Some-clause-err
returns-in-Some-clause-err c =
    then_err c.put.result
    (left c.self.inside.by_key (c.get_mut.follows.lender c.put.new.self) c.args.self.now c.args.key c.in-Some.uploads.now c.put.new.self c.self.view_is c.in-Some.ensures.value (c.get_mut.follows.holds c.put.new.self))
    c.put.ensures.err

-- where it has none
pub returns-in-None-clause-ok : goal.returns-in-None-clause-ok
returns-in-None-clause-ok c =
    let s = c.args.self.now in
    let key = c.args.key in
    let new = with_id map.empty c.args.id (Some c.args.upload) in
    let absent = get_by_tree c.self.inside.by_key.entries s key None c.self.view_is c.in-None.ensures.value in
    let before = ap (λ tree. map.from_entries tree.entries) c.get_mut.follows.holds-at-none ∙ c.self.view_is in
    then_ok c.put-in-None.result
    (λ updates. made_by_insert c.get_mut.follows.lender-at-none.entries c.put-in-None.new.tree.entries key new updates.0
    ∙ ap (λ m. map.insert m key new) before
    ∙ kept s key c.args.id (λ found. Some c.args.upload) None new absent refl refl)
    (c.put-in-None.ensures.ok new c.of.ensures)
