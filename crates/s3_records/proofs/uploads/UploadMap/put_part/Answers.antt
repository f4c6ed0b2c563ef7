use Rattle.std.proofs.Common.{refl, ap, subst, ◌∙◌, IsTrue, is_some, Some, None, option_map}
use Rattle.std.specs.FinMap as map
use Rattle.s3_uploads.specs.Parts.{part_at}
use Rattle.s3_uploads.specs.Uploads.{with_part}
use Rattle.s3_records.specs.OpenUploads.{found_uploads, upload_under, parts_sent}
use Rattle.s3_records.proofs.KeyLemmas.{then_ok, then_err, written, left}
use Rattle.s3_records.proofs.UploadLemmas.{kept, none_open, some_after}
use Rattle.s3_text.proofs.MapLemmas.{get_by_tree}
use Rattle.s3_records.proofs.uploads.UploadMap.put_part.Goals as goal

-- the key has uploads, and this one among them
pub unreachable-requires : goal.unreachable-requires
unreachable-requires c =
    none_open c.args.self.now c.args.key.now c.args.id (get_by_tree c.self.inside.by_key.entries c.args.self.now c.args.key.now None c.self.view_is c.in-None.ensures.value) c.requires

pub put_part-requires : goal.put_part-requires
put_part-requires c =
    let there = get_by_tree c.self.inside.by_key.entries c.args.self.now c.args.key.now (Some c.in-Some.uploads.now) c.self.view_is c.in-Some.ensures.value in
    subst (λ found. IsTrue (is_some (map.get (found_uploads found) c.args.id))) there c.requires

pub returns-clause-ok : goal.returns-clause-ok
returns-clause-ok c =
    let s = c.args.self.now in
    let key = c.args.key.now in
    let id = c.args.id in
    let old = c.in-Some.uploads.now in
    let there = get_by_tree c.self.inside.by_key.entries s key (Some old) c.self.view_is c.in-Some.ensures.value in
    let new = c.put_part.new.self in
    then_ok c.put_part.result
    (λ is. written c.self.inside.by_key (c.get_mut.follows.lender new) s key old new new c.self.view_is c.in-Some.ensures.value (c.get_mut.follows.holds new) refl
    ∙ kept s key id (option_map (with_part c.args.number c.args.part)) (Some old) new there is (some_after (with_part c.args.number c.args.part) (upload_under s key id) c.requires))
    c.put_part.ensures.ok

pub returns-clause-err : goal.returns-clause-err
returns-clause-err c =
    then_err c.put_part.result
    (left c.self.inside.by_key (c.get_mut.follows.lender c.put_part.new.self) c.args.self.now c.args.key.now c.in-Some.uploads.now c.put_part.new.self c.self.view_is c.in-Some.ensures.value (c.get_mut.follows.holds c.put_part.new.self))
    c.put_part.ensures.err

pub returns-clause-former : goal.returns-clause-former
returns-clause-former c =
    let there = get_by_tree c.self.inside.by_key.entries c.args.self.now c.args.key.now (Some c.in-Some.uploads.now) c.self.view_is c.in-Some.ensures.value in
    rw (ap (λ found. part_at c.args.number (parts_sent (map.get (found_uploads found) c.args.id))) there) c.put_part.ensures.former

pub returns-clause-memory : goal.returns-clause-memory
returns-clause-memory c =
    let there = get_by_tree c.self.inside.by_key.entries c.args.self.now c.args.key.now (Some c.in-Some.uploads.now) c.self.view_is c.in-Some.ensures.value in
    rw (ap (λ found. part_at c.args.number (parts_sent (map.get (found_uploads found) c.args.id))) there) c.put_part.ensures.memory
