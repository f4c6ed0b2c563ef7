use Rattle.std.proofs.Common.{sym, ap, subst, ◌∙◌, ◌+◌, IsTrue, ◌∷◌, ◌++◌, [], take, arith}
use Rattle.std.proofs.lemmas.Bool.{false≢true}
use Rattle.std.proofs.lemmas.List.{take_all, take_more}
use Rattle.s3_versions.specs.Rules.{is_new_number}
use Rattle.s3_records.specs.Catalogue.{versions_at}
use Rattle.s3_records.specs.Deletions.{deleted_in, all_deleted_in, marker_in, markers_in, may_mark}
use Rattle.s3_records.proofs.DeletionLemmas.{stay_below, all_deleted-push, markers-push}
use Rattle.s3_records.proofs.MergingLemmas.{any_at}
use Rattle.s3_records.proofs.keys.KeyMap.delete_each.Goals as goal

-- the next number is above all that stands there
pub delete_one-requires : goal.delete_one-requires
delete_one-requires c = λ key.
    let n = c.args.number in
    let keys = c.args.self.now in
    subst (λ keys. IsTrue (is_new_number (n + 1) (versions_at keys key))) (sym c.loop-object.invariant.done)
    (stay_below c.args.versioning n c.args.moment c.stay_versions.ensures.new (n + 1) (omega arith) keys (take c.loop-object.object-index c.args.objects.now)
    (λ q. c.stay_versions.ensures.later n (n + 1) (versions_at keys q) (omega arith) (c.requires q)) key)

pub loop-object-preserved : goal.loop-object-preserved
loop-object-preserved c =
    let b = c.args.versioning in
    let n = c.args.number in
    let t = c.args.moment in
    let keys = c.args.self.now in
    let objects = c.args.objects.now in
    let i = c.loop-object.object-index in
    let object = c.object-item.result in
    let so_far = take i objects in
    let more = ap (λ x. so_far ++ x ∷ []) c.object-item.is ∙ sym (take_more objects i object c.loop-object-test.true) in
    record {
      done = c.in-Ok.ensures.ok ∙ ap (λ keys. deleted_in b n t keys object) c.loop-object.invariant.done
          ∙ sym (all_deleted-push b n t keys so_far object) ∙ ap (all_deleted_in b n t keys) more;
      told = c.push_reserved.ensures.items ∙ ap (λ ids. ids ++ c.in-Ok.id ∷ []) c.loop-object.invariant.told
          ∙ ap (λ id. markers_in b n t keys so_far ++ id ∷ []) (c.in-Ok.ensures.marker ∙ ap (λ keys. marker_in b n keys object) c.loop-object.invariant.done)
          ∙ sym (markers-push b n t keys so_far object) ∙ ap (markers_in b n t keys) more;
      count = c.push_reserved.ensures.len ∙ ap (λ k. k + 1) c.loop-object.invariant.count;
      room = c.push_reserved.ensures.capacity ∙ c.loop-object.invariant.room;
    }

-- there is room for what is told of one more
pub push_reserved-requires : goal.push_reserved-requires
push_reserved-requires c =
    let count = c.loop-object.invariant.count in
    let room = c.loop-object.invariant.room in
    let within = c.loop-object-test.true in
    omega (arith, count, room, within)

-- where there is no memory for a delete marker
pub returns-in-Err-clause-err : goal.returns-in-Err-clause-err
returns-in-Err-clause-err c = λ none.
    absurd (false≢true (sym none ∙ any_at (may_mark c.args.versioning) c.args.objects.now c.loop-object.object-index c.object-item.result c.object-item.is c.loop-object-test.true c.in-Err.ensures.memory))

-- all are deleted
pub returns-clause-ok : goal.returns-clause-ok
returns-clause-ok c =
    c.loop-object.invariant.done
    ∙ ap (all_deleted_in c.args.versioning c.args.number c.args.moment c.args.self.now) (take_all c.loop-object.object-index c.args.objects.now c.loop-object-test.false)

pub returns-clause-markers : goal.returns-clause-markers
returns-clause-markers c =
    c.loop-object.invariant.told
    ∙ ap (markers_in c.args.versioning c.args.number c.args.moment c.args.self.now) (take_all c.loop-object.object-index c.args.objects.now c.loop-object-test.false)
