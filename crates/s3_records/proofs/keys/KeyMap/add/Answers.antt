use Rattle.std.proofs.Common.{refl, sym, ap, subst, ◌∙◌, Some, None, []}
use Rattle.std.specs.FinMap as map
use Rattle.s3_versions.specs.Rules.{after_adding, replaced}
use Rattle.s3_records.specs.Catalogue.{HaveVersions, found_versions}
use Rattle.s3_records.proofs.KeyLemmas.{then_ok, then_err, on_err, written, left, held_after, held_after_put}
use Rattle.s3_text.proofs.MapLemmas.{get_by_tree, made_by_insert}
use Rattle.s3_records.proofs.keys.KeyMap.add.Goals as goal

-- where the key has versions
pub add-requires : goal.add-requires
add-requires c =
    let there = get_by_tree c.self.inside.by_key.entries c.args.self.now c.args.key (Some c.in-Some.versions.now) c.self.view_is c.in-Some.ensures.value in
    rw (sym (ap found_versions there)) c.requires

pub returns-in-Some-clause-ok : goal.returns-in-Some-clause-ok
returns-in-Some-clause-ok c =
    let s = c.args.self.now in
    let key = c.args.key in
    let old = c.in-Some.versions.now in
    let there = get_by_tree c.self.inside.by_key.entries s key (Some old) c.self.view_is c.in-Some.ensures.value in
    let added = after_adding c.args.versioning c.args.number c.args.moment c.args.content in
    then_ok c.add.result
    (λ is. written c.self.inside.by_key (c.get_mut.follows.lender c.add.new.self) s key old c.add.new.self (added old) c.self.view_is c.in-Some.ensures.value (c.get_mut.follows.holds c.add.new.self) is
    ∙ ap (λ found. map.insert s key (added (found_versions found))) (sym there))
    c.add.ensures.ok

pub returns-in-Some-clause-err : goal.returns-in-Some-clause-err
returns-in-Some-clause-err c =
    then_err c.add.result
    (left c.self.inside.by_key (c.get_mut.follows.lender c.add.new.self) c.args.self.now c.args.key c.in-Some.versions.now c.add.new.self c.self.view_is c.in-Some.ensures.value (c.get_mut.follows.holds c.add.new.self))
    c.add.ensures.err

pub returns-in-Some-clause-memory : goal.returns-in-Some-clause-memory
returns-in-Some-clause-memory c =
    let there = get_by_tree c.self.inside.by_key.entries c.args.self.now c.args.key (Some c.in-Some.versions.now) c.self.view_is c.in-Some.ensures.value in
    rw (ap found_versions there) c.add.ensures.memory

-- where it has none
pub returns-in-None-clause-ok : goal.returns-in-None-clause-ok
returns-in-None-clause-ok c =
    let s = c.args.self.now in
    let key = c.args.key in
    let absent = get_by_tree c.self.inside.by_key.entries s key None c.self.view_is c.in-None.ensures.value in
    let added = after_adding c.args.versioning c.args.number c.args.moment c.args.content in
    let before = ap (λ tree. map.from_entries tree.entries) c.get_mut.follows.holds-at-none ∙ c.self.view_is in
    then_ok c.put.result
    (λ updates. made_by_insert c.get_mut.follows.lender-at-none.entries c.put.new.tree.entries key (added []) updates.0
    ∙ ap (λ m. map.insert m key (added [])) before
    ∙ ap (λ found. map.insert s key (added (found_versions found))) (sym absent))
    (c.put.ensures.ok (added []) c.first_version-first.ensures)

pub returns-in-None-clause-memory : goal.returns-in-None-clause-memory
returns-in-None-clause-memory c =
    let absent = get_by_tree c.self.inside.by_key.entries c.args.self.now c.args.key None c.self.view_is c.in-None.ensures.value in
    on_err c.put.result (ap (λ found. replaced c.args.versioning c.args.number (found_versions found)) absent)

-- no key is there without versions
pub invariant_of-self : goal.invariant_of-self
invariant_of-self c =
    let m = map.from_entries c.self.inside.by_key.entries in
    let new = c.add.new.self in
    held_after c.add.result m _ c.args.key c.in-Some.versions.now new _ _ c.self.invariant
    (get_by_tree c.self.inside.by_key.entries m c.args.key (Some c.in-Some.versions.now) refl c.in-Some.ensures.value)
    (written c.self.inside.by_key (c.get_mut.follows.lender new) m c.args.key c.in-Some.versions.now new new refl c.in-Some.ensures.value (c.get_mut.follows.holds new) refl)
    c.add.ensures.ok c.add.ensures.err

pub invariant_of-self-in-None : goal.invariant_of-self-in-None
invariant_of-self-in-None c =
    let added = after_adding c.args.versioning c.args.number c.args.moment c.args.content [] in
    let before = subst (λ tree. HaveVersions (map.from_entries tree.entries)) (sym c.get_mut.follows.holds-at-none) c.self.invariant in
    held_after_put c.put.result c.get_mut.follows.lender-at-none c.put.new.tree c.args.key added (λ none. cc) before
    (c.put.ensures.ok added c.first_version-first.ensures) c.put.ensures.err
