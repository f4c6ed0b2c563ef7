use Rattle.std.proofs.Common.{refl, sym, ap, ◌∙◌, Some, None}
use Rattle.std.specs.FinMap as map
use Rattle.s3_versions.specs.Rules.{after_adding, replaced}
use Rattle.s3_records.specs.Catalogue.{found_versions}
use Rattle.s3_records.proofs.KeyLemmas.{then_ok, then_err, written, left, held_after}
use Rattle.s3_text.proofs.MapLemmas.{get_by_tree}
use Rattle.s3_records.proofs.keys.KeyMap.add_at.Goals as goal

-- where the key has versions
pub add-requires : goal.add-requires
add-requires c =
    let there = get_by_tree c.self.inside.by_key.entries c.args.self.now c.args.key.now (Some c.in-Some.versions.now) c.self.view_is c.in-Some.ensures.value in
    rw (sym (ap found_versions there)) c.requires

pub returns-in-Some-clause-ok : goal.returns-in-Some-clause-ok
returns-in-Some-clause-ok c =
    let s = c.args.self.now in
    let key = c.args.key.now in
    let old = c.in-Some.versions.now in
    let there = get_by_tree c.self.inside.by_key.entries s key (Some old) c.self.view_is c.in-Some.ensures.value in
    let added = after_adding c.args.versioning c.args.number c.args.moment c.args.content in
    then_ok c.add.result
    (λ is. written c.self.inside.by_key (c.get_mut.follows.lender c.add.new.self) s key old c.add.new.self (added old) c.self.view_is c.in-Some.ensures.value (c.get_mut.follows.holds c.add.new.self) is
    ∙ ap (λ found. map.insert s key (added (found_versions found))) (sym there))
    c.add.ensures.ok

pub returns-in-Some-clause-err : goal.returns-in-Some-clause-err
returns-in-Some-clause-err c =
    then_err c.add.result
    (left c.self.inside.by_key (c.get_mut.follows.lender c.add.new.self) c.args.self.now c.args.key.now c.in-Some.versions.now c.add.new.self c.self.view_is c.in-Some.ensures.value (c.get_mut.follows.holds c.add.new.self))
    c.add.ensures.err

pub returns-in-Some-clause-memory : goal.returns-in-Some-clause-memory
returns-in-Some-clause-memory c =
    let there = get_by_tree c.self.inside.by_key.entries c.args.self.now c.args.key.now (Some c.in-Some.versions.now) c.self.view_is c.in-Some.ensures.value in
    rw (ap found_versions there) c.add.ensures.memory

-- where it has none
pub returns-in-Err-clause-memory : goal.returns-in-Err-clause-memory
returns-in-Err-clause-memory c =
    let absent = get_by_tree c.self.inside.by_key.entries c.args.self.now c.args.key.now None c.self.view_is c.in-None.ensures.value in
    ap (λ found. replaced c.args.versioning c.args.number (found_versions found)) absent

-- no key is there without versions
pub invariant_of-self : goal.invariant_of-self
invariant_of-self c =
    let m = map.from_entries c.self.inside.by_key.entries in
    let new = c.add.new.self in
    held_after c.add.result m _ c.args.key.now c.in-Some.versions.now new _ _ c.self.invariant
    (get_by_tree c.self.inside.by_key.entries m c.args.key.now (Some c.in-Some.versions.now) refl c.in-Some.ensures.value)
    (written c.self.inside.by_key (c.get_mut.follows.lender new) m c.args.key.now c.in-Some.versions.now new new refl c.in-Some.ensures.value (c.get_mut.follows.holds new) refl)
    c.add.ensures.ok c.add.ensures.err
