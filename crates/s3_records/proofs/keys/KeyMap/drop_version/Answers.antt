use Rattle.std.proofs.Common.{refl, sym, ap, subst, ◌∙◌, [], Some, None, find}
use Rattle.std.proofs.lemmas.Bool.{both_ways}
use Rattle.std.specs.FinMap as map
use Rattle.s3_versions.specs.Rules.{is_under, without}
use Rattle.s3_records.specs.Catalogue.{HaveVersions, found_versions}
use Rattle.s3_records.specs.Changes.{with_versions}
use Rattle.s3_records.proofs.KeyLemmas.{with_versions-some, without-none, written, still_held, remove_filled}
use Rattle.s3_text.proofs.MapLemmas.{get_by_tree}
use Rattle.s3_records.proofs.MapLemmas.{made_by_remove, remove_absent, remove-over}
use Rattle.s3_records.proofs.keys.KeyMap.drop_version.Goals as goal

-- where the key has no versions
pub returns-in-None-clause-value : goal.returns-in-None-clause-value
returns-in-None-clause-value c =
    let s = c.args.self.now in
    let key = c.args.key.now in
    let absent = get_by_tree c.self.inside.by_key.entries s key None c.self.view_is c.in-None.ensures.value in
    ap (λ tree. map.from_entries tree.entries) c.get_mut.follows.holds-at-none ∙ c.self.view_is
    ∙ sym (remove_absent s key absent)
    ∙ ap (with_versions s key) (sym (without-none c.args.id) ∙ ap (λ found. without c.args.id (found_versions found)) (sym absent))

pub returns-in-None-clause-gone : goal.returns-in-None-clause-gone
returns-in-None-clause-gone c =
    let absent = get_by_tree c.self.inside.by_key.entries c.args.self.now c.args.key.now None c.self.view_is c.in-None.ensures.value in
    sym (ap (λ found. find (is_under c.args.id) (found_versions found)) absent)

-- where it has versions after
pub returns-else-is_empty-clause-value : goal.returns-else-is_empty-clause-value
returns-else-is_empty-clause-value c =
    let s = c.args.self.now in
    let key = c.args.key.now in
    let old = c.in-Some.versions.now in
    let after = c.delete_version-gone.new.self in
    let there = get_by_tree c.self.inside.by_key.entries s key (Some old) c.self.view_is c.in-Some.ensures.value in
    let same = c.delete_version-gone.ensures.value ∙ ap (λ found. without c.args.id (found_versions found)) (sym there) in
    written c.self.inside.by_key (c.get_mut.follows.lender after) s key old after after c.self.view_is c.in-Some.ensures.value (c.get_mut.follows.holds after) refl
    ∙ with_versions-some s key after (λ none. both_ways _ c.if-is_empty.false (c.is_empty.ensures.1 none))
    ∙ ap (with_versions s key) same

pub returns-else-is_empty-clause-gone : goal.returns-else-is_empty-clause-gone
returns-else-is_empty-clause-gone c =
    let there = get_by_tree c.self.inside.by_key.entries c.args.self.now c.args.key.now (Some c.in-Some.versions.now) c.self.view_is c.in-Some.ensures.value in
    c.delete_version-gone.ensures.gone ∙ ap (λ found. find (is_under c.args.id) (found_versions found)) (sym there)

-- where the last version goes, and the key with it
pub returns-then-is_empty-clause-value : goal.returns-then-is_empty-clause-value
returns-then-is_empty-clause-value c =
    let s = c.args.self.now in
    let key = c.args.key.now in
    let old = c.in-Some.versions.now in
    let after = c.delete_version-gone.new.self in
    let lent = c.get_mut.follows.lender after in
    let there = get_by_tree c.self.inside.by_key.entries s key (Some old) c.self.view_is c.in-Some.ensures.value in
    let same = c.delete_version-gone.ensures.value ∙ ap (λ found. without c.args.id (found_versions found)) (sym there) in
    let none = c.is_empty.ensures.0 c.if-is_empty.true in
    made_by_remove lent.entries c.remove.new.self.entries key c.remove.ensures.updates.0
    ∙ ap (λ m. map.remove m key) (written c.self.inside.by_key lent s key old after after c.self.view_is c.in-Some.ensures.value (c.get_mut.follows.holds after) refl)
    ∙ remove-over s key after
    ∙ ap (with_versions s key) (sym none ∙ same)

pub returns-then-is_empty-clause-gone : goal.returns-then-is_empty-clause-gone
returns-then-is_empty-clause-gone c =
    let there = get_by_tree c.self.inside.by_key.entries c.args.self.now c.args.key.now (Some c.in-Some.versions.now) c.self.view_is c.in-Some.ensures.value in
    c.delete_version-gone.ensures.gone ∙ ap (λ found. find (is_under c.args.id) (found_versions found)) (sym there)

-- no key is there without versions
pub invariant_of-self-else-is_empty : goal.invariant_of-self-else-is_empty
invariant_of-self-else-is_empty c =
    let m = map.from_entries c.self.inside.by_key.entries in
    let after = c.delete_version-gone.new.self in
    still_held m _ c.args.key.now after c.self.invariant
    (written c.self.inside.by_key (c.get_mut.follows.lender after) m c.args.key.now c.in-Some.versions.now after after refl c.in-Some.ensures.value (c.get_mut.follows.holds after) refl)
    (λ none. both_ways _ c.if-is_empty.false (c.is_empty.ensures.1 none))

pub invariant_of-self-then-is_empty : goal.invariant_of-self-then-is_empty
invariant_of-self-then-is_empty c =
    let m = map.from_entries c.self.inside.by_key.entries in
    let key = c.args.key.now in
    let after = c.delete_version-gone.new.self in
    let lent = c.get_mut.follows.lender after in
    let gone = made_by_remove lent.entries c.remove.new.self.entries key c.remove.ensures.updates.0
    ∙ ap (λ n. map.remove n key) (written c.self.inside.by_key lent m key c.in-Some.versions.now after after refl c.in-Some.ensures.value (c.get_mut.follows.holds after) refl)
    ∙ remove-over m key after in
    subst HaveVersions (sym gone) (remove_filled m key [] c.self.invariant)
