-- Catalogues as a server keeps them.
use Rattle.std.specs.Prelude.{◌≡◌, ℕ, List, Some}
use Rattle.std.specs.FinMap as map
use Rattle.s3_deletions.specs.declared.named.NamedObject.{NamedObject}
use Rattle.s3_records.specs.Catalogue.{Bucket, Catalogue, opening, HaveVersions}
use Rattle.s3_records.specs.Changes.{Change, changed}
use Rattle.s3_records.specs.Deletions.{all_deleted}
use Rattle.s3_records.specs.Laws.{AreCatalogued, IsNew}
use Rattle.s3_records.specs.Places.{AreBelow}

-- under each key stand versions of one key, newest first and at most one of them `null`, and no key is there without
pub record IsOrderly {B : Type 0} (c : Catalogue B) : Type 0 where
  pub versions : AreCatalogued c
  pub filled : (name : List ℕ) (b : Bucket B) → map.get c name ≡ Some b → HaveVersions b.keys

-- that stays so, if the number of the entry that makes a change is above those of its key's versions
abbrev pub ChangesKeepOrder : Type 0 → Type 0
ChangesKeepOrder B =
    (c : Catalogue B) (name : List ℕ) (change : Change B) → IsOrderly c → IsNew c name change → IsOrderly (changed c name change)

-- or if that of the entry that makes several deletions is above those of all versions
abbrev pub DeletionsKeepOrder : Type 0 → Type 0
DeletionsKeepOrder B =
    (c : Catalogue B) (name : List ℕ) (n t : ℕ) (objects : List NamedObject)
    → IsOrderly c → AreBelow n c → IsOrderly (all_deleted c name n t objects)

-- and a catalogue opens so
abbrev pub OpeningIsOrderly : Type 0 → Type 0
OpeningIsOrderly B = (names : List (List ℕ)) → IsOrderly {B = B} (opening names)
