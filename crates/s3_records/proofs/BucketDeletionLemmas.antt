-- Several deletions in a bucket that is there, as the catalogue sees them.
use Rattle.std.proofs.Common.{◌≡◌, refl, sym, ap, ◌∙◌, true, false, cond, ℕ, List, [], ◌∷◌, Some}
use Rattle.std.specs.FinMap as map
use Rattle.s3_text.proofs.MapLemmas.{put_again}
use Rattle.s3_deletions.specs.Deletions.{acts, change_named, marker_told}
use Rattle.s3_deletions.specs.declared.named.NamedObject.{NamedObject}
use Rattle.s3_deletions.specs.declared.named.NamedObject.TheVariants.{Object, Fault}
use Rattle.s3_versions.specs.Rules.{after_change}
use Rattle.s3_records.specs.Catalogue.{Bucket, Catalogue, versions_at, versions_in, versioning_in}
use Rattle.s3_records.specs.Changes.{KeyChanged, with_versions, bucket_after, with_bucket, changed}
use Rattle.s3_records.specs.Deletions.{deleted, all_deleted, marker_of, markers_of, deleted_in, bucket_deleted, marker_in, markers_in}
use Rattle.s3_records.proofs.LawLemmas.{changed_twice}
use Rattle.s3_records.proofs.MapLemmas.{get-put_here}

module _ {B : Type 0} (name : List ℕ) (n t : ℕ) where
  one_in_bucket : (c : Catalogue B) (b : Bucket B) (object : NamedObject) → map.get c name ≡ Some b
      → deleted c name n t object ≡ map.insert c name (record b { keys = deleted_in b.versioning n t b.keys object })
  one_in_bucket c b (Object d) found =
      let vs = versions_at b.keys d.key in
      let what = change_named n t d.version in
      ap (λ f. cond (acts n d.version (versions_in f d.key)) (changed c name (KeyChanged d.key what)) c) found
      ∙ elim (acts n d.version vs) as (λ a. cond a (changed c name (KeyChanged d.key what)) c
      ≡ map.insert c name (record b { keys = cond a (with_versions b.keys d.key (after_change b.versioning what vs)) b.keys })) [
        | true ↦ ap (λ f. with_bucket c name (bucket_after (KeyChanged d.key what) f)) found
        | false ↦ sym (put_again c name b found)
      ]
  one_in_bucket c b (Fault fault) found = sym (put_again c name b found)

  found_after : (c : Catalogue B) (b : Bucket B) (object : NamedObject) → map.get c name ≡ Some b
      → map.get (deleted c name n t object) name ≡ Some (record b { keys = deleted_in b.versioning n t b.keys object })
  found_after c b object found =
      ap (λ d. map.get d name) (one_in_bucket c b object found) ∙ get-put_here c name (record b { keys = deleted_in b.versioning n t b.keys object })

  pub all_in_bucket : (objects : List NamedObject) (c : Catalogue B) (b : Bucket B) → map.get c name ≡ Some b
      → all_deleted c name n t objects ≡ map.insert c name (bucket_deleted n t objects b)
  all_in_bucket [] c b found = sym (put_again c name b found)
  all_in_bucket (object ∷ objects) c b found =
      let first = record b { keys = deleted_in b.versioning n t b.keys object } in
      all_in_bucket objects (deleted c name n t object) first (found_after c b object found)
      ∙ ap (λ d. map.insert d name (bucket_deleted n t objects first)) (one_in_bucket c b object found)
      ∙ changed_twice c name (Some first) (Some (bucket_deleted n t objects first))

  marker_in_bucket : (c : Catalogue B) (b : Bucket B) (object : NamedObject) → map.get c name ≡ Some b → marker_of c name n object ≡ marker_in b.versioning n b.keys object
  marker_in_bucket c b (Object d) found = ap (λ f. marker_told (versioning_in f) n d.version (versions_in f d.key)) found
  marker_in_bucket c b (Fault fault) found = refl

  pub markers_in_bucket : (objects : List NamedObject) (c : Catalogue B) (b : Bucket B) → map.get c name ≡ Some b → markers_of c name n t objects ≡ markers_in b.versioning n t b.keys objects
  markers_in_bucket [] c b found = refl
  markers_in_bucket (object ∷ objects) c b found =
      ap (λ id. id ∷ markers_of (deleted c name n t object) name n t objects) (marker_in_bucket c b object found)
      ∙ ap (λ ids. marker_in b.versioning n b.keys object ∷ ids)
      (markers_in_bucket objects (deleted c name n t object) (record b { keys = deleted_in b.versioning n t b.keys object }) (found_after c b object found))
