-- The versioning of a bucket is that of its row.
use Rattle.std.proofs.Common.{◌≡◌, refl, sym, ap, ◌∙◌, ℕ, List, find, Option, Some, None, option_map}
use Rattle.s3_versions.specs.declared.version.Versioning.{Versioning}
use Rattle.s3_versions.specs.declared.version.Versioning.TheVariants.{Unversioned}
use Rattle.s3_records.specs.Catalogue.{versioning_in, versioning_of}
use Rattle.s3_rows.specs.Columns.{BucketColumns, Tables}
use Rattle.s3_rows.specs.Encoding.{Encoding}
use Rattle.s3_rows.specs.Finding.{is_named}
use Rattle.s3_rows.specs.Meaning.{bucket_of, catalogue_of}
use Rattle.s3_rows.proofs.MeaningLemmas.{get-catalogue}

-- the versioning of the row of a bucket, if there is one
abbrev pub mode_told : Encoding → Option BucketColumns → Versioning
mode_told e None = Unversioned
mode_told e (Some b) = e.versioning_in b.mode

told_in : (e : Encoding) (t : Tables) (found : Option BucketColumns) → versioning_in (option_map (bucket_of e t) found) ≡ mode_told e found
told_in e t None = refl
told_in e t (Some b) = refl

pub versioning_told : (e : Encoding) (t : Tables) (name : List ℕ) → versioning_of (catalogue_of e t) name ≡ mode_told e (find (is_named name) t.buckets)
versioning_told e t name = ap versioning_in (get-catalogue e t name) ∙ told_in e t (find (is_named name) t.buckets)

-- so tables with the same buckets tell the same
pub same_versioning : (e : Encoding) (t u : Tables) (name : List ℕ) → u.buckets ≡ t.buckets → versioning_of (catalogue_of e u) name ≡ versioning_of (catalogue_of e t) name
same_versioning e t u name same = versioning_told e u name ∙ ap (λ bs. mode_told e (find (is_named name) bs)) same ∙ sym (versioning_told e t name)
