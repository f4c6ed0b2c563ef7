-- The bytes of a copy to a key: those of the version that it is from, whatever is said of it.
use Rattle.std.proofs.Common.{◌≡◌, refl, ap, ◌∙◌, sym, ℕ, Bool, true, false, not, List, Option, Some, None, Result, Ok, Err, option_map, option_and_then}
use Rattle.s3_terms.specs.Fault.{◌>>◌, ◌>>=◌}
use Rattle.s3_terms.specs.declared.code.Code.TheVariants.{NoSuchBucket, PreconditionFailed}
use Rattle.s3_names.specs.declared.ids.VersionId.{VersionId}
use Rattle.s3_versions.specs.declared.picking.Refusal.{Refusal}
use Rattle.s3_versions.specs.declared.version.Content.{Content}
use Rattle.s3_versions.specs.declared.version.Content.TheVariants.{DeleteMarker, Stored}
use Rattle.s3_versions.specs.declared.version.Data.{Data}
use Rattle.s3_versions.specs.declared.version.Version.{Version}
use Rattle.s3_versions.specs.declared.version.Versioning.{Versioning}
use Rattle.s3_versions.specs.Rules.{stored, stored_in, asked_for, judged, pick, read_as, facts_of as version_facts}
use Rattle.s3_records.specs.Catalogue.{has_bucket, versions_of, versioning_of, bytes_asked}
use Rattle.s3_machine.specs.Fault.{refuse}
use Rattle.s3_machine.specs.declared.command.Description.{Description}
use Rattle.s3_machine.specs.declared.command.Found.{Found}
use Rattle.s3_machine.specs.declared.command.ObjectCopy.{ObjectCopy}
use Rattle.s3_machine.specs.Step.{State, copied, described, found_in, may_be_copied, read_for_copy, source_found}
use Rattle.s3_store.proofs.StepLemmas.{Read}

-- the bytes of what is stored, where that isn't refused, and of a version that is read
abbrev stored_bytes : Result (Data (List ℕ)) Refusal → Option (List ℕ)
stored_bytes (Ok what) = Some what.body
stored_bytes (Err refusal) = None

abbrev read_bytes : Result Read Refusal → Option (List ℕ)
read_bytes (Ok read) = Some read.1.body
read_bytes (Err refusal) = None

-- a read picks the bytes of the version that is asked for
content_bytes : (refusal : Refusal) (v : Version (List ℕ)) (c : Content (List ℕ))
    → read_bytes (read_as refusal v c) ≡ option_map (λ (what : Data (List ℕ)). what.body) (stored_in c)
content_bytes refusal v DeleteMarker = refl
content_bytes refusal v (Stored what) = refl

picked_bytes : (asked : Option VersionId) (found : Option (Version (List ℕ)))
    → read_bytes (judged asked found) ≡ option_map (λ (what : Data (List ℕ)). what.body) (option_and_then stored found)
picked_bytes None None = refl
picked_bytes None (Some v) = content_bytes _ v v.content
picked_bytes (Some id) None = refl
picked_bytes (Some id) (Some v) = content_bytes _ v v.content

-- what is described otherwise keeps its bytes
described_bytes : (said : Option Description) (what stores : Data (List ℕ))
    → ◌≡◌ {A = Result (Data (List ℕ)) Refusal} (Ok (described said what)) (Ok stores) → Some what.body ≡ Some stores.body
described_bytes None what stores is = ap stored_bytes is
described_bytes (Some said) what stores is = ap stored_bytes is

module _ (v : Versioning) (may : Read → Bool) (said : Option Description) (stores : Data (List ℕ)) where
  -- where it may be copied
  allowed_bytes : (allowed : Bool) (read : Read)
      → ((refuse (not allowed) PreconditionFailed >> Ok (found_in v read)) >>= (λ (f : Found (List ℕ)). Ok (described said f.stored))) ≡ Ok stores
      → Some read.1.body ≡ Some stores.body
  allowed_bytes true read is = described_bytes said read.1 stores is
  allowed_bytes false read is = absurd (cc)

  -- and its bucket is there
  source_bytes : (there : Bool) (read : Result Read Refusal)
      → ((refuse (not there) NoSuchBucket >> (read_for_copy read >>= (λ r. refuse (not (may r)) PreconditionFailed >> Ok (found_in v r))))
      >>= (λ (f : Found (List ℕ)). Ok (described said f.stored))) ≡ Ok stores
      → read_bytes read ≡ Some stores.body
  source_bytes true (Ok read) is = allowed_bytes (may read) read is
  source_bytes true (Err refusal) is = absurd (cc)
  source_bytes false read is = absurd (cc)

-- a copy stores the bytes of the version of its source that is asked for
pub copied_bytes : (s : State) (asked : ObjectCopy) (stores : Data (List ℕ)) → copied s asked ≡ Ok stores
    → bytes_asked s asked.source.bucket asked.source.key asked.source.version ≡ Some stores.body
unfolding copied source_found
copied_bytes s asked stores is =
    sym (picked_bytes asked.source.version (asked_for asked.source.version (versions_of s asked.source.bucket asked.source.key)))
    ∙ source_bytes (versioning_of s asked.source.bucket) (λ r. may_be_copied asked.source.conditions (version_facts r)) asked.description stores
    (has_bucket s asked.source.bucket) (pick asked.source.version (versions_of s asked.source.bucket asked.source.key)) is
