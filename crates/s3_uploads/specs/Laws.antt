-- What users rely on, of all uploads (Amazon S3 API Reference, UploadPart and CompleteMultipartUpload).
use Rattle.std.specs.Prelude.{◌≡◌, ◌≢◌, ◌⊎◌, ℕ, IsTrue, List, [], length, Some, option_map, unwrap_or, Ok, Err}
use Rattle.std.specs.List.{list_all, flat_map}
use Rattle.md5.specs.Md5.{md5}
use Rattle.s3_terms.specs.declared.code.Code.{Code}
use Rattle.s3_terms.specs.declared.code.Code.TheVariants.{InvalidPartOrder, InvalidPart, EntityTooSmall}
use Rattle.s3_names.specs.Tags.{joined_text}
use Rattle.s3_versions.specs.declared.version.Data.{Data}
use Rattle.s3_uploads.specs.Parts.{PartList, rises, numbers_of, part_at, part_put}
use Rattle.s3_uploads.specs.Completion.{is_sent, completed}
use Rattle.s3_uploads.specs.declared.listed.ListedPart.{ListedPart}
use Rattle.s3_uploads.specs.declared.part.Part.{Part}
use Rattle.s3_uploads.specs.declared.upload.Upload.{Upload}

-- the bytes of the part of a number, and their digest
abbrev pub bytes_at : PartList (List ℕ) → ℕ → List ℕ
bytes_at parts n = unwrap_or (option_map (λ (part : Part (List ℕ)). part.body) (part_at n parts)) []

abbrev pub digest_at : PartList (List ℕ) → ℕ → List ℕ
digest_at parts n = unwrap_or (option_map (λ (part : Part (List ℕ)). part.digest) (part_at n parts)) []

-- what is stored are the listed parts of an upload, in the order in which they are listed
pub record Joins (listed : List ListedPart) (u : Upload (List ℕ)) (stored : Data (List ℕ)) : Type 0 where
  -- each was sent, under its number and with the tag that is listed
  pub sent : IsTrue (list_all (is_sent u.parts) listed)
  pub bytes : stored.body ≡ flat_map (λ (part : ListedPart). bytes_at u.parts part.number) listed
  pub size : stored.size ≡ length stored.body
  pub tag : stored.tag ≡ joined_text (md5 (flat_map (λ (part : ListedPart). digest_at u.parts part.number) listed)) (length listed)
  -- the media type and the metadata are those that the upload was begun with
  pub content_type : stored.content_type ≡ u.content_type
  pub metadata : stored.metadata ≡ u.metadata

-- a completion that is accepted stores the listed parts
abbrev pub CompletionsJoinTheListed : Type 0
CompletionsJoinTheListed =
    (least : ℕ) (listed : List ListedPart) (u : Upload (List ℕ)) (stored : Data (List ℕ))
    → completed least listed u ≡ Ok stored → Joins listed u stored

-- one that is refused has one of three codes
abbrev pub RefusalsAreThree : Type 0
RefusalsAreThree =
    (least : ℕ) (listed : List ListedPart) (u : Upload (List ℕ)) (code : Code)
    → completed least listed u ≡ Err code → (code ≡ InvalidPartOrder) ⊎ ((code ≡ InvalidPart) ⊎ (code ≡ EntityTooSmall))

-- a part that is put stands under its number, and the others stay
abbrev pub PutsAreUnderOneNumber : Type 0 → Type 0
PutsAreUnderOneNumber B =
    (n : ℕ) (part : Part B) (parts : PartList B)
    → (part_at n (part_put n part parts) ≡ Some part)
    × ((m : ℕ) → m ≢ n → part_at m (part_put n part parts) ≡ part_at m parts)

-- the numbers of the parts rise, and go on to
abbrev pub PutsKeepTheOrder : Type 0 → Type 0
PutsKeepTheOrder B =
    (n : ℕ) (part : Part B) (parts : PartList B)
    → IsTrue (rises (numbers_of parts)) → IsTrue (rises (numbers_of (part_put n part parts)))
