-- How an upload is completed (Amazon S3 API Reference, CompleteMultipartUpload).
use Rattle.std.specs.Prelude.{◌≡◌, ℕ, ◌-◌, Bool, false, not, nat_lt, List, length, take, map as each, option_map, unwrap_or, Result, Ok, Err, IsOk}
use Rattle.std.specs.List.{list_all, list_any, filter_map, flat_map}
use Rattle.std.specs.Str.{bytes_eq}
use Rattle.md5.specs.Md5.{md5}
use Rattle.s3_terms.specs.Fault.{refuse, ◌>>◌, ◌>>=◌}
use Rattle.s3_terms.specs.declared.code.Code.{Code}
use Rattle.s3_terms.specs.declared.code.Code.TheVariants.{InvalidPartOrder, InvalidPart, EntityTooSmall}
use Rattle.s3_names.specs.Tags.{joined_text}
use Rattle.s3_versions.specs.declared.version.Data.{Data}
use Rattle.s3_uploads.specs.Parts.{PartList, rises, part_at, part_tag}
use Rattle.s3_uploads.specs.declared.part.Part.{Part}
use Rattle.s3_uploads.specs.declared.listed.ListedPart.{ListedPart}
use Rattle.s3_uploads.specs.declared.upload.Upload.{Upload}
use Rattle.s3_uploads.specs.declared.completion.CompletionError.{CompletionError}
use Rattle.s3_uploads.specs.declared.completion.CompletionError.TheVariants.{Refused, NoMemory}

-- the numbers of the parts that are listed
abbrev pub numbers_listed : List ListedPart → List ℕ
numbers_listed listed = each (λ (part : ListedPart). part.number) listed

-- a listed part was sent, and its tag is the one that is listed
abbrev pub is_sent : {B : Type 0} → PartList B → ListedPart → Bool
is_sent {B} parts listed = unwrap_or (option_map (λ (part : Part B). bytes_eq (part_tag part) listed.tag) (part_at listed.number parts)) false

-- it has fewer bytes than the least size
abbrev pub is_small : {B : Type 0} → ℕ → PartList B → ListedPart → Bool
is_small {B} least parts listed = unwrap_or (option_map (λ (part : Part B). nat_lt part.size least) (part_at listed.number parts)) false

-- all that are listed, but the last
abbrev pub front_of : List ListedPart → List ListedPart
front_of listed = take (length listed - 1) listed

-- the parts of the listed numbers, in the order in which they are listed
abbrev pub parts_listed : {B : Type 0} → List ListedPart → PartList B → List (Part B)
parts_listed listed parts = filter_map (λ (part : ListedPart). part_at part.number parts) listed

-- the parts that a completion joins, or the first refusal
unfoldable pub completed_parts : {B : Type 0} → ℕ → List ListedPart → PartList B → Result (List (Part B)) Code
completed_parts least listed parts = do
  refuse (not (rises (numbers_listed listed))) InvalidPartOrder
  refuse (not (list_all (is_sent parts) listed)) InvalidPart
  refuse (list_any (is_small least parts) (front_of listed)) EntityTooSmall
  Ok (parts_listed listed parts)

-- their bytes, one part behind another
abbrev pub joined_body : List (Part (List ℕ)) → List ℕ
joined_body parts = flat_map (λ (part : Part (List ℕ)). part.body) parts

-- their tag: the MD5 of their digests, one behind another, and how many they are
abbrev pub joined_tag : {B : Type 0} → List (Part B) → List ℕ
joined_tag {B} parts = joined_text (md5 (flat_map (λ (part : Part B). part.digest) parts)) (length parts)

-- what the version stores that they make
abbrev pub joined_data : Upload (List ℕ) → List (Part (List ℕ)) → Data (List ℕ)
joined_data u parts =
    record {
      tag = joined_tag parts;
      content_type = u.content_type;
      metadata = u.metadata;
      size = length (joined_body parts);
      body = joined_body parts;
    }

-- what a completion stores, or the first refusal
unfoldable pub completed : ℕ → List ListedPart → Upload (List ℕ) → Result (Data (List ℕ)) Code
completed least listed u = do
  parts ← completed_parts least listed u.parts
  Ok (joined_data u parts)

-- a call does what the rule says, and lacks memory only where the rule refuses nothing
abbrev pub Completes : Result (Data (List ℕ)) CompletionError → Result (Data (List ℕ)) Code → Type 0
Completes (Ok stored) rule = rule ≡ Ok stored
Completes (Err (Refused code)) rule = rule ≡ Err code
Completes (Err NoMemory) rule = IsOk rule
