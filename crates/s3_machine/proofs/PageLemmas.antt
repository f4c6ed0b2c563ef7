-- Lists of what is there are told.
use Rattle.std.proofs.Common.{◌≡◌, refl, ap, ◌∙◌, not, ℕ, IsTrue, List, Option, Some, None, is_some, Ok, ok_or}
use Rattle.std.proofs.lemmas.Bool.{false≢true}
use Rattle.s3_terms.specs.declared.code.Code.TheVariants.{NoSuchUpload}
use Rattle.s3_terms.specs.Fault.{◌>>=◌}
use Rattle.s3_uploads.specs.declared.part.PartRow.{PartRow}
use Rattle.s3_uploads.specs.declared.upload.Upload.{Upload}
use Rattle.s3_records.specs.Catalogue.{has_bucket}
use Rattle.s3_records.specs.OpenUploads.{upload_at}
use Rattle.s3_records.specs.Rows.{key_rows}
use Rattle.s3_prefixes.specs.declared.asked.ObjectsAsked.{ObjectsAsked}
use Rattle.s3_listings.specs.declared.asked.PartsAsked.{PartsAsked}
use Rattle.s3_listings.specs.declared.asked.UploadsAsked.{UploadsAsked}
use Rattle.s3_listings.specs.declared.asked.VersionsAsked.{VersionsAsked}
use Rattle.s3_listings.specs.Objects.{objects_told}
use Rattle.s3_listings.specs.Pages.{Page}
use Rattle.s3_listings.specs.Parts.{parts_page}
use Rattle.s3_listings.specs.Uploads.{uploads_told}
use Rattle.s3_listings.specs.Versions.{versions_told}
use Rattle.s3_documents.specs.Document as documents
use Rattle.s3_machine.specs.declared.command.BucketCommand.TheVariants as bucket_commands
use Rattle.s3_machine.specs.declared.command.Command.TheVariants as commands
use Rattle.s3_machine.specs.declared.command.Outcome.{Outcome}
use Rattle.s3_machine.specs.declared.command.Outcome.TheVariants as outcomes
use Rattle.s3_machine.specs.declared.command.UploadCommand.TheVariants as upload_commands
use Rattle.s3_machine.specs.declared.rules.Rules.{Rules}
use Rattle.s3_machine.specs.Effects.{UploadPlace, open_at}
use Rattle.s3_machine.specs.Fault.{as_refusal}
use Rattle.s3_machine.specs.History.{after}
use Rattle.s3_machine.specs.Kept.{EveryHistory}
use Rattle.s3_machine.specs.Laws.{asking}
use Rattle.s3_machine.specs.Step.{State, Stepped, bucket_done, upload_done, done, stepped, step}
use Rattle.s3_machine.specs.ToldLists.{ObjectListsAreTold, VersionListsAreTold, UploadListsAreTold, PartListsAreTold}
use Rattle.s3_machine.proofs.KeptLemmas.{past_line}
use Rattle.s3_machine.proofs.ListLemmas.{command_outcome}

objects_there : (rules : Rules) (s : State) (n t : ℕ) (name : List ℕ) (asked : ObjectsAsked) → IsTrue (has_bucket s name)
    → (step rules s n t (commands.Bucket name (bucket_commands.ListObjects asked))).1
    ≡ outcomes.Told (documents.objects name asked (objects_told asked (key_rows s name)))
unfolding done bucket_done
objects_there rules s n t name asked there = ap (λ (st : Stepped). st.1) (past_line s (not (has_bucket s name)) _ (ap not there))

versions_there : (rules : Rules) (s : State) (n t : ℕ) (name : List ℕ) (asked : VersionsAsked) → IsTrue (has_bucket s name)
    → (step rules s n t (commands.Bucket name (bucket_commands.ListVersions asked))).1
    ≡ outcomes.Told (documents.versions name asked (versions_told asked s name))
unfolding done bucket_done
versions_there rules s n t name asked there = ap (λ (st : Stepped). st.1) (past_line s (not (has_bucket s name)) _ (ap not there))

uploads_there : (rules : Rules) (s : State) (n t : ℕ) (name : List ℕ) (asked : UploadsAsked) → IsTrue (has_bucket s name)
    → (step rules s n t (commands.Bucket name (bucket_commands.ListUploads asked))).1
    ≡ outcomes.Told (documents.uploads name asked (uploads_told asked s name))
unfolding done bucket_done
uploads_there rules s n t name asked there = ap (λ (st : Stepped). st.1) (past_line s (not (has_bucket s name)) _ (ap not there))

-- a page of parts is told
abbrev TellsParts : UploadPlace → PartsAsked → Outcome → Type 0
TellsParts upload asked outcome =
    (page : Page PartRow) × (outcome ≡ outcomes.Told (documents.parts upload.address.bucket upload.address.key upload.id asked page))

parts_open : (s : State) (upload : UploadPlace) (asked : PartsAsked) (found : Option (Upload (List ℕ))) → IsTrue (is_some found)
    → TellsParts upload asked (stepped s (as_refusal (ok_or found NoSuchUpload)
    >>= (λ (u : Upload (List ℕ)). Ok (s, outcomes.Told (documents.parts upload.address.bucket upload.address.key upload.id asked (parts_page asked u.parts)))))).1
parts_open s upload asked None there = absurd (false≢true there)
parts_open s upload asked (Some u) there = (parts_page asked u.parts, refl)

parts_there : (rules : Rules) (s : State) (n t : ℕ) (upload : UploadPlace) (asked : PartsAsked) → IsTrue (has_bucket s upload.address.bucket)
    → IsTrue (is_some (open_at s upload)) → TellsParts upload asked (step rules s n t (asking upload (upload_commands.ListParts asked))).1
unfolding done upload_done
parts_there rules s n t upload asked there is_open =
    let name = upload.address.bucket in
    let key = upload.address.key in
    let told = parts_open s upload asked (upload_at s name key upload.id) is_open in (
      told.0,
      ap (λ (st : Stepped). st.1)
          (past_line s (not (has_bucket s name)) (upload_done rules s n t name key upload.id (upload_commands.ListParts asked)) (ap not there))
          ∙ told.1,
    )

pub object_lists_are_told : EveryHistory ObjectListsAreTold
object_lists_are_told rules s n entries legal before later list name asked parts is there = (
  objects_told asked (key_rows (after rules s before) name),
  command_outcome rules s n entries before later list _ legal parts is
      ∙ objects_there rules (after rules s before) list.answer.number list.moment name asked there,
)

pub version_lists_are_told : EveryHistory VersionListsAreTold
version_lists_are_told rules s n entries legal before later list name asked parts is there = (
  versions_told asked (after rules s before) name,
  command_outcome rules s n entries before later list _ legal parts is
      ∙ versions_there rules (after rules s before) list.answer.number list.moment name asked there,
)

pub upload_lists_are_told : EveryHistory UploadListsAreTold
upload_lists_are_told rules s n entries legal before later list name asked parts is there = (
  uploads_told asked (after rules s before) name,
  command_outcome rules s n entries before later list _ legal parts is
      ∙ uploads_there rules (after rules s before) list.answer.number list.moment name asked there,
)

pub part_lists_are_told : EveryHistory PartListsAreTold
part_lists_are_told rules s n entries legal before later list upload asked parts is there is_open =
    let told = parts_there rules (after rules s before) list.answer.number list.moment upload asked there is_open in
    (told.0, command_outcome rules s n entries before later list _ legal parts is ∙ told.1)
