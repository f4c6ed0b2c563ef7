-- What is printed for an answer of the machine and for a refusal (Amazon S3 API Reference, "Common
-- response headers" and "Error responses").
use Rattle.std.specs.Prelude.{◌≡◌, ℕ, ◌+◌, Bool, true, false, if◌then◌else◌, List, [], ◌∷◌, ◌++◌, length, take, drop, codes, decimal, Option, Some, None, option_map}
use Rattle.s3_terms.specs.declared.code.Code.{Code}
use Rattle.s3_terms.specs.declared.code.Code.TheVariants.{InvalidRange}
use Rattle.s3_terms.specs.declared.dialect.Dialect.{Dialect}
use Rattle.s3_terms.specs.declared.dialect.Dialect.TheVariants.{Json, S3}
use Rattle.s3_text.specs.Characters.{crlf}
use Rattle.s3_text.specs.Digits.{number_digits}
use Rattle.s3_names.specs.Ids.{version_id_text}
use Rattle.s3_names.specs.declared.ids.VersionId.{VersionId}
use Rattle.s3_conditions.specs.declared.conditions.Selection.{Selection}
use Rattle.s3_conditions.specs.declared.conditions.Selection.TheVariants.{Whole, Part, Unchanged, Outside}
use Rattle.s3_versions.specs.Metadata.{Entry}
use Rattle.s3_documents.specs.Document as documents
use Rattle.s3_documents.specs.Spelling.{document_text}
use Rattle.s3_machine.specs.declared.command.Answer.{Answer}
use Rattle.s3_machine.specs.declared.command.Found.{Found}
use Rattle.s3_machine.specs.declared.command.Outcome.{Outcome}
use Rattle.s3_machine.specs.declared.command.Outcome.TheVariants as outcomes
use Rattle.s3_replies.specs.declared.context.Context.{Context}
use Rattle.s3_replies.specs.declared.head.Opening.{Opening}
use Rattle.s3_terms.specs.declared.status.Status.{Status}
use Rattle.s3_terms.specs.declared.status.Status.TheVariants as statuses
use Rattle.s3_replies.specs.Date.{IsHttpDate, IsDateShown}
use Rattle.s3_replies.specs.Document.{content_type_in, error_document}
use Rattle.s3_replies.specs.Head.{Fields, bare, print_head, print_with_lines}
use Rattle.s3_replies.specs.Lines.{checksum_line, all_told, entries_by, entries_left, type_left, freshness_entries}
use Rattle.s3_replies.specs.Statuses.{reply_status}

-- what is sent of a body: a reply to HEAD has none (RFC 9110, section 9.3.2)
abbrev pub sent_body : Bool → List ℕ → List ℕ
sent_body head_only body = if head_only then [] else body

-- a reply: a head alone, or a head, which tells the size of a body, and the body, which is a short text that is written with
-- the head, or stands behind what is written
pub data Reply : Type 0 where
  alone : Fields → Reply
  beside : Fields → List ℕ → Reply
  behind : Fields → List ℕ → Reply

-- the head, where this is the body
abbrev pub sized : Fields → List ℕ → Fields
sized head body = record head { size = length body }

-- all of a reply but what stands behind it
abbrev pub front : Bool → Reply → List ℕ
front head_only (alone head) = print_head head
front head_only (beside head text) = print_head (sized head text) ++ sent_body head_only text
front head_only (behind head body) = print_head (sized head body)

-- and what does
abbrev pub back : Bool → Reply → List ℕ
back head_only (behind head body) = sent_body head_only body
back head_only other = []

-- the text of a version's id, where one is shown
abbrev pub shown_text : Option VersionId → Option (List ℕ)
shown_text shown = option_map version_id_text shown

-- CreateBucket: where the bucket is
abbrev pub made_fields : Opening → List ℕ → Fields
made_fields opening name = let base = bare opening in record base { location = Some (codes "/" ++ name) }

-- what is told of a bucket's region: in the dialect of S3 its name (Amazon S3 API Reference, HeadBucket, `x-amz-bucket-region`)
abbrev pub region_told : Dialect → List ℕ → Option (List ℕ)
region_told Json region = None
region_told S3 region = Some region

-- HeadBucket: where the bucket is
abbrev pub found_fields : Opening → List ℕ → Fields
found_fields opening region = let base = bare opening in record base { region = region_told opening.dialect region }

-- the lists, GetBucketVersioning and CreateMultipartUpload: a document
abbrev pub document_fields : Opening → Fields
document_fields opening = let base = bare opening in record base { content_type = Some (content_type_in opening.dialect) }

-- PutObject and UploadPart: the tag of what is stored, the checksum that was found of it, and the id of its version; a part has none
abbrev pub put_fields : Opening → List ℕ → Option VersionId → Fields
put_fields opening tag shown =
    let base = bare opening in
    record base {
      version_id = shown_text shown;
      tag = Some tag;
      checksum = option_map checksum_line opening.checksum;
    }

-- the entries of metadata that are kept, and what stands in the place of some of them: with checksums, or without
abbrev pub metadata_shown : Bool → List Entry → List Entry → List Entry
metadata_shown tells_checksums overrides entries = all_told (entries_by tells_checksums) overrides entries

-- GetObject and HeadObject: what is known of the version, and the date at which it was made
abbrev pub got_fields : Bool → Opening → Found (List ℕ) → List Entry → Option (List ℕ) → Fields
got_fields tells_checksums opening found overrides modified =
    let base = bare opening in
    record base {
      version_id = shown_text found.shown;
      tag = Some found.stored.tag;
      modified = modified;
      accepts_ranges = true;
      content_type = type_left overrides found.stored.content_type;
      metadata = metadata_shown tells_checksums overrides found.stored.metadata;
    }

-- which bytes of an object a reply has, of how many (RFC 9110, section 14.4)
abbrev pub content_range : ℕ → ℕ → ℕ → List ℕ
content_range first last size = codes "bytes " ++ decimal first ++ codes "-" ++ decimal last ++ codes "/" ++ decimal size

-- the bytes from a first position to a last one
abbrev pub part : ℕ → ℕ → List ℕ → List ℕ
part first last bytes = drop first (take (last + 1) bytes)

-- GetObject and HeadObject of a range: the same, and which bytes these are; a checksum is that of all bytes, so none is told
abbrev pub part_fields : Opening → Found (List ℕ) → List Entry → Option (List ℕ) → ℕ → ℕ → Fields
part_fields opening found overrides modified first last =
    let whole = got_fields false opening found overrides modified in
    record whole { content_range = Some (content_range first last (length found.stored.body)) }

-- the same of a version that is as the reader knows it (RFC 9110, section 15.4.5): nothing of its bytes, and of the entries of
-- metadata those that tell how long a cache may use them
abbrev pub unchanged_fields : Opening → Found (List ℕ) → List Entry → Option (List ℕ) → Fields
unchanged_fields opening found overrides modified =
    let base = bare opening in
    record base {
      version_id = shown_text found.shown;
      tag = Some found.stored.tag;
      modified = modified;
      metadata = freshness_entries (entries_left overrides found.stored.metadata) ++ freshness_entries overrides;
    }

-- CopyObject, CompleteMultipartUpload and GetObjectTagging: a document, and the id of the version that was made, or is read
abbrev pub stored_fields : Opening → Option VersionId → Fields
stored_fields opening shown = let base = document_fields opening in record base { version_id = shown_text shown }

-- UploadPartCopy: a document, and the id of the version that was copied
abbrev pub part_copied_fields : Opening → Option VersionId → Fields
part_copied_fields opening source = let base = document_fields opening in record base { source_version_id = shown_text source }

-- DeleteObject: the id of the delete marker that was made or of the version that is gone, and whether it is
-- that of a delete marker
abbrev pub deleted_fields : Opening → Option VersionId → Bool → Fields
deleted_fields opening shown is_delete_marker =
    let base = bare opening in
    record base { version_id = shown_text shown; is_delete_marker = is_delete_marker }

-- a refusal: whether it is about a delete marker, and the type of its document
abbrev pub error_fields : Opening → Bool → Fields
error_fields opening is_delete_marker =
    let base = bare opening in
    record base { is_delete_marker = is_delete_marker; content_type = Some (content_type_in opening.dialect) }

-- what is told of a range that has no byte of an object: in the dialect of S3 how many bytes the object has (RFC 9110,
-- sections 14.4 and 15.5.17)
abbrev pub range_told : Dialect → ℕ → Option (List ℕ)
range_told Json size = None
range_told S3 size = Some (codes "bytes */" ++ decimal size)

-- GetObject and HeadObject of such a range: the refusal, and what is told of the range
abbrev pub outside_fields : Opening → ℕ → Fields
outside_fields opening size =
    let base = error_fields opening false in record base { content_range = range_told opening.dialect size }

abbrev pub outside_reply : Opening → ℕ → Reply
outside_reply opening size = beside (outside_fields opening size) (error_document opening.dialect InvalidRange opening.number)

-- the moment of the version that is shown, if one is
abbrev pub shown_at : Outcome → Option ℕ
shown_at (outcomes.Got found selection overrides) = Some found.moment
shown_at other = None

-- a body stands behind the reply: a document whose text is printed with it, or the bytes of a version
abbrev pub has_body : Outcome → Bool
has_body (outcomes.Told document) = true
has_body (outcomes.Completed document tag shown) = true
has_body (outcomes.Got found selection overrides) = true
has_body other = false

-- the reply that shows this of a version
abbrev pub reply_with : Opening → Option (List ℕ) → Found (List ℕ) → List Entry → Selection → Reply
reply_with opening modified found overrides Whole =
    behind (got_fields opening.tells_checksums opening found overrides modified) found.stored.body
reply_with opening modified found overrides (Part first last) =
    behind (part_fields opening found overrides modified first last) (part first last found.stored.body)
reply_with opening modified found overrides Unchanged = alone (unchanged_fields opening found overrides modified)
reply_with opening modified found overrides Outside = outside_reply opening found.stored.size

-- the reply to what came of a command; that moment is written as this date
abbrev pub reply_to : Opening → Option (List ℕ) → Outcome → Reply
reply_to opening modified (outcomes.Told document) = behind (document_fields opening) (document_text opening.dialect document)
reply_to opening modified (outcomes.BucketMade name) = alone (made_fields opening name)
reply_to opening modified (outcomes.BucketFound region) = alone (found_fields opening region)
reply_to opening modified outcomes.BucketDropped = alone (bare opening)
reply_to opening modified outcomes.VersioningSet = alone (bare opening)
reply_to opening modified (outcomes.BucketVersioning versioning) = beside (document_fields opening) (document_text opening.dialect (documents.versioning versioning))
reply_to opening modified (outcomes.Put tag shown) = alone (put_fields opening tag shown)
reply_to opening modified (outcomes.Got found selection overrides) = reply_with opening modified found overrides selection
reply_to opening modified (outcomes.NoTags shown) = beside (stored_fields opening shown) (document_text opening.dialect documents.tags)
reply_to opening modified (outcomes.OutOfRange size) = outside_reply opening size
reply_to opening modified (outcomes.Copied tag moment shown) = beside (stored_fields opening shown) (document_text opening.dialect (documents.copied tag moment))
reply_to opening modified (outcomes.PartPut tag) = alone (put_fields opening tag None)
reply_to opening modified (outcomes.PartCopied tag moment source) = beside (part_copied_fields opening source) (document_text opening.dialect (documents.part_copied tag moment))
reply_to opening modified (outcomes.Completed document tag shown) = behind (stored_fields opening shown) (document_text opening.dialect document)
reply_to opening modified outcomes.UploadDropped = alone (bare opening)
reply_to opening modified (outcomes.Deleted shown is_delete_marker) = alone (deleted_fields opening shown is_delete_marker)
reply_to opening modified (outcomes.Refused code is_delete_marker) = beside (error_fields opening is_delete_marker) (error_document opening.dialect code opening.number)

-- how a message fared, by what came of it; who answers it, when, and in which dialect; and whether it tells checksums
abbrev pub opening_of : ℕ → Context → List ℕ → Outcome → Opening
opening_of number context date outcome =
    record {
      status = reply_status outcome;
      number = number;
      closes = context.closes;
      date = date;
      dialect = context.dialect;
      tells_checksums = context.tells_checksums;
      checksum = context.checksum;
    }

-- the status of a reply
abbrev pub status_in : Reply → Status
status_in (alone head) = head.status
status_in (beside head text) = head.status
status_in (behind head body) = head.status

-- every reply to what came of a command has this status
abbrev pub HasStatus : Outcome → Status → Type 0
HasStatus outcome status =
    (number : ℕ) (context : Context) (date : List ℕ) (modified : Option (List ℕ))
    → status_in (reply_to (opening_of number context date outcome) modified outcome) ≡ status

-- the text is the printed reply to a message: what the machine answered, dated by the moment of the message
pub record Prints (answer : Answer) (context : Context) (text : List ℕ) : Type 0 where
  pub date : List ℕ
  pub modified : Option (List ℕ)
  pub dated : IsHttpDate context.moment date
  pub shown : IsDateShown (shown_at answer.outcome) modified
  pub printed : text
      ≡ front context.head_only (reply_to (opening_of answer.number context date answer.outcome) modified answer.outcome)
      ++ back context.head_only (reply_to (opening_of answer.number context date answer.outcome) modified answer.outcome)

-- what a refusal takes from its connection and its message: the dialect, the moment, and whether it is a HEAD. It ends the
-- connection
abbrev pub closing : Dialect → ℕ → Bool → Context
closing dialect moment head_only =
    record { moment = moment; head_only = head_only; closes = true; dialect = dialect; tells_checksums = false; checksum = None }

-- the refusal of a message that did not come to the machine: 0 stands for no number
abbrev pub unnumbered : Code → Answer
unnumbered code = record { number = 0; outcome = outcomes.Refused code false }

-- the text is the printed refusal of such a message
abbrev pub PrintsRefusal : Dialect → Code → ℕ → Bool → List ℕ → Type 0
PrintsRefusal dialect code moment head_only text = Prints (unnumbered code) (closing dialect moment head_only) text

-- what is written where memory runs out: it names no moment and no entry
abbrev pub internal_error : List ℕ
internal_error =
    print_with_lines statuses.InternalServerError
    ((codes "Connection", codes "close")
    ∷ (codes "Content-Length", codes "0")
    ∷ (codes "x-amz-request-id", number_digits 0)
    ∷ [])

-- what is written before the body of a message is read, where the client waits for it (RFC 9110, sections
-- 10.1.1 and 15.2.1)
abbrev pub continue_line : List ℕ
continue_line = codes "HTTP/1.1 100 Continue" ++ crlf ++ crlf
