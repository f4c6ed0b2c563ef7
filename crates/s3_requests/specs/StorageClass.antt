-- The storage class that a write asks for (Amazon S3 API Reference, PutObject, CopyObject and CreateMultipartUpload,
-- `x-amz-storage-class`). Each line of that name has to name one of S3's classes. Whichever it names, the object is kept as all
-- are, and lists tell STANDARD.
use Rattle.std.specs.Prelude.{ℕ, Bool, true, false, not, ◌&&◌, List, codes}
use Rattle.std.specs.List.{list_any}
use Rattle.std.specs.Str.{bytes_eq}
use Rattle.s3_text.specs.Characters.{space}
use Rattle.s3_text.specs.Cut.{parts_at}
use Rattle.s3_terms.specs.declared.dialect.Dialect.{Dialect}
use Rattle.s3_http_heads.specs.Head.{HeadParts, is_named}
use Rattle.s3_requests.specs.declared.operations.Operation.{Operation}
use Rattle.s3_requests.specs.declared.operations.Operation.TheVariants.{PutObject, CopyObject, CreateMultipartUpload}
use Rattle.s3_requests.specs.Operations.{is_xml}

-- the classes of S3
abbrev pub storage_classes : List (List ℕ)
storage_classes =
    parts_at space (codes "STANDARD REDUCED_REDUNDANCY STANDARD_IA ONEZONE_IA INTELLIGENT_TIERING GLACIER DEEP_ARCHIVE OUTPOSTS GLACIER_IR SNOW EXPRESS_ONEZONE FSX_OPENZFS FSX_ONTAP")

-- a value is one of them; its case counts
abbrev pub is_storage_class : List ℕ → Bool
is_storage_class value = list_any (λ name. bytes_eq value name) storage_classes

-- a line asks for a class, and for another one than these
abbrev pub is_of_no_class : List ℕ × List ℕ → Bool
is_of_no_class line = is_named (codes "x-amz-storage-class") line && not (is_storage_class line.1)

-- an operation makes an object, of a class that its head may name
abbrev pub takes_class : Operation → Bool
takes_class PutObject = true
takes_class CopyObject = true
takes_class CreateMultipartUpload = true
takes_class other = false

-- some line asks such an operation for another class, and documents are XML; where they are JSON all such lines are passed over
abbrev pub asks_for_no_class : Dialect → Operation → HeadParts → Bool
asks_for_no_class dialect operation head =
    is_xml dialect && takes_class operation && list_any (λ line. is_of_no_class line) head.headers
