-- Header lines that ask of an operation for what Amazon S3 has and this server hasn't, so that without it what is written or
-- told would be something else than was meant (Amazon S3 API Reference, CreateBucket, PutObject, CopyObject,
-- CreateMultipartUpload, UploadPart, UploadPartCopy, CompleteMultipartUpload, GetObject, HeadObject and DeleteObject, "Request
-- headers").
use Rattle.std.specs.Prelude.{ℕ, Bool, false, not, ◌&&◌, ◌||◌, List, [], ◌∷◌, codes}
use Rattle.std.specs.List.{list_any}
use Rattle.std.specs.Str.{bytes_eq}
use Rattle.s3_terms.specs.declared.dialect.Dialect.{Dialect}
use Rattle.s3_http_heads.specs.Head.{HeadParts, is_named}
use Rattle.s3_requests.specs.declared.operations.Operation.{Operation}
use Rattle.s3_requests.specs.declared.operations.Operation.TheVariants.{CreateBucket, PutObject, CopyObject, GetObject, HeadObject, DeleteObject, CreateMultipartUpload, UploadPart, UploadPartCopy, CompleteMultipartUpload}
use Rattle.s3_requests.specs.LineNames.{begins_with, is_called}
use Rattle.s3_requests.specs.Operations.{is_xml}

-- how the names of lines begin that ask a write for it, whatever they say: for encryption, of what is written or of what is
-- copied, for a lock, or for grants
abbrev pub unserved_fronts : List (List ℕ)
unserved_fronts =
    codes "x-amz-server-side-encryption"
    ∷ codes "x-amz-copy-source-server-side-encryption-"
    ∷ codes "x-amz-object-lock-"
    ∷ codes "x-amz-grant-"
    ∷ []

-- the words for grants that leave all to the one owner
abbrev pub grants_of_owner : List (List ℕ)
grants_of_owner = codes "private" ∷ codes "bucket-owner-full-control" ∷ codes "bucket-owner-read" ∷ []

-- the names of the other lines that do: for grants, a lock, tags, or a page that leads elsewhere. Beside each stand the values,
-- whose case counts, that ask for what is so here anyway: all is the owner's, nothing is locked, and nothing has tags
abbrev pub unserved_names : List (List ℕ × List (List ℕ))
unserved_names =
    (codes "x-amz-acl", grants_of_owner)
    ∷ (codes "x-amz-bucket-object-lock-enabled", codes "false" ∷ [])
    ∷ (codes "x-amz-tagging", [])
    ∷ (codes "x-amz-tagging-directive", codes "COPY" ∷ [])
    ∷ (codes "x-amz-website-redirect-location", [])
    ∷ []

-- a line has this name, and none of these values
abbrev pub says_other : List ℕ × List (List ℕ) → List ℕ × List ℕ → Bool
says_other row line = is_named row.0 line && not (list_any (λ value. bytes_eq line.1 value) row.1)

-- a line asks a write for it
abbrev pub is_unserved_of_write : List ℕ × List ℕ → Bool
is_unserved_of_write line =
    list_any (λ front. begins_with front line.0) unserved_fronts || list_any (λ row. says_other row line) unserved_names

-- lines of this name ask a read for it: to decrypt what is told by a key that the client has
abbrev pub is_unserved_of_read : List ℕ → Bool
is_unserved_of_read name = begins_with (codes "x-amz-server-side-encryption-customer-") name

-- lines of this name ask a copy for it: they set a condition for what the copy replaces
abbrev pub is_unserved_of_copy : List ℕ → Bool
is_unserved_of_copy name = is_called (codes "if-match") name || is_called (codes "if-none-match") name

-- lines of this name ask a delete for it: they set a condition for the date or the size of what is deleted, which S3 has of
-- directory buckets alone
abbrev pub is_unserved_of_delete : List ℕ → Bool
is_unserved_of_delete name =
    is_called (codes "x-amz-if-match-last-modified-time") name || is_called (codes "x-amz-if-match-size") name

-- a line asks this operation for it: one that makes a bucket, an object or a part, or one that reads or deletes an object
abbrev pub is_unserved_line : Operation → List ℕ × List ℕ → Bool
is_unserved_line CreateBucket line = is_unserved_of_write line
is_unserved_line PutObject line = is_unserved_of_write line
is_unserved_line CopyObject line = is_unserved_of_write line || is_unserved_of_copy line.0
is_unserved_line CreateMultipartUpload line = is_unserved_of_write line
is_unserved_line UploadPart line = is_unserved_of_write line
is_unserved_line UploadPartCopy line = is_unserved_of_write line
is_unserved_line CompleteMultipartUpload line = is_unserved_of_write line
is_unserved_line GetObject line = is_unserved_of_read line.0
is_unserved_line HeadObject line = is_unserved_of_read line.0
is_unserved_line DeleteObject line = is_unserved_of_delete line.0
is_unserved_line other line = false

-- some line does, and documents are XML; where they are JSON all such lines are passed over
abbrev pub asks_for_more : Dialect → Operation → HeadParts → Bool
asks_for_more dialect operation head = is_xml dialect && list_any (λ line. is_unserved_line operation line) head.headers
