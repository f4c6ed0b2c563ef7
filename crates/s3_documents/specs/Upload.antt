-- What is told of an upload that was begun, and of one that was completed (Amazon S3 API Reference,
-- CreateMultipartUpload and CompleteMultipartUpload).
use Rattle.std.specs.Prelude.{ℕ, List, [], ◌∷◌, codes}
use Rattle.s3_names.specs.Ids.{upload_id_text}
use Rattle.s3_documents.specs.Copied.{tag_told}
use Rattle.s3_documents.specs.Tree.{text, Fields}

-- of one that was begun: its bucket, its key and its id
abbrev pub begun_fields : (bucket key : List ℕ) → ℕ → Fields
begun_fields bucket key id =
    (codes "Bucket", text bucket) ∷ (codes "Key", text key) ∷ (codes "UploadId", text (upload_id_text id)) ∷ []

-- of one that was completed: its bucket, the tag of the version that was made, and its key
abbrev pub completed_fields : (bucket key tag : List ℕ) → Fields
completed_fields bucket key tag =
    (codes "Bucket", text bucket) ∷ (codes "ETag", text (tag_told tag)) ∷ (codes "Key", text key) ∷ []
