-- What is told of a copy that was made (Amazon S3 API Reference, CopyObject and UploadPartCopy).
use Rattle.std.specs.Prelude.{ℕ, List, [], ◌∷◌, ◌++◌, codes}
use Rattle.s3_documents.specs.Tree.{text, moment, Fields}

-- an entity tag as it stands in a document: in double quotes
abbrev pub tag_told : List ℕ → List ℕ
tag_told tag = codes "\"" ++ tag ++ codes "\""

-- the tag of the version or of the part that was made, and its moment
abbrev pub copied_fields : List ℕ → ℕ → Fields
copied_fields tag made = (codes "ETag", text (tag_told tag)) ∷ (codes "LastModified", moment made) ∷ []
