-- The documents of refusals, and the types of documents (Amazon S3 API Reference, "Error responses").
use Rattle.std.specs.Prelude.{ℕ, ◌==◌, if◌then◌else◌, List, [], length, codes}
use Rattle.s3_terms.specs.Code.{message_of}
use Rattle.s3_terms.specs.declared.code.Code.{Code}
use Rattle.s3_terms.specs.declared.dialect.Dialect.{Dialect}
use Rattle.s3_terms.specs.declared.dialect.Dialect.TheVariants.{Json, S3}
use Rattle.s3_documents.specs.Document as documents
use Rattle.s3_documents.specs.Spelling.{document_text}

-- the text of a refusal's document, in the answer of this number; InternalError, the code without a message, has none
abbrev pub error_document : Dialect → Code → ℕ → List ℕ
error_document dialect code number = if length (message_of code) == 0 then [] else document_text dialect (documents.error code number)

-- the type of a document
abbrev pub content_type_in : Dialect → List ℕ
content_type_in Json = codes "application/json"
content_type_in S3 = codes "application/xml"
