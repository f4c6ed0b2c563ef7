-- What is told of a refusal (Amazon S3 API Reference, "Error responses").
use Rattle.std.specs.Prelude.{ℕ, [], ◌∷◌, ◌++◌, codes}
use Rattle.s3_text.specs.Digits.{number_digits}
use Rattle.s3_terms.specs.Code.{name_of, message_of}
use Rattle.s3_terms.specs.declared.code.Code.{Code}
use Rattle.s3_documents.specs.Tree.{text, Fields}

-- its name, and its message
abbrev pub error_fields : Code → Fields
error_fields code = (codes "Code", text (name_of code)) ∷ (codes "Message", text (message_of code)) ∷ []

-- and in XML the number of the answer, as the id of the request
abbrev pub error_elements : Code → ℕ → Fields
error_elements code number = error_fields code ++ (codes "RequestId", text (number_digits number)) ∷ []
