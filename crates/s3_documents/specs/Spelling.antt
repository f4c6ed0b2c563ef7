-- How documents are spelled.
use Rattle.std.specs.Prelude.{ℕ, List}
use Rattle.s3_terms.specs.declared.dialect.Dialect.{Dialect}
use Rattle.s3_terms.specs.declared.dialect.Dialect.TheVariants.{Json, S3}
use Rattle.s3_documents.specs.Document.{Document, tree_of}
use Rattle.s3_documents.specs.Tree.{tree_text}
use Rattle.s3_documents.specs.Xml.{root_of, namespace_of, events_of}
use Rattle.s3_xml.specs.Printed as xml

-- the text of a document: JSON, or XML as S3 has it
abbrev pub document_text : Dialect → Document → List ℕ
document_text Json document = tree_text (tree_of document)
document_text S3 document = xml.document_text (root_of document) (namespace_of document) (events_of document)
