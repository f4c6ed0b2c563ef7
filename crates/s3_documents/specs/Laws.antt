-- What is known of all documents.
use Rattle.std.specs.Prelude.{◌≡◌, IsTrue, ℕ, ◌≤◌, List, [], ◌∷◌, Some}
use Rattle.s3_calendar.specs.Moment.{is_stamp, last_moment, stamp_seconds}
use Rattle.serde_json.specs.Written.{compact_text}
use Rattle.s3_terms.specs.declared.dialect.Dialect.TheVariants.{S3}
use Rattle.s3_xml.specs.Documents.{document_of}
use Rattle.s3_xml.specs.Events.{text, element}
use Rattle.s3_documents.specs.Document.{Document}
use Rattle.s3_documents.specs.Json.{tree_data}
use Rattle.s3_documents.specs.Spelling.{document_text}
use Rattle.s3_documents.specs.Timestamp.{spelled_out, timestamp}
use Rattle.s3_documents.specs.Tree.{Tree, tree_text}
use Rattle.s3_documents.specs.Xml.{root_of, events_of}

-- the text of a tree is what `serde_json` prints of it, compact
abbrev pub TreesAreJson : Type 0
TreesAreJson = (tree : Tree) → compact_text (tree_data tree) ≡ tree_text tree

-- a moment is written as the stamp that names it, spelled out
abbrev pub TimestampsSpellStamps : Type 0
TimestampsSpellStamps =
    (stamp : List ℕ) → IsTrue (is_stamp stamp) → stamp_seconds stamp ≤ last_moment → timestamp (stamp_seconds stamp) ≡ spelled_out stamp

-- in XML each document is read as what it tells, whatever bytes its keys, names and tags have, behind the line's end
-- that stands in front of the root
abbrev pub XmlIsReadBack : Type 0
XmlIsReadBack =
    (document : Document) → document_of (document_text S3 document) ≡ Some (text (10 ∷ []) ∷ element (root_of document) (events_of document))
