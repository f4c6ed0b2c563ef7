-- The list of a bucket's objects (Amazon S3 API Reference, ListObjectsV2). The tree is the same for both versions of the
-- list: the first one, ListObjects, is never told as JSON.
use Rattle.std.specs.Prelude.{ℕ, ◌+◌, ◌==◌, if◌then◌else◌, List, [], ◌∷◌, ◌++◌, map, length, codes, Option, Some, None, option_map, is_some}
use Rattle.hex.specs.Hex.{encode_lower}
use Rattle.s3_prefixes.specs.declared.asked.ObjectsAsked.{ObjectsAsked}
use Rattle.s3_listings.specs.declared.object_page.ListedObject.{ListedObject}
use Rattle.s3_listings.specs.Objects.{ObjectsTold}
use Rattle.s3_documents.specs.Copied.{tag_told}
use Rattle.s3_documents.specs.Printed.{told}
use Rattle.s3_documents.specs.Tree.{Value, text, encodable, number, truth, moment, Fields, leaves, rows, Tree}

-- an object's row
abbrev pub object_row : ListedObject → Fields
object_row object =
    (codes "ETag", text (tag_told object.facts.tag))
    ∷ (codes "Key", encodable object.key)
    ∷ (codes "LastModified", moment object.facts.moment)
    ∷ (codes "Size", number object.facts.size)
    ∷ []

-- a common prefix's
abbrev pub prefix_row : List ℕ → Fields
prefix_row prefix = (codes "Prefix", encodable prefix) ∷ []

-- how many items are told
abbrev pub key_count : ObjectsTold → ℕ
key_count page = length page.contents + length page.prefixes

-- the text behind which a list goes on, as it is told: its bytes in hexadecimal digits
abbrev pub token_told : List ℕ → Value
token_told token = text (encode_lower token)

-- an empty delimiter counts as absent
abbrev pub delimiter_told : List ℕ → Option Value
delimiter_told delimiter = if length delimiter == 0 then None else Some (encodable delimiter)

-- what stands beside the rows: what was asked, and what is told of the page
abbrev pub objects_fields : List ℕ → ObjectsAsked → ObjectsTold → Fields
objects_fields name asked page =
    told (codes "ContinuationToken") (option_map token_told asked.token)
    ++ told (codes "Delimiter") (delimiter_told asked.delimiter)
    ++ (codes "IsTruncated", truth (is_some page.next))
    ∷ (codes "KeyCount", number (key_count page))
    ∷ (codes "MaxKeys", number asked.max_keys)
    ∷ (codes "Name", text name)
    ∷ []
    ++ told (codes "NextContinuationToken") (option_map token_told page.next)
    ++ (codes "Prefix", encodable asked.prefix)
    ∷ told (codes "StartAfter") (option_map encodable asked.start_after)

-- the document of these common prefixes and objects, with these fields beside them
abbrev pub page_tree : List (List ℕ) → List ListedObject → Fields → Tree
page_tree prefixes contents fields =
    (codes "CommonPrefixes", rows (map prefix_row prefixes))
    ∷ (codes "Contents", rows (map object_row contents))
    ∷ leaves fields

-- the document of a page of the objects of the bucket of this name
abbrev pub objects_tree : List ℕ → ObjectsAsked → ObjectsTold → Tree
objects_tree name asked page = page_tree page.prefixes page.contents (objects_fields name asked page)
