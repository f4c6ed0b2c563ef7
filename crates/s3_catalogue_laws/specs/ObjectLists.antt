-- Behind what a list of objects begins, and one of parts: behind the key that it is to start after, behind the token, behind the
-- marker, and none of these is told again (Amazon S3 API Reference, ListObjectsV2, `start-after` and `continuation-token`, and
-- ListParts, `part-number-marker`).
use Rattle.std.specs.Prelude.{◌≡◌, ◌≢◌, ◌↔◌, ◌<◌, ℕ, nat_eq, IsTrue, List, Some, None, IfSome}
use Rattle.std.specs.List.{Contains, starts_with}
use Rattle.std.specs.declared.cmp.Ordering.TheVariants.{Less}
use Rattle.s3_text.specs.Order.{byte_order}
use Rattle.s3_versions.specs.declared.picking.Facts.{Facts}
use Rattle.s3_uploads.specs.Parts.{PartList, part_rows}
use Rattle.s3_uploads.specs.declared.part.PartRow.{PartRow}
use Rattle.s3_records.specs.Catalogue.{Catalogue}
use Rattle.s3_records.specs.Rows.{key_rows}
use Rattle.s3_records.specs.declared.rows.KeyRow.{KeyRow}
use Rattle.s3_prefixes.specs.declared.asked.ObjectsAsked.{ObjectsAsked}
use Rattle.s3_prefixes.specs.Items.{Item, Object, text_of, common_prefix, rolled}
use Rattle.s3_listings.specs.declared.asked.PartsAsked.{PartsAsked}
use Rattle.s3_listings.specs.Objects.{objects_asked}
use Rattle.s3_listings.specs.Parts.{parts_asked}

-- a text stands behind another, in the order of bytes
abbrev pub IsBehind : List ℕ → List ℕ → Type 0
IsBehind text other = byte_order other text ≡ Less

-- an item stands behind the token, where one is given
abbrev pub IsBehindToken : ObjectsAsked → Item → Type 0
IsBehindToken asked item = IfSome asked.token (IsBehind (text_of item))

-- a key stands behind the one that the list is to start after, where one is given, and no token
abbrev pub IsBehindStart : ObjectsAsked → List ℕ → Type 0
IsBehindStart asked key = asked.token ≡ None → IfSome asked.start_after (IsBehind key)

-- an item is told of a key that has the prefix and that current facts are known of, as itself or rolled up
pub record IsOfKey (asked : ObjectsAsked) (rows : List KeyRow) (item : Item) : Type 0 where
  pub key : List ℕ
  pub facts : Facts
  pub row : Contains rows (record { key = key; facts = Some facts })
  pub prefix : IsTrue (starts_with nat_eq key asked.prefix)
  pub behind : IsBehindStart asked key
  pub is : rolled (common_prefix asked key) key facts ≡ item

-- a list has an item exactly where it is told of a key behind the start, and stands behind the token
abbrev pub ListsBeginBehind : Type 0 → Type 0
ListsBeginBehind B =
    (asked : ObjectsAsked) (c : Catalogue B) (name : List ℕ) (item : Item)
    → Contains (objects_asked asked (key_rows c name)) item ↔ (IsOfKey asked (key_rows c name) item × IsBehindToken asked item)

-- so it doesn't tell the token again, nor the key that it is to start after
abbrev pub TokensAreNotTold : Type 0 → Type 0
TokensAreNotTold B =
    (asked : ObjectsAsked) (c : Catalogue B) (name token : List ℕ) (item : Item) → asked.token ≡ Some token
    → Contains (objects_asked asked (key_rows c name)) item → text_of item ≢ token

abbrev pub StartsAreNotTold : Type 0 → Type 0
StartsAreNotTold B =
    (asked : ObjectsAsked) (c : Catalogue B) (name start : List ℕ) (facts : Facts) → asked.token ≡ None → asked.start_after ≡ Some start
    → ¬ Contains (objects_asked asked (key_rows c name)) (Object start facts)

-- a list of parts has those whose numbers are above the marker, and no other
abbrev pub PartsBeginBehind : Type 0 → Type 0
PartsBeginBehind B =
    (asked : PartsAsked) (parts : PartList B) (row : PartRow)
    → Contains (parts_asked asked parts) row ↔ (Contains (part_rows parts) row × (asked.marker < row.number))
