-- The list of a bucket's objects (Amazon S3 API Reference, ListObjectsV2; Amazon S3 User Guide, "Organizing objects using
-- prefixes").
use Rattle.std.specs.Prelude.{ℕ, Bool, if◌then◌else◌, List, filter, Option, Some, None, option_map}
use Rattle.std.specs.List.{dedup, filter_map}
use Rattle.std.specs.Str.{bytes_eq}
use Rattle.s3_records.specs.declared.rows.KeyRow.{KeyRow}
use Rattle.s3_prefixes.specs.declared.asked.ObjectsAsked.{ObjectsAsked}
use Rattle.s3_prefixes.specs.Items.{Item, Object, CommonPrefix, text_of, is_asked, common_prefix, rolled, is_behind_token}
use Rattle.s3_listings.specs.declared.object_page.ListedObject.{ListedObject}
use Rattle.s3_listings.specs.Pages.{Page, page_of, next_of}

-- as which item a row is told: where its key is asked for, and its current version is an object
abbrev pub item_of : ObjectsAsked → KeyRow → Option Item
item_of asked row = if is_asked asked row.key then option_map (rolled (common_prefix asked row.key) row.key) row.facts else None

-- items that have one text are one
abbrev pub is_same : Item → Item → Bool
is_same item other = bytes_eq (text_of item) (text_of other)

-- all items that are asked for: the distinct ones behind the token
abbrev pub objects_asked : ObjectsAsked → List KeyRow → List Item
objects_asked asked rows = filter (is_behind_token asked) (dedup is_same (filter_map (item_of asked) rows))

-- the page of them
abbrev pub objects_page : ObjectsAsked → List KeyRow → Page Item
objects_page asked rows = page_of asked.max_keys (objects_asked asked rows)

-- what a page tells: its objects and its common prefixes, each in their order, and the text of its last item where it is truncated
pub record ObjectsTold : Type 0 where
  pub contents : List ListedObject
  pub prefixes : List (List ℕ)
  pub next : Option (List ℕ)

abbrev pub object_in : Item → Option ListedObject
object_in (Object key facts) = Some (record { key = key; facts = facts })
object_in (CommonPrefix prefix) = None

abbrev pub prefix_in : Item → Option (List ℕ)
prefix_in (Object key facts) = None
prefix_in (CommonPrefix prefix) = Some prefix

abbrev pub told_of : Page Item → ObjectsTold
told_of page = record {
  contents = filter_map object_in page.given;
  prefixes = filter_map prefix_in page.given;
  next = option_map text_of (next_of page);
}

-- what is told of the objects of a bucket that has these keys
unfoldable pub objects_told : ObjectsAsked → List KeyRow → ObjectsTold
objects_told asked rows = told_of (objects_page asked rows)
