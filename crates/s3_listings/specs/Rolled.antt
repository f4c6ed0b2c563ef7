-- What a list tells whose rows stand by key, where keys that hold a delimiter are told by their common prefixes alone (Amazon S3
-- API Reference, ListObjectVersions and ListMultipartUploads, `delimiter`, `key-marker` and `CommonPrefixes`).
use Rattle.std.specs.Prelude.{ℕ, Bool, true, false, if◌then◌else◌, List, [], ◌∷◌, map, filter, Option, Some, None, option_map, option_and_then}
use Rattle.std.specs.List.{dedup, filter_map}
use Rattle.std.specs.Option.{option_map_or}
use Rattle.std.specs.Str.{bytes_eq}
use Rattle.s3_prefixes.specs.Items.{is_before, rolled_up}
use Rattle.s3_listings.specs.Pages.{Page, last_of, next_of}
use Rattle.s3_listings.specs.declared.row_page.RowItem.{RowItem}
use Rattle.s3_listings.specs.declared.row_page.RowItem.TheVariants.{Row, CommonPrefix}

-- as which item a row is told: by its common prefix, where it has one
abbrev pub rolled_row : {A : Type 0} → A → Option (List ℕ) → RowItem A
rolled_row row None = Row row
rolled_row row (Some prefix) = CommonPrefix prefix

abbrev pub item_of : {A : Type 0} → (A → List ℕ) → (prefix delimiter : List ℕ) → A → RowItem A
item_of key prefix delimiter row = rolled_row row (rolled_up prefix delimiter (key row))

-- common prefixes that have one text are one item; a row is no other item
abbrev pub is_same : {A : Type 0} → RowItem A → RowItem A → Bool
is_same (CommonPrefix prefix) (CommonPrefix other) = bytes_eq prefix other
is_same item other = false

-- an item stands behind the marker, as the rows do: a common prefix, where its text is behind that of the key
abbrev pub is_behind : {A : Type 0} → List ℕ → RowItem A → Bool
is_behind marker (Row row) = true
is_behind marker (CommonPrefix prefix) = is_before marker prefix

-- all items that rows which stand behind a marker are told as: the distinct ones that stand behind it
abbrev pub items_asked : {A : Type 0} → (A → List ℕ) → (prefix delimiter marker : List ℕ) → List A → List (RowItem A)
items_asked key prefix delimiter marker rows = filter (is_behind marker) (dedup is_same (map (item_of key prefix delimiter) rows))

-- what a page tells: its rows and its common prefixes, each in their order, and its last item where it is truncated
pub record RowsTold (A : Type 0) : Type 0 where
  pub rows : List A
  pub prefixes : List (List ℕ)
  pub next : Option (RowItem A)

abbrev pub row_in : {A : Type 0} → RowItem A → Option A
row_in (Row row) = Some row
row_in (CommonPrefix prefix) = None

abbrev pub prefix_in : {A : Type 0} → RowItem A → Option (List ℕ)
prefix_in (Row row) = None
prefix_in (CommonPrefix prefix) = Some prefix

abbrev pub rows_told : {A : Type 0} → Page (RowItem A) → RowsTold A
rows_told page = record {
  rows = filter_map row_in page.given;
  prefixes = filter_map prefix_in page.given;
  next = next_of page;
}

-- the same of a page that has rows alone
abbrev pub plainly : {A : Type 0} → Page A → RowsTold A
plainly page = record { rows = page.given; prefixes = []; next = option_map Row (next_of page) }

-- the row behind which the next page goes on, or the common prefix
abbrev pub next_row : {A : Type 0} → RowsTold A → Option A
next_row told = option_and_then row_in told.next

abbrev pub next_prefix : {A : Type 0} → RowsTold A → Option (List ℕ)
next_prefix told = option_and_then prefix_in told.next

-- the last item by the kind that it is of
abbrev pub last_item : {A : Type 0} → Bool → List A → List (List ℕ) → Option (RowItem A)
last_item ends_in_prefix rows prefixes =
    if ends_in_prefix then option_map CommonPrefix (last_of prefixes) else option_map Row (last_of rows)

-- whether the last item is a common prefix
abbrev pub is_prefix : {A : Type 0} → RowItem A → Bool
is_prefix (Row row) = false
is_prefix (CommonPrefix prefix) = true

abbrev pub ends_in_prefix : {A : Type 0} → List (RowItem A) → Bool
ends_in_prefix items = option_map_or is_prefix (last_of items) false

-- what a page tells that has these rows and common prefixes, and ends in one of these or in one of those
abbrev pub told_so : {A : Type 0} → (is_truncated ends_in_prefix : Bool) → List A → List (List ℕ) → RowsTold A
told_so is_truncated ends_in_prefix rows prefixes = record {
  rows = rows;
  prefixes = prefixes;
  next = if is_truncated then last_item ends_in_prefix rows prefixes else None;
}
