-- A page of a list of objects while it is made: what it has so far, and what becomes of it with the rows that are left.
use Rattle.std.specs.Prelude.{◌≡◌, ℕ, Bool, true, false, not, nat_lt, if◌then◌else◌, List, [], ◌∷◌, ◌++◌, take, filter, length, map as each, Option, Some, None, IfSome, option_map, option_and_then, ◌+◌, ◌-◌, ◌<◌, nat_eq, IsTrue, ◌||◌, MatchBool}
use Rattle.std.specs.List.{AllByRecursion, filter_map, last_or, cons_option, slice_get, starts_with}
use Rattle.std.specs.Option.{option_map_or, option_or}
use Rattle.s3_records.specs.Rows.{is_from}
use Rattle.s3_records.specs.declared.rows.KeyRow.{KeyRow}
use Rattle.s3_records.specs.declared.rows.Start.{Start}
use Rattle.s3_prefixes.specs.declared.asked.ObjectsAsked.{ObjectsAsked}
use Rattle.s3_listings.specs.declared.draft.Draft.{Draft}
use Rattle.s3_listings.specs.declared.object_page.ListedObject.{ListedObject}
use Rattle.s3_prefixes.specs.Items.{Item, text_of, is_before, is_behind_start, common_prefix, behind_token}
use Rattle.s3_prefixes.specs.Tellings.{is_last}
use Rattle.s3_listings.specs.Objects.{item_of, object_in, prefix_in, ObjectsTold}

-- as which item a row is told, where it is
abbrev pub told : ObjectsAsked → KeyRow → Option Item
told asked row = option_and_then (behind_token asked) (item_of asked row)

-- the items that follow one with the last text, without those that it is again
abbrev pub distinct : Option (List ℕ) → List Item → List Item
distinct last [] = []
distinct last (item ∷ items) =
    if is_last last (text_of item) then distinct last items else item ∷ distinct (Some (text_of item)) items

-- the rows are behind the key that the list is to start after, where that is known
abbrev pub AreBehindStart : ObjectsAsked → Bool → List KeyRow → Type 0
AreBehindStart asked is_known rows = is_known ≡ true → AllByRecursion (λ row. is_behind_start asked row.key ≡ true) rows

-- a page as it is made: its objects and common prefixes so far, the text of its last item, how many more it takes, and
-- whether one more is known that it doesn't take
pub record Drafted : Type 0 where
  pub contents : List ListedObject
  pub prefixes : List (List ℕ)
  pub last : Option (List ℕ)
  pub room : ℕ
  pub is_truncated : Bool

-- the page that it is, if nothing follows
abbrev pub page_of_draft : Drafted → ObjectsTold
page_of_draft d = record { contents = d.contents; prefixes = d.prefixes; next = if d.is_truncated then d.last else None }

-- and with these items behind it, of which none is its last one
abbrev pub with_distinct : Drafted → List Item → ObjectsTold
with_distinct d items =
    if d.is_truncated then page_of_draft d
    else record {
      contents = d.contents ++ filter_map object_in (take d.room items);
      prefixes = d.prefixes ++ filter_map prefix_in (take d.room items);
      next = if nat_lt d.room (length items) then last_or d.last (each text_of (take d.room items)) else None;
    }

-- with these items
unfoldable pub with_items : Drafted → List Item → ObjectsTold
with_items d items = with_distinct d (distinct d.last items)

-- with these rows
abbrev pub with_rows : ObjectsAsked → Drafted → List KeyRow → ObjectsTold
with_rows asked d rows = with_items d (filter_map (told asked) rows)

-- a page that has nothing yet
abbrev pub no_items : ℕ → Drafted
no_items room = record { contents = []; prefixes = []; last = None; room = room; is_truncated = false }

-- the last one of a list
abbrev pub last_in : {A : Type 0} → List A → Option A
last_in xs = slice_get xs (length xs - 1)

-- the text of the last item: of a common prefix, or of an object
abbrev pub last_text : Bool → List ListedObject → List (List ℕ) → Option (List ℕ)
last_text ends_in_prefix contents prefixes =
    if ends_in_prefix then last_in prefixes else option_map (λ object. object.key) (last_in contents)

-- what a draft has
abbrev pub drafted : Draft → Drafted
drafted draft = record {
  contents = draft.contents.items;
  prefixes = draft.prefixes.items;
  last = last_text draft.ends_in_prefix draft.contents.items draft.prefixes.items;
  room = draft.room;
  is_truncated = draft.is_truncated;
}

-- with one more item
abbrev pub with_item : Drafted → Item → Drafted
with_item d item = record {
  contents = d.contents ++ cons_option (object_in item) [];
  prefixes = d.prefixes ++ cons_option (prefix_in item) [];
  last = Some (text_of item);
  room = d.room - 1;
  is_truncated = d.is_truncated;
}

-- an item of this text is one more for which there is room
pub record HasRoomFor (d : Drafted) (text : List ℕ) : Type 0 where
  pub more : d.is_truncated ≡ false
  pub other : is_last d.last text ≡ false
  pub room : 0 < d.room

-- whether a page takes an item of this text: it is left as it is for one that it takes, and is through with any other
abbrev pub TakesItem : Bool → Drafted → Drafted → List ℕ → Type 0
TakesItem takes before after text =
    MatchBool takes
    ((after ≡ before) × HasRoomFor before text)
    ((item : Item) (items : List Item) → text_of item ≡ text → with_items after items ≡ with_items before (item ∷ items))

-- where to go on, and nowhere
abbrev pub goes_on_at : Option Start → List ℕ → Bool
goes_on_at start key = option_map_or (λ s. is_from s key) start false

-- the rows that are left from there on
abbrev pub left_from : Option Start → List KeyRow → List KeyRow
left_from start rows = filter (λ row. goes_on_at start row.key) rows

-- a row adds nothing behind the last item
abbrev pub AddsNothing : ObjectsAsked → Option (List ℕ) → KeyRow → Type 0
AddsNothing asked last row = IfSome (told asked row) (λ item. last ≡ Some (text_of item))

-- a place at which a list goes on, behind a key
pub record GoesBehind (asked : ObjectsAsked) (key : List ℕ) (last : Option (List ℕ)) (next : Option Start) : Type 0 where
  pub behind : (other : List ℕ) → is_before key other ≡ false → goes_on_at next other ≡ false
  pub passed : (row : KeyRow) → is_before key row.key ≡ true → goes_on_at next row.key ≡ false → AddsNothing asked last row

-- and a place at which it begins
abbrev pub Begins : ObjectsAsked → Start → Type 0
Begins asked start = (row : KeyRow) → is_from start row.key ≡ false → AddsNothing asked None row

-- nothing more is told of what has this common prefix, that of a key: it was the last item, or isn't behind the token
pub record IsDone (asked : ObjectsAsked) (last : Option (List ℕ)) (key prefix : List ℕ) : Type 0 where
  pub begun : IsTrue (starts_with nat_eq key asked.prefix)
  pub common : common_prefix asked key ≡ Some prefix
  pub done : IsTrue (is_last last prefix || not (option_map_or (λ token. is_before token prefix) asked.token true))

-- the same text with its last byte raised by one
abbrev pub IsRaised : List ℕ → List ℕ → Type 0
IsRaised text raised = (front : List ℕ) × (byte : ℕ) × (text ≡ front ++ byte ∷ []) × (raised ≡ front ++ (byte + 1) ∷ [])

-- the text behind which a list goes on: the token's, or the one to start after
abbrev pub limit : ObjectsAsked → Option (List ℕ)
limit asked = option_or asked.token asked.start_after

-- how many batches a list may take at most
abbrev pub steps_left : Option Start → List KeyRow → ℕ
steps_left None rows = 0
steps_left (Some start) rows = length (left_from (Some start) rows) + 1

-- a batch of rows from a place on was taken: the page becomes what it would, and less is left
pub record TakesBatch (asked : ObjectsAsked) (before after : Drafted) (start next : Option Start) (all : List KeyRow) : Type 0 where
  pub page : with_rows asked after (left_from next all) ≡ with_rows asked before (left_from start all)
  pub fewer : steps_left next all < steps_left start all

-- the last key of a batch for which so many rows were asked, where more may follow it
abbrev pub IsLastKey : ℕ → List KeyRow → Option (List ℕ) → Type 0
IsLastKey most rows None = length rows < most
IsLastKey most rows (Some key) = option_map (λ row. row.key) (last_in rows) ≡ Some key
