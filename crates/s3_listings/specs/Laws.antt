-- What users may rely on of the lists of a bucket's objects, versions and uploads, and of an upload's parts.
use Rattle.std.specs.Prelude.{◌≡◌, ◌<◌, ◌↔◌, ℕ, nat_eq, IsTrue, List, [], ◌∷◌, ◌++◌, map as each, Contains, filter, Some, None, Ok, MatchOption, is_none}
use Rattle.std.specs.List.{starts_with, filter_map, flat_map}
use Rattle.std.specs.Str.{bytes_eq}
use Rattle.s3_text.specs.Order.{rises}
use Rattle.s3_versions.specs.Rules.{pick, facts_read}
use Rattle.s3_versions.specs.declared.picking.Facts.{Facts}
use Rattle.s3_records.specs.Catalogue.{Catalogue, versions_of}
use Rattle.s3_records.specs.Laws.{AreCatalogued}
use Rattle.s3_records.specs.Rows.{key_rows}
use Rattle.s3_records.specs.declared.rows.KeyRow.{KeyRow}
use Rattle.s3_records.specs.declared.rows.UploadRow.{UploadRow}
use Rattle.s3_records.specs.declared.rows.VersionRow.{VersionRow}
use Rattle.s3_uploads.specs.Parts.{PartList, numbers_of}
use Rattle.s3_uploads.specs.Parts.{rises as rising}
use Rattle.s3_uploads.specs.declared.part.PartRow.{PartRow}
use Rattle.s3_prefixes.specs.declared.asked.ObjectsAsked.{ObjectsAsked}
use Rattle.s3_listings.specs.declared.asked.PartsAsked.{PartsAsked}
use Rattle.s3_listings.specs.declared.asked.UploadsAsked.{UploadsAsked}
use Rattle.s3_listings.specs.declared.asked.VersionsAsked.{VersionsAsked}
use Rattle.s3_listings.specs.Pages.{Page, next_of, page_of}
use Rattle.s3_prefixes.specs.Items.{Item, Object, text_of, is_before, is_behind_token, rolled_up}
use Rattle.s3_listings.specs.Objects.{item_of, is_same, objects_asked, objects_page}
use Rattle.s3_listings.specs.Parts.{parts_asked, parts_page}
use Rattle.s3_listings.specs.Rolled.{plainly, prefix_in, row_in}
use Rattle.s3_listings.specs.Uploads.{upload_rows_asked, uploads_asked, uploads_page, uploads_told}
use Rattle.s3_listings.specs.Versions.{version_rows_asked, versions_asked, versions_page, versions_told}
use Rattle.s3_listings.specs.declared.row_page.RowItem.{RowItem}
use Rattle.s3_listings.specs.declared.row_page.RowItem.TheVariants.{Row, CommonPrefix}

-- the rows stand by key in the order of bytes, and none twice
abbrev pub AreInOrder : List KeyRow → Type 0
AreInOrder rows = IsTrue (rises (each (λ (row : KeyRow). row.key) rows))

-- so do the items of the list, by their texts
abbrev pub ItemsRise : Type 0
ItemsRise = (asked : ObjectsAsked) (rows : List KeyRow) → AreInOrder rows → IsTrue (rises (each text_of (objects_asked asked rows)))

-- a key is told as this item
abbrev pub IsToldOf : ObjectsAsked → List KeyRow → Item → Type 0
IsToldOf asked rows item = (row : KeyRow) × Contains rows row × (item_of asked row ≡ Some item)

-- an item is in the list exactly where it is told of a key, and stands behind the token
abbrev pub ItemsAreOfKeys : Type 0
ItemsAreOfKeys =
    (asked : ObjectsAsked) (rows : List KeyRow) (item : Item) → AreInOrder rows
    → (Contains (objects_asked asked rows) item ↔ (IsToldOf asked rows item × IsTrue (is_behind_token asked item)))

-- it is the only one there with its text, however many keys are told as it
abbrev pub KeysAreToldOnce : Type 0
KeysAreToldOnce =
    (asked : ObjectsAsked) (rows : List KeyRow) (item : Item) → AreInOrder rows
    → IsToldOf asked rows item → IsTrue (is_behind_token asked item)
    → filter (is_same item) (objects_asked asked rows) ≡ item ∷ []

-- all keys with a prefix are asked for, each by itself
pub record AsksForKeys (asked : ObjectsAsked) : Type 0 where
  pub delimiter : asked.delimiter ≡ []
  pub start_after : asked.start_after ≡ None
  pub token : asked.token ≡ None

-- then an object is in the list exactly where a row tells of it, and its key begins with the prefix
abbrev pub ListedAreKeys : Type 0
ListedAreKeys =
    (asked : ObjectsAsked) (rows : List KeyRow) (key : List ℕ) (facts : Facts) → AreInOrder rows → AsksForKeys asked
    → (Contains (objects_asked asked rows) (Object key facts)
    ↔ (Contains rows (record { key = key; facts = Some facts }) × IsTrue (starts_with nat_eq key asked.prefix)))

-- in a bucket that is where an unconditional read of the key answers it, with these facts
abbrev pub ListedAreRead : Type 0 → Type 0
ListedAreRead B =
    (asked : ObjectsAsked) (c : Catalogue B) (name key : List ℕ) (facts : Facts) → AsksForKeys asked
    → (Contains (objects_asked asked (key_rows c name)) (Object key facts)
    ↔ ((facts_read (pick None (versions_of c name key)) ≡ Ok facts) × IsTrue (starts_with nat_eq key asked.prefix)))

-- the same request, behind an item
abbrev pub behind : ObjectsAsked → Item → ObjectsAsked
behind asked item = record asked { token = Some (text_of item) }

-- A list of items is given page by page, where a request for the rest of it goes on behind the last item of its page.
module _ {Q A : Type 0} (page : Q → Page A) (behind : Q → A → Q) (items : Q → List A) where
  -- the page and what is asked for behind its last item are the list; the last page has it all
  abbrev pub Joins : Q → Type 0
  Joins asked =
      MatchOption (next_of (page asked)) ((page asked).given ≡ items asked)
      (λ last. (page asked).given ++ items (behind asked last) ≡ items asked)

  -- all pages from a request on up to the last one
  abbrev pub ArePages : Q → List (Page A) → Type 0
  ArePages asked [] = ⊥
  ArePages asked (first ∷ []) = (first ≡ page asked) × (next_of first ≡ None)
  ArePages asked (first ∷ next ∷ pages) =
      (first ≡ page asked) × ((last : A) × (next_of first ≡ Some last) × ArePages (behind asked last) (next ∷ pages))

  -- joined they are the list
  abbrev pub AllJoin : Q → Type 0
  AllJoin asked =
      Joins asked × ((pages : List (Page A)) → ArePages asked pages → flat_map (λ page. page.given) pages ≡ items asked)

-- the pages of a list of objects join, by their tokens
abbrev pub PagesJoin : Type 0
PagesJoin =
    (asked : ObjectsAsked) (rows : List KeyRow) → AreInOrder rows → 0 < asked.max_keys
    → AllJoin (λ a. objects_page a rows) behind (λ a. objects_asked a rows) asked

-- where the delimiter is empty, a list of versions or of uploads tells the rows that are asked for, each by itself
abbrev pub PlainVersionsAreRows : Type 0 → Type 0
PlainVersionsAreRows B =
    (asked : VersionsAsked) (c : Catalogue B) (name : List ℕ) → asked.delimiter ≡ []
    → versions_told asked c name ≡ plainly (page_of asked.max_keys (version_rows_asked asked c name))

abbrev pub PlainUploadsAreRows : Type 0 → Type 0
PlainUploadsAreRows B =
    (asked : UploadsAsked) (c : Catalogue B) (name : List ℕ) → asked.delimiter ≡ []
    → uploads_told asked c name ≡ plainly (page_of asked.max_uploads (upload_rows_asked asked c name))

-- each row that has no common prefix is told by itself, in its order, as often as it stands there
abbrev pub AreToldAlone : {A : Type 0} → (A → List ℕ) → (prefix delimiter : List ℕ) → List A → List (RowItem A) → Type 0
AreToldAlone key prefix delimiter rows items = filter_map row_in items ≡ filter (λ row. is_none (rolled_up prefix delimiter (key row))) rows

-- the common prefix of a row is told once where it stands behind the marker, however many rows have it
abbrev pub AreToldOnce : {A : Type 0} → (A → List ℕ) → (prefix delimiter marker : List ℕ) → List A → List (RowItem A) → Type 0
AreToldOnce {A} key prefix delimiter marker rows items =
    (row : A) (text : List ℕ) → Contains rows row → rolled_up prefix delimiter (key row) ≡ Some text → IsTrue (is_before marker text)
    → filter (bytes_eq text) (filter_map prefix_in items) ≡ text ∷ []

-- and nothing else is told as one
abbrev pub ArePrefixesOfRows : {A : Type 0} → (A → List ℕ) → (prefix delimiter marker : List ℕ) → List A → List (RowItem A) → Type 0
ArePrefixesOfRows {A} key prefix delimiter marker rows items =
    (text : List ℕ) → Contains (filter_map prefix_in items) text
    → ((row : A) × Contains rows row × (rolled_up prefix delimiter (key row) ≡ Some text)) × IsTrue (is_before marker text)

-- so each row is told by itself, or by its common prefix alone
pub record AllAreToldOnce {A : Type 0} (key : A → List ℕ) (prefix delimiter marker : List ℕ) (rows : List A) (items : List (RowItem A)) : Type 0 where
  pub alone : AreToldAlone key prefix delimiter rows items
  pub once : AreToldOnce key prefix delimiter marker rows items
  pub of_rows : ArePrefixesOfRows key prefix delimiter marker rows items

abbrev pub VersionsAreToldOnce : Type 0 → Type 0
VersionsAreToldOnce B =
    (asked : VersionsAsked) (c : Catalogue B) (name : List ℕ)
    → AllAreToldOnce (λ (row : VersionRow). row.key) asked.prefix asked.delimiter asked.key_marker (version_rows_asked asked c name) (versions_asked asked c name)

abbrev pub UploadsAreToldOnce : Type 0 → Type 0
UploadsAreToldOnce B =
    (asked : UploadsAsked) (c : Catalogue B) (name : List ℕ)
    → AllAreToldOnce (λ (row : UploadRow). row.key) asked.prefix asked.delimiter asked.key_marker (upload_rows_asked asked c name) (uploads_asked asked c name)

-- the same request, behind an item: a version, or a common prefix, which has no id
abbrev pub behind_row : VersionsAsked → RowItem VersionRow → VersionsAsked
behind_row asked (Row last) = record asked { key_marker = last.key; id_marker = Some last.id }
behind_row asked (CommonPrefix prefix) = record asked { key_marker = prefix; id_marker = None }

-- and the pages of a list of versions join by their markers, where no key has two versions of one id
abbrev pub VersionPagesJoin : Type 0 → Type 0
VersionPagesJoin B =
    (asked : VersionsAsked) (c : Catalogue B) (name : List ℕ) → AreCatalogued c → 0 < asked.max_keys
    → AllJoin (λ a. versions_page a c name) behind_row (λ a. versions_asked a c name) asked

-- the same request, behind an item: an upload, or a common prefix
abbrev pub behind_upload : UploadsAsked → RowItem UploadRow → UploadsAsked
behind_upload asked (Row last) = record asked { key_marker = last.key; id_marker = Some last.id }
behind_upload asked (CommonPrefix prefix) = record asked { key_marker = prefix; id_marker = None }

-- so do the pages of a list of uploads
abbrev pub UploadPagesJoin : Type 0 → Type 0
UploadPagesJoin B =
    (asked : UploadsAsked) (c : Catalogue B) (name : List ℕ) → 0 < asked.max_uploads
    → AllJoin (λ a. uploads_page a c name) behind_upload (λ a. uploads_asked a c name) asked

-- the same request, behind a part
abbrev pub behind_part : PartsAsked → PartRow → PartsAsked
behind_part asked last = record asked { marker = last.number }

-- and those of a list of parts, whose numbers rise
abbrev pub PartPagesJoin : Type 0 → Type 0
PartPagesJoin B =
    (asked : PartsAsked) (parts : PartList B) → IsTrue (rising (numbers_of parts)) → 0 < asked.max_parts
    → AllJoin (λ a. parts_page a parts) behind_part (λ a. parts_asked a parts) asked
