-- How a list is told whose rows have common prefixes: rows are taken up to the first one that has one, and the list goes on behind
-- all that have it.
use Rattle.std.specs.Prelude.{◌≡◌, ◌⊎◌, ◌≤◌, ◌<◌, ⊤, ℕ, Bool, false, true, if◌then◌else◌, nat_eq, List, [], ◌∷◌, ◌++◌, length, take, map, filter, Option, Some, None}
use Rattle.std.specs.List.{AllByRecursion, starts_with}
use Rattle.s3_prefixes.specs.Items.{is_before, rolled_up}
use Rattle.s3_listings.specs.Drafts.{IsRaised}
use Rattle.s3_listings.specs.Rolled.{items_asked}
use Rattle.s3_listings.specs.Sought.{Covers, begins_with, rows_at_least}
use Rattle.s3_listings.specs.declared.row_page.RowItem.{RowItem}
use Rattle.s3_listings.specs.declared.row_page.RowItem.TheVariants.{Row, CommonPrefix}
use Rattle.s3_listings.specs.declared.rolled.Place.{Place}
use Rattle.s3_listings.specs.declared.rolled.Place.TheVariants.{Marker, Beyond}

-- what is told of a common prefix: nothing where it isn't behind the marker
abbrev pub told_prefix : {A : Type 0} → List ℕ → List ℕ → List (RowItem A)
told_prefix marker prefix = if is_before marker prefix then CommonPrefix prefix ∷ [] else []

-- a row is told by itself
abbrev pub IsAlone : {A : Type 0} → (A → List ℕ) → (prefix delimiter : List ℕ) → A → Type 0
IsAlone key prefix delimiter row = rolled_up prefix delimiter (key row) ≡ None

-- the place is behind all that begin with a text, of which one is a key
abbrev pub LiesBeyond : (text key : List ℕ) → Place → Type 0
LiesBeyond text key Marker = ⊥
LiesBeyond text key (Beyond start from) = IsRaised text from.items × Covers start from.items

-- the first row that has a common prefix, which is told in its place
pub record TakesPrefix {A : Type 0} (key : A → List ℕ) (prefix delimiter marker : List ℕ) (rows : List A) (before after : List (RowItem A)) (place : Place) : Type 0 where
  pub front : List A
  pub row : A
  pub rest : List A
  pub cut : rows ≡ front ++ row ∷ rest
  pub alone : AllByRecursion (IsAlone key prefix delimiter) front
  pub text : List ℕ
  pub common : rolled_up prefix delimiter (key row) ≡ Some text
  pub taken : after ≡ (before ++ map Row front) ++ told_prefix marker text
  pub beyond : LiesBeyond text (key row) place

-- rows were taken: all of them, or up to the first one that has a common prefix, behind which the list goes on at a place
abbrev pub TakesRows : {A : Type 0} → (A → List ℕ) → (prefix delimiter marker : List ℕ) → List A → (before after : List (RowItem A)) → Option Place → Type 0
TakesRows key prefix delimiter marker rows before after None =
    AllByRecursion (IsAlone key prefix delimiter) rows × (after ≡ before ++ map Row rows)
TakesRows key prefix delimiter marker rows before after (Some place) =
    TakesPrefix key prefix delimiter marker rows before after place

-- the rows that are left from a place on
abbrev pub left_at : {A : Type 0} → (A → List ℕ) → List A → Place → List A
left_at key asked Marker = asked
left_at key asked (Beyond start text) = rows_at_least key text.items asked

-- a place of a list that goes on behind a marker, of keys that begin with a prefix
abbrev pub IsPlace : (prefix marker : List ℕ) → Place → Type 0
IsPlace prefix marker Marker = ⊤
IsPlace prefix marker (Beyond start text) =
    Covers start text.items × (is_before marker text.items ≡ true) × (is_before text.items prefix ≡ false)

-- of the rows that are left these are enough for so many items: so many, or all, or one of them has a common prefix
pub record AreEnough {A : Type 0} (key : A → List ℕ) (prefix delimiter : List ℕ) (most : ℕ) (left rows : List A) : Type 0 where
  pub count : ℕ
  pub are : rows ≡ take count left
  pub enough : AllByRecursion (IsAlone key prefix delimiter) rows → (most ≤ count) ⊎ (length rows < count)
