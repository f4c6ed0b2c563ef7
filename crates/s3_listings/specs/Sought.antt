-- How the rows of a list that stands by key are looked for: from a text on that is behind no row that is asked for.
use Rattle.std.specs.Prelude.{◌≡◌, ℕ, Bool, true, false, not, nat_eq, List, [], ◌∷◌, filter, Contains, ⊤}
use Rattle.std.specs.List.{AllByRecursion, starts_with}
use Rattle.s3_records.specs.Rows.{is_from}
use Rattle.s3_records.specs.declared.rows.Start.{Start}
use Rattle.s3_prefixes.specs.Items.{is_before}

-- a row's key begins with a prefix
abbrev pub begins_with : {A : Type 0} → (A → List ℕ) → List ℕ → A → Bool
begins_with key prefix row = starts_with nat_eq (key row) prefix

-- it is a text, or behind it
abbrev pub is_at_least : {A : Type 0} → (A → List ℕ) → List ℕ → A → Bool
is_at_least key text row = not (is_before (key row) text)

-- it is behind a text
abbrev pub is_later : {A : Type 0} → (A → List ℕ) → List ℕ → A → Bool
is_later key text row = is_before text (key row)

-- no key is in front of a place, unless it is before a text
abbrev pub Covers : Start → List ℕ → Type 0
Covers start text = (key : List ℕ) → is_from start key ≡ false → is_before key text ≡ true

-- the rows from a place on, and from a text on
abbrev pub rows_from : {A : Type 0} → (A → List ℕ) → Start → List A → List A
rows_from key start rows = filter (λ row. is_from start (key row)) rows

abbrev pub rows_at_least : {A : Type 0} → (A → List ℕ) → List ℕ → List A → List A
rows_at_least key text rows = filter (is_at_least key text) rows

-- R holds of each element and each later one
abbrev pub Paired : {A : Type 0} → (A → A → Type 0) → List A → Type 0
Paired R [] = ⊤
Paired R (x ∷ xs) = AllByRecursion (R x) xs × Paired R xs

-- a later row's key isn't before that of a row
abbrev pub UpTo : {A : Type 0} → (A → List ℕ) → A → A → Type 0
UpTo key row later = is_before (key later) (key row) ≡ false

-- rows stand by key
abbrev pub AreByKey : {A : Type 0} → (A → List ℕ) → List A → Type 0
AreByKey key rows = Paired (UpTo key) rows

-- of the rows of a list these are those behind a marker: all with later keys, and with its key some or none
pub record AreBehind {A : Type 0} (key : A → List ℕ) (marker : List ℕ) (all behind : List A) : Type 0 where
  pub order : AreByKey key behind
  pub later : filter (is_later key marker) behind ≡ filter (is_later key marker) all
  pub none_before : (row : A) → Contains behind row → is_before (key row) marker ≡ false
  pub known : (row : A) → Contains behind row → (other : A) × Contains all other × (key other ≡ key row)
