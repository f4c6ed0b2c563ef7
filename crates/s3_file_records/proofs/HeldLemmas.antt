-- What a folder held is what is found, and what a crash leaves is what the next folder holds.
use Rattle.std.proofs.Common.{◌≡◌, refl, sym, ap, subst, ◌∙◌, ℕ, ◌<◌, ◌≤◌, ℤ, List, [], ◌∷◌, Option, Some, pos, Result, Ok, Err}
use Rattle.std.specs.Prelude.{IsTrue, Bool, IfOk, unwrap_or, unsigned_abs}
use Rattle.std.specs.FinMap as map
use Rattle.sqlite_wal.specs.Recovery.{Image}
use Rattle.sqlite_trees.specs.Tree.{Trees}
use Rattle.sqlite.specs.State.{State, HasCleanDisk}
use Rattle.sqlite.specs.Files.{HoldsDatabase}
use Rattle.s3_records.specs.Catalogue.{Catalogue}
use Rattle.s3_records.specs.Leaving.{IsOneOf}
use Rattle.s3_rows.specs.Columns.{StoreColumns, Tables}
use Rattle.s3_rows.specs.Meaning.{catalogue_of}
use Rattle.s3_stored_bodies.specs.Numbers.{Contents, times}
use Rattle.s3_stored_rows.specs.Bodies.{encoding, numbers_named}
use Rattle.s3_tables.specs.Stored.{Stores, tables_in}
use Rattle.s3_tables.specs.Keeping.{Keeps}
use Rattle.s3_block_bodies.specs.Stored.{IsSettled, HasNamed}
use Rattle.s3_mirrored_rows.specs.Mirror.{MayLeave}
use Rattle.s3_table_records.specs.Leaving.{LeavesOneOf, IsKnown}
use Rattle.s3_table_records.specs.Numbered.{SaysNumber, SaysAtLeast, LeavesNumber, AreNumbered}
use Rattle.s3_table_records.proofs.SameBytesLemmas.{same_catalogue}
use Rattle.s3_file_records.specs.Found.{WasOpen, HasOtherStore, AreAsFound, HoldsCatalogue, AreOf, AreLeft}

-- the row of the store plays no part in the catalogue
other_store : (contents : Contents) (t u : Tables) → HasOtherStore t u → catalogue_of (encoding contents) u ≡ catalogue_of (encoding contents) t
unfolding catalogue_of
other_store contents t u other = ap (catalogue_of (encoding contents)) other

abbrev first_number : List StoreColumns → ℤ
first_number [] = pos 0
first_number (row ∷ rows) = row.number

pos_once : (a b : ℕ) → pos a ≡ pos b → a ≡ b
pos_once a b same = ap unsigned_abs same

-- the row of the store says one number
says_once : (t : Tables) (a b : ℕ) → SaysNumber a t → SaysNumber b t → a ≡ b
says_once t a b (one, first_a, number_a, there_a) (other, first_b, number_b, there_b) =
    let same : one ∷ [] ≡ other ∷ [] = sym there_a ∙ there_b in
    let numbers : pos a ≡ pos b = sym number_a ∙ ap (λ (xs : List StoreColumns). first_number xs) same ∙ number_b in
    pos_once a b numbers

-- records are as they were found, where the bodies are those that were found
module _ (blocks : List ℕ) (was : State) (t : Tables) (numbers : List ℕ) {R B E : Type 0} (now : R → State) (rows : R → Tables) (bodies : R → B) (b : B) (is_clean : B → Type 0) (contents : B → Contents) where
  pub all_as_found : (r : Result R E) → IfOk r (λ x. HasOtherStore t (rows x)) → IfOk r (λ x. HasCleanDisk (now x) → WasOpen was) → IfOk r (λ x. bodies x ≡ b) → (is_clean b → HasNamed blocks (λ n. times n numbers) (contents b))
      → IfOk r (λ x. AreAsFound t numbers was (now x) (is_clean (bodies x)) blocks (rows x) (contents (bodies x)))
  all_as_found (Ok x) rest open_before same found = record {
    rows = rest;
    was_open = open_before;
    bodies = subst (λ y. is_clean y → HasNamed blocks (λ n. times n numbers) (contents y)) (sym same) found;
  }
  all_as_found (Err e) rest open_before same found = tt

module _ (image : Image) (blocks : List ℕ) (was : State) (t : Tables) (numbers : List ℕ) (said : ℕ)
    (named : (n : ℕ) → times n numbers ≡ times n (numbers_named t)) (says : SaysNumber said t)
    (read : HasCleanDisk was → IsTrue was.is_open → (db : Trees) (there : Tables) → HoldsDatabase image db → Stores db there → t ≡ there) where
  module _ (now : State) (is_clean : Type 0) (rows : Tables) (contents : Contents) (is : AreAsFound t numbers was now is_clean blocks rows contents)
      (held : Catalogue (List ℕ)) (number : ℕ) (of : AreOf now is_clean image blocks held number) where
    same_rows : t ≡ of.holds.tables
    same_rows = let open_before = is.was_open of.rows in read open_before.0 open_before.1 of.holds.db of.holds.tables of.holds.is_held of.holds.stores

    same_bytes : (n : ℕ) → 0 < times n (numbers_named of.holds.tables) → map.get contents n ≡ map.get of.holds.contents n
    same_bytes n there =
        let has = of.holds.stored n there in
        let listed : 0 < times n numbers = subst (λ count. 0 < count) (sym (named n ∙ ap (λ u. times n (numbers_named u)) same_rows)) there in
        is.bodies of.bodies n has.0 has.2 has.3 listed ∙ sym has.1

    pub held_is_found : catalogue_of (encoding contents) rows ≡ held
    held_is_found =
        other_store contents t rows is.rows ∙ ap (catalogue_of (encoding contents)) same_rows
        ∙ same_catalogue of.holds.contents contents of.holds.tables (λ n there. ap (λ (found : Option (List ℕ)). unwrap_or found []) (same_bytes n there))
        ∙ sym of.holds.means

    pub number_is_found : said ≡ number
    number_is_found = says_once t said number says (subst (SaysNumber number) (sym same_rows) of.holds.says)

  -- the same of what an open answers
  pub all_held : {R E : Type 0} (r : Result R E) (now : R → State) (is_clean : R → Type 0) (rows : R → Tables) (contents : R → Contents) (number_of : R → ℕ)
      → IfOk r (λ x. AreAsFound t numbers was (now x) (is_clean x) blocks (rows x) (contents x)) → IfOk r (λ x. number_of x ≡ said)
      → IfOk r (λ x. (held : Catalogue (List ℕ)) (number : ℕ) → AreOf (now x) (is_clean x) image blocks held number → (catalogue_of (encoding (contents x)) (rows x) ≡ held) × (number_of x ≡ number))
  all_held (Ok x) now is_clean rows contents number_of is told = λ held number of.
      (held_is_found (now x) (is_clean x) (rows x) (contents x) is held number of, told ∙ number_is_found (now x) (is_clean x) (rows x) (contents x) is held number of)
  all_held (Err e) now is_clean rows contents number_of is told = tt

-- ---- what a crash leaves

module _ {D : Type 0} (may_leave : D → List ℕ → Type 0) (is_clean : D → Bool) (disk : D) (uses : List ℕ) (s : State) (keeps : HasCleanDisk s → Keeps s)
    (are_numbered : (t : Tables) → MayLeave s t → AreNumbered t)
    (image : Image) (blocks : List ℕ) (left : AreLeft s (IsTrue (is_clean disk)) (may_leave disk) image blocks) (known : List (Catalogue (List ℕ)))
    (leaves : LeavesOneOf (MayLeave s) (IsSettled may_leave is_clean disk uses) known) where
  abbrev rows_left : MayLeave s (tables_in left.db)
  rows_left = (left.rows_clean, left.db, left.rows, refl)

  abbrev is : IsKnown (IsSettled may_leave is_clean disk uses) (tables_in left.db) known
  is = leaves (tables_in left.db) rows_left

  abbrev one : Catalogue (List ℕ)
  one = catalogue_of (encoding is.contents) (tables_in left.db)

  abbrev next : ℕ
  next = (are_numbered (tables_in left.db) rows_left).number

  holds : HoldsCatalogue image blocks one next
  holds = record {
    db = left.db;
    tables = tables_in left.db;
    contents = is.contents;
    is_held = left.is_held;
    stores = (keeps left.rows_clean).found left.db left.rows;
    stored = λ n there. let last = is.last n there in (last.0, last.1, last.2.addressable, last.2.later left.bodies_clean blocks left.bodies);
    means = refl;
    says = (are_numbered (tables_in left.db) rows_left).says;
  }

  module _ (now : State) (is_clean_now : Type 0) (found : Catalogue (List ℕ)) (number : ℕ)
      (held : (held : Catalogue (List ℕ)) (n : ℕ) → AreOf now is_clean_now image blocks held n → (found ≡ held) × (number ≡ n))
      (rows_clean : HasCleanDisk now) (bodies_clean : is_clean_now) where
    both : (found ≡ one) × (number ≡ next)
    both = held one next (record { rows = rows_clean; bodies = bodies_clean; holds = holds })

    pub left_is_found : IsOneOf found known
    left_is_found = subst (λ c. IsOneOf c known) (sym both.0) is.among

    pub number_is_late : (n : ℕ) → LeavesNumber (MayLeave s) n → n ≤ number
    number_is_late n late =
        let at_least = late (tables_in left.db) rows_left in
        let same : number ≡ at_least.0 = both.1 ∙ says_once (tables_in left.db) next at_least.0 (are_numbered (tables_in left.db) rows_left).says at_least.2 in
        subst (λ k. n ≤ k) (sym same) at_least.1

-- the same of what an open answers
module _ {D : Type 0} (may_leave : D → List ℕ → Type 0) (is_clean : D → Bool) (disk : D) (uses : List ℕ) (s : State) (keeps : HasCleanDisk s → Keeps s)
    (are_numbered : (t : Tables) → MayLeave s t → AreNumbered t) (image : Image) (blocks : List ℕ) {R E : Type 0} where
  pub all_left_found : (r : Result R E) (now : R → State) (clean_now : R → Type 0) (found : R → Catalogue (List ℕ)) (number_of : R → ℕ)
      → IfOk r (λ x. (held : Catalogue (List ℕ)) (n : ℕ) → AreOf (now x) (clean_now x) image blocks held n → (found x ≡ held) × (number_of x ≡ n))
      → IfOk r (λ x. AreLeft s (IsTrue (is_clean disk)) (may_leave disk) image blocks → HasCleanDisk (now x) → clean_now x
      → (known : List (Catalogue (List ℕ))) → LeavesOneOf (MayLeave s) (IsSettled may_leave is_clean disk uses) known → IsOneOf (found x) known)
  all_left_found (Ok x) now clean_now found number_of held = λ left rows_clean bodies_clean known leaves.
      left_is_found may_leave is_clean disk uses s keeps are_numbered image blocks left known leaves (now x) (clean_now x) (found x) (number_of x) held rows_clean bodies_clean
  all_left_found (Err e) now clean_now found number_of held = tt

  pub all_late : (r : Result R E) (now : R → State) (clean_now : R → Type 0) (found : R → Catalogue (List ℕ)) (number_of : R → ℕ)
      → IfOk r (λ x. (held : Catalogue (List ℕ)) (n : ℕ) → AreOf (now x) (clean_now x) image blocks held n → (found x ≡ held) × (number_of x ≡ n))
      → IfOk r (λ x. AreLeft s (IsTrue (is_clean disk)) (may_leave disk) image blocks → HasCleanDisk (now x) → clean_now x
      → (known : List (Catalogue (List ℕ))) → LeavesOneOf (MayLeave s) (IsSettled may_leave is_clean disk uses) known → (n : ℕ) → LeavesNumber (MayLeave s) n → n ≤ number_of x)
  all_late (Ok x) now clean_now found number_of held = λ left rows_clean bodies_clean known leaves n late.
      number_is_late may_leave is_clean disk uses s keeps are_numbered image blocks left known leaves (now x) (clean_now x) (found x) (number_of x) held rows_clean bodies_clean n late
  all_late (Err e) now clean_now found number_of held = tt
