-- What the schema keeps unique.
use Rattle.std.proofs.Common.{◌≡◌, ℕ, ℤ, ◌<ℤ◌, ◌&&◌, not, Bool, true, false, true≢false, List, [], ◌∷◌, map, refl, sym, subst, ◌∙◌, arith, int_eq}
use Rattle.std.specs.List.{AllByRecursion}
use Rattle.std.proofs.lemmas.Int.{ints}
use Rattle.std.proofs.lemmas.Bool.{and_parts, or_parts, not-true}
use Rattle.sqlite.specs.declared.types.Value.TheVariants.{Int}
use Rattle.sqlite_value.specs.declared.keys.Order.{Order}
use Rattle.sqlite_value.specs.Keys.{plain, first_key}
use Rattle.sqlite_value.specs.Order.{Row}
use Rattle.sqlite_sql.specs.declared.ops.CompareOp.TheVariants.{Eq, Ne}
use Rattle.sqlite_schema.specs.declared.schema.Constraint.TheVariants.{Unique}
use Rattle.sqlite_schema.specs.Rules.{agree, clashes, differ}
use Rattle.sqlite_trees.specs.Tree.{Trees}
use Rattle.sqlite_keyed.specs.Keyed.{IsKeyedBy}
use Rattle.sqlite_keyed.specs.Rules.{AreApart}
use Rattle.sqlite_keyed.proofs.ListLemmas.{all_both, all_weaker}
use Rattle.sqlite_typed.proofs.TestLemmas.{at_blobs, at_ints, then_term, last_term}
use Rattle.sqlite_typed.specs.Tests.{bytes_eq}
use Rattle.s3_rows.specs.Columns.{BucketColumns, VersionColumns, UploadColumns, PartColumns, Tables}
use Rattle.s3_rows.specs.Soundness.{bucket_row, version_row, upload_row, part_row, same_name, same_number, same_version, same_upload, same_part}
use Rattle.s3_stored_rows.specs.Unique.{AreUnique}
use Rattle.s3_tables.specs.Schema.{newest_first}
use Rattle.s3_tables.specs.Stored.{stored, Stores, bucket_cells, version_cells, upload_cells, part_cells}

and_joined : (a b c : Bool) → (a && (b && c)) ≡ ((a && b) && c)
and_joined true b c = refl
and_joined false b c = refl

only_first : (a b : Bool) → b ≡ true → (a && b) ≡ false → a ≡ false
only_first true b here none = absurd (true≢false (sym here ∙ none))
only_first false b here none = refl

lower_is_other : (a b : ℤ) → a <ℤ b → not (int_eq a b) ≡ true
lower_is_other a b h = grind (arith, ints)

each_mapped : {A B : Type 0} (P : B → Type 0) (f : A → B) (xs : List A) → AllByRecursion P (map f xs) → AllByRecursion (λ x. P (f x)) xs
each_mapped P f [] all = tt
each_mapped P f (x ∷ xs) all = (all.0, each_mapped P f xs all.1)

-- ---- an index of rows

module _ {X : Type 0} (row : X → ℤ) (cells : X → Row) (order : Order) (places : List ℕ) (clash : X → X → Bool) (agrees : (a b : X) → agree order places (stored row cells a) places (stored row cells b) ≡ clash a b) where
  -- of two rows, the one with the lower rowid is another one
  two_apart : (a b : X) → row a <ℤ row b → (agree order places (stored row cells a) places (stored row cells b) && differ (Int (row a)) (Int (row b))) ≡ false → clash a b ≡ false
  two_apart a b below none = sym (agrees a b) ∙ only_first _ _ (at_ints false Ne (row a) (row b) ∙ lower_is_other (row a) (row b) below) none

  abbrev is_alone : List X → X → Type 0
  is_alone xs x = clashes order places (map (stored row cells) xs) (stored row cells x) ≡ false

  all_apart : (xs : List X) → IsKeyedBy row xs → AllByRecursion (is_alone xs) xs → AreApart clash xs
  all_apart [] keyed alone = tt
  all_apart (x ∷ xs) keyed alone = (
    all_both (λ z. row x <ℤ row z) (is_alone (x ∷ xs)) (λ z. clash x z ≡ false) (λ z below none. two_apart x z below (or_parts _ _ none).0) xs keyed.0 alone.1,
    all_apart xs keyed.1 (all_weaker (is_alone (x ∷ xs)) (is_alone xs) (λ z none. (or_parts _ _ none).1) xs alone.1),
  )

  pub kept_apart : (tree : List Row) (xs : List X) → tree ≡ map (stored row cells) xs → IsKeyedBy row xs → AllByRecursion (λ r. clashes order places tree r ≡ false) tree → AreApart clash xs
  kept_apart tree xs is keyed none =
      all_apart xs keyed (each_mapped (λ r. clashes order places (map (stored row cells) xs) r ≡ false) (stored row cells) xs (subst (λ t. AllByRecursion (λ r. clashes order places t r ≡ false) t) is none))

-- ---- the indexes of the schema

names_agree : (a b : BucketColumns) → agree plain (2 ∷ []) (stored bucket_row bucket_cells a) (2 ∷ []) (stored bucket_row bucket_cells b) ≡ same_name a b
unfolding first_key
names_agree a b = last_term (at_blobs false Eq a.name b.name)

numbers_agree : (a b : VersionColumns) → agree newest_first (2 ∷ 3 ∷ 4 ∷ []) (stored version_row version_cells a) (2 ∷ 3 ∷ 4 ∷ []) (stored version_row version_cells b) ≡ same_number a b
unfolding first_key
numbers_agree a b =
    then_term (at_blobs false Eq a.bucket b.bucket) (then_term (at_blobs false Eq a.key b.key) (last_term (at_ints false Eq a.number b.number)))
    ∙ and_joined (bytes_eq a.bucket b.bucket) (bytes_eq a.key b.key) (int_eq a.number b.number)

ids_agree : (a b : VersionColumns) → agree plain (2 ∷ 3 ∷ 5 ∷ []) (stored version_row version_cells a) (2 ∷ 3 ∷ 5 ∷ []) (stored version_row version_cells b) ≡ same_version a b
unfolding first_key
ids_agree a b =
    then_term (at_blobs false Eq a.bucket b.bucket) (then_term (at_blobs false Eq a.key b.key) (last_term (at_ints false Eq a.id b.id)))
    ∙ and_joined (bytes_eq a.bucket b.bucket) (bytes_eq a.key b.key) (int_eq a.id b.id)

uploads_agree : (a b : UploadColumns) → agree plain (2 ∷ 3 ∷ 4 ∷ []) (stored upload_row upload_cells a) (2 ∷ 3 ∷ 4 ∷ []) (stored upload_row upload_cells b) ≡ same_upload a b
unfolding first_key
uploads_agree a b =
    then_term (at_blobs false Eq a.bucket b.bucket) (then_term (at_blobs false Eq a.key b.key) (last_term (at_ints false Eq a.id b.id)))
    ∙ and_joined (bytes_eq a.bucket b.bucket) (bytes_eq a.key b.key) (int_eq a.id b.id)

parts_agree : (a b : PartColumns) → agree plain (2 ∷ 3 ∷ []) (stored part_row part_cells a) (2 ∷ 3 ∷ []) (stored part_row part_cells b) ≡ same_part a b
unfolding first_key
parts_agree a b = then_term (at_ints false Eq a.upload b.upload) (last_term (at_ints false Eq a.part b.part))

module _ (db : Trees) (t : Tables) (s : Stores db t) where
  alone_name : AllByRecursion (λ r. clashes plain (2 ∷ []) (db 0) r ≡ false) (db 0)
  alone_name = all_weaker _ (λ r. clashes plain (2 ∷ []) (db 0) r ≡ false) (λ r ok. not-true _ (and_parts _ _ ok).0) (db 0) (s.sound.obeys.rules Unique).0

  alone_number : AllByRecursion (λ r. clashes newest_first (2 ∷ 3 ∷ 4 ∷ []) (db 2) r ≡ false) (db 2)
  alone_number = all_weaker _ (λ r. clashes newest_first (2 ∷ 3 ∷ 4 ∷ []) (db 2) r ≡ false) (λ r ok. not-true _ (and_parts _ _ ok).0) (db 2) (s.sound.obeys.rules Unique).1.0

  alone_id : AllByRecursion (λ r. clashes plain (2 ∷ 3 ∷ 5 ∷ []) (db 2) r ≡ false) (db 2)
  alone_id = all_weaker _ (λ r. clashes plain (2 ∷ 3 ∷ 5 ∷ []) (db 2) r ≡ false) (λ r ok. not-true _ (and_parts _ _ (and_parts _ _ ok).1).0) (db 2) (s.sound.obeys.rules Unique).1.0

  alone_upload : AllByRecursion (λ r. clashes plain (2 ∷ 3 ∷ 4 ∷ []) (db 5) r ≡ false) (db 5)
  alone_upload = all_weaker _ (λ r. clashes plain (2 ∷ 3 ∷ 4 ∷ []) (db 5) r ≡ false) (λ r ok. not-true _ (and_parts _ _ ok).0) (db 5) (s.sound.obeys.rules Unique).1.1.0

  alone_part : AllByRecursion (λ r. clashes plain (2 ∷ 3 ∷ []) (db 7) r ≡ false) (db 7)
  alone_part = all_weaker _ (λ r. clashes plain (2 ∷ 3 ∷ []) (db 7) r ≡ false) (λ r ok. not-true _ (and_parts _ _ ok).0) (db 7) (s.sound.obeys.rules Unique).1.1.1.0

  pub rows_unique : AreUnique t
  rows_unique = record {
    buckets = s.buckets.keyed;
    names = kept_apart bucket_row bucket_cells plain (2 ∷ []) same_name names_agree (db 0) t.buckets s.buckets.rows s.buckets.keyed alone_name;
    versions = s.versions.keyed;
    numbers = kept_apart version_row version_cells newest_first (2 ∷ 3 ∷ 4 ∷ []) same_number numbers_agree (db 2) t.versions s.versions.rows s.versions.keyed alone_number;
    ids = kept_apart version_row version_cells plain (2 ∷ 3 ∷ 5 ∷ []) same_version ids_agree (db 2) t.versions s.versions.rows s.versions.keyed alone_id;
    uploads = s.uploads.keyed;
    upload_ids = kept_apart upload_row upload_cells plain (2 ∷ 3 ∷ 4 ∷ []) same_upload uploads_agree (db 5) t.uploads s.uploads.rows s.uploads.keyed alone_upload;
    parts = s.parts.keyed;
    part_numbers = kept_apart part_row part_cells plain (2 ∷ 3 ∷ []) same_part parts_agree (db 7) t.parts s.parts.rows s.parts.keyed alone_part;
  }
