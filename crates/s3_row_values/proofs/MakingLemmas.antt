-- What columns that are written say again.
use Rattle.std.proofs.Common.{◌≡◌, refl, ap, ◌∙◌, ◌≤◌, ◌&&◌, ◌||◌, true, ℕ, ℤ, pos, negsuc, List, [], int_eq, int_le, arith}
use Rattle.std.proofs.lemmas.Bool.Decides.{nat_tests}
use Rattle.std.proofs.lemmas.Int.{ints}
use Rattle.s3_names.specs.declared.ids.VersionId.{VersionId}
use Rattle.s3_names.specs.declared.ids.VersionId.TheVariants.{Null, Numbered}
use Rattle.s3_versions.specs.declared.version.Versioning.{Versioning}
use Rattle.s3_versions.specs.declared.version.Versioning.TheVariants.{Unversioned, Enabled, Suspended}
use Rattle.s3_versions.specs.Rules.{new_id, makes_null}
use Rattle.s3_columns.specs.Attributes.{content_type_in, metadata_in}
use Rattle.s3_columns.specs.Columns as columns
use Rattle.s3_columns.specs.Items.{items_within}
use Rattle.s3_columns.specs.Numbers.{numbers_in}
use Rattle.s3_rows.specs.Columns.{VersionColumns, PartColumns}
use Rattle.s3_rows.specs.Finding.{id_column}
use Rattle.s3_rows.specs.Soundness.{is_count, is_version_row}
use Rattle.s3_stored_rows.specs.Bodies.{bytes_in}
use Rattle.s3_row_values.specs.Values.{IsPlaced, IsVersionRow, IsMarkerRow, IsPartRow}
use Rattle.s3_row_values.specs.declared.described.Described.{Described}
use Rattle.s3_row_values.specs.declared.described.DescribedPart.{DescribedPart}

-- an id has one column
pub same_id : (id : VersionId) → columns.id_column id ≡ id_column id
same_id Null = refl
same_id (Numbered n) = refl

-- ---- integers in range

count_pos : (n : ℕ) → is_count (pos n) ≡ true
count_pos n = grind (arith, ints, nat_tests)

number_fits : (number : ℕ) → 1 ≤ number → number ≤ 10_000 → (int_le (pos 1) (pos number) && int_le (pos number) (pos 10000)) ≡ true
number_fits number low high = grind (arith, ints, nat_tests)

-- no bytes spell no numbers
no_numbers : numbers_in [] ≡ []
unfolding numbers_in items_within
no_numbers = refl

-- ---- versions

own_id : (versioning : Versioning) (n : ℕ) → (int_eq (id_column (new_id versioning n)) (negsuc 0) || int_eq (id_column (new_id versioning n)) (pos n)) ≡ true
own_id Unversioned n = refl
own_id Enabled n = grind (arith, ints, nat_tests)
own_id Suspended n = refl

null_id : (versioning : Versioning) (n : ℕ) → int_eq (id_column (new_id versioning n)) (negsuc 0) ≡ makes_null versioning
null_id Unversioned n = refl
null_id Enabled n = refl
null_id Suspended n = refl

-- a row whose columns are these stands where an entry puts one
module _ (v : VersionColumns) (row : ℤ) (bucket key : List ℕ) (versioning : Versioning) (n t size : ℕ) (marker : ℤ)
    (row_is : v.row ≡ row) (bucket_is : v.bucket ≡ bucket) (key_is : v.key ≡ key) (number_is : v.number ≡ pos n)
    (id_is : v.id ≡ id_column (new_id versioning n)) (moment_is : v.moment ≡ pos t) (size_is : v.size ≡ pos size) (marker_is : v.marker ≡ marker)
    (whether : (int_eq marker (pos 0) || int_eq marker (pos 1)) ≡ true) where
  version_fits : is_version_row v ≡ true
  version_fits =
      rw (number_is, id_is, moment_is, size_is, marker_is, count_pos n, own_id versioning n, count_pos t, count_pos size, whether) refl

  is_placed : IsPlaced v row bucket key versioning n
  is_placed = record { row_is = row_is; bucket_is = bucket_is; key_is = key_is; id_is = id_is; fits = version_fits }

pub version_row_is : (v : VersionColumns) (row : ℤ) (bucket key : List ℕ) (versioning : Versioning) (n t : ℕ) (d : Described) (numbers : List ℕ)
    → v.row ≡ row → v.bucket ≡ bucket → v.key ≡ key → v.number ≡ pos n → v.id ≡ id_column (new_id versioning n) → v.moment ≡ pos t
    → v.marker ≡ pos 0 → v.tag ≡ d.tag → content_type_in v.kept ≡ d.content_type → metadata_in v.kept ≡ d.metadata → v.size ≡ pos d.size → numbers_in v.bodies ≡ numbers
    → IsVersionRow v row bucket key versioning n t d numbers
unfolding bytes_in
version_row_is v row bucket key versioning n t d numbers row_is bucket_is key_is number_is id_is moment_is marker_is tag_is type_is metadata_is size_is names = record {
  placed = is_placed v row bucket key versioning n t d.size (pos 0) row_is bucket_is key_is number_is id_is moment_is size_is marker_is refl;
  names = names;
  means = λ contents. rw (number_is, id_is, moment_is, marker_is, tag_is, type_is, metadata_is, size_is, names, null_id versioning n) refl;
}

pub marker_row_is : (v : VersionColumns) (row : ℤ) (bucket key : List ℕ) (versioning : Versioning) (n t : ℕ)
    → v.row ≡ row → v.bucket ≡ bucket → v.key ≡ key → v.number ≡ pos n → v.id ≡ id_column (new_id versioning n) → v.moment ≡ pos t
    → v.marker ≡ pos 1 → v.size ≡ pos 0 → v.bodies ≡ []
    → IsMarkerRow v row bucket key versioning n t
marker_row_is v row bucket key versioning n t row_is bucket_is key_is number_is id_is moment_is marker_is size_is bodies_is = record {
  placed = is_placed v row bucket key versioning n t 0 (pos 1) row_is bucket_is key_is number_is id_is moment_is size_is marker_is refl;
  names = ap numbers_in bodies_is ∙ no_numbers;
  means = λ contents. rw (number_is, id_is, moment_is, marker_is, null_id versioning n) refl;
}

-- ---- parts

pub part_row_is : (p : PartColumns) (row upload : ℤ) (number : ℕ) (d : DescribedPart) (numbers : List ℕ)
    → 1 ≤ number → number ≤ 10_000
    → p.row ≡ row → p.upload ≡ upload → p.part ≡ pos number → p.digest ≡ d.digest → p.moment ≡ pos d.moment → p.size ≡ pos d.size → numbers_in p.bodies ≡ numbers
    → IsPartRow p row upload number d numbers
unfolding bytes_in
part_row_is p row upload number d numbers low high row_is upload_is part_is digest_is moment_is size_is names = record {
  row_is = row_is;
  upload_is = upload_is;
  part_is = part_is;
  fits = rw (part_is, moment_is, size_is, number_fits number low high, count_pos d.moment, count_pos d.size) refl;
  names = names;
  means = λ contents. rw (digest_is, moment_is, size_is, names) refl;
}
