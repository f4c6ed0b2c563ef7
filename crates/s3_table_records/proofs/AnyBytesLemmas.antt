-- What is known of the catalogue whatever bytes stand under each number.
use Rattle.std.proofs.Common.{◌≡◌, refl, sym, ap, ◌∙◌, ℕ, List, [], ◌∷◌, map, filter, ◌&&◌}
use Rattle.std.specs.Prelude.{nat_lt}
use Rattle.std.specs.List.{list_all}
use Rattle.sqlite_keyed.specs.Lists.{sort_by}
use Rattle.s3_versions.specs.Rules.{is_new_number}
use Rattle.s3_records.specs.Catalogue.{versions_of, is_empty_bucket}
use Rattle.s3_rows.specs.BucketLaws.{RowsTellEmptiness}
use Rattle.s3_rows.specs.ReadingLaws.{RowsTellVersions}
use Rattle.s3_rows.specs.Columns.{VersionColumns, Tables}
use Rattle.s3_rows.specs.Finding.{is_at, newest_first}
use Rattle.s3_rows.specs.Meaning.{version_of, catalogue_of}
use Rattle.s3_rows.specs.Soundness.{AreSound}
use Rattle.s3_stored_bodies.specs.Numbers.{Contents}
use Rattle.s3_stored_rows.specs.Bodies.{encoding}

module _ (c d : Contents) where
  numbers_alike : (n : ℕ) (vs : List VersionColumns) → list_all (λ v. nat_lt v.number n) (map (version_of (encoding c)) vs) ≡ list_all (λ v. nat_lt v.number n) (map (version_of (encoding d)) vs)
  numbers_alike n [] = refl
  numbers_alike n (v ∷ vs) = ap (λ b. nat_lt (version_of (encoding c) v).number n && b) (numbers_alike n vs)

  pub new_number_alike : RowsTellVersions → (t : Tables) → AreSound t → (n : ℕ) (bucket key : List ℕ)
      → is_new_number n (versions_of (catalogue_of (encoding c) t) bucket key) ≡ is_new_number n (versions_of (catalogue_of (encoding d) t) bucket key)
  unfolding is_new_number
  new_number_alike tell t sound n bucket key =
      ap (list_all (λ v. nat_lt v.number n)) (tell (encoding c) t bucket key sound)
      ∙ numbers_alike n (sort_by newest_first (filter (is_at bucket key) t.versions))
      ∙ ap (list_all (λ v. nat_lt v.number n)) (sym (tell (encoding d) t bucket key sound))

  pub empty_alike : RowsTellEmptiness → (t : Tables) → AreSound t → (bucket : List ℕ) → is_empty_bucket (catalogue_of (encoding c) t) bucket ≡ is_empty_bucket (catalogue_of (encoding d) t) bucket
  empty_alike tell t sound bucket = tell (encoding c) t bucket sound ∙ sym (tell (encoding d) t bucket sound)
