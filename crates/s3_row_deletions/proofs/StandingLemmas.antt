-- What stands at a place after changes.
use Rattle.std.proofs.Common.{◌≡◌, refl, sym, ap, subst, ◌∙◌, ℕ, ℤ, Bool, true, false, cond, List, [], ◌∷◌, ◌++◌, Option, Some, None, option_map, int_eq}
use Rattle.std.proofs.lemmas.Bool.{and_parts, and_from}
use Rattle.sqlite_keyed.specs.Keyed.{has_key}
use Rattle.sqlite_keyed.proofs.KeyedLemmas.{same_int}
use Rattle.s3_rows.specs.Columns.{VersionColumns, Tables}
use Rattle.s3_rows.specs.Finding.{same_text, is_at, is_version}
use Rattle.s3_rows.specs.Soundness.{version_row, same_version}
use Rattle.s3_rows.proofs.EditLemmas.{same_key, find_put, find_put_elsewhere}
use Rattle.s3_rows.proofs.MeaningLemmas.{same_text-true, same_text-itself}
use Rattle.s3_stored_rows.specs.Changes.{version_columns, changed_by, with_version, after_all}
use Rattle.s3_stored_rows.specs.Queries.{version_of_id}
use Rattle.s3_stored_rows.specs.declared.change.Change.{Change}
use Rattle.s3_stored_rows.specs.declared.change.Change.TheVariants.{AddBucket, AddVersion, AddUpload, AddPart, AddStore, DropRow}
use Rattle.s3_stored_rows.specs.declared.rows.TableName.TheVariants.{Buckets, Versions, Uploads, Parts, Store}
use Rattle.s3_row_deletions.specs.declared.standing.Standing.{Standing}
use Rattle.s3_row_deletions.specs.Standing.{shown, row_shown, unless_row, found_next, found_after, MayCome, MayComeAll}
use Rattle.s3_row_deletions.proofs.FoundLemmas.{unless, find_without}

-- the place of a row
pub place_of : (b k : List ℕ) (id : ℤ) (v : VersionColumns) → is_version b k id v ≡ true → (v.bucket ≡ b) × (v.key ≡ k) × (v.id ≡ id)
place_of b k id v is =
    let parts = and_parts (is_at b k v) (int_eq v.id id) is in
    let texts = and_parts (same_text v.bucket b) (same_text v.key k) parts.0 in
    (same_text-true v.bucket b texts.0, same_text-true v.key k texts.1, same_int v.id id parts.1)

-- two rows at one place may not stand in one table
pub one_place : (b k : List ℕ) (id : ℤ) (v w : VersionColumns) → is_version b k id v ≡ true → is_version b k id w ≡ true → same_version v w ≡ true
one_place b k id v w one other =
    let x = place_of b k id v one in
    let y = place_of b k id w other in
    and_from (is_at w.bucket w.key v) (int_eq v.id w.id)
    (and_from (same_text v.bucket w.bucket) (same_text v.key w.key)
    (ap (λ a. same_text a w.bucket) (x.0 ∙ sym y.0) ∙ same_text-itself w.bucket)
    (ap (λ a. same_text a w.key) (x.1 ∙ sym y.1) ∙ same_text-itself w.key))
    (same_key v.id w.id (x.2 ∙ sym y.2))

unless_is : (row : ℤ) (o : Option VersionColumns) → unless_row row o ≡ unless (λ v. int_eq (version_row v) row) o
unless_is row None = refl
unless_is row (Some v) = refl

-- a row is put in
put_found : (t : Tables) (v : VersionColumns) (b k : List ℕ) (id : ℤ) → has_key version_row t.versions v.row ≡ false → version_of_id v.bucket v.key v.id t ≡ None
    → cond (is_version b k id v) (Some v) (version_of_id b k id t) ≡ version_of_id b k id (with_version v t)
put_found t v b k id free none = go (is_version b k id v) refl
  where
    go : (c : Bool) → is_version b k id v ≡ c → cond c (Some v) (version_of_id b k id t) ≡ version_of_id b k id (with_version v t)
    go true is =
        let place = place_of b k id v is in
        let none_here : version_of_id b k id t ≡ None =
        subst (λ x. version_of_id x k id t ≡ None) place.0 (subst (λ x. version_of_id v.bucket x id t ≡ None) place.1 (subst (λ x. version_of_id v.bucket v.key x t ≡ None) place.2 none)) in
        sym (find_put version_row (is_version b k id) t.versions v is none_here)
    go false is = sym (find_put_elsewhere version_row (is_version b k id) t.versions v free is)

-- one change more
pub next_is : (t : Tables) (change : Change) (b k : List ℕ) (id : ℤ) → MayCome t change → found_next b k id change (version_of_id b k id t) ≡ version_of_id b k id (changed_by change t)
next_is t (AddBucket x) b k id may = refl
next_is t (AddVersion v) b k id may = put_found t (version_columns v) b k id may.0 may.1
next_is t (AddUpload x) b k id may = refl
next_is t (AddPart x) b k id may = refl
next_is t (AddStore x) b k id may = refl
next_is t (DropRow Buckets row) b k id may = refl
next_is t (DropRow Versions row) b k id may =
    unless_is row (version_of_id b k id t) ∙ sym (find_without same_version (is_version b k id) (one_place b k id) (λ v. int_eq (version_row v) row) t.versions may)
next_is t (DropRow Uploads row) b k id may = refl
next_is t (DropRow Parts row) b k id may = refl
next_is t (DropRow Store row) b k id may = refl

-- and several
pub after_is : (t : Tables) (changes : List Change) (b k : List ℕ) (id : ℤ) → MayComeAll t changes → found_after b k id changes (version_of_id b k id t) ≡ version_of_id b k id (after_all changes t)
after_is t [] b k id may = refl
after_is t (change ∷ changes) b k id may = ap (found_after b k id changes) (next_is t change b k id may.0) ∙ after_is (changed_by change t) changes b k id may.1

-- changes come one list after another
pub may_come_more : (t : Tables) (xs ys : List Change) → MayComeAll t xs → MayComeAll (after_all xs t) ys → MayComeAll t (xs ++ ys)
may_come_more t [] ys first then = then
may_come_more t (x ∷ xs) ys first then = (first.0, may_come_more (changed_by x t) xs ys first.1 then)

-- what is found at a place, however that is written
pub found_at_place : (t : Tables) (changes : List Change) (b k b' k' : List ℕ) (id id' : ℤ) (found : Option Standing) → MayComeAll t changes → b ≡ b' → k ≡ k' → id ≡ id'
    → option_map shown found ≡ option_map row_shown (found_after b k id changes (version_of_id b k id t)) → option_map shown found ≡ option_map row_shown (version_of_id b' k' id' (after_all changes t))
found_at_place t changes b k b' k' id id' found may same_b same_k same_id told =
    let at_place : version_of_id b k id (after_all changes t) ≡ version_of_id b' k' id' (after_all changes t) = λ i. version_of_id (same_b i) (same_k i) (same_id i) (after_all changes t) in
    told ∙ ap (option_map row_shown) (after_is t changes b k id may ∙ at_place)
