-- What an entry has made under a key, by its rows.
use Rattle.std.proofs.Common.{◌≡◌, refl, sym, ap, ◌∙◌, ℕ, ◌+◌, ◌<◌, ◌==◌, nat_lt, Bool, true, false, not, cond, ◌&&◌, List, [], ◌∷◌, map, filter, find, Option, Some, None, option_map, unwrap_or, unsigned_abs, arith, true≢false}
use Rattle.std.proofs.lemmas.Bool.{and_parts, and_from, false_from_ne_true, eqb-true, ltb-true}
use Rattle.std.specs.List.{AllByRecursion, list_any}
use Rattle.sqlite_keyed.specs.Lists.{sort_by}
use Rattle.sqlite_keyed.proofs.ListLemmas.{all_weaker, all_both, all_kept, all_map, all_from_test, any_from_none}
use Rattle.sqlite_keyed.proofs.SliceLemmas.{list_all-map}
use Rattle.s3_names.specs.declared.ids.VersionId.{VersionId}
use Rattle.s3_names.specs.declared.ids.VersionId.TheVariants.{Numbered}
use Rattle.s3_versions.specs.declared.version.Version.{Version}
use Rattle.s3_versions.specs.declared.version.Versioning.{Versioning}
use Rattle.s3_versions.specs.Rules.{is_under, is_new_number, new_id}
use Rattle.s3_deletions.specs.Deletions.{has_made}
use Rattle.s3_records.specs.Catalogue.{versions_of}
use Rattle.s3_records.specs.Places.{AreBelow}
use Rattle.s3_rows.specs.Columns.{VersionColumns, Tables}
use Rattle.s3_rows.specs.Encoding.{Encoding}
use Rattle.s3_rows.specs.Finding.{same_text, is_in, is_at, id_column, is_version, newest_first}
use Rattle.s3_rows.specs.Meaning.{version_of, catalogue_of}
use Rattle.s3_rows.specs.Soundness.{same_version, AreSound}
use Rattle.s3_rows.proofs.EditLemmas.{same_key}
use Rattle.s3_rows.proofs.MeaningLemmas.{same_text-itself}
use Rattle.s3_rows.proofs.ReadingLemmas.{rows_tell_versions, rows_tell_version}
use Rattle.s3_rows.proofs.SortedLemmas.{all_passing, all-sort_by, all_unsorted}
use Rattle.s3_rows.proofs.VersionLemmas.{newest_total}
use Rattle.s3_stored_rows.specs.Queries.{version_of_id}
use Rattle.s3_row_deletions.specs.Steps.{HasNewId}
use Rattle.s3_row_deletions.proofs.FoundLemmas.{passing_alike}
use Rattle.s3_row_deletions.proofs.StandingLemmas.{one_place}

-- one that is found is among all
any_found : {X : Type 0} (p r : X → Bool) (xs : List X) (x : X) → find p xs ≡ Some x → r x ≡ true → list_any r xs ≡ true
any_found p r [] x found is = cc
any_found {X} p r (y ∷ xs) x found is = go (p y) found (any_found p r xs x)
  where
    go : (b : Bool) → cond b (Some y) (find p xs) ≡ Some x → (find p xs ≡ Some x → r x ≡ true → list_any r xs ≡ true) → list_any r (y ∷ xs) ≡ true
    go true e more = let same : y ≡ x = cc in let here : r y ≡ true = ap r same ∙ is in grind (arith, here)
    go false e more = let later : list_any r xs ≡ true = more e is in grind (arith, later)

-- no version has the number of a later entry
none_later : {B : Type 0} (n m : ℕ) (vs : List (Version B)) → n < m → is_new_number (n + 1) vs ≡ true → find (is_under (Numbered m)) vs ≡ None
unfolding is_new_number
none_later n m [] later new = refl
none_later n m (v ∷ vs) later new =
    let parts = and_parts (nat_lt v.number (n + 1)) (is_new_number (n + 1) vs) new in
    let less = ltb-true v.number (n + 1) parts.0 in
    let differs : (v.number == m) ≡ false = false_from_ne_true (v.number == m) (λ is. let same = eqb-true v.number m is in absurd (omega arith)) in
    ap (λ b. cond b (Some v) (find (is_under (Numbered m)) vs)) (ap (λ b. not v.is_null && b) differs ∙ elim (v.is_null) as (λ b. (not b && false) ≡ false) [ true ↦ refl | false ↦ refl ])
    ∙ none_later n m vs later parts.1

none_mapped : {X Y : Type 0} (f : X → Y) (o : Option X) → option_map f o ≡ None → o ≡ None
none_mapped f None none = refl
none_mapped f (Some x) none = cc

-- what holds of the rows under each key holds of those under any
under_each : {X K : Type 0} (at : K → X → Type 0) (P : X → Type 0) (key : X → K) (xs : List X) → ((k : K) → AllByRecursion (λ x. at k x → P x) xs) → AllByRecursion (λ x. at (key x) x → P x) xs
under_each at P key [] each = tt
under_each at P key (x ∷ xs) each = ((each (key x)).0, under_each at P key xs (λ k. (each k).1))

module _ (e : Encoding) (t : Tables) (s : AreSound t) where
  -- the versions under a key have what their rows have
  numbers_under : (n : ℕ) (bucket key : List ℕ) → is_new_number n (versions_of (catalogue_of e t) bucket key) ≡ true
      → AllByRecursion (λ v. is_at bucket key v ≡ true → nat_lt (unsigned_abs v.number) n ≡ true) t.versions
  unfolding is_new_number
  numbers_under n bucket key new =
      let told = rows_tell_versions e t bucket key s in
      let here = filter (is_at bucket key) t.versions in
      all_kept (λ v. nat_lt (unsigned_abs v.number) n ≡ true) (is_at bucket key) t.versions
      (all_unsorted newest_first newest_total (λ v. nat_lt (unsigned_abs v.number) n ≡ true) here
      (all_from_test (λ v. nat_lt (unsigned_abs v.number) n) (sort_by newest_first here)
      (sym (list_all-map (λ (v : Version (List ℕ)). nat_lt v.number n) (version_of e) (sort_by newest_first here)) ∙ sym (ap (is_new_number n) told) ∙ new)))

  -- where a number is above those of all versions, no row has it
  pub none_has : (bucket : List ℕ) (versioning : Versioning) (n : ℕ) → AreBelow n (catalogue_of e t) → AllByRecursion (HasNewId bucket versioning n) t.versions
  none_has bucket versioning n below =
      all_weaker (λ v. is_at bucket v.key v ≡ true → nat_lt (unsigned_abs v.number) n ≡ true) (HasNewId bucket versioning n)
      (λ v less inside same.
      let l = ltb-true (unsigned_abs v.number) n (less (and_from (is_in bucket v) (same_text v.key v.key) inside (same_text-itself v.key))) in
      absurd (omega (arith, same)))
      t.versions
      (under_each (λ k v. is_at bucket k v ≡ true) (λ v. nat_lt (unsigned_abs v.number) n ≡ true) (λ v. v.key) t.versions (λ key. numbers_under n bucket key (below bucket key)))

  -- nor has a row
  pub none_stands : (bucket key : List ℕ) (n m : ℕ) → n < m → AreBelow (n + 1) (catalogue_of e t) → version_of_id bucket key (id_column (Numbered m)) t ≡ None
  none_stands bucket key n m later below =
      none_mapped (version_of e) (version_of_id bucket key (id_column (Numbered m)) t)
      (sym (rows_tell_version e t bucket key (Numbered m) s) ∙ none_later n m (versions_of (catalogue_of e t) bucket key) later (below bucket key))

  -- what an entry made under a key is the row that has the id of what it makes, if that has its number
  module _ (bucket key : List ℕ) (versioning : Versioning) (n : ℕ) (own : AllByRecursion (HasNewId bucket versioning n) t.versions) where
    abbrev pub id : VersionId
    id = new_id versioning n

    abbrev has_number : VersionColumns → Bool
    has_number v = unsigned_abs v.number == n

    not_made : unwrap_or (option_map has_number (version_of_id bucket key (id_column id) t)) false ≡ false → has_made n (versions_of (catalogue_of e t) bucket key) ≡ false
    not_made other =
        let here = filter (is_at bucket key) t.versions in
        let fails : AllByRecursion (λ v. is_at bucket key v ≡ true → has_number v ≡ false) t.versions =
        all_both (λ v. is_version bucket key (id_column id) v ≡ true → has_number v ≡ false) (HasNewId bucket versioning n) (λ v. is_at bucket key v ≡ true → has_number v ≡ false)
        (λ v alike mine at. false_from_ne_true (has_number v) (λ is.
        true≢false (sym is ∙ alike (and_from (is_at bucket key v) _ at (same_key v.id (id_column id) (mine (and_parts (is_in bucket v) _ at).0 (eqb-true (unsigned_abs v.number) n is)))))))
        t.versions (passing_alike same_version (is_version bucket key (id_column id)) (one_place bucket key (id_column id)) has_number t.versions s.versions.ids other) own in
        ap (has_made n) (rows_tell_versions e t bucket key s)
        ∙ any_from_none (λ (v : Version (List ℕ)). v.number == n) (map (version_of e) (sort_by newest_first here))
        (all_map (λ (v : Version (List ℕ)). (v.number == n) ≡ false) (version_of e) (sort_by newest_first here)
        (all-sort_by newest_first newest_total (λ v. has_number v ≡ false) here (all_passing (λ v. has_number v ≡ false) (is_at bucket key) t.versions fails)))

    made : (v : VersionColumns) → version_of_id bucket key (id_column id) t ≡ Some v → has_number v ≡ true → has_made n (versions_of (catalogue_of e t) bucket key) ≡ true
    made v found is =
        any_found (is_under id) (λ (w : Version (List ℕ)). w.number == n) (versions_of (catalogue_of e t) bucket key) (version_of e v)
        (rows_tell_version e t bucket key id s ∙ ap (option_map (version_of e)) found) is

    pub made_told : has_made n (versions_of (catalogue_of e t) bucket key) ≡ unwrap_or (option_map has_number (version_of_id bucket key (id_column id) t)) false
    made_told = go (version_of_id bucket key (id_column id) t) refl
      where
        with_number : (v : VersionColumns) → version_of_id bucket key (id_column id) t ≡ Some v → (b : Bool) → has_number v ≡ b → has_made n (versions_of (catalogue_of e t) bucket key) ≡ b
        with_number v found true is = made v found is
        with_number v found false is = not_made (ap (λ o. unwrap_or (option_map has_number o) false) found ∙ is)

        go : (o : Option VersionColumns) → version_of_id bucket key (id_column id) t ≡ o → has_made n (versions_of (catalogue_of e t) bucket key) ≡ unwrap_or (option_map has_number o) false
        go None found = not_made (ap (λ o. unwrap_or (option_map has_number o) false) found)
        go (Some v) found = with_number v found (has_number v) refl
