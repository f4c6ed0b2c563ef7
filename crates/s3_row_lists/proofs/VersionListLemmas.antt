-- The lists of versions, as questions find them.
use Rattle.std.proofs.Common.{◌≡◌, refl, sym, ap, ap₂, ◌∙◌, false, not, ℕ, zero, suc, ◌-◌, ℤ, List, [], ◌∷◌, ◌++◌, find, length, map, take, Option, Some, None, option_map}
use Rattle.std.proofs.lemmas.Option.{same_Some}
use Rattle.s3_names.specs.declared.ids.VersionId.{VersionId}
use Rattle.s3_records.specs.Catalogue.{versions_of}
use Rattle.s3_records.specs.Rows.{behind_version, version_row, versions_from}
use Rattle.s3_records.specs.declared.rows.Start.{Start}
use Rattle.s3_records.specs.declared.rows.VersionRow.{VersionRow}
use Rattle.s3_records.specs.declared.rows.VersionStart.{VersionStart}
use Rattle.s3_records.specs.declared.rows.VersionStart.TheVariants.{At, BehindVersion}
use Rattle.s3_rows.specs.Columns.{VersionColumns, Tables}
use Rattle.s3_rows.specs.Encoding.{Encoding}
use Rattle.s3_rows.specs.Finding.{is_version, id_column}
use Rattle.s3_rows.specs.Meaning.{version_of, catalogue_of}
use Rattle.s3_rows.specs.Soundness.{AreSound}
use Rattle.s3_rows.specs.VersionListLaws.{is_last, versions_listed}
use Rattle.s3_rows.proofs.VersionListLemmas.{rows_list_versions}
use Rattle.s3_stored_rows.specs.Changes.{version_columns}
use Rattle.s3_stored_rows.specs.Queries as asked
use Rattle.s3_stored_rows.specs.declared.rows.StoredVersion.{StoredVersion}
use Rattle.s3_row_lists.proofs.CutLemmas.{both_told, cut_none, found_told}
use Rattle.s3_row_lists.proofs.StartLemmas.{from_versions}
use Rattle.s3_row_lists.proofs.VersionLemmas.{older, older_row, older_told, versions_past}

-- ---- from a key on

-- what is told of the first rows is the first of what is told
listed_cut : (e : Encoding) (last : Option (List ℕ)) (n : ℕ) (vs : List VersionColumns) → versions_listed e last (take n vs) ≡ take n (versions_listed e last vs)
listed_cut e last zero vs = refl
listed_cut e last (suc n) [] = refl
listed_cut e last (suc n) (v ∷ vs) = ap (λ l. version_row v.key (not (is_last last v.key)) (version_of e v) ∷ l) (listed_cut e (Some v.key) n vs)

pub found_listed : (e : Encoding) (limit n : ℕ) (found now : List StoredVersion) (vs : List VersionColumns) → limit ≡ n → now ≡ found → map version_columns found ≡ take limit vs
    → versions_listed e None (map version_columns now) ≡ take n (versions_listed e None vs)
found_listed e limit n found now vs room whole is =
    ap (λ l. versions_listed e None (map version_columns l)) whole ∙ ap (versions_listed e None) is ∙ listed_cut e None limit vs ∙ ap (λ m. take m (versions_listed e None vs)) room

pub listed_at : (e : Encoding) (t : Tables) (bucket b : List ℕ) (start : Start) (all : VersionStart) (n : ℕ) → AreSound t → b ≡ bucket → all ≡ At start
    → take n (versions_listed e None (from_versions b start t)) ≡ take n (versions_from (catalogue_of e t) bucket all)
listed_at e t bucket b start all n s same is =
    ap (take n)
    (ap (λ x. versions_listed e None (from_versions x start t)) same
    ∙ sym (rows_list_versions e t bucket start s)
    ∙ ap (versions_from (catalogue_of e t) bucket) (sym is))

-- ---- behind a version

pub listed_past : (e : Encoding) (t : Tables) (bucket key b k : List ℕ) (id : VersionId) (all : VersionStart) (n : ℕ) → AreSound t → b ≡ bucket → k ≡ key → all ≡ BehindVersion key id
    → take n (map (version_row k false) (behind_version id (versions_of (catalogue_of e t) b k)) ++ versions_listed e None (asked.versions_behind b k t)) ≡ take n (versions_from (catalogue_of e t) bucket all)
listed_past e t bucket key b k id all n s same_bucket same_key is =
    ap (take n)
    (ap₂ (λ x y. map (version_row y false) (behind_version id (versions_of (catalogue_of e t) x y)) ++ versions_listed e None (asked.versions_behind x y t)) same_bucket same_key
    ∙ sym (versions_past e t bucket key id s)
    ∙ ap (versions_from (catalogue_of e t) bucket) (sym is))

pub past_listed : (e : Encoding) (t later : Tables) (bucket key : List ℕ) (n : ℕ) (told now xs : List VersionRow) → later ≡ t → told ≡ take n xs
    → now ≡ told ++ take (n - length told) (versions_listed e None (asked.versions_behind bucket key later)) → now ≡ take n (xs ++ versions_listed e None (asked.versions_behind bucket key t))
past_listed e t later bucket key n told now xs same one two =
    both_told n told now xs (versions_listed e None (asked.versions_behind bucket key t)) one
    (two ∙ ap (λ x. told ++ take (n - length told) (versions_listed e None (asked.versions_behind bucket key x))) same)

pub below_listed : (e : Encoding) (bucket key : List ℕ) (limit n : ℕ) (m z : ℤ) (t : Tables) (found now : List StoredVersion) → z ≡ m → limit ≡ n → now ≡ found → map version_columns found ≡ take limit (asked.versions_below bucket key z t)
    → map (λ v. older_row e (version_columns v)) now ≡ take n (map (older_row e) (asked.versions_below bucket key m t))
below_listed e bucket key limit n m z t found now same room whole is =
    found_told (older_row e) version_columns limit n found now (asked.versions_below bucket key z t) room whole is
    ∙ ap (λ x. take n (map (older_row e) (asked.versions_below bucket key x t))) same

module _ (e : Encoding) (t : Tables) (bucket key : List ℕ) (id : VersionId) (s : AreSound t) (number : Option ℤ)
    (its_number : number ≡ option_map (λ (v : VersionColumns). v.number) (find (is_version bucket key (id_column id)) t.versions)) where
  abbrev found_row : Option VersionColumns
  found_row = find (is_version bucket key (id_column id)) t.versions

  none_older : (o : Option VersionColumns) → option_map (λ (v : VersionColumns). v.number) o ≡ None → older bucket key t o ≡ []
  none_older None none = refl
  none_older (Some v) none = cc

  below_number : (o : Option VersionColumns) (n : ℤ) → option_map (λ (v : VersionColumns). v.number) o ≡ Some n → asked.versions_below bucket key n t ≡ older bucket key t o
  below_number None n some = cc
  below_number (Some v) n some = ap (λ z. asked.versions_below bucket key z t) (sym (same_Some v.number n some))

  -- where the key has no version of the id, none stands behind it
  pub nothing_older : (n : ℕ) → number ≡ None → take n (map (version_row key false) (behind_version id (versions_of (catalogue_of e t) bucket key))) ≡ []
  nothing_older n none = cut_none n _ (older_told bucket key t s e id ∙ ap (map (older_row e)) (none_older found_row (sym its_number ∙ none)))

  -- else those with smaller numbers do
  pub older_listed : (n : ℕ) (m z : ℤ) (later : Tables) → number ≡ Some m → z ≡ m → later ≡ t
      → take n (map (older_row e) (asked.versions_below bucket key z later)) ≡ take n (map (version_row key false) (behind_version id (versions_of (catalogue_of e t) bucket key)))
  older_listed n m z later some below unchanged =
      ap (λ l. take n (map (older_row e) l)) (ap₂ (asked.versions_below bucket key) below unchanged ∙ below_number found_row m (sym its_number ∙ some))
      ∙ ap (take n) (sym (older_told bucket key t s e id))
