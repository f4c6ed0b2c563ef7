-- The steps of a list of keys.
use Rattle.std.proofs.Common.{◌≡◌, refl, sym, ap, ap₂, subst, ◌∙◌, Bool, true, false, cond, ℕ, ◌+◌, ◌<◌, ◌≤◌, List, [], ◌∷◌, ◌++◌, append_assoc, add-one, drop, drop-cons, get_or, length, length-append, map, min, take, Option, Some, None, MatchOption, arith}
use Rattle.std.proofs.Math.ListN.{drop_of_length-le}
use Rattle.std.proofs.lemmas.List.{length-map, length-take, map-append, take_all, take_at}
use Rattle.std.proofs.lemmas.Option.{same_Some}
use Rattle.s3_records.specs.Rows.{keys_from}
use Rattle.s3_records.specs.declared.rows.KeyRow.{KeyRow}
use Rattle.s3_records.specs.declared.rows.Start.{Start}
use Rattle.s3_records.specs.declared.rows.Start.TheVariants.{Behind}
use Rattle.s3_rows.specs.Columns.{VersionColumns, Tables}
use Rattle.s3_rows.specs.Encoding.{Encoding}
use Rattle.s3_rows.specs.KeyListLaws.{key_listed, keys_listed}
use Rattle.s3_rows.specs.Meaning.{catalogue_of}
use Rattle.s3_rows.specs.Soundness.{AreSound}
use Rattle.s3_rows.specs.VersionListLaws.{is_last}
use Rattle.s3_rows.proofs.KeyListLemmas.{rows_list_keys}
use Rattle.s3_stored_rows.specs.Changes.{version_columns}
use Rattle.s3_stored_rows.specs.Queries.{versions_behind}
use Rattle.s3_stored_rows.specs.declared.rows.StoredVersion.{StoredVersion}
use Rattle.s3_row_lists.proofs.KeyLemmas.{full_page, last_page}
use Rattle.s3_row_lists.proofs.StartLemmas.{from_versions}

append_nothing : {X : Type 0} (xs : List X) → xs ++ [] ≡ xs
append_nothing [] = refl
append_nothing (x ∷ xs) = ap (λ l. x ∷ l) (append_nothing xs)

-- ---- one row after another

one_key : {X : Type 0} (b : Bool) (x : X) (before rest : List X) → (before ++ cond b [] (x ∷ [])) ++ rest ≡ before ++ cond b rest (x ∷ rest)
one_key true x before rest = append_assoc before [] rest
one_key false x before rest = append_assoc before (x ∷ []) rest

one_left : {X : Type 0} (xs : List X) (i : ℕ) (x : X) → i < length xs → x ≡ get_or xs i x → drop i xs ≡ x ∷ drop (i + 1) xs
one_left xs i x within is = drop-cons xs i x within ∙ ap₂ (λ y n. y ∷ drop n xs) (sym is) (sym (add-one i))

pub key_more : (e : Encoding) (most i : ℕ) (found : List StoredVersion) (row : StoredVersion) (last : Option (List ℕ)) (before after all : List KeyRow) → i < length found → row ≡ get_or found i row
    → take most (before ++ keys_listed e last (map version_columns (drop i found))) ≡ all → after ≡ before ++ cond (is_last last row.key.items) [] (key_listed e (version_columns row) ∷ [])
    → take most (after ++ keys_listed e (Some row.key.items) (map version_columns (drop (i + 1) found))) ≡ all
key_more e most i found row last before after all within is had adds =
    let rest = keys_listed e (Some row.key.items) (map version_columns (drop (i + 1) found)) in
    ap (λ l. take most (l ++ rest)) adds
    ∙ ap (take most) (one_key (is_last last row.key.items) (key_listed e (version_columns row)) before rest)
    ∙ ap (λ l. take most (before ++ keys_listed e last (map version_columns l))) (sym (one_left found i row within is))
    ∙ had

pub key_fits : (most : ℕ) (b : Bool) (x : KeyRow) (before after : List KeyRow) → length before < most → after ≡ before ++ cond b [] (x ∷ []) → length after ≤ most
key_fits most true x before after room adds = subst (λ k. k ≤ most) (sym (ap length (adds ∙ append_nothing before))) (omega arith)
key_fits most false x before after room adds = subst (λ k. k ≤ most) (sym (ap length adds ∙ length-append before (x ∷ []))) (omega arith)

-- where there are so many, and where all rows are told
pub enough_told : (most : ℕ) (told rest all : List KeyRow) → most ≤ length told → length told ≤ most → take most (told ++ rest) ≡ all → told ≡ all
enough_told most told rest all full fits had = sym (take_at told rest most (omega arith)) ∙ had

pub all_told : (e : Encoding) (most i : ℕ) (found : List StoredVersion) (last : Option (List ℕ)) (told all : List KeyRow) → length found ≤ i → length told ≤ most
    → take most (told ++ keys_listed e last (map version_columns (drop i found))) ≡ all → told ≡ all
all_told e most i found last told all past fits had =
    sym (take_all most told fits) ∙ ap (take most) (sym (append_nothing told))
    ∙ ap (λ l. take most (told ++ keys_listed e last (map version_columns l))) (sym (drop_of_length-le found {i = i} past)) ∙ had

-- ---- one page after another

-- a page ends with a row of this key
abbrev pub EndsAt : List StoredVersion → List ℕ → Type 0
EndsAt page key = (front : List StoredVersion) × (row : StoredVersion) × (page ≡ front ++ row ∷ []) × (row.key.items ≡ key)

pub at_none : {V : Type 0} (o : Option V) (P : Type 0) (Q : V → Type 0) → o ≡ None → MatchOption o P Q → P
at_none None P Q none holds = holds
at_none (Some x) P Q none holds = cc

pub at_some : {V : Type 0} (o : Option V) (P : Type 0) (Q : V → Type 0) (x : V) → o ≡ Some x → MatchOption o P Q → Q x
at_some None P Q x some holds = cc
at_some (Some y) P Q x some holds = subst Q (same_Some y x some) holds

module _ (e : Encoding) (bucket : List ℕ) (start : Start) (t : Tables) (n most : ℕ) (page : List StoredVersion) (told now : List KeyRow)
    (cut : map version_columns page ≡ take n (from_versions bucket start t)) (adds : now ≡ take most (told ++ keys_listed e None (map version_columns page))) where
  pub page_step : (key : List ℕ) (later : Tables) (front : List StoredVersion) (row : StoredVersion) (all : List KeyRow) → later ≡ t → page ≡ front ++ row ∷ [] → row.key.items ≡ key
      → take most (told ++ keys_listed e None (from_versions bucket start t)) ≡ all → take most (now ++ keys_listed e None (versions_behind bucket key later)) ≡ all
  page_step key later front row all same ends its had =
      ap₂ (λ k x. take most (now ++ keys_listed e None (versions_behind bucket k x))) (sym its) same
      ∙ full_page e bucket start t n most (map version_columns page) (map version_columns front) (version_columns row) told now cut (ap (map version_columns) ends ∙ map-append version_columns front (row ∷ [])) adds
      ∙ had

  -- and what is told then
  pub page_then : (key : List ℕ) (later : Tables) (front : List StoredVersion) (row : StoredVersion) (last all : List KeyRow) → later ≡ t → page ≡ front ++ row ∷ [] → row.key.items ≡ key
      → take most (told ++ keys_listed e None (from_versions bucket start t)) ≡ all → last ≡ take most (now ++ keys_listed e None (versions_behind bucket key later)) → last ≡ all
  page_then key later front row last all same ends its had then = then ∙ page_step key later front row all same ends its had

  pub page_last : (all : List KeyRow) → length page < n → take most (told ++ keys_listed e None (from_versions bucket start t)) ≡ all → now ≡ all
  page_last all few had =
      last_page e bucket start t n most (map version_columns page) told now cut (subst (λ k. k < n) (sym (length-map page version_columns)) few) adds ∙ had

some_told : (e : Encoding) (vs : List VersionColumns) → 0 < length vs → 0 < length (keys_listed e None vs)
some_told e [] some = absurd (omega arith)
some_told e (v ∷ vs) some = omega arith

-- a page behind a key
pub cut_at : (bucket key asked : List ℕ) (t : Tables) (n : ℕ) (page : List VersionColumns) → asked ≡ key → page ≡ take n (versions_behind bucket asked t) → page ≡ take n (from_versions bucket (Behind key) t)
cut_at bucket key asked t n page same cut = cut ∙ ap (λ k. take n (versions_behind bucket k t)) same

-- a page with something in it tells a key
pub page_grows : (e : Encoding) (most : ℕ) (page front : List StoredVersion) (row : StoredVersion) (told now : List KeyRow) → length told < most → page ≡ front ++ row ∷ []
    → now ≡ take most (told ++ keys_listed e None (map version_columns page)) → length told < length now
page_grows e most page front row told now room ends adds =
    let rows : length page ≡ length front + 1 = ap length ends ∙ length-append front (row ∷ []) in
    let some : 0 < length (keys_listed e None (map version_columns page)) = some_told e (map version_columns page) (subst (λ k. 0 < k) (sym (length-map page version_columns)) (omega arith)) in
    let count : length now ≡ min most (length told + length (keys_listed e None (map version_columns page))) =
    ap length adds ∙ length-take most (told ++ keys_listed e None (map version_columns page)) ∙ ap (min most) (length-append told (keys_listed e None (map version_columns page))) in
    omega arith

-- all keys from a place on, where nothing is told yet
pub keys_told : (e : Encoding) (t : Tables) (bucket b : List ℕ) (start : Start) (most : ℕ) (told : List KeyRow) → AreSound t → b ≡ bucket → told ≡ []
    → take most (told ++ keys_listed e None (from_versions b start t)) ≡ take most (keys_from (catalogue_of e t) bucket start)
keys_told e t bucket b start most told s same none =
    ap₂ (λ l x. take most (l ++ keys_listed e None (from_versions x start t))) none same ∙ ap (take most) (sym (rows_list_keys e t bucket start s))
