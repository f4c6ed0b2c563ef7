-- The rows of a list, from the entries of a tree.
use Rattle.std.proofs.Common.{◌≡◌, refl, sym, ap, subst, ◌∙◌, true, false, cond, ◌&&◌, T, ℕ, List, [], ◌∷◌, ◌++◌, map, Option, Some, None}
use Rattle.std.specs.Prelude.{if◌then◌else◌}
use Rattle.std.specs.List.{filter, flat_map}
use Rattle.std.specs.Cmp.{eq_by_cmp_equiv}
use Rattle.std.specs.Cmp.Lexicographic.{nat_list_cmp_total, texts_ties}
use Rattle.std.specs.FinMap.{FinMap, get, get-entries, entries, entries_sorted}
use Rattle.std.specs.FinMap.Entries.{find, is_sorted, below_all}
use Rattle.std.specs.Ordering.{is_lt, is_eq}
use Rattle.std.specs.declared.cmp.Ordering.{Ordering}
use Rattle.std.specs.declared.cmp.Ordering.TheVariants.{Less, Equal, Greater}
use Rattle.std.specs.BTreeMap.Range.{is_from_start, entries_between}
use Rattle.std.specs.declared.ops.Bound.{Bound}
use Rattle.std.specs.declared.ops.Bound.TheVariants.{Excluded, Unbounded}
use Rattle.s3_text.specs.Order.{byte_order}
use Rattle.s3_text.proofs.MapLemmas.{tied_equal}
use Rattle.s3_names.specs.declared.ids.VersionId.{VersionId}
use Rattle.s3_versions.specs.declared.version.Version.{Version}
use Rattle.s3_records.specs.declared.rows.Start.{Start}
use Rattle.s3_records.specs.declared.rows.Start.TheVariants.{Behind}
use Rattle.s3_records.specs.declared.rows.VersionRow.{VersionRow}
use Rattle.s3_records.specs.declared.rows.VersionStart.TheVariants.{At, BehindVersion}
use Rattle.s3_records.specs.Catalogue.{Keys, found_versions, versions_at}
use Rattle.s3_records.specs.Rows.{Held, key_row, is_from, version_row, behind_version, rows_of, rows_behind, rows_at}
use Rattle.s3_records.proofs.RowLemmas.{is_true, first_of, second_of, is_less}

-- a bound is where a list begins
abbrev pub BeginsAt : Bound (List ℕ) → Start → Type 0
BeginsAt first start = (key : List ℕ) → is_from_start byte_order first key ≡ is_from start key

-- the entries from a bound on are those from there on
pub entries_from : {X : Type 0} (first : Bound (List ℕ)) (start : Start) → BeginsAt first start → (es : List (List ℕ × X)) → entries_between byte_order first Unbounded es ≡ filter (λ e. is_from start e.0) es
entries_from first start begins [] = refl
entries_from first start begins (e ∷ es) =
    let rest = entries_from first start begins es in
    elim (is_from_start byte_order first e.0) as (λ b. cond (b && true) (e ∷ entries_between byte_order first Unbounded es) (entries_between byte_order first Unbounded es) ≡ cond b (e ∷ filter (λ e. is_from start e.0) es) (filter (λ e. is_from start e.0) es)) [
      | true ↦ ap (λ es. e ∷ es) rest
      | false ↦ rest
    ] ∙ ap (λ b. cond b (e ∷ filter (λ e. is_from start e.0) es) (filter (λ e. is_from start e.0) es)) (begins e.0)

-- and their rows are the rows from there on
rows_filtered : {B : Type 0} (start : Start) (es : List (Held B)) → map key_row (filter (λ e. is_from start e.0) es) ≡ filter (λ row. is_from start row.key) (map key_row es)
rows_filtered start [] = refl
rows_filtered start (e ∷ es) =
    elim (is_from start e.0) as (λ b. map key_row (cond b (e ∷ filter (λ e. is_from start e.0) es) (filter (λ e. is_from start e.0) es)) ≡ cond b (key_row e ∷ filter (λ row. is_from start row.key) (map key_row es)) (filter (λ row. is_from start row.key) (map key_row es))) [
      | true ↦ ap (λ rows. key_row e ∷ rows) (rows_filtered start es)
      | false ↦ rows_filtered start es
    ]

pub key_rows_from : {B : Type 0} (first : Bound (List ℕ)) (start : Start) → BeginsAt first start → (es fs : List (Held B)) → es ≡ fs → map key_row (entries_between byte_order first Unbounded es) ≡ filter (λ row. is_from start row.key) (map key_row fs)
key_rows_from first start begins es fs is =
    ap (map key_row) (entries_from first start begins es) ∙ rows_filtered start es ∙ ap (λ es. filter (λ row. is_from start row.key) (map key_row es)) is

-- the rows of the versions from there on
versions_filtered : {B : Type 0} (start : Start) (es : List (Held B)) → flat_map rows_of (filter (λ e. is_from start e.0) es) ≡ flat_map (rows_at (At start)) es
versions_filtered start [] = refl
versions_filtered start (e ∷ es) =
    elim (is_from start e.0) as (λ b. flat_map rows_of (cond b (e ∷ filter (λ e. is_from start e.0) es) (filter (λ e. is_from start e.0) es)) ≡ (if b then rows_of e else []) ++ flat_map (rows_at (At start)) es) [
      | true ↦ ap (λ rows. rows_of e ++ rows) (versions_filtered start es)
      | false ↦ versions_filtered start es
    ]

pub version_rows_from : {B : Type 0} (first : Bound (List ℕ)) (start : Start) → BeginsAt first start → (es fs : List (Held B)) → es ≡ fs → flat_map rows_of (entries_between byte_order first Unbounded es) ≡ flat_map (rows_at (At start)) fs
version_rows_from first start begins es fs is =
    ap (flat_map rows_of) (entries_from first start begins es) ∙ versions_filtered start es ∙ ap (flat_map (rows_at (At start))) is

-- and of the keys behind one
pub rows_behind_key : {B : Type 0} (key : List ℕ) (es fs : List (Held B)) → es ≡ fs → flat_map rows_of (entries_between byte_order (Excluded key) Unbounded es) ≡ flat_map rows_of (filter (λ e. is_lt (byte_order key e.0)) fs)
rows_behind_key key es fs is =
    ap (flat_map rows_of) (entries_from (Excluded key) (Behind key) (λ q. refl) es) ∙ ap (λ es. flat_map rows_of (filter (λ e. is_lt (byte_order key e.0)) es)) is

-- keys above one are not it
above_absent : {X : Type 0} (key : List ℕ) (es : List (List ℕ × X)) → T (below_all byte_order key es) → find byte_order key es ≡ None
above_absent key [] above = refl
above_absent key (e ∷ es) above =
    let less = is_less (byte_order key e.0) (is_true _ (first_of _ (below_all byte_order key es) above)) in
    ap (λ r. cond (is_eq r) (Some e.1) (find byte_order key es)) less ∙ above_absent key es (second_of _ _ above)

above_above : {X : Type 0} (key k : List ℕ) (es : List (List ℕ × X)) → byte_order key k ≡ Less → T (below_all byte_order k es) → T (below_all byte_order key es)
above_above key k [] less above = tt
above_above key k (e ∷ es) less above =
    let next = nat_list_cmp_total.trans key k e.0 less (is_less (byte_order k e.0) (is_true _ (first_of _ (below_all byte_order k es) above))) in
    subst (λ b. T (b && below_all byte_order key es)) (sym (ap is_lt next)) (above_above key k es less (second_of _ _ above))

-- What is told from within a key on: some of what stands under it, and all under the keys behind it.
module _ {X C : Type 0} (all : List ℕ × X → List C) (some : Option X → List C) (none : some None ≡ []) (key : List ℕ) where
  -- where the key stands to another decides what is told of that
  abbrev pub Told : List ℕ × X → Ordering → List C
  Told e r = if is_eq r then some (Some e.1) else if is_lt r then all e else []

  above_told : (es : List (List ℕ × X)) → T (below_all byte_order key es) → flat_map all (filter (λ e. is_lt (byte_order key e.0)) es) ≡ flat_map (λ e. Told e (byte_order key e.0)) es
  above_told [] above = refl
  above_told (e ∷ es) above =
      let less = is_less (byte_order key e.0) (is_true _ (first_of _ (below_all byte_order key es) above)) in
      let rest = filter (λ e. is_lt (byte_order key e.0)) es in
      ap (λ r. flat_map all (cond (is_lt r) (e ∷ rest) rest)) less
      ∙ ap (λ told. all e ++ told) (above_told es (second_of _ _ above))
      ∙ ap (λ told. told ++ flat_map (λ e. Told e (byte_order key e.0)) es) (sym (ap (Told e) less))

  then_told : (e : List ℕ × X) (es : List (List ℕ × X)) (r : Ordering) → byte_order key e.0 ≡ r → T (below_all byte_order e.0 es)
      → some (find byte_order key es) ++ flat_map all (filter (λ e. is_lt (byte_order key e.0)) es) ≡ flat_map (λ e. Told e (byte_order key e.0)) es
      → some (cond (is_eq r) (Some e.1) (find byte_order key es)) ++ flat_map all (cond (is_lt r) (e ∷ filter (λ e. is_lt (byte_order key e.0)) es) (filter (λ e. is_lt (byte_order key e.0)) es))
      ≡ Told e r ++ flat_map (λ e. Told e (byte_order key e.0)) es
  then_told e es Less is above rest =
      let behind = above_above key e.0 es is above in
      ap (λ told. told ++ (all e ++ flat_map all (filter (λ e. is_lt (byte_order key e.0)) es))) (ap some (above_absent key es behind) ∙ none)
      ∙ ap (λ told. all e ++ told) (above_told es behind)
  then_told e es Equal is above rest =
      let same = tied_equal key e.0 (ap is_eq is) in
      ap (λ told. some (Some e.1) ++ told) (above_told es (subst (λ k. T (below_all byte_order k es)) (sym same) above))
  then_told e es Greater is above rest = rest

  told_behind : (es : List (List ℕ × X)) → T (is_sorted byte_order es) → some (find byte_order key es) ++ flat_map all (filter (λ e. is_lt (byte_order key e.0)) es) ≡ flat_map (λ e. Told e (byte_order key e.0)) es
  told_behind [] sorted = ap (λ told. told ++ []) none
  told_behind (e ∷ es) sorted = then_told e es (byte_order key e.0) refl (first_of (below_all byte_order e.0 es) _ sorted) (told_behind es (second_of (below_all byte_order e.0 es) _ sorted))

  -- in a map
  pub told_in : (m : FinMap byte_order X) → some (get m key) ++ flat_map all (filter (λ e. is_lt (byte_order key e.0)) (entries m)) ≡ flat_map (λ e. Told e (byte_order key e.0)) (entries m)
  told_in m = ap (λ found. some found ++ flat_map all (filter (λ e. is_lt (byte_order key e.0)) (entries m))) (get-entries m key) ∙ told_behind (entries m) (entries_sorted m)

-- the older versions of a key
abbrev older_in : {B : Type 0} → List ℕ → VersionId → Option (List (Version B)) → List VersionRow
older_in key id found = map (version_row key false) (behind_version id (found_versions found))

version_told : {B : Type 0} (key : List ℕ) (id : VersionId) (e : Held B) → Told rows_of (older_in key id) refl key e (byte_order key e.0) ≡ rows_at (BehindVersion key id) e
version_told key id e =
    elim (byte_order key e.0) as (λ r. byte_order key e.0 ≡ r → Told rows_of (older_in key id) refl key e r ≡ (if is_eq r then rows_behind id e else if is_lt r then rows_of e else [])) [
      | Less ↦ λ is. refl
      | Equal ↦ λ is. ap (λ k. map (version_row k false) (behind_version id e.1)) (tied_equal key e.0 (ap is_eq is))
      | Greater ↦ λ is. refl
    ] refl
    ∙ ap (λ b. if b then rows_behind id e else if is_lt (byte_order key e.0) then rows_of e else []) (sym (texts_ties e.0 key ∙ (eq_by_cmp_equiv nat_list_cmp_total).symm e.0 key))

pub version_rows_behind : {B : Type 0} (keys : Keys B) (key : List ℕ) (id : VersionId)
    → map (version_row key false) (behind_version id (versions_at keys key)) ++ flat_map rows_of (filter (λ e. is_lt (byte_order key e.0)) (entries keys)) ≡ flat_map (rows_at (BehindVersion key id)) (entries keys)
version_rows_behind keys key id = told_in rows_of (older_in key id) refl key keys ∙ (λ i. flat_map (λ e. version_told key id e i) (entries keys))
