-- The rows of a list of open uploads, from the entries of a tree.
use Rattle.std.proofs.Common.{◌≡◌, refl, sym, ap, ◌∙◌, Bool, true, false, cond, ◌&&◌, ℕ, zero, suc, nat_lt, List, [], ◌∷◌, ◌++◌, map, filter, length, take, Option, None, arith}
use Rattle.std.specs.Prelude.{if◌then◌else◌}
use Rattle.std.proofs.lemmas.List.Elements.{filter-append}
use Rattle.std.specs.List.{flat_map}
use Rattle.std.specs.Cmp.{eq_by_cmp_equiv}
use Rattle.std.specs.Cmp.Lexicographic.{nat_list_cmp_total, texts_ties}
use Rattle.std.specs.FinMap.{get, entries, empty, len-entries, len-empty}
use Rattle.std.specs.Ordering.{nat_cmp, is_lt, is_eq}
use Rattle.std.specs.declared.cmp.Ordering.{Ordering}
use Rattle.std.specs.declared.cmp.Ordering.TheVariants.{Less, Equal, Greater}
use Rattle.std.specs.BTreeMap.Range.{entries_between}
use Rattle.std.specs.declared.ops.Bound.{Bound}
use Rattle.std.specs.declared.ops.Bound.TheVariants.{Excluded, Unbounded}
use Rattle.s3_text.specs.Order.{byte_order}
use Rattle.s3_text.proofs.MapLemmas.{tied_equal}
use Rattle.s3_uploads.specs.declared.upload.Upload.{Upload}
use Rattle.s3_records.specs.Catalogue.{KeyUploads, Uploads}
use Rattle.s3_records.specs.Rows.{is_from}
use Rattle.s3_records.specs.OpenUploads.{found_uploads, upload_row, upload_rows_of, is_upload_from}
use Rattle.s3_records.specs.declared.rows.Start.{Start}
use Rattle.s3_records.specs.declared.rows.Start.TheVariants.{Behind}
use Rattle.s3_records.specs.declared.rows.UploadRow.{UploadRow}
use Rattle.s3_records.specs.declared.rows.UploadStart.TheVariants.{At, BehindUpload}
use Rattle.s3_records.proofs.ListingLemmas.{BeginsAt, entries_from, Told, told_in}

-- ---- of one key

all_between : {X : Type 0} (es : List (ℕ × X)) → entries_between nat_cmp Unbounded Unbounded es ≡ es
all_between [] = refl
all_between (e ∷ es) = ap (λ es. e ∷ es) (all_between es)

pub rows_of_all : {B : Type 0} (key : List ℕ) (es : List (ℕ × Upload B)) (under : KeyUploads B) → es ≡ entries under → map (upload_row key) (entries_between nat_cmp Unbounded Unbounded es) ≡ upload_rows_of (key, under)
rows_of_all key es under is = ap (map (upload_row key)) (all_between es ∙ is)

starts : (last id : ℕ) → is_lt (nat_cmp last id) ≡ nat_lt last id
starts last id = grind arith

behind_id : {B : Type 0} (key : List ℕ) (id : ℕ) (es : List (ℕ × Upload B)) → map (upload_row key) (entries_between nat_cmp (Excluded id) Unbounded es) ≡ filter (λ row. nat_lt id row.id) (map (upload_row key) es)
behind_id key id [] = refl
behind_id key id (e ∷ es) =
    let rest = behind_id key id es in
    let all = entries_between nat_cmp (Excluded id) Unbounded es in
    let told = filter (λ row. nat_lt id row.id) (map (upload_row key) es) in
    elim (is_lt (nat_cmp id e.0)) as (λ b. map (upload_row key) (cond (b && true) (e ∷ all) all) ≡ cond b (upload_row key e ∷ told) told) [
      | true ↦ ap (λ rows. upload_row key e ∷ rows) rest
      | false ↦ rest
    ] ∙ ap (λ b. cond b (upload_row key e ∷ told) told) (starts id e.0)

pub rows_behind_id : {B : Type 0} (key : List ℕ) (id : ℕ) (es : List (ℕ × Upload B)) (under : KeyUploads B) → es ≡ entries under
    → map (upload_row key) (entries_between nat_cmp (Excluded id) Unbounded es) ≡ filter (λ row. nat_lt id row.id) (upload_rows_of (key, under))
rows_behind_id key id es under is = behind_id key id es ∙ ap (λ es. filter (λ row. nat_lt id row.id) (map (upload_row key) es)) is

-- ---- of all keys

-- the rows of each key that pass
filter-each : {A C : Type 0} (p : C → Bool) (f : A → List C) (xs : List A) → filter p (flat_map f xs) ≡ flat_map (λ x. filter p (f x)) xs
filter-each p f [] = refl
filter-each p f (x ∷ xs) = filter-append p (f x) (flat_map f xs) ∙ ap (λ rest. filter p (f x) ++ rest) (filter-each p f xs)

-- where the key alone decides, all of it pass or none
by_key : {B : Type 0} (p : UploadRow → Bool) (key : List ℕ) (b : Bool) (es : List (ℕ × Upload B)) → ((e : ℕ × Upload B) → p (upload_row key e) ≡ b) → filter p (map (upload_row key) es) ≡ (if b then map (upload_row key) es else [])
by_key p key true [] is = refl
by_key p key true (e ∷ es) is =
    ap (λ b. cond b (upload_row key e ∷ filter p (map (upload_row key) es)) (filter p (map (upload_row key) es))) (is e)
    ∙ ap (λ rows. upload_row key e ∷ rows) (by_key p key true es is)
by_key p key false [] is = refl
by_key p key false (e ∷ es) is =
    ap (λ b. cond b (upload_row key e ∷ filter p (map (upload_row key) es)) (filter p (map (upload_row key) es))) (is e)
    ∙ by_key p key false es is

-- from a key on
keys_filtered : {B : Type 0} (start : Start) (es : List (List ℕ × KeyUploads B)) → flat_map upload_rows_of (filter (λ e. is_from start e.0) es) ≡ flat_map (λ e. filter (is_upload_from (At start)) (upload_rows_of e)) es
keys_filtered start [] = refl
keys_filtered start (e ∷ es) =
    elim (is_from start e.0) as (λ b. flat_map upload_rows_of (cond b (e ∷ filter (λ e. is_from start e.0) es) (filter (λ e. is_from start e.0) es)) ≡ (if b then upload_rows_of e else []) ++ flat_map (λ e. filter (is_upload_from (At start)) (upload_rows_of e)) es) [
      | true ↦ ap (λ rows. upload_rows_of e ++ rows) (keys_filtered start es)
      | false ↦ keys_filtered start es
    ]
    ∙ ap (λ rows. rows ++ flat_map (λ e. filter (is_upload_from (At start)) (upload_rows_of e)) es) (sym (by_key (is_upload_from (At start)) e.0 (is_from start e.0) (entries e.1) (λ f. refl)))

pub upload_rows_from : {B : Type 0} (first : Bound (List ℕ)) (start : Start) → BeginsAt first start → (es fs : List (List ℕ × KeyUploads B)) → es ≡ fs
    → flat_map upload_rows_of (entries_between byte_order first Unbounded es) ≡ filter (is_upload_from (At start)) (flat_map upload_rows_of fs)
upload_rows_from first start begins es fs is =
    ap (flat_map upload_rows_of) (entries_from first start begins es) ∙ keys_filtered start es
    ∙ sym (filter-each (is_upload_from (At start)) upload_rows_of es) ∙ ap (λ es. filter (is_upload_from (At start)) (flat_map upload_rows_of es)) is

-- behind an upload
abbrev pub rows_above : {B : Type 0} → List ℕ → ℕ → Option (KeyUploads B) → List UploadRow
rows_above key id found = filter (λ row. nat_lt id row.id) (upload_rows_of (key, found_uploads found))

no_length : {A : Type 0} (xs : List A) → length xs ≡ 0 → xs ≡ []
no_length [] is = refl
no_length (x ∷ xs) is = absurd (omega arith)

none_above : (B : Type 0) (key : List ℕ) (id : ℕ) → rows_above {B = B} key id None ≡ []
none_above B key id =
    ap (λ es. filter (λ row. nat_lt id row.id) (map (upload_row {B = B} key) es)) (no_length (entries (empty {R = nat_cmp})) (sym (len-entries (empty {R = nat_cmp})) ∙ len-empty nat_cmp (Upload B)))

none_taken : {A : Type 0} (n : ℕ) → take {A = A} n [] ≡ []
none_taken zero = refl
none_taken (suc n) = refl

-- where the key has no uploads, nothing is told of it
pub nothing_above : {B : Type 0} (most : ℕ) (key : List ℕ) (id : ℕ) (found : Option (KeyUploads B)) → None ≡ found → [] ≡ take most (rows_above key id found)
nothing_above {B} most key id found none =
    sym (ap (take most) (none_above B key id) ∙ none_taken most) ∙ ap (λ found. take most (rows_above key id found)) none

same_by : {B : Type 0} (p q : UploadRow → Bool) (key : List ℕ) (es : List (ℕ × Upload B)) → ((e : ℕ × Upload B) → p (upload_row key e) ≡ q (upload_row key e)) → filter p (map (upload_row key) es) ≡ filter q (map (upload_row key) es)
same_by p q key [] is = refl
same_by p q key (e ∷ es) is =
    ap (λ b. cond b (upload_row key e ∷ filter p (map (upload_row key) es)) (filter p (map (upload_row key) es))) (is e)
    ∙ ap (λ rows. cond (q (upload_row key e)) (upload_row key e ∷ rows) rows) (same_by p q key es is)

-- where the key of an upload stands to that of the place decides
by_order : {B : Type 0} (key k : List ℕ) (id : ℕ) (r : Ordering) (e : ℕ × Upload B) → byte_order key k ≡ r → is_upload_from (BehindUpload key id) (upload_row k e) ≡ (if is_eq r then nat_lt id e.0 else is_lt r)
by_order key k id r e is =
    ap (λ b. if b then nat_lt id e.0 else is_lt (byte_order key k)) (texts_ties k key ∙ (eq_by_cmp_equiv nat_list_cmp_total).symm k key)
    ∙ ap (λ r. if is_eq r then nat_lt id e.0 else is_lt r) is

told_as : {B : Type 0} (key : List ℕ) (id : ℕ) (e : List ℕ × KeyUploads B) → Told upload_rows_of (rows_above key id) (none_above _ key id) key e (byte_order key e.0) ≡ filter (is_upload_from (BehindUpload key id)) (upload_rows_of e)
told_as key id e =
    let p = is_upload_from (BehindUpload key id) in
    elim (byte_order key e.0) as (λ r. byte_order key e.0 ≡ r → Told upload_rows_of (rows_above key id) (none_above _ key id) key e r ≡ filter p (upload_rows_of e)) [
      | Less ↦ λ is. sym (by_key p e.0 true (entries e.1) (λ f. by_order key e.0 id Less f is))
      | Equal ↦ λ is.
          ap (λ k. filter (λ row. nat_lt id row.id) (map (upload_row k) (entries e.1))) (tied_equal key e.0 (ap is_eq is))
          ∙ sym (same_by p (λ row. nat_lt id row.id) e.0 (entries e.1) (λ f. by_order key e.0 id Equal f is))
      | Greater ↦ λ is. sym (by_key p e.0 false (entries e.1) (λ f. by_order key e.0 id Greater f is))
    ] refl

pub upload_rows_behind : {B : Type 0} (uploads : Uploads B) (key : List ℕ) (id : ℕ)
    → rows_above key id (get uploads key) ++ flat_map upload_rows_of (filter (λ e. is_lt (byte_order key e.0)) (entries uploads)) ≡ filter (is_upload_from (BehindUpload key id)) (flat_map upload_rows_of (entries uploads))
upload_rows_behind uploads key id =
    told_in upload_rows_of (rows_above key id) (none_above _ key id) key uploads
    ∙ (λ i. flat_map (λ e. told_as key id e i) (entries uploads))
    ∙ sym (filter-each (is_upload_from (BehindUpload key id)) upload_rows_of (entries uploads))

pub rows_behind_key : {B : Type 0} (key : List ℕ) (es fs : List (List ℕ × KeyUploads B)) → es ≡ fs → flat_map upload_rows_of (entries_between byte_order (Excluded key) Unbounded es) ≡ flat_map upload_rows_of (filter (λ e. is_lt (byte_order key e.0)) fs)
rows_behind_key key es fs is = ap (flat_map upload_rows_of) (entries_from (Excluded key) (Behind key) (λ q. refl) es ∙ ap (filter (λ e. is_lt (byte_order key e.0))) is)
