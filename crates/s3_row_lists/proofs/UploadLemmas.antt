-- The uploads behind one, as two questions find them.
use Rattle.std.proofs.Common.{◌≡◌, refl, sym, ap, ap₂, ◌∙◌, Bool, true, false, cond, ◌&&◌, ◌||◌, nat_lt, ℕ, ℤ, pos, negsuc, List, ◌++◌, filter, map, take, Ordering, Less, Equal, Greater, int_lt, is_eq, is_lt, unsigned_abs, arith, ◌≤◌, ◌^◌, ◌-◌, ◌==◌, [], ◌∷◌, length, find, option_map, None, slice_get}
use Rattle.std.proofs.lemmas.Bool.{false≢true, and_parts, eqb-true}
use Rattle.std.proofs.lemmas.Int.{ints}
use Rattle.std.proofs.lemmas.List.{map-append}
use Rattle.std.proofs.lemmas.List.Elements.{recursion_from_All}
use Rattle.std.specs.Cmp.{IsTotalOrder, int_cmp_total, on_total, then_total, tied_itself, eq_by_cmp_equiv}
use Rattle.std.specs.Cmp.Lexicographic.{nat_list_cmp_total, texts_ties}
use Rattle.std.specs.Ordering.{ordering_then}
use Rattle.sqlite_keyed.specs.Lists.{sort_by}
use Rattle.sqlite_keyed.proofs.ListLemmas.{all_weaker, slice_get-filter}
use Rattle.sqlite_keyed.proofs.KeyedLemmas.{same_int}
use Rattle.s3_text.specs.Order.{byte_order}
use Rattle.s3_records.proofs.RowLemmas.{is_less}
use Rattle.s3_records.specs.OpenUploads.{is_upload_from, uploads_from}
use Rattle.s3_records.specs.declared.rows.Start.{Start}
use Rattle.s3_records.specs.declared.rows.UploadRow.{UploadRow}
use Rattle.s3_records.specs.declared.rows.UploadStart.{UploadStart}
use Rattle.s3_records.specs.declared.rows.UploadStart.TheVariants.{At, BehindUpload}
use Rattle.s3_rows.specs.Columns.{UploadColumns, Tables}
use Rattle.s3_rows.specs.Encoding.{Encoding}
use Rattle.s3_rows.specs.Finding.{is_upload_in, is_upload_to, is_upload}
use Rattle.s3_rows.specs.ListLaws.{by_id, by_key_and_id, upload_listed}
use Rattle.s3_rows.specs.Meaning.{catalogue_of}
use Rattle.s3_rows.specs.Soundness.{is_count, is_upload_row, AreSound}
use Rattle.s3_rows.proofs.EditLemmas.{filter_agreeing}
use Rattle.s3_rows.proofs.ListLawLemmas.{rows_list_uploads}
use Rattle.s3_rows.proofs.MeaningLemmas.{same_text-true, is_cons, is_cons-sort_by}
use Rattle.s3_stored_rows.specs.Changes.{upload_columns}
use Rattle.s3_stored_rows.specs.Queries.{is_key_behind, uploads_above, uploads_behind}
use Rattle.s3_stored_rows.specs.declared.rows.StoredUpload.{StoredUpload}
use Rattle.s3_row_lists.proofs.CutLemmas.{both_told, nothing_cut}
use Rattle.s3_row_lists.proofs.StartLemmas.{from_uploads}
use Rattle.s3_row_lists.proofs.SplitLemmas.{sort_by-parts}

by_id_total : IsTotalOrder by_id
by_id_total = on_total (λ (u : UploadColumns). u.id) int_cmp_total

by_key_and_id_total : IsTotalOrder by_key_and_id
by_key_and_id_total = then_total (on_total (λ (u : UploadColumns). u.key) nat_list_cmp_total) by_id_total

-- a number above another, in either of its forms
above_is : (z : ℤ) (n : ℕ) → is_count z ≡ true → nat_lt n (unsigned_abs z) ≡ int_lt (pos n) z
above_is (pos m) n count = refl
above_is (negsuc m) n count = absurd (false≢true count)

-- an upload to the key and above the id, or behind the key
abbrev IsAbove : List ℕ → List ℕ → ℕ → UploadColumns → Bool
IsAbove bucket key id u = is_upload_to bucket key u && int_lt (pos id) u.id

abbrev IsBehind : List ℕ → List ℕ → UploadColumns → Bool
IsBehind bucket key u = is_upload_in bucket u && is_key_behind key u.key

either_way : (here above : Bool) (o : Ordering) → (here && cond (is_eq o) above (is_lt o)) ≡ (((here && is_eq o) && above) || (here && is_lt o))
either_way false above Less = refl
either_way false above Equal = refl
either_way false above Greater = refl
either_way true above Less = refl
either_way true true Equal = refl
either_way true false Equal = refl
either_way true above Greater = refl

behind_is : (bucket key : List ℕ) (id : ℕ) (u : UploadColumns) → is_count u.id ≡ true
    → (is_upload_in bucket u && is_upload_from (BehindUpload key id) (upload_listed u)) ≡ (IsAbove bucket key id u || IsBehind bucket key u)
behind_is bucket key id u count =
    ap₂ (λ same above. is_upload_in bucket u && cond same above (is_lt (byte_order key u.key))) (texts_ties u.key key ∙ (eq_by_cmp_equiv nat_list_cmp_total).symm u.key key) (above_is u.id id count)
    ∙ either_way (is_upload_in bucket u) (int_lt (pos id) u.id) (byte_order key u.key)
    ∙ ap (λ same. ((is_upload_in bucket u && same) && int_lt (pos id) u.id) || IsBehind bucket key u) ((eq_by_cmp_equiv nat_list_cmp_total).symm key u.key)

module _ (bucket key : List ℕ) (id : ℕ) where
  its_key : (u : UploadColumns) → IsAbove bucket key id u ≡ true → u.key ≡ key
  its_key u is = same_text-true u.key key (and_parts (is_upload_in bucket u) _ (and_parts (is_upload_to bucket key u) _ is).0).1

  before : (u w : UploadColumns) → IsAbove bucket key id u ≡ true → IsBehind bucket key w ≡ true → by_key_and_id u w ≡ Less
  before u w above behind =
      ap (λ k. ordering_then (byte_order k w.key) (by_id u w)) (its_key u above)
      ∙ ap (λ o. ordering_then o (by_id u w)) (is_less (byte_order key w.key) (and_parts (is_upload_in bucket w) _ behind).1)

  among : (u w : UploadColumns) → IsAbove bucket key id u ≡ true → IsAbove bucket key id w ≡ true → by_key_and_id u w ≡ by_id u w
  among u w one two =
      ap₂ (λ k l. ordering_then (byte_order k l) (by_id u w)) (its_key u one) (its_key w two)
      ∙ ap (λ o. ordering_then o (by_id u w)) (tied_itself nat_list_cmp_total key)

  pub uploads_past : (t : Tables) → AreSound t
      → sort_by by_key_and_id (filter (λ u. is_upload_in bucket u && is_upload_from (BehindUpload key id) (upload_listed u)) t.uploads) ≡ uploads_above bucket key (pos id) t ++ uploads_behind bucket key t
  uploads_past t s =
      ap (sort_by by_key_and_id)
      (filter_agreeing (λ u. is_upload_in bucket u && is_upload_from (BehindUpload key id) (upload_listed u)) (λ u. IsAbove bucket key id u || IsBehind bucket key u) t.uploads
      (all_weaker (λ u. is_upload_row u ≡ true) _ (λ u fits. behind_is bucket key id u (and_parts (is_count u.id) _ fits).0) t.uploads (recursion_from_All _ t.uploads s.uploads.fit)))
      ∙ sort_by-parts by_key_and_id by_id by_key_and_id_total by_id_total (IsAbove bucket key id) (IsBehind bucket key) before among t.uploads

-- above the greatest id that a column has
past_greatest : (id : ℕ) (z : ℤ) → 2 ^ 63 ≤ id → int_lt (pos id) z ≡ true → int_lt (pos 9223372036854775807) z ≡ true
past_greatest id z large above = grind (arith, ints)

pub nothing_above : (bucket key : List ℕ) (id n : ℕ) (t : Tables) → 2 ^ 63 ≤ id → take n (uploads_above bucket key (pos 9223372036854775807) t) ≡ [] → take n (uploads_above bucket key (pos id) t) ≡ []
nothing_above bucket key id n t large none =
    nothing_cut by_id by_id_total (λ u. is_upload_to bucket key u && int_lt (pos 9223372036854775807) u.id) (IsAbove bucket key id)
    (λ u is. let parts = and_parts (is_upload_to bucket key u) _ is in ap₂ ◌&&◌ parts.0 (past_greatest id u.id large parts.1)) n t.uploads none

no_items : {X : Type 0} (xs : List X) → length xs ≡ 0 → xs ≡ []
no_items [] none = refl
no_items (x ∷ xs) none = absurd (omega arith)

-- where nothing was found, nothing is above
pub none_above : (bucket key : List ℕ) (id n : ℕ) (t : Tables) (found : List StoredUpload) (len : ℕ) → 2 ^ 63 ≤ id → len ≡ length found → (len == 0) ≡ true
    → map upload_columns found ≡ take n (uploads_above bucket key (pos 9223372036854775807) t) → map upload_columns found ≡ take n (uploads_above bucket key (pos id) t)
none_above bucket key id n t found len large is empty asked =
    let nothing = ap (map upload_columns) (no_items found (sym is ∙ eqb-true len 0 empty)) in
    nothing ∙ sym (nothing_above bucket key id n t large (sym asked ∙ nothing))

greatest_below : (id : ℕ) → 2 ^ 63 ≤ id → int_lt (pos 9223372036854775807) (pos id) ≡ true
greatest_below id large = grind (arith, ints)

nothing_sorted : (us : List UploadColumns) → take 1 (sort_by by_id us) ≡ [] → us ≡ []
nothing_sorted us none = empty us (sym (is_cons-sort_by by_id us) ∙ no_first (sort_by by_id us) none)
  where
    no_first : (ws : List UploadColumns) → take 1 ws ≡ [] → is_cons ws ≡ false
    no_first [] none = refl
    no_first (w ∷ ws) none = cc

    empty : (ws : List UploadColumns) → is_cons ws ≡ false → ws ≡ []
    empty [] none = refl
    empty (w ∷ ws) none = cc

-- and nothing has the id
pub no_upload : (bucket key : List ℕ) (id : ℕ) (t : Tables) (found : List StoredUpload) (len : ℕ) → 2 ^ 63 ≤ id → len ≡ length found → (len == 0) ≡ true
    → map upload_columns found ≡ take 1 (uploads_above bucket key (pos 9223372036854775807) t) → None ≡ option_map (λ (u : UploadColumns). u.row) (find (is_upload bucket key (pos id)) t.uploads)
no_upload bucket key id t found len large is empty asked =
    let above = nothing_cut by_id by_id_total (λ u. is_upload_to bucket key u && int_lt (pos 9223372036854775807) u.id) (is_upload bucket key (pos id))
    (λ u passes. let parts = and_parts (is_upload_to bucket key u) _ passes in ap₂ ◌&&◌ parts.0 (ap (int_lt (pos 9223372036854775807)) (same_int u.id (pos id) parts.1) ∙ greatest_below id large)) 1 t.uploads
    (sym asked ∙ ap (map upload_columns) (no_items found (sym is ∙ eqb-true len 0 empty))) in
    sym (ap (option_map (λ (u : UploadColumns). u.row))
    (sym (slice_get-filter (is_upload bucket key (pos id)) t.uploads) ∙ ap (λ l. slice_get l 0) (nothing_sorted (filter (is_upload bucket key (pos id)) t.uploads) above)))

pub listed_at : (e : Encoding) (t : Tables) (bucket b : List ℕ) (start : Start) (all : UploadStart) (n : ℕ) → AreSound t → b ≡ bucket → all ≡ At start
    → take n (map upload_listed (from_uploads b start t)) ≡ take n (uploads_from (catalogue_of e t) bucket all)
listed_at e t bucket b start all n s same is =
    ap (take n)
    (ap (λ x. map upload_listed (from_uploads x start t)) same
    ∙ sym (rows_list_uploads e t bucket (At start) s)
    ∙ ap (uploads_from (catalogue_of e t) bucket) (sym is))

pub listed_past : (e : Encoding) (t : Tables) (bucket key b k : List ℕ) (id i : ℕ) (all : UploadStart) (n : ℕ) → AreSound t → b ≡ bucket → k ≡ key → i ≡ id → all ≡ BehindUpload key id
    → take n (map upload_listed (uploads_above b k (pos i) t ++ uploads_behind b k t)) ≡ take n (uploads_from (catalogue_of e t) bucket all)
listed_past e t bucket key b k id i all n s same_bucket same_key same_id is =
    ap (take n)
    (ap₂ (λ x y. map upload_listed (uploads_above x y (pos i) t ++ uploads_behind x y t)) same_bucket same_key
    ∙ ap (λ m. map upload_listed (uploads_above bucket key (pos m) t ++ uploads_behind bucket key t)) same_id
    ∙ ap (map upload_listed) (sym (uploads_past bucket key id t s))
    ∙ sym (rows_list_uploads e t bucket (BehindUpload key id) s)
    ∙ ap (uploads_from (catalogue_of e t) bucket) (sym is))

-- those above, and then those behind
pub past_told : (bucket key : List ℕ) (id n : ℕ) (t later : Tables) (told last : List UploadRow) → later ≡ t → told ≡ take n (map upload_listed (uploads_above bucket key (pos id) t))
    → last ≡ told ++ take (n - length told) (map upload_listed (uploads_behind bucket key later))
    → last ≡ take n (map upload_listed (uploads_above bucket key (pos id) t ++ uploads_behind bucket key t))
past_told bucket key id n t later told last same one two =
    both_told n told last (map upload_listed (uploads_above bucket key (pos id) t)) (map upload_listed (uploads_behind bucket key t)) one
    (two ∙ ap (λ x. told ++ take (n - length told) (map upload_listed (uploads_behind bucket key x))) same)
    ∙ ap (take n) (sym (map-append upload_listed (uploads_above bucket key (pos id) t) (uploads_behind bucket key t)))
