-- The uploads of a bucket, as rows of uploads and of parts change.
use Rattle.std.proofs.Common.{◌≡◌, ◌≢◌, refl, sym, ap, ap₂, subst, ◌∙◌, Bool, true, false, cond, ◌&&◌, ℕ, ℤ, pos, negsuc, ◌<ℤ◌, List, [], ◌∷◌, filter, find, Option, Some, option_map, Less, Equal, Greater, int_eq, int_le, is_eq, unsigned_abs, arith}
use Rattle.std.proofs.lemmas.Bool.{false≢true, false_from_ne_true, and_parts}
use Rattle.std.proofs.lemmas.Bool.Decides.{nat_tests}
use Rattle.std.proofs.lemmas.Int.{ints}
use Rattle.std.specs.BTreeMap.{insert_entry}
use Rattle.std.specs.Cmp.{nat_cmp_total}
use Rattle.std.specs.Cmp.Lexicographic.{nat_list_cmp_total}
use Rattle.std.specs.FinMap.{get, entries, entries-insert, nat_cmp-IsAntisymmetric}
use Rattle.std.specs.FinMap.Entries as Entries
use Rattle.std.specs.List.{AllByRecursion}
use Rattle.std.specs.Ordering.{nat_cmp, match_ordering}
use Rattle.sqlite_keyed.specs.Keyed.{IsKeyedBy}
use Rattle.sqlite_keyed.proofs.KeyedLemmas.{same_int}
use Rattle.sqlite_keyed.proofs.ListLemmas.{all_weaker}
use Rattle.s3_uploads.specs.declared.part.Part.{Part}
use Rattle.s3_uploads.specs.declared.upload.Upload.{Upload}
use Rattle.s3_uploads.specs.Parts.{part_put}
use Rattle.s3_records.specs.Changes.{with_id, with_uploads, with_upload, upload_change_in, with_bucket}
use Rattle.s3_records.specs.OpenUploads.{uploads_under, upload_under}
use Rattle.s3_rows.specs.Columns.{BucketColumns, UploadColumns, PartColumns, Tables}
use Rattle.s3_rows.specs.Encoding.{Encoding}
use Rattle.s3_rows.specs.Finding.{same_text, is_named, is_upload_to, is_upload, is_sent_to, is_part}
use Rattle.s3_rows.specs.Meaning.{collected, keys_in, part_of, parts_of, upload_of, uploads_to, uploads_in, bucket_of, catalogue_of}
use Rattle.s3_rows.specs.Soundness.{is_count, is_upload_row, is_part_row}
use Rattle.s3_rows.proofs.CollectedLemmas.{is_written, same_by_get, get-collected}
use Rattle.s3_rows.proofs.EditLemmas.{find_passes, find_has, find_both, find_agreeing}
use Rattle.s3_rows.proofs.MeaningLemmas.{texts_differ, same_text-true, get-uploads, get-uploads_to, uploads_under-uploads, filled, write_id, write_uploads, bucket_rewritten}

-- an integer that isn't below 0 is that of a number
pub count_is : (z : ℤ) (n : ℕ) → is_count z ≡ true → is_eq (nat_cmp (unsigned_abs z) n) ≡ int_eq z (pos n)
count_is (pos m) n count = grind (arith, ints, nat_tests)
count_is (negsuc m) n count = absurd (false≢true count)

count_pos : (m : ℕ) → is_count (pos m) ≡ true
count_pos m = grind (arith, ints, nat_tests)

pub part_counts : (z : ℤ) → (int_le (pos 1) z && int_le z (pos 10000)) ≡ true → is_count z ≡ true
part_counts (pos m) fits = count_pos m
part_counts (negsuc m) fits = absurd (false≢true fits)

pub count_pos_abs : (z : ℤ) → is_count z ≡ true → z ≡ pos (unsigned_abs z)
count_pos_abs (pos m) count = refl
count_pos_abs (negsuc m) count = absurd (false≢true count)

-- an upload stands at one place
pub one_upload_place : (u : UploadColumns) (bucket key : List ℕ) (id : ℕ) (b k : List ℕ) (i : ℕ) → ¬ ((b ≡ bucket) × (k ≡ key) × (i ≡ id)) → is_upload b k (pos i) u ≡ true → is_upload bucket key (pos id) u ≡ false
one_upload_place u bucket key id b k i apart is = false_from_ne_true (is_upload bucket key (pos id) u) (λ other.
    let one = and_parts (is_upload_to b k u) _ is in
    let two = and_parts (is_upload_to bucket key u) _ other in
    let one_key = and_parts (same_text u.bucket b) _ one.0 in
    let two_key = and_parts (same_text u.bucket bucket) _ two.0 in
    let same : pos i ≡ pos id = sym (same_int u.id (pos i) one.1) ∙ same_int u.id (pos id) two.1 in
    let number : i ≡ id = cc in
    apart (sym (same_text-true u.bucket b one_key.0) ∙ same_text-true u.bucket bucket two_key.0, sym (same_text-true u.key k one_key.1) ∙ same_text-true u.key key two_key.1, number))

-- a row that has the rowid of one that is found is that one
pub one_row : {X : Type 0} (key : X → ℤ) (q : X → Bool) (xs : List X) (w : X) → IsKeyedBy key xs → find q xs ≡ Some w → AllByRecursion (λ x. int_eq (key x) (key w) ≡ true → x ≡ w) xs
one_row key q [] w up found = tt
one_row {X} key q (x ∷ xs) w up found = go (q x) found (one_row key q xs w up.1)
  where
    go : (b : Bool) → cond b (Some x) (find q xs) ≡ Some w → (find q xs ≡ Some w → AllByRecursion (λ y. int_eq (key y) (key w) ≡ true → y ≡ w) xs) → AllByRecursion (λ y. int_eq (key y) (key w) ≡ true → y ≡ w) (x ∷ xs)
    go true is more =
        let same : x ≡ w = cc in (
          (λ _. same),
          all_weaker _ (λ y. int_eq (key y) (key w) ≡ true → y ≡ w)
              (λ y above tied. absurd (let k = same_int (key y) (key w) tied in let j : key x ≡ key w = ap key same in omega (arith, ints))) xs up.0,
        )
    go false is more =
        let above : key x <ℤ key w = find_has (λ y. key x <ℤ key y) q xs w up.0 is in
        ((λ tied. absurd (let k = same_int (key x) (key w) tied in omega (arith, ints))), more is)

-- the entries of a map as a tree writes them
put_entry : {X : Type 0} (n : ℕ) (v : X) (es : List (ℕ × X)) → Entries.put nat_cmp n v es ≡ insert_entry nat_cmp es n v
put_entry n v [] = refl
put_entry n v (e ∷ es) =
    elim (nat_cmp n e.0) as (λ o. Entries.by_order o ((n, v) ∷ e ∷ es) ((e.0, v) ∷ es) (e ∷ Entries.put nat_cmp n v es) ≡ match_ordering o ((n, v) ∷ e ∷ es) ((e.0, v) ∷ es) (e ∷ insert_entry nat_cmp es n v)) [
      | Less ↦ refl
      | Equal ↦ refl
      | Greater ↦ ap (λ l. e ∷ l) (put_entry n v es)
    ]

module _ (e : Encoding) where
  -- the upload of an id, where the ids of rows are in range
  pub get-upload : (us : List UploadColumns) (ps : List PartColumns) (bucket key : List ℕ) (id : ℕ) → AllByRecursion (λ u. is_upload_row u ≡ true) us
      → get (uploads_to e us ps bucket key) id ≡ option_map (upload_of e ps) (find (is_upload bucket key (pos id)) us)
  get-upload us ps bucket key id fit =
      get-uploads_to e us ps bucket key id
      ∙ ap (option_map (upload_of e ps)) (find_both (is_upload_to bucket key) (λ u. is_eq (nat_cmp (unsigned_abs u.id) id)) us
      ∙ find_agreeing (λ u. is_upload_to bucket key u && is_eq (nat_cmp (unsigned_abs u.id) id)) (is_upload bucket key (pos id)) us
      (all_weaker _ (λ u. (is_upload_to bucket key u && is_eq (nat_cmp (unsigned_abs u.id) id)) ≡ is_upload bucket key (pos id) u)
      (λ u fits. ap (λ b. is_upload_to bucket key u && b) (count_is u.id id (and_parts (is_count u.id) _ fits).0)) us fit))

  -- the upload at a place, as its row tells it
  abbrev pub upload_told : List UploadColumns → List PartColumns → List ℕ → List ℕ → ℕ → Option (Upload (List ℕ))
  upload_told us ps b k i = option_map (upload_of e ps) (find (is_upload b k (pos i)) us)

  -- the uploads of a bucket, where one changed
  module _ (us ws : List UploadColumns) (ps rs : List PartColumns) (fit_us : AllByRecursion (λ u. is_upload_row u ≡ true) us) (fit_ws : AllByRecursion (λ u. is_upload_row u ≡ true) ws) where
    same_to : (b k : List ℕ) → ((i : ℕ) → upload_told ws rs b k i ≡ upload_told us ps b k i) → uploads_to e ws rs b k ≡ uploads_to e us ps b k
    same_to b k same = same_by_get nat_cmp_total nat_cmp-IsAntisymmetric (uploads_to e ws rs b k) (uploads_to e us ps b k)
        (λ i. get-upload ws rs b k i fit_ws ∙ same i ∙ sym (get-upload us ps b k i fit_us))

    pub same_in : (b : List ℕ) → ((k : List ℕ) (i : ℕ) → upload_told ws rs b k i ≡ upload_told us ps b k i) → uploads_in e ws rs b ≡ uploads_in e us ps b
    same_in b same = same_by_get nat_list_cmp_total texts_differ (uploads_in e ws rs b) (uploads_in e us ps b)
        (λ k. get-uploads e ws rs b k ∙ ap filled (same_to b k (same k)) ∙ sym (get-uploads e us ps b k))

    written_in : (name key : List ℕ) (id : ℕ) (next : Option (Upload (List ℕ)) → Option (Upload (List ℕ))) → upload_told ws rs name key id ≡ next (upload_told us ps name key id)
        → ((k : List ℕ) (i : ℕ) → ¬ ((k ≡ key) × (i ≡ id)) → upload_told ws rs name k i ≡ upload_told us ps name k i)
        → uploads_in e ws rs name ≡ with_upload (uploads_in e us ps name) key id (next (upload_under (uploads_in e us ps name) key id))
    written_in name key id next here there =
        let under : upload_under (uploads_in e us ps name) key id ≡ upload_told us ps name key id = ap (λ m. get m id) (uploads_under-uploads e us ps name key) ∙ get-upload us ps name key id fit_us in
        let to : uploads_to e ws rs name key ≡ with_id (uploads_under (uploads_in e us ps name) key) id (next (upload_under (uploads_in e us ps name) key id)) =
        is_written nat_cmp_total nat_cmp-IsAntisymmetric (uploads_to e us ps name key) (uploads_to e ws rs name key) id (next (upload_told us ps name key id))
        (get-upload ws rs name key id fit_ws ∙ here)
        (λ i other. get-upload ws rs name key i fit_ws ∙ there key i (λ same. other same.1) ∙ sym (get-upload us ps name key i fit_us))
        ∙ write_id (uploads_to e us ps name key) id (next (upload_told us ps name key id))
        ∙ ap₂ (λ m o. with_id m id (next o)) (sym (uploads_under-uploads e us ps name key)) (sym under) in
        is_written nat_list_cmp_total texts_differ (uploads_in e us ps name) (uploads_in e ws rs name) key (filled (uploads_to e ws rs name key))
        (get-uploads e ws rs name key)
        (λ k other. get-uploads e ws rs name k ∙ ap filled (same_to name k (λ i. there k i (λ same. other same.0))) ∙ sym (get-uploads e us ps name k))
        ∙ write_uploads (uploads_in e us ps name) key (uploads_to e ws rs name key)
        ∙ ap (with_uploads (uploads_in e us ps name) key) to

  -- tables of which one upload changed
  pub upload_changed : (t : Tables) (ws : List UploadColumns) (rs : List PartColumns) (name key : List ℕ) (id : ℕ) (next : Option (Upload (List ℕ)) → Option (Upload (List ℕ)))
      → AllByRecursion (λ u. is_upload_row u ≡ true) t.uploads → AllByRecursion (λ u. is_upload_row u ≡ true) ws
      → upload_told ws rs name key id ≡ next (upload_told t.uploads t.parts name key id)
      → ((b k : List ℕ) (i : ℕ) → ¬ ((b ≡ name) × (k ≡ key) × (i ≡ id)) → upload_told ws rs b k i ≡ upload_told t.uploads t.parts b k i)
      → catalogue_of e (record t { uploads = ws; parts = rs }) ≡ with_bucket (catalogue_of e t) name (option_map (upload_change_in key id next) (get (catalogue_of e t) name))
  upload_changed t ws rs name key id next fit_us fit_ws here there =
      bucket_rewritten e t (record t { uploads = ws; parts = rs }) name (upload_change_in key id next) refl at_name
      (λ b other i. record { made = unsigned_abs b.made; versioning = e.versioning_in b.mode; keys = keys_in e t.versions b.name; uploads = same_in t.uploads ws t.parts rs fit_us fit_ws b.name (λ k j. there b.name k j (λ same. other same.0)) i })
    where
      at_name : (b : BucketColumns) → find (is_named name) t.buckets ≡ Some b → bucket_of e (record t { uploads = ws; parts = rs }) b ≡ upload_change_in key id next (bucket_of e t b)
      at_name b found =
          let named : b.name ≡ name = same_text-true b.name name (find_passes (is_named name) t.buckets b found) in
          let uploads = written_in t.uploads ws t.parts rs fit_us fit_ws name key id next here (λ k i apart. there name k i (λ same. apart (same.1, same.2))) in
          let uploads_named : uploads_in e ws rs b.name ≡ with_upload (uploads_in e t.uploads t.parts b.name) key id (next (upload_under (uploads_in e t.uploads t.parts b.name) key id)) =
          subst (λ n. uploads_in e ws rs n ≡ with_upload (uploads_in e t.uploads t.parts n) key id (next (upload_under (uploads_in e t.uploads t.parts n) key id))) (sym named) uploads in
          λ i. record { made = unsigned_abs b.made; versioning = e.versioning_in b.mode; keys = keys_in e t.versions b.name; uploads = uploads_named i }

  -- the parts of an upload, as its rows change
  pub parts_same : (ps rs : List PartColumns) (upload : ℤ) → filter (is_sent_to upload) rs ≡ filter (is_sent_to upload) ps → parts_of e rs upload ≡ parts_of e ps upload
  unfolding parts_of
  parts_same ps rs upload same = ap (λ l. entries (collected nat_cmp (λ p. unsigned_abs p.part) (part_of e) l)) same

  get-part : (ps : List PartColumns) (upload : ℤ) (n : ℕ) → AllByRecursion (λ p. is_part_row p ≡ true) ps
      → get (collected nat_cmp (λ p. unsigned_abs p.part) (part_of e) (filter (is_sent_to upload) ps)) n ≡ option_map (part_of e) (find (is_part upload (pos n)) ps)
  get-part ps upload n fit =
      get-collected nat_cmp_total nat_cmp-IsAntisymmetric (λ p. unsigned_abs p.part) (part_of e) (filter (is_sent_to upload) ps) n
      ∙ ap (option_map (part_of e)) (find_both (is_sent_to upload) (λ p. is_eq (nat_cmp (unsigned_abs p.part) n)) ps
      ∙ find_agreeing (λ p. is_sent_to upload p && is_eq (nat_cmp (unsigned_abs p.part) n)) (is_part upload (pos n)) ps
      (all_weaker _ (λ p. (is_sent_to upload p && is_eq (nat_cmp (unsigned_abs p.part) n)) ≡ is_part upload (pos n) p)
      (λ p fits. ap (λ b. is_sent_to upload p && b) (count_is p.part n (part_counts p.part (and_parts _ _ fits).0))) ps fit))

  pub parts_put : (ps rs : List PartColumns) (upload : ℤ) (n : ℕ) (part : Part (List ℕ)) → AllByRecursion (λ p. is_part_row p ≡ true) ps → AllByRecursion (λ p. is_part_row p ≡ true) rs
      → option_map (part_of e) (find (is_part upload (pos n)) rs) ≡ Some part
      → ((m : ℕ) → m ≢ n → find (is_part upload (pos m)) rs ≡ find (is_part upload (pos m)) ps)
      → parts_of e rs upload ≡ part_put n part (parts_of e ps upload)
  unfolding parts_of
  parts_put ps rs upload n part fit_ps fit_rs here there =
      ap entries (is_written nat_cmp_total nat_cmp-IsAntisymmetric
      (collected nat_cmp (λ p. unsigned_abs p.part) (part_of e) (filter (is_sent_to upload) ps)) (collected nat_cmp (λ p. unsigned_abs p.part) (part_of e) (filter (is_sent_to upload) rs)) n (Some part)
      (get-part rs upload n fit_rs ∙ here)
      (λ m other. get-part rs upload m fit_rs ∙ ap (option_map (part_of e)) (there m other) ∙ sym (get-part ps upload m fit_ps)))
      ∙ entries-insert nat_cmp_total (collected nat_cmp (λ p. unsigned_abs p.part) (part_of e) (filter (is_sent_to upload) ps)) n part
      ∙ put_entry n part (entries (collected nat_cmp (λ p. unsigned_abs p.part) (part_of e) (filter (is_sent_to upload) ps)))
