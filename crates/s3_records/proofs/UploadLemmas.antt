-- The open uploads of a bucket, as one of them changes.
use Rattle.std.proofs.Common.{◌≡◌, ◌≢◌, refl, sym, ap, ◌∙◌, true, false, cond, ℕ, List, IsTrue, Option, Some, None, is_some, option_map, ◌==◌, ◌-◌, arith}
use Rattle.std.proofs.lemmas.Bool.{eqb-true, false≢true, false_from_ne_true}
use Rattle.std.specs.BTreeMap.{BTreeMap, WritesThrough}
use Rattle.std.specs.Cmp.{eq_by_cmp_equiv, nat_cmp_total}
use Rattle.std.specs.FinMap.{get, insert, remove, get-insert, get-remove, get-empty, len-empty, len-remove, empty, empty_of_len, from_entries, len, nat_cmp-IsAntisymmetric}
use Rattle.std.specs.Ordering.{nat_cmp, eq_by_cmp}
use Rattle.s3_uploads.specs.declared.part.Part.{Part}
use Rattle.s3_uploads.specs.declared.upload.Upload.{Upload}
use Rattle.s3_uploads.specs.Uploads.{with_part}
use Rattle.s3_records.specs.Catalogue.{KeyUploads, Uploads}
use Rattle.s3_records.specs.Changes.{with_id, with_uploads, with_upload}
use Rattle.s3_records.specs.OpenUploads.{found_uploads, uploads_under, upload_under}
use Rattle.s3_records.proofs.OrderedLemmas.{at, got, wrote}
use Rattle.s3_records.proofs.MapLemmas.{remove_absent, get-put_here, get-put_other, get-remove_here, get-remove_other}

-- ids that compare alike are one
pub same_id : (i id : ℕ) → eq_by_cmp nat_cmp i id ≡ true → i ≡ id
same_id i id tied = grind arith

other_id : (i id : ℕ) → i ≢ id → eq_by_cmp nat_cmp i id ≡ false
other_id i id differ = false_from_ne_true (eq_by_cmp nat_cmp i id) (λ tied. differ (same_id i id tied))

pub own_id : (id : ℕ) → eq_by_cmp nat_cmp id id ≡ true
own_id id = (eq_by_cmp_equiv nat_cmp_total).refl id

-- the upload that changes, and the others to its key
pub id_here : {B : Type 0} (under : KeyUploads B) (id : ℕ) (now : Option (Upload B)) → get (with_id under id now) id ≡ now
id_here under id None = get-remove nat_cmp_total under id id ∙ ap (λ b. cond b None (get under id)) (own_id id)
id_here under id (Some u) = get-insert nat_cmp_total under id u id ∙ ap (λ b. cond b (Some u) (get under id)) (own_id id)

pub id_elsewhere : {B : Type 0} (under : KeyUploads B) (id : ℕ) (now : Option (Upload B)) (i : ℕ) → i ≢ id → get (with_id under id now) i ≡ get under i
id_elsewhere under id None i differ = get-remove nat_cmp_total under id i ∙ ap (λ b. cond b None (get under i)) (other_id i id differ)
id_elsewhere under id (Some u) i differ = get-insert nat_cmp_total under id u i ∙ ap (λ b. cond b (Some u) (get under i)) (other_id i id differ)

-- the uploads to the key that changes, and those to the others
under_here : {B : Type 0} (uploads : Uploads B) (key : List ℕ) (under : KeyUploads B) → uploads_under (with_uploads uploads key under) key ≡ under
under_here uploads key under =
    elim (len under == 0) as (λ b. (len under == 0) ≡ b → uploads_under (cond b (remove uploads key) (insert uploads key under)) key ≡ under) [
      | true ↦ λ none. ap found_uploads (get-remove_here uploads key) ∙ sym (empty_of_len under (eqb-true (len under) 0 none))
      | false ↦ λ some. ap found_uploads (get-put_here uploads key under)
    ] refl

under_other : {B : Type 0} (uploads : Uploads B) (key : List ℕ) (under : KeyUploads B) (other : List ℕ) → other ≢ key → uploads_under (with_uploads uploads key under) other ≡ uploads_under uploads other
under_other uploads key under other differ =
    elim (len under == 0) as (λ b. uploads_under (cond b (remove uploads key) (insert uploads key under)) other ≡ uploads_under uploads other) [
      | true ↦ ap found_uploads (get-remove_other uploads key other differ)
      | false ↦ ap found_uploads (get-put_other uploads key under other differ)
    ]

pub upload_here : {B : Type 0} (uploads : Uploads B) (key : List ℕ) (id : ℕ) (now : Option (Upload B)) → upload_under (with_upload uploads key id now) key id ≡ now
upload_here uploads key id now =
    ap (λ under. get under id) (under_here uploads key (with_id (uploads_under uploads key) id now)) ∙ id_here (uploads_under uploads key) id now

pub same_key : {B : Type 0} (uploads : Uploads B) (key : List ℕ) (id : ℕ) (now : Option (Upload B)) (i : ℕ) → i ≢ id → upload_under (with_upload uploads key id now) key i ≡ upload_under uploads key i
same_key uploads key id now i differ =
    ap (λ under. get under i) (under_here uploads key (with_id (uploads_under uploads key) id now)) ∙ id_elsewhere (uploads_under uploads key) id now i differ

pub other_key : {B : Type 0} (uploads : Uploads B) (key : List ℕ) (id : ℕ) (now : Option (Upload B)) (k : List ℕ) (i : ℕ) → k ≢ key → upload_under (with_upload uploads key id now) k i ≡ upload_under uploads k i
other_key uploads key id now k i differ = ap (λ under. get under i) (under_other uploads key (with_id (uploads_under uploads key) id now) k differ)

-- where a key keeps some uploads, or has none
pub with_rest : {B : Type 0} (uploads : Uploads B) (key : List ℕ) (under : KeyUploads B) → (len under == 0) ≡ false → insert uploads key under ≡ with_uploads uploads key under
with_rest uploads key under some = ap (λ b. cond b (remove uploads key) (insert uploads key under)) (sym some)

pub with_none : {B : Type 0} (uploads : Uploads B) (key : List ℕ) (under : KeyUploads B) → (len under == 0) ≡ true → remove uploads key ≡ with_uploads uploads key under
with_none uploads key under none = ap (λ b. cond b (remove uploads key) (insert uploads key under)) (sym none)

some_left : {B : Type 0} (under : KeyUploads B) (id : ℕ) → IsTrue (is_some (get under id)) → (len under == 0) ≡ false
some_left under id there =
    elim (len under == 0) as (λ b. (len under == 0) ≡ b → b ≡ false) [
      | true ↦ λ none. absurd (false≢true (sym (ap is_some (ap (λ m. get m id) (empty_of_len under (eqb-true (len under) 0 none)) ∙ get-empty nat_cmp id)) ∙ there))
      | false ↦ λ some. refl
    ] refl

-- one that is there keeps its key
with_kept : {B : Type 0} (uploads : Uploads B) (key : List ℕ) (under : KeyUploads B) (id : ℕ) (now : Option (Upload B)) → IsTrue (is_some now) → insert uploads key (with_id under id now) ≡ with_uploads uploads key (with_id under id now)
with_kept uploads key under id now there = with_rest uploads key (with_id under id now) (some_left (with_id under id now) id (ap is_some (id_here under id now) ∙ there))

-- to drop one that is not there leaves all
remove_none : (B : Type 0) (id : ℕ) → (len (with_id {B = B} empty id None) == 0) ≡ true
remove_none B id =
    elim (len (with_id {B = B} empty id None) == 0) as (λ b. (len (with_id {B = B} empty id None) == 0) ≡ b → b ≡ true) [
      | true ↦ λ none. refl
      | false ↦ λ some. let is = len-remove nat_cmp_total (empty {X = Upload B}) id ∙ ap (λ found. cond (is_some found) (len (empty {X = Upload B} {R = nat_cmp}) - 1) (len (empty {X = Upload B} {R = nat_cmp}))) (get-empty nat_cmp id) ∙ len-empty nat_cmp (Upload B) in
          absurd (false≢true (sym some ∙ ap (λ n. n == 0) is))
    ] refl

pub drop_none : {B : Type 0} (uploads : Uploads B) (key : List ℕ) (id : ℕ) → get uploads key ≡ None → uploads ≡ with_upload uploads key id None
drop_none uploads key id absent =
    sym (remove_absent uploads key absent)
    ∙ with_none uploads key (with_id empty id None) (remove_none _ id)
    ∙ ap (λ found. with_uploads uploads key (with_id (found_uploads found) id None)) (sym absent)

-- a part is put to an upload
pub part_written : {B : Type 0} (before after : BTreeMap ℕ (Upload B)) (m : KeyUploads B) (k id : ℕ) (old new : Upload B) (n : ℕ) (part : Part B) → from_entries before.entries ≡ m → Some old ≡ at nat_cmp before.entries k
    → WritesThrough nat_cmp (nat_cmp k) before new after → k ≡ id → new ≡ with_part n part old → from_entries after.entries ≡ with_id m id (option_map (with_part n part) (get m id))
part_written before after m k id old new n part view found writes key is =
    wrote nat_cmp_total nat_cmp-IsAntisymmetric before after m k old new view found writes
    ∙ ap (insert m k) is
    ∙ ap (λ found. with_id m k (option_map (with_part n part) found)) (sym (got nat_cmp_total before.entries m k (Some old) view found))
    ∙ ap (λ i. with_id m i (option_map (with_part n part) (get m i))) key

pub none_open : {B : Type 0} (uploads : Uploads B) (key : List ℕ) (id : ℕ) → get uploads key ≡ None → IsTrue (is_some (upload_under uploads key id)) → ⊥
none_open uploads key id absent there =
    false≢true (sym (ap (λ found. is_some (get (found_uploads found) id)) absent ∙ ap is_some (get-empty nat_cmp id)) ∙ there)

pub some_after : {X Y : Type 0} (f : X → Y) (found : Option X) → IsTrue (is_some found) → IsTrue (is_some (option_map f found))
some_after f None there = there
some_after f (Some x) there = refl

-- the uploads to a key, after one of them changed that is there then
pub kept : {B : Type 0} (uploads : Uploads B) (key : List ℕ) (id : ℕ) (next : Option (Upload B) → Option (Upload B)) (found : Option (KeyUploads B)) (new : KeyUploads B) → get uploads key ≡ found
    → new ≡ with_id (found_uploads found) id (next (get (found_uploads found) id)) → IsTrue (is_some (next (upload_under uploads key id)))
    → insert uploads key new ≡ with_upload uploads key id (next (upload_under uploads key id))
kept uploads key id next found new there is some =
    ap (insert uploads key) (is ∙ ap (λ found. with_id (found_uploads found) id (next (get (found_uploads found) id))) (sym there))
    ∙ with_kept uploads key (uploads_under uploads key) id (next (upload_under uploads key id)) some
