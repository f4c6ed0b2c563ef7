-- The rows of the uploads in a bucket stand by key, and of one key by id.
use Rattle.std.proofs.Common.{◌≡◌, ◌⊎◌, inl, inr, refl, sym, ap, subst, ◌∙◌, Bool, true, false, ℕ, ◌<◌, nat_lt, List, [], ◌∷◌, ◌++◌, filter, take, drop, Option, Some, None, append_assoc, arith}
use Rattle.std.specs.Str.{bytes_eq}
use Rattle.std.specs.Cmp.Lexicographic.{bytes_decides}
use Rattle.std.proofs.lemmas.Bool.{cases_Bool, false_from_ne_true}
use Rattle.std.proofs.lemmas.Bool.Decides.{nat_tests}
use Rattle.s3_records.specs.Catalogue.{Catalogue}
use Rattle.s3_records.specs.Laws.{UploadsFollow}
use Rattle.s3_records.specs.OpenUploads.{upload_rows, is_upload_from, uploads_from}
use Rattle.s3_records.specs.declared.rows.UploadRow.{UploadRow}
use Rattle.s3_records.specs.declared.rows.UploadStart.TheVariants.{BehindUpload}
use Rattle.s3_listings.specs.declared.asked.UploadsAsked.{UploadsAsked}
use Rattle.s3_listings.specs.declared.row_page.RowItem.{RowItem}
use Rattle.s3_listings.specs.declared.row_page.RowItem.TheVariants.{Row, CommonPrefix}
use Rattle.s3_listings.specs.Laws.{Joins, behind_upload, UploadPagesJoin}
use Rattle.s3_prefixes.specs.Items.{is_before}
use Rattle.s3_listings.specs.Pages.{last_of}
use Rattle.s3_listings.specs.Sought.{UpTo, AreByKey, AreBehind, is_later}
use Rattle.s3_listings.specs.Uploads.{marked, uploads_asked, uploads_page}
use Rattle.s3_listings.proofs.BehindLemmas.{FilterCut, filter_cut, member_cut}
use Rattle.s3_listings.proofs.FilterLemmas.{filter_all, filter_stronger}
use Rattle.s3_listings.proofs.JoinLemmas.{page_joins, all_join}
use Rattle.s3_listings.proofs.MemberLemmas.{Member, each_from, member-filter, member_from_contains, contains_from_member, paired-filter}
use Rattle.s3_listings.proofs.OrderLemmas.{before_trans, not_before_itself, not_back, same_not_before, before_up_to}
use Rattle.s3_listings.proofs.RolledPageLemmas.{rest_of_page}

-- the key of a row
abbrev pub key_of : UploadRow → List ℕ
key_of row = row.key

-- a row is behind a key and an id
abbrev pub is_behind : List ℕ → ℕ → UploadRow → Bool
is_behind key id row = is_upload_from (BehindUpload key id) row

-- it has that key and a greater id, or a later key
abbrev pub Behind : List ℕ → ℕ → UploadRow → Type 0
Behind key id row = ((row.key ≡ key) × (nat_lt id row.id ≡ true)) ⊎ (is_before key row.key ≡ true)

behind_from : (key : List ℕ) (id : ℕ) (row : UploadRow) → is_behind key id row ≡ true → Behind key id row
behind_from key id row is = elim (cases_Bool (bytes_eq row.key key)) [
  | inl same ↦ inl ((bytes_decides row.key key).0 same, rw same at is)
  | inr other ↦ inr (rw other at is)
]

other_keys : (key later : List ℕ) → is_before key later ≡ true → bytes_eq later key ≡ false
other_keys key later before =
    false_from_ne_true (bytes_eq later key) (λ same. not_before_itself key (subst (λ k. is_before key k ≡ true) ((bytes_decides later key).0 same) before))

is_behind_from : (key : List ℕ) (id : ℕ) (row : UploadRow) → Behind key id row → is_behind key id row ≡ true
is_behind_from key id row (inl (same, above)) = rw ((bytes_decides row.key key).1 same) above
is_behind_from key id row (inr before) = rw (other_keys key row.key before) before

-- then its key isn't sooner
not_sooner : (key : List ℕ) (id : ℕ) (row : UploadRow) → is_behind key id row ≡ true → is_before row.key key ≡ false
not_sooner key id row is = elim (behind_from key id row is) [
  | inl at ↦ same_not_before row.key key at.0
  | inr later ↦ not_back key row.key later
]

above_trans : (a b c : ℕ) → nat_lt a b ≡ true → nat_lt b c ≡ true → nat_lt a c ≡ true
above_trans a b c first second = grind (arith, nat_tests)

-- what is behind a row is behind all that this is behind
further : (key : List ℕ) (id : ℕ) (row later : UploadRow) → Behind key id row → Behind row.key row.id later → Behind key id later
further key id row later (inl (same, above)) (inl (again, more)) = inl (again ∙ same, above_trans id row.id later.id above more)
further key id row later (inl (same, above)) (inr before) = inr (subst (λ k. is_before k later.key ≡ true) same before)
further key id row later (inr before) (inl (again, more)) = inr (subst (λ k. is_before key k ≡ true) (sym again) before)
further key id row later (inr before) (inr more) = inr (before_trans key row.key later.key before more)

from_further : (key : List ℕ) (id : Option ℕ) (row later : UploadRow) → is_upload_from (marked key id) row ≡ true → is_behind row.key row.id later ≡ true → is_upload_from (marked key id) later ≡ true
from_further key None row later from more = before_up_to key row.key later.key from (not_sooner row.key row.id later more)
from_further key (Some id) row later from more =
    is_behind_from key id later (further key id row later (behind_from key id row from) (behind_from row.key row.id later more))

-- what is behind a marker, by its key
marked_later : (key : List ℕ) (id : Option ℕ) (row : UploadRow) → is_before key row.key ≡ true → is_upload_from (marked key id) row ≡ true
marked_later key None row later = later
marked_later key (Some id) row later = is_behind_from key id row (inr later)

marked_not_sooner : (key : List ℕ) (id : Option ℕ) (row : UploadRow) → is_upload_from (marked key id) row ≡ true → is_before row.key key ≡ false
marked_not_sooner key None row from = not_back key row.key from
marked_not_sooner key (Some id) row from = not_sooner key id row from

-- rows of which each is followed by those that are behind it
module _ {B : Type 0} (follow : UploadsFollow B) (c : Catalogue B) (name : List ℕ) where
  rest_by_key : (front rest : List UploadRow) → upload_rows c name ≡ front ++ rest → AreByKey key_of rest
  rest_by_key front [] is = tt
  rest_by_key front (row ∷ rest) is = (
    each_from (UpTo key_of row) rest (λ later is_in.
        not_sooner row.key row.id later (member-filter (is_behind row.key row.id) (upload_rows c name) later (subst (Member later) (sym (follow c name front rest row is)) is_in)).1),
    rest_by_key (front ++ row ∷ []) rest (is ∙ sym (append_assoc front (row ∷ []) rest)),
  )

  pub by_key : AreByKey key_of (upload_rows c name)
  by_key = rest_by_key [] (upload_rows c name) refl

  pub behind_marker : (key : List ℕ) (id : Option ℕ) → AreBehind key_of key (upload_rows c name) (uploads_from c name (marked key id))
  behind_marker key id = record {
    order = paired-filter (UpTo key_of) (is_upload_from (marked key id)) (upload_rows c name) by_key;
    later = filter_stronger (is_later key_of key) (is_upload_from (marked key id)) (upload_rows c name) (marked_later key id);
    none_before = λ row is_in.
        marked_not_sooner key id row (member-filter (is_upload_from (marked key id)) (upload_rows c name) row (member_from_contains _ row is_in)).1;
    known = λ row is_in.
        (row, contains_from_member _ row (member-filter (is_upload_from (marked key id)) (upload_rows c name) row (member_from_contains _ row is_in)).0, refl);
  }

  -- behind one of the rows of a list that goes on behind a marker stand those that follow it
  follows : (key : List ℕ) (id : Option ℕ) (front : List UploadRow) (row : UploadRow) (rest : List UploadRow) → uploads_from c name (marked key id) ≡ front ++ row ∷ rest
      → uploads_from c name (BehindUpload row.key row.id) ≡ rest
  follows key id front row rest is =
      let from : UploadRow → Bool = is_upload_from (marked key id) in
      let cut : FilterCut from (upload_rows c name) row rest = filter_cut from (upload_rows c name) front row rest is in
      let here : from row ≡ true = (member-filter from (upload_rows c name) row (subst (Member row) (sym is) (member_cut front row rest))).1 in
      let behind : uploads_from c name (BehindUpload row.key row.id) ≡ cut.back = follow c name cut.front cut.back row cut.cut in
      behind ∙ sym (filter_all from cut.back (λ later is_in.
      from_further key id row later here (member-filter (is_behind row.key row.id) (upload_rows c name) later (subst (Member later) (sym behind) is_in)).1)) ∙ cut.left

  -- what is asked for behind the last item of a page is what the page leaves
  rest_of_uploads : (asked : UploadsAsked) (last : RowItem UploadRow) → last_of (take asked.max_uploads (uploads_asked asked c name)) ≡ Some last
      → uploads_asked (behind_upload asked last) c name ≡ drop asked.max_uploads (uploads_asked asked c name)
  rest_of_uploads asked (Row row) is =
      rest_of_page key_of asked.prefix asked.delimiter (λ (r : UploadRow). r.id) (upload_rows c name) (λ key id. uploads_from c name (marked key id))
      behind_marker follows asked.key_marker asked.id_marker asked.max_uploads (Row row) is
  rest_of_uploads asked (CommonPrefix text) is =
      rest_of_page key_of asked.prefix asked.delimiter (λ (r : UploadRow). r.id) (upload_rows c name) (λ key id. uploads_from c name (marked key id))
      behind_marker follows asked.key_marker asked.id_marker asked.max_uploads (CommonPrefix text) is

  page_joins_next : (asked : UploadsAsked) → 0 < asked.max_uploads → Joins (λ a. uploads_page a c name) behind_upload (λ a. uploads_asked a c name) asked
  page_joins_next asked some =
      page_joins asked.max_uploads (uploads_asked asked c name) (λ last. uploads_asked (behind_upload asked last) c name) some (λ last is. rest_of_uploads asked last is)

same_most : (asked : UploadsAsked) (last : RowItem UploadRow) → 0 < asked.max_uploads → 0 < (behind_upload asked last).max_uploads
same_most asked (Row row) some = some
same_most asked (CommonPrefix text) some = some

pub upload_pages_join : {B : Type 0} → UploadsFollow B → UploadPagesJoin B
upload_pages_join follow asked c name some =
    all_join (λ a. uploads_page a c name) behind_upload (λ a. uploads_asked a c name) (λ a. 0 < a.max_uploads) same_most
    (λ a fits. page_joins_next follow c name a fits) asked some
