-- The parts of an upload, as questions find them.
use Rattle.std.proofs.Common.{◌≡◌, refl, sym, ap, ap₂, ◌∙◌, false, true, ◌&&◌, ℕ, ℤ, pos, ◌≤◌, ◌^◌, List, [], filter, find, map, take, Option, Some, None, option_map, int_le, int_lt, arith}
use Rattle.std.proofs.lemmas.Bool.{and_parts, and_right}
use Rattle.std.proofs.lemmas.Int.{ints}
use Rattle.std.proofs.lemmas.List.Elements.{recursion_from_All}
use Rattle.std.proofs.lemmas.Option.{same_Some}
use Rattle.sqlite_keyed.specs.Lists.{sort_by}
use Rattle.sqlite_keyed.proofs.ListLemmas.{all_weaker, filter_none}
use Rattle.s3_uploads.specs.Parts.{rows_behind}
use Rattle.s3_records.specs.OpenUploads.{parts_sent, parts_at}
use Rattle.s3_rows.specs.Columns.{UploadColumns, PartColumns, Tables}
use Rattle.s3_rows.specs.Encoding.{Encoding}
use Rattle.s3_rows.specs.Finding.{is_sent_to, by_part, is_upload}
use Rattle.s3_rows.specs.ListLaws.{part_told, is_part_above}
use Rattle.s3_rows.specs.Meaning.{catalogue_of, upload_of}
use Rattle.s3_rows.specs.Soundness.{is_part_row, AreSound}
use Rattle.s3_rows.proofs.ListLawLemmas.{rows_list_parts}
use Rattle.s3_rows.proofs.ReadingLemmas.{rows_tell_upload}
use Rattle.s3_stored_rows.specs.Changes.{part_columns}
use Rattle.s3_stored_rows.specs.Queries as asked
use Rattle.s3_stored_rows.specs.declared.rows.StoredPart.{StoredPart}
use Rattle.s3_row_lists.proofs.CutLemmas.{cut_none, found_told}

-- the rows of the parts of an upload above a number
abbrev pub above_rows : ℤ → ℕ → Tables → List PartColumns
above_rows upload last t = sort_by by_part (filter (λ p. is_sent_to upload p && is_part_above last p) t.parts)

within_numbers : (last : ℕ) (z : ℤ) → 2 ^ 63 ≤ last → int_le z (pos 10000) ≡ true → int_lt (pos last) z ≡ false
within_numbers last z large fits = grind (arith, ints)

-- no part has a number of 2 ^ 63 or more
no_rows_above : (upload : ℤ) (last : ℕ) (t : Tables) → AreSound t → 2 ^ 63 ≤ last → above_rows upload last t ≡ []
no_rows_above upload last t s large =
    ap (sort_by by_part)
    (filter_none (λ p. is_sent_to upload p && is_part_above last p) t.parts
    (all_weaker (λ p. is_part_row p ≡ true) _
    (λ p fits. and_right (is_sent_to upload p) _ (within_numbers last p.part large (and_parts (int_le (pos 1) p.part) _ (and_parts (int_le (pos 1) p.part && int_le p.part (pos 10000)) _ fits).0).1))
    t.parts (recursion_from_All _ t.parts s.parts.fit)))

pub no_parts_above : (e : Encoding) (upload : ℤ) (last n : ℕ) (t : Tables) → AreSound t → 2 ^ 63 ≤ last → take n (map (part_told e) (above_rows upload last t)) ≡ []
no_parts_above e upload last n t s large = cut_none n _ (ap (map (part_told e)) (no_rows_above upload last t s large))

pub parts_found : (e : Encoding) (upload asked_upload asked_part : ℤ) (last limit n : ℕ) (t : Tables) (found now : List StoredPart) → asked_upload ≡ upload → asked_part ≡ pos last → limit ≡ n → now ≡ found
    → map part_columns found ≡ take limit (asked.parts_above asked_upload asked_part t)
    → map (λ p. part_told e (part_columns p)) now ≡ take n (map (part_told e) (above_rows upload last t))
parts_found e upload asked_upload asked_part last limit n t found now same column room whole is =
    found_told (part_told e) part_columns limit n found now (above_rows upload last t) room whole
    (is ∙ ap₂ (λ y z. take limit (sort_by by_part (filter (λ p. is_sent_to y p && int_lt z p.part) t.parts))) same column)

-- the row that was found for a number is that for the id
pub same_found : (b k : List ℕ) (number id : ℕ) (row : Option ℤ) (t : Tables) → number ≡ id → row ≡ option_map (λ (u : UploadColumns). u.row) (find (is_upload b k (pos number)) t.uploads)
    → row ≡ option_map (λ (u : UploadColumns). u.row) (find (is_upload b k (pos id)) t.uploads)
same_found b k number id row t same found = found ∙ ap (λ n. option_map (λ (u : UploadColumns). u.row) (find (is_upload b k (pos n)) t.uploads)) same

nothing_found : (o : Option UploadColumns) → option_map (λ (u : UploadColumns). u.row) o ≡ None → o ≡ None
nothing_found None none = refl
nothing_found (Some u) none = cc

module _ (e : Encoding) (t : Tables) (bucket key b k : List ℕ) (id : ℕ) (row : Option ℤ) (s : AreSound t)
    (same_bucket : b ≡ bucket) (same_key : k ≡ key) (found : row ≡ option_map (λ (u : UploadColumns). u.row) (find (is_upload b k (pos id)) t.uploads)) where
  its_row : row ≡ option_map (λ (u : UploadColumns). u.row) (find (is_upload bucket key (pos id)) t.uploads)
  its_row = found ∙ ap₂ (λ x y. option_map (λ (u : UploadColumns). u.row) (find (is_upload x y (pos id)) t.uploads)) same_bucket same_key

  pub parts_of_none : (last most : ℕ) → row ≡ None → take most (rows_behind last (parts_at (catalogue_of e t) bucket key id)) ≡ []
  parts_of_none last most none =
      cut_none most _
      (ap (λ u. rows_behind last (parts_sent u))
      (rows_tell_upload e t bucket key id s ∙ ap (option_map (upload_of e t.parts)) (nothing_found (find (is_upload bucket key (pos id)) t.uploads) (sym its_row ∙ none))))

  pub parts_of_some : (last most : ℕ) (r z : ℤ) (later : Tables) → z ≡ r → later ≡ t → row ≡ Some r
      → take most (map (part_told e) (above_rows z last later)) ≡ take most (rows_behind last (parts_at (catalogue_of e t) bucket key id))
  parts_of_some last most r z later its same some =
      ap₂ (λ x y. take most (map (part_told e) (above_rows x last y))) its same ∙ go (find (is_upload bucket key (pos id)) t.uploads) refl (sym its_row ∙ some)
    where
      go : (o : Option UploadColumns) → find (is_upload bucket key (pos id)) t.uploads ≡ o → option_map (λ (u : UploadColumns). u.row) o ≡ Some r
          → take most (map (part_told e) (above_rows r last t)) ≡ take most (rows_behind last (parts_at (catalogue_of e t) bucket key id))
      go None is its = cc
      go (Some u) is its =
          ap (λ x. take most (map (part_told e) (above_rows x last t))) (sym (same_Some u.row r its))
          ∙ sym (ap (take most) (rows_list_parts e t bucket key id last u s is))
