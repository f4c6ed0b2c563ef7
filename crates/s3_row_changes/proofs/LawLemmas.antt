-- The laws of changes of rows.
use Rattle.std.proofs.Common.{◌≡◌, refl, sym, ap, ◌∙◌, ℕ, ◌+◌, Bool, true, false, ◌||◌, [], ◌∷◌, filter, find, flat_map, Option, Some, None, arith}
use Rattle.std.specs.Option.{option_to_list}
use Rattle.sqlite_keyed.proofs.ListLemmas.{all_of, filter_none}
use Rattle.s3_stored_bodies.specs.Numbers.{times}
use Rattle.s3_stored_bodies.proofs.NumberLemmas.{times-append}
use Rattle.s3_rows.specs.Columns.{UploadColumns, Tables}
use Rattle.s3_rows.specs.Finding.{is_version, is_upload, is_sent_to, is_part, by_part}
use Rattle.s3_rows.specs.Soundness.{version_row, part_row, same_version, same_upload, same_part}
use Rattle.s3_rows.specs.TableChanges.{version_put, version_dropped, part_put, is_sent_to_any, upload_dropped}
use Rattle.s3_rows.proofs.EditLemmas.{filter_alike}
use Rattle.s3_stored_rows.specs.Bodies.{version_numbers, part_numbers, numbers_named}
use Rattle.s3_row_changes.specs.Trading.{sent_numbers, VersionPutsTrade, VersionDropsTrade, PartPutsTrade, UploadAddsTrade, UploadDropsTrade}
use Rattle.s3_row_changes.proofs.PlaceLemmas.{versions_alike, uploads_alike, parts_alike}
use Rattle.s3_row_changes.proofs.RowLemmas.{one_passes}
use Rattle.s3_row_changes.proofs.TradeLemmas.{named_by, named_taken, named-sort_by, drop_trades, put_trades}

-- the rows of both tables
named_in : (t : Tables) (n : ℕ) → times n (numbers_named t) ≡ named_by version_numbers n t.versions + named_by part_numbers n t.parts
unfolding numbers_named
named_in t n = times-append n (flat_map version_numbers t.versions) (flat_map part_numbers t.parts)

pub version_puts : VersionPutsTrade
version_puts t row sound free n =
    omega (
      arith,
      named_in (version_put row t) n,
      named_in t n,
      put_trades version_numbers n same_version (is_version row.bucket row.key row.id) (versions_alike row.bucket row.key row.id) version_row t.versions row sound.versions.ids free,
    )

pub version_drops : VersionDropsTrade
version_drops t bucket key id sound n =
    omega (
      arith,
      named_in (version_dropped bucket key id t) n,
      named_in t n,
      drop_trades version_numbers n same_version (is_version bucket key id) (versions_alike bucket key id) t.versions sound.versions.ids,
    )

pub part_puts : PartPutsTrade
part_puts t row sound free n =
    omega (
      arith,
      named_in (part_put row t) n,
      named_in t n,
      put_trades part_numbers n same_part (is_part row.upload row.part) (parts_alike row.upload row.part) part_row t.parts row sound.parts.numbers free,
    )

pub upload_adds : UploadAddsTrade
unfolding numbers_named
upload_adds t row n = refl

-- the parts that go with the upload that is found
named_sent : (t : Tables) (o : Option UploadColumns) (n : ℕ) → named_by part_numbers n (filter (is_sent_to_any (option_to_list o)) t.parts) ≡ times n (sent_numbers t o)
named_sent t None n = ap (named_by part_numbers n) (filter_none (is_sent_to_any []) t.parts (all_of (λ p. is_sent_to_any [] p ≡ false) (λ p. refl) t.parts))
named_sent t (Some u) n =
    ap (named_by part_numbers n) (filter_alike (is_sent_to_any (u ∷ [])) (is_sent_to u.row) (λ p. go (is_sent_to u.row p)) t.parts)
    ∙ sym (named-sort_by part_numbers n by_part (filter (is_sent_to u.row) t.parts))
  where
    go : (b : Bool) → (b || false) ≡ b
    go true = refl
    go false = refl

pub upload_drops : UploadDropsTrade
upload_drops t bucket key id sound n =
    let test = is_upload bucket key id in
    let one : filter test t.uploads ≡ option_to_list (find test t.uploads) = one_passes same_upload test (uploads_alike bucket key id) t.uploads sound.uploads.ids in
    let gone : named_by part_numbers n (filter (is_sent_to_any (filter test t.uploads)) t.parts) ≡ times n (sent_numbers t (find test t.uploads)) =
    ap (λ us. named_by part_numbers n (filter (is_sent_to_any us) t.parts)) one ∙ named_sent t (find test t.uploads) n in
    omega (arith, named_in (upload_dropped bucket key id t) n, named_in t n, named_taken part_numbers n (is_sent_to_any (filter test t.uploads)) t.parts, gone)
