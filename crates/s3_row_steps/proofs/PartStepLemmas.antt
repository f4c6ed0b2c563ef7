-- A part that is put is a step.
use Rattle.std.proofs.Common.{◌≡◌, sym, ap, ap₂, subst, ◌∙◌, ℕ, ◌+◌, ℤ, pos, ◌+ℤ◌, false, List, Option, Some, unsigned_abs, int_lt}
use Rattle.std.specs.FinMap as map
use Rattle.sqlite_keyed.specs.Keyed.{has_key}
use Rattle.sqlite_keyed.proofs.RuleLemmas.{pass_delete}
use Rattle.s3_records.specs.Changes.{PartPut, changed}
use Rattle.s3_rows.specs.Columns.{UploadColumns, PartColumns, Tables}
use Rattle.s3_rows.specs.Finding.{is_part}
use Rattle.s3_rows.specs.Meaning.{part_of, catalogue_of}
use Rattle.s3_rows.specs.Soundness.{part_row}
use Rattle.s3_rows.specs.TableChanges.{parts_left, part_put}
use Rattle.s3_rows.specs.VersionLaws.{Makes}
use Rattle.s3_rows.proofs.PartPutLemmas.{rows_put_parts}
use Rattle.s3_stored_bodies.specs.Numbers.{Contents, times}
use Rattle.s3_stored_rows.specs.Bodies.{encoding, part_numbers, numbers_named}
use Rattle.s3_stored_rows.specs.Queries.{upload_of_id, part_of_number}
use Rattle.s3_row_values.specs.declared.described.DescribedPart.{DescribedPart}
use Rattle.s3_row_values.specs.Values.{part_with, IsPartRow}
use Rattle.s3_row_changes.specs.Trading.{Trades, numbers_of}
use Rattle.s3_row_changes.proofs.LawLemmas.{part_puts}
use Rattle.s3_row_steps.specs.Steps.{AreKept, Steps}
use Rattle.s3_row_steps.proofs.KeepingLemmas.{below-part_put, small-part_put}
use Rattle.s3_row_steps.proofs.RowidLemmas.{less_next, next_free, rows_later}

module _ (t : Tables) (next : ℤ) (bucket key : List ℕ) (id number : ℕ) (u : UploadColumns) (row : PartColumns) (at to : ℤ) (d : DescribedPart) (numbers : List ℕ)
    (kept : AreKept next t) (found : upload_of_id bucket key (pos id) t ≡ Some u) (at_is : at ≡ next) (to_is : to ≡ u.row) (is : IsPartRow row at to number d numbers) where
  free : has_key part_row (parts_left row t) row.row ≡ false
  free = next_free part_row next (parts_left row t) row.row (is.row_is ∙ at_is) (pass_delete (λ p. int_lt p.row next) (is_part row.upload row.part) t.parts kept.rowids.parts)

  makes : (contents : Contents) → Makes (encoding contents) t (part_put row t) bucket (PartPut key id (unsigned_abs row.part) (part_of (encoding contents) row))
  makes contents = rows_put_parts (encoding contents) t bucket key id u row kept.sound found (is.upload_is ∙ to_is) is.fits free

  are_kept : AreKept (next +ℤ pos 1) (part_put row t)
  are_kept = record {
    sound = (makes map.empty).sound;
    rowids = below-part_put t (next +ℤ pos 1) (rows_later next t kept.rowids) row (less_next next row.row (is.row_is ∙ at_is));
    small = small-part_put t kept.small row;
  }

  module _ (gone : Option PartColumns) (gone_is : gone ≡ part_of_number u.row (pos number) t) (new : Tables) (made : new ≡ part_put row t) where
    same_part : gone ≡ part_of_number row.upload row.part t
    same_part = gone_is ∙ (λ i. part_of_number (sym (is.upload_is ∙ to_is) i) (sym is.part_is i) t)

    trade : Trades t new (numbers_of part_numbers gone) numbers
    trade n =
        (λ i. times n (numbers_named (made i)) + times n (numbers_of part_numbers (same_part i)))
        ∙ part_puts t row kept.sound free n
        ∙ ap (λ more. times n (numbers_named t) + times n more) is.names

    pub part_put_steps : Steps t new (next +ℤ pos 1) bucket (λ contents. PartPut key id number (part_with contents numbers d)) (numbers_of part_numbers gone) numbers
    part_put_steps = record {
      kept = subst (AreKept (next +ℤ pos 1)) (sym made) are_kept;
      means = λ contents. ap (catalogue_of (encoding contents)) made ∙ (makes contents).means
          ∙ ap₂ (λ n part. changed (catalogue_of (encoding contents) t) bucket (PartPut key id n part)) (ap unsigned_abs is.part_is) (is.means contents);
      trades = trade;
      store = ap (λ u. u.store) made;
    }
