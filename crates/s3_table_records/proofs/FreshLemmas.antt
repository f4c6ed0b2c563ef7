-- What is kept before anything is.
use Rattle.std.proofs.Common.{◌≡◌, ℕ, pos, [], ◌∷◌}
use Rattle.std.proofs.lemmas.List.Elements.{All-nil}
use Rattle.s3_records.specs.Catalogue.{opening}
use Rattle.s3_rows.specs.BucketLaws.{RowsOpen}
use Rattle.s3_rows.specs.Columns.{StoreColumns, Tables, no_rows}
use Rattle.s3_rows.specs.Meaning.{catalogue_of}
use Rattle.s3_stored_bodies.specs.Numbers.{Contents}
use Rattle.s3_stored_rows.specs.Bodies.{encoding, numbers_named}
use Rattle.s3_table_records.specs.Kept.{kept, IsKept, catalogue}

-- tables with no row but that of the store
abbrev pub fresh : StoreColumns → Tables
fresh store = record no_rows { store = store ∷ [] }

module _ (opens : RowsOpen) (store : StoreColumns) (c : Contents) (u : ℕ → ℕ) where
  pub fresh_kept : ((n : ℕ) → u n ≡ 0) → IsKept (kept (fresh store) c u (pos 1))
  unfolding numbers_named
  fresh_kept none =
      let s = (opens (encoding c)).0 in
      record {
        rows = record {
          sound = record { buckets = s.buckets; versions = s.versions; uploads = s.uploads; parts = s.parts; version_buckets = s.version_buckets; upload_buckets = s.upload_buckets; part_uploads = s.part_uploads };
          rowids = record { buckets = All-nil _; versions = All-nil _; uploads = All-nil _; parts = All-nil _ };
          small = record { versions = All-nil _; uploads = All-nil _ };
        };
        named = none;
      }

  pub fresh_opens : catalogue (kept (fresh store) c u (pos 1)) ≡ opening []
  unfolding catalogue_of
  fresh_opens = (opens (encoding c)).1
