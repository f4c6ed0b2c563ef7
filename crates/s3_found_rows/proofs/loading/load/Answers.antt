use Rattle.std.proofs.Common.{sym, ap, subst, ◌∙◌, ℕ, ℤ, pos, [], ◌∷◌, ◌++◌, map, SFits, w64, to_z-of_z, rules}
use Rattle.s3_rows.specs.Columns.{Tables}
use Rattle.s3_found_rows.specs.Found.{tables_of}
use Rattle.s3_keepers.specs.Sound.{IsSoundCatalogue}
use Rattle.s3_rows.specs.Meaning.{catalogue_of}
use Rattle.s3_stored_bodies.specs.Numbers.{times}
use Rattle.s3_stored_rows.specs.Bodies.{encoding, numbers_named}
use Rattle.s3_stored_rows.specs.Changes.{store_columns}
use Rattle.s3_stored_rows.specs.Rowids.{AreRowsBelow}
use Rattle.s3_found_rows.proofs.LoadedLemmas.{number_room, next_above, count_is, only_store, store_stays, whole_same}
use Rattle.s3_found_rows.proofs.SoundLemmas.{rows_below, are_sound, small_versions, small_uploads, catalogue_sound}
use Rattle.s3_found_rows.proofs.loading.load.Goals as goal

pub put_tables-requires : goal.put_tables-requires
put_tables-requires g c = only_store (g.R.StoredRows.tables c.put_store.new.rows) (c.in_ok-number.ensures.rows.0 ∷ []) c.in_ok-number.ensures.rows.3

pub returns-clause-kept : goal.returns-clause-kept
returns-clause-kept g c =
    let rows = c.put_tables.new.rows in
    let t = g.R.StoredRows.tables rows in
    let last : SFits w64 c.in_ok-last.last = search rules in
    let number : SFits w64 c.in_ok-number.number = search rules in
    let next = rw (to_z-of_z last) at c.in-Some.ensures.1 in
    let filled = rw (to_z-of_z number) at c.in_ok-last.ensures.filled in
    let room = number_room c.in_ok-number.number number in
    let fits : SFits w64 c.in-Some.next = search rules in
    record {
      sound = are_sound t c.in_ok-last.last c.in_ok-number.number filled c.are_unique.ensures;
      rowids = subst (λ (n : ℤ). AreRowsBelow n t) (sym (to_z-of_z fits)) (rows_below t c.in_ok-last.last c.in_ok-number.number filled c.in-Some.next (next_above c.in_ok-last.last c.in-Some.next next));
      small = record {
        versions = small_versions t c.in_ok-last.last c.in_ok-number.number filled room;
        uploads = small_uploads t c.in_ok-last.last c.in_ok-number.number filled room;
      };
    }

pub returns-clause-named : goal.returns-clause-named
returns-clause-named g c = λ n.
    let t = g.R.StoredRows.tables c.put_tables.new.rows in
    ap (times n) (c.in_ok-last.ensures.bodies ∙ ap (λ l. l ++ numbers_named t) c.new-bodies.ensures.items)

pub returns-clause-sound : goal.returns-clause-sound
returns-clause-sound g c = λ contents.
    let t = g.R.StoredRows.tables c.put_tables.new.rows in
    let sound = are_sound t c.in_ok-last.last _ c.in_ok-last.ensures.filled c.are_unique.ensures in
    subst (λ (n : ℕ). IsSoundCatalogue (catalogue_of (encoding contents) t) n) (sym c.unsigned_abs.ensures.value)
    (catalogue_sound t c.in_ok-last.last _ c.in_ok-last.ensures.filled contents sound)

pub returns-clause-store : goal.returns-clause-store
returns-clause-store g c =
    let stored = c.in_ok-number.ensures.rows in
    let number : SFits w64 c.in_ok-number.number = search rules in
    let count = rw (to_z-of_z number) at c.unsigned_abs.ensures.value in (
      stored.0,
      stored.1,
      stored.2 ∙ count_is c.in_ok-number.number c.in_ok-number.ensures.count ∙ ap pos (sym count),
      store_stays (g.R.StoredRows.tables c.put_store.new.rows) (g.R.StoredRows.tables c.put_tables.new.rows) (stored.0 ∷ []) stored.3 (ap (λ (t : Tables). t.store) c.in_ok-last.ensures.same),
    )

pub returns-clause-same : goal.returns-clause-same
returns-clause-same g c =
    let stored = c.in_ok-number.ensures.rows in
    whole_same (g.R.StoredRows.tables c.put_store.new.rows) (g.R.StoredRows.tables c.put_tables.new.rows) (tables_of c.args.found.now) (stored.0 ∷ []) stored.3 (ap (map store_columns) (sym c.deref.ensures.value) ∙ stored.4) c.in_ok-last.ensures.same
