use Rattle.std.proofs.Common.{ap, sym, map, pos, slice_index_or, SFits, w64, to_z-of_z, rules, arith}
use Rattle.s3_stored_rows.specs.declared.rows.StoreNumbers.{StoreNumbers}
use Rattle.s3_stored_rows.specs.Changes.{store_columns}
use Rattle.s3_found_rows.proofs.LoadedLemmas.{only_one}
use Rattle.s3_found_rows.proofs.store.put_store.Goals as goal

pub returns-clause-rows : goal.returns-clause-rows
returns-clause-rows g c =
    let none : StoreNumbers = record { row = pos 0; form = pos 0; number = pos 0 } in
    let store : StoreNumbers = slice_index_or c.args.found.now 0 none in (
      store_columns store,
      c.in_ok-check_store.ensures.row,
      (let number : SFits w64 store.number = search rules in sym (to_z-of_z number)),
      c.in_ok-replace_store.ensures,
      ap (map store_columns) (only_one c.args.found.now none (omega (arith, c.in-len1.len_at_least, c.in-len1.len_below))),
    )
