use Rattle.std.proofs.Common.{ap, ◌∙◌, ◌+◌, ◌<◌, ◌++◌, Some, drop, length, map, take, arith}
use Rattle.std.specs.FinMap.{empty}
use Rattle.std.specs.Option.{option_copied}
use Rattle.s3_rows.specs.KeyListLaws.{key_listed, keys_listed}
use Rattle.s3_rows.specs.VersionListLaws.{is_last}
use Rattle.s3_stored_rows.specs.Bodies.{encoding}
use Rattle.s3_stored_rows.specs.Changes.{version_columns}
use Rattle.s3_row_lists.proofs.KeyStepLemmas.{key_more, key_fits}
use Rattle.s3_row_lists.proofs.keys.add_told.Goals as goal

pub loop-row-preserved : goal.loop-row-preserved
loop-row-preserved c =
    let room : length c.loop-row.told.items < c.args.most = omega arith in
    record {
      rows = λ contents.
          ap (λ k. take c.args.most (c.add_key.new.told.items ++ keys_listed (encoding contents) (Some k) (map version_columns (drop (c.loop-row.row-index + 1) c.args.found.now)))) c.as_slice.ensures.value
          ∙ key_more (encoding contents) c.args.most c.loop-row.row-index c.args.found.now c.row-item.result (option_copied c.loop-row.last) c.loop-row.told.items c.add_key.new.told.items _
          c.loop-row-test.true c.row-item.is (c.loop-row.invariant.rows contents) (c.in_ok-add_key.ensures contents);
      few = key_fits c.args.most (is_last (option_copied c.loop-row.last) c.row-item.result.key.items) (key_listed (encoding empty) (version_columns c.row-item.result)) c.loop-row.told.items c.add_key.new.told.items room
          (c.in_ok-add_key.ensures empty);
    }
