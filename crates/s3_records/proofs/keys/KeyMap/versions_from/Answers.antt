use Rattle.std.proofs.Common.{sym, ap, ◌∙◌}
use Rattle.std.specs.FinMap as map
use Rattle.std.specs.List.{flat_map}
use Rattle.s3_records.specs.Rows.{rows_at}
use Rattle.s3_records.proofs.ListingLemmas.{version_rows_behind}
use Rattle.s3_records.proofs.keys.KeyMap.versions_from.Goals as goal

-- the rows behind a version are those from there on
pub returns-in-BehindVersion-clause-value : goal.returns-in-BehindVersion-clause-value
returns-in-BehindVersion-clause-value c =
    let all = version_rows_behind c.args.self.now c.in-BehindVersion.key c.in-BehindVersion.id ∙ ap (λ start. flat_map (rows_at start) (map.entries c.args.self.now)) (sym c.in-BehindVersion.is) in
    rw (sym all) c.rows_behind.ensures.value

pub returns-in-BehindVersion-clause-memory : goal.returns-in-BehindVersion-clause-memory
returns-in-BehindVersion-clause-memory c =
    let all = version_rows_behind c.args.self.now c.in-BehindVersion.key c.in-BehindVersion.id ∙ ap (λ start. flat_map (rows_at start) (map.entries c.args.self.now)) (sym c.in-BehindVersion.is) in
    rw (sym all) c.rows_behind.ensures.memory
