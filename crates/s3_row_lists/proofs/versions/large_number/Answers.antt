use Rattle.std.proofs.Common.{◌≡◌, sym, ap, ◌∙◌, pos, int_lt, w64, to_z, of_z, rules}
use Rattle.s3_row_lists.proofs.VersionLemmas.{none_newest, newest_below}
use Rattle.s3_row_lists.proofs.versions.large_number.Goals as goal

pub returns-in-None-clause-value : goal.returns-in-None-clause-value
returns-in-None-clause-value g c =
    none_newest c.args.bucket.now c.args.key.now (g.R.StoredRows.tables c.args.rows.now) c.requires c.args.id c.in_ok-newest_number.field-0 c.in_ok-newest_number.ensures.value c.in-None.is

pub returns-then-is_below-clause-value : goal.returns-then-is_below-clause-value
returns-then-is_below-clause-value g c =
    let number : to_z w64 (of_z w64 c.in-Some.newest) ≡ c.in-Some.newest = search rules in
    newest_below c.args.bucket.now c.args.key.now (g.R.StoredRows.tables c.args.rows.now) c.requires c.args.id c.in_ok-newest_number.field-0 c.in-Some.newest c.in_ok-newest_number.ensures.value c.in-Some.is
    (ap (λ z. int_lt z (pos c.args.id)) (sym number) ∙ sym c.is_below.ensures ∙ c.if-is_below.true)
