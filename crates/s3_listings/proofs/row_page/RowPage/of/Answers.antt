use Rattle.s3_listings.proofs.RolledLemmas.{told_by_parts}
use Rattle.s3_listings.proofs.row_page.RowPage.of.Goals as goal

pub returns : goal.returns
returns g c =
    told_by_parts c.args.page c.page.inside.rows.items c.deref.result.now c.page.inside.is_truncated c.ends_in_prefix-ends_in_prefix.result c.in_ok-rows.rows.items c.in_ok-rows.prefixes.items
    c.page.view_is c.deref.ensures.value c.ends_in_prefix-ends_in_prefix.ensures c.in_ok-rows.ensures.0 c.in_ok-rows.ensures.1
