use Rattle.std.proofs.Common.{◌≡◌, ap, ◌∙◌, List, filter}
use Rattle.s3_listings.specs.Pages.{page_of}
use Rattle.s3_listings.specs.Rolled.{items_asked, plainly, rows_told}
use Rattle.s3_listings.specs.Sought.{begins_with}
use Rattle.s3_listings.proofs.RolledLemmas.{none_asked, plainly_asked}
use Rattle.s3_listings.proofs.sought.page_asked.Goals as goal
use Rattle.s3_listings.proofs.sought.page_asked.Goals.{then-most-eq0-via-then-most-eq0, then-most-eq0-via-else-most-eq0+then-is_empty}

pub returns-then-most-eq0-clause-value : goal.returns-then-most-eq0-clause-value
returns-then-most-eq0-clause-value g c =
    let wanted = c.args.wanted.now in
    let rows : List g.row.T.Denot = filter (begins_with g.T.Listed.key wanted.prefix.now) (g.T.Listed.behind (g.R.Records.catalogue c.args.records.now) c.args.bucket.now wanted.marker.now wanted.id) in
    let same : plainly (page_of c.args.most rows) ≡ rows_told (page_of c.args.most (items_asked g.T.Listed.key c.args.prefix.now c.args.delimiter.now wanted.marker.now rows)) =
    elim c.then-most-eq0.branch [
      | then-most-eq0-via-then-most-eq0 w ↦ none_asked c.args.most (items_asked g.T.Listed.key c.args.prefix.now c.args.delimiter.now wanted.marker.now rows) rows w.if-most-eq0.true
      | then-most-eq0-via-else-most-eq0+then-is_empty w ↦
          plainly_asked g.T.Listed.key c.args.prefix.now c.args.delimiter.now wanted.marker.now w.as_bytes.result.now c.args.most rows w.is_empty.result w.if-is_empty.true w.is_empty.ensures w.as_bytes.ensures.value
    ] in
    c.plain.ensures ∙ ap plainly c.in_ok-page.ensures.value ∙ same
