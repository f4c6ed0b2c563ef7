use Rattle.std.proofs.Common.{◌≡◌, ap, ◌∙◌, arith}
use Rattle.s3_records.specs.Rows.{key_rows}
use Rattle.s3_listings.specs.Objects.{objects_told}
use Rattle.s3_listings.specs.Drafts.{drafted, page_of_draft}
use Rattle.s3_listings.proofs.PlaceLemmas.{if_ok}
use Rattle.s3_listings.proofs.RowLemmas.{filled, nothing_asked}
use Rattle.s3_listings.proofs.objects.list_objects.Goals as goal
use Rattle.s3_listings.proofs.objects.list_objects.Goals.{then-asked-ne0+in_ok-start+in_ok-fill, else-asked-ne0}

pub returns-clause-value : goal.returns-clause-value
returns-clause-value g c =
    let asked = c.args.asked.now in
    let rows = key_rows (g.R.Records.catalogue c.args.records.now) c.args.bucket.now in
    let page : page_of_draft (drafted c.if-asked-ne0.draft) ≡ objects_told asked rows = elim c.if-asked-ne0.branch [
      | then-asked-ne0+in_ok-start+in_ok-fill w ↦
          filled asked (drafted c.new-draft.result) (drafted c.if-asked-ne0.draft) w.in_ok-start.start rows
          (c.keys_rise.ensures (g.R.Records.catalogue c.args.records.now) c.args.bucket.now) (grind (arith, w.if-asked-ne0.true)) w.in_ok-start.ensures c.new-draft.ensures (rw w.draft-is w.in_ok-fill.ensures.page)
      | else-asked-ne0 w ↦ ap (λ d. page_of_draft (drafted d)) w.draft-is ∙ ap page_of_draft c.new-draft.ensures ∙ nothing_asked asked rows w.if-asked-ne0.false
    ] in
    if_ok c.finish.result (λ told is. is ∙ page) c.finish.ensures.value
