use Rattle.std.proofs.Common.{[], ◌∷◌, ap, ap₂, ◌∙◌, arith}
use Rattle.s3_tables.proofs.ListedLemmas.{listed_are}
use Rattle.s3_tables.proofs.comparing.are_of_uploads.Goals as goal

pub returns-else-not-are_at_a_key : goal.returns-else-not-are_at_a_key
returns-else-not-are_at_a_key c is =
    let k = c.are_at_a_key.ensures c.if-not-are_at_a_key.false in
    let u = c.are_upload_contents.ensures is in
    listed_are c.args.columns.now (c.row-item.result ∷ c.bucket-item.result ∷ c.key-item.result ∷ c.id-item.result ∷ c.moment-item.result ∷ c.kept-item.result ∷ [])
    (c.row-item.is, (c.bucket-item.is, (c.key-item.is, (c.id-item.is, (c.moment-item.is, (c.kept-item.is, tt)))))) (omega (arith, c.in-len6.len_at_least, c.in-len6.len_below))
    ∙ ap₂ ◌∷◌ k.0 (ap₂ ◌∷◌ k.1 (ap₂ ◌∷◌ k.2 (ap₂ ◌∷◌ u.0 (ap₂ ◌∷◌ u.1 (ap (λ x. x ∷ []) u.2)))))
