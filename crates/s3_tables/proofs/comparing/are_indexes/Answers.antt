use Rattle.std.proofs.Common.{[], ◌∷◌, ap, ap₂, ◌∙◌, arith}
use Rattle.s3_tables.proofs.ListedLemmas.{listed_are}
use Rattle.s3_tables.proofs.comparing.are_indexes.Goals as goal

pub returns-else-not-are_of_objects : goal.returns-else-not-are_of_objects
returns-else-not-are_of_objects c is =
    let o = c.are_of_objects.ensures c.if-not-are_of_objects.false in
    let m = c.are_of_multipart.ensures is in
    listed_are c.args.indexes.now (c.name-item.result ∷ c.number-item.result ∷ c.id-item.result ∷ c.upload-item.result ∷ c.part-item.result ∷ [])
    (c.name-item.is, (c.number-item.is, (c.id-item.is, (c.upload-item.is, (c.part-item.is, tt))))) (omega (arith, c.in-len5.len_at_least, c.in-len5.len_below))
    ∙ ap₂ ◌∷◌ o.0 (ap₂ ◌∷◌ o.1 (ap₂ ◌∷◌ o.2 (ap₂ ◌∷◌ m.0 (ap (λ x. x ∷ []) m.1))))
