use Rattle.std.proofs.Common.{[], ◌∷◌, ap, ap₂, ◌∙◌, arith}
use Rattle.s3_tables.proofs.ListedLemmas.{listed_are}
use Rattle.s3_tables.proofs.comparing.are_of_parts.Goals as goal

pub returns-else-not-are_at_a_part : goal.returns-else-not-are_at_a_part
returns-else-not-are_at_a_part c is =
    let k = c.are_at_a_part.ensures c.if-not-are_at_a_part.false in
    let p = c.are_part_contents.ensures is in
    listed_are c.args.columns.now (c.row-item.result ∷ c.upload-item.result ∷ c.part-item.result ∷ c.digest-item.result ∷ c.moment-item.result ∷ c.size-item.result ∷ c.bodies-item.result ∷ [])
    (c.row-item.is, (c.upload-item.is, (c.part-item.is, (c.digest-item.is, (c.moment-item.is, (c.size-item.is, (c.bodies-item.is, tt))))))) (omega (arith, c.in-len7.len_at_least, c.in-len7.len_below))
    ∙ ap₂ ◌∷◌ k.0 (ap₂ ◌∷◌ k.1 (ap₂ ◌∷◌ k.2 (ap₂ ◌∷◌ p.0 (ap₂ ◌∷◌ p.1 (ap₂ ◌∷◌ p.2 (ap (λ x. x ∷ []) p.3))))))
