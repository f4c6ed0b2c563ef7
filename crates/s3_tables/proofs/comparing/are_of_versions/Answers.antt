use Rattle.std.proofs.Common.{[], ◌∷◌, ap, ap₂, ◌∙◌, arith}
use Rattle.s3_tables.proofs.ListedLemmas.{listed_are}
use Rattle.s3_tables.proofs.comparing.are_of_versions.Goals as goal

pub returns-else-not-are_version_numbers : goal.returns-else-not-are_version_numbers
returns-else-not-are_version_numbers c is =
    let k = c.are_at_a_key.ensures c.if-not-are_at_a_key.false in
    let n = c.are_version_numbers.ensures c.if-not-are_version_numbers.false in
    let v = c.are_version_contents.ensures is in
    listed_are c.args.columns.now (c.row-item.result ∷ c.bucket-item.result ∷ c.key-item.result ∷ c.number-item.result ∷ c.id-item.result ∷ c.moment-item.result ∷ c.marker-item.result ∷ c.tag-item.result ∷ c.kept-item.result ∷ c.size-item.result ∷ c.bodies-item.result ∷ [])
    (c.row-item.is, (c.bucket-item.is, (c.key-item.is, (c.number-item.is, (c.id-item.is, (c.moment-item.is, (c.marker-item.is, (c.tag-item.is, (c.kept-item.is, (c.size-item.is, (c.bodies-item.is, tt))))))))))) (omega (arith, c.in-len11.len_at_least, c.in-len11.len_below))
    ∙ ap₂ ◌∷◌ k.0 (ap₂ ◌∷◌ k.1 (ap₂ ◌∷◌ k.2 (ap₂ ◌∷◌ n.0 (ap₂ ◌∷◌ n.1 (ap₂ ◌∷◌ n.2 (ap₂ ◌∷◌ n.3 (ap₂ ◌∷◌ v.0 (ap₂ ◌∷◌ v.1 (ap₂ ◌∷◌ v.2 (ap (λ x. x ∷ []) v.3))))))))))
