use Rattle.std.proofs.Common.{[], ◌∷◌, ap₂, ◌∙◌, arith, rules}
use Rattle.s3_tables.proofs.ListedLemmas.{listed_are}
use Rattle.s3_tables.proofs.comparing.are_two_keys.Goals as goal

pub returns-then-eq : goal.returns-then-eq
returns-then-eq c is =
    listed_are c.args.keys.now (c.one-item.result ∷ c.two-item.result ∷ []) (c.one-item.is, (c.two-item.is, tt)) (omega (arith, c.in-len2.len_at_least, c.in-len2.len_below))
    ∙ ap₂ (λ i j. i ∷ j ∷ []) (search rules) (search rules)
