use Rattle.std.proofs.Common.{[], ◌∷◌, ap, ◌∙◌, arith, rules}
use Rattle.s3_tables.proofs.ListedLemmas.{listed_are}
use Rattle.s3_tables.proofs.comparing.is_one_key.Goals as goal

pub returns-in-len1 : goal.returns-in-len1
returns-in-len1 c is =
    listed_are c.args.keys.now (c.key-item.result ∷ []) (c.key-item.is, tt) (omega (arith, c.in-len1.len_at_least, c.in-len1.len_below)) ∙ ap (λ i. i ∷ []) (search rules)
