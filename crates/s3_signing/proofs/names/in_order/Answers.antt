use Rattle.std.proofs.Common.{◌∙◌, ap, refl}
use Rattle.std.specs.List.{dedup}
use Rattle.std.specs.Str.{bytes_eq}
use Rattle.std.proofs.lemmas.List.Filters.{dedup_is}
use Rattle.s3_signing.specs.Names.{texts}
use Rattle.s3_signing.proofs.NameLemmas.{sorted-texts, dedup-texts, ordered-texts}
use Rattle.s3_signing.proofs.names.in_order.Goals as goal

pub returns-clause-value : goal.returns-clause-value
returns-clause-value c =
    let sorted = sorted-texts c.args.names.items c.sort.new.self.items c.in_ok-sort.ensures.permutation c.in_ok-sort.ensures.sorted in
    ap texts (dedup_is _ _ _ c.dedup.ensures.filtered) ∙ dedup-texts _ (λ x y. refl) c.sort.new.self.items ∙ ap (dedup bytes_eq) sorted

pub returns-clause-ordered : goal.returns-clause-ordered
returns-clause-ordered c =
    ordered-texts c.args.names.items c.sort.new.self.items c.in_ok-sort.ensures.permutation c.in_ok-sort.ensures.sorted
