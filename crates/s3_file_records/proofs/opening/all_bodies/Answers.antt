use Rattle.std.proofs.Common.{sym, ap, subst, ℕ, ◌<◌}
use Rattle.s3_block_bodies.specs.Stored.{IsStored}
use Rattle.s3_file_records.proofs.opening.all_bodies.Goals as goal

pub returns-clause-found : goal.returns-clause-found
returns-clause-found g c = λ clean n bytes addressable is named.
    c.are_housed.ensures.found clean n bytes addressable (subst (λ file. IsStored file n bytes) (sym c.in_ok-bodies.ensures.seen) is)
    (subst (λ count. 0 < count) (sym (ap (λ (uses : ℕ → ℕ). uses n) c.in_ok-bodies.ensures.uses)) named)
