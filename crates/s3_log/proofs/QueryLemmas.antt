-- A query that says nothing.
use Rattle.std.proofs.Common.{◌≡◌, List, ℕ, [], ◌∷◌, length, codes, ap, refl, arith}
use Rattle.percent_encoding.specs.Percent.{percent_decode}
use Rattle.s3_log.specs.Line.{behind, texts_told}
use Rattle.s3_log.specs.Query.{shown_query}

nothing_shown : (query : List ℕ) → length query ≡ 0 → [] ≡ shown_query query
unfolding percent_decode
nothing_shown [] none = refl
nothing_shown (x ∷ xs) none = absurd (omega (arith, none))

pub nothing_told : (query id : List ℕ) → length query ≡ 0
    → behind (texts_told (codes "query") [] (codes "access_key") id) ≡ behind (texts_told (codes "query") (shown_query query) (codes "access_key") id)
nothing_told query id none = ap (λ (shown : List ℕ). behind (texts_told (codes "query") shown (codes "access_key") id)) (nothing_shown query none)
