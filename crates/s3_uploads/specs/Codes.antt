-- How std numbers parts, so that lists of them may stand in a finite map: each by its fields. Nothing here is about the
-- server.
use Rattle.std.specs.Prelude.{ℕ, List, refl}
use Rattle.std.specs.Coded.{Coded, code_by, coded×, coded_ℕ, coded_list}
use Rattle.s3_versions.specs.Codes.{coded_bytes}
use Rattle.s3_uploads.specs.declared.part.Part.{Part}

-- a part, as its digest, its moment, its size and what stands for its bytes
abbrev pub coded_part : {B : Type 0} → Coded B → Coded (Part B)
coded_part {B} body =
    code_by (List ℕ × (ℕ × (ℕ × B))) (coded× coded_bytes (coded× coded_ℕ (coded× coded_ℕ body)))
    (λ p. (p.digest, (p.moment, (p.size, p.body))))
    (λ q. record { digest = q.0; moment = q.1.0; size = q.1.1.0; body = q.1.1.1 })
    (λ _. refl)

-- the parts by their numbers
abbrev pub coded_parts : {B : Type 0} → Coded B → Coded (List (ℕ × Part B))
coded_parts body = coded_list (coded× coded_ℕ (coded_part body))
