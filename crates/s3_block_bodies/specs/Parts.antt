-- What a keeper of bodies in a file is to a caller.
use Rattle.std.specs.Prelude.{ℕ, List, refl}
use Rattle.std.specs.Coded.{Coded, code_by, coded×, coded_ℕ, coded_list}
use Rattle.s3_stored_bodies.specs.Numbers.{Contents}
use Rattle.s3_stored_bodies.specs.Held as bodies
use Rattle.s3_stored_bodies.specs.Held.{Held, coded_held}

-- the bodies in memory with their counts, the disk, and how many bodies have each granule of its file
pub record Parts (D : Type 0) : Type 0 where
  pub held : Held
  pub disk : D
  pub granules : List ℕ

-- how std numbers them
abbrev pub coded_parts : {D : Type 0} → Coded D → Coded (Parts D)
coded_parts {D} disk =
    code_by (Held × (D × List ℕ)) (coded× coded_held (coded× disk (coded_list coded_ℕ)))
    (λ parts. (parts.held, (parts.disk, parts.granules)))
    (λ p. record { held = p.0; disk = p.1.0; granules = p.1.1 })
    (λ _. refl)

-- the bytes under each number
abbrev pub contents_in : {D : Type 0} → Parts D → Contents
contents_in parts = bodies.contents_of parts.held

-- how many rows name each number
abbrev pub uses_in : {D : Type 0} → Parts D → ℕ → ℕ
uses_in parts = bodies.uses_of parts.held

-- the disk
abbrev pub disk_in : {D : Type 0} → Parts D → D
disk_in parts = parts.disk
