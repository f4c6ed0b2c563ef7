-- How the bytes of a body lie.
use Rattle.std.specs.Prelude.{ℕ, List, []}
use Rattle.s3_bodies.specs.declared.body.Content.{Content}
use Rattle.s3_bodies.specs.declared.body.Content.TheVariants.{Nothing, Alone, One, Many}

-- the bytes, wherever they lie
abbrev pub bytes_of : Content → List ℕ
bytes_of Nothing = []
bytes_of (Alone part) = part
bytes_of (One part) = part
bytes_of (Many part) = part
