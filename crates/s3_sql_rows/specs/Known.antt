-- What is known of the tables behind a connection, which may be shut.
use Rattle.std.specs.Prelude.{◌≡◌, IsTrue}
use Rattle.sqlite.specs.State.{State}
use Rattle.s3_stored_rows.specs.Unique.{AreUnique}
use Rattle.s3_tables.specs.Keeping.{tables}

-- the connection as it was made, or as its last change left it, has these tables, and an open one has them still
pub record IsKnown (now known : State) : Type 0 where
  pub unique : AreUnique (tables known)
  pub shown : IsTrue now.is_open → tables now ≡ tables known
