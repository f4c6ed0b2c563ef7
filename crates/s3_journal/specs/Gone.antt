-- Those who have left a shared store, and what it leaves.
use Rattle.std.specs.Prelude.{◌≡◌, ◌≢◌, ℕ, ◌+◌, List, [], ◌∷◌, length}
use mathlib.Core.List.{IsPrefix}
use Rattle.s3_machine.specs.History.{Entry}
use Rattle.s3_journal.specs.RecordedStore.{Journal, KeepsHistory}
use Rattle.s3_journal.specs.Recorded.{Recorded, entries_of_seat}
use Rattle.s3_journal.specs.Noted.{front_of}
use Rattle.s3_journal.specs.SharedStore.{Base, Continues, IsAmong}

-- one that has left: its number, the entries that it was given, the history as far as it had seen it, those of its entries that it knew to
-- be committed, and what was told of it
pub record Gone (P : Type 0) : Type 0 where
  pub number : ℕ
  pub calls : List Entry
  pub seen : List Recorded
  pub committed : List Entry
  pub report : P

-- any entries fit where nothing is told
abbrev pub NothingIsTold : Base → Unit {0} → List Entry → List Entry → Type 0
NothingIsTold base nothing entries committed = Unit {0}

module _ {P : Type 0} where
  -- how many entries they were given
  abbrev pub count_of : List (Gone P) → ℕ
  count_of [] = 0
  count_of (g ∷ gone) = length g.calls + count_of gone

  -- this is the number of none of them
  abbrev pub IsApart : ℕ → List (Gone P) → Type 0
  IsApart number [] = Unit {0}
  IsApart number (g ∷ gone) = (g.number ≢ number) × IsApart number gone

  -- no two of them have one number
  abbrev pub AreApart : List (Gone P) → Type 0
  AreApart [] = Unit {0}
  AreApart (g ∷ gone) = IsApart g.number gone × AreApart gone

  module _ (fits : P → List Entry → List Entry → Type 0) (entries front : List Recorded) where
    -- The entries of its number are just those that it was given, in their order; what was told of it fits them; and the history
    -- begins with what it had seen. The first of its entries, which it knew to be committed, are among those that were committed of the
    -- history by the end.
    pub record IsWhole (g : Gone P) : Type 0 where
      pub all : entries_of_seat g.number entries ≡ g.calls
      pub told : fits g.report g.calls g.committed
      pub seen : IsPrefix g.seen entries
      pub first : IsPrefix g.committed g.calls
      pub committed : IsAmong g.committed (entries_of_seat g.number front)

    -- so of each
    abbrev pub AreWhole : List (Gone P) → Type 0
    AreWhole [] = Unit {0}
    AreWhole (g ∷ gone) = IsWhole g × AreWhole gone

  -- What a shared store leaves: its recorded store's history goes on from the base, is legal, and begins with what was committed; no two of those who have left
  -- have one number; the entries of each number are just those that it was given, what was told of it fits them, and those that it
  -- knew to be committed were; and there are no others.
  pub record IsClosed (fits : P → List Entry → List Entry → Type 0) (base : Base) (recorded_store : Journal) (gone : List (Gone P)) : Type 0 where
    pub continues : Continues base recorded_store
    pub keeps : KeepsHistory recorded_store
    pub committed : IsPrefix (front_of recorded_store.committed) recorded_store.entries
    pub apart : AreApart gone
    pub each : AreWhole fits recorded_store.entries (front_of recorded_store.committed) gone
    pub count : length recorded_store.entries ≡ count_of gone
