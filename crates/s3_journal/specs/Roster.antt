-- Rosters: who comes to one worker, and who has left it.
use Rattle.std.specs.Prelude.{◌≡◌, ◌<◌, ◌≤◌, ℕ, ◌+◌, ◌*◌, Bool, true, false, List, [], ◌∷◌, ◌++◌, length}
use Rattle.std.specs.Ordering.{nat_cmp}
use Rattle.std.specs.BTreeSet.{BTreeSet, btree_set_len, contains}
use mathlib.Core.List.{IsPrefix}
use Rattle.s3_history.specs.Log.{Origin}
use Rattle.s3_machine.specs.History.{Entry}
use Rattle.s3_journal.specs.Recorded.{Recorded, entries_of_seat}
use Rattle.s3_journal.specs.SharedStore.{Base, IsAmong, seats_each}
use Rattle.s3_journal.specs.Gone.{Gone, AreApart, count_of}

-- the numbers of the seats that are out, and the next one
pub record Numbered : Type 0 where
  pub next : ℕ
  pub out : BTreeSet ℕ

-- whether a number is out
abbrev pub is_out : Numbered → ℕ → Bool
is_out numbers n = contains nat_cmp numbers.out n

-- a roster: which one it is, the numbers that it gives, those who have left, and the history as far as these had seen it
pub record Rostered (P : Type 0) : Type 0 where
  pub index : ℕ
  pub numbers : Numbered
  pub gone : List (Gone P)
  pub seen : List Recorded

-- the first number that a roster gives
abbrev pub first_of : ℕ → ℕ
first_of index = index * seats_each

-- it is one of the numbers that the roster of this index gives, which are those of no other
abbrev pub IsNumberOf : ℕ → ℕ → Type 0
IsNumberOf index n = (first_of index ≤ n) × (n < first_of index + seats_each)

module _ {P : Type 0} where
  -- nobody who came to it is out
  abbrev pub NobodyIsOut : Rostered P → Type 0
  NobodyIsOut roster = (n : ℕ) → is_out roster.numbers n ≡ false

  -- the new roster of this index: nobody has come to it
  pub record IsNew (index : ℕ) (roster : Rostered P) : Type 0 where
    pub index_is : roster.index ≡ index
    pub nobody : NobodyIsOut roster
    pub nobody_left : roster.gone ≡ []

  -- so of each, with the indices from this one on
  abbrev pub AreNew : ℕ → List (Rostered P) → Type 0
  AreNew index [] = Unit {0}
  AreNew index (roster ∷ rosters) = IsNew index roster × AreNew (index + 1) rosters

  -- they have the indices from this one on, and nobody is out
  abbrev pub AreBack : ℕ → List (Rostered P) → Type 0
  AreBack index [] = Unit {0}
  AreBack index (roster ∷ rosters) = (roster.index ≡ index) × NobodyIsOut roster × AreBack (index + 1) rosters

  -- those who have left any of them
  abbrev pub all_gone : List (Rostered P) → List (Gone P)
  all_gone [] = []
  all_gone (roster ∷ rosters) = roster.gone ++ all_gone rosters

-- The rest serves clauses of private functions alone.

-- those that are out are below the next one
abbrev pub AreBelow : Numbered → Type 0
AreBelow numbers = (n : ℕ) → is_out numbers n ≡ true → n < numbers.next

module _ {P : Type 0} (fits : P → List Entry → List Entry → Type 0) where
  -- One that has left: its entries are among those of its number in what it had seen, and what was told of it fits them; the first of
  -- them, which it knew to be committed, are among those in what the roster knows to be; and its number is one of the roster's, which
  -- is not out and won't be given again.
  pub record IsGone (first : ℕ) (numbers : Numbered) (seen front : List Recorded) (g : Gone P) : Type 0 where
    pub among : IsAmong g.calls (entries_of_seat g.number g.seen)
    pub told : fits g.report g.calls g.committed
    pub own : IsPrefix g.committed g.calls
    pub committed : IsAmong g.committed (entries_of_seat g.number front)
    pub from : first ≤ g.number
    pub below : g.number < numbers.next
    pub back : is_out numbers g.number ≡ false
    pub begins : IsPrefix g.seen seen

  abbrev pub AreGone : ℕ → Numbered → List Recorded → List Recorded → List (Gone P) → Type 0
  AreGone first numbers seen front [] = Unit {0}
  AreGone first numbers seen front (g ∷ gone) = IsGone first numbers seen front g × AreGone first numbers seen front gone

  -- What a roster keeps: each who is out or has left has a number of its own among those that it gave, of which some may have been given
  -- in vain, and at least one is never given; each of its shares is that of one who is out, or its own; and its own count the entries of
  -- those who have left.
  pub record IsRoster (base : Base) (roster : Rostered P) (origin : Origin) (front : List Recorded) (shares counted : ℕ) : Type 0 where
    pub same : origin ≡ base.origin
    pub came : first_of roster.index + (btree_set_len roster.numbers.out + length roster.gone) ≤ roster.numbers.next
    pub few : roster.numbers.next < first_of roster.index + seats_each
    pub own : (n : ℕ) → is_out roster.numbers n ≡ true → first_of roster.index ≤ n
    pub parts : shares + btree_set_len roster.numbers.out ≡ seats_each
    pub given : counted ≡ count_of roster.gone
    pub apart : AreApart roster.gone
    pub each : AreGone (first_of roster.index) roster.numbers roster.seen front roster.gone

  -- A roster was taken back: its shares are among those that there were, the history begins with what it had seen, and what was committed
  -- with what it knew to be.
  pub record WasTaken (base : Base) (entries front : List Recorded) (roster : Rostered P) (old_parts old_counted parts counted : ℕ) : Type 0 where
    pub own_shares : ℕ
    pub own_count : ℕ
    pub own_front : List Recorded
    pub kept : IsRoster base roster base.origin own_front own_shares own_count
    pub begins : IsPrefix roster.seen entries
    pub committed : IsPrefix own_front front
    pub shares : parts ≡ old_parts + own_shares
    pub given : counted ≡ old_counted + own_count

  -- One that had left a roster that came back: its entries are among those of its number, what was told of it fits them, those that it
  -- knew to be committed were, its number is no less than this one, and the history begins with what it had seen.
  pub record IsBack (entries front : List Recorded) (first : ℕ) (g : Gone P) : Type 0 where
    pub among : IsAmong g.calls (entries_of_seat g.number entries)
    pub told : fits g.report g.calls g.committed
    pub own : IsPrefix g.committed g.calls
    pub committed : IsAmong g.committed (entries_of_seat g.number front)
    pub from : first ≤ g.number
    pub begins : IsPrefix g.seen entries

  abbrev pub AreGathered : List Recorded → List Recorded → ℕ → List (Gone P) → Type 0
  AreGathered entries front first [] = Unit {0}
  AreGathered entries front first (g ∷ gone) = IsBack entries front first g × AreGathered entries front first gone

  -- What is known when the last of all rosters were taken back, from this index on: each was at its place with nobody out; and all their
  -- shares, which count the entries of those who had left them, whose numbers differ.
  pub record HasGathered (entries front : List Recorded) (index : ℕ) (back : List (Rostered P)) (parts counted : ℕ) : Type 0 where
    pub all_back : AreBack index back
    pub shares : parts ≡ length back * seats_each
    pub given : counted ≡ count_of (all_gone back)
    pub apart : AreApart (all_gone back)
    pub each : AreGathered entries front (first_of index) (all_gone back)
