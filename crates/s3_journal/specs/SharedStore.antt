-- A shared store: a recorded store under one lock, for many at once.
use Rattle.std.specs.Prelude.{◌≡◌, ℕ, ◌+◌, ◌*◌, List, [], ◌∷◌, ◌⊎◌, length}
use mathlib.Core.List.{IsPrefix}
use Rattle.s3_config.specs.Settings.{Settings}
use Rattle.s3_terms.specs.declared.dialect.Dialect.TheVariants.{Json}
use Rattle.s3_history.specs.Log.{Origin}
use Rattle.s3_machine.specs.History.{Entry, Legal}
use Rattle.s3_machine.specs.Rules.{rules_of}
use Rattle.s3_records.specs.Catalogue.{opening}
use Rattle.s3_store.specs.Steps.{Standing, opened}
use Rattle.s3_journal.specs.Noted.{Known}
use Rattle.s3_journal.specs.RecordedStore.{Journal}
use Rattle.s3_journal.specs.Recorded.{Recorded, entries_of_seat, history_of}

-- what a shared store stands on: which history it is, the settings, and the store as it was at the opening
pub record Base : Type 0 where
  pub origin : Origin
  pub settings : Settings
  pub store : Standing

-- the base of no shared store
abbrev pub no_base : Base
no_base = record {
  origin = record { number = 0; log_name = 0; cells_name = 0 };
  settings = record { region = []; keys = []; min_part = 0; body_limit = 0; buckets = []; dialect = Json };
  store = opened (opening []);
}

-- the recorded store is that of the base, with what was answered since
pub record Continues (base : Base) (recorded_store : Journal) : Type 0 where
  pub origin : recorded_store.origin ≡ base.origin
  pub rules : recorded_store.rules ≡ rules_of base.settings
  pub store : recorded_store.opening ≡ base.store

-- entries from the opening, each with the answer that those before it settle
abbrev pub IsLegal : Base → List Recorded → Type 0
IsLegal base entries = Legal (rules_of base.settings) base.store.state base.store.number (history_of entries)

-- how many parts of the ledger each roster has: 2^40
abbrev pub seats_each : ℕ
seats_each = 1099511627776

-- what a shared store is opened with: the name of the ledger that counts its entries, what it stands on, and how many rosters
-- there will be
pub record Opening : Type 0 where
  pub name : ℕ
  pub base : Base
  pub rosters : ℕ

-- a seat: its number, the entries that it was given, the history as far as it has seen it, and those of its entries that it knows to be
-- committed
pub record Seated : Type 0 where
  pub number : ℕ
  pub mine : List Entry
  pub seen : List Recorded
  pub committed : List Entry

module _ {A : Type 0} where
  -- a list has some of the elements of another, in their order
  abbrev pub IsAmong : List A → List A → Type 0
  IsAmong some [] = some ≡ []
  IsAmong some (x ∷ all) = IsAmong some all ⊎ ((rest : List A) × (some ≡ x ∷ rest) × IsAmong rest all)

-- The rest serves clauses of private functions alone.

-- what is known of a history that was committed: all of it, and the number of its next entry
pub record IsCommitted (base : Base) (known : Known) (number : ℕ) : Type 0 where
  pub same : known.origin ≡ base.origin
  pub all : known.committed ≡ known.entries
  pub next : number ≡ base.store.number + length known.entries

-- what a seat keeps: one share of the shared store's ledger, which counts its entries; these are among those of its number in the
-- history as far as it has seen it; and the first of them, which it knows to be committed, among those in what it knows to be
pub record IsSeat (base : Base) (seat : Seated) (origin : Origin) (front : Known) (shares counted : ℕ) : Type 0 where
  pub same : origin ≡ base.origin
  pub alike : front.origin ≡ base.origin
  pub one : shares ≡ 1
  pub count : counted ≡ length seat.mine
  pub among : IsAmong seat.mine (entries_of_seat seat.number seat.seen)
  pub first : IsPrefix seat.committed seat.mine
  pub committed : IsAmong seat.committed (entries_of_seat seat.number front.committed)

-- What lies under a shared store's lock: the recorded store goes on from the base, the ledger counts its entries, and its parts
-- are those that the rosters were given.
pub record IsRoom (base : Base) (all rosters : ℕ) (recorded_store : Journal) (counted parts amount : ℕ) : Type 0 where
  pub whole : all ≡ rosters * seats_each
  pub continues : Continues base recorded_store
  pub count : length recorded_store.entries ≡ counted
  pub nothing_left : parts ≡ 0
  pub nothing_counted : amount ≡ 0
