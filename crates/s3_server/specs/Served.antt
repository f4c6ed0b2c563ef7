-- What a server has done that has ended, and what it has told: the headline for a server.
use Rattle.std.specs.Prelude.{◌≡◌, ◌⊎◌, ◌≤◌, ◌+◌, ◌-◌, ℕ, List, [], ◌∷◌, ◌++◌, map, flat_map, Option, Some, None, option_map, unwrap_or, codes, length}
use Rattle.std.specs.Borrow.{Bor}
use Rattle.std.specs.Fmt.{decimal}
use Rattle.std.specs.Io.KnownBytes.{Appends}
use Rattle.std.specs.List.{AllByRecursion}
use Rattle.std.specs.Net.Text.{socket_text}
use Rattle.std.specs.declared.net.socket_addr.SocketAddr.{SocketAddr}
use mathlib.Core.List.{IsPrefix}
use Rattle.s3_text.specs.Characters.{line_feed}
use Rattle.s3_config.specs.Settings.{Settings}
use Rattle.s3_settings.specs.declared.options.ServeOptions.{ServeOptions}
use Rattle.s3_settings.specs.Devices.{AppendsBeginning}
use Rattle.s3_records.specs.Catalogue.{opening}
use Rattle.s3_store.specs.Steps.{Standing, opened}
use Rattle.s3_keepers.specs.Begun.{HasBuckets}
use Rattle.s3_machine.specs.Bases.{IsSoundBase}
use Rattle.s3_machine.specs.History.{Legal, after}
use Rattle.s3_machine.specs.Rules.{rules_of}
use Rattle.s3_journal.specs.Noted.{front_of}
use Rattle.s3_journal.specs.RecordedStore.{Journal, KeepsHistory}
use Rattle.s3_journal.specs.Recorded.{Recorded, history_of}
use Rattle.s3_journal.specs.Gone.{Gone, AreApart, AreWhole, count_of}
use Rattle.s3_journal.specs.Roster.{NobodyIsOut, Rostered}
use Rattle.s3_settings.specs.declared.server.ServeMode.{ServeMode}
use Rattle.s3_settings.specs.Server.{IsServer, rounds_asked}
use Rattle.s3_driver.specs.Account.{Account, Fits}
use Rattle.s3_sockets.specs.Door.{AreNamed, HasPassed, Passed, numbers_of, times, traffic_told}
use Rattle.s3_sockets.specs.Network.{AllAreClosed, NetworkState, all_back, all_handed}

-- what a server has reported of a round that has ended: the history of its store in that round, as much of it as was committed, and the
-- connections that have left it
pub record ServerRun : Type 0 where
  pub history : List Recorded
  pub committed : List Recorded
  pub gone : List (Gone Account)

abbrev pub nothing_done : ServerRun
nothing_done = record { history = []; committed = []; gone = [] }

-- a round that has ended: the doors that were closed, and what was reported
pub record Round : Type 0 where
  pub doors : List Passed
  pub run : ServerRun

-- A round has served: one door was opened for each of so many workers, and closed.
--
-- The sockets that the doors handed out are those of the accounts, each once. Each was taken back, and its account has just the traffic
-- that it had then, under its own name.
--
-- Each connection has a number of its own; the entries of this number are just those that its commands made, in their order; its
-- account fits them: what it wrote is, message by message, the printed answer of an entry or a refusal, for the bytes that it was given,
-- whole where it was closed (or memory ran out, which the output tells), and else a beginning of that. And there are no other entries.
--
-- The history begins with what was committed of it. What was written is a beginning of the output for the connection's first entries
-- alone, which are among those that were committed: no answer of another entry was told.
pub record IsRound (settings : Settings) (workers : ℕ) (round : Round) : Type 0 where
  pub each_worker : length round.doors ≡ workers
  pub handed : (n : ℕ) → times n (all_handed round.doors) ≡ times n (numbers_of round.run.gone)
  pub back : all_back round.doors ≡ traffic_told round.run.gone
  pub named : AreNamed round.run.gone
  pub apart : AreApart round.run.gone
  pub committed : IsPrefix round.run.committed round.run.history
  pub each : AreWhole (Fits settings) round.run.history round.run.committed round.run.gone
  pub count : length round.run.history ≡ count_of round.run.gone

-- of all rounds, in their order: the doors, what was reported, and the entries; and how many entries each has
abbrev pub doors_of : List Round → List Passed
doors_of rounds = flat_map (λ (round : Round). round.doors) rounds

abbrev pub runs_of : List Round → List ServerRun
runs_of rounds = map (λ (round : Round). round.run) rounds

abbrev pub entries_of : List Round → List Recorded
entries_of rounds = flat_map (λ (round : Round). round.run.history) rounds

abbrev pub counts_of : List Round → List ℕ
counts_of rounds = map (λ (round : Round). length round.run.history) rounds

-- A server has served, in these rounds: by the network before and after, and by what was reported before and after. The network was
-- asked to listen on this address, once. The doors that were closed are those of the rounds, in their order, and no door is open. Of
-- each round it was reported what it has done.
--
-- The entries of all rounds, joined, are one legal history, from this store on: each round goes on where the one before it ended.
pub record HasServed (settings : Settings) (base : Standing) (address : List ℕ) (workers : ℕ) (before after : NetworkState) (earlier later : List ServerRun)
    (rounds : List Round) : Type 0 where
  pub asked : after.asked ≡ before.asked ++ address ∷ []
  pub passed : after.closed ≡ before.closed ++ doors_of rounds
  pub closed : AllAreClosed after
  pub reported : later ≡ earlier ++ runs_of rounds
  pub each : AllByRecursion (IsRound settings workers) rounds
  pub legal : Legal (rules_of settings) base.state base.number (history_of (entries_of rounds))

-- the line that tells where the server listens
abbrev pub address_line : SocketAddr → List ℕ
address_line place = codes "listening " ++ socket_text place ++ line_feed ∷ []

-- the line that tells how many entries there are
abbrev pub entries_line : ℕ → List ℕ
entries_line entries = codes "entries " ++ decimal entries ++ line_feed ∷ []

-- the lines that tell it after each of some rounds, which have so many entries, behind earlier ones that have so many: each tells the
-- sum so far
abbrev pub entries_lines : ℕ → List ℕ → List ℕ
entries_lines earlier [] = []
entries_lines earlier (count ∷ counts) = entries_line (earlier + count) ++ entries_lines (earlier + count) counts

-- The store with which a server begins: without a folder it has the first buckets and no more, and its next entry is the first one.
-- In a folder it is what a keeper opened: the first buckets are there, and it is a sound base for entries from its next one on, so
-- that all that is known of histories from one holds of its own.
abbrev pub IsBegun : Option (Bor (List ℕ)) → Settings → Standing → Type 0
IsBegun None settings base = base ≡ opened (opening settings.buckets)
IsBegun (Some path) settings base = HasBuckets settings.buckets base.state × IsSoundBase base.state base.number

-- so with the settings, on the address, from the store and in as many rounds as the options ask for; and the output, over what it holds
-- before and after, gained a line with an address, and for each round one with the number of the entries so far
pub record HasServedAs (known : List ℕ → Option (List ℕ)) (o : ServeOptions) (before after : NetworkState) (earlier later : List ServerRun)
    (held holds : Option (List ℕ)) : Type 0 where
  pub mode : ServeMode
  pub settings : Settings
  pub base : Standing
  pub rounds : List Round
  pub place : SocketAddr
  pub asked : IsServer known o mode settings
  pub begun : IsBegun mode.folder settings base
  pub served : HasServed settings base mode.address.now mode.workers before after earlier later rounds
  pub many : length rounds ≡ mode.rounds
  pub told : Appends held holds (address_line place ++ entries_lines 0 (counts_of rounds))

-- how many rounds the options ask for; none where they say no such number
abbrev pub most_rounds : ServeOptions → ℕ
most_rounds o = unwrap_or (rounds_asked (option_map (λ text. text.now) o.rounds)) 0

-- the output gained a beginning of such lines: nothing, or with the address of some place, and of no more rounds than so many
abbrev pub IsToldInPart : ℕ → Option (List ℕ) → Option (List ℕ) → Type 0
IsToldInPart most before after =
    Appends before after []
    ⊎ ((place : SocketAddr) × (counts : List ℕ) × (length counts ≤ most) × AppendsBeginning before after (address_line place ++ entries_lines 0 counts))

-- The rest serves clauses of private functions alone.

-- it gained the line of some address
abbrev pub IsToldPlace : Option (List ℕ) → Option (List ℕ) → Type 0
IsToldPlace before after = (place : SocketAddr) × Appends before after (address_line place)

-- it gained the line of some address, and those of rounds with so many entries
abbrev pub IsToldLines : List ℕ → Option (List ℕ) → Option (List ℕ) → Type 0
IsToldLines counts before after = (place : SocketAddr) × Appends before after (address_line place ++ entries_lines 0 counts)

-- it gained a beginning of the lines of no more rounds than so many
abbrev pub AreCountedInPart : ℕ → Option (List ℕ) → Option (List ℕ) → Type 0
AreCountedInPart most before after = (counts : List ℕ) × (length counts ≤ most) × AppendsBeginning before after (entries_lines 0 counts)

-- it gained a beginning of the line of the entries from a first number on, which are at least those up to another number
abbrev pub IsCountedInPart : ℕ → ℕ → Option (List ℕ) → Option (List ℕ) → Type 0
IsCountedInPart first least before after = (number : ℕ) × (least ≤ number) × AppendsBeginning before after (entries_line (number - first))

-- the server has served in so many rounds, and told all lines
abbrev pub HasServedAndTold : Settings → Standing → List ℕ → ℕ → ℕ → NetworkState → NetworkState → List ServerRun → List ServerRun → Option (List ℕ) → Option (List ℕ) → Type 0
HasServedAndTold settings base address workers many before after earlier later held holds =
    (rounds : List Round) × HasServed settings base address workers before after earlier later rounds × (length rounds ≡ many) × IsToldLines (counts_of rounds) held holds

-- so from the store with which a server of this mode begins
abbrev pub HasServedSo : Settings → ServeMode → NetworkState → NetworkState → List ServerRun → List ServerRun → Option (List ℕ) → Option (List ℕ) → Type 0
HasServedSo settings mode before after earlier later held holds =
    (base : Standing) × IsBegun mode.folder settings base
    × HasServedAndTold settings base mode.address.now mode.workers mode.rounds before after earlier later held holds

-- doors were closed whose rosters are these, each with what its door did
abbrev pub AllHavePassed : List Passed → List (Rostered Account) → Type 0
AllHavePassed [] [] = Unit {0}
AllHavePassed [] (roster ∷ rosters) = ⊥
AllHavePassed (passed ∷ doors) [] = ⊥
AllHavePassed (passed ∷ doors) (roster ∷ rosters) = HasPassed passed roster × AllHavePassed doors rosters

pub record HaveClosed (before after : NetworkState) (rosters : List (Rostered Account)) : Type 0 where
  pub doors : List Passed
  pub passed : after.closed ≡ before.closed ++ doors
  pub each : AllHavePassed doors rosters
  pub asked : after.asked ≡ before.asked

-- a shared store left this recorded store and these connections, which is reported
pub record HasLeft (settings : Settings) (base : Standing) (gone : List (Gone Account)) (earlier later : List ServerRun) (left : Journal) : Type 0 where
  pub reported : later ≡ earlier ++ record { history = left.entries; committed = front_of left.committed; gone = gone } ∷ []
  pub rules : left.rules ≡ rules_of settings
  pub from : left.opening ≡ base
  pub keeps : KeepsHistory left
  pub committed : IsPrefix (front_of left.committed) left.entries
  pub apart : AreApart gone
  pub each : AreWhole (Fits settings) left.entries (front_of left.committed) gone
  pub count : length left.entries ≡ count_of gone

-- a round has served from this store on, on an address on which it was asked to listen before, and left this recorded store
pub record HasWorked (settings : Settings) (base : Standing) (workers : ℕ) (before after : NetworkState) (earlier later : List ServerRun) (left : Journal) : Type 0 where
  pub round : Round
  pub is : IsRound settings workers round
  pub passed : after.closed ≡ before.closed ++ round.doors
  pub closed : AllAreClosed after
  pub asked : after.asked ≡ before.asked
  pub reported : later ≡ earlier ++ round.run ∷ []
  pub rules : left.rules ≡ rules_of settings
  pub from : left.opening ≡ base
  pub keeps : KeepsHistory left
  pub entries : left.entries ≡ round.run.history

-- these rounds have, one after another, and left this store; and the output gained the lines that tell how many entries there were
pub record HaveWorked (settings : Settings) (base : Standing) (workers : ℕ) (old new : NetworkState) (earlier later : List ServerRun) (held holds : Option (List ℕ))
    (rounds : List Round) (store : Standing) : Type 0 where
  pub passed : new.closed ≡ old.closed ++ doors_of rounds
  pub asked : new.asked ≡ old.asked
  pub reported : later ≡ earlier ++ runs_of rounds
  pub each : AllByRecursion (IsRound settings workers) rounds
  pub legal : Legal (rules_of settings) base.state base.number (history_of (entries_of rounds))
  pub leaves : after (rules_of settings) base.state (history_of (entries_of rounds)) ≡ store.state
  pub counts : store.number ≡ base.number + length (entries_of rounds)
  pub told : Appends held holds (entries_lines 0 (counts_of rounds))

-- so many rounds have, no door is open, and this recorded store is left of the last
abbrev pub SoManyHaveWorked : ℕ → Settings → Standing → ℕ → NetworkState → NetworkState → List ServerRun → List ServerRun → Option (List ℕ) → Option (List ℕ) → Journal → Type 0
SoManyHaveWorked many settings base workers old new earlier later held holds left =
    (rounds : List Round) × (length rounds ≡ many) × HaveWorked settings base workers old new earlier later held holds rounds left.store
    × AllAreClosed new × (left.rules ≡ rules_of settings)

-- it was asked to listen on an address, and no door was closed
pub record WasAskedToListen (address : List ℕ) (before after : NetworkState) : Type 0 where
  pub asked : after.asked ≡ before.asked ++ address ∷ []
  pub closed : after.closed ≡ before.closed

-- rosters to which nobody has come
abbrev pub AreFresh : List (Rostered Account) → Type 0
AreFresh [] = Unit {0}
AreFresh (roster ∷ rosters) = NobodyIsOut roster × (roster.gone ≡ []) × AreFresh rosters
