-- What a server tells, one line after the other, and what it has served then.
use Rattle.std.proofs.Common.{◌≡◌, ◌≤◌, ◌-◌, ℕ, List, [], ◌∷◌, ◌++◌, Some, None, Option, Result, Ok, Err, length, take, inl, inr, ap, ◌∙◌, refl, sym, subst, arith, append-nil}
use Rattle.std.proofs.KnownBytes.{Appends-trans}
use Rattle.std.proofs.Math.Seq.{take-append-add}
use Rattle.std.proofs.Transfers.{starts_with_length}
use Rattle.std.proofs.lemmas.List.{length-append, take_all, take-append-le}
use Rattle.std.specs.Prelude.{OnErr, OnOk, option_map, unwrap_or}
use Rattle.std.specs.Io.{StartsWith}
use Rattle.std.specs.Io.KnownBytes.{Appends}
use Rattle.std.specs.declared.net.socket_addr.SocketAddr.{SocketAddr}
use Rattle.s3_config.specs.Settings.{Settings}
use Rattle.s3_settings.specs.Devices.{AppendsBeginning}
use Rattle.s3_settings.specs.declared.options.ServeOptions.{ServeOptions}
use Rattle.s3_settings.specs.declared.server.ServeMode.{ServeMode}
use Rattle.s3_settings.specs.Server.{IsServer}
use Rattle.s3_store.specs.Steps.{Standing}
use Rattle.s3_journal.specs.RecordedStore.{Journal}
use Rattle.s3_sockets.specs.Door.{Passed}
use Rattle.s3_sockets.specs.Network.{NetworkState}
use Rattle.s3_server.specs.Served.{AreCountedInPart, HasServedAs, HasServedAndTold, HasServedSo, IsBegun, IsCountedInPart, IsToldInPart, IsToldPlace, ServerRun, SoManyHaveWorked, WasAskedToListen, address_line, counts_of, doors_of, entries_line, entries_lines, most_rounds}

-- a beginning of what follows some bytes is one of all
pub starts_further : (front bytes taken : List ℕ) → StartsWith bytes taken → StartsWith (front ++ bytes) (front ++ taken)
starts_further front bytes taken h =
    ap (λ (n : ℕ). take n (front ++ bytes)) (length-append front taken) ∙ take-append-add front bytes (length taken) ∙ ap (λ (l : List ℕ). front ++ l) h

starts_before : (bytes more taken : List ℕ) → StartsWith bytes taken → StartsWith (bytes ++ more) taken
starts_before bytes more taken h = take-append-le (length taken) bytes more (starts_with_length bytes taken h) ∙ h

pub untold : (c : Option (List ℕ)) → Appends c c []
untold None = tt
untold (Some xs) = sym (append-nil xs)

-- an output that is as it was
pub nothing_told : {T E : Type 0} (r : Result T E) (most : ℕ) (c : Option (List ℕ)) → OnErr r (IsToldInPart most c c)
nothing_told (Ok x) most c = tt
nothing_told (Err e) most c = inl (untold c)

pub nothing_begun : {T E : Type 0} (r : Result T E) (c : Option (List ℕ)) (bytes : List ℕ) → OnErr r (AppendsBeginning c c bytes)
nothing_begun (Ok x) c bytes = tt
nothing_begun (Err e) c bytes = record { taken = []; first = refl; gained = untold c }

pub uncounted : (first least : ℕ) (c : Option (List ℕ)) → IsCountedInPart first least c c
uncounted first least c = (least, omega arith, record { taken = []; first = refl; gained = untold c })

pub nothing_counted : {T E : Type 0} (r : Result T E) (first least : ℕ) (c : Option (List ℕ)) → OnErr r (IsCountedInPart first least c c)
nothing_counted (Ok x) first least c = tt
nothing_counted (Err e) first least c = uncounted first least c

-- what was told, whatever comes of the call then
pub begun_still : {T E : Type 0} (r : Result T E) (most : ℕ) (before after : Option (List ℕ)) → IsToldInPart most before after → OnErr r (IsToldInPart most before after)
begun_still (Ok x) most before after part = tt
begun_still (Err e) most before after part = part

pub place_still : {T E : Type 0} (r : Result T E) (before after : Option (List ℕ)) → IsToldPlace before after → OnOk r (IsToldPlace before after)
place_still (Ok x) before after told = told
place_still (Err e) before after told = tt

-- the line of an address, or a beginning of it
pub place_told : {T E : Type 0} (r : Result T E) (before after : Option (List ℕ)) (place : SocketAddr) (bytes : List ℕ) → bytes ≡ address_line place
    → OnOk r (Appends before after bytes) → OnOk r (IsToldPlace before after)
place_told (Ok x) before after place bytes is told = (place, subst (Appends before after) is told)
place_told (Err e) before after place bytes is told = tt

pub place_begun : {T E : Type 0} (r : Result T E) (most : ℕ) (before after : Option (List ℕ)) (place : SocketAddr) (bytes : List ℕ) → bytes ≡ address_line place
    → OnErr r (AppendsBeginning before after bytes) → OnErr r (IsToldInPart most before after)
place_begun (Ok x) most before after place bytes is part = tt
place_begun (Err e) most before after place bytes is part =
    let line = subst (λ (b : List ℕ). AppendsBeginning before after b) is part in
    inr (place, [], omega arith, record { taken = line.taken; first = starts_before (address_line place) [] line.taken line.first; gained = line.gained })

-- that line without the others
pub place_alone : {T E : Type 0} (r : Result T E) (most : ℕ) (before after : Option (List ℕ)) → IsToldPlace before after → OnErr r (IsToldInPart most before after)
place_alone (Ok x) most before after told = tt
place_alone (Err e) most before after told =
    inr (
      told.0,
      [],
      omega arith,
      record {
        taken = address_line told.0;
        first = starts_before (address_line told.0) [] (address_line told.0) (take_all (length (address_line told.0)) (address_line told.0) (omega arith));
        gained = told.1;
      },
    )

-- the line of a round, or a beginning of it
pub counted : {T E : Type 0} (r : Result T E) (first number : ℕ) (before after : Option (List ℕ)) → OnErr r (AppendsBeginning before after (entries_line (number - first)))
    → OnErr r (IsCountedInPart first number before after)
counted (Ok x) first number before after part = tt
counted (Err e) first number before after part = (number, omega arith, part)

pub counted_before : {T E : Type 0} (r : Result T E) (first least number : ℕ) (before after : Option (List ℕ)) → least ≤ number → OnErr r (IsCountedInPart first number before after)
    → OnErr r (IsCountedInPart first least before after)
counted_before (Ok x) first least number before after low part = tt
counted_before (Err e) first least number before after low (entries, above, part) = (entries, omega (arith, low, above), part)

-- the lines of all rounds after that of the address, or a beginning of them
pub lines_told : {T E : Type 0} (r : Result T E) (settings : Settings) (base : Standing) (address : List ℕ) (workers many : ℕ) (old mid new : NetworkState) (earlier later : List ServerRun)
    (before between after : Option (List ℕ)) → WasAskedToListen address old mid → IsToldPlace before between
    → OnOk r ((left : Journal) × SoManyHaveWorked many settings base workers mid new earlier later between after left)
    → OnOk r (HasServedAndTold settings base address workers many old new earlier later before after)
lines_told (Ok x) settings base address workers many old mid new earlier later before between after listened place (left, (rounds, len, have, closed, rules)) = (
  rounds,
  record {
    asked = have.asked ∙ listened.asked;
    passed = have.passed ∙ ap (λ (ps : List Passed). ps ++ doors_of rounds) listened.closed;
    closed = closed;
    reported = have.reported;
    each = have.each;
    legal = have.legal;
  },
  len,
  (place.0, Appends-trans before between after (address_line place.0) (entries_lines 0 (counts_of rounds)) place.1 have.told),
)
lines_told (Err e) settings base address workers many old mid new earlier later before between after listened place all = tt

pub lines_begun : {T E : Type 0} (r : Result T E) (most : ℕ) (before between after : Option (List ℕ)) → IsToldPlace before between
    → OnErr r (AreCountedInPart most between after) → OnErr r (IsToldInPart most before after)
lines_begun (Ok x) most before between after place part = tt
lines_begun (Err e) most before between after place (counts, few, part) =
    inr (
      place.0,
      counts,
      few,
      record {
        taken = address_line place.0 ++ part.taken;
        first = starts_further (address_line place.0) (entries_lines 0 counts) part.taken part.first;
        gained = Appends-trans before between after (address_line place.0) part.taken place.1 part.gained;
      },
    )

-- the same with the options
pub served_as : {T E : Type 0} (r : Result T E) (known : List ℕ → Option (List ℕ)) (o : ServeOptions) (mode : ServeMode) (settings : Settings)
    (old new : NetworkState) (earlier later : List ServerRun) (before after : Option (List ℕ))
    → IsServer known o mode settings → OnOk r (HasServedSo settings mode old new earlier later before after)
    → OnOk r (HasServedAs known o old new earlier later before after)
served_as (Ok x) known o mode settings old new earlier later before after asked (base, begun, (rounds, served, many, lines)) =
    record { mode = mode; settings = settings; base = base; rounds = rounds; place = lines.0; asked = asked; begun = begun; served = served; many = many; told = lines.1 }
served_as (Err e) known o mode settings old new earlier later before after asked all = tt

pub begun_as : {T E : Type 0} (r : Result T E) (known : List ℕ → Option (List ℕ)) (o : ServeOptions) (mode : ServeMode) (settings : Settings) (before after : Option (List ℕ))
    → IsServer known o mode settings → OnErr r (IsToldInPart mode.rounds before after) → OnErr r (IsToldInPart (most_rounds o) before after)
begun_as (Ok x) known o mode settings before after asked part = tt
begun_as (Err e) known o mode settings before after asked part =
    subst (λ (most : ℕ). IsToldInPart most before after) (sym (ap (λ (rounds : Option ℕ). unwrap_or rounds 0) asked.runs.rounds)) part

-- the same from the store with which it begins
pub served_so : {T E : Type 0} (r : Result T E) (mode : ServeMode) (settings : Settings) (base : Standing)
    (old new : NetworkState) (earlier later : List ServerRun) (before after : Option (List ℕ))
    → IsBegun mode.folder settings base → OnOk r (HasServedAndTold settings base mode.address.now mode.workers mode.rounds old new earlier later before after)
    → OnOk r (HasServedSo settings mode old new earlier later before after)
served_so (Ok x) mode settings base old new earlier later before after begun all = (base, begun, all)
served_so (Err e) mode settings base old new earlier later before after begun all = tt

pub ruleset telling = (nothing_told, nothing_begun, nothing_counted, begun_still, place_still, place_told, place_begun, place_alone, counted, counted_before, lines_told, lines_begun, served_as, begun_as, served_so)
