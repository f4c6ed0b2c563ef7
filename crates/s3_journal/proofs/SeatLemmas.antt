-- The entries of one seat in the history, and what a seat keeps.
use Rattle.std.proofs.Common.{◌≡◌, ◌<◌, ◌≤◌, ◌+◌, ◌⊎◌, ℕ, Bool, cond, eqb, eq-eqb, List, [], ◌∷◌, ◌++◌, append_assoc, append-nil, length, filter, ap, sym, refl, ◌∙◌, subst, arith, inl, inr}
use Rattle.std.proofs.lemmas.List.{length-append, map-append, length_push}
use Rattle.std.proofs.lemmas.List.Elements.{filter-append}
use mathlib.Core.List.{IsPrefix}
use Rattle.s3_history.specs.Log.{Origin}
use Rattle.s3_machine.specs.History.{Entry}
use Rattle.s3_journal.specs.Noted.{Known}
use Rattle.s3_journal.specs.Recorded.{Recorded, entries_of_seat, history_of}
use Rattle.s3_journal.specs.SharedStore.{Base, IsAmong, IsSeat, Seated}
use Rattle.s3_journal.proofs.AmongLemmas.{among_with_more, among_push, none_among}

-- the entries of a seat, with more entries
seat_join : (seat : ℕ) (entries more : List Recorded) → entries_of_seat seat (entries ++ more) ≡ entries_of_seat seat entries ++ entries_of_seat seat more
seat_join seat entries more =
    let own : Recorded → Bool = λ (r : Recorded). eqb r.seat seat in
    ap history_of (filter-append own entries more) ∙ map-append (λ (r : Recorded). r.entry) (filter own entries) (filter own more)

-- of one entry, which is its own
seat_own : (seat : ℕ) (r : Recorded) → r.seat ≡ seat → entries_of_seat seat (r ∷ []) ≡ r.entry ∷ []
seat_own seat r own = ap (λ (b : Bool). history_of (cond b (r ∷ []) [])) (eq-eqb r.seat seat own)

-- what is among a seat's entries stays so as the history grows
pub among_later : (seat : ℕ) (mine : List Entry) (seen entries : List Recorded) → IsPrefix seen entries
    → IsAmong mine (entries_of_seat seat seen) → IsAmong mine (entries_of_seat seat entries)
among_later seat mine seen entries later among =
    subst (λ (es : List Recorded). IsAmong mine (entries_of_seat seat es)) later.1
    (subst (λ (part : List Entry). IsAmong mine part) (sym (seat_join seat seen later.0))
    (among_with_more mine (entries_of_seat seat seen) (entries_of_seat seat later.0) among))

-- and with one more entry of the seat's
among_next : (seat : ℕ) (mine : List Entry) (earlier : List Recorded) (r : Recorded) → r.seat ≡ seat
    → IsAmong mine (entries_of_seat seat earlier) → IsAmong (mine ++ r.entry ∷ []) (entries_of_seat seat (earlier ++ r ∷ []))
among_next seat mine earlier r own among =
    let part : entries_of_seat seat (earlier ++ r ∷ []) ≡ entries_of_seat seat earlier ++ r.entry ∷ [] =
    seat_join seat earlier (r ∷ []) ∙ ap (λ (one : List Entry). entries_of_seat seat earlier ++ one) (seat_own seat r own) in
    subst (λ (es : List Entry). IsAmong (mine ++ r.entry ∷ []) es) (sym part) (among_push mine (entries_of_seat seat earlier) r.entry among)

-- no entries are a beginning of any
none_first : (mine : List Entry) → IsPrefix [] mine
none_first mine = (mine, refl)

first_push : (some mine : List Entry) (e : Entry) → IsPrefix some mine → IsPrefix some (mine ++ e ∷ [])
first_push some mine e begins = (begins.0 ++ e ∷ [], sym (append_assoc some begins.0 (e ∷ [])) ∙ ap (λ (es : List Entry). es ++ e ∷ []) begins.1)

-- a new seat is one
pub seat_begins : (base : Base) (number : ℕ) (calls committed : List Entry) (seen : List Recorded) (front : Known) (origin : Origin) (shares counted : ℕ) → calls ≡ [] → committed ≡ []
    → origin ≡ base.origin → front.origin ≡ base.origin → shares ≡ 1 → counted ≡ 0
    → IsSeat base (record { number = number; mine = calls; seen = seen; committed = committed }) origin front shares counted
seat_begins base number calls committed seen front origin shares counted none nobody same alike one nothing = record {
  same = same;
  alike = alike;
  one = one;
  count = nothing ∙ sym (ap length none);
  among = subst (λ (es : List Entry). IsAmong es (entries_of_seat number seen)) (sym none) (none_among (entries_of_seat number seen));
  first = subst (λ (es : List Entry). IsPrefix es calls) (sym nobody) (none_first calls);
  committed = subst (λ (es : List Entry). IsAmong es (entries_of_seat number front.committed)) (sym nobody) (none_among (entries_of_seat number front.committed));
}

-- a seat that has seen more stays one
pub seat_sees : (base : Base) (seat : Seated) (known : List Recorded) (front : Known) (was origin : Origin) (shares counted : ℕ) → IsSeat base seat was front shares counted
    → IsPrefix seat.seen known → origin ≡ base.origin
    → IsSeat base (record { number = seat.number; mine = seat.mine; seen = known; committed = seat.committed }) origin front shares counted
seat_sees base seat known front was origin shares counted is more same = record {
  same = same;
  alike = is.alike;
  one = is.one;
  count = is.count;
  among = among_later seat.number seat.mine seat.seen known more is.among;
  first = is.first;
  committed = is.committed;
}

-- and so does one that takes an entry of its own, which ends what it has then seen
pub seat_takes : (base : Base) (seat : Seated) (r : Recorded) (earlier known : List Recorded) (front : Known) (mine : List Entry) (was origin : Origin) (shares shares' counted counted' : ℕ)
    → IsSeat base seat was front shares counted → r.seat ≡ seat.number → IsPrefix seat.seen earlier → known ≡ earlier ++ r ∷ [] → mine ≡ seat.mine ++ r.entry ∷ []
    → origin ≡ base.origin → shares' ≡ shares → counted' ≡ counted + 1
    → IsSeat base (record { number = seat.number; mine = mine; seen = known; committed = seat.committed }) origin front shares' counted'
seat_takes base seat r earlier known front mine was origin shares shares' counted counted' is own later ends adds same alike more =
    let among : IsAmong (seat.mine ++ r.entry ∷ []) (entries_of_seat seat.number (earlier ++ r ∷ [])) =
    among_next seat.number seat.mine earlier r own (among_later seat.number seat.mine seat.seen earlier later is.among) in
    let longer = length_push seat.mine r.entry in
    let long = ap length adds in
    let count = is.count in
    record {
      same = same;
      alike = is.alike;
      one = alike ∙ is.one;
      count = omega (arith, more, count, longer, long);
      among = subst (λ (es : List Recorded). IsAmong mine (entries_of_seat seat.number es)) (sym ends)
          (subst (λ (xs : List Entry). IsAmong xs (entries_of_seat seat.number (earlier ++ r ∷ []))) (sym adds) among);
      first = subst (λ (xs : List Entry). IsPrefix seat.committed xs) (sym adds) (first_push seat.committed seat.mine r.entry is.first);
      committed = is.committed;
    }

-- of two beginnings of one history the one that isn't longer begins the other
length_begun : (some all : List Recorded) → IsPrefix some all → length some ≤ length all
length_begun some all begins = let is = sym (ap length begins.1) in let sum = length-append some begins.0 in omega (arith, is, sum)

no_more : (some rest : List Recorded) → length (some ++ rest) ≤ length some → IsPrefix (some ++ rest) some
no_more some [] few = ([], append-nil (some ++ []) ∙ append-nil some)
no_more some (r ∷ rest) few = let sum = length-append some (r ∷ rest) in absurd (omega (arith, few, sum))

begins_longer : (seen front : List Recorded) → IsPrefix seen front ⊎ IsPrefix front seen → length seen ≤ length front → IsPrefix seen front
begins_longer seen front (inl begins) few = begins
begins_longer seen front (inr begins) few =
    subst (λ (es : List Recorded). IsPrefix es front) begins.1
    (no_more front begins.0 (subst (λ (es : List Recorded). length es ≤ length front) (sym begins.1) few))

-- its last entry was committed, and so all its entries
pub seat_settles : (base : Base) (seat : Seated) (front known : Known) (committed : List Recorded) (mine : List Entry) (origin : Origin) (answered number shares counted : ℕ)
    → IsSeat base seat origin front shares counted → mine ≡ seat.mine
    → answered + 1 ≡ base.store.number + length seat.seen → number ≡ base.store.number + length committed → answered < number
    → IsPrefix seat.seen committed ⊎ IsPrefix committed seat.seen → known ≡ record { origin = base.origin; entries = committed; committed = committed }
    → IsSeat base (record { number = seat.number; mine = seat.mine; seen = seat.seen; committed = mine }) origin known shares counted
seat_settles base seat front known committed mine origin answered number shares counted is all last next before either same =
    let few : length seat.seen ≤ length committed = omega (arith, last, next, before) in
    let among = among_later seat.number seat.mine seat.seen committed (begins_longer seat.seen committed either few) is.among in
    record {
      same = is.same;
      alike = ap (λ (k : Known). k.origin) same;
      one = is.one;
      count = is.count;
      among = is.among;
      first = subst (λ (es : List Entry). IsPrefix es seat.mine) (sym all) ([], append-nil seat.mine);
      committed = subst (λ (es : List Entry). IsAmong es (entries_of_seat seat.number known.committed)) (sym all)
          (subst (λ (es : List Recorded). IsAmong seat.mine (entries_of_seat seat.number es)) (sym (ap (λ (k : Known). k.committed) same)) among);
    }
