-- Why the entries of those who have left are all entries, where their counts say so.
use Rattle.std.proofs.Common.{◌≡◌, ◌≢◌, ◌≤◌, ◌+◌, ℕ, suc, Bool, true, false, cond, eqb, List, [], ◌∷◌, length, filter, ap, sym, subst, ◌∙◌, arith, refl}
use Rattle.std.proofs.lemmas.Bool.Decides.{nat_tests}
use mathlib.Core.List.{IsPrefix}
use Rattle.s3_machine.specs.History.{Entry}
use Rattle.s3_journal.specs.RecordedStore.{Journal, KeepsHistory}
use Rattle.s3_journal.specs.Recorded.{Recorded, entries_of_seat, history_of}
use Rattle.s3_journal.specs.Noted.{front_of}
use Rattle.s3_journal.specs.SharedStore.{Base, Continues, IsAmong}
use Rattle.s3_journal.specs.Gone.{Gone, AreApart, AreWhole, IsApart, IsClosed, count_of}
use Rattle.s3_journal.specs.Roster.{AreGathered, HasGathered, Rostered, all_gone, first_of}
use Rattle.s3_journal.proofs.AmongLemmas.{among_length, among_all}

-- the entries of all others than this seat
abbrev others : ℕ → List Recorded → List Recorded
others n [] = []
others n (r ∷ entries) = cond (eqb r.seat n) (others n entries) (r ∷ others n entries)

-- the entries of a seat, one at a time
abbrev of_seat : ℕ → List Recorded → List Entry
of_seat n [] = []
of_seat n (r ∷ entries) = cond (eqb r.seat n) (r.entry ∷ of_seat n entries) (of_seat n entries)

of_seat_next : (b : Bool) (r : Recorded) (entries : List Recorded) → history_of (cond b (r ∷ entries) entries) ≡ cond b (r.entry ∷ history_of entries) (history_of entries)
of_seat_next true r entries = refl
of_seat_next false r entries = refl

of_seat_is : (n : ℕ) (entries : List Recorded) → entries_of_seat n entries ≡ of_seat n entries
of_seat_is n [] = refl
of_seat_is n (r ∷ entries) =
    of_seat_next (eqb r.seat n) r (filter (λ (x : Recorded). eqb x.seat n) entries)
    ∙ ap (λ (es : List Entry). cond (eqb r.seat n) (r.entry ∷ es) es) (of_seat_is n entries)

split_next : (b : Bool) (r : Recorded) (own : List Entry) (rest entries : List Recorded) → length own + length rest ≡ length entries
    → length (cond b (r.entry ∷ own) own) + length (cond b rest (r ∷ rest)) ≡ suc (length entries)
split_next true r own rest entries is = omega (arith, is)
split_next false r own rest entries is = omega (arith, is)

split_count : (n : ℕ) (entries : List Recorded) → length (of_seat n entries) + length (others n entries) ≡ length entries
split_count n [] = refl
split_count n (r ∷ entries) = split_next (eqb r.seat n) r (of_seat n entries) (others n entries) entries (split_count n entries)

stay_next : (m n : ℕ) (r : Recorded) (of_n of_m : Bool) (rest entries : List Recorded) → m ≢ n → eqb r.seat n ≡ of_n → eqb r.seat m ≡ of_m
    → of_seat m rest ≡ of_seat m entries → of_seat m (cond of_n rest (r ∷ rest)) ≡ cond of_m (r.entry ∷ of_seat m entries) (of_seat m entries)
stay_next m n r true true rest entries other is_n is_m same = absurd (grind (arith, nat_tests, is_n, is_m, other))
stay_next m n r true false rest entries other is_n is_m same = same
stay_next m n r false of_m rest entries other is_n is_m same =
    ap (λ (b : Bool). cond b (r.entry ∷ of_seat m rest) (of_seat m rest)) is_m ∙ ap (λ (es : List Entry). cond of_m (r.entry ∷ es) es) same

others_stay : (m n : ℕ) (entries : List Recorded) → m ≢ n → of_seat m (others n entries) ≡ of_seat m entries
others_stay m n [] other = refl
others_stay m n (r ∷ entries) other =
    stay_next m n r (eqb r.seat n) (eqb r.seat m) (others n entries) entries other refl refl (others_stay m n entries other)

module _ {P : Type 0} where
  -- they were given some of the entries of their numbers, or all of them
  abbrev AreAmong : List Recorded → List (Gone P) → Type 0
  AreAmong entries [] = Unit {0}
  AreAmong entries (g ∷ gone) = IsAmong g.calls (of_seat g.number entries) × AreAmong entries gone

  abbrev AreAll : List Recorded → List (Gone P) → Type 0
  AreAll entries [] = Unit {0}
  AreAll entries (g ∷ gone) = (of_seat g.number entries ≡ g.calls) × AreAll entries gone

  among_others : (n : ℕ) (entries : List Recorded) (gone : List (Gone P)) → IsApart n gone → AreAmong entries gone → AreAmong (others n entries) gone
  among_others n entries [] apart are = tt
  among_others n entries (g ∷ gone) apart are = (
    subst (λ (es : List Entry). IsAmong g.calls es) (sym (others_stay g.number n entries apart.0)) are.0,
    among_others n entries gone apart.1 are.1,
  )

  all_others : (n : ℕ) (entries : List Recorded) (gone : List (Gone P)) → IsApart n gone → AreAll (others n entries) gone → AreAll entries gone
  all_others n entries [] apart are = tt
  all_others n entries (g ∷ gone) apart are =
      (sym (others_stay g.number n entries apart.0) ∙ are.0, all_others n entries gone apart.1 are.1)

  -- whose numbers differ were given no more than there is
  given_le : (entries : List Recorded) (gone : List (Gone P)) → AreApart gone → AreAmong entries gone → count_of gone ≤ length entries
  given_le entries [] apart are = omega arith
  given_le entries (g ∷ gone) apart are =
      let few = among_length g.calls (of_seat g.number entries) are.0 in
      let rest = given_le (others g.number entries) gone apart.1 (among_others g.number entries gone apart.0 are.1) in
      let all = split_count g.number entries in
      omega (arith, few, rest, all)

  -- where they were given as much as there is, each was given all that there is of it
  given_all : (entries : List Recorded) (gone : List (Gone P)) → AreApart gone → AreAmong entries gone → length entries ≤ count_of gone → AreAll entries gone
  given_all entries [] apart are many = tt
  given_all entries (g ∷ gone) apart are many =
      let few = among_length g.calls (of_seat g.number entries) are.0 in
      let left = among_others g.number entries gone apart.0 are.1 in
      let rest = given_le (others g.number entries) gone apart.1 left in
      let all = split_count g.number entries in (
        among_all g.calls (of_seat g.number entries) are.0 (omega (arith, rest, all, many)),
        all_others g.number entries gone apart.0 (given_all (others g.number entries) gone apart.1 left (omega (arith, few, all, many))),
      )

  module _ (fits : P → List Entry → List Entry → Type 0) (entries front : List Recorded) (first : ℕ) where
    gone_among : (gone : List (Gone P)) → AreGathered fits entries front first gone → AreAmong entries gone
    gone_among [] are = tt
    gone_among (g ∷ gone) are =
        (subst (λ (es : List Entry). IsAmong g.calls es) (of_seat_is g.number entries) are.0.among, gone_among gone are.1)

    whole : (gone : List (Gone P)) → AreGathered fits entries front first gone → AreAll entries gone → AreWhole fits entries front gone
    whole [] are all = tt
    whole (g ∷ gone) are all =
        (record { all = of_seat_is g.number entries ∙ all.0; told = are.0.told; seen = are.0.begins; first = are.0.own; committed = are.0.committed }, whole gone are.1 all.1)

  -- where all rosters came back, and their shares count as many entries as there are
  pub is_closed : (fits : P → List Entry → List Entry → Type 0) (base : Base) (recorded_store : Journal) (rosters : List (Rostered P)) (index parts counted all : ℕ)
      → HasGathered fits recorded_store.entries (front_of recorded_store.committed) index rosters parts counted → Continues base recorded_store → KeepsHistory recorded_store
      → IsPrefix (front_of recorded_store.committed) recorded_store.entries → length recorded_store.entries ≡ all → counted ≡ all
      → IsClosed fits base recorded_store (all_gone rosters)
  is_closed fits base recorded_store rosters index parts counted all gathered continues keeps committed same total =
      let given = gathered.given in
      let gone = all_gone rosters in record {
        continues = continues;
        keeps = keeps;
        committed = committed;
        apart = gathered.apart;
        each = whole fits recorded_store.entries (front_of recorded_store.committed) (first_of index) gone gathered.each
            (given_all recorded_store.entries gone gathered.apart (gone_among fits recorded_store.entries (front_of recorded_store.committed) (first_of index) gone gathered.each) (omega (arith, given, same, total)));
        count = omega (arith, given, same, total);
      }
