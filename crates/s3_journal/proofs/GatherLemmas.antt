-- Rosters, when they are handed out and when they come back.
use Rattle.std.proofs.Common.{◌≡◌, ◌<◌, ◌≤◌, ◌+◌, ◌||◌, ◌&&◌, ℕ, Bool, true, false, eqb, List, [], ◌∷◌, ◌++◌, length, append_assoc, ap, sym, subst, ◌∙◌, arith, refl}
use Rattle.std.proofs.lemmas.Bool.Decides.{nat_tests}
use Rattle.std.proofs.lemmas.List.{length_push}
use Rattle.std.specs.Ordering.{nat_cmp}
use Rattle.std.specs.List.{list_any}
use Rattle.std.specs.BTreeMap.{is_at}
use Rattle.std.specs.BTreeSet.{btree_set_len}
use mathlib.Core.List.{IsPrefix}
use Rattle.s3_history.specs.Log.{Origin}
use Rattle.s3_machine.specs.History.{Entry}
use Rattle.s3_journal.specs.Recorded.{Recorded}
use Rattle.s3_journal.specs.SharedStore.{Base}
use Rattle.s3_journal.specs.Gone.{Gone, AreApart, IsApart, count_of}
use Rattle.s3_journal.specs.Roster.{AreBack, AreGathered, AreGone, AreNew, HasGathered, IsNew, IsRoster, NobodyIsOut, Numbered, Rostered, all_gone, first_of, is_out}
use Rattle.s3_journal.proofs.GoneLemmas.{begins_later}
use Rattle.s3_journal.proofs.SeatLemmas.{among_later}

-- a number is at its own place
at_own : (k : ℕ) → is_at (nat_cmp k) k ≡ true
at_own k = grind (arith, nat_tests)

-- where no number is in a set, the set is empty
no_keys : (ks : List ℕ) → ((n : ℕ) → list_any (is_at (nat_cmp n)) ks ≡ false) → length ks ≡ 0
no_keys [] none = refl
no_keys (k ∷ ks) none = absurd (let not = none k in let own = ap (λ (b : Bool). b || list_any (is_at (nat_cmp k)) ks) (at_own k) in cc)

pub none_out : (numbers : Numbered) → ((n : ℕ) → is_out numbers n ≡ false) → btree_set_len numbers.out ≡ 0
none_out numbers none = no_keys numbers.out.keys none

-- and where a set is empty, no number is in it
no_key : (n : ℕ) (ks : List ℕ) → length ks ≡ 0 → list_any (is_at (nat_cmp n)) ks ≡ false
no_key n [] none = refl
no_key n (k ∷ ks) none = absurd (omega (arith, none))

pub nobody_out : (numbers : Numbered) → btree_set_len numbers.out ≡ 0 → (n : ℕ) → is_out numbers n ≡ false
nobody_out numbers none n = no_key n numbers.out.keys none

-- a test of a place and of how many are out
pub both_hold : (index place len : ℕ) (result : Bool) → result ≡ (eqb index place && eqb len 0) → index ≡ place → len ≡ 0 → result ≡ true
both_hold index place len result is same none = grind (arith, nat_tests, is, same, none)

pub holds_place : (index place len : ℕ) (result : Bool) → result ≡ (eqb index place && eqb len 0) → result ≡ true → index ≡ place
holds_place index place len result is was = grind (arith, nat_tests, is, was)

pub holds_none : (index place len : ℕ) (result : Bool) → result ≡ (eqb index place && eqb len 0) → result ≡ true → len ≡ 0
holds_none index place len result is was = grind (arith, nat_tests, is, was)

module _ {P : Type 0} where
  -- one more new roster
  new_push : (index : ℕ) (rosters : List (Rostered P)) (roster : Rostered P) → AreNew index rosters → IsNew (index + length rosters) roster
      → AreNew index (rosters ++ roster ∷ [])
  new_push index [] roster are is = (subst (λ (i : ℕ). IsNew i roster) (omega arith) is, tt)
  new_push index (first ∷ rosters) roster are is =
      (are.0, new_push (index + 1) rosters roster are.1 (subst (λ (i : ℕ). IsNew i roster) (omega arith) is))

  pub one_longer : (rosters : List (Rostered P)) (roster : Rostered P) (more : List (Rostered P)) → more ≡ rosters ++ roster ∷ [] → length more ≡ length rosters + 1
  one_longer rosters roster more added = let longer = length_push rosters roster in let long = ap length added in omega (arith, longer, long)

  pub new_next : (rosters : List (Rostered P)) (roster : Rostered P) (index : ℕ) (more : List (Rostered P)) → AreNew 0 rosters → length rosters ≡ index → IsNew index roster
      → more ≡ rosters ++ roster ∷ [] → AreNew 0 more
  new_next rosters roster index more are len is added =
      subst (AreNew 0) (sym added) (new_push 0 rosters roster are (subst (λ (i : ℕ). IsNew i roster) (omega (arith, len)) is))

  -- one is taken off those that are left, and put before those that came back
  pub split_at : (all left rest : List (Rostered P)) (roster : Rostered P) (back : List (Rostered P)) → all ≡ left ++ back → left ≡ rest ++ roster ∷ [] → all ≡ rest ++ roster ∷ back
  split_at all left rest roster back is ends = is ∙ ap (λ (rs : List (Rostered P)). rs ++ back) ends ∙ append_assoc rest (roster ∷ []) back

  -- the roster at a place
  pub back_at : (index : ℕ) (before : List (Rostered P)) (roster : Rostered P) (behind : List (Rostered P)) → AreBack index (before ++ roster ∷ behind)
      → (roster.index ≡ index + length before) × NobodyIsOut roster
  back_at index [] roster behind are = (are.0 ∙ omega arith, are.1)
  back_at index (first ∷ before) roster behind are =
      let rest = back_at (index + 1) before roster behind are.2 in
      let place = rest.0 in
      (omega (arith, place), rest.1)

  -- those who left two lots of rosters
  count_join : (some more : List (Gone P)) → count_of (some ++ more) ≡ count_of some + count_of more
  count_join [] more = omega arith
  count_join (g ∷ some) more = let rest = count_join some more in omega (arith, rest)

module _ {P : Type 0} (fits : P → List Entry → List Entry → Type 0) (entries front : List Recorded) where
  is_apart_join : (number end : ℕ) (some more : List (Gone P)) → IsApart number some → number < end → AreGathered fits entries front end more → IsApart number (some ++ more)
  is_apart_join number end [] [] apart less are = tt
  is_apart_join number end [] (g ∷ more) apart less are =
      let from = are.0.from in
      ((λ (same : g.number ≡ number). absurd (omega (arith, same, less, from))), is_apart_join number end [] more tt less are.1)
  is_apart_join number end (g ∷ some) more apart less are = (apart.0, is_apart_join number end some more apart.1 less are)

  apart_join : (first end : ℕ) (numbers : Numbered) (seen known : List Recorded) (some more : List (Gone P)) → AreApart some → AreGone fits first numbers seen known some
      → numbers.next ≤ end → AreApart more → AreGathered fits entries front end more → AreApart (some ++ more)
  apart_join first end numbers seen known [] more apart gone less apart_more are = apart_more
  apart_join first end numbers seen known (g ∷ some) more apart gone less apart_more are =
      let below = gone.0.below in (
        is_apart_join g.number end some more apart.0 (omega (arith, below, less)) are,
        apart_join first end numbers seen known some more apart.1 gone.1 less apart_more are,
      )

  gathered_from : (first end : ℕ) (gone : List (Gone P)) → first ≤ end → AreGathered fits entries front end gone → AreGathered fits entries front first gone
  gathered_from first end [] less are = tt
  gathered_from first end (g ∷ gone) less are =
      let from = are.0.from in (
        record { among = are.0.among; told = are.0.told; own = are.0.own; committed = are.0.committed; from = omega (arith, from, less); begins = are.0.begins },
        gathered_from first end gone less are.1,
      )

  gathered_join : (first end : ℕ) (numbers : Numbered) (seen known : List Recorded) (some more : List (Gone P)) → IsPrefix seen entries → IsPrefix known front → first ≤ end
      → AreGone fits first numbers seen known some → AreGathered fits entries front end more → AreGathered fits entries front first (some ++ more)
  gathered_join first end numbers seen known [] more begins committed less gone are = gathered_from first end more less are
  gathered_join first end numbers seen known (g ∷ some) more begins committed less gone are =
      let later = begins_later g.seen seen entries gone.0.begins begins in (
        record {
          among = among_later g.number g.calls g.seen entries later gone.0.among;
          told = gone.0.told;
          own = gone.0.own;
          committed = among_later g.number g.committed known front committed gone.0.committed;
          from = gone.0.from;
          begins = later;
        },
        gathered_join first end numbers seen known some more begins committed less gone.1 are,
      )

  -- one more roster came back, before the others
  pub gathered_one : (base : Base) (index : ℕ) (roster : Rostered P) (back : List (Rostered P)) (origin : Origin) (known : List Recorded) (parts amount shares counted parts' counted' : ℕ)
      → IsRoster fits base roster origin known parts amount → roster.index ≡ index → btree_set_len roster.numbers.out ≡ 0 → IsPrefix roster.seen entries → IsPrefix known front
      → HasGathered fits entries front (index + 1) back shares counted → parts' ≡ shares + parts → counted' ≡ counted + amount
      → HasGathered fits entries front index (roster ∷ back) parts' counted'
  gathered_one base index roster back origin known parts amount shares counted parts' counted' is place nobody begins committed others more_parts more_counted =
      let all = is.parts in
      let given = is.given in
      let few = is.few in
      let share_each = others.shares in
      let others_given = others.given in
      let both = count_join roster.gone (all_gone back) in
      let less : roster.numbers.next ≤ first_of (index + 1) = omega (arith, few, place) in
      record {
        all_back = (place, nobody_out roster.numbers nobody, others.all_back);
        shares = omega (arith, all, nobody, share_each, more_parts);
        given = omega (arith, given, others_given, both, more_counted);
        apart = apart_join (first_of roster.index) (first_of (index + 1)) roster.numbers roster.seen known roster.gone (all_gone back) is.apart is.each less others.apart others.each;
        each = gathered_join (first_of index) (first_of (index + 1)) roster.numbers roster.seen known roster.gone (all_gone back) begins committed (omega arith)
            (subst (λ (i : ℕ). AreGone fits (first_of i) roster.numbers roster.seen known roster.gone) place is.each) others.each;
      }

  -- none has come back yet
  pub gathered_none : (index : ℕ) (parts counted : ℕ) → parts ≡ 0 → counted ≡ 0 → HasGathered fits entries front index [] parts counted
  gathered_none index parts counted no_parts nothing = record { all_back = tt; shares = no_parts; given = nothing; apart = tt; each = tt }
