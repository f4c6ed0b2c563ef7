-- What a roster keeps, when it is new, and when one comes or leaves.
use Rattle.std.proofs.Common.{◌≡◌, ◌<◌, ◌+◌, ◌||◌, ℕ, Bool, true, false, cond, eqb, List, [], ◌∷◌, ◌++◌, length, ap, sym, subst, ◌∙◌, arith, refl, eq-eqb, inl, inr}
use Rattle.std.proofs.lemmas.Bool.Decides.{nat_tests}
use Rattle.std.proofs.lemmas.Bool.{cases_Bool}
use Rattle.std.proofs.lemmas.List.{length_push}
use Rattle.std.specs.BTreeSet.{btree_set_len}
use mathlib.Core.List.{IsPrefix}
use Rattle.s3_history.specs.Log.{Origin}
use Rattle.s3_machine.specs.History.{Entry}
use Rattle.s3_journal.specs.Noted.{Known}
use Rattle.s3_journal.specs.Recorded.{Recorded}
use Rattle.s3_journal.specs.SharedStore.{Base, IsSeat, Seated, seats_each}
use Rattle.s3_journal.specs.Gone.{Gone, AreApart, count_of}
use Rattle.s3_journal.specs.Roster.{AreGone, IsGone, IsRoster, Numbered, Rostered, first_of, is_out}
use Rattle.s3_journal.proofs.SeatLemmas.{among_later}
use Rattle.s3_journal.proofs.GoneLemmas.{are_apart_push, count_push, gone_given, gone_learned, gone_push, gone_taken, is_apart}

-- a number that is out after one was given, and wasn't before, is that one
is_given : (n next : ℕ) (was : Bool) → was ≡ false → (eqb n next || was) ≡ true → n ≡ next
is_given n next false not is = grind (arith, nat_tests, is)
is_given n next true not is = absurd (cc)

-- a number that is out after one came back was out
was_out : (same was : Bool) → cond same false was ≡ true → was ≡ true
was_out true was is = absurd (cc)
was_out false was is = is

module _ {P : Type 0} (fits : P → List Entry → List Entry → Type 0) (base : Base) where
  -- a new one
  pub roster_begins : (index : ℕ) (numbers : Numbered) (gone : List (Gone P)) (seen front : List Recorded) (origin : Origin) (parts amount : ℕ)
      → origin ≡ base.origin → numbers.next ≡ first_of index → btree_set_len numbers.out ≡ 0 → ((n : ℕ) → is_out numbers n ≡ false) → gone ≡ []
      → parts ≡ seats_each → amount ≡ 0 → IsRoster fits base (record { index = index; numbers = numbers; gone = gone; seen = seen }) origin front parts amount
  roster_begins index numbers gone seen front origin parts amount same next none nobody nobody_left whole nothing =
      let long = ap length nobody_left in
      let counts = ap count_of nobody_left in
      record {
        same = same;
        came = omega (arith, next, none, long);
        few = omega (arith, next);
        own = λ (n : ℕ) (is : is_out numbers n ≡ true). absurd (let not_out = nobody n in cc);
        parts = omega (arith, whole, none);
        given = omega (arith, nothing, counts);
        apart = subst AreApart (sym nobody_left) tt;
        each = subst (AreGone fits (first_of index) numbers seen front) (sym nobody_left) tt;
      }

  module _ (roster : Rostered P) (origin : Origin) (front : List Recorded) (parts amount : ℕ) (is : IsRoster fits base roster origin front parts amount) where
    -- where a number is left, so is a share for it and another
    pub shares_left : roster.numbers.next < first_of roster.index + 1099511627775 → 1 < parts
    shares_left less =
        let came = is.came in
        let all = is.parts in
        omega (arith, less, came, all)

    -- one has come, whose number is given
    pub roster_given : (new : Numbered) (parts' amount' : ℕ) → roster.numbers.next < first_of roster.index + 1099511627775 → new.next ≡ roster.numbers.next + 1
        → ((n : ℕ) → is_out new n ≡ (eqb n roster.numbers.next || is_out roster.numbers n)) → btree_set_len new.out ≡ btree_set_len roster.numbers.out + 1
        → parts' + 1 ≡ parts → amount' + 0 ≡ amount
        → IsRoster fits base (record { index = roster.index; numbers = new; gone = roster.gone; seen = roster.seen }) origin front parts' amount'
    roster_given new parts' amount' less next out len left same =
        let came = is.came in
        let all = is.parts in
        let given = is.given in
        record {
          same = is.same;
          came = omega (arith, came, next, len);
          few = omega (arith, less, next);
          own = λ (n : ℕ) (now : is_out new n ≡ true).
              elim (cases_Bool (is_out roster.numbers n)) [
                | inl was ↦ is.own n was
                | inr not ↦ (let one = is_given n roster.numbers.next (is_out roster.numbers n) not (sym (out n) ∙ now) in omega (arith, came, one))
              ];
          parts = omega (arith, all, len, left);
          given = omega (arith, given, same);
          apart = is.apart;
          each = gone_given fits (first_of roster.index) roster.numbers new roster.seen front roster.gone next out is.each;
        }

    -- one has left, whose number was out
    pub roster_left : (new : Numbered) (seat : Seated) (report : P) (shares counts parts' amount' : ℕ) (later : List (Gone P)) (more front' : List Recorded) (own_front : Known) (origin' : Origin)
        → new.next ≡ roster.numbers.next → ((n : ℕ) → is_out new n ≡ cond (eqb n seat.number) false (is_out roster.numbers n))
        → btree_set_len new.out + 1 ≡ btree_set_len roster.numbers.out → is_out roster.numbers seat.number ≡ true → seat.number < roster.numbers.next
        → fits report seat.mine seat.committed → IsSeat base seat base.origin own_front shares counts → IsPrefix roster.seen more → IsPrefix seat.seen more
        → IsPrefix front front' → IsPrefix own_front.committed front' → origin' ≡ origin
        → parts' ≡ parts + shares → amount' ≡ amount + counts
        → later ≡ roster.gone ++ record { number = seat.number; calls = seat.mine; seen = seat.seen; committed = seat.committed; report = report } ∷ []
        → IsRoster fits base (record { index = roster.index; numbers = new; gone = later; seen = more }) origin' front' parts' amount'
    roster_left new seat report shares counts parts' amount' later more front' own_front origin' next out len was below told is_seat known learned committed own_committed same more_parts more_amount added =
        let g : Gone P = record { number = seat.number; calls = seat.mine; seen = seat.seen; committed = seat.committed; report = report } in
        let came = is.came in
        let few = is.few in
        let all = is.parts in
        let one = is_seat.one in
        let own = is_seat.count in
        let given = is.given in
        let long = ap length added ∙ length_push roster.gone g in
        let counted = ap count_of added ∙ count_push roster.gone g in
        let is_gone : IsGone fits (first_of roster.index) new more front' g = record {
          among = is_seat.among;
          told = told;
          own = is_seat.first;
          committed = among_later seat.number seat.committed own_front.committed front' own_committed is_seat.committed;
          from = is.own seat.number was;
          below = subst (λ (n : ℕ). seat.number < n) (sym next) below;
          back = out seat.number ∙ ap (λ (b : Bool). cond b false (is_out roster.numbers seat.number)) (eq-eqb seat.number seat.number refl);
          begins = learned;
        } in
        let others = gone_learned fits (first_of roster.index) new roster.seen more front front' roster.gone known committed
        (gone_taken fits (first_of roster.index) roster.numbers new seat.number roster.seen front roster.gone next out is.each) in
        record {
          same = same ∙ is.same;
          came = omega (arith, came, next, len, long);
          few = omega (arith, few, next);
          own = λ (n : ℕ) (now : is_out new n ≡ true). is.own n (was_out (eqb n seat.number) (is_out roster.numbers n) (sym (out n) ∙ now));
          parts = omega (arith, all, len, more_parts, one);
          given = omega (arith, given, counted, more_amount, own);
          apart = subst AreApart (sym added)
              (are_apart_push roster.gone g is.apart (is_apart fits (first_of roster.index) roster.numbers roster.seen front seat.number roster.gone was is.each));
          each = subst (AreGone fits (first_of roster.index) new more front') (sym added) (gone_push fits (first_of roster.index) new more front' roster.gone g others is_gone);
        }

    -- one is back to whom nothing was given, whose number was out
    pub roster_withdrawn : (new : Numbered) (seat : Seated) (shares counts parts' amount' : ℕ) (more front' : List Recorded) (own_front : Known) (origin' : Origin)
        → new.next ≡ roster.numbers.next → ((n : ℕ) → is_out new n ≡ cond (eqb n seat.number) false (is_out roster.numbers n))
        → btree_set_len new.out + 1 ≡ btree_set_len roster.numbers.out → seat.mine ≡ [] → IsSeat base seat base.origin own_front shares counts
        → IsPrefix roster.seen more → IsPrefix front front' → origin' ≡ origin → parts' ≡ parts + shares → amount' ≡ amount + counts
        → IsRoster fits base (record { index = roster.index; numbers = new; gone = roster.gone; seen = more }) origin' front' parts' amount'
    roster_withdrawn new seat shares counts parts' amount' more front' own_front origin' next out len unused is_seat known committed same more_parts more_amount =
        let came = is.came in
        let few = is.few in
        let all = is.parts in
        let one = is_seat.one in
        let own = is_seat.count in
        let nothing = ap length unused in
        let given = is.given in
        record {
          same = same ∙ is.same;
          came = omega (arith, came, next, len);
          few = omega (arith, few, next);
          own = λ (n : ℕ) (now : is_out new n ≡ true). is.own n (was_out (eqb n seat.number) (is_out roster.numbers n) (sym (out n) ∙ now));
          parts = omega (arith, all, len, more_parts, one);
          given = omega (arith, given, more_amount, own, nothing);
          apart = is.apart;
          each = gone_learned fits (first_of roster.index) new roster.seen more front front' roster.gone known committed
              (gone_taken fits (first_of roster.index) roster.numbers new seat.number roster.seen front roster.gone next out is.each);
        }
