-- Those who have left a roster stay so, whoever comes or goes.
use Rattle.std.proofs.Common.{◌≡◌, ◌≢◌, ◌<◌, ◌+◌, ◌||◌, ℕ, Bool, true, false, cond, eqb, List, [], ◌∷◌, ◌++◌, length, append_assoc, sym, ◌∙◌, subst, ap, arith, refl}
use Rattle.std.proofs.lemmas.Bool.Decides.{nat_tests}
use mathlib.Core.List.{IsPrefix}
use Rattle.s3_machine.specs.History.{Entry}
use Rattle.s3_journal.specs.Recorded.{Recorded}
use Rattle.s3_journal.specs.Gone.{Gone, AreApart, IsApart, count_of}
use Rattle.s3_journal.specs.Roster.{AreGone, IsGone, Numbered, is_out}
use Rattle.s3_journal.proofs.SeatLemmas.{among_later}

-- what begins a beginning begins the whole
pub begins_later : (first more all : List Recorded) → IsPrefix first more → IsPrefix more all → IsPrefix first all
begins_later first more all (xs, is) (ys, ends) = (xs ++ ys, sym (append_assoc first xs ys) ∙ ap (λ (rs : List Recorded). rs ++ ys) is ∙ ends)

module _ {P : Type 0} (fits : P → List Entry → List Entry → Type 0) where
  -- when more is seen
  pub gone_learned : (first : ℕ) (numbers : Numbered) (seen more front further : List Recorded) (gone : List (Gone P)) → IsPrefix seen more → IsPrefix front further
      → AreGone fits first numbers seen front gone → AreGone fits first numbers more further gone
  gone_learned first numbers seen more front further [] later committed are = tt
  gone_learned first numbers seen more front further (g ∷ gone) later committed are = (
    record {
      among = are.0.among;
      told = are.0.told;
      own = are.0.own;
      committed = among_later g.number g.committed front further committed are.0.committed;
      from = are.0.from;
      below = are.0.below;
      back = are.0.back;
      begins = begins_later g.seen seen more are.0.begins later;
    },
    gone_learned first numbers seen more front further gone later committed are.1,
  )

  -- when a number is given
  not_given : (n next : ℕ) (out : Bool) → n < next → out ≡ false → (eqb n next || out) ≡ false
  not_given n next false less is = grind (arith, nat_tests, less)
  not_given n next true less is = absurd (cc)

  pub gone_given : (first : ℕ) (old new : Numbered) (seen front : List Recorded) (gone : List (Gone P)) → new.next ≡ old.next + 1
      → ((n : ℕ) → is_out new n ≡ (eqb n old.next || is_out old n)) → AreGone fits first old seen front gone → AreGone fits first new seen front gone
  gone_given first old new seen front [] next out are = tt
  gone_given first old new seen front (g ∷ gone) next out are =
      let below = are.0.below in (
        record {
          among = are.0.among;
          told = are.0.told;
          own = are.0.own;
          committed = are.0.committed;
          from = are.0.from;
          below = omega (arith, below, next);
          back = out g.number ∙ not_given g.number old.next (is_out old g.number) below are.0.back;
          begins = are.0.begins;
        },
        gone_given first old new seen front gone next out are.1,
      )

  -- when one comes back
  not_taken : (same out : Bool) → out ≡ false → cond same false out ≡ false
  not_taken true out is = refl
  not_taken false out is = is

  pub gone_taken : (first : ℕ) (old new : Numbered) (number : ℕ) (seen front : List Recorded) (gone : List (Gone P)) → new.next ≡ old.next
      → ((n : ℕ) → is_out new n ≡ cond (eqb n number) false (is_out old n)) → AreGone fits first old seen front gone → AreGone fits first new seen front gone
  gone_taken first old new number seen front [] next out are = tt
  gone_taken first old new number seen front (g ∷ gone) next out are = (
    record {
      among = are.0.among;
      told = are.0.told;
      own = are.0.own;
      committed = are.0.committed;
      from = are.0.from;
      below = subst (λ (n : ℕ). g.number < n) (sym next) are.0.below;
      back = out g.number ∙ not_taken (eqb g.number number) (is_out old g.number) are.0.back;
      begins = are.0.begins;
    },
    gone_taken first old new number seen front gone next out are.1,
  )

  -- whose number is that of none who has left
  pub is_apart : (first : ℕ) (numbers : Numbered) (seen front : List Recorded) (number : ℕ) (gone : List (Gone P)) → is_out numbers number ≡ true
      → AreGone fits first numbers seen front gone → IsApart number gone
  is_apart first numbers seen front number [] out are = tt
  is_apart first numbers seen front number (g ∷ gone) out are = (
    (λ (same : g.number ≡ number). let was = ap (is_out numbers) same in let back = are.0.back in cc),
    is_apart first numbers seen front number gone out are.1,
  )

  pub gone_push : (first : ℕ) (numbers : Numbered) (seen front : List Recorded) (gone : List (Gone P)) (g : Gone P) → AreGone fits first numbers seen front gone
      → IsGone fits first numbers seen front g → AreGone fits first numbers seen front (gone ++ g ∷ [])
  gone_push first numbers seen front [] g are is = (is, tt)
  gone_push first numbers seen front (one ∷ gone) g are is = (are.0, gone_push first numbers seen front gone g are.1 is)

module _ {P : Type 0} where
  apart_push : (number : ℕ) (gone : List (Gone P)) (g : Gone P) → IsApart number gone → g.number ≢ number → IsApart number (gone ++ g ∷ [])
  apart_push number [] g apart other = (other, tt)
  apart_push number (first ∷ gone) g apart other = (apart.0, apart_push number gone g apart.1 other)

  pub are_apart_push : (gone : List (Gone P)) (g : Gone P) → AreApart gone → IsApart g.number gone → AreApart (gone ++ g ∷ [])
  are_apart_push [] g are is = (tt, tt)
  are_apart_push (first ∷ gone) g are is = (
    apart_push first.number gone g are.0 (λ (same : g.number ≡ first.number). is.0 (sym same)),
    are_apart_push gone g are.1 is.1,
  )

  -- an account that is added is what its parts are
  pub added_is : (gone later : List (Gone P)) (number number' : ℕ) (calls calls' : List Entry) (seen seen' : List Recorded) (committed committed' : List Entry) (report : P)
      → later ≡ gone ++ record { number = number; calls = calls; seen = seen; committed = committed; report = report } ∷ [] → number ≡ number' → calls ≡ calls' → seen ≡ seen'
      → committed ≡ committed'
      → later ≡ gone ++ record { number = number'; calls = calls'; seen = seen'; committed = committed'; report = report } ∷ []
  added_is gone later number number' calls calls' seen seen' committed committed' report added same all known settled = cc

  pub count_push : (gone : List (Gone P)) (g : Gone P) → count_of (gone ++ g ∷ []) ≡ count_of gone + length g.calls
  count_push [] g = omega arith
  count_push (first ∷ gone) g = let rest = count_push gone g in omega (arith, rest)
