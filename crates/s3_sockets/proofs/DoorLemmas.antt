-- What a door keeps: when it is new, when one comes or leaves, and at its end.
use Rattle.std.proofs.Common.{◌≡◌, ◌+◌, ◌||◌, ℕ, Bool, true, false, cond, eqb, List, [], ◌∷◌, ◌++◌, Option, None, Some, ap, sym, subst, ◌∙◌, arith, refl, eq-eqb, eqb-true}
use Rattle.s3_devices.specs.Device.{Traffic}
use Rattle.s3_journal.specs.Gone.{Gone}
use Rattle.s3_journal.specs.Roster.{NobodyIsOut, Numbered, Rostered, is_out}
use Rattle.s3_driver.specs.Account.{Account}
use Rattle.s3_sockets.specs.Door.{AreNamed, HasPassed, IsDoor, IsGivenUp, IsSetAside, Passed, is_aside, numbers_of, one_if, times, traffic_told}

times_push : (n m : ℕ) (ms : List ℕ) → times n (ms ++ m ∷ []) ≡ times n ms + one_if (eqb n m)
times_push n m [] = omega arith
times_push n m (k ∷ ms) = let rest = times_push n m ms in omega (arith, rest)

numbers_push : (gone : List (Gone Account)) (g : Gone Account) → numbers_of (gone ++ g ∷ []) ≡ numbers_of gone ++ g.number ∷ []
numbers_push [] g = refl
numbers_push (first ∷ gone) g = ap (λ (ns : List ℕ). first.number ∷ ns) (numbers_push gone g)

told_push : (gone : List (Gone Account)) (g : Gone Account) → traffic_told (gone ++ g ∷ []) ≡ traffic_told gone ++ g.report.traffic ∷ []
told_push [] g = refl
told_push (first ∷ gone) g = ap (λ (ts : List Traffic). first.report.traffic ∷ ts) (told_push gone g)

named_push : (gone : List (Gone Account)) (g : Gone Account) → AreNamed gone → g.report.traffic.name ≡ g.number → AreNamed (gone ++ g ∷ [])
named_push [] g are is = (is, tt)
named_push (first ∷ gone) g are is = (are.0, named_push gone g are.1 is)

-- a number that is given, and one that is taken back
once_given : (is was : Bool) → (is ≡ true → was ≡ false) → one_if (is || was) ≡ one_if was + one_if is
once_given true was not = let none = ap one_if (not refl) in omega (arith, none)
once_given false was not = omega arith

once_taken : (is was : Bool) → (is ≡ true → was ≡ true) → one_if (cond is false was) + one_if is ≡ one_if was
once_taken true was out = let one = ap one_if (out refl) in omega (arith, one)
once_taken false was out = omega arith

given_at : (old new : Rostered Account) (number : ℕ) → is_out old.numbers number ≡ false
    → ((n : ℕ) → is_out new.numbers n ≡ (eqb n number || is_out old.numbers n)) → (n : ℕ)
    → one_if (is_out new.numbers n) ≡ one_if (is_out old.numbers n) + one_if (eqb n number)
given_at old new number fresh out n =
    ap one_if (out n) ∙ once_given (eqb n number) (is_out old.numbers n)
    (λ same. ap (λ (m : ℕ). is_out old.numbers m) (eqb-true n number same) ∙ fresh)

taken_at : (old new : Rostered Account) (number : ℕ) → is_out old.numbers number ≡ true
    → ((n : ℕ) → is_out new.numbers n ≡ cond (eqb n number) false (is_out old.numbers n)) → (n : ℕ)
    → one_if (is_out new.numbers n) + one_if (eqb n number) ≡ one_if (is_out old.numbers n)
taken_at old new number was out n =
    ap (λ (b : Bool). one_if b + one_if (eqb n number)) (out n) ∙ once_taken (eqb n number) (is_out old.numbers n)
    (λ same. ap (λ (m : ℕ). is_out old.numbers m) (eqb-true n number same) ∙ was)

-- what was set aside before is set aside
pub aside_still : (roster : Rostered Account) (number : ℕ) → IsSetAside roster roster (Some number) number
aside_still roster number = record { each = λ (n : ℕ). refl; gone = refl }

pub aside_new : (old new : Rostered Account) (number : ℕ) → is_out old.numbers number ≡ false
    → ((n : ℕ) → is_out new.numbers n ≡ (eqb n number || is_out old.numbers n)) → new.gone ≡ old.gone → IsSetAside old new None number
aside_new old new number fresh out same =
    record { each = λ (n : ℕ). let given = given_at old new number fresh out n in omega (arith, given); gone = same }

-- a new door
pub door_new : (handed : List ℕ) (back : List Traffic) (roster : Rostered Account) → handed ≡ [] → back ≡ [] → NobodyIsOut roster → roster.gone ≡ []
    → IsDoor (record { handed = handed; back = back }) roster None
door_new handed back roster no_handed no_back nobody nobody_left = record {
  each = λ (n : ℕ).
      let one = ap (times n) no_handed in
      let two = ap (λ (g : List (Gone Account)). times n (numbers_of g)) nobody_left in
      let three = ap one_if (nobody n) in
      omega (arith, one, two, three);
  back = no_back ∙ sym (ap traffic_told nobody_left);
  named = subst AreNamed (sym nobody_left) tt;
}

-- one is set aside
pub door_aside : (passed : Passed) (old new : Rostered Account) (aside : Option ℕ) (number : ℕ) → IsDoor passed old aside → IsSetAside old new aside number
    → IsDoor passed new (Some number)
door_aside passed old new aside number is set = record {
  each = λ (n : ℕ).
      let was = is.each n in
      let now = set.each n in
      let same = ap (λ (g : List (Gone Account)). times n (numbers_of g)) set.gone in
      omega (arith, was, now, same);
  back = is.back ∙ sym (ap traffic_told set.gone);
  named = subst AreNamed (sym set.gone) is.named;
}

-- it has come
pub door_handed : (handed later : List ℕ) (back : List Traffic) (roster : Rostered Account) (number : ℕ)
    → IsDoor (record { handed = handed; back = back }) roster (Some number) → later ≡ handed ++ number ∷ []
    → IsDoor (record { handed = later; back = back }) roster None
door_handed handed later back roster number is added = record {
  each = λ (n : ℕ).
      let was = is.each n in
      let more = ap (times n) added ∙ times_push n number handed in
      omega (arith, was, more);
  back = is.back;
  named = is.named;
}

-- one has left
pub door_left : (handed : List ℕ) (back later : List Traffic) (old new : Rostered Account) (aside : Option ℕ) (g : Gone Account)
    → IsDoor (record { handed = handed; back = back }) old aside → is_out old.numbers g.number ≡ true
    → ((n : ℕ) → is_out new.numbers n ≡ cond (eqb n g.number) false (is_out old.numbers n)) → new.gone ≡ old.gone ++ g ∷ []
    → later ≡ back ++ g.report.traffic ∷ [] → g.report.traffic.name ≡ g.number → IsDoor (record { handed = handed; back = later }) new aside
door_left handed back later old new aside g is was out added noted name = record {
  each = λ (n : ℕ).
      let before = is.each n in
      let taken = taken_at old new g.number was out n in
      let more = ap (λ (gs : List (Gone Account)). times n (numbers_of gs)) added ∙ ap (times n) (numbers_push old.gone g) ∙ times_push n g.number (numbers_of old.gone) in
      omega (arith, before, taken, more);
  back = noted ∙ ap (λ (ts : List Traffic). ts ++ g.report.traffic ∷ []) is.back ∙ sym (ap traffic_told added ∙ told_push old.gone g);
  named = subst AreNamed (sym added) (named_push old.gone g is.named name);
}

-- at the end nothing is set aside any more
ends_unused : (passed : Passed) (old new : Rostered Account) (number : ℕ) → IsDoor passed old (Some number) → is_out old.numbers number ≡ true
    → ((n : ℕ) → is_out new.numbers n ≡ cond (eqb n number) false (is_out old.numbers n)) → new.gone ≡ old.gone → HasPassed passed new
ends_unused passed old new number is was out same = record {
  each = λ (n : ℕ).
      let before = is.each n in
      let taken = taken_at old new number was out n in
      let kept = ap (λ (g : List (Gone Account)). times n (numbers_of g)) same in
      omega (arith, before, taken, kept);
  back = is.back ∙ sym (ap traffic_told same);
  named = subst AreNamed (sym same) is.named;
}

ends_so : (passed : Passed) (old new : Rostered Account) → IsDoor passed old None → new.numbers ≡ old.numbers → new.gone ≡ old.gone → HasPassed passed new
ends_so passed old new is out same = record {
  each = λ (n : ℕ).
      let before = is.each n in
      let kept = ap (λ (g : List (Gone Account)). times n (numbers_of g)) same in
      let still = ap (λ (k : Numbered). one_if (is_out k n)) out in
      omega (arith, before, kept, still);
  back = is.back ∙ sym (ap traffic_told same);
  named = subst AreNamed (sym same) is.named;
}

pub door_ends : (passed : Passed) (old new : Rostered Account) (aside : Option ℕ) → IsDoor passed old aside → IsGivenUp old.numbers new.numbers aside
    → new.gone ≡ old.gone → HasPassed passed new
door_ends passed old new None is given same = ends_so passed old new is given same
door_ends passed old new (Some number) is given same = ends_unused passed old new number is given.0 given.1 same
