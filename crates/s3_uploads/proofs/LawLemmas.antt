-- What a completion stores, and what a part that is put changes.
use Rattle.std.proofs.Common.{◌≡◌, ◌≢◌, ◌⊎◌, refl, sym, ap, subst, ◌∙◌, ◌<◌, ℕ, Bool, true, false, not, cond, ◌==◌, nat_lt, IsTrue, List, [], ◌∷◌, ◌++◌, length, Some, None, option_map, unwrap_or, Result, Ok, Err, inl, inr, ⊎_elim, suc, arith}
use Rattle.std.specs.List.{list_all, list_any, flat_map, cons_option}
use Rattle.std.specs.Ordering.{nat_cmp, match_ordering}
use Rattle.std.specs.declared.cmp.Ordering.TheVariants.{Less, Equal, Greater}
use Rattle.std.specs.Str.{bytes_eq}
use Rattle.std.proofs.lemmas.Bool.{and_parts, and_from, not-false}
use Rattle.std.proofs.lemmas.Bool.Decides.{nat_tests}
use Rattle.md5.specs.Md5.{md5}
use Rattle.s3_terms.specs.Fault.{refuse, ◌>>◌, ◌>>=◌}
use Rattle.s3_terms.specs.declared.code.Code.{Code}
use Rattle.s3_terms.specs.declared.code.Code.TheVariants.{InvalidPartOrder, InvalidPart, EntityTooSmall}
use Rattle.s3_names.specs.Tags.{joined_text}
use Rattle.s3_uploads.specs.Parts.{PartList, rises, numbers_of, part_at, part_put, part_tag}
use Rattle.s3_uploads.specs.Completion.{numbers_listed, is_sent, is_small, front_of, parts_listed, completed_parts, completed, joined_data}
use Rattle.s3_uploads.specs.Laws.{digest_at, Joins, CompletionsJoinTheListed, RefusalsAreThree, PutsAreUnderOneNumber}
use Rattle.s3_uploads.proofs.ListedLemmas.{all_above}
use Rattle.s3_uploads.specs.declared.listed.ListedPart.{ListedPart}
use Rattle.s3_uploads.specs.declared.part.Part.{Part}
use Rattle.s3_uploads.specs.declared.upload.Upload.{Upload}

-- ---- a part that is put

-- a number stands before, at or behind another
less_than : (n m : ℕ) → nat_cmp n m ≡ Less → n < m
less_than n m is = grind arith

same_as : (n m : ℕ) → nat_cmp n m ≡ Equal → n ≡ m
same_as n m is = grind arith

more_than : (n m : ℕ) → nat_cmp n m ≡ Greater → m < n
more_than n m is = grind arith

same_test : (n m : ℕ) → n ≡ m → (n == m) ≡ true
same_test n m is = grind (arith, nat_tests)

other_test : (n m : ℕ) → n ≢ m → (n == m) ≡ false
other_test n m is = grind (arith, nat_tests)

above_differs : (n m : ℕ) → n < m → n ≢ m
above_differs n m below is = absurd (omega arith)

below_test : (n m : ℕ) → n < m → nat_lt n m ≡ true
below_test n m below = grind (arith, nat_tests)

pub put_there : {B : Type 0} (n : ℕ) (part : Part B) (parts : PartList B) → part_at n (part_put n part parts) ≡ Some part
put_there n part [] = rw (same_test n n refl) refl
put_there n part (e ∷ es) =
    elim (nat_cmp n e.0) as (λ r. nat_cmp n e.0 ≡ r → part_at n (match_ordering r ((n, part) ∷ e ∷ es) ((e.0, part) ∷ es) (e ∷ part_put n part es)) ≡ Some part) [
      | Less ↦ λ is. rw (same_test n n refl) refl
      | Equal ↦ λ is. rw (same_test e.0 n (sym (same_as n e.0 is))) refl
      | Greater ↦ λ is. rw (other_test e.0 n (above_differs e.0 n (more_than n e.0 is))) (put_there n part es)
    ] refl

pub put_elsewhere : {B : Type 0} (n : ℕ) (part : Part B) (parts : PartList B) (m : ℕ) → m ≢ n → part_at m (part_put n part parts) ≡ part_at m parts
put_elsewhere n part [] m other = rw (other_test n m (λ is. other (sym is))) refl
put_elsewhere n part (e ∷ es) m other =
    let test = other_test n m (λ is. other (sym is)) in
    elim (nat_cmp n e.0) as (λ r. nat_cmp n e.0 ≡ r → part_at m (match_ordering r ((n, part) ∷ e ∷ es) ((e.0, part) ∷ es) (e ∷ part_put n part es)) ≡ part_at m (e ∷ es)) [
      | Less ↦ λ is. rw test refl
      | Equal ↦ λ is. rw (ap (λ k. k == m) (sym (same_as n e.0 is)) ∙ test) refl
      | Greater ↦ λ is. ap (λ found. cond (e.0 == m) (Some e.1) found) (put_elsewhere n part es m other)
    ] refl

-- what is below all numbers stays below them
below_put : {B : Type 0} (k n : ℕ) (part : Part B) (parts : PartList B) → nat_lt k n ≡ true → list_all (nat_lt k) (numbers_of parts) ≡ true → list_all (nat_lt k) (numbers_of (part_put n part parts)) ≡ true
below_put k n part [] below all = and_from (nat_lt k n) true below refl
below_put k n part (e ∷ es) below all =
    let parts = and_parts (nat_lt k e.0) (list_all (nat_lt k) (numbers_of es)) all in
    elim (nat_cmp n e.0) as (λ r. list_all (nat_lt k) (numbers_of (match_ordering r ((n, part) ∷ e ∷ es) ((e.0, part) ∷ es) (e ∷ part_put n part es))) ≡ true) [
      | Less ↦ and_from (nat_lt k n) (list_all (nat_lt k) (numbers_of (e ∷ es))) below all
      | Equal ↦ all
      | Greater ↦ and_from (nat_lt k e.0) (list_all (nat_lt k) (numbers_of (part_put n part es))) parts.0 (below_put k n part es below parts.1)
    ]

pub order_kept : {B : Type 0} (n : ℕ) (part : Part B) (parts : PartList B) → IsTrue (rises (numbers_of parts)) → IsTrue (rises (numbers_of (part_put n part parts)))
unfolding rises
order_kept n part [] rise = refl
order_kept n part (e ∷ es) rise =
    let parts = and_parts (list_all (nat_lt e.0) (numbers_of es)) (rises (numbers_of es)) rise in
    elim (nat_cmp n e.0) as (λ r. nat_cmp n e.0 ≡ r → rises (numbers_of (match_ordering r ((n, part) ∷ e ∷ es) ((e.0, part) ∷ es) (e ∷ part_put n part es))) ≡ true) [
      | Less ↦ λ is.
          let below = below_test n e.0 (less_than n e.0 is) in
          and_from (list_all (nat_lt n) (numbers_of (e ∷ es))) (rises (numbers_of (e ∷ es)))
          (and_from (nat_lt n e.0) (list_all (nat_lt n) (numbers_of es)) below (all_above n e.0 (numbers_of es) below parts.0)) rise
      | Equal ↦ λ is. rise
      | Greater ↦ λ is.
          and_from (list_all (nat_lt e.0) (numbers_of (part_put n part es))) (rises (numbers_of (part_put n part es)))
          (below_put e.0 n part es (below_test e.0 n (more_than n e.0 is)) parts.0) (order_kept n part es parts.1)
    ] refl

pub puts_are_under_one_number : {B : Type 0} → PutsAreUnderOneNumber B
puts_are_under_one_number n part parts = (put_there n part parts, put_elsewhere n part parts)

-- ---- what a completion stores

passed : {A : Type 0} (b : Bool) (code : Code) (next : Result A Code) (a : A) → (refuse b code >> next) ≡ Ok a → (b ≡ false) × (next ≡ Ok a)
passed true code next a is = absurd (cc)
passed false code next a is = (refl, is)

ok_is : {A : Type 0} (a b : A) → ◌≡◌ {A = Result A Code} (Ok a) (Ok b) → a ≡ b
ok_is a b is = cc

err_is : {A : Type 0} (c d : Code) → ◌≡◌ {A = Result A Code} (Err c) (Err d) → c ≡ d
err_is c d is = cc

refused : {A : Type 0} (b : Bool) (c : Code) (next : Result A Code) (code : Code) → (refuse b c >> next) ≡ Err code → (code ≡ c) ⊎ (next ≡ Err code)
refused {A} true c next code is = inl (sym (err_is {A = A} c code is))
refused false c next code is = inr is

bound : {A C : Type 0} (r : Result A Code) (f : A → C) (x : C) → (r >>= λ a. Ok (f a)) ≡ Ok x → (a : A) × (r ≡ Ok a) × (f a ≡ x)
bound (Ok a) f x is = (a, refl, ok_is (f a) x is)
bound (Err e) f x is = absurd (cc)

failed : {A C : Type 0} (r : Result A Code) (f : A → C) (code : Code) → (r >>= λ a. Ok (f a)) ≡ Err code → r ≡ Err code
failed (Ok a) f code is = absurd (cc)
failed {A} {C} (Err e) f code is = ap Err (err_is {A = C} e code is)

not_last : {A : Type 0} (a : A) (code : Code) → ◌≡◌ {A = Result A Code} (Ok a) (Err code) → ⊥
not_last a code is = absurd (cc)

pub refusals_are_three : RefusalsAreThree
unfolding completed completed_parts
refusals_are_three least listed u code is =
    let parts = parts_listed listed u.parts in
    let small = list_any (is_small least u.parts) (front_of listed) in
    let third = refuse small EntityTooSmall >> Ok parts in
    let second = refuse (not (list_all (is_sent u.parts) listed)) InvalidPart >> third in
    let by_parts : completed_parts least listed u.parts ≡ Err code = failed (completed_parts least listed u.parts) (joined_data u) code is in
    ⊎_elim inl (λ next. ⊎_elim (λ here. inr (inl here)) (λ last. ⊎_elim (λ here. inr (inr here)) (λ none. absurd (not_last parts code none))
    (refused small EntityTooSmall (Ok parts) code last))
    (refused (not (list_all (is_sent u.parts) listed)) InvalidPart third code next))
    (refused (not (rises (numbers_listed listed))) InvalidPartOrder second code by_parts)

-- where all that are listed were sent, they are as many
listed_length : {B : Type 0} (parts : PartList B) (listed : List ListedPart) → list_all (is_sent parts) listed ≡ true → length (parts_listed listed parts) ≡ length listed
listed_length parts [] sent = refl
listed_length {B} parts (part ∷ listed) sent =
    let both = and_parts (is_sent parts part) (list_all (is_sent parts) listed) sent in
    let rest = listed_length parts listed both.1 in
    elim (part_at part.number parts) as (λ found. unwrap_or (option_map (λ (p : Part B). bytes_eq (part_tag p) part.tag) found) false ≡ true → length (cons_option found (parts_listed listed parts)) ≡ length (part ∷ listed)) [
      | None ↦ λ is. absurd (cc)
      | Some p ↦ λ is. ap suc rest
    ] both.0

-- what is joined of the parts that are there is joined of what is listed
joined_listed : (f : Part (List ℕ) → List ℕ) (parts : PartList (List ℕ)) (listed : List ListedPart)
    → flat_map f (parts_listed listed parts) ≡ flat_map (λ (part : ListedPart). unwrap_or (option_map f (part_at part.number parts)) []) listed
joined_listed f parts [] = refl
joined_listed f parts (part ∷ listed) =
    let rest = joined_listed f parts listed in
    elim (part_at part.number parts) as (λ found. flat_map f (cons_option found (parts_listed listed parts)) ≡ unwrap_or (option_map f found) [] ++ flat_map (λ (part : ListedPart). unwrap_or (option_map f (part_at part.number parts)) []) listed) [
      | None ↦ rest
      | Some p ↦ ap (λ bytes. f p ++ bytes) rest
    ]

-- the parts that are joined are the listed ones, and all were sent
accepted : {B : Type 0} (least : ℕ) (listed : List ListedPart) (parts : PartList B) (found : List (Part B)) → completed_parts least listed parts ≡ Ok found → (list_all (is_sent parts) listed ≡ true) × (parts_listed listed parts ≡ found)
unfolding completed_parts
accepted least listed parts found is =
    let small = list_any (is_small least parts) (front_of listed) in
    let third = refuse small EntityTooSmall >> Ok (parts_listed listed parts) in
    let second = refuse (not (list_all (is_sent parts) listed)) InvalidPart >> third in
    let one = passed (not (rises (numbers_listed listed))) InvalidPartOrder second found is in
    let two = passed (not (list_all (is_sent parts) listed)) InvalidPart third found one.1 in
    let three = passed small EntityTooSmall (Ok (parts_listed listed parts)) found two.1 in
    (not-false _ two.0, ok_is (parts_listed listed parts) found three.1)

joins : (listed : List ListedPart) (u : Upload (List ℕ)) → list_all (is_sent u.parts) listed ≡ true → Joins listed u (joined_data u (parts_listed listed u.parts))
joins listed u sent =
    let digests = joined_listed (λ (part : Part (List ℕ)). part.digest) u.parts listed in
    record {
      sent = sent;
      bytes = joined_listed (λ (part : Part (List ℕ)). part.body) u.parts listed;
      size = refl;
      tag = ap (λ ds. joined_text (md5 ds) (length (parts_listed listed u.parts))) digests ∙ ap (joined_text (md5 (flat_map (λ (part : ListedPart). digest_at u.parts part.number) listed))) (listed_length u.parts listed sent);
      content_type = refl;
      metadata = refl;
    }

pub completions_join_the_listed : CompletionsJoinTheListed
unfolding completed
completions_join_the_listed least listed u stored is =
    let of = bound (completed_parts least listed u.parts) (joined_data u) stored is in
    let all = accepted least listed u.parts of.0 of.1 in
    subst (Joins listed u) (ap (joined_data u) all.1 ∙ of.2) (joins listed u all.0)
