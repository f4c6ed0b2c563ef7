-- What stands under a key of a tree while the versions under some keys are replaced.
use Rattle.std.proofs.Common.{◌≡◌, ◌≢◌, inl, inr, refl, sym, ap, subst, ◌∙◌, Bool, true, false, cond, ◌||◌, ℕ, ◌+◌, ◌<◌, List, [], ◌∷◌, length, get_or, take, Option, Some, None, is_some}
use Rattle.std.proofs.lemmas.Bool.{false≢true}
use Rattle.std.proofs.lemmas.List.Folds.{list_any_more, list_any_at}
use Rattle.std.specs.BTreeMap.{BTreeMap, UpdatesBy, WritesThrough, get as value_in}
use Rattle.std.specs.Cmp.Lexicographic.{texts_ties}
use Rattle.std.specs.List.{list_any}
use Rattle.std.specs.Option.{IsSome, option_or}
use Rattle.std.specs.Str.{bytes_eq}
use Rattle.s3_text.specs.Order.{byte_order}
use Rattle.s3_text.proofs.MapLemmas.{tied_equal}
use Rattle.s3_versions.specs.declared.version.Version.{Version}
use Rattle.s3_records.specs.Catalogue.{found_versions}
use Rattle.s3_records.specs.Merging.{held, kept_by, IsKeptOrPlaced}

pub same_text : (k q : List ℕ) → bytes_eq k q ≡ true → q ≡ k
same_text k q is = sym (tied_equal k q (sym (texts_ties k q) ∙ is))

-- a tree where one key was written, or taken out
pub updated : {X : Type 0} (before after : BTreeMap (List ℕ) X) (k : List ℕ) (w : Option X) → UpdatesBy byte_order (byte_order k) before after w
    → (q : List ℕ) → value_in byte_order after q ≡ cond (bytes_eq k q) w (value_in byte_order before q)
updated before after k w updates q = updates.0 q ∙ ap (λ b. cond b w (value_in byte_order before q)) (sym (texts_ties k q))

pub written_at : {X : Type 0} (before after : BTreeMap (List ℕ) X) (k : List ℕ) (old new : X) → Some old ≡ value_in byte_order before k → WritesThrough byte_order (byte_order k) before new after
    → (q : List ℕ) → value_in byte_order after q ≡ cond (bytes_eq k q) (Some new) (value_in byte_order before q)
written_at before after k old new found writes = updated before after k (Some new) (writes.3 (subst IsSome found refl))

-- what is true at one key, where the test is of the texts
pub at_key : {X : Type 0} (f : List ℕ → X) (k q : List ℕ) (x : X) → (q ≡ k → f q ≡ x) → (b : Bool) → bytes_eq k q ≡ b → cond b x (f q) ≡ f q
at_key f k q x same true is = sym (same (same_text k q is))
at_key f k q x same false is = refl

-- what has versions is there with them
held_again : {B : Type 0} (found : Option (List (Version B))) → found ≢ Some [] → held (found_versions found) ≡ found
held_again None some = refl
held_again (Some []) some = absurd (some refl)
held_again (Some (v ∷ vs)) some = refl

-- what stands under the key is dropped, or moved, or stays
pub dropped_at : {B : Type 0} (f : List ℕ → Option (List (Version B))) (k q : List ℕ) → f k ≡ Some [] → (b : Bool) → bytes_eq k q ≡ b → cond b None (f q) ≡ cond b (held (found_versions (f q))) (f q)
dropped_at f k q without true is = ap (λ found. held (found_versions found)) (sym without ∙ ap f (sym (same_text k q is)))
dropped_at f k q without false is = refl

pub gone_at : {A C : Type 0} (f : List ℕ → Option A) (g : List ℕ → Option C) (k q : List ℕ) → f k ≡ None → (b : Bool) → bytes_eq k q ≡ b → cond b None (g q) ≡ cond b (kept_by (f q) (g q)) (g q)
gone_at f g k q none true is = ap (λ found. kept_by found (g q)) (sym none ∙ ap f (sym (same_text k q is)))
gone_at f g k q none false is = refl

pub copied_at : {X : Type 0} (f g : List ℕ → Option X) (k q : List ℕ) (x : X) → f k ≡ None → Some x ≡ g k → (b : Bool) → bytes_eq k q ≡ b → cond b (Some x) (f q) ≡ cond b (option_or (f q) (g q)) (f q)
copied_at f g k q x none found true is =
    found ∙ ap g (sym (same_text k q is)) ∙ ap (λ other. option_or other (g q)) (sym none ∙ ap f (sym (same_text k q is)))
copied_at f g k q x none found false is = refl

pub none_is : {X : Type 0} (found : Option X) → is_some found ≡ false → found ≡ None
none_is None none = refl
none_is (Some x) none = absurd (false≢true (sym none))

-- a place is made where none was
pub placed_at : {V : Type 0} (before after : BTreeMap (List ℕ) (List V)) (k : List ℕ) → UpdatesBy byte_order (byte_order k) before after (Some []) → value_in byte_order before k ≡ None
    → (q : List ℕ) → IsKeptOrPlaced (bytes_eq k q) (value_in byte_order before q) (value_in byte_order after q)
placed_at before after k updates none q =
    elim (bytes_eq k q) as (λ b. bytes_eq k q ≡ b → IsKeptOrPlaced b (value_in byte_order before q) (value_in byte_order after q)) [
      | true ↦ λ is.
          inr (refl, (ap (value_in byte_order before) (same_text k q is) ∙ none, updated before after k (Some []) updates q ∙ ap (λ b. cond b (Some []) (value_in byte_order before q)) is))
      | false ↦ λ is. inl (updated before after k (Some []) updates q ∙ ap (λ b. cond b (Some []) (value_in byte_order before q)) is)
    ] refl

pub place_there : {X : Type 0} (before after : BTreeMap (List ℕ) X) (k : List ℕ) (x : X) → UpdatesBy byte_order (byte_order k) before after (Some x)
    → (q : List ℕ) → bytes_eq k q ≡ true → is_some (value_in byte_order after q) ≡ true
place_there before after k x updates q is =
    ap is_some (updated before after k (Some x) updates q ∙ ap (λ b. cond b (Some x) (value_in byte_order before q)) is)

pub still_there : {X : Type 0} (f : List ℕ → Option X) (k q : List ℕ) → is_some (f k) ≡ true → bytes_eq k q ≡ true → is_some (f q) ≡ true
still_there f k q there is = ap (λ k. is_some (f k)) (same_text k q is) ∙ there

-- places that are made one after another
pub placed_more : {V : Type 0} (x y : Bool) (first second third : Option (List V)) → IsKeptOrPlaced x first second → IsKeptOrPlaced y second third → (y ≡ true → x ≡ true) → IsKeptOrPlaced x first third
placed_more x y first second third made more within =
    elim more [
      | inl again ↦ elim made [
        | inl same ↦ inl (again ∙ same)
        | inr new ↦ inr (new.0, (new.1.0, again ∙ new.1.1))
      ]
      | inr new ↦ elim made [
        | inl same ↦ inr (within new.0, (sym same ∙ new.1.0, new.1.1))
        | inr other ↦ inr (other.0, (other.1.0, new.1.1))
      ]
    ]

pub kept_there : {V : Type 0} (y : Bool) (second third : Option (List V)) → IsKeptOrPlaced y second third → is_some second ≡ true → is_some third ≡ true
kept_there y second third more there =
    elim more [
      | inl again ↦ ap is_some again ∙ there
      | inr new ↦ ap is_some new.1.1
    ]

-- what each of some does to a key that it names, and what all do, where it is the same to do it twice
either_once : {X : Type 0} (h : X → X) → ((x : X) → h (h x) ≡ h x) → (x y : Bool) (start : X) → cond y (h (cond x (h start) start)) (cond x (h start) start) ≡ cond (x || y) (h start) start
either_once h twice true true start = twice start
either_once h twice true false start = refl
either_once h twice false true start = refl
either_once h twice false false start = refl

-- one more of them
pub any_more : {A : Type 0} (p : A → Bool) (all : List A) (i : ℕ) (item : A) → item ≡ get_or all i item → i < length all → list_any p (take (i + 1) all) ≡ (list_any p (take i all) || p item)
any_more p all i item is within = list_any_more p all i item within ∙ ap (λ x. list_any p (take i all) || p x) (sym is)

pub any_at : {A : Type 0} (p : A → Bool) (all : List A) (i : ℕ) (item : A) → item ≡ get_or all i item → i < length all → p item ≡ true → list_any p all ≡ true
any_at p all i item is within passes = list_any_at p all i item within (ap p (sym is) ∙ passes)

pub either_true : {P : Type 0} (x y : Bool) → (x || y) ≡ true → (x ≡ true → P) → (y ≡ true → P) → P
either_true true y is first second = first refl
either_true false y is first second = second is

pub one_more : {A X : Type 0} (h : X → X) → ((x : X) → h (h x) ≡ h x) → (p : A → Bool) (all : List A) (i : ℕ) (item : A) → item ≡ get_or all i item → i < length all
    → (start before after : X) → before ≡ cond (list_any p (take i all)) (h start) start → after ≡ cond (p item) (h before) before → after ≡ cond (list_any p (take (i + 1) all)) (h start) start
one_more h twice p all i item is within start before after so_far step =
    step ∙ ap (λ x. cond (p item) (h x) x) so_far ∙ either_once h twice (list_any p (take i all)) (p item) start
    ∙ ap (λ b. cond b (h start) start) (sym (any_more p all i item is within))

pub held_twice : {B : Type 0} (found : Option (List (Version B))) → held (found_versions (held (found_versions found))) ≡ held (found_versions found)
held_twice None = refl
held_twice (Some []) = refl
held_twice (Some (v ∷ vs)) = refl

pub kept_twice : {A C : Type 0} (other : Option A) (found : Option C) → kept_by other (kept_by other found) ≡ kept_by other found
kept_twice None found = refl
kept_twice (Some x) found = refl

pub or_twice : {X : Type 0} (other found : Option X) → option_or (option_or found other) other ≡ option_or found other
or_twice None None = refl
or_twice (Some y) None = refl
or_twice None (Some x) = refl
or_twice (Some y) (Some x) = refl

-- what is moved is gone where it was, so that the first that names its key moves it
moved_either : {X : Type 0} (x y : Bool) (from start : Option X) → cond y (option_or (cond x None from) (cond x (option_or from start) start)) (cond x (option_or from start) start) ≡ cond (x || y) (option_or from start) start
moved_either true true from start = refl
moved_either true false from start = refl
moved_either false true from start = refl
moved_either false false from start = refl

pub moved_more : {A X : Type 0} (p : A → Bool) (all : List A) (i : ℕ) (item : A) → item ≡ get_or all i item → i < length all → (from start left before after : Option X)
    → left ≡ cond (list_any p (take i all)) None from → before ≡ cond (list_any p (take i all)) (option_or from start) start → after ≡ cond (p item) (option_or left before) before
    → after ≡ cond (list_any p (take (i + 1) all)) (option_or from start) start
moved_more p all i item is within from start left before after moved so_far step =
    step ∙ ap (λ x. cond (p item) (option_or x before) before) moved
    ∙ ap (λ x. cond (p item) (option_or (cond (list_any p (take i all)) None from) x) x) so_far
    ∙ moved_either (list_any p (take i all)) (p item) from start
    ∙ ap (λ b. cond b (option_or from start) start) (sym (any_more p all i item is within))

-- what is left to move has a place
left_there : {X : Type 0} (x : Bool) (from start : Option X) → (is_some from ≡ true → is_some start ≡ true) → is_some (cond x None from) ≡ true → is_some (cond x (option_or from start) start) ≡ true
left_there true from start places there = absurd (false≢true there)
left_there false from start places there = places there

pub has_place : {X : Type 0} (x : Bool) (from start left before : Option X) → left ≡ cond x None from → before ≡ cond x (option_or from start) start → (is_some from ≡ true → is_some start ≡ true) → is_some left ≡ true → is_some before ≡ true
has_place x from start left before moved so_far places there = ap is_some so_far ∙ left_there x from start places (sym (ap is_some moved) ∙ there)

-- Where all places were made, and what is gone was dropped and what is there moved, the named keys have what the other tree has.
pub over_all : {V : Type 0} (named : Bool) (from start placed kept after : Option (List V)) → IsKeptOrPlaced named start placed → (named ≡ true → is_some placed ≡ true)
    → kept ≡ cond named (kept_by from placed) placed → after ≡ cond named (option_or from kept) kept → after ≡ cond named from start
over_all true None start placed kept after made there keeps moves = moves ∙ keeps
over_all true (Some vs) start placed kept after made there keeps moves = moves
over_all false from start placed kept after made there keeps moves =
    moves ∙ keeps ∙ elim made [
      | inl same ↦ same
      | inr new ↦ absurd (false≢true new.0)
    ]

-- Where only some places were made, and those without versions were dropped, all is as it was.
pub undone : {B : Type 0} (named : Bool) (start placed after : Option (List (Version B))) → start ≢ Some [] → IsKeptOrPlaced named start placed
    → after ≡ cond named (held (found_versions placed)) placed → after ≡ start
undone true start placed after some made drops =
    drops ∙ elim made [
      | inl same ↦ ap (λ found. held (found_versions found)) same ∙ held_again start some
      | inr new ↦ ap (λ found. held (found_versions found)) new.1.1 ∙ sym new.1.0
    ]
undone false start placed after some made drops =
    drops ∙ elim made [
      | inl same ↦ same
      | inr new ↦ absurd (false≢true new.0)
    ]

-- no key is there without versions
pub over_filled : {V : Type 0} (named : Bool) (from start after : Option (List V)) → after ≡ cond named from start → from ≢ Some [] → start ≢ Some [] → after ≢ Some []
over_filled true from start after is some other none = some (sym is ∙ none)
over_filled false from start after is some other none = other (sym is ∙ none)
