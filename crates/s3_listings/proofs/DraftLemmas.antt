-- A page of a list of objects while it is made.
use Rattle.std.proofs.Common.{◌≡◌, ℕ, zero, suc, ◌-◌, Bool, true, false, if◌then◌else◌, List, [], ◌∷◌, ◌++◌, map, length, take, Option, Some, None, Result, Ok, Err, OnOk, refl, sym, ap, ◌∙◌, arith, ⊎_elim, append_assoc, append-nil, nat_lt}
use Rattle.std.specs.Prelude.{option_map}
use Rattle.std.specs.List.{filter_map, cons_option, last_or, slice_get}
use Rattle.std.proofs.lemmas.List.{length-append}
use Rattle.std.proofs.lemmas.Bool.{cases_Bool}
use Rattle.s3_listings.specs.declared.object_page.ListedObject.{ListedObject}
use Rattle.s3_prefixes.specs.Items.{Item, Object, CommonPrefix, text_of}
use Rattle.s3_listings.specs.Objects.{object_in, prefix_in, ObjectsTold}
use Rattle.s3_prefixes.specs.Tellings.{is_last}
use Rattle.s3_listings.specs.Drafts.{distinct, Drafted, page_of_draft, with_distinct, with_items, with_item, HasRoomFor, last_in, last_text}

-- the last of a list that was added to
slice_get-push : {A : Type 0} (xs : List A) (x : A) → slice_get (xs ++ x ∷ []) (length xs) ≡ Some x
slice_get-push [] x = refl
slice_get-push (y ∷ xs) x = slice_get-push xs x

pub last_in-push : {A : Type 0} (xs : List A) (x : A) → last_in (xs ++ x ∷ []) ≡ Some x
last_in-push xs x =
    let at : length (xs ++ x ∷ []) - 1 ≡ length xs = omega (arith, length-append xs (x ∷ [])) in
    ap (slice_get (xs ++ x ∷ [])) at ∙ slice_get-push xs x

-- ---- items

-- a page that takes more, with items behind it
abbrev pub grown : List ListedObject → List (List ℕ) → Option (List ℕ) → ℕ → List Item → ObjectsTold
grown contents prefixes last room items = record {
  contents = contents ++ filter_map object_in (take room items);
  prefixes = prefixes ++ filter_map prefix_in (take room items);
  next = if nat_lt room (length items) then last_or last (map text_of (take room items)) else None;
}

pub grown-is : (d : Drafted) (items : List Item) → d.is_truncated ≡ false → with_distinct d items ≡ grown d.contents d.prefixes d.last d.room items
grown-is d items more = rw more refl

none_taken : {A : Type 0} (n : ℕ) → take {A = A} n [] ≡ []
none_taken zero = refl
none_taken (suc n) = refl

none_below : (n : ℕ) → nat_lt n 0 ≡ false
none_below n = grind arith

grown-none : (contents : List ListedObject) (prefixes : List (List ℕ)) (last : Option (List ℕ)) (room : ℕ) → grown contents prefixes last room [] ≡ record { contents = contents; prefixes = prefixes; next = None }
grown-none contents prefixes last room =
    rw (none_taken {A = Item} room, none_below room) (λ i. record { contents = append-nil contents i; prefixes = append-nil prefixes i; next = None })

-- nothing more
pub no_more : (d : Drafted) → with_items d [] ≡ page_of_draft d
unfolding with_items
no_more d = ⊎_elim
    (λ full. rw full refl)
    (λ more. grown-is d [] more ∙ grown-none d.contents d.prefixes d.last d.room ∙ sym (rw more refl))
    (cases_Bool d.is_truncated)

-- a page that is truncated takes no more
pub full : (d : Drafted) (items : List Item) → d.is_truncated ≡ true → with_items d items ≡ page_of_draft d
unfolding with_items
full d items is = rw is refl

-- the last item once more adds nothing
pub once_more : (d : Drafted) (item : Item) (items : List Item) → is_last d.last (text_of item) ≡ true → with_items d items ≡ with_items d (item ∷ items)
unfolding with_items
once_more d item items same = ap (with_distinct d) (sym (rw same refl))

-- any other is one more
fresh : (d : Drafted) (item : Item) (items : List Item) → d.is_truncated ≡ false → is_last d.last (text_of item) ≡ false
    → with_items d (item ∷ items) ≡ grown d.contents d.prefixes d.last d.room (item ∷ distinct (Some (text_of item)) items)
unfolding with_items
fresh d item items more other = ap (with_distinct d) (rw other refl) ∙ grown-is d (item ∷ distinct (Some (text_of item)) items) more

some_below : (n : ℕ) → nat_lt 0 (suc n) ≡ true
some_below n = grind arith

grown-full : (contents : List ListedObject) (prefixes : List (List ℕ)) (last : Option (List ℕ)) (item : Item) (items : List Item) → grown contents prefixes last 0 (item ∷ items) ≡ record { contents = contents; prefixes = prefixes; next = last }
grown-full contents prefixes last item items =
    rw (some_below (length items)) (λ i. record { contents = append-nil contents i; prefixes = append-nil prefixes i; next = last })

-- one more than there is room for
pub overfull : (d : Drafted) (item : Item) (items : List Item) → d.is_truncated ≡ false → is_last d.last (text_of item) ≡ false → d.room ≡ 0
    → with_items d (item ∷ items) ≡ record { contents = d.contents; prefixes = d.prefixes; next = d.last }
overfull d item items more other none =
    fresh d item items more other
    ∙ ap (λ room. grown d.contents d.prefixes d.last room (item ∷ distinct (Some (text_of item)) items)) none
    ∙ grown-full d.contents d.prefixes d.last item (distinct (Some (text_of item)) items)

cons_option-append : {A : Type 0} (xs : List A) (o : Option A) (ys : List A) → (xs ++ cons_option o []) ++ ys ≡ xs ++ cons_option o ys
cons_option-append xs None ys = ap (λ zs. zs ++ ys) (append-nil xs)
cons_option-append xs (Some x) ys = append_assoc xs (x ∷ []) ys

one_less : (n m : ℕ) → nat_lt n m ≡ nat_lt (suc n) (suc m)
one_less n m = grind arith

grown-more : (contents : List ListedObject) (prefixes : List (List ℕ)) (last : Option (List ℕ)) (room : ℕ) (item : Item) (items : List Item)
    → grown (contents ++ cons_option (object_in item) []) (prefixes ++ cons_option (prefix_in item) []) (Some (text_of item)) room items ≡ grown contents prefixes last (suc room) (item ∷ items)
grown-more contents prefixes last room item items = λ i. record {
  contents = cons_option-append contents (object_in item) (filter_map object_in (take room items)) i;
  prefixes = cons_option-append prefixes (prefix_in item) (filter_map prefix_in (take room items)) i;
  next = if one_less room (length items) i then last_or (Some (text_of item)) (map text_of (take room items)) else None;
}

-- one more that there is room for
pub one_more : (d : Drafted) (item : Item) (items : List Item) → HasRoomFor d (text_of item) → with_items (with_item d item) items ≡ with_items d (item ∷ items)
unfolding with_items
one_more d item items room =
    let left : suc (d.room - 1) ≡ d.room = omega (arith, room.room) in
    grown-is (with_item d item) (distinct (Some (text_of item)) items) room.more
    ∙ grown-more d.contents d.prefixes d.last (d.room - 1) item (distinct (Some (text_of item)) items)
    ∙ ap (λ r. grown d.contents d.prefixes d.last r (item ∷ distinct (Some (text_of item)) items)) left
    ∙ sym (fresh d item items room.more room.other)

-- ---- what the draft's calls do

pub then_ok : {T E P Q : Type 0} (r : Result T E) → (P → Q) → OnOk r P → OnOk r Q
then_ok (Ok x) f p = f p
then_ok (Err e) f p = tt

-- an object was put behind the others
pub object_added : (old new : List ListedObject) (prefixes : List (List ℕ)) (last : Option (List ℕ)) (room : ℕ) (is_truncated : Bool) (object : ListedObject) → new ≡ old ++ object ∷ []
    → record { contents = new; prefixes = prefixes; last = last_text false new prefixes; room = room - 1; is_truncated = is_truncated }
    ≡ with_item (record { contents = old; prefixes = prefixes; last = last; room = room; is_truncated = is_truncated }) (Object object.key object.facts)
object_added old new prefixes last room is_truncated object is =
    let at : last_text false new prefixes ≡ Some object.key = ap (λ xs. option_map (λ (o : ListedObject). o.key) (last_in xs)) is ∙ ap (option_map (λ (o : ListedObject). o.key)) (last_in-push old object) in
    λ i. record { contents = is i; prefixes = sym (append-nil prefixes) i; last = at i; room = room - 1; is_truncated = is_truncated }

-- a common prefix was
pub prefix_added : (contents : List ListedObject) (old new : List (List ℕ)) (last : Option (List ℕ)) (room : ℕ) (is_truncated : Bool) (prefix : List ℕ) → new ≡ old ++ prefix ∷ []
    → record { contents = contents; prefixes = new; last = last_text true contents new; room = room - 1; is_truncated = is_truncated }
    ≡ with_item (record { contents = contents; prefixes = old; last = last; room = room; is_truncated = is_truncated }) (CommonPrefix prefix)
prefix_added contents old new last room is_truncated prefix is =
    let at : last_text true contents new ≡ Some prefix = ap (λ xs. last_in xs) is ∙ last_in-push old prefix in
    λ i. record { contents = sym (append-nil contents) i; prefixes = is i; last = at i; room = room - 1; is_truncated = is_truncated }

-- an item was taken, where the call had its memory
pub item_taken : {T E : Type 0} (r : Result T E) (before between after : Drafted) (item : Item) → (between ≡ before) × HasRoomFor before (text_of item) → OnOk r (after ≡ with_item between item)
    → OnOk r ((items : List Item) → with_items after items ≡ with_items before (item ∷ items))
item_taken r before between after item takes = then_ok r (λ is items.
    ap (λ d. with_items d items) (is ∙ ap (λ d. with_item d item) takes.0) ∙ one_more before item items takes.1)
