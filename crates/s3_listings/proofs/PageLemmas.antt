-- The laws of lists of objects.
use Rattle.std.proofs.Common.{◌≡◌, ◌⊎◌, inl, inr, refl, sym, ap, subst, ◌∙◌, Bool, true, ℕ, ◌<◌, List, ◌++◌, filter, take, drop, Option, Some, None, is_some, nat_eq, if◌then◌else◌}
use Rattle.std.specs.List.{starts_with, filter_map, dedup}
use Rattle.std.specs.Option.{option_map_or}
use Rattle.std.proofs.lemmas.Bool.{and_parts, and_from}
use Rattle.std.proofs.lemmas.List.{take-append-drop}
use Rattle.s3_versions.specs.declared.picking.Facts.{Facts}
use Rattle.s3_records.specs.Laws.{KeysRise}
use Rattle.s3_records.specs.Rows.{key_rows}
use Rattle.s3_records.specs.declared.rows.KeyRow.{KeyRow}
use Rattle.s3_prefixes.specs.declared.asked.ObjectsAsked.{ObjectsAsked}
use Rattle.s3_listings.specs.Pages.{last_of}
use Rattle.s3_prefixes.specs.Items.{Item, Object, CommonPrefix, text_of, is_before, rolled, rolled_up, common_prefix, is_behind_start, is_asked, is_behind_token}
use Rattle.s3_listings.specs.Objects.{is_same, item_of, objects_asked, objects_page}
use Rattle.s3_listings.specs.Laws.{AreInOrder, ItemsRise, IsToldOf, ItemsAreOfKeys, KeysAreToldOnce, AsksForKeys, ListedAreKeys, ListedAreRead, behind, PagesJoin}
use Rattle.s3_listings.specs.Sought.{Paired}
use Rattle.s3_listings.proofs.HeldLemmas.{row_of, read_of_row, row_of_read}
use Rattle.s3_listings.proofs.ItemLemmas.{ToldBy, told_by, told_from, items_in_order}
use Rattle.s3_listings.proofs.JoinLemmas.{page_joins, all_join}
use Rattle.s3_listings.proofs.MemberLemmas.{Member, Before, Rising, SameOrBefore, member_from_contains, contains_from_member, member-filter, member_of_filter, paired-filter, member-filter_map, member_of_filter_map, paired-filter_map, rising_from_rises, rises_from_rising, member-dedup, member_of_dedup, rising-dedup, same_members, only_member, member_in_front, last_member, behind_last}
use Rattle.s3_listings.proofs.OrderLemmas.{before_trans, not_before_itself, one_way, order_of}

-- the key of a row
abbrev pub key_of : KeyRow → List ℕ
key_of row = row.key

-- what rows are told as, one by one
abbrev pub told_items : ObjectsAsked → List KeyRow → List Item
told_items asked rows = filter_map (item_of asked) rows

in_order : (asked : ObjectsAsked) (row later : KeyRow) (item next : Item) → Before key_of row later → item_of asked row ≡ Some item → item_of asked later ≡ Some next → SameOrBefore text_of item next
in_order asked row later item next before is also =
    let told : ToldBy asked row item = told_by asked row item is in
    let also_told : ToldBy asked later next = told_by asked later next also in
    subst (λ v. SameOrBefore text_of v next) (sym told.told)
    (subst (λ w. SameOrBefore text_of (rolled (common_prefix asked row.key) row.key told.facts) w) (sym also_told.told)
    (items_in_order asked.prefix asked.delimiter row.key later.key before told.facts also_told.facts
    (and_parts _ _ told.asked_for).0 (and_parts _ _ also_told.asked_for).0))

items_paired : (asked : ObjectsAsked) (rows : List KeyRow) → AreInOrder rows → Paired (SameOrBefore text_of) (told_items asked rows)
items_paired asked rows up = paired-filter_map (Before key_of) (SameOrBefore text_of) (item_of asked) (in_order asked) rows (rising_from_rises key_of rows up)

pub items_rising : (asked : ObjectsAsked) (rows : List KeyRow) → AreInOrder rows → Rising text_of (objects_asked asked rows)
items_rising asked rows up = paired-filter (Before text_of) (is_behind_token asked) (dedup is_same (told_items asked rows)) (rising-dedup text_of (told_items asked rows) (items_paired asked rows up))

pub items_rise : ItemsRise
items_rise asked rows up = rises_from_rising text_of (objects_asked asked rows) (items_rising asked rows up)

-- an item is told of a row
abbrev pub ToldOf : ObjectsAsked → List KeyRow → Item → Type 0
ToldOf asked rows item = (row : KeyRow) × Member row rows × (item_of asked row ≡ Some item)

pub told_in_list : (asked : ObjectsAsked) (rows : List KeyRow) (item : Item) → AreInOrder rows → Member item (objects_asked asked rows) → ToldOf asked rows item × (is_behind_token asked item ≡ true)
told_in_list asked rows item up is_in =
    let kept = member-filter (is_behind_token asked) (dedup is_same (told_items asked rows)) item is_in in
    (member-filter_map (item_of asked) rows item (member-dedup text_of (told_items asked rows) (items_paired asked rows up) item kept.0), kept.1)

pub in_list_of : (asked : ObjectsAsked) (rows : List KeyRow) (item : Item) → AreInOrder rows → ToldOf asked rows item → is_behind_token asked item ≡ true → Member item (objects_asked asked rows)
in_list_of asked rows item up (row, is_in, is) behind_it =
    member_of_filter (is_behind_token asked) (dedup is_same (told_items asked rows)) item
    (member_of_dedup text_of (told_items asked rows) (items_paired asked rows up) item (member_of_filter_map (item_of asked) rows row item is_in is)) behind_it

told_of_contained : (asked : ObjectsAsked) (rows : List KeyRow) (item : Item) → IsToldOf asked rows item → ToldOf asked rows item
told_of_contained asked rows item (row, is_in, is) = (row, member_from_contains rows row is_in, is)

contained_told : (asked : ObjectsAsked) (rows : List KeyRow) (item : Item) → ToldOf asked rows item → IsToldOf asked rows item
contained_told asked rows item (row, is_in, is) = (row, contains_from_member rows row is_in, is)

pub items_are_of_keys : ItemsAreOfKeys
items_are_of_keys asked rows item up = (
  (λ is_in. let told = told_in_list asked rows item up (member_from_contains _ item is_in) in (contained_told asked rows item told.0, told.1)),
  (λ told. contains_from_member _ item (in_list_of asked rows item up (told_of_contained asked rows item told.0) told.1)),
)

pub keys_are_told_once : KeysAreToldOnce
keys_are_told_once asked rows item up told behind_it =
    only_member text_of (objects_asked asked rows) item (items_rising asked rows up) (in_list_of asked rows item up (told_of_contained asked rows item told) behind_it)

-- where all keys are asked for, each is told by itself
by_itself : (asked : ObjectsAsked) (key : List ℕ) (facts : Facts) → AsksForKeys asked → rolled (common_prefix asked key) key facts ≡ Object key facts
by_itself asked key facts plain = ap (λ d. rolled (rolled_up asked.prefix d key) key facts) plain.delimiter

asked_by_prefix : (asked : ObjectsAsked) (key : List ℕ) → AsksForKeys asked → starts_with nat_eq key asked.prefix ≡ true → is_asked asked key ≡ true
asked_by_prefix asked key plain starts =
    and_from _ _ starts (ap (λ t. if is_some t then true else option_map_or (λ start. is_before start key) asked.start_after true) plain.token
    ∙ ap (λ s. option_map_or (λ start. is_before start key) s true) plain.start_after)

abbrev pub facts_in : Facts → Item → Facts
facts_in other (Object key facts) = facts
facts_in other (CommonPrefix prefix) = other

row_told : (asked : ObjectsAsked) (row : KeyRow) (key : List ℕ) (facts : Facts) → AsksForKeys asked → ToldBy asked row (Object key facts) → row ≡ row_of key facts
row_told asked row key facts plain told =
    let same : Object key facts ≡ Object row.key told.facts = told.told ∙ by_itself asked row.key told.facts plain in
    let same_key : row.key ≡ key = sym (ap text_of same) in
    let same_facts : row.facts ≡ Some facts = told.known ∙ ap Some (sym (ap (facts_in facts) same)) in
    λ i. record { key = same_key i; facts = same_facts i }

listed_row : (asked : ObjectsAsked) (rows : List KeyRow) (key : List ℕ) (facts : Facts) → AreInOrder rows → AsksForKeys asked
    → Member (Object key facts) (objects_asked asked rows) → Member (row_of key facts) rows × (starts_with nat_eq key asked.prefix ≡ true)
listed_row asked rows key facts up plain is_in =
    let told = (told_in_list asked rows (Object key facts) up is_in).0 in
    let made : ToldBy asked told.0 (Object key facts) = told_by asked told.0 (Object key facts) told.2 in
    let is : told.0 ≡ row_of key facts = row_told asked told.0 key facts plain made in
    (subst (λ row. Member row rows) is told.1, ap (λ (row : KeyRow). starts_with nat_eq row.key asked.prefix) (sym is) ∙ (and_parts _ _ made.asked_for).0)

row_listed : (asked : ObjectsAsked) (rows : List KeyRow) (key : List ℕ) (facts : Facts) → AreInOrder rows → AsksForKeys asked
    → Member (row_of key facts) rows → starts_with nat_eq key asked.prefix ≡ true → Member (Object key facts) (objects_asked asked rows)
row_listed asked rows key facts up plain is_in starts =
    in_list_of asked rows (Object key facts) up
    (row_of key facts, is_in, told_from asked (row_of key facts) facts (asked_by_prefix asked key plain starts) refl ∙ ap Some (by_itself asked key facts plain))
    (ap (λ t. option_map_or (λ token. is_before token key) t true) plain.token)

pub listed_are_keys : ListedAreKeys
listed_are_keys asked rows key facts up plain = (
  (λ is_in. let known = listed_row asked rows key facts up plain (member_from_contains _ _ is_in) in (contains_from_member rows (row_of key facts) known.0, known.1)),
  (λ known. contains_from_member _ _ (row_listed asked rows key facts up plain (member_from_contains rows (row_of key facts) known.0) known.1)),
)

pub listed_are_read : {B : Type 0} → KeysRise B → ListedAreRead B
listed_are_read rise asked c name key facts plain =
    let up : AreInOrder (key_rows c name) = rise c name in (
      (λ is_in. let known = listed_row asked (key_rows c name) key facts up plain (member_from_contains _ _ is_in) in (read_of_row c name key facts known.0, known.1)),
      (λ known. contains_from_member _ _ (row_listed asked (key_rows c name) key facts up plain (row_of_read c name key facts known.0) known.1)),
    )

-- a key behind one that is told is told too
start_later : (token start : Option (List ℕ)) (key later : List ℕ) → (key ≡ later) ⊎ (is_before key later ≡ true)
    → (if is_some token then true else option_map_or (λ s. is_before s key) start true) ≡ true
    → (if is_some token then true else option_map_or (λ s. is_before s later) start true) ≡ true
start_later (Some token) start key later order is = refl
start_later None None key later order is = refl
start_later None (Some start) key later (inl same) is = ap (is_before start) (sym same) ∙ is
start_later None (Some start) key later (inr before) is = before_trans start key later is before

token_later : (token : Option (List ℕ)) (text later : List ℕ) → is_before text later ≡ true → option_map_or (λ t. is_before t text) token true ≡ true → option_map_or (λ t. is_before t later) token true ≡ true
token_later None text later before is = refl
token_later (Some token) text later before is = before_trans token text later is before

told_again : (asked other : ObjectsAsked) (row : KeyRow) (item : Item) → asked.prefix ≡ other.prefix → asked.delimiter ≡ other.delimiter → is_behind_start other row.key ≡ true
    → item_of asked row ≡ Some item → item_of other row ≡ Some item
told_again asked other row item same_prefix same_delimiter start is =
    let told : ToldBy asked row item = told_by asked row item is in
    told_from other row told.facts (and_from _ _ (ap (λ p. starts_with nat_eq row.key p) (sym same_prefix) ∙ (and_parts _ _ told.asked_for).0) start) told.known
    ∙ ap Some ((λ i. rolled (rolled_up (sym same_prefix i) (sym same_delimiter i) row.key) row.key told.facts) ∙ sym told.told)

-- what is asked for behind an item of the list is what of it stands behind that item
abbrev pub is_behind : Item → Item → Bool
is_behind last item = is_before (text_of last) (text_of item)

module _ (asked : ObjectsAsked) (rows : List KeyRow) (last : Item) (up : AreInOrder rows) (listed : Member last (objects_asked asked rows)) where
  key_not_sooner : (row first : KeyRow) (item : Item) → item_of asked first ≡ Some last → item_of (behind asked last) row ≡ Some item → is_behind last item ≡ true
      → (first.key ≡ row.key) ⊎ (is_before first.key row.key ≡ true)
  key_not_sooner row first item is also later = elim (order_of first.key row.key) [
    | inl before ↦ inr before
    | inr other ↦ elim other [
      | inl same ↦ inl same
      | inr sooner ↦ elim (in_order (behind asked last) row first item last sooner also (told_again asked (behind asked last) first last refl refl refl is)) [
        | inl one ↦ absurd (not_before_itself (text_of last) (subst (λ i. is_behind last i ≡ true) one later))
        | inr before ↦ absurd (one_way (text_of item) (text_of last) before later)
      ]
    ]
  ]

  behind_in_list : (item : Item) → Member item (objects_asked (behind asked last) rows) → Member item (filter (is_behind last) (objects_asked asked rows))
  behind_in_list item is_in =
      let next = told_in_list (behind asked last) rows item up is_in in
      let here = told_in_list asked rows last up listed in
      let row : KeyRow = next.0.0 in
      let first : KeyRow = here.0.0 in
      let order : (first.key ≡ row.key) ⊎ (is_before first.key row.key ≡ true) = key_not_sooner row first item here.0.2 next.0.2 next.1 in
      let start : is_behind_start asked row.key ≡ true =
      start_later asked.token asked.start_after first.key row.key order (and_parts _ _ (told_by asked first last here.0.2).asked_for).1 in
      member_of_filter (is_behind last) (objects_asked asked rows) item
      (in_list_of asked rows item up (row, next.0.1, told_again (behind asked last) asked row item refl refl start next.0.2)
      (token_later asked.token (text_of last) (text_of item) next.1 here.1))
      next.1

  list_behind : (item : Item) → Member item (filter (is_behind last) (objects_asked asked rows)) → Member item (objects_asked (behind asked last) rows)
  list_behind item is_in =
      let kept = member-filter (is_behind last) (objects_asked asked rows) item is_in in
      let told = told_in_list asked rows item up kept.0 in
      in_list_of (behind asked last) rows item up (told.0.0, told.0.1, told_again asked (behind asked last) told.0.0 item refl refl refl told.0.2) kept.1

  pub asked_behind : objects_asked (behind asked last) rows ≡ filter (is_behind last) (objects_asked asked rows)
  asked_behind = same_members text_of (objects_asked (behind asked last) rows) (filter (is_behind last) (objects_asked asked rows))
      (items_rising (behind asked last) rows up)
      (paired-filter (Before text_of) (is_behind last) (objects_asked asked rows) (items_rising asked rows up))
      behind_in_list list_behind

-- what is asked for behind the last item of a page is what the page leaves
rest_of_page : (asked : ObjectsAsked) (rows : List KeyRow) (last : Item) → AreInOrder rows → last_of (take asked.max_keys (objects_asked asked rows)) ≡ Some last
    → objects_asked (behind asked last) rows ≡ drop asked.max_keys (objects_asked asked rows)
rest_of_page asked rows last up is =
    let items : List Item = objects_asked asked rows in
    let most : ℕ = asked.max_keys in
    let parts : take most items ++ drop most items ≡ items = take-append-drop most items in
    let rising : Rising text_of (take most items ++ drop most items) = subst (Rising text_of) (sym parts) (items_rising asked rows up) in
    let listed : Member last items = subst (Member last) parts (member_in_front (take most items) (drop most items) last (last_member (take most items) last is)) in
    asked_behind asked rows last up listed ∙ ap (filter (is_behind last)) (sym parts) ∙ behind_last text_of (take most items) (drop most items) last rising is

pub pages_join : PagesJoin
pages_join asked rows up some =
    all_join (λ a. objects_page a rows) behind (λ a. objects_asked a rows) (λ a. 0 < a.max_keys) (λ a last fits. fits)
    (λ a fits. page_joins a.max_keys (objects_asked a rows) (λ last. objects_asked (behind a last) rows) fits (λ last is. rest_of_page a rows last up is))
    asked some
