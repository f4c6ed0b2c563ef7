-- Behind what lists of objects and of parts begin.
use Rattle.std.proofs.Common.{◌≡◌, refl, sym, ap, subst, ◌∙◌, Bool, true, false, cond, ℕ, ◌<◌, List, Contains, Option, Some, None, IfSome, is_some, option_map, arith, nat_lt}
use Rattle.std.specs.Prelude.{nat_eq, if◌then◌else◌}
use Rattle.std.specs.List.{starts_with}
use Rattle.std.specs.Option.{option_map_or}
use Rattle.std.specs.Ordering.{is_lt}
use Rattle.std.proofs.lemmas.Bool.{false≢true, and_parts, and_from}
use Rattle.std.proofs.lemmas.Bool.Decides.{nat_tests}
use Rattle.std.proofs.lemmas.Option.{none-some, same_Some}
use Rattle.s3_text.specs.Order.{byte_order}
use Rattle.s3_versions.specs.declared.picking.Facts.{Facts}
use Rattle.s3_uploads.specs.Parts.{part_rows}
use Rattle.s3_uploads.specs.declared.part.PartRow.{PartRow}
use Rattle.s3_records.specs.Laws.{KeysRise}
use Rattle.s3_records.specs.Rows.{key_rows}
use Rattle.s3_records.specs.declared.rows.KeyRow.{KeyRow}
use Rattle.s3_prefixes.specs.declared.asked.ObjectsAsked.{ObjectsAsked}
use Rattle.s3_prefixes.specs.Items.{Item, Object, CommonPrefix, text_of, is_before, common_prefix, is_behind_start, is_asked, rolled}
use Rattle.s3_listings.specs.Laws.{IsToldOf, ItemsAreOfKeys}
use Rattle.s3_catalogue_laws.specs.ObjectLists.{IsBehind, IsOfKey, ListsBeginBehind, TokensAreNotTold, StartsAreNotTold, PartsBeginBehind}
use Rattle.s3_catalogue_laws.proofs.EntryLemmas.{filter_held, filter_holds, is_less}
use Rattle.s3_catalogue_laws.proofs.IdLemmas.{not_before_itself}

-- ---- the tests of the start and of the token

start_passes : (token start : Option (List ℕ)) (key : List ℕ) → (token ≡ None → IfSome start (IsBehind key)) → (if is_some token then true else option_map_or (λ s. is_before s key) start true) ≡ true
start_passes (Some t) start key behind = refl
start_passes None None key behind = refl
start_passes None (Some s) key behind = ap is_lt (behind refl)

start_stands : (token start : Option (List ℕ)) (key : List ℕ) → (if is_some token then true else option_map_or (λ s. is_before s key) start true) ≡ true → token ≡ None → IfSome start (IsBehind key)
start_stands (Some t) start key is none = absurd (none-some t (sym none))
start_stands None None key is none = tt
start_stands None (Some s) key is none = is_less (byte_order s key) is

token_passes : (token : Option (List ℕ)) (text : List ℕ) → IfSome token (IsBehind text) → option_map_or (λ t. is_before t text) token true ≡ true
token_passes None text behind = refl
token_passes (Some t) text behind = ap is_lt behind

token_stands : (token : Option (List ℕ)) (text : List ℕ) → option_map_or (λ t. is_before t text) token true ≡ true → IfSome token (IsBehind text)
token_stands None text is = tt
token_stands (Some t) text is = is_less (byte_order t text) is

-- ---- items and their keys

of_key : (asked : ObjectsAsked) (rows : List KeyRow) (item : Item) (key : List ℕ) (found : Option Facts) (b : Bool) → Contains rows (record { key = key; facts = found }) → is_asked asked key ≡ b
    → cond b (option_map (rolled (common_prefix asked key) key) found) None ≡ Some item → IsOfKey asked rows item
of_key asked rows item key found false held asks is = absurd (none-some item is)
of_key asked rows item key None true held asks is = absurd (none-some item is)
of_key asked rows item key (Some facts) true held asks is =
    let both = and_parts (starts_with nat_eq key asked.prefix) (is_behind_start asked key) asks in
    record {
      key = key;
      facts = facts;
      row = held;
      prefix = both.0;
      behind = start_stands asked.token asked.start_after key both.1;
      is = same_Some (rolled (common_prefix asked key) key facts) item is;
    }

told_of : (asked : ObjectsAsked) (rows : List KeyRow) (item : Item) → IsOfKey asked rows item → IsToldOf asked rows item
told_of asked rows item of = (
  record { key = of.key; facts = Some of.facts },
  of.row,
  ap (λ b. cond b (Some (rolled (common_prefix asked of.key) of.key of.facts)) None)
      (and_from (starts_with nat_eq of.key asked.prefix) (is_behind_start asked of.key) of.prefix (start_passes asked.token asked.start_after of.key of.behind))
      ∙ ap Some of.is,
)

pub lists_begin_behind : {B : Type 0} → ItemsAreOfKeys → KeysRise B → ListsBeginBehind B
lists_begin_behind items rise asked c name item =
    let law = items asked (key_rows c name) item (rise c name) in (
      λ held.
          let both = law.0 held in (
            of_key asked (key_rows c name) item both.0.0.key both.0.0.facts (is_asked asked both.0.0.key) both.0.1 refl both.0.2,
            token_stands asked.token (text_of item) both.1,
          ),
      λ both. law.1 (told_of asked (key_rows c name) item both.0, token_passes asked.token (text_of item) both.1),
    )

pub tokens_are_not_told : {B : Type 0} → ItemsAreOfKeys → KeysRise B → TokensAreNotTold B
tokens_are_not_told items rise asked c name token item is held same =
    let behind = ((lists_begin_behind items rise asked c name item).0 held).1 in
    not_before_itself token (text_of item) same (subst (λ t. IfSome t (IsBehind (text_of item))) is behind)

abbrev is_object : Item → Bool
is_object (Object key facts) = true
is_object (CommonPrefix prefix) = false

rolled_as : (prefix : Option (List ℕ)) (key : List ℕ) (facts : Facts) (start : List ℕ) (told : Facts) → rolled prefix key facts ≡ Object start told → key ≡ start
rolled_as None key facts start told is = ap text_of is
rolled_as (Some prefix) key facts start told is = absurd (false≢true (ap is_object is))

pub starts_are_not_told : {B : Type 0} → ItemsAreOfKeys → KeysRise B → StartsAreNotTold B
starts_are_not_told items rise asked c name start facts none is held =
    let of = ((lists_begin_behind items rise asked c name (Object start facts)).0 held).0 in
    not_before_itself start of.key (rolled_as (common_prefix asked of.key) of.key of.facts start facts of.is)
    (subst (λ s. IfSome s (IsBehind of.key)) is (of.behind none))

-- ---- parts

above : (m n : ℕ) → nat_lt m n ≡ true → m < n
above m n is = grind (arith, nat_tests)

above_is : (m n : ℕ) → m < n → nat_lt m n ≡ true
above_is m n up = grind (arith, nat_tests)

pub parts_begin_behind : {B : Type 0} → PartsBeginBehind B
parts_begin_behind asked parts row = (
  λ held.
      let both = filter_held (λ (r : PartRow). nat_lt asked.marker r.number) (part_rows parts) row held in
      (both.0, above asked.marker row.number both.1),
  λ both. filter_holds (λ (r : PartRow). nat_lt asked.marker r.number) (part_rows parts) row both.0 (above_is asked.marker row.number both.1),
)
