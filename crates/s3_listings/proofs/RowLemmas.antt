-- The rows of a bucket, and the items that a list of objects tells of them.
use Rattle.std.proofs.Common.{◌≡◌, ℕ, zero, suc, ◌+◌, ◌-◌, ◌<◌, ◌≤◌, Bool, true, false, not, if◌then◌else◌, List, [], ◌∷◌, ◌++◌, filter, map, length, take, drop, nat_lt, Option, Some, None, IfSome, refl, sym, ap, ◌∙◌, arith, subst, ⊎_elim, append-nil, append_assoc}
use Rattle.std.specs.Prelude.{option_map, option_and_then, ◌==◌}
use Rattle.std.specs.List.{filter_map, cons_option, AllByRecursion, last_or}
use Rattle.std.specs.Option.{option_map_or}
use Rattle.std.proofs.lemmas.List.{take_more, take-append-drop, length-append}
use Rattle.std.proofs.Math.Seq.{take-length}
use Rattle.std.proofs.lemmas.List.Elements.{filter-append}
use Rattle.std.proofs.lemmas.Option.{get_or_from_slice_get, slice_get_within}
use Rattle.std.proofs.lemmas.Bool.{cases_Bool, false≢true}
use Rattle.std.specs.Ordering.{is_le}
use Rattle.s3_text.specs.Order.{byte_order, rises}
use Rattle.s3_records.specs.Rows.{is_from}
use Rattle.s3_records.specs.declared.rows.KeyRow.{KeyRow}
use Rattle.s3_records.specs.declared.rows.Start.{Start}
use Rattle.s3_records.specs.declared.rows.Start.TheVariants.{First, From, Behind}
use Rattle.s3_prefixes.specs.declared.asked.ObjectsAsked.{ObjectsAsked}
use Rattle.s3_listings.specs.Pages.{page_of}
use Rattle.s3_prefixes.specs.Items.{Item, text_of, is_before, is_behind_token, behind_token}
use Rattle.s3_listings.specs.Objects.{object_in, prefix_in, item_of, objects_asked, objects_told, told_of}
use Rattle.s3_prefixes.specs.Tellings.{is_last}
use Rattle.s3_listings.specs.Drafts.{told, distinct, Drafted, page_of_draft, with_distinct, with_items, with_rows, no_items, last_in, goes_on_at, left_from, AddsNothing, GoesBehind, steps_left, TakesBatch, Begins}
use Rattle.s3_listings.proofs.OrderLemmas.{before_trans, up_to_order, up_to_before, before_up_to, not_back}
use Rattle.s3_listings.proofs.SeekLemmas.{not_true, not_itself}
use Rattle.s3_listings.proofs.ObjectLemmas.{dedup-is, filter-distinct, StaysPassed, AllPass, told_by, text_rises, last_again, AllBehind, Rising, rising}
use Rattle.s3_listings.proofs.DraftLemmas.{no_more, full}

-- ---- all items that are asked for, row by row

-- an item that stays is told
kept : (asked : ObjectsAsked) (item : Item) (items more : List Item) (b : Bool) → is_behind_token asked item ≡ b → filter (is_behind_token asked) items ≡ more → filter (is_behind_token asked) (item ∷ items) ≡ cons_option (behind_token asked item) more
kept asked item items more true is same = rw is (ap (λ rest. item ∷ rest) same)
kept asked item items more false is same = rw is same

filter-cons : (asked : ObjectsAsked) (o : Option Item) (items more : List Item) → filter (is_behind_token asked) items ≡ more → filter (is_behind_token asked) (cons_option o items) ≡ cons_option (option_and_then (behind_token asked) o) more
filter-cons asked None items more same = same
filter-cons asked (Some item) items more same = kept asked item items more (is_behind_token asked item) refl same

filter-told : (asked : ObjectsAsked) (rows : List KeyRow) → filter (is_behind_token asked) (filter_map (item_of asked) rows) ≡ filter_map (told asked) rows
filter-told asked [] = refl
filter-told asked (row ∷ rows) = filter-cons asked (item_of asked row) (filter_map (item_of asked) rows) (filter_map (told asked) rows) (filter-told asked rows)

-- whether a text stands behind the token
abbrev behind : ObjectsAsked → List ℕ → Bool
behind asked text = option_map_or (λ token. is_before token text) asked.token true

-- what isn't before a text behind the token is behind it too
behind_up : (o : Option (List ℕ)) (text other : List ℕ) → is_before other text ≡ false → option_map_or (λ token. is_before token text) o true ≡ true → option_map_or (λ token. is_before token other) o true ≡ true
behind_up None text other up passes = refl
behind_up (Some token) text other up passes = before_up_to token text other passes up

-- what each item of rows passes that are behind the token
abbrev AreBehind : ObjectsAsked → List Item → Type 0
AreBehind asked items = AllPass (λ (item : Item). behind asked (text_of item)) items

-- behind a row whose item is behind the token are such rows alone
one_behind : (asked : ObjectsAsked) (row next : KeyRow) (item : Item) (o : Option Item) (items : List Item) → item_of asked row ≡ Some item → behind asked (text_of item) ≡ true → is_before row.key next.key ≡ true
    → item_of asked next ≡ o → AreBehind asked items → AreBehind asked (cons_option o items)
one_behind asked row next item None items is passes rises at rest = rest
one_behind asked row next item (Some other) items is passes rises at rest =
    let by = told_by asked row item is in
    let next_by = told_by asked next other at in
    let up : is_before (text_of other) (text_of item) ≡ false =
    rw (by.1, next_by.1) (text_rises asked.prefix asked.delimiter row.key next.key by.0 next_by.0 rises) in
    (behind_up asked.token (text_of item) (text_of other) up passes, rest)

all_behind_token : (asked : ObjectsAsked) (row : KeyRow) (item : Item) (rows : List KeyRow) → item_of asked row ≡ Some item → behind asked (text_of item) ≡ true → AllBehind row.key rows → AreBehind asked (filter_map (item_of asked) rows)
all_behind_token asked row item [] is passes rises = tt
all_behind_token asked row item (next ∷ rows) is passes rises =
    one_behind asked row next item (item_of asked next) (filter_map (item_of asked) rows) is passes rises.0 refl (all_behind_token asked row item rows is passes rises.1)

stays_cons : (asked : ObjectsAsked) (row : KeyRow) (o : Option Item) (rows : List KeyRow) → item_of asked row ≡ o → AllBehind row.key rows
    → StaysPassed (λ (item : Item). behind asked (text_of item)) (filter_map (item_of asked) rows) → StaysPassed (λ (item : Item). behind asked (text_of item)) (cons_option o (filter_map (item_of asked) rows))
stays_cons asked row None rows at rises rest = rest
stays_cons asked row (Some item) rows at rises rest = (λ passes. all_behind_token asked row item rows at passes rises, rest)

stays_passed : (asked : ObjectsAsked) (rows : List KeyRow) → Rising rows → StaysPassed (λ (item : Item). behind asked (text_of item)) (filter_map (item_of asked) rows)
stays_passed asked [] rises = tt
stays_passed asked (row ∷ rows) rises = stays_cons asked row (item_of asked row) rows refl rises.0 (stays_passed asked rows rises.1)

-- so each row may be judged by itself
pub asked-told : (asked : ObjectsAsked) (rows : List KeyRow) → Rising rows → objects_asked asked rows ≡ distinct None (filter_map (told asked) rows)
asked-told asked rows rises =
    ap (filter (is_behind_token asked)) (dedup-is (filter_map (item_of asked) rows))
    ∙ filter-distinct (behind asked) None (filter_map (item_of asked) rows) tt (stays_passed asked rows rises)
    ∙ ap (distinct None) (filter-told asked rows)

-- ---- where a list begins

last_or-map : {A B : Type 0} (f : A → B) (o : Option A) (xs : List A) → option_map f (last_or o xs) ≡ last_or (option_map f o) (map f xs)
last_or-map f o [] = refl
last_or-map f o (x ∷ xs) = last_or-map f (Some x) xs

none_mapped : {A B : Type 0} (f : A → B) (b : Bool) (o : Option A) → option_map f (if b then o else None) ≡ (if b then option_map f o else None)
none_mapped f true o = refl
none_mapped f false o = refl

-- what a page tells of which some item is asked for
told-page : (most : ℕ) (items : List Item) → (most == 0) ≡ false → told_of (page_of most items) ≡ record {
  contents = filter_map object_in (take most items);
  prefixes = filter_map prefix_in (take most items);
  next = if nat_lt most (length items) then last_or None (map text_of (take most items)) else None;
}
told-page most items some =
    let next = none_mapped text_of (nat_lt most (length items)) (last_or None (take most items)) ∙ ap (λ o. if nat_lt most (length items) then o else None) (last_or-map text_of None (take most items)) in
    rw some (λ i. record { contents = filter_map object_in (take most items); prefixes = filter_map prefix_in (take most items); next = next i })

-- a page that takes any items, and has none yet, becomes the page of all
pub from_nothing : (asked : ObjectsAsked) (rows : List KeyRow) → Rising rows → (asked.max_keys == 0) ≡ false → with_rows asked (no_items asked.max_keys) rows ≡ objects_told asked rows
unfolding with_items objects_told
from_nothing asked rows rises some =
    sym (ap (λ items. told_of (page_of asked.max_keys items)) (asked-told asked rows rises) ∙ told-page asked.max_keys (distinct None (filter_map (told asked) rows)) some)

-- one that takes none is empty
pub nothing_asked : (asked : ObjectsAsked) (rows : List KeyRow) → asked.max_keys ≡ 0 → page_of_draft (no_items asked.max_keys) ≡ objects_told asked rows
unfolding objects_told
nothing_asked asked rows none = sym (ap (λ most. told_of (page_of most (objects_asked asked rows))) none)

-- ---- where a list goes on

is_le-lt : (a b c : List ℕ) → is_le (byte_order a b) ≡ true → is_before b c ≡ true → is_le (byte_order a c) ≡ true
is_le-lt a b c ab bc = up_to_order a c ∙ ap not (not_back a c (up_to_before a b c (not_true (is_before b a) (sym (up_to_order a b) ∙ ab)) bc))

-- what is behind a key from a place on is from there on too
pub from_up : (start : Start) (a b : List ℕ) → is_from start a ≡ true → is_before a b ≡ true → is_from start b ≡ true
from_up First a b from rises = refl
from_up (From first) a b from rises = is_le-lt first a b from rises
from_up (Behind last) a b from rises = before_trans last a b from rises

pub goes_on_up : (start : Option Start) (a b : List ℕ) → goes_on_at start a ≡ true → is_before a b ≡ true → goes_on_at start b ≡ true
goes_on_up None a b from rises = absurd (cc)
goes_on_up (Some start) a b from rises = from_up start a b from rises

-- behind a key from a place on, none is left out
pub left_from-all : (start : Option Start) (key : List ℕ) (rows : List KeyRow) → goes_on_at start key ≡ true → AllBehind key rows → left_from start rows ≡ rows
left_from-all start key [] from rises = refl
left_from-all start key (row ∷ rows) from rises = rw (goes_on_up start key row.key from rises.0) (ap (λ rest. row ∷ rest) (left_from-all start key rows from rises.1))

-- a row that adds nothing
adds_nothing : (asked : ObjectsAsked) (last : Option (List ℕ)) (o : Option Item) (items : List Item) → IfSome o (λ item. last ≡ Some (text_of item)) → distinct last (cons_option o items) ≡ distinct last items
adds_nothing asked last None items adds = refl
adds_nothing asked last (Some item) items adds = rw (ap (λ l. is_last l (text_of item)) adds ∙ last_again (text_of item)) refl

-- rows that add nothing may be left out, where they stand in front of all others
abbrev pub LeavesNothing : ObjectsAsked → Option (List ℕ) → Option Start → List KeyRow → Type 0
LeavesNothing asked last start rows = AllByRecursion (λ (row : KeyRow). goes_on_at start row.key ≡ false → AddsNothing asked last row) rows

pub left_out : (asked : ObjectsAsked) (last : Option (List ℕ)) (start : Option Start) (rows : List KeyRow) → Rising rows → LeavesNothing asked last start rows
    → distinct last (filter_map (told asked) (left_from start rows)) ≡ distinct last (filter_map (told asked) rows)
left_out asked last start [] rises leaves = refl
left_out asked last start (row ∷ rows) rises leaves = ⊎_elim
    (λ from. rw from (ap (λ rest. distinct last (cons_option (told asked row) (filter_map (told asked) rest))) (left_from-all start row.key rows from rises.0)))
    (λ before. rw before (left_out asked last start rows rises.1 leaves.1 ∙ sym (adds_nothing asked last (told asked row) (filter_map (told asked) rows) (leaves.0 before))))
    (cases_Bool (goes_on_at start row.key))

-- ---- one batch of rows

-- keys that stand up to another
abbrev pub AllUpTo : List ℕ → List KeyRow → Type 0
AllUpTo key rows = AllByRecursion (λ (row : KeyRow). is_before key row.key ≡ false) rows

-- the rows in front of one in a rising list, and those behind it
all_front : (front : List KeyRow) (row : KeyRow) (rest : List KeyRow) → Rising (front ++ row ∷ rest) → AllUpTo row.key front
all_front [] row rest rises = tt
all_front (next ∷ front) row rest rises = (not_back next.key row.key (middle front row rest next.key rises.0), all_front front row rest rises.1)
  where
    middle : (front : List KeyRow) (row : KeyRow) (rest : List KeyRow) (key : List ℕ) → AllBehind key (front ++ row ∷ rest) → is_before key row.key ≡ true
    middle [] row rest key all = all.0
    middle (next ∷ front) row rest key all = middle front row rest key all.1

all_rest : (front : List KeyRow) (row : KeyRow) (rest : List KeyRow) → Rising (front ++ row ∷ rest) → AllBehind row.key rest × Rising rest
all_rest [] row rest rises = rises
all_rest (next ∷ front) row rest rises = all_rest front row rest rises.1

-- a part of rising rows rises
all_kept : (p : KeyRow → Bool) (key : List ℕ) (rows : List KeyRow) → AllBehind key rows → AllBehind key (filter p rows)
all_kept p key [] all = tt
all_kept p key (row ∷ rows) all = ⊎_elim
    (λ kept. rw kept (all.0, all_kept p key rows all.1))
    (λ left. rw left (all_kept p key rows all.1))
    (cases_Bool (p row))

pub rising_kept : (p : KeyRow → Bool) (rows : List KeyRow) → Rising rows → Rising (filter p rows)
rising_kept p [] rises = tt
rising_kept p (row ∷ rows) rises = ⊎_elim
    (λ kept. rw kept (all_kept p row.key rows rises.0, rising_kept p rows rises.1))
    (λ left. rw left (rising_kept p rows rises.1))
    (cases_Bool (p row))

none_left : (next : Option Start) (key : List ℕ) (rows : List KeyRow) → ((other : List ℕ) → is_before key other ≡ false → goes_on_at next other ≡ false) → AllUpTo key rows → left_from next rows ≡ []
none_left next key [] behind all = refl
none_left next key (row ∷ rows) behind all = rw (behind row.key all.0) (none_left next key rows behind all.1)

leaves : (asked : ObjectsAsked) (key : List ℕ) (last : Option (List ℕ)) (next : Option Start) (rows : List KeyRow) → GoesBehind asked key last next → AllBehind key rows → LeavesNothing asked last next rows
leaves asked key last next [] goes all = tt
leaves asked key last next (row ∷ rows) goes all = (goes.passed row all.0, leaves asked key last next rows goes all.1)

kept_row : (start : Option Start) (row : KeyRow) (rows : List KeyRow) → goes_on_at start row.key ≡ true → left_from start (row ∷ rows) ≡ row ∷ left_from start rows
kept_row start row rows from = rw from refl

left_row : (start : Option Start) (row : KeyRow) (rows : List KeyRow) → goes_on_at start row.key ≡ false → left_from start (row ∷ rows) ≡ left_from start rows
left_row start row rows before = rw before refl

-- a place that is further on leaves rows out that another left
further : (start next : Option Start) (rows : List KeyRow) → ((key : List ℕ) → goes_on_at next key ≡ true → goes_on_at start key ≡ true) → left_from next (left_from start rows) ≡ left_from next rows
further start next [] on = refl
further start next (row ∷ rows) on = ⊎_elim
    (λ from.
    ap (left_from next) (kept_row start row rows (on row.key from))
    ∙ kept_row next row (left_from start rows) from
    ∙ ap (λ rest. row ∷ rest) (further start next rows on)
    ∙ sym (kept_row next row rows from))
    (λ before. ⊎_elim
    (λ kept. ap (left_from next) (kept_row start row rows kept) ∙ left_row next row (left_from start rows) before ∙ further start next rows on ∙ sym (left_row next row rows before))
    (λ left. ap (left_from next) (left_row start row rows left) ∙ further start next rows on ∙ sym (left_row next row rows before))
    (cases_Bool (goes_on_at start row.key)))
    (cases_Bool (goes_on_at next row.key))

-- what is left from a place stands there
all_from : (start : Option Start) (rows : List KeyRow) → AllByRecursion (λ (row : KeyRow). goes_on_at start row.key ≡ true) (left_from start rows)
all_from start [] = tt
all_from start (row ∷ rows) = ⊎_elim
    (λ from. rw from (from, all_from start rows))
    (λ before. rw before (all_from start rows))
    (cases_Bool (goes_on_at start row.key))

among : (start : Option Start) (front : List KeyRow) (row : KeyRow) (rest : List KeyRow) → AllByRecursion (λ (r : KeyRow). goes_on_at start r.key ≡ true) (front ++ row ∷ rest) → goes_on_at start row.key ≡ true
among start [] row rest all = all.0
among start (next ∷ front) row rest all = among start front row rest all.1

-- where a list goes on behind the last row of a batch, with what the batch left
pub left_behind : (asked : ObjectsAsked) (last : Option (List ℕ)) (start next : Option Start) (all front : List KeyRow) (row : KeyRow) (later : List KeyRow)
    → Rising all → left_from start all ≡ front ++ row ∷ later → GoesBehind asked row.key last next → left_from next all ≡ left_from next later
left_behind asked last start next all front row later rises is goes =
    let at = among start front row later (subst (λ rows. AllByRecursion (λ (r : KeyRow). goes_on_at start r.key ≡ true) rows) is (all_from start all)) in
    let part : Rising (front ++ row ∷ later) = subst Rising is (rising_kept (λ r. goes_on_at start r.key) all rises) in
    let on = λ (key : List ℕ) (from : goes_on_at next key ≡ true). ⊎_elim
    (λ behind. goes_on_up start row.key key at behind)
    (λ up_to_key. absurd (false≢true (sym (goes.behind key up_to_key) ∙ from)))
    (cases_Bool (is_before row.key key)) in
    sym (further start next all on)
    ∙ ap (left_from next) is
    ∙ filter-append (λ (r : KeyRow). goes_on_at next r.key) front (row ∷ later)
    ∙ ap (λ rows. rows ++ left_from next (row ∷ later)) (none_left next row.key front goes.behind (all_front front row later part))
    ∙ left_row next row later (goes.behind row.key (not_itself row.key))

fewer : (start : Option Start) (rows : List KeyRow) → length (left_from start rows) ≤ length rows
fewer start [] = omega arith
fewer start (row ∷ rows) = ⊎_elim
    (λ from. rw from (omega (arith, fewer start rows)))
    (λ before. rw before (omega (arith, fewer start rows)))
    (cases_Bool (goes_on_at start row.key))

-- the same of a page
pub goes_on : (asked : ObjectsAsked) (d : Drafted) (start next : Option Start) (all front : List KeyRow) (row : KeyRow) (later : List KeyRow)
    → Rising all → left_from start all ≡ front ++ row ∷ later → GoesBehind asked row.key d.last next → with_rows asked d (left_from next all) ≡ with_rows asked d later
unfolding with_items
goes_on asked d start next all front row later rises is goes =
    let part : Rising (front ++ row ∷ later) = subst Rising is (rising_kept (λ r. goes_on_at start r.key) all rises) in
    let rest = all_rest front row later part in
    ap (with_rows asked d) (left_behind asked d.last start next all front row later rises is goes)
    ∙ ap (with_distinct d) (left_out asked d.last next later rest.1 (leaves asked row.key d.last next later goes rest.0))

-- ---- what a batch of rows makes of a page

nowhere : (rows : List KeyRow) → left_from None rows ≡ []
nowhere [] = refl
nowhere (row ∷ rows) = nowhere rows

-- a list that is no longer than what is taken of it
take_whole : {A : Type 0} (n : ℕ) (xs : List A) → length (take n xs) < n → take n xs ≡ xs
take_whole zero xs below = absurd (omega arith)
take_whole (suc n) [] below = refl
take_whole (suc n) (x ∷ xs) below = ap (λ rest. x ∷ rest) (take_whole n xs (omega (arith, below)))

-- one that has a last element
pub split_last : {A : Type 0} (xs : List A) (x : A) → last_in xs ≡ Some x → xs ≡ take (length xs - 1) xs ++ x ∷ []
split_last xs x is =
    let at = length xs - 1 in
    let within : at < length xs = slice_get_within xs at x is in
    let whole : at + 1 ≡ length xs = omega arith in
    sym (ap (λ n. take n xs) whole ∙ take-length xs)
    ∙ take_more xs at x within
    ∙ ap (λ y. take at xs ++ y ∷ []) (get_or_from_slice_get xs at x x is)

-- all rows were taken
pub took_all : (asked : ObjectsAsked) (before after : Drafted) (most : ℕ) (rows all : List KeyRow) (start : Option Start)
    → ((rest : List KeyRow) → with_rows asked after rest ≡ with_rows asked before (rows ++ rest)) → rows ≡ take most (left_from start all) → length rows < most
    → with_rows asked after (left_from None all) ≡ with_rows asked before (left_from start all)
took_all asked before after most rows all start took is few =
    let same : rows ≡ left_from start all = is ∙ take_whole most (left_from start all) (subst (λ r. length r < most) is few) in
    ap (with_rows asked after) (nowhere all) ∙ took [] ∙ ap (with_rows asked before) (append-nil rows ∙ same)

-- the page was truncated
pub took_enough : (asked : ObjectsAsked) (before after : Drafted) (most : ℕ) (rows all : List KeyRow) (start : Option Start)
    → ((rest : List KeyRow) → with_rows asked after rest ≡ with_rows asked before (rows ++ rest)) → rows ≡ take most (left_from start all) → after.is_truncated ≡ true
    → with_rows asked after (left_from None all) ≡ with_rows asked before (left_from start all)
took_enough asked before after most rows all start took is is_full =
    let later = drop most (left_from start all) in
    full after (filter_map (told asked) (left_from None all)) is_full
    ∙ sym (full after (filter_map (told asked) later) is_full)
    ∙ took later
    ∙ ap (with_rows asked before) (ap (λ r. r ++ later) is ∙ take-append-drop most (left_from start all))

-- there may be more
more_left : (most : ℕ) (rows all : List KeyRow) (row : KeyRow) (start : Option Start) → rows ≡ take most (left_from start all) → last_in rows ≡ Some row
    → left_from start all ≡ take (length rows - 1) rows ++ row ∷ drop most (left_from start all)
more_left most rows all row start is at =
    let later = drop most (left_from start all) in
    let front = take (length rows - 1) rows in
    sym (take-append-drop most (left_from start all))
    ∙ ap (λ r. r ++ later) (sym is ∙ split_last rows row at)
    ∙ append_assoc front (row ∷ []) later

pub took_more : (asked : ObjectsAsked) (before after : Drafted) (most : ℕ) (rows all : List KeyRow) (row : KeyRow) (start next : Option Start)
    → ((rest : List KeyRow) → with_rows asked after rest ≡ with_rows asked before (rows ++ rest)) → rows ≡ take most (left_from start all) → Rising all → last_in rows ≡ Some row
    → GoesBehind asked row.key after.last next
    → with_rows asked after (left_from next all) ≡ with_rows asked before (left_from start all)
took_more asked before after most rows all row start next took is rises at goes =
    let later = drop most (left_from start all) in
    let front = take (length rows - 1) rows in
    goes_on asked after start next all front row later rises (more_left most rows all row start is at) goes
    ∙ took later
    ∙ ap (with_rows asked before) (ap (λ r. r ++ later) is ∙ take-append-drop most (left_from start all))

-- and then fewer
pub fewer_left : (asked : ObjectsAsked) (last : Option (List ℕ)) (most : ℕ) (rows all : List KeyRow) (row : KeyRow) (start next : Option Start)
    → rows ≡ take most (left_from start all) → Rising all → last_in rows ≡ Some row → GoesBehind asked row.key last next → length (left_from next all) < length (left_from start all)
fewer_left asked last most rows all row start next is rises at goes =
    let later = drop most (left_from start all) in
    let front = take (length rows - 1) rows in
    let left = more_left most rows all row start is at in
    let long : length (left_from start all) ≡ length front + suc (length later) = ap length left ∙ length-append front (row ∷ later) in
    rw (left_behind asked last start next all front row later rises left goes) (omega (arith, fewer next later))

-- so a batch was taken
some_mapped : {A B : Type 0} (f : A → B) (o : Option A) (y : B) → option_map f o ≡ Some y → (x : A) × (o ≡ Some x) × (f x ≡ y)
some_mapped f None y is = absurd (cc)
some_mapped f (Some x) y is = (x, refl, cc)

pub took_batch : (asked : ObjectsAsked) (before after : Drafted) (most : ℕ) (rows all : List KeyRow) (key : List ℕ) (start : Start) (next : Option Start)
    → ((rest : List KeyRow) → with_rows asked after rest ≡ with_rows asked before (rows ++ rest)) → rows ≡ take most (left_from (Some start) all)
    → rises (map (λ (row : KeyRow). row.key) all) ≡ true → option_map (λ (row : KeyRow). row.key) (last_in rows) ≡ Some key → GoesBehind asked key after.last next
    → TakesBatch asked before after (Some start) next all
took_batch asked before after most rows all key start next took is rise at goes =
    let last = some_mapped (λ (row : KeyRow). row.key) (last_in rows) key at in
    let goes_row : GoesBehind asked last.0.key after.last next = subst (λ k. GoesBehind asked k after.last next) (sym last.2) goes in
    record {
      page = took_more asked before after most rows all last.0 (Some start) next took is (rising all rise) last.1 goes_row;
      fewer = fewer_steps next (fewer_left asked after.last most rows all last.0 (Some start) next is (rising all rise) last.1 goes_row);
    }
  where
    fewer_steps : (next : Option Start) → length (left_from next all) < length (left_from (Some start) all) → steps_left next all < steps_left (Some start) all
    fewer_steps None below = omega arith
    fewer_steps (Some further) below = omega (arith, below)

pub took_last : (asked : ObjectsAsked) (before after : Drafted) (all : List KeyRow) (start : Start)
    → with_rows asked after (left_from None all) ≡ with_rows asked before (left_from (Some start) all) → TakesBatch asked before after (Some start) None all
took_last asked before after all start page = record { page = page; fewer = omega arith }

-- where there is no key for more, all were taken
pub took_few : (asked : ObjectsAsked) (before after : Drafted) (most : ℕ) (rows all : List KeyRow) (start : Start)
    → ((rest : List KeyRow) → with_rows asked after rest ≡ with_rows asked before (rows ++ rest)) → rows ≡ take most (left_from (Some start) all) → length rows < most
    → TakesBatch asked before after (Some start) None all
took_few asked before after most rows all start took is few = took_last asked before after all start (took_all asked before after most rows all (Some start) took is few)

pub took_full : (asked : ObjectsAsked) (before after : Drafted) (most : ℕ) (rows all : List KeyRow) (start : Start)
    → ((rest : List KeyRow) → with_rows asked after rest ≡ with_rows asked before (rows ++ rest)) → rows ≡ take most (left_from (Some start) all) → after.is_truncated ≡ true
    → TakesBatch asked before after (Some start) None all
took_full asked before after most rows all start took is is_full = took_last asked before after all start (took_enough asked before after most rows all (Some start) took is is_full)

-- after the last batch nothing is left
pub took_last_batch : (asked : ObjectsAsked) (first before after : Drafted) (begin start : Start) (next : Option Start) (all rows : List KeyRow)
    → TakesBatch asked before after (Some start) next rows → rows ≡ all → next ≡ None
    → with_rows asked before (left_from (Some start) all) ≡ with_rows asked first (left_from (Some begin) all) → with_rows asked after [] ≡ with_rows asked first (left_from (Some begin) all)
took_last_batch asked first before after begin start next all rows took same none so_far =
    ap (with_rows asked after) (sym (ap (λ n. left_from n rows) none ∙ nowhere rows))
    ∙ took.page
    ∙ ap (λ r. with_rows asked before (left_from (Some start) r)) same
    ∙ so_far

-- ---- the whole list

begun : (asked : ObjectsAsked) (start : Start) (rows : List KeyRow) → Begins asked start → LeavesNothing asked None (Some start) rows
begun asked start [] begins = tt
begun asked start (row ∷ rows) begins = (begins row, begun asked start rows begins)

-- from where it begins, nothing is left out
pub begins_whole : (asked : ObjectsAsked) (start : Start) (rows : List KeyRow) → Rising rows → Begins asked start → with_rows asked (no_items asked.max_keys) (left_from (Some start) rows) ≡ with_rows asked (no_items asked.max_keys) rows
unfolding with_items
begins_whole asked start rows rises begins = ap (with_distinct (no_items asked.max_keys)) (left_out asked None (Some start) rows rises (begun asked start rows begins))

-- and a page that took all rows from there is the page of all
pub filled : (asked : ObjectsAsked) (before after : Drafted) (start : Start) (rows : List KeyRow) → rises (map (λ (row : KeyRow). row.key) rows) ≡ true → (asked.max_keys == 0) ≡ false
    → Begins asked start → before ≡ no_items asked.max_keys → with_rows asked after [] ≡ with_rows asked before (left_from (Some start) rows) → page_of_draft after ≡ objects_told asked rows
filled asked before after start rows rise some begins is took =
    sym (no_more after)
    ∙ took
    ∙ ap (λ d. with_rows asked d (left_from (Some start) rows)) is
    ∙ begins_whole asked start rows (rising rows rise) begins
    ∙ from_nothing asked rows (rising rows rise) some
