-- Where a list of objects begins, and where it goes on.
use Rattle.std.proofs.Common.{◌≡◌, ℕ, zero, suc, ◌+◌, Bool, true, false, not, if◌then◌else◌, List, [], ◌∷◌, ◌++◌, length, take, drop, filter, Option, Some, None, IfSome, Result, Ok, Err, IfOk, refl, sym, ap, ◌∙◌, subst, inl, inr, ◌⊎◌, ⊎_elim, append-nil, append_assoc}
use Rattle.std.specs.Prelude.{option_map, option_and_then, nat_eq, ◌&&◌, ◌||◌}
use Rattle.std.specs.List.{starts_with, AllByRecursion}
use Rattle.std.specs.Option.{option_map_or, option_or}
use Rattle.std.proofs.lemmas.Bool.{cases_Bool, false≢true}
use Rattle.std.proofs.lemmas.List.{take-append-drop}
use Rattle.std.proofs.lemmas.Slice.Eq.{bytes_eq-Decides}
use Rattle.s3_versions.specs.declared.picking.Facts.{Facts}
use Rattle.s3_records.specs.Rows.{is_from}
use Rattle.s3_records.specs.declared.rows.KeyRow.{KeyRow}
use Rattle.s3_records.specs.declared.rows.Start.{Start}
use Rattle.s3_records.specs.declared.rows.Start.TheVariants.{First, From, Behind}
use Rattle.s3_prefixes.specs.declared.asked.ObjectsAsked.{ObjectsAsked}
use Rattle.s3_prefixes.specs.Items.{Item, CommonPrefix, text_of, is_before, common_prefix, is_asked, is_behind_start, rolled, behind_token}
use Rattle.s3_listings.specs.Objects.{item_of}
use Rattle.s3_prefixes.specs.Tellings.{is_last}
use Rattle.s3_listings.specs.Drafts.{AddsNothing, AreBehindStart, GoesBehind, IsDone, IsRaised, limit}
use Rattle.s3_listings.proofs.OrderLemmas.{up_to_order, up_to_before, before_up_to, not_back}
use Rattle.s3_listings.proofs.SeekLemmas.{not_before_front, not_true, not_itself, between, raised_behind, below_raised}
use Rattle.s3_listings.proofs.ObjectLemmas.{begins, begins_with, common_begins, common_again, text_not_behind, told_by}

-- what follows where a call answered, and where it found something
pub if_ok : {T E : Type 0} {P Q : T → Type 0} (r : Result T E) → ((x : T) → P x → Q x) → IfOk r P → IfOk r Q
if_ok (Ok x) f p = f x p
if_ok (Err e) f p = tt

pub if_some : {T : Type 0} {P Q : T → Type 0} (o : Option T) → ((x : T) → P x → Q x) → IfSome o P → IfSome o Q
if_some None f p = tt
if_some (Some x) f p = f x p

pub at_some : {T : Type 0} (P : T → Type 0) (o : Option T) (x : T) → o ≡ Some x → IfSome o P → P x
at_some P o x is p = subst (λ r. IfSome r P) is p

-- ---- keys that are behind the one to start after

not_false : (b : Bool) → not b ≡ false → b ≡ true
not_false true h = refl
not_false false h = absurd (cc)

-- from a key on that is behind a text all are
pub all_from_key : (text first : List ℕ) (start : Start) → start ≡ From first → is_before text first ≡ true → (key : List ℕ) → is_from start key ≡ true → is_before text key ≡ true
all_from_key text first start at before key there = before_up_to text first key before (not_true (is_before key first) (sym (up_to_order first key) ∙ subst (λ s. is_from s key ≡ true) at there))

-- and behind a key that isn't before it
pub all_behind_key : (text last : List ℕ) (start : Start) → start ≡ Behind last → not (is_before last text) ≡ true → (key : List ℕ) → is_from start key ≡ true → is_before text key ≡ true
all_behind_key text last start at up_to key there = up_to_before text last key (not_true (is_before last text) up_to) (subst (λ s. is_from s key ≡ true) at there)

-- so are the rows from such a place on
abbrev AllFrom : (List ℕ → Type 0) → Start → List KeyRow → Type 0
AllFrom P start rows = AllByRecursion (λ (row : KeyRow). P row.key) (filter (λ (row : KeyRow). is_from start row.key) rows)

one_from : (P : List ℕ → Type 0) (start : Start) → ((key : List ℕ) → is_from start key ≡ true → P key) → (row : KeyRow) (rows : List KeyRow) (b : Bool) → is_from start row.key ≡ b → AllFrom P start rows → AllFrom P start (row ∷ rows)
one_from P start each row rows true is rest = rw is (each row.key is, rest)
one_from P start each row rows false is rest = rw is rest

rows_from : (P : List ℕ → Type 0) (start : Start) → ((key : List ℕ) → is_from start key ≡ true → P key) → (rows : List KeyRow) → AllFrom P start rows
rows_from P start each [] = tt
rows_from P start each (row ∷ rows) = one_from P start each row rows (is_from start row.key) refl (rows_from P start each rows)

all_taken : (P : KeyRow → Type 0) (most : ℕ) (rows : List KeyRow) → AllByRecursion P rows → AllByRecursion P (take most rows)
all_taken P zero rows all = tt
all_taken P (suc most) [] all = tt
all_taken P (suc most) (row ∷ rows) (first, rest) = (first, all_taken P most rows rest)

-- which are those of a batch
pub rows_behind : (asked : ObjectsAsked) (start : Start) (is_known : Bool) (most : ℕ) (rows all : List KeyRow) → (is_known ≡ true → (key : List ℕ) → is_from start key ≡ true → is_behind_start asked key ≡ true)
    → rows ≡ take most (filter (λ (row : KeyRow). is_from start row.key) all) → AreBehindStart asked is_known rows
rows_behind asked start is_known most rows all each is known =
    subst (AllByRecursion (λ (row : KeyRow). is_behind_start asked row.key ≡ true)) (sym is)
    (all_taken (λ (row : KeyRow). is_behind_start asked row.key ≡ true) most (filter (λ (row : KeyRow). is_from start row.key) all) (rows_from (λ key. is_behind_start asked key ≡ true) start (each known) all))

-- from any other place on there is one that isn't
pub one_from_first : (text : List ℕ) (start : Start) → start ≡ First → (key : List ℕ) × (is_from start key ≡ true) × (is_before text key ≡ false)
one_from_first text start at = (text, subst (λ s. is_from s text ≡ true) (sym at) refl, not_itself text)

pub one_from_key : (text first : List ℕ) (start : Start) → start ≡ From first → is_before text first ≡ false → (key : List ℕ) × (is_from start key ≡ true) × (is_before text key ≡ false)
one_from_key text first start at back = (first, subst (λ s. is_from s first ≡ true) (sym at) (up_to_order first first ∙ ap not (not_itself first)), back)

pub one_behind_key : (text last : List ℕ) (start : Start) → start ≡ Behind last → not (is_before last text) ≡ false → (key : List ℕ) × (is_from start key ≡ true) × (is_before text key ≡ false)
one_behind_key text last start at before = (text, subst (λ s. is_from s text ≡ true) (sym at) (not_false (is_before last text) before), not_itself text)

-- ---- rows that are told as nothing

-- a key that isn't asked for
untold : (asked : ObjectsAsked) (row : KeyRow) (last : Option (List ℕ)) → is_asked asked row.key ≡ false → AddsNothing asked last row
untold asked row last other = rw other tt

-- one that doesn't begin with the prefix
pub untold_apart : (asked : ObjectsAsked) (row : KeyRow) (last : Option (List ℕ)) → starts_with nat_eq row.key asked.prefix ≡ false → AddsNothing asked last row
untold_apart asked row last apart = untold asked row last (rw apart refl)

-- one in front of the prefix
pub untold_before : (asked : ObjectsAsked) (row : KeyRow) → is_before row.key asked.prefix ≡ true → AddsNothing asked None row
untold_before asked row before = ⊎_elim
    (λ begun.
    let front = ap (λ k. is_before k asked.prefix) (begins row.key asked.prefix begun) ∙ not_before_front asked.prefix (drop (length asked.prefix) row.key) in
    absurd (false≢true (sym front ∙ before)))
    (λ apart. untold_apart asked row None apart)
    (cases_Bool (starts_with nat_eq row.key asked.prefix))

-- one that isn't behind the text behind which the list goes on
untold_token : (asked : ObjectsAsked) (row : KeyRow) (token : List ℕ) (o : Option Item) → asked.token ≡ Some token → is_before token row.key ≡ false → item_of asked row ≡ o
    → IfSome (option_and_then (behind_token asked) o) (λ item. None ≡ Some (text_of item))
untold_token asked row token None is up_to_it at = tt
untold_token asked row token (Some item) is up_to_it at =
    let by = told_by asked row item at in
    let low : is_before token (text_of item) ≡ false = ⊎_elim
    (λ behind. absurd (false≢true (sym up_to_it ∙ before_up_to token (text_of item) row.key behind (rw by.1 (text_not_behind asked.prefix asked.delimiter row.key by.0)))))
    (λ kept. kept)
    (cases_Bool (is_before token (text_of item))) in
    rw (ap (λ t. option_map_or (λ token. is_before token (text_of item)) t true) is ∙ low) tt

untold_start : (asked : ObjectsAsked) (row : KeyRow) (token start_after : Option (List ℕ)) (text : List ℕ) → asked.token ≡ token → asked.start_after ≡ start_after → option_or token start_after ≡ Some text
    → is_before text row.key ≡ false → AddsNothing asked None row
untold_start asked row (Some token) start_after text is start is_text up_to_it =
    untold_token asked row token (item_of asked row) is (ap (λ t. is_before t row.key) (the_same is_text) ∙ up_to_it) refl
  where
    the_same : {x y : List ℕ} → Some x ≡ Some y → x ≡ y
    the_same e = cc
untold_start asked row None None text is start is_text up_to_it = absurd (cc)
untold_start asked row None (Some start_text) text is start is_text up_to_it =
    untold asked row None (neither (starts_with nat_eq row.key asked.prefix) (is_behind_start asked row.key) (rw (is, start) (ap (λ t. is_before t row.key) (the_same is_text) ∙ up_to_it)))
  where
    the_same : {x y : List ℕ} → Some x ≡ Some y → x ≡ y
    the_same e = cc

    neither : (a b : Bool) → b ≡ false → (a && b) ≡ false
    neither true b h = h
    neither false b h = refl

pub untold_up_to : (asked : ObjectsAsked) (row : KeyRow) (text : List ℕ) → limit asked ≡ Some text → is_before text row.key ≡ false → AddsNothing asked None row
untold_up_to asked row text is up_to_it = untold_start asked row asked.token asked.start_after text refl refl is up_to_it

-- ---- where a list begins

-- places at the beginning of a text
pub from_front : (text key : List ℕ) (other : List ℕ) → starts_with nat_eq text key ≡ true → is_from (From key) other ≡ false → is_before other text ≡ true
from_front text key other begun before =
    let above : is_before text key ≡ false = ap (λ t. is_before t key) (begins text key begun) ∙ not_before_front key (drop (length key) text) in
    before_up_to other key text (not_false (is_before other key) (sym (up_to_order key other) ∙ before)) above

pub behind_front : (text key : List ℕ) (other : List ℕ) → starts_with nat_eq text key ≡ true → is_from (Behind key) other ≡ false → is_before text other ≡ false
behind_front text key other begun up_to_it = ⊎_elim
    (λ behind.
    let above : is_before text key ≡ false = ap (λ t. is_before t key) (begins text key begun) ∙ not_before_front key (drop (length key) text) in
    absurd (false≢true (sym up_to_it ∙ up_to_before key text other above behind)))
    (λ kept. kept)
    (cases_Bool (is_before text other))

pub front_begins : (text : List ℕ) (n : ℕ) → starts_with nat_eq text (take n text) ≡ true
front_begins text n = begins_with text (take n text) (drop n text) (sym (take-append-drop n text))

-- ---- where it goes on

-- behind a key
pub goes_behind : (asked : ObjectsAsked) (key : List ℕ) (last : Option (List ℕ)) → GoesBehind asked key last (Some (Behind key))
goes_behind asked key last = record {
  behind = λ other up_to_it. up_to_it;
  passed = λ row behind before. absurd (false≢true (sym before ∙ behind));
}

-- nowhere, where no more keys begin with the prefix
pub goes_nowhere : (asked : ObjectsAsked) (key : List ℕ) (last : Option (List ℕ)) → (is_before asked.prefix key && not (starts_with nat_eq key asked.prefix)) ≡ true → GoesBehind asked key last None
goes_nowhere asked key last past = record {
  behind = λ other up_to_it. refl;
  passed = λ row behind before. ⊎_elim
      (λ begun.
      let p = both _ _ past in
      let key_is = between asked.prefix [] (drop (length asked.prefix) row.key) key (ap (is_before key) (append-nil asked.prefix) ∙ not_back asked.prefix key p.0)
      (ap (λ k. is_before k key) (sym (begins row.key asked.prefix begun)) ∙ not_back key row.key behind) in
      absurd (false≢true (sym (not_true (starts_with nat_eq key asked.prefix) p.1) ∙ begins_with key asked.prefix (drop (length asked.prefix) key) key_is)))
      (λ apart. untold_apart asked row last apart)
      (cases_Bool (starts_with nat_eq row.key asked.prefix));
}
  where
    both : (a b : Bool) → (a && b) ≡ true → (a ≡ true) × (b ≡ true)
    both true true h = (refl, refl)
    both true false h = absurd (cc)
    both false b h = absurd (cc)

-- ---- behind a common prefix

last_is : (last : Option (List ℕ)) (text : List ℕ) → is_last last text ≡ true → last ≡ Some text
last_is None text is = absurd (cc)
last_is (Some other) text is = ap Some (sym ((bytes_eq-Decides text other).0 is))

either_done : (a b : Bool) → (a || not b) ≡ true → (a ≡ true) ⊎ (b ≡ false)
either_done true b h = inl refl
either_done false true h = absurd (cc)
either_done false false h = inr refl

-- of a key that has it nothing more is told
done_again : (asked : ObjectsAsked) (row : KeyRow) (last : Option (List ℕ)) (prefix : List ℕ) (is_asked_for : Bool) (facts : Option Facts)
    → (is_last last prefix || not (option_map_or (λ token. is_before token prefix) asked.token true)) ≡ true
    → IfSome (option_and_then (behind_token asked) (if is_asked_for then option_map (rolled (Some prefix) row.key) facts else None)) (λ item. last ≡ Some (text_of item))
done_again asked row last prefix false facts done = tt
done_again asked row last prefix true None done = tt
done_again asked row last prefix true (Some f) done = ⊎_elim
    (λ is. given (option_map_or (λ token. is_before token prefix) asked.token true) (last_is last prefix is))
    (λ up_to_token. rw up_to_token tt)
    (either_done _ _ done)
  where
    given : (b : Bool) → last ≡ Some prefix → IfSome (if b then Some (CommonPrefix prefix) else None) (λ item. last ≡ Some (text_of item))
    given true is = is
    given false is = tt

untold_done : (asked : ObjectsAsked) (row : KeyRow) (last : Option (List ℕ)) (prefix : List ℕ) → common_prefix asked row.key ≡ Some prefix
    → (is_last last prefix || not (option_map_or (λ token. is_before token prefix) asked.token true)) ≡ true → AddsNothing asked last row
untold_done asked row last prefix common done = rw common (done_again asked row last prefix (is_asked asked row.key) row.facts done)

-- so a list may go on behind all that have it
pub goes_over : (asked : ObjectsAsked) (key prefix first : List ℕ) (last : Option (List ℕ)) → IsDone asked last key prefix → IsRaised prefix first → GoesBehind asked key last (Some (From first))
goes_over asked key prefix first last is raised =
    let front = raised.0 in
    let byte = raised.1 in
    let rest = drop (length prefix) key in
    let key_is : key ≡ front ++ byte ∷ rest =
    common_begins asked.prefix asked.delimiter key prefix is.begun is.common ∙ ap (λ p. p ++ rest) raised.2 ∙ append_assoc front (byte ∷ []) rest in
    let below : is_before key first ≡ true = ap (λ k. is_before k first) key_is ∙ ap (is_before (front ++ byte ∷ rest)) raised.3 ∙ raised_behind front rest byte in
    record {
      behind = λ other up_to_it. up_to_order first other ∙ ap not (up_to_before other key first up_to_it below);
      passed = λ row behind before.
          let low : is_before row.key (front ++ byte ∷ rest) ≡ false = ap (is_before row.key) (sym key_is) ∙ not_back key row.key behind in
          let high : is_before row.key (front ++ (byte + 1) ∷ []) ≡ true = ap (is_before row.key) (sym raised.3) ∙ not_false (is_before row.key first) (sym (up_to_order first row.key) ∙ before) in
          let row_is = below_raised front rest row.key byte low high in
          let more = drop (length (front ++ byte ∷ [])) row.key in
          let common : common_prefix asked row.key ≡ Some prefix =
          ap (common_prefix asked) (row_is ∙ ap (λ p. p ++ more) (sym raised.2)) ∙ common_again asked.prefix asked.delimiter key prefix more is.common in
          untold_done asked row last prefix common is.done;
    }
