-- What a list of objects tells of rows, row by row.
use Rattle.std.proofs.Common.{◌≡◌, ℕ, suc, ◌+◌, ◌==◌, ◌≤◌, Bool, true, false, if◌then◌else◌, List, [], ◌∷◌, ◌++◌, filter, map, length, take, drop, Option, Some, None, IfSome, refl, sym, ap, ◌⊎◌, ◌∙◌, arith, subst, inl, inr, ⊎_elim, append_assoc, append-nil}
use Rattle.std.specs.Prelude.{option_map, unwrap_or, nat_eq, ◌&&◌}
use Rattle.std.specs.List.{dedup, dedup_from, starts_with, AllByRecursion}
use Rattle.std.specs.Str.{bytes_eq}
use Rattle.s3_text.proofs.OptionLemmas.{some_kept}
use Rattle.std.specs.Cmp.Lexicographic.{pointwise}
use Rattle.std.proofs.lemmas.List.{take-append-le}
use Rattle.std.proofs.Math.Seq.{drop-append_seam}
use Rattle.std.proofs.lemmas.Bool.{cases_Bool, false≢true}
use Rattle.std.proofs.lemmas.Bool.Decides.{Decides-eqb}
use Rattle.std.proofs.lemmas.Slice.Eq.{starts_is, bytes_eq-Decides}
use Rattle.s3_text.specs.Order.{rises}
use Rattle.s3_versions.specs.declared.picking.Facts.{Facts}
use Rattle.s3_records.specs.declared.rows.KeyRow.{KeyRow}
use Rattle.s3_prefixes.specs.declared.asked.ObjectsAsked.{ObjectsAsked}
use Rattle.s3_prefixes.specs.Items.{Item, text_of, is_before, up_to_first, rolled_up, common_prefix, is_asked, rolled}
use Rattle.s3_prefixes.specs.Tellings.{is_last}
use Rattle.s3_listings.specs.Objects.{item_of, is_same}
use Rattle.s3_listings.specs.Drafts.{distinct}
use Rattle.s3_listings.proofs.OrderLemmas.{before_trans, up_to_before, not_back}
use Rattle.s3_listings.proofs.SeekLemmas.{not_before_front, between, not_itself}

-- ---- items

pub last_again : (text : List ℕ) → is_last (Some text) text ≡ true
last_again text = (bytes_eq-Decides text text).1 refl

-- what std keeps of items is what is distinct
dedup-distinct : (item : Item) (items : List Item) → dedup_from is_same item items ≡ item ∷ distinct (Some (text_of item)) items
dedup-distinct item [] = refl
dedup-distinct item (x ∷ items) = elim (cases_Bool (is_same x item)) [
  | inl same ↦ rw same (dedup-distinct item items)
  | inr other ↦ rw other (ap (λ more. item ∷ more) (dedup-distinct x items))
]

pub dedup-is : (items : List Item) → dedup is_same items ≡ distinct None items
dedup-is [] = refl
dedup-is (item ∷ items) = dedup-distinct item items

-- a test that each item passes, and one that is passed from some item on
abbrev pub AllPass : (Item → Bool) → List Item → Type 0
AllPass p items = AllByRecursion (λ item. p item ≡ true) items

abbrev pub StaysPassed : (Item → Bool) → List Item → Type 0
StaysPassed p [] = Unit {0}
StaysPassed p (item ∷ items) = (p item ≡ true → AllPass p items) × StaysPassed p items

filter-all : (p : Item → Bool) (items : List Item) → AllPass p items → filter p items ≡ items
filter-all p [] all = refl
filter-all p (x ∷ items) all = rw (all.0) (ap (λ more. x ∷ more) (filter-all p items all.1))

filter-all_distinct : (p : Item → Bool) (last : Option (List ℕ)) (items : List Item) → AllPass p items → filter p (distinct last items) ≡ distinct last items
filter-all_distinct p last [] all = refl
filter-all_distinct p last (x ∷ items) all = elim (cases_Bool (is_last last (text_of x))) [
  | inl same ↦ rw same (filter-all_distinct p last items all.1)
  | inr other ↦ rw (other, all.0) (ap (λ more. x ∷ more) (filter-all_distinct p (Some (text_of x)) items all.1))
]

-- a test of texts alone, which the last text, if there is one, doesn't pass
abbrev FailsLast : (List ℕ → Bool) → Option (List ℕ) → Type 0
FailsLast q last = IfSome last (λ text. q text ≡ false)

not_last : (q : List ℕ → Bool) (last : Option (List ℕ)) (text : List ℕ) → FailsLast q last → q text ≡ true → is_last last text ≡ false
not_last q None text fails passes = refl
not_last q (Some other) text fails passes = ⊎_elim
    (λ same. absurd (false≢true (sym fails ∙ ap q (sym ((bytes_eq-Decides text other).0 same)) ∙ passes)))
    (λ apart. apart)
    (cases_Bool (bytes_eq text other))

-- where a test of texts stays passed, the items that pass may as well be taken before they are made distinct
pub filter-distinct : (q : List ℕ → Bool) (last : Option (List ℕ)) (items : List Item) → FailsLast q last → StaysPassed (λ item. q (text_of item)) items → filter (λ item. q (text_of item)) (distinct last items) ≡ distinct None (filter (λ item. q (text_of item)) items)
filter-distinct q last [] fails stays = refl
filter-distinct q last (x ∷ items) fails stays = elim (cases_Bool (q (text_of x))) [
  | inl passes ↦
      let rest = stays.0 passes in
      rw (passes, not_last q last (text_of x) fails passes)
      (rw passes
      (ap (λ more. x ∷ more) (filter-all_distinct (λ item. q (text_of item)) (Some (text_of x)) items rest ∙ ap (distinct (Some (text_of x))) (sym (filter-all (λ item. q (text_of item)) items rest)))))
  | inr fails_here ↦ elim (cases_Bool (is_last last (text_of x))) [
    | inl same ↦ rw (same, fails_here) (filter-distinct q last items fails stays.1)
    | inr other ↦ rw (other, fails_here) (filter-distinct q (Some (text_of x)) items fails_here stays.1)
  ]
]

-- ---- keys and their common prefixes

-- a beginning in other words
pub begins : (s p : List ℕ) → starts_with nat_eq s p ≡ true → s ≡ p ++ drop (length p) s
begins s p is = (starts_is Decides-eqb s p (starts_with nat_eq s p) refl).0 is

pub begins_with : (s p rest : List ℕ) → s ≡ p ++ rest → starts_with nat_eq s p ≡ true
begins_with s p rest is = (starts_is Decides-eqb s p (starts_with nat_eq s p) refl).1 rest is

-- an answer in one of two ways
some_of_two : {A : Type 0} (t : Bool) (x : A) (o : Option A) (g : A → A) (f : A) → (if t then Some x else option_map g o) ≡ Some f
    → ((t ≡ true) × (f ≡ x)) ⊎ ((t ≡ false) × ((y : A) × (f ≡ g y) × (o ≡ Some y)))
some_of_two true x o g f is = inl (refl, cc)
some_of_two false x None g f is = absurd (cc)
some_of_two false x (Some y) g f is = inr (refl, (y, cc, refl))

some_mapped : {A : Type 0} (o : Option A) (g : A → A) (p : A) → option_map g o ≡ Some p → (f : A) × (o ≡ Some f) × (p ≡ g f)
some_mapped None g p is = absurd (cc)
some_mapped (Some f) g p is = (f, refl, cc)

-- a text up to the end of the first delimiter in it begins that text, and holds the delimiter
split_found : (d : ℕ) (ds : List ℕ) (b : ℕ) (s f : List ℕ) → up_to_first (d ∷ ds) (b ∷ s) ≡ Some f
    → ((starts_with nat_eq (b ∷ s) (d ∷ ds) ≡ true) × (f ≡ d ∷ ds)) ⊎ ((starts_with nat_eq (b ∷ s) (d ∷ ds) ≡ false) × ((g : List ℕ) × (f ≡ b ∷ g) × (up_to_first (d ∷ ds) s ≡ Some g)))
split_found d ds b s f is = some_of_two (starts_with nat_eq (b ∷ s) (d ∷ ds)) (d ∷ ds) (up_to_first (d ∷ ds) s) (λ g. b ∷ g) f is

pub found_begins : (d : ℕ) (ds s f : List ℕ) → up_to_first (d ∷ ds) s ≡ Some f → (s ≡ f ++ drop (length f) s) × (length (d ∷ ds) ≤ length f)
found_begins d ds [] f is = absurd (cc)
found_begins d ds (b ∷ s) f is = ⊎_elim
    (λ here. rw here.1 (begins (b ∷ s) (d ∷ ds) here.0, omega arith))
    (λ later.
    let tail = found_begins d ds s later.1.0 later.1.2 in
    rw (later.1.1) (ap (λ r. b ∷ r) tail.0, omega (arith, tail.1)))
    (split_found d ds b s f is)

-- what stands behind what is long enough doesn't matter
starts_within : (g x y n : List ℕ) → length n ≤ length g → starts_with nat_eq (g ++ x) n ≡ starts_with nat_eq (g ++ y) n
starts_within g x y n within = ap (pointwise nat_eq n) (take-append-le (length n) g x within ∙ sym (take-append-le (length n) g y within))

-- a text that begins with what was found has the same found in it
pub found_again : (d : ℕ) (ds s f rest : List ℕ) → up_to_first (d ∷ ds) s ≡ Some f → up_to_first (d ∷ ds) (f ++ rest) ≡ Some f
found_again d ds [] f rest is = absurd (cc)
found_again d ds (b ∷ s) f rest is = ⊎_elim
    (λ here. subst (λ f. up_to_first (d ∷ ds) (f ++ rest) ≡ Some f) (sym here.1) (rw (begins_with ((d ∷ ds) ++ rest) (d ∷ ds) rest refl) refl))
    (λ later.
    let g = later.1.0 in
    let tail = found_begins d ds s g later.1.2 in
    let same : starts_with nat_eq (b ∷ g ++ rest) (d ∷ ds) ≡ false =
    starts_within (b ∷ g) rest (drop (length g) s) (d ∷ ds) (omega (arith, tail.1))
    ∙ ap (λ r. starts_with nat_eq (b ∷ r) (d ∷ ds)) (sym tail.0)
    ∙ later.0 in
    subst (λ f. up_to_first (d ∷ ds) (f ++ rest) ≡ Some f) (sym later.1.1) (rw same (ap (option_map (λ r. b ∷ r)) (found_again d ds s g rest later.1.2))))
    (split_found d ds b s f is)

some_length : (n : ℕ) → (suc n == 0) ≡ false
some_length n = grind arith

-- with a delimiter
pub rolled-is : (prefix : List ℕ) (d : ℕ) (ds key : List ℕ) → rolled_up prefix (d ∷ ds) key ≡ option_map (λ front. prefix ++ front) (up_to_first (d ∷ ds) (drop (length prefix) key))
rolled-is prefix d ds key = rw (some_length (length ds)) refl

-- a key begins with its common prefix
pub common_begins : (prefix delimiter key p : List ℕ) → starts_with nat_eq key prefix ≡ true → rolled_up prefix delimiter key ≡ Some p → key ≡ p ++ drop (length p) key
common_begins prefix [] key p begun is = absurd (cc)
common_begins prefix (d ∷ ds) key p begun is =
    let found = some_mapped (up_to_first (d ∷ ds) (drop (length prefix) key)) (λ front. prefix ++ front) p (sym (rolled-is prefix d ds key) ∙ is) in
    let f = found.0 in
    let rest = drop (length f) (drop (length prefix) key) in
    let whole : key ≡ p ++ rest =
    begins key prefix begun
    ∙ ap (λ r. prefix ++ r) (found_begins d ds (drop (length prefix) key) f found.1).0
    ∙ sym (append_assoc prefix f rest)
    ∙ ap (λ r. r ++ rest) (sym found.2) in
    begins key p (begins_with key p rest whole)

-- a key that begins with the common prefix of another has the same
pub common_again : (prefix delimiter key p rest : List ℕ) → rolled_up prefix delimiter key ≡ Some p → rolled_up prefix delimiter (p ++ rest) ≡ Some p
common_again prefix [] key p rest is = absurd (cc)
common_again prefix (d ∷ ds) key p rest is =
    let found = some_mapped (up_to_first (d ∷ ds) (drop (length prefix) key)) (λ front. prefix ++ front) p (sym (rolled-is prefix d ds key) ∙ is) in
    let f = found.0 in
    let behind : drop (length prefix) (p ++ rest) ≡ f ++ rest =
    ap (λ r. drop (length prefix) (r ++ rest)) found.2
    ∙ ap (drop (length prefix)) (append_assoc prefix f rest)
    ∙ drop-append_seam prefix (f ++ rest) in
    rolled-is prefix d ds (p ++ rest)
    ∙ ap (λ r. option_map (λ front. prefix ++ front) (up_to_first (d ∷ ds) r)) behind
    ∙ ap (option_map (λ front. prefix ++ front)) (found_again d ds (drop (length prefix) key) f rest found.1)
    ∙ ap Some (sym found.2)

-- the text by which a key is told, if it is
abbrev pub text_for : (prefix delimiter key : List ℕ) → List ℕ
text_for prefix delimiter key = unwrap_or (rolled_up prefix delimiter key) key

-- it isn't behind the key
text_up_to : (prefix delimiter key : List ℕ) (o : Option (List ℕ)) → starts_with nat_eq key prefix ≡ true → rolled_up prefix delimiter key ≡ o → is_before key (unwrap_or o key) ≡ false
text_up_to prefix delimiter key None begun is = not_itself key
text_up_to prefix delimiter key (Some p) begun is =
    ap (λ k. is_before k p) (common_begins prefix delimiter key p begun is) ∙ not_before_front p (drop (length p) key)

pub text_not_behind : (prefix delimiter key : List ℕ) → starts_with nat_eq key prefix ≡ true → is_before key (text_for prefix delimiter key) ≡ false
text_not_behind prefix delimiter key begun = text_up_to prefix delimiter key (rolled_up prefix delimiter key) begun refl

-- and isn't before that of a key before
text_rising : (prefix delimiter k l : List ℕ) (o : Option (List ℕ)) → starts_with nat_eq k prefix ≡ true → starts_with nat_eq l prefix ≡ true → is_before k l ≡ true → rolled_up prefix delimiter l ≡ o → is_before (unwrap_or o l) (text_for prefix delimiter k) ≡ false
text_rising prefix delimiter k l None kb lb below is =
    not_back (text_for prefix delimiter k) l (up_to_before (text_for prefix delimiter k) k l (text_not_behind prefix delimiter k kb) below)
text_rising prefix delimiter k l (Some p) kb lb below is = ⊎_elim
    (λ before. not_back (text_for prefix delimiter k) p (up_to_before (text_for prefix delimiter k) k p (text_not_behind prefix delimiter k kb) before))
    (λ from.
    let t = drop (length p) l in
    let l_is = common_begins prefix delimiter l p lb is in
    let k_is = between p [] t k (ap (is_before k) (append-nil p) ∙ from) (ap (λ r. is_before r k) (sym l_is) ∙ not_back k l below) in
    let same : rolled_up prefix delimiter k ≡ Some p = ap (rolled_up prefix delimiter) k_is ∙ common_again prefix delimiter l p (drop (length p) k) is in
    ap (λ o. is_before p (unwrap_or o k)) same ∙ not_itself p)
    (cases_Bool (is_before k p))

pub text_rises : (prefix delimiter k l : List ℕ) → starts_with nat_eq k prefix ≡ true → starts_with nat_eq l prefix ≡ true → is_before k l ≡ true → is_before (text_for prefix delimiter l) (text_for prefix delimiter k) ≡ false
text_rises prefix delimiter k l kb lb below = text_rising prefix delimiter k l (rolled_up prefix delimiter l) kb lb below refl

-- ---- rows

-- both hold
both : (a b : Bool) → (a && b) ≡ true → (a ≡ true) × (b ≡ true)
both true true h = (refl, refl)
both true false h = absurd (cc)
both false b h = absurd (cc)

text_of-rolled : (o : Option (List ℕ)) (key : List ℕ) (facts : Facts) → text_of (rolled o key facts) ≡ unwrap_or o key
text_of-rolled None key facts = refl
text_of-rolled (Some p) key facts = refl

item_text : (o : Option (List ℕ)) (key : List ℕ) (facts : Option Facts) (item : Item) → option_map (rolled o key) facts ≡ Some item → text_of item ≡ unwrap_or o key
item_text o key None item is = absurd (cc)
item_text o key (Some f) item is = ap text_of (sym (the_same is)) ∙ text_of-rolled o key f
  where
    the_same : {x y : Item} → Some x ≡ Some y → x ≡ y
    the_same e = cc

-- what is told of a row begins with the prefix, and stands by its text
pub told_by : (asked : ObjectsAsked) (row : KeyRow) (item : Item) → item_of asked row ≡ Some item → (starts_with nat_eq row.key asked.prefix ≡ true) × (text_of item ≡ text_for asked.prefix asked.delimiter row.key)
told_by asked row item is =
    let kept = some_kept (is_asked asked row.key) (option_map (rolled (common_prefix asked row.key) row.key) row.facts) item is in
    ((both _ _ kept.0).0, item_text (common_prefix asked row.key) row.key row.facts item kept.1)

-- rows by key, in words that lemmas can use
abbrev pub AllBehind : List ℕ → List KeyRow → Type 0
AllBehind key rows = AllByRecursion (λ (row : KeyRow). is_before key row.key ≡ true) rows

abbrev pub Rising : List KeyRow → Type 0
Rising [] = Unit {0}
Rising (row ∷ rows) = AllBehind row.key rows × Rising rows

all_behind : (key other : List ℕ) (rows : List KeyRow) → is_before key other ≡ true → AllBehind other rows → AllBehind key rows
all_behind key other [] before all = tt
all_behind key other (row ∷ rows) before all = (before_trans key other row.key before all.0, all_behind key other rows before all.1)

pub rising : (rows : List KeyRow) → rises (map (λ row. row.key) rows) ≡ true → Rising rows
rising [] rise = tt
rising (row ∷ []) rise = (tt, tt)
rising (row ∷ next ∷ rows) rise =
    let b = both _ _ rise in
    let rest = rising (next ∷ rows) b.1 in
    ((b.0, all_behind row.key next.key rows b.0 rest.0), rest)
