-- Lists whose rows stand by key: the rows from a text on, and of those behind a marker the ones that begin with a prefix.
use Rattle.std.proofs.Common.{◌≡◌, ◌≢◌, inl, inr, refl, sym, ap, subst, ◌∙◌, Bool, true, false, not, cond, ℕ, zero, suc, ◌<◌, List, [], ◌∷◌, ◌++◌, filter, take, drop, length, get_or, All, Result, Ok, Err, IfOk, IfSome, nat_eq, slice_get, arith, append-nil}
use Rattle.std.specs.List.{AllWithin, take_while, starts_with}
use Rattle.std.specs.Cmp.{both_ways}
use Rattle.std.proofs.lemmas.List.Sums.{take_while-cons}
use Rattle.std.proofs.lemmas.Bool.{false≢true, false_from_ne_true, true_from_ne_false, not-true}
use Rattle.s3_records.specs.Rows.{is_from}
use Rattle.s3_records.specs.declared.rows.Start.{Start}
use Rattle.s3_records.specs.declared.rows.Start.TheVariants.{First, From, Behind}
use Rattle.s3_prefixes.specs.Items.{is_before}
use Rattle.s3_listings.specs.Sought.{UpTo, AreByKey, AreBehind, Covers, begins_with, is_at_least, is_later, rows_from, rows_at_least}
use Rattle.s3_listings.proofs.FilterLemmas.{filter_all, filter_alike, filter_stronger, filter_fewer, all_from_front, take_while-take, take_while-filter}
use Rattle.s3_listings.proofs.ItemLemmas.{starts_from, starts_of, not_before_beginning}
use Rattle.s3_listings.proofs.MemberLemmas.{Member, each_at, member-filter, member_of_filter, member_from_contains, contains_from_member, paired-filter}
use Rattle.s3_listings.proofs.OrderLemmas.{order_of, not_before_itself, not_back, same_not_before, before_up_to, up_to_up_to, up_to_order, cut_order}

-- a place that a key is at or behind is one for each later key
from_later : (start : Start) (key later : List ℕ) → is_from start key ≡ true → is_before later key ≡ false → is_from start later ≡ true
from_later First key later is up_to = refl
from_later (From first) key later is up_to =
    up_to_order first later ∙ ap not (up_to_up_to first key later (not-true (is_before key first) (sym (up_to_order first key) ∙ is)) up_to)
from_later (Behind last) key later is up_to = before_up_to last key later is up_to

-- a key that isn't before a text, and isn't it, is behind it
behind_other : (text key : List ℕ) → is_before key text ≡ false → key ≢ text → is_before text key ≡ true
behind_other text key least other = elim (order_of key text) [
  | inl sooner ↦ absurd (false≢true (sym least ∙ sooner))
  | inr not_sooner ↦ elim not_sooner [ inl same ↦ absurd (other same) | inr later ↦ later ]
]

-- a key in front of one that begins with a prefix begins with it too, if it isn't before that
begins_sooner : (prefix key later : List ℕ) → is_before key prefix ≡ false → is_before later key ≡ false → starts_with nat_eq later prefix ≡ true → starts_with nat_eq key prefix ≡ true
begins_sooner prefix key later least up_to starts = elim (order_of key later) [
  | inl before ↦
      let rest : List ℕ = drop (length prefix) later in
      elim (cut_order key prefix [] rest (subst (λ l. is_before l (prefix ++ rest) ≡ true) (sym (append-nil key)) (subst (λ l. is_before key l ≡ true) (starts_from later prefix starts) before))) [
        | inl sooner ↦ absurd (false≢true (sym least ∙ sooner))
        | inr (u, begins) ↦ starts_of key prefix u begins
      ]
  | inr other ↦ elim other [
    | inl same ↦ ap (λ k. starts_with nat_eq k prefix) same ∙ starts
    | inr back ↦ absurd (false≢true (sym up_to ∙ back))
  ]
]

pub begins_at_least : (prefix key : List ℕ) → starts_with nat_eq key prefix ≡ true → is_before key prefix ≡ false
begins_at_least prefix key starts =
    false_from_ne_true (is_before key prefix) (λ before. not_before_beginning prefix (drop (length prefix) key) (subst (λ k. is_before k prefix ≡ true) (starts_from key prefix starts) before))

-- parts in front
pub member-take : {X : Type 0} (most : ℕ) (xs : List X) (x : X) → Member x (take most xs) → Member x xs
member-take zero xs x is_in = absurd is_in
member-take (suc most) [] x is_in = absurd is_in
member-take (suc most) (y ∷ xs) x (inl is) = inl is
member-take (suc most) (y ∷ xs) x (inr later) = inr (member-take most xs x later)

member_at : {X : Type 0} (xs : List X) (i : ℕ) (d : X) → i < length xs → Member (get_or xs i d) xs
member_at [] i d within = absurd (omega arith)
member_at (x ∷ xs) zero d within = inl refl
member_at (x ∷ xs) (suc i) d within = inr (member_at xs i d (omega arith))

each_of_all : {X : Type 0} (P : X → Type 0) (xs : List X) → All P xs → (x : X) → Member x xs → P x
each_of_all P xs all x is_in = let place = contains_from_member xs x is_in in subst P place.2 (all place.0 x place.1)

whole_front : {X : Type 0} (p : X → Bool) (xs : List X) → All (λ x. p x ≡ true) xs → xs ≡ take_while p xs
whole_front p [] all = refl
whole_front p (x ∷ xs) all =
    ap (λ ys. x ∷ ys) (whole_front p xs (λ k d within. all (suc k) d (omega arith)))
    ∙ ap (λ b. cond b (x ∷ take_while p xs) []) (sym (all 0 x (omega arith))) ∙ sym (take_while-cons p x xs)

part_front : {X : Type 0} (p : X → Bool) (xs : List X) (i : ℕ) → AllWithin (λ x. p x ≡ true) xs 0 i → ((d : X) → p (get_or xs i d) ≡ false) → i < length xs → take i xs ≡ take_while p xs
part_front p [] i front ends within = absurd (omega arith)
part_front p (x ∷ xs) zero front ends within = ap (λ b. cond b (x ∷ take_while p xs) []) (sym (ends x)) ∙ sym (take_while-cons p x xs)
part_front p (x ∷ xs) (suc i) front ends within =
    ap (λ ys. x ∷ ys) (part_front p xs i (λ k d low high. front (suc k) d (omega arith) (omega arith)) ends (omega arith))
    ∙ ap (λ b. cond b (x ∷ take_while p xs) []) (sym (front 0 x (omega arith) (omega arith))) ∙ sym (take_while-cons p x xs)

-- for `kept`
pub kept_all : {X : Type 0} (p : X → Bool) (rows lent : List X) → lent ≡ rows → All (λ row. p row ≡ true) lent → rows ≡ take_while p rows
kept_all p rows lent same all = whole_front p rows (subst (λ l. All (λ row. p row ≡ true) l) same all)

pub kept_front : {X : Type 0} (p : X → Bool) (rows lent kept : List X) (i : ℕ) → lent ≡ rows → AllWithin (λ row. p row ≡ true) lent 0 i
    → ((d : X) → p (get_or lent i d) ≡ false) → i < length lent → kept ≡ take i rows → kept ≡ take_while p rows
kept_front p rows lent kept i same front ends within is =
    is ∙ ap (take i) (sym same) ∙ part_front p lent i front ends within ∙ ap (take_while p) same

-- by what calls answer
pub if_ok_both : {T E : Type 0} {P R Q : T → Type 0} (r : Result T E) → IfOk r P → IfOk r R → ((x : T) → P x → R x → Q x) → IfOk r Q
if_ok_both (Ok x) p q next = next x p q
if_ok_both (Err e) p q next = tt

-- the key of a row that was taken out, which is before a text
abbrev pub TakenOut : {X : Type 0} → (X → List ℕ) → List X → (text taken : List ℕ) → Type 0
TakenOut {X} key rows text taken = (i : ℕ) × (i < length rows) × ((d : X) → (key (get_or rows i d) ≡ taken) × (is_before taken text ≡ true))

pub covers_behind : (key text : List ℕ) → is_before key text ≡ true → Covers (Behind key) text
covers_behind key text before other sooner = true_from_ne_false (is_before other text) (λ least. false≢true (sym sooner ∙ before_up_to key text other before least))

module _ {X : Type 0} (key : X → List ℕ) where
  pub taken_before : (rows : List X) (text taken : List ℕ) → TakenOut key rows text taken → is_before taken text ≡ true
  taken_before [] text taken (i, within, has) = absurd (omega arith)
  taken_before (first ∷ rest) text taken (i, within, has) = (has first).1

  -- where no row from such a place on is before the text, they are the rows from the text on
  from_text : (all : List X) (start : Start) (text : List ℕ) → Covers start text → ((row : X) → Member row (rows_from key start all) → is_before (key row) text ≡ false)
      → rows_from key start all ≡ rows_at_least key text all
  from_text all start text covers least = filter_alike (λ row. is_from start (key row)) (is_at_least key text) all (λ row is_in.
      both_ways (is_from start (key row)) (is_at_least key text row)
      (λ from. ap not (least row (member_of_filter (λ r. is_from start (key r)) all row is_in from)))
      (λ at_least. true_from_ne_false (is_from start (key row)) (λ sooner. false≢true (sym (not-true (is_before (key row) text) at_least) ∙ covers (key row) sooner))))

  rows_found : (all : List X) (start : Start) (text : List ℕ) (most : ℕ) (rows : List X) → AreByKey key all → 0 < most → Covers start text → rows ≡ take most (rows_from key start all)
      → All (λ row. is_before (key row) text ≡ false) rows → rows ≡ take most (rows_at_least key text all)
  rows_found all start text most rows up some covers is least =
      is ∙ ap (take most) (from_text all start text covers
      (all_from_front (UpTo key) (λ row. is_before (key row) text ≡ false) most (rows_from key start all) (paired-filter (UpTo key) (λ row. is_from start (key row)) all up)
      (λ row later up_to at_least. up_to_up_to text (key row) (key later) at_least up_to) some
      (λ row is_in. each_of_all (λ r. is_before (key r) text ≡ false) rows least row (subst (Member row) (sym is) is_in))))

  pub loop_ends : (all end : List X) (start : Start) (text : List ℕ) (most : ℕ) (rows kept : List X) → AreByKey key all → 0 < most → Covers start text → rows ≡ take most (rows_from key start all)
      → All (λ row. is_before (key row) text ≡ false) rows → kept ≡ rows → all ≡ end → kept ≡ take most (rows_at_least key text end)
  loop_ends all end start text most rows kept up some covers is least kept_is same =
      kept_is ∙ rows_found all start text most rows up some covers is least ∙ ap (λ l. take most (rows_at_least key text l)) same

  -- behind the key of one of its rows there are fewer
  fewer_behind : (all : List X) (start : Start) (row : X) → Member row (rows_from key start all) → length (rows_from key (Behind (key row)) all) < length (rows_from key start all)
  fewer_behind all start row is_in =
      let from : is_from start (key row) ≡ true = (member-filter (λ r. is_from start (key r)) all row is_in).1 in
      let rest : filter (λ r. is_from (Behind (key row)) (key r)) (rows_from key start all) ≡ rows_from key (Behind (key row)) all =
      filter_stronger (λ r. is_from (Behind (key row)) (key r)) (λ r. is_from start (key r)) all (λ r later. from_later start (key row) (key r) from (not_back (key row) (key r) later)) in
      subst (λ rows. length rows < length (rows_from key start all)) rest
      (filter_fewer (λ r. is_from (Behind (key row)) (key r)) (rows_from key start all) row is_in (same_not_before (key row) (key row) refl))

  pub fewer_left : (all : List X) (start : Start) (most : ℕ) (rows : List X) (text taken : List ℕ) → rows ≡ take most (rows_from key start all) → TakenOut key rows text taken
      → length (rows_from key (Behind taken) all) < length (rows_from key start all)
  fewer_left all start most [] text taken is (i, within, has) = absurd (omega arith)
  fewer_left all start most (first ∷ rest) text taken is (i, within, has) =
      let row : X = get_or (first ∷ rest) i first in
      let is_in : Member row (rows_from key start all) = member-take most (rows_from key start all) row (subst (Member row) is (member_at (first ∷ rest) i first within)) in
      subst (λ k. length (rows_from key (Behind k) all) < length (rows_from key start all)) (has first).0 (fewer_behind all start row is_in)

  -- no row has a key that the first of some rows from it on doesn't have
  pub free_key : (marker : List ℕ) (most : ℕ) (rows : List X) → 0 < most → AreByKey key rows → ((row : X) → Member row rows → is_before (key row) marker ≡ false)
      → IfSome (slice_get (take most rows) 0) (λ row. key row ≢ marker) → (row : X) → Member row rows → key row ≢ marker
  free_key marker most [] some up least first row is_in = absurd is_in
  free_key marker zero (f ∷ rows) some up least first row is_in = absurd (omega arith)
  free_key marker (suc most) (f ∷ rows) some up least first row (inl is) = λ same. first (ap key (sym is) ∙ same)
  free_key marker (suc most) (f ∷ rows) some up least first row (inr later) =
      λ same. not_before_itself marker (subst (λ k. is_before marker k ≡ true) same
      (before_up_to marker (key f) (key row) (behind_other marker (key f) (least f (inl refl)) first) (each_at (UpTo key f) rows row up.0 later)))

-- the rows behind a marker, from a prefix on
module _ {X : Type 0} (key : X → List ℕ) (marker : List ℕ) (all behind : List X) (known : AreBehind key marker all behind) where
  -- where the prefix is behind the marker
  pub from_prefix : (prefix : List ℕ) → is_before marker prefix ≡ true → rows_at_least key prefix behind ≡ rows_at_least key prefix all
  from_prefix prefix before =
      let later : (row : X) → is_at_least key prefix row ≡ true → is_later key marker row ≡ true =
      λ row least. before_up_to marker prefix (key row) before (not-true (is_before (key row) prefix) least) in
      sym (filter_stronger (is_at_least key prefix) (is_later key marker) behind later) ∙ ap (rows_at_least key prefix) known.later
      ∙ filter_stronger (is_at_least key prefix) (is_later key marker) all later

  -- else
  pub from_marker : (prefix : List ℕ) → is_before marker prefix ≡ false → rows_at_least key prefix behind ≡ behind
  from_marker prefix up_to = filter_all (is_at_least key prefix) behind (λ row is_in.
      ap not (up_to_up_to prefix marker (key row) up_to (known.none_before row (contains_from_member behind row is_in))))

  -- and where no row from the marker on has its key
  pub from_free : (prefix : List ℕ) → is_before marker prefix ≡ false → ((row : X) → Member row (rows_at_least key marker all) → key row ≢ marker)
      → rows_at_least key prefix behind ≡ rows_at_least key marker all
  from_free prefix up_to free =
      let other_key : (row : X) → Member row all → is_before (key row) marker ≡ false → key row ≢ marker =
      λ row is_in least. free row (member_of_filter (is_at_least key marker) all row is_in (ap not least)) in
      let later : (row : X) → Member row behind → is_later key marker row ≡ true =
      λ row is_in.
      let here = contains_from_member behind row is_in in
      let least : is_before (key row) marker ≡ false = known.none_before row here in
      let other = known.known row here in
      behind_other marker (key row) least (λ same. other_key other.0 (member_from_contains all other.0 other.1)
      (ap (λ k. is_before k marker) other.2 ∙ least) (other.2 ∙ same)) in
      from_marker prefix up_to ∙ sym (filter_all (is_later key marker) behind later) ∙ known.later
      ∙ filter_alike (is_later key marker) (is_at_least key marker) all (λ row is_in.
      both_ways (is_later key marker row) (is_at_least key marker row)
      (λ after. ap not (not_back marker (key row) after))
      (λ at_least. let least : is_before (key row) marker ≡ false = not-true (is_before (key row) marker) at_least in behind_other marker (key row) least (other_key row is_in least)))

  -- the rows that begin with the prefix are those in front of the rows from it on
  asked_in_front : (prefix : List ℕ) → take_while (begins_with key prefix) (rows_at_least key prefix behind) ≡ filter (begins_with key prefix) behind
  asked_in_front prefix =
      take_while-filter (UpTo key) (begins_with key prefix) (rows_at_least key prefix behind)
      (paired-filter (UpTo key) (is_at_least key prefix) behind known.order)
      (λ row later is_in up_to starts. begins_sooner prefix (key row) (key later)
      (not-true (is_before (key row) prefix) (member-filter (is_at_least key prefix) behind row is_in).1) up_to starts)
      ∙ filter_stronger (begins_with key prefix) (is_at_least key prefix) behind (λ row starts. ap not (begins_at_least prefix (key row) starts))

  -- for `rows_asked`
  pub rows_asked : (prefix : List ℕ) (most : ℕ) (rows kept : List X) → rows ≡ take most (rows_at_least key prefix behind) → kept ≡ take_while (begins_with key prefix) rows
      → kept ≡ take most (filter (begins_with key prefix) behind)
  rows_asked prefix most rows kept is is_kept =
      is_kept ∙ ap (take_while (begins_with key prefix)) is ∙ take_while-take (begins_with key prefix) most (rows_at_least key prefix behind) ∙ ap (take most) (asked_in_front prefix)

  -- for `rows_sought`, by its test
  module _ (prefix : List ℕ) (most : ℕ) (test : Bool) (tested : test ≡ is_before marker prefix) (rows : List X) where
    pub by_prefix : test ≡ true → rows ≡ take most (rows_at_least key prefix all) → rows ≡ take most (rows_at_least key prefix behind)
    by_prefix before is = is ∙ ap (take most) (sym (from_prefix prefix (sym tested ∙ before)))

    pub by_key : test ≡ false → rows ≡ take most behind → rows ≡ take most (rows_at_least key prefix behind)
    by_key up_to is = is ∙ ap (take most) (sym (from_marker prefix (sym tested ∙ up_to)))

    pub by_no_key : AreByKey key all → 0 < most → test ≡ false → rows ≡ take most (rows_at_least key marker all)
        → IfSome (slice_get rows 0) (λ row. key row ≢ marker) → rows ≡ take most (rows_at_least key prefix behind)
    by_no_key up some up_to is first =
        is ∙ ap (take most) (sym (from_free prefix (sym tested ∙ up_to)
        (free_key key marker most (rows_at_least key marker all) some
        (paired-filter (UpTo key) (is_at_least key marker) all up)
        (λ row is_in. not-true (is_before (key row) marker) (member-filter (is_at_least key marker) all row is_in).1)
        (subst (λ l. IfSome (slice_get l 0) (λ row. key row ≢ marker)) is first))))
