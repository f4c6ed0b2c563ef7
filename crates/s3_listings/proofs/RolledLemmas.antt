-- Rows that are told by their common prefixes.
use Rattle.std.specs.Global.{Vec}
use Rattle.std.proofs.Common.{◌≡◌, ◌≢◌, ◌⊎◌, inl, inr, refl, sym, ap, subst, ◌∙◌, Bool, true, false, not, cond, ℕ, zero, suc, ◌+◌, ◌<◌, ◌≤◌, List, [], ◌∷◌, ◌++◌, map, filter, take, drop, length, Option, Some, None, option_map, nat_eq, arith, append_assoc, append-nil, IsTrue}
use Rattle.std.specs.Prelude.{if◌then◌else◌, ◌&&◌, ◌==◌, nat_lt}
use Rattle.std.specs.List.{AllByRecursion, dedup, dedup_from, filter_map, last_or, starts_with, take_while}
use Rattle.std.specs.Option.{option_map_or}
use Rattle.std.specs.Str.{bytes_eq}
use Rattle.std.specs.Cmp.Lexicographic.{bytes_decides}
use Rattle.std.proofs.lemmas.Bool.{cases_Bool, cases_order, eqb-true, false≢true, false_from_ne_true, not-true, not-false}
use Rattle.std.proofs.lemmas.List.{take-append-drop, take-append-le, length-append, length-map}
use Rattle.std.proofs.lemmas.List.Elements.{filter-append}
use Rattle.s3_records.specs.declared.rows.Start.{Start}
use Rattle.s3_records.specs.declared.rows.Start.TheVariants.{From, Behind}
use Rattle.s3_prefixes.specs.Items.{is_before, rolled_up}
use Rattle.s3_listings.specs.Drafts.{IsRaised}
use Rattle.s3_listings.specs.Pages.{Page, page_of, last_of}
use Rattle.s3_listings.specs.Rolled.{RowsTold, ends_in_prefix, is_behind, is_prefix, is_same, item_of, items_asked, plainly, prefix_in, rolled_row, row_in, rows_told, told_so}
use Rattle.s3_listings.specs.Sought.{Covers, Paired, UpTo, AreByKey, AreBehind, begins_with, is_at_least, is_later, rows_at_least}
use Rattle.s3_listings.specs.Taken.{AreEnough, IsAlone, IsPlace, LiesBeyond, TakesPrefix, left_at, told_prefix}
use Rattle.s3_listings.specs.declared.row_page.RowItem.{RowItem}
use Rattle.s3_listings.specs.declared.row_page.RowItem.TheVariants.{Row, CommonPrefix}
use Rattle.s3_listings.specs.declared.rolled.Place.{Place}
use Rattle.s3_listings.specs.declared.rolled.Place.TheVariants.{Marker, Beyond}
use Rattle.s3_listings.proofs.FilterLemmas.{filter_none, filter_all, filter_alike, filter_fewer, filter_stronger, member_behind}
use Rattle.s3_listings.proofs.MemberLemmas.{Member, each_at, each_from, member-filter, member_from_contains, contains_from_member, paired-filter}
use Rattle.s3_listings.proofs.ObjectLemmas.{common_again, common_begins}
use Rattle.s3_listings.proofs.OrderLemmas.{not_back, up_to_before, up_to_order, up_to_up_to}
use Rattle.s3_listings.proofs.SeekLemmas.{below_raised, raised_behind}
use Rattle.s3_listings.proofs.SoughtLemmas.{begins_at_least, covers_behind, from_marker, from_prefix, member-take, rows_asked}

-- ---- items of rows

-- a row is no other item, so what stands behind it is distinct by itself
dedup_behind_row : {A : Type 0} (row : A) (items : List (RowItem A)) → dedup_from is_same (Row row) items ≡ Row row ∷ dedup is_same items
dedup_behind_row row [] = refl
dedup_behind_row row (Row other ∷ items) = refl
dedup_behind_row row (CommonPrefix prefix ∷ items) = refl

-- a common prefix in front, where it is told
told_first : {A : Type 0} (is_told : Bool) (item : RowItem A) (items : List (RowItem A)) → cond is_told (item ∷ items) items ≡ (if is_told then item ∷ [] else []) ++ items
told_first true item items = refl
told_first false item items = refl

-- a filter of lists that are joined, where none in front passes
filter_behind : {X : Type 0} (p : X → Bool) (front rest : List X) → ((x : X) → Member x front → p x ≡ false) → filter p (front ++ rest) ≡ filter p rest
filter_behind p front rest none = filter-append p front rest ∙ ap (λ l. l ++ filter p rest) (filter_none p front none)

module _ {A : Type 0} (key : A → List ℕ) (prefix delimiter marker : List ℕ) where
  abbrev pub told : List A → List (RowItem A)
  told rows = items_asked key prefix delimiter marker rows

  -- a row that has no common prefix is told by itself
  pub alone_first : (row : A) (rows : List A) → IsAlone key prefix delimiter row → told (row ∷ rows) ≡ Row row ∷ told rows
  alone_first row rows alone =
      ap (λ o. filter (is_behind marker) (dedup_from is_same (rolled_row row o) (map (item_of key prefix delimiter) rows))) alone
      ∙ ap (filter (is_behind marker)) (dedup_behind_row row (map (item_of key prefix delimiter) rows))

  pub alone_in_front : (front rest : List A) → AllByRecursion (IsAlone key prefix delimiter) front → told (front ++ rest) ≡ map Row front ++ told rest
  alone_in_front [] rest alone = refl
  alone_in_front (row ∷ front) rest alone = alone_first row (front ++ rest) alone.0 ∙ ap (λ l. Row row ∷ l) (alone_in_front front rest alone.1)

  pub all_alone : (rows : List A) → AllByRecursion (IsAlone key prefix delimiter) rows → told rows ≡ map Row rows
  all_alone rows alone =
      ap told (sym (append-nil rows)) ∙ alone_in_front rows [] alone ∙ append-nil (map Row rows)

  -- ---- the rows that have one common prefix

  module _ (text raised : List ℕ) (row : A) (begun : starts_with nat_eq (key row) prefix ≡ true) (common : rolled_up prefix delimiter (key row) ≡ Some text) (above : IsRaised text raised) where
    -- the key, by the last byte of its common prefix
    key_is : key row ≡ above.0 ++ above.1 ∷ drop (length text) (key row)
    key_is =
        common_begins prefix delimiter (key row) text begun common ∙ ap (λ p. p ++ drop (length text) (key row)) above.2
        ∙ append_assoc above.0 (above.1 ∷ []) (drop (length text) (key row))

    pub below : is_before (key row) raised ≡ true
    below =
        ap (λ k. is_before k raised) key_is ∙ ap (is_before (above.0 ++ above.1 ∷ drop (length text) (key row))) above.3
        ∙ raised_behind above.0 (drop (length text) (key row)) above.1

    -- a later key before the raised text has the same common prefix
    has_same : (later : A) → is_before (key later) (key row) ≡ false → is_before (key later) raised ≡ true → rolled_up prefix delimiter (key later) ≡ Some text
    has_same later up_to sooner =
        let rest = drop (length text) (key row) in
        let low : is_before (key later) (above.0 ++ above.1 ∷ rest) ≡ false = ap (is_before (key later)) (sym key_is) ∙ up_to in
        let high : is_before (key later) (above.0 ++ (above.1 + 1) ∷ []) ≡ true = ap (is_before (key later)) (sym above.3) ∙ sooner in
        let more = drop (length (above.0 ++ above.1 ∷ [])) (key later) in
        ap (rolled_up prefix delimiter) (below_raised above.0 rest (key later) above.1 low high ∙ ap (λ p. p ++ more) (sym above.2))
        ∙ common_again prefix delimiter (key row) text more common

    -- and one that isn't has another one, or none
    pub has_other : (later : A) → starts_with nat_eq (key later) prefix ≡ true → is_before (key later) raised ≡ false → rolled_up prefix delimiter (key later) ≢ Some text
    has_other later starts from same =
        let more = drop (length text) (key later) in
        let is : key later ≡ above.0 ++ above.1 ∷ more =
        common_begins prefix delimiter (key later) text starts same ∙ ap (λ p. p ++ more) above.2 ∙ append_assoc above.0 (above.1 ∷ []) more in
        false≢true (sym from ∙ ap (λ k. is_before k raised) is ∙ ap (is_before (above.0 ++ above.1 ∷ more)) above.3 ∙ raised_behind above.0 more above.1)

    -- so its item is another one
    other_item : (later : A) (o : Option (List ℕ)) → o ≢ Some text → is_same (rolled_row later o) (CommonPrefix text) ≡ false
    other_item later None other = refl
    other_item later (Some p) other = false_from_ne_true (bytes_eq p text) (λ same. other (ap Some ((bytes_decides p text).0 same)))

    same_item : is_same {A = A} (CommonPrefix text) (CommonPrefix text) ≡ true
    same_item = (bytes_decides text text).1 refl

    -- all rows behind one that isn't before the raised text aren't either
    all_from : (x : A) (rest : List A) → is_before (key x) raised ≡ false → AreByKey key (x ∷ rest) → (y : A) → Member y (x ∷ rest) → is_at_least key raised y ≡ true
    all_from x rest from up y (inl is) = ap (λ z. not (is_before (key z) raised)) is ∙ ap not from
    all_from x rest from up y (inr later) = ap not (up_to_up_to raised (key x) (key y) from (each_at (UpTo key x) rest y up.0 later))

    -- the rows behind it that have the same common prefix are passed
    pub passed : (rest : List A) → AreByKey key rest → ((later : A) → Member later rest → is_before (key later) (key row) ≡ false)
        → ((later : A) → Member later rest → starts_with nat_eq (key later) prefix ≡ true)
        → dedup_from is_same (CommonPrefix text) (map (item_of key prefix delimiter) rest)
        ≡ CommonPrefix text ∷ dedup is_same (map (item_of key prefix delimiter) (rows_at_least key raised rest))
    passed [] up later starts = refl
    passed (x ∷ rest) up later starts =
        let item : A → RowItem A = item_of key prefix delimiter in
        let more : List (RowItem A) = map item rest in
        let left : List A = rows_at_least key raised rest in
        elim (cases_Bool (is_before (key x) raised)) [
          | inl sooner ↦
              ap (λ (o : Option (List ℕ)). cond (is_same (rolled_row x o) (CommonPrefix text)) (dedup_from is_same (CommonPrefix text) more) (CommonPrefix text ∷ dedup_from is_same (rolled_row x o) more))
              (has_same x (later x (inl refl)) sooner)
              ∙ ap (λ (b : Bool). cond b (dedup_from is_same (CommonPrefix text) more) (CommonPrefix text ∷ dedup_from is_same (CommonPrefix text) more)) same_item
              ∙ passed rest up.1 (λ y is_in. later y (inr is_in)) (λ y is_in. starts y (inr is_in))
              ∙ ap (λ (b : Bool). CommonPrefix text ∷ dedup is_same (map item (cond (not b) (x ∷ left) left))) (sym sooner)
          | inr from ↦
              ap (λ (b : Bool). cond b (dedup_from is_same (CommonPrefix text) more) (CommonPrefix text ∷ dedup_from is_same (item x) more))
              (other_item x (rolled_up prefix delimiter (key x)) (has_other x (starts x (inl refl)) from))
              ∙ ap (λ (l : List A). CommonPrefix text ∷ dedup is_same (map item l)) (sym (filter_all (is_at_least key raised) (x ∷ rest) (all_from x rest from up)))
        ]

    pub rolled_first : (rest : List A) → AreByKey key (row ∷ rest) → ((later : A) → Member later rest → starts_with nat_eq (key later) prefix ≡ true)
        → told (row ∷ rest) ≡ told_prefix marker text ++ told (rows_at_least key raised rest)
    rolled_first rest up starts =
        ap (λ o. filter (is_behind marker) (dedup_from is_same (rolled_row row o) (map (item_of key prefix delimiter) rest))) common
        ∙ ap (filter (is_behind marker)) (passed rest up.1 (λ later is_in. each_at (UpTo key row) rest later up.0 is_in) starts)
        ∙ told_first (is_before marker text) (CommonPrefix text) (told (rows_at_least key raised rest))

    front_up_to : (front rest : List A) → AreByKey key (front ++ row ∷ rest) → (x : A) → Member x front → is_before (key row) (key x) ≡ false
    front_up_to [] rest up x is_in = absurd is_in
    front_up_to (y ∷ front) rest up x (inl is) = subst (λ z. is_before (key row) (key z) ≡ false) (sym is) (each_at (UpTo key y) (front ++ row ∷ rest) row up.0 (member_behind front (row ∷ rest) row (inl refl)))
    front_up_to (y ∷ front) rest up x (inr later) = front_up_to front rest up.1 x later

    -- and no row in front of it is left either
    pub left_behind : (front rest : List A) → AreByKey key (front ++ row ∷ rest) → rows_at_least key raised (front ++ row ∷ rest) ≡ rows_at_least key raised rest
    left_behind front rest up =
        filter_behind (is_at_least key raised) front (row ∷ rest) (λ x is_in.
        ap not (up_to_before (key x) (key row) raised (front_up_to front rest up x is_in) below))
        ∙ ap (λ (b : Bool). cond (not b) (row ∷ rows_at_least key raised rest) (rows_at_least key raised rest)) below

-- what holds of a list's pairs holds of those of its end
pub paired_behind : {X : Type 0} (R : X → X → Type 0) (front rest : List X) → Paired R (front ++ rest) → Paired R rest
paired_behind R [] rest up = up
paired_behind R (x ∷ front) rest up = paired_behind R front rest up.1

-- where fewer are taken than asked for, none is left
drop_short : {X : Type 0} (n : ℕ) (xs : List X) → length (take n xs) < n → drop n xs ≡ []
drop_short zero xs short = absurd (omega (arith, short))
drop_short (suc n) [] short = refl
drop_short (suc n) (x ∷ xs) short = drop_short n xs (omega (arith, short))

-- ---- rows that were taken

module _ {A : Type 0} (key : A → List ℕ) (prefix delimiter marker : List ℕ) where
  -- the rows that are left: they stand by key, begin with the prefix and aren't before the marker
  pub record AreLeft (left : List A) : Type 0 where
    pub up : AreByKey key left
    pub starts : (row : A) → Member row left → starts_with nat_eq (key row) prefix ≡ true
    pub from : (row : A) → Member row left → is_before (key row) marker ≡ false

  -- up to a row that has a common prefix
  module _ (left rows : List A) (count : ℕ) (before after : List (RowItem A)) (start : Start) (text : Vec ℕ) (are : AreLeft left) (is : rows ≡ take count left)
      (takes : TakesPrefix key prefix delimiter marker rows before after (Beyond start text)) where
    abbrev raised : List ℕ
    raised = text.items

    abbrev more : List A
    more = takes.rest ++ drop count left

    cut : left ≡ takes.front ++ takes.row ∷ more
    cut =
        sym (take-append-drop count left) ∙ ap (λ l. l ++ drop count left) (sym is ∙ takes.cut)
        ∙ append_assoc takes.front (takes.row ∷ takes.rest) (drop count left)

    is_left : Member takes.row left
    is_left = subst (Member takes.row) (sym cut) (member_behind takes.front (takes.row ∷ more) takes.row (inl refl))

    up_there : AreByKey key (takes.front ++ takes.row ∷ more)
    up_there = subst (AreByKey key) cut are.up

    starts_later : (later : A) → Member later more → starts_with nat_eq (key later) prefix ≡ true
    starts_later later is_in =
        are.starts later (subst (Member later) (sym cut) (member_behind takes.front (takes.row ∷ more) later (inr is_in)))

    row_below : is_before (key takes.row) raised ≡ true
    row_below = below key prefix delimiter marker takes.text raised takes.row (are.starts takes.row is_left) takes.common takes.beyond.0

    pub taken_up_to : after ++ told key prefix delimiter marker (rows_at_least key raised left) ≡ before ++ told key prefix delimiter marker left
    taken_up_to =
        let rest = told key prefix delimiter marker (rows_at_least key raised left) in
        let same : rows_at_least key raised more ≡ rows_at_least key raised left =
        sym (ap (rows_at_least key raised) cut
        ∙ left_behind key prefix delimiter marker takes.text raised takes.row (are.starts takes.row is_left) takes.common takes.beyond.0 takes.front more up_there) in
        ap (λ l. l ++ rest) takes.taken
        ∙ append_assoc (before ++ map Row takes.front) (told_prefix marker takes.text) rest
        ∙ append_assoc before (map Row takes.front) (told_prefix marker takes.text ++ rest)
        ∙ ap (λ l. before ++ (map Row takes.front ++ l))
        (ap (λ l. told_prefix marker takes.text ++ told key prefix delimiter marker l) (sym same)
        ∙ sym (rolled_first key prefix delimiter marker takes.text raised takes.row (are.starts takes.row is_left) takes.common takes.beyond.0 more
        (paired_behind (UpTo key) takes.front (takes.row ∷ more) up_there) starts_later))
        ∙ ap (λ l. before ++ l) (sym (alone_in_front key prefix delimiter marker takes.front (takes.row ∷ more) takes.alone))
        ∙ ap (λ l. before ++ told key prefix delimiter marker l) (sym cut)

    pub fewer : length (rows_at_least key raised left) < length left
    fewer = filter_fewer (is_at_least key raised) left takes.row is_left (ap not row_below)

    pub place_kept : IsPlace prefix marker (Beyond start text)
    place_kept = (
      takes.beyond.1,
      up_to_before marker (key takes.row) raised (are.from takes.row is_left) row_below,
      not_back prefix raised (up_to_before prefix (key takes.row) raised (begins_at_least prefix (key takes.row) (are.starts takes.row is_left)) row_below),
    )

    -- and the place is behind each text that no row is before
    pub later_place : (sooner : List ℕ) → ((row : A) → Member row left → is_before (key row) sooner ≡ false) → is_before raised sooner ≡ false
    later_place sooner least = not_back sooner raised (up_to_before sooner (key takes.row) raised (least takes.row is_left) row_below)

  -- the rows that are asked for behind a marker are such
  pub asked_are_left : (all behind : List A) → AreBehind key marker all behind → AreLeft (filter (begins_with key prefix) behind)
  asked_are_left all behind known = record {
    up = paired-filter (UpTo key) (begins_with key prefix) behind known.order;
    starts = λ row is_in. (member-filter (begins_with key prefix) behind row is_in).1;
    from = λ row is_in. known.none_before row (contains_from_member behind row (member-filter (begins_with key prefix) behind row is_in).0);
  }

  -- and all that are taken of them begin with the prefix
  pub taken_begin : (left rows : List A) (count : ℕ) → AreLeft left → rows ≡ take count left → AllByRecursion (λ row. IsTrue (starts_with nat_eq (key row) prefix)) rows
  taken_begin left rows count are is =
      each_from (λ row. IsTrue (starts_with nat_eq (key row) prefix)) rows (λ row is_in. are.starts row (member-take count left row (subst (Member row) is is_in)))

  -- the rows that are left at a place
  pub left_are : (asked : List A) (place : Place) → AreLeft asked → AreLeft (left_at key asked place)
  left_are asked Marker are = are
  left_are asked (Beyond start text) are = record {
    up = paired-filter (UpTo key) (is_at_least key text.items) asked are.up;
    starts = λ row is_in. are.starts row (member-filter (is_at_least key text.items) asked row is_in).0;
    from = λ row is_in. are.from row (member-filter (is_at_least key text.items) asked row is_in).0;
  }

  -- and begin with the prefix there too
  begins_there : (behind : List A) (place : Place) (row : A) → Member row (left_at key (filter (begins_with key prefix) behind) place) → starts_with nat_eq (key row) prefix ≡ true
  begins_there behind Marker row is_in = (member-filter (begins_with key prefix) behind row is_in).1
  begins_there behind (Beyond start text) row is_in =
      (member-filter (begins_with key prefix) behind row (member-filter (is_at_least key text.items) (filter (begins_with key prefix) behind) row is_in).0).1

  -- so all that are taken of them do
  pub begin_at : (behind : List A) (place : Place) (rows lent : List A) (count : ℕ) (other : List ℕ) → other ≡ prefix → lent ≡ rows
      → rows ≡ take count (left_at key (filter (begins_with key prefix) behind) place) → AllByRecursion (λ row. IsTrue (starts_with nat_eq (key row) other)) lent
  begin_at behind place rows lent count other same lent_is is =
      let left : List A = left_at key (filter (begins_with key prefix) behind) place in
      subst (λ p. AllByRecursion (λ row. IsTrue (starts_with nat_eq (key row) p)) lent) (sym same)
      (each_from (λ row. IsTrue (starts_with nat_eq (key row) prefix)) lent (λ row is_in.
      begins_there behind place row (member-take count left row (subst (Member row) (lent_is ∙ is) is_in))))

  -- those that are left at a place behind it are left at that one
  left_later : (asked : List A) (place : Place) (raised : List ℕ) → ((sooner : List ℕ) → ((row : A) → Member row (left_at key asked place) → is_before (key row) sooner ≡ false) → is_before raised sooner ≡ false)
      → rows_at_least key raised (left_at key asked place) ≡ rows_at_least key raised asked
  left_later asked Marker further later = refl
  left_later asked (Beyond start text) further later =
      filter_stronger (is_at_least key further) (is_at_least key text.items) asked (λ row from.
      ap not (up_to_up_to text.items further (key row)
      (later text.items (λ r is_in. not-true (is_before (key r) text.items) (member-filter (is_at_least key text.items) asked r is_in).1))
      (not-true (is_before (key row) further) from)))

  -- ---- for `items_asked`

  module _ (asked rows : List A) (most : ℕ) (before after : List (RowItem A)) (place : Place) (are : AreLeft asked)
      (some : AreEnough key prefix delimiter most (left_at key asked place) rows)
      (known : before ++ told key prefix delimiter marker (left_at key asked place) ≡ told key prefix delimiter marker asked) where
    -- the last rows were taken
    pub taken_all : AllByRecursion (IsAlone key prefix delimiter) rows → after ≡ before ++ map Row rows → take most after ≡ take most (told key prefix delimiter marker asked)
    taken_all alone is =
        let left : List A = left_at key asked place in
        let rest : List (RowItem A) = told key prefix delimiter marker (drop some.count left) in
        let whole : after ++ rest ≡ told key prefix delimiter marker asked =
        ap (λ l. l ++ rest) is ∙ append_assoc before (map Row rows) rest
        ∙ ap (λ l. before ++ l)
        (ap (λ l. map Row l ++ rest) some.are
        ∙ sym (alone_in_front key prefix delimiter marker (take some.count left) (drop some.count left) (subst (AllByRecursion (IsAlone key prefix delimiter)) some.are alone))
        ∙ ap (told key prefix delimiter marker) (take-append-drop some.count left))
        ∙ known in
        let short : length rows < some.count → take most after ≡ take most (told key prefix delimiter marker asked) =
        λ fewer.
        ap (take most) (sym (append-nil after)
        ∙ ap (λ l. after ++ told key prefix delimiter marker l) (sym (drop_short some.count left (subst (λ l. length l < some.count) some.are fewer)))
        ∙ whole) in
        let long : most ≤ length rows → take most after ≡ take most (told key prefix delimiter marker asked) =
        λ fits.
        let more : length after ≡ length before + length (map Row rows) = ap length is ∙ length-append before (map Row rows) in
        let same : length (map Row rows) ≡ length rows = length-map rows Row in
        sym (take-append-le most after rest (omega (arith, more, same, fits))) ∙ ap (take most) whole in
        elim (some.enough alone) [
          | inl most_fits ↦ elim (cases_order (length rows) some.count) [
            | inl same ↦ long (omega (arith, same, most_fits))
            | inr apart ↦ elim apart [
              | inl fewer ↦ short fewer
              | inr many ↦ long (omega (arith, many, most_fits))
            ]
          ]
          | inr fewer ↦ short fewer
        ]

    -- as many as are asked for
    pub taken_enough : (next : Place) → after ++ told key prefix delimiter marker (left_at key asked next) ≡ told key prefix delimiter marker asked → most ≤ length after
        → take most after ≡ take most (told key prefix delimiter marker asked)
    taken_enough next whole fits = sym (take-append-le most after (told key prefix delimiter marker (left_at key asked next)) fits) ∙ ap (take most) whole

    -- and the list goes on
    pub goes_on : (next : Place) → TakesPrefix key prefix delimiter marker rows before after next
        → (after ++ told key prefix delimiter marker (left_at key asked next) ≡ told key prefix delimiter marker asked)
        × IsPlace prefix marker next × (length (left_at key asked next) < length (left_at key asked place))
    goes_on Marker takes = absurd takes.beyond
    goes_on (Beyond start text) takes =
        let left : List A = left_at key asked place in
        let are_left : AreLeft left = left_are asked place are in
        let same : rows_at_least key text.items left ≡ rows_at_least key text.items asked =
        left_later asked place text.items (later_place left rows some.count before after start text are_left some.are takes) in (
          ap (λ l. after ++ told key prefix delimiter marker l) (sym same) ∙ taken_up_to left rows some.count before after start text are_left some.are takes ∙ known,
          place_kept left rows some.count before after start text are_left some.are takes,
          subst (λ l. length l < length left) same (fewer left rows some.count before after start text are_left some.are takes),
        )

-- ---- for `enough_rows`

module _ {A : Type 0} (key : A → List ℕ) (prefix delimiter : List ℕ) (most : ℕ) (left rows : List A) where
  -- all that were asked for
  pub enough_asked : rows ≡ take most left → AreEnough key prefix delimiter most left rows
  enough_asked is = record { count = most; are = is; enough = λ alone. inl (omega arith) }

  -- few, which are all there are
  pub enough_few : (few : ℕ) → rows ≡ take few left → length rows < few → AreEnough key prefix delimiter most left rows
  enough_few few is fewer = record { count = few; are = is; enough = λ alone. inr fewer }

  -- few, of which one has a common prefix
  pub enough_rolled : (few : ℕ) → rows ≡ take few left → ¬ AllByRecursion (IsAlone key prefix delimiter) rows → AreEnough key prefix delimiter most left rows
  enough_rolled few is some = record { count = few; are = is; enough = λ alone. absurd (some alone) }

-- ---- for `rows_beyond` and `rows_at`

module _ {X : Type 0} (key : X → List ℕ) where
  -- the rows from a text on stand behind it, as rows do behind a marker
  from_text_behind : (all : List X) (text : List ℕ) → AreByKey key all → AreBehind key text all (rows_at_least key text all)
  from_text_behind all text up = record {
    order = paired-filter (UpTo key) (is_at_least key text) all up;
    later = filter_stronger (is_later key text) (is_at_least key text) all (λ row after. ap not (not_back text (key row) after));
    none_before = λ row is_in.
        not-true (is_before (key row) text) (member-filter (is_at_least key text) all row (member_from_contains (rows_at_least key text all) row is_in)).1;
    known = λ row is_in.
        (row, contains_from_member all row (member-filter (is_at_least key text) all row (member_from_contains (rows_at_least key text all) row is_in)).0, refl);
  }

  pub beyond_asked : (all : List X) (prefix text : List ℕ) (most : ℕ) (rows kept : List X) → AreByKey key all → is_before text prefix ≡ false
      → rows ≡ take most (rows_at_least key text all) → kept ≡ take_while (begins_with key prefix) rows
      → kept ≡ take most (filter (begins_with key prefix) (rows_at_least key text all))
  beyond_asked all prefix text most rows kept up behind is is_kept =
      let from = from_text_behind all text up in
      rows_asked key text all (rows_at_least key text all) from prefix most rows kept
      (is ∙ ap (take most) (sym (from_marker key text all (rows_at_least key text all) from prefix behind))) is_kept

  -- filters change places
  filter_both : (p q : X → Bool) (xs : List X) → filter p (filter q xs) ≡ filter (λ x. q x && p x) xs
  filter_both p q [] = refl
  filter_both p q (x ∷ xs) =
      elim (q x) as (λ b. filter p (cond b (x ∷ filter q xs) (filter q xs)) ≡ cond (b && p x) (x ∷ filter (λ y. q y && p y) xs) (filter (λ y. q y && p y) xs)) [
        | true ↦ ap (λ ys. cond (p x) (x ∷ ys) ys) (filter_both p q xs)
        | false ↦ filter_both p q xs
      ]

  and_swap : (a b : Bool) → (a && b) ≡ (b && a)
  and_swap true true = refl
  and_swap true false = refl
  and_swap false true = refl
  and_swap false false = refl

  filter_swap : (p q : X → Bool) (xs : List X) → filter p (filter q xs) ≡ filter q (filter p xs)
  filter_swap p q xs =
      filter_both p q xs ∙ filter_alike (λ x. q x && p x) (λ x. p x && q x) xs (λ x is_in. and_swap (q x) (p x)) ∙ sym (filter_both q p xs)

  -- those that are asked for behind a marker, from a text behind it on
  pub beyond_left : (all behind : List X) (marker prefix text : List ℕ) → AreBehind key marker all behind → is_before marker text ≡ true
      → filter (begins_with key prefix) (rows_at_least key text all) ≡ rows_at_least key text (filter (begins_with key prefix) behind)
  beyond_left all behind marker prefix text known later =
      ap (filter (begins_with key prefix)) (sym (from_prefix key marker all behind known text later))
      ∙ filter_swap (begins_with key prefix) (is_at_least key text) behind

-- ---- a list without common prefixes

filter_rows : {A : Type 0} (rows : List A) → filter_map row_in (map Row rows) ≡ rows
filter_rows [] = refl
filter_rows (row ∷ rows) = ap (λ l. row ∷ l) (filter_rows rows)

filter_no_prefixes : {A : Type 0} (rows : List A) → filter_map prefix_in (map Row rows) ≡ []
filter_no_prefixes [] = refl
filter_no_prefixes (row ∷ rows) = filter_no_prefixes rows

take_each : {A : Type 0} (n : ℕ) (rows : List A) → take n (map Row rows) ≡ map Row (take n rows)
take_each zero rows = refl
take_each (suc n) [] = refl
take_each (suc n) (row ∷ rows) = ap (λ l. Row row ∷ l) (take_each n rows)

last_each : {A : Type 0} (o : Option A) (rows : List A) → last_or (option_map Row o) (map Row rows) ≡ option_map Row (last_or o rows)
last_each o [] = refl
last_each o (row ∷ rows) = last_each (Some row) rows

next_each : {A : Type 0} (is_truncated : Bool) (rows : List A) → (if is_truncated then last_of (map Row rows) else None) ≡ option_map Row (if is_truncated then last_of rows else None)
next_each true rows = last_each None rows
next_each false rows = refl

-- the page of rows alone
pub plain_page : {A : Type 0} (most : ℕ) (rows : List A) → rows_told (page_of most (map Row rows)) ≡ plainly (page_of most rows)
plain_page {A} most rows =
    let told_with : List (RowItem A) → ℕ → RowsTold A =
    λ given count. rows_told (record { given = given; is_truncated = not (most == 0) && nat_lt most count }) in
    let is_truncated : Bool = not (most == 0) && nat_lt most (length rows) in
    ap (λ given. told_with given (length (map Row rows))) (take_each most rows)
    ∙ ap (told_with (map Row (take most rows))) (length-map rows Row)
    ∙ (λ i. record {
      rows = filter_rows (take most rows) i;
      prefixes = filter_no_prefixes (take most rows) i;
      next = next_each is_truncated (take most rows) i;
    })

-- no key has a common prefix where the delimiter is empty
pub no_delimiter : {A : Type 0} (key : A → List ℕ) (prefix delimiter marker : List ℕ) (rows : List A) → length delimiter ≡ 0 → items_asked key prefix delimiter marker rows ≡ map Row rows
no_delimiter key prefix [] marker rows empty = all_alone key prefix [] marker rows (each_from (IsAlone key prefix []) rows (λ row is_in. refl))
no_delimiter key prefix (d ∷ ds) marker rows empty = absurd (omega (arith, empty))

-- so the page of them is one of rows alone, and so is one that has none
pub plainly_asked : {A : Type 0} (key : A → List ℕ) (prefix delimiter marker lent : List ℕ) (most : ℕ) (rows : List A) (is_empty : Bool) → is_empty ≡ true → is_empty ≡ (length lent == 0) → lent ≡ delimiter
    → plainly (page_of most rows) ≡ rows_told (page_of most (items_asked key prefix delimiter marker rows))
plainly_asked key prefix delimiter marker lent most rows is_empty empty test same =
    let none : length delimiter ≡ 0 = ap length (sym same) ∙ eqb-true (length lent) 0 (sym test ∙ empty) in
    sym (plain_page most rows) ∙ ap (λ items. rows_told (page_of most items)) (sym (no_delimiter key prefix delimiter marker rows none))

pub none_asked : {A : Type 0} (most : ℕ) (items : List (RowItem A)) (rows : List A) → most ≡ 0 → plainly (page_of most rows) ≡ rows_told (page_of most items)
none_asked zero items rows none = refl
none_asked (suc most) items rows none = absurd (omega (arith, none))

-- ---- a page of items, part by part

-- an item, by its kind
abbrev picked : {A : Type 0} → Bool → Option A → Option (List ℕ) → Option (RowItem A)
picked ends row prefix = if ends then option_map CommonPrefix prefix else option_map Row row

last_by_kind : {A : Type 0} (items : List (RowItem A)) (o : Option (RowItem A)) (row : Option A) (prefix : Option (List ℕ)) → picked (option_map_or is_prefix o false) row prefix ≡ o
    → picked (option_map_or is_prefix (last_or o items) false) (last_or row (filter_map row_in items)) (last_or prefix (filter_map prefix_in items)) ≡ last_or o items
last_by_kind [] o row prefix is = is
last_by_kind (Row x ∷ items) o row prefix is = last_by_kind items (Some (Row x)) (Some x) prefix refl
last_by_kind (CommonPrefix p ∷ items) o row prefix is = last_by_kind items (Some (CommonPrefix p)) row (Some p) refl

pub parts_told : {A : Type 0} (page : Page (RowItem A))
    → told_so page.is_truncated (ends_in_prefix page.given) (filter_map row_in page.given) (filter_map prefix_in page.given) ≡ rows_told page
parts_told page = λ i. record {
  rows = filter_map row_in page.given;
  prefixes = filter_map prefix_in page.given;
  next = if page.is_truncated then last_by_kind page.given None None None refl i else None;
}

-- of its parts
pub told_by_parts : {A : Type 0} (page : Page (RowItem A)) (items lent : List (RowItem A)) (is_truncated ends : Bool) (rows : List A) (prefixes : List (List ℕ))
    → record { given = items; is_truncated = is_truncated } ≡ page → lent ≡ items → ends ≡ ends_in_prefix lent → rows ≡ filter_map row_in items → prefixes ≡ filter_map prefix_in items
    → told_so is_truncated ends rows prefixes ≡ rows_told page
told_by_parts {A} page items lent is_truncated ends rows prefixes view same ends_is rows_are prefixes_are =
    let whole : Page (RowItem A) = record { given = items; is_truncated = is_truncated } in
    ap (λ b. told_so is_truncated b rows prefixes) (ends_is ∙ ap ends_in_prefix same)
    ∙ ap (λ l. told_so is_truncated (ends_in_prefix items) l prefixes) rows_are
    ∙ ap (told_so is_truncated (ends_in_prefix items) (filter_map row_in items)) prefixes_are
    ∙ parts_told whole ∙ ap rows_told view

-- ---- for `take_rows`

all_behind : {A : Type 0} (P : A → Type 0) (front : List A) (row : A) → AllByRecursion P front → P row → AllByRecursion P (front ++ row ∷ [])
all_behind P [] row all one = (one, tt)
all_behind P (x ∷ front) row all one = (all.0, all_behind P front row all.1 one)

-- the rows in front of those that are left were taken, each by itself
abbrev pub TookFront : {A : Type 0} → (A → List ℕ) → (prefix delimiter : List ℕ) → (all left : List A) → (before after : List (RowItem A)) → Type 0
TookFront {A} key prefix delimiter all left before after =
    (front : List A) × (all ≡ front ++ left) × AllByRecursion (IsAlone key prefix delimiter) front × (after ≡ before ++ map Row front)

map_behind : {A : Type 0} (front : List A) (row : A) → map Row (front ++ row ∷ []) ≡ map Row front ++ Row row ∷ []
map_behind [] row = refl
map_behind (x ∷ front) row = ap (λ l. Row x ∷ l) (map_behind front row)

module _ {A : Type 0} (key : A → List ℕ) (prefix delimiter : List ℕ) where
  pub took_nothing : (all : List A) (before : List (RowItem A)) → TookFront key prefix delimiter all all before before
  took_nothing all before = ([], refl, tt, sym (append-nil before))

  pub took_one : (all left : List A) (row : A) (before after more : List (RowItem A)) → TookFront key prefix delimiter all (row ∷ left) before after
      → IsAlone key prefix delimiter row → more ≡ after ++ Row row ∷ [] → TookFront key prefix delimiter all left before more
  took_one all left row before after longer took alone is = (
    took.0 ++ row ∷ [],
    took.1 ∙ sym (append_assoc took.0 (row ∷ []) left),
    all_behind (IsAlone key prefix delimiter) took.0 row took.2 alone,
    is ∙ ap (λ l. l ++ Row row ∷ []) took.3 ∙ append_assoc before (map Row took.0) (Row row ∷ []) ∙ ap (λ l. before ++ l) (sym (map_behind took.0 row)),
  )

  pub took_all : (all : List A) (before after : List (RowItem A)) → TookFront key prefix delimiter all [] before after
      → AllByRecursion (IsAlone key prefix delimiter) all × (after ≡ before ++ map Row all)
  took_all all before after took =
      let same : all ≡ took.0 = took.1 ∙ append-nil took.0 in
      (subst (AllByRecursion (IsAlone key prefix delimiter)) (sym same) took.2, took.3 ∙ ap (λ l. before ++ map Row l) (sym same))

  pub took_prefix : (marker : List ℕ) (all left : List A) (row : A) (before after more : List (RowItem A)) (text : List ℕ) (place : Place)
      → TookFront key prefix delimiter all (row ∷ left) before after → rolled_up prefix delimiter (key row) ≡ Some text → more ≡ after ++ told_prefix marker text
      → LiesBeyond text (key row) place → TakesPrefix key prefix delimiter marker all before more place
  took_prefix marker all left row before after longer text place took common is beyond = record {
    front = took.0;
    row = row;
    rest = left;
    cut = took.1;
    alone = took.2;
    text = text;
    common = common;
    taken = is ∙ ap (λ l. l ++ told_prefix marker text) took.3;
    beyond = beyond;
  }

  -- what is cut off a key is its common prefix, where it has one
  pub is_alone : (row : A) (len : Option ℕ) → option_map (λ n. take n (key row)) len ≡ rolled_up prefix delimiter (key row) → len ≡ None → IsAlone key prefix delimiter row
  is_alone row len value none = sym value ∙ ap (option_map (λ n. take n (key row))) none

  pub is_rolled : (row : A) (len : Option ℕ) (n : ℕ) → option_map (λ n. take n (key row)) len ≡ rolled_up prefix delimiter (key row) → len ≡ Some n → rolled_up prefix delimiter (key row) ≡ Some (take n (key row))
  is_rolled row len n value some = sym value ∙ ap (option_map (λ n. take n (key row))) some

-- ---- for `beyond`

pub covers_first : (text first : List ℕ) → first ≡ text → Covers (From first) text
covers_first text first same k sooner =
    ap (is_before k) (sym same) ∙ not-false (is_before k first) (sym (up_to_order first k) ∙ sooner)

pub covers_later : (key text : List ℕ) (len : ℕ) → IsRaised (take len key) text → Covers (Behind key) text
covers_later key text len above =
    covers_behind key text
    (ap (λ k. is_before k text) (sym (take-append-drop len key) ∙ ap (λ p. p ++ drop len key) above.2 ∙ append_assoc above.0 (above.1 ∷ []) (drop len key))
    ∙ ap (is_before (above.0 ++ above.1 ∷ drop len key)) above.3 ∙ raised_behind above.0 (drop len key) above.1)

-- ---- for `parted`

pub put_behind : {X : Type 0} (xs : List X) (x : X) (ys all more : List X) → xs ++ x ∷ ys ≡ all → more ≡ xs ++ x ∷ [] → more ++ ys ≡ all
put_behind xs x ys all longer known is = ap (λ l. l ++ ys) is ∙ append_assoc xs (x ∷ []) ys ∙ known
