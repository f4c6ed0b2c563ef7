-- The pages of lists that have common prefixes join.
use Rattle.std.proofs.Common.{◌≡◌, ◌≢◌, ◌⊎◌, inl, inr, refl, sym, ap, subst, ◌∙◌, Bool, true, false, not, cond, ℕ, zero, suc, ◌+◌, ◌==◌, ◌<◌, ◌≤◌, List, [], ◌∷◌, ◌++◌, map, filter, take, drop, length, Option, Some, None, option_map, nat_eq, arith, append-nil}
use Rattle.std.specs.List.{AllByRecursion, dedup, dedup_from, starts_with}
use Rattle.std.proofs.lemmas.Bool.{cases_Bool, false≢true, not-true}
use Rattle.std.proofs.lemmas.Option.{none-some, same_Some}
use Rattle.s3_prefixes.specs.Items.{is_before, rolled_up, up_to_first}
use Rattle.s3_listings.specs.Drafts.{IsRaised}
use Rattle.s3_listings.specs.Pages.{last_of}
use Rattle.s3_listings.specs.Rolled.{is_behind, is_same, item_of, rolled_row}
use Rattle.s3_listings.specs.Sought.{UpTo, AreByKey, AreBehind, begins_with, is_at_least, rows_at_least}
use Rattle.s3_listings.specs.Taken.{IsAlone, told_prefix}
use Rattle.s3_listings.specs.declared.row_page.RowItem.{RowItem}
use Rattle.s3_listings.specs.declared.row_page.RowItem.TheVariants.{Row, CommonPrefix}
use Rattle.s3_listings.proofs.BehindLemmas.{FilterCut, filter_cut, cut_at_last, nothing_cut, cons_head, cons_tail, member_cut}
use Rattle.s3_listings.proofs.FilterLemmas.{filter_all, filter_most, filter_stronger, member_behind}
use Rattle.s3_listings.proofs.ItemLemmas.{key_then_prefix, prefix_then_prefix}
use Rattle.s3_listings.proofs.MemberLemmas.{Member, each_at, member-filter, member-map, paired-filter}
use Rattle.s3_listings.proofs.ObjectLemmas.{common_again}
use Rattle.s3_listings.proofs.OrderLemmas.{before_trans, before_up_to, not_back, order_of, up_to_before, up_to_up_to}
use Rattle.s3_listings.proofs.RolledLemmas.{AreLeft, alone_first, asked_are_left, below, beyond_left, has_other, paired_behind, rolled_first, told}
use Rattle.s3_listings.proofs.SeekLemmas.{below_raised, not_itself, raised_behind}

-- ---- texts that are raised

pub raise : (text : List ℕ) → text ≢ [] → (raised : List ℕ) × IsRaised text raised
raise [] some = absurd (some refl)
raise (b ∷ []) some = ((b + 1) ∷ [], ([], b, refl, refl))
raise (b ∷ c ∷ text) some =
    let rest = raise (c ∷ text) (λ none. cc) in
    (b ∷ rest.0, (b ∷ rest.1.0, rest.1.1, ap (λ l. b ∷ l) rest.1.2, ap (λ l. b ∷ l) rest.1.3))

drop_nothing : (n : ℕ) → drop {A = ℕ} n [] ≡ []
drop_nothing zero = refl
drop_nothing (suc n) = refl

nothing_rolled : (prefix delimiter : List ℕ) → rolled_up prefix delimiter [] ≡ None
nothing_rolled prefix delimiter =
    elim (length delimiter == 0) as (λ b. cond b None (option_map (λ front. prefix ++ front) (up_to_first delimiter (drop (length prefix) []))) ≡ None) [
      | true ↦ refl
      | false ↦ ap (λ l. option_map (λ front. prefix ++ front) (up_to_first delimiter l)) (drop_nothing (length prefix))
    ]

-- a common prefix isn't empty
some_text : (prefix delimiter key text : List ℕ) → rolled_up prefix delimiter key ≡ Some text → text ≢ []
some_text prefix delimiter key text is none =
    none-some text
    (sym (nothing_rolled prefix delimiter) ∙ ap (λ t. rolled_up prefix delimiter (t ++ [])) (sym none) ∙ common_again prefix delimiter key text [] is)

-- and is before it is raised
text_below : (text raised : List ℕ) → IsRaised text raised → is_before text raised ≡ true
text_below text raised above =
    ap (λ t. is_before t raised) above.2 ∙ ap (is_before (above.0 ++ above.1 ∷ [])) above.3 ∙ raised_behind above.0 [] above.1

-- ---- distinct items are items

member-dedup_from : {X : Type 0} (same : X → X → Bool) (k : X) (xs : List X) (y : X) → Member y (dedup_from same k xs) → Member y (k ∷ xs)
member-dedup_from same k [] y is_in = is_in
member-dedup_from same k (x ∷ xs) y is_in =
    elim (same x k) as (λ b. Member y (cond b (dedup_from same k xs) (k ∷ dedup_from same x xs)) → Member y (k ∷ x ∷ xs)) [
      | true ↦ λ m. elim (member-dedup_from same k xs y m) [ inl is ↦ inl is | inr later ↦ inr (inr later) ]
      | false ↦ λ m. elim m [ inl is ↦ inl is | inr later ↦ inr (member-dedup_from same x xs y later) ]
    ] is_in

member-dedup : {X : Type 0} (same : X → X → Bool) (xs : List X) (y : X) → Member y (dedup same xs) → Member y xs
member-dedup same [] y is_in = is_in
member-dedup same (x ∷ xs) y is_in = member-dedup_from same x xs y is_in

module _ {A : Type 0} (key : A → List ℕ) (prefix delimiter : List ℕ) where
  -- common prefixes of rows stand behind a text
  abbrev StandBehind : List ℕ → List A → Type 0
  StandBehind marker rows = (row : A) (text : List ℕ) → Member row rows → rolled_up prefix delimiter (key row) ≡ Some text → is_before marker text ≡ true

  item_behind : (marker : List ℕ) (row : A) (o : Option (List ℕ)) → ((text : List ℕ) → o ≡ Some text → is_before marker text ≡ true) → is_behind marker (rolled_row row o) ≡ true
  item_behind marker row None behind = refl
  item_behind marker row (Some text) behind = behind text refl

  -- then none is left out
  all_told : (marker : List ℕ) (rows : List A) → StandBehind marker rows → told key prefix delimiter marker rows ≡ dedup is_same (map (item_of key prefix delimiter) rows)
  all_told marker rows behind = filter_all (is_behind marker) (dedup is_same (map (item_of key prefix delimiter) rows)) (λ item is_in.
      let from = member-map (item_of key prefix delimiter) rows item (member-dedup is_same (map (item_of key prefix delimiter) rows) item is_in) in
      ap (is_behind marker) from.2 ∙ item_behind marker from.0 (rolled_up prefix delimiter (key from.0)) (λ text is. behind from.0 text from.1 is))

  -- so the marker doesn't matter
  same_marker : (marker other : List ℕ) (rows : List A) → StandBehind marker rows → StandBehind other rows → told key prefix delimiter marker rows ≡ told key prefix delimiter other rows
  same_marker marker other rows behind others = all_told marker rows behind ∙ sym (all_told other rows others)

  module _ (marker : List ℕ) where
    -- ---- where an item is told

    -- a row: what is told behind it is what is told of the rows behind it
    record RowCut (left : List A) (row : A) (rest : List (RowItem A)) : Type 0 where
      front : List A
      later : List A
      cut : left ≡ front ++ row ∷ later
      alone : IsAlone key prefix delimiter row
      rest_is : told key prefix delimiter marker later ≡ rest

    -- a common prefix: it is what is told of the rows behind all that have it
    record PrefixCut (left : List A) (text : List ℕ) (rest : List (RowItem A)) : Type 0 where
      row : A
      is_in : Member row left
      common : rolled_up prefix delimiter (key row) ≡ Some text
      behind : is_before marker text ≡ true
      raised : List ℕ
      above : IsRaised text raised
      rest_is : told key prefix delimiter marker (rows_at_least key raised left) ≡ rest

    abbrev ItemCut : List A → RowItem A → List (RowItem A) → Type 0
    ItemCut left (Row row) rest = RowCut left row rest
    ItemCut left (CommonPrefix text) rest = PrefixCut left text rest

    abbrev Left : List A → Type 0
    Left left = AreLeft key prefix delimiter marker left

    rest_left : (x : A) (rest : List A) → Left (x ∷ rest) → Left rest
    rest_left x rest are = record { up = are.up.1; starts = λ row is_in. are.starts row (inr is_in); from = λ row is_in. are.from row (inr is_in) }

    filter_left : (raised : List ℕ) (rest : List A) → Left rest → Left (rows_at_least key raised rest)
    filter_left raised rest are = record {
      up = paired-filter (UpTo key) (is_at_least key raised) rest are.up;
      starts = λ row is_in. are.starts row (member-filter (is_at_least key raised) rest row is_in).0;
      from = λ row is_in. are.from row (member-filter (is_at_least key raised) rest row is_in).0;
    }

    is_below : (left : List A) (row : A) (text raised : List ℕ) → Left left → Member row left → rolled_up prefix delimiter (key row) ≡ Some text → IsRaised text raised → is_before (key row) raised ≡ true
    is_below left row text raised are is_in common above = below key prefix delimiter marker text raised row (are.starts row is_in) common above

    -- behind one row more
    cut_later : (x : A) (rest : List A) (item : RowItem A) (others : List (RowItem A)) → Left (x ∷ rest) → ItemCut rest item others → ItemCut (x ∷ rest) item others
    cut_later x rest (Row row) others are known =
        record { front = x ∷ known.front; later = known.later; cut = ap (λ l. x ∷ l) known.cut; alone = known.alone; rest_is = known.rest_is }
    cut_later x rest (CommonPrefix text) others are known =
        let sooner : is_before (key x) known.raised ≡ true =
        up_to_before (key x) (key known.row) known.raised (each_at (UpTo key x) rest known.row are.up.0 known.is_in)
        (is_below rest known.row text known.raised (rest_left x rest are) known.is_in known.common known.above) in
        record {
          row = known.row;
          is_in = inr known.is_in;
          common = known.common;
          behind = known.behind;
          raised = known.raised;
          above = known.above;
          rest_is = ap (λ (b : Bool). told key prefix delimiter marker (cond (not b) (x ∷ rows_at_least key known.raised rest) (rows_at_least key known.raised rest))) sooner ∙ known.rest_is;
        }

    -- behind a row with a common prefix, and all that have it
    cut_beyond : (x : A) (rest : List A) (raised : List ℕ) (item : RowItem A) (others : List (RowItem A)) → Left (x ∷ rest) → is_before (key x) raised ≡ true
        → ItemCut (rows_at_least key raised rest) item others → ItemCut (x ∷ rest) item others
    cut_beyond x rest raised (Row row) others are low known =
        let found : FilterCut (is_at_least key raised) rest row known.later = filter_cut (is_at_least key raised) rest known.front row known.later known.cut in
        let here : is_before (key row) raised ≡ false =
        not-true (is_before (key row) raised)
        (member-filter (is_at_least key raised) rest row (subst (Member row) (sym known.cut) (member_cut known.front row known.later))).1 in
        let up : AreByKey key (row ∷ found.back) = paired_behind (UpTo key) found.front (row ∷ found.back) (subst (AreByKey key) found.cut are.up.1) in
        let same : found.back ≡ known.later =
        sym (filter_all (is_at_least key raised) found.back (λ y is_in. ap not (up_to_up_to raised (key row) (key y) here (each_at (UpTo key row) found.back y up.0 is_in))))
        ∙ found.left in
        record {
          front = x ∷ found.front;
          later = found.back;
          cut = ap (λ l. x ∷ l) found.cut;
          alone = known.alone;
          rest_is = ap (told key prefix delimiter marker) same ∙ known.rest_is;
        }
    cut_beyond x rest raised (CommonPrefix text) others are low known =
        let there = member-filter (is_at_least key raised) rest known.row known.is_in in
        let under : is_before (key known.row) known.raised ≡ true =
        is_below rest known.row text known.raised (rest_left x rest are) there.0 known.common known.above in
        let further : is_before raised known.raised ≡ true = up_to_before raised (key known.row) known.raised (not-true (is_before (key known.row) raised) there.1) under in
        let sooner : is_before (key x) known.raised ≡ true = before_trans (key x) raised known.raised low further in
        let same : rows_at_least key known.raised (rows_at_least key raised rest) ≡ rows_at_least key known.raised rest =
        filter_stronger (is_at_least key known.raised) (is_at_least key raised) rest (λ y from.
        ap not (up_to_up_to raised known.raised (key y) (not_back raised known.raised further) (not-true (is_before (key y) known.raised) from))) in
        record {
          row = known.row;
          is_in = inr there.0;
          common = known.common;
          behind = known.behind;
          raised = known.raised;
          above = known.above;
          rest_is =
              ap (λ (b : Bool). told key prefix delimiter marker (cond (not b) (x ∷ rows_at_least key known.raised rest) (rows_at_least key known.raised rest))) sooner
              ∙ ap (told key prefix delimiter marker) (sym same) ∙ known.rest_is;
        }

    -- an item is told in the lists of so many rows at most, and these behind it
    abbrev CutsUpTo : ℕ → RowItem A → List (RowItem A) → Type 0
    CutsUpTo n item others =
        (left : List A) → length left ≤ n → Left left → (front : List (RowItem A)) → told key prefix delimiter marker left ≡ front ++ item ∷ others → ItemCut left item others

    behind_alone : (n : ℕ) (item : RowItem A) (others : List (RowItem A)) → CutsUpTo n item others → (x : A) (rest : List A) → length rest ≤ n → Left (x ∷ rest) → IsAlone key prefix delimiter x
        → (front : List (RowItem A)) → Row x ∷ told key prefix delimiter marker rest ≡ front ++ item ∷ others → ItemCut (x ∷ rest) item others
    behind_alone n item others next x rest few are alone [] here =
        subst (λ i. ItemCut (x ∷ rest) i others) (cons_head (Row x) item (told key prefix delimiter marker rest) others here)
        (record { front = []; later = rest; cut = refl; alone = alone; rest_is = cons_tail (Row x) item (told key prefix delimiter marker rest) others here })
    behind_alone n item others next x rest few are alone (y ∷ ys) later =
        cut_later x rest item others are
        (next rest few (rest_left x rest are) ys (cons_tail (Row x) y (told key prefix delimiter marker rest) (ys ++ item ∷ others) later))

    behind_prefix : (n : ℕ) (item : RowItem A) (others : List (RowItem A)) → CutsUpTo n item others → (x : A) (rest : List A) → length rest ≤ n → Left (x ∷ rest)
        → (text raised : List ℕ) → rolled_up prefix delimiter (key x) ≡ Some text → IsRaised text raised → (is_told : Bool) → is_before marker text ≡ is_told
        → (front : List (RowItem A)) → (cond is_told (CommonPrefix text ∷ []) []) ++ told key prefix delimiter marker (rows_at_least key raised rest) ≡ front ++ item ∷ others
        → ItemCut (x ∷ rest) item others
    behind_prefix n item others next x rest few are text raised common above false tested front later =
        let most : length (rows_at_least key raised rest) ≤ length rest = filter_most (is_at_least key raised) rest in
        cut_beyond x rest raised item others are (is_below (x ∷ rest) x text raised are (inl refl) common above)
        (next (rows_at_least key raised rest) (omega (arith, few, most)) (filter_left raised rest (rest_left x rest are)) front later)
    behind_prefix n item others next x rest few are text raised common above true tested [] here =
        let low : is_before (key x) raised ≡ true = is_below (x ∷ rest) x text raised are (inl refl) common above in
        let left = told key prefix delimiter marker (rows_at_least key raised rest) in
        subst (λ i. ItemCut (x ∷ rest) i others) (cons_head (CommonPrefix text) item left others here)
        (record {
          row = x;
          is_in = inl refl;
          common = common;
          behind = tested;
          raised = raised;
          above = above;
          rest_is =
              ap (λ (b : Bool). told key prefix delimiter marker (cond (not b) (x ∷ rows_at_least key raised rest) (rows_at_least key raised rest))) low
              ∙ cons_tail (CommonPrefix text) item left others here;
        })
    behind_prefix n item others next x rest few are text raised common above true tested (y ∷ ys) later =
        let most : length (rows_at_least key raised rest) ≤ length rest = filter_most (is_at_least key raised) rest in
        cut_beyond x rest raised item others are (is_below (x ∷ rest) x text raised are (inl refl) common above)
        (next (rows_at_least key raised rest) (omega (arith, few, most)) (filter_left raised rest (rest_left x rest are)) ys
        (cons_tail (CommonPrefix text) y (told key prefix delimiter marker (rows_at_least key raised rest)) (ys ++ item ∷ others) later))

    cut_items : (item : RowItem A) (others : List (RowItem A)) (n : ℕ) → CutsUpTo n item others
    cut_items item others n [] fits are front is = absurd (nothing_cut front item others is)
    cut_items item others zero (x ∷ rest) fits are front is = absurd (omega (arith, fits))
    cut_items item others (suc n) (x ∷ rest) fits are front is =
        elim (rolled_up prefix delimiter (key x)) as (λ o. rolled_up prefix delimiter (key x) ≡ o → ItemCut (x ∷ rest) item others) [
          | None ↦ λ alone.
              behind_alone n item others (cut_items item others n) x rest (omega (arith, fits)) are alone front (sym (alone_first key prefix delimiter marker x rest alone) ∙ is)
          | Some text ↦ λ common.
              let raised = raise text (some_text prefix delimiter (key x) text common) in
              behind_prefix n item others (cut_items item others n) x rest (omega (arith, fits)) are text raised.0 common raised.1 (is_before marker text) refl front
              (sym (rolled_first key prefix delimiter marker text raised.0 x (are.starts x (inl refl)) common raised.1 rest are.up (λ later is_in. are.starts later (inr is_in))) ∙ is)
        ] refl

  -- ---- what is told behind a common prefix

  -- the rows behind it that have it tell nothing
  passes_prefix : (text raised key_of : List ℕ) (rows : List A) → AreLeft key prefix delimiter text rows → IsRaised text raised → rolled_up prefix delimiter key_of ≡ Some text
      → told key prefix delimiter text rows ≡ told key prefix delimiter text (rows_at_least key raised rows)
  passes_prefix text raised key_of [] are above common = refl
  passes_prefix text raised key_of (x ∷ rest) are above common = elim (cases_Bool (is_before (key x) raised)) [
    | inl sooner ↦
        let low : is_before (key x) (above.0 ++ above.1 ∷ []) ≡ false = ap (is_before (key x)) (sym above.2) ∙ are.from x (inl refl) in
        let high : is_before (key x) (above.0 ++ (above.1 + 1) ∷ []) ≡ true = ap (is_before (key x)) (sym above.3) ∙ sooner in
        let more = drop (length (above.0 ++ above.1 ∷ [])) (key x) in
        let same : rolled_up prefix delimiter (key x) ≡ Some text =
        ap (rolled_up prefix delimiter) (below_raised above.0 [] (key x) above.1 low high ∙ ap (λ p. p ++ more) (sym above.2))
        ∙ common_again prefix delimiter key_of text more common in
        rolled_first key prefix delimiter text text raised x (are.starts x (inl refl)) same above rest are.up (λ later is_in. are.starts later (inr is_in))
        ∙ ap (λ (b : Bool). (cond b (CommonPrefix text ∷ []) []) ++ told key prefix delimiter text (rows_at_least key raised rest)) (not_itself text)
        ∙ ap (λ (b : Bool). told key prefix delimiter text (cond (not b) (x ∷ rows_at_least key raised rest) (rows_at_least key raised rest))) (sym sooner)
    | inr from ↦
        ap (told key prefix delimiter text) (sym (filter_all (is_at_least key raised) (x ∷ rest) (λ y is_in. elim is_in [
          | inl is ↦ ap (λ z. not (is_before (key z) raised)) is ∙ ap not from
          | inr later ↦ ap not (up_to_up_to raised (key x) (key y) from (each_at (UpTo key x) rest y are.up.0 later))
        ])))
  ]

  -- ---- a list that goes on behind markers: a key, and the name of a row of it or none

  module _ {I : Type 0} (name : A → I) (all : List A) (from : List ℕ → Option I → List A) (known : (marker : List ℕ) (id : Option I) → AreBehind key marker all (from marker id))
      (follow : (marker : List ℕ) (id : Option I) (front : List A) (row : A) (rest : List A) → from marker id ≡ front ++ row ∷ rest → from (key row) (Some (name row)) ≡ rest) where
    abbrev asked : List ℕ → Option I → List A
    asked marker id = filter (begins_with key prefix) (from marker id)

    abbrev items : List ℕ → Option I → List (RowItem A)
    items marker id = told key prefix delimiter marker (asked marker id)

    are_left : (marker : List ℕ) (id : Option I) → AreLeft key prefix delimiter marker (asked marker id)
    are_left marker id = asked_are_left key prefix delimiter marker all (from marker id) (known marker id)

    -- behind an item
    abbrev items_behind : RowItem A → List (RowItem A)
    items_behind (Row row) = items (key row) (Some (name row))
    items_behind (CommonPrefix text) = items text None

    -- common prefixes behind a row that has none stand behind it
    behind_row : (row later : A) (text : List ℕ) → is_before (key later) (key row) ≡ false → IsAlone key prefix delimiter row → starts_with nat_eq (key later) prefix ≡ true
        → rolled_up prefix delimiter (key later) ≡ Some text → is_before (key row) text ≡ true
    behind_row row later text up_to alone starts common = elim (order_of (key row) (key later)) [
      | inl before ↦ key_then_prefix prefix delimiter (key row) (key later) before text starts alone common
      | inr other ↦ elim other [
        | inl same ↦ absurd (none-some text (sym alone ∙ ap (rolled_up prefix delimiter) same ∙ common))
        | inr back ↦ absurd (false≢true (sym up_to ∙ back))
      ]
    ]

    rest_of_items : (marker : List ℕ) (id : Option I) (item : RowItem A) (rest : List (RowItem A)) → ItemCut marker (asked marker id) item rest → items_behind item ≡ rest
    rest_of_items marker id (Row row) rest cut =
        let found : FilterCut (begins_with key prefix) (from marker id) row cut.later = filter_cut (begins_with key prefix) (from marker id) cut.front row cut.later cut.cut in
        let are = are_left marker id in
        let later_in : (later : A) → Member later cut.later → Member later (asked marker id) =
        λ later is_in. subst (Member later) (sym cut.cut) (member_behind cut.front (row ∷ cut.later) later (inr is_in)) in
        let up : AreByKey key (row ∷ cut.later) = paired_behind (UpTo key) cut.front (row ∷ cut.later) (subst (AreByKey key) cut.cut are.up) in
        let behind : StandBehind (key row) cut.later =
        λ later text is_in common. behind_row row later text (each_at (UpTo key row) cut.later later up.0 is_in) cut.alone (are.starts later (later_in later is_in)) common in
        let is_in : Member row (asked marker id) = subst (Member row) (sym cut.cut) (member_cut cut.front row cut.later) in
        ap (λ rows. told key prefix delimiter (key row) (filter (begins_with key prefix) rows)) (follow marker id found.front row found.back found.cut)
        ∙ ap (told key prefix delimiter (key row)) found.left
        ∙ same_marker (key row) marker cut.later behind (λ later text in_later common. up_to_before marker (key row) text (are.from row is_in) (behind later text in_later common))
        ∙ cut.rest_is
    rest_of_items marker id (CommonPrefix text) rest cut =
        let raised = cut.raised in
        let are = are_left marker id in
        let under : is_before text raised ≡ true = text_below text raised cut.above in
        let left = rows_at_least key raised (asked marker id) in
        let same : rows_at_least key raised (asked text None) ≡ left =
        sym (beyond_left key all (from text None) text prefix raised (known text None) under)
        ∙ beyond_left key all (from marker id) marker prefix raised (known marker id) (before_trans marker text raised cut.behind under) in
        let behind : StandBehind text left =
        λ later other is_in common.
        let there = member-filter (is_at_least key raised) (asked marker id) later is_in in
        let from_there : is_before (key later) raised ≡ false = not-true (is_before (key later) raised) there.1 in
        let starts = are.starts cut.row cut.is_in in
        let also = are.starts later there.0 in
        let before : is_before (key cut.row) (key later) ≡ true =
        before_up_to (key cut.row) raised (key later) (below key prefix delimiter marker text raised cut.row starts cut.common cut.above) from_there in
        elim (prefix_then_prefix prefix delimiter (key cut.row) (key later) before text other starts also cut.common common) [
          | inl one ↦ absurd (has_other key prefix delimiter marker text raised cut.row starts cut.common cut.above later also from_there (common ∙ ap Some (sym one)))
          | inr sooner ↦ sooner
        ] in
        passes_prefix text raised (key cut.row) (asked text None) (are_left text None) cut.above cut.common
        ∙ ap (told key prefix delimiter text) same
        ∙ same_marker text marker left behind (λ later other is_in common. before_trans marker text other cut.behind (behind later other is_in common))
        ∙ cut.rest_is

    pub rest_of_page : (marker : List ℕ) (id : Option I) (most : ℕ) (last : RowItem A) → last_of (take most (items marker id)) ≡ Some last → items_behind last ≡ drop most (items marker id)
    rest_of_page marker id most last is =
        let whole = cut_at_last most (items marker id) last is in
        rest_of_items marker id last (drop most (items marker id))
        (cut_items marker last (drop most (items marker id)) (length (asked marker id)) (asked marker id) (omega arith) (are_left marker id) whole.0 whole.1)
