-- Each row is told by itself or by its common prefix, which is told once.
use Rattle.std.proofs.Common.{◌≡◌, ◌≢◌, ◌⊎◌, inl, inr, refl, sym, ap, ◌∙◌, Bool, true, false, cond, ℕ, zero, suc, ◌+◌, List, [], ◌∷◌, ◌++◌, map, filter, drop, length, Option, Some, None, option_map, is_none, nat_eq}
use Rattle.std.specs.Prelude.{⊤}
use Rattle.std.specs.List.{AllByRecursion, cons_option, dedup, dedup_from, filter_map, starts_with}
use Rattle.std.specs.Str.{bytes_eq}
use Rattle.std.specs.Cmp.Lexicographic.{bytes_decides}
use Rattle.std.proofs.lemmas.Bool.{cases_Bool, false≢true, false_from_ne_true, not-true}
use Rattle.std.proofs.lemmas.Option.{none-some, same_Some}
use Rattle.s3_records.specs.Catalogue.{Catalogue}
use Rattle.s3_records.specs.Laws.{UploadsFollow}
use Rattle.s3_records.specs.OpenUploads.{upload_rows, uploads_from}
use Rattle.s3_records.specs.Rows.{version_rows, versions_from}
use Rattle.s3_prefixes.specs.Items.{is_before, rolled_up, up_to_first}
use Rattle.s3_listings.specs.Drafts.{IsRaised}
use Rattle.s3_listings.specs.Laws.{AreToldAlone, AreToldOnce, ArePrefixesOfRows, AllAreToldOnce, UploadsAreToldOnce, VersionsAreToldOnce}
use Rattle.s3_listings.specs.Rolled.{is_behind, is_same, item_of, items_asked, prefix_in, rolled_row, row_in}
use Rattle.s3_listings.specs.Sought.{AreByKey, UpTo, is_at_least, rows_at_least}
use Rattle.s3_listings.specs.Uploads as uploads
use Rattle.s3_listings.specs.Versions as versions
use Rattle.s3_listings.specs.declared.row_page.RowItem.{RowItem}
use Rattle.s3_listings.specs.declared.row_page.RowItem.TheVariants.{Row, CommonPrefix}
use Rattle.s3_listings.proofs.MemberLemmas.{Member, each_at, contains_from_member, member-filter, member_from_contains}
use Rattle.s3_listings.proofs.ObjectLemmas.{common_again, rolled-is}
use Rattle.s3_listings.proofs.RolledLemmas.{asked_are_left, has_other, passed}
use Rattle.s3_listings.proofs.UploadLemmas as upload_lemmas
use Rattle.s3_listings.proofs.VersionLemmas as version_lemmas

-- ---- rows by themselves

rows_kept : {A : Type 0} (marker : List ℕ) (items : List (RowItem A)) → filter_map row_in (filter (is_behind marker) items) ≡ filter_map row_in items
rows_kept marker [] = refl
rows_kept marker (Row row ∷ items) = ap (λ l. row ∷ l) (rows_kept marker items)
rows_kept marker (CommonPrefix p ∷ items) =
    elim (is_before marker p) as (λ b. filter_map row_in (cond b (CommonPrefix p ∷ filter (is_behind marker) items) (filter (is_behind marker) items)) ≡ filter_map row_in items) [
      | true ↦ rows_kept marker items
      | false ↦ rows_kept marker items
    ]

rows_distinct : {A : Type 0} (k : RowItem A) (items : List (RowItem A)) → filter_map row_in (dedup_from is_same k items) ≡ filter_map row_in (k ∷ items)
rows_distinct k [] = refl
rows_distinct (Row other) (Row row ∷ items) = ap (λ l. other ∷ l) (rows_distinct (Row row) items)
rows_distinct (CommonPrefix q) (Row row ∷ items) = rows_distinct (Row row) items
rows_distinct (Row other) (CommonPrefix p ∷ items) = ap (λ l. other ∷ l) (rows_distinct (CommonPrefix p) items)
rows_distinct (CommonPrefix q) (CommonPrefix p ∷ items) =
    elim (bytes_eq p q) as (λ b. filter_map row_in (cond b (dedup_from is_same (CommonPrefix q) items) (CommonPrefix q ∷ dedup_from is_same (CommonPrefix p) items)) ≡ filter_map row_in items) [
      | true ↦ rows_distinct (CommonPrefix q) items
      | false ↦ rows_distinct (CommonPrefix p) items
    ]

distinct_rows : {A : Type 0} (items : List (RowItem A)) → filter_map row_in (dedup is_same items) ≡ filter_map row_in items
distinct_rows [] = refl
distinct_rows (item ∷ items) = rows_distinct item items

rows_alone : {A : Type 0} (key : A → List ℕ) (prefix delimiter : List ℕ) (rows : List A)
    → filter_map row_in (map (item_of key prefix delimiter) rows) ≡ filter (λ row. is_none (rolled_up prefix delimiter (key row))) rows
rows_alone key prefix delimiter [] = refl
rows_alone {A} key prefix delimiter (row ∷ rows) =
    let kept : List A = filter (λ (r : A). is_none (rolled_up prefix delimiter (key r))) rows in
    elim (rolled_up prefix delimiter (key row)) as (λ o. cons_option (row_in (rolled_row row o)) (filter_map row_in (map (item_of key prefix delimiter) rows)) ≡ cond (is_none o) (row ∷ kept) kept) [
      | None ↦ ap (λ l. row ∷ l) (rows_alone key prefix delimiter rows)
      | Some p ↦ rows_alone key prefix delimiter rows
    ]

are_told_alone : {A : Type 0} (key : A → List ℕ) (prefix delimiter marker : List ℕ) (rows : List A)
    → AreToldAlone key prefix delimiter rows (items_asked key prefix delimiter marker rows)
are_told_alone key prefix delimiter marker rows =
    rows_kept marker (dedup is_same (map (item_of key prefix delimiter) rows))
    ∙ distinct_rows (map (item_of key prefix delimiter) rows)
    ∙ rows_alone key prefix delimiter rows

-- ---- a common prefix has some bytes, of which the last one can be raised

drop_nothing : (n : ℕ) (none : List ℕ) → none ≡ [] → drop n none ≡ []
drop_nothing zero none is = is
drop_nothing (suc n) [] is = refl
drop_nothing (suc n) (x ∷ xs) is = absurd (cc)

some_text : (prefix delimiter key text : List ℕ) → rolled_up prefix delimiter key ≡ Some text → text ≡ [] → ⊥
some_text prefix [] key text is empty = absurd (cc)
some_text prefix (d ∷ ds) key text is empty =
    let of_nothing : rolled_up prefix (d ∷ ds) [] ≡ None =
    rolled-is prefix d ds [] ∙ ap (λ l. option_map (λ front. prefix ++ front) (up_to_first (d ∷ ds) l)) (drop_nothing (length prefix) [] refl) in
    none-some [] (sym of_nothing ∙ common_again prefix (d ∷ ds) key [] [] (is ∙ ap Some empty))

split_last : (x : ℕ) (xs : List ℕ) → (front : List ℕ) × (byte : ℕ) × (x ∷ xs ≡ front ++ byte ∷ [])
split_last x [] = ([], x, refl)
split_last x (y ∷ ys) = let s = split_last y ys in (x ∷ s.0, s.1, ap (λ l. x ∷ l) s.2)

raised_of : (text : List ℕ) → (text ≡ [] → ⊥) → (raised : List ℕ) × IsRaised text raised
raised_of [] some = absurd (some refl)
raised_of (x ∷ xs) some = let s = split_last x xs in (s.0 ++ (s.1 + 1) ∷ [], (s.0, s.1, s.2, refl))

-- ---- a common prefix among items

module _ {A : Type 0} (text marker : List ℕ) where
  -- how often it is told
  abbrev told_here : List (RowItem A) → List (List ℕ)
  told_here items = filter (bytes_eq text) (filter_map prefix_in (filter (is_behind marker) items))

  -- an item is another one
  abbrev IsOther : RowItem A → Type 0
  IsOther (Row row) = ⊤
  IsOther (CommonPrefix prefix) = bytes_eq text prefix ≡ false

  other_first : (item : RowItem A) (items : List (RowItem A)) → IsOther item → told_here (item ∷ items) ≡ told_here items
  other_first (Row row) items other = refl
  other_first (CommonPrefix q) items other =
      elim (is_before marker q) as (λ b. filter (bytes_eq text) (filter_map prefix_in (cond b (CommonPrefix q ∷ filter (is_behind marker) items) (filter (is_behind marker) items))) ≡ told_here items) [
        | true ↦ ap (λ (b : Bool). cond b (q ∷ told_here items) (told_here items)) other
        | false ↦ refl
      ]

  others : (items : List (RowItem A)) → AllByRecursion IsOther items → told_here items ≡ []
  others [] all = refl
  others (item ∷ items) all = other_first item items all.0 ∙ others items all.1

  others_distinct : (k : RowItem A) (items : List (RowItem A)) → IsOther k → AllByRecursion IsOther items → AllByRecursion IsOther (dedup_from is_same k items)
  others_distinct k [] other all = (other, tt)
  others_distinct k (item ∷ items) other all =
      elim (is_same item k) as (λ b. AllByRecursion IsOther (cond b (dedup_from is_same k items) (k ∷ dedup_from is_same item items))) [
        | true ↦ others_distinct k items other all.1
        | false ↦ (other, others_distinct item items all.0 all.1)
      ]

  distinct_others : (items : List (RowItem A)) → AllByRecursion IsOther items → AllByRecursion IsOther (dedup is_same items)
  distinct_others [] all = tt
  distinct_others (item ∷ items) all = others_distinct item items all.0 all.1

  not_same : (k : RowItem A) → IsOther k → is_same (CommonPrefix text) k ≡ false
  not_same (Row row) other = refl
  not_same (CommonPrefix q) other = other

  text_first : (items : List (RowItem A)) → is_before marker text ≡ true → told_here (CommonPrefix text ∷ items) ≡ text ∷ told_here items
  text_first items behind =
      ap (λ (b : Bool). filter (bytes_eq text) (filter_map prefix_in (cond b (CommonPrefix text ∷ filter (is_behind marker) items) (filter (is_behind marker) items)))) behind
      ∙ ap (λ (b : Bool). cond b (text ∷ told_here items) (told_here items)) ((bytes_decides text text).1 refl)

  -- which item a row is told as
  other_of : (row : A) (o : Option (List ℕ)) → o ≢ Some text → IsOther (rolled_row row o)
  other_of row None other = tt
  other_of row (Some q) other = false_from_ne_true (bytes_eq text q) (λ same. other (ap Some (sym ((bytes_decides text q).0 same))))

is_text : (text : List ℕ) (o : Option (List ℕ)) → (o ≡ Some text) ⊎ (o ≢ Some text)
is_text text None = inr (λ is. none-some text is)
is_text text (Some q) = elim (cases_Bool (bytes_eq text q)) [
  | inl same ↦ inl (ap Some (sym ((bytes_decides text q).0 same)))
  | inr apart ↦ inr (λ is. false≢true (sym apart ∙ (bytes_decides text q).1 (sym (same_Some q text is))))
]

-- ---- the common prefix of rows that stand by key

module _ {A : Type 0} (key : A → List ℕ) (prefix delimiter marker text : List ℕ) (behind : is_before marker text ≡ true) where
  abbrev item : A → RowItem A
  item row = item_of key prefix delimiter row

  abbrev Starts : List A → Type 0
  Starts rows = (later : A) → Member later rows → starts_with nat_eq (key later) prefix ≡ true

  abbrev Has : A → Type 0
  Has row = rolled_up prefix delimiter (key row) ≡ Some text

  each_other : (rows : List A) → ((row : A) → Member row rows → Has row → ⊥) → AllByRecursion (IsOther {A = A} text marker) (map item rows)
  each_other [] none = tt
  each_other (row ∷ rows) none = (
    other_of text marker row (rolled_up prefix delimiter (key row)) (none row (inl refl)),
    each_other rows (λ r is_in. none r (inr is_in)),
  )

  -- behind the first row that has it
  met : (row : A) (rest : List A) → Has row → AreByKey key (row ∷ rest) → Starts (row ∷ rest)
      → told_here text marker (dedup_from is_same (CommonPrefix text) (map item rest)) ≡ text ∷ []
  met row rest has up starts =
      let above = raised_of text (some_text prefix delimiter (key row) text has) in
      let left : List A = rows_at_least key above.0 rest in
      ap (told_here text marker)
      (passed key prefix delimiter marker text above.0 row (starts row (inl refl)) has above.1 rest up.1
      (λ later is_in. each_at (UpTo key row) rest later up.0 is_in) (λ later is_in. starts later (inr is_in)))
      ∙ text_first text marker (dedup is_same (map item left)) behind
      ∙ ap (λ l. text ∷ l) (others text marker (dedup is_same (map item left)) (distinct_others text marker (map item left) (each_other left (λ later is_in.
      let kept = member-filter (is_at_least key above.0) rest later is_in in
      has_other key prefix delimiter marker text above.0 row (starts row (inl refl)) has above.1 later (starts later (inr kept.0))
      (not-true (is_before (key later) above.0) kept.1)))))

  later_in : (row x : A) (rest : List A) → Member row (x ∷ rest) → Has row → (Has x → ⊥) → Member row rest
  later_in row x rest (inl is) has apart = absurd (apart (ap (λ r. rolled_up prefix delimiter (key r)) (sym is) ∙ has))
  later_in row x rest (inr later) has apart = later

  once_behind : (k : RowItem A) (rest : List A) → IsOther text marker k → AreByKey key rest → Starts rest → (row : A) → Member row rest → Has row
      → told_here text marker (dedup_from is_same k (map item rest)) ≡ text ∷ []
  once_behind k [] other up starts row is_in has = absurd is_in
  once_behind k (x ∷ rest) other up starts row is_in has =
      let more : List (RowItem A) = map item rest in
      elim (is_text text (rolled_up prefix delimiter (key x))) [
        | inl is ↦
            ap (λ (o : Option (List ℕ)). told_here text marker (cond (is_same (rolled_row x o) k) (dedup_from is_same k more) (k ∷ dedup_from is_same (rolled_row x o) more))) is
            ∙ ap (λ (b : Bool). told_here text marker (cond b (dedup_from is_same k more) (k ∷ dedup_from is_same (CommonPrefix text) more))) (not_same text marker k other)
            ∙ other_first text marker k (dedup_from is_same (CommonPrefix text) more) other
            ∙ met x rest is up starts
        | inr apart ↦
            elim (is_same (item x) k) as (λ b. told_here text marker (cond b (dedup_from is_same k more) (k ∷ dedup_from is_same (item x) more)) ≡ text ∷ []) [
              | true ↦ once_behind k rest other up.1 (λ r m. starts r (inr m)) row (later_in row x rest is_in has apart) has
              | false ↦
                  other_first text marker k (dedup_from is_same (item x) more) other
                  ∙ once_behind (item x) rest (other_of text marker x (rolled_up prefix delimiter (key x)) apart) up.1 (λ r m. starts r (inr m)) row
                  (later_in row x rest is_in has apart) has
            ]
      ]

  once : (rows : List A) → AreByKey key rows → Starts rows → (row : A) → Member row rows → Has row
      → filter (bytes_eq text) (filter_map prefix_in (items_asked key prefix delimiter marker rows)) ≡ text ∷ []
  once [] up starts row is_in has = absurd is_in
  once (x ∷ rest) up starts row is_in has =
      elim (is_text text (rolled_up prefix delimiter (key x))) [
        | inl is ↦ ap (λ (o : Option (List ℕ)). told_here text marker (dedup_from is_same (rolled_row x o) (map item rest))) is ∙ met x rest is up starts
        | inr apart ↦
            once_behind (item x) rest (other_of text marker x (rolled_up prefix delimiter (key x)) apart) up.1 (λ r m. starts r (inr m)) row
            (later_in row x rest is_in has apart) has
      ]

-- ---- and each one that is told is that of a row

member_distinct : {X : Type 0} (same : X → X → Bool) (k : X) (xs : List X) (y : X) → Member y (dedup_from same k xs) → Member y (k ∷ xs)
member_distinct same k [] y is_in = is_in
member_distinct same k (x ∷ xs) y is_in =
    elim (same x k) as (λ b. Member y (cond b (dedup_from same k xs) (k ∷ dedup_from same x xs)) → Member y (k ∷ x ∷ xs)) [
      | true ↦ λ m. elim (member_distinct same k xs y m) [ inl is ↦ inl is | inr later ↦ inr (inr later) ]
      | false ↦ λ m. elim m [ inl is ↦ inl is | inr later ↦ inr (member_distinct same x xs y later) ]
    ] is_in

distinct_member : {X : Type 0} (same : X → X → Bool) (xs : List X) (y : X) → Member y (dedup same xs) → Member y xs
distinct_member same [] y is_in = is_in
distinct_member same (x ∷ xs) y is_in = member_distinct same x xs y is_in

member_prefix : {A : Type 0} (items : List (RowItem A)) (text : List ℕ) → Member text (filter_map prefix_in items) → Member (CommonPrefix text) items
member_prefix [] text is_in = absurd is_in
member_prefix (Row row ∷ items) text is_in = inr (member_prefix items text is_in)
member_prefix (CommonPrefix p ∷ items) text (inl is) = inl (ap CommonPrefix is)
member_prefix (CommonPrefix p ∷ items) text (inr later) = inr (member_prefix items text later)

prefix_of : {A : Type 0} (row : A) (o : Option (List ℕ)) (text : List ℕ) → CommonPrefix text ≡ rolled_row row o → o ≡ Some text
prefix_of row None text is = absurd (cc)
prefix_of row (Some p) text is = cc

member_row : {A : Type 0} (key : A → List ℕ) (prefix delimiter : List ℕ) (rows : List A) (text : List ℕ) → Member (CommonPrefix text) (map (item_of key prefix delimiter) rows)
    → (row : A) × Member row rows × (rolled_up prefix delimiter (key row) ≡ Some text)
member_row key prefix delimiter [] text is_in = absurd is_in
member_row key prefix delimiter (row ∷ rows) text (inl is) = (row, inl refl, prefix_of row (rolled_up prefix delimiter (key row)) text is)
member_row key prefix delimiter (row ∷ rows) text (inr later) =
    let found = member_row key prefix delimiter rows text later in
    (found.0, inr found.1, found.2)

are_prefixes_of_rows : {A : Type 0} (key : A → List ℕ) (prefix delimiter marker : List ℕ) (rows : List A)
    → ArePrefixesOfRows key prefix delimiter marker rows (items_asked key prefix delimiter marker rows)
are_prefixes_of_rows key prefix delimiter marker rows text is_in =
    let items = map (item_of key prefix delimiter) rows in
    let kept = member-filter (is_behind marker) (dedup is_same items) (CommonPrefix text)
    (member_prefix (items_asked key prefix delimiter marker rows) text (member_from_contains (filter_map prefix_in (items_asked key prefix delimiter marker rows)) text is_in)) in
    let found = member_row key prefix delimiter rows text (distinct_member is_same items (CommonPrefix text) kept.0) in
    ((found.0, contains_from_member rows found.0 found.1, found.2), kept.1)

are_told_once : {A : Type 0} (key : A → List ℕ) (prefix delimiter marker : List ℕ) (rows : List A) → AreByKey key rows
    → ((row : A) → Member row rows → starts_with nat_eq (key row) prefix ≡ true)
    → AreToldOnce key prefix delimiter marker rows (items_asked key prefix delimiter marker rows)
are_told_once key prefix delimiter marker rows up starts row text is_in has behind =
    once key prefix delimiter marker text behind rows up starts row (member_from_contains rows row is_in) has

pub versions_are_told_once : {B : Type 0} → VersionsAreToldOnce B
versions_are_told_once asked c name =
    let rows = versions.version_rows_asked asked c name in
    let left = asked_are_left version_lemmas.key_of asked.prefix asked.delimiter asked.key_marker (version_rows c name)
    (versions_from c name (versions.marked asked.key_marker asked.id_marker)) (version_lemmas.behind_marker c name asked.key_marker asked.id_marker) in
    record {
      alone = are_told_alone version_lemmas.key_of asked.prefix asked.delimiter asked.key_marker rows;
      once = are_told_once version_lemmas.key_of asked.prefix asked.delimiter asked.key_marker rows left.up left.starts;
      of_rows = are_prefixes_of_rows version_lemmas.key_of asked.prefix asked.delimiter asked.key_marker rows;
    }

pub uploads_are_told_once : {B : Type 0} → UploadsFollow B → UploadsAreToldOnce B
uploads_are_told_once follow asked c name =
    let rows = uploads.upload_rows_asked asked c name in
    let left = asked_are_left upload_lemmas.key_of asked.prefix asked.delimiter asked.key_marker (upload_rows c name)
    (uploads_from c name (uploads.marked asked.key_marker asked.id_marker)) (upload_lemmas.behind_marker follow c name asked.key_marker asked.id_marker) in
    record {
      alone = are_told_alone upload_lemmas.key_of asked.prefix asked.delimiter asked.key_marker rows;
      once = are_told_once upload_lemmas.key_of asked.prefix asked.delimiter asked.key_marker rows left.up left.starts;
      of_rows = are_prefixes_of_rows upload_lemmas.key_of asked.prefix asked.delimiter asked.key_marker rows;
    }
