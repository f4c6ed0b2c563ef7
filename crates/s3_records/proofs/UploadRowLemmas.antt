-- The rows of the open uploads of a bucket.
use Rattle.std.proofs.Common.{◌≡◌, inl, inr, refl, sym, ap, subst, ◌∙◌, Bool, true, false, cond, ◌&&◌, T, ℕ, zero, suc, nat_lt, List, [], ◌∷◌, ◌++◌, map, filter, Option, Some, None, option_map, arith}
use Rattle.std.specs.Prelude.{if◌then◌else◌}
use Rattle.std.proofs.lemmas.Bool.{and_parts, and_from}
use Rattle.std.proofs.lemmas.Bool.Decides.{nat_tests}
use Rattle.std.proofs.lemmas.List.Elements.{Contains-append_left, Contains-append_right, Contains-append_cases}
use Rattle.std.proofs.lemmas.List.Folds.{list_all-append}
use Rattle.std.proofs.lemmas.Option.{none-some, same_Some}
use Rattle.std.specs.Cmp.{eq_by_cmp_equiv, nat_cmp_total}
use Rattle.std.specs.Cmp.Lexicographic.{nat_list_cmp_total, texts_ties}
use Rattle.std.specs.FinMap.{get, get-entries, get-empty, entries, entries_sorted, nat_cmp-IsAntisymmetric}
use Rattle.std.specs.FinMap.Entries.{is_sorted, below_all}
use Rattle.std.specs.List.{list_all, flat_map, Contains}
use Rattle.std.specs.Ordering.{nat_cmp, is_lt, is_eq, ordering_reverse}
use Rattle.std.specs.Str.{bytes_eq}
use Rattle.std.specs.declared.cmp.Ordering.TheVariants.{Less}
use Rattle.s3_text.specs.Order.{byte_order}
use Rattle.s3_text.proofs.MapLemmas.{tied_equal}
use Rattle.s3_uploads.specs.declared.upload.Upload.{Upload}
use Rattle.s3_records.specs.Catalogue.{KeyUploads, Uploads, Bucket}
use Rattle.s3_records.specs.OpenUploads.{found_uploads, upload_under, upload_in, upload_row, upload_rows_of, upload_rows_in, upload_rows, is_upload_from}
use Rattle.s3_records.specs.declared.rows.UploadRow.{UploadRow}
use Rattle.s3_records.specs.declared.rows.UploadStart.TheVariants.{BehindUpload}
use Rattle.s3_records.specs.Laws.{UploadsAreListed, UploadsFollow}
use Rattle.s3_records.proofs.OrderedLemmas.{keys_differ}
use Rattle.s3_records.proofs.RowLemmas.{is_true, first_of, second_of, is_less, found_held, held_found}

-- ---- an upload stands in the list, and nothing else does

map_holds : {A C : Type 0} (f : A → C) (xs : List A) (x : A) → Contains xs x → Contains (map f xs) (f x)
map_holds f [] x (k, within, is) = absurd (omega arith)
map_holds f (y ∷ xs) x (zero, within, is) = (zero, omega arith, ap f is)
map_holds f (y ∷ xs) x (suc k, within, is) =
    let rest = map_holds f xs x (k, omega arith, is) in
    (suc rest.0, omega arith, rest.2)

map_held : {A C : Type 0} (f : A → C) (xs : List A) (z : C) → Contains (map f xs) z → (x : A) × Contains xs x × (f x ≡ z)
map_held f [] z (k, within, is) = absurd (omega arith)
map_held f (x ∷ xs) z (zero, within, is) = (x, (zero, omega arith, refl), is)
map_held f (y ∷ xs) z (suc k, within, is) =
    let rest = map_held f xs z (k, omega arith, is) in
    (rest.0, (suc rest.1.0, omega arith, rest.1.2), rest.2)

flat_holds : {A C : Type 0} (f : A → List C) (xs : List A) (x : A) (z : C) → Contains xs x → Contains (f x) z → Contains (flat_map f xs) z
flat_holds f [] x z (k, within, is) holds = absurd (omega arith)
flat_holds f (y ∷ xs) x z (zero, within, is) holds = Contains-append_left (f y) (flat_map f xs) z (subst (λ y. Contains (f y) z) (sym is) holds)
flat_holds f (y ∷ xs) x z (suc k, within, is) holds = Contains-append_right (f y) (flat_map f xs) z (flat_holds f xs x z (k, omega arith, is) holds)

flat_held : {A C : Type 0} (f : A → List C) (xs : List A) (z : C) → Contains (flat_map f xs) z → (x : A) × Contains xs x × Contains (f x) z
flat_held f [] z (k, within, is) = absurd (omega arith)
flat_held f (x ∷ xs) z held =
    elim (Contains-append_cases (f x) (flat_map f xs) z held) [
      | inl here ↦ (x, (zero, omega arith, refl), here)
      | inr there ↦ let rest = flat_held f xs z there in (rest.0, (suc rest.1.0, omega arith, rest.1.2), rest.2)
    ]

-- the moment of an upload
abbrev moment_of : {B : Type 0} → Upload B → ℕ
moment_of u = u.moment

row_held : {B : Type 0} (uploads : Uploads B) (row : UploadRow) → option_map moment_of (upload_under uploads row.key row.id) ≡ Some row.moment → Contains (flat_map upload_rows_of (entries uploads)) row
row_held {B} uploads row is =
    elim (get uploads row.key) as (λ found. get uploads row.key ≡ found → option_map moment_of (get (found_uploads found) row.id) ≡ Some row.moment → Contains (flat_map upload_rows_of (entries uploads)) row) [
      | None ↦ λ none some. absurd (none-some row.moment (sym (ap (option_map moment_of) (get-empty nat_cmp row.id)) ∙ some))
      | Some under ↦ λ there.
          elim (get under row.id) as (λ found. get under row.id ≡ found → option_map moment_of found ≡ Some row.moment → Contains (flat_map upload_rows_of (entries uploads)) row) [
            | None ↦ λ none some. absurd (none-some row.moment some)
            | Some u ↦ λ begun some.
                let this : upload_row row.key (row.id, u) ≡ row = λ i. record { key = row.key; id = row.id; moment = same_Some u.moment row.moment some i } in
                let held : Contains (upload_rows_of (row.key, under)) row =
                subst (Contains (upload_rows_of (row.key, under))) this (map_holds (upload_row row.key) (entries under) (row.id, u) (found_held nat_cmp-IsAntisymmetric row.id u (entries under) (sym (get-entries under row.id) ∙ begun))) in
                flat_holds upload_rows_of (entries uploads) (row.key, under) row (found_held keys_differ row.key under (entries uploads) (sym (get-entries uploads row.key) ∙ there)) held
          ] refl
    ] refl is

held_row : {B : Type 0} (uploads : Uploads B) (row : UploadRow) → Contains (flat_map upload_rows_of (entries uploads)) row → option_map moment_of (upload_under uploads row.key row.id) ≡ Some row.moment
held_row uploads row held =
    let of = flat_held upload_rows_of (entries uploads) row held in
    let key = of.0.0 in
    let under = of.0.1 in
    let one = map_held (upload_row key) (entries under) row of.2 in
    let there : get uploads key ≡ Some under = get-entries uploads key ∙ held_found nat_list_cmp_total key under (entries uploads) (entries_sorted uploads) of.1 in
    let begun : get under one.0.0 ≡ Some one.0.1 = get-entries under one.0.0 ∙ held_found nat_cmp_total one.0.0 one.0.1 (entries under) (entries_sorted under) one.1 in
    ap (λ r. option_map moment_of (upload_under uploads r.key r.id)) (sym one.2)
    ∙ ap (λ found. option_map moment_of (get (found_uploads found) one.0.0)) there
    ∙ ap (option_map moment_of) begun ∙ ap (λ r. Some r.moment) one.2

listed_in : {B : Type 0} (found : Option (Bucket B)) (row : UploadRow) → (option_map moment_of (upload_in found row.key row.id) ≡ Some row.moment → Contains (upload_rows_in found) row) × (Contains (upload_rows_in found) row → option_map moment_of (upload_in found row.key row.id) ≡ Some row.moment)
listed_in None row = (λ some. absurd (none-some row.moment some), λ held. absurd (omega (held.1, arith)))
listed_in (Some b) row = (row_held b.uploads row, held_row b.uploads row)

pub uploads_are_listed : {B : Type 0} → UploadsAreListed B
uploads_are_listed c name row = listed_in (get c name) row

-- ---- each row stands behind those before it

-- a row comes behind another
abbrev follows : UploadRow → UploadRow → Bool
follows row next = is_upload_from (BehindUpload row.key row.id) next

-- each of them behind all before it
follow_each : List UploadRow → Bool
follow_each [] = true
follow_each (row ∷ rows) = list_all (follows row) rows && follow_each rows

own_text : (k : List ℕ) → bytes_eq k k ≡ true
own_text k = texts_ties k k ∙ (eq_by_cmp_equiv nat_list_cmp_total).refl k

-- of one key the ids decide
same_key : (row next : UploadRow) → next.key ≡ row.key → follows row next ≡ nat_lt row.id next.id
same_key row next is =
    ap (λ b. if b then nat_lt row.id next.id else is_lt (byte_order row.key next.key)) (ap (λ k. bytes_eq k row.key) is ∙ own_text row.key)

-- and of two the keys
other_key : (row next : UploadRow) → byte_order row.key next.key ≡ Less → follows row next ≡ true
other_key row next less =
    let apart : bytes_eq next.key row.key ≡ false = texts_ties next.key row.key ∙ (eq_by_cmp_equiv nat_list_cmp_total).symm next.key row.key ∙ ap is_eq less in
    ap (λ b. if b then nat_lt row.id next.id else is_lt (byte_order row.key next.key)) apart ∙ ap is_lt less

not_below_itself : (n : ℕ) → nat_lt n n ≡ false
not_below_itself n = grind (arith, nat_tests)

not_both_below : (n m : ℕ) → nat_lt n m ≡ true → nat_lt m n ≡ false
not_both_below n m below = grind (arith, nat_tests)

-- no row comes behind itself, and of two only one behind the other
not_itself : (row : UploadRow) → follows row row ≡ false
not_itself row = same_key row row refl ∙ not_below_itself row.id

not_both : (row next : UploadRow) → follows row next ≡ true → follows next row ≡ false
not_both row next is =
    elim (bytes_eq next.key row.key) as (λ b. bytes_eq next.key row.key ≡ b → (if b then nat_lt row.id next.id else is_lt (byte_order row.key next.key)) ≡ true → follows next row ≡ false) [
      | true ↦ λ tied below. same_key next row (sym (tied_equal next.key row.key (sym (texts_ties next.key row.key) ∙ tied))) ∙ not_both_below row.id next.id below
      | false ↦ λ apart less.
          let other : bytes_eq row.key next.key ≡ false = texts_ties row.key next.key ∙ (eq_by_cmp_equiv nat_list_cmp_total).symm row.key next.key ∙ sym (texts_ties next.key row.key) ∙ apart in
          ap (λ b. if b then nat_lt next.id row.id else is_lt (byte_order next.key row.key)) other
          ∙ ap is_lt (nat_list_cmp_total.antisymm next.key row.key ∙ ap ordering_reverse (is_less (byte_order row.key next.key) less))
    ] refl is

-- the rows of keys above one come behind those of that one
keyed_behind : {B : Type 0} (row : UploadRow) (key : List ℕ) (es : List (ℕ × Upload B)) → byte_order row.key key ≡ Less → list_all (follows row) (map (upload_row key) es) ≡ true
keyed_behind row key [] less = refl
keyed_behind row key (e ∷ es) less =
    and_from (follows row (upload_row key e)) (list_all (follows row) (map (upload_row key) es)) (other_key row (upload_row key e) less) (keyed_behind row key es less)

all_behind : {B : Type 0} (row : UploadRow) (es : List (List ℕ × KeyUploads B)) → T (below_all byte_order row.key es) → list_all (follows row) (flat_map upload_rows_of es) ≡ true
all_behind row [] below = refl
all_behind row (e ∷ es) below =
    let less = is_less (byte_order row.key e.0) (is_true _ (first_of _ (below_all byte_order row.key es) below)) in
    list_all-append (follows row) (upload_rows_of e) (flat_map upload_rows_of es)
    ∙ and_from (list_all (follows row) (upload_rows_of e)) (list_all (follows row) (flat_map upload_rows_of es)) (keyed_behind row e.0 (entries e.1) less) (all_behind row es (second_of _ _ below))

-- of one key each comes behind those with lower ids
id_below : (n m : ℕ) → is_lt (nat_cmp n m) ≡ true → nat_lt n m ≡ true
id_below n m below = grind arith

ids_behind : {B : Type 0} (key : List ℕ) (e : ℕ × Upload B) (es : List (ℕ × Upload B)) → T (below_all nat_cmp e.0 es) → list_all (follows (upload_row key e)) (map (upload_row key) es) ≡ true
ids_behind key e [] below = refl
ids_behind key e (f ∷ es) below =
    let next = id_below e.0 f.0 (is_true _ (first_of _ (below_all nat_cmp e.0 es) below)) in
    and_from (follows (upload_row key e) (upload_row key f)) (list_all (follows (upload_row key e)) (map (upload_row key) es))
    (same_key (upload_row key e) (upload_row key f) refl ∙ next) (ids_behind key e es (second_of _ _ below))

key_then : {B : Type 0} (key : List ℕ) (es : List (ℕ × Upload B)) (rest : List UploadRow) → T (is_sorted nat_cmp es) → ((e : ℕ × Upload B) → list_all (follows (upload_row key e)) rest ≡ true) → follow_each rest ≡ true
    → follow_each (map (upload_row key) es ++ rest) ≡ true
unfolding follow_each
key_then key [] rest sorted behind each = each
key_then key (e ∷ es) rest sorted behind each =
    and_from (list_all (follows (upload_row key e)) (map (upload_row key) es ++ rest)) (follow_each (map (upload_row key) es ++ rest))
    (list_all-append (follows (upload_row key e)) (map (upload_row key) es) rest
    ∙ and_from (list_all (follows (upload_row key e)) (map (upload_row key) es)) (list_all (follows (upload_row key e)) rest)
    (ids_behind key e es (first_of (below_all nat_cmp e.0 es) _ sorted)) (behind e))
    (key_then key es rest (second_of (below_all nat_cmp e.0 es) _ sorted) behind each)

rows_follow : {B : Type 0} (es : List (List ℕ × KeyUploads B)) → T (is_sorted byte_order es) → follow_each (flat_map upload_rows_of es) ≡ true
unfolding follow_each
rows_follow [] sorted = refl
rows_follow (e ∷ es) sorted =
    key_then e.0 (entries e.1) (flat_map upload_rows_of es) (entries_sorted e.1) (λ f. all_behind (upload_row e.0 f) es (first_of (below_all byte_order e.0 es) _ sorted))
    (rows_follow es (second_of (below_all byte_order e.0 es) _ sorted))

all_follow : {B : Type 0} (found : Option (Bucket B)) → follow_each (upload_rows_in found) ≡ true
unfolding follow_each
all_follow None = refl
all_follow (Some b) = rows_follow (entries b.uploads) (entries_sorted b.uploads)

-- where all pass a test, all are kept
filter-all : {A : Type 0} (p : A → Bool) (xs : List A) → list_all p xs ≡ true → filter p xs ≡ xs
filter-all p [] all = refl
filter-all p (x ∷ xs) all =
    let parts = and_parts (p x) (list_all p xs) all in
    ap (λ b. cond b (x ∷ filter p xs) (filter p xs)) parts.0 ∙ ap (λ xs. x ∷ xs) (filter-all p xs parts.1)

-- so those behind one are those that are told after it
behind_one : (front rest : List UploadRow) (row : UploadRow) → follow_each (front ++ row ∷ rest) ≡ true → filter (follows row) (front ++ row ∷ rest) ≡ rest
unfolding follow_each
behind_one [] rest row each =
    ap (λ b. cond b (row ∷ filter (follows row) rest) (filter (follows row) rest)) (not_itself row)
    ∙ filter-all (follows row) rest (and_parts (list_all (follows row) rest) (follow_each rest) each).0
behind_one (first ∷ front) rest row each =
    let parts = and_parts (list_all (follows first) (front ++ row ∷ rest)) (follow_each (front ++ row ∷ rest)) each in
    let ahead = and_parts (list_all (follows first) front) (list_all (follows first) (row ∷ rest)) (sym (list_all-append (follows first) front (row ∷ rest)) ∙ parts.0) in
    let before = not_both first row (and_parts (follows first row) (list_all (follows first) rest) ahead.1).0 in
    ap (λ b. cond b (first ∷ filter (follows row) (front ++ row ∷ rest)) (filter (follows row) (front ++ row ∷ rest))) before
    ∙ behind_one front rest row parts.1

pub uploads_follow : {B : Type 0} → UploadsFollow B
uploads_follow {B} c name front rest row is =
    let all : follow_each (upload_rows c name) ≡ true = all_follow (get c name) in
    ap (filter (follows row)) is ∙ behind_one front rest row (ap follow_each (sym is) ∙ all)
