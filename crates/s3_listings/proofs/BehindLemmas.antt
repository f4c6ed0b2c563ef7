-- The rows of versions behind one of them are those that follow it.
use Rattle.std.proofs.Common.{◌≡◌, ◌⊎◌, inl, inr, refl, sym, ap, subst, ◌∙◌, Bool, true, false, not, cond, ℕ, suc, ◌+◌, ◌<◌, List, [], ◌∷◌, ◌++◌, map, filter, take, drop, get_or, Option, Some, ◌&&◌, ◌==◌, append_assoc, arith}
use Rattle.std.specs.List.{list_all, flat_map, after_first, position_or_len}
use Rattle.std.specs.Str.{bytes_eq}
use Rattle.std.specs.Cmp.Lexicographic.{bytes_decides}
use Rattle.std.specs.FinMap.{get}
use Rattle.std.specs.Ordering.{is_lt}
use Rattle.std.proofs.lemmas.Bool.{false≢true, cases_Bool, and_parts, false_from_ne_true, eqb-true, eq-eqb, ltb-true}
use Rattle.std.proofs.lemmas.List.{take-append-drop}
use Rattle.std.proofs.lemmas.Option.{none-some, same_Some}
use Rattle.s3_text.specs.Order.{byte_order}
use Rattle.s3_names.specs.declared.ids.VersionId.{VersionId}
use Rattle.s3_versions.specs.declared.version.Version.{Version}
use Rattle.s3_versions.specs.Rules.{id_of, is_under, may_precede, are_versions}
use Rattle.s3_records.specs.Catalogue.{Catalogue}
use Rattle.s3_records.specs.Laws.{AreCatalogued}
use Rattle.s3_records.specs.Rows.{Held, held_of, is_from, version_row, rows_under, rows_of, behind_version, rows_at, versions_from}
use Rattle.s3_records.specs.declared.rows.VersionRow.{VersionRow}
use Rattle.s3_records.specs.declared.rows.VersionStart.{VersionStart}
use Rattle.s3_records.specs.declared.rows.VersionStart.TheVariants.{At, BehindVersion}
use Rattle.s3_prefixes.specs.Items.{is_before}
use Rattle.s3_listings.specs.Pages.{last_of}
use Rattle.s3_listings.specs.Versions.{marked}
use Rattle.s3_listings.proofs.FilterLemmas.{member-flat_map, member_behind}
use Rattle.s3_listings.proofs.HeldLemmas.{key_at, rising-held_in, versions_of_held}
use Rattle.s3_listings.proofs.MemberLemmas.{Member, Before, Rising, each_at}
use Rattle.s3_listings.proofs.OrderLemmas.{up_to_before}
use Rattle.s3_listings.proofs.VersionLemmas.{key-at, key_from_marker, rows_of_behind, rows_of_before}

-- lists that are cut at a member
pub cons_head : {X : Type 0} (x y : X) (xs ys : List X) → x ∷ xs ≡ y ∷ ys → x ≡ y
cons_head x y xs ys is = ap (λ l. get_or l 0 x) is

pub cons_tail : {X : Type 0} (x y : X) (xs ys : List X) → x ∷ xs ≡ y ∷ ys → xs ≡ ys
cons_tail x y xs ys is = ap (drop 1) is

pub nothing_cut : {X : Type 0} (xs : List X) (x : X) (ys : List X) → [] ≡ xs ++ x ∷ ys → ⊥
nothing_cut [] x ys is = absurd (cc)
nothing_cut (y ∷ xs) x ys is = absurd (cc)

pub member_cut : {X : Type 0} (xs : List X) (x : X) (ys : List X) → Member x (xs ++ x ∷ ys)
member_cut xs x ys = member_behind xs (x ∷ ys) x (inl refl)

-- a cut of two lists that are joined is in the first or in the second
abbrev pub CutOfBoth : {X : Type 0} → (front back xs : List X) → X → List X → Type 0
CutOfBoth {X} front back xs x ys = ((t : List X) × (front ≡ xs ++ x ∷ t) × (ys ≡ t ++ back)) ⊎ ((t : List X) × (back ≡ t ++ x ∷ ys))

cut_later : {X : Type 0} (a b : X) (front back xs : List X) (x : X) (ys : List X) → a ≡ b → CutOfBoth front back xs x ys → CutOfBoth (a ∷ front) back (b ∷ xs) x ys
cut_later a b front back xs x ys same (inl (t, here, rest)) = inl (t, ap (λ l. a ∷ l) here ∙ ap (λ c. c ∷ xs ++ x ∷ t) same, rest)
cut_later a b front back xs x ys same (inr (t, there)) = inr (t, there)

cut_of_both : {X : Type 0} (front back xs : List X) (x : X) (ys : List X) → front ++ back ≡ xs ++ x ∷ ys → CutOfBoth front back xs x ys
cut_of_both [] back xs x ys is = inr (xs, is)
cut_of_both (a ∷ front) back [] x ys is = inl (front, ap (λ b. b ∷ front) (cons_head a x (front ++ back) ys is), sym (cons_tail a x (front ++ back) ys is))
cut_of_both (a ∷ front) back (b ∷ xs) x ys is =
    cut_later a b front back xs x ys (cons_head a b (front ++ back) (xs ++ x ∷ ys) is) (cut_of_both front back xs x ys (cons_tail a b (front ++ back) (xs ++ x ∷ ys) is))

-- a cut of what passes is one of the list
pub record FilterCut {X : Type 0} (p : X → Bool) (xs : List X) (x : X) (rest : List X) : Type 0 where
  pub front : List X
  pub back : List X
  pub cut : xs ≡ front ++ x ∷ back
  pub left : filter p back ≡ rest

cut_behind : {X : Type 0} (p : X → Bool) (y : X) (xs : List X) (x : X) (rest : List X) → FilterCut p xs x rest → FilterCut p (y ∷ xs) x rest
cut_behind p y xs x rest known = record { front = y ∷ known.front; back = known.back; cut = ap (λ l. y ∷ l) known.cut; left = known.left }

pub filter_cut : {X : Type 0} (p : X → Bool) (xs front : List X) (x : X) (rest : List X) → filter p xs ≡ front ++ x ∷ rest → FilterCut p xs x rest
filter_cut p [] front x rest is = absurd (nothing_cut front x rest is)
filter_cut p (y ∷ xs) front x rest is =
    elim (p y) as (λ b. cond b (y ∷ filter p xs) (filter p xs) ≡ front ++ x ∷ rest → FilterCut p (y ∷ xs) x rest) [
      | true ↦ λ passes. elim front as (λ f. y ∷ filter p xs ≡ f ++ x ∷ rest → FilterCut p (y ∷ xs) x rest) [
        | [] ↦ λ here. record { front = []; back = xs; cut = ap (λ z. z ∷ xs) (cons_head y x (filter p xs) rest here); left = cons_tail y x (filter p xs) rest here }
        | z ∷ zs ↦ λ later. cut_behind p y xs x rest (filter_cut p xs zs x rest (cons_tail y z (filter p xs) (zs ++ x ∷ rest) later))
      ] passes
      | false ↦ λ fails. cut_behind p y xs x rest (filter_cut p xs front x rest fails)
    ] is

-- a list up to its last member
last_cut : {X : Type 0} (xs : List X) (x : X) → last_of xs ≡ Some x → (front : List X) × (xs ≡ front ++ x ∷ [])
last_cut [] x is = absurd (none-some x is)
last_cut (y ∷ []) x is = ([], ap (λ z. z ∷ []) (same_Some y x is))
last_cut (y ∷ z ∷ xs) x is = let known = last_cut (z ∷ xs) x is in (y ∷ known.0, ap (λ l. y ∷ l) known.1)

-- a list is cut at the last one of those in front
pub cut_at_last : {X : Type 0} (most : ℕ) (xs : List X) (x : X) → last_of (take most xs) ≡ Some x → (front : List X) × (xs ≡ front ++ x ∷ drop most xs)
cut_at_last most xs x is =
    let front = last_cut (take most xs) x is in
    (front.0, sym (take-append-drop most xs) ∙ ap (λ l. l ++ drop most xs) front.1 ∙ append_assoc front.0 (x ∷ []) (drop most xs))

-- behind the first that passes
after_yes : {X : Type 0} (p : X → Bool) (x : X) (xs : List X) → p x ≡ true → after_first p (x ∷ xs) ≡ xs
after_yes p x xs passes = rw passes refl

after_no : {X : Type 0} (p : X → Bool) (x : X) (xs : List X) → p x ≡ false → after_first p (x ∷ xs) ≡ after_first p xs
after_no p x xs fails =
    let count : ℕ = position_or_len p xs in
    let more : (1 + count) + 1 ≡ suc (count + 1) = omega arith in
    rw fails (ap (λ n. drop n (x ∷ xs)) more)

pub after_cut : {X : Type 0} (p : X → Bool) (us : List X) (v : X) (ws : List X) → ((u : X) → Member u us → p u ≡ false) → p v ≡ true → after_first p (us ++ v ∷ ws) ≡ ws
after_cut p [] v ws others here = after_yes p v ws here
after_cut p (u ∷ us) v ws others here = after_no p u (us ++ v ∷ ws) (others u (inl refl)) ∙ after_cut p us v ws (λ w is_in. others w (inr is_in)) here

-- a version is under its id, and none before it is
under_itself : {B : Type 0} (v : Version B) → is_under (id_of v) v ≡ true
under_itself v = elim (cases_Bool v.is_null) [
  | inl null ↦ rw null refl
  | inr numbered ↦ rw numbered (eq-eqb v.number v.number refl)
]

other_number : (is_null : Bool) (m n : ℕ) → n < m → (not is_null && m == n) ≡ false
other_number is_null m n fewer = false_from_ne_true (not is_null && m == n) (λ same. let equal : m ≡ n = eqb-true m n (and_parts _ _ same).1 in omega (arith, fewer, equal))

both_null : (first second : Bool) → second ≡ true → not (first && second) ≡ true → first ≡ false
both_null true second null apart = absurd (false≢true (sym (ap not null) ∙ apart))
both_null false second null apart = refl

not_under : {B : Type 0} (u v : Version B) → may_precede u v ≡ true → is_under (id_of v) u ≡ false
not_under u v may =
    let parts = and_parts _ _ may in
    elim (cases_Bool v.is_null) [
      | inl null ↦ rw null (both_null u.is_null v.is_null null parts.1)
      | inr numbered ↦ rw numbered (other_number u.is_null u.number v.number (ltb-true v.number u.number parts.0))
    ]

all_member : {X : Type 0} (p : X → Bool) (xs : List X) (x : X) → list_all p xs ≡ true → Member x xs → p x ≡ true
all_member p [] x all is_in = absurd is_in
all_member p (y ∷ ys) x all (inl is) = ap p is ∙ (and_parts _ _ all).0
all_member p (y ∷ ys) x all (inr in_rest) = all_member p ys x (and_parts _ _ all).1 in_rest

versions_first : {B : Type 0} (u : Version B) (vs : List (Version B)) → are_versions (u ∷ vs) ≡ true → (list_all (may_precede u) vs ≡ true) × (are_versions vs ≡ true)
unfolding are_versions
versions_first u vs valid = and_parts _ _ valid

pub none_before : {B : Type 0} (us : List (Version B)) (v : Version B) (ws : List (Version B)) → are_versions (us ++ v ∷ ws) ≡ true → (u : Version B) → Member u us → is_under (id_of v) u ≡ false
none_before [] v ws valid u is_in = absurd is_in
none_before (w ∷ us) v ws valid u (inl is) =
    subst (λ x. is_under (id_of v) x ≡ false) (sym is) (not_under w v (all_member (may_precede w) (us ++ v ∷ ws) v (versions_first w (us ++ v ∷ ws) valid).0 (member_cut us v ws)))
none_before (w ∷ us) v ws valid u (inr in_rest) = none_before us v ws (versions_first w (us ++ v ∷ ws) valid).1 u in_rest

-- the version that a row is of, and the rows of a key behind it
pub record RowCut {B : Type 0} (key : List ℕ) (vs : List (Version B)) (row : VersionRow) (rest : List VersionRow) : Type 0 where
  pub newer : List (Version B)
  pub here : Version B
  pub older : List (Version B)
  pub cut : vs ≡ newer ++ here ∷ older
  pub id : row.id ≡ id_of here
  pub left : rest ≡ map (version_row key false) older

map_cut : {B : Type 0} (key : List ℕ) (vs : List (Version B)) (front : List VersionRow) (row : VersionRow) (rest : List VersionRow) → map (version_row key false) vs ≡ front ++ row ∷ rest → RowCut key vs row rest
map_cut key [] front row rest is = absurd (nothing_cut front row rest is)
map_cut key (v ∷ vs) [] row rest is = record {
  newer = [];
  here = v;
  older = vs;
  cut = refl;
  id = sym (ap (λ (r : VersionRow). r.id) (cons_head (version_row key false v) row (map (version_row key false) vs) rest is));
  left = sym (cons_tail (version_row key false v) row (map (version_row key false) vs) rest is);
}
map_cut key (v ∷ vs) (f ∷ front) row rest is =
    let known = map_cut key vs front row rest (cons_tail (version_row key false v) f (map (version_row key false) vs) (front ++ row ∷ rest) is) in
    record { newer = v ∷ known.newer; here = known.here; older = known.older; cut = ap (λ l. v ∷ l) known.cut; id = known.id; left = known.left }

under_cut : {B : Type 0} (key : List ℕ) (vs : List (Version B)) (front : List VersionRow) (row : VersionRow) (rest : List VersionRow) → rows_under key vs ≡ front ++ row ∷ rest → RowCut key vs row rest
under_cut key [] front row rest is = absurd (nothing_cut front row rest is)
under_cut key (v ∷ vs) [] row rest is = record {
  newer = [];
  here = v;
  older = vs;
  cut = refl;
  id = sym (ap (λ (r : VersionRow). r.id) (cons_head (version_row key true v) row (map (version_row key false) vs) rest is));
  left = sym (cons_tail (version_row key true v) row (map (version_row key false) vs) rest is);
}
under_cut key (v ∷ vs) (f ∷ front) row rest is =
    let known = map_cut key vs front row rest (cons_tail (version_row key true v) f (map (version_row key false) vs) (front ++ row ∷ rest) is) in
    record { newer = v ∷ known.newer; here = known.here; older = known.older; cut = ap (λ l. v ∷ l) known.cut; id = known.id; left = known.left }

behind_cut : {B : Type 0} (key : List ℕ) (id : VersionId) (vs : List (Version B)) (front : List VersionRow) (row : VersionRow) (rest : List VersionRow)
    → map (version_row key false) (behind_version id vs) ≡ front ++ row ∷ rest → RowCut key vs row rest
behind_cut key id vs front row rest is =
    let count : ℕ = position_or_len (is_under id) vs + 1 in
    let known = map_cut key (behind_version id vs) front row rest is in
    record {
      newer = take count vs ++ known.newer;
      here = known.here;
      older = known.older;
      cut = sym (take-append-drop count vs) ∙ ap (λ l. take count vs ++ l) known.cut ∙ sym (append_assoc (take count vs) known.newer (known.here ∷ known.older));
      id = known.id;
      left = known.left;
    }

either_cut : {B : Type 0} (key : List ℕ) (vs : List (Version B)) (b : Bool) (rows others front : List VersionRow) (row : VersionRow) (rest : List VersionRow)
    → (rows ≡ front ++ row ∷ rest → RowCut key vs row rest) → (others ≡ front ++ row ∷ rest → RowCut key vs row rest) → cond b rows others ≡ front ++ row ∷ rest → RowCut key vs row rest
either_cut key vs true rows others front row rest first second is = first is
either_cut key vs false rows others front row rest first second is = second is

rows_cut : {B : Type 0} (start : VersionStart) (e : Held B) (front : List VersionRow) (row : VersionRow) (rest : List VersionRow) → rows_at start e ≡ front ++ row ∷ rest → RowCut e.0 e.1 row rest
rows_cut (At start) e front row rest is =
    either_cut e.0 e.1 (is_from start e.0) (rows_of e) [] front row rest (under_cut e.0 e.1 front row rest) (λ none. absurd (nothing_cut front row rest none)) is
rows_cut (BehindVersion key id) e front row rest is =
    either_cut e.0 e.1 (bytes_eq e.0 key) _ _ front row rest (behind_cut e.0 id e.1 front row rest)
    (either_cut e.0 e.1 (is_lt (byte_order key e.0)) (rows_of e) [] front row rest (under_cut e.0 e.1 front row rest) (λ none. absurd (nothing_cut front row rest none))) is

-- behind a row of a key stand what is left of its rows
left_of_key : {B : Type 0} (e : Held B) (row : VersionRow) (rest : List VersionRow) → are_versions e.1 ≡ true → row.key ≡ e.0 → RowCut e.0 e.1 row rest → rows_at (BehindVersion row.key row.id) e ≡ rest
left_of_key e row rest valid same known =
    rw ((bytes_decides e.0 row.key).1 (sym same))
    (ap (map (version_row e.0 false))
    (ap (λ id. after_first (is_under id) e.1) known.id ∙ ap (after_first (is_under (id_of known.here))) known.cut
    ∙ after_cut (is_under (id_of known.here)) known.newer known.here known.older
    (none_before known.newer known.here known.older (subst (λ l. are_versions l ≡ true) known.cut valid)) (under_itself known.here))
    ∙ sym known.left)

parts_alike : {X Y : Type 0} (f g : X → List Y) (xs : List X) → ((x : X) → Member x xs → f x ≡ g x) → flat_map f xs ≡ flat_map g xs
parts_alike f g [] alike = refl
parts_alike f g (x ∷ xs) alike = λ i. alike x (inl refl) i ++ parts_alike f g xs (λ y is_in. alike y (inr is_in)) i

-- the rows behind a row, of all keys
module _ {B : Type 0} (key : List ℕ) (id : Option VersionId) where
  first_has_it : (e : Held B) (es : List (Held B)) → Rising key_at (e ∷ es) → are_versions e.1 ≡ true → (front : List VersionRow) (row : VersionRow) (t : List VersionRow) → rows_at (marked key id) e ≡ front ++ row ∷ t
      → flat_map (rows_at (BehindVersion row.key row.id)) (e ∷ es) ≡ t ++ flat_map (rows_at (marked key id)) es
  first_has_it e es up valid front row t is =
      let is_in : Member row (rows_at (marked key id) e) = subst (Member row) (sym is) (member_cut front row t) in
      let same : row.key ≡ e.0 = key-at (marked key id) e row is_in in
      λ i. left_of_key e row t valid same (rows_cut (marked key id) e front row t is) i
      ++ parts_alike (rows_at (BehindVersion row.key row.id)) (rows_at (marked key id)) es (λ later later_in.
      let before : is_before row.key later.0 ≡ true = subst (λ k. is_before k later.0 ≡ true) (sym same) (each_at (Before key_at e) es later up.0 later_in) in
      rows_of_behind row.key (Some row.id) later before
      ∙ sym (rows_of_behind key id later (up_to_before key row.key later.0 (key_from_marker key id e row is_in) before))) i

  pub rows_follow : (es : List (Held B)) → Rising key_at es → ((e : Held B) → Member e es → are_versions e.1 ≡ true) → (front : List VersionRow) (row : VersionRow) (rest : List VersionRow)
      → flat_map (rows_at (marked key id)) es ≡ front ++ row ∷ rest → flat_map (rows_at (BehindVersion row.key row.id)) es ≡ rest
  rows_follow [] up valid front row rest is = absurd (nothing_cut front row rest is)
  rows_follow (e ∷ es) up valid front row rest is = elim (cut_of_both (rows_at (marked key id) e) (flat_map (rows_at (marked key id)) es) front row rest is) [
    | inl (t, here, left) ↦ first_has_it e es up (valid e (inl refl)) front row t here ∙ sym left
    | inr (t, later) ↦
        let from = member-flat_map (rows_at (marked key id)) es row (subst (Member row) (sym later) (member_cut t row rest)) in
        let before : is_before e.0 row.key ≡ true = subst (λ k. is_before e.0 k ≡ true) (sym (key-at (marked key id) from.0 row from.2)) (each_at (Before key_at e) es from.0 up.0 from.1) in
        ap (λ rows. rows ++ flat_map (rows_at (BehindVersion row.key row.id)) es) (rows_of_before row.key (Some row.id) e before)
        ∙ rows_follow es up.1 (λ f is_in. valid f (inr is_in)) t row rest later
  ]

-- in a bucket of a catalogue
pub versions_follow : {B : Type 0} (c : Catalogue B) (name key : List ℕ) (id : Option VersionId) (front : List VersionRow) (row : VersionRow) (rest : List VersionRow) → AreCatalogued c
    → versions_from c name (marked key id) ≡ front ++ row ∷ rest → versions_from c name (BehindVersion row.key row.id) ≡ rest
versions_follow c name key id front row rest valid is =
    rows_follow key id (held_of c name) (rising-held_in (get c name))
    (λ e is_in. subst (λ vs. are_versions vs ≡ true) (versions_of_held (get c name) e is_in) (valid name e.0)) front row rest is
