-- The rows of the versions of a bucket stand by key.
use Rattle.std.proofs.Common.{◌≡◌, inl, inr, refl, sym, ap, subst, ◌∙◌, Bool, true, false, cond, ℕ, List, [], ◌∷◌, filter, Option, Some, None, if◌then◌else◌}
use Rattle.std.specs.List.{flat_map}
use Rattle.std.specs.Ordering.{is_lt}
use Rattle.std.specs.Str.{bytes_eq}
use Rattle.std.specs.Cmp.Lexicographic.{bytes_decides}
use Rattle.std.specs.FinMap.{get}
use Rattle.std.proofs.lemmas.Bool.{cases_Bool, false_from_ne_true}
use Rattle.s3_text.specs.Order.{byte_order}
use Rattle.s3_names.specs.declared.ids.VersionId.{VersionId}
use Rattle.s3_versions.specs.declared.version.Version.{Version}
use Rattle.s3_records.specs.Catalogue.{Catalogue}
use Rattle.s3_records.specs.Rows.{Held, held_of, is_from, version_row, rows_under, rows_of, version_rows, behind_version, rows_behind, rows_at, versions_from}
use Rattle.s3_records.specs.declared.rows.Start.{Start}
use Rattle.s3_records.specs.declared.rows.Start.TheVariants.{First}
use Rattle.s3_records.specs.declared.rows.VersionRow.{VersionRow}
use Rattle.s3_records.specs.declared.rows.VersionStart.{VersionStart}
use Rattle.s3_records.specs.declared.rows.VersionStart.TheVariants.{At, BehindVersion}
use Rattle.s3_prefixes.specs.Items.{is_before}
use Rattle.s3_listings.specs.Sought.{Paired, UpTo, AreByKey, AreBehind, is_later, rows_from}
use Rattle.s3_listings.specs.Versions.{marked}
use Rattle.s3_listings.proofs.FilterLemmas.{filter_none, filter_all, filter_parts, member_of_either, member-flat_map, member_of_flat_map, paired-flat_map}
use Rattle.s3_listings.proofs.HeldLemmas.{key_at, rising-held_in}
use Rattle.s3_listings.proofs.MemberLemmas.{Member, Before, Rising, each_from, member-map, member_from_contains, contains_from_member}
use Rattle.s3_listings.proofs.OrderLemmas.{not_before_itself, not_back, same_not_before}

-- the key of a row
abbrev pub key_of : VersionRow → List ℕ
key_of row = row.key

-- the rows of a key have that key
key-under : {B : Type 0} (key : List ℕ) (vs : List (Version B)) (row : VersionRow) → Member row (rows_under key vs) → row.key ≡ key
key-under key [] row is_in = absurd is_in
key-under key (v ∷ vs) row (inl is) = ap (λ (r : VersionRow). r.key) is
key-under key (v ∷ vs) row (inr later) = let from = member-map (version_row key false) vs row later in ap (λ (r : VersionRow). r.key) from.2

key-behind : {B : Type 0} (id : VersionId) (e : Held B) (row : VersionRow) → Member row (rows_behind id e) → row.key ≡ e.0
key-behind id e row is_in = let from = member-map (version_row e.0 false) (behind_version id e.1) row is_in in ap (λ (r : VersionRow). r.key) from.2

pub key-at : {B : Type 0} (start : VersionStart) (e : Held B) (row : VersionRow) → Member row (rows_at start e) → row.key ≡ e.0
key-at (At start) e row is_in = elim (member_of_either (is_from start e.0) (rows_of e) [] row is_in) [
  | inl here ↦ key-under e.0 e.1 row here
  | inr none ↦ absurd none
]
key-at (BehindVersion key id) e row is_in = elim (member_of_either (bytes_eq e.0 key) (rows_behind id e) (if is_lt (byte_order key e.0) then rows_of e else []) row is_in) [
  | inl here ↦ key-behind id e row here
  | inr later ↦ elim (member_of_either (is_lt (byte_order key e.0)) (rows_of e) [] row later) [
    | inl all ↦ key-under e.0 e.1 row all
    | inr none ↦ absurd none
  ]
]

-- rows of one key
paired_same : (key : List ℕ) (rows : List VersionRow) → ((row : VersionRow) → Member row rows → row.key ≡ key) → Paired (UpTo key_of) rows
paired_same key [] same = tt
paired_same key (row ∷ rows) same = (
  each_from (UpTo key_of row) rows (λ later is_in. same_not_before later.key row.key (same later (inr is_in) ∙ sym (same row (inl refl)))),
  paired_same key rows (λ later is_in. same later (inr is_in)),
)

-- what a place answers at a key behind it, and before it
pub rows_of_behind : {B : Type 0} (key : List ℕ) (id : Option VersionId) (e : Held B) → is_before key e.0 ≡ true → rows_at (marked key id) e ≡ rows_of e
rows_of_behind key None e before = rw before refl
rows_of_behind key (Some id) e before =
    rw (false_from_ne_true (bytes_eq e.0 key) (λ same. not_before_itself key (subst (λ k. is_before key k ≡ true) ((bytes_decides e.0 key).0 same) before)), before) refl

pub rows_of_before : {B : Type 0} (key : List ℕ) (id : Option VersionId) (e : Held B) → is_before e.0 key ≡ true → rows_at (marked key id) e ≡ []
rows_of_before key None e before = rw (not_back e.0 key before) refl
rows_of_before key (Some id) e before =
    rw (false_from_ne_true (bytes_eq e.0 key) (λ same. not_before_itself key (subst (λ k. is_before k key ≡ true) ((bytes_decides e.0 key).0 same) before)), not_back e.0 key before) refl

-- the rows of a place have keys from its marker on
pub key_from_marker : {B : Type 0} (key : List ℕ) (id : Option VersionId) (e : Held B) (row : VersionRow) → Member row (rows_at (marked key id) e) → is_before row.key key ≡ false
key_from_marker key id e row is_in =
    false_from_ne_true (is_before row.key key) (λ before.
    subst (Member row) (rows_of_before key id e (subst (λ k. is_before k key ≡ true) (key-at (marked key id) e row is_in) before)) is_in)

-- where a place has a row of a key, the key has one
neither : (b : Bool) (rows : List VersionRow) → rows ≡ [] → cond b [] rows ≡ []
neither true rows is = refl
neither false rows is = is

nothing_at : (B : Type 0) (key : List ℕ) (start : VersionStart) → rows_at {B = B} start (key, []) ≡ []
nothing_at B key (At start) = neither (is_from start key) [] refl
nothing_at B key (BehindVersion marker id) = neither (bytes_eq key marker) _ (neither (is_lt (byte_order marker key)) [] refl)

some_under : {B : Type 0} (key : List ℕ) (vs : List (Version B)) (start : VersionStart) (row : VersionRow) → Member row (rows_at start (key, vs))
    → (other : VersionRow) × Member other (rows_under key vs) × (other.key ≡ key)
some_under {B} key [] start row is_in = absurd (subst (Member row) (nothing_at B key start) is_in)
some_under key (v ∷ vs) start row is_in = (version_row key true v, inl refl, refl)

-- the rows of a bucket, by the entries of its keys
module _ {B : Type 0} (es : List (Held B)) (up : Rising key_at es) where
  pub rows_up : (start : VersionStart) → Paired (UpTo key_of) (flat_map (rows_at start) es)
  rows_up start = paired-flat_map (Before key_at) (UpTo key_of) (rows_at start) es
      (λ e. paired_same e.0 (rows_at start e) (key-at start e))
      (λ e f row later before row_in later_in. not_back row.key later.key
      (subst (λ k. is_before k later.key ≡ true) (sym (key-at start e row row_in)) (subst (λ k. is_before e.0 k ≡ true) (sym (key-at start f later later_in)) before)))
      up

  -- the rows from a place on are those whose keys are
  at_key : (start : Start) (e : Held B) → filter (λ row. is_from start row.key) (rows_of e) ≡ rows_at (At start) e
  at_key start e = elim (cases_Bool (is_from start e.0)) [
    | inl from ↦ rw from (filter_all (λ row. is_from start row.key) (rows_of e) (λ row is_in. ap (is_from start) (key-under e.0 e.1 row is_in) ∙ from))
    | inr sooner ↦ rw sooner (filter_none (λ row. is_from start row.key) (rows_of e) (λ row is_in. ap (is_from start) (key-under e.0 e.1 row is_in) ∙ sooner))
  ]

  pub at_start : (start : Start) → flat_map (rows_at (At start)) es ≡ filter (λ row. is_from start row.key) (flat_map rows_of es)
  at_start start =
      sym (filter_all (λ row. true) (flat_map (rows_at (At start)) es) (λ row is_in. refl))
      ∙ filter_parts (λ row. true) (λ row. is_from start row.key) (rows_at (At start)) rows_of es
      (λ e is_in. filter_all (λ row. true) (rows_at (At start) e) (λ row in_rows. refl) ∙ sym (at_key start e))

  -- those behind a marker have all later keys
  later_at : (key : List ℕ) (id : Option VersionId) (e : Held B) → filter (is_later key_of key) (rows_at (marked key id) e) ≡ filter (is_later key_of key) (rows_of e)
  later_at key id e = elim (cases_Bool (is_before key e.0)) [
    | inl before ↦ ap (filter (is_later key_of key)) (rows_of_behind key id e before)
    | inr up_to ↦ filter_none (is_later key_of key) (rows_at (marked key id) e) (λ row is_in. ap (is_before key) (key-at (marked key id) e row is_in) ∙ up_to)
        ∙ sym (filter_none (is_later key_of key) (rows_of e) (λ row is_in. ap (is_before key) (key-under e.0 e.1 row is_in) ∙ up_to))
  ]

  -- and no other keys than there are
  known_key : (start : VersionStart) (row : VersionRow) → Member row (flat_map (rows_at start) es) → (other : VersionRow) × Member other (flat_map rows_of es) × (other.key ≡ row.key)
  known_key start row is_in =
      let from = member-flat_map (rows_at start) es row is_in in
      let some = some_under from.0.0 from.0.1 start row from.2 in
      (some.0, member_of_flat_map rows_of es from.0 some.0 from.1 some.1, some.2 ∙ sym (key-at start from.0 row from.2))

  pub stand_behind : (key : List ℕ) (id : Option VersionId) → AreBehind key_of key (flat_map rows_of es) (flat_map (rows_at (marked key id)) es)
  stand_behind key id = record {
    order = rows_up (marked key id);
    later = filter_parts (is_later key_of key) (is_later key_of key) (rows_at (marked key id)) rows_of es (λ e is_in. later_at key id e);
    none_before = λ row is_in.
        let from = member-flat_map (rows_at (marked key id)) es row (member_from_contains _ row is_in) in
        key_from_marker key id from.0 row from.2;
    known = λ row is_in.
        let some = known_key (marked key id) row (member_from_contains _ row is_in) in
        (some.0, contains_from_member _ some.0 some.1, some.2);
  }

-- the rows of a bucket of a catalogue, for the law of `VersionRow`
pub by_key : {B : Type 0} (c : Catalogue B) (name : List ℕ) → AreByKey key_of (version_rows c name)
by_key c name = rows_up (held_of c name) (rising-held_in (get c name)) (At First)

pub behind_marker : {B : Type 0} (c : Catalogue B) (name key : List ℕ) (id : Option VersionId) → AreBehind key_of key (version_rows c name) (versions_from c name (marked key id))
behind_marker c name key id = stand_behind (held_of c name) (rising-held_in (get c name)) key id

pub from_place : {B : Type 0} (c : Catalogue B) (name : List ℕ) (start : Start) → versions_from c name (At start) ≡ rows_from key_of start (version_rows c name)
from_place c name start = at_start (held_of c name) (rising-held_in (get c name)) start
