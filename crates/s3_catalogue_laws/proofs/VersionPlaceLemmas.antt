-- Lists of versions that begin at a place.
use Rattle.std.proofs.Common.{◌≡◌, ◌⊎◌, ◌↔◌, inl, inr, refl, sym, ap, subst, ◌∙◌, Bool, true, false, cond, not, T, IsTrue, ℕ, zero, suc, ◌+◌, ◌<◌, List, [], ◌∷◌, ◌++◌, append_assoc, map, take, drop, find, Contains, flat_map, Option, Some, None, arith}
use Rattle.std.specs.Prelude.{if◌then◌else◌}
use Rattle.std.proofs.lemmas.Bool.{false_from_ne_true}
use Rattle.std.proofs.lemmas.List.{take-append-drop, map-append}
use Rattle.std.proofs.lemmas.List.Elements.{Contains-append_right}
use Rattle.std.proofs.lemmas.Option.{same_Some}
use Rattle.std.specs.Cmp.Lexicographic.{nat_list_cmp_total}
use Rattle.std.specs.FinMap.{get, entries, entries_sorted}
use Rattle.std.specs.FinMap.Entries.{is_sorted, below_all}
use Rattle.std.specs.List.{after_first, position_or_len}
use Rattle.std.specs.Ordering.{is_lt}
use Rattle.std.specs.Str.{bytes_eq}
use Rattle.std.specs.declared.cmp.Ordering.TheVariants.{Less}
use Rattle.s3_text.specs.Order.{byte_order}
use Rattle.s3_names.specs.declared.ids.VersionId.{VersionId}
use Rattle.s3_versions.specs.declared.version.Version.{Version}
use Rattle.s3_versions.specs.Rules.{is_under, current, are_versions}
use Rattle.s3_records.specs.Catalogue.{Bucket, found_versions, versions_at, versions_in}
use Rattle.s3_records.specs.Rows.{Held, held_in, is_from, version_row, rows_under, rows_of, rows_behind, rows_at}
use Rattle.s3_records.specs.declared.rows.Start.{Start}
use Rattle.s3_records.specs.declared.rows.VersionRow.{VersionRow}
use Rattle.s3_records.specs.declared.rows.VersionStart.TheVariants.{At, BehindVersion}
use Rattle.s3_catalogue_laws.specs.ListPlaces.{StandsFrom, IsEndOf, IsOlder, VersionsStandFrom, VersionsStandBehind, VersionsAreEnds}
use Rattle.s3_catalogue_laws.proofs.EntryLemmas.{nothing_held, held_later, map_holds, map_held, flat_holds, flat_held, find_held, held_got, is_true, first_of, second_of, is_less}
use Rattle.s3_catalogue_laws.proofs.PlaceLemmas.{stands_from, stays_from, one_more, same_text, own_text, other_text}
use Rattle.s3_catalogue_laws.proofs.VersionLemmas.{found_own, versions_behind, before_held, is_older, not_below_itself}
use Rattle.s3_catalogue_laws.proofs.VersionRowLemmas.{told, its_row}

-- ---- versions of one key, behind that of an id

next_place : (n : ℕ) → (1 + n) + 1 ≡ suc (n + 1)
next_place n = omega arith

after_cons : {X : Type 0} (p : X → Bool) (x : X) (xs : List X) → after_first p (x ∷ xs) ≡ cond (p x) xs (after_first p xs)
after_cons p x xs =
    elim (p x) as (λ b. drop (cond (not b) (1 + position_or_len p xs) 0 + 1) (x ∷ xs) ≡ cond b xs (after_first p xs)) [
      | true ↦ refl
      | false ↦ ap (λ n. drop n (x ∷ xs)) (next_place (position_or_len p xs))
    ]

-- they are older than it
after_held : {B : Type 0} (id : VersionId) (vs : List (Version B)) (w : Version B) → are_versions vs ≡ true → Contains (after_first (is_under id) vs) w
    → (v : Version B) × (find (is_under id) vs ≡ Some v) × (w.number < v.number) × Contains vs w
after_held {B} id [] w valid held = absurd (nothing_held w held)
after_held {B} id (u ∷ us) w valid held =
    elim (is_under id u) as (λ b. Contains (cond b us (after_first (is_under id) us)) w → (v : Version B) × (cond b (Some u) (find (is_under id) us) ≡ Some v) × (w.number < v.number) × Contains (u ∷ us) w) [
      | true ↦ λ behind. (u, refl, is_older u w (before_held u us w valid behind), held_later w u us behind)
      | false ↦ λ behind.
          let rest = after_held id us w (versions_behind u us valid).1 behind in
          (rest.0, rest.1, rest.2, held_later w u us rest.3)
    ] (subst (λ ws. Contains ws w) (after_cons (is_under id) u us) held)

not_both : (n m : ℕ) → n < m → ¬ (m < n)
not_both n m below above = omega arith

-- and those that are older stand there
later_than : {B : Type 0} (u w : Version B) (us : List (Version B)) → w.number < u.number → Contains (u ∷ us) w → Contains us w
later_than u w us older (zero, within, is) = absurd (not_below_itself u.number (subst (λ v. v.number < u.number) (sym is) older))
later_than u w us older (suc k, within, is) = (k, omega arith, is)

after_holds : {B : Type 0} (id : VersionId) (vs : List (Version B)) (v w : Version B) → are_versions vs ≡ true → find (is_under id) vs ≡ Some v → w.number < v.number → Contains vs w → Contains (after_first (is_under id) vs) w
after_holds id [] v w valid found older held = absurd (nothing_held w held)
after_holds id (u ∷ us) v w valid found older held =
    subst (λ ws. Contains ws w) (sym (after_cons (is_under id) u us))
    (elim (is_under id u) as (λ b. cond b (Some u) (find (is_under id) us) ≡ Some v → Contains (cond b us (after_first (is_under id) us)) w) [
      | true ↦ λ first. later_than u w us (subst (λ x. w.number < x.number) (sym (same_Some u v first)) older) held
      | false ↦ λ later.
          let first_newer = is_older u v (before_held u us v valid (find_held (is_under id) us v later).0) in
          after_holds id us v w (versions_behind u us valid).1 later older (later_than u w us (omega arith) held)
    ] found)

-- the current version is the newest
current_newest : {B : Type 0} (vs : List (Version B)) (v w : Version B) → are_versions vs ≡ true → current vs ≡ Some w → Contains vs v → ¬ (w.number < v.number)
current_newest [] v w valid is held older = nothing_held v held
current_newest (u ∷ us) v w valid is (zero, within, same) older =
    not_below_itself v.number (subst (λ x. x.number < v.number) (sym (same_Some u w is) ∙ same) older)
current_newest (u ∷ us) v w valid is (suc k, within, same) older =
    not_both v.number u.number (is_older u v (before_held u us v valid (k, omega arith, same))) (subst (λ x. x.number < v.number) (sym (same_Some u w is)) older)

-- of two that are there one is older
older_parts : {B : Type 0} (found other : Option (Version B)) → IsOlder found other → (v w : Version B) × (found ≡ Some v) × (other ≡ Some w) × (w.number < v.number)
older_parts (Some v) (Some w) older = (v, w, refl, refl, older)
older_parts (Some v) None older = absurd older
older_parts None other older = absurd older

pub older_from : {B : Type 0} (found other : Option (Version B)) (v w : Version B) → found ≡ Some v → other ≡ Some w → w.number < v.number → IsOlder found other
older_from found other v w is same older =
    subst (λ f. IsOlder f other) (sym is) (subst (λ f. IsOlder (Some v) f) (sym same) older)

-- ---- the rows of one key

-- a row is of its key
pub row_key : {B : Type 0} (key : List ℕ) (vs : List (Version B)) (row : VersionRow) → Contains (rows_under key vs) row → row.key ≡ key
row_key key [] row held = absurd (nothing_held row held)
row_key key (v ∷ vs) row (zero, within, is) = ap (λ r. r.key) (sym is)
row_key key (v ∷ vs) row (suc k, within, is) = ap (λ r. r.key) (sym (map_held (version_row key false) vs row (k, omega arith, is)).2)

-- those behind a version are an end of them
dropped_end : {X Y : Type 0} (f : X → Y) (n : ℕ) (xs : List X) → IsEndOf (map f xs) (map f (drop n xs))
dropped_end f n xs = (map f (take n xs), sym (ap (map f) (take-append-drop n xs)) ∙ map-append f (take n xs) (drop n xs))

behind_end : {B : Type 0} (key : List ℕ) (id : VersionId) (vs : List (Version B)) → IsEndOf (rows_under key vs) (map (version_row key false) (after_first (is_under id) vs))
behind_end key id [] = ([], refl)
behind_end key id (u ∷ us) =
    subst (λ ws. IsEndOf (rows_under key (u ∷ us)) (map (version_row key false) ws)) (sym (after_cons (is_under id) u us))
    (elim (is_under id u) as (λ b. IsEndOf (version_row key true u ∷ map (version_row key false) us) (map (version_row key false) (cond b us (after_first (is_under id) us)))) [
      | true ↦ (version_row key true u ∷ [], refl)
      | false ↦ one_more (version_row key true u) (map (version_row key false) us) _ (dropped_end (version_row key false) (position_or_len (is_under id) us + 1) us)
    ])

end_held : {X : Type 0} (whole rest : List X) (x : X) → IsEndOf whole rest → Contains rest x → Contains whole x
end_held whole rest x end held = subst (λ xs. Contains xs x) (sym end.1) (Contains-append_right end.0 rest x held)

-- the key of some versions stands behind a place, or it is the key of the place, and the version of a row is older than the one there
abbrev Passed : {B : Type 0} → List ℕ → VersionId → Held B → VersionRow → Type 0
Passed key id e row = (byte_order key e.0 ≡ Less) ⊎ ((e.0 ≡ key) × IsOlder (find (is_under id) e.1) (find (is_under row.id) e.1))

at_behind : {B : Type 0} (key : List ℕ) (id : VersionId) (e : Held B) (row : VersionRow) → are_versions e.1 ≡ true → Contains (rows_at (BehindVersion key id) e) row → Contains (rows_of e) row × Passed key id e row
at_behind key id e row valid held =
    elim (bytes_eq e.0 key) as (λ b. bytes_eq e.0 key ≡ b → Contains (if b then rows_behind id e else (if is_lt (byte_order key e.0) then rows_of e else [])) row → Contains (rows_of e) row × Passed key id e row) [
      | true ↦ λ same behind.
          let one = map_held (version_row e.0 false) (after_first (is_under id) e.1) row behind in
          let after = after_held id e.1 one.0 valid one.1 in
          let found = ap (λ r. find (is_under r.id) e.1) (sym one.2) ∙ found_own e.1 one.0 valid after.3 in
          (end_held (rows_of e) (rows_behind id e) row (behind_end e.0 id e.1) behind, inr (same_text e.0 key same, older_from _ _ after.0 one.0 after.1 found after.2))
      | false ↦ λ apart.
          elim (is_lt (byte_order key e.0)) as (λ b. is_lt (byte_order key e.0) ≡ b → Contains (if b then rows_of e else []) row → Contains (rows_of e) row × Passed key id e row) [
            | true ↦ λ less all. (all, inl (is_less (byte_order key e.0) less))
            | false ↦ λ other none. absurd (nothing_held row none)
          ] refl
    ] refl held

-- the rows of a higher key, and those of the key itself
all_of_higher : {B : Type 0} (key : List ℕ) (id : VersionId) (e : Held B) → byte_order key e.0 ≡ Less → rows_at (BehindVersion key id) e ≡ rows_of e
all_of_higher key id e less =
    ap (λ b. if b then rows_behind id e else (if is_lt (byte_order key e.0) then rows_of e else [])) (other_text key e.0 less)
    ∙ ap (λ b. if b then rows_of e else []) (ap is_lt less)

behind_of_same : {B : Type 0} (key : List ℕ) (id : VersionId) (e : Held B) → e.0 ≡ key → rows_at (BehindVersion key id) e ≡ rows_behind id e
behind_of_same key id e same = ap (λ b. if b then rows_behind id e else (if is_lt (byte_order key e.0) then rows_of e else [])) (own_text e.0 key same)

behind_at : {B : Type 0} (key : List ℕ) (id : VersionId) (e : Held B) (row : VersionRow) → are_versions e.1 ≡ true → Contains (rows_of e) row → Passed key id e row → Contains (rows_at (BehindVersion key id) e) row
behind_at key id e row valid held (inl less) = subst (λ rows. Contains rows row) (sym (all_of_higher key id e less)) held
behind_at key id e row valid held (inr same) =
    let tells = told e.0 e.1 row valid held in
    let u = tells.1.0 in
    let parts = older_parts (find (is_under id) e.1) (find (is_under row.id) e.1) same.1 in
    let older = subst (λ x. x.number < parts.0.number) (same_Some parts.1 u (sym parts.3 ∙ tells.1.1.place)) parts.4 in
    let later = after_holds id e.1 parts.0 u valid parts.2 older (find_held (is_under row.id) e.1 u tells.1.1.place).0 in
    let old : row.is_latest ≡ false =
    false_from_ne_true row.is_latest (λ latest. current_newest e.1 parts.0 u valid (tells.1.1.latest.0 latest) (find_held (is_under id) e.1 parts.0 parts.2).0 older) in
    subst (λ rows. Contains rows row) (sym (behind_of_same key id e same.0))
    (subst (Contains (map (version_row e.0 false) (after_first (is_under id) e.1))) (its_row e.0 false u row tells.0 old tells.1.1.id tells.1.1.moment tells.1.1.facts)
    (map_holds (version_row e.0 false) (after_first (is_under id) e.1) u later))

-- ---- the rows of a bucket

-- a place among the rows of a bucket that is there
abbrev pub StandsIn : {B : Type 0} → Option (Bucket B) → List ℕ → VersionId → VersionRow → Type 0
StandsIn found key id row =
    (byte_order key row.key ≡ Less) ⊎ ((row.key ≡ key) × IsOlder (find (is_under id) (versions_in found key)) (find (is_under row.id) (versions_in found key)))

pub valid_at : {B : Type 0} (b : Bucket B) → ((key : List ℕ) → IsTrue (are_versions (versions_at b.keys key))) → (e : Held B) → Contains (entries b.keys) e → (versions_at b.keys e.0 ≡ e.1) × (are_versions e.1 ≡ true)
valid_at b valid e held =
    let there : versions_at b.keys e.0 ≡ e.1 = ap found_versions (held_got b.keys e.0 e.1 held) in
    (there, subst (λ vs. are_versions vs ≡ true) there (valid e.0))

passed_stands : {B : Type 0} (b : Bucket B) (key : List ℕ) (id : VersionId) (e : Held B) (row : VersionRow) → versions_at b.keys e.0 ≡ e.1 → row.key ≡ e.0 → Passed key id e row → StandsIn (Some b) key id row
passed_stands b key id e row there same (inl less) = inl (ap (byte_order key) same ∙ less)
passed_stands b key id e row there same (inr older) =
    inr (same ∙ older.0, subst (λ vs. IsOlder (find (is_under id) vs) (find (is_under row.id) vs)) (sym (ap (versions_at b.keys) (sym older.0) ∙ there)) older.1)

stands_passed : {B : Type 0} (b : Bucket B) (key : List ℕ) (id : VersionId) (e : Held B) (row : VersionRow) → versions_at b.keys e.0 ≡ e.1 → row.key ≡ e.0 → StandsIn (Some b) key id row → Passed key id e row
stands_passed b key id e row there same (inl less) = inl (ap (byte_order key) (sym same) ∙ less)
stands_passed b key id e row there same (inr older) =
    let here : e.0 ≡ key = sym same ∙ older.0 in
    inr (here, subst (λ vs. IsOlder (find (is_under id) vs) (find (is_under row.id) vs)) (ap (versions_at b.keys) (sym here) ∙ there) older.1)

stand_in : {B : Type 0} (found : Option (Bucket B)) (key : List ℕ) (id : VersionId) (row : VersionRow) → ((k : List ℕ) → IsTrue (are_versions (versions_in found k)))
    → Contains (flat_map (rows_at (BehindVersion key id)) (held_in found)) row ↔ (Contains (flat_map rows_of (held_in found)) row × StandsIn found key id row)
stand_in None key id row valid = (λ held. absurd (nothing_held row held), λ both. absurd (nothing_held row both.0))
stand_in (Some b) key id row valid = (
  λ held.
      let of = flat_held (rows_at (BehindVersion key id)) (entries b.keys) row held in
      let e = of.0 in
      let at = valid_at b valid e of.1 in
      let both = at_behind key id e row at.1 of.2 in
      (flat_holds rows_of (entries b.keys) e row of.1 both.0, passed_stands b key id e row at.0 (row_key e.0 e.1 row both.0) both.1),
  λ both.
      let of = flat_held rows_of (entries b.keys) row both.0 in
      let e = of.0 in
      let at = valid_at b valid e of.1 in
      flat_holds (rows_at (BehindVersion key id)) (entries b.keys) e row of.1
      (behind_at key id e row at.1 of.2 (stands_passed b key id e row at.0 (row_key e.0 e.1 row of.2) both.1)),
)

pub versions_stand_behind : {B : Type 0} → VersionsStandBehind B
versions_stand_behind c name key id row orderly = stand_in (get c name) key id row (orderly.versions name)

-- from a key on
at_start : {B : Type 0} (start : Start) (e : Held B) (row : VersionRow) → Contains (rows_at (At start) e) row → Contains (rows_of e) row × (is_from start e.0 ≡ true)
at_start start e row held =
    elim (is_from start e.0) as (λ b. is_from start e.0 ≡ b → Contains (if b then rows_of e else []) row → Contains (rows_of e) row × (is_from start e.0 ≡ true)) [
      | true ↦ λ is all. (all, is)
      | false ↦ λ is none. absurd (nothing_held row none)
    ] refl held

start_at : {B : Type 0} (start : Start) (e : Held B) → is_from start e.0 ≡ true → rows_at (At start) e ≡ rows_of e
start_at start e is = ap (λ b. if b then rows_of e else []) is

pub versions_stand_from : {B : Type 0} → VersionsStandFrom B
versions_stand_from c name start row =
    let es = held_in (get c name) in (
      λ held.
          let of = flat_held (rows_at (At start)) es row held in
          let e = of.0 in
          let both = at_start start e row of.2 in
          (flat_holds rows_of es e row of.1 both.0, subst (StandsFrom start) (sym (row_key e.0 e.1 row both.0)) ((stands_from start e.0).0 both.1)),
      λ both.
          let of = flat_held rows_of es row both.0 in
          let e = of.0 in
          let is = (stands_from start e.0).1 (subst (StandsFrom start) (row_key e.0 e.1 row of.2) both.1) in
          flat_holds (rows_at (At start)) es e row of.1 (subst (λ rows. Contains rows row) (sym (start_at start e is)) of.2),
    )

-- ---- ends

-- what is told of some entries is an end of all, where of each nothing is told, or an end, and then all of those of higher keys
module _ {B : Type 0} {R : Type 0} (whole told_of : Held B → List R) where
  abbrev Above : List ℕ → Type 0
  Above key = (q : Held B) → byte_order key q.0 ≡ Less → told_of q ≡ whole q

  abbrev IsCut : Held B → Type 0
  IsCut e = (IsEndOf (whole e) (told_of e) × Above e.0) ⊎ (told_of e ≡ [])

  all_told : (key : List ℕ) → Above key → (es : List (Held B)) → T (below_all byte_order key es) → flat_map told_of es ≡ flat_map whole es
  all_told key above [] below = refl
  all_told key above (e ∷ es) below =
      let less = is_less (byte_order key e.0) (is_true _ (first_of _ (below_all byte_order key es) below)) in
      ap (λ rows. rows ++ flat_map told_of es) (above e less)
      ∙ ap (λ rows. whole e ++ rows) (all_told key above es (second_of (is_lt (byte_order key e.0)) _ below))

  cut_end : ((e : Held B) → IsCut e) → (es : List (Held B)) → T (is_sorted byte_order es) → IsEndOf (flat_map whole es) (flat_map told_of es)
  cut_end cut [] sorted = ([], refl)
  cut_end cut (e ∷ es) sorted =
      elim (cut e) [
        | inl some ↦
            let all = all_told e.0 some.1 es (first_of (below_all byte_order e.0 es) _ sorted) in (
              some.0.0,
              ap (λ rows. rows ++ flat_map whole es) some.0.1 ∙ append_assoc some.0.0 (told_of e) (flat_map whole es)
                  ∙ ap (λ rows. some.0.0 ++ (told_of e ++ rows)) (sym all),
            )
        | inr none ↦
            let rest = cut_end cut es (second_of (below_all byte_order e.0 es) _ sorted) in (
              whole e ++ rest.0,
              ap (λ rows. whole e ++ rows) rest.1 ∙ sym (append_assoc (whole e) rest.0 (flat_map told_of es))
                  ∙ ap (λ rows. (whole e ++ rest.0) ++ (rows ++ flat_map told_of es)) (sym none),
            )
      ]

  pub ends_in : ((e : Held B) → IsCut e) → (found : Option (Bucket B)) → IsEndOf (flat_map whole (held_in found)) (flat_map told_of (held_in found))
  ends_in cut None = ([], refl)
  ends_in cut (Some b) = cut_end cut (entries b.keys) (entries_sorted b.keys)

-- each place cuts so
cut_from : {B : Type 0} (start : Start) (e : Held B) → IsCut rows_of (rows_at (At start)) e
cut_from start e =
    elim (is_from start e.0) as (λ b. is_from start e.0 ≡ b → IsCut rows_of (rows_at (At start)) e) [
      | true ↦ λ is. inl (([], sym (start_at start e is)), λ q less. start_at start q (stays_from start e.0 q.0 is less))
      | false ↦ λ is. inr (ap (λ b. if b then rows_of e else []) is)
    ] refl

cut_behind : {B : Type 0} (key : List ℕ) (id : VersionId) (e : Held B) → IsCut rows_of (rows_at (BehindVersion key id)) e
cut_behind key id e =
    elim (bytes_eq e.0 key) as (λ b. bytes_eq e.0 key ≡ b → IsCut rows_of (rows_at (BehindVersion key id)) e) [
      | true ↦ λ is.
          let same = same_text e.0 key is in
          inl (subst (IsEndOf (rows_of e)) (sym (behind_of_same key id e same)) (behind_end e.0 id e.1), λ q less. all_of_higher key id q (ap (λ k. byte_order k q.0) (sym same) ∙ less))
      | false ↦ λ apart.
          elim (is_lt (byte_order key e.0)) as (λ b. is_lt (byte_order key e.0) ≡ b → IsCut rows_of (rows_at (BehindVersion key id)) e) [
            | true ↦ λ is.
                let less = is_less (byte_order key e.0) is in
                inl (([], sym (all_of_higher key id e less)), λ q above. all_of_higher key id q (nat_list_cmp_total.trans key e.0 q.0 less above))
            | false ↦ λ is.
                inr (ap (λ b. if b then rows_behind id e else (if is_lt (byte_order key e.0) then rows_of e else [])) apart ∙ ap (λ b. if b then rows_of e else []) is)
          ] refl
    ] refl

pub versions_are_ends : {B : Type 0} → VersionsAreEnds B
versions_are_ends c name (At start) = ends_in rows_of (rows_at (At start)) (cut_from start) (get c name)
versions_are_ends c name (BehindVersion key id) = ends_in rows_of (rows_at (BehindVersion key id)) (cut_behind key id) (get c name)
