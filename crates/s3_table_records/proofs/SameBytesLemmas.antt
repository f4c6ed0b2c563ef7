-- The catalogue rests on the bytes under the numbers that rows name, and on no others.
use Rattle.std.proofs.Common.{◌≡◌, refl, ap, ◌∙◌, ℕ, ℤ, ◌<◌, cond, true, false, List, [], ◌∷◌, ◌++◌, map, filter, Ordering, unsigned_abs, arith}
use Rattle.std.specs.FinMap.{from_entries, entries}
use Rattle.std.specs.List.{AllByRecursion, flat_map}
use Rattle.std.specs.Ordering.{nat_cmp, is_gt}
use Rattle.sqlite_keyed.specs.Lists.{sort_by, insert_sorted}
use Rattle.sqlite_keyed.proofs.ListLemmas.{all-filter, map_same}
use Rattle.s3_stored_bodies.specs.Numbers.{Contents, bytes_under, times}
use Rattle.s3_stored_bodies.proofs.NumberLemmas.{times-append}
use Rattle.s3_rows.specs.Columns.{VersionColumns, PartColumns, UploadColumns, Tables}
use Rattle.s3_rows.specs.Finding.{is_in, is_at, newest_first, is_upload_in, is_upload_to, is_sent_to}
use Rattle.s3_rows.specs.Meaning.{version_of, rows_at, versions_under, keys_in, part_of, parts_of, upload_of, uploads_to, uploads_in, bucket_of, catalogue_of}
use Rattle.s3_stored_rows.specs.Bodies.{bytes_in, encoding, version_numbers, part_numbers, numbers_named}

-- functions that agree on the members of a list
map_agrees : {X Y : Type 0} (f g : X → Y) (xs : List X) → AllByRecursion (λ x. f x ≡ g x) xs → map f xs ≡ map g xs
map_agrees f g [] same = refl
map_agrees f g (x ∷ xs) same = ap (λ y. y ∷ map f xs) same.0 ∙ ap (λ ys. g x ∷ ys) (map_agrees f g xs same.1)

all_inserted : {X : Type 0} (P : X → Type 0) (cmp : X → X → Ordering) (x : X) (xs : List X) → P x → AllByRecursion P xs → AllByRecursion P (insert_sorted cmp x xs)
all_inserted P cmp x [] here all = (here, all)
all_inserted P cmp x (y ∷ ys) here all =
    elim (is_gt (cmp x y)) as (λ b. AllByRecursion P (cond b (y ∷ insert_sorted cmp x ys) (x ∷ y ∷ ys))) [ true ↦ (all.0, all_inserted P cmp x ys here all.1) | false ↦ (here, all) ]

pub all_sorted : {X : Type 0} (P : X → Type 0) (cmp : X → X → Ordering) (xs : List X) → AllByRecursion P xs → AllByRecursion P (sort_by cmp xs)
all_sorted P cmp [] all = all
all_sorted P cmp (x ∷ xs) all = all_inserted P cmp x (sort_by cmp xs) all.0 (all_sorted P cmp xs all.1)

-- what holds of each number that stands in a list holds of all of them
pub all_standing : (P : ℕ → Type 0) (xs : List ℕ) → ((n : ℕ) → 0 < times n xs → P n) → AllByRecursion P xs
all_standing P [] each = cc
all_standing P (x ∷ xs) each =
    (each x (omega (arith, times-append x (x ∷ []) xs, here)), all_standing P xs (λ n is. each n (omega (arith, times-append n (x ∷ []) xs))))
  where
    here : times x (x ∷ []) ≡ 1
    here = grind arith

-- and in several lists, one behind another
pub all_split : (P : ℕ → Type 0) (xs ys : List ℕ) → AllByRecursion P (xs ++ ys) → AllByRecursion P xs × AllByRecursion P ys
all_split P [] ys all = (cc, all)
all_split P (x ∷ xs) ys all = let more = all_split P xs ys all.1 in ((all.0, more.0), more.1)

pub all_in_each : {X : Type 0} (P : ℕ → Type 0) (f : X → List ℕ) (xs : List X) → AllByRecursion P (flat_map f xs) → AllByRecursion (λ x. AllByRecursion P (f x)) xs
all_in_each P f [] all = cc
all_in_each P f (x ∷ xs) all = let both = all_split P (f x) (flat_map f xs) all in (both.0, all_in_each P f xs both.1)

module _ (c d : Contents) where
  -- the same bytes stand under a number
  abbrev pub IsSame : ℕ → Type 0
  IsSame n = bytes_under d n ≡ bytes_under c n

  bytes_agree : (numbers : List ℕ) → AllByRecursion IsSame numbers → flat_map (bytes_under d) numbers ≡ flat_map (bytes_under c) numbers
  bytes_agree [] same = refl
  bytes_agree (n ∷ ns) same = ap (λ bytes. bytes ++ flat_map (bytes_under d) ns) same.0 ∙ ap (λ bytes. bytes_under c n ++ bytes) (bytes_agree ns same.1)

  -- a row of a version, and one of a part, has the same bytes
  abbrev SameVersion : VersionColumns → Type 0
  SameVersion v = bytes_in d v.bodies ≡ bytes_in c v.bodies

  abbrev SamePart : PartColumns → Type 0
  SamePart p = bytes_in d p.bodies ≡ bytes_in c p.bodies

  versions_agree : (vs : List VersionColumns) → AllByRecursion (λ v. AllByRecursion IsSame (version_numbers v)) vs → AllByRecursion SameVersion vs
  unfolding bytes_in
  versions_agree [] all = cc
  versions_agree (v ∷ vs) all = (bytes_agree (version_numbers v) all.0, versions_agree vs all.1)

  parts_agree : (ps : List PartColumns) → AllByRecursion (λ p. AllByRecursion IsSame (part_numbers p)) ps → AllByRecursion SamePart ps
  unfolding bytes_in
  parts_agree [] all = cc
  parts_agree (p ∷ ps) all = (bytes_agree (part_numbers p) all.0, parts_agree ps all.1)

  version_agrees : (v : VersionColumns) → SameVersion v → version_of (encoding d) v ≡ version_of (encoding c) v
  version_agrees v same = rw same refl

  part_agrees : (p : PartColumns) → SamePart p → part_of (encoding d) p ≡ part_of (encoding c) p
  part_agrees p same = rw same refl

  all_agree : {X : Type 0} (P Q : X → Type 0) → ((x : X) → P x → Q x) → (xs : List X) → AllByRecursion P xs → AllByRecursion Q xs
  all_agree P Q weaker [] all = cc
  all_agree P Q weaker (x ∷ xs) all = (weaker x all.0, all_agree P Q weaker xs all.1)

  module _ (vs : List VersionColumns) (all : AllByRecursion SameVersion vs) where
    under_agree : (bucket key : List ℕ) → versions_under (encoding d) vs bucket key ≡ versions_under (encoding c) vs bucket key
    unfolding versions_under
    under_agree bucket key =
        map_agrees (version_of (encoding d)) (version_of (encoding c)) (rows_at (encoding c) vs bucket key)
        (all_sorted _ newest_first (filter (is_at bucket key) vs) (all-filter _ (is_at bucket key) vs (all_agree SameVersion (λ v. version_of (encoding d) v ≡ version_of (encoding c) v) version_agrees vs all)))

    keys_agree : (bucket : List ℕ) → keys_in (encoding d) vs bucket ≡ keys_in (encoding c) vs bucket
    unfolding keys_in
    keys_agree bucket =
        ap from_entries (map_same (λ v. (v.key, versions_under (encoding d) vs bucket v.key)) (λ v. (v.key, versions_under (encoding c) vs bucket v.key)) (λ v. ap (λ under. (v.key, under)) (under_agree bucket v.key)) (filter (is_in bucket) vs))

  module _ (ps : List PartColumns) (all : AllByRecursion SamePart ps) where
    sent_agree : (upload : ℤ) → parts_of (encoding d) ps upload ≡ parts_of (encoding c) ps upload
    unfolding parts_of
    sent_agree upload =
        ap (λ es. entries (from_entries {R = nat_cmp} es))
        (map_agrees (λ p. (unsigned_abs p.part, part_of (encoding d) p)) (λ p. (unsigned_abs p.part, part_of (encoding c) p)) (filter (is_sent_to upload) ps)
        (all-filter _ (is_sent_to upload) ps
        (all_agree SamePart (λ p. (unsigned_abs p.part, part_of (encoding d) p) ≡ (unsigned_abs p.part, part_of (encoding c) p)) (λ p same. ap (λ part. (unsigned_abs p.part, part)) (part_agrees p same)) ps all)))

    upload_agrees : (u : UploadColumns) → upload_of (encoding d) ps u ≡ upload_of (encoding c) ps u
    upload_agrees u = rw (sent_agree u.row) refl

    to_agree : (us : List UploadColumns) (bucket key : List ℕ) → uploads_to (encoding d) us ps bucket key ≡ uploads_to (encoding c) us ps bucket key
    unfolding uploads_to
    to_agree us bucket key = ap from_entries (map_same (λ u. (unsigned_abs u.id, upload_of (encoding d) ps u)) (λ u. (unsigned_abs u.id, upload_of (encoding c) ps u)) (λ u. ap (λ upload. (unsigned_abs u.id, upload)) (upload_agrees u)) (filter (is_upload_to bucket key) us))

    in_agree : (us : List UploadColumns) (bucket : List ℕ) → uploads_in (encoding d) us ps bucket ≡ uploads_in (encoding c) us ps bucket
    unfolding uploads_in
    in_agree us bucket = ap from_entries (map_same (λ u. (u.key, uploads_to (encoding d) us ps bucket u.key)) (λ u. (u.key, uploads_to (encoding c) us ps bucket u.key)) (λ u. ap (λ to. (u.key, to)) (to_agree us bucket u.key)) (filter (is_upload_in bucket) us))

  -- the catalogue is the same where the same bytes stand under the numbers that are named
  pub same_catalogue : (t : Tables) → ((n : ℕ) → 0 < times n (numbers_named t) → IsSame n) → catalogue_of (encoding d) t ≡ catalogue_of (encoding c) t
  unfolding numbers_named catalogue_of
  same_catalogue t each =
      let all = all_split IsSame (flat_map version_numbers t.versions) (flat_map part_numbers t.parts) (all_standing IsSame (flat_map version_numbers t.versions ++ flat_map part_numbers t.parts) each) in
      let versions = versions_agree t.versions (all_in_each IsSame version_numbers t.versions all.0) in
      let parts = parts_agree t.parts (all_in_each IsSame part_numbers t.parts all.1) in
      ap from_entries (map_same (λ b. (b.name, bucket_of (encoding d) t b)) (λ b. (b.name, bucket_of (encoding c) t b))
      (λ b. ap (λ is. (b.name, is)) (rw (keys_agree t.versions versions b.name, in_agree t.parts parts t.uploads b.name) refl)) t.buckets)
