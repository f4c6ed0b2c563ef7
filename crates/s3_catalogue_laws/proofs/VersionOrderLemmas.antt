-- The order of a bucket's versions.
use Rattle.std.proofs.Common.{◌≡◌, inl, inr, refl, ap, subst, ◌∙◌, true, false, T, IsTrue, ℕ, List, [], ◌∷◌, ◌++◌, map, find, Contains, flat_map, Option, Some, None}
use Rattle.std.proofs.lemmas.List.Elements.{Contains-append_cases}
use Rattle.std.specs.FinMap.{get, entries, entries_sorted}
use Rattle.std.specs.FinMap.Entries.{is_sorted, below_all}
use Rattle.s3_text.specs.Order.{byte_order}
use Rattle.s3_versions.specs.declared.version.Version.{Version}
use Rattle.s3_versions.specs.Rules.{id_of, is_under, are_versions}
use Rattle.s3_records.specs.Catalogue.{Bucket, versions_in}
use Rattle.s3_records.specs.Rows.{Held, held_in, version_row, rows_under, rows_of}
use Rattle.s3_records.specs.declared.rows.VersionRow.{VersionRow}
use Rattle.s3_catalogue_laws.specs.ListPlaces.{VersionsAreOrdered}
use Rattle.s3_catalogue_laws.proofs.EntryLemmas.{held_first, held_later, map_held, flat_held, below_held, first_of, second_of}
use Rattle.s3_catalogue_laws.proofs.VersionLemmas.{found_own, versions_behind, before_held, is_older}
use Rattle.s3_catalogue_laws.proofs.VersionPlaceLemmas.{StandsIn, valid_at, row_key, older_from}

-- lists in which each row stands in a relation to all behind it
module _ {X : Type 0} (R : X → X → Type 0) where
  abbrev pub Ordered : List X → Type 0
  Ordered [] = Unit {0}
  Ordered (x ∷ xs) = ((y : X) → Contains xs y → R x y) × Ordered xs

  joined : (xs ys : List X) → Ordered xs → Ordered ys → ((x y : X) → Contains xs x → Contains ys y → R x y) → Ordered (xs ++ ys)
  joined [] ys first second across = second
  joined (x ∷ xs) ys first second across = (
    λ y held.
        elim (Contains-append_cases xs ys y held) [
          | inl here ↦ first.0 y here
          | inr there ↦ across x y (held_first x x xs refl) there
        ],
    joined xs ys first.1 second (λ z y here there. across z y (held_later z x xs here) there),
  )

  behind : (front rest : List X) (x y : X) → Ordered (front ++ x ∷ rest) → Contains rest y → R x y
  behind [] rest x y ordered held = ordered.0 y held
  behind (z ∷ front) rest x y ordered held = behind front rest x y ordered.1 held

-- a row stands behind another in a bucket
abbrev Follows : {B : Type 0} → Option (Bucket B) → VersionRow → VersionRow → Type 0
Follows found row next = StandsIn found row.key row.id next

-- the rows of one key do
older_rows : {B : Type 0} (found : Option (Bucket B)) (key : List ℕ) (vs : List (Version B)) → are_versions vs ≡ true → ((v : Version B) → Contains vs v → find (is_under (id_of v)) (versions_in found key) ≡ Some v)
    → Ordered (Follows found) (map (version_row key false) vs)
older_rows found key [] valid own = tt
older_rows found key (v ∷ vs) valid own = (
  λ row held.
      let one = map_held (version_row key false) vs row held in
      let w = one.0 in
      subst (Follows found (version_row key false v)) one.2
      (inr (refl, older_from _ _ v w (own v (held_first v v vs refl)) (own w (held_later w v vs one.1)) (is_older v w (before_held v vs w valid one.1)))),
  older_rows found key vs (versions_behind v vs valid).1 (λ u held. own u (held_later u v vs held)),
)

key_rows_ordered : {B : Type 0} (found : Option (Bucket B)) (key : List ℕ) (vs : List (Version B)) → are_versions vs ≡ true → ((v : Version B) → Contains vs v → find (is_under (id_of v)) (versions_in found key) ≡ Some v)
    → Ordered (Follows found) (rows_under key vs)
key_rows_ordered found key [] valid own = tt
key_rows_ordered found key (v ∷ vs) valid own = older_rows found key (v ∷ vs) valid own

-- and those of keys that rise
rows_ordered : {B : Type 0} (found : Option (Bucket B)) (es : List (Held B)) → T (is_sorted byte_order es) → ((e : Held B) → Contains es e → (versions_in found e.0 ≡ e.1) × (are_versions e.1 ≡ true)) → Ordered (Follows found) (flat_map rows_of es)
rows_ordered found [] sorted at = tt
rows_ordered found (e ∷ es) sorted at =
    let here = at e (held_first e e es refl) in
    joined (Follows found) (rows_of e) (flat_map rows_of es)
    (key_rows_ordered found e.0 e.1 here.1 (λ v held. ap (find (is_under (id_of v))) here.0 ∙ found_own e.1 v here.1 held))
    (rows_ordered found es (second_of (below_all byte_order e.0 es) _ sorted) (λ f held. at f (held_later f e es held)))
    (λ row next first later.
    let of = flat_held rows_of es next later in
    let less = below_held e.0 of.0.0 of.0.1 es (first_of (below_all byte_order e.0 es) _ sorted) of.1 in
    inl (ap (λ k. byte_order k next.key) (row_key e.0 e.1 row first) ∙ ap (byte_order e.0) (row_key of.0.0 of.0.1 next of.2) ∙ less))

ordered_in : {B : Type 0} (found : Option (Bucket B)) → ((key : List ℕ) → IsTrue (are_versions (versions_in found key))) → Ordered (Follows found) (flat_map rows_of (held_in found))
ordered_in None valid = tt
ordered_in (Some b) valid = rows_ordered (Some b) (entries b.keys) (entries_sorted b.keys) (valid_at b valid)

pub versions_are_ordered : {B : Type 0} → VersionsAreOrdered B
versions_are_ordered c name front rest row next orderly is held =
    behind (Follows (get c name)) front rest row next (subst (Ordered (Follows (get c name))) is (ordered_in (get c name) (orderly.versions name))) held
