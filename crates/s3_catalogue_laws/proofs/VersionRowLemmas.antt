-- The rows of a bucket's versions.
use Rattle.std.proofs.Common.{◌≡◌, ◌≢◌, ◌↔◌, refl, sym, ap, subst, ◌∙◌, Bool, true, false, cond, IsTrue, ℕ, zero, suc, List, [], ◌∷◌, map, find, Contains, flat_map, Option, Some, None, Ok, Err, option_map, arith}
use Rattle.std.proofs.lemmas.Bool.{false≢true}
use Rattle.std.proofs.lemmas.Option.{none-some, same_Some}
use Rattle.std.specs.FinMap.{get, entries}
use Rattle.s3_terms.specs.declared.code.Code.TheVariants.{MethodNotAllowed}
use Rattle.s3_versions.specs.declared.picking.Facts.{Facts}
use Rattle.s3_versions.specs.declared.picking.Refusal.{Refusal}
use Rattle.s3_versions.specs.declared.version.Content.{Content}
use Rattle.s3_versions.specs.declared.version.Content.TheVariants.{DeleteMarker, Stored}
use Rattle.s3_versions.specs.declared.version.Version.{Version}
use Rattle.s3_versions.specs.Rules.{id_of, is_under, current, stored, stored_in, is_marker, read_as, judged, facts_read, are_versions}
use Rattle.s3_records.specs.Catalogue.{Bucket, Catalogue, found_versions, versions_at, versions_in, versions_of}
use Rattle.s3_records.specs.Rows.{held_in, version_row, rows_under, rows_of, version_rows}
use Rattle.s3_records.specs.declared.rows.VersionRow.{VersionRow}
use Rattle.s3_catalogue_laws.specs.Orderly.{IsOrderly}
use Rattle.s3_catalogue_laws.specs.VersionLists.{facts_from, VersionsAreListed, MarkersAreTold}
use Rattle.s3_catalogue_laws.proofs.EntryLemmas.{nothing_held, held_first, held_later, map_holds, map_held, flat_holds, flat_held, find_held, got_held, held_got}
use Rattle.s3_catalogue_laws.proofs.VersionLemmas.{found_own, before_held, differ}

-- a row tells a version that is among those of its key
pub record TellsAmong {B : Type 0} (vs : List (Version B)) (row : VersionRow) (v : Version B) : Type 0 where
  pub place : find (is_under row.id) vs ≡ Some v
  pub id : row.id ≡ id_of v
  pub moment : row.moment ≡ v.moment
  pub facts : row.facts ≡ option_map (facts_from v) (stored v)
  pub latest : IsTrue row.is_latest ↔ (current vs ≡ Some v)

-- the row of a version tells it
row_tells : {B : Type 0} (key : List ℕ) (b : Bool) (vs : List (Version B)) (v : Version B) → find (is_under (id_of v)) vs ≡ Some v → IsTrue b ↔ (current vs ≡ Some v) → TellsAmong vs (version_row key b v) v
row_tells key b vs v place latest = record { place = place; id = refl; moment = refl; facts = refl; latest = latest }

-- what tells it is its row
pub its_row : {B : Type 0} (key : List ℕ) (b : Bool) (v : Version B) (row : VersionRow) → row.key ≡ key → row.is_latest ≡ b → row.id ≡ id_of v → row.moment ≡ v.moment → row.facts ≡ option_map (facts_from v) (stored v) → version_row key b v ≡ row
its_row key b v row same_key same_latest same_id same_moment same_facts =
    sym (λ i. record { key = same_key i; id = same_id i; is_latest = same_latest i; moment = same_moment i; facts = same_facts i })

-- the first of a key is its current version, and no other
not_current : {B : Type 0} (v w : Version B) (vs : List (Version B)) → are_versions (v ∷ vs) ≡ true → Contains vs w → IsTrue false ↔ (current (v ∷ vs) ≡ Some w)
not_current v w vs valid held = (
  λ is. absurd (false≢true is),
  λ is. absurd (differ v w (before_held v vs w valid held) (same_Some v w is)),
)

-- a row that stands there tells a version
pub told : {B : Type 0} (key : List ℕ) (vs : List (Version B)) (row : VersionRow) → are_versions vs ≡ true → Contains (rows_under key vs) row → (row.key ≡ key) × ((v : Version B) × TellsAmong vs row v)
told key [] row valid held = absurd (nothing_held row held)
told key (v ∷ vs) row valid (zero, within, is) = (
  ap (λ r. r.key) (sym is),
  (v, subst (λ r. TellsAmong (v ∷ vs) r v) is (row_tells key true (v ∷ vs) v (found_own (v ∷ vs) v valid (held_first v v vs refl)) (λ t. refl, λ t. refl))),
)
told key (v ∷ vs) row valid (suc k, within, is) =
    let one = map_held (version_row key false) vs row (k, omega arith, is) in
    let w = one.0 in (
      ap (λ r. r.key) (sym one.2),
      (w, subst (λ r. TellsAmong (v ∷ vs) r w) one.2 (row_tells key false (v ∷ vs) w (found_own (v ∷ vs) w valid (held_later w v vs one.1)) (not_current v w vs valid one.1))),
    )

-- and a version has a row that tells it
telling : {B : Type 0} (key : List ℕ) (vs : List (Version B)) (row : VersionRow) (v : Version B) → row.key ≡ key → TellsAmong vs row v → Contains (rows_under key vs) row
telling key [] row v same tells = absurd (none-some v tells.place)
telling key (u ∷ vs) row v same tells =
    elim row.is_latest as (λ b. row.is_latest ≡ b → Contains (rows_under key (u ∷ vs)) row) [
      | true ↦ λ is.
          held_first row (version_row key true u) (map (version_row key false) vs)
          (ap (version_row key true) (same_Some u v (tells.latest.0 is)) ∙ its_row key true v row same is tells.id tells.moment tells.facts)
      | false ↦ λ is.
          let found : find (is_under row.id) vs ≡ Some v =
          elim (is_under row.id u) as (λ b. cond b (Some u) (find (is_under row.id) vs) ≡ Some v → find (is_under row.id) vs ≡ Some v) [
            | true ↦ λ first. absurd (false≢true (sym is ∙ tells.latest.1 first))
            | false ↦ λ later. later
          ] tells.place in
          held_later row (version_row key true u) (map (version_row key false) vs)
          (subst (Contains (map (version_row key false) vs)) (its_row key false v row same is tells.id tells.moment tells.facts)
          (map_holds (version_row key false) vs v (find_held (is_under row.id) vs v found).0))
    ] refl

-- in a bucket
told_in : {B : Type 0} (found : Option (Bucket B)) (row : VersionRow) → ((key : List ℕ) → IsTrue (are_versions (versions_in found key))) → Contains (flat_map rows_of (held_in found)) row → (v : Version B) × TellsAmong (versions_in found row.key) row v
told_in None row valid held = absurd (nothing_held row held)
told_in (Some b) row valid held =
    let of = flat_held rows_of (entries b.keys) row held in
    let key = of.0.0 in
    let vs = of.0.1 in
    let there : versions_at b.keys key ≡ vs = ap found_versions (held_got b.keys key vs of.1) in
    let one = told key vs row (subst (λ vs. are_versions vs ≡ true) there (valid key)) of.2 in
    let here : versions_at b.keys row.key ≡ vs = ap (versions_at b.keys) one.0 ∙ there in
    (one.1.0, subst (λ vs. TellsAmong vs row one.1.0) (sym here) one.1.1)

telling_in : {B : Type 0} (found : Option (Bucket B)) (row : VersionRow) (v : Version B) → TellsAmong (versions_in found row.key) row v → Contains (flat_map rows_of (held_in found)) row
telling_in None row v tells = absurd (none-some v tells.place)
telling_in (Some b) row v tells =
    elim (get b.keys row.key) as (λ found. get b.keys row.key ≡ found → TellsAmong (found_versions found) row v → Contains (flat_map rows_of (entries b.keys)) row) [
      | None ↦ λ none tells. absurd (none-some v tells.place)
      | Some vs ↦ λ got tells. flat_holds rows_of (entries b.keys) (row.key, vs) row (got_held b.keys row.key vs got) (telling row.key vs row v refl tells)
    ] refl tells

pub versions_are_listed : {B : Type 0} → VersionsAreListed B
versions_are_listed c name row orderly = (
  λ held.
      let one = told_in (get c name) row (orderly.versions name) held in
      (one.0, record { place = one.1.place; id = one.1.id; moment = one.1.moment; facts = one.1.facts; latest = one.1.latest }),
  λ some.
      telling_in (get c name) row some.0
      (record { place = some.1.place; id = some.1.id; moment = some.1.moment; facts = some.1.facts; latest = some.1.latest }),
)

-- what is told of what a version is, and a read of it
record Reads {B : Type 0} (refusal : Refusal) (v : Version B) (content : Content B) (facts : Option Facts) : Type 0 where
  read : (known : Facts) → (facts ≡ Some known) ↔ (facts_read (read_as refusal v content) ≡ Ok known)
  marker : (facts ≡ None) ↔ IsTrue (is_marker content)
  refused : (facts ≡ None) ↔ (read_as refusal v content ≡ Err refusal)

reads : {B : Type 0} (refusal : Refusal) (v : Version B) (content : Content B) → Reads refusal v content (option_map (facts_from v) (stored_in content))
reads refusal v DeleteMarker = record {
  read = λ known. (λ is. absurd (none-some known is), λ is. cc);
  marker = (λ is. refl, λ is. refl);
  refused = (λ is. refl, λ is. refl);
}
reads refusal v (Stored kept) = record {
  read = λ known. (λ is. ap Ok (same_Some (facts_from v kept) known is), λ is. cc);
  marker = (λ is. absurd (none-some (facts_from v kept) (sym is)), λ is. absurd (false≢true is));
  refused = (λ is. absurd (none-some (facts_from v kept) (sym is)), λ is. cc);
}

pub markers_are_told : {B : Type 0} → MarkersAreTold B
markers_are_told c name row orderly held =
    let one = told_in (get c name) row (orderly.versions name) held in
    let v = one.0 in
    let all = reads (record { code = MethodNotAllowed; is_delete_marker = true }) v v.content in
    let picked = ap (judged (Some row.id)) one.1.place in
    let facts = one.1.facts in
    record {
      read = λ known. (λ is. ap facts_read picked ∙ (all.read known).0 (sym facts ∙ is), λ is. facts ∙ (all.read known).1 (sym (ap facts_read picked) ∙ is));
      marker = λ w place.
          let same : v ≡ w = same_Some v w (sym one.1.place ∙ place) in
          (λ is. sym (ap (λ u. is_marker u.content) same) ∙ all.marker.0 (sym facts ∙ is), λ is. facts ∙ all.marker.1 (ap (λ u. is_marker u.content) same ∙ is));
      refused = (λ is. picked ∙ all.refused.0 (sym facts ∙ is), λ is. facts ∙ all.refused.1 (sym picked ∙ is));
    }

-- each version that is told is under its key
pub row_found : {B : Type 0} (c : Catalogue B) (name : List ℕ) (row : VersionRow) → IsOrderly c → Contains (version_rows c name) row → versions_of c name row.key ≢ []
row_found c name row orderly held none =
    let one = told_in (get c name) row (orderly.versions name) held in
    none-some one.0 (ap (find (is_under row.id)) (sym none) ∙ one.1.place)
