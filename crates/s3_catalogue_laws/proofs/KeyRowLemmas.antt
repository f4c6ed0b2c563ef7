-- The rows of a bucket's keys.
use Rattle.std.proofs.Common.{◌≡◌, ◌≢◌, refl, sym, ap, subst, ◌∙◌, Bool, true, false, ℕ, List, [], ◌∷◌, map, Contains, Option, Some, None, Result, Ok, Err}
use Rattle.std.proofs.lemmas.Bool.{false≢true}
use Rattle.std.proofs.lemmas.Option.{none-some, same_Some}
use Rattle.std.specs.FinMap.{get, entries}
use Rattle.std.specs.Result.{result_ok}
use Rattle.s3_versions.specs.declared.picking.Facts.{Facts}
use Rattle.s3_versions.specs.declared.picking.Refusal.{Refusal}
use Rattle.s3_versions.specs.declared.version.Content.{Content}
use Rattle.s3_versions.specs.declared.version.Content.TheVariants.{DeleteMarker, Stored}
use Rattle.s3_versions.specs.declared.version.Data.{Data}
use Rattle.s3_versions.specs.declared.version.Version.{Version}
use Rattle.s3_versions.specs.Rules.{read_as, pick, facts_read}
use Rattle.s3_terms.specs.declared.code.Code.TheVariants.{NoSuchKey}
use Rattle.s3_records.specs.Catalogue.{Bucket, Catalogue, HaveVersions, found_versions, versions_at, versions_in, versions_of}
use Rattle.s3_records.specs.Rows.{held_in, key_row, key_rows, keys_from}
use Rattle.s3_records.specs.declared.rows.KeyRow.{KeyRow}
use Rattle.s3_records.specs.declared.rows.Start.TheVariants.{First}
use Rattle.s3_catalogue_laws.specs.Orderly.{IsOrderly}
use Rattle.s3_catalogue_laws.specs.VersionLists.{facts_from}
use Rattle.s3_catalogue_laws.specs.KeyLists.{KeysAreListed, MarkedKeysAreListed, ListedKeysHaveVersions}
use Rattle.s3_catalogue_laws.proofs.EntryLemmas.{nothing_held, map_holds, map_held, got_held, held_got, filter-true}

-- what is known of what a read of these versions gives
abbrev facts_picked : {B : Type 0} → List (Version B) → Option Facts
facts_picked vs = result_ok (facts_read (pick None vs))

-- a row tells what a read of its key gives
row_facts : {B : Type 0} (found : Option (Bucket B)) (row : KeyRow) → Contains (map key_row (held_in found)) row → row.facts ≡ facts_picked (versions_in found row.key)
row_facts None row held = absurd (nothing_held row held)
row_facts (Some b) row held =
    let one = map_held key_row (entries b.keys) row held in
    let key = one.0.0 in
    let vs = one.0.1 in
    let here : versions_at b.keys row.key ≡ vs = ap (λ r. versions_at b.keys r.key) (sym one.2) ∙ ap found_versions (held_got b.keys key vs one.1) in
    ap (λ r. r.facts) (sym one.2) ∙ ap facts_picked (sym here)

-- and no key is told that has no versions, where none is there without
row_some : {B : Type 0} (found : Option (Bucket B)) (row : KeyRow) → ((b : Bucket B) → found ≡ Some b → HaveVersions b.keys) → Contains (map key_row (held_in found)) row → versions_in found row.key ≢ []
row_some None row filled held none = absurd (nothing_held row held)
row_some (Some b) row filled held none =
    let one = map_held key_row (entries b.keys) row held in
    let key = one.0.0 in
    let vs = one.0.1 in
    let got : get b.keys key ≡ Some vs = held_got b.keys key vs one.1 in
    let empty : vs ≡ [] = sym (ap found_versions got) ∙ ap (λ r. versions_at b.keys r.key) one.2 ∙ none in
    filled b refl key (got ∙ ap Some empty)

-- a key that has versions is told
key_telling : {B : Type 0} (found : Option (Bucket B)) (key : List ℕ) → versions_in found key ≢ [] → Contains (map key_row (held_in found)) (record { key = key; facts = facts_picked (versions_in found key) })
key_telling None key some = absurd (some refl)
key_telling (Some b) key some =
    elim (get b.keys key) as (λ found. get b.keys key ≡ found → found_versions found ≢ [] → Contains (map key_row (entries b.keys)) (record { key = key; facts = facts_picked (found_versions found) })) [
      | None ↦ λ none some. absurd (some refl)
      | Some vs ↦ λ got some. map_holds key_row (entries b.keys) (key, vs) (got_held b.keys key vs got)
    ] refl some

-- the list from the first key on is the list of all
from_first : {B : Type 0} (c : Catalogue B) (name : List ℕ) (row : KeyRow) → Contains (keys_from c name First) row → Contains (key_rows c name) row
from_first c name row held = subst (λ rows. Contains rows row) (filter-true (key_rows c name)) held

to_first : {B : Type 0} (c : Catalogue B) (name : List ℕ) (row : KeyRow) → Contains (key_rows c name) row → Contains (keys_from c name First) row
to_first c name row held = subst (λ rows. Contains rows row) (sym (filter-true (key_rows c name))) held

-- what is read where facts are known
known : {B : Type 0} (read : Result (Version B × Data B) Refusal) (facts : Facts) → Some facts ≡ result_ok (facts_read read) → (v : Version B) × (kept : Data B) × (read ≡ Ok (v, kept)) × (facts ≡ facts_from v kept)
known (Ok read) facts is = (read.0, read.1, refl, same_Some facts (facts_from read.0 read.1) is)
known (Err refusal) facts is = absurd (none-some facts (sym is))

some_read : {B : Type 0} (vs : List (Version B)) (v : Version B) (kept : Data B) → pick None vs ≡ Ok (v, kept) → vs ≢ []
some_read vs v kept is none = cc (sym (ap (pick None) none) ∙ is)

pub keys_are_listed : {B : Type 0} → KeysAreListed B
keys_are_listed c name key facts = (
  λ held. known (pick None (versions_of c name key)) facts (row_facts (get c name) (record { key = key; facts = Some facts }) (from_first c name _ held)),
  λ read.
      let picked : facts_picked (versions_of c name key) ≡ Some facts = ap (λ r. result_ok (facts_read r)) read.2 ∙ ap Some (sym read.3) in
      to_first c name _
      (subst (λ told. Contains (key_rows c name) (record { key = key; facts = told })) picked
      (key_telling (get c name) key (some_read (versions_of c name key) read.0 read.1 read.2))),
)

-- what is read where none are known, though there are versions
read_marker : {B : Type 0} (refusal : Refusal) (v : Version B) (content : Content B) → None ≡ result_ok (facts_read (read_as refusal v content)) → read_as refusal v content ≡ Err refusal
read_marker refusal v DeleteMarker is = refl
read_marker refusal v (Stored kept) is = absurd (none-some _ is)

not_known : {B : Type 0} (vs : List (Version B)) → vs ≢ [] → None ≡ facts_picked vs → pick None vs ≡ Err (record { code = NoSuchKey; is_delete_marker = true })
not_known [] some is = absurd (some refl)
not_known (v ∷ vs) some is = read_marker (record { code = NoSuchKey; is_delete_marker = true }) v v.content is

-- a refusal tells of a delete marker
abbrev is_of_marker : {X : Type 0} → Result X Refusal → Bool
is_of_marker (Ok read) = false
is_of_marker (Err refusal) = refusal.is_delete_marker

some_refused : {B : Type 0} (vs : List (Version B)) → pick None vs ≡ Err (record { code = NoSuchKey; is_delete_marker = true }) → vs ≢ []
some_refused vs is none = false≢true (ap is_of_marker (sym (ap (pick None) none) ∙ is))

pub marked_keys_are_listed : {B : Type 0} → MarkedKeysAreListed B
marked_keys_are_listed c name key orderly = (
  λ held.
      let told = from_first c name (record { key = key; facts = None }) held in
      not_known (versions_of c name key) (row_some (get c name) (record { key = key; facts = None }) (orderly.filled name) told)
      (row_facts (get c name) (record { key = key; facts = None }) told),
  λ refused.
      to_first c name _
      (subst (λ told. Contains (key_rows c name) (record { key = key; facts = told })) (ap (λ r. result_ok (facts_read r)) refused)
      (key_telling (get c name) key (some_refused (versions_of c name key) refused))),
)

pub row_has_versions : {B : Type 0} (c : Catalogue B) (name : List ℕ) (row : KeyRow) → IsOrderly c → Contains (key_rows c name) row → versions_of c name row.key ≢ []
row_has_versions c name row orderly held = row_some (get c name) row (orderly.filled name) held

pub listed_keys_have_versions : {B : Type 0} → ListedKeysHaveVersions B
listed_keys_have_versions c name row orderly held = row_has_versions c name row orderly (from_first c name row held)
