-- What is told of versions.
use Rattle.std.proofs.Common.{◌≡◌, refl, sym, ap, Bool, ℕ, List, Option, Some, None, option_map, Err}
use Rattle.s3_names.specs.declared.ids.VersionId.{VersionId}
use Rattle.s3_versions.specs.declared.picking.Facts.{Facts}
use Rattle.s3_versions.specs.declared.picking.Refusal.{Refusal}
use Rattle.s3_versions.specs.declared.version.Data.{Data}
use Rattle.s3_versions.specs.declared.version.Version.{Version}
use Rattle.s3_versions.specs.Rules.{judged, facts_read, facts_of, id_of, stored}
use Rattle.s3_records.specs.Rows.{version_row}

-- what is known of a version
abbrev pub facts_told : Version (List ℕ) → Option Facts
facts_told v = option_map (λ (what : Data (List ℕ)). facts_of (v, what)) (stored v)

-- a row of a list by its parts
pub version_told : (key told : List ℕ) (is_latest : Bool) (v : Version (List ℕ)) (id : VersionId) (moment : ℕ) (facts : Option Facts)
    → told ≡ key → id ≡ id_of v → moment ≡ v.moment → facts ≡ facts_told v
    → record { key = told; id = id; is_latest = is_latest; moment = moment; facts = facts } ≡ version_row key is_latest v
version_told key told is_latest v id moment facts key_is id_is moment_is facts_are = cc

-- where nothing is known of a version it is a delete marker
no_facts : (f : Data (List ℕ) → Facts) (what : Option (Data (List ℕ))) → None ≡ option_map f what → what ≡ None
no_facts f None none = refl
no_facts f (Some x) none = absurd (cc)

-- and is refused
pub marker_refused : (asked : Option VersionId) (v : Version (List ℕ)) (refusal : Refusal) → None ≡ facts_told v → (stored v ≡ None → judged asked (Some v) ≡ Err refusal)
    → Err refusal ≡ facts_read (judged asked (Some v))
marker_refused asked v refusal none refused = sym (ap facts_read (refused (no_facts (λ (what : Data (List ℕ)). facts_of (v, what)) (stored v) none)))
