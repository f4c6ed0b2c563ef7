-- What the reader of a media type and metadata says of what it read.
use Rattle.std.proofs.Common.{◌≡◌, List, ℕ, Option, Some, None, Result, Ok, Err, sym, ap, ◌∙◌}
use Rattle.std.specs.Prelude.{IfOk, IfSome, IsSomeAnd, MatchOption}
use Rattle.std.proofs.lemmas.Option.{none-some, some_pair_parts}
use Rattle.hex.specs.Hex.{IsBytes}
use Rattle.s3_versions.specs.Metadata.{Entry}
use Rattle.s3_columns.specs.declared.kept.Kept.{Kept}
use Rattle.s3_columns.specs.Attributes.{kept_of, content_type_in, metadata_in, AreAllowed}
use Rattle.s3_columns.specs.Reading.{kept_read}
use Rattle.s3_columns.proofs.AttributeLemmas.{type_found, metadata_found, kept_again, kept_back}

-- it read what the rule reads
abbrev pub Gives : {E : Type 0} → List ℕ → Result (Option Kept) E → Type 0
Gives bytes result =
    IfOk result (λ read. MatchOption read (kept_read bytes ≡ None) (λ kept. kept_read bytes ≡ Some (kept.content_type, kept.metadata)))

pub is_written : {E : Type 0} (bytes : List ℕ) (result : Result (Option Kept) E) → IsBytes bytes → Gives bytes result
    → IfOk result (λ read. IfSome read (λ kept. bytes ≡ kept_of kept.content_type kept.metadata))
is_written bytes (Ok (Some kept)) fits gives = (kept_back bytes (kept.content_type, kept.metadata) fits gives).0
is_written bytes (Ok None) fits gives = tt
is_written bytes (Err e) fits gives = tt

pub is_allowed : {E : Type 0} (bytes : List ℕ) (result : Result (Option Kept) E) → IsBytes bytes → Gives bytes result
    → IfOk result (λ read. IfSome read (λ kept. AreAllowed kept.content_type kept.metadata))
is_allowed bytes (Ok (Some kept)) fits gives = (kept_back bytes (kept.content_type, kept.metadata) fits gives).1
is_allowed bytes (Ok None) fits gives = tt
is_allowed bytes (Err e) fits gives = tt

pub is_found : {E : Type 0} (bytes : List ℕ) (result : Result (Option Kept) E) → Gives bytes result
    → (kind : List ℕ) (entries : List Entry) → AreAllowed kind entries → bytes ≡ kept_of kind entries
    → IfOk result (λ read. IsSomeAnd read (λ kept. (kept.content_type ≡ kind) × (kept.metadata ≡ entries)))
is_found bytes (Ok (Some kept)) gives kind entries allowed is =
    some_pair_parts kept.content_type kind kept.metadata entries (sym gives ∙ ap kept_read is ∙ kept_again kind entries allowed)
is_found bytes (Ok None) gives kind entries allowed is =
    absurd (none-some (kind, entries) (sym gives ∙ ap kept_read is ∙ kept_again kind entries allowed))
is_found bytes (Err e) gives kind entries allowed is = tt

pub is_told : {E : Type 0} (bytes : List ℕ) (result : Result (Option Kept) E) → IsBytes bytes → Gives bytes result
    → IfOk result (λ read. IfSome read (λ kept. (kept.content_type ≡ content_type_in bytes) × (kept.metadata ≡ metadata_in bytes)))
is_told bytes (Ok (Some kept)) fits gives =
    let back = kept_back bytes (kept.content_type, kept.metadata) fits gives in (
      sym (ap content_type_in back.0 ∙ type_found kept.content_type kept.metadata back.1.len back.1.size),
      sym (ap metadata_in back.0 ∙ metadata_found kept.content_type kept.metadata back.1.len back.1.size),
    )
is_told bytes (Ok None) fits gives = tt
is_told bytes (Err e) fits gives = tt
