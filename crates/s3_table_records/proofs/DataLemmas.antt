-- What is stored under a number that was just kept is what was to be stored.
use Rattle.std.proofs.Common.{◌≡◌, ap, ◌∙◌, ℕ, List, [], ◌∷◌, ◌++◌}
use Rattle.std.proofs.lemmas.List.{append-nil}
use Rattle.std.specs.FinMap.{insert}
use Rattle.s3_stored_bodies.specs.Numbers.{Contents, bytes_under}
use Rattle.s3_versions.specs.declared.version.Data.{Data}
use Rattle.s3_versions.specs.Rules.{VersionPut}
use Rattle.s3_uploads.specs.declared.part.Part.{Part}
use Rattle.s3_records.specs.Changes.{KeyChanged, UploadCompleted, PartPut}
use Rattle.s3_row_values.specs.Values.{data_with, part_with}
use Rattle.s3_row_values.specs.declared.described.Described.{Described}
use Rattle.s3_row_values.specs.declared.described.DescribedPart.{DescribedPart}
use Rattle.s3_table_records.proofs.KeptLemmas.{under_here}

-- what a put stores, and a part, with its bytes
abbrev pub data_of : Described → List ℕ → Data (List ℕ)
data_of d body = record { tag = d.tag; size = d.size; content_type = d.content_type; metadata = d.metadata; body = body }

abbrev pub part_of : DescribedPart → List ℕ → Part (List ℕ)
part_of p body = record { digest = p.digest; moment = p.moment; size = p.size; body = body }

module _ (c : Contents) (number : ℕ) (body : List ℕ) where
  bytes_here : bytes_under (insert c number body) number ++ [] ≡ body
  bytes_here = append-nil (bytes_under (insert c number body) number) ∙ under_here c (λ _. 0) number body

  pub data_same : (d : Described) → data_with (insert c number body) (number ∷ []) d ≡ data_of d body
  data_same d = ap (data_of d) bytes_here

  pub part_same : (p : DescribedPart) → part_with (insert c number body) (number ∷ []) p ≡ part_of p body
  part_same p = ap (part_of p) bytes_here

pub put_same : (key : List ℕ) (n m : ℕ) (d : Described) (c : Contents) (number : ℕ) (body : List ℕ)
    → KeyChanged key (VersionPut n m (data_with (insert c number body) (number ∷ []) d)) ≡ KeyChanged key (VersionPut n m (data_of d body))
put_same key n m d c number body = ap (λ stored. KeyChanged key (VersionPut n m stored)) (data_same c number body d)

pub completed_same : (key : List ℕ) (id n m : ℕ) (d : Described) (c : Contents) (number : ℕ) (body : List ℕ)
    → UploadCompleted key id (VersionPut n m (data_with (insert c number body) (number ∷ []) d)) ≡ UploadCompleted key id (VersionPut n m (data_of d body))
completed_same key id n m d c number body = ap (λ stored. UploadCompleted key id (VersionPut n m stored)) (data_same c number body d)

pub part_put_same : (key : List ℕ) (id part : ℕ) (p : DescribedPart) (c : Contents) (number : ℕ) (body : List ℕ)
    → PartPut key id part (part_with (insert c number body) (number ∷ []) p) ≡ PartPut key id part (part_of p body)
part_put_same key id part p c number body = ap (PartPut key id part) (part_same c number body p)
