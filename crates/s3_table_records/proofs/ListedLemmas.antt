-- The bodies of listed parts: they are counted, and their bytes are those that a completion stores.
use Rattle.std.proofs.Common.{◌≡◌, refl, sym, ap, ap₂, ◌∙◌, ℕ, ℤ, pos, ◌+◌, ◌<◌, List, [], ◌∷◌, ◌++◌, map, take, length, get_or, Option, Some, None, option_map}
use Rattle.std.proofs.lemmas.List.{map-append, take_more, flat_map_more}
use Rattle.std.proofs.lemmas.List.Elements.{recursion_from_All, All-from_recursion}
use Rattle.std.proofs.lemmas.Grind.{flat_map-append}
use Rattle.std.specs.Prelude.{All, unwrap_or}
use Rattle.std.specs.List.{AllByRecursion, flat_map, cons_option}
use Rattle.s3_stored_bodies.specs.Numbers.{Contents, bytes_under}
use Rattle.s3_uploads.specs.Parts.{PartList, part_at}
use Rattle.s3_uploads.specs.Completion.{joined_body, parts_listed}
use Rattle.s3_uploads.specs.declared.part.Part.{Part}
use Rattle.s3_uploads.specs.declared.listed.ListedPart.{ListedPart}
use Rattle.s3_records.specs.OpenUploads as uploads
use Rattle.s3_records.specs.OpenUploads.{upload_at, bytes_listed}
use Rattle.s3_rows.specs.Columns.{PartColumns, Tables}
use Rattle.s3_rows.specs.Meaning.{part_of, upload_of, catalogue_of}
use Rattle.s3_rows.specs.ReadingLaws.{RowsTellUpload}
use Rattle.s3_rows.specs.Soundness.{AreSound}
use Rattle.s3_stored_rows.specs.Bodies.{bytes_in, encoding, part_numbers}
use Rattle.s3_stored_rows.specs.Changes.{upload_columns}
use Rattle.s3_stored_rows.specs.Queries.{upload_of_id, part_of_number}
use Rattle.s3_row_changes.specs.Trading.{numbers_of}
use Rattle.s3_row_changes.specs.declared.uploads.UploadRows.{UploadRows}
use Rattle.s3_table_records.specs.Listed.{listed_numbers, all_listed}
use Rattle.s3_table_records.proofs.KeptLemmas.{AreNamed}
use Rattle.s3_table_records.proofs.UploadLemmas.{part_named, found_at, none_told, part_told}

all_append : {X : Type 0} (P : X → Type 0) (xs ys : List X) → AllByRecursion P xs → AllByRecursion P ys → AllByRecursion P (xs ++ ys)
all_append P [] ys first second = second
all_append P (x ∷ xs) ys first second = (first.0, all_append P xs ys first.1 second)

-- ---- they are counted

module _ (t : Tables) (uses : ℕ → ℕ) (named : AreNamed uses t) where
  counted_at : (upload number : ℤ) (found : Option PartColumns) → part_of_number upload number t ≡ found → AllByRecursion (λ n. 0 < uses n) (numbers_of part_numbers found)
  counted_at upload number None is = cc
  counted_at upload number (Some p) is = recursion_from_All (λ n. 0 < uses n) (part_numbers p) (part_named t uses named upload number p is)

  all_counted : (upload : ℤ) (listed : List ListedPart) → AllByRecursion (λ n. 0 < uses n) (all_listed t upload listed)
  all_counted upload [] = cc
  all_counted upload (l ∷ ls) =
      all_append (λ n. 0 < uses n) (listed_numbers t upload l) (all_listed t upload ls)
      (counted_at upload (pos l.number) (part_of_number upload (pos l.number) t) refl) (all_counted upload ls)

  -- also where the upload may be none
  pub listed_counted : (o : Option UploadRows) (listed : List ListedPart) → All (λ n. 0 < uses n) (numbers_of (λ (u : UploadRows). all_listed t u.upload.row listed) o)
  listed_counted None listed = All-from_recursion (λ n. 0 < uses n) [] cc
  listed_counted (Some u) listed = All-from_recursion (λ n. 0 < uses n) (all_listed t u.upload.row listed) (all_counted u.upload.row listed)

-- ---- their bytes

-- the bytes of a part that may be there
abbrev body_of : Option (Part (List ℕ)) → List ℕ
body_of None = []
body_of (Some part) = part.body

joined_first : (o : Option (Part (List ℕ))) (parts : List (Part (List ℕ))) → joined_body (cons_option o parts) ≡ body_of o ++ joined_body parts
joined_first None parts = refl
joined_first (Some part) parts = refl

module _ (c : Contents) (t : Tables) where
  bytes_at : (found : Option PartColumns) → flat_map (bytes_under c) (numbers_of part_numbers found) ≡ body_of (option_map (part_of (encoding c)) found)
  unfolding bytes_in
  bytes_at None = refl
  bytes_at (Some p) = refl

  module _ (upload : ℤ) (parts : PartList (List ℕ)) (tells : (n : ℕ) → option_map (part_of (encoding c)) (part_of_number upload (pos n) t) ≡ part_at n parts) where
    listed_bytes : (listed : List ListedPart) → flat_map (bytes_under c) (all_listed t upload listed) ≡ joined_body (parts_listed listed parts)
    listed_bytes [] = refl
    listed_bytes (l ∷ ls) =
        flat_map-append (bytes_under c) (listed_numbers t upload l) (all_listed t upload ls)
        ∙ ap (λ bytes. bytes ++ flat_map (bytes_under c) (all_listed t upload ls)) (bytes_at (part_of_number upload (pos l.number) t) ∙ ap body_of (tells l.number))
        ∙ ap (λ bytes. body_of (part_at l.number parts) ++ bytes) (listed_bytes ls)
        ∙ sym (joined_first (part_at l.number parts) (parts_listed ls parts))

  -- what the listed parts of an upload that is there have is what its completion stores
  module _ (sound : AreSound t) (tells : RowsTellUpload) (bucket key : List ℕ) (id : ℕ) (listed : List ListedPart) (body : List ℕ) (joined : bytes_listed listed (upload_at (catalogue_of (encoding c) t) bucket key id) ≡ Some body) where
    pub joined_is : (o : Option UploadRows) → option_map (λ (u : UploadRows). upload_columns u.upload) o ≡ upload_of_id bucket key (pos id) t
        → flat_map (bytes_under c) (numbers_of (λ (u : UploadRows). all_listed t u.upload.row listed) o) ≡ body
    joined_is None is =
        let none : None ≡ Some body = ap (bytes_listed listed) (none_told (encoding c) t sound tells bucket key id is) ∙ joined in
        cc
    joined_is (Some u) is =
        let at = found_at (encoding c) t sound tells bucket key id (upload_columns u.upload) (sym is) in
        listed_bytes u.upload.row (upload_of (encoding c) t.parts (upload_columns u.upload)).parts
        (λ n. part_told (encoding c) t sound tells bucket key id (upload_columns u.upload) n (sym is) ∙ ap (λ o. part_at n (uploads.parts_sent o)) at) listed
        ∙ ap (λ bytes. unwrap_or bytes []) (sym (ap (bytes_listed listed) at) ∙ joined)

-- ---- the numbers of one more row, and of one more that is listed

pub more_named : {X Y : Type 0} (f : X → List ℕ) (g : Y → X) (ys : List Y) (i : ℕ) (y : Y) (before more after : List ℕ) → i < length ys → y ≡ get_or ys i y
    → before ≡ flat_map f (map g (take i ys)) → more ≡ f (g y) → after ≡ before ++ more → after ≡ flat_map f (map g (take (i + 1) ys))
more_named f g ys i y before more after within is so_far here joined =
    joined ∙ ap₂ (λ a b. a ++ b) so_far here ∙ flat_map_more f [] (map g (take i ys)) (g y)
    ∙ ap (flat_map f) (sym (map-append g (take i ys) (y ∷ [])) ∙ ap (λ z. map g (take i ys ++ z ∷ [])) is ∙ ap (map g) (sym (take_more ys i y within)))

pub more_listed : (t s : Tables) (upload : ℤ) (listed : List ListedPart) (i : ℕ) (part : ListedPart) (before more after : List ℕ) → i < length listed → part ≡ get_or listed i part → s ≡ t
    → before ≡ all_listed t upload (take i listed) → more ≡ listed_numbers s upload part → after ≡ before ++ more → after ≡ all_listed t upload (take (i + 1) listed)
more_listed t s upload listed i part before more after within is same so_far here joined =
    joined ∙ ap₂ (λ a b. a ++ b) so_far (here ∙ ap (λ u. listed_numbers u upload part) same) ∙ flat_map_more (listed_numbers t upload) [] (take i listed) part
    ∙ ap (flat_map (listed_numbers t upload)) (ap (λ p. take i listed ++ p ∷ []) is ∙ sym (take_more listed i part within))
