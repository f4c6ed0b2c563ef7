-- The metadata of an object (Amazon S3 User Guide, "Working with object metadata"): header lines that are kept with it, by their
-- names in lower case. User-defined ones begin with `x-amz-meta-`; the others are system-defined.
use Rattle.std.specs.Prelude.{ℕ, ◌+◌, ◌-◌, Bool, not, ◌&&◌, ◌||◌, ◌==◌, nat_eq, nat_le, nat_lt, if◌then◌else◌, List, [], ◌∷◌, length, map, codes, Result, Ok, refl}
use Rattle.std.specs.Coded.{Coded, code_by, coded×, coded_ℕ, coded_list}
use Rattle.std.specs.List.{list_all, starts_with}
use Rattle.std.specs.List.Sorted.{IsStrictlySortedBy}
use Rattle.s3_text.specs.Order.{byte_order}
use Rattle.s3_terms.specs.Fault.{refuse, ◌>>◌}
use Rattle.s3_terms.specs.declared.code.Code.{Code}
use Rattle.s3_terms.specs.declared.code.Code.TheVariants.{InvalidArgument, MetadataTooLarge}

-- the name of a header line, and its value
pub record Entry : Type 0 where
  pub name : List ℕ
  pub value : List ℕ

-- how std numbers an entry: by its two texts
abbrev pub coded_entry : Coded Entry
coded_entry =
    code_by (List ℕ × List ℕ) (coded× (coded_list coded_ℕ) (coded_list coded_ℕ))
    (λ e. (e.name, e.value))
    (λ p. record { name = p.0; value = p.1 })
    (λ _. refl)

-- the names, as the entries come
abbrev pub names_in : List Entry → List (List ℕ)
names_in entries = map (λ (entry : Entry). entry.name) entries

-- the names rise in the order of bytes: each is below all that follow, so none comes twice
abbrev pub AreInOrder : List Entry → Type 0
AreInOrder entries = IsStrictlySortedBy byte_order (names_in entries)

-- how the names of user-defined metadata begin: 11 bytes
abbrev pub user_front : List ℕ
user_front = codes "x-amz-meta-"

-- whether an entry is user-defined
abbrev pub is_user_defined : Entry → Bool
is_user_defined entry = starts_with nat_eq entry.name user_front

-- how many bytes the names and the values have
abbrev pub metadata_size : List Entry → ℕ
metadata_size [] = 0
metadata_size (entry ∷ entries) = length entry.name + length entry.value + metadata_size entries

-- how many bytes those of user-defined metadata have, without what the names begin with
abbrev pub user_size_of : Entry → ℕ
user_size_of entry = if is_user_defined entry then (length entry.name - 11) + length entry.value else 0

abbrev pub user_size : List Entry → ℕ
user_size [] = 0
user_size (entry ∷ entries) = user_size_of entry + user_size entries

-- the most bytes of user-defined metadata
abbrev pub user_limit : ℕ
user_limit = 2_048

-- the most bytes of the value of a system-defined entry, as of a media type
abbrev pub value_limit : ℕ
value_limit = 255

-- a byte that is no control byte
abbrev pub is_printed : ℕ → Bool
is_printed byte = nat_le 32 byte && not (byte == 127)

-- what the value of a system-defined entry may be: not too long, and without control bytes
abbrev pub is_plain : List ℕ → Bool
is_plain value = nat_le (length value) value_limit && list_all is_printed value

-- an entry that there may be
abbrev pub is_allowed : Entry → Bool
is_allowed entry = is_user_defined entry || is_plain entry.value

-- the most bytes of all, so that a reply has room for them
abbrev pub metadata_limit : ℕ
metadata_limit = 4_608

-- the metadata that entries are, if they are not too large
unfoldable pub metadata : List Entry → Result (List Entry) Code
metadata entries = do
  refuse (nat_lt user_limit (user_size entries)) MetadataTooLarge
  refuse (not (list_all is_allowed entries)) InvalidArgument
  refuse (nat_lt metadata_limit (metadata_size entries)) MetadataTooLarge
  Ok entries
