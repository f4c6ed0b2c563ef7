-- Metadata with a checksum: its names are in order, and no carriage return is in it.
use Rattle.std.proofs.Common.{◌≡◌, arith, inl, inr, ℕ, Bool, true, false, not, List, [], ◌∷◌, ◌++◌, filter, refl, sym, ap, ◌∙◌, subst, append_assoc, Some, None, Ok}
use Rattle.std.specs.Prelude.{◌&&◌, ◌||◌, ◌==◌, nat_le, nat_lt, nat_eq, length}
use Rattle.std.specs.List.{AllByRecursion, list_all, starts_with}
use Rattle.std.specs.List.Sorted.{IsStrictlySortedBy}
use Rattle.std.specs.Ordering.{is_lt}
use Rattle.std.specs.declared.cmp.Ordering.{Ordering}
use Rattle.std.specs.declared.cmp.Ordering.TheVariants.{Less, Equal, Greater}
use Rattle.std.proofs.lemmas.Bool.{cases_Bool}
use Rattle.std.proofs.lemmas.Bool.Decides.{nat_tests}
use Rattle.std.proofs.lemmas.Cmp.{nat_list_cmp_total}
use Rattle.std.proofs.lemmas.List.Folds.{list_all-append}
use Rattle.std.proofs.lemmas.List.Kept.{IsStrictlySortedBy-filter}
use Rattle.s3_text.specs.Order.{byte_order}
use Rattle.s3_terms.specs.Fault.{refuse, ◌>>◌}
use Rattle.s3_terms.specs.declared.code.Code.{Code}
use Rattle.s3_terms.specs.declared.code.Code.TheVariants.{InvalidArgument, MetadataTooLarge}
use Rattle.s3_terms.proofs.FaultLemmas.{test_ok}
use Rattle.s3_http_heads.specs.Head.{is_unbroken}
use Rattle.s3_integrity.specs.Algorithm.{header_of}
use Rattle.s3_integrity.specs.Sum.{algorithm_of}
use Rattle.s3_integrity.specs.declared.algorithm.ChecksumAlgorithm.{ChecksumAlgorithm}
use Rattle.s3_integrity.specs.declared.algorithm.ChecksumAlgorithm.TheVariants.{Crc32, Crc32c, Crc64Nvme, Sha1, Sha256}
use Rattle.s3_integrity.specs.declared.checksum.Checksum.{Checksum}
use Rattle.s3_versions.specs.Metadata.{Entry, AreInOrder, is_allowed, is_plain, is_printed, is_user_defined, metadata, metadata_limit, metadata_size, names_in, user_front, user_limit, user_size, value_limit}
use Rattle.s3_requests.specs.KeptSum.{entries_limit, is_on_side, metadata_with, stands_on_side, sum_entry, with_entry}
use Rattle.s3_requests.specs.Laws.{SumsAreUnbroken, is_unbroken_entry}

-- ---- the order of names

below : (order : Ordering) → is_lt order ≡ true → order ≡ Less
below Less is = refl
below Equal is = absurd (cc)
below Greater is = absurd (cc)

-- the names of some entries are some of the names
some_names : (p : List ℕ → Bool) (entries : List Entry) → names_in (filter (λ (e : Entry). p e.name) entries) ≡ filter p (names_in entries)
some_names p [] = refl
some_names p (entry ∷ entries) = elim (cases_Bool (p entry.name)) [
  | inl taken ↦ rw taken (ap (λ ns. entry.name ∷ ns) (some_names p entries))
  | inr left ↦ rw left (some_names p entries)
]

some_in_order : (p : List ℕ → Bool) (entries : List Entry) → AreInOrder entries → AreInOrder (filter (λ (e : Entry). p e.name) entries)
some_in_order p entries rise =
    subst (IsStrictlySortedBy byte_order) (sym (some_names p entries)) (IsStrictlySortedBy-filter byte_order p (names_in entries) rise)

-- those on one side stand there
all_before : (name : List ℕ) (entries : List Entry) → AllByRecursion (λ n. byte_order n name ≡ Less) (names_in (filter (is_on_side false name) entries))
all_before name [] = tt
all_before name (entry ∷ entries) = elim (cases_Bool (is_lt (byte_order entry.name name))) [
  | inl taken ↦ rw taken (below (byte_order entry.name name) taken, all_before name entries)
  | inr left ↦ rw left (all_before name entries)
]

all_behind : (name : List ℕ) (entries : List Entry) → AllByRecursion (λ n. byte_order name n ≡ Less) (names_in (filter (is_on_side true name) entries))
all_behind name [] = tt
all_behind name (entry ∷ entries) = elim (cases_Bool (is_lt (byte_order name entry.name))) [
  | inl taken ↦ rw taken (below (byte_order name entry.name) taken, all_behind name entries)
  | inr left ↦ rw left (all_behind name entries)
]

-- what is below a name is below all that are behind it
still_below : (first name : List ℕ) (names : List (List ℕ)) → byte_order first name ≡ Less → AllByRecursion (λ n. byte_order name n ≡ Less) names
    → AllByRecursion (λ n. byte_order first n ≡ Less) names
still_below first name [] less all = tt
still_below first name (n ∷ names) less all = (nat_list_cmp_total.trans first name n less all.0, still_below first name names less all.1)

below_all : (first name : List ℕ) (before behind : List (List ℕ)) → AllByRecursion (λ n. byte_order first n ≡ Less) before
    → byte_order first name ≡ Less → AllByRecursion (λ n. byte_order name n ≡ Less) behind
    → AllByRecursion (λ n. byte_order first n ≡ Less) (before ++ name ∷ behind)
below_all first name [] behind all less more = (less, still_below first name behind less more)
below_all first name (n ∷ before) behind all less more = (all.0, below_all first name before behind all.1 less more)

-- names below one name, this one, and names above it are in order where both are
around : (before behind : List (List ℕ)) (name : List ℕ) → IsStrictlySortedBy byte_order before → AllByRecursion (λ n. byte_order n name ≡ Less) before
    → IsStrictlySortedBy byte_order behind → AllByRecursion (λ n. byte_order name n ≡ Less) behind
    → IsStrictlySortedBy byte_order (before ++ name ∷ behind)
unfolding IsStrictlySortedBy
around [] behind name first less second more = (more, second)
around (n ∷ before) behind name first less second more =
    (below_all n name before behind first.0 less.0 more, around before behind name first.1 less.1 second more)

names_joined : (xs ys : List Entry) → names_in (xs ++ ys) ≡ names_in xs ++ names_in ys
names_joined [] ys = refl
names_joined (x ∷ xs) ys = ap (λ ns. x.name ∷ ns) (names_joined xs ys)

pub in_order : (new : Entry) (entries : List Entry) → AreInOrder entries → AreInOrder (with_entry new entries)
in_order new entries rise =
    let before = filter (is_on_side false new.name) entries in
    let behind = filter (is_on_side true new.name) entries in
    subst (IsStrictlySortedBy byte_order) (sym (names_joined before (new ∷ behind)))
    (around (names_in before) (names_in behind) new.name
    (some_in_order (stands_on_side false new.name) entries rise) (all_before new.name entries)
    (some_in_order (stands_on_side true new.name) entries rise) (all_behind new.name entries))

-- what the code makes of them
pub line_between : (start first second all entries : List Entry) (name : List ℕ) (line new : Entry) → start ≡ []
    → first ≡ start ++ filter (is_on_side false name) entries → line ≡ new → second ≡ first ++ line ∷ []
    → all ≡ second ++ filter (is_on_side true name) entries → name ≡ new.name → all ≡ with_entry new entries
line_between start first second all entries name line new none before is one behind named =
    rw (behind, one, before, none, is, named) (append_assoc (filter (is_on_side false new.name) entries) (new ∷ []) (filter (is_on_side true new.name) entries))

-- ---- no carriage return

both : (a b : Bool) → (a && b) ≡ true → (a ≡ true) × (b ≡ true)
both true b is = (refl, is)
both false b is = absurd (cc)

passed : {A : Type 0} (fault : Bool) (code : Code) (x y : A) → refuse fault code >> Ok x ≡ Ok y → x ≡ y
passed true code x y is = absurd (cc)
passed false code x y is = cc

fails_not : (b : Bool) → not b ≡ false → b ≡ true
fails_not true is = refl
fails_not false is = absurd (cc)

-- metadata is the entries that it was made of, and each may be there
metadata_made : (entries made : List Entry) → metadata entries ≡ Ok made → (entries ≡ made) × (list_all is_allowed entries ≡ true)
unfolding metadata
metadata_made entries made is =
    let few = test_ok (nat_lt user_limit (user_size entries)) MetadataTooLarge _ made is in
    let allowed = test_ok (not (list_all is_allowed entries)) InvalidArgument _ made few.1 in
    (passed (nat_lt metadata_limit (metadata_size entries)) MetadataTooLarge entries made allowed.1, fails_not (list_all is_allowed entries) allowed.0)

printed_unbroken : (b : ℕ) → is_printed b ≡ true → not (b == 13) ≡ true
printed_unbroken b is = grind (arith, nat_tests, is)

all_printed : (bytes : List ℕ) → list_all is_printed bytes ≡ true → is_unbroken bytes ≡ true
all_printed [] all = refl
all_printed (b ∷ bytes) all =
    let parts = both (is_printed b) (list_all is_printed bytes) all in
    rw (printed_unbroken b parts.0) (all_printed bytes parts.1)

-- a checksum's line is none of user-defined metadata
no_user : (algorithm : ChecksumAlgorithm) → starts_with nat_eq (header_of algorithm) user_front ≡ false
no_user Crc32 = refl
no_user Crc32c = refl
no_user Crc64Nvme = refl
no_user Sha1 = refl
no_user Sha256 = refl

name_unbroken : (algorithm : ChecksumAlgorithm) → is_unbroken (header_of algorithm) ≡ true
name_unbroken Crc32 = refl
name_unbroken Crc32c = refl
name_unbroken Crc64Nvme = refl
name_unbroken Sha1 = refl
name_unbroken Sha256 = refl

plain_only : (user plain : Bool) → user ≡ false → (user || plain) ≡ true → plain ≡ true
plain_only true plain none is = absurd (cc)
plain_only false plain none is = is

line_unbroken : (sum : Checksum) → is_allowed (sum_entry sum) ≡ true → is_unbroken_entry (sum_entry sum) ≡ true
line_unbroken sum allowed =
    let value = (sum_entry sum).value in
    let plain = plain_only (is_user_defined (sum_entry sum)) (is_plain value) (no_user (algorithm_of sum)) allowed in
    let printed = (both (nat_le (length value) value_limit) (list_all is_printed value) plain).1 in
    rw (name_unbroken (algorithm_of sum), all_printed value printed) refl

-- what holds of all entries holds of some, and where it holds of all it holds of one between others
some_hold : (p q : Entry → Bool) (entries : List Entry) → list_all p entries ≡ true → list_all p (filter q entries) ≡ true
some_hold p q [] all = refl
some_hold p q (entry ∷ entries) all =
    let parts = both (p entry) (list_all p entries) all in
    elim (cases_Bool (q entry)) [
      | inl taken ↦ rw (taken, parts.0) (some_hold p q entries parts.1)
      | inr left ↦ rw left (some_hold p q entries parts.1)
    ]

between_hold : (p : Entry → Bool) (before behind : List Entry) (entry : Entry) → list_all p before ≡ true → p entry ≡ true → list_all p behind ≡ true
    → list_all p (before ++ entry ∷ behind) ≡ true
between_hold p before behind entry first is second = list_all-append p before (entry ∷ behind) ∙ rw (first, is, second) refl

one_holds : (p : Entry → Bool) (before behind : List Entry) (entry : Entry) → list_all p (before ++ entry ∷ behind) ≡ true → p entry ≡ true
one_holds p [] behind entry all = (both (p entry) (list_all p behind) all).0
one_holds p (e ∷ before) behind entry all = one_holds p before behind entry (both (p e) (list_all p (before ++ entry ∷ behind)) all).1

line_kept : (sum : Checksum) (said kept : List Entry) → metadata_with (sum_entry sum) said ≡ Ok kept → list_all is_unbroken_entry said ≡ true
    → list_all is_unbroken_entry kept ≡ true
unfolding metadata_with
line_kept sum said kept is all =
    let line = sum_entry sum in
    let before = filter (is_on_side false line.name) said in
    let behind = filter (is_on_side true line.name) said in
    let room = test_ok (nat_lt entries_limit (length (with_entry line said))) MetadataTooLarge _ kept is in
    let made = metadata_made (with_entry line said) kept room.1 in
    let whole = line_unbroken sum (one_holds is_allowed before behind line made.1) in
    subst (λ (entries : List Entry). list_all is_unbroken_entry entries ≡ true) made.0
    (between_hold is_unbroken_entry before behind line
    (some_hold is_unbroken_entry (is_on_side false line.name) said all) whole
    (some_hold is_unbroken_entry (is_on_side true line.name) said all))

pub sums_unbroken : SumsAreUnbroken
sums_unbroken None said kept is all = let same : said ≡ kept = cc in subst (λ (entries : List Entry). list_all is_unbroken_entry entries ≡ true) same all
sums_unbroken (Some sum) said kept is all = line_kept sum said kept is all
