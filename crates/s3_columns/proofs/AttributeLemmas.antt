-- What is kept of a media type and metadata gives them back.
use Rattle.std.proofs.Common.{◌≡◌, ℕ, zero, suc, get_or, ◌+◌, ◌<◌, ◌≤◌, Bool, true, false, cond, List, [], ◌∷◌, ◌++◌, length, take, drop, map, Option, Some, None, refl, sym, ap, subst, ◌∙◌, arith}
use Rattle.std.specs.Prelude.{◌&&◌, not, nat_le, nat_lt, unwrap_or, Result, Ok, is_ok}
use Rattle.std.specs.List.{flat_map, list_all, AllByRecursion}
use Rattle.std.specs.Str.{bytes_eq}
use Rattle.std.proofs.lemmas.Bool.{and_parts, and_from, leb-true, le-leb, ltb-false}
use Rattle.std.proofs.lemmas.List.{flat_map_more, map_more}
use Rattle.std.proofs.lemmas.List.Concat.{flat_map-cons}
use Rattle.std.proofs.lemmas.List.Folds.{flat_map-map}
use Rattle.std.proofs.lemmas.Option.{same_Some, cond_some}
use Rattle.std.proofs.lemmas.Slice.Eq.{bytes_eq-Decides}
use Rattle.hex.specs.Hex.{IsBytes}
use Rattle.s3_text.specs.Order.{rises}
use Rattle.s3_terms.specs.Fault.{refuse, ◌>>◌}
use Rattle.s3_terms.specs.declared.code.Code.{Code}
use Rattle.s3_terms.specs.declared.code.Code.TheVariants.{InvalidArgument, MetadataTooLarge}
use Rattle.s3_versions.specs.Metadata.{Entry, names_in, metadata, metadata_size, user_size, is_allowed}
use Rattle.s3_columns.specs.Items.{◌>>=◌}
use Rattle.s3_columns.specs.Pairs.{Pair, pair_spelled, Fits, AreFitting, pairs_spelled, pair_at, pairs_read}
use Rattle.s3_columns.specs.Attributes.{type_name, type_pair, entry_pair, kept_of, type_among, content_type_in, entry_of, metadata_in, AreAllowed}
use Rattle.s3_columns.specs.Reading.{type_at, entry_at, are_entries, entries_read, metadata_read, kept_read}
use Rattle.s3_columns.proofs.ItemLemmas.{bind_some, back_bytes, Reads, all_again, all_back}
use Rattle.s3_columns.proofs.OrderLemmas.{sorted_from_rises, rises_from_sorted}
use Rattle.s3_columns.proofs.PairLemmas.{pair_reads, pairs_again}

-- ---- entries

-- an entry as bytes
abbrev pub entry_spelled : Entry → List ℕ
entry_spelled entry = pair_spelled (entry_pair entry)

abbrev pub EntryFits : Entry → Type 0
EntryFits entry = Fits (entry_pair entry)

entry_shorter : (bytes : List ℕ) (x : Entry × List ℕ) → entry_at bytes ≡ Some x → length x.1 < length bytes
unfolding entry_at
entry_shorter bytes x e =
    let a = bind_some (pair_at bytes) (λ first. Some (entry_of first.0, first.1)) x e in
    subst (λ (y : Entry × List ℕ). length y.1 < length bytes) (same_Some (entry_of a.0.0, a.0.1) x a.2) (pair_reads.shorter bytes a.0 a.1)

entry_again : (entry : Entry) (rest : List ℕ) → EntryFits entry → entry_at (entry_spelled entry ++ rest) ≡ Some (entry, rest)
unfolding entry_at
entry_again entry rest fits = rw (pair_reads.again (entry_pair entry) rest fits) refl

entry_back : (bytes : List ℕ) (x : Entry × List ℕ) → IsBytes bytes → entry_at bytes ≡ Some x → (bytes ≡ entry_spelled x.0 ++ x.1) × EntryFits x.0
unfolding entry_at
entry_back bytes x fits e =
    let a = bind_some (pair_at bytes) (λ first. Some (entry_of first.0, first.1)) x e in
    let same : (bytes ≡ entry_spelled (entry_of a.0.0) ++ a.0.1) × EntryFits (entry_of a.0.0) = pair_reads.back bytes a.0 fits a.1 in
    subst (λ (y : Entry × List ℕ). (bytes ≡ entry_spelled y.0 ++ y.1) × EntryFits y.0) (same_Some (entry_of a.0.0, a.0.1) x a.2) same

pub entry_reads : Reads entry_at entry_spelled EntryFits
entry_reads = record { shorter = entry_shorter; again = entry_again; back = entry_back }

-- entries that are not too large have room
pub entries_fit : (entries : List Entry) → metadata_size entries ≤ 4_608 → AllByRecursion EntryFits entries
entries_fit [] small = tt
entries_fit (entry ∷ entries) small =
    (record { name = omega arith; value = omega arith }, entries_fit entries (omega arith))

pairs_fit : (entries : List Entry) → AllByRecursion EntryFits entries → AreFitting (map entry_pair entries)
pairs_fit [] fit = tt
pairs_fit (entry ∷ entries) fit = (fit.0, pairs_fit entries fit.1)

all_fit : (kind : List ℕ) (entries : List Entry) → length kind ≤ 255 → metadata_size entries ≤ 4_608 → AreFitting (type_pair kind ∷ map entry_pair entries)
all_fit kind entries short small =
    (record { name = omega arith; value = omega arith }, pairs_fit entries (entries_fit entries small))

-- ---- what is kept

-- the media type comes first, and the entries after it
pub kept_parts : (kind : List ℕ) (entries : List Entry) → kept_of kind entries ≡ pair_spelled (type_pair kind) ++ flat_map entry_spelled entries
unfolding kept_of
kept_parts kind entries =
    flat_map-cons pair_spelled (type_pair kind) (map entry_pair entries)
    ∙ ap (λ (t : List ℕ). pair_spelled (type_pair kind) ++ t) (flat_map-map pair_spelled entry_pair entries)

-- they are the pairs that are read
kept_pairs : (kind : List ℕ) (entries : List Entry) → length kind ≤ 255 → metadata_size entries ≤ 4_608
    → pairs_read (kept_of kind entries) ≡ Some (type_pair kind ∷ map entry_pair entries)
unfolding kept_of
kept_pairs kind entries short small = pairs_again (type_pair kind ∷ map entry_pair entries) (all_fit kind entries short small)

pub type_found : (kind : List ℕ) (entries : List Entry) → length kind ≤ 255 → metadata_size entries ≤ 4_608
    → content_type_in (kept_of kind entries) ≡ kind
unfolding content_type_in
type_found kind entries short small = ap (λ read. type_among (unwrap_or read [])) (kept_pairs kind entries short small)

entries_among : (entries : List Entry) → map entry_of (map entry_pair entries) ≡ entries
entries_among [] = refl
entries_among (entry ∷ entries) = ap (λ (rest : List Entry). entry ∷ rest) (entries_among entries)

pub metadata_found : (kind : List ℕ) (entries : List Entry) → length kind ≤ 255 → metadata_size entries ≤ 4_608
    → metadata_in (kept_of kind entries) ≡ entries
unfolding metadata_in
metadata_found kind entries short small =
    ap (λ read. map entry_of (drop 1 (unwrap_or read []))) (kept_pairs kind entries short small) ∙ entries_among entries

-- ---- reading

type_again : (kind rest : List ℕ) → length kind ≤ 255 → type_at (pair_spelled (type_pair kind) ++ rest) ≡ Some (kind, rest)
unfolding type_at
type_again kind rest short =
    let fits : Fits (type_pair kind) = record { name = omega arith; value = omega arith } in
    rw (pair_reads.again (type_pair kind) rest fits) refl

type_back : (bytes : List ℕ) (x : List ℕ × List ℕ) → IsBytes bytes → type_at bytes ≡ Some x → bytes ≡ pair_spelled (type_pair x.0) ++ x.1
unfolding type_at
type_back bytes x fits e =
    let a = bind_some (pair_at bytes) (λ first. cond (bytes_eq first.0.name type_name) (Some (first.0.value, first.1)) None) x e in
    let g = cond_some (bytes_eq a.0.0.name type_name) (a.0.0.value, a.0.1) x a.2 in
    let read = (pair_reads.back bytes a.0 fits a.1).0 in
    let name : a.0.0.name ≡ type_name = (bytes_eq-Decides a.0.0.name type_name).0 g.0 in
    let pair : a.0.0 ≡ type_pair a.0.0.value = ap (λ (t : List ℕ). let p : Pair = record { name = t; value = a.0.0.value } in p) name in
    let same : bytes ≡ pair_spelled (type_pair a.0.0.value) ++ a.0.1 = read ∙ ap (λ (p : Pair). pair_spelled p ++ a.0.1) pair in
    subst (λ (y : List ℕ × List ℕ). bytes ≡ pair_spelled (type_pair y.0) ++ y.1) g.1 same

passed_by : {A : Type 0} (fault : Bool) (code : Code) (rest : Result A Code) → is_ok (refuse fault code >> rest) ≡ true → (fault ≡ false) × (is_ok rest ≡ true)
passed_by true code rest is = absurd cc
passed_by false code rest is = (refl, is)

-- metadata that a rule makes of entries is these, and not too large
rule_parts : (entries : List Entry) → is_ok (metadata entries) ≡ true → (metadata_size entries ≤ 4_608) × (metadata entries ≡ Ok entries)
unfolding metadata
rule_parts entries are =
    let one = passed_by (nat_lt 2_048 (user_size entries)) MetadataTooLarge (refuse (not (list_all is_allowed entries)) InvalidArgument >> (refuse (nat_lt 4_608 (metadata_size entries)) MetadataTooLarge >> Ok entries)) are in
    let two = passed_by (not (list_all is_allowed entries)) InvalidArgument (refuse (nat_lt 4_608 (metadata_size entries)) MetadataTooLarge >> Ok entries) one.1 in
    let three = passed_by (nat_lt 4_608 (metadata_size entries)) MetadataTooLarge (Ok entries) two.1 in
    (ltb-false 4_608 (metadata_size entries) three.0, rw (one.0, two.0, three.0) refl)

-- what is allowed passes the tests, and what passes them is allowed
pub allowed_entries : (entries : List Entry) → are_entries entries ≡ true → (kind : List ℕ) → length kind ≤ 255 → AreAllowed kind entries
allowed_entries entries are kind short =
    let a = and_parts (nat_le (length entries) 64) (is_ok (metadata entries) && rises (names_in entries)) are in
    let b = and_parts (is_ok (metadata entries)) (rises (names_in entries)) a.1 in
    let c = rule_parts entries b.0 in
    record { len = short; count = leb-true _ _ a.0; size = c.0; rule = c.1; order = sorted_from_rises (names_in entries) b.1 }

entries_allowed : (kind : List ℕ) (entries : List Entry) → AreAllowed kind entries → are_entries entries ≡ true
entries_allowed kind entries allowed =
    and_from _ _ (le-leb _ _ allowed.count) (and_from _ _ (ap is_ok allowed.rule) (rises_from_sorted (names_in entries) allowed.order))

pub kept_again : (kind : List ℕ) (entries : List Entry) → AreAllowed kind entries → kept_read (kept_of kind entries) ≡ Some (kind, entries)
unfolding kept_read metadata_read
kept_again kind entries allowed =
    let rest = flat_map entry_spelled entries in
    let type_read = type_again kind rest allowed.len in
    let others = all_again entry_at entry_spelled EntryFits entry_reads entries (entries_fit entries allowed.size) in
    ap kept_read (kept_parts kind entries) ∙ rw (type_read, le-leb (length kind) 255 allowed.len, others, entries_allowed kind entries allowed) refl

entries_back : (bytes : List ℕ) (entries : List Entry) → IsBytes bytes → metadata_read bytes ≡ Some entries → (flat_map entry_spelled entries ≡ bytes) × (are_entries entries ≡ true)
unfolding metadata_read
entries_back bytes entries fits e =
    let a = bind_some (entries_read bytes) (λ read. cond (are_entries read) (Some read) None) entries e in
    let g = cond_some (are_entries a.0) a.0 entries a.2 in
    let others = all_back entry_at entry_spelled EntryFits entry_reads bytes a.0 fits a.1 in
    subst (λ (y : List Entry). (flat_map entry_spelled y ≡ bytes) × (are_entries y ≡ true)) g.1 (others.0, g.0)

cond_none : {A : Type 0} (b : Bool) (o : Option A) (y : A) → cond b o None ≡ Some y → (b ≡ true) × (o ≡ Some y)
cond_none true o y e = (refl, e)
cond_none false o y e = absurd cc

pub kept_back : (bytes : List ℕ) (x : List ℕ × List Entry) → IsBytes bytes → kept_read bytes ≡ Some x → (bytes ≡ kept_of x.0 x.1) × AreAllowed x.0 x.1
unfolding kept_read
kept_back bytes x fits e =
    let a = bind_some (type_at bytes) (λ first. cond (nat_le (length first.0) 255) (metadata_read first.1 >>= λ entries. Some (first.0, entries)) None) x e in
    let g = cond_none (nat_le (length a.0.0) 255) (metadata_read a.0.1 >>= λ entries. Some (a.0.0, entries)) x a.2 in
    let b = bind_some (metadata_read a.0.1) (λ entries. Some (a.0.0, entries)) x g.1 in
    let first = type_back bytes a.0 fits a.1 in
    let others = entries_back a.0.1 b.0 (back_bytes (pair_spelled (type_pair a.0.0)) a.0.1 (subst IsBytes first fits)) b.1 in
    let whole : bytes ≡ kept_of a.0.0 b.0 = first ∙ ap (λ (t : List ℕ). pair_spelled (type_pair a.0.0) ++ t) (sym others.0) ∙ sym (kept_parts a.0.0 b.0) in
    subst (λ (y : List ℕ × List Entry). (bytes ≡ kept_of y.0 y.1) × AreAllowed y.0 y.1) (same_Some (a.0.0, b.0) x b.2) (whole, allowed_entries b.0 others.1 a.0.0 (leb-true _ _ g.0))

-- ---- what is written

-- an entry of metadata that isn't too large is small
pub entry_small : (entries : List Entry) (i : ℕ) (entry : Entry) → i < length entries → entry ≡ get_or entries i entry → metadata_size entries ≤ 4_608
    → length entry.name + length entry.value ≤ 4_608
entry_small [] i entry within is small = absurd (omega arith)
entry_small (first ∷ rest) zero entry within is small = rw is (omega arith)
entry_small (first ∷ rest) (suc i) entry within is small = entry_small rest i entry (omega arith) is (omega arith)

-- one more pair
pub pairs_more : (before : List ℕ) (entries : List Entry) (i : ℕ) (entry : Entry) → i < length entries → entry ≡ get_or entries i entry
    → (before ++ pairs_spelled (map entry_pair (take i entries))) ++ pair_spelled (entry_pair entry) ≡ before ++ pairs_spelled (map entry_pair (take (i + 1) entries))
pairs_more before entries i entry within is =
    flat_map_more pair_spelled before (map entry_pair (take i entries)) (entry_pair entry)
    ∙ ap (λ pairs. before ++ pairs_spelled pairs)
    (ap (λ (e : Entry). map entry_pair (take i entries) ++ entry_pair e ∷ []) is ∙ sym (map_more entry_pair entries i entry within))
