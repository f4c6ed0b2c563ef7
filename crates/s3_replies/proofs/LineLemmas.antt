-- How header lines are joined.
use Rattle.std.proofs.Common.{◌≡◌, ℕ, ◌+◌, ◌-◌, ◌*◌, ◌<◌, ◌≤◌, Bool, true, false, not, List, [], ◌∷◌, ◌++◌, length, get_or, take, drop, map, codes, decimal, refl, sym, ap, ◌∙◌, arith, append-nil, append_assoc, None, Some}
use Rattle.std.specs.Prelude.{if◌then◌else◌}
use Rattle.std.proofs.lemmas.List.{take_all, map-append, length-append}
use Rattle.std.proofs.lemmas.List.Elements.{filter-append}
use Rattle.std.proofs.lemmas.List.Concat.{flat_map-append}
use Rattle.s3_text.specs.Characters.{crlf, space}
use Rattle.s3_terms.specs.declared.status.Status.{Status}
use Rattle.s3_terms.specs.Status.{number_of, reason_phrase}
use Rattle.s3_integrity.specs.Algorithm.{header_of}
use Rattle.s3_integrity.specs.Sum.{algorithm_of}
use Rattle.s3_integrity.specs.declared.algorithm.ChecksumAlgorithm.{ChecksumAlgorithm}
use Rattle.s3_integrity.specs.declared.algorithm.ChecksumAlgorithm.TheVariants.{Crc32, Crc32c, Crc64Nvme, Sha1, Sha256}
use Rattle.s3_integrity.specs.declared.checksum.Checksum.{Checksum}
use Rattle.s3_versions.specs.Metadata.{Entry, metadata_size}
use Rattle.s3_replies.specs.declared.lines.Entries.{Entries}
use Rattle.s3_replies.specs.declared.lines.Entries.TheVariants.{All, ButChecksums, Freshness}
use Rattle.s3_replies.specs.Lines.{Line, print_lines, metadata_line, is_overridden, entries_left, type_left, value_length, entries_told, told_of, all_told, freshness_entries, other_entries, tells_checksum, tells_freshness, quoted, status_line}

-- some lines, and some more behind them
pub more_lines : (start : List ℕ) (lines more : List Line) → start ++ print_lines lines ++ print_lines more ≡ start ++ print_lines (lines ++ more)
unfolding print_lines
more_lines start lines more = simp (flat_map-append, append_assoc)

-- a status line, lines in three parts and what ends them, behind a text
pub head_lines : (start status : List ℕ) (first second third : List Line) (end : List ℕ) → start ++ status ++ print_lines first ++ print_lines second ++ print_lines third ++ end ≡ start ++ (status ++ print_lines (first ++ second ++ third) ++ end)
unfolding print_lines
head_lines start status first second third end = simp (flat_map-append, append_assoc)

-- a status line is its five parts, written one behind another
pub status_parts : (start v d p r e : List ℕ) (status : Status) → v ≡ start ++ codes "HTTP/1.1 " → d ≡ v ++ decimal (number_of status) → p ≡ d ++ space ∷ []
    → r ≡ p ++ reason_phrase status → e ≡ r ++ crlf → e ≡ start ++ status_line status
unfolding status_line
status_parts start v d p r e status version digits gap reason end = rw (end, reason, gap, digits, version) (simp append_assoc)

-- a header line is its four parts
pub line_parts : (start n m v e name value : List ℕ) → n ≡ start ++ name → m ≡ n ++ codes ": "
    → v ≡ m ++ value → e ≡ v ++ crlf → e ≡ start ++ print_lines ((name, value) ∷ [])
unfolding print_lines
line_parts start n m v e name value named middle valued end = rw (end, valued, middle, named) (simp append_assoc)

-- so is one whose value is quoted
pub quoted_parts : (start n m v e name text : List ℕ) → n ≡ start ++ name → m ≡ n ++ codes ": \""
    → v ≡ m ++ text → e ≡ v ++ codes "\"\r\n" → e ≡ start ++ print_lines ((name, quoted text) ∷ [])
unfolding print_lines
quoted_parts start n m v e name text named middle valued end = rw (end, valued, middle, named) (simp append_assoc)

-- the name of a checksum's line is short
pub short_name : (sum : Checksum) (name : List ℕ) → name ≡ header_of (algorithm_of sum) → length name ≤ 24
short_name sum name is = named (algorithm_of sum) (ap length is) where
  named : (algorithm : ChecksumAlgorithm) → length name ≡ length (header_of algorithm) → length name ≤ 24
  named Crc32 same = omega (arith, same)
  named Crc32c same = omega (arith, same)
  named Crc64Nvme same = omega (arith, same)
  named Sha1 same = omega (arith, same)
  named Sha256 same = omega (arith, same)

-- no entries have no lines
pub no_entries : (start : List ℕ) (tells : Entries) (overrides entries : List Entry) → length entries < 1
    → start ≡ start ++ print_lines (map metadata_line (told_of tells overrides entries))
unfolding print_lines
no_entries start All overrides [] none = sym (append-nil start)
no_entries start ButChecksums overrides [] none = sym (append-nil start)
no_entries start Freshness overrides [] none = sym (append-nil start)
no_entries start tells overrides (entry ∷ entries) none = absurd (omega (arith, none))

-- entries are the first one and the rest of them
pub first_entry : (entries : List Entry) (entry : Entry) → 1 ≤ length entries → entry ≡ get_or entries 0 entry → entries ≡ entry ∷ take (length entries - 1) (drop 1 entries)
first_entry [] entry some first = absurd (omega (arith, some))
first_entry (e ∷ entries) entry some first = rw first (ap (λ rest. e ∷ rest) (sym (take_all _ entries (omega arith))))

one_kept : (is : Bool) (entry : Entry) (entries : List Entry) → (if is then entry ∷ entries else entries) ≡ (if is then entry ∷ [] else []) ++ entries
one_kept true entry entries = refl
one_kept false entry entries = refl

fresh_entries : (entries more : List Entry) → freshness_entries (entries ++ more) ≡ freshness_entries entries ++ freshness_entries more
fresh_entries entries more = filter-append tells_freshness entries more

others_joined : (entries more : List Entry) → other_entries (entries ++ more) ≡ other_entries entries ++ other_entries more
others_joined entries more = filter-append (λ (entry : Entry). not (tells_checksum entry)) entries more

-- those that are told are those of the first one and those of the rest
told_entries : (tells : Entries) (overrides entries : List Entry) (entry : Entry) (rest : List Entry) → entries ≡ entry ∷ rest
    → told_of tells overrides entries ≡ told_of tells overrides (entry ∷ []) ++ told_of tells overrides rest
told_entries All overrides entries entry rest split =
    ap (entries_left overrides) split ∙ one_kept (not (is_overridden overrides entry.name)) entry (entries_left overrides rest)
told_entries ButChecksums overrides entries entry rest split =
    ap (λ (es : List Entry). other_entries (entries_left overrides es)) split
    ∙ ap other_entries (one_kept (not (is_overridden overrides entry.name)) entry (entries_left overrides rest))
    ∙ others_joined (entries_left overrides (entry ∷ [])) (entries_left overrides rest)
told_entries Freshness overrides entries entry rest split =
    ap (λ (es : List Entry). freshness_entries (entries_left overrides es)) split
    ∙ ap freshness_entries (one_kept (not (is_overridden overrides entry.name)) entry (entries_left overrides rest))
    ∙ fresh_entries (entries_left overrides (entry ∷ [])) (entries_left overrides rest)

size-append : (xs ys : List Entry) → metadata_size (xs ++ ys) ≡ metadata_size xs + metadata_size ys
size-append [] ys = omega arith
size-append (entry ∷ xs) ys = omega (arith, size-append xs ys)

-- so are their sizes, with the 4 bytes that stand beside each
pub told_room : (tells : Entries) (overrides entries : List Entry) (entry : Entry) (rest : List Entry) → entries ≡ entry ∷ rest
    → metadata_size (told_of tells overrides entries) + 4 * length (told_of tells overrides entries)
    ≡ (metadata_size (told_of tells overrides (entry ∷ [])) + 4 * length (told_of tells overrides (entry ∷ [])))
    + (metadata_size (told_of tells overrides rest) + 4 * length (told_of tells overrides rest))
told_room tells overrides entries entry rest split =
    let one = told_of tells overrides (entry ∷ []) in
    let more = told_of tells overrides rest in
    let all = told_entries tells overrides entries entry rest split in
    omega (arith, ap metadata_size all, ap length all, size-append one more, length-append one more)

-- and their lines
pub told_lines : (start : List ℕ) (tells : Entries) (overrides entries : List Entry) (entry : Entry) (rest : List Entry) → entries ≡ entry ∷ rest
    → start ++ print_lines (map metadata_line (told_of tells overrides (entry ∷ []))) ++ print_lines (map metadata_line (told_of tells overrides rest))
    ≡ start ++ print_lines (map metadata_line (told_of tells overrides entries))
told_lines start tells overrides entries entry rest split =
    let one = told_of tells overrides (entry ∷ []) in
    let more = told_of tells overrides rest in
    more_lines start (map metadata_line one) (map metadata_line more)
    ∙ ap (λ lines. start ++ print_lines lines)
    (sym (map-append metadata_line one more) ∙ ap (map metadata_line) (sym (told_entries tells overrides entries entry rest split)))

-- where nothing stands in the place of others, all are left
none_overridden : (entries : List Entry) → entries_left [] entries ≡ entries
none_overridden [] = refl
none_overridden (entry ∷ entries) = ap (λ rest. entry ∷ rest) (none_overridden entries)

-- the lines of what is kept and of what stands in the place of some of that
pub shown_lines : (tells : Entries) (overrides entries : List Entry)
    → map metadata_line (told_of tells overrides entries) ++ map metadata_line (told_of tells [] overrides)
    ≡ map metadata_line (all_told tells overrides entries)
shown_lines tells overrides entries =
    ap (λ es. map metadata_line (told_of tells overrides entries) ++ map metadata_line (entries_told tells es)) (none_overridden overrides)
    ∙ sym (map-append metadata_line (told_of tells overrides entries) (entries_told tells overrides))

-- and how much room they take, with the 4 bytes that stand beside each
pub shown_room : (tells : Entries) (overrides entries : List Entry)
    → (metadata_size (told_of tells overrides entries) + 4 * length (told_of tells overrides entries))
    + (metadata_size (told_of tells [] overrides) + 4 * length (told_of tells [] overrides))
    ≡ metadata_size (all_told tells overrides entries)
    + 4 * length (all_told tells overrides entries)
shown_room tells overrides entries =
    let left = told_of tells overrides entries in
    let set = entries_told tells overrides in
    let same = ap (entries_told tells) (none_overridden overrides) in
    omega (arith, size-append left set, length-append left set, ap metadata_size same, ap length same)

kept_size : (is : Bool) (entry : Entry) (kept all : List Entry) → metadata_size kept ≤ metadata_size all → metadata_size (if is then entry ∷ kept else kept) ≤ metadata_size (entry ∷ all)
kept_size true entry kept all fits = omega (arith, fits)
kept_size false entry kept all fits = omega (arith, fits)

kept_count : (is : Bool) (entry : Entry) (kept all : List Entry) → length kept ≤ length all → length (if is then entry ∷ kept else kept) ≤ length (entry ∷ all)
kept_count true entry kept all fits = omega (arith, fits)
kept_count false entry kept all fits = omega (arith, fits)

-- those that are left, those that tell no checksum, and those that tell of freshness, are no more than there are, and no larger
size-left : (overrides entries : List Entry) → metadata_size (entries_left overrides entries) ≤ metadata_size entries
size-left overrides [] = omega arith
size-left overrides (entry ∷ entries) =
    kept_size (not (is_overridden overrides entry.name)) entry (entries_left overrides entries) entries (size-left overrides entries)

count-left : (overrides entries : List Entry) → length (entries_left overrides entries) ≤ length entries
count-left overrides [] = omega arith
count-left overrides (entry ∷ entries) =
    kept_count (not (is_overridden overrides entry.name)) entry (entries_left overrides entries) entries (count-left overrides entries)

size-others : (entries : List Entry) → metadata_size (other_entries entries) ≤ metadata_size entries
size-others [] = omega arith
size-others (entry ∷ entries) = kept_size (not (tells_checksum entry)) entry (other_entries entries) entries (size-others entries)

count-others : (entries : List Entry) → length (other_entries entries) ≤ length entries
count-others [] = omega arith
count-others (entry ∷ entries) = kept_count (not (tells_checksum entry)) entry (other_entries entries) entries (count-others entries)

size-freshness : (entries : List Entry) → metadata_size (freshness_entries entries) ≤ metadata_size entries
size-freshness [] = omega arith
size-freshness (entry ∷ entries) = kept_size (tells_freshness entry) entry (freshness_entries entries) entries (size-freshness entries)

count-freshness : (entries : List Entry) → length (freshness_entries entries) ≤ length entries
count-freshness [] = omega arith
count-freshness (entry ∷ entries) = kept_count (tells_freshness entry) entry (freshness_entries entries) entries (count-freshness entries)

-- so a head has room for all of them
pub size-told : (tells : Entries) (overrides entries : List Entry) → metadata_size entries ≤ 4_608 → metadata_size overrides ≤ 2_048
    → metadata_size (all_told tells overrides entries) ≤ 6_656
size-told All overrides entries kept set =
    omega (arith, size-append (entries_left overrides entries) overrides, size-left overrides entries, kept, set)
size-told ButChecksums overrides entries kept set =
    let left = entries_left overrides entries in
    omega (
      arith,
      size-append (other_entries left) (other_entries overrides),
      size-others left,
      size-left overrides entries,
      size-others overrides,
      kept,
      set,
    )
size-told Freshness overrides entries kept set =
    let left = entries_left overrides entries in
    omega (
      arith,
      size-append (freshness_entries left) (freshness_entries overrides),
      size-freshness left,
      size-left overrides entries,
      size-freshness overrides,
      kept,
      set,
    )

pub count-told : (tells : Entries) (overrides entries : List Entry) → length entries ≤ 64 → length overrides ≤ 6
    → length (all_told tells overrides entries) ≤ 70
count-told All overrides entries kept set =
    omega (arith, length-append (entries_left overrides entries) overrides, count-left overrides entries, kept, set)
count-told ButChecksums overrides entries kept set =
    let left = entries_left overrides entries in
    omega (
      arith,
      length-append (other_entries left) (other_entries overrides),
      count-others left,
      count-left overrides entries,
      count-others overrides,
      kept,
      set,
    )
count-told Freshness overrides entries kept set =
    let left = entries_left overrides entries in
    omega (
      arith,
      length-append (freshness_entries left) (freshness_entries overrides),
      count-freshness left,
      count-left overrides entries,
      count-freshness overrides,
      kept,
      set,
    )

-- a media type is no longer where another one may stand in its place
type_length : (overridden : Bool) (kind : List ℕ) → length kind ≤ 255 → value_length (if overridden then None else Some kind) ≤ 255
type_length true kind fits = omega arith
type_length false kind fits = fits

pub type_fits : (overrides : List Entry) (kind : List ℕ) → length kind ≤ 255 → value_length (type_left overrides kind) ≤ 255
type_fits overrides kind fits = type_length (is_overridden overrides (codes "content-type")) kind fits
