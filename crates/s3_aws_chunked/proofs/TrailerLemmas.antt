-- A trailer as it is read is one as it is written.
use Rattle.std.proofs.Common.{◌≡◌, ℕ, ◌+◌, ◌-◌, ◌≤◌, Bool, true, false, not, ◌&&◌, nat_le, nat_lt, if◌then◌else◌, List, [], ◌∷◌, ◌++◌, length, take, drop, refl, sym, ap, ◌∙◌, subst, arith, length-append, leb-true, ltb-true, ltb-false, le-leb, inl, inr, ⊎_elim, Option, Some, None}
use Rattle.std.proofs.lemmas.Bool.{and_parts, and_from, cases_Bool, false≢true}
use Rattle.std.proofs.lemmas.List.{append-nil, length_push, length-map, length-drop, length-take-le, take-append-drop, take_at, drop_at, drop-drop}
use Rattle.std.proofs.lemmas.Option.{none-some}
use Rattle.std.proofs.lemmas.Slice.Eq.{bytes_eq-Decides}
use Rattle.std.proofs.lemmas.List.Folds.{list_all-append}
use Rattle.std.specs.Char.{is_ascii_graphic, to_ascii_lowercase}
use Rattle.std.specs.List.{list_all}
use Rattle.std.specs.Str.{bytes_eq, str_eq_ignore_ascii_case, str_to_ascii_lowercase}
use Rattle.sha2.specs.Sha256.{sha256}
use Rattle.s3_text.specs.Characters.{colon, crlf}
use Rattle.s3_text.specs.Digest.{is_hex_digest}
use Rattle.s3_signing.specs.Chain.{Link, trailer_signature}
use Rattle.s3_unsigned_chunks.specs.Body.{IsGap, is_value}
use Rattle.s3_aws_chunked.specs.Trailer.{IsTrailer, behind_line, checksum_line, digest_in, is_line, line_text, signature_at, signature_fault, signature_name, signed_line, told_in, trailer_fault, value_in, value_of_trailer, without_gap}
use Rattle.s3_aws_chunked.specs.declared.phase.Fault.{Fault}
use Rattle.s3_aws_chunked.specs.declared.phase.Fault.TheVariants.{Invalid, Forged}
use Rattle.s3_aws_chunked.proofs.TextLemmas.{digest_length}

-- ---- one line

-- two names that are the same but for the case are as long as each other
same_length : (one other : List ℕ) → str_eq_ignore_ascii_case one other ≡ true → length one ≡ length other
same_length one other is =
    let same : str_to_ascii_lowercase one ≡ str_to_ascii_lowercase other = (bytes_eq-Decides _ _).0 is in
    sym (length-map one to_ascii_lowercase) ∙ ap length same ∙ length-map other to_ascii_lowercase

-- a line as it is read
pub record Line (name line value : List ℕ) : Type 0 where
  pub spelled : List ℕ
  pub named : str_eq_ignore_ascii_case spelled name ≡ true
  pub written : line ≡ line_text spelled value

pub line_read : (name line : List ℕ) → length name + 3 ≤ length line → is_line name line ≡ true → Line name line (value_in name line)
line_read name line long is =
    let behind : List ℕ = drop (length name) line in
    let rest : List ℕ = drop 1 behind in
    let all = and_parts (str_eq_ignore_ascii_case (take (length name) line) name && bytes_eq (take 1 behind) (colon ∷ [])) (bytes_eq (drop (length rest - 2) rest) crlf) is in
    let both = and_parts (str_eq_ignore_ascii_case (take (length name) line) name) (bytes_eq (take 1 behind) (colon ∷ [])) all.0 in
    let first : take 1 behind ≡ colon ∷ [] = (bytes_eq-Decides (take 1 behind) (colon ∷ [])).0 both.1 in
    let last : drop (length rest - 2) rest ≡ crlf = (bytes_eq-Decides (drop (length rest - 2) rest) crlf).0 all.1 in
    let one : length behind ≡ length line - length name = length-drop (length name) line in
    let two : length rest ≡ length behind - 1 = length-drop 1 behind in
    let count : length rest - 2 ≡ length line - 2 - (length name + 1) = omega (arith, one, two, long) in
    let there : rest ≡ drop (length name + 1) line = drop-drop 1 (length name) line in
    let value : take (length rest - 2) rest ≡ value_in name line = ap (λ n. take n rest) count ∙ ap (take (length line - 2 - (length name + 1))) there in
    record {
      spelled = take (length name) line;
      named = both.0;
      written =
          sym (take-append-drop (length name) line)
          ∙ ap (λ t. take (length name) line ++ t)
          (sym (take-append-drop 1 behind)
          ∙ ap (λ t. t ++ rest) first
          ∙ ap (λ t. colon ∷ [] ++ t)
          (sym (take-append-drop (length rest - 2) rest)
          ∙ ap (λ t. t ++ drop (length rest - 2) rest) value
          ∙ ap (λ t. value_in name line ++ t) last));
    }

-- what is written so is a line, with its value
pub line_written : (name line value : List ℕ) → Line name line value → (is_line name line ≡ true) × (value_in name line ≡ value)
line_written name line value l =
    let same : length l.spelled ≡ length name = same_length l.spelled name l.named in
    let tail : List ℕ = value ++ crlf in
    let front : take (length name) line ≡ l.spelled = ap (take (length name)) l.written ∙ take_at l.spelled (colon ∷ [] ++ tail) (length name) same in
    let behind : drop (length name) line ≡ colon ∷ tail = ap (drop (length name)) l.written ∙ drop_at l.spelled (colon ∷ [] ++ tail) (length name) same in
    let long : length tail ≡ length value + 2 = length-append value crlf in
    let count : length value ≡ length tail - 2 = omega (arith, long) in
    let end : drop (length tail - 2) tail ≡ crlf = drop_at value crlf (length tail - 2) count in
    let whole : length line ≡ length l.spelled + length (colon ∷ tail) = ap length l.written ∙ length-append l.spelled (colon ∷ [] ++ tail) in
    let room : length value ≡ length line - 2 - (length name + 1) = omega (arith, whole, long, same) in
    let rest : drop (length name + 1) line ≡ tail = sym (drop-drop 1 (length name) line) ∙ ap (drop 1) behind in (
      rw (front, behind)
          (and_from (str_eq_ignore_ascii_case l.spelled name && true) (bytes_eq (drop (length tail - 2) tail) crlf)
          (and_from (str_eq_ignore_ascii_case l.spelled name) true l.named refl)
          ((bytes_eq-Decides (drop (length tail - 2) tail) crlf).1 end)),
      ap (λ t. take (length line - 2 - (length name + 1)) t) rest ∙ take_at value crlf _ room,
    )

-- ---- what stands behind a value

if_same : (test : Bool) (front text : List ℕ) → test ≡ true → (if test then front else text) ≡ front
if_same true front text is = refl
if_same false front text is = absurd (false≢true is)

if_other : (test : Bool) (front text : List ℕ) → test ≡ false → (if test then front else text) ≡ text
if_other true front text is = absurd (false≢true (sym is))
if_other false front text is = refl

-- a text is what is left of it, and a gap
pub gap_found : (text : List ℕ) → (gap : List ℕ) × IsGap gap × (text ≡ without_gap text ++ gap)
unfolding without_gap
gap_found text =
    let n = length text - 1 in
    ⊎_elim
    (λ (h : bytes_eq (drop n text) (10 ∷ []) ≡ true).
    let last : drop n text ≡ 10 ∷ [] = (bytes_eq-Decides (drop n text) (10 ∷ [])).0 h in (
      10 ∷ [],
      inr refl,
      sym (take-append-drop n text)
          ∙ ap (λ t. take n text ++ t) last
          ∙ ap (λ t. t ++ 10 ∷ []) (sym (if_same _ (take n text) text h)),
    ))
    (λ (h : bytes_eq (drop n text) (10 ∷ []) ≡ false).
    ([], inl refl, sym (if_other _ (take n text) text h) ∙ sym (append-nil _)))
    (cases_Bool (bytes_eq (drop n text) (10 ∷ [])))

graphic_end : (front : List ℕ) → list_all is_ascii_graphic (front ++ 10 ∷ []) ≡ true → false ≡ true
graphic_end front all = (and_parts (list_all is_ascii_graphic front) false (sym (list_all-append is_ascii_graphic front (10 ∷ [])) ∙ all)).1

-- a value and a gap are read as the value
pub gap_left : (value gap : List ℕ) → is_value value ≡ true → IsGap gap → without_gap (value ++ gap) ≡ value
unfolding without_gap
gap_left value gap is parted =
    ⊎_elim
    (λ (none : gap ≡ []). ap (λ g. without_gap (value ++ g)) none ∙ ap without_gap (append-nil value) ∙ kept)
    (λ (one : gap ≡ 10 ∷ []). ap (λ g. without_gap (value ++ g)) one ∙ gone)
    parted
  where
    n : ℕ
    n = length value - 1

    kept : without_gap value ≡ value
    kept =
        ⊎_elim
        (λ (h : bytes_eq (drop n value) (10 ∷ []) ≡ true).
        let last : drop n value ≡ 10 ∷ [] = (bytes_eq-Decides (drop n value) (10 ∷ [])).0 h in
        let all : list_all is_ascii_graphic value ≡ true = (and_parts (nat_le 1 (length value) && nat_le (length value) 64) (list_all is_ascii_graphic value) is).1 in
        absurd (false≢true (graphic_end (take n value) (ap (list_all is_ascii_graphic) (ap (λ t. take n value ++ t) (sym last) ∙ take-append-drop n value) ∙ all))))
        (λ (h : bytes_eq (drop n value) (10 ∷ []) ≡ false). if_other _ (take n value) value h)
        (cases_Bool (bytes_eq (drop n value) (10 ∷ [])))

    gone : without_gap (value ++ 10 ∷ []) ≡ value
    gone =
        let long : length (value ++ 10 ∷ []) ≡ length value + 1 = length_push value 10 in
        let count : length value ≡ length (value ++ 10 ∷ []) - 1 = omega (arith, long) in
        let last : drop (length (value ++ 10 ∷ []) - 1) (value ++ 10 ∷ []) ≡ 10 ∷ [] = drop_at value (10 ∷ []) _ count in
        if_same _ (take (length (value ++ 10 ∷ []) - 1) (value ++ 10 ∷ [])) (value ++ 10 ∷ []) ((bytes_eq-Decides _ (10 ∷ [])).1 last)
        ∙ take_at value (10 ∷ []) _ count

-- how long a gap is
pub gap_length : (gap : List ℕ) → IsGap gap → length gap ≤ 1
gap_length gap parted =
    ⊎_elim
    (λ (none : gap ≡ []). let long : length gap ≡ 0 = ap length none in omega (arith, long))
    (λ (one : gap ≡ 10 ∷ []). let long : length gap ≡ 1 = ap length one in omega (arith, long))
    parted

-- ---- a trailer

-- a trailer with which nothing is wrong
pub record Right (link : Link) (name text : List ℕ) : Type 0 where
  pub room : length name + 96 ≤ length text
  pub seal : List ℕ
  pub is : IsTrailer name text (told_in name (checksum_line text)) seal
  pub sealed : seal ≡ trailer_signature link (sha256 (signed_line name (told_in name (checksum_line text))))

-- the signature that was found
record Found (text seal : List ℕ) : Type 0 where
  line : is_line signature_name (take 90 (behind_line text)) ≡ true
  ends : drop 90 (behind_line text) ≡ crlf
  form : is_hex_digest seal ≡ true
  same : value_in signature_name (take 90 (behind_line text)) ≡ seal

some_of : (one other : List ℕ) → ◌≡◌ {A = Option (List ℕ)} (Some one) (Some other) → one ≡ other
some_of one other is = ap (λ (x : Option (List ℕ)). given x) is
  where
    given : Option (List ℕ) → List ℕ
    given None = one
    given (Some text) = text

digest_found : (text seal : List ℕ) (test : Bool) → is_hex_digest text ≡ test → digest_in text ≡ Some seal → (is_hex_digest seal ≡ true) × (text ≡ seal)
digest_found text seal true is found =
    let same : text ≡ seal = some_of text seal (sym (rw is refl) ∙ found) in
    (subst (λ (t : List ℕ). is_hex_digest t ≡ true) same is, same)
digest_found text seal false is found = absurd (none-some seal (sym (rw is refl) ∙ found))

signature_found : (text seal : List ℕ) (line ends : Bool) → is_line signature_name (take 90 (behind_line text)) ≡ line → bytes_eq (drop 90 (behind_line text)) crlf ≡ ends → signature_at text ≡ Some seal → Found text seal
signature_found text seal true true h k found =
    let digest = digest_found (value_in signature_name (take 90 (behind_line text))) seal _ refl (sym (rw (h, k) refl) ∙ found) in
    record { line = h; ends = (bytes_eq-Decides _ _).0 k; form = digest.0; same = digest.1 }
signature_found text seal true false h k found = absurd (none-some seal (sym (rw (h, k) refl) ∙ found))
signature_found text seal false ends h k found = absurd (none-some seal (sym (rw h refl) ∙ found))

seal_found : (link : Link) (text hash : List ℕ) (found : Option (List ℕ)) → signature_at text ≡ found → signature_fault link hash found ≡ None → (seal : List ℕ) × Found text seal × (seal ≡ trailer_signature link hash)
seal_found link text hash None is none = absurd (none-some Invalid (sym none))
seal_found link text hash (Some seal) is none =
    (seal, signature_found text seal _ _ refl refl is, right (bytes_eq seal (trailer_signature link hash)) refl none)
  where
    right : (test : Bool) → bytes_eq seal (trailer_signature link hash) ≡ test → (if test then None else Some Forged) ≡ None → seal ≡ trailer_signature link hash
    right true h none' = (bytes_eq-Decides _ _).0 h
    right false h none' = absurd (none-some Forged (sym none'))

-- the fault is none where each test passes
tests : (short line value : Bool) (rest : Option Fault) → (if short then Some Invalid else if not line then Some Invalid else if not value then Some Invalid else rest) ≡ None → (short ≡ false) × (line ≡ true) × (value ≡ true) × (rest ≡ None)
tests true line value rest is = absurd (none-some Invalid (sym is))
tests false false value rest is = absurd (none-some Invalid (sym is))
tests false true false rest is = absurd (none-some Invalid (sym is))
tests false true true rest is = (refl, refl, refl, is)

pub trailer_right : (link : Link) (name text : List ℕ) → trailer_fault link name text ≡ None → Right link name text
unfolding trailer_fault
trailer_right link name text none =
    let line = checksum_line text in
    let value : List ℕ = told_in name line in
    let gap = gap_found (value_in name line) in
    let hash : List ℕ = sha256 (signed_line name value) in
    let all = tests (nat_lt (length text) (length name + 96)) (is_line name line) (is_value value) (signature_fault link hash (signature_at text)) none in
    let room : length name + 96 ≤ length text = ltb-false _ _ all.0 in
    let seal = seal_found link text hash (signature_at text) refl all.3 in
    let found = seal.1 in
    let cut : length line ≡ length text - 92 = length-take-le (length text - 92) text (omega arith) in
    let behind : length (behind_line text) ≡ length text - (length text - 92) = length-drop (length text - 92) text in
    let ninety : length (take 90 (behind_line text)) ≡ 90 = length-take-le 90 (behind_line text) (omega (arith, behind, room)) in
    let first = line_read name line (omega (arith, cut, room)) all.1 in
    let second = line_read signature_name (take 90 (behind_line text)) (omega (arith, ninety)) found.line in
    record {
      room = room;
      seal = seal.0;
      is = record {
        spelled = first.spelled;
        gap = gap.0;
        label = second.spelled;
        named = first.named;
        labelled = second.named;
        valued = all.2;
        parted = gap.1;
        signed = found.form;
        written =
            sym (take-append-drop (length text - 92) text)
            ∙ ap (λ t. t ++ behind_line text) (first.written ∙ ap (line_text first.spelled) gap.2)
            ∙ ap (λ t. line_text first.spelled (value ++ gap.0) ++ t)
            (sym (take-append-drop 90 (behind_line text))
            ∙ ap (λ t. t ++ drop 90 (behind_line text)) (second.written ∙ ap (line_text second.spelled) found.same)
            ∙ ap (λ t. line_text second.spelled seal.0 ++ t) found.ends);
      };
      sealed = seal.2;
    }

-- ---- and back

long_line : (name value : List ℕ) → length (line_text name value) ≡ length name + length value + 3
long_line name value =
    let whole : length (line_text name value) ≡ length name + length (colon ∷ [] ++ (value ++ crlf)) = length-append name (colon ∷ [] ++ (value ++ crlf)) in
    let rest : length (value ++ crlf) ≡ length value + 2 = length-append value crlf in
    omega (arith, whole, rest)

-- what a trailer's length is
pub long_trailer : (name text value seal : List ℕ) → (t : IsTrailer name text value seal) → length text ≡ length name + length value + length t.gap + 95
long_trailer name text value seal t =
    let told : List ℕ = value ++ t.gap in
    let both : length told ≡ length value + length t.gap = length-append value t.gap in
    let first = long_line t.spelled told in
    let second = long_line t.label seal in
    let whole : length text ≡ length (line_text t.spelled told) + length (line_text t.label seal ++ crlf) = ap length t.written ∙ length-append (line_text t.spelled told) (line_text t.label seal ++ crlf) in
    let rest : length (line_text t.label seal ++ crlf) ≡ length (line_text t.label seal) + 2 = length-append (line_text t.label seal) crlf in
    omega (arith, both, first, second, whole, rest, same_length t.spelled name t.named, same_length t.label signature_name t.labelled, digest_length seal t.signed)

-- the value of a trailer is what stands there
pub record Parts (name text value seal : List ℕ) : Type 0 where
  pub line : is_line name (checksum_line text) ≡ true
  pub said : told_in name (checksum_line text) ≡ value
  pub signature : signature_at text ≡ Some seal

pub trailer_parts : (name text value seal : List ℕ) → IsTrailer name text value seal → Parts name text value seal
trailer_parts name text value seal t =
    let told : List ℕ = value ++ t.gap in
    let both : length told ≡ length value + length t.gap = length-append value t.gap in
    let first : List ℕ = line_text t.spelled told in
    let second : List ℕ = line_text t.label seal in
    let named = same_length t.spelled name t.named in
    let labelled = same_length t.label signature_name t.labelled in
    let whole = long_trailer name text value seal t in
    let count : length first ≡ length text - 92 = omega (arith, whole, both, long_line t.spelled told, named) in
    let ninety : length second ≡ 90 = omega (arith, long_line t.label seal, labelled, digest_length seal t.signed) in
    let line : checksum_line text ≡ first = ap (take (length text - 92)) t.written ∙ take_at first (second ++ crlf) (length text - 92) count in
    let behind : behind_line text ≡ second ++ crlf = ap (drop (length text - 92)) t.written ∙ drop_at first (second ++ crlf) (length text - 92) count in
    let label : take 90 (behind_line text) ≡ second = ap (take 90) behind ∙ take_at second crlf 90 ninety in
    let end : drop 90 (behind_line text) ≡ crlf = ap (drop 90) behind ∙ drop_at second crlf 90 ninety in
    let one = line_written name (checksum_line text) told (record { spelled = t.spelled; named = t.named; written = line }) in
    let two = line_written signature_name (take 90 (behind_line text)) seal (record { spelled = t.label; named = t.labelled; written = label }) in
    let ends : bytes_eq (drop 90 (behind_line text)) crlf ≡ true = (bytes_eq-Decides _ _).1 end in
    record {
      line = one.0;
      said = ap without_gap one.1 ∙ gap_left value t.gap t.valued t.parted;
      signature = rw (two.0, ends, two.1, t.signed) refl;
    }

-- a value has some bytes, and not too many
pub value_bounds : (value : List ℕ) → is_value value ≡ true → (1 ≤ length value) × (length value ≤ 64)
value_bounds value is =
    let both = and_parts (nat_le 1 (length value)) (nat_le (length value) 64) (and_parts (nat_le 1 (length value) && nat_le (length value) 64) _ is).0 in
    (leb-true _ _ both.0, leb-true _ _ both.1)

pub trailer_passes : (link : Link) (name text value seal : List ℕ) → IsTrailer name text value seal → seal ≡ trailer_signature link (sha256 (signed_line name value)) → trailer_fault link name text ≡ None
unfolding trailer_fault
trailer_passes link name text value seal t sealed =
    let parts = trailer_parts name text value seal t in
    let bounds = value_bounds value t.valued in
    let whole = long_trailer name text value seal t in
    let short : nat_lt (length text) (length name + 96) ≡ false = not_less (length text) (length name + 96) (omega (arith, whole, bounds.0)) in
    let same : bytes_eq seal (trailer_signature link (sha256 (signed_line name value))) ≡ true = (bytes_eq-Decides _ _).1 sealed in
    rw (short, parts.line, parts.said, t.valued, parts.signature, same) refl
  where
    not_less : (one other : ℕ) → other ≤ one → nat_lt one other ≡ false
    not_less one other full = elim (cases_Bool (nat_lt one other)) [
      | inl less ↦ absurd (omega (arith, ltb-true one other less, full))
      | inr is' ↦ is'
    ]

pub trailer_value : (name text value seal : List ℕ) → IsTrailer name text value seal → value_of_trailer name text ≡ value
trailer_value name text value seal t =
    let parts = trailer_parts name text value seal t in
    let bounds = value_bounds value t.valued in
    let whole = long_trailer name text value seal t in
    let room : nat_le (length name + 96) (length text) ≡ true = le-leb _ _ (omega (arith, whole, bounds.0)) in
    rw room parts.said
