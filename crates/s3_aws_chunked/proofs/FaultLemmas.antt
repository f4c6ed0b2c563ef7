-- Which line of the table of refusals applies to a text, and where none does.
use Rattle.std.proofs.Common.{◌≡◌, ℕ, suc, ◌+◌, ◌<◌, ◌≤◌, true, List, [], ◌∷◌, ◌++◌, length, refl, sym, ap, subst, ◌∙◌, arith, inl, inr}
use Rattle.s3_terms.specs.declared.code.Code.{Code}
use Rattle.s3_terms.specs.declared.code.Code.TheVariants.{InvalidRequest, SignatureDoesNotMatch, IncompleteBody}
use Rattle.s3_text.specs.Digest.{is_hex_digest}
use Rattle.s3_aws_chunked.specs.Chunk.{Chunk, IsChunk, is_size, size_of, first_line, chunk_text, chunks_text, data_of}
use Rattle.s3_aws_chunked.specs.Body.{HoldData, IsBody, Begins, AreSigned}
use Rattle.s3_aws_chunked.specs.Verdict.{Terms, IsSigned, IsMisspelled, Exceeds, IsForged, FallsShort, LeavesBytes, IsCutByLength, table, FirstLine}
use Rattle.s3_aws_chunked.proofs.TextLemmas.{Partial}
use Rattle.s3_aws_chunked.proofs.ParseLemmas.{Parsed, parsed_push, partial_none, line_of, chunk_of, body_ends, long_line, begins_with, begins_body, are_chunks, holds_push, holds_last, signed_last}

-- the lines but that of the end of the input
abbrev pub lines : Terms → List ℕ → List (Type 0 × Code)
lines terms text =
    (IsMisspelled text, InvalidRequest)
    ∷ (Exceeds terms text, InvalidRequest)
    ∷ (IsForged terms text, SignatureDoesNotMatch)
    ∷ (FallsShort terms text, IncompleteBody)
    ∷ (LeavesBytes terms text, InvalidRequest)
    ∷ (IsCutByLength terms text, IncompleteBody)
    ∷ []

-- no line applies
abbrev pub NoneOf : List (Type 0 × Code) → Type 0
NoneOf [] = Unit {0}
NoneOf (line ∷ rest) = (line.0 → ⊥) × NoneOf rest

abbrev pub Silent : Terms → List ℕ → Type 0
Silent terms text = NoneOf (lines terms text)

-- some line applies, and not for the end of the input
abbrev pub Found : Terms → List ℕ → Code → Type 0
Found terms text code = FirstLine (lines terms text) code

none_first : (all : List (Type 0 × Code)) (last : Type 0 × Code) (code : Code) → NoneOf all → (last.0 → ⊥) → FirstLine (all ++ last ∷ []) code → ⊥
none_first [] last code silent none found = elim found [ inl x ↦ none x.0 | inr x ↦ x.1 ]
none_first (line ∷ all) last code silent none found =
    elim found [ inl x ↦ silent.0 x.0 | inr x ↦ none_first all last code silent.1 none x.1 ]

pub silent_none : (terms : Terms) (text : List ℕ) (ends : Type 0) (code : Code) → Silent terms text → (ends × (length text < terms.encoded) → ⊥) → FirstLine (table terms text ends) code → ⊥
silent_none terms text ends code silent none found =
    none_first (lines terms text) (ends × (length text < terms.encoded), IncompleteBody) code silent none found

found_first : (all : List (Type 0 × Code)) (last : Type 0 × Code) (code : Code) → FirstLine all code → FirstLine (all ++ last ∷ []) code
found_first [] last code found = absurd found
found_first (line ∷ all) last code found = elim found [ inl x ↦ inl x | inr x ↦ inr (x.0, found_first all last code x.1) ]

pub found_any : (terms : Terms) (text : List ℕ) (ends : Type 0) (code : Code) → Found terms text code → FirstLine (table terms text ends) code
found_any terms text ends code found =
    found_first (lines terms text) (ends × (length text < terms.encoded), IncompleteBody) code found

last_found : (all : List (Type 0 × Code)) (p : Type 0) (code : Code) → NoneOf all → p → FirstLine (all ++ (p, code) ∷ []) code
last_found [] p code silent holds = inl (holds, refl)
last_found (line ∷ all) p code silent holds = inr (silent.0, last_found all p code silent.1 holds)

-- the input ends
pub found_end : (terms : Terms) (text : List ℕ) (ends : Type 0) → Silent terms text → ends → length text < terms.encoded → FirstLine (table terms text ends) IncompleteBody
found_end terms text ends silent holds below =
    last_found (lines terms text) (ends × (length text < terms.encoded)) IncompleteBody silent (holds, below)

-- inside a body: chunks of data, signed, and a part of one; what its first line announces fits
pub record Mid (terms : Terms) (text : List ℕ) (chunks : List Chunk) (tail : List ℕ) : Type 0 where
  pub each : HoldData chunks
  pub signed : AreSigned terms.seed chunks
  pub partial : Partial tail
  pub written : text ≡ chunks_text chunks ++ tail
  pub fits : (size signature : List ℕ) → is_size size ≡ true → is_hex_digest signature ≡ true → tail ≡ first_line size signature → length (data_of chunks) + size_of size ≤ terms.decoded

parsed_mid : (terms : Terms) (text : List ℕ) (chunks : List Chunk) (tail : List ℕ) → Mid terms text chunks tail → Parsed text chunks tail
parsed_mid terms text chunks tail mid =
    record { each = are_chunks chunks mid.each; partial = mid.partial; written = mid.written }

mid_fits : (terms : Terms) (text : List ℕ) (chunks : List Chunk) (tail : List ℕ) → Mid terms text chunks tail → Exceeds terms text → ⊥
mid_fits terms text chunks tail mid (total, e, over) =
    let same = line_of text chunks tail total (parsed_mid terms text chunks tail mid) e in
    let fit : length (data_of chunks) + size_of e.size ≤ terms.decoded = mid.fits e.size e.signature e.form e.signed same.1 in
    let sum : total ≡ length (data_of chunks) + size_of e.size = e.sum ∙ ap (λ cs. length (data_of cs) + size_of e.size) (sym same.0) in
    absurd (omega (arith, fit, sum, over))

mid_signed : (terms : Terms) (text : List ℕ) (chunks : List Chunk) (tail : List ℕ) → Mid terms text chunks tail → IsForged terms text → ⊥
mid_signed terms text chunks tail mid (before, c, e, forged) =
    let same = chunk_of text chunks tail before c (parsed_mid terms text chunks tail mid) e in
    forged (signed_last terms.seed before c (subst (AreSigned terms.seed) same.0 mid.signed))

-- and so no body has ended
pub mid_open : (terms : Terms) (text : List ℕ) (chunks : List Chunk) (tail : List ℕ) → Mid terms text chunks tail → (before : List Chunk) (last : Chunk) → IsBody text before last → ⊥
mid_open terms text chunks tail mid before last body =
    let same = chunk_of text chunks tail before last (parsed_mid terms text chunks tail mid) (body_ends text before last body) in
    let some : 0 < length last.bytes = holds_last before last (subst HoldData same.0 mid.each) in
    let none : length last.bytes ≡ 0 = ap length body.empty in
    absurd (omega (arith, some, none))

mid_begins : (terms : Terms) (text : List ℕ) (chunks : List Chunk) (tail : List ℕ) → Mid terms text chunks tail → Begins text
mid_begins terms text chunks tail mid = begins_with text chunks tail mid.each mid.partial mid.written

pub mid_silent : (terms : Terms) (text : List ℕ) (chunks : List Chunk) (tail : List ℕ) → Mid terms text chunks tail → length text < terms.encoded → Silent terms text
mid_silent terms text chunks tail mid below = (
  λ none. none (mid_begins terms text chunks tail mid),
  (
    mid_fits terms text chunks tail mid,
    (
      mid_signed terms text chunks tail mid,
      (
        λ short. mid_open terms text chunks tail mid short.1.0 short.1.1 short.1.2,
        (
          λ left. mid_open terms text chunks tail mid left.0.0 left.0.1 left.0.2,
          (λ cut. absurd (omega (arith, below, cut.0)), tt),
        ),
      ),
    ),
  ),
)

pub mid_cut : (terms : Terms) (text : List ℕ) (chunks : List Chunk) (tail : List ℕ) → Mid terms text chunks tail → length text ≡ terms.encoded → Found terms text IncompleteBody
mid_cut terms text chunks tail mid whole =
    inr (
      λ none. none (mid_begins terms text chunks tail mid),
      inr (
        mid_fits terms text chunks tail mid,
        inr (
          mid_signed terms text chunks tail mid,
          inr (
            λ short. mid_open terms text chunks tail mid short.1.0 short.1.1 short.1.2,
            inr (
              λ left. mid_open terms text chunks tail mid left.0.0 left.0.1 left.0.2,
              inl ((whole, mid_open terms text chunks tail mid), refl),
            ),
          ),
        ),
      ),
    )

-- no body begins so
pub found_misspelled : (terms : Terms) (text : List ℕ) → (Begins text → ⊥) → Found terms text InvalidRequest
found_misspelled terms text none = inl (none, refl)

-- a first line announces too much
pub found_exceeds : (terms : Terms) (text : List ℕ) → Begins text → Exceeds terms text → Found terms text InvalidRequest
found_exceeds terms text begins over = inr (λ none. none begins, inl (over, refl))

-- a chunk has ended, of some data or of none, and all of it fits
pub record Ended (terms : Terms) (text : List ℕ) (chunks : List Chunk) (c : Chunk) : Type 0 where
  pub each : HoldData chunks
  pub signed : AreSigned terms.seed chunks
  pub form : IsChunk c
  pub written : text ≡ chunks_text chunks ++ chunk_text c
  pub fits : length (data_of chunks) + length c.bytes ≤ terms.decoded

pub parsed_ended : (terms : Terms) (text : List ℕ) (chunks : List Chunk) (c : Chunk) → Ended terms text chunks c → Parsed text (chunks ++ c ∷ []) []
parsed_ended terms text chunks c ended =
    parsed_push chunks c text (are_chunks chunks ended.each) ended.form ended.written

pub ended_begins : (terms : Terms) (text : List ℕ) (chunks : List Chunk) (c : Chunk) (bytes : List ℕ) → Ended terms text chunks c → c.bytes ≡ bytes → Begins text
ended_begins terms text chunks c [] ended empty =
    begins_body text chunks c (record { each = ended.each; form = ended.form; empty = empty; written = ended.written })
ended_begins terms text chunks c (b ∷ bytes) ended some =
    let long : length c.bytes ≡ suc (length bytes) = ap length some in
    let parsed = parsed_ended terms text chunks c ended in
    begins_with text (chunks ++ c ∷ []) [] (holds_push chunks c ended.each (ended.form, omega (arith, long))) partial_none parsed.written

pub ended_fits : (terms : Terms) (text : List ℕ) (chunks : List Chunk) (c : Chunk) → Ended terms text chunks c → Exceeds terms text → ⊥
ended_fits terms text chunks c ended (total, e, over) =
    let same = line_of text (chunks ++ c ∷ []) [] total (parsed_ended terms text chunks c ended) e in
    long_line e.size e.signature e.signed (sym same.1)

-- its signature is not the formula
pub ended_forged : (terms : Terms) (text : List ℕ) (chunks : List Chunk) (c : Chunk) → Ended terms text chunks c → (IsSigned terms chunks c → ⊥) → Found terms text SignatureDoesNotMatch
ended_forged terms text chunks c ended forged =
    inr (
      λ none. none (ended_begins terms text chunks c c.bytes ended refl),
      inr (
        ended_fits terms text chunks c ended,
        inl ((chunks, c, record { each = ended.each; form = ended.form; written = ended.written }, forged), refl),
      ),
    )
