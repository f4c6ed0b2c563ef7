-- What the lines of the table of refusals say where a chunk has ended with the right signature.
use Rattle.std.proofs.Common.{◌≡◌, ℕ, ◌<◌, List, [], ◌∷◌, ◌++◌, length, refl, sym, ap, subst, ◌∙◌, arith, inl, inr}
use Rattle.std.proofs.lemmas.List.{same_from_push}
use Rattle.s3_terms.specs.declared.code.Code.TheVariants.{InvalidRequest, IncompleteBody}
use Rattle.s3_aws_chunked.specs.Chunk.{Chunk, data_of}
use Rattle.s3_aws_chunked.specs.Body.{IsBody}
use Rattle.s3_aws_chunked.specs.Verdict.{Terms, EndsChunk, IsSigned, IsForged, IsEnded, FallsShort}
use Rattle.s3_aws_chunked.proofs.ParseLemmas.{partial_none, chunk_of, body_ends, long_line, holds_push, signed_push}
use Rattle.s3_aws_chunked.proofs.FaultLemmas.{Ended, Mid, Found, Silent, parsed_ended, ended_begins, ended_fits}

-- the chunk that has ended is this one
same_chunk : (terms : Terms) (text : List ℕ) (chunks before : List Chunk) (c d : Chunk) → Ended terms text chunks c → EndsChunk text before d → (chunks ≡ before) × (c ≡ d)
same_chunk terms text chunks before c d ended e =
    same_from_push chunks before c d (chunk_of text (chunks ++ c ∷ []) [] before d (parsed_ended terms text chunks c ended) e).0

ended_genuine : (terms : Terms) (text : List ℕ) (chunks : List Chunk) (c : Chunk) → Ended terms text chunks c → IsSigned terms chunks c → IsForged terms text → ⊥
ended_genuine terms text chunks c ended signed (before, d, e, forged) =
    let same = same_chunk terms text chunks before c d ended e in
    forged (subst (λ (x : Chunk). IsSigned terms before x) same.1 (subst (λ (cs : List Chunk). IsSigned terms cs c) same.0 signed))

-- the sizes come to what the data does
ended_total : (terms : Terms) (text : List ℕ) (chunks : List Chunk) (c : Chunk) (total : ℕ) → Ended terms text chunks c → IsEnded terms text total → total ≡ length (data_of chunks)
ended_total terms text chunks c total ended (before, last, body, signed, sum) =
    sum ∙ ap (λ cs. length (data_of cs)) (sym (same_chunk terms text chunks before c last ended (body_ends text before last body)).0)

pub body_of : (terms : Terms) (text : List ℕ) (chunks : List Chunk) (c : Chunk) → Ended terms text chunks c → c.bytes ≡ [] → IsBody text chunks c
body_of terms text chunks c ended empty =
    record { each = ended.each; form = ended.form; empty = empty; written = ended.written }

pub ended_short : (terms : Terms) (text : List ℕ) (chunks : List Chunk) (c : Chunk) → Ended terms text chunks c → IsSigned terms chunks c → c.bytes ≡ [] → length (data_of chunks) < terms.decoded → Found terms text IncompleteBody
ended_short terms text chunks c ended signed empty short =
    inr (
      λ none. none (ended_begins terms text chunks c c.bytes ended refl),
      inr (
        ended_fits terms text chunks c ended,
        inr (
          ended_genuine terms text chunks c ended signed,
          inl ((length (data_of chunks), (chunks, c, body_of terms text chunks c ended empty, signed, refl), short), refl),
        ),
      ),
    )

not_short : (terms : Terms) (text : List ℕ) (chunks : List Chunk) (c : Chunk) → Ended terms text chunks c → length (data_of chunks) ≡ terms.decoded → FallsShort terms text → ⊥
not_short terms text chunks c ended all (total, e, short) =
    let sum : total ≡ length (data_of chunks) = ended_total terms text chunks c total ended e in
    absurd (omega (arith, sum, all, short))

pub ended_left : (terms : Terms) (text : List ℕ) (chunks : List Chunk) (c : Chunk) → Ended terms text chunks c → IsSigned terms chunks c → c.bytes ≡ [] → length (data_of chunks) ≡ terms.decoded → length text < terms.encoded → Found terms text InvalidRequest
ended_left terms text chunks c ended signed empty all left =
    inr (
      λ none. none (ended_begins terms text chunks c c.bytes ended refl),
      inr (
        ended_fits terms text chunks c ended,
        inr (
          ended_genuine terms text chunks c ended signed,
          inr (
            not_short terms text chunks c ended all,
            inl (((chunks, c, body_of terms text chunks c ended empty, signed, sym all), left), refl),
          ),
        ),
      ),
    )

pub ended_silent : (terms : Terms) (text : List ℕ) (chunks : List Chunk) (c : Chunk) → Ended terms text chunks c → IsSigned terms chunks c → c.bytes ≡ [] → length (data_of chunks) ≡ terms.decoded → length text ≡ terms.encoded → Silent terms text
ended_silent terms text chunks c ended signed empty all whole = (
  λ none. none (ended_begins terms text chunks c c.bytes ended refl),
  (
    ended_fits terms text chunks c ended,
    (
      ended_genuine terms text chunks c ended signed,
      (
        not_short terms text chunks c ended all,
        (
          λ left. absurd (omega (arith, whole, left.1)),
          (λ cut. cut.1 chunks c (body_of terms text chunks c ended empty), tt),
        ),
      ),
    ),
  ),
)

-- behind a chunk of some data
pub mid_after : (terms : Terms) (text : List ℕ) (chunks : List Chunk) (c : Chunk) → Ended terms text chunks c → IsSigned terms chunks c → 0 < length c.bytes → Mid terms text (chunks ++ c ∷ []) []
mid_after terms text chunks c ended signed some = record {
  each = holds_push chunks c ended.each (ended.form, some);
  signed = signed_push terms.seed chunks c ended.signed signed;
  partial = partial_none;
  written = (parsed_ended terms text chunks c ended).written;
  fits = λ size signature form digits same. absurd (long_line size signature digits (sym same));
}
