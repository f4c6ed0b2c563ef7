-- What the lines of the table of refusals say of a text that is whole chunks and a part of one.
use Rattle.std.proofs.Common.{◌≡◌, ℕ, suc, ◌+◌, ◌<◌, true, List, [], ◌∷◌, ◌++◌, length, replicate, refl, sym, ap, subst, ◌∙◌, arith, append_assoc, length-append}
use Rattle.std.proofs.lemmas.List.{append-nil, length-replicate}
use Rattle.s3_text.specs.Digest.{is_hex_digest}
use Rattle.s3_signing.specs.Chain.{Link, chunk_signature, linked}
use Rattle.s3_text.specs.Characters.{crlf}
use Rattle.s3_aws_chunked.specs.Chunk.{Chunk, IsChunk, is_size, size_of, line_behind, first_line, chunk_text, chunks_text, data_of}
use Rattle.s3_aws_chunked.specs.Body.{HoldData, HoldsData, IsBody, Begins, AreSigned, link_after}
use Rattle.s3_aws_chunked.specs.Verdict.{EndsLine, EndsChunk}
use Rattle.s3_aws_chunked.proofs.TextLemmas.{Partial, AreChunks, parse_one, length-behind}

-- one more chunk
pub text_push : (cs : List Chunk) (c : Chunk) → chunks_text cs ++ chunk_text c ≡ chunks_text (cs ++ c ∷ []) ++ []
text_push [] c = sym (append-nil (chunk_text c ++ []) ∙ append-nil (chunk_text c))
text_push (x ∷ cs) c =
    append_assoc (chunk_text x) (chunks_text cs) (chunk_text c)
    ∙ ap (λ t. chunk_text x ++ t) (text_push cs c)
    ∙ sym (append_assoc (chunk_text x) (chunks_text (cs ++ c ∷ [])) [])

pub data_push : (cs : List Chunk) (c : Chunk) → data_of (cs ++ c ∷ []) ≡ data_of cs ++ c.bytes
data_push [] c = append-nil c.bytes
data_push (x ∷ cs) c = ap (λ t. x.bytes ++ t) (data_push cs c) ∙ sym (append_assoc x.bytes (data_of cs) c.bytes)

pub are_chunks : (cs : List Chunk) → HoldData cs → AreChunks cs
are_chunks [] each = tt
are_chunks (x ∷ cs) each = (each.0.0, are_chunks cs each.1)

pub chunks_push : (cs : List Chunk) (c : Chunk) → AreChunks cs → IsChunk c → AreChunks (cs ++ c ∷ [])
chunks_push [] c all is = (is, tt)
chunks_push (x ∷ cs) c all is = (all.0, chunks_push cs c all.1 is)

pub holds_push : (cs : List Chunk) (c : Chunk) → HoldData cs → HoldsData c → HoldData (cs ++ c ∷ [])
holds_push [] c each holds = (holds, tt)
holds_push (x ∷ cs) c each holds = (each.0, holds_push cs c each.1 holds)

pub holds_last : (cs : List Chunk) (c : Chunk) → HoldData (cs ++ c ∷ []) → 0 < length c.bytes
holds_last [] c each = each.0.1
holds_last (x ∷ cs) c each = holds_last cs c each.1

pub signed_last : (seed : Link) (cs : List Chunk) (c : Chunk) → AreSigned seed (cs ++ c ∷ []) → c.signature ≡ chunk_signature (link_after seed cs) c.bytes
signed_last seed [] c signed = signed.0
signed_last seed (x ∷ cs) c signed = signed_last (linked seed x.signature) cs c signed.1

pub signed_push : (seed : Link) (cs : List Chunk) (c : Chunk) → AreSigned seed cs → c.signature ≡ chunk_signature (link_after seed cs) c.bytes → AreSigned seed (cs ++ c ∷ [])
signed_push seed [] c signed is = (is, tt)
signed_push seed (x ∷ cs) c signed is = (signed.0, signed_push (linked seed x.signature) cs c signed.1 is)

pub link_push : (seed : Link) (cs : List Chunk) (c : Chunk) → link_after seed (cs ++ c ∷ []) ≡ linked (link_after seed cs) c.signature
link_push seed [] c = refl
link_push seed (x ∷ cs) c = link_push (linked seed x.signature) cs c

-- a chunk of no data, to end a body with
pub nothing : Chunk
nothing = record { size = 48 ∷ []; signature = replicate 64 48; bytes = [] }

pub is_nothing : IsChunk nothing
unfolding nothing
is_nothing = record { size = refl; length = refl; signature = refl }

empty_nothing : nothing.bytes ≡ []
unfolding nothing
empty_nothing = refl

pub long_chunk : (c : Chunk) → IsChunk c → 0 < length (chunk_text c)
long_chunk c is =
    let long : length (chunk_text c) ≡ length (first_line c.size c.signature) + length (c.bytes ++ crlf) = length-append (first_line c.size c.signature) (c.bytes ++ crlf) in
    let end : length (c.bytes ++ crlf) ≡ length c.bytes + 2 = length-append c.bytes crlf in
    omega (arith, long, end)

-- nothing of a chunk is a part of one
pub partial_none : Partial []
partial_none = record { chunk = nothing; rest = chunk_text nothing; form = is_nothing; begun = refl; more = long_chunk nothing is_nothing }

-- so is a first line
pub partial_line : (size signature : List ℕ) → is_size size ≡ true → is_hex_digest signature ≡ true → Partial (first_line size signature)
partial_line size signature form digits =
    let rest : List ℕ = replicate (size_of size) 0 ++ crlf in
    let end : length rest ≡ length (replicate (size_of size) 0) + 2 = length-append (replicate (size_of size) 0) crlf in
    record {
      chunk = record { size = size; signature = signature; bytes = replicate (size_of size) 0 };
      rest = rest;
      form = record { size = form; length = sym (length-replicate (size_of size) 0); signature = digits };
      begun = refl;
      more = omega (arith, end);
    }

-- the text is these chunks and this part of one
pub record Parsed (text : List ℕ) (chunks : List Chunk) (tail : List ℕ) : Type 0 where
  pub each : AreChunks chunks
  pub partial : Partial tail
  pub written : text ≡ chunks_text chunks ++ tail

pub parsed_push : (cs : List Chunk) (c : Chunk) (text : List ℕ) → AreChunks cs → IsChunk c → text ≡ chunks_text cs ++ chunk_text c → Parsed text (cs ++ c ∷ []) []
parsed_push cs c text all is written = record {
  each = chunks_push cs c all is;
  partial = partial_none;
  written = written ∙ text_push cs c;
}

-- where it ends a first line, that is the part
pub line_of : (text : List ℕ) (cs : List Chunk) (tail : List ℕ) (total : ℕ) → Parsed text cs tail → (e : EndsLine text total) → (cs ≡ e.chunks) × (tail ≡ first_line e.size e.signature)
line_of text cs tail total parsed e =
    parse_one cs e.chunks tail (first_line e.size e.signature) parsed.each (are_chunks e.chunks e.each) parsed.partial
    (partial_line e.size e.signature e.form e.signed)
    (sym parsed.written ∙ e.written)

-- where it ends a chunk, that is the last one
pub chunk_of : (text : List ℕ) (cs : List Chunk) (tail : List ℕ) (chunks : List Chunk) (c : Chunk) → Parsed text cs tail → EndsChunk text chunks c → (cs ≡ chunks ++ c ∷ []) × (tail ≡ [])
chunk_of text cs tail chunks c parsed e =
    parse_one cs (chunks ++ c ∷ []) tail [] parsed.each (chunks_push chunks c (are_chunks chunks e.each) e.form) parsed.partial partial_none
    (sym parsed.written ∙ e.written ∙ text_push chunks c)

pub body_ends : (text : List ℕ) (chunks : List Chunk) (last : Chunk) → IsBody text chunks last → EndsChunk text chunks last
body_ends text chunks last body = record { each = body.each; form = body.form; written = body.written }

-- a first line is some text
pub long_line : (size signature : List ℕ) → is_hex_digest signature ≡ true → first_line size signature ≡ [] → ⊥
long_line size signature digits none =
    let long : length (first_line size signature) ≡ length size + length (line_behind signature) = length-append size (line_behind signature) in
    let short : length (first_line size signature) ≡ 0 = ap length none in
    absurd (omega (arith, long, short, length-behind signature digits))

-- chunks of data and a part of one begin a body
begins_as : (text : List ℕ) (chunks : List Chunk) (tail rest : List ℕ) (c : Chunk) (bytes : List ℕ) → HoldData chunks → IsChunk c → text ≡ chunks_text chunks ++ tail → chunk_text c ≡ tail ++ rest → c.bytes ≡ bytes → Begins text
begins_as text chunks tail rest c [] each is written begun empty = record {
  rest = rest;
  chunks = chunks;
  last = c;
  body = record {
    each = each;
    form = is;
    empty = empty;
    written = ap (λ t. t ++ rest) written ∙ append_assoc (chunks_text chunks) tail rest ∙ ap (λ t. chunks_text chunks ++ t) (sym begun);
  };
}
begins_as text chunks tail rest c (b ∷ bytes) each is written begun some =
    let whole : text ++ rest ≡ chunks_text (chunks ++ c ∷ []) =
    ap (λ t. t ++ rest) written ∙ append_assoc (chunks_text chunks) tail rest ∙ ap (λ t. chunks_text chunks ++ t) (sym begun)
    ∙ text_push chunks c ∙ append-nil (chunks_text (chunks ++ c ∷ [])) in
    let long : length c.bytes ≡ suc (length bytes) = ap length some in
    record {
      rest = rest ++ chunk_text nothing;
      chunks = chunks ++ c ∷ [];
      last = nothing;
      body = record {
        each = holds_push chunks c each (is, omega (arith, long));
        form = is_nothing;
        empty = empty_nothing;
        written = sym (append_assoc text rest (chunk_text nothing)) ∙ ap (λ t. t ++ chunk_text nothing) whole;
      };
    }

pub begins_with : (text : List ℕ) (chunks : List Chunk) (tail : List ℕ) → HoldData chunks → Partial tail → text ≡ chunks_text chunks ++ tail → Begins text
begins_with text chunks tail each part written =
    begins_as text chunks tail part.rest part.chunk part.chunk.bytes each part.form written part.begun refl

-- a body begins itself
pub begins_body : (text : List ℕ) (chunks : List Chunk) (last : Chunk) → IsBody text chunks last → Begins text
begins_body text chunks last body = record { rest = []; chunks = chunks; last = last; body = subst (λ t. IsBody t chunks last) (sym (append-nil text)) body }
