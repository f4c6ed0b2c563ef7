-- Which byte a body may go on with.
use Rattle.std.proofs.Common.{◌≡◌, ℕ, suc, zero, ◌+◌, ◌-◌, ◌<◌, ◌≤◌, ◌⊎◌, ⊎_elim, Bool, true, false, ◌==◌, List, [], ◌∷◌, ◌++◌, length, take, drop, get_or, refl, sym, ap, ◌∙◌, arith, append_assoc, inl, inr, length-append}
use Rattle.std.proofs.lemmas.Bool.{false≢true, and_parts, cases_Bool, cases_lt}
use Rattle.std.proofs.lemmas.List.{append-nil, take_at, take-append-drop, take-append-le, get_or_at, get_or_append_left, get_or-append_right, length-take-le}
use Rattle.std.proofs.Math.Seq.{take-append-add}
use Rattle.std.proofs.lemmas.List.Folds.{list_all_at}
use Rattle.std.specs.List.{list_all}
use Rattle.s3_text.specs.Characters.{is_lower_hex}
use Rattle.s3_text.specs.Digest.{is_hex_digest}
use Rattle.s3_text.specs.Characters.{crlf}
use Rattle.s3_aws_chunked.specs.Chunk.{Chunk, IsChunk, is_hex, size_of, label, line_behind, first_line, chunk_text, chunks_text}
use Rattle.s3_aws_chunked.specs.Body.{Begins}
use Rattle.s3_aws_chunked.specs.Verdict.{Terms}
use Rattle.s3_aws_chunked.specs.declared.place.Place.{Place}
use Rattle.s3_aws_chunked.proofs.TextLemmas.{Partial, AreChunks, fronts, runs, run_front, size_digits, size_bounds, digest_length, length-behind, behind_is, label_rest, lines_apart, chunks_apart, part_short}
use Rattle.s3_aws_chunked.proofs.ParseLemmas.{are_chunks, chunks_push, text_push, long_chunk}
use Rattle.s3_aws_chunked.proofs.FaultLemmas.{Mid}
use Rattle.s3_aws_chunked.proofs.CourseLemmas.{AtSize, AtLine, AtData, AtEnding}

-- some chunk goes on so behind this part of it
pub record Next (part : List ℕ) (byte : ℕ) : Type 0 where
  pub chunk : Chunk
  pub rest : List ℕ
  pub form : IsChunk chunk
  pub begun : chunk_text chunk ≡ part ++ byte ∷ rest

next_in : (y : Chunk) (u : List ℕ) (b : ℕ) (r more : List ℕ) → IsChunk y → u ++ b ∷ r ≡ chunk_text y ++ more → length u < length (chunk_text y) → Next u b
next_in y u b r more is same short =
    let k = length (chunk_text y) - length u - 1 in
    let long : length (chunk_text y) ≡ length u + suc k = omega (arith, short) in
    record {
      chunk = y;
      rest = take k r;
      form = is;
      begun =
          sym (take_at (chunk_text y) more (length (chunk_text y)) refl)
          ∙ ap (take (length (chunk_text y))) (sym same)
          ∙ ap (λ n. take n (u ++ b ∷ r)) long
          ∙ take-append-add u (b ∷ r) (suc k);
    }

whole_in : (y : Chunk) (u : List ℕ) (b : ℕ) (r more : List ℕ) → u ++ b ∷ r ≡ chunk_text y ++ more → length (chunk_text y) ≤ length u → u ≡ chunk_text y ++ drop (length (chunk_text y)) u
whole_in y u b r more same long =
    sym (take-append-drop (length (chunk_text y)) u)
    ∙ ap (λ t. t ++ drop (length (chunk_text y)) u)
    (sym (take-append-le (length (chunk_text y)) u (b ∷ r) long)
    ∙ ap (take (length (chunk_text y))) same
    ∙ take_at (chunk_text y) more (length (chunk_text y)) refl)

strip : (xs ys : List Chunk) (u : List ℕ) (b : ℕ) (r : List ℕ) → AreChunks xs → AreChunks ys → Partial u → chunks_text xs ++ (u ++ b ∷ r) ≡ chunks_text ys → Next u b
strip [] [] u b r all all' part same =
    let long : length (u ++ b ∷ r) ≡ length u + length (b ∷ r) = length-append u (b ∷ r) in
    let short : length (u ++ b ∷ r) ≡ 0 = ap length same in
    absurd (omega (arith, long, short))
strip [] (y ∷ ys) u b r all all' part same =
    ⊎_elim
    (λ (short : length u < length (chunk_text y)). next_in y u b r (chunks_text ys) all'.0 same short)
    (λ (long : length (chunk_text y) ≤ length u).
    absurd (part_short u part y (drop (length (chunk_text y)) u) all'.0 (whole_in y u b r (chunks_text ys) same long)))
    (cases_lt (length u) (length (chunk_text y)))
strip (x ∷ xs) [] u b r all all' part same =
    let whole : length (chunk_text x ++ (chunks_text xs ++ (u ++ b ∷ r))) ≡ length (chunk_text x) + length (chunks_text xs ++ (u ++ b ∷ r)) =
    length-append (chunk_text x) (chunks_text xs ++ (u ++ b ∷ r)) in
    let short : length (chunk_text x ++ (chunks_text xs ++ (u ++ b ∷ r))) ≡ 0 =
    ap length (sym (append_assoc (chunk_text x) (chunks_text xs) (u ++ b ∷ r)) ∙ same) in
    absurd (omega (arith, whole, short, long_chunk x all.0))
strip (x ∷ xs) (y ∷ ys) u b r all all' part same =
    strip xs ys u b r all.1 all'.1 part
    (chunks_apart x y (chunks_text xs ++ (u ++ b ∷ r)) (chunks_text ys) all.0 all'.0
    (sym (append_assoc (chunk_text x) (chunks_text xs) (u ++ b ∷ r)) ∙ same)).1

-- where some body goes on so, some chunk does
pub next_of : (terms : Terms) (text : List ℕ) (chunks : List Chunk) (tail : List ℕ) (byte : ℕ) → Mid terms text chunks tail → Begins (text ++ byte ∷ []) → Next tail byte
next_of terms text chunks tail byte mid begins =
    strip chunks (begins.chunks ++ begins.last ∷ []) tail byte begins.rest
    (are_chunks chunks mid.each)
    (chunks_push begins.chunks begins.last (are_chunks begins.chunks begins.body.each) begins.body.form)
    mid.partial
    (sym (append_assoc (chunks_text chunks) tail (byte ∷ begins.rest))
    ∙ ap (λ t. t ++ byte ∷ begins.rest) (sym mid.written)
    ∙ sym (append_assoc text (byte ∷ []) begins.rest)
    ∙ begins.body.written
    ∙ text_push begins.chunks begins.last
    ∙ append-nil (chunks_text (begins.chunks ++ begins.last ∷ [])))

-- a chunk, cut behind its size
sized : (c : Chunk) → chunk_text c ≡ c.size ++ 59 ∷ ((label_rest ++ (c.signature ++ crlf)) ++ (c.bytes ++ crlf))
sized c = append_assoc c.size (line_behind c.signature) (c.bytes ++ crlf) ∙ ap (λ t. c.size ++ (t ++ (c.bytes ++ crlf))) (behind_is c.signature)

-- behind digits of a size
pub size_next : (terms : Terms) (place : Place) (current held : List ℕ) (chunks : List Chunk) (tail : List ℕ) (count value byte : ℕ) → AtSize terms place current held chunks tail count value → Next tail byte → ((byte ≡ 59) × (0 < count)) ⊎ ((is_hex byte ≡ true) × (count < 8))
size_next terms place current held chunks tail count value byte at next =
    let bounds = size_bounds next.chunk.size next.form.size in
    ⊎_elim
    (λ (more : (is_hex byte ≡ true) × (length tail < length next.chunk.size)). inr (more.0, omega (arith, at.long, more.1, bounds.1)))
    (λ (all : (tail ≡ next.chunk.size) × (byte ≡ 59)).
    let long : length tail ≡ length next.chunk.size = ap length all.0 in
    inl (all.1, omega (arith, at.long, long, bounds.0)))
    (run_front is_hex next.chunk.size tail 59 byte _ next.rest (size_digits next.chunk.size next.form.size) at.digits refl (sym (sized next.chunk) ∙ next.begun))

-- behind a size
pub line_next : (terms : Terms) (place : Place) (current held : List ℕ) (chunks : List Chunk) (tail : List ℕ) (count value byte : ℕ) → is_hex_digest place.signature ≡ true → AtLine terms place current held chunks tail count value → (next : Next tail byte) → byte ≡ get_or (line_behind next.chunk.signature) count 0
line_next terms place current held chunks tail zero value byte digits at next = absurd (omega (arith, at.least))
line_next terms place current held chunks tail (suc k) value byte digits at next =
    let c = next.chunk in
    let behind = line_behind place.signature in
    let first : take (suc k) behind ≡ 59 ∷ take k (label_rest ++ (place.signature ++ crlf)) = ap (take (suc k)) (behind_is place.signature) in
    let here : c.size ++ 59 ∷ ((label_rest ++ (c.signature ++ crlf)) ++ (c.bytes ++ crlf)) ≡ at.size ++ 59 ∷ (take k (label_rest ++ (place.signature ++ crlf)) ++ byte ∷ next.rest) =
    sym (sized c) ∙ next.begun ∙ ap (λ t. t ++ byte ∷ next.rest) at.written
    ∙ append_assoc at.size (take (suc k) behind) (byte ∷ next.rest)
    ∙ ap (λ t. at.size ++ (t ++ byte ∷ next.rest)) first in
    let rest = runs is_hex c.size at.size 59 59 _ _ (size_digits c.size next.form.size) (size_digits at.size at.form) refl refl here in
    let behinds : line_behind c.signature ++ (c.bytes ++ crlf) ≡ take (suc k) behind ++ byte ∷ next.rest =
    ap (λ t. t ++ (c.bytes ++ crlf)) (behind_is c.signature) ∙ rest.1 ∙ ap (λ t. t ++ byte ∷ next.rest) (sym first) in
    let taken : length (take (suc k) behind) ≡ suc k = length-take-le (suc k) behind (omega (arith, length-behind place.signature digits, at.most)) in
    sym (get_or_at (take (suc k) behind) byte next.rest 0 (suc k) taken)
    ∙ ap (λ (t : List ℕ). get_or t (suc k) 0) (sym behinds)
    ∙ get_or_append_left (line_behind c.signature) (c.bytes ++ crlf) 0 (suc k) (omega (arith, length-behind c.signature next.form.signature, at.most))

-- behind the data of a chunk
pub data_next : (terms : Terms) (place : Place) (current held : List ℕ) (chunks : List Chunk) (tail : List ℕ) (last : Bool) (byte : ℕ) → is_hex_digest place.signature ≡ true → AtData terms place current held chunks tail 0 last → Next tail byte → byte ≡ 13
data_next terms place current held chunks tail last byte digits at next =
    let c = next.chunk in
    let lines = lines_apart c.size at.size c.signature place.signature (c.bytes ++ crlf) (current ++ byte ∷ next.rest) next.form.size at.form next.form.signature digits
    (next.begun ∙ ap (λ t. t ++ byte ∷ next.rest) at.written ∙ append_assoc (first_line at.size place.signature) current (byte ∷ next.rest)) in
    let sizes : size_of c.size ≡ size_of at.size = ap size_of lines.0 in
    let long : length c.bytes ≡ length current = omega (arith, next.form.length, at.long, sizes) in
    ap (λ (t : List ℕ). get_or t 0 0) (sym (fronts c.bytes crlf current (byte ∷ next.rest) lines.2 long).1)

-- behind the CR
pub ending_next : (terms : Terms) (place : Place) (current held : List ℕ) (chunks : List Chunk) (tail : List ℕ) (last : Bool) (byte : ℕ) → is_hex_digest place.signature ≡ true → AtEnding terms place current held chunks tail last → Next tail byte → byte ≡ 10
ending_next terms place current held chunks tail last byte digits at next =
    let c = next.chunk in
    let lines = lines_apart c.size at.size c.signature place.signature (c.bytes ++ crlf) (current ++ 13 ∷ byte ∷ next.rest) next.form.size at.form next.form.signature digits
    (next.begun ∙ ap (λ t. t ++ byte ∷ next.rest) at.written ∙ append_assoc (first_line at.size place.signature) (current ++ 13 ∷ []) (byte ∷ next.rest)
    ∙ ap (λ t. first_line at.size place.signature ++ t) (append_assoc current (13 ∷ []) (byte ∷ next.rest))) in
    let sizes : size_of c.size ≡ size_of at.size = ap size_of lines.0 in
    let long : length c.bytes ≡ length current = omega (arith, next.form.length, at.long, sizes) in
    ap (λ (t : List ℕ). get_or t 1 0) (sym (fronts c.bytes crlf current (13 ∷ byte ∷ next.rest) lines.2 long).1)

-- the bytes of a first line, behind its size
pub behind_label : (signature : List ℕ) (k : ℕ) → k < 17 → get_or (line_behind signature) k 0 ≡ get_or label k 0
unfolding line_behind
behind_label signature k below = get_or_append_left label (signature ++ crlf) 0 k below

behind_past : (signature : List ℕ) (k : ℕ) → 17 ≤ k → get_or (line_behind signature) k 0 ≡ get_or (signature ++ crlf) (k - 17) 0
unfolding line_behind
behind_past signature k past = get_or-append_right label (signature ++ crlf) 17 k 0 refl past

pub behind_digit : (signature : List ℕ) (k : ℕ) → is_hex_digest signature ≡ true → 17 ≤ k → k < 81 → get_or (line_behind signature) k 0 ≡ get_or signature (k - 17) 0
behind_digit signature k form past below =
    behind_past signature k past ∙ get_or_append_left signature crlf 0 (k - 17) (omega (arith, digest_length signature form, past, below))

pub behind_end : (signature : List ℕ) (k : ℕ) → is_hex_digest signature ≡ true → 81 ≤ k → get_or (line_behind signature) k 0 ≡ get_or crlf (k - 81) 0
behind_end signature k form past =
    behind_past signature k (omega (arith, past))
    ∙ get_or-append_right signature crlf 64 (k - 17) 0 (digest_length signature form) (omega (arith, past))
    ∙ ap (λ n. get_or crlf n 0) (omega (arith, past))

pub digit_lower : (signature : List ℕ) (k : ℕ) → is_hex_digest signature ≡ true → k < 64 → is_lower_hex (get_or signature k 0) ≡ true
digit_lower signature k form below =
    let all = (and_parts (length signature == 64) (list_all is_lower_hex signature) form).1 in
    ⊎_elim
    (λ (is : is_lower_hex (get_or signature k 0) ≡ true). is)
    (λ (no' : is_lower_hex (get_or signature k 0) ≡ false).
    absurd (false≢true (sym (list_all_at is_lower_hex signature k 0 (omega (arith, digest_length signature form, below)) no') ∙ all)))
    (cases_Bool (is_lower_hex (get_or signature k 0)))
