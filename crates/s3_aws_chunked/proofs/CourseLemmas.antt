-- How a reader stands inside a body, and that what has come is then whole chunks and a part of one.
use Rattle.std.proofs.Common.{◌≡◌, ℕ, suc, zero, ◌+◌, ◌-◌, ◌<◌, ◌≤◌, Bool, true, ◌&&◌, ◌==◌, nat_le, List, [], ◌∷◌, ◌++◌, length, take, drop, replicate, sym, ap, ◌∙◌, arith, append_assoc, le-leb, length-append}
use Rattle.std.proofs.lemmas.Bool.{and_from}
use Rattle.std.proofs.lemmas.List.{append-nil, length-replicate, take-append-drop, length-take-le, take_at, take_all, nil_from_length}
use Rattle.std.specs.List.{list_all}
use Rattle.std.specs.Str.Parse.{digits_value}
use Rattle.s3_text.specs.Digest.{is_hex_digest}
use Rattle.s3_text.specs.Characters.{crlf}
use Rattle.s3_aws_chunked.specs.Chunk.{Chunk, IsChunk, is_hex, is_size, size_of, line_behind, first_line, chunk_text, chunks_text, data_of}
use Rattle.s3_aws_chunked.specs.Body.{HoldData, AreSigned, link_after}
use Rattle.s3_aws_chunked.specs.Verdict.{Terms, HoldsSoFar}
use Rattle.s3_aws_chunked.specs.declared.place.Place.{Place}
use Rattle.s3_aws_chunked.specs.declared.phase.Phase.{Phase}
use Rattle.s3_aws_chunked.specs.declared.phase.Phase.TheVariants.{Size, Line, Data, Ending, Over, Refused}
use Rattle.s3_aws_chunked.proofs.TextLemmas.{length-behind}
use Rattle.s3_aws_chunked.proofs.ParseLemmas.{nothing, is_nothing, long_chunk}

-- in a size
pub record AtSize (terms : Terms) (place : Place) (current held : List ℕ) (chunks : List Chunk) (tail : List ℕ) (count value : ℕ) : Type 0 where
  pub long : length tail ≡ count
  pub most : count ≤ 8
  pub digits : list_all is_hex tail ≡ true
  pub spells : digits_value 16 tail ≡ value
  pub sum : place.left + length (data_of chunks) ≡ terms.decoded
  pub fresh : current ≡ []
  pub given : held ≡ data_of chunks

-- in a first line
pub record AtLine (terms : Terms) (place : Place) (current held : List ℕ) (chunks : List Chunk) (tail : List ℕ) (count value : ℕ) : Type 0 where
  pub size : List ℕ
  pub form : is_size size ≡ true
  pub spells : size_of size ≡ value
  pub least : 1 ≤ count
  pub most : count ≤ 82
  pub written : tail ≡ size ++ take count (line_behind place.signature)
  pub sum : place.left + length (data_of chunks) ≡ terms.decoded
  pub fresh : current ≡ []
  pub given : held ≡ data_of chunks

-- in the data of a chunk
pub record AtData (terms : Terms) (place : Place) (current held : List ℕ) (chunks : List Chunk) (tail : List ℕ) (left : ℕ) (last : Bool) : Type 0 where
  pub size : List ℕ
  pub form : is_size size ≡ true
  pub long : length current + left ≡ size_of size
  pub ends : last ≡ (size_of size == 0)
  pub written : tail ≡ first_line size place.signature ++ current
  pub sum : place.left + length (data_of chunks) + size_of size ≡ terms.decoded
  pub given : held ≡ data_of chunks ++ current

-- behind the CR that follows it
pub record AtEnding (terms : Terms) (place : Place) (current held : List ℕ) (chunks : List Chunk) (tail : List ℕ) (last : Bool) : Type 0 where
  pub size : List ℕ
  pub form : is_size size ≡ true
  pub long : length current ≡ size_of size
  pub ends : last ≡ (size_of size == 0)
  pub written : tail ≡ first_line size place.signature ++ (current ++ 13 ∷ [])
  pub sum : place.left + length (data_of chunks) + size_of size ≡ terms.decoded
  pub given : held ≡ data_of chunks ++ current

abbrev pub At : Terms → Place → List ℕ → List ℕ → List Chunk → List ℕ → Phase → Type 0
At terms place current held chunks tail (Size digits) = AtSize terms place current held chunks tail digits.0 digits.1
At terms place current held chunks tail (Line count value) = AtLine terms place current held chunks tail count value
At terms place current held chunks tail (Data left last) = AtData terms place current held chunks tail left last
At terms place current held chunks tail (Ending last) = AtEnding terms place current held chunks tail last
At terms place current held chunks tail Over = ⊥
At terms place current held chunks tail (Refused fault) = ⊥

-- the text is chunks of data, signed, and this part of one, and the place stands behind it
pub record Course (terms : Terms) (text : List ℕ) (place : Place) (current held : List ℕ) : Type 0 where
  pub chunks : List Chunk
  pub tail : List ℕ
  pub each : HoldData chunks
  pub signed : AreSigned terms.seed chunks
  pub written : text ≡ chunks_text chunks ++ tail
  pub span : place.span ≡ record { taken = length text; whole = terms.encoded }
  pub chain : place.chain ≡ link_after terms.seed chunks
  pub digits : is_hex_digest place.signature ≡ true
  pub at : At terms place current held chunks tail place.phase

-- the part goes on to a whole chunk; what of it is data was given
pub record Completion (chunks : List Chunk) (tail held : List ℕ) : Type 0 where
  pub chunk : Chunk
  pub rest : List ℕ
  pub form : IsChunk chunk
  pub begun : chunk_text chunk ≡ tail ++ rest
  pub more : 0 < length rest
  pub joined : held ≡ data_of chunks ++ take (length tail - length (first_line chunk.size chunk.signature)) chunk.bytes

-- so many zeros, and the end of a line
abbrev zeros_to : ℕ → List ℕ
zeros_to count = replicate count 0 ++ crlf

long_zeros : (count : ℕ) → length (zeros_to count) ≡ count + 2
long_zeros count = length-append (replicate count 0) crlf ∙ ap (λ n. n + 2) (length-replicate count 0)

-- nothing of the data has come
none_of_data : (chunks : List Chunk) (tail held line bytes : List ℕ) → held ≡ data_of chunks → length tail ≤ length line → held ≡ data_of chunks ++ take (length tail - length line) bytes
none_of_data chunks tail held line bytes same short =
    let none : length tail - length line ≡ 0 = omega (arith, short) in
    same ∙ sym (append-nil (data_of chunks)) ∙ ap (λ n. data_of chunks ++ take n bytes) (sym none)

complete_size : (terms : Terms) (place : Place) (current held : List ℕ) (chunks : List Chunk) (tail : List ℕ) (count value : ℕ) → is_hex_digest place.signature ≡ true → AtSize terms place current held chunks tail count value → Completion chunks tail held
complete_size terms place current held chunks tail zero value digits at =
    let none : tail ≡ [] = nil_from_length tail at.long in
    record {
      chunk = nothing;
      rest = chunk_text nothing;
      form = is_nothing;
      begun = ap (λ t. t ++ chunk_text nothing) (sym none);
      more = long_chunk nothing is_nothing;
      joined = none_of_data chunks tail held (first_line nothing.size nothing.signature) nothing.bytes at.given (omega (arith, at.long));
    }
complete_size terms place current held chunks tail (suc count) value digits at =
    let zeros = zeros_to (size_of tail) in
    let form : is_size tail ≡ true =
    and_from (nat_le 1 (length tail) && nat_le (length tail) 8) (list_all is_hex tail)
    (and_from (nat_le 1 (length tail)) (nat_le (length tail) 8) (le-leb 1 (length tail) (omega (arith, at.long))) (le-leb (length tail) 8 (omega (arith, at.long, at.most))))
    at.digits in
    let long : length (line_behind place.signature ++ zeros) ≡ length (line_behind place.signature) + length zeros = length-append (line_behind place.signature) zeros in
    let line : length (first_line tail place.signature) ≡ length tail + length (line_behind place.signature) = length-append tail (line_behind place.signature) in
    record {
      chunk = record { size = tail; signature = place.signature; bytes = replicate (size_of tail) 0 };
      rest = line_behind place.signature ++ zeros;
      form = record { size = form; length = sym (length-replicate (size_of tail) 0); signature = digits };
      begun = append_assoc tail (line_behind place.signature) zeros;
      more = omega (arith, long, length-behind place.signature digits);
      joined = none_of_data chunks tail held (first_line tail place.signature) (replicate (size_of tail) 0) at.given (omega (arith, line));
    }

complete_line : (terms : Terms) (place : Place) (current held : List ℕ) (chunks : List Chunk) (tail : List ℕ) (count value : ℕ) → is_hex_digest place.signature ≡ true → AtLine terms place current held chunks tail count value → Completion chunks tail held
complete_line terms place current held chunks tail count value digits at =
    let behind = line_behind place.signature in
    let zeros = zeros_to (size_of at.size) in
    let long : length (drop count behind ++ zeros) ≡ length (drop count behind) + length zeros = length-append (drop count behind) zeros in
    let taken : length (take count behind) ≡ count = length-take-le count behind (omega (arith, length-behind place.signature digits, at.most)) in
    let part : length tail ≡ length at.size + count = ap length at.written ∙ length-append at.size (take count behind) ∙ ap (λ n. length at.size + n) taken in
    let line : length (first_line at.size place.signature) ≡ length at.size + length behind = length-append at.size behind in
    record {
      chunk = record { size = at.size; signature = place.signature; bytes = replicate (size_of at.size) 0 };
      rest = drop count behind ++ zeros;
      form = record { size = at.form; length = sym (length-replicate (size_of at.size) 0); signature = digits };
      begun =
          append_assoc at.size behind zeros
          ∙ ap (λ t. at.size ++ (t ++ zeros)) (sym (take-append-drop count behind))
          ∙ ap (λ t. at.size ++ t) (append_assoc (take count behind) (drop count behind) zeros)
          ∙ sym (append_assoc at.size (take count behind) (drop count behind ++ zeros))
          ∙ ap (λ t. t ++ (drop count behind ++ zeros)) (sym at.written);
      more = omega (arith, long, long_zeros (size_of at.size));
      joined = none_of_data chunks tail held (first_line at.size place.signature) (replicate (size_of at.size) 0) at.given (omega (arith, part, line, length-behind place.signature digits, at.most));
    }

complete_data : (terms : Terms) (place : Place) (current held : List ℕ) (chunks : List Chunk) (tail : List ℕ) (left : ℕ) (last : Bool) → is_hex_digest place.signature ≡ true → AtData terms place current held chunks tail left last → Completion chunks tail held
complete_data terms place current held chunks tail left last digits at =
    let line = first_line at.size place.signature in
    let bytes = current ++ replicate left 0 in
    let long : length bytes ≡ size_of at.size = length-append current (replicate left 0) ∙ ap (λ n. length current + n) (length-replicate left 0) ∙ at.long in
    let part : length tail ≡ length line + length current = ap length at.written ∙ length-append line current in
    let come : length tail - length line ≡ length current = omega (arith, part) in
    record {
      chunk = record { size = at.size; signature = place.signature; bytes = bytes };
      rest = zeros_to left;
      form = record { size = at.form; length = sym long; signature = digits };
      begun =
          ap (λ t. line ++ t) (append_assoc current (replicate left 0) crlf)
          ∙ sym (append_assoc line current (zeros_to left))
          ∙ ap (λ t. t ++ zeros_to left) (sym at.written);
      more = omega (arith, long_zeros left);
      joined = at.given ∙ ap (λ t. data_of chunks ++ t) (sym (take_at current (replicate left 0) (length tail - length line) (sym come)));
    }

complete_ending : (terms : Terms) (place : Place) (current held : List ℕ) (chunks : List Chunk) (tail : List ℕ) (last : Bool) → is_hex_digest place.signature ≡ true → AtEnding terms place current held chunks tail last → Completion chunks tail held
complete_ending terms place current held chunks tail last digits at =
    let line = first_line at.size place.signature in
    let end : length (current ++ 13 ∷ []) ≡ length current + 1 = length-append current (13 ∷ []) in
    let part : length tail ≡ length line + length (current ++ 13 ∷ []) = ap length at.written ∙ length-append line (current ++ 13 ∷ []) in
    record {
      chunk = record { size = at.size; signature = place.signature; bytes = current };
      rest = 10 ∷ [];
      form = record { size = at.form; length = sym at.long; signature = digits };
      begun =
          ap (λ t. line ++ t) (sym (append_assoc current (13 ∷ []) (10 ∷ [])))
          ∙ sym (append_assoc line (current ++ 13 ∷ []) (10 ∷ []))
          ∙ ap (λ t. t ++ 10 ∷ []) (sym at.written);
      more = omega arith;
      joined = at.given ∙ ap (λ t. data_of chunks ++ t) (sym (take_all (length tail - length line) current (omega (arith, part, end))));
    }

complete_at : (terms : Terms) (place : Place) (current held : List ℕ) (chunks : List Chunk) (tail : List ℕ) (phase : Phase) → is_hex_digest place.signature ≡ true → At terms place current held chunks tail phase → Completion chunks tail held
complete_at terms place current held chunks tail (Size digits) form at = complete_size terms place current held chunks tail digits.0 digits.1 form at
complete_at terms place current held chunks tail (Line count value) form at = complete_line terms place current held chunks tail count value form at
complete_at terms place current held chunks tail (Data left last) form at = complete_data terms place current held chunks tail left last form at
complete_at terms place current held chunks tail (Ending last) form at = complete_ending terms place current held chunks tail last form at
complete_at terms place current held chunks tail Over form at = absurd at
complete_at terms place current held chunks tail (Refused fault) form at = absurd at

pub course_completes : (terms : Terms) (text : List ℕ) (place : Place) (current held : List ℕ) → (c : Course terms text place current held) → Completion c.chunks c.tail held
course_completes terms text place current held c = complete_at terms place current held c.chunks c.tail place.phase c.digits c.at

pub course_holds : (terms : Terms) (text : List ℕ) (place : Place) (current held : List ℕ) → Course terms text place current held → HoldsSoFar text held
course_holds terms text place current held c =
    let whole = course_completes terms text place current held c in
    record {
      chunks = c.chunks;
      chunk = whole.chunk;
      each = c.each;
      form = whole.form;
      front = c.tail;
      rest = whole.rest;
      written = c.written;
      begun = whole.begun;
      joined = whole.joined;
    }
