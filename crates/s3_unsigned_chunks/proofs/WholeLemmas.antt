-- A body is read to its end.
use Rattle.std.proofs.Common.{◌≡◌, ℕ, ◌+◌, ◌-◌, ◌<◌, ◌≤◌, Bool, true, false, ◌&&◌, nat_le, List, [], ◌∷◌, ◌++◌, length, take, drop, refl, sym, ap, ◌∙◌, subst, arith, append_assoc, ne_eqb, leb-true, length-append}
use Rattle.std.proofs.lemmas.Bool.{and_parts, false≢true}
use Rattle.std.proofs.lemmas.List.{append-nil, take-append-drop}
use Rattle.std.specs.Char.{is_ascii_graphic}
use Rattle.std.specs.List.{list_all}
use Rattle.s3_text.specs.Characters.{colon, crlf}
use Rattle.s3_terms.specs.declared.code.Code.{Code}
use Rattle.s3_unsigned_chunks.specs.Body.{AreChunks, AreSameName, Chunk, IsBody, IsChunk, IsGap, IsZero, chunk_text, chunks_text, data_of, end_text, is_size, is_value, size_of}
use Rattle.s3_unsigned_chunks.specs.Finality.{IsDecided}
use Rattle.s3_unsigned_chunks.specs.Place.{is_hex, read}
use Rattle.s3_unsigned_chunks.specs.Reading.{Terms, Reading, place_behind, run, started}
use Rattle.s3_unsigned_chunks.specs.Verdict.{Accepted, Refused, accepts, verdict_in, verdict_of}
use Rattle.s3_unsigned_chunks.specs.declared.place.Place.{Place}
use Rattle.s3_unsigned_chunks.specs.declared.place.Place.TheVariants.{Size, SizeEnd, Data, DataEnd, Name, Value, ValueEnd, Last, LastEnd, Over}
use Rattle.s3_unsigned_chunks.proofs.RunLemmas.{run-append}
use Rattle.s3_unsigned_chunks.proofs.FinalLemmas.{refused_front, verdicts_stay}
use Rattle.s3_unsigned_chunks.proofs.StepLemmas.{ends, moves, opens, read_colon, read_return, reading_at, run_chunk_data, run_digits, run_gap, run_name, run_value, settled_going}

-- what a size is made of
size_parts : (size : List ℕ) → is_size size ≡ true → (1 ≤ length size) × (length size ≤ 8) × (list_all is_hex size ≡ true)
size_parts size form =
    let both = and_parts (nat_le 1 (length size) && nat_le (length size) 8) (list_all is_hex size) form in
    let bounds = and_parts (nat_le 1 (length size)) (nat_le (length size) 8) both.0 in
    (leb-true _ _ bounds.0, leb-true _ _ bounds.1, both.1)

value_parts : (value : List ℕ) → is_value value ≡ true → (1 ≤ length value) × (length value ≤ 64) × (list_all is_ascii_graphic value ≡ true)
value_parts value form =
    let both = and_parts (nat_le 1 (length value) && nat_le (length value) 64) (list_all is_ascii_graphic value) form in
    let bounds = and_parts (nat_le 1 (length value)) (nat_le (length value) 64) both.0 in
    (leb-true _ _ bounds.0, leb-true _ _ bounds.1, both.1)

-- the same at other numbers
same_at : (place : Place) (value held : List ℕ) (taken other left rest : ℕ) → taken ≡ other → left ≡ rest → reading_at place taken left value held ≡ reading_at place other rest value held
same_at place value held taken other left rest a b =
    ap (λ (n : ℕ). reading_at place n left value held) a ∙ ap (λ (n : ℕ). reading_at place other n value held) b

-- the line of a size, and what stands behind it
run_line : (terms : Terms) (size rest : List ℕ) (taken left : ℕ) (held : List ℕ) → is_size size ≡ true → size_of size ≤ left → taken + (length size + 2) < terms.encoded → run terms (reading_at (Size (0, 0)) taken left [] held) (size ++ (crlf ++ rest)) ≡ run terms (reading_at (place_behind (size_of size)) (taken + (length size + 2)) (left - size_of size) [] held) rest
run_line terms size rest taken left held form fits below =
    let parts = size_parts size form in
    let n = length size in
    let digits = run_digits terms size 0 0 taken left [] held parts.2 (omega (arith, parts.1)) (omega (arith, below)) in
    let return' = moves terms (Size (0 + n, size_of size)) (SizeEnd (size_of size)) (taken + n) left [] held 13 refl refl (omega (arith, below))
    (read_return terms.name 0 (0 + n) (size_of size) (omega (arith, parts.0))) in
    let feed = opens terms (size_of size) (taken + n + 1) left [] held fits (omega (arith, below)) in
    let sum : taken + n + 1 + 1 ≡ taken + (n + 2) = omega arith in
    run-append terms (reading_at (Size (0, 0)) taken left [] held) size (crlf ++ rest)
    ∙ ap (λ (r : Reading). run terms r (crlf ++ rest)) digits
    ∙ ap (λ (r : Reading). run terms r (10 ∷ rest)) return'
    ∙ ap (λ (r : Reading). run terms r rest) (feed ∙ same_at (place_behind (size_of size)) [] held _ _ _ _ sum refl)

-- a size of some data
behind_some : (size : ℕ) → 0 < size → place_behind size ≡ Data size
behind_some size some = rw (ne_eqb size 0 (λ same. omega (arith, some, same))) refl

long_chunk : (c : Chunk) → length (chunk_text c) ≡ length c.size + 2 + length c.bytes + 2
long_chunk c =
    let one : length (chunk_text c) ≡ length c.size + length (crlf ++ (c.bytes ++ crlf)) = length-append c.size (crlf ++ (c.bytes ++ crlf)) in
    let two : length (c.bytes ++ crlf) ≡ length c.bytes + 2 = length-append c.bytes crlf in
    omega (arith, one, two)

run_chunk : (terms : Terms) (c : Chunk) (taken left : ℕ) (held : List ℕ) → IsChunk c → length c.bytes ≤ left → taken + length (chunk_text c) < terms.encoded → run terms (reading_at (Size (0, 0)) taken left [] held) (chunk_text c) ≡ reading_at (Size (0, 0)) (taken + length (chunk_text c)) (left - length c.bytes) [] (held ++ c.bytes)
unfolding read
run_chunk terms c taken left held is fits below =
    let long = long_chunk c in
    let n = length c.size + 2 in
    let more = size_of c.size in
    let line = run_line terms c.size (c.bytes ++ crlf) taken left held is.form (omega (arith, is.long, fits)) (omega (arith, long, below)) in
    let bytes = run_chunk_data terms c.bytes more (taken + n) (left - more) [] held is.long is.some (omega (arith, long, below)) in
    let return' = moves terms (Data 0) DataEnd (taken + n + length c.bytes) (left - more) [] (held ++ c.bytes) 13 refl refl (omega (arith, long, below)) refl in
    let feed = moves terms DataEnd (Size (0, 0)) (taken + n + length c.bytes + 1) (left - more) [] (held ++ c.bytes) 10 refl refl (omega (arith, long, below)) refl in
    let sum : taken + n + length c.bytes + 1 + 1 ≡ taken + length (chunk_text c) = omega (arith, long) in
    let rest : left - more ≡ left - length c.bytes = omega (arith, is.long) in
    let behind = behind_some more (omega (arith, is.long, is.some)) in
    line
    ∙ ap (λ (place : Place). run terms (reading_at place (taken + n) (left - more) [] held) (c.bytes ++ crlf)) behind
    ∙ run-append terms (reading_at (Data more) (taken + n) (left - more) [] held) c.bytes crlf
    ∙ ap (λ (r : Reading). run terms r crlf) bytes
    ∙ ap (λ (r : Reading). run terms r (10 ∷ [])) return'
    ∙ feed
    ∙ same_at (Size (0, 0)) [] (held ++ c.bytes) _ _ _ _ sum rest

run_chunks : (terms : Terms) (cs : List Chunk) (taken left : ℕ) (held : List ℕ) → AreChunks cs → length (data_of cs) ≤ left → taken + length (chunks_text cs) < terms.encoded → run terms (reading_at (Size (0, 0)) taken left [] held) (chunks_text cs) ≡ reading_at (Size (0, 0)) (taken + length (chunks_text cs)) (left - length (data_of cs)) [] (held ++ data_of cs)
run_chunks terms [] taken left held each fits below =
    let a : taken ≡ taken + 0 = omega arith in
    let b : left ≡ left - 0 = omega arith in
    same_at (Size (0, 0)) [] held _ _ _ _ a b
    ∙ ap (λ (h : List ℕ). reading_at (Size (0, 0)) (taken + 0) (left - 0) [] h) (sym (append-nil held))
run_chunks terms (c ∷ cs) taken left held each fits below =
    let text = length-append (chunk_text c) (chunks_text cs) in
    let bytes = length-append c.bytes (data_of cs) in
    let a : taken + length (chunk_text c) + length (chunks_text cs) ≡ taken + length (chunk_text c ++ chunks_text cs) = omega (arith, text) in
    let b : left - length c.bytes - length (data_of cs) ≡ left - length (c.bytes ++ data_of cs) = omega (arith, bytes) in
    run-append terms (reading_at (Size (0, 0)) taken left [] held) (chunk_text c) (chunks_text cs)
    ∙ ap (λ (r : Reading). run terms r (chunks_text cs)) (run_chunk terms c taken left held each.0 (omega (arith, fits, bytes)) (omega (arith, below, text)))
    ∙ run_chunks terms cs (taken + length (chunk_text c)) (left - length c.bytes) (held ++ c.bytes) each.1 (omega (arith, fits, bytes)) (omega (arith, below, text))
    ∙ same_at (Size (0, 0)) [] ((held ++ c.bytes) ++ data_of cs) _ _ _ _ a b
    ∙ ap (λ (h : List ℕ). reading_at (Size (0, 0)) (taken + length (chunk_text c ++ chunks_text cs)) (left - length (c.bytes ++ data_of cs)) [] h) (append_assoc held c.bytes (data_of cs))

-- behind the line of the last size
run_trailer : (terms : Terms) (name value gap : List ℕ) (taken : ℕ) (held : List ℕ) → AreSameName name terms.name → is_value value ≡ true → IsGap gap → taken + (length name + length value + length gap + 5) ≡ terms.encoded → run terms (reading_at (Name 0) taken 0 [] held) (name ++ colon ∷ (value ++ (gap ++ (crlf ++ crlf)))) ≡ reading_at Over terms.encoded 0 value held
unfolding read
run_trailer terms name value gap taken held named valued parted whole =
    let parts = value_parts value valued in
    let n = length name in
    let v = length value in
    let g = length gap in
    let rest = value ++ (gap ++ (crlf ++ crlf)) in
    let letters = run_name terms name [] terms.name taken 0 [] held refl named (omega (arith, whole)) in
    let colon' = moves terms (Name (length terms.name)) Value (taken + n) 0 [] held 58 refl refl (omega (arith, whole)) (read_colon terms.name 0 (length terms.name) refl) in
    let worth = run_value terms value (taken + n + 1) 0 [] held parts.2 (omega (arith, parts.1)) (omega (arith, whole)) in
    let behind = taken + n + 1 + v in
    let at = behind + g in
    let return' = run_gap terms gap behind 0 value held parted (omega (arith, parts.0)) (omega (arith, whole)) in
    let feed = moves terms ValueEnd Last (at + 1) 0 value held 10 refl refl (omega (arith, whole)) refl in
    let again = moves terms Last LastEnd (at + 1 + 1) 0 value held 13 refl refl (omega (arith, whole)) refl in
    let last = ends terms (at + 1 + 1 + 1) value held (omega (arith, whole)) in
    let sum : at + 1 + 1 + 1 + 1 ≡ terms.encoded = omega (arith, whole) in
    run-append terms (reading_at (Name 0) taken 0 [] held) name (colon ∷ rest)
    ∙ ap (λ (r : Reading). run terms r (colon ∷ rest)) letters
    ∙ ap (λ (r : Reading). run terms r rest) colon'
    ∙ run-append terms (reading_at Value (taken + n + 1) 0 [] held) value (gap ++ (crlf ++ crlf))
    ∙ ap (λ (r : Reading). run terms r (gap ++ (crlf ++ crlf))) worth
    ∙ ap (run terms (reading_at Value behind 0 value held)) (sym (append_assoc gap (13 ∷ []) (10 ∷ crlf)))
    ∙ run-append terms (reading_at Value behind 0 value held) (gap ++ 13 ∷ []) (10 ∷ crlf)
    ∙ ap (λ (r : Reading). run terms r (10 ∷ crlf)) return'
    ∙ ap (λ (r : Reading). run terms r crlf) feed
    ∙ ap (λ (r : Reading). run terms r (10 ∷ [])) again
    ∙ last
    ∙ same_at Over value held _ _ _ _ sum refl

long_end : (last name value gap : List ℕ) → length (end_text last name value gap) ≡ length last + 2 + (length name + length value + length gap + 5)
long_end last name value gap =
    let a = length-append last (crlf ++ (name ++ colon ∷ (value ++ (gap ++ (crlf ++ crlf))))) in
    let b = length-append name (colon ∷ (value ++ (gap ++ (crlf ++ crlf)))) in
    let c = length-append value (gap ++ (crlf ++ crlf)) in
    let d = length-append gap (crlf ++ crlf) in
    omega (arith, a, b, c, d)

run_end : (terms : Terms) (last name value gap : List ℕ) (taken left : ℕ) (held : List ℕ) → IsZero last → left ≡ 0 → AreSameName name terms.name → is_value value ≡ true → IsGap gap → taken + length (end_text last name value gap) ≡ terms.encoded → run terms (reading_at (Size (0, 0)) taken left [] held) (end_text last name value gap) ≡ reading_at Over terms.encoded 0 value held
run_end terms last name value gap taken left held zero' none named valued parted whole =
    let long = long_end last name value gap in
    let rest = name ++ colon ∷ (value ++ (gap ++ (crlf ++ crlf))) in
    let count = taken + (length last + 2) in
    let line = run_line terms last rest taken left held zero'.form (omega (arith, zero'.zero)) (omega (arith, long, whole)) in
    let gone : left - size_of last ≡ 0 = omega (arith, none) in
    line
    ∙ ap (λ (n : ℕ). run terms (reading_at (place_behind n) count (left - size_of last) [] held) rest) zero'.zero
    ∙ ap (λ (n : ℕ). run terms (reading_at (Name 0) count n [] held) rest) gone
    ∙ run_trailer terms name value gap count held named valued parted (omega (arith, long, whole))

body_read : (terms : Terms) (text held value : List ℕ) → IsBody terms text held value → run terms (started terms) text ≡ reading_at Over terms.encoded 0 value held
body_read terms text held value body =
    let tail = end_text body.last body.name value body.gap in
    let chunks = chunks_text body.chunks in
    let long : length text ≡ length chunks + length tail = ap length body.written ∙ length-append chunks tail in
    let more = long_end body.last body.name value body.gap in
    let sum : length (data_of body.chunks) ≡ terms.decoded = ap length (sym body.joined) ∙ body.decoded in
    let start : started terms ≡ reading_at (Size (0, 0)) 0 terms.decoded [] [] = settled_going terms _ (omega (arith, long, more, body.encoded)) in
    ap (run terms (started terms)) body.written
    ∙ ap (λ (r : Reading). run terms r (chunks ++ tail)) start
    ∙ run-append terms (reading_at (Size (0, 0)) 0 terms.decoded [] []) chunks tail
    ∙ ap (λ (r : Reading). run terms r tail) (run_chunks terms body.chunks 0 terms.decoded [] body.each (omega (arith, sum)) (omega (arith, long, more, body.encoded)))
    ∙ run_end terms body.last body.name value body.gap (0 + length chunks) (terms.decoded - length (data_of body.chunks)) ([] ++ data_of body.chunks) body.ends (omega (arith, sum)) body.named body.valued body.parted (omega (arith, long, body.encoded))
    ∙ ap (λ (h : List ℕ). reading_at Over terms.encoded 0 value h) (sym body.joined)

pub body_accepted : (terms : Terms) (bytes : List ℕ) (ended : Bool) (held value : List ℕ) → terms.encoded ≤ length bytes → IsBody terms (take terms.encoded bytes) held value → verdict_of terms bytes ended ≡ Accepted held value
body_accepted terms bytes ended held value come body =
    let text = take terms.encoded bytes in
    let accepted : verdict_of terms text false ≡ Accepted held value = ap verdict_in (body_read terms text held value body) in
    ap (λ (b : List ℕ). verdict_of terms b ended) (sym (take-append-drop terms.encoded bytes))
    ∙ verdicts_stay terms text (drop terms.encoded bytes) ended (subst IsDecided (sym accepted) tt)
    ∙ accepted

-- what is refused begins no body
pub refused_none : (terms : Terms) (bytes : List ℕ) (place : ℕ) (code : Code) → verdict_of terms bytes false ≡ Refused place code → (rest held value : List ℕ) → IsBody terms (take place bytes ++ rest) held value → ⊥
refused_none terms bytes place code is rest held value body =
    let text = take place bytes in
    let refused = (refused_front terms bytes place code is).1 in
    let accepted : verdict_of terms (text ++ rest) false ≡ Accepted held value = ap verdict_in (body_read terms (text ++ rest) held value body) in
    let stays = verdicts_stay terms text rest false (subst IsDecided (sym refused) tt) in
    false≢true (ap accepts (sym refused ∙ sym stays ∙ accepted))
