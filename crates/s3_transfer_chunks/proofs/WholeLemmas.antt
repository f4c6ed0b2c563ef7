-- A body is read to its end where its data is within the limit, and else refused for its size.
use Rattle.std.proofs.Common.{◌≡◌, ℕ, ◌+◌, ◌-◌, ◌<◌, ◌≤◌, ⊎_elim, Bool, true, false, ◌&&◌, nat_le, nat_lt, List, [], ◌∷◌, ◌++◌, length, take, refl, sym, ap, ◌∙◌, subst, arith, append_assoc, ne_eqb, lt-ltb, leb-true, length-append}
use Rattle.std.proofs.lemmas.Bool.{and_parts, false≢true, cases_lt}
use Rattle.std.proofs.lemmas.List.{append-nil, length_push}
use Rattle.std.specs.List.{list_all}
use Rattle.s3_text.specs.Characters.{crlf}
use Rattle.s3_terms.specs.declared.code.Code.{Code}
use Rattle.s3_terms.specs.declared.code.Code.TheVariants.{InvalidRequest, EntityTooLarge}
use Rattle.s3_transfer_chunks.specs.Body.{AreChunks, Chunk, IsChunk, IsExtension, IsLast, IsTransferBody, chunk_text, chunks_text, data_of, end_text, is_size, line_text, size_of}
use Rattle.s3_transfer_chunks.specs.Finality.{IsDecided}
use Rattle.s3_transfer_chunks.specs.Place.{is_hex, place_behind, read}
use Rattle.s3_transfer_chunks.specs.Reading.{Reading, announced, count_taken, is_settled, run, started, taken_in}
use Rattle.s3_transfer_chunks.specs.Verdict.{Accepted, Refused, Verdict, accepts, verdict_in, verdict_of}
use Rattle.s3_transfer_chunks.specs.declared.place.Fault.TheVariants.{TooLarge}
use Rattle.s3_transfer_chunks.specs.declared.place.Place.{Place}
use Rattle.s3_transfer_chunks.specs.declared.place.Place.TheVariants as places
use Rattle.s3_transfer_chunks.specs.declared.place.Place.TheVariants.{Size, Line, Data, DataEnd, Last, LastEnd, Over}
use Rattle.s3_transfer_chunks.specs.declared.place.Tail.TheVariants.{End}
use Rattle.s3_transfer_chunks.proofs.RunLemmas.{count-append, count_all, run-append, run_settled}
use Rattle.s3_transfer_chunks.proofs.FinalLemmas.{refused_front, verdicts_stay}
use Rattle.s3_transfer_chunks.proofs.StepLemmas.{announces, extension_follows, moves, reading_at, run_chunk_data, run_digits}

-- what a size is made of
size_parts : (size : List ℕ) → is_size size ≡ true → (1 ≤ length size) × (length size ≤ 16) × (list_all is_hex size ≡ true)
size_parts size form =
    let both = and_parts (nat_le 1 (length size) && nat_le (length size) 16) (list_all is_hex size) form in
    let bounds = and_parts (nat_le 1 (length size)) (nat_le (length size) 16) both.0 in
    (leb-true _ _ bounds.0, leb-true _ _ bounds.1, both.1)

-- the line of a size, and what stands behind it: the size is announced, and the rest of the line is passed
pub run_size : (size extension rest : List ℕ) (left : ℕ) (held : List ℕ) → is_size size ≡ true → IsExtension extension → size_of size ≤ left → run (reading_at (Size (0, 0)) left held) (line_text size extension ++ rest) ≡ run (reading_at (place_behind (size_of size)) (left - size_of size) held) rest
unfolding read
run_size size extension rest left held form which fits =
    let n = size_of size in
    let parts = size_parts size form in
    let follows = extension_follows extension (10 ∷ rest) which in
    let digits = run_digits size 0 0 left held parts.2 (omega (arith, parts.1)) in
    let at = reading_at (Size (0 + length size, n)) left held in
    let text : line_text size extension ++ rest ≡ size ++ (follows.byte ∷ follows.behind) =
    append_assoc size (extension ++ crlf) rest
    ∙ ap (λ t. size ++ t) (append_assoc extension crlf rest ∙ follows.written) in
    let shut : nat_lt left n ≡ false = grind (arith, fits) in
    let step = announces (0 + length size) n left held follows.byte follows.tail (omega (arith, parts.0)) follows.other (follows.known n) in
    let open' : announced at n (Line n follows.tail) ≡ reading_at (Line n follows.tail) (left - n) held = rw shut refl in
    ap (run (reading_at (Size (0, 0)) left held)) text
    ∙ run-append (reading_at (Size (0, 0)) left held) size (follows.byte ∷ follows.behind)
    ∙ ap (λ (r : Reading). run r (follows.byte ∷ follows.behind)) digits
    ∙ ap (λ (r : Reading). run r follows.behind) (step ∙ open')
    ∙ follows.passes n (left - n) held
    ∙ ap (λ (r : Reading). run r rest) (moves (Line n End) (place_behind n) (left - n) held 10 refl refl refl)

-- a size over the limit is refused
pub run_size_over : (size extension rest : List ℕ) (left : ℕ) (held : List ℕ) → is_size size ≡ true → IsExtension extension → left < size_of size → run (reading_at (Size (0, 0)) left held) (line_text size extension ++ rest) ≡ reading_at (places.Refused TooLarge) left held
run_size_over size extension rest left held form which over =
    let n = size_of size in
    let parts = size_parts size form in
    let follows = extension_follows extension (10 ∷ rest) which in
    let digits = run_digits size 0 0 left held parts.2 (omega (arith, parts.1)) in
    let at = reading_at (Size (0 + length size, n)) left held in
    let text : line_text size extension ++ rest ≡ size ++ (follows.byte ∷ follows.behind) =
    append_assoc size (extension ++ crlf) rest
    ∙ ap (λ t. size ++ t) (append_assoc extension crlf rest ∙ follows.written) in
    let step = announces (0 + length size) n left held follows.byte follows.tail (omega (arith, parts.0)) follows.other (follows.known n) in
    let shut : announced at n (Line n follows.tail) ≡ reading_at (places.Refused TooLarge) left held = rw (lt-ltb left n over) refl in
    ap (run (reading_at (Size (0, 0)) left held)) text
    ∙ run-append (reading_at (Size (0, 0)) left held) size (follows.byte ∷ follows.behind)
    ∙ ap (λ (r : Reading). run r (follows.byte ∷ follows.behind)) digits
    ∙ ap (λ (r : Reading). run r follows.behind) (step ∙ shut)
    ∙ run_settled (reading_at (places.Refused TooLarge) left held) follows.behind refl

-- a size of some data
behind_some : (size : ℕ) → 0 < size → place_behind size ≡ Data size
behind_some size some = rw (ne_eqb size 0 (λ same. omega (arith, some, same))) refl

run_chunk : (c : Chunk) (left : ℕ) (held : List ℕ) → IsChunk c → length c.bytes ≤ left → run (reading_at (Size (0, 0)) left held) (chunk_text c) ≡ reading_at (Size (0, 0)) (left - length c.bytes) (held ++ c.bytes)
unfolding read
run_chunk c left held is fits =
    let n = size_of c.size in
    let line = run_size c.size c.extension (c.bytes ++ crlf) left held is.form is.extended (omega (arith, is.long, fits)) in
    let bytes = run_chunk_data c.bytes n (left - n) held is.long is.some in
    let return' = moves (Data 0) DataEnd (left - n) (held ++ c.bytes) 13 refl refl refl in
    let feed = moves DataEnd (Size (0, 0)) (left - n) (held ++ c.bytes) 10 refl refl refl in
    line
    ∙ ap (λ (place : Place). run (reading_at place (left - n) held) (c.bytes ++ crlf)) (behind_some n (omega (arith, is.long, is.some)))
    ∙ run-append (reading_at (Data n) (left - n) held) c.bytes crlf
    ∙ ap (λ (r : Reading). run r crlf) bytes
    ∙ ap (λ (r : Reading). run r (10 ∷ [])) return'
    ∙ feed
    ∙ ap (λ (k : ℕ). reading_at (Size (0, 0)) (left - k) (held ++ c.bytes)) is.long

run_chunks : (cs : List Chunk) (left : ℕ) (held : List ℕ) → AreChunks cs → length (data_of cs) ≤ left → run (reading_at (Size (0, 0)) left held) (chunks_text cs) ≡ reading_at (Size (0, 0)) (left - length (data_of cs)) (held ++ data_of cs)
run_chunks [] left held each fits =
    let all : left ≡ left - 0 = omega arith in
    ap (λ (h : List ℕ). reading_at (Size (0, 0)) left h) (sym (append-nil held))
    ∙ ap (λ (k : ℕ). reading_at (Size (0, 0)) k (held ++ [])) all
run_chunks (c ∷ cs) left held each fits =
    let bytes = length-append c.bytes (data_of cs) in
    let rest : left - length c.bytes - length (data_of cs) ≡ left - length (c.bytes ++ data_of cs) = omega (arith, bytes) in
    run-append (reading_at (Size (0, 0)) left held) (chunk_text c) (chunks_text cs)
    ∙ ap (λ (r : Reading). run r (chunks_text cs)) (run_chunk c left held each.0 (omega (arith, fits, bytes)))
    ∙ run_chunks cs (left - length c.bytes) (held ++ c.bytes) each.1 (omega (arith, fits, bytes))
    ∙ ap (λ (k : ℕ). reading_at (Size (0, 0)) k ((held ++ c.bytes) ++ data_of cs)) rest
    ∙ ap (λ (h : List ℕ). reading_at (Size (0, 0)) (left - length (c.bytes ++ data_of cs)) h) (append_assoc held c.bytes (data_of cs))

-- chunks whose sizes come to more than the limit are refused, with what follows them
run_chunks_over : (cs : List Chunk) (rest : List ℕ) (left : ℕ) (held : List ℕ) → AreChunks cs → left < length (data_of cs) → (run (reading_at (Size (0, 0)) left held) (chunks_text cs ++ rest)).place ≡ places.Refused TooLarge
run_chunks_over [] rest left held each over = absurd (omega (arith, over))
run_chunks_over (c ∷ cs) rest left held each over =
    let all : chunks_text (c ∷ cs) ++ rest ≡ chunk_text c ++ (chunks_text cs ++ rest) = append_assoc (chunk_text c) (chunks_text cs) rest in
    ap (λ (t : List ℕ). (run (reading_at (Size (0, 0)) left held) t).place) all
    ∙ ⊎_elim
    (λ (now : left < length c.bytes).
    let line : chunk_text c ++ (chunks_text cs ++ rest) ≡ line_text c.size c.extension ++ ((c.bytes ++ crlf) ++ (chunks_text cs ++ rest)) =
    append_assoc (line_text c.size c.extension) (c.bytes ++ crlf) (chunks_text cs ++ rest) in
    let is = each.0 in
    ap (λ (t : List ℕ). (run (reading_at (Size (0, 0)) left held) t).place) line
    ∙ ap (λ (r : Reading). r.place)
    (run_size_over c.size c.extension ((c.bytes ++ crlf) ++ (chunks_text cs ++ rest)) left held is.form is.extended (omega (arith, now, is.long))))
    (λ (later : length c.bytes ≤ left).
    let bytes = length-append c.bytes (data_of cs) in
    ap (λ (r : Reading). r.place)
    (run-append (reading_at (Size (0, 0)) left held) (chunk_text c) (chunks_text cs ++ rest)
    ∙ ap (λ (r : Reading). run r (chunks_text cs ++ rest)) (run_chunk c left held each.0 later))
    ∙ run_chunks_over cs rest (left - length c.bytes) (held ++ c.bytes) each.1 (omega (arith, over, bytes, later)))
    (cases_lt left (length c.bytes))

-- a body but for its last byte
abbrev front_text : List Chunk → List ℕ → List ℕ → List ℕ
front_text chunks last extension = chunks_text chunks ++ (line_text last extension ++ 13 ∷ [])

front_read : (chunks : List Chunk) (last extension : List ℕ) (limit : ℕ) → AreChunks chunks → IsLast last extension → length (data_of chunks) ≤ limit → run (started limit) (front_text chunks last extension) ≡ reading_at LastEnd (limit - length (data_of chunks)) (data_of chunks)
unfolding read
front_read chunks last extension limit each ends fits =
    let left = limit - length (data_of chunks) in
    let held = data_of chunks in
    let zero' = ends.zero in
    let none : left - size_of last ≡ left = omega (arith, zero') in
    run-append (started limit) (chunks_text chunks) (line_text last extension ++ 13 ∷ [])
    ∙ ap (λ (r : Reading). run r (line_text last extension ++ 13 ∷ [])) (run_chunks chunks limit [] each fits)
    ∙ run_size last extension (13 ∷ []) left held ends.form ends.extended (omega (arith, zero'))
    ∙ ap (λ (n : ℕ). run (reading_at (place_behind n) (left - size_of last) held) (13 ∷ [])) zero'
    ∙ ap (λ (n : ℕ). run (reading_at Last n held) (13 ∷ [])) none
    ∙ moves Last LastEnd left held 13 refl refl refl

front_written : (chunks : List Chunk) (last extension : List ℕ) → chunks_text chunks ++ end_text last extension ≡ front_text chunks last extension ++ 10 ∷ []
front_written chunks last extension =
    ap (λ t. chunks_text chunks ++ t) (sym (append_assoc (line_text last extension) (13 ∷ []) (10 ∷ [])))
    ∙ sym (append_assoc (chunks_text chunks) (line_text last extension ++ 13 ∷ []) (10 ∷ []))

pub body_read : (limit : ℕ) (text held : List ℕ) → IsTransferBody text held → length held ≤ limit → (run (started limit) text ≡ reading_at Over (limit - length held) held) × (taken_in limit text ≡ length text)
unfolding read
body_read limit text held body within =
    let chunks = body.chunks in
    let front = front_text chunks body.last body.extension in
    let fits : length (data_of chunks) ≤ limit = omega (arith, within, ap length body.joined) in
    let left = limit - length (data_of chunks) in
    let at = front_read chunks body.last body.extension limit body.each body.ends fits in
    let is : text ≡ front ++ 10 ∷ [] = body.written ∙ front_written chunks body.last body.extension in
    let open' = count_all (started limit) front (ap (λ (r : Reading). is_settled r.place) at) in
    let last : taken_in limit (front ++ 10 ∷ []) ≡ taken_in limit front + 1 =
    count-append (started limit) front (10 ∷ [])
    ∙ ap (λ (r : Reading). taken_in limit front + count_taken r (10 ∷ [])) at in
    let long : length (front ++ 10 ∷ []) ≡ length front + 1 = length_push front 10 in
    let same : taken_in limit text ≡ taken_in limit (front ++ 10 ∷ []) = ap (taken_in limit) is in
    let long' : length text ≡ length (front ++ 10 ∷ []) = ap length is in (
      ap (run (started limit)) is
          ∙ run-append (started limit) front (10 ∷ [])
          ∙ ap (λ (r : Reading). run r (10 ∷ [])) at
          ∙ moves LastEnd Over left (data_of chunks) 10 refl refl refl
          ∙ ap (λ (h : List ℕ). reading_at Over (limit - length h) h) (sym body.joined),
      omega (arith, open', last, long, same, long'),
    )

pub body_over : (limit : ℕ) (text held : List ℕ) → IsTransferBody text held → limit < length held → (run (started limit) text).place ≡ places.Refused TooLarge
body_over limit text held body over =
    ap (λ (t : List ℕ). (run (started limit) t).place) body.written
    ∙ run_chunks_over body.chunks (end_text body.last body.extension) limit [] body.each (omega (arith, over, ap length body.joined))

verdict_over : (r : Reading) (taken : ℕ) → r.place ≡ places.Refused TooLarge → verdict_in r taken ≡ Refused taken EntityTooLarge
verdict_over r taken over = rw over refl

-- and stays refused
pub body_large : (limit : ℕ) (text rest : List ℕ) (ended : Bool) (held : List ℕ) → IsTransferBody text held → limit < length held → verdict_of limit (text ++ rest) ended ≡ Refused (taken_in limit text) EntityTooLarge
body_large limit text rest ended held body over =
    let said : verdict_of limit text false ≡ Refused (taken_in limit text) EntityTooLarge =
    verdict_over (run (started limit) text) (taken_in limit text) (body_over limit text held body over) in
    verdicts_stay limit text rest ended (subst IsDecided (sym said) tt) ∙ said

pub body_accepted : (limit : ℕ) (text rest : List ℕ) (ended : Bool) (held : List ℕ) → IsTransferBody text held → length held ≤ limit → verdict_of limit (text ++ rest) ended ≡ Accepted (length text) held
body_accepted limit text rest ended held body within =
    let both = body_read limit text held body within in
    let accepted : verdict_of limit text false ≡ Accepted (length text) held =
    ap (λ (r : Reading). verdict_in r (taken_in limit text)) both.0 ∙ ap (λ (n : ℕ). Accepted n held) both.1 in
    verdicts_stay limit text rest ended (subst IsDecided (sym accepted) tt) ∙ accepted

-- what is refused begins no body within the limit
refused_none : (limit : ℕ) (bytes : List ℕ) (place : ℕ) (code : Code) → verdict_of limit bytes false ≡ Refused place code → (rest held : List ℕ) → IsTransferBody (take place bytes ++ rest) held → length held ≤ limit → ⊥
refused_none limit bytes place code is rest held body within =
    let text = take place bytes in
    let refused' = (refused_front limit bytes place code is).1 in
    let both = body_read limit (text ++ rest) held body within in
    let accepted : verdict_of limit (text ++ rest) false ≡ Accepted (taken_in limit (text ++ rest)) held =
    ap (λ (r : Reading). verdict_in r (taken_in limit (text ++ rest))) both.0 in
    let stays = verdicts_stay limit text rest false (subst IsDecided (sym refused') tt) in
    false≢true (ap accepts (sym refused' ∙ sym stays ∙ accepted))

pub refused_large : (limit : ℕ) (bytes : List ℕ) (place : ℕ) (code : Code) → verdict_of limit bytes false ≡ Refused place code → (rest held : List ℕ) → IsTransferBody (take place bytes ++ rest) held → limit < length held
refused_large limit bytes place code is rest held body =
    ⊎_elim
    (λ (large : limit < length held). large)
    (λ (within : length held ≤ limit). absurd (refused_none limit bytes place code is rest held body within))
    (cases_lt limit (length held))

-- a refusal for another reason than the size
abbrev is_misspelled : Verdict → Bool
is_misspelled (Refused place InvalidRequest) = true
is_misspelled other = false

pub misspelled_none : (limit : ℕ) (bytes : List ℕ) (place : ℕ) → verdict_of limit bytes false ≡ Refused place InvalidRequest → (rest held : List ℕ) → IsTransferBody (take place bytes ++ rest) held → ⊥
misspelled_none limit bytes place is rest held body =
    let text = take place bytes in
    let refused' = (refused_front limit bytes place InvalidRequest is).1 in
    let stays = verdicts_stay limit text rest false (subst IsDecided (sym refused') tt) in
    let large = refused_large limit bytes place InvalidRequest is rest held body in
    let over = body_over limit (text ++ rest) held body large in
    let said = verdict_over (run (started limit) (text ++ rest)) (taken_in limit (text ++ rest)) over in
    false≢true (ap is_misspelled (sym said ∙ stays ∙ refused'))
