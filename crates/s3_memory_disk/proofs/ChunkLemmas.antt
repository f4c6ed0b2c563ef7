-- Bytes in chunks of one size.
use Rattle.std.proofs.Common.{◌≡◌, refl, sym, ap, ◌∙◌, ℕ, zero, suc, ◌+◌, ◌-◌, ◌*◌, ◌/◌, ◌%◌, ◌<◌, ◌≤◌, List, [], ◌∷◌, ◌++◌, length, take, drop, get_or, arith, length-append, length-drop, length-take, append_assoc, min}
use Rattle.std.proofs.Math.ListN.{set}
use Rattle.std.proofs.lemmas.List.{drop-drop, drop_at, take_at, drop-append-le, take-append-le, take-append-drop, drop-take, take-take}
use Rattle.std.proofs.lemmas.List.Folds.{concat-append}
use Rattle.std.proofs.lemmas.List.Elements.{All-push, All-take}
use Rattle.std.proofs.Math.Seq.{take-add}
use borrow.Rule.Slice.PartMut.{put_mid, post_of}
use Rattle.std.specs.List.{concat}
use Rattle.s3_memory_disk.specs.Chunks.{AreChunks, overwritten}

rest_of : (chunk : List ℕ) (chunks : List (List ℕ)) (size : ℕ) → AreChunks size (chunk ∷ chunks) → AreChunks size chunks
rest_of chunk chunks size are = λ k d inside. are (suc k) d (omega arith)

pub length-concat : (chunks : List (List ℕ)) (size : ℕ) → AreChunks size chunks → length (concat chunks) ≡ length chunks * size
length-concat [] size are = grind arith
length-concat (chunk ∷ chunks) size are =
    let first : length chunk ≡ size = are 0 [] (omega arith) in
    let others = length-concat chunks size (rest_of chunk chunks size are) in
    length-append chunk (concat chunks) ∙ grind (arith, first, others)

-- what lies behind the first bytes
pub drop_past : (front bytes : List ℕ) (at : ℕ) → drop (length front + at) (front ++ bytes) ≡ drop at bytes
drop_past front bytes at =
    sym (drop-drop at (length front) (front ++ bytes)) ∙ ap (drop at) (drop_at front bytes (length front) refl)

next_place : (chunk : List ℕ) (size index offset : ℕ) → length chunk ≡ size → suc index * size + offset ≡ length chunk + (index * size + offset)
next_place chunk size index offset is = grind (arith, is)

-- what lies in one chunk
pub in_chunk : (chunks : List (List ℕ)) (size index offset count : ℕ) (d : List ℕ) → AreChunks size chunks → index < length chunks → offset + count ≤ size
    → take count (drop (index * size + offset) (concat chunks)) ≡ take count (drop offset (get_or chunks index d))
in_chunk [] size index offset count d are inside fits = absurd (omega arith)
in_chunk (chunk ∷ chunks) size zero offset count d are inside fits =
    let first : length chunk ≡ size = are 0 d (omega arith) in
    let place : zero * size + offset ≡ offset = grind arith in
    ap (λ n. take count (drop n (chunk ++ concat chunks))) place
    ∙ ap (take count) (drop-append-le offset chunk (concat chunks) (omega arith))
    ∙ take-append-le count (drop offset chunk) (concat chunks) (omega (arith, length-drop offset chunk))
in_chunk (chunk ∷ chunks) size (suc index) offset count d are inside fits =
    let first : length chunk ≡ size = are 0 d (omega arith) in
    ap (λ n. take count (drop n (chunk ++ concat chunks))) (next_place chunk size index offset first)
    ∙ ap (take count) (drop_past chunk (concat chunks) (index * size + offset))
    ∙ in_chunk chunks size index offset count d (rest_of chunk chunks size are) (omega arith) fits

overwritten_first : (front back bytes : List ℕ) (at : ℕ) → at + length bytes ≤ length front → overwritten front at bytes ++ back ≡ overwritten (front ++ back) at bytes
overwritten_first front back bytes at fits =
    append_assoc (take at front ++ bytes) (drop (at + length bytes) front) back
    ∙ ap (λ l. (take at front ++ bytes) ++ l) (sym (drop-append-le (at + length bytes) front back fits))
    ∙ ap (λ l. (l ++ bytes) ++ drop (at + length bytes) (front ++ back)) (sym (take-append-le at front back (omega arith)))

take_past : (front back : List ℕ) (at : ℕ) → take (length front + at) (front ++ back) ≡ front ++ take at back
take_past [] back at =
    let place : length {A = ℕ} [] + at ≡ at = omega arith in
    ap (λ n. take n back) place
take_past (x ∷ front) back at =
    let place : length (x ∷ front) + at ≡ suc (length front + at) = omega arith in
    ap (λ n. take n (x ∷ (front ++ back))) place ∙ ap (λ l. x ∷ l) (take_past front back at)

overwritten_past : (front back bytes : List ℕ) (at : ℕ) → overwritten (front ++ back) (length front + at) bytes ≡ front ++ overwritten back at bytes
overwritten_past front back bytes at =
    let place : length front + at + length bytes ≡ length front + (at + length bytes) = omega arith in
    let rest = drop (at + length bytes) back in
    ap (λ l. (l ++ bytes) ++ drop (length front + at + length bytes) (front ++ back)) (take_past front back at)
    ∙ ap (λ n. ((front ++ take at back) ++ bytes) ++ drop n (front ++ back)) place
    ∙ ap (λ l. ((front ++ take at back) ++ bytes) ++ l) (drop_past front back (at + length bytes))
    ∙ ap (λ l. l ++ rest) (append_assoc front (take at back) bytes)
    ∙ append_assoc front (take at back ++ bytes) rest

-- bytes that are written into one chunk
pub concat-set : (chunks : List (List ℕ)) (size index offset : ℕ) (bytes d : List ℕ) → AreChunks size chunks → index < length chunks → offset + length bytes ≤ size
    → concat (set chunks index (overwritten (get_or chunks index d) offset bytes)) ≡ overwritten (concat chunks) (index * size + offset) bytes
concat-set [] size index offset bytes d are inside fits = absurd (omega arith)
concat-set (chunk ∷ chunks) size zero offset bytes d are inside fits =
    let first : length chunk ≡ size = are 0 d (omega arith) in
    let place : offset ≡ zero * size + offset = grind arith in
    overwritten_first chunk (concat chunks) bytes offset (omega arith)
    ∙ ap (λ n. overwritten (chunk ++ concat chunks) n bytes) place
concat-set (chunk ∷ chunks) size (suc index) offset bytes d are inside fits =
    let first : length chunk ≡ size = are 0 d (omega arith) in
    ap (λ l. chunk ++ l) (concat-set chunks size index offset bytes d (rest_of chunk chunks size are) (omega arith) fits)
    ∙ sym (overwritten_past chunk (concat chunks) bytes (index * size + offset))
    ∙ ap (λ n. overwritten (chunk ++ concat chunks) n bytes) (sym (next_place chunk size index offset first))

pub length-overwritten : (file bytes : List ℕ) (at : ℕ) → at + length bytes ≤ length file → length (overwritten file at bytes) ≡ length file
length-overwritten file bytes at fits =
    length-append (take at file ++ bytes) (drop (at + length bytes) file)
    ∙ omega (arith, length-append (take at file) bytes, length-take at file, length-drop (at + length bytes) file)

-- bytes that are written behind others are written with them
pub overwritten-overwritten : (file first second : List ℕ) (at : ℕ) → at + length first ≤ length file → overwritten (overwritten file at first) (at + length first) second ≡ overwritten file at (first ++ second)
overwritten-overwritten file first second at fits =
    let front = take at file ++ first in
    let back = drop (at + length first) file in
    let long : length front ≡ at + length first = omega (arith, length-append (take at file) first, length-take at file) in
    let place : at + length first ≡ length front + 0 = omega arith in
    let end : at + length first + (0 + length second) ≡ at + length (first ++ second) = omega (arith, length-append first second) in
    ap (λ n. overwritten (front ++ back) n second) place
    ∙ overwritten_past front back second 0
    ∙ sym (append_assoc front second (drop (0 + length second) back))
    ∙ ap (λ l. l ++ drop (0 + length second) back) (append_assoc (take at file) first second)
    ∙ ap (λ l. (take at file ++ (first ++ second)) ++ l) (drop-drop (0 + length second) (at + length first) file)
    ∙ ap (λ n. (take at file ++ (first ++ second)) ++ drop n file) end

pub has_chunk : (chunks : List (List ℕ)) (bytes : List ℕ) (at more : ℕ) → AreChunks 65536 chunks → concat chunks ≡ bytes → 0 < more → at + more ≤ length bytes → at / 65536 < length chunks
has_chunk chunks bytes at more are view some inside = omega (arith, length-concat chunks 65536 are, ap length view)

pub chunk_length : (chunks : List (List ℕ)) (chunk : List ℕ) (index : ℕ) → AreChunks 65536 chunks → index < length chunks → chunk ≡ get_or chunks index chunk → length chunk ≡ 65536
chunk_length chunks chunk index are inside is = ap length is ∙ are index chunk inside

place_of : (at : ℕ) → at / 65536 * 65536 + at % 65536 ≡ at
place_of at = omega arith

-- a piece that is read, as the code finds it
pub read_from_chunk : (chunks : List (List ℕ)) (bytes chunk : List ℕ) (at count : ℕ) → AreChunks 65536 chunks → concat chunks ≡ bytes → at / 65536 < length chunks → chunk ≡ get_or chunks (at / 65536) chunk → at % 65536 + count ≤ 65536
    → take count (drop (at % 65536) chunk) ≡ take count (drop at bytes)
read_from_chunk chunks bytes chunk at count are view inside is fits =
    ap (λ l. take count (drop (at % 65536) l)) is
    ∙ sym (in_chunk chunks 65536 (at / 65536) (at % 65536) count chunk are inside fits)
    ∙ ap (λ n. take count (drop n (concat chunks))) (place_of at)
    ∙ ap (λ l. take count (drop at l)) view

-- a piece that is written, as the code finds it
pub written_to_chunk : (chunks : List (List ℕ)) (bytes before after piece : List ℕ) (at : ℕ) → AreChunks 65536 chunks → concat chunks ≡ bytes → at / 65536 < length chunks → before ≡ get_or chunks (at / 65536) before
    → at % 65536 + length piece ≤ 65536 → after ≡ overwritten before (at % 65536) piece → concat (set chunks (at / 65536) after) ≡ overwritten bytes at piece
written_to_chunk chunks bytes before after piece at are view inside is fits written =
    ap (λ l. concat (set chunks (at / 65536) l)) (written ∙ ap (λ l. overwritten l (at % 65536) piece) is)
    ∙ concat-set chunks 65536 (at / 65536) (at % 65536) piece before are inside fits
    ∙ ap (λ n. overwritten (concat chunks) n piece) (place_of at)
    ∙ ap (λ l. overwritten l at piece) view

-- one more piece that was read
pub more_read : (buf piece left file : List ℕ) (at done count k : ℕ) → done ≤ length buf → at + done + count ≤ length file → take done buf ≡ take done (drop at file) → piece ≡ take count (drop (at + done) file) ++ left
    → take (done + count) (put_mid done k buf piece) ≡ take (done + count) (drop at file)
more_read buf piece left file at done count k inside fits so_far is =
    let part = take count (drop (at + done) file) in
    let rest = left ++ post_of done k buf in
    let front : done + count ≡ length (take done buf) + count = omega (arith, length-take done buf) in
    let long : length part ≡ count = omega (arith, length-take count (drop (at + done) file), length-drop (at + done) file) in
    ap (λ l. take (done + count) (take done buf ++ (l ++ post_of done k buf))) is
    ∙ ap (λ l. take (done + count) (take done buf ++ l)) (append_assoc part left (post_of done k buf))
    ∙ ap (λ n. take n (take done buf ++ (part ++ rest))) front
    ∙ take_past (take done buf) (part ++ rest) count
    ∙ ap (λ l. take done buf ++ l) (take_at part rest count long)
    ∙ ap (λ l. l ++ part) so_far
    ∙ ap (λ l. take done (drop at file) ++ take count l) (sym (drop-drop done at file))
    ∙ sym (take-add done count (drop at file))

-- one more piece that was written
pub more_written : (file now next bytes piece : List ℕ) (at done count : ℕ) → done ≤ length bytes → at + length bytes ≤ length file → now ≡ overwritten file at (take done bytes) → piece ≡ take count (drop done bytes)
    → next ≡ overwritten now (at + done) piece → next ≡ overwritten file at (take (done + count) bytes)
more_written file now next bytes piece at done count inside fits so_far is written =
    let front : at + done ≡ at + length (take done bytes) = omega (arith, length-take done bytes) in
    written
    ∙ ap (λ f. overwritten f (at + done) piece) so_far
    ∙ ap (λ n. overwritten (overwritten file at (take done bytes)) n piece) front
    ∙ overwritten-overwritten file (take done bytes) piece at (omega (arith, length-take done bytes))
    ∙ ap (λ l. overwritten file at (take done bytes ++ l)) is
    ∙ ap (λ l. overwritten file at l) (sym (take-add done count bytes))

pub overwritten-nil : (file : List ℕ) (at : ℕ) → overwritten file at [] ≡ file
overwritten-nil file at =
    let none : at + length {A = ℕ} [] ≡ at = omega arith in
    ap (λ n. (take at file ++ []) ++ drop n file) none
    ∙ append_assoc (take at file) [] (drop at file)
    ∙ take-append-drop at file

pub kept_front : (front more bytes : List ℕ) (n : ℕ) → n ≡ length bytes → take n front ≡ bytes → take n (front ++ more) ≡ bytes
kept_front front more bytes n is kept = take-append-le n front more (omega (arith, ap length kept, length-take n front)) ∙ kept

-- one more chunk
pub more_chunks : (chunks after : List (List ℕ)) (chunk bytes : List ℕ) → after ≡ chunks ++ chunk ∷ [] → take (length bytes) (concat chunks) ≡ bytes → take (length bytes) (concat after) ≡ bytes
more_chunks chunks after chunk bytes is kept =
    ap (λ l. take (length bytes) (concat l)) is
    ∙ ap (take (length bytes)) (concat-append chunks (chunk ∷ []))
    ∙ kept_front (concat chunks) (concat (chunk ∷ [])) bytes (length bytes) refl kept

pub more_are : (chunks after : List (List ℕ)) (chunk : List ℕ) → after ≡ chunks ++ chunk ∷ [] → AreChunks 65536 chunks → length chunk ≡ 65536 → AreChunks 65536 after
more_are chunks after chunk is are whole = rw is (All-push (λ (l : List ℕ). length l ≡ 65536) chunks chunk are whole)

-- so many chunks have room for so many bytes
pub enough : (chunks : List (List ℕ)) (len : ℕ) → AreChunks 65536 chunks → len / 65536 + min 1 (len % 65536) ≤ length chunks → len ≤ length (concat chunks)
enough chunks len are many = omega (arith, length-concat chunks 65536 are)

pub first_enough : (chunks : List (List ℕ)) (len n : ℕ) → AreChunks 65536 chunks → n ≡ len / 65536 + min 1 (len % 65536) → len ≤ length (concat chunks) → len ≤ length (concat (take n chunks))
first_enough chunks len n are is inside =
    let first : AreChunks 65536 (take n chunks) = All-take (λ (l : List ℕ). length l ≡ 65536) n chunks are in
    omega (arith, length-concat chunks 65536 are, length-concat (take n chunks) 65536 first, length-take n chunks)

pub first_kept : (chunks : List (List ℕ)) (len n : ℕ) → AreChunks 65536 chunks → n ≡ len / 65536 + min 1 (len % 65536) → len ≤ length (concat chunks) → take len (concat (take n chunks)) ≡ take len (concat chunks)
first_kept chunks len n are is inside =
    sym (take-append-le len (concat (take n chunks)) (concat (drop n chunks)) (first_enough chunks len n are is inside))
    ∙ ap (take len) (sym (concat-append (take n chunks) (drop n chunks)) ∙ ap concat (take-append-drop n chunks))

-- what lies in the first bytes
pub in_front : (bytes file : List ℕ) (len at count : ℕ) → take len bytes ≡ file → at + count ≤ length file → take count (drop at bytes) ≡ take count (drop at file)
in_front bytes file len at count is inside =
    let fits : at + count ≤ len = omega (arith, ap length is, length-take len bytes) in
    let split : len ≡ at + (len - at) = omega arith in
    sym (ap (λ l. take count (drop at l)) (sym is) ∙ ap (λ n. take count (drop at (take n bytes))) split
    ∙ ap (take count) (drop-take at (len - at) bytes) ∙ take-take count (len - at) (drop at bytes) (omega arith))
