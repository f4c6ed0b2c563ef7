-- Sizes as they are written, and the bodies that are.
use Rattle.std.proofs.Common.{◌≡◌, ℕ, suc, zero, ◌+◌, ◌-◌, ◌*◌, ◌/◌, ◌%◌, ◌<◌, ◌≤◌, ⊎_elim, if◌then◌else◌, length-append, Bool, true, false, ◌&&◌, ◌==◌, nat_le, List, [], ◌∷◌, ◌++◌, length, map, take, drop, min, get_or, refl, sym, ap, subst, ◌∙◌, arith, append_assoc, ne_eqb, le-leb, codes}
use Rattle.std.proofs.lemmas.Bool.{and_from, cases_lt, false≢true}
use Rattle.std.proofs.lemmas.List.{map_push, length-map, length-take, length-drop, take-append-drop}
use Rattle.std.proofs.Math.Nat.{zero-div, zero-mod, div-eq_of_lt, mod-eq_of_lt, add-div_right, add-mod_right}
use Rattle.std.proofs.lemmas.Int.Digits.{digits_of_step, length-digits_of_step, length-digits_of-le, all_below_base_digits_of, digits_value_is, number_digits_of}
use Rattle.std.specs.List.{list_all, AllByRecursion}
use Rattle.std.specs.Char.{digit_char, digit_value}
use Rattle.std.specs.Int.Digits.{digits_of, AllBelowBase, number_from_digits}
use Rattle.s3_text.specs.Digest.{is_hex_digest}
use Rattle.s3_signing.specs.Chain.{Link, chunk_signature, linked}
use Rattle.s3_text.specs.Characters.{crlf}
use Rattle.s3_aws_chunked.specs.Chunk.{Chunk, IsChunk, is_hex, is_size, size_of, line_behind, first_line, chunk_text, chunks_text}
use Rattle.s3_aws_chunked.specs.Body.{AreSigned, HoldData, link_after}
use Rattle.s3_aws_chunked.specs.Write.{Adds, AreCut, IsPlain, Writes, chunk_length, chunk_of, chunks_length, written_length, written_size}
use Rattle.s3_aws_chunked.proofs.ParseLemmas.{signed_push}
use Rattle.s3_aws_chunked.proofs.TextLemmas.{length-behind}

some_size : (size : ℕ) → 0 < size → written_size size ≡ map digit_char (digits_of 16 size)
unfolding written_size
some_size size some = rw (ne_eqb size 0 (λ none. omega (arith, none, some))) refl

-- the digits of a table
digit_at : (d : ℕ) → d < 16 → get_or (codes "0123456789abcdef") d 0 ≡ digit_char d
digit_at zero below = refl
digit_at (suc zero) below = refl
digit_at (suc (suc zero)) below = refl
digit_at (suc (suc (suc zero))) below = refl
digit_at (suc (suc (suc (suc zero)))) below = refl
digit_at (suc (suc (suc (suc (suc zero))))) below = refl
digit_at (suc (suc (suc (suc (suc (suc zero)))))) below = refl
digit_at (suc (suc (suc (suc (suc (suc (suc zero))))))) below = refl
digit_at (suc (suc (suc (suc (suc (suc (suc (suc zero)))))))) below = refl
digit_at (suc (suc (suc (suc (suc (suc (suc (suc (suc zero))))))))) below = refl
digit_at (suc (suc (suc (suc (suc (suc (suc (suc (suc (suc zero)))))))))) below = refl
digit_at (suc (suc (suc (suc (suc (suc (suc (suc (suc (suc (suc zero))))))))))) below = refl
digit_at (suc (suc (suc (suc (suc (suc (suc (suc (suc (suc (suc (suc zero)))))))))))) below = refl
digit_at (suc (suc (suc (suc (suc (suc (suc (suc (suc (suc (suc (suc (suc zero))))))))))))) below = refl
digit_at (suc (suc (suc (suc (suc (suc (suc (suc (suc (suc (suc (suc (suc (suc zero)))))))))))))) below = refl
digit_at (suc (suc (suc (suc (suc (suc (suc (suc (suc (suc (suc (suc (suc (suc (suc zero))))))))))))))) below = refl
digit_at (suc (suc (suc (suc (suc (suc (suc (suc (suc (suc (suc (suc (suc (suc (suc (suc n)))))))))))))))) below = absurd (omega (arith, below))

last_digit : (size : ℕ) → get_or (codes "0123456789abcdef") (size % 16) 0 ≡ digit_char (size % 16)
last_digit size = digit_at (size % 16) (omega arith)

step : (size : ℕ) → 0 < size → written_size size ≡ map digit_char (digits_of 16 (size / 16)) ++ digit_char (size % 16) ∷ []
step size some =
    some_size size some
    ∙ ap (map digit_char) (digits_of_step 16 size (omega arith) some)
    ∙ map_push digit_char (digits_of 16 (size / 16)) (size % 16)

no_size : written_size 0 ≡ 48 ∷ []
unfolding written_size
no_size = refl

-- one digit
pub size_one : (size : ℕ) → size < 16 → written_size size ≡ get_or (codes "0123456789abcdef") size 0 ∷ []
size_one zero below = no_size
size_one (suc n) below =
    let front : suc n / 16 ≡ 0 = omega (arith, below) in
    let same : suc n % 16 ≡ suc n = omega (arith, below) in
    step (suc n) (omega arith)
    ∙ ap (λ k. map digit_char (digits_of 16 k) ++ digit_char (suc n % 16) ∷ []) front
    ∙ ap (λ d. d ∷ []) (sym (last_digit (suc n)))
    ∙ ap (λ k. get_or (codes "0123456789abcdef") k 0 ∷ []) same

-- one more
pub size_more : (size : ℕ) → 16 ≤ size → written_size (size / 16) ++ get_or (codes "0123456789abcdef") (size % 16) 0 ∷ [] ≡ written_size size
size_more size above =
    ap (λ d. written_size (size / 16) ++ d ∷ []) (last_digit size)
    ∙ ap (λ t. t ++ digit_char (size % 16) ∷ []) (some_size (size / 16) (omega (arith, above)))
    ∙ sym (step size (omega (arith, above)))

-- each digit is one, and has its value
digit_known : (d : ℕ) → d < 16 → (is_hex (digit_char d) ≡ true) × (digit_value (digit_char d) ≡ d)
digit_known zero below = (refl, refl)
digit_known (suc zero) below = (refl, refl)
digit_known (suc (suc zero)) below = (refl, refl)
digit_known (suc (suc (suc zero))) below = (refl, refl)
digit_known (suc (suc (suc (suc zero)))) below = (refl, refl)
digit_known (suc (suc (suc (suc (suc zero))))) below = (refl, refl)
digit_known (suc (suc (suc (suc (suc (suc zero)))))) below = (refl, refl)
digit_known (suc (suc (suc (suc (suc (suc (suc zero))))))) below = (refl, refl)
digit_known (suc (suc (suc (suc (suc (suc (suc (suc zero)))))))) below = (refl, refl)
digit_known (suc (suc (suc (suc (suc (suc (suc (suc (suc zero))))))))) below = (refl, refl)
digit_known (suc (suc (suc (suc (suc (suc (suc (suc (suc (suc zero)))))))))) below = (refl, refl)
digit_known (suc (suc (suc (suc (suc (suc (suc (suc (suc (suc (suc zero))))))))))) below = (refl, refl)
digit_known (suc (suc (suc (suc (suc (suc (suc (suc (suc (suc (suc (suc zero)))))))))))) below = (refl, refl)
digit_known (suc (suc (suc (suc (suc (suc (suc (suc (suc (suc (suc (suc (suc zero))))))))))))) below = (refl, refl)
digit_known (suc (suc (suc (suc (suc (suc (suc (suc (suc (suc (suc (suc (suc (suc zero)))))))))))))) below = (refl, refl)
digit_known (suc (suc (suc (suc (suc (suc (suc (suc (suc (suc (suc (suc (suc (suc (suc zero))))))))))))))) below = (refl, refl)
digit_known (suc (suc (suc (suc (suc (suc (suc (suc (suc (suc (suc (suc (suc (suc (suc (suc n)))))))))))))))) below = absurd (omega (arith, below))

all_hex : (ds : List ℕ) → AllBelowBase 16 ds → list_all is_hex (map digit_char ds) ≡ true
all_hex [] below = refl
all_hex (d ∷ ds) below = and_from (is_hex (digit_char d)) (list_all is_hex (map digit_char ds)) (digit_known d below.0).0 (all_hex ds below.1)

values_back : (ds : List ℕ) → AllBelowBase 16 ds → map digit_value (map digit_char ds) ≡ ds
values_back [] below = refl
values_back (d ∷ ds) below =
    ap (λ v. v ∷ map digit_value (map digit_char ds)) (digit_known d below.0).1 ∙ ap (λ vs. d ∷ vs) (values_back ds below.1)

-- a written size is a size, and says the number
pub written_form : (size : ℕ) → size ≤ 67108864 → is_size (written_size size) ≡ true
written_form zero most = ap is_size no_size
written_form (suc n) most =
    let digits = digits_of 16 (suc n) in
    let is : written_size (suc n) ≡ map digit_char digits = some_size (suc n) (omega arith) in
    let long : length (map digit_char digits) ≡ length digits = length-map digits digit_char in
    let some : length digits ≡ length (digits_of 16 (suc n / 16)) + 1 = length-digits_of_step 16 (suc n) (omega arith) (omega arith) in
    let short : length digits ≤ 8 = length-digits_of-le 16 8 (suc n) (omega arith) (omega (arith, most)) in
    ap is_size is
    ∙ and_from (nat_le 1 (length (map digit_char digits)) && nat_le (length (map digit_char digits)) 8) (list_all is_hex (map digit_char digits))
    (and_from (nat_le 1 (length (map digit_char digits))) (nat_le (length (map digit_char digits)) 8) (le-leb _ _ (omega (arith, long, some))) (le-leb _ _ (omega (arith, long, short))))
    (all_hex digits (all_below_base_digits_of 16 (suc n) (omega arith)))

pub written_value : (size : ℕ) → size_of (written_size size) ≡ size
written_value zero = ap size_of no_size
written_value (suc n) =
    let digits = digits_of 16 (suc n) in
    ap size_of (some_size (suc n) (omega arith))
    ∙ digits_value_is 16 (map digit_char digits)
    ∙ ap (number_from_digits 16) (values_back digits (all_below_base_digits_of 16 (suc n) (omega arith)))
    ∙ number_digits_of 16 (suc n) (omega arith)

-- what is written for some data is a chunk of it
pub written_chunk : (link : Link) (bytes : List ℕ) → length bytes ≤ 67108864 → is_hex_digest (chunk_signature link bytes) ≡ true → IsChunk (chunk_of link bytes)
written_chunk link bytes most digits = record {
  size = written_form (length bytes) most;
  length = written_value (length bytes);
  signature = digits;
}

-- the first chunk of some, and those behind it
pub adds_more : (seed after : Link) (bytes : List ℕ) (size : ℕ) (old mid new : List ℕ) (link : Link) → 0 < length bytes → 0 < size → size ≤ 67108864 → is_hex_digest (chunk_signature seed (take size bytes)) ≡ true → mid ≡ old ++ chunk_text (chunk_of seed (take size bytes)) → after ≡ linked seed (chunk_signature seed (take size bytes)) → Adds after (drop size bytes) size mid new link → Adds seed bytes size old new link
adds_more seed after bytes size old mid new link some positive most digits first chain a =
    let piece = take size bytes in
    let chunk = chunk_of seed piece in
    let long : length piece ≡ min size (length bytes) = length-take size bytes in
    record {
      chunks = chunk ∷ a.chunks;
      written = a.written ∙ ap (λ t. t ++ chunks_text a.chunks) first ∙ append_assoc old (chunk_text chunk) (chunks_text a.chunks);
      goes = a.goes ∙ ap (λ k. link_after k a.chunks) chain;
      each = ((written_chunk seed piece (omega (arith, long, most)) digits, omega (arith, long, some, positive)), a.each);
      signed = (refl, subst (λ k. AreSigned k a.chunks) chain a.signed);
      whole = ap (λ t. piece ++ t) a.whole ∙ take-append-drop size bytes;
      cut = (some, refl, a.cut);
      plain = (refl, a.plain);
    }

-- how long a chunk is
long_one : (c : Chunk) → IsChunk c → IsPlain c → length (chunk_text c) ≡ chunk_length (length c.bytes)
long_one c is plain =
    let whole : length (chunk_text c) ≡ length (first_line c.size c.signature) + length (c.bytes ++ crlf) = length-append (first_line c.size c.signature) (c.bytes ++ crlf) in
    let line : length (first_line c.size c.signature) ≡ length c.size + length (line_behind c.signature) = length-append c.size (line_behind c.signature) in
    let end : length (c.bytes ++ crlf) ≡ length c.bytes + 2 = length-append c.bytes crlf in
    let size : length c.size ≡ length (written_size (length c.bytes)) = ap length plain in
    omega (arith, whole, line, end, size, length-behind c.signature is.signature)

no_chunks : (size : ℕ) → chunks_length 0 size ≡ 0
no_chunks size =
    let whole : 0 / size ≡ 0 = zero-div size in
    let rest : 0 % size ≡ 0 = zero-mod size in
    rw (whole, rest) (none_of (chunk_length size))
  where
    none_of : (l : ℕ) → 0 * l + 0 ≡ 0
    none_of l = omega arith

-- fewer bytes than a chunk has
short_chunks : (count size : ℕ) → 0 < count → count < size → chunks_length count size ≡ chunk_length count
short_chunks count size some below =
    let whole : count / size ≡ 0 = div-eq_of_lt below in
    let rest : count % size ≡ count = mod-eq_of_lt below in
    let apart : (count == 0) ≡ false = ne_eqb count 0 (λ none. omega (arith, none, some)) in
    rw (whole, rest, apart) (none_and (chunk_length size) (chunk_length count))
  where
    none_and : (l r : ℕ) → 0 * l + r ≡ r
    none_and l r = omega arith

-- one chunk more
more_chunks : (count size : ℕ) → 0 < size → chunks_length (count + size) size ≡ chunk_length size + chunks_length count size
more_chunks count size some =
    let whole : (count + size) / size ≡ count / size + 1 = add-div_right count some in
    let rest : (count + size) % size ≡ count % size = add-mod_right count size in
    rw (whole, rest) (regroup (count / size) (chunk_length size) (if count % size == 0 then 0 else chunk_length (count % size)))
  where
    regroup : (q l r : ℕ) → (q + 1) * l + r ≡ l + (q * l + r)
    regroup q l r = grind arith

long_chunks : (chunks : List Chunk) (bytes : List ℕ) (size : ℕ) → 0 < size → HoldData chunks → AreCut size chunks bytes → AllByRecursion IsPlain chunks → length (chunks_text chunks) ≡ chunks_length (length bytes) size
long_chunks [] bytes size some each cut plain = sym (ap (λ (t : List ℕ). chunks_length (length t) size) cut ∙ no_chunks size)
long_chunks (c ∷ chunks) bytes size some each cut plain =
    let whole : length (chunk_text c ++ chunks_text chunks) ≡ length (chunk_text c) + length (chunks_text chunks) = length-append (chunk_text c) (chunks_text chunks) in
    let one = long_one c each.0.0 plain.0 in
    let rest = long_chunks chunks (drop size bytes) size some each.1 cut.2 plain.1 in
    let held : length c.bytes ≡ min size (length bytes) = ap length cut.1 ∙ length-take size bytes in
    let left : length (drop size bytes) ≡ length bytes - size = length-drop size bytes in
    whole ∙ ap (λ n. n + length (chunks_text chunks)) one ∙ ap (λ n. chunk_length (length c.bytes) + n) rest
    ∙ ⊎_elim
    (λ (short : length bytes < size). long_short short (omega (arith, held, short)) (omega (arith, left, short)))
    (λ (full : size ≤ length bytes). long_full full (omega (arith, held, full)) left)
    (cases_lt (length bytes) size)
  where
    long_short : length bytes < size → length c.bytes ≡ length bytes → length (drop size bytes) ≡ 0 → chunk_length (length c.bytes) + chunks_length (length (drop size bytes)) size ≡ chunks_length (length bytes) size
    long_short short held left =
        ap (λ n. chunk_length n + chunks_length (length (drop size bytes)) size) held
        ∙ ap (λ n. chunk_length (length bytes) + chunks_length n size) left
        ∙ ap (λ n. chunk_length (length bytes) + n) (no_chunks size)
        ∙ omega arith
        ∙ sym (short_chunks (length bytes) size cut.0 short)

    long_full : size ≤ length bytes → length c.bytes ≡ size → length (drop size bytes) ≡ length bytes - size → chunk_length (length c.bytes) + chunks_length (length (drop size bytes)) size ≡ chunks_length (length bytes) size
    long_full full held left =
        let back : length bytes - size + size ≡ length bytes = omega (arith, full) in
        ap (λ n. chunk_length n + chunks_length (length (drop size bytes)) size) held
        ∙ ap (λ n. chunk_length size + chunks_length n size) left
        ∙ sym (more_chunks (length bytes - size) size some)
        ∙ ap (λ n. chunks_length n size) back

empty_length : chunk_length 0 ≡ 86
empty_length = ap (λ t. length t + 85 + 0) no_size

whole_length : (bytes : List ℕ) (size last : ℕ) → last ≡ chunk_length 0 → chunks_length (length bytes) size + last ≡ written_length (length bytes) size
unfolding written_length
whole_length bytes size last is = ap (λ n. chunks_length (length bytes) size + n) (is ∙ empty_length)

-- all chunks, and the empty one
pub writes_all : (seed link : Link) (bytes : List ℕ) (size : ℕ) (body text : List ℕ) → 0 < size → Adds seed bytes size [] body link → is_hex_digest (chunk_signature link []) ≡ true → text ≡ body ++ chunk_text (chunk_of link []) → Writes seed bytes size text
writes_all seed link bytes size body text some a digits end = record {
  chunks = a.chunks;
  last = chunk_of link [];
  body = record {
    each = a.each;
    form = written_chunk link [] (omega arith) digits;
    empty = refl;
    written = end ∙ ap (λ t. t ++ chunk_text (chunk_of link [])) a.written;
  };
  signed = signed_push seed a.chunks (chunk_of link []) a.signed (ap (λ k. chunk_signature k []) a.goes);
  whole = a.whole;
  cut = a.cut;
  plain = plain_push a.chunks (chunk_of link []) a.plain refl;
  long = ap length end ∙ length-append body (chunk_text (chunk_of link [])) ∙ ap (λ n. n + length (chunk_text (chunk_of link []))) (ap length a.written ∙ long_chunks a.chunks bytes size some a.each a.cut a.plain)
      ∙ whole_length bytes size (length (chunk_text (chunk_of link []))) (long_one (chunk_of link []) (written_chunk link [] (omega arith) digits) refl);
}
  where
    plain_push : (cs : List Chunk) (c : Chunk) → AllByRecursion IsPlain cs → IsPlain c → AllByRecursion IsPlain (cs ++ c ∷ [])
    plain_push [] c all is = (is, tt)
    plain_push (x ∷ cs) c all is = (all.0, plain_push cs c all.1 is)

-- bytes that are not empty are some
pub some_bytes : (xs : List ℕ) (none : Bool) → none ≡ (length xs == 0) → none ≡ false → 0 < length xs
some_bytes [] none is no' = absurd (false≢true (sym no' ∙ is))
some_bytes (x ∷ xs) none is no' = omega arith

-- how many digits a written size has
pub count_one : (size : ℕ) → size < 16 → length (written_size size) ≡ 1
count_one size below = ap length (size_one size below)

pub count_more : (size : ℕ) → 16 ≤ size → length (written_size size) ≡ length (written_size (size / 16)) + 1
count_more size above =
    ap length (sym (size_more size above)) ∙ length-append (written_size (size / 16)) (get_or (codes "0123456789abcdef") (size % 16) 0 ∷ [])
