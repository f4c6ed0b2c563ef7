-- A whole body whose signatures are the chain is refused at no place; what is written is one, and the only one.
use Rattle.std.proofs.Common.{◌≡◌, ℕ, ◌+◌, ◌-◌, ◌<◌, ◌≤◌, ⊎_elim, Bool, true, List, [], ◌∷◌, ◌++◌, length, take, drop, refl, sym, ap, subst, ◌∙◌, arith, append_assoc, length-append, length-drop, take-append-drop}
use Rattle.std.proofs.Math.Seq.{take-append-add}
use Rattle.std.proofs.lemmas.Bool.{cases_lt}
use Rattle.std.proofs.lemmas.List.{append-nil, length-take-le, take_all, take-append-le}
use Rattle.std.specs.List.{AllByRecursion}
use Rattle.s3_signing.specs.Chain.{Link, chunk_signature, linked}
use Rattle.s3_aws_chunked.specs.Chunk.{Chunk, IsChunk, size_of, chunk_text, chunks_text, data_of}
use Rattle.s3_text.specs.Characters.{crlf}
use Rattle.s3_aws_chunked.specs.Body.{HoldData, IsBody, AreSigned}
use Rattle.s3_aws_chunked.specs.Verdict.{Terms, IsAccepted, IsUnrefused, Accepted, Judges}
use Rattle.s3_aws_chunked.specs.Write.{AreCut, IsPlain, Writes, written_size}
use Rattle.s3_aws_chunked.proofs.TextLemmas.{lines_apart}
use Rattle.s3_aws_chunked.proofs.ParseLemmas.{data_push, holds_push, signed_last, text_push}
use Rattle.s3_aws_chunked.proofs.FaultLemmas.{Ended, Mid, Silent, mid_silent, silent_none}
use Rattle.s3_aws_chunked.proofs.EndedLemmas.{ended_silent}

-- the first of a chain is one
pub signed_front : (seed : Link) (cs ds : List Chunk) → AreSigned seed (cs ++ ds) → AreSigned seed cs
signed_front seed [] ds signed = tt
signed_front seed (c ∷ cs) ds signed = (signed.0, signed_front (linked seed c.signature) cs ds signed.1)

-- a part of a chunk behind others, whose data fits with theirs
pub front_mid : (terms : Terms) (before : List Chunk) (c : Chunk) (n : ℕ) → HoldData before → AreSigned terms.seed before → IsChunk c → length (data_of before) + length c.bytes ≤ terms.decoded → n < length (chunk_text c) → Mid terms (chunks_text before ++ take n (chunk_text c)) before (take n (chunk_text c))
front_mid terms before c n each signed is room short = record {
  each = each;
  signed = signed;
  partial = record {
    chunk = c;
    rest = drop n (chunk_text c);
    form = is;
    begun = sym (take-append-drop n (chunk_text c));
    more = omega (arith, short, length-drop n (chunk_text c));
  };
  written = refl;
  fits = λ size signature form digits same.
      let both = lines_apart size c.size signature c.signature (drop n (chunk_text c)) (c.bytes ++ crlf) form is.size digits is.signature
      (ap (λ t. t ++ drop n (chunk_text c)) (sym same) ∙ take-append-drop n (chunk_text c)) in
      let sized : size_of size ≡ length c.bytes = ap size_of both.0 ∙ is.length in
      omega (arith, sized, room);
}

-- one more chunk before, and one fewer behind
pub text_moved : (before : List Chunk) (c : Chunk) (rest : List ℕ) → chunks_text (before ++ c ∷ []) ++ rest ≡ chunks_text before ++ (chunk_text c ++ rest)
text_moved before c rest =
    ap (λ t. t ++ rest) (sym (append-nil (chunks_text (before ++ c ∷ []))) ∙ sym (text_push before c))
    ∙ append_assoc (chunks_text before) (chunk_text c) rest

-- no front of the rest of a body breaks a rule
fronts_silent : (terms : Terms) (before after : List Chunk) (last : Chunk) (n : ℕ) → HoldData before → HoldData after → IsChunk last → last.bytes ≡ [] → AreSigned terms.seed (before ++ (after ++ last ∷ []))
    → length (data_of before) + length (data_of after) ≡ terms.decoded → length (chunks_text before) + length (chunks_text after ++ chunk_text last) ≡ terms.encoded
    → n ≤ length (chunks_text after ++ chunk_text last) → Silent terms (chunks_text before ++ take n (chunks_text after ++ chunk_text last))
fronts_silent terms before [] last n each more is empty signed sum whole within =
    let none : length last.bytes ≡ 0 = ap length empty in
    let fits : length (data_of before) + length last.bytes ≤ terms.decoded = omega (arith, none, sum) in
    let all : length (data_of before) ≡ terms.decoded = omega (arith, sum) in
    let own = signed_front terms.seed before (last ∷ []) signed in
    ⊎_elim
    (λ (short : n < length (chunk_text last)).
    let long : length (chunks_text before ++ take n (chunk_text last)) ≡ length (chunks_text before) + n =
    length-append (chunks_text before) (take n (chunk_text last)) ∙ ap (λ k. length (chunks_text before) + k) (length-take-le n (chunk_text last) (omega (arith, short))) in
    mid_silent terms _ before (take n (chunk_text last)) (front_mid terms before last n each own is fits short) (omega (arith, long, short, whole)))
    (λ (full : length (chunk_text last) ≤ n).
    let same : take n (chunk_text last) ≡ chunk_text last = take_all n (chunk_text last) (omega (arith, full)) in
    let ended : Ended terms (chunks_text before ++ take n (chunk_text last)) before last =
    record { each = each; signed = own; form = is; written = ap (λ t. chunks_text before ++ t) same; fits = fits } in
    ended_silent terms _ before last ended (signed_last terms.seed before last signed) empty all
    (ap (λ t. length (chunks_text before ++ t)) same ∙ length-append (chunks_text before) (chunk_text last) ∙ whole))
    (cases_lt n (length (chunk_text last)))
fronts_silent terms before (c ∷ after) last n each more is empty signed sum whole within =
    let rest : List ℕ = chunks_text after ++ chunk_text last in
    let text : (chunk_text c ++ chunks_text after) ++ chunk_text last ≡ chunk_text c ++ rest = append_assoc (chunk_text c) (chunks_text after) (chunk_text last) in
    let size : length ((chunk_text c ++ chunks_text after) ++ chunk_text last) ≡ length (chunk_text c) + length rest = ap length text ∙ length-append (chunk_text c) rest in
    let part : length (c.bytes ++ data_of after) ≡ length c.bytes + length (data_of after) = length-append c.bytes (data_of after) in
    ⊎_elim
    (λ (short : n < length (chunk_text c)).
    let same : take n ((chunk_text c ++ chunks_text after) ++ chunk_text last) ≡ take n (chunk_text c) =
    ap (take n) text ∙ take-append-le n (chunk_text c) rest (omega (arith, short)) in
    let long : length (chunks_text before ++ take n (chunk_text c)) ≡ length (chunks_text before) + n =
    length-append (chunks_text before) (take n (chunk_text c)) ∙ ap (λ k. length (chunks_text before) + k) (length-take-le n (chunk_text c) (omega (arith, short))) in
    subst (λ t. Silent terms (chunks_text before ++ t)) (sym same)
    (mid_silent terms _ before (take n (chunk_text c))
    (front_mid terms before c n each (signed_front terms.seed before (c ∷ (after ++ last ∷ [])) signed) more.0.0 (omega (arith, part, sum)) short)
    (omega (arith, long, short, whole, size))))
    (λ (full : length (chunk_text c) ≤ n).
    let m : ℕ = n - length (chunk_text c) in
    let count : n ≡ length (chunk_text c) + m = omega (arith, full) in
    let same : take n ((chunk_text c ++ chunks_text after) ++ chunk_text last) ≡ chunk_text c ++ take m rest =
    ap (take n) text ∙ ap (λ k. take k (chunk_text c ++ rest)) count ∙ take-append-add (chunk_text c) rest m in
    let grown : length (chunks_text (before ++ c ∷ [])) + length rest ≡ length (chunks_text before) + (length (chunk_text c) + length rest) =
    sym (length-append (chunks_text (before ++ c ∷ [])) rest) ∙ ap length (text_moved before c rest)
    ∙ length-append (chunks_text before) (chunk_text c ++ rest) ∙ ap (λ k. length (chunks_text before) + k) (length-append (chunk_text c) rest) in
    let held : length (data_of (before ++ c ∷ [])) ≡ length (data_of before) + length c.bytes = ap length (data_push before c) ∙ length-append (data_of before) c.bytes in
    subst (Silent terms) (text_moved before c (take m rest) ∙ ap (λ t. chunks_text before ++ t) (sym same))
    (fronts_silent terms (before ++ c ∷ []) after last m (holds_push before c each more.0) more.1 is empty
    (subst (AreSigned terms.seed) (sym (append_assoc before (c ∷ []) (after ++ last ∷ []))) signed)
    (omega (arith, held, part, sum)) (omega (arith, grown, whole, size)) (omega (arith, count, size, within))))
    (cases_lt n (length (chunk_text c)))

-- what is accepted is refused at no place
pub accepted_unrefused : (terms : Terms) (bytes held : List ℕ) (ended : Bool) → IsAccepted terms bytes held → IsUnrefused terms bytes ended
accepted_unrefused terms bytes held ended a place code r =
    let whole : length (take terms.encoded bytes) ≡ terms.encoded = length-take-le terms.encoded bytes a.come in
    let size : length (chunks_text a.chunks ++ chunk_text a.last) ≡ terms.encoded = ap length (sym a.body.written) ∙ whole in
    let same : take place (chunks_text a.chunks ++ chunk_text a.last) ≡ take place bytes =
    ap (take place) (sym a.body.written) ∙ fewer in
    let sum : length (data_of a.chunks) ≡ terms.decoded = ap length (sym a.joined) ∙ a.sum in
    silent_none terms (take place bytes) ((ended ≡ true) × (length bytes ≡ place)) code
    (subst (Silent terms) same
    (fronts_silent terms [] a.chunks a.last place tt a.body.each a.body.form a.body.empty a.signed (omega (arith, sum)) (omega (arith, size)) (omega (arith, size, r.within))))
    (λ x. absurd (omega (arith, x.0.1, x.1, a.come, length-take-le place bytes r.come)))
    r.fault
  where
    fewer : take place (take terms.encoded bytes) ≡ take place bytes
    fewer =
        let cut = take-append-drop terms.encoded bytes in
        let within : place ≤ length (take terms.encoded bytes) = omega (arith, r.within, length-take-le terms.encoded bytes a.come) in
        sym (take-append-le place (take terms.encoded bytes) (drop terms.encoded bytes) within) ∙ ap (take place) cut

pub accepted_judged : (terms : Terms) (bytes held : List ℕ) (ended : Bool) → IsAccepted terms bytes held → Judges terms bytes ended (Accepted held)
accepted_judged terms bytes held ended a = (accepted_unrefused terms bytes held ended a, a)

-- what is written is accepted, with its data
pub written_accepted : (seed : Link) (bytes : List ℕ) (size : ℕ) (text : List ℕ) → Writes seed bytes size text → IsAccepted (record { seed = seed; encoded = length text; decoded = length bytes }) text bytes
written_accepted seed bytes size text w = record {
  come = omega arith;
  chunks = w.chunks;
  last = w.last;
  body = subst (λ t. IsBody t w.chunks w.last) (sym (take_all (length text) text (omega arith))) w.body;
  signed = w.signed;
  sum = refl;
  joined = sym w.whole;
}

-- a chunk of some data, of which size and signature are those that are written
one_chunk : (seed : Link) (c d : Chunk) → c.bytes ≡ d.bytes → IsPlain c → IsPlain d → c.signature ≡ chunk_signature seed c.bytes → d.signature ≡ chunk_signature seed d.bytes → c ≡ d
one_chunk seed c d bytes plain plain' signed signed' =
    let sizes : c.size ≡ d.size = plain ∙ ap (λ b. written_size (length b)) bytes ∙ sym plain' in
    let signatures : c.signature ≡ d.signature = signed ∙ ap (chunk_signature seed) bytes ∙ sym signed' in
    ap (λ (s : List ℕ). record c { size = s }) sizes
    ∙ ap (λ (s : List ℕ). record { size = d.size; signature = s; bytes = c.bytes }) signatures
    ∙ ap (λ (b : List ℕ). record { size = d.size; signature = d.signature; bytes = b }) bytes

-- chunks of one list of data are cut, sized and signed in one way
same_chunks : (seed : Link) (bytes : List ℕ) (size : ℕ) (xs ys : List Chunk) (x y : Chunk) → AreCut size xs bytes → AreCut size ys bytes → AllByRecursion IsPlain (xs ++ x ∷ []) → AllByRecursion IsPlain (ys ++ y ∷ [])
    → AreSigned seed (xs ++ x ∷ []) → AreSigned seed (ys ++ y ∷ []) → x.bytes ≡ y.bytes → xs ++ x ∷ [] ≡ ys ++ y ∷ []
same_chunks seed bytes size [] [] x y cut cut' plain plain' signed signed' last =
    ap (λ c. c ∷ []) (one_chunk seed x y last plain.0 plain'.0 signed.0 signed'.0)
same_chunks seed bytes size [] (y ∷ ys) x z cut cut' plain plain' signed signed' last =
    let none : length bytes ≡ 0 = ap length cut in
    absurd (omega (arith, none, cut'.0))
same_chunks seed bytes size (x ∷ xs) [] z y cut cut' plain plain' signed signed' last =
    let none : length bytes ≡ 0 = ap length cut' in
    absurd (omega (arith, none, cut.0))
same_chunks seed bytes size (x ∷ xs) (y ∷ ys) u v cut cut' plain plain' signed signed' last =
    let same = one_chunk seed x y (cut.1 ∙ sym cut'.1) plain.0 plain'.0 signed.0 signed'.0 in
    let behind : AreSigned (linked seed x.signature) (ys ++ v ∷ []) = subst (λ (c : Chunk). AreSigned (linked seed c.signature) (ys ++ v ∷ [])) (sym same) signed'.1 in
    ap (λ c. c ∷ (xs ++ u ∷ [])) same ∙ ap (λ cs. y ∷ cs) (same_chunks (linked seed x.signature) (drop size bytes) size xs ys u v cut.2 cut'.2 plain.1 plain'.1 signed.1 behind last)

-- what is written for some data is one text
pub written_one : (seed : Link) (bytes : List ℕ) (size : ℕ) (one other : List ℕ) → Writes seed bytes size one → Writes seed bytes size other → one ≡ other
written_one seed bytes size one other w v =
    let same = same_chunks seed bytes size w.chunks v.chunks w.last v.last w.cut v.cut w.plain v.plain w.signed v.signed (w.body.empty ∙ sym v.body.empty) in
    w.body.written ∙ text_push w.chunks w.last ∙ ap (λ cs. chunks_text cs ++ []) same ∙ sym (text_push v.chunks v.last) ∙ sym v.body.written
