-- Where the first line of the last chunk ends, and that this is one place of a text.
use Rattle.std.proofs.Common.{◌≡◌, ℕ, ◌+◌, ◌-◌, ◌<◌, ◌≤◌, ◌⊎◌, ⊎_elim, Bool, true, false, ◌==◌, List, [], ◌∷◌, ◌++◌, length, take, drop, sym, ap, subst, ◌∙◌, arith, append_assoc, length-append, eqb-true, inl, inr}
use Rattle.std.proofs.lemmas.Bool.{cases_Bool, cases_lt, false≢true}
use Rattle.std.proofs.lemmas.List.{append-nil, length-drop, length-take-le, nil_from_length, take-append-drop, take-append-le}
use Rattle.std.proofs.Math.Seq.{take-append-add}
use Rattle.s3_text.specs.Characters.{crlf}
use Rattle.s3_text.specs.Digest.{is_hex_digest}
use Rattle.s3_aws_chunked.specs.Chunk.{Chunk, IsChunk, chunk_text, chunks_text, data_of, first_line, is_size, line_behind, size_of}
use Rattle.s3_aws_chunked.specs.Body.{AreSigned, HoldData}
use Rattle.s3_aws_chunked.specs.Verdict.{Terms}
use Rattle.s3_aws_chunked.specs.Decoder.{Progress, code_of, is_at_end, run, started}
use Rattle.s3_aws_chunked.specs.declared.place.Place.{Place}
use Rattle.s3_aws_chunked.specs.declared.phase.Phase.{Phase}
use Rattle.s3_aws_chunked.specs.declared.phase.Phase.TheVariants.{Size, Line, Data, Ending, Over, Refused}
use Rattle.s3_aws_chunked.proofs.TextLemmas.{chunks_apart, length-behind, lines_apart}
use Rattle.s3_aws_chunked.proofs.ParseLemmas.{are_chunks, data_push, holds_push, partial_line}
use Rattle.s3_aws_chunked.proofs.TextLemmas.{parse_one}
use Rattle.s3_aws_chunked.proofs.FaultLemmas.{Silent, mid_silent, silent_none, found_any}
use Rattle.s3_aws_chunked.proofs.CourseLemmas.{At, AtData, Course, course_completes}
use Rattle.s3_aws_chunked.proofs.KnownLemmas.{Going, Halted, Completed}
use Rattle.s3_aws_chunked.proofs.JudgeLemmas.{known_after}
use Rattle.s3_aws_chunked.proofs.AcceptLemmas.{front_mid, signed_front, text_moved}

-- ---- what stands there

-- the last chunk's first line has come, and no more
pub record Ends (terms : Terms) (place : Place) (current held : List ℕ) (chunks : List Chunk) (tail : List ℕ) : Type 0 where
  pub size : List ℕ
  pub form : is_size size ≡ true
  pub zero : size_of size ≡ 0
  pub fresh : current ≡ []
  pub written : tail ≡ first_line size place.signature
  pub sum : place.left + length (data_of chunks) ≡ terms.decoded
  pub given : held ≡ data_of chunks

data_ends : (terms : Terms) (place : Place) (current held : List ℕ) (chunks : List Chunk) (tail : List ℕ) (left : ℕ) (last : Bool) → last ≡ true → AtData terms place current held chunks tail left last → Ends terms place current held chunks tail
data_ends terms place current held chunks tail left last is at =
    let zero' : size_of at.size ≡ 0 = eqb-true (size_of at.size) 0 (sym at.ends ∙ is) in
    let fresh : current ≡ [] = nil_from_length current (omega (arith, at.long, zero')) in
    record {
      size = at.size;
      form = at.form;
      zero = zero';
      fresh = fresh;
      written = at.written ∙ ap (λ t. first_line at.size place.signature ++ t) fresh ∙ append-nil (first_line at.size place.signature);
      sum = omega (arith, at.sum, zero');
      given = at.given ∙ ap (λ t. data_of chunks ++ t) fresh ∙ append-nil (data_of chunks);
    }

at_ends : (terms : Terms) (place : Place) (current held : List ℕ) (chunks : List Chunk) (tail : List ℕ) (phase : Phase) → is_at_end phase ≡ true → At terms place current held chunks tail phase → Ends terms place current held chunks tail
at_ends terms place current held chunks tail (Data left last) is at = data_ends terms place current held chunks tail left last is at
at_ends terms place current held chunks tail (Size digits) is at = absurd (false≢true is)
at_ends terms place current held chunks tail (Line count value) is at = absurd (false≢true is)
at_ends terms place current held chunks tail (Ending last) is at = absurd (false≢true is)
at_ends terms place current held chunks tail Over is at = absurd (false≢true is)
at_ends terms place current held chunks tail (Refused fault) is at = absurd (false≢true is)

-- a reader that stands there is inside a body
pub end_going : (terms : Terms) (text : List ℕ) → is_at_end (run (started terms) text).place.phase ≡ true → Going terms text (run (started terms) text)
end_going terms text is =
    let p = run (started terms) text in
    ⊎_elim
    (λ (g : Going terms text p). g)
    (λ (ends : Halted terms text p ⊎ Completed terms text p).
    ⊎_elim
    (λ (h : Halted terms text p). absurd (false≢true (sym (ap is_at_end h.phase) ∙ is)))
    (λ (d : Completed terms text p). absurd (false≢true (sym (ap is_at_end d.over) ∙ is)))
    ends)
    (known_after terms text)

pub course_ends : (terms : Terms) (text : List ℕ) (p : Progress) → (c : Course terms text p.place p.current p.held) → is_at_end p.place.phase ≡ true → Ends terms p.place p.current p.held c.chunks c.tail
course_ends terms text p c is = at_ends terms p.place p.current p.held c.chunks c.tail p.place.phase is c.at

-- ---- it is one place

-- chunks of data and then the first line of one of none stand at the front of a text in one way
pub end_one : (xs ys : List Chunk) (size other signature seal u v : List ℕ) → HoldData xs → HoldData ys → is_size size ≡ true → is_size other ≡ true → size_of size ≡ 0 → size_of other ≡ 0
    → is_hex_digest signature ≡ true → is_hex_digest seal ≡ true → chunks_text xs ++ (first_line size signature ++ u) ≡ chunks_text ys ++ (first_line other seal ++ v) → u ≡ v
end_one [] [] size other signature seal u v each every form form' zero' zero'' digits digits' same =
    (lines_apart size other signature seal u v form form' digits digits' same).2
end_one [] (y ∷ ys) size other signature seal u v each every form form' zero' zero'' digits digits' same =
    let line = lines_apart size y.size signature y.signature u ((y.bytes ++ crlf) ++ (chunks_text ys ++ (first_line other seal ++ v))) form every.0.0.size digits every.0.0.signature
    (same ∙ append_assoc (chunk_text y) (chunks_text ys) (first_line other seal ++ v)
    ∙ append_assoc (first_line y.size y.signature) (y.bytes ++ crlf) (chunks_text ys ++ (first_line other seal ++ v))) in
    let none : size_of y.size ≡ 0 = ap size_of (sym line.0) ∙ zero' in
    absurd (omega (arith, none, every.0.0.length, every.0.1))
end_one (x ∷ xs) [] size other signature seal u v each every form form' zero' zero'' digits digits' same =
    let line = lines_apart other x.size seal x.signature v ((x.bytes ++ crlf) ++ (chunks_text xs ++ (first_line size signature ++ u))) form' each.0.0.size digits' each.0.0.signature
    (sym same ∙ append_assoc (chunk_text x) (chunks_text xs) (first_line size signature ++ u)
    ∙ append_assoc (first_line x.size x.signature) (x.bytes ++ crlf) (chunks_text xs ++ (first_line size signature ++ u))) in
    let none : size_of x.size ≡ 0 = ap size_of (sym line.0) ∙ zero'' in
    absurd (omega (arith, none, each.0.0.length, each.0.1))
end_one (x ∷ xs) (y ∷ ys) size other signature seal u v each every form form' zero' zero'' digits digits' same =
    let both = chunks_apart x y (chunks_text xs ++ (first_line size signature ++ u)) (chunks_text ys ++ (first_line other seal ++ v)) each.0.0 every.0.0
    (sym (append_assoc (chunk_text x) (chunks_text xs) (first_line size signature ++ u)) ∙ same
    ∙ append_assoc (chunk_text y) (chunks_text ys) (first_line other seal ++ v)) in
    end_one xs ys size other signature seal u v each.1 every.1 form form' zero' zero'' digits digits' both.1

-- ---- the front of a body is read up to there

-- no front of it breaks a rule
fronts_silent : (terms : Terms) (before after : List Chunk) (last : Chunk) (n : ℕ) → HoldData before → HoldData after → IsChunk last → last.bytes ≡ [] → AreSigned terms.seed (before ++ (after ++ last ∷ []))
    → length (data_of before) + length (data_of after) ≡ terms.decoded → length (chunks_text before) + length (chunks_text after ++ first_line last.size last.signature) < terms.encoded
    → n ≤ length (chunks_text after ++ first_line last.size last.signature) → Silent terms (chunks_text before ++ take n (chunks_text after ++ first_line last.size last.signature))
fronts_silent terms before [] last n each more is empty signed sum below within =
    let line : List ℕ = first_line last.size last.signature in
    let none : length last.bytes ≡ 0 = ap length empty in
    let fits : length (data_of before) + length last.bytes ≤ terms.decoded = omega (arith, none, sum) in
    let own = signed_front terms.seed before (last ∷ []) signed in
    let whole : length (chunk_text last) ≡ length line + length (last.bytes ++ crlf) = length-append line (last.bytes ++ crlf) in
    let end : length (last.bytes ++ crlf) ≡ length last.bytes + 2 = length-append last.bytes crlf in
    let same : take n line ≡ take n (chunk_text last) = sym (take-append-le n line (last.bytes ++ crlf) within) in
    let long : length (chunks_text before ++ take n (chunk_text last)) ≡ length (chunks_text before) + n =
    length-append (chunks_text before) (take n (chunk_text last)) ∙ ap (λ k. length (chunks_text before) + k) (length-take-le n (chunk_text last) (omega (arith, within, whole))) in
    subst (λ t. Silent terms (chunks_text before ++ t)) (sym same)
    (mid_silent terms _ before (take n (chunk_text last)) (front_mid terms before last n each own is fits (omega (arith, within, whole, end, none))) (omega (arith, long, within, below)))
fronts_silent terms before (c ∷ after) last n each more is empty signed sum below within =
    let rest : List ℕ = chunks_text after ++ first_line last.size last.signature in
    let text : (chunk_text c ++ chunks_text after) ++ first_line last.size last.signature ≡ chunk_text c ++ rest = append_assoc (chunk_text c) (chunks_text after) (first_line last.size last.signature) in
    let size : length ((chunk_text c ++ chunks_text after) ++ first_line last.size last.signature) ≡ length (chunk_text c) + length rest = ap length text ∙ length-append (chunk_text c) rest in
    let part : length (c.bytes ++ data_of after) ≡ length c.bytes + length (data_of after) = length-append c.bytes (data_of after) in
    ⊎_elim
    (λ (short : n < length (chunk_text c)).
    let same : take n ((chunk_text c ++ chunks_text after) ++ first_line last.size last.signature) ≡ take n (chunk_text c) =
    ap (take n) text ∙ take-append-le n (chunk_text c) rest (omega (arith, short)) in
    let long : length (chunks_text before ++ take n (chunk_text c)) ≡ length (chunks_text before) + n =
    length-append (chunks_text before) (take n (chunk_text c)) ∙ ap (λ k. length (chunks_text before) + k) (length-take-le n (chunk_text c) (omega (arith, short))) in
    subst (λ t. Silent terms (chunks_text before ++ t)) (sym same)
    (mid_silent terms _ before (take n (chunk_text c))
    (front_mid terms before c n each (signed_front terms.seed before (c ∷ (after ++ last ∷ [])) signed) more.0.0 (omega (arith, part, sum)) short)
    (omega (arith, long, short, below, size))))
    (λ (full : length (chunk_text c) ≤ n).
    let m : ℕ = n - length (chunk_text c) in
    let count : n ≡ length (chunk_text c) + m = omega (arith, full) in
    let same : take n ((chunk_text c ++ chunks_text after) ++ first_line last.size last.signature) ≡ chunk_text c ++ take m rest =
    ap (take n) text ∙ ap (λ k. take k (chunk_text c ++ rest)) count ∙ take-append-add (chunk_text c) rest m in
    let grown : length (chunks_text (before ++ c ∷ [])) + length rest ≡ length (chunks_text before) + (length (chunk_text c) + length rest) =
    sym (length-append (chunks_text (before ++ c ∷ [])) rest) ∙ ap length (text_moved before c rest)
    ∙ length-append (chunks_text before) (chunk_text c ++ rest) ∙ ap (λ k. length (chunks_text before) + k) (length-append (chunk_text c) rest) in
    let held : length (data_of (before ++ c ∷ [])) ≡ length (data_of before) + length c.bytes = ap length (data_push before c) ∙ length-append (data_of before) c.bytes in
    subst (Silent terms) (text_moved before c (take m rest) ∙ ap (λ t. chunks_text before ++ t) (sym same))
    (fronts_silent terms (before ++ c ∷ []) after last m (holds_push before c each more.0) more.1 is empty
    (subst (AreSigned terms.seed) (sym (append_assoc before (c ∷ []) (after ++ last ∷ []))) signed)
    (omega (arith, held, part, sum)) (omega (arith, grown, below, size)) (omega (arith, count, size, within))))
    (cases_lt n (length (chunk_text c)))

-- a tail that is a first line ends the front
tail_ends : (terms : Terms) (place : Place) (current held : List ℕ) (chunks : List Chunk) (tail : List ℕ) (phase : Phase) (size signature : List ℕ) → is_hex_digest place.signature ≡ true → is_size size ≡ true → size_of size ≡ 0 → is_hex_digest signature ≡ true
    → tail ≡ first_line size signature → At terms place current held chunks tail phase → (is_at_end phase ≡ true) × (place.signature ≡ signature)
tail_ends terms place current held chunks tail (Size d) size signature digits form zero' sign same at =
    let long : length (first_line size signature) ≡ length size + length (line_behind signature) = length-append size (line_behind signature) in
    let short : length tail ≡ length (first_line size signature) = ap length same in
    absurd (omega (arith, long, short, length-behind signature sign, at.long, at.most))
tail_ends terms place current held chunks tail (Line count value) size signature digits form zero' sign same at =
    let behind = line_behind place.signature in
    let whole : first_line size signature ++ drop count behind ≡ first_line at.size place.signature ++ [] =
    ap (λ t. t ++ drop count behind) (sym same ∙ at.written)
    ∙ append_assoc at.size (take count behind) (drop count behind)
    ∙ ap (λ t. at.size ++ t) (take-append-drop count behind)
    ∙ sym (append-nil (first_line at.size place.signature)) in
    let none = (lines_apart size at.size signature place.signature (drop count behind) [] form at.form sign digits whole).2 in
    let left : length (drop count behind) ≡ length behind - count = length-drop count behind in
    let gone : length (drop count behind) ≡ 0 = ap length none in
    absurd (omega (arith, left, gone, length-behind place.signature digits, at.most))
tail_ends terms place current held chunks tail (Data left last) size signature digits form zero' sign same at =
    let lines = lines_apart at.size size place.signature signature current [] at.form form digits sign
    (sym at.written ∙ same ∙ sym (append-nil (first_line size signature))) in
    (at.ends ∙ ap (λ n. n == 0) (ap size_of lines.0 ∙ zero'), lines.1)
tail_ends terms place current held chunks tail (Ending last) size signature digits form zero' sign same at =
    let lines = lines_apart at.size size place.signature signature (current ++ 13 ∷ []) [] at.form form digits sign
    (sym at.written ∙ same ∙ sym (append-nil (first_line size signature))) in
    let long : length (current ++ 13 ∷ []) ≡ length current + 1 = length-append current (13 ∷ []) in
    let none : length (current ++ 13 ∷ []) ≡ 0 = ap length lines.2 in
    absurd (omega (arith, long, none))
tail_ends terms place current held chunks tail Over size signature digits form zero' sign same at = absurd at
tail_ends terms place current held chunks tail (Refused fault) size signature digits form zero' sign same at = absurd at

-- how a reader stands behind the front of a body
pub record AtEnd (terms : Terms) (chunks : List Chunk) (last : Chunk) (text : List ℕ) : Type 0 where
  pub going : Going terms text (run (started terms) text)
  pub there : is_at_end (run (started terms) text).place.phase ≡ true
  pub signature : (run (started terms) text).place.signature ≡ last.signature
  pub parts : going.course.chunks ≡ chunks
  pub first : (m : ℕ) → m < length text → is_at_end (run (started terms) (take m text)).place.phase ≡ false

module _ (terms : Terms) (chunks : List Chunk) (last : Chunk) (each : HoldData chunks) (form : IsChunk last) (empty : last.bytes ≡ []) (signed : AreSigned terms.seed (chunks ++ last ∷ []))
    (sum : length (data_of chunks) ≡ terms.decoded) (below : length (chunks_text chunks ++ first_line last.size last.signature) < terms.encoded) where
  abbrev text : List ℕ
  text = chunks_text chunks ++ first_line last.size last.signature

  none_of : size_of last.size ≡ 0
  none_of = form.length ∙ ap length empty

  silent_at : (n : ℕ) → n ≤ length text → Silent terms (take n text)
  silent_at n within = fronts_silent terms [] chunks last n tt each form empty signed (omega (arith, sum)) (omega (arith, below)) within

  goes : Going terms text (run (started terms) text)
  goes =
      let p = run (started terms) text in
      ⊎_elim
      (λ (g : Going terms text p). g)
      (λ (ends : Halted terms text p ⊎ Completed terms text p).
      ⊎_elim
      (λ (h : Halted terms text p).
      absurd (silent_none terms (take p.place.span.taken text) ⊥ (code_of h.fault) (silent_at p.place.span.taken h.come) (λ x. x.0) (found_any terms (take p.place.span.taken text) ⊥ (code_of h.fault) h.found)))
      (λ (d : Completed terms text p). absurd (omega (arith, d.accepted.come, below)))
      ends)
      (known_after terms text)

  -- not at the end before
  before : (m : ℕ) → m < length text → is_at_end (run (started terms) (take m text)).place.phase ≡ true → ⊥
  before m less is =
      let front : List ℕ = take m text in
      let p = run (started terms) front in
      let g = end_going terms front is in
      let c = g.course in
      let e = course_ends terms front p c is in
      let whole : chunks_text c.chunks ++ (first_line e.size p.place.signature ++ drop m text) ≡ chunks_text chunks ++ (first_line last.size last.signature ++ []) =
      ap (λ t. chunks_text c.chunks ++ (t ++ drop m text)) (sym e.written)
      ∙ sym (append_assoc (chunks_text c.chunks) c.tail (drop m text))
      ∙ ap (λ t. t ++ drop m text) (sym c.written)
      ∙ take-append-drop m text
      ∙ ap (λ t. chunks_text chunks ++ t) (sym (append-nil (first_line last.size last.signature))) in
      let none : drop m text ≡ [] = end_one c.chunks chunks e.size last.size p.place.signature last.signature (drop m text) [] c.each each e.form form.size e.zero none_of c.digits form.signature whole in
      let left : length (drop m text) ≡ length text - m = length-drop m text in
      let gone : length (drop m text) ≡ 0 = ap length none in
      absurd (omega (arith, left, gone, less))

  pub at_end : AtEnd terms chunks last text
  at_end =
      let p = run (started terms) text in
      let c = goes.course in
      let part = course_completes terms text p.place p.current p.held c in
      let same = parse_one c.chunks chunks c.tail (first_line last.size last.signature) (are_chunks c.chunks c.each) (are_chunks chunks each)
      (record { chunk = part.chunk; rest = part.rest; form = part.form; begun = part.begun; more = part.more })
      (partial_line last.size last.signature form.size form.signature)
      (sym c.written) in
      let tail = tail_ends terms p.place p.current p.held c.chunks c.tail p.place.phase last.size last.signature c.digits form.size none_of form.signature same.1 c.at in
      record {
        going = goes;
        there = tail.0;
        signature = tail.1;
        parts = same.0;
        first = λ m less. elim (cases_Bool (is_at_end (run (started terms) (take m text)).place.phase)) [
          | inl is ↦ absurd (before m less is)
          | inr is' ↦ is'
        ];
      }
