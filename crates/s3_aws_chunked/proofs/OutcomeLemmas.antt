-- What one more byte that is no data makes of how a reader stands.
use Rattle.std.proofs.Common.{◌≡◌, ℕ, ◌+◌, ◌-◌, ◌*◌, ◌<◌, ◌≤◌, ◌⊎◌, ⊎_elim, Bool, true, false, ◌&&◌, ◌==◌, nat_lt, nat_le, List, [], ◌∷◌, ◌++◌, length, take, drop, refl, sym, ap, ◌∙◌, arith, append_assoc, inl, inr, lt-ltb, ltb-true, eq-eqb, eqb-true, le-leb, length-append}
use Rattle.std.proofs.lemmas.Bool.{false≢true, and_parts, and_from}
use Rattle.std.proofs.lemmas.List.{append-nil, take-append-drop, length-drop, length_push}
use Rattle.std.proofs.lemmas.List.Folds.{list_all-append}
use Rattle.std.proofs.lemmas.Int.Digits.{digits_value_push}
use Rattle.std.specs.List.{list_all}
use Rattle.std.specs.Char.{digit_value}
use Rattle.sha2.specs.Sha256.{sha256}
use Rattle.s3_text.specs.Digest.{is_hex_digest}
use Rattle.s3_aws_chunked.specs.Chunk.{Chunk, is_hex, is_size, size_of, line_behind, first_line, chunks_text, data_of}
use Rattle.s3_aws_chunked.specs.Body.{IsBody, AreSigned}
use Rattle.s3_aws_chunked.specs.Verdict.{Terms}
use Rattle.s3_aws_chunked.specs.Count.{Count, advanced}
use Rattle.s3_aws_chunked.specs.Phase.{read_size}
use Rattle.s3_aws_chunked.specs.Decoder.{code_of, counted, turned, closed_by, current_after}
use Rattle.s3_aws_chunked.specs.declared.place.Place.{Place}
use Rattle.s3_aws_chunked.specs.declared.phase.Fault.{Fault}
use Rattle.s3_aws_chunked.specs.declared.phase.Fault.TheVariants.{Invalid}
use Rattle.s3_aws_chunked.specs.declared.phase.Phase.{Phase}
use Rattle.s3_aws_chunked.specs.declared.phase.Phase.TheVariants.{Size, Line, Data, Ending, Over, Refused}
use Rattle.s3_aws_chunked.specs.declared.phase.Event.{Event}
use Rattle.s3_aws_chunked.specs.declared.phase.Event.TheVariants.{Misspelled}
use Rattle.s3_aws_chunked.proofs.TextLemmas.{lines_apart, length-behind, behind_is}
use Rattle.s3_aws_chunked.proofs.FaultLemmas.{Mid, Found, Silent, found_misspelled}
use Rattle.s3_aws_chunked.proofs.CourseLemmas.{AtSize, AtLine, At, Course, course_completes}
use Rattle.s3_aws_chunked.proofs.NextLemmas.{Next, next_of, size_next}

-- what a first line announces fits
fits_at : (terms : Terms) (place : Place) (current held : List ℕ) (chunks : List Chunk) (tail : List ℕ) (phase : Phase) → is_hex_digest place.signature ≡ true → At terms place current held chunks tail phase → (size signature : List ℕ) → is_size size ≡ true → is_hex_digest signature ≡ true → tail ≡ first_line size signature → length (data_of chunks) + size_of size ≤ terms.decoded
fits_at terms place current held chunks tail (Size d) digits at size signature form sign same =
    let long : length (first_line size signature) ≡ length size + length (line_behind signature) = length-append size (line_behind signature) in
    let short : length tail ≡ length (first_line size signature) = ap length same in
    absurd (omega (arith, long, short, length-behind signature sign, at.long, at.most))
fits_at terms place current held chunks tail (Line count value) digits at size signature form sign same =
    let behind = line_behind place.signature in
    let whole : first_line size signature ++ drop count behind ≡ first_line at.size place.signature ++ [] =
    ap (λ t. t ++ drop count behind) (sym same ∙ at.written)
    ∙ append_assoc at.size (take count behind) (drop count behind)
    ∙ ap (λ t. at.size ++ t) (take-append-drop count behind)
    ∙ sym (append-nil (first_line at.size place.signature)) in
    let none = (lines_apart size at.size signature place.signature (drop count behind) [] form at.form sign digits whole).2 in
    let left : length (drop count behind) ≡ length behind - count = length-drop count behind in
    let gone : length (drop count behind) ≡ 0 = ap length none in
    absurd (omega (arith, left, gone, length-behind place.signature digits, at.most))
fits_at terms place current held chunks tail (Data left last) digits at size signature form sign same =
    let lines = lines_apart at.size size place.signature signature current [] at.form form digits sign
    (sym at.written ∙ same ∙ sym (append-nil (first_line size signature))) in
    let sizes : size_of at.size ≡ size_of size = ap size_of lines.0 in
    omega (arith, at.sum, sizes)
fits_at terms place current held chunks tail (Ending last) digits at size signature form sign same =
    let lines = lines_apart at.size size place.signature signature (current ++ 13 ∷ []) [] at.form form digits sign
    (sym at.written ∙ same ∙ sym (append-nil (first_line size signature))) in
    let sizes : size_of at.size ≡ size_of size = ap size_of lines.0 in
    omega (arith, at.sum, sizes)
fits_at terms place current held chunks tail Over digits at size signature form sign same = absurd at
fits_at terms place current held chunks tail (Refused fault) digits at size signature form sign same = absurd at

pub course_mid : (terms : Terms) (text : List ℕ) (place : Place) (current held : List ℕ) → (c : Course terms text place current held) → Mid terms text c.chunks c.tail
course_mid terms text place current held c =
    let whole = course_completes terms text place current held c in
    record {
      each = c.each;
      signed = c.signed;
      partial = record { chunk = whole.chunk; rest = whole.rest; form = whole.form; begun = whole.begun; more = whole.more };
      written = c.written;
      fits = fits_at terms place current held c.chunks c.tail place.phase c.digits c.at;
    }

-- refused, by the first line that applies
pub record Failing (terms : Terms) (text : List ℕ) (place : Place) : Type 0 where
  pub fault : Fault
  pub phase : place.phase ≡ Refused fault
  pub found : Found terms text (code_of fault)

-- over: a whole body, and nothing wrong
pub record Complete (terms : Terms) (text : List ℕ) (place : Place) (held : List ℕ) : Type 0 where
  pub over : place.phase ≡ Over
  pub whole : length text ≡ terms.encoded
  pub chunks : List Chunk
  pub last : Chunk
  pub body : IsBody text chunks last
  pub signed : AreSigned terms.seed (chunks ++ last ∷ [])
  pub sum : length held ≡ terms.decoded
  pub joined : held ≡ data_of chunks
  pub silent : Silent terms text

abbrev pub Outcome : Terms → List ℕ → Place → List ℕ → List ℕ → Type 0
Outcome terms text place current held =
    Course terms text place current held ⊎ (Failing terms text place ⊎ Complete terms text place held)

-- what an event makes of a place
abbrev pub After : Terms → List ℕ → Place → List ℕ → List ℕ → ℕ → Event → Type 0
After terms text place current held byte event =
    Outcome terms (text ++ byte ∷ []) (closed_by (turned (counted place 1) event byte) event (sha256 current)) (current_after event current) held

-- inside the same chunk
pub go_on : (terms : Terms) (text : List ℕ) (place : Place) (current held : List ℕ) (byte : ℕ) (after : Place) → (c : Course terms text place current held) → after.span ≡ advanced place.span 1 → after.chain ≡ place.chain → is_hex_digest after.signature ≡ true → At terms after current held c.chunks (c.tail ++ byte ∷ []) after.phase → Course terms (text ++ byte ∷ []) after current held
go_on terms text place current held byte after c span chain digits at = record {
  chunks = c.chunks;
  tail = c.tail ++ byte ∷ [];
  each = c.each;
  signed = c.signed;
  written = ap (λ t. t ++ byte ∷ []) c.written ∙ append_assoc (chunks_text c.chunks) c.tail (byte ∷ []);
  span = span ∙ ap (λ (s : Count). advanced s 1) c.span ∙ ap (λ (n : ℕ). record { taken = n; whole = terms.encoded }) (sym (length_push text byte));
  chain = chain ∙ c.chain;
  digits = digits;
  at = at;
}

-- no body goes on so
pub misspelled : (terms : Terms) (text : List ℕ) (place : Place) (current held : List ℕ) (byte : ℕ) → (c : Course terms text place current held) → (Next c.tail byte → ⊥) → After terms text place current held byte Misspelled
unfolding turned
misspelled terms text place current held byte c none = inr (inl (record {
  fault = Invalid;
  phase = refl;
  found = found_misspelled terms (text ++ byte ∷ []) (λ begins. none (next_of terms text c.chunks c.tail byte (course_mid terms text place current held c) begins));
}))

-- in a size
size_more : (terms : Terms) (place after : Place) (held : List ℕ) (current : List ℕ) (chunks : List Chunk) (tail : List ℕ) (count value byte : ℕ) → after.left ≡ place.left → AtSize terms place current held chunks tail count value → is_hex byte ≡ true → count < 8 → AtSize terms after current held chunks (tail ++ byte ∷ []) (count + 1) (value * 16 + digit_value byte)
size_more terms place after held current chunks tail count value byte same at hex room = record {
  long = length_push tail byte ∙ ap (λ n. n + 1) at.long;
  most = omega (arith, room);
  digits = list_all-append is_hex tail (byte ∷ []) ∙ and_from (list_all is_hex tail) (is_hex byte && true) at.digits (and_from (is_hex byte) true hex refl);
  spells = digits_value_push 16 tail byte ∙ ap (λ n. n * 16 + digit_value byte) at.spells;
  sum = ap (λ n. n + length (data_of chunks)) same ∙ at.sum;
  fresh = at.fresh;
  given = at.given;
}

size_ends : (terms : Terms) (place after : Place) (held : List ℕ) (current : List ℕ) (chunks : List Chunk) (tail : List ℕ) (count value byte : ℕ) → after.left ≡ place.left → AtSize terms place current held chunks tail count value → byte ≡ 59 → 0 < count → AtLine terms after current held chunks (tail ++ byte ∷ []) 1 value
size_ends terms place after held current chunks tail count value byte same at semi some = record {
  size = tail;
  form =
      and_from (nat_le 1 (length tail) && nat_le (length tail) 8) (list_all is_hex tail)
      (and_from (nat_le 1 (length tail)) (nat_le (length tail) 8) (le-leb 1 (length tail) (omega (arith, at.long, some))) (le-leb (length tail) 8 (omega (arith, at.long, at.most))))
      at.digits;
  spells = at.spells;
  least = omega arith;
  most = omega arith;
  written = ap (λ b. tail ++ b ∷ []) semi ∙ ap (λ t. tail ++ take 1 t) (sym (behind_is after.signature));
  sum = ap (λ n. n + length (data_of chunks)) same ∙ at.sum;
  fresh = at.fresh;
  given = at.given;
}

size_none : (terms : Terms) (place : Place) (current held : List ℕ) (chunks : List Chunk) (tail : List ℕ) (d : ℕ × ℕ) (byte : ℕ) → AtSize terms place current held chunks tail d.0 d.1 → (byte == 59 && nat_lt 0 d.0) ≡ false → (is_hex byte ≡ true → d.0 < 8 → ⊥) → Next tail byte → ⊥
size_none terms place current held chunks tail d byte at apart none next =
    ⊎_elim
    (λ (semi : (byte ≡ 59) × (0 < d.0)).
    absurd (false≢true (sym apart ∙ and_from (byte == 59) (nat_lt 0 d.0) (eq-eqb _ _ semi.0) (lt-ltb _ _ semi.1))))
    (λ (more : (is_hex byte ≡ true) × (d.0 < 8)). none more.0 more.1)
    (size_next terms place current held chunks tail d.0 d.1 byte at next)

pub size_outcome : (terms : Terms) (text : List ℕ) (place : Place) (current held : List ℕ) (byte : ℕ) (d : ℕ × ℕ) → (c : Course terms text place current held) → AtSize terms place current held c.chunks c.tail d.0 d.1 → (ends hex room : Bool) → (byte == 59 && nat_lt 0 d.0) ≡ ends → is_hex byte ≡ hex → nat_lt d.0 8 ≡ room → After terms text place current held byte (read_size d byte)
unfolding turned
size_outcome terms text place current held byte d c at true hex room e h r =
    let both = and_parts (byte == 59) (nat_lt 0 d.0) e in
    let after : Place = record place { span = advanced place.span 1; phase = Line 1 d.1 } in
    rw e
    (inl (go_on terms text place current held byte after c refl refl c.digits
    (size_ends terms place after held current c.chunks c.tail d.0 d.1 byte refl at (eqb-true _ _ both.0) (ltb-true _ _ both.1))))
size_outcome terms text place current held byte d c at false true true e h r =
    let after : Place = record place { span = advanced place.span 1; phase = Size (d.0 + 1, d.1 * 16 + digit_value byte) } in
    rw (e, h, r)
    (inl (go_on terms text place current held byte after c refl refl c.digits
    (size_more terms place after held current c.chunks c.tail d.0 d.1 byte refl at h (ltb-true _ _ r))))
size_outcome terms text place current held byte d c at false true false e h r =
    rw (e, h, r)
    (misspelled terms text place current held byte c (λ next. size_none terms place current held c.chunks c.tail d byte at e (λ hex room. absurd (false≢true (sym r ∙ lt-ltb _ _ room))) next))
size_outcome terms text place current held byte d c at false false room e h r =
    rw (e, h)
    (misspelled terms text place current held byte c (λ next. size_none terms place current held c.chunks c.tail d byte at e (λ hex room. absurd (false≢true (sym h ∙ hex))) next))
