-- What one more byte of a first line makes of how a reader stands.
use Rattle.std.proofs.Common.{◌≡◌, ℕ, suc, zero, ◌+◌, ◌-◌, ◌<◌, ◌≤◌, ⊎_elim, Bool, true, false, ◌&&◌, ◌==◌, nat_lt, List, [], ◌∷◌, ◌++◌, length, take, get_or, set, refl, sym, ap, subst, ◌∙◌, arith, append_assoc, inl, inr, lt-ltb, ltb-true, ltb-false, eq-eqb, eqb-true}
use Rattle.std.proofs.lemmas.Bool.{false≢true, and_parts, and_from, cases_lt}
use Rattle.std.proofs.lemmas.List.{append-nil, take_all, take_more, take_more_set, set-append_left, set-append_right, length-set}
use Rattle.std.specs.List.{list_all}
use Rattle.s3_text.specs.Characters.{is_lower_hex}
use Rattle.s3_text.specs.Digest.{is_hex_digest}
use Rattle.s3_text.specs.Characters.{crlf}
use Rattle.s3_aws_chunked.specs.Chunk.{Chunk, size_of, label, line_behind, first_line, chunks_text, data_of}
use Rattle.s3_aws_chunked.specs.Verdict.{Terms, EndsLine}
use Rattle.s3_aws_chunked.specs.Count.{advanced}
use Rattle.s3_aws_chunked.specs.Phase.{read_line}
use Rattle.s3_aws_chunked.specs.Decoder.{opened, turned}
use Rattle.s3_aws_chunked.specs.declared.place.Place.{Place}
use Rattle.s3_aws_chunked.specs.declared.phase.Fault.TheVariants.{Invalid}
use Rattle.s3_aws_chunked.specs.declared.phase.Phase.TheVariants.{Line, Data}
use Rattle.s3_aws_chunked.specs.declared.phase.Event.TheVariants.{Opens}
use Rattle.s3_aws_chunked.proofs.TextLemmas.{digest_length, length-behind}
use Rattle.s3_aws_chunked.proofs.ParseLemmas.{partial_line, begins_with}
use Rattle.s3_aws_chunked.proofs.FaultLemmas.{found_exceeds}
use Rattle.s3_aws_chunked.proofs.CourseLemmas.{AtLine, AtData, Course}
use Rattle.s3_aws_chunked.proofs.NextLemmas.{Next, line_next, behind_label, behind_digit, behind_end, digit_lower}
use Rattle.s3_aws_chunked.proofs.OutcomeLemmas.{After, go_on, misspelled}

-- one more byte of what stands behind a size
line_more : (terms : Terms) (place after : Place) (current held : List ℕ) (chunks : List Chunk) (tail : List ℕ) (count value byte next : ℕ) → after.left ≡ place.left → AtLine terms place current held chunks tail count value → count < 82 → next ≡ count + 1 → take (count + 1) (line_behind after.signature) ≡ take count (line_behind place.signature) ++ byte ∷ [] → AtLine terms after current held chunks (tail ++ byte ∷ []) next value
line_more terms place after current held chunks tail count value byte next same at below is grown = record {
  size = at.size;
  form = at.form;
  spells = at.spells;
  least = omega (arith, is);
  most = omega (arith, is, below);
  written =
      ap (λ t. t ++ byte ∷ []) at.written
      ∙ append_assoc at.size (take count (line_behind place.signature)) (byte ∷ [])
      ∙ ap (λ t. at.size ++ t) (sym grown)
      ∙ ap (λ n. at.size ++ take n (line_behind after.signature)) (sym is);
  sum = ap (λ n. n + length (data_of chunks)) same ∙ at.sum;
  fresh = at.fresh;
  given = at.given;
}

grown_same : (signature : List ℕ) (count byte : ℕ) → is_hex_digest signature ≡ true → count < 83 → get_or (line_behind signature) count 0 ≡ byte → take (count + 1) (line_behind signature) ≡ take count (line_behind signature) ++ byte ∷ []
grown_same signature count byte form below is =
    take_more (line_behind signature) count 0 (omega (arith, length-behind signature form, below))
    ∙ ap (λ b. take count (line_behind signature) ++ b ∷ []) is

-- a digit of the signature
behind_set : (signature : List ℕ) (index byte : ℕ) → index < length signature → set (line_behind signature) (17 + index) byte ≡ line_behind (set signature index byte)
unfolding line_behind
behind_set signature index byte below =
    set-append_right label (signature ++ crlf) 17 (17 + index) byte refl (omega arith)
    ∙ ap (λ n. label ++ set (signature ++ crlf) n byte) (omega arith)
    ∙ ap (λ t. label ++ t) (set-append_left signature crlf index byte below)

grown_set : (signature : List ℕ) (count byte : ℕ) → is_hex_digest signature ≡ true → 17 ≤ count → count < 81 → take (count + 1) (line_behind (set signature (count - 17) byte)) ≡ take count (line_behind signature) ++ byte ∷ []
grown_set signature count byte form past below =
    let same : 17 + (count - 17) ≡ count = omega (arith, past) in
    ap (take (count + 1)) (sym (behind_set signature (count - 17) byte (omega (arith, digest_length signature form, past, below))))
    ∙ ap (λ n. take (count + 1) (set (line_behind signature) n byte)) same
    ∙ take_more_set (line_behind signature) count byte (omega (arith, length-behind signature form, below))

all_set : (f : ℕ → Bool) (xs : List ℕ) (i b : ℕ) → list_all f xs ≡ true → f b ≡ true → list_all f (set xs i b) ≡ true
all_set f [] i b all is = refl
all_set f (x ∷ xs) zero b all is = and_from (f b) (list_all f xs) is (and_parts (f x) (list_all f xs) all).1
all_set f (x ∷ xs) (suc i) b all is =
    let both = and_parts (f x) (list_all f xs) all in
    and_from (f x) (list_all f (set xs i b)) both.0 (all_set f xs i b both.1 is)

digest_set : (signature : List ℕ) (i b : ℕ) → is_hex_digest signature ≡ true → is_lower_hex b ≡ true → is_hex_digest (set signature i b) ≡ true
digest_set signature i b form is =
    and_from (length (set signature i b) == 64) (list_all is_lower_hex (set signature i b))
    (eq-eqb _ _ (length-set signature i b ∙ digest_length signature form))
    (all_set is_lower_hex signature i b (and_parts (length signature == 64) (list_all is_lower_hex signature) form).1 is)

-- the first line has ended
line_whole : (place : Place) (tail : List ℕ) (size : List ℕ) → is_hex_digest place.signature ≡ true → tail ≡ size ++ take 82 (line_behind place.signature) → tail ++ 10 ∷ [] ≡ first_line size place.signature
line_whole place tail size form written =
    ap (λ t. t ++ 10 ∷ []) written
    ∙ append_assoc size (take 82 (line_behind place.signature)) (10 ∷ [])
    ∙ ap (λ t. size ++ t)
    (sym (grown_same place.signature 82 10 form (omega arith) (behind_end place.signature 82 form (omega arith)))
    ∙ take_all 83 (line_behind place.signature) (omega (arith, length-behind place.signature form)))

opens : (terms : Terms) (text : List ℕ) (place : Place) (current held : List ℕ) (value : ℕ) → (c : Course terms text place current held) → AtLine terms place current held c.chunks c.tail 82 value → (over : Bool) → nat_lt place.left value ≡ over → After terms text place current held 10 (Opens value)
unfolding turned opened
opens terms text place current held value c at true h =
    let line = line_whole place c.tail at.size c.digits at.written in
    let whole : text ++ 10 ∷ [] ≡ chunks_text c.chunks ++ first_line at.size place.signature =
    ap (λ t. t ++ 10 ∷ []) c.written ∙ append_assoc (chunks_text c.chunks) c.tail (10 ∷ []) ∙ ap (λ t. chunks_text c.chunks ++ t) line in
    let total = length (data_of c.chunks) + size_of at.size in
    let ends : EndsLine (text ++ 10 ∷ []) total = record {
      chunks = c.chunks;
      size = at.size;
      signature = place.signature;
      each = c.each;
      form = at.form;
      signed = c.digits;
      written = whole;
      sum = refl;
    } in
    rw h
    (inr (inl (record {
      fault = Invalid;
      phase = refl;
      found =
          found_exceeds terms (text ++ 10 ∷ [])
          (begins_with (text ++ 10 ∷ []) c.chunks (first_line at.size place.signature) c.each (partial_line at.size place.signature at.form c.digits) whole)
          (total, ends, omega (arith, at.sum, at.spells, ltb-true _ _ h));
    })))
opens terms text place current held value c at false h =
    let line = line_whole place c.tail at.size c.digits at.written in
    let fits : value ≤ place.left = ltb-false _ _ h in
    let after : Place = record place { span = advanced place.span 1; left = place.left - value; phase = Data value (value == 0) } in
    let long : length current ≡ 0 = ap length at.fresh in
    let inside : AtData terms after current held c.chunks (c.tail ++ 10 ∷ []) value (value == 0) = record {
      size = at.size;
      form = at.form;
      long = omega (arith, long, at.spells);
      ends = ap (λ n. n == 0) (sym at.spells);
      written = line ∙ sym (append-nil (first_line at.size place.signature)) ∙ ap (λ t. first_line at.size place.signature ++ t) (sym at.fresh);
      sum = omega (arith, at.sum, at.spells, fits);
      given = at.given ∙ sym (append-nil (data_of c.chunks)) ∙ ap (λ t. data_of c.chunks ++ t) (sym at.fresh);
    } in
    rw h (inl (go_on terms text place current held 10 after c refl refl c.digits inside))

-- a byte that stands at its place is read
line_none : (terms : Terms) (place : Place) (current held : List ℕ) (chunks : List Chunk) (tail : List ℕ) (count value byte : ℕ) → is_hex_digest place.signature ≡ true → AtLine terms place current held chunks tail count value → (nat_lt count 17 && byte == get_or label count 0) ≡ false → (nat_lt 16 count && nat_lt count 81 && is_lower_hex byte) ≡ false → (count == 81 && byte == 13) ≡ false → (count == 82 && byte == 10) ≡ false → Next tail byte → ⊥
line_none terms place current held chunks tail count value byte digits at a b c d next =
    let is = line_next terms place current held chunks tail count value byte digits at next in
    let sign = next.chunk.signature in
    ⊎_elim
    (λ (low : count < 17).
    absurd (false≢true (sym a ∙ and_from (nat_lt count 17) (byte == get_or label count 0) (lt-ltb _ _ low) (eq-eqb _ _ (is ∙ behind_label sign count low)))))
    (λ (past : 17 ≤ count).
    ⊎_elim
    (λ (mid : count < 81).
    absurd (false≢true (sym b
    ∙ and_from (nat_lt 16 count && nat_lt count 81) (is_lower_hex byte)
    (and_from (nat_lt 16 count) (nat_lt count 81) (lt-ltb _ _ (omega (arith, past))) (lt-ltb _ _ mid))
    (ap is_lower_hex (is ∙ behind_digit sign count next.form.signature past mid) ∙ digit_lower sign (count - 17) next.form.signature (omega (arith, past, mid))))))
    (λ (high : 81 ≤ count).
    ⊎_elim
    (λ (cr : count < 82).
    let there : count ≡ 81 = omega (arith, high, cr) in
    absurd (false≢true (sym c ∙ and_from (count == 81) (byte == 13) (eq-eqb _ _ there)
    (eq-eqb _ _ (is ∙ behind_end sign count next.form.signature high ∙ ap (λ n. get_or crlf (n - 81) 0) there)))))
    (λ (lf : 82 ≤ count).
    let there : count ≡ 82 = omega (arith, lf, at.most) in
    absurd (false≢true (sym d ∙ and_from (count == 82) (byte == 10) (eq-eqb _ _ there)
    (eq-eqb _ _ (is ∙ behind_end sign count next.form.signature high ∙ ap (λ n. get_or crlf (n - 81) 0) there)))))
    (cases_lt count 82))
    (cases_lt count 81))
    (cases_lt count 17)

pub line_outcome : (terms : Terms) (text : List ℕ) (place : Place) (current held : List ℕ) (byte count value : ℕ) → (c : Course terms text place current held) → AtLine terms place current held c.chunks c.tail count value → (a b k l : Bool) → (nat_lt count 17 && byte == get_or label count 0) ≡ a → (nat_lt 16 count && nat_lt count 81 && is_lower_hex byte) ≡ b → (count == 81 && byte == 13) ≡ k → (count == 82 && byte == 10) ≡ l → After terms text place current held byte (read_line count value byte)
unfolding turned
line_outcome terms text place current held byte count value c at true b k l ea eb ek el =
    let both = and_parts (nat_lt count 17) (byte == get_or label count 0) ea in
    let low : count < 17 = ltb-true _ _ both.0 in
    let after : Place = record place { span = advanced place.span 1; phase = Line (count + 1) value } in
    rw ea
    (inl (go_on terms text place current held byte after c refl refl c.digits
    (line_more terms place after current held c.chunks c.tail count value byte (count + 1) refl at (omega (arith, low)) refl
    (grown_same place.signature count byte c.digits (omega (arith, low)) (behind_label place.signature count low ∙ sym (eqb-true _ _ both.1))))))
line_outcome terms text place current held byte count value c at false true k l ea eb ek el =
    let both = and_parts (nat_lt 16 count && nat_lt count 81) (is_lower_hex byte) eb in
    let bounds = and_parts (nat_lt 16 count) (nat_lt count 81) both.0 in
    let past : 16 < count = ltb-true _ _ bounds.0 in
    let below : count < 81 = ltb-true _ _ bounds.1 in
    let after : Place = record place { span = advanced place.span 1; signature = set place.signature (count - 17) byte; phase = Line (count - 17 + 18) value } in
    rw (ea, eb)
    (inl (go_on terms text place current held byte after c refl refl (digest_set place.signature (count - 17) byte c.digits both.1)
    (line_more terms place after current held c.chunks c.tail count value byte (count - 17 + 18) refl at (omega (arith, below)) (omega (arith, past))
    (grown_set place.signature count byte c.digits (omega (arith, past)) below))))
line_outcome terms text place current held byte count value c at false false true l ea eb ek el =
    let both = and_parts (count == 81) (byte == 13) ek in
    let there : count ≡ 81 = eqb-true _ _ both.0 in
    let after : Place = record place { span = advanced place.span 1; phase = Line 82 value } in
    rw (ea, eb, ek)
    (inl (go_on terms text place current held byte after c refl refl c.digits
    (line_more terms place after current held c.chunks c.tail count value byte 82 refl at (omega (arith, there)) (omega (arith, there))
    (grown_same place.signature count byte c.digits (omega (arith, there))
    (behind_end place.signature count c.digits (omega (arith, there)) ∙ ap (λ n. get_or crlf (n - 81) 0) there ∙ sym (eqb-true _ _ both.1))))))
line_outcome terms text place current held byte count value c at false false false true ea eb ek el =
    let both = and_parts (count == 82) (byte == 10) el in
    let there : count ≡ 82 = eqb-true _ _ both.0 in
    let lf : byte ≡ 10 = eqb-true _ _ both.1 in
    rw (ea, eb, ek, el)
    (subst (λ b. After terms text place current held b (Opens value)) (sym lf)
    (opens terms text place current held value c (subst (λ n. AtLine terms place current held c.chunks c.tail n value) there at) (nat_lt place.left value) refl))
line_outcome terms text place current held byte count value c at false false false false ea eb ek el =
    rw (ea, eb, ek, el)
    (misspelled terms text place current held byte c (line_none terms place current held c.chunks c.tail count value byte c.digits at ea eb ek el))
