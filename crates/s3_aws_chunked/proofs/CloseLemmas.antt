-- What the bytes behind the data of a chunk make of how a reader stands.
use Rattle.std.proofs.Common.{◌≡◌, ℕ, suc, zero, ◌+◌, ◌<◌, ◌≤◌, Bool, true, false, ◌==◌, nat_lt, List, [], ◌∷◌, ◌++◌, length, refl, sym, ap, subst, ◌∙◌, arith, append_assoc, inl, inr, ltb-true, ltb-false, eq-eqb, eqb-true, if◌then◌else◌, length-append}
use Rattle.std.proofs.lemmas.Bool.{false≢true}
use Rattle.std.proofs.lemmas.List.{append-nil, length_push, nil_from_length}
use Rattle.std.proofs.lemmas.Slice.Eq.{bytes_eq-Decides}
use Rattle.std.specs.Str.{bytes_eq}
use Rattle.sha2.specs.Sha256.{sha256}
use Rattle.s3_signing.specs.Chain.{Link, linked, next_signature}
use Rattle.s3_text.specs.Characters.{crlf}
use Rattle.s3_aws_chunked.specs.Chunk.{Chunk, size_of, first_line, chunks_text, data_of}
use Rattle.s3_aws_chunked.specs.Body.{link_after}
use Rattle.s3_aws_chunked.specs.Verdict.{Terms, IsSigned}
use Rattle.s3_aws_chunked.specs.Count.{Count, advanced}
use Rattle.s3_aws_chunked.specs.Decoder.{passed, closed, turned}
use Rattle.s3_aws_chunked.specs.declared.place.Place.{Place}
use Rattle.s3_aws_chunked.specs.declared.phase.Fault.TheVariants.{Invalid, Forged, Incomplete}
use Rattle.s3_aws_chunked.specs.declared.phase.Phase.TheVariants.{Size, Ending}
use Rattle.s3_aws_chunked.specs.declared.phase.Event.TheVariants.{Misspelled, Moves, Closes}
use Rattle.s3_aws_chunked.proofs.ParseLemmas.{data_push, link_push, signed_push}
use Rattle.s3_aws_chunked.proofs.FaultLemmas.{Ended, ended_forged}
use Rattle.s3_aws_chunked.proofs.EndedLemmas.{ended_short, ended_left, ended_silent, mid_after, body_of}
use Rattle.s3_aws_chunked.proofs.CourseLemmas.{AtData, AtEnding, Course}
use Rattle.s3_aws_chunked.proofs.NextLemmas.{data_next, ending_next}
use Rattle.s3_aws_chunked.proofs.OutcomeLemmas.{After, Outcome, go_on, misspelled}

-- behind all data of a chunk
pub data_outcome : (terms : Terms) (text : List ℕ) (place : Place) (current held : List ℕ) (byte : ℕ) (last : Bool) → (c : Course terms text place current held) → AtData terms place current held c.chunks c.tail 0 last → (cr : Bool) → (byte == 13) ≡ cr → After terms text place current held byte (if byte == 13 then Moves (Ending last) else Misspelled)
unfolding turned
data_outcome terms text place current held byte last c at true h =
    let is : byte ≡ 13 = eqb-true _ _ h in
    let after : Place = record place { span = advanced place.span 1; phase = Ending last } in
    let ends : AtEnding terms after current held c.chunks (c.tail ++ byte ∷ []) last = record {
      size = at.size;
      form = at.form;
      long = omega (arith, at.long);
      ends = at.ends;
      written = ap (λ b. c.tail ++ b ∷ []) is ∙ ap (λ t. t ++ 13 ∷ []) at.written ∙ append_assoc (first_line at.size place.signature) current (13 ∷ []);
      sum = at.sum;
      given = at.given;
    } in
    rw h (inl (go_on terms text place current held byte after c refl refl c.digits ends))
data_outcome terms text place current held byte last c at false h =
    rw h
    (misspelled terms text place current held byte c
    (λ next. absurd (false≢true (sym h ∙ eq-eqb _ _ (data_next terms place current held c.chunks c.tail last byte c.digits at next)))))

-- the chunk that ends
abbrev whole_chunk : (terms : Terms) (place : Place) (current held : List ℕ) (chunks : List Chunk) (tail : List ℕ) (last : Bool) → AtEnding terms place current held chunks tail last → Chunk
whole_chunk terms place current held chunks tail last at = record { size = at.size; signature = place.signature; bytes = current }

ending_text : (place : Place) (size tail current : List ℕ) → tail ≡ first_line size place.signature ++ (current ++ 13 ∷ []) → tail ++ 10 ∷ [] ≡ first_line size place.signature ++ (current ++ crlf)
ending_text place size tail current written =
    ap (λ t. t ++ 10 ∷ []) written
    ∙ append_assoc (first_line size place.signature) (current ++ 13 ∷ []) (10 ∷ [])
    ∙ ap (λ t. first_line size place.signature ++ t) (append_assoc current (13 ∷ []) (10 ∷ []))

ended : (terms : Terms) (text : List ℕ) (place : Place) (current held : List ℕ) (last : Bool) → (c : Course terms text place current held) → (at : AtEnding terms place current held c.chunks c.tail last) → Ended terms (text ++ 10 ∷ []) c.chunks (whole_chunk terms place current held c.chunks c.tail last at)
ended terms text place current held last c at = record {
  each = c.each;
  signed = c.signed;
  form = record { size = at.form; length = sym at.long; signature = c.digits };
  written =
      ap (λ t. t ++ 10 ∷ []) c.written ∙ append_assoc (chunks_text c.chunks) c.tail (10 ∷ [])
      ∙ ap (λ t. chunks_text c.chunks ++ t) (ending_text place at.size c.tail current at.written);
  fits = omega (arith, at.sum, at.long);
}

-- its signature is right, and it has some data
passed_on : (terms : Terms) (text : List ℕ) (place : Place) (current held : List ℕ) (last : Bool) → (c : Course terms text place current held) → (at : AtEnding terms place current held c.chunks c.tail last) → place.signature ≡ next_signature (link_after terms.seed c.chunks) (sha256 current) → 0 < length current → Course terms (text ++ 10 ∷ []) (record place { chain = linked place.chain (next_signature place.chain (sha256 current)); span = advanced place.span 1; phase = Size (0, 0) }) [] held
passed_on terms text place current held last c at signed some =
    let chunk = whole_chunk terms place current held c.chunks c.tail last at in
    let mid = mid_after terms (text ++ 10 ∷ []) c.chunks chunk (ended terms text place current held last c at) signed some in
    let datas : data_of (c.chunks ++ chunk ∷ []) ≡ data_of c.chunks ++ current = data_push c.chunks chunk in
    let long : length (data_of (c.chunks ++ chunk ∷ [])) ≡ length (data_of c.chunks) + length current = ap length datas ∙ length-append (data_of c.chunks) current in
    record {
      chunks = c.chunks ++ chunk ∷ [];
      tail = [];
      each = mid.each;
      signed = mid.signed;
      written = mid.written;
      span = ap (λ (s : Count). advanced s 1) c.span ∙ ap (λ (n : ℕ). record { taken = n; whole = terms.encoded }) (sym (length_push text 10));
      chain =
          ap (λ (k : Link). linked k (next_signature k (sha256 current))) c.chain
          ∙ ap (λ s. linked (link_after terms.seed c.chunks) s) (sym signed)
          ∙ sym (link_push terms.seed c.chunks chunk);
      digits = c.digits;
      at = record {
        long = refl;
        most = omega arith;
        digits = refl;
        spells = refl;
        sum = omega (arith, long, at.sum, at.long);
        fresh = refl;
        given = at.given ∙ sym datas;
      };
    }

-- its signature is right, and it is the empty chunk
passed_last : (terms : Terms) (text : List ℕ) (place : Place) (current held : List ℕ) (last : Bool) → (c : Course terms text place current held) → (at : AtEnding terms place current held c.chunks c.tail last) → place.signature ≡ next_signature (link_after terms.seed c.chunks) (sha256 current) → length current ≡ 0 → length text + 1 ≤ terms.encoded → (chained : Place) → chained.left ≡ place.left → chained.span ≡ advanced place.span 1 → (over room : Bool) → nat_lt 0 chained.left ≡ over → nat_lt chained.span.taken chained.span.whole ≡ room → Outcome terms (text ++ 10 ∷ []) (passed chained true) [] held
passed_last terms text place current held last c at signed none within chained lefts spans over room ho hr =
    let chunk = whole_chunk terms place current held c.chunks c.tail last at in
    let text' = text ++ 10 ∷ [] in
    let end = ended terms text place current held last c at in
    let empty : current ≡ [] = nil_from_length current none in
    let sum : place.left + length (data_of c.chunks) ≡ terms.decoded = omega (arith, at.sum, at.long, none) in
    let span : chained.span ≡ record { taken = length text'; whole = terms.encoded } =
    spans ∙ ap (λ (s : Count). advanced s 1) c.span ∙ ap (λ (n : ℕ). record { taken = n; whole = terms.encoded }) (sym (length_push text 10)) in
    let taken : chained.span.taken ≡ length text' = ap (λ (s : Count). s.taken) span in
    let whole : chained.span.whole ≡ terms.encoded = ap (λ (s : Count). s.whole) span in
    let long : length text' ≡ length text + 1 = length_push text 10 in
    passed_as text' chunk end signed empty sum span taken whole long over room ho hr
  where
    passed_as : (text' : List ℕ) (chunk : Chunk) → Ended terms text' c.chunks chunk → IsSigned terms c.chunks chunk → chunk.bytes ≡ [] → place.left + length (data_of c.chunks) ≡ terms.decoded → chained.span ≡ record { taken = length text'; whole = terms.encoded } → chained.span.taken ≡ length text' → chained.span.whole ≡ terms.encoded → length text' ≡ length text + 1 → (over room : Bool) → nat_lt 0 chained.left ≡ over → nat_lt chained.span.taken chained.span.whole ≡ room → Outcome terms text' (passed chained true) [] held
    passed_as text' chunk end signed' empty sum span taken whole long true room ho hr =
        let some : 0 < chained.left = ltb-true _ _ ho in
        rw ho (inr (inl (record {
          fault = Incomplete;
          phase = refl;
          found = ended_short terms text' c.chunks chunk end signed' empty (omega (arith, sum, lefts, some));
        })))
    passed_as text' chunk end signed' empty sum span taken whole long false true ho hr =
        let none' : chained.left ≤ 0 = ltb-false _ _ ho in
        let below : chained.span.taken < chained.span.whole = ltb-true _ _ hr in
        rw (ho, hr) (inr (inl (record {
          fault = Invalid;
          phase = refl;
          found = ended_left terms text' c.chunks chunk end signed' empty (omega (arith, sum, lefts, none')) (omega (arith, below, taken, whole));
        })))
    passed_as text' chunk end signed' empty sum span taken whole long false false ho hr =
        let none' : chained.left ≤ 0 = ltb-false _ _ ho in
        let full : chained.span.whole ≤ chained.span.taken = ltb-false _ _ hr in
        let all : length (data_of c.chunks) ≡ terms.decoded = omega (arith, sum, lefts, none') in
        let there : length text' ≡ terms.encoded = omega (arith, full, taken, whole, long, within) in
        let given : held ≡ data_of c.chunks = at.given ∙ ap (λ t. data_of c.chunks ++ t) (nil_from_length current none) ∙ append-nil (data_of c.chunks) in
        rw (ho, hr) (inr (inr (record {
          over = refl;
          whole = there;
          chunks = c.chunks;
          last = chunk;
          body = body_of terms text' c.chunks chunk end empty;
          signed = signed_push terms.seed c.chunks chunk c.signed signed';
          sum = ap length given ∙ all;
          joined = given;
          silent = ended_silent terms text' c.chunks chunk end signed' empty all there;
        })))

-- the chunk's last byte
closes : (terms : Terms) (text : List ℕ) (place : Place) (current held : List ℕ) (last : Bool) → (c : Course terms text place current held) → AtEnding terms place current held c.chunks c.tail last → length text + 1 ≤ terms.encoded → (same : Bool) → bytes_eq place.signature (next_signature place.chain (sha256 current)) ≡ same → (is : Bool) → last ≡ is → After terms text place current held 10 (Closes last)
unfolding turned closed
closes terms text place current held last c at within false h is ends =
    rw h
    (inr (inl (record {
      fault = Forged;
      phase = refl;
      found =
          ended_forged terms (text ++ 10 ∷ []) c.chunks (whole_chunk terms place current held c.chunks c.tail last at) (ended terms text place current held last c at)
          (λ signed. absurd (false≢true (sym h ∙ (bytes_eq-Decides place.signature (next_signature place.chain (sha256 current))).1
          (signed ∙ ap (λ (k : Link). next_signature k (sha256 current)) (sym c.chain)))));
    })))
closes terms text place current held last c at within true h false ends =
    let signed : place.signature ≡ next_signature (link_after terms.seed c.chunks) (sha256 current) =
    (bytes_eq-Decides place.signature (next_signature place.chain (sha256 current))).0 h ∙ ap (λ (k : Link). next_signature k (sha256 current)) c.chain in
    let some : (size_of at.size == 0) ≡ false = sym at.ends ∙ ends in
    rw (h, ends)
    (inl (passed_on terms text place current held last c at signed (not_none (length current) (ap (λ n. n == 0) at.long ∙ some))))
  where
    not_none : (n : ℕ) → (n == 0) ≡ false → 0 < n
    not_none zero no' = absurd (false≢true (sym no'))
    not_none (suc n) no' = omega arith
closes terms text place current held last c at within true h true ends =
    let signed : place.signature ≡ next_signature (link_after terms.seed c.chunks) (sha256 current) =
    (bytes_eq-Decides place.signature (next_signature place.chain (sha256 current))).0 h ∙ ap (λ (k : Link). next_signature k (sha256 current)) c.chain in
    let none : length current ≡ 0 = at.long ∙ eqb-true (size_of at.size) 0 (sym at.ends ∙ ends) in
    let chained : Place = record place { chain = linked place.chain (next_signature place.chain (sha256 current)); span = advanced place.span 1 } in
    rw (h, ends)
    (passed_last terms text place current held last c at signed none within chained refl refl (nat_lt 0 chained.left) (nat_lt chained.span.taken chained.span.whole) refl refl)

pub ending_outcome : (terms : Terms) (text : List ℕ) (place : Place) (current held : List ℕ) (byte : ℕ) (last : Bool) → (c : Course terms text place current held) → AtEnding terms place current held c.chunks c.tail last → length text + 1 ≤ terms.encoded → (lf : Bool) → (byte == 10) ≡ lf → After terms text place current held byte (if byte == 10 then Closes last else Misspelled)
ending_outcome terms text place current held byte last c at within true h =
    let is : byte ≡ 10 = eqb-true _ _ h in
    rw h
    (subst (λ b. After terms text place current held b (Closes last)) (sym is)
    (closes terms text place current held last c at within (bytes_eq place.signature (next_signature place.chain (sha256 current))) refl last refl))
ending_outcome terms text place current held byte last c at within false h =
    rw h
    (misspelled terms text place current held byte c
    (λ next. absurd (false≢true (sym h ∙ eq-eqb _ _ (ending_next terms place current held c.chunks c.tail last byte c.digits at next)))))
