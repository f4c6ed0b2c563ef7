-- A request whose body is sent in signed chunks.
use Rattle.std.proofs.Common.{◌≡◌, ℕ, ◌-◌, ◌^◌, ◌≤◌, true, List, [], ◌∷◌, ◌++◌, length, drop, codes, Some, refl, sym, ap, ◌∙◌, arith, subst, length-append}
use Rattle.std.specs.Prelude.{option_and_then}
use Rattle.std.specs.Fmt.{decimal}
use Rattle.s3_text.specs.Characters.{crlf}
use Rattle.httparse.specs.Grammar.{print_request}
use Rattle.s3_text.specs.Digits.{decimal_number}
use Rattle.s3_http_heads.specs.BodyLength.{decoded_length, length_lines}
use Rattle.s3_http_heads.specs.Head.{only, parts_of}
use Rattle.s3_http_heads.specs.Message.{IsMessage}
use Rattle.s3_signing.specs.Chain.{Link, seed_with}
use Rattle.s3_signing.specs.Word.{signed_chunks}
use Rattle.s3_aws_chunked.specs.Chunk.{Chunk, chunk_text, chunks_text, data_of, first_line}
use Rattle.s3_aws_chunked.specs.Laws.{WritingsAreAccepted, WritingsAreOne}
use Rattle.s3_aws_chunked.specs.Write.{Writes, written_length}
use Rattle.s3_signer.specs.declared.signed.SignedLines.{SignedLines}
use Rattle.s3_signer.specs.Chunked.{IsChunkedText, IsSignableInChunks, IsVerifiedChunkedRequest, chunked, first_link}
use Rattle.s3_signer.specs.Line.{AreLinesOf, IsMessageOf, head_with}
use Rattle.s3_signer.specs.Request.{CanBeSent, HasOne, HeaderLine, Told, authorization_of, signed_head, text_with, unsigned_head, unsigned_lines}
use Rattle.s3_signer.proofs.NumberLemmas.{announced_small, decimal_read, ends_signed}
use Rattle.s3_signer.proofs.VerifiedLemmas.{can_be_sent, not_sent, others_said, sent_verified, text_made, word_proved}

-- the lines of a chunked body, by the texts that they were made of
pub told_chunks : (bytes : List ℕ) (size sent : ℕ) (coding value name decoded : List ℕ) → sent ≡ written_length (length bytes) size → coding ≡ codes "content-encoding" → value ≡ codes "aws-chunked" → name ≡ codes "x-amz-decoded-content-length" → decoded ≡ decimal (length bytes)
    → ◌≡◌ {A = Told} (record { word = signed_chunks; size = sent; sized = true; more = (coding, value) ∷ (name, decoded) ∷ [] }) (chunked bytes size)
told_chunks bytes size sent coding value name decoded same_size same_coding same_value same_name same_decoded =
    ap (λ (n : ℕ). record { word = signed_chunks; size = n; sized = true; more = (coding, value) ∷ (name, decoded) ∷ [] }) same_size
    ∙ ap (λ (t : List ℕ). record { word = signed_chunks; size = written_length (length bytes) size; sized = true; more = (t, value) ∷ (name, decoded) ∷ [] }) same_coding
    ∙ ap (λ (t : List ℕ). record { word = signed_chunks; size = written_length (length bytes) size; sized = true; more = (codes "content-encoding", t) ∷ (name, decoded) ∷ [] }) same_value
    ∙ ap (λ (t : List ℕ). record { word = signed_chunks; size = written_length (length bytes) size; sized = true; more = (codes "content-encoding", codes "aws-chunked") ∷ (t, decoded) ∷ [] }) same_name
    ∙ ap (λ (t : List ℕ). record { word = signed_chunks; size = written_length (length bytes) size; sized = true; more = (codes "content-encoding", codes "aws-chunked") ∷ (codes "x-amz-decoded-content-length", t) ∷ [] }) same_decoded

-- there is no less text than data
short_data : (chunks : List Chunk) → length (data_of chunks) ≤ length (chunks_text chunks)
short_data [] = omega arith
short_data (c ∷ chunks) =
    let line = first_line c.size c.signature in
    omega (arith, short_data chunks, length-append c.bytes (data_of chunks), length-append (chunk_text c) (chunks_text chunks), length-append line (c.bytes ++ crlf), length-append c.bytes crlf)

-- so what is written is no shorter than its data
no_shorter : (seed : Link) (bytes : List ℕ) (size : ℕ) (text : List ℕ) → Writes seed bytes size text → length bytes ≤ length text
no_shorter seed bytes size text w =
    omega (arith, ap length w.whole, ap length w.body.written, short_data w.chunks, length-append (chunks_text w.chunks) (chunk_text w.last))

-- ---- a request that is asked for

module _ (id secret region method target : List ℕ) (headers : List HeaderLine) (bytes : List ℕ) (size : ℕ) (stamp : List ℕ) where
  abbrev told : Told
  told = chunked bytes size

  -- so much can't be sent
  pub too_long : 2 ^ 64 ≤ written_length (length bytes) size → ¬ (IsSignableInChunks id secret region method target headers bytes size stamp)
  too_long long s =
      let small = announced_small (length_lines (parts_of (signed_head id secret region method target headers told stamp))) (length s.body) s.sent.message.whole in
      omega (arith, long, small, s.written.long)

  module _ (signed : SignedLines) (are : AreLinesOf id secret region method target headers told stamp signed) where
    -- the chain begins at the end of the value
    pub chain_begins : (link : Link) → link ≡ seed_with secret region stamp (drop (length signed.value.items - 64) signed.value.items) → link ≡ first_link secret region method target headers bytes size stamp
    chain_begins link is =
        is ∙ ap (seed_with secret region stamp) (ends_signed id secret region stamp (unsigned_head method target headers told stamp) signed.value.items are.value).1

    pub value_ends : 64 ≤ length signed.value.items
    value_ends = (ends_signed id secret region stamp (unsigned_head method target headers told stamp) signed.value.items are.value).0

    module _ (body : List ℕ) (written : Writes (seed_with secret region stamp (drop (length signed.value.items - 64) signed.value.items)) bytes size body) where
      pub from_first : Writes (first_link secret region method target headers bytes size stamp) bytes size body
      from_first = subst (λ link. Writes link bytes size body) (chain_begins _ refl) written

      -- it can't be signed, where it can't be sent with these chunks
      pub not_signable : WritingsAreOne → (IsMessageOf (head_with method target signed.lines.items) body → ¬ (HasOne (parts_of (head_with method target signed.lines.items)) (codes "authorization", signed.value.items))) → ¬ (IsSignableInChunks id secret region method target headers bytes size stamp)
      not_signable are_one refused s =
          not_sent id secret region method target headers told stamp signed are body refused
          (subst (λ b. CanBeSent id secret region method target headers told stamp b) (are_one _ bytes size s.body body s.written from_first) s.sent)

      module _ (message : IsMessageOf (head_with method target signed.lines.items) body) (own : HasOne (parts_of (head_with method target signed.lines.items)) (codes "authorization", signed.value.items)) where
        sent : CanBeSent id secret region method target headers told stamp body
        sent = can_be_sent id secret region method target headers told stamp signed are body message own

        pub signable : length secret ≤ 128 → length region ≤ 64 → IsSignableInChunks id secret region method target headers bytes size stamp
        signable key place = record { key = key; place = place; body = body; written = from_first; sent = sent }

        -- the head says how long the data is
        decoded : decoded_length (parts_of (signed_head id secret region method target headers told stamp)) ≡ Some (length bytes)
        decoded =
            let small = announced_small (length_lines (parts_of (signed_head id secret region method target headers told stamp))) (length body) sent.message.whole in
            let name = codes "x-amz-decoded-content-length" in
            let value = authorization_of id secret region (unsigned_head method target headers told stamp) stamp in
            ap (λ values. option_and_then (decimal_number 18) (only values))
            (others_said method target (unsigned_lines headers told stamp) value name refl ∙ are.ready.one_each.1.0)
            ∙ decimal_read (length bytes) (omega (arith, small, no_shorter _ bytes size body from_first))

        module _ (text : List ℕ) (is : text ≡ print_request (head_with method target signed.lines.items) ++ body) where
          joined : text ≡ text_with id secret region method target headers told stamp body
          joined = text_made id secret region method target headers told stamp signed are body text is

          pub chunked_text : IsChunkedText id secret region method target headers bytes size stamp text
          chunked_text = record { body = body; written = from_first; joined = joined }

          pub chunked_verified : WritingsAreAccepted → IsVerifiedChunkedRequest id secret region method target headers bytes size stamp text
          chunked_verified are_accepted settings moment knows near plain = record {
            head = parts_of (signed_head id secret region method target headers told stamp);
            body = body;
            message = subst (λ t. IsMessage t (parts_of (signed_head id secret region method target headers told stamp)) body []) (sym joined) sent.message;
            verdict = sent_verified id secret region method target headers told stamp signed are body refl sent settings moment knows near plain;
            word = word_proved id secret region method target headers told stamp signed are body;
            decoded = decoded;
            accepted = λ ended. are_accepted _ bytes size body ended from_first;
          }
