-- A message that is ready for its signature and carries it is verified.
use Rattle.std.proofs.Common.{◌≡◌, ℕ, true, false, not, List, [], ◌∷◌, ◌++◌, filter, map, length, append-nil, None, Some, refl, sym, ap, ◌∙◌, arith, subst, Ok, Err}
use Rattle.std.specs.Prelude.{codes, IfOk, OnOk, Result, is_some, option_and_then, unwrap_or, slice_get}
use Rattle.std.proofs.lemmas.Bool.{cond-false, cond-true, or_left}
use Rattle.std.proofs.lemmas.List.Elements.{filter-append}
use Rattle.httparse.specs.Grammar.{RequestHead, print_request}
use Rattle.httparse.specs.Spans.{name_and_value}
use Rattle.s3_config.specs.Settings.{Settings}
use Rattle.s3_calendar.specs.Moment.{is_stamp, stamp_seconds}
use Rattle.s3_http_heads.specs.Target.{target_parts}
use Rattle.s3_http_heads.specs.Head.{HeadParts, Says, is_named, only, parts_of, values_of}
use Rattle.s3_http_heads.specs.Message.{IsMessage}
use Rattle.s3_text.specs.Digest.{is_hex_digest}
use Rattle.s3_text.proofs.ListLemmas.{is_some-first_kept}
use Rattle.s3_signing.specs.Accepted.{IsReady, IsVerifiedWith, Knows, other_lines, proved_by}
use Rattle.s3_signing.specs.Presigned.{is_presigned}
use Rattle.s3_signing.specs.Verdict.{checked_stamp, head_verdict, is_near, is_word, sent_word}
use Rattle.s3_signer.specs.declared.signed.SignedLines.{SignedLines}
use Rattle.s3_signer.specs.declared.unsigned.Unsigned.{Unsigned}
use Rattle.s3_signer.specs.Line.{AreLinesOf, IsMessageOf, head_with}
use Rattle.s3_signer.specs.Request.{CanBeSent, HasOne, HeaderLine, IsReadyFor, ReadsBack, Told, authorization_line, authorization_of, field_of, hashed, head_of, proved_of, signed_head, text_with, unsigned_head, unsigned_lines}
use Rattle.s3_signer.specs.Verified.{AtEachServer, IsVerifiedMessage, IsVerifiedRequest}
use Rattle.s3_signer.proofs.GrammarLemmas.{headers_more, said_names}

-- one value is a first value
first_of_one : (values : List (List ℕ)) → length values ≡ 1 → is_some (slice_get values 0) ≡ true
first_of_one [] one = absurd (omega arith)
first_of_one (v ∷ values) one = refl

-- the one word is one of those for a body
word_said : (head : HeadParts) (word : List ℕ) → values_of (codes "x-amz-content-sha256") head ≡ word ∷ [] → sent_word head ≡ word
word_said head word one = ap (λ words. unwrap_or (slice_get words 0) []) one

-- what is ready for the signature, and says so in its text
is_ready : (told : Told) (text stamp : List ℕ) (head : HeadParts) → Says text head → is_word told.word ≡ true → IsReadyFor told stamp head → is_stamp stamp ≡ true → is_presigned (target_parts head.target) ≡ false → IsReady head stamp
unfolding values_of
is_ready told text stamp head says word ready stamped plain = record {
  names = said_names text head says;
  readable = ready.readable;
  unsigned_query = plain;
  stamped = ap (λ values. option_and_then checked_stamp (only values)) ready.one_stamp ∙ cond-true (is_stamp stamp) (Some stamp) None stamped;
  one_word = ap length ready.one_word;
  word = ap is_word (word_said head told.word ready.one_word) ∙ word;
  host = sym (is_some-first_kept (is_named (codes "host")) (λ (line : List ℕ × List ℕ). line.1) head.headers) ∙ first_of_one (values_of (codes "host") head) ready.one_host;
}

-- the same of a head that was made so
pub ready_along : (told : Told) (stamp : List ℕ) (h k : RequestHead) → h ≡ k → IsReadyFor told stamp (parts_of h) → IsReadyFor told stamp (parts_of k)
ready_along told stamp h k same ready = subst (λ x. IsReadyFor told stamp (parts_of x)) same ready

module _ (method target : List ℕ) (lines : List HeaderLine) (value : List ℕ) where
  abbrev pub unsigned : RequestHead
  unsigned = head_of method target lines

  abbrev pub signed : RequestHead
  signed = head_of method target (lines ++ (codes "authorization", value) ∷ [])

  others_same : other_lines (parts_of signed) ≡ other_lines (parts_of unsigned)
  others_same =
      let is_other = λ (line : List ℕ × List ℕ). not (is_named (codes "authorization") line) in
      ap (filter is_other) (headers_more method target lines ((codes "authorization", value) ∷ []))
      ∙ filter-append is_other (parts_of unsigned).headers (name_and_value (field_of (codes "authorization", value)) ∷ [])
      ∙ append-nil (filter is_other (parts_of unsigned).headers)

  -- the value's own line stands under another name
  pub others_said : (name : List ℕ) → is_named name (codes "authorization", value) ≡ false → values_of name (parts_of signed) ≡ values_of name (parts_of unsigned)
  unfolding values_of
  others_said name other =
      ap (map (λ (line : List ℕ × List ℕ). line.1))
      (ap (filter (is_named name)) (headers_more method target lines ((codes "authorization", value) ∷ []))
      ∙ filter-append (is_named name) (parts_of unsigned).headers (name_and_value (field_of (codes "authorization", value)) ∷ [])
      ∙ ap (λ more. filter (is_named name) (parts_of unsigned).headers ++ more) (cond-false _ _ _ other)
      ∙ append-nil (filter (is_named name) (parts_of unsigned).headers))

  -- what is ready, says so in its text and carries the value of its signature is verified
  pub is_verified : (id secret region stamp : List ℕ) (told : Told) → is_word told.word ≡ true → is_stamp stamp ≡ true
      → ReadsBack unsigned → IsReadyFor told stamp (parts_of unsigned) → IsVerifiedWith id secret region (parts_of unsigned) stamp value → HasOne (parts_of signed) (codes "authorization", value)
      → (settings : Settings) (moment : ℕ) → Knows settings id secret region → is_near (stamp_seconds stamp) moment ≡ true → is_presigned (target_parts target) ≡ false
      → head_verdict settings (parts_of signed) moment ≡ Ok (proved_by secret region (parts_of unsigned) stamp)
  is_verified id secret region stamp told word stamped says ready law own settings moment knows near plain =
      law settings moment (parts_of signed) knows (is_ready told (print_request unsigned) stamp (parts_of unsigned) says word ready stamped plain) near
      (record { method = refl; target = refl; lines = others_same; own = own })

-- what is made of three that hold where there is a value
pub ok_with : {X E : Type 0} (r : Result X E) (P Q : X → Type 0) (A B : Type 0) → IfOk r P → OnOk r A → OnOk r B → ((x : X) → P x → A → B → Q x) → IfOk r Q
ok_with (Ok x) P Q A B p a b f = f x p a b
ok_with (Err e) P Q A B p a b f = tt

pub on_ok : {X E : Type 0} (r : Result X E) (A B C : Type 0) → OnOk r A → OnOk r B → (A → B → C) → OnOk r C
on_ok (Ok x) A B C a b f = f a b
on_ok (Err e) A B C a b f = tt

-- what was asked for, by the lines that were made for it
module _ (id secret region method target : List ℕ) (headers : List HeaderLine) (told : Told) (stamp : List ℕ) (signed : SignedLines) (are : AreLinesOf id secret region method target headers told stamp signed) (body : List ℕ) where
  abbrev pub whole : RequestHead
  whole = signed_head id secret region method target headers told stamp

  abbrev pub made : RequestHead
  made = head_with method target signed.lines.items

  -- where the message of these lines is one, with their authorization, it can be sent
  pub can_be_sent : IsMessageOf made body → HasOne (parts_of made) (codes "authorization", signed.value.items) → CanBeSent id secret region method target headers told stamp body
  can_be_sent message own = record {
    ready = are.ready;
    message = subst (λ h. IsMessageOf h body) are.head message;
    own = subst (λ v. HasOne (parts_of whole) (codes "authorization", v)) are.value (subst (λ h. HasOne (parts_of h) (codes "authorization", signed.value.items)) are.head own);
  }

  -- it can't be, where a message of these lines has another authorization
  pub not_sent : (IsMessageOf made body → ¬ (HasOne (parts_of made) (codes "authorization", signed.value.items))) → ¬ (CanBeSent id secret region method target headers told stamp body)
  not_sent refused sent =
      refused (subst (λ h. IsMessageOf h body) (sym are.head) sent.message)
      (subst (λ v. HasOne (parts_of made) (codes "authorization", v)) (sym are.value)
      (subst (λ h. HasOne (parts_of h) (authorization_line id secret region (unsigned_head method target headers told stamp) stamp)) (sym are.head) sent.own))

  -- what can be sent is verified
  pub sent_verified : is_word told.word ≡ true → CanBeSent id secret region method target headers told stamp body
      → AtEachServer id secret region target stamp (λ settings moment. head_verdict settings (parts_of whole) moment ≡ Ok (proved_of secret region method target headers told stamp))
  sent_verified word sent settings moment knows near plain =
      is_verified method target (unsigned_lines headers told stamp) (authorization_of id secret region (unsigned_head method target headers told stamp) stamp) id secret region stamp told word are.stamped are.says sent.ready
      (subst (λ v. IsVerifiedWith id secret region (parts_of (unsigned_head method target headers told stamp)) stamp v) are.value are.verified) sent.own settings moment knows near plain

  -- it proves the word that was told
  pub word_proved : (proved_of secret region method target headers told stamp).word ≡ told.word
  word_proved = word_said (parts_of (unsigned_head method target headers told stamp)) told.word are.ready.one_word

  -- the text that is written
  pub text_made : (text : List ℕ) → text ≡ print_request made ++ body → text ≡ text_with id secret region method target headers told stamp body
  text_made text written = written ∙ ap (λ h. print_request h ++ body) are.head

-- a request whose body is sent as it is
pub request_verified : (id secret region method target : List ℕ) (headers : List HeaderLine) (told : Told) (stamp : List ℕ) (signed : SignedLines) (body text : List ℕ) → told ≡ hashed method body → is_hex_digest told.word ≡ true
    → AreLinesOf id secret region method target headers told stamp signed → text ≡ print_request (head_with method target signed.lines.items) ++ body → IsMessageOf (head_with method target signed.lines.items) body
    → HasOne (parts_of (head_with method target signed.lines.items)) (codes "authorization", signed.value.items) → IsVerifiedRequest id secret region method target headers body stamp text
request_verified id secret region method target headers told stamp signed body text same digest are written message own settings moment knows near plain =
    let sent = can_be_sent id secret region method target headers told stamp signed are body message own in
    let head = signed_head id secret region method target headers told stamp in
    subst (λ t. IsVerifiedMessage settings moment (proved_of secret region method target headers t stamp) body text) same
    (record {
      head = parts_of head;
      message = subst (λ t. IsMessage t (parts_of head) body []) (sym (text_made id secret region method target headers told stamp signed are body text written)) sent.message;
      verdict = sent_verified id secret region method target headers told stamp signed are body (or_left _ _ (or_left _ _ digest)) sent settings moment knows near plain;
      word = word_proved id secret region method target headers told stamp signed are body ∙ ap (λ (t : Told). t.word) same;
    })

-- the same said of another way to tell the body that is this one
pub lines_along : (id secret region method target : List ℕ) (headers : List HeaderLine) (told other : Told) (stamp : List ℕ) (r : Result SignedLines Unsigned) → told ≡ other → IfOk r (AreLinesOf id secret region method target headers told stamp) → IfOk r (AreLinesOf id secret region method target headers other stamp)
lines_along id secret region method target headers told other stamp r same are =
    subst (λ t. IfOk r (AreLinesOf id secret region method target headers t stamp)) same are
