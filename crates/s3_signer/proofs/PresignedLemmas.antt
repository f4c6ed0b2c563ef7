-- A presigned target, and the request that has it.
use Rattle.std.proofs.Common.{◌≡◌, ℕ, ◌≤◌, true, false, not, List, [], ◌∷◌, ◌++◌, map, length, codes, append_assoc, refl, sym, ap, ◌∙◌, arith, subst, ⊎_elim}
use Rattle.std.specs.Prelude.{◌&&◌, ◌==◌, nat_eq}
use Rattle.std.specs.Fmt.{decimal}
use Rattle.std.specs.List.{join_with_byte, starts_with}
use Rattle.std.specs.Char.{is_ascii_hexdigit}
use Rattle.std.proofs.lemmas.Bool.{and_from, and_parts, and_right, not_from_false, not-true, or_cases, or_left, or_right, false≢true}
use Rattle.std.proofs.lemmas.List.{length-append, length-map, map-append}
use Rattle.httparse.specs.Grammar.{RequestHead, print_request}
use Rattle.s3_text.proofs.SortingLemmas.{length-sorted_by}
use Rattle.s3_text.specs.Sorting.{sorted_by}
use Rattle.s3_http_heads.specs.Head.{parts_of}
use Rattle.s3_http_heads.specs.Message.{IsMessage}
use Rattle.s3_http_heads.specs.Target.{begins_with_digits, has_bad_escape, is_unreadable}
use Rattle.s3_signing.specs.Authorize.{credential_text}
use Rattle.s3_signing.specs.Names.{cover_of}
use Rattle.s3_signing.specs.Presigning.{PresignedIsVerified, Uses, presigned_signature}
use Rattle.s3_signer.specs.declared.line.Line.{Line}
use Rattle.s3_signer.specs.Line.{IsMessageOf, head_with, pairs}
use Rattle.s3_signer.specs.Presigned.{Asked, CanBePresigned, CanBeSentPresigned, IsReadyPresigned, IsVerifiedMessageOf, IsVerifiedTargetOf, head_at, head_to_sign, lines_of, names_of, parameter_text, presigned_head, query_mark, request_text_of, size_line, sized, target_text, target_to_sign, told_size}
use Rattle.s3_signer.specs.Request.{HeaderLine, ReadsBack, head_of, line_cmp, lower_line}
use Rattle.s3_signer.proofs.GrammarLemmas.{few_lines}

-- ---- what is written

-- a credential, piece by piece
pub joined_credential : (id date region service end : List ℕ) → ((((id ++ 47 ∷ []) ++ date) ++ 47 ∷ []) ++ region) ++ (47 ∷ (service ++ 47 ∷ end)) ≡ id ++ 47 ∷ join_with_byte 47 (date ∷ region ∷ service ∷ end ∷ [])
joined_credential id date region service end = simp append_assoc

five_parts : (target first second third fourth fifth : List ℕ) → ((((target ++ first) ++ second) ++ third) ++ fourth) ++ fifth ≡ target ++ (first ++ (second ++ (third ++ (fourth ++ fifth))))
five_parts target first second third fourth fifth = simp append_assoc

-- five parameters behind a target
pub joined_query : (target first second third fourth fifth : List ℕ) (mark : ℕ) → ((((target ++ mark ∷ first) ++ 38 ∷ second) ++ 38 ∷ third) ++ 38 ∷ fourth) ++ 38 ∷ fifth ≡ target ++ mark ∷ join_with_byte 38 (first ∷ second ∷ third ∷ fourth ∷ fifth ∷ [])
joined_query target first second third fourth fifth mark =
    five_parts target (mark ∷ first) (38 ∷ second) (38 ∷ third) (38 ∷ fourth) (38 ∷ fifth)

-- the target that is signed, one parameter after the other
pub target_made : (a : Asked) (names stamp : List ℕ) (mark : ℕ) (begun first second third fourth fifth : List ℕ) → names ≡ names_of a → stamp ≡ a.stamp → mark ≡ query_mark a.target → begun ≡ a.target
    → first ≡ begun ++ mark ∷ parameter_text (codes "X-Amz-Algorithm", codes "AWS4-HMAC-SHA256")
    → second ≡ first ++ 38 ∷ parameter_text (codes "X-Amz-Credential", credential_text a.id a.stamp a.region)
    → third ≡ second ++ 38 ∷ parameter_text (codes "X-Amz-Date", stamp)
    → fourth ≡ third ++ 38 ∷ parameter_text (codes "X-Amz-Expires", decimal a.expires)
    → fifth ≡ fourth ++ 38 ∷ parameter_text (codes "X-Amz-SignedHeaders", names)
    → fifth ≡ target_to_sign a
unfolding target_to_sign
target_made a names stamp mark begun first second third fourth fifth is_names is_stamp is_mark is_begun one two three four five =
    five
    ∙ ap (λ (n : List ℕ). fourth ++ 38 ∷ parameter_text (codes "X-Amz-SignedHeaders", n)) is_names
    ∙ ap (λ (t : List ℕ). t ++ 38 ∷ parameter_text (codes "X-Amz-SignedHeaders", names_of a))
    (four ∙ ap (λ (t : List ℕ). t ++ 38 ∷ parameter_text (codes "X-Amz-Expires", decimal a.expires))
    (three ∙ ap (λ (s : List ℕ). second ++ 38 ∷ parameter_text (codes "X-Amz-Date", s)) is_stamp
    ∙ ap (λ (t : List ℕ). t ++ 38 ∷ parameter_text (codes "X-Amz-Date", a.stamp))
    (two ∙ ap (λ (t : List ℕ). t ++ 38 ∷ parameter_text (codes "X-Amz-Credential", credential_text a.id a.stamp a.region))
    (one ∙ ap (λ (t : List ℕ). t ++ mark ∷ parameter_text (codes "X-Amz-Algorithm", codes "AWS4-HMAC-SHA256")) is_begun
    ∙ ap (λ (m : ℕ). a.target ++ m ∷ parameter_text (codes "X-Amz-Algorithm", codes "AWS4-HMAC-SHA256")) is_mark))))
    ∙ joined_query a.target (parameter_text (codes "X-Amz-Algorithm", codes "AWS4-HMAC-SHA256")) (parameter_text (codes "X-Amz-Credential", credential_text a.id a.stamp a.region)) (parameter_text (codes "X-Amz-Date", a.stamp)) (parameter_text (codes "X-Amz-Expires", decimal a.expires)) (parameter_text (codes "X-Amz-SignedHeaders", names_of a)) (query_mark a.target)

-- ---- lines

-- the given lines in front of others
pub given_before : (given more : List HeaderLine) → sorted_by line_cmp (map lower_line given ++ map lower_line more) ≡ lines_of (given ++ more)
given_before given more = ap (sorted_by line_cmp) (sym (map-append lower_line given more))

-- the head of such lines
pub same_head : (method target : List ℕ) (lines : List Line) (headers : List HeaderLine) → pairs lines ≡ lines_of headers → head_with method target lines ≡ head_at method target headers
same_head method target lines headers same = ap (head_of method target) same

-- the names that are signed are those of the lines, whichever target has them
pub same_cover : (method target other : List ℕ) (lines : List HeaderLine) → cover_of (parts_of (head_of method target lines)) ≡ cover_of (parts_of (head_of method other lines))
unfolding cover_of
same_cover method target other lines = refl

-- ---- a target that can't be read can't be with more behind an ampersand

none_first : (more : List ℕ) → begins_with_digits (38 ∷ more) ≡ false
none_first [] = refl
none_first (b ∷ more) = refl

none_before : (rest more : List ℕ) → begins_with_digits rest ≡ false → begins_with_digits (rest ++ 38 ∷ more) ≡ false
none_before [] more none = none_first more
none_before (high ∷ []) more none = and_right (is_ascii_hexdigit high) (is_ascii_hexdigit 38) refl
none_before (high ∷ low ∷ rest) more none = none

bad_before : (target more : List ℕ) → has_bad_escape target ≡ true → has_bad_escape (target ++ 38 ∷ more) ≡ true
unfolding has_bad_escape
bad_before [] more bad = absurd (false≢true bad)
bad_before (b ∷ rest) more bad =
    ⊎_elim
    (λ here.
    let both = and_parts (b == 37) (not (begins_with_digits rest)) here in
    or_left _ _ (and_from _ _ both.0 (not_from_false _ (none_before rest more (not-true (begins_with_digits rest) both.1)))))
    (λ behind. or_right (b == 37 && not (begins_with_digits (rest ++ 38 ∷ more))) _ (bad_before rest more behind))
    (or_cases (b == 37 && not (begins_with_digits rest)) (has_bad_escape rest) bad)

pub unreadable_before : (target more : List ℕ) → is_unreadable target ≡ true → is_unreadable (target ++ 38 ∷ more) ≡ true
unreadable_before [] more bad = refl
unreadable_before (b ∷ target) more bad =
    ⊎_elim
    (λ other. or_left _ _ other)
    (λ behind. or_right (not (starts_with nat_eq (b ∷ target) (47 ∷ []))) _ (bad_before (b ∷ target) more behind))
    (or_cases (not (starts_with nat_eq (b ∷ target) (47 ∷ []))) (has_bad_escape (b ∷ target)) bad)

-- the signature's parameter begins with one
behind_ampersand : (digits : List ℕ) → codes "&X-Amz-Signature=" ++ digits ≡ 38 ∷ (codes "X-Amz-Signature=" ++ digits)
behind_ampersand digits = refl

-- ---- what is asked for

module _ (a : Asked) where
  -- no more lines are given than a head may have
  pub few_given : CanBePresigned a → length a.headers ≤ 64
  few_given can =
      omega (arith, few_lines a.method (target_to_sign a) (lines_of a.headers) (print_request (head_to_sign a)) can.signed, length-sorted_by line_cmp (map lower_line a.headers), length-map a.headers lower_line)

  -- what stands behind the target that is signed
  abbrev digits : List ℕ
  digits = presigned_signature a.secret a.region (parts_of (head_to_sign a)) a.stamp

  text_is : target_text a ≡ target_to_sign a ++ 38 ∷ (codes "X-Amz-Signature=" ++ digits)
  unfolding target_text
  text_is =
      append_assoc (target_to_sign a) (codes "&X-Amz-Signature=") digits
      ∙ ap (λ (t : List ℕ). target_to_sign a ++ t) (behind_ampersand digits)

  -- the target that is signed can be read
  pub signed_readable : CanBePresigned a → is_unreadable (target_to_sign a) ≡ true → ⊥
  signed_readable can bad =
      let whole : is_unreadable (target_text a) ≡ true = ap is_unreadable text_is ∙ unreadable_before (target_to_sign a) (codes "X-Amz-Signature=" ++ digits) bad in
      false≢true (sym can.ready.says.readable ∙ whole)

  module _ (lines : List Line) (same : pairs lines ≡ lines_of a.headers) where
    -- the names of the lines are those that are asked for
    pub names_same : (names : List ℕ) → names ≡ cover_of (parts_of (head_with a.method a.target lines)) → names ≡ cover_of (parts_of (head_at a.method a.target a.headers))
    names_same names is = is ∙ ap (λ (h : RequestHead). cover_of (parts_of h)) (same_head a.method a.target lines a.headers same)

    -- what is read of the target that is signed
    pub reads_signed : (target : List ℕ) → target ≡ target_to_sign a → ReadsBack (head_with a.method target lines) → ReadsBack (head_to_sign a)
    reads_signed target is reads =
        subst ReadsBack (same_head a.method (target_to_sign a) lines a.headers same)
        (subst (λ t. ReadsBack (head_with a.method t lines)) is reads)

    pub reads_made : (target : List ℕ) → target ≡ target_to_sign a → ReadsBack (head_to_sign a) → ReadsBack (head_with a.method target lines)
    reads_made target is reads =
        subst (λ t. ReadsBack (head_with a.method t lines)) (sym is)
        (subst ReadsBack (sym (same_head a.method (target_to_sign a) lines a.headers same)) reads)

    -- the signature and the target behind which it stands
    pub signed_text : (text target digits : List ℕ) → target ≡ target_to_sign a → digits ≡ presigned_signature a.secret a.region (parts_of (head_with a.method target lines)) a.stamp → text ≡ target ++ codes "&X-Amz-Signature=" ++ digits → text ≡ target_text a
    unfolding target_text
    signed_text text target digits is by written =
        written ∙ ap (λ (t : List ℕ). t ++ codes "&X-Amz-Signature=" ++ digits) is
        ∙ ap (λ (d : List ℕ). target_to_sign a ++ codes "&X-Amz-Signature=" ++ d)
        (by ∙ ap (λ (t : List ℕ). presigned_signature a.secret a.region (parts_of (head_with a.method t lines)) a.stamp) is
        ∙ ap (λ (h : RequestHead). presigned_signature a.secret a.region (parts_of h) a.stamp) (same_head a.method (target_to_sign a) lines a.headers same))

    -- it can't be signed where its head isn't read, or can't be judged
    pub not_signed : (target : List ℕ) → target ≡ target_to_sign a → (ReadsBack (head_with a.method target lines) → is_unreadable target ≡ true) → ¬ (CanBePresigned a)
    not_signed target is refused can =
        signed_readable can (ap is_unreadable (sym is) ∙ refused (reads_made target is can.signed))

    module _ (target : List ℕ) (is : target ≡ target_text a) where
      made_is : head_with a.method target lines ≡ presigned_head a
      made_is = ap (λ t. head_with a.method t lines) is ∙ same_head a.method (target_text a) lines a.headers same

      pub can_be : ReadsBack (head_to_sign a) → length (print_request (head_with a.method target lines)) ≤ 16384 → ReadsBack (head_with a.method target lines) → IsReadyPresigned a (parts_of (head_with a.method target lines)) → CanBePresigned a
      can_be signed fits reads ready = record {
        signed = signed;
        short = subst (λ h. length (print_request h) ≤ 16384) made_is fits;
        written = subst ReadsBack made_is reads;
        ready = subst (λ h. IsReadyPresigned a (parts_of h)) made_is ready;
      }

      pub can_not : (length (print_request (head_with a.method target lines)) ≤ 16384 → ReadsBack (head_with a.method target lines) → ¬ (IsReadyPresigned a (parts_of (head_with a.method target lines)))) → ¬ (CanBePresigned a)
      can_not refused can =
          refused (subst (λ h. length (print_request h) ≤ 16384) (sym made_is) can.short) (subst ReadsBack (sym made_is) can.written)
          (subst (λ h. IsReadyPresigned a (parts_of h)) (sym made_is) can.ready)

  -- whoever uses what was presigned is verified
  pub target_verified : PresignedIsVerified → CanBePresigned a → (text : List ℕ) → text ≡ target_text a → IsVerifiedTargetOf a text
  target_verified law can text is =
      subst (λ t. IsVerifiedTargetOf a t) (sym is)
      (law a.id a.secret a.region (parts_of (presigned_head a)) a.stamp a.expires can.ready.says)

  -- a request, with a body, that was presigned
  module _ (body : List ℕ) (can : CanBePresigned (sized a body)) (message : IsMessageOf (presigned_head (sized a body)) body) where
    pub can_be_sent : CanBeSentPresigned a body
    can_be_sent = record { presigned = can; message = message }

    -- its head uses itself
    own_use : Uses (parts_of (presigned_head (sized a body))) (parts_of (presigned_head (sized a body)))
    own_use = record { method = refl; target = refl; lines = refl; sound = can.ready.says.sound }

    pub message_verified : PresignedIsVerified → (text : List ℕ) → text ≡ request_text_of a body → IsVerifiedMessageOf a body text
    message_verified law text is = record {
      head = parts_of (presigned_head (sized a body));
      message = subst (λ t. IsMessage t (parts_of (presigned_head (sized a body))) body []) (sym is) message;
      verified = law a.id a.secret a.region (parts_of (presigned_head (sized a body))) a.stamp a.expires can.ready.says (parts_of (presigned_head (sized a body))) own_use;
    }

-- no more lines are given for a request than a head may have
pub few_sized : (a : Asked) (body : List ℕ) → CanBePresigned (sized a body) → length a.headers ≤ 64
few_sized a body can =
    omega (arith, few_given (sized a body) can, length-append a.headers (size_line (told_size a.method body)))
