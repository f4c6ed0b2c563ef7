-- Verdicts on bodies are final, there is one for all bytes, and no second one.
use Rattle.std.proofs.Common.{◌≡◌, ℕ, ◌≤◌, Bool, true, false, List, ◌++◌, take, drop, length, refl, sym, ap, arith, ◌∙◌, subst, Option, inl, inr}
use Rattle.std.specs.Prelude.{nat_le, not}
use Rattle.std.proofs.lemmas.Bool.{cases_Bool}
use Rattle.std.proofs.lemmas.List.{length-take-le, take-append-drop, take_all}
use Rattle.s3_aws_chunked.specs.Body.{IsBody}
use Rattle.s3_aws_chunked.specs.Verdict.{Verdict, Accepted, Open, Refused, IsAccepted, Terms}
use Rattle.s3_aws_chunked.specs.Finality.{DecidesAs, IsDecided}
use Rattle.s3_aws_chunked.specs.Finality as chunked
use Rattle.s3_payloads.specs.declared.form.Digests.{Digests}
use Rattle.s3_payloads.specs.declared.form.Form.{Form}
use Rattle.s3_payloads.specs.declared.form.Form.TheVariants.{Whole, Chunks, TrailedChunks}
use Rattle.s3_payloads.specs.Form.{Announced, IsSentAsItIs}
use Rattle.s3_payloads.specs.Verdict.{JudgesForm, checked_data, decided_at, has_digests, has_hash, terms_of, trailed_terms, whole_verdict}
use Rattle.s3_payloads.specs.Trailed.{TrailedAreShort, TrailedAreWhole, TrailedEnd, TrailedStay, verdict_on}
use Rattle.s3_payloads.proofs.JudgeLemmas.{accepted_come, whole_come}
use Rattle.s3_payloads.proofs.WholeLemmas.{decided_never_open, nat_le-true, never_open}
use Rattle.s3_payloads.proofs.StandsLemmas.{refused_whole, verdict_stays}

whole_decided : (hash : Option (List ℕ)) (digests : Digests) (size : ℕ) (bytes : List ℕ) (verdict : Verdict) → verdict ≡ whole_verdict hash digests size false bytes
    → IsDecided verdict → size ≤ length bytes
whole_decided hash digests size bytes (Refused place code) is decided = refused_whole hash digests size place bytes code is
whole_decided hash digests size bytes (Accepted held) is decided = whole_come hash digests size false bytes held is
whole_decided hash digests size bytes (Open held) is decided = absurd decided

pub stay_form : chunked.VerdictsStay → TrailedStay → (form : Form) (announced : Announced) (bytes more : List ℕ) (ended : Bool) (verdict : Verdict)
    → JudgesForm form announced bytes false verdict → IsDecided verdict → JudgesForm form announced (bytes ++ more) ended verdict
stay_form law trails (Whole hash digests) announced bytes more ended verdict is decided =
    is ∙ sym (verdict_stays hash digests announced.length ended bytes more (whole_decided hash digests announced.length bytes verdict is decided))
stay_form law trails (Chunks decoded) announced bytes more ended verdict judged decided =
    law (terms_of announced decoded) bytes more ended verdict judged decided
stay_form law trails (TrailedChunks decoded algorithm signed) announced bytes more ended verdict is decided =
    is ∙ sym (trails algorithm (trailed_terms announced decoded algorithm signed) bytes more ended (subst IsDecided is decided))

same_decides : (verdict : Verdict) → DecidesAs verdict verdict
same_decides (Refused place code) = (refl, refl)
same_decides (Accepted held) = refl
same_decides (Open held) = tt

pub one_form : chunked.VerdictsAreOne → (form : Form) (announced : Announced) (bytes : List ℕ) (ended : Bool) (one other : Verdict)
    → JudgesForm form announced bytes ended one → JudgesForm form announced bytes ended other → DecidesAs one other
one_form law (Whole hash digests) announced bytes ended one other is also = subst (DecidesAs one) (is ∙ sym also) (same_decides one)
one_form law (Chunks decoded) announced bytes ended one other judged also =
    law (terms_of announced decoded) bytes ended one other judged also
one_form law (TrailedChunks decoded algorithm signed) announced bytes ended one other is also = subst (DecidesAs one) (is ∙ sym also) (same_decides one)

pub exist_form : chunked.VerdictsExist → (form : Form) (announced : Announced) (bytes : List ℕ) (ended : Bool)
    → (verdict : Verdict) × JudgesForm form announced bytes ended verdict
exist_form law (Whole hash digests) announced bytes ended = (whole_verdict hash digests announced.length ended bytes, refl)
exist_form law (Chunks decoded) announced bytes ended = law (terms_of announced decoded) bytes ended
exist_form law (TrailedChunks decoded algorithm signed) announced bytes ended =
    (verdict_on algorithm (trailed_terms announced decoded algorithm signed) bytes ended, refl)

-- ---- the end of the input decides

whole_ends : (hash : Option (List ℕ)) (digests : Digests) (size : ℕ) (bytes : List ℕ) (verdict : Verdict) → verdict ≡ whole_verdict hash digests size true bytes → IsDecided verdict
whole_ends hash digests size bytes (Refused place code) is = tt
whole_ends hash digests size bytes (Accepted held) is = tt
whole_ends hash digests size bytes (Open held) is = never_open hash digests size bytes held is

pub end_form : chunked.EndsDecide → TrailedEnd → (form : Form) (announced : Announced) (bytes : List ℕ) (verdict : Verdict)
    → JudgesForm form announced bytes true verdict → IsDecided verdict
end_form law trails (Whole hash digests) announced bytes verdict is = whole_ends hash digests announced.length bytes verdict is
end_form law trails (Chunks decoded) announced bytes verdict judged = law (terms_of announced decoded) bytes verdict judged
end_form law trails (TrailedChunks decoded algorithm signed) announced bytes verdict is =
    subst IsDecided (sym is) (trails algorithm (trailed_terms announced decoded algorithm signed) bytes)

-- ---- a body that is accepted is whole

-- nothing is open once all bytes of Content-Length have come
pub whole_open : (hash : Option (List ℕ)) (digests : Digests) (size : ℕ) (bytes held : List ℕ) → size ≤ length bytes → ¬ (Open held ≡ whole_verdict hash digests size false bytes)
unfolding whole_verdict
whole_open hash digests size bytes held come is =
    decided_never_open size (checked_data hash digests (take size bytes)) held (rw (nat_le-true size (length bytes) come) at is)

-- the bytes of Content-Length are accepted for themselves
accepted_front : (terms : Terms) (bytes held : List ℕ) → IsAccepted terms bytes held → IsAccepted terms (take terms.encoded bytes) held
accepted_front terms bytes held is =
    let size : length (take terms.encoded bytes) ≡ terms.encoded = length-take-le terms.encoded bytes is.come in
    let front : take terms.encoded (take terms.encoded bytes) ≡ take terms.encoded bytes = take_all terms.encoded (take terms.encoded bytes) (omega (arith, size)) in
    record {
      come = omega (arith, size);
      chunks = is.chunks;
      last = is.last;
      body = subst (λ (text : List ℕ). IsBody text is.chunks is.last) (sym front) is.body;
      signed = is.signed;
      sum = is.sum;
      joined = is.joined;
    }

-- where all bytes of a body have come, and it is accepted, these alone have decided
front_decides : TrailedAreShort → (form : Form) (announced : Announced) (bytes : List ℕ) (ended : Bool) (payload : List ℕ) (verdict : Verdict)
    → announced.length ≤ length bytes → JudgesForm form announced bytes ended (Accepted payload)
    → JudgesForm form announced (take announced.length bytes) false verdict → IsDecided verdict
front_decides trails form announced bytes ended payload (Refused place code) come accepted front = tt
front_decides trails form announced bytes ended payload (Accepted held) come accepted front = tt
front_decides trails (Whole hash digests) announced bytes ended payload (Open held) come accepted front =
    absurd (whole_open hash digests announced.length (take announced.length bytes) held (omega (arith, length-take-le announced.length bytes come)) front)
front_decides trails (Chunks decoded) announced bytes ended payload (Open held) come accepted front =
    absurd (front.1 payload (accepted_front (terms_of announced decoded) bytes payload accepted.1))
front_decides trails (TrailedChunks decoded algorithm signed) announced bytes ended payload (Open held) come accepted front =
    let short = trails algorithm (trailed_terms announced decoded algorithm signed) (take announced.length bytes) held front in
    absurd (omega (arith, short, length-take-le announced.length bytes come))

same_accepted : (verdict : Verdict) (payload : List ℕ) → DecidesAs verdict (Accepted payload) → verdict ≡ Accepted payload
same_accepted (Refused place code) payload same = absurd same
same_accepted (Accepted held) payload same = ap Accepted same
same_accepted (Open held) payload same = absurd same

pub accepted_whole : chunked.VerdictsStay → chunked.VerdictsAreOne → chunked.VerdictsExist → TrailedStay → TrailedAreShort → TrailedAreWhole
    → (announced : Announced) (bytes : List ℕ) (ended : Bool) (payload : List ℕ) → JudgesForm announced.form announced bytes ended (Accepted payload)
    → (announced.length ≤ length bytes) × JudgesForm announced.form announced (take announced.length bytes) false (Accepted payload)
accepted_whole stay one exist trails short whole announced bytes ended payload accepted =
    let form = announced.form in
    let size = announced.length in
    let come = accepted_come whole form announced bytes ended payload accepted in
    let front = exist_form exist form announced (take size bytes) false in
    let decided = front_decides short form announced bytes ended payload front.0 come accepted front.1 in
    let stays = stay_form stay trails form announced (take size bytes) (drop size bytes) ended front.0 front.1 decided in
    let again = subst (λ (all : List ℕ). JudgesForm form announced all ended front.0) (take-append-drop size bytes) stays in
    let same = same_accepted front.0 payload (one_form one form announced bytes ended front.0 (Accepted payload) again accepted) in
    (come, subst (λ (verdict : Verdict). JudgesForm form announced (take size bytes) false verdict) same front.1)

-- ---- the payload of a body that is sent as it is

decided_payload : (place : ℕ) (hash : Option (List ℕ)) (digests : Digests) (bytes payload : List ℕ)
    → Accepted payload ≡ decided_at place (checked_data hash digests bytes) → payload ≡ bytes
unfolding checked_data
decided_payload place hash digests bytes payload is = elim (cases_Bool (not (has_hash hash bytes))) [
  | inl wrong ↦ let refused = rw wrong at is in absurd (cc)
  | inr right ↦ elim (cases_Bool (not (has_digests digests bytes))) [
    | inl wrong ↦ let refused = rw (right, wrong) at is in absurd (cc)
    | inr fits ↦ let same = rw (right, fits) at is in cc
  ]
]

pub whole_payload : (form : Form) (announced : Announced) (body payload : List ℕ) (ended : Bool) → IsSentAsItIs form → length body ≡ announced.length
    → JudgesForm form announced body ended (Accepted payload) → payload ≡ body
unfolding whole_verdict
whole_payload (Chunks decoded) announced body payload ended sent size is = absurd sent
whole_payload (TrailedChunks decoded algorithm signed) announced body payload ended sent size is = absurd sent
whole_payload (Whole hash digests) announced body payload ended sent size is =
    let come : nat_le announced.length (length body) ≡ true = nat_le-true announced.length (length body) (omega (arith, size)) in
    decided_payload announced.length hash digests body payload (rw (come, take_all announced.length body (omega (arith, size))) at is)
