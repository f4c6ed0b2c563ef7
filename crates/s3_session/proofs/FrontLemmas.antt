-- A message whose head stands at the front of the bytes: what is decided about it, and what more bytes change.
use Rattle.std.proofs.Common.{◌≡◌, ℕ, suc, zero, ◌-◌, ◌≤◌, Bool, true, false, List, [], ◌∷◌, ◌++◌, take, drop, length, refl, sym, ap, subst, ◌∙◌, arith, inr, append_assoc, Result, Ok, Err}
use Rattle.std.specs.Prelude.{⊤}
use Rattle.std.proofs.lemmas.List.{take_at, drop_at}
use Rattle.s3_config.specs.Settings.{Settings}
use Rattle.s3_terms.specs.declared.code.Code.{Code}
use Rattle.s3_terms.specs.declared.code.Code.TheVariants.{IncompleteBody}
use Rattle.s3_http_heads.specs.Find.{found_in, skip_pairs}
use Rattle.s3_http_heads.specs.declared.find.Found.{Found}
use Rattle.s3_http_heads.specs.declared.find.Found.TheVariants as found
use Rattle.s3_http_heads.specs.Head.{HeadParts, Says}
use Rattle.s3_aws_chunked.specs.Verdict as bodies
use Rattle.s3_aws_chunked.specs.Reader.{said_at_end}
use Rattle.s3_framed_bodies.specs.Laws.{OpenBodiesEndIncomplete, ReadersJudge}
use Rattle.s3_framed_bodies.specs.Reader.{verdict_of}
use Rattle.s3_framed_bodies.specs.Verdict as framed
use Rattle.s3_session.specs.Verdict as verdicts
use Rattle.s3_session.specs.declared.incoming.Incoming.{Incoming}
use Rattle.s3_session.specs.Admission.{Asked, admission_of}
use Rattle.s3_session.specs.Decision.{Decision, Judges, AskedJudged, FoundJudged, HeadJudged, concluded, text_at, behind_text}
use Rattle.s3_session.specs.Incoming.{IsCut, IsInBody}
use Rattle.s3_session.specs.Invitation.{Invites, FoundInvites, invitation}
use Rattle.s3_session.proofs.StayLemmas.{HeadsStay, PairsStay}

-- so many of two lists, where the first is shorter
pub take_beyond : {X : Type 0} (xs ys : List X) (n : ℕ) → length xs ≤ n → take n (xs ++ ys) ≡ xs ++ take (n - length xs) ys
take_beyond [] ys n le = let here : n - 0 ≡ n = omega arith in ap (λ k. take k ys) (sym here)
take_beyond (x ∷ xs) ys zero le = absurd (omega (arith, le))
take_beyond (x ∷ xs) ys (suc n) le =
    let less : n - length xs ≡ suc n - suc (length xs) = omega arith in
    ap (λ l. x ∷ l) (take_beyond xs ys n (omega (arith, le)) ∙ ap (λ k. xs ++ take k ys) less)

-- these bytes begin with this head text, and have that behind it
pub record IsFront (rest text behind : List ℕ) : Type 0 where
  pub found : found_in rest ≡ found.Head (length text)
  pub joined : skip_pairs rest ≡ text ++ behind

pub front_more : HeadsStay → PairsStay → (rest text behind more : List ℕ) → IsFront rest text behind → IsFront (rest ++ more) text (behind ++ more)
front_more heads pairs rest text behind more f = record {
  found = heads rest more (length text) f.found;
  joined = pairs rest more (length text) f.found ∙ ap (λ l. l ++ more) f.joined ∙ append_assoc text behind more;
}

module _ (settings : Settings) (moment : ℕ) (ended : Bool) (rest text behind : List ℕ) (head : HeadParts) where
  -- what is decided about the head that the text says is decided about the message
  pub said_judged : IsFront rest text behind → Says text head → (d : Decision) → HeadJudged settings moment ended head behind d → Judges settings moment ended rest d
  unfolding Judges
  said_judged f says d judged =
      let here : text_at (length text) rest ≡ text = ap (take (length text)) f.joined ∙ take_at text behind (length text) refl in
      let there : behind_text (length text) rest ≡ behind = ap (drop (length text)) f.joined ∙ drop_at text behind (length text) refl in
      let says_there : Says (text_at (length text) rest) head = subst (λ (t : List ℕ). Says t head) (sym here) says in
      let judged_there : HeadJudged settings moment ended head (behind_text (length text) rest) d = subst (λ (b : List ℕ). HeadJudged settings moment ended head b d) (sym there) judged in
      subst (λ (f : Found). FoundJudged settings moment ended rest f d) (sym f.found) (inr (head, says_there, judged_there))

  -- where the head is admitted, that is what is known of its body
  pub body_judged : IsFront rest text behind → Says text head → (asked : Asked) → admission_of settings head moment ≡ Ok asked
      → (verdict : bodies.Verdict) → framed.Judges asked.announced behind ended verdict
      → Judges settings moment ended rest (concluded settings.dialect head moment asked behind verdict)
  body_judged f says asked admitted verdict judged =
      said_judged f says (concluded settings.dialect head moment asked behind verdict)
      (subst (λ (rule : Result Asked Code). AskedJudged settings.dialect head moment ended behind rule (concluded settings.dialect head moment asked behind verdict)) (sym admitted)
      (verdict, judged, refl))

  -- and this is written before the body is read
  pub said_invites : IsFront rest text behind → Says text head → Invites settings moment rest (invitation settings.dialect head (admission_of settings head moment))
  unfolding Invites
  said_invites f says =
      let here : text_at (length text) rest ≡ text = ap (take (length text)) f.joined ∙ take_at text behind (length text) refl in
      subst (λ (f : Found). FoundInvites settings moment rest f (invitation settings.dialect head (admission_of settings head moment))) (sym f.found)
      (inr (head, subst (λ (t : List ℕ). Says t head) (sym here) says, refl))

-- a message is refused where its bytes end inside its body
module _ (judge : ReadersJudge) (incomplete : OpenBodiesEndIncomplete) (settings : Settings) (incoming : Incoming) (rest : List ℕ) (h : IsInBody settings incoming rest) where
  refused_at_end : Judges settings incoming.context.moment true rest (verdicts.Refused IncompleteBody incoming.context.head_only, [])
  refused_at_end =
      let b = h.begun in
      let undecided = subst (λ (v : bodies.Verdict). framed.Judges b.asked.announced b.behind false v) h.undecided (judge incoming.admission.reader b.asked.announced b.behind false b.stands) in
      let cut = incomplete b.asked.announced b.behind h.held undecided in
      let known = body_judged settings incoming.context.moment true rest b.text b.behind b.head (record { found = b.found; joined = b.joined }) b.says b.asked b.admitted
      (bodies.Refused (length b.behind) IncompleteBody) cut in
      let is_so : concluded settings.dialect b.head incoming.context.moment b.asked b.behind (bodies.Refused (length b.behind) IncompleteBody) ≡ (verdicts.Refused IncompleteBody incoming.context.head_only, []) = rw b.context refl in
      subst (λ (d : Decision). Judges settings incoming.context.moment true rest d) is_so known

  pub cut_short : (result : Result ⊤ Code) → result ≡ said_at_end (verdict_of incoming.admission.reader) → IsCut settings incoming.context rest result
  cut_short result said =
      let is_so : result ≡ Err IncompleteBody = said ∙ ap said_at_end h.undecided in
      subst (IsCut settings incoming.context rest) (sym is_so) refused_at_end
