-- A message that is refused, and what stands behind it, count for nothing.
use Rattle.std.proofs.Common.{◌≡◌, ◌≢◌, ◌⊎◌, ℕ, Bool, true, false, List, [], ◌∷◌, ◌++◌, map, MatchBool, Option, Some, None, refl, sym, ap, subst, ◌∙◌, append-nil, inl, inr}
use Rattle.std.specs.List.{flat_map}
use Rattle.std.proofs.lemmas.Bool.{cases_Bool, MatchBool-at_true, MatchBool-at_false}
use Rattle.s3_config.specs.Settings.{Settings}
use Rattle.s3_terms.specs.declared.code.Code.{Code}
use Rattle.s3_http_heads.specs.Find.{found_in, skip_pairs, text_length}
use Rattle.s3_http_heads.specs.declared.find.Found.{Found}
use Rattle.s3_http_heads.specs.declared.find.Found.TheVariants as found
use Rattle.s3_http_heads.specs.Head.{HasNoHead, Says}
use Rattle.s3_machine.specs.declared.command.Command.{Command}
use Rattle.s3_machine.specs.declared.turn.Turn.{Turn}
use Rattle.s3_replies.specs.declared.context.Context.{Context}
use Rattle.s3_session.specs.Verdict as verdicts
use Rattle.s3_session.specs.Admission.{admission_of}
use Rattle.s3_session.specs.Decision.{Decision, FoundJudged, Judges, TextJudged, behind_text, open_yet, refused_message, text_at}
use Rattle.s3_session.specs.Fault.{FaultsEnd, RefusedIsNothing}
use Rattle.s3_session.specs.Invitation.{FoundInvites, Invites, invitation}
use Rattle.s3_session.specs.Laws.{InvitationsStay, OneInvitation, OneVerdict, VerdictsStay}
use Rattle.s3_session.specs.Walk.{Message, Walks}
use Rattle.s3_session.specs.Output.{Behind, Exchange, IsOpen, IsRefused, IsWaiting, Standing, Over, Waiting, is_dead, message_of, moment_once_found, written_for}
use Rattle.s3_session.proofs.EarlyLemmas.{sound_text}
use Rattle.s3_session.proofs.FaultLemmas.{agrees_first}
use Rattle.s3_session.proofs.OutputLemmas.{Agrees, standing_told, told}
use Rattle.s3_session.proofs.StandsLemmas.{refused_found}
use Rattle.s3_session.proofs.WalkLemmas.{text_found}

-- where a message is judged, there is a text that is written before its body is read
text_invites : (settings : Settings) (moment : ℕ) (ended : Bool) (text behind : List ℕ) (d : Decision) → (bytes : List ℕ) (n : ℕ) → text ≡ text_at n bytes
    → TextJudged settings moment ended text behind d → (written : List ℕ) × FoundInvites settings moment bytes (found.Head n) written
text_invites settings moment ended text behind d bytes n at (inl unreadable) = ([], inl (subst (λ (t : List ℕ). HasNoHead t) at unreadable.0, refl))
text_invites settings moment ended text behind d bytes n at (inr said) =
    (invitation settings.dialect said.0 (admission_of settings said.0 moment), inr (said.0, subst (λ (t : List ℕ). Says t said.0) at said.1, refl))

found_invites : (settings : Settings) (moment : ℕ) (ended : Bool) (bytes : List ℕ) (d : Decision) (f : Found)
    → FoundJudged settings moment ended bytes f d → (written : List ℕ) × FoundInvites settings moment bytes f written
found_invites settings moment ended bytes d found.NeedMore judged = ([], refl)
found_invites settings moment ended bytes d found.TooLarge judged = ([], refl)
found_invites settings moment ended bytes d (found.Head n) judged =
    text_invites settings moment ended (text_at n bytes) (behind_text n bytes) d bytes n refl judged

judged_invites : (settings : Settings) (moment : ℕ) (ended : Bool) (bytes : List ℕ) (d : Decision)
    → Judges settings moment ended bytes d → (written : List ℕ) × Invites settings moment bytes written
unfolding Judges Invites
judged_invites settings moment ended bytes d judged = found_invites settings moment ended bytes d (found_in bytes) judged

-- what was written with more bytes behind a head is written without them
invites_back : InvitationsStay → OneInvitation → (settings : Settings) (moment : ℕ) (bytes more text : List ℕ) (d : Decision)
    → Judges settings moment false bytes d → found_in bytes ≢ found.NeedMore → Invites settings moment (bytes ++ more) text → Invites settings moment bytes text
invites_back invited single settings moment bytes more text d judged decided invites =
    let here = judged_invites settings moment false bytes d judged in
    subst (Invites settings moment bytes) (single settings moment (bytes ++ more) here.0 text (invited settings moment bytes more here.0 decided here.1) invites) here.1

at_false : (P Q : Type 0) (b : Bool) → b ≡ false → Q → MatchBool b P Q
at_false P Q true is q = absurd (cc)
at_false P Q false is q = q

-- Some bytes were written for with more behind them, in which a message is refused behind some sound ones.
module _ (one : OneVerdict) (stay : VerdictsStay) (invited : InvitationsStay) (single : OneInvitation) (settings : Settings) (ended : Bool) (more : List ℕ)
    (p : Standing) (lives : is_dead p ≡ false) (code : Code) (head_only : Bool) (moment : ℕ) (given rest : List ℕ)
    (refused : Judges settings moment ended (rest ++ more) (refused_message code head_only))
    (left : Option (List ℕ)) (late later : List ℕ) (waiting : List Turn) (last : List ℕ) (behind : Behind p settings ended left late waiting last) where
  behind_at : (bytes : List ℕ) → left ≡ Some bytes → Behind p settings ended (Some bytes) late waiting last
  behind_at bytes is = subst (λ (l : Option (List ℕ)). Behind p settings ended l late waiting last) is behind

  -- how a connection stands by the verdict there
  stands_told : (bytes : List ℕ) (at : ℕ) (d : Decision) → left ≡ Some bytes → Agrees at late → Judges settings at ended bytes d → p ≡ standing_told d.0
  stands_told bytes at d is agrees judged =
      let t = told settings ended bytes late at waiting last p lives (behind_at bytes is) agrees in
      t.stands ∙ ap (λ (e : Decision). standing_told e.0) (one settings at ended bytes t.decision d t.judged judged)

  waits_before : (bytes after : List ℕ) (context : Context) (command : Command) → IsWaiting settings ended (bytes ++ more) late waiting last → Agrees context.moment late
      → Judges settings context.moment false bytes (verdicts.Sound context command, after) → IsWaiting settings false bytes late waiting last
  waits_before bytes after context command x agrees sound =
      let at : x.context.moment ≡ context.moment = subst (Agrees context.moment) x.asked agrees in
      let judged = subst (λ (k : ℕ). Judges settings k ended (bytes ++ more) (verdicts.Sound x.context x.command, x.after)) at x.judged in
      let still = stay settings context.moment ended bytes more (verdicts.Sound context command) after sound (λ is. absurd (cc)) in
      let same = ap (λ (d : Decision). d.0) (one settings context.moment ended (bytes ++ more) (verdicts.Sound context command, after ++ more) (verdicts.Sound x.context x.command, x.after) still judged) in
      let contexts : context ≡ x.context = cc in
      let commands : command ≡ x.command = cc in
      let here : Judges settings x.context.moment false bytes (verdicts.Sound x.context x.command, after) =
      subst (λ (c : Context). Judges settings c.moment false bytes (verdicts.Sound c x.command, after)) contexts
      (subst (λ (c : Command). Judges settings context.moment false bytes (verdicts.Sound context c, after)) commands sound) in
      record {
        context = x.context;
        command = x.command;
        after = after;
        asked = x.asked;
        one = x.one;
        judged = here;
        invites = invites_back invited single settings x.context.moment bytes more last (verdicts.Sound x.context x.command, after) here
            (text_found bytes (sound_text settings x.context.moment false bytes x.context x.command after here)) x.invites;
      }

  -- the messages that were answered stand in the front, and behind them one that waits, or the refused one
  Fronts : List Exchange → List ℕ → Type 0
  Fronts xs bytes =
      (few : Option (List ℕ))
      × Walks settings false bytes (map message_of xs) few
      × (((p ≡ Waiting) × Behind Waiting settings false few late waiting last)
      ⊎ ((p ≡ Over) × (few ≡ Some rest) × (left ≡ Some (rest ++ more)) × Agrees moment late))

  fronts : (ms : List Message) (xs : List Exchange) (bytes : List ℕ) → Walks settings false bytes ms (Some rest) → Walks settings ended (bytes ++ more) (map message_of xs) left
      → (map (λ (m : Message). m.context.moment) ms ++ moment ∷ []) ++ given ≡ (map (λ (x : Exchange). x.context.moment) xs ++ late) ++ later → Fronts xs bytes
  unfolding Fronts
  fronts [] [] bytes v w moments =
      let same : rest ≡ bytes = cc in
      let at : left ≡ Some (rest ++ more) = w ∙ ap (λ (b : List ℕ). Some (b ++ more)) (sym same) in
      let agrees = agrees_first moment given late later moments in
      (Some rest, ap (λ (b : List ℕ). Some b) same, inr (stands_told (rest ++ more) moment (refused_message code head_only) at agrees refused, refl, at, agrees))
  fronts [] (x ∷ xs) bytes v w moments =
      let same : rest ≡ bytes = cc in
      let at : x.context.moment ≡ moment = cc in
      let sound = subst (λ (k : ℕ). Judges settings k ended (bytes ++ more) (verdicts.Sound x.context x.command, w.0)) at w.1 in
      let here = subst (λ (b : List ℕ). Judges settings moment ended (b ++ more) (refused_message code head_only)) same refused in
      let decided = ap (λ (d : Decision). d.0) (one settings moment ended (bytes ++ more) (refused_message code head_only) (verdicts.Sound x.context x.command, w.0) here sound) in
      absurd (cc)
  fronts (m ∷ ms) [] bytes v w moments =
      let agrees = agrees_first m.context.moment ((map (λ (k : Message). k.context.moment) ms ++ moment ∷ []) ++ given) late later moments in
      let still = stay settings m.context.moment ended bytes more (verdicts.Sound m.context m.command) v.0 v.1 (λ is. absurd (cc)) in
      let waits = stands_told (bytes ++ more) m.context.moment (verdicts.Sound m.context m.command, v.0 ++ more) w agrees still in (
        Some bytes,
        refl,
        inl (
          waits,
          waits_before bytes v.0 m.context m.command
              (subst (λ (s : Standing). Behind s settings ended (Some (bytes ++ more)) late waiting last) waits (behind_at (bytes ++ more) w)) agrees v.1,
        ),
      )
  fronts (m ∷ ms) (x ∷ xs) bytes v w moments =
      let at : x.context.moment ≡ m.context.moment = cc in
      let judged = subst (λ (k : ℕ). Judges settings k ended (bytes ++ more) (verdicts.Sound x.context x.command, w.0)) at w.1 in
      let still = stay settings m.context.moment ended bytes more (verdicts.Sound m.context m.command) v.0 v.1 (λ is. absurd (cc)) in
      let both = one settings m.context.moment ended (bytes ++ more) (verdicts.Sound m.context m.command, v.0 ++ more) (verdicts.Sound x.context x.command, w.0) still judged in
      let same = ap (λ (d : Decision). d.0) both in
      let contexts : m.context ≡ x.context = cc in
      let commands : m.command ≡ x.command = cc in
      let rests : w.0 ≡ v.0 ++ more = sym (ap (λ (d : Decision). d.1) both) in
      let here : Judges settings x.context.moment false bytes (verdicts.Sound x.context x.command, v.0) =
      subst (λ (c : Context). Judges settings c.moment false bytes (verdicts.Sound c x.command, v.0)) contexts
      (subst (λ (c : Command). Judges settings m.context.moment false bytes (verdicts.Sound m.context c, v.0)) commands v.1) in
      let told_before = invites_back invited single settings x.context.moment bytes more x.invitation (verdicts.Sound x.context x.command, v.0) here
      (text_found bytes (sound_text settings x.context.moment false bytes x.context x.command v.0 here)) w.2 in
      let next = subst (λ (c : Context). MatchBool c.closes ((map message_of xs ≡ []) × (left ≡ None)) (Walks settings ended w.0 (map message_of xs) left)) (sym contexts) w.3 in
      elim (cases_Bool m.context.closes) [
        | inl closing ↦ let shut = (MatchBool-at_true _ _ closing v.3).1 in absurd (cc)
        | inr open_still ↦
            (let open_too : x.context.closes ≡ false = ap (λ (c : Context). c.closes) (sym contexts) ∙ open_still in
            let walk = subst (λ (r : List ℕ). Walks settings ended r (map message_of xs) left) rests (MatchBool-at_false _ _ open_still next) in
            let more_of = fronts ms xs v.0 (MatchBool-at_false _ _ open_still v.3) walk (cc) in
            (more_of.0, (v.0, here, told_before, at_false _ _ x.context.closes open_too more_of.1), more_of.2))
      ]

-- ---- nothing behind a message that is refused counts

module _ (one : OneVerdict) (stay : VerdictsStay) (invited : InvitationsStay) (single : OneInvitation) (settings : Settings) (ended : Bool) (more : List ℕ)
    (code : Code) (head_only : Bool) (moment : ℕ) (rest : List ℕ) (refused : Judges settings moment false rest (refused_message code head_only)) where
  -- the refused message with more behind it
  refused_still : Judges settings moment ended (rest ++ more) (refused_message code head_only)
  refused_still = stay settings moment ended rest more (verdicts.Refused code head_only) [] refused (λ is. absurd (cc))

  refused_before : (late : List ℕ) (waiting : List Turn) (last : List ℕ) → IsRefused settings ended (rest ++ more) late waiting last → Agrees moment late
      → IsRefused settings false rest late waiting last
  refused_before late waiting last x agrees =
      let at : x.moment ≡ moment = subst (Agrees moment) x.asked agrees in
      let judged = subst (λ (k : ℕ). Judges settings k ended (rest ++ more) (refused_message x.code x.head_only)) at x.judged in
      let same = one settings moment ended (rest ++ more) (refused_message code head_only) (refused_message x.code x.head_only) refused_still judged in
      let here = subst (λ (k : ℕ). Judges settings k false rest (refused_message x.code x.head_only)) (sym at)
      (subst (λ (d : Decision). Judges settings moment false rest d) same refused) in
      record {
        moment = x.moment;
        code = x.code;
        head_only = x.head_only;
        before = x.before;
        text = x.text;
        asked = x.asked;
        none = x.none;
        judged = here;
        invites = invites_back invited single settings x.moment rest more x.before (refused_message x.code x.head_only) here
            (refused_found settings x.moment false rest x.code x.head_only here) x.invites;
        printed = x.printed;
        joined = x.joined;
      }

  -- what stood behind the messages that were answered stands there without what follows
  stood : (p : Standing) (left few : Option (List ℕ)) (late : List ℕ) (waiting : List Turn) (last : List ℕ) → Behind p settings ended left late waiting last
      → ((p ≡ Waiting) × Behind Waiting settings false few late waiting last) ⊎ ((p ≡ Over) × (few ≡ Some rest) × (left ≡ Some (rest ++ more)) × Agrees moment late)
      → Behind p settings false few late waiting last
  stood p left few late waiting last behind (inl waits) = subst (λ (s : Standing). Behind s settings false few late waiting last) (sym waits.0) waits.1
  stood p left few late waiting last behind (inr over) =
      subst (λ (s : Standing). Behind s settings false few late waiting last) (sym over.0)
      (subst (λ (l : Option (List ℕ)). Behind Over settings false l late waiting last) (sym over.1)
      (refused_before late waiting last
      (subst (λ (s : Standing). Behind s settings ended (Some (rest ++ more)) late waiting last) over.0
      (subst (λ (l : Option (List ℕ)). Behind p settings ended l late waiting last) over.2 behind)) over.3))

pub faults_end : OneVerdict → VerdictsStay → InvitationsStay → OneInvitation → FaultsEnd
unfolding Fronts
faults_end one stay invited single settings standing past out bytes more moments number code f lives is front w =
    let s = w.serves in
    let walk = subst (λ (b : List ℕ). Walks settings past.ended b (map message_of s.exchanges) w.left) is s.walk in
    let still = refused_still one stay invited single settings past.ended more code f.head_only f.moment f.rest f.judged in
    let t = fronts one stay invited single settings past.ended more standing lives code f.head_only f.moment f.given.0 f.rest still
    w.left w.late front.0 w.waiting w.last w.behind f.messages s.exchanges bytes f.walk walk
    (f.given.1 ∙ sym front.1 ∙ ap (λ (ms : List ℕ). ms ++ front.0) s.moments) in
    record {
      left = t.0;
      late = w.late;
      waiting = w.waiting;
      last = w.last;
      serves = record { exchanges = s.exchanges; walk = t.1; replied = s.replied; moments = s.moments; turns = s.turns; answers = s.answers; joined = s.joined };
      behind = stood one stay invited single settings past.ended more code f.head_only f.moment f.rest f.judged standing w.left t.0 w.late w.waiting w.last w.behind t.2;
    }

-- ---- nor does that message

-- no turn waits behind a message that was refused
none_waits : (settings : Settings) (ended : Bool) (rest late : List ℕ) (waiting : List Turn) (last : List ℕ) (p : Standing) (left : Option (List ℕ))
    → Behind p settings ended left late waiting last → p ≡ Over → left ≡ Some rest → waiting ≡ []
none_waits settings ended rest late waiting last p left behind over at =
    (subst (λ (s : Standing). Behind s settings ended (Some rest) late waiting last) over
    (subst (λ (l : Option (List ℕ)). Behind p settings ended l late waiting last) at behind)).none

nothing_found : found_in [] ≡ found.NeedMore
unfolding found_in skip_pairs text_length
nothing_found = refl

nothing_judged : (settings : Settings) → Judges settings 0 false [] open_yet
unfolding Judges
nothing_judged settings = subst (λ (f : Found). FoundJudged settings 0 false [] f open_yet) (sym nothing_found) refl

nothing_invites : (settings : Settings) → Invites settings 0 [] []
unfolding Invites
nothing_invites settings = subst (λ (f : Found). FoundInvites settings 0 [] f []) (sym nothing_found) refl

nothing_open : (settings : Settings) (waiting : List Turn) → waiting ≡ [] → IsOpen settings false [] [] waiting []
nothing_open settings waiting none = record {
  moment = 0;
  asked = sym (ap (λ (f : Found). moment_once_found f 0) nothing_found);
  none = none;
  judged = nothing_judged settings;
  invites = nothing_invites settings;
}

pub refused_is_nothing : OneVerdict → VerdictsStay → InvitationsStay → OneInvitation → RefusedIsNothing
unfolding Fronts
refused_is_nothing one stay invited single settings standing past out bytes more moments r lives is front w =
    let s = w.serves in
    let walk = subst (λ (b : List ℕ). Walks settings past.ended b (map message_of s.exchanges) w.left) is s.walk in
    let t = fronts one stay invited single settings past.ended more standing lives r.code r.head_only r.moment r.given.0 [] r.refused
    w.left w.late front.0 w.waiting w.last w.behind r.messages s.exchanges bytes r.sound walk
    (r.given.1 ∙ sym front.1 ∙ ap (λ (ms : List ℕ). ms ++ front.0) s.moments) in
    elim t.2 [
      | inl waits ↦ inl (
        waits.0,
        record {
          left = t.0;
          late = w.late;
          waiting = w.waiting;
          last = w.last;
          serves = record { exchanges = s.exchanges; walk = t.1; replied = s.replied; moments = s.moments; turns = s.turns; answers = s.answers; joined = s.joined };
          behind = waits.1;
        },
      )
      | inr over ↦ inr (
        over.0,
        map (λ (x : Exchange). x.context.moment) s.exchanges,
        flat_map written_for s.exchanges,
        (w.late, sym s.moments),
        record {
          left = Some [];
          late = [];
          waiting = w.waiting;
          last = [];
          serves = record {
            exchanges = s.exchanges;
            walk = subst (λ (l : Option (List ℕ)). Walks settings false bytes (map message_of s.exchanges) l) over.1 t.1;
            replied = s.replied;
            moments = sym (append-nil (map (λ (x : Exchange). x.context.moment) s.exchanges));
            turns = s.turns;
            answers = s.answers;
            joined = sym (append-nil (flat_map written_for s.exchanges));
          };
          behind = nothing_open settings w.waiting (none_waits settings past.ended more w.late w.waiting w.last standing w.left w.behind over.0 over.2);
        },
      )
    ]
