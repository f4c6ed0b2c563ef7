-- How a connection stands after each call, by all that went through it.
use Rattle.std.proofs.Common.{◌≡◌, ◌≢◌, ℕ, ◌+◌, min, Bool, true, false, List, [], ◌∷◌, ◌++◌, length, map, take, drop, arith, refl, sym, ap, subst, ◌∙◌, inl, inr, append-nil, append_assoc, MatchBool, Option, Some, None, option_map}
use Rattle.std.specs.List.{AllByRecursion, flat_map}
use Rattle.std.proofs.lemmas.List.{length_push, map_push, flat_map_more, take-append-drop}
use Rattle.s3_config.specs.Settings.{Settings}
use Rattle.s3_terms.specs.declared.code.Code.{Code}
use Rattle.s3_http_heads.specs.Find.{found_in, skip_pairs, text_length}
use Rattle.s3_http_heads.specs.declared.find.Found.{Found}
use Rattle.s3_http_heads.specs.declared.find.Found.TheVariants as found
use Rattle.s3_http_heads.specs.Search as search
use Rattle.s3_aws_chunked.specs.Verdict as bodies
use Rattle.s3_framed_bodies.specs.Laws.{ReadersJudge}
use Rattle.s3_framed_bodies.specs.Verdict as framed
use Rattle.s3_machine.specs.declared.command.Answer.{Answer}
use Rattle.s3_replies.specs.declared.context.Context.{Context}
use Rattle.s3_replies.specs.Replies.{Prints, internal_error}
use Rattle.s3_session.specs.Verdict as verdicts
use Rattle.s3_session.specs.Decision.{Decision, Judges, FoundJudged}
use Rattle.s3_session.specs.Invitation.{Invites, FoundInvites}
use Rattle.s3_session.specs.Fault.{most_counted}
use Rattle.s3_session.specs.Walk.{Message, Walks}
use Rattle.s3_session.specs.Output.{Behind, Exchange, IsDead, IsRefused, IsReplied, IsWaiting, Past, Serves, Standing, Reading, Waiting, Over, Dead, message_of, nothing_yet, turn_of, written_for}
use Rattle.s3_session.specs.Laws.{InvitationsStay, OutputsStay, VerdictsStay}
use Rattle.s3_session.specs.Stands.{SessionsWrite, Here, HereOr, HoldsHead, IsCutTo, IsFed, IsReady, IsRefusedWith, Stands, StandsAt, is_in_body}
use Rattle.s3_machine.specs.declared.turn.Turn.{Turn}
use Rattle.s3_session.specs.declared.incoming.Incoming.{Incoming}
use Rattle.s3_session.specs.declared.session.Need.{Need}
use Rattle.s3_session.specs.declared.session.Stage.{Stage}
use Rattle.s3_session.specs.declared.session.Stage.TheVariants as stages
use Rattle.s3_session.specs.declared.session.Closing.TheVariants as closings
use Rattle.s3_session.specs.Incoming.{IsInBody}
use Rattle.s3_session.specs.Session.{Connection, IsLonger, KeepsHead, added, fed, moment_at, moment_if, refused_at, standing_at, standing_of, turns_of, unsent_of}
use Rattle.s3_session.specs.Verified.{IsNoted, is_admitted}
use Rattle.s3_session.proofs.HeldLemmas.{held_here, held_on, left_still}
use Rattle.s3_session.proofs.NotedLemmas.{dead_lives_not, dies_at, none_noted, noted_on, without_moment}
use Rattle.s3_session.proofs.StayLemmas.{HeadsStay}
use Rattle.s3_session.proofs.EarlyLemmas.{sound_text}
use Rattle.s3_session.proofs.FrontLemmas.{body_judged}
use Rattle.s3_session.proofs.WalkLemmas.{text_found, walks_on, walks_push}

-- ---- what stands behind the answered messages

pub nothing_found : (settings : Settings) (moment : ℕ) (ended : Bool) (rest last : List ℕ) → found_in rest ≡ found.NeedMore → last ≡ []
    → Judges settings moment ended rest (verdicts.Open, []) × Invites settings moment rest last
unfolding Judges Invites
nothing_found settings moment ended rest last is nothing = (
  subst (λ (f : Found). FoundJudged settings moment ended rest f (verdicts.Open, [])) (sym is) refl,
  subst (λ (f : Found). FoundInvites settings moment rest f last) (sym is) nothing,
)

module _ (judge : ReadersJudge) (settings : Settings) (session : Connection) (ended : Bool) (waiting : List Turn) (last : List ℕ) where
  here_behind : (stage : Stage) (rest : List ℕ) → StandsAt stage settings session ended rest waiting last
      → Behind (standing_at stage) settings ended (Some rest) (moment_at stage) waiting last
  here_behind stages.Reading rest h =
      let told = nothing_found settings 0 ended rest last h.found h.nothing in
      record { moment = 0; asked = rw h.found refl; none = h.none; judged = told.0; invites = told.1 }
  here_behind (stages.Body incoming) rest h =
      let b = h.body.begun in
      let moment = incoming.context.moment in
      let undecided = subst (λ (v : bodies.Verdict). framed.Judges b.asked.announced b.behind false v) h.body.undecided (judge incoming.admission.reader b.asked.announced b.behind false b.stands) in
      let judged = body_judged settings moment false rest b.text b.behind b.head (record { found = b.found; joined = b.joined }) b.says b.asked b.admitted (bodies.Open h.body.held) undecided in
      record {
        moment = moment;
        asked = rw b.found refl;
        none = h.none;
        judged = subst (λ e. Judges settings moment e rest (verdicts.Open, [])) (sym h.goes_on) judged;
        invites = h.invites;
      }
  here_behind (stages.Waiting context) rest h =
      record { context = context; command = h.command; after = []; asked = refl; one = h.one; judged = h.judged; invites = h.invites }
  here_behind (stages.Closed closings.Replied) rest h = absurd h
  here_behind (stages.Closed (closings.Refused moment code)) rest h = h.0
  here_behind (stages.Closed (closings.Died moment)) rest h = h

  pub stands_behind : (left : Option (List ℕ)) → HereOr settings session ended left waiting last
      → Behind (standing_of session) settings ended left (moment_at session.stage) waiting last
  stands_behind (Some rest) h = here_behind session.stage rest h
  stands_behind None (closed, none, nothing) = rw closed (refl, none, nothing)

pub sessions_write : ReadersJudge → SessionsWrite
sessions_write judge session settings past sent h = record {
  left = h.left;
  late = moment_at session.stage;
  waiting = h.waiting;
  last = h.last;
  serves = h.serves;
  behind = stands_behind judge settings session past.ended h.waiting h.last h.left h.here;
}

-- a message is refused only where something was found
pub refused_found : (settings : Settings) (moment : ℕ) (ended : Bool) (rest : List ℕ) (code : Code) (head_only : Bool)
    → Judges settings moment ended rest (verdicts.Refused code head_only, []) → found_in rest ≢ found.NeedMore
unfolding Judges
refused_found settings moment ended rest code head_only judged none =
    let undecided = subst (λ (f : Found). FoundJudged settings moment ended rest f (verdicts.Refused code head_only, [])) none judged in
    let same = ap (λ (d : Decision). d.0) undecided in
    absurd (cc)

-- ---- more bytes, or their end

module _ (stay : VerdictsStay) (invited : InvitationsStay) (settings : Settings) (ended : Bool) (more : List ℕ) where
  pub walk_more : (past : Past) (messages : List Message) (left : Option (List ℕ)) → past.ended ≡ false → Walks settings past.ended past.bytes messages left
      → Walks settings ended (past.bytes ++ more) messages (option_map (λ (rest : List ℕ). rest ++ more) left)
  walk_more past messages left unended walk =
      walks_on stay invited settings ended past.bytes more messages left (subst (λ e. Walks settings e past.bytes messages left) unended walk)

  pub serves_more : (past : Past) (out : List ℕ) (left : Option (List ℕ)) (late : List ℕ) (waiting : List Turn) (last : List ℕ) → past.ended ≡ false
      → Serves settings past out left late waiting last
      → Serves settings (record past { bytes = past.bytes ++ more; ended = ended }) out (option_map (λ (rest : List ℕ). rest ++ more) left) late waiting last
  serves_more past out left late waiting last unended s =
      record {
        exchanges = s.exchanges;
        walk = walk_more past (map message_of s.exchanges) left unended s.walk;
        replied = s.replied;
        moments = s.moments;
        turns = s.turns;
        answers = s.answers;
        joined = s.joined;
      }

  pub waiting_more : (rest late : List ℕ) (waiting : List Turn) (last : List ℕ) → IsWaiting settings false rest late waiting last → IsWaiting settings ended (rest ++ more) late waiting last
  waiting_more rest late waiting last w = record {
    context = w.context;
    command = w.command;
    after = w.after ++ more;
    asked = w.asked;
    one = w.one;
    judged = stay settings w.context.moment ended rest more (verdicts.Sound w.context w.command) w.after w.judged (λ is. absurd (cc));
    invites = invited settings w.context.moment rest more last (text_found rest (sound_text settings w.context.moment false rest w.context w.command w.after w.judged)) w.invites;
  }

  pub refused_more : (rest late : List ℕ) (waiting : List Turn) (last : List ℕ) → IsRefused settings false rest late waiting last → IsRefused settings ended (rest ++ more) late waiting last
  refused_more rest late waiting last r = record {
    moment = r.moment;
    code = r.code;
    head_only = r.head_only;
    before = r.before;
    text = r.text;
    asked = r.asked;
    none = r.none;
    judged = stay settings r.moment ended rest more (verdicts.Refused r.code r.head_only) [] r.judged (λ is. absurd (cc));
    invites = invited settings r.moment rest more r.before (refused_found settings r.moment false rest r.code r.head_only r.judged) r.invites;
    printed = r.printed;
    joined = r.joined;
  }

  pub dead_more : (heads : HeadsStay) (rest late : List ℕ) (waiting : List Turn) (last : List ℕ) → IsDead settings false rest late waiting last → IsDead settings ended (rest ++ more) late waiting last
  dead_more heads rest late waiting last d = record {
    moment = d.moment;
    before = d.before;
    asked = d.asked;
    turn = elim d.turn [ inl none ↦ inl none | inr one ↦ inr (waiting_more rest late waiting d.before one) ];
    whole = record { size = d.whole.size; found = heads rest more d.whole.size d.whole.found };
    invites = elim d.invites [ inl none ↦ inl none | inr told ↦ inr (invited settings d.moment rest more d.before (text_found rest d.whole) told) ];
    joined = d.joined;
  }

-- where a command waits or no more is read, more bytes and their end change nothing
pub behind_stays : VerdictsStay → InvitationsStay → HeadsStay → (settings : Settings) (more : List ℕ) (ended : Bool) (standing : Standing) (left : Option (List ℕ)) (late : List ℕ) (waiting : List Turn) (last : List ℕ)
    → standing ≢ Reading → Behind standing settings false left late waiting last
    → Behind standing settings ended (option_map (λ (rest : List ℕ). rest ++ more) left) late waiting last
behind_stays stay invited heads settings more ended Reading left late waiting last over b = absurd (over refl)
behind_stays stay invited heads settings more ended Waiting None late waiting last over b = absurd b
behind_stays stay invited heads settings more ended Waiting (Some rest) late waiting last over b = waiting_more stay invited settings ended more rest late waiting last b
behind_stays stay invited heads settings more ended Over None late waiting last over b = b
behind_stays stay invited heads settings more ended Over (Some rest) late waiting last over b = refused_more stay invited settings ended more rest late waiting last b
behind_stays stay invited heads settings more ended Dead None late waiting last over b = absurd b
behind_stays stay invited heads settings more ended Dead (Some rest) late waiting last over b = dead_more stay invited settings ended more heads rest late waiting last b

pub writes_stay : VerdictsStay → InvitationsStay → HeadsStay → OutputsStay
writes_stay stay invited heads settings standing past out more ended over unended w = record {
  left = option_map (λ (rest : List ℕ). rest ++ more) w.left;
  late = w.late;
  waiting = w.waiting;
  last = w.last;
  serves = serves_more stay invited settings ended more past out w.left w.late w.waiting w.last unended w.serves;
  behind = behind_stays stay invited heads settings more ended standing w.left w.late w.waiting w.last over
      (subst (λ e. Behind standing settings e w.left w.late w.waiting w.last) unended w.behind);
}

-- ---- a piece

-- the moments that it has behind those that it had
abbrev pub gave_between : Connection → Connection → List ℕ
gave_between old new = added (moment_at old.stage) (moment_at new.stage)

pub gave_reading : (old new : Connection) (has : Bool) (now : ℕ) → old.stage ≡ stages.Reading → moment_at new.stage ≡ moment_if has now
    → gave_between old new ≡ moment_if has now
gave_reading old new has now at moment = rw at moment

pub gave_receiving : (old new : Connection) (incoming : Incoming) → old.stage ≡ stages.Body incoming → moment_at new.stage ≡ incoming.context.moment ∷ []
    → gave_between old new ≡ []
gave_receiving old new incoming at moment = rw (at, moment) refl

module _ (stay : VerdictsStay) (invited : InvitationsStay) (settings : Settings) (old new : Connection) (past : Past) (sent piece : List ℕ) (taken : ℕ) (need : Need)
    (unended : past.ended ≡ false) (longer : IsLonger (unsent_of old) (unsent_of new))
    (later : moment_at new.stage ≡ moment_at old.stage ++ gave_between old new) (end : new.is_ended ≡ false) (count : new.answered ≡ old.answered)
    (counted : old.answered ≡ min (length past.answers) most_counted) (noted : IsNoted settings new) where
  fed_by : (left : Option (List ℕ)) (rest : List ℕ) (waiting : List Turn) (last : List ℕ) → left ≡ Some rest → waiting ≡ []
      → Serves settings past (sent ++ unsent_of old) left (moment_at old.stage) waiting last
      → IsFed settings old new rest last piece taken need
      → (moment_at new.stage ≢ [] → HoldsHead new (rest ++ take taken piece))
      → Stands new settings (fed past (take taken piece) (gave_between old new) (turns_of need)) sent
  fed_by left rest waiting last is none s f head =
      let bytes = take taken piece in
      let moved = walk_more stay invited settings false bytes past (map message_of s.exchanges) left unended s.walk in
      let behind : option_map (λ (r : List ℕ). r ++ bytes) left ≡ Some (rest ++ bytes) = ap (option_map (λ (r : List ℕ). r ++ bytes)) is in
      let walk = subst (λ (l : Option (List ℕ)). Walks settings false (past.bytes ++ bytes) (map message_of s.exchanges) l) behind moved in
      record {
        left = Some (rest ++ bytes);
        waiting = turns_of need;
        last = last ++ added (unsent_of old) (unsent_of new);
        serves = record {
          exchanges = s.exchanges;
          walk = subst (λ e. Walks settings e (past.bytes ++ bytes) (map message_of s.exchanges) (Some (rest ++ bytes))) (sym unended) walk;
          replied = s.replied;
          moments = ap (λ (ms : List ℕ). ms ++ gave_between old new) s.moments
              ∙ append_assoc (map (λ (x : Exchange). x.context.moment) s.exchanges) (moment_at old.stage) (gave_between old new)
              ∙ ap (λ (ms : List ℕ). map (λ (x : Exchange). x.context.moment) s.exchanges ++ ms) (sym later);
          turns = ap (λ (ts : List Turn). ts ++ turns_of need) (s.turns ∙ ap (λ (ts : List Turn). map turn_of s.exchanges ++ ts) none ∙ append-nil (map turn_of s.exchanges));
          answers = s.answers;
          joined = ap (λ (u : List ℕ). sent ++ u) longer ∙ sym (append_assoc sent (unsent_of old) (added (unsent_of old) (unsent_of new)))
              ∙ ap (λ (o : List ℕ). o ++ added (unsent_of old) (unsent_of new)) s.joined
              ∙ append_assoc (flat_map written_for s.exchanges) last (added (unsent_of old) (unsent_of new));
        };
        here = subst (λ e. Here settings new e (rest ++ bytes) (turns_of need) (last ++ added (unsent_of old) (unsent_of new))) (sym unended) f.here;
        end = unended ∙ sym end;
        counted = count ∙ counted;
        noted = noted;
        head = held_here new (rest ++ bytes) head;
      }

-- ---- what a call finds

-- no head has come
pub reading_at : (settings : Settings) (session : Connection) (ended : Bool) (left : Option (List ℕ)) (waiting : List Turn) (last : List ℕ)
    → session.stage ≡ stages.Reading → HereOr settings session ended left waiting last
    → (rest : List ℕ) × (left ≡ Some rest) × StandsAt stages.Reading settings session ended rest waiting last
reading_at settings session ended (Some rest) waiting last at h = (rest, refl, subst (λ (s : Stage). StandsAt s settings session ended rest waiting last) at h)
reading_at settings session ended None waiting last at h = let same = sym at ∙ h.0 in absurd (cc)

-- a body is being read
pub receiving_at : (settings : Settings) (session : Connection) (ended : Bool) (incoming : Incoming) (left : Option (List ℕ)) (waiting : List Turn) (last : List ℕ)
    → session.stage ≡ stages.Body incoming → HereOr settings session ended left waiting last
    → (rest : List ℕ) × (left ≡ Some rest) × StandsAt (stages.Body incoming) settings session ended rest waiting last
receiving_at settings session ended incoming (Some rest) waiting last at h = (rest, refl, subst (λ (s : Stage). StandsAt s settings session ended rest waiting last) at h)
receiving_at settings session ended incoming None waiting last at h = let same = sym at ∙ h.0 in absurd (cc)

-- a command waits
pub asking_at : (settings : Settings) (session : Connection) (ended : Bool) (context : Context) (left : Option (List ℕ)) (waiting : List Turn) (last : List ℕ)
    → session.stage ≡ stages.Waiting context → HereOr settings session ended left waiting last
    → (rest : List ℕ) × (left ≡ Some rest) × StandsAt (stages.Waiting context) settings session ended rest waiting last
asking_at settings session ended context (Some rest) waiting last at h = (rest, refl, subst (λ (s : Stage). StandsAt s settings session ended rest waiting last) at h)
asking_at settings session ended context None waiting last at h = let same = sym at ∙ h.0 in absurd (cc)

-- ---- an answer

empty_found : found_in [] ≡ found.NeedMore
unfolding found_in skip_pairs text_length
empty_found = refl

replied_on : (exchanges : List Exchange) (x : Exchange) → AllByRecursion IsReplied exchanges → IsReplied x → AllByRecursion IsReplied (exchanges ++ x ∷ [])
replied_on [] x all last = (last, tt)
replied_on (first ∷ exchanges) x all last = (all.0, replied_on exchanges x all.1 last)

module _ (settings : Settings) (old new : Connection) (past : Past) (sent : List ℕ) (context : Context) (h : Stands old settings past sent)
    (at : old.stage ≡ stages.Waiting context) (end : new.is_ended ≡ old.is_ended) where
  asking : (rest : List ℕ) × (h.left ≡ Some rest) × StandsAt (stages.Waiting context) settings old past.ended rest h.waiting h.last
  asking = asking_at settings old past.ended context h.left h.waiting h.last at h.here

  -- the moment of the message
  late_is : moment_at old.stage ≡ context.moment ∷ []
  late_is = rw at refl

  module _ (answer : Answer) (printed : Prints answer context (added (unsent_of old) (unsent_of new))) (longer : IsLonger (unsent_of old) (unsent_of new)) where
    exchange : Exchange
    exchange = record { context = context; command = asking.2.command; invitation = h.last; answer = answer; reply = added (unsent_of old) (unsent_of new) }

    -- the message was answered, and this is left
    serves_answer : (left : Option (List ℕ)) (late : List ℕ) → late ≡ []
        → MatchBool context.closes ((◌≡◌ {A = List Message} [] []) × (left ≡ None)) (left ≡ Some [])
        → Serves settings (record past { answers = past.answers ++ answer ∷ [] }) (sent ++ unsent_of new) left late [] []
    unfolding exchange asking
    serves_answer left late none behind =
        let s = h.serves in
        let x = exchange in
        let a = asking in
        let walk = subst (λ (l : Option (List ℕ)). Walks settings past.ended past.bytes (map message_of s.exchanges) l) a.1 s.walk in
        record {
          exchanges = s.exchanges ++ x ∷ [];
          walk = subst (λ (ms : List Message). Walks settings past.ended past.bytes ms left) (sym (map_push message_of s.exchanges x))
              (walks_push settings past.ended past.bytes a.0 (map message_of s.exchanges) (message_of x ∷ []) left walk ([], a.2.judged, a.2.invites, behind));
          replied = replied_on s.exchanges x s.replied printed;
          moments = s.moments ∙ ap (λ (ms : List ℕ). map (λ (y : Exchange). y.context.moment) s.exchanges ++ ms) late_is
              ∙ sym (map_push (λ (y : Exchange). y.context.moment) s.exchanges x)
              ∙ sym (append-nil (map (λ (y : Exchange). y.context.moment) (s.exchanges ++ x ∷ [])))
              ∙ ap (λ (ms : List ℕ). map (λ (y : Exchange). y.context.moment) (s.exchanges ++ x ∷ []) ++ ms) (sym none);
          turns = s.turns ∙ ap (λ (ts : List Turn). map turn_of s.exchanges ++ ts) a.2.one
              ∙ sym (map_push turn_of s.exchanges x) ∙ sym (append-nil (map turn_of (s.exchanges ++ x ∷ [])));
          answers = ap (λ (answers : List Answer). answers ++ answer ∷ []) s.answers ∙ sym (map_push (λ (y : Exchange). y.answer) s.exchanges x);
          joined = ap (λ (u : List ℕ). sent ++ u) longer ∙ sym (append_assoc sent (unsent_of old) (added (unsent_of old) (unsent_of new)))
              ∙ ap (λ (o : List ℕ). o ++ added (unsent_of old) (unsent_of new)) s.joined
              ∙ append_assoc (flat_map written_for s.exchanges) h.last (added (unsent_of old) (unsent_of new))
              ∙ flat_map_more written_for [] s.exchanges x ∙ sym (append-nil (flat_map written_for (s.exchanges ++ x ∷ [])));
        }

    -- it is one more that was answered
    counts : new.answered ≡ min (old.answered + 1) most_counted → new.answered ≡ min (length (past.answers ++ answer ∷ [])) most_counted
    counts count =
        let before = h.counted in
        let more = length_push past.answers answer in
        omega (arith, count, before, more)

    pub stands_replied : (closes : Bool) → context.closes ≡ closes → IsReady closes new → new.is_verified ≡ false
        → new.answered ≡ min (old.answered + 1) most_counted
        → Stands new settings (record past { answers = past.answers ++ answer ∷ [] }) sent
    stands_replied true closing ready none count = record {
      left = None;
      waiting = [];
      last = [];
      serves = serves_answer None (moment_at new.stage) (rw ready refl) (rw closing (refl, refl));
      here = (ready, refl, refl);
      end = h.end ∙ sym end;
      counted = counts count;
      noted = none_noted settings new none (ap is_admitted ready) (without_moment settings new (ap moment_at ready));
      head = λ _ _ given. absurd (given (ap moment_at ready));
    }
    stands_replied false staying ready none count = record {
      left = Some [];
      waiting = [];
      last = [];
      serves = serves_answer (Some []) (moment_at new.stage) (rw ready.0 refl) (rw staying refl);
      here = subst (λ (s : Stage). StandsAt s settings new past.ended [] [] []) (sym ready.0)
          (record { searched = λ _. ready.1; found = empty_found; none = refl; nothing = refl });
      end = h.end ∙ sym end;
      counted = counts count;
      noted = none_noted settings new none (ap is_admitted ready.0) (without_moment settings new (ap moment_at ready.0));
      head = λ _ _ given. absurd (given (ap moment_at ready.0));
    }

  -- memory ran out at its turn
  pub stands_died : new.stage ≡ stages.Closed (closings.Died context.moment) → unsent_of new ≡ unsent_of old ++ internal_error → new.answered ≡ old.answered
      → KeepsHead old new → Stands new settings past sent
  unfolding asking
  stands_died stage written count keeps =
      let s = h.serves in
      let a = asking in
      let dead : IsDead settings past.ended a.0 (context.moment ∷ []) h.waiting (h.last ++ internal_error) = record {
        moment = context.moment;
        before = h.last;
        asked = refl;
        turn = inr (record { context = context; command = a.2.command; after = []; asked = refl; one = a.2.one; judged = a.2.judged; invites = a.2.invites });
        whole = sound_text settings context.moment past.ended a.0 context a.2.command [] a.2.judged;
        invites = inr a.2.invites;
        joined = refl;
      } in
      let here = subst (λ (g : Stage). StandsAt g settings new past.ended a.0 h.waiting (h.last ++ internal_error)) (sym stage) dead in
      record {
        left = h.left;
        waiting = h.waiting;
        last = h.last ++ internal_error;
        serves = record {
          exchanges = s.exchanges;
          walk = s.walk;
          replied = s.replied;
          moments = s.moments ∙ ap (λ (ms : List ℕ). map (λ (y : Exchange). y.context.moment) s.exchanges ++ ms) (late_is ∙ sym (ap moment_at stage));
          turns = s.turns;
          answers = s.answers;
          joined = ap (λ (u : List ℕ). sent ++ u) written ∙ sym (append_assoc sent (unsent_of old) internal_error)
              ∙ ap (λ (o : List ℕ). o ++ internal_error) s.joined ∙ append_assoc (flat_map written_for s.exchanges) h.last internal_error;
        };
        here = subst (λ (l : Option (List ℕ)). HereOr settings new past.ended l h.waiting (h.last ++ internal_error)) (sym a.1) here;
        end = h.end ∙ sym end;
        counted = count ∙ h.counted;
        noted = noted_on settings old new keeps (ap moment_at stage ∙ sym late_is) (λ is. (let same = sym is ∙ ap is_admitted stage in absurd (cc)))
            (dead_lives_not new.stage context.moment stage) (λ _. ap refused_at at) h.noted;
        head = left_still old new keeps.0 (dead_lives_not new.stage context.moment stage) (λ _. ap refused_at at) h.left (ap moment_at stage ∙ sym late_is) h.head;
      }

-- ---- what is sent

module _ (settings : Settings) (old new : Connection) (ended : Bool) (stage_same : new.stage ≡ old.stage) (search_same : new.search ≡ old.search) (waiting : List Turn) (last : List ℕ) where
  here_at : (stage : Stage) (rest : List ℕ) → StandsAt stage settings old ended rest waiting last → StandsAt stage settings new ended rest waiting last
  here_at stages.Reading rest h = record { searched = λ goes_on. subst (λ s. search.Stands s rest) (sym search_same) (h.searched goes_on); found = h.found; none = h.none; nothing = h.nothing }
  here_at (stages.Body incoming) rest h = record { goes_on = h.goes_on; body = h.body; invites = h.invites; none = h.none }
  here_at (stages.Waiting context) rest h = record { command = h.command; one = h.one; judged = h.judged; invites = h.invites }
  here_at (stages.Closed closings.Replied) rest h = h
  here_at (stages.Closed (closings.Refused moment code)) rest h = h
  here_at (stages.Closed (closings.Died moment)) rest h = h

  here_left : (left : Option (List ℕ)) → HereOr settings old ended left waiting last → HereOr settings new ended left waiting last
  here_left (Some rest) h = subst (λ (g : Stage). StandsAt g settings new ended rest waiting last) (sym stage_same) (here_at old.stage rest h)
  here_left None h = (stage_same ∙ h.0, h.1, h.2)

pub stands_sent : (settings : Settings) (old new : Connection) (past : Past) (sent : List ℕ) (count : ℕ) → new.stage ≡ old.stage → new.search ≡ old.search
    → new.is_ended ≡ old.is_ended → new.answered ≡ old.answered → new.is_verified ≡ old.is_verified → unsent_of new ≡ drop count (unsent_of old)
    → Stands old settings past sent → Stands new settings past (sent ++ take count (unsent_of old))
stands_sent settings old new past sent count stage searches ends counts verified rest h =
    let joined : (sent ++ take count (unsent_of old)) ++ unsent_of new ≡ sent ++ unsent_of old =
    append_assoc sent (take count (unsent_of old)) (unsent_of new)
    ∙ ap (λ (u : List ℕ). sent ++ u) (ap (λ (u : List ℕ). take count (unsent_of old) ++ u) rest ∙ take-append-drop count (unsent_of old)) in
    record {
      left = h.left;
      waiting = h.waiting;
      last = h.last;
      serves = rw (joined, stage) h.serves;
      here = here_left settings old new past.ended stage searches h.waiting h.last h.left h.here;
      end = h.end ∙ sym ends;
      counted = counts ∙ h.counted;
      noted = noted_on settings old new (searches, verified) (ap moment_at stage) (λ is. sym (ap is_admitted stage) ∙ is)
          (λ lives. sym (ap dies_at stage) ∙ lives) (λ none. sym (ap refused_at stage) ∙ none) h.noted;
      head = left_still old new searches (λ lives. sym (ap dies_at stage) ∙ lives) (λ none. sym (ap refused_at stage) ∙ none) h.left (ap moment_at stage) h.head;
    }

-- ---- the end of the bytes

module _ (stay : VerdictsStay) (invited : InvitationsStay) (heads : HeadsStay) (settings : Settings) where
  left_nil : (left : Option (List ℕ)) → option_map (λ (rest : List ℕ). rest ++ []) left ≡ left
  left_nil None = refl
  left_nil (Some rest) = ap Some (append-nil rest)

  serves_end : (past : Past) (out : List ℕ) (left : Option (List ℕ)) (late : List ℕ) (waiting : List Turn) (last : List ℕ) → past.ended ≡ false
      → Serves settings past out left late waiting last → Serves settings (record past { ended = true }) out left late waiting last
  serves_end past out left late waiting last unended s =
      let moved = walk_more stay invited settings true [] past (map message_of s.exchanges) left unended s.walk in
      record {
        exchanges = s.exchanges;
        walk = subst (λ (l : Option (List ℕ)). Walks settings true past.bytes (map message_of s.exchanges) l) (left_nil left)
            (subst (λ (b : List ℕ). Walks settings true b (map message_of s.exchanges) (option_map (λ (rest : List ℕ). rest ++ []) left)) (append-nil past.bytes) moved);
        replied = s.replied;
        moments = s.moments;
        turns = s.turns;
        answers = s.answers;
        joined = s.joined;
      }

  -- the end of the bytes refuses a message whose body isn't whole
  module _ (old new : Connection) (past : Past) (sent : List ℕ) (incoming : Incoming) (h : Stands old settings past sent)
      (at : old.stage ≡ stages.Body incoming) (unended : past.ended ≡ false) (end : new.is_ended ≡ true) (count : new.answered ≡ old.answered)
      (cut : (rest : List ℕ) → IsInBody settings incoming rest → IsCutTo settings incoming.context rest old new)
      (longer : IsLonger (unsent_of old) (unsent_of new)) (keeps : KeepsHead old new) where
    pub stands_cut : Stands new settings (record past { ended = true }) sent
    stands_cut =
        let a = receiving_at settings old past.ended incoming h.left h.waiting h.last at h.here in
        let s = serves_end past (sent ++ unsent_of old) h.left (moment_at old.stage) h.waiting h.last unended h.serves in
        let k = cut a.0 a.2.body in
        let refused : IsRefusedWith k.code settings true a.0 (incoming.context.moment ∷ []) h.waiting (h.last ++ added (unsent_of old) (unsent_of new)) = (
          record {
            moment = incoming.context.moment;
            code = k.code;
            head_only = incoming.context.head_only;
            before = h.last;
            text = added (unsent_of old) (unsent_of new);
            asked = refl;
            none = a.2.none;
            judged = k.judged;
            invites = a.2.invites;
            printed = k.printed;
            joined = refl;
          },
          refl,
        ) in
        let here = subst (λ (g : Stage). StandsAt g settings new true a.0 h.waiting (h.last ++ added (unsent_of old) (unsent_of new))) (sym k.stage) refused in
        record {
          left = h.left;
          waiting = h.waiting;
          last = h.last ++ added (unsent_of old) (unsent_of new);
          serves = record {
            exchanges = s.exchanges;
            walk = s.walk;
            replied = s.replied;
            moments = s.moments ∙ ap (λ (ms : List ℕ). map (λ (y : Exchange). y.context.moment) s.exchanges ++ ms) (ap moment_at at ∙ sym (ap moment_at k.stage));
            turns = s.turns;
            answers = s.answers;
            joined = ap (λ (u : List ℕ). sent ++ u) longer ∙ sym (append_assoc sent (unsent_of old) (added (unsent_of old) (unsent_of new)))
                ∙ ap (λ (o : List ℕ). o ++ added (unsent_of old) (unsent_of new)) s.joined
                ∙ append_assoc (flat_map written_for s.exchanges) h.last (added (unsent_of old) (unsent_of new));
          };
          here = subst (λ (l : Option (List ℕ)). HereOr settings new true l h.waiting (h.last ++ added (unsent_of old) (unsent_of new))) (sym a.1) here;
          end = sym end;
          counted = count ∙ h.counted;
          noted = noted_on settings old new keeps (ap moment_at k.stage ∙ sym (ap moment_at at)) (λ is. (let same = sym is ∙ ap is_admitted k.stage in absurd (cc)))
              (λ _. ap dies_at at) (λ _. ap refused_at at) h.noted;
          head = left_still old new keeps.0 (λ _. ap dies_at at) (λ _. ap refused_at at) h.left (ap moment_at k.stage ∙ sym (ap moment_at at)) h.head;
        }

  -- and leaves all others as they are
  module _ (old new : Connection) (stage_same : new.stage ≡ old.stage) where
    here_end : (stage : Stage) (rest : List ℕ) (waiting : List Turn) (last : List ℕ) → is_in_body stage ≡ false
        → StandsAt stage settings old false rest waiting last → StandsAt stage settings new true rest waiting last
    unfolding refused_more
    here_end stages.Reading rest waiting last other h = record { searched = λ is. (let never = is in absurd (cc)); found = h.found; none = h.none; nothing = h.nothing }
    here_end (stages.Body incoming) rest waiting last other h = let never = other in absurd (cc)
    here_end (stages.Waiting context) rest waiting last other h =
        let judged = stay settings context.moment true rest [] (verdicts.Sound context h.command) [] h.judged (λ is. absurd (cc)) in
        record {
          command = h.command;
          one = h.one;
          judged = subst (λ (b : List ℕ). Judges settings context.moment true b (verdicts.Sound context h.command, [])) (append-nil rest) judged;
          invites = h.invites;
        }
    here_end (stages.Closed closings.Replied) rest waiting last other h = absurd h
    here_end (stages.Closed (closings.Refused moment code)) rest waiting last other h =
        subst (λ (b : List ℕ). IsRefusedWith code settings true b (moment ∷ []) waiting last) (append-nil rest) (refused_more stay invited settings true [] rest (moment ∷ []) waiting last h.0, h.1)
    here_end (stages.Closed (closings.Died moment)) rest waiting last other h =
        subst (λ (b : List ℕ). IsDead settings true b (moment ∷ []) waiting last) (append-nil rest) (dead_more stay invited settings true [] heads rest (moment ∷ []) waiting last h)

    here_or_end : (left : Option (List ℕ)) (waiting : List Turn) (last : List ℕ) → is_in_body old.stage ≡ false
        → HereOr settings old false left waiting last → HereOr settings new true left waiting last
    here_or_end (Some rest) waiting last other h =
        subst (λ (g : Stage). StandsAt g settings new true rest waiting last) (sym stage_same) (here_end old.stage rest waiting last other h)
    here_or_end None waiting last other h = (stage_same ∙ h.0, h.1, h.2)

    pub stands_end : (past : Past) (sent : List ℕ) → is_in_body old.stage ≡ false → unsent_of new ≡ unsent_of old → new.is_ended ≡ true → new.answered ≡ old.answered → KeepsHead old new → past.ended ≡ false
        → Stands old settings past sent → Stands new settings (record past { ended = true }) sent
    stands_end past sent other same end count keeps unended h =
        let s = serves_end past (sent ++ unsent_of old) h.left (moment_at old.stage) h.waiting h.last unended h.serves in
        record {
          left = h.left;
          waiting = h.waiting;
          last = h.last;
          serves = rw (same, stage_same) s;
          here = here_or_end h.left h.waiting h.last other (subst (λ e. HereOr settings old e h.left h.waiting h.last) unended h.here);
          end = sym end;
          counted = count ∙ h.counted;
          noted = noted_on settings old new keeps (ap moment_at stage_same) (λ is. sym (ap is_admitted stage_same) ∙ is)
              (λ lives. sym (ap dies_at stage_same) ∙ lives) (λ none. sym (ap refused_at stage_same) ∙ none) h.noted;
          head = left_still old new keeps.0 (λ lives. sym (ap dies_at stage_same) ∙ lives) (λ none. sym (ap refused_at stage_same) ∙ none) h.left (ap moment_at stage_same) h.head;
        }

-- ---- a connection of which nothing came

pub stands_first : (settings : Settings) (session : Connection) → session.stage ≡ stages.Reading → search.Stands session.search [] → unsent_of session ≡ []
    → session.is_ended ≡ false → session.answered ≡ 0 → session.is_verified ≡ false → Stands session settings nothing_yet []
stands_first settings session stage searches nothing end none unnoted = record {
  left = Some [];
  waiting = [];
  last = [];
  serves = record {
    exchanges = [];
    walk = refl;
    replied = tt;
    moments = sym (ap moment_at stage);
    turns = refl;
    answers = refl;
    joined = nothing;
  };
  here = subst (λ (g : Stage). StandsAt g settings session false [] [] []) (sym stage) (record { searched = λ _. searches; found = empty_found; none = refl; nothing = refl });
  end = sym end;
  counted = none;
  noted = none_noted settings session unnoted (ap is_admitted stage) (without_moment settings session (ap moment_at stage));
  head = λ _ _ given. absurd (given (ap moment_at stage));
}

-- ---- a piece at a connection that has no whole head, and at one that reads a body

module _ (stay : VerdictsStay) (invited : InvitationsStay) (settings : Settings) (old new : Connection) (past : Past) (sent piece : List ℕ) (taken : ℕ) (need : Need) where
  pub fed_reading : (h : Stands old settings past sent) → old.stage ≡ stages.Reading → old.is_ended ≡ false → IsLonger (unsent_of old) (unsent_of new)
      → new.is_ended ≡ false → new.answered ≡ old.answered
      → ((rest : List ℕ) → search.Stands old.search rest → IsFed settings old new rest [] piece taken need)
      → ((rest : List ℕ) → search.Stands old.search rest → IsNoted settings old → IsNoted settings new)
      → ((rest : List ℕ) → search.Stands old.search rest → moment_at new.stage ≢ [] → HoldsHead new (rest ++ take taken piece))
      → Stands new settings (fed past (take taken piece) (gave_between old new) (turns_of need)) sent
  fed_reading h at goes_on longer end count feeds notes holds =
      let unended = h.end ∙ goes_on in
      let a = reading_at settings old past.ended h.left h.waiting h.last at h.here in
      let later : moment_at new.stage ≡ moment_at old.stage ++ gave_between old new = rw at refl in
      let piece_fed = subst (λ (l : List ℕ). IsFed settings old new a.0 l piece taken need) (sym a.2.nothing) (feeds a.0 (a.2.searched unended)) in
      let noted = notes a.0 (a.2.searched unended) h.noted in
      fed_by stay invited settings old new past sent piece taken need unended longer later end count h.counted noted h.left a.0 h.waiting h.last a.1 a.2.none h.serves piece_fed
      (holds a.0 (a.2.searched unended))

  pub fed_receiving : (incoming : Incoming) (h : Stands old settings past sent) → old.stage ≡ stages.Body incoming → old.is_ended ≡ false → IsLonger (unsent_of old) (unsent_of new)
      → new.is_ended ≡ false → new.answered ≡ old.answered → KeepsHead old new → moment_at new.stage ≡ incoming.context.moment ∷ []
      → ((rest last : List ℕ) → IsInBody settings incoming rest → Invites settings incoming.context.moment rest last → IsFed settings old new rest last piece taken need)
      → Stands new settings (fed past (take taken piece) (gave_between old new) (turns_of need)) sent
  fed_receiving incoming h at goes_on longer end count keeps moment feeds =
      let unended = h.end ∙ goes_on in
      let a = receiving_at settings old past.ended incoming h.left h.waiting h.last at h.here in
      let later : moment_at new.stage ≡ moment_at old.stage ++ gave_between old new = rw (at, moment) refl in
      let noted = noted_on settings old new keeps (moment ∙ sym (ap moment_at at)) (λ _. ap is_admitted at) (λ _. ap dies_at at) (λ _. ap refused_at at) h.noted in
      fed_by stay invited settings old new past sent piece taken need unended longer later end count h.counted noted h.left a.0 h.waiting h.last a.1 a.2.none h.serves
      (feeds a.0 h.last a.2.body a.2.invites)
      (λ _. held_on old new keeps.0 (λ _. ap dies_at at) (λ _. ap refused_at at) a.0 (take taken piece) (h.head a.0 a.1 (λ none. (let clash = sym (ap moment_at at) ∙ none in absurd (cc)))))

-- one stage has one body
pub same_body : (a b : Incoming) → ◌≡◌ {A = Stage} (stages.Body a) (stages.Body b) → a ≡ b
same_body a b is = cc

pub body_in : (stage : Stage) → is_in_body stage ≡ true → (incoming : Incoming) × (stage ≡ stages.Body incoming)
body_in stages.Reading is = let never = is in absurd (cc)
body_in (stages.Body incoming) is = (incoming, refl)
body_in (stages.Waiting context) is = let never = is in absurd (cc)
body_in (stages.Closed closing) is = let never = is in absurd (cc)
