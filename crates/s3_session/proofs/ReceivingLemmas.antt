-- What a piece makes of a connection, by the bytes that it leaves unanswered.
use Rattle.std.proofs.Common.{◌≡◌, ◌≢◌, ◌⊎◌, ℕ, ◌+◌, ◌-◌, ◌<◌, ◌≤◌, Bool, true, false, List, [], ◌∷◌, ◌++◌, take, drop, length, refl, sym, ap, subst, ◌∙◌, arith, inl, inr, if◌then◌else◌, append-nil, append_assoc, Option, Some, None, Result, Ok, Err, IfSome}
use Rattle.std.specs.Borrow.{Bor}
use Rattle.std.specs.Option.{option_copied}
use Rattle.std.proofs.lemmas.List.{take_all, drop_all, drop_at, length-drop}
use Rattle.s3_config.specs.Settings.{Settings}
use Rattle.s3_terms.specs.declared.code.Code.{Code}
use Rattle.s3_terms.specs.declared.dialect.Dialect.{Dialect}
use Rattle.s3_terms.specs.declared.code.Code.TheVariants.{HeadTooLarge, MalformedHead}
use Rattle.s3_http_heads.specs.Find.{found_in, skip_pairs}
use Rattle.s3_http_heads.specs.declared.find.Found.{Found}
use Rattle.s3_http_heads.specs.declared.find.Found.TheVariants as found
use Rattle.s3_http_heads.specs.Head.{HeadParts, HasNoHead, Says, asks_head_only}
use Rattle.s3_http_heads.specs.Search as search
use Rattle.s3_http_heads.specs.declared.search.HeadSearch.{HeadSearch}
use Rattle.s3_framed_bodies.specs.Laws.{ReadersStayWithin}
use Rattle.s3_machine.specs.declared.command.Command.{Command}
use Rattle.s3_replies.specs.declared.context.Context.{Context}
use Rattle.s3_replies.specs.Replies.{PrintsRefusal, continue_line, internal_error}
use Rattle.s3_session.specs.Verdict as verdicts
use Rattle.s3_session.specs.Admission.{Asked, admission_of}
use Rattle.s3_session.specs.Admitting.{IsRuled}
use Rattle.s3_session.specs.Decision.{Judges, FoundJudged, AskedJudged, context_of, refused_message, text_at, with_found}
use Rattle.s3_session.specs.Invitation.{Invites, FoundInvites, invitation, may_be_invited}
use Rattle.s3_session.specs.Output.{HasText, IsDead}
use Rattle.s3_session.specs.Laws.{InvitationsStay}
use Rattle.s3_machine.specs.declared.turn.Turn.{Turn}
use Rattle.s3_session.specs.declared.incoming.Incoming.{Incoming}
use Rattle.s3_session.specs.declared.incoming.Progress.{Progress}
use Rattle.s3_session.specs.declared.incoming.Progress.TheVariants as progress
use Rattle.s3_session.specs.declared.opening.Opening.{Opening}
use Rattle.s3_session.specs.declared.opening.Opening.TheVariants as opening
use Rattle.s3_session.specs.declared.session.Need.{Need}
use Rattle.s3_session.specs.declared.session.Need.TheVariants as needs
use Rattle.s3_session.specs.declared.session.Stage.{Stage}
use Rattle.s3_session.specs.declared.session.Stage.TheVariants as stages
use Rattle.s3_session.specs.declared.session.Closing.TheVariants as closings
use Rattle.s3_session.specs.Incoming.{IsIncoming, Opens, TextOpens, Progresses, is_open}
use Rattle.s3_session.specs.Session.{Connection, IsLonger, added, moment_at, turns_of, unsent_of}
use Rattle.s3_session.specs.Stands.{Asks, GoesOn, Here, HoldsHead, IsCutTo, IsDying, IsFed, StandsAt}
use Rattle.s3_session.proofs.StayLemmas.{HeadsStay}
use Rattle.s3_session.proofs.FrontLemmas.{IsFront, said_judged, said_invites}
use Rattle.s3_session.proofs.UndecidedLemmas.{found_undecided, nothing_taken, searching, take_on}

-- ---- what is added to a text

pub added_none : (old new : List ℕ) → new ≡ old → added old new ≡ []
added_none old new same = ap (drop (length old)) same ∙ drop_all (length old) old (omega arith)

pub added_text : (old new text : List ℕ) → new ≡ old ++ text → added old new ≡ text
added_text old new text is = ap (drop (length old)) is ∙ drop_at old text (length old) refl

-- what was added by two steps
pub added_on : (old mid new text : List ℕ) → mid ≡ old ++ text → new ≡ mid ++ added mid new → added old new ≡ text ++ added mid new
added_on old mid new text first second =
    added_text old new (text ++ added mid new) (second ∙ ap (λ l. l ++ added mid new) first ∙ append_assoc old text (added mid new))

-- what was written behind a text begins with it
pub longer_by : (old new text : List ℕ) → new ≡ old ++ text → IsLonger old new
longer_by old new text is = is ∙ ap (λ l. old ++ l) (sym (added_text old new text is))

-- so does what was written in two steps
pub longer_on : (old mid new text : List ℕ) → mid ≡ old ++ text → IsLonger mid new → IsLonger old new
longer_on old mid new text first second =
    longer_by old new (text ++ added mid new) (second ∙ ap (λ l. l ++ added mid new) first ∙ append_assoc old text (added mid new))

-- ---- what stands behind a message for which memory ran out

module _ (settings : Settings) (new : Connection) (rest : List ℕ) (moment : ℕ) where
  -- a stage is as it is told
  pub at_stage : (stage : Stage) (waiting : List Turn) (last : List ℕ) → new.stage ≡ stage
      → StandsAt stage settings new false rest waiting last → Here settings new false rest waiting last
  at_stage stage waiting last is there = subst (λ (s : Stage). StandsAt s settings new false rest waiting last) (sym is) there

  pub dead_here : (old : Connection) (need : Need) (last : List ℕ) → HasText rest → (last ≡ []) ⊎ Invites settings moment rest last
      → IsDying moment old new need → Here settings new false rest (turns_of need) (last ++ added (unsent_of old) (unsent_of new))
  dead_here old need last whole invites (closes, stage, written) =
      let dead : IsDead settings false rest (moment ∷ []) [] (last ++ added (unsent_of old) (unsent_of new)) = record {
        moment = moment;
        before = last;
        asked = refl;
        turn = inl refl;
        whole = whole;
        invites = invites;
        joined = ap (λ t. last ++ t) (added_text (unsent_of old) (unsent_of new) internal_error written);
      } in
      at_stage (stages.Closed (closings.Died moment)) (turns_of need) _ stage
      (subst (λ (n : Need). IsDead settings false rest (moment ∷ []) (turns_of n) (last ++ added (unsent_of old) (unsent_of new))) (sym closes) dead)

-- ---- what becomes of a message whose body goes on

module _ (settings : Settings) (context : Context) (rest last : List ℕ) (old new : Connection) where
  asked_here : (told : Context) (command : Command) (need : Need) → Judges settings told.moment false rest (verdicts.Sound told command, [])
      → HasText rest → Invites settings told.moment rest last → Asks told command old new need
      → Here settings new false rest (turns_of need) (last ++ added (unsent_of old) (unsent_of new))
  asked_here told command need judged whole invites (inl (asks, stage, same)) =
      let nothing : last ++ added (unsent_of old) (unsent_of new) ≡ last = ap (λ t. last ++ t) (added_none (unsent_of old) (unsent_of new) (rw same refl)) ∙ append-nil last in
      at_stage settings new rest told.moment (stages.Waiting told) (turns_of need) _ stage (record {
        command = command;
        one = ap turns_of asks;
        judged = judged;
        invites = subst (Invites settings told.moment rest) (sym nothing) invites;
      })
  asked_here told command need judged whole invites (inr (dying, lacks)) = dead_here settings new rest told.moment old need last whole (inr invites) dying

  pub goes_on_here : context.dialect ≡ settings.dialect → (p : Progress) (need : Need) → Progresses settings context rest p → HasText rest → Invites settings context.moment rest last
      → GoesOn context p old new need → Here settings new false rest (turns_of need) (last ++ added (unsent_of old) (unsent_of new))
  goes_on_here spoken (progress.Open incoming) need (same, body) whole invites (more, stage, kept) =
      let nothing : last ++ added (unsent_of old) (unsent_of new) ≡ last = ap (λ t. last ++ t) (added_none (unsent_of old) (unsent_of new) (rw kept refl)) ∙ append-nil last in
      at_stage settings new rest context.moment (stages.Body incoming) (turns_of need) _ stage (record {
        goes_on = refl;
        body = body;
        invites = rw (nothing, same) invites;
        none = ap turns_of more;
      })
  goes_on_here spoken (progress.Whole command sum) need judged whole invites asks = asked_here (with_found sum context) command need judged whole invites asks
  goes_on_here spoken (progress.Refused code) need judged whole invites (closes, stage, printed) =
      at_stage settings new rest context.moment (stages.Closed (closings.Refused context.moment code)) (turns_of need) _ stage ((
        record {
          moment = context.moment;
          code = code;
          head_only = context.head_only;
          before = last;
          text = added (unsent_of old) (unsent_of new);
          asked = refl;
          none = ap turns_of closes;
          judged = judged;
          invites = invites;
          printed = subst (λ (d : Dialect). PrintsRefusal d code context.moment context.head_only (added (unsent_of old) (unsent_of new))) spoken printed;
          joined = refl;
        },
        refl,
      ))
  goes_on_here spoken progress.Died need tt whole invites dying = dead_here settings new rest context.moment old need last whole (inr invites) dying

-- a piece of a body
pub body_fed : HeadsStay → InvitationsStay → (settings : Settings) (incoming : Incoming) (rest last piece : List ℕ) (old new : Connection) (n : ℕ) (p : Progress) (need : Need)
    → IsIncoming settings incoming rest → Invites settings incoming.context.moment rest last
    → Progresses settings incoming.context (rest ++ take n piece) p
    → GoesOn incoming.context p old new need
    → Here settings new false (rest ++ take n piece) (turns_of need) (last ++ added (unsent_of old) (unsent_of new))
body_fed heads stay settings incoming rest last piece old new n p need h invites progresses goes_on =
    let found : found_in rest ≢ found.NeedMore = λ none. (let same = sym h.found ∙ none in absurd (cc)) in
    let whole : HasText (rest ++ take n piece) = record { size = length h.text; found = heads rest (take n piece) (length h.text) h.found } in
    goes_on_here settings incoming.context (rest ++ take n piece) last old new (ap (λ (c : Context). c.dialect) h.context) p need progresses whole
    (stay settings incoming.context.moment rest (take n piece) last found invites) goes_on

-- more is needed where bytes of the body are still to come, and then all of the piece was taken
pub more_taken : (context : Context) (old new : Connection) (p : Progress) (need : Need) → GoesOn context p old new need
    → {taken all : ℕ} → (is_open p ≡ true → taken ≡ all) → need ≡ needs.More → taken ≡ all
more_taken context old new (progress.Open incoming) need goes_on all more = all refl
more_taken context old new (progress.Whole command sum) need (inl asks) all more = let same = sym asks.0 ∙ more in absurd (cc)
more_taken context old new (progress.Whole command sum) need (inr (dying, lacks)) all more = let same = sym dying.0 ∙ more in absurd (cc)
more_taken context old new (progress.Refused code) need goes_on all more = let same = sym goes_on.0 ∙ more in absurd (cc)
more_taken context old new progress.Died need dying all more = let same = sym dying.0 ∙ more in absurd (cc)

-- ---- what comes of a whole head

module _ (settings : Settings) (moment : ℕ) (rest : List ℕ) where
  -- the text is that of the head that was found, where it is not lost
  opens_said : (text : Option (Bor (List ℕ))) (opened : Opening) → IfSome text (λ (t : Bor (List ℕ)). t.now ≡ skip_pairs rest)
      → Opens settings moment (option_copied text) opened → (opened ≡ opening.Died) ⊎ TextOpens settings moment (skip_pairs rest) opened
  opens_said None opened is opens = inl opens
  opens_said (Some text) opened is opens = inr (subst (λ (t : List ℕ). TextOpens settings moment t opened) is opens)

  opened_text : (code : Code) (head_only : Bool) → (opening.Refused code head_only ≡ opening.Died) ⊎ TextOpens settings moment (skip_pairs rest) (opening.Refused code head_only)
      → TextOpens settings moment (skip_pairs rest) (opening.Refused code head_only)
  opened_text code head_only (inl died) = let same = died in absurd (cc)
  opened_text code head_only (inr opens) = opens

  admitted_text : (incoming : Incoming) (invited : Bool) → (opening.Admitted incoming invited ≡ opening.Died) ⊎ TextOpens settings moment (skip_pairs rest) (opening.Admitted incoming invited)
      → TextOpens settings moment (skip_pairs rest) (opening.Admitted incoming invited)
  admitted_text incoming invited (inl died) = let same = died in absurd (cc)
  admitted_text incoming invited (inr opens) = opens

  -- all bytes are the head's
  whole_front : found_in rest ≡ found.Head (length (skip_pairs rest)) → IsFront rest (skip_pairs rest) []
  whole_front found = record { found = found; joined = sym (append-nil (skip_pairs rest)) }

  -- an admitted head leads to its body
  admitted_incoming : ReadersStayWithin → found_in rest ≡ found.Head (length (skip_pairs rest)) → (head : HeadParts) → Says (skip_pairs rest) head
      → (incoming : Incoming) (rule : Result Asked Code) → admission_of settings head moment ≡ rule
      → IsRuled rule incoming.admission → incoming.context ≡ context_of settings.dialect head moment → IsIncoming settings incoming rest
  admitted_incoming within found head says incoming (Err code) is ruled context = absurd ruled
  admitted_incoming within found head says incoming (Ok asked) is (stands, planned, sized) context =
      let front = whole_front found in
      let same : incoming.context.moment ≡ moment = ap (λ (c : Context). c.moment) context in
      record {
        head = head;
        asked = asked;
        text = skip_pairs rest;
        behind = [];
        found = front.found;
        joined = front.joined;
        says = says;
        admitted = rw same is;
        context = context ∙ ap (λ (m : ℕ). context_of settings.dialect head m) (sym same);
        plan = planned;
        stands = stands;
        taken = omega (arith, within incoming.admission.reader asked.announced [] false stands);
        within = λ more. omega arith;
      }

  -- and its client is told to go on, or nothing is said
  admitted_invites : found_in rest ≡ found.Head (length (skip_pairs rest)) → (head : HeadParts) → Says (skip_pairs rest) head
      → (incoming : Incoming) (rule : Result Asked Code) → admission_of settings head moment ≡ rule → IsRuled rule incoming.admission
      → (invited : Bool) → invited ≡ may_be_invited settings.dialect head incoming.admission.framing
      → Invites settings moment rest (if invited then continue_line else [])
  admitted_invites found head says incoming (Err code) is ruled invited may = absurd ruled
  admitted_invites found head says incoming (Ok asked) is ruled invited may =
      let told = said_invites settings moment false rest (skip_pairs rest) [] head (whole_front found) says in
      let text : invitation settings.dialect head (admission_of settings head moment) ≡ (if invited then continue_line else []) = rw (is, may, ruled.2) refl in
      subst (Invites settings moment rest) text told

  -- a text that is no head
  unreadable : found_in rest ≡ found.Head (length (skip_pairs rest)) → HasNoHead (skip_pairs rest)
      → Judges settings moment false rest (refused_message MalformedHead false) × Invites settings moment rest []
  unfolding Judges Invites
  unreadable found none =
      let size = length (skip_pairs rest) in
      let here : text_at size rest ≡ skip_pairs rest = take_all size (skip_pairs rest) (omega arith) in
      let none_here : HasNoHead (text_at size rest) = subst HasNoHead (sym here) none in (
        subst (λ (f : Found). FoundJudged settings moment false rest f (refused_message MalformedHead false)) (sym found) (inl (none_here, refl)),
        subst (λ (f : Found). FoundInvites settings moment rest f []) (sym found) (inl (none_here, refl)),
      )

  -- a head that is refused
  refused_head : found_in rest ≡ found.Head (length (skip_pairs rest)) → (head : HeadParts) → Says (skip_pairs rest) head
      → (code : Code) → admission_of settings head moment ≡ Err code
      → Judges settings moment false rest (refused_message code (asks_head_only head)) × Invites settings moment rest []
  refused_head found head says code rule =
      let front = whole_front found in
      let judged = subst (λ (r : Result Asked Code). AskedJudged settings.dialect head moment false [] r (refused_message code (asks_head_only head))) (sym rule) refl in
      let told = said_invites settings moment false rest (skip_pairs rest) [] head front says in
      let nothing : invitation settings.dialect head (admission_of settings head moment) ≡ [] = rw rule refl in (
        said_judged settings moment false rest (skip_pairs rest) [] head front says (refused_message code (asks_head_only head)) judged,
        subst (Invites settings moment rest) nothing told,
      )

  text_refused : found_in rest ≡ found.Head (length (skip_pairs rest)) → (code : Code) (head_only : Bool)
      → TextOpens settings moment (skip_pairs rest) (opening.Refused code head_only)
      → Judges settings moment false rest (verdicts.Refused code head_only, []) × Invites settings moment rest []
  text_refused found code head_only (inl (died, readable)) = let same = died in absurd (cc)
  text_refused found code head_only (inr (inl (none, is))) =
      let malformed : code ≡ MalformedHead = cc in
      let body : head_only ≡ false = cc in
      rw (malformed, body) (unreadable found none)
  text_refused found code head_only (inr (inr (head, says, opens))) = rw opens.1 (refused_head found head says code opens.0)

-- ---- what a whole head makes of a connection

module _ (settings : Settings) (moment : ℕ) (rest piece : List ℕ) (old new : Connection) (held : search.Holds old.search rest) (whole : HasText rest)
    (ends : (s : HeadSearch) (bytes : List ℕ) (size : ℕ) → search.Holds s bytes → found_in bytes ≡ found.Head size → size ≡ length (skip_pairs bytes)) where
  found_whole : found_in rest ≡ found.Head (length (skip_pairs rest))
  found_whole = whole.found ∙ ap found.Head (ends old.search rest whole.size held whole.found)

  -- a refusal, of which nothing of the piece is a part
  pub begins_refused : (text : Option (Bor (List ℕ))) → IfSome text (λ (t : Bor (List ℕ)). t.now ≡ skip_pairs rest)
      → (code : Code) (head_only : Bool) → Opens settings moment (option_copied text) (opening.Refused code head_only)
      → new.stage ≡ stages.Closed (closings.Refused moment code)
      → PrintsRefusal settings.dialect code moment head_only (added (unsent_of old) (unsent_of new))
      → (need : Need) → need ≡ needs.Close → IsFed settings old new rest [] piece 0 need
  begins_refused text is code head_only opens stage printed need closes =
      let told = text_refused settings moment rest found_whole code head_only (opened_text settings moment rest code head_only (opens_said settings moment rest text (opening.Refused code head_only) is opens)) in
      record {
        here = rw (append-nil rest) (at_stage settings new rest moment (stages.Closed (closings.Refused moment code)) (turns_of need) (added (unsent_of old) (unsent_of new)) stage ((
          record {
            moment = moment;
            code = code;
            head_only = head_only;
            before = [];
            text = added (unsent_of old) (unsent_of new);
            asked = refl;
            none = ap turns_of closes;
            judged = told.0;
            invites = told.1;
            printed = printed;
            joined = refl;
          },
          refl,
        )));
        all = λ more. (let same = sym closes ∙ more in absurd (cc));
        at_once = λ _. nothing_taken settings (moment_at new.stage) rest piece;
      }

  -- an admitted head, behind which the body is read
  module _ (within : ReadersStayWithin) (incoming : Incoming) (invited : Bool) (mid : Connection) (n : ℕ) (need : Need)
      (said : unsent_of mid ≡ unsent_of old ++ (if invited then continue_line else [])) (longer : IsLonger (unsent_of mid) (unsent_of new))
      (fed : (last : List ℕ) → IsIncoming settings incoming rest → Invites settings incoming.context.moment rest last → IsFed settings mid new rest last piece n need) where
    text_admitted : TextOpens settings moment (skip_pairs rest) (opening.Admitted incoming invited) → IsFed settings old new rest [] piece n need
    text_admitted (inl (died, readable)) = let same = died in absurd (cc)
    text_admitted (inr (inl (none, is))) = let same = is in absurd (cc)
    text_admitted (inr (inr (head, says, opens))) =
        let ruled = opens.0 in
        let context = opens.1 in
        let may = opens.2 in
        let rule = admission_of settings head moment in
        let h = admitted_incoming settings moment rest within found_whole head says incoming rule refl ruled context in
        let invites = admitted_invites settings moment rest found_whole head says incoming rule refl ruled invited may in
        let same : incoming.context.moment ≡ moment = ap (λ (c : Context). c.moment) context in
        let told : Invites settings incoming.context.moment rest (if invited then continue_line else []) = rw same invites in
        let body = fed (if invited then continue_line else []) h told in
        let texts = added_on (unsent_of old) (unsent_of mid) (unsent_of new) (if invited then continue_line else []) said longer in
        record { here = rw texts body.here; all = body.all; at_once = body.at_once }

    pub begins_admitted : (text : Option (Bor (List ℕ))) → IfSome text (λ (t : Bor (List ℕ)). t.now ≡ skip_pairs rest)
        → Opens settings moment (option_copied text) (opening.Admitted incoming invited) → IsFed settings old new rest [] piece n need
    begins_admitted text is opens = text_admitted (admitted_text settings moment rest incoming invited (opens_said settings moment rest text (opening.Admitted incoming invited) is opens))

-- ---- what a whole head makes of a connection for which memory runs out

pub begins_dead : (settings : Settings) (moment : ℕ) (rest piece : List ℕ) (old new : Connection) → HasText rest
    → new.stage ≡ stages.Closed (closings.Died moment) → unsent_of new ≡ unsent_of old ++ internal_error
    → (need : Need) → need ≡ needs.Close → IsFed settings old new rest [] piece 0 need
begins_dead settings moment rest piece old new whole stage written need closes =
    record {
      here = rw (append-nil rest) (dead_here settings new rest moment old need [] whole (inl refl) (closes, stage, written));
      all = λ more. (let same = sym closes ∙ more in absurd (cc));
      at_once = λ _. nothing_taken settings (moment_at new.stage) rest piece;
    }

-- ---- what a piece makes of a connection that has no whole head

module _ (settings : Settings) (rest piece : List ℕ) (old new : Connection) (n : ℕ) (need : Need) where
  pub reads_none : (s : search.IsSearched rest piece (n, found.NeedMore) new.search) → new.stage ≡ stages.Reading → unsent_of new ≡ unsent_of old
      → need ≡ needs.More → IsFed settings old new rest [] piece n need
  reads_none s stage same more =
      let all : take n piece ≡ piece = take_all n piece (omega (arith, s.all refl)) in
      record {
        here = at_stage settings new (rest ++ take n piece) 0 stages.Reading (turns_of need) (added (unsent_of old) (unsent_of new)) stage (record {
          searched = λ _. rw all (s.stands refl);
          found = sym s.found;
          none = ap turns_of more;
          nothing = added_none (unsent_of old) (unsent_of new) same;
        });
        all = λ _. s.all refl;
        at_once = λ _ m less. searching settings (moment_at new.stage) rest piece m (s.at_once m less);
      }

  too_large : (moment : ℕ) → found_in (rest ++ take n piece) ≡ found.TooLarge
      → Judges settings moment false (rest ++ take n piece) (refused_message HeadTooLarge false) × Invites settings moment (rest ++ take n piece) []
  unfolding Judges Invites
  too_large moment is = (
    subst (λ (f : Found). FoundJudged settings moment false (rest ++ take n piece) f (refused_message HeadTooLarge false)) (sym is) refl,
    subst (λ (f : Found). FoundInvites settings moment (rest ++ take n piece) f []) (sym is) refl,
  )

  pub reads_large : (moment : ℕ) → found.TooLarge ≡ found_in (rest ++ take n piece) → new.stage ≡ stages.Closed (closings.Refused moment HeadTooLarge)
      → PrintsRefusal settings.dialect HeadTooLarge moment false (added (unsent_of old) (unsent_of new))
      → need ≡ needs.Close → ((m : ℕ) → m < n → found_in (rest ++ take m piece) ≡ found.NeedMore) → IsFed settings old new rest [] piece n need
  reads_large moment is stage printed closes before =
      let told = too_large moment (sym is) in
      record {
        here = at_stage settings new (rest ++ take n piece) moment (stages.Closed (closings.Refused moment HeadTooLarge)) (turns_of need) (added (unsent_of old) (unsent_of new)) stage ((
          record {
            moment = moment;
            code = HeadTooLarge;
            head_only = false;
            before = [];
            text = added (unsent_of old) (unsent_of new);
            asked = refl;
            none = ap turns_of closes;
            judged = told.0;
            invites = told.1;
            printed = printed;
            joined = refl;
          },
          refl,
        ));
        all = λ more. (let same = sym closes ∙ more in absurd (cc));
        at_once = λ _ m less. searching settings (moment_at new.stage) rest piece m (before m less);
      }

-- the head is whole, and more of the piece is its body's
pub reads_found : (settings : Settings) (rest piece : List ℕ) (old mid new : Connection) (len behind : ℕ) (need : Need)
    → len ≤ length piece → ((m : ℕ) → m < len → found_in (rest ++ take m piece) ≡ found.NeedMore) → unsent_of mid ≡ unsent_of old
    → IsFed settings mid new (rest ++ take len piece) [] (take (length piece - len) (drop len piece)) behind need
    → IsFed settings old new rest [] piece (len + behind) need
reads_found settings rest piece old mid new len behind need within before same slice_fed =
    let all : take (length piece - len) (drop len piece) ≡ drop len piece = take_all (length piece - len) (drop len piece) (omega (arith, length-drop len piece)) in
    let fed = subst (λ (p : List ℕ). IsFed settings mid new (rest ++ take len piece) [] p behind need) all slice_fed in
    let taken : (rest ++ take len piece) ++ take behind (drop len piece) ≡ rest ++ take (len + behind) piece =
    append_assoc rest (take len piece) (take behind (drop len piece)) ∙ ap (λ l. rest ++ l) (take_on len behind piece) in
    let texts : added (unsent_of mid) (unsent_of new) ≡ added (unsent_of old) (unsent_of new) = ap (λ u. added u (unsent_of new)) same in
    record {
      here = rw (← taken, ← texts) fed.here;
      all = λ more. omega (arith, fed.all more, length-drop len piece, within);
      at_once = λ lives. found_undecided settings (moment_at new.stage) rest piece len behind before (fed.at_once lives);
    }

-- only what was unsent before counts
pub fed_from : (settings : Settings) (old mid new : Connection) (rest last piece : List ℕ) (n : ℕ) (need : Need) → unsent_of mid ≡ unsent_of old
    → IsFed settings mid new rest last piece n need → IsFed settings old new rest last piece n need
fed_from settings old mid new rest last piece n need same f =
    let texts : added (unsent_of mid) (unsent_of new) ≡ added (unsent_of old) (unsent_of new) = ap (λ u. added u (unsent_of new)) same in
    record { here = rw (← texts) f.here; all = f.all; at_once = f.at_once }

pub cut_from : (settings : Settings) (context : Context) (rest : List ℕ) (mid old new : Connection) → unsent_of mid ≡ unsent_of old
    → IsCutTo settings context rest mid new → IsCutTo settings context rest old new
cut_from settings context rest mid old new same cut = record {
  code = cut.code;
  judged = cut.judged;
  stage = cut.stage;
  printed = subst (λ u. PrintsRefusal settings.dialect cut.code context.moment context.head_only (added u (unsent_of new))) same cut.printed;
}

-- the head that came whole with a piece, of which its body takes more, is held
pub held_found : (session : Connection) (rest piece : List ℕ) (len behind : ℕ)
    → HoldsHead session ((rest ++ take len piece) ++ take behind (take (length piece - len) (drop len piece)))
    → HoldsHead session (rest ++ take (len + behind) piece)
held_found session rest piece len behind h =
    let all : take (length piece - len) (drop len piece) ≡ drop len piece = take_all (length piece - len) (drop len piece) (omega (arith, length-drop len piece)) in
    let taken : (rest ++ take len piece) ++ take behind (take (length piece - len) (drop len piece)) ≡ rest ++ take (len + behind) piece =
    ap (λ (p : List ℕ). (rest ++ take len piece) ++ take behind p) all
    ∙ append_assoc rest (take len piece) (take behind (drop len piece)) ∙ ap (λ (l : List ℕ). rest ++ l) (take_on len behind piece) in
    subst (λ (bytes : List ℕ). HoldsHead session bytes) taken h
