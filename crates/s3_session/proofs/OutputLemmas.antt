-- What went into a connection fixes what it writes.
use Rattle.std.proofs.Common.{◌≡◌, ℕ, suc, Bool, true, false, List, [], ◌∷◌, ◌++◌, map, MatchBool, Option, Some, None, refl, sym, ap, subst, ◌∙◌, append-nil, append_assoc, inl, inr}
use mathlib.Core.List.{IsPrefix}
use Rattle.std.specs.List.{AllByRecursion, flat_map}
use Rattle.std.proofs.lemmas.Bool.{cases_Bool, MatchBool-at_true, MatchBool-at_false}
use Rattle.s3_terms.specs.declared.dialect.Dialect.{Dialect}
use Rattle.s3_config.specs.Settings.{Settings}
use Rattle.s3_http_heads.specs.Find.{found_in}
use Rattle.s3_http_heads.specs.declared.find.Found.{Found}
use Rattle.s3_http_heads.specs.declared.find.Found.TheVariants as found
use Rattle.s3_records.specs.Catalogue.{opening}
use Rattle.s3_machine.specs.Step.{State, step}
use Rattle.s3_machine.specs.History.{Entry, Legal, IsAnswer, after_entry}
use Rattle.s3_machine.specs.declared.command.Answer.{Answer}
use Rattle.s3_replies.specs.declared.context.Context.{Context}
use Rattle.s3_replies.specs.Replies.{Prints, PrintsRefusal}
use Rattle.s3_replies.specs.Laws.{RepliesAreUnique, RefusalsAreUnique}
use Rattle.s3_machine.specs.declared.command.Command.{Command}
use Rattle.s3_machine.specs.declared.turn.Turn.{Turn}
use Rattle.s3_machine.specs.Rules.{rules_of}
use Rattle.s3_machine.specs.declared.rules.Rules.{Rules}
use Rattle.s3_session.specs.Verdict.{Verdict}
use Rattle.s3_session.specs.Verdict as verdicts
use Rattle.s3_session.specs.Decision.{Decision, Judges, FoundJudged, open_yet}
use Rattle.s3_session.specs.Invitation.{Invites, FoundInvites}
use Rattle.s3_session.specs.Walk.{Walks}
use Rattle.s3_session.specs.Output.{Exchange, message_of, turn_of, written_for, IsReplied, Past, Standing, Reading, Waiting, Over, Dead, moment_once_found, IsOpen, IsWaiting, IsRefused, Behind, Writes, is_dead, is_waiting}
use Rattle.s3_session.specs.Laws.{OneVerdict, OneInvitation, OneWriting, OneOutput}
use Rattle.s3_session.specs.ReadBack.{entry_of, entries_from}
use Rattle.s3_session.proofs.ServesLemmas.{moments_of}
use Rattle.s3_session.proofs.ReplayLemmas.{replayed_moments, replayed_legal, replayed_walk, replayed_behind}

-- ---- what stands behind the messages that were answered, by the verdict there

abbrev pub standing_told : Verdict → Standing
standing_told verdicts.Open = Reading
standing_told (verdicts.Refused code head_only) = Over
standing_told (verdicts.Sound context command) = Waiting

abbrev pub waiting_at : Verdict → List Turn
waiting_at verdicts.Open = []
waiting_at (verdicts.Refused code head_only) = []
waiting_at (verdicts.Sound context command) = record { command = command; moment = context.moment } ∷ []

-- what is written last: only a refusal has a text
abbrev pub Concludes : Dialect → ℕ → Verdict → List ℕ → Type 0
Concludes dialect moment verdicts.Open text = text ≡ []
Concludes dialect moment (verdicts.Refused code head_only) text = PrintsRefusal dialect code moment head_only text
Concludes dialect moment (verdicts.Sound context command) text = text ≡ []

-- at this moment a verdict tells how the connection stands, which turn waits, and what is written
pub record Told (standing : Standing) (settings : Settings) (ended : Bool) (rest : List ℕ) (moment : ℕ) (waiting : List Turn) (last : List ℕ) : Type 0 where
  pub decision : Decision
  pub before : List ℕ
  pub text : List ℕ
  pub judged : Judges settings moment ended rest decision
  pub invites : Invites settings moment rest before
  pub stands : standing ≡ standing_told decision.0
  pub waits : waiting ≡ waiting_at decision.0
  pub concludes : Concludes settings.dialect moment decision.0 text
  pub joined : last ≡ before ++ text

-- the moment of the message, if it has one, was this one
abbrev pub Agrees : ℕ → List ℕ → Type 0
Agrees moment [] = Unit {0}
Agrees moment (m ∷ later) = m ≡ moment

-- two that agree on a moment had the same, where both had one
given_once : (moment m n : ℕ) (late later : List ℕ) → late ≡ m ∷ [] → later ≡ n ∷ [] → Agrees moment late → Agrees moment later → late ≡ later
given_once moment m n late later gave also agrees here =
    let mine : m ≡ moment = subst (Agrees moment) gave agrees in
    let its : n ≡ moment = subst (Agrees moment) also here in
    gave ∙ ap (λ (t : ℕ). t ∷ []) (mine ∙ sym its) ∙ sym also

-- and where both were asked for what was found
asked_once : (f : Found) (moment m n : ℕ) (late later : List ℕ) → late ≡ moment_once_found f m → later ≡ moment_once_found f n
    → Agrees moment late → Agrees moment later → late ≡ later
asked_once found.NeedMore moment m n late later asked also agrees here = asked ∙ sym also
asked_once found.TooLarge moment m n late later asked also agrees here = given_once moment m n late later asked also agrees here
asked_once (found.Head size) moment m n late later asked also agrees here = given_once moment m n late later asked also agrees here

-- what doesn't depend on the moment before a head has come holds at this moment
by_clock : (P : ℕ → Type 0) (f : Found) (moment m : ℕ) (late : List ℕ) → late ≡ moment_once_found f m → Agrees moment late
    → (f ≡ found.NeedMore → P m → P moment) → P m → P moment
by_clock P found.NeedMore moment m late asked agrees any p = any refl p
by_clock P found.TooLarge moment m late asked agrees any p = subst P (subst (Agrees moment) asked agrees) p
by_clock P (found.Head n) moment m late asked agrees any p = subst P (subst (Agrees moment) asked agrees) p

judges_any : (settings : Settings) (ended : Bool) (rest : List ℕ) (moment m : ℕ) (d : Decision) → found_in rest ≡ found.NeedMore
    → Judges settings m ended rest d → Judges settings moment ended rest d
unfolding Judges
judges_any settings ended rest moment m d at judged =
    subst (λ (f : Found). FoundJudged settings moment ended rest f d) (sym at) (subst (λ (f : Found). FoundJudged settings m ended rest f d) at judged)

invites_any : (settings : Settings) (rest : List ℕ) (moment m : ℕ) (text : List ℕ) → found_in rest ≡ found.NeedMore
    → Invites settings m rest text → Invites settings moment rest text
unfolding Invites
invites_any settings rest moment m text at invites =
    subst (λ (f : Found). FoundInvites settings moment rest f text) (sym at) (subst (λ (f : Found). FoundInvites settings m rest f text) at invites)

module _ (settings : Settings) (ended : Bool) (rest late : List ℕ) (moment : ℕ) (waiting : List Turn) (last : List ℕ) where
  told_open : IsOpen settings ended rest late waiting last → Agrees moment late → Told Reading settings ended rest moment waiting last
  told_open x agrees = record {
    decision = open_yet;
    before = last;
    text = [];
    judged = by_clock (λ m. Judges settings m ended rest open_yet) (found_in rest) moment x.moment late x.asked agrees
        (judges_any settings ended rest moment x.moment open_yet) x.judged;
    invites = by_clock (λ m. Invites settings m rest last) (found_in rest) moment x.moment late x.asked agrees
        (invites_any settings rest moment x.moment last) x.invites;
    stands = refl;
    waits = x.none;
    concludes = refl;
    joined = sym (append-nil last);
  }

  told_waiting : IsWaiting settings ended rest late waiting last → Agrees moment late → Told Waiting settings ended rest moment waiting last
  told_waiting x agrees =
      let same : x.context.moment ≡ moment = subst (Agrees moment) x.asked agrees in
      record {
        decision = (verdicts.Sound x.context x.command, x.after);
        before = last;
        text = [];
        judged = subst (λ m. Judges settings m ended rest (verdicts.Sound x.context x.command, x.after)) same x.judged;
        invites = subst (λ m. Invites settings m rest last) same x.invites;
        stands = refl;
        waits = x.one;
        concludes = refl;
        joined = sym (append-nil last);
      }

  told_refused : IsRefused settings ended rest late waiting last → Agrees moment late → Told Over settings ended rest moment waiting last
  told_refused x agrees =
      let same : x.moment ≡ moment = subst (Agrees moment) x.asked agrees in
      record {
        decision = (verdicts.Refused x.code x.head_only, []);
        before = x.before;
        text = x.text;
        judged = subst (λ m. Judges settings m ended rest (verdicts.Refused x.code x.head_only, [])) same x.judged;
        invites = subst (λ m. Invites settings m rest x.before) same x.invites;
        stands = refl;
        waits = x.none;
        concludes = subst (λ m. PrintsRefusal settings.dialect x.code m x.head_only x.text) same x.printed;
        joined = x.joined;
      }

  pub told : (p : Standing) → is_dead p ≡ false → Behind p settings ended (Some rest) late waiting last → Agrees moment late
      → Told p settings ended rest moment waiting last
  told Reading live x agrees = told_open x agrees
  told Waiting live x agrees = told_waiting x agrees
  told Over live x agrees = told_refused x agrees
  told Dead live x agrees = let never = live in absurd (cc)

  -- where a reply closed the connection, there is nothing to tell
  closed : (p : Standing) → is_dead p ≡ false → Behind p settings ended None late waiting last → (p ≡ Over) × (waiting ≡ []) × (last ≡ [])
  closed Reading live x = absurd x
  closed Waiting live x = absurd x
  closed Over live x = (refl, x.1, x.2)
  closed Dead live x = let never = live in absurd (cc)

-- ---- what is known of two pasts

-- a command at a moment has one answer from a state under a number
answers_once : (rules : Rules) (s : State) (n : ℕ) (e f : Entry) → IsAnswer rules s n e → IsAnswer rules s n f → f.moment ≡ e.moment → f.command ≡ e.command
    → f.answer ≡ e.answer
answers_once rules s n e f x y moments commands =
    let same : (step rules s n f.moment f.command).1 ≡ (step rules s n e.moment e.command).1 = cc in
    let made : f.answer ≡ record { number = n; outcome = (step rules s n e.moment e.command).1 } = rw (← same) y in
    made ∙ sym x

leaves_once : (rules : Rules) (s : State) (e f : Entry) → f.answer ≡ e.answer → f.moment ≡ e.moment → f.command ≡ e.command → after_entry rules s f ≡ after_entry rules s e
leaves_once rules s e f answers moments commands = cc

-- where there are no messages, there are no exchanges
no_exchanges : (xs ys : List Exchange) → map message_of xs ≡ [] → map message_of ys ≡ [] → xs ≡ ys
no_exchanges [] [] none also = refl
no_exchanges [] (y ∷ ys) none also = absurd (cc)
no_exchanges (x ∷ xs) ys none also = absurd (cc)

same_exchange : (x y : Exchange) → x.context ≡ y.context → x.command ≡ y.command → x.invitation ≡ y.invitation → x.answer ≡ y.answer → x.reply ≡ y.reply → x ≡ y
same_exchange x y contexts commands invitations answers replies = rw (contexts, commands, invitations, answers, replies) refl

-- the answers of exchanges
abbrev answers_of : List Exchange → List Answer
answers_of xs = map (λ (x : Exchange). x.answer) xs

module _ (one : OneVerdict) (invited : OneInvitation) (replies : RepliesAreUnique) (refusals : RefusalsAreUnique) (settings : Settings) (ended : Bool) where
  concludes_once : (moment : ℕ) (verdict : Verdict) (a b : List ℕ) → Concludes settings.dialect moment verdict a → Concludes settings.dialect moment verdict b → a ≡ b
  concludes_once moment verdicts.Open a b x y = x ∙ sym y
  concludes_once moment (verdicts.Refused code head_only) a b x y = refusals settings.dialect code moment head_only a b x y
  concludes_once moment (verdicts.Sound context command) a b x y = x ∙ sym y

  told_once : (p q : Standing) (rest : List ℕ) (moment : ℕ) (waiting other : List Turn) (last end : List ℕ)
      → Told p settings ended rest moment waiting last → Told q settings ended rest moment other end
      → (last ≡ end) × (waiting ≡ other) × (p ≡ q)
  told_once p q rest moment waiting other last end x y =
      let same = one settings moment ended rest x.decision y.decision x.judged y.judged in
      let befores : x.before ≡ y.before = invited settings moment rest x.before y.before x.invites y.invites in
      let texts : x.text ≡ y.text = concludes_once moment y.decision.0 x.text y.text
      (subst (λ (d : Decision). Concludes settings.dialect moment d.0 x.text) same x.concludes) y.concludes in (
        x.joined ∙ ap (λ t. x.before ++ t) texts ∙ ap (λ b. b ++ y.text) befores ∙ sym y.joined,
        x.waits ∙ ap (λ (d : Decision). waiting_at d.0) same ∙ sym y.waits,
        x.stands ∙ ap (λ (d : Decision). standing_told d.0) same ∙ sym y.stands,
      )

  behind_once : (left : Option (List ℕ)) (p q : Standing) (moment : ℕ) (late later : List ℕ) (waiting other : List Turn) (last end : List ℕ)
      → is_dead p ≡ false → is_dead q ≡ false → Behind p settings ended left late waiting last → Behind q settings ended left later other end
      → Agrees moment late → Agrees moment later → (last ≡ end) × (waiting ≡ other) × (p ≡ q)
  behind_once (Some rest) p q moment late later waiting other last end live also x y agrees here =
      told_once p q rest moment waiting other last end (told settings ended rest late moment waiting last p live x agrees)
      (told settings ended rest later moment other end q also y here)
  behind_once None p q moment late later waiting other last end live also x y agrees here =
      let mine = closed settings ended [] late moment waiting last p live x in
      let its = closed settings ended [] later moment other end q also y in
      (mine.2 ∙ sym its.2, mine.1 ∙ sym its.1, mine.0 ∙ sym its.0)

  -- the message behind them has the same moment
  late_once : (left : Option (List ℕ)) (p : Standing) (moment : ℕ) (late later : List ℕ) (waiting other : List Turn) (last end : List ℕ)
      → is_dead p ≡ false → Behind p settings ended left late waiting last → Behind p settings ended left later other end
      → Agrees moment late → Agrees moment later → late ≡ later
  late_once (Some rest) Reading moment late later waiting other last end live x y agrees here = asked_once (found_in rest) moment x.moment y.moment late later x.asked y.asked agrees here
  late_once (Some rest) Waiting moment late later waiting other last end live x y agrees here = given_once moment x.context.moment y.context.moment late later x.asked y.asked agrees here
  late_once (Some rest) Over moment late later waiting other last end live x y agrees here = given_once moment x.moment y.moment late later x.asked y.asked agrees here
  late_once (Some rest) Dead moment late later waiting other last end live x y agrees here = let never = live in absurd (cc)
  late_once None Reading moment late later waiting other last end live x y agrees here = absurd x
  late_once None Waiting moment late later waiting other last end live x y agrees here = absurd x
  late_once None Over moment late later waiting other last end live x y agrees here = x.0 ∙ sym y.0
  late_once None Dead moment late later waiting other last end live x y agrees here = absurd x

  -- the exchanges of the same bytes with the same moments and answers are the same, and leave the same
  exchanges_once : (xs ys : List Exchange) (bytes : List ℕ) (left other : Option (List ℕ))
      → Walks settings ended bytes (map message_of xs) left → Walks settings ended bytes (map message_of ys) other
      → moments_of xs ≡ moments_of ys → answers_of xs ≡ answers_of ys
      → AllByRecursion IsReplied xs → AllByRecursion IsReplied ys
      → (xs ≡ ys) × (left ≡ other)
  exchanges_once [] [] bytes left other v w moments answers p q = (refl, v ∙ sym w)
  exchanges_once [] (y ∷ ys) bytes left other v w moments answers p q = absurd (cc)
  exchanges_once (x ∷ xs) [] bytes left other v w moments answers p q = absurd (cc)
  exchanges_once (x ∷ xs) (y ∷ ys) bytes left other v w moments answers p q =
      let at : y.context.moment ≡ x.context.moment = cc in
      let judged = subst (λ m. Judges settings m ended bytes (verdicts.Sound y.context y.command, w.0)) at w.1 in
      let both = one settings x.context.moment ended bytes (verdicts.Sound x.context x.command, v.0) (verdicts.Sound y.context y.command, w.0) v.1 judged in
      let same = ap (λ (d : Decision). d.0) both in
      let contexts : x.context ≡ y.context = cc in
      let commands : x.command ≡ y.command = cc in
      let rests : w.0 ≡ v.0 = sym (ap (λ (d : Decision). d.1) both) in
      let invitations : x.invitation ≡ y.invitation = invited settings x.context.moment bytes x.invitation y.invitation v.2
      (subst (λ m. Invites settings m bytes y.invitation) at w.2) in
      let heads : x.answer ≡ y.answer = cc in
      let texts : x.reply ≡ y.reply = replies x.answer x.context x.reply y.reply p.0
      (subst (λ (a : Answer). Prints a x.context y.reply) (sym heads) (subst (λ (c : Context). Prints y.answer c y.reply) (sym contexts) q.0)) in
      let here : x ≡ y = same_exchange x y contexts commands invitations heads texts in
      let behind = subst (λ (c : Context). MatchBool c.closes ((map message_of ys ≡ []) × (other ≡ None)) (Walks settings ended w.0 (map message_of ys) other)) (sym contexts) w.3 in
      let more : (xs ≡ ys) × (left ≡ other) = elim (cases_Bool x.context.closes) [
        | inl closing ↦
            let mine = MatchBool-at_true _ _ closing v.3 in
            let its = MatchBool-at_true _ _ closing behind in
            (no_exchanges xs ys mine.0 its.0, mine.1 ∙ sym its.1)
        | inr open_still ↦ exchanges_once xs ys v.0 left other
            (MatchBool-at_false _ _ open_still v.3)
            (subst (λ r. Walks settings ended r (map message_of ys) other) rests (MatchBool-at_false _ _ open_still behind))
            (cc) (cc) p.1 q.1
      ] in
      (ap (λ (e : Exchange). e ∷ xs) here ∙ ap (λ (es : List Exchange). y ∷ es) more.0, more.1)

  -- what is written, by the exchanges and by what stands behind them
  written_once : (p q : Standing) (a b : Past) (x y : List ℕ) (moment : ℕ) → is_dead p ≡ false → is_dead q ≡ false → (v : Writes p settings a x) → (w : Writes q settings b y)
      → a.ended ≡ ended → b.ended ≡ ended → a.bytes ≡ b.bytes
      → moments_of v.serves.exchanges ≡ moments_of w.serves.exchanges → answers_of v.serves.exchanges ≡ answers_of w.serves.exchanges
      → Agrees moment v.late → Agrees moment w.late → (x ≡ y) × (a.turns ≡ b.turns) × (a.moments ≡ b.moments) × (p ≡ q)
  written_once p q a b x y moment live also v w ends ends_too bytes moments answers agrees here =
      let xs = v.serves.exchanges in
      let ys = w.serves.exchanges in
      let mine = subst (λ bs. Walks settings ended bs (map message_of xs) v.left) bytes
      (subst (λ e. Walks settings e a.bytes (map message_of xs) v.left) ends v.serves.walk) in
      let its = subst (λ e. Walks settings e b.bytes (map message_of ys) w.left) ends_too w.serves.walk in
      let same = exchanges_once xs ys b.bytes v.left w.left mine its moments answers v.serves.replied w.serves.replied in
      let behind = subst (λ (left : Option (List ℕ)). Behind p settings ended left v.late v.waiting v.last) same.1
      (subst (λ e. Behind p settings e v.left v.late v.waiting v.last) ends v.behind) in
      let its_behind = subst (λ e. Behind q settings e w.left w.late w.waiting w.last) ends_too w.behind in
      let rest = behind_once w.left p q moment v.late w.late v.waiting w.waiting v.last w.last live also behind its_behind agrees here in
      let lates = late_once w.left q moment v.late w.late v.waiting w.waiting v.last w.last also
      (subst (λ (r : Standing). Behind r settings ended w.left v.late v.waiting v.last) rest.2 behind) its_behind agrees here in (
        v.serves.joined ∙ ap (λ (es : List Exchange). flat_map written_for es ++ v.last) same.0
            ∙ ap (λ (t : List ℕ). flat_map written_for ys ++ t) rest.0 ∙ sym w.serves.joined,
        v.serves.turns ∙ ap (λ (es : List Exchange). map turn_of es ++ v.waiting) same.0
            ∙ ap (λ (t : List Turn). map turn_of ys ++ t) rest.1 ∙ sym w.serves.turns,
        v.serves.moments ∙ ap (λ (ms : List ℕ). ms ++ v.late) moments ∙ ap (λ (ms : List ℕ). moments_of ys ++ ms) lates ∙ sym w.serves.moments,
        rest.2,
      )

  -- no sound message stands at the front of what is left
  abbrev NoneSound : ℕ → Option (List ℕ) → Type 0
  NoneSound moment left =
      (bytes rest : List ℕ) (context : Context) (command : Command) → left ≡ Some bytes
      → ¬ (Judges settings moment ended bytes (verdicts.Sound context command, rest))

  none_sound : (p : Standing) (left : Option (List ℕ)) (late : List ℕ) (moment : ℕ) (waiting : List Turn) (last : List ℕ)
      → is_waiting p ≡ false → is_dead p ≡ false → Behind p settings ended left late waiting last → Agrees moment late → NoneSound moment left
  none_sound p left late moment waiting last idle live behind agrees bytes rest context command is judged =
      let here = subst (λ (l : Option (List ℕ)). Behind p settings ended l late waiting last) is behind in
      let t = told settings ended bytes late moment waiting last p live here agrees in
      let same = one settings moment ended bytes t.decision (verdicts.Sound context command, rest) t.judged judged in
      let never = subst (λ (q : Standing). is_waiting q ≡ false) (t.stands ∙ ap (λ (d : Decision). standing_told d.0) same) idle in
      absurd (cc)

  -- at one moment, histories of the store that are legal answer the same to the same bytes
  answered_once : (xs ys : List Exchange) (s : State) (n moment : ℕ) (bytes : List ℕ) (left other : Option (List ℕ))
      → Walks settings ended bytes (map message_of xs) left → Walks settings ended bytes (map message_of ys) other
      → AllByRecursion (λ (m : ℕ). m ≡ moment) (moments_of xs) → AllByRecursion (λ (m : ℕ). m ≡ moment) (moments_of ys)
      → Legal (rules_of settings) s n (entries_from xs) → Legal (rules_of settings) s n (entries_from ys)
      → NoneSound moment left → NoneSound moment other
      → (moments_of xs ≡ moments_of ys) × (answers_of xs ≡ answers_of ys)
  answered_once [] [] s n moment bytes left other v w mine its l m none no_other = (refl, refl)
  answered_once [] (y ∷ ys) s n moment bytes left other v w mine its l m none no_other =
      absurd (none bytes w.0 y.context y.command v (subst (λ t. Judges settings t ended bytes (verdicts.Sound y.context y.command, w.0)) its.0 w.1))
  answered_once (x ∷ xs) [] s n moment bytes left other v w mine its l m none no_other =
      absurd (no_other bytes v.0 x.context x.command w (subst (λ t. Judges settings t ended bytes (verdicts.Sound x.context x.command, v.0)) mine.0 v.1))
  answered_once (x ∷ xs) (y ∷ ys) s n moment bytes left other v w mine its l m none no_other =
      let both = one settings moment ended bytes (verdicts.Sound x.context x.command, v.0) (verdicts.Sound y.context y.command, w.0)
      (subst (λ t. Judges settings t ended bytes (verdicts.Sound x.context x.command, v.0)) mine.0 v.1)
      (subst (λ t. Judges settings t ended bytes (verdicts.Sound y.context y.command, w.0)) its.0 w.1) in
      let same = ap (λ (d : Decision). d.0) both in
      let contexts : x.context ≡ y.context = cc in
      let commands : y.command ≡ x.command = cc in
      let moments : y.context.moment ≡ x.context.moment = its.0 ∙ sym mine.0 in
      let rests : w.0 ≡ v.0 = sym (ap (λ (d : Decision). d.1) both) in
      let answers : y.answer ≡ x.answer = answers_once (rules_of settings) s n (entry_of x) (entry_of y) l.0 m.0 moments commands in
      let states = leaves_once (rules_of settings) s (entry_of x) (entry_of y) answers moments commands in
      let behind = subst (λ (c : Context). MatchBool c.closes ((map message_of ys ≡ []) × (other ≡ None)) (Walks settings ended w.0 (map message_of ys) other)) (sym contexts) w.3 in
      let more : (moments_of xs ≡ moments_of ys) × (answers_of xs ≡ answers_of ys) = elim (cases_Bool x.context.closes) [
        | inl closing ↦
            let none_left = no_exchanges xs ys (MatchBool-at_true _ _ closing v.3).0 (MatchBool-at_true _ _ closing behind).0 in
            (ap moments_of none_left, ap answers_of none_left)
        | inr open_still ↦ answered_once xs ys (after_entry (rules_of settings) s (entry_of x)) (suc n) moment v.0 left other
            (MatchBool-at_false _ _ open_still v.3)
            (subst (λ r. Walks settings ended r (map message_of ys) other) rests (MatchBool-at_false _ _ open_still behind))
            mine.1 its.1 l.1 (subst (λ (t : State). Legal (rules_of settings) t (suc n) (entries_from ys)) states m.1) none no_other
      ] in (
        ap (λ (t : ℕ). t ∷ moments_of xs) (sym moments) ∙ ap (λ (ts : List ℕ). y.context.moment ∷ ts) more.0,
        ap (λ (a : Answer). a ∷ answers_of xs) (sym answers) ∙ ap (λ (rest : List Answer). y.answer ∷ rest) more.1,
      )

-- ---- the laws

abbrev first_moment : List ℕ → ℕ
first_moment [] = 0
first_moment (m ∷ later) = m

agrees_all : (moment : ℕ) (late : List ℕ) → AllByRecursion (λ (m : ℕ). m ≡ moment) late → Agrees moment late
agrees_all moment [] all = tt
agrees_all moment (m ∷ later) all = all.0

-- as many exchanges take as many moments
moments_apart : (xs ys : List Exchange) (late later : List ℕ) → answers_of xs ≡ answers_of ys → moments_of xs ++ late ≡ moments_of ys ++ later
    → (moments_of xs ≡ moments_of ys) × (late ≡ later)
moments_apart [] [] late later answers moments = (refl, moments)
moments_apart [] (y ∷ ys) late later answers moments = absurd (cc)
moments_apart (x ∷ xs) [] late later answers moments = absurd (cc)
moments_apart (x ∷ xs) (y ∷ ys) late later answers moments =
    let first : x.context.moment ≡ y.context.moment = cc in
    let more = moments_apart xs ys late later (cc) (cc) in
    (ap (λ (t : ℕ). t ∷ moments_of xs) first ∙ ap (λ (ts : List ℕ). y.context.moment ∷ ts) more.0, more.1)

-- the first of some moments is that of each of their beginnings
agrees_front : (late more : List ℕ) → Agrees (first_moment (late ++ more)) late
agrees_front [] more = tt
agrees_front (m ∷ late) more = refl

-- the moments of some exchanges and those behind them, in a list that they begin
moments_in : (xs : List Exchange) (late given moments : List ℕ) → given ≡ moments_of xs ++ late → (front : IsPrefix given moments)
    → moments_of xs ++ (late ++ front.0) ≡ moments
moments_in xs late given moments is front =
    sym (append_assoc (moments_of xs) late front.0) ∙ ap (λ (ms : List ℕ). ms ++ front.0) (sym is) ∙ front.1

pub one_writing : OneVerdict → OneInvitation → RepliesAreUnique → RefusalsAreUnique → OneWriting
one_writing one invited replies refusals settings p q a b moments x y live also bytes ends mine its answers v w =
    let answered = sym v.serves.answers ∙ answers ∙ w.serves.answers in
    let parts = moments_apart v.serves.exchanges w.serves.exchanges (v.late ++ mine.0) (w.late ++ its.0) answered
    (moments_in v.serves.exchanges v.late a.moments moments v.serves.moments mine ∙ sym (moments_in w.serves.exchanges w.late b.moments moments w.serves.moments its)) in
    let agrees = agrees_front v.late mine.0 in
    let here = subst (λ (ms : List ℕ). Agrees (first_moment ms) w.late) (sym parts.1) (agrees_front w.late its.0) in
    written_once one invited replies refusals settings a.ended p q a b x y (first_moment (v.late ++ mine.0)) live also v w refl (sym ends) bytes parts.0 answered
    agrees here

pub one_output : OneVerdict → OneInvitation → RepliesAreUnique → RefusalsAreUnique → OneOutput
one_output one invited replies refusals settings moment bytes a b ((p, idle, r), live) ((q, waits, s), also) =
    let mine = replayed_moments p settings moment bytes a r in
    let its = replayed_moments q settings moment bytes b s in
    let agrees = agrees_all moment r.writes.late mine.1 in
    let here = agrees_all moment s.writes.late its.1 in
    let same = answered_once one invited replies refusals settings true r.writes.serves.exchanges s.writes.serves.exchanges
    (opening settings.buckets) 0 moment bytes r.writes.left s.writes.left
    (replayed_walk p settings moment bytes a r) (replayed_walk q settings moment bytes b s) mine.0 its.0
    (replayed_legal p settings moment bytes a r) (replayed_legal q settings moment bytes b s)
    (none_sound one invited replies refusals settings true p r.writes.left r.writes.late moment r.writes.waiting r.writes.last idle live
    (replayed_behind p settings moment bytes a r) agrees)
    (none_sound one invited replies refusals settings true q s.writes.left s.writes.late moment s.writes.waiting s.writes.last waits also
    (replayed_behind q settings moment bytes b s) here) in
    (written_once one invited replies refusals settings true p q r.past s.past a b moment live also
    r.writes s.writes r.ended s.ended (r.came ∙ sym s.came) same.0 same.1 agrees here).0
