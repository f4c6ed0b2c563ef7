-- The first fault of a connection.
use Rattle.std.proofs.Common.{◌≡◌, ◌≤◌, ◌<◌, ◌⊎◌, ℕ, suc, min, Bool, true, false, List, [], ◌∷◌, ◌++◌, length, map, MatchBool, Option, Some, None, option_map, refl, sym, ap, subst, ◌∙◌, append-nil, arith, inl, inr}
use Rattle.std.proofs.lemmas.Bool.{cases_Bool, MatchBool-at_true, MatchBool-at_false}
use Rattle.std.proofs.lemmas.List.{length-append, length-map}
use mathlib.Core.List.{IsPrefix}
use Rattle.s3_config.specs.Settings.{Settings}
use Rattle.s3_terms.specs.declared.code.Code.{Code}
use Rattle.s3_machine.specs.declared.turn.Turn.{Turn}
use Rattle.s3_replies.specs.declared.context.Context.{Context}
use Rattle.s3_session.specs.Verdict as verdicts
use Rattle.s3_session.specs.Decision.{Decision, Judges, refused_message}
use Rattle.s3_session.specs.Fault.{FaultsStay, HasNoFault, OneFault, most_counted}
use Rattle.s3_session.specs.Laws.{InvitationsStay, OneVerdict, VerdictsStay}
use Rattle.s3_session.specs.Walk.{Message, Walks}
use Rattle.s3_session.specs.Output.{Behind, Exchange, Past, Standing, Over, Waiting, is_dead, is_waiting, message_of}
use Rattle.s3_session.specs.Session.{Connection, IsUnheard, moment_at, refused_at, standing_at, standing_of}
use Rattle.s3_session.specs.Stands.{HereOr, IsRefusedWith, Stands, StandsAt}
use Rattle.s3_session.specs.declared.session.Stage.{Stage}
use Rattle.s3_session.specs.declared.session.Stage.TheVariants as stages
use Rattle.s3_session.specs.declared.session.Closing.TheVariants as closings
use Rattle.s3_framed_bodies.specs.Laws.{ReadersJudge}
use Rattle.s3_session.proofs.OutputLemmas.{Agrees, standing_told, told}
use Rattle.s3_session.proofs.StandsLemmas.{behind_stays, stands_behind, walk_more}
use Rattle.s3_session.proofs.StayLemmas.{HeadsStay}
use Rattle.s3_session.proofs.WalkLemmas.{walks_on}

-- the moments of messages
abbrev pub moments_of : List Message → List ℕ
moments_of messages = map (λ (m : Message). m.context.moment) messages

pub moments_same : (xs : List Exchange) → moments_of (map message_of xs) ≡ map (λ (x : Exchange). x.context.moment) xs
moments_same [] = refl
moments_same (x ∷ xs) = ap (λ (ms : List ℕ). x.context.moment ∷ ms) (moments_same xs)

-- a message that was refused stands there
pub refused_there : (settings : Settings) (session : Connection) (ended : Bool) (moment : ℕ) (code : Code) (left : Option (List ℕ)) (waiting : List Turn) (last : List ℕ)
    → session.stage ≡ stages.Closed (closings.Refused moment code) → HereOr settings session ended left waiting last
    → (rest : List ℕ) × (left ≡ Some rest) × IsRefusedWith code settings ended rest (moment ∷ []) waiting last
refused_there settings session ended moment code (Some rest) waiting last at h =
    (rest, refl, subst (λ (s : Stage). StandsAt s settings session ended rest waiting last) at h)
refused_there settings session ended moment code None waiting last at h = let same = sym at ∙ h.0 in absurd (cc)

pub refused_is : (stage : Stage) (code : Code) → refused_at stage ≡ Some code → (moment : ℕ) × (stage ≡ stages.Closed (closings.Refused moment code))
refused_is (stages.Closed (closings.Refused moment told)) code is = (moment, ap (λ (c : Code). stages.Closed (closings.Refused moment c)) (cc))
refused_is _ code is = absurd (cc)

pub over_told : (stage : Stage) (code : Code) → refused_at stage ≡ Some code → standing_at stage ≡ Over
over_told stage code is = ap standing_at (refused_is stage code is).1

few_late : (stage : Stage) → length (moment_at stage) ≤ 1
few_late stages.Reading = omega arith
few_late (stages.Body incoming) = omega arith
few_late (stages.Waiting context) = omega arith
few_late (stages.Closed closings.Replied) = omega arith
few_late (stages.Closed (closings.Refused moment code)) = omega arith
few_late (stages.Closed (closings.Died moment)) = omega arith

-- where these moments are those of the messages that were answered, and of one more or none, no fault stands behind more than were answered
pub not_behind : (ms : List Message) (xs : List Exchange) (moment : ℕ) (more late : List ℕ)
    → (moments_of ms ++ moment ∷ []) ++ more ≡ map (λ (x : Exchange). x.context.moment) xs ++ late → length late ≤ 1 → ¬ (length xs < length ms)
not_behind ms xs moment more late moments few fewer =
    let whole = ap length moments in
    let mine = length-append (moments_of ms ++ moment ∷ []) more in
    let first = length-append (moments_of ms) (moment ∷ []) in
    let its = length-append (map (λ (x : Exchange). x.context.moment) xs) late in
    let all = length-map ms (λ (m : Message). m.context.moment) in
    let answered = length-map xs (λ (x : Exchange). x.context.moment) in
    omega (arith, whole, mine, first, its, few, all, answered, fewer)

-- some bytes with more behind them were some bytes
some_before : (left : Option (List ℕ)) (more rest : List ℕ) → option_map (λ (b : List ℕ). b ++ more) left ≡ Some rest → (b : List ℕ) × (left ≡ Some b)
some_before None more rest is = absurd (cc)
some_before (Some b) more rest is = (b, refl)

-- where no more is read before some bytes, a message was refused
over_refused : (stage : Stage) (settings : Settings) (session : Connection) (ended : Bool) (rest : List ℕ) (waiting : List Turn) (last : List ℕ)
    → standing_at stage ≡ Over → StandsAt stage settings session ended rest waiting last
    → (code : Code) × (refused_at stage ≡ Some code)
over_refused stages.Reading settings session ended rest waiting last over h = absurd (cc)
over_refused (stages.Body incoming) settings session ended rest waiting last over h = absurd (cc)
over_refused (stages.Waiting context) settings session ended rest waiting last over h = absurd (cc)
over_refused (stages.Closed closings.Replied) settings session ended rest waiting last over h = absurd h
over_refused (stages.Closed (closings.Refused moment code)) settings session ended rest waiting last over h = (code, refl)
over_refused (stages.Closed (closings.Died moment)) settings session ended rest waiting last over h = absurd (cc)

-- a moment that comes first of some is that of the message that has the first of them
pub agrees_first : (moment : ℕ) (more late later : List ℕ) → moment ∷ more ≡ late ++ later → Agrees moment late
agrees_first moment more [] later same = tt
agrees_first moment more (k ∷ late) later same = cc

-- a fault behind some messages is where the connection stands, or behind a command that waits
module _ (one : OneVerdict) (settings : Settings) (ended : Bool) (p : Standing) (lives : is_dead p ≡ false) (code : Code) (head_only : Bool) (moment : ℕ) (more : List ℕ)
    (rest : List ℕ) (refused : Judges settings moment ended rest (refused_message code head_only))
    (left : Option (List ℕ)) (late later : List ℕ) (waiting : List Turn) (last : List ℕ) (behind : Behind p settings ended left late waiting last) where
  decided_there : (bytes : List ℕ) (at : ℕ) (d : Decision) → left ≡ Some bytes → Agrees at late → Judges settings at ended bytes d → p ≡ standing_told d.0
  decided_there bytes at d is agrees judged =
      let here = subst (λ (l : Option (List ℕ)). Behind p settings ended l late waiting last) is behind in
      let t = told settings ended bytes late at waiting last p lives here agrees in
      t.stands ∙ ap (λ (e : Decision). standing_told e.0) (one settings at ended bytes t.decision d t.judged judged)

  abbrev pub Meets : ℕ → ℕ → Type 0
  Meets answered sound = ((p ≡ Waiting) × (answered < sound)) ⊎ ((p ≡ Over) × (left ≡ Some rest))

  meets_more : (n m : ℕ) → Meets n m → Meets (suc n) (suc m)
  meets_more n m (inl waits) = let fewer = waits.1 in inl (waits.0, omega (arith, fewer))
  meets_more n m (inr over) = inr over

  pub meets : (ms : List Message) (xs : List Exchange) (bytes : List ℕ) → Walks settings ended bytes ms (Some rest) → Walks settings ended bytes (map message_of xs) left
      → (moments_of ms ++ moment ∷ []) ++ more ≡ (map (λ (x : Exchange). x.context.moment) xs ++ late) ++ later → Meets (length xs) (length ms)
  meets [] [] bytes v w moments =
      let same : rest ≡ bytes = cc in
      let judged = subst (λ (b : List ℕ). Judges settings moment ended b (refused_message code head_only)) same refused in
      inr (decided_there bytes moment (refused_message code head_only) w (agrees_first moment more late later moments) judged, w ∙ ap (λ (b : List ℕ). Some b) (sym same))
  meets [] (x ∷ xs) bytes v w moments =
      let same : rest ≡ bytes = cc in
      let at : moment ≡ x.context.moment = cc in
      let judged = subst (λ (b : List ℕ). Judges settings moment ended b (refused_message code head_only)) same refused in
      let other = subst (λ (m : ℕ). Judges settings m ended bytes (verdicts.Sound x.context x.command, w.0)) (sym at) w.1 in
      let decided = ap (λ (d : Decision). d.0) (one settings moment ended bytes (refused_message code head_only) (verdicts.Sound x.context x.command, w.0) judged other) in
      absurd (cc)
  meets (m ∷ ms) [] bytes v w moments =
      inl (
        decided_there bytes m.context.moment (verdicts.Sound m.context m.command, v.0) w
            (agrees_first m.context.moment ((moments_of ms ++ moment ∷ []) ++ more) late later moments) v.1,
        omega arith,
      )
  meets (m ∷ ms) (x ∷ xs) bytes v w moments =
      let at : x.context.moment ≡ m.context.moment = cc in
      let judged = subst (λ (k : ℕ). Judges settings k ended bytes (verdicts.Sound x.context x.command, w.0)) at w.1 in
      let both = one settings m.context.moment ended bytes (verdicts.Sound m.context m.command, v.0) (verdicts.Sound x.context x.command, w.0) v.1 judged in
      let same = ap (λ (d : Decision). d.0) both in
      let contexts : m.context ≡ x.context = cc in
      let rests : w.0 ≡ v.0 = sym (ap (λ (d : Decision). d.1) both) in
      let next = subst (λ (c : Context). MatchBool c.closes ((map message_of xs ≡ []) × (left ≡ None)) (Walks settings ended w.0 (map message_of xs) left)) (sym contexts) w.3 in
      elim (cases_Bool m.context.closes) [
        | inl closing ↦ let shut = (MatchBool-at_true _ _ closing v.3).1 in absurd (cc)
        | inr open_still ↦ meets_more (length xs) (length ms) (meets ms xs v.0 (MatchBool-at_false _ _ open_still v.3)
            (subst (λ (r : List ℕ). Walks settings ended r (map message_of xs) left) rests (MatchBool-at_false _ _ open_still next)) (cc))
      ]

module _ (settings : Settings) (session : Connection) (past : Past) (sent : List ℕ) (h : Stands session settings past sent) where
  -- where none was refused, there is none
  module _ (one : OneVerdict) (lives : is_dead (standing_of session) ≡ false) (none : refused_at session.stage ≡ None) (moments : List ℕ) (front : IsPrefix past.moments moments)
      (all : is_waiting (standing_of session) ≡ true → moments ≡ past.moments) where
    -- by what stands behind the messages that were answered, in these bytes
    none_behind : (bytes : List ℕ) (ended : Bool) (left : Option (List ℕ)) → Walks settings ended bytes (map message_of h.serves.exchanges) left
        → Behind (standing_of session) settings ended left (moment_at session.stage) h.waiting h.last
        → ((rest : List ℕ) → left ≡ Some rest → (b : List ℕ) × (h.left ≡ Some b)) → HasNoFault settings bytes ended moments
    none_behind bytes ended left walk behind there number code f =
        let xs = h.serves.exchanges in
        let late = moment_at session.stage in
        let given = ap (λ (ms : List ℕ). ms ++ front.0) h.serves.moments in
        elim (meets one settings ended (standing_of session) lives code f.head_only f.moment f.given.0 f.rest f.judged left late front.0 h.waiting h.last behind
        f.messages xs bytes f.walk walk (f.given.1 ∙ sym front.1 ∙ given)) [
          | inl waits ↦ not_behind f.messages xs f.moment f.given.0 late (f.given.1 ∙ all (ap is_waiting waits.0) ∙ h.serves.moments) (few_late session.stage) waits.1
          | inr over ↦
              (let b = there f.rest over.1 in
              let here = subst (λ (l : Option (List ℕ)). HereOr settings session past.ended l h.waiting h.last) b.1 h.here in
              let refused = over_refused session.stage settings session past.ended b.0 h.waiting h.last over.0 here in
              let never = sym refused.1 ∙ none in cc)
        ]

    pub none_told : ReadersJudge → VerdictsStay → InvitationsStay → HeadsStay → (more : List ℕ) (ended : Bool) → IsUnheard (standing_of session) past more ended
        → HasNoFault settings (past.bytes ++ more) ended moments
    none_told judge stay invited heads more ended (inl nothing) =
        let here = stands_behind judge settings session past.ended h.waiting h.last h.left h.here in
        subst (λ (b : List ℕ). HasNoFault settings b ended moments) (sym (ap (λ (b : List ℕ). past.bytes ++ b) nothing.0 ∙ append-nil past.bytes))
        (subst (λ (e : Bool). HasNoFault settings past.bytes e moments) (sym nothing.1) (none_behind past.bytes past.ended h.left h.serves.walk here (λ rest is. (rest, is))))
    none_told judge stay invited heads more ended (inr closed) =
        let here = stands_behind judge settings session past.ended h.waiting h.last h.left h.here in
        let behind = behind_stays stay invited heads settings more ended (standing_of session) h.left (moment_at session.stage) h.waiting h.last closed.1
        (subst (λ e. Behind (standing_of session) settings e h.left (moment_at session.stage) h.waiting h.last) closed.0 here) in
        none_behind (past.bytes ++ more) ended (option_map (λ (rest : List ℕ). rest ++ more) h.left)
        (walk_more stay invited settings ended more past (map message_of h.serves.exchanges) h.left closed.0 h.serves.walk) behind (some_before h.left more)

-- ---- the laws

module _ (one : OneVerdict) (settings : Settings) (ended : Bool) (code other : Code) (head_only alone : Bool) (moment its : ℕ) (more later : List ℕ) (rest end : List ℕ)
    (refused : Judges settings moment ended rest (refused_message code head_only)) (also : Judges settings its ended end (refused_message other alone)) where
  same_place : (ms ns : List Message) (bytes : List ℕ) → Walks settings ended bytes ms (Some rest) → Walks settings ended bytes ns (Some end)
      → (moments_of ms ++ moment ∷ []) ++ more ≡ (moments_of ns ++ its ∷ []) ++ later → (length ms ≡ length ns) × (code ≡ other)
  same_place [] [] bytes v w moments =
      let at : moment ≡ its = cc in
      let mine : rest ≡ bytes = cc in
      let that : end ≡ bytes = cc in
      let judged = subst (λ (b : List ℕ). Judges settings moment ended b (refused_message code head_only)) mine refused in
      let too = subst (λ (k : ℕ). Judges settings k ended bytes (refused_message other alone)) (sym at) (subst (λ (b : List ℕ). Judges settings its ended b (refused_message other alone)) that also) in
      let decided = ap (λ (d : Decision). d.0) (one settings moment ended bytes (refused_message code head_only) (refused_message other alone) judged too) in
      (refl, cc)
  same_place [] (n ∷ ns) bytes v w moments =
      let at : n.context.moment ≡ moment = cc in
      let mine : rest ≡ bytes = cc in
      let judged = subst (λ (b : List ℕ). Judges settings moment ended b (refused_message code head_only)) mine refused in
      let sound = subst (λ (k : ℕ). Judges settings k ended bytes (verdicts.Sound n.context n.command, w.0)) at w.1 in
      let decided = ap (λ (d : Decision). d.0) (one settings moment ended bytes (refused_message code head_only) (verdicts.Sound n.context n.command, w.0) judged sound) in
      absurd (cc)
  same_place (m ∷ ms) [] bytes v w moments =
      let at : m.context.moment ≡ its = cc in
      let that : end ≡ bytes = cc in
      let judged = subst (λ (b : List ℕ). Judges settings its ended b (refused_message other alone)) that also in
      let sound = subst (λ (k : ℕ). Judges settings k ended bytes (verdicts.Sound m.context m.command, v.0)) at v.1 in
      let decided = ap (λ (d : Decision). d.0) (one settings its ended bytes (refused_message other alone) (verdicts.Sound m.context m.command, v.0) judged sound) in
      absurd (cc)
  same_place (m ∷ ms) (n ∷ ns) bytes v w moments =
      let at : n.context.moment ≡ m.context.moment = cc in
      let judged = subst (λ (k : ℕ). Judges settings k ended bytes (verdicts.Sound n.context n.command, w.0)) at w.1 in
      let both = one settings m.context.moment ended bytes (verdicts.Sound m.context m.command, v.0) (verdicts.Sound n.context n.command, w.0) v.1 judged in
      let same = ap (λ (d : Decision). d.0) both in
      let contexts : m.context ≡ n.context = cc in
      let rests : w.0 ≡ v.0 = sym (ap (λ (d : Decision). d.1) both) in
      let next = subst (λ (c : Context). MatchBool c.closes ((ns ≡ []) × (◌≡◌ {A = Option (List ℕ)} (Some end) None)) (Walks settings ended w.0 ns (Some end))) (sym contexts) w.3 in
      elim (cases_Bool m.context.closes) [
        | inl closing ↦ let shut = (MatchBool-at_true _ _ closing v.3).1 in absurd (cc)
        | inr open_still ↦
            (let behind = same_place ms ns v.0 (MatchBool-at_false _ _ open_still v.3)
            (subst (λ (r : List ℕ). Walks settings ended r ns (Some end)) rests (MatchBool-at_false _ _ open_still next)) (cc) in
            (ap (λ (k : ℕ). suc k) behind.0, behind.1))
      ]

pub one_fault : OneVerdict → OneFault
one_fault one settings bytes ended moments n m c d f g =
    let same = same_place one settings ended c d f.head_only g.head_only f.moment g.moment f.given.0 g.given.0 f.rest g.rest f.judged g.judged
    f.messages g.messages bytes f.walk g.walk (f.given.1 ∙ sym g.given.1) in
    (f.counted ∙ ap (λ (k : ℕ). min k most_counted) same.0 ∙ sym g.counted, same.1)

pub faults_stay : VerdictsStay → InvitationsStay → FaultsStay
faults_stay stay invited settings bytes more ended moments number code f = record {
  messages = f.messages;
  rest = f.rest ++ more;
  moment = f.moment;
  head_only = f.head_only;
  walk = walks_on stay invited settings ended bytes more f.messages (Some f.rest) f.walk;
  judged = stay settings f.moment ended f.rest more (verdicts.Refused code f.head_only) [] f.judged (λ is. absurd (cc));
  given = f.given;
  counted = f.counted;
}
