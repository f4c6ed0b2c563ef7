-- The refusal that is printed of a message.
use Rattle.std.proofs.Common.{◌≡◌, ◌≤◌, ◌⊎◌, ℕ, min, Bool, List, [], ◌∷◌, ◌++◌, length, map, Option, Some, None, refl, sym, ap, subst, ◌∙◌, append-nil, append_assoc, arith, inl, inr}
use Rattle.std.proofs.lemmas.List.{length-map}
use mathlib.Core.List.{IsPrefix}
use Rattle.s3_config.specs.Settings.{Settings}
use Rattle.s3_terms.specs.declared.code.Code.{Code}
use Rattle.s3_machine.specs.declared.turn.Turn.{Turn}
use Rattle.s3_session.specs.Fault.{IsFault, most_counted}
use Rattle.s3_session.specs.Laws.{OneVerdict}
use Rattle.s3_session.specs.Output.{Behind, Exchange, IsRefused, Past, Serves, Standing, Over, Waiting, is_waiting, message_of}
use Rattle.s3_session.specs.PrintedFault.{EndsWithRefusal, FaultsArePrinted, PrintedAreFaults, TwoEnds}
use Rattle.s3_session.specs.Session.{Connection, moment_at, refused_at, unsent_of}
use Rattle.s3_session.specs.Stands.{Stands}
use Rattle.s3_session.proofs.FaultLemmas.{meets, moments_of, moments_same, not_behind, one_fault, refused_is, refused_there}

-- as many were answered as there are exchanges
as_many : (settings : Settings) (past : Past) (out : List ℕ) (left : Option (List ℕ)) (late : List ℕ) (waiting : List Turn)
    (last : List ℕ) → (s : Serves settings past out left late waiting last) → length past.answers ≡ length s.exchanges
as_many settings past out left late waiting last s = ap length s.answers ∙ length-map s.exchanges (λ (x : Exchange). x.answer)

-- where a message is refused behind those that were answered, its refusal ends what was written
ends_refused : (settings : Settings) (past : Past) (out : List ℕ) (number : ℕ) → number ≡ min (length past.answers) most_counted
    → (rest late : List ℕ) (waiting : List Turn) (last : List ℕ) → Serves settings past out (Some rest) late waiting last
    → (r : IsRefused settings past.ended rest late waiting last) → EndsWithRefusal settings past out number r.code
ends_refused settings past out number counted rest late waiting last s r =
    let served : Serves settings past out (Some rest) (r.moment ∷ []) [] (r.before ++ r.text) =
    subst (λ (l : List ℕ). Serves settings past out (Some rest) l [] (r.before ++ r.text)) r.asked
    (subst (λ (t : List Turn). Serves settings past out (Some rest) late t (r.before ++ r.text)) r.none
    (subst (λ (e : List ℕ). Serves settings past out (Some rest) late waiting e) r.joined s)) in
    record {
      rest = rest;
      moment = r.moment;
      head_only = r.head_only;
      before = r.before;
      text = r.text;
      serves = served;
      counted = counted ∙ ap (λ (n : ℕ). min n most_counted)
          (as_many settings past out (Some rest) (r.moment ∷ []) [] (r.before ++ r.text) served);
      judged = r.judged;
      invites = r.invites;
      printed = r.printed;
    }

-- and that message is the first fault
ended_fault : (settings : Settings) (past : Past) (out : List ℕ) (number : ℕ) (code : Code)
    → EndsWithRefusal settings past out number code → IsFault settings past.bytes past.ended past.moments number code
ended_fault settings past out number code e =
    let xs = e.serves.exchanges in
    record {
      messages = map message_of xs;
      rest = e.rest;
      moment = e.moment;
      head_only = e.head_only;
      walk = e.serves.walk;
      judged = e.judged;
      given = (
        [],
        append-nil (moments_of (map message_of xs) ++ e.moment ∷ [])
            ∙ ap (λ (ms : List ℕ). ms ++ e.moment ∷ []) (moments_same xs) ∙ sym e.serves.moments,
      );
      counted = e.counted ∙ ap (λ (n : ℕ). min n most_counted) (sym (length-map xs message_of));
    }

-- ---- a session that tells a fault

module _ (settings : Settings) (session : Connection) (past : Past) (sent : List ℕ) (h : Stands session settings past sent)
    (code : Code) (is : refused_at session.stage ≡ Some code) where
  pub printed_told : EndsWithRefusal settings past (sent ++ unsent_of session) session.answered code
  printed_told =
      let out = sent ++ unsent_of session in
      let refused = refused_is session.stage code is in
      let late = refused.0 ∷ [] in
      let a = refused_there settings session past.ended refused.0 code h.left h.waiting h.last refused.1 h.here in
      let served : Serves settings past out (Some a.0) late h.waiting h.last =
      subst (λ (l : Option (List ℕ)). Serves settings past out l late h.waiting h.last) a.1
      (subst (λ (ms : List ℕ). Serves settings past out h.left ms h.waiting h.last) (ap moment_at refused.1) h.serves) in
      subst (λ (c : Code). EndsWithRefusal settings past out session.answered c) a.2.1
      (ends_refused settings past out session.answered h.counted a.0 late h.waiting h.last served a.2.0)

  pub fault_told : IsFault settings past.bytes past.ended past.moments session.answered code
  fault_told = ended_fault settings past (sent ++ unsent_of session) session.answered code printed_told

-- ---- the laws

-- a fault among the messages of some moments is one among those of more
fault_among : (settings : Settings) (bytes : List ℕ) (ended : Bool) (few many : List ℕ) (number : ℕ) (code : Code)
    → IsPrefix few many → IsFault settings bytes ended few number code → IsFault settings bytes ended many number code
fault_among settings bytes ended few many number code front f = record {
  messages = f.messages;
  rest = f.rest;
  moment = f.moment;
  head_only = f.head_only;
  walk = f.walk;
  judged = f.judged;
  given = (
    f.given.0 ++ front.0,
    sym (append_assoc (moments_of f.messages ++ f.moment ∷ []) f.given.0 front.0)
        ∙ ap (λ (ms : List ℕ). ms ++ front.0) f.given.1 ∙ front.1,
  );
  counted = f.counted;
}

-- the command that waits has a moment
few_waiting : (settings : Settings) (ended : Bool) (left : Option (List ℕ)) (late : List ℕ) (waiting : List Turn) (last : List ℕ)
    → Behind Waiting settings ended left late waiting last → length late ≤ 1
few_waiting settings ended (Some rest) late waiting last w = let one = ap length w.asked in omega (arith, one)
few_waiting settings ended None late waiting last w = absurd w

pub faults_are_printed : OneVerdict → FaultsArePrinted
faults_are_printed one settings standing past out moments number code f lives front all w =
    let s = w.serves in
    let mine = min (length past.answers) most_counted in
    elim (meets one settings past.ended standing lives code f.head_only f.moment f.given.0 f.rest f.judged w.left w.late front.0 w.waiting w.last w.behind
    f.messages s.exchanges past.bytes f.walk s.walk (f.given.1 ∙ sym front.1 ∙ ap (λ (ms : List ℕ). ms ++ front.0) s.moments)) [
      | inl waits ↦
          (let behind = subst (λ (p : Standing). Behind p settings past.ended w.left w.late w.waiting w.last) waits.0 w.behind in
          let few = few_waiting settings past.ended w.left w.late w.waiting w.last behind in
          absurd (not_behind f.messages s.exchanges f.moment f.given.0 w.late (f.given.1 ∙ all (ap is_waiting waits.0) ∙ s.moments) few waits.1))
      | inr over ↦
          (let served = subst (λ (l : Option (List ℕ)). Serves settings past out l w.late w.waiting w.last) over.1 s in
          let refused = subst (λ (p : Standing). Behind p settings past.ended (Some f.rest) w.late w.waiting w.last) over.0
          (subst (λ (l : Option (List ℕ)). Behind standing settings past.ended l w.late w.waiting w.last) over.1 w.behind) in
          let ended = ends_refused settings past out mine refl f.rest w.late w.waiting w.last served refused in
          let same = one_fault one settings past.bytes past.ended moments mine number refused.code code
          (fault_among settings past.bytes past.ended past.moments moments mine refused.code front (ended_fault settings past out mine refused.code ended)) f in (
            over.0,
            subst (λ (n : ℕ). EndsWithRefusal settings past out n code) same.0 (subst (λ (c : Code). EndsWithRefusal settings past out mine c) same.1 ended),
          ))
    ]

pub printed_are_faults : PrintedAreFaults
printed_are_faults settings past out number code e = (
  record {
    left = Some e.rest;
    late = e.moment ∷ [];
    waiting = [];
    last = e.before ++ e.text;
    serves = e.serves;
    behind = record {
      moment = e.moment;
      code = code;
      head_only = e.head_only;
      before = e.before;
      text = e.text;
      asked = refl;
      none = refl;
      judged = e.judged;
      invites = e.invites;
      printed = e.printed;
      joined = refl;
    };
  },
  ended_fault settings past out number code e,
)

end_told : (settings : Settings) (past : Past) (out : List ℕ) (left : Option (List ℕ)) (late : List ℕ) (waiting : List Turn)
    (last : List ℕ) → Serves settings past out left late waiting last → Behind Over settings past.ended left late waiting last
    → Serves settings past out None [] [] [] ⊎ ((number : ℕ) × (code : Code) × EndsWithRefusal settings past out number code)
end_told settings past out (Some rest) late waiting last s r =
    let number = min (length past.answers) most_counted in
    inr (number, r.code, ends_refused settings past out number refl rest late waiting last s r)
end_told settings past out None late waiting last s c =
    inl (subst (λ (l : List ℕ). Serves settings past out None l [] []) c.0
    (subst (λ (t : List Turn). Serves settings past out None late t []) c.1 (subst (λ (e : List ℕ). Serves settings past out None late waiting e) c.2 s)))

pub two_ends : TwoEnds
two_ends settings past out w = end_told settings past out w.left w.late w.waiting w.last w.serves w.behind
