-- Events without what is refused: the shares of connections, and what they leave.
use Rattle.std.proofs.Common.{◌≡◌, ◌≢◌, ◌<◌, ◌≤◌, ◌+◌, ◌-◌, ◌⊎◌, ℕ, Bool, true, false, cond, Option, Some, None, Result, Ok, Err, IfOk, List, [], ◌∷◌, ◌++◌, length, take, map, refl, sym, ap, subst, ◌∙◌, arith, append-nil, append_assoc, eq-eqb, inl, inr}
use Rattle.std.proofs.lemmas.Bool.{cases_Bool, cases_lt}
use Rattle.std.proofs.lemmas.Bool.Decides.{eqb_tells}
use Rattle.std.proofs.lemmas.List.{get_or_append_left, get_or_past, get_or_push, length-append, length_push, map-append, take_all, take_min}
use Rattle.s3_config.specs.Settings.{Settings}
use Rattle.s3_events.specs.Lines.{Said}
use Rattle.s3_events.specs.Script.{connection_of_event, said_of_event}
use Rattle.s3_events.specs.declared.event.Event.{Event}
use Rattle.s3_events.specs.declared.event.Event.TheVariants as events
use Rattle.s3_connection.specs.Output.{Input}
use Rattle.s3_simulation.specs.Events.{brought, is_end, received}
use Rattle.s3_simulation.specs.Run.{moments_of}
use Rattle.s3_simulation.specs.StandsAfter.{heard}
use Rattle.s3_simulation.specs.Trimmed.{AreShares, AreTrimmed, HasSound, IsShare, Share, kept_after, kept_of, part_kept, piece_of}
use Rattle.s3_simulation.specs.Trimmed as shares
use Rattle.s3_simulation.specs.Trying.{AreFirstShares, EndsWithin, HasHeard, HasTaken, Tries, Trying, count_kept, kept_now, left_of, share_at, share_of, size_of, unended}
use Rattle.s3_simulation.specs.declared.share.Kept.{Kept}
use Rattle.s3_simulation.specs.declared.share.Kept.TheVariants as kepts
use Rattle.s3_simulation.proofs.EventLemmas.{received_ended, received_more, received_on, received_others}

abbrev input_with : List ℕ → Bool → Input
input_with bytes ended = record { bytes = bytes; ended = ended }

-- ---- what a connection received, with what happens later

-- behind its end nothing
pub received_stays : (c : ℕ) (before later : List Event) → (received c before).ended ≡ true → received c (before ++ later) ≡ received c before
received_stays c before [] ended = ap (received c) (append-nil before)
received_stays c before (e ∷ later) ended =
    let same = received_ended c before e ended in
    ap (received c) (sym (append_assoc before (e ∷ []) later)) ∙ received_stays c (before ++ e ∷ []) later (ap (λ (i : Input). i.ended) same ∙ ended) ∙ same

-- before it, more bytes
pub received_later : (c : ℕ) (before later : List Event) → (received c before).ended ≡ false
    → (more : List ℕ) × (ended : Bool) × (received c (before ++ later) ≡ record { bytes = (received c before).bytes ++ more; ended = ended })
received_later c before [] on = (
  [],
  false,
  ap (received c) (append-nil before)
      ∙ ap (input_with (received c before).bytes) on
      ∙ ap (λ (bs : List ℕ). input_with bs false) (sym (append-nil (received c before).bytes)),
)
received_later c before (e ∷ later) on =
    let next = received_on c before e on in
    let joined = ap (received c) (sym (append_assoc before (e ∷ []) later)) in
    elim (cases_Bool (is_end c e)) [
      | inl ends ↦ (
        brought c e,
        true,
        joined ∙ received_stays c (before ++ e ∷ []) later (ap (λ (i : Input). i.ended) next ∙ ends) ∙ next
            ∙ ap (input_with ((received c before).bytes ++ brought c e)) ends,
      )
      | inr goes ↦
          (let rest = received_later c (before ++ e ∷ []) later (ap (λ (i : Input). i.ended) next ∙ goes) in (
            brought c e ++ rest.0,
            rest.1,
            joined ∙ rest.2
                ∙ ap (λ (bs : List ℕ). input_with (bs ++ rest.0) rest.1) (ap (λ (i : Input). i.bytes) next)
                ∙ ap (λ (bs : List ℕ). input_with bs rest.1) (append_assoc (received c before).bytes (brought c e) rest.0),
          ))
    ]

-- with an event of its own
pub received_mine : (c : ℕ) (before : List Event) (e : Event) → connection_of_event e ≡ c → received c (before ++ e ∷ []) ≡ heard e (received c before)
received_mine c before e mine =
    received_more c before e ∙ ap (λ (b : Bool). cond b (heard e (received c before)) (received c before)) (eq-eqb (connection_of_event e) c mine)

-- ---- a connection on trial hears of an event

module _ (t : Trying) (settings : Settings) (moments : List ℕ) (c : ℕ) (before : List Event) (e : Event) (on : (received c before).ended ≡ false) where
  taken_heard : (told : Option Kept) (piece : List ℕ) → received c (before ++ e ∷ []) ≡ unended ((received c before).bytes ++ piece)
      → HasTaken told t settings moments ((received c before).bytes ++ piece) → HasHeard told t settings moments c (before ++ e ∷ [])
  taken_heard None piece is taken =
      (ap (λ (i : Input). i.ended) is, subst (Tries t settings moments) (sym (ap (λ (i : Input). i.bytes) is)) taken)
  taken_heard (Some kept) piece is taken =
      λ later.
      (let rest = received_later c (before ++ e ∷ []) later (ap (λ (i : Input). i.ended) is) in
      subst (λ (i : Input). IsShare settings moments i (share_of kept))
      (sym (rest.2 ∙ ap (λ (bs : List ℕ). input_with (bs ++ rest.0) rest.1) (ap (λ (i : Input). i.bytes) is)))
      (taken rest.0 rest.1))

  -- a piece
  pub piece_heard : {E : Type 0} (result : Result (Option Kept) E) (piece : List ℕ) → heard e (unended (received c before).bytes) ≡ unended ((received c before).bytes ++ piece)
      → connection_of_event e ≡ c
      → IfOk result (λ told. HasTaken told t settings moments ((received c before).bytes ++ piece))
      → IfOk result (λ told. HasHeard told t settings moments c (before ++ e ∷ []))
  piece_heard (Ok told) piece is mine taken =
      taken_heard told piece (received_mine c before e mine ∙ ap (λ (b : Bool). heard e (input_with (received c before).bytes b)) on ∙ is) taken
  piece_heard (Err e) piece is mine taken = tt

  -- its end
  pub end_heard : (kept : Kept) → heard e (received c before) ≡ record { bytes = (received c before).bytes; ended = true } → connection_of_event e ≡ c
      → IsShare settings moments (record { bytes = (received c before).bytes; ended = true }) (share_of kept)
      → HasHeard (Some kept) t settings moments c (before ++ e ∷ [])
  end_heard kept is mine share later =
      let all = received_mine c before e mine ∙ is in
      subst (λ (i : Input). IsShare settings moments i (share_of kept)) (sym (received_stays c (before ++ e ∷ []) later (ap (λ (i : Input). i.ended) all) ∙ all)) share

  -- an event that brings it nothing
  pub nothing_heard : received c (before ++ e ∷ []) ≡ received c before → Tries t settings moments (received c before).bytes
      → HasHeard None t settings moments c (before ++ e ∷ [])
  nothing_heard same tries =
      (ap (λ (i : Input). i.ended) same ∙ on, subst (Tries t settings moments) (sym (ap (λ (i : Input). i.bytes) same)) tries)

-- what was heard, by what is told
pub some_heard : (told : Option Kept) (kept : Kept) (t : Trying) (settings : Settings) (moments : List ℕ) (c : ℕ) (happened later all : List Event)
    → HasHeard told t settings moments c happened → told ≡ Some kept → happened ++ later ≡ all → IsShare settings moments (received c all) (share_of kept)
some_heard told kept t settings moments c happened later all has is split =
    subst (λ (es : List Event). IsShare settings moments (received c es) (share_of kept)) split
    (subst (λ (o : Option Kept). HasHeard o t settings moments c happened) is has later)

pub none_heard : (told : Option Kept) (t : Trying) (settings : Settings) (moments : List ℕ) (c : ℕ) (happened : List Event)
    → HasHeard told t settings moments c happened → told ≡ None → ((received c happened).ended ≡ false) × Tries t settings moments (received c happened).bytes
none_heard told t settings moments c happened has is = subst (λ (o : Option Kept). HasHeard o t settings moments c happened) is has

-- all that it received, where its end did not come
pub share_of_all : (settings : Settings) (moments : List ℕ) (c : ℕ) (all happened : List Event) (share : Share) → happened ≡ all → (received c happened).ended ≡ false
    → IsShare settings moments (unended (received c happened).bytes) share → IsShare settings moments (received c all) share
share_of_all settings moments c all happened share same on is =
    subst (λ (es : List Event). IsShare settings moments (received c es) share) same
    (subst (λ (b : Bool). IsShare settings moments (input_with (received c happened).bytes b) share) (sym on) is)

-- ---- shares

ends_within : (settings : Settings) (moments : List ℕ) (input : Input) (share : Share) → IsShare settings moments input share → EndsWithin share input
ends_within settings moments input shares.Nothing is = tt
ends_within settings moments input shares.All is = tt
ends_within settings moments input (shares.UpTo place) is = is.1

nothing_within : (input : Input) (share : Share) → share ≡ shares.Nothing → EndsWithin share input
nothing_within input shares.Nothing is = tt
nothing_within input shares.All is = tt
nothing_within input (shares.UpTo place) is = absurd (cc)

module _ (settings : Settings) (moments : List (List ℕ)) (happened : List Event) where
  pub shares_none : AreFirstShares settings moments happened [] 0
  shares_none = record { count = refl; there = λ c less. absurd (omega (arith, less)) }

  pub shares_more : (kept : List Kept) (made : ℕ) (share : Kept) → AreFirstShares settings moments happened kept made
      → IsShare settings (moments_of made moments) (received made happened) (share_of share)
      → AreFirstShares settings moments happened (kept ++ share ∷ []) (made + 1)
  shares_more kept made share before one = record {
    count = length_push kept share ∙ ap (λ (n : ℕ). n + 1) before.count;
    there = λ c less.
        elim (cases_lt c made) [
          | inl earlier ↦
              (let within : c < length kept = omega (arith, earlier, before.count) in
              subst (λ (k : Kept). IsShare settings (moments_of c moments) (received c happened) (share_of k))
              (sym (get_or_append_left kept (share ∷ []) kepts.Nothing c within)) (before.there c earlier))
          | inr last ↦
              (let place : c ≡ made = omega (arith, less, last) in
              subst (λ (k : Kept). IsShare settings (moments_of c moments) (received c happened) (share_of k))
              (sym (get_or_push kept share kepts.Nothing c (before.count ∙ sym place)))
              (subst (λ (n : ℕ). IsShare settings (moments_of n moments) (received n happened) (share_of share)) (sym place) one))
        ];
  }

  pub shares_all : (kept : List Kept) → AreFirstShares settings moments happened kept (length moments) → AreShares settings moments happened (share_at kept)
  shares_all kept all = record {
    there = all.there;
    nowhere = λ c past. (let beyond : length kept ≤ c = omega (arith, past, all.count) in ap share_of (get_or_past kept c kepts.Nothing beyond));
  }

  -- each ends within what is received
  pub shares_end : (share : ℕ → Share) → AreShares settings moments happened share → (c : ℕ) → EndsWithin (share c) (received c happened)
  shares_end share are c =
      elim (cases_lt c (length moments)) [
        | inl less ↦ ends_within settings (moments_of c moments) (received c happened) (share c) (are.there c less)
        | inr past ↦ nothing_within (received c happened) (share c) (are.nowhere c past)
      ]

-- where nothing happened, or there are no connections, none has a share
pub shares_nothing : (settings : Settings) (moments : List (List ℕ)) (happened : List Event)
    → ((ms : List ℕ) → ¬ (HasSound settings ms (unended []))) → (moments ≡ []) ⊎ (happened ≡ [])
    → AreShares settings moments happened (λ c. shares.Nothing)
shares_nothing settings moments happened none (inl nobody) = record {
  there = λ c less. absurd (omega (arith, less, ap length nobody));
  nowhere = λ c past. refl;
}
shares_nothing settings moments happened none (inr nothing) = record {
  there = λ c less sound. none (moments_of c moments) (subst (λ (es : List Event). HasSound settings (moments_of c moments) (received c es)) nothing sound);
  nowhere = λ c past. refl;
}

-- and then nothing is kept
nothing_of : (before : List Event) (e : Event) → kept_of (λ c. shares.Nothing) before e ≡ []
nothing_of before (events.Piece c bytes) = refl
nothing_of before (events.End c) = refl
nothing_of before (events.Turn c) = refl

pub nothing_kept : (before happened : List Event) → kept_after (λ c. shares.Nothing) before happened ≡ []
nothing_kept before [] = refl
nothing_kept before (e ∷ happened) =
    ap (λ (s : List Said). s ++ kept_after (λ c. shares.Nothing) (before ++ e ∷ []) happened) (nothing_of before e) ∙ nothing_kept (before ++ e ∷ []) happened

pub trimmed_nothing : (settings : Settings) (moments : List (List ℕ)) (happened made : List Event)
    → ((ms : List ℕ) → ¬ (HasSound settings ms (unended []))) → (moments ≡ []) ⊎ (happened ≡ []) → made ≡ []
    → AreTrimmed settings moments happened made
trimmed_nothing settings moments happened made none either is = (
  (λ c. shares.Nothing),
  shares_nothing settings moments happened none either,
  ap (map said_of_event) is ∙ sym (nothing_kept [] happened),
)

-- ---- what is kept of events, one after another

-- with one event more
kept_more : (share : ℕ → Share) (before happened : List Event) (e : Event)
    → kept_after share before (happened ++ e ∷ []) ≡ kept_after share before happened ++ kept_of share (before ++ happened) e
kept_more share before [] e = append-nil (kept_of share before e) ∙ ap (λ (b : List Event). kept_of share b e) (sym (append-nil before))
kept_more share before (x ∷ happened) e =
    ap (λ (s : List Said). kept_of share before x ++ s)
    (kept_more share (before ++ x ∷ []) happened e
    ∙ ap (λ (b : List Event). kept_after share (before ++ x ∷ []) happened ++ kept_of share b e) (append_assoc before (x ∷ []) happened))
    ∙ sym (append_assoc (kept_of share before x) (kept_after share (before ++ x ∷ []) happened) (kept_of share (before ++ x ∷ happened) e))

part_now : (share : Share) (received : ℕ) (bytes : List ℕ) → part_kept share received bytes ≡ part_kept (left_of share received) 0 bytes
part_now shares.Nothing size bytes = refl
part_now shares.All size bytes = refl
part_now (shares.UpTo place) size bytes = let same : place - size ≡ place - size - 0 = omega arith in ap (λ (n : ℕ). take n bytes) same

end_now : (share : Share) (received c : ℕ) → kept_now (left_of share received) (events.End c) ≡ kept_now share (events.End c)
end_now shares.Nothing size c = refl
end_now shares.All size c = refl
end_now (shares.UpTo place) size c = refl

turn_now : (share : Share) (received c : ℕ) → kept_now (left_of share received) (events.Turn c) ≡ kept_now share (events.Turn c)
turn_now shares.Nothing size c = refl
turn_now shares.All size c = refl
turn_now (shares.UpTo place) size c = refl

end_said : (share : Share) (before : List Event) (c : ℕ) → kept_of (λ k. share) before (events.End c) ≡ kept_now share (events.End c)
end_said shares.Nothing before c = refl
end_said shares.All before c = refl
end_said (shares.UpTo place) before c = refl

turn_said : (share : Share) (before : List Event) (c : ℕ) → kept_of (λ k. share) before (events.Turn c) ≡ kept_now share (events.Turn c)
turn_said shares.Nothing before c = refl
turn_said shares.All before c = refl
turn_said (shares.UpTo place) before c = refl

-- by what the share of its connection leaves
of_now : (share : ℕ → Share) (before : List Event) (e : Event)
    → kept_of share before e ≡ kept_now (left_of (share (connection_of_event e)) (length (received (connection_of_event e) before).bytes)) e
of_now share before (events.Piece c bytes) = ap (piece_of c) (part_now (share c) (length (received c before).bytes) bytes.items)
of_now share before (events.End c) = end_said (share c) before c ∙ sym (end_now (share c) (length (received c before).bytes) c)
of_now share before (events.Turn c) = turn_said (share c) before c ∙ sym (turn_now (share c) (length (received c before).bytes) c)

-- what is left behind more bytes
left_more : (share : Share) (received size : ℕ) → left_of (left_of share received) size ≡ left_of share (received + size)
left_more shares.Nothing before size = refl
left_more shares.All before size = refl
left_more (shares.UpTo place) before size = ap shares.UpTo (omega arith)

left_none : (share : Share) (input : Input) (size : ℕ) → EndsWithin share input → left_of (left_of share (length input.bytes)) size ≡ left_of share (length input.bytes)
left_none shares.Nothing input size within = refl
left_none shares.All input size within = refl
left_none (shares.UpTo place) input size within = ap shares.UpTo (omega (arith, within))

brought_mine : (e : Event) → length (brought (connection_of_event e) e) ≡ size_of e
brought_mine (events.Piece c bytes) = ap (λ (b : Bool). length (cond b bytes.items [])) (eq-eqb c c refl)
brought_mine (events.End c) = refl
brought_mine (events.Turn c) = refl

-- behind an event of its own
left_mine : (share : Share) (before later : List Event) (e : Event) → EndsWithin share (received (connection_of_event e) (before ++ e ∷ later))
    → left_of (left_of share (length (received (connection_of_event e) before).bytes)) (size_of e)
    ≡ left_of share (length (received (connection_of_event e) (before ++ e ∷ [])).bytes)
left_mine share before later e within =
    let c = connection_of_event e in
    elim (cases_Bool (received c before).ended) [
      | inl ended ↦
          left_none share (received c before) (size_of e) (subst (EndsWithin share) (received_stays c before (e ∷ later) ended) within)
          ∙ ap (λ (i : Input). left_of share (length i.bytes)) (sym (received_ended c before e ended))
      | inr on ↦
          left_more share (length (received c before).bytes) (size_of e)
          ∙ ap (λ (n : ℕ). left_of share (length (received c before).bytes + n)) (sym (brought_mine e))
          ∙ ap (left_of share) (sym (length-append (received c before).bytes (brought c e)))
          ∙ ap (λ (i : Input). left_of share (length i.bytes)) (sym (received_on c before e on))
    ]

-- the shares leave this behind events
abbrev pub AreLeft : (ℕ → Share) → (ℕ → Share) → List Event → Type 0
AreLeft share left before = (c : ℕ) → left c ≡ left_of (share c) (length (received c before).bytes)

left_all : (share : Share) → share ≡ left_of share 0
left_all shares.Nothing = refl
left_all shares.All = refl
left_all (shares.UpTo place) = ap shares.UpTo (omega arith)

pub left_first : (share : ℕ → Share) → AreLeft share share []
left_first share c = left_all (share c)

module _ (share left next : ℕ → Share) (before later : List Event) (e : Event) (are : AreLeft share left before) where
  pub left_next : ((c : ℕ) → EndsWithin (share c) (received c (before ++ e ∷ later)))
      → next (connection_of_event e) ≡ left_of (left (connection_of_event e)) (size_of e)
      → ((c : ℕ) → c ≢ connection_of_event e → next c ≡ left c)
      → AreLeft share next (before ++ e ∷ [])
  left_next within own others c =
      elim (eqb_tells c (connection_of_event e)) [
        | inl mine ↦
            subst (λ (k : ℕ). next k ≡ left_of (share k) (length (received k (before ++ e ∷ [])).bytes)) (sym mine.1)
            (own ∙ ap (λ (s : Share). left_of s (size_of e)) (are (connection_of_event e))
            ∙ left_mine (share (connection_of_event e)) before later e (within (connection_of_event e)))
        | inr other ↦
            others c other.1 ∙ are c
            ∙ ap (λ (i : Input). left_of (share c) (length i.bytes)) (sym (received_others c before e (λ same. other.1 (sym same))))
      ]

  pub kept_next : (made more : List Event) → map said_of_event made ≡ kept_after share [] before
      → map said_of_event more ≡ map said_of_event made ++ kept_now (left (connection_of_event e)) e
      → map said_of_event more ≡ kept_after share [] (before ++ e ∷ [])
  kept_next made more so_far added =
      added ∙ ap (λ (s : List Said). s ++ kept_now (left (connection_of_event e)) e) so_far
      ∙ ap (λ (s : Share). kept_after share [] before ++ kept_now s e) (are (connection_of_event e))
      ∙ ap (λ (s : List Said). kept_after share [] before ++ s) (sym (of_now share before e))
      ∙ sym (kept_more share [] before e)

-- ---- an event that is added

pub part_count : (share : Share) (bytes : List ℕ) → take (count_kept share (length bytes)) bytes ≡ part_kept share 0 bytes
part_count shares.Nothing bytes = refl
part_count shares.All bytes = take_all (length bytes) bytes (omega arith)
part_count (shares.UpTo place) bytes = let same : place ≡ place - 0 = omega arith in take_min place bytes ∙ ap (λ (n : ℕ). take n bytes) same

-- one more
pub said_more : (made : List Event) (e : Event) → map said_of_event (made ++ e ∷ []) ≡ map said_of_event made ++ said_of_event e ∷ []
said_more made e = map-append said_of_event made (e ∷ [])

-- none
pub said_none : (made : List Event) → map said_of_event made ≡ map said_of_event made ++ []
said_none made = sym (append-nil (map said_of_event made))
