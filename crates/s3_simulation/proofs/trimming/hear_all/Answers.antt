use Rattle.std.proofs.Common.{◌≡◌, [], ◌∷◌, ◌++◌, ◌∙◌, ◌+◌, false, List, ap, arith, drop, refl, subst, sym, take}
use Rattle.std.proofs.lemmas.List.{take-append-drop, take_all, take_more}
use Rattle.s3_events.specs.declared.event.Event.{Event}
use Rattle.s3_simulation.specs.Events.{received}
use Rattle.s3_simulation.specs.Trying.{Tries}
use Rattle.s3_simulation.proofs.TrimLemmas.{none_heard, share_of_all, some_heard}
use Rattle.s3_simulation.proofs.trimming.hear_all.Goals as goal

pub loop-number-init : goal.loop-number-init
loop-number-init c = (c.requires.reads, λ moments tried. (refl, tried))

pub hear-requires : goal.hear-requires
hear-requires c = record { reads = c.loop-number.invariant.0 }

pub returns-in-Some : goal.returns-in-Some
returns-in-Some c moments tried =
    let events = c.args.events.now in
    let n = c.loop-number.number in
    let (on, tries) = c.loop-number.invariant.1 moments tried in
    let before = take n events in
    let e = c.index-events-number.result in
    let all : (before ++ e ∷ []) ++ drop (n + 1) events ≡ events =
    ap (λ (b : List Event). b ++ drop (n + 1) events)
    (ap (λ (x : Event). before ++ x ∷ []) c.index-events-number.is ∙ sym (take_more events n e c.loop-number-test.true))
    ∙ take-append-drop (n + 1) events in
    some_heard _ c.in-Some.kept _ c.args.config.now moments c.args.connection (before ++ e ∷ []) (drop (n + 1) events) events
    (c.in_ok-kept.ensures.heard moments before on tries) c.in-Some.is all

pub loop-number-preserved : goal.loop-number-preserved
loop-number-preserved c =
    let settings = c.args.config.now in
    let connection = c.args.connection in
    let events = c.args.events.now in
    let n = c.loop-number.number in
    let before = take n events in
    let e = c.index-events-number.result in
    let more : before ++ e ∷ [] ≡ take (n + 1) events =
    ap (λ (x : Event). before ++ x ∷ []) c.index-events-number.is ∙ sym (take_more events n e c.loop-number-test.true) in (
      c.in_ok-kept.ensures.reads c.in_default.is,
      λ moments tried.
          (let (on, tries) = c.loop-number.invariant.1 moments tried in
          subst (λ (es : List Event). ((received connection es).ended ≡ false) × Tries c.hear.new.trial settings moments (received connection es).bytes) more
          (none_heard c.in_ok-kept.field-0 c.hear.new.trial settings moments connection (before ++ e ∷ []) (c.in_ok-kept.ensures.heard moments before on tries) c.in_default.is)),
    )

pub kept-requires : goal.kept-requires
kept-requires c = record { reads = c.loop-number.invariant.0 }

pub returns : goal.returns
returns c moments tried =
    let (on, tries) = c.loop-number.invariant.1 moments tried in
    share_of_all c.args.config.now moments c.args.connection c.args.events.now (take c.loop-number.number c.args.events.now) _
    (take_all c.loop-number.number c.args.events.now (omega arith)) on (c.kept.ensures c.args.config.now moments _ tries)
