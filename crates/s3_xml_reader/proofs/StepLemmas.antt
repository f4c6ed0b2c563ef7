-- The elements that are still to end, step by step.
use Rattle.std.proofs.Common.{◌≡◌, ℕ, zero, suc, ◌<◌, Bool, true, false, ◌&&◌, nat_lt, List, [], ◌∷◌, ◌++◌, length, refl, sym, ap, ◌∙◌, arith, append-nil, Option, Some, None, option_map, if◌then◌else◌, ◌≢◌, IfSome, subst}
use Rattle.std.proofs.lemmas.Bool.{and_parts, false≢true}
use Rattle.std.proofs.lemmas.Slice.Eq.{bytes_eq-Decides}
use Rattle.std.specs.List.{list_all}
use Rattle.std.specs.Option.{unwrap_or}
use Rattle.std.specs.Str.{bytes_eq}
use Rattle.s3_xml.specs.Characters.{is_white}
use Rattle.s3_xml.specs.Documents.{goes_on, most_levels}
use Rattle.s3_xml.specs.Ended.{Ended, local_name, ended_in}
use Rattle.s3_xml.specs.Events.{Event, begin, text, end, text_in}
use Rattle.s3_xml.specs.Grammar as grammar
use Rattle.s3_xml.specs.Grammar.{told_at, told_within, events_of, with_line_feeds}
use Rattle.s3_xml.specs.Option.{◌>>=◌, ◌>>◌, where_so}
use Rattle.s3_xml_reader.proofs.OptionLemmas.{then_same}
use Rattle.s3_xml_reader.proofs.ToldShrinkLemmas.{TellsBelow, told_shrinks}
use Rattle.s3_xml_reader.specs.Names.{left_by}
use Rattle.s3_xml_reader.specs.Place.{State, Step, to_end, with_ended, may_end, at_begin, at_empty, at_end, at_text, at_text_of, at_told}
use Rattle.s3_xml_reader.specs.Texts.{text_of}
use Rattle.s3_xml_reader.specs.Told.{events_told, told_with}
use Rattle.s3_xml_reader.specs.declared.told.Told.{Told}
use Rattle.s3_xml_reader.specs.declared.told.Told.TheVariants.{Begin, Empty, End, Characters, Section, Comment}

abbrev with_front : List Event → Option (List Event) → Option (List Event)
with_front front more = more >>= λ more. Some (front ++ more)

-- of more steps than bytes none is missed
steps_enough : (most other : ℕ) (bytes : List ℕ) → length bytes < most → length bytes < other → told_within most bytes ≡ told_within other bytes
unfolding told_within
steps_enough zero other bytes enough enough2 = absurd (omega arith)
steps_enough (suc most) zero bytes enough enough2 = absurd (omega arith)
steps_enough (suc most) (suc other) [] enough enough2 = refl
steps_enough (suc most) (suc other) (b ∷ bytes) enough enough2 =
    then_same (TellsBelow (length (b ∷ bytes))) (told_at (b ∷ bytes)) _ _ (told_shrinks (b ∷ bytes) (omega arith))
    (λ here below. ap (with_front here.0) (steps_enough most other here.1 (omega arith) (omega arith)))

-- the first step, and what is told behind it
events_first : (bytes : List ℕ) → 0 < length bytes → events_of bytes ≡ (told_at bytes >>= λ here. with_front here.0 (events_of here.1))
unfolding told_within
events_first [] some = absurd (omega arith)
events_first (b ∷ bytes) some =
    then_same (TellsBelow (length (b ∷ bytes))) (told_at (b ∷ bytes)) _ _ (told_shrinks (b ∷ bytes) some)
    (λ here below. ap (with_front here.0) (steps_enough (length (b ∷ bytes)) (suc (length here.1)) here.1 below (omega arith)))

-- the elements that end in these events, if they go on
abbrev ends_by : State → Option (List Event) → Option (List Ended)
ends_by state events =
    events >>= λ events. (where_so (goes_on state.may_begin state.within events) >> Some (ended_in state.within state.held events))

after : State → List Event → List ℕ → Option (List Ended)
after state front rest = ends_by state (with_front front (events_of rest))

first_then : (state : State) (told : Option grammar.Told) → ends_by state (told >>= λ here. with_front here.0 (events_of here.1)) ≡ (told >>= λ here. after state here.0 here.1)
unfolding after
first_then state None = refl
first_then state (Some here) = refl

to_end_first : (state : State) (bytes : List ℕ) → 0 < length bytes → to_end state bytes ≡ (told_at bytes >>= λ here. after state here.0 here.1)
unfolding to_end
to_end_first state bytes some = ap (ends_by state) (events_first bytes some) ∙ first_then state (told_at bytes)

abbrev by_step : List ℕ → Option Step → Option (List Ended)
by_step rest step = step >>= λ step. with_ended step.0 (to_end step.1 rest)

-- the elements that end behind some events, if these go on
abbrev judged : (List Event → Bool) → (List Event → List Ended) → Option (List Event) → Option (List Ended)
judged so ended events = events >>= λ more. (where_so (so more) >> Some (ended more))

judged_and : (so : Bool) (other : List Event → Bool) (ended : List Event → List Ended) (events : Option (List Event)) → judged (λ more. so && other more) ended events ≡ (where_so so >> judged other ended events)
judged_and true other ended None = refl
judged_and false other ended None = refl
judged_and true other ended (Some more) = refl
judged_and false other ended (Some more) = refl

judged_true : (so : Bool) (other : List Event → Bool) (ended : List Event → List Ended) (events : Option (List Event)) → so ≡ true → judged (λ more. so && other more) ended events ≡ judged other ended events
judged_true so other ended events is = judged_and so other ended events ∙ ap (λ so. where_so so >> judged other ended events) is

one_more : (so : Bool) (element : Ended) (rest : List Ended) → (where_so so >> Some (element ∷ rest)) ≡ option_map (λ rest. element ∷ rest) (where_so so >> Some rest)
one_more true element rest = refl
one_more false element rest = refl

judged_more : (element : Ended) (so : List Event → Bool) (ended : List Event → List Ended) (events : Option (List Event)) → judged so (λ more. element ∷ ended more) events ≡ option_map (λ rest. element ∷ rest) (judged so ended events)
judged_more element so ended None = refl
judged_more element so ended (Some more) = one_more (so more) element (ended more)

ends_judged : (state : State) (front : List Event) (events : Option (List Event))
    → ends_by state (with_front front events) ≡ judged (λ more. goes_on state.may_begin state.within (front ++ more)) (λ more. ended_in state.within state.held (front ++ more)) events
ends_judged state front None = refl
ends_judged state front (Some more) = refl

after_is : (state : State) (front : List Event) (rest : List ℕ)
    → after state front rest ≡ judged (λ more. goes_on state.may_begin state.within (front ++ more)) (λ more. ended_in state.within state.held (front ++ more)) (events_of rest)
unfolding after
after_is state front rest = ends_judged state front (events_of rest)

so_step : (so : Bool) (step : Step) (rest : List ℕ) → (where_so so >> with_ended step.0 (to_end step.1 rest)) ≡ by_step rest (where_so so >> Some step)
so_step true step rest = refl
so_step false step rest = refl

-- an element begins
after_begin : (may : Bool) (within : List (List ℕ)) (held : Option (List ℕ)) (name rest : List ℕ)
    → after (record { may_begin = may; within = within; held = held }) (begin name ∷ []) rest ≡ by_step rest (at_begin (record { may_begin = may; within = within; held = held }) name)
unfolding goes_on ended_in at_begin to_end
after_begin may [] held name rest =
    after_is _ (begin name ∷ []) rest ∙ judged_and may _ _ (events_of rest)
    ∙ so_step may (None, record { may_begin = false; within = name ∷ []; held = Some [] }) rest
after_begin may (outer ∷ within) held name rest =
    after_is _ (begin name ∷ []) rest ∙ judged_and (nat_lt (suc (length within)) most_levels) _ _ (events_of rest)
    ∙ so_step (nat_lt (suc (length within)) most_levels) (None, record { may_begin = may; within = name ∷ outer ∷ within; held = Some [] }) rest

-- it ends
end_step : (same : Bool) (within : List (List ℕ)) (step : List (List ℕ) → Step) (rest : List ℕ) → (where_so same >> with_ended (step within).0 (to_end (step within).1 rest)) ≡ by_step rest ((if same then Some within else None) >>= λ within. Some (step within))
end_step true within step rest = refl
end_step false within step rest = refl

abbrev ending : Bool → Option (List ℕ) → List ℕ → List (List ℕ) → Step
ending may held name within =
    (Some (record { level = suc (length within); name = local_name name; content = unwrap_or held [] }), record { may_begin = may; within = within; held = None })

after_end : (may : Bool) (within : List (List ℕ)) (held : Option (List ℕ)) (name rest : List ℕ)
    → after (record { may_begin = may; within = within; held = held }) (end name ∷ []) rest ≡ by_step rest (at_end (record { may_begin = may; within = within; held = held }) name)
unfolding goes_on ended_in at_end to_end left_by
after_end may [] held name rest =
    after_is _ (end name ∷ []) rest ∙ judged_and false (λ more. true) (λ more. []) (events_of rest)
after_end may (outer ∷ within) held name rest =
    after_is _ (end name ∷ []) rest ∙ judged_and (bytes_eq outer name) _ _ (events_of rest)
    ∙ ap (λ ended. where_so (bytes_eq outer name) >> ended) (judged_more _ _ _ (events_of rest))
    ∙ end_step (bytes_eq outer name) within (ending may held name) rest

-- one begins and ends
same_name : (name : List ℕ) → bytes_eq name name ≡ true
same_name name = (bytes_eq-Decides name name).1 refl

abbrev empty_step : Bool → List (List ℕ) → List ℕ → Step
empty_step may within name =
    (Some (record { level = suc (length within); name = local_name name; content = [] }), record { may_begin = may; within = within; held = None })

after_empty : (may : Bool) (within : List (List ℕ)) (held : Option (List ℕ)) (name rest : List ℕ)
    → after (record { may_begin = may; within = within; held = held }) (begin name ∷ end name ∷ []) rest ≡ by_step rest (at_empty (record { may_begin = may; within = within; held = held }) name)
unfolding goes_on ended_in at_empty to_end
after_empty may [] held name rest =
    after_is _ (begin name ∷ end name ∷ []) rest ∙ judged_and may _ _ (events_of rest)
    ∙ ap (λ ended. where_so may >> ended)
    (judged_true (bytes_eq name name) _ _ (events_of rest) (same_name name) ∙ judged_more _ _ _ (events_of rest))
    ∙ so_step may (empty_step false [] name) rest
after_empty may (outer ∷ within) held name rest =
    after_is _ (begin name ∷ end name ∷ []) rest ∙ judged_and (nat_lt (suc (length within)) most_levels) _ _ (events_of rest)
    ∙ ap (λ ended. where_so (nat_lt (suc (length within)) most_levels) >> ended)
    (judged_true (bytes_eq name name) _ _ (events_of rest) (same_name name) ∙ judged_more _ _ _ (events_of rest))
    ∙ so_step (nat_lt (suc (length within)) most_levels) (empty_step may (outer ∷ within) name) rest

-- a text stands there
after_text : (may : Bool) (within : List (List ℕ)) (held : Option (List ℕ)) (content rest : List ℕ)
    → after (record { may_begin = may; within = within; held = held }) (text content ∷ []) rest ≡ by_step rest (at_text (record { may_begin = may; within = within; held = held }) content)
unfolding goes_on ended_in at_text to_end
after_text may [] held content rest =
    after_is _ (text content ∷ []) rest ∙ judged_and (list_all is_white content) _ _ (events_of rest)
    ∙ so_step (list_all is_white content) (None, record { may_begin = may; within = []; held = option_map (λ front. front ++ content) held }) rest
after_text may (outer ∷ within) held content rest = after_is _ (text content ∷ []) rest

after_nothing : (state : State) (rest : List ℕ) → after state [] rest ≡ to_end state rest
unfolding to_end
after_nothing state rest = after_is state [] rest

-- an empty text tells nothing
no_more : (held : Option (List ℕ)) → option_map (λ front. front ++ []) held ≡ held
no_more None = refl
no_more (Some front) = ap Some (append-nil front)

no_text : (may : Bool) (within : List (List ℕ)) (held : Option (List ℕ)) → at_text (record { may_begin = may; within = within; held = held }) [] ≡ Some (None, record { may_begin = may; within = within; held = held })
unfolding at_text
no_text may [] held = ap (λ held. Some (None, record { may_begin = may; within = []; held = held })) (no_more held)
no_text may (outer ∷ within) held = ap (λ held. Some (None, record { may_begin = may; within = outer ∷ within; held = held })) (no_more held)

after_text_in : (state : State) (content rest : List ℕ) → after state (text_in content) rest ≡ by_step rest (at_text state content)
after_text_in state [] rest =
    after_nothing state rest ∙ sym (ap (by_step rest) (no_text state.may_begin state.within state.held))
after_text_in state (b ∷ content) rest = after_text state.may_begin state.within state.held (b ∷ content) rest

-- what is told
after_told : (state : State) (rest : List ℕ) (events : Option (List Event)) → Option (List Ended)
after_told state rest events = events >>= λ events. after state events rest

text_told : (state : State) (rest : List ℕ) (content : Option (List ℕ)) → (option_map text_in content >>= λ events. after state events rest) ≡ by_step rest (content >>= at_text state)
text_told state rest None = refl
text_told state rest (Some content) = after_text_in state content rest

told_step : (state : State) (told : Told) (rest : List ℕ) → (events_told told >>= λ events. after state events rest) ≡ by_step rest (at_told state told)
unfolding events_told at_told at_text_of
told_step state (Begin name) rest = after_begin state.may_begin state.within state.held name.now rest
told_step state (Empty name) rest = after_empty state.may_begin state.within state.held name.now rest
told_step state (End name) rest = after_end state.may_begin state.within state.held name.now rest
told_step state (Characters raw) rest = text_told state rest (text_of raw.now)
told_step state (Section raw) rest = after_text_in state (with_line_feeds raw.now) rest
told_step state Comment rest = after_nothing state rest

with_rest : (state : State) (rest : List ℕ) (events : Option (List Event)) → (option_map {U = grammar.Told} (λ events. (events, rest)) events >>= λ here. after state here.0 here.1) ≡ (events >>= λ events. after state events rest)
with_rest state rest None = refl
with_rest state rest (Some events) = refl

-- the elements that are still to end are those behind a step, and the one that ends by it
pub to_end_step : (state : State) (told : Told) (bytes rest : List ℕ) → 0 < length bytes → told_with told rest ≡ told_at bytes → to_end state bytes ≡ by_step rest (at_told state told)
to_end_step state told bytes rest some is =
    to_end_first state bytes some
    ∙ sym (ap (λ told. told >>= λ here. after state here.0 here.1) is)
    ∙ with_rest state rest (events_told told)
    ∙ told_step state told rest

-- a step, as a reader takes it
pub step_taken : (state next : State) (told : Told) (element : Option Ended) (bytes rest : List ℕ) → 0 < length bytes → told_with told rest ≡ told_at bytes → at_told state told ≡ Some (element, next) → to_end state bytes ≡ with_ended element (to_end next rest)
step_taken state next told element bytes rest some is step = to_end_step state told bytes rest some is ∙ ap (by_step rest) step

pub step_wrong : (state : State) (told : Told) (bytes rest : List ℕ) → 0 < length bytes → told_with told rest ≡ told_at bytes → at_told state told ≡ None → to_end state bytes ≡ None
step_wrong state told bytes rest some is step = to_end_step state told bytes rest some is ∙ ap (by_step rest) step

pub step_untold : (state : State) (bytes : List ℕ) → 0 < length bytes → None ≡ told_at bytes → to_end state bytes ≡ None
step_untold state bytes some is =
    to_end_first state bytes some ∙ sym (ap (λ told. told >>= λ here. after state here.0 here.1) is)

-- it takes at least a byte
told_less : (told : Told) (bytes rest : List ℕ) (events : Option (List Event)) → option_map {U = grammar.Told} (λ events. (events, rest)) events ≡ told_at bytes → 0 < length bytes → IfSome events (λ events. length rest < length bytes)
told_less told bytes rest None is some = tt
told_less told bytes rest (Some events) is some = subst (λ told. IfSome told (TellsBelow (length bytes))) (sym is) (told_shrinks bytes some)

steps_by_events : (state : State) (told : Told) (rest : List ℕ) → events_told told ≡ None → at_told state told ≡ None
unfolding events_told at_told at_text_of
steps_by_events state (Begin name) rest is = absurd (cc)
steps_by_events state (Empty name) rest is = absurd (cc)
steps_by_events state (End name) rest is = absurd (cc)
steps_by_events state (Characters raw) rest is = no_content (text_of raw.now) is
  where
    no_content : (content : Option (List ℕ)) → option_map text_in content ≡ None → (content >>= at_text state) ≡ None
    no_content None is = refl
    no_content (Some content) is = absurd (cc)
steps_by_events state (Section raw) rest is = absurd (cc)
steps_by_events state Comment rest is = absurd (cc)

less_or_none : (state : State) (told : Told) (bytes rest : List ℕ) (step : Step) (events : Option (List Event)) → events_told told ≡ events → at_told state told ≡ Some step → IfSome events (λ events. length rest < length bytes) → length rest < length bytes
less_or_none state told bytes rest step None is taken less = absurd (some_none (sym taken ∙ steps_by_events state told rest is))
  where
    some_none : Some step ≡ None → ⊥
    some_none same = cc
less_or_none state told bytes rest step (Some events) is taken less = less

pub step_shrinks : (state : State) (told : Told) (bytes rest : List ℕ) (step : Step) → 0 < length bytes → told_with told rest ≡ told_at bytes → at_told state told ≡ Some step → length rest < length bytes
step_shrinks state told bytes rest step some is taken =
    less_or_none state told bytes rest step (events_told told) refl taken (told_less told bytes rest (events_told told) is some)

pub ruleset steps = (step_taken, step_wrong, step_untold, step_shrinks)

-- the elements that are open are to end
abbrev some_end : List (List ℕ) → List Event → Type 0
some_end within events = (may : Bool) (held : Option (List ℕ)) → 0 < length within → goes_on may within events ≡ true → 0 < length (ended_in within held events)

open_end : (within : List (List ℕ)) (events : List Event) → some_end within events
unfolding goes_on ended_in
open_end [] events may held some goes = absurd (omega arith)
open_end (outer ∷ within) [] may held some goes = absurd (false≢true goes)
open_end (outer ∷ within) (begin name ∷ events) may held some goes =
    open_end (name ∷ outer ∷ within) events may (Some []) (omega arith) (and_parts (nat_lt (suc (length within)) most_levels) _ goes).1
open_end (outer ∷ within) (text content ∷ events) may held some goes = open_end (outer ∷ within) events may _ some goes
open_end (outer ∷ within) (end name ∷ events) may held some goes = omega arith

judged_some : (so : List Event → Bool) (ended : List Event → List Ended) (events : Option (List Event)) → ((events : List Event) → so events ≡ true → 0 < length (ended events)) → judged so ended events ≢ Some []
judged_some so ended None some is = cc
judged_some so ended (Some events) some is = each (so events) refl is
  where
    each : (goes : Bool) → so events ≡ goes → (where_so goes >> Some (ended events)) ≡ Some [] → ⊥
    each true goes is = let none : ended events ≡ [] = cc in absurd (omega (arith, some events goes, ap length none))
    each false goes is = cc

pub to_end_some : (state : State) (bytes : List ℕ) → 0 < length state.within → to_end state bytes ≢ Some []
unfolding to_end
to_end_some state bytes some =
    judged_some (goes_on state.may_begin state.within) (ended_in state.within state.held) (events_of bytes) (λ events. open_end state.within events state.may_begin state.held some)

-- where no bytes are left
nothing_left : (may : Bool) (within : List (List ℕ)) (held : Option (List ℕ)) → (where_so (goes_on may within []) >> Some (ended_in within held [])) ≡ (where_so (may_end may within) >> Some [])
unfolding goes_on ended_in
nothing_left may [] held = refl
nothing_left may (outer ∷ within) held = refl

at_the_end : (state : State) → to_end state [] ≡ (where_so (may_end state.may_begin state.within) >> Some [])
unfolding to_end told_within
at_the_end state = nothing_left state.may_begin state.within state.held

pub end_is : (state : State) (rest : List ℕ) → length rest ≡ 0 → may_end state.may_begin state.within ≡ true → to_end state rest ≡ Some []
end_is state [] none is = at_the_end state ∙ ap (λ so. where_so so >> Some []) is
end_is state (b ∷ rest) none is = absurd (omega arith)

pub end_is_not : (state : State) (rest : List ℕ) → length rest ≡ 0 → may_end state.may_begin state.within ≡ false → to_end state rest ≡ None
end_is_not state [] none is = at_the_end state ∙ ap (λ so. where_so so >> Some []) is
end_is_not state (b ∷ rest) none is = absurd (omega arith)
