-- Texts, where a reader comes upon them.
use Rattle.std.proofs.Common.{◌≡◌, ℕ, ◌<◌, true, false, List, [], ◌∷◌, ◌++◌, length, refl, sym, ap, ◌∙◌, arith, Option, Some, None, option_map, is_some}
use Rattle.std.proofs.lemmas.Bool.{false≢true}
use Rattle.std.specs.List.{list_all}
use Rattle.s3_xml.specs.Characters.{is_white}
use Rattle.s3_xml.specs.Grammar.{dereferenced, with_line_feeds}
use Rattle.s3_xml.specs.Option.{◌>>=◌, ◌>>◌, where_so}
use Rattle.s3_xml_reader.proofs.LineLemmas.{white-line_feeds}
use Rattle.s3_xml_reader.proofs.TextLemmas.{some_text}
use Rattle.s3_xml_reader.specs.Place.{State, may_stand, at_text, at_text_of}
use Rattle.s3_xml_reader.specs.Texts.{text_of, is_white_text, appended}

-- this text stands where it may
stands : (state : State) (content : List ℕ) → may_stand state.within content ≡ true → at_text state content ≡ Some (None, record state { held = option_map (λ front. front ++ content) state.held })
unfolding at_text
stands state content may =
    ap (λ so. where_so so >> Some (None, record state { held = option_map (λ front. front ++ content) state.held })) may

stands_not : (state : State) (content : List ℕ) → may_stand state.within content ≡ false → at_text state content ≡ None
unfolding at_text
stands_not state content may =
    ap (λ so. where_so so >> Some (None, record state { held = option_map (λ front. front ++ content) state.held })) may

outside : (within : List (List ℕ)) (content : List ℕ) → length within ≡ 0 → may_stand within content ≡ list_all is_white content
outside [] content none = refl
outside (outer ∷ within) content none = absurd (omega arith)

inside : (within : List (List ℕ)) (content : List ℕ) → 0 < length within → may_stand within content ≡ true
inside [] content some = absurd (omega arith)
inside (outer ∷ within) content some = refl

-- without a text that is held
stays : (state : State) (content : List ℕ) → may_stand state.within content ≡ true → state.held ≡ None → at_text state content ≡ Some (None, state)
stays state content may held =
    stands state content may ∙ ap (λ held. Some (None, record state { held = option_map (λ front. front ++ content) held })) held
    ∙ sym (ap (λ held. Some (None, record state { held = held })) held)

-- white space outside of the root
pub section_outside : (state : State) (raw : List ℕ) → length state.within ≡ 0 → state.held ≡ None → list_all is_white raw ≡ true → at_text state (with_line_feeds raw) ≡ Some (None, state)
section_outside state raw none held white =
    stays state (with_line_feeds raw) (outside state.within (with_line_feeds raw) none ∙ white-line_feeds raw ∙ white) held

pub section_nowhere : (state : State) (raw : List ℕ) → length state.within ≡ 0 → list_all is_white raw ≡ false → at_text state (with_line_feeds raw) ≡ None
section_nowhere state raw none white =
    stands_not state (with_line_feeds raw) (outside state.within (with_line_feeds raw) none ∙ white-line_feeds raw ∙ white)

-- a text in an element in which another one stands, and in any other one
pub section_unheld : (state : State) (raw : List ℕ) → 0 < length state.within → state.held ≡ None → at_text state (with_line_feeds raw) ≡ Some (None, state)
section_unheld state raw some held =
    stays state (with_line_feeds raw) (inside state.within (with_line_feeds raw) some) held

pub section_held : (state : State) (raw text : List ℕ) → 0 < length state.within → state.held ≡ Some text → at_text state (with_line_feeds raw) ≡ Some (None, record state { held = Some (text ++ with_line_feeds raw) })
section_held state raw text some held =
    stands state (with_line_feeds raw) (inside state.within (with_line_feeds raw) some)
    ∙ ap (λ held. Some (None, record state { held = option_map (λ front. front ++ with_line_feeds raw) held })) held

pub ruleset sections = (section_outside, section_nowhere, section_unheld, section_held)

-- the same of character data
white_stays : (state : State) (content : Option (List ℕ)) → length state.within ≡ 0 → state.held ≡ None → is_white_text content ≡ true → (content >>= at_text state) ≡ Some (None, state)
white_stays state None none held white = absurd (false≢true white)
white_stays state (Some content) none held white = stays state content (outside state.within content none ∙ white) held

pub text_outside : (state : State) (raw : List ℕ) → length state.within ≡ 0 → state.held ≡ None → is_white_text (text_of raw) ≡ true → at_text_of state raw ≡ Some (None, state)
unfolding at_text_of
text_outside state raw none held white = white_stays state (text_of raw) none held white

other_stays_not : (state : State) (content : Option (List ℕ)) → length state.within ≡ 0 → is_white_text content ≡ false → (content >>= at_text state) ≡ None
other_stays_not state None none white = refl
other_stays_not state (Some content) none white = stands_not state content (outside state.within content none ∙ white)

pub text_nowhere : (state : State) (raw : List ℕ) → length state.within ≡ 0 → is_white_text (text_of raw) ≡ false → at_text_of state raw ≡ None
unfolding at_text_of
text_nowhere state raw none white = other_stays_not state (text_of raw) none white

some_stays : (state : State) (content : Option (List ℕ)) → 0 < length state.within → state.held ≡ None → is_some content ≡ true → (content >>= at_text state) ≡ Some (None, state)
some_stays state None some held is = absurd (false≢true is)
some_stays state (Some content) some held is = stays state content (inside state.within content some) held

pub text_unheld : (state : State) (raw : List ℕ) → 0 < length state.within → state.held ≡ None → is_some (dereferenced raw) ≡ true → at_text_of state raw ≡ Some (None, state)
unfolding at_text_of
text_unheld state raw some held is = some_stays state (text_of raw) some held (some_text raw ∙ is)

none_then : (state : State) (content : Option (List ℕ)) → is_some content ≡ false → (content >>= at_text state) ≡ None
none_then state None is = refl
none_then state (Some content) is = absurd (false≢true (sym is))

pub text_wrong : (state : State) (raw : List ℕ) → is_some (dereferenced raw) ≡ false → at_text_of state raw ≡ None
unfolding at_text_of
text_wrong state raw is = none_then state (text_of raw) (some_text raw ∙ is)

pub text_nothing : (state : State) (raw : List ℕ) → text_of raw ≡ None → at_text_of state raw ≡ None
unfolding at_text_of
text_nothing state raw is = none_then state (text_of raw) (ap is_some is)

some_stands : (state : State) (text more : List ℕ) (content : Option (List ℕ)) → 0 < length state.within → state.held ≡ Some text → appended text content ≡ Some more → (content >>= at_text state) ≡ Some (None, record state { held = Some more })
some_stands state text more None some held is = absurd (cc)
some_stands state text more (Some content) some held is =
    stands state content (inside state.within content some)
    ∙ ap (λ held. Some (None, record state { held = option_map (λ front. front ++ content) held })) held
    ∙ ap (λ more. Some (None, record state { held = more })) is

pub text_held : (state : State) (raw text more : List ℕ) → 0 < length state.within → state.held ≡ Some text → appended text (text_of raw) ≡ Some more → at_text_of state raw ≡ Some (None, record state { held = Some more })
unfolding at_text_of
text_held state raw text more some held is = some_stands state text more (text_of raw) some held is

pub ruleset texts = (text_outside, text_nowhere, text_unheld, text_wrong, text_nothing, text_held)
