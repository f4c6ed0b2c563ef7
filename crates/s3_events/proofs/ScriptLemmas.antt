-- A script, and what one line more adds to it.
use Rattle.std.proofs.Common.{◌≡◌, ◌≢◌, ℕ, ◌+◌, ◌<◌, Bool, true, false, not, ◌&&◌, ◌||◌, ◌==◌, List, [], ◌∷◌, ◌++◌, length, map, max, refl, sym, ◌∙◌, ap, ap₂, subst, arith, append-nil, Result, Ok, Err, Vec, Global, if◌then◌else◌}
use Rattle.std.specs.Prelude.{OnOk, get_or, slice_set, Option, Some, None, option_map}
use Rattle.std.specs.List.{list_any, filter_map}
use Rattle.std.proofs.lemmas.Bool.Decides.{nat_tests}
use Rattle.std.proofs.lemmas.Bool.{eqb-true}
use Rattle.std.proofs.lemmas.List.{map-append, length-map, get_or-set_other, length-set}
use Rattle.std.proofs.lemmas.List.Concat.{flat_map-append}
use Rattle.std.proofs.lemmas.Grind.{get_or-set_at}
use Rattle.std.proofs.lemmas.List.Elements.{filter-append}
use Rattle.std.proofs.lemmas.List.Folds.{list_all-append}
use Rattle.s3_text.proofs.ListLemmas.{list_any-map}
use Rattle.s3_calendar.specs.declared.moment.Moment.{Moment}
use Rattle.s3_events.specs.declared.event.Event.{Event}
use Rattle.s3_events.specs.declared.script.Script.{Script}
use Rattle.s3_events.specs.declared.checked.Checked.{Checked}
use Rattle.s3_events.specs.Lines.{Said, moment_of, moments_of, TheMoments, MoreBytes, TheEnd, ATurn, connection, are_moments, is_of}
use Rattle.s3_events.specs.Script.{said_of_event, connection_of_event, connections, moments_in, moments_said, happenings}
use Rattle.s3_events.specs.Reading.{is_full, is_named, meaning, Collects}
use Rattle.s3_events.proofs.FieldLemmas.{moments_told}
use Rattle.s3_events.proofs.SaidLemmas.{connections_with_last, named_by, unnamed}

-- the lists of moments of connections
abbrev pub Lists : Type 0
Lists = Vec (Vec Moment Global) Global

abbrev pub texts : Lists → List (List ℕ)
texts lists = map (λ list. list.items) lists.items

-- who is named has moments or an event
told : (script : Script) (size c : ℕ) (all : List Said) → Collects size script all → is_named c all ≡ (not (length (get_or (texts script.moments) c []) == 0) || list_any (λ event. connection_of_event event == c) script.events.items)
told script size c all has =
    named_by all c has.full
    ∙ ap₂ (λ (moments : List ℕ) (some : Bool). not (length moments == 0) || some)
    (sym (has.moments c))
    (ap (list_any (is_of c)) (sym has.events) ∙ list_any-map (is_of c) said_of_event script.events.items)

pub named_then : (script : Script) (size c : ℕ) (all : List Said) (some : Bool) → Collects size script all → some ≡ not (length (get_or (texts script.moments) c []) == 0) → some ≡ true → some ≡ is_named c all
named_then script size c all some has is yes_some =
    let by : not (length (get_or (texts script.moments) c []) == 0) ≡ true = sym is ∙ yes_some in
    yes_some ∙ sym (told script size c all has ∙ ap (λ (b : Bool). b || list_any (λ event. connection_of_event event == c) script.events.items) by)

pub named_else : (script : Script) (size c : ℕ) (all : List Said) (some happens : Bool) → Collects size script all → some ≡ not (length (get_or (texts script.moments) c []) == 0) → some ≡ false → happens ≡ list_any (λ event. connection_of_event event == c) script.events.items → happens ≡ is_named c all
named_else script size c all some happens has is none is_event =
    let by : not (length (get_or (texts script.moments) c []) == 0) ≡ false = sym is ∙ none in
    is_event ∙ sym (told script size c all has ∙ ap (λ (b : Bool). b || list_any (λ event. connection_of_event event == c) script.events.items) by)

-- the lists have room for a connection, and are as they were
pub record Roomy (before after : Lists) (c : ℕ) : Type 0 where
  pub size : length after.items ≡ max (length before.items) (c + 1)
  pub same : (k : ℕ) → get_or (texts after) k [] ≡ get_or (texts before) k []

-- what is not of a connection says no moments of it
no_moments : (said : Said) (c : ℕ) → are_moments said ≡ false → moments_in c said ≡ []
no_moments (TheMoments d moments) c is = absurd cc
no_moments (MoreBytes d bytes) c is = refl
no_moments (TheEnd d) c is = refl
no_moments (ATurn d) c is = refl

full_event : (said : Said) → are_moments said ≡ false → is_full said ≡ true
full_event (TheMoments d moments) is = absurd cc
full_event (MoreBytes d bytes) is = refl
full_event (TheEnd d) is = refl
full_event (ATurn d) is = refl

kept : (said : Said) → are_moments said ≡ false → happenings (said ∷ []) ≡ said ∷ []
kept (TheMoments d moments) is = absurd cc
kept (MoreBytes d bytes) is = refl
kept (TheEnd d) is = refl
kept (ATurn d) is = refl

-- an event more
event_put : (old new : Script) (roomy : Lists) (all : List Said) (said : Said) (event : Event) → said_of_event event ≡ said → are_moments said ≡ false → Collects (connections all) old all → Roomy old.moments roomy (connection said) → new.moments.items ≡ roomy.items → new.events.items ≡ old.events.items ++ event ∷ [] → Collects (connections (all ++ said ∷ [])) new (all ++ said ∷ [])
event_put old new roomy all said event same never has room lists events = record {
  connections = ap length lists ∙ room.size ∙ ap (λ (n : ℕ). max n (connection said + 1)) has.connections ∙ sym (connections_with_last all said);
  moments = λ c.
      ap (λ l. get_or (map (λ list. list.items) l) c []) lists ∙ room.same c ∙ has.moments c
      ∙ sym (flat_map-append (moments_in c) all (said ∷ []) ∙ ap (λ (l : List ℕ). moments_said c all ++ (l ++ [])) (no_moments said c never) ∙ append-nil (moments_said c all));
  events =
      ap (map said_of_event) events ∙ map-append said_of_event old.events.items (event ∷ [])
      ∙ ap₂ (λ (l : List Said) (s : Said). l ++ s ∷ []) has.events same
      ∙ sym (filter-append (λ (s : Said). not (are_moments s)) all (said ∷ []) ∙ ap (λ (l : List Said). happenings all ++ l) (kept said never));
  full = rw (list_all-append, has.full, full_event said never) refl;
}

pub event_added : {E : Type 0} (r : Result Unit E) (old new : Script) (roomy : Lists) (all : List Said) (line : Checked) (said : Said) (event : Event) → meaning line ≡ Some said → meaning line ≡ Some (said_of_event event) → are_moments (said_of_event event) ≡ false → Collects (connections all) old all → Roomy old.moments roomy (connection_of_event event) → new.moments.items ≡ roomy.items → OnOk r (new.events.items ≡ old.events.items ++ event ∷ []) → OnOk r (Collects (connections (all ++ said ∷ [])) new (all ++ said ∷ []))
event_added (Err e) old new roomy all line said event is means never has room lists events = tt
event_added (Ok done) old new roomy all line said event is means never has room lists events =
    let same : said_of_event event ≡ said = cc in
    subst (λ (s : Said). Collects (connections (all ++ s ∷ [])) new (all ++ s ∷ [])) same
    (event_put old new roomy all (said_of_event event) event refl never has room lists events)

-- moments more, of a connection that was not named
put_at : (lists : List (List ℕ)) (d c : ℕ) (moments before : List ℕ) (same : Bool) → (d == c) ≡ same → d < length lists → get_or lists c [] ≡ before → (d ≡ c → before ≡ []) → get_or (slice_set lists d moments) c [] ≡ before ++ ((if same then moments else []) ++ [])
put_at lists d c moments before true is within had none =
    let at : d ≡ c = eqb-true d c is in
    let here : get_or (slice_set lists d moments) c [] ≡ moments = get_or-set_at lists d c moments [] (sym at) within in
    let first : before ++ (moments ++ []) ≡ moments = ap (λ (l : List ℕ). l ++ (moments ++ [])) (none at) ∙ append-nil moments in
    here ∙ sym first
put_at lists d c moments before false is within had none =
    let other : c ≢ d = λ (e : c ≡ d). grind (arith, nat_tests) in
    get_or-set_other lists d c moments [] other ∙ had ∙ sym (append-nil before)

pub moments_put : (old new : Script) (roomy : Lists) (all : List Said) (c : ℕ) (moments : List ℕ) → 0 < length moments → is_named c all ≡ false → Collects (connections all) old all → Roomy old.moments roomy c → texts new.moments ≡ slice_set (texts roomy) c moments → new.events.items ≡ old.events.items → Collects (connections (all ++ TheMoments c moments ∷ [])) new (all ++ TheMoments c moments ∷ [])
moments_put old new roomy all c moments some unnamed_before has room lists events =
    let size : length (texts new.moments) ≡ length (texts roomy) = ap length lists ∙ length-set (texts roomy) c moments in
    let within : c < length (texts roomy) = omega (arith, length-map roomy.items (λ list. list.items), room.size) in
    let full : is_full (TheMoments c moments) ≡ true = grind (arith, nat_tests) in
    record {
      connections =
          sym (length-map new.moments.items (λ list. list.items)) ∙ size ∙ length-map roomy.items (λ list. list.items) ∙ room.size
          ∙ ap (λ (n : ℕ). max n (c + 1)) has.connections ∙ sym (connections_with_last all (TheMoments c moments));
      moments = λ k.
          ap (λ (l : List (List ℕ)). get_or l k []) lists
          ∙ put_at (texts roomy) c k moments (moments_said k all) (c == k) refl within (room.same k ∙ has.moments k) (λ e. subst (λ (n : ℕ). moments_said n all ≡ []) e (unnamed all c unnamed_before))
          ∙ sym (flat_map-append (moments_in k) all (TheMoments c moments ∷ []));
      events =
          ap (map said_of_event) events ∙ has.events
          ∙ sym (filter-append (λ (s : Said). not (are_moments s)) all (TheMoments c moments ∷ []) ∙ append-nil (happenings all));
      full = rw (list_all-append, has.full, full) refl;
    }

moments_found : (old new : Script) (roomy : Lists) (all : List Said) (said : Said) (c : ℕ) (fields : List (List ℕ)) (items : List ℕ) (found : Option (List ℕ)) → moments_of fields ≡ found → option_map (TheMoments c) found ≡ Some said → items ≡ filter_map moment_of fields → (are_moments said && is_named (connection said) all) ≡ false → Collects (connections all) old all → Roomy old.moments roomy c → texts new.moments ≡ slice_set (texts roomy) c items → new.events.items ≡ old.events.items → Collects (connections (all ++ said ∷ [])) new (all ++ said ∷ [])
moments_found old new roomy all said c fields items None is means these free has room lists events = absurd cc
moments_found old new roomy all said c fields items (Some moments) is means these free has room lists events =
    let told = moments_told fields moments is in
    let same : moments ≡ items = told.0 ∙ sym these in
    let saying : TheMoments c items ≡ said = cc in
    let some : 0 < length items = subst (λ (l : List ℕ). 0 < length l) same told.1 in
    let unnamed_before : is_named c all ≡ false = subst (λ (s : Said). (are_moments s && is_named (connection s) all) ≡ false) (sym saying) free in
    subst (λ (s : Said). Collects (connections (all ++ s ∷ [])) new (all ++ s ∷ [])) saying
    (moments_put old new roomy all c items some unnamed_before has room lists events)

pub moments_added : (old new : Script) (roomy : Lists) (all : List Said) (said : Said) (c : ℕ) (fields : List (List ℕ)) (items : List ℕ) → option_map (TheMoments c) (moments_of fields) ≡ Some said → items ≡ filter_map moment_of fields → (are_moments said && is_named (connection said) all) ≡ false → Collects (connections all) old all → Roomy old.moments roomy c → texts new.moments ≡ slice_set (texts roomy) c items → new.events.items ≡ old.events.items → Collects (connections (all ++ said ∷ [])) new (all ++ said ∷ [])
moments_added old new roomy all said c fields items = moments_found old new roomy all said c fields items (moments_of fields) refl
