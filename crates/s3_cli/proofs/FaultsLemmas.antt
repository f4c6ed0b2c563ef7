-- First faults are told, one after the other.
use Rattle.std.proofs.Common.{◌≡◌, ◌≢◌, ◌∙◌, ◌<◌, ◌+◌, ℕ, zero, suc, false, List, [], ◌∷◌, ◌++◌, length, Option, Some, None, Result, Ok, Err, ap, arith, append_assoc, append-nil, inl, inr, refl, subst, sym}
use Rattle.std.specs.Prelude.{◌⊎◌, IfSome, OnOk}
use Rattle.std.specs.List.{slice_get}
use Rattle.s3_session.specs.Output.{Over, is_dead, is_waiting}
use Rattle.s3_session.specs.declared.fault.Fault.{Fault}
use Rattle.s3_events.specs.declared.event.Event.{Event}
use Rattle.s3_events.specs.declared.script.Script.{Script}
use Rattle.s3_events.specs.Printing.{outputs_text}
use Rattle.s3_simulation.specs.Events.{received}
use Rattle.s3_simulation.specs.Faults.{FaultOf, HasNoFaultOf}
use Rattle.s3_simulation.specs.Run.{each_moments, moments_of}
use Rattle.s3_simulation.specs.Shown.{standing_at, written_by_all}
use Rattle.s3_simulation.specs.StandsAfter.{StandsAfter, WorldsRun}
use Rattle.s3_simulation.specs.World.{Serving}
use Rattle.s3_cli.specs.Faults.{faults_from, faults_text, line_of_fault}
use Rattle.s3_cli.specs.Reading.{IsToldOf, TellsFirst}
use Rattle.s3_cli.specs.Run.{IsScriptAnswered, IsScriptAnsweredWithFaults}

-- one line more
lines_more : (c : ℕ) (told : List (Option Fault)) (fault : Option Fault) → faults_from c (told ++ fault ∷ []) ≡ faults_from c told ++ line_of_fault (c + length told) fault
lines_more c [] fault = ap (λ (n : ℕ). line_of_fault n fault ++ []) (omega arith) ∙ append-nil (line_of_fault (c + 0) fault)
lines_more c (first ∷ told) fault =
    ap (λ (rest : List ℕ). line_of_fault c first ++ rest) (lines_more (c + 1) told fault)
    ∙ sym (append_assoc (line_of_fault c first) (faults_from (c + 1) told) (line_of_fault (c + 1 + length told) fault))
    ∙ ap (λ (n : ℕ). (line_of_fault c first ++ faults_from (c + 1) told) ++ line_of_fault n fault) (omega arith)

all_more : (told : List (Option Fault)) (fault : Option Fault) → faults_text (told ++ fault ∷ []) ≡ faults_text told ++ line_of_fault (length told) fault
all_more told fault =
    let at : 0 + length told ≡ length told = omega arith in lines_more 0 told fault ∙ ap (λ (n : ℕ). faults_text told ++ line_of_fault n fault) at

count_more : (told : List (Option Fault)) (fault : Option Fault) → length (told ++ fault ∷ []) ≡ length told + 1
count_more [] fault = refl
count_more (first ∷ told) fault =
    let next : suc (length told + 1) ≡ length (first ∷ told) + 1 = omega arith in ap suc (count_more told fault) ∙ next

-- each of a list with one more is one of the list or the last
one_of : (told : List (Option Fault)) (last fault : Option Fault) (c : ℕ) → slice_get (told ++ last ∷ []) c ≡ Some fault
    → (slice_get told c ≡ Some fault) ⊎ ((c ≡ length told) × (last ≡ fault))
one_of [] last fault zero is = inr (refl, cc is)
one_of [] last fault (suc c) is = absurd (cc is)
one_of (first ∷ told) last fault zero is = inl is
one_of (first ∷ told) last fault (suc c) is = elim (one_of told last fault c is) [ inl before ↦ inl before | inr at ↦ inr (ap suc at.0, at.1) ]

-- after some events of a world
module _ (world : Serving) (moments : List (List ℕ)) (happened : List Event) where
  each_more : (told : List (Option Fault)) (last : Option Fault) → IsToldOf world moments happened (length told) last
      → ((c : ℕ) (fault : Option Fault) → slice_get told c ≡ Some fault → IsToldOf world moments happened c fault)
      → (c : ℕ) (fault : Option Fault) → slice_get (told ++ last ∷ []) c ≡ Some fault → IsToldOf world moments happened c fault
  each_more told last one each c fault is =
      elim (one_of told last fault c is) [
        | inl before ↦ each c fault before
        | inr at ↦ subst (λ (n : ℕ). IsToldOf world moments happened n fault) (sym at.0) (subst (IsToldOf world moments happened (length told)) at.1 one)
      ]

  one_told : (c : ℕ) (fault : Option Fault) (before text after : List ℕ) → IsToldOf world moments happened c fault → TellsFirst world moments happened c before text
      → after ≡ text ++ line_of_fault c fault → TellsFirst world moments happened (c + 1) before after
  one_told c fault before text after one t more = record {
    told = t.told ++ fault ∷ [];
    many = count_more t.told fault ∙ ap (λ (n : ℕ). n + 1) t.many;
    each = each_more t.told fault (subst (λ (n : ℕ). IsToldOf world moments happened n fault) (sym t.many) one) t.each;
    printed = more ∙ ap (λ (front : List ℕ). front ++ line_of_fault c fault) t.printed ∙ append_assoc before (faults_text t.told) (line_of_fault c fault)
        ∙ ap (λ (n : ℕ). before ++ (faults_text t.told ++ line_of_fault n fault)) (sym t.many)
        ∙ ap (λ (back : List ℕ). before ++ back) (sym (all_more t.told fault));
  }

  -- the connection of the next number is told of
  pub next_told : {T E : Type 0} (r : Result T E) (c : ℕ) (fault : Option Fault) (before text after : List ℕ) → IsToldOf world moments happened c fault
      → TellsFirst world moments happened c before text → OnOk r (after ≡ text ++ line_of_fault c fault) → OnOk r (TellsFirst world moments happened (c + 1) before after)
  next_told (Ok x) c fault before text after one t more = one_told c fault before text after one t more
  next_told (Err e) c fault before text after one t more = tt

  -- so where it has no line
  pub none_next : (c : ℕ) (fault : Option Fault) (before text : List ℕ) → IsToldOf world moments happened c fault
      → TellsFirst world moments happened c before text → fault ≡ None → TellsFirst world moments happened (c + 1) before text
  none_next c fault before text one t is = one_told c fault before text text one t (rw is (sym (append-nil text)))

-- what is told of a connection that is there
some_of : (world : Serving) (moments : List (List ℕ)) (happened : List Event) (c : ℕ) (told : Option Fault)
    → IfSome told (λ fault. FaultOf world.settings (moments_of c moments) (received c happened) fault.message fault.code)
    → (fault : Fault) → told ≡ Some fault → FaultOf world.settings (moments_of c moments) (received c happened) fault.message fault.code
some_of world moments happened c told some fault is =
    subst (λ (t : Option Fault). IfSome t (λ fault. FaultOf world.settings (moments_of c moments) (received c happened) fault.message fault.code)) is some

pub told_of : (world : Serving) (moments : List (List ℕ)) (happened : List Event) (c : ℕ) (told : Option Fault)
    → StandsAfter world moments happened → c < length world.connections
    → IfSome told (λ fault. FaultOf world.settings (moments_of c moments) (received c happened) fault.message fault.code)
    → (told ≢ None → standing_at world.connections c ≡ Over)
    → (c < length moments → is_dead (standing_at world.connections c) ≡ false → is_waiting (standing_at world.connections c) ≡ false
    → told ≡ None → HasNoFaultOf world.settings (moments_of c moments) (received c happened))
    → IsToldOf world moments happened c told
told_of world moments happened c told s less some over none = record {
  some = some_of world moments happened c told some;
  over = over;
  none = λ is lives rests. none (subst (λ (n : ℕ). c < n) s.each less) lives rests is;
}

-- in the run that a world has made, its faults are told
pub faults_told : (world : Serving) (script : Script) (text out : List ℕ) → WorldsRun
    → StandsAfter world (each_moments script.moments.items) script.events.items
    → text ≡ outputs_text (written_by_all world.connections)
    → TellsFirst world (each_moments script.moments.items) script.events.items (length world.connections) text out
    → IsScriptAnsweredWithFaults world.recorded_store.opening world.settings script out
faults_told world script text out law s lines t =
    let ran = law world (each_moments script.moments.items) script.events.items s in
    record {
      outs = written_by_all world.connections;
      entries = world.recorded_store.entries;
      runs = ran.0;
      told = t.told;
      faults = record {
        each = t.many ∙ s.each;
        some = λ c fault is. (t.each c (Some fault) is).some fault refl;
        over = λ c fault is. ran.1 c ∙ (t.each c (Some fault) is).over (λ none. cc none);
        none = λ c is lives rests. (t.each c None is).none refl
            (ap is_dead (sym (ran.1 c)) ∙ lives) (ap is_waiting (sym (ran.1 c)) ∙ rests);
      };
      printed = t.printed ∙ ap (λ (front : List ℕ). front ++ faults_text t.told) lines;
    }

-- so its outputs
pub outputs_told : (world : Serving) (script : Script) (out : List ℕ) → WorldsRun
    → StandsAfter world (each_moments script.moments.items) script.events.items
    → out ≡ outputs_text (written_by_all world.connections)
    → IsScriptAnswered world.recorded_store.opening world.settings script out
outputs_told world script out law s lines = record {
  outs = written_by_all world.connections;
  entries = world.recorded_store.entries;
  runs = (law world (each_moments script.moments.items) script.events.items s).0;
  printed = lines;
}
