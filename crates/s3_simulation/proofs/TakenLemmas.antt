-- Turns that were taken, with more of them.
use Rattle.std.proofs.Common.{◌≡◌, ℕ, Bool, true, List, [], ◌∷◌, ◌++◌, sym, ap, subst, ◌∙◌, append-nil, append_assoc, inl, inr}
use Rattle.s3_config.specs.Settings.{Settings}
use Rattle.s3_machine.specs.History.{Entry}
use Rattle.s3_journal.specs.Recorded.{Recorded, entries_of_seat}
use Rattle.s3_simulation.specs.Events.{TurnAt}
use Rattle.s3_simulation.specs.Run.{AreTaken, HasNoEntry}
use Rattle.s3_simulation.proofs.EntryLemmas.{seat_join}

-- memory may have run out in more connections since then, and those in which it had run out have none of the entries that were made
module _ (settings : Settings) (moments : List (List ℕ)) (lost more : ℕ → Bool) (grows : (c : ℕ) → lost c ≡ true → more c ≡ true)
    (made : List Recorded) (safe : (c : ℕ) → lost c ≡ true → entries_of_seat c made ≡ []) where
  still_none : (done : List Recorded) (at : TurnAt) (later : List Recorded)
      → HasNoEntry settings moments lost done at later → HasNoEntry settings moments more done at (later ++ made)
  still_none done at later (inl none) = inl none
  still_none done at later (inr dead) =
      inr (
        grows at.connection dead.0,
        seat_join at.connection later made ∙ ap (λ (es : List Entry). es ++ entries_of_seat at.connection made) dead.1 ∙ safe at.connection dead.0,
      )

  pub taken_join : (done : List Recorded) (turns next : List TurnAt) (later : List Recorded)
      → AreTaken settings moments lost done turns later → AreTaken settings moments more (done ++ later) next made
      → AreTaken settings moments more done (turns ++ next) (later ++ made)
  taken_join done [] next later taken ends =
      subst (λ (es : List Recorded). AreTaken settings moments more done next (es ++ made)) (sym taken)
      (subst (λ (es : List Recorded). AreTaken settings moments more es next made) (ap (λ (es : List Recorded). done ++ es) taken ∙ append-nil done) ends)
  taken_join done (at ∷ turns) next later (inl rest) ends = inl (still_none done at later rest.0, taken_join done turns next later rest.1 ends)
  taken_join done (at ∷ turns) next later (inr one) ends =
      inr (
        one.0,
        one.1 ++ made,
        ap (λ (es : List Recorded). es ++ made) one.2,
        one.3,
        taken_join (done ++ one.0 ∷ []) turns next one.1 one.4
            (subst (λ (es : List Recorded). AreTaken settings moments more es next made)
            (ap (λ (es : List Recorded). done ++ es) one.2 ∙ sym (append_assoc done (one.0 ∷ []) one.1)) ends),
      )
