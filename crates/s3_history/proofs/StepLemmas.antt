-- The steps of a recorder keep the rule of the log.
use Rattle.std.proofs.Common.{◌≡◌, ◌≢◌, ℕ, ◌<◌, ◌==◌, Bool, true, false, List, [], ◌∷◌, ◌++◌, length, refl, ap, sym, ◌∙◌, subst, arith, inl, slice_set, None}
use Rattle.std.proofs.lemmas.List.{append-nil, length-set}
use mathlib.Core.List.{IsPrefix}
use prog.Atomic.{either}
use Rattle.logbook.specs.Pages.{Cell, cell, keeps, gives, adds, nib, no_nib, may_write, may_make, step, Moves}
use Rattle.s3_history.specs.declared.log.Line.{Line}
use Rattle.s3_history.specs.Log.{IsHome, first_key, key_after, AreHome, IsChained, WordMade, LineAdded, EndFound}
use Rattle.s3_history.proofs.CellLemmas.{home_inside, home_with_more, home_with_set, home_here, first_with_set, first_with_more, head_is_changed}
use Rattle.s3_history.proofs.LineLemmas.{homes_stay, homes_push, is_all}

-- the cells once the head was looked at, and changed if it never was
abbrev pub looked : List Cell → List Cell
looked cells = slice_set cells 0 (either ((cell cells 0).0 == 0) 1 (cell cells 0).0, true)

length_looked : (cells : List Cell) → length (looked cells) ≡ length cells
length_looked cells = length-set cells 0 (either ((cell cells 0).0 == 0) 1 (cell cells 0).0, true)

looked_stay : (cells : List Cell) (key : ℕ) → IsHome cells key → IsHome (looked cells) key
looked_stay cells key home = home_with_set cells 0 (either ((cell cells 0).0 == 0) 1 (cell cells 0).0) key home

-- the word that comes home isn't the head
not_head : (cells : List Cell) (key : ℕ) → IsHome cells 0 → (cell cells key).1 ≡ false → key ≢ 0
not_head cells key home away same = absurd (cc (home, away, same))

module _ {E : Type 0} where
  abbrev pub shown : List (Line E) → List (Line E)
  shown log = []

  abbrev pub moved : List (Line E) → List (Line E) → ℕ → Type 0
  moved old new answer = Unit {0}

  -- where the head was changed, two facts are enough
  chained : (cells : List Cell) (log : List (Line E)) → IsHome cells 0 → (cell cells 0).0 ≢ 0 → AreHome cells first_key log → IsChained cells log
  chained cells log home changed homes = record { head = home; unchanged = λ none. absurd (changed none); lines = homes }

  looked_chained : (cells : List Cell) (log : List (Line E)) → IsChained cells log → IsChained (looked cells) log
  looked_chained cells log old =
      chained (looked cells) log (looked_stay cells 0 old.head) (head_is_changed cells (cell cells 0).0 (home_inside cells 0 old.head))
      (homes_stay cells (looked cells) (looked_stay cells) first_key log old.lines)

  more_chained : (cells : List Cell) (log : List (Line E)) → (cell cells 0).0 ≢ 0 → IsChained cells log → IsChained (cells ++ (0, false) ∷ []) log
  more_chained cells log changed old =
      let more = (0, false) ∷ [] in
      chained (cells ++ more) log (home_with_more cells more 0 old.head)
      (λ none. changed (ap (λ (c : Cell). c.0) (sym (first_with_more cells more (home_inside cells 0 old.head))) ∙ none))
      (homes_stay cells (cells ++ more) (home_with_more cells more) first_key log old.lines)

  -- the step that makes a word
  pub word_is_made : (seen : List (Line E)) (asked : Line E)
      → Moves IsChained shown moved 0 (seen, (no_nib, None)) (λ n. either (n == 0) 1 n) (WordMade (step 0 0 1 asked) (seen, (no_nib, None)))
  word_is_made seen asked cells log old begins away =
      let some = home_inside cells 0 old.head in
      let new : IsChained (looked cells ++ (0, false) ∷ []) log =
      more_chained (looked cells) log (head_is_changed cells (cell cells 0).0 some) (looked_chained cells log old) in (
        some,
        old.head,
        (
          adds,
          [],
          None,
          tt,
          subst (IsChained (looked cells ++ (0, false) ∷ [])) (sym (append-nil log)) new,
          inl (refl, refl),
          (
            (length cells, refl),
            λ none. (append-nil log ∙ (old.unchanged none).0, ap (λ key. nib may_make key 0) (old.unchanged none).1),
          ),
        ),
      )

  added_chained : (cells : List Cell) (log : List (Line E)) (line : Line E) → IsChained cells log → (cell cells 0).0 ≢ 0
      → key_after first_key log < length cells → key_after first_key log ≢ 0
      → IsChained (slice_set cells (key_after first_key log) (0, true)) (log ++ line ∷ [])
  added_chained cells log line old changed inside other =
      let key = key_after first_key log in
      let new = slice_set cells key (0, true) in
      chained new (log ++ line ∷ []) (home_with_set cells key 0 0 old.head)
      (λ none. changed (ap (λ (c : Cell). c.0) (sym (first_with_set cells key (0, true) other)) ∙ none))
      (homes_push new first_key log line (homes_stay cells new (home_with_set cells key 0) first_key log old.lines) (home_here cells key 0 inside))

  -- the step that adds a line
  pub line_is_added : (seen : List (Line E)) (asked : Line E)
      → Moves IsChained shown moved 0 (seen, (nib may_write (key_after first_key seen) 0, None)) (λ n. either (n == 0) 1 n)
      (LineAdded (step 0 0 1 asked) (seen, (nib may_write (key_after first_key seen) 0, None)))
  line_is_added seen asked cells log old begins away =
      let some = home_inside cells 0 old.head in
      let all : seen ≡ log = is_all cells log seen old.lines (away refl).1 begins in
      let same : IsChained cells seen = subst (IsChained cells) (sym all) old in
      let new : IsChained (slice_set (looked cells) (key_after first_key seen) (0, true)) (seen ++ asked ∷ []) =
      added_chained (looked cells) seen asked (looked_chained cells seen same) (head_is_changed cells (cell cells 0).0 some)
      (let long = length_looked cells in let inside = (away refl).0 in omega (arith, long, inside)) (not_head cells (key_after first_key seen) old.head (away refl).1) in (
        some,
        old.head,
        (
          gives,
          asked ∷ [],
          None,
          refl,
          subst (λ lines. IsChained (slice_set (looked cells) (key_after first_key seen) (0, true)) (lines ++ asked ∷ [])) all new,
          inl (refl, refl),
          ap (λ lines. lines ++ asked ∷ []) (sym all),
        ),
      )

  -- the step that finds the end
  pub end_is_found : (seen : List (Line E)) (key : ℕ) (asked : Line E)
      → Moves IsChained shown moved 0 (seen, (nib may_write key 0, None)) (λ n. either (n == 0) 1 n)
      (EndFound (step 0 0 1 asked) (seen, (nib may_write key 0, None)))
  end_is_found seen key asked cells log old begins away =
      let some = home_inside cells 0 old.head in (
        some,
        old.head,
        (
          keeps,
          [],
          None,
          tt,
          subst (IsChained (looked cells)) (sym (append-nil log)) (looked_chained cells log old),
          inl (refl, refl),
          (
            λ lines part leaves.
                is_all cells log lines old.lines (ap (λ k. (cell cells k).1) leaves ∙ (away refl).1) (subst (IsPrefix lines) (append-nil log) part) ∙ sym (append-nil log),
            refl,
          ),
        ),
      )
