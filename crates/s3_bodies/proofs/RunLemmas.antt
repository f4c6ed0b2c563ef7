-- Runs one behind another.
use Rattle.std.proofs.Common.{◌≡◌, sym, ap, subst, ◌∙◌, ℕ, zero, suc, ◌+◌, ◌-◌, ◌<◌, ◌≤◌, List, [], ◌∷◌, ◌++◌, length, take, drop, get_or, arith, length-append, append_assoc, append-nil}
use Rattle.std.proofs.lemmas.List.{take_rest}
use Rattle.std.proofs.lemmas.List.Sorted.{IsNonDecreasingBy-from_default}
use Rattle.std.specs.List.Sorted.{IsNonDecreasingBy}
use Rattle.s3_bodies.specs.declared.runs.Run.{Run}
use Rattle.s3_bodies.specs.Pieces.{IsPieceAt}
use Rattle.s3_bodies.specs.Runs.{bytes_of_runs, HaveEnds}
use Rattle.s3_bodies.proofs.PieceLemmas.{elsewhere, before, behind, rest_at}

-- ends rise
ends_above : (runs : List Run) (start k : ℕ) (d : Run) → HaveEnds start runs → k < length runs → start ≤ (get_or runs k d).end
ends_above [] start k d have inside = absurd (omega arith)
ends_above (run ∷ runs) start zero d have inside = omega (arith, have.0)
ends_above (run ∷ runs) start (suc k) d have inside = omega (arith, have.0, ends_above runs run.end k d have.1 (omega arith))

ends_ordered : (runs : List Run) (start j k : ℕ) (d : Run) → HaveEnds start runs → j ≤ k → k < length runs → (get_or runs j d).end ≤ (get_or runs k d).end
ends_ordered [] start j k d have ordered inside = absurd (omega arith)
ends_ordered (run ∷ runs) start zero zero d have ordered inside = omega arith
ends_ordered (run ∷ runs) start zero (suc k) d have ordered inside = ends_above runs run.end k d have.1 (omega arith)
ends_ordered (run ∷ runs) start (suc j) zero d have ordered inside = absurd (omega arith)
ends_ordered (run ∷ runs) start (suc j) (suc k) d have ordered inside = ends_ordered runs run.end j k d have.1 (omega arith) (omega arith)

no_run : Run
no_run = record { bytes = []; end = 0 }

pub ends_rise : (runs : List Run) → HaveEnds 0 runs → IsNonDecreasingBy (λ (run : Run). run.end) runs
ends_rise runs have = IsNonDecreasingBy-from_default (λ (run : Run). run.end) runs no_run
    (λ j k ordered inside. ends_ordered runs 0 j k no_run have ordered inside)

-- where a run begins and ends, and that it has the place behind which it is the first to end
pub record HasPlace (runs : List Run) (start at index : ℕ) (d : Run) : Type 0 where
  pub index_in : index < length runs
  pub end_is : (get_or runs index d).end ≡ start + length (bytes_of_runs (take index runs)) + length (get_or runs index d).bytes
  pub from : start + length (bytes_of_runs (take index runs)) ≤ at
  pub before_end : at < (get_or runs index d).end

has_place : (runs : List Run) (start at index : ℕ) → HaveEnds start runs → start ≤ at → at < start + length (bytes_of_runs runs)
    → ((k : ℕ) (d : Run) → k < index → (get_or runs k d).end ≤ at) → ((k : ℕ) (d : Run) → index ≤ k → k < length runs → at < (get_or runs k d).end)
    → index ≤ length runs → (d : Run) → HasPlace runs start at index d
has_place [] start at index have from inside ended open_ bound d = absurd (omega arith)
has_place (run ∷ runs) start at zero have from inside ended open_ bound d =
    record { index_in = omega arith; end_is = omega (arith, have.0); from = omega arith; before_end = open_ 0 d (omega arith) (omega arith) }
has_place (run ∷ runs) start at (suc index) have from inside ended open_ bound d =
    let further = has_place runs run.end at index have.1 (ended 0 d (omega arith)) (omega (arith, have.0, length-append run.bytes (bytes_of_runs runs)))
    (λ k e below. ended (suc k) e (omega arith)) (λ k e above within. open_ (suc k) e (omega arith) (omega arith)) (omega arith) d in
    let size = length-append run.bytes (bytes_of_runs (take index runs)) in
    record {
      index_in = omega (arith, further.index_in);
      end_is = omega (arith, further.end_is, have.0, size);
      from = omega (arith, further.from, have.0, size);
      before_end = further.before_end;
    }

-- a piece of a run is one of all bytes
in_run : (runs : List Run) (index from : ℕ) (piece : List ℕ) (d : Run) → index < length runs → IsPieceAt from (get_or runs index d).bytes piece
    → IsPieceAt (length (bytes_of_runs (take index runs)) + from) (bytes_of_runs runs) piece
in_run [] index from piece d inside is = absurd (omega arith)
in_run (run ∷ runs) zero from piece d inside is = elsewhere _ _ _ _ (omega arith) (before run.bytes (bytes_of_runs runs) piece from is)
in_run (run ∷ runs) (suc index) from piece d inside is =
    elsewhere _ _ _ _ (omega (arith, length-append run.bytes (bytes_of_runs (take index runs))))
    (behind run.bytes (bytes_of_runs runs) piece (length (bytes_of_runs (take index runs)) + from) (in_run runs index from piece d (omega arith) is))

-- the same, as the code finds them
module _ (runs : List Run) (at index : ℕ) (have : HaveEnds 0 runs) (inside : at < length (bytes_of_runs runs)) (bound : index ≤ length runs)
    (ended : (k : ℕ) (d : Run) → k < index → (get_or runs k d).end ≤ at) (open_ : (k : ℕ) (d : Run) → index ≤ k → k < length runs → at < (get_or runs k d).end) where
  the_place : (d : Run) → HasPlace runs 0 at index d
  the_place d = has_place runs 0 at index have (omega arith) (omega arith) ended open_ bound d

  pub index_inside : index < length runs
  index_inside = (the_place no_run).index_in

  -- where the run begins, and that the place is in it
  pub run_begins : (run : Run) → run ≡ get_or runs index run
      → (length run.bytes ≤ run.end) × (run.end - length run.bytes ≤ at) × (at - (run.end - length run.bytes) < length run.bytes)
  run_begins run run_is =
      let p = the_place run in
      let end_is : run.end ≡ length (bytes_of_runs (take index runs)) + length run.bytes =
      omega (arith, ap (λ (r : Run). r.end) run_is, p.end_is, ap (λ (r : Run). length r.bytes) run_is) in
      let ends : at < run.end = rw run_is p.before_end in
      (omega (arith, end_is), omega (arith, end_is, p.from), omega (arith, end_is, ends, p.from))

  pub run_piece : (run : Run) (piece : List ℕ) → run ≡ get_or runs index run → IsPieceAt (at - (run.end - length run.bytes)) run.bytes piece
      → IsPieceAt at (bytes_of_runs runs) piece
  run_piece run piece run_is is =
      let p = the_place run in
      let end_is : run.end ≡ length (bytes_of_runs (take index runs)) + length run.bytes =
      omega (arith, ap (λ (r : Run). r.end) run_is, p.end_is, ap (λ (r : Run). length r.bytes) run_is) in
      let begins = run_begins run run_is in
      elsewhere _ _ _ _ (omega (arith, end_is, begins.0, begins.1))
      (in_run runs index (at - (run.end - length run.bytes)) piece run index_inside
      (let P : Run → Type 0 = λ r. IsPieceAt (at - (run.end - length run.bytes)) r.bytes piece in subst P run_is is))

-- the rest of a run is a piece
pub rest_of_run : (bytes run cut : List ℕ) (at from : ℕ) → ((piece : List ℕ) → IsPieceAt from run piece → IsPieceAt at bytes piece)
    → from < length run → cut ≡ take (length run - from) (drop from run) → IsPieceAt at bytes cut
rest_of_run bytes run cut at from pieces inside cut_is = rw (cut_is, take_rest run from) (pieces (drop from run) (rest_at run from inside))

-- one more run
pub runs_pushed : (runs : List Run) (run : Run) → bytes_of_runs (runs ++ run ∷ []) ≡ bytes_of_runs runs ++ run.bytes
runs_pushed [] run = append-nil run.bytes
runs_pushed (first ∷ runs) run = ap (λ l. first.bytes ++ l) (runs_pushed runs run) ∙ sym (append_assoc first.bytes (bytes_of_runs runs) run.bytes)

ends_pushed : (runs : List Run) (run : Run) (start : ℕ) → HaveEnds start runs → run.end ≡ start + length (bytes_of_runs runs) + length run.bytes
    → HaveEnds start (runs ++ run ∷ [])
ends_pushed [] run start have end_is = (omega (arith, end_is), tt)
ends_pushed (first ∷ runs) run start have end_is =
    (have.0, ends_pushed runs run first.end have.1 (omega (arith, end_is, have.0, length-append first.bytes (bytes_of_runs runs))))

pub push_kept : (runs after : List Run) (run : Run) (size : ℕ) → HaveEnds 0 runs → size ≡ length (bytes_of_runs runs) → after ≡ runs ++ run ∷ []
    → run.end ≡ size + length run.bytes → HaveEnds 0 after × (run.end ≡ length (bytes_of_runs after))
push_kept runs after run size have size_is after_is end_is = (
  rw after_is (ends_pushed runs run 0 have (omega (arith, end_is, size_is))),
  omega (arith, end_is, size_is, ap (λ l. length (bytes_of_runs l)) after_is, ap length (runs_pushed runs run), length-append (bytes_of_runs runs) run.bytes),
)

pub push_view : (runs after : List Run) (run : Run) (bytes : List ℕ) → after ≡ runs ++ run ∷ [] → bytes_of_runs runs ≡ bytes
    → bytes_of_runs after ≡ bytes ++ run.bytes
push_view runs after run bytes after_is view = ap bytes_of_runs after_is ∙ runs_pushed runs run ∙ ap (λ l. l ++ run.bytes) view
