-- Lines, put in their places one after the other.
use Rattle.std.proofs.Common.{◌≡◌, ◌↔◌, ℕ, ◌+◌, ◌-◌, ◌<◌, ◌≤◌, suc, Bool, true, false, not, List, [], ◌∷◌, ◌++◌, append-nil, map, drop, get_or, length, refl, sym, ap, ◌∙◌, arith, subst}
use Rattle.std.specs.List.{AllByRecursion, insert, position_or_len}
use Rattle.std.specs.declared.cmp.Ordering.{Ordering}
use Rattle.std.specs.Ordering.{is_gt}
use Rattle.std.proofs.lemmas.List.Sums.{position_or_len_is}
use Rattle.std.proofs.lemmas.List.{drop_more, get_or-map, length-map, map-append}
use Rattle.std.specs.Borrow.{Bor}
use Rattle.std.specs.Prelude.{if◌then◌else◌}
use Rattle.s3_text.specs.Sorting.{insert_by, sorted_by}
use Rattle.s3_signer.specs.declared.line.Line.{Line}
use Rattle.s3_signer.specs.Line.{pair, pairs}
use Rattle.s3_signer.specs.Request.{HeaderLine, Told, added_lines, given_lines, length_line, line_cmp, lower_line, stamp_line, word_line}

-- where none passes, the place is the end
pub no_place : {X : Type 0} (p : X → Bool) (xs : List X) → ((k : ℕ) (d : X) → k < length xs → p (get_or xs k d) ≡ false) → length xs ≡ position_or_len p xs
no_place p [] none = refl
no_place p (x ∷ xs) none =
    sym (position_or_len_is p (x ∷ xs) (length (x ∷ xs)) x (omega arith) (λ k h. none k x h) (λ h. absurd (omega arith)))

-- the first that passes is the place
pub first_place : {X : Type 0} (p : X → Bool) (xs : List X) (i : ℕ) (x : X) → i < length xs → x ≡ get_or xs i x → p x ≡ true → ((k : ℕ) (d : X) → k < i → p (get_or xs k d) ≡ false) → i ≡ position_or_len p xs
first_place p xs i x within is passes none =
    sym (position_or_len_is p xs i x (omega arith) (λ k h. none k x h) (λ h. ap p (sym is) ∙ passes))

-- the test that the place of x is the first to pass
abbrev pub is_not_below : {X Y : Type 0} → (X → Y) → (Y → Y → Ordering) → X → X → Bool
is_not_below f cmp x y = not (is_gt (cmp (f x) (f y)))

-- an element that is inserted at its place
pub inserted : {X Y : Type 0} (f : X → Y) (cmp : Y → Y → Ordering) (x : X) (xs : List X) → map f (insert xs (position_or_len (is_not_below f cmp x) xs) x) ≡ insert_by cmp (f x) (map f xs)
inserted f cmp x [] = refl
inserted f cmp x (y ∷ ys) = by (is_gt (cmp (f x) (f y))) refl (inserted f cmp x ys)
  where
    by : (b : Bool) → is_gt (cmp (f x) (f y)) ≡ b → map f (insert ys (position_or_len (is_not_below f cmp x) ys) x) ≡ insert_by cmp (f x) (map f ys) → map f (insert (y ∷ ys) (position_or_len (is_not_below f cmp x) (y ∷ ys)) x) ≡ insert_by cmp (f x) (map f (y ∷ ys))
    by true h rest =
        let place = position_or_len (is_not_below f cmp x) ys in
        let next : 1 + place ≡ suc place = omega arith in
        rw (h, next) (ap (λ zs. f y ∷ zs) rest)
    by false h rest = rw h refl

-- a line that may be there, in front of others
one_more : (b : Bool) (line : HeaderLine) (more : List HeaderLine) → (if b then insert_by line_cmp (lower_line line) (sorted_by line_cmp (map lower_line more)) else sorted_by line_cmp (map lower_line more)) ≡ sorted_by line_cmp (map lower_line ((if b then line ∷ [] else []) ++ more))
unfolding sorted_by
one_more true line more = refl
one_more false line more = refl

-- no lines are in order
pub none_in_order : (none : List HeaderLine) → none ≡ [] → none ≡ sorted_by line_cmp []
unfolding sorted_by
none_in_order none is = is

-- the lines of the word, the stamp and the size, added to the further ones
pub added_in_order : (told : Told) (stamp : List ℕ) (first second : List HeaderLine) → first ≡ sorted_by line_cmp (map lower_line told.more ++ []) → second ≡ (if told.sized then insert_by line_cmp (lower_line (length_line told.size)) first else first)
    → insert_by line_cmp (lower_line (word_line told.word)) (insert_by line_cmp (lower_line (stamp_line stamp)) second) ≡ sorted_by line_cmp (map lower_line (added_lines told stamp))
unfolding sorted_by
added_in_order told stamp first second begun sized =
    let more : first ≡ sorted_by line_cmp (map lower_line told.more) = begun ∙ ap (sorted_by line_cmp) (append-nil (map lower_line told.more)) in
    ap (λ lines. insert_by line_cmp (lower_line (word_line told.word)) (insert_by line_cmp (lower_line (stamp_line stamp)) lines))
    (sized ∙ ap (λ lines. if told.sized then insert_by line_cmp (lower_line (length_line told.size)) lines else lines) more ∙ one_more told.sized (length_line told.size) told.more)

-- the text of a given line
abbrev pub given_line : Bor (List ℕ) × Bor (List ℕ) → HeaderLine
given_line header = (header.0.now, header.1.now)

-- one more of the lines that are given, the last first
pub given_in_order : (headers : List (Bor (List ℕ) × Bor (List ℕ))) (i : ℕ) (d : Bor (List ℕ) × Bor (List ℕ)) (added : List HeaderLine) → 0 < i → i ≤ length headers → insert_by line_cmp (lower_line (given_line (get_or headers (i - 1) d))) (sorted_by line_cmp (map lower_line (drop i (given_lines headers)) ++ added)) ≡ sorted_by line_cmp (map lower_line (drop (i - 1) (given_lines headers)) ++ added)
unfolding sorted_by
given_in_order headers i d added some within =
    let next : i - 1 + 1 ≡ i = omega arith in
    let inside : i - 1 < length headers = omega arith in
    let same : get_or (given_lines headers) (i - 1) (given_line d) ≡ given_line (get_or headers (i - 1) d) = get_or-map given_line headers (i - 1) d (given_line d) inside in
    let more : drop (i - 1) (given_lines headers) ≡ get_or (given_lines headers) (i - 1) (given_line d) ∷ drop (i - 1 + 1) (given_lines headers) =
    drop_more (given_lines headers) (i - 1) (given_line d) (omega (arith, length-map headers given_line)) in
    rw (more, next, same) refl

-- the line at a place, and those behind it
pub next_given : (headers : List (Bor (List ℕ) × Bor (List ℕ))) (i : ℕ) (d : Bor (List ℕ) × Bor (List ℕ)) → i < length headers → drop i (given_lines headers) ≡ given_line (get_or headers i d) ∷ drop (i + 1) (given_lines headers)
next_given headers i d within =
    drop_more (given_lines headers) i (given_line d) (omega (arith, within, length-map headers given_line))
    ∙ ap (λ line. line ∷ drop (i + 1) (given_lines headers)) (get_or-map given_line headers i d (given_line d) within)

-- a fact of each line from a place on, by that of the line at it
pub each_from : (P : HeaderLine → Type 0) (headers : List (Bor (List ℕ) × Bor (List ℕ))) (i : ℕ) (d : Bor (List ℕ) × Bor (List ℕ)) → i < length headers → AllByRecursion P (drop i (given_lines headers)) ↔ (P (given_line (get_or headers i d)) × AllByRecursion P (drop (i + 1) (given_lines headers)))
each_from P headers i d within =
    let same = next_given headers i d within in
    (λ all. subst (AllByRecursion P) same all, λ both. subst (AllByRecursion P) (sym same) both)

-- one more line at the end
pub pairs_more : (lines : List Line) (line : Line) → pairs (lines ++ line ∷ []) ≡ pairs lines ++ pair line ∷ []
pairs_more lines line = map-append pair lines (line ∷ [])

-- one more line is given
pub given_more : (headers : List (Bor (List ℕ) × Bor (List ℕ))) (one : Bor (List ℕ) × Bor (List ℕ)) → given_lines (headers ++ one ∷ []) ≡ given_lines headers ++ (one.0.now, one.1.now) ∷ []
given_more headers one = map-append given_line headers (one ∷ [])

-- or none
pub given_alone : (headers : List (Bor (List ℕ) × Bor (List ℕ))) → given_lines headers ++ [] ≡ given_lines headers
given_alone headers = append-nil (given_lines headers)
