-- What waits as some of the first body is sent, and as all that waits is copied.
use Rattle.std.proofs.Common.{◌≡◌, ℕ, ◌+◌, ◌-◌, ◌<◌, ◌≤◌, List, [], ◌∷◌, ◌++◌, length, take, drop, sym, ap, ◌∙◌, arith, append_assoc, length-drop}
use Rattle.std.specs.Prelude.{slice_range}
use Rattle.std.proofs.lemmas.List.{drop-append-le, drop_all, drop-drop, take_rest}
use Rattle.s3_outbox.specs.Pending.{woven, AreInOrder, IsPartGone, AreSound, text_front, body_size}
use Rattle.s3_outbox.specs.declared.placed.Placed.{Placed}
use Rattle.s3_outbox.proofs.WovenLemmas.{none_gone}

-- where no text stands in front, the first body does
at_body : (text : List ℕ) (at taken : ℕ) (first : Placed) (rest : List Placed) → text_front (length text) at (first ∷ rest) ≡ 0
    → woven text at taken (first ∷ rest) ≡ drop taken first.body ++ woven text first.behind 0 rest
at_body text at taken first rest front = ap (λ n. take n (drop at text) ++ (drop taken first.body ++ woven text first.behind 0 rest)) front

-- a part of the first body is sent
pub part_sound : (text : List ℕ) (at taken count : ℕ) (bodies : List Placed) → AreSound text at taken bodies → text_front (length text) at bodies ≡ 0
    → taken + count < body_size bodies → AreSound text at (taken + count) bodies
part_sound text at taken count [] s front some = absurd (omega (arith, some))
part_sound text at taken count (first ∷ rest) s front some = record {
  in_order = s.in_order;
  part_gone = (some, λ _. omega (arith, front, s.in_order.0));
  cleared = s.cleared;
}

pub part_sent : (text : List ℕ) (at taken count : ℕ) (bodies : List Placed) → text_front (length text) at bodies ≡ 0 → taken + count < body_size bodies
    → woven text at (taken + count) bodies ≡ drop count (woven text at taken bodies)
part_sent text at taken count [] front some = absurd (omega (arith, some))
part_sent text at taken count (first ∷ rest) front some =
    let others = woven text first.behind 0 rest in
    at_body text at (taken + count) first rest front
    ∙ ap (λ (xs : List ℕ). xs ++ others) (sym (drop-drop count taken first.body))
    ∙ sym (drop-append-le count (drop taken first.body) others (omega (arith, some, length-drop taken first.body)))
    ∙ sym (ap (drop count) (at_body text at taken first rest front))

-- the whole of it is sent
pub rest_in_order : (text : List ℕ) (at taken : ℕ) (bodies left : List Placed) → AreSound text at taken bodies → text_front (length text) at bodies ≡ 0
    → left ≡ drop 1 bodies → AreInOrder (length text) at left
rest_in_order text at taken [] left s front is = rw is s.in_order
rest_in_order text at taken (first ∷ rest) left s front is =
    let same : at ≡ first.behind = omega (arith, front, s.in_order.0) in
    rw (is, same) s.in_order.2

pub body_sent : (text : List ℕ) (at taken count : ℕ) (bodies left : List Placed) → AreSound text at taken bodies → text_front (length text) at bodies ≡ 0
    → 0 < count → taken + count ≡ body_size bodies → left ≡ drop 1 bodies → woven text at 0 left ≡ drop count (woven text at taken bodies)
body_sent text at taken count [] left s front some all is = absurd (omega (arith, some, all))
body_sent text at taken count (first ∷ rest) left s front some all is =
    let others = woven text first.behind 0 rest in
    let same : at ≡ first.behind = omega (arith, front, s.in_order.0) in
    let long = length-drop taken first.body in
    ap (woven text at 0) is
    ∙ ap (λ n. woven text n 0 rest) same
    ∙ ap (λ (xs : List ℕ). xs ++ others) (sym (drop_all count (drop taken first.body) (omega (arith, all, long))))
    ∙ sym (drop-append-le count (drop taken first.body) others (omega (arith, all, long)))
    ∙ sym (ap (drop count) (at_body text at taken first rest front))

-- one more body is copied, and the text before it
pub copied_more : (text all more copy : List ℕ) (at taken : ℕ) (bodies rest : List Placed) (first : Placed) → all ++ woven text at taken bodies ≡ copy → bodies ≡ first ∷ rest
    → more ≡ all ++ (slice_range text at first.behind ++ drop taken first.body) → more ++ woven text first.behind 0 rest ≡ copy
copied_more text all more copy at taken bodies rest first so_far is adds =
    rw adds (simp append_assoc (ap (λ bs. all ++ woven text at taken bs) (sym is) ∙ so_far))

-- what is behind it goes on from there
pub goes_on : (size at : ℕ) (bodies rest : List Placed) (first : Placed) → bodies ≡ first ∷ rest → AreInOrder size at bodies → AreInOrder size first.behind rest × IsPartGone first.behind 0 rest
goes_on size at bodies rest first is order =
    let order : AreInOrder size at (first ∷ rest) = rw is at order in (order.2, none_gone size first.behind rest order.2)

-- where none is left, all that waits is copied with the text that is left
pub copied_all : (text left all more copy : List ℕ) (at taken : ℕ) (bodies : List Placed) → all ++ woven text at taken bodies ≡ copy
    → length bodies ≡ 0 → left ≡ text → more ≡ all ++ take (length left - at) (drop at left) → more ≡ copy
copied_all text left all more copy at taken [] so_far none is adds =
    adds ∙ ap (λ xs. all ++ xs) (take_rest left at ∙ ap (drop at) is) ∙ so_far
copied_all text left all more copy at taken (first ∷ rest) so_far none is adds = absurd (omega (arith, none))

-- the first body stands behind here, and has at least as many bytes as are gone
pub first_fits : (size at taken : ℕ) (bodies rest : List Placed) (first : Placed) → bodies ≡ first ∷ rest
    → AreInOrder size at bodies → IsPartGone at taken bodies → (at ≤ first.behind) × (taken ≤ length first.body)
first_fits size at taken bodies rest first is order gone =
    let order : AreInOrder size at (first ∷ rest) = rw is at order in
    let gone : IsPartGone at taken (first ∷ rest) = rw is at gone in (order.0, omega (arith, gone.0))
