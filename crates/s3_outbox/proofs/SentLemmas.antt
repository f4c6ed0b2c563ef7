-- What is left of two lists, one behind the other, of which the front is sent.
use Rattle.std.proofs.Common.{◌≡◌, ℕ, ◌+◌, ◌-◌, ◌≤◌, List, ◌++◌, length, drop, refl, sym, ap, ◌∙◌, inl, inr, arith, length-append, length-drop}
use Rattle.std.proofs.Math.Seq.{drop-append-add}
use Rattle.std.proofs.lemmas.Bool.{cases_lt}
use Rattle.std.proofs.lemmas.List.{drop-append-le, drop_all, drop-drop}

drop_both : (n : ℕ) (xs ys : List ℕ) → drop n (xs ++ ys) ≡ drop n xs ++ drop (n - length xs) ys
drop_both n xs ys = elim (cases_lt (length xs) n) [
  | inl h ↦
      let over : n ≡ length xs + (n - length xs) = omega (arith, h) in
      ap (λ (k : ℕ). drop k (xs ++ ys)) over ∙ drop-append-add xs ys (n - length xs) ∙ rw (drop_all n xs (omega (arith, h))) refl
  | inr h ↦
      let none : n - length xs ≡ 0 = omega (arith, h) in
      rw none (drop-append-le n xs ys h)
]

pub sent_waits : (w last : List ℕ) (sent count : ℕ) → drop count w ++ drop (sent + (count - length w)) last ≡ drop count (w ++ drop sent last)
sent_waits w last sent count =
    sym (drop_both count w (drop sent last) ∙ ap (λ (xs : List ℕ). drop count w ++ xs) (drop-drop (count - length w) sent last))

pub sent_fits : (w last : List ℕ) (sent count : ℕ) → sent ≤ length last → count ≤ length (w ++ drop sent last) → sent + (count - length w) ≤ length last
sent_fits w last sent count h l = omega (arith, h, l, length-append w (drop sent last), length-drop sent last)
