-- Texts that were put one behind another.
use Rattle.std.proofs.Common.{Result, Ok, Err, IfOk, OnErr, ◌≡◌, ◌≤◌, ◌<◌, ◌+◌, ⊎_elim, ℕ, List, [], ◌∷◌, ◌++◌, length, take, ap, refl, sym, ◌∙◌, arith, append_assoc, append-nil, length-append, length-take-le, take-take}
use Rattle.std.proofs.lemmas.List.{length-take}
use Rattle.std.proofs.lemmas.Bool.{cases_lt}
use Rattle.s3_log.specs.Line.{in_quotes}
use Rattle.s3_log.specs.Room.{Keeps, Puts}

keeps_then : {a b c : List ℕ} {i j : ℕ} → i ≤ j → Keeps i a b → Keeps j b c → Keeps i a c
keeps_then {a} {b} {c} {i} {j} order first second = record {
  size = second.size ∙ first.size;
  front = sym (take-take i j c order) ∙ ap (λ (l : List ℕ). take i l) second.front ∙ take-take i j b order ∙ first.front;
}

-- nothing was done, or nothing more
pub keeps_all : {a b : List ℕ} {i : ℕ} → b ≡ a → Keeps i a b
keeps_all {a} {b} {i} same = record { size = ap length same; front = ap (λ (l : List ℕ). take i l) same }

pub keeps_behind : {a b c x : List ℕ} {i j : ℕ} → Puts x i a b j → Keeps j b c → Keeps i a c
keeps_behind p q = keeps_then p.order p.keeps q

-- no text was put
pub puts_nothing : {a : List ℕ} {i : ℕ} → Puts [] i a a i
puts_nothing {a} {i} = record { keeps = keeps_all refl; order = omega arith; put = λ _. sym (append-nil (take i a)); full = λ past. omega (arith, past) }

-- the same text
pub puts_as : {a b x y : List ℕ} {i j : ℕ} → x ≡ y → Puts x i a b j → Puts y i a b j
puts_as {a} {b} {x} {y} {i} {j} same p = record {
  keeps = p.keeps;
  order = p.order;
  put = λ within. p.put within ∙ ap (λ (l : List ℕ). take i a ++ l) same;
  full = λ past. omega (arith, p.full past, ap length same);
}

-- a text behind another one
pub puts_then : {a b c x y : List ℕ} {i j k : ℕ} → Puts x i a b j → Puts y j b c k → Puts (x ++ y) i a c k
puts_then {a} {b} {c} {x} {y} {i} {j} {k} p q = record {
  keeps = keeps_then p.order p.keeps q.keeps;
  order = omega (arith, p.order, q.order);
  put = λ within. q.put (omega (arith, within, p.keeps.size)) ∙ ap (λ (l : List ℕ). l ++ y) (p.put (omega (arith, within, q.order))) ∙ append_assoc (take i a) x y;
  full = λ past. ends (q.full (omega (arith, past, p.keeps.size)));
}
  where
    ends : length b < j + length y → length a < i + length (x ++ y)
    ends short =
        ⊎_elim
        (λ (past : length a < j). omega (arith, p.full past, length-append x y))
        (λ (within : j ≤ length a).
        omega (arith, short, within, p.keeps.size, length-append x y, length-append (take i a) x, ap length (p.put within), length-take-le j b (omega (arith, within, p.keeps.size)), length-take i a))
        (cases_lt (length a) j)

-- a text in quotes
pub puts_in_quotes : {a b c d e : List ℕ} {i j k l m : ℕ} {lead text : List ℕ}
    → Puts lead i a b j → Puts (34 ∷ []) j b c k → Puts text k c d l → Puts (34 ∷ []) l d e m → Puts (lead ++ in_quotes text) i a e m
puts_in_quotes {a} {b} {c} {d} {e} {i} {j} {k} {l} {m} {lead} {text} p q r s =
    puts_as (append_assoc (lead ++ 34 ∷ []) text (34 ∷ []) ∙ append_assoc lead (34 ∷ []) (text ++ 34 ∷ [])) (puts_then (puts_then (puts_then p q) r) s)

-- a text that may not be put, behind one that was
pub ok_behind : {E : Type 0} (r : Result ℕ E) (y c : List ℕ) {a b x z : List ℕ} {i j : ℕ} → Puts x i a b j → x ++ y ≡ z
    → IfOk r (λ end. Puts y j b c end) → IfOk r (λ end. Puts z i a c end)
ok_behind (Ok end) y c p same q = puts_as same (puts_then p q)
ok_behind (Err e) y c p same q = tt

-- the same text, and what was kept
pub ok_as : {E : Type 0} (r : Result ℕ E) (a c : List ℕ) (i : ℕ) {x y : List ℕ} → x ≡ y → IfOk r (λ end. Puts x i a c end) → IfOk r (λ end. Puts y i a c end)
ok_as (Ok end) a c i same p = puts_as same p
ok_as (Err e) a c i same p = tt

pub kept_after : {E : Type 0} (r : Result ℕ E) (c : List ℕ) {a b x : List ℕ} {i j : ℕ} → Puts x i a b j → OnErr r (Keeps j b c) → OnErr r (Keeps i a c)
kept_after (Ok end) c p k = tt
kept_after (Err e) c p k = keeps_behind p k

pub kept_behind : {E : Type 0} (r : Result ℕ E) (c : List ℕ) {a b x : List ℕ} {i j : ℕ} → Puts x i a b j → OnErr r (c ≡ b) → OnErr r (Keeps i a c)
kept_behind (Ok end) c p same = tt
kept_behind (Err e) c p same = keeps_behind p (keeps_all same)

pub whatever_kept : {E : Type 0} (r : Result ℕ E) {a b : List ℕ} {i : ℕ} → Keeps i a b → OnErr r (Keeps i a b)
whatever_kept (Ok end) k = tt
whatever_kept (Err e) k = k
