-- What stays true of a text and the bodies in it as more comes behind and as the front is sent.
use Rattle.std.proofs.Common.{◌≡◌, ℕ, ◌+◌, ◌-◌, ◌<◌, ◌≤◌, Option, None, Some, List, [], ◌∷◌, ◌++◌, length, take, drop, refl, sym, ap, ◌∙◌, arith, append_assoc, length-append, length-drop}
use Rattle.std.specs.Prelude.{slice_range}
use Rattle.std.proofs.lemmas.List.{drop-append-le, take-append-le, drop_all, take_rest, drop-drop, drop-take, length-take-le}
use Rattle.s3_outbox.specs.Pending.{placed, bytes_of, woven, AreInOrder, IsPartGone, IsCleared, AreSound, text_front}
use Rattle.s3_outbox.specs.declared.placed.Placed.{Placed}

append_none : (xs : List ℕ) → xs ++ [] ≡ xs
append_none [] = refl
append_none (x ∷ xs) = ap (λ (ys : List ℕ). x ∷ ys) (append_none xs)

-- a place is within the text
pub within : (size at : ℕ) (bodies : List Placed) → AreInOrder size at bodies → at ≤ size
within size at [] h = h
within size at (first ∷ rest) h = omega (arith, h.0, within size first.behind rest h.2)

-- of a body that isn't the first nothing is gone
pub none_gone : (size at : ℕ) (bodies : List Placed) → AreInOrder size at bodies → IsPartGone at 0 bodies
none_gone size at [] h = refl
none_gone size at (first ∷ rest) h = (h.1, λ z. absurd (omega (arith, z)))

-- a part of a text is a part of a longer one
slice_more : (text more : List ℕ) (a b : ℕ) → a ≤ b → b ≤ length text → slice_range (text ++ more) a b ≡ slice_range text a b
slice_more text more a b h l =
    ap (λ (xs : List ℕ). take (b - a) xs) (drop-append-le a text more (omega arith))
    ∙ take-append-le (b - a) (drop a text) more (omega (arith, length-drop a text))

length_slice : (text : List ℕ) (a b : ℕ) → b ≤ length text → length (slice_range text a b) ≡ b - a
length_slice text a b h = length-take-le (b - a) (drop a text) (omega (arith, h, length-drop a text))

slice_sent : (text : List ℕ) (a n b : ℕ) → a + n ≤ b → slice_range text (a + n) b ≡ drop n (slice_range text a b)
slice_sent text a n b h =
    let count : b - a ≡ n + (b - (a + n)) = omega (arith, h) in
    sym (ap (λ (k : ℕ). drop n (take k (drop a text))) count
    ∙ drop-take n (b - (a + n)) (drop a text)
    ∙ ap (λ (xs : List ℕ). take (b - (a + n)) xs) (drop-drop n a text))

-- more text stands behind all
more_text : (text more : List ℕ) (at taken : ℕ) (bodies : List Placed) → AreInOrder (length text) at bodies → woven (text ++ more) at taken bodies ≡ woven text at taken bodies ++ more
more_text text more at taken [] h = drop-append-le at text more h
more_text text more at taken (first ∷ rest) h =
    rw (slice_more text more at first.behind h.0 (within (length text) first.behind rest h.2), more_text text more first.behind 0 rest h.2)
    (simp append_assoc)

-- a body behind the text stands behind all
more_body : (text body : List ℕ) (at taken : ℕ) (bodies : List Placed) → AreInOrder (length text) at bodies → IsPartGone at taken bodies → woven text at taken (bodies ++ record { behind = length text; body = body } ∷ []) ≡ woven text at taken bodies ++ body
more_body text body at taken [] h gone =
    rw (gone, take_rest text at, drop_all (length text) text (omega arith), append_none body) refl
more_body text body at taken (first ∷ rest) h gone =
    rw (more_body text body first.behind 0 rest h.2 (none_gone (length text) first.behind rest h.2))
    (simp append_assoc)

in_order_more : (size more at : ℕ) (bodies : List Placed) → AreInOrder size at bodies → AreInOrder (size + more) at bodies
in_order_more size more at [] h = omega (arith, h)
in_order_more size more at (first ∷ rest) h = (h.0, h.1, in_order_more size more first.behind rest h.2)

in_order_placed : (size at : ℕ) (body : List ℕ) (bodies : List Placed) → 0 < length body → AreInOrder size at bodies → AreInOrder size at (bodies ++ record { behind = size; body = body } ∷ [])
in_order_placed size at body [] some h = (h, some, omega arith)
in_order_placed size at body (first ∷ rest) some h = (h.0, h.1, in_order_placed size first.behind body rest some h.2)

part_gone_placed : (size at taken : ℕ) (body : List ℕ) (bodies : List Placed) → 0 < length body → IsPartGone at taken bodies → IsPartGone at taken (bodies ++ record { behind = size; body = body } ∷ [])
part_gone_placed size at taken body [] some gone = (omega (arith, gone, some), λ z. absurd (omega (arith, z, gone)))
part_gone_placed size at taken body (first ∷ rest) some gone = gone

cleared_placed : (text : List ℕ) (size at : ℕ) (body : List ℕ) (bodies : List Placed) → IsCleared text at (bodies ++ record { behind = size; body = body } ∷ [])
cleared_placed text size at body [] = tt
cleared_placed text size at body (first ∷ rest) = tt

no_length : (xs : List ℕ) → length xs ≡ 0 → xs ≡ []
no_length [] h = refl
no_length (x ∷ xs) h = absurd (omega (arith, h))

cleared_more : (text more : List ℕ) (at : ℕ) (bodies : List Placed) → AreInOrder (length text) at bodies → IsCleared text at bodies → IsCleared (text ++ more) at bodies
cleared_more text more at [] h cleared = λ e.
    let sum = length-append text more in
    rw (cleared (omega (arith, e, sum, h)), no_length more (omega (arith, e, sum, h))) refl
cleared_more text more at (first ∷ rest) h cleared = tt

sound_more : (text more : List ℕ) (at taken : ℕ) (bodies : List Placed) → AreSound text at taken bodies → AreSound (text ++ more) at taken bodies
sound_more text more at taken bodies s = record {
  in_order = rw (length-append text more) (in_order_more (length text) (length more) at bodies s.in_order);
  part_gone = s.part_gone;
  cleared = cleared_more text more at bodies s.in_order s.cleared;
}

sound_body : (text body : List ℕ) (at taken : ℕ) (bodies : List Placed) → 0 < length body → AreSound text at taken bodies → AreSound text at taken (bodies ++ record { behind = length text; body = body } ∷ [])
sound_body text body at taken bodies some s = record {
  in_order = in_order_placed (length text) at body bodies some s.in_order;
  part_gone = part_gone_placed (length text) at taken body bodies some s.part_gone;
  cleared = cleared_placed text (length text) at body bodies;
}

-- a reply behind all others
sound_reply : (text head : List ℕ) (at taken : ℕ) (bodies : List Placed) (body : Option (List ℕ)) → AreSound text at taken bodies → AreSound (text ++ head) at taken (placed bodies (length (text ++ head)) body)
sound_reply text head at taken bodies None s = sound_more text head at taken bodies s
sound_reply text head at taken bodies (Some []) s = sound_more text head at taken bodies s
sound_reply text head at taken bodies (Some (byte ∷ more)) s =
    sound_body (text ++ head) (byte ∷ more) at taken bodies (omega arith) (sound_more text head at taken bodies s)

waits_reply : (text head : List ℕ) (at taken : ℕ) (bodies : List Placed) (body : Option (List ℕ)) → AreSound text at taken bodies → woven (text ++ head) at taken (placed bodies (length (text ++ head)) body) ≡ woven text at taken bodies ++ (head ++ bytes_of body)
waits_reply text head at taken bodies None s = rw (append_none head) (more_text text head at taken bodies s.in_order)
waits_reply text head at taken bodies (Some []) s = rw (append_none head) (more_text text head at taken bodies s.in_order)
waits_reply text head at taken bodies (Some (byte ∷ more)) s =
    let longer = sound_more text head at taken bodies s in
    more_body (text ++ head) (byte ∷ more) at taken bodies longer.in_order longer.part_gone
    ∙ ap (λ (xs : List ℕ). xs ++ (byte ∷ more)) (more_text text head at taken bodies s.in_order)
    ∙ append_assoc (woven text at taken bodies) head (byte ∷ more)

pub reply_sound : (text head : List ℕ) (at taken : ℕ) (bodies : List Placed) (body : Option (List ℕ)) (new : List ℕ) (more : List Placed) → AreSound text at taken bodies → new ≡ text ++ head → more ≡ placed bodies (length new) body → AreSound new at taken more
reply_sound text head at taken bodies body new more s e f =
    rw (f, e) (sound_reply text head at taken bodies body s)

pub reply_waits : (text head : List ℕ) (at taken : ℕ) (bodies : List Placed) (body : Option (List ℕ)) (new : List ℕ) (more : List Placed) → AreSound text at taken bodies → new ≡ text ++ head → more ≡ placed bodies (length new) body → woven new at taken more ≡ woven text at taken bodies ++ (head ++ bytes_of body)
reply_waits text head at taken bodies body new more s e f =
    rw (f, e) (waits_reply text head at taken bodies body s)

-- the text in front is among what waits
pub front_fits : (text : List ℕ) (at taken : ℕ) (bodies : List Placed) → AreSound text at taken bodies → text_front (length text) at bodies ≤ length (woven text at taken bodies)
front_fits text at taken [] s = omega (arith, length-drop at text)
front_fits text at taken (first ∷ rest) s =
    omega (arith, length_slice text at first.behind (within (length text) first.behind rest s.in_order.2), length-append (slice_range text at first.behind) (drop taken first.body ++ woven text first.behind 0 rest))

-- text in front is sent
pub text_sent : (text : List ℕ) (at taken count : ℕ) (bodies : List Placed) → AreSound text at taken bodies → count ≤ text_front (length text) at bodies → woven text (at + count) taken bodies ≡ drop count (woven text at taken bodies)
text_sent text at taken count [] s fits = sym (drop-drop count at text)
text_sent text at taken count (first ∷ rest) s fits =
    let size = within (length text) first.behind rest s.in_order.2 in
    let long = length_slice text at first.behind size in
    let others = drop taken first.body ++ woven text first.behind 0 rest in
    ap (λ (xs : List ℕ). xs ++ others) (slice_sent text at count first.behind (omega (arith, fits, s.in_order.0)))
    ∙ sym (drop-append-le count (slice_range text at first.behind) others (omega (arith, fits, long)))

-- and the places behind it stay in order
pub text_in_order : (text : List ℕ) (at taken count : ℕ) (bodies : List Placed) → AreSound text at taken bodies → count ≤ text_front (length text) at bodies → AreInOrder (length text) (at + count) bodies
text_in_order text at taken count [] s fits = omega (arith, fits, s.in_order)
text_in_order text at taken count (first ∷ rest) s fits = (omega (arith, fits, s.in_order.0), s.in_order.1, s.in_order.2)

-- the first body's place is within the text
pub first_within : (size at : ℕ) (bodies : List Placed) (first : Placed) (rest : List Placed) → bodies ≡ first ∷ rest → AreInOrder size at bodies → first.behind ≤ size
first_within size at bodies first rest e h =
    let order : AreInOrder size at (first ∷ rest) = rw e at h in
    within size first.behind rest order.2

-- where nothing waits, there is neither text nor body
pub none_waits : (text : List ℕ) (at taken : ℕ) (bodies : List Placed) → AreSound text at taken bodies → woven text at taken bodies ≡ [] → (length text ≡ 0) × (length bodies ≡ 0)
none_waits text at taken [] s none =
    let sent : length (drop at text) ≡ 0 = ap (λ (xs : List ℕ). length xs) none in
    let cleared : text ≡ [] = s.cleared (omega (arith, s.in_order, sent, length-drop at text)) in
    (ap (λ (xs : List ℕ). length xs) cleared, refl)
none_waits text at taken (first ∷ rest) s none =
    let others = drop taken first.body ++ woven text first.behind 0 rest in
    let sent : length (slice_range text at first.behind ++ others) ≡ 0 = ap (λ (xs : List ℕ). length xs) none in
    absurd (omega (arith, sent, s.part_gone.0, length-append (slice_range text at first.behind) others, length-append (drop taken first.body) (woven text first.behind 0 rest), length-drop taken first.body))
