-- A text says one thing, and a connection's bytes are cut in one way.
use Rattle.std.proofs.Common.{◌≡◌, ℕ, List, [], ◌++◌, take, drop, length, Some, sym, ap, ◌∙◌, refl, subst}
use Rattle.std.proofs.lemmas.List.{take_at, drop_at}
use Rattle.httparse.proofs.GrammarLemmas.{request_unique}
use Rattle.s3_http_heads.specs.declared.find.Found.TheVariants.{Head}
use Rattle.s3_http_heads.specs.Head.{HeadParts, parts_of, Says}
use Rattle.s3_http_heads.specs.BodyLength.{length_lines, announced}
use Rattle.s3_http_heads.specs.Message.{IsMessage}

pub says_unique : (text : List ℕ) (a b : HeadParts) → Says text a → Says text b → a ≡ b
says_unique text a b x y =
    x.2 ∙ ap parts_of (request_unique text x.0 y.0 [] [] x.1.0 y.1.0).0 ∙ sym y.2

-- two ways to join one list, whose fronts have one length
same_fronts : (a b r q : List ℕ) → length a ≡ length b → a ++ r ≡ b ++ q → (a ≡ b) × (r ≡ q)
same_fronts a b r q len joined = (
  sym (take_at a r (length b) len) ∙ ap (take (length b)) joined ∙ take_at b q (length b) refl,
  sym (drop_at a r (length b) len) ∙ ap (drop (length b)) joined ∙ drop_at b q (length b) refl,
)

same_len : (n m : ℕ) → Head n ≡ Head m → n ≡ m
same_len n m e = cc

same_count : (n m : ℕ) → Some n ≡ Some m → n ≡ m
same_count n m e = cc

pub message_unique : (bytes : List ℕ) (a b : HeadParts) (body other rest more : List ℕ)
    → IsMessage bytes a body rest → IsMessage bytes b other more → (a ≡ b) × (body ≡ other) × (rest ≡ more)
message_unique bytes a b body other rest more x y =
    let texts = same_fronts x.text y.text (body ++ rest) (other ++ more) (same_len _ _ (sym x.found ∙ y.found)) (sym x.joined ∙ y.joined) in
    let parts = says_unique y.text a b (subst (λ t. Says t a) texts.0 x.says) y.says in
    let bodies = same_fronts body other rest more (same_count _ _ (sym x.whole ∙ ap (λ p. announced (length_lines p)) parts ∙ y.whole)) texts.1 in
    (parts, bodies.0, bodies.1)
