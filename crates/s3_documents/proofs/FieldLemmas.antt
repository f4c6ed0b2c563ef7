-- The fields of lists, which a printer takes one after another.
use Rattle.std.proofs.Common.{◌≡◌, sym, ap, ℕ, List, [], ◌∷◌, ◌++◌, append_assoc, append-nil, refl, Option, None, Some, is_some}
use Rattle.std.specs.Borrow.{Bor}
use Rattle.std.specs.Prelude.{option_copied}
use Rattle.s3_documents.specs.Tree.{Value, Fields}
use Rattle.s3_documents.specs.Printed.{told}

-- of a list of versions or uploads: four that are there, two that may be, and two that are
pub marked_told : {a1 b1 a2 b2 a3 b3 a4 b4 a7 b7 a8 b8 : Value} {a5 b5 a6 b6 : Option Value} (n1 n2 n3 n4 n5 n6 n7 n8 : List ℕ)
    → a1 ≡ b1 → a2 ≡ b2 → a3 ≡ b3 → a4 ≡ b4 → a5 ≡ b5 → a6 ≡ b6 → a7 ≡ b7 → a8 ≡ b8
    → (n1, a1) ∷ (n2, a2) ∷ (n3, a3) ∷ (n4, a4) ∷ (told n5 a5 ++ (told n6 a6 ++ (n7, a7) ∷ (n8, a8) ∷ []))
    ≡ (n1, b1) ∷ (n2, b2) ∷ (n3, b3) ∷ (n4, b4) ∷ told n5 b5 ++ told n6 b6 ++ (n7, b7) ∷ (n8, b8) ∷ []
marked_told {b1 = b1} {b2 = b2} {b3 = b3} {b4 = b4} {b7 = b7} {b8 = b8} {b5 = b5} {b6 = b6} n1 n2 n3 n4 n5 n6 n7 n8 e1 e2 e3 e4 e5 e6 e7 e8 =
    rw (e1, e2, e3, e4, e5, e6, e7, e8)
    (ap (λ (rest : Fields). (n1, b1) ∷ (n2, b2) ∷ (n3, b3) ∷ (n4, b4) ∷ rest) (sym (append_assoc (told n5 b5) (told n6 b6) ((n7, b7) ∷ (n8, b8) ∷ []))))

regroup_fields : (a1 a2 a7 a9 : Fields) (a3 a4 a5 a6 a8 : List ℕ × Value)
    → a1 ++ (a2 ++ (a3 ∷ a4 ∷ a5 ∷ a6 ∷ (a7 ++ a8 ∷ (a9 ++ [])))) ≡ a1 ++ a2 ++ a3 ∷ a4 ∷ a5 ∷ a6 ∷ [] ++ a7 ++ a8 ∷ a9
regroup_fields a1 a2 a7 a9 a3 a4 a5 a6 a8 = simp (append_assoc, append-nil)

-- of a list of objects
pub objects_told : {a1 b1 a2 b2 a7 b7 a9 b9 : Option Value} {a3 b3 a4 b4 a5 b5 a6 b6 a8 b8 : Value} (n1 n2 n3 n4 n5 n6 n7 n8 n9 : List ℕ)
    → a1 ≡ b1 → a2 ≡ b2 → a3 ≡ b3 → a4 ≡ b4 → a5 ≡ b5 → a6 ≡ b6 → a7 ≡ b7 → a8 ≡ b8 → a9 ≡ b9
    → told n1 a1 ++ (told n2 a2 ++ ((n3, a3) ∷ (n4, a4) ∷ (n5, a5) ∷ (n6, a6) ∷ (told n7 a7 ++ (n8, a8) ∷ (told n9 a9 ++ []))))
    ≡ told n1 b1 ++ told n2 b2 ++ (n3, b3) ∷ (n4, b4) ∷ (n5, b5) ∷ (n6, b6) ∷ [] ++ told n7 b7 ++ (n8, b8) ∷ told n9 b9
objects_told n1 n2 n3 n4 n5 n6 n7 n8 n9 e1 e2 e3 e4 e5 e6 e7 e8 e9 =
    rw (e1, e2, e3, e4, e5, e6, e7, e8, e9) (regroup_fields _ _ _ _ _ _ _ _ _)

regroup_behind : (a1 a2 a3 a4 a5 : Fields) → a1 ++ (a2 ++ (a3 ++ (a4 ++ (a5 ++ [])))) ≡ a1 ++ a2 ++ a3 ++ a4 ++ a5
regroup_behind a1 a2 a3 a4 a5 = simp (append_assoc, append-nil)

-- of a list of objects in XML, behind the common prefixes: five that may be
pub behind_told : {a1 b1 a2 b2 a3 b3 a4 b4 a5 b5 : Option Value} (n1 n2 n3 n4 n5 : List ℕ)
    → a1 ≡ b1 → a2 ≡ b2 → a3 ≡ b3 → a4 ≡ b4 → a5 ≡ b5
    → told n1 a1 ++ (told n2 a2 ++ (told n3 a3 ++ (told n4 a4 ++ (told n5 a5 ++ [])))) ≡ told n1 b1 ++ told n2 b2 ++ told n3 b3 ++ told n4 b4 ++ told n5 b5
behind_told {b1 = b1} {b2 = b2} {b3 = b3} {b4 = b4} {b5 = b5} n1 n2 n3 n4 n5 e1 e2 e3 e4 e5 =
    rw (e1, e2, e3, e4, e5) (regroup_behind (told n1 b1) (told n2 b2) (told n3 b3) (told n4 b4) (told n5 b5))

regroup_uploads : (a4 a6 a7 : Fields) (a1 a2 a3 a5 a8 a9 : List ℕ × Value)
    → a1 ∷ a2 ∷ a3 ∷ (a4 ++ (a5 ∷ (a6 ++ (a7 ++ (a8 ∷ a9 ∷ []))))) ≡ a1 ∷ a2 ∷ a3 ∷ a4 ++ a5 ∷ a6 ++ a7 ++ a8 ∷ a9 ∷ []
regroup_uploads a4 a6 a7 a1 a2 a3 a5 a8 a9 = simp append_assoc

-- of a list of uploads in XML, in front of the rows
pub uploads_told : {a4 b4 a6 b6 a7 b7 : Option Value} {a1 b1 a2 b2 a3 b3 a5 b5 a8 b8 a9 b9 : Value} (n1 n2 n3 n4 n5 n6 n7 n8 n9 : List ℕ)
    → a1 ≡ b1 → a2 ≡ b2 → a3 ≡ b3 → a4 ≡ b4 → a5 ≡ b5 → a6 ≡ b6 → a7 ≡ b7 → a8 ≡ b8 → a9 ≡ b9
    → (n1, a1) ∷ (n2, a2) ∷ (n3, a3) ∷ (told n4 a4 ++ ((n5, a5) ∷ (told n6 a6 ++ (told n7 a7 ++ ((n8, a8) ∷ (n9, a9) ∷ [])))))
    ≡ (n1, b1) ∷ (n2, b2) ∷ (n3, b3) ∷ told n4 b4 ++ (n5, b5) ∷ told n6 b6 ++ told n7 b7 ++ (n8, b8) ∷ (n9, b9) ∷ []
uploads_told n1 n2 n3 n4 n5 n6 n7 n8 n9 e1 e2 e3 e4 e5 e6 e7 e8 e9 =
    rw (e1, e2, e3, e4, e5, e6, e7, e8, e9) (regroup_uploads _ _ _ _ _ _ _ _ _)

-- a value that is lent is there where the one that was copied is
pub some_lent : {A : Type 0} (x : Option (Bor A)) → is_some x ≡ is_some (option_copied x)
some_lent None = refl
some_lent (Some x) = refl
