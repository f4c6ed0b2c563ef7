-- Stages of a reading, one after another.
use Rattle.std.proofs.Common.{◌≡◌, Bool, true, false, refl, Option, Some, None, IfSome, if◌then◌else◌}
use Rattle.s3_xml.specs.Option.{◌>>=◌, ◌>>◌, where_so}

-- what holds of all that the first stage gives, and so of what the next one makes of it
pub then_holds : {A B : Type 0} (P : A → Type 0) (Q : B → Type 0) (first : Option A) (next : A → Option B) → IfSome first P → ((value : A) → P value → IfSome (next value) Q) → IfSome (first >>= next) Q
then_holds P Q None next holds go_on = tt
then_holds P Q (Some value) next holds go_on = go_on value holds

pub so_holds : {B : Type 0} (Q : B → Type 0) (so : Bool) (next : Option B) → (so ≡ true → IfSome next Q) → IfSome (where_so so >> next) Q
so_holds Q true next go_on = go_on refl
so_holds Q false next go_on = tt

pub either_holds : {B : Type 0} (Q : B → Type 0) (so : Bool) (first second : Option B) → (so ≡ true → IfSome first Q) → (so ≡ false → IfSome second Q) → IfSome (if so then first else second) Q
either_holds Q true first second left right = left refl
either_holds Q false first second left right = right refl

-- two next stages that make the same of it
pub then_same : {A B : Type 0} (P : A → Type 0) (first : Option A) (next other : A → Option B) → IfSome first P → ((value : A) → P value → next value ≡ other value) → (first >>= next) ≡ (first >>= other)
then_same P None next other holds same = refl
then_same P (Some value) next other holds same = same value holds

pub so_same : {B : Type 0} (so : Bool) (next other : Option B) → (so ≡ true → next ≡ other) → (where_so so >> next) ≡ (where_so so >> other)
so_same true next other same = same refl
so_same false next other same = refl
