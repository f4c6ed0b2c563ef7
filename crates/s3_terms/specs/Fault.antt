-- Faults in their order: of several things that are wrong, the first one decides.
use Rattle.std.specs.Prelude.{◌≡◌, ◌⊎◌, Bool, true, false, Result, Ok, Err, IsOk, ⊤}
use Rattle.s3_terms.specs.declared.code.Code.{Code}
use Rattle.s3_terms.specs.declared.code.Code.TheVariants.{InternalError}

-- refused with this code where the fault is there
abbrev pub refuse : Bool → Code → Result ⊤ Code
refuse true code = Err code
refuse false code = Ok tt

-- what a call answers is what the rule says, unless memory ran out
abbrev pub Follows : {A : Type 0} → Result A Code → Result A Code → Type 0
Follows (Ok value) rule = rule ≡ Ok value
Follows (Err code) rule = (code ≡ InternalError) ⊎ (rule ≡ Err code)

-- the same, and memory ran out only where an early rule, of what is judged without memory, refuses nothing
abbrev pub FollowsPast : {A B : Type 0} → Result B Code → Result A Code → Result A Code → Type 0
FollowsPast early (Ok value) rule = rule ≡ Ok value
FollowsPast early (Err code) rule = ((code ≡ InternalError) × IsOk early) ⊎ (rule ≡ Err code)

-- the same, and memory ran out only where the whole rule refuses nothing
abbrev pub FollowsToEnd : {A : Type 0} → Result A Code → Result A Code → Type 0
FollowsToEnd result rule = FollowsPast rule result rule

-- one stage after another: the first that refuses decides, whatever tells of a refusal
infixl 10 ◌>>=◌
abbrev pub ◌>>=◌ : {A B E : Type 0} → Result A E → (A → Result B E) → Result B E
(Ok value) >>= next = next value
(Err refusal) >>= next = Err refusal

-- the same where the first binds nothing
infixl 10 ◌>>◌
abbrev pub ◌>>◌ : {B E : Type 0} → Result ⊤ E → Result B E → Result B E
(Ok done) >> next = next
(Err refusal) >> next = Err refusal
