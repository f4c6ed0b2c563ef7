-- What the program says when it ends with status 1: one line on the standard error.
use Rattle.std.specs.Prelude.{◌≡◌, ◌⊎◌, ⊤, ℕ, List, [], ◌∷◌, ◌++◌, codes, Option, None}
use Rattle.std.specs.Fmt.{decimal}
use Rattle.s3_text.specs.Characters.{line_feed}
use Rattle.s3_settings.specs.declared.fault.Fault.{Fault}
use Rattle.s3_settings.specs.declared.fault.Fault.TheVariants.{CannotRead, CannotWrite, BadKeysLine, BadEventLine, BadSetting, CannotListen, CannotUse, InputFailed, OutputFailed, OutOfMemory}
use Rattle.s3_storage.specs.declared.storage_fault.StorageFault.{StorageFault}
use Rattle.s3_storage.specs.declared.storage_fault.StorageFault.TheVariants as storage

-- why a folder can't be used
abbrev pub reason_text : StorageFault → List ℕ
reason_text storage.NoMemory = codes ": out of memory"
reason_text storage.Held = codes ": held"
reason_text storage.NotAStore = codes ": not a store"
reason_text storage.LaterForm = codes ": later form"
reason_text storage.Damaged = codes ": damaged"
reason_text storage.NoRoom = codes ": no room"
reason_text storage.Failed = codes ": failed"

-- the text of a fault
abbrev pub text_of : Fault → List ℕ
text_of (CannotRead path) = codes "cannot read " ++ path.now
text_of (CannotWrite path) = codes "cannot write " ++ path.now
text_of (BadKeysLine number) = codes "bad keys line " ++ decimal number
text_of (BadEventLine number) = codes "bad event line " ++ decimal number
text_of BadSetting = codes "bad setting"
text_of (CannotListen address) = codes "cannot listen on " ++ address.now
text_of (CannotUse path fault) = codes "cannot use " ++ path.now ++ reason_text fault
text_of InputFailed = codes "input failed"
text_of OutputFailed = codes "output failed"
text_of OutOfMemory = codes "out of memory"

-- the line that tells it
abbrev pub line_of : Fault → List ℕ
line_of fault = codes "s3d: " ++ text_of fault ++ line_feed ∷ []

-- out of memory, or that fault where the fact holds
abbrev pub MemoryOr : Fault → Type 0 → Fault → Type 0
MemoryOr expected P fault = (fault ≡ OutOfMemory) ⊎ ((fault ≡ expected) × P)

-- why a file at a path gives no bytes: there is none whose bytes are known, or memory ran out
abbrev pub IsReadFault : Option (List ℕ) → List ℕ → Fault → Type 0
IsReadFault file path (CannotRead which) = (which.now ≡ path) × (file ≡ None)
IsReadFault file path OutOfMemory = ⊤
IsReadFault file path _ = ⊥
