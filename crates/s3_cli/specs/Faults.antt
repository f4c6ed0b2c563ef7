-- How the first faults of connections are printed: a line for each connection of which one is told, in the order of their numbers.
use Rattle.std.specs.Prelude.{ℕ, ◌+◌, List, [], ◌∷◌, ◌++◌, Option, Some, None}
use Rattle.s3_terms.specs.Code.{name_of}
use Rattle.s3_session.specs.declared.fault.Fault.{Fault}
use Rattle.s3_events.specs.Printing.{fault_line}

-- the line of what is told of a connection; nothing where that is no fault
abbrev pub line_of_fault : ℕ → Option Fault → List ℕ
line_of_fault connection None = []
line_of_fault connection (Some fault) = fault_line connection fault.message (name_of fault.code)

-- the lines of what is told of connections, of which the first has this number
abbrev pub faults_from : ℕ → List (Option Fault) → List ℕ
faults_from connection [] = []
faults_from connection (fault ∷ faults) = line_of_fault connection fault ++ faults_from (connection + 1) faults

-- the lines of what is told of connections, from 0 on
abbrev pub faults_text : List (Option Fault) → List ℕ
faults_text faults = faults_from 0 faults
