-- What the resolver makes of a text, found once, and what follows from it.
use Rattle.std.proofs.Common.{◌≡◌, ℕ, List, [], false, None, Result, Ok, Err, refl}
use Rattle.std.specs.Prelude.{if◌then◌else◌}
use Rattle.sqlite.specs.Command.{Command}
use Rattle.sqlite.specs.Schema.{Schema}
use Rattle.sqlite.specs.Listing.{understood, reads_listing, listing_schema, if_select, misses_table}
use Rattle.sqlite.specs.State.{text_of}
use Rattle.sqlite.proofs.Callers.{IsPlain, command_of, statement_of}
use Rattle.sqlite_resolve.specs.Compile.{compiled}
use Rattle.sqlite_resolve.specs.declared.compiled.Compiled.{Compiled}
use Rattle.sqlite_resolve.specs.declared.error.CompileError.{CompileError}

-- it is this command, which shows no rows that it changes, and doesn't take the time
abbrev pub Resolves : Command → Result Compiled CompileError → Type 0
Resolves command (Ok c) = (c.command ≡ command) × (c.returning ≡ None) × (c.formats ≡ [])
Resolves command (Err e) = ⊥

-- the statement is the whole text
abbrev pub IsWhole : List ℕ → Result Compiled CompileError → Type 0
IsWhole sql (Ok c) = text_of sql c ≡ sql
IsWhole sql (Err e) = ⊥

module _ (listing : Result Compiled CompileError) (command : Command) where
  resolved : (read : Result Compiled CompileError) → Resolves command read
      → (command_of (if misses_table read then if_select listing else read) ≡ command) × IsPlain (if misses_table read then if_select listing else read) × (misses_table read ≡ false)
  resolved (Ok c) is = (is.0, (is.1, is.2), refl)
  resolved (Err e) is = absurd is

whole : (listing read : Result Compiled CompileError) (sql : List ℕ) → IsWhole sql read → statement_of sql (if misses_table read then if_select listing else read) ≡ sql
whole listing (Ok c) sql is = is
whole listing (Err e) sql is = absurd is

module _ (before : Schema) (sql : List ℕ) where
  pub is_understood : (command : Command) → Resolves command (compiled before sql) → (command_of (understood before sql) ≡ command) × IsPlain (understood before sql) × (reads_listing before sql ≡ false)
  unfolding understood
  is_understood command is = resolved (compiled listing_schema sql) command (compiled before sql) is

  pub is_whole : IsWhole sql (compiled before sql) → statement_of sql (understood before sql) ≡ sql
  unfolding understood
  is_whole is = whole (compiled listing_schema sql) (compiled before sql) sql is
