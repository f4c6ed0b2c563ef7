-- The entries of the history that the exchanges of a connection make.
use Rattle.std.proofs.Common.{◌≡◌, List, [], ◌∷◌, ◌++◌, map, Option, ℕ, refl, ap}
use Rattle.std.specs.List.{AllByRecursion}
use Rattle.s3_config.specs.Settings.{Settings}
use Rattle.s3_machine.specs.History.{Entry}
use Rattle.s3_machine.specs.declared.turn.Turn.{Turn}
use Rattle.s3_session.specs.Output.{Exchange, Past, Serves, turn_of}
use Rattle.s3_session.specs.ReadBack.{entry_of, entries_from}
use Rattle.s3_session.specs.Replay.{entries_of}

-- the moments of exchanges
abbrev pub moments_of : List Exchange → List ℕ
moments_of xs = map (λ (x : Exchange). x.context.moment) xs

exchanged_entries : (exchanges : List Exchange) (waiting : List Turn)
    → entries_of (map turn_of exchanges ++ waiting) (map (λ (x : Exchange). x.answer) exchanges) ≡ entries_from exchanges
exchanged_entries [] [] = refl
exchanged_entries [] (turn ∷ turns) = refl
exchanged_entries (x ∷ exchanges) waiting = ap (λ (es : List Entry). entry_of x ∷ es) (exchanged_entries exchanges waiting)

-- the turns that were answered, with their answers, are the entries of the exchanges
pub serves_entries : (settings : Settings) (past : Past) (out : List ℕ) (left : Option (List ℕ)) (late : List ℕ) (waiting : List Turn) (last : List ℕ)
    → (s : Serves settings past out left late waiting last) → entries_of past.turns past.answers ≡ entries_from s.exchanges
serves_entries settings past out left late waiting last s = rw (s.turns, s.answers) (exchanged_entries s.exchanges waiting)

-- what holds of all of two lists holds of all of each
pub all_of_two : {X : Type 0} (P : X → Type 0) (xs ys : List X) → AllByRecursion P (xs ++ ys) → AllByRecursion P xs × AllByRecursion P ys
all_of_two P [] ys all = (tt, all)
all_of_two P (x ∷ xs) ys all = let rest = all_of_two P xs ys all.1 in ((all.0, rest.0), rest.1)
