-- What a caller knows of what is to be sent.
use Rattle.std.specs.Prelude.{ℕ, ◌==◌, Bool, true, false, ◌&&◌, not, if◌then◌else◌, List, [], ◌++◌, length, drop}

-- the bytes that aren't sent yet; room for one more reply is set aside; it was so since memory was
-- given back, or at all; the last text is in
pub record Sending : Type 0 where
  pub unsent : List ℕ
  pub has_room : Bool
  pub had_room : Bool
  pub is_ended : Bool

-- nothing to send, and no room yet
abbrev pub nothing : Sending
nothing = record { unsent = []; has_room = false; had_room = false; is_ended = false }

-- room for one more reply
abbrev pub with_room : Sending → Sending
with_room s = record { unsent = s.unsent; has_room = true; had_room = true; is_ended = s.is_ended }

-- a reply behind the others, in the room that was set aside
abbrev pub with_reply : Sending → List ℕ → Sending
with_reply s reply = record { unsent = s.unsent ++ reply; has_room = false; had_room = s.had_room; is_ended = s.is_ended }

-- the last text behind all replies
abbrev pub with_end : Sending → List ℕ → Sending
with_end s text = record { unsent = s.unsent ++ text; has_room = s.has_room; had_room = s.had_room; is_ended = true }

-- without so many bytes in front, which are sent
abbrev pub without : Sending → ℕ → Sending
without s n = record { unsent = drop n s.unsent; has_room = s.has_room; had_room = s.had_room; is_ended = s.is_ended }

-- without memory where all is sent and no room is set aside, so that none is known to be there for the next
abbrev pub given_back : Sending → Sending
given_back s = record {
  unsent = s.unsent;
  has_room = s.has_room;
  had_room = if length s.unsent == 0 && not s.has_room then false else s.had_room;
  is_ended = s.is_ended;
}
