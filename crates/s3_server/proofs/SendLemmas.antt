-- A seat may go to another thread, and so may a door: a snapshot of entries owns nothing.
use denote.RattleType.{RattleType}
use denote.Param.Send.{IsSend, sendable}
use Rattle.std.proofs.Crossing.{crosses}
use Rattle.std.proofs.MapsCrossing.{crosses as maps}
use Rattle.std.proofs.MapsCrossingOver.{crosses as sets}
use Rattle.std.proofs.sync.ledger.Share.TheSendSync.{the_send as share_send}
use Rattle.std.specs.contracts.snapshot.Snapshot as snapshot
use Rattle.std.specs.declared.sync.ledger.Ledger.{Ghosts as Ledgers}
use Rattle.logbook.proofs.tokens.Pen.TheSendSync.{the_send as pen_send}
use Rattle.logbook.proofs.tokens.Seen.TheSendSync.{the_send as seen_send}
use Rattle.logbook.proofs.word.Word.TheSendSync.{the_send as word_send}
use Rattle.s3_journal.specs.contracts.calls.Calls as calls
use Rattle.s3_journal.specs.contracts.prefix.Prefix as prefix
use Rattle.s3_journal.specs.contracts.seat.Seat as seat
use Rattle.s3_journal.specs.declared.ground.Ground.{Ghosts}
use Rattle.s3_sockets.specs.contracts.door.Door as door

snapshot_send : (R : RattleType) → IsSend (snapshot.the_row R)
snapshot_send R = record { owned = λ d vs. ((λ vss. (tt, ((λ uss. (tt, tt)), tt))), tt); leaving = λ k f vs. tt }

calls_snapshot_send : IsSend (snapshot.the_row calls.the_row)
calls_snapshot_send = snapshot_send calls.the_row

prefix_send : IsSend prefix.the_row
prefix_send = search (sendable, crosses, seen_send) depth 20

calls_send : IsSend calls.the_row
calls_send = search (sendable, crosses, seen_send, pen_send, word_send) depth 20

seat_send : (B : RattleType) (ground : Ghosts B.Denot) (ledger : Ledgers B.Denot) → IsSend (seat.the_row B ground ledger)
seat_send B ground ledger = search (sendable, share_send, calls_snapshot_send, prefix_send, calls_send) depth 30

pub door_send : (B : RattleType) (ground : Ghosts B.Denot) (ledger : Ledgers B.Denot) → IsSend (door.the_row B ground ledger)
door_send B ground ledger = search (sendable, crosses, maps, sets, share_send, seen_send, pen_send, word_send, seat_send) depth 40 fits 20000
