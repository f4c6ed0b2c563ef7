use Rattle.std.proofs.Common.{◌≡◌, ◌++◌, length}
use Rattle.std.specs.VecDeque.Iter.{deque_iter_rest}
use Rattle.s3_outbox.specs.Pending.{waiting, woven, AreInOrder, IsPartGone}
use Rattle.s3_outbox.proofs.pending.Pending.copy_to.Given as goal

-- what was copied, and what is left from here on, is all that waits
abbrev pub invariant-loop-placed : goal.invariant-loop-placed
invariant-loop-placed l =
    (l.all.items ++ woven l.self.text.items l.at l.taken (deque_iter_rest l.placed-iterator) ≡ l.initial.all.items ++ waiting l.self)
    × AreInOrder (length l.self.text.items) l.at (deque_iter_rest l.placed-iterator)
    × IsPartGone l.at l.taken (deque_iter_rest l.placed-iterator)
