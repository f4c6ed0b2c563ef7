use Rattle.std.proofs.Common.{◌≡◌, length}
use Rattle.s3_server.proofs.jobs.all_jobs.Given as goal

-- there is one for each worker so far, and nothing else is asked of the network
abbrev pub invariant-loop : goal.invariant-loop
invariant-loop g l =
    (length l.opened.items ≡ l.counter) × (l.network.asked ≡ l.initial.network.asked) × (l.network.closed ≡ l.initial.network.closed)
