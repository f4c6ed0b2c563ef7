use Rattle.std.proofs.Common.{◌≡◌, sym, subst, List, ℕ, take}
use Rattle.std.specs.Global.{Vec}
use Rattle.s3_listings.specs.Drafts.{IsRaised}
use Rattle.s3_listings.specs.Sought.{Covers}
use Rattle.s3_listings.proofs.PlaceLemmas.{at_some}
use Rattle.s3_listings.proofs.RolledLemmas.{covers_first, covers_later}
use Rattle.s3_listings.proofs.rolled.beyond.Goals as goal
use Rattle.s3_listings.proofs.rolled.beyond.Goals.{in-Some-2, in-None}

pub returns : goal.returns
returns c =
    let text : List ℕ = c.in-Some.text.items in
    let above : IsRaised (take c.args.len c.args.key) text =
    at_some (λ (raised : Vec ℕ). IsRaised (take c.args.len c.args.key) raised.items) c.in_ok-text.field-0 c.in-Some.text c.in-Some.is (rw c.as_bytes.ensures.value at c.in_ok-text.ensures) in
    let covers : Covers c.match-branch-4.start text = elim c.match-branch-4.branch [
      | in-Some-2 w ↦
          subst (λ start. Covers start text) (sym w.start-is)
          (covers_first text w.in-Some-2.first (at_some (λ (key : List ℕ). key ≡ text) c.in_ok-first.field-0 w.in-Some-2.first w.in-Some-2.is (rw c.deref.ensures.value at c.in_ok-first.ensures.value)))
      | in-None w ↦ subst (λ start. Covers start text) (sym w.start-is) (covers_later c.args.key text c.args.len above)
    ] in
    (above, covers)
