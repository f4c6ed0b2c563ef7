use Rattle.std.proofs.Common.{◌≡◌, ◌∙◌, ◌-◌, ℕ, List, [], ap, arith, drop, false, length, subst, sym}
use Rattle.std.proofs.lemmas.List.{length-drop, take_all}
use Rattle.s3_session.specs.Session.{moment_if, turns_of}
use Rattle.s3_session.specs.declared.session.Need.TheVariants as needs
use Rattle.s3_connection.specs.Connection.{Connected}
use Rattle.s3_connection.specs.Holds.{Holds, IsBehind}
use Rattle.s3_connection.proofs.FeedingLemmas.{fit_reading, none_left, took_next}
use Rattle.s3_connection.proofs.HoldsLemmas.{holds_read, idle_stands}
use Rattle.s3_connection.proofs.connection.Connection.read.Goals as goal

pub returns-clause-holds : goal.returns-clause-holds
returns-clause-holds c input moments entries sent h =
    let settings = c.args.config.now in
    let piece = c.args.piece.now in
    let held = subst (λ (d : Connected). Holds d settings input moments entries sent) (sym c.self.view_is) h in
    let at = ap (λ (d : Connected). d.stage) c.self.view_is ∙ c.requires.reads in
    let fit = fit_reading _ _ _ _ at c.self.invariant in
    let stood = idle_stands _ settings input moments entries sent held fit.0 fit.1 in
    let f = c.feed-len in
    let s = c.stage_before-stage in
    let n = f.result.len in
    let none = none_left f.result.need n piece (f.ensures.all _ sent stood) in
    let rest = take_all (length piece - n) (drop n piece) (omega (arith, length-drop n piece)) in
    let left = subst (λ (b : List ℕ). IsBehind s.result false s.new.kept b false) rest
    (s.ensures.left (subst (λ (b : List ℕ). f.result.need ≡ needs.More → b ≡ []) (sym rest) none)) in
    rw c.become_next.ensures
    (holds_read _ settings input moments entries sent held piece s.new.session s.new.kept s.result (moment_if f.result.has_moment c.args.now) at
    (took_next s.new.session s.new.kept s.result settings held.taken piece moments entries sent n (moment_if f.result.has_moment c.args.now) (turns_of f.result.need)
    (s.ensures.stays settings _ sent (f.ensures.stands _ sent stood)) s.ensures.waits s.ensures.turn left) s.ensures.fit)
