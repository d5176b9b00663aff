use Rattle.std.proofs.Common.{◌≡◌, Err, sym, ap, subst, ◌∙◌}
use Rattle.std.specs.Prelude.{IfSome}
use Rattle.hk_replay.specs.Outcomes.{follow_outcome}
use Rattle.hk_replay.specs.Faults.{IsPlain}
use Rattle.followed_records.specs.Told.{told}
use Rattle.followed_records.specs.Following.{FaultCounts, IsFollowedAsGiven}
use Rattle.followed_records.specs.declared.fault.FollowingFault.{FollowingFault}
use Rattle.hk_replay.specs.Replay.{HasOutput, WritesNothingElse}
use Rattle.hk_replay.specs.declared.status.ReplayStatus.{ReplayStatus}
use Rattle.hk_replay.specs.declared.status.ReplayStatus.TheVariants as status
use Rattle.hk_replay.proofs.StatusLemmas.{followed_given, nothing_following, plain_following, read_following, undone_following, used_following, write_following}
use Rattle.hk_replay.proofs.FollowedLemmas.{followed_output}
use Rattle.hk_replay.proofs.entries.followed.Goals as goal

pub returns-in-Err-clause-output : goal.returns-in-Err-clause-output
returns-in-Err-clause-output g c =
    let t = c.args.tailoring.now in
    let rest = g.F.Shelf.rest c.args.shelf.now in
    let before = g.K.Sink.taken c.args.sink.now in
    let after = g.K.Sink.taken c.follow_record.new.sink in
    subst (λ (s : ReplayStatus). IfSome rest (λ octets. HasOutput s (follow_outcome t octets) before after)) (sym c.into.ensures)
    (followed_output t rest (g.F.Shelf.rest c.follow_record.new.shelf) before after c.in-Err.fault c.in-Err.ensures.followed)

pub returns-in-Err-clause-plain : goal.returns-in-Err-clause-plain
returns-in-Err-clause-plain g c = subst IsPlain (sym c.into.ensures) (plain_following c.in-Err.fault c.in-Err.ensures.causes)

pub returns-in-Err-clause-used : goal.returns-in-Err-clause-used
returns-in-Err-clause-used g c = λ is. used_following c.in-Err.fault (sym c.into.ensures ∙ is)

pub returns-in-Err-clause-end : goal.returns-in-Err-clause-end
returns-in-Err-clause-end g c = λ is. absurd (undone_following c.in-Err.fault (sym c.into.ensures ∙ is))

pub returns-in-Err-clause-read_fault : goal.returns-in-Err-clause-read_fault
returns-in-Err-clause-read_fault g c = λ is. c.in-Err.ensures.read_fault (ap Err (read_following c.in-Err.fault (sym c.into.ensures ∙ is)))

pub returns-in-Err-clause-write_fault : goal.returns-in-Err-clause-write_fault
returns-in-Err-clause-write_fault g c = λ is.
    (subst (λ (f : FollowingFault). FaultCounts f (g.K.Sink.faults c.args.sink.now) (g.K.Sink.faults c.follow_record.new.sink)) (write_following c.in-Err.fault (sym c.into.ensures ∙ is)) c.in-Err.ensures.count).1

pub returns-in-Err-clause-nothing : goal.returns-in-Err-clause-nothing
returns-in-Err-clause-nothing g c =
    let before = g.K.Sink.taken c.args.sink.now in
    let after = g.K.Sink.taken c.follow_record.new.sink in
    subst (λ (s : ReplayStatus). WritesNothingElse s before after) (sym c.into.ensures) (nothing_following c.in-Err.fault before after)

pub returns-in-Err-clause-given : goal.returns-in-Err-clause-given
returns-in-Err-clause-given g c =
    let t = c.args.tailoring.now in
    let rest = g.F.Shelf.rest c.args.shelf.now in
    let left = g.F.Shelf.rest c.follow_record.new.shelf in
    let before = g.K.Sink.taken c.args.sink.now in
    let after = g.K.Sink.taken c.follow_record.new.sink in
    subst (λ (s : ReplayStatus). IfSome rest (λ octets. s ≡ status.ReadFault → IsFollowedAsGiven (told t) octets left before after)) (sym c.into.ensures)
    (followed_given (told t) rest left before after c.in-Err.fault c.in-Err.ensures.followed)
