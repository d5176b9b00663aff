use Rattle.std.proofs.Common.{Err, sym, subst}
use Rattle.std.specs.Prelude.{◌≤◌, IfSome, length}
use Rattle.decommutator.specs.Standing.{Decommutation}
use Rattle.decommutator.specs.Following.{followed_text}
use Rattle.followed_records.specs.Following.{FollowsEntry, LeavesRoom, SinkCounts}
use Rattle.followed_records.specs.declared.fault.FollowingFault.{FollowingFault}
use Rattle.followed_records.proofs.FollowingLemmas.{counts_failed, entry_failed}
use Rattle.followed_records.proofs.RoomLemmas.{failed_room}
use Rattle.followed_records.specs.Faults.{ByFollowing}
use Rattle.followed_records.proofs.CauseLemmas.{of_following}
use Rattle.followed_records.proofs.entries.follow_entry.Goals as goal

pub returns-in-Err-clause-followed : goal.returns-in-Err-clause-followed
returns-in-Err-clause-followed g c =
    let before = g.K.Sink.taken c.args.sink.now in
    let after = g.K.Sink.taken c.follow.new.sink in
    subst (λ (f : FollowingFault). FollowsEntry (Err f) c.args.session c.args.offset c.args.entry.now before after) (sym c.of_following.ensures)
    (entry_failed c.args.session c.args.offset c.args.entry.now before after c.in-Err.fault c.in-Err.ensures.answer c.in-Err.ensures.written)

pub returns-in-Err-clause-count : goal.returns-in-Err-clause-count
returns-in-Err-clause-count g c =
    let before = g.K.Sink.faults c.args.sink.now in
    let after = g.K.Sink.faults c.follow.new.sink in
    subst (λ (f : FollowingFault). SinkCounts {X = Decommutation} (Err f) before after) (sym c.of_following.ensures)
    (counts_failed c.in-Err.fault c.args.offset before after c.in-Err.ensures.count)

pub returns-in-Err-clause-room : goal.returns-in-Err-clause-room
returns-in-Err-clause-room g c =
    let before = g.K.Sink.room c.args.sink.now in
    let after = g.K.Sink.room c.follow.new.sink in
    let text = followed_text c.args.session c.args.entry.now in
    subst (λ (f : FollowingFault). IfSome before (λ room. length text ≤ room → LeavesRoom (Err f) text room after)) (sym c.of_following.ensures)
    (failed_room text c.in-Err.fault c.args.offset before after c.in-Err.ensures.room)

pub returns-in-Err-clause-causes : goal.returns-in-Err-clause-causes
returns-in-Err-clause-causes g c = subst (λ (f : FollowingFault). ByFollowing f) (sym c.of_following.ensures) (of_following c.in-Err.fault c.args.offset)
