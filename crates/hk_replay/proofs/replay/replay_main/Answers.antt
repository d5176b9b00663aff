use Rattle.std.proofs.Common.{map}
use Rattle.std.specs.String.{string_bytes}
use Rattle.session_texts.specs.Truth.{IsTrueText, IsTrueFollowing, HaveRisingTags, HaveDistinctTags, HasTrueReasons}
use Rattle.hk_replay.specs.Words.{command_of}
use Rattle.hk_replay.proofs.HeadlineLemmas.{run_of}
use Rattle.hk_replay.proofs.FollowedLemmas.{follow_of}
use Rattle.hk_replay.proofs.CutLemmas.{true-trim, true-cut}
use Rattle.hk_replay.proofs.replay.replay_main.Goals as goal

pub returns-clause-headline : goal.returns-clause-headline
returns-clause-headline g c =
    λ w world t spoken octets r is.
    run_of (command_of (map string_bytes c.args.words.now)) (g.F.Shelf.files c.args.shelf.now) c.run.result (g.K.Sink.taken c.args.sink.now) (g.K.Sink.taken c.run.new.sink) c.run.ensures.output t w
    (IsTrueText w)
    (record {
      taken = λ h entries seen. c.records_of_worlds_have_no_problem.ensures.entries t w h entries spoken world seen;
      is_so = λ h entries seen. c.texts_are_true.ensures.entries t w h entries spoken world seen;
    })
    octets r is

pub returns-clause-reasons : goal.returns-clause-reasons
returns-clause-reasons g c =
    λ w world t spoken octets r is.
    run_of (command_of (map string_bytes c.args.words.now)) (g.F.Shelf.files c.args.shelf.now) c.run.result (g.K.Sink.taken c.args.sink.now) (g.K.Sink.taken c.run.new.sink) c.run.ensures.output t w
    (HasTrueReasons HaveRisingTags w)
    (record {
      taken = λ h entries seen. c.records_of_worlds_have_no_problem.ensures.entries t w h entries spoken world seen;
      is_so = λ h entries seen. c.texts_are_true.ensures.reasons t w h entries spoken world seen;
    })
    octets r is

pub returns-clause-following : goal.returns-clause-following
returns-clause-following g c =
    λ w world t spoken octets r is.
    follow_of (command_of (map string_bytes c.args.words.now)) (g.F.Shelf.files c.args.shelf.now) c.run.result (g.K.Sink.taken c.args.sink.now) (g.K.Sink.taken c.run.new.sink) c.run.ensures.output t w
    (IsTrueFollowing w)
    (record {
      taken = λ h entries seen. c.records_of_worlds_have_no_problem.ensures.entries t w h entries spoken world seen;
      is_so = λ h entries seen. c.followed_lines_are_true.ensures.whole t w h entries spoken world seen;
      lines = λ text more whole. c.lines_are_true.ensures.following w text more whole;
    })
    octets r is

pub returns-clause-following_reasons : goal.returns-clause-following_reasons
returns-clause-following_reasons g c =
    λ w world t spoken octets r is.
    follow_of (command_of (map string_bytes c.args.words.now)) (g.F.Shelf.files c.args.shelf.now) c.run.result (g.K.Sink.taken c.args.sink.now) (g.K.Sink.taken c.run.new.sink) c.run.ensures.output t w
    (HasTrueReasons HaveDistinctTags w)
    (record {
      taken = λ h entries seen. c.records_of_worlds_have_no_problem.ensures.entries t w h entries spoken world seen;
      is_so = λ h entries seen. c.followed_lines_are_true.ensures.reasons t w h entries spoken world seen;
      lines = λ text more whole. c.lines_are_true.ensures.following w text more whole.0;
    })
    octets r is

pub returns-clause-trims : goal.returns-clause-trims
returns-clause-trims g c =
    λ w octets own n words.
    true-trim (record { trims = c.trimmed_octets_are_the_longest_record.ensures.trims; cut = c.cut_records.ensures })
    w octets n (command_of (map string_bytes c.args.words.now)) (g.F.Shelf.files c.args.shelf.now) c.run.result (g.K.Sink.taken c.args.sink.now) (g.K.Sink.taken c.run.new.sink)
    c.run.ensures.output own words

pub returns-clause-cut : goal.returns-clause-cut
returns-clause-cut g c =
    λ w world t spoken octets cut r.
    true-cut c.cut_records_are_replayed.ensures.samples c.own_worlds.ensures.seen t w octets c.run.result (g.K.Sink.taken c.args.sink.now) (g.K.Sink.taken c.run.new.sink) world spoken cut
    (λ v part said is.
    run_of (command_of (map string_bytes c.args.words.now)) (g.F.Shelf.files c.args.shelf.now) c.run.result (g.K.Sink.taken c.args.sink.now) (g.K.Sink.taken c.run.new.sink) c.run.ensures.output t v
    (IsTrueText v)
    (record {
      taken = λ h entries seen. c.records_of_worlds_have_no_problem.ensures.entries t v h entries said part seen;
      is_so = λ h entries seen. c.texts_are_true.ensures.entries t v h entries said part seen;
    })
    octets r is)

pub returns-clause-room : goal.returns-clause-room
returns-clause-room g c = c.run.ensures.enough
