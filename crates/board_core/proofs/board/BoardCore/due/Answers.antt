use Rattle.std.proofs.Common.{arith, ◌≡◌, ◌≤◌, ◌<◌, ◌∷◌, ◌++◌, [], ℕ, map, take, length, true, ◌&&◌, nat_lt, sym, ◌∙◌, ap, subst}
use Rattle.std.specs.Prelude.{filter, if◌then◌else◌}
use Rattle.std.specs.List.{AllByRecursion}
use Rattle.hk_base.specs.Fit.{IsFit}
use Rattle.board_steps.specs.Cores.{Core}
use Rattle.board_steps.specs.Plans.{samples_of, statistics, due_topics, every_key, is_reported, tags_left, prepared}
use Rattle.board_steps.specs.Slots.{is_statistics_due}
use Rattle.board_steps.specs.declared.event.Event.TheVariants.{CloseSlot}
use Rattle.board_core.specs.Boards.{core_of}
use Rattle.board_core.proofs.EndDueLemmas.{due-so, left-due, none-due, less-isnt, all-take, all-passed, take-most}
use Rattle.board_core.proofs.EndTimeLemmas.{slot-few}
use Rattle.board_core.proofs.StatisticsClosingLemmas.{due-alike}
use Rattle.board_core.proofs.board.BoardCore.due.Goals.{then-len-room, else-len-room}
use Rattle.board_core.proofs.board.BoardCore.due.Goals as goal

pub is_due-has_statistics-requires-clause-interval : goal.is_due-has_statistics-requires-clause-interval
is_due-has_statistics-requires-clause-interval c = c.self.invariant.statistics.span.0.0

pub is_due-has_statistics-requires-clause-slot : goal.is_due-has_statistics-requires-clause-slot
is_due-has_statistics-requires-clause-slot c =
    let b = c.self.inside in
    let before : Core = core_of b.clock b.slot_now b.requests b.structures b.log in
    let few = slot-few before (subst IsFit c.tailoring.ensures c.widths-fit.ensures.fit) c.self.invariant.board.stands in
    omega (arith, few)

pub returns-clause-told : goal.returns-clause-told
returns-clause-told c =
    let b = c.self.inside in
    let before : Core = core_of b.clock b.slot_now b.requests b.structures b.log in
    let due = due-alike before b.members c.self.invariant.statistics in
    let len : ℕ = length c.in_ok-keys.keys.items in
    let room = subst (λ (y : Core). c.tags_left-room.result ≡ tags_left (prepared y CloseSlot)) (sym c.self.view_is) c.tags_left-room.ensures.left in
    let keys = subst (λ (y : Core). c.in_ok-keys.keys.items ≡ filter (is_reported y) (every_key y.tailoring)) (sym c.self.view_is) c.in_ok-keys.ensures in
    let told : c.if-len-room.has_statistics ≡ (nat_lt (length c.in_ok-keys.keys.items) c.tags_left-room.result && is_statistics_due before) =
    elim c.if-len-room.branch [
      | then-len-room w ↦ left-due len c.tags_left-room.result (is_statistics_due before) c.if-len-room.has_statistics (subst (λ n. n < c.tags_left-room.result) (c.len.ensures ∙ c.in_ok-keys.keys.ok.0) w.if-len-room.true)
          (w.has_statistics-is ∙ w.is_due-has_statistics.ensures ∙ due)
      | else-len-room w ↦ none-due len c.tags_left-room.result (is_statistics_due before) c.if-len-room.has_statistics (subst (λ n. c.tags_left-room.result ≤ n) (c.len.ensures ∙ c.in_ok-keys.keys.ok.0) w.if-len-room.false)
          (w.has_statistics-is ∙ less-isnt c.len.result c.tags_left-room.result w.if-len-room.false)
    ] in
    subst (λ (y : Core). map samples_of c.truncate.new.self.items ++ (if c.if-len-room.has_statistics then statistics ∷ [] else []) ≡ take (tags_left (prepared y CloseSlot)) (due_topics y)) c.self.view_is
    (due-so before c.tags_left-room.result c.in_ok-keys.keys.items c.truncate.new.self.items c.if-len-room.has_statistics room keys c.truncate.ensures.items told)

pub returns-clause-reported : goal.returns-clause-reported
returns-clause-reported c =
    let all = subst (AllByRecursion (λ key. is_reported c.args.self.now key ≡ true)) (sym c.in_ok-keys.ensures) (all-passed (is_reported c.args.self.now) (every_key c.args.self.now.tailoring)) in
    subst (AllByRecursion (λ key. is_reported c.args.self.now key ≡ true)) (sym c.truncate.ensures.items)
    (all-take (λ key. is_reported c.args.self.now key ≡ true) c.tags_left-room.result c.in_ok-keys.keys.items all)

pub returns-clause-few : goal.returns-clause-few
returns-clause-few c =
    let told = ap length (returns-clause-told c) in
    let most = take-most (tags_left (prepared c.args.self.now CloseSlot)) (due_topics c.args.self.now) in
    let is = c.tags_left-room.ensures.left in
    let small = c.tags_left-room.ensures.small in
    omega (arith, told, most, is, small)
