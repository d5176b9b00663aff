use Rattle.std.proofs.Common.{refl, map, take}
use Rattle.board_steps.specs.Plans.{samples_of}
use Rattle.board_core.proofs.EndCallLemmas.{value-left, value-more, values-all}
use Rattle.board_core.proofs.board.BoardCore.add_values.Goals as goal

pub add_value-requires-clause-draft : goal.add_value-requires-clause-draft
add_value-requires-clause-draft c =
    value-left c.args.self.now c.args.keys.now c.loop-key.key-index c.loop-key.draft c.loop-key-test.true c.loop-key.invariant c.requires.left

pub loop-key-preserved : goal.loop-key-preserved
loop-key-preserved c =
    value-more c.args.self.now c.args.keys.now c.loop-key.key-index _ _ c.add_value.new.draft c.loop-key-test.true refl
    (c.in_ok-add_value.ensures (map samples_of (take c.loop-key.key-index c.args.keys.now)) c.loop-key.invariant)

pub returns : goal.returns
returns c = values-all c.args.self.now c.args.keys.now c.loop-key.key-index c.loop-key.draft c.loop-key-test.false c.loop-key.invariant
