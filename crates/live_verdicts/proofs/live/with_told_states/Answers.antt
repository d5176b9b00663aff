use Rattle.std.proofs.Common.{◌≤◌}
use Rattle.live_verdicts.specs.Marks.{ComesTo}
use Rattle.live_verdicts.specs.declared.mark.Mark.{Mark}
use Rattle.live_verdicts.proofs.HeldLemmas.{place-at, held-mark}
use Rattle.live_verdicts.proofs.live.with_told_states.Goals as goal

pub told_mark-requires-clause-mark : goal.told_mark-requires-clause-mark
told_mark-requires-clause-mark c =
    let g = c.args.history.now in
    let asked = c.args.asked in
    let held = c.args.held.now.items in
    let x = c.index.result.now in
    let both = place-at (λ (m : Mark). ComesTo g.history m asked.listed asked.tag × (asked.listed ≤ m.calm)) asked.key held c.args.place x c.requires.reaches c.index.ensures in
    held-mark g asked.key held c.args.place x c.requires.stands c.requires.reaches.0 c.index.ensures both.0
