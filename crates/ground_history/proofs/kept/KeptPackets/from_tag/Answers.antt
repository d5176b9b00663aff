use Rattle.std.proofs.Common.{sym, ◌∙◌}
use Rattle.ground_history.proofs.KeptMapLemmas.{from-is, from-first, from-none}
use Rattle.ground_history.proofs.kept.KeptPackets.from_tag.Goals as goal

pub returns-in-Some : goal.returns-in-Some
returns-in-Some c =
    let between = c.range.ensures.between tt in
    rw (← c.self.view_is) (sym (from-first _ c.args.tag c.self.inside.packets.entries _ _ (from-is c.args.tag) c.self.invariant.0 (sym between ∙ c.in-Some.ensures.steps)))

pub returns-in-None : goal.returns-in-None
returns-in-None c =
    let between = c.range.ensures.between tt in
    rw (← c.self.view_is) (sym (from-none _ c.args.tag c.self.inside.packets.entries (from-is c.args.tag) c.self.invariant.0 (sym between ∙ c.in-None.ensures.steps.0)))
