use Rattle.std.proofs.Common.{rules, Some, None, List, subst, sym, ◌≡◌, ◌∙◌}
use Rattle.hk_base.specs.declared.types.Key.{Key}
use Rattle.verdict_tables.specs.Tables.{RangeParts}
use Rattle.verdict_tables.specs.Collecting.{IsHeld, held_for}
use Rattle.verdict_tables.proofs.KeyOrder.{held-updates}
use Rattle.verdict_tables.proofs.structures.Structures.insert.Goals as goal

pub returns : goal.returns
returns c =
    subst (λ (old : List (Key × RangeParts)). IsHeld c.args.key (Some c.args.ranges) old c.insert.new.self.entries) c.self.view_is
    (held-updates _ (λ a b. search rules) c.self.inside.ranges.entries c.insert.new.self.entries c.args.key (Some c.args.ranges) c.in_ok-insert.ensures.updates.0)
