use Rattle.std.proofs.Common.{List, sym, subst}
use Rattle.hk_base.specs.declared.types.Key.{Key}
use Rattle.verdict_tables.specs.Collecting.{held_for}
use Rattle.verdict_tables.specs.Tables.{RangeParts}
use Rattle.verdict_tables.proofs.BuildLemmas.{IsPartly, partly-first}
use Rattle.verdict_tables.proofs.building.built.Goals as goal

pub loop-key-init : goal.loop-key-init
loop-key-init c =
    λ key. subst (λ (held : List (Key × RangeParts)). IsPartly c.args.history.now key (held_for c.in_ok-places.places key) (held_for held key)) (sym c.new-structures.ensures)
    (partly-first c.args.history.now key (held_for c.in_ok-places.places key) (c.in_ok-places.ensures key))
