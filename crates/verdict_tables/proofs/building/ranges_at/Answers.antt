use Rattle.std.proofs.Common.{arith, ℕ, List, subst, sym}
use Rattle.definition_intervals.specs.Bases.{AreBases}
use Rattle.verdict_tables.specs.Collecting.{AreRangesAt}
use Rattle.verdict_tables.specs.Tables.{RangeParts}
use Rattle.verdict_tables.proofs.BuildLemmas.{ranges-made}
use Rattle.verdict_tables.proofs.building.ranges_at.Goals as goal

pub new-requires : goal.new-requires
new-requires c =
    let g = c.args.history.now in
    ranges-made g.tailoring g.history c.args.key c.args.tags c.in_ok-firsts.firsts.items c.in_ok-bases.bases c.in_ok-firsts.ensures.rising c.in_ok-firsts.ensures.members
    (subst (λ (fs : List ℕ). AreBases g.tailoring g.history c.args.key fs c.in_ok-bases.bases) c.deref.ensures.value c.in_ok-bases.ensures.bases) (omega arith)

pub returns : goal.returns
returns c =
    let g = c.args.history.now in
    subst (λ (r : RangeParts). AreRangesAt g c.args.key c.args.tags r) (sym c.new.ensures)
    (record {
      rising = c.in_ok-firsts.ensures.rising;
      members = c.in_ok-firsts.ensures.members;
      bases = subst (λ (fs : List ℕ). AreBases g.tailoring g.history c.args.key fs c.in_ok-bases.bases) c.deref.ensures.value c.in_ok-bases.ensures.bases;
      formed = c.in_ok-bases.ensures.formed;
    })
