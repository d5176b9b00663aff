use Rattle.std.proofs.Common.{List, Option, sym, subst}
use Rattle.std.specs.List.{All}
use Rattle.std.proofs.lemmas.List.Elements.{All-push}
use Rattle.hk_base.specs.declared.types.Structure.{Structure}
use Rattle.definition_intervals.specs.Openings.{Candidate}
use Rattle.definition_intervals.specs.Founds.{AreSameFound, found_after}
use Rattle.live_verdicts.specs.Marks.{HasAlike, LeavesFinds}
use Rattle.live_verdicts.proofs.GrowLemmas.{alike-leaves}
use Rattle.live_verdicts.proofs.leaving.leaves.Goals as goal

pub returns-then-has_alike-clause-leaves : goal.returns-then-has_alike-clause-leaves
returns-then-has_alike-clause-leaves c =
    λ yes.
    let has = subst (λ (cs : List Candidate). HasAlike cs c.args.request) c.deref.ensures.value (c.has_alike.ensures c.if-has_alike.true) in
    record {
      finds = alike-leaves c.args.tailoring.now c.args.mark.now c.args.left.now.items c.args.request has c.requires.left;
      first = c.leaves_change.ensures c.if-not-leaves_change.false;
      open_change = c.leaves_change-else-not-leaves_change.ensures c.if-not-leaves_change-2.false;
    }

pub returns-clause-left : goal.returns-clause-left
returns-clause-left c =
    let t = c.args.tailoring.now in
    let m = c.args.mark.now in
    let own =
    subst (λ (fs : List (Option (List (Option Structure)))). All (λ f. AreSameFound f (found_after t c.args.request f)) fs) c.deref-2.ensures.value (c.in_ok-leaves_finds.ensures c.if-not-branch.false) in
    subst (λ (cs : List Candidate). All (λ r. LeavesFinds t r m) cs) (sym c.in_ok-push.ensures.items)
    (All-push (λ (r : Candidate). LeavesFinds t r m) c.args.left.now.items c.args.request c.requires.left own)
