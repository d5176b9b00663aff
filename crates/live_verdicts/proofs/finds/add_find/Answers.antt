use Rattle.std.proofs.Common.{◌++◌, ◌∷◌, [], List, Option, sym, subst}
use Rattle.hk_base.specs.declared.types.Structure.{Structure}
use Rattle.live_verdicts.specs.Marks.{AreAlike, HasSame}
use Rattle.live_verdicts.proofs.FindLemmas.{alike-there, alike-added}
use Rattle.live_verdicts.proofs.finds.add_find.Goals as goal

pub returns-then-has_same-clause-alike : goal.returns-then-has_same-clause-alike
returns-then-has_same-clause-alike c =
    λ fs f same alike.
    let has = subst (λ (gs : List (Option (List (Option Structure)))). HasSame gs c.args.found) c.deref.ensures.value (c.has_same.ensures c.if-has_same.true) in
    alike-there fs c.args.finds.now.items c.args.found f has same alike

pub returns-clause-alike : goal.returns-clause-alike
returns-clause-alike c =
    λ fs f same alike.
    subst (λ (gs : List (Option (List (Option Structure)))). AreAlike (fs ++ f ∷ []) gs) (sym c.in_ok-push.ensures.items) (alike-added fs c.args.finds.now.items c.args.found f same alike)
