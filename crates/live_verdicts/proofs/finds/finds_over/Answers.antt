use Rattle.std.proofs.Common.{arith, ◌≡◌, ◌∙◌, ◌+◌, ◌<◌, ◌++◌, ◌∷◌, [], List, Option, length, take, map, sym, ap, subst}
use Rattle.std.proofs.lemmas.List.{take_more, map_push}
use Rattle.hk_base.specs.declared.types.Structure.{Structure}
use Rattle.definition_intervals.specs.Founds.{found_after_all, AreSameFound}
use Rattle.live_verdicts.specs.Marks.{AreAlike}
use Rattle.live_verdicts.proofs.finds.finds_over.Goals as goal

pub loop-found-preserved : goal.loop-found-preserved
loop-found-preserved c =
    let t = c.args.tailoring.now in
    let cs = c.args.requests.now in
    let fs = c.args.finds.now in
    let i = c.loop-found.found-index in
    let f = c.found-item.result in
    let after = found_after_all t cs in
    let within : i < length fs = omega arith in
    let more : map after (take (i + 1) fs) ≡ map after (take i fs) ++ after f ∷ [] =
    ap (λ (xs : List (Option (List (Option Structure)))). map after xs) (take_more fs i f within ∙ ap (λ (x : Option (List (Option Structure))). take i fs ++ x ∷ []) (sym c.found-item.is))
    ∙ map_push after (take i fs) f in
    let same = subst (λ (x : Option (List (Option Structure))). AreSameFound c.in_ok-found-2.found (after x)) c.in_ok-found.ensures c.in_ok-found-2.ensures.same in
    record {
      alike =
          subst (λ (xs : List (Option (List (Option Structure)))). AreAlike xs c.add_find.new.finds.items) (sym more)
          (c.in_ok-add_find.ensures.alike (map after (take i fs)) (after f) same c.loop-found.invariant.alike);
      formed = c.in_ok-add_find.ensures.formed t c.in_ok-found-2.ensures.formed c.loop-found.invariant.formed;
    }
