use Rattle.std.proofs.Common.{◌∙◌, ◌∷◌, ◌++◌, [], List, Some, sym, ap, take}
use Rattle.std.proofs.lemmas.List.{take_more}
use Rattle.definition_intervals.specs.Openings.{Opening}
use Rattle.definition_intervals.specs.Verdicts.{latest}
use Rattle.definition_intervals.specs.Findings.{newer_of}
use Rattle.definition_intervals.proofs.NewestLemmas.{latest-more}
use Rattle.definition_intervals.proofs.naming.latest.Goals as goal

pub loop-opening-preserved : goal.loop-opening-preserved
loop-opening-preserved c =
    let os = c.args.openings.now in
    let i = c.loop-opening.opening-index in
    let o = c.opening-item.result in
    let step = take_more os i o c.loop-opening-test.true ∙ ap (λ (x : Opening). take i os ++ x ∷ []) (sym c.opening-item.is) in
    ap Some (c.newer.ensures ∙ ap (λ l. newer_of l o) c.loop-opening.invariant) ∙ (sym (latest-more (take i os) o) ∙ ap (λ (xs : List Opening). latest xs) (sym step))
