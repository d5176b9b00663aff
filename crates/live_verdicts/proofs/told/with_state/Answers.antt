use Rattle.std.proofs.Common.{◌≡◌, ◌∙◌, ◌++◌, ◌∷◌, [], List, Option, Some, sym, ap, subst}
use Rattle.std.specs.Option.{option_copied}
use Rattle.hk_base.specs.TailoringParts.{TailoringParts}
use Rattle.hk_base.specs.declared.types.Structure.{Structure}
use Rattle.definition_intervals.specs.Openings.{Candidate}
use Rattle.definition_intervals.specs.Founds.{found_after_all, AreSameFound, IsFormedFound}
use Rattle.opening_sweeps.specs.Requests.{Start}
use Rattle.opening_sweeps.proofs.FoldLemmas.{same-refl}
use Rattle.entry_changes.specs.Changes as changes
use Rattle.live_verdicts.specs.Marks.{AreKnown, HasSame, first_found}
use Rattle.live_verdicts.proofs.FindLemmas.{alike-refl, alike-there, told-again, known-added}
use Rattle.live_verdicts.proofs.told.with_state.Goals as goal

pub returns-then-has_same-clause-alike : goal.returns-then-has_same-clause-alike
returns-then-has_same-clause-alike c =
    λ fs alike.
    let g = c.args.history.now in
    let us = changes.unsures g.history c.args.key c.args.numbers.first c.args.numbers.end in
    let finds = c.args.told.finds.items in
    let origins = c.args.told.origins.items in
    let origin = first_found c.args.start.now in
    let is : c.in_ok-origin.origin ≡ origin = c.in_ok-origin.ensures ∙ ap (λ (s : Start). first_found s) c.start.view_is in
    let has = subst (λ (f : Option (List (Option Structure))). HasSame origins f) is (subst (λ (gs : List (Option (List (Option Structure)))). HasSame gs c.in_ok-origin.origin) c.deref.ensures.value (c.has_same.ensures c.if-has_same.true)) in
    let found = found_after_all g.tailoring us origin in
    alike-there fs finds found found (told-again c.same_is_found.ensures g.tailoring us origins finds origin has c.requires.known) (same-refl found) alike

pub returns-clause-formed : goal.returns-clause-formed
returns-clause-formed c =
    λ all.
    c.in_ok-add_find.ensures.formed c.args.history.now.tailoring
    (subst (λ (t : TailoringParts). IsFormedFound t c.in_ok-found.found) c.tailoring-tailoring.ensures.tailoring c.in_ok-found.ensures.formed) all

pub returns-clause-known : goal.returns-clause-known
returns-clause-known c =
    let g = c.args.history.now in
    let us = changes.unsures g.history c.args.key c.args.numbers.first c.args.numbers.end in
    let finds = c.args.told.finds.items in
    let origins = c.args.told.origins.items in
    let origin = first_found c.args.start.now in
    let is : c.in_ok-origin.origin ≡ origin = c.in_ok-origin.ensures ∙ ap (λ (s : Start). first_found s) c.start.view_is in
    let state : option_copied c.start.inside.state ≡ c.args.start.now.state = ap (λ (s : Start). s.state) c.start.view_is in
    let requests = c.deref-2.ensures.value ∙ c.in_ok-requests.ensures.requests in
    let found =
    subst (λ (cs : List Candidate). AreSameFound c.in_ok-found.found (found_after_all c.tailoring-tailoring.result.now cs (Some (option_copied c.start.inside.state ∷ [])))) requests c.in_ok-found.ensures.same in
    let same =
    subst (λ (s : Option Structure). AreSameFound c.in_ok-found.found (found_after_all g.tailoring us (Some (s ∷ [])))) state
    (subst (λ (t : TailoringParts). AreSameFound c.in_ok-found.found (found_after_all t us (Some (option_copied c.start.inside.state ∷ [])))) c.tailoring-tailoring.ensures.tailoring found) in
    subst (λ (os : List (Option (List (Option Structure)))). AreKnown g.tailoring us os c.add_find.new.finds.items) (sym (c.in_ok-push.ensures.items ∙ ap (λ (f : Option (List (Option Structure))). origins ++ f ∷ []) is))
    (known-added g.tailoring us origins finds c.add_find.new.finds.items origin (c.in_ok-add_find.ensures.alike finds (found_after_all g.tailoring us origin) same (alike-refl finds)) c.requires.known)
