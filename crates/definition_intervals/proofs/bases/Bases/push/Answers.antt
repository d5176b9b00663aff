use Rattle.std.proofs.Common.{◌∙◌, ◌++◌, ◌∷◌, [], List, refl, ap}
use Rattle.definition_intervals.specs.declared.answer.Basis.{Basis}
use Rattle.definition_intervals.proofs.HeldLemmas.{on_err, places-kept, places-pushed, within-kept, within-pushed}
use Rattle.definition_intervals.proofs.bases.Bases.push.Goals as goal

pub returns-in_err-place-clause-same : goal.returns-in_err-place-clause-same
returns-in_err-place-clause-same c =
    on_err c.from_residual.result
    (places-kept c.self.inside.held.items c.hold.new.held.items c.self.inside.places.items c.self.inside.places.items c.self.invariant c.hold.ensures.kept refl ∙ c.self.view_is)

pub invariant_of-self-in_err-push : goal.invariant_of-self-in_err-push
invariant_of-self-in_err-push c =
    within-kept c.self.inside.held.items c.hold.new.held.items c.self.inside.places.items c.push.new.self.items c.self.invariant c.hold.ensures.kept c.in_err-push.ensures.items

pub returns-in_err-push-clause-same : goal.returns-in_err-push-clause-same
returns-in_err-push-clause-same c =
    on_err c.from_residual-in_err-push.result
    (places-kept c.self.inside.held.items c.hold.new.held.items c.self.inside.places.items c.push.new.self.items c.self.invariant c.hold.ensures.kept c.in_err-push.ensures.items
    ∙ c.self.view_is)

pub invariant_of-self-2 : goal.invariant_of-self-2
invariant_of-self-2 c =
    within-pushed c.self.inside.held.items c.hold.new.held.items c.self.inside.places.items c.push.new.self.items c.in_ok-place.place c.args.basis c.self.invariant c.hold.ensures.kept
    c.in_ok-place.ensures.place c.in_ok-push.ensures.items

pub returns-clause-pushed : goal.returns-clause-pushed
returns-clause-pushed c =
    places-pushed c.self.inside.held.items c.hold.new.held.items c.self.inside.places.items c.push.new.self.items c.in_ok-place.place c.args.basis c.self.invariant c.hold.ensures.kept
    c.in_ok-place.ensures.place c.in_ok-push.ensures.items
    ∙ ap (λ (bs : List Basis). bs ++ c.args.basis ∷ []) c.self.view_is
