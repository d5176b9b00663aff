use Rattle.std.proofs.Common.{rules, ◌≡◌, ◌∙◌, ◌++◌, ◌∷◌, [], List, ℕ, None, Some, Option, subst, ap}
use Rattle.std.specs.Prelude.{◌≢◌, unwrap_or}
use Rattle.hk_base.specs.declared.types.Key.{Key}
use Rattle.verdict_tables.specs.Collecting.{Collects, held_for, tags_if}
use Rattle.verdict_tables.proofs.KeyOrder.{held-updates, held-all, held-same, tags-added, push-some}
use Rattle.verdict_tables.proofs.places.Places.add.Goals as goal

pub invariant_of-self : goal.invariant_of-self
invariant_of-self c =
    held-all (λ (tags : List ℕ). tags ≢ []) c.args.key None c.self.inside.tags.entries c.remove.new.self.entries
    (held-updates _ (λ a b. search rules) c.self.inside.tags.entries c.remove.new.self.entries c.args.key None c.remove.ensures.updates.0) tt c.self.invariant

pub invariant_of-self-in_err-insert : goal.invariant_of-self-in_err-insert
invariant_of-self-in_err-insert c =
    held-same (λ (tags : List ℕ). tags ≢ []) c.remove.new.self.entries c.insert.new.self.entries c.in_err-insert.ensures.err
    (held-all (λ (tags : List ℕ). tags ≢ []) c.args.key None c.self.inside.tags.entries c.remove.new.self.entries
    (held-updates _ (λ a b. search rules) c.self.inside.tags.entries c.remove.new.self.entries c.args.key None c.remove.ensures.updates.0) tt c.self.invariant)

pub invariant_of-self-2 : goal.invariant_of-self-2
invariant_of-self-2 c =
    held-all (λ (tags : List ℕ). tags ≢ []) c.args.key (Some c.in_ok-tags.tags) c.remove.new.self.entries c.insert.new.self.entries
    (held-updates _ (λ a b. search rules) c.remove.new.self.entries c.insert.new.self.entries c.args.key (Some c.in_ok-tags.tags) c.in_ok-insert.ensures.updates.0)
    (push-some (unwrap_or c.remove.result []) c.args.tag c.in_ok-tags.tags c.in_ok-tags.ensures)
    (held-all (λ (tags : List ℕ). tags ≢ []) c.args.key None c.self.inside.tags.entries c.remove.new.self.entries
    (held-updates _ (λ a b. search rules) c.self.inside.tags.entries c.remove.new.self.entries c.args.key None c.remove.ensures.updates.0) tt c.self.invariant)

pub returns : goal.returns
returns c =
    let found : c.remove.result ≡ held_for c.self.inside.tags.entries c.args.key = search rules in
    subst (λ (old : List (Key × List ℕ)). Collects old c.insert.new.self.entries (λ other. tags_if c.args.key other (c.args.tag ∷ []))) c.self.view_is
    (tags-added c.args.key c.args.tag c.in_ok-tags.tags c.self.inside.tags.entries c.remove.new.self.entries c.insert.new.self.entries
    (held-updates _ (λ a b. search rules) c.self.inside.tags.entries c.remove.new.self.entries c.args.key None c.remove.ensures.updates.0)
    (held-updates _ (λ a b. search rules) c.remove.new.self.entries c.insert.new.self.entries c.args.key (Some c.in_ok-tags.tags) c.in_ok-insert.ensures.updates.0)
    (c.in_ok-tags.ensures ∙ ap (λ (o : Option (List ℕ)). unwrap_or o [] ++ c.args.tag ∷ []) found))
