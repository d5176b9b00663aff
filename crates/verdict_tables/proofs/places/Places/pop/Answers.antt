use Rattle.std.proofs.Common.{rules, [], List, ℕ}
use Rattle.std.specs.Prelude.{◌≢◌}
use Rattle.verdict_tables.proofs.KeyOrder.{taken-all}
use Rattle.verdict_tables.proofs.places.Places.pop.Goals as goal

pub invariant_of-self : goal.invariant_of-self
invariant_of-self c =
    taken-all _ (λ a b. search rules) (λ (tags : List ℕ). tags ≢ []) _ c.pop_first.result c.self.inside.tags.entries c.pop_first.new.self.entries (λ p u. u.0) c.pop_first.ensures.updates
    c.pop_first.ensures.unchanged c.self.invariant
