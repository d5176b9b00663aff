use Rattle.std.proofs.Common.{◌≡◌, refl, subst, List, None}
use Rattle.std.specs.Prelude.{IfSome}
use Rattle.hk_base.specs.declared.types.Key.{Key}
use Rattle.board_state.specs.Holdings.{held_at, ChangesAt, one_shots_of}
use Rattle.board_state.specs.declared.structures.Held.{Held}
use Rattle.board_state.proofs.KeyLemmas.{key-same, found-at}
use Rattle.board_state.proofs.RisingLemmas.{rising-sorted, removed-at}
use Rattle.board_state.proofs.structures.Structures.delete.Goals as goal

pub returns-clause-changes : goal.returns-clause-changes
returns-clause-changes c =
    subst (λ (old : List (Key × Held)). ChangesAt c.args.key None old c.remove.new.self.entries) c.self.view_is
    (λ other. found-at _ (key-same _ (λ m n. refl) (λ m n. refl) (λ m n. refl) (λ m n. refl)) c.args.key None _ _ c.remove.ensures.updates.0 other)

pub returns-clause-one_shots : goal.returns-clause-one_shots
returns-clause-one_shots c =
    subst (λ (old : List (Key × Held)). IfSome (held_at old c.args.key) (λ h. h.one_shot ≡ None) → one_shots_of c.remove.new.self.entries ≡ one_shots_of old) c.self.view_is
    (removed-at _ c.args.key _ _ c.remove.ensures.updates.0 (key-same _ (λ m n. refl) (λ m n. refl) (λ m n. refl) (λ m n. refl)) c.remove.ensures.entries)

pub returns-clause-rising : goal.returns-clause-rising
returns-clause-rising c = rising-sorted _ (λ m n. refl) (λ m n. refl) (λ m n. refl) _ c.remove.ensures.ordered
