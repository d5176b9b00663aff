use Rattle.std.proofs.Common.{◌≡◌, refl, ap, ◌∙◌, subst, List, None, Some}
use Rattle.hk_base.specs.declared.types.Key.{Key}
use Rattle.board_state.specs.Holdings.{held_at, ChangesAt, new_held, one_shots_of}
use Rattle.board_state.specs.declared.structures.Held.{Held}
use Rattle.board_state.proofs.KeyLemmas.{key-same, found-at}
use Rattle.board_state.proofs.RisingLemmas.{rising-sorted, inserted-one-shots}
use Rattle.board_state.proofs.structures.Structures.create.Goals as goal

pub returns-clause-ok : goal.returns-clause-ok
returns-clause-ok c =
    subst (λ (old : List (Key × Held)). ChangesAt c.args.key (Some (new_held c.args.structure c.args.first_slot)) old c.insert.new.self.entries) c.self.view_is
    (λ other. found-at _ (key-same _ (λ m n. refl) (λ m n. refl) (λ m n. refl) (λ m n. refl)) c.args.key (Some (new_held c.args.structure c.args.first_slot)) _ _ c.in_ok-insert.ensures.updates.0 other)

pub returns-clause-one_shots : goal.returns-clause-one_shots
returns-clause-one_shots c =
    subst (λ (old : List (Key × Held)). held_at old c.args.key ≡ None → one_shots_of c.insert.new.self.entries ≡ one_shots_of old) c.self.view_is
    (λ none. ap one_shots_of c.in_ok-insert.ensures.entries
    ∙ inserted-one-shots _ (key-same _ (λ m n. refl) (λ m n. refl) (λ m n. refl) (λ m n. refl)) c.args.key (new_held c.args.structure c.args.first_slot) _ refl none)

pub returns-clause-rising : goal.returns-clause-rising
returns-clause-rising c = rising-sorted _ (λ m n. refl) (λ m n. refl) (λ m n. refl) _ c.in_ok-insert.ensures.ordered
