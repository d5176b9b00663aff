use Rattle.std.proofs.Common.{rules, ◌≡◌, refl, subst, List}
use Rattle.std.proofs.lemmas.Map.Made.{map_same_pairs}
use Rattle.hk_base.specs.declared.types.Key.{Key}
use Rattle.board_state.specs.Holdings.{after_slot, all_after_slot}
use Rattle.board_state.specs.declared.structures.Held.{Held}
use Rattle.board_state.proofs.RisingLemmas.{rising-sorted}
use Rattle.board_state.proofs.structures.Structures.end_one_shots.Goals as goal

pub returns-clause-ended : goal.returns-clause-ended
returns-clause-ended c =
    subst (λ (old : List (Key × Held)). c.retain.new.self.entries ≡ all_after_slot c.args.slot old) c.self.view_is
    (map_same_pairs _ (after_slot c.args.slot) _ (λ k v b w f t. search rules) _ _ c.retain.ensures.filtered)

pub returns-clause-rising : goal.returns-clause-rising
returns-clause-rising c = rising-sorted _ (λ m n. refl) (λ m n. refl) (λ m n. refl) _ c.retain.ensures.ordered
