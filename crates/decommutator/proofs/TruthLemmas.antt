-- The text of what stands for a world.
use Rattle.std.proofs.Common.{◌≡◌, ℕ, List, ◌++◌, subst, sym, ap, ◌∙◌}
use Rattle.hk_base.specs.TailoringParts.{TailoringParts}
use Rattle.pus_messages.specs.Messages.{protocol}
use Rattle.hk_world.specs.Worlds.{World, IsWorld}
use Rattle.ground_history.specs.Bounds.{history_in}
use Rattle.session_texts.specs.Texts.{blocks, count_lines}
use Rattle.session_texts.specs.Truth.{kinds_in}
use Rattle.block_lines.specs.Counts.{lines_of}
use Rattle.decommutator.specs.Standing.{Standing, standing_text}
use Rattle.decommutator.specs.Entries.{IsStandingIn}

-- what is so of the text of what is known in each world, under each tailoring, is so of the text of what stands for a world
pub standing-true : (P : World → List ℕ → Type 0)
    → ((t : TailoringParts) (w : World) → w.session.protocol ≡ protocol t → IsWorld w → P w (blocks (protocol t) (history_in w) ++ count_lines (kinds_in w)))
    → (w : World) (s : Standing) → IsStandingIn w s → P w (standing_text s)
standing-true P law w s stands =
    let same : blocks (protocol s.tailoring) (history_in w) ++ count_lines (kinds_in w) ≡ standing_text s =
    ap (λ h. blocks (protocol s.tailoring) h ++ count_lines (kinds_in w)) (sym stands.history)
    ∙ ap (λ c. blocks (protocol s.tailoring) s.history ++ lines_of c) (sym stands.counts) in
    subst (P w) same (law s.tailoring w stands.tailoring stands.world)
