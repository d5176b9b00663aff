-- What a true verdict says of the openings.
use Rattle.std.proofs.Common.{◌≡◌, ℕ, refl, sym, ◌∙◌, List, [], ◌∷◌, Some}
use Rattle.std.proofs.lemmas.Bool.{true≢false}
use Rattle.std.proofs.lemmas.Option.{none-some}
use Rattle.std.specs.Prelude.{ℤ, slice_get, IsTrue}
use Rattle.hk_base.specs.declared.types.Key.{Key}
use Rattle.hk_base.specs.declared.types.Place.{Place}
use Rattle.hk_world.specs.Timelines.{tailoring}
use Rattle.hk_world.specs.Worlds.{World}
use Rattle.ground_history.specs.Bounds.{history_in}
use Rattle.definition_intervals.specs.Openings.{Opening, is_settled}
use Rattle.definition_intervals.specs.declared.answer.Verdict.{Verdict}
use Rattle.definition_intervals.specs.declared.answer.Verdict.TheVariants.{Decided, Undecidable, Crowded, NoOpening, Impossible}
use Rattle.session_texts.specs.Follow.{is_decision}
use Rattle.session_texts.specs.Truth.{openings_in, IsTrueVerdict, IsTrueReason}

-- a settled report is decided
pub settled_decided : (w : World) (key : Key) (tag : ℕ) (v : Verdict) (rows : List (Place × ℤ)) → IsTrueVerdict w key tag v rows
    → IsTrue (is_settled (tailoring w.session) (history_in w) key tag) → IsTrue (is_decision v)
settled_decided w key tag (Decided d) rows h s = refl
settled_decided w key tag (Undecidable k) rows h s = absurd (true≢false (sym s ∙ h.0))
settled_decided w key tag (Crowded k) rows h s = absurd (true≢false (sym s ∙ h.0))
settled_decided w key tag NoOpening rows h s = absurd (true≢false (sym s ∙ h.0))
settled_decided w key tag Impossible rows h s = absurd h

no-place : (os : List Opening) (i : ℕ) (o : Opening) → slice_get os i ≡ Some o → os ≡ [] → ⊥
no-place [] i o e none = none-some o e
no-place (x ∷ os) i o e none = cc

-- where there is no opening the verdict says so
pub unopened_said : (w : World) (key : Key) (tag : ℕ) (v : Verdict) → IsTrueReason w key tag v → openings_in w key tag ≡ [] → v ≡ NoOpening
unopened_said w key tag (Decided d) h none = absurd (h none)
unopened_said w key tag (Undecidable k) h none = absurd (no-place (openings_in w key tag) h.place h.opening h.there none)
unopened_said w key tag (Crowded k) h none = absurd (no-place (openings_in w key tag) h.place h.opening h.there none)
unopened_said w key tag NoOpening h none = refl
unopened_said w key tag Impossible h none = absurd h
