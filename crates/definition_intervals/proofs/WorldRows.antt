-- The verdict in a world in which a request changed the interval before a report was made.
use Rattle.std.proofs.Common.{◌≡◌, refl, ℕ, List, [], ◌∷◌, None}
use Rattle.hk_base.specs.declared.types.Kind.TheVariants.{Housekeeping}
use Rattle.hk_base.specs.declared.types.Key.{Key}
use Rattle.st03_grammar.specs.Instructions.{key_of}
use Rattle.hk_world.specs.Examples.{small, second_report, commanded_world}
use Rattle.hk_world.proofs.Example.{header, body}
use Rattle.hk_world.proofs.ExecutedExample.{commanded}
use Rattle.ground_history.specs.Histories.{Kept}
use Rattle.ground_history.specs.Bounds.{history_in}
use Rattle.definition_intervals.specs.Soundness.{HasReport, IsContained, IsSound, verdict_in}
use Rattle.definition_intervals.specs.declared.answer.Verdict.TheVariants.{Decided}
use Rattle.definition_intervals.proofs.KnownWorlds.{containment_holds, verdicts_sound}

abbrev one : Key
one = key_of Housekeeping 1

abbrev payload : List ℕ
payload = 0 ∷ 100 ∷ []

abbrev report : Kept
report = record { packet = second_report.packet; report = record { header = header 3 25 8193; body = body }; number = None }

kept : HasReport (history_in commanded_world) one 8193 payload
kept = (1, report, refl, refl, refl)

-- the interval is the one that was set
decided : verdict_in commanded_world one 8193 payload ≡ Decided (record { interval = 2; simple = 7 ∷ []; arrays = [] })
decided = refl

-- the theorems apply to it
contained : IsContained commanded_world one 8193
contained = containment_holds small commanded_world one 8193 payload refl commanded kept

sound : IsSound commanded_world one 8193 payload
sound = verdicts_sound small commanded_world one 8193 payload refl commanded kept
