-- Worked examples, by computation over hand-built histories under the built-in tailoring.
use Rattle.std.proofs.Common.{◌≡◌, ℕ, refl, List, [], ◌∷◌, ◌++◌, true, false, Option, Some, map}
use Rattle.hk_base.specs.Builtin.{builtin}
use Rattle.hk_base.specs.declared.types.Kind.TheVariants.{Housekeeping}
use Rattle.hk_base.specs.declared.types.Key.{Key}
use Rattle.hk_base.specs.declared.types.RequestId.{RequestId}
use Rattle.hk_base.specs.declared.types.Definition.{Definition}
use Rattle.st01_reports.specs.declared.verification.Verification.TheVariants as v
use Rattle.st03_grammar.specs.Instructions.{key_of}
use Rattle.st03_grammar.specs.declared.bodies.Each.TheVariants.{Delete}
use Rattle.st03_grammar.specs.declared.bodies.Request03.{Request03}
use Rattle.st03_grammar.specs.declared.bodies.Request03.TheVariants.{Create, Append, OnEach, Intervals}
use Rattle.pus_messages.specs.declared.message.RequestBody.TheVariants as ask
use Rattle.pus_messages.specs.declared.message.ReportBody.{ReportBody}
use Rattle.pus_messages.specs.declared.message.ReportBody.TheVariants as tell
use Rattle.ground_history.specs.Histories.{History, Sent, Kept}
use Rattle.definition_intervals.specs.Openings.{is_settled}
use Rattle.definition_intervals.specs.Verdicts.{verdict}
use Rattle.definition_intervals.specs.declared.answer.Verdict.TheVariants.{Decided, Undecidable, Crowded}

abbrev hk_key : ℕ → Key
hk_key id = key_of Housekeeping id

abbrev asked : Request03 → Sent
asked body =
    record {
      packet = [];
      request = Some (record { header = record { apid = 100; count = 0; flags = 15; service = 3; subtype = 0; source = 1 }; body = ask.Hk body });
      floor = 0;
    }

abbrev told : ℕ → ReportBody → Option ℕ → Kept
told tag body number =
    record {
      packet = [];
      report = record { header = record { apid = 100; count = 0; status = 0; service = 1; subtype = 0; counter = 0; destination = 1; tag = tag }; body = body };
      number = number;
    }

abbrev id : RequestId
id = record { word = 0 }

abbrev completed : ℕ → ℕ → Kept
completed tag k = told tag (tell.Verify (v.Completed id)) (Some k)

abbrev history : List Sent → List Kept → History
history requests kept = record { known = true; long = false; requests = requests; kept = kept }

-- the interval of housekeeping 2 is set to 4
abbrev interval_four : Sent
interval_four = asked (Intervals Housekeeping (record { id = 2; interval = 4 } ∷ []))

abbrev two_every : ℕ → Definition
two_every n = record { interval = n; simple = 1 ∷ []; arrays = record { repetition = 4; params = 3 ∷ [] } ∷ [] }

abbrev payload_two : List ℕ
payload_two = 0 ∷ 1 ∷ 10 ∷ 11 ∷ 12 ∷ 13 ∷ []

-- the change was completed before the report
change-completed : verdict builtin (history (interval_four ∷ []) (completed 28676 0 ∷ [])) (hk_key 2) 32770 payload_two ≡ Decided (two_every 4)
change-completed = refl

-- nothing is known of the change
change-open : verdict builtin (history (interval_four ∷ []) []) (hk_key 2) 32770 payload_two ≡ Undecidable 0
change-open = refl

-- the change was completed after the report, so it may have come before or after; and it was completed just before
change-late : verdict builtin (history (interval_four ∷ []) (completed 32771 0 ∷ [])) (hk_key 2) 32770 payload_two ≡ Undecidable 0
change-late = refl

change-just : verdict builtin (history (interval_four ∷ []) (completed 32769 0 ∷ [])) (hk_key 2) 32770 payload_two ≡ Decided (two_every 4)
change-just = refl

-- one of several instructions was refused
abbrev three_intervals : Sent
three_intervals =
    asked (Intervals Housekeeping (record { id = 1; interval = 2 } ∷ record { id = 2; interval = 6 } ∷ record { id = 3; interval = 4 } ∷ []))

abbrev one_refused : History
one_refused = history (three_intervals ∷ []) (told 20484 (tell.Verify (v.Incomplete id 200 (2 ∷ []))) (Some 0) ∷ [])

abbrev plain_every : ℕ → ℕ → Definition
plain_every param n = record { interval = n; simple = param ∷ []; arrays = [] }

refused-first : verdict builtin one_refused (hk_key 1) 32769 (0 ∷ 7 ∷ []) ≡ Decided (plain_every 1 2)
refused-first = refl

refused-second : verdict builtin one_refused (hk_key 2) 32770 payload_two ≡ Decided (two_every 8)
refused-second = refl

refused-third : verdict builtin one_refused (hk_key 3) 32771 (0 ∷ 0 ∷ 0 ∷ 9 ∷ []) ≡ Decided (plain_every 6 4)
refused-third = refl

-- appends of seven parameters to housekeeping 3, and of six
abbrev append_one : ℕ → Sent
append_one param = asked (Append (hk_key 3) (record { simple = param ∷ []; arrays = [] }))

abbrev appends : List Sent
appends = map append_one (10 ∷ 11 ∷ 12 ∷ 13 ∷ 14 ∷ 15 ∷ 16 ∷ [])

appends-seven : verdict builtin (history appends []) (hk_key 3) 32771 (0 ∷ 0 ∷ 0 ∷ 9 ∷ []) ≡ Crowded 0
appends-seven = refl

appends-six : verdict builtin (history (map append_one (10 ∷ 11 ∷ 12 ∷ 13 ∷ 14 ∷ 15 ∷ [])) []) (hk_key 3) 32771 (0 ∷ 0 ∷ 0 ∷ 9 ∷ []) ≡ Decided (plain_every 6 2)
appends-six = refl

-- two creations, of which the first that was taken stands
abbrev creation : ℕ → ℕ → ℕ → Sent
creation id interval param = asked (Create (hk_key id) (plain_every param interval))

two-creations : verdict builtin (history (creation 9 4 1 ∷ creation 9 4 7 ∷ []) []) (hk_key 9) 32770 (0 ∷ 5 ∷ []) ≡ Undecidable 0
two-creations = refl

-- a sure creation ends the crowd
abbrev recreated : History
recreated = history (appends ++ asked (OnEach Delete Housekeeping (3 ∷ [])) ∷ creation 3 2 6 ∷ []) (completed 36870 8 ∷ [])

recreated-before : verdict builtin recreated (hk_key 3) 32771 (0 ∷ 0 ∷ 0 ∷ 9 ∷ []) ≡ Crowded 0
recreated-before = refl

recreated-after : verdict builtin recreated (hk_key 3) 40962 (0 ∷ 0 ∷ 0 ∷ 5 ∷ []) ≡ Decided (plain_every 6 2)
recreated-after = refl

recreated-settled : is_settled builtin recreated (hk_key 3) 40962 ≡ true
recreated-settled = refl
