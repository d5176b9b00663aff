-- Verification reports stood in their spelling where they were read.
use Rattle.std.proofs.Common.{arith, ◌≡◌, refl, ap, ◌∙◌, ℕ, ◌^◌, ◌<◌, List, [], ◌∷◌, ◌++◌, length, Bool, true, false, Some, None, Ok}
use Rattle.std.specs.Prelude.{◌==◌, nat_le, if◌then◌else◌}
use Rattle.std.specs.Option.{option_or}
use Rattle.std.proofs.lemmas.Bool.Decides.{nat_tests}
use Rattle.std.proofs.lemmas.Option.{none-some}
use Rattle.std.proofs.Common.{sym}
use Rattle.hk_base.specs.TailoringParts.{TailoringParts}
use Rattle.hk_base.specs.Fields.{octets_of}
use Rattle.body_fields.specs.Reading.{then_read, uint, counted_list}
use Rattle.body_fields.specs.Spelling.{AreOctets, AllAmong, IsCount, counted_octets}
use Rattle.hk_base.specs.declared.types.RequestId.{RequestId}
use Rattle.body_fields.specs.declared.fault.BodyFault.TheVariants.{ZeroCount, RepeatedKey}
use Rattle.body_fields.proofs.TakingLemmas.{Took, IsSpelled, took-then, took-map, took-check, took-weaken, took-uint, took-counted, body-took}
use Rattle.st01_reports.specs.Bodies.{request_field, cause_field, step_fault, step_field, on_request, with_cause, step_report, step_failure, incompletion, report_table, report_body}
use Rattle.st01_reports.specs.Spelling.{id_octets, cause_octets, step_octets, IsRequestId, IsCause, AreRising, IsSpelledReport}
use Rattle.st01_reports.specs.declared.verification.Cause.{Cause}
use Rattle.st01_reports.specs.declared.verification.Verification.{Verification}
use Rattle.st01_reports.specs.declared.verification.Verification.TheVariants.{Accepted, Refused, Started, NotStarted, Step, StepFailed, Completed, Incomplete, NotRouted}

-- two parts in their spelling
joined : (text more first second : List ℕ) → text ≡ first → more ≡ second → text ++ more ≡ first ++ second
joined text more first second e f = ap (λ a. a ++ more) e ∙ ap (λ b. first ++ b) f

-- a request ID that was read
abbrev IsSpelledId : RequestId → List ℕ → Type 0
IsSpelledId id text = (text ≡ id_octets id) × IsRequestId id

took-id : (octets : List ℕ) → AreOctets octets → Took IsSpelledId octets (request_field octets)
took-id octets are = took-map (IsSpelled 4) IsSpelledId octets (uint 4 octets) (λ word. record { word = word }) (took-uint 4 octets are) (λ word text h. h)

-- a cause that was read
abbrev IsSpelledCause : Cause → List ℕ → Type 0
IsSpelledCause c text = (text ≡ cause_octets c) × IsCause c

took-cause : (octets : List ℕ) → AreOctets octets → Took IsSpelledCause octets (cause_field octets)
took-cause octets are =
    took-then (IsSpelled 2) IsSpelledCause octets (uint 2 octets) (λ code rest. then_read (uint 4 rest) (λ detail end. Ok (record { code = code; detail = detail }, end)))
    are (took-uint 2 octets are)
    (λ code text rest h are_rest.
    took-map (IsSpelled 4) (λ c more. IsSpelledCause c (text ++ more)) rest (uint 4 rest) (λ detail. record { code = code; detail = detail })
    (took-uint 4 rest are_rest)
    (λ detail more g. (joined text more (octets_of 2 code) (octets_of 4 detail) h.0 g.0, (h.1, g.1))))

-- a step that has room, and no fault among those before it
abbrev StepStands : TailoringParts → List ℕ → ℕ → Type 0
StepStands t earlier step = (step < 256 ^ t.widths.step_octets) × (step_fault earlier step ≡ None)

took-step : (t : TailoringParts) (earlier octets : List ℕ) → AreOctets octets → Took (λ step text. (text ≡ step_octets t step) × StepStands t earlier step) octets (step_field t earlier octets)
took-step t earlier octets are =
    took-weaken (λ step text. IsSpelled t.widths.step_octets step text × (step_fault earlier step ≡ None)) (λ step text. (text ≡ step_octets t step) × StepStands t earlier step) octets
    (step_field t earlier octets)
    (took-check (IsSpelled t.widths.step_octets) (step_fault earlier) octets (uint t.widths.step_octets octets) (took-uint t.widths.step_octets octets are))
    (λ step text h. (h.0.0, (h.0.1, h.1)))

-- the newest step, or 0
abbrev newest : List ℕ → ℕ
newest [] = 0
newest (last ∷ earlier) = last

above : (earlier : List ℕ) (step : ℕ) → step_fault earlier step ≡ None → newest earlier < step
above [] step e = go (step == 0) refl e
  where
    go : (b : Bool) → step == 0 ≡ b → (if b then Some ZeroCount else None) ≡ None → 0 < step
    go true zero_test h = absurd (none-some ZeroCount (sym h))
    go false zero_test h = grind (arith, nat_tests)
above (last ∷ earlier) step e = go (step == 0) refl (nat_le step last) refl e
  where
    go : (a : Bool) → step == 0 ≡ a → (b : Bool) → nat_le step last ≡ b
        → option_or (if a then Some ZeroCount else None) (if b then Some (RepeatedKey step) else None) ≡ None → last < step
    go true zero_test b low h = absurd (none-some ZeroCount (sym h))
    go false zero_test true low h = absurd (none-some (RepeatedKey step) (sym h))
    go false zero_test false low h = grind (arith, nat_tests)

rising : (t : TailoringParts) (earlier steps : List ℕ) → AllAmong (StepStands t) earlier steps → AreRising t (newest earlier) steps
rising t earlier [] all = tt
rising t earlier (step ∷ steps) all = (above earlier step all.0.1, all.0.0, rising t (step ∷ earlier) steps all.1)

took-on_request : (t : TailoringParts) (number : ℕ) (make : RequestId → Verification) → ((id : RequestId) (text : List ℕ) → IsSpelledId id text → IsSpelledReport t number (make id) text)
    → (octets : List ℕ) → AreOctets octets → Took (IsSpelledReport t number) octets (on_request make octets)
took-on_request t number make is octets are = took-map IsSpelledId (IsSpelledReport t number) octets (request_field octets) make (took-id octets are) is

took-with_cause : (t : TailoringParts) (number : ℕ) (make : RequestId → Cause → Verification)
    → ((id : RequestId) (c : Cause) (text : List ℕ) → text ≡ id_octets id ++ cause_octets c → IsRequestId id → IsCause c → IsSpelledReport t number (make id c) text)
    → (octets : List ℕ) → AreOctets octets → Took (IsSpelledReport t number) octets (with_cause make octets)
took-with_cause t number make is octets are =
    took-then IsSpelledId (IsSpelledReport t number) octets (request_field octets) (λ id rest. then_read (cause_field rest) (λ cause end. Ok (make id cause, end)))
    are (took-id octets are)
    (λ id text rest h are_rest.
    took-map IsSpelledCause (λ v more. IsSpelledReport t number v (text ++ more)) rest (cause_field rest) (make id)
    (took-cause rest are_rest)
    (λ c more g. is id c (text ++ more) (joined text more (id_octets id) (cause_octets c) h.0 g.0) h.1 g.1))

-- one step alone is 1 or more
alone : (t : TailoringParts) (step : ℕ) → StepStands t [] step → (0 < step) × (step < 256 ^ t.widths.step_octets)
alone t step stands = (above [] step stands.1, stands.0)

took-step_report : (t : TailoringParts) (octets : List ℕ) → AreOctets octets → Took (IsSpelledReport t 5) octets (step_report t octets)
took-step_report t octets are =
    took-then IsSpelledId (IsSpelledReport t 5) octets (request_field octets) (λ id rest. then_read (step_field t [] rest) (λ step end. Ok (Step id step, end)))
    are (took-id octets are)
    (λ id text rest h are_rest.
    took-map (λ step more. (more ≡ step_octets t step) × StepStands t [] step) (λ v more. IsSpelledReport t 5 v (text ++ more)) rest (step_field t [] rest) (Step id)
    (took-step t [] rest are_rest)
    (λ step more g. (refl, joined text more (id_octets id) (step_octets t step) h.0 g.0, (h.1, alone t step g.1))))

took-step_failure : (t : TailoringParts) (octets : List ℕ) → AreOctets octets → Took (IsSpelledReport t 6) octets (step_failure t octets)
took-step_failure t octets are =
    took-then IsSpelledId (IsSpelledReport t 6) octets (request_field octets)
    (λ id rest. then_read (step_field t [] rest) (λ step more. then_read (cause_field more) (λ cause end. Ok (StepFailed id step cause, end))))
    are (took-id octets are)
    (λ id text rest h are_rest.
    took-then (λ step more. (more ≡ step_octets t step) × StepStands t [] step) (λ v more. IsSpelledReport t 6 v (text ++ more)) rest (step_field t [] rest)
    (λ step more. then_read (cause_field more) (λ cause end. Ok (StepFailed id step cause, end)))
    are_rest (took-step t [] rest are_rest)
    (λ step more others g are_others.
    took-map IsSpelledCause (λ v end. IsSpelledReport t 6 v (text ++ (more ++ end))) others (cause_field others) (StepFailed id step)
    (took-cause others are_others)
    (λ c end f. (
      refl,
      joined text (more ++ end) (id_octets id) (step_octets t step ++ cause_octets c) h.0 (joined more end (step_octets t step) (cause_octets c) g.0 f.0),
      (h.1, alone t step g.1, f.1),
    ))))

took-incompletion : (t : TailoringParts) (octets : List ℕ) → AreOctets octets → Took (IsSpelledReport t 8) octets (incompletion t octets)
took-incompletion t octets are =
    took-then IsSpelledId (IsSpelledReport t 8) octets (request_field octets)
    (λ id rest. then_read (uint 2 rest) (λ code more. then_read (counted_list t 1 (step_field t) more) (λ steps end. Ok (Incomplete id code steps, end))))
    are (took-id octets are)
    (λ id text rest h are_rest.
    took-then (IsSpelled 2) (λ v more. IsSpelledReport t 8 v (text ++ more)) rest (uint 2 rest)
    (λ code more. then_read (counted_list t 1 (step_field t) more) (λ steps end. Ok (Incomplete id code steps, end)))
    are_rest (took-uint 2 rest are_rest)
    (λ code more others g are_others.
    took-map (λ steps end. (end ≡ counted_octets t (step_octets t) steps) × IsCount t 1 (length steps) × AllAmong (StepStands t) [] steps)
    (λ v end. IsSpelledReport t 8 v (text ++ (more ++ end))) others (counted_list t 1 (step_field t) others) (Incomplete id code)
    (took-counted t 1 (step_field t) (step_octets t) (StepStands t) (λ earlier os are_os. took-step t earlier os are_os) others are_others)
    (λ steps end f. (
      refl,
      joined text (more ++ end) (id_octets id) (octets_of 2 code ++ counted_octets t (step_octets t) steps) h.0
          (joined more end (octets_of 2 code) (counted_octets t (step_octets t) steps) g.0 f.0),
      (h.1, g.1, f.1.0, f.1.1, rising t [] steps f.2),
    ))))

-- a report is read from its spelling alone
pub report-took : (t : TailoringParts) (number : ℕ) (octets : List ℕ) (v : Verification) → AreOctets octets → report_body t number octets ≡ Some (Ok v) → IsSpelledReport t number v octets
report-took t number octets v are e =
    body-took (IsSpelledReport t) (report_table t) number octets v are (
      took-on_request t 1 Accepted (λ id text h. (refl, h.0, h.1)),
      (
        took-with_cause t 2 Refused (λ id c text parts is fits. (refl, parts, (is, fits))),
        (
          took-on_request t 3 Started (λ id text h. (refl, h.0, h.1)),
          (
            took-with_cause t 4 NotStarted (λ id c text parts is fits. (refl, parts, (is, fits))),
            (
              took-step_report t,
              (
                took-step_failure t,
                (
                  took-on_request t 7 Completed (λ id text h. (refl, h.0, h.1)),
                  (
                    took-incompletion t,
                    (
                      took-with_cause t 10 NotRouted (λ id c text parts is fits. (refl, parts, (is, fits))),
                      tt,
                    ),
                  ),
                ),
              ),
            ),
          ),
        ),
      ),
    )
    e
