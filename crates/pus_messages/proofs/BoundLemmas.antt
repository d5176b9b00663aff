-- The bodies of messages of the grammar are short: lists have at most 255 members.
use Rattle.std.proofs.Common.{arith, ◌≡◌, refl, ℕ, ◌+◌, ◌*◌, ◌≤◌, ◌^◌, List, [], ◌∷◌, ◌++◌, length, length-append, Bool, true, false, Option, Some, None, ℤ}
use Rattle.std.specs.Prelude.{flat_map}
use Rattle.std.specs.List.{AllByRecursion}
use Rattle.std.specs.Option.{option_map_or}
use Rattle.hk_base.specs.TailoringParts.{TailoringParts}
use Rattle.hk_base.specs.Fields.{octets_of, signed_octets_of}
use Rattle.hk_base.specs.Fit.{IsFit, IsFitShape}
use Rattle.hk_base.specs.Parameters.{parameter}
use Rattle.body_fields.specs.Spelling.{counted_octets, structure_octets, param_octets, interval_octets, flag_octets, time_octets, value_octets, mean_octets}
use Rattle.hk_base.specs.declared.types.Param.{Param}
use Rattle.hk_base.specs.declared.types.SuperList.{SuperList}
use Rattle.hk_base.proofs.FieldLemmas.{length-digits}
use Rattle.body_fields.proofs.ValueLemmas.{length-value}
use Rattle.body_fields.proofs.FitLemmas.{parameter-fit}
use Rattle.st01_reports.specs.Spelling as st01
use Rattle.hk_base.specs.declared.types.RequestId.{RequestId}
use Rattle.st01_reports.specs.declared.verification.Cause.{Cause}
use Rattle.st01_reports.specs.declared.verification.Verification.{Verification}
use Rattle.st01_reports.specs.declared.verification.Verification.TheVariants.{Accepted, Refused, Started, NotStarted, Step, StepFailed, Completed, Incomplete, NotRouted}
use Rattle.st03_grammar.specs.Spelling as st03
use Rattle.st03_grammar.specs.Spelling.{IsRequest03, IsReport03, AreArrays, AreLists, array_octets, lists_octets, pair_octets}
use Rattle.st03_grammar.specs.declared.bodies.Pair.{Pair}
use Rattle.st03_grammar.specs.declared.bodies.PeriodicRow.{PeriodicRow}
use Rattle.st03_grammar.specs.declared.bodies.Request03.{Request03}
use Rattle.st03_grammar.specs.declared.bodies.Request03.TheVariants.{Create, Append, OnEach, Intervals}
use Rattle.st03_grammar.specs.declared.bodies.Report03.{Report03}
use Rattle.st03_grammar.specs.declared.bodies.Report03.TheVariants as told
use Rattle.st04_grammar.specs.Spelling as st04
use Rattle.st04_grammar.specs.declared.bodies.StatRow.{StatRow}
use Rattle.st04_grammar.specs.declared.bodies.Request04.{Request04}
use Rattle.st04_grammar.specs.declared.bodies.Request04.TheVariants as ask04
use Rattle.st04_grammar.specs.declared.bodies.Report04.{Report04}
use Rattle.st04_grammar.specs.declared.bodies.Report04.TheVariants as told04
use Rattle.st20_grammar.specs.Spelling as st20
use Rattle.st20_grammar.specs.declared.bodies.Setting.{Setting}
use Rattle.st20_grammar.specs.declared.bodies.Request20.{Request20}
use Rattle.st20_grammar.specs.declared.bodies.Request20.TheVariants as ask20
use Rattle.pus_messages.specs.Spelling.{IsRequestBody, IsReportBody, request_body_octets, report_body_octets, HasRoom}
use Rattle.pus_messages.specs.declared.message.RequestBody.{RequestBody}
use Rattle.pus_messages.specs.declared.message.RequestBody.TheVariants as ask
use Rattle.pus_messages.specs.declared.message.ReportBody.{ReportBody}
use Rattle.pus_messages.specs.declared.message.ReportBody.TheVariants as tell

-- so many members of at most 1,024 octets each
flat_most : {A : Type 0} (spell : A → List ℕ) (xs : List A) → AllByRecursion (λ x. length (spell x) ≤ 1024) xs → length (flat_map spell xs) ≤ length xs * 1024
flat_most spell [] all = omega arith
flat_most spell (x ∷ xs) all = omega (arith, length-append (spell x) (flat_map spell xs), all.0, flat_most spell xs all.1)

each_most : {A : Type 0} (spell : A → List ℕ) (xs : List A) → ((x : A) → length (spell x) ≤ 1024) → AllByRecursion (λ x. length (spell x) ≤ 1024) xs
each_most spell [] most = tt
each_most spell (x ∷ xs) most = (most x, each_most spell xs most)

-- a count of at most 255 and so many members
counted_most : {A : Type 0} (t : TailoringParts) (spell : A → List ℕ) (xs : List A) → IsFit t → length xs ≤ 255 → AllByRecursion (λ x. length (spell x) ≤ 1024) xs
    → length (counted_octets t spell xs) ≤ 300000
counted_most t spell xs fit few all =
    omega (arith, length-append (octets_of t.widths.count_octets (length xs)) (flat_map spell xs), length-digits 256 t.widths.count_octets (length xs), fit.widths.count_octets.1, flat_most spell xs all, few)

counted_each : {A : Type 0} (t : TailoringParts) (spell : A → List ℕ) (xs : List A) → IsFit t → length xs ≤ 255 → ((x : A) → length (spell x) ≤ 1024) → length (counted_octets t spell xs) ≤ 300000
counted_each t spell xs fit few most = counted_most t spell xs fit few (each_most spell xs most)

structure_most : (t : TailoringParts) (id : ℕ) → IsFit t → length (structure_octets t id) ≤ 2
structure_most t id fit = omega (arith, length-digits 256 t.widths.structure_octets id, fit.widths.structure_octets.1)

param_most : (t : TailoringParts) (id : ℕ) → IsFit t → length (param_octets t id) ≤ 2
param_most t id fit = omega (arith, length-digits 256 t.widths.parameter_octets id, fit.widths.parameter_octets.1)

interval_most : (t : TailoringParts) (n : ℕ) → IsFit t → length (interval_octets t n) ≤ 4
interval_most t n fit = omega (arith, length-digits 256 t.widths.interval_octets n, fit.widths.interval_octets.1)

step_most : (t : TailoringParts) (n : ℕ) → IsFit t → length (st01.step_octets t n) ≤ 2
step_most t n fit = omega (arith, length-digits 256 t.widths.step_octets n, fit.widths.step_octets.1)

time_most : (t : TailoringParts) (tag : ℕ) → IsFit t → length (time_octets t tag) ≤ 7
time_most t tag fit = omega (arith, length-digits 256 (t.widths.coarse + t.widths.fine) tag, fit.widths.coarse.1, fit.widths.fine)

flag_length : (b : Bool) → length (flag_octets b) ≡ 1
flag_length true = refl
flag_length false = refl

field_most : (t : TailoringParts) (id more : ℕ) (v : ℤ) → IsFit t → length (option_map_or (λ p. signed_octets_of (p.octets + more) v) (parameter t id) []) ≤ 8 + more
field_most t id more v fit = go (parameter t id) (λ p e. (parameter-fit t id p fit e).0.shape)
  where
    go : (o : Option Param) → ((p : Param) → o ≡ Some p → IsFitShape p) → length (option_map_or (λ p. signed_octets_of (p.octets + more) v) o []) ≤ 8 + more
    go None shape = omega arith
    go (Some p) shape = let fits = shape p refl in omega (arith, length-value (p.octets + more) v, fits.octets, fits.bits.1)

value_most : (t : TailoringParts) (id : ℕ) (v : ℤ) → IsFit t → length (value_octets t id v) ≤ 8
value_most t id v fit = go (parameter t id) (λ p e. (parameter-fit t id p fit e).0.shape)
  where
    go : (o : Option Param) → ((p : Param) → o ≡ Some p → IsFitShape p) → length (option_map_or (λ p. signed_octets_of p.octets v) o []) ≤ 8
    go None shape = omega arith
    go (Some p) shape = let fits = shape p refl in omega (arith, length-value p.octets v, fits.octets, fits.bits.1)

-- a list of parameters of two octets each
params_most : (t : TailoringParts) (ids : List ℕ) → IsFit t → length (flat_map (param_octets t) ids) ≤ length ids * 2
params_most t [] fit = omega arith
params_most t (id ∷ ids) fit = omega (arith, length-append (param_octets t id) (flat_map (param_octets t) ids), param_most t id fit, params_most t ids fit)

array_most : (t : TailoringParts) (a : SuperList) → IsFit t → length a.params ≤ 255 → length (array_octets t a) ≤ 1024
array_most t a fit few =
    omega (
      arith,
      length-append (octets_of t.widths.repetition_octets a.repetition) (counted_octets t (param_octets t) a.params),
      length-digits 256 t.widths.repetition_octets a.repetition,
      fit.widths.repetition_octets.1,
      length-append (octets_of t.widths.count_octets (length a.params)) (flat_map (param_octets t) a.params),
      length-digits 256 t.widths.count_octets (length a.params),
      fit.widths.count_octets.1,
      params_most t a.params fit,
      few,
    )

arrays_most : (t : TailoringParts) (once : Bool) (interval : Option ℕ) (simple : List ℕ) (earlier arrays : List SuperList) → IsFit t → AreArrays t once interval simple earlier arrays
    → AllByRecursion (λ a. length (array_octets t a) ≤ 1024) arrays
arrays_most t once interval simple earlier [] fit are = tt
arrays_most t once interval simple earlier (a ∷ arrays) fit are = (array_most t a fit are.0.count.1, arrays_most t once interval simple (a ∷ earlier) arrays fit are.1)

lists_most : (t : TailoringParts) (once : Bool) (interval : Option ℕ) (simple : List ℕ) (arrays : List SuperList) → IsFit t → AreLists t once interval simple arrays
    → length (lists_octets t simple arrays) ≤ 600000
lists_most t once interval simple arrays fit are =
    omega (
      arith,
      length-append (counted_octets t (param_octets t) simple) (counted_octets t (array_octets t) arrays),
      counted_each t (param_octets t) simple fit are.simple_count.1 (λ id. omega (arith, param_most t id fit)),
      counted_most t (array_octets t) arrays fit are.array_count.1 (arrays_most t once interval simple [] arrays fit are.listed),
    )

-- a structure ID, and then octets
keyed_most : (t : TailoringParts) (id : ℕ) (rest : List ℕ) (most : ℕ) → IsFit t → length rest ≤ most → length (structure_octets t id ++ rest) ≤ 2 + most
keyed_most t id rest most fit small = omega (arith, length-append (structure_octets t id) rest, structure_most t id fit, small)

interval_and_most : (t : TailoringParts) (n : ℕ) (rest : List ℕ) (most : ℕ) → IsFit t → length rest ≤ most → length (interval_octets t n ++ rest) ≤ 4 + most
interval_and_most t n rest most fit small = omega (arith, length-append (interval_octets t n) rest, interval_most t n fit, small)

flag_and_most : (b : Bool) (rest : List ℕ) (most : ℕ) → length rest ≤ most → length (flag_octets b ++ rest) ≤ 1 + most
flag_and_most b rest most small = omega (arith, length-append (flag_octets b) rest, flag_length b, small)

pair_most : (t : TailoringParts) → IsFit t → (p : Pair) → length (pair_octets t p) ≤ 1024
pair_most t fit p = omega (arith, keyed_most t p.id (interval_octets t p.interval) 4 fit (interval_most t p.interval fit))

row_most : (t : TailoringParts) → IsFit t → (r : PeriodicRow) → length (st03.row_octets t r) ≤ 1024
row_most t fit r =
    omega (
      arith,
      keyed_most t r.id (flag_octets r.enabled ++ interval_octets t r.interval) 5 fit
          (omega (arith, flag_and_most r.enabled (interval_octets t r.interval) 4 (interval_most t r.interval fit))),
    )

housekeeping_request : (t : TailoringParts) (r : Request03) → IsFit t → IsRequest03 t r → length (st03.request_octets t r) ≤ 1000000
housekeeping_request t (Create key d) fit is =
    omega (
      arith,
      keyed_most t key.id (interval_octets t d.interval ++ lists_octets t d.simple d.arrays) 600004 fit
          (omega (arith, interval_and_most t d.interval (lists_octets t d.simple d.arrays) 600000 fit (lists_most t false (Some d.interval) d.simple d.arrays fit is.2))),
    )
housekeeping_request t (Append key a) fit is = omega (arith, keyed_most t key.id (lists_octets t a.simple a.arrays) 600000 fit (lists_most t false None a.simple a.arrays fit is.1))
housekeeping_request t (OnEach each kind ids) fit is = omega (arith, counted_each t (structure_octets t) ids fit is.0.1 (λ id. omega (arith, structure_most t id fit)))
housekeeping_request t (Intervals kind pairs) fit is = omega (arith, counted_each t (pair_octets t) pairs fit is.0.1 (pair_most t fit))

ids_most : (t : TailoringParts) (ids : List ℕ) → IsFit t → length ids ≤ 255 → length (counted_octets t (param_octets t) ids) ≤ 300000
ids_most t ids fit few = counted_each t (param_octets t) ids fit few (λ id. omega (arith, param_most t id fit))

statistics_request : (t : TailoringParts) (r : Request04) → IsFit t → st04.IsRequest t r → length (st04.request_octets t r) ≤ 1000000
statistics_request t (ask04.Report resets) fit is = omega (arith, flag_length resets)
statistics_request t ask04.Reset fit is = omega arith
statistics_request t (ask04.Enable n) fit is = omega (arith, interval_most t n fit)
statistics_request t ask04.Disable fit is = omega arith
statistics_request t (ask04.Add ids) fit is = omega (arith, ids_most t ids fit is.count.1)
statistics_request t (ask04.Delete ids) fit is = omega (arith, ids_most t ids fit is.count.1)
statistics_request t ask04.ShowDefinitions fit is = omega arith

setting_most : (t : TailoringParts) → IsFit t → (x : Setting) → length (st20.setting_octets t x) ≤ 1024
setting_most t fit x = omega (arith, length-append (param_octets t x.param) (value_octets t x.param x.value), param_most t x.param fit, value_most t x.param x.value fit)

value_request : (t : TailoringParts) (r : Request20) → IsFit t → st20.IsRequest t r → length (st20.request_octets t r) ≤ 1000000
value_request t (ask20.Report ids) fit is = omega (arith, ids_most t ids fit is.count.1)
value_request t (ask20.Set settings) fit is = omega (arith, counted_each t (st20.setting_octets t) settings fit is.count.1 (setting_most t fit))

-- the body of a request of the grammar
pub request_most : (t : TailoringParts) (b : RequestBody) → IsFit t → IsRequestBody t b → length (request_body_octets t b) ≤ 2 ^ 31
request_most t (ask.Hk r) fit is = omega (arith, housekeeping_request t r fit is)
request_most t (ask.Stat r) fit is = omega (arith, statistics_request t r fit is)
request_most t (ask.Par r) fit is = omega (arith, value_request t r fit is)

cause_length : (c : Cause) → length (st01.cause_octets c) ≡ 6
cause_length c = omega (arith, length-append (octets_of 2 c.code) (octets_of 4 c.detail), length-digits 256 2 c.code, length-digits 256 4 c.detail)

id_and_most : (id : RequestId) (rest : List ℕ) (most : ℕ) → length rest ≤ most → length (st01.id_octets id ++ rest) ≤ 4 + most
id_and_most id rest most small = omega (arith, length-append (octets_of 4 id.word) rest, length-digits 256 4 id.word, small)

failure_length : (id : RequestId) (c : Cause) → length (st01.id_octets id ++ st01.cause_octets c) ≤ 10
failure_length id c = id_and_most id (st01.cause_octets c) 6 (omega (arith, cause_length c))

verification_most : (t : TailoringParts) (v : Verification) → IsFit t → st01.IsVerification t v → length (st01.verification_octets t v) ≤ 1000000
verification_most t (Accepted id) fit is = omega (arith, length-digits 256 4 id.word)
verification_most t (Refused id cause) fit is = omega (arith, failure_length id cause)
verification_most t (Started id) fit is = omega (arith, length-digits 256 4 id.word)
verification_most t (NotStarted id cause) fit is = omega (arith, failure_length id cause)
verification_most t (Step id step) fit is = omega (arith, id_and_most id (st01.step_octets t step) 2 (step_most t step fit))
verification_most t (StepFailed id step cause) fit is =
    omega (
      arith,
      id_and_most id (st01.step_octets t step ++ st01.cause_octets cause) 8
          (omega (arith, length-append (st01.step_octets t step) (st01.cause_octets cause), step_most t step fit, cause_length cause)),
    )
verification_most t (Completed id) fit is = omega (arith, length-digits 256 4 id.word)
verification_most t (Incomplete id code steps) fit is =
    omega (
      arith,
      id_and_most id (octets_of 2 code ++ counted_octets t (st01.step_octets t) steps) 300002
          (omega (
            arith,
            length-append (octets_of 2 code) (counted_octets t (st01.step_octets t) steps),
            length-digits 256 2 code,
            counted_each t (st01.step_octets t) steps fit is.3 (λ step. omega (arith, step_most t step fit)),
          )),
    )
verification_most t (NotRouted id cause) fit is = omega (arith, failure_length id cause)

housekeeping_report : (t : TailoringParts) (r : Report03) → IsFit t → IsReport03 t r → HasRoom (tell.Hk r) → length (st03.report_octets t r) ≤ 2 ^ 31
housekeeping_report t (told.Structure key s) fit is room =
    omega (
      arith,
      keyed_most t key.id (flag_octets s.enabled ++ (interval_octets t s.def.interval ++ lists_octets t s.def.simple s.def.arrays)) 600005 fit
          (omega (
            arith,
            flag_and_most s.enabled (interval_octets t s.def.interval ++ lists_octets t s.def.simple s.def.arrays) 600004
                (omega (arith, interval_and_most t s.def.interval (lists_octets t s.def.simple s.def.arrays) 600000 fit (lists_most t true (Some s.def.interval) s.def.simple s.def.arrays fit is.2))),
          )),
    )
housekeeping_report t (told.Values key payload) fit is room = omega (arith, keyed_most t key.id payload (2 ^ 30) fit room)
housekeeping_report t (told.Periodic kind rows) fit is room = omega (arith, counted_each t (st03.row_octets t) rows fit is.0.1 (row_most t fit))

stat_row_most : (t : TailoringParts) → IsFit t → (r : StatRow) → length (st04.row_octets t r) ≤ 1024
stat_row_most t fit r =
    let mean = mean_octets t r.param r.mean in
    let last = time_octets t r.min_time ++ mean in
    let min = value_octets t r.param r.min ++ last in
    let times = time_octets t r.max_time ++ min in
    let max = value_octets t r.param r.max ++ times in
    omega (
      arith,
      length-append (param_octets t r.param) (octets_of 4 r.count ++ max),
      length-append (octets_of 4 r.count) max,
      length-append (value_octets t r.param r.max) times,
      length-append (time_octets t r.max_time) min,
      length-append (value_octets t r.param r.min) last,
      length-append (time_octets t r.min_time) mean,
      param_most t r.param fit,
      length-digits 256 4 r.count,
      value_most t r.param r.max fit,
      time_most t r.max_time fit,
      value_most t r.param r.min fit,
      time_most t r.min_time fit,
      field_most t r.param t.widths.mean_fraction r.mean fit,
      fit.widths.mean_fraction,
    )

statistics_report : (t : TailoringParts) (r : Report04) → IsFit t → st04.IsReport t r → length (st04.report_octets t r) ≤ 1000000
statistics_report t (told04.Statistics r) fit is =
    let rows = counted_octets t (st04.row_octets t) r.rows in
    omega (
      arith,
      length-append (time_octets t r.start) (time_octets t r.end ++ rows),
      length-append (time_octets t r.end) rows,
      time_most t r.start fit,
      time_most t r.end fit,
      counted_each t (st04.row_octets t) r.rows fit is.rows.count.1 (stat_row_most t fit),
    )
statistics_report t (told04.Definitions enabled n ids) fit is =
    omega (
      arith,
      flag_and_most enabled (interval_octets t n ++ counted_octets t (param_octets t) ids) 300004
          (omega (arith, interval_and_most t n (counted_octets t (param_octets t) ids) 300000 fit (ids_most t ids fit is.1.count.1))),
    )

-- the body of a report of the grammar
pub report_most : (t : TailoringParts) (b : ReportBody) → IsFit t → IsReportBody t b → HasRoom b → length (report_body_octets t b) ≤ 2 ^ 31
report_most t (tell.Verify v) fit is room = omega (arith, verification_most t v fit is)
report_most t (tell.Hk r) fit is room = housekeeping_report t r fit is room
report_most t (tell.Stat r) fit is room = omega (arith, statistics_report t r fit is)
report_most t (tell.Par r) fit is room = omega (arith, counted_each t (st20.setting_octets t) r.pairs fit is.count.1 (setting_most t fit))
