-- Statistics requests and reports are read from their spelling, and from no other octets.
use Rattle.std.proofs.Common.{arith, ◌≡◌, refl, sym, ap, subst, ◌∙◌, ℕ, ◌+◌, ◌^◌, ◌<◌, ◌≤◌, List, [], ◌∷◌, ◌++◌, length, Bool, false, Option, Some, None, Ok, Err}
use Rattle.std.specs.Prelude.{ℤ, ◌==◌, IfSome, IsSome, is_some}
use Rattle.std.specs.List.{AllByRecursion}
use Rattle.std.specs.Option.{option_or, option_map_or}
use Rattle.std.proofs.lemmas.Option.{none-some}
use Rattle.std.proofs.lemmas.Bool.Decides.{nat_tests}
use Rattle.hk_base.specs.TailoringParts.{TailoringParts}
use Rattle.hk_base.specs.Fields.{octets_of, signed_octets_of}
use Rattle.hk_base.specs.Parameters.{parameter}
use Rattle.hk_base.specs.Fit.{IsFit}
use Rattle.body_fields.specs.Reading.{Read, then_read, fault_if, octets_field, uint, counted_list, param_fault, interval_field, flag_field, time_field, form_number, value_of_field}
use Rattle.body_fields.specs.Spelling.{Reads, AllRead, AllStand, AllAmong, AreOctets, IsCount, IsInOctets, IsInterval, IsValueOf, counted_octets, param_octets, interval_octets, flag_octets, time_octets, value_octets, mean_octets}
use Rattle.hk_base.specs.declared.types.Param.{Param}
use Rattle.body_fields.specs.declared.fault.BodyFault.{BodyFault}
use Rattle.body_fields.specs.declared.fault.BodyFault.TheVariants.{ZeroCount, UnknownParam}
use Rattle.body_fields.proofs.ReadingLemmas.{reads-then, reads-map, reads-check, reads-uint, reads-flag, reads-counted, whole-reads}
use Rattle.body_fields.proofs.ValueLemmas.{reads-field, length-value, value-again}
use Rattle.body_fields.proofs.FitLemmas.{param_known, param_in_octets}
use Rattle.body_fields.proofs.NamedLemmas.{reads-ids, ids_known, took-id, all_stand, ids_stand, reads-value_of, took-value_of}
use Rattle.body_fields.proofs.TakingLemmas.{Took, IsSpelled, took-then, took-map, took-weaken, took-check, took-octets, took-uint, took-flag, took-counted, value-spelled, no_fault, body-took}
use Rattle.body_fields.proofs.IntervalLemmas.{reads-interval, took-interval}
use Rattle.st04_grammar.specs.Bodies.{numeric_fault, form_fault, numeric_field, numeric_ids, mean_field, samples_field, row_field, report_request, enable_request, add_request, delete_request, statistics_report, definition_report, request_table, report_table, request_body, report_body}
use Rattle.st04_grammar.specs.Spelling.{request_subtype, request_octets, report_subtype, row_octets, statistics_octets, definition_octets, report_octets, ids_of, IsTime, IsMeanOf, IsRow, IsKnownRow, AreRows, AreNumericIds, IsStatistics, IsRequest, IsReport}
use Rattle.st04_grammar.specs.declared.bodies.Request04.{Request04}
use Rattle.st04_grammar.specs.declared.bodies.Request04.TheVariants.{Report, Reset, Enable, Disable, Add, Delete, ShowDefinitions}
use Rattle.st04_grammar.specs.declared.bodies.StatRow.{StatRow}
use Rattle.st04_grammar.specs.declared.bodies.StatReport.{StatReport}
use Rattle.st04_grammar.specs.declared.bodies.Report04.{Report04}
use Rattle.st04_grammar.specs.declared.bodies.Report04.TheVariants as told

-- a parameter with numbers is a known one
numeric_is_known : (t : TailoringParts) (earlier : List ℕ) (id : ℕ) → numeric_fault t earlier id ≡ None → param_fault t earlier id ≡ None
numeric_is_known t earlier id e = go (param_fault t earlier id) refl e
  where
    go : (o : Option BodyFault) → param_fault t earlier id ≡ o → option_or o (form_fault t id) ≡ None → param_fault t earlier id ≡ None
    go None is h = is
    go (Some fault) is h = absurd (none-some fault (sym h))

-- lists of IDs that stand can be written
pub numeric_known : (t : TailoringParts) (least : ℕ) (ids : List ℕ) → AreNumericIds t least ids → AllByRecursion (λ id. IsSome (parameter t id)) ids
numeric_known t least ids are = ids_known t (numeric_fault t) [] ids (numeric_is_known t) are.stand

-- lists of IDs
reads-numeric : (t : TailoringParts) (least : ℕ) (ids : List ℕ) → IsFit t → AreNumericIds t least ids → Reads (numeric_ids t least) (counted_octets t (param_octets t) ids) ids
reads-numeric t least ids fit are =
    reads-counted t least (numeric_field t) (param_octets t) ids are.count.0 are.count.1 are.count.2
    (reads-ids t (numeric_fault t) [] ids (λ before id fine. param_in_octets t before id fit (numeric_is_known t before id fine)) are.stand)

took-numeric : (t : TailoringParts) (least : ℕ) (octets : List ℕ) → AreOctets octets
    → Took (λ ids text. (text ≡ counted_octets t (param_octets t) ids) × AreNumericIds t least ids) octets (numeric_ids t least octets)
took-numeric t least octets are =
    took-weaken (λ ids text. (text ≡ counted_octets t (param_octets t) ids) × IsCount t least (length ids) × AllAmong (λ before id. numeric_fault t before id ≡ None) [] ids)
    (λ ids text. (text ≡ counted_octets t (param_octets t) ids) × AreNumericIds t least ids) octets (numeric_ids t least octets)
    (took-counted t least (numeric_field t) (param_octets t) (λ before id. numeric_fault t before id ≡ None)
    (λ earlier o are_o. took-id t (numeric_fault t) earlier o are_o) octets are)
    (λ ids text h. (h.0, record { count = h.1; stand = ids_stand (numeric_fault t) [] ids h.2 }))

-- means
mean_known : (t : TailoringParts) (o : Option Param) (p : Param) (v : ℤ) → o ≡ Some p → IfSome o (λ q. IsInOctets q.form (q.octets + t.widths.mean_fraction) v)
    → IsInOctets p.form (p.octets + t.widths.mean_fraction) v
mean_known t o p v e is = subst (λ x. IfSome x (λ q. IsInOctets q.form (q.octets + t.widths.mean_fraction) v)) e is

reads-mean : (t : TailoringParts) (id : ℕ) (v : ℤ) (p : Param) → parameter t id ≡ Some p → IsMeanOf t id v → Reads (mean_field t id) (mean_octets t id v) v
reads-mean t id v p e is rest =
    let width = p.octets + t.widths.mean_fraction in
    let within : IsInOctets p.form width v = mean_known t (parameter t id) p v e is in
    let field = reads-field width (signed_octets_of width v) (length-value width v) rest in
    rw (e, field, value-again p.form width v within) refl

took-mean : (t : TailoringParts) (id : ℕ) (octets : List ℕ) → AreOctets octets → Took (λ v text. (text ≡ mean_octets t id v) × IsMeanOf t id v) octets (mean_field t id octets)
took-mean t id octets are = go (parameter t id)
  where
    go : (o : Option Param)
        → Took (λ v text. (text ≡ option_map_or (λ p. signed_octets_of (p.octets + t.widths.mean_fraction) v) o []) × IfSome o (λ p. IsInOctets p.form (p.octets + t.widths.mean_fraction) v))
        octets (option_map_or (λ p. then_read (octets_field (p.octets + t.widths.mean_fraction) octets) (λ field rest. Ok (form_number p.form field, rest))) o (Err (UnknownParam id)))
    go None = tt
    go (Some p) =
        let width = p.octets + t.widths.mean_fraction in
        took-map (λ field text. (text ≡ field) × (length field ≡ width) × AreOctets field)
        (λ v text. (text ≡ signed_octets_of width v) × IsInOctets p.form width v) octets (octets_field width octets) (form_number p.form)
        (took-octets width octets are)
        (λ field text h. let spelled = value-spelled p.form width field h.1 h.2 in (h.0 ∙ sym spelled.0, spelled.1))

-- numbers of samples
samples_stand : (n : ℕ) → 1 ≤ n → fault_if (n == 0) ZeroCount ≡ None
samples_stand n some = let test : n == 0 ≡ false = grind (arith, nat_tests) in rw test refl

took-samples : (octets : List ℕ) → AreOctets octets → Took (λ n text. (text ≡ octets_of 4 n) × (1 ≤ n) × (n < 256 ^ 4)) octets (samples_field octets)
took-samples octets are =
    took-weaken (λ n text. IsSpelled 4 n text × (fault_if (n == 0) ZeroCount ≡ None)) (λ n text. (text ≡ octets_of 4 n) × (1 ≤ n) × (n < 256 ^ 4)) octets (samples_field octets)
    (took-check (IsSpelled 4) (λ n. fault_if (n == 0) ZeroCount) octets (uint 4 octets) (took-uint 4 octets are))
    (λ n text h. (h.0.0, some n (no_fault (n == 0) ZeroCount h.1), h.0.1))
  where
    some : (n : ℕ) → n == 0 ≡ false → 1 ≤ n
    some n e = grind (arith, nat_tests)

-- the fields of a row behind others
abbrev row : ℕ → ℕ → ℤ → ℕ → ℤ → ℕ → ℤ → StatRow
row id count max max_time min min_time mean =
    record { param = id; count = count; max = max; max_time = max_time; min = min; min_time = min_time; mean = mean }

abbrev from_mean : TailoringParts → ℕ → ℕ → ℤ → ℕ → ℤ → ℕ → List ℕ → Read StatRow
from_mean t id count max max_time min min_time o = then_read (mean_field t id o) (λ mean end. Ok (row id count max max_time min min_time mean, end))

abbrev from_min_time : TailoringParts → ℕ → ℕ → ℤ → ℕ → ℤ → List ℕ → Read StatRow
from_min_time t id count max max_time min o = then_read (time_field t o) (λ min_time rest. from_mean t id count max max_time min min_time rest)

abbrev from_min : TailoringParts → ℕ → ℕ → ℤ → ℕ → List ℕ → Read StatRow
from_min t id count max max_time o = then_read (value_of_field t id o) (λ min rest. from_min_time t id count max max_time min rest)

abbrev from_max_time : TailoringParts → ℕ → ℕ → ℤ → List ℕ → Read StatRow
from_max_time t id count max o = then_read (time_field t o) (λ max_time rest. from_min t id count max max_time rest)

abbrev from_max : TailoringParts → ℕ → ℕ → List ℕ → Read StatRow
from_max t id count o = then_read (value_of_field t id o) (λ max rest. from_max_time t id count max rest)

abbrev from_count : TailoringParts → ℕ → List ℕ → Read StatRow
from_count t id o = then_read (samples_field o) (λ count rest. from_max t id count rest)

-- a row is read from its spelling
reads-row : (t : TailoringParts) (earlier : List StatRow) (r : StatRow) → IsFit t → numeric_fault t (ids_of earlier) r.param ≡ None → IsRow t r
    → Reads (row_field t earlier) (row_octets t r) r
reads-row t earlier r fit stands is =
    let fine = numeric_is_known t (ids_of earlier) r.param stands in
    let known = param_known t (ids_of earlier) r.param fine in
    let seventh = mean_octets t r.param r.mean in
    let sixth = time_octets t r.min_time ++ seventh in
    let fifth = value_octets t r.param r.min ++ sixth in
    let fourth = time_octets t r.max_time ++ fifth in
    let third = value_octets t r.param r.max ++ fourth in
    let second = octets_of 4 r.count ++ third in
    reads-then (numeric_field t (ids_of earlier)) (λ id rest. from_count t id rest) (param_octets t r.param) second r.param r
    (reads-check (numeric_fault t (ids_of earlier)) (uint t.widths.parameter_octets) (param_octets t r.param) r.param
    (reads-uint t.widths.parameter_octets r.param (param_in_octets t (ids_of earlier) r.param fit fine)) stands)
    (reads-then samples_field (λ count rest. from_max t r.param count rest) (octets_of 4 r.count) third r.count r
    (reads-check (λ n. fault_if (n == 0) ZeroCount) (uint 4) (octets_of 4 r.count) r.count (reads-uint 4 r.count is.count.1) (samples_stand r.count is.count.0))
    (reads-then (value_of_field t r.param) (λ max rest. from_max_time t r.param r.count max rest) (value_octets t r.param r.max) fourth r.max r
    (reads-value_of t r.param r.max known.0 fit known.1 is.max)
    (reads-then (time_field t) (λ max_time rest. from_min t r.param r.count r.max max_time rest) (time_octets t r.max_time) fifth r.max_time r
    (reads-uint (t.widths.coarse + t.widths.fine) r.max_time is.max_time)
    (reads-then (value_of_field t r.param) (λ min rest. from_min_time t r.param r.count r.max r.max_time min rest) (value_octets t r.param r.min) sixth r.min r
    (reads-value_of t r.param r.min known.0 fit known.1 is.min)
    (reads-then (time_field t) (λ min_time rest. from_mean t r.param r.count r.max r.max_time r.min min_time rest) (time_octets t r.min_time) seventh r.min_time r
    (reads-uint (t.widths.coarse + t.widths.fine) r.min_time is.min_time)
    (reads-map (mean_field t r.param) (λ mean. row r.param r.count r.max r.max_time r.min r.min_time mean) seventh r.mean
    (reads-mean t r.param r.mean known.0 known.1 is.mean)))))))

reads-rows : (t : TailoringParts) (earlier rows : List StatRow) → IsFit t → AllStand (numeric_fault t) (ids_of earlier) (ids_of rows) → AllByRecursion (IsRow t) rows
    → AllRead (row_field t) (row_octets t) earlier rows
reads-rows t earlier [] fit stand each = tt
reads-rows t earlier (r ∷ rows) fit stand each = (reads-row t earlier r fit stand.0 each.0, reads-rows t (r ∷ earlier) rows fit stand.1 each.1)

abbrev report_from : TailoringParts → ℕ → List ℕ → Read Report04
report_from t start o = then_read (time_field t o) (λ stop rest. then_read (counted_list t 0 (row_field t) rest) (λ rows end. Ok (told.Statistics (record { start = start; end = stop; rows = rows }), end)))

reads-statistics : (t : TailoringParts) (r : StatReport) → IsFit t → IsStatistics t r → Reads (statistics_report t) (statistics_octets t r) (told.Statistics r)
reads-statistics t r fit is =
    reads-then (time_field t) (λ start rest. report_from t start rest) (time_octets t r.start) (time_octets t r.end ++ counted_octets t (row_octets t) r.rows) r.start (told.Statistics r)
    (reads-uint (t.widths.coarse + t.widths.fine) r.start is.start)
    (reads-then (time_field t) (λ stop rest. then_read (counted_list t 0 (row_field t) rest) (λ rows end. Ok (told.Statistics (record { start = r.start; end = stop; rows = rows }), end)))
    (time_octets t r.end) (counted_octets t (row_octets t) r.rows) r.end (told.Statistics r)
    (reads-uint (t.widths.coarse + t.widths.fine) r.end is.stop)
    (reads-map (counted_list t 0 (row_field t)) (λ rows. told.Statistics (record { start = r.start; end = r.end; rows = rows })) (counted_octets t (row_octets t) r.rows) r.rows
    (reads-counted t 0 (row_field t) (row_octets t) r.rows is.rows.count.0 is.rows.count.1 is.rows.count.2
    (reads-rows t [] r.rows fit is.rows.ids is.rows.each))))

reads-definition : (t : TailoringParts) (enabled : Bool) (n : ℕ) (ids : List ℕ) → IsFit t → IsInterval t n → AreNumericIds t 0 ids
    → Reads (definition_report t) (definition_octets t enabled n ids) (told.Definitions enabled n ids)
reads-definition t enabled n ids fit interval are =
    reads-then flag_field (λ b rest. then_read (interval_field t rest) (λ m more. then_read (numeric_ids t 0 more) (λ xs end. Ok (told.Definitions b m xs, end))))
    (flag_octets enabled) (interval_octets t n ++ counted_octets t (param_octets t) ids) enabled (told.Definitions enabled n ids)
    (reads-flag enabled)
    (reads-then (interval_field t) (λ m more. then_read (numeric_ids t 0 more) (λ xs end. Ok (told.Definitions enabled m xs, end)))
    (interval_octets t n) (counted_octets t (param_octets t) ids) n (told.Definitions enabled n ids)
    (reads-interval t n interval)
    (reads-map (numeric_ids t 0) (λ xs. told.Definitions enabled n xs) (counted_octets t (param_octets t) ids) ids (reads-numeric t 0 ids fit are)))

-- a request of the grammar is read from its spelling
pub request-again : (t : TailoringParts) (v : Request04) → IsFit t → IsRequest t v → request_body t (request_subtype v) (request_octets t v) ≡ Some (Ok v)
request-again t (Report resets) fit is =
    ap Some (whole-reads report_request (flag_octets resets) (Report resets) (reads-map flag_field Report (flag_octets resets) resets (reads-flag resets)))
request-again t Reset fit is = refl
request-again t (Enable n) fit is =
    ap Some (whole-reads (enable_request t) (interval_octets t n) (Enable n) (reads-map (interval_field t) Enable (interval_octets t n) n (reads-interval t n is)))
request-again t Disable fit is = refl
request-again t (Add ids) fit is =
    ap Some
    (whole-reads (add_request t) (counted_octets t (param_octets t) ids) (Add ids) (reads-map (numeric_ids t 1) Add (counted_octets t (param_octets t) ids) ids (reads-numeric t 1 ids fit is)))
request-again t (Delete ids) fit is =
    ap Some
    (whole-reads (delete_request t) (counted_octets t (param_octets t) ids) (Delete ids) (reads-map (numeric_ids t 0) Delete (counted_octets t (param_octets t) ids) ids (reads-numeric t 0 ids fit is)))
request-again t ShowDefinitions fit is = refl

-- a report of the grammar is read from its spelling
pub report-again : (t : TailoringParts) (v : Report04) → IsFit t → IsReport t v → report_body t (report_subtype v) (report_octets t v) ≡ Some (Ok v)
report-again t (told.Statistics r) fit is = ap Some (whole-reads (statistics_report t) (statistics_octets t r) (told.Statistics r) (reads-statistics t r fit is))
report-again t (told.Definitions enabled n ids) fit is =
    ap Some (whole-reads (definition_report t) (definition_octets t enabled n ids) (told.Definitions enabled n ids) (reads-definition t enabled n ids fit is.0 is.1))

each_known : (t : TailoringParts) (earlier rows : List StatRow) → AllStand (numeric_fault t) (ids_of earlier) (ids_of rows) → AllByRecursion (IsRow t) rows → AllByRecursion (IsKnownRow t) rows
each_known t earlier [] stand each = tt
each_known t earlier (r ∷ rows) stand each =
    let known = param_known t (ids_of earlier) r.param (numeric_is_known t (ids_of earlier) r.param stand.0) in
    (record { known = ap is_some known.1; row = each.0 }, each_known t (r ∷ earlier) rows stand.1 each.1)

-- rows that can stand in a body can be written
pub rows_known : (t : TailoringParts) (rows : List StatRow) → AreRows t rows → AllByRecursion (IsKnownRow t) rows
rows_known t rows are = each_known t [] rows are.ids are.each

-- the fields of a row are its spelling
seven : (a b c d e f g a' b' c' d' e' f' g' : List ℕ) → a ≡ a' → b ≡ b' → c ≡ c' → d ≡ d' → e ≡ e' → f ≡ f' → g ≡ g'
    → a ++ (b ++ (c ++ (d ++ (e ++ (f ++ g))))) ≡ a' ++ (b' ++ (c' ++ (d' ++ (e' ++ (f' ++ g')))))
seven a b c d e f g a' b' c' d' e' f' g' p q r s u v w = cc

three : (a b c a' b' c' : List ℕ) → a ≡ a' → b ≡ b' → c ≡ c' → a ++ (b ++ c) ≡ a' ++ (b' ++ c')
three a b c a' b' c' p q r = cc

-- a row that stands among those before it
abbrev IsRowAmong : TailoringParts → List StatRow → StatRow → Type 0
IsRowAmong t earlier r = (numeric_fault t (ids_of earlier) r.param ≡ None) × IsRow t r

took-time : (t : TailoringParts) (octets : List ℕ) → AreOctets octets → Took (λ tag text. (text ≡ time_octets t tag) × IsTime t tag) octets (time_field t octets)
took-time t octets are = took-uint (t.widths.coarse + t.widths.fine) octets are

-- a row that was read stands, and stood in its spelling
took-row : (t : TailoringParts) (earlier : List StatRow) (octets : List ℕ) → AreOctets octets
    → Took (λ r text. (text ≡ row_octets t r) × IsRowAmong t earlier r) octets (row_field t earlier octets)
took-row t earlier octets are =
    took-then (λ id text. (text ≡ param_octets t id) × (numeric_fault t (ids_of earlier) id ≡ None)) whole octets
    (numeric_field t (ids_of earlier) octets) (λ id rest. from_count t id rest) are (took-id t (numeric_fault t) (ids_of earlier) octets are)
    (λ id x1 o1 h1 a1.
    took-then (λ n text. (text ≡ octets_of 4 n) × (1 ≤ n) × (n < 256 ^ 4)) (λ r m. whole r (x1 ++ m)) o1
    (samples_field o1) (λ count rest. from_max t id count rest) a1 (took-samples o1 a1)
    (λ count x2 o2 h2 a2.
    took-then (λ v text. (text ≡ value_octets t id v) × IsValueOf t id v) (λ r m. whole r (x1 ++ (x2 ++ m))) o2
    (value_of_field t id o2) (λ max rest. from_max_time t id count max rest) a2 (took-value_of t id o2 a2)
    (λ max x3 o3 h3 a3.
    took-then (λ tag text. (text ≡ time_octets t tag) × IsTime t tag) (λ r m. whole r (x1 ++ (x2 ++ (x3 ++ m)))) o3
    (time_field t o3) (λ max_time rest. from_min t id count max max_time rest) a3 (took-time t o3 a3)
    (λ max_time x4 o4 h4 a4.
    took-then (λ v text. (text ≡ value_octets t id v) × IsValueOf t id v) (λ r m. whole r (x1 ++ (x2 ++ (x3 ++ (x4 ++ m))))) o4
    (value_of_field t id o4) (λ min rest. from_min_time t id count max max_time min rest) a4 (took-value_of t id o4 a4)
    (λ min x5 o5 h5 a5.
    took-then (λ tag text. (text ≡ time_octets t tag) × IsTime t tag) (λ r m. whole r (x1 ++ (x2 ++ (x3 ++ (x4 ++ (x5 ++ m)))))) o5
    (time_field t o5) (λ min_time rest. from_mean t id count max max_time min min_time rest) a5 (took-time t o5 a5)
    (λ min_time x6 o6 h6 a6.
    took-map (λ v text. (text ≡ mean_octets t id v) × IsMeanOf t id v) (λ r m. whole r (x1 ++ (x2 ++ (x3 ++ (x4 ++ (x5 ++ (x6 ++ m))))))) o6
    (mean_field t id o6) (λ mean. row id count max max_time min min_time mean) (took-mean t id o6 a6)
    (λ mean x7 h7. (
      seven x1 x2 x3 x4 x5 x6 x7 (param_octets t id) (octets_of 4 count) (value_octets t id max) (time_octets t max_time) (value_octets t id min) (time_octets t min_time) (mean_octets t id mean)
          h1.0 h2.0 h3.0 h4.0 h5.0 h6.0 h7.0,
      (h1.1, record { count = (h2.1, h2.2); max = h3.1; max_time = h4.1; min = h5.1; min_time = h6.1; mean = h7.1 }),
    ))))))))
  where
    whole : StatRow → List ℕ → Type 0
    whole r text = (text ≡ row_octets t r) × IsRowAmong t earlier r

rows_are : (t : TailoringParts) (rows : List StatRow) → IsCount t 0 (length rows) × AllAmong (IsRowAmong t) [] rows → AreRows t rows
rows_are t rows h = record {
  count = h.0;
  ids = all_stand (numeric_fault t) (λ r. r.param) (IsRowAmong t) [] rows (λ before r stands. stands.0) h.1;
  each = each_row [] rows h.1;
}
  where
    each_row : (earlier rows : List StatRow) → AllAmong (IsRowAmong t) earlier rows → AllByRecursion (IsRow t) rows
    each_row earlier [] all = tt
    each_row earlier (r ∷ rows) all = (all.0.1, each_row (r ∷ earlier) rows all.1)

took-statistics : (t : TailoringParts) (octets : List ℕ) → AreOctets octets
    → Took (λ v text. (2 ≡ report_subtype v) × (text ≡ report_octets t v) × IsReport t v) octets (statistics_report t octets)
took-statistics t octets are =
    took-then (λ tag text. (text ≡ time_octets t tag) × IsTime t tag) (λ v text. (2 ≡ report_subtype v) × (text ≡ report_octets t v) × IsReport t v) octets
    (time_field t octets) (λ start rest. report_from t start rest) are (took-time t octets are)
    (λ start x1 o1 h1 a1.
    took-then (λ tag text. (text ≡ time_octets t tag) × IsTime t tag) (λ v m. (2 ≡ report_subtype v) × (x1 ++ m ≡ report_octets t v) × IsReport t v) o1
    (time_field t o1) (λ stop rest. then_read (counted_list t 0 (row_field t) rest) (λ rows end. Ok (told.Statistics (record { start = start; end = stop; rows = rows }), end))) a1 (took-time t o1 a1)
    (λ stop x2 o2 h2 a2.
    took-map (λ rows text. (text ≡ counted_octets t (row_octets t) rows) × IsCount t 0 (length rows) × AllAmong (IsRowAmong t) [] rows)
    (λ v m. (2 ≡ report_subtype v) × (x1 ++ (x2 ++ m) ≡ report_octets t v) × IsReport t v) o2
    (counted_list t 0 (row_field t) o2) (λ rows. told.Statistics (record { start = start; end = stop; rows = rows }))
    (took-counted t 0 (row_field t) (row_octets t) (IsRowAmong t) (λ earlier o are_o. took-row t earlier o are_o) o2 a2)
    (λ rows x3 h3. (
      refl,
      three x1 x2 x3 (time_octets t start) (time_octets t stop) (counted_octets t (row_octets t) rows) h1.0 h2.0 h3.0,
      record { start = h1.1; stop = h2.1; rows = rows_are t rows (h3.1, h3.2) },
    ))))

took-definition : (t : TailoringParts) (octets : List ℕ) → AreOctets octets
    → Took (λ v text. (9 ≡ report_subtype v) × (text ≡ report_octets t v) × IsReport t v) octets (definition_report t octets)
took-definition t octets are =
    took-then (λ b text. text ≡ flag_octets b) (λ v text. (9 ≡ report_subtype v) × (text ≡ report_octets t v) × IsReport t v) octets
    (flag_field octets) (λ b rest. then_read (interval_field t rest) (λ n more. then_read (numeric_ids t 0 more) (λ ids end. Ok (told.Definitions b n ids, end)))) are (took-flag octets are)
    (λ b x1 o1 h1 a1.
    took-then (λ n text. (text ≡ interval_octets t n) × IsInterval t n) (λ v m. (9 ≡ report_subtype v) × (x1 ++ m ≡ report_octets t v) × IsReport t v) o1
    (interval_field t o1) (λ n more. then_read (numeric_ids t 0 more) (λ ids end. Ok (told.Definitions b n ids, end))) a1 (took-interval t o1 a1)
    (λ n x2 o2 h2 a2.
    took-map (λ ids text. (text ≡ counted_octets t (param_octets t) ids) × AreNumericIds t 0 ids)
    (λ v m. (9 ≡ report_subtype v) × (x1 ++ (x2 ++ m) ≡ report_octets t v) × IsReport t v) o2
    (numeric_ids t 0 o2) (λ ids. told.Definitions b n ids) (took-numeric t 0 o2 a2)
    (λ ids x3 h3. (refl, three x1 x2 x3 (flag_octets b) (interval_octets t n) (counted_octets t (param_octets t) ids) h1 h2.0 h3.0, (h2.1, h3.1)))))

-- a report that is read is of the grammar, and the octets are its spelling
pub report-only : (t : TailoringParts) (subtype : ℕ) (octets : List ℕ) (v : Report04) → AreOctets octets → report_body t subtype octets ≡ Some (Ok v)
    → (subtype ≡ report_subtype v) × (octets ≡ report_octets t v) × IsReport t v
report-only t subtype octets v are e =
    body-took (λ s x text. (s ≡ report_subtype x) × (text ≡ report_octets t x) × IsReport t x) (report_table t) subtype octets v are
    ((λ os are_os. took-statistics t os are_os), ((λ os are_os. took-definition t os are_os), tt)) e

-- what holds of a request that was read
abbrev IsReadRequest : TailoringParts → ℕ → Request04 → List ℕ → Type 0
IsReadRequest t s v text = (s ≡ request_subtype v) × (text ≡ request_octets t v) × IsRequest t v

-- a request that is read is of the grammar, and the octets are its spelling
pub request-only : (t : TailoringParts) (subtype : ℕ) (octets : List ℕ) (v : Request04) → AreOctets octets → request_body t subtype octets ≡ Some (Ok v)
    → (subtype ≡ request_subtype v) × (octets ≡ request_octets t v) × IsRequest t v
request-only t subtype octets v are e =
    body-took (IsReadRequest t) (request_table t) subtype octets v are (
      (λ os are_os. took-map (λ b text. text ≡ flag_octets b) (IsReadRequest t 1) os (flag_field os) Report (took-flag os are_os) (λ b text h. (refl, h, tt))),
      (
        (λ os are_os. ([], refl, (refl, refl, tt))),
        (
          (λ os are_os.
              took-map (λ n text. (text ≡ interval_octets t n) × IsInterval t n) (IsReadRequest t 4) os (interval_field t os) Enable (took-interval t os are_os) (λ n text h. (refl, h.0, h.1))),
          (
            (λ os are_os. ([], refl, (refl, refl, tt))),
            (
              (λ os are_os.
                  took-map (λ ids text. (text ≡ counted_octets t (param_octets t) ids) × AreNumericIds t 1 ids) (IsReadRequest t 6) os (numeric_ids t 1 os) Add (took-numeric t 1 os are_os)
                  (λ ids text h. (refl, h.0, h.1))),
              (
                (λ os are_os.
                    took-map (λ ids text. (text ≡ counted_octets t (param_octets t) ids) × AreNumericIds t 0 ids) (IsReadRequest t 7) os (numeric_ids t 0 os) Delete (took-numeric t 0 os are_os)
                    (λ ids text h. (refl, h.0, h.1))),
                ((λ os are_os. ([], refl, (refl, refl, tt))), tt),
              ),
            ),
          ),
        ),
      ),
    ) e
