-- The words of requests and of reports. Words are divided by one blank.
use Rattle.std.specs.Prelude.{ℕ, ◌+◌, nat_lt, List, [], ◌∷◌, ◌++◌, length, map, flat_map, Bool, true, false, codes, if◌then◌else◌}
use Rattle.std.specs.List.{join_with_byte}
use Rattle.std.specs.Fmt.{decimal, signed_decimal}
use Rattle.hk_base.specs.Fields.{digits}
use Rattle.hk_base.specs.declared.types.Kind.{Kind}
use Rattle.hk_base.specs.declared.types.Kind.TheVariants.{Housekeeping, Diagnostic}
use Rattle.hk_base.specs.declared.types.Key.{Key}
use Rattle.hk_base.specs.declared.types.SuperList.{SuperList}
use Rattle.hk_base.specs.declared.types.Definition.{Definition}
use Rattle.hk_base.specs.declared.types.RequestId.{RequestId}
use Rattle.st01_reports.specs.declared.verification.Cause.{Cause}
use Rattle.st01_reports.specs.declared.verification.Verification.{Verification}
use Rattle.st01_reports.specs.declared.verification.Verification.TheVariants as verify
use Rattle.st03_grammar.specs.declared.bodies.Each.{Each}
use Rattle.st03_grammar.specs.declared.bodies.Each.TheVariants as each
use Rattle.st03_grammar.specs.declared.bodies.Pair.{Pair}
use Rattle.st03_grammar.specs.declared.bodies.PeriodicRow.{PeriodicRow}
use Rattle.st03_grammar.specs.declared.bodies.Request03.{Request03}
use Rattle.st03_grammar.specs.declared.bodies.Request03.TheVariants.{Create, Append, OnEach, Intervals}
use Rattle.st03_grammar.specs.declared.bodies.Report03.{Report03}
use Rattle.st03_grammar.specs.declared.bodies.Report03.TheVariants as hk
use Rattle.st04_grammar.specs.declared.bodies.Request04.{Request04}
use Rattle.st04_grammar.specs.declared.bodies.Request04.TheVariants as stat
use Rattle.st04_grammar.specs.declared.bodies.Report04.{Report04}
use Rattle.st04_grammar.specs.declared.bodies.Report04.TheVariants as stat_told
use Rattle.st20_grammar.specs.declared.bodies.Setting.{Setting}
use Rattle.st20_grammar.specs.declared.bodies.Request20.{Request20}
use Rattle.st20_grammar.specs.declared.bodies.Request20.TheVariants as values
use Rattle.pus_messages.specs.declared.message.Request.{Request}
use Rattle.pus_messages.specs.declared.message.RequestBody.{RequestBody}
use Rattle.pus_messages.specs.declared.message.RequestBody.TheVariants as ask
use Rattle.pus_messages.specs.declared.message.Report.{Report}
use Rattle.pus_messages.specs.declared.message.ReportBody.{ReportBody}
use Rattle.pus_messages.specs.declared.message.ReportBody.TheVariants as tell

-- a digit to the base 16, in lower case
abbrev pub hex_digit : ℕ → ℕ
hex_digit n = if nat_lt n 10 then 48 + n else 87 + n

-- a number as so many digits to the base 16
abbrev pub hex : ℕ → ℕ → List ℕ
hex places n = map hex_digit (digits 16 places n)

-- words as a text
abbrev pub text_of_words : List (List ℕ) → List ℕ
text_of_words words = join_with_byte 32 words

-- a word for a kind of structures
abbrev pub kind_word : Kind → List ℕ
kind_word Housekeeping = codes "hk"
kind_word Diagnostic = codes "diag"

-- the words of a key
abbrev pub key_words : Key → List (List ℕ)
key_words key = kind_word key.kind ∷ decimal key.id ∷ []

-- a word and numbers after it, where there are any
abbrev pub words_if_any : List ℕ → List ℕ → List (List ℕ)
words_if_any word [] = []
words_if_any word (n ∷ ns) = word ∷ map decimal (n ∷ ns)

-- the words of an array
abbrev pub array_words : SuperList → List (List ℕ)
array_words a = codes "array" ∷ decimal a.repetition ∷ map decimal a.params

-- the words of lists
abbrev pub lists_words : List ℕ → List SuperList → List (List ℕ)
lists_words simple arrays = words_if_any (codes "simple") simple ++ flat_map array_words arrays

-- the words of a definition
abbrev pub definition_words : Definition → List (List ℕ)
definition_words d = codes "interval" ∷ decimal d.interval ∷ lists_words d.simple d.arrays

-- the words of a structure's new interval
abbrev pub pair_words : Pair → List (List ℕ)
pair_words p = decimal p.id ∷ decimal p.interval ∷ []

-- what is asked of each structure of a list
abbrev pub each_word : Each → List ℕ
each_word each.Delete = codes "delete"
each_word each.Enable = codes "enable"
each_word each.Disable = codes "disable"
each_word each.Show = codes "structures"
each_word each.OneShot = codes "oneshot"
each_word each.ShowPeriodic = codes "periodic"

-- the words of a housekeeping request
abbrev pub housekeeping_words : Request03 → List (List ℕ)
housekeeping_words (Create key d) = codes "create" ∷ key_words key ++ definition_words d
housekeeping_words (Append key a) = codes "append" ∷ key_words key ++ lists_words a.simple a.arrays
housekeeping_words (OnEach what kind ids) = each_word what ∷ kind_word kind ∷ map decimal ids
housekeeping_words (Intervals kind pairs) = codes "interval" ∷ kind_word kind ∷ flat_map pair_words pairs

-- a flag as a word
abbrev pub flag_word : Bool → List ℕ
flag_word true = codes "1"
flag_word false = codes "0"

-- parameters that are deleted, or all
abbrev pub deletion_words : List ℕ → List (List ℕ)
deletion_words [] = codes "all" ∷ []
deletion_words (id ∷ ids) = map decimal (id ∷ ids)

-- the words of a statistics request
abbrev pub statistics_words : Request04 → List (List ℕ)
statistics_words (stat.Report resets) = codes "stat-report" ∷ flag_word resets ∷ []
statistics_words stat.Reset = codes "stat-reset" ∷ []
statistics_words (stat.Enable n) = codes "stat-enable" ∷ decimal n ∷ []
statistics_words stat.Disable = codes "stat-disable" ∷ []
statistics_words (stat.Add ids) = codes "stat-add" ∷ map decimal ids
statistics_words (stat.Delete ids) = codes "stat-delete" ∷ deletion_words ids
statistics_words stat.ShowDefinitions = codes "stat-definitions" ∷ []

-- the words of a parameter's new value
abbrev pub setting_words : Setting → List (List ℕ)
setting_words x = decimal x.param ∷ signed_decimal x.value ∷ []

-- the words of a request on parameter values
abbrev pub value_words : Request20 → List (List ℕ)
value_words (values.Report ids) = codes "report-values" ∷ map decimal ids
value_words (values.Set settings) = codes "set" ∷ flat_map setting_words settings

-- the words of a request's body
abbrev pub request_body_words : RequestBody → List (List ℕ)
request_body_words (ask.Hk r) = housekeeping_words r
request_body_words (ask.Stat r) = statistics_words r
request_body_words (ask.Par r) = value_words r

-- the words of a request: its count, its flags and its body
abbrev pub request_words : Request → List (List ℕ)
request_words r = decimal r.header.count ∷ hex 1 r.header.flags ∷ request_body_words r.body

-- a request as a text
abbrev pub request_text : Request → List ℕ
request_text r = text_of_words (request_words r)

-- the words of a request ID
abbrev pub id_words : RequestId → List (List ℕ)
id_words id = codes "request" ∷ hex 8 id.word ∷ []

-- the words of a cause
abbrev pub cause_words : Cause → List (List ℕ)
cause_words cause = codes "code" ∷ decimal cause.code ∷ codes "detail" ∷ decimal cause.detail ∷ []

-- the words of a step
abbrev pub step_words : ℕ → List (List ℕ)
step_words step = codes "step" ∷ decimal step ∷ []

-- the words of a step that was refused
abbrev pub refused_words : ℕ → List (List ℕ)
refused_words step = codes "refused" ∷ decimal step ∷ []

-- the words of a verification report
abbrev pub verification_words : Verification → List (List ℕ)
verification_words (verify.Accepted id) = id_words id
verification_words (verify.Refused id cause) = id_words id ++ cause_words cause
verification_words (verify.Started id) = id_words id
verification_words (verify.NotStarted id cause) = id_words id ++ cause_words cause
verification_words (verify.Step id step) = id_words id ++ step_words step
verification_words (verify.StepFailed id step cause) = id_words id ++ (step_words step ++ cause_words cause)
verification_words (verify.Completed id) = id_words id
verification_words (verify.Incomplete id code steps) =
    id_words id ++ (codes "code" ∷ decimal code ∷ flat_map refused_words steps)
verification_words (verify.NotRouted id cause) = id_words id ++ cause_words cause

-- a status as a word
abbrev pub status_word : Bool → List ℕ
status_word true = codes "enabled"
status_word false = codes "disabled"

-- how many rows there are
abbrev pub rows_words : ℕ → List (List ℕ)
rows_words n = codes "rows" ∷ decimal n ∷ []

-- the words of the periodic properties of a structure
abbrev pub row_words : PeriodicRow → List (List ℕ)
row_words r = decimal r.id ∷ status_word r.enabled ∷ decimal r.interval ∷ []

-- the words of a housekeeping report
abbrev pub housekeeping_report_words : Report03 → List (List ℕ)
housekeeping_report_words (hk.Structure key s) = key_words key ++ (status_word s.enabled ∷ definition_words s.def)
housekeeping_report_words (hk.Values key payload) = key_words key ++ (codes "octets" ∷ decimal (length payload) ∷ [])
housekeeping_report_words (hk.Periodic kind rows) =
    kind_word kind ∷ flat_map row_words rows

-- the words of a statistics report
abbrev pub statistics_report_words : Report04 → List (List ℕ)
statistics_report_words (stat_told.Statistics report) = rows_words (length report.rows)
statistics_report_words (stat_told.Definitions enabled n ids) = rows_words (length ids)

-- the words of a report's body
abbrev pub report_body_words : ReportBody → List (List ℕ)
report_body_words (tell.Verify v) = verification_words v
report_body_words (tell.Hk r) = housekeeping_report_words r
report_body_words (tell.Stat r) = statistics_report_words r
report_body_words (tell.Par r) = rows_words (length r.pairs)

-- the service and the subtype of a report, as one word
abbrev pub type_word : ℕ → ℕ → List ℕ
type_word service subtype = decimal service ++ (codes "." ++ decimal subtype)

-- the words of a report: its tag, its type and its body
abbrev pub report_words : Report → List (List ℕ)
report_words r = decimal r.header.tag ∷ type_word r.header.service r.header.subtype ∷ report_body_words r.body

-- a report as a text
abbrev pub report_text : Report → List ℕ
report_text r = text_of_words (report_words r)
