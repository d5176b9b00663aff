-- Requests and reports on parameter values are read from their spelling, and from no other octets.
use Rattle.std.proofs.Common.{◌≡◌, refl, sym, ap, ◌∙◌, ℕ, List, [], ◌∷◌, ◌++◌, length, not, Option, Some, None, Ok}
use Rattle.std.specs.Prelude.{is_some}
use Rattle.std.specs.List.{AllByRecursion}
use Rattle.std.specs.Option.{option_or, option_map_or}
use Rattle.std.proofs.lemmas.Option.{none-some}
use Rattle.hk_base.specs.TailoringParts.{TailoringParts}
use Rattle.hk_base.specs.Parameters.{parameter, is_settable}
use Rattle.hk_base.specs.Fit.{IsFit}
use Rattle.body_fields.specs.Reading.{then_read, with_check, fault_if, uint, counted_list, param_fault, param_field, value_of_field}
use Rattle.body_fields.specs.Spelling.{Reads, AllRead, AllStand, AllAmong, AreOctets, IsCount, IsValueOf, counted_octets, param_octets, value_octets}
use Rattle.body_fields.specs.declared.fault.BodyFault.{BodyFault}
use Rattle.body_fields.specs.declared.fault.BodyFault.TheVariants.{NotSettable}
use Rattle.body_fields.proofs.ReadingLemmas.{reads-then, reads-map, reads-check, reads-uint, reads-counted, whole-reads}
use Rattle.body_fields.proofs.FitLemmas.{param_known, param_in_octets}
use Rattle.body_fields.proofs.NamedLemmas.{id_field, reads-ids, took-id, all_stand, ids_stand, reads-value_of, took-value_of}
use Rattle.body_fields.proofs.TakingLemmas.{Took, took-then, took-map, took-counted, body-took}
use Rattle.st20_grammar.specs.Bodies.{settable_fault, setting_field, request_table, report_table, request_body, report_body}
use Rattle.st20_grammar.specs.Spelling.{setting_octets, request_subtype, request_octets, report_subtype, report_octets, ids_of, AreSettings, IsSetting, IsRequest, IsReport}
use Rattle.st20_grammar.specs.declared.bodies.Setting.{Setting}
use Rattle.st20_grammar.specs.declared.bodies.Request20.{Request20}
use Rattle.st20_grammar.specs.declared.bodies.Request20.TheVariants.{Report, Set}
use Rattle.st20_grammar.specs.declared.bodies.Report20.{Report20}

-- a check of IDs that lets only known parameters pass
abbrev KnowsAll : TailoringParts → (List ℕ → ℕ → Option BodyFault) → Type 0
KnowsAll t fault = (earlier : List ℕ) (id : ℕ) → fault earlier id ≡ None → param_fault t earlier id ≡ None

settable_is_known : (t : TailoringParts) → KnowsAll t (settable_fault t)
settable_is_known t earlier id e = go (param_fault t earlier id) refl e
  where
    go : (o : Option BodyFault) → param_fault t earlier id ≡ o
        → option_or o (option_map_or (λ p. fault_if (not (is_settable p)) (NotSettable id)) (parameter t id) None) ≡ None → param_fault t earlier id ≡ None
    go None is h = is
    go (Some fault) is h = absurd (none-some fault (sym h))

-- parameters with values are read from their spelling
reads-settings : (t : TailoringParts) (fault : List ℕ → ℕ → Option BodyFault) (earlier xs : List Setting) → IsFit t → KnowsAll t fault
    → AllStand fault (ids_of earlier) (ids_of xs)
    → AllByRecursion (λ x. IsValueOf t x.param x.value) xs
    → AllRead (setting_field t fault) (setting_octets t) earlier xs
reads-settings t fault earlier [] fit knows stand values = tt
reads-settings t fault earlier (x ∷ xs) fit knows stand values =
    let fine = knows (ids_of earlier) x.param stand.0 in
    let known = param_known t (ids_of earlier) x.param fine in (
      reads-then (λ o. with_check (fault (ids_of earlier)) (uint t.widths.parameter_octets o))
          (λ id rest. then_read (value_of_field t id rest) (λ value end. Ok (record { param = id; value = value }, end)))
          (param_octets t x.param) (value_octets t x.param x.value) x.param x
          (reads-check (fault (ids_of earlier)) (uint t.widths.parameter_octets) (param_octets t x.param) x.param
          (reads-uint t.widths.parameter_octets x.param (param_in_octets t (ids_of earlier) x.param fit fine)) stand.0)
          (reads-map (value_of_field t x.param) (λ value. record { param = x.param; value = value }) (value_octets t x.param x.value) x.value
          (reads-value_of t x.param x.value known.0 fit known.1 values.0)),
      reads-settings t fault (x ∷ earlier) xs fit knows stand.1 values.1,
    )

reads-all : (t : TailoringParts) (fault : List ℕ → ℕ → Option BodyFault) (xs : List Setting) → IsFit t → KnowsAll t fault → AreSettings t fault xs
    → Reads (counted_list t 1 (setting_field t fault)) (counted_octets t (setting_octets t) xs) xs
reads-all t fault xs fit knows are =
    reads-counted t 1 (setting_field t fault) (setting_octets t) xs are.count.0 are.count.1 are.count.2 (reads-settings t fault [] xs fit knows are.ids are.values)

-- a request of the grammar is read from its spelling
pub request-again : (t : TailoringParts) (v : Request20) → IsFit t → IsRequest t v → request_body t (request_subtype v) (request_octets t v) ≡ Some (Ok v)
request-again t (Report ids) fit is =
    ap Some
    (whole-reads (λ octets. then_read (counted_list t 1 (param_field t) octets) (λ ids end. Ok (Report ids, end)))
    (request_octets t (Report ids)) (Report ids)
    (reads-map (counted_list t 1 (param_field t)) Report (counted_octets t (param_octets t) ids) ids
    (reads-counted t 1 (param_field t) (param_octets t) ids is.count.0 is.count.1 is.count.2
    (reads-ids t (param_fault t) [] ids (λ before id fine. param_in_octets t before id fit fine) is.stand))))
request-again t (Set xs) fit is =
    ap Some
    (whole-reads (λ octets. then_read (counted_list t 1 (setting_field t (settable_fault t)) octets) (λ settings end. Ok (Set settings, end)))
    (request_octets t (Set xs)) (Set xs)
    (reads-map (counted_list t 1 (setting_field t (settable_fault t))) Set (counted_octets t (setting_octets t) xs) xs
    (reads-all t (settable_fault t) xs fit (settable_is_known t) is)))

abbrev report_of : List Setting → Report20
report_of pairs = record { pairs = pairs }

-- a report of the grammar is read from its spelling
pub report-again : (t : TailoringParts) (r : Report20) → IsFit t → IsReport t r → report_body t report_subtype (report_octets t r) ≡ Some (Ok r)
report-again t r fit is =
    ap Some
    (whole-reads (λ octets. then_read (counted_list t 1 (setting_field t (param_fault t)) octets) (λ pairs end. Ok (report_of pairs, end)))
    (report_octets t r) r
    (reads-map (counted_list t 1 (setting_field t (param_fault t))) report_of (counted_octets t (setting_octets t) r.pairs) r.pairs
    (reads-all t (param_fault t) r.pairs fit (λ earlier id e. e) is)))

-- a parameter with a value that stands among those before it
abbrev IsSettingAmong : TailoringParts → (List ℕ → ℕ → Option BodyFault) → List Setting → Setting → Type 0
IsSettingAmong t fault earlier x = (fault (ids_of earlier) x.param ≡ None) × IsValueOf t x.param x.value

took-setting : (t : TailoringParts) (fault : List ℕ → ℕ → Option BodyFault) (earlier : List Setting) (octets : List ℕ) → AreOctets octets
    → Took (λ x text. (text ≡ setting_octets t x) × IsSettingAmong t fault earlier x) octets (setting_field t fault earlier octets)
took-setting t fault earlier octets are =
    took-then (λ id text. (text ≡ param_octets t id) × (fault (ids_of earlier) id ≡ None)) (λ x text. (text ≡ setting_octets t x) × IsSettingAmong t fault earlier x)
    octets (id_field t fault (ids_of earlier) octets) (λ id rest. then_read (value_of_field t id rest) (λ value end. Ok (record { param = id; value = value }, end)))
    are (took-id t fault (ids_of earlier) octets are)
    (λ id text rest h are_rest.
    took-map (λ v more. (more ≡ value_octets t id v) × IsValueOf t id v)
    (λ x more. (text ++ more ≡ setting_octets t x) × IsSettingAmong t fault earlier x)
    rest (value_of_field t id rest) (λ value. record { param = id; value = value })
    (took-value_of t id rest are_rest)
    (λ v more g. (ap (λ a. a ++ more) h.0 ∙ ap (λ b. param_octets t id ++ b) g.0, (h.1, g.1))))

each_fits : (t : TailoringParts) (fault : List ℕ → ℕ → Option BodyFault) (earlier xs : List Setting) → AllAmong (IsSettingAmong t fault) earlier xs
    → AllByRecursion (λ x. IsValueOf t x.param x.value) xs
each_fits t fault earlier [] all = tt
each_fits t fault earlier (x ∷ xs) all = (all.0.1, each_fits t fault (x ∷ earlier) xs all.1)

took-settings : (t : TailoringParts) (fault : List ℕ → ℕ → Option BodyFault) (octets : List ℕ) → AreOctets octets
    → Took (λ xs text. (text ≡ counted_octets t (setting_octets t) xs) × IsCount t 1 (length xs) × AllAmong (IsSettingAmong t fault) [] xs) octets
    (counted_list t 1 (setting_field t fault) octets)
took-settings t fault octets are =
    took-counted t 1 (setting_field t fault) (setting_octets t) (IsSettingAmong t fault) (λ earlier os are_os. took-setting t fault earlier os are_os) octets are

settings_are : (t : TailoringParts) (fault : List ℕ → ℕ → Option BodyFault) (xs : List Setting) → IsCount t 1 (length xs) × AllAmong (IsSettingAmong t fault) [] xs
    → AreSettings t fault xs
settings_are t fault xs h = record {
  count = h.0;
  ids = all_stand fault (λ x. x.param) (IsSettingAmong t fault) [] xs (λ before x stands. stands.0) h.1;
  values = each_fits t fault [] xs h.1;
}

-- a request that is read is of the grammar, and the octets are its spelling
pub request-only : (t : TailoringParts) (subtype : ℕ) (octets : List ℕ) (v : Request20) → AreOctets octets → request_body t subtype octets ≡ Some (Ok v)
    → (subtype ≡ request_subtype v) × (octets ≡ request_octets t v) × IsRequest t v
request-only t subtype octets v are e =
    body-took (λ s x text. (s ≡ request_subtype x) × (text ≡ request_octets t x) × IsRequest t x) (request_table t) subtype octets v are (
      (λ os are_os.
          took-map (λ ids text. (text ≡ counted_octets t (param_octets t) ids) × IsCount t 1 (length ids) × AllAmong (λ before id. param_fault t before id ≡ None) [] ids)
          (λ x text. (1 ≡ request_subtype x) × (text ≡ request_octets t x) × IsRequest t x) os (counted_list t 1 (param_field t) os) Report
          (took-counted t 1 (param_field t) (param_octets t) (λ before id. param_fault t before id ≡ None)
          (λ earlier o are_o. took-id t (param_fault t) earlier o are_o) os are_os)
          (λ ids text h. (refl, h.0, record { count = h.1; stand = ids_stand (param_fault t) [] ids h.2 }))),
      (
        (λ os are_os.
            took-map (λ xs text. (text ≡ counted_octets t (setting_octets t) xs) × IsCount t 1 (length xs) × AllAmong (IsSettingAmong t (settable_fault t)) [] xs)
            (λ x text. (3 ≡ request_subtype x) × (text ≡ request_octets t x) × IsRequest t x) os (counted_list t 1 (setting_field t (settable_fault t)) os) Set
            (took-settings t (settable_fault t) os are_os)
            (λ xs text h. (refl, h.0, settings_are t (settable_fault t) xs (h.1, h.2)))),
        tt,
      ),
    )
    e

-- a report that is read is of the grammar, and the octets are its spelling
pub report-only : (t : TailoringParts) (subtype : ℕ) (octets : List ℕ) (r : Report20) → AreOctets octets → report_body t subtype octets ≡ Some (Ok r)
    → (subtype ≡ report_subtype) × (octets ≡ report_octets t r) × IsReport t r
report-only t subtype octets r are e =
    body-took (λ s x text. (s ≡ report_subtype) × (text ≡ report_octets t x) × IsReport t x) (report_table t) subtype octets r are (
      (λ os are_os.
          took-map (λ xs text. (text ≡ counted_octets t (setting_octets t) xs) × IsCount t 1 (length xs) × AllAmong (IsSettingAmong t (param_fault t)) [] xs)
          (λ x text. (2 ≡ report_subtype) × (text ≡ report_octets t x) × IsReport t x) os (counted_list t 1 (setting_field t (param_fault t)) os) report_of
          (took-settings t (param_fault t) os are_os)
          (λ xs text h. (refl, h.0, settings_are t (param_fault t) xs (h.1, h.2)))),
      tt,
    )
    e

-- the members of a list that can stand can be written
settings_fit : (t : TailoringParts) (fault : List ℕ → ℕ → Option BodyFault) (earlier xs : List Setting) → KnowsAll t fault
    → AllStand fault (ids_of earlier) (ids_of xs)
    → AllByRecursion (λ x. IsValueOf t x.param x.value) xs
    → AllByRecursion (IsSetting t) xs
settings_fit t fault earlier [] knows stand values = tt
settings_fit t fault earlier (x ∷ xs) knows stand values =
    let known = param_known t (ids_of earlier) x.param (knows (ids_of earlier) x.param stand.0) in
    (record { known = ap is_some known.1; value = values.0 }, settings_fit t fault (x ∷ earlier) xs knows stand.1 values.1)

-- the settings of a request can be written
pub set_fits : (t : TailoringParts) (xs : List Setting) → AreSettings t (settable_fault t) xs → AllByRecursion (IsSetting t) xs
set_fits t xs are = settings_fit t (settable_fault t) [] xs (settable_is_known t) are.ids are.values

-- the pairs of a report can be written
pub pairs_fit : (t : TailoringParts) (xs : List Setting) → AreSettings t (param_fault t) xs → AllByRecursion (IsSetting t) xs
pairs_fit t xs are = settings_fit t (param_fault t) [] xs (λ earlier id e. e) are.ids are.values
