-- Housekeeping requests and reports stood in their spelling where they were read.
use Rattle.std.proofs.Common.{◌≡◌, refl, sym, ap, ℕ, List, [], ◌++◌, append-nil, length, true, false, Some, None, Ok}
use Rattle.hk_base.specs.TailoringParts.{TailoringParts}
use Rattle.body_fields.specs.Reading.{then_read, counted_list, flag_field, interval_field}
use Rattle.body_fields.specs.Spelling.{AreOctets, AllAmong, IsCount, counted_octets, structure_octets, interval_octets, flag_octets}
use Rattle.hk_base.specs.declared.types.Kind.{Kind}
use Rattle.hk_base.specs.declared.types.Kind.TheVariants.{Housekeeping, Diagnostic}
use Rattle.body_fields.proofs.TakingLemmas.{Took, took-then, took-map, took-flag, took-counted, body-took}
use Rattle.body_fields.proofs.IntervalLemmas.{IsSpelledInterval, took-interval}
use Rattle.st03_grammar.specs.Bodies.{key_field, lists_field, structure_field, definition_of, creation, appending, on_each, pair_field, intervals, request_table, request_body, structure_report, parameter_report, row_field, periodic_report, report_table, report_body}
use Rattle.st03_grammar.specs.Spelling.{by_kind, each_subtype, lists_octets, pair_octets, row_octets, AreStructures, AreLists, IsSpelledRequest, IsSpelledReport}
use Rattle.st03_grammar.specs.declared.bodies.Each.{Each}
use Rattle.st03_grammar.specs.declared.bodies.Each.TheVariants.{Delete, Enable, Disable, Show, OneShot, ShowPeriodic}
use Rattle.st03_grammar.specs.declared.bodies.Request03.{Request03}
use Rattle.st03_grammar.specs.declared.bodies.Request03.TheVariants.{Create, Append, OnEach, Intervals}
use Rattle.st03_grammar.specs.declared.bodies.Report03.{Report03}
use Rattle.st03_grammar.specs.declared.bodies.Report03.TheVariants as told
use Rattle.st03_grammar.proofs.TakenFields.{joined, IsSpelledKey, PairStands, RowStands, took-key, took-lists, took-structures, took-pair, pairs_among, took-row, rows_among}

took-creation : (t : TailoringParts) (kind : Kind) (octets : List ℕ) → AreOctets octets → Took (IsSpelledRequest t (by_kind kind 1 2)) octets (creation t kind octets)
took-creation t kind octets are =
    took-then (IsSpelledKey t kind) (IsSpelledRequest t (by_kind kind 1 2)) octets (key_field t kind octets)
    (λ key rest. then_read (interval_field t rest) (λ n more. then_read (lists_field t false (Some n) more) (λ lists end. Ok (Create key (definition_of n lists), end))))
    are (took-key t kind octets are)
    (λ key text rest h are_rest.
    took-then (IsSpelledInterval t) (λ r more. IsSpelledRequest t (by_kind kind 1 2) r (text ++ more)) rest (interval_field t rest)
    (λ n more. then_read (lists_field t false (Some n) more) (λ lists end. Ok (Create key (definition_of n lists), end)))
    are_rest (took-interval t rest are_rest)
    (λ n more others g are_others.
    took-map (λ l end. (end ≡ lists_octets t l.simple l.arrays) × AreLists t false (Some n) l.simple l.arrays)
    (λ r end. IsSpelledRequest t (by_kind kind 1 2) r (text ++ (more ++ end))) others
    (lists_field t false (Some n) others) (λ lists. Create key (definition_of n lists))
    (took-lists t false (Some n) others are_others)
    (λ l end f. (
      ap (λ k. by_kind k 1 2) (sym h.1),
      joined text (more ++ end) (structure_octets t key.id) (interval_octets t n ++ lists_octets t l.simple l.arrays) h.0.0
          (joined more end (interval_octets t n) (lists_octets t l.simple l.arrays) g.0 f.0),
      (h.0.1, g.1, f.1),
    ))))

took-appending : (t : TailoringParts) (kind : Kind) (octets : List ℕ) → AreOctets octets → Took (IsSpelledRequest t (by_kind kind 29 30)) octets (appending t kind octets)
took-appending t kind octets are =
    took-then (IsSpelledKey t kind) (IsSpelledRequest t (by_kind kind 29 30)) octets (key_field t kind octets)
    (λ key rest. then_read (lists_field t false None rest) (λ lists end. Ok (Append key lists, end)))
    are (took-key t kind octets are)
    (λ key text rest h are_rest.
    took-map (λ l more. (more ≡ lists_octets t l.simple l.arrays) × AreLists t false None l.simple l.arrays)
    (λ r more. IsSpelledRequest t (by_kind kind 29 30) r (text ++ more)) rest
    (lists_field t false None rest) (Append key)
    (took-lists t false None rest are_rest)
    (λ l more g. (
      ap (λ k. by_kind k 29 30) (sym h.1),
      joined text more (structure_octets t key.id) (lists_octets t l.simple l.arrays) h.0.0 g.0,
      (h.0.1, g.1),
    )))

took-each : (t : TailoringParts) (each : Each) (kind : Kind) (octets : List ℕ) → AreOctets octets → Took (IsSpelledRequest t (each_subtype each kind)) octets (on_each t each kind octets)
took-each t each kind octets are =
    took-map (λ ids text. (text ≡ counted_octets t (structure_octets t) ids) × IsCount t 1 (length ids) × AreStructures t ids) (IsSpelledRequest t (each_subtype each kind)) octets
    (counted_list t 1 (structure_field t) octets) (OnEach each kind)
    (took-structures t octets are)
    (λ ids text h. (refl, h.0, (h.1, h.2)))

took-intervals : (t : TailoringParts) (kind : Kind) (octets : List ℕ) → AreOctets octets → Took (IsSpelledRequest t (by_kind kind 31 32)) octets (intervals t kind octets)
took-intervals t kind octets are =
    took-map (λ pairs text. (text ≡ counted_octets t (pair_octets t) pairs) × IsCount t 1 (length pairs) × AllAmong (PairStands t) [] pairs) (IsSpelledRequest t (by_kind kind 31 32)) octets
    (counted_list t 1 (pair_field t) octets) (Intervals kind)
    (took-counted t 1 (pair_field t) (pair_octets t) (PairStands t) (λ earlier os are_os. took-pair t earlier os are_os) octets are)
    (λ pairs text h. let among = pairs_among t [] pairs h.2 in (refl, h.0, (h.1, (among.0, among.1), among.2)))

-- a request is read from its spelling alone
pub request-took : (t : TailoringParts) (subtype : ℕ) (octets : List ℕ) (r : Request03) → AreOctets octets → request_body t subtype octets ≡ Some (Ok r) → IsSpelledRequest t subtype r octets
request-took t subtype octets r are e =
    body-took (IsSpelledRequest t) (request_table t) subtype octets r are
    (took-creation t Housekeeping, (took-creation t Diagnostic, (took-each t Delete Housekeeping, (took-each t Delete Diagnostic, (took-each t Enable Housekeeping, (took-each t Disable Housekeeping, (took-each t Enable Diagnostic, (took-each t Disable Diagnostic, (took-each t Show Housekeeping, (took-each t Show Diagnostic, (took-each t OneShot Housekeeping, (took-each t OneShot Diagnostic, (took-appending t Housekeeping, (took-appending t Diagnostic, (took-intervals t Housekeeping, (took-intervals t Diagnostic, (took-each t ShowPeriodic Housekeeping, (took-each t ShowPeriodic Diagnostic, tt))))))))))))))))))
    e

took-structure_report : (t : TailoringParts) (kind : Kind) (octets : List ℕ) → AreOctets octets → Took (IsSpelledReport t (by_kind kind 10 12)) octets (structure_report t kind octets)
took-structure_report t kind octets are =
    took-then (IsSpelledKey t kind) (IsSpelledReport t (by_kind kind 10 12)) octets (key_field t kind octets)
    (λ key rest. then_read (flag_field rest) (λ enabled more. then_read (interval_field t more) (λ n others. then_read (lists_field t true (Some n) others) (λ lists end.
    Ok (told.Structure key (record { def = definition_of n lists; enabled = enabled }), end)))))
    are (took-key t kind octets are)
    (λ key text rest h are_rest.
    took-then (λ enabled flag. flag ≡ flag_octets enabled) (λ r more. IsSpelledReport t (by_kind kind 10 12) r (text ++ more)) rest (flag_field rest)
    (λ enabled more. then_read (interval_field t more) (λ n others. then_read (lists_field t true (Some n) others) (λ lists end.
    Ok (told.Structure key (record { def = definition_of n lists; enabled = enabled }), end))))
    are_rest (took-flag rest are_rest)
    (λ enabled flag after e are_after.
    took-then (IsSpelledInterval t) (λ r more. IsSpelledReport t (by_kind kind 10 12) r (text ++ (flag ++ more))) after (interval_field t after)
    (λ n others. then_read (lists_field t true (Some n) others) (λ lists end. Ok (told.Structure key (record { def = definition_of n lists; enabled = enabled }), end)))
    are_after (took-interval t after are_after)
    (λ n more others g are_others.
    took-map (λ l end. (end ≡ lists_octets t l.simple l.arrays) × AreLists t true (Some n) l.simple l.arrays)
    (λ r end. IsSpelledReport t (by_kind kind 10 12) r (text ++ (flag ++ (more ++ end)))) others
    (lists_field t true (Some n) others) (λ lists. told.Structure key (record { def = definition_of n lists; enabled = enabled }))
    (took-lists t true (Some n) others are_others)
    (λ l end f. (
      ap (λ k. by_kind k 10 12) (sym h.1),
      joined text (flag ++ (more ++ end)) (structure_octets t key.id) (flag_octets enabled ++ (interval_octets t n ++ lists_octets t l.simple l.arrays)) h.0.0
          (joined flag (more ++ end) (flag_octets enabled) (interval_octets t n ++ lists_octets t l.simple l.arrays) e
          (joined more end (interval_octets t n) (lists_octets t l.simple l.arrays) g.0 f.0)),
      (h.0.1, g.1, f.1),
    )))))

took-values : (t : TailoringParts) (kind : Kind) (octets : List ℕ) → AreOctets octets → Took (IsSpelledReport t (by_kind kind 25 26)) octets (parameter_report t kind octets)
took-values t kind octets are =
    took-then (IsSpelledKey t kind) (IsSpelledReport t (by_kind kind 25 26)) octets (key_field t kind octets) (λ key payload. Ok (told.Values key payload, []))
    are (took-key t kind octets are)
    (λ key text rest h are_rest. (
      rest,
      sym (append-nil rest),
      (ap (λ k. by_kind k 25 26) (sym h.1), joined text rest (structure_octets t key.id) rest h.0.0 refl, h.0.1),
    ))

took-periodic : (t : TailoringParts) (kind : Kind) (octets : List ℕ) → AreOctets octets → Took (IsSpelledReport t (by_kind kind 35 36)) octets (periodic_report t kind octets)
took-periodic t kind octets are =
    took-map (λ rows text. (text ≡ counted_octets t (row_octets t) rows) × IsCount t 1 (length rows) × AllAmong (RowStands t) [] rows) (IsSpelledReport t (by_kind kind 35 36)) octets
    (counted_list t 1 (row_field t) octets) (told.Periodic kind)
    (took-counted t 1 (row_field t) (row_octets t) (RowStands t) (λ earlier os are_os. took-row t earlier os are_os) octets are)
    (λ rows text h. let among = rows_among t [] rows h.2 in (refl, h.0, (h.1, (among.0, among.1), among.2)))

-- a report is read from its spelling alone
pub report-took : (t : TailoringParts) (subtype : ℕ) (octets : List ℕ) (r : Report03) → AreOctets octets → report_body t subtype octets ≡ Some (Ok r) → IsSpelledReport t subtype r octets
report-took t subtype octets r are e =
    body-took (IsSpelledReport t) (report_table t) subtype octets r are
    (took-structure_report t Housekeeping, (took-structure_report t Diagnostic, (took-values t Housekeeping, (took-values t Diagnostic, (took-periodic t Housekeeping, (took-periodic t Diagnostic, tt))))))
    e
