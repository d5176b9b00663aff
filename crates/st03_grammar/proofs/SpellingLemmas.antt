-- Housekeeping requests and reports are read back from their spelling.
use Rattle.std.proofs.Common.{◌≡◌, refl, ap, ◌∙◌, ℕ, ◌^◌, ◌<◌, List, [], ◌∷◌, ◌++◌, map, Bool, true, false, Option, Some, None, Ok}
use Rattle.std.specs.List.{AllByRecursion}
use Rattle.hk_base.specs.TailoringParts.{TailoringParts}
use Rattle.hk_base.specs.Fields.{octets_of}
use Rattle.body_fields.specs.Reading.{Read, then_read, with_check, whole_body, uint, counted_list, repeat_fault, param_fault, param_field, interval_field, flag_field}
use Rattle.body_fields.specs.Spelling.{Reads, AllRead, AllStand, AllFit, counted_octets, structure_octets, param_octets, interval_octets, flag_octets, IsInterval}
use Rattle.body_fields.specs.declared.fault.BodyFault.{BodyFault}
use Rattle.hk_base.specs.declared.types.Kind.{Kind}
use Rattle.hk_base.specs.declared.types.Kind.TheVariants.{Housekeeping, Diagnostic}
use Rattle.hk_base.specs.declared.types.Key.{Key}
use Rattle.hk_base.specs.declared.types.SuperList.{SuperList}
use Rattle.hk_base.specs.declared.types.Definition.{Definition}
use Rattle.hk_base.specs.declared.types.Structure.{Structure}
use Rattle.body_fields.proofs.ReadingLemmas.{reads-then, reads-map, reads-check, reads-uint, reads-flag, reads-counted, whole-reads}
use Rattle.body_fields.proofs.IntervalLemmas.{reads-interval}
use Rattle.st03_grammar.specs.Instructions.{key_of}
use Rattle.st03_grammar.specs.Bodies.{structure_field, key_field, repetition_fault, in_view, array_view, array_field, least_arrays, lists_field, definition_of, creation, appending, on_each, pair_field, intervals, request_body, structure_report, parameter_report, row_field, periodic_report, report_body}
use Rattle.st03_grammar.specs.Spelling.{by_kind, each_subtype, request_subtype, report_subtype, array_octets, lists_octets, pair_octets, row_octets, request_octets, report_octets, AreParams, IsArray, AreArrays, AreLists, IsRequest03, IsReport03}
use Rattle.st03_grammar.specs.declared.bodies.Added.{Added}
use Rattle.st03_grammar.specs.declared.bodies.Each.{Each}
use Rattle.st03_grammar.specs.declared.bodies.Each.TheVariants.{Delete, Enable, Disable, Show, OneShot, ShowPeriodic}
use Rattle.st03_grammar.specs.declared.bodies.Pair.{Pair}
use Rattle.st03_grammar.specs.declared.bodies.PeriodicRow.{PeriodicRow}
use Rattle.st03_grammar.specs.declared.bodies.Request03.{Request03}
use Rattle.st03_grammar.specs.declared.bodies.Request03.TheVariants.{Create, Append, OnEach, Intervals}
use Rattle.st03_grammar.specs.declared.bodies.Report03.{Report03}
use Rattle.st03_grammar.specs.declared.bodies.Report03.TheVariants as told

-- checked numbers in octets
reads-ids : (octets : ℕ) (fault : List ℕ → ℕ → Option BodyFault) (earlier ids : List ℕ)
    → AllStand fault earlier ids
    → AllFit octets ids
    → AllRead (λ before field. with_check (fault before) (uint octets field)) (octets_of octets) earlier ids
reads-ids octets fault earlier [] stand fit = tt
reads-ids octets fault earlier (id ∷ ids) stand fit = (
  reads-check (fault earlier) (uint octets) (octets_of octets id) id (reads-uint octets id fit.0) stand.0,
  reads-ids octets fault (id ∷ earlier) ids stand.1 fit.1,
)

reads-params : (t : TailoringParts) (view : List ℕ → List ℕ) (ids : List ℕ) → AreParams t view ids → AllRead (λ before field. param_field t (view before) field) (param_octets t) [] ids
reads-params t view ids are = reads-ids t.widths.parameter_octets (λ earlier id. param_fault t (view earlier) id) [] ids are.0 are.1

reads-key : (t : TailoringParts) (key : Key) → key.id < 256 ^ t.widths.structure_octets → Reads (key_field t key.kind) (structure_octets t key.id) key
reads-key t key fits =
    reads-map (structure_field t []) (key_of key.kind) (structure_octets t key.id) key.id
    (reads-check (repeat_fault []) (uint t.widths.structure_octets) (structure_octets t key.id) key.id (reads-uint t.widths.structure_octets key.id fits) refl)

reads-array : (t : TailoringParts) (once : Bool) (interval : Option ℕ) (simple : List ℕ) (earlier : List SuperList) (a : SuperList)
    → IsArray t once interval simple earlier a
    → Reads (array_field t once interval simple earlier) (array_octets t a) a
reads-array t once interval simple earlier a is =
    let params_reader : List ℕ → Read (List ℕ) = counted_list t 1 (λ ids field. param_field t (array_view once simple earlier ids) field) in
    let params : Reads params_reader (counted_octets t (param_octets t) a.params) a.params =
    reads-counted t 1 (λ ids field. param_field t (array_view once simple earlier ids) field) (param_octets t) a.params
    is.count.0 is.count.1 is.count.2 (reads-params t (array_view once simple earlier) a.params is.params) in
    reads-then (λ octets. with_check (repetition_fault interval) (uint t.widths.repetition_octets octets))
    (λ r rest. then_read (params_reader rest) (λ ps end. Ok (record { repetition = r; params = ps }, end)))
    (octets_of t.widths.repetition_octets a.repetition) (counted_octets t (param_octets t) a.params) a.repetition a
    (reads-check (repetition_fault interval) (uint t.widths.repetition_octets) (octets_of t.widths.repetition_octets a.repetition) a.repetition
    (reads-uint t.widths.repetition_octets a.repetition is.field) is.repetition)
    (reads-map params_reader (λ ps. record { repetition = a.repetition; params = ps }) (counted_octets t (param_octets t) a.params) a.params params)

reads-arrays : (t : TailoringParts) (once : Bool) (interval : Option ℕ) (simple : List ℕ) (earlier arrays : List SuperList)
    → AreArrays t once interval simple earlier arrays
    → AllRead (array_field t once interval simple) (array_octets t) earlier arrays
reads-arrays t once interval simple earlier [] are = tt
reads-arrays t once interval simple earlier (a ∷ others) are =
    (reads-array t once interval simple earlier a are.0, reads-arrays t once interval simple (a ∷ earlier) others are.1)

reads-lists : (t : TailoringParts) (once : Bool) (interval : Option ℕ) (simple : List ℕ) (arrays : List SuperList)
    → AreLists t once interval simple arrays
    → Reads (lists_field t once interval) (lists_octets t simple arrays) (record { simple = simple; arrays = arrays })
reads-lists t once interval simple arrays are =
    reads-then (counted_list t 0 (λ ids field. param_field t (in_view once ids) field))
    (λ ps rest. then_read (counted_list t (least_arrays ps) (array_field t once interval ps) rest) (λ found end. Ok (record { simple = ps; arrays = found }, end)))
    (counted_octets t (param_octets t) simple) (counted_octets t (array_octets t) arrays) simple (record { simple = simple; arrays = arrays })
    (reads-counted t 0 (λ ids field. param_field t (in_view once ids) field) (param_octets t) simple
    are.simple_count.0 are.simple_count.1 are.simple_count.2 (reads-params t (in_view once) simple are.params))
    (reads-map (counted_list t (least_arrays simple) (array_field t once interval simple)) (λ found. record { simple = simple; arrays = found }) (counted_octets t (array_octets t) arrays) arrays
    (reads-counted t (least_arrays simple) (array_field t once interval simple) (array_octets t) arrays
    are.array_count.0 are.array_count.1 are.array_count.2 (reads-arrays t once interval simple [] arrays are.listed)))

reads-creation : (t : TailoringParts) (key : Key) (d : Definition) → IsRequest03 t (Create key d) → Reads (creation t key.kind) (request_octets t (Create key d)) (Create key d)
reads-creation t key d is =
    reads-then (key_field t key.kind)
    (λ k rest. then_read (interval_field t rest) (λ n more. then_read (lists_field t false (Some n) more) (λ lists end. Ok (Create k (definition_of n lists), end))))
    (structure_octets t key.id) (interval_octets t d.interval ++ lists_octets t d.simple d.arrays) key (Create key d)
    (reads-key t key is.0)
    (reads-then (interval_field t) (λ n more. then_read (lists_field t false (Some n) more) (λ lists end. Ok (Create key (definition_of n lists), end)))
    (interval_octets t d.interval) (lists_octets t d.simple d.arrays) d.interval (Create key d)
    (reads-interval t d.interval is.1)
    (reads-map (lists_field t false (Some d.interval)) (λ lists. Create key (definition_of d.interval lists)) (lists_octets t d.simple d.arrays)
    (record { simple = d.simple; arrays = d.arrays }) (reads-lists t false (Some d.interval) d.simple d.arrays is.2)))

reads-appending : (t : TailoringParts) (key : Key) (a : Added) → IsRequest03 t (Append key a) → Reads (appending t key.kind) (request_octets t (Append key a)) (Append key a)
reads-appending t key a is =
    reads-then (key_field t key.kind) (λ k rest. then_read (lists_field t false None rest) (λ lists end. Ok (Append k lists, end)))
    (structure_octets t key.id) (lists_octets t a.simple a.arrays) key (Append key a)
    (reads-key t key is.0)
    (reads-map (lists_field t false None) (Append key) (lists_octets t a.simple a.arrays) a (reads-lists t false None a.simple a.arrays is.1))

reads-each : (t : TailoringParts) (each : Each) (kind : Kind) (ids : List ℕ) → IsRequest03 t (OnEach each kind ids) → Reads (on_each t each kind) (request_octets t (OnEach each kind ids)) (OnEach each kind ids)
reads-each t each kind ids is =
    reads-map (counted_list t 1 (structure_field t)) (OnEach each kind) (counted_octets t (structure_octets t) ids) ids
    (reads-counted t 1 (structure_field t) (structure_octets t) ids is.0.0 is.0.1 is.0.2
    (reads-ids t.widths.structure_octets repeat_fault [] ids is.1.0 is.1.1))

reads-pairs : (t : TailoringParts) (earlier pairs : List Pair)
    → AllStand repeat_fault (map (λ p. p.id) earlier) (map (λ p. p.id) pairs)
    → AllFit t.widths.structure_octets (map (λ p. p.id) pairs)
    → AllByRecursion (λ p. IsInterval t p.interval) pairs
    → AllRead (pair_field t) (pair_octets t) earlier pairs
reads-pairs t earlier [] stand fit are = tt
reads-pairs t earlier (p ∷ pairs) stand fit are = (
  reads-then (structure_field t (map (λ x. x.id) earlier)) (λ id rest. then_read (interval_field t rest) (λ n end. Ok (record { id = id; interval = n }, end)))
      (structure_octets t p.id) (interval_octets t p.interval) p.id p
      (reads-check (repeat_fault (map (λ x. x.id) earlier)) (uint t.widths.structure_octets) (structure_octets t p.id) p.id
      (reads-uint t.widths.structure_octets p.id fit.0) stand.0)
      (reads-map (interval_field t) (λ n. record { id = p.id; interval = n }) (interval_octets t p.interval) p.interval (reads-interval t p.interval are.0)),
  reads-pairs t (p ∷ earlier) pairs stand.1 fit.1 are.1,
)

reads-intervals : (t : TailoringParts) (kind : Kind) (pairs : List Pair) → IsRequest03 t (Intervals kind pairs) → Reads (intervals t kind) (request_octets t (Intervals kind pairs)) (Intervals kind pairs)
reads-intervals t kind pairs is =
    reads-map (counted_list t 1 (pair_field t)) (Intervals kind) (counted_octets t (pair_octets t) pairs) pairs
    (reads-counted t 1 (pair_field t) (pair_octets t) pairs is.0.0 is.0.1 is.0.2 (reads-pairs t [] pairs is.1.0 is.1.1 is.2))

-- the reader of a subtype
creations : (t : TailoringParts) (kind : Kind) (octets : List ℕ) → request_body t (by_kind kind 1 2) octets ≡ Some (whole_body (creation t kind octets))
creations t Housekeeping octets = refl
creations t Diagnostic octets = refl

appends : (t : TailoringParts) (kind : Kind) (octets : List ℕ) → request_body t (by_kind kind 29 30) octets ≡ Some (whole_body (appending t kind octets))
appends t Housekeeping octets = refl
appends t Diagnostic octets = refl

interval_changes : (t : TailoringParts) (kind : Kind) (octets : List ℕ) → request_body t (by_kind kind 31 32) octets ≡ Some (whole_body (intervals t kind octets))
interval_changes t Housekeeping octets = refl
interval_changes t Diagnostic octets = refl

each_of : (t : TailoringParts) (each : Each) (kind : Kind) (octets : List ℕ) → request_body t (each_subtype each kind) octets ≡ Some (whole_body (on_each t each kind octets))
each_of t Delete Housekeeping octets = refl
each_of t Delete Diagnostic octets = refl
each_of t Enable Housekeeping octets = refl
each_of t Enable Diagnostic octets = refl
each_of t Disable Housekeeping octets = refl
each_of t Disable Diagnostic octets = refl
each_of t Show Housekeeping octets = refl
each_of t Show Diagnostic octets = refl
each_of t OneShot Housekeeping octets = refl
each_of t OneShot Diagnostic octets = refl
each_of t ShowPeriodic Housekeeping octets = refl
each_of t ShowPeriodic Diagnostic octets = refl

-- a request of the grammar is read back from its spelling
pub request-read : (t : TailoringParts) (r : Request03) → IsRequest03 t r → request_body t (request_subtype r) (request_octets t r) ≡ Some (Ok r)
request-read t (Create key d) is =
    creations t key.kind (request_octets t (Create key d))
    ∙ ap Some (whole-reads (creation t key.kind) (request_octets t (Create key d)) (Create key d) (reads-creation t key d is))
request-read t (Append key a) is =
    appends t key.kind (request_octets t (Append key a))
    ∙ ap Some (whole-reads (appending t key.kind) (request_octets t (Append key a)) (Append key a) (reads-appending t key a is))
request-read t (OnEach each kind ids) is =
    each_of t each kind (request_octets t (OnEach each kind ids))
    ∙ ap Some (whole-reads (on_each t each kind) (request_octets t (OnEach each kind ids)) (OnEach each kind ids) (reads-each t each kind ids is))
request-read t (Intervals kind pairs) is =
    interval_changes t kind (request_octets t (Intervals kind pairs))
    ∙ ap Some (whole-reads (intervals t kind) (request_octets t (Intervals kind pairs)) (Intervals kind pairs) (reads-intervals t kind pairs is))

reads-structure : (t : TailoringParts) (key : Key) (s : Structure) → IsReport03 t (told.Structure key s) → Reads (structure_report t key.kind) (report_octets t (told.Structure key s)) (told.Structure key s)
reads-structure t key s is =
    reads-then (key_field t key.kind)
    (λ k rest. then_read (flag_field rest) (λ enabled more. then_read (interval_field t more) (λ n others. then_read (lists_field t true (Some n) others) (λ lists end.
    Ok (told.Structure k (record { def = definition_of n lists; enabled = enabled }), end)))))
    (structure_octets t key.id) (flag_octets s.enabled ++ (interval_octets t s.def.interval ++ lists_octets t s.def.simple s.def.arrays)) key (told.Structure key s)
    (reads-key t key is.0)
    (reads-then flag_field
    (λ enabled more. then_read (interval_field t more) (λ n others. then_read (lists_field t true (Some n) others) (λ lists end.
    Ok (told.Structure key (record { def = definition_of n lists; enabled = enabled }), end))))
    (flag_octets s.enabled) (interval_octets t s.def.interval ++ lists_octets t s.def.simple s.def.arrays) s.enabled (told.Structure key s)
    (reads-flag s.enabled)
    (reads-then (interval_field t)
    (λ n others. then_read (lists_field t true (Some n) others) (λ lists end. Ok (told.Structure key (record { def = definition_of n lists; enabled = s.enabled }), end)))
    (interval_octets t s.def.interval) (lists_octets t s.def.simple s.def.arrays) s.def.interval (told.Structure key s)
    (reads-interval t s.def.interval is.1)
    (reads-map (lists_field t true (Some s.def.interval)) (λ lists. told.Structure key (record { def = definition_of s.def.interval lists; enabled = s.enabled }))
    (lists_octets t s.def.simple s.def.arrays) (record { simple = s.def.simple; arrays = s.def.arrays })
    (reads-lists t true (Some s.def.interval) s.def.simple s.def.arrays is.2))))

-- a payload goes to the end of the body
values-read : (t : TailoringParts) (key : Key) (payload : List ℕ) → IsReport03 t (told.Values key payload)
    → whole_body (parameter_report t key.kind (report_octets t (told.Values key payload))) ≡ Ok (told.Values key payload)
values-read t key payload is = rw (reads-key t key is payload) refl

reads-rows : (t : TailoringParts) (earlier rows : List PeriodicRow)
    → AllStand repeat_fault (map (λ r. r.id) earlier) (map (λ r. r.id) rows)
    → AllFit t.widths.structure_octets (map (λ r. r.id) rows)
    → AllByRecursion (λ r. IsInterval t r.interval) rows
    → AllRead (row_field t) (row_octets t) earlier rows
reads-rows t earlier [] stand fit are = tt
reads-rows t earlier (r ∷ rows) stand fit are = (
  reads-then (structure_field t (map (λ x. x.id) earlier))
      (λ id rest. then_read (flag_field rest) (λ enabled more. then_read (interval_field t more) (λ n end. Ok (record { id = id; enabled = enabled; interval = n }, end))))
      (structure_octets t r.id) (flag_octets r.enabled ++ interval_octets t r.interval) r.id r
      (reads-check (repeat_fault (map (λ x. x.id) earlier)) (uint t.widths.structure_octets) (structure_octets t r.id) r.id
      (reads-uint t.widths.structure_octets r.id fit.0) stand.0)
      (reads-then flag_field (λ enabled more. then_read (interval_field t more) (λ n end. Ok (record { id = r.id; enabled = enabled; interval = n }, end)))
      (flag_octets r.enabled) (interval_octets t r.interval) r.enabled r
      (reads-flag r.enabled)
      (reads-map (interval_field t) (λ n. record { id = r.id; enabled = r.enabled; interval = n }) (interval_octets t r.interval) r.interval (reads-interval t r.interval are.0))),
  reads-rows t (r ∷ earlier) rows stand.1 fit.1 are.1,
)

reads-periodic : (t : TailoringParts) (kind : Kind) (rows : List PeriodicRow) → IsReport03 t (told.Periodic kind rows) → Reads (periodic_report t kind) (report_octets t (told.Periodic kind rows)) (told.Periodic kind rows)
reads-periodic t kind rows is =
    reads-map (counted_list t 1 (row_field t)) (told.Periodic kind) (counted_octets t (row_octets t) rows) rows
    (reads-counted t 1 (row_field t) (row_octets t) rows is.0.0 is.0.1 is.0.2 (reads-rows t [] rows is.1.0 is.1.1 is.2))

structure_reports : (t : TailoringParts) (kind : Kind) (octets : List ℕ) → report_body t (by_kind kind 10 12) octets ≡ Some (whole_body (structure_report t kind octets))
structure_reports t Housekeeping octets = refl
structure_reports t Diagnostic octets = refl

parameter_reports : (t : TailoringParts) (kind : Kind) (octets : List ℕ) → report_body t (by_kind kind 25 26) octets ≡ Some (whole_body (parameter_report t kind octets))
parameter_reports t Housekeeping octets = refl
parameter_reports t Diagnostic octets = refl

periodic_reports : (t : TailoringParts) (kind : Kind) (octets : List ℕ) → report_body t (by_kind kind 35 36) octets ≡ Some (whole_body (periodic_report t kind octets))
periodic_reports t Housekeeping octets = refl
periodic_reports t Diagnostic octets = refl

-- a report of the grammar is read back from its spelling
pub report-read : (t : TailoringParts) (r : Report03) → IsReport03 t r → report_body t (report_subtype r) (report_octets t r) ≡ Some (Ok r)
report-read t (told.Structure key s) is =
    structure_reports t key.kind (report_octets t (told.Structure key s))
    ∙ ap Some (whole-reads (structure_report t key.kind) (report_octets t (told.Structure key s)) (told.Structure key s) (reads-structure t key s is))
report-read t (told.Values key payload) is =
    parameter_reports t key.kind (report_octets t (told.Values key payload)) ∙ ap Some (values-read t key payload is)
report-read t (told.Periodic kind rows) is =
    periodic_reports t kind (report_octets t (told.Periodic kind rows))
    ∙ ap Some (whole-reads (periodic_report t kind) (report_octets t (told.Periodic kind rows)) (told.Periodic kind rows) (reads-periodic t kind rows is))
