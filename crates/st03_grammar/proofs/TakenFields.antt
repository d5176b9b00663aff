-- The fields of housekeeping bodies stood in their spelling where they were read.
use Rattle.std.proofs.Common.{◌≡◌, refl, ap, ◌∙◌, ℕ, ◌^◌, ◌<◌, List, [], ◌∷◌, ◌++◌, length, map, Bool, Option, None, Ok}
use Rattle.std.specs.List.{AllByRecursion}
use Rattle.hk_base.specs.TailoringParts.{TailoringParts}
use Rattle.hk_base.specs.Fields.{octets_of}
use Rattle.body_fields.specs.Reading.{then_read, with_check, uint, counted_list, repeat_fault, param_fault, param_field, interval_field, flag_field}
use Rattle.body_fields.specs.Spelling.{AreOctets, AllAmong, AllStand, AllFit, IsCount, IsInterval, counted_octets, structure_octets, param_octets, interval_octets, flag_octets}
use Rattle.body_fields.specs.declared.fault.BodyFault.{BodyFault}
use Rattle.hk_base.specs.declared.types.Kind.{Kind}
use Rattle.hk_base.specs.declared.types.Key.{Key}
use Rattle.hk_base.specs.declared.types.SuperList.{SuperList}
use Rattle.body_fields.proofs.TakingLemmas.{Took, IsSpelled, took-then, took-map, took-check, took-weaken, took-uint, took-flag, took-counted}
use Rattle.body_fields.proofs.IntervalLemmas.{IsSpelledInterval, took-interval}
use Rattle.st03_grammar.specs.Instructions.{key_of}
use Rattle.st03_grammar.specs.Bodies.{structure_field, key_field, repetition_fault, in_view, array_view, array_field, least_arrays, lists_field, pair_field, row_field}
use Rattle.st03_grammar.specs.Spelling.{array_octets, lists_octets, pair_octets, row_octets, AreStructures, AreParams, IsArray, AreArrays, AreLists}
use Rattle.st03_grammar.specs.declared.bodies.Pair.{Pair}
use Rattle.st03_grammar.specs.declared.bodies.PeriodicRow.{PeriodicRow}

-- two parts in their spelling
pub joined : (text more first second : List ℕ) → text ≡ first → more ≡ second → text ++ more ≡ first ++ second
joined text more first second e f = ap (λ a. a ++ more) e ∙ ap (λ b. first ++ b) f

-- an ID that was read as a key
abbrev pub IsSpelledKey : TailoringParts → Kind → Key → List ℕ → Type 0
IsSpelledKey t kind key text = IsSpelled t.widths.structure_octets key.id text × (key.kind ≡ kind)

pub took-key : (t : TailoringParts) (kind : Kind) (octets : List ℕ) → AreOctets octets → Took (IsSpelledKey t kind) octets (key_field t kind octets)
took-key t kind octets are =
    took-map (λ id text. IsSpelled t.widths.structure_octets id text × (repeat_fault [] id ≡ None)) (IsSpelledKey t kind) octets (structure_field t [] octets) (key_of kind)
    (took-check (IsSpelled t.widths.structure_octets) (repeat_fault []) octets (uint t.widths.structure_octets octets) (took-uint t.widths.structure_octets octets are))
    (λ id text h. (h.0, refl))

-- an ID that has room, and no fault among those before it
abbrev pub Stands : ℕ → (List ℕ → ℕ → Option BodyFault) → List ℕ → ℕ → Type 0
Stands octets fault earlier id = (id < 256 ^ octets) × (fault earlier id ≡ None)

pub all_stand : (octets : ℕ) (fault : List ℕ → ℕ → Option BodyFault) (earlier ids : List ℕ) → AllAmong (Stands octets fault) earlier ids → AllStand fault earlier ids × AllFit octets ids
all_stand octets fault earlier [] all = (tt, tt)
all_stand octets fault earlier (id ∷ ids) all =
    let rest = all_stand octets fault (id ∷ earlier) ids all.1 in
    ((all.0.1, rest.0), (all.0.0, rest.1))

took-checked : (octets : ℕ) (fault : List ℕ → ℕ → Option BodyFault) (earlier os : List ℕ) → AreOctets os
    → Took (λ id text. (text ≡ octets_of octets id) × Stands octets fault earlier id) os (with_check (fault earlier) (uint octets os))
took-checked octets fault earlier os are =
    took-weaken (λ id text. IsSpelled octets id text × (fault earlier id ≡ None)) (λ id text. (text ≡ octets_of octets id) × Stands octets fault earlier id) os
    (with_check (fault earlier) (uint octets os))
    (took-check (IsSpelled octets) (fault earlier) os (uint octets os) (took-uint octets os are))
    (λ id text h. (h.0.0, (h.0.1, h.1)))

-- a list of structures that was read
pub took-structures : (t : TailoringParts) (octets : List ℕ) → AreOctets octets
    → Took (λ ids text. (text ≡ counted_octets t (structure_octets t) ids) × IsCount t 1 (length ids) × AreStructures t ids) octets (counted_list t 1 (structure_field t) octets)
took-structures t octets are =
    took-weaken (λ ids text. (text ≡ counted_octets t (structure_octets t) ids) × IsCount t 1 (length ids) × AllAmong (Stands t.widths.structure_octets repeat_fault) [] ids)
    (λ ids text. (text ≡ counted_octets t (structure_octets t) ids) × IsCount t 1 (length ids) × AreStructures t ids) octets
    (counted_list t 1 (structure_field t) octets)
    (took-counted t 1 (structure_field t) (structure_octets t) (Stands t.widths.structure_octets repeat_fault)
    (λ earlier os are_os. took-checked t.widths.structure_octets repeat_fault earlier os are_os) octets are)
    (λ ids text h. (h.0, h.1, all_stand t.widths.structure_octets repeat_fault [] ids h.2))

-- a list of parameters that was read
abbrev pub AreSpelledParams : TailoringParts → (List ℕ → List ℕ) → ℕ → List ℕ → List ℕ → Type 0
AreSpelledParams t view least ids text = (text ≡ counted_octets t (param_octets t) ids) × IsCount t least (length ids) × AreParams t view ids

pub took-params : (t : TailoringParts) (view : List ℕ → List ℕ) (least : ℕ) (octets : List ℕ) → AreOctets octets
    → Took (AreSpelledParams t view least) octets (counted_list t least (λ ids field. param_field t (view ids) field) octets)
took-params t view least octets are =
    let fault : List ℕ → ℕ → Option BodyFault = λ earlier id. param_fault t (view earlier) id in
    took-weaken (λ ids text. (text ≡ counted_octets t (param_octets t) ids) × IsCount t least (length ids) × AllAmong (Stands t.widths.parameter_octets fault) [] ids)
    (AreSpelledParams t view least) octets
    (counted_list t least (λ ids field. param_field t (view ids) field) octets)
    (took-counted t least (λ ids field. param_field t (view ids) field) (param_octets t) (Stands t.widths.parameter_octets fault)
    (λ earlier os are_os. took-checked t.widths.parameter_octets fault earlier os are_os) octets are)
    (λ ids text h. (h.0, h.1, all_stand t.widths.parameter_octets fault [] ids h.2))

-- an array that was read
pub took-array : (t : TailoringParts) (once : Bool) (interval : Option ℕ) (simple : List ℕ) (earlier : List SuperList) (octets : List ℕ) → AreOctets octets
    → Took (λ a text. (text ≡ array_octets t a) × IsArray t once interval simple earlier a) octets (array_field t once interval simple earlier octets)
took-array t once interval simple earlier octets are =
    took-then (λ r text. IsSpelled t.widths.repetition_octets r text × (repetition_fault interval r ≡ None))
    (λ a text. (text ≡ array_octets t a) × IsArray t once interval simple earlier a) octets
    (with_check (repetition_fault interval) (uint t.widths.repetition_octets octets))
    (λ r rest. then_read (counted_list t 1 (λ ids field. param_field t (array_view once simple earlier ids) field) rest) (λ params end. Ok (record { repetition = r; params = params }, end)))
    are
    (took-check (IsSpelled t.widths.repetition_octets) (repetition_fault interval) octets (uint t.widths.repetition_octets octets) (took-uint t.widths.repetition_octets octets are))
    (λ r text rest h are_rest.
    took-map (AreSpelledParams t (array_view once simple earlier) 1) (λ a more. (text ++ more ≡ array_octets t a) × IsArray t once interval simple earlier a) rest
    (counted_list t 1 (λ ids field. param_field t (array_view once simple earlier ids) field) rest) (λ params. record { repetition = r; params = params })
    (took-params t (array_view once simple earlier) 1 rest are_rest)
    (λ params more g. (
      joined text more (octets_of t.widths.repetition_octets r) (counted_octets t (param_octets t) params) h.0.0 g.0,
      record { repetition = h.1; field = h.0.1; count = g.1; params = g.2 },
    )))

arrays_among : (t : TailoringParts) (once : Bool) (interval : Option ℕ) (simple : List ℕ) (earlier arrays : List SuperList)
    → AllAmong (IsArray t once interval simple) earlier arrays
    → AreArrays t once interval simple earlier arrays
arrays_among t once interval simple earlier [] all = tt
arrays_among t once interval simple earlier (a ∷ arrays) all = (all.0, arrays_among t once interval simple (a ∷ earlier) arrays all.1)

-- LISTS that were read
pub took-lists : (t : TailoringParts) (once : Bool) (interval : Option ℕ) (octets : List ℕ) → AreOctets octets
    → Took (λ l text. (text ≡ lists_octets t l.simple l.arrays) × AreLists t once interval l.simple l.arrays) octets (lists_field t once interval octets)
took-lists t once interval octets are =
    took-then (AreSpelledParams t (in_view once) 0)
    (λ l text. (text ≡ lists_octets t l.simple l.arrays) × AreLists t once interval l.simple l.arrays) octets
    (counted_list t 0 (λ ids field. param_field t (in_view once ids) field) octets)
    (λ simple rest. then_read (counted_list t (least_arrays simple) (array_field t once interval simple) rest) (λ arrays end. Ok (record { simple = simple; arrays = arrays }, end)))
    are (took-params t (in_view once) 0 octets are)
    (λ simple text rest h are_rest.
    took-map (λ arrays more. (more ≡ counted_octets t (array_octets t) arrays) × IsCount t (least_arrays simple) (length arrays) × AllAmong (IsArray t once interval simple) [] arrays)
    (λ l more. (text ++ more ≡ lists_octets t l.simple l.arrays) × AreLists t once interval l.simple l.arrays) rest
    (counted_list t (least_arrays simple) (array_field t once interval simple) rest) (λ arrays. record { simple = simple; arrays = arrays })
    (took-counted t (least_arrays simple) (array_field t once interval simple) (array_octets t) (IsArray t once interval simple)
    (λ earlier os are_os. took-array t once interval simple earlier os are_os) rest are_rest)
    (λ arrays more g. (
      joined text more (counted_octets t (param_octets t) simple) (counted_octets t (array_octets t) arrays) h.0 g.0,
      record { simple_count = h.1; params = h.2; array_count = g.1; listed = arrays_among t once interval simple [] arrays g.2 },
    )))

-- a pair that was read
abbrev pub PairStands : TailoringParts → List Pair → Pair → Type 0
PairStands t earlier p = Stands t.widths.structure_octets repeat_fault (map (λ q. q.id) earlier) p.id × IsInterval t p.interval

pub took-pair : (t : TailoringParts) (earlier : List Pair) (octets : List ℕ) → AreOctets octets
    → Took (λ p text. (text ≡ pair_octets t p) × PairStands t earlier p) octets (pair_field t earlier octets)
took-pair t earlier octets are =
    let ids : List ℕ = map (λ (q : Pair). q.id) earlier in
    took-then (λ id text. (text ≡ structure_octets t id) × Stands t.widths.structure_octets repeat_fault ids id) (λ p text. (text ≡ pair_octets t p) × PairStands t earlier p) octets
    (structure_field t ids octets) (λ id rest. then_read (interval_field t rest) (λ n end. Ok (record { id = id; interval = n }, end)))
    are (took-checked t.widths.structure_octets repeat_fault ids octets are)
    (λ id text rest h are_rest.
    took-map (IsSpelledInterval t) (λ p more. (text ++ more ≡ pair_octets t p) × PairStands t earlier p) rest (interval_field t rest) (λ n. record { id = id; interval = n })
    (took-interval t rest are_rest)
    (λ n more g. (joined text more (structure_octets t id) (interval_octets t n) h.0 g.0, (h.1, g.1))))

pub pairs_among : (t : TailoringParts) (earlier pairs : List Pair) → AllAmong (PairStands t) earlier pairs
    → AllStand repeat_fault (map (λ p. p.id) earlier) (map (λ p. p.id) pairs)
    × AllFit t.widths.structure_octets (map (λ p. p.id) pairs)
    × AllByRecursion (λ p. IsInterval t p.interval) pairs
pairs_among t earlier [] all = (tt, tt, tt)
pairs_among t earlier (p ∷ pairs) all =
    let rest = pairs_among t (p ∷ earlier) pairs all.1 in
    ((all.0.0.1, rest.0), (all.0.0.0, rest.1), (all.0.1, rest.2))

-- a row that was read
abbrev pub RowStands : TailoringParts → List PeriodicRow → PeriodicRow → Type 0
RowStands t earlier r = Stands t.widths.structure_octets repeat_fault (map (λ q. q.id) earlier) r.id × IsInterval t r.interval

pub took-row : (t : TailoringParts) (earlier : List PeriodicRow) (octets : List ℕ) → AreOctets octets
    → Took (λ r text. (text ≡ row_octets t r) × RowStands t earlier r) octets (row_field t earlier octets)
took-row t earlier octets are =
    let ids : List ℕ = map (λ (q : PeriodicRow). q.id) earlier in
    took-then (λ id text. (text ≡ structure_octets t id) × Stands t.widths.structure_octets repeat_fault ids id) (λ r text. (text ≡ row_octets t r) × RowStands t earlier r) octets
    (structure_field t ids octets)
    (λ id rest. then_read (flag_field rest) (λ enabled more. then_read (interval_field t more) (λ n end. Ok (record { id = id; enabled = enabled; interval = n }, end))))
    are (took-checked t.widths.structure_octets repeat_fault ids octets are)
    (λ id text rest h are_rest.
    took-then (λ enabled more. more ≡ flag_octets enabled) (λ r more. (text ++ more ≡ row_octets t r) × RowStands t earlier r) rest
    (flag_field rest) (λ enabled more. then_read (interval_field t more) (λ n end. Ok (record { id = id; enabled = enabled; interval = n }, end)))
    are_rest (took-flag rest are_rest)
    (λ enabled more others g are_others.
    took-map (IsSpelledInterval t) (λ r end. (text ++ (more ++ end) ≡ row_octets t r) × RowStands t earlier r) others (interval_field t others)
    (λ n. record { id = id; enabled = enabled; interval = n })
    (took-interval t others are_others)
    (λ n end f. (
      joined text (more ++ end) (structure_octets t id) (flag_octets enabled ++ interval_octets t n) h.0 (joined more end (flag_octets enabled) (interval_octets t n) g f.0),
      (h.1, f.1),
    ))))

pub rows_among : (t : TailoringParts) (earlier rows : List PeriodicRow) → AllAmong (RowStands t) earlier rows
    → AllStand repeat_fault (map (λ r. r.id) earlier) (map (λ r. r.id) rows)
    × AllFit t.widths.structure_octets (map (λ r. r.id) rows)
    × AllByRecursion (λ r. IsInterval t r.interval) rows
rows_among t earlier [] all = (tt, tt, tt)
rows_among t earlier (r ∷ rows) all =
    let rest = rows_among t (r ∷ earlier) rows all.1 in
    ((all.0.0.1, rest.0), (all.0.0.0, rest.1), (all.0.1, rest.2))
