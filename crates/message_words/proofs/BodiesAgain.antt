-- Bodies of the grammar are read from their words.
use Rattle.std.proofs.Common.{◌≡◌, ℕ, ◌≤◌, Bool, true, false, List, [], ◌∷◌, ◌++◌, map, flat_map, length, Option, Some, None, Result, Ok, refl, ap, ◌∙◌, append-nil, arith}
use Rattle.std.specs.Prelude.{codes, nat_lt, option_map, IsSome, if◌then◌else◌}
use Rattle.std.specs.List.{AllByRecursion}
use Rattle.std.specs.Fmt.{decimal}
use Rattle.std.proofs.lemmas.Bool.Decides.{nat_tests}
use Rattle.hk_base.specs.TailoringParts.{TailoringParts}
use Rattle.hk_base.specs.Fields.{octets_of}
use Rattle.hk_base.specs.Fit.{IsFit}
use Rattle.hk_base.specs.Parameters.{parameter}
use Rattle.body_fields.specs.Spelling.{AllFit, flag_octets}
use Rattle.body_fields.specs.declared.fault.BodyFault.{BodyFault}
use Rattle.hk_base.specs.declared.types.Kind.{Kind}
use Rattle.hk_base.specs.declared.types.Kind.TheVariants.{Housekeeping, Diagnostic}
use Rattle.hk_base.specs.declared.types.Key.{Key}
use Rattle.hk_base.specs.declared.types.Definition.{Definition}
use Rattle.hk_base.proofs.FieldLemmas.{length-digits}
use Rattle.body_fields.proofs.FitLemmas.{known_in_octets, param_in_octets}
use Rattle.st03_grammar.specs.Bodies as bodies03
use Rattle.st03_grammar.specs.Spelling as st03
use Rattle.st03_grammar.specs.Spelling.{IsRequest03, RequestFits, by_kind, each_subtype}
use Rattle.st03_grammar.specs.declared.bodies.Added.{Added}
use Rattle.st03_grammar.specs.declared.bodies.Each.{Each}
use Rattle.st03_grammar.specs.declared.bodies.Each.TheVariants as each
use Rattle.st03_grammar.specs.declared.bodies.Request03.{Request03}
use Rattle.st03_grammar.specs.declared.bodies.Request03.TheVariants.{Create, Append, OnEach, Intervals}
use Rattle.st03_grammar.proofs.Fitting.{request_fits}
use Rattle.st04_grammar.specs.Bodies as bodies04
use Rattle.st04_grammar.specs.Spelling as st04
use Rattle.st04_grammar.specs.declared.bodies.Request04.{Request04}
use Rattle.st04_grammar.specs.declared.bodies.Request04.TheVariants as stat
use Rattle.st04_grammar.proofs.SpellingLemmas.{numeric_known}
use Rattle.st20_grammar.specs.Bodies as bodies20
use Rattle.st20_grammar.specs.Spelling as st20
use Rattle.st20_grammar.specs.declared.bodies.Request20.{Request20}
use Rattle.st20_grammar.specs.declared.bodies.Request20.TheVariants as values
use Rattle.st20_grammar.proofs.SpellingLemmas.{set_fits}
use Rattle.body_fields.specs.Reading.{param_fault}
use Rattle.body_fields.specs.Spelling.{AllStand}
use Rattle.pus_messages.specs.declared.message.RequestBody.{RequestBody}
use Rattle.pus_messages.specs.declared.message.RequestBody.TheVariants as ask
use Rattle.message_words.specs.Words.{kind_word, each_word, flag_word, deletion_words, lists_words, pair_words, setting_words, housekeeping_words, statistics_words, value_words}
use Rattle.message_words.specs.Numbers.{number_in}
use Rattle.message_words.specs.Commands.{kind_in, structure_subtype, statistics_subtype}
use Rattle.message_words.specs.BodyOctets.{field, lists_octets, list_octets, deleted, number_octets, structure_octets, statistics_octets, request20_octets}
use Rattle.message_words.specs.Reading.{most_octets, sound, sound_body, typed, housekeeping_in, statistics_in, body_in}
use Rattle.message_words.specs.declared.commands.StructureCommand.{StructureCommand}
use Rattle.message_words.specs.declared.commands.StructureCommand.TheVariants as structures
use Rattle.message_words.specs.declared.commands.StatisticsCommand.{StatisticsCommand}
use Rattle.message_words.specs.declared.commands.StatisticsCommand.TheVariants as commands
use Rattle.message_words.specs.declared.commands.ValueCommand.TheVariants as value_commands
use Rattle.message_words.proofs.SpelledOctets.{field-decimal, list-spelled, small}
use Rattle.message_words.proofs.SpelledLists.{AreNarrow, lists-spelled, pairs-spelled, decimal-not_all}
use Rattle.message_words.proofs.SpelledValues.{settings-spelled}
use Rattle.message_words.proofs.Lengths.{length-list, length-lists, length-behind, length-pairs, length-settings}

sound_again : {A : Type 0} (read : List ℕ → Option (Result A BodyFault)) (octets : List ℕ) (x : A) → length octets ≤ most_octets → read octets ≡ Some (Ok x) → sound_body read octets ≡ Some x
sound_again read octets x few e =
    let test : nat_lt most_octets (length octets) ≡ false = grind (arith, nat_tests) in
    ap (λ (b : Bool). if b then None else sound (read octets)) test ∙ ap sound e

-- a body by its subtype and its octets
again_by : {A : Type 0} (wrap : A → RequestBody) (service : ℕ) (read : ℕ → List ℕ → Option (Result A BodyFault)) (s subtype : ℕ) (o octets : List ℕ) (r : A)
    → s ≡ subtype → o ≡ octets → length octets ≤ most_octets → read subtype octets ≡ Some (Ok r)
    → option_map (λ r. typed service s (wrap r)) (sound_body (read s) o) ≡ Some (typed service subtype (wrap r))
again_by {A} wrap service read s subtype o octets r type_is octets_are few again =
    ap (λ s. option_map (λ (x : A). typed service s (wrap x)) (sound_body (read s) o)) type_is
    ∙ ap (λ o. option_map (λ (x : A). typed service subtype (wrap x)) (sound_body (read subtype) o)) octets_are
    ∙ ap (option_map (λ (x : A). typed service subtype (wrap x))) (sound_again (read subtype) octets r few again)

-- the requests of a service are read from their octets
abbrev pub Again03 : TailoringParts → Type 0
Again03 t = (r : Request03) → IsRequest03 t r → bodies03.request_body t (st03.request_subtype r) (st03.request_octets t r) ≡ Some (Ok r)

-- the requests of a service are read from their octets
abbrev pub Again04 : TailoringParts → Type 0
Again04 t = (r : Request04) → st04.IsRequest t r → bodies04.request_body t (st04.request_subtype r) (st04.request_octets t r) ≡ Some (Ok r)

-- the requests of a service are read from their octets
abbrev pub Again20 : TailoringParts → Type 0
Again20 t = (r : Request20) → st20.IsRequest t r → bodies20.request_body t (st20.request_subtype r) (st20.request_octets t r) ≡ Some (Ok r)

kind_again : (kind : Kind) → kind_in (kind_word kind) ≡ kind
kind_again Housekeeping = refl
kind_again Diagnostic = refl

housekeeping_again : (t : TailoringParts) (r : Request03) (command : StructureCommand) (kind : Kind) (words : List (List ℕ)) → Again03 t → IsRequest03 t r
    → structure_subtype command kind ≡ st03.request_subtype r → structure_octets t command words ≡ st03.request_octets t r
    → length (st03.request_octets t r) ≤ most_octets → housekeeping_in t command (kind_word kind ∷ words) ≡ Some (typed 3 (st03.request_subtype r) (ask.Hk r))
housekeeping_again t r command kind words again is type_is octets_are few =
    again_by ask.Hk 3 (bodies03.request_body t) (structure_subtype command (kind_in (kind_word kind))) (st03.request_subtype r) (structure_octets t command words) (st03.request_octets t r) r
    (ap (structure_subtype command) (kind_again kind) ∙ type_is) octets_are few (again r is)

each_again : (t : TailoringParts) (what : Each) (words : List (List ℕ)) → body_in t (each_word what ∷ words) ≡ housekeeping_in t (structures.OnEach what) words
each_again t each.Delete words = refl
each_again t each.Enable words = refl
each_again t each.Disable words = refl
each_again t each.Show words = refl
each_again t each.OneShot words = refl
each_again t each.ShowPeriodic words = refl

creation-spelled : (t : TailoringParts) (key : Key) (d : Definition) → AreNarrow t → RequestFits t (Create key d)
    → structure_octets t structures.Create (decimal key.id ∷ codes "interval" ∷ decimal d.interval ∷ lists_words d.simple d.arrays) ≡ st03.request_octets t (Create key d)
creation-spelled t key d few fit =
    let id : List ℕ = octets_of t.widths.structure_octets key.id in
    let interval : List ℕ = octets_of t.widths.interval_octets d.interval in
    let lists : List ℕ = lists_octets t (lists_words d.simple d.arrays) in
    ap (λ octets. octets ++ (field t.widths.interval_octets (number_in (decimal d.interval)) ++ lists)) (field-decimal t.widths.structure_octets key.id few.structures fit.0)
    ∙ ap (λ octets. id ++ (octets ++ lists)) (field-decimal t.widths.interval_octets d.interval few.intervals fit.1)
    ∙ ap (λ octets. id ++ (interval ++ octets)) (lists-spelled t d.simple d.arrays few fit.2)

appending-spelled : (t : TailoringParts) (key : Key) (a : Added) → AreNarrow t → RequestFits t (Append key a)
    → structure_octets t structures.Append (decimal key.id ∷ lists_words a.simple a.arrays) ≡ st03.request_octets t (Append key a)
appending-spelled t key a few fit =
    ap (λ octets. octets ++ lists_octets t (lists_words a.simple a.arrays)) (field-decimal t.widths.structure_octets key.id few.structures fit.0)
    ∙ ap (λ octets. octets_of t.widths.structure_octets key.id ++ octets) (lists-spelled t a.simple a.arrays few fit.1)

-- a request on structures is read from its words
pub housekeeping-again : (t : TailoringParts) (r : Request03) → AreNarrow t → Again03 t → IsRequest03 t r
    → body_in t (housekeeping_words r) ≡ Some (typed 3 (st03.request_subtype r) (ask.Hk r))
housekeeping-again t (Create key d) few again is =
    let fit : RequestFits t (Create key d) = request_fits t (Create key d) is in
    housekeeping_again t (Create key d) structures.Create key.kind (decimal key.id ∷ codes "interval" ∷ decimal d.interval ∷ lists_words d.simple d.arrays) again is refl
    (creation-spelled t key d few fit)
    (omega (
      arith,
      length-behind t t.widths.structure_octets key.id (octets_of t.widths.interval_octets d.interval ++ st03.lists_octets t d.simple d.arrays) 263172 few.structures
          (length-behind t t.widths.interval_octets d.interval (st03.lists_octets t d.simple d.arrays) 263168 few.intervals (length-lists t d.simple d.arrays few fit.2)),
    ))
housekeeping-again t (Append key a) few again is =
    let fit : RequestFits t (Append key a) = request_fits t (Append key a) is in
    housekeeping_again t (Append key a) structures.Append key.kind (decimal key.id ∷ lists_words a.simple a.arrays) again is refl
    (appending-spelled t key a few fit)
    (omega (arith, length-behind t t.widths.structure_octets key.id (st03.lists_octets t a.simple a.arrays) 263168 few.structures (length-lists t a.simple a.arrays few fit.1)))
housekeeping-again t (OnEach what kind ids) few again is =
    let fit : RequestFits t (OnEach what kind ids) = request_fits t (OnEach what kind ids) is in
    each_again t what (kind_word kind ∷ map decimal ids)
    ∙ housekeeping_again t (OnEach what kind ids) (structures.OnEach what) kind (map decimal ids) again is refl
    (list-spelled t t.widths.structure_octets ids few.structures fit.1 fit.2)
    (omega (arith, length-list t t.widths.structure_octets ids few few.structures fit.0))
housekeeping-again t (Intervals kind pairs) few again is =
    let fit : RequestFits t (Intervals kind pairs) = request_fits t (Intervals kind pairs) is in
    housekeeping_again t (Intervals kind pairs) structures.Intervals kind (flat_map pair_words pairs) again is refl
    (pairs-spelled t pairs few fit.1 fit.2)
    (omega (arith, length-pairs t pairs few fit.0))

-- known parameters have room in their octets
known_fit : (t : TailoringParts) (ids : List ℕ) → IsFit t → AllByRecursion (λ id. IsSome (parameter t id)) ids → AllFit t.widths.parameter_octets ids
known_fit t [] fit known = tt
known_fit t (id ∷ ids) fit known = (known_in_octets t id fit known.0, known_fit t ids fit known.1)

pub numeric_fit : (t : TailoringParts) (least : ℕ) (ids : List ℕ) → IsFit t → st04.AreNumericIds t least ids → AllFit t.widths.parameter_octets ids
numeric_fit t least ids fit are = known_fit t ids fit (numeric_known t least ids are)

stand_fit : (t : TailoringParts) (earlier ids : List ℕ) → IsFit t → AllStand (param_fault t) earlier ids → AllFit t.widths.parameter_octets ids
stand_fit t earlier [] fit stand = tt
stand_fit t earlier (id ∷ ids) fit stand = (param_in_octets t earlier id fit stand.0, stand_fit t (id ∷ earlier) ids fit stand.1)

pub ids_fit : (t : TailoringParts) (ids : List ℕ) → IsFit t → st20.AreIds t ids → AllFit t.widths.parameter_octets ids
ids_fit t ids fit are = stand_fit t [] ids fit are.stand

flag-spelled : (b : Bool) → number_octets 1 (flag_word b ∷ []) ≡ flag_octets b
flag-spelled true = refl
flag-spelled false = refl

length-flag : (b : Bool) → length (flag_octets b) ≡ 1
length-flag true = refl
length-flag false = refl

deleted-again : (t : TailoringParts) (ids : List ℕ) → AreNarrow t → AllFit t.widths.parameter_octets ids → deleted (deletion_words ids) ≡ map decimal ids
deleted-again t [] few fit = refl
deleted-again t (id ∷ []) few fit =
    ap (λ (b : Bool). if b then [] else decimal id ∷ []) (decimal-not_all id (small t.widths.parameter_octets id few.params fit.0))
deleted-again t (id ∷ next ∷ ids) few fit = refl

statistics_again : (t : TailoringParts) (r : Request04) (command : StatisticsCommand) (words : List (List ℕ)) → Again04 t → st04.IsRequest t r
    → statistics_subtype command ≡ st04.request_subtype r → statistics_octets t command words ≡ st04.request_octets t r
    → length (st04.request_octets t r) ≤ most_octets → statistics_in t command words ≡ Some (typed 4 (st04.request_subtype r) (ask.Stat r))
statistics_again t r command words again is type_is octets_are few =
    again_by ask.Stat 4 (bodies04.request_body t) (statistics_subtype command) (st04.request_subtype r) (statistics_octets t command words) (st04.request_octets t r) r type_is octets_are few (again r is)

-- a statistics request is read from its words
pub statistics-again : (t : TailoringParts) (r : Request04) → IsFit t → AreNarrow t → Again04 t → st04.IsRequest t r
    → body_in t (statistics_words r) ≡ Some (typed 4 (st04.request_subtype r) (ask.Stat r))
statistics-again t (stat.Report resets) fit few again is =
    statistics_again t (stat.Report resets) commands.Report (flag_word resets ∷ []) again is refl (flag-spelled resets) (omega (arith, length-flag resets))
statistics-again t stat.Reset fit few again is = statistics_again t stat.Reset commands.Reset [] again is refl refl (omega arith)
statistics-again t (stat.Enable n) fit few again is =
    let width : ℕ = t.widths.interval_octets in
    statistics_again t (stat.Enable n) commands.Enable (decimal n ∷ []) again is refl
    (append-nil (field width (number_in (decimal n))) ∙ field-decimal width n few.intervals is.1)
    (omega (arith, length-digits 256 width n, few.intervals))
statistics-again t stat.Disable fit few again is = statistics_again t stat.Disable commands.Disable [] again is refl refl (omega arith)
statistics-again t (stat.Add ids) fit few again is =
    statistics_again t (stat.Add ids) commands.Add (map decimal ids) again is refl
    (list-spelled t t.widths.parameter_octets ids few.params is.count.2 (numeric_fit t 1 ids fit is))
    (omega (arith, length-list t t.widths.parameter_octets ids few few.params is.count.1))
statistics-again t (stat.Delete ids) fit few again is =
    let all_fit : AllFit t.widths.parameter_octets ids = numeric_fit t 0 ids fit is in
    statistics_again t (stat.Delete ids) commands.Delete (deletion_words ids) again is refl
    (ap (list_octets t t.widths.parameter_octets) (deleted-again t ids few all_fit) ∙ list-spelled t t.widths.parameter_octets ids few.params is.count.2 all_fit)
    (omega (arith, length-list t t.widths.parameter_octets ids few few.params is.count.1))
statistics-again t stat.ShowDefinitions fit few again is = statistics_again t stat.ShowDefinitions commands.ShowDefinitions [] again is refl refl (omega arith)

-- a request on parameter values is read from its words
pub values-again : (t : TailoringParts) (r : Request20) → IsFit t → AreNarrow t → Again20 t → st20.IsRequest t r
    → body_in t (value_words r) ≡ Some (typed 20 (st20.request_subtype r) (ask.Par r))
values-again t (values.Report ids) fit few again is =
    again_by ask.Par 20 (bodies20.request_body t) 1 1 (list_octets t t.widths.parameter_octets (map decimal ids)) (st20.request_octets t (values.Report ids)) (values.Report ids) refl
    (list-spelled t t.widths.parameter_octets ids few.params is.count.2 (ids_fit t ids fit is))
    (omega (arith, length-list t t.widths.parameter_octets ids few few.params is.count.1)) (again (values.Report ids) is)
values-again t (values.Set xs) fit few again is =
    again_by ask.Par 20 (bodies20.request_body t) 3 3 (request20_octets t value_commands.Set (flat_map setting_words xs)) (st20.request_octets t (values.Set xs)) (values.Set xs) refl
    (settings-spelled t xs fit few is.count.2 (set_fits t xs is))
    (omega (arith, length-settings t xs fit few is.count.1 (set_fits t xs is))) (again (values.Set xs) is)
