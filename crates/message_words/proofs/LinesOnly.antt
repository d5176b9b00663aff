-- What is read from a line is a request of the grammar whose words the line is.
use Rattle.std.proofs.Common.{◌≡◌, ℕ, ◌^◌, ◌<◌, Bool, true, false, List, [], ◌∷◌, length, Option, Some, None, Result, Ok, Err, refl, ap, subst, arith}
use Rattle.std.specs.Prelude.{◌==◌, ◌&&◌, nat_lt, option_map, IfOk, if◌then◌else◌}
use Rattle.std.specs.Str.{bytes_eq}
use Rattle.std.specs.List.{slice_split}
use Rattle.std.proofs.lemmas.Bool.Decides.{nat_tests}
use Rattle.std.proofs.lemmas.Option.{none-some, same_Some}
use Rattle.std.proofs.lemmas.Slice.Eq.{bytes_eq-Decides}
use Rattle.hk_base.specs.TailoringParts.{TailoringParts}
use Rattle.hk_base.specs.Fit.{IsFit}
use Rattle.body_fields.specs.Spelling.{AreOctets}
use Rattle.hk_base.specs.declared.types.Kind.{Kind}
use Rattle.hk_base.specs.declared.types.Kind.TheVariants.{Housekeeping, Diagnostic}
use Rattle.body_fields.specs.declared.fault.BodyFault.{BodyFault}
use Rattle.st03_grammar.specs.Bodies as bodies03
use Rattle.st03_grammar.specs.Spelling as st03
use Rattle.st03_grammar.specs.Spelling.{IsSpelledRequest, by_kind, each_subtype}
use Rattle.st03_grammar.specs.declared.bodies.Each.{Each}
use Rattle.st03_grammar.specs.declared.bodies.Each.TheVariants as each
use Rattle.st03_grammar.specs.declared.bodies.Request03.{Request03}
use Rattle.st03_grammar.specs.declared.bodies.Request03.TheVariants.{Create, Append, OnEach, Intervals}
use Rattle.st04_grammar.specs.Bodies as bodies04
use Rattle.st04_grammar.specs.Spelling as st04
use Rattle.st04_grammar.specs.declared.bodies.Request04.{Request04}
use Rattle.st04_grammar.specs.declared.bodies.Request04.TheVariants as stat
use Rattle.st20_grammar.specs.Bodies as bodies20
use Rattle.st20_grammar.specs.Spelling as st20
use Rattle.st20_grammar.specs.declared.bodies.Request20.{Request20}
use Rattle.st20_grammar.specs.declared.bodies.Request20.TheVariants as values
use Rattle.pus_messages.specs.Spelling.{request_type, IsRequestBody}
use Rattle.pus_messages.specs.declared.message.Request.{Request}
use Rattle.pus_messages.specs.declared.message.RequestBody.{RequestBody}
use Rattle.pus_messages.specs.declared.message.RequestBody.TheVariants as ask
use Rattle.message_words.specs.Words.{request_text}
use Rattle.message_words.specs.Outcomes.{Gives}
use Rattle.message_words.specs.Numbers.{number_in, hex_value}
use Rattle.message_words.specs.Commands.{command_in, kind_in, structure_subtype, statistics_subtype, value_subtype}
use Rattle.message_words.specs.BodyOctets.{structure_octets, statistics_octets, request20_octets}
use Rattle.message_words.specs.Grammar.{IsOfGround}
use Rattle.message_words.specs.Reading.{most_octets, sound, sound_body, typed, housekeeping_in, statistics_in, request20_in, body_by, body_in, request_with, request_named, with_words, is_ascii, request_in_words}
use Rattle.message_words.specs.declared.bodies.TypedBody.{TypedBody}
use Rattle.message_words.specs.declared.fault.WordsFault.{WordsFault}
use Rattle.message_words.specs.declared.commands.StructureCommand.{StructureCommand}
use Rattle.message_words.specs.declared.commands.StatisticsCommand.{StatisticsCommand}
use Rattle.message_words.specs.declared.commands.ValueCommand.{ValueCommand}
use Rattle.message_words.specs.declared.commands.Command.{Command}
use Rattle.message_words.specs.declared.commands.Command.TheVariants.{Hk, Stat, Par}
use Rattle.message_words.proofs.LineLemmas.{left_true, right_true}
use Rattle.message_words.proofs.OctetsAre.{structure_are, statistics_are, request20_are}

-- The requests of the services are read from no other octets than their spelling.
pub record AreSpelledOnly (t : TailoringParts) : Type 0 where
  pub housekeeping : (subtype : ℕ) (octets : List ℕ) (r : Request03) → AreOctets octets → bodies03.request_body t subtype octets ≡ Some (Ok r) → IsSpelledRequest t subtype r octets
  pub statistics : (subtype : ℕ) (octets : List ℕ) (r : Request04) → AreOctets octets → bodies04.request_body t subtype octets ≡ Some (Ok r)
      → (subtype ≡ st04.request_subtype r) × (octets ≡ st04.request_octets t r) × st04.IsRequest t r
  pub values : (subtype : ℕ) (octets : List ℕ) (r : Request20) → AreOctets octets → bodies20.request_body t subtype octets ≡ Some (Ok r)
      → (subtype ≡ st20.request_subtype r) × (octets ≡ st20.request_octets t r) × st20.IsRequest t r

-- a test that lets something through passed
if_some : {X : Type 0} (b : Bool) (o : Option X) (x : X) → (if b then o else None) ≡ Some x → (b ≡ true) × (o ≡ Some x)
if_some true o x e = (refl, e)
if_some false o x e = absurd (none-some x e)

-- a test that holds something back didn't pass
unless_some : {X : Type 0} (b : Bool) (o : Option X) (x : X) → (if b then None else o) ≡ Some x → o ≡ Some x
unless_some false o x e = e
unless_some true o x e = absurd (none-some x e)

map_some : {X Y : Type 0} (f : X → Y) (o : Option X) (y : Y) → option_map f o ≡ Some y → (x : X) × (o ≡ Some x) × (f x ≡ y)
map_some f (Some x) y e = (x, refl, same_Some (f x) y e)
map_some f None y e = absurd (none-some y e)

sound_some : {A : Type 0} (o : Option (Result A BodyFault)) (x : A) → sound o ≡ Some x → o ≡ Some (Ok x)
sound_some (Some (Ok y)) x e = ap (λ z. Some (Ok z)) (same_Some y x e)
sound_some (Some (Err fault)) x e = absurd (none-some x e)
sound_some None x e = absurd (none-some x e)

sound_body_some : {A : Type 0} (read : List ℕ → Option (Result A BodyFault)) (octets : List ℕ) (x : A) → sound_body read octets ≡ Some x → read octets ≡ Some (Ok x)
sound_body_some read octets x e = sound_some (read octets) x (unless_some (nat_lt most_octets (length octets)) (sound (read octets)) x e)

-- a body of the grammar with its service and subtype
abbrev IsTyped : TailoringParts → TypedBody → Type 0
IsTyped t b = (b.service ≡ (request_type b.body).0) × (b.subtype ≡ (request_type b.body).1) × IsRequestBody t b.body

kind_small : (kind : Kind) (first second : ℕ) → first < 2 ^ 8 → second < 2 ^ 8 → by_kind kind first second < 2 ^ 8
kind_small Housekeeping first second low high = low
kind_small Diagnostic first second low high = high

each_small : (what : Each) (kind : Kind) → each_subtype what kind < 2 ^ 8
each_small each.Delete kind = kind_small kind 3 4 (omega arith) (omega arith)
each_small each.Enable kind = kind_small kind 5 7 (omega arith) (omega arith)
each_small each.Disable kind = kind_small kind 6 8 (omega arith) (omega arith)
each_small each.Show kind = kind_small kind 9 11 (omega arith) (omega arith)
each_small each.OneShot kind = kind_small kind 27 28 (omega arith) (omega arith)
each_small each.ShowPeriodic kind = kind_small kind 33 34 (omega arith) (omega arith)

structure_small : (r : Request03) → st03.request_subtype r < 2 ^ 8
structure_small (Create key d) = kind_small key.kind 1 2 (omega arith) (omega arith)
structure_small (Append key a) = kind_small key.kind 29 30 (omega arith) (omega arith)
structure_small (OnEach what kind ids) = each_small what kind
structure_small (Intervals kind pairs) = kind_small kind 31 32 (omega arith) (omega arith)

statistics_small : (r : Request04) → st04.request_subtype r < 2 ^ 8
statistics_small (stat.Report resets) = omega arith
statistics_small stat.Reset = omega arith
statistics_small (stat.Enable n) = omega arith
statistics_small stat.Disable = omega arith
statistics_small (stat.Add ids) = omega arith
statistics_small (stat.Delete ids) = omega arith
statistics_small stat.ShowDefinitions = omega arith

values_small : (r : Request20) → st20.request_subtype r < 2 ^ 8
values_small (values.Report ids) = omega arith
values_small (values.Set settings) = omega arith

-- the service and the subtype of a body have room in their octets
type_small : (b : RequestBody) → ((request_type b).0 < 2 ^ 8) × ((request_type b).1 < 2 ^ 8)
type_small (ask.Hk r) = (omega arith, structure_small r)
type_small (ask.Stat r) = (omega arith, statistics_small r)
type_small (ask.Par r) = (omega arith, values_small r)

housekeeping-only : (t : TailoringParts) (command : StructureCommand) (words : List (List ℕ)) (b : TypedBody) → AreSpelledOnly t → housekeeping_in t command words ≡ Some b → IsTyped t b
housekeeping-only t command [] b laws e = absurd (none-some b e)
housekeeping-only t command (kind ∷ words) b laws e =
    let subtype : ℕ = structure_subtype command (kind_in kind) in
    let octets : List ℕ = structure_octets t command words in
    let found = map_some (λ (r : Request03). typed 3 subtype (ask.Hk r)) (sound_body (bodies03.request_body t subtype) octets) b e in
    let is = laws.housekeeping subtype octets found.0 (structure_are t command words) (sound_body_some (bodies03.request_body t subtype) octets found.0 found.1) in
    subst (IsTyped t) found.2 (refl, is.0, is.2)

statistics-only : (t : TailoringParts) (command : StatisticsCommand) (words : List (List ℕ)) (b : TypedBody) → AreSpelledOnly t → statistics_in t command words ≡ Some b → IsTyped t b
statistics-only t command words b laws e =
    let subtype : ℕ = statistics_subtype command in
    let octets : List ℕ = statistics_octets t command words in
    let found = map_some (λ (r : Request04). typed 4 subtype (ask.Stat r)) (sound_body (bodies04.request_body t subtype) octets) b e in
    let is = laws.statistics subtype octets found.0 (statistics_are t command words) (sound_body_some (bodies04.request_body t subtype) octets found.0 found.1) in
    subst (IsTyped t) found.2 (refl, is.0, is.2)

request20-only : (t : TailoringParts) (command : ValueCommand) (words : List (List ℕ)) (b : TypedBody) → AreSpelledOnly t → request20_in t command words ≡ Some b → IsTyped t b
request20-only t command words b laws e =
    let subtype : ℕ = value_subtype command in
    let octets : List ℕ = request20_octets t command words in
    let found = map_some (λ (r : Request20). typed 20 subtype (ask.Par r)) (sound_body (bodies20.request_body t subtype) octets) b e in
    let is = laws.values subtype octets found.0 (request20_are t command words) (sound_body_some (bodies20.request_body t subtype) octets found.0 found.1) in
    subst (IsTyped t) found.2 (refl, is.0, is.2)

body_by-only : (t : TailoringParts) (words : List (List ℕ)) (command : Option Command) (b : TypedBody) → AreSpelledOnly t → body_by t words command ≡ Some b → IsTyped t b
body_by-only t words None b laws e = absurd (none-some b e)
body_by-only t words (Some (Hk command)) b laws e = housekeeping-only t command words b laws e
body_by-only t words (Some (Stat command)) b laws e = statistics-only t command words b laws e
body_by-only t words (Some (Par command)) b laws e = request20-only t command words b laws e

body-only : (t : TailoringParts) (words : List (List ℕ)) (b : TypedBody) → AreSpelledOnly t → body_in t words ≡ Some b → IsTyped t b
body-only t [] b laws e = absurd (none-some b e)
body-only t (what ∷ words) b laws e = body_by-only t words (command_in what) b laws e

below : (n most : ℕ) → nat_lt n most ≡ true → n < most
below n most e = grind (arith, nat_tests)

named-only : (t : TailoringParts) (words : List (List ℕ)) (r : Request) → IsFit t → AreSpelledOnly t → request_named t words ≡ Some r → IsOfGround t r
named-only t [] r fit laws e = absurd (none-some r e)
named-only t (count ∷ []) r fit laws e = absurd (none-some r e)
named-only t (count ∷ flags ∷ words) r fit laws e =
    let n : ℕ = number_in count in
    let f : ℕ = hex_value flags in
    let passed = if_some (nat_lt n 16384 && nat_lt f 16) (option_map (request_with t n f) (body_in t words)) r e in
    let found = map_some (request_with t n f) (body_in t words) r passed.1 in
    let is = body-only t words found.0 laws found.1 in
    let few = type_small found.0.body in
    subst (IsOfGround t) found.2
    (record {
      message = record {
        headers = record {
          apid = omega (arith, fit.widths.apid);
          count = below n 16384 (left_true (nat_lt n 16384) (nat_lt f 16) passed.0);
          flags = below f 16 (right_true (nat_lt n 16384) (nat_lt f 16) passed.0);
          service = omega (arith, is.0, few.0);
          subtype = omega (arith, is.1, few.1);
          source = fit.widths.address;
        };
        service = is.0;
        subtype = is.1;
        body = is.2;
      };
      apid = refl;
      source = refl;
    })

with_words-only : (line : List ℕ) (o : Option Request) (r : Request) → with_words line o ≡ Some r → (o ≡ Some r) × (request_text r ≡ line)
with_words-only line None r e = absurd (none-some r e)
with_words-only line (Some q) r e =
    let passed = if_some (bytes_eq (request_text q) line) (Some q) r e in
    (passed.1, subst (λ q. request_text q ≡ line) (same_Some q r passed.1) ((bytes_eq-Decides (request_text q) line).0 passed.0))

-- what is read from a line is a request of the grammar whose words the line is
pub request-only : (t : TailoringParts) (line : List ℕ) (r : Request) → IsFit t → AreSpelledOnly t → request_in_words t line ≡ Some r → IsOfGround t r × (request_text r ≡ line)
request-only t line r fit laws e =
    let words : List (List ℕ) = slice_split (λ octet. octet == 32) line in
    let passed = if_some (is_ascii line) (with_words line (request_named t words)) r e in
    let is = with_words-only line (request_named t words) r passed.1 in
    (named-only t words r fit laws is.0, is.1)

-- what holds of whatever is given holds of an Ok
pub ok_from_gives : {X : Type 0} (result : Result X WordsFault) (given : Option X) (P : X → Type 0) → ((x : X) → given ≡ Some x → P x) → Gives result given → IfOk result P
ok_from_gives (Ok x) given P holds gives = holds x gives
ok_from_gives (Err fault) given P holds gives = tt
