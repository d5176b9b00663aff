-- The effect that is found of an instruction on a structure is the one that it has.
use Rattle.std.proofs.Common.{arith, ◌≡◌, ℕ, ◌<◌, ◌≤◌, ◌^◌, ◌%◌, refl, sym, ◌∙◌, ap, ap₂, subst, List, [], ◌∷◌, length, Bool, true, false, ◌==◌, not, cond, nat_lt, Option, Some, None, Ok, Err, Result}
use Rattle.std.specs.Prelude.{IfSome, find, option_map, if◌then◌else◌}
use Rattle.std.specs.List.{AllByRecursion}
use Rattle.std.specs.Result.{result_err}
use Rattle.std.proofs.lemmas.Bool.Decides.{nat_tests}
use Rattle.std.proofs.lemmas.Option.{none-some, same_Some}
use Rattle.std.proofs.Math.Nat.{pow-le-pow_right}
use Rattle.hk_base.specs.Definitions.{IsWellFormed, first_repeat, parameter_ids, listed_ids}
use Rattle.hk_base.specs.Definitions as definitions
use Rattle.hk_base.specs.Fit.{IsFit}
use Rattle.hk_base.specs.Payload.{IsValid, payload_size}
use Rattle.hk_base.specs.TailoringParts.{TailoringParts}
use Rattle.hk_base.specs.declared.types.Definition.{Definition}
use Rattle.hk_base.specs.declared.types.Key.{Key}
use Rattle.hk_base.specs.declared.types.Structure.{Structure}
use Rattle.hk_base.specs.declared.types.SuperList.{SuperList}
use Rattle.hk_base.proofs.Sizes.{size_by_lists}
use Rattle.st03_grammar.specs.Instructions.{StructureChange, create, append, set_interval, plain}
use Rattle.st03_grammar.specs.declared.bodies.Each.TheVariants as each
use Rattle.pus_messages.specs.Instructions.{on_structure}
use Rattle.report_structures.specs.Changes.{IsGrammarChange, IsGrammarArray}
use Rattle.report_structures.specs.Effects.{effect, state_unless, if_enabled, if_doubled, if_uneven, if_too_many, if_too_wide, extended_definition}
use Rattle.report_structures.specs.declared.refusal.Refusal.{Refusal}
use Rattle.report_structures.specs.declared.refusal.Refusal.TheVariants.{Exists, Absent, Enabled, Doubled, BadRepetition, TooMany, TooWide}
use Rattle.report_structures.proofs.EffectLemmas.{err_is_not_ok, state_unless-ok}
use Rattle.hk_world.specs.States.{boot_state}
use Rattle.hk_world.specs.Timelines.{Done, structure_after}
use Rattle.board_steps.specs.Cores.{Core, state_of}
use Rattle.board_state.specs.Holdings.{held_at, IsHeld, AreStructures}
use Rattle.board_state.specs.declared.structures.Held.{Held}
use Rattle.board_core.specs.Causes.{IsSmallRefusal}
use Rattle.board_core.specs.Effects.{Leaves, IsEffectOf, kind_of, effect_by}
use Rattle.board_core.specs.declared.effect.Effect.TheVariants.{Refused, Delete}

-- where a structure is left none of the checks has a refusal
abbrev pub AreNone : List (Option Refusal) → Type 0
AreNone checks = AllByRecursion (λ c. c ≡ None) checks

all-none : (checks : List (Option Refusal)) (state a : Option Structure) → state_unless checks state ≡ Ok a → AreNone checks
all-none [] state a e = tt
all-none (None ∷ checks) state a e = (refl, all-none checks state a e)
all-none (Some r ∷ checks) state a e = absurd (err_is_not_ok e)

-- a refusal is that of one of the checks
one-of : (checks : List (Option Refusal)) (state : Option Structure) (r : Refusal) → AllByRecursion (λ c. IfSome c IsSmallRefusal) checks → state_unless checks state ≡ Err r → IsSmallRefusal r
one-of [] state r small e = absurd (err_is_not_ok (sym e))
one-of (None ∷ checks) state r small e = one-of checks state r small.1 e
one-of (Some x ∷ checks) state r small e = subst IsSmallRefusal (same x r e) small.0
  where
    same : (x r : Refusal) → ◌≡◌ {A = Result (Option Structure) Refusal} (Err x) (Err r) → x ≡ r
    same x r q = cc

narrow-is : (t : TailoringParts) (d : Definition) → if_too_wide t d ≡ None → payload_size t d ≤ t.widths.max_payload
narrow-is t d e = go (nat_lt t.widths.max_payload (payload_size t d)) refl e
  where
    go : (b : Bool) → nat_lt t.widths.max_payload (payload_size t d) ≡ b → (if b then Some (TooWide (payload_size t d)) else None) ≡ None → payload_size t d ≤ t.widths.max_payload
    go true q k = absurd (none-some (TooWide (payload_size t d)) (sym k))
    go false q k = grind (arith, nat_tests)

same-some : (a b : Structure) → ◌≡◌ {A = Result (Option Structure) Refusal} (Ok (Some a)) (Ok (Some b)) → a ≡ b
same-some a b e = cc

some-left : (a b : Structure) → ◌≡◌ {A = Option Structure} (Some a) (Some b) → a ≡ b
some-left a b e = same_Some a b e

-- a structure that a change leaves isn't too wide
pub left-narrow : (t : TailoringParts) (change : StructureChange) (state : Option Structure) (after : Structure) → IfSome state (λ s. IsValid t s.def) → effect t change state ≡ Ok (Some after)
    → payload_size t after.def ≤ t.widths.max_payload
left-narrow t (create d) None after h e =
    let none = all-none (if_doubled [] (parameter_ids d) ∷ if_too_wide t d ∷ []) (Some (record { def = d; enabled = false })) (Some after) e in
    let is = some-left (record { def = d; enabled = false }) after (state_unless-ok (if_doubled [] (parameter_ids d) ∷ if_too_wide t d ∷ []) (Some (record { def = d; enabled = false })) (Some after) e) in
    subst (λ (s : Structure). payload_size t s.def ≤ t.widths.max_payload) is (narrow-is t d none.1.0)
left-narrow t (create d) (Some s) after h e = absurd (err_is_not_ok e)
left-narrow t (append a) None after h e = absurd (err_is_not_ok e)
left-narrow t (append a) (Some s) after h e =
    let longer : Definition = extended_definition s.def a in
    let checks : List (Option Refusal) =
    if_enabled s ∷ if_doubled (parameter_ids s.def) (listed_ids a.simple a.arrays) ∷ if_uneven s.def.interval a.arrays ∷ if_too_many (length longer.simple) ∷ if_too_many (length longer.arrays)
    ∷ if_too_wide t longer ∷ [] in
    let none = all-none checks (Some (record { def = longer; enabled = s.enabled })) (Some after) e in
    let is = some-left (record { def = longer; enabled = s.enabled }) after (state_unless-ok checks (Some (record { def = longer; enabled = s.enabled })) (Some after) e) in
    subst (λ (x : Structure). payload_size t x.def ≤ t.widths.max_payload) is (narrow-is t longer none.1.1.1.1.1.0)
left-narrow t (set_interval n) None after h e = absurd (err_is_not_ok e)
left-narrow t (set_interval n) (Some s) after h e =
    let other : Definition = record s.def { interval = n } in
    let is = some-left (record { def = other; enabled = s.enabled }) after (state_unless-ok (if_uneven n s.def.arrays ∷ []) (Some (record { def = other; enabled = s.enabled })) (Some after) e) in
    let same : payload_size t s.def ≡ payload_size t other = size_by_lists t s.def ∙ sym (size_by_lists t other) in
    subst (λ (x : Structure). payload_size t x.def ≤ t.widths.max_payload) is (subst (λ k. k ≤ t.widths.max_payload) same h.narrow)
left-narrow t (plain p) None after h e = absurd (err_is_not_ok e)
left-narrow t (plain each.Delete) (Some s) after h e = absurd (let q = state_unless-ok (if_enabled s ∷ []) None (Some after) e in none-some after q)
left-narrow t (plain each.Enable) (Some s) after h e = subst (λ (x : Structure). payload_size t x.def ≤ t.widths.max_payload) (same-some (record { def = s.def; enabled = true }) after e) h.narrow
left-narrow t (plain each.Disable) (Some s) after h e = subst (λ (x : Structure). payload_size t x.def ≤ t.widths.max_payload) (same-some (record { def = s.def; enabled = false }) after e) h.narrow
left-narrow t (plain each.Show) (Some s) after h e = subst (λ (x : Structure). payload_size t x.def ≤ t.widths.max_payload) (same-some s after e) h.narrow
left-narrow t (plain each.OneShot) (Some s) after h e = subst (λ (x : Structure). payload_size t x.def ≤ t.widths.max_payload) (same-some s after e) h.narrow
left-narrow t (plain each.ShowPeriodic) (Some s) after h e = subst (λ (x : Structure). payload_size t x.def ≤ t.widths.max_payload) (same-some s after e) h.narrow

-- a structure is left
pub some-effect : (c : Core) (key : Key) (change : StructureChange) (after : Structure) → key.id < 256 ^ c.tailoring.widths.structure_octets → IfSome ((state_of c).structure key) (λ s. IsValid c.tailoring s.def)
    → IsWellFormed c.tailoring after.def → effect c.tailoring change ((state_of c).structure key) ≡ Ok (Some after) → IsEffectOf c (on_structure key change) (effect_by (kind_of change) key after)
some-effect c key change after id h formed e = go change refl
  where
    leaves : (made : StructureChange) → change ≡ made → Leaves c (on_structure key change) key made (Some after)
    leaves made q =
        record {
          is = ap (on_structure key) q;
          id = id;
          leaves = ap (λ m. effect c.tailoring m ((state_of c).structure key)) (sym q) ∙ e;
          valid = record { formed = formed; narrow = left-narrow c.tailoring change ((state_of c).structure key) after h e };
        }

    gone : (o : Option Structure) → effect c.tailoring (plain each.Delete) o ≡ Ok (Some after) → ⊥
    gone None q = err_is_not_ok q
    gone (Some s) q = none-some after (state_unless-ok (if_enabled s ∷ []) None (Some after) q)

    go : (made : StructureChange) → change ≡ made → IsEffectOf c (on_structure key change) (effect_by (kind_of made) key after)
    go (create d) q = (create d, leaves (create d) q, tt)
    go (append a) q = (append a, leaves (append a) q, tt, refl)
    go (set_interval n) q = (set_interval n, leaves (set_interval n) q, tt, refl)
    go (plain each.Enable) q = (plain each.Enable, leaves (plain each.Enable) q, tt, refl)
    go (plain each.Disable) q = (plain each.Disable, leaves (plain each.Disable) q, tt, refl)
    go (plain each.Delete) q = absurd (gone ((state_of c).structure key) (leaves (plain each.Delete) q).leaves)
    go (plain each.OneShot) q = (after, leaves (plain each.OneShot) q)
    go (plain each.Show) q = leaves (plain each.Show) q
    go (plain each.ShowPeriodic) q = leaves (plain each.ShowPeriodic) q

some-none : (a : Structure) → ◌≡◌ {A = Result (Option Structure) Refusal} (Ok (Some a)) (Ok None) → ⊥
some-none a e = cc

-- none is left
pub none-effect : (c : Core) (key : Key) (change : StructureChange) → key.id < 256 ^ c.tailoring.widths.structure_octets
    → effect c.tailoring change ((state_of c).structure key) ≡ Ok None → IsEffectOf c (on_structure key change) (Delete key)
none-effect c key change id e = (change, record { is = refl; id = id; leaves = e; valid = tt }, go change ((state_of c).structure key) e)
  where
    unless : (checks : List (Option Refusal)) (s : Structure) → state_unless checks (Some s) ≡ Ok None → ⊥
    unless checks s q = none-some s (sym (state_unless-ok checks (Some s) None q))

    go : (made : StructureChange) (o : Option Structure) → effect c.tailoring made o ≡ Ok None → made ≡ plain each.Delete
    go (create d) None q = absurd (unless (if_doubled [] (parameter_ids d) ∷ if_too_wide c.tailoring d ∷ []) (record { def = d; enabled = false }) q)
    go (create d) (Some s) q = absurd (err_is_not_ok q)
    go (append a) None q = absurd (err_is_not_ok q)
    go (append a) (Some s) q =
        let longer : Definition = extended_definition s.def a in
        absurd (unless (if_enabled s ∷ if_doubled (parameter_ids s.def) (listed_ids a.simple a.arrays) ∷ if_uneven s.def.interval a.arrays ∷ if_too_many (length longer.simple)
        ∷ if_too_many (length longer.arrays) ∷ if_too_wide c.tailoring longer ∷ []) (record { def = longer; enabled = s.enabled }) q)
    go (set_interval n) None q = absurd (err_is_not_ok q)
    go (set_interval n) (Some s) q = absurd (unless (if_uneven n s.def.arrays ∷ []) (record { def = record s.def { interval = n }; enabled = s.enabled }) q)
    go (plain p) None q = absurd (err_is_not_ok q)
    go (plain each.Delete) (Some s) q = refl
    go (plain each.Enable) (Some s) q = absurd (some-none (record { def = s.def; enabled = true }) q)
    go (plain each.Disable) (Some s) q = absurd (some-none (record { def = s.def; enabled = false }) q)
    go (plain each.Show) (Some s) q = absurd (some-none s q)
    go (plain each.OneShot) (Some s) q = absurd (some-none s q)
    go (plain each.ShowPeriodic) (Some s) q = absurd (some-none s q)

-- a repetition number of two octets and an interval of the grammar have room in a cause
module _ (t : TailoringParts) (fit : IsFit t) where
  octets-small : 256 ^ t.widths.repetition_octets ≤ 256 ^ 2
  octets-small = let few = fit.widths.repetition_octets.1 in let some : 0 < 256 = omega arith in pow-le-pow_right some few

  uneven-small : (n : ℕ) (arrays : List SuperList) → n ≤ t.widths.max_interval → AllByRecursion (λ a. a.repetition < 256 ^ t.widths.repetition_octets) arrays → IfSome (if_uneven n arrays) IsSmallRefusal
  uneven-small n arrays le h = go (find (λ a. not (n % a.repetition == 0)) arrays) (found arrays h)
    where
      found : (xs : List SuperList) → AllByRecursion (λ a. a.repetition < 256 ^ t.widths.repetition_octets) xs
          → IfSome (find (λ a. not (n % a.repetition == 0)) xs) (λ a. a.repetition < 256 ^ t.widths.repetition_octets)
      found [] k = tt
      found (a ∷ xs) k = by (not (n % a.repetition == 0)) (found xs k.1)
        where
          by : (b : Bool) → IfSome (find (λ a. not (n % a.repetition == 0)) xs) (λ a. a.repetition < 256 ^ t.widths.repetition_octets)
              → IfSome (cond b (Some a) (find (λ a. not (n % a.repetition == 0)) xs)) (λ a. a.repetition < 256 ^ t.widths.repetition_octets)
          by true more = k.0
          by false more = more

      go : (o : Option SuperList) → IfSome o (λ a. a.repetition < 256 ^ t.widths.repetition_octets) → IfSome (option_map (λ a. BadRepetition a.repetition n) o) IsSmallRefusal
      go None k = tt
      go (Some a) k = let small = octets-small in let most = fit.widths.max_interval.0.1 in omega (arith, k, small, most, le)

  doubled-small : (earlier ids : List ℕ) → IfSome (if_doubled earlier ids) IsSmallRefusal
  doubled-small earlier ids = go (first_repeat earlier ids)
    where
      go : (o : Option ℕ) → IfSome (option_map Doubled o) IsSmallRefusal
      go None = tt
      go (Some id) = tt

  if-small : (b : Bool) (r : Refusal) → IsSmallRefusal r → IfSome (if b then Some r else None) IsSmallRefusal
  if-small true r h = h
  if-small false r h = tt

  grammar-fields : (arrays : List SuperList) → AllByRecursion (IsGrammarArray t) arrays → AllByRecursion (λ a. a.repetition < 256 ^ t.widths.repetition_octets) arrays
  grammar-fields [] h = tt
  grammar-fields (a ∷ xs) h = (h.0.field, grammar-fields xs h.1)

  formed-fields : (n : ℕ) (arrays : List SuperList) → AllByRecursion (definitions.IsArray t n) arrays → AllByRecursion (λ a. a.repetition < 256 ^ t.widths.repetition_octets) arrays
  formed-fields n [] h = tt
  formed-fields n (a ∷ xs) h = (h.0.field, formed-fields n xs h.1)

  wrong : (x r : Refusal) → IsSmallRefusal x → ◌≡◌ {A = Result (Option Structure) Refusal} (Err x) (Err r) → IsSmallRefusal r
  wrong x r h q = let same : x ≡ r = cc in subst IsSmallRefusal same h

  ok-err : (a : Option Structure) (r : Refusal) → ◌≡◌ {A = Result (Option Structure) Refusal} (Ok a) (Err r) → ⊥
  ok-err a r q = cc

  -- the refusal of a change has room in a cause
  pub small-refusal : (change : StructureChange) (state : Option Structure) (r : Refusal) → IsGrammarChange t change → IfSome state (λ s. IsValid t s.def) → effect t change state ≡ Err r → IsSmallRefusal r
  small-refusal (create d) None r g h e =
      one-of (if_doubled [] (parameter_ids d) ∷ if_too_wide t d ∷ []) (Some (record { def = d; enabled = false })) r
      (doubled-small [] (parameter_ids d), (if-small (nat_lt t.widths.max_payload (payload_size t d)) (TooWide (payload_size t d)) tt, tt)) e
  small-refusal (create d) (Some s) r g h e = wrong Exists r tt e
  small-refusal (append a) None r g h e = wrong Absent r tt e
  small-refusal (append a) (Some s) r g h e =
      let longer : Definition = extended_definition s.def a in
      one-of
      (if_enabled s ∷ if_doubled (parameter_ids s.def) (listed_ids a.simple a.arrays) ∷ if_uneven s.def.interval a.arrays ∷ if_too_many (length longer.simple) ∷ if_too_many (length longer.arrays)
      ∷ if_too_wide t longer ∷ [])
      (Some (record { def = longer; enabled = s.enabled })) r (
        if-small s.enabled Enabled tt,
        (
          doubled-small (parameter_ids s.def) (listed_ids a.simple a.arrays),
          (
            uneven-small s.def.interval a.arrays h.formed.interval.1 (grammar-fields a.arrays g.each_array),
            (
              if-small (nat_lt 255 (length longer.simple)) (TooMany (length longer.simple)) tt,
              (
                if-small (nat_lt 255 (length longer.arrays)) (TooMany (length longer.arrays)) tt,
                (if-small (nat_lt t.widths.max_payload (payload_size t longer)) (TooWide (payload_size t longer)) tt, tt),
              ),
            ),
          ),
        ),
      ) e
  small-refusal (set_interval n) None r g h e = wrong Absent r tt e
  small-refusal (set_interval n) (Some s) r g h e =
      one-of (if_uneven n s.def.arrays ∷ []) (Some (record { def = record s.def { interval = n }; enabled = s.enabled })) r
      (uneven-small n s.def.arrays g.1 (formed-fields s.def.interval s.def.arrays h.formed.arrays), tt) e
  small-refusal (plain p) None r g h e = wrong Absent r tt e
  small-refusal (plain each.Delete) (Some s) r g h e = one-of (if_enabled s ∷ []) None r (if-small s.enabled Enabled tt, tt) e
  small-refusal (plain each.Enable) (Some s) r g h e = absurd (ok-err (Some (record { def = s.def; enabled = true })) r e)
  small-refusal (plain each.Disable) (Some s) r g h e = absurd (ok-err (Some (record { def = s.def; enabled = false })) r e)
  small-refusal (plain each.Show) (Some s) r g h e = absurd (ok-err (Some s) r e)
  small-refusal (plain each.OneShot) (Some s) r g h e = absurd (ok-err (Some s) r e)
  small-refusal (plain each.ShowPeriodic) (Some s) r g h e = absurd (ok-err (Some s) r e)

-- a structure that is there is valid
pub valid-state : (t : TailoringParts) (done : List Done) (key : Key) (held : List (Key × Held)) → AreStructures t done held → IfSome (structure_after t (boot_state t) done key) (λ s. IsValid t s.def)
valid-state t done key held h = subst (λ (o : Option Structure). IfSome o (λ s. IsValid t s.def)) (h.same key) (go (held_at held key) (h.each key))
  where
    go : (o : Option Held) → IfSome o (IsHeld t done key) → IfSome (option_map (λ x. x.structure) o) (λ s. IsValid t s.def)
    go None k = tt
    go (Some x) k = k.valid

-- what is found of an instruction on a structure, where the tailoring and the state are those of the core
module _ (c : Core) (key : Key) (change : StructureChange) (t : TailoringParts) (o : Option Structure) (same : t ≡ c.tailoring) (there : o ≡ (state_of c).structure key)
    (valid : IfSome ((state_of c).structure key) (λ s. IsValid c.tailoring s.def)) where
  found : (r : Result (Option Structure) Refusal) → effect t change o ≡ r → effect c.tailoring change ((state_of c).structure key) ≡ r
  found r e = sym (ap₂ (λ x y. effect x change y) same there) ∙ e

  pub found-some : (after : Structure) → key.id < 256 ^ c.tailoring.widths.structure_octets → IsWellFormed t after.def → effect t change o ≡ Ok (Some after)
      → IsEffectOf c (on_structure key change) (effect_by (kind_of change) key after)
  found-some after id formed e = some-effect c key change after id valid (subst (λ x. IsWellFormed x after.def) same formed) (found (Ok (Some after)) e)

  pub found-refused : (r : Refusal) → IsFit t → IsGrammarChange c.tailoring change → effect t change o ≡ Err r → IsEffectOf c (on_structure key change) (Refused r)
  found-refused r fit g e =
      (ap result_err (found (Err r) e), small-refusal c.tailoring (subst IsFit same fit) change ((state_of c).structure key) r g valid (found (Err r) e))
