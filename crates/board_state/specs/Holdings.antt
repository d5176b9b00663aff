-- What a board holds of its structures: what the instructions that were done leave.
use Rattle.std.specs.Prelude.{◌≡◌, ◌^◌, ◌+◌, ◌==◌, ◌<◌, ⊤, ℕ, List, [], ◌∷◌, map, filter, filter_map, Bool, true, false, ◌&&◌, ◌||◌, nat_lt, find, Option, Some, None, IfSome, unwrap_or, option_map, if◌then◌else◌}
use Rattle.std.specs.List.{AllByRecursion}
use Rattle.std.specs.Option.{option_map_or}
use Rattle.std.specs.Map.{lookup, set_value}
use Rattle.hk_base.specs.Payload.{IsValid}
use Rattle.hk_base.specs.declared.types.Kind.{Kind}
use Rattle.hk_base.specs.declared.types.Kind.TheVariants.{Housekeeping, Diagnostic}
use Rattle.hk_base.specs.Parameters.{key_eq}
use Rattle.hk_base.specs.TailoringParts.{TailoringParts}
use Rattle.hk_base.specs.declared.types.Boot.{Boot}
use Rattle.hk_base.specs.declared.types.Key.{Key}
use Rattle.hk_base.specs.declared.types.Structure.{Structure}
use Rattle.hk_world.specs.States.{boot_state}
use Rattle.hk_world.specs.Timelines.{Done, structure_after}
use Rattle.board_steps.specs.Slots.{begins_intervals_of, slot_after, ends_interval}
use Rattle.board_state.specs.declared.structures.Held.{Held}

-- what is held under a key, and the structure of it
abbrev pub held_at : List (Key × Held) → Key → Option Held
held_at held key = lookup (key_eq key) held

-- the structure that is held under a key
abbrev pub held_structure : List (Key × Held) → Key → Option Structure
held_structure held key = option_map (λ h. h.structure) (held_at held key)

-- under one key this is held now, and under the others what was
abbrev pub ChangesAt : Key → Option Held → List (Key × Held) → List (Key × Held) → Type 0
ChangesAt key to old new = (other : Key) → held_at new other ≡ (if key_eq key other then to else held_at old other)

-- what is held under a key is changed in its place
abbrev pub SetsAt : Key → (Held → Held) → List (Key × Held) → List (Key × Held) → Type 0
SetsAt key f old new = IfSome (held_at old key) (λ h. new ≡ set_value (key_eq key) old (f h))

-- a new structure
abbrev pub new_held : Structure → ℕ → Held
new_held x slot = record { structure = x; first_slot = slot; one_shot = None }

-- the one-shot is ordered, unless one is pending
abbrev pub with_one_shot : ℕ → Held → Held
with_one_shot slot h = record h { one_shot = Some (unwrap_or h.one_shot slot) }

-- another structure in the place of the one that is there; its intervals begin anew where a slot is given
abbrev pub with_structure : Structure → Option ℕ → Held → Held
with_structure x None h = record h { structure = x }
with_structure x (Some slot) h = record { structure = x; first_slot = slot; one_shot = option_map (λ _. slot) h.one_shot }

-- whether the one-shot is due in a slot
abbrev pub ends_one_shot : ℕ → Held → Bool
ends_one_shot slot h = option_map_or (λ first. first + h.structure.def.interval == slot + 1) h.one_shot false

-- whether a report is due in a slot
abbrev pub is_due_in : ℕ → Held → Bool
is_due_in slot h = (h.structure.enabled && ends_interval h.first_slot h.structure.def.interval slot) || ends_one_shot slot h

-- the keys of the structures that are due in a slot, in order
abbrev pub due_keys : ℕ → List (Key × Held) → List Key
due_keys slot held = map (λ x. x.0) (filter (λ x. is_due_in slot x.1) held)

-- a structure once a slot has ended: its one-shot is over where it was due
abbrev pub after_slot : ℕ → Held → Held
after_slot slot h = if ends_one_shot slot h then record h { one_shot = None } else h

-- all structures once a slot has ended
abbrev pub all_after_slot : ℕ → List (Key × Held) → List (Key × Held)
all_after_slot slot held = map (λ x. (x.0, after_slot slot x.1)) held

-- the pending one-shot of a structure that is held
abbrev pub one_shot_of : Key × Held → Option (Key × ℕ)
one_shot_of x = option_map (λ first. (x.0, first)) x.1.one_shot

-- the pending one-shots of the structures that are held
abbrev pub one_shots_of : List (Key × Held) → List (Key × ℕ)
one_shots_of held = filter_map one_shot_of held

-- whether a key comes before another: those of housekeeping before those of diagnostics, and each by its ID
abbrev pub is_before : Key → Key → Bool
is_before a b = kinds a.kind b.kind (nat_lt a.id b.id)
  where
    kinds : Kind → Kind → Bool → Bool
    kinds Housekeeping Housekeeping less = less
    kinds Diagnostic Diagnostic less = less
    kinds Housekeeping Diagnostic less = true
    kinds Diagnostic Housekeeping less = false

-- keys that rise
abbrev pub AreRisingKeys : List (Key × Held) → Type 0
AreRisingKeys [] = ⊤
AreRisingKeys (x ∷ xs) = AllByRecursion (λ y. is_before x.0 y.0 ≡ true) xs × AreRisingKeys xs

-- a structure that is held: its definition is valid, its ID fits its field, and its first slot is that of the instructions that were done
pub record IsHeld (t : TailoringParts) (done : List Done) (key : Key) (h : Held) : Type 0 where
  pub valid : IsValid t h.structure.def
  pub id : key.id < 256 ^ t.widths.structure_octets
  pub first : h.first_slot ≡ slot_after t (begins_intervals_of key) done

-- the structures that are held are those that the instructions leave
pub record AreStructures (t : TailoringParts) (done : List Done) (held : List (Key × Held)) : Type 0 where
  pub each : (key : Key) → IfSome (held_at held key) (IsHeld t done key)
  pub same : (key : Key) → held_structure held key ≡ structure_after t (boot_state t) done key
  pub rising : AreRisingKeys held

-- a structure that is there from the start
abbrev pub boot_held : Boot → Held
boot_held b = new_held b.structure 0

-- the structures of some boots, and no others
pub record AreBoots (boots : List Boot) (held : List (Key × Held)) : Type 0 where
  pub each : (key : Key) → held_at held key ≡ option_map boot_held (find (λ b. key_eq b.key key) boots)
  pub none : one_shots_of held ≡ []
  pub rising : AreRisingKeys held
