-- First slots, intervals and samples, read off what was done.
use Rattle.std.specs.Prelude.{ℕ, ◌+◌, ◌-◌, ◌%◌, List, find, ℤ, Bool, true, false, ◌&&◌, ◌||◌, ◌==◌, nat_le, Option, Some, None, is_some, option_map, if◌then◌else◌}
use Rattle.std.specs.List.{list_all, list_any}
use Rattle.std.specs.Option.{option_map_or}
use Rattle.hk_base.specs.Fit.{slot_of}
use Rattle.hk_base.specs.Parameters.{parameter, is_settable, key_eq}
use Rattle.hk_base.specs.Payload.{places}
use Rattle.hk_base.specs.TailoringParts.{TailoringParts}
use Rattle.hk_base.specs.declared.types.Key.{Key}
use Rattle.hk_base.specs.declared.types.Place.{Place}
use Rattle.hk_base.specs.declared.types.Definition.{Definition}
use Rattle.hk_base.specs.declared.types.Structure.{Structure}
use Rattle.st03_grammar.specs.Instructions.{StructureChange, create, append, set_interval, plain}
use Rattle.st03_grammar.specs.declared.bodies.Each.TheVariants.{Delete, Enable, OneShot}
use Rattle.st04_grammar.specs.Instructions.{enable}
use Rattle.pus_messages.specs.Instructions.{Instruction, on_structure, on_statistics}
use Rattle.hk_world.specs.Legal.{is_filing}
use Rattle.hk_world.specs.Timelines.{Done, first_some, done_instructions}
use Rattle.hk_world.specs.declared.moment.Moment.{Moment}
use Rattle.hk_world.specs.declared.moment.Act.{Act}
use Rattle.hk_world.specs.declared.moment.Act.TheVariants.{Filed}
use Rattle.board_steps.specs.Cores.{Core, session, state_of, pending}

-- whether a change begins the intervals of its structure anew
abbrev pub begins_intervals : StructureChange → Bool
begins_intervals (create d) = true
begins_intervals (append a) = true
begins_intervals (set_interval n) = true
begins_intervals (plain Enable) = true
begins_intervals (plain _) = false

-- whether an instruction begins the intervals of a structure anew
abbrev pub begins_intervals_of : Key → Instruction → Bool
begins_intervals_of key (on_structure named change) = key_eq named key && begins_intervals change
begins_intervals_of key _ = false

-- whether an instruction begins the intervals of the statistics anew
abbrev pub begins_statistics : Instruction → Bool
begins_statistics (on_statistics (enable n)) = true
begins_statistics _ = false

-- the slot after the last instruction that passes a test, or 0
abbrev pub slot_after : TailoringParts → (Instruction → Bool) → List Done → ℕ
slot_after t test done = option_map_or (λ d. slot_of t d.tag + 1) (find (λ d. test d.instruction) done) 0

-- the first slot of a structure
abbrev pub first_slot : Core → Key → ℕ
first_slot c key = slot_after c.tailoring (begins_intervals_of key) (done_instructions (session c) c.moments)

-- the first slot of the statistics
abbrev pub statistics_slot : Core → ℕ
statistics_slot c = slot_after c.tailoring begins_statistics (done_instructions (session c) c.moments)

-- whether an interval of so many slots ends with a slot, where the first one begins with this slot
abbrev pub ends_interval : ℕ → ℕ → ℕ → Bool
ends_interval first interval slot = nat_le first slot && (slot - first + 1) % interval == 0

-- whether the one-shot of a structure is due in the slot that runs: its interval ends
abbrev pub is_spent : Core → Key → Structure → Bool
is_spent c key x = option_map_or (λ first. first + x.def.interval == c.slot_now + 1) (pending c key) false

-- whether a structure is due in the slot that runs
abbrev pub is_due : Core → Key → Structure → Bool
is_due c key x = (x.enabled && ends_interval (first_slot c key) x.def.interval c.slot_now) || is_spent c key x

-- whether the statistics are due in the slot that runs
abbrev pub is_statistics_due : Core → Bool
is_statistics_due c =
    (state_of c).statistics.enabled && ends_interval (statistics_slot c) (state_of c).statistics.interval c.slot_now

-- the value that an act files for a place
abbrev pub filed_at : Place → Act → Option ℤ
filed_at place (Filed param slot value) = if param == place.param && slot == place.slot then Some value else None
filed_at place _ = None

-- the value that was filed for a place
abbrev pub sample_at : Place → List Moment → Option ℤ
sample_at place moments = first_some (λ m. filed_at place m.act) moments

-- whether a parameter is settable
abbrev pub is_set : TailoringParts → ℕ → Bool
is_set t id = option_map_or is_settable (parameter t id) false

-- whether a place has a sample once the slot that runs is closed: the values of settable parameters are filed then
abbrev pub has_sample : Core → Place → Bool
has_sample c place = (place.slot == c.slot_now && is_set c.tailoring place.param) || is_some (sample_at place c.moments)

-- whether each place of a definition has a sample
abbrev pub is_complete : Core → Definition → Bool
is_complete c d = list_all (has_sample c) (places d c.slot_now)

-- what a change that is done at a tag leaves of the one-shot of its structure
abbrev pub one_shot_changed : TailoringParts → ℕ → StructureChange → Option ℕ → Option ℕ
one_shot_changed t tag (plain OneShot) None = Some (slot_of t tag + 1)
one_shot_changed t tag (plain Delete) pending = None
one_shot_changed t tag change pending = if begins_intervals change then option_map (λ _. slot_of t tag + 1) pending else pending

-- what an instruction that is done leaves of the one-shot of a structure
abbrev pub one_shot_by_instruction : TailoringParts → ℕ → Key → Option ℕ → Instruction → Option ℕ
one_shot_by_instruction t tag key before (on_structure named change) = if key_eq named key then one_shot_changed t tag change before else before
one_shot_by_instruction t tag key before _ = before

-- what an instruction that is done at its tag leaves of the one-shot of a structure
abbrev pub one_shot_left : TailoringParts → Done → Key → Option ℕ → Option ℕ
one_shot_left t d key before = one_shot_by_instruction t d.tag key before d.instruction

-- whether a parameter has a sample for the slot that runs
abbrev pub is_filed : Core → ℕ → Bool
is_filed c id = list_any (λ m. is_filing id c.slot_now m.act) c.moments
