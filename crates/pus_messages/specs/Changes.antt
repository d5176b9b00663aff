-- The change that a request makes of one structure.
use Rattle.std.specs.Prelude.{ℕ, List, [], ◌∷◌, filter_map, ◌&&◌, Option, Some, None, option_map, if◌then◌else◌}
use Rattle.std.specs.List.{enumerate_from}
use Rattle.hk_base.specs.Parameters.{key_eq}
use Rattle.hk_base.specs.declared.types.Key.{Key}
use Rattle.st03_grammar.specs.Instructions.{StructureChange, changes}
use Rattle.pus_messages.specs.Instructions.{Instruction, on_structure, instructions}
use Rattle.pus_messages.specs.declared.message.Request.{Request}

-- the change that an instruction makes of a structure, if it can change it
abbrev pub change_on : Key → Instruction → Option StructureChange
change_on key (on_structure named change) = if key_eq named key && changes change then Some change else None
change_on key _ = None

-- the change that a request makes of a structure, with the number of its instruction, from 1
abbrev pub numbered_change : Key → ℕ × Instruction → Option (ℕ × StructureChange)
numbered_change key numbered = option_map (λ change. (numbered.0, change)) (change_on key numbered.1)

-- the first member of a list
abbrev pub first_of_list : {X : Type 0} → List X → Option X
first_of_list [] = None
first_of_list (x ∷ xs) = Some x

-- the first change that instructions make of a structure, with its number, from 1
abbrev pub change_among : Key → List Instruction → Option (ℕ × StructureChange)
change_among key listed = first_of_list (filter_map (numbered_change key) (enumerate_from 1 listed))

-- the change that a request makes of a structure; no request names a structure twice
abbrev pub change_by : Key → Request → Option (ℕ × StructureChange)
change_by key r = change_among key (instructions r)
