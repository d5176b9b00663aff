-- What is held of the structures, and what one more instruction that is done leaves of it.
use Rattle.std.proofs.Common.{◌≡◌, ℕ, refl, sym, ◌∙◌, ap, ap₂, subst, List, [], ◌∷◌, ◌++◌, length, ◌+◌, Bool, true, false, Option, Some, None, Ok, replicate, ◌-◌}
use Rattle.std.specs.Prelude.{⊤, cond, find, filter_map, is_some, IfSome, option_map, ◌&&◌, ◌==◌, if◌then◌else◌}
use Rattle.std.specs.Option.{option_map_or}
use Rattle.std.specs.Result.{result_unwrap_or}
use Rattle.std.proofs.lemmas.Bool.Decides.{Decides-eqb}
use Rattle.hk_base.specs.Fit.{slot_of}
use Rattle.hk_base.specs.Parameters.{key_eq, kind_eq}
use Rattle.hk_base.specs.declared.types.Kind.{Kind}
use Rattle.hk_base.specs.declared.types.Kind.TheVariants.{Housekeeping, Diagnostic}
use Rattle.hk_base.specs.declared.types.Structure.{Structure}
use Rattle.st03_grammar.specs.Instructions.{StructureChange}
use Rattle.report_structures.specs.Effects.{effect, left_by}
use Rattle.pus_messages.specs.Instructions.{Instruction, on_structure, on_statistics, report_values, set_values}
use Rattle.hk_world.specs.States.{boot_state, structure_left}
use Rattle.hk_world.proofs.OrderLemmas.{true_is_not_false}
use Rattle.board_steps.specs.Slots.{begins_intervals, begins_intervals_of, slot_after}
use Rattle.std.specs.List.{cons_option}
use Rattle.hk_base.specs.TailoringParts.{TailoringParts}
use Rattle.hk_base.specs.declared.types.Key.{Key}
use Rattle.hk_world.specs.Timelines.{Session, Done, request_at, done_by, done_at, done_instructions, structure_after}
use Rattle.hk_world.specs.declared.moment.Moment.{Moment}
use Rattle.hk_world.specs.declared.moment.Act.{Act}
use Rattle.hk_world.specs.declared.moment.Act.TheVariants.{Accepted, TurnedAway}
use Rattle.board_state.specs.Holdings.{held_at, held_structure, ChangesAt, IsHeld, AreRisingKeys, AreStructures}
use Rattle.board_state.specs.declared.structures.Held.{Held}

-- the slot after the last instruction that passes a test stays where one more doesn't pass it
pub slot-stays : (t : TailoringParts) (test : Instruction → Bool) (done : List Done) (d : Done) → test d.instruction ≡ false → slot_after t test (d ∷ done) ≡ slot_after t test done
slot-stays t test done d e = ap (λ b. option_map_or (λ x. slot_of t x.tag + 1) (cond b (Some d) (find (λ x. test x.instruction) done)) 0) e

-- and is the one after its tag where it passes
pub slot-begins : (t : TailoringParts) (test : Instruction → Bool) (done : List Done) (d : Done) → test d.instruction ≡ true → slot_after t test (d ∷ done) ≡ slot_of t d.tag + 1
slot-begins t test done d e = ap (λ b. option_map_or (λ x. slot_of t x.tag + 1) (cond b (Some d) (find (λ x. test x.instruction) done)) 0) e

-- an instruction that is of no structure
abbrev pub IsOther : Instruction → Type 0
IsOther (on_structure key change) = ⊥
IsOther _ = ⊤

-- keys that pass the test are one
pub keys-one : (a b : Key) → key_eq a b ≡ true → a ≡ b
keys-one a b e = go a.kind b.kind a.id b.id e
  where
    ids : (k : Kind) (m n : ℕ) → (m == n) ≡ true → ◌≡◌ {A = Key} (record { kind = k; id = m }) (record { kind = k; id = n })
    ids k m n q = ap (λ i. record { kind = k; id = i }) ((Decides-eqb m n).0 q)

    go : (k l : Kind) (m n : ℕ) → (kind_eq k l && m == n) ≡ true → ◌≡◌ {A = Key} (record { kind = k; id = m }) (record { kind = l; id = n })
    go Housekeeping Housekeeping m n q = ids Housekeeping m n q
    go Diagnostic Diagnostic m n q = ids Diagnostic m n q
    go Housekeeping Diagnostic m n q = absurd (true_is_not_false (sym q))
    go Diagnostic Housekeeping m n q = absurd (true_is_not_false (sym q))

-- an instruction that is of no structure leaves them
pub other-done : (t : TailoringParts) (done : List Done) (d : Done) (held : List (Key × Held)) → IsOther d.instruction → AreStructures t done held → AreStructures t (d ∷ done) held
other-done t done d held other h =
    record {
      each = λ key. each key (held_at held key) (h.each key);
      same = λ key. h.same key ∙ sym (left key d.instruction other (structure_after t (boot_state t) done key));
      rising = h.rising;
    }
  where
    left : (key : Key) (x : Instruction) → IsOther x → (before : Option Structure) → structure_left t x key before ≡ before
    left key (on_structure named change) o before = absurd o
    left key (on_statistics change) o before = refl
    left key (report_values ids) o before = refl
    left key (set_values settings) o before = refl

    begins : (key : Key) (x : Instruction) → IsOther x → begins_intervals_of key x ≡ false
    begins key (on_structure named change) o = absurd o
    begins key (on_statistics change) o = refl
    begins key (report_values ids) o = refl
    begins key (set_values settings) o = refl

    each : (key : Key) (o : Option Held) → IfSome o (IsHeld t done key) → IfSome o (IsHeld t (d ∷ done) key)
    each key None k = tt
    each key (Some x) k =
        record { valid = k.valid; id = k.id; first = k.first ∙ sym (slot-stays t (begins_intervals_of key) done d (begins key d.instruction other)) }

-- what is held under its key after a change that is done: the structure that it leaves, with its first slot
pub record Becomes (t : TailoringParts) (done : List Done) (key : Key) (state : Option Structure) (to : Option Held) : Type 0 where
  pub structure : option_map (λ h. h.structure) to ≡ state
  pub held : IfSome to (IsHeld t done key)

-- a change of a structure that is done, and that is made to what is held under its key
pub structure-done : (t : TailoringParts) (done : List Done) (d : Done) (key : Key) (change : StructureChange) (state : Option Structure) (to : Option Held) (old new : List (Key × Held))
    → d.instruction ≡ on_structure key change → effect t change (structure_after t (boot_state t) done key) ≡ Ok state
    → Becomes t (d ∷ done) key state to → ChangesAt key to old new → AreRisingKeys new → AreStructures t done old → AreStructures t (d ∷ done) new
structure-done t done d key change state to old new e f becomes changes rising h =
    record { each = λ other. each other (key_eq key other) refl; same = λ other. same other (key_eq key other) refl; rising = rising }
  where
    left : (other : Key) (b : Bool) → key_eq key other ≡ b → structure_after t (boot_state t) (d ∷ done) other ≡ (if b then left_by t change (structure_after t (boot_state t) done other) else structure_after t (boot_state t) done other)
    left other b q =
        ap (λ x. structure_left t x other (structure_after t (boot_state t) done other)) e
        ∙ ap (λ x. if x then left_by t change (structure_after t (boot_state t) done other) else structure_after t (boot_state t) done other) q

    same : (other : Key) (b : Bool) → key_eq key other ≡ b → held_structure new other ≡ structure_after t (boot_state t) (d ∷ done) other
    same other true q =
        let one : key ≡ other = keys-one key other q in
        ap (option_map (λ h. h.structure)) (changes other ∙ ap (λ b. if b then to else held_at old other) q) ∙ becomes.structure
        ∙ sym (left other true q ∙ ap (λ k. left_by t change (structure_after t (boot_state t) done k)) (sym one) ∙ ap (λ r. result_unwrap_or r (structure_after t (boot_state t) done key)) f)
    same other false q =
        ap (option_map (λ h. h.structure)) (changes other ∙ ap (λ b. if b then to else held_at old other) q) ∙ h.same other ∙ sym (left other false q)

    each : (other : Key) (b : Bool) → key_eq key other ≡ b → IfSome (held_at new other) (IsHeld t (d ∷ done) other)
    each other true q =
        subst (λ o. IfSome o (IsHeld t (d ∷ done) other)) (sym (changes other ∙ ap (λ b. if b then to else held_at old other) q))
        (subst (λ k. IfSome to (IsHeld t (d ∷ done) k)) (keys-one key other q) becomes.held)
    each other false q =
        subst (λ o. IfSome o (IsHeld t (d ∷ done) other)) (sym (changes other ∙ ap (λ b. if b then to else held_at old other) q))
        (go (held_at old other) (h.each other))
      where
        go : (o : Option Held) → IfSome o (IsHeld t done other) → IfSome o (IsHeld t (d ∷ done) other)
        go None k = tt
        go (Some x) k =
            record {
              valid = k.valid;
              id = k.id;
              first = k.first ∙ sym (slot-stays t (begins_intervals_of other) done d (ap (begins_intervals_of other) e ∙ ap (λ b. b && begins_intervals change) q));
            }
