-- What is held of the structures once an instruction on one of them is done, and of the one-shots.
use Rattle.std.proofs.Common.{◌≡◌, ℕ, ◌+◌, ◌<◌, ◌^◌, refl, sym, ◌∙◌, ap, subst, List, ◌∷◌, Bool, true, false, Option, Some, None, Ok, Err}
use Rattle.std.specs.Prelude.{IfSome, option_map, option_and_then, unwrap_or, if◌then◌else◌}
use Rattle.std.proofs.lemmas.Option.{none-some}
use Rattle.hk_base.specs.Fit.{slot_of}
use Rattle.hk_base.specs.Parameters.{key_eq}
use Rattle.hk_base.specs.Payload.{IsValid}
use Rattle.hk_base.specs.TailoringParts.{TailoringParts}
use Rattle.hk_base.specs.declared.types.Key.{Key}
use Rattle.hk_base.specs.declared.types.Structure.{Structure}
use Rattle.st03_grammar.specs.Instructions.{StructureChange, create, append, set_interval, plain}
use Rattle.st03_grammar.specs.declared.bodies.Each.TheVariants as each
use Rattle.pus_messages.specs.Instructions.{on_structure}
use Rattle.report_structures.specs.Effects.{effect}
use Rattle.report_structures.specs.declared.refusal.Refusal.TheVariants.{Exists, Absent}
use Rattle.hk_world.specs.States.{boot_state}
use Rattle.hk_world.specs.Timelines.{Done, structure_after}
use Rattle.board_steps.specs.Slots.{begins_intervals, one_shot_changed}
use Rattle.board_state.specs.Holdings.{held_at, held_structure, ChangesAt, new_held, with_one_shot, with_structure, IsHeld, AreRisingKeys, AreStructures}
use Rattle.board_state.specs.declared.structures.Held.{Held}
use Rattle.board_state.proofs.HoldingLemmas.{keys-one, Becomes, structure-done}
use Rattle.board_state.proofs.EffectLemmas.{replaced, ordered, created, unchanged, deleted}
use Rattle.board_core.specs.Effects.{IsCreation, IsReplacement}

-- the one-shot of what is held, if one is pending
abbrev pub shot : Option Held → Option ℕ
shot o = option_and_then (λ h. h.one_shot) o

err-ok : {A B : Type 0} (b : B) (a : A) → Err b ≡ Ok a → ⊥
err-ok b a e = cc

-- nothing is held where there is no structure
none-there : (held : List (Key × Held)) (key : Key) → held_structure held key ≡ None → held_at held key ≡ None
none-there held key e = go (held_at held key) e
  where
    go : (o : Option Held) → option_map (λ h. h.structure) o ≡ None → o ≡ None
    go None q = refl
    go (Some h) q = absurd (none-some h.structure (sym q))

module _ (t : TailoringParts) (done : List Done) (x : Done) (key : Key) (held : List (Key × Held)) (h : AreStructures t done held) where
  -- a structure is made only where there is none
  pub absent : (made : StructureChange) (after : Structure) → IsCreation made → effect t made (structure_after t (boot_state t) done key) ≡ Ok (Some after) → held_at held key ≡ None
  absent (append a) after c e = absurd c
  absent (set_interval n) after c e = absurd c
  absent (plain p) after c e = absurd c
  absent (create d) after c e = none-there held key (h.same key ∙ go (structure_after t (boot_state t) done key) refl)
    where
      go : (o : Option Structure) → structure_after t (boot_state t) done key ≡ o → structure_after t (boot_state t) done key ≡ None
      go None q = q
      go (Some s) q = absurd (err-ok Exists (Some after) (sym (ap (effect t (create d)) q) ∙ e))

  -- what is there is held
  pub present : (made : StructureChange) (after : Option Structure) → effect t made None ≡ Err Absent → effect t made (structure_after t (boot_state t) done key) ≡ Ok after
      → (was : Held) × (held_at held key ≡ Some was)
  present made after none e = go (held_at held key) refl
    where
      go : (o : Option Held) → held_at held key ≡ o → (was : Held) × (held_at held key ≡ Some was)
      go (Some was) q = (was, q)
      go None q =
          let gone : structure_after t (boot_state t) done key ≡ None = sym (h.same key) ∙ ap (option_map (λ y. y.structure)) q in
          absurd (err-ok Absent after (sym none ∙ sym (ap (effect t made) gone) ∙ e))

  -- the structure that is held is the one that is there
  pub there-is : (was : Held) → held_at held key ≡ Some was → structure_after t (boot_state t) done key ≡ Some was.structure
  there-is was e = sym (h.same key) ∙ ap (option_map (λ y. y.structure)) e

  held-is : (was : Held) → held_at held key ≡ Some was → IsHeld t done key was
  held-is was e = subst (λ (o : Option Held). IfSome o (IsHeld t done key)) e (h.each key)

  -- a new structure
  pub creation-holds : (made : StructureChange) (after : Structure) (new : List (Key × Held)) → IsCreation made → x.instruction ≡ on_structure key made
      → effect t made (structure_after t (boot_state t) done key) ≡ Ok (Some after) → IsValid t after.def → key.id < 256 ^ t.widths.structure_octets
      → ChangesAt key (Some (new_held after (slot_of t x.tag + 1))) held new → AreRisingKeys new → AreStructures t (x ∷ done) new
  creation-holds (append a) after new c is e valid id changes rising = absurd c
  creation-holds (set_interval n) after new c is e valid id changes rising = absurd c
  creation-holds (plain p) after new c is e valid id changes rising = absurd c
  creation-holds (create d) after new c is e valid id changes rising =
      structure-done t done x key (create d) (Some after) (Some (new_held after (slot_of t x.tag + 1))) held new is e (created t done x key d after is valid id) changes rising h

  pub creation-shot : (made : StructureChange) (after : Structure) (slot : ℕ) → IsCreation made → held_at held key ≡ None
      → shot (Some (new_held after slot)) ≡ one_shot_changed t x.tag made (shot (held_at held key))
  creation-shot (append a) after slot c e = absurd c
  creation-shot (set_interval n) after slot c e = absurd c
  creation-shot (plain p) after slot c e = absurd c
  creation-shot (create d) after slot c e = sym (ap (λ o. one_shot_changed t x.tag (create d) (shot o)) e)

  -- a structure in the place of another
  pub replacement-absent : (made : StructureChange) → IsReplacement made → effect t made None ≡ Err Absent
  replacement-absent (create d) c = absurd c
  replacement-absent (append a) c = refl
  replacement-absent (set_interval n) c = refl
  replacement-absent (plain p) c = refl

  pub replacement-holds : (made : StructureChange) (after : Structure) (was : Held) (new : List (Key × Held)) → x.instruction ≡ on_structure key made
      → effect t made (structure_after t (boot_state t) done key) ≡ Ok (Some after) → IsValid t after.def → held_at held key ≡ Some was
      → ChangesAt key (Some (with_structure after (if begins_intervals made then Some (slot_of t x.tag + 1) else None) was)) held new → AreRisingKeys new → AreStructures t (x ∷ done) new
  replacement-holds made after was new is e valid q changes rising =
      structure-done t done x key made (Some after) (Some (with_structure after (if begins_intervals made then Some (slot_of t x.tag + 1) else None) was)) held new is e
      (replaced t done x key made after was is valid (held-is was q)) changes rising h

  pub replacement-shot : (made : StructureChange) (after : Structure) (was : Held) → IsReplacement made → held_at held key ≡ Some was
      → shot (Some (with_structure after (if begins_intervals made then Some (slot_of t x.tag + 1) else None) was)) ≡ one_shot_changed t x.tag made (shot (held_at held key))
  replacement-shot made after was c e = go made c ∙ sym (ap (λ o. one_shot_changed t x.tag made (shot o)) e)
    where
      go : (made : StructureChange) → IsReplacement made
          → (with_structure after (if begins_intervals made then Some (slot_of t x.tag + 1) else None) was).one_shot ≡ one_shot_changed t x.tag made was.one_shot
      go (create d) c = absurd c
      go (append a) c = refl
      go (set_interval n) c = refl
      go (plain each.Enable) c = refl
      go (plain each.Disable) c = refl
      go (plain each.Delete) c = absurd c
      go (plain each.Show) c = absurd c
      go (plain each.OneShot) c = absurd c
      go (plain each.ShowPeriodic) c = absurd c

  -- a one-shot is ordered
  pub order-holds : (after : Structure) (was : Held) (new : List (Key × Held)) → x.instruction ≡ on_structure key (plain each.OneShot)
      → effect t (plain each.OneShot) (structure_after t (boot_state t) done key) ≡ Ok (Some after) → held_at held key ≡ Some was
      → ChangesAt key (Some (with_one_shot (slot_of t x.tag + 1) was)) held new → AreRisingKeys new → AreStructures t (x ∷ done) new
  order-holds after was new is e q changes rising =
      structure-done t done x key (plain each.OneShot) (Some was.structure) (Some (with_one_shot (slot_of t x.tag + 1) was)) held new is
      (ap (effect t (plain each.OneShot)) (there-is was q)) (ordered t done x key (slot_of t x.tag + 1) was is (held-is was q)) changes rising h

  pub order-shot : (was : Held) → held_at held key ≡ Some was
      → shot (Some (with_one_shot (slot_of t x.tag + 1) was)) ≡ one_shot_changed t x.tag (plain each.OneShot) (shot (held_at held key))
  order-shot was e = go was.one_shot ∙ sym (ap (λ o. one_shot_changed t x.tag (plain each.OneShot) (shot o)) e)
    where
      go : (o : Option ℕ) → Some (unwrap_or o (slot_of t x.tag + 1)) ≡ one_shot_changed t x.tag (plain each.OneShot) o
      go None = refl
      go (Some n) = refl

  -- a structure is taken away
  pub deletion-holds : (new : List (Key × Held)) → x.instruction ≡ on_structure key (plain each.Delete)
      → effect t (plain each.Delete) (structure_after t (boot_state t) done key) ≡ Ok None → ChangesAt key None held new → AreRisingKeys new → AreStructures t (x ∷ done) new
  deletion-holds new is e changes rising =
      structure-done t done x key (plain each.Delete) None None held new is e (deleted t done x key) changes rising h

  -- a report alone is ordered
  pub same-at : ChangesAt key (held_at held key) held held
  same-at other = go (key_eq key other) refl
    where
      go : (b : Bool) → key_eq key other ≡ b → held_at held other ≡ (if b then held_at held key else held_at held other)
      go true q = ap (held_at held) (sym (keys-one key other q))
      go false q = refl

  pub showing-holds : (made : StructureChange) (after : Structure) → x.instruction ≡ on_structure key made → begins_intervals made ≡ false → effect t made None ≡ Err Absent
      → ((s : Structure) → effect t made (Some s) ≡ Ok (Some s)) → effect t made (structure_after t (boot_state t) done key) ≡ Ok (Some after) → AreStructures t (x ∷ done) held
  showing-holds made after is begins none same e =
      let p = present made (Some after) none e in
      structure-done t done x key made (Some p.0.structure) (held_at held key) held held is (ap (effect t made) (there-is p.0 p.1) ∙ same p.0.structure)
      (subst (Becomes t (x ∷ done) key (Some p.0.structure)) (sym p.1) (unchanged t done x key made p.0 is begins (held-is p.0 p.1))) same-at h.rising h
