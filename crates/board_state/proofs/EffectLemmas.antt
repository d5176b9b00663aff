-- What is held of a structure after a change of it that is done.
use Rattle.std.proofs.Common.{◌≡◌, ℕ, refl, sym, ◌∙◌, ap, ap₂, subst, List, [], ◌∷◌, ◌+◌, ◌<◌, ◌^◌, Bool, true, false, Option, Some, None}
use Rattle.std.specs.Prelude.{cond, IfSome, ◌&&◌, ◌==◌, option_map, if◌then◌else◌}
use Rattle.std.specs.Map.{lookup, set_value}
use Rattle.std.proofs.lemmas.Bool.{eq-eqb}
use Rattle.std.proofs.lemmas.Option.{none-some, same_Some}
use Rattle.hk_base.specs.Payload.{IsValid}
use Rattle.hk_base.specs.Fit.{slot_of}
use Rattle.hk_base.specs.Parameters.{key_eq, kind_eq}
use Rattle.hk_base.specs.TailoringParts.{TailoringParts}
use Rattle.hk_base.specs.declared.types.Definition.{Definition}
use Rattle.hk_base.specs.declared.types.Key.{Key}
use Rattle.hk_base.specs.declared.types.Kind.{Kind}
use Rattle.hk_base.specs.declared.types.Kind.TheVariants.{Housekeeping, Diagnostic}
use Rattle.hk_base.specs.declared.types.Structure.{Structure}
use Rattle.st03_grammar.specs.Instructions.{StructureChange, create, plain}
use Rattle.st03_grammar.specs.declared.bodies.Each.TheVariants.{OneShot}
use Rattle.pus_messages.specs.Instructions.{Instruction, on_structure}
use Rattle.hk_world.specs.Timelines.{Done}
use Rattle.hk_world.proofs.OrderLemmas.{true_is_not_false}
use Rattle.board_steps.specs.Slots.{begins_intervals, begins_intervals_of, slot_after}
use Rattle.board_state.specs.Holdings.{held_at, ChangesAt, SetsAt, new_held, with_one_shot, with_structure, IsHeld}
use Rattle.board_state.specs.declared.structures.Held.{Held}
use Rattle.board_state.proofs.HoldingLemmas.{keys-one, slot-stays, slot-begins, Becomes}

-- a key passes its own test
key-own : (a : Key) → key_eq a a ≡ true
key-own a = go a.kind a.id
  where
    go : (k : Kind) (m : ℕ) → (kind_eq k k && m == m) ≡ true
    go Housekeeping m = eq-eqb m m refl
    go Diagnostic m = eq-eqb m m refl

-- the other way round
key-apart : (a b : Key) → key_eq a b ≡ false → key_eq b a ≡ false
key-apart a b e = go (key_eq b a) refl
  where
    go : (x : Bool) → key_eq b a ≡ x → x ≡ false
    go false q = refl
    go true q = absurd (true_is_not_false (sym (key-own a) ∙ ap (key_eq a) (sym (keys-one b a q)) ∙ e))

-- what is set under a key is found there, and the rest as before
set-changes : (key : Key) (to was : Held) (old : List (Key × Held)) → held_at old key ≡ Some was → ChangesAt key (Some to) old (set_value (key_eq key) old to)
set-changes key to was [] e other = absurd (none-some was e)
set-changes key to was (x ∷ xs) e other = first (key_eq key x.0) refl (λ f. set-changes key to was xs f other)
  where
    -- what is found in the list with another first member
    seen : (b : Bool) → key_eq key x.0 ≡ b → held_at (set_value (key_eq key) (x ∷ xs) to) other ≡ held_at (cond b ((x.0, to) ∷ xs) (x ∷ set_value (key_eq key) xs to)) other
    seen b q = ap (λ c. held_at (cond c ((x.0, to) ∷ xs) (x ∷ set_value (key_eq key) xs to)) other) q

    here : (b : Bool) → key_eq key other ≡ b → key_eq key x.0 ≡ true → cond (key_eq other x.0) (Some to) (held_at xs other) ≡ (if b then Some to else cond (key_eq other x.0) (Some x.1) (held_at xs other))
    here true p q =
        let found : key_eq other x.0 ≡ true = ap (λ k. key_eq k x.0) (sym (keys-one key other p)) ∙ q in
        ap (λ b. cond b (Some to) (held_at xs other)) found
    here false p q =
        let none : key_eq other x.0 ≡ false = ap (key_eq other) (sym (keys-one key x.0 q)) ∙ key-apart key other p in
        ap (λ b. cond b (Some to) (held_at xs other)) none ∙ sym (ap (λ b. cond b (Some x.1) (held_at xs other)) none)

    below : (b : Bool) → key_eq key other ≡ b → key_eq key x.0 ≡ false → held_at (set_value (key_eq key) xs to) other ≡ (if b then Some to else held_at xs other)
        → cond (key_eq other x.0) (Some x.1) (held_at (set_value (key_eq key) xs to) other) ≡ (if b then Some to else cond (key_eq other x.0) (Some x.1) (held_at xs other))
    below true p q ih =
        let none : key_eq other x.0 ≡ false = ap (λ k. key_eq k x.0) (sym (keys-one key other p)) ∙ q in
        ap (λ b. cond b (Some x.1) (held_at (set_value (key_eq key) xs to) other)) none ∙ ih
    below false p q ih = ap (λ o. cond (key_eq other x.0) (Some x.1) o) ih

    first : (b : Bool) → key_eq key x.0 ≡ b
        → (held_at xs key ≡ Some was → held_at (set_value (key_eq key) xs to) other ≡ (if key_eq key other then Some to else held_at xs other))
        → held_at (set_value (key_eq key) (x ∷ xs) to) other ≡ (if key_eq key other then Some to else cond (key_eq other x.0) (Some x.1) (held_at xs other))
    first true q more = seen true q ∙ here (key_eq key other) refl q
    first false q more = seen false q ∙ below (key_eq key other) refl q (more (sym (ap (λ b. cond b (Some x.1) (held_at xs key)) q) ∙ e))

-- a change in its place is one under its key
pub sets-changes : (key : Key) (f : Held → Held) (old new : List (Key × Held)) (was : Held) → held_at old key ≡ Some was → SetsAt key f old new → ChangesAt key (Some (f was)) old new
sets-changes key f old new was e h =
    let same : new ≡ set_value (key_eq key) old (f was) = go (held_at old key) e h in
    subst (ChangesAt key (Some (f was)) old) (sym same) (set-changes key (f was) was old e)
  where
    go : (o : Option Held) → o ≡ Some was → IfSome o (λ x. new ≡ set_value (key_eq key) old (f x)) → new ≡ set_value (key_eq key) old (f was)
    go None q k = absurd (none-some was q)
    go (Some x) q k = k ∙ ap (λ y. set_value (key_eq key) old (f y)) (same_Some x was q)

module _ (t : TailoringParts) (done : List Done) (d : Done) (key : Key) where
  -- whether the instruction begins the intervals of its structure
  begins-own : (change : StructureChange) (b : Bool) → d.instruction ≡ on_structure key change → begins_intervals change ≡ b → begins_intervals_of key d.instruction ≡ b
  begins-own change b e q = ap (begins_intervals_of key) e ∙ ap₂ (λ x y. x && y) (key-own key) q

  -- another structure in the place of one
  pub replaced : (change : StructureChange) (x : Structure) (was : Held) → d.instruction ≡ on_structure key change → IsValid t x.def → IsHeld t done key was
      → Becomes t (d ∷ done) key (Some x) (Some (with_structure x (if begins_intervals change then Some (slot_of t d.tag + 1) else None) was))
  replaced change x was e valid h = go (begins_intervals change) refl
    where
      go : (b : Bool) → begins_intervals change ≡ b → Becomes t (d ∷ done) key (Some x) (Some (with_structure x (if b then Some (slot_of t d.tag + 1) else None) was))
      go true q = record { structure = refl; held = record { valid = valid; id = h.id; first = sym (slot-begins t (begins_intervals_of key) done d (begins-own change true e q)) } }
      go false q = record { structure = refl; held = record { valid = valid; id = h.id; first = h.first ∙ sym (slot-stays t (begins_intervals_of key) done d (begins-own change false e q)) } }

  -- a one-shot is ordered
  pub ordered : (slot : ℕ) (was : Held) → d.instruction ≡ on_structure key (plain OneShot) → IsHeld t done key was → Becomes t (d ∷ done) key (Some was.structure) (Some (with_one_shot slot was))
  ordered slot was e h =
      record { structure = refl; held = record { valid = h.valid; id = h.id; first = h.first ∙ sym (slot-stays t (begins_intervals_of key) done d (begins-own (plain OneShot) false e refl)) } }

  -- a new structure
  pub created : (def : Definition) (x : Structure) → d.instruction ≡ on_structure key (create def) → IsValid t x.def → key.id < 256 ^ t.widths.structure_octets
      → Becomes t (d ∷ done) key (Some x) (Some (new_held x (slot_of t d.tag + 1)))
  created def x e valid id =
      record { structure = refl; held = record { valid = valid; id = id; first = sym (slot-begins t (begins_intervals_of key) done d (begins-own (create def) true e refl)) } }

  -- nothing of the structure is changed
  pub unchanged : (change : StructureChange) (was : Held) → d.instruction ≡ on_structure key change → begins_intervals change ≡ false → IsHeld t done key was → Becomes t (d ∷ done) key (Some was.structure) (Some was)
  unchanged change was e q h =
      record { structure = refl; held = record { valid = h.valid; id = h.id; first = h.first ∙ sym (slot-stays t (begins_intervals_of key) done d (begins-own change false e q)) } }

  -- none is left
  pub deleted : Becomes t (d ∷ done) key None None
  deleted = record { structure = refl; held = tt }
