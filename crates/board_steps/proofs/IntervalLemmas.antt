-- A structure that is due has been what it is since its interval began.
use Rattle.std.proofs.Common.{arith, ◌≡◌, ℕ, ◌+◌, ◌-◌, ◌*◌, ◌/◌, ◌%◌, ◌<◌, ◌≤◌, refl, sym, ◌∙◌, ap, subst, List, [], ◌∷◌, cond, Bool, true, false, ◌==◌, ◌&&◌, ◌||◌, Option, Some, None}
use Rattle.std.specs.Prelude.{nat_le, nat_lt, find, option_map, if◌then◌else◌}
use Rattle.std.specs.List.{AllByRecursion, cons_option}
use Rattle.std.specs.Option.{option_map_or}
use Rattle.std.proofs.lemmas.Option.{same_Some, none-some}
use Rattle.std.proofs.lemmas.Bool.{ltb-true, ltb-false}
use Rattle.std.proofs.lemmas.Bool.Decides.{Decides-eqb, nat_tests}
use Rattle.std.proofs.Math.Nat.{div-lt_iff_lt-mul, le-div_iff_mul-le}
use Rattle.hk_base.specs.Fit.{IsFit, slot_of}
use Rattle.hk_base.specs.TailoringParts.{TailoringParts}
use Rattle.hk_base.specs.Parameters.{key_eq}
use Rattle.hk_base.specs.declared.types.Key.{Key}
use Rattle.hk_base.specs.declared.types.Structure.{Structure}
use Rattle.st03_grammar.specs.Instructions.{StructureChange, create, append, set_interval, plain}
use Rattle.st03_grammar.specs.declared.bodies.Each.TheVariants.{Delete, Enable, Disable, Show, OneShot, ShowPeriodic}
use Rattle.pus_messages.specs.Instructions.{Instruction, on_structure, on_statistics, report_values, set_values}
use Rattle.report_structures.specs.Effects.{left_by}
use Rattle.hk_world.specs.States.{structure_left}
use Rattle.hk_world.specs.Timelines.{EachAfter, Session, tailoring, Done, instruction_at, done_by, done_at, done_instructions, structure_after, moments_before, state_at}
use Rattle.hk_world.specs.Worlds.{MayHappen}
use Rattle.hk_world.specs.declared.moment.Moment.{Moment}
use Rattle.hk_world.specs.declared.moment.Act.{Act}
use Rattle.hk_world.specs.declared.moment.Act.TheVariants.{Accepted, TurnedAway, Started, NotStarted, Executed, Completed, Emitted, Filed}
use Rattle.hk_world.proofs.OrderLemmas.{true_is_not_false}
use Rattle.board_steps.specs.Cores.{Core, session, state_of}
use Rattle.board_steps.specs.Slots.{begins_intervals, begins_intervals_of, slot_after, first_slot, ends_interval, is_spent, is_due}
use Rattle.board_steps.specs.Timeline.{Stands}
use Rattle.board_steps.proofs.ClosingLemmas.{whole}

-- a structure's state in which it is enabled was the same before a change that doesn't begin its intervals anew
kept : (t : TailoringParts) (change : StructureChange) (before : Option Structure) (x : Structure) → begins_intervals change ≡ false → left_by t change before ≡ Some x → x.enabled ≡ true
    → before ≡ Some x
kept t (create d) before x e h on = absurd (true_is_not_false e)
kept t (append a) before x e h on = absurd (true_is_not_false e)
kept t (set_interval n) before x e h on = absurd (true_is_not_false e)
kept t (plain Enable) before x e h on = absurd (true_is_not_false e)
kept t (plain Delete) None x e h on = absurd (none-some x h)
kept t (plain Disable) None x e h on = absurd (none-some x h)
kept t (plain Show) None x e h on = absurd (none-some x h)
kept t (plain OneShot) None x e h on = absurd (none-some x h)
kept t (plain ShowPeriodic) None x e h on = absurd (none-some x h)
kept t (plain Delete) (Some y) x e h on = by_status y.enabled refl
  where
    by_status : (b : Bool) → y.enabled ≡ b → Some y ≡ Some x
    by_status true f = let g : Some (record { def = y.def; enabled = true }) ≡ Some x = rw f at h in ap (λ b. Some (record { def = y.def; enabled = b })) f ∙ g
    by_status false f = let g : None ≡ Some x = rw f at h in absurd (none-some x g)
kept t (plain Disable) (Some y) x e h on =
    absurd (true_is_not_false (sym on ∙ sym (ap (λ (z : Structure). z.enabled) (same_Some (record { def = y.def; enabled = false }) x h))))
kept t (plain Show) (Some y) x e h on = h
kept t (plain OneShot) (Some y) x e h on = h
kept t (plain ShowPeriodic) (Some y) x e h on = h

kept-by : (t : TailoringParts) (key : Key) (i : Instruction) (before : Option Structure) (x : Structure) → begins_intervals_of key i ≡ false → structure_left t i key before ≡ Some x
    → x.enabled ≡ true → before ≡ Some x
kept-by t key (on_structure named change) before x e h on = by_key (key_eq named key) refl
  where
    by_key : (b : Bool) → key_eq named key ≡ b → before ≡ Some x
    by_key true f =
        kept t change before x (sym (ap (λ b. b && begins_intervals change) f) ∙ e)
        (sym (ap (λ b. if b then left_by t change before else before) f) ∙ h) on
    by_key false f = sym (ap (λ b. if b then left_by t change before else before) f) ∙ h
kept-by t key (on_statistics change) before x e h on = h
kept-by t key (report_values ids) before x e h on = h
kept-by t key (set_values settings) before x e h on = h

-- an instruction is done at the tag of its moment
pub done-tag : (s : Session) (tag : ℕ) (act : Act) (d : Done) → done_by s tag act ≡ Some d → d.tag ≡ tag
done-tag s tag (Executed k number true) d e = by_instruction (instruction_at s k number) e
  where
    by_instruction : (o : Option Instruction) → option_map (λ x. record { tag = tag; request = k; instruction = x }) o ≡ Some d → d.tag ≡ tag
    by_instruction None f = absurd (none-some d f)
    by_instruction (Some x) f = sym (ap (λ (y : Done). y.tag) (same_Some (record { tag = tag; request = k; instruction = x }) d f))
done-tag s tag (Executed k number false) d e = absurd (none-some d e)
done-tag s tag (Accepted k) d e = absurd (none-some d e)
done-tag s tag (TurnedAway k) d e = absurd (none-some d e)
done-tag s tag (Started k) d e = absurd (none-some d e)
done-tag s tag (NotStarted k) d e = absurd (none-some d e)
done-tag s tag (Completed k refused) d e = absurd (none-some d e)
done-tag s tag Emitted d e = absurd (none-some d e)
done-tag s tag (Filed id x value) d e = absurd (none-some d e)

-- instructions that were done before a tag
dones-before : (s : Session) (tag : ℕ) (moments : List Moment) → AllByRecursion (λ m. m.tag < tag) moments → AllByRecursion (λ (d : Done). d.tag < tag) (done_instructions s moments)
dones-before s tag [] h = tt
dones-before s tag (m ∷ moments) h = by_done (done_at s m) refl (dones-before s tag moments h.1)
  where
    by_done : (o : Option Done) → done_at s m ≡ o → AllByRecursion (λ (d : Done). d.tag < tag) (done_instructions s moments)
        → AllByRecursion (λ (d : Done). d.tag < tag) (cons_option o (done_instructions s moments))
    by_done None e rest = rest
    by_done (Some d) e rest = (let same = done-tag s m.tag m.act d e in omega (arith, same, h.0), rest)

-- an instruction that passes a test was done before the slot after the last of them
abbrev pub IsBefore : TailoringParts → (Instruction → Bool) → ℕ → Done → Type 0
IsBefore t test first d = test d.instruction ≡ true → slot_of t d.tag < first

slots-rise : (t : TailoringParts) (a b : ℕ) → 0 < t.widths.slot → a < b → slot_of t a ≤ slot_of t b
slots-rise t a b some lt =
    let low : slot_of t a * t.widths.slot ≤ a = (le-div_iff_mul-le some).0 (omega arith) in
    (le-div_iff_mul-le some).1 (omega (arith, low, lt))

all-before-last : (t : TailoringParts) (test : Instruction → Bool) (last : Done) (ds : List Done) → 0 < t.widths.slot → AllByRecursion (λ (d : Done). d.tag < last.tag) ds
    → AllByRecursion (IsBefore t test (slot_of t last.tag + 1)) ds
all-before-last t test last [] some h = tt
all-before-last t test last (d ∷ ds) some h =
    ((λ e. omega (arith, slots-rise t d.tag last.tag some h.0)), all-before-last t test last ds some h.1)

pub begun-before : (s : Session) (t : TailoringParts) (test : Instruction → Bool) (moments : List Moment) → 0 < t.widths.slot → EachAfter (MayHappen s) moments
    → AllByRecursion (IsBefore t test (slot_after t test (done_instructions s moments))) (done_instructions s moments)
begun-before s t test [] some h = tt
begun-before s t test (m ∷ earlier) some h = by_done (done_at s m) refl (begun-before s t test earlier some h.1)
  where
    older : List Done
    older = done_instructions s earlier

    by_test : (d : Done) → AllByRecursion (λ (x : Done). x.tag < d.tag) older → (b : Bool) → test d.instruction ≡ b → AllByRecursion (IsBefore t test (slot_after t test older)) older
        → AllByRecursion (IsBefore t test (option_map_or (λ (x : Done). slot_of t x.tag + 1) (cond b (Some d) (find (λ x. test x.instruction) older)) 0)) (d ∷ older)
    by_test d before true e rest = ((λ f. omega arith), all-before-last t test d older some before)
    by_test d before false e rest = ((λ f. absurd (true_is_not_false (sym f ∙ e))), rest)

    by_done : (o : Option Done) → done_at s m ≡ o → AllByRecursion (IsBefore t test (slot_after t test older)) older
        → AllByRecursion (IsBefore t test (slot_after t test (cons_option o older))) (cons_option o older)
    by_done None e rest = rest
    by_done (Some d) e rest =
        by_test d (subst (λ n. AllByRecursion (λ (x : Done). x.tag < n) older) (sym (done-tag s m.tag m.act d e)) (dones-before s m.tag earlier h.0.tag.above))
        (test d.instruction) refl rest

-- all moments below a tag are kept
pub all-kept : (tag : ℕ) (moments : List Moment) → AllByRecursion (λ m. m.tag < tag) moments → moments_before tag moments ≡ moments
all-kept tag [] h = refl
all-kept tag (m ∷ moments) h =
    let early : nat_lt m.tag tag ≡ true = let lt = h.0 in grind (arith, nat_tests) in
    ap (λ b. cond b (m ∷ moments_before tag moments) (moments_before tag moments)) early ∙ ap (λ ms. m ∷ ms) (all-kept tag moments h.1)

pub lower-all : (a b : ℕ) (moments : List Moment) → a < b → AllByRecursion (λ (m : Moment). m.tag < a) moments → AllByRecursion (λ (m : Moment). m.tag < b) moments
lower-all a b [] lt h = tt
lower-all a b (m ∷ moments) lt h = (omega (arith, lt, h.0), lower-all a b moments lt h.1)

module _ (s : Session) (key : Key) (first : ℕ) (x : Structure) (on : x.enabled ≡ true) (some : 0 < (tailoring s).widths.slot) where
  -- the state that some moments leave of the structure
  abbrev pub left : List Moment → Option Structure
  left moments = structure_after (tailoring s) s.initial (done_instructions s moments) key

  same-since : (tag : ℕ) (moments : List Moment) → first * (tailoring s).widths.slot ≤ tag → EachAfter (MayHappen s) moments
      → AllByRecursion (IsBefore (tailoring s) (begins_intervals_of key) first) (done_instructions s moments) → left moments ≡ Some x → left (moments_before tag moments) ≡ Some x
  same-since tag [] begins h before is = is
  same-since tag (m ∷ earlier) begins h before is = by_tag (nat_lt m.tag tag) refl (λ b e. same-since tag earlier begins h.1 b e)
    where
      by_done : (o : Option Done) → done_at s m ≡ o → tag ≤ m.tag → AllByRecursion (IsBefore (tailoring s) (begins_intervals_of key) first) (cons_option o (done_instructions s earlier))
          → structure_after (tailoring s) s.initial (cons_option o (done_instructions s earlier)) key ≡ Some x
          → AllByRecursion (IsBefore (tailoring s) (begins_intervals_of key) first) (done_instructions s earlier) × (left earlier ≡ Some x)
      by_done None e late b i = (b, i)
      by_done (Some d) e late b i = (b.1, by_test (begins_intervals_of key d.instruction) refl)
        where
          by_test : (test : Bool) → begins_intervals_of key d.instruction ≡ test → left earlier ≡ Some x
          by_test false f = kept-by (tailoring s) key d.instruction (left earlier) x f i on
          by_test true f =
              let at : d.tag ≡ m.tag = done-tag s m.tag m.act d e in
              let low : d.tag / (tailoring s).widths.slot < first = b.0 f in
              let below : d.tag < first * (tailoring s).widths.slot = (div-lt_iff_lt-mul some).0 low in
              absurd (omega (arith, at, late, below, begins))

      by_tag : (b : Bool) → nat_lt m.tag tag ≡ b
          → (AllByRecursion (IsBefore (tailoring s) (begins_intervals_of key) first) (done_instructions s earlier) → left earlier ≡ Some x → left (moments_before tag earlier) ≡ Some x)
          → left (moments_before tag (m ∷ earlier)) ≡ Some x
      by_tag true e ih =
          let lt : m.tag < tag = ltb-true m.tag tag e in
          ap left (all-kept tag (m ∷ earlier) (lt, lower-all m.tag tag earlier lt h.0.tag.above)) ∙ is
      by_tag false e ih =
          let r = by_done (done_at s m) refl (ltb-false m.tag tag e) before is in
          ap left (ap (λ b. cond b (m ∷ moments_before tag earlier) (moments_before tag earlier)) e) ∙ ih r.0 r.1

both-true : (a b : Bool) → (a && b) ≡ true → (a ≡ true) × (b ≡ true)
both-true true b h = (refl, h)
both-true false b h = absurd (true_is_not_false (sym h))

left-true : (a b : Bool) → (a || b) ≡ true → b ≡ false → a ≡ true
left-true true b h e = refl
left-true false b h e = absurd (true_is_not_false (sym h ∙ e))

multiplied : (a b w : ℕ) → a ≤ b → a * w ≤ b * w
multiplied a b w le = let more : (a + (b - a)) * w ≡ a * w + (b - a) * w = grind arith in let same : a + (b - a) ≡ b = omega (arith, le) in let turned : (a + (b - a)) * w ≡ b * w = ap (λ n. n * w) same in omega (arith, more, turned)

-- at each tag since its interval began a structure that is due was what it is
pub whole-interval : (c : Core) → IsFit c.tailoring → Stands c → (key : Key) (x : Structure) → (state_of c).structure key ≡ Some x → is_due c key x ≡ true → is_spent c key x ≡ false
    → (tag : ℕ) → (c.slot_now + 1 - x.def.interval) * c.tailoring.widths.slot ≤ tag → (state_at (session c) c.moments tag).structure key ≡ Some x
whole-interval c fit k key x there due spent tag since =
    let some : 0 < c.tailoring.widths.slot = omega (arith, fit.widths.slot.0) in
    let first : ℕ = first_slot c key in
    let ends = both-true x.enabled (ends_interval first x.def.interval c.slot_now)
    (left-true (x.enabled && ends_interval first x.def.interval c.slot_now) (is_spent c key x) due spent) in
    let parts = both-true (nat_le first c.slot_now) ((c.slot_now - first + 1) % x.def.interval == 0) ends.1 in
    let low : first ≤ c.slot_now = let test = parts.0 in grind (arith, nat_tests) in
    let none : (c.slot_now - first + 1) % x.def.interval ≡ 0 = (Decides-eqb ((c.slot_now - first + 1) % x.def.interval) 0).0 parts.1 in
    let long : x.def.interval ≤ c.slot_now - first + 1 = whole (c.slot_now - first + 1) x.def.interval (omega arith) none in
    let begins : first ≤ c.slot_now + 1 - x.def.interval = omega (arith, low, long) in
    let early : first * c.tailoring.widths.slot ≤ (c.slot_now + 1 - x.def.interval) * c.tailoring.widths.slot = multiplied first (c.slot_now + 1 - x.def.interval) c.tailoring.widths.slot begins in
    same-since (session c) key first x ends.0 some tag c.moments (omega (arith, early, since)) k.good.timeline
    (begun-before (session c) c.tailoring (begins_intervals_of key) c.moments some k.good.timeline) there
