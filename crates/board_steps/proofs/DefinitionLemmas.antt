-- A structure that is due, by a one-shot too, has had its definition since the interval began.
use Rattle.std.proofs.Common.{arith, ◌≡◌, ℕ, ◌+◌, ◌-◌, ◌*◌, ◌/◌, ◌<◌, ◌≤◌, refl, sym, ◌∙◌, ap, ap₂, subst, List, [], ◌∷◌, ◌++◌, length, map, take, replicate, cond, Bool, true, false, ◌==◌, ◌&&◌, Option, Some, None, ◌⊎◌, inl, inr}
use Rattle.std.specs.Prelude.{nat_lt, if◌then◌else◌}
use Rattle.std.specs.List.{AllByRecursion, cons_option}
use Rattle.std.specs.Option.{option_map_or}
use Rattle.std.proofs.lemmas.Option.{same_Some, none-some}
use Rattle.std.proofs.lemmas.Bool.{ltb-true, ltb-false}
use Rattle.std.proofs.lemmas.Bool.Decides.{Decides-eqb}
use Rattle.std.proofs.Math.Nat.{div-lt_iff_lt-mul}
use Rattle.hk_base.specs.Fit.{IsFit, slot_of}
use Rattle.hk_base.specs.TailoringParts.{TailoringParts}
use Rattle.hk_base.specs.Parameters.{key_eq}
use Rattle.hk_base.specs.declared.types.Key.{Key}
use Rattle.hk_base.specs.declared.types.Structure.{Structure}
use Rattle.st03_grammar.specs.Instructions.{StructureChange, create, append, set_interval, plain}
use Rattle.st03_grammar.specs.declared.bodies.Each.TheVariants.{Delete, Enable, Disable, Show, OneShot, ShowPeriodic}
use Rattle.pus_messages.specs.Instructions.{Instruction, on_structure, on_statistics, report_values, set_values}
use Rattle.report_structures.specs.Effects.{left_by}
use Rattle.hk_world.specs.States.{structure_left}
use Rattle.hk_world.specs.Timelines.{EachAfter, Session, tailoring, Done, done_by, done_at, done_instructions, structure_after, moments_before, state_at}
use Rattle.hk_world.specs.Worlds.{MayHappen}
use Rattle.hk_world.specs.declared.moment.Moment.{Moment}
use Rattle.hk_world.specs.declared.moment.Act.{Act}
use Rattle.hk_world.proofs.OrderLemmas.{true_is_not_false}
use Rattle.board_steps.specs.Cores.{Core, session, state_of, pending, next_tag}
use Rattle.board_steps.specs.Slots.{begins_intervals, begins_intervals_of, slot_after, is_spent, is_due, one_shot_changed, one_shot_by_instruction}
use Rattle.board_steps.specs.Plans.{Topic, Plan, does, tells, handled_as, prepared, worked_request, worked_acts, topics_of, done_of, settables, due_topics, tags_left, planned, one_shot_by}
use Rattle.board_steps.specs.Steps.{AreNext, IsStep}
use Rattle.board_steps.specs.Runs.{IsRun}
use Rattle.board_steps.specs.Timeline.{Stands, AreBelow}
use Rattle.board_steps.specs.declared.event.Event.{Event}
use Rattle.board_steps.specs.declared.event.Event.TheVariants.{Uplink, Clock, Work, Filing, CloseSlot}
use Rattle.board_steps.proofs.GrammarLemmas.{RequestsOnly}
use Rattle.board_steps.proofs.GrownLemmas.{agree-all, dones-agrees}
use Rattle.board_steps.proofs.RunLemmas.{session_by, with_packet, step-stands, run-stands, run-tailoring}
use Rattle.board_steps.proofs.ReportLemmas.{prepared-tailoring}
use Rattle.board_steps.proofs.IntervalLemmas.{IsBefore, begun-before, all-kept, lower-all, done-tag, whole-interval}
use Rattle.board_steps.proofs.ShotLemmas.{IsIdle, next-idle, topics-idle, own-idle, packet-idle, moved, left-pending, worked-few}

-- a change that doesn't begin the intervals anew leaves the definition
kept-definition : (t : TailoringParts) (change : StructureChange) (before : Option Structure) (x : Structure) → begins_intervals change ≡ false → left_by t change before ≡ Some x
    → (y : Structure) × (before ≡ Some y) × (y.def ≡ x.def)
kept-definition t (create d) before x e h = absurd (true_is_not_false e)
kept-definition t (append a) before x e h = absurd (true_is_not_false e)
kept-definition t (set_interval n) before x e h = absurd (true_is_not_false e)
kept-definition t (plain Enable) before x e h = absurd (true_is_not_false e)
kept-definition t (plain Delete) None x e h = absurd (none-some x h)
kept-definition t (plain Disable) None x e h = absurd (none-some x h)
kept-definition t (plain Show) None x e h = absurd (none-some x h)
kept-definition t (plain OneShot) None x e h = absurd (none-some x h)
kept-definition t (plain ShowPeriodic) None x e h = absurd (none-some x h)
kept-definition t (plain Delete) (Some y) x e h = by_status y.enabled refl
  where
    by_status : (b : Bool) → y.enabled ≡ b → (z : Structure) × (Some y ≡ Some z) × (z.def ≡ x.def)
    by_status true f =
        let g : Some (record { def = y.def; enabled = true }) ≡ Some x = rw f at h in
        (y, refl, ap (λ (z : Structure). z.def) (same_Some (record { def = y.def; enabled = true }) x g))
    by_status false f = let g : None ≡ Some x = rw f at h in absurd (none-some x g)
kept-definition t (plain Disable) (Some y) x e h = (y, refl, ap (λ (z : Structure). z.def) (same_Some (record { def = y.def; enabled = false }) x h))
kept-definition t (plain Show) (Some y) x e h = (y, refl, ap (λ (z : Structure). z.def) (same_Some y x h))
kept-definition t (plain OneShot) (Some y) x e h = (y, refl, ap (λ (z : Structure). z.def) (same_Some y x h))
kept-definition t (plain ShowPeriodic) (Some y) x e h = (y, refl, ap (λ (z : Structure). z.def) (same_Some y x h))

kept-by : (t : TailoringParts) (key : Key) (i : Instruction) (before : Option Structure) (x : Structure) → begins_intervals_of key i ≡ false → structure_left t i key before ≡ Some x
    → (y : Structure) × (before ≡ Some y) × (y.def ≡ x.def)
kept-by t key (on_structure named change) before x e h = by_key (key_eq named key) refl
  where
    by_key : (b : Bool) → key_eq named key ≡ b → (y : Structure) × (before ≡ Some y) × (y.def ≡ x.def)
    by_key true f =
        kept-definition t change before x (sym (ap (λ b. b && begins_intervals change) f) ∙ e)
        (sym (ap (λ b. if b then left_by t change before else before) f) ∙ h)
    by_key false f = (x, sym (ap (λ b. if b then left_by t change before else before) f) ∙ h, refl)
kept-by t key (on_statistics change) before x e h = (x, h, refl)
kept-by t key (report_values ids) before x e h = (x, h, refl)
kept-by t key (set_values settings) before x e h = (x, h, refl)

module _ (s : Session) (key : Key) (first : ℕ) (some : 0 < (tailoring s).widths.slot) where
  abbrev pub left : List Moment → Option Structure
  left moments = structure_after (tailoring s) s.initial (done_instructions s moments) key

  abbrev pub AreBefore : List Done → Type 0
  AreBefore ds = AllByRecursion (IsBefore (tailoring s) (begins_intervals_of key) first) ds

  defined-since : (tag : ℕ) (moments : List Moment) (x : Structure) → first * (tailoring s).widths.slot ≤ tag → EachAfter (MayHappen s) moments
      → AreBefore (done_instructions s moments) → left moments ≡ Some x → (y : Structure) × (left (moments_before tag moments) ≡ Some y) × (y.def ≡ x.def)
  defined-since tag [] x begins h before is = (x, is, refl)
  defined-since tag (m ∷ earlier) x begins h before is = by_tag (nat_lt m.tag tag) refl (λ y b e. defined-since tag earlier y begins h.1 b e)
    where
      by_done : (o : Option Done) → done_at s m ≡ o → tag ≤ m.tag → AreBefore (cons_option o (done_instructions s earlier))
          → structure_after (tailoring s) s.initial (cons_option o (done_instructions s earlier)) key ≡ Some x
          → AreBefore (done_instructions s earlier) × ((y : Structure) × (left earlier ≡ Some y) × (y.def ≡ x.def))
      by_done None e late b i = (b, (x, i, refl))
      by_done (Some d) e late b i = (b.1, by_test (begins_intervals_of key d.instruction) refl)
        where
          by_test : (test : Bool) → begins_intervals_of key d.instruction ≡ test → (y : Structure) × (left earlier ≡ Some y) × (y.def ≡ x.def)
          by_test false f = kept-by (tailoring s) key d.instruction (left earlier) x f i
          by_test true f =
              let at : d.tag ≡ m.tag = done-tag s m.tag m.act d e in
              let low : d.tag / (tailoring s).widths.slot < first = b.0 f in
              let below : d.tag < first * (tailoring s).widths.slot = (div-lt_iff_lt-mul some).0 low in
              absurd (omega (arith, at, late, below, begins))

      by_tag : (b : Bool) → nat_lt m.tag tag ≡ b
          → ((y : Structure) → AreBefore (done_instructions s earlier) → left earlier ≡ Some y → (z : Structure) × (left (moments_before tag earlier) ≡ Some z) × (z.def ≡ y.def))
          → (y : Structure) × (left (moments_before tag (m ∷ earlier)) ≡ Some y) × (y.def ≡ x.def)
      by_tag true e ih =
          let lt : m.tag < tag = ltb-true m.tag tag e in
          (x, ap left (all-kept tag (m ∷ earlier) (lt, lower-all m.tag tag earlier lt h.0.tag.above)) ∙ is, refl)
      by_tag false e ih =
          let r = by_done (done_at s m) refl (ltb-false m.tag tag e) before is in
          let z = ih r.1.0 r.0 r.1.1 in
          (z.0, ap left (ap (λ b. cond b (m ∷ moments_before tag earlier) (moments_before tag earlier)) e) ∙ z.1, z.2 ∙ r.1.2)

-- plans that do no instruction leave the instructions that were done
idle-dones : (s : Session) (clock slot : ℕ) (earlier after : List Moment) (plans : List Plan) → AllByRecursion (IsIdle s) plans → AreNext s clock slot earlier plans after
    → done_instructions s after ≡ done_instructions s earlier
idle-dones s clock slot earlier after [] idle h = ap (done_instructions s) h
idle-dones s clock slot earlier after (plan ∷ plans) idle h =
    idle-dones s clock slot (h.0 ∷ earlier) after plans idle.1 h.2
    ∙ ap (λ o. cons_option o (done_instructions s earlier)) (next-idle s clock slot earlier plan h.0 idle.0 h.1)

after-dones : (before : Core) (event : Event) (after : Core) → IsStep before event after
    → done_instructions (session after) after.moments ≡ done_instructions (session (prepared before event)) after.moments
after-dones before event after step =
    ap₂ (λ t rs. done_instructions (session_by t rs) after.moments) (step.tailoring ∙ sym (prepared-tailoring before event)) step.requests

packet-dones : (c : Core) (packet : List ℕ) (o : Option ℕ) → AreBelow (length c.requests) c.moments
    → done_instructions (session (with_packet c packet o)) c.moments ≡ done_instructions (session c) c.moments
packet-dones c packet None below = refl
packet-dones c packet (Some k) below =
    let more : List (List ℕ) = replicate (k - length c.requests) [] ++ packet ∷ [] in
    sym (dones-agrees (session c) (c.requests ++ more) c.moments (agree-all c.requests more c.moments below))

-- each change of a structure was done before the first slot of its pending one-shot
abbrev pub AreShotsLast : Core → Type 0
AreShotsLast c =
    (key : Key) (first : ℕ) → pending c key ≡ Some first → AllByRecursion (IsBefore c.tailoring (begins_intervals_of key) first) (done_instructions (session c) c.moments)

-- the one-shot after an instruction: its first slot is the next one, or it is as it was and the instruction doesn't begin the intervals anew
changed-shot : (t : TailoringParts) (tag first : ℕ) (change : StructureChange) (p : Option ℕ) → one_shot_changed t tag change p ≡ Some first
    → (slot_of t tag + 1 ≡ first) ⊎ ((p ≡ Some first) × (begins_intervals change ≡ false))
changed-shot t tag first (create d) p e = inl (moved p (slot_of t tag + 1) first e)
changed-shot t tag first (append a) p e = inl (moved p (slot_of t tag + 1) first e)
changed-shot t tag first (set_interval n) p e = inl (moved p (slot_of t tag + 1) first e)
changed-shot t tag first (plain Enable) p e = inl (moved p (slot_of t tag + 1) first e)
changed-shot t tag first (plain Delete) p e = absurd (none-some first e)
changed-shot t tag first (plain Disable) p e = inr (e, refl)
changed-shot t tag first (plain Show) p e = inr (e, refl)
changed-shot t tag first (plain ShowPeriodic) p e = inr (e, refl)
changed-shot t tag first (plain OneShot) None e = inl (same_Some (slot_of t tag + 1) first e)
changed-shot t tag first (plain OneShot) (Some f) e = inr (e, refl)

instruction-shot : (t : TailoringParts) (tag first : ℕ) (key : Key) (i : Instruction) (p : Option ℕ) → one_shot_by_instruction t tag key p i ≡ Some first
    → (slot_of t tag + 1 ≡ first) ⊎ ((p ≡ Some first) × (begins_intervals_of key i ≡ false))
instruction-shot t tag first key (on_structure named change) p e = by_key (key_eq named key) refl
  where
    by_change : key_eq named key ≡ true → (slot_of t tag + 1 ≡ first) ⊎ ((p ≡ Some first) × (begins_intervals change ≡ false))
        → (slot_of t tag + 1 ≡ first) ⊎ ((p ≡ Some first) × ((key_eq named key && begins_intervals change) ≡ false))
    by_change f (inl g) = inl g
    by_change f (inr g) = inr (g.0, ap (λ b. b && begins_intervals change) f ∙ g.1)

    by_key : (b : Bool) → key_eq named key ≡ b → (slot_of t tag + 1 ≡ first) ⊎ ((p ≡ Some first) × ((key_eq named key && begins_intervals change) ≡ false))
    by_key true f = by_change f (changed-shot t tag first change p (sym (ap (λ b. if b then one_shot_changed t tag change p else p) f) ∙ e))
    by_key false f = inr (sym (ap (λ b. if b then one_shot_changed t tag change p else p) f) ∙ e, ap (λ b. b && begins_intervals change) f)
instruction-shot t tag first key (on_statistics change) p e = inr (e, refl)
instruction-shot t tag first key (report_values ids) p e = inr (e, refl)
instruction-shot t tag first key (set_values settings) p e = inr (e, refl)

weaken : (t : TailoringParts) (test : Instruction → Bool) (first : ℕ) (ds : List Done) → AllByRecursion (IsBefore t (λ i. true) first) ds → AllByRecursion (IsBefore t test first) ds
weaken t test first [] h = tt
weaken t test first (d ∷ ds) h = ((λ e. h.0 refl), weaken t test first ds h.1)

-- work leaves the changes before the first slots
acts-last : (c : Core) (acts : List Act) (after : List Moment) (key : Key) (first : ℕ) → 0 < c.tailoring.widths.slot → AreShotsLast c → EachAfter (MayHappen (session c)) after → length acts ≤ 1
    → AreNext (session c) c.clock c.slot_now c.moments (map does acts ++ map tells (topics_of (done_of (session c) (next_tag c.clock c.moments) acts))) after
    → one_shot_by c key (done_of (session c) (next_tag c.clock c.moments) acts) ≡ Some first
    → AllByRecursion (IsBefore c.tailoring (begins_intervals_of key) first) (done_instructions (session c) after)
acts-last c [] after key first some h time few next e =
    subst (λ ms. AllByRecursion (IsBefore c.tailoring (begins_intervals_of key) first) (done_instructions (session c) ms)) (sym next) (h key first e)
acts-last c (act ∷ more ∷ acts) after key first some h time few next e = absurd (omega (arith, few))
acts-last c (act ∷ []) after key first some h time few next e =
    let m : Moment = next.0 in
    let topics : List Topic = topics_of (done_of (session c) (next_tag c.clock c.moments) (act ∷ [])) in
    let later = idle-dones (session c) c.clock c.slot_now (m ∷ c.moments) after (map tells topics) (topics-idle (session c) topics) next.2 in
    let done : done_at (session c) m ≡ done_by (session c) (next_tag c.clock c.moments) act = ap₂ (λ n a. done_by (session c) n a) next.1.tag next.1.follows.0 in
    by_done (done_by (session c) (next_tag c.clock c.moments) act) refl (later ∙ ap (λ o. cons_option o (done_instructions (session c) c.moments)) done)
  where
    by_done : (o : Option Done) → done_by (session c) (next_tag c.clock c.moments) act ≡ o
        → done_instructions (session c) after ≡ cons_option (done_by (session c) (next_tag c.clock c.moments) act) (done_instructions (session c) c.moments)
        → AllByRecursion (IsBefore c.tailoring (begins_intervals_of key) first) (done_instructions (session c) after)
    by_done None f all =
        let shot : pending c key ≡ Some first = sym (ap (λ o. one_shot_by c key (option_map_or (λ d. d ∷ []) o [])) f) ∙ e in
        let same : done_instructions (session c) after ≡ done_instructions (session c) c.moments = all ∙ ap (λ o. cons_option o (done_instructions (session c) c.moments)) f in
        subst (AllByRecursion (IsBefore c.tailoring (begins_intervals_of key) first)) (sym same) (h key first shot)
    by_done (Some d) f all =
        let shot : one_shot_by_instruction c.tailoring d.tag key (pending c key) d.instruction ≡ Some first =
        sym (ap (λ o. one_shot_by c key (option_map_or (λ x. x ∷ []) o [])) f) ∙ e in
        let same : done_instructions (session c) after ≡ d ∷ done_instructions (session c) c.moments = all ∙ ap (λ o. cons_option o (done_instructions (session c) c.moments)) f in
        subst (AllByRecursion (IsBefore c.tailoring (begins_intervals_of key) first)) (sym same)
        (by_shot d same (instruction-shot c.tailoring d.tag first key d.instruction (pending c key) shot))
      where
        by_shot : (d : Done) → done_instructions (session c) after ≡ d ∷ done_instructions (session c) c.moments
            → (slot_of c.tailoring d.tag + 1 ≡ first) ⊎ ((pending c key ≡ Some first) × (begins_intervals_of key d.instruction ≡ false))
            → AllByRecursion (IsBefore c.tailoring (begins_intervals_of key) first) (d ∷ done_instructions (session c) c.moments)
        by_shot d same (inl g) =
            let all : AllByRecursion (IsBefore c.tailoring (λ i. true) (slot_after c.tailoring (λ i. true) (done_instructions (session c) after))) (done_instructions (session c) after) =
            begun-before (session c) c.tailoring (λ i. true) after some time in
            let those : AllByRecursion (IsBefore c.tailoring (λ i. true) (slot_of c.tailoring d.tag + 1)) (d ∷ done_instructions (session c) c.moments) =
            subst (λ ds. AllByRecursion (IsBefore c.tailoring (λ i. true) (slot_after c.tailoring (λ i. true) ds)) ds) same all in
            weaken c.tailoring (begins_intervals_of key) first (d ∷ done_instructions (session c) c.moments)
            (subst (λ n. AllByRecursion (IsBefore c.tailoring (λ i. true) n) (d ∷ done_instructions (session c) c.moments)) g those)
        by_shot d same (inr g) = ((λ b. absurd (true_is_not_false (sym b ∙ g.1))), h key first g.0)

step-last : (before : Core) (event : Event) (after : Core) → 0 < before.tailoring.widths.slot → Stands before → Stands after → AreShotsLast before → IsStep before event after
    → (key : Key) (first : ℕ) → pending after key ≡ Some first → AllByRecursion (IsBefore before.tailoring (begins_intervals_of key) first) (done_instructions (session after) after.moments)
step-last before (Uplink packet) after some k l h step key first e =
    let p : Core = prepared before (Uplink packet) in
    let same = after-dones before (Uplink packet) after step
    ∙ idle-dones (session p) p.clock before.slot_now before.moments after.moments (planned before (Uplink packet)) (packet-idle (session p) (handled_as before packet)) step.moments
    ∙ packet-dones before packet (handled_as before packet) k.good.below in
    subst (AllByRecursion (IsBefore before.tailoring (begins_intervals_of key) first)) (sym same) (h key first (sym (step.one_shots key) ∙ e))
step-last before (Clock tag) after some k l h step key first e =
    let same = after-dones before (Clock tag) after step ∙ ap (done_instructions (session before)) step.moments in
    subst (AllByRecursion (IsBefore before.tailoring (begins_intervals_of key) first)) (sym same) (h key first (sym (step.one_shots key) ∙ e))
step-last before (Filing x) after some k l h step key first e =
    let same = after-dones before (Filing x) after step
    ∙ idle-dones (session before) before.clock before.slot_now before.moments after.moments (planned before (Filing x)) ((λ tag. refl), tt) step.moments in
    subst (AllByRecursion (IsBefore before.tailoring (begins_intervals_of key) first)) (sym same) (h key first (sym (step.one_shots key) ∙ e))
step-last before Work after some k l h step key first e =
    let time : EachAfter (MayHappen (session before)) after.moments = own-time in
    subst (AllByRecursion (IsBefore before.tailoring (begins_intervals_of key) first)) (sym (after-dones before Work after step))
    (acts-last before (worked_acts before) after.moments key first some h time (worked-few before (worked_request before)) step.moments (sym (step.one_shots key) ∙ e))
  where
    own-time : EachAfter (MayHappen (session before)) after.moments
    own-time =
        subst (λ t. EachAfter (MayHappen (session_by t before.requests)) after.moments) step.tailoring
        (subst (λ rs. EachAfter (MayHappen (session_by after.tailoring rs)) after.moments) step.requests l.good.timeline)
step-last before CloseSlot after some k l h step key first e =
    let p : Core = prepared before CloseSlot in
    let same = after-dones before CloseSlot after step
    ∙ idle-dones (session p) p.clock before.slot_now before.moments after.moments (planned before CloseSlot)
    (own-idle (session p) p (settables before.tailoring) (take (tags_left p) (due_topics p))) step.moments in
    let left = left-pending (option_map_or (is_spent before key) ((state_of before).structure key) false) (pending before key) first (sym (step.one_shots key) ∙ e) in
    subst (AllByRecursion (IsBefore before.tailoring (begins_intervals_of key) first)) (sym same) (h key first left.0)

pub run-last : (t : TailoringParts) (events : List Event) (c : Core) → IsFit t → RequestsOnly t → IsRun t events c → AreShotsLast c
run-last t [] c fit only h = subst AreShotsLast (sym h) (λ key first e. absurd (none-some first e))
run-last t (event ∷ earlier) c fit only h =
    let before : Core = h.0 in
    let fit2 = subst IsFit (sym (run-tailoring t earlier before h.1)) fit in
    let only2 = subst RequestsOnly (sym (run-tailoring t earlier before h.1)) only in
    let k = run-stands t earlier before fit only h.1 in
    let l = step-stands before event c fit2 only2 k h.2 in
    λ key first e.
    subst (λ x. AllByRecursion (IsBefore x (begins_intervals_of key) first) (done_instructions (session c) c.moments)) (sym h.2.step.tailoring)
    (step-last before event c (omega (arith, fit2.widths.slot.0)) k l (run-last t earlier before fit only h.1) h.2.step key first e)

-- a one-shot that is spent is pending, and its interval ends with the slot that runs
spent-first : (c : Core) (key : Key) (x : Structure) → is_spent c key x ≡ true → (first : ℕ) × (pending c key ≡ Some first) × (first + x.def.interval ≡ c.slot_now + 1)
spent-first c key x e = go (pending c key) refl
  where
    go : (o : Option ℕ) → pending c key ≡ o → (first : ℕ) × (pending c key ≡ Some first) × (first + x.def.interval ≡ c.slot_now + 1)
    go None f = absurd (true_is_not_false (sym (sym (ap (λ o. option_map_or (λ n. n + x.def.interval == c.slot_now + 1) o false) f) ∙ e)))
    go (Some first) f =
        let test : (first + x.def.interval == c.slot_now + 1) ≡ true = sym (ap (λ o. option_map_or (λ n. n + x.def.interval == c.slot_now + 1) o false) f) ∙ e in
        (first, f, (Decides-eqb (first + x.def.interval) (c.slot_now + 1)).0 test)

-- at each tag since the interval began, a structure that is due had its definition
pub due-definition : (c : Core) → IsFit c.tailoring → Stands c → AreShotsLast c → (key : Key) (x : Structure) → (state_of c).structure key ≡ Some x → is_due c key x ≡ true
    → (tag : ℕ) → (c.slot_now + 1 - x.def.interval) * c.tailoring.widths.slot ≤ tag
    → (y : Structure) × ((state_at (session c) c.moments tag).structure key ≡ Some y) × (y.def ≡ x.def)
due-definition c fit k last key x there due tag since = by_spent (is_spent c key x) refl
  where
    by_spent : (b : Bool) → is_spent c key x ≡ b → (y : Structure) × ((state_at (session c) c.moments tag).structure key ≡ Some y) × (y.def ≡ x.def)
    by_spent false e = (x, whole-interval c fit k key x there due e tag since, refl)
    by_spent true e =
        let f = spent-first c key x e in
        let same : c.slot_now + 1 - x.def.interval ≡ f.0 = omega (arith, f.2) in
        let begins : f.0 * c.tailoring.widths.slot ≤ tag = subst (λ n. n * c.tailoring.widths.slot ≤ tag) same since in
        defined-since (session c) key f.0 (omega (arith, fit.widths.slot.0)) tag c.moments x begins k.good.timeline (last key f.0 f.1) there
