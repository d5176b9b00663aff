-- What is answered where an instruction of each kind is carried out, and what is held then.
use Rattle.std.proofs.Common.{◌≡◌, ℕ, ◌+◌, refl, sym, ◌∙◌, ap, subst, List, [], ◌∷◌, length, Bool, true, false, ◌&&◌, ◌==◌, Option, Some, None, Ok}
use Rattle.std.specs.Prelude.{IfSome, option_map, if◌then◌else◌}
use Rattle.std.specs.List.{cons_option}
use Rattle.std.specs.Map.{lookup}
use Rattle.hk_base.specs.Fit.{IsFit, slot_of}
use Rattle.hk_base.specs.Parameters.{key_eq, kind_eq}
use Rattle.hk_base.specs.declared.types.Kind.{Kind}
use Rattle.hk_base.specs.declared.types.Kind.TheVariants.{Housekeeping, Diagnostic}
use Rattle.std.proofs.lemmas.Bool.{eq-eqb}
use Rattle.hk_base.specs.declared.types.Key.{Key}
use Rattle.hk_base.specs.declared.types.Structure.{Structure}
use Rattle.st03_grammar.specs.Instructions.{StructureChange, plain}
use Rattle.st03_grammar.specs.declared.bodies.Each.TheVariants as each
use Rattle.pus_messages.specs.Instructions.{on_structure, report_values}
use Rattle.report_structures.specs.Effects.{effect}
use Rattle.report_structures.specs.declared.refusal.Refusal.{Refusal}
use Rattle.hk_world.specs.Timelines.{Done, done_instructions, is_resetting_report}
use Rattle.board_steps.specs.Cores.{Core, session, state_of, next_tag}
use Rattle.board_steps.specs.Plans.{one_shot_by}
use Rattle.board_steps.specs.Slots.{begins_intervals, one_shot_changed}
use Rattle.board_steps.specs.Steps.{Answers}
use Rattle.board_steps.specs.declared.event.Event.TheVariants.{Work}
use Rattle.board_steps.proofs.GrammarLemmas.{RequestsOnly}
use Rattle.board_state.specs.Holdings.{held_at, ChangesAt, SetsAt, new_held, with_one_shot, with_structure, one_shots_of, IsHeld, AreRisingKeys, AreStructures}
use Rattle.board_state.specs.Statistics.{StatisticsHeld}
use Rattle.board_state.specs.Waiting.{RequestsHeld, first_done, first_refused, next_refused}
use Rattle.board_state.specs.declared.channels.Channel.{Channel}
use Rattle.board_state.specs.declared.structures.Held.{Held}
use Rattle.board_state.proofs.ChannelLemmas.{SetsNone}
use Rattle.board_state.proofs.EffectLemmas.{sets-changes}
use Rattle.board_state.proofs.HoldingLemmas.{IsOther, keys-one, other-done}
use Rattle.board_state.proofs.RisingLemmas.{sets-rising}
use Rattle.board_state.proofs.StatisticsLemmas.{LeavesStatistics}
use Rattle.board_core.specs.Boards.{core_of, IsBoard, IsWhole}
use Rattle.board_core.specs.Effects.{IsToCarry, OnlyShows, is_done}
use Rattle.board_core.specs.Logs.{LogParts, drafted, with_moments}
use Rattle.board_core.specs.declared.effect.Effect.{Effect}
use Rattle.board_core.specs.declared.effect.Effect.TheVariants.{Refused, Create, Delete, Replace, OrderOneShot, ShowStructure, ShowProperties, ChangeStatistics, ReportValues, SetValues}
use Rattle.board_core.specs.declared.log.Draft.{Draft}
use Rattle.board_core.proofs.CarriedLemmas.{did_now, values-kept, statistics-kept, values-refused, statistics-refused, finished, IsCountedFirst, counted-done, counted-refused, shots-other, shots-changed}
use Rattle.board_core.proofs.ChangeLemmas.{shot, absent, present, creation-holds, creation-shot, replacement-absent, replacement-holds, replacement-shot, order-holds, order-shot, deletion-holds, same-at, showing-holds}

-- a key passes its own test
key-own : (a : Key) → key_eq a a ≡ true
key-own a = go a.kind a.id
  where
    go : (k : Kind) (m : ℕ) → (kind_eq k k && m == m) ≡ true
    go Housekeeping m = eq-eqb m m refl
    go Diagnostic m = eq-eqb m m refl

module _ (clock slot : ℕ) (rq : RequestsHeld) (held : List (Key × Held)) (l : LogParts) (channels : List (ℕ × Channel)) (members : StatisticsHeld) (d : Draft)
    (fit : IsFit l.tailoring) (only : RequestsOnly l.tailoring) (b : IsWhole (core_of clock slot rq held l) rq.waiting held channels members) where
  -- what is answered, and what is held then, where parameters and statistics stay
  abbrev pub IsFinished : RequestsHeld → List (Key × Held) → LogParts → ℕ → Type 0
  IsFinished rq2 held2 l2 count =
      Answers (core_of clock slot rq held l) Work (core_of clock slot rq2 held2 l2) (Ok count) × IsWhole (core_of clock slot rq2 held2 l2) rq2.waiting held2 channels members

  -- the instructions that were done before
  abbrev dones : List Done
  dones = done_instructions (session (core_of clock slot rq held l)) l.moments

  -- one request is counted on, and the moments are added
  pub record IsAddedTo (rq2 : RequestsHeld) (l2 : LogParts) (count : ℕ) : Type 0 where
    pub requests : rq2 ≡ record { packets = rq.packets; waiting = first_done rq.waiting }
    pub log : l2 ≡ with_moments l (drafted l d.moments.items)
    pub count_is : count ≡ length d.moments.items

  module _ (e : Effect) (t : IsToCarry (core_of clock slot rq held l) e d) (done : is_done e ≡ true) where
    -- an instruction that changes neither parameters nor statistics
    plain-finished : SetsNone t.instruction → LeavesStatistics t.instruction → is_resetting_report t.instruction ≡ false
        → (rq2 : RequestsHeld) (held2 : List (Key × Held)) (l2 : LogParts) (count : ℕ) → IsAddedTo rq2 l2 count
        → ((other : Key) → lookup (key_eq other) (one_shots_of held2) ≡ one_shot_by (core_of clock slot rq held l) other (did_now clock slot rq held l e d t ∷ []))
        → AreStructures l.tailoring (did_now clock slot rq held l e d t ∷ dones) held2 → IsFinished rq2 held2 l2 count
    plain-finished sets leaves no_reset rq2 held2 l2 count added shots structures =
        let x : Done = did_now clock slot rq held l e d t in
        finished clock slot rq held l e d t channels members fit only b rq2 held2 channels members l2 count (ap (λ (r : RequestsHeld). r.packets) added.requests)
        (subst (λ (r : RequestsHeld). IsCountedFirst (is_done e) rq.waiting r.waiting) (sym added.requests) (subst (λ y. IsCountedFirst y rq.waiting (first_done rq.waiting)) (sym done) (counted-done rq.waiting)))
        added.log added.count_is
        (λ key. shots key ∙ ap (λ y. one_shot_by (core_of clock slot rq held l) key (if y then x ∷ [] else [])) (sym done))
        (subst (λ y. AreStructures l.tailoring (cons_option (if y then Some x else None) dones) held2) (sym done) structures)
        (values-kept clock slot rq held l e d t channels sets b.values)
        (statistics-kept clock slot rq held l e d t members leaves no_reset b.settled b.statistics)

    -- an instruction on a structure
    pub structure-finished : (key : Key) (made : StructureChange) → t.instruction ≡ on_structure key made
        → (rq2 : RequestsHeld) (held2 : List (Key × Held)) (l2 : LogParts) (count : ℕ) → IsAddedTo rq2 l2 count
        → ((other : Key) → lookup (key_eq other) (one_shots_of held2) ≡ one_shot_by (core_of clock slot rq held l) other (did_now clock slot rq held l e d t ∷ []))
        → AreStructures l.tailoring (did_now clock slot rq held l e d t ∷ dones) held2 → IsFinished rq2 held2 l2 count
    structure-finished key made is = plain-finished (subst SetsNone (sym is) tt) (subst LeavesStatistics (sym is) tt) (ap is_resetting_report is)

    -- a report of values
    pub reported-finished : (ids : List ℕ) → t.instruction ≡ report_values ids → (rq2 : RequestsHeld) (l2 : LogParts) (count : ℕ) → IsAddedTo rq2 l2 count → IsFinished rq2 held l2 count
    reported-finished ids is rq2 l2 count added =
        let other : IsOther t.instruction = subst IsOther (sym is) tt in
        plain-finished (subst SetsNone (sym is) tt) (subst LeavesStatistics (sym is) tt) (ap is_resetting_report is) rq2 held l2 count added
        (λ key. shots-other (core_of clock slot rq held l) (did_now clock slot rq held l e d t) key other)
        (other-done l.tailoring dones (did_now clock slot rq held l e d t) held other b.structures)

  -- a new structure
  pub created-finished : (key : Key) (after : Structure) (t : IsToCarry (core_of clock slot rq held l) (Create key after) d) (rq2 : RequestsHeld) (held2 : List (Key × Held)) (l2 : LogParts) (count : ℕ)
      → IsAddedTo rq2 l2 count → ChangesAt key (Some (new_held after (slot_of l.tailoring (next_tag clock l.moments) + 1))) held held2 → AreRisingKeys held2 → IsFinished rq2 held2 l2 count
  created-finished key after t rq2 held2 l2 count added changes rising =
      let x : Done = did_now clock slot rq held l (Create key after) d t in
      let h = t.is_effect in
      let none = absent l.tailoring dones x key held b.structures h.0 after h.2 h.1.leaves in
      structure-finished (Create key after) t refl key h.0 h.1.is rq2 held2 l2 count added
      (shots-changed (core_of clock slot rq held l) held held2 x key h.0 (Some (new_held after (slot_of l.tailoring x.tag + 1))) refl h.1.is changes b.structures.rising rising
      (creation-shot l.tailoring dones x key held b.structures h.0 after (slot_of l.tailoring x.tag + 1) h.2 none))
      (creation-holds l.tailoring dones x key held b.structures h.0 after held2 h.2 h.1.is h.1.leaves h.1.valid h.1.id changes rising)

  -- nothing was held under the key of a new structure
  pub created-absent : (key : Key) (after : Structure) → IsToCarry (core_of clock slot rq held l) (Create key after) d → held_at held key ≡ None
  created-absent key after t =
      absent l.tailoring dones (did_now clock slot rq held l (Create key after) d t) key held b.structures t.is_effect.0 after t.is_effect.2 t.is_effect.1.leaves

  -- a structure is held that is to be replaced
  pub replaced-present : (key : Key) (after : Structure) (begins : Bool) → IsToCarry (core_of clock slot rq held l) (Replace key after begins) d → (was : Held) × (held_at held key ≡ Some was)
  replaced-present key after begins t =
      let x : Done = did_now clock slot rq held l (Replace key after begins) d t in
      let h = t.is_effect in
      present l.tailoring dones x key held b.structures h.0 (Some after) (replacement-absent l.tailoring dones x key held b.structures h.0 h.2) h.1.leaves

  -- a structure in the place of another
  pub replaced-finished : (key : Key) (after : Structure) (begins : Bool) (t : IsToCarry (core_of clock slot rq held l) (Replace key after begins) d) (rq2 : RequestsHeld) (held2 : List (Key × Held))
      (l2 : LogParts) (count : ℕ) → IsAddedTo rq2 l2 count
      → SetsAt key (with_structure after (if begins then Some (slot_of l.tailoring (next_tag clock l.moments) + 1) else None)) held held2 → IsFinished rq2 held2 l2 count
  replaced-finished key after begins t rq2 held2 l2 count added sets =
      let x : Done = did_now clock slot rq held l (Replace key after begins) d t in
      let h = t.is_effect in
      let p = replaced-present key after begins t in
      let f : Held → Held = with_structure after (if begins then Some (slot_of l.tailoring (next_tag clock l.moments) + 1) else None) in
      let rising = sets-rising key f held held2 p.0 p.1 sets b.structures.rising in
      let to : Held = with_structure after (if begins_intervals h.0 then Some (slot_of l.tailoring x.tag + 1) else None) p.0 in
      let changes : ChangesAt key (Some to) held held2 =
      subst (λ y. ChangesAt key (Some (with_structure after (if y then Some (slot_of l.tailoring x.tag + 1) else None) p.0)) held held2) h.3 (sets-changes key f held held2 p.0 p.1 sets) in
      structure-finished (Replace key after begins) t refl key h.0 h.1.is rq2 held2 l2 count added
      (shots-changed (core_of clock slot rq held l) held held2 x key h.0 (Some to) refl h.1.is changes b.structures.rising rising
      (replacement-shot l.tailoring dones x key held b.structures h.0 after p.0 h.2 p.1))
      (replacement-holds l.tailoring dones x key held b.structures h.0 after p.0 held2 h.1.is h.1.leaves h.1.valid p.1 changes rising)

  -- a structure is held of which a one-shot is ordered
  pub ordered-present : (key : Key) → IsToCarry (core_of clock slot rq held l) (OrderOneShot key) d → (was : Held) × (held_at held key ≡ Some was)
  ordered-present key t =
      let h = t.is_effect in
      present l.tailoring dones (did_now clock slot rq held l (OrderOneShot key) d t) key held b.structures (plain each.OneShot) (Some h.0) refl h.1.leaves

  -- a one-shot is ordered
  pub ordered-finished : (key : Key) (t : IsToCarry (core_of clock slot rq held l) (OrderOneShot key) d) (rq2 : RequestsHeld) (held2 : List (Key × Held)) (l2 : LogParts) (count : ℕ)
      → IsAddedTo rq2 l2 count → SetsAt key (with_one_shot (slot_of l.tailoring (next_tag clock l.moments) + 1)) held held2 → IsFinished rq2 held2 l2 count
  ordered-finished key t rq2 held2 l2 count added sets =
      let x : Done = did_now clock slot rq held l (OrderOneShot key) d t in
      let h = t.is_effect in
      let p = ordered-present key t in
      let f : Held → Held = with_one_shot (slot_of l.tailoring (next_tag clock l.moments) + 1) in
      let rising = sets-rising key f held held2 p.0 p.1 sets b.structures.rising in
      let changes : ChangesAt key (Some (f p.0)) held held2 = sets-changes key f held held2 p.0 p.1 sets in
      structure-finished (OrderOneShot key) t refl key (plain each.OneShot) h.1.is rq2 held2 l2 count added
      (shots-changed (core_of clock slot rq held l) held held2 x key (plain each.OneShot) (Some (f p.0)) refl h.1.is changes b.structures.rising rising
      (order-shot l.tailoring dones x key held b.structures p.0 p.1))
      (order-holds l.tailoring dones x key held b.structures h.0 p.0 held2 h.1.is h.1.leaves p.1 changes rising)

  -- a structure is taken away
  pub deleted-finished : (key : Key) (t : IsToCarry (core_of clock slot rq held l) (Delete key) d) (rq2 : RequestsHeld) (held2 : List (Key × Held)) (l2 : LogParts) (count : ℕ)
      → IsAddedTo rq2 l2 count → ChangesAt key None held held2 → AreRisingKeys held2 → IsFinished rq2 held2 l2 count
  deleted-finished key t rq2 held2 l2 count added changes rising =
      let x : Done = did_now clock slot rq held l (Delete key) d t in
      let h = t.is_effect in
      let is : t.instruction ≡ on_structure key (plain each.Delete) = h.1.is ∙ ap (on_structure key) h.2 in
      let leaves : effect l.tailoring (plain each.Delete) ((state_of (core_of clock slot rq held l)).structure key) ≡ Ok None =
      ap (λ (y : StructureChange). effect l.tailoring y ((state_of (core_of clock slot rq held l)).structure key)) (sym h.2) ∙ h.1.leaves in
      structure-finished (Delete key) t refl key (plain each.Delete) is rq2 held2 l2 count added
      (shots-changed (core_of clock slot rq held l) held held2 x key (plain each.Delete) None refl is changes b.structures.rising rising refl)
      (deletion-holds l.tailoring dones x key held b.structures held2 is leaves changes rising)

  -- the one-shots stay where a report on a structure is ordered
  shown-shots : (e : Effect) (t : IsToCarry (core_of clock slot rq held l) e d) (key : Key) (made : StructureChange) → t.instruction ≡ on_structure key made
      → ((o : Option ℕ) → o ≡ one_shot_changed l.tailoring (next_tag clock l.moments) made o)
      → (other : Key) → lookup (key_eq other) (one_shots_of held) ≡ one_shot_by (core_of clock slot rq held l) other (did_now clock slot rq held l e d t ∷ [])
  shown-shots e t key made is same =
      shots-changed (core_of clock slot rq held l) held held (did_now clock slot rq held l e d t) key made (held_at held key) refl is
      (same-at l.tailoring dones (did_now clock slot rq held l e d t) key held b.structures) b.structures.rising b.structures.rising (same (shot (held_at held key)))

  pub shown-finished : (key : Key) (after : Structure) (t : IsToCarry (core_of clock slot rq held l) (ShowStructure key after) d) (rq2 : RequestsHeld) (l2 : LogParts) (count : ℕ)
      → IsAddedTo rq2 l2 count → IsFinished rq2 held l2 count
  shown-finished key after t rq2 l2 count added =
      let x : Done = did_now clock slot rq held l (ShowStructure key after) d t in
      let h = t.is_effect in
      structure-finished (ShowStructure key after) t refl key (plain each.Show) h.is rq2 held l2 count added (shown-shots (ShowStructure key after) t key (plain each.Show) h.is (λ o. refl))
      (showing-holds l.tailoring dones x key held b.structures (plain each.Show) after h.is refl refl (λ s. refl) h.leaves)

  pub properties-finished : (key : Key) (after : Structure) (t : IsToCarry (core_of clock slot rq held l) (ShowProperties key after) d) (rq2 : RequestsHeld) (l2 : LogParts) (count : ℕ)
      → IsAddedTo rq2 l2 count → IsFinished rq2 held l2 count
  properties-finished key after t rq2 l2 count added =
      let x : Done = did_now clock slot rq held l (ShowProperties key after) d t in
      let h = t.is_effect in
      structure-finished (ShowProperties key after) t refl key (plain each.ShowPeriodic) h.is rq2 held l2 count added
      (shown-shots (ShowProperties key after) t key (plain each.ShowPeriodic) h.is (λ o. refl))
      (showing-holds l.tailoring dones x key held b.structures (plain each.ShowPeriodic) after h.is refl refl (λ s. refl) h.leaves)

  -- an instruction that only orders a report
  pub only-shown : (e : Effect) (t : IsToCarry (core_of clock slot rq held l) e d) → OnlyShows e → (rq2 : RequestsHeld) (l2 : LogParts) (count : ℕ) → IsAddedTo rq2 l2 count → IsFinished rq2 held l2 count
  only-shown (ShowStructure key after) t shows rq2 l2 count added = shown-finished key after t rq2 l2 count added
  only-shown (ShowProperties key after) t shows rq2 l2 count added = properties-finished key after t rq2 l2 count added
  only-shown (ReportValues ids) t shows rq2 l2 count added = reported-finished (ReportValues ids) t refl ids t.is_effect.0 rq2 l2 count added
  only-shown (Refused r) t shows rq2 l2 count added = absurd shows
  only-shown (Create key after) t shows rq2 l2 count added = absurd shows
  only-shown (Delete key) t shows rq2 l2 count added = absurd shows
  only-shown (Replace key after z) t shows rq2 l2 count added = absurd shows
  only-shown (OrderOneShot key) t shows rq2 l2 count added = absurd shows
  only-shown (ChangeStatistics made) t shows rq2 l2 count added = absurd shows
  only-shown (SetValues settings) t shows rq2 l2 count added = absurd shows

  -- an instruction was refused
  pub refused-finished : (r : Refusal) (t : IsToCarry (core_of clock slot rq held l) (Refused r) d) (rq2 : RequestsHeld) (l2 : LogParts) (count : ℕ)
      → rq2 ≡ record { packets = rq.packets; waiting = first_refused (next_refused rq.waiting) rq.waiting } → l2 ≡ with_moments l (drafted l d.moments.items) → count ≡ length d.moments.items
      → IsFinished rq2 held l2 count
  refused-finished r t rq2 l2 count is log number =
      finished clock slot rq held l (Refused r) d t channels members fit only b rq2 held channels members l2 count (ap (λ (q : RequestsHeld). q.packets) is)
      (subst (λ (q : RequestsHeld). IsCountedFirst false rq.waiting q.waiting) (sym is) (counted-refused rq.waiting)) log number
      (λ key. refl) b.structures
      (values-refused clock slot rq held l (Refused r) d t refl channels b.values)
      (statistics-refused clock slot rq held l (Refused r) d t refl members b.settled b.statistics)

  -- a new structure that is taken away again leaves all as it was
  pub taken-back : (key : Key) (to : Held) (mid new : List (Key × Held)) (l2 : LogParts) → held_at held key ≡ None → to.one_shot ≡ None
      → ChangesAt key (Some to) held mid → ChangesAt key None mid new → AreRisingKeys new
      → (held_at held key ≡ None → one_shots_of mid ≡ one_shots_of held) → (IfSome (held_at mid key) (λ h. h.one_shot ≡ None) → one_shots_of new ≡ one_shots_of mid) → l2 ≡ l
      → IsWhole (core_of clock slot rq new l2) rq.waiting new channels members
  taken-back key to mid new l2 none silent there gone rising kept1 kept2 same =
      let shots : one_shots_of new ≡ one_shots_of held =
      kept2 (subst (λ (o : Option Held). IfSome o (λ h. h.one_shot ≡ None)) (sym (there key ∙ ap (λ b. if b then Some to else held_at held key) (key-own key))) silent) ∙ kept1 none in
      subst (λ (x : LogParts). IsWhole (core_of clock slot rq new x) rq.waiting new channels members) (sym same)
      (record {
        board = subst (λ (s : List (Key × ℕ)). IsBoard (with_shots s) rq.waiting) (sym shots) b.board;
        structures = record {
          each = λ other. subst (λ (o : Option Held). IfSome o (IsHeld l.tailoring dones other)) (sym (back other)) (b.structures.each other);
          same = λ other. ap (option_map (λ h. h.structure)) (back other) ∙ b.structures.same other;
          rising = rising;
        };
        values = b.values;
        statistics = b.statistics;
        settled = b.settled;
      })
    where
      with_shots : List (Key × ℕ) → Core
      with_shots s = record { tailoring = l.tailoring; clock = clock; slot_now = slot; one_shots = s; requests = rq.packets; moments = l.moments }

      back : (other : Key) → held_at new other ≡ held_at held other
      back other = go (key_eq key other) refl
        where
          go : (b : Bool) → key_eq key other ≡ b → held_at new other ≡ held_at held other
          go true q =
              gone other ∙ ap (λ b. if b then None else held_at mid other) q ∙ sym (ap (held_at held) (sym (keys-one key other q)) ∙ none)
          go false q =
              gone other ∙ ap (λ b. if b then None else held_at mid other) q ∙ there other ∙ ap (λ b. if b then Some to else held_at held other) q
