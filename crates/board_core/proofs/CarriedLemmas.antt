-- What is answered where an instruction is carried out, and what is held then.
use Rattle.std.proofs.Common.{arith, ◌≡◌, ℕ, zero, suc, ◌+◌, ◌<◌, ◌≤◌, refl, sym, ◌∙◌, ap, ap₂, subst, List, [], ◌∷◌, ◌++◌, length, map, Bool, true, false, Option, Some, None, Ok}
use Rattle.std.specs.Prelude.{IfSome, slice_get, option_and_then, if◌then◌else◌}
use Rattle.std.specs.List.{cons_option}
use Rattle.std.specs.Map.{lookup}
use Rattle.std.specs.Option.{option_map_or}
use Rattle.std.proofs.lemmas.Bool.Decides.{nat_tests}
use Rattle.std.proofs.lemmas.Option.{none-some, same_Some}
use Rattle.hk_base.specs.Fit.{IsFit}
use Rattle.hk_base.specs.Parameters.{key_eq}
use Rattle.hk_base.specs.declared.types.Key.{Key}
use Rattle.st03_grammar.specs.Instructions.{StructureChange}
use Rattle.pus_messages.specs.Instructions.{Instruction, on_structure, on_statistics, report_values, set_values, instructions}
use Rattle.hk_world.specs.Timelines.{Session, Done, instructions_at, last_act, done_by, done_at, done_instructions, is_resetting_report}
use Rattle.hk_world.specs.declared.moment.Moment.{Moment}
use Rattle.hk_world.specs.declared.moment.Act.{Act}
use Rattle.hk_world.specs.declared.moment.Act.TheVariants.{Accepted, Started, Executed, Emitted}
use Rattle.board_steps.specs.Cores.{Core, session, next_tag, pending}
use Rattle.board_steps.specs.Plans.{does, tells, one_shot_by}
use Rattle.board_steps.specs.Slots.{one_shot_changed, one_shot_by_instruction}
use Rattle.board_steps.specs.Steps.{AreNext, IsStep, Answers}
use Rattle.board_steps.specs.Timeline.{Stands}
use Rattle.board_steps.specs.declared.event.Event.TheVariants.{Work}
use Rattle.board_steps.proofs.GrammarLemmas.{RequestsOnly}
use Rattle.board_steps.proofs.RunLemmas.{step-stands}
use Rattle.board_state.specs.Holdings.{held_at, ChangesAt, AreRisingKeys, one_shots_of, AreStructures}
use Rattle.board_state.specs.Statistics.{StatisticsHeld, AreStatistics, IsSettled}
use Rattle.board_state.specs.Values.{AreValues}
use Rattle.board_state.specs.Waiting.{RequestsHeld, IsStage, AreWaiting, IsWith, first_done, first_refused, next_refused}
use Rattle.board_state.specs.declared.channels.Channel.{Channel}
use Rattle.board_state.specs.declared.running.Running.{Running}
use Rattle.board_state.specs.declared.structures.Held.{Held}
use Rattle.board_state.proofs.ChannelLemmas.{IsNoFiling, SetsNone, is-valueless, values-still}
use Rattle.board_state.proofs.HoldingLemmas.{IsOther, keys-one}
use Rattle.board_state.proofs.RisingLemmas.{pending-is}
use Rattle.board_state.proofs.StatisticsLemmas.{LeavesStatistics, did, statistics-still, statistics-left, settled-still, settled-done}
use Rattle.board_core.specs.Boards.{core_of, IsWhole}
use Rattle.board_core.specs.Effects.{IsToCarry, is_done, effect_topics}
use Rattle.board_core.specs.Logs.{LogParts, drafted, with_moments}
use Rattle.board_core.specs.declared.effect.Effect.{Effect}
use Rattle.board_core.specs.declared.log.Draft.{Draft}
use Rattle.board_core.proofs.ExecutedLemmas.{done_now, done-by, done-are, plan-is, told-keep, told-dones, told-waiting, refused_with, waiting-executed, instruction-within}
use Rattle.board_core.proofs.WorkedLemmas.{worked-first, worked-none}

-- a request has one stage
pub stage-one : (k n m : ℕ) (started : Bool) (o : Option Act) → IsStage k started n o → IsStage k true m o → (started ≡ true) × (n ≡ m)
stage-one k n zero false o h g = absurd (let same : Some (Accepted k) ≡ Some (Started k) = sym h.1 ∙ g in cc)
stage-one k n (suc m) false o h g = absurd (let same : Some (Accepted k) ≡ Some (Executed k (suc m) g.0) = sym h.1 ∙ g.1 in cc)
stage-one k zero zero true o h g = (refl, refl)
stage-one k zero (suc m) true o h g = absurd (let same : Some (Started k) ≡ Some (Executed k (suc m) g.0) = sym h ∙ g.1 in cc)
stage-one k (suc n) zero true o h g = absurd (let same : Some (Executed k (suc n) h.0) ≡ Some (Started k) = sym h.1 ∙ g in cc)
stage-one k (suc n) (suc m) true o h g = (refl, let same : Some (Executed k (suc n) h.0) ≡ Some (Executed k (suc m) g.0) = sym h.1 ∙ g.1 in cc)

-- one more instruction of the first of the requests was executed: done, or refused
abbrev pub IsCountedFirst : Bool → List Running → List Running → Type 0
IsCountedFirst done [] now = now ≡ []
IsCountedFirst done (w ∷ ws) now = (v : Running) × (now ≡ v ∷ ws) × IsWith w (w.executed + 1) (refused_with done w.refused (w.executed + 1)) v

pub counted-done : (ws : List Running) → IsCountedFirst true ws (first_done ws)
counted-done [] = refl
counted-done (w ∷ ws) =
    (record w { executed = w.executed + 1 }, refl, record { number = refl; id = refl; request = refl; started = refl; executed_is = refl; refused_are = refl })

pub counted-refused : (ws : List Running) → IsCountedFirst false ws (first_refused (next_refused ws) ws)
counted-refused [] = refl
counted-refused (w ∷ ws) = (
  record w { executed = w.executed + 1; refused = w.refused ++ (w.executed + 1) ∷ [] },
  refl,
  record { number = refl; id = refl; request = refl; started = refl; executed_is = refl; refused_are = refl },
)

module _ (clock slot : ℕ) (rq : RequestsHeld) (held : List (Key × Held)) (l : LogParts) (e : Effect) (d : Draft) (t : IsToCarry (core_of clock slot rq held l) e d) where
  -- the instruction that was done
  abbrev pub did_now : Done
  did_now = record { tag = next_tag clock l.moments; request = t.number; instruction = t.instruction }

  next : AreNext (session (core_of clock slot rq held l)) clock slot l.moments (does (Executed t.number (t.executed + 1) (is_done e)) ∷ map tells (effect_topics e)) (drafted l d.moments.items)
  next =
      subst (λ xs. AreNext (session (core_of clock slot rq held l)) clock slot l.moments xs (drafted l d.moments.items))
      (plan-is (core_of clock slot rq held l) t.number t.executed t.instruction e t.first t.stage t.there t.is_effect) t.plan.moments

  -- the instruction that is done at the first moment
  done-first : done_at (session (core_of clock slot rq held l)) next.0 ≡ (if is_done e then Some (record { tag = next.0.tag; request = t.number; instruction = t.instruction }) else None)
  done-first =
      ap (done_by (session (core_of clock slot rq held l)) next.0.tag) next.1.follows.0
      ∙ done-by (core_of clock slot rq held l) t.number t.executed t.instruction e t.first t.stage t.there t.is_effect next.0.tag (is_done e)

  unfiled : IsNoFiling next.0.act
  unfiled = subst IsNoFiling (sym next.1.follows.0) tt

  -- what the first moment leaves, and each report
  kept : (P : List Moment → Type 0) → ((m : Moment) (earlier : List Moment) → m.act ≡ Emitted → P earlier → P (m ∷ earlier)) → P (next.0 ∷ l.moments) → P (drafted l d.moments.items)
  kept P step first =
      told-keep P (session (core_of clock slot rq held l)) clock slot step (effect_topics e) (next.0 ∷ l.moments) (drafted l d.moments.items) next.2 first

  -- the instructions that were done then
  pub dones-after : done_instructions (session (core_of clock slot rq held l)) (drafted l d.moments.items)
      ≡ cons_option (if is_done e then Some did_now else None) (done_instructions (session (core_of clock slot rq held l)) l.moments)
  dones-after =
      let s : Session = session (core_of clock slot rq held l) in
      let now : List Done = done_instructions s l.moments in
      kept (λ ms. done_instructions s ms ≡ cons_option (if is_done e then Some did_now else None) now) (λ m earlier a p. told-dones s m earlier a ∙ p)
      (ap (λ o. cons_option o now) (done-first
      ∙ ap (λ n. if is_done e then Some (record { tag = n; request = t.number; instruction = t.instruction }) else None) next.1.tag))

  -- what is held of the parameters stays where none is set
  pub values-kept : (channels : List (ℕ × Channel)) → SetsNone t.instruction → AreValues (session (core_of clock slot rq held l)) l.moments channels
      → AreValues (session (core_of clock slot rq held l)) (drafted l d.moments.items) channels
  values-kept channels none h =
      let s : Session = session (core_of clock slot rq held l) in
      kept (λ ms. AreValues s ms channels)
      (λ m earlier a p. values-still s m earlier channels
      (is-valueless s m (subst IsNoFiling (sym a) tt) (subst (λ (o : Option Done). IfSome o (λ y. SetsNone y.instruction)) (sym (ap (done_by s m.tag) a)) tt)) p)
      (values-still s next.0 l.moments channels
      (is-valueless s next.0 unfiled (subst (λ (o : Option Done). IfSome o (λ y. SetsNone y.instruction)) (sym done-first) (go (is_done e)))) h)
    where
      go : (b : Bool) → IfSome (if b then Some (record { tag = next.0.tag; request = t.number; instruction = t.instruction }) else None) (λ (y : Done). SetsNone y.instruction)
      go true = none
      go false = tt

  -- so does what is held of the statistics where they aren't changed
  pub statistics-kept : (x : StatisticsHeld) → LeavesStatistics t.instruction → is_resetting_report t.instruction ≡ false → IsSettled (session (core_of clock slot rq held l)) l.moments
      → AreStatistics (session (core_of clock slot rq held l)) l.moments x
      → AreStatistics (session (core_of clock slot rq held l)) (drafted l d.moments.items) x × IsSettled (session (core_of clock slot rq held l)) (drafted l d.moments.items)
  statistics-kept x leaves no_reset settled h =
      let s : Session = session (core_of clock slot rq held l) in
      kept (λ ms. AreStatistics s ms x × IsSettled s ms)
      (λ m earlier a p. (statistics-still s m earlier x (ap (done_by s m.tag) a) (subst IsNoFiling (sym a) tt) p.1 p.0, settled-still s m earlier (ap (done_by s m.tag) a)))
      (go (is_done e) refl)
    where
      go : (b : Bool) → is_done e ≡ b → AreStatistics (session (core_of clock slot rq held l)) (next.0 ∷ l.moments) x × IsSettled (session (core_of clock slot rq held l)) (next.0 ∷ l.moments)
      go true q =
          let s : Session = session (core_of clock slot rq held l) in
          let done : done_at s next.0 ≡ Some (did next.0 t.number t.instruction) = done-first ∙ ap (λ b. if b then Some (did next.0 t.number t.instruction) else None) q in
          (statistics-left s next.0 l.moments t.number t.instruction x done leaves unfiled settled h, settled-done s next.0 l.moments t.number t.instruction done no_reset)
      go false q =
          let s : Session = session (core_of clock slot rq held l) in
          let none : done_at s next.0 ≡ None = done-first ∙ ap (λ b. if b then Some (did next.0 t.number t.instruction) else None) q in
          (statistics-still s next.0 l.moments x none unfiled settled h, settled-still s next.0 l.moments none)

  -- a refused instruction leaves both
  pub values-refused : is_done e ≡ false → (channels : List (ℕ × Channel)) → AreValues (session (core_of clock slot rq held l)) l.moments channels
      → AreValues (session (core_of clock slot rq held l)) (drafted l d.moments.items) channels
  values-refused q channels h =
      let s : Session = session (core_of clock slot rq held l) in
      let none : done_at s next.0 ≡ None = done-first ∙ ap (λ b. if b then Some (did next.0 t.number t.instruction) else None) q in
      kept (λ ms. AreValues s ms channels)
      (λ m earlier a p. values-still s m earlier channels
      (is-valueless s m (subst IsNoFiling (sym a) tt) (subst (λ (o : Option Done). IfSome o (λ y. SetsNone y.instruction)) (sym (ap (done_by s m.tag) a)) tt)) p)
      (values-still s next.0 l.moments channels (is-valueless s next.0 unfiled (subst (λ (o : Option Done). IfSome o (λ y. SetsNone y.instruction)) (sym none) tt)) h)

  pub statistics-refused : is_done e ≡ false → (x : StatisticsHeld) → IsSettled (session (core_of clock slot rq held l)) l.moments
      → AreStatistics (session (core_of clock slot rq held l)) l.moments x
      → AreStatistics (session (core_of clock slot rq held l)) (drafted l d.moments.items) x × IsSettled (session (core_of clock slot rq held l)) (drafted l d.moments.items)
  statistics-refused q x settled h =
      let s : Session = session (core_of clock slot rq held l) in
      let none : done_at s next.0 ≡ None = done-first ∙ ap (λ b. if b then Some (did next.0 t.number t.instruction) else None) q in
      kept (λ ms. AreStatistics s ms x × IsSettled s ms)
      (λ m earlier a p. (statistics-still s m earlier x (ap (done_by s m.tag) a) (subst IsNoFiling (sym a) tt) p.1 p.0, settled-still s m earlier (ap (done_by s m.tag) a)))
      (statistics-still s next.0 l.moments x none unfiled settled h, settled-still s next.0 l.moments none)

  -- values that are set
  pub values-done : is_done e ≡ true → (channels : List (ℕ × Channel))
      → ((m : Moment) → done_at (session (core_of clock slot rq held l)) m ≡ Some (did m t.number t.instruction) → IsNoFiling m.act → AreValues (session (core_of clock slot rq held l)) (m ∷ l.moments) channels)
      → AreValues (session (core_of clock slot rq held l)) (drafted l d.moments.items) channels
  values-done q channels f =
      let s : Session = session (core_of clock slot rq held l) in
      kept (λ ms. AreValues s ms channels)
      (λ m earlier a p. values-still s m earlier channels
      (is-valueless s m (subst IsNoFiling (sym a) tt) (subst (λ (o : Option Done). IfSome o (λ y. SetsNone y.instruction)) (sym (ap (done_by s m.tag) a)) tt)) p)
      (f next.0 (done-first ∙ ap (λ b. if b then Some (did next.0 t.number t.instruction) else None) q) unfiled)

  -- some request waits
  pub first-waits : (ws : List Running) → AreWaiting (session (core_of clock slot rq held l)) l.moments ws → (w : Running) × (rest : List Running) × (ws ≡ w ∷ rest)
  first-waits [] h = absurd (none-some t.number (sym (worked-none (core_of clock slot rq held l) h) ∙ t.first))
  first-waits (w ∷ rest) h = (w, rest, refl)

  module _ (w : Running) (ws : List Running) (waits : AreWaiting (session (core_of clock slot rq held l)) l.moments (w ∷ ws)) where
    number-is : t.number ≡ w.number
    number-is = same_Some t.number w.number (sym t.first ∙ worked-first (core_of clock slot rq held l) w ws waits)

    stage-is : (w.started ≡ true) × (w.executed ≡ t.executed)
    stage-is =
        stage-one w.number w.executed t.executed w.started (last_act w.number l.moments) waits.each.0.stage
        (subst (λ k. IsStage k true t.executed (last_act k l.moments)) number-is t.stage)

    -- not all of its instructions were executed
    pub left-is : w.executed < length (instructions w.request)
    left-is =
        let low = instruction-within (session (core_of clock slot rq held l)) t.number t.executed t.instruction t.there in
        let count : length (instructions_at (session (core_of clock slot rq held l)) t.number) ≡ length (instructions w.request) =
        ap (λ k. length (instructions_at (session (core_of clock slot rq held l)) k)) number-is ∙ ap (λ o. length (option_map_or instructions o [])) waits.each.0.request in
        let same = stage-is.1 in
        omega (arith, low, count, same)

    waits-after : (v : Running) → IsWith w (w.executed + 1) (refused_with (is_done e) w.refused (w.executed + 1)) v
        → AreWaiting (session (core_of clock slot rq held l)) (drafted l d.moments.items) (v ∷ ws)
    waits-after v with =
        let s : Session = session (core_of clock slot rq held l) in
        kept (λ ms. AreWaiting s ms (v ∷ ws)) (λ m earlier a p. told-waiting s m earlier (v ∷ ws) a p)
        (waiting-executed s l.moments next.0 w v ws (is_done e)
        (next.1.follows.0 ∙ ap₂ (λ k i. Executed k (i + 1) (is_done e)) number-is (sym stage-is.1)) stage-is.0 left-is with waits)

    module _ (held2 : List (Key × Held)) (v : Running) (with : IsWith w (w.executed + 1) (refused_with (is_done e) w.refused (w.executed + 1)) v)
        (shots : (key : Key) → lookup (key_eq key) (one_shots_of held2)
        ≡ one_shot_by (core_of clock slot rq held l) key (done_now (core_of clock slot rq held l) t.number t.executed t.instruction e t.first t.stage t.there t.is_effect (is_done e) (next_tag clock l.moments))) where
      step : IsStep (core_of clock slot rq held l) Work (core_of clock slot (record { packets = rq.packets; waiting = v ∷ ws }) held2 (with_moments l (drafted l d.moments.items)))
      step =
          record {
            tailoring = refl;
            clock = refl;
            requests = refl;
            slot_now = refl;
            one_shots = λ key. shots key ∙ sym (ap (one_shot_by (core_of clock slot rq held l) key)
                (done-are (core_of clock slot rq held l) t.number t.executed t.instruction e t.first t.stage t.there t.is_effect));
            moments = t.plan.moments;
          }

      -- an instruction that is carried out
      pub carried : (count : ℕ) → count ≡ length d.moments.items
          → Answers (core_of clock slot rq held l) Work (core_of clock slot (record { packets = rq.packets; waiting = v ∷ ws }) held2 (with_moments l (drafted l d.moments.items))) (Ok count)
      carried count is = (t.plan.room, t.plan.time, is ∙ t.plan.count, step)

      -- and what is held then
      pub whole-after : (channels : List (ℕ × Channel)) (members : StatisticsHeld) → IsFit l.tailoring → RequestsOnly l.tailoring → Stands (core_of clock slot rq held l)
          → AreStructures l.tailoring (cons_option (if is_done e then Some did_now else None) (done_instructions (session (core_of clock slot rq held l)) l.moments)) held2
          → AreValues (session (core_of clock slot rq held l)) (drafted l d.moments.items) channels
          → AreStatistics (session (core_of clock slot rq held l)) (drafted l d.moments.items) members × IsSettled (session (core_of clock slot rq held l)) (drafted l d.moments.items)
          → IsWhole (core_of clock slot (record { packets = rq.packets; waiting = v ∷ ws }) held2 (with_moments l (drafted l d.moments.items))) (v ∷ ws) held2 channels members
      whole-after channels members fit only stands structures values statistics =
          let after : Core = core_of clock slot (record { packets = rq.packets; waiting = v ∷ ws }) held2 (with_moments l (drafted l d.moments.items)) in
          let stood = step-stands (core_of clock slot rq held l) Work after fit only stands (record { comes = tt; room = t.plan.room; time = t.plan.time; step = step }) in
          record {
            board = record { stands = stood; waits = waits-after v with; room = stood.room };
            structures = subst (λ ds. AreStructures l.tailoring ds held2) (sym dones-after) structures;
            values = values;
            statistics = statistics.0;
            settled = statistics.1;
          }

  -- not all instructions of the first request that waits were executed
  pub left-first : (ws : List Running) → AreWaiting (session (core_of clock slot rq held l)) l.moments ws → IfSome (slice_get ws 0) (λ w. w.executed < length (instructions w.request))
  left-first [] h = tt
  left-first (w ∷ ws) h = left-is w ws h

  -- there is room for the moments
  pub room-is : length l.moments + length d.moments.items ≤ 1048576
  room-is = let none = t.plan.room in let same = t.plan.count in grind (arith, nat_tests)

  -- what is answered, and what is held then
  pub finished : (channels : List (ℕ × Channel)) (members : StatisticsHeld) → IsFit l.tailoring → RequestsOnly l.tailoring → IsWhole (core_of clock slot rq held l) rq.waiting held channels members
      → (rq2 : RequestsHeld) (held2 : List (Key × Held)) (channels2 : List (ℕ × Channel)) (members2 : StatisticsHeld) (l2 : LogParts) (count : ℕ)
      → rq2.packets ≡ rq.packets → IsCountedFirst (is_done e) rq.waiting rq2.waiting → l2 ≡ with_moments l (drafted l d.moments.items) → count ≡ length d.moments.items
      → ((key : Key) → lookup (key_eq key) (one_shots_of held2) ≡ one_shot_by (core_of clock slot rq held l) key (if is_done e then did_now ∷ [] else []))
      → AreStructures l.tailoring (cons_option (if is_done e then Some did_now else None) (done_instructions (session (core_of clock slot rq held l)) l.moments)) held2
      → AreValues (session (core_of clock slot rq held l)) (drafted l d.moments.items) channels2
      → AreStatistics (session (core_of clock slot rq held l)) (drafted l d.moments.items) members2 × IsSettled (session (core_of clock slot rq held l)) (drafted l d.moments.items)
      → Answers (core_of clock slot rq held l) Work (core_of clock slot rq2 held2 l2) (Ok count) × IsWhole (core_of clock slot rq2 held2 l2) rq2.waiting held2 channels2 members2
  finished channels members fit only b rq2 held2 channels2 members2 l2 count packets first is number shots structures values statistics = go rq.waiting b.board.waits first
    where
      go : (ws : List Running) → AreWaiting (session (core_of clock slot rq held l)) l.moments ws → IsCountedFirst (is_done e) ws rq2.waiting
          → Answers (core_of clock slot rq held l) Work (core_of clock slot rq2 held2 l2) (Ok count) × IsWhole (core_of clock slot rq2 held2 l2) rq2.waiting held2 channels2 members2
      go [] waits h = absurd (none-some t.number (sym (worked-none (core_of clock slot rq held l) waits) ∙ t.first))
      go (w ∷ ws) waits h =
          let rq3 : RequestsHeld = record { packets = rq.packets; waiting = h.0 ∷ ws } in
          let l3 : LogParts = with_moments l (drafted l d.moments.items) in
          let same : rq2 ≡ rq3 = ap₂ (λ p (x : List Running). record { packets = p; waiting = x }) packets h.1 in
          let answers = carried w ws waits held2 h.0 h.2 shots count number in
          let whole = whole-after w ws waits held2 h.0 h.2 shots channels2 members2 fit only b.board.stands structures values statistics in
          subst (λ (r : RequestsHeld). Answers (core_of clock slot rq held l) Work (core_of clock slot r held2 l2) (Ok count) × IsWhole (core_of clock slot r held2 l2) r.waiting held2 channels2 members2) (sym same)
          (subst (λ (x : LogParts). Answers (core_of clock slot rq held l) Work (core_of clock slot rq3 held2 x) (Ok count) × IsWhole (core_of clock slot rq3 held2 x) (h.0 ∷ ws) held2 channels2 members2) (sym is)
          (answers, whole))

-- the one-shots stay where the instruction that is done is of no structure
pub shots-other : (c : Core) (x : Done) (key : Key) → IsOther x.instruction → pending c key ≡ one_shot_by c key (x ∷ [])
shots-other c x key other = go x.instruction other
  where
    go : (y : Instruction) → IsOther y → pending c key ≡ one_shot_by_instruction c.tailoring x.tag key (pending c key) y
    go (on_structure named change) h = absurd h
    go (on_statistics change) h = refl
    go (report_values ids) h = refl
    go (set_values settings) h = refl

-- where one structure is changed, its one-shot is the one that the change leaves
pub shots-changed : (c : Core) (held held2 : List (Key × Held)) (x : Done) (key : Key) (made : StructureChange) (to : Option Held) → c.one_shots ≡ one_shots_of held
    → x.instruction ≡ on_structure key made → ChangesAt key to held held2 → AreRisingKeys held → AreRisingKeys held2
    → option_and_then (λ h. h.one_shot) to ≡ one_shot_changed c.tailoring x.tag made (option_and_then (λ h. h.one_shot) (held_at held key))
    → (other : Key) → lookup (key_eq other) (one_shots_of held2) ≡ one_shot_by c other (x ∷ [])
shots-changed c held held2 x key made to shots is changes old new left other =
    pending-is held2 new other ∙ ap (option_and_then (λ h. h.one_shot)) (changes other) ∙ go (key_eq key other) refl
    ∙ sym (ap (one_shot_by_instruction c.tailoring x.tag other (pending c other)) is)
  where
    before : (k : Key) → pending c k ≡ option_and_then (λ h. h.one_shot) (held_at held k)
    before k = ap (lookup (key_eq k)) shots ∙ pending-is held old k

    go : (b : Bool) → key_eq key other ≡ b
        → option_and_then (λ h. h.one_shot) (if key_eq key other then to else held_at held other)
        ≡ (if key_eq key other then one_shot_changed c.tailoring x.tag made (pending c other) else pending c other)
    go true q =
        let same : key ≡ other = keys-one key other q in
        ap (λ b. option_and_then (λ h. h.one_shot) (if b then to else held_at held other)) q ∙ left
        ∙ ap (one_shot_changed c.tailoring x.tag made) (ap (λ k. option_and_then (λ h. h.one_shot) (held_at held k)) same ∙ sym (before other))
        ∙ sym (ap (λ b. if b then one_shot_changed c.tailoring x.tag made (pending c other) else pending c other) q)
    go false q =
        ap (λ b. option_and_then (λ h. h.one_shot) (if b then to else held_at held other)) q ∙ sym (before other)
        ∙ sym (ap (λ b. if b then one_shot_changed c.tailoring x.tag made (pending c other) else pending c other) q)
