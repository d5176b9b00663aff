-- The next instruction of the request that is worked on: it is there, it is of the grammar, and it is to be executed.
use Rattle.std.proofs.Common.{arith, ◌≡◌, ℕ, zero, suc, ◌+◌, ◌-◌, ◌<◌, ◌≤◌, refl, sym, ◌∙◌, ap, subst, List, [], ◌∷◌, length, true, Some}
use Rattle.std.specs.Prelude.{slice_get, option_and_then}
use Rattle.std.specs.Option.{option_map_or}
use Rattle.std.proofs.lemmas.Option.{none-some, same_Some}
use Rattle.pus_messages.specs.Instructions.{Instruction, instructions}
use Rattle.hk_world.specs.Timelines.{instructions_at, last_act}
use Rattle.board_steps.specs.Cores.{Core, session}
use Rattle.board_steps.specs.Timeline.{Stands}
use Rattle.board_steps.specs.declared.event.Event.TheVariants.{Work}
use Rattle.board_steps.proofs.GrammarLemmas.{RequestsOnly}
use Rattle.board_steps.proofs.ValueLemmas.{request-grammatical}
use Rattle.board_state.specs.Waiting.{IsRunning, IsStage, AreWaiting}
use Rattle.board_state.specs.declared.running.Running.{Running}
use Rattle.board_core.specs.Effects.{IsEffectOf, IsExecuting, IsOfGrammar, IsToCarry}
use Rattle.board_core.specs.Planned.{IsPlanned}
use Rattle.board_core.specs.Worked.{IsToExecute}
use Rattle.board_core.specs.declared.effect.Effect.{Effect}
use Rattle.board_core.specs.declared.log.Draft.{Draft}
use Rattle.board_core.proofs.CarriedLemmas.{stage-one}
use Rattle.board_core.proofs.GivenLemmas.{given-of}
use Rattle.board_core.proofs.WorkedLemmas.{worked-first, worked-none}

-- a place within a list has a member
pub member-there : {X : Type 0} (xs : List X) (i : ℕ) → i < length xs → (x : X) × (slice_get xs i ≡ Some x)
member-there [] i lt = absurd (omega (arith, lt))
member-there (x ∷ xs) zero lt = (x, refl)
member-there (x ∷ xs) (suc i) lt = member-there xs i (omega (arith, lt))

-- an instruction of a request that waits is of the grammar
pub running-given : (c : Core) (w : Running) (only : RequestsOnly c.tailoring) (stands : Stands c) (h : IsRunning (session c) c.moments w) (i : ℕ) (x : Instruction)
    → slice_get (instructions w.request) i ≡ Some x → IsOfGrammar c.tailoring x
running-given c w only stands h i x e = given-of c only stands.octets w.number w.request h.request i x e

-- a request that waits has an instruction
pub running-some : (c : Core) (w : Running) (only : RequestsOnly c.tailoring) (stands : Stands c) (h : IsRunning (session c) c.moments w) → 1 ≤ length (instructions w.request)
running-some c w only stands h = (request-grammatical c only stands.octets w.number w.request h.request).some

-- where one is to be executed, one waits
pub execution-waits : (c : Core) (ws : List Running) → AreWaiting (session c) c.moments ws → IsToExecute c → ws ≡ [] → ⊥
execution-waits c ws h t e =
    let none : AreWaiting (session c) c.moments [] = subst (AreWaiting (session c) c.moments) e h in
    none-some t.number (sym (worked-none c none) ∙ t.first)

module _ (c : Core) (w : Running) (ws : List Running) (h : AreWaiting (session c) c.moments (w ∷ ws)) (t : IsToExecute c) where
  number-is : t.number ≡ w.number
  number-is = same_Some t.number w.number (sym t.first ∙ worked-first c w ws h)

  stage-is : (w.started ≡ true) × (w.executed ≡ t.executed)
  stage-is =
      stage-one w.number w.executed t.executed w.started (last_act w.number c.moments) h.each.0.stage
      (subst (λ k. IsStage k true t.executed (last_act k c.moments)) number-is t.stage)

  -- the request has started
  pub is-begun : w.started ≡ true
  is-begun = stage-is.0

  -- and instructions are left of it
  pub is-left : w.executed < length (instructions w.request)
  is-left =
      let low = t.left in
      let count : length (instructions_at (session c) t.number) ≡ length (instructions w.request) =
      ap (λ k. length (instructions_at (session c) k)) number-is ∙ ap (λ o. length (option_map_or instructions o [])) h.each.0.request in
      let same = stage-is.1 in
      omega (arith, low, count, same)

  -- the next one
  pub next-there : (x : Instruction) × (slice_get (instructions w.request) w.executed ≡ Some x)
  next-there = member-there (instructions w.request) w.executed is-left

  -- the number behind that of the instructions that were executed is its number
  pub after-next : slice_get (instructions w.request) (w.executed + 1 - 1) ≡ Some next-there.0
  after-next = let same : w.executed + 1 - 1 ≡ w.executed = omega arith in ap (λ i. slice_get (instructions w.request) i) same ∙ next-there.1

  -- it is executed
  pub is-executing : (e : Effect) → IsEffectOf c next-there.0 e → IsExecuting c w e
  is-executing e is =
      record {
        others = ws;
        waits = h;
        begun = is-begun;
        left = is-left;
        instruction = next-there.0;
        there = next-there.1;
        is_effect = is;
      }

-- and it is carried out once its moments are drafted
pub to-carry : (c : Core) (w : Running) (e : Effect) (d : Draft) → IsExecuting c w e → IsPlanned c Work d → IsToCarry c e d
to-carry c w e d h plan =
    record {
      number = w.number;
      executed = w.executed;
      first = worked-first c w h.others h.waits;
      stage = subst (λ b. IsStage w.number b w.executed (last_act w.number c.moments)) h.begun h.waits.each.0.stage;
      instruction = h.instruction;
      there = let same : w.executed + 1 - 1 ≡ w.executed = omega arith in
          ap (λ o. option_and_then (λ r. slice_get (instructions r) (w.executed + 1 - 1)) o) h.waits.each.0.request ∙ ap (λ i. slice_get (instructions w.request) i) same ∙ h.there;
      is_effect = h.is_effect;
      plan = plan;
    }
