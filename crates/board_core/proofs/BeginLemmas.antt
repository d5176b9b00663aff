-- How the first request that waits begins.
use Rattle.std.proofs.Common.{arith, ◌≡◌, ℕ, ◌<◌, refl, sym, ◌∙◌, ap, subst, List, [], ◌∷◌, length, true, false, nat_lt, Option, Some, None}
use Rattle.std.specs.Prelude.{is_some, is_none, slice_get}
use Rattle.std.specs.Option.{option_map_or}
use Rattle.std.proofs.lemmas.Bool.Decides.{nat_tests}
use Rattle.std.proofs.lemmas.Option.{none-some, same_Some}
use Rattle.pus_messages.specs.Instructions.{Instruction, instructions}
use Rattle.report_structures.specs.declared.refusal.Refusal.{Refusal}
use Rattle.hk_world.specs.States.{refusal}
use Rattle.hk_world.specs.Timelines.{instructions_at, last_act}
use Rattle.hk_world.specs.declared.moment.Act.TheVariants.{Accepted}
use Rattle.hk_world.proofs.OrderLemmas.{true_is_not_false}
use Rattle.board_steps.specs.Cores.{Core, session, state_of}
use Rattle.board_steps.specs.Plans.{is_barred}
use Rattle.board_state.specs.Waiting.{IsStage}
use Rattle.board_state.specs.declared.running.Running.{Running}
use Rattle.board_core.specs.Effects.{IsEffectOf, is_done, refusal_of}
use Rattle.board_core.specs.Worked.{IsToStart, IsToBegin, IsUnbegun}
use Rattle.board_core.specs.declared.effect.Effect.{Effect}
use Rattle.board_core.specs.declared.effect.Effect.TheVariants.{Refused, Create, Delete, Replace, OrderOneShot, ShowStructure, ShowProperties, ChangeStatistics, ReportValues, SetValues}
use Rattle.board_core.proofs.ExecutedLemmas.{done-is}
use Rattle.board_core.proofs.WorkedLemmas.{worked-first}

module _ (c : Core) (w : Running) (h : IsUnbegun c w) where
  accepted : last_act w.number c.moments ≡ Some (Accepted w.number)
  accepted = (subst (λ b. IsStage w.number b w.executed (last_act w.number c.moments)) h.unbegun h.waits.each.0.stage).1

  own : instructions_at (session c) w.number ≡ instructions w.request
  own = ap (λ o. option_map_or instructions o []) h.waits.each.0.request

  starts : is_barred (session c) c.moments (instructions w.request) ≡ false → IsToStart c
  starts stands =
      record {
        number = w.number;
        first = worked-first c w h.others h.waits;
        accepted = accepted;
        stands = ap (is_barred (session c) c.moments) own ∙ stands;
      }

  -- a request with several instructions is started
  pub several-begins : nat_lt 1 (length (instructions w.request)) ≡ true → IsToStart c
  several-begins several = starts (go (instructions w.request) several)
    where
      go : (xs : List Instruction) → nat_lt 1 (length xs) ≡ true → is_barred (session c) c.moments xs ≡ false
      go [] e = refl
      go (x ∷ []) e = absurd (true_is_not_false (sym e))
      go (x ∷ y ∷ xs) e = refl

  alone : (xs : List Instruction) (x : Instruction) → nat_lt 1 (length xs) ≡ false → slice_get xs 0 ≡ Some x → xs ≡ x ∷ []
  alone [] x few e = absurd (none-some x e)
  alone (y ∷ []) x few e = ap (λ z. z ∷ []) (same_Some y x e)
  alone (y ∷ z ∷ xs) x few e = absurd (let lt : 1 < length (y ∷ z ∷ xs) = omega arith in true_is_not_false (sym (more (length (y ∷ z ∷ xs)) lt) ∙ few))
    where
      more : (n : ℕ) → 1 < n → nat_lt 1 n ≡ true
      more n lt = grind (arith, nat_tests)

  -- one with one instruction is started, unless that is refused
  pub one-begins : nat_lt 1 (length (instructions w.request)) ≡ false → (x : Instruction) → slice_get (instructions w.request) 0 ≡ Some x → (e : Effect) → IsEffectOf c x e
      → IsToBegin c (refusal_of e)
  one-begins few x there e is = go e is
    where
      only : instructions w.request ≡ x ∷ []
      only = alone (instructions w.request) x few there

      begins : (f : Effect) → IsEffectOf c x f → is_done f ≡ true → IsToStart c
      begins f k done = starts (ap (is_barred (session c) c.moments) only ∙ by (refusal c.tailoring (state_of c) x) (done-is c x f k ∙ done))
        where
          by : (o : Option Refusal) → is_none o ≡ true → is_some o ≡ false
          by None q = refl
          by (Some r) q = absurd (true_is_not_false (sym q))

      go : (f : Effect) → IsEffectOf c x f → IsToBegin c (refusal_of f)
      go (Refused r) k =
          record {
            number = w.number;
            first = worked-first c w h.others h.waits;
            accepted = accepted;
            instruction = x;
            alone = own ∙ only;
            refused = k.0;
            small = k.1;
          }
      go (Create key after) k = begins (Create key after) k refl
      go (Delete key) k = begins (Delete key) k refl
      go (Replace key after b) k = begins (Replace key after b) k refl
      go (OrderOneShot key) k = begins (OrderOneShot key) k refl
      go (ShowStructure key after) k = begins (ShowStructure key after) k refl
      go (ShowProperties key after) k = begins (ShowProperties key after) k refl
      go (ChangeStatistics made) k = begins (ChangeStatistics made) k refl
      go (ReportValues ids) k = begins (ReportValues ids) k refl
      go (SetValues settings) k = begins (SetValues settings) k refl
