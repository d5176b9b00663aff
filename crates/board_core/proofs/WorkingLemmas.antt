-- How the work on the first request goes on.
use Rattle.std.proofs.Common.{arith, ◌≡◌, ℕ, zero, suc, ◌+◌, ◌<◌, ◌≤◌, refl, sym, ◌∙◌, ap, subst, List, [], ◌∷◌, ◌++◌, length, map, true, false, ◌==◌, ◌&&◌, ◌||◌, Option, Some, Ok}
use Rattle.std.specs.Prelude.{nat_lt}
use Rattle.std.specs.List.{AllByRecursion}
use Rattle.std.specs.Option.{option_map_or}
use Rattle.std.proofs.lemmas.Bool.Decides.{Decides-eqb, nat_tests}
use Rattle.hk_base.specs.Fit.{greatest_tag}
use Rattle.pus_messages.specs.Instructions.{instructions}
use Rattle.hk_world.specs.Timelines.{instructions_at, last_act}
use Rattle.hk_world.specs.declared.moment.Act.{Act}
use Rattle.hk_world.specs.declared.moment.Act.TheVariants.{Executed}
use Rattle.board_steps.specs.Cores.{Core, session, next_tag}
use Rattle.board_steps.specs.Plans.{Plan, does, tells, worked_done, done_of, topics_of, planned, one_shot_by}
use Rattle.board_steps.specs.Steps.{AreNext, Answers}
use Rattle.board_steps.specs.Steps as steps
use Rattle.board_steps.specs.Timeline.{Stands}
use Rattle.board_steps.specs.SlotRuns.{waiting}
use Rattle.board_steps.proofs.CountedLemmas.{AreRising, waits, waiting-counted}
use Rattle.board_state.specs.Waiting.{IsStage, IsRunning, AreInOrder, AreWaiting}
use Rattle.board_core.specs.Worked.{IsToComplete, IsToExecute}
use Rattle.board_steps.specs.declared.event.Event.TheVariants.{Work}
use Rattle.board_state.specs.declared.running.Running.{Running}
use Rattle.board_steps.proofs.GrammarLemmas.{RequestsOnly}
use Rattle.board_steps.proofs.RunLemmas.{acts_of}
use Rattle.board_steps.proofs.ValueLemmas.{request-grammatical}
use Rattle.board_core.proofs.WorkedLemmas.{worked-first, worked-none, stage-pending}

-- what is planned where a request, if there is one, is worked on
abbrev pub work_plans : Core → Option ℕ → List Plan
work_plans c o = map does (acts_of c o) ++ map tells (topics_of (done_of (session c) (next_tag c.clock c.moments) (acts_of c o)))

-- nothing waits, and nothing is done
pub none-waits : (c : Core) → AreWaiting (session c) c.moments [] → length c.moments ≤ 1048576 → Answers c Work c (Ok 0)
none-waits c h room =
    let none = worked-none c h in
    let plans : planned c Work ≡ [] = ap (work_plans c) none in
    let full : steps.is_full c Work ≡ false = ap (λ (xs : List Plan). nat_lt 1048576 (length c.moments + length xs)) plans ∙ not-full (length c.moments) room in
    let late : steps.is_late c Work ≡ false =
    ap (λ (xs : List Plan). (nat_lt 0 (length xs) && nat_lt (greatest_tag c.tailoring + 1) (next_tag c.clock c.moments + length xs)) || (false && nat_lt (greatest_tag c.tailoring) c.clock)) plans in
    let done : worked_done c ≡ [] = ap (λ o. done_of (session c) (next_tag c.clock c.moments) (acts_of c o)) none in (
      full,
      late,
      sym (ap length plans),
      record {
        tailoring = refl;
        clock = refl;
        requests = refl;
        slot_now = refl;
        one_shots = λ key. sym (ap (one_shot_by c key) done);
        moments = subst (λ xs. AreNext (session c) c.clock c.slot_now c.moments xs c.moments) (sym plans) refl;
      },
    )
  where
    not-full : (n : ℕ) → n ≤ 1048576 → nat_lt 1048576 (n + 0) ≡ false
    not-full n le = grind (arith, nat_tests)

module _ (c : Core) (w : Running) (ws : List Running) (only : RequestsOnly c.tailoring) (stands : Stands c) (h : AreWaiting (session c) c.moments (w ∷ ws)) where
  -- the instructions of the first request
  count-is : length (instructions_at (session c) w.number) ≡ length (instructions w.request)
  count-is = ap (λ o. length (option_map_or instructions o [])) h.each.0.request

  some : 1 ≤ length (instructions w.request)
  some = (request-grammatical c only stands.octets w.number w.request h.each.0.request).some

  -- each of its instructions was executed
  pub to-complete : w.started ≡ true → (w.executed == length (instructions w.request)) ≡ true → IsToComplete c
  to-complete begun all = go w.executed (last_act w.number c.moments) refl (subst (λ b. IsStage w.number b w.executed (last_act w.number c.moments)) begun h.each.0.stage) ((Decides-eqb w.executed (length (instructions w.request))).0 all)
    where
      go : (n : ℕ) (o : Option Act) → last_act w.number c.moments ≡ o → IsStage w.number true n o → n ≡ length (instructions w.request) → IsToComplete c
      go zero o q stage e = absurd (omega (arith, e, some))
      go (suc n) o q stage e =
          record {
            number = w.number;
            first = worked-first c w ws h;
            flag = stage.0;
            executed = q ∙ stage.1 ∙ ap (λ i. Some (Executed w.number i stage.0)) (e ∙ sym count-is);
          }

  -- instructions are left
  pub to-execute : w.started ≡ true → (w.executed == length (instructions w.request)) ≡ false → IsToExecute c
  to-execute begun all =
      record {
        number = w.number;
        executed = w.executed;
        first = worked-first c w ws h;
        stage = subst (λ b. IsStage w.number b w.executed (last_act w.number c.moments)) begun h.each.0.stage;
        left = subst (λ n. w.executed < n) (sym count-is) (less w.executed (length (instructions w.request)) h.each.0.within all);
      }
    where
      less : (n k : ℕ) → n ≤ k → (n == k) ≡ false → n < k
      less n k le e = grind (arith, nat_tests)

-- as many requests wait as are held
pub waiting-is : (c : Core) (ws : List Running) → AreWaiting (session c) c.moments ws → waiting c ≡ length ws
waiting-is c ws h = waiting-counted (λ w. w.number) c ws (rising ws h.order) (passing ws h.each) h.all
  where
    rising : (xs : List Running) → AreInOrder xs → AreRising (λ (w : Running). w.number) (waits c) xs
    rising [] k = tt
    rising (x ∷ xs) k = (k.0, rising xs k.1)

    passing : (xs : List Running) → AllByRecursion (IsRunning (session c) c.moments) xs → AllByRecursion (λ (x : Running). (x.number < length c.requests) × (waits c x.number ≡ true)) xs
    passing [] k = tt
    passing (x ∷ xs) k = ((k.0.known, stage-pending x.number x.started x.executed (last_act x.number c.moments) k.0.stage), passing xs k.1)
