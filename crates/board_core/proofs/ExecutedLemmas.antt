-- The next instruction of the request that is worked on: what is planned where its effect is known, and what its moments leave of the requests that wait.
use Rattle.std.proofs.Common.{arith, add-one, ◌≡◌, ℕ, zero, suc, ◌+◌, ◌-◌, ◌<◌, ◌≤◌, refl, sym, ◌∙◌, ap, ap₂, subst, List, [], ◌∷◌, ◌++◌, append-nil, length, map, reverse, Bool, true, false, ◌==◌, ◌||◌, Option, Some, None}
use Rattle.std.specs.Prelude.{IsTrue, filter_map, is_none, slice_get, option_map, option_and_then, if◌then◌else◌}
use Rattle.std.specs.List.{AllByRecursion, list_any, cons_option}
use Rattle.std.specs.Option.{option_map_or}
use Rattle.std.specs.Result.{result_err}
use Rattle.std.proofs.lemmas.List.{reverse-append}
use Rattle.std.proofs.lemmas.Bool.{eq-eqb, ne_eqb}
use Rattle.std.proofs.lemmas.Bool.Decides.{nat_tests}
use Rattle.std.proofs.lemmas.Option.{none-some}
use Rattle.hk_base.specs.declared.types.Key.{Key}
use Rattle.hk_base.specs.declared.types.Structure.{Structure}
use Rattle.st03_grammar.specs.Instructions.{StructureChange, create, append, set_interval, plain}
use Rattle.st03_grammar.specs.declared.bodies.Each.TheVariants as each
use Rattle.pus_messages.specs.Instructions.{Instruction, instructions}
use Rattle.hk_world.specs.States.{refusal}
use Rattle.hk_world.specs.Timelines.{Session, Done, request_at, instructions_at, instruction_at, request_number, is_act_of, last_act, done_by, done_instructions}
use Rattle.hk_world.specs.Legal.{is_pending, refused_number, refused_numbers}
use Rattle.hk_world.specs.Honest.{request_id}
use Rattle.hk_world.specs.declared.moment.Moment.{Moment}
use Rattle.hk_world.specs.declared.moment.Act.{Act}
use Rattle.hk_world.specs.declared.moment.Act.TheVariants.{Executed, Completed, Emitted}
use Rattle.hk_world.proofs.OrderLemmas.{true_is_not_false, last_act-other}
use Rattle.hk_world.proofs.RequestLemmas.{is_act_of-other, last_act-own}
use Rattle.board_steps.specs.Cores.{Core, session, state_of, next_tag}
use Rattle.board_steps.specs.Plans.{Topic, Plan, does, tells, ordered_topics, worked_request, worked_acts, worked_done, done_of, topics_of, next_acts, execution, planned}
use Rattle.board_steps.specs.Plans as plans
use Rattle.board_steps.specs.Steps.{AreNext}
use Rattle.board_steps.specs.declared.event.Event.TheVariants.{Work}
use Rattle.board_steps.proofs.RunLemmas.{acts_of}
use Rattle.board_state.specs.OneByOne.{statistics_change_of}
use Rattle.board_state.specs.Waiting.{IsRunning, IsStage, AreWithin, AreWaiting, IsWith}
use Rattle.board_state.specs.declared.running.Running.{Running}
use Rattle.board_state.specs.declared.instruction.StatisticsChange.{StatisticsChange}
use Rattle.board_state.specs.declared.instruction.StatisticsChange.TheVariants as change
use Rattle.board_core.specs.Effects.{Leaves, IsCreation, IsReplacement, IsEffectOf, is_done, effect_topics, statistics_topics}
use Rattle.board_core.specs.declared.effect.Effect.{Effect}
use Rattle.board_core.specs.declared.effect.Effect.TheVariants.{Refused, Create, Delete, Replace, OrderOneShot, ShowStructure, ShowProperties, ChangeStatistics, ReportValues, SetValues}

-- an instruction that leaves something isn't refused
pub leaves-none : (c : Core) (x : Instruction) (key : Key) (made : StructureChange) (after : Option Structure) → Leaves c x key made after → refusal c.tailoring (state_of c) x ≡ None
leaves-none c x key made after h = ap (refusal c.tailoring (state_of c)) h.is ∙ ap result_err h.leaves

-- an instruction is done exactly where its effect says so
pub done-is : (c : Core) (x : Instruction) (e : Effect) → IsEffectOf c x e → is_none (refusal c.tailoring (state_of c) x) ≡ is_done e
done-is c x (Refused r) h = ap is_none h.0
done-is c x (Create key after) h = ap is_none (leaves-none c x key h.0 (Some after) h.1)
done-is c x (Delete key) h = ap is_none (leaves-none c x key h.0 None h.1)
done-is c x (Replace key after begins) h = ap is_none (leaves-none c x key h.0 (Some after) h.1)
done-is c x (OrderOneShot key) h = ap is_none (leaves-none c x key (plain each.OneShot) (Some h.0) h.1)
done-is c x (ShowStructure key after) h = ap is_none (leaves-none c x key (plain each.Show) (Some after) h)
done-is c x (ShowProperties key after) h = ap is_none (leaves-none c x key (plain each.ShowPeriodic) (Some after) h)
done-is c x (ChangeStatistics made) h = ap is_none h.1
done-is c x (ReportValues ids) h = ap is_none h.1
done-is c x (SetValues settings) h = ap (λ y. is_none (refusal c.tailoring (state_of c) y)) h.0

creation-topics : (key : Key) (made : StructureChange) → IsCreation made → plans.structure_topics key made ≡ []
creation-topics key (create d) h = refl
creation-topics key (append a) h = absurd h
creation-topics key (set_interval n) h = absurd h
creation-topics key (plain e) h = absurd h

replacement-topics : (key : Key) (made : StructureChange) → IsReplacement made → plans.structure_topics key made ≡ []
replacement-topics key (create d) h = absurd h
replacement-topics key (append a) h = refl
replacement-topics key (set_interval n) h = refl
replacement-topics key (plain each.Enable) h = refl
replacement-topics key (plain each.Disable) h = refl
replacement-topics key (plain each.Delete) h = absurd h
replacement-topics key (plain each.Show) h = absurd h
replacement-topics key (plain each.OneShot) h = absurd h
replacement-topics key (plain each.ShowPeriodic) h = absurd h

change-topics : (made : StatisticsChange) → plans.statistics_topics (statistics_change_of made) ≡ statistics_topics made
change-topics (change.Report resets) = refl
change-topics change.Reset = refl
change-topics (change.Enable n) = refl
change-topics change.Disable = refl
change-topics (change.Add id) = refl
change-topics (change.Delete id) = refl
change-topics change.DeleteAll = refl
change-topics change.ShowDefinitions = refl

-- the reports that an instruction that is done orders are those of its effect
pub topics-are : (c : Core) (x : Instruction) (e : Effect) → IsEffectOf c x e → is_done e ≡ true → ordered_topics x ≡ effect_topics e
topics-are c x (Refused r) h d = absurd (true_is_not_false (sym d))
topics-are c x (Create key after) h d = ap ordered_topics h.1.is ∙ creation-topics key h.0 h.2
topics-are c x (Delete key) h d = ap ordered_topics h.1.is ∙ ap (plans.structure_topics key) h.2
topics-are c x (Replace key after begins) h d = ap ordered_topics h.1.is ∙ replacement-topics key h.0 h.2
topics-are c x (OrderOneShot key) h d = ap ordered_topics h.1.is
topics-are c x (ShowStructure key after) h d = ap ordered_topics h.is
topics-are c x (ShowProperties key after) h d = ap ordered_topics h.is
topics-are c x (ChangeStatistics made) h d = ap ordered_topics h.0 ∙ change-topics made
topics-are c x (ReportValues ids) h d = ap ordered_topics h.0
topics-are c x (SetValues settings) h d = ap ordered_topics h.0

-- a refused instruction orders no report
refused-topics : (e : Effect) → is_done e ≡ false → effect_topics e ≡ []
refused-topics (Refused r) d = refl
refused-topics (Create key after) d = absurd (true_is_not_false d)
refused-topics (Delete key) d = absurd (true_is_not_false d)
refused-topics (Replace key after begins) d = absurd (true_is_not_false d)
refused-topics (OrderOneShot key) d = absurd (true_is_not_false d)
refused-topics (ShowStructure key after) d = absurd (true_is_not_false d)
refused-topics (ShowProperties key after) d = absurd (true_is_not_false d)
refused-topics (ChangeStatistics made) d = absurd (true_is_not_false d)
refused-topics (ReportValues ids) d = absurd (true_is_not_false d)
refused-topics (SetValues settings) d = absurd (true_is_not_false d)

pub place-within : {X : Type 0} (xs : List X) (i : ℕ) (x : X) → slice_get xs i ≡ Some x → i < length xs
place-within [] i x e = absurd (none-some x e)
place-within (y ∷ ys) zero x e = omega arith
place-within (y ∷ ys) (suc i) x e = let le = place-within ys i x e in omega (arith, le)

-- an instruction that is there has a number up to theirs
pub instruction-within : (s : Session) (k n : ℕ) (x : Instruction) → instruction_at s k (n + 1) ≡ Some x → n < length (instructions_at s k)
instruction-within s k n x e = go (request_at s k) refl
  where
    go : (o : _) → request_at s k ≡ o → n < length (instructions_at s k)
    go None q = absurd (none-some x (sym (ap (λ o. option_and_then (λ r. slice_get (instructions r) (n + 1 - 1)) o) q) ∙ e))
    go (Some r) q =
        let there : slice_get (instructions r) (n + 1 - 1) ≡ Some x = sym (ap (λ o. option_and_then (λ r. slice_get (instructions r) (n + 1 - 1)) o) q) ∙ e in
        let low = place-within (instructions r) (n + 1 - 1) x there in
        let count : length (instructions_at s k) ≡ length (instructions r) = ap (λ o. length (option_map_or instructions o [])) q in
        omega (arith, low, count)

module _ (c : Core) (k n : ℕ) (x : Instruction) (e : Effect) (first : worked_request c ≡ Some k) (stage : IsStage k true n (last_act k c.moments))
    (there : instruction_at (session c) k (n + 1) ≡ Some x) (is : IsEffectOf c x e) where
  executed-is : (number : ℕ) → number ≡ n + 1 → execution (session c) c.moments k number ≡ Executed k (n + 1) (is_done e)
  executed-is number q =
      ap (execution (session c) c.moments k) q
      ∙ ap (λ o. Executed k (n + 1) (option_map_or (λ y. is_none (refusal c.tailoring (state_of c) y)) o false)) there
      ∙ ap (λ b. Executed k (n + 1) b) (done-is c x e is)

  next-is : (m : ℕ) (o : Option Act) → n ≡ m → IsStage k true m o → next_acts (session c) c.moments k o ≡ Executed k (n + 1) (is_done e) ∷ []
  next-is zero o q h = ap (next_acts (session c) c.moments k) h ∙ ap (λ a. a ∷ []) (executed-is 1 (omega (arith, q)))
  next-is (suc m) o q h =
      let within = instruction-within (session c) k n x there in
      let more : (suc m == length (instructions_at (session c) k)) ≡ false = less (suc m) (length (instructions_at (session c) k)) (omega (arith, q, within)) in
      ap (next_acts (session c) c.moments k) h.1
      ∙ ap (λ b. (if b then Completed k (refused_numbers k c.moments) else execution (session c) c.moments k (suc m + 1)) ∷ []) more
      ∙ ap (λ a. a ∷ []) (executed-is (suc m + 1) (omega (arith, q)))
    where
      less : (a b : ℕ) → a < b → (a == b) ≡ false
      less a b lt = grind (arith, nat_tests)

  pub acts-are : worked_acts c ≡ Executed k (n + 1) (is_done e) ∷ []
  acts-are = ap (acts_of c) first ∙ next-is n (last_act k c.moments) refl stage

  -- the instruction that is done, if it is
  abbrev pub done_now : Bool → ℕ → List Done
  done_now d tag = if d then record { tag = tag; request = k; instruction = x } ∷ [] else []

  -- the instruction that an execution does
  pub done-by : (tag : ℕ) (d : Bool) → done_by (session c) tag (Executed k (n + 1) d) ≡ (if d then Some (record { tag = tag; request = k; instruction = x }) else None)
  done-by tag true = ap (option_map (λ y. record { tag = tag; request = k; instruction = y })) there
  done-by tag false = refl

  pub done-are : worked_done c ≡ done_now (is_done e) (next_tag c.clock c.moments)
  done-are = ap (done_of (session c) (next_tag c.clock c.moments)) acts-are ∙ go (is_done e)
    where
      go : (d : Bool) → done_of (session c) (next_tag c.clock c.moments) (Executed k (n + 1) d ∷ []) ≡ done_now d (next_tag c.clock c.moments)
      go true = ap (λ o. option_map_or (λ y. y ∷ []) o []) (done-by (next_tag c.clock c.moments) true)
      go false = refl

  ordered-are : topics_of (worked_done c) ≡ effect_topics e
  ordered-are = ap topics_of done-are ∙ go (is_done e) refl
    where
      go : (d : Bool) → is_done e ≡ d → topics_of (done_now d (next_tag c.clock c.moments)) ≡ effect_topics e
      go true q = append-nil (ordered_topics x) ∙ topics-are c x e is q
      go false q = sym (refused-topics e q)

  -- what is planned
  pub plan-is : planned c Work ≡ does (Executed k (n + 1) (is_done e)) ∷ map tells (effect_topics e)
  plan-is = ap₂ (λ (xs : List Act) (ts : List Topic). map does xs ++ map tells ts) acts-are ordered-are

-- what reports leave, each of them, is left by all of them
pub told-keep : (P : List Moment → Type 0) (s : Session) (clock slot : ℕ) → ((m : Moment) (earlier : List Moment) → m.act ≡ Emitted → P earlier → P (m ∷ earlier))
    → (topics : List Topic) (earlier after : List Moment) → AreNext s clock slot earlier (map tells topics) after → P earlier → P after
told-keep P s clock slot step [] earlier after h p = subst P (sym h) p
told-keep P s clock slot step (topic ∷ topics) earlier after h p = told-keep P s clock slot step topics (h.0 ∷ earlier) after h.2 (step h.0 earlier h.1.follows.0 p)

-- a report leaves the instructions that were done
pub told-dones : (s : Session) (m : Moment) (earlier : List Moment) → m.act ≡ Emitted → done_instructions s (m ∷ earlier) ≡ done_instructions s earlier
told-dones s m earlier e = ap (λ o. cons_option o (done_instructions s earlier)) (ap (done_by s m.tag) e)

-- and the requests that wait
pub told-waiting : (s : Session) (m : Moment) (earlier : List Moment) (ws : List Running) → m.act ≡ Emitted → AreWaiting s earlier ws → AreWaiting s (m ∷ earlier) ws
told-waiting s m earlier ws e h =
    record {
      each = all ws h.each;
      order = h.order;
      all = λ j p. h.all j (sym (ap is_pending (last_act-other j m earlier (ap (is_act_of j) e))) ∙ p);
    }
  where
    one : (w : Running) → IsRunning s earlier w → IsRunning s (m ∷ earlier) w
    one w k =
        record {
          known = k.known;
          request = k.request;
          id = k.id;
          stage = subst (IsStage w.number w.started w.executed) (sym (last_act-other w.number m earlier (ap (is_act_of w.number) e))) k.stage;
          within = k.within;
          refused = k.refused ∙ ap (λ o. reverse (cons_option o (filter_map (λ y. refused_number w.number y.act) earlier))) (sym (ap (refused_number w.number) e));
          rises = k.rises;
        }

    all : (xs : List Running) → AllByRecursion (IsRunning s earlier) xs → AllByRecursion (IsRunning s (m ∷ earlier)) xs
    all [] k = tt
    all (w ∷ xs) k = (one w k.0, all xs k.1)

-- numbers that rise, with a higher end
within-more : (below most : ℕ) (ns : List ℕ) → AreWithin below most ns → AreWithin below (most + 1) ns
within-more below most [] h = omega (arith, h)
within-more below most (n ∷ ns) h = (h.0, within-more n most ns h.1)

within-last : (below most : ℕ) (ns : List ℕ) → AreWithin below most ns → AreWithin below (most + 1) (ns ++ (most + 1) ∷ [])
within-last below most [] h = (omega (arith, h), omega arith)
within-last below most (n ∷ ns) h = (h.0, within-last n most ns h.1)

-- the refused numbers of a request with one instruction more
abbrev pub refused_with : Bool → List ℕ → ℕ → List ℕ
refused_with true ns number = ns
refused_with false ns number = ns ++ number ∷ []

-- one more instruction of the first request that waits was executed
module _ (s : Session) (moments : List Moment) (m : Moment) (w v : Running) (ws : List Running) (d : Bool) (act : m.act ≡ Executed w.number (w.executed + 1) d)
    (begun : w.started ≡ true) (left : w.executed < length (instructions w.request)) (with : IsWith w (w.executed + 1) (refused_with d w.refused (w.executed + 1)) v) where
  own : is_act_of w.number m.act ≡ true
  own = ap (is_act_of w.number) act ∙ eq-eqb w.number w.number refl

  number-is : request_number m.act ≡ Some w.number
  number-is = ap request_number act

  quiet : (j : ℕ) → (w.number ≡ j → ⊥) → refused_number j m.act ≡ None
  quiet j ne = ap (refused_number j) act ∙ go d
    where
      go : (b : Bool) → refused_number j (Executed w.number (w.executed + 1) b) ≡ None
      go true = refl
      go false = ap (λ t. if t then Some (w.executed + 1) else None) (ne_eqb w.number j ne)

  refused-now : refused_numbers w.number (m ∷ moments) ≡ refused_with d (refused_numbers w.number moments) (w.executed + 1)
  refused-now = ap (λ a. reverse (cons_option (refused_number w.number a) (filter_map (λ y. refused_number w.number y.act) moments))) act ∙ go d
    where
      go : (b : Bool) → reverse (cons_option (refused_number w.number (Executed w.number (w.executed + 1) b)) (filter_map (λ y. refused_number w.number y.act) moments))
          ≡ refused_with b (refused_numbers w.number moments) (w.executed + 1)
      go true = refl
      go false =
          ap (λ t. reverse (cons_option (if t then Some (w.executed + 1) else None) (filter_map (λ y. refused_number w.number y.act) moments))) (eq-eqb w.number w.number refl)
          ∙ reverse-append ((w.executed + 1) ∷ []) (filter_map (λ y. refused_number w.number y.act) moments)

  running-now : IsRunning s moments w → IsRunning s (m ∷ moments) v
  running-now h =
      record {
        known = subst (λ j. j < length s.requests) (sym with.number) h.known;
        request = ap (request_at s) with.number ∙ h.request ∙ ap Some (sym with.request);
        id = with.id ∙ h.id ∙ ap (request_id s) (sym with.number);
        stage = subst (λ j. IsStage j v.started v.executed (last_act j (m ∷ moments))) (sym with.number)
            (subst (λ b. IsStage w.number b v.executed (last_act w.number (m ∷ moments))) (sym (with.started ∙ begun))
            (subst (λ i. IsStage w.number true i (last_act w.number (m ∷ moments))) (sym with.executed_is)
            (subst (λ i. IsStage w.number true i (last_act w.number (m ∷ moments))) (sym (add-one w.executed))
            (d, last_act-own w.number m moments own ∙ ap Some act ∙ ap (λ i. Some (Executed w.number i d)) (add-one w.executed)))));
        within = let a = with.executed_is in subst (λ r. v.executed ≤ length (instructions r)) (sym with.request) (omega (arith, a, left));
        refused = with.refused_are ∙ ap (λ ns. refused_with d ns (w.executed + 1)) h.refused ∙ sym refused-now ∙ ap (λ j. refused_numbers j (m ∷ moments)) (sym with.number);
        rises = subst (λ i. AreWithin 0 i v.refused) (sym with.executed_is) (subst (AreWithin 0 (w.executed + 1)) (sym with.refused_are) (rises d h.rises));
      }
    where
      rises : (b : Bool) → AreWithin 0 w.executed w.refused → AreWithin 0 (w.executed + 1) (refused_with b w.refused (w.executed + 1))
      rises true k = within-more 0 w.executed w.refused k
      rises false k = within-last 0 w.executed w.refused k

  still : (x : Running) → (w.number ≡ x.number → ⊥) → IsRunning s moments x → IsRunning s (m ∷ moments) x
  still x other h =
      record {
        known = h.known;
        request = h.request;
        id = h.id;
        stage = subst (IsStage x.number x.started x.executed) (sym (last_act-other x.number m moments (is_act_of-other x.number w.number m.act number-is other))) h.stage;
        within = h.within;
        refused = h.refused ∙ ap (λ o. reverse (cons_option o (filter_map (λ y. refused_number x.number y.act) moments))) (sym (quiet x.number other));
        rises = h.rises;
      }

  all-still : (xs : List Running) → AllByRecursion (λ x. w.number < x.number) xs → AllByRecursion (IsRunning s moments) xs → AllByRecursion (IsRunning s (m ∷ moments)) xs
  all-still [] above h = tt
  all-still (x ∷ xs) above h = (still x (λ q. let lt = above.0 in absurd (omega (arith, q, lt))) h.0, all-still xs above.1 h.1)

  pub waiting-executed : AreWaiting s moments (w ∷ ws) → AreWaiting s (m ∷ moments) (v ∷ ws)
  waiting-executed h =
      record {
        each = (running-now h.each.0, all-still ws h.order.0 h.each.1);
        order = (subst (λ j. AllByRecursion (λ x. j < x.number) ws) (sym with.number) h.order.0, h.order.1);
        all = λ j p. go j (w.number == j) refl p;
      }
    where
      go : (j : ℕ) (b : Bool) → (w.number == j) ≡ b → is_pending (last_act j (m ∷ moments)) ≡ true → IsTrue (list_any (λ x. x.number == j) (v ∷ ws))
      go j true q p = ap (λ b. b || list_any (λ x. x.number == j) ws) (ap (λ i. i == j) with.number ∙ q)
      go j false q p =
          let other : is_act_of j m.act ≡ false = is_act_of-other j w.number m.act number-is (λ same. true_is_not_false (sym (eq-eqb w.number j same) ∙ q)) in
          let old = h.all j (sym (ap is_pending (last_act-other j m moments other)) ∙ p) in
          sym (ap (λ i. (i == j) || list_any (λ x. x.number == j) ws) (sym with.number)) ∙ old
