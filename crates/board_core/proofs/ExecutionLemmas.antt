-- The moments of an instruction that is executed are those that are planned.
use Rattle.std.proofs.Common.{arith, ◌≡◌, ℕ, ◌+◌, ◌-◌, ◌<◌, ◌≤◌, ◌^◌, ◌/◌, ◌%◌, refl, sym, ◌∙◌, ap, ap₂, subst, List, [], ◌∷◌, ◌++◌, length, length-append, map, Bool, true, false, ◌==◌, ◌&&◌, ◌||◌, nat_lt, Option, Some, None}
use Rattle.std.specs.Prelude.{IfSome, MatchBool, slice_get, option_and_then, if◌then◌else◌}
use Rattle.std.specs.Option.{option_map_or}
use Rattle.std.proofs.lemmas.List.{length-map}
use Rattle.std.proofs.Math.Nat.{pow-le-pow_right}
use Rattle.hk_base.specs.Fit.{IsFit, greatest_tag}
use Rattle.hk_base.specs.Fields.{octets_of}
use Rattle.hk_base.specs.TailoringParts.{TailoringParts}
use Rattle.hk_base.proofs.FieldLemmas.{length-digits}
use Rattle.st01_reports.specs.Spelling.{IsStep, IsCause, id_octets, step_octets, cause_octets}
use Rattle.st01_reports.specs.declared.verification.Verification.TheVariants as verify
use Rattle.pus_messages.specs.Instructions.{Instruction, instructions}
use Rattle.pus_messages.specs.declared.message.ReportBody.{ReportBody}
use Rattle.pus_messages.specs.declared.message.ReportBody.TheVariants.{Verify}
use Rattle.report_structures.specs.declared.refusal.Refusal.{Refusal}
use Rattle.hk_world.specs.States.{refusal}
use Rattle.hk_world.specs.Timelines.{instruction_at, last_act}
use Rattle.hk_world.specs.Honest.{Carries, VerifiesIf, IsReport, IsRefusedFor, cause_of, has_several, asks_for, request_id}
use Rattle.hk_world.specs.declared.moment.Moment.{Moment}
use Rattle.hk_world.specs.declared.moment.Act.TheVariants.{Executed, Emitted}
use Rattle.board_steps.specs.Cores.{Core, session, next_tag, state_of}
use Rattle.board_steps.specs.Plans.{Topic, does, tells, planned}
use Rattle.board_steps.specs.Steps.{AreNext, IsNext, IsAbout}
use Rattle.board_steps.specs.Steps as steps
use Rattle.board_steps.specs.declared.event.Event.TheVariants.{Work}
use Rattle.board_state.specs.Waiting.{IsStage, asks}
use Rattle.board_state.specs.declared.running.Running.{Running}
use Rattle.board_state.specs.declared.running.Asked.TheVariants.{Progress}
use Rattle.board_core.specs.Effects.{IsExecuting, IsEffectOf, HasCause, is_done, effect_topics, progress_by, progress_of}
use Rattle.board_core.specs.Execution.{IsExecutedBy, IsFirstDrafted}
use Rattle.board_core.specs.Logs.{LogParts, IsAdded, IsDraft, IsDrafted, IsPacket, IsWritable, drafted}
use Rattle.board_core.specs.Logs as logs
use Rattle.board_core.specs.Planned.{log_of, IsPlanned}
use Rattle.board_core.specs.declared.effect.Effect.{Effect}
use Rattle.board_core.specs.declared.effect.Effect.TheVariants.{Refused, Create, Delete, Replace, OrderOneShot, ShowStructure, ShowProperties, ChangeStatistics, ReportValues, SetValues}
use Rattle.board_core.specs.declared.log.Draft.{Draft}
use Rattle.board_core.proofs.ExecutedLemmas.{plan-is}
use Rattle.board_core.proofs.UplinkLemmas.{verifies, verified, next-header, or-false}
use Rattle.board_core.proofs.WorkedLemmas.{worked-first}

module _ (c : Core) (w : Running) (e : Effect) (h : IsExecuting c w e) where
  there : instruction_at (session c) w.number (w.executed + 1) ≡ Some h.instruction
  there =
      let same : w.executed + 1 - 1 ≡ w.executed = omega arith in
      ap (λ o. option_and_then (λ r. slice_get (instructions r) (w.executed + 1 - 1)) o) h.waits.each.0.request ∙ ap (λ i. slice_get (instructions w.request) i) same ∙ h.there

  stage : IsStage w.number true w.executed (last_act w.number c.moments)
  stage = subst (λ b. IsStage w.number b w.executed (last_act w.number c.moments)) h.begun h.waits.each.0.stage

  -- what is planned
  pub plan-here : planned c Work ≡ does (Executed w.number (w.executed + 1) (is_done e)) ∷ map tells (effect_topics e)
  plan-here = plan-is c w.number w.executed h.instruction e (worked-first c w h.others h.waits) stage there h.is_effect

  pub count-here : length (planned c Work) ≡ 1 + length (effect_topics e)
  count-here = let all = ap length plan-here in let one = length-map (effect_topics e) tells in omega (arith, all, one)

  pub full-here : steps.is_full c Work ≡ logs.is_full (log_of c) (1 + length (effect_topics e))
  full-here = ap (λ n. nat_lt 1048576 (length c.moments + n)) count-here

  pub late-here : steps.is_late c Work ≡ logs.is_late (log_of c) c.clock (1 + length (effect_topics e))
  late-here =
      ap (λ n. (nat_lt 0 n && nat_lt (greatest_tag c.tailoring + 1) (next_tag c.clock c.moments + n)) || (false && nat_lt (greatest_tag c.tailoring) c.clock)) count-here
      ∙ or-false (nat_lt 0 (1 + length (effect_topics e)) && nat_lt (greatest_tag c.tailoring + 1) (next_tag c.clock c.moments + (1 + length (effect_topics e))))

  -- the packet that the first moment carries
  several-is : has_several (session c) w.number ≡ nat_lt 1 (length (instructions w.request))
  several-is = ap (λ o. nat_lt 1 (length (option_map_or instructions o []))) h.waits.each.0.request

  asks-is : asks_for 2 (session c) w.number ≡ asks w.request Progress
  asks-is = ap (λ o. option_map_or (λ r. r.header.flags / 2 ^ 2 % 2 == 1) o false) h.waits.each.0.request

  first-carries : (m : Moment) → IsExecutedBy c w e m → Carries (session c) c.moments m (Executed w.number (w.executed + 1) (is_done e))
  first-carries m x = go e h.is_effect x.packet
    where
      done : (f : Effect) → (b : Bool) → nat_lt 1 (length (instructions w.request)) ≡ b
          → IsPacket (session c).protocol c.moments m.tag (if b then (if asks w.request Progress then Some (Verify (verify.Step w.id (w.executed + 1))) else None) else None) m.packet
          → VerifiesIf (has_several (session c) w.number && asks_for 2 (session c) w.number) (session c) m (verify.Step (request_id (session c) w.number) (w.executed + 1))
      done f b q p =
          subst (λ d. VerifiesIf d (session c) m (verify.Step (request_id (session c) w.number) (w.executed + 1))) (sym (ap₂ (λ a z. a && z) (several-is ∙ q) asks-is))
          (subst (λ i. VerifiesIf (b && asks w.request Progress) (session c) m (verify.Step i (w.executed + 1))) h.waits.each.0.id (by b p))
        where
          by : (b : Bool) → IsPacket (session c).protocol c.moments m.tag (if b then (if asks w.request Progress then Some (Verify (verify.Step w.id (w.executed + 1))) else None) else None) m.packet
              → VerifiesIf (b && asks w.request Progress) (session c) m (verify.Step w.id (w.executed + 1))
          by true k = verifies (session c) c.moments m (asks w.request Progress) (verify.Step w.id (w.executed + 1)) k
          by false k = k

      not_done : (r : Refusal) → refusal c.tailoring (state_of c) h.instruction ≡ Some r → (b : Bool) → nat_lt 1 (length (instructions w.request)) ≡ b
          → IsPacket (session c).protocol c.moments m.tag (if b then Some (Verify (verify.StepFailed w.id (w.executed + 1) (cause_of r))) else None) m.packet
          → Carries (session c) c.moments m (Executed w.number (w.executed + 1) false)
      not_done r refused true q p =
          subst (λ d. MatchBool d ((y : Instruction) × (k : _) × (instruction_at (session c) w.number (w.executed + 1) ≡ Some y) × IsRefusedFor (session c) c.moments y k
          × IsReport (session c) m (Verify (verify.StepFailed (request_id (session c) w.number) (w.executed + 1) k))) (m.packet ≡ [])) (sym (several-is ∙ q)) (
            h.instruction,
            cause_of r,
            there,
            (r, refused, refl),
            subst (λ i. IsReport (session c) m (Verify (verify.StepFailed i (w.executed + 1) (cause_of r)))) h.waits.each.0.id (verified (session c) c.moments m (Verify (verify.StepFailed w.id (w.executed + 1) (cause_of r))) p),
          )
      not_done r refused false q p =
          subst (λ d. MatchBool d ((y : Instruction) × (k : _) × (instruction_at (session c) w.number (w.executed + 1) ≡ Some y) × IsRefusedFor (session c) c.moments y k
          × IsReport (session c) m (Verify (verify.StepFailed (request_id (session c) w.number) (w.executed + 1) k))) (m.packet ≡ [])) (sym (several-is ∙ q)) p

      go : (f : Effect) → IsEffectOf c h.instruction f → IsPacket (session c).protocol c.moments m.tag (progress_of w (w.executed + 1) f) m.packet
          → Carries (session c) c.moments m (Executed w.number (w.executed + 1) (is_done f))
      go (Refused r) k p = not_done r k.0 (nat_lt 1 (length (instructions w.request))) refl p
      go (Create key after) k p = done (Create key after) (nat_lt 1 (length (instructions w.request))) refl p
      go (Delete key) k p = done (Delete key) (nat_lt 1 (length (instructions w.request))) refl p
      go (Replace key after b) k p = done (Replace key after b) (nat_lt 1 (length (instructions w.request))) refl p
      go (OrderOneShot key) k p = done (OrderOneShot key) (nat_lt 1 (length (instructions w.request))) refl p
      go (ShowStructure key after) k p = done (ShowStructure key after) (nat_lt 1 (length (instructions w.request))) refl p
      go (ShowProperties key after) k p = done (ShowProperties key after) (nat_lt 1 (length (instructions w.request))) refl p
      go (ChangeStatistics made) k p = done (ChangeStatistics made) (nat_lt 1 (length (instructions w.request))) refl p
      go (ReportValues ids) k p = done (ReportValues ids) (nat_lt 1 (length (instructions w.request))) refl p
      go (SetValues settings) k p = done (SetValues settings) (nat_lt 1 (length (instructions w.request))) refl p

  -- the first moment is the one that is planned
  first-next : (m : Moment) → IsExecutedBy c w e m → IsNext (session c) c.clock c.slot_now c.moments (does (Executed w.number (w.executed + 1) (is_done e))) m
  first-next m x =
      record {
        tag = x.tag;
        follows = (x.act_is, first-carries m x);
        header = next-header c.tailoring c.moments m (progress_of w (w.executed + 1) e) x.packet;
        octets = x.octets;
      }

  -- without a report the first moment is all that is planned
  pub alone-planned : (d : Draft) → IsFirstDrafted c w e d → effect_topics e ≡ [] → IsPlanned c Work d
  alone-planned d f none =
      let plan : planned c Work ≡ does (Executed w.number (w.executed + 1) (is_done e)) ∷ [] = plan-here ∙ ap (λ ts. does (Executed w.number (w.executed + 1) (is_done e)) ∷ map tells ts) none in
      record {
        room = f.room;
        time = f.time;
        draft = f.draft;
        count = ap length f.moments ∙ sym (ap length plan);
        moments = subst (λ xs. AreNext (session c) c.clock c.slot_now c.moments xs (drafted (log_of c) d.moments.items)) (sym plan)
            (f.moment, first-next f.moment f.executed, ap (drafted (log_of c)) f.moments);
      }

  -- with the report that is ordered both are
  pub both-planned : (topic : Topic) (body : ReportBody) (old new : Draft) → effect_topics e ≡ topic ∷ [] → (f : IsFirstDrafted c w e old) → IsDrafted (log_of c) c.clock Emitted (Some body) old new
      → ((tag : ℕ) → tag ≡ next_tag c.clock (f.moment ∷ c.moments) → IsAbout (session c) c.slot_now (f.moment ∷ c.moments) tag topic body) → IsPlanned c Work new
  both-planned topic body old new one f g about =
      let plan : planned c Work ≡ does (Executed w.number (w.executed + 1) (is_done e)) ∷ tells topic ∷ [] =
      plan-here ∙ ap (λ ts. does (Executed w.number (w.executed + 1) (is_done e)) ∷ map tells ts) one in
      let items : new.moments.items ≡ f.moment ∷ g.moment ∷ [] = g.moments ∙ ap (λ (ms : List Moment). ms ++ g.moment ∷ []) f.moments in
      let before : drafted (log_of c) old.moments.items ≡ f.moment ∷ c.moments = ap (drafted (log_of c)) f.moments in
      let added : IsAdded c.tailoring c.clock (f.moment ∷ c.moments) Emitted (Some body) g.moment = subst (λ ms. IsAdded c.tailoring c.clock ms Emitted (Some body) g.moment) before g.added in
      record {
        room = f.room;
        time = f.time;
        draft = g.draft;
        count = ap length items ∙ sym (ap length plan);
        moments = subst (λ xs. AreNext (session c) c.clock c.slot_now c.moments xs (drafted (log_of c) new.moments.items)) (sym plan) (
          f.moment,
          first-next f.moment f.executed,
          (
            g.moment,
            record {
              tag = added.tag;
              follows = (added.act_is, (body, verified (session c) (f.moment ∷ c.moments) g.moment body added.packet, about g.moment.tag added.tag));
              header = next-header c.tailoring (f.moment ∷ c.moments) g.moment (Some body) added.packet;
              octets = added.octets;
            },
            ap (drafted (log_of c)) items,
          ),
        );
      }

-- the report on the execution of an instruction can be written
pub progress-writable : (t : TailoringParts) (w : Running) (number : ℕ) (e : Effect) → IsFit t → w.id.word < 256 ^ 4 → 1 ≤ number → number ≤ 255 → IfSome (progress_of w number e) HasCause
    → IfSome (progress_of w number e) (IsWritable t)
progress-writable t w number e fit id some few caused = go e (nat_lt 1 (length (instructions w.request))) caused
  where
    below : number < 256 ^ t.widths.step_octets
    below = let wide : 256 ^ 1 ≤ 256 ^ t.widths.step_octets = let base : 0 < 256 = omega arith in pow-le-pow_right base fit.widths.step_octets.0 in omega (arith, wide, few)

    room : IsStep t number
    room = (some, below)

    step : IsWritable t (Verify (verify.Step w.id number))
    step =
        let a = length-append (id_octets w.id) (step_octets t number) in
        let b = length-digits 256 4 w.id.word in
        let c = length-digits 256 t.widths.step_octets number in
        let wide = fit.widths.step_octets.1 in
        record { grammar = (id, room); room = tt; short = omega (arith, a, b, c, wide) }

    failed : (r : Refusal) → IsCause (cause_of r) → IsWritable t (Verify (verify.StepFailed w.id number (cause_of r)))
    failed r small =
        let a = length-append (id_octets w.id) (step_octets t number ++ cause_octets (cause_of r)) in
        let d = length-append (step_octets t number) (cause_octets (cause_of r)) in
        let b = length-digits 256 4 w.id.word in
        let c = length-digits 256 t.widths.step_octets number in
        let f = length-digits 256 2 (cause_of r).code in
        let g = length-digits 256 4 (cause_of r).detail in
        let i = length-append (octets_of 2 (cause_of r).code) (octets_of 4 (cause_of r).detail) in
        let wide = fit.widths.step_octets.1 in
        record { grammar = (id, room, small); room = tt; short = omega (arith, a, b, c, d, f, g, i, wide) }

    asked : (b : Bool) → IfSome (if b then Some (Verify (verify.Step w.id number)) else None) (IsWritable t)
    asked true = step
    asked false = tt

    if-several : (o : Option ReportBody) (b : Bool) → IfSome o (IsWritable t) → IfSome (if b then o else None) (IsWritable t)
    if-several o true h = h
    if-several o false h = tt

    go : (f : Effect) → (b : Bool) → IfSome (if b then progress_by w number f else None) HasCause → IfSome (if b then progress_by w number f else None) (IsWritable t)
    go (Refused r) true k = failed r k
    go (Refused r) false k = tt
    go (Create key after) b k = if-several (progress_by w number (Create key after)) b (asked (asks w.request Progress))
    go (Delete key) b k = if-several (progress_by w number (Delete key)) b (asked (asks w.request Progress))
    go (Replace key after z) b k = if-several (progress_by w number (Replace key after z)) b (asked (asks w.request Progress))
    go (OrderOneShot key) b k = if-several (progress_by w number (OrderOneShot key)) b (asked (asks w.request Progress))
    go (ShowStructure key after) b k = if-several (progress_by w number (ShowStructure key after)) b (asked (asks w.request Progress))
    go (ShowProperties key after) b k = if-several (progress_by w number (ShowProperties key after)) b (asked (asks w.request Progress))
    go (ChangeStatistics made) b k = if-several (progress_by w number (ChangeStatistics made)) b (asked (asks w.request Progress))
    go (ReportValues ids) b k = if-several (progress_by w number (ReportValues ids)) b (asked (asks w.request Progress))
    go (SetValues settings) b k = if-several (progress_by w number (SetValues settings)) b (asked (asks w.request Progress))
