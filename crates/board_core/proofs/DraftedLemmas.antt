-- The moments of an instruction that is executed, as they are drafted: there is room and time for them, and they are those that are planned.
use Rattle.std.proofs.Common.{arith, ◌≡◌, ℕ, ◌+◌, ◌<◌, ◌≤◌, ◌^◌, max, refl, sym, ◌∙◌, ap, ap₂, subst, List, [], ◌∷◌, ◌++◌, length, Bool, true, false, ◌&&◌, nat_lt, Some, None, Ok, Err}
use Rattle.std.proofs.lemmas.Bool.Decides.{nat_tests}
use Rattle.hk_base.specs.Fit.{IsFit, greatest_tag}
use Rattle.pus_messages.specs.Instructions.{Instruction}
use Rattle.pus_messages.specs.declared.message.ReportBody.{ReportBody}
use Rattle.hk_world.specs.declared.moment.Act.TheVariants.{Executed, Emitted}
use Rattle.hk_world.specs.declared.moment.Moment.{Moment}
use Rattle.hk_world.proofs.OrderLemmas.{true_is_not_false}
use Rattle.board_steps.specs.Cores.{Core, session, last_tag, next_tag}
use Rattle.board_steps.specs.Plans.{Topic}
use Rattle.board_steps.specs.Steps.{IsAbout, Answers}
use Rattle.board_steps.specs.declared.event.BoardFault.{BoardFault}
use Rattle.board_steps.specs.declared.event.BoardFault.TheVariants.{JournalFull, TimeExhausted, Memory}
use Rattle.board_steps.specs.declared.event.Event.TheVariants.{Work}
use Rattle.board_state.specs.declared.running.Running.{Running}
use Rattle.board_state.specs.declared.instruction.StatisticsChange.{StatisticsChange}
use Rattle.board_state.specs.declared.instruction.StatisticsChange.TheVariants as change
use Rattle.board_core.specs.Effects.{IsExecuting, IsEffectOf, IsSmallEffect, is_done, effect_topics, statistics_topics, progress_of}
use Rattle.board_core.specs.Execution.{IsFirstDrafted, AnswersFirst, IsToldAfter}
use Rattle.board_core.specs.Logs.{IsAdded, IsDraft, IsDrafted, AnswersDraft, drafted}
use Rattle.board_core.specs.Logs as logs
use Rattle.board_core.specs.Planned.{log_of, IsPlanned, AnswersPlan}
use Rattle.board_core.specs.declared.effect.Effect.{Effect}
use Rattle.board_core.specs.declared.effect.Effect.TheVariants.{Refused, Create, Delete, Replace, OrderOneShot, ShowStructure, ShowProperties, ChangeStatistics, ReportValues, SetValues}
use Rattle.board_core.specs.declared.log.Draft.{Draft}
use Rattle.board_core.proofs.ExecutionLemmas.{full-here, late-here, alone-planned, both-planned}
use Rattle.board_core.proofs.LogLemmas.{greatest-small}

-- the numbers of a refusal have room in a cause
pub small-effect : (c : Core) (x : Instruction) (e : Effect) → IsEffectOf c x e → IsSmallEffect e
small-effect c x (Refused r) h = h.1
small-effect c x (Create key after) h = tt
small-effect c x (Delete key) h = tt
small-effect c x (Replace key after begins) h = tt
small-effect c x (OrderOneShot key) h = tt
small-effect c x (ShowStructure key after) h = tt
small-effect c x (ShowProperties key after) h = tt
small-effect c x (ChangeStatistics made) h = tt
small-effect c x (ReportValues ids) h = tt
small-effect c x (SetValues settings) h = tt

-- an effect orders no more than one report
change-one : (made : StatisticsChange) (topic : Topic) (topics : List Topic) → statistics_topics made ≡ topic ∷ topics → topics ≡ []
change-one (change.Report resets) topic topics q = cc
change-one change.Reset topic topics q = cc
change-one (change.Enable n) topic topics q = cc
change-one change.Disable topic topics q = cc
change-one (change.Add id) topic topics q = cc
change-one (change.Delete id) topic topics q = cc
change-one change.DeleteAll topic topics q = cc
change-one change.ShowDefinitions topic topics q = cc

pub ordered-one : (e : Effect) (topic : Topic) (topics : List Topic) → effect_topics e ≡ topic ∷ topics → topics ≡ []
ordered-one (Refused r) topic topics q = cc
ordered-one (Create key after) topic topics q = cc
ordered-one (Delete key) topic topics q = cc
ordered-one (Replace key after begins) topic topics q = cc
ordered-one (OrderOneShot key) topic topics q = cc
ordered-one (ShowStructure key after) topic topics q = cc
ordered-one (ShowProperties key after) topic topics q = cc
ordered-one (ChangeStatistics made) topic topics q = change-one made topic topics q
ordered-one (ReportValues ids) topic topics q = cc
ordered-one (SetValues settings) topic topics q = cc

-- and so no more than two moments are drafted
topics-few : (topics : List Topic) → ((topic : Topic) (more : List Topic) → topics ≡ topic ∷ more → more ≡ []) → length topics ≤ 1
topics-few [] h = omega arith
topics-few (topic ∷ more) h = let none = ap length (h topic more refl) in omega (arith, none)

pub ordered-few : (e : Effect) → length (effect_topics e) ≤ 1
ordered-few e = topics-few (effect_topics e) (ordered-one e)

second-of : (a b : Bool) → a ≡ true → (a && b) ≡ false → b ≡ false
second-of true b q e = e
second-of false b q e = absurd (true_is_not_false (sym q))

-- where the last of some moments isn't late, there is time for each
pub in-time : (greatest next n : ℕ) → (nat_lt 0 (1 + n) && nat_lt (greatest + 1) (next + (1 + n))) ≡ false → next + n ≤ greatest
in-time greatest next n e = go (second-of (nat_lt 0 (1 + n)) (nat_lt (greatest + 1) (next + (1 + n))) some e)
  where
    some : nat_lt 0 (1 + n) ≡ true
    some = grind (arith, nat_tests)

    go : nat_lt (greatest + 1) (next + (1 + n)) ≡ false → next + n ≤ greatest
    go q = grind (arith, nat_tests)

module _ (c : Core) (w : Running) (e : Effect) (h : IsExecuting c w e) where
  -- the first moment isn't drafted
  pub first-fails : (fault : BoardFault) → AnswersDraft (log_of c) c.clock (1 + length (effect_topics e)) (Err fault) → AnswersFirst c w e (Err fault)
  first-fails JournalFull k = full-here c w e h ∙ k
  first-fails TimeExhausted k = (full-here c w e h ∙ k.0, late-here c w e h ∙ k.1)
  first-fails Memory k = tt

  module _ (old : Draft) (k : AnswersDraft (log_of c) c.clock (1 + length (effect_topics e)) (Ok old)) where
    -- there is a tag for it
    pub first-early : max old.clock (old.last_tag + 1) ≤ greatest_tag c.tailoring
    first-early =
        let time = in-time (greatest_tag c.tailoring) (next_tag c.clock c.moments) (length (effect_topics e)) k.1 in
        let last : old.last_tag ≡ last_tag c.moments = k.2.last_is ∙ ap (λ ms. last_tag (drafted (log_of c) ms)) k.3 in
        let next : max old.clock (old.last_tag + 1) ≡ next_tag c.clock c.moments = ap₂ (λ a b. max a (b + 1)) k.4 last in
        subst (λ n. n ≤ greatest_tag c.tailoring) (sym next) (omega (arith, time))

    -- it is drafted
    pub first-drafted : (new : Draft) → IsDrafted (log_of c) old.clock (Executed w.number (w.executed + 1) (is_done e)) (progress_of w (w.executed + 1) e) old new → IsFirstDrafted c w e new
    first-drafted new g =
        let before : drafted (log_of c) old.moments.items ≡ c.moments = ap (drafted (log_of c)) k.3 in
        record {
          room = full-here c w e h ∙ k.0;
          time = late-here c w e h ∙ k.1;
          moment = g.moment;
          executed = subst (λ n. IsAdded c.tailoring n c.moments (Executed w.number (w.executed + 1) (is_done e)) (progress_of w (w.executed + 1) e) g.moment) k.4
              (subst (λ ms. IsAdded c.tailoring old.clock ms (Executed w.number (w.executed + 1) (is_done e)) (progress_of w (w.executed + 1) e) g.moment) before g.added);
          moments = g.moments ∙ ap (λ (ms : List Moment). ms ++ g.moment ∷ []) k.3;
          draft = g.draft;
          clock_is = g.clock_is ∙ k.4;
        }

  module _ (d : Draft) (f : IsFirstDrafted c w e d) where
    last-is : d.last_tag ≡ f.moment.tag
    last-is = f.draft.last_is ∙ ap (λ ms. last_tag (drafted (log_of c) ms)) f.moments

    -- the tag of the next moment
    pub next-is : max d.clock (d.last_tag + 1) ≡ next_tag c.clock (f.moment ∷ c.moments)
    next-is = ap₂ (λ a b. max a (b + 1)) f.clock_is last-is

    -- the last tag is small
    pub last-small : IsFit c.tailoring → d.last_tag < 2 ^ 60
    last-small fit = let le = f.draft.fit in let small = greatest-small c.tailoring fit in omega (arith, le, small)

    -- there is a tag for the report that is ordered
    pub next-early : max d.clock (d.last_tag + 1) + length (effect_topics e) ≤ greatest_tag c.tailoring + 1
    next-early =
        let late : logs.is_late (log_of c) c.clock (1 + length (effect_topics e)) ≡ false = sym (late-here c w e h) ∙ f.time in
        let time = in-time (greatest_tag c.tailoring) (next_tag c.clock c.moments) (length (effect_topics e)) late in
        let tag = f.executed.tag in
        subst (λ n. n + length (effect_topics e) ≤ greatest_tag c.tailoring + 1) (sym next-is) (omega (arith, time, tag))

    -- no report is ordered
    pub none-told : (tag : ℕ) → IsToldAfter c f.moment tag (effect_topics e) None → IsPlanned c Work d
    none-told tag k = alone-planned c w e h d f (go (effect_topics e) k)
      where
        go : (topics : List Topic) → IsToldAfter c f.moment tag topics None → topics ≡ []
        go [] j = refl
        go (topic ∷ topics) j = absurd j

    -- where a report is ordered, there is a tag for it
    pub told-early : (tag : ℕ) (body : ReportBody) → IsToldAfter c f.moment tag (effect_topics e) (Some body) → max d.clock (d.last_tag + 1) ≤ greatest_tag c.tailoring
    told-early tag body k = let early = next-early in let some = go (effect_topics e) k in omega (arith, early, some)
      where
        go : (topics : List Topic) → IsToldAfter c f.moment tag topics (Some body) → 1 ≤ length topics
        go [] j = absurd j
        go (topic ∷ topics) j = omega arith

    -- and it can be written
    pub told-writable : (tag : ℕ) (body : ReportBody) → IsToldAfter c f.moment tag (effect_topics e) (Some body) → logs.IsWritable c.tailoring body
    told-writable tag body k = go (effect_topics e) k
      where
        go : (topics : List Topic) → IsToldAfter c f.moment tag topics (Some body) → logs.IsWritable c.tailoring body
        go [] j = absurd j
        go (topic ∷ topics) j = j.0

    -- one is ordered
    pub one-told : (tag : ℕ) (body : ReportBody) (new : Draft) → IsToldAfter c f.moment tag (effect_topics e) (Some body) → tag ≡ max d.clock (d.last_tag + 1)
        → IsDrafted (log_of c) d.clock Emitted (Some body) d new → IsPlanned c Work new
    one-told tag body new k is g = go (effect_topics e) refl k
      where
        own : IsDrafted (log_of c) c.clock Emitted (Some body) d new
        own = subst (λ n. IsDrafted (log_of c) n Emitted (Some body) d new) f.clock_is g

        go : (topics : List Topic) → effect_topics e ≡ topics → IsToldAfter c f.moment tag topics (Some body) → IsPlanned c Work new
        go [] q j = absurd j
        go (topic ∷ topics) q j =
            both-planned c w e h topic body d new (q ∙ ap (λ (ts : List Topic). topic ∷ ts) (ordered-one e topic topics q)) f own
            (λ n same. subst (λ i. IsAbout (session c) c.slot_now (f.moment ∷ c.moments) i topic body) (is ∙ next-is ∙ sym same) j.1)

-- where the first moment isn't drafted, what is planned isn't
pub plan-fails : (c : Core) (w : Running) (e : Effect) (fault : BoardFault) → AnswersFirst c w e (Err fault) → AnswersPlan c Work (Err fault)
plan-fails c w e JournalFull h = h
plan-fails c w e TimeExhausted h = h
plan-fails c w e Memory h = tt

-- and nothing is done
pub work-fails : (c : Core) (fault : BoardFault) → AnswersPlan c Work (Err fault) → Answers c Work c (Err fault)
work-fails c JournalFull h = (h, refl)
work-fails c TimeExhausted h = (h.0, h.1, refl)
work-fails c Memory h = refl
