-- What is answered where a sample is filed.
use Rattle.std.proofs.Common.{arith, ◌≡◌, ℕ, ◌+◌, refl, sym, ◌∙◌, ap, subst, List, ◌∷◌, Bool, true, false, ◌&&◌, ◌||◌, Some, None, Ok, Err}
use Rattle.std.specs.Prelude.{nat_lt}
use Rattle.std.specs.List.{cons_option}
use Rattle.std.proofs.lemmas.Bool.Decides.{nat_tests}
use Rattle.hk_base.specs.Fit.{IsFit, greatest_tag}
use Rattle.hk_base.specs.Parameters.{is_settable}
use Rattle.hk_base.specs.declared.types.Key.{Key}
use Rattle.hk_world.specs.Timelines.{Session, request_number, done_by, done_instructions, state_after}
use Rattle.hk_world.specs.declared.moment.Moment.{Moment}
use Rattle.hk_world.specs.declared.moment.Act.TheVariants.{Filed}
use Rattle.statistics.specs.Summaries.{sample}
use Rattle.std.specs.Option.{option_map_or}
use Rattle.hk_world.proofs.OrderLemmas.{true_is_not_false}
use Rattle.board_steps.specs.Cores.{Core, session, next_tag}
use Rattle.board_steps.specs.Slots.{is_set}
use Rattle.board_steps.specs.Steps.{Answers, MayFile, IsStep}
use Rattle.board_steps.specs.declared.event.Sample.{Sample}
use Rattle.board_steps.specs.declared.event.Event.TheVariants.{Filing}
use Rattle.board_steps.specs.declared.event.BoardFault.{BoardFault}
use Rattle.board_steps.specs.declared.event.BoardFault.TheVariants.{JournalFull, TimeExhausted, Memory}
use Rattle.board_steps.proofs.GrammarLemmas.{RequestsOnly}
use Rattle.board_steps.proofs.RunLemmas.{step-stands}
use Rattle.board_state.specs.Statistics.{StatisticsHeld, Files}
use Rattle.board_state.specs.Values.{change_channel, filed_channel}
use Rattle.board_state.specs.Waiting.{RequestsHeld}
use Rattle.board_state.specs.declared.channels.Channel.{Channel}
use Rattle.board_state.specs.declared.structures.Held.{Held}
use Rattle.board_state.proofs.FilingLemmas.{filing-values}
use Rattle.board_state.proofs.QuietLemmas.{waiting-still, unfiled-before, AreFiledBefore}
use Rattle.board_state.proofs.StatisticsLemmas.{statistics-filed, settled-still}
use Rattle.board_core.specs.Boards.{core_of, IsBoard, IsWhole}
use Rattle.board_core.specs.Logs.{LogParts, AnswersOne, IsAdded, with_moments}
use Rattle.board_core.proofs.UplinkLemmas.{next-header, or-false}
use Rattle.board_core.proofs.WholeLemmas.{same-structures}

module _ (clock slot : ℕ) (rq : RequestsHeld) (held : List (Key × Held)) (l : LogParts) (fit : IsFit l.tailoring) (only : RequestsOnly l.tailoring)
    (b : IsBoard (core_of clock slot rq held l) rq.waiting) (x : Sample) (may : MayFile (core_of clock slot rq held l) x) where
  core : Core
  core = core_of clock slot rq held l

  filed-step : (m : Moment) → IsAdded l.tailoring clock l.moments (Filed x.param x.slot x.value) None m
      → IsStep (core_of clock slot rq held l) (Filing x) (core_of clock slot rq held (with_moments l (m ∷ l.moments)))
  filed-step m added =
      record {
        tailoring = refl;
        clock = refl;
        requests = refl;
        slot_now = refl;
        one_shots = λ key. refl;
        moments = (m, record { tag = added.tag; follows = (added.act_is, added.packet); header = next-header l.tailoring l.moments m None added.packet; octets = added.octets }, refl);
      }

  late-one : (b : Bool) → (nat_lt 0 1 && b || (false && nat_lt (greatest_tag l.tailoring) clock)) ≡ (nat_lt 0 1 && b)
  late-one b = or-false (nat_lt 0 1 && b)

  -- what is answered where the sample is in the journal, and what is held beside it
  pub filed : (after : LogParts) (count : ℕ) → AnswersOne l clock (Filed x.param x.slot x.value) None after (Ok count)
      → Answers (core_of clock slot rq held l) (Filing x) (core_of clock slot rq held after) (Ok count) × IsBoard (core_of clock slot rq held after) rq.waiting
  filed after count h =
      let m : Moment = h.3.0 in
      let step = filed-step m h.3.1 in
      let late = late-one (nat_lt (greatest_tag l.tailoring + 1) (next_tag clock l.moments + 1)) ∙ h.1 in
      let new : Core = core_of clock slot rq held (with_moments l (m ∷ l.moments)) in
      let stands = step-stands (core_of clock slot rq held l) (Filing x) new fit only b.stands (record { comes = may; room = h.0; time = late; step = step }) in
      let P : LogParts → Type 0 = λ y.
      Answers (core_of clock slot rq held l) (Filing x) (core_of clock slot rq held y) (Ok count) × IsBoard (core_of clock slot rq held y) rq.waiting in
      subst P (sym h.3.2) (
        (h.0, late, h.2, step),
        record {
          stands = stands;
          waits = waiting-still (session (core_of clock slot rq held l)) l.moments m (ap request_number h.3.1.act_is) rq.waiting b.waits;
          room = let some = h.0 in grind (arith, nat_tests);
        },
      )

  pub not-filed : (fault : BoardFault) (after : LogParts) → AnswersOne l clock (Filed x.param x.slot x.value) None after (Err fault)
      → Answers (core_of clock slot rq held l) (Filing x) (core_of clock slot rq held after) (Err fault) × (after ≡ l)
  not-filed JournalFull after h = ((h.0, ap (core_of clock slot rq held) h.1), h.1)
  not-filed TimeExhausted after h = ((h.0, late-one (nat_lt (greatest_tag l.tailoring + 1) (next_tag clock l.moments + 1)) ∙ h.1, ap (core_of clock slot rq held) h.2), h.2)
  not-filed Memory after h = (ap (core_of clock slot rq held) h, h)

  -- samples of the parameter are of earlier slots
  pub before-slot : AreFiledBefore x.param x.slot l.moments
  before-slot =
      subst (λ n. AreFiledBefore x.param n l.moments) (sym may.slot)
      (unfiled-before l.tailoring x.param slot l.moments b.stands.good.filed may.once)

  sensed : is_set l.tailoring x.param ≡ true → (state_after (session (core_of clock slot rq held l)) l.moments).value x.param ≡ Some x.value
  sensed set = absurd (true_is_not_false (sym set ∙ ap (λ o. option_map_or is_settable o false) may.known ∙ may.sensed))

  -- what is held beside the journal
  pub filing-holds : (after : LogParts) (count : ℕ) (channels : List (ℕ × Channel)) (old new : StatisticsHeld) → AnswersOne l clock (Filed x.param x.slot x.value) None after (Ok count)
      → Files x.param (sample x.slot x.value) old new → IsWhole (core_of clock slot rq held l) rq.waiting held channels old
      → IsWhole (core_of clock slot rq held after) rq.waiting held (change_channel x.param (filed_channel x.slot x.value) channels) new
  filing-holds after count channels old new h files whole =
      let s : Session = session (core_of clock slot rq held l) in
      let m : Moment = h.3.0 in
      let act = h.3.1.act_is in
      let undone : done_by s m.tag m.act ≡ None = ap (done_by s m.tag) act in
      let a : Core = core_of clock slot rq held (with_moments l (m ∷ l.moments)) in
      let dones : done_instructions (session a) a.moments ≡ done_instructions s l.moments = ap (λ o. cons_option o (done_instructions s l.moments)) undone in
      let board = (filed after count h).1 in
      let tags = (subst (λ (y : LogParts). IsBoard (core_of clock slot rq held y) rq.waiting) h.3.2 board).stands.good.timeline.0.tag in
      let whole-new : IsWhole a rq.waiting held (change_channel x.param (filed_channel x.slot x.value) channels) new =
      record {
        board = subst (λ (y : LogParts). IsBoard (core_of clock slot rq held y) rq.waiting) h.3.2 board;
        structures = same-structures (core_of clock slot rq held l) a held refl dones whole.structures;
        values = filing-values s m l.moments x.param x.slot x.value act channels sensed before-slot whole.values;
        statistics = statistics-filed s m l.moments x.param x.slot x.value old new act whole.settled (refl, refl) tags.low tags.above files whole.statistics;
        settled = settled-still s m l.moments undone;
      } in
      subst (λ (y : LogParts). IsWhole (core_of clock slot rq held y) rq.waiting held (change_channel x.param (filed_channel x.slot x.value) channels) new) (sym h.3.2) whole-new
