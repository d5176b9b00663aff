-- The request that is worked on is the first that waits.
use Rattle.std.proofs.Common.{arith, ◌≡◌, ℕ, zero, suc, ◌+◌, ◌<◌, ◌≤◌, refl, sym, ◌∙◌, ap, ap₂, subst, List, [], ◌∷◌, ◌++◌, length, map, reverse, cond, Bool, true, false, ◌==◌, ◌&&◌, ◌||◌, Option, Some, None, ◌⊎◌, inl, inr}
use Rattle.std.specs.Prelude.{IsTrue, nat_lt, filter_map, find}
use Rattle.std.specs.List.{AllByRecursion, list_any, range_with_len, cons_option}
use Rattle.std.specs.Option.{option_map_or}
use Rattle.std.proofs.lemmas.Bool.{cases_order, eq-eqb, ne_eqb}
use Rattle.std.proofs.lemmas.Bool.Decides.{Decides-eqb}
use Rattle.hk_base.specs.Fit.{greatest_tag}
use Rattle.hk_base.specs.declared.types.Key.{Key}
use Rattle.pus_messages.specs.declared.message.ReportBody.{ReportBody}
use Rattle.hk_world.specs.Timelines.{Session, Done, request_number, is_act_of, last_act, done_by}
use Rattle.hk_world.specs.Legal.{is_pending, refused_number}
use Rattle.hk_world.specs.Honest.{Carries}
use Rattle.hk_world.specs.declared.moment.Moment.{Moment}
use Rattle.hk_world.specs.declared.moment.Act.{Act}
use Rattle.hk_world.proofs.OrderLemmas.{true_is_not_false, last_act-other}
use Rattle.hk_world.proofs.RequestLemmas.{is_act_of-other, last_act-own}
use Rattle.board_steps.specs.Cores.{Core, session, next_tag}
use Rattle.board_core.specs.Logs.{LogParts, IsAdded, with_moments}
use Rattle.board_core.specs.Logs as logs
use Rattle.board_steps.specs.Plans.{Plan, does, tells, worked_request, worked_acts, worked_done, done_of, topics_of, next_acts, one_shot_by, planned}
use Rattle.board_steps.specs.Steps.{IsStep, AreNext, IsNext}
use Rattle.board_steps.specs.Steps as steps
use Rattle.board_core.specs.Boards.{core_of}
use Rattle.board_state.specs.Waiting.{RequestsHeld, IsRunning, IsStage, AreWaiting}
use Rattle.board_state.specs.declared.running.Running.{Running}
use Rattle.board_state.specs.declared.structures.Held.{Held}
use Rattle.board_steps.specs.declared.event.Event.TheVariants.{Work}
use Rattle.board_steps.proofs.RunLemmas.{acts_of}
use Rattle.board_core.proofs.UplinkLemmas.{next-header, or-false}

-- the first number that passes a test, where none before it does
find-first : (f : ℕ → Bool) (a n k : ℕ) → a ≤ k → k < a + n → f k ≡ true → ((j : ℕ) → a ≤ j → j < k → f j ≡ false) → find f (range_with_len a n) ≡ Some k
find-first f a zero k low high e before = absurd (omega (arith, low, high))
find-first f a (suc n) k low high e before = go (cases_order a k) (λ below. find-first f (a + 1) n k below (omega (arith, high)) e (λ j l h. before j (omega (arith, l)) h))
  where
    go : (a ≡ k) ⊎ ((a < k) ⊎ (k < a)) → (a + 1 ≤ k → find f (range_with_len (a + 1) n) ≡ Some k) → find f (range_with_len a (suc n)) ≡ Some k
    go (inl same) ih = ap (λ b. cond b (Some a) (find f (range_with_len (a + 1) n))) (ap f same ∙ e) ∙ ap Some same
    go (inr (inl lt)) ih = ap (λ b. cond b (Some a) (find f (range_with_len (a + 1) n))) (before a (omega arith) lt) ∙ ih (omega (arith, lt))
    go (inr (inr gt)) ih = absurd (omega (arith, gt, low))

-- no number passes a test
find-none : (f : ℕ → Bool) (a n : ℕ) → ((j : ℕ) → f j ≡ false) → find f (range_with_len a n) ≡ None
find-none f a zero h = refl
find-none f a (suc n) h = ap (λ b. cond b (Some a) (find f (range_with_len (a + 1) n))) (h a) ∙ find-none f (a + 1) n h

-- a request that waits is pending
pub stage-pending : (k : ℕ) (started : Bool) (executed : ℕ) (o : Option Act) → IsStage k started executed o → is_pending o ≡ true
stage-pending k false executed o h = ap is_pending h.1
stage-pending k true zero o h = ap is_pending h
stage-pending k true (suc n) o h = ap is_pending h.1

none-below : (j : ℕ) (ws : List Running) → AllByRecursion (λ w. j < w.number) ws → list_any (λ w. w.number == j) ws ≡ false
none-below j [] h = refl
none-below j (w ∷ ws) h = ap₂ (λ a b. a || b) (ne_eqb w.number j (λ e. let lt = h.0 in absurd (omega (arith, e, lt)))) (none-below j ws h.1)

below-all : (j k : ℕ) (ws : List Running) → j < k → AllByRecursion (λ w. k < w.number) ws → AllByRecursion (λ w. j < w.number) ws
below-all j k [] lt h = tt
below-all j k (w ∷ ws) lt h = (let gt = h.0 in omega (arith, gt, lt), below-all j k ws lt h.1)

not-pending : (b : Bool) → (b ≡ true → ⊥) → b ≡ false
not-pending false h = refl
not-pending true h = absurd (h refl)

-- the request that is worked on is the first that waits
pub worked-first : (c : Core) (w : Running) (ws : List Running) → AreWaiting (session c) c.moments (w ∷ ws) → worked_request c ≡ Some w.number
worked-first c w ws h =
    find-first (λ k. is_pending (last_act k c.moments)) 0 (length c.requests) w.number (omega arith) (let lt = h.each.0.known in omega (arith, lt))
    (stage-pending w.number w.started w.executed (last_act w.number c.moments) h.each.0.stage)
    (λ j low lt. not-pending (is_pending (last_act j c.moments))
    (λ p. true_is_not_false (sym (h.all j p) ∙ none-below j (w ∷ ws) (lt, below-all j w.number ws lt h.order.0))))

-- nothing is worked on where nothing waits
pub worked-none : (c : Core) → AreWaiting (session c) c.moments [] → worked_request c ≡ None
worked-none c h = find-none (λ k. is_pending (last_act k c.moments)) 0 (length c.requests) (λ j. not-pending (is_pending (last_act j c.moments)) (λ p. true_is_not_false (sym (h.all j p))))

-- the moments of other requests leave what is known of a request
module _ (s : Session) (moments : List Moment) (m : Moment) (k : ℕ) (own : is_act_of k m.act ≡ true) (number : request_number m.act ≡ Some k) (quiet : (j : ℕ) → refused_number j m.act ≡ None) where
  still-running : (w : Running) → (k ≡ w.number → ⊥) → IsRunning s moments w → IsRunning s (m ∷ moments) w
  still-running w other h =
      record {
        known = h.known;
        request = h.request;
        id = h.id;
        stage = subst (IsStage w.number w.started w.executed) (sym (last_act-other w.number m moments (is_act_of-other w.number k m.act number other))) h.stage;
        within = h.within;
        refused = h.refused ∙ ap (λ o. reverse (cons_option o (filter_map (λ x. refused_number w.number x.act) moments))) (sym (quiet w.number));
        rises = h.rises;
      }

  all-still : (ws : List Running) → AllByRecursion (λ w. k < w.number) ws → AllByRecursion (IsRunning s moments) ws → AllByRecursion (IsRunning s (m ∷ moments)) ws
  all-still [] above h = tt
  all-still (w ∷ ws) above h = (still-running w (λ e. let lt = above.0 in absurd (omega (arith, e, lt))) h.0, all-still ws above.1 h.1)

  -- the first request has ended
  pub waiting-ended : (w : Running) (ws : List Running) → w.number ≡ k → is_pending (Some m.act) ≡ false → AreWaiting s moments (w ∷ ws) → AreWaiting s (m ∷ moments) ws
  waiting-ended w ws e ended h =
      record {
        each = all-still ws (subst (λ n. AllByRecursion (λ x. n < x.number) ws) e h.order.0) h.each.1;
        order = h.order.1;
        all = λ j p. go j (k == j) refl p;
      }
    where
      go : (j : ℕ) (b : Bool) → (k == j) ≡ b → is_pending (last_act j (m ∷ moments)) ≡ true → IsTrue (list_any (λ x. x.number == j) ws)
      go j true q p =
          let same : k ≡ j = (Decides-eqb k j).0 q in
          absurd (true_is_not_false (sym p ∙ ap (λ n. is_pending (last_act n (m ∷ moments))) (sym same) ∙ ap is_pending (last_act-own k m moments own) ∙ ended))
      go j false q p =
          let other : is_act_of j m.act ≡ false = is_act_of-other j k m.act number (λ same. true_is_not_false (sym (eq-eqb k j same) ∙ q)) in
          let old = h.all j (sym (ap is_pending (last_act-other j m moments other)) ∙ p) in
          sym (ap (λ b. b || list_any (λ x. x.number == j) ws) (ap (λ n. n == j) e ∙ q)) ∙ old

  -- the first request goes on
  pub waiting-on : (w v : Running) (ws : List Running) → w.number ≡ k → v.number ≡ k → IsRunning s (m ∷ moments) v → AreWaiting s moments (w ∷ ws) → AreWaiting s (m ∷ moments) (v ∷ ws)
  waiting-on w v ws e f now h =
      let above = subst (λ n. AllByRecursion (λ x. n < x.number) ws) e h.order.0 in
      record {
        each = (now, all-still ws above h.each.1);
        order = (subst (λ n. AllByRecursion (λ x. n < x.number) ws) (sym f) above, h.order.1);
        all = λ j p. go j (k == j) refl p;
      }
    where
      go : (j : ℕ) (b : Bool) → (k == j) ≡ b → is_pending (last_act j (m ∷ moments)) ≡ true → IsTrue (list_any (λ x. x.number == j) (v ∷ ws))
      go j true q p = ap (λ b. b || list_any (λ x. x.number == j) ws) (ap (λ n. n == j) f ∙ q)
      go j false q p =
          let other : is_act_of j m.act ≡ false = is_act_of-other j k m.act number (λ same. true_is_not_false (sym (eq-eqb k j same) ∙ q)) in
          let old = h.all j (sym (ap is_pending (last_act-other j m moments other)) ∙ p) in
          sym (ap (λ n. (n == j) || list_any (λ x. x.number == j) ws) (e ∙ sym f)) ∙ old

-- one act of the request that is worked on
module _ (clock slot : ℕ) (rq : RequestsHeld) (held : List (Key × Held)) (l : LogParts) (k : ℕ) (act : Act) (first : worked_request (core_of clock slot rq held l) ≡ Some k)
    (acts : next_acts (session (core_of clock slot rq held l)) l.moments k (last_act k l.moments) ≡ act ∷ []) (nothing : (tag : ℕ) → done_by (session (core_of clock slot rq held l)) tag act ≡ None) where
  worked-are : worked_acts (core_of clock slot rq held l) ≡ act ∷ []
  worked-are = ap (acts_of (core_of clock slot rq held l)) first ∙ acts

  done-none : worked_done (core_of clock slot rq held l) ≡ []
  done-none =
      ap (done_of (session (core_of clock slot rq held l)) (next_tag clock l.moments)) worked-are
      ∙ ap (λ o. option_map_or (λ d. d ∷ []) o []) (nothing (next_tag clock l.moments))

  pub work-planned : planned (core_of clock slot rq held l) Work ≡ does act ∷ []
  work-planned = ap₂ (λ (xs : List Act) (ds : List Done). map does xs ++ map tells (topics_of ds)) worked-are done-none

  pub work-full : steps.is_full (core_of clock slot rq held l) Work ≡ logs.is_full l 1
  work-full = ap (λ (xs : List Plan). nat_lt 1048576 (length l.moments + length xs)) work-planned

  pub work-late : steps.is_late (core_of clock slot rq held l) Work ≡ logs.is_late l clock 1
  work-late =
      ap (λ (xs : List Plan). (nat_lt 0 (length xs) && nat_lt (greatest_tag l.tailoring + 1) (next_tag clock l.moments + length xs)) || (false && nat_lt (greatest_tag l.tailoring) clock)) work-planned
      ∙ or-false (nat_lt 0 1 && nat_lt (greatest_tag l.tailoring + 1) (next_tag clock l.moments + 1))

  -- the step of one act
  pub work-step : (ws : List Running) (body : Option ReportBody) (m : Moment) → IsAdded l.tailoring clock l.moments act body m → Carries (session (core_of clock slot rq held l)) l.moments m act
      → IsStep (core_of clock slot rq held l) Work (core_of clock slot (record { packets = rq.packets; waiting = ws }) held (with_moments l (m ∷ l.moments)))
  work-step ws body m added carries =
      record {
        tailoring = refl;
        clock = refl;
        requests = refl;
        slot_now = refl;
        one_shots = λ key. sym (ap (one_shot_by (core_of clock slot rq held l) key) done-none);
        moments = subst (λ xs. AreNext (session (core_of clock slot rq held l)) clock slot l.moments xs (m ∷ l.moments)) (sym work-planned)
            (m, record { tag = added.tag; follows = (added.act_is, carries); header = next-header l.tailoring l.moments m body added.packet; octets = added.octets }, refl);
      }
