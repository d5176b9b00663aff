-- What is held of a board stays where no instruction is done.
use Rattle.std.proofs.Common.{◌≡◌, ℕ, refl, sym, ◌∙◌, ap, ap₂, subst, List, [], ◌∷◌, ◌++◌, length, Bool, true, false, Option, Some, None, replicate, ◌-◌}
use Rattle.std.specs.Prelude.{is_some, IfSome, if◌then◌else◌}
use Rattle.std.specs.List.{cons_option}
use Rattle.hk_base.specs.declared.types.Key.{Key}
use Rattle.hk_world.specs.Timelines.{Session, Done, request_at, done_by, done_instructions}
use Rattle.hk_world.specs.declared.moment.Moment.{Moment}
use Rattle.hk_world.specs.declared.moment.Act.{Act}
use Rattle.hk_world.specs.declared.moment.Act.TheVariants.{Accepted, TurnedAway}
use Rattle.board_steps.specs.Cores.{Core, session}
use Rattle.board_core.specs.Boards.{IsBoard, IsWhole}
use Rattle.board_state.specs.Statistics.{StatisticsHeld, AreStatistics, IsSettled}
use Rattle.board_state.specs.Values.{AreValues}
use Rattle.board_state.specs.declared.channels.Channel.{Channel}
use Rattle.board_state.proofs.ChannelLemmas.{IsNoFiling, SetsNone, is-valueless, values-still, values-agree}
use Rattle.board_state.proofs.StatisticsLemmas.{statistics-still, statistics-agree, settled-still, settled-agree}
use Rattle.board_state.specs.Holdings.{AreStructures}
use Rattle.board_steps.specs.Plans.{does, handled_as, handling, prepared, planned}
use Rattle.board_steps.specs.Steps.{AreNext, IsStep}
use Rattle.board_steps.specs.declared.event.Event.TheVariants.{Uplink, Work}
use Rattle.board_state.specs.declared.running.Running.{Running}
use Rattle.board_state.specs.declared.structures.Held.{Held}
use Rattle.board_steps.proofs.GrownLemmas.{dones-agrees, agree-all}
use Rattle.board_steps.proofs.RunLemmas.{session_by, with_packet, packet_plans}

-- one act that does no instruction leaves those that were done
silent-dones : (s : Session) (clock slot : ℕ) (earlier after : List Moment) (act : Act) → ((tag : ℕ) → done_by s tag act ≡ None)
    → AreNext s clock slot earlier (does act ∷ []) after → done_instructions s after ≡ done_instructions s earlier
silent-dones s clock slot earlier after act none h =
    let m : Moment = h.0 in
    ap (done_instructions s) h.2 ∙ ap (λ o. cons_option o (done_instructions s earlier)) (ap (done_by s m.tag) h.1.follows.0 ∙ none m.tag)

-- the same instructions, and the same structures
pub same-structures : (c after : Core) (held : List (Key × Held)) → after.tailoring ≡ c.tailoring
    → done_instructions (session after) after.moments ≡ done_instructions (session c) c.moments
    → AreStructures c.tailoring (done_instructions (session c) c.moments) held → AreStructures after.tailoring (done_instructions (session after) after.moments) held
same-structures c after held t d h =
    subst (λ x. AreStructures x (done_instructions (session after) after.moments) held) (sym t)
    (subst (λ ds. AreStructures c.tailoring ds held) (sym d) h)

-- one act that does no instruction and files nothing leaves what is held of the parameters
pub silent-values : (s : Session) (clock slot : ℕ) (earlier after : List Moment) (act : Act) (channels : List (ℕ × Channel)) → ((tag : ℕ) → done_by s tag act ≡ None)
    → IsNoFiling act → AreNext s clock slot earlier (does act ∷ []) after → AreValues s earlier channels → AreValues s after channels
silent-values s clock slot earlier after act channels none unfiled h v =
    let m : Moment = h.0 in
    let undone : done_by s m.tag m.act ≡ None = ap (done_by s m.tag) h.1.follows.0 ∙ none m.tag in
    subst (λ ms. AreValues s ms channels) (sym h.2)
    (values-still s m earlier channels
    (is-valueless s m (subst IsNoFiling (sym h.1.follows.0) unfiled) (subst (λ (o : Option Done). IfSome o (λ d. SetsNone d.instruction)) (sym undone) tt)) v)

-- so it does with what is held of the statistics
pub silent-statistics : (s : Session) (clock slot : ℕ) (earlier after : List Moment) (act : Act) (x : StatisticsHeld) → ((tag : ℕ) → done_by s tag act ≡ None)
    → IsNoFiling act → AreNext s clock slot earlier (does act ∷ []) after → IsSettled s earlier → AreStatistics s earlier x → AreStatistics s after x × IsSettled s after
silent-statistics s clock slot earlier after act x none unfiled h settled v =
    let m : Moment = h.0 in
    let undone : done_by s m.tag m.act ≡ None = ap (done_by s m.tag) h.1.follows.0 ∙ none m.tag in
    subst (λ ms. AreStatistics s ms x × IsSettled s ms) (sym h.2)
    (statistics-still s m earlier x undone (subst IsNoFiling (sym h.1.follows.0) unfiled) settled v, settled-still s m earlier undone)

-- a step of a request that does no instruction
pub work-holds : (c after : Core) (waiting ws : List Running) (held : List (Key × Held)) (channels : List (ℕ × Channel)) (statistics : StatisticsHeld) (act : Act) → planned c Work ≡ does act ∷ []
    → ((tag : ℕ) → done_by (session c) tag act ≡ None) → IsNoFiling act
    → IsStep c Work after → IsBoard after ws → IsWhole c waiting held channels statistics → IsWhole after ws held channels statistics
work-holds c after waiting ws held channels statistics act plans none unfiled step board h =
    let next = subst (λ xs. AreNext (session c) c.clock c.slot_now c.moments xs after.moments) plans step.moments in
    let same : session after ≡ session c = ap₂ session_by step.tailoring step.requests in
    let dones = ap (λ s. done_instructions s after.moments) same ∙ silent-dones (session c) c.clock c.slot_now c.moments after.moments act none next in
    let told = silent-statistics (session c) c.clock c.slot_now c.moments after.moments act statistics none unfiled next h.settled h.statistics in
    record {
      board = board;
      structures = same-structures c after held step.tailoring dones h.structures;
      values = subst (λ s. AreValues s after.moments channels) (sym same)
          (silent-values (session c) c.clock c.slot_now c.moments after.moments act channels none unfiled next h.values);
      statistics = subst (λ s. AreStatistics s after.moments statistics) (sym same) told.0;
      settled = subst (λ s. IsSettled s after.moments) (sym same) told.1;
    }

handling-silent : (s : Session) (k tag : ℕ) → done_by s tag (handling s k) ≡ None
handling-silent s k tag = go (is_some (request_at s k))
  where
    go : (b : Bool) → done_by s tag (if b then Accepted k else TurnedAway k) ≡ None
    go true = refl
    go false = refl

handling-unfiled : (s : Session) (k : ℕ) → IsNoFiling (handling s k)
handling-unfiled s k = go (is_some (request_at s k))
  where
    go : (b : Bool) → IsNoFiling (if b then Accepted k else TurnedAway k)
    go true = tt
    go false = tt

-- a step that handles a packet
pub uplink-holds : (c after : Core) (packet : List ℕ) (k : ℕ) (waiting ws : List Running) (held : List (Key × Held)) (channels : List (ℕ × Channel)) (statistics : StatisticsHeld) → handled_as c packet ≡ Some k
    → IsStep c (Uplink packet) after → IsBoard after ws → IsWhole c waiting held channels statistics → IsWhole after ws held channels statistics
uplink-holds c after packet k waiting ws held channels statistics e step board h =
    let p : Core = with_packet c packet (Some k) in
    let core-is : prepared c (Uplink packet) ≡ p = ap (with_packet c packet) e in
    let plans : planned c (Uplink packet) ≡ does (handling (session p) k) ∷ [] = ap (packet_plans c packet) e in
    let more : List (List ℕ) = replicate (k - length c.requests) [] ++ packet ∷ [] in
    let a = subst (λ (x : Core). AreNext (session x) x.clock c.slot_now c.moments (planned c (Uplink packet)) after.moments) core-is step.moments in
    let next = subst (λ xs. AreNext (session p) p.clock c.slot_now c.moments xs after.moments) plans a in
    let requests : after.requests ≡ p.requests = step.requests ∙ ap (λ (x : Core). x.requests) core-is in
    let same : session after ≡ session p = ap₂ session_by step.tailoring requests in
    let agree = agree-all c.requests more c.moments h.board.stands.good.below in
    let grow : done_instructions (session p) c.moments ≡ done_instructions (session c) c.moments =
    sym (dones-agrees (session c) (c.requests ++ more) c.moments agree) in
    let dones = ap (λ s. done_instructions s after.moments) same
    ∙ silent-dones (session p) p.clock c.slot_now c.moments after.moments (handling (session p) k) (handling-silent (session p) k) next ∙ grow in
    let values : AreValues (session p) c.moments channels = values-agree (session c) (c.requests ++ more) c.moments channels agree h.values in
    let told = silent-statistics (session p) p.clock c.slot_now c.moments after.moments (handling (session p) k) statistics (handling-silent (session p) k) (handling-unfiled (session p) k) next
    (settled-agree (session c) (c.requests ++ more) c.moments agree h.settled) (statistics-agree (session c) (c.requests ++ more) c.moments statistics agree h.statistics) in
    record {
      board = board;
      structures = same-structures c after held step.tailoring dones h.structures;
      values = subst (λ s. AreValues s after.moments channels) (sym same)
          (silent-values (session p) p.clock c.slot_now c.moments after.moments (handling (session p) k) channels (handling-silent (session p) k)
          (handling-unfiled (session p) k) next values);
      statistics = subst (λ s. AreStatistics s after.moments statistics) (sym same) told.0;
      settled = subst (λ s. IsSettled s after.moments) (sym same) told.1;
    }
