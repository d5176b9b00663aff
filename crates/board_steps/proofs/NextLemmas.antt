-- One moment more: an act, or a report that isn't a verification report.
use Rattle.std.proofs.Common.{arith, ◌≡◌, ℕ, ◌+◌, ◌-◌, ◌≤◌, refl, sym, subst, List, ◌∷◌, length, Some}
use Rattle.std.specs.Prelude.{⊤, IfSome}
use Rattle.std.specs.List.{AllZip}
use Rattle.hk_base.specs.Fit.{greatest_tag, slot_of}
use Rattle.hk_base.specs.Payload.{places}
use Rattle.hk_base.specs.declared.types.Structure.{Structure}
use Rattle.pus_messages.specs.declared.message.ReportBody.{ReportBody}
use Rattle.hk_world.specs.Timelines.{Session, tailoring, request_number, state_after}
use Rattle.hk_world.specs.Legal.{HandlesNext, IsInOrder, TellsOutcome, FilesSample}
use Rattle.hk_world.specs.Honest.{Carries, IsHonestBody, IsFiled}
use Rattle.hk_world.specs.declared.moment.Moment.{Moment}
use Rattle.hk_world.specs.declared.moment.Act.{Act}
use Rattle.hk_world.specs.declared.moment.Act.TheVariants.{Emitted}
use Rattle.board_steps.specs.Cores.{next_tag}
use Rattle.board_steps.specs.Plans.{Topic, samples_of, structure_of, properties_of, statistics, definitions, values_of, does, tells}
use Rattle.board_steps.specs.Steps.{IsAbout, IsNext}
use Rattle.board_steps.proofs.GrownLemmas.{IsBelow}
use Rattle.board_steps.proofs.TimeLemmas.{IsGood, IsFiledBy, good-more, tag-rises}

-- an act may come after some moments, its tag and its packet aside
pub record MayDo (s : Session) (slot : ℕ) (earlier : List Moment) (act : Act) : Type 0 where
  pub handling : HandlesNext s earlier act
  pub order : IfSome (request_number act) (IsInOrder s earlier act)
  pub outcome : TellsOutcome s earlier act
  pub sample : FilesSample s earlier act
  pub below : IsBelow (length s.requests) act
  pub filed : IsFiledBy (tailoring s) slot act

pub does-next : (s : Session) (clock slot room : ℕ) (earlier : List Moment) (act : Act) (m : Moment) → IsGood s room earlier → IsNext s clock slot earlier (does act) m
    → next_tag clock earlier ≤ greatest_tag (tailoring s) → MayDo s room earlier act → IsGood s room (m ∷ earlier)
does-next s clock slot room earlier act m g n time may =
    let same : act ≡ m.act = sym n.follows.0 in
    good-more s room earlier m g
    (record {
      tag = tag-rises s clock earlier m g.timeline n.tag (subst (λ x. x ≤ greatest_tag (tailoring s)) (sym n.tag) time);
      handling = subst (HandlesNext s earlier) same may.handling;
      order = subst (λ a. IfSome (request_number a) (IsInOrder s earlier a)) same may.order;
      outcome = subst (TellsOutcome s earlier) same may.outcome;
      sample = subst (FilesSample s earlier) same may.sample;
      packet = subst (Carries s earlier m) same n.follows.1;
    })
    (subst (IsBelow (length s.requests)) same may.below) (subst (IsFiledBy (tailoring s) room) same may.filed)

-- a parameter report comes in the slot after the one that runs, which has as many slots before it as the interval
abbrev pub IsTimely : Session → ℕ → List Moment → ℕ → Topic → Type 0
IsTimely s slot earlier tag (samples_of key) =
    (slot_of (tailoring s) tag ≡ slot + 1) × ((x : Structure) → (state_after s earlier).structure key ≡ Some x → x.def.interval ≤ slot + 1)
IsTimely s slot earlier tag _ = ⊤

-- a report on a topic is honest
about-honest : (s : Session) (slot : ℕ) (earlier : List Moment) (tag : ℕ) (topic : Topic) (body : ReportBody) → IsTimely s slot earlier tag topic
    → IsAbout s slot earlier tag topic body → IsHonestBody s earlier tag body
about-honest s slot earlier tag (samples_of key) body timely h =
    let last : slot ≡ slot_of (tailoring s) tag - 1 = omega (arith, timely.0) in
    let x : Structure = h.2.structure in
    subst (IsHonestBody s earlier tag) (sym h.1)
    (record {
      structure = x;
      values = h.2.values;
      is_there = h.2.is_there;
      interval = subst (λ n. x.def.interval ≤ n) (sym timely.0) (timely.1 x h.2.is_there);
      samples = subst (λ n. AllZip (IsFiled earlier) (places x.def n) h.2.values) last h.2.samples;
      payload_is = h.2.payload_is;
    })
about-honest s slot earlier tag (structure_of key) body timely h = subst (IsHonestBody s earlier tag) (sym h.1) h.2
about-honest s slot earlier tag (properties_of key) body timely h =
    subst (IsHonestBody s earlier tag) (sym h.1) ((h.0, h.2, refl, refl), tt)
about-honest s slot earlier tag statistics body timely h = subst (IsHonestBody s earlier tag) (sym h.1) h.2
about-honest s slot earlier tag definitions body timely h = subst (IsHonestBody s earlier tag) (sym h) (refl, refl, refl)
about-honest s slot earlier tag (values_of ids) body timely h = subst (IsHonestBody s earlier tag) (sym h.1) h.3

pub tells-next : (s : Session) (clock slot room : ℕ) (earlier : List Moment) (topic : Topic) (m : Moment) → IsGood s room earlier → IsNext s clock slot earlier (tells topic) m
    → next_tag clock earlier ≤ greatest_tag (tailoring s) → IsTimely s slot earlier m.tag topic → IsGood s room (m ∷ earlier)
tells-next s clock slot room earlier topic m g n time timely =
    let same : Emitted ≡ m.act = sym n.follows.0 in
    good-more s room earlier m g
    (record {
      tag = tag-rises s clock earlier m g.timeline n.tag (subst (λ x. x ≤ greatest_tag (tailoring s)) (sym n.tag) time);
      handling = subst (HandlesNext s earlier) same tt;
      order = subst (λ a. IfSome (request_number a) (IsInOrder s earlier a)) same tt;
      outcome = subst (TellsOutcome s earlier) same tt;
      sample = subst (FilesSample s earlier) same tt;
      packet = subst (Carries s earlier m) same
          (n.follows.1.0, n.follows.1.1, about-honest s slot earlier m.tag topic n.follows.1.0 timely n.follows.1.2);
    })
    (subst (IsBelow (length s.requests)) same tt) (subst (IsFiledBy (tailoring s) room) same tt)
