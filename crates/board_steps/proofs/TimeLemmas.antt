-- The tags of a timeline, and one moment more.
use Rattle.std.proofs.Common.{arith, ◌≡◌, ℕ, ◌+◌, ◌<◌, ◌≤◌, List, [], ◌∷◌, length}
use Rattle.std.specs.List.{AllByRecursion}
use Rattle.hk_base.specs.Fit.{greatest_tag}
use Rattle.hk_base.specs.TailoringParts.{TailoringParts}
use Rattle.hk_world.specs.Timelines.{EachAfter, Session, tailoring}
use Rattle.hk_world.specs.Legal.{TagRises, IsLegal}
use Rattle.hk_world.specs.Honest.{IsHonest}
use Rattle.hk_world.specs.Worlds.{MayHappen}
pub use Rattle.board_steps.specs.Timeline.{IsFiledBy, AreFiledBy, IsGood}
use Rattle.hk_world.specs.declared.moment.Moment.{Moment}
use Rattle.hk_world.specs.declared.moment.Act.{Act}
use Rattle.hk_world.specs.declared.moment.Act.TheVariants.{Filed}
use Rattle.board_steps.specs.Cores.{last_tag, next_tag}
use Rattle.board_steps.proofs.GrownLemmas.{IsBelow}

pub all-mapped : {X : Type 0} (P Q : X → Type 0) → ((x : X) → P x → Q x) → (xs : List X) → AllByRecursion P xs → AllByRecursion Q xs
all-mapped P Q f [] h = tt
all-mapped P Q f (x ∷ xs) h = (f x h.0, all-mapped P Q f xs h.1)

-- no tag is above that of the newest moment
tags-below : (s : Session) (moments : List Moment) → EachAfter (MayHappen s) moments → AllByRecursion (λ e. e.tag ≤ last_tag moments) moments
tags-below s [] h = tt
tags-below s (m ∷ earlier) h =
    (omega arith, all-mapped (λ (e : Moment). e.tag < m.tag) (λ e. e.tag ≤ m.tag) (λ e lt. omega (arith, lt)) earlier h.0.tag.above)

-- the next tag is above all
pub tag-rises : (s : Session) (clock : ℕ) (earlier : List Moment) (m : Moment) → EachAfter (MayHappen s) earlier → m.tag ≡ next_tag clock earlier
    → m.tag ≤ greatest_tag (tailoring s) → TagRises s earlier m
tag-rises s clock earlier m h e fit =
    record {
      low = omega (arith, e);
      high = fit;
      above = all-mapped (λ (x : Moment). x.tag ≤ last_tag earlier) (λ x. x.tag < m.tag) (λ x le. omega (arith, le, e)) earlier (tags-below s earlier h);
    }

-- the tag after the next one
pub next-tag-more : (clock : ℕ) (earlier : List Moment) (m : Moment) → m.tag ≡ next_tag clock earlier → next_tag clock (m ∷ earlier) ≡ next_tag clock earlier + 1
next-tag-more clock earlier m e = omega (arith, e)

filed-later : (t : TailoringParts) (slot : ℕ) (act : Act) → IsFiledBy t slot act → IsFiledBy t (slot + 1) act
filed-later t slot (Filed id x value) h = (omega (arith, h.0), λ e. omega (arith, h.1 e))
filed-later t slot act h = tt

pub are-filed-later : (t : TailoringParts) (slot : ℕ) (moments : List Moment) → AreFiledBy t slot moments → AreFiledBy t (slot + 1) moments
are-filed-later t slot moments h =
    all-mapped (λ (m : Moment). IsFiledBy t slot m.act) (λ m. IsFiledBy t (slot + 1) m.act) (λ m k. filed-later t slot m.act k) moments h

pub good-more : (s : Session) (slot : ℕ) (earlier : List Moment) (m : Moment) → IsGood s slot earlier → MayHappen s earlier m → IsBelow (length s.requests) m.act
    → IsFiledBy (tailoring s) slot m.act → IsGood s slot (m ∷ earlier)
good-more s slot earlier m g h b f = record { timeline = (h, g.timeline); below = (b, g.below); filed = (f, g.filed) }

pub timeline-legal : (s : Session) (moments : List Moment) → EachAfter (MayHappen s) moments → IsLegal s moments
timeline-legal s [] h = record { tags = tt; handling = tt; order = tt; outcomes = tt; samples = tt }
timeline-legal s (m ∷ earlier) h =
    let before = timeline-legal s earlier h.1 in
    record {
      tags = (h.0.tag, before.tags);
      handling = (h.0.handling, before.handling);
      order = (h.0.order, before.order);
      outcomes = (h.0.outcome, before.outcomes);
      samples = (h.0.sample, before.samples);
    }

pub timeline-honest : (s : Session) (moments : List Moment) → EachAfter (MayHappen s) moments → IsHonest s moments
timeline-honest s [] h = tt
timeline-honest s (m ∷ earlier) h = (h.0.packet, timeline-honest s earlier h.1)
