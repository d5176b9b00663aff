-- What a change of the statistics that is carried out leaves.
use Rattle.std.proofs.Common.{arith, ◌≡◌, ℕ, suc, ◌<◌, ◌≤◌, ◌+◌, refl, sym, ◌∙◌, ap, ap₂, subst, List, [], ◌∷◌, length, map, Bool, true, false, ◌==◌, nat_lt, Some, None}
use Rattle.std.specs.Prelude.{IfSome, MatchBool, if◌then◌else◌}
use Rattle.std.specs.List.{AllByRecursion, AllZip, list_any}
use Rattle.std.specs.Option.{option_map_or}
use Rattle.std.proofs.lemmas.Bool.Decides.{nat_tests}
use Rattle.hk_base.specs.Fit.{slot_of, greatest_tag}
use Rattle.st04_grammar.specs.Instructions as st04
use Rattle.st04_grammar.specs.declared.bodies.Report04.TheVariants as told
use Rattle.pus_packet.specs.declared.header.TmHeader.{TmHeader}
use Rattle.pus_messages.specs.Instructions.{on_statistics}
use Rattle.pus_messages.specs.Protocol.{readable}
use Rattle.pus_messages.specs.declared.message.ReportBody.{ReportBody}
use Rattle.pus_messages.specs.declared.message.ReportBody.TheVariants.{Stat}
use Rattle.report_structures.specs.declared.refusal.Refusal.TheVariants.{Absent, TooMany}
use Rattle.hk_world.specs.States.{refusal}
use Rattle.hk_world.specs.Timelines.{EachAfter, Session, Done, tailoring, done_by, done_at, is_statistics_packet, is_resetting_report, newest_did, state_after}
use Rattle.hk_world.specs.Worlds.{MayHappen}
use Rattle.hk_world.specs.declared.moment.Moment.{Moment}
use Rattle.hk_world.specs.declared.moment.Act.{Act}
use Rattle.hk_world.specs.declared.moment.Act.TheVariants.{Executed, Emitted}
use Rattle.board_steps.specs.Cores.{last_tag, next_tag}
use Rattle.board_steps.specs.Plans.{does, tells, statistics, definitions}
use Rattle.board_steps.specs.Steps.{AreNext}
use Rattle.board_steps.proofs.TimeLemmas.{tag-rises}
use Rattle.board_state.specs.OneByOne.{statistics_change_of}
use Rattle.board_state.specs.Statistics.{StatisticsHeld, AreStatistics, IsSettled, Resets, Changes}
use Rattle.board_state.specs.declared.members.Member.{Member}
use Rattle.board_state.specs.declared.instruction.StatisticsChange.{StatisticsChange}
use Rattle.board_state.specs.declared.instruction.StatisticsChange.TheVariants as change
use Rattle.board_state.proofs.ChannelLemmas.{IsNoFiling}
use Rattle.board_state.proofs.MemberLemmas.{StartsEmpty}
use Rattle.board_state.proofs.StatisticsLemmas.{did, member-alike, statistics-still, statistics-left, settled-still, settled-done, statistics-reset, statistics-restarted, statistics-enabled, statistics-disabled, statistics-added, statistics-deleted, statistics-emptied}
use Rattle.board_core.specs.Causes.{IsSmallRefusal}
use Rattle.board_core.specs.Effects.{IsStatisticsOfGrammar, statistics_topics}
use Rattle.board_core.specs.Reporting.{is_held, refusal_held}

zip-length : {A B : Type 0} (P : A → B → Type 0) (xs : List A) (ys : List B) → AllZip P xs ys → length xs ≡ length ys
zip-length P [] [] h = refl
zip-length P [] (y ∷ ys) h = absurd h
zip-length P (x ∷ xs) [] h = absurd h
zip-length P (x ∷ xs) (y ∷ ys) h = ap suc (zip-length P xs ys h.1)

-- the refusal is that of what is held
pub refusal-alike : (s : Session) (moments : List Moment) (x : StatisticsHeld) (made : st04.StatisticsChange) → AreStatistics s moments x
    → refusal (tailoring s) (state_after s moments) (on_statistics made) ≡ refusal_held x.members made
refusal-alike s moments x (st04.add id) h =
    ap₂ (λ b n. if b then None else if nat_lt n 255 then None else Some (TooMany 256)) (member-alike s moments x id h)
    (zip-length _ (state_after s moments).statistics.members x.members h.members)
refusal-alike s moments x (st04.delete id) h = ap (λ b. if b then None else Some Absent) (member-alike s moments x id h)
refusal-alike s moments x (st04.report resets) h = refl
refusal-alike s moments x st04.reset h = refl
refusal-alike s moments x (st04.enable n) h = refl
refusal-alike s moments x st04.disable h = refl
refusal-alike s moments x st04.delete_all h = refl
refusal-alike s moments x st04.show_definitions h = refl

-- the numbers of a refusal have room in a cause
pub held-small : (members : List Member) (made : st04.StatisticsChange) → IfSome (refusal_held members made) IsSmallRefusal
held-small members (st04.add id) = go (is_held id members) (nat_lt (length members) 255)
  where
    go : (a b : Bool) → IfSome (if a then None else if b then None else Some (TooMany 256)) IsSmallRefusal
    go true b = tt
    go false true = tt
    go false false = tt
held-small members (st04.delete id) = go (is_held id members)
  where
    go : (a : Bool) → IfSome (if a then None else Some Absent) IsSmallRefusal
    go true = tt
    go false = tt
held-small members (st04.report resets) = tt
held-small members st04.reset = tt
held-small members (st04.enable n) = tt
held-small members st04.disable = tt
held-small members st04.delete_all = tt
held-small members st04.show_definitions = tt

-- a parameter that is added where none is refused has room
added-room : (members : List Member) (id : ℕ) → refusal_held members (st04.add id) ≡ None → list_any (λ m. m.param == id) members ≡ false → length members < 255
added-room members id e f = go (nat_lt (length members) 255) refl (sym (ap (λ b. if b then None else if nat_lt (length members) 255 then None else Some (TooMany 256)) f) ∙ e)
  where
    go : (b : Bool) → nat_lt (length members) 255 ≡ b → (if b then None else Some (TooMany 256)) ≡ None → length members < 255
    go true q k = grind (arith, nat_tests)
    go false q k = let no : ⊥ = cc in absurd no

-- tags below one number are below a greater one
tags-later : (a b : ℕ) → a < b → (moments : List Moment) → AllByRecursion (λ m. m.tag < a) moments → AllByRecursion (λ m. m.tag < b) moments
tags-later a b lt [] h = tt
tags-later a b lt (m ∷ ms) h = (omega (arith, lt, h.0), tags-later a b lt ms h.1)

-- a report on the statistics has a packet of its type
statistics-packet : (s : Session) (m : Moment) (body : ReportBody) (r : _) → body ≡ Stat (told.Statistics r) → (h : TmHeader) → s.protocol.reception m.packet ≡ readable (record { header = h; body = body })
    → is_statistics_packet (s.protocol.reception m.packet) ≡ true
statistics-packet s m body r is h e = ap is_statistics_packet (e ∙ ap (λ b. readable (record { header = h; body = b })) is)

-- what is carried out, and what is known then
pub record IsCarried (s : Session) (clock slot k number : ℕ) (moments after : List Moment) (made : StatisticsChange) (last : ℕ) (old new : StatisticsHeld) : Type 0 where
  pub next : AreNext s clock slot moments (does (Executed k number true) ∷ map tells (statistics_topics made)) after
  pub done : done_at s next.0 ≡ Some (did next.0 k (on_statistics (statistics_change_of made)))
  pub last_is : last ≡ last_tag after
  pub fit : last ≤ greatest_tag (tailoring s)
  pub timeline : EachAfter (MayHappen s) moments
  pub empty : StartsEmpty s.initial
  pub settled : IsSettled s moments
  pub grammar : IsStatisticsOfGrammar (tailoring s) (statistics_change_of made)
  pub wide : 1 ≤ (tailoring s).widths.count_octets
  pub allowed : refusal_held old.members (statistics_change_of made) ≡ None
  pub changes : Changes (statistics_change_of made) last (slot_of (tailoring s) (next_tag clock moments) + 1) old new
  pub before : AreStatistics s moments old

-- what is held after it
abbrev pub Holds : Session → List Moment → StatisticsHeld → Type 0
Holds s after new = AreStatistics s after new × IsSettled s after

-- what is held after the one moment of a change
one-holds : (s : Session) (m : Moment) (moments after : List Moment) (k : ℕ) (x : st04.StatisticsChange) (new : StatisticsHeld) → after ≡ m ∷ moments
    → done_at s m ≡ Some (did m k (on_statistics x)) → is_resetting_report (on_statistics x) ≡ false → AreStatistics s (m ∷ moments) new → Holds s after new
one-holds s m moments after k x new is done plain h = subst (λ ms. Holds s ms new) (sym is) (h, settled-done s m moments k (on_statistics x) done plain)

unfiled-act : (act other : Act) → act ≡ other → IsNoFiling other → IsNoFiling act
unfiled-act act other e h = subst IsNoFiling (sym e) h

-- the report that a change orders comes directly after
reported : (resets : Bool) (s : Session) (clock slot : ℕ) (moments after : List Moment) (m : Moment) (k : ℕ) (last : ℕ) (old new : StatisticsHeld)
    → done_at s m ≡ Some (did m k (on_statistics (st04.report resets))) → IsNoFiling m.act → (e : Moment) → e.act ≡ Emitted → is_statistics_packet (s.protocol.reception e.packet) ≡ true
    → after ≡ e ∷ m ∷ moments → last ≡ e.tag → m.tag < e.tag → AllByRecursion (λ x. x.tag < m.tag) moments → IsSettled s moments
    → MatchBool resets (Resets last old new) (new ≡ old) → AreStatistics s moments old → Holds s after new
reported true s clock slot moments after m k last old new done none e act packet is tag lt tags settled changes h =
    let x = on_statistics (st04.report true) in
    let first = statistics-left s m moments k x old done tt none settled h in
    let did_reset : newest_did is_resetting_report s (m ∷ moments) ≡ true = ap (λ o. option_map_or (λ (d : Done). is_resetting_report d.instruction) o false) done in
    let all : AllByRecursion (λ y. y.tag < e.tag) (m ∷ moments) = (lt, tags-later m.tag e.tag lt moments tags) in
    subst (λ ms. Holds s ms new) (sym is)
    (statistics-restarted s e (m ∷ moments) old new act packet did_reset all (subst (λ n. Resets n old new) tag changes) first, settled-still s e (m ∷ moments) (ap (done_by s e.tag) act))
reported false s clock slot moments after m k last old new done none e act packet is tag lt tags settled changes h =
    let x = on_statistics (st04.report false) in
    let first = statistics-left s m moments k x old done tt none settled h in
    let one = settled-done s m moments k x done refl in
    let undone : done_at s e ≡ None = ap (done_by s e.tag) act in
    subst (λ ms. Holds s ms new) (sym is)
    (subst (AreStatistics s (e ∷ m ∷ moments)) (sym changes) (statistics-still s e (m ∷ moments) old undone (unfiled-act e.act Emitted act tt) one first), settled-still s e (m ∷ moments) undone)

told-after : (resets : Bool) (last slot : ℕ) (old new : StatisticsHeld) → Changes (st04.report resets) last slot old new → MatchBool resets (Resets last old new) (new ≡ old)
told-after true last slot old new h = h
told-after false last slot old new h = h

-- a change of the statistics that is carried out
pub carried-holds : (made : StatisticsChange) (s : Session) (clock slot k number : ℕ) (moments after : List Moment) (last : ℕ) (old new : StatisticsHeld)
    → IsCarried s clock slot k number moments after made last old new → Holds s after new
carried-holds change.Reset s clock slot k number moments after last old new h =
    let m : Moment = h.next.0 in
    let e : last ≡ m.tag = h.last_is ∙ ap last_tag h.next.2 in
    let rises = tag-rises s clock moments m h.timeline h.next.1.tag (omega (arith, e, h.fit)) in
    one-holds s m moments after k st04.reset new h.next.2 h.done refl
    (statistics-reset s m moments k old new h.done h.settled rises.above (subst (λ n. Resets n old new) e h.changes) h.before)
carried-holds (change.Enable n) s clock slot k number moments after last old new h =
    let m : Moment = h.next.0 in
    let is : new ≡ record old { enabled = true; interval = n; first_slot = slot_of (tailoring s) m.tag + 1 } =
    h.changes ∙ ap (λ i. record old { enabled = true; interval = n; first_slot = slot_of (tailoring s) i + 1 }) (sym h.next.1.tag) in
    one-holds s m moments after k (st04.enable n) new h.next.2 h.done refl
    (subst (AreStatistics s (m ∷ moments)) (sym is)
    (statistics-enabled s m moments k n old h.done (unfiled-act m.act (Executed k number true) h.next.1.follows.0 tt) h.settled h.grammar h.before))
carried-holds change.Disable s clock slot k number moments after last old new h =
    let m : Moment = h.next.0 in
    one-holds s m moments after k st04.disable new h.next.2 h.done refl
    (subst (AreStatistics s (m ∷ moments)) (sym h.changes) (statistics-disabled s m moments k old h.done (unfiled-act m.act (Executed k number true) h.next.1.follows.0 tt) h.settled h.before))
carried-holds (change.Add id) s clock slot k number moments after last old new h =
    let m : Moment = h.next.0 in
    let e : last ≡ m.tag = h.last_is ∙ ap last_tag h.next.2 in
    let rises = tag-rises s clock moments m h.timeline h.next.1.tag (omega (arith, e, h.fit)) in
    one-holds s m moments after k (st04.add id) new h.next.2 h.done refl
    (statistics-added s m moments k id old new h.done (unfiled-act m.act (Executed k number true) h.next.1.follows.0 tt) h.settled h.empty rises.low rises.above h.grammar h.wide
    (added-room old.members id h.allowed) h.changes h.before)
carried-holds (change.Delete id) s clock slot k number moments after last old new h =
    let m : Moment = h.next.0 in
    one-holds s m moments after k (st04.delete id) new h.next.2 h.done refl
    (subst (AreStatistics s (m ∷ moments)) (sym h.changes) (statistics-deleted s m moments k id old h.done (unfiled-act m.act (Executed k number true) h.next.1.follows.0 tt) h.settled h.before))
carried-holds change.DeleteAll s clock slot k number moments after last old new h =
    let m : Moment = h.next.0 in
    one-holds s m moments after k st04.delete_all new h.next.2 h.done refl
    (subst (AreStatistics s (m ∷ moments)) (sym h.changes) (statistics-emptied s m moments k old h.done h.settled h.before))
carried-holds (change.Report resets) s clock slot k number moments after last old new h =
    let m : Moment = h.next.0 in
    let rest : AreNext s clock slot (m ∷ moments) (tells statistics ∷ []) after = h.next.2 in
    let e : Moment = rest.0 in
    let f = rest.1.follows in
    let tag : last ≡ e.tag = h.last_is ∙ ap last_tag rest.2 in
    let later : m.tag < e.tag = omega (arith, rest.1.tag) in
    let rises = tag-rises s clock moments m h.timeline h.next.1.tag (omega (arith, later, tag, h.fit)) in
    reported resets s clock slot moments after m k last old new h.done (unfiled-act m.act (Executed k number true) h.next.1.follows.0 tt) e f.0
    (statistics-packet s e f.1.0 f.1.2.0 f.1.2.1 f.1.1.0 f.1.1.1) rest.2 tag later rises.above h.settled (told-after resets last (slot_of (tailoring s) (next_tag clock moments) + 1) old new h.changes) h.before
carried-holds change.ShowDefinitions s clock slot k number moments after last old new h =
    let m : Moment = h.next.0 in
    let rest : AreNext s clock slot (m ∷ moments) (tells definitions ∷ []) after = h.next.2 in
    let e : Moment = rest.0 in
    let x = on_statistics st04.show_definitions in
    let none = unfiled-act m.act (Executed k number true) h.next.1.follows.0 tt in
    let first = statistics-left s m moments k x old h.done tt none h.settled h.before in
    let one = settled-done s m moments k x h.done refl in
    let act : e.act ≡ Emitted = rest.1.follows.0 in
    let undone : done_at s e ≡ None = ap (done_by s e.tag) act in
    subst (λ ms. Holds s ms new) (sym rest.2)
    (subst (AreStatistics s (e ∷ m ∷ moments)) (sym h.changes) (statistics-still s e (m ∷ moments) old undone (unfiled-act e.act Emitted act tt) one first), settled-still s e (m ∷ moments) undone)
