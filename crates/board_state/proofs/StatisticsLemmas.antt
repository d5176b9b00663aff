-- What is held of the statistics, and one moment more.
use Rattle.std.proofs.Common.{arith, ◌≡◌, ℕ, zero, suc, ◌<◌, ◌≤◌, ◌+◌, refl, sym, ◌∙◌, ap, ap₂, subst, List, [], ◌∷◌, ◌++◌, length, length-append, ◌^◌, map, filter, reverse, Bool, true, false, ◌==◌, ◌||◌, ◌&&◌, not, nat_lt, Option, Some, None}
use Rattle.std.specs.Prelude.{⊤, ℤ, find, filter_map, IfSome, MatchBool, is_some, option_map, option_and_then, if◌then◌else◌}
use Rattle.std.specs.List.{AllByRecursion, AllZip, cons_option, list_any}
use Rattle.std.specs.Option.{option_map_or, option_or}
use Rattle.std.proofs.lemmas.Bool.{eq-eqb}
use Rattle.std.proofs.lemmas.Bool.Decides.{Decides-eqb, nat_tests}
use Rattle.hk_base.specs.Fit.{slot_of}
use Rattle.hk_base.specs.Parameters.{parameter}
use Rattle.hk_base.specs.TailoringParts.{TailoringParts}
use Rattle.body_fields.specs.Reading.{repeat_fault, param_fault}
use Rattle.body_fields.specs.Spelling.{AllStand, IsCount, IsInterval}
use Rattle.statistics.specs.Summaries.{Sample, sample, AreTotals}
use Rattle.st04_grammar.specs.Bodies.{form_fault, numeric_fault}
use Rattle.st04_grammar.specs.Spelling.{AreNumericIds}
use Rattle.st04_grammar.specs.Instructions.{StatisticsChange, report, reset, enable, disable, add, delete, delete_all, show_definitions}
use Rattle.pus_messages.specs.Instructions.{Instruction, on_structure, on_statistics, report_values, set_values}
use Rattle.hk_world.specs.States as states
use Rattle.hk_world.specs.States.{statistics_left, is_member}
use Rattle.hk_world.specs.Timelines.{Session, Done, tailoring, done_by, done_at, done_instructions, statistics_after, is_reset, is_resetting_report, newest_did, restarts, is_statistics_packet, start_after, state_after}
use Rattle.hk_world.specs.Honest.{sample_of, samples_above}
use Rattle.hk_world.specs.declared.moment.Moment.{Moment}
use Rattle.hk_world.specs.declared.moment.Act.{Act}
use Rattle.hk_world.specs.declared.moment.Act.TheVariants.{Accepted, TurnedAway, Started, NotStarted, Executed, Completed, Emitted, Filed}
use Rattle.hk_world.proofs.OrderLemmas.{true_is_not_false}
use Rattle.board_steps.specs.Slots.{begins_statistics, slot_after}
use Rattle.board_steps.specs.Timeline.{AgreeOn, exchanged}
use Rattle.board_steps.proofs.GrownLemmas.{done-agrees, dones-agrees, state-agrees}
use Rattle.board_state.specs.Statistics.{StatisticsHeld, AreStatisticsOf, AreStatistics, IsSettled, params_of, with_members, IsEmpty, RestartsAt, Counts, CountsAt, Files, Adds, Resets, Changes}
use Rattle.board_state.specs.declared.members.Member.{Member}
use Rattle.board_state.proofs.HoldingLemmas.{slot-stays, slot-begins}
use Rattle.board_state.proofs.ChannelLemmas.{IsNoFiling}
use Rattle.board_state.proofs.MemberLemmas.{samples-still, samples-more, samples-none, tags-at-most, tags-below, stands-fewer, stands-last, length-fewer, params-append, lt-is-true, StartsEmpty, start-below, members-below}

-- a member that is held, by the tag that the statistics start from
abbrev pub IsCounted : ℕ → List Moment → states.Member → Member → Type 0
IsCounted start moments a x = (x.param ≡ a.param) × AreTotals (samples_above a.param (if nat_lt start a.added then a.added else start) moments) x.stat

-- the statistics that are held, by the parts of the state
pub record AreLeft (t : TailoringParts) (stats : states.Statistics) (first : ℕ) (done : List Done) (moments : List Moment) (x : StatisticsHeld) : Type 0 where
  pub members : AllZip (IsCounted first moments) stats.members x.members
  pub enabled : x.enabled ≡ stats.enabled
  pub interval : x.interval ≡ stats.interval
  pub start : x.start ≡ first
  pub first_slot : x.first_slot ≡ slot_after t begins_statistics done
  pub ids : AreNumericIds t 0 (params_of x.members)
  pub span : IsInterval t x.interval

left : (s : Session) (moments : List Moment) (x : StatisticsHeld) → AreStatistics s moments x
    → AreLeft (tailoring s) (statistics_after s.initial (done_instructions s moments)) (start_after s moments) (done_instructions s moments) moments x
left s moments x h =
    record { members = h.members; enabled = h.enabled; interval = h.interval; start = h.start; first_slot = h.first_slot; ids = h.ids; span = h.span }

-- the statistics that are held after some moments, by what is done and where the statistics start
held : (s : Session) (moments : List Moment) (x : StatisticsHeld) (done : List Done) (first : ℕ) → done_instructions s moments ≡ done → start_after s moments ≡ first
    → AreLeft (tailoring s) (statistics_after s.initial done) first done moments x → AreStatistics s moments x
held s moments x done first d f h =
    let a = subst (λ n. AreLeft (tailoring s) (statistics_after s.initial done) n done moments x) (sym f) h in
    let k = subst (λ ds. AreLeft (tailoring s) (statistics_after s.initial ds) (start_after s moments) ds moments x) (sym d) a in
    record { members = k.members; enabled = k.enabled; interval = k.interval; start = k.start; first_slot = k.first_slot; ids = k.ids; span = k.span }

pub zip-mapped : {A B : Type 0} (P Q : A → B → Type 0) → ((a : A) (b : B) → P a b → Q a b) → (xs : List A) (ys : List B) → AllZip P xs ys → AllZip Q xs ys
zip-mapped P Q f [] [] h = tt
zip-mapped P Q f [] (y ∷ ys) h = absurd h
zip-mapped P Q f (x ∷ xs) [] h = absurd h
zip-mapped P Q f (x ∷ xs) (y ∷ ys) h = (f x y h.0, zip-mapped P Q f xs ys h.1)

-- two relations one after the other, where each of the first has a property
pub zip-then : {A B C : Type 0} (G : A → Type 0) (P : A → B → Type 0) (R : B → C → Type 0) (Q : A → C → Type 0) → ((a : A) (b : B) (c : C) → G a → P a b → R b c → Q a c)
    → (xs : List A) (ys : List B) (zs : List C) → AllByRecursion G xs → AllZip P xs ys → AllZip R ys zs → AllZip Q xs zs
zip-then G P R Q f [] [] [] g h k = tt
zip-then G P R Q f [] [] (z ∷ zs) g h k = absurd k
zip-then G P R Q f [] (y ∷ ys) zs g h k = absurd h
zip-then G P R Q f (x ∷ xs) [] zs g h k = absurd h
zip-then G P R Q f (x ∷ xs) (y ∷ ys) [] g h k = absurd k
zip-then G P R Q f (x ∷ xs) (y ∷ ys) (z ∷ zs) g h k = (f x y z g.0 h.0 k.0, zip-then G P R Q f xs ys zs g.1 h.1 k.1)

-- an act that files nothing has no sample
sample-none : (id : ℕ) (act : Act) → IsNoFiling act → sample_of id act ≡ None
sample-none id (Filed param slot v) h = absurd h
sample-none id (Accepted k) h = refl
sample-none id (TurnedAway k) h = refl
sample-none id (Started k) h = refl
sample-none id (NotStarted k) h = refl
sample-none id (Executed k number flag) h = refl
sample-none id (Completed k refused) h = refl
sample-none id Emitted h = refl

-- the members stay where nothing is filed
members-still : (first : ℕ) (m : Moment) (moments : List Moment) → IsNoFiling m.act → (olds : List states.Member) (xs : List Member)
    → AllZip (IsCounted first moments) olds xs → AllZip (IsCounted first (m ∷ moments)) olds xs
members-still first m moments none olds xs h =
    zip-mapped (IsCounted first moments) (IsCounted first (m ∷ moments))
    (λ a x k. (k.0, subst (λ l. AreTotals l x.stat) (sym (samples-still a.param (if nat_lt first a.added then a.added else first) m moments (sample-none a.param m.act none))) k.1)) olds xs h

or-false : (a b : Bool) → (a || (b && false)) ≡ a
or-false true b = refl
or-false false true = refl
or-false false false = refl

-- in a settled timeline a moment starts the statistics anew where it does a reset
restarts-by : (s : Session) (m : Moment) (moments : List Moment) → IsSettled s moments → restarts s (m ∷ moments) ≡ newest_did is_reset s (m ∷ moments)
restarts-by s m moments e =
    ap (λ b. newest_did is_reset s (m ∷ moments) || (is_statistics_packet (s.protocol.reception m.packet) && b)) e
    ∙ or-false (newest_did is_reset s (m ∷ moments)) (is_statistics_packet (s.protocol.reception m.packet))

-- whether an instruction passes a test, if there is one
abbrev passes : (Instruction → Bool) → Option Done → Bool
passes test o = option_map_or (λ d. test d.instruction) o false

-- where the statistics start after a moment
start-by : (s : Session) (m : Moment) (moments : List Moment) (o : Option Done) → done_at s m ≡ o → IsSettled s moments
    → start_after s (m ∷ moments) ≡ (if passes is_reset o then m.tag else start_after s moments)
start-by s m moments o e settled =
    ap (λ b. if b then m.tag else start_after s moments) (restarts-by s m moments settled ∙ ap (passes is_reset) e)

pub settled-still : (s : Session) (m : Moment) (moments : List Moment) → done_at s m ≡ None → IsSettled s (m ∷ moments)
settled-still s m moments e = ap (passes is_resetting_report) e

-- a moment that does no instruction and files nothing leaves what is held
pub statistics-still : (s : Session) (m : Moment) (moments : List Moment) (x : StatisticsHeld) → done_at s m ≡ None → IsNoFiling m.act → IsSettled s moments
    → AreStatistics s moments x → AreStatistics s (m ∷ moments) x
statistics-still s m moments x e none settled h =
    let k = left s moments x h in
    held s (m ∷ moments) x (done_instructions s moments) (start_after s moments) (ap (λ o. cons_option o (done_instructions s moments)) e) (start-by s m moments None e settled)
    (record {
      members = members-still (start_after s moments) m moments none (statistics_after s.initial (done_instructions s moments)).members x.members k.members;
      enabled = k.enabled;
      interval = k.interval;
      start = k.start;
      first_slot = k.first_slot;
      ids = k.ids;
      span = k.span;
    })

-- other requests at numbers that no moment names change nothing
pub statistics-agree : (s : Session) (other : List (List ℕ)) (moments : List Moment) (x : StatisticsHeld) → AgreeOn s.requests other moments
    → AreStatistics s moments x → AreStatistics (exchanged s other) moments x
statistics-agree s other moments x agree h =
    subst (λ st. AreStatisticsOf (tailoring s) st (done_instructions (exchanged s other) moments) moments x) (state-agrees s other moments agree)
    (subst (λ ds. AreStatisticsOf (tailoring s) (state_after s moments) ds moments x) (dones-agrees s other moments agree) h)

pub settled-agree : (s : Session) (other : List (List ℕ)) (moments : List Moment) → AgreeOn s.requests other moments → IsSettled s moments → IsSettled (exchanged s other) moments
settled-agree s other [] agree h = h
settled-agree s other (m ∷ earlier) agree h = sym (ap (passes is_resetting_report) (done-agrees s other m.tag m.act agree.0)) ∙ h

-- an instruction that was done at a moment
abbrev pub did : Moment → ℕ → Instruction → Done
did m k x = record { tag = m.tag; request = k; instruction = x }

-- the instruction that was done leaves what is held now
done-held : (s : Session) (m : Moment) (moments : List Moment) (k : ℕ) (x : Instruction) (new : StatisticsHeld) → done_at s m ≡ Some (did m k x) → IsSettled s moments
    → AreLeft (tailoring s) (statistics_left x m.tag (statistics_after s.initial (done_instructions s moments))) (if is_reset x then m.tag else start_after s moments)
    (did m k x ∷ done_instructions s moments) (m ∷ moments) new
    → AreStatistics s (m ∷ moments) new
done-held s m moments k x new e settled h =
    held s (m ∷ moments) new (did m k x ∷ done_instructions s moments) (if is_reset x then m.tag else start_after s moments)
    (ap (λ o. cons_option o (done_instructions s moments)) e) (start-by s m moments (Some (did m k x)) e settled) h

-- an instruction that leaves the statistics olds they are
abbrev pub LeavesStatistics : Instruction → Type 0
LeavesStatistics (on_statistics (report resets)) = ⊤
LeavesStatistics (on_statistics show_definitions) = ⊤
LeavesStatistics (on_statistics _) = ⊥
LeavesStatistics _ = ⊤

pub statistics-left : (s : Session) (m : Moment) (moments : List Moment) (k : ℕ) (x : Instruction) (old : StatisticsHeld) → done_at s m ≡ Some (did m k x) → LeavesStatistics x
    → IsNoFiling m.act → IsSettled s moments → AreStatistics s moments old → AreStatistics s (m ∷ moments) old
statistics-left s m moments k x old e leaves none settled h =
    done-held s m moments k x old e settled
    (record {
      members = subst (λ n. AllZip (IsCounted n (m ∷ moments)) (statistics_left x m.tag st).members old.members) (sym (start x leaves))
          (subst (λ (z : states.Statistics). AllZip (IsCounted (start_after s moments) (m ∷ moments)) z.members old.members) (sym (same x leaves))
          (members-still (start_after s moments) m moments none st.members old.members kept.members));
      enabled = kept.enabled ∙ sym (ap (λ (z : states.Statistics). z.enabled) (same x leaves));
      interval = kept.interval ∙ sym (ap (λ (z : states.Statistics). z.interval) (same x leaves));
      start = kept.start ∙ sym (start x leaves);
      first_slot = kept.first_slot ∙ sym (slot-stays (tailoring s) begins_statistics (done_instructions s moments) (did m k x) (begins x leaves));
      ids = kept.ids;
      span = kept.span;
    })
  where
    st : states.Statistics
    st = statistics_after s.initial (done_instructions s moments)

    kept : AreLeft (tailoring s) (statistics_after s.initial (done_instructions s moments)) (start_after s moments) (done_instructions s moments) moments old
    kept = left s moments old h

    same : (y : Instruction) → LeavesStatistics y → statistics_left y m.tag (statistics_after s.initial (done_instructions s moments)) ≡ statistics_after s.initial (done_instructions s moments)
    same (on_statistics (report resets)) g = refl
    same (on_statistics show_definitions) g = refl
    same (on_statistics reset) g = absurd g
    same (on_statistics (enable n)) g = absurd g
    same (on_statistics disable) g = absurd g
    same (on_statistics (add id)) g = absurd g
    same (on_statistics (delete id)) g = absurd g
    same (on_statistics delete_all) g = absurd g
    same (on_structure key change) g = refl
    same (report_values ids) g = refl
    same (set_values settings) g = refl

    start : (y : Instruction) → LeavesStatistics y → (if is_reset y then m.tag else start_after s moments) ≡ start_after s moments
    start (on_statistics (report resets)) g = refl
    start (on_statistics show_definitions) g = refl
    start (on_statistics reset) g = absurd g
    start (on_statistics (enable n)) g = refl
    start (on_statistics disable) g = refl
    start (on_statistics (add id)) g = refl
    start (on_statistics (delete id)) g = refl
    start (on_statistics delete_all) g = refl
    start (on_structure key change) g = refl
    start (report_values ids) g = refl
    start (set_values settings) g = refl

    begins : (y : Instruction) → LeavesStatistics y → begins_statistics y ≡ false
    begins (on_statistics (report resets)) g = refl
    begins (on_statistics show_definitions) g = refl
    begins (on_statistics reset) g = refl
    begins (on_statistics (enable n)) g = absurd g
    begins (on_statistics disable) g = refl
    begins (on_statistics (add id)) g = refl
    begins (on_statistics (delete id)) g = refl
    begins (on_statistics delete_all) g = refl
    begins (on_structure key change) g = refl
    begins (report_values ids) g = refl
    begins (set_values settings) g = refl

-- after an instruction other than a report that resets no report that resets is still to come
pub settled-done : (s : Session) (m : Moment) (moments : List Moment) (k : ℕ) (x : Instruction) → done_at s m ≡ Some (did m k x) → is_resetting_report x ≡ false → IsSettled s (m ∷ moments)
settled-done s m moments k x e no_reset = ap (passes is_resetting_report) e ∙ no_reset

-- where the statistics start anew at the newest tag, members that forgot their samples are olds they should be
members-restarted : (first : ℕ) (moments before : List Moment) → AllByRecursion (λ m. m.tag ≤ first) moments → (n : ℕ) → (olds : List states.Member) (xs ys : List Member)
    → AllByRecursion (λ (a : states.Member). ⊤) olds → AllZip (IsCounted n before) olds xs → AllZip (λ x y. IsEmpty x.param y) xs ys → AllZip (IsCounted first moments) olds ys
members-restarted first moments before tags n olds xs ys g h k =
    zip-then (λ a. ⊤) (IsCounted n before) (λ x y. IsEmpty x.param y) (IsCounted first moments)
    (λ a x y u p q. (q.param ∙ p.0, subst (λ l. AreTotals l y.stat) (sym (empty-from a)) q.totals)) olds xs ys g h k
  where
    cut : states.Member → ℕ
    cut a = if nat_lt first a.added then a.added else first

    at-least : (a : states.Member) → first ≤ cut a
    at-least a = go (nat_lt first a.added) refl
      where
        go : (b : Bool) → nat_lt first a.added ≡ b → first ≤ (if b then a.added else first)
        go true e = grind (arith, nat_tests)
        go false e = omega arith

    empty-from : (a : states.Member) → samples_above a.param (cut a) moments ≡ []
    empty-from a = samples-none a.param (cut a) moments (tags-at-most first (cut a) (at-least a) moments tags)

pub all-true : (olds : List states.Member) → AllByRecursion (λ (a : states.Member). ⊤) olds
all-true [] = tt
all-true (a ∷ olds) = (tt, all-true olds)

-- the IDs of members that were changed one by one
params-same : (R : Member → Member → Type 0) → ((x y : Member) → R x y → y.param ≡ x.param) → (xs ys : List Member) → AllZip R xs ys → params_of ys ≡ params_of xs
params-same R f [] [] h = refl
params-same R f [] (y ∷ ys) h = absurd h
params-same R f (x ∷ xs) [] h = absurd h
params-same R f (x ∷ xs) (y ∷ ys) h = ap₂ (λ id ids. id ∷ ids) (f x y h.0) (params-same R f xs ys h.1)

-- tags of earlier moments, with one more
all-at-most : (m : Moment) (moments : List Moment) → AllByRecursion (λ e. e.tag < m.tag) moments → AllByRecursion (λ e. e.tag ≤ m.tag) (m ∷ moments)
all-at-most m moments h = (omega arith, tags-below m.tag moments h)

-- a reset that is done
pub statistics-reset : (s : Session) (m : Moment) (moments : List Moment) (k : ℕ) (old new : StatisticsHeld) → done_at s m ≡ Some (did m k (on_statistics reset))
    → IsSettled s moments → AllByRecursion (λ e. e.tag < m.tag) moments → Resets m.tag old new → AreStatistics s moments old → AreStatistics s (m ∷ moments) new
statistics-reset s m moments k old new e settled tags becomes h =
    let kept = left s moments old h in
    let st = statistics_after s.initial (done_instructions s moments) in
    let ids = params-same (λ x y. IsEmpty x.param y) (λ x y q. q.param) old.members new.members becomes.0 in
    let z : StatisticsHeld = record old { members = new.members; start = m.tag } in
    done-held s m moments k (on_statistics reset) new e settled
    (subst (AreLeft (tailoring s) st m.tag (did m k (on_statistics reset) ∷ done_instructions s moments) (m ∷ moments)) (sym becomes.1)
    (record {
      members = members-restarted m.tag (m ∷ moments) moments (all-at-most m moments tags) (start_after s moments) st.members old.members new.members (all-true st.members) kept.members becomes.0;
      enabled = kept.enabled;
      interval = kept.interval;
      start = refl;
      first_slot = kept.first_slot ∙ sym (slot-stays (tailoring s) begins_statistics (done_instructions s moments) (did m k (on_statistics reset)) refl);
      ids = subst (AreNumericIds (tailoring s) 0) (sym ids) kept.ids;
      span = kept.span;
    }))

-- the report of an instruction that resets: the statistics start anew at its tag
pub statistics-restarted : (s : Session) (m : Moment) (moments : List Moment) (old new : StatisticsHeld) → m.act ≡ Emitted → is_statistics_packet (s.protocol.reception m.packet) ≡ true
    → newest_did is_resetting_report s moments ≡ true → AllByRecursion (λ e. e.tag < m.tag) moments → Resets m.tag old new → AreStatistics s moments old → AreStatistics s (m ∷ moments) new
statistics-restarted s m moments old new act told did tags becomes h =
    let kept = left s moments old h in
    let st = statistics_after s.initial (done_instructions s moments) in
    let ids = params-same (λ x y. IsEmpty x.param y) (λ x y q. q.param) old.members new.members becomes.0 in
    let undone : done_at s m ≡ None = ap (done_by s m.tag) act in
    let starts : restarts s (m ∷ moments) ≡ true =
    ap (λ o. passes is_reset o || (is_statistics_packet (s.protocol.reception m.packet) && newest_did is_resetting_report s moments)) undone
    ∙ ap₂ (λ a b. a && b) told did in
    held s (m ∷ moments) new (done_instructions s moments) m.tag (ap (λ o. cons_option o (done_instructions s moments)) undone)
    (ap (λ b. if b then m.tag else start_after s moments) starts)
    (subst (AreLeft (tailoring s) st m.tag (done_instructions s moments) (m ∷ moments)) (sym becomes.1)
    (record {
      members = members-restarted m.tag (m ∷ moments) moments (all-at-most m moments tags) (start_after s moments) st.members old.members new.members (all-true st.members) kept.members becomes.0;
      enabled = kept.enabled;
      interval = kept.interval;
      start = refl;
      first_slot = kept.first_slot;
      ids = subst (AreNumericIds (tailoring s) 0) (sym ids) kept.ids;
      span = kept.span;
    }))

-- reports are enabled
pub statistics-enabled : (s : Session) (m : Moment) (moments : List Moment) (k n : ℕ) (old : StatisticsHeld) → done_at s m ≡ Some (did m k (on_statistics (enable n)))
    → IsNoFiling m.act → IsSettled s moments → IsInterval (tailoring s) n → AreStatistics s moments old
    → AreStatistics s (m ∷ moments) (record old { enabled = true; interval = n; first_slot = slot_of (tailoring s) m.tag + 1 })
statistics-enabled s m moments k n old e none settled span h =
    let kept = left s moments old h in
    let st = statistics_after s.initial (done_instructions s moments) in
    done-held s m moments k (on_statistics (enable n)) (record old { enabled = true; interval = n; first_slot = slot_of (tailoring s) m.tag + 1 }) e settled
    (record {
      members = members-still (start_after s moments) m moments none st.members old.members kept.members;
      enabled = refl;
      interval = refl;
      start = kept.start;
      first_slot = sym (slot-begins (tailoring s) begins_statistics (done_instructions s moments) (did m k (on_statistics (enable n))) refl);
      ids = kept.ids;
      span = span;
    })

pub statistics-disabled : (s : Session) (m : Moment) (moments : List Moment) (k : ℕ) (old : StatisticsHeld) → done_at s m ≡ Some (did m k (on_statistics disable))
    → IsNoFiling m.act → IsSettled s moments → AreStatistics s moments old → AreStatistics s (m ∷ moments) (record old { enabled = false })
statistics-disabled s m moments k old e none settled h =
    let kept = left s moments old h in
    let st = statistics_after s.initial (done_instructions s moments) in
    done-held s m moments k (on_statistics disable) (record old { enabled = false }) e settled
    (record {
      members = members-still (start_after s moments) m moments none st.members old.members kept.members;
      enabled = refl;
      interval = kept.interval;
      start = kept.start;
      first_slot = kept.first_slot ∙ sym (slot-stays (tailoring s) begins_statistics (done_instructions s moments) (did m k (on_statistics disable)) refl);
      ids = kept.ids;
      span = kept.span;
    })

pub zip-filter : {A B : Type 0} (P : A → B → Type 0) (f : A → Bool) (g : B → Bool) → ((a : A) (b : B) → P a b → g b ≡ f a) → (xs : List A) (ys : List B) → AllZip P xs ys
    → AllZip P (filter f xs) (filter g ys)
zip-filter P f g same [] [] h = tt
zip-filter P f g same [] (y ∷ ys) h = absurd h
zip-filter P f g same (x ∷ xs) [] h = absurd h
zip-filter P f g same (x ∷ xs) (y ∷ ys) h =
    subst (λ b. AllZip P (filter f (x ∷ xs)) (if b then y ∷ filter g ys else filter g ys)) (sym (same x y h.0)) (go (f x) (zip-filter P f g same xs ys h.1))
  where
    go : (b : Bool) → AllZip P (filter f xs) (filter g ys) → AllZip P (if b then x ∷ filter f xs else filter f xs) (if b then y ∷ filter g ys else filter g ys)
    go true k = (h.0, k)
    go false k = k

-- no more IDs than there were, and none among them that wasn't
ids-fewer : (t : TailoringParts) (f : Member → Bool) (xs : List Member) → AreNumericIds t 0 (params_of xs) → AreNumericIds t 0 (params_of (filter f xs))
ids-fewer t f xs h =
    let le = length-fewer f xs in
    record { count = (omega arith, omega (arith, le, h.count.1), omega (arith, le, h.count.2)); stand = stands-fewer t f xs h.stand }

pub statistics-deleted : (s : Session) (m : Moment) (moments : List Moment) (k id : ℕ) (old : StatisticsHeld) → done_at s m ≡ Some (did m k (on_statistics (delete id)))
    → IsNoFiling m.act → IsSettled s moments → AreStatistics s moments old
    → AreStatistics s (m ∷ moments) (with_members old (filter (λ x. not (x.param == id)) old.members))
statistics-deleted s m moments k id old e none settled h =
    let kept = left s moments old h in
    let st = statistics_after s.initial (done_instructions s moments) in
    let first = start_after s moments in
    done-held s m moments k (on_statistics (delete id)) (with_members old (filter (λ x. not (x.param == id)) old.members)) e settled
    (record {
      members = zip-filter (IsCounted first (m ∷ moments)) (λ a. not (a.param == id)) (λ x. not (x.param == id)) (λ a x p. ap (λ n. not (n == id)) p.0) st.members old.members
          (members-still first m moments none st.members old.members kept.members);
      enabled = kept.enabled;
      interval = kept.interval;
      start = kept.start;
      first_slot = kept.first_slot ∙ sym (slot-stays (tailoring s) begins_statistics (done_instructions s moments) (did m k (on_statistics (delete id))) refl);
      ids = ids-fewer (tailoring s) (λ x. not (x.param == id)) old.members kept.ids;
      span = kept.span;
    })

pub statistics-emptied : (s : Session) (m : Moment) (moments : List Moment) (k : ℕ) (old : StatisticsHeld) → done_at s m ≡ Some (did m k (on_statistics delete_all))
    → IsSettled s moments → AreStatistics s moments old → AreStatistics s (m ∷ moments) (with_members old [])
statistics-emptied s m moments k old e settled h =
    let kept = left s moments old h in
    done-held s m moments k (on_statistics delete_all) (with_members old []) e settled
    (record {
      members = tt;
      enabled = kept.enabled;
      interval = kept.interval;
      start = kept.start;
      first_slot = kept.first_slot ∙ sym (slot-stays (tailoring s) begins_statistics (done_instructions s moments) (did m k (on_statistics delete_all)) refl);
      ids = (let few = kept.ids.count in record { count = (omega arith, omega arith, omega (arith, few.2)); stand = tt });
      span = kept.span;
    })

-- whether a test is passed by one of two lists whose members are alike
any-alike : {A B : Type 0} (P : A → B → Type 0) (f : A → Bool) (g : B → Bool) → ((a : A) (b : B) → P a b → f a ≡ g b) → (xs : List A) (ys : List B) → AllZip P xs ys
    → list_any f xs ≡ list_any g ys
any-alike P f g same [] [] h = refl
any-alike P f g same [] (y ∷ ys) h = absurd h
any-alike P f g same (x ∷ xs) [] h = absurd h
any-alike P f g same (x ∷ xs) (y ∷ ys) h = ap₂ (λ a b. a || b) (same x y h.0) (any-alike P f g same xs ys h.1)

-- whether a parameter is a member, and whether it is one of those that are held
pub member-alike : (s : Session) (moments : List Moment) (old : StatisticsHeld) (id : ℕ) → AreStatistics s moments old
    → is_member id (state_after s moments).statistics.members ≡ list_any (λ x. x.param == id) old.members
member-alike s moments old id h =
    any-alike (IsCounted (start_after s moments) moments) (λ a. a.param == id) (λ x. x.param == id) (λ a x p. ap (λ n. n == id) (sym p.0))
    (statistics_after s.initial (done_instructions s moments)).members old.members (left s moments old h).members

among-alike : (ids : List Member) (id : ℕ) → list_any (λ x. x.param == id) ids ≡ list_any (λ e. e == id) (params_of ids)
among-alike [] id = refl
among-alike (x ∷ xs) id = ap (λ b. (x.param == id) || b) (among-alike xs id)

-- a member that was added at the newest tag has no samples
empty-new : (first id : ℕ) (m : Moment) (moments : List Moment) → first < m.tag → AllByRecursion (λ e. e.tag < m.tag) moments
    → samples_above id (if nat_lt first m.tag then m.tag else first) (m ∷ moments) ≡ []
empty-new first id m moments lt tags =
    ap (λ b. samples_above id (if b then m.tag else first) (m ∷ moments)) (lt-is-true first m.tag lt)
    ∙ samples-none id m.tag (m ∷ moments) (all-at-most m moments tags)

zip-renewed : {A B : Type 0} (P : A → B → Type 0) (f : A → A) → (xs : List A) (ys : List B) → AllZip (λ a b. P (f a) b) xs ys → AllZip P (map f xs) ys
zip-renewed P f [] [] h = tt
zip-renewed P f [] (y ∷ ys) h = absurd h
zip-renewed P f (x ∷ xs) [] h = absurd h
zip-renewed P f (x ∷ xs) (y ∷ ys) h = (h.0, zip-renewed P f xs ys h.1)

zip-push : {A B : Type 0} (P : A → B → Type 0) (xs : List A) (ys : List B) (x : A) (y : B) → AllZip P xs ys → P x y → AllZip P (xs ++ x ∷ []) (ys ++ y ∷ [])
zip-push P [] [] x y h r = (r, tt)
zip-push P [] (b ∷ ys) x y h r = absurd h
zip-push P (a ∷ xs) [] x y h r = absurd h
zip-push P (a ∷ xs) (b ∷ ys) x y h r = (h.0, zip-push P xs ys x y h.1 r)

-- a member with another tag at which it was added, where it is the one with this ID
abbrev added_at : ℕ → ℕ → states.Member → states.Member
added_at id tag a = if a.param == id then record { param = id; added = tag } else a

-- the members where one of them is added again
members-again : (first id : ℕ) (m : Moment) (moments : List Moment) → IsNoFiling m.act → first < m.tag → AllByRecursion (λ e. e.tag < m.tag) moments
    → (olds : List states.Member) (xs ys : List Member) → AllZip (IsCounted first moments) olds xs → AllZip (RestartsAt id) xs ys
    → AllZip (IsCounted first (m ∷ moments)) (map (added_at id m.tag) olds) ys
members-again first id m moments none lt tags olds xs ys h k =
    zip-renewed (IsCounted first (m ∷ moments)) (added_at id m.tag) olds ys
    (zip-then (λ a. ⊤) (IsCounted first (m ∷ moments)) (RestartsAt id) (λ a y. IsCounted first (m ∷ moments) (added_at id m.tag a) y)
    (λ a x y u p q. go a x y p (x.param == id) refl q) olds xs ys (all-true olds) (members-still first m moments none olds xs h) k)
  where
    go : (a : states.Member) (x y : Member) → IsCounted first (m ∷ moments) a x → (b : Bool) → (x.param == id) ≡ b → MatchBool b (IsEmpty id y) (y ≡ x)
        → IsCounted first (m ∷ moments) (added_at id m.tag a) y
    go a x y p true e q =
        let same : (a.param == id) ≡ true = ap (λ n. n == id) (sym p.0) ∙ e in
        subst (λ b. IsCounted first (m ∷ moments) (if b then record { param = id; added = m.tag } else a) y) (sym same)
        (q.param, subst (λ l. AreTotals l y.stat) (sym (empty-new first id m moments lt tags)) q.totals)
    go a x y p false e q =
        let same : (a.param == id) ≡ false = ap (λ n. n == id) (sym p.0) ∙ e in
        subst (λ b. IsCounted first (m ∷ moments) (if b then record { param = id; added = m.tag } else a) y) (sym same)
        (subst (IsCounted first (m ∷ moments) a) (sym q) p)

-- a member with this ID, or as it was, has the same ID
restarts-same : (id : ℕ) (x y : Member) → RestartsAt id x y → y.param ≡ x.param
restarts-same id x y h = go (x.param == id) refl h
  where
    go : (b : Bool) → (x.param == id) ≡ b → MatchBool b (IsEmpty id y) (y ≡ x) → y.param ≡ x.param
    go true e q = q.param ∙ sym ((Decides-eqb x.param id).0 e)
    go false e q = ap (λ z. z.param) q

counts-same : (id : ℕ) (v : Sample) (x y : Member) → CountsAt id v x y → y.param ≡ x.param
counts-same id v x y h = go (x.param == id) refl h
  where
    go : (b : Bool) → (x.param == id) ≡ b → MatchBool b ((y.param ≡ id) × Counts v x.stat y.stat) (y ≡ x) → y.param ≡ x.param
    go true e q = q.0 ∙ sym ((Decides-eqb x.param id).0 e)
    go false e q = ap (λ z. z.param) q

eqb-other : (a b : ℕ) → (a == b) ≡ false → (b == a) ≡ false
eqb-other a b e = go (b == a) refl
  where
    go : (c : Bool) → (b == a) ≡ c → c ≡ false
    go false f = refl
    go true f = absurd (true_is_not_false (sym (eq-eqb a b (sym ((Decides-eqb b a).0 f))) ∙ e))

length-params : (xs : List Member) → length (params_of xs) ≡ length xs
length-params [] = refl
length-params (x ∷ xs) = ap suc (length-params xs)

count-room : (n : ℕ) → 1 ≤ n → 255 < 256 ^ n
count-room zero h = absurd (omega (arith, h))
count-room (suc n) h = let some : 1 ≤ 256 ^ n = one-at-least n in omega (arith, some)
  where
    one-at-least : (k : ℕ) → 1 ≤ 256 ^ k
    one-at-least zero = omega arith
    one-at-least (suc k) = let rest = one-at-least k in omega (arith, rest)

-- a parameter is added
pub statistics-added : (s : Session) (m : Moment) (moments : List Moment) (k id : ℕ) (old new : StatisticsHeld) → done_at s m ≡ Some (did m k (on_statistics (add id)))
    → IsNoFiling m.act → IsSettled s moments → StartsEmpty s.initial → 1 ≤ m.tag → AllByRecursion (λ e. e.tag < m.tag) moments
    → numeric_fault (tailoring s) [] id ≡ None → 1 ≤ (tailoring s).widths.count_octets
    → (list_any (λ x. x.param == id) old.members ≡ false → length old.members < 255) → Adds id old new → AreStatistics s moments old → AreStatistics s (m ∷ moments) new
statistics-added s m moments k id old new e none settled empty positive tags numeric wide few adds h =
    done-held s m moments k (on_statistics (add id)) new e settled
    (subst (AreLeft (tailoring s) (statistics_left (on_statistics (add id)) m.tag st) first (did m k (on_statistics (add id)) ∷ done_instructions s moments) (m ∷ moments)) (sym adds.rest)
    (record {
      members = members (list_any (λ x. x.param == id) old.members) refl;
      enabled = kept.enabled;
      interval = kept.interval;
      start = kept.start;
      first_slot = kept.first_slot ∙ sym (slot-stays (tailoring s) begins_statistics (done_instructions s moments) (did m k (on_statistics (add id))) refl);
      ids = ids (list_any (λ x. x.param == id) old.members) refl;
      span = kept.span;
    }))
  where
    st : states.Statistics
    st = statistics_after s.initial (done_instructions s moments)

    first : ℕ
    first = start_after s moments

    kept : AreLeft (tailoring s) (statistics_after s.initial (done_instructions s moments)) (start_after s moments) (done_instructions s moments) moments old
    kept = left s moments old h

    early : start_after s moments < m.tag
    early = start-below s m.tag moments empty (omega (arith, positive)) tags

    members : (b : Bool) → list_any (λ x. x.param == id) old.members ≡ b
        → AllZip (IsCounted (start_after s moments) (m ∷ moments)) (states.with_member id m.tag (statistics_after s.initial (done_instructions s moments)).members) new.members
    members true f =
        let was : is_member id (statistics_after s.initial (done_instructions s moments)).members ≡ true = member-alike s moments old id h ∙ f in
        subst (λ b. AllZip (IsCounted (start_after s moments) (m ∷ moments))
        (if b then map (added_at id m.tag) (statistics_after s.initial (done_instructions s moments)).members
        else (statistics_after s.initial (done_instructions s moments)).members ++ record { param = id; added = m.tag } ∷ []) new.members) (sym was)
        (members-again (start_after s moments) id m moments none early tags (statistics_after s.initial (done_instructions s moments)).members old.members new.members kept.members (adds.there f))
    members false f =
        let was : is_member id (statistics_after s.initial (done_instructions s moments)).members ≡ false = member-alike s moments old id h ∙ f in
        let more = adds.absent f in
        subst (λ b. AllZip (IsCounted (start_after s moments) (m ∷ moments))
        (if b then map (added_at id m.tag) (statistics_after s.initial (done_instructions s moments)).members
        else (statistics_after s.initial (done_instructions s moments)).members ++ record { param = id; added = m.tag } ∷ []) new.members) (sym was)
        (subst (AllZip (IsCounted (start_after s moments) (m ∷ moments)) ((statistics_after s.initial (done_instructions s moments)).members ++ record { param = id; added = m.tag } ∷ [])) (sym more.2)
        (zip-push (IsCounted (start_after s moments) (m ∷ moments)) (statistics_after s.initial (done_instructions s moments)).members old.members (record { param = id; added = m.tag }) more.0
        (members-still (start_after s moments) m moments none (statistics_after s.initial (done_instructions s moments)).members old.members kept.members)
        (more.1.param, subst (λ l. AreTotals l more.0.stat) (sym (empty-new (start_after s moments) id m moments early tags)) more.1.totals)))

    ids : (b : Bool) → list_any (λ x. x.param == id) old.members ≡ b → AreNumericIds (tailoring s) 0 (params_of new.members)
    ids true f = subst (AreNumericIds (tailoring s) 0) (sym (params-same (RestartsAt id) (restarts-same id) old.members new.members (adds.there f))) kept.ids
    ids false f =
        let more = adds.absent f in
        let list : params_of new.members ≡ params_of old.members ++ id ∷ [] =
        ap params_of more.2 ∙ params-append old.members (more.0 ∷ []) ∙ ap (λ n. params_of old.members ++ n ∷ []) more.1.param in
        let one : length (params_of old.members ++ id ∷ []) ≡ length (params_of old.members) + 1 = length-append (params_of old.members) (id ∷ []) in
        let size : length (params_of old.members) ≡ length old.members = length-params old.members in
        let less = few f in
        let room : 255 < 256 ^ (tailoring s).widths.count_octets = count-room (tailoring s).widths.count_octets wide in
        subst (AreNumericIds (tailoring s) 0) (sym list)
        (record {
          count = (omega arith, omega (arith, one, size, less), omega (arith, one, size, less, room));
          stand = stands-last (tailoring s) [] (params_of old.members) id kept.ids.stand (sym (among-alike old.members id) ∙ f) numeric;
        })

-- a sample of a parameter
pub statistics-filed : (s : Session) (m : Moment) (moments : List Moment) (id slot : ℕ) (v : ℤ) (old new : StatisticsHeld) → m.act ≡ Filed id slot v → IsSettled s moments
    → StartsEmpty s.initial → 1 ≤ m.tag → AllByRecursion (λ e. e.tag < m.tag) moments → Files id (sample slot v) old new → AreStatistics s moments old → AreStatistics s (m ∷ moments) new
statistics-filed s m moments id slot v old new act settled empty positive tags files h =
    held s (m ∷ moments) new (done_instructions s moments) (start_after s moments) (ap (λ o. cons_option o (done_instructions s moments)) undone) (start-by s m moments None undone settled)
    (subst (AreLeft (tailoring s) (statistics_after s.initial (done_instructions s moments)) (start_after s moments) (done_instructions s moments) (m ∷ moments)) (sym files.1)
    (record {
      members = zip-then (λ (a : states.Member). a.added < m.tag) (IsCounted (start_after s moments) moments) (CountsAt id (sample slot v)) (IsCounted (start_after s moments) (m ∷ moments))
          (λ a x y g p q. go a x y g p (x.param == id) refl q) (statistics_after s.initial (done_instructions s moments)).members old.members new.members
          (members-below s m.tag moments empty tags) kept.members files.0;
      enabled = kept.enabled;
      interval = kept.interval;
      start = kept.start;
      first_slot = kept.first_slot;
      ids = subst (AreNumericIds (tailoring s) 0) (sym (params-same (CountsAt id (sample slot v)) (counts-same id (sample slot v)) old.members new.members files.0)) kept.ids;
      span = kept.span;
    }))
  where
    undone : done_at s m ≡ None
    undone = ap (done_by s m.tag) act

    kept : AreLeft (tailoring s) (statistics_after s.initial (done_instructions s moments)) (start_after s moments) (done_instructions s moments) moments old
    kept = left s moments old h

    early : start_after s moments < m.tag
    early = start-below s m.tag moments empty (omega (arith, positive)) tags

    cut-below : (a : states.Member) → a.added < m.tag → nat_lt (if nat_lt (start_after s moments) a.added then a.added else start_after s moments) m.tag ≡ true
    cut-below a lt = cut (nat_lt (start_after s moments) a.added)
      where
        cut : (b : Bool) → nat_lt (if b then a.added else start_after s moments) m.tag ≡ true
        cut true = lt-is-true a.added m.tag lt
        cut false = lt-is-true (start_after s moments) m.tag early

    sampled : (other : ℕ) → sample_of other m.act ≡ (if id == other then Some (sample slot v) else None)
    sampled other = ap (sample_of other) act

    go : (a : states.Member) (x y : Member) → a.added < m.tag → IsCounted (start_after s moments) moments a x → (b : Bool) → (x.param == id) ≡ b
        → MatchBool b ((y.param ≡ id) × Counts (sample slot v) x.stat y.stat) (y ≡ x) → IsCounted (start_after s moments) (m ∷ moments) a y
    go a x y g p true e q =
        let named : a.param ≡ id = sym p.0 ∙ (Decides-eqb x.param id).0 e in
        let same : (id == a.param) ≡ true = eq-eqb id a.param (sym named) in
        let found : sample_of a.param m.act ≡ Some (sample slot v) = sampled a.param ∙ ap (λ b. if b then Some (sample slot v) else None) same in (
          q.0 ∙ sym named,
          subst (λ l. AreTotals l y.stat)
              (sym (samples-more a.param (if nat_lt (start_after s moments) a.added then a.added else start_after s moments) m moments (sample slot v) (cut-below a g) found))
              (q.1 (samples_above a.param (if nat_lt (start_after s moments) a.added then a.added else start_after s moments) moments) p.1),
        )
    go a x y g p false e q =
        let other : (id == a.param) ≡ false = eqb-other a.param id (ap (λ n. n == id) (sym p.0) ∙ e) in
        let missing : sample_of a.param m.act ≡ None = sampled a.param ∙ ap (λ b. if b then Some (sample slot v) else None) other in
        subst (IsCounted (start_after s moments) (m ∷ moments) a) (sym q)
        (p.0, subst (λ l. AreTotals l x.stat) (sym (samples-still a.param (if nat_lt (start_after s moments) a.added then a.added else start_after s moments) m moments missing)) p.1)
