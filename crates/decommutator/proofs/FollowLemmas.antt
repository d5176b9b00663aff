-- What following an entry makes of what stands.
use Rattle.std.proofs.Common.{◌≡◌, ℕ, ◌+◌, sym, ◌∙◌, ap, subst, List, [], ◌++◌, map, not, Some, None, Result, Ok, Err}
use Rattle.std.specs.Prelude.{filter, flat_map}
use Rattle.pus_messages.specs.Messages.{protocol}
use Rattle.ground_history.specs.Histories.{tag_of}
use Rattle.ground_history.specs.Ground.{Ground, IsGrounded, HaveRisingTags}
use Rattle.session_record.specs.declared.entry.Entry.{Entry}
use Rattle.session_record.specs.declared.entry.WriteFault.{WriteFault}
use Rattle.session_texts.specs.Sessions.{known_with}
use Rattle.session_texts.specs.Blocks.{block}
use Rattle.session_texts.specs.Follow.{is_ready, has_tag}
use Rattle.block_lines.specs.declared.counts.Counts.{Counts}
use Rattle.block_lines.specs.Counts.{lines_of}
use Rattle.live_verdicts.specs.Marks.{Live}
use Rattle.entry_changes.specs.Changes.{AreSameBelow}
use Rattle.decommutator.specs.Standing.{Standing, Decommutation, with_entry, counts_with, ground_after}
use Rattle.decommutator.specs.Following.{followed_text, after_followed, closing_text}
use Rattle.decommutator.specs.Due.{came_of, new_tag, with_new, AreRising, due_text, waits, last_text, waiting_packets}
use Rattle.decommutator.specs.Follows.{AreWaiting, HasCome, FollowWrites, FollowCounts, FollowsWithin}
use Rattle.decommutator.specs.Output.{Seen, Proceeds, IsUnderWay, HasEnded}
use Rattle.decommutator.specs.declared.changed.Came.{Came}
use Rattle.decommutator.specs.declared.changed.Changed.{Changed}
use Rattle.decommutator.specs.declared.fault.FollowFault.{FollowFault}
use Rattle.decommutator.specs.declared.fault.FollowFault.TheVariants.{Write}
use Rattle.decommutator.proofs.KeptLists.{rising-tags}
use Rattle.decommutator.proofs.StepFacts.{Step, steps, is_open, all-rising, all-due, all-waiting, all-same, still-waiting, all-found, last-blocks}
use Rattle.decommutator.proofs.LookLemmas.{WaitOn}
use Rattle.decommutator.proofs.OutputLemmas.{written-whole, written-part, whole-ends, whole-room}

-- ---- an entry that has come

-- tags of kept packets in their order rise
pub waiting-rise : (tags : List ℕ) (g : Ground) → AreWaiting tags g → HaveRisingTags g.history.kept → AreRising tags
waiting-rise tags g are rising = subst AreRising (sym are.are) (rising-tags _ g.history.kept rising)

step-of : (live : Live) (tags : List ℕ) (came : Came) (now : Ground) (has : HasCome live tags came now) → Step has.before.history.kept now.history.kept (new_tag came)
step-of live tags came now has =
    let at : Step has.before.history.kept (known_with (protocol has.before.tailoring) has.before.history has.entry).kept (new_tag (came_of has.before has.entry)) =
    steps has.before has.entry in
    let one : Step has.before.history.kept now.history.kept (new_tag (came_of has.before has.entry)) =
    subst (λ (x : Ground). Step has.before.history.kept x.history.kept (new_tag (came_of has.before has.entry))) (sym has.known) at in
    subst (λ x. Step has.before.history.kept now.history.kept (new_tag x)) (sym has.brought) one

-- the tags rise with the new one
pub come-rise : (live : Live) (tags : List ℕ) (came : Came) (now : Ground) → HasCome live tags came now → AreRising (with_new (new_tag came) tags)
come-rise live tags came now has =
    all-rising has.before now tags (record { from = None; touched = None; new = new_tag came }) has.waiting has.grounded.tags has.rising_now (step-of live tags came now has)

-- where nothing has changed they wait on
pub come-same : (live : Live) (tags : List ℕ) (came : Came) (now : Ground) (changed : Changed) → HasCome live tags came now → changed.new ≡ new_tag came
    → ((g : Ground) (e : Entry) → IsGrounded g → came ≡ came_of g e → now ≡ ground_after g e (Ok tt) → AreSameBelow changed.from g now) → WaitOn changed now (with_new changed.new tags)
come-same live tags came now changed has new law =
    all-same has.before now tags changed has.waiting has.grounded.tags has.rising_now
    (subst (λ o. Step has.before.history.kept now.history.kept o) (sym new) (step-of live tags came now has))
    (law has.before has.entry has.grounded has.brought has.known)

-- ---- what is written and what stands

-- what stands, by its parts
abbrev pub stands : Ground → Counts → ℕ → List ℕ → Decommutation
stands g c n tags = record { standing = record { tailoring = g.tailoring; history = g.history; counts = c; entries = n }; waiting = Some tags }

module _ (g now : Ground) (tags : List ℕ) (came : Came) (e : Entry) (are : AreWaiting tags g) (rising : HaveRisingTags g.history.kept) (rising_now : HaveRisingTags now.history.kept)
    (brought : came ≡ came_of g e) (known : now ≡ ground_after g e (Ok tt)) where
  abbrev changed : Changed
  changed = record { from = None; touched = None; new = new_tag came }

  step : Step g.history.kept now.history.kept (new_tag came)
  step =
      let one : Step g.history.kept now.history.kept (new_tag (came_of g e)) =
      subst (λ (x : Ground). Step g.history.kept x.history.kept (new_tag (came_of g e))) (sym known) (steps g e) in
      subst (λ x. Step g.history.kept now.history.kept (new_tag x)) (sym brought) one

  pub text-is : (c : Counts) (n : ℕ) → flat_map (due_text now) (with_new (new_tag came) tags) ≡ followed_text (stands g c n tags) e
  text-is c n =
      all-due g now tags changed are rising rising_now step
      ∙ ap (λ (x : Ground). flat_map (block x.tailoring x.history) (filter (is_ready x.tailoring x.history) (filter (is_open tags g.history.kept) x.history.kept))) known

  left-is : (c : Counts) (n : ℕ) (left : List ℕ) → left ≡ filter (waits now) (with_new (new_tag came) tags)
      → Some left ≡ (after_followed (stands g c n tags) e).waiting
  left-is c n left is =
      ap Some (is
      ∙ (all-waiting g now tags changed are rising rising_now step
      ∙ ap (λ (x : Ground). map tag_of (filter (λ k. not (is_ready x.tailoring x.history k)) (filter (is_open tags g.history.kept) x.history.kept))) known))

  pub next-is : (c counts : Counts) (n : ℕ) (left : List ℕ) → counts ≡ counts_with g c e → left ≡ filter (waits now) (with_new (new_tag came) tags)
      → stands now counts (n + 1) left ≡ after_followed (stands g c n tags) e
  next-is c counts n left counted is =
      let later : Standing = with_entry (stands g c n tags).standing e in
      let one : (stands now counts (n + 1) left).standing ≡ later =
      ap (λ (x : Ground). record { tailoring = x.tailoring; history = x.history; counts = counts; entries = n + 1 }) known
      ∙ ap (λ (x : Counts). record { tailoring = later.tailoring; history = later.history; counts = x; entries = n + 1 }) counted in
      ap (λ (x : Standing). record { standing = x; waiting = Some left }) one ∙ ap (λ o. record { standing = later; waiting = o }) (left-is c n left is)

  pub left-wait : (left : List ℕ) → left ≡ filter (waits now) (with_new (new_tag came) tags) → AreWaiting left now
  left-wait left is =
      subst (λ l. AreWaiting l now) (sym (is ∙ all-waiting g now tags changed are rising rising_now step)) (still-waiting g now tags changed are rising rising_now step)

-- what is written at the end
pub rest-is : (g : Ground) (c : Counts) (n : ℕ) (tags : List ℕ) → AreWaiting tags g → HaveRisingTags g.history.kept
    → flat_map (last_text g) tags ++ lines_of c ≡ closing_text (stands g c n tags)
rest-is g c n tags are rising =
    ap (λ l. l ++ lines_of c) (ap (flat_map (last_text g)) are.are ∙ last-blocks g (waiting_packets tags g) (all-found g (has_tag tags) rising))

-- ---- how a text was written

-- what is said of a text that was written, or of its first part
abbrev pub Told : {X : Type 0} → List ℕ → Result X FollowFault → Seen → Seen → Type 0
Told text result from now = FollowWrites text result from.taken now.taken × (FollowCounts result from.faults now.faults × FollowsWithin text result from.room now.room)

pub told-done : {X : Type 0} (octets text : List ℕ) (later : X) (from now : Seen) → octets ≡ text → Proceeds octets from (Ok tt) [] now
    → Told text (Ok later) from now
told-done {X} octets text later from now is written =
    let under : IsUnderWay text [] from now = written-whole text from now (subst (λ l. Proceeds l from (Ok tt) [] now) is written) in
    let whole : HasEnded text (Ok tt) from now = whole-ends text from now under in
    (whole.written, (whole.count, whole-room text under.part from.room now.room under.whole under.room))

pub told-failed : {X : Type 0} (octets text others : List ℕ) (fault : WriteFault) (result : Result X FollowFault) (from now : Seen) → octets ≡ text
    → result ≡ Err (Write fault) → Proceeds octets from (Err fault) others now → Told text result from now
told-failed {X} octets text others fault result from now is failed written =
    let part : HasEnded text (Err fault) from now = written-part text others fault from now (subst (λ l. Proceeds l from (Err fault) others now) is written) in
    let told : Told {X = X} text (Err (Write fault)) from now = (part.written, (part.count, part.room)) in
    subst (λ r. Told text r from now) (sym failed) told
