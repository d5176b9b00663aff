-- What an entry brings to what waits.
use Rattle.std.proofs.Common.{◌≡◌, ℕ, refl, sym, ◌∙◌, ap, subst, List, [], ◌∷◌, ◌++◌, map, Bool, true, false, cond, not, ◌&&◌, ◌||◌, ◌==◌, nat_le, Option, Some, None, Result, Ok, Err, ◌⊎◌, inl, inr, if◌then◌else◌}
use Rattle.std.proofs.lemmas.Bool.{ltb-true, eq-eqb, true≢false}
use Rattle.std.specs.Prelude.{filter, flat_map, find, bytes_eq, option_map}
use Rattle.std.specs.List.{AllByRecursion}
use Rattle.std.specs.Option.{option_map_or}
use Rattle.st03_grammar.specs.declared.bodies.Report03.TheVariants as hk
use Rattle.pus_messages.specs.Messages.{protocol}
use Rattle.pus_messages.specs.Protocol.{Reception, foreign, skipped, unread, readable}
use Rattle.pus_messages.specs.declared.message.Report.{Report}
use Rattle.pus_messages.specs.declared.message.ReportBody.{ReportBody}
use Rattle.pus_messages.specs.declared.message.ReportBody.TheVariants.{Verify, Hk, Stat, Par}
use Rattle.ground_history.specs.Histories.{Kept, History, tag_of, insert_kept, kept_at, kind_by_tag, stray_id, number_of_body, kind_by_reception, sent_answer, history_with_sent, history_with_report, history_with_got}
use Rattle.ground_history.specs.Ground.{Ground, HaveRisingTags}
use Rattle.ground_history.specs.declared.answer.GotKind.TheVariants as became
use Rattle.ground_history.specs.declared.answer.SentFault.{SentFault}
use Rattle.ground_history.proofs.KeptLemmas.{all-insert_kept, all-map}
use Rattle.definition_intervals.specs.Verdicts.{verdict, verdict_of}
use Rattle.definition_intervals.specs.Openings.{openings}
use Rattle.session_record.specs.declared.entry.Entry.{Entry}
use Rattle.session_record.specs.declared.entry.Entry.TheVariants.{Sent, Got, Line}
use Rattle.session_texts.specs.Sessions.{known_with}
use Rattle.session_texts.specs.Blocks.{block}
use Rattle.session_texts.specs.Follow.{is_decision, is_ready, is_ready_body, has_tag}
use Rattle.entry_changes.specs.Changes.{IsBelow, AreSameBelow}
use Rattle.decommutator.specs.Due.{came_sent, came_got, came_of, new_tag, is_below, is_new, is_same, with_new, insert_tag, AreRising, report_from, due_text, waits, last_text, is_waiting, due_block, last_block, waiting_packets}
use Rattle.decommutator.specs.Follows.{AreWaiting}
use Rattle.decommutator.specs.declared.changed.Changed.{Changed}
use Rattle.decommutator.proofs.KeptLists.{filter-same, filter-filter, all-filter, filter-passes, each-there, those, rising-tags, each-found, AreOther, absent-other, other-none, inserted-tags, filter-inserted}

-- what is kept after an entry: the same, or one packet more with a tag that none had
abbrev pub Step : List Kept → List Kept → Option ℕ → Type 0
Step ks later new =
    ((new ≡ None) × (later ≡ ks)) ⊎ ((k : Kept) × (new ≡ Some (tag_of k)) × (later ≡ insert_kept k ks) × (find (λ j. tag_of j == tag_of k) ks ≡ None))

pub steps : (g : Ground) (e : Entry) → Step g.history.kept (known_with (protocol g.tailoring) g.history e).kept (new_tag (came_of g e))
steps g (Sent packet) = go (sent_answer (protocol g.tailoring) g.history packet)
  where
    go : (r : Result Bool SentFault) → Step g.history.kept (history_with_sent (protocol g.tailoring) g.history packet r).kept (new_tag (came_sent r))
    go (Ok true) = inl (refl, refl)
    go (Ok false) = inl (refl, refl)
    go (Err fault) = inl (refl, refl)
steps g (Got packet) = go ((protocol g.tailoring).reception packet)
  where
    h : History
    h = g.history

    pick : (r : Report) (b : Bool)
        → Step h.kept (history_with_report h packet r (if b then became.Repeat r.header.tag else became.Conflict r.header.tag)).kept
        (new_tag (came_got (if b then became.Repeat r.header.tag else became.Conflict r.header.tag)))
    pick r true = inl (refl, refl)
    pick r false = inl (refl, refl)

    report : (r : Report) (o : Option ℕ) (f : Option Kept) → kept_at h r.header.tag ≡ f
        → Step h.kept (history_with_report h packet r (option_map_or became.Stray o (kind_by_tag r.header.tag packet f))).kept
        (new_tag (came_got (option_map_or became.Stray o (kind_by_tag r.header.tag packet f))))
    report r (Some id) f e = inl (refl, refl)
    report r None (Some k) e = pick r (bytes_eq k.packet packet)
    report r None None e = inr (record { packet = packet; report = r; number = number_of_body h r.header.tag r.body }, refl, refl, e)

    go : (x : Reception) → Step h.kept (history_with_got h packet x).kept (new_tag (came_got (kind_by_reception h packet x)))
    go (foreign apid) = inl (refl, refl)
    go (skipped service subtype) = inl (refl, refl)
    go unread = inl (refl, refl)
    go (readable r) = report r (stray_id h r.header.tag r.body) (kept_at h r.header.tag) refl
steps g (Line text) = inl (refl, refl)

-- whether the block of a packet isn't written before an entry, by the tags that wait and what was kept
abbrev pub is_open : List ℕ → List Kept → Kept → Bool
is_open tags ks k = has_tag tags k || not (has_tag (map tag_of ks) k)

or-true : (a : Bool) → (a || true) ≡ true
or-true true = refl
or-true false = refl

or-false : (a : Bool) → (a || false) ≡ a
or-false true = refl
or-false false = refl

open-old : (tags : List ℕ) (ks : List Kept) → filter (is_open tags ks) ks ≡ filter (has_tag tags) ks
open-old tags ks =
    filter-same (is_open tags ks) (has_tag tags) ks
    (all-map (λ k. has_tag (map tag_of ks) k ≡ true) (λ k. is_open tags ks k ≡ has_tag tags k)
    (λ k there. ap (λ b. has_tag tags k || not b) there ∙ or-false (has_tag tags k)) ks (each-there ks))

-- the packets whose blocks weren't written before an entry: those that waited, and the new one in its place
open-new : (tags : List ℕ) (ks : List Kept) (n : Kept) → HaveRisingTags ks → AreOther n ks → filter (is_open tags ks) (insert_kept n ks) ≡ insert_kept n (filter (has_tag tags) ks)
open-new tags ks n rising other =
    let here : is_open tags ks n ≡ true = ap (λ b. has_tag tags n || not b) (other-none n ks other) ∙ or-true (has_tag tags n) in
    filter-inserted (is_open tags ks) n ks here rising ∙ ap (insert_kept n) (open-old tags ks)

-- their tags
pub open-tags : (tags : List ℕ) (g : Ground) (later : List Kept) (new : Option ℕ) → tags ≡ map tag_of (waiting_packets tags g) → HaveRisingTags g.history.kept
    → Step g.history.kept later new → with_new new tags ≡ map tag_of (filter (is_open tags g.history.kept) later)
open-tags tags g later new are rising (inl same) =
    ap (λ o. with_new o tags) same.0 ∙ (are ∙ sym (ap (λ l. map tag_of (filter (is_open tags g.history.kept) l)) same.1 ∙ ap (map tag_of) (open-old tags g.history.kept)))
open-tags tags g later new are rising (inr (n, e, is, absent)) =
    let ks : List Kept = g.history.kept in
    let other : AreOther n ks = absent-other n ks absent in
    ap (λ o. with_new o tags) e
    ∙ (ap (insert_tag (tag_of n)) are
    ∙ (inserted-tags n (filter (has_tag tags) ks) (all-filter (λ k. (tag_of k == tag_of n) ≡ false) (has_tag tags) ks other)
    ∙ sym (ap (λ l. map tag_of (filter (is_open tags ks) l)) is ∙ ap (map tag_of) (open-new tags ks n rising other))))

-- what holds of those that waited and of the new one
open-all : (P : Kept → Type 0) (tags : List ℕ) (g : Ground) (later : List Kept) (new : Option ℕ) → HaveRisingTags g.history.kept → Step g.history.kept later new
    → AllByRecursion P (waiting_packets tags g) → ((n : Kept) → new ≡ Some (tag_of n) → P n) → AllByRecursion P (filter (is_open tags g.history.kept) later)
open-all P tags g later new rising (inl same) all one =
    subst (AllByRecursion P) (sym (ap (filter (is_open tags g.history.kept)) same.1 ∙ open-old tags g.history.kept)) all
open-all P tags g later new rising (inr (n, e, is, absent)) all one =
    let ks : List Kept = g.history.kept in
    subst (AllByRecursion P) (sym (ap (filter (is_open tags ks)) is ∙ open-new tags ks n rising (absent-other n ks absent)))
    (all-insert_kept P n (filter (has_tag tags) ks) (one n e) all)

-- ---- reports that wait on

below : (from : Option ℕ) (tag : ℕ) → is_below from tag ≡ true → IsBelow tag from
below None tag e = tt
below (Some from) tag e = ltb-true tag from e

-- a report that waits and has the openings that it had waits on
stays : (g later : Ground) (from : Option ℕ) (k : Kept) → AreSameBelow from g later → is_below from (tag_of k) ≡ true → is_ready g.tailoring g.history k ≡ false
    → is_ready later.tailoring later.history k ≡ false
stays g later from k same low waits = go k.report.body waits
  where
    tag : ℕ
    tag = tag_of k

    go : (body : ReportBody) → is_ready_body g.tailoring g.history tag body ≡ false → is_ready_body later.tailoring later.history tag body ≡ false
    go (Hk (hk.Values key payload)) e =
        let one : verdict later.tailoring later.history key tag payload ≡ verdict_of g.tailoring tag payload (openings later.tailoring later.history key tag) =
        ap (λ t. verdict_of t tag payload (openings later.tailoring later.history key tag)) same.tailoring in
        let two : verdict later.tailoring later.history key tag payload ≡ verdict g.tailoring g.history key tag payload =
        one ∙ ap (verdict_of g.tailoring tag payload) (same.openings key tag (below from tag low)) in
        ap is_decision two ∙ e
    go (Hk (hk.Structure key structure)) e = absurd (true≢false e)
    go (Hk (hk.Periodic kind rows)) e = absurd (true≢false e)
    go (Verify v) e = absurd (true≢false e)
    go (Stat r) e = absurd (true≢false e)
    go (Par r) e = absurd (true≢false e)

-- ---- what is due by tags and by packets

-- the report of a packet is found by its tag
abbrev pub IsFound : Ground → Kept → Type 0
IsFound g k = report_from g (tag_of k) ≡ Some k.report

pub all-found : (g : Ground) (q : Kept → Bool) → HaveRisingTags g.history.kept → AllByRecursion (IsFound g) (filter q g.history.kept)
all-found g q rising =
    all-filter (IsFound g) q g.history.kept
    (all-map (λ k. find (λ j. nat_le (tag_of k) (tag_of j)) g.history.kept ≡ Some k) (IsFound g) (λ k e. ap (option_map (λ j. j.report)) e) g.history.kept
    (each-found g.history.kept rising))

pub due-blocks : (g : Ground) (ks : List Kept) → AllByRecursion (IsFound g) ks
    → flat_map (due_text g) (map tag_of ks) ≡ flat_map (block g.tailoring g.history) (filter (is_ready g.tailoring g.history) ks)
due-blocks g [] h = refl
due-blocks g (k ∷ ks) h =
    ap (λ o. due_block g o ++ flat_map (due_text g) (map tag_of ks)) h.0 ∙ go (is_ready g.tailoring g.history k) (due-blocks g ks h.1)
  where
    go : (b : Bool) → flat_map (due_text g) (map tag_of ks) ≡ flat_map (block g.tailoring g.history) (filter (is_ready g.tailoring g.history) ks)
        → (if b then block g.tailoring g.history k else []) ++ flat_map (due_text g) (map tag_of ks)
        ≡ flat_map (block g.tailoring g.history) (cond b (k ∷ filter (is_ready g.tailoring g.history) ks) (filter (is_ready g.tailoring g.history) ks))
    go true e = ap (λ l. block g.tailoring g.history k ++ l) e
    go false e = e

pub waiting-tags : (g : Ground) (ks : List Kept) → AllByRecursion (IsFound g) ks
    → filter (waits g) (map tag_of ks) ≡ map tag_of (filter (λ k. not (is_ready g.tailoring g.history k)) ks)
waiting-tags g [] h = refl
waiting-tags g (k ∷ ks) h =
    let rest : List ℕ = filter (waits g) (map tag_of ks) in
    ap (λ o. cond (is_waiting g o) (tag_of k ∷ rest) rest) h.0 ∙ go (not (is_ready g.tailoring g.history k)) (waiting-tags g ks h.1)
  where
    left : List Kept
    left = filter (λ j. not (is_ready g.tailoring g.history j)) ks

    go : (b : Bool) → filter (waits g) (map tag_of ks) ≡ map tag_of left
        → cond b (tag_of k ∷ filter (waits g) (map tag_of ks)) (filter (waits g) (map tag_of ks)) ≡ map tag_of (cond b (k ∷ left) left)
    go true e = ap (λ l. tag_of k ∷ l) e
    go false e = e

pub last-blocks : (g : Ground) (ks : List Kept) → AllByRecursion (IsFound g) ks → flat_map (last_text g) (map tag_of ks) ≡ flat_map (block g.tailoring g.history) ks
last-blocks g [] h = refl
last-blocks g (k ∷ ks) h =
    ap (λ o. last_block g o ++ flat_map (last_text g) (map tag_of ks)) h.0 ∙ ap (λ l. block g.tailoring g.history k ++ l) (last-blocks g ks h.1)

-- ---- one more entry

module _ (g later : Ground) (tags : List ℕ) (c : Changed) (are : AreWaiting tags g) (rising : HaveRisingTags g.history.kept) (rising_later : HaveRisingTags later.history.kept)
    (step : Step g.history.kept later.history.kept c.new) where
  abbrev opened : List Kept
  opened = filter (is_open tags g.history.kept) later.history.kept

  abbrev all_tags : List ℕ
  all_tags = with_new c.new tags

  tags-are : all_tags ≡ map tag_of opened
  tags-are = open-tags tags g later.history.kept c.new are.are rising step

  found : AllByRecursion (IsFound later) opened
  found = all-found later (is_open tags g.history.kept) rising_later

  pub all-rising : AreRising all_tags
  all-rising = subst AreRising (sym tags-are) (rising-tags (is_open tags g.history.kept) later.history.kept rising_later)

  pub all-due : flat_map (due_text later) all_tags ≡ flat_map (block later.tailoring later.history) (filter (is_ready later.tailoring later.history) opened)
  all-due = ap (flat_map (due_text later)) tags-are ∙ due-blocks later opened found

  pub all-waiting : filter (waits later) all_tags ≡ map tag_of (filter (λ k. not (is_ready later.tailoring later.history k)) opened)
  all-waiting = ap (filter (waits later)) tags-are ∙ waiting-tags later opened found

  -- those that wait and whose verdict is the same wait on
  abbrev WaitsOn : ℕ → Type 0
  WaitsOn tag = is_same c tag ≡ true → waits later tag ≡ true

  on : (k : Kept) → IsFound later k → (is_same c (tag_of k) ≡ true → is_ready later.tailoring later.history k ≡ false) → WaitsOn (tag_of k)
  on k at unready same = ap (is_waiting later) at ∙ ap not (unready same)

  on-tags : (ks : List Kept) → AllByRecursion (IsFound later) ks → AllByRecursion (λ k. is_same c (tag_of k) ≡ true → is_ready later.tailoring later.history k ≡ false) ks
      → AllByRecursion WaitsOn (map tag_of ks)
  on-tags [] h f = tt
  on-tags (k ∷ ks) h f = (on k h.0 f.0, on-tags ks h.1 f.1)

  low : (b n : Bool) → (b && n) ≡ true → b ≡ true
  low true n e = refl
  low false n e = absurd (true≢false (sym e))

  high : (b n : Bool) → (b && n) ≡ true → n ≡ true
  high true n e = e
  high false n e = absurd (true≢false (sym e))

  pub all-same : AreSameBelow c.from g later → AllByRecursion WaitsOn all_tags
  all-same same =
      subst (AllByRecursion WaitsOn) (sym tags-are)
      (on-tags opened found
      (open-all (λ k. is_same c (tag_of k) ≡ true → is_ready later.tailoring later.history k ≡ false) tags g later.history.kept c.new rising step
      (all-map (λ k. is_ready g.tailoring g.history k ≡ false) (λ k. is_same c (tag_of k) ≡ true → is_ready later.tailoring later.history k ≡ false)
      (λ k unready e. stays g later c.from k same (low (is_below c.from (tag_of k)) (not (is_new c.new (tag_of k))) e) unready) (waiting_packets tags g) are.unready)
      (λ n is e.
      let new : is_new c.new (tag_of n) ≡ true = ap (λ o. is_new o (tag_of n)) is ∙ eq-eqb (tag_of n) (tag_of n) refl in
      let other : not (is_new c.new (tag_of n)) ≡ true = high (is_below c.from (tag_of n)) (not (is_new c.new (tag_of n))) e in
      absurd (true≢false (sym other ∙ ap not new)))))

  -- those that still wait
  pub still-waiting : AreWaiting (map tag_of (filter (λ k. not (is_ready later.tailoring later.history k)) opened)) later
  still-waiting =
      let unready : Kept → Bool = λ k. not (is_ready later.tailoring later.history k) in
      let q : Kept → Bool = λ k. is_open tags g.history.kept k && unready k in
      let as_one : filter unready opened ≡ filter q later.history.kept = filter-filter unready (is_open tags g.history.kept) later.history.kept in
      let packets : waiting_packets (map tag_of (filter unready opened)) later ≡ filter unready opened =
      ap (λ l. filter (has_tag (map tag_of l)) later.history.kept) as_one ∙ (those q later.history.kept rising_later ∙ sym as_one) in
      record {
        are = sym (ap (map tag_of) packets);
        unready = subst (AllByRecursion (λ k. is_ready later.tailoring later.history k ≡ false)) (sym packets)
            (all-map (λ k. unready k ≡ true) (λ k. is_ready later.tailoring later.history k ≡ false) (λ k e. off (is_ready later.tailoring later.history k) e) (filter unready opened)
            (filter-passes unready opened));
      }
    where
      off : (b : Bool) → not b ≡ true → b ≡ false
      off true e = absurd (true≢false (sym e))
      off false e = refl
