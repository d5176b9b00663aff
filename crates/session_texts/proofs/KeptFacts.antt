-- What was kept in a world: packets of the board that were delivered, each once, in the order of tags.
use Rattle.std.proofs.Common.{arith, ◌≡◌, ℕ, zero, suc, ◌<◌, ◌≤◌, refl, sym, ◌∙◌, ap, subst, List, [], ◌∷◌, Bool, true, false, ◌==◌, nat_lt, cond, Option, Some, None, ◌⊎◌, inl, inr}
use Rattle.std.proofs.lemmas.Bool.{ltb-true, ltb-false, eq-eqb, eqb-true, true≢false}
use Rattle.std.proofs.lemmas.Option.{none-some, same_Some}
use Rattle.std.proofs.lemmas.Slice.Eq.{bytes_eq-Decides}
use Rattle.std.specs.Prelude.{◌≢◌, ⊤, slice_get, find, bytes_eq, if◌then◌else◌}
use Rattle.std.specs.List.{AllByRecursion, list_any}
use Rattle.std.specs.Option.{option_map_or}
use Rattle.hk_base.proofs.Membership.{IsIn, IsIn-index, slice_get-IsIn, AllByRecursion-IsIn, IsIn-list_any, list_any-IsIn}
use Rattle.pus_messages.specs.Protocol.{Protocol, Reception, foreign, skipped, unread, readable}
use Rattle.pus_messages.specs.declared.message.Report.{Report}
use Rattle.hk_world.specs.Timelines.{EachAfter, Session}
use Rattle.hk_world.specs.Honest.{IsReport}
use Rattle.hk_world.specs.Worlds.{World, Step, Entry, send, happen, deliver, stray, sent, got, IsWorld, MayStep, IsStray, moments_of, deliveries_of, entries_seen, packet_of}
use Rattle.hk_world.specs.Worlds as worlds
use Rattle.hk_world.specs.declared.moment.Moment.{Moment}
use Rattle.hk_world.proofs.TimelineLemmas.{In}
use Rattle.hk_world.proofs.HonestLemmas.{read}
use Rattle.hk_world.proofs.SentLemmas.{in-get, moment-carries}
use Rattle.hk_world.proofs.DeliveryLemmas.{each_delivered}
use Rattle.ground_history.specs.Histories.{Kept, History, tag_of, insert_kept, kept_at, kind_by_tag, stray_id, number_of_body, kind_by_reception, got_kind, sent_answer, history_with_report, history_with_got, history_with, history_of}
use Rattle.ground_history.specs.Attribution.{IsGenuineKind, AreGenuine}
use Rattle.ground_history.specs.Bounds.{history_after}
use Rattle.ground_history.specs.declared.answer.GotKind.{GotKind}
use Rattle.ground_history.specs.declared.answer.GotKind.TheVariants as became
use Rattle.ground_history.proofs.KeptLemmas.{all-insert_kept, all-map, kept-send, kept_delivered}
use Rattle.ground_history.proofs.KnownLemmas.{moment-told}
use Rattle.definition_intervals.proofs.NamedLemmas.{find-some}
use Rattle.definition_intervals.proofs.RecordLemmas.{history-grows}
use Rattle.session_texts.specs.Texts.{is_repeat}

-- kept packets in the order of tags, no two with one tag
abbrev pub AreRising : List Kept → Type 0
AreRising [] = ⊤
AreRising (k ∷ ks) = AllByRecursion (λ j. tag_of k < tag_of j) ks × AreRising ks

all-above : (a b : ℕ) (ks : List Kept) → a < b → AllByRecursion (λ j. b < tag_of j) ks → AllByRecursion (λ j. a < tag_of j) ks
all-above a b ks lt h = all-map (λ j. b < tag_of j) (λ j. a < tag_of j) (λ j above. omega (arith, lt, above)) ks h

-- a packet with a tag that none has is put in its place
rising-insert : (k : Kept) (ks : List Kept) → AreRising ks → find (λ j. tag_of j == tag_of k) ks ≡ None → AreRising (insert_kept k ks)
rising-insert k [] h none = (tt, tt)
rising-insert k (j ∷ js) h none = go (nat_lt (tag_of k) (tag_of j)) (tag_of j == tag_of k) refl refl none (λ e. rising-insert k js h.1 e)
  where
    go : (b c : Bool) → nat_lt (tag_of k) (tag_of j) ≡ b → (tag_of j == tag_of k) ≡ c → cond c (Some j) (find (λ x. tag_of x == tag_of k) js) ≡ None
        → (find (λ x. tag_of x == tag_of k) js ≡ None → AreRising (insert_kept k js)) → AreRising (if b then k ∷ j ∷ js else j ∷ insert_kept k js)
    go b true e f g ih = absurd (none-some j (sym g))
    go true false e f g ih = let lt : tag_of k < tag_of j = ltb-true (tag_of k) (tag_of j) e in ((lt, all-above (tag_of k) (tag_of j) js lt h.0), h)
    go false false e f g ih =
        let le : tag_of j ≤ tag_of k = ltb-false (tag_of k) (tag_of j) e in
        let apart : tag_of j ≢ tag_of k = λ same. true≢false (sym (eq-eqb (tag_of j) (tag_of k) same) ∙ f) in
        let lt : tag_of j < tag_of k = omega (arith, le, apart) in
        (all-insert_kept (λ x. tag_of j < tag_of x) k js lt h.0, ih g)

rising-report : (h : History) (packet : List ℕ) (r : Report) → AreRising h.kept → AreRising (history_with_report h packet r (kind_by_reception h packet (readable r))).kept
rising-report h packet r rising = go (stray_id h r.header.tag r.body) (kept_at h r.header.tag) refl
  where
    pick : (b : Bool) → AreRising (history_with_report h packet r (if b then became.Repeat r.header.tag else became.Conflict r.header.tag)).kept
    pick true = rising
    pick false = rising

    go : (o : Option ℕ) (f : Option Kept) → kept_at h r.header.tag ≡ f
        → AreRising (history_with_report h packet r (option_map_or became.Stray o (kind_by_tag r.header.tag packet f))).kept
    go (Some id) f e = rising
    go None (Some k) e = pick (bytes_eq k.packet packet)
    go None None e = rising-insert (record { packet = packet; report = r; number = number_of_body h r.header.tag r.body }) h.kept rising e

rising-with : (p : Protocol) (h : History) (entry : Entry) → AreRising h.kept → AreRising (history_with p h entry).kept
rising-with p h (sent packet) rising = subst AreRising (sym (kept-send p h packet (sent_answer p h packet))) rising
rising-with p h (got packet) rising = go (p.reception packet)
  where
    go : (x : Reception) → AreRising (history_with_got h packet x).kept
    go (foreign apid) = rising
    go (skipped service subtype) = rising
    go unread = rising
    go (readable r) = rising-report h packet r rising

-- what is kept stands in the order of tags
pub kept-rising : (p : Protocol) (known long : Bool) (entries : List Entry) → AreRising (history_of p known long entries).kept
kept-rising p known long [] = tt
kept-rising p known long (entry ∷ earlier) = rising-with p (history_of p known long earlier) entry (kept-rising p known long earlier)

-- packets with one tag are one
pub rising-once : (ks : List Kept) → AreRising ks → (a b : Kept) → IsIn a ks → IsIn b ks → tag_of a ≡ tag_of b → a ≡ b
rising-once [] h a b i j e = absurd i
rising-once (k ∷ ks) h a b (inl p) (inl q) e = p ∙ sym q
rising-once (k ∷ ks) h a b (inl p) (inr j) e =
    let above : tag_of k < tag_of b = AllByRecursion-IsIn (λ x. tag_of k < tag_of x) b ks h.0 j in
    let same : tag_of a ≡ tag_of k = ap tag_of p in
    absurd (omega (arith, above, same, e))
rising-once (k ∷ ks) h a b (inr i) (inl q) e =
    let above : tag_of k < tag_of a = AllByRecursion-IsIn (λ x. tag_of k < tag_of x) a ks h.0 i in
    let same : tag_of b ≡ tag_of k = ap tag_of q in
    absurd (omega (arith, above, same, e))
rising-once (k ∷ ks) h a b (inr i) (inr j) e = rising-once ks h.1 a b i j e

insert-here : (k : Kept) (ks : List Kept) → IsIn k (insert_kept k ks)
insert-here k [] = inl refl
insert-here k (j ∷ js) = go (nat_lt (tag_of k) (tag_of j)) (insert-here k js)
  where
    go : (b : Bool) → IsIn k (insert_kept k js) → IsIn k (if b then k ∷ j ∷ js else j ∷ insert_kept k js)
    go true i = inl refl
    go false i = inr i

-- the packet that was kept with a tag
kept-at : (h : History) (tag : ℕ) (k : Kept) → kept_at h tag ≡ Some k → IsIn k h.kept × (tag_of k ≡ tag)
kept-at h tag k e = let r = find-some (λ j. tag_of j == tag) k h.kept e in (r.0, eqb-true (tag_of k) tag r.1)

find-absent : (tag : ℕ) (ks : List Kept) (k : Kept) → find (λ j. tag_of j == tag) ks ≡ None → IsIn k ks → tag_of k ≡ tag → ⊥
find-absent tag [] k e i same = i
find-absent tag (j ∷ js) k e i same = go (tag_of j == tag) refl e i (λ f x. find-absent tag js k f x same)
  where
    go : (c : Bool) → (tag_of j == tag) ≡ c → cond c (Some j) (find (λ x. tag_of x == tag) js) ≡ None → IsIn k (j ∷ js)
        → (find (λ x. tag_of x == tag) js ≡ None → IsIn k js → ⊥) → ⊥
    go true f g x ih = none-some j (sym g)
    go false f g (inl p) ih = true≢false (sym (eq-eqb (tag_of j) tag (ap tag_of (sym p) ∙ same)) ∙ f)
    go false f g (inr x) ih = ih g x

-- a packet that was delivered was kept, as a packet with its octets
abbrev IsHeld : History → List ℕ → Type 0
IsHeld h packet = (k : Kept) × IsIn k h.kept × (k.packet ≡ packet)

-- what becomes of a report in a world: it is the first with its tag, or another was kept
abbrev pub IsFirstOrAgain : History → ℕ → GotKind → Type 0
IsFirstOrAgain h tag kind = ((kind ≡ became.Kept tag) × (kept_at h tag ≡ None)) ⊎ ((kind ≡ became.Repeat tag) × ((k : Kept) × (kept_at h tag ≡ Some k)))

first-or-again : (h : History) (packet : List ℕ) (r : Report) → IsGenuineKind (kind_by_reception h packet (readable r)) → IsFirstOrAgain h r.header.tag (kind_by_reception h packet (readable r))
first-or-again h packet r genuine = go (stray_id h r.header.tag r.body) (kept_at h r.header.tag) refl genuine
  where
    pick : (k : Kept) (b : Bool) → kept_at h r.header.tag ≡ Some k → IsGenuineKind (if b then became.Repeat r.header.tag else became.Conflict r.header.tag)
        → IsFirstOrAgain h r.header.tag (if b then became.Repeat r.header.tag else became.Conflict r.header.tag)
    pick k true e g = inr (refl, (k, e))
    pick k false e g = absurd g

    go : (o : Option ℕ) (f : Option Kept) → kept_at h r.header.tag ≡ f → IsGenuineKind (option_map_or became.Stray o (kind_by_tag r.header.tag packet f))
        → IsFirstOrAgain h r.header.tag (option_map_or became.Stray o (kind_by_tag r.header.tag packet f))
    go (Some id) f e g = absurd g
    go None None e g = inl (refl, e)
    go None (Some k) e g = pick k (bytes_eq k.packet packet) e g

held-report : (h : History) (packet : List ℕ) (r : Report) → IsGenuineKind (kind_by_reception h packet (readable r)) → IsHeld (history_with_report h packet r (kind_by_reception h packet (readable r))) packet
held-report h packet r genuine = go (stray_id h r.header.tag r.body) (kept_at h r.header.tag) refl genuine
  where
    pick : (k : Kept) (b : Bool) → kept_at h r.header.tag ≡ Some k → bytes_eq k.packet packet ≡ b → IsGenuineKind (if b then became.Repeat r.header.tag else became.Conflict r.header.tag)
        → IsHeld (history_with_report h packet r (if b then became.Repeat r.header.tag else became.Conflict r.header.tag)) packet
    pick k true e same g = (k, (kept-at h r.header.tag k e).0, (bytes_eq-Decides k.packet packet).0 same)
    pick k false e same g = absurd g

    go : (o : Option ℕ) (f : Option Kept) → kept_at h r.header.tag ≡ f → IsGenuineKind (option_map_or became.Stray o (kind_by_tag r.header.tag packet f))
        → IsHeld (history_with_report h packet r (option_map_or became.Stray o (kind_by_tag r.header.tag packet f))) packet
    go (Some id) f e g = absurd g
    go None None e g =
        let new : Kept = record { packet = packet; report = r; number = number_of_body h r.header.tag r.body } in
        (new, insert-here new h.kept, refl)
    go None (Some k) e g = pick k (bytes_eq k.packet packet) e refl g

-- what was held is held after more
held-more : (s : Session) (entry : Entry) (entries : List Entry) (packet : List ℕ) → IsHeld (history_of s.protocol s.known s.long entries) packet
    → IsHeld (history_of s.protocol s.known s.long (entry ∷ entries)) packet
held-more s entry entries packet x = (x.0, (history-grows s.protocol s.known s.long (entry ∷ []) entries).kept x.0 x.1, x.2)

-- a packet that may be delivered is a report
delivered-read : (s : Session) (steps : List Step) → EachAfter (MayStep s) steps → (m : Moment) → In m (moments_of steps) → m.packet ≢ [] → (r : Report) × (s.protocol.reception m.packet ≡ readable r)
delivered-read s steps h m i some = let c = moment-carries s steps h m i in read s c.0 m m.act some c.1

-- in a world each packet that was delivered is held
pub delivered-held : (s : Session) (steps : List Step) → EachAfter (MayStep s) steps → AreGenuine s.protocol s.known s.long (entries_seen s.requests steps)
    → (i : ℕ) (m : Moment) → slice_get (deliveries_of steps) i ≡ Some m → IsHeld (history_after s steps) m.packet
delivered-held s [] h g i m e = absurd (none-some m e)
delivered-held s (send k ∷ earlier) h g i m e =
    held-more s (sent (packet_of s.requests k)) (entries_seen s.requests earlier) m.packet (delivered-held s earlier h.1 g.1 i m e)
delivered-held s (happen x ∷ earlier) h g i m e = delivered-held s earlier h.1 g i m e
delivered-held s (stray packet ∷ earlier) h g i m e = held-more s (got packet) (entries_seen s.requests earlier) m.packet (delivered-held s earlier h.1 g.1 i m e)
delivered-held s (deliver x ∷ earlier) h g (suc i) m e = held-more s (got x.packet) (entries_seen s.requests earlier) m.packet (delivered-held s earlier h.1 g.1 i m e)
delivered-held s (deliver x ∷ earlier) h g zero m e =
    let r = delivered-read s earlier h.1 x (in-get (moments_of earlier) h.0.0.0 x h.0.0.1) h.0.1 in
    let known : History = history_after s earlier in
    let genuine : IsGenuineKind (kind_by_reception known x.packet (readable r.0)) = subst (λ y. IsGenuineKind (kind_by_reception known x.packet y)) r.1 g.0 in
    let held : IsHeld (history_with_got known x.packet (s.protocol.reception x.packet)) x.packet =
    subst (λ y. IsHeld (history_with_got known x.packet y) x.packet) (sym r.1) (held-report known x.packet r.0 genuine) in
    subst (λ (y : Moment). IsHeld (history_with_got known x.packet (s.protocol.reception x.packet)) y.packet) (same_Some x m e) held

-- a kept packet is that of a moment that was delivered
pub record IsThatOf (s : Session) (steps : List Step) (k : Kept) : Type 0 where
  pub number : ℕ
  pub moment : Moment
  pub delivered : slice_get (deliveries_of steps) number ≡ Some moment
  pub place : ℕ
  pub there : slice_get (moments_of steps) place ≡ Some moment
  pub packet : moment.packet ≡ k.packet
  pub tag : moment.tag ≡ tag_of k
  pub report : IsReport s moment k.report.body

-- a moment that was delivered, with the report that its packet is
pub record IsDeliveredAs (s : Session) (steps : List Step) (m : Moment) (r : Report) : Type 0 where
  pub place : ℕ
  pub there : slice_get (moments_of steps) place ≡ Some m
  pub tag : m.tag ≡ r.header.tag
  pub report : IsReport s m r.body

pub delivered-as : (s : Session) (steps : List Step) → EachAfter (MayStep s) steps → (i : ℕ) (m : Moment) → slice_get (deliveries_of steps) i ≡ Some m
    → (r : Report) → s.protocol.reception m.packet ≡ readable r → IsDeliveredAs s steps m r
delivered-as s steps h i m e r is =
    let d = AllByRecursion-IsIn (worlds.IsDelivered s (moments_of steps)) m (deliveries_of steps) (each_delivered s steps h) (slice_get-IsIn m (deliveries_of steps) i e) in
    let told = moment-told s steps h m (in-get (moments_of steps) d.number m d.made) d.some r is in
    record { place = d.number; there = d.made; tag = sym told.tag; report = (r.header, is, told.tag) }

pub that-of : (s : Session) (steps : List Step) → EachAfter (MayStep s) steps → (k : Kept) → IsIn k (history_after s steps).kept → IsThatOf s steps k
that-of s steps h k i =
    let d = AllByRecursion-IsIn _ k (history_after s steps).kept (kept_delivered s steps h) i in
    let r : IsDeliveredAs s steps d.1 k.report = delivered-as s steps h d.0 d.1 d.2 k.report (ap s.protocol.reception d.3 ∙ d.4) in
    record { number = d.0; moment = d.1; delivered = d.2; place = r.place; there = r.there; packet = d.3; tag = r.tag; report = r.report }

-- a moment that was delivered, with the packet that was kept for it
pub record IsKeptFor (s : Session) (steps : List Step) (m : Moment) : Type 0 where
  pub kept : Kept
  pub inside : IsIn kept (history_after s steps).kept
  pub read : s.protocol.reception m.packet ≡ readable kept.report
  pub tag : m.tag ≡ tag_of kept

pub kept-for : (s : Session) (steps : List Step) → EachAfter (MayStep s) steps → AreGenuine s.protocol s.known s.long (entries_seen s.requests steps)
    → (i : ℕ) (m : Moment) → slice_get (deliveries_of steps) i ≡ Some m → IsKeptFor s steps m
kept-for s steps h g i m e =
    let held : IsHeld (history_after s steps) m.packet = delivered-held s steps h g i m e in
    let d = AllByRecursion-IsIn _ held.0 (history_after s steps).kept (kept_delivered s steps h) held.1 in
    let is : s.protocol.reception m.packet ≡ readable held.0.report = ap s.protocol.reception (sym held.2) ∙ d.4 in
    let r : IsDeliveredAs s steps m held.0.report = delivered-as s steps h i m e held.0.report is in
    record { kept = held.0; inside = held.1; read = is; tag = r.tag }

-- what becomes of a packet that is delivered: it is kept, or it is a repeat where one with its tag had been delivered before
pub record IsCounted (tag : ℕ) (earlier : List Moment) (kind : GotKind) : Type 0 where
  pub is : (kind ≡ became.Kept tag) ⊎ (kind ≡ became.Repeat tag)
  pub again : is_repeat kind ≡ list_any (λ (e : Moment). e.tag == tag) earlier

pub counted : (s : Session) (earlier : List Step) (m : Moment) → EachAfter (MayStep s) (deliver m ∷ earlier) → AreGenuine s.protocol s.known s.long (entries_seen s.requests (deliver m ∷ earlier))
    → IsCounted m.tag (deliveries_of earlier) (got_kind s.protocol (history_after s earlier) m.packet)
counted s earlier m h g =
    let inside : In m (moments_of earlier) = in-get (moments_of earlier) h.0.0.0 m h.0.0.1 in
    let r = delivered-read s earlier h.1 m inside h.0.1 in
    let told = moment-told s earlier h.1 m inside h.0.1 r.0 r.1 in
    let genuine : IsGenuineKind (kind_by_reception known m.packet (readable r.0)) = subst (λ y. IsGenuineKind (kind_by_reception known m.packet y)) r.1 g.0 in
    let found : IsFirstOrAgain known m.tag (kind_by_reception known m.packet (readable r.0)) =
    subst (λ n. IsFirstOrAgain known n (kind_by_reception known m.packet (readable r.0))) told.tag (first-or-again known m.packet r.0 genuine) in
    subst (λ y. IsCounted m.tag (deliveries_of earlier) (kind_by_reception known m.packet y)) (sym r.1)
    (of (kind_by_reception known m.packet (readable r.0)) found)
  where
    known : History
    known = history_after s earlier

    none-before : kept_at known m.tag ≡ None → (b : Bool) → list_any (λ (e : Moment). e.tag == m.tag) (deliveries_of earlier) ≡ b → false ≡ b
    none-before none false e = refl
    none-before none true e =
        let x = IsIn-list_any (λ (y : Moment). y.tag == m.tag) (deliveries_of earlier) e in
        let at = IsIn-index x.0 (deliveries_of earlier) x.1 in
        let k : IsKeptFor s earlier x.0 = kept-for s earlier h.1 g.1 at.0 x.0 at.1 in
        absurd (find-absent m.tag known.kept k.kept none k.inside (sym k.tag ∙ eqb-true x.0.tag m.tag x.2))

    one-before : (k : Kept) → kept_at known m.tag ≡ Some k → list_any (λ (e : Moment). e.tag == m.tag) (deliveries_of earlier) ≡ true
    one-before k e =
        let at = kept-at known m.tag k e in
        let x : IsThatOf s earlier k = that-of s earlier h.1 k at.0 in
        list_any-IsIn (λ (y : Moment). y.tag == m.tag) x.moment (deliveries_of earlier) (slice_get-IsIn x.moment (deliveries_of earlier) x.number x.delivered)
        (eq-eqb x.moment.tag m.tag (x.tag ∙ at.1))

    of : (kind : GotKind) → IsFirstOrAgain known m.tag kind → IsCounted m.tag (deliveries_of earlier) kind
    of kind (inl x) =
        record { is = inl x.0; again = ap is_repeat x.0 ∙ none-before x.1 (list_any (λ (e : Moment). e.tag == m.tag) (deliveries_of earlier)) refl }
    of kind (inr x) = record { is = inr x.0; again = ap is_repeat x.0 ∙ sym (one-before x.1.0 x.1.1) }
