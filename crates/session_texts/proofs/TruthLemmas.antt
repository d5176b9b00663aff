-- In every world what is written is true.
use Rattle.std.proofs.Common.{◌≡◌, ℕ, ◌<◌, refl, sym, ◌∙◌, ap, subst, List, [], ◌∷◌, ◌++◌, Bool, true, false, Option, Some, None, ◌⊎◌, inl, inr}
use Rattle.std.proofs.lemmas.Bool.{true≢false}
use Rattle.std.proofs.lemmas.Option.{none-some, same_Some}
use Rattle.std.specs.Prelude.{◌≢◌, flat_map}
use Rattle.std.specs.List.{cons_option, AllByRecursion}
use Rattle.hk_base.specs.TailoringParts.{TailoringParts}
use Rattle.hk_base.specs.declared.types.Key.{Key}
use Rattle.hk_base.specs.declared.types.Definition.{Definition}
use Rattle.hk_base.proofs.Membership.{IsIn, IsIn-index, filter_map-IsIn, IsIn-AllByRecursion}
use Rattle.st03_grammar.specs.declared.bodies.Report03.TheVariants as hk
use Rattle.st04_grammar.specs.declared.bodies.Report04.TheVariants as stat
use Rattle.pus_messages.specs.Messages.{protocol}
use Rattle.pus_messages.specs.Protocol.{Reception, readable}
use Rattle.pus_messages.specs.declared.message.Report.{Report}
use Rattle.pus_messages.specs.declared.message.ReportBody.{ReportBody}
use Rattle.pus_messages.specs.declared.message.ReportBody.TheVariants.{Verify, Hk, Stat, Par}
use Rattle.hk_world.specs.Timelines.{Session, tailoring}
use Rattle.hk_world.specs.Honest.{IsReport}
use Rattle.hk_world.specs.Worlds.{World, IsWorld, entries_seen}
use Rattle.hk_world.specs.declared.moment.Moment.{Moment}
use Rattle.ground_history.specs.Histories.{Kept, History, tag_of, history_of}
use Rattle.ground_history.specs.Attribution.{AreGenuine}
use Rattle.ground_history.specs.Bounds.{history_in}
use Rattle.ground_history.proofs.EntryLemmas.{world-attributed}
use Rattle.definition_intervals.specs.Openings.{is_settled}
use Rattle.definition_intervals.specs.Verdicts.{verdict, verdict_of, named_request}
use Rattle.definition_intervals.specs.Soundness.{HasReport, IsSound, IsReadTruly, places_of, verdict_in}
use Rattle.definition_intervals.specs.declared.answer.Verdict.{Verdict}
use Rattle.definition_intervals.specs.declared.answer.Verdict.TheVariants.{Decided, Undecidable, Crowded, NoOpening, Impossible}
use Rattle.definition_intervals.proofs.KnownWorlds.{protocol_lawful, verdicts_sound}
use Rattle.definition_intervals.proofs.ValueLemmas.{values_true}
use Rattle.definition_intervals.proofs.NamedLemmas.{names_are_open}
use Rattle.session_record.specs.Records.{header_of}
use Rattle.session_record.specs.declared.header.Header.{Header}
use Rattle.session_record.specs.declared.entry.Entry.{Entry}
use Rattle.session_texts.specs.Sessions.{seen, known_after, kinds_of, kinds_after}
use Rattle.session_texts.specs.Texts.{count_lines, blocks, text}
use Rattle.session_texts.specs.Truth.{Block, statistics_block, current_block, block_tag, block_lines, openings_in, IsNamed, AreTrueRows, IsUnsettled, IsTrueVerdict, IsTrueReason, HasTrueReason, IsOfReport, IsTrueBlock, IsBlockOf, has_block, HasEachReport, HaveRisingTags, HasTrueReasons, IsTrueText, IsSeenIn, kinds_in}
use Rattle.session_texts.proofs.BlockLemmas.{read_rows, verdict_rows, report_block, block_of_body, block_of, blocks_of, lines-of}
use Rattle.session_texts.proofs.KeptFacts.{AreRising, kept-rising, IsThatOf, that-of, IsKeptFor, kept-for}
use Rattle.session_texts.proofs.CountFacts.{counts-true}
use Rattle.session_texts.proofs.NamingLemmas.{named_by, no-opening, IsFirstOfLatest, named-first}

-- ---- the verdict on a kept report

module _ (t : TailoringParts) (w : World) (key : Key) (tag : ℕ) (payload : List ℕ) (e : w.session.protocol ≡ protocol t) (world : IsWorld w) (kept : HasReport (history_in w) key tag payload) where
  sound : IsSound w key tag payload
  sound = verdicts_sound t w key tag payload e world kept

  -- the values of a decided report
  true-rows : (d : Definition) → verdict_in w key tag payload ≡ Decided d → AreTrueRows w key tag d (verdict_rows (tailoring w.session) tag payload (Decided d))
  true-rows d is =
      let found = sound.decided d is in
      let r : IsReadTruly w key tag payload d = values_true t w key tag payload d e world kept is in
      subst (AreTrueRows w key tag d) (sym (ap (read_rows (places_of w tag d)) r.read))
      (record { structure = found.0; in_force = found.1; definition_is = found.2; places = r.each_place; values = r.each_value })

  opened : verdict_in w key tag payload ≢ NoOpening → openings_in w key tag ≢ []
  opened other none = other (ap (verdict_of (tailoring w.session) tag payload) none)

  unsettled : ((d : Definition) → verdict_in w key tag payload ≢ Decided d) → (b : Bool) → is_settled (tailoring w.session) (history_in w) key tag ≡ b → b ≡ false
  unsettled other false p = refl
  unsettled other true p = let r = sound.settled p in absurd (other r.0 r.1)

  named : (k : ℕ) → named_by (verdict_in w key tag payload) (named_request (openings_in w key tag)) ≡ k → verdict_in w key tag payload ≢ NoOpening
      → ((d : Definition) → verdict_in w key tag payload ≢ Decided d)
      → ((verdict_in w key tag payload ≡ Undecidable k) ⊎ (verdict_in w key tag payload ≡ Crowded k)) → IsNamed w key tag k
  named k names opens other told =
      let shut : is_settled (tailoring w.session) (history_in w) key tag ≡ false = unsettled other (is_settled (tailoring w.session) (history_in w) key tag) refl in
      let f : IsFirstOfLatest (openings_in w key tag) k = named-first (tailoring w.session) tag payload (openings_in w key tag) k shut names opens in
      let at = IsIn-index f.opening (openings_in w key tag) f.inside in
      record {
        place = at.0;
        opening = f.opening;
        there = at.1;
        greatest = f.greatest;
        first = f.first;
        open_change = names_are_open w.session.protocol w.session.known w.session.long (entries_seen w.session.requests w.steps) key tag payload k told;
      }

  open-report : ((d : Definition) → verdict_in w key tag payload ≢ Decided d) → IsUnsettled w key tag
  open-report other = unsettled other (is_settled (tailoring w.session) (history_in w) key tag) refl

  true-verdict : (v : Verdict) → verdict_in w key tag payload ≡ v → IsTrueVerdict w key tag v (verdict_rows (tailoring w.session) tag payload v)
  true-verdict (Decided d) is = true-rows d is
  true-verdict (Undecidable k) is = (open-report (λ d x. let clash : Undecidable k ≡ Decided d = sym is ∙ x in cc), refl)
  true-verdict (Crowded k) is = (open-report (λ d x. let clash : Crowded k ≡ Decided d = sym is ∙ x in cc), refl)
  true-verdict NoOpening is = (open-report (λ d x. let clash : NoOpening ≡ Decided d = sym is ∙ x in cc), refl)
  true-verdict Impossible is = absurd (sound.possible is)

  true-reason : (v : Verdict) → verdict_in w key tag payload ≡ v → IsTrueReason w key tag v
  true-reason (Decided d) is = opened (λ none. let clash : Decided d ≡ NoOpening = sym is ∙ none in cc)
  true-reason (Undecidable k) is =
      let names : named_by (verdict_in w key tag payload) (named_request (openings_in w key tag)) ≡ k = ap (λ v. named_by v (named_request (openings_in w key tag))) is in
      named k names (λ none. let clash : Undecidable k ≡ NoOpening = sym is ∙ none in cc) (λ d x. let clash : Undecidable k ≡ Decided d = sym is ∙ x in cc) (inl is)
  true-reason (Crowded k) is =
      let names : named_by (verdict_in w key tag payload) (named_request (openings_in w key tag)) ≡ k = ap (λ v. named_by v (named_request (openings_in w key tag))) is in
      named k names (λ none. let clash : Crowded k ≡ NoOpening = sym is ∙ none in cc) (λ d x. let clash : Crowded k ≡ Decided d = sym is ∙ x in cc) (inr is)
  true-reason NoOpening is = no-opening (tailoring w.session) tag payload (openings_in w key tag) is
  true-reason Impossible is = absurd (sound.possible is)

-- ---- the block of a kept packet

of-report : (w : World) (k : Kept) (body : ReportBody) → k.report.body ≡ body → IsThatOf w.session w.steps k → IsOfReport w (tag_of k) body
of-report w k body e x =
    subst (IsOfReport w (tag_of k)) e
    (record { made = (x.place, x.moment, x.there, x.tag, x.report); number = x.number; moment = x.moment; delivered = x.delivered; tag_is = x.tag; report = x.report })

true-body : (t : TailoringParts) (w : World) → w.session.protocol ≡ protocol t → IsWorld w → (k : Kept) → IsIn k (history_in w).kept → (body : ReportBody) → k.report.body ≡ body
    → (b : Block) → block_of_body (tailoring w.session) (history_in w) (tag_of k) body ≡ Some b → IsTrueBlock w b
true-body t w e world k i (Verify v) is b some = absurd (none-some b some)
true-body t w e world k i (Hk (hk.Structure key structure)) is b some = absurd (none-some b some)
true-body t w e world k i (Hk (hk.Periodic kind rows)) is b some = absurd (none-some b some)
true-body t w e world k i (Stat (stat.Definitions enabled interval params)) is b some = absurd (none-some b some)
true-body t w e world k i (Hk (hk.Values key payload)) is b some =
    let at = IsIn-index k (history_in w).kept i in
    let report : HasReport (history_in w) key (tag_of k) payload = (at.0, k, at.1, refl, is) in
    let v : Verdict = verdict_in w key (tag_of k) payload in
    subst (IsTrueBlock w) (same_Some (report_block (tailoring w.session) key (tag_of k) payload v) b some)
    ((payload, of-report w k (Hk (hk.Values key payload)) is (that-of w.session w.steps world.steps k i)), true-verdict t w key (tag_of k) payload e world report v refl)
true-body t w e world k i (Stat (stat.Statistics report)) is b some =
    let r : IsOfReport w (tag_of k) (Stat (stat.Statistics report)) = of-report w k (Stat (stat.Statistics report)) is (that-of w.session w.steps world.steps k i) in
    subst (IsTrueBlock w) (same_Some (statistics_block (tag_of k) report) b some) (r, λ row x there. (report, r.made, there))
true-body t w e world k i (Par report) is b some =
    let r : IsOfReport w (tag_of k) (Par report) = of-report w k (Par report) is (that-of w.session w.steps world.steps k i) in
    subst (IsTrueBlock w) (same_Some (current_block (tag_of k) report) b some) (r, λ row x there. (report, r.made, there))

-- in a world the block of a kept packet is true
pub true-block : (t : TailoringParts) (w : World) → w.session.protocol ≡ protocol t → IsWorld w → (k : Kept) → IsIn k (history_in w).kept
    → (b : Block) → block_of (tailoring w.session) (history_in w) k ≡ Some b → IsTrueBlock w b
true-block t w e world k i b some = true-body t w e world k i k.report.body refl b some

reason-body : (t : TailoringParts) (w : World) → w.session.protocol ≡ protocol t → IsWorld w → (k : Kept) → IsIn k (history_in w).kept → (body : ReportBody) → k.report.body ≡ body
    → (b : Block) → block_of_body (tailoring w.session) (history_in w) (tag_of k) body ≡ Some b → HasTrueReason w b
reason-body t w e world k i (Verify v) is b some = absurd (none-some b some)
reason-body t w e world k i (Hk (hk.Structure key structure)) is b some = absurd (none-some b some)
reason-body t w e world k i (Hk (hk.Periodic kind rows)) is b some = absurd (none-some b some)
reason-body t w e world k i (Stat (stat.Definitions enabled interval params)) is b some = absurd (none-some b some)
reason-body t w e world k i (Hk (hk.Values key payload)) is b some =
    let at = IsIn-index k (history_in w).kept i in
    let report : HasReport (history_in w) key (tag_of k) payload = (at.0, k, at.1, refl, is) in
    let v : Verdict = verdict_in w key (tag_of k) payload in
    subst (HasTrueReason w) (same_Some (report_block (tailoring w.session) key (tag_of k) payload v) b some) (true-reason t w key (tag_of k) payload e world report v refl)
reason-body t w e world k i (Stat (stat.Statistics report)) is b some = subst (HasTrueReason w) (same_Some (statistics_block (tag_of k) report) b some) tt
reason-body t w e world k i (Par report) is b some = subst (HasTrueReason w) (same_Some (current_block (tag_of k) report) b some) tt

-- and it gives a true reason
pub true-reasons : (t : TailoringParts) (w : World) → w.session.protocol ≡ protocol t → IsWorld w → (k : Kept) → IsIn k (history_in w).kept
    → (b : Block) → block_of (tailoring w.session) (history_in w) k ≡ Some b → HasTrueReason w b
true-reasons t w e world k i b some = reason-body t w e world k i k.report.body refl b some

-- a report that has a block
pub block-is : (t : TailoringParts) (h : History) (tag : ℕ) (body : ReportBody) → has_block body ≡ true → (b : Block) × (block_of_body t h tag body ≡ Some b) × IsBlockOf tag body b
block-is t h tag (Verify v) e = absurd (true≢false (sym e))
block-is t h tag (Hk (hk.Structure key structure)) e = absurd (true≢false (sym e))
block-is t h tag (Hk (hk.Periodic kind rows)) e = absurd (true≢false (sym e))
block-is t h tag (Stat (stat.Definitions enabled interval params)) e = absurd (true≢false (sym e))
block-is t h tag (Hk (hk.Values key payload)) e = (_, refl, (refl, refl))
block-is t h tag (Stat (stat.Statistics report)) e = (_, refl, (refl, refl))
block-is t h tag (Par report) e = (_, refl, (refl, refl))

-- the block of a kept packet has its tag
pub block-tag : (t : TailoringParts) (h : History) (tag : ℕ) (body : ReportBody) (b : Block) → block_of_body t h tag body ≡ Some b → block_tag b ≡ tag
block-tag t h tag (Verify v) b e = absurd (none-some b e)
block-tag t h tag (Hk (hk.Structure key structure)) b e = absurd (none-some b e)
block-tag t h tag (Hk (hk.Periodic kind rows)) b e = absurd (none-some b e)
block-tag t h tag (Stat (stat.Definitions enabled interval params)) b e = absurd (none-some b e)
block-tag t h tag (Hk (hk.Values key payload)) b e = ap block_tag (sym (same_Some (report_block t key tag payload (verdict t h key tag payload)) b e))
block-tag t h tag (Stat (stat.Statistics report)) b e = ap block_tag (sym (same_Some (statistics_block tag report) b e))
block-tag t h tag (Par report) b e = ap block_tag (sym (same_Some (current_block tag report) b e))

-- what holds of kept packets holds of their blocks
pub all-blocks : (t : TailoringParts) (h : History) (P : Kept → Type 0) (Q : Block → Type 0) → ((k : Kept) (b : Block) → block_of t h k ≡ Some b → P k → Q b)
    → (ks : List Kept) → AllByRecursion P ks → AllByRecursion Q (blocks_of t h ks)
all-blocks t h P Q f [] all = tt
all-blocks t h P Q f (k ∷ ks) all = go (block_of t h k) refl (all-blocks t h P Q f ks all.1)
  where
    go : (o : Option Block) → block_of t h k ≡ o → AllByRecursion Q (blocks_of t h ks) → AllByRecursion Q (cons_option o (blocks_of t h ks))
    go None p rest = rest
    go (Some b) p rest = (f k b p all.0, rest)

-- blocks stand as the kept packets do
pub rising-blocks : (t : TailoringParts) (h : History) (ks : List Kept) → AreRising ks → HaveRisingTags (blocks_of t h ks)
rising-blocks t h [] rising = tt
rising-blocks t h (k ∷ ks) rising = go (block_of t h k) refl (rising-blocks t h ks rising.1)
  where
    go : (o : Option Block) → block_of t h k ≡ o → HaveRisingTags (blocks_of t h ks) → HaveRisingTags (cons_option o (blocks_of t h ks))
    go None p rest = rest
    go (Some b) p rest =
        let own : tag_of k ≡ block_tag b = sym (block-tag t h (tag_of k) k.report.body b p) in (
          all-blocks t h (λ j. tag_of k < tag_of j) (λ c. block_tag b < block_tag c)
              (λ j c q above. subst (λ n. block_tag b < n) (sym (block-tag t h (tag_of j) j.report.body c q)) (subst (λ n. n < tag_of j) own above))
              ks rising.0,
          rest,
        )

-- the body of a moment's report is that of the packet that was kept for it
pub kept-body : (s : Session) (m : Moment) (body : ReportBody) (r : Report) → IsReport s m body → s.protocol.reception m.packet ≡ readable r → body ≡ r.body
kept-body s m body r is read = ap body_in (sym is.1 ∙ read)
  where
    body_in : Reception → ReportBody
    body_in (readable x) = x.body
    body_in _ = body

-- what is known in a world is genuine
pub world-genuine : (t : TailoringParts) (w : World) → w.session.protocol ≡ protocol t → IsWorld w
    → AreGenuine w.session.protocol w.session.known w.session.long (entries_seen w.session.requests w.steps)
world-genuine t w e world = (world-attributed w [] w.steps (protocol_lawful t w.session e) world refl).genuine

each-report : (t : TailoringParts) (w : World) → w.session.protocol ≡ protocol t → IsWorld w → HasEachReport w (blocks_of (tailoring w.session) (history_in w) (history_in w).kept)
each-report t w e world i m body there is has =
    let k : IsKeptFor w.session w.steps m = kept-for w.session w.steps world.steps (world-genuine t w e world) i m there in
    let same : body ≡ k.kept.report.body = kept-body w.session m body k.kept.report is k.read in
    let b = block-is (tailoring w.session) (history_in w) (tag_of k.kept) k.kept.report.body (ap has_block (sym same) ∙ has) in
    let at = IsIn-index b.0 (blocks_of (tailoring w.session) (history_in w) (history_in w).kept)
    (filter_map-IsIn (block_of (tailoring w.session) (history_in w)) k.kept b.0 (history_in w).kept k.inside b.1) in
    let of : IsBlockOf m.tag body b.0 = subst (λ n. IsBlockOf n body b.0) (sym k.tag) (subst (λ x. IsBlockOf (tag_of k.kept) x b.0) (sym same) b.2) in
    (at.0, b.0, at.1, of)

-- in a world the text of what is known is true, and gives true reasons
pub known-true : (t : TailoringParts) (w : World) → w.session.protocol ≡ protocol t → IsWorld w
    → HasTrueReasons HaveRisingTags w (blocks w.session.protocol (history_in w) ++ count_lines (kinds_in w))
known-true t w e world = (
  record {
    front = flat_map (block_lines (tailoring w.session)) all;
    written = record {
      blocks = all;
      lines = refl;
      order = rising-blocks (tailoring w.session) (history_in w) (history_in w).kept
          (kept-rising w.session.protocol w.session.known w.session.long (entries_seen w.session.requests w.steps));
      each = all-blocks (tailoring w.session) (history_in w) (λ k. IsIn k (history_in w).kept) (IsTrueBlock w)
          (λ k b some i. true-block t w e world k i b some) (history_in w).kept inside;
    };
    kinds = kinds_in w;
    lines = ap (λ xs. xs ++ count_lines (kinds_in w)) (lines-of (tailoring w.session) (history_in w) (history_in w).kept);
    complete = each-report t w e world;
    counts = counts-true w world.steps (world-genuine t w e world);
  },
  all-blocks (tailoring w.session) (history_in w) (λ k. IsIn k (history_in w).kept) (HasTrueReason w)
      (λ k b some i. true-reasons t w e world k i b some) (history_in w).kept inside,
)
  where
    all : List Block
    all = blocks_of (tailoring w.session) (history_in w) (history_in w).kept

    inside : AllByRecursion (λ k. IsIn k (history_in w).kept) (history_in w).kept
    inside = IsIn-AllByRecursion (λ k. IsIn k (history_in w).kept) (history_in w).kept (λ k i. i)

pub known_reasons : (t : TailoringParts) (w : World) → w.session.protocol ≡ protocol t → IsWorld w
    → HasTrueReasons HaveRisingTags w (blocks (protocol t) (history_in w) ++ count_lines (kinds_in w))
known_reasons t w e world = subst (λ p. HasTrueReasons HaveRisingTags w (blocks p (history_in w) ++ count_lines (kinds_in w))) e (known-true t w e world)

pub known_texts : (t : TailoringParts) (w : World) → w.session.protocol ≡ protocol t → IsWorld w → IsTrueText w (blocks (protocol t) (history_in w) ++ count_lines (kinds_in w))
known_texts t w e world = (known_reasons t w e world).0

-- what is known after the entries of a world is what is known in it
pub seen-known : (t : TailoringParts) (w : World) (h : Header) (entries : List Entry) → w.session.protocol ≡ protocol t → IsSeenIn w h entries → known_after (protocol t) h entries ≡ history_in w
seen-known t w h entries e s =
    ap (λ p. history_of p h.known h.long (seen entries)) (sym e)
    ∙ ap (λ b. history_of w.session.protocol b h.long (seen entries)) s.0
    ∙ ap (λ b. history_of w.session.protocol w.session.known b (seen entries)) s.1
    ∙ ap (history_of w.session.protocol w.session.known w.session.long) s.2

pub seen-kinds : (t : TailoringParts) (w : World) (h : Header) (entries : List Entry) → w.session.protocol ≡ protocol t → IsSeenIn w h entries → kinds_after (protocol t) h entries ≡ kinds_in w
seen-kinds t w h entries e s =
    ap (λ p. kinds_of p (header_of h.known h.long) (seen entries)) (sym e)
    ∙ ap (λ b. kinds_of w.session.protocol (header_of b h.long) (seen entries)) s.0
    ∙ ap (λ b. kinds_of w.session.protocol (header_of w.session.known b) (seen entries)) s.1
    ∙ ap (kinds_of w.session.protocol (header_of w.session.known w.session.long)) s.2

-- in a world the text of its entries is true, and gives true reasons
pub reasons_true : (t : TailoringParts) (w : World) (h : Header) (entries : List Entry) → w.session.protocol ≡ protocol t → IsWorld w → IsSeenIn w h entries
    → HasTrueReasons HaveRisingTags w (text (protocol t) h entries)
reasons_true t w h entries e world s =
    subst (λ x. HasTrueReasons HaveRisingTags w (blocks (protocol t) x ++ count_lines (kinds_after (protocol t) h entries))) (sym (seen-known t w h entries e s))
    (subst (λ x. HasTrueReasons HaveRisingTags w (blocks (protocol t) (history_in w) ++ count_lines x)) (sym (seen-kinds t w h entries e s)) (known_reasons t w e world))

pub texts_true : (t : TailoringParts) (w : World) (h : Header) (entries : List Entry) → w.session.protocol ≡ protocol t → IsWorld w → IsSeenIn w h entries
    → IsTrueText w (text (protocol t) h entries)
texts_true t w h entries e world s = (reasons_true t w h entries e world s).0
