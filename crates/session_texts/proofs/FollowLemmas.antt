-- What is written as entries come is true in every world.
use Rattle.std.proofs.Common.{arith, ◌≡◌, ℕ, ◌<◌, refl, sym, ◌∙◌, ap, subst, List, [], ◌∷◌, ◌++◌, map, append_assoc, Bool, true, false, ◌==◌, cond, Option, Some, None, ◌⊎◌, inl, inr}
use Rattle.std.proofs.lemmas.List.{reverse-append, reverse-reverse}
use Rattle.std.proofs.lemmas.Grind.{flat_map-append}
use Rattle.std.proofs.lemmas.Bool.{true≢false, eq-eqb, eqb-true, and_parts, not-true}
use Rattle.std.proofs.lemmas.Option.{none-some, same_Some}
use Rattle.std.specs.Prelude.{◌≢◌, ◌&&◌, not, filter, flat_map, reverse}
use Rattle.std.specs.List.{AllByRecursion}
use Rattle.hk_base.specs.TailoringParts.{TailoringParts}
use Rattle.hk_base.proofs.Membership.{IsIn, IsIn-left, IsIn-right, IsIn-append, IsIn-index, IsIn-filter, filter-IsIn, filter_map-IsIn, IsIn-AllByRecursion, AllByRecursion-IsIn, AllByRecursion-append, list_any-IsIn, IsIn-list_any}
use Rattle.st03_grammar.specs.declared.bodies.Report03.TheVariants as hk
use Rattle.st04_grammar.specs.declared.bodies.Report04.TheVariants as stat
use Rattle.pus_messages.specs.Messages.{protocol}
use Rattle.pus_messages.specs.Protocol.{Protocol}
use Rattle.pus_messages.specs.declared.message.ReportBody.{ReportBody}
use Rattle.pus_messages.specs.declared.message.ReportBody.TheVariants.{Verify, Hk, Stat, Par}
use Rattle.hk_world.specs.Timelines.{EachAfter, Session, tailoring}
use Rattle.hk_world.specs.Worlds.{World, Step, send, happen, deliver, stray, IsWorld, MayStep, deliveries_of, entries_seen, packet_of}
use Rattle.hk_world.specs.Worlds as worlds
use Rattle.ground_history.specs.Histories.{Kept, History, tag_of, history_of}
use Rattle.ground_history.specs.Bounds.{history_after, history_in}
use Rattle.ground_history.specs.declared.answer.GotKind.{GotKind}
use Rattle.ground_history.proofs.WorldBounds.{earlier-steps}
use Rattle.definition_intervals.specs.Verdicts.{verdict}
use Rattle.definition_intervals.proofs.RecordLemmas.{HasGrown, world_grows}
use Rattle.session_record.specs.declared.header.Header.{Header}
use Rattle.session_record.specs.declared.entry.Entry.{Entry}
use Rattle.session_texts.specs.Sessions.{seen, seen_entry, known_after, kinds_after}
use Rattle.session_texts.specs.Blocks.{block}
use Rattle.session_texts.specs.Texts.{count_lines}
use Rattle.session_texts.specs.Follow.{is_ready, is_ready_body, has_tag, new_ones, known_by, written_tags, followed, follow_text}
use Rattle.session_texts.specs.Truth.{Block, statistics_block, current_block, block_lines, block_tag, HasTrueReason, IsTrueBlock, IsBlockOf, has_block, HasBlock, HasEachReport, HaveRisingTags, HaveDistinctTags, IsTrueSoFar, IsTrueFollowing, HasTrueReasons, IsSeenIn, kinds_in}
use Rattle.session_texts.proofs.EntryLemmas.{seen_with, seen-more}
use Rattle.session_texts.proofs.ProblemLemmas.{seen-append}
use Rattle.session_texts.proofs.BlockLemmas.{report_block, block_of_body, block_of, blocks_of, lines-of}
use Rattle.session_texts.proofs.KeptFacts.{AreRising, kept-rising, rising-once, IsKeptFor, kept-for}
use Rattle.session_texts.proofs.CountFacts.{counts-true}
use Rattle.session_texts.proofs.TruthLemmas.{true-block, true-reasons, block-is, block-tag, all-blocks, rising-blocks, kept-body, world-genuine, seen-kinds}
use Rattle.session_texts.proofs.LaterFacts.{IsFinal, world_of, block-later, reason-later}

-- ---- lists of blocks

-- one of the blocks is that of a report
abbrev HasOne : List Block → ℕ → ReportBody → Type 0
HasOne bs tag body = (b : Block) × IsIn b bs × IsBlockOf tag body b

has-block : (bs : List Block) (tag : ℕ) (body : ReportBody) → HasOne bs tag body → HasBlock bs tag body
has-block bs tag body (b, i, is) = let at = IsIn-index b bs i in (at.0, b, at.1, is)

-- tags that rise are distinct
rising-distinct : (bs : List Block) → HaveRisingTags bs → HaveDistinctTags bs
rising-distinct [] h = tt
rising-distinct (b ∷ bs) h = (
  IsIn-AllByRecursion (λ c. block_tag b ≢ block_tag c) bs
      (λ c i same. let above : block_tag b < block_tag c = AllByRecursion-IsIn (λ x. block_tag b < block_tag x) c bs h.0 i in omega (arith, above, same)),
  rising-distinct bs h.1,
)

distinct-append : (bs cs : List Block) → HaveDistinctTags bs → HaveDistinctTags cs → ((b c : Block) → IsIn b bs → IsIn c cs → block_tag b ≢ block_tag c) → HaveDistinctTags (bs ++ cs)
distinct-append [] cs h g apart = g
distinct-append (b ∷ bs) cs h g apart = (
  AllByRecursion-append (λ c. block_tag b ≢ block_tag c) bs cs h.0 (IsIn-AllByRecursion (λ c. block_tag b ≢ block_tag c) cs (λ c i. apart b c (inl refl) i)),
  distinct-append bs cs h.1 g (λ x c i j. apart x c (inr i) j),
)

-- some of the kept packets stand as all do
rising-filter : (test : Kept → Bool) (ks : List Kept) → AreRising ks → AreRising (filter test ks)
rising-filter test [] h = tt
rising-filter test (k ∷ ks) h = go (test k) (rising-filter test ks h.1)
  where
    above : AllByRecursion (λ j. tag_of k < tag_of j) (filter test ks)
    above =
        IsIn-AllByRecursion (λ j. tag_of k < tag_of j) (filter test ks)
        (λ j i. AllByRecursion-IsIn (λ x. tag_of k < tag_of x) j ks h.0 (IsIn-filter test j ks i).0)

    go : (b : Bool) → AreRising (filter test ks) → AreRising (cond b (k ∷ filter test ks) (filter test ks))
    go true rest = (above, rest)
    go false rest = rest

-- a kept packet whose tag is written has one of the tags
tag-written : (tags : List ℕ) (k : Kept) → has_tag tags k ≡ true → IsIn (tag_of k) tags
tag-written tags k e =
    let x = IsIn-list_any (λ tag. tag == tag_of k) tags e in
    subst (λ n. IsIn n tags) (eqb-true x.0 (tag_of k) x.2) x.1

written-tag : (tags : List ℕ) (k : Kept) → IsIn (tag_of k) tags → has_tag tags k ≡ true
written-tag tags k i = list_any-IsIn (λ tag. tag == tag_of k) (tag_of k) tags i (eq-eqb (tag_of k) (tag_of k) refl)

IsIn-map : {X Y : Type 0} (f : X → Y) (x : X) (xs : List X) → IsIn x xs → IsIn (f x) (map f xs)
IsIn-map f x [] i = i
IsIn-map f x (y ∷ xs) (inl e) = inl (ap f e)
IsIn-map f x (y ∷ xs) (inr i) = inr (IsIn-map f x xs i)

map-IsIn : {X Y : Type 0} (f : X → Y) (y : Y) (xs : List X) → IsIn y (map f xs) → (x : X) × IsIn x xs × (f x ≡ y)
map-IsIn f y [] i = absurd i
map-IsIn f y (x ∷ xs) (inl e) = (x, inl refl, sym e)
map-IsIn f y (x ∷ xs) (inr i) = let r = map-IsIn f y xs i in (r.0, inr r.1, r.2)

-- ---- the blocks that kept packets bring after others

-- the block of a report that can be written can't be taken back
ready-final : (t : TailoringParts) (h : History) (tag : ℕ) (body : ReportBody) (b : Block) → is_ready_body t h tag body ≡ true → block_of_body t h tag body ≡ Some b → IsFinal b
ready-final t h tag (Verify v) b ready e = absurd (none-some b e)
ready-final t h tag (Hk (hk.Structure key structure)) b ready e = absurd (none-some b e)
ready-final t h tag (Hk (hk.Periodic kind rows)) b ready e = absurd (none-some b e)
ready-final t h tag (Stat (stat.Definitions enabled interval params)) b ready e = absurd (none-some b e)
ready-final t h tag (Hk (hk.Values key payload)) b ready e = subst IsFinal (same_Some (report_block t key tag payload (verdict t h key tag payload)) b e) ready
ready-final t h tag (Stat (stat.Statistics report)) b ready e = subst IsFinal (same_Some (statistics_block tag report) b e) tt
ready-final t h tag (Par report) b ready e = subst IsFinal (same_Some (current_block tag report) b e) tt

-- what was written after some steps: blocks that are true, give true reasons and can't be taken back, each of another report, and each with one of the tags that are written; each tag that is written is that of a kept packet, whose block is there if it has one
record IsWritten (s : Session) (steps : List Step) (tags text : List ℕ) : Type 0 where
  blocks : List Block
  lines : text ≡ flat_map (block_lines (tailoring s)) blocks
  once : HaveDistinctTags blocks
  each : AllByRecursion (IsTrueBlock (world_of s steps)) blocks
  reasons : AllByRecursion (HasTrueReason (world_of s steps)) blocks
  final : AllByRecursion IsFinal blocks
  within : AllByRecursion (λ b. IsIn (block_tag b) tags) blocks
  written : (tag : ℕ) → IsIn tag tags → (k : Kept) × IsIn k (history_after s steps).kept × (tag_of k ≡ tag) × (has_block k.report.body ≡ true → HasOne blocks tag k.report.body)

module _ (t : TailoringParts) (s : Session) (steps : List Step) (e : s.protocol ≡ protocol t) (world : IsWorld (world_of s steps)) where
  abbrev known : History
  known = history_after s steps

  known_rising : AreRising known.kept
  known_rising = kept-rising s.protocol s.known s.long (entries_seen s.requests steps)

  -- the blocks of kept packets that pass a test and aren't written yet
  module _ (test : Kept → Bool) (tags : List ℕ) (fresh : (k : Kept) → test k ≡ true → has_tag tags k ≡ false) where
    abbrev chosen : List Kept
    chosen = filter test known.kept

    abbrev new_blocks : List Block
    new_blocks = blocks_of (tailoring s) known chosen

    chosen_all : AllByRecursion (λ k. IsIn k chosen) chosen
    chosen_all = IsIn-AllByRecursion (λ k. IsIn k chosen) chosen (λ k i. i)

    new-once : HaveDistinctTags new_blocks
    new-once = rising-distinct new_blocks (rising-blocks (tailoring s) known chosen (rising-filter test known.kept known_rising))

    new-each : AllByRecursion (IsTrueBlock (world_of s steps)) new_blocks
    new-each =
        all-blocks (tailoring s) known (λ k. IsIn k chosen) (IsTrueBlock (world_of s steps))
        (λ k b some i. true-block t (world_of s steps) e world k (IsIn-filter test k known.kept i).0 b some) chosen chosen_all

    new-reasons : AllByRecursion (HasTrueReason (world_of s steps)) new_blocks
    new-reasons =
        all-blocks (tailoring s) known (λ k. IsIn k chosen) (HasTrueReason (world_of s steps))
        (λ k b some i. true-reasons t (world_of s steps) e world k (IsIn-filter test k known.kept i).0 b some) chosen chosen_all

    -- none of them has a tag that is written
    new-fresh : AllByRecursion (λ b. IsIn (block_tag b) tags → ⊥) new_blocks
    new-fresh =
        all-blocks (tailoring s) known (λ k. IsIn k chosen) (λ b. IsIn (block_tag b) tags → ⊥)
        (λ k b some i there.
        let own : block_tag b ≡ tag_of k = block-tag (tailoring s) known (tag_of k) k.report.body b some in
        let has : has_tag tags k ≡ true = written-tag tags k (subst (λ n. IsIn n tags) own there) in
        true≢false (sym has ∙ fresh k (IsIn-filter test k known.kept i).1))
        chosen chosen_all

    new-apart : (bs : List Block) → AllByRecursion (λ b. IsIn (block_tag b) tags) bs → (b c : Block) → IsIn b bs → IsIn c new_blocks → block_tag b ≢ block_tag c
    new-apart bs within b c i j same =
        AllByRecursion-IsIn (λ x. IsIn (block_tag x) tags → ⊥) c new_blocks new-fresh j
        (subst (λ n. IsIn n tags) same (AllByRecursion-IsIn (λ x. IsIn (block_tag x) tags) b bs within i))

    -- each of the kept packets that has a block has one of these
    new-has : (k : Kept) → IsIn k chosen → has_block k.report.body ≡ true → HasOne new_blocks (tag_of k) k.report.body
    new-has k i has =
        let b = block-is (tailoring s) known (tag_of k) k.report.body has in
        (b.0, filter_map-IsIn (block_of (tailoring s) known) k b.0 chosen i b.1, b.2)

  -- what an entry brings
  more-written : (tags text : List ℕ) → IsWritten s steps tags text
      → IsWritten s steps (tags ++ map tag_of (new_ones (tailoring s) known tags)) (text ++ flat_map (block (tailoring s) known) (new_ones (tailoring s) known tags))
  more-written tags text w =
      let bs : List Block = new_blocks test tags fresh in
      record {
        blocks = w.blocks ++ bs;
        lines =
            ap (λ xs. xs ++ flat_map (block (tailoring s) known) (new_ones (tailoring s) known tags)) w.lines
            ∙ ap (λ xs. flat_map (block_lines (tailoring s)) w.blocks ++ xs) (lines-of (tailoring s) known (new_ones (tailoring s) known tags))
            ∙ sym (flat_map-append (block_lines (tailoring s)) w.blocks bs);
        once = distinct-append w.blocks bs w.once (new-once test tags fresh) (new-apart test tags fresh w.blocks w.within);
        each = AllByRecursion-append (IsTrueBlock (world_of s steps)) w.blocks bs w.each (new-each test tags fresh);
        reasons = AllByRecursion-append (HasTrueReason (world_of s steps)) w.blocks bs w.reasons (new-reasons test tags fresh);
        final = AllByRecursion-append IsFinal w.blocks bs w.final new-final;
        within = AllByRecursion-append (λ b. IsIn (block_tag b) all_tags) w.blocks bs
            (IsIn-AllByRecursion (λ b. IsIn (block_tag b) all_tags) w.blocks (λ b i. IsIn-left (block_tag b) tags new_tags (AllByRecursion-IsIn (λ x. IsIn (block_tag x) tags) b w.blocks w.within i)))
            new-within;
        written = λ tag i. pick tag (IsIn-append tag tags new_tags i);
      }
    where
      test : Kept → Bool
      test k = is_ready (tailoring s) known k && not (has_tag tags k)

      fresh : (k : Kept) → test k ≡ true → has_tag tags k ≡ false
      fresh k p = not-true (has_tag tags k) (and_parts (is_ready (tailoring s) known k) (not (has_tag tags k)) p).1

      new_tags : List ℕ
      new_tags = map tag_of (new_ones (tailoring s) known tags)

      all_tags : List ℕ
      all_tags = tags ++ new_tags

      all : AllByRecursion (λ k. IsIn k (chosen test tags fresh)) (chosen test tags fresh)
      all = chosen_all test tags fresh

      new-final : AllByRecursion IsFinal (new_blocks test tags fresh)
      new-final =
          all-blocks (tailoring s) known (λ k. IsIn k (chosen test tags fresh)) IsFinal
          (λ k b some i.
          ready-final (tailoring s) known (tag_of k) k.report.body b
          (and_parts (is_ready (tailoring s) known k) (not (has_tag tags k)) (IsIn-filter test k known.kept i).1).0 some)
          (chosen test tags fresh) all

      new-within : AllByRecursion (λ b. IsIn (block_tag b) all_tags) (new_blocks test tags fresh)
      new-within =
          all-blocks (tailoring s) known (λ k. IsIn k (chosen test tags fresh)) (λ b. IsIn (block_tag b) all_tags)
          (λ k b some i.
          subst (λ n. IsIn n all_tags) (sym (block-tag (tailoring s) known (tag_of k) k.report.body b some))
          (IsIn-right (tag_of k) tags new_tags (IsIn-map tag_of k (chosen test tags fresh) i)))
          (chosen test tags fresh) all

      pick : (tag : ℕ) → IsIn tag tags ⊎ IsIn tag new_tags
          → (k : Kept) × IsIn k known.kept × (tag_of k ≡ tag) × (has_block k.report.body ≡ true → HasOne (w.blocks ++ new_blocks test tags fresh) tag k.report.body)
      pick tag (inl i) =
          let k = w.written tag i in
          (k.0, k.1, k.2, λ has. let b = k.3 has in (b.0, IsIn-left b.0 w.blocks (new_blocks test tags fresh) b.1, b.2))
      pick tag (inr i) =
          let k = map-IsIn tag_of tag (new_ones (tailoring s) known tags) i in (
            k.0,
            (IsIn-filter test k.0 known.kept k.1).0,
            k.2,
            λ has.
                let b = new-has test tags fresh k.0 k.1 has in
                (b.0, IsIn-right b.0 w.blocks (new_blocks test tags fresh) b.1, subst (λ n. IsBlockOf n k.0.report.body b.0) k.2 b.2),
          )

  -- what the end brings
  end-written : (tags text : List ℕ) → IsWritten s steps tags text → (kinds : List GotKind) → kinds ≡ kinds_in (world_of s steps)
      → HasTrueReasons HaveDistinctTags (world_of s steps) (text ++ (flat_map (block (tailoring s) known) (filter (λ k. not (has_tag tags k)) known.kept) ++ count_lines kinds))
  end-written tags text w kinds is =
      let bs : List Block = new_blocks test tags fresh in (
        record {
          front = flat_map (block_lines (tailoring s)) (w.blocks ++ bs);
          written = record {
            blocks = w.blocks ++ bs;
            lines = refl;
            order = distinct-append w.blocks bs w.once (new-once test tags fresh) (new-apart test tags fresh w.blocks w.within);
            each = AllByRecursion-append (IsTrueBlock (world_of s steps)) w.blocks bs w.each (new-each test tags fresh);
          };
          kinds = kinds_in (world_of s steps);
          lines =
              ap (λ xs. xs ++ (flat_map (block (tailoring s) known) rest ++ count_lines kinds)) w.lines
              ∙ ap (λ xs. flat_map (block_lines (tailoring s)) w.blocks ++ (xs ++ count_lines kinds)) (lines-of (tailoring s) known rest)
              ∙ sym (append_assoc (flat_map (block_lines (tailoring s)) w.blocks) (flat_map (block_lines (tailoring s)) bs) (count_lines kinds))
              ∙ ap (λ xs. xs ++ count_lines kinds) (sym (flat_map-append (block_lines (tailoring s)) w.blocks bs))
              ∙ ap (λ xs. flat_map (block_lines (tailoring s)) (w.blocks ++ bs) ++ count_lines xs) is;
          complete = each-report;
          counts = counts-true (world_of s steps) world.steps (world-genuine t (world_of s steps) e world);
        },
        AllByRecursion-append (HasTrueReason (world_of s steps)) w.blocks bs w.reasons (new-reasons test tags fresh),
      )
    where
      test : Kept → Bool
      test k = not (has_tag tags k)

      fresh : (k : Kept) → test k ≡ true → has_tag tags k ≡ false
      fresh k p = not-true (has_tag tags k) p

      rest : List Kept
      rest = filter (λ k. not (has_tag tags k)) known.kept

      one : (k : Kept) → IsIn k known.kept → has_block k.report.body ≡ true → (b : Bool) → has_tag tags k ≡ b → HasOne (w.blocks ++ new_blocks test tags fresh) (tag_of k) k.report.body
      one k i has true p =
          let other = w.written (tag_of k) (tag-written tags k p) in
          let same : other.0 ≡ k = rising-once known.kept known_rising other.0 k other.1 i other.2 in
          let b : HasOne w.blocks (tag_of k) other.0.report.body = other.3 (ap (λ (x : Kept). has_block x.report.body) same ∙ has) in
          (b.0, IsIn-left b.0 w.blocks (new_blocks test tags fresh) b.1, subst (λ (x : Kept). IsBlockOf (tag_of k) x.report.body b.0) same b.2)
      one k i has false p =
          let b = new-has test tags fresh k (filter-IsIn test k known.kept i (ap not p)) has in
          (b.0, IsIn-right b.0 w.blocks (new_blocks test tags fresh) b.1, b.2)

      each-report : HasEachReport (world_of s steps) (w.blocks ++ new_blocks test tags fresh)
      each-report i m body there is_report has =
          let k : IsKeptFor s steps m = kept-for s steps world.steps (world-genuine t (world_of s steps) e world) i m there in
          let same : body ≡ k.kept.report.body = kept-body s m body k.kept.report is_report k.read in
          let b = one k.kept k.inside (ap has_block (sym same) ∙ has) (has_tag tags k.kept) refl in
          has-block (w.blocks ++ new_blocks test tags fresh) m.tag body
          (b.0, b.1, subst (λ n. IsBlockOf n body b.0) (sym k.tag) (subst (λ x. IsBlockOf (tag_of k.kept) x b.0) (sym same) b.2))

-- ---- the steps before an entry

-- steps whose entries are these, with those that came after them
record IsBefore (requests : List (List ℕ)) (steps : List Step) (xs : List worlds.Entry) : Type 0 where
  later : List Step
  earlier : List Step
  is : steps ≡ later ++ earlier
  seen_is : entries_seen requests earlier ≡ xs

one-later : (requests : List (List ℕ)) (step : Step) (steps : List Step) (xs : List worlds.Entry) → IsBefore requests steps xs → IsBefore requests (step ∷ steps) xs
one-later requests step steps xs b = record { later = step ∷ b.later; earlier = b.earlier; is = ap (λ l. step ∷ l) b.is; seen_is = b.seen_is }

tail-is : (x y : worlds.Entry) (xs ys : List worlds.Entry) → x ∷ xs ≡ y ∷ ys → xs ≡ ys
tail-is x y xs ys e = ap tail e
  where
    tail : List worlds.Entry → List worlds.Entry
    tail [] = []
    tail (z ∷ zs) = zs

before-entry : (requests : List (List ℕ)) (steps : List Step) (x : worlds.Entry) (xs : List worlds.Entry) → entries_seen requests steps ≡ x ∷ xs → IsBefore requests steps xs
before-entry requests [] x xs e = cc
before-entry requests (send k ∷ earlier) x xs e =
    record { later = send k ∷ []; earlier = earlier; is = refl; seen_is = tail-is (worlds.sent (packet_of requests k)) x (entries_seen requests earlier) xs e }
before-entry requests (happen m ∷ earlier) x xs e = one-later requests (happen m) earlier xs (before-entry requests earlier x xs e)
before-entry requests (deliver m ∷ earlier) x xs e =
    record { later = deliver m ∷ []; earlier = earlier; is = refl; seen_is = tail-is (worlds.got m.packet) x (entries_seen requests earlier) xs e }
before-entry requests (stray packet ∷ earlier) x xs e =
    record { later = stray packet ∷ []; earlier = earlier; is = refl; seen_is = tail-is (worlds.got packet) x (entries_seen requests earlier) xs e }

before-entries : (requests : List (List ℕ)) (steps : List Step) (later xs : List worlds.Entry) → entries_seen requests steps ≡ later ++ xs → IsBefore requests steps xs
before-entries requests steps [] xs e = record { later = []; earlier = steps; is = refl; seen_is = e }
before-entries requests steps (y ∷ later) xs e =
    let b : IsBefore requests steps (later ++ xs) = before-entry requests steps y (later ++ xs) e in
    let c : IsBefore requests b.earlier xs = before-entries requests b.earlier later xs b.seen_is in
    record {
      later = b.later ++ c.later;
      earlier = c.earlier;
      is = b.is ∙ ap (λ l. b.later ++ l) c.is ∙ sym (append_assoc b.later c.later c.earlier);
      seen_is = c.seen_is;
    }

before-seen : (requests : List (List ℕ)) (steps : List Step) (o : Option worlds.Entry) (xs : List worlds.Entry) → entries_seen requests steps ≡ seen_with o xs → IsBefore requests steps xs
before-seen requests steps None xs e = before-entries requests steps [] xs e
before-seen requests steps (Some x) xs e = before-entry requests steps x xs e

-- what is seen with one entry more in front
seen-newest : (e : Entry) (earlier : List Entry) → seen (reverse (e ∷ earlier)) ≡ seen_with (seen_entry e) (seen (reverse earlier))
seen-newest e earlier = ap seen (reverse-append (e ∷ []) earlier) ∙ seen-more (reverse earlier) e

-- ---- the induction over entries

-- a prefix of a world is a world
world-before : (s : Session) (steps later earlier : List Step) → steps ≡ later ++ earlier → IsWorld (world_of s steps) → IsWorld (world_of s earlier)
world-before s steps later earlier is world = record { session = world.session; steps = earlier-steps s later earlier (subst (EachAfter (MayStep s)) is world.steps) }

-- what was written in a prefix is so in the whole
written-later : (s : Session) (later earlier : List Step) (tags text : List ℕ) → EachAfter (MayStep s) (later ++ earlier) → IsWritten s earlier tags text → IsWritten s (later ++ earlier) tags text
written-later s later earlier tags text h w =
    record {
      blocks = w.blocks;
      lines = w.lines;
      once = w.once;
      each = IsIn-AllByRecursion (IsTrueBlock (world_of s (later ++ earlier))) w.blocks
          (λ b i. block-later s later earlier h b (AllByRecursion-IsIn IsFinal b w.blocks w.final i) (AllByRecursion-IsIn (IsTrueBlock (world_of s earlier)) b w.blocks w.each i));
      reasons = IsIn-AllByRecursion (HasTrueReason (world_of s (later ++ earlier))) w.blocks
          (λ b i. reason-later s later earlier b (AllByRecursion-IsIn IsFinal b w.blocks w.final i) (AllByRecursion-IsIn (HasTrueReason (world_of s earlier)) b w.blocks w.reasons i));
      final = w.final;
      within = w.within;
      written = λ tag i. let k = w.written tag i in (k.0, grown.kept k.0 k.1, k.2, k.3);
    }
  where
    grown : HasGrown (history_after s earlier) (history_after s (later ++ earlier))
    grown = world_grows (world_of s (later ++ earlier)) later earlier refl

-- the same where the whole is given otherwise
written-whole : (s : Session) (steps later earlier : List Step) (tags text : List ℕ) → steps ≡ later ++ earlier → IsWorld (world_of s steps) → IsWritten s earlier tags text → IsWritten s steps tags text
written-whole s steps later earlier tags text is world w =
    subst (λ l. IsWritten s l tags text) (sym is) (written-later s later earlier tags text (subst (EachAfter (MayStep s)) is world.steps) w)

-- what is known after entries of a session
known-is : (s : Session) (steps : List Step) (h : Header) (entries : List Entry) → h.known ≡ s.known → h.long ≡ s.long → seen entries ≡ entries_seen s.requests steps
    → known_after s.protocol h entries ≡ history_after s steps
known-is s steps h entries a b e =
    ap (λ x. history_of s.protocol x h.long (seen entries)) a
    ∙ ap (λ x. history_of s.protocol s.known x (seen entries)) b
    ∙ ap (history_of s.protocol s.known s.long) e

followed-written : (t : TailoringParts) (s : Session) (h : Header) (entries : List Entry) (steps : List Step) → s.protocol ≡ protocol t → IsWorld (world_of s steps) → h.known ≡ s.known → h.long ≡ s.long
    → seen (reverse entries) ≡ entries_seen s.requests steps → IsWritten s steps (written_tags s.protocol h entries) (followed s.protocol h entries)
followed-written t s h [] steps p world a b e =
    record { blocks = []; lines = refl; once = tt; each = tt; reasons = tt; final = tt; within = tt; written = λ tag i. absurd i }
followed-written t s h (x ∷ earlier) steps p world a b e =
    let tags : List ℕ = written_tags s.protocol h earlier in
    let text : List ℕ = followed s.protocol h earlier in
    let before : IsBefore s.requests steps (seen (reverse earlier)) = before-seen s.requests steps (seen_entry x) (seen (reverse earlier)) (sym e ∙ seen-newest x earlier) in
    let old : IsWritten s before.earlier tags text =
    followed-written t s h earlier before.earlier p (world-before s steps before.later before.earlier before.is world) a b (sym before.seen_is) in
    let here : IsWritten s steps tags text = written-whole s steps before.later before.earlier tags text before.is world old in
    let same : known_by s.protocol h (x ∷ earlier) ≡ history_after s steps = known-is s steps h (reverse (x ∷ earlier)) a b e in
    subst (λ k. IsWritten s steps (tags ++ map tag_of (new_ones (tailoring s) k tags)) (text ++ flat_map (block (tailoring s) k) (new_ones (tailoring s) k tags)))
    (sym same) (more-written t s steps p world tags text here)

-- ---- the laws

-- the entries twice turned round
turned : (w : World) (h : Header) (entries : List Entry) → IsSeenIn w h entries → IsSeenIn w h (reverse (reverse entries))
turned w h entries s = (s.0, s.1, ap seen (reverse-reverse entries) ∙ s.2)

whole-followed : (t : TailoringParts) (w : World) (h : Header) (entries : List Entry) → w.session.protocol ≡ protocol t → IsWorld w → IsSeenIn w h entries
    → HasTrueReasons HaveDistinctTags w (follow_text w.session.protocol h entries)
whole-followed t w h entries e world s =
    let p : Protocol = w.session.protocol in
    let tags : List ℕ = written_tags p h (reverse entries) in
    let text : List ℕ = followed p h (reverse entries) in
    let twice : IsSeenIn w h (reverse (reverse entries)) = turned w h entries s in
    let written : IsWritten w.session w.steps tags text = followed-written t w.session h (reverse entries) w.steps e world s.0 s.1 twice.2 in
    let kinds : kinds_after p h (reverse (reverse entries)) ≡ kinds_in w =
    ap (λ q. kinds_after q h (reverse (reverse entries))) e ∙ seen-kinds t w h (reverse (reverse entries)) e twice in
    let same : known_by p h (reverse entries) ≡ history_in w = known-is w.session w.steps h (reverse (reverse entries)) s.0 s.1 twice.2 in
    subst (λ k. HasTrueReasons HaveDistinctTags w
    (text ++ (flat_map (block (tailoring w.session) k) (filter (λ x. not (has_tag tags x)) k.kept) ++ count_lines (kinds_after p h (reverse (reverse entries))))))
    (sym same)
    (end-written t w.session w.steps e world tags text written (kinds_after p h (reverse (reverse entries))) kinds)

-- in every world what is written as its entries come is true, and gives true reasons
pub follow_reasons : (t : TailoringParts) (w : World) (h : Header) (entries : List Entry) → w.session.protocol ≡ protocol t → IsWorld w → IsSeenIn w h entries
    → HasTrueReasons HaveDistinctTags w (follow_text (protocol t) h entries)
follow_reasons t w h entries e world s = subst (λ p. HasTrueReasons HaveDistinctTags w (follow_text p h entries)) e (whole-followed t w h entries e world s)

pub follow_true : (t : TailoringParts) (w : World) (h : Header) (entries : List Entry) → w.session.protocol ≡ protocol t → IsWorld w → IsSeenIn w h entries
    → IsTrueFollowing w (follow_text (protocol t) h entries)
follow_true t w h entries e world s = (follow_reasons t w h entries e world s).0

so-far : (t : TailoringParts) (w : World) (h : Header) (earlier later : List Entry) → w.session.protocol ≡ protocol t → IsWorld w → IsSeenIn w h (earlier ++ later)
    → IsTrueSoFar w (followed w.session.protocol h (reverse earlier))
so-far t w h earlier later e world s =
    let p : Protocol = w.session.protocol in
    let tags : List ℕ = written_tags p h (reverse earlier) in
    let text : List ℕ = followed p h (reverse earlier) in
    let b : IsBefore w.session.requests w.steps (seen earlier) = before-entries w.session.requests w.steps (seen later) (seen earlier) (sym s.2 ∙ seen-append earlier later) in
    let old : IsWritten w.session b.earlier tags text =
    followed-written t w.session h (reverse earlier) b.earlier e (world-before w.session w.steps b.later b.earlier b.is world) s.0 s.1
    (ap seen (reverse-reverse earlier) ∙ sym b.seen_is) in
    let here : IsWritten w.session w.steps tags text = written-whole w.session w.steps b.later b.earlier tags text b.is world old in
    record { blocks = here.blocks; lines = here.lines; order = here.once; each = here.each }

-- so is what was written before any of its entries
pub follow_so_far : (t : TailoringParts) (w : World) (h : Header) (earlier later : List Entry) → w.session.protocol ≡ protocol t → IsWorld w → IsSeenIn w h (earlier ++ later)
    → IsTrueSoFar w (followed (protocol t) h (reverse earlier))
follow_so_far t w h earlier later e world s = subst (λ p. IsTrueSoFar w (followed p h (reverse earlier))) e (so-far t w h earlier later e world s)
