-- The statistics at the end of a slot, and at the start.
use Rattle.std.proofs.Common.{arith, ◌≡◌, ℕ, ◌<◌, ◌≤◌, ◌+◌, ◌^◌, refl, sym, ◌∙◌, ap, ap₂, subst, List, [], ◌∷◌, ◌++◌, length-append, map, ◌*◌, Bool, true, false, ◌&&◌, ◌==◌, nat_lt, Some, pos, negsuc, FitsSigned}
use Rattle.std.specs.Int.{w128}
use Rattle.std.specs.Prelude.{ℤ, MatchBool, if◌then◌else◌}
use Rattle.std.proofs.Math.Nat.{pow-le-pow_right}
use Rattle.std.proofs.lemmas.Int.{ints}
use Rattle.std.specs.List.{All, AllByRecursion, AllZip}
use Rattle.std.proofs.lemmas.List.Elements.{All-from_recursion}
use Rattle.hk_base.specs.Fit.{IsFit, IsFitShape}
use Rattle.hk_base.specs.Parameters.{parameter, fits}
use Rattle.hk_base.specs.declared.types.Form.{Form}
use Rattle.hk_base.specs.declared.types.Form.TheVariants.{Unsigned, Signed, Enumerated, Boolean}
use Rattle.hk_base.specs.declared.types.Key.{Key}
use Rattle.hk_base.specs.declared.types.Param.{Param}
use Rattle.hk_base.proofs.Numbers.{pow_of_octets}
use Rattle.hk_base.specs.TailoringParts.{TailoringParts}
use Rattle.body_fields.specs.Spelling.{IsInOctets}
use Rattle.statistics.specs.Summaries.{Sample, sample, IsSampleValue}
use Rattle.st20_grammar.specs.declared.bodies.Setting.{Setting}
use Rattle.hk_world.specs.Timelines.{EachAfter, Session, done_by}
use Rattle.hk_world.specs.States as states
use Rattle.hk_world.specs.Honest.{samples_of}
use Rattle.hk_world.specs.Worlds.{MayHappen}
use Rattle.hk_world.specs.declared.moment.Moment.{Moment}
use Rattle.hk_world.specs.declared.moment.Act.TheVariants.{Filed}
use Rattle.body_fields.proofs.FitLemmas.{count_in_octets, fits-in_octets, parameter-fit}
use Rattle.board_steps.specs.Cores.{Core, session, state_of, new_core, last_tag}
use Rattle.board_steps.specs.Plans.{Topic, does, tells}
use Rattle.board_steps.specs.Slots.{is_statistics_due, ends_interval}
use Rattle.board_steps.specs.Steps.{AreNext}
use Rattle.board_state.specs.Statistics.{StatisticsHeld, AreStatistics, IsMember, IsSettled, Counts, CountsAt, Files}
use Rattle.board_state.specs.declared.members.Member.{Member}
use Rattle.board_state.specs.declared.channels.Channel.{Channel}
use Rattle.board_state.specs.declared.running.Running.{Running}
use Rattle.board_state.specs.declared.structures.Held.{Held}
use Rattle.board_state.proofs.ChannelLemmas.{IsNoFiling}
use Rattle.board_state.proofs.MemberLemmas.{StartsEmpty}
use Rattle.board_state.proofs.StatisticsLemmas.{statistics-still, settled-still, statistics-filed}
use Rattle.board_state.proofs.SummaryLemmas.{samples-few, zip-each}
use Rattle.board_core.specs.Boards.{IsWhole}
use Rattle.board_core.specs.Reporting.{FilesAll, HasAtMost}
use Rattle.board_core.proofs.ExecutedLemmas.{told-keep}

-- the samples so far, with one more
pub files-last : (slot : ℕ) (xs : List Setting) (x : Setting) (old mid new : StatisticsHeld) → FilesAll slot xs old mid → Files x.param (sample slot x.value) mid new
    → FilesAll slot (xs ++ x ∷ []) old new
files-last slot [] x old mid new h k = (new, subst (λ o. Files x.param (sample slot x.value) o new) h k, refl)
files-last slot (y ∷ ys) x old mid new h k = (h.0, h.1, files-last slot ys x h.0 mid new h.2 k)

-- a member with one more sample at most
one-more : (n id : ℕ) (v : Sample) (old new : Member) → HasAtMost n old → CountsAt id v old new → HasAtMost (n + 1) new
one-more n id v old new h k = go (old.param == id) k
  where
    go : (b : Bool) → MatchBool b ((new.param ≡ id) × Counts v old.stat new.stat) (new ≡ old) → HasAtMost (n + 1) new
    go true q = record { samples = h.samples ++ v ∷ []; totals = q.1 h.samples h.totals; few = let few = h.few in omega (arith, few, length-append h.samples (v ∷ [])) }
    go false q = subst (HasAtMost (n + 1)) (sym q) (record { samples = h.samples; totals = h.totals; few = let few = h.few in omega (arith, few) })

pub all-one-more : (n id : ℕ) (v : Sample) (old new : List Member) → AllByRecursion (HasAtMost n) old → AllZip (CountsAt id v) old new → AllByRecursion (HasAtMost (n + 1)) new
all-one-more n id v [] [] h k = tt
all-one-more n id v [] (y ∷ ys) h k = absurd k
all-one-more n id v (x ∷ xs) [] h k = absurd k
all-one-more n id v (x ∷ xs) (y ∷ ys) h k = (one-more n id v x y h.0 k.0, all-one-more n id v xs ys h.1 k.1)

-- there is room for one more sample
pub all-room : (n : ℕ) (xs : List Member) → n < 4294967295 → AllByRecursion (HasAtMost n) xs → All (λ (m : Member). m.stat.count < 4294967295) xs
all-room n xs lt h = All-from_recursion (λ (m : Member). m.stat.count < 4294967295) xs (go xs h)
  where
    go : (ys : List Member) → AllByRecursion (HasAtMost n) ys → AllByRecursion (λ (m : Member). m.stat.count < 4294967295) ys
    go [] k = tt
    go (y ∷ ys) k = (let count = k.0.totals.count in let few = k.0.few in omega (arith, lt, count, few), go ys k.1)

-- no tag is above that of the newest moment
abbrev pub AreUpToLast : List Moment → Type 0
AreUpToLast moments = AllByRecursion (λ (e : Moment). e.tag ≤ last_tag moments) moments

weaker : (a b : ℕ) → a ≤ b → (moments : List Moment) → AllByRecursion (λ (e : Moment). e.tag ≤ a) moments → AllByRecursion (λ (e : Moment). e.tag ≤ b) moments
weaker a b le [] h = tt
weaker a b le (m ∷ ms) h = (omega (arith, le, h.0), weaker a b le ms h.1)

below-next : (a b : ℕ) → a < b → (moments : List Moment) → AllByRecursion (λ (e : Moment). e.tag ≤ a) moments → AllByRecursion (λ (e : Moment). e.tag < b) moments
below-next a b lt [] h = tt
below-next a b lt (m ∷ ms) h = (omega (arith, lt, h.0), below-next a b lt ms h.1)

pub up-to-last : (s : Session) (moments : List Moment) → EachAfter (MayHappen s) moments → AreUpToLast moments
up-to-last s [] h = tt
up-to-last s (m ∷ ms) h = (omega arith, go ms h.0.tag.above)
  where
    go : (es : List Moment) → AllByRecursion (λ (e : Moment). e.tag < m.tag) es → AllByRecursion (λ (e : Moment). e.tag ≤ m.tag) es
    go [] k = tt
    go (e ∷ es) k = (omega (arith, k.0), go es k.1)

-- the samples of the settable parameters are filed one after the other
pub filings-held : (s : Session) (clock slot : ℕ) (settings : List Setting) (moments after : List Moment) (old new : StatisticsHeld) → StartsEmpty s.initial → AreUpToLast moments
    → AreNext s clock slot moments (map (λ (x : Setting). does (Filed x.param slot x.value)) settings) after → FilesAll slot settings old new
    → IsSettled s moments → AreStatistics s moments old → AreStatistics s after new × IsSettled s after
filings-held s clock slot [] moments after old new empty tags h files settled before =
    subst (λ ms. AreStatistics s ms new × IsSettled s ms) (sym h) (subst (AreStatistics s moments) (sym files) before, settled)
filings-held s clock slot (x ∷ xs) moments after old new empty tags h files settled before =
    let m : Moment = h.0 in
    let act : m.act ≡ Filed x.param slot x.value = h.1.follows.0 in
    let tag = h.1.tag in
    let rises = below-next (last_tag moments) m.tag (omega (arith, tag)) moments tags in
    let here = statistics-filed s m moments x.param slot x.value old files.0 act settled empty (omega (arith, tag)) rises files.1 before in
    let up = weaker (last_tag moments) m.tag (omega (arith, tag)) moments tags in
    filings-held s clock slot xs (m ∷ moments) after files.0 new empty (omega arith, up) h.2 files.2 (settled-still s m moments (ap (done_by s m.tag) act)) here

-- reports leave what is held
pub reports-held : (s : Session) (clock slot : ℕ) (topics : List Topic) (earlier after : List Moment) (x : StatisticsHeld) → AreNext s clock slot earlier (map tells topics) after
    → AreStatistics s earlier x × IsSettled s earlier → AreStatistics s after x × IsSettled s after
reports-held s clock slot topics earlier after x h before =
    told-keep (λ ms. AreStatistics s ms x × IsSettled s ms) s clock slot
    (λ m ms act p. (statistics-still s m ms x (ap (done_by s m.tag) act) (subst IsNoFiling (sym act) tt) p.1 p.0, settled-still s m ms (ap (done_by s m.tag) act))) topics earlier after h before

-- whether the statistics are due, by what is held
pub due-alike : (c : Core) (x : StatisticsHeld) → AreStatistics (session c) c.moments x → (x.enabled && ends_interval x.first_slot x.interval c.slot_now) ≡ is_statistics_due c
due-alike c x h =
    ap₂ (λ (e : Bool) (n : ℕ). e && ends_interval x.first_slot n c.slot_now) h.enabled h.interval
    ∙ ap (λ n. (state_of c).statistics.enabled && ends_interval n (state_of c).statistics.interval c.slot_now) h.first_slot

-- no statistics are kept at the start
pub statistics-new : (t : TailoringParts) → IsFit t
    → AreStatistics (session (new_core t)) [] (record { members = []; enabled = false; interval = 1; first_slot = 0; start = 0 }) × IsSettled (session (new_core t)) []
statistics-new t fit =
    let longest = fit.widths.max_interval.0.0 in
    let room = fit.widths.max_interval.1 in (
      record {
        members = tt;
        enabled = refl;
        interval = refl;
        start = refl;
        first_slot = refl;
        ids = record { count = (omega arith, omega arith, count_in_octets t 0 fit (omega arith)); stand = tt };
        span = ((omega arith, longest), omega (arith, longest, room));
      },
      refl,
    )

-- no member has more samples than there are moments
pub held-few : (c : Core) (waiting : List Running) (held : List (Key × Held)) (channels : List (ℕ × Channel)) (x : StatisticsHeld) → IsWhole c waiting held channels x
    → AllByRecursion (HasAtMost 1048576) x.members
held-few c waiting held channels x h =
    zip-each (IsMember (state_of c) c.moments) (HasAtMost 1048576) few (state_of c).statistics.members x.members h.statistics.members
  where
    few : (a : states.Member) (m : Member) → IsMember (state_of c) c.moments a m → HasAtMost 1048576 m
    few a m p =
        record {
          samples = samples_of (state_of c) c.moments a;
          totals = p.1;
          few = let le = samples-few a.param (if nat_lt (state_of c).start a.added then a.added else (state_of c).start) c.moments in let room = h.board.room in omega (arith, le, room);
        }

-- a value that fits a parameter can be a sample
pub value-sampled : (t : TailoringParts) (id : ℕ) (q : Param) (v : ℤ) → IsFit t → parameter t id ≡ Some q → fits q v ≡ true → IsSampleValue v
value-sampled t id q v fit found ok = go q.form v (fits-in_octets q v shape ok)
  where
    shape : IsFitShape q
    shape = (parameter-fit t id q fit found).0.shape

    narrow : q.octets ≤ 8
    narrow = let octets = shape.octets in let bits = shape.bits.1 in omega (arith, octets, bits)

    most : 256 ^ q.octets ≤ 256 ^ 8
    most = let some : 0 < 256 = omega arith in pow-le-pow_right some narrow

    signed : 2 ^ (8 * q.octets) ≤ 256 ^ 8
    signed = subst (λ n. n ≤ 256 ^ 8) (pow_of_octets q.octets) most

    go : (form : Form) (z : ℤ) → IsInOctets form q.octets z → IsSampleValue z
    go Signed (pos n) h = record { least = omega (arith, ints); greatest = omega (arith, ints, h, signed) }
    go Signed (negsuc n) h = record { least = omega (arith, ints, h, signed); greatest = omega (arith, ints) }
    go Unsigned (pos n) h = record { least = omega (arith, ints); greatest = omega (arith, ints, h, most) }
    go Unsigned (negsuc n) h = absurd h
    go (Enumerated values) (pos n) h = record { least = omega (arith, ints); greatest = omega (arith, ints, h, most) }
    go (Enumerated values) (negsuc n) h = absurd h
    go Boolean (pos n) h = record { least = omega (arith, ints); greatest = omega (arith, ints, h, most) }
    go Boolean (negsuc n) h = absurd h

-- a sample has room in 128 bits
pub sample-fits : (v : ℤ) → IsSampleValue v → FitsSigned w128 v
sample-fits (pos n) h = let greatest = h.greatest in record { sfits = omega (arith, ints, greatest) }
sample-fits (negsuc n) h = let least = h.least in record { sfits = omega (arith, ints, least) }
