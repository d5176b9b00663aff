-- The moments of the end of a slot, as they are drafted one after the other.
use Rattle.std.proofs.Common.{arith, ◌≡◌, ℕ, ◌+◌, ◌≤◌, max, refl, sym, ◌∙◌, ap, ap₂, subst, List, [], ◌∷◌, ◌++◌, length, length-append, map, Option, Some, None, Result, Ok, Err, IfOk, OnOk}
use Rattle.std.proofs.lemmas.List.{reverse-append, length-map, append_assoc, append-nil}
use Rattle.hk_base.specs.Fit.{greatest_tag}
use Rattle.pus_messages.specs.declared.message.ReportBody.{ReportBody}
use Rattle.hk_world.specs.Timelines.{Session}
use Rattle.hk_world.specs.declared.moment.Moment.{Moment}
use Rattle.hk_world.specs.declared.moment.Act.{Act}
use Rattle.hk_world.specs.declared.moment.Act.TheVariants.{Filed, Emitted}
use Rattle.st20_grammar.specs.declared.bodies.Setting.{Setting}
use Rattle.hk_base.specs.declared.types.Param.{Param}
use Rattle.board_steps.specs.Cores.{Core, session, next_tag}
use Rattle.board_steps.specs.Plans.{Plan, Topic, does, tells, settables, own_filing}
use Rattle.board_steps.specs.Steps.{AreNext, IsNext, IsAbout, IsAsPlanned}
use Rattle.board_steps.proofs.TimeLemmas.{next-tag-more}
use Rattle.board_core.specs.Closing.{end_clock, own_setting, filing_of, end_settings, end_filings, IsDraftedTo, IsTelling, IsToTell}
use Rattle.board_core.specs.Logs.{LogParts, IsAdded, IsDrafted, drafted}
use Rattle.board_core.specs.Planned.{log_of}
use Rattle.board_core.specs.declared.log.Draft.{Draft}
use Rattle.board_core.proofs.UplinkLemmas.{verified, next-header}

-- the tag after so many moments
pub next-tags : (s : Session) (clock slot : ℕ) (earlier after : List Moment) (plans : List Plan) → AreNext s clock slot earlier plans after
    → next_tag clock after ≡ next_tag clock earlier + length plans
next-tags s clock slot earlier after [] h = let same = ap (next_tag clock) h in omega (arith, same)
next-tags s clock slot earlier after (plan ∷ plans) h =
    let more = next-tag-more clock earlier h.0 h.1.tag in
    let rest = next-tags s clock slot (h.0 ∷ earlier) after plans h.2 in
    omega (arith, more, rest)

-- one moment more
next-last : (s : Session) (clock slot : ℕ) (earlier mid : List Moment) (plans : List Plan) (plan : Plan) (m : Moment) → AreNext s clock slot earlier plans mid
    → IsNext s clock slot mid plan m → AreNext s clock slot earlier (plans ++ plan ∷ []) (m ∷ mid)
next-last s clock slot earlier mid [] plan m h n =
    (m, subst (λ ms. IsNext s clock slot ms plan m) h n, ap (λ (ms : List Moment). m ∷ ms) h)
next-last s clock slot earlier mid (p ∷ plans) plan m h n = (h.0, h.1, next-last s clock slot (h.0 ∷ earlier) mid plans plan m h.2 n)

-- first some, then others
pub next-parts : (s : Session) (clock slot : ℕ) (earlier after : List Moment) (xs ys : List Plan) → AreNext s clock slot earlier (xs ++ ys) after
    → (mid : List Moment) × AreNext s clock slot earlier xs mid × AreNext s clock slot mid ys after
next-parts s clock slot earlier after [] ys h = (earlier, refl, h)
next-parts s clock slot earlier after (x ∷ xs) ys h =
    let r = next-parts s clock slot (h.0 ∷ earlier) after xs ys h.2 in (r.0, (h.0, h.1, r.1), r.2)

map-twice : (c : Core) (ps : List Param) → map (filing_of c.slot_now) (map (own_setting c) ps) ≡ map (λ p. does (own_filing c p)) ps
map-twice c [] = refl
map-twice c (p ∷ ps) = ap (λ (xs : List Plan). does (own_filing c p) ∷ xs) (map-twice c ps)

-- the filings are those of the settings
pub filings-are : (c : Core) → map (filing_of c.slot_now) (end_settings c) ≡ end_filings c
filings-are c = map-twice c (settables c.tailoring)

pub filings-count : (c : Core) → length (end_filings c) ≡ length (settables c.tailoring)
filings-count c = length-map (settables c.tailoring) (λ p. does (own_filing c p))

drafted-more : (l : LogParts) (new : List Moment) (m : Moment) → drafted l (new ++ m ∷ []) ≡ m ∷ drafted l new
drafted-more l new m = ap (λ (xs : List Moment). xs ++ l.moments) (reverse-append new (m ∷ []))

-- a draft with the next moment, which is as planned
drafted-step : (c : Core) (plans : List Plan) (plan : Plan) (act : Act) (body : Option ReportBody) (old new : Draft) → IsDraftedTo c plans old → (g : IsDrafted (log_of c) old.clock act body old new)
    → (IsAdded c.tailoring (end_clock c) (drafted (log_of c) old.moments.items) act body g.moment → IsAsPlanned (session c) c.slot_now (drafted (log_of c) old.moments.items) g.moment plan)
    → IsDraftedTo c (plans ++ plan ∷ []) new
drafted-step c plans plan act body old new h g follows =
    let earlier : List Moment = drafted (log_of c) old.moments.items in
    let added : IsAdded c.tailoring (end_clock c) earlier act body g.moment =
    subst (λ n. IsAdded c.tailoring n (drafted (log_of c) old.moments.items) act body g.moment) h.clock_is g.added in
    let next : IsNext (session c) (end_clock c) c.slot_now earlier plan g.moment =
    record { tag = added.tag; follows = follows added; header = next-header c.tailoring earlier g.moment body added.packet; octets = added.octets } in
    let items = ap (drafted (log_of c)) g.moments ∙ drafted-more (log_of c) old.moments.items g.moment in
    record {
      draft = g.draft;
      clock_is = g.clock_is ∙ h.clock_is;
      count = let a = ap length g.moments in let b = length-append old.moments.items (g.moment ∷ []) in let d = length-append plans (plan ∷ []) in let e = h.count in omega (arith, a, b, d, e);
      moments = subst (λ ms. AreNext (session c) (end_clock c) c.slot_now c.moments (plans ++ plan ∷ []) ms) (sym items)
          (next-last (session c) (end_clock c) c.slot_now c.moments earlier plans plan g.moment h.moments next);
    }

-- a filing more
pub drafted-filing : (c : Core) (plans : List Plan) (x : Setting) (old new : Draft) → IsDraftedTo c plans old → IsDrafted (log_of c) old.clock (Filed x.param c.slot_now x.value) None old new
    → IsDraftedTo c (plans ++ filing_of c.slot_now x ∷ []) new
drafted-filing c plans x old new h g = drafted-step c plans (filing_of c.slot_now x) (Filed x.param c.slot_now x.value) None old new h g (λ added. (added.act_is, added.packet))

-- a report more
drafted-report : (c : Core) (plans : List Plan) (topic : Topic) (body : ReportBody) (old new : Draft) → IsDraftedTo c plans old → IsDrafted (log_of c) old.clock Emitted (Some body) old new
    → ((tag : ℕ) → tag ≡ next_tag (end_clock c) (drafted (log_of c) old.moments.items) → IsAbout (session c) c.slot_now (drafted (log_of c) old.moments.items) tag topic body)
    → IsDraftedTo c (plans ++ tells topic ∷ []) new
drafted-report c plans topic body old new h g about =
    let earlier : List Moment = drafted (log_of c) old.moments.items in
    drafted-step c plans (tells topic) Emitted (Some body) old new h g
    (λ added. (added.act_is, (body, verified (session c) earlier g.moment body added.packet, about g.moment.tag added.tag)))

map-last : (topics : List Topic) (topic : Topic) → map tells (topics ++ topic ∷ []) ≡ map tells topics ++ tells topic ∷ []
map-last [] topic = refl
map-last (x ∷ xs) topic = ap (λ (ys : List Plan). tells x ∷ ys) (map-last xs topic)

pub telling-more : (c : Core) (topics : List Topic) (topic : Topic) (body : ReportBody) (old new : Draft) → IsTelling c topics old → IsDrafted (log_of c) old.clock Emitted (Some body) old new
    → ((tag : ℕ) → tag ≡ next_tag (end_clock c) (drafted (log_of c) old.moments.items) → IsAbout (session c) c.slot_now (drafted (log_of c) old.moments.items) tag topic body)
    → IsTelling c (topics ++ topic ∷ []) new
telling-more c topics topic body old new h g about =
    let same : (end_filings c ++ map tells topics) ++ tells topic ∷ [] ≡ end_filings c ++ map tells (topics ++ topic ∷ []) =
    append_assoc (end_filings c) (map tells topics) (tells topic ∷ []) ∙ ap (λ (xs : List Plan). end_filings c ++ xs) (sym (map-last topics topic)) in
    subst (λ ps. IsDraftedTo c ps new) same (drafted-report c (end_filings c ++ map tells topics) topic body old new h g about)

-- the next tag is one that a packet can carry
pub is-early : (c : Core) (plans : List Plan) (d : Draft) → IsDraftedTo c plans d → next_tag (end_clock c) c.moments + length plans ≤ greatest_tag c.tailoring
    → max d.clock (d.last_tag + 1) ≤ greatest_tag c.tailoring
is-early c plans d h time =
    let tags = next-tags (session c) (end_clock c) c.slot_now c.moments (drafted (log_of c) d.moments.items) plans h.moments in
    let here : next_tag (end_clock c) (drafted (log_of c) d.moments.items) ≤ greatest_tag c.tailoring = subst (λ n. n ≤ greatest_tag c.tailoring) (sym tags) time in
    subst (λ n. max n (d.last_tag + 1) ≤ greatest_tag c.tailoring) (sym h.clock_is)
    (subst (λ n. max (end_clock c) (n + 1) ≤ greatest_tag c.tailoring) (sym h.draft.last_is) here)

-- the plans of a draft with some reports
pub telling-count : (c : Core) (topics : List Topic) → length (end_filings c ++ map tells topics) ≡ length (settables c.tailoring) + length topics
telling-count c topics =
    let a = length-append (end_filings c) (map tells topics) in
    let b = length-map topics tells in
    let e = filings-count c in
    omega (arith, a, b, e)

-- a report more has a tag
pub telling-early : (c : Core) (d : Draft) → IsToTell c 1 d → max d.clock (d.last_tag + 1) ≤ greatest_tag c.tailoring
telling-early c d t =
    let n = telling-count c t.topics in
    let time = t.left.time in
    is-early c (end_filings c ++ map tells t.topics) d t.telling (omega (arith, n, time))

-- the filings alone have room and time
pub filings-time : (c : Core) (d : Draft) → IsToTell c 1 d → next_tag (end_clock c) c.moments + length (settables c.tailoring) ≤ greatest_tag c.tailoring
filings-time c d t = let time = t.left.time in omega (arith, time)

pub filings-room : (c : Core) (d : Draft) → IsToTell c 1 d → length c.moments + length (settables c.tailoring) ≤ 1048576
filings-room c d t = let room = t.left.room in omega (arith, room)

-- the tag of the next moment of a draft
pub telling-tag : (c : Core) (topics : List Topic) (d : Draft) → IsTelling c topics d → max d.clock (d.last_tag + 1) ≡ next_tag (end_clock c) (drafted (log_of c) d.moments.items)
telling-tag c topics d h = ap₂ (λ k n. max k (n + 1)) h.clock_is h.draft.last_is

-- no report is drafted yet
pub none-told : (c : Core) (d : Draft) → IsDraftedTo c (end_filings c) d → IsTelling c [] d
none-told c d h = subst (λ ps. IsDraftedTo c ps d) (sym (append-nil (end_filings c))) h

-- what holds of an Ok holds of it still by what follows
pub if-ok : {X E : Type 0} (P Q : X → Type 0) → ((x : X) → P x → Q x) → (r : Result X E) → IfOk r P → IfOk r Q
if-ok P Q f (Ok x) h = f x h
if-ok P Q f (Err fault) h = tt

pub on-ok : {X E : Type 0} (A B : Type 0) → (A → B) → (r : Result X E) → OnOk r A → OnOk r B
on-ok A B f (Ok x) h = f h
on-ok A B f (Err fault) h = tt
