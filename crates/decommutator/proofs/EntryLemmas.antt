-- One entry more at the end of a list.
use Rattle.std.proofs.Common.{arith, ◌≡◌, ℕ, ◌+◌, refl, sym, ◌∙◌, ap, List, [], ◌∷◌, ◌++◌, length, Bool, true, false, cond, Option, Some, None}
use Rattle.std.proofs.lemmas.List.{append-nil, reverse-append, length_push}
use Rattle.std.proofs.lemmas.List.Elements.{filter_map-append}
use Rattle.std.proofs.lemmas.List.Sums.{sum_by-cons}
use Rattle.std.specs.Prelude.{filter_map, reverse}
use Rattle.std.specs.List.{count_by}
use Rattle.hk_base.specs.TailoringParts.{TailoringParts}
use Rattle.pus_messages.specs.Messages.{protocol}
use Rattle.hk_world.specs.Worlds as worlds
use Rattle.ground_history.specs.Histories.{history_of, got_kind}
use Rattle.ground_history.specs.declared.answer.GotKind.{GotKind}
use Rattle.ground_history.specs.declared.answer.GotKind.TheVariants as became
use Rattle.session_record.specs.declared.header.Header.{Header}
use Rattle.session_record.specs.declared.entry.Entry.{Entry}
use Rattle.session_record.specs.declared.entry.Entry.TheVariants.{Sent, Got, Line}
use Rattle.session_texts.specs.Sessions.{seen_entry, seen, kinds_of}
use Rattle.session_texts.specs.Texts.{is_repeat, is_conflict, is_foreign, is_skipped, is_unread, is_stray}
use Rattle.block_lines.specs.declared.counts.Counts.{Counts}
use Rattle.block_lines.specs.Counts.{counts_of}
use Rattle.decommutator.specs.Standing.{Standing, with_kind, with_entry}
use Rattle.decommutator.specs.Entries.{standing_of}

-- what is seen with one entry more
abbrev seen_with : Option worlds.Entry → List worlds.Entry → List worlds.Entry
seen_with None earlier = earlier
seen_with (Some e) earlier = e ∷ earlier

seen-with : (e : Entry) (xs : List worlds.Entry) → reverse (xs ++ filter_map seen_entry (e ∷ [])) ≡ seen_with (seen_entry e) (reverse xs)
seen-with (Sent packet) xs = reverse-append xs (worlds.sent packet ∷ [])
seen-with (Got packet) xs = reverse-append xs (worlds.got packet ∷ [])
seen-with (Line text) xs = ap reverse (append-nil xs)

pub seen-more : (entries : List Entry) (e : Entry) → seen (entries ++ e ∷ []) ≡ seen_with (seen_entry e) (seen entries)
seen-more entries e = ap reverse (filter_map-append seen_entry entries (e ∷ [])) ∙ seen-with e (filter_map seen_entry entries)

-- a kind that passes no test, and one that passes it
count-none : (f : GotKind → Bool) (kind : GotKind) (kinds : List GotKind) → f kind ≡ false → count_by f (kind ∷ kinds) ≡ count_by f kinds
count-none f kind kinds e =
    let n : ℕ = count_by f kinds in
    let same : 0 + n ≡ n = omega arith in
    sum_by-cons (λ x. cond (f x) 1 0) kind kinds ∙ ap (λ b. cond b 1 0 + n) e ∙ same

count-one : (f : GotKind → Bool) (kind : GotKind) (kinds : List GotKind) → f kind ≡ true → count_by f (kind ∷ kinds) ≡ count_by f kinds + 1
count-one f kind kinds e =
    let n : ℕ = count_by f kinds in
    let same : 1 + n ≡ n + 1 = omega arith in
    sum_by-cons (λ x. cond (f x) 1 0) kind kinds ∙ ap (λ b. cond b 1 0 + n) e ∙ same

-- counts by their fields
abbrev counts : ℕ → ℕ → ℕ → ℕ → ℕ → ℕ → Counts
counts a b c d e f = record { repeats = a; conflicts = b; foreign = c; skipped = d; unread = e; stray = f }

counts-eq : {a b c d e f a' b' c' d' e' f' : ℕ} → a' ≡ a → b' ≡ b → c' ≡ c → d' ≡ d → e' ≡ e → f' ≡ f → counts a' b' c' d' e' f' ≡ counts a b c d e f
counts-eq p q r s t u = rw (p, q, r, s, t, u) refl

-- the counts with one packet more
pub counts-more : (kind : GotKind) (kinds : List GotKind) → counts_of (kind ∷ kinds) ≡ with_kind (counts_of kinds) kind
counts-more (became.Kept tag) kinds =
    let kind : GotKind = became.Kept tag in
    counts-eq
    (count-none is_repeat kind kinds refl)
    (count-none is_conflict kind kinds refl)
    (count-none is_foreign kind kinds refl)
    (count-none is_skipped kind kinds refl)
    (count-none is_unread kind kinds refl)
    (count-none is_stray kind kinds refl)
counts-more (became.Repeat tag) kinds =
    let kind : GotKind = became.Repeat tag in
    counts-eq
    (count-one is_repeat kind kinds refl)
    (count-none is_conflict kind kinds refl)
    (count-none is_foreign kind kinds refl)
    (count-none is_skipped kind kinds refl)
    (count-none is_unread kind kinds refl)
    (count-none is_stray kind kinds refl)
counts-more (became.Conflict tag) kinds =
    let kind : GotKind = became.Conflict tag in
    counts-eq
    (count-none is_repeat kind kinds refl)
    (count-one is_conflict kind kinds refl)
    (count-none is_foreign kind kinds refl)
    (count-none is_skipped kind kinds refl)
    (count-none is_unread kind kinds refl)
    (count-none is_stray kind kinds refl)
counts-more (became.Foreign apid) kinds =
    let kind : GotKind = became.Foreign apid in
    counts-eq
    (count-none is_repeat kind kinds refl)
    (count-none is_conflict kind kinds refl)
    (count-one is_foreign kind kinds refl)
    (count-none is_skipped kind kinds refl)
    (count-none is_unread kind kinds refl)
    (count-none is_stray kind kinds refl)
counts-more (became.Skipped service subtype) kinds =
    let kind : GotKind = became.Skipped service subtype in
    counts-eq
    (count-none is_repeat kind kinds refl)
    (count-none is_conflict kind kinds refl)
    (count-none is_foreign kind kinds refl)
    (count-one is_skipped kind kinds refl)
    (count-none is_unread kind kinds refl)
    (count-none is_stray kind kinds refl)
counts-more became.Unread kinds =
    let kind : GotKind = became.Unread in
    counts-eq
    (count-none is_repeat kind kinds refl)
    (count-none is_conflict kind kinds refl)
    (count-none is_foreign kind kinds refl)
    (count-none is_skipped kind kinds refl)
    (count-one is_unread kind kinds refl)
    (count-none is_stray kind kinds refl)
counts-more (became.Stray id) kinds =
    let kind : GotKind = became.Stray id in
    counts-eq
    (count-none is_repeat kind kinds refl)
    (count-none is_conflict kind kinds refl)
    (count-none is_foreign kind kinds refl)
    (count-none is_skipped kind kinds refl)
    (count-none is_unread kind kinds refl)
    (count-one is_stray kind kinds refl)

-- what stands for entries that are seen, the newest first
abbrev stands : TailoringParts → Header → List worlds.Entry → ℕ → Standing
stands t h earlier n =
    record { tailoring = t; history = history_of (protocol t) h.known h.long earlier; counts = counts_of (kinds_of (protocol t) h earlier); entries = n }

seen-next : (t : TailoringParts) (h : Header) (e : Entry) (earlier : List worlds.Entry) (n : ℕ)
    → stands t h (seen_with (seen_entry e) earlier) (n + 1) ≡ with_entry (stands t h earlier n) e
seen-next t h (Sent packet) earlier n = refl
seen-next t h (Got packet) earlier n =
    let kind : GotKind = got_kind (protocol t) (history_of (protocol t) h.known h.long earlier) packet in
    ap
    (λ c. record { tailoring = t; history = history_of (protocol t) h.known h.long (worlds.got packet ∷ earlier); counts = c; entries = n + 1 })
    (counts-more kind (kinds_of (protocol t) h earlier))
seen-next t h (Line text) earlier n = refl

-- what stands for entries with one more
pub next-stands : (t : TailoringParts) (h : Header) (entries : List Entry) (e : Entry)
    → with_entry (standing_of t h entries) e ≡ standing_of t h (entries ++ e ∷ [])
next-stands t h entries e =
    sym
    (ap (λ earlier. stands t h earlier (length (entries ++ e ∷ []))) (seen-more entries e)
    ∙ ap (stands t h (seen_with (seen_entry e) (seen entries))) (length_push entries e)
    ∙ seen-next t h e (seen entries) (length entries))
