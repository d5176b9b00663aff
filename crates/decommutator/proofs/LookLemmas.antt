-- Reports that are looked at one by one, in the order of tags.
use Rattle.std.proofs.Common.{◌≡◌, ℕ, ◌+◌, ◌<◌, refl, sym, ◌∙◌, ap, subst, List, [], ◌∷◌, ◌++◌, length, drop, get_or, append_assoc, Bool, true, false, cond, not, Option, Some, None, Result, Ok, Err, if◌then◌else◌}
use Rattle.std.proofs.lemmas.Bool.{true≢false}
use Rattle.std.proofs.lemmas.List.{drop_more}
use Rattle.std.proofs.lemmas.List.Elements.{filter-append}
use Rattle.std.proofs.lemmas.Grind.{flat_map-append}
use Rattle.std.specs.Prelude.{OnOk, filter, flat_map}
use Rattle.std.specs.List.{AllByRecursion}
use Rattle.pus_messages.specs.declared.message.Report.{Report}
use Rattle.ground_history.specs.Ground.{Ground}
use Rattle.entry_changes.specs.Changes.{IsBelow}
use Rattle.session_record.specs.declared.entry.WriteFault.{WriteFault}
use Rattle.session_texts.specs.Blocks.{body_block}
use Rattle.decommutator.specs.Output.{Seen, Proceeds}
use Rattle.decommutator.specs.Due.{is_same, is_ready_report, due_block, is_waiting, report_from, due_text, waits}
use Rattle.decommutator.specs.declared.changed.Changed.{Changed}
use Rattle.decommutator.proofs.OutputLemmas.{goes-on, stops}

-- ---- one tag more

pub goes-next : (f : ℕ → List ℕ) (start out others tags : List ℕ) (i : ℕ) (from mid now : Seen) → i < length tags
    → Proceeds start from (Ok tt) (out ++ flat_map f (drop i tags)) mid → Proceeds (out ++ f (get_or tags i 0)) mid (Ok tt) others now
    → Proceeds start from (Ok tt) (others ++ flat_map f (drop (i + 1) tags)) now
goes-next f start out others tags i from mid now within first second =
    goes-on start out (f (get_or tags i 0)) (flat_map f (drop (i + 1) tags)) others from mid now
    (subst (λ l. Proceeds start from (Ok tt) (out ++ flat_map f l) mid) (drop_more tags i 0 within) first) second

pub stops-next : (f : ℕ → List ℕ) (start out others tags : List ℕ) (i : ℕ) (fault : WriteFault) (from mid now : Seen) → i < length tags
    → Proceeds start from (Ok tt) (out ++ flat_map f (drop i tags)) mid → Proceeds (out ++ f (get_or tags i 0)) mid (Err fault) others now
    → Proceeds start from (Err fault) others now
stops-next f start out others tags i fault from mid now within first second =
    stops start out (f (get_or tags i 0)) (flat_map f (drop (i + 1) tags)) others fault from mid now
    (subst (λ l. Proceeds start from (Ok tt) (out ++ flat_map f l) mid) (drop_more tags i 0 within) first) second others

pub waits-next : (test : ℕ → Bool) (old new tags whole : List ℕ) (i : ℕ) → i < length tags → new ≡ old ++ filter test (get_or tags i 0 ∷ [])
    → old ++ filter test (drop i tags) ≡ whole → new ++ filter test (drop (i + 1) tags) ≡ whole
waits-next test old new tags whole i within more ahead =
    let x : ℕ = get_or tags i 0 in
    let rest : List ℕ = drop (i + 1) tags in
    ap (λ l. l ++ filter test rest) more
    ∙ (append_assoc old (filter test (x ∷ [])) (filter test rest)
    ∙ (ap (λ l. old ++ l) (sym (filter-append test (x ∷ []) rest)) ∙ (ap (λ l. old ++ filter test l) (sym (drop_more tags i 0 within)) ∙ ahead)))

pub all-next : (P : ℕ → Type 0) (tags : List ℕ) (i : ℕ) → i < length tags → AllByRecursion P (drop i tags) → AllByRecursion P (drop (i + 1) tags)
all-next P tags i within all = let both : AllByRecursion P (get_or tags i 0 ∷ drop (i + 1) tags) = subst (AllByRecursion P) (drop_more tags i 0 within) all in both.1

-- ---- those that wait on

quiet-block : (g : Ground) (o : Option Report) → is_waiting g o ≡ true → due_block g o ≡ []
quiet-block g None e = refl
quiet-block g (Some r) e = go (is_ready_report g r) e
  where
    go : (b : Bool) → not b ≡ true → (if b then body_block g.tailoring g.history r.header.tag r.body else []) ≡ []
    go true e = absurd (true≢false (sym e))
    go false e = refl

quiet-text : (g : Ground) (tags : List ℕ) → AllByRecursion (λ tag. waits g tag ≡ true) tags → flat_map (due_text g) tags ≡ []
quiet-text g [] h = refl
quiet-text g (tag ∷ tags) h = ap (λ l. l ++ flat_map (due_text g) tags) (quiet-block g (report_from g tag) h.0) ∙ quiet-text g tags h.1

quiet-tags : (g : Ground) (tags : List ℕ) → AllByRecursion (λ tag. waits g tag ≡ true) tags → filter (waits g) tags ≡ tags
quiet-tags g [] h = refl
quiet-tags g (tag ∷ tags) h = ap (λ b. cond b (tag ∷ filter (waits g) tags) (filter (waits g) tags)) h.0 ∙ ap (λ l. tag ∷ l) (quiet-tags g tags h.1)

-- what is the same waits on
abbrev pub WaitOn : Changed → Ground → List ℕ → Type 0
WaitOn c g tags = AllByRecursion (λ tag. is_same c tag ≡ true → waits g tag ≡ true) tags

low-wait : (c : Changed) (g : Ground) (first : Option ℕ) (low : List ℕ) → ((tag : ℕ) → IsBelow tag first → is_same c tag ≡ true)
    → AllByRecursion (λ tag. IsBelow tag first) low → WaitOn c g low → AllByRecursion (λ tag. waits g tag ≡ true) low
low-wait c g first [] law h on = tt
low-wait c g first (tag ∷ tags) law h on = (on.0 (law tag h.0), low-wait c g first tags law h.1 on.1)

wait-front : (c : Changed) (g : Ground) (low later : List ℕ) → WaitOn c g (low ++ later) → WaitOn c g low
wait-front c g [] later on = tt
wait-front c g (tag ∷ tags) later on = (on.0, wait-front c g tags later on.1)

wait-behind : (c : Changed) (g : Ground) (low later : List ℕ) → WaitOn c g (low ++ later) → WaitOn c g later
wait-behind c g [] later on = on
wait-behind c g (tag ∷ tags) later on = wait-behind c g tags later on.1

pub later-wait : (c : Changed) (g : Ground) (low later all : List ℕ) → low ++ later ≡ all → WaitOn c g all → WaitOn c g later
later-wait c g low later all whole on = wait-behind c g low later (subst (WaitOn c g) (sym whole) on)

every : (tags : List ℕ) → AllByRecursion (λ tag. IsBelow tag None) tags
every [] = tt
every (tag ∷ tags) = (tt, every tags)

pub none-due : (c : Changed) (g : Ground) (tags : List ℕ) → ((tag : ℕ) → IsBelow tag None → is_same c tag ≡ true) → WaitOn c g tags → flat_map (due_text g) tags ≡ []
none-due c g tags law on = quiet-text g tags (low-wait c g None tags law (every tags) on)

pub none-leave : (c : Changed) (g : Ground) (tags : List ℕ) → ((tag : ℕ) → IsBelow tag None → is_same c tag ≡ true) → WaitOn c g tags → tags ≡ filter (waits g) tags
none-leave c g tags law on = sym (quiet-tags g tags (low-wait c g None tags law (every tags) on))

-- of tags those below the first are left alone
pub due-later : (c : Changed) (g : Ground) (first : ℕ) (low later all : List ℕ) → ((tag : ℕ) → IsBelow tag (Some first) → is_same c tag ≡ true)
    → AllByRecursion (λ tag. tag < first) low → low ++ later ≡ all → WaitOn c g all → flat_map (due_text g) later ≡ flat_map (due_text g) all
due-later c g first low later all law h whole on =
    let wait = low-wait c g (Some first) low law h (wait-front c g low later (subst (WaitOn c g) (sym whole) on)) in
    sym (ap (flat_map (due_text g)) (sym whole) ∙ (flat_map-append (due_text g) low later ∙ ap (λ l. l ++ flat_map (due_text g) later) (quiet-text g low wait)))

pub left-later : (c : Changed) (g : Ground) (first : ℕ) (low later all new : List ℕ) → ((tag : ℕ) → IsBelow tag (Some first) → is_same c tag ≡ true)
    → AllByRecursion (λ tag. tag < first) low → low ++ later ≡ all → WaitOn c g all → new ≡ low ++ filter (waits g) later → new ≡ filter (waits g) all
left-later c g first low later all new law h whole on is =
    let wait = low-wait c g (Some first) low law h (wait-front c g low later (subst (WaitOn c g) (sym whole) on)) in
    is
    ∙ sym (ap (filter (waits g)) (sym whole) ∙ (filter-append (waits g) low later ∙ ap (λ l. l ++ filter (waits g) later) (quiet-tags g low wait)))

-- ---- octets that were gathered

pub gathered : (octets out : List ℕ) (result : Result Unit WriteFault) (from mid now : Seen) → Proceeds octets from (Ok tt) out mid → Proceeds out mid result [] now
    → Proceeds octets from result [] now
gathered octets out (Ok done) from mid now first second = λ text rest before under. second text rest before (first text rest before under)
gathered octets out (Err fault) from mid now first second = λ text rest before under. second text rest before (first text rest before under)

pub nothing-written : (octets : List ℕ) (from : Seen) → octets ≡ [] → Proceeds octets from (Ok tt) [] from
nothing-written octets from none = subst (λ l. Proceeds l from (Ok tt) [] from) (sym none) (λ text rest before under. under)

pub as-it-was : (octets : List ℕ) (from : Seen) → Proceeds octets from (Ok tt) octets from
as-it-was octets from = λ text rest before under. under

pub ended : (octets out others : List ℕ) (fault : WriteFault) (from now : Seen) → Proceeds octets from (Err fault) out now → Proceeds octets from (Err fault) others now
ended octets out others fault from now first = first

pub on-ok : (result : Result Unit WriteFault) (P : Type 0) → P → OnOk result P
on-ok (Ok done) P p = p
on-ok (Err fault) P p = tt
