-- The record of a run is that of the world of its own lines.
use Rattle.std.proofs.Common.{arith, ◌≡◌, ℕ, zero, suc, ◌+◌, ◌<◌, ◌≤◌, refl, sym, ap, ap₂, subst, ◌∙◌, List, [], ◌∷◌, ◌++◌, length, map, filter, Bool, true, false, Option, Some, None, ◌⊎◌, inl, inr, append_assoc, append-nil, length-append}
use Rattle.std.specs.Prelude.{⊤, IfSome, nat_lt, option_map, find, if◌then◌else◌, slice_get, reverse, unwrap_or, ◌==◌}
use Rattle.std.specs.List.{AllByRecursion}
use Rattle.std.proofs.lemmas.List.{map-append}
use Rattle.std.proofs.lemmas.Bool.Decides.{nat_tests}
use Rattle.hk_base.specs.Fit.{IsFit, IsFitBoot}
use Rattle.hk_base.specs.Payload.{IsValid}
use Rattle.hk_base.specs.Parameters.{key_eq}
use Rattle.hk_base.specs.declared.types.Boot.{Boot}
use Rattle.hk_base.specs.declared.types.Key.{Key}
use Rattle.hk_base.specs.TailoringParts.{TailoringParts}
use Rattle.hk_base.proofs.Membership.{IsIn, filter-IsIn, AllByRecursion-IsIn, IsIn-AllByRecursion, IsIn-filter}
use Rattle.pus_messages.specs.Messages.{protocol}
use Rattle.hk_world.specs.States.{boot_state}
use Rattle.hk_world.specs.Timelines.{EachAfter, Session}
use Rattle.hk_world.specs.Legal.{handled_number}
use Rattle.hk_world.specs.Worlds.{World, IsWorld, Step, send, happen, deliver, stray, MayStep, MayHappen, sent_count, moments_of, packet_of}
use Rattle.hk_world.specs.declared.moment.Moment.{Moment}
use Rattle.hk_world.specs.declared.moment.Act.{Act}
use Rattle.journal_texts.specs.JournalTexts.{journal_text}
use Rattle.session_record.specs.declared.entry.Entry.{Entry}
use Rattle.session_record.specs.declared.entry.Entry.TheVariants.{Sent, Got, Line}
use Rattle.board_scripts.specs.Spelling.{AreSent, IsScript}
use Rattle.board_scripts.specs.declared.script.Script.{Script}
use Rattle.board_scripts.specs.declared.script.Sending.{Sending}
use Rattle.board_steps.specs.Cores.{Core, session, new_core}
use Rattle.board_steps.specs.SlotRuns.{Ahead, at_start, at_end, Leads}
use Rattle.board_steps.specs.Timeline.{Stands, AgreeOn}
use Rattle.board_steps.specs.declared.event.Event.{Event}
use Rattle.board_steps.proofs.GrammarLemmas.{RequestsOnly}
use Rattle.board_steps.proofs.RunLemmas.{new-stands, stands-ground}
use Rattle.board_runs.specs.Requests.{number_in, requests_behind, session_with, session_of}
use Rattle.board_runs.specs.Slots.{sent_in, deliveries, uplinks, slot_entries, entries_of}
use Rattle.board_runs.specs.Runs.{HasDone, HasRun, HasBegun}
use Rattle.journaled_records.specs.OwnWorlds.{told_entry, told_entries, told_octets, IsOwnWorld, IsOwnRecord, TellsOwn}
use Rattle.journal_texts.specs.Moments.{IsMoment}
use Rattle.session_record.specs.Records.{FitIn, most_entries, header_of, record_octets}
use Rattle.board_steps.specs.Added.{IsJournal}
use Rattle.board_runs.proofs.WithinLemmas.{journal-small}
use Rattle.board_runs.proofs.ListLemmas.{onto, onto-reverse, onto-append, reverse-more, IsIn-onto, onto-IsIn, map-twice, map-same}
use Rattle.board_runs.proofs.SendLemmas.{HasSent, sends_of, send-lines, sends-moments, requests-grow}
use Rattle.board_runs.proofs.DeliverLemmas.{moments_delivered, moments_in, deliveries-are, delivered-in, delivers_of, delivers-moments, delivers-count, deliver-moments}
use Rattle.board_runs.proofs.NameLemmas.{AreNamed, IsNamed, IsRequestOf, IsSound, leads-sound}
use Rattle.board_runs.proofs.UplinkLemmas.{sent_below, sent_at, sent_from, sent-rising, sent-next, sent-split, sent-parts, lines-requests, request-more, uplinks-requests}

-- what it has of some steps, in their order
abbrev pub told_of : Session → List Step → List Entry
told_of s steps = reverse (map (told_entry s) steps)

-- more steps are more entries
told-onto : {A : Type 0} (s : Session) (f : A → Step) (g : A → Entry) (xs : List A) (steps : List Step) → ((x : A) → IsIn x xs → told_entry s (f x) ≡ g x)
    → told_of s (onto (map f xs) steps) ≡ told_of s steps ++ map g xs
told-onto s f g [] steps h = sym (append-nil (told_of s steps))
told-onto s f g (x ∷ xs) steps h =
    told-onto s f g xs (f x ∷ steps) (λ y k. h y (inr k))
    ∙ (ap (λ es. es ++ map g xs) (reverse-more (told_entry s (f x)) (map (told_entry s) steps))
    ∙ (append_assoc (told_of s steps) (told_entry s (f x) ∷ []) (map g xs)
    ∙ ap (λ e. told_of s steps ++ (e ∷ map g xs)) (h x (inl refl))))

-- the steps of moments
abbrev pub happens_of : List Moment → List Step
happens_of ms = map (λ m. happen m) ms

each-behind : {X : Type 0} (R : List X → X → Type 0) (xs earlier : List X) → EachAfter R (onto xs earlier) → EachAfter R earlier
each-behind R [] earlier h = h
each-behind R (x ∷ xs) earlier h = (each-behind R xs (x ∷ earlier) h).1

happens-moments : (ms : List Moment) (steps : List Step) → moments_of (onto (happens_of ms) steps) ≡ onto ms (moments_of steps)
happens-moments [] steps = refl
happens-moments (m ∷ ms) steps = happens-moments ms (happen m ∷ steps)

happens-count : (ms : List Moment) (steps : List Step) → sent_count (onto (happens_of ms) steps) ≡ sent_count steps
happens-count [] steps = refl
happens-count (m ∷ ms) steps = happens-count ms (happen m ∷ steps)

-- moments happen one after the other
happen-moments : (s : Session) (ms : List Moment) (steps : List Step) → EachAfter (MayHappen s) (onto ms (moments_of steps))
    → ((m : Moment) → IsIn m ms → IfSome (handled_number m.act) (λ k. k < sent_count steps))
    → EachAfter (MayStep s) steps → EachAfter (MayStep s) (onto (happens_of ms) steps)
happen-moments s [] steps may sent each = each
happen-moments s (m ∷ ms) steps may sent each =
    let here = each-behind (MayHappen s) ms (m ∷ moments_of steps) may in
    happen-moments s ms (happen m ∷ steps) may (λ x k. sent x (inr k)) ((sent m (inl refl), here.0), each)

-- requests that are known to be sent stay so
named-later : (own requests : List (List ℕ)) (n later : ℕ) → n ≤ later → (moments : List Moment) → AreNamed own requests n moments → AreNamed own requests later moments
named-later own requests n later le [] h = tt
named-later own requests n later le (m ∷ moments) h = ((h.0.0, one (handled_number m.act) h.0.1), named-later own requests n later le moments h.1)
  where
    one : (o : Option ℕ) → IfSome o (λ k. k < n) → IfSome o (λ k. k < later)
    one None b = tt
    one (Some k) b = omega (arith, b, le)

agree-on : (own requests : List (List ℕ)) (n : ℕ) (moments : List Moment) → AreNamed own requests n moments → AgreeOn own requests moments
agree-on own requests n [] h = tt
agree-on own requests n (m ∷ moments) h = (h.0.0, agree-on own requests n moments h.1)

-- what a board has done may happen in a session with the requests that were sent
timeline-of : (t : TailoringParts) (known : Bool) (requests : List (List ℕ)) (n : ℕ) (c : Core) → IsSound t requests n c → EachAfter (MayHappen (session_with t known requests)) c.moments
timeline-of t known requests n c k =
    let both = stands-ground c known requests k.stands (agree-on c.requests requests n c.moments k.named) in
    subst (λ x. EachAfter (MayHappen (session_with x known requests)) c.moments) k.tailoring both

-- so many requests were sent by a slot
abbrev pub requests_by : TailoringParts → Script → ℕ → List (List ℕ)
requests_by t s n = requests_behind t (onto (sent_below n s.sendings) [])

-- all requests of a script
abbrev pub all_requests : TailoringParts → Script → List (List ℕ)
all_requests t s = requests_behind t (reverse s.sendings)

-- The steps of a world whose entries are these: the lines of so many slots were sent, and the core did its moments.
pub record HasSteps (t : TailoringParts) (s : Script) (n : ℕ) (entries : List Entry) (c : Core) : Type 0 where
  pub steps : List Step
  pub each : EachAfter (MayStep (session_of t s)) steps
  pub moments : moments_of steps ≡ c.moments
  pub count : sent_count steps ≡ length (requests_by t s n)
  pub entries_are : told_of (session_of t s) steps ≡ entries
  pub sound : IsSound t (all_requests t s) (length (requests_by t s n)) c

-- lines that may be sent, up to a slot
pub lines-below : (t : TailoringParts) (s : Script) (n : ℕ) → AreSent t [] s.sendings → AreSent t [] (sent_below n s.sendings) × AreSent t (onto (sent_below n s.sendings) []) (sent_from n s.sendings)
lines-below t s n sent =
    sent-parts t [] (sent_below n s.sendings) (sent_from n s.sendings)
    (subst (AreSent t []) (sent-split n 0 s.sendings (sent-rising t [] s.sendings sent)) sent)

-- the requests up to a slot are the first of all
pub requests-front : (t : TailoringParts) (s : Script) (n : ℕ) → AreSent t [] s.sendings → (more : List (List ℕ)) × (all_requests t s ≡ requests_by t s n ++ more)
requests-front t s n sent =
    let parts = lines-below t s n sent in
    let grow = requests-grow t (sent_from n s.sendings) (onto (sent_below n s.sendings) []) parts.1 in
    let split = sent-split n 0 s.sendings (sent-rising t [] s.sendings sent) in
    let turned : reverse s.sendings ≡ onto (sent_from n s.sendings) (onto (sent_below n s.sendings) []) =
    sym (append-nil (reverse s.sendings)) ∙ (sym (onto-reverse s.sendings []) ∙ (ap (λ xs. onto xs []) split ∙ onto-append (sent_below n s.sendings) (sent_from n s.sendings) [])) in
    (grow.0, ap (requests_behind t) turned ∙ grow.1)

-- the lines of a slot stand behind those of the slots before
lines-next : (t : TailoringParts) (s : Script) (n : ℕ) → AreSent t [] s.sendings
    → AreSent t (onto (sent_below n s.sendings) []) (sent_at n s.sendings) × (onto (sent_at n s.sendings) (onto (sent_below n s.sendings) []) ≡ onto (sent_below (suc n) s.sendings) [])
lines-next t s n sent =
    let next = sent-next n 0 s.sendings (sent-rising t [] s.sendings sent) in
    let whole = subst (AreSent t []) next (lines-below t s (suc n) sent).0 in (
      (sent-parts t [] (sent_below n s.sendings) (sent_at n s.sendings) whole).1,
      sym (ap (λ xs. onto xs []) next ∙ onto-append (sent_below n s.sendings) (sent_at n s.sendings) []),
    )

-- each line of a slot has its packet in the list
packets-listed : (t : TailoringParts) (s : Script) (n : ℕ) → AreSent t [] s.sendings → (x : Sending) → IsIn x (sent_at n s.sendings)
    → packet_of (all_requests t s) (number_in t x.packet) ≡ x.packet
packets-listed t s n sent x h =
    let parts = lines-below t s (suc n) sent in
    let front = requests-front t s (suc n) sent in
    let f = IsIn-filter (λ y. y.slot == n) x s.sendings h in
    let there : IsIn x (sent_below (suc n) s.sendings) = subst (IsIn x) (sym (sent-next n 0 s.sendings (sent-rising t [] s.sendings sent))) (IsIn-behind x (sent_below n s.sendings) (sent_at n s.sendings) h) in
    let of = request-more t (requests_by t s (suc n)) front.0 (length (requests_by t s (suc n))) x.packet (lines-requests t (sent_below (suc n) s.sendings) [] parts.0 x there) in
    ap (λ o. unwrap_or o []) (ap (λ rs. slice_get rs (number_in t x.packet)) front.1 ∙ of.1)
  where
    IsIn-behind : (y : Sending) (xs ys : List Sending) → IsIn y ys → IsIn y (xs ++ ys)
    IsIn-behind y [] ys k = k
    IsIn-behind y (z ∷ xs) ys k = inr (IsIn-behind y xs ys k)

-- a slot begins: reports come, and the lines of the slot are sent
pub begin-slot : (t : TailoringParts) (s : Script) (slots : List (List Moment)) (entries : List Entry) (c : Core) → AreSent t [] s.sendings → c.moments ≡ moments_in slots
    → HasSteps t s (length slots) entries c
    → HasSteps t s (suc (length slots)) ((entries ++ map Got (deliveries t s slots)) ++ map Sent (sent_in s (length slots))) c
begin-slot t s slots entries c sent done was =
    let n : ℕ = length slots in
    let S : Session = session_of t s in
    let ms : List Moment = moments_delivered t s slots in
    let xs : List Sending = sent_at n s.sendings in
    let got : List Step = onto (delivers_of ms) was.steps in
    let gone : List Step = onto (sends_of t xs) got in
    let next = lines-next t s n sent in
    let front = requests-front t s (suc n) sent in
    let delivered = deliver-moments S ms was.steps
    (λ m k. let r = delivered-in t s slots m k in (subst (IsIn m) (sym (was.moments ∙ done)) r.0, r.1)) was.each in
    let many : sent_count got ≡ length (requests_by t s n) = delivers-count ms was.steps ∙ was.count in
    let all : all_requests t s ≡ requests_behind t (onto xs (onto (sent_below n s.sendings) [])) ++ front.0 =
    front.1 ∙ ap (λ ys. requests_behind t ys ++ front.0) (sym next.1) in
    let h = send-lines t s.known (all_requests t s) xs (onto (sent_below n s.sendings) []) got next.0 (front.0, all) (record { each = delivered; count = many }) in
    let grown = requests-grow t xs (onto (sent_below n s.sendings) []) next.0 in
    let size : length (requests_by t s (suc n)) ≡ length (requests_by t s n) + length grown.0 =
    ap (λ ys. length (requests_behind t ys)) (sym next.1) ∙ (ap length grown.1 ∙ length-append (requests_by t s n) grown.0) in
    let first : told_of S got ≡ entries ++ map Got (deliveries t s slots) =
    told-onto S (λ m. deliver m) (λ m. Got m.packet) ms was.steps (λ m k. refl)
    ∙ ap₂ (λ a b. a ++ b) was.entries_are (sym (map-twice Got (λ (m : Moment). m.packet) ms) ∙ ap (map Got) (deliveries-are t s slots)) in
    let second : told_of S gone ≡ (entries ++ map Got (deliveries t s slots)) ++ map Sent (sent_in s n) =
    told-onto S (λ x. send (number_in t x.packet)) (λ x. Sent x.packet) xs got (λ x k. ap Sent (packets-listed t s n sent x k))
    ∙ ap₂ (λ a b. a ++ b) first (sym (map-twice Sent (λ (x : Sending). x.packet) xs)) in
    record {
      steps = gone;
      each = h.each;
      moments = sends-moments t xs got ∙ (delivers-moments ms was.steps ∙ was.moments);
      count = h.count ∙ ap (λ ys. length (requests_behind t ys)) next.1;
      entries_are = second;
      sound = record {
        tailoring = was.sound.tailoring;
        stands = was.sound.stands;
        named = named-later c.requests (all_requests t s) (length (requests_by t s n)) (length (requests_by t s (suc n))) (omega (arith, size)) c.moments was.sound.named;
      };
    }

-- a board does some moments
do-moments : (t : TailoringParts) (s : Script) (n : ℕ) (entries : List Entry) (before after : Core) (moments : List Moment) → HasSteps t s n entries before
    → IsSound t (all_requests t s) (length (requests_by t s n)) after → HasDone before moments after
    → HasSteps t s n (entries ++ map (λ m. Line (journal_text m)) moments) after
do-moments t s n entries before after moments was sound done =
    let S : Session = session_of t s in
    let are : after.moments ≡ onto moments (moments_of was.steps) =
    done ∙ (sym (onto-reverse moments before.moments) ∙ ap (onto moments) (sym was.moments)) in
    let may = subst (EachAfter (MayHappen S)) are (timeline-of t s.known (all_requests t s) (length (requests_by t s n)) after sound) in
    let named : AreNamed after.requests (all_requests t s) (length (requests_by t s n)) (onto moments (moments_of was.steps)) =
    subst (AreNamed after.requests (all_requests t s) (length (requests_by t s n))) are sound.named in
    record {
      steps = onto (happens_of moments) was.steps;
      each = happen-moments S moments was.steps may
          (λ m k. subst (λ c. IfSome (handled_number m.act) (λ j. j < c)) (sym was.count)
          (AllByRecursion-IsIn (λ x. IsNamed after.requests (all_requests t s) (length (requests_by t s n)) x.act) m (onto moments (moments_of was.steps)) named (onto-IsIn m moments (moments_of was.steps) k)).1) was.each;
      moments = happens-moments moments was.steps ∙ sym are;
      count = happens-count moments was.steps ∙ was.count;
      entries_are = told-onto S (λ m. happen m) (λ m. Line (journal_text m)) moments was.steps (λ m k. refl) ∙ ap (λ es. es ++ map (λ m. Line (journal_text m)) moments) was.entries_are;
      sound = sound;
    }

entries-joined : (a b c d : List Entry) → ((a ++ b) ++ c) ++ d ≡ a ++ (b ++ (c ++ d))
entries-joined a b c d = append_assoc (a ++ b) c d ∙ append_assoc a b (c ++ d)

-- the slots that were run, and some first steps of the next one, are those of a world
pub part-steps : (t : TailoringParts) (s : Script) (slots : List (List Moment)) (moments : List Moment) (before after : Core) (ahead : Ahead)
    → IsFit t → RequestsOnly t → AreSent t [] s.sendings → HasSteps t s (length slots) (entries_of t s slots) before → before.moments ≡ moments_in slots
    → ((events : List Event) × Leads (at_start (uplinks t s slots)) before events ahead after) → HasDone before moments after
    → HasSteps t s (suc (length slots)) (entries_of t s (moments ∷ slots)) after
part-steps t s slots moments before after ahead fit only sent was done part did =
    let n : ℕ = suc (length slots) in
    let begun = begin-slot t s slots (entries_of t s slots) before sent done was in
    let front = requests-front t s n sent in
    let up = uplinks-requests t s slots (all_requests t s) front.0 (lines-below t s n sent).0 front.1 in
    let sound = leads-sound t (all_requests t s) (length (requests_by t s n)) fit only part.0 (at_start (uplinks t s slots)) before ahead after up begun.sound part.1 in
    subst (λ es. HasSteps t s n es after)
    (entries-joined (entries_of t s slots) (map Got (deliveries t s slots)) (map Sent (sent_in s (length slots))) (map (λ m. Line (journal_text m)) moments))
    (do-moments t s n ((entries_of t s slots ++ map Got (deliveries t s slots)) ++ map Sent (sent_in s (length slots))) before after moments begun sound did)

-- what a run has done
pub run-moments : (t : TailoringParts) (s : Script) (slots : List (List Moment)) (c : Core) → HasRun t s slots c → c.moments ≡ moments_in slots
run-moments t s [] c h = ap (λ (x : Core). x.moments) h
run-moments t s (moments ∷ earlier) c h =
    h.3 ∙ (sym (onto-reverse moments h.0.moments) ∙ ap (onto moments) (run-moments t s earlier h.0 h.1))

none-sent : (t : TailoringParts) (s : Script) → 0 ≡ length (requests_by t s 0)
none-sent t s = ap (λ xs. length (requests_behind t (onto xs []))) (sym (none s.sendings))
  where
    none : (xs : List Sending) → sent_below 0 xs ≡ []
    none [] = refl
    none (x ∷ xs) =
        let test : nat_lt x.slot 0 ≡ false = grind (arith, nat_tests) in
        ap (λ b. if b then x ∷ sent_below 0 xs else sent_below 0 xs) test ∙ none xs

-- a run is that of a world
pub run-steps : (t : TailoringParts) (s : Script) (slots : List (List Moment)) (c : Core) → IsFit t → RequestsOnly t → AreSent t [] s.sendings → HasRun t s slots c
    → HasSteps t s (length slots) (entries_of t s slots) c
run-steps t s [] c fit only sent h =
    record {
      steps = [];
      each = tt;
      moments = ap (λ (x : Core). x.moments) (sym h);
      count = none-sent t s;
      entries_are = refl;
      sound = record {
        tailoring = ap (λ (x : Core). x.tailoring) h;
        stands = subst Stands (sym h) (new-stands t);
        named = subst (λ (x : Core). AreNamed x.requests (all_requests t s) (length (requests_by t s 0)) x.moments) (sym h) tt;
      };
    }
run-steps t s (moments ∷ earlier) c fit only sent h =
    part-steps t s earlier moments h.0 c at_end fit only sent (run-steps t s earlier h.0 fit only sent h.1) (run-moments t s earlier h.0 h.1) h.2 h.3

boot-valid : (t : TailoringParts) (key : Key) (boots : List Boot) → AllByRecursion (IsFitBoot t) boots
    → IfSome (option_map (λ (b : Boot). b.structure) (find (λ b. key_eq b.key key) boots)) (λ x. IsValid t x.def)
boot-valid t key [] h = tt
boot-valid t key (b ∷ boots) h = by (key_eq b.key key) (boot-valid t key boots h.1)
  where
    by : (c : Bool) → IfSome (option_map (λ (x : Boot). x.structure) (find (λ x. key_eq x.key key) boots)) (λ x. IsValid t x.def)
        → IfSome (option_map (λ (x : Boot). x.structure) (if c then Some b else find (λ x. key_eq x.key key) boots)) (λ x. IsValid t x.def)
    by true later = h.0.valid
    by false later = later

-- the steps of some entries are those of a world
pub steps-world : (t : TailoringParts) (s : Script) (n : ℕ) (entries : List Entry) (c : Core) → IsFit t → HasSteps t s n entries c
    → (w : World) × IsWorld w × (w.session ≡ session_of t s) × (told_entries w ≡ entries) × (moments_of w.steps ≡ c.moments)
steps-world t s n entries c fit h = (
  record { session = session_of t s; steps = h.steps },
  record { session = record { fit = fit; valid = λ key. boot-valid t key t.boots fit.boots; booted = λ known. refl }; steps = h.each },
  refl,
  h.entries_are,
  h.moments,
)

-- a board's journal is within its ranges
abbrev pub JournalsStand : Type 0
JournalsStand = (c : Core) → IsFit c.tailoring → Stands c → IsJournal c

world-moments : JournalsStand → (t : TailoringParts) (s : Script) (n : ℕ) (entries : List Entry) (c : Core) → IsFit t → (h : HasSteps t s n entries c) → AllByRecursion IsMoment (moments_of h.steps)
world-moments journals t s n entries c fit h =
    subst (AllByRecursion IsMoment) (sym h.moments) (journal-small c (journals c (subst IsFit (sym h.sound.tailoring) fit) h.sound.stands))

-- entries that have steps are those of a world's own lines
pub own-world : JournalsStand → ((w : World) → IsWorld w → AllByRecursion IsMoment (moments_of w.steps) → IsOwnWorld w (header_of w.session.known w.session.long) (told_entries w))
    → (t : TailoringParts) (s : Script) (n : ℕ) (entries : List Entry) (c : Core) → IsFit t → HasSteps t s n entries c
    → (w : World) × (w.session ≡ session_of t s) × (moments_of w.steps ≡ c.moments) × IsOwnWorld w (header_of s.known false) entries
unfolding steps-world
own-world journals told_law t s n entries c fit h =
    let r = steps-world t s n entries c fit h in
    let w : World = r.0 in
    let own = told_law w r.1 (world-moments journals t s n entries c fit h) in
    (w, r.2, r.4, subst (IsOwnWorld w (header_of s.known false)) r.3 own)

-- and their record tells that world
pub tells-own : JournalsStand → ((w : World) → IsWorld w → AllByRecursion IsMoment (moments_of w.steps) → FitIn most_entries 8 (told_entries w) → IsOwnRecord w (told_octets w))
    → (t : TailoringParts) (s : Script) (n : ℕ) (entries : List Entry) (c : Core) → IsFit t → FitIn most_entries 8 entries → HasSteps t s n entries c
    → TellsOwn t (record_octets (header_of s.known false) entries)
unfolding steps-world
tells-own journals told_law t s n entries c fit fits h =
    let r = steps-world t s n entries c fit h in
    let w : World = r.0 in
    let own = told_law w r.1 (world-moments journals t s n entries c fit h) (subst (FitIn most_entries 8) (sym r.3) fits) in
    record {
      world = w;
      protocol_is = refl;
      booted = refl;
      own = subst (λ es. IsOwnRecord w (record_octets (header_of s.known false) es)) r.3 own;
    }
