-- What is counted in a world.
use Rattle.std.proofs.Common.{arith, ◌≡◌, ℕ, ◌+◌, refl, sym, ◌∙◌, ap, List, [], ◌∷◌, Bool, false, ◌==◌, cond, ◌⊎◌, inl, inr}
use Rattle.std.specs.List.{count_by, list_any}
use Rattle.std.proofs.lemmas.List.Sums.{sum_by-cons}
use Rattle.pus_messages.specs.Protocol.{Reception, foreign, skipped, unread, readable}
use Rattle.hk_world.specs.Timelines.{EachAfter, Session}
use Rattle.hk_world.specs.Worlds.{World, Step, send, happen, deliver, stray, MayStep, IsStray, deliveries_of, entries_seen}
use Rattle.hk_world.specs.declared.moment.Moment.{Moment}
use Rattle.ground_history.specs.Histories.{History, kind_by_reception, got_kind}
use Rattle.ground_history.specs.Attribution.{AreGenuine}
use Rattle.ground_history.specs.Bounds.{history_after}
use Rattle.ground_history.specs.declared.answer.GotKind.{GotKind}
use Rattle.ground_history.specs.declared.answer.GotKind.TheVariants as became
use Rattle.session_record.specs.Records.{header_of}
use Rattle.session_texts.specs.Sessions.{kinds_of}
use Rattle.session_texts.specs.Texts.{is_repeat, is_conflict, is_foreign, is_skipped, is_unread, is_stray}
use Rattle.session_texts.specs.Truth.{repeats_of, strays_of, is_of_another, is_of_no_type, AreTrueCounts}
use Rattle.session_texts.proofs.KeptFacts.{counted}

-- what became of each packet of some steps
abbrev pub kinds_by : Session → List Step → List GotKind
kinds_by s steps = kinds_of s.protocol (header_of s.known s.long) (entries_seen s.requests steps)

-- a kind that passes no test, and one that does as another test says
count-none : (f : GotKind → Bool) (kind : GotKind) (kinds : List GotKind) → f kind ≡ false → count_by f (kind ∷ kinds) ≡ count_by f kinds
count-none f kind kinds e =
    let n : ℕ = count_by f kinds in
    let same : 0 + n ≡ n = omega arith in
    sum_by-cons (λ x. cond (f x) 1 0) kind kinds ∙ ap (λ b. cond b 1 0 + n) e ∙ same

count-one : (f : GotKind → Bool) (kind : GotKind) (kinds : List GotKind) (b : Bool) (n : ℕ) → f kind ≡ b → count_by f kinds ≡ n → count_by f (kind ∷ kinds) ≡ cond b 1 0 + n
count-one f kind kinds b n e rest =
    sum_by-cons (λ x. cond (f x) 1 0) kind kinds ∙ ap (λ c. cond c 1 0 + count_by f kinds) e ∙ ap (λ m. cond b 1 0 + m) rest

-- a packet that isn't the board's is no repeat
stray-new : (h : History) (packet : List ℕ) (x : Reception) → IsStray x → is_repeat (kind_by_reception h packet x) ≡ false
stray-new h packet (foreign apid) strays = refl
stray-new h packet (skipped service subtype) strays = refl
stray-new h packet unread strays = absurd strays
stray-new h packet (readable r) strays = absurd strays

count-repeats : (s : Session) (steps : List Step) → EachAfter (MayStep s) steps → AreGenuine s.protocol s.known s.long (entries_seen s.requests steps)
    → count_by is_repeat (kinds_by s steps) ≡ repeats_of (deliveries_of steps)
count-repeats s [] h g = refl
count-repeats s (send k ∷ earlier) h g = count-repeats s earlier h.1 g.1
count-repeats s (happen m ∷ earlier) h g = count-repeats s earlier h.1 g
count-repeats s (stray packet ∷ earlier) h g =
    count-none is_repeat (got_kind s.protocol (history_after s earlier) packet) (kinds_by s earlier) (stray-new (history_after s earlier) packet (s.protocol.reception packet) h.0)
    ∙ count-repeats s earlier h.1 g.1
count-repeats s (deliver m ∷ earlier) h g =
    count-one is_repeat (got_kind s.protocol (history_after s earlier) m.packet) (kinds_by s earlier) (list_any (λ (e : Moment). e.tag == m.tag) (deliveries_of earlier))
    (repeats_of (deliveries_of earlier)) (counted s earlier m h g).again (count-repeats s earlier h.1 g.1)

-- a test of kinds that only packets pass that aren't the board's
record IsOfStrays (f : GotKind → Bool) (g : Reception → Bool) : Type 0 where
  kept : (tag : ℕ) → f (became.Kept tag) ≡ false
  again : (tag : ℕ) → f (became.Repeat tag) ≡ false
  strays : (h : History) (packet : List ℕ) (x : Reception) → IsStray x → f (kind_by_reception h packet x) ≡ g x

count-strays : (f : GotKind → Bool) (g : Reception → Bool) → IsOfStrays f g → (s : Session) (steps : List Step) → EachAfter (MayStep s) steps
    → AreGenuine s.protocol s.known s.long (entries_seen s.requests steps)
    → count_by f (kinds_by s steps) ≡ count_by (λ packet. g (s.protocol.reception packet)) (strays_of steps)
count-strays f g law s [] h a = refl
count-strays f g law s (send k ∷ earlier) h a = count-strays f g law s earlier h.1 a.1
count-strays f g law s (happen m ∷ earlier) h a = count-strays f g law s earlier h.1 a
count-strays f g law s (stray packet ∷ earlier) h a =
    count-one f (got_kind s.protocol (history_after s earlier) packet) (kinds_by s earlier) (g (s.protocol.reception packet))
    (count_by (λ packet. g (s.protocol.reception packet)) (strays_of earlier))
    (law.strays (history_after s earlier) packet (s.protocol.reception packet) h.0) (count-strays f g law s earlier h.1 a.1)
    ∙ sym (sum_by-cons (λ packet. cond (g (s.protocol.reception packet)) 1 0) packet (strays_of earlier))
count-strays f g law s (deliver m ∷ earlier) h a =
    count-none f (got_kind s.protocol (history_after s earlier) m.packet) (kinds_by s earlier) (not-own (counted s earlier m h a).is) ∙ count-strays f g law s earlier h.1 a.1
  where
    not-own : (got_kind s.protocol (history_after s earlier) m.packet ≡ became.Kept m.tag) ⊎ (got_kind s.protocol (history_after s earlier) m.packet ≡ became.Repeat m.tag)
        → f (got_kind s.protocol (history_after s earlier) m.packet) ≡ false
    not-own (inl e) = ap f e ∙ law.kept m.tag
    not-own (inr e) = ap f e ∙ law.again m.tag

never : Reception → Bool
never x = false

count-never : (s : Session) (packets : List (List ℕ)) → count_by (λ packet. never (s.protocol.reception packet)) packets ≡ 0
unfolding never
count-never s [] = refl
count-never s (packet ∷ packets) =
    let rest = count-never s packets in
    sum_by-cons (λ (x : List ℕ). cond false 1 0) packet packets ∙ omega (arith, rest)

foreign-strays : IsOfStrays is_foreign is_of_another
foreign-strays = record { kept = λ tag. refl; again = λ tag. refl; strays = go }
  where
    go : (h : History) (packet : List ℕ) (x : Reception) → IsStray x → is_foreign (kind_by_reception h packet x) ≡ is_of_another x
    go h packet (foreign apid) strays = refl
    go h packet (skipped service subtype) strays = refl
    go h packet unread strays = absurd strays
    go h packet (readable r) strays = absurd strays

skipped-strays : IsOfStrays is_skipped is_of_no_type
skipped-strays = record { kept = λ tag. refl; again = λ tag. refl; strays = go }
  where
    go : (h : History) (packet : List ℕ) (x : Reception) → IsStray x → is_skipped (kind_by_reception h packet x) ≡ is_of_no_type x
    go h packet (foreign apid) strays = refl
    go h packet (skipped service subtype) strays = refl
    go h packet unread strays = absurd strays
    go h packet (readable r) strays = absurd strays

conflict-strays : IsOfStrays is_conflict never
unfolding never
conflict-strays = record { kept = λ tag. refl; again = λ tag. refl; strays = go }
  where
    go : (h : History) (packet : List ℕ) (x : Reception) → IsStray x → is_conflict (kind_by_reception h packet x) ≡ false
    go h packet (foreign apid) strays = refl
    go h packet (skipped service subtype) strays = refl
    go h packet unread strays = absurd strays
    go h packet (readable r) strays = absurd strays

unread-strays : IsOfStrays is_unread never
unfolding never
unread-strays = record { kept = λ tag. refl; again = λ tag. refl; strays = go }
  where
    go : (h : History) (packet : List ℕ) (x : Reception) → IsStray x → is_unread (kind_by_reception h packet x) ≡ false
    go h packet (foreign apid) strays = refl
    go h packet (skipped service subtype) strays = refl
    go h packet unread strays = absurd strays
    go h packet (readable r) strays = absurd strays

stray-strays : IsOfStrays is_stray never
unfolding never
stray-strays = record { kept = λ tag. refl; again = λ tag. refl; strays = go }
  where
    go : (h : History) (packet : List ℕ) (x : Reception) → IsStray x → is_stray (kind_by_reception h packet x) ≡ false
    go h packet (foreign apid) strays = refl
    go h packet (skipped service subtype) strays = refl
    go h packet unread strays = absurd strays
    go h packet (readable r) strays = absurd strays

-- what is counted in a world is so
pub counts-true : (w : World) → EachAfter (MayStep w.session) w.steps → AreGenuine w.session.protocol w.session.known w.session.long (entries_seen w.session.requests w.steps)
    → AreTrueCounts w (kinds_by w.session w.steps)
counts-true w h g =
    record {
      repeats = count-repeats w.session w.steps h g;
      foreign = count-strays is_foreign is_of_another foreign-strays w.session w.steps h g;
      skipped = count-strays is_skipped is_of_no_type skipped-strays w.session w.steps h g;
      conflicts = count-strays is_conflict never conflict-strays w.session w.steps h g ∙ count-never w.session (strays_of w.steps);
      unread = count-strays is_unread never unread-strays w.session w.steps h g ∙ count-never w.session (strays_of w.steps);
      stray = count-strays is_stray never stray-strays w.session w.steps h g ∙ count-never w.session (strays_of w.steps);
    }
