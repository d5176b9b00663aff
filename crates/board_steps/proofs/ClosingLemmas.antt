-- The end of a slot: the values of settable parameters are filed, and the reports that are due are honest.
use Rattle.std.proofs.Common.{arith, ◌≡◌, ℕ, zero, suc, ◌+◌, ◌-◌, ◌*◌, ◌/◌, ◌%◌, ◌<◌, ◌≤◌, refl, sym, ◌∙◌, ap, subst, List, [], ◌∷◌, ◌++◌, length, map, take, cond, Bool, true, false, ◌==◌, ◌&&◌, Option, Some, None, ◌⊎◌, inl, inr, filter, mod-eq_of_lt}
use Rattle.std.specs.Prelude.{⊤, ℤ, pos, IsTrue, IsFalse, nat_eq, nat_le, find, unwrap_or, if◌then◌else◌}
use Rattle.std.specs.List.{AllByRecursion, IsDistinct}
use Rattle.std.specs.Option.{option_map_or}
use Rattle.std.proofs.lemmas.Bool.{cases_lt, or_cases, eq-eqb, ne_eqb}
use Rattle.std.proofs.lemmas.Bool.Decides.{Decides-eqb}
use Rattle.std.proofs.Math.Nat.{div-lt_iff_lt-mul, le-div_iff_mul-le}
use Rattle.hk_base.specs.Fit.{IsFit, greatest_tag}
use Rattle.hk_base.specs.TailoringParts.{TailoringParts}
use Rattle.hk_base.specs.Parameters.{parameter, is_settable, fits}
use Rattle.hk_base.specs.declared.types.Key.{Key}
use Rattle.hk_base.specs.declared.types.Param.{Param}
use Rattle.hk_base.specs.declared.types.Structure.{Structure}
use Rattle.hk_base.proofs.Membership.{AllByRecursion-append}
use Rattle.body_fields.specs.Spelling.{AreOctets}
use Rattle.hk_world.specs.Timelines.{done_by, state_after}
use Rattle.hk_world.specs.Legal.{is_filing}
use Rattle.hk_world.specs.declared.moment.Moment.{Moment}
use Rattle.hk_world.specs.declared.moment.Act.{Act}
use Rattle.hk_world.specs.declared.moment.Act.TheVariants.{Accepted, TurnedAway, Started, NotStarted, Executed, Completed, Emitted, Filed}
use Rattle.hk_world.proofs.OrderLemmas.{true_is_not_false}
use Rattle.board_steps.specs.Cores.{Core, session, state_of, pending, next_tag}
use Rattle.board_steps.specs.Slots.{first_slot, ends_interval, is_spent, is_due, is_statistics_due, is_complete, is_set}
use Rattle.board_steps.specs.Plans.{Topic, samples_of, structure_of, properties_of, statistics, definitions, values_of, does, tells, settables, own_filing, every_key, is_reported, due_topics, tags_left, closing}
use Rattle.board_steps.specs.Steps.{AreNext}
use Rattle.board_steps.proofs.GrammarLemmas.{RequestsOnly}
use Rattle.board_steps.proofs.TimeLemmas.{all-mapped, IsGood, IsFiledBy, AreFiledBy, are-filed-later, next-tag-more}
use Rattle.board_steps.proofs.ValueLemmas.{settable-value, still-set, still-structure}
use Rattle.board_steps.proofs.NextLemmas.{MayDo, IsTimely, does-next, tells-next}

-- the slot of a tag
slot-is : (tag slot width : ℕ) → 0 < width → slot * width ≤ tag → tag < (slot + 1) * width → tag / width ≡ slot
slot-is tag slot width some low high =
    let a : slot ≤ tag / width = (le-div_iff_mul-le some).1 low in
    let b : tag / width < slot + 1 = (div-lt_iff_lt-mul some).1 high in
    omega (arith, a, b)

-- so many slots are a whole number of intervals, so there are as many as an interval has
pub whole : (d n : ℕ) → 1 ≤ d → d % n ≡ 0 → n ≤ d
whole d n some e = go (cases_lt d n)
  where
    go : (d < n) ⊎ (n ≤ d) → n ≤ d
    go (inl lt) = let same : d % n ≡ d = mod-eq_of_lt lt in absurd (omega (arith, same, e, some))
    go (inr le) = le

-- an interval that ends with a slot has as many slots as there are up to it, or fewer
pub interval-due : (c : Core) (key : Key) (x : Structure) → is_due c key x ≡ true → x.def.interval ≤ c.slot_now + 1
interval-due c key x e = go (or_cases (x.enabled && ends_interval (first_slot c key) x.def.interval c.slot_now) (is_spent c key x) e)
  where
    spent : (o : Option ℕ) → option_map_or (λ first. first + x.def.interval == c.slot_now + 1) o false ≡ true → x.def.interval ≤ c.slot_now + 1
    spent None h = absurd (true_is_not_false (sym h))
    spent (Some first) h = let same : first + x.def.interval ≡ c.slot_now + 1 = (Decides-eqb (first + x.def.interval) (c.slot_now + 1)).0 h in omega (arith, same)

    ended : (b : Bool) → x.enabled ≡ b → (b && ends_interval (first_slot c key) x.def.interval c.slot_now) ≡ true → x.def.interval ≤ c.slot_now + 1
    ended false f h = absurd (true_is_not_false (sym h))
    ended true f h = parts (nat_le (first_slot c key) c.slot_now) h
      where
        parts : (b : Bool) → (b && ((c.slot_now - first_slot c key + 1) % x.def.interval == 0)) ≡ true → x.def.interval ≤ c.slot_now + 1
        parts false h = absurd (true_is_not_false (sym h))
        parts true h =
            let zero-left : (c.slot_now - first_slot c key + 1) % x.def.interval ≡ 0 = (Decides-eqb ((c.slot_now - first_slot c key + 1) % x.def.interval) 0).0 h in
            let few = whole (c.slot_now - first_slot c key + 1) x.def.interval (omega arith) zero-left in
            omega (arith, few)

    go : ((x.enabled && ends_interval (first_slot c key) x.def.interval c.slot_now) ≡ true) ⊎ (is_spent c key x ≡ true) → x.def.interval ≤ c.slot_now + 1
    go (inl h) = ended x.enabled refl h
    go (inr h) = spent (pending c key) h

-- a report that is due
abbrev pub IsDueTopic : Core → Topic → Type 0
IsDueTopic c (samples_of key) = is_reported c key ≡ true
IsDueTopic c _ = ⊤

left-and : (a b : Bool) → (a && b) ≡ true → a ≡ true
left-and true b h = refl
left-and false b h = absurd (true_is_not_false (sym h))

interval-reported : (c : Core) (key : Key) → is_reported c key ≡ true → (x : Structure) → (state_of c).structure key ≡ Some x → x.def.interval ≤ c.slot_now + 1
interval-reported c key e x there =
    let due : (is_due c key x && is_complete c x.def) ≡ true = sym (ap (λ o. option_map_or (λ y. is_due c key y && is_complete c y.def) o false) there) ∙ e in
    interval-due c key x (left-and (is_due c key x) (is_complete c x.def) due)

module _ (c : Core) (width : 0 < c.tailoring.widths.slot) (ends : (c.slot_now + 1) * c.tailoring.widths.slot ≤ c.clock) where
  timely : (earlier : List Moment) → ((key : Key) → (state_after (session c) earlier).structure key ≡ (state_of c).structure key) → (tag : ℕ) (topic : Topic)
      → tag ≡ next_tag c.clock earlier → tag < (c.slot_now + 2) * c.tailoring.widths.slot → IsDueTopic c topic → IsTimely (session c) c.slot_now earlier tag topic
  timely earlier same tag (samples_of key) e high due =
      (slot-is tag (c.slot_now + 1) c.tailoring.widths.slot width (omega (arith, ends, e)) (two high), λ x there. interval-reported c key due x (sym (same key) ∙ there))
    where
      two : tag < (c.slot_now + 2) * c.tailoring.widths.slot → tag < ((c.slot_now + 1) + 1) * c.tailoring.widths.slot
      two h = subst (λ n. tag < n * c.tailoring.widths.slot) (omega arith) h
  timely earlier same tag (structure_of key) e high due = tt
  timely earlier same tag (properties_of key) e high due = tt
  timely earlier same tag statistics e high due = tt
  timely earlier same tag definitions e high due = tt
  timely earlier same tag (values_of ids) e high due = tt

  reports-next : (earlier after : List Moment) (topics : List Topic) → AllByRecursion (IsDueTopic c) topics → IsGood (session c) (c.slot_now + 1) earlier
      → ((key : Key) → (state_after (session c) earlier).structure key ≡ (state_of c).structure key)
      → length topics ≤ (c.slot_now + 2) * c.tailoring.widths.slot - next_tag c.clock earlier
      → next_tag c.clock earlier + length (map tells topics) ≤ greatest_tag c.tailoring + 1
      → AreNext (session c) c.clock c.slot_now earlier (map tells topics) after → IsGood (session c) (c.slot_now + 1) after
  reports-next earlier after [] all g same room time h = subst (IsGood (session c) (c.slot_now + 1)) (sym h) g
  reports-next earlier after (topic ∷ topics) all g same room time h =
      let m : Moment = h.0 in
      let more = next-tag-more c.clock earlier m h.1.tag in
      let tag : m.tag ≡ next_tag c.clock earlier = h.1.tag in
      let none = ap (done_by (session c) m.tag) h.1.follows.0 in
      let g2 = tells-next (session c) c.clock c.slot_now (c.slot_now + 1) earlier topic m g h.1 (omega (arith, time))
      (timely earlier same m.tag topic tag (omega (arith, tag, room)) all.0) in
      reports-next (m ∷ earlier) after topics all.1 g2 (λ key. still-structure (session c) m earlier key none ∙ same key)
      (omega (arith, room, more)) (omega (arith, time, more)) h.2

-- a settable parameter whose value is still to be filed
pub record IsToFile (c : Core) (earlier : List Moment) (p : Param) : Type 0 where
  pub known : parameter c.tailoring p.id ≡ Some p
  pub set : is_settable p ≡ true
  pub value : (state_after (session c) earlier).value p.id ≡ (state_of c).value p.id
  pub once : AllByRecursion (λ e. IsFalse (is_filing p.id c.slot_now e.act)) earlier

-- no two parameters have one ID
abbrev pub AreIdsApart : List Param → Type 0
AreIdsApart [] = ⊤
AreIdsApart (p ∷ ps) = AllByRecursion (λ q. (p.id == q.id) ≡ false) ps × AreIdsApart ps

-- the filings at the end of a slot, so far
pub record IsClosing (c : Core) (ps : List Param) (earlier : List Moment) : Type 0 where
  pub good : IsGood (session c) (c.slot_now + 1) earlier
  pub structures : (key : Key) → (state_after (session c) earlier).structure key ≡ (state_of c).structure key
  pub params : AllByRecursion (IsToFile c earlier) ps
  pub apart : AreIdsApart ps

-- a sample of one parameter is none of another
other-filing : (id other slot : ℕ) (v : ℤ) → (id == other) ≡ false → is_filing other slot (Filed id slot v) ≡ false
other-filing id other slot v e = ap (λ b. b && slot == slot) e

module _ (c : Core) (fit : IsFit c.tailoring) (only : RequestsOnly c.tailoring) (octets : AllByRecursion AreOctets c.requests)
    (ends : (c.slot_now + 1) * c.tailoring.widths.slot ≤ c.clock) where
  width : 0 < c.tailoring.widths.slot
  width = omega (arith, fit.widths.slot.0)

  -- the value of a settable parameter may be filed
  may-file : (p : Param) (ps : List Param) (earlier : List Moment) → IsClosing c (p ∷ ps) earlier → MayDo (session c) (c.slot_now + 1) earlier (own_filing c p)
  may-file p ps earlier h =
      let f = h.params.0 in
      let v = settable-value c only octets fit p p.id f.known f.set c.moments in
      let is : unwrap_or ((state_of c).value p.id) (pos 0) ≡ v.0 = ap (λ o. unwrap_or o (pos 0)) v.1 in
      record {
        handling = tt;
        order = tt;
        outcome = tt;
        sample = (
          p,
          record {
            known = f.known;
            fit = subst (λ w. IsTrue (fits p w)) (sym is) v.2;
            once = f.once;
            settable = λ set why. f.value ∙ v.1 ∙ ap Some (sym is);
          },
        );
        below = tt;
        filed = (omega arith, λ set. omega arith);
      }

  to-file-more : (p q : Param) (m : Moment) (earlier : List Moment) → m.act ≡ own_filing c p → (p.id == q.id) ≡ false → IsToFile c earlier q → IsToFile c (m ∷ earlier) q
  to-file-more p q m earlier e apart f =
      record {
        known = f.known;
        set = f.set;
        value = still-set c only octets q q.id f.known f.set m earlier (ap (done_by (session c) m.tag) e) ∙ f.value;
        once = (ap (is_filing q.id c.slot_now) e ∙ other-filing p.id q.id c.slot_now (unwrap_or ((state_of c).value p.id) (pos 0)) apart, f.once);
      }

  all-to-file-more : (p : Param) (m : Moment) (earlier : List Moment) → m.act ≡ own_filing c p → (ps : List Param) → AllByRecursion (λ q. (p.id == q.id) ≡ false) ps
      → AllByRecursion (IsToFile c earlier) ps → AllByRecursion (IsToFile c (m ∷ earlier)) ps
  all-to-file-more p m earlier e [] apart h = tt
  all-to-file-more p m earlier e (q ∷ ps) apart h = (to-file-more p q m earlier e apart.0 h.0, all-to-file-more p m earlier e ps apart.1 h.1)

  -- the filings come, and then the reports
  filings-next : (ps : List Param) (earlier after : List Moment) (topics : List Topic) → IsClosing c ps earlier → AllByRecursion (IsDueTopic c) topics
      → length topics ≤ (c.slot_now + 2) * c.tailoring.widths.slot - (next_tag c.clock earlier + length ps)
      → next_tag c.clock earlier + length (map (λ p. does (own_filing c p)) ps ++ map tells topics) ≤ greatest_tag c.tailoring + 1
      → AreNext (session c) c.clock c.slot_now earlier (map (λ p. does (own_filing c p)) ps ++ map tells topics) after → IsGood (session c) (c.slot_now + 1) after
  filings-next [] earlier after topics k all room time h =
      reports-next c width ends earlier after topics all k.good k.structures (omega (arith, room)) (omega (arith, time)) h
  filings-next (p ∷ ps) earlier after topics k all room time h =
      let m : Moment = h.0 in
      let more = next-tag-more c.clock earlier m h.1.tag in
      let none = ap (done_by (session c) m.tag) h.1.follows.0 in
      let good = does-next (session c) c.clock c.slot_now (c.slot_now + 1) earlier (own_filing c p) m k.good h.1 (omega (arith, time)) (may-file p ps earlier k) in
      let next : IsClosing c ps (m ∷ earlier) =
      record {
        good = good;
        structures = λ key. still-structure (session c) m earlier key none ∙ k.structures key;
        params = all-to-file-more p m earlier h.1.follows.0 ps k.apart.0 k.params.1;
        apart = k.apart.1;
      } in
      filings-next ps (m ∷ earlier) after topics next all (omega (arith, room, more)) (omega (arith, time, more)) h.2

-- members of a part of a list
all-take : {X : Type 0} (P : X → Type 0) (n : ℕ) (xs : List X) → AllByRecursion P xs → AllByRecursion P (take n xs)
all-take P zero xs h = tt
all-take P (suc n) [] h = tt
all-take P (suc n) (x ∷ xs) h = (h.0, all-take P n xs h.1)

all-filter : {X : Type 0} (P : X → Type 0) (test : X → Bool) (xs : List X) → AllByRecursion P xs → AllByRecursion P (filter test xs)
all-filter P test [] h = tt
all-filter P test (x ∷ xs) h = go (test x) (all-filter P test xs h.1)
  where
    go : (b : Bool) → AllByRecursion P (filter test xs) → AllByRecursion P (cond b (x ∷ filter test xs) (filter test xs))
    go true rest = (h.0, rest)
    go false rest = rest

-- what passes a test passes it
filter-passes : {X : Type 0} (test : X → Bool) (xs : List X) → AllByRecursion (λ x. test x ≡ true) (filter test xs)
filter-passes test [] = tt
filter-passes test (x ∷ xs) = go (test x) refl (filter-passes test xs)
  where
    go : (b : Bool) → test x ≡ b → AllByRecursion (λ y. test y ≡ true) (filter test xs) → AllByRecursion (λ y. test y ≡ true) (cond b (x ∷ filter test xs) (filter test xs))
    go true e rest = (e, rest)
    go false e rest = rest

apart-filter : (test : Param → Bool) (ps : List Param) → AreIdsApart ps → AreIdsApart (filter test ps)
apart-filter test [] h = tt
apart-filter test (p ∷ ps) h = go (test p) (apart-filter test ps h.1)
  where
    go : (b : Bool) → AreIdsApart (filter test ps) → AreIdsApart (cond b (p ∷ filter test ps) (filter test ps))
    go true rest = (all-filter (λ q. (p.id == q.id) ≡ false) test ps h.0, rest)
    go false rest = rest

all-unmapped : (P : ℕ → Type 0) (ps : List Param) → AllByRecursion P (map (λ p. p.id) ps) → AllByRecursion (λ p. P p.id) ps
all-unmapped P [] h = tt
all-unmapped P (p ∷ ps) h = (h.0, all-unmapped P ps h.1)

pub distinct-apart : (ps : List Param) → IsDistinct nat_eq (map (λ p. p.id) ps) → AreIdsApart ps
unfolding IsDistinct
distinct-apart [] h = tt
distinct-apart (p ∷ ps) h = (all-unmapped (λ y. nat_eq p.id y ≡ false) ps h.0, distinct-apart ps h.1)

-- each parameter is the one with its ID
found-own : (front ps : List Param) (all : List Param) → ((id : ℕ) → AllByRecursion (λ q. (q.id == id) ≡ false) front → find (λ q. q.id == id) all ≡ find (λ q. q.id == id) ps)
    → AllByRecursion (λ p. AllByRecursion (λ q. (q.id == p.id) ≡ false) front) ps → AreIdsApart ps → AllByRecursion (λ p. find (λ q. q.id == p.id) all ≡ Some p) ps
found-own front [] all skips before apart = tt
found-own front (p ∷ ps) all skips before apart = (
  skips p.id before.0 ∙ ap (λ b. cond b (Some p) (find (λ q. q.id == p.id) ps)) (eq-eqb p.id p.id refl),
  found-own (p ∷ front) ps all
      (λ id h. skips id h.1 ∙ ap (λ b. cond b (Some p) (find (λ q. q.id == id) ps)) h.0)
      (both ps before.1 apart.0) apart.1,
)
  where
    both : (qs : List Param) → AllByRecursion (λ q. AllByRecursion (λ r. (r.id == q.id) ≡ false) front) qs → AllByRecursion (λ q. (p.id == q.id) ≡ false) qs
        → AllByRecursion (λ q. AllByRecursion (λ r. (r.id == q.id) ≡ false) (p ∷ front)) qs
    both [] f g = tt
    both (q ∷ qs) f g = ((g.0, f.0), both qs f.1 g.1)

all-tt : {X : Type 0} (xs : List X) → AllByRecursion (λ x. ⊤) xs
all-tt [] = tt
all-tt (x ∷ xs) = (tt, all-tt xs)

both-all : {X : Type 0} (P Q : X → Type 0) (xs : List X) → AllByRecursion P xs → AllByRecursion Q xs → AllByRecursion (λ x. P x × Q x) xs
both-all P Q [] f g = tt
both-all P Q (x ∷ xs) f g = ((f.0, g.0), both-all P Q xs f.1 g.1)

-- a settable parameter has no sample yet for the slot that runs
unfiled : (c : Core) (p : Param) → parameter c.tailoring p.id ≡ Some p → is_settable p ≡ true → (act : Act) → IsFiledBy c.tailoring c.slot_now act → is_filing p.id c.slot_now act ≡ false
unfiled c p known set (Filed id x v) h = go (id == p.id) refl
  where
    go : (b : Bool) → (id == p.id) ≡ b → (id == p.id && x == c.slot_now) ≡ false
    go false e = ap (λ b. b && x == c.slot_now) e
    go true e =
        let same : id ≡ p.id = (Decides-eqb id p.id).0 e in
        let is : is_set c.tailoring id ≡ true = ap (is_set c.tailoring) same ∙ ap (λ o. option_map_or is_settable o false) known ∙ set in
        ap (λ b. b && x == c.slot_now) e ∙ ne_eqb x c.slot_now (omega (arith, h.1 is))
unfiled c p known set (Accepted k) h = refl
unfiled c p known set (TurnedAway k) h = refl
unfiled c p known set (Started k) h = refl
unfiled c p known set (NotStarted k) h = refl
unfiled c p known set (Executed k number flag) h = refl
unfiled c p known set (Completed k refused) h = refl
unfiled c p known set Emitted h = refl

-- what is to be filed where a slot ends
all-to-file : (c : Core) → AreFiledBy c.tailoring c.slot_now c.moments → (ps : List Param)
    → AllByRecursion (λ p. (find (λ q. q.id == p.id) c.tailoring.params ≡ Some p) × (is_settable p ≡ true)) ps → AllByRecursion (IsToFile c c.moments) ps
all-to-file c filed [] h = tt
all-to-file c filed (p ∷ ps) h = (
  record {
    known = h.0.0;
    set = h.0.1;
    value = refl;
    once = all-mapped (λ (m : Moment). IsFiledBy c.tailoring c.slot_now m.act) (λ m. IsFalse (is_filing p.id c.slot_now m.act)) (λ m k. unfiled c p h.0.0 h.0.1 m.act k) c.moments filed;
  },
  all-to-file c filed ps h.1,
)

-- each settable parameter is the one with its ID
pub settables-own : (t : TailoringParts) → IsFit t → AllByRecursion (λ p. (find (λ q. q.id == p.id) t.params ≡ Some p) × (is_settable p ≡ true)) (settables t)
settables-own t fit =
    let own = found-own [] t.params t.params (λ id h. refl) (all-tt t.params) (distinct-apart t.params fit.ids) in
    both-all (λ p. find (λ q. q.id == p.id) t.params ≡ Some p) (λ p. is_settable p ≡ true) (settables t)
    (all-filter (λ p. find (λ q. q.id == p.id) t.params ≡ Some p) is_settable t.params own) (filter-passes is_settable t.params)

-- the filings at the end of a slot, before the first
pub closing-begins : (c : Core) → IsFit c.tailoring → IsGood (session c) c.slot_now c.moments → IsClosing c (settables c.tailoring) c.moments
closing-begins c fit g =
    let apart : AreIdsApart c.tailoring.params = distinct-apart c.tailoring.params fit.ids in
    record {
      good = record { timeline = g.timeline; below = g.below; filed = are-filed-later c.tailoring c.slot_now c.moments g.filed };
      structures = λ key. refl;
      params = all-to-file c g.filed (settables c.tailoring) (settables-own c.tailoring fit);
      apart = apart-filter is_settable c.tailoring.params apart;
    }

due-mapped : (c : Core) (keys : List Key) → AllByRecursion (λ key. is_reported c key ≡ true) keys → AllByRecursion (IsDueTopic c) (map samples_of keys)
due-mapped c [] h = tt
due-mapped c (key ∷ keys) h = (h.0, due-mapped c keys h.1)

due-statistics : (c : Core) (b : Bool) → AllByRecursion (IsDueTopic c) (if b then statistics ∷ [] else [])
due-statistics c true = (tt, tt)
due-statistics c false = tt

-- what is reported at the end of a slot is due
pub all-due : (c : Core) → AllByRecursion (IsDueTopic c) (take (tags_left c) (due_topics c))
all-due c =
    all-take (IsDueTopic c) (tags_left c) (due_topics c)
    (AllByRecursion-append (IsDueTopic c) (map samples_of (filter (is_reported c) (every_key c.tailoring))) (if is_statistics_due c then statistics ∷ [] else [])
    (due-mapped c (filter (is_reported c) (every_key c.tailoring)) (filter-passes (is_reported c) (every_key c.tailoring)))
    (due-statistics c (is_statistics_due c)))

take-most : {X : Type 0} (n : ℕ) (xs : List X) → length (take n xs) ≤ n
take-most zero xs = omega arith
take-most (suc n) [] = omega arith
take-most (suc n) (x ∷ xs) = omega (arith, take-most n xs)

-- the end of a slot
pub closing-next : (c : Core) → IsFit c.tailoring → RequestsOnly c.tailoring → AllByRecursion AreOctets c.requests → (c.slot_now + 1) * c.tailoring.widths.slot ≤ c.clock
    → IsGood (session c) c.slot_now c.moments → (after : List Moment) → next_tag c.clock c.moments + length (closing c) ≤ greatest_tag c.tailoring + 1
    → AreNext (session c) c.clock c.slot_now c.moments (closing c) after → IsGood (session c) (c.slot_now + 1) after
closing-next c fit only octets ends g after time h =
    filings-next c fit only octets ends (settables c.tailoring) c.moments after (take (tags_left c) (due_topics c)) (closing-begins c fit g) (all-due c)
    (take-most (tags_left c) (due_topics c)) time h
