-- Each pending one-shot is of a structure that is there, and is still to be spent.
use Rattle.std.proofs.Common.{arith, ◌≡◌, ℕ, ◌+◌, ◌-◌, ◌*◌, ◌<◌, ◌≤◌, refl, sym, ◌∙◌, ap, ap₂, subst, List, [], ◌∷◌, ◌++◌, length, map, take, replicate, Bool, true, false, ◌==◌, Option, Some, None, Result, Ok}
use Rattle.std.specs.Prelude.{⊤, is_none, is_some, option_map, if◌then◌else◌}
use Rattle.std.specs.List.{AllByRecursion, cons_option}
use Rattle.std.specs.Option.{option_map_or}
use Rattle.std.specs.Result.{result_err, result_unwrap_or}
use Rattle.std.proofs.lemmas.Option.{same_Some, none-some}
use Rattle.std.proofs.lemmas.Bool.{and_parts}
use Rattle.std.proofs.lemmas.Bool.Decides.{Decides-eqb, nat_tests}
use Rattle.std.proofs.Math.Nat.{le-div_iff_mul-le}
use Rattle.hk_base.specs.Fit.{IsFit, slot_of}
use Rattle.hk_base.specs.TailoringParts.{TailoringParts}
use Rattle.hk_base.specs.Parameters.{key_eq, kind_eq}
use Rattle.hk_base.specs.Definitions.{listed_ids, parameter_ids}
use Rattle.hk_base.specs.declared.types.Definition.{Definition}
use Rattle.hk_base.specs.declared.types.Key.{Key}
use Rattle.hk_base.specs.declared.types.Kind.{Kind}
use Rattle.hk_base.specs.declared.types.Kind.TheVariants.{Housekeeping, Diagnostic}
use Rattle.hk_base.specs.declared.types.Param.{Param}
use Rattle.hk_base.specs.declared.types.Structure.{Structure}
use Rattle.st03_grammar.specs.Instructions.{StructureChange, create, append, set_interval, plain}
use Rattle.st03_grammar.specs.declared.bodies.Each.TheVariants.{Delete, Enable, Disable, Show, OneShot, ShowPeriodic}
use Rattle.pus_messages.specs.Instructions.{Instruction, on_structure, on_statistics, report_values, set_values}
use Rattle.report_structures.specs.Effects.{effect, left_by, state_unless, if_enabled, if_doubled, if_uneven, if_too_many, if_too_wide, extended_definition, with_definition}
use Rattle.report_structures.specs.declared.refusal.Refusal.{Refusal}
use Rattle.report_structures.specs.declared.refusal.Refusal.TheVariants.{Exists, Absent}
use Rattle.hk_world.specs.States.{refusal, structure_left}
use Rattle.hk_world.specs.Timelines.{Session, tailoring, Done, request_at, instructions_at, instruction_at, last_act, done_by, done_at, done_instructions, structure_after, state_after}
use Rattle.hk_world.specs.Legal.{refused_numbers}
use Rattle.hk_world.specs.declared.moment.Moment.{Moment}
use Rattle.hk_world.specs.declared.moment.Act.{Act}
use Rattle.hk_world.specs.declared.moment.Act.TheVariants.{Accepted, TurnedAway, Started, NotStarted, Executed, Completed, Emitted, Filed}
use Rattle.hk_world.proofs.OrderLemmas.{true_is_not_false}
use Rattle.board_steps.specs.Cores.{Core, session, state_of, new_core, pending, next_tag}
use Rattle.board_steps.specs.Slots.{is_spent, one_shot_changed, one_shot_by_instruction}
use Rattle.board_steps.specs.Plans.{Topic, Plan, does, tells, handled_as, handling, prepared, worked_request, worked_acts, next_acts, is_barred, execution, done_of, topics_of, settables, own_filing, due_topics, tags_left, planned, one_shot_by}
use Rattle.board_steps.specs.Steps.{IsNext, AreNext, IsStep}
use Rattle.board_steps.specs.Runs.{IsRun}
use Rattle.board_steps.specs.Timeline.{Stands, AreBelow}
use Rattle.board_steps.specs.OneShots.{AreShotsAhead}
use Rattle.board_steps.specs.declared.event.Event.{Event}
use Rattle.board_steps.specs.declared.event.Event.TheVariants.{Uplink, Clock, Work, Filing, CloseSlot}
use Rattle.board_steps.proofs.GrammarLemmas.{RequestsOnly}
use Rattle.board_steps.proofs.GrownLemmas.{agree-all, state-agrees}
use Rattle.board_steps.proofs.ValueLemmas.{still-structure}
use Rattle.board_steps.proofs.RunLemmas.{session_by, with_packet, acts_of, packet-clock, run-stands, run-tailoring}
use Rattle.board_steps.proofs.ReportLemmas.{prepared-tailoring}

-- a plan that does no instruction
abbrev pub IsIdle : Session → Plan → Type 0
IsIdle s (does act) = (tag : ℕ) → done_by s tag act ≡ None
IsIdle s (tells topic) = ⊤

pub next-idle : (s : Session) (clock slot : ℕ) (earlier : List Moment) (plan : Plan) (m : Moment) → IsIdle s plan → IsNext s clock slot earlier plan m → done_at s m ≡ None
next-idle s clock slot earlier (does act) m idle h = ap (done_by s m.tag) h.follows.0 ∙ idle m.tag
next-idle s clock slot earlier (tells topic) m idle h = ap (done_by s m.tag) h.follows.0

-- such plans leave the structures
idle-structure : (s : Session) (clock slot : ℕ) (key : Key) (earlier after : List Moment) (plans : List Plan) → AllByRecursion (IsIdle s) plans → AreNext s clock slot earlier plans after
    → (state_after s after).structure key ≡ (state_after s earlier).structure key
idle-structure s clock slot key earlier after [] idle h = ap (λ ms. (state_after s ms).structure key) h
idle-structure s clock slot key earlier after (plan ∷ plans) idle h =
    idle-structure s clock slot key (h.0 ∷ earlier) after plans idle.1 h.2
    ∙ still-structure s h.0 earlier key (next-idle s clock slot earlier plan h.0 idle.0 h.1)

pub topics-idle : (s : Session) (topics : List Topic) → AllByRecursion (IsIdle s) (map tells topics)
topics-idle s [] = tt
topics-idle s (topic ∷ topics) = (tt, topics-idle s topics)

pub own-idle : (s : Session) (c : Core) (ps : List Param) (topics : List Topic) → AllByRecursion (IsIdle s) (map (λ p. does (own_filing c p)) ps ++ map tells topics)
own-idle s c [] topics = topics-idle s topics
own-idle s c (p ∷ ps) topics = ((λ tag. refl), own-idle s c ps topics)

handling-idle : (s : Session) (b : Bool) (k tag : ℕ) → done_by s tag (if b then Accepted k else TurnedAway k) ≡ None
handling-idle s true k tag = refl
handling-idle s false k tag = refl

pub packet-idle : (s : Session) (o : Option ℕ) → AllByRecursion (IsIdle s) (option_map_or (λ k. does (handling s k) ∷ []) o [])
packet-idle s None = tt
packet-idle s (Some k) = ((λ tag. handling-idle s (is_some (request_at s k)) k tag), tt)

-- a step's state is that of the session which the event leaves
after-structure : (before : Core) (event : Event) (after : Core) (key : Key) → IsStep before event after
    → (state_of after).structure key ≡ (state_after (session (prepared before event)) after.moments).structure key
after-structure before event after key step =
    ap₂ (λ t rs. (state_after (session_by t rs) after.moments).structure key) (step.tailoring ∙ sym (prepared-tailoring before event)) step.requests

-- a packet that is handled leaves the structures
packet-structure : (c : Core) (packet : List ℕ) (o : Option ℕ) (key : Key) → AreBelow (length c.requests) c.moments
    → (state_after (session (with_packet c packet o)) c.moments).structure key ≡ (state_of c).structure key
packet-structure c packet None key below = refl
packet-structure c packet (Some k) key below =
    let more : List (List ℕ) = replicate (k - length c.requests) [] ++ packet ∷ [] in
    sym (ap (λ b. b.structure key) (state-agrees (session c) (c.requests ++ more) c.moments (agree-all c.requests more c.moments below)))

-- where no check has a refusal the new state is left
unless-ok : (checks : List (Option Refusal)) (z : Option Structure) → result_err (state_unless checks z) ≡ None → state_unless checks z ≡ Ok z
unless-ok [] z e = refl
unless-ok (None ∷ checks) z e = unless-ok checks z e
unless-ok (Some r ∷ checks) z e = absurd (none-some r (sym e))

-- a one-shot of a structure that is there, whose interval ends with this slot or a later one
abbrev pub IsAhead : ℕ → ℕ → Option Structure → Type 0
IsAhead slot first state = (x : Structure) × (state ≡ Some x) × (slot < first + x.def.interval)

pub moved : (p : Option ℕ) (n first : ℕ) → option_map (λ _. n) p ≡ Some first → n ≡ first
moved None n first e = absurd (none-some first e)
moved (Some f) n first e = same_Some n first e

ahead-left : (slot first n : ℕ) (y : Structure) (r : Result (Option Structure) Refusal) (old : Option Structure) → r ≡ Ok (Some y) → slot < n → n ≡ first
    → IsAhead slot first (result_unwrap_or r old)
ahead-left slot first n y r old e low same = (y, ap (λ x. result_unwrap_or x old) e, omega (arith, low, same))

-- a change that isn't refused leaves a pending one-shot of its structure ahead
change-ahead : (t : TailoringParts) (slot tag first : ℕ) (change : StructureChange) (p : Option ℕ) (state : Option Structure) → slot ≤ slot_of t tag
    → result_err (effect t change state) ≡ None → ((f : ℕ) → p ≡ Some f → IsAhead slot f state) → one_shot_changed t tag change p ≡ Some first
    → IsAhead slot first (left_by t change state)
change-ahead t slot tag first (create d) p (Some y) low ok was e = absurd (none-some Exists (sym ok))
change-ahead t slot tag first (create d) None None low ok was e = absurd (none-some first e)
change-ahead t slot tag first (create d) (Some f) None low ok was e = let w = was f refl in absurd (none-some w.0 w.1)
change-ahead t slot tag first (append a) p None low ok was e = absurd (none-some Absent (sym ok))
change-ahead t slot tag first (set_interval n) p None low ok was e = absurd (none-some Absent (sym ok))
change-ahead t slot tag first (plain each) p None low ok was e = absurd (none-some Absent (sym ok))
change-ahead t slot tag first (append a) p (Some y) low ok was e =
    let z : Structure = with_definition y (extended_definition y.def a) in
    let checks : List (Option Refusal) =
    if_enabled y
    ∷ if_doubled (parameter_ids y.def) (listed_ids a.simple a.arrays)
    ∷ if_uneven y.def.interval a.arrays
    ∷ if_too_many (length (extended_definition y.def a).simple)
    ∷ if_too_many (length (extended_definition y.def a).arrays)
    ∷ if_too_wide t (extended_definition y.def a)
    ∷ [] in
    ahead-left slot first (slot_of t tag + 1) z (effect t (append a) (Some y)) (Some y) (unless-ok checks (Some z) ok) (omega (arith, low)) (moved p (slot_of t tag + 1) first e)
change-ahead t slot tag first (set_interval n) p (Some y) low ok was e =
    let z : Structure = with_definition y (record y.def { interval = n }) in
    ahead-left slot first (slot_of t tag + 1) z (effect t (set_interval n) (Some y)) (Some y) (unless-ok (if_uneven n y.def.arrays ∷ []) (Some z) ok) (omega (arith, low))
    (moved p (slot_of t tag + 1) first e)
change-ahead t slot tag first (plain Delete) p (Some y) low ok was e = absurd (none-some first e)
change-ahead t slot tag first (plain Enable) p (Some y) low ok was e =
    (record { def = y.def; enabled = true }, refl, let same = moved p (slot_of t tag + 1) first e in omega (arith, low, same))
change-ahead t slot tag first (plain Disable) p (Some y) low ok was e =
    let w = was first e in
    (record { def = y.def; enabled = false }, refl, subst (λ (d : Definition). slot < first + d.interval) (sym (ap (λ (z : Structure). z.def) (same_Some y w.0 w.1))) w.2)
change-ahead t slot tag first (plain Show) p (Some y) low ok was e = was first e
change-ahead t slot tag first (plain ShowPeriodic) p (Some y) low ok was e = was first e
change-ahead t slot tag first (plain OneShot) None (Some y) low ok was e =
    (y, refl, let same : slot_of t tag + 1 ≡ first = same_Some (slot_of t tag + 1) first e in omega (arith, low, same))
change-ahead t slot tag first (plain OneShot) (Some f) (Some y) low ok was e = was first e

kinds-one : (a b : Kind) → kind_eq a b ≡ true → a ≡ b
kinds-one Housekeeping Housekeeping e = refl
kinds-one Diagnostic Diagnostic e = refl
kinds-one Housekeeping Diagnostic e = absurd (true_is_not_false (sym e))
kinds-one Diagnostic Housekeeping e = absurd (true_is_not_false (sym e))

keys-one : (a b : Key) → key_eq a b ≡ true → a ≡ b
keys-one a b e =
    let parts = and_parts (kind_eq a.kind b.kind) (a.id == b.id) e in
    ap₂ (λ k n. record { kind = k; id = n }) (kinds-one a.kind b.kind parts.0) ((Decides-eqb a.id b.id).0 parts.1)

-- an instruction that isn't refused leaves the one-shots ahead
instruction-ahead : (c : Core) (tag first : ℕ) (key : Key) (i : Instruction) → c.slot_now ≤ slot_of c.tailoring tag → AreShotsAhead c
    → refusal c.tailoring (state_of c) i ≡ None → one_shot_by_instruction c.tailoring tag key (pending c key) i ≡ Some first
    → IsAhead c.slot_now first (structure_left c.tailoring i key ((state_of c).structure key))
instruction-ahead c tag first key (on_structure named change) low ahead ok e = by_key (key_eq named key) refl
  where
    by_key : (b : Bool) → key_eq named key ≡ b → IsAhead c.slot_now first (structure_left c.tailoring (on_structure named change) key ((state_of c).structure key))
    by_key true f =
        let same : named ≡ key = keys-one named key f in
        let allowed : result_err (effect c.tailoring change ((state_of c).structure key)) ≡ None = subst (λ k. result_err (effect c.tailoring change ((state_of c).structure k)) ≡ None) same ok in
        let shot : one_shot_changed c.tailoring tag change (pending c key) ≡ Some first =
        sym (ap (λ b. if b then one_shot_changed c.tailoring tag change (pending c key) else pending c key) f) ∙ e in
        let left = change-ahead c.tailoring c.slot_now tag first change (pending c key) ((state_of c).structure key) low allowed (ahead key) shot in
        subst (λ b. IsAhead c.slot_now first (if b then left_by c.tailoring change ((state_of c).structure key) else (state_of c).structure key)) (sym f) left
    by_key false f =
        let shot : pending c key ≡ Some first = sym (ap (λ b. if b then one_shot_changed c.tailoring tag change (pending c key) else pending c key) f) ∙ e in
        subst (λ b. IsAhead c.slot_now first (if b then left_by c.tailoring change ((state_of c).structure key) else (state_of c).structure key)) (sym f) (ahead key first shot)
instruction-ahead c tag first key (on_statistics change) low ahead ok e = ahead key first e
instruction-ahead c tag first key (report_values ids) low ahead ok e = ahead key first e
instruction-ahead c tag first key (set_values settings) low ahead ok e = ahead key first e

-- what an execution does isn't refused
execution-allowed : (s : Session) (earlier : List Moment) (tag k number : ℕ) (d : Done) → done_by s tag (execution s earlier k number) ≡ Some d
    → (refusal (tailoring s) (state_after s earlier) d.instruction ≡ None) × (d.tag ≡ tag)
execution-allowed s earlier tag k number d e = by_instruction (instruction_at s k number) refl
  where
    make : Instruction → Done
    make x = record { tag = tag; request = k; instruction = x }

    by_refusal : (x : Instruction) → instruction_at s k number ≡ Some x → (r : Option Refusal) → refusal (tailoring s) (state_after s earlier) x ≡ r
        → done_by s tag (Executed k number (is_none r)) ≡ Some d → (refusal (tailoring s) (state_after s earlier) d.instruction ≡ None) × (d.tag ≡ tag)
    by_refusal x f None g h =
        let same : make x ≡ d = same_Some (make x) d (sym (ap (λ o. option_map (λ y. record { tag = tag; request = k; instruction = y }) o) f) ∙ h) in
        (ap (λ (y : Done). refusal (tailoring s) (state_after s earlier) y.instruction) (sym same) ∙ g, ap (λ (y : Done). y.tag) (sym same))
    by_refusal x f (Some r) g h = absurd (none-some d h)

    by_instruction : (o : Option Instruction) → instruction_at s k number ≡ o → (refusal (tailoring s) (state_after s earlier) d.instruction ≡ None) × (d.tag ≡ tag)
    by_instruction None f =
        let none : None ≡ Some d =
        sym (ap (λ o. done_by s tag (Executed k number (option_map_or (λ x. is_none (refusal (tailoring s) (state_after s earlier) x)) o false))) f) ∙ e in
        absurd (none-some d none)
    by_instruction (Some x) f =
        by_refusal x f (refusal (tailoring s) (state_after s earlier) x) refl
        (sym (ap (λ o. done_by s tag (Executed k number (option_map_or (λ y. is_none (refusal (tailoring s) (state_after s earlier) y)) o false))) f) ∙ e)

-- what the next act of a request does isn't refused
act-allowed : (s : Session) (earlier : List Moment) (tag k : ℕ) (o : Option Act) (act : Act) (d : Done) → next_acts s earlier k o ≡ act ∷ [] → done_by s tag act ≡ Some d
    → (refusal (tailoring s) (state_after s earlier) d.instruction ≡ None) × (d.tag ≡ tag)
act-allowed s earlier tag k (Some (Accepted j)) act d e h = absurd (none-some d (sym (begun (is_barred s earlier (instructions_at s k))) ∙ ap (done_by s tag) (first-same e) ∙ h))
  where
    begun : (b : Bool) → done_by s tag (if b then NotStarted k else Started k) ≡ None
    begun true = refl
    begun false = refl

    first-same : {x : Act} → x ∷ [] ≡ act ∷ [] → x ≡ act
    first-same f = cc
act-allowed s earlier tag k (Some (Started j)) act d e h = execution-allowed s earlier tag k 1 d (ap (done_by s tag) same ∙ h)
  where
    same : execution s earlier k 1 ≡ act
    same = cc
act-allowed s earlier tag k (Some (Executed j last flag)) act d e h = by_last (last == length (instructions_at s k)) (ap (done_by s tag) same ∙ h)
  where
    same : (if last == length (instructions_at s k) then Completed k (refused_numbers k earlier) else execution s earlier k (last + 1)) ≡ act
    same = cc

    by_last : (b : Bool) → done_by s tag (if b then Completed k (refused_numbers k earlier) else execution s earlier k (last + 1)) ≡ Some d
        → (refusal (tailoring s) (state_after s earlier) d.instruction ≡ None) × (d.tag ≡ tag)
    by_last true f = absurd (none-some d f)
    by_last false f = execution-allowed s earlier tag k (last + 1) d f
act-allowed s earlier tag k None act d e h = cc
act-allowed s earlier tag k (Some (TurnedAway j)) act d e h = cc
act-allowed s earlier tag k (Some (NotStarted j)) act d e h = cc
act-allowed s earlier tag k (Some (Completed j refused)) act d e h = cc
act-allowed s earlier tag k (Some Emitted) act d e h = cc
act-allowed s earlier tag k (Some (Filed id x value)) act d e h = cc

-- what holds of a core beside its timeline: one-shots are ahead, and the clock isn't before the slot that runs
pub record IsTimed (c : Core) : Type 0 where
  pub shots : AreShotsAhead c
  pub clock : c.slot_now * c.tailoring.widths.slot ≤ c.clock

module _ (c : Core) (some : 0 < c.tailoring.widths.slot) (h : IsTimed c) where
  -- the tag of the next moment is in the slot that runs, or later
  tag-late : c.slot_now ≤ slot_of c.tailoring (next_tag c.clock c.moments)
  tag-late = (le-div_iff_mul-le some).1 (omega (arith, h.clock))

  -- work on a request leaves the one-shots ahead
  acts-ahead : (acts : List Act) (after : List Moment) (key : Key) (first : ℕ)
      → ((act : Act) (d : Done) → acts ≡ act ∷ [] → done_by (session c) (next_tag c.clock c.moments) act ≡ Some d
      → (refusal c.tailoring (state_of c) d.instruction ≡ None) × (d.tag ≡ next_tag c.clock c.moments))
      → length acts ≤ 1
      → AreNext (session c) c.clock c.slot_now c.moments (map does acts ++ map tells (topics_of (done_of (session c) (next_tag c.clock c.moments) acts))) after
      → one_shot_by c key (done_of (session c) (next_tag c.clock c.moments) acts) ≡ Some first → IsAhead c.slot_now first ((state_after (session c) after).structure key)
  acts-ahead [] after key first allowed few next e = subst (λ ms. IsAhead c.slot_now first ((state_after (session c) ms).structure key)) (sym next) (h.shots key first e)
  acts-ahead (act ∷ more ∷ acts) after key first allowed few next e = absurd (omega (arith, few))
  acts-ahead (act ∷ []) after key first allowed few next e =
      let m : Moment = next.0 in
      let topics : List Topic = topics_of (done_of (session c) (next_tag c.clock c.moments) (act ∷ [])) in
      let later = idle-structure (session c) c.clock c.slot_now key (m ∷ c.moments) after (map tells topics) (topics-idle (session c) topics) next.2 in
      let done : done_at (session c) m ≡ done_by (session c) (next_tag c.clock c.moments) act = ap₂ (λ n a. done_by (session c) n a) next.1.tag next.1.follows.0 in
      subst (IsAhead c.slot_now first) (sym later) (by_done m (done_by (session c) (next_tag c.clock c.moments) act) refl done)
    where
      by_done : (m : Moment) (o : Option Done) → done_by (session c) (next_tag c.clock c.moments) act ≡ o → done_at (session c) m ≡ done_by (session c) (next_tag c.clock c.moments) act
          → IsAhead c.slot_now first ((state_after (session c) (m ∷ c.moments)).structure key)
      by_done m None f done =
          let same : (state_after (session c) (m ∷ c.moments)).structure key ≡ (state_of c).structure key = still-structure (session c) m c.moments key (done ∙ f) in
          let shot : pending c key ≡ Some first = sym (ap (λ o. one_shot_by c key (option_map_or (λ d. d ∷ []) o [])) f) ∙ e in
          subst (IsAhead c.slot_now first) (sym same) (h.shots key first shot)
      by_done m (Some d) f done =
          let a = allowed act d refl f in
          let left : (state_after (session c) (m ∷ c.moments)).structure key ≡ structure_left c.tailoring d.instruction key ((state_of c).structure key) =
          ap (λ o. structure_after c.tailoring (session c).initial (cons_option o (done_instructions (session c) c.moments)) key) (done ∙ f) in
          let shot : one_shot_by_instruction c.tailoring d.tag key (pending c key) d.instruction ≡ Some first =
          sym (ap (λ o. one_shot_by c key (option_map_or (λ d. d ∷ []) o [])) f) ∙ e in
          let late : c.slot_now ≤ slot_of c.tailoring d.tag = subst (λ n. c.slot_now ≤ slot_of c.tailoring n) (sym a.1) tag-late in
          subst (IsAhead c.slot_now first) (sym left) (instruction-ahead c d.tag first key d.instruction late h.shots a.0 shot)

acts-few : (s : Session) (earlier : List Moment) (k : ℕ) (o : Option Act) → length (next_acts s earlier k o) ≤ 1
acts-few s earlier k None = omega arith
acts-few s earlier k (Some (Accepted j)) = omega arith
acts-few s earlier k (Some (Started j)) = omega arith
acts-few s earlier k (Some (Executed j last flag)) = omega arith
acts-few s earlier k (Some (TurnedAway j)) = omega arith
acts-few s earlier k (Some (NotStarted j)) = omega arith
acts-few s earlier k (Some (Completed j refused)) = omega arith
acts-few s earlier k (Some Emitted) = omega arith
acts-few s earlier k (Some (Filed id x value)) = omega arith

pub worked-few : (c : Core) (o : Option ℕ) → length (acts_of c o) ≤ 1
worked-few c None = omega arith
worked-few c (Some k) = acts-few (session c) c.moments k (last_act k c.moments)

worked-allowed : (c : Core) (tag : ℕ) (o : Option ℕ) (act : Act) (d : Done) → acts_of c o ≡ act ∷ [] → done_by (session c) tag act ≡ Some d
    → (refusal c.tailoring (state_of c) d.instruction ≡ None) × (d.tag ≡ tag)
worked-allowed c tag None act d e h = cc
worked-allowed c tag (Some k) act d e h = act-allowed (session c) c.moments tag k (last_act k c.moments) act d e h

-- a one-shot that isn't spent ends later
unspent : (c : Core) (key : Key) (first : ℕ) (x : Structure) → pending c key ≡ Some first → is_spent c key x ≡ false → c.slot_now < first + x.def.interval → c.slot_now + 1 < first + x.def.interval
unspent c key first x e h lt =
    let other : (first + x.def.interval == c.slot_now + 1) ≡ false = sym (ap (λ o. option_map_or (λ f. f + x.def.interval == c.slot_now + 1) o false) e) ∙ h in
    grind (arith, nat_tests)

-- the one-shots that are left where a slot ends
pub left-pending : (b : Bool) (p : Option ℕ) (first : ℕ) → (if b then None else p) ≡ Some first → (p ≡ Some first) × (b ≡ false)
left-pending true p first e = absurd (none-some first e)
left-pending false p first e = (e, refl)

step-shots : (before : Core) (event : Event) (after : Core) → 0 < before.tailoring.widths.slot → Stands before → IsTimed before → IsStep before event after → AreShotsAhead after
step-shots before (Uplink packet) after some k h step key first e =
    let p : Core = prepared before (Uplink packet) in
    let same = after-structure before (Uplink packet) after key step
    ∙ idle-structure (session p) p.clock before.slot_now key before.moments after.moments (planned before (Uplink packet)) (packet-idle (session p) (handled_as before packet)) step.moments
    ∙ packet-structure before packet (handled_as before packet) key k.good.below in
    let was = h.shots key first (sym (step.one_shots key) ∙ e) in
    (was.0, same ∙ was.1, omega (arith, was.2, step.slot_now))
step-shots before (Clock tag) after some k h step key first e =
    let same = after-structure before (Clock tag) after key step ∙ ap (λ ms. (state_after (session before) ms).structure key) step.moments in
    let was = h.shots key first (sym (step.one_shots key) ∙ e) in
    (was.0, same ∙ was.1, omega (arith, was.2, step.slot_now))
step-shots before (Filing x) after some k h step key first e =
    let same = after-structure before (Filing x) after key step
    ∙ idle-structure (session before) before.clock before.slot_now key before.moments after.moments (planned before (Filing x)) ((λ tag. refl), tt) step.moments in
    let was = h.shots key first (sym (step.one_shots key) ∙ e) in
    (was.0, same ∙ was.1, omega (arith, was.2, step.slot_now))
step-shots before Work after some k h step key first e =
    let w = acts-ahead before some h (worked_acts before) after.moments key first (λ act d f g. worked-allowed before (next_tag before.clock before.moments) (worked_request before) act d f g)
    (worked-few before (worked_request before)) step.moments (sym (step.one_shots key) ∙ e) in
    (w.0, after-structure before Work after key step ∙ w.1, omega (arith, w.2, step.slot_now))
step-shots before CloseSlot after some k h step key first e =
    let p : Core = prepared before CloseSlot in
    let same = after-structure before CloseSlot after key step
    ∙ idle-structure (session p) p.clock before.slot_now key before.moments after.moments (planned before CloseSlot)
    (own-idle (session p) p (settables before.tailoring) (take (tags_left p) (due_topics p))) step.moments in
    let test : Bool = option_map_or (is_spent before key) ((state_of before).structure key) false in
    let left = left-pending test (pending before key) first (sym (step.one_shots key) ∙ e) in
    let was = h.shots key first left.0 in
    let spent : is_spent before key was.0 ≡ false = sym (ap (λ o. option_map_or (is_spent before key) o false) was.1) ∙ left.1 in
    (was.0, same ∙ was.1, omega (arith, unspent before key first was.0 left.0 spent was.2, step.slot_now))

step-clock : (before : Core) (event : Event) (after : Core) → before.slot_now * before.tailoring.widths.slot ≤ before.clock → IsStep before event after
    → after.slot_now * before.tailoring.widths.slot ≤ after.clock
step-clock before (Uplink packet) after low step =
    let same : after.slot_now * before.tailoring.widths.slot ≡ before.slot_now * before.tailoring.widths.slot = ap (λ n. n * before.tailoring.widths.slot) step.slot_now in
    omega (arith, low, same, step.clock, packet-clock before packet (handled_as before packet))
step-clock before (Clock tag) after low step =
    let same : after.slot_now * before.tailoring.widths.slot ≡ before.slot_now * before.tailoring.widths.slot = ap (λ n. n * before.tailoring.widths.slot) step.slot_now in
    omega (arith, low, same, step.clock)
step-clock before Work after low step =
    let same : after.slot_now * before.tailoring.widths.slot ≡ before.slot_now * before.tailoring.widths.slot = ap (λ n. n * before.tailoring.widths.slot) step.slot_now in
    omega (arith, low, same, step.clock)
step-clock before (Filing x) after low step =
    let same : after.slot_now * before.tailoring.widths.slot ≡ before.slot_now * before.tailoring.widths.slot = ap (λ n. n * before.tailoring.widths.slot) step.slot_now in
    omega (arith, low, same, step.clock)
step-clock before CloseSlot after low step =
    let same : after.slot_now * before.tailoring.widths.slot ≡ (before.slot_now + 1) * before.tailoring.widths.slot = ap (λ n. n * before.tailoring.widths.slot) step.slot_now in
    omega (arith, same, step.clock)

pub step-timed : (before : Core) (event : Event) (after : Core) → IsFit before.tailoring → Stands before → IsTimed before → IsStep before event after → IsTimed after
step-timed before event after fit k h step =
    record {
      shots = step-shots before event after (omega (arith, fit.widths.slot.0)) k h step;
      clock = subst (λ (t : TailoringParts). after.slot_now * t.widths.slot ≤ after.clock) (sym step.tailoring) (step-clock before event after h.clock step);
    }

pub new-timed : (t : TailoringParts) → IsTimed (new_core t)
new-timed t = record { shots = λ key first e. absurd (none-some first e); clock = omega arith }

pub run-timed : (t : TailoringParts) (events : List Event) (c : Core) → IsFit t → RequestsOnly t → IsRun t events c → IsTimed c
run-timed t [] c fit only h = subst IsTimed (sym h) (new-timed t)
run-timed t (event ∷ earlier) c fit only h =
    step-timed h.0 event c (subst IsFit (sym (run-tailoring t earlier h.0 h.1)) fit) (run-stands t earlier h.0 fit only h.1) (run-timed t earlier h.0 fit only h.1) h.2.step
