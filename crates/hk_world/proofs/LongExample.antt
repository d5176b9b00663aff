-- A world in which a count is used again.
use Rattle.std.proofs.Common.{arith, ◌≡◌, ◌≢◌, ℕ, zero, suc, ◌+◌, ◌-◌, ◌%◌, ◌<◌, ◌≤◌, refl, sym, ◌∙◌, ap, subst, length, List, [], ◌∷◌, Bool, true, false, nat_lt, ◌==◌, Option, Some, None, Ok, lit<, lit≤, ◌⊎◌, inl, inr}
use Rattle.std.specs.Prelude.{max, slice_get, unwrap_or, option_map, is_none, IfSome, IsSome, IsNone, ◌&&◌, ◌/◌, ◌^◌}
use Rattle.std.specs.List.{cons_option}
use Rattle.std.specs.Option.{option_and_then, option_map_or}
use Rattle.std.specs.Result.{result_ok, result_err}
use Rattle.hk_base.specs.declared.types.Kind.TheVariants.{Housekeeping}
use Rattle.hk_base.specs.declared.types.Key.{Key}
use Rattle.hk_base.specs.declared.types.Structure.{Structure}
use Rattle.pus_packet.specs.Packets.{sequence_flags, sequence_count}
use Rattle.pus_packet.specs.declared.header.TcHeader.{TcHeader}
use Rattle.st01_reports.specs.declared.verification.Verification.TheVariants as verify
use Rattle.st03_grammar.specs.Instructions.{key_of, plain}
use Rattle.st03_grammar.specs.declared.bodies.Each.TheVariants.{Enable}
use Rattle.st03_grammar.specs.declared.bodies.Request03.TheVariants.{OnEach}
use Rattle.pus_messages.specs.Instructions.{Instruction, on_structure, instructions, instruction}
use Rattle.pus_messages.specs.Protocol.{readable}
use Rattle.pus_messages.specs.declared.message.Request.{Request}
use Rattle.pus_messages.specs.declared.message.RequestBody.TheVariants as ask
use Rattle.pus_messages.specs.declared.message.ReportBody.TheVariants.{Verify}
use Rattle.report_structures.specs.Effects.{effect, left_by}
use Rattle.hk_world.specs.States.{refusal}
use Rattle.hk_world.specs.Timelines.{EachAfter, last_act, is_act_of, request_at, instructions_at, instruction_at, Done, done_instructions, structure_after, state_after}
use Rattle.hk_world.specs.Legal.{TagRises, HandledBelow, handled_number, MayFollow, is_pending, refused_numbers}
use Rattle.hk_world.specs.Honest.{id_of_packet, request_id, asks_for, has_several, VerifiesIf}
use Rattle.hk_world.specs.Worlds.{Step, happen, deliver, IsWorld, IsRequest, MayHappen, MayStep, shows_begun, sent_count, moments_of, deliveries_of}
use Rattle.hk_world.specs.Examples.{small}
use Rattle.hk_world.specs.LongExample.{enabling_packet, enabling_packets, long_session, acceptance, start_report, start, execution, completion, sends, first_window, second_window, long_world}
use Rattle.hk_world.specs.declared.moment.Moment.{Moment}
use Rattle.hk_world.specs.declared.moment.Act.TheVariants.{Accepted, Started, Executed, Completed}
use Rattle.hk_world.proofs.OrderLemmas.{last_act-other, is_act_of-number, true_is_not_false}
use Rattle.hk_world.proofs.RequestLemmas.{IsOf, number_is, is_act_of-own, last_act-own}
use Rattle.hk_world.proofs.Example.{header, is_session}

-- the packet of a request stands at its number
listed : (first n i : ℕ) → i < n → slice_get (enabling_packets first n) i ≡ Some (enabling_packet (first + i))
unfolding enabling_packets
listed first zero i lt = absurd (omega (arith, lt))
listed first (suc n) zero lt = let same : first ≡ first + 0 = omega arith in ap (λ k. Some (enabling_packet k)) same
listed first (suc n) (suc i) lt =
    let same : suc first + i ≡ first + suc i = omega arith in
    listed (suc first) n i (omega (arith, lt)) ∙ ap (λ k. Some (enabling_packet k)) same

at : (k : ℕ) → k < 16385 → slice_get long_session.requests k ≡ Some (enabling_packet k)
at k lt = let same : 0 + k ≡ k = omega arith in listed 0 16385 k lt ∙ ap (λ n. Some (enabling_packet n)) same

-- what the packet says
abbrev command_header : ℕ → TcHeader
command_header k = record { apid = 100; count = k % 16384; flags = 2; service = 3; subtype = 5; source = 1 }

abbrev enabling : ℕ → Request
enabling k = record { header = command_header k; body = ask.Hk (OnEach Enable Housekeeping (1 ∷ [])) }

flags-are : (k : ℕ) → sequence_flags (enabling_packet k) ≡ 3
flags-are k = omega arith

count-is : (k : ℕ) → sequence_count (enabling_packet k) ≡ k % 16384
count-is k = omega arith

command-is : (k : ℕ) → long_session.protocol.command (enabling_packet k) ≡ Some (command_header k)
command-is k = let flags = flags-are k in let count = count-is k in rw (flags, count) refl

request-is : (k : ℕ) → long_session.protocol.request (enabling_packet k) ≡ Ok (enabling k)
request-is k = let flags = flags-are k in let count = count-is k in rw (flags, count) refl

is_request : (k : ℕ) → k < 16385 → IsRequest long_session k
is_request k lt =
    record { packet = enabling_packet k; header = command_header k; listed = at k lt; command = command-is k; apid = refl; source = refl; count = refl }

asked : (k : ℕ) → k < 16385 → request_at long_session k ≡ Some (enabling k)
asked k lt = ap (λ o. option_and_then (λ packet. result_ok (long_session.protocol.request packet)) o) (at k lt) ∙ ap (λ r. result_ok r) (request-is k)

abbrev one : Key
one = key_of Housekeeping 1

abbrev enable : Instruction
enable = on_structure one (plain Enable)

alone : (k : ℕ) → k < 16385 → instructions_at long_session k ≡ enable ∷ []
alone k lt = ap (λ o. option_map_or instructions o []) (asked k lt)

first-is : (k : ℕ) → k < 16385 → instruction_at long_session k 1 ≡ Some enable
first-is k lt = ap (λ o. option_and_then (λ r. instruction r 1) o) (asked k lt)

asks : (bit k : ℕ) → k < 16385 → asks_for bit long_session k ≡ (2 / 2 ^ bit % 2 == 1)
asks bit k lt = ap (λ o. option_map_or (λ (r : Request). r.header.flags / 2 ^ bit % 2 == 1) o false) (asked k lt)

id-is : (k : ℕ) → k < 16385 → request_id long_session k ≡ id_of_packet (enabling_packet k)
id-is k lt = ap (λ o. id_of_packet (unwrap_or o [])) (at k lt)

-- the structure, which is enabled from the start
abbrev enabled_one : Structure
enabled_one = record { def = record { interval = 1; simple = 7 ∷ []; arrays = [] }; enabled = true }

abbrev IsThere : List Moment → Type 0
IsThere ms = (state_after long_session ms).structure one ≡ Some enabled_one

stays : (k tag : ℕ) (ms : List Moment) → k < 16385 → IsThere ms → IsThere (execution k tag ∷ ms)
stays k tag ms lt e =
    let done : Option Instruction → Option Done = λ o. option_map (λ x. record { tag = tag; request = k; instruction = x }) o in
    ap (λ o. structure_after small long_session.initial (cons_option (done o) (done_instructions long_session ms)) one) (first-is k lt)
    ∙ ap (λ state. left_by small (plain Enable) state) e

not-true : false ≡ true → ⊥
not-true e = true_is_not_false (sym e)

accepting : (k tag : ℕ) (ms : List Moment) → k < 16385 → TagRises long_session ms (acceptance k tag) → HandledBelow k ms → last_act k ms ≡ None → MayHappen long_session ms (acceptance k tag)
accepting k tag ms lt rises below none =
    record {
      tag = rises;
      handling = (below, subst (λ o. IsSome o) (sym (asked k lt)) refl);
      order = record { order = subst (λ o. MayFollow (length (instructions_at long_session k)) o (Accepted k)) (sym none) tt; turn = λ b j l. absurd (not-true b) };
      outcome = tt;
      sample = tt;
      packet = subst (λ due. VerifiesIf due long_session (acceptance k tag) (verify.Accepted (request_id long_session k))) (sym (asks 0 k lt)) refl;
    }

starting : (k tag : ℕ) (ms : List Moment) → k < 16385 → TagRises long_session ms (start k tag) → last_act k ms ≡ Some (Accepted k) → ((j : ℕ) → j < k → is_pending (last_act j ms) ≡ false) → IsThere ms
    → long_session.protocol.reception (start_report k tag) ≡ readable (record { header = header 1 3 tag; body = Verify (verify.Started (id_of_packet (enabling_packet k))) })
    → MayHappen long_session ms (start k tag)
starting k tag ms lt rises last idle there read =
    record {
      tag = rises;
      handling = tt;
      order = record { order = subst (λ o. MayFollow (length (instructions_at long_session k)) o (Started k)) (sym last) tt; turn = λ b j l. idle j l };
      outcome = stands;
      sample = tt;
      packet = subst (λ due. VerifiesIf due long_session (start k tag) (verify.Started (request_id long_session k))) (sym (asks 1 k lt)) (header 1 3 tag, told, refl);
    }
  where
    stands : (x : Instruction) → instructions_at long_session k ≡ x ∷ [] → IsNone (refusal small (state_after long_session ms) x)
    stands x e =
        let both : enable ∷ [] ≡ x ∷ [] = sym (alone k lt) ∙ e in
        let same : enable ≡ x = ap (λ xs. unwrap_or (slice_get xs 0) enable) both in
        subst (λ y. IsNone (refusal small (state_after long_session ms) y)) same (subst (λ o. IsNone (result_err (effect small (plain Enable) o))) (sym there) refl)

    told : long_session.protocol.reception (start_report k tag) ≡ readable (record { header = header 1 3 tag; body = Verify (verify.Started (request_id long_session k)) })
    told = read ∙ ap (λ id. readable (record { header = header 1 3 tag; body = Verify (verify.Started id) })) (sym (id-is k lt))

executing : (k tag : ℕ) (ms : List Moment) → k < 16385 → TagRises long_session ms (execution k tag) → last_act k ms ≡ Some (Started k) → IsThere ms → MayHappen long_session ms (execution k tag)
executing k tag ms lt rises last there =
    record {
      tag = rises;
      handling = tt;
      order =
          record {
            order = subst (λ o. MayFollow (length (instructions_at long_session k)) o (Executed k 1 true)) (sym last) (refl, subst (λ (xs : List Instruction). 1 ≤ length xs) (sym (alone k lt)) (lit≤ tt));
            turn = λ b j l. absurd (not-true b);
          };
      outcome = (enable, first-is k lt, subst (λ o. true ≡ is_none (result_err (effect small (plain Enable) o))) (sym there) refl);
      sample = tt;
      packet = subst (λ due. VerifiesIf due long_session (execution k tag) (verify.Step (request_id long_session k) 1)) (sym silent) refl;
    }
  where
    silent : (has_several long_session k && asks_for 2 long_session k) ≡ false
    silent = ap (λ (xs : List Instruction). nat_lt 1 (length xs) && asks_for 2 long_session k) (alone k lt)

completing : (k tag : ℕ) (ms : List Moment) → k < 16385 → TagRises long_session ms (completion k tag) → last_act k ms ≡ Some (Executed k 1 true) → [] ≡ refused_numbers k ms → MayHappen long_session ms (completion k tag)
completing k tag ms lt rises last none =
    record {
      tag = rises;
      handling = tt;
      order =
          record {
            order = subst (λ o. MayFollow (length (instructions_at long_session k)) o (Completed k [])) (sym last) (sym (ap (λ (xs : List Instruction). length xs) (alone k lt)));
            turn = λ b j l. absurd (not-true b);
          };
      outcome = none;
      sample = tt;
      packet = subst (λ due. VerifiesIf due long_session (completion k tag) (verify.Completed (request_id long_session k))) (sym (asks 3 k lt)) refl;
    }

-- whether a request is pending is told by its own moments
by-own : (j n : ℕ) (m : Moment) (ms : List Moment) → IsOf n m.act → (n ≡ j → is_pending (Some m.act) ≡ false) → ((n ≡ j → ⊥) → is_pending (last_act j ms) ≡ false) → is_pending (last_act j (m ∷ ms)) ≡ false
by-own j n m ms own ended other = go (is_act_of j m.act) refl
  where
    go : (b : Bool) → is_act_of j m.act ≡ b → is_pending (last_act j (m ∷ ms)) ≡ false
    go true q = ap is_pending (last_act-own j m ms q) ∙ ended (number_is n j m.act own (is_act_of-number j m.act q))
    go false q = ap is_pending (last_act-other j m ms q) ∙ other (λ same. true_is_not_false (sym (is_act_of-own j m.act (own ∙ ap Some same)) ∙ q))

-- the moments of a request that is completed, before others
abbrev handled : ℕ → ℕ → List Moment → List Moment
handled k tag ms = completion k (tag + 3) ∷ execution k (tag + 2) ∷ start k (tag + 1) ∷ acceptance k tag ∷ ms

ended : (k tag j : ℕ) (ms : List Moment) → is_pending (last_act j ms) ≡ false → is_pending (last_act j (handled k tag ms)) ≡ false
ended k tag j ms before =
    by-own j k (completion k (tag + 3)) (execution k (tag + 2) ∷ start k (tag + 1) ∷ acceptance k tag ∷ ms) refl (λ same. refl) (λ ne.
    by-own j k (execution k (tag + 2)) (start k (tag + 1) ∷ acceptance k tag ∷ ms) refl (λ same. absurd (ne same)) (λ ne.
    by-own j k (start k (tag + 1)) (acceptance k tag ∷ ms) refl (λ same. absurd (ne same)) (λ ne.
    by-own j k (acceptance k tag) ms refl (λ same. absurd (ne same)) (λ ne. before))))

accepted-above : (k tag j : ℕ) (ms : List Moment) → j < k → is_pending (last_act j ms) ≡ false → is_pending (last_act j (acceptance k tag ∷ ms)) ≡ false
accepted-above k tag j ms lt before = by-own j k (acceptance k tag) ms refl (λ same. absurd (omega (arith, same, lt))) (λ ne. before)

-- steps that lead to so many requests, these moments and these deliveries
record LeadsTo (steps : List Step) (count : ℕ) (ms ds : List Moment) : Type 0 where
  may : EachAfter (MayStep long_session) steps
  sent : sent_count steps ≡ count
  moments : moments_of steps ≡ ms
  deliveries : deliveries_of steps ≡ ds

happens : (m : Moment) (steps : List Step) (count : ℕ) (ms ds : List Moment) → LeadsTo steps count ms ds → IfSome (handled_number m.act) (λ k. k < count) → MayHappen long_session ms m
    → LeadsTo (happen m ∷ steps) count (m ∷ ms) ds
happens m steps count ms ds r was may =
    record {
      may = (
        (subst (λ c. IfSome (handled_number m.act) (λ k. k < c)) (sym r.sent) was, subst (λ xs. MayHappen long_session xs m) (sym r.moments) may),
        r.may,
      );
      sent = r.sent;
      moments = ap (λ (xs : List Moment). m ∷ xs) r.moments;
      deliveries = r.deliveries;
    }

arrives : (m : Moment) (steps : List Step) (count : ℕ) (ms ds : List Moment) → LeadsTo steps count ms ds → (i : ℕ) → slice_get ms i ≡ Some m → m.packet ≢ [] → LeadsTo (deliver m ∷ steps) count ms (m ∷ ds)
arrives m steps count ms ds r i made some =
    record {
      may = (((i, subst (λ xs. slice_get xs i ≡ Some m) (sym r.moments) made), some), r.may);
      sent = r.sent;
      moments = r.moments;
      deliveries = ap (λ (xs : List Moment). m ∷ xs) r.deliveries;
    }

-- a request from this number on is known to have begun
abbrev IsBegun : List Moment → ℕ → Type 0
IsBegun ds k = (i : ℕ) × (m : Moment) × (j : ℕ) × (slice_get ds i ≡ Some m) × (k ≤ j) × (shows_begun j m.act ≡ true)

all-sent : (first n : ℕ) (steps : List Step) (ms ds : List Moment) → LeadsTo steps first ms ds → first + n ≤ 16385 → ((k : ℕ) → k < first + n → (k ≤ 8190) ⊎ IsBegun ds (k - 8191))
    → LeadsTo (sends first n steps) (first + n) ms ds
unfolding sends
all-sent first zero steps ms ds r room window =
    let same : first ≡ first + 0 = omega arith in
    record { may = r.may; sent = r.sent ∙ same; moments = r.moments; deliveries = r.deliveries }
all-sent first (suc n) steps ms ds r room window =
    next (all-sent first n steps ms ds r (omega (arith, room)) (λ k lt. window k (omega (arith, lt))))
  where
    next : LeadsTo (sends first n steps) (first + n) ms ds → LeadsTo (sends first (suc n) steps) (first + suc n) ms ds
    next before =
        record {
          may = ((is_request (first + n) (omega (arith, room)), inr (sym before.sent, go (window (first + n) (omega arith)))), before.may);
          sent = ap (λ c. max c (suc (first + n))) before.sent ∙ more (first + n) (first + suc n) (omega arith);
          moments = before.moments;
          deliveries = before.deliveries;
        }
      where
        more : (a b : ℕ) → b ≡ suc a → max a (suc a) ≡ b
        more a b e = omega (arith, e)

        go : (first + n ≤ 8190) ⊎ IsBegun ds (first + n - 8191) → (first + n ≤ 8190) ⊎ IsBegun (deliveries_of (sends first n steps)) (first + n - 8191)
        go (inl few) = inl few
        go (inr begun) = inr (subst (λ xs. IsBegun xs (first + n - 8191)) (sym before.deliveries) begun)

nothing : LeadsTo [] 0 [] []
nothing = record { may = tt; sent = refl; moments = refl; deliveries = refl }

told : (k tag : ℕ) → start_report k tag ≢ []
told k tag e = cc

-- the moments up to each delivery
abbrev until_first : List Moment
until_first = start 8190 2 ∷ acceptance 8190 1 ∷ []

abbrev until_second : List Moment
until_second = start 16381 6 ∷ acceptance 16381 5 ∷ handled 8190 1 []

first-sent : LeadsTo (sends 0 8191 []) 8191 [] []
first-sent = all-sent 0 8191 [] [] [] nothing (lit≤ tt) (λ k lt. inl (omega (arith, lt)))

first-begun : LeadsTo first_window 8191 until_first (start 8190 2 ∷ [])
first-begun =
    arrives (start 8190 2) _ 8191 until_first []
    (happens (start 8190 2) _ 8191 (acceptance 8190 1 ∷ []) []
    (happens (acceptance 8190 1) (sends 0 8191 []) 8191 [] [] first-sent (lit< tt)
    (accepting 8190 1 [] (lit< tt) (record { low = lit≤ tt; high = lit≤ tt; above = tt }) tt refl))
    tt
    (starting 8190 2 (acceptance 8190 1 ∷ []) (lit< tt) (record { low = lit≤ tt; high = lit≤ tt; above = (lit< tt, tt) }) refl (λ j lt. accepted-above 8190 1 j [] lt refl) refl refl))
    0 refl (told 8190 2)

second-sent : LeadsTo (sends 8191 8191 first_window) 16382 until_first (start 8190 2 ∷ [])
second-sent =
    all-sent 8191 8191 first_window until_first (start 8190 2 ∷ []) first-begun (lit≤ tt) (λ k lt. inr (0, start 8190 2, 8190, refl, omega (arith, lt), refl))

first-done : LeadsTo (happen (completion 8190 4) ∷ happen (execution 8190 3) ∷ sends 8191 8191 first_window) 16382 (handled 8190 1 []) (start 8190 2 ∷ [])
first-done =
    happens (completion 8190 4) _ 16382 (execution 8190 3 ∷ until_first) (start 8190 2 ∷ [])
    (happens (execution 8190 3) (sends 8191 8191 first_window) 16382 until_first (start 8190 2 ∷ []) second-sent tt
    (executing 8190 3 until_first (lit< tt) (record { low = lit≤ tt; high = lit≤ tt; above = (lit< tt, (lit< tt, tt)) }) refl refl))
    tt
    (completing 8190 4 (execution 8190 3 ∷ until_first) (lit< tt) (record { low = lit≤ tt; high = lit≤ tt; above = (lit< tt, (lit< tt, (lit< tt, tt))) }) refl refl)

there-first : IsThere (handled 8190 1 [])
there-first = stays 8190 3 until_first (lit< tt) refl

second-begun : LeadsTo second_window 16382 until_second (start 16381 6 ∷ start 8190 2 ∷ [])
second-begun =
    arrives (start 16381 6) _ 16382 until_second (start 8190 2 ∷ [])
    (happens (start 16381 6) _ 16382 (acceptance 16381 5 ∷ handled 8190 1 []) (start 8190 2 ∷ [])
    (happens (acceptance 16381 5) _ 16382 (handled 8190 1 []) (start 8190 2 ∷ []) first-done (lit< tt)
    (accepting 16381 5 (handled 8190 1 []) (lit< tt) (record { low = lit≤ tt; high = lit≤ tt; above = (lit< tt, (lit< tt, (lit< tt, (lit< tt, tt)))) }) (tt, (tt, (tt, (lit< tt, tt)))) refl))
    tt
    (starting 16381 6 (acceptance 16381 5 ∷ handled 8190 1 []) (lit< tt)
    (record { low = lit≤ tt; high = lit≤ tt; above = (lit< tt, (lit< tt, (lit< tt, (lit< tt, (lit< tt, tt))))) })
    refl
    (λ j lt. accepted-above 16381 5 j (handled 8190 1 []) lt (ended 8190 1 j [] refl))
    there-first refl))
    0 refl (told 16381 6)

third-sent : LeadsTo (sends 16382 3 second_window) 16385 until_second (start 16381 6 ∷ start 8190 2 ∷ [])
third-sent =
    all-sent 16382 3 second_window until_second (start 16381 6 ∷ start 8190 2 ∷ []) second-begun (lit≤ tt) (λ k lt. inr (0, start 16381 6, 16381, refl, omega (arith, lt), refl))

abbrev both_handled : List Moment
both_handled = handled 16381 5 (handled 8190 1 [])

second-done : LeadsTo (happen (completion 16381 8) ∷ happen (execution 16381 7) ∷ sends 16382 3 second_window) 16385 both_handled (start 16381 6 ∷ start 8190 2 ∷ [])
second-done =
    happens (completion 16381 8) _ 16385 (execution 16381 7 ∷ until_second) (start 16381 6 ∷ start 8190 2 ∷ [])
    (happens (execution 16381 7) (sends 16382 3 second_window) 16385 until_second (start 16381 6 ∷ start 8190 2 ∷ []) third-sent tt
    (executing 16381 7 until_second (lit< tt) (record { low = lit≤ tt; high = lit≤ tt; above = (lit< tt, (lit< tt, (lit< tt, (lit< tt, (lit< tt, (lit< tt, tt)))))) }) refl there-first))
    tt
    (completing 16381 8 (execution 16381 7 ∷ until_second) (lit< tt)
    (record { low = lit≤ tt; high = lit≤ tt; above = (lit< tt, (lit< tt, (lit< tt, (lit< tt, (lit< tt, (lit< tt, (lit< tt, tt))))))) })
    refl refl)

there-second : IsThere both_handled
there-second = stays 16381 7 until_second (lit< tt) there-first

long-steps : LeadsTo long_world.steps 16385 (start 16384 10 ∷ acceptance 16384 9 ∷ both_handled) (start 16384 10 ∷ start 16381 6 ∷ start 8190 2 ∷ [])
long-steps =
    arrives (start 16384 10) _ 16385 (start 16384 10 ∷ acceptance 16384 9 ∷ both_handled) (start 16381 6 ∷ start 8190 2 ∷ [])
    (happens (start 16384 10) _ 16385 (acceptance 16384 9 ∷ both_handled) (start 16381 6 ∷ start 8190 2 ∷ [])
    (happens (acceptance 16384 9) _ 16385 both_handled (start 16381 6 ∷ start 8190 2 ∷ []) second-done (lit< tt)
    (accepting 16384 9 both_handled (lit< tt)
    (record { low = lit≤ tt; high = lit≤ tt; above = (lit< tt, (lit< tt, (lit< tt, (lit< tt, (lit< tt, (lit< tt, (lit< tt, (lit< tt, tt)))))))) })
    (tt, (tt, (tt, (lit< tt, (tt, (tt, (tt, (lit< tt, tt)))))))) refl))
    tt
    (starting 16384 10 (acceptance 16384 9 ∷ both_handled) (lit< tt)
    (record { low = lit≤ tt; high = lit≤ tt; above = (lit< tt, (lit< tt, (lit< tt, (lit< tt, (lit< tt, (lit< tt, (lit< tt, (lit< tt, (lit< tt, tt))))))))) })
    refl
    (λ j lt. accepted-above 16384 9 j both_handled lt (ended 16381 5 j (handled 8190 1 []) (ended 8190 1 j [] refl)))
    there-second refl))
    0 refl (told 16384 10)

pub long : IsWorld long_world
long = record { session = record { fit = (is_session []).fit; valid = (is_session []).valid; booted = λ _. refl }; steps = long-steps.may }

-- request 16,384 has the packet of request 0
pub used_first : slice_get long_session.requests 0 ≡ Some (enabling_packet 0)
used_first = at 0 (lit< tt)

pub used_again : slice_get long_session.requests 16384 ≡ Some (enabling_packet 0)
used_again = at 16384 (lit< tt)
