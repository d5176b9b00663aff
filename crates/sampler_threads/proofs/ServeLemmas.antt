-- What the executor's arm does, put together.
use Rattle.std.proofs.Common.{◌≡◌, ℕ, ◌+◌, ◌<◌, List, [], ◌∷◌, ◌++◌, length, map, Result, Ok, Err, OnOk, IfOk, IfErr, refl, sym, ◌∙◌, subst, true}
use Rattle.std.proofs.lemmas.List.{append-nil}
use Rattle.rtrb.specs.declared.consumer.Consumer.{Consumer}
use Rattle.body_fields.specs.Spelling.{AreOctets}
use Rattle.board_steps.specs.Cores.{Core}
use Rattle.board_steps.specs.Runs.{IsMade}
use Rattle.board_steps.specs.SlotRuns.{Ahead, IsIdle, IsStopped, Refuses, at_work}
use Rattle.board_steps.specs.declared.event.Event.TheVariants.{Uplink}
use Rattle.board_steps.specs.declared.event.BoardFault.{BoardFault}
use Rattle.sampler_threads.specs.Deeds.{Took, Deed, takes, gives, takings, Went}
use Rattle.sampler_threads.specs.Rings.{Received}
use Rattle.sampler_threads.specs.Slots.{IsUplinkNext, Ring, ServedFrom}
use Rattle.sampler_threads.specs.declared.item.Item.{Item}
use Rattle.sampler_threads.proofs.RunLemmas.{took_waiting, took_went, went_append, takings_append}
use Rattle.sampler_threads.proofs.RingLemmas.{received_append}

-- what follows from what a result says
pub on_ok : {X E : Type 0} (r : Result X E) (P Q : Type 0) → (P → Q) → OnOk r P → OnOk r Q
on_ok (Ok x) P Q f h = f h
on_ok (Err e) P Q f h = h

pub if_err : {X E : Type 0} (r : Result X E) (P Q : E → Type 0) → ((e : E) → P e → Q e) → IfErr r P → IfErr r Q
if_err (Ok x) P Q f h = h
if_err (Err e) P Q f h = f e h

pub received_deeds : {A P : Type 0} (a b c : List (Consumer Item A P)) (ds es : List Deed) → Received a (takings ds) b → Received b (takings es) c → Received a (takings (ds ++ es)) c
received_deeds a b c ds es h k = subst (λ ts. Received a ts c) (sym (takings_append ds es)) (received_append a b c (takings ds) (takings es) h k)

-- nothing waits after a filing where nothing waited before
pub idle_kept : (ahead : Ahead) (core after : Core) (ts : List (ℕ × Item)) → Took core ts after → IsIdle ahead core → IsIdle ahead after
idle_kept ahead core after ts took idle working = took_waiting core after ts took ∙ idle working

-- an uplink that is refused
pub uplink_stops : (ahead : Ahead) (core mid : Core) (packet : List ℕ) (later : List (List ℕ)) (fault : BoardFault) (ts : List (ℕ × Item))
    → IsUplinkNext ahead core packet later → Took core ts mid → AreOctets packet → Refuses mid (Uplink packet) fault → IsStopped ahead mid fault
uplink_stops ahead core mid packet later fault ts next took octets refused =
    λ other. (Uplink packet, at_work later, (next.0, (idle_kept ahead core mid ts took next.1, (later, next.2, refl))), octets, refused)

-- items are taken, and then an uplink is given
pub uplinked : (ahead : Ahead) (core mid after : Core) (packet : List ℕ) (later : List (List ℕ)) (ts : List (ℕ × Item))
    → IsUplinkNext ahead core packet later → Took core ts mid → IsMade mid (Uplink packet) after
    → Went ahead core (map takes ts ++ gives (Uplink packet) ∷ []) (at_work later) after
uplinked ahead core mid after packet later ts next took made =
    went_append ahead ahead (at_work later) core mid after (map takes ts) (gives (Uplink packet) ∷ [])
    (took_went ahead core mid ts next.0 took)
    (next.0, (at_work later, after, (idle_kept ahead core mid ts took next.1, (later, next.2, refl)), made, (refl, refl)))

-- more was served
pub served_more : (a b e : Ahead) (core mid after : Core) (rings between rings_after : List Ring) (ds es : List Deed)
    → ServedFrom a core rings ds b mid between → ServedFrom b mid between es e after rings_after → ServedFrom a core rings (ds ++ es) e after rings_after
served_more a b e core mid after rings between rings_after ds es h k =
    record {
      went = went_append a b e core mid after ds es h.went k.went;
      is_open = k.is_open;
      received = received_deeds rings between rings_after ds es h.received k.received;
    }

pub ok_always : {X E : Type 0} (r : Result X E) (Q : Type 0) → Q → OnOk r Q
ok_always (Ok x) Q q = q
ok_always (Err e) Q q = tt

-- then nothing more was taken
pub served_then : (a b : Ahead) (core after : Core) (rings between rings_after : List Ring) (ds : List Deed)
    → ServedFrom a core rings ds b after between → Received between [] rings_after → ServedFrom a core rings ds b after rings_after
served_then a b core after rings between rings_after ds h k =
    record {
      went = h.went;
      is_open = h.is_open;
      received = subst (λ us. Received rings us rings_after) (append-nil (takings ds)) (received_append rings between rings_after (takings ds) [] h.received k);
    }

pub if_ok_both : {X E : Type 0} (r : Result X E) (P Q R : X → Type 0) → ((x : X) → P x → Q x → R x) → IfOk r P → IfOk r Q → IfOk r R
if_ok_both (Ok x) P Q R f h k = f x h k
if_ok_both (Err e) P Q R f h k = h
