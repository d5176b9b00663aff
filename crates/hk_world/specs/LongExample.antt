-- A long session in which a count is used again: request 16,384 has the packet of request 0. Of all the requests the board takes three.
use Rattle.std.specs.Prelude.{ℕ, zero, suc, ◌+◌, ◌/◌, ◌%◌, List, [], ◌∷◌, true}
use Rattle.pus_messages.specs.Messages.{protocol}
use Rattle.hk_world.specs.States.{boot_state}
use Rattle.hk_world.specs.Timelines.{Session}
use Rattle.hk_world.specs.Worlds.{World, Step, send, happen, deliver}
use Rattle.hk_world.specs.Examples.{small}
use Rattle.hk_world.specs.declared.moment.Moment.{Moment}
use Rattle.hk_world.specs.declared.moment.Act.TheVariants.{Accepted, Started, Executed, Completed}

-- the packet of the request with a number: structure 1 is to be enabled, and the start to be verified
abbrev pub enabling_packet : ℕ → List ℕ
enabling_packet k = 0x18 ∷ 0x64 ∷ (0xc0 + k % 16384 / 256) ∷ (k % 16384 % 256) ∷ 0 ∷ 6 ∷ 0x22 ∷ 3 ∷ 5 ∷ 0 ∷ 1 ∷ 1 ∷ 1 ∷ []

-- the packets of so many requests, from a number on
unfoldable pub enabling_packets : ℕ → ℕ → List (List ℕ)
enabling_packets first zero = []
enabling_packets first (suc n) = enabling_packet first ∷ enabling_packets (suc first) n

-- a long session with 16,385 requests
abbrev pub long_session : Session
long_session = record { protocol = protocol small; known = true; long = true; initial = boot_state small; requests = enabling_packets 0 16385 }

-- a request is accepted
abbrev pub acceptance : ℕ → ℕ → Moment
acceptance k tag = record { tag = tag; act = Accepted k; packet = [] }

-- the report that its execution began, message type [1,3]
abbrev pub start_report : ℕ → ℕ → List ℕ
start_report k tag =
    0x08 ∷ 0x64 ∷ 0xc0 ∷ 0 ∷ 0 ∷ 0x10 ∷ 0x20 ∷ 1 ∷ 3 ∷ 0 ∷ 0 ∷ 0 ∷ 1 ∷ 0 ∷ 0 ∷ 0 ∷ 0 ∷ 0 ∷ tag ∷ 0x18 ∷ 0x64 ∷ (0xc0 + k % 16384 / 256) ∷ (k % 16384 % 256) ∷ []

-- its execution begins
abbrev pub start : ℕ → ℕ → Moment
start k tag = record { tag = tag; act = Started k; packet = start_report k tag }

-- its one instruction is carried out
abbrev pub execution : ℕ → ℕ → Moment
execution k tag = record { tag = tag; act = Executed k 1 true; packet = [] }

-- it is completed
abbrev pub completion : ℕ → ℕ → Moment
completion k tag = record { tag = tag; act = Completed k []; packet = [] }

-- so many requests are sent, from a number on
unfoldable pub sends : ℕ → ℕ → List Step → List Step
sends first zero earlier = earlier
sends first (suc n) earlier = send (first + n) ∷ sends first n earlier

-- as many requests as can be sent before one is known to have begun, and then request 8,190 begins
abbrev pub first_window : List Step
first_window = deliver (start 8190 2) ∷ happen (start 8190 2) ∷ happen (acceptance 8190 1) ∷ sends 0 8191 []

-- as many more, and then request 16,381 begins
abbrev pub second_window : List Step
second_window =
    deliver (start 16381 6)
    ∷ happen (start 16381 6)
    ∷ happen (acceptance 16381 5)
    ∷ happen (completion 8190 4)
    ∷ happen (execution 8190 3)
    ∷ sends 8191 8191 first_window

-- a world in which request 16,384 is sent under the count of request 0, and begins
abbrev pub long_world : World
long_world =
    record {
      session = long_session;
      steps =
          deliver (start 16384 10)
          ∷ happen (start 16384 10)
          ∷ happen (acceptance 16384 9)
          ∷ happen (completion 16381 8)
          ∷ happen (execution 16381 7)
          ∷ sends 16382 3 second_window;
    }
