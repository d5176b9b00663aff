-- Worked examples, by computation from the octets of packets, under the built-in tailoring.
use Rattle.std.proofs.Common.{◌≡◌, ℕ, refl, List, [], ◌∷◌, ◌++◌, true, false, reverse}
use Rattle.hk_base.specs.Builtin.{builtin}
use Rattle.hk_base.specs.declared.types.Kind.TheVariants.{Housekeeping}
use Rattle.hk_base.specs.declared.types.Key.{Key}
use Rattle.hk_base.specs.declared.types.Definition.{Definition}
use Rattle.st03_grammar.specs.Instructions.{key_of}
use Rattle.pus_messages.specs.Messages.{protocol}
use Rattle.hk_world.specs.Worlds.{Entry, sent, got}
use Rattle.ground_history.specs.Histories.{History, history_of, got_kind}
use Rattle.ground_history.specs.declared.answer.GotKind.TheVariants.{Repeat, Conflict, Foreign, Skipped, Unread, Stray}
use Rattle.definition_intervals.specs.Verdicts.{verdict}
use Rattle.definition_intervals.specs.declared.answer.Verdict.TheVariants.{Decided, Undecidable, NoOpening}

-- a report of housekeeping 1, and another with its tag
abbrev report_one : List ℕ
report_one = 8 ∷ 100 ∷ 192 ∷ 0 ∷ 0 ∷ 15 ∷ 32 ∷ 3 ∷ 25 ∷ 0 ∷ 0 ∷ 0 ∷ 1 ∷ 0 ∷ 0 ∷ 0 ∷ 0 ∷ 64 ∷ 1 ∷ 1 ∷ 0 ∷ 42 ∷ []

abbrev report_one_other : List ℕ
report_one_other = 8 ∷ 100 ∷ 192 ∷ 0 ∷ 0 ∷ 15 ∷ 32 ∷ 3 ∷ 25 ∷ 0 ∷ 0 ∷ 0 ∷ 1 ∷ 0 ∷ 0 ∷ 0 ∷ 0 ∷ 64 ∷ 1 ∷ 1 ∷ 0 ∷ 43 ∷ []

-- the interval of housekeeping 2 is set to 4
abbrev change_two : List ℕ
change_two = 24 ∷ 100 ∷ 192 ∷ 0 ∷ 0 ∷ 8 ∷ 47 ∷ 3 ∷ 31 ∷ 0 ∷ 1 ∷ 1 ∷ 2 ∷ 0 ∷ 4 ∷ []

-- a report of housekeeping 2
abbrev report_two : List ℕ
report_two = 8 ∷ 100 ∷ 192 ∷ 0 ∷ 0 ∷ 19 ∷ 32 ∷ 3 ∷ 25 ∷ 0 ∷ 0 ∷ 0 ∷ 1 ∷ 0 ∷ 0 ∷ 0 ∷ 0 ∷ 128 ∷ 2 ∷ 2 ∷ 0 ∷ 1 ∷ 10 ∷ 11 ∷ 12 ∷ 13 ∷ []

-- the change was completed
abbrev completed_two : List ℕ
completed_two = 8 ∷ 100 ∷ 192 ∷ 0 ∷ 0 ∷ 16 ∷ 32 ∷ 1 ∷ 7 ∷ 0 ∷ 0 ∷ 0 ∷ 1 ∷ 0 ∷ 0 ∷ 0 ∷ 0 ∷ 112 ∷ 4 ∷ 24 ∷ 100 ∷ 192 ∷ 0 ∷ []

-- housekeeping 2 is to be reported, and is
abbrev show_two : List ℕ
show_two = 24 ∷ 100 ∷ 192 ∷ 1 ∷ 0 ∷ 6 ∷ 47 ∷ 3 ∷ 9 ∷ 0 ∷ 1 ∷ 1 ∷ 2 ∷ []

abbrev started_show : List ℕ
started_show = 8 ∷ 100 ∷ 192 ∷ 0 ∷ 0 ∷ 16 ∷ 32 ∷ 1 ∷ 3 ∷ 0 ∷ 0 ∷ 0 ∷ 1 ∷ 0 ∷ 0 ∷ 0 ∷ 0 ∷ 144 ∷ 2 ∷ 24 ∷ 100 ∷ 192 ∷ 1 ∷ []

abbrev structure_two : List ℕ
structure_two = 8 ∷ 100 ∷ 192 ∷ 0 ∷ 0 ∷ 24 ∷ 32 ∷ 3 ∷ 10 ∷ 0 ∷ 0 ∷ 0 ∷ 1 ∷ 0 ∷ 0 ∷ 0 ∷ 0 ∷ 144 ∷ 4 ∷ 2 ∷ 1 ∷ 0 ∷ 4 ∷ 1 ∷ 0 ∷ 1 ∷ 1 ∷ 4 ∷ 1 ∷ 0 ∷ 3 ∷ []

abbrev report_two_later : List ℕ
report_two_later = 8 ∷ 100 ∷ 192 ∷ 0 ∷ 0 ∷ 19 ∷ 32 ∷ 3 ∷ 25 ∷ 0 ∷ 0 ∷ 0 ∷ 1 ∷ 0 ∷ 0 ∷ 0 ∷ 1 ∷ 0 ∷ 2 ∷ 2 ∷ 0 ∷ 2 ∷ 20 ∷ 21 ∷ 22 ∷ 23 ∷ []

-- housekeeping 1 as reported, and a later report of it
abbrev structure_one : List ℕ
structure_one = 8 ∷ 100 ∷ 192 ∷ 0 ∷ 0 ∷ 20 ∷ 32 ∷ 3 ∷ 10 ∷ 0 ∷ 0 ∷ 0 ∷ 1 ∷ 0 ∷ 0 ∷ 0 ∷ 0 ∷ 80 ∷ 1 ∷ 1 ∷ 1 ∷ 0 ∷ 4 ∷ 1 ∷ 0 ∷ 1 ∷ 0 ∷ []

abbrev report_one_later : List ℕ
report_one_later = 8 ∷ 100 ∷ 192 ∷ 0 ∷ 0 ∷ 15 ∷ 32 ∷ 3 ∷ 25 ∷ 0 ∷ 0 ∷ 0 ∷ 1 ∷ 0 ∷ 0 ∷ 0 ∷ 0 ∷ 128 ∷ 1 ∷ 1 ∷ 0 ∷ 7 ∷ []

-- the interval of housekeeping 1 is set to 2
abbrev change_one : List ℕ
change_one = 24 ∷ 100 ∷ 192 ∷ 0 ∷ 0 ∷ 8 ∷ 47 ∷ 3 ∷ 31 ∷ 0 ∷ 1 ∷ 1 ∷ 1 ∷ 0 ∷ 2 ∷ []

-- an append that is refused
abbrev append_one : List ℕ
append_one = 24 ∷ 100 ∷ 192 ∷ 0 ∷ 0 ∷ 9 ∷ 47 ∷ 3 ∷ 29 ∷ 0 ∷ 1 ∷ 1 ∷ 1 ∷ 0 ∷ 2 ∷ 0 ∷ []

abbrev refused_one : List ℕ
refused_one = 8 ∷ 100 ∷ 192 ∷ 0 ∷ 0 ∷ 22 ∷ 32 ∷ 1 ∷ 4 ∷ 0 ∷ 0 ∷ 0 ∷ 1 ∷ 0 ∷ 0 ∷ 0 ∷ 0 ∷ 80 ∷ 3 ∷ 24 ∷ 100 ∷ 192 ∷ 0 ∷ 0 ∷ 103 ∷ 0 ∷ 0 ∷ 0 ∷ 0 ∷ []

-- packets that are no evidence
abbrev unknown_type : List ℕ
unknown_type = 8 ∷ 100 ∷ 192 ∷ 0 ∷ 0 ∷ 12 ∷ 32 ∷ 17 ∷ 2 ∷ 0 ∷ 0 ∷ 0 ∷ 1 ∷ 0 ∷ 0 ∷ 0 ∷ 0 ∷ 0 ∷ 10 ∷ []

abbrev other_process : List ℕ
other_process = 8 ∷ 101 ∷ 192 ∷ 0 ∷ 0 ∷ 0 ∷ 0 ∷ []

abbrev no_packet : List ℕ
no_packet = 0 ∷ 1 ∷ 2 ∷ []

abbrev accepted_five : List ℕ
accepted_five = 8 ∷ 100 ∷ 192 ∷ 0 ∷ 0 ∷ 16 ∷ 32 ∷ 1 ∷ 1 ∷ 0 ∷ 0 ∷ 0 ∷ 1 ∷ 0 ∷ 0 ∷ 0 ∷ 0 ∷ 0 ∷ 9 ∷ 24 ∷ 100 ∷ 192 ∷ 5 ∷ []

abbrev report_one_much_later : List ℕ
report_one_much_later = 8 ∷ 100 ∷ 192 ∷ 0 ∷ 0 ∷ 15 ∷ 32 ∷ 3 ∷ 25 ∷ 0 ∷ 0 ∷ 0 ∷ 1 ∷ 0 ∷ 0 ∷ 0 ∷ 0 ∷ 192 ∷ 2 ∷ 1 ∷ 0 ∷ 7 ∷ []

-- what is known after entries, which stand in the order of the record
abbrev known_after : List Entry → History
known_after entries = history_of (protocol builtin) true false (reverse entries)

abbrev unknown_after : List Entry → History
unknown_after entries = history_of (protocol builtin) false false (reverse entries)

abbrev hk : ℕ → Key
hk id = key_of Housekeeping id

abbrev plain : ℕ → ℕ → Definition
plain param n = record { interval = n; simple = param ∷ []; arrays = [] }

abbrev two_every : ℕ → Definition
two_every n = record { interval = n; simple = 1 ∷ []; arrays = record { repetition = 4; params = 3 ∷ [] } ∷ [] }

-- a report of a structure that the board has from its start
report_at_start : verdict builtin (known_after (got report_one ∷ [])) (hk 1) 16385 (0 ∷ 42 ∷ []) ≡ Decided (plain 1 4)
report_at_start = refl

-- the change was completed before the report
change_completed : verdict builtin (known_after (sent change_two ∷ got report_two ∷ got completed_two ∷ [])) (hk 2) 32770 (0 ∷ 1 ∷ 10 ∷ 11 ∷ 12 ∷ 13 ∷ []) ≡ Decided (two_every 4)
change_completed = refl

-- nothing is known of the change
change_open : verdict builtin (known_after (sent change_two ∷ got report_two ∷ [])) (hk 2) 32770 (0 ∷ 1 ∷ 10 ∷ 11 ∷ 12 ∷ 13 ∷ []) ≡ Undecidable 0
change_open = refl

-- a later report was kept before the change was sent
change_later : verdict builtin (known_after (got report_one_much_later ∷ sent change_two ∷ got report_two ∷ [])) (hk 2) 32770 (0 ∷ 1 ∷ 10 ∷ 11 ∷ 12 ∷ 13 ∷ []) ≡ Decided (two_every 8)
change_later = refl

-- a structure report decides what comes after it
abbrev shown : History
shown = known_after (sent change_two ∷ got report_two ∷ sent show_two ∷ got started_show ∷ got structure_two ∷ got report_two_later ∷ [])

before_structure : verdict builtin shown (hk 2) 32770 (0 ∷ 1 ∷ 10 ∷ 11 ∷ 12 ∷ 13 ∷ []) ≡ Undecidable 0
before_structure = refl

after_structure : verdict builtin shown (hk 2) 65538 (0 ∷ 2 ∷ 20 ∷ 21 ∷ 22 ∷ 23 ∷ []) ≡ Decided (two_every 4)
after_structure = refl

-- a refused append
append_refused : verdict builtin (known_after (sent append_one ∷ got refused_one ∷ got report_one_later ∷ [])) (hk 1) 32769 (0 ∷ 7 ∷ []) ≡ Decided (plain 1 4)
append_refused = refl

-- a packet that comes again, and another packet with its tag
comes_again : got_kind (protocol builtin) (known_after (got report_one ∷ [])) report_one ≡ Repeat 16385
comes_again = refl

other_with_tag : got_kind (protocol builtin) (known_after (got report_one ∷ [])) report_one_other ≡ Conflict 16385
other_with_tag = refl

-- with unknown start a structure report opens
abbrev opened : History
opened = unknown_after (got report_one ∷ got structure_one ∷ got report_one_later ∷ [])

before_opening : verdict builtin opened (hk 1) 16385 (0 ∷ 42 ∷ []) ≡ NoOpening
before_opening = refl

after_opening : verdict builtin opened (hk 1) 32769 (0 ∷ 7 ∷ []) ≡ Decided (plain 1 4)
after_opening = refl

-- a request that may have come before or after the structure report
maybe_between : verdict builtin (unknown_after (got report_one ∷ sent change_one ∷ got structure_one ∷ got report_one_later ∷ [])) (hk 1) 32769 (0 ∷ 7 ∷ []) ≡ Undecidable 0
maybe_between = refl

-- packets that are no evidence
of_other_process : got_kind (protocol builtin) (known_after []) other_process ≡ Foreign 101
of_other_process = refl

is_no_packet : got_kind (protocol builtin) (known_after []) no_packet ≡ Unread
is_no_packet = refl

on_no_request : got_kind (protocol builtin) (known_after []) accepted_five ≡ Stray 0x1864c005
on_no_request = refl

of_unknown_type : got_kind (protocol builtin) (known_after []) unknown_type ≡ Skipped 17 2
of_unknown_type = refl

-- housekeeping 3 is to have the interval 4, and then an array that the interval 2 doesn't allow; a later request is known to have begun
abbrev slower_three : List ℕ
slower_three = 24 ∷ 100 ∷ 192 ∷ 0 ∷ 0 ∷ 8 ∷ 47 ∷ 3 ∷ 31 ∷ 0 ∷ 1 ∷ 1 ∷ 3 ∷ 0 ∷ 4 ∷ []

abbrev append_three : List ℕ
append_three = 24 ∷ 100 ∷ 192 ∷ 1 ∷ 0 ∷ 11 ∷ 47 ∷ 3 ∷ 29 ∷ 0 ∷ 1 ∷ 3 ∷ 0 ∷ 1 ∷ 4 ∷ 1 ∷ 0 ∷ 10 ∷ []

abbrev enable_one : List ℕ
enable_one = 24 ∷ 100 ∷ 192 ∷ 2 ∷ 0 ∷ 6 ∷ 47 ∷ 3 ∷ 5 ∷ 0 ∷ 1 ∷ 1 ∷ 1 ∷ []

abbrev append_accepted : List ℕ
append_accepted = 8 ∷ 100 ∷ 192 ∷ 0 ∷ 0 ∷ 16 ∷ 32 ∷ 1 ∷ 1 ∷ 0 ∷ 0 ∷ 0 ∷ 1 ∷ 0 ∷ 0 ∷ 0 ∷ 0 ∷ 80 ∷ 2 ∷ 24 ∷ 100 ∷ 192 ∷ 1 ∷ []

abbrev append_not_started : List ℕ
append_not_started = 8 ∷ 100 ∷ 192 ∷ 0 ∷ 0 ∷ 22 ∷ 32 ∷ 1 ∷ 4 ∷ 0 ∷ 0 ∷ 0 ∷ 1 ∷ 0 ∷ 0 ∷ 0 ∷ 0 ∷ 80 ∷ 3 ∷ 24 ∷ 100 ∷ 192 ∷ 1 ∷ 0 ∷ 105 ∷ 0 ∷ 4 ∷ 0 ∷ 2 ∷ []

abbrev enable_started : List ℕ
enable_started = 8 ∷ 100 ∷ 192 ∷ 0 ∷ 0 ∷ 16 ∷ 32 ∷ 1 ∷ 3 ∷ 0 ∷ 0 ∷ 0 ∷ 1 ∷ 0 ∷ 0 ∷ 0 ∷ 0 ∷ 80 ∷ 5 ∷ 24 ∷ 100 ∷ 192 ∷ 2 ∷ []

abbrev report_three : List ℕ
report_three = 8 ∷ 100 ∷ 192 ∷ 0 ∷ 0 ∷ 17 ∷ 32 ∷ 3 ∷ 25 ∷ 0 ∷ 0 ∷ 0 ∷ 1 ∷ 0 ∷ 0 ∷ 0 ∷ 0 ∷ 128 ∷ 3 ∷ 3 ∷ 0 ∷ 0 ∷ 0 ∷ 9 ∷ []

abbrev until_report : List Entry
until_report = sent slower_three ∷ sent append_three ∷ sent enable_one ∷ got append_accepted ∷ got enable_started ∷ got report_three ∷ []

-- the append surely came before the report: had the interval been set, it would have been done, and the payload be longer
decided_by_certainty : verdict builtin (known_after until_report) (hk 3) 32771 (0 ∷ 0 ∷ 0 ∷ 9 ∷ []) ≡ Decided (plain 6 2)
decided_by_certainty = refl

-- when the append turns out not to have been started, that certainty is lost
certainty_lost : verdict builtin (known_after (until_report ++ got append_not_started ∷ [])) (hk 3) 32771 (0 ∷ 0 ∷ 0 ∷ 9 ∷ []) ≡ Undecidable 0
certainty_lost = refl
