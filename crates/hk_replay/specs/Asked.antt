-- A command without where its words lie in memory.
use Rattle.hk_replay.specs.Words as words
use Rattle.hk_replay.specs.declared.words.Command.{Command}
use Rattle.hk_replay.specs.declared.words.Command.TheVariants.{Make, OnRecord}
use Rattle.hk_replay.specs.declared.words.Job.{Job}
use Rattle.hk_replay.specs.declared.words.Job.TheVariants.{Encode, Check, Trim, Generate}
use Rattle.hk_replay.specs.declared.words.RecordCommand.{RecordCommand}
use Rattle.hk_replay.specs.declared.words.RecordCommand.TheVariants.{Replay, Follow, Show}
use Rattle.program_edge.specs.Names.{named}

-- what is made of the inputs
abbrev pub asked_job : Job → words.Command
asked_job (Encode tailoring name) = words.encode (named tailoring) name.now
asked_job (Check tailoring) = words.check (named tailoring)
asked_job (Trim name) = words.trim name.now
asked_job (Generate seed rounds) = words.generate seed rounds.count

-- what is done with a record
abbrev pub asked_of_record : RecordCommand → words.RecordCommand
asked_of_record Replay = words.replay
asked_of_record Follow = words.follow
asked_of_record Show = words.show

-- what a run is asked to do
abbrev pub asked : Command → words.Command
asked (Make job) = asked_job job
asked (OnRecord command tailoring name) = words.on_record (asked_of_record command) (named tailoring) name.now
