-- The messages that wait somewhere, by what the machines have.
use Rattle.std.specs.Prelude.{◌≡◌, ℕ, ◌+◌, ◌==◌, if◌then◌else◌, List, [], ◌++◌, filter_map, IsPermutation, IsSortedByKey}
use Rattle.std.specs.declared.option.Option.{Option}
use Rattle.std.specs.declared.option.Option.TheVariants.{None, Some}
use Rattle.dm_link.specs.Names.{pid_of}
use Rattle.dm_message.specs.declared.Message.{Message}
use Rattle.dm_records.specs.declared.record.Record.TheVariants.{Here, Frozen, Incoming, Forward}
use Rattle.dm_onekernel.specs.Boot.{first_number, manager, switchboard}
use Rattle.dm_line.specs.Each.{joined_below}
use Rattle.dm_kernel.specs.State.{KernelKnown}
use Rattle.dm_resident.specs.Residents.{queue_of}
use Rattle.dm_world.specs.Ends.{untaken}
use Rattle.dm_world.specs.World.{WorldState}
use Rattle.dm_look.specs.Letters.{Letter, id_cmp, letter_of}

-- what a machine has for a process or a server: what waits for it, and what is held back until it has moved
abbrev pub kept_for : Option KernelKnown → List Message
kept_for None = []
kept_for (Some (Here r)) = queue_of r
kept_for (Some (Frozen leaving)) = queue_of leaving.resident ++ leaving.held
kept_for (Some (Incoming arriving)) = arriving.held
kept_for (Some (Forward machine moves)) = []

-- for the servers
abbrev pub kept_of_servers : WorldState → ℕ → List Message
kept_of_servers w m = kept_for ((w.nodes m).kernel.records switchboard) ++ kept_for ((w.nodes m).kernel.records manager)

-- for each process that a machine made
abbrev pub kept_of_home : WorldState → ℕ → ℕ → List Message
kept_of_home w m home = joined_below (λ n. kept_for ((w.nodes m).kernel.records (pid_of home (first_number + n)))) (w.nodes home).kernel.made

abbrev pub kept_at : ℕ → WorldState → ℕ → List Message
kept_at machines w m = kept_of_servers w m ++ joined_below (λ home. kept_of_home w m home) machines

-- what a machine gave to a stream, and was not taken yet
abbrev pub given_on : WorldState → ℕ → ℕ → List Message
given_on w a c = if a == c then [] else untaken w a c

abbrev pub given_by : ℕ → WorldState → ℕ → List Message
given_by machines w a = joined_below (λ c. given_on w a c) machines

abbrev pub waiting_at : ℕ → WorldState → ℕ → List Message
waiting_at machines w m = kept_at machines w m ++ (w.nodes m).kernel.inbox ++ given_by machines w m

-- all messages that wait: for processes and servers, in inboxes, between machines
unfoldable pub waiting : ℕ → WorldState → List Message
waiting machines w = joined_below (λ m. waiting_at machines w m) machines

-- the same messages, by their names
pub record AreInOrder (found sorted : List Message) : Type 0 where
  pub moved : IsPermutation found sorted
  pub ordered : IsSortedByKey (λ (m : Message). m.id) id_cmp sorted

-- these letters are what is in these messages, by their names
pub record AreLetters (found : List Message) (letters : List Letter) : Type 0 where
  pub sorted : List Message
  pub in_order : AreInOrder found sorted
  pub are : letters ≡ filter_map letter_of sorted
