-- What is in the messages that the kernel without machines holds, with the addresses of the links that they enclose.
use Rattle.std.specs.Prelude.{◌≡◌, ℕ, List, [], find, map, option_map}
use Rattle.std.specs.List.{enumerate_from}
use Rattle.std.specs.List.Sorted.{IsStrictlySortedBy}
use Rattle.std.specs.declared.option.Option.{Option}
use Rattle.dm_link.specs.declared.Link.{Link}
use Rattle.dm_link.specs.Plain.{PlainLink}
use Rattle.dm_message.specs.declared.MsgId.{MsgId}
use Rattle.dm_message.specs.Ids.{id_eq}
use Rattle.dm_message.specs.Plain as plain
use Rattle.dm_message.specs.Plain.{PlainWhat}
use Rattle.dm_law_rule.specs.Addresses.{Addresses, Enclosed}
use Rattle.dm_law_rule.specs.Ends.{leading}
use Rattle.dm_law_rule.specs.Point.{Point}
use Rattle.dm_look.specs.Letters.{Letter, id_cmp}

-- the links that a message encloses; messages of other kinds have none
abbrev pub plain_links : PlainWhat → List PlainLink
plain_links (plain.User code channel body links) = links
plain_links (plain.Create image links) = links
plain_links w = []

-- each with its address in the message, from a place on
abbrev pub enclosed_links : Addresses → MsgId → ℕ → List PlainLink → List Link
enclosed_links a id place ls = map (λ e. leading e.1 (a (Enclosed id e.0))) (enumerate_from place ls)

-- what is in the message of this name, if the kernel holds it
abbrev pub letter_at : Point → MsgId → Option Letter
letter_at pt id = option_map (λ m. record { id = id; receiver = m.to; what = m.what; links = enclosed_links pt.addresses id 0 (plain_links m.what) }) (pt.kernel.bag id)

-- these letters are of all messages that the kernel holds, of each once, by their names
pub record HoldsLetters (pt : Point) (letters : List Letter) : Type 0 where
  pub ascending : IsStrictlySortedBy id_cmp (map (λ (l : Letter). l.id) letters)
  pub each : (id : MsgId) → find (λ (l : Letter). id_eq id l.id) letters ≡ letter_at pt id
