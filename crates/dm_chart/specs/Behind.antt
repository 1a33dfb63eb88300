-- What other lines tell of a message.
use Rattle.std.specs.Prelude.{ℕ, ◌==◌, ◌&&◌, Bool, true, false, if◌then◌else◌, List, [], ◌∷◌, count_by}
use Rattle.std.specs.List.{list_any, flat_map}
use Rattle.std.specs.declared.option.Option.{Option}
use Rattle.std.specs.declared.option.Option.TheVariants.{None, Some}
use Rattle.dm_link.specs.declared.Pid.{Pid}
use Rattle.dm_link.specs.Names.{pid_eq}
use Rattle.dm_message.specs.declared.MsgId.{MsgId}
use Rattle.dm_message.specs.declared.kind.MessageKind.{MessageKind}
use Rattle.dm_message.specs.declared.kind.MessageKind.TheVariants as kind
use Rattle.dm_message.specs.Ids.{id_eq}
use Rattle.dm_line.specs.declared.line.Line.{Line}
use Rattle.dm_chart.specs.declared.role.Letter.{Letter}
use Rattle.dm_chart.specs.declared.role.Life.{Life}
use Rattle.dm_chart.specs.declared.role.Life.TheVariants as life
use Rattle.dm_chart.specs.declared.role.Role.{Role}
use Rattle.dm_chart.specs.declared.role.Role.TheVariants as role
use Rattle.dm_chart.specs.declared.scan.News.{News}
use Rattle.dm_chart.specs.Roles.{role_of}

abbrev pub message_is_among : MsgId → List MsgId → Bool
message_is_among i ids = list_any (λ j. id_eq j i) ids

-- a put of this message
abbrev pub puts_it : MsgId → Role → Bool
puts_it i (role.Put x) = id_eq x.id i
puts_it i (role.Head e) = false
puts_it i (role.Packet a b k n) = false
puts_it i (role.Taken a b n) = false
puts_it i (role.Early a b n) = false
puts_it i (role.Again a b n) = false
puts_it i (role.Note l) = false
puts_it i role.Unseen = false

abbrev pub puts_id : MsgId → Line → Bool
puts_id i l = puts_it i (role_of l)

-- one of these lines put it: where it is put again, it goes on
abbrev pub was_put : MsgId → List Line → Bool
was_put i ls = list_any (puts_id i) ls

-- a put from one machine to another
abbrev pub puts_there : ℕ → ℕ → Role → Bool
puts_there a b (role.Put x) = (x.from == a) && (x.to == b)
puts_there a b (role.Head e) = false
puts_there a b (role.Packet c d k n) = false
puts_there a b (role.Taken c d n) = false
puts_there a b (role.Early c d n) = false
puts_there a b (role.Again c d n) = false
puts_there a b (role.Note l) = false
puts_there a b role.Unseen = false

abbrev pub puts_between : ℕ → ℕ → Line → Bool
puts_between a b l = puts_there a b (role_of l)

-- how many of these lines are such puts: the number of the next one on the stream
abbrev pub number_among : ℕ → ℕ → List Line → ℕ
number_among a b ls = count_by (puts_between a b) ls

-- a message that kills this process
abbrev pub kill_with : Pid → MsgId → MessageKind → Pid → List MsgId
kill_with p i kind.Kill q = if pid_eq q p then i ∷ [] else []
kill_with p i kind.User q = []
kill_with p i kind.Stop q = []
kill_with p i kind.Resume q = []
kill_with p i kind.Read q = []
kill_with p i kind.Write q = []
kill_with p i kind.Block q = []
kill_with p i kind.Written q = []
kill_with p i kind.Gone q = []
kill_with p i kind.Create q = []
kill_with p i kind.Created q = []
kill_with p i kind.NoRoom q = []
kill_with p i kind.Migrate q = []
kill_with p i kind.Update q = []
kill_with p i kind.Ask q = []
kill_with p i kind.Refuse q = []
kill_with p i kind.PullState q = []
kill_with p i kind.State q = []
kill_with p i kind.PullBlock q = []
kill_with p i kind.Memory q = []
kill_with p i kind.AllTaken q = []
kill_with p i kind.Restart q = []
kill_with p i kind.Move q = []
kill_with p i kind.Moved q = []
kill_with p i kind.CallOff q = []
kill_with p i kind.Bury q = []

abbrev pub kill_in : Pid → Role → List MsgId
kill_in p (role.Put x) = kill_with p x.id x.kind x.receiver
kill_in p (role.Head e) = []
kill_in p (role.Packet a b k n) = []
kill_in p (role.Taken a b n) = []
kill_in p (role.Early a b n) = []
kill_in p (role.Again a b n) = []
kill_in p (role.Note l) = []
kill_in p role.Unseen = []

-- the messages of these lines that kill it
abbrev pub kills_of : Pid → List Line → List MsgId
kills_of p ls = flat_map (λ l. kill_in p (role_of l)) ls

-- whether a process waits, with one more line
abbrev pub waits_with : Pid → Bool → Life → Bool
waits_with p waits (life.Waits q) = if pid_eq q p then true else waits
waits_with p waits (life.Wakes q) = if pid_eq q p then false else waits
waits_with p waits life.Same = waits
waits_with p waits (life.Made q) = waits
waits_with p waits (life.From q) = waits
waits_with p waits (life.Ends q) = waits
waits_with p waits (life.Leaves q) = waits
waits_with p waits (life.Served i) = waits

abbrev pub waits_on : Pid → Bool → Role → Bool
waits_on p waits (role.Note l) = waits_with p waits l
waits_on p waits (role.Head e) = waits
waits_on p waits (role.Put x) = waits
waits_on p waits (role.Packet a b k n) = waits
waits_on p waits (role.Taken a b n) = waits
waits_on p waits (role.Early a b n) = waits
waits_on p waits (role.Again a b n) = waits
waits_on p waits role.Unseen = waits

abbrev pub waits_behind : Pid → Bool → List Line → Bool
waits_behind p waits [] = waits
waits_behind p waits (l ∷ ls) = waits_behind p (waits_on p waits (role_of l)) ls

-- the last message that was put, with one more line
abbrev pub letter_last : Option Letter → Role → Option Letter
letter_last last (role.Put x) = Some x
letter_last last (role.Head e) = last
letter_last last (role.Packet a b k n) = last
letter_last last (role.Taken a b n) = last
letter_last last (role.Early a b n) = last
letter_last last (role.Again a b n) = last
letter_last last (role.Note l) = last
letter_last last role.Unseen = last

-- of a message that tells where a process is: whom it tells, and by the message put before it, which is the one that was forwarded,
-- of which process, and to which machine that has gone
abbrev pub news_behind : Letter → Option Letter → Option News
news_behind x None = None
news_behind x (Some y) = Some (record { whom = x.receiver; of = y.receiver; at = y.to })

abbrev pub news_here : Role → Option Letter → Option News
news_here (role.Put x) last = news_behind x last
news_here (role.Head e) last = None
news_here (role.Packet a b k n) last = None
news_here (role.Taken a b n) last = None
news_here (role.Early a b n) last = None
news_here (role.Again a b n) last = None
news_here (role.Note l) last = None
news_here role.Unseen last = None

-- where these lines put it first, behind what was put last
unfoldable pub news_from : MsgId → Option Letter → List Line → Option News
news_from i last [] = None
news_from i last (l ∷ ls) = if puts_it i (role_of l) then news_here (role_of l) last else news_from i (letter_last last (role_of l)) ls

abbrev pub news_of : MsgId → List Line → Option News
news_of i ls = news_from i None ls
