-- Whether what is looked for is found at a place.
use Rattle.std.specs.Prelude.{ℕ, Bool, true, false, not, ◌==◌, ◌&&◌, ◌||◌, List, [], ◌∷◌, length}
use Rattle.std.specs.List.{list_all, list_any}
use Rattle.dm_link.specs.declared.Pid.{Pid}
use Rattle.dm_onekernel.specs.declared.boot.Boot.{Boot}
use Rattle.dm_line.specs.declared.line.Line.{Line as TheLine}
use Rattle.dm_line.specs.Each.{all_below}
use Rattle.dm_text.specs.Text.{text}
use Rattle.dm_explore.specs.Asked.{Question, Line, Stuck}
use Rattle.dm_explore.specs.Past.{Did, groups_of, last_lines, sent, was_delivered}
use Rattle.dm_explore.specs.declared.past.Put.{Put}
use Rattle.dm_explore.specs.Places.{Place, sight}
use Rattle.dm_explore.specs.Sights.{Sight, any_below}

-- a text begins with these words, whole words: behind them a blank stands, or the line ends
abbrev pub begins_with : List ℕ → List ℕ → Bool
begins_with [] words = false
begins_with (c ∷ cs) [] = (c == 32) || (c == 10)
begins_with (c ∷ cs) (w ∷ ws) = (c == w) && begins_with cs ws

-- one of these lines does
abbrev pub some_begins : List ℕ → List TheLine → Bool
some_begins words ls = list_any (λ l. begins_with (text l) words) ls

-- each packet that carries a message was delivered
abbrev pub came : List Did → Put → Bool
came ds p = p.acks || was_delivered ds p.from p.to p.k

abbrev pub waits_from : ℕ → Sight → ℕ → Bool
waits_from n s m = any_below n (λ c. not (m == c) && s.waits m c)

-- all is at rest: each turn would be idle, each packet with a message was delivered, and no message waits for an acknowledgement
abbrev pub rests : ℕ → Sight → List Did → Bool
rests n s ds = not (any_below n s.acts) && not (any_below n (waits_from n s)) && list_all (came ds) (sent ds)

-- and one of these processes waits or moves data
abbrev pub is_stuck : ℕ → Sight → List Did → List Pid → Bool
is_stuck n s ds ps = rests n s ds && list_any s.lingers ps

-- a line: in the last group; a process: at the place
abbrev pub finds_in : ℕ → Sight → Question → List TheLine → List Did → Bool
finds_in n s (Line words) last ds = some_begins words last
finds_in n s (Stuck pids) last ds = is_stuck n s ds pids

abbrev pub finds : Boot → Question → Place → Bool
finds b x p = finds_in (length b.machines) (sight b p) x (last_lines p.done) p.done

-- the same of a list of directives, of which any may print the line
abbrev pub shows : Boot → Question → Place → Bool
shows b (Line words) p = list_any (λ (d : Did). some_begins words d.lines) p.done
shows b (Stuck pids) p = is_stuck (length b.machines) (sight b p) p.done pids
