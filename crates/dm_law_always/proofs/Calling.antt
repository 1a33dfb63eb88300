-- What a call of a process comes to, row by row: whatever holds of each row holds of the call.
use Rattle.dm_law_always.proofs.Names.{◌≡◌, ℕ, ◌+◌, ◌==◌, ◌||◌, Bool, false, List, [], ◌∷◌, refl, nat_lt, if◌then◌else◌, Option, None, Some, Pid, PlainLink, first_empty, link_at, direction_numbered, Direction, Reply, Why, PlainProcess}
use Rattle.dm_law_always.proofs.Names.{Waiting, reg, first_failed, Called, Sends, Waits, CallNumber, Check, arith}
use Rattle.dm_onekernel.specs.Pieces as pieces
use Rattle.dm_onekernel.specs.Calls as calls

-- it is refused, or does what it is for: with a link of its own, or with the one in the slot that register 1 names
pub record Does (P : Called → Type 0) (p : Pid) (x : PlainProcess) : Type 0 where
  pub refuses : (c : Reply) → P (calls.refused c x)
  pub outputs : P (calls.output_call x)
  pub makes : (slot : ℕ) → calls.is_outside x (reg x.regs 4) (reg x.regs 5) ≡ false → P (calls.puts_link x (calls.own_link p x) (Some slot))
  pub copies : (l : PlainLink) (slot : ℕ) → link_at x.links (reg x.regs 1) ≡ Some l → P (calls.puts_link x l (Some slot))
  pub drops : (l : PlainLink) → P (calls.drop_call x (Some l))
  pub sends : (l : PlainLink) → link_at x.links (reg x.regs 1) ≡ Some l → nat_lt 4 (reg x.regs 4) ≡ false → P (Sends (calls.message_over p x l) (calls.after_send x))
  pub waits : P (Waits (record x { status = Waiting (reg x.regs 1) (reg x.regs 2) (reg x.regs 3) }))
  pub moves : (l : PlainLink) (dir : Direction) → link_at x.links (reg x.regs 1) ≡ Some l → calls.lacks_right dir l.area ≡ false → nat_lt l.area.len (reg x.regs 3 + reg x.regs 5) ≡ false → calls.is_outside x (reg x.regs 4) (reg x.regs 5) ≡ false
      → P (calls.begins_move (pieces.requests p x dir l.to (l.area.base + reg x.regs 3) (reg x.regs 4) (reg x.regs 5)))
  pub ends : (y : Why) → P (Called.Ends y)

-- a test, and refusals one after the other
by_test : (P : Called → Type 0) (c : Bool) (d e : Called) → P d → P e → P (if c then d else e)
by_test P c d e h1 h2 = search arith

by_refusals : (P : Called → Type 0) (x : PlainProcess) (o : Option Reply) (d : Called) → ((c : Reply) → P (calls.refused c x)) → (o ≡ None → P d) → P (calls.unless_refused o x d)
by_refusals P x o d h1 h2 = search arith

abbrev first_fails : List Check → Bool
first_fails [] = false
first_fails (c ∷ cs) = c.fails

abbrev others : List Check → List Check
others [] = []
others (c ∷ cs) = cs

none_failed : (cs : List Check) → first_failed cs ≡ None → (first_fails cs ≡ false) × (first_failed (others cs) ≡ None)
none_failed cs h1 = search arith

pub neither : (c d : Bool) → (c || d) ≡ false → (c ≡ false) × (d ≡ false)
neither c d h1 = search arith

by_slot : (P : Called → Type 0) (x : PlainProcess) (l : PlainLink) (o : Option ℕ) → ((c : Reply) → P (calls.refused c x)) → ((slot : ℕ) → P (calls.puts_link x l (Some slot))) → P (calls.puts_link x l o)
by_slot P x l None h k = h Reply.TableFull
by_slot P x l (Some slot) h k = k slot

by_copies : (P : Called → Type 0) (p : Pid) (x : PlainProcess) (o : Option PlainLink) → link_at x.links (reg x.regs 1) ≡ o → Does P p x → P (calls.copies x o)
by_copies P p x None is h = h.refuses Reply.NoLink
by_copies P p x (Some l) is h = by_test P (calls.is_reply l.kind) (calls.refused Reply.NotCopyable x) (calls.puts_link x l (first_empty x.links)) (h.refuses Reply.NotCopyable) (by_slot P x l (first_empty x.links) h.refuses (λ slot. h.copies l slot is))

by_drops : (P : Called → Type 0) (p : Pid) (x : PlainProcess) (o : Option PlainLink) → Does P p x → P (calls.drop_call x o)
by_drops P p x None h = h.refuses Reply.NoLink
by_drops P p x (Some l) h = h.drops l

by_sends : (P : Called → Type 0) (p : Pid) (x : PlainProcess) (o : Option PlainLink) → link_at x.links (reg x.regs 1) ≡ o → Does P p x → P (calls.send_call p x o)
by_sends P p x None is h = h.refuses Reply.NoLink
by_sends P p x (Some l) is h = by_refusals P x (first_failed (calls.send_refusals x)) (Sends (calls.message_over p x l) (calls.after_send x)) h.refuses (λ e.
    h.sends l is (neither (nat_lt (calls.most_body x) (reg x.regs 3)) (nat_lt 4 (reg x.regs 4)) (none_failed (calls.send_refusals x) e).0).1)

by_moves : (P : Called → Type 0) (p : Pid) (x : PlainProcess) (l : PlainLink) (o : Option Direction) → link_at x.links (reg x.regs 1) ≡ Some l → Does P p x → P (calls.moves_over p x l o)
by_moves P p x l None is h = h.refuses Reply.BadKind
by_moves P p x l (Some dir) is h = by_refusals P x (first_failed (calls.move_refusals x l dir)) (calls.moves_bytes p x l dir) h.refuses (λ e.
    let first = none_failed (calls.move_refusals x l dir) e in
    let both = neither (nat_lt l.area.len (reg x.regs 3 + reg x.regs 5)) (calls.is_outside x (reg x.regs 4) (reg x.regs 5)) (none_failed (others (calls.move_refusals x l dir)) first.1).0 in
    by_test P (reg x.regs 5 == 0) (calls.refused Reply.Done x) (calls.begins_move (pieces.requests p x dir l.to (l.area.base + reg x.regs 3) (reg x.regs 4) (reg x.regs 5))) (h.refuses Reply.Done) (h.moves l dir is first.0 both.0 both.1))

by_link : (P : Called → Type 0) (p : Pid) (x : PlainProcess) (o : Option PlainLink) → link_at x.links (reg x.regs 1) ≡ o → Does P p x → P (calls.move_call p x o)
by_link P p x None is h = h.refuses Reply.NoLink
by_link P p x (Some l) is h = by_moves P p x l (direction_numbered (reg x.regs 2)) is h

by_number : (P : Called → Type 0) (p : Pid) (x : PlainProcess) (n : CallNumber) → Does P p x → P (calls.does_call p x n)
by_number P p x calls.Exit h = h.ends Why.Exit
by_number P p x calls.Out h = h.outputs
by_number P p x calls.Make h = by_refusals P x (first_failed (calls.make_refusals x)) (calls.puts_link x (calls.own_link p x) (first_empty x.links)) h.refuses (λ e.
    let first = none_failed (calls.make_refusals x) e in
    let within = neither (nat_lt 31 (reg x.regs 2)) (calls.is_outside x (reg x.regs 4) (reg x.regs 5)) (none_failed (others (calls.make_refusals x)) first.1).0 in
    by_slot P x (calls.own_link p x) (first_empty x.links) h.refuses (λ slot. h.makes slot within.1))
by_number P p x calls.Copy h = by_copies P p x (link_at x.links (reg x.regs 1)) refl h
by_number P p x calls.Drop h = by_drops P p x (link_at x.links (reg x.regs 1)) h
by_number P p x calls.Send h = by_sends P p x (link_at x.links (reg x.regs 1)) refl h
by_number P p x calls.Receive h = by_test P (calls.is_outside x (reg x.regs 2) (reg x.regs 3)) (calls.refused Reply.BadRange x) (Waits (record x { status = Waiting (reg x.regs 1) (reg x.regs 2) (reg x.regs 3) })) (h.refuses Reply.BadRange) h.waits
by_number P p x calls.Move h = by_link P p x (link_at x.links (reg x.regs 1)) refl h
by_number P p x calls.Unknown h = h.ends Why.UnknownCall

pub by_call : (P : Called → Type 0) (p : Pid) (x : PlainProcess) (n : ℕ) → Does P p x → P (calls.call p x n)
by_call P p x n h = by_number P p x (calls.call_number n) h
